-- Laws of the marks and of the layouts.
pub mod Choice
pub mod Collection
pub mod Layouts
pub mod Roles
pub mod Made
