-- Laws of the self-test, from its checks and from promise 3.
pub mod Looping
