-- What a reader must believe: document 01, a module for each of its sections, in its order. docs/SOURCES.md introduces document 01.
-- Rows is the vocabulary; Coding and Decoding put the sections together; Promise3 says that the two belong together. Noise and
-- Searching are document 02's.
pub mod Rows
pub mod Numbers
pub mod Answer
pub mod Parity
pub mod Interleaver
pub mod Reliability
pub mod Construction
pub mod Codes
pub mod Layouts
pub mod Transform
pub mod RateMatching
pub mod Scrambling
pub mod SuccessiveDecoder
pub mod Noise
pub mod Coding
pub mod Decoding
pub mod Promise3
pub mod Loopback
pub mod Describing
pub mod Searching
