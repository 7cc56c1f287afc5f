-- The survey of an image, and the laws of the pass that makes it.
pub mod Survey
pub mod Pass
