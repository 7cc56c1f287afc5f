-- Laws for one order of a log on the image.
pub mod SmallCalls
