-- What a C call leaves, and the laws by which the calls are proved.
pub mod Camera
pub mod Results
pub mod Opened
