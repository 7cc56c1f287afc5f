-- How many bytes of a log may still come, and laws for the code that feeds a part.
pub mod Left
pub mod Parts
