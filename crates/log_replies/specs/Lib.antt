-- Laws for the lines that answer a log.
pub mod Written
