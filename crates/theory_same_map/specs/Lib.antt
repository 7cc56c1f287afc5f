-- Request 12: "while both accept, both hold the same map". Read Words, then Same; the other files are the proofs.
pub mod Words
pub mod Fitting
pub mod Numbers
pub mod Blank
pub mod Runs
