-- An answer's numbers, and that no second answer fits an outcome.
pub mod Answers
