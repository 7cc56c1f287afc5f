-- Request 12's program: both trees on one log, and what is reported of it.
pub mod Ratio
pub mod Lowest
pub mod Scores
pub mod Scoring
pub mod Compare
