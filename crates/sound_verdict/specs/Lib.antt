-- The verdict rule by rule.
pub mod Verdict
pub mod SpareRoom
pub mod InOrder
