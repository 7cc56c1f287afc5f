-- R3: the ranges that show it at once, and the laws of the code.
pub mod Ranges
pub mod Apart
pub mod RuleThree
