-- R1 and R2, in the form in which the code has the premises.
pub mod Codes
pub mod Formed
pub mod Blocks
pub mod RulesOneAndTwo
