-- R5, in the form in which the code has the premises.
pub mod Programmed
pub mod Noted
pub mod RuleFive
pub mod Levels
pub mod Ahead
pub mod All
