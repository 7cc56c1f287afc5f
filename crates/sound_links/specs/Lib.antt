-- R6 by the table of live pages.
pub mod Loose
pub mod Judged
pub mod RuleSix
