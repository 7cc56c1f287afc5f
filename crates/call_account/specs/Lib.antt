-- The account of an update, and its laws.
pub mod Account
pub mod Accounting
pub mod Rest
pub mod Lent
pub mod Low
pub mod Opened
