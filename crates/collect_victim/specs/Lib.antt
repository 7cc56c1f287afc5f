-- What collection looks at, and its laws.
pub mod Victim
pub mod Fewest
