-- An update with the record, and its laws.
pub mod Direct
pub mod With
