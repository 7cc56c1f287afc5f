-- What the import's proofs share.
pub mod Next
