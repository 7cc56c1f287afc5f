-- The pages to come, and their laws.
pub mod Coming
pub mod PagesToCome
