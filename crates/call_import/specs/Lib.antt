-- The import of request 13, as the code does it, and its laws.
pub mod Importer
pub mod Imports
pub mod Whole
