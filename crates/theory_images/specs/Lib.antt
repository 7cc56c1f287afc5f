-- Theorems about images: a page built and read back, the two stores, the rules. Bytes end here.
pub mod Bytes
pub mod Codes
pub mod Views
pub mod Page
pub mod Built
pub mod Stores
pub mod Small
pub mod Held
pub mod Writes
pub mod Lengths
pub mod Few
