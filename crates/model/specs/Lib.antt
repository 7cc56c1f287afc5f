-- Document 01 as definitions, in its order: Bytes to Calls, then request 1 of document 02, Listing, Legal, a word of
-- demand 3, and Plain, request 12. These a reader must believe; Halving, Cases and Examples are theorems about them.
pub mod Bytes
pub mod Codes
pub mod Count
pub mod Image
pub mod Tree
pub mod Rules
pub mod Next
pub mod Page
pub mod Stores
pub mod Edit
pub mod Collect
pub mod Update
pub mod Calls
pub mod Listing
pub mod Legal
pub mod Plain
pub mod Halving
pub mod Cases
pub mod Examples
