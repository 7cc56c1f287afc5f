-- Demands 1, 2 and 3 of the definitions: read Words, then Refusals (demand 1) and Demands; Listing for request 1,
-- Carrying for request 13, Round for request 2, Patrol for request 4, Named for request 5, Live for request 7, Opened,
-- OpenedCalls, Often and Safe for request 8, Reached for request 11, Inserts and Many for request 10. The other files
-- are their proofs.
pub mod Words
pub mod Maps
pub mod Bridges
pub mod Tests
pub mod Calls
pub mod Refusals
pub mod Findings
pub mod Disorder
pub mod Named
pub mod Proofs
pub mod Demands
pub mod Builds
pub mod Between
pub mod Looked
pub mod Listing
pub mod Stored
pub mod Sums
pub mod Carrying
pub mod Round
pub mod Stays
pub mod Live
pub mod Opened
pub mod OpenedCalls
pub mod Often
pub mod Safe
pub mod Reached
pub mod Inserts
pub mod Filling
pub mod Patrol
