-- From the C calls to what is proved of them, with nothing in between: read Left, then Calls for the demands, Listing
-- for request 1, Carrying for request 13, Many for request 10, Patrol for request 4, Words for request 7, and Record
-- and Opened for request 8.
pub mod Left
pub mod Listing
pub mod Carrying
pub mod Many
pub mod Patrol
pub mod Words
pub mod Record
pub mod Opened
