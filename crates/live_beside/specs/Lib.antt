-- What an update keeps beside the image while it collects, so that no tree is walked again for a page: definitions that
-- the code equals on every image. On a sound image they give what document 01 says: demands/specs/Live.antt.
pub mod Table
pub mod Marks
pub mod Rights
pub mod Beside
pub mod Collect
pub mod Update
pub mod Calls
