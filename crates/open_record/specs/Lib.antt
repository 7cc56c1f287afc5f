-- Request 8 of document 02, "Open once, call often": the record, when it is STALE, and the calls that read with it.
-- These a reader must believe.
pub mod Opened
