-- The tally of a replayed log (request 3).
pub mod Counted
