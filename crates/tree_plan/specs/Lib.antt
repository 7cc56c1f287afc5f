-- What an update will need, and its laws.
pub mod Plan
pub mod Planning
