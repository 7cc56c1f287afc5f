-- The patrol of one half in code: that it is the one of the definition.
pub mod Patrols
pub mod Calls
