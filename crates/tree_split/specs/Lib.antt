-- One step of an update's way up, and its laws.
pub mod Step
pub mod StepUp
