-- The geometry: its numbers, its tables, and the laws that hold of them.
pub mod Bounds
pub mod Tests
pub mod Table
pub mod Geometry
pub mod Findings
pub mod Shape
pub mod Answering
