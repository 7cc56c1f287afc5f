-- The table of live pages: what the walk writes, and what the table then says.
pub mod Table
pub mod Lows
pub mod Walking
pub mod Stops
