-- Request 3, a day's log: the forms of its lines, what it is answered by, and laws for the code that reads a line.
pub mod Line
pub mod Forms
pub mod Replay
pub mod Short
pub mod Bytewise
pub mod FieldByField
pub mod Examples
