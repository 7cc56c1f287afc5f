-- Request 12: the machine that is fed byte by byte, that its output is `compared`, and laws for the code.
pub mod Machine
pub mod Run
