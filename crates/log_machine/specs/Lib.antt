-- Request 3: the machine that is fed byte by byte, that its output is `replayed`, that the tally is the sums, and laws
-- for the code.
pub mod Machine
pub mod Tallied
pub mod Run
