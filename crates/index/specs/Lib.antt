-- Laws by which the calls on a geometry by its number are proved.
pub mod ByNumber
pub mod Opened
