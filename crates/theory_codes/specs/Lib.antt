-- Request 4: what the patrol puts right, and that a code that was written fits.
pub mod Xor
pub mod Below
pub mod Flips
pub mod Told
pub mod Repairs
pub mod Written
