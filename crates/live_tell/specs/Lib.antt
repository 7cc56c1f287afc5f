-- The lent words by one walk: what it sets, and the laws of the code.
pub mod Telling
pub mod Counts
pub mod SettingBits
