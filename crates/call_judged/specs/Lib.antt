-- LENGTH and DAMAGED before the rest of a call: laws that the calls share.
pub mod Judging
