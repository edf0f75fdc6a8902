pub mod Access
pub mod Kinds
pub mod Meaning
pub mod Refusals
