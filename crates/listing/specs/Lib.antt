pub mod Lister
pub mod Refusals
pub mod Text
