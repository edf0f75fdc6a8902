pub mod Fetching
pub mod Fields
pub mod Templates
