pub mod Fetches
pub mod Tables
