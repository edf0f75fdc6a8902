pub mod Fields
pub mod Immediates
pub mod Parts
pub mod Places
pub mod Reading
