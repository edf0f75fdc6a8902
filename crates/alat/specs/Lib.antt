pub mod Table
pub mod Rule
pub mod Bounds
pub mod Kinds
pub mod Places
pub mod Promises
