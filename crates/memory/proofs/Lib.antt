pub mod Laid
pub mod Loads
pub mod Puts
pub mod Ranges
pub mod Stores
pub mod Top
pub mod Words
