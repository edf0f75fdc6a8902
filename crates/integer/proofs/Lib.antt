pub mod Laws
pub mod Ones
