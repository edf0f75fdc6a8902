pub mod Floating
pub mod Long
pub mod Units
