pub mod Ageing
pub mod Entering
pub mod Held
pub mod Keeping
pub mod Placing
