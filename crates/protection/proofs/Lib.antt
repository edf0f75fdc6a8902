pub mod Allowing
pub mod Under
