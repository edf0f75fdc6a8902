pub mod Taking
pub mod Adding
