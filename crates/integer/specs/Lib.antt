pub mod Places
pub mod Relations
pub mod Words
