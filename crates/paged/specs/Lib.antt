pub mod Hints
pub mod Kind
pub mod Mapping
pub mod Pages
