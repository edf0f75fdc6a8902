pub mod Fill
pub mod Distinct
pub mod PredicateWords
