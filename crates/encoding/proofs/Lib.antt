pub mod Joining
pub mod Parts
pub mod Shifts
pub mod Signs
