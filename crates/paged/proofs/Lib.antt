pub mod Accesses
pub mod Bytewise
pub mod Mapped
pub mod Places
