pub mod Keccak
pub mod Sha3
