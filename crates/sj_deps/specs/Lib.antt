pub mod Conflict
pub mod Chains
pub mod Crews
pub mod Counts
pub mod Progress
pub mod Lending
