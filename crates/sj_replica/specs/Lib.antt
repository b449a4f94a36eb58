pub mod Mark
pub mod Replica
