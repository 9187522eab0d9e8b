pub mod CheckpointBytes
pub mod CheckpointReading
pub mod Laws
