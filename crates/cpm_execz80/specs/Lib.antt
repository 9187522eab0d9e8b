pub mod Bits
pub mod Blocks
pub mod Extended
pub mod Indexed
pub mod Laws
pub mod MeaningZ80
pub mod Registers
