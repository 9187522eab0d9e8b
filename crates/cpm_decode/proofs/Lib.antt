pub mod Arms
pub mod ArmsZ80
pub mod ArmsZ80Bits
pub mod ArmsZ80Extended
pub mod ArmsZ80Index
