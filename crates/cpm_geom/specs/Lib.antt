pub mod Geometry
pub mod Disk
pub mod Laws
