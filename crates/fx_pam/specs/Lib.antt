pub mod Text
pub mod Header
pub mod Reading
pub mod Seen
pub mod Raster
pub mod Laws
pub mod Fronts
