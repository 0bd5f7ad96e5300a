pub mod RowsLaws
pub mod RowsMade
pub mod PixelLaws
pub mod ImageLaws
pub mod ImageWrites
pub mod PartLaws
pub mod RowsCut
pub mod BandLaws
