pub mod Crop
pub mod CropLaws
pub mod Mirror
pub mod MirrorLaws
pub mod Translate
pub mod TranslateLaws
pub mod TranslateRows
