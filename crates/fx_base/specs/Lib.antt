pub mod Fix
pub mod Pattern
pub mod Bounds
pub mod Rect
pub mod Run
pub mod Grid
pub mod Status
