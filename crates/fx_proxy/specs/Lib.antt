pub mod Reduced
pub mod Blocks
pub mod Lengths
pub mod Scaled
pub mod Proxy
pub mod Needs
