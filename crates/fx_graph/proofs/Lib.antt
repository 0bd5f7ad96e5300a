mod Making
mod Connecting
mod Keeping
mod Using
mod Pushing
mod Outputs
mod Graphing
mod DescribedLaws
pub mod EditLaws
mod NamedLaws
