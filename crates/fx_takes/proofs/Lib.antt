pub mod Walks
pub mod EditLaws
