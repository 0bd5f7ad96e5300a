pub mod ActionsToys
pub mod DirectoryAskers
