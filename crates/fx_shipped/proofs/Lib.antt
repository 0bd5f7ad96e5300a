pub mod NumberLaws
mod NameLaws
