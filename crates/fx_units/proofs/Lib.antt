pub mod ActionsToyLemmas
