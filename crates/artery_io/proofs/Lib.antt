pub mod MovedLemmas
pub mod WrittenLemmas
