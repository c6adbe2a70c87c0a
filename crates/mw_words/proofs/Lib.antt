pub mod NumberLemmas
pub mod ItemLemmas
pub mod RowLemmas
pub mod WordLemmas
pub mod WalkLemmas
pub mod ReaderLaws
