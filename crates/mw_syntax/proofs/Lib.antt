mod ReadingLemmas
mod ValuesLemmas
pub mod LineLemmas
pub mod MnemonicLemmas
mod IndexLemmas
