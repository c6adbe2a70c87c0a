mod WriteLemmas
pub mod DigitLaws
