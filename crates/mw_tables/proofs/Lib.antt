pub mod Places
pub mod PieceLaws
pub mod FieldLaws
pub mod OperandLaws
mod CodeLemmas
pub mod RangeLaws
