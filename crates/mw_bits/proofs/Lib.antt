pub mod FieldLemmas
pub mod MaskLemmas
