mod Leads
pub mod InsnLemmas
pub mod Ranges
mod EncodeParts
mod EncodeRows
pub mod EncodeBack
pub mod EncodeLemmas
