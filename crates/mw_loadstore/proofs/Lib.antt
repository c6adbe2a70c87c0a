pub mod PieceLemmas
pub mod BytesLemmas
pub mod LaidLemmas
