pub mod NumberLemmas
pub mod PieceLemmas
pub mod LineLemmas
pub mod SpanLemmas
pub mod TokenLemmas
pub mod TextLemmas
