pub mod NumberLemmas
pub mod CutLemmas
pub mod ReadLemmas
pub mod SentLemmas
pub mod ArrivalLemmas
pub mod Laws
