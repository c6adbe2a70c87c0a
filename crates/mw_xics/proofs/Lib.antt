pub mod PendingLemmas
pub mod Laws
