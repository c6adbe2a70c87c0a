pub mod RamLemmas
pub mod StorageLemmas
