mod WordLemmas
mod LayingLemmas
