-- What holds of the blocks: how they are seen, which are listed, and how those that are listed are settled.
mod BlockLaws
mod EntryLemmas
