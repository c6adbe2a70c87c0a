-- What holds of each row of the table, of registers by name, of what raises an interrupt, of products, of a step, of a
-- replay, of interrupts between instructions, of a run's text, of an access, of a walk, what an instruction depends on, and
-- of the update discipline.
pub mod SlotLaws
pub mod RowLaws
pub mod ReadLaws
pub mod NextLaws
pub mod RaiseLaws
pub mod KeepLaws
pub mod LongLaws
pub mod StepLaws
pub mod ReplayLaws
pub mod PromptLaws
pub mod RunLaws
pub mod WalkReadLaws
pub mod WalkSameLaws
pub mod WalkPageLaws
pub mod DependLaws
pub mod PacketLaws
pub mod DisciplinedLaws
pub mod StorageLaws
pub mod PageLaws
pub mod StorageCases
pub mod DisciplineLaws
pub mod EntryLaws
pub mod KeptLaws
pub mod DeedLaws
