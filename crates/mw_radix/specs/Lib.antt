-- A walk doubleword by doubleword, after the definition of the whole walk in mw_isa.
pub mod Walking
