-- What holds of a walk doubleword by doubleword.
pub mod Laws
