-- How large values are, and how many operands are written.
use Rattle.std.specs.Prelude.{ℕ, ◌≡◌, ⊤, ℤ, pos, neg_ℤ, ◌<ℤ◌}
use Rattle.mw_syntax.specs.declared.mnemonic.Pattern.{Pattern}
use Rattle.mw_syntax.specs.declared.mnemonic.Pattern.TheVariants.{Row, Li, Lis, Mr, Nop, Always, Light, Tables}

-- a number between a bound and its negative
abbrev pub IsSmall : ℕ → ℤ → Type 0
IsSmall bound value = (neg_ℤ (pos bound) <ℤ value) × (value <ℤ pos bound)

-- how many operands are written where a pattern fixes that
abbrev pub IsWritten : Pattern → ℕ → Type 0
IsWritten Row count = ⊤
IsWritten Li count = count ≡ 2
IsWritten Lis count = count ≡ 2
IsWritten Mr count = count ≡ 2
IsWritten Nop count = ⊤
IsWritten Always count = ⊤
IsWritten Light count = ⊤
IsWritten Tables count = ⊤
