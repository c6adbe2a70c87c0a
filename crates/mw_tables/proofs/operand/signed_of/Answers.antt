use Rattle.std.proofs.Common.{ℕ, ◌*◌, ◌%◌, ◌^◌, ◌<◌, ◌≤◌, ◌≡◌, ◌-ℤ◌, w64, to_z, FitsSigned, sym, subst, arith, rules}
use Rattle.std.proofs.lemmas.Int.{ints}
use Rattle.std.proofs.lemmas.Nat.{one_shl}
use Rattle.std.proofs.Math.Pow.{pow_mono}
use Rattle.mw_tables.proofs.operand.signed_of.Goals as goal

fits : (number power : ℕ) → number < power → power ≤ 2 ^ 62 → FitsSigned w64 (to_z w64 number -ℤ to_z w64 power)
fits number power below narrow = search (rules, arith, ints)

pub overflow_sub-result : goal.overflow_sub-result
overflow_sub-result c =
    let power : 1 * 2 ^ c.args.width % 2 ^ 64 ≡ 2 ^ c.args.width = one_shl c.args.width 64 (omega arith) in
    let narrow : 2 ^ c.args.width ≤ 2 ^ 62 = pow_mono {i = c.args.width} {j = 62} (omega arith) in
    subst (λ p. FitsSigned w64 (to_z w64 c.args.number -ℤ to_z w64 p)) (sym power) (fits c.args.number (2 ^ c.args.width) c.requires.fits narrow)
