use Rattle.std.proofs.Common.{ℕ, sym, arith}
use Rattle.std.proofs.lemmas.List.{length-take, length-take-le}
use Rattle.mw_asm.proofs.assembler.past.Goals as goal

pub slice_bounds-behind_text-end : goal.slice_bounds-behind_text-end
slice_bounds-behind_text-end c = sym (length-take-le _ c.args.source.now (omega (arith, c.requires)))

pub behind_text-requires : goal.behind_text-requires
behind_text-requires c = omega (arith, c.requires, length-take {A = ℕ})
