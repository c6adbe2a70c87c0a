use Rattle.std.proofs.Common.{ℕ, ◌≡◌, ◌+◌, ◌++◌, suc, drop, map, take, ap, ◌∙◌, arith}
use Rattle.mw_isa.specs.Entries.{left_by}
use Rattle.mw_discipline.proofs.EntryLemmas.{changed-next}
use Rattle.mw_discipline.proofs.entries.mark.Goals as goal

pub loop-place-preserved : goal.loop-place-preserved
loop-place-preserved c =
    let next : suc c.loop-place.place ≡ c.loop-place.place + 1 = omega arith in
    changed-next (left_by c.args.scope) c.loop-place.place c.args.items.now.items c.loop-place.items.items c.index.result.now c.left_by.result c.loop-place.invariant (omega arith)
    (c.left_by.ensures ∙ ap (left_by c.args.scope) c.index.ensures)
    ∙ ap (λ (n : ℕ). take n (map (left_by c.args.scope) c.args.items.now.items) ++ drop n c.args.items.now.items) next
