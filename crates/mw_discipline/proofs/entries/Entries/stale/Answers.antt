use Rattle.std.proofs.Common.{length, sym, ap, ◌∙◌, arith}
use Rattle.mw_discipline.specs.Inside.{Listed}
use Rattle.mw_discipline.proofs.EntryLemmas.{end-at, seen-found, seen-next, seen-past, skipped}
use Rattle.mw_discipline.proofs.entries.Entries.stale.Goals as goal

pub loop-place-init : goal.loop-place-init
loop-place-init c =
    skipped c.first_of-place.result c.args.self.now.items c.args.now.now c.args.kind c.args.problem c.args.pid c.args.page c.first_of-place.ensures.bound c.first_of-place.ensures.parted.0

pub returns-then-not-is_for-clause-value : goal.returns-then-not-is_for-clause-value
returns-then-not-is_for-clause-value c =
    let items = ap (λ (l : Listed). l.items) c.self.view_is in
    let count = ap (λ (l : Listed). length l.items) c.self.view_is in
    seen-past c.args.self.now.items c.self.inside.items.items c.args.now.now c.args.kind c.args.problem c.args.pid c.args.page c.loop-place.place c.index.result.now items c.index.ensures (omega arith) c.loop-place.invariant
    c.self.invariant.ordered (c.first_of-place.ensures.parted.1 c.loop-place.place c.index.result.now (omega arith) (omega arith)) (sym c.is_for.ensures ∙ c.if-not-is_for.true)

pub returns-then-is_stale-clause-value : goal.returns-then-is_stale-clause-value
returns-then-is_stale-clause-value c =
    let items = ap (λ (l : Listed). l.items) c.self.view_is in
    seen-found c.args.self.now.items c.self.inside.items.items c.args.now.now c.args.kind c.args.problem c.args.pid c.args.page c.loop-place.place c.index.result.now items c.index.ensures (omega arith) c.loop-place.invariant
    (sym c.is_stale.ensures ∙ c.if-is_stale.true)

pub loop-place-preserved : goal.loop-place-preserved
loop-place-preserved c =
    let items = ap (λ (l : Listed). l.items) c.self.view_is in
    seen-next c.args.self.now.items c.self.inside.items.items c.args.now.now c.args.kind c.args.problem c.args.pid c.args.page c.loop-place.place c.index.result.now items c.index.ensures (omega arith) c.loop-place.invariant
    (sym c.is_stale.ensures ∙ c.if-is_stale.false)

pub returns-clause-value : goal.returns-clause-value
returns-clause-value c =
    let items = ap (λ (l : Listed). length l.items) c.self.view_is in
    sym (end-at c.loop-place.place c.args.self.now.items c.args.now.now c.args.kind c.args.problem c.args.pid c.args.page (omega arith)) ∙ c.loop-place.invariant
