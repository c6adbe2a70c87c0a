use Rattle.std.proofs.Common.{ap, rules, arith}
use Rattle.std.specs.Prelude.{is_ok}
use Rattle.std.proofs.lemmas.Fn.{always_returns_same}
use Rattle.mw_isa.specs.Entries.{order_of}
use Rattle.mw_discipline.specs.Inside.{Listed}
use Rattle.mw_discipline.proofs.EntryLemmas.{kept-put, put-err, put-ok}
use Rattle.mw_discipline.proofs.entries.Entries.put.Goals as goal

pub invariant_of-self : goal.invariant_of-self
invariant_of-self c =
    let found = c.in-Ok.ensures.position (λ kept. order_of kept c.args.entry) (always_returns_same _ _ _ (λ a r g called. (search rules, search rules))) in
    kept-put c.self.inside.items.items _ c.self.inside.leaving c.args.entry c.self.invariant c.requires.low c.requires.new
    (put-ok c.self.inside.items.items c.deref.result.now c.in-Ok.place c.args.entry c.self.invariant.ordered c.deref.ensures.value c.in-Ok.ensures.bound found)

pub invariant_of-self-in-Err : goal.invariant_of-self-in-Err
invariant_of-self-in-Err c =
    let room = ap (λ (l : Listed). l.room) c.self.view_is in
    let missed = c.in-Err.ensures.position (λ kept. order_of kept c.args.entry) (always_returns_same _ _ _ (λ a r g called. (search rules, search rules))) in
    kept-put c.self.inside.items.items _ c.self.inside.leaving c.args.entry c.self.invariant c.requires.low c.requires.new
    (put-err c.self.inside.items.items c.deref.result.now c.insert.new.self.items c.in-Err.place c.args.entry (is_ok c.insert.result) c.self.invariant.ordered c.deref.ensures.value c.in-Err.ensures.bound missed (c.insert.ensures.succeeds (omega arith)) c.insert.ensures.items)

pub returns-in-Ok-clause-items : goal.returns-in-Ok-clause-items
returns-in-Ok-clause-items c =
    let found = c.in-Ok.ensures.position (λ kept. order_of kept c.args.entry) (always_returns_same _ _ _ (λ a r g called. (search rules, search rules))) in
    rw (← c.self.view_is) (put-ok c.self.inside.items.items c.deref.result.now c.in-Ok.place c.args.entry c.self.invariant.ordered c.deref.ensures.value c.in-Ok.ensures.bound found)

pub returns-in-Err-clause-items : goal.returns-in-Err-clause-items
returns-in-Err-clause-items c =
    let room = ap (λ (l : Listed). l.room) c.self.view_is in
    let missed = c.in-Err.ensures.position (λ kept. order_of kept c.args.entry) (always_returns_same _ _ _ (λ a r g called. (search rules, search rules))) in
    rw (← c.self.view_is) (put-err c.self.inside.items.items c.deref.result.now c.insert.new.self.items c.in-Err.place c.args.entry (is_ok c.insert.result) c.self.invariant.ordered c.deref.ensures.value c.in-Err.ensures.bound missed (c.insert.ensures.succeeds (omega arith)) c.insert.ensures.items)
