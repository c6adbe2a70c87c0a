use Rattle.std.proofs.Common.{◌<◌, refl, sym, ◌∙◌, subst, arith, length, List, ℕ}
use Rattle.mw_radix.specs.Walking.{ahead}
use Rattle.mw_radix.proofs.Laws.{began, ended-as, advances, start-sound, given-sound}
use Rattle.mw_radix.proofs.translating.walked.Goals as goal

-- src/translating.rt:111:5
pub loop-end-init : goal.loop-end-init
loop-end-init g c = (
  start-sound c.args.prtbl c.args.pid c.args.ea c.start-walker.result c.start-walker.ensures,
  began (g.T.Tables.ram c.args.tables.now) c.args.prtbl c.args.pid c.args.ea c.start-walker.result c.start-walker.ensures,
  refl,
  omega arith,
)

-- src/translating.rt:113:13
pub returns-in-Some-clause-value : goal.returns-in-Some-clause-value
returns-in-Some-clause-value g c =
    sym (ended-as (g.T.Tables.ram c.args.tables.now) c.loop-end.walker c.in-Some.end (sym c.done.ensures.value ∙ c.in-Some.is))
    ∙ c.loop-end.invariant.1

-- src/translating.rt:111:5
pub loop-end-smaller-in-Some-want : goal.loop-end-smaller-in-Some-want
loop-end-smaller-in-Some-want g c =
    subst (λ (ram : List ℕ). length (ahead ram c.give.new.self).reads < length (ahead (g.T.Tables.ram c.loop-end.tables) c.loop-end.walker).reads) (sym c.doubleword.ensures.stays)
    (advances (g.T.Tables.ram c.loop-end.tables) (g.T.Tables.ram c.loop-end.tables) c.loop-end.walker c.give.new.self c.doubleword.result c.in-Some-want.at c.loop-end.invariant.0 (sym c.want.ensures.value ∙ c.in-Some-want.is) refl c.doubleword.ensures.value c.give.ensures).fewer

-- src/translating.rt:111:5
pub loop-end-preserved-in-Some-want : goal.loop-end-preserved-in-Some-want
loop-end-preserved-in-Some-want g c =
    let before = c.loop-end.invariant.3 in
    let more = c.doubleword.ensures.counted in (
      given-sound c.loop-end.walker c.give.new.self c.doubleword.result c.loop-end.invariant.0 c.give.ensures,
      (advances (g.T.Tables.ram c.args.tables.now) (g.T.Tables.ram c.loop-end.tables) c.loop-end.walker c.give.new.self c.doubleword.result c.in-Some-want.at c.loop-end.invariant.0 (sym c.want.ensures.value ∙ c.in-Some-want.is) c.loop-end.invariant.2 c.doubleword.ensures.value c.give.ensures).end ∙ c.loop-end.invariant.1,
      c.doubleword.ensures.stays ∙ c.loop-end.invariant.2,
      omega arith,
    )
