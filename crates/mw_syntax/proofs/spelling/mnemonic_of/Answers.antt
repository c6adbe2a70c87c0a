use Rattle.std.proofs.Common.{rules}
use Rattle.std.proofs.lemmas.Fn.{always_returns_same}
use Rattle.mw_syntax.proofs.IndexLemmas.{compared, searched_found, searched_none}
use Rattle.mw_syntax.proofs.spelling.mnemonic_of.Goals as goal

-- the closure compares an entry's name with the name
pub returns-in-Ok-clause-value : goal.returns-in-Ok-clause-value
returns-in-Ok-clause-value c =
    let found = c.in-Ok.ensures.position (compared c.args.name.now) (always_returns_same _ _ _ (λ a r g called. (search rules, search rules))) in
    searched_found c.all_spelled-entries.result.now c.all_spelled-entries.ensures.index c.args.name.now c.in-Ok.place _ c.in-Ok.ensures.bound (found _)

pub returns-in-Err-clause-value : goal.returns-in-Err-clause-value
returns-in-Err-clause-value c =
    searched_none c.all_spelled-entries.result.now c.all_spelled-entries.ensures.index c.args.name.now _
    (c.in-Err.ensures.position (compared c.args.name.now) (always_returns_same _ _ _ (λ a r g called. (search rules, search rules))))
