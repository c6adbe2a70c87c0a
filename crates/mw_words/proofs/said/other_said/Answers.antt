use Rattle.std.proofs.Common.{◌≡◌, ℕ, List, length, false, sym, ap, ◌∙◌, rules}
use Rattle.std.specs.List.{position_or_len, after_first}
use Rattle.mw_words.specs.Grammar.{option_said, is_equals}
use Rattle.mw_words.specs.Commands.{said_in}
use Rattle.mw_words.proofs.ItemLemmas.{other-whole}
use Rattle.mw_words.proofs.said.other_said.Goals as goal

pub returns-in-None : goal.returns-in-None
returns-in-None c =
    let word : List ℕ = c.args.word.now in
    let behind : List ℕ = after_first is_equals word in
    let whole : position_or_len is_equals word ≡ length word = search rules in
    c.option_said-in-None.ensures behind tt
    ∙ ap (λ key. option_said key false behind (said_in c.args.said)) c.option_of-in-None.ensures
    ∙ sym (other-whole c.args.verb word (said_in c.args.said) (sym c.is_name.ensures ∙ c.if-is_name.false) whole)
