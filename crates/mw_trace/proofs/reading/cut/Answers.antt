use Rattle.std.proofs.Common.{◌+◌, ◌∷◌, ◌++◌, take, sym, ap, ◌∙◌}
use Rattle.std.proofs.lemmas.List.{take_rest}
use Rattle.mw_trace.proofs.CutLemmas.{cut-some, cut-none, cuts-none}
use Rattle.mw_trace.proofs.reading.cut.Goals as goal

pub returns-in_err-place : goal.returns-in_err-place
returns-in_err-place c =
    cuts-none c.args.byte c.args.text.now c.from_residual.result c.from_residual.ensures
    (cut-none c.args.byte c.args.text.now (sym c.place_of.ensures ∙ c.in_err-place.was))

pub returns : goal.returns
returns c =
    let front = take c.in_ok-place.place c.args.text.now in
    let cut = cut-some c.args.byte c.args.text.now c.in_ok-place.place (sym c.place_of.ensures ∙ c.in_ok-place.was) in (
      cut.0 ∙ ap (λ behind. front ++ c.args.byte ∷ behind) (sym (take_rest c.args.text.now (c.in_ok-place.place + 1))),
      cut.1,
    )
