use Rattle.std.proofs.Common.{rules, ◌≡◌, pos, ◌+◌, length, drop, get_or, bit_or, sym, ap, ◌∙◌, arith}
use Rattle.mw_tables.specs.Layouts.{code_with, code_with_all}
use Rattle.mw_decode.proofs.encoder.code_with_all.Goals as goal
use Rattle.mw_decode.proofs.EncodeParts.{blank, code_with_all-next, code_with_all-end}

pub loop-place-preserved : goal.loop-place-preserved
loop-place-preserved c =
    let fs = c.args.fields.now in
    let zs = c.args.operands.now in
    let place = c.loop-place.place in
    let here : c.code_with-code.result ≡ code_with (get_or fs place blank) (get_or zs place (pos 0)) = search rules in
    ap (λ n. bit_or (bit_or c.loop-place.code n) (code_with_all (drop (place + 1) fs) (drop (place + 1) zs))) here
    ∙ code_with_all-next c.loop-place.code fs zs place (omega arith) (omega arith)
    ∙ c.loop-place.invariant

pub returns : goal.returns
returns c =
    let fs = c.args.fields.now in
    let zs = c.args.operands.now in
    let end : c.loop-place.place ≡ length fs = omega arith in
    sym (code_with_all-end c.loop-place.code fs zs)
    ∙ ap (λ n. bit_or c.loop-place.code (code_with_all (drop n fs) (drop n zs))) (sym end)
    ∙ c.loop-place.invariant
