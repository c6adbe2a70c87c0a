use Rattle.std.proofs.Common.{◌<◌, ◌≤◌, List, length, nat_lt, true, false, ltb-true, ltb-false, ◌≡◌, ℕ, Ok, Err, take, sym, ap, ◌∙◌, arith}
use Rattle.std.proofs.lemmas.List.{length-take, length-take-le}
use Rattle.std.proofs.lemmas.Result.{IfOk-weaker, IfErr-weaker}
use Rattle.mw_uart.specs.Script.{place_behind, script_of, text_limit}
use Rattle.mw_uart.specs.Pairs.{IfBad}
use Rattle.mw_uart.proofs.ReadLemmas.{script-long, script-short, IfBad-weaker}
use Rattle.mw_uart.proofs.script.read_script.Goals as goal

is-long : (text : List ℕ) → nat_lt text_limit (length text) ≡ true → text_limit < length text
is-long text e = ltb-true text_limit (length text) e

is-short : (text : List ℕ) → nat_lt text_limit (length text) ≡ false → length text ≤ text_limit
is-short text e = ltb-false text_limit (length text) e

pub slice_bounds-place_behind-end : goal.slice_bounds-place_behind-end
slice_bounds-place_behind-end c = sym (length-take-le _ c.args.text.now (omega (arith, (is-long c.args.text.now (sym c.if-is_too_long.ensures)))))

pub place_behind-requires : goal.place_behind-requires
place_behind-requires c = omega (arith, (is-long c.args.text.now (sym c.if-is_too_long.ensures)), length-take {A = ℕ})

pub returns-then-is_too_long-clause-bad : goal.returns-then-is_too_long-clause-bad
returns-then-is_too_long-clause-bad c =
    IfBad-weaker c.place_behind.result (λ place. place ≡ place_behind (take text_limit c.args.text.now)) (λ place. script_of c.args.text.now ≡ Err place)
    (λ place is. script-long c.args.text.now (is-long c.args.text.now (sym c.if-is_too_long.ensures)) ∙ ap Err (sym is))
    c.place_behind.ensures

pub returns-clause-ok : goal.returns-clause-ok
returns-clause-ok c =
    let short = script-short c.args.text.now (is-short c.args.text.now (sym c.if-is_too_long.ensures)) in
    IfOk-weaker c.read_lines.result _ (λ script. script_of c.args.text.now ≡ Ok script) (λ script is. short ∙ is) c.read_lines.ensures.ok

pub returns-clause-bad : goal.returns-clause-bad
returns-clause-bad c =
    let short = script-short c.args.text.now (is-short c.args.text.now (sym c.if-is_too_long.ensures)) in
    IfErr-weaker c.read_lines.result _ (λ fault. IfBad fault (λ place. script_of c.args.text.now ≡ Err place))
    (λ fault. IfBad-weaker fault _ (λ place. script_of c.args.text.now ≡ Err place) (λ place is. short ∙ is))
    c.read_lines.ensures.bad
