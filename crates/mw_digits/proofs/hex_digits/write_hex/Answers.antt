use Rattle.std.proofs.Common.{ap, ◌∙◌, arith}
use Rattle.mw_digits.specs.Digits.{hex}
use Rattle.mw_digits.proofs.WriteLemmas.{written-none, written-pair, written-first}
use Rattle.mw_digits.proofs.hex_digits.write_hex.Goals as goal

pub loop-place-init : goal.loop-place-init
loop-place-init c = record {
  within = omega arith;
  written = written-none c.args.digits.now c.args.number;
}

pub loop-place-preserved : goal.loop-place-preserved
loop-place-preserved c = record {
  within = omega arith;
  written = written-pair c.loop-place.digits c.args.number c.loop-place.rest c.loop-place.place (omega arith) (omega arith) c.loop-place.invariant.written;
}

pub returns-then-place-gt0 : goal.returns-then-place-gt0
returns-then-place-gt0 c =
    written-first c.loop-place.digits c.args.number c.loop-place.rest c.loop-place.place (omega arith) (omega arith) c.loop-place.invariant.written
    ∙ ap (λ k. hex k c.args.number) c.loop-place.auto.digits
