use Rattle.std.proofs.Common.{◌≡◌, ℕ, List, ◌++◌, IfErr, ap₂, subst}
use Rattle.mw_isa.specs.declared.event.Event.{Event}
use Rattle.mw_isa.specs.Text.{event_lines}
use Rattle.mw_cli.specs.Outside.{change}
use Rattle.mw_cli.specs.Products.{bytes_of}
use Rattle.mw_cli.specs.Stages.{IsWriteRefusal}
use Rattle.mw_cli.proofs.CauseLemmas.{unwanted}
use Rattle.mw_cli.proofs.WritingLemmas.{refused-rest}
use Rattle.mw_cli.proofs.writing.write_product.Goals as goal

pub returns-in-Ok-clause-refused : goal.returns-in-Ok-clause-refused
returns-in-Ok-clause-refused g c =
    let before = g.S.Sink.state c.args.out.now in
    let after = g.S.Sink.state c.write_out.new.out in
    let whole : event_lines c.as_slice.result.now ++ c.as_slice-in-Ok.result.now ≡ bytes_of c.args.product.now =
    ap₂ (λ (es : List Event) (rest : List ℕ). event_lines es ++ rest) c.as_slice.ensures c.as_slice-in-Ok.ensures in
    subst (λ (text : List ℕ). IfErr c.write_out.result (IsWriteRefusal (change before after) text)) whole
    (refused-rest c.write_out.result before (g.S.Sink.state c.write_events.new.out) after (event_lines c.as_slice.result.now) c.as_slice-in-Ok.result.now c.in-Ok.ensures.took (unwanted _ _ c.in-Ok.ensures.wants) c.write_out.ensures.refused)
