use Rattle.std.proofs.Common.{List, sym, subst, All}
use Rattle.mw_isa.specs.declared.event.Event.{Event}
use Rattle.mw_isa.specs.State.{seen}
use Rattle.mw_isa.specs.Reading.{FitsEvent}
use Rattle.mw_cli.specs.Headline.{run_of}
use Rattle.mw_cli.proofs.RunLemmas.{pieces-spell, pieces-whole, spells-run}
use Rattle.mw_cli.proofs.run.text_of_run.Goals as goal

pub returns-in-Ok-print_behind-clause-text : goal.returns-in-Ok-print_behind-clause-text
returns-in-Ok-print_behind-clause-text c =
    let fits : All FitsEvent c.in-Ok.run'.events = subst (λ (es : List Event). All FitsEvent es) c.as_slice.ensures c.events_fit.ensures in
    spells-run (run_of c.args.image.now c.args.script.now c.args.cycles c.args.dump) _ c.in-Ok.run'.events c.in-Ok.run'.end (seen c.in-Ok.run'.state) c.in-Ok.ensures.runs
    (pieces-whole c.in-Ok.run'.events c.in-Ok.run'.end (seen c.in-Ok.run'.state) c.args.dump c.in-Ok-print_behind.rest c.in-Ok-print_behind.ensures.text)
    (pieces-spell c.in-Ok.run'.events c.in-Ok.run'.end (seen c.in-Ok.run'.state) c.args.dump c.in-Ok-print_behind.rest c.in-Ok-print_behind.ensures.text fits c.in-Ok-print_behind.ensures.end_fits)
    c.in-Ok.ensures.each_cycle

pub returns-in-Ok-print_behind-clause-end : goal.returns-in-Ok-print_behind-clause-end
returns-in-Ok-print_behind-clause-end c =
    let fits : All FitsEvent c.in-Ok.run'.events = subst (λ (es : List Event). All FitsEvent es) c.as_slice.ensures c.events_fit.ensures in
    sym (pieces-spell c.in-Ok.run'.events c.in-Ok.run'.end (seen c.in-Ok.run'.state) c.args.dump c.in-Ok-print_behind.rest c.in-Ok-print_behind.ensures.text fits c.in-Ok-print_behind.ensures.end_fits).end_is
