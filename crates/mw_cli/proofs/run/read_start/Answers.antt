use Rattle.std.proofs.Common.{ℕ, List, Option, option_map, ap}
use denote.Ref.{Bor}
use Rattle.mw_bus.specs.Memory.{ram_size}
use Rattle.mw_words.specs.Commands.{run_in}
use Rattle.mw_cli.specs.Numbers.{status_of}
use Rattle.mw_cli.specs.declared.status.Status.TheVariants.{Done}
use Rattle.mw_cli.specs.Outside.{change}
use Rattle.mw_cli.proofs.VerdictLemmas.{run-unread, run-unscripted, starts-alone}
use Rattle.mw_cli.proofs.GoesLemmas.{goes-both, script-other, done-other}
use Rattle.mw_cli.proofs.run.read_start.Goals as goal

-- the bytes of a name, if there is one
abbrev bytes_of : Option (Bor (List ℕ)) → Option (List ℕ)
bytes_of name = option_map (λ (n : Bor (List ℕ)). n.now) name

pub returns-in-Err-clause-refused : goal.returns-in-Err-clause-refused
returns-in-Err-clause-refused g c =
    run-unread (change (g.H.Host.state c.args.host.now) (g.H.Host.state c.read_image.new.host)) (run_in c.args.command.now) c.in-Err.refusal c.in-Err.ensures.opens.opened c.in-Err.ensures.refused

pub returns-in-None-clause-start : goal.returns-in-None-clause-start
returns-in-None-clause-start g c =
    starts-alone (change (g.H.Host.state c.args.host.now) (g.H.Host.state c.read_image.new.host)) (run_in c.args.command.now) c.in-Ok.image.items c.new.result (ap bytes_of c.in-None.is) c.new.ensures c.in-Ok.ensures.image c.in-Ok.ensures.fits

pub returns-in-Ok-script_of_file-clause-goes : goal.returns-in-Ok-script_of_file-clause-goes
returns-in-Ok-script_of_file-clause-goes g c =
    goes-both (g.H.Host.state c.args.host.now) (g.H.Host.state c.read_image.new.host) (g.H.Host.state c.script_of_file.new.host) (record { name = c.args.command.now.image.now; most = ram_size }) (run_in c.args.command.now).script c.in-Some.name.now Done
    (ap bytes_of c.in-Some.is) c.in-Ok.ensures.same_files done-other c.in-Ok.ensures.opens c.in-Ok-script_of_file.ensures.opens

pub returns-in-Err-script_of_file-clause-refused : goal.returns-in-Err-script_of_file-clause-refused
returns-in-Err-script_of_file-clause-refused g c =
    run-unscripted (g.H.Host.state c.args.host.now) (g.H.Host.state c.read_image.new.host) (g.H.Host.state c.script_of_file.new.host) (run_in c.args.command.now) c.in-Ok.image.items c.in-Some.name.now c.in-Err-script_of_file.refusal
    c.in-Ok.ensures.same_files c.in-Ok.ensures.stays_sound c.in-Ok.ensures.opens.opened c.in-Err-script_of_file.ensures.opens.opened (ap bytes_of c.in-Some.is) c.in-Ok.ensures.image c.in-Ok.ensures.fits c.in-Err-script_of_file.ensures.refused

pub returns-in-Err-script_of_file-clause-goes : goal.returns-in-Err-script_of_file-clause-goes
returns-in-Err-script_of_file-clause-goes g c =
    goes-both (g.H.Host.state c.args.host.now) (g.H.Host.state c.read_image.new.host) (g.H.Host.state c.script_of_file.new.host) (record { name = c.args.command.now.image.now; most = ram_size }) (run_in c.args.command.now).script c.in-Some.name.now (status_of c.in-Err-script_of_file.refusal)
    (ap bytes_of c.in-Some.is) c.in-Ok.ensures.same_files
    (script-other (change (g.H.Host.state c.read_image.new.host) (g.H.Host.state c.script_of_file.new.host)) c.in-Some.name.now c.in-Err-script_of_file.refusal c.in-Err-script_of_file.ensures.refused)
    c.in-Ok.ensures.opens c.in-Err-script_of_file.ensures.opens
