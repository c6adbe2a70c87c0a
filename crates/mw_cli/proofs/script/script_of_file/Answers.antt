use Rattle.mw_cli.specs.Outside.{change}
use Rattle.mw_cli.proofs.VerdictLemmas.{stayed}
use Rattle.mw_cli.proofs.ScriptLemmas.{script-told, script-refused, script-unread, text-calm}
use Rattle.mw_cli.proofs.script.script_of_file.Goals as goal

pub returns-clause-script : goal.returns-clause-script
returns-clause-script g c =
    script-told (change (g.H.Host.state c.args.host.now) (g.H.Host.state c.read_file.new.host)) c.args.name.now c.in-Ok.text.items c.as_slice.result.now c.script_of_text.result c.as_slice.ensures.value c.in-Ok.ensures.front c.script_of_text.ensures.script

pub returns-clause-refused : goal.returns-clause-refused
returns-clause-refused g c =
    script-refused (change (g.H.Host.state c.args.host.now) (g.H.Host.state c.read_file.new.host)) c.args.name.now c.in-Ok.text.items c.as_slice.result.now c.script_of_text.result c.as_slice.ensures.value c.in-Ok.ensures.front c.script_of_text.ensures.refused

pub returns-clause-faults : goal.returns-clause-faults
returns-clause-faults g c =
    text-calm c.args.name.now c.as_slice.result.now (g.H.Host.state c.args.host.now).faults (g.H.Host.state c.read_file.new.host).faults c.script_of_text.result (stayed _ _ c.in-Ok.ensures.faults) c.script_of_text.ensures.refused

pub returns-in-Err-clause-refused : goal.returns-in-Err-clause-refused
returns-in-Err-clause-refused g c =
    script-unread (change (g.H.Host.state c.args.host.now) (g.H.Host.state c.read_file.new.host)) c.args.name.now c.in-Err.refusal c.in-Err.ensures.refused
