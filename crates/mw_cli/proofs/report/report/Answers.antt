use Rattle.std.proofs.Common.{ℕ, List, ◌++◌, codes, refl, ap}
use Rattle.mw_cli.specs.declared.refusal.Refusal.TheVariants.{Unreadable, Unwritable, TooLarge, Bad, OutOfMemory}
use Rattle.mw_cli.proofs.WritingLemmas.{told}
use Rattle.mw_cli.proofs.report.report.Goals as goal

pub returns-in-Unreadable-clause-took : goal.returns-in-Unreadable-clause-took
returns-in-Unreadable-clause-took g c =
    told _ _ c.args.refusal (Unreadable c.in-Unreadable.name) c.in-Unreadable.is (ap (λ (x : List ℕ). codes "mw: cannot read " ++ x ++ codes "\n") c.as_bytes.ensures.value) c.report_three.ensures.took

pub returns-in-TooLarge-clause-took : goal.returns-in-TooLarge-clause-took
returns-in-TooLarge-clause-took g c =
    told _ _ c.args.refusal TooLarge c.in-TooLarge.is refl c.write_one.ensures.took

pub returns-in-Bad-clause-took : goal.returns-in-Bad-clause-took
returns-in-Bad-clause-took g c =
    told _ _ c.args.refusal (Bad c.in-Bad.name c.in-Bad.line c.in-Bad.column) c.in-Bad.is refl c.report_bad.ensures.took

pub returns-in-Unwritable-clause-took : goal.returns-in-Unwritable-clause-took
returns-in-Unwritable-clause-took g c =
    told _ _ c.args.refusal Unwritable c.in-Unwritable.is refl c.write_one-in-Unwritable.ensures.took

pub returns-in-OutOfMemory-clause-took : goal.returns-in-OutOfMemory-clause-took
returns-in-OutOfMemory-clause-took g c =
    told _ _ c.args.refusal OutOfMemory c.in-OutOfMemory.is refl c.write_one-in-OutOfMemory.ensures.took
