-- What the program's main function answers of a run, told without a boot.
use Rattle.std.proofs.Common.{◌≡◌, ℕ, List, Option, Some, IsSomeAnd, option_map}
use Rattle.std.specs.List.{range_with_len}
use Rattle.mw_isa.specs.declared.access.Span.{Span}
use Rattle.mw_isa.specs.declared.event.End.TheVariants.{Ran}
use Rattle.mw_isa.specs.State.{brought}
use Rattle.mw_isa.specs.Stops.{stop_of}
use Rattle.mw_isa.specs.Replay.{cycles_of, replay}
use Rattle.mw_isa.specs.Text.{text_of}
use Rattle.mw_isa.specs.Reading.{events_of, end_of}
use Rattle.mw_isa.proofs.RunLaws.{has_some, run-spelled}
use Rattle.mw_board.proofs.ImageLemmas.{start_with, RunsImage, runs-image}
use Rattle.mw_cli.specs.declared.status.Status.TheVariants.{Done, Offence, WriteFault}
use Rattle.mw_words.specs.Grammar.{RunOrder, Run, order_of}
use Rattle.mw_cli.specs.Headline.{run_of, Prints, SpellsRun}
use Rattle.mw_cli.specs.Outside.{Took, TookFront}
use Rattle.mw_cli.specs.Answers.{Call, Answers}
use Rattle.mw_cli.specs.Stages.{IsStart}
use Rattle.mw_cli.proofs.EndLemmas.{OffendsBelow}
use Rattle.mw_cli.proofs.EachStatus.{done-run, offence-run, cut-run}

-- the text's events, its end, and the state that the events leave of the image and the script at the stop, are a run of
-- these for n cycles, and the text is theirs, with the dump
abbrev pub SpellsImage : List ℕ → List (ℕ × ℕ) → ℕ → Option Span → List ℕ → Type 0
SpellsImage image script n dump text =
    IsSomeAnd (end_of text) (λ end. IsSomeAnd (option_map (brought (stop_of end)) (replay (events_of text) (start_with image script))) (λ last.
    RunsImage image script n (events_of text) end last
    × (text ≡ text_of (events_of text) end last dump)
    × (cycles_of (events_of text) ≡ range_with_len 0 (stop_of end))))

-- a text that spells a run of an image and a script spells it without a boot
pub spells-image : (image : List ℕ) (script : List (ℕ × ℕ)) (n : ℕ) (dump : Option Span) (text : List ℕ) → SpellsRun (run_of image script n dump) text → SpellsImage image script n dump text
spells-image image script n dump text spells =
    run-spelled (record { image = image; script = script }) n text (Prints (run_of image script n dump) text) spells (λ end last s runs prints.
    let image_runs : RunsImage image script n (events_of text) end last = runs-image image script n (events_of text) end last runs in
    has_some (end_of text) end _ s.end_is (has_some (option_map (brought (stop_of end)) (replay (events_of text) (start_with image script))) last _ image_runs.replayed
    (image_runs, prints.whole, prints.each_cycle)))

-- with Done out took a text that spells a run of the image and the script, which ran to the number of cycles
pub done-image : (call : Call) (order : RunOrder) → order_of call.words ≡ Some (Run order) → Answers call Done → (image : List ℕ) × (script : List (ℕ × ℕ)) × (text : List ℕ) × IsStart call.host order image script × SpellsImage image script order.cycles order.dump text × Took call.out text × (end_of text ≡ Some (Ran order.cycles))
done-image call order asked a =
    let (image, script, text, start, spells, took, ran) = done-run call order asked a in
    (image, script, text, start, spells-image image script order.cycles order.dump text spells, took, ran)

-- with Offence out took a text that spells a run of the image and the script, which ended with one below that number
pub offence-image : (call : Call) (order : RunOrder) → order_of call.words ≡ Some (Run order) → Answers call Offence → (image : List ℕ) × (script : List (ℕ × ℕ)) × (text : List ℕ) × IsStart call.host order image script × SpellsImage image script order.cycles order.dump text × Took call.out text × OffendsBelow order.cycles (end_of text)
offence-image call order asked a =
    let (image, script, text, start, spells, took, offends) = offence-run call order asked a in
    (image, script, text, start, spells-image image script order.cycles order.dump text spells, took, offends)

-- with WriteFault out took a front of a text that spells a run of the image and the script
pub cut-image : (call : Call) (order : RunOrder) → order_of call.words ≡ Some (Run order) → Answers call WriteFault → (image : List ℕ) × (script : List (ℕ × ℕ)) × (text : List ℕ) × IsStart call.host order image script × SpellsImage image script order.cycles order.dump text × TookFront call.out text
cut-image call order asked a =
    let (image, script, text, start, spells, took) = cut-run call order asked a in
    (image, script, text, start, spells-image image script order.cycles order.dump text spells, took)
