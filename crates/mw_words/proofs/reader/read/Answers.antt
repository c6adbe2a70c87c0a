use Rattle.std.proofs.Common.{◌≡◌, ℕ, List, Some, map, string_bytes, sym, ap, ◌∙◌}
use Rattle.clap.specs.Words.{found_of, takes}
use Rattle.clap.specs.Walk.{rows_of}
use Rattle.clap.specs.Simple.{is_simple, matches_of}
use Rattle.mw_words.specs.Grammar.{all_said, idle, unsaid}
use Rattle.mw_words.specs.Reader.{reader_of}
use Rattle.mw_words.proofs.ReaderLaws.{reader-simple, reader-takes, found-said, said-of}
use Rattle.mw_words.proofs.reader.read.Goals as goal

pub returns-in-Ok : goal.returns-in-Ok
returns-in-Ok c =
    let words : List (List ℕ) = map string_bytes c.args.words.now in
    let s = said-of (all_said c.args.verb (idle unsaid) words) c.requires in
    let t = reader-takes c.args.verb words s.0 s.1 in
    let rows : rows_of (found_of c.in-Ok.matches) ≡ matches_of (reader_of c.args.verb) words =
    (c.in-Ok.ensures.matches (ap is_simple c.in_ok-reader.ensures ∙ reader-simple c.args.verb)).0 ∙ ap (λ app. matches_of app words) c.in_ok-reader.ensures in
    s.1 ∙ ap (λ said. Some said) (sym (found-said (found_of c.in-Ok.matches) s.0 (rw rows t.1)))

pub no_memory-requires : goal.no_memory-requires
no_memory-requires c =
    let words : List (List ℕ) = map string_bytes c.args.words.now in
    let s = said-of (all_said c.args.verb (idle unsaid) words) c.requires in
    let t = reader-takes c.args.verb words s.0 s.1 in
    c.in-Err.ensures.passes (ap (λ app. takes app words) c.in_ok-reader.ensures ∙ t.0)
