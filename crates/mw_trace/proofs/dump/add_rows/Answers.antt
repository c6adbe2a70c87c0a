use Rattle.std.proofs.Common.{◌≡◌, ℕ, ◌+◌, ◌-◌, ◌*◌, ◌/◌, min, List, [], ◌∷◌, ◌++◌, take, drop, map, codes, sym, ap, ap₂, ◌∙◌, arith}
use Rattle.std.specs.List.{flat_map, range_with_len}
use Rattle.std.proofs.lemmas.List.{flat_map_more}
use Rattle.std.proofs.lemmas.List.FromFn.{map-range_with_len_more}
use Rattle.mw_isa.specs.declared.access.Span.{Span}
use Rattle.mw_digits.specs.Digits.{hex}
use Rattle.mw_isa.specs.Text.{line, hex_bytes, row_words, dump_words}
use Rattle.mw_trace.proofs.dump.add_rows.Goals as goal

-- what is written by one line more
one_more : (ram : List ℕ) (span : Span) (k at len : ℕ) (old text next bytes : List ℕ) → text ≡ old ++ flat_map line (map (row_words ram span) (range_with_len 0 k)) → next ≡ text ++ line (codes "m" ∷ hex 16 at ∷ hex_bytes bytes ∷ []) → at ≡ span.at + 32 * k → len ≡ min 32 (span.len - 32 * k) → bytes ≡ take len (drop (span.at + 32 * k) ram) → next ≡ old ++ flat_map line (map (row_words ram span) (range_with_len 0 (k + 1)))
unfolding row_words
one_more ram span k at len old text next bytes before added place size is =
    let row = row_words ram span k in
    let whole : bytes ≡ take (min 32 (span.len - 32 * k)) (drop (span.at + 32 * k) ram) = is ∙ ap (λ n. take n (drop (span.at + 32 * k) ram)) size in
    let words : (codes "m" ∷ hex 16 at ∷ hex_bytes bytes ∷ []) ≡ row = ap₂ (λ (a : ℕ) (bs : List ℕ). codes "m" ∷ hex 16 a ∷ hex_bytes bs ∷ []) place whole in
    let more : map (row_words ram span) (range_with_len 0 (k + 1)) ≡ map (row_words ram span) (range_with_len 0 k) ++ row ∷ [] = map-range_with_len_more (row_words ram span) 0 k k (omega arith) in
    added
    ∙ ap (λ ws. text ++ line ws) words
    ∙ ap (λ t. t ++ line row) before
    ∙ flat_map_more line old (map (row_words ram span) (range_with_len 0 k)) row
    ∙ ap (λ ws. old ++ flat_map line ws) (sym more)

pub loop-row-preserved : goal.loop-row-preserved
loop-row-preserved c =
    one_more c.args.ram.now c.args.span c.loop-row.row c.from.result c.min-len.result c.args.text.now c.loop-row.text c.add_row.new.text c.slice.result.now c.loop-row.invariant c.in_ok-add_row.ensures c.from.ensures c.min-len.ensures c.slice.ensures

pub returns : goal.returns
unfolding dump_words
returns c =
    let all : c.loop-row.row ≡ (c.args.span.len + 31) / 32 = omega arith in
    c.loop-row.invariant ∙ ap (λ n. c.args.text.now ++ flat_map line (map (row_words c.args.ram.now c.args.span) (range_with_len 0 n))) all
