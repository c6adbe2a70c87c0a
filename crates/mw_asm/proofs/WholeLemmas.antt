-- The statements of a whole image, each at its address and all in one source.
use Rattle.std.proofs.Common.{◌≡◌, ℕ, zero, suc, ◌+◌, ◌^◌, ◌<◌, ◌≤◌, List, [], ◌∷◌, ◌++◌, Ok, get_or, length, map, refl, sym, ap, subst, ◌∙◌, append_assoc, arith}
use Rattle.std.specs.Prelude.{All, flat_map}
use Rattle.std.specs.List.{concat}
use Rattle.std.proofs.lemmas.List.{get_or_default}
use Rattle.mw_asm.specs.Assembled.{image_limit, source_limit, assembled}
use Rattle.mw_asm.specs.Disassembly.{Entry, statement_of, entries_of}
use Rattle.mw_asm.specs.Again.{AssemblesAgain, encoded_entry, encoded_image, statements_of}
use Rattle.mw_asm.proofs.PrintedForms.{GivesBytes}
use Rattle.mw_asm.proofs.GivenLinesLemmas.{AreGiven, source_of, given-assembled}
use Rattle.mw_asm.proofs.SourceTextLemmas.{gives-AssemblesTo}
use Rattle.mw_asm.proofs.EntryLemmas.{AreBehind, entries-give, entries-inside, entries-behind}

-- bytes that are below 256 at every place are below 2^8
pub bytes-small : (image : List ℕ) → ((place : ℕ) → get_or image place 0 < 256) → All (λ byte. byte < 2 ^ 8) image
bytes-small image small place other within = subst (λ byte. byte < 2 ^ 8) (get_or_default image place 0 other within) (small place)

-- the entry's statement gives what it stands for at its address
abbrev GivesCode : Entry → Type 0
GivesCode entry = GivesBytes entry.at (statement_of entry) (encoded_entry entry)

-- the statement of each entry of an image assembles at its address to what it stands for
pub image-again : (image : List ℕ) → All (λ byte. byte < 2 ^ 8) image → length image ≤ image_limit → All AssemblesAgain (entries_of image)
image-again image bytes inside place other within =
    let entry = get_or (entries_of image) place other in
    gives-AssemblesTo entry.at (statement_of entry) (encoded_entry entry) (entries-inside image inside place other within) (entries-give image bytes inside place other within)

-- entries behind each other give lines behind each other
entries-given : (at : ℕ) (entries : List Entry) → All GivesCode entries → AreBehind at entries → AreGiven at (map statement_of entries) (map encoded_entry entries)
entries-given at [] give behind = tt
entries-given at (entry ∷ entries) give behind = (
  subst (λ a. GivesBytes a (statement_of entry) (encoded_entry entry)) behind.0 (give zero entry (omega arith)),
  entries-given (at + length (encoded_entry entry)) entries (λ k d lt. give (suc k) d (omega arith)) behind.1,
)

-- the source of an image's statements has a line for each entry
source-statements : (entries : List Entry) → source_of (map statement_of entries) ≡ flat_map (λ entry. statement_of entry ++ 10 ∷ []) entries
source-statements [] = refl
source-statements (entry ∷ entries) =
    ap (λ rest. statement_of entry ++ 10 ∷ rest) (source-statements entries)
    ∙ sym (append_assoc (statement_of entry) (10 ∷ []) (flat_map (λ e. statement_of e ++ 10 ∷ []) entries))

-- what statements stand for, one behind the other
concat-codes : (entries : List Entry) → concat (map encoded_entry entries) ≡ flat_map encoded_entry entries
concat-codes [] = refl
concat-codes (entry ∷ entries) = ap (λ rest. encoded_entry entry ++ rest) (concat-codes entries)

-- the statements of an image in one source
pub image-assembled : (image : List ℕ) → All (λ byte. byte < 2 ^ 8) image → length image ≤ image_limit → length (statements_of image) ≤ source_limit → assembled (statements_of image) ≡ Ok (encoded_image image)
image-assembled image bytes inside short =
    let entries = entries_of image in
    let same = source-statements entries in
    let given = entries-given 0 entries (entries-give image bytes inside) (entries-behind image) in
    ap assembled (sym same)
    ∙ given-assembled (map statement_of entries) (map encoded_entry entries) given (subst (λ text. length text ≤ source_limit) (sym same) short)
    ∙ ap Ok (concat-codes entries)
