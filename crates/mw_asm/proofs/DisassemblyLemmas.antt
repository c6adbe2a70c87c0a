-- The operands of an instruction as they are printed, and the lines of an image.
use Rattle.std.proofs.Common.{◌≡◌, ℕ, suc, ◌+◌, ◌-◌, ◌*◌, ◌<◌, ◌≤◌, ◌==◌, Bool, true, false, not, if◌then◌else◌, List, [], ◌∷◌, ◌++◌, Some, None, length, drop, get_or, slice_get, codes, refl, sym, ap, ◌∙◌, append_assoc, arith}
use Rattle.std.proofs.lemmas.Bool.{ne_eqb}
use Rattle.std.proofs.lemmas.List.{append-nil, drop_more, drop_all}
use Rattle.std.specs.Prelude.{ℤ, flat_map, is_some}
use Rattle.std.proofs.Math.ListN.{length-append}
use Rattle.mw_digits.proofs.DigitLaws.{signed-some}
use Rattle.mw_syntax.specs.declared.item.Kind.{Kind}
use Rattle.mw_syntax.specs.declared.item.Kind.TheVariants.{Register, Value, Target, Upper}
use Rattle.mw_syntax.specs.declared.item.Item.{Item}
use Rattle.mw_syntax.specs.declared.item.Item.TheVariants.{Operand, Comma, Open, Close}
use Rattle.mw_asm.specs.Disassembly.{operand_text, operands_text, behind_name, entry_text, entry_at, entries_from, word_count, disassembly}

-- an operand has a byte
pub operand-some : (kind : Kind) (aa : Bool) (at : ℕ) (z : ℤ) → 0 < length (operand_text kind aa at z)
operand-some Register aa at z = omega arith
operand-some Target aa at z = omega arith
operand-some Value aa at z = signed-some z
operand-some Upper aa at z = signed-some z

-- what has a byte stands behind a blank
pub behind-some : (bytes : List ℕ) → 0 < length bytes → behind_name bytes ≡ 32 ∷ bytes
behind-some [] some = absurd (omega arith)
behind-some (byte ∷ bytes) some = refl

-- what is printed behind a name, by what the operand list begins with
pub behind-none : (items : List Item) (zs : List ℤ) → slice_get items 0 ≡ None → (aa : Bool) (at : ℕ) → behind_name (operands_text items aa at zs) ≡ []
unfolding operands_text
behind-none [] zs given aa at = refl
behind-none (item ∷ items) zs given aa at = absurd (cc)

pub behind-operand : (items : List Item) (kind : Kind) (zs : List ℤ) → slice_get items 0 ≡ Some (Operand kind) → (aa : Bool) (at : ℕ) → behind_name (operands_text items aa at zs) ≡ (if not (length zs == 0) then 32 ∷ operands_text items aa at zs else [])
unfolding operands_text
behind-operand [] kind zs given aa at = absurd (cc)
behind-operand (Operand other ∷ items) kind [] given aa at = refl
behind-operand (Operand other ∷ items) kind (z ∷ zs) given aa at =
    let some = operand-some other aa at z in
    let there : (length (z ∷ zs) == 0) ≡ false = ne_eqb (length (z ∷ zs)) 0 (λ e. omega (arith, e)) in
    rw there (behind-some (operand_text other aa at z ++ operands_text items aa at zs) (omega (arith, length-append (operand_text other aa at z) (operands_text items aa at zs))))
behind-operand (Comma ∷ items) kind zs given aa at = absurd (cc)
behind-operand (Open ∷ items) kind zs given aa at = absurd (cc)
behind-operand (Close ∷ items) kind zs given aa at = absurd (cc)

pub behind-comma : (items : List Item) (zs : List ℤ) → slice_get items 0 ≡ Some Comma → (aa : Bool) (at : ℕ) → behind_name (operands_text items aa at zs) ≡ 32 ∷ operands_text items aa at zs
unfolding operands_text
behind-comma [] zs given aa at = absurd (cc)
behind-comma (Operand kind ∷ items) zs given aa at = absurd (cc)
behind-comma (Comma ∷ items) zs given aa at = refl
behind-comma (Open ∷ items) zs given aa at = absurd (cc)
behind-comma (Close ∷ items) zs given aa at = absurd (cc)

pub behind-open : (items : List Item) (zs : List ℤ) → slice_get items 0 ≡ Some Open → (aa : Bool) (at : ℕ) → behind_name (operands_text items aa at zs) ≡ 32 ∷ operands_text items aa at zs
unfolding operands_text
behind-open [] zs given aa at = absurd (cc)
behind-open (Operand kind ∷ items) zs given aa at = absurd (cc)
behind-open (Comma ∷ items) zs given aa at = absurd (cc)
behind-open (Open ∷ items) zs given aa at = refl
behind-open (Close ∷ items) zs given aa at = absurd (cc)

pub behind-close : (items : List Item) (zs : List ℤ) → slice_get items 0 ≡ Some Close → (aa : Bool) (at : ℕ) → behind_name (operands_text items aa at zs) ≡ 32 ∷ operands_text items aa at zs
unfolding operands_text
behind-close [] zs given aa at = absurd (cc)
behind-close (Operand kind ∷ items) zs given aa at = absurd (cc)
behind-close (Comma ∷ items) zs given aa at = absurd (cc)
behind-close (Open ∷ items) zs given aa at = absurd (cc)
behind-close (Close ∷ items) zs given aa at = refl

-- no operand is printed where none is left for the list
pub text-without : (items : List Item) (i : ℕ) (d : Item) (kind : Kind) (zs : List ℤ) (place : ℕ) (aa : Bool) (at : ℕ) → i < length items → get_or items i d ≡ Operand kind → length zs ≤ place → operands_text (drop i items) aa at (drop place zs) ≡ []
unfolding operands_text
text-without items i d kind zs place aa at lt is none = rw (drop_more items i d lt, is, drop_all place zs none) refl

-- the text of an operand that stands next in an operand list
pub text-operand : (items : List Item) (i : ℕ) (d : Item) (kind : Kind) (zs : List ℤ) (place : ℕ) (z : ℤ) (aa : Bool) (at : ℕ) → i < length items → get_or items i d ≡ Operand kind → place < length zs → z ≡ get_or zs place z → operands_text (drop i items) aa at (drop place zs) ≡ operand_text kind aa at z ++ operands_text (drop (i + 1) items) aa at (drop (place + 1) zs)
unfolding operands_text
text-operand items i d kind zs place z aa at lt is there e = rw (drop_more items i d lt, is, drop_more zs place z there, ← e) refl

-- the text of a mark that stands next in an operand list
pub text-comma : (items : List Item) (i : ℕ) (d : Item) (zs : List ℤ) (aa : Bool) (at : ℕ) → i < length items → get_or items i d ≡ Comma → operands_text (drop i items) aa at zs ≡ codes "," ++ operands_text (drop (i + 1) items) aa at zs
unfolding operands_text
text-comma items i d zs aa at lt is = rw (drop_more items i d lt, is) refl

pub text-open : (items : List Item) (i : ℕ) (d : Item) (zs : List ℤ) (aa : Bool) (at : ℕ) → i < length items → get_or items i d ≡ Open → operands_text (drop i items) aa at zs ≡ codes "(" ++ operands_text (drop (i + 1) items) aa at zs
unfolding operands_text
text-open items i d zs aa at lt is = rw (drop_more items i d lt, is) refl

pub text-close : (items : List Item) (i : ℕ) (d : Item) (zs : List ℤ) (aa : Bool) (at : ℕ) → i < length items → get_or items i d ≡ Close → operands_text (drop i items) aa at zs ≡ codes ")" ++ operands_text (drop (i + 1) items) aa at zs
unfolding operands_text
text-close items i d zs aa at lt is = rw (drop_more items i d lt, is) refl

-- nothing is printed behind the last item of an operand list
pub text-end : (items : List Item) (i : ℕ) (zs : List ℤ) (aa : Bool) (at : ℕ) → length items ≤ i → operands_text (drop i items) aa at zs ≡ []
unfolding operands_text
text-end items i zs aa at end = rw (drop_all i items end) refl

-- a text grows by a piece of what is left to be written
pub piece-more : (text next piece left rest whole : List ℕ) → next ≡ text ++ piece → left ≡ piece ++ rest → text ++ left ≡ whole → next ++ rest ≡ whole
piece-more text next piece left rest whole added is same =
    ap (λ t. t ++ rest) added ∙ append_assoc text piece rest ∙ ap (λ l. text ++ l) (sym is) ∙ same

-- a text is whole where nothing is left to be written
pub piece-none : (text left whole : List ℕ) → left ≡ [] → text ++ left ≡ whole → text ≡ whole
piece-none text left whole none same = sym (append-nil text) ∙ ap (λ l. text ++ l) (sym none) ∙ same

-- the lines of the entries of so many words from an address on
abbrev pub lines_from : ℕ → Bool → List ℕ → ℕ → List ℕ
lines_from left suffix image at = flat_map entry_text (entries_from left suffix image at)

-- the lines of all words
pub lines-all : (image : List ℕ) → lines_from (word_count image - 0) false image (4 * 0) ≡ disassembly image
unfolding disassembly
lines-all image =
    let e : word_count image - 0 ≡ word_count image = omega arith in
    ap (λ n. lines_from n false image 0) e

-- a suffix has no line of its own
pub lines-suffix : (count place : ℕ) (image : List ℕ) → place < count → lines_from (count - place) true image (4 * place) ≡ lines_from (count - (place + 1)) false image (4 * (place + 1))
unfolding entries_from
lines-suffix count place image lt =
    let left : count - place ≡ suc (count - (place + 1)) = omega arith in
    let at : 4 * place + 4 ≡ 4 * (place + 1) = omega arith in
    rw left (ap (lines_from (count - (place + 1)) false image) at)

-- the line of a word, in front of the others
pub lines-word : (count place : ℕ) (image : List ℕ) → place < count → lines_from (count - place) false image (4 * place) ≡ entry_text (entry_at image (4 * place)) ++ lines_from (count - (place + 1)) (is_some (entry_at image (4 * place)).suffix) image (4 * (place + 1))
unfolding entries_from
lines-word count place image lt =
    let left : count - place ≡ suc (count - (place + 1)) = omega arith in
    let at : 4 * place + 4 ≡ 4 * (place + 1) = omega arith in
    rw left (ap (λ a. entry_text (entry_at image (4 * place)) ++ lines_from (count - (place + 1)) (is_some (entry_at image (4 * place)).suffix) image a) at)

-- no line is left
pub lines-none : (count place : ℕ) (suffix : Bool) (image : List ℕ) (at : ℕ) → count ≤ place → lines_from (count - place) suffix image at ≡ []
unfolding entries_from
lines-none count place suffix image at end =
    let left : count - place ≡ 0 = omega arith in
    rw left refl
