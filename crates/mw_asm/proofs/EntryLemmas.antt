-- The entries of an image: what their statements give, and that they are the image's bytes where no reserved bit is set.
use Rattle.std.proofs.Common.{◌≡◌, ℕ, zero, suc, ◌+◌, ◌-◌, ◌*◌, ◌/◌, ◌%◌, ◌^◌, ◌<◌, ◌≤◌, Bool, true, false, true≢false, cond, List, [], ◌∷◌, ◌++◌, Option, Some, None, length, get_or, drop, replicate, refl, sym, ap, ◌∙◌, subst, ⊎_elim, append_assoc, arith}
use Rattle.std.specs.Prelude.{⊤, All, IfSome, is_some, flat_map}
use Rattle.std.specs.Option.{option_map_or}
use Rattle.std.specs.Hash.{le_bytes}
use Rattle.std.proofs.lemmas.Bool.{and_parts, cases_lt, ltb-true}
use Rattle.std.proofs.lemmas.List.{length-append, length-replicate, drop_more, drop_all, get_or_past, get_or_append_left, get_or-append_right, get_or-replicate}
use Rattle.std.proofs.lemmas.List.Elements.{All-nil, All-cons, All-head, All-tail, All-get_or}
use Rattle.mw_asm.specs.Values.{word_bytes}
use Rattle.mw_asm.specs.Assembled.{image_limit}
use Rattle.mw_asm.specs.Disassembly.{Entry, statement_of, image_byte, image_word, suffix_in, entry_at, entries_from, entries_of, word_count}
use Rattle.mw_asm.specs.Again.{encoded_entry, entry_bytes, IsClear, IsExactIfClear, encoded_image, filled_image}
use Rattle.mw_asm.proofs.PrintedForms.{GivesBytes}
use Rattle.mw_asm.proofs.EntryCodeLemmas.{size_by, IsEntry, entry_with-IsEntry}

-- the suffix of a word is the word behind it, and begins in the image
abbrev IsSuffix : List ℕ → ℕ → ℕ → Type 0
IsSuffix image at suffix = (suffix ≡ image_word image (at + 4)) × (at + 4 < length image)

tested-suffix : (image : List ℕ) (at : ℕ) (test : Bool) → (test ≡ true → at + 4 < length image) → IfSome (cond test (Some (image_word image (at + 4))) None) (IsSuffix image at)
tested-suffix image at true within = (refl, within refl)
tested-suffix image at false within = tt

suffix_in-IsSuffix : (image : List ℕ) (at : ℕ) → IfSome (suffix_in image at) (IsSuffix image at)
suffix_in-IsSuffix image at = tested-suffix image at _ (λ e. ltb-true _ _ (and_parts _ _ e).1)

-- the entry at an address has what an entry has
entry_at-IsEntry : (image : List ℕ) (at : ℕ) → IsEntry at (image_word image at) (suffix_in image at) (entry_at image at)
unfolding entry_at
entry_at-IsEntry image at = entry_with-IsEntry at (image_word image at) (suffix_in image at)

some-moved : (P : ℕ → Type 0) (own other : Option ℕ) → IfSome own (λ s. other ≡ Some s) → IfSome other P → IfSome own P
some-moved P None other same is = tt
some-moved P (Some s) other same is = let moved = subst (λ o. IfSome o P) same is in moved

-- an entry's suffix is the word behind
entry-suffix : (image : List ℕ) (at : ℕ) → IfSome (entry_at image at).suffix (IsSuffix image at)
entry-suffix image at = some-moved (IsSuffix image at) (entry_at image at).suffix (suffix_in image at) (entry_at-IsEntry image at).suffix_same (suffix_in-IsSuffix image at)

-- a byte of an image, or the zero behind it, is a byte
byte-below : (image : List ℕ) (at : ℕ) → All (λ byte. byte < 2 ^ 8) image → image_byte image at < 2 ^ 8
byte-below image at bytes =
    ⊎_elim
    (λ within. All-get_or (λ byte. byte < 2 ^ 8) image at 0 within bytes)
    (λ past. subst (λ n. n < 2 ^ 8) (sym (get_or_past image at 0 past)) (omega arith))
    (cases_lt at (length image))

sum-below : (a b c d : ℕ) → a < 2 ^ 8 → b < 2 ^ 8 → c < 2 ^ 8 → d < 2 ^ 8 → a + 256 * (b + 256 * (c + 256 * d)) < 2 ^ 32
sum-below a b c d p q r s = omega arith

-- a word of an image has 32 bits
word-below : (image : List ℕ) (at : ℕ) → All (λ byte. byte < 2 ^ 8) image → image_word image at < 2 ^ 32
word-below image at bytes = sum-below _ _ _ _ (byte-below image at bytes) (byte-below image (at + 1) bytes) (byte-below image (at + 2) bytes) (byte-below image (at + 3) bytes)

suffix-below : (image : List ℕ) (at : ℕ) → All (λ byte. byte < 2 ^ 8) image → (suffix : Option ℕ) → IfSome suffix (IsSuffix image at) → IfSome suffix (λ s. s < 2 ^ 32)
suffix-below image at bytes None is = tt
suffix-below image at bytes (Some s) is = subst (λ n. n < 2 ^ 32) (sym is.0) (word-below image (at + 4) bytes)

-- how far an entry reaches, by its suffix
reach-by : (image : List ℕ) (at left count : ℕ) (suffix : Option ℕ) → IfSome suffix (IsSuffix image at) → at + 4 * suc left ≡ 4 * count → length image ≤ 4 * count → at + size_by suffix ≤ 4 * count
reach-by image at left count None is ends whole = omega arith
reach-by image at left count (Some s) is ends whole = let within : at + 4 < length image = is.1 in omega arith

-- the entries from an address on give what they stand for
from-give : (image : List ℕ) (count : ℕ) → All (λ byte. byte < 2 ^ 8) image → length image ≤ 4 * count → 4 * count ≤ image_limit → (left : ℕ) (behind : Bool) (at : ℕ) → at + 4 * left ≡ 4 * count → All (λ (entry : Entry). GivesBytes entry.at (statement_of entry) (encoded_entry entry)) (entries_from left behind image at)
unfolding entries_from
from-give image count bytes whole room zero behind at ends = All-nil (λ (entry : Entry). GivesBytes entry.at (statement_of entry) (encoded_entry entry))
from-give image count bytes whole room (suc left) true at ends = from-give image count bytes whole room left false (at + 4) (omega arith)
from-give image count bytes whole room (suc left) false at ends =
    let is = entry_at-IsEntry image at in
    let reach = reach-by image at left count (entry_at image at).suffix (entry-suffix image at) ends whole in
    All-cons (λ (entry : Entry). GivesBytes entry.at (statement_of entry) (encoded_entry entry)) (entry_at image at) (entries_from left (is_some (entry_at image at).suffix) image (at + 4))
    (is.gives (word-below image at bytes) (omega arith))
    (from-give image count bytes whole room left (is_some (entry_at image at).suffix) (at + 4) (omega arith))

-- the words of an image hold it
count-whole : (image : List ℕ) → length image ≤ 4 * word_count image
count-whole image = omega arith

count-inside : (image : List ℕ) → length image ≤ image_limit → 4 * word_count image ≤ image_limit
count-inside image inside = omega arith

from-zero : (n : ℕ) → 0 + 4 * n ≡ 4 * n
from-zero n = omega arith

-- the statement of each entry gives what it stands for
pub entries-give : (image : List ℕ) → All (λ byte. byte < 2 ^ 8) image → length image ≤ image_limit → All (λ (entry : Entry). GivesBytes entry.at (statement_of entry) (encoded_entry entry)) (entries_of image)
entries-give image bytes inside = from-give image (word_count image) bytes (count-whole image) (count-inside image inside) (word_count image) false 0 (from-zero (word_count image))

-- the entries from an address on stand in the image
from-inside : (image : List ℕ) (count : ℕ) → 4 * count ≤ image_limit → (left : ℕ) (behind : Bool) (at : ℕ) → at + 4 * left ≡ 4 * count → All (λ (entry : Entry). entry.at ≤ image_limit) (entries_from left behind image at)
unfolding entries_from
from-inside image count room zero behind at ends = All-nil (λ (entry : Entry). entry.at ≤ image_limit)
from-inside image count room (suc left) true at ends = from-inside image count room left false (at + 4) (omega arith)
from-inside image count room (suc left) false at ends =
    All-cons (λ (entry : Entry). entry.at ≤ image_limit) (entry_at image at) (entries_from left (is_some (entry_at image at).suffix) image (at + 4))
    (subst (λ n. n ≤ image_limit) (sym (entry_at-IsEntry image at).place) (omega arith))
    (from-inside image count room left (is_some (entry_at image at).suffix) (at + 4) (omega arith))

-- each entry stands in the image
pub entries-inside : (image : List ℕ) → length image ≤ image_limit → All (λ (entry : Entry). entry.at ≤ image_limit) (entries_of image)
entries-inside image inside = from-inside image (word_count image) (count-inside image inside) (word_count image) false 0 (from-zero (word_count image))

-- entries stand behind each other, from an address on
abbrev pub AreBehind : ℕ → List Entry → Type 0
AreBehind at [] = ⊤
AreBehind at (entry ∷ entries) = (entry.at ≡ at) × AreBehind (at + length (encoded_entry entry)) entries

-- where the next entry stands, if its word is no suffix, and if it is
abbrev next_at : Bool → ℕ → ℕ
next_at false at = at
next_at true at = at + 4

behind-next : (at : ℕ) (suffix : Option ℕ) (size : ℕ) → size ≡ size_by suffix → next_at (is_some suffix) (at + 4) ≡ at + size
behind-next at None size is = omega arith
behind-next at (Some s) size is = omega arith

-- the entries from an address on stand behind each other
from-behind : (image : List ℕ) (left : ℕ) (behind : Bool) (at : ℕ) → AreBehind (next_at behind at) (entries_from left behind image at)
unfolding entries_from
from-behind image zero behind at = tt
from-behind image (suc left) true at = from-behind image left false (at + 4)
from-behind image (suc left) false at =
    let is = entry_at-IsEntry image at in (
      is.place,
      subst (λ n. AreBehind n (entries_from left (is_some (entry_at image at).suffix) image (at + 4)))
          (behind-next at (entry_at image at).suffix (length (encoded_entry (entry_at image at))) is.size)
          (from-behind image left (is_some (entry_at image at).suffix) (at + 4)),
    )

-- the first entry stands at 0, and each other one behind what the one before stands for
pub entries-behind : (image : List ℕ) → AreBehind 0 (entries_of image)
entries-behind image = from-behind image (word_count image) false 0

-- each entry from an address on stands for its words, where its reserved bits are 0
from-exact : (image : List ℕ) → All (λ byte. byte < 2 ^ 8) image → (left : ℕ) (behind : Bool) (at : ℕ) → All IsExactIfClear (entries_from left behind image at)
unfolding entries_from
from-exact image bytes zero behind at = All-nil IsExactIfClear
from-exact image bytes (suc left) true at = from-exact image bytes left false (at + 4)
from-exact image bytes (suc left) false at =
    All-cons IsExactIfClear (entry_at image at) (entries_from left (is_some (entry_at image at).suffix) image (at + 4))
    ((entry_at-IsEntry image at).exact (suffix-below image at bytes (suffix_in image at) (suffix_in-IsSuffix image at)))
    (from-exact image bytes left (is_some (entry_at image at).suffix) (at + 4))

-- an entry whose reserved bits are 0 stands for its words
pub entries-exact : (image : List ℕ) → All (λ byte. byte < 2 ^ 8) image → All IsExactIfClear (entries_of image)
entries-exact image bytes = from-exact image bytes (word_count image) false 0

-- entries that stand for their words, all together
all-exact : (entries : List Entry) → All IsExactIfClear entries → All IsClear entries → flat_map encoded_entry entries ≡ flat_map entry_bytes entries
all-exact [] exact clear = refl
all-exact (entry ∷ entries) exact clear =
    ap (λ bytes. bytes ++ flat_map encoded_entry entries) (All-head IsExactIfClear entry entries exact (All-head IsClear entry entries clear))
    ∙ ap (λ bytes. entry_bytes entry ++ bytes) (all-exact entries (All-tail IsExactIfClear entry entries exact) (All-tail IsClear entry entries clear))

-- so many words of an image from an address on, in bytes
abbrev words_from : ℕ → List ℕ → ℕ → List ℕ
words_from zero image at = []
words_from (suc left) image at = word_bytes (image_word image at) ++ words_from left image (at + 4)

-- the word at an address, where it is a suffix
abbrev suffix_bytes : Bool → List ℕ → ℕ → List ℕ
suffix_bytes true image at = word_bytes (image_word image at)
suffix_bytes false image at = []

-- the bytes of an entry's suffix are those of the word behind
suffix-bytes : (image : List ℕ) (at : ℕ) (suffix : Option ℕ) → IfSome suffix (IsSuffix image at) → option_map_or word_bytes suffix [] ≡ suffix_bytes (is_some suffix) image (at + 4)
suffix-bytes image at None is = refl
suffix-bytes image at (Some s) is = ap word_bytes is.0

-- the suffix of an entry is one of the words that are left
suffix-left : (image : List ℕ) (at left count : ℕ) (suffix : Option ℕ) → IfSome suffix (IsSuffix image at) → at + 4 * suc left ≡ 4 * count → length image ≤ 4 * count → is_some suffix ≡ true → 0 < left
suffix-left image at left count None is ends whole some = absurd (true≢false (sym some))
suffix-left image at left count (Some s) is ends whole some = let within : at + 4 < length image = is.1 in omega arith

-- the words of the entries are those of the image
from-words : (image : List ℕ) (count : ℕ) → length image ≤ 4 * count → (left : ℕ) (behind : Bool) (at : ℕ) → at + 4 * left ≡ 4 * count → (behind ≡ true → 0 < left) → suffix_bytes behind image at ++ flat_map entry_bytes (entries_from left behind image at) ≡ words_from left image at
unfolding entries_from
from-words image count whole zero false at ends some = refl
from-words image count whole zero true at ends some = let h : 0 < 0 = some refl in absurd (omega arith)
from-words image count whole (suc left) true at ends some =
    ap (λ bytes. word_bytes (image_word image at) ++ bytes) (from-words image count whole left false (at + 4) (omega arith) (λ e. absurd (true≢false (sym e))))
from-words image count whole (suc left) false at ends some =
    let is = entry_at-IsEntry image at in
    let own = entry-suffix image at in
    let suffix = (entry_at image at).suffix in
    let rest = flat_map entry_bytes (entries_from left (is_some suffix) image (at + 4)) in
    append_assoc (word_bytes (entry_at image at).word) (option_map_or word_bytes suffix []) rest
    ∙ ap (λ word. word_bytes word ++ (option_map_or word_bytes suffix [] ++ rest)) is.word_same
    ∙ ap (λ bytes. word_bytes (image_word image at) ++ (bytes ++ rest)) (suffix-bytes image at suffix own)
    ∙ ap (λ bytes. word_bytes (image_word image at) ++ bytes) (from-words image count whole left (is_some suffix) (at + 4) (omega arith) (suffix-left image at left count suffix own ends whole))

word_bytes-parts : (word a b c d : ℕ) → word % 256 ≡ a → word / 256 % 256 ≡ b → word / 65536 % 256 ≡ c → word / 16777216 % 256 ≡ d → word_bytes word ≡ a ∷ b ∷ c ∷ d ∷ []
unfolding le_bytes
word_bytes-parts word a b c d p q r s = rw (p, q, r, s) refl

-- a word's bytes are the four that it is made of
four-bytes : (a b c d : ℕ) → a < 2 ^ 8 → b < 2 ^ 8 → c < 2 ^ 8 → d < 2 ^ 8 → word_bytes (a + 256 * (b + 256 * (c + 256 * d))) ≡ a ∷ b ∷ c ∷ d ∷ []
four-bytes a b c d p q r s = word_bytes-parts (a + 256 * (b + 256 * (c + 256 * d))) a b c d (omega arith) (omega arith) (omega arith) (omega arith)

word-bytes : (image : List ℕ) (at : ℕ) → All (λ byte. byte < 2 ^ 8) image → word_bytes (image_word image at) ≡ image_byte image at ∷ image_byte image (at + 1) ∷ image_byte image (at + 2) ∷ image_byte image (at + 3) ∷ []
word-bytes image at bytes = four-bytes _ _ _ _ (byte-below image at bytes) (byte-below image (at + 1) bytes) (byte-below image (at + 2) bytes) (byte-below image (at + 3) bytes)

zeros-at : (count i : ℕ) → get_or {A = ℕ} (replicate count 0) i 0 ≡ 0
zeros-at count i =
    ⊎_elim
    (λ within. get_or-replicate count i 0 0 within)
    (λ past. get_or_past (replicate count 0) i 0 (subst (λ n. n ≤ i) (sym (length-replicate {A = ℕ} count 0)) past))
    (cases_lt i count)

-- zeros behind an image change none of its bytes
filled-byte : (image : List ℕ) (zeros i : ℕ) → get_or (image ++ replicate zeros 0) i 0 ≡ image_byte image i
filled-byte image zeros i =
    ⊎_elim
    (λ within. get_or_append_left image (replicate zeros 0) 0 i within)
    (λ past. get_or-append_right image (replicate zeros 0) (length image) i 0 refl past ∙ zeros-at zeros (i - length image) ∙ sym (get_or_past image i 0 past))
    (cases_lt i (length image))

drop-next : (bytes : List ℕ) (i j : ℕ) → j ≡ i + 1 → i < length bytes → drop i bytes ≡ get_or bytes i 0 ∷ drop j bytes
drop-next bytes i j next within = drop_more bytes i 0 within ∙ ap (λ n. get_or bytes i 0 ∷ drop n bytes) (sym next)

-- four bytes in front of the rest
drop-four : (bytes : List ℕ) (at : ℕ) → at + 3 < length bytes → drop at bytes ≡ get_or bytes at 0 ∷ get_or bytes (at + 1) 0 ∷ get_or bytes (at + 2) 0 ∷ get_or bytes (at + 3) 0 ∷ drop (at + 4) bytes
drop-four bytes at within =
    drop-next bytes at (at + 1) refl (omega arith)
    ∙ ap (λ rest. get_or bytes at 0 ∷ rest) (drop-next bytes (at + 1) (at + 2) (omega arith) (omega arith))
    ∙ ap (λ rest. get_or bytes at 0 ∷ get_or bytes (at + 1) 0 ∷ rest) (drop-next bytes (at + 2) (at + 3) (omega arith) (omega arith))
    ∙ ap (λ rest. get_or bytes at 0 ∷ get_or bytes (at + 1) 0 ∷ get_or bytes (at + 2) 0 ∷ rest) (drop-next bytes (at + 3) (at + 4) (omega arith) within)

same-four : (a b c d e f g h : ℕ) (rest : List ℕ) → e ≡ a → f ≡ b → g ≡ c → h ≡ d → ◌≡◌ {A = List ℕ} (a ∷ b ∷ c ∷ d ∷ rest) (e ∷ f ∷ g ∷ h ∷ rest)
same-four a b c d e f g h rest p q r s = rw (p, q, r, s) refl

-- the words of an image are its bytes, where it is filled
words-drop : (image filled : List ℕ) → All (λ byte. byte < 2 ^ 8) image → ((i : ℕ) → get_or filled i 0 ≡ image_byte image i) → (left at : ℕ) → at + 4 * left ≡ length filled → words_from left image at ≡ drop at filled
words-drop image filled bytes same zero at ends = sym (drop_all at filled (omega arith))
words-drop image filled bytes same (suc left) at ends =
    ap (λ four. four ++ words_from left image (at + 4)) (word-bytes image at bytes)
    ∙ ap (λ rest. image_byte image at ∷ image_byte image (at + 1) ∷ image_byte image (at + 2) ∷ image_byte image (at + 3) ∷ rest) (words-drop image filled bytes same left (at + 4) (omega arith))
    ∙ same-four _ _ _ _ _ _ _ _ (drop (at + 4) filled) (same at) (same (at + 1)) (same (at + 2)) (same (at + 3))
    ∙ sym (drop-four filled at (omega arith))

-- a filled image has so many words
whole-length : (image : List ℕ) (count : ℕ) → length image ≤ 4 * count → length (image ++ replicate (4 * count - length image) 0) ≡ 0 + 4 * count
whole-length image count whole = omega (arith, length-append image (replicate (4 * count - length image) 0), length-replicate {A = ℕ} (4 * count - length image) 0)

-- what the statements of an image stand for is the image, if no reserved bit is set
pub entries-whole : (image : List ℕ) → All (λ byte. byte < 2 ^ 8) image → All IsClear (entries_of image) → encoded_image image ≡ filled_image image
entries-whole image bytes clear =
    all-exact (entries_of image) (entries-exact image bytes) clear
    ∙ from-words image (word_count image) (count-whole image) (word_count image) false 0 (from-zero (word_count image)) (λ e. absurd (true≢false (sym e)))
    ∙ words-drop image (filled_image image) bytes (filled-byte image (4 * word_count image - length image)) (word_count image) 0 (sym (whole-length image (word_count image) (count-whole image)))
