-- Words and back, of the definitions alone.
use Rattle.std.proofs.Common.{rules, ◌≡◌, ℕ, true, false, Ok, IsTrue, IfOk}
use Rattle.mw_prefix.specs.declared.wide.Wide.{Wide}
use Rattle.mw_prefix.specs.declared.wide.Wide.TheVariants.{Mls, Eight, Nop}
use Rattle.mw_prefix.specs.Wide.{IsWide, split_of, prefix_of, suffix_of, is_unreserved}

-- the words of a prefixed instruction are that instruction
pub split_of-words : (wide : Wide) → IsWide wide → split_of (prefix_of wide) (suffix_of wide) ≡ Ok wide
split_of-words (Mls true disp suffix) fits = search rules
split_of-words (Mls false disp suffix) fits = search rules
split_of-words (Eight true disp suffix) fits = search rules
split_of-words (Eight false disp suffix) fits = search rules
split_of-words (Nop suffix) fits = search rules

-- what two words are has these words, where the prefix's reserved bits are 0
pub words-split_of : (prefix suffix : ℕ) → IsTrue (is_unreserved prefix) → IfOk (split_of prefix suffix) (λ wide. (prefix_of wide ≡ prefix) × (suffix_of wide ≡ suffix))
words-split_of prefix suffix clear = search rules

-- what two words are fits its words
pub split_of-fits : (prefix suffix : ℕ) → IfOk (split_of prefix suffix) IsWide
split_of-fits prefix suffix = search rules
