-- What a token is by itself, and that those of a line are the longest at their places. The numbers here may have any size.
use Rattle.std.specs.Prelude.{◌≡◌, ℕ, ◌-◌, ◌<◌, ◌≤◌, ◌==◌, nat_lt, Bool, true, false, ◌&&◌, ◌||◌, List, [], ◌∷◌, length, take, drop, All}
use Rattle.std.specs.List.{list_all}
use Rattle.std.specs.Char.{is_ascii_digit, is_ascii_hexdigit}
use Rattle.mw_text.specs.declared.token.Token.{Token}
use Rattle.mw_text.specs.Pieces.{begins_hexadecimal, begins_word, is_of_word}

-- the text is a word
abbrev pub is_word : List ℕ → Bool
is_word text = begins_word text && list_all is_of_word text

-- the text is a decimal number, of any size
abbrev pub is_decimal : List ℕ → Bool
is_decimal text = nat_lt 0 (length text) && list_all is_ascii_digit text

-- the text is a hexadecimal number, of any size
abbrev pub is_hexadecimal : List ℕ → Bool
is_hexadecimal text = begins_hexadecimal text && list_all is_ascii_hexdigit (drop 2 text)

-- the text is one of `,` `:` `(` `)` `+` `-` `.`
abbrev pub is_mark : List ℕ → Bool
is_mark [] = false
is_mark (byte ∷ []) = byte == 44 || byte == 58 || byte == 40 || byte == 41 || byte == 43 || byte == 45 || byte == 46
is_mark (byte ∷ other ∷ rest) = false

-- the text is that of a token
abbrev pub is_token : List ℕ → Bool
is_token text = is_word text || is_decimal text || is_hexadecimal text || is_mark text

-- so many bytes of the rest are a token, and no more of them are
pub record IsLongest (rest : List ℕ) (size : ℕ) : Type 0 where
  pub is : is_token (take size rest) ≡ true
  pub longest : (more : ℕ) → size < more → more ≤ length rest → is_token (take more rest) ≡ false

-- each token's text is a token, and no longer text at its place is
abbrev pub AreLongest : List ℕ → List Token → Type 0
AreLongest line tokens = All (λ (token : Token). IsLongest (drop token.from line) (token.to - token.from)) tokens
