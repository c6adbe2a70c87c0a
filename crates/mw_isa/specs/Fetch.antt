-- The words that an instruction is made of (Book I, instruction fetching, prefixed instructions).
use Rattle.std.specs.Prelude.{ℕ, ◌+◌, ◌%◌, ◌^◌, Bool, false, not, ◌&&◌, if◌then◌else◌, nat_le, List, Option, Some, None, is_some, Result, Ok, Err}
use Rattle.std.specs.Option.{option_map_or}
use Rattle.mw_bus.specs.Memory.{word_at}
use Rattle.mw_decode.specs.Decode.{is_prefix}
use Rattle.mw_isa.specs.declared.access.Kind.TheVariants.{Fetch}
use Rattle.mw_isa.specs.declared.fetched.Fetched.{Fetched}
use Rattle.mw_isa.specs.declared.pages.Page.{Page}
use Rattle.mw_isa.specs.declared.pages.StorageFault.{StorageFault}
use Rattle.mw_isa.specs.declared.regs.Regs.{Regs}
use Rattle.mw_isa.specs.Pages.{page_of}
use Rattle.mw_isa.specs.State.{State}
use Rattle.mw_isa.specs.Translate.{page_real}

-- the address behind the word at an address
abbrev pub behind : ℕ → ℕ
behind at = (at + 4) % 2 ^ 64

-- the four bytes of the word at an address
abbrev pub word_page : ℕ → Page
word_page at = page_of Fetch at 4

-- the real address of the word at the registers' address, by the tables in RAM, or what is wrong with its page
abbrev pub fetch_at : List ℕ → Regs → Result ℕ StorageFault
fetch_at ram regs = page_real ram regs (word_page regs.cia)

-- the block of 64 bytes that a word stands in has the word behind it too
abbrev pub has_room : ℕ → Bool
has_room real = nat_le (real % 64 + 8) 64

-- the suffix of a word at a real address; a prefix that ends its block has none
abbrev pub suffix_at : List ℕ → ℕ → ℕ → Option ℕ
suffix_at ram real word = if is_prefix word && has_room real then Some (word_at false ram (real + 4)) else None

-- what is fetched at a real address
unfoldable pub fetched_at : List ℕ → ℕ → Fetched
fetched_at ram real = record { word = word_at false ram real; suffix = suffix_at ram real (word_at false ram real) }

-- what is fetched where the fetch gives a real address
abbrev pub fetched_by : List ℕ → Result ℕ StorageFault → Option Fetched
fetched_by ram (Ok real) = Some (fetched_at ram real)
fetched_by ram (Err fault) = None

-- what the next instruction is made of, if its fetch succeeds
abbrev pub fetched : State → Option Fetched
fetched state = fetched_by state.ram (fetch_at state.ram state.regs)

-- a prefix that ends a block of 64 bytes, and so has no suffix
abbrev pub is_cut : Fetched → Bool
is_cut words = is_prefix words.word && not (is_some words.suffix)

-- the word that was fetched; 0 where the fetch failed
abbrev pub word_of : Option Fetched → ℕ
word_of words = option_map_or (λ there. there.word) words 0

-- the suffix that was fetched
abbrev pub suffix_of : Option Fetched → Option ℕ
suffix_of None = None
suffix_of (Some words) = words.suffix
