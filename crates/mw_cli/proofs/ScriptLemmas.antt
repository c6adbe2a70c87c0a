-- A script that is read up to one byte past its limit shows what the whole text gives.
use Rattle.std.proofs.Common.{◌≡◌, ℕ, inl, inr, ◌+◌, List, length, take, Some, None, Result, Ok, Err, IfOk, IfErr, IfSome, refl, sym, ap, ◌∙◌, arith}
use Rattle.std.proofs.lemmas.Bool.{cases_lt}
use Rattle.std.proofs.lemmas.List.{take_all, take-take, length-take}
use Rattle.mw_io.specs.Outside.{HostState, Counts, content_of}
use Rattle.mw_uart.specs.Script.{Place, place_behind, script_of}
use Rattle.mw_uart.proofs.Laws.{script_of-long}
use Rattle.mw_cli.specs.declared.status.Status.TheVariants.{Done, ReadFault}
use Rattle.mw_cli.specs.declared.refusal.Refusal.{Refusal}
use Rattle.mw_cli.specs.Numbers.{status_of}
use Rattle.mw_cli.specs.declared.refusal.Refusal.TheVariants.{Unreadable, Unwritable, TooLarge, Bad, OutOfMemory}
use Rattle.mw_cli.specs.Outside.{Change}
use Rattle.mw_cli.specs.Stages.{ending, IsFront, IsReadRefusal, IsTextRefusal, IsScript, IsScriptRefusal}
use Rattle.mw_cli.proofs.FileLemmas.{Files}

-- the front of a text up to one byte past the limit gives what the text gives
front-gives : (text : List ℕ) → script_of (take 1048577 text) ≡ script_of text
front-gives text = elim (cases_lt 1048576 (length text)) [
  | inr short ↦ ap script_of (take_all 1048577 text (omega arith))
  | inl long ↦
      script_of-long (take 1048577 text) (omega (arith, length-take 1048577 text))
      ∙ ap (λ (front : List ℕ). Err (place_behind front)) (take-take 1048576 1048577 text (omega arith))
      ∙ sym (script_of-long text long)
]

-- what the front of a script's file gives, the file gives
pub script-gives : (files : Files) (name bytes : List ℕ) (r : Result (List (ℕ × ℕ)) Place) → IfSome files (λ told. bytes ≡ take (1048576 + 1) (content_of told name)) → script_of bytes ≡ r → (text : List ℕ) × IfSome files (λ told. text ≡ content_of told name) × (script_of text ≡ r)
script-gives None name bytes r front e = (bytes, tt, e)
script-gives (Some told) name bytes r front e = (content_of told name, refl, sym (front-gives (content_of told name)) ∙ ap script_of (sym front) ∙ e)

-- a file that isn't read gives no script
pub script-unread : (host : Change HostState) (name : List ℕ) (refusal : Refusal) → IsReadRefusal host name refusal → IsScriptRefusal host name refusal
script-unread host name (Unreadable which) cause = cause
script-unread host name TooLarge cause = cause
script-unread host name (Bad which line column) cause = absurd cause
script-unread host name Unwritable cause = cause
script-unread host name OutOfMemory cause = cause

-- a script that a text of the file gives is the file's script
pub script-told : (host : Change HostState) (name bytes text : List ℕ) (r : Result (List (ℕ × ℕ)) Refusal) → text ≡ bytes → IsFront host (record { name = name; most = 1048576 }) bytes → IfOk r (λ script. script_of text ≡ Ok script) → IfOk r (IsScript host name)
script-told host name bytes text (Ok script) is front e = script-gives host.before.files name bytes (Ok script) front (ap script_of (sym is) ∙ e)
script-told host name bytes text (Err refusal) is front e = tt

refusal-told : (host : Change HostState) (name bytes text : List ℕ) (refusal : Refusal) → text ≡ bytes → IsFront host (record { name = name; most = 1048576 }) bytes → IsTextRefusal name text refusal → IsScriptRefusal host name refusal
refusal-told host name bytes text (Unreadable which) is front e = absurd e
refusal-told host name bytes text TooLarge is front e = absurd e
refusal-told host name bytes text (Bad which line column) is front (same, e) = (same, script-gives host.before.files name bytes (Err (record { line = line; column = column })) front (ap script_of (sym is) ∙ e))
refusal-told host name bytes text Unwritable is front e = absurd e
refusal-told host name bytes text OutOfMemory is front e = tt

pub script-refused : (host : Change HostState) (name bytes text : List ℕ) (r : Result (List (ℕ × ℕ)) Refusal) → text ≡ bytes → IsFront host (record { name = name; most = 1048576 }) bytes → IfErr r (IsTextRefusal name text) → IfErr r (IsScriptRefusal host name)
script-refused host name bytes text (Ok script) is front e = tt
script-refused host name bytes text (Err refusal) is front e = refusal-told host name bytes text refusal is front e

-- a text that gives no script was read
text-read : (name text : List ℕ) (refusal : Refusal) → IsTextRefusal name text refusal → status_of refusal ≡ ReadFault → ⊥
text-read name text (Unreadable which) cause e = absurd cause
text-read name text TooLarge cause e = absurd cause
text-read name text (Bad which line column) cause e = cc
text-read name text Unwritable cause e = absurd cause
text-read name text OutOfMemory cause e = cc

pub text-calm : (name text : List ℕ) (before after : ℕ) (r : Result (List (ℕ × ℕ)) Refusal) → after ≡ before → IfErr r (IsTextRefusal name text) → Counts before after (ending r ≡ ReadFault)
text-calm name text before after (Ok script) e cause = record { later = omega arith; rose = λ (c : Done ≡ ReadFault). cc; stays = λ n. e }
text-calm name text before after (Err refusal) e cause = record { later = omega arith; rose = λ c. absurd (text-read name text refusal cause c); stays = λ n. e }
