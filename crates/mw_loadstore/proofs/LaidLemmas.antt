-- Bytes that are laid by pieces are laid in the stretches.
use Rattle.std.proofs.Common.{◌≡◌, ℕ, ◌+◌, ◌-◌, ◌%◌, ◌^◌, ◌<◌, ◌≤◌, Bool, true, false, cond, List, length, take, drop, Option, Some, None, refl, sym, ap, ◌∙◌, arith}
use Rattle.std.proofs.lemmas.List.{take-append-drop, length-take-le}
use Rattle.std.proofs.lemmas.Bool.Decides.{nat_tests}
use Rattle.mw_bus.specs.Memory.{laid}
use Rattle.mw_bus.proofs.StorageLemmas.{laid-append}
use Rattle.mw_isa.specs.declared.pages.Stretch.{Stretch}
use Rattle.mw_isa.specs.declared.pages.Stretches.{Stretches}
use Rattle.mw_isa.specs.Pages.{laid_by, laid_in}
use Rattle.mw_loadstore.specs.Pieces.{room_of, pieces_from, pieces_by, pieces_in}

-- bytes that are laid in two pieces side by side are laid whole
two-laid : (ram : List ℕ) (at front : ℕ) (bytes : List ℕ) → at + length bytes < 2 ^ 60 → front ≤ length bytes → laid (laid ram at (take front bytes)) (at + front) (drop front bytes) ≡ laid ram at bytes
two-laid ram at front bytes below part =
    let low : at < 2 ^ 60 = omega arith in
    let sized : length (take front bytes) ≡ front = length-take-le front bytes part in
    let place : (at + length (take front bytes)) % 2 ^ 60 ≡ at + front = ap (λ (n : ℕ). (at + n) % 2 ^ 60) sized ∙ omega arith in
    sym (ap (laid ram at) (sym (take-append-drop front bytes)) ∙ laid-append ram at (take front bytes) (drop front bytes) low ∙ ap (λ (n : ℕ). laid (laid ram at (take front bytes)) n (drop front bytes)) place)

-- bytes that are laid in the pieces of a stretch are laid in the stretch
one-laid : (b : Bool) (ram : List ℕ) (first : Stretch) (bytes : List ℕ) → (first.at + length bytes < 2 ^ 60) → (length bytes ≡ first.len) → (b ≡ false → room_of first.at ≤ first.len) → laid_in ram (cond b (record { first = first; second = None }) (record { first = record { at = first.at; len = room_of first.at }; second = Some (record { at = first.at + room_of first.at; len = first.len - room_of first.at }) })) bytes ≡ laid ram first.at bytes
one-laid true ram first bytes below sized room = refl
one-laid false ram first bytes below sized room = two-laid ram first.at (room_of first.at) bytes below (omega (arith, room refl))

from-laid : (ram : List ℕ) (first : Stretch) (bytes : List ℕ) → first.at + length bytes < 2 ^ 60 → length bytes ≡ first.len → laid_in ram (pieces_from first) bytes ≡ laid ram first.at bytes
from-laid ram first bytes below sized = one-laid _ ram first bytes below sized (λ e. grind (arith, nat_tests))

by-laid : (ram : List ℕ) (first : Stretch) (second : Option Stretch) (bytes : List ℕ) → first.at + length bytes < 2 ^ 60 → (second ≡ None → length bytes ≡ first.len) → laid_in ram (pieces_by first second) bytes ≡ laid_by ram first second bytes
by-laid ram first None bytes below sized = from-laid ram first bytes below (sized refl)
by-laid ram first (Some second) bytes below sized = refl

-- to lay bytes in the pieces of stretches is to lay them in the stretches
pub pieces_in-laid : (ram : List ℕ) (at : Stretches) (bytes : List ℕ) → at.first.at + length bytes < 2 ^ 60 → (at.second ≡ None → length bytes ≡ at.first.len) → laid_in ram (pieces_in at) bytes ≡ laid_in ram at bytes
unfolding pieces_in
pieces_in-laid ram at bytes below sized = by-laid ram at.first at.second bytes below sized
