-- Pieces that follow one another.
use Rattle.std.proofs.Common.{◌≡◌, ℕ, ◌+◌, ◌-◌, ◌≤◌, ◌↔◌, List, [], ◌++◌, length, take, drop, Option, Some, None, OnSome, Ok, IsErrOf, refl, subst, ap, sym, ◌∙◌, append_assoc}
use Rattle.std.proofs.Math.Seq.{take-add, take-append_seam}
use Rattle.std.proofs.lemmas.List.{take-append-drop, append-nil, take_all, take_rest, drop-drop}
use Rattle.mw_io.specs.Outside.{Counts, with_more}

pub with_more_again : (taken : Option (List ℕ)) (bytes : List ℕ) (i n : ℕ)
    → with_more (with_more taken (take i bytes)) (take n (drop i bytes)) ≡ with_more taken (take (i + n) bytes)
with_more_again None bytes i n = refl
with_more_again (Some t) bytes i n = rw (take-add i n bytes) (ap Some (append_assoc t (take i bytes) (take n (drop i bytes))))

-- a sink that took so many bytes and then a piece of those behind them took both, the piece as a slice of the bytes from a place on
pub with_more_behind : (taken : Option (List ℕ)) (bytes : List ℕ) (i n : ℕ)
    → with_more (with_more taken (take i bytes)) (take n (take (length bytes - i) (drop i bytes))) ≡ with_more taken (take (i + n) bytes)
with_more_behind taken bytes i n = rw take_rest (with_more_again taken bytes i n)

pub with_more_all : (taken : Option (List ℕ)) (bytes : List ℕ) (i : ℕ) → length bytes ≤ i → with_more taken (take i bytes) ≡ with_more taken bytes
with_more_all taken bytes i h = rw (take_all i bytes h) refl

pub with_more_none : (taken : Option (List ℕ)) → taken ≡ with_more taken []
with_more_none None = refl
with_more_none (Some t) = ap Some (sym (append-nil t))

-- a call that succeeds leaves the count of a cause as it was
pub Counts-ok : {T E : Type 0} (x : T) (e : E) (before after : ℕ) → Counts before after (IsErrOf (Ok x) e) → after ≡ before
Counts-ok x e before after counts = counts.stays (λ (is : IsErrOf (Ok x) e). cc)

-- one more piece is moved from what is left to what was read
pub joined_again : (read left whole : List ℕ) (n : ℕ) → read ++ left ≡ whole → (read ++ take n left) ++ drop n left ≡ whole
joined_again read left whole n e = append_assoc read (take n left) (drop n left) ∙ (ap (λ xs. read ++ xs) (take-append-drop n left) ∙ e)

-- what was read is the front of the whole: all of it where nothing is left
pub front_read : (read left whole : List ℕ) (n : ℕ) → read ++ left ≡ whole → length read ≡ n → take n whole ≡ read
front_read read left whole n e l = rw (← e, ← l) (take-append_seam read left)

pub all_read : (read left whole : List ℕ) (n : ℕ) → read ++ left ≡ whole → left ≡ [] → length read ≤ n → take n whole ≡ read
all_read read left whole n e none h = rw (← e, none, append-nil) (take_all n read h)

-- one more piece is moved from what is left of a file to what was read, where the files are told
pub told_again : {F : Type 0} (files before : Option F) (bytes left whole more rest : List ℕ) (n : ℕ) → before ≡ files
    → OnSome files (bytes ++ left ≡ whole) → OnSome before (more ≡ bytes ++ take n left) → OnSome before (rest ≡ drop n left) → OnSome files (more ++ rest ≡ whole)
told_again None before bytes left whole more rest n e j a d = j
told_again (Some f) before bytes left whole more rest n e j a d =
    let a' : more ≡ bytes ++ take n left = subst (λ o. OnSome o (more ≡ bytes ++ take n left)) e a in
    let d' : rest ≡ drop n left = subst (λ o. OnSome o (rest ≡ drop n left)) e d in
    rw (a', d') (joined_again bytes left whole n j)

pub told_front : {F : Type 0} (files : Option F) (bytes left whole : List ℕ) (n : ℕ) → OnSome files (bytes ++ left ≡ whole) → length bytes ≡ n → OnSome files (bytes ≡ take n whole)
told_front None bytes left whole n j l = j
told_front (Some f) bytes left whole n j l = sym (front_read bytes left whole n j l)

pub told_all : {F : Type 0} (files before : Option F) (bytes left whole : List ℕ) (n : ℕ) → before ≡ files
    → OnSome files (bytes ++ left ≡ whole) → OnSome before (left ≡ []) → length bytes ≤ n → OnSome files (bytes ≡ take n whole)
told_all None before bytes left whole n e j none h = j
told_all (Some f) before bytes left whole n e j none h =
    sym (all_read bytes left whole n j (subst (λ o. OnSome o (left ≡ [])) e none) h)

pub told_end : {F : Type 0} (before : Option F) (left rest : List ℕ) (n : ℕ) → n ≡ 0
    → OnSome before ((n ≡ 0) ↔ (left ≡ [])) → OnSome before (rest ≡ drop n left) → OnSome before (rest ≡ [])
told_end None left rest n z end d = d
told_end (Some f) left rest n z end d = d ∙ (ap (λ k. drop k left) z ∙ end.0 z)

pub told_on : {F : Type 0} (files before : Option F) (left whole rest : List ℕ) (m n k : ℕ) → before ≡ files
    → OnSome files (left ≡ drop m whole) → OnSome before (rest ≡ drop n left) → k ≡ m + n → OnSome files (rest ≡ drop k whole)
told_on None before left whole rest m n k e l r s = l
told_on (Some f) before left whole rest m n k e l r s =
    let r' : rest ≡ drop n left = subst (λ o. OnSome o (rest ≡ drop n left)) e r in
    rw (r', l, s) (drop-drop n m whole)
