-- The laws of the UART at any cycle, and of the text of a script.
use Rattle.std.proofs.Common.{◌≡◌, ℕ, suc, ◌+◌, ◌-◌, ◌*◌, ◌/◌, ◌%◌, ◌^◌, ◌<◌, ◌≤◌, ◌==◌, Bool, true, false, ◌||◌, cond, nat_lt, nat_le, ⊎_elim, List, [], ◌∷◌, ◌++◌, length, map, filter, take, drop, Ok, Err, refl, sym, ap, ap₂, subst, zero-add, ◌∙◌, arith, append_assoc, take-add, drop-drop, length-drop, length-take-le, le-leb}
use Rattle.std.specs.Int.{w64, to_le_bytes}
use Rattle.std.proofs.lemmas.List.{map-append}
use Rattle.std.proofs.Math.Seq.{take-nil}
use Rattle.std.proofs.lemmas.Bool.{eqb-true, or_cases, cond_both, cases_lt, cond-true, cond-false, lt-leb}
use Rattle.mw_uart.specs.UartData.{UartData, period_of}
use Rattle.mw_uart.specs.UartAt.{arrived_by, sent_by, next_due, uart_at}
use Rattle.mw_uart.specs.Registers.{slot_of, loaded, after_load, after_store, with_number, with_tx}
use Rattle.byteorder.specs.Endian.{little_number}
use Rattle.mw_uart.specs.Pairs.{DontFall, RisesTo}
use Rattle.mw_uart.specs.Script.{line_of, place_behind, read_from, script_of, text_limit}
use Rattle.mw_uart.specs.Inside.{IsSent}
use Rattle.mw_uart.proofs.SentLemmas.{same_parts, is_sent, sent_once, due_later, due_none}
use Rattle.mw_uart.proofs.ReadLemmas.{script-long}
use Rattle.mw_uart.proofs.ArrivalLemmas.{arrived_more, arrived_none, take_then}

-- what is sent by a cycle and then by a later one is sent by the later one
sent_then : (waiting due period cycle later m n : ℕ) → cycle ≤ later → IsSent waiting due period cycle m → IsSent (waiting - m) (next_due waiting due period m) period later n → IsSent waiting due period later (m + n)
sent_then waiting due period cycle later m n after first second =
    let sum : (m + n) * period ≡ m * period + n * period = omega arith in
    ⊎_elim
    (λ (more : m < waiting).
    let next : next_due waiting due period m ≡ due + m * period = due_later waiting due period m more in
    record {
      most = omega (arith, second.most);
      rest = λ h.
          let l : later < next_due waiting due period m + n * period = second.rest (omega arith) in
          omega arith;
      done = λ h. ⊎_elim
          (λ (none : n < 1).
          let no_more : n ≡ 0 = omega arith in
          let e : n * period ≡ 0 * period = ap (λ (k : ℕ). k * period) no_more in
          let l : due + m * period ≤ cycle + period = first.done (omega arith) in
          omega arith)
          (λ (some : 1 ≤ n).
          let l : next_due waiting due period m + n * period ≤ later + period = second.done some in
          omega arith)
          (cases_lt n 1);
    })
    (λ (all : waiting ≤ m).
    let no_more : n ≡ 0 = omega (arith, second.most) in
    let e : n * period ≡ 0 * period = ap (λ (k : ℕ). k * period) no_more in
    record {
      most = omega (arith, first.most);
      rest = λ h. absurd (omega arith);
      done = λ h.
          let l : due + m * period ≤ cycle + period = first.done (omega arith) in
          omega arith;
    })
    (cases_lt m waiting)

-- the count of sent bytes in two steps
sent_sum : (waiting due period cycle later m n : ℕ) → 0 < period → cycle ≤ later → m ≡ sent_by waiting due period cycle → n ≡ sent_by (waiting - m) (next_due waiting due period m) period later → m + n ≡ sent_by waiting due period later
sent_sum waiting due period cycle later m n some after e f =
    let first : IsSent waiting due period cycle m = subst (λ (k : ℕ). IsSent waiting due period cycle k) (sym e) (is_sent waiting due period cycle some) in
    let second : IsSent (waiting - m) (next_due waiting due period m) period later n = subst (λ (k : ℕ). IsSent (waiting - m) (next_due waiting due period m) period later k) (sym f) (is_sent (waiting - m) (next_due waiting due period m) period later some) in
    sent_once waiting due period later (m + n) (sent_by waiting due period later)
    (sent_then waiting due period cycle later m n after first second)
    (is_sent waiting due period later some)

-- when the next byte is due after two steps
due_then : (waiting due period m n : ℕ) → m ≤ waiting → n ≤ waiting - m → next_due (waiting - m) (next_due waiting due period m) period n ≡ next_due waiting due period (m + n)
due_then waiting due period m n few rest =
    ⊎_elim
    (λ (more : n < waiting - m).
    let sum : (m + n) * period ≡ m * period + n * period = omega arith in
    let a : next_due (waiting - m) (next_due waiting due period m) period n ≡ next_due waiting due period m + n * period = due_later (waiting - m) (next_due waiting due period m) period n more in
    let b : next_due waiting due period m ≡ due + m * period = due_later waiting due period m (omega arith) in
    let d : next_due waiting due period (m + n) ≡ due + (m + n) * period = due_later waiting due period (m + n) (omega arith) in
    omega arith)
    (λ (all : waiting - m ≤ n).
    due_none (waiting - m) (next_due waiting due period m) period n (omega arith)
    ∙ sym (due_none waiting due period (m + n) (omega arith)))
    (cases_lt n (waiting - m))

-- nothing arrives from an empty script
arrived_empty : (cycle later : ℕ) → arrived_by cycle [] + arrived_by later (drop (arrived_by cycle []) []) ≡ arrived_by later []
unfolding arrived_by
arrived_empty cycle later = refl

-- the count of arrived bytes in two steps
arrived_sum : (cycle later : ℕ) (script : List (ℕ × ℕ)) → cycle ≤ later → arrived_by cycle script + arrived_by later (drop (arrived_by cycle script) script) ≡ arrived_by later script
arrived_sum cycle later [] after = arrived_empty cycle later
arrived_sum cycle later (pair ∷ rest) after =
    ⊎_elim
    (λ (late : cycle < pair.0).
    ap (λ (k : ℕ). k + arrived_by later (drop k (pair ∷ rest))) (arrived_none cycle pair rest late)
    ∙ zero-add (arrived_by later (pair ∷ rest)))
    (λ (early : pair.0 ≤ cycle).
    let e : 1 + arrived_by cycle rest ≡ suc (arrived_by cycle rest) = omega arith in
    let before : arrived_by cycle rest + arrived_by later (drop (arrived_by cycle rest) rest) ≡ arrived_by later rest = arrived_sum cycle later rest after in
    let more : arrived_by later (pair ∷ rest) ≡ 1 + arrived_by later rest = arrived_more later pair rest (omega arith) in
    let ends : suc (arrived_by cycle rest) + arrived_by later (drop (arrived_by cycle rest) rest) ≡ arrived_by later (pair ∷ rest) = omega arith in
    ap (λ (k : ℕ). k + arrived_by later (drop k (pair ∷ rest))) (arrived_more cycle pair rest early ∙ e)
    ∙ ends)
    (cases_lt cycle pair.0)

-- what has arrived after two steps
received_then : (script : List (ℕ × ℕ)) (received : List ℕ) (m n k : ℕ) → m + n ≡ k → take 16 (take 16 (received ++ map (λ pair. pair.1) (take m script)) ++ map (λ pair. pair.1) (take n (drop m script))) ≡ take 16 (received ++ map (λ pair. pair.1) (take k script))
received_then script received m n k e =
    take_then 16 (received ++ map (λ pair. pair.1) (take m script)) (map (λ pair. pair.1) (take n (drop m script)))
    ∙ ap (take 16)
    (append_assoc received (map (λ pair. pair.1) (take m script)) (map (λ pair. pair.1) (take n (drop m script)))
    ∙ ap (λ (xs : List ℕ). received ++ xs)
    (sym (map-append (λ (pair : ℕ × ℕ). pair.1) (take m script) (take n (drop m script)))
    ∙ ap (map (λ pair. pair.1)) (sym (take-add m n script) ∙ ap (λ (q : ℕ). take q script) e)))

-- what is sent after two steps
output_then : (output sending : List ℕ) (m n k : ℕ) → m + n ≡ k → (output ++ take m sending) ++ take n (drop m sending) ≡ output ++ take k sending
output_then output sending m n k e =
    append_assoc output (take m sending) (take n (drop m sending))
    ∙ ap (λ (xs : List ℕ). output ++ xs) (sym (take-add m n sending) ∙ ap (λ (q : ℕ). take q sending) e)

-- a list without a front and then another
drop_then : {A : Type 0} (xs : List A) (m n k : ℕ) → m + n ≡ k → drop n (drop m xs) ≡ drop k xs
drop_then xs m n k e = drop-drop n m xs ∙ ap (λ (q : ℕ). drop q xs) e

-- the UART brought to a cycle and then to a later one is the UART brought to the later one
pub uart_at-then : (uart : UartData) (cycle later : ℕ) → cycle ≤ later → uart_at (uart_at uart cycle) later ≡ uart_at uart later
unfolding uart_at
uart_at-then uart cycle later after =
    let period = period_of uart.div in
    let waiting = length uart.sending in
    let m = sent_by waiting uart.due period cycle in
    let few : m ≤ waiting = (is_sent waiting uart.due period cycle (omega arith)).most in
    let left : length (drop m uart.sending) ≡ waiting - m = length-drop m uart.sending in
    let n = sent_by (waiting - m) (next_due waiting uart.due period m) period later in
    let rest : n ≤ waiting - m = (is_sent (waiting - m) (next_due waiting uart.due period m) period later (omega arith)).most in
    let sum : m + n ≡ sent_by waiting uart.due period later = sent_sum waiting uart.due period cycle later m n (omega arith) after refl refl in
    let come : arrived_by cycle uart.script + arrived_by later (drop (arrived_by cycle uart.script) uart.script) ≡ arrived_by later uart.script = arrived_sum cycle later uart.script after in
    let counted : sent_by (length (drop m uart.sending)) (next_due waiting uart.due period m) period later ≡ n = ap (λ (k : ℕ). sent_by k (next_due waiting uart.due period m) period later) left in
    let both : m + sent_by (length (drop m uart.sending)) (next_due waiting uart.due period m) period later ≡ sent_by waiting uart.due period later = ap (λ (k : ℕ). m + k) counted ∙ sum in
    let dues : next_due (length (drop m uart.sending)) (next_due waiting uart.due period m) period (sent_by (length (drop m uart.sending)) (next_due waiting uart.due period m) period later) ≡ next_due waiting uart.due period (sent_by waiting uart.due period later) =
    ap₂ (λ (k q : ℕ). next_due k (next_due waiting uart.due period m) period q) left counted
    ∙ due_then waiting uart.due period m n few rest
    ∙ ap (next_due waiting uart.due period) sum in
    same_parts later uart.div uart.enable _ _ _ _ _ _ _ _ _ _
    (drop_then uart.script (arrived_by cycle uart.script) (arrived_by later (drop (arrived_by cycle uart.script) uart.script)) (arrived_by later uart.script) come)
    (received_then uart.script uart.received (arrived_by cycle uart.script) (arrived_by later (drop (arrived_by cycle uart.script) uart.script)) (arrived_by later uart.script) come)
    (drop_then uart.sending m _ _ both)
    dues
    (output_then uart.output uart.sending m _ _ both)

-- a cycle that the script has reached
abbrev pub has_come : ℕ → ℕ × ℕ → Bool
has_come cycle pair = nat_le pair.0 cycle

-- nothing has come of a script that begins later
none_come : (cycle low : ℕ) (script : List (ℕ × ℕ)) → cycle < low → DontFall low script → filter (has_come cycle) script ≡ []
none_come cycle low [] late is = refl
none_come cycle low (pair ∷ rest) late is =
    let after = is.0 in
    cond-false (nat_le pair.0 cycle) (pair ∷ filter (has_come cycle) rest) (filter (has_come cycle) rest) (lt-leb pair.0 cycle (omega arith))
    ∙ none_come cycle pair.0 rest (omega arith) is.1

-- what has arrived by a cycle is what the script has with a cycle up to it, all of it and in order
pub arrived-come : (cycle low : ℕ) (script : List (ℕ × ℕ)) → DontFall low script → take (arrived_by cycle script) script ≡ filter (has_come cycle) script
arrived-come cycle low [] is = take-nil (arrived_by cycle [])
arrived-come cycle low (pair ∷ rest) is =
    ⊎_elim
    (λ (late : cycle < pair.0).
    ap (λ (k : ℕ). take k (pair ∷ rest)) (arrived_none cycle pair rest late)
    ∙ sym (cond-false (nat_le pair.0 cycle) (pair ∷ filter (has_come cycle) rest) (filter (has_come cycle) rest) (lt-leb pair.0 cycle late)
    ∙ none_come cycle pair.0 rest late is.1))
    (λ (early : pair.0 ≤ cycle).
    let e : 1 + arrived_by cycle rest ≡ suc (arrived_by cycle rest) = omega arith in
    ap (λ (k : ℕ). take k (pair ∷ rest)) (arrived_more cycle pair rest early ∙ e)
    ∙ ap (λ (ps : List (ℕ × ℕ)). pair ∷ ps) (arrived-come cycle pair.0 rest is.1)
    ∙ sym (cond-true (nat_le pair.0 cycle) (pair ∷ filter (has_come cycle) rest) (filter (has_come cycle) rest) (le-leb pair.0 cycle early)))
    (cases_lt cycle pair.0)

-- the cycles of each script don't fall
pub rises-dont_fall : (low high : ℕ) (script : List (ℕ × ℕ)) → RisesTo low high script → DontFall low script
rises-dont_fall low high [] is = tt
rises-dont_fall low high (pair ∷ rest) is = (is.0, rises-dont_fall pair.0 high rest is.2)

-- the UART stands at the cycle that it is brought to
pub cycle-uart_at : (uart : UartData) (cycle : ℕ) → (uart_at uart cycle).cycle ≡ cycle
unfolding uart_at
cycle-uart_at uart cycle = refl

-- a load keeps the cycle
pub cycle-after_load : (uart : UartData) (offset : ℕ) → (after_load uart offset).cycle ≡ uart.cycle
unfolding after_load
cycle-after_load uart offset = elim (offset == 8) as (λ (b : Bool). (cond b (record uart { received = drop 1 uart.received }) uart).cycle ≡ uart.cycle) [
  | true ↦ refl
  | false ↦ refl
]

-- a byte that is to be sent keeps the cycle
cycle-with_tx : (uart : UartData) (byte : ℕ) → (with_tx uart byte).cycle ≡ uart.cycle
unfolding with_tx
cycle-with_tx uart byte = cond_both (nat_lt (length uart.sending) 16) _ _ (λ (u : UartData). u.cycle ≡ uart.cycle) (λ _. refl) (λ _. refl)

-- a store keeps the cycle
pub cycle-after_store : (uart : UartData) (offset : ℕ) (bytes : List ℕ) → (after_store uart offset bytes).cycle ≡ uart.cycle
unfolding after_store with_number
cycle-after_store uart offset bytes =
    cond_both (offset == 0) _ _ (λ (u : UartData). u.cycle ≡ uart.cycle) (λ _. cycle-with_tx uart (little_number (length bytes) bytes % 2 ^ 8))
    (λ _. cond_both (offset == 0x18) _ _ (λ (u : UartData). u.cycle ≡ uart.cycle) (λ _. refl)
    (λ _. cond_both (offset == 0x20) _ _ (λ (u : UartData). u.cycle ≡ uart.cycle) (λ _. refl) (λ _. refl)))

-- a load that lies in one slot gives as many bytes as its width says
pub length-loaded : (uart : UartData) (offset width : ℕ) → offset % 8 + width ≤ 8 → length (loaded uart offset width) ≡ width
unfolding loaded
length-loaded uart offset width fits =
    length-take-le width (drop (offset % 8) (to_le_bytes w64 (slot_of uart (offset / 8))))
    (omega (arith, length-drop (offset % 8) (to_le_bytes w64 (slot_of uart (offset / 8)))))

-- an access of a width that is known
by_width : (offset width k : ℕ) → width ≡ k → (offset % width == 0) ≡ true → (offset % k ≡ 0 → offset % 8 + k ≤ 8) → offset % 8 + width ≤ 8
by_width offset width k e aligned fits =
    let at : offset % k ≡ 0 = ap (λ (w : ℕ). offset % w) (sym e) ∙ eqb-true (offset % width) 0 aligned in
    rw e (fits at)

-- an aligned access of 1, 2, 4 or 8 bytes lies in one slot
pub in_one_slot : (offset width : ℕ) → ((width == 1 || width == 2) || (width == 4 || width == 8)) ≡ true → (offset % width == 0) ≡ true → offset % 8 + width ≤ 8
in_one_slot offset width sized aligned =
    ⊎_elim
    (λ (a : (width == 1 || width == 2) ≡ true). ⊎_elim
    (λ (e : (width == 1) ≡ true). by_width offset width 1 (eqb-true width 1 e) aligned (λ h. omega (arith, h)))
    (λ (e : (width == 2) ≡ true). by_width offset width 2 (eqb-true width 2 e) aligned (λ h. omega (arith, h)))
    (or_cases (width == 1) (width == 2) a))
    (λ (a : (width == 4 || width == 8) ≡ true). ⊎_elim
    (λ (e : (width == 4) ≡ true). by_width offset width 4 (eqb-true width 4 e) aligned (λ h. omega (arith, h)))
    (λ (e : (width == 8) ≡ true). by_width offset width 8 (eqb-true width 8 e) aligned (λ h. omega (arith, h)))
    (or_cases (width == 4) (width == 8) a))
    (or_cases (width == 1 || width == 2) (width == 4 || width == 8) sized)

-- the UART brought to one cycle after another
abbrev pub brought_by : UartData → List ℕ → UartData
brought_by uart [] = uart
brought_by uart (cycle ∷ cycles) = brought_by (uart_at uart cycle) cycles

-- none of the cycles is before the one in front of it
abbrev pub Rises : ℕ → List ℕ → Type 0
Rises cycle [] = Unit {0}
Rises cycle (next ∷ cycles) = (cycle ≤ next) × Rises next cycles

-- the last of the cycles
abbrev pub last_of : ℕ → List ℕ → ℕ
last_of cycle [] = cycle
last_of cycle (next ∷ cycles) = last_of next cycles

-- the last of rising cycles isn't before the first
first-last : (cycle : ℕ) (cycles : List ℕ) → Rises cycle cycles → cycle ≤ last_of cycle cycles
first-last cycle [] r = omega arith
first-last cycle (next ∷ cycles) r = let here = r.0 in let rest = first-last next cycles r.1 in omega arith

-- the UART brought to rising cycles, one after another, is the UART brought to the last one
pub uart_at-rising : (uart : UartData) (cycle : ℕ) (cycles : List ℕ) → Rises cycle cycles → brought_by uart (cycle ∷ cycles) ≡ uart_at uart (last_of cycle cycles)
uart_at-rising uart cycle [] r = refl
uart_at-rising uart cycle (next ∷ cycles) r =
    let later = first-last next cycles r.1 in
    uart_at-rising (uart_at uart cycle) next cycles r.1 ∙ uart_at-then uart cycle (last_of next cycles) (let here = r.0 in omega arith)

-- an empty text is a script of which no byte arrives
pub script_of-empty : script_of [] ≡ Ok []
unfolding script_of read_from line_of
script_of-empty = refl

-- a text that is too long is refused behind its first bytes, as many as it may have
pub script_of-long : (text : List ℕ) → text_limit < length text → script_of text ≡ Err (place_behind (take text_limit text))
script_of-long text long = script-long text long
