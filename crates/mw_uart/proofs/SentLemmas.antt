-- How many bytes are sent by a cycle.
use Rattle.std.proofs.Common.{List, subst, length-take-le, length-append, length-drop, ◌++◌, length, take, drop, suc-mul, mul-le-mul_left, ◌≡◌, ℕ, suc, ◌+◌, ◌-◌, ◌*◌, ◌/◌, ◌%◌, ◌<◌, ◌≤◌, ◌⊎◌, ⊎_elim, ◌==◌, min, nat_lt, refl, sym, ap, ◌∙◌, arith, mul-le-mul_right, div-add-mod', ltb-true, ltb-false}
use Rattle.std.proofs.lemmas.Bool.{cases_lt, cases_order, cond_both, cond-true, cond-false, eq-eqb, ne_eqb}
use Rattle.std.proofs.lemmas.Nat.{mod_below}
use Rattle.mw_uart.specs.UartData.{period_of}
use Rattle.mw_uart.specs.UartAt.{arrived_by, arrivals, sent_by, next_due, uart_at}
use Rattle.mw_uart.specs.Inside.{parts, IsTimed, IsSent}

-- a number of bytes below another takes a period less
one_period : (m n period : ℕ) → m < n → m * period + period ≤ n * period
one_period m n period below =
    let e : (m + 1) * period ≡ m * period + period = omega arith in
    let l : (m + 1) * period ≤ n * period = mul-le-mul_right period (omega arith) in
    omega arith

-- a number that isn't 0, from the one before it
suc_before : (n : ℕ) → 1 ≤ n → n ≡ suc (n - 1)
suc_before n some = omega arith

-- the division by which the definition counts, as an order: a number of bytes is the least of two
counted : (waiting due period cycle q r n : ℕ) → due ≤ cycle → q * period + r ≡ cycle - due → r < period → n ≡ min waiting (1 + q) → IsSent waiting due period cycle n
counted waiting due period cycle q r n late parts small e =
    let more : (1 + q) * period ≡ q * period + period = omega arith in
    ⊎_elim
    (λ (few : waiting < 1 + q).
    let all : n ≡ waiting = omega arith in
    let l : n * period ≤ (1 + q) * period = mul-le-mul_right period (omega arith) in
    record { most = omega arith; rest = λ h. omega arith; done = λ h. omega arith })
    (λ (many : 1 + q ≤ waiting).
    let some : n ≡ 1 + q = omega arith in
    let l : n * period ≡ (1 + q) * period = ap (λ (k : ℕ). k * period) some in
    record { most = omega arith; rest = λ h. omega arith; done = λ h. omega arith })
    (cases_lt waiting (1 + q))

-- what the definition counts is sent, and no more
pub is_sent : (waiting due period cycle : ℕ) → 0 < period → IsSent waiting due period cycle (sent_by waiting due period cycle)
unfolding sent_by
is_sent waiting due period cycle some =
    cond_both (nat_lt cycle due) 0 (min waiting (1 + (cycle - due) / period)) (λ n. IsSent waiting due period cycle n)
    (λ e. let early : cycle < due = ltb-true cycle due e in
    record { most = omega arith; rest = λ h. omega arith; done = λ h. omega arith })
    (λ e. let late : due ≤ cycle = ltb-false cycle due e in
    counted waiting due period cycle ((cycle - due) / period) ((cycle - due) % period) (min waiting (1 + (cycle - due) / period)) late
    (div-add-mod' (cycle - due) period) (mod_below (cycle - due) period some) refl)

-- only one number of bytes is sent by a cycle
pub sent_once : (waiting due period cycle m n : ℕ) → IsSent waiting due period cycle m → IsSent waiting due period cycle n → m ≡ n
sent_once waiting due period cycle m n a b =
    ⊎_elim
    (λ (e : m ≡ n). e)
    (λ (h : (m < n) ⊎ (n < m)). ⊎_elim
    (λ (l : m < n).
    let step : m * period + period ≤ n * period = one_period m n period l in
    let next : cycle < due + m * period = a.rest (omega (arith, b.most)) in
    let last : due + n * period ≤ cycle + period = b.done (omega arith) in
    absurd (omega arith))
    (λ (l : n < m).
    let step : n * period + period ≤ m * period = one_period n m period l in
    let next : cycle < due + n * period = b.rest (omega (arith, a.most)) in
    let last : due + m * period ≤ cycle + period = a.done (omega arith) in
    absurd (omega arith))
    h)
    (cases_order m n)

-- when the next byte is due, where one waits
pub due_later : (waiting due period sent : ℕ) → sent < waiting → next_due waiting due period sent ≡ due + sent * period
unfolding next_due
due_later waiting due period sent below = cond-false (sent == waiting) 0 (due + sent * period) (ne_eqb sent waiting (λ e. omega arith))

-- no byte is due where none waits
pub due_none : (waiting due period sent : ℕ) → sent ≡ waiting → next_due waiting due period sent ≡ 0
unfolding next_due
due_none waiting due period sent e = cond-true (sent == waiting) 0 (due + sent * period) (eq-eqb sent waiting e)

-- when the next byte is due once some are sent: at once, or after a period at the latest
due_soon : (waiting due cycle later n period : ℕ) → due ≤ cycle + 10485760 → cycle ≤ later → period ≤ 10485760 → IsSent waiting due period later n → next_due waiting due period n ≤ later + 10485760
due_soon waiting due cycle later n period soon after short is =
    ⊎_elim
    (λ (more : n < waiting).
    ⊎_elim
    (λ (none : n < 1).
    let zero_sent : n ≡ 0 = omega arith in
    let e : n * period ≡ 0 * period = ap (λ (k : ℕ). k * period) zero_sent in
    omega (arith, due_later waiting due period n more))
    (λ (some : 1 ≤ n). omega (arith, due_later waiting due period n more, is.done some))
    (cases_lt n 1))
    (λ (all : waiting ≤ n).
    omega (arith, due_none waiting due period n (omega (arith, is.most))))
    (cases_lt n waiting)

-- the UART's times stay in their bounds when bytes are sent
pub timed : (sent waiting due cycle room later n period : ℕ) → IsTimed sent waiting due cycle room → cycle ≤ later → later / 160 ≤ room → 160 ≤ period → period ≤ 10485760 → IsSent waiting due period later n → IsTimed (sent + n) (waiting - n) (next_due waiting due period n) later room
timed sent waiting due cycle room later n period was after fits long short is =
    let most : n ≤ waiting = is.most in
    let took : n * 160 ≤ n * period = mul-le-mul_left n long in
    record {
      past = ⊎_elim
          (λ (none : n < 1). omega (arith, was.past))
          (λ (some : 1 ≤ n).
          let last : due + n * period ≤ later + period = is.done some in
          let due_late : 160 * (sent + 1) ≤ due = was.next (omega arith) in
          let more : (n - 1) * 160 ≤ (n - 1) * period = mul-le-mul_left (n - 1) long in
          let e : n * period ≡ (n - 1) * period + period = ap (λ (k : ℕ). k * period) (suc_before n some) ∙ suc-mul (n - 1) period in
          omega arith)
          (cases_lt n 1);
      next = λ h.
          let due_late : 160 * (sent + 1) ≤ due = was.next (omega arith) in
          let e : next_due waiting due period n ≡ due + n * period = due_later waiting due period n (omega arith) in
          omega arith;
      soon = due_soon waiting due cycle later n period was.soon after short is;
      within = omega arith;
      small = was.small;
    }

-- the UART's data is alike where it is alike in each part that a cycle changes
pub same_parts : (cycle div enable : ℕ) (s t : List (ℕ × ℕ)) (r q w x o p : List ℕ) (d e : ℕ) → s ≡ t → r ≡ q → w ≡ x → d ≡ e → o ≡ p → parts cycle s r w d div enable o ≡ parts cycle t q x e div enable p
same_parts cycle div enable s t r q w x o p d e a b f g h = rw (a, b, f, g, h) refl

-- the UART brought to a cycle, by its parts
pub advanced : (cycle later due div enable n due_next : ℕ) (script script_next : List (ℕ × ℕ)) (received sending output received_next sending_next output_next : List ℕ) → script_next ≡ drop (arrived_by later script) script → received_next ≡ take 16 (received ++ arrivals later script) → n ≡ sent_by (length sending) due (period_of div) later → due_next ≡ next_due (length sending) due (period_of div) n → sending_next ≡ drop n sending → output_next ≡ output ++ take n sending → parts later script_next received_next sending_next due_next div enable output_next ≡ uart_at (parts cycle script received sending due div enable output) later
unfolding uart_at
advanced cycle later due div enable n due_next script script_next received sending output received_next sending_next output_next comes receives counts dues sends outputs =
    same_parts later div enable _ _ _ _ _ _ _ _ _ _
    comes
    receives
    (sends ∙ ap (λ (k : ℕ). drop k sending) counts)
    (dues ∙ ap (next_due (length sending) due (period_of div)) counts)
    (outputs ∙ ap (λ (k : ℕ). output ++ take k sending) counts)

-- the room for output suffices for all bytes that are sent
pub room_enough : (sent waiting due cycle room later n div : ℕ) → IsTimed sent waiting due cycle room → cycle ≤ later → later / 160 ≤ room → div < 65536 → n ≡ sent_by waiting due (period_of div) later → sent + n ≤ room
room_enough sent waiting due cycle room later n div was after fits small e =
    let is : IsSent waiting due (160 * (div + 1)) later (sent_by waiting due (160 * (div + 1)) later) = is_sent waiting due (160 * (div + 1)) later (omega arith) in
    let then : IsTimed (sent + sent_by waiting due (160 * (div + 1)) later) (waiting - sent_by waiting due (160 * (div + 1)) later) (next_due waiting due (160 * (div + 1)) (sent_by waiting due (160 * (div + 1)) later)) later room = timed sent waiting due cycle room later (sent_by waiting due (160 * (div + 1)) later) (160 * (div + 1)) was after fits (omega arith) (omega arith) is in
    omega (arith, then.past)

-- the times stay in their bounds, told of the lists
pub timed_lists : (cycle room later n div due due_next : ℕ) (sending output sending_next output_next : List ℕ) → IsTimed (length output) (length sending) due cycle room → cycle ≤ later → later / 160 ≤ room → div < 65536 → n ≡ sent_by (length sending) due (period_of div) later → due_next ≡ next_due (length sending) due (period_of div) n → sending_next ≡ drop n sending → output_next ≡ output ++ take n sending → IsTimed (length output_next) (length sending_next) due_next later room
timed_lists cycle room later n div due due_next sending output sending_next output_next was after fits small counts dues sends outputs =
    let is : IsSent (length sending) due (period_of div) later n = subst (λ (k : ℕ). IsSent (length sending) due (period_of div) later k) (sym counts) (is_sent (length sending) due (period_of div) later (omega arith)) in
    let then : IsTimed (length output + n) (length sending - n) (next_due (length sending) due (period_of div) n) later room = timed (length output) (length sending) due cycle room later n (period_of div) was after fits (omega arith) (omega arith) is in
    let front : length (take n sending) ≡ n = length-take-le n sending is.most in
    let long : length output_next ≡ length output + n = ap length outputs ∙ length-append output (take n sending) ∙ ap (λ (k : ℕ). length output + k) front in
    let left : length sending_next ≡ length sending - n = ap length sends ∙ length-drop n sending in
    rw (long, left, dues) then
