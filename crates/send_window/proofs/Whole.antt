-- An outbox keeps the rest of the whole list.
use Rattle.std.proofs.Common.{◌≡◌, ◌≤◌, ◌<◌, ℕ, ◌+◌, ◌-◌, ◌%◌, ◌^◌, cond, leb, ltb, eqb, true, false, ◌⊎◌, inl, inr, ⊎_elim, List, [], ◌∷◌, length, drop, refl, sym, ap, ◌∙◌, arith, length-append, length-drop, Some, get_or}
use Rattle.std.proofs.lemmas.Bool.Decides.{nat_tests, leb_tells}
use Rattle.std.proofs.lemmas.List.{drop-drop, drop-append-le, get_or-drop}
use Rattle.std.proofs.lemmas.Option.{slice_get-get_or}
use Rattle.wire_base.specs.declared.letter.Letter.{Letter}
use Rattle.send_window.specs.Window.{distance, count_acked, without_first}
use Rattle.send_window.specs.Outbox.{letter_at}
use Rattle.send_window.specs.Whole.{Whole, IsInOrder, begun, given, given_count, kept_of, acked_to}
use Rattle.send_window.specs.History.{Acknowledged, Operation, Reserves, Puts, Acks, Pumps, Ticks, Resets, Learns, Fits, AllFit, whole_after, whole_answer, kept_after, kept_answer, whole_run, kept_run, EachCallIsAStep, LendsByNumber, KeepsTheRest}

-- the distance on the wire is the distance of the numbers, where they are near
near : (b n : ℕ) → b ≤ n → n < b + 65536 → distance ((b % 2 ^ 64) % 2 ^ 16) (n % 2 ^ 16) ≡ n - b
near b n le lt = omega arith

behind : (b n : ℕ) → n < b → b ≤ n + 32767 → 32768 < distance ((b % 2 ^ 64) % 2 ^ 16) (n % 2 ^ 16)
behind b n lt le = omega arith

le_or_lt : (a b : ℕ) → (a ≤ b) ⊎ (b < a)
le_or_lt a b = ⊎_elim (λ h. inl h.1) (λ h. inr h.1) (leb_tells a b)

counted : (d m x : ℕ) → d ≤ m → d ≡ x → cond (leb d m) d 0 ≡ x
counted d m x le e = grind (arith, nat_tests)

ignored : (d m : ℕ) → m < d → cond (leb d m) d 0 ≡ 0
ignored d m lt = grind (arith, nat_tests)

by_place : (n b m : ℕ) → b ≤ n + 32767 → n ≤ b + m → m ≤ 8192 → (b ≤ n) ⊎ (n < b) → cond (leb (distance (b % 2 ^ 64 % 2 ^ 16) (n % 2 ^ 16)) m) (distance (b % 2 ^ 64 % 2 ^ 16) (n % 2 ^ 16)) 0 ≡ n - b
by_place n b m lo hi few (inl le) = let e = near b n le (omega arith) in counted _ m (n - b) (omega (arith, e)) e
by_place n b m lo hi few (inr lt) = let far = behind b n lt lo in ignored _ m (omega (arith, far)) ∙ omega arith

-- Nr acknowledges the letters below it
count_is : (w : Whole) (n : ℕ) → IsInOrder w → w.acked ≤ n + 32767 → n ≤ w.unsent → count_acked (kept_of w).window (n % 2 ^ 16) ≡ n - w.acked
count_is w n o lo hi = by_place n w.acked (w.unsent - w.acked) lo (omega (arith, o.goes)) (omega (arith, o.there, o.few)) (le_or_lt w.acked n)

-- the tests of both are the same
same_room : (a u g : ℕ) → a ≤ u → ltb (u - a) (g - a) ≡ ltb u g
same_room a u g au = grind (arith, nat_tests)

same_first : (a u : ℕ) → a ≤ u → eqb (u - a) 0 ≡ eqb u a
same_first a u au = grind (arith, nat_tests)

number_is : (a u : ℕ) → a ≤ u → (a % 2 ^ 64 + (u - a)) % 2 ^ 64 ≡ u % 2 ^ 64
number_is a u au = omega arith

order_kept : (op : Operation) (w : Whole) → IsInOrder w → Fits op w → IsInOrder (whole_after op w)
order_kept (Reserves count) w o f = record { begins = o.begins; goes = o.goes; there = o.there; few = o.few }
order_kept (Puts letter) w o f = record { begins = o.begins; goes = o.goes; there = omega (arith, o.there, length-append w.sent (letter ∷ [])); few = omega (arith, f, length-append w.sent (letter ∷ [])) }
order_kept (Acks n moment) w o f = grind (arith, nat_tests)
order_kept (Pumps moment) w o f = grind (arith, nat_tests)
order_kept (Ticks moment) w o f = grind (arith, nat_tests)
order_kept (Resets first) w o f = record { begins = omega arith; goes = omega arith; there = omega arith; few = omega arith }
order_kept (Learns peer) w o f = record { begins = o.begins; goes = o.goes; there = o.there; few = o.few }

lt_is : (a b : ℕ) → a < b → ltb a b ≡ true
lt_is a b h = grind (arith, nat_tests)

lt_isnt : (a b : ℕ) → b ≤ a → ltb a b ≡ false
lt_isnt a b h = grind (arith, nat_tests)

not_zero : (a b : ℕ) → a < b → eqb (b - a) 0 ≡ false
not_zero a b h = grind (arith, nat_tests)

nothing : (a b : ℕ) → b ≤ a → b - a ≡ 0
nothing a b h = omega arith

left_over : (a n u : ℕ) → a ≤ n → (u - a) - (n - a) ≡ u - n
left_over a n u h = omega arith

acked_is : (w : Whole) (n moment : ℕ) → IsInOrder w → (n ≤ w.acked) ⊎ (w.acked < n) → record { letters = drop (n - w.acked) (kept_of w).letters; window = without_first (kept_of w).window (n - w.acked) moment; spare = w.spare } ≡ kept_of (acked_to w n moment)
acked_is w n moment o (inl le) = rw (nothing w.acked n le, lt_isnt w.acked n le) refl
acked_is w n moment o (inr lt) =
    let e : (w.acked - w.first) + (n - w.acked) ≡ n - w.first = omega (arith, o.begins) in
    rw (not_zero w.acked n lt, lt_is w.acked n lt, drop-drop (n - w.acked) (w.acked - w.first) w.sent, e, number_is w.acked n (omega arith), left_over w.acked n w.unsent (omega arith), left_over w.acked n (given_count w) (omega arith)) refl

one_longer : (w : Whole) (letter : Letter) → IsInOrder w → given_count (given w letter) - w.acked ≡ (given_count w - w.acked) + 1
one_longer w letter o = omega (arith, length-append w.sent (letter ∷ []), o.goes, o.there)

step : (op : Operation) (w : Whole) → IsInOrder w → Fits op w → kept_after op (kept_of w) ≡ kept_of (whole_after op w)
step (Reserves count) w o f = refl
step (Puts letter) w o f = rw (drop-append-le (w.acked - w.first) w.sent (letter ∷ []) (omega (arith, o.goes, o.there)), one_longer w letter o) refl
step (Acks n moment) w o f = ap (λ c. record { letters = drop c (kept_of w).letters; window = without_first (kept_of w).window c moment; spare = w.spare }) (count_is w n o f.0 f.1) ∙ acked_is w n moment o (le_or_lt n w.acked)
step (Pumps moment) w o f = rw (same_room w.acked w.unsent (given_count w) o.goes, same_first w.acked w.unsent o.goes) (grind (arith, nat_tests))
step (Ticks moment) w o f = grind (arith, nat_tests)
step (Resets first) w o f = grind arith
step (Learns peer) w o f = refl

answers : (op : Operation) (w : Whole) → IsInOrder w → Fits op w → kept_answer op (kept_of w) ≡ whole_answer op w
answers (Reserves count) w o f = refl
answers (Puts letter) w o f = refl
answers (Acks n moment) w o f = ap Acknowledged (count_is w n o f.0 f.1)
answers (Pumps moment) w o f = rw (same_room w.acked w.unsent (given_count w) o.goes, number_is w.acked w.unsent o.goes) refl
answers (Ticks moment) w o f = refl
answers (Resets first) w o f = refl
answers (Learns peer) w o f = refl

in_order : (ops : List Operation) (w : Whole) → IsInOrder w → AllFit ops w → IsInOrder (whole_run ops w)
in_order [] w o f = o
in_order (op ∷ ops) w o f = in_order ops (whole_after op w) (order_kept op w o f.0) f.1

runs : (ops : List Operation) (w : Whole) → IsInOrder w → AllFit ops w → kept_run ops (kept_of w) ≡ kept_of (whole_run ops w)
runs [] w o f = refl
runs (op ∷ ops) w o f = ap (kept_run ops) (step op w o f.0) ∙ runs ops (whole_after op w) (order_kept op w o f.0) f.1

pub each_call_is_a_step : EachCallIsAStep
each_call_is_a_step op w o f = record { kept = step op w o f; answer = answers op w o f; order = order_kept op w o f }

no_letter : Letter
no_letter = record { session = 0; avps = [] }

pub lends_by_number : LendsByNumber
lends_by_number w n o lo hi =
    let place : (n % 2 ^ 64 + (2 ^ 64 - w.acked % 2 ^ 64)) % 2 ^ 64 ≡ n - w.acked = omega (arith, o.few) in
    let there : n - w.acked < length (drop (w.acked - w.first) w.sent) = omega (arith, length-drop (w.acked - w.first) w.sent, o.begins) in
    let i : (w.acked - w.first) + (n - w.acked) ≡ n - w.first = omega (arith, o.begins) in
    rw place (slice_get-get_or (drop (w.acked - w.first) w.sent) (n - w.acked) no_letter there ∙ ap Some (get_or-drop (w.acked - w.first) w.sent (n - w.acked) no_letter ∙ ap (λ k. get_or w.sent k no_letter) i) ∙ sym (slice_get-get_or w.sent (n - w.first) no_letter (omega (arith, o.begins))))

pub keeps_the_rest : KeepsTheRest
keeps_the_rest first peer_window ops lt f =
    let b = begun first peer_window in
    let begun_so : IsInOrder b = record { begins = omega arith; goes = omega arith; there = omega arith; few = omega arith } in
    let o = in_order ops b begun_so f in
    let same = ap (kept_run ops) (step (Resets first) b begun_so lt) ∙ runs ops b begun_so f in
    record {
      kept = same;
      order = o;
      lends = λ n lo hi. ap (λ k. letter_at k (n % 2 ^ 64)) same ∙ lends_by_number (whole_run ops b) n o lo hi;
    }
