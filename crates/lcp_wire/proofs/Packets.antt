-- A packet that is read is the one that was written, and a fault is told exactly where it stands.
use Rattle.std.proofs.Common.{◌≡◌, ℕ, suc, ◌+◌, ◌-◌, ◌^◌, ◌<◌, ◌≤◌, ◌⊎◌, List, [], ◌∷◌, ◌++◌, length, take, drop, Result, Ok, Err, refl, sym, ap, subst, ◌∙◌, arith, inl, inr}
use Rattle.std.specs.Prelude.{IfOk, IfErr}
use Rattle.std.proofs.lemmas.Bool.{lt-ltb, le-ltb, cases_lt}
use Rattle.std.proofs.lemmas.List.{take-append-drop, take_at, length-append, length-take}
use Rattle.wire_base.specs.Answers.{Gives}
use Rattle.wire_base.specs.Numbers.{u16_bytes}
use Rattle.wire_base.specs.NumberLaws.{AreBytes, length-u16_bytes, number-u16_bytes, u16_bytes-number, number-lt}
use Rattle.lcp_wire.specs.declared.packet.Lcp.{Lcp}
use Rattle.lcp_wire.specs.declared.error.LcpError.{LcpError}
use Rattle.lcp_wire.specs.declared.error.LcpError.TheVariants.{Short, Length, NoMemory}
use Rattle.lcp_wire.specs.Spelling.{packet_bytes, FitsPacket}
use Rattle.lcp_wire.specs.Grammar.{HasPacket, HasOtherLength, IsFault, IsFirstFault}
use Rattle.lcp_wire.specs.Reading.{Told, length_told, front_of, packet_of}

-- ---- the three ways

short_is : (bytes : List ℕ) → length bytes < 4 → packet_of bytes ≡ Err Short
unfolding packet_of
short_is bytes lt = rw (lt-ltb (length bytes) 4 lt) refl

length_is : (bytes : List ℕ) → 4 ≤ length bytes → (length_told bytes < 4) ⊎ (length bytes < length_told bytes) → packet_of bytes ≡ Err (Length (length_told bytes) (length bytes))
unfolding packet_of
length_is bytes four (inl lt) = rw (le-ltb (length bytes) 4 four, lt-ltb (length_told bytes) 4 lt) refl
length_is bytes four (inr lt) = rw (le-ltb (length bytes) 4 four, le-ltb (length_told bytes) 4 (omega arith), lt-ltb (length bytes) (length_told bytes) lt) refl

whole_is : (bytes : List ℕ) → 4 ≤ length_told bytes → length_told bytes ≤ length bytes → packet_of bytes ≡ Ok (front_of bytes)
unfolding packet_of
whole_is bytes four within = rw (le-ltb (length bytes) 4 (omega arith), le-ltb (length_told bytes) 4 four, le-ltb (length bytes) (length_told bytes) within) refl

-- ---- what is read is there

abbrev Outcome : List ℕ → Result Lcp LcpError → Type 0
Outcome bytes (Ok p) = HasPacket bytes p
Outcome bytes (Err e) = IsFault bytes e

-- the length in a head is that of its two bytes
other_length : (bytes : List ℕ) → AreBytes bytes → 4 ≤ length bytes → (length_told bytes < 4) ⊎ (length bytes < length_told bytes) → HasOtherLength bytes (length_told bytes) (length bytes)
other_length (a ∷ b ∷ c ∷ d ∷ rest) fits four wrong =
    record {
      code = a;
      id = b;
      behind = rest;
      fits = number-lt (c ∷ d ∷ rest) (λ i. fits (suc (suc i)));
      parts = ap (λ (t : List ℕ). a ∷ b ∷ t ++ rest) (sym (u16_bytes-number (c ∷ d ∷ rest) (λ i. fits (suc (suc i))) (omega arith)));
      total = refl;
      wrong = wrong;
    }
other_length bytes fits four wrong = absurd (omega arith)

whole : (bytes : List ℕ) → AreBytes bytes → 4 ≤ length_told bytes → length_told bytes ≤ length bytes → HasPacket bytes (front_of bytes)
whole (a ∷ b ∷ c ∷ d ∷ rest) fits four within =
    let behind : AreBytes (c ∷ d ∷ rest) = λ i. fits (suc (suc i)) in
    let n : ℕ = length_told (a ∷ b ∷ c ∷ d ∷ rest) in
    let len : n ≡ 4 + length (take (n - 4) rest) = let l = length-take (n - 4) rest in omega arith in
    let lt : n < 2 ^ 16 = number-lt (c ∷ d ∷ rest) behind in
    let head : u16_bytes (4 + length (take (n - 4) rest)) ≡ c ∷ d ∷ [] = ap u16_bytes (sym len) ∙ u16_bytes-number (c ∷ d ∷ rest) behind (omega arith) in
    record {
      fits = record { code = fits 0; id = fits 1; body = omega arith };
      padding = drop (n - 4) rest;
      parts = sym (ap (λ (t : List ℕ). a ∷ b ∷ (t ++ take (n - 4) rest) ++ drop (n - 4) rest) head ∙ ap (λ (t : List ℕ). a ∷ b ∷ c ∷ d ∷ t) (take-append-drop (n - 4) rest));
    }
whole bytes fits four within = absurd (omega arith)

outcome : (bytes : List ℕ) → AreBytes bytes → Outcome bytes (packet_of bytes)
outcome bytes fits =
    elim (cases_lt (length bytes) 4) [
      | inl lt ↦ rw (short_is bytes lt) lt
      | inr four ↦
          elim (cases_lt (length_told bytes) 4) [
            | inl lt ↦ rw (length_is bytes four (inl lt)) (other_length bytes fits four (inl lt))
            | inr told ↦
                elim (cases_lt (length bytes) (length_told bytes)) [
                  | inl lt ↦ rw (length_is bytes four (inr lt)) (other_length bytes fits four (inr lt))
                  | inr within ↦ rw (whole_is bytes told within) (whole bytes fits told within)
                ]
          ]
    ]

pub is_found : (bytes : List ℕ) (r : Result Lcp LcpError) → AreBytes bytes → Gives Told (λ p. p) r (packet_of bytes) → IfOk r (HasPacket bytes)
is_found bytes (Ok p) fits given = subst (Outcome bytes) given (outcome bytes fits)
is_found bytes (Err e) fits given = tt

pub is_first : (bytes : List ℕ) (r : Result Lcp LcpError) → AreBytes bytes → Gives Told (λ p. p) r (packet_of bytes) → IfErr r (IsFirstFault bytes)
is_first bytes (Ok p) fits given = tt
is_first bytes (Err NoMemory) fits given = tt
is_first bytes (Err e) fits given = subst (Outcome bytes) given (outcome bytes fits)

-- ---- what is there is read

same_packet : (p q : Lcp) → p.code ≡ q.code → p.id ≡ q.id → p.body ≡ q.body → p ≡ q
same_packet p q a b c =
    let made : ℕ → ℕ → List ℕ → Lcp = λ x y z. record { code = x; id = y; body = z } in
    let all : made p.code p.id p.body ≡ made q.code q.id q.body = rw (a, b, c) refl in
    all

pub written_again : (p : Lcp) (padding : List ℕ) → FitsPacket p → packet_of (packet_bytes p ++ padding) ≡ Ok p
unfolding u16_bytes
written_again p padding fits =
    let bytes : List ℕ = packet_bytes p ++ padding in
    let b = fits.body in
    let told : length_told bytes ≡ 4 + length p.body = number-u16_bytes (4 + length p.body) (p.body ++ padding) (omega arith) in
    let len : length bytes ≡ 4 + (length p.body + length padding) = let l = length-append p.body padding in omega arith in
    let front : front_of bytes ≡ p = same_packet (front_of bytes) p refl refl (take_at p.body padding (length_told bytes - 4) (omega arith)) in
    whole_is bytes (omega arith) (omega arith) ∙ ap (λ (q : Lcp). Ok q) front

pub packet_again : (bytes : List ℕ) (p : Lcp) → HasPacket bytes p → packet_of bytes ≡ Ok p
packet_again bytes p h = ap packet_of h.parts ∙ written_again p h.padding h.fits

pub fault_again : (bytes : List ℕ) (e : LcpError) → IsFault bytes e → packet_of bytes ≡ Err e
fault_again bytes Short h = short_is bytes h
fault_again bytes (Length said have) h =
    let told : length_told bytes ≡ said = ap length_told h.parts ∙ number-u16_bytes said h.behind h.fits in
    let len : length bytes ≡ 4 + length h.behind = ap length h.parts ∙ let l = length-append (u16_bytes said) h.behind in let k = length-u16_bytes said in omega arith in
    let t = h.total in
    length_is bytes (omega arith) (rw (told, ← h.total) h.wrong) ∙ rw (told, ← h.total) refl
fault_again bytes NoMemory h = absurd h
