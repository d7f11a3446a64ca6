-- How many bytes the body of a control message has at most, and its pairs.
use Rattle.std.proofs.Common.{◌≡◌, ℕ, zero, suc, ◌+◌, ◌-◌, ◌^◌, ◌<◌, ◌≤◌, true, List, [], ◌∷◌, ◌++◌, length, drop, Option, Some, None, Result, Ok, Err, refl, sym, ◌∙◌, subst, arith, inl, inr}
use Rattle.std.specs.Prelude.{is_some, IfOk}
use Rattle.std.proofs.lemmas.Bool.{lt-ltb, le-ltb, eq-eqb, ne_eqb, cases_lt, cases_eq, and_parts}
use Rattle.std.proofs.lemmas.List.{length-append, length-take-le, length-drop}
use Rattle.wire_base.specs.Answers.{◌>>=◌}
use Rattle.wire_base.specs.Numbers.{u16_bytes}
use Rattle.avp_codec.specs.declared.avp.Avp.{Avp}
use Rattle.avp_codec.specs.declared.error.AvpError.{AvpError}
use Rattle.avp_codec.specs.Reading.{length_told, front_of, avp_at, avps_at}
use Rattle.l2tp_header.specs.declared.header.Header.{Header}
use Rattle.l2tp_header.specs.declared.header.HeaderError.{HeaderError}
use Rattle.l2tp_header.specs.Grammar.{length_bytes, numbers_bytes, offset_bytes, FitsWord, EndsAt, IsHeader}
use Rattle.l2tp_datagram.specs.Bodies.{AreRead, IsShort, room_of}

-- ---- a header's end

said_bytes : (o : Option ℕ) → is_some o ≡ true → length (length_bytes o) ≡ 2
unfolding u16_bytes
said_bytes None is = absurd cc
said_bytes (Some n) is = refl

number_bytes : (o : Option (ℕ × ℕ)) → is_some o ≡ true → length (numbers_bytes o) ≡ 4
unfolding u16_bytes
number_bytes None is = absurd cc
number_bytes (Some n) is = refl

two : (n : ℕ) → length (u16_bytes n) ≡ 2
unfolding u16_bytes
two n = refl

six_fields : (a b c d e f : List ℕ) → length (a ++ b ++ c ++ d ++ e ++ f) ≡ length a + length b + length c + length d + length e + length f
six_fields a b c d e f = simp length-append (omega arith)

ends_by : (said : Option ℕ) (start total stop : ℕ) → is_some said ≡ true → FitsWord said → EndsAt said start total stop → stop < 2 ^ 16
ends_by None start total stop is fits ends = absurd cc
ends_by (Some n) start total stop is fits ends = subst (λ k. k < 2 ^ 16) (sym ends.0) fits

-- a control message's header has twelve bytes, and its length two
pub short_of : (bytes : List ℕ) (h : Header) → IsHeader bytes h → h.control ≡ true → h.end - h.start ≤ 65523
short_of bytes h is control =
    let f = is.fields in
    let flags = and_parts _ _ (and_parts _ _ (and_parts _ _ (is.word.flags (sym is.control ∙ control))).0).0 in
    let said = is.has.are.length_named ∙ flags.0 in
    let numbers = is.has.are.numbers_named ∙ flags.1 in
    let sum = six_fields (u16_bytes f.word) (length_bytes f.said) (u16_bytes f.tunnel) (u16_bytes f.session) (numbers_bytes f.numbers) (offset_bytes f.padding) in
    let stop = ends_by f.said h.start (length bytes) h.end said is.has.are.length_fits is.ends in
    omega (arith, sum, is.starts, stop, two f.word, two f.tunnel, two f.session, said_bytes f.said said, number_bytes f.numbers numbers)

-- ---- what pairs take

front_room : (bytes : List ℕ) → 6 ≤ length_told bytes → length_told bytes ≤ length bytes → 6 + length (front_of bytes).value ≡ length_told bytes
front_room bytes six within =
    let left = length-drop 6 bytes in
    let fits : length_told bytes - 6 ≤ length (drop 6 bytes) = omega (arith, left) in
    omega (arith, length-take-le (length_told bytes - 6) (drop 6 bytes) fits)

record Fits (bytes : List ℕ) (x : Avp × ℕ) : Type 0 where
  room : 6 + length x.0.value ≡ x.1
  within : x.1 ≤ length bytes

avp_room : (at : ℕ) (bytes : List ℕ) (x : Avp × ℕ) → avp_at at bytes ≡ Ok x → Fits bytes x
unfolding avp_at
avp_room at bytes x is =
    elim (cases_lt (length bytes) 6) [
      | inl lt ↦ let e = rw (lt-ltb (length bytes) 6 lt) at is in absurd cc
      | inr six ↦ elim (cases_lt (length_told bytes) 6) [
        | inl lt ↦ let e = rw (le-ltb (length bytes) 6 six, lt-ltb (length_told bytes) 6 lt) at is in absurd cc
        | inr told ↦ elim (cases_lt (length bytes) (length_told bytes)) [
          | inl lt ↦ let e = rw (le-ltb (length bytes) 6 six, le-ltb (length_told bytes) 6 told, lt-ltb (length bytes) (length_told bytes) lt) at is in absurd cc
          | inr within ↦
              let e : Ok (front_of bytes, length_told bytes) ≡ Ok x = rw (le-ltb (length bytes) 6 six, le-ltb (length_told bytes) 6 told, le-ltb (length bytes) (length_told bytes) within) at is in
              let same : (front_of bytes, length_told bytes) ≡ x = cc in
              subst (Fits bytes) same (record { room = front_room bytes told within; within = within })
        ]
      ]
    ]

others_room : (bytes rest : List ℕ) (x : Avp × ℕ) (r : Result (List Avp) AvpError) (v : List Avp) → Fits bytes x → length rest ≡ length bytes - x.1
    → ((w : List Avp) → r ≡ Ok w → room_of w ≤ length rest) → (r >>= λ w. Ok (x.0 ∷ w)) ≡ Ok v → room_of v ≤ length bytes
others_room bytes rest x (Ok w) v fits left rooms is =
    let same : x.0 ∷ w ≡ v = cc in
    let some = rooms w refl in
    subst (λ k. room_of k ≤ length bytes) same (omega (arith, fits.room, fits.within, left, some))
others_room bytes rest x (Err e) v fits left rooms is = absurd cc

next_room : (n at : ℕ) (bytes : List ℕ) (r : Result (Avp × ℕ) AvpError) (v : List Avp) → ((x : Avp × ℕ) → r ≡ Ok x → Fits bytes x)
    → ((place : ℕ) (rest : List ℕ) (w : List Avp) → avps_at n place rest ≡ Ok w → room_of w ≤ length rest)
    → (r >>= λ x. avps_at n (at + x.1) (drop x.1 bytes) >>= λ others. Ok (x.0 ∷ others)) ≡ Ok v → room_of v ≤ length bytes
next_room n at bytes (Ok x) v fits rooms is =
    let rest = drop x.1 bytes in
    others_room bytes rest x (avps_at n (at + x.1) rest) v (fits x refl) (length-drop x.1 bytes) (λ w e. rooms (at + x.1) rest w e) is
next_room n at bytes (Err e) v fits rooms is = absurd cc

abbrev empty : Result (List Avp) AvpError
empty = Ok []

nothing : (v : List Avp) → empty ≡ Ok v → room_of v ≡ 0
nothing [] is = refl
nothing (x ∷ v) is = absurd cc

rooms_at : (n at : ℕ) (bytes : List ℕ) (v : List Avp) → avps_at n at bytes ≡ Ok v → room_of v ≤ length bytes
unfolding avps_at
rooms_at zero at bytes v is =
    elim (cases_eq (length bytes) 0) [
      | inl e ↦ omega (arith, nothing v (rw (eq-eqb (length bytes) 0 e) at is))
      | inr ne ↦ let e = rw (ne_eqb (length bytes) 0 ne) at is in absurd cc
    ]
rooms_at (suc n) at bytes v is =
    elim (cases_eq (length bytes) 0) [
      | inl e ↦ omega (arith, nothing v (rw (eq-eqb (length bytes) 0 e) at is))
      | inr ne ↦
          let e = rw (ne_eqb (length bytes) 0 ne) at is in
          next_room n at bytes (avp_at at bytes) v (λ x h. avp_room at bytes x h) (λ place rest w h. rooms_at n place rest w h) e
    ]

pub read_short : (bytes : List ℕ) (r : Result Header HeaderError) → IfOk r (IsHeader bytes) → IsShort r
read_short bytes (Ok h) found = λ control. short_of bytes h found control
read_short bytes (Err e) found = tt

pub pairs_room : (body : List ℕ) (pairs : Result (List Avp) AvpError) → AreRead body pairs → length body ≤ 65523 → IfOk pairs (λ avps. room_of avps ≤ 65523)
pairs_room body (Ok avps) read short = omega (arith, rooms_at (length body) 0 body avps read)
pairs_room body (Err e) read short = tt
