-- Failover Session State, as the relation has it and as the reading finds it.
use Rattle.std.proofs.Common.{◌≡◌, ◌^◌, ◌<◌, ℕ, false, List, [], ◌∷◌, ◌++◌, length, drop, Some, None, refl, sym, ap, subst, ◌∙◌, inl, inr, arith}
use Rattle.std.specs.List.{AllByRecursion}
use Rattle.std.proofs.lemmas.Bool.{cases_Bool, eq-eqb, false_from_ne_true, both_ways}
use Rattle.byteorder.specs.Endian.{big_number}
use Rattle.wire_base.specs.Numbers.{u16_bytes, u32_bytes}
use Rattle.wire_base.specs.declared.pair.Pair.{Pair}
use Rattle.avp_codec.specs.declared.avp.Avp.{Avp}
use Rattle.avp_codec.specs.Spelling.{AreAvps}
use Rattle.control_message.specs.declared.kind.Kind.{Kind}
use Rattle.control_message.specs.declared.kind.Shape.{Shape}
use Rattle.control_message.specs.declared.kind.Shape.TheVariants.{ShortLongLong}
use Rattle.control_message.specs.Table.{shape_of}
use Rattle.control_message.specs.Pairs.{session_pair, session_pairs}
use Rattle.control_message.specs.Reading.{is_at, session_value, session_in, sessions_in}
use Rattle.control_message.specs.Grammar.{IsAt, NoneIsUnknown, TellsSession, SaysSessions}
use Rattle.control_message.specs.Faults.{HasShape, IsSound}
use Rattle.control_message.proofs.Firsts.{decides_at}
use Rattle.control_message.proofs.Values.{IsGood, AreStatesGood, good_states}

-- each Failover Session State is plain, and has ten bytes
abbrev AreTen : List Avp → Type 0
AreTen avps = AllByRecursion (λ a. IsAt 79 a → (a.hidden ≡ false) × (length a.value ≡ 10)) avps

abbrev session_of : List ℕ → Pair
session_of v = record { sender = big_number 4 (drop 2 v); receiver = big_number 4 (drop 6 v) }

ten : (v : List ℕ) → length v ≡ 10 → session_value v ≡ Some (session_of v)
ten v e = rw (eq-eqb (length v) 10 e) refl

tells : (a : Avp) (p : Pair) → TellsSession a p → session_in a ≡ Some p
tells a p h =
    let same : session_of a.value ≡ p = rw (h.sender, h.receiver) refl in
    rw ((decides_at 79 a).1 h.is, ten a.value h.wide) (ap (λ (x : Pair). Some x) same)

tells_none : (a : Avp) → (¬ IsAt 79 a) → session_in a ≡ None
tells_none a other = rw (false_from_ne_true (is_at 79 a) (λ t. other ((decides_at 79 a).0 t))) refl

-- ---- what is read is what the pairs say

sessions_are : (avps : List Avp) → AreTen avps → SaysSessions avps (sessions_in avps)
sessions_are [] good = refl
sessions_are (a ∷ avps) good =
    elim (cases_Bool (is_at 79 a)) [
      | inl t ↦
          let is = (decides_at 79 a).0 t in
          let g = good.0 is in
          let says : TellsSession a (session_of a.value) = record { is = is; plain = g.0; wide = g.1; sender = refl; receiver = refl } in
          inr (session_of a.value, sessions_in avps, says, rw (t, ten a.value g.1) refl, sessions_are avps good.1)
      | inr f ↦ inl (λ is. both_ways (is_at 79 a) f ((decides_at 79 a).1 is), rw f (sessions_are avps good.1))
    ]

are_ten : (k : Kind) (avps : List Avp) → IsSound k avps → shape_of k 79 ≡ Some ShortLongLong → AreTen avps
are_ten k avps sound shape = each avps (good_states k avps sound ShortLongLong shape)
  where
    each : (rest : List Avp)
        → ((before after : List Avp) (a : Avp) → rest ≡ before ++ a ∷ after → IsAt 79 a → (a.hidden ≡ false) × (length a.value ≡ 10)) → AreTen rest
    each [] h = tt
    each (a ∷ rest) h = (λ is. h [] rest a refl is, each rest (λ before after x e is. h (a ∷ before) after x (ap (λ (t : List Avp). a ∷ t) e) is))

pub sessions_says : (k : Kind) (avps : List Avp) → IsSound k avps → shape_of k 79 ≡ Some ShortLongLong → SaysSessions avps (sessions_in avps)
sessions_says k avps sound shape = sessions_are avps (are_ten k avps sound shape)

-- ---- what the pairs say is read

pub says_sessions : (avps : List Avp) (sessions : List Pair) → SaysSessions avps sessions → sessions_in avps ≡ sessions
says_sessions [] sessions h = sym h
says_sessions (a ∷ avps) sessions (inl h) = rw (tells_none a h.0) (says_sessions avps sessions h.1)
says_sessions (a ∷ avps) sessions (inr h) = rw (tells a h.0 h.2) (ap (λ (t : List Pair). h.0 ∷ t) (says_sessions avps h.1 h.4) ∙ sym h.3)

ten_said : (before after avps : List Avp) (a : Avp) (sessions : List Pair) → SaysSessions avps sessions → avps ≡ before ++ a ∷ after → IsAt 79 a
    → (a.hidden ≡ false) × (length a.value ≡ 10)
ten_said [] after [] a sessions h e is = absurd cc
ten_said (b ∷ before) after [] a sessions h e is = absurd cc
ten_said [] after (c ∷ avps) a sessions (inl h) e is = let same : a ≡ c = cc in absurd (h.0 (subst (IsAt 79) same is))
ten_said [] after (c ∷ avps) a sessions (inr h) e is =
    let same : c ≡ a = cc in
    (ap (λ (x : Avp). x.hidden) (sym same) ∙ h.2.plain, ap (λ (x : Avp). length x.value) (sym same) ∙ h.2.wide)
ten_said (b ∷ before) after (c ∷ avps) a sessions (inl h) e is = let rest : avps ≡ before ++ a ∷ after = cc in ten_said before after avps a sessions h.1 rest is
ten_said (b ∷ before) after (c ∷ avps) a sessions (inr h) e is = let rest : avps ≡ before ++ a ∷ after = cc in ten_said before after avps a h.1 h.4 rest is

pub sessions_good : (k : Kind) (avps : List Avp) (sessions : List Pair) → shape_of k 79 ≡ Some ShortLongLong → SaysSessions avps sessions → AreStatesGood k avps
sessions_good k avps sessions used h s shape before after a e is =
    let same : ShortLongLong ≡ s = let both : Some ShortLongLong ≡ Some s = sym used ∙ shape in cc in
    subst (λ (x : Shape). (a.hidden ≡ false) × HasShape x a.value) same (ten_said before after avps a sessions h e is)

pub first_good : (avps : List Avp)
    → ((before after : List Avp) (a : Avp) → avps ≡ before ++ a ∷ after → IsAt 79 a → (a.hidden ≡ false) × HasShape ShortLongLong a.value)
    → IsGood avps (79, ShortLongLong)
first_good avps each a f = each f.before f.after a f.parts f.is

-- ---- what was written

pub sessions_written : (sessions : List Pair) → AllByRecursion (λ p. (p.sender < 2 ^ 32) × (p.receiver < 2 ^ 32)) sessions
    → SaysSessions (session_pairs sessions) sessions
unfolding u16_bytes u32_bytes
sessions_written [] w = refl
sessions_written (p ∷ sessions) w =
    let lt = w.0.0 in
    let le = w.0.1 in
    let says : TellsSession (session_pair p) p = record { is = (refl, refl, refl); plain = refl; wide = refl; sender = omega arith; receiver = omega arith } in
    inr (p, sessions, says, refl, sessions_written sessions w.1)

pub sessions_known : (sessions : List Pair) → NoneIsUnknown (session_pairs sessions)
sessions_known [] = tt
sessions_known (p ∷ sessions) = (inl (refl, inl (refl, inr (inr (omega arith, omega arith)))), sessions_known sessions)

pub sessions_fit : (sessions : List Pair) → AreAvps (session_pairs sessions)
unfolding u16_bytes u32_bytes
sessions_fit [] = tt
sessions_fit (p ∷ sessions) = (record { reserved = omega arith; vendor = omega arith; attribute = omega arith; value = omega arith }, sessions_fit sessions)

pub sessions_plain : (sessions : List Pair) → AllByRecursion (λ (a : Avp). a.hidden ≡ false) (session_pairs sessions)
sessions_plain [] = tt
sessions_plain (p ∷ sessions) = (refl, sessions_plain sessions)
