-- An opening that was written says what it tells.
use Rattle.std.proofs.Common.{◌≡◌, ◌≢◌, ℕ, ◌^◌, ◌<◌, ◌≤◌, ◌++◌, ◌⊎◌, Bool, false, List, [], ◌∷◌, length, Option, Some, None, IsSomeAnd, IfSome, refl, ap, ◌∙◌, inl, inr, arith}
use Rattle.std.specs.List.{AllByRecursion, find}
use Rattle.std.proofs.lemmas.Bool.{cases_Bool}
use Rattle.wire_base.specs.Numbers.{u16_bytes, u32_bytes}
use Rattle.wire_base.specs.NumberLaws.{length-u16_bytes, length-u32_bytes, number-u16_bytes}
use Rattle.wire_base.specs.declared.pair.Pair.{Pair}
use Rattle.avp_codec.specs.declared.avp.Avp.{Avp}
use Rattle.control_message.specs.declared.message.Message.TheVariants.{Sccrq, Sccrp, Fsq, Fsr}
use Rattle.control_message.specs.declared.kind.Kinds.{Kinds}
use Rattle.control_message.specs.declared.message.Opening.{Opening}
use Rattle.control_message.specs.declared.message.Failover.{Failover}
use Rattle.control_message.specs.declared.message.Recovery.{Recovery}
use Rattle.control_message.specs.declared.message.Suggested.{Suggested}
use Rattle.control_message.specs.Pairs.{pair, optional_pair, draw_pair, failover_pairs, recovery_pairs, suggested_pairs, draw_pairs, challenge_pairs, response_pairs, recovering_pairs, secret_pairs, told_pairs, opening_front, opening_pairs, pairs_of, IsWrittenOpening, AreWrittenSessions}
use Rattle.control_message.specs.Reading.{is_at, first, is_draw, first_draw}
use Rattle.control_message.specs.Grammar.{IsOfIetf, IsRecognised, NoneIsUnknown, HasValue, HasNumber, SaysText, SaysWindow, SaysFailover, SaysRecovery, SaysSuggested, SaysDraw, SaysResponse, SaysOpening, IsKnownTo, SaysKnown}
use Rattle.control_message.proofs.Firsts.{first_absent, stands_first, first_no_draw, first_draws}
use Rattle.control_message.proofs.Sessions.{sessions_written, sessions_known}
use Rattle.control_message.proofs.Numbers.{short_again, long_again, long_before}

-- ---- the first of a sort, in lists one behind the other

abbrev or_else : Option Avp → Option Avp → Option Avp
or_else None o = o
or_else (Some a) o = Some a

find_both : (test : Avp → Bool) (v w : List Avp) → find test (v ++ w) ≡ or_else (find test v) (find test w)
find_both test [] w = refl
find_both test (a ∷ v) w = elim (cases_Bool (test a)) [ inl t ↦ rw t refl | inr f ↦ rw f (find_both test v w) ]

-- the first of each of the six lists that an opening tells, and of all
abbrev pick : Option Avp → Option Avp → Option Avp → Option Avp → Option Avp → Option Avp → Option Avp
pick f r s d c p = or_else (or_else f (or_else (or_else r s) d)) (or_else c p)

abbrev picked : (Avp → Bool) → Opening → Option Avp
picked test o =
    pick (find test (failover_pairs o.failover)) (find test (recovery_pairs o.recovery)) (find test (suggested_pairs o.suggested)) (find test (draw_pairs o.attempt))
    (find test (challenge_pairs o.challenge)) (find test (response_pairs o.response))

told_found : (test : Avp → Bool) (o : Opening) → find test (told_pairs o) ≡ picked test o
told_found test o =
    let f = failover_pairs o.failover in
    let r = recovery_pairs o.recovery in
    let s = suggested_pairs o.suggested in
    let d = draw_pairs o.attempt in
    let c = challenge_pairs o.challenge in
    let p = response_pairs o.response in
    find_both test (f ++ recovering_pairs o) (secret_pairs o)
    ∙ ap (λ (x : Option Avp). or_else x (find test (secret_pairs o))) (find_both test f (recovering_pairs o))
    ∙ ap (λ (x : Option Avp). or_else (or_else (find test f) x) (find test (secret_pairs o))) (find_both test (r ++ s) d)
    ∙ ap (λ (x : Option Avp). or_else (or_else (find test f) (or_else x (find test d))) (find test (secret_pairs o))) (find_both test r s)
    ∙ ap (λ (x : Option Avp). or_else (or_else (find test f) (or_else (or_else (find test r) (find test s)) (find test d))) x) (find_both test c p)

-- where none is in front
pub told_first : (test : Avp → Bool) (number : ℕ) (o : Opening) → find test (opening_front number o) ≡ None → find test (opening_pairs number o) ≡ picked test o
told_first test number o none =
    find_both test (opening_front number o) (told_pairs o) ∙ ap (λ (x : Option Avp). or_else x (find test (told_pairs o))) none ∙ told_found test o

-- where the others have none
only_first : (f r s d c p : Option Avp) → r ≡ None → s ≡ None → d ≡ None → c ≡ None → p ≡ None → pick f r s d c p ≡ f
only_first None r s d c p hr hs hd hc hp = rw (hr, hs, hd, hc, hp) refl
only_first (Some a) r s d c p hr hs hd hc hp = refl

only_second : (f r s d c p : Option Avp) → f ≡ None → s ≡ None → d ≡ None → c ≡ None → p ≡ None → pick f r s d c p ≡ r
only_second f None s d c p hf hs hd hc hp = rw (hf, hs, hd, hc, hp) refl
only_second f (Some a) s d c p hf hs hd hc hp = rw hf refl

only_third : (f r s d c p : Option Avp) → f ≡ None → r ≡ None → d ≡ None → c ≡ None → p ≡ None → pick f r s d c p ≡ s
only_third f r None d c p hf hr hd hc hp = rw (hf, hr, hd, hc, hp) refl
only_third f r (Some a) d c p hf hr hd hc hp = rw (hf, hr) refl

only_fourth : (f r s d c p : Option Avp) → f ≡ None → r ≡ None → s ≡ None → c ≡ None → p ≡ None → pick f r s d c p ≡ d
only_fourth f r s None c p hf hr hs hc hp = rw (hf, hr, hs, hc, hp) refl
only_fourth f r s (Some a) c p hf hr hs hc hp = rw (hf, hr, hs) refl

only_fifth : (f r s d c p : Option Avp) → f ≡ None → r ≡ None → s ≡ None → d ≡ None → p ≡ None → pick f r s d c p ≡ c
only_fifth f r s d None p hf hr hs hd hp = rw (hf, hr, hs, hd, hp) refl
only_fifth f r s d (Some a) p hf hr hs hd hp = rw (hf, hr, hs, hd) refl

only_sixth : (f r s d c p : Option Avp) → f ≡ None → r ≡ None → s ≡ None → d ≡ None → c ≡ None → pick f r s d c p ≡ p
only_sixth f r s d c p hf hr hs hd hc = rw (hf, hr, hs, hd, hc) refl

-- a list of one attribute has none of another
no_failover : (test : Avp → Bool) (f : Option Failover) → ((v : List ℕ) → test (optional_pair 76 v) ≡ false) → find test (failover_pairs f) ≡ None
no_failover test None other = refl
no_failover test (Some f) other = rw (other (u16_bytes f.flags ++ u32_bytes f.time)) refl

no_recovery : (test : Avp → Bool) (r : Option Recovery) → ((v : List ℕ) → test (pair 77 v) ≡ false) → find test (recovery_pairs r) ≡ None
no_recovery test None other = refl
no_recovery test (Some r) other = rw (other (u16_bytes 0 ++ u32_bytes r.sender ++ u32_bytes r.receiver)) refl

no_suggested : (test : Avp → Bool) (s : Option Suggested) → ((v : List ℕ) → test (pair 78 v) ≡ false) → find test (suggested_pairs s) ≡ None
no_suggested test None other = refl
no_suggested test (Some s) other = rw (other (u16_bytes 0 ++ u16_bytes s.ns ++ u16_bytes s.nr)) refl

no_draw : (test : Avp → Bool) (d : Option ℕ) → ((v : List ℕ) → test (draw_pair v) ≡ false) → find test (draw_pairs d) ≡ None
no_draw test None other = refl
no_draw test (Some x) other = rw (other (u32_bytes x)) refl

no_challenge : (test : Avp → Bool) (c : Option (List ℕ)) → ((v : List ℕ) → test (pair 11 v) ≡ false) → find test (challenge_pairs c) ≡ None
no_challenge test None other = refl
no_challenge test (Some v) other = rw (other v) refl

no_response : (test : Avp → Bool) (r : Option (List ℕ)) → ((v : List ℕ) → test (pair 13 v) ≡ false) → find test (response_pairs r) ≡ None
no_response test None other = refl
no_response test (Some v) other = rw (other v) refl

-- which pair of each attribute stands first
module _ (number : ℕ) (o : Opening) where
  failover_first : first 76 (opening_pairs number o) ≡ first 76 (failover_pairs o.failover)
  failover_first =
      let test : Avp → Bool = λ a. is_at 76 a in
      told_first test number o refl
      ∙ only_first _ _ _ _ _ _ (no_recovery test o.recovery (λ v. refl)) (no_suggested test o.suggested (λ v. refl)) (no_draw test o.attempt (λ v. refl))
      (no_challenge test o.challenge (λ v. refl)) (no_response test o.response (λ v. refl))

  recovery_first : first 77 (opening_pairs number o) ≡ first 77 (recovery_pairs o.recovery)
  recovery_first =
      let test : Avp → Bool = λ a. is_at 77 a in
      told_first test number o refl
      ∙ only_second _ _ _ _ _ _ (no_failover test o.failover (λ v. refl)) (no_suggested test o.suggested (λ v. refl)) (no_draw test o.attempt (λ v. refl))
      (no_challenge test o.challenge (λ v. refl)) (no_response test o.response (λ v. refl))

  suggested_first : first 78 (opening_pairs number o) ≡ first 78 (suggested_pairs o.suggested)
  suggested_first =
      let test : Avp → Bool = λ a. is_at 78 a in
      told_first test number o refl
      ∙ only_third _ _ _ _ _ _ (no_failover test o.failover (λ v. refl)) (no_recovery test o.recovery (λ v. refl)) (no_draw test o.attempt (λ v. refl))
      (no_challenge test o.challenge (λ v. refl)) (no_response test o.response (λ v. refl))

  draw_stands : first_draw (opening_pairs number o) ≡ first_draw (draw_pairs o.attempt)
  draw_stands =
      let test : Avp → Bool = λ a. is_draw a in
      told_first test number o refl
      ∙ only_fourth _ _ _ _ _ _ (no_failover test o.failover (λ v. refl)) (no_recovery test o.recovery (λ v. refl)) (no_suggested test o.suggested (λ v. refl))
      (no_challenge test o.challenge (λ v. refl)) (no_response test o.response (λ v. refl))

  challenge_first : first 11 (opening_pairs number o) ≡ first 11 (challenge_pairs o.challenge)
  challenge_first =
      let test : Avp → Bool = λ a. is_at 11 a in
      told_first test number o refl
      ∙ only_fifth _ _ _ _ _ _ (no_failover test o.failover (λ v. refl)) (no_recovery test o.recovery (λ v. refl)) (no_suggested test o.suggested (λ v. refl))
      (no_draw test o.attempt (λ v. refl)) (no_response test o.response (λ v. refl))

  response_first : first 13 (opening_pairs number o) ≡ first 13 (response_pairs o.response)
  response_first =
      let test : Avp → Bool = λ a. is_at 13 a in
      told_first test number o refl
      ∙ only_sixth _ _ _ _ _ _ (no_failover test o.failover (λ v. refl)) (no_recovery test o.recovery (λ v. refl)) (no_suggested test o.suggested (λ v. refl))
      (no_draw test o.attempt (λ v. refl)) (no_challenge test o.challenge (λ v. refl))

-- ---- what is said by the first pair

pub text_there : (n : ℕ) (v : List ℕ) (avps : List Avp) → first n avps ≡ Some (pair n v) → HasValue n v avps
text_there n v avps e = record { pair = pair n v; first = stands_first n (pair n v) avps e; plain = refl; same = refl }

pub short_there : (n x : ℕ) (avps : List Avp) → x < 2 ^ 16 → first n avps ≡ Some (pair n (u16_bytes x)) → HasNumber n 2 x avps
short_there n x avps lt e = record { value = u16_bytes x; has = text_there n (u16_bytes x) avps e; wide = length-u16_bytes x; number = short_again x lt }

pub long_there : (n x : ℕ) (avps : List Avp) → x < 2 ^ 32 → first n avps ≡ Some (pair n (u32_bytes x)) → HasNumber n 4 x avps
long_there n x avps lt e = record { value = u32_bytes x; has = text_there n (u32_bytes x) avps e; wide = length-u32_bytes x; number = long_again x lt }

failover_there : (avps : List Avp) (f : Option Failover) → IsSomeAnd f (λ x. (x.flags < 2 ^ 16) × (x.time < 2 ^ 32)) → first 76 avps ≡ first 76 (failover_pairs f)
    → SaysFailover avps f
unfolding u16_bytes u32_bytes
failover_there avps None fits e = absurd fits
failover_there avps (Some f) fits e =
    let v = u16_bytes f.flags ++ u32_bytes f.time in
    record {
      value = v;
      has = record { pair = optional_pair 76 v; first = stands_first 76 (optional_pair 76 v) avps e; plain = refl; same = refl };
      wide = refl;
      flags = number-u16_bytes f.flags (u32_bytes f.time) fits.0;
      time = long_again f.time fits.1;
    }

recovery_there : (avps : List Avp) (r : Option Recovery) → IfSome r (λ x. (x.sender < 2 ^ 32) × (x.receiver < 2 ^ 32)) → first 77 avps ≡ first 77 (recovery_pairs r)
    → SaysRecovery avps r
unfolding u16_bytes u32_bytes
recovery_there avps None fits e = first_absent 77 avps e
recovery_there avps (Some r) fits e =
    let v = u16_bytes 0 ++ u32_bytes r.sender ++ u32_bytes r.receiver in
    record {
      value = v;
      has = text_there 77 v avps e;
      wide = refl;
      sender = long_before r.sender (u32_bytes r.receiver) fits.0;
      receiver = long_again r.receiver fits.1;
    }

suggested_there : (avps : List Avp) (s : Option Suggested) → IfSome s (λ x. (x.ns < 2 ^ 16) × (x.nr < 2 ^ 16)) → first 78 avps ≡ first 78 (suggested_pairs s)
    → SaysSuggested avps s
unfolding u16_bytes
suggested_there avps None fits e = first_absent 78 avps e
suggested_there avps (Some s) fits e =
    let v = u16_bytes 0 ++ u16_bytes s.ns ++ u16_bytes s.nr in
    record {
      value = v;
      has = text_there 78 v avps e;
      wide = refl;
      ns = number-u16_bytes s.ns (u16_bytes s.nr) fits.0;
      nr = short_again s.nr fits.1;
    }

draw_there : (avps : List Avp) (d : Option ℕ) → IfSome d (λ x. x < 2 ^ 32) → first_draw avps ≡ first_draw (draw_pairs d) → SaysDraw avps d
draw_there avps None fits e = first_no_draw avps e
draw_there avps (Some x) fits e =
    record { pair = draw_pair (u32_bytes x); first = first_draws (draw_pair (u32_bytes x)) avps e; plain = refl; wide = length-u32_bytes x; number = long_again x fits }

challenge_there : (avps : List Avp) (c : Option (List ℕ)) → first 11 avps ≡ first 11 (challenge_pairs c) → SaysText 11 avps c
challenge_there avps None e = first_absent 11 avps e
challenge_there avps (Some v) e = text_there 11 v avps e

response_there : (avps : List Avp) (r : Option (List ℕ)) → IfSome r (λ v. length v ≡ 16) → first 13 avps ≡ first 13 (response_pairs r) → SaysResponse avps r
response_there avps None wide e = first_absent 13 avps e
response_there avps (Some v) wide e = (text_there 13 v avps e, wide)

-- ---- no pair is unknown

abbrev IsKnown : Avp → Type 0
IsKnown a = IsRecognised a ⊎ (a.mandatory ≡ false)

pub both_known : (v w : List Avp) → NoneIsUnknown v → NoneIsUnknown w → NoneIsUnknown (v ++ w)
both_known [] w h k = k
both_known (a ∷ v) w h k = (h.0, both_known v w h.1 k)

pub pair_known : (n : ℕ) (v : List ℕ) → IsOfIetf n → IsKnown (pair n v)
pair_known n v listed = inl (refl, inl (refl, listed))

failover_known : (f : Option Failover) → NoneIsUnknown (failover_pairs f)
failover_known None = tt
failover_known (Some f) = (inr refl, tt)

recovery_known : (r : Option Recovery) → NoneIsUnknown (recovery_pairs r)
recovery_known None = tt
recovery_known (Some r) = (pair_known 77 (u16_bytes 0 ++ u32_bytes r.sender ++ u32_bytes r.receiver) (inr (inr (omega arith, omega arith))), tt)

suggested_known : (s : Option Suggested) → NoneIsUnknown (suggested_pairs s)
suggested_known None = tt
suggested_known (Some s) = (pair_known 78 (u16_bytes 0 ++ u16_bytes s.ns ++ u16_bytes s.nr) (inr (inr (omega arith, omega arith))), tt)

draw_known : (d : Option ℕ) → NoneIsUnknown (draw_pairs d)
draw_known None = tt
draw_known (Some x) = (inr refl, tt)

challenge_known : (c : Option (List ℕ)) → NoneIsUnknown (challenge_pairs c)
challenge_known None = tt
challenge_known (Some v) = (pair_known 11 v (inl (omega arith)), tt)

response_known : (r : Option (List ℕ)) → NoneIsUnknown (response_pairs r)
response_known None = tt
response_known (Some v) = (pair_known 13 v (inl (omega arith)), tt)

told_known : (o : Opening) → NoneIsUnknown (told_pairs o)
told_known o =
    let two = both_known (recovery_pairs o.recovery) (suggested_pairs o.suggested) (recovery_known o.recovery) (suggested_known o.suggested) in
    let recovering = both_known (recovery_pairs o.recovery ++ suggested_pairs o.suggested) (draw_pairs o.attempt) two (draw_known o.attempt) in
    let secrets = both_known (challenge_pairs o.challenge) (response_pairs o.response) (challenge_known o.challenge) (response_known o.response) in
    let both = both_known (failover_pairs o.failover) (recovering_pairs o) (failover_known o.failover) recovering in
    both_known (failover_pairs o.failover ++ recovering_pairs o) (secret_pairs o) both secrets

opening_known : (number : ℕ) (o : Opening) → NoneIsUnknown (opening_pairs number o)
opening_known number o = (
  pair_known 0 (u16_bytes number) (inl (omega arith)),
  (
    pair_known 2 (u16_bytes o.version) (inl (omega arith)),
    (
      pair_known 3 (u32_bytes o.framing) (inl (omega arith)),
      (
        pair_known 7 o.name (inl (omega arith)),
        (pair_known 9 (u16_bytes o.tunnel) (inl (omega arith)), (pair_known 10 (u16_bytes o.window) (inl (omega arith)), told_known o)),
      ),
    ),
  ),
)

-- ---- an opening

opening_says : (number : ℕ) (o : Opening) → IsWrittenOpening o → SaysOpening (opening_pairs number o) o
opening_says number o w =
    let avps = opening_pairs number o in
    record {
      version = short_there 2 o.version avps (let v = w.version in omega arith) refl;
      framing = long_there 3 o.framing avps w.framing refl;
      name = text_there 7 o.name avps refl;
      tunnel = short_there 9 o.tunnel avps w.tunnel refl;
      tunnel_not_zero = λ zero. let some = w.tunnel_not_zero in omega arith;
      window = inl (short_there 10 o.window avps w.window refl, λ zero. let some = w.window_not_zero in omega arith);
      failover = failover_there avps o.failover w.failover (failover_first number o);
      challenge = challenge_there avps o.challenge (challenge_first number o);
    }

pub request_says : (known : Kinds) (o : Opening) → IsWrittenOpening o → o.response ≡ None → o.suggested ≡ None → SaysKnown known (opening_pairs 1 o) (Sccrq o)
request_says known o w unanswered unsuggested =
    let avps = opening_pairs 1 o in
    record {
      kind = tt;
      number = short_there 0 1 avps (omega arith) refl;
      known = opening_known 1 o;
      says = (
        opening_says 1 o w,
        recovery_there avps o.recovery w.recovery (recovery_first 1 o),
        draw_there avps o.attempt w.attempt (draw_stands 1 o),
        unanswered,
        unsuggested,
      );
    }

pub reply_says : (known : Kinds) (o : Opening) → IsWrittenOpening o → o.recovery ≡ None → SaysKnown known (opening_pairs 2 o) (Sccrp o)
reply_says known o w none =
    let avps = opening_pairs 2 o in
    record {
      kind = tt;
      number = short_there 0 2 avps (omega arith) refl;
      known = opening_known 2 o;
      says = (
        opening_says 2 o w,
        response_there avps o.response w.response (response_first 2 o),
        suggested_there avps o.suggested w.suggested (suggested_first 2 o),
        draw_there avps o.attempt w.attempt (draw_stands 2 o),
        none,
      );
    }

-- ---- queries

pub query_says : (known : Kinds) (sessions : List Pair) → IsKnownTo (Fsq sessions) known → AreWrittenSessions sessions
    → SaysKnown known (pairs_of (Fsq sessions)) (Fsq sessions)
query_says known sessions is w =
    record {
      kind = is;
      number = short_there 0 21 (pairs_of (Fsq sessions)) (omega arith) refl;
      known = (inl (refl, inl (refl, inl (omega arith))), sessions_known sessions);
      says = inl (λ at_. let zero = at_.1 in absurd cc, sessions_written sessions w.ids);
    }

pub response_says : (known : Kinds) (sessions : List Pair) → IsKnownTo (Fsr sessions) known → AreWrittenSessions sessions
    → SaysKnown known (pairs_of (Fsr sessions)) (Fsr sessions)
response_says known sessions is w =
    record {
      kind = is;
      number = short_there 0 22 (pairs_of (Fsr sessions)) (omega arith) refl;
      known = (inl (refl, inl (refl, inl (omega arith))), sessions_known sessions);
      says = inl (λ at_. let zero = at_.1 in absurd cc, sessions_written sessions w.ids);
    }
