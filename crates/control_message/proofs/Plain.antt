-- Pairs of which none is hidden, and how long pairs are that were uncovered.
use Rattle.std.proofs.Common.{◌≡◌, ℕ, ◌≤◌, Bool, true, false, List, [], ◌∷◌, ◌++◌, length, take, drop, Option, Some, None, is_some, Result, Ok, Err, ◌⊎◌, refl, sym, ap, subst, ◌∙◌, inl, inr, length-take, length-drop, arith}
use Rattle.std.specs.Prelude.{if◌then◌else◌}
use Rattle.std.specs.List.{find}
use Rattle.std.proofs.lemmas.Bool.{cases_Bool, cases_lt, lt-ltb, le-ltb}
use Rattle.wire_base.specs.declared.numbers.Short.{Short}
use Rattle.wire_base.specs.Numbers.{number_at}
use Rattle.avp_codec.specs.declared.avp.Avp.{Avp}
use Rattle.avp_codec.specs.Spelling.{spelling, Fits, AreAvps}
use Rattle.tunnel_secret.specs.declared.error.UnhideError.{UnhideError}
use Rattle.tunnel_secret.specs.declared.error.UnhideError.TheVariants.{BadLength}
use Rattle.tunnel_secret.specs.Hiding.{first_mask}
use Rattle.tunnel_secret.specs.Revealing.{part_of, value_by, value_of, unhidden}
use Rattle.tunnel_secret.proofs.Blocks.{length-text_of, length-md5}
use Rattle.control_message.specs.declared.message.Message.{Message}
use Rattle.control_message.specs.declared.message.Message.TheVariants.{Sccrq, Sccrp, Scccn, StopCcn, Hello, Ocrq, Ocrp, Occn, Icrq, Icrp, Iccn, Cdn, Wen, Sli, Fsq, Fsr}
use Rattle.control_message.specs.declared.message.Opening.{Opening}
use Rattle.control_message.specs.declared.message.Failover.{Failover}
use Rattle.control_message.specs.declared.message.Recovery.{Recovery}
use Rattle.control_message.specs.declared.message.Suggested.{Suggested}
use Rattle.control_message.specs.Pairs.{failover_pairs, recovery_pairs, suggested_pairs, draw_pairs, recovering_pairs, challenge_pairs, response_pairs, secret_pairs, opening_pairs, calling_pairs, pairs_of}
use Rattle.control_message.specs.Uncovering.{may_be_uncovered, uncovered_by, uncovered_pair, vector_after, uncovered_all, uncovered, NoneIsHidden}
use Rattle.control_message.proofs.Sessions.{sessions_plain}
use Rattle.control_message.proofs.Room.{one_spelled}

-- ---- where no pair is hidden

pair_stays : (secret : List ℕ) (vector : Option (List ℕ)) (a : Avp) → a.hidden ≡ false → uncovered_pair secret vector a ≡ a
unfolding uncovered_pair
pair_stays secret None a h = refl
pair_stays secret (Some v) a h = rw h refl

all_stay : (secret : List ℕ) (vector : Option (List ℕ)) (avps : List Avp) → NoneIsHidden avps → uncovered_all secret vector avps ≡ avps
all_stay secret vector [] h = refl
all_stay secret vector (a ∷ avps) h = rw (pair_stays secret vector a h.0, all_stay secret (vector_after vector a) avps h.1) refl

pub leaves_plain : (k : Option (List ℕ)) (avps : List Avp) → NoneIsHidden avps → uncovered k avps ≡ avps
leaves_plain None avps h = refl
leaves_plain (Some secret) avps h = all_stay secret None avps h

pub none_hidden : (avps : List Avp) → find (λ (a : Avp). a.hidden) avps ≡ None → NoneIsHidden avps
none_hidden [] h = tt
none_hidden (a ∷ avps) h =
    elim (cases_Bool a.hidden) [
      | inl t ↦
          let e : find (λ (x : Avp). x.hidden) (a ∷ avps) ≡ Some a = ap (λ (b : Bool). if b then Some a else find (λ (x : Avp). x.hidden) avps) t in
          let h' : Some a ≡ None = sym e ∙ h in
          absurd cc
      | inr f ↦
          let e : find (λ (x : Avp). x.hidden) (a ∷ avps) ≡ find (λ (x : Avp). x.hidden) avps = ap (λ (b : Bool). if b then Some a else find (λ (x : Avp). x.hidden) avps) f in
          (f, none_hidden avps (sym e ∙ h))
    ]

pub none_found : (o : Option Avp) → is_some o ≡ false → o ≡ None
none_found None h = refl
none_found (Some a) h = let h' : true ≡ false = h in absurd cc

pub nothing_uncovered : (secret : List ℕ) (avps : List Avp) → find (λ (a : Avp). a.hidden) avps ≡ None → uncovered_all secret None avps ≡ avps
nothing_uncovered secret avps h = all_stay secret None avps (none_hidden avps h)

-- ---- the pairs of a message

both_plain : (v w : List Avp) → NoneIsHidden v → NoneIsHidden w → NoneIsHidden (v ++ w)
both_plain [] w h k = k
both_plain (a ∷ v) w h k = (h.0, both_plain v w h.1 k)

failover_plain : (f : Option Failover) → NoneIsHidden (failover_pairs f)
failover_plain None = tt
failover_plain (Some f) = (refl, tt)

recovery_plain : (r : Option Recovery) → NoneIsHidden (recovery_pairs r)
recovery_plain None = tt
recovery_plain (Some r) = (refl, tt)

suggested_plain : (s : Option Suggested) → NoneIsHidden (suggested_pairs s)
suggested_plain None = tt
suggested_plain (Some s) = (refl, tt)

draw_plain : (d : Option ℕ) → NoneIsHidden (draw_pairs d)
draw_plain None = tt
draw_plain (Some x) = (refl, tt)

challenge_plain : (c : Option (List ℕ)) → NoneIsHidden (challenge_pairs c)
challenge_plain None = tt
challenge_plain (Some v) = (refl, tt)

response_plain : (r : Option (List ℕ)) → NoneIsHidden (response_pairs r)
response_plain None = tt
response_plain (Some v) = (refl, tt)

calling_plain : (c : Option (List ℕ)) → NoneIsHidden (calling_pairs c)
calling_plain None = tt
calling_plain (Some v) = (refl, tt)

opening_plain : (number : ℕ) (o : Opening) → NoneIsHidden (opening_pairs number o)
opening_plain number o =
    let two = both_plain (recovery_pairs o.recovery) (suggested_pairs o.suggested) (recovery_plain o.recovery) (suggested_plain o.suggested) in
    let recovering = both_plain (recovery_pairs o.recovery ++ suggested_pairs o.suggested) (draw_pairs o.attempt) two (draw_plain o.attempt) in
    let secrets = both_plain (challenge_pairs o.challenge) (response_pairs o.response) (challenge_plain o.challenge) (response_plain o.response) in
    let both = both_plain (failover_pairs o.failover) (recovering_pairs o) (failover_plain o.failover) recovering in
    let told = both_plain (failover_pairs o.failover ++ recovering_pairs o) (secret_pairs o) both secrets in
    (refl, (refl, (refl, (refl, (refl, (refl, told))))))

pub pairs_plain : (m : Message) → NoneIsHidden (pairs_of m)
pairs_plain (Sccrq o) = opening_plain 1 o
pairs_plain (Sccrp o) = opening_plain 2 o
pairs_plain (Scccn response) = (refl, response_plain response)
pairs_plain (StopCcn tunnel result error) = (refl, (refl, (refl, tt)))
pairs_plain Hello = (refl, tt)
pairs_plain (Ocrq session) = tt
pairs_plain Ocrp = tt
pairs_plain Occn = tt
pairs_plain (Icrq session serial calling) = (refl, (refl, (refl, calling_plain calling)))
pairs_plain (Icrp session) = (refl, (refl, tt))
pairs_plain (Iccn speed framing sequenced) = (refl, (refl, (refl, tt)))
pairs_plain (Cdn session result error) = (refl, (refl, (refl, tt)))
pairs_plain Wen = tt
pairs_plain Sli = tt
pairs_plain (Fsq sessions) = (refl, sessions_plain sessions)
pairs_plain (Fsr sessions) = (refl, sessions_plain sessions)

pub messages_stay : (k : Option (List ℕ)) (m : Message) → uncovered k (pairs_of m) ≡ pairs_of m
messages_stay k m = leaves_plain k (pairs_of m) (pairs_plain m)

-- ---- what is uncovered is no longer

part_within : (said : ℕ) (behind v : List ℕ) → part_of said behind ≡ Ok v → length v ≤ length behind
part_within said behind v h =
    elim (cases_lt (length behind) said) [
      | inl short ↦ absurd (let h' : Err (BadLength said (length behind)) ≡ Ok v = rw (lt-ltb (length behind) said short) at h in cc)
      | inr whole ↦
          let same : take said behind ≡ v = let h' : Ok (take said behind) ≡ Ok v = rw (le-ltb (length behind) said whole) at h in cc in
          subst (λ (x : List ℕ). length x ≤ length behind) same (omega (arith, length-take said behind))
    ]

by_within : (r : Result ℕ Short) (plain v : List ℕ) → value_by r plain ≡ Ok v → length v ≤ length plain
by_within (Err e) plain v h = absurd cc
by_within (Ok said) plain v h = let le = part_within said (drop 2 plain) v h in omega (arith, length-drop 2 plain)

of_within : (plain v : List ℕ) → value_of plain ≡ Ok v → length v ≤ length plain
of_within plain v h = by_within (number_at 2 plain 0) plain v h

pub within : (attribute : ℕ) (secret vector cipher v : List ℕ) → unhidden attribute secret vector cipher ≡ Ok v → length v ≤ length cipher
within attribute secret vector cipher v h =
    subst (λ (n : ℕ). length v ≤ n) (length-text_of _ secret (first_mask attribute secret vector) cipher (length-md5 _)) (of_within _ v h)

-- a pair, or the same one with a value that is no longer
abbrev IsNoLonger : Avp → Avp → Type 0
IsNoLonger a p = (p ≡ a) ⊎ ((v : List ℕ) × (length v ≤ length a.value) × (p ≡ record a { hidden = false; value = v }))

by_no_longer : (a : Avp) (r : Result (List ℕ) UnhideError) → ((v : List ℕ) → r ≡ Ok v → length v ≤ length a.value) → IsNoLonger a (uncovered_by a r)
by_no_longer a (Ok v) h = inr (v, h v refl, refl)
by_no_longer a (Err e) h = inl refl

no_longer : (secret : List ℕ) (vector : Option (List ℕ)) (a : Avp) → IsNoLonger a (uncovered_pair secret vector a)
unfolding uncovered_pair
no_longer secret None a = inl refl
no_longer secret (Some v) a =
    elim (cases_Bool (may_be_uncovered a)) [
      | inl t ↦ rw t (by_no_longer a (unhidden a.attribute secret v a.value) (λ x e. within a.attribute secret v a.value x e))
      | inr f ↦ rw f (inl refl)
    ]

length_no_longer : (a p : Avp) → IsNoLonger a p → length p.value ≤ length a.value
length_no_longer a p (inl e) = subst (λ (x : Avp). length x.value ≤ length a.value) (sym e) (omega arith)
length_no_longer a p (inr h) = subst (λ (x : Avp). length x.value ≤ length a.value) (sym h.2) h.1

fits_no_longer : (a p : Avp) → IsNoLonger a p → Fits a → Fits p
fits_no_longer a p (inl e) f = subst Fits (sym e) f
fits_no_longer a p (inr h) f =
    subst Fits (sym h.2) (record { reserved = f.reserved; vendor = f.vendor; attribute = f.attribute; value = let le = f.value in let l = h.1 in omega arith })

all_shorter : (secret : List ℕ) (vector : Option (List ℕ)) (avps : List Avp) → length (spelling (uncovered_all secret vector avps)) ≤ length (spelling avps)
all_shorter secret vector [] = omega arith
all_shorter secret vector (a ∷ avps) =
    let p : Avp = uncovered_pair secret vector a in
    let one = length_no_longer a p (no_longer secret vector a) in
    let others = all_shorter secret (vector_after vector a) avps in
    let l = one_spelled p (uncovered_all secret (vector_after vector a) avps) in
    let r = one_spelled a avps in
    omega arith

pub shorter : (k : Option (List ℕ)) (avps : List Avp) → length (spelling (uncovered k avps)) ≤ length (spelling avps)
shorter None avps = omega arith
shorter (Some secret) avps = all_shorter secret None avps

all_fit : (secret : List ℕ) (vector : Option (List ℕ)) (avps : List Avp) → AreAvps avps → AreAvps (uncovered_all secret vector avps)
all_fit secret vector [] h = tt
all_fit secret vector (a ∷ avps) h =
    (fits_no_longer a (uncovered_pair secret vector a) (no_longer secret vector a) h.0, all_fit secret (vector_after vector a) avps h.1)

pub uncovered_fit : (k : Option (List ℕ)) (avps : List Avp) → AreAvps avps → AreAvps (uncovered k avps)
uncovered_fit None avps h = h
uncovered_fit (Some secret) avps h = all_fit secret None avps h
