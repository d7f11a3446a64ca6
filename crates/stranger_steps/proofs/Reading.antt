-- What is found in a table of tunnels, and what a datagram that names no tunnel is for.
use Rattle.std.proofs.Common.{◌≡◌, ℕ, Bool, true, false, cond, List, [], ◌∷◌, refl, subst, Option, Some, None, Result, Ok, Err, is_some}
use Rattle.std.specs.Prelude.{◌==◌, find}
use Rattle.avp_codec.specs.declared.avp.Avp.{Avp}
use Rattle.avp_codec.specs.declared.error.AvpError.{AvpError}
use Rattle.avp_codec.specs.Reading.{avps_of}
use Rattle.control_message.specs.declared.kind.Kind.{Kind}
use Rattle.control_message.specs.declared.kind.Kind.TheVariants as kind
use Rattle.control_message.specs.declared.message.Message.TheVariants.{Sccrq, Sccrp, Scccn, StopCcn, Hello, Ocrq, Ocrp, Occn, Icrq, Icrp, Iccn, Cdn, Wen, Sli, Fsq, Fsr}
use Rattle.control_message.specs.declared.message.MessageError.{MessageError}
use Rattle.control_message.specs.declared.message.Read.{Read}
use Rattle.control_message.specs.declared.message.Read.TheVariants.{Known, Ignored}
use Rattle.control_message.specs.Reading.{plain_short}
use Rattle.end_model.specs.declared.event.Addressee.{Addressee}
use Rattle.end_model.specs.declared.event.Addressee.TheVariants.{Opens, Stops, Answers, Main, Recovery, Recovers, Nobody}
use Rattle.end_model.specs.Reading.{stopped, told_or_none, zero_faulty, zero_read, zero_pairs, at_zero, kind_said, message_said}
use Rattle.stranger_steps.proofs.Turns.{branch}

-- ---- what is found in tables

pub found_passes : {X : Type 0} (p : X → Bool) (xs : List X) (x : X) → find p xs ≡ Some x → p x ≡ true
found_passes p [] x h = absurd cc
found_passes p (y ∷ xs) x h = by (p y) refl h (found_passes p xs x)
  where
    by : (b : Bool) → p y ≡ b → cond b (Some y) (find p xs) ≡ Some x → (find p xs ≡ Some x → p x ≡ true) → p x ≡ true
    by true is e later = let same : y ≡ x = cc in subst (λ z. p z ≡ true) same is
    by false is e later = later e

-- where none passes none is found
pub none_found : (p : ℕ → Bool) (xs : List ℕ) → ((x : ℕ) → p x ≡ true → ⊥) → find p xs ≡ None
none_found p xs none = by (find p xs) refl
  where
    by : (o : Option ℕ) → find p xs ≡ o → o ≡ None
    by None is = refl
    by (Some x) is = absurd (none x (found_passes p xs x is))

pub not_so : (b : Bool) → (b ≡ true → ⊥) → b ≡ false
not_so true no_way = absurd (no_way refl)
not_so false no_way = refl

-- ---- what a datagram that names no tunnel is for

-- no tunnel of this end by the end's own id
abbrev pub NamesNone : Addressee → Type 0
NamesNone (Main i) = ⊥
NamesNone (Recovery i) = ⊥
NamesNone (Opens remote) = Unit {0}
NamesNone (Stops remote) = Unit {0}
NamesNone (Answers remote) = Unit {0}
NamesNone (Recovers remote) = Unit {0}
NamesNone (Nobody w) = Unit {0}

stopped_none : (o : Option ℕ) → NamesNone (stopped o)
stopped_none None = tt
stopped_none (Some i) = branch NamesNone (i == 0) _ _ (λ zero. tt) (λ some. tt)

told_none : (to : ℕ → Addressee) → ((i : ℕ) → NamesNone (to i)) → (o : Option ℕ) → NamesNone (told_or_none to o)
told_none to so None = tt
told_none to so (Some i) = branch NamesNone (i == 0) _ _ (λ zero. tt) (λ some. so i)

faulty_none : (o : Option Kind) (avps : List Avp) → NamesNone (zero_faulty o avps)
faulty_none (Some kind.Sccrq) avps = told_none (λ i. Opens i) (λ i. tt) (plain_short 9 avps)
faulty_none (Some kind.Sccrp) avps = told_none (λ i. Answers i) (λ i. tt) (plain_short 9 avps)
faulty_none (Some kind.StopCcn) avps = stopped_none (plain_short 9 avps)
faulty_none None avps = tt
faulty_none (Some kind.Scccn) avps = tt
faulty_none (Some kind.Hello) avps = tt
faulty_none (Some kind.Ocrq) avps = tt
faulty_none (Some kind.Ocrp) avps = tt
faulty_none (Some kind.Occn) avps = tt
faulty_none (Some kind.Fsq) avps = tt
faulty_none (Some kind.Fsr) avps = tt
faulty_none (Some kind.Icrq) avps = tt
faulty_none (Some kind.Icrp) avps = tt
faulty_none (Some kind.Iccn) avps = tt
faulty_none (Some kind.Cdn) avps = tt
faulty_none (Some kind.Wen) avps = tt
faulty_none (Some kind.Sli) avps = tt

read_none : (avps : List Avp) (r : Result Read MessageError) → NamesNone (zero_read avps r)
unfolding zero_read
read_none avps (Ok (Known (Sccrq o))) = branch NamesNone (is_some o.recovery) _ _ (λ asks. tt) (λ plain. tt)
read_none avps (Ok (Known (Sccrp o))) = tt
read_none avps (Ok (Known (StopCcn tunnel code error))) = stopped_none (Some tunnel)
read_none avps (Ok (Known (Scccn response))) = tt
read_none avps (Ok (Known Hello)) = tt
read_none avps (Ok (Known (Ocrq remote))) = tt
read_none avps (Ok (Known Ocrp)) = tt
read_none avps (Ok (Known Occn)) = tt
read_none avps (Ok (Known (Icrq remote serial calling))) = tt
read_none avps (Ok (Known (Icrp remote))) = tt
read_none avps (Ok (Known (Iccn speed framing sequenced))) = tt
read_none avps (Ok (Known (Cdn remote code error))) = tt
read_none avps (Ok (Known Wen)) = tt
read_none avps (Ok (Known Sli)) = tt
read_none avps (Ok (Known (Fsq sessions))) = tt
read_none avps (Ok (Known (Fsr answers))) = tt
read_none avps (Ok (Ignored n)) = tt
read_none avps (Err x) = faulty_none (kind_said avps) avps

pub zero_none : (body : List ℕ) → NamesNone (at_zero body)
unfolding at_zero zero_pairs
zero_none body = by (avps_of body)
  where
    by : (r : Result (List Avp) AvpError) → NamesNone (zero_pairs r)
    by (Ok avps) = read_none avps (message_said avps)
    by (Err x) = tt
