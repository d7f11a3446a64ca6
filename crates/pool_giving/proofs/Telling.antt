-- Whoever was told stays told.
use Rattle.std.proofs.Common.{◌≡◌, ℕ, Bool, true, false, cond, List, OnOk, OnErr, refl, ap, sym, ◌∙◌, eqb}
use Rattle.std.proofs.lemmas.Option.{none-some}
use Rattle.std.proofs.lemmas.Bool.{eqb-true}
use Rattle.std.specs.Prelude.{⊤, Option, Some, None, option_map, Result, Ok, Err}
use Rattle.pppoe_session.specs.declared.Subscriber.{Subscriber}
use Rattle.pppoe_session.specs.declared.AdmitError.{AdmitError}
use Rattle.pppoe_session.specs.Subscribers.{subscriber_of, holder_of, admitted, AnswersTaken}
use Rattle.id_table.specs.Ids.{at, put, at-put}

abbrev mac_in : Option Subscriber → Option (List ℕ)
mac_in o = option_map (λ (s : Subscriber). s.mac) o

holder_is : (es : List (ℕ × Subscriber)) (s : ℕ) → holder_of es s ≡ mac_in (subscriber_of es s)
unfolding holder_of
holder_is es s = refl

added_is : (es : List (ℕ × Subscriber)) (session : ℕ) (who : Subscriber) (s : ℕ) → holder_of (admitted es session who) s ≡ mac_in (cond (eqb s session) (Some who) (subscriber_of es s))
unfolding holder_of subscriber_of admitted at put
added_is es session who s = ap mac_in (at-put es session who s)

module _ (es : List (ℕ × Subscriber)) (session : ℕ) (who : Subscriber) (s : ℕ) (mac : List ℕ) (told : holder_of es s ≡ Some mac) where
  there : mac_in (subscriber_of es s) ≡ Some mac
  there = sym (holder_is es s) ∙ told

  -- nobody holds the session
  by_place : subscriber_of es session ≡ None → (b : Bool) → eqb s session ≡ b → mac_in (cond b (Some who) (subscriber_of es s)) ≡ Some mac
  by_place none true is =
      let same : s ≡ session = eqb-true s session is in
      let gone : subscriber_of es s ≡ None = ap (subscriber_of es) same ∙ none in
      absurd (none-some mac (sym (ap mac_in gone) ∙ there))
  by_place none false is = there

  by_holder : (o : Option Subscriber) → subscriber_of es session ≡ o → AnswersTaken {A = ⊤} session o (Ok tt) → holder_of (admitted es session who) s ≡ Some mac
  by_holder (Some w) is taken = absurd taken
  by_holder None is taken = added_is es session who s ∙ (by_place is (eqb s session) refl)

-- a session was given to whoever was told, or nothing was
pub told_after : (es fs : List (ℕ × Subscriber)) (session : ℕ) (who : Subscriber) (r : Result ⊤ AdmitError) → OnOk r (fs ≡ admitted es session who) → OnErr r (fs ≡ es)
    → AnswersTaken session (subscriber_of es session) r → (s : ℕ) (mac : List ℕ) → holder_of es s ≡ Some mac → holder_of fs s ≡ Some mac
told_after es fs session who (Ok tt) ok err taken s mac told = ap (λ k. holder_of k s) ok ∙ by_holder es session who s mac told (subscriber_of es session) refl taken
told_after es fs session who (Err e) ok err taken s mac told = ap (λ k. holder_of k s) err ∙ told
