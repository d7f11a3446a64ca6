-- The text of an attribute that may be there, as the relation has it and as the reading finds it.
use Rattle.std.proofs.Common.{◌≡◌, ℕ, List, Option, Some, None, refl, ap}
use Rattle.std.specs.Prelude.{option_map}
use Rattle.avp_codec.specs.declared.avp.Avp.{Avp}
use Rattle.control_message.specs.declared.kind.Kind.{Kind}
use Rattle.control_message.specs.declared.kind.Shape.TheVariants.{Text}
use Rattle.control_message.specs.Table.{shape_of}
use Rattle.control_message.specs.Reading.{first, text_at}
use Rattle.control_message.specs.Grammar.{SaysText}
use Rattle.control_message.specs.Faults.{IsSound}
use Rattle.control_message.proofs.Firsts.{absent_first, first_absent, first_stands, stands_first}
use Rattle.control_message.proofs.Values.{IsGood, good, value_good, absent_good}

text_is : (avps : List Avp) (n : ℕ) (o : Option Avp) → first n avps ≡ o → IsGood avps (n, Text)
    → SaysText n avps (option_map (λ (a : Avp). a.value) o)
text_is avps n None e g = first_absent n avps e
text_is avps n (Some a) e g = let f = stands_first n a avps e in record { pair = a; first = f; plain = (g a f).0; same = refl }

pub text_says : (k : Kind) (avps : List Avp) (n : ℕ) → IsSound k avps → shape_of k n ≡ Some Text → SaysText n avps (text_at n avps)
text_says k avps n sound shape = text_is avps n (first n avps) refl (good k avps n Text sound shape)

pub says_text : (avps : List Avp) (n : ℕ) (o : Option (List ℕ)) → SaysText n avps o → text_at n avps ≡ o
says_text avps n None h = rw (absent_first n avps h) refl
says_text avps n (Some v) h = rw (first_stands n h.pair avps h.first) (ap (λ (x : List ℕ). Some x) h.same)

pub text_good : (avps : List Avp) (n : ℕ) (o : Option (List ℕ)) → SaysText n avps o → IsGood avps (n, Text)
text_good avps n None h = absent_good avps n Text h
text_good avps n (Some v) h = value_good avps n v Text h tt
