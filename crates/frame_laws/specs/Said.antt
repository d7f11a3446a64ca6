-- What pairs say to a reader that knows the messages of RFC 2661 alone they say to an end, which knows more.
use Rattle.std.proofs.Common.{◌≡◌, ℕ, Bool, true, false, List, Option, Some, None, Result, Ok, Err}
use Rattle.wire_base.specs.Answers.{◌>>=◌}
use Rattle.avp_codec.specs.declared.avp.Avp.{Avp}
use Rattle.control_message.specs.declared.kind.Kinds.TheVariants.{Base, Queries}
use Rattle.control_message.specs.declared.kind.Kind.{Kind}
use Rattle.control_message.specs.declared.message.Message.{Message}
use Rattle.control_message.specs.declared.message.Read.{Read}
use Rattle.control_message.specs.declared.message.Read.TheVariants.{Known}
use Rattle.control_message.specs.declared.message.MessageError.{MessageError}
use Rattle.control_message.specs.declared.message.MessageError.TheVariants.{BadValue}
use Rattle.control_message.specs.Reading.{first, type_number, kind_named, kind_told, kind_by, kind_of_pairs, of_type, with_type, message_by, message_of}
use Rattle.control_message.specs.Table.{kind_of, kinds, look_up, or_query}
use Rattle.end_model.specs.Reading.{kind_said, message_said}

module _ (avps : List Avp) (r : Result Read MessageError) (other : (n : ℕ) (mandatory : Bool) → of_type n mandatory None avps ≡ r → ⊥) where
  of_type_said : (n : ℕ) (mandatory : Bool) (o : Option Kind) → of_type n mandatory (or_query o Base n) avps ≡ r
      → of_type n mandatory (or_query o Queries n) avps ≡ r
  of_type_said n mandatory (Some k) h = h
  of_type_said n mandatory None h = absurd (other n mandatory h)

  pair_said : (a : Avp) (t : Result ℕ MessageError) → (t >>= λ n. of_type n a.mandatory (kind_of Base n) avps) ≡ r
      → (t >>= λ n. of_type n a.mandatory (kind_of Queries n) avps) ≡ r
  pair_said a (Ok n) h = of_type_said n a.mandatory (look_up n kinds) h
  pair_said a (Err x) h = h

  first_said : (o : Option Avp) → with_type Base o avps ≡ r → with_type Queries o avps ≡ r
  first_said None h = h
  first_said (Some a) h = pair_said a (type_number a) h

  said : message_of avps ≡ r → message_said avps ≡ r
  unfolding message_by
  said h = first_said (first 0 avps) h

-- a message that it knows
pub known_said : (avps : List Avp) (m : Message) → message_of avps ≡ Ok (Known m) → message_said avps ≡ Ok (Known m)
known_said avps m h = said avps (Ok (Known m)) by h
  where
    by : (n : ℕ) (mandatory : Bool) → of_type n mandatory None avps ≡ Ok (Known m) → ⊥
    by n true e = absurd cc
    by n false e = absurd cc

-- a value that is wrong
pub bad_value_said : (avps : List Avp) (n : ℕ) → message_of avps ≡ Err (BadValue n) → message_said avps ≡ Err (BadValue n)
bad_value_said avps value h = said avps (Err (BadValue value)) by h
  where
    by : (n : ℕ) (mandatory : Bool) → of_type n mandatory None avps ≡ Err (BadValue value) → ⊥
    by n true e = absurd cc
    by n false e = absurd cc

-- and of which kind it is
or_said : (o : Option Kind) (n : ℕ) (k : Kind) → or_query o Base n ≡ Some k → or_query o Queries n ≡ Some k
or_said (Some j) n k h = h
or_said None n k h = absurd cc

named_said : (t : Result ℕ MessageError) (k : Kind) → kind_named Base t ≡ Some k → kind_named Queries t ≡ Some k
named_said (Ok n) k h = or_said (look_up n kinds) n k h
named_said (Err x) k h = absurd cc

told_said : (o : Option Avp) (k : Kind) → kind_told Base o ≡ Some k → kind_told Queries o ≡ Some k
told_said None k h = h
told_said (Some a) k h = named_said (type_number a) k h

pub kind_known : (avps : List Avp) (k : Kind) → kind_of_pairs avps ≡ Some k → kind_said avps ≡ Some k
unfolding kind_by
kind_known avps k h = told_said (first 0 avps) k h
