-- What is written with a secret and a vector: its pairs fit, have room, and are read again.
use Rattle.std.proofs.Common.{◌≡◌, ℕ, ◌+◌, ◌^◌, ◌<◌, ◌≤◌, true, false, List, [], ◌∷◌, length, Option, Some, None, Ok, refl, ap, ◌∙◌, arith}
use Rattle.wire_base.specs.Numbers.{u16_bytes, u32_bytes}
use Rattle.avp_codec.specs.declared.avp.Avp.{Avp}
use Rattle.avp_codec.specs.Spelling.{spelling, Fits, AreAvps}
use Rattle.tunnel_secret.specs.Hiding.{first_mask, plain_text, hidden}
use Rattle.tunnel_secret.specs.Revealing.{unhidden}
use Rattle.tunnel_secret.proofs.Blocks.{length-text_of, length-md5}
use Rattle.tunnel_secret.proofs.Values.{length-plain_text}
use Rattle.control_message.specs.declared.kind.Kinds.{Kinds}
use Rattle.control_message.specs.declared.kind.Kinds.TheVariants.{Queries}
use Rattle.control_message.specs.declared.kind.Kind.TheVariants as kind
use Rattle.control_message.specs.declared.message.Message.{Message}
use Rattle.control_message.specs.declared.message.Message.TheVariants.{Sccrq, Sccrp, Scccn, StopCcn, Hello, Ocrq, Ocrp, Occn, Icrq, Icrp, Iccn, Cdn, Wen, Sli, Fsq, Fsr}
use Rattle.control_message.specs.declared.message.Read.TheVariants.{Known}
use Rattle.control_message.specs.Pairs.{pair, hidden_pair, padding_of, pairs_of, pairs_with, plain_pairs_with, IsWritten, IsWrittenWith}
use Rattle.control_message.specs.Grammar.{IsKnownTo}
use Rattle.control_message.specs.Reading.{message_by, checked, checked_all, u16_at, u32_at, icrq_at}
use Rattle.control_message.specs.Uncovering.{uncovered_pair, uncovered}
use Rattle.control_message.proofs.Numbers.{short_again, long_again}
use Rattle.control_message.proofs.Again.{fits, fits_short, fits_long, pairs_fit, message_again}
use Rattle.control_message.proofs.Plain.{messages_stay}
use Rattle.control_message.proofs.Room.{room, one_spelled}

-- without a vector, nothing is hidden
pub nothing_hidden : (k : Option (List ℕ)) (m : Message) → pairs_with k None m ≡ pairs_of m
nothing_hidden k (Sccrq o) = refl
nothing_hidden k (Sccrp o) = refl
nothing_hidden k (Scccn response) = refl
nothing_hidden k (StopCcn tunnel result error) = refl
nothing_hidden k Hello = refl
nothing_hidden k (Ocrq session) = refl
nothing_hidden k Ocrp = refl
nothing_hidden k Occn = refl
nothing_hidden None (Icrq session serial None) = refl
nothing_hidden (Some s) (Icrq session serial None) = refl
nothing_hidden None (Icrq session serial (Some number)) = refl
nothing_hidden (Some s) (Icrq session serial (Some number)) = refl
nothing_hidden k (Icrp session) = refl
nothing_hidden k (Iccn speed framing sequenced) = refl
nothing_hidden k (Cdn session result error) = refl
nothing_hidden k Wen = refl
nothing_hidden k Sli = refl
nothing_hidden k (Fsq sessions) = refl
nothing_hidden k (Fsr sessions) = refl

-- the law of hiding
abbrev pub UnhidesHidden : Type 0
UnhidesHidden = (attribute : ℕ) (secret vector value : List ℕ) (padding : ℕ) → 2 + length value + padding ≤ 1017 → unhidden attribute secret vector (hidden attribute secret vector value padding) ≡ Ok value

padded : (v : List ℕ) → length v ≤ 990 → 2 + length v + padding_of v ≤ 1017
padded v le = omega arith

length-hidden : (attribute : ℕ) (secret vector v : List ℕ) (n : ℕ) → length (hidden attribute secret vector v n) ≡ 2 + length v + n
length-hidden attribute secret vector v n =
    length-text_of _ secret (first_mask attribute secret vector) (plain_text v n) (length-md5 _) ∙ length-plain_text v n

-- ---- a request with a hidden number

abbrev pub cipher_of : List ℕ → List ℕ → List ℕ → List ℕ
cipher_of s v n = hidden 22 s v n (padding_of n)

-- a number that is written hidden
record IsHiddenNumber (s v n : List ℕ) : Type 0 where
  sized : length v ≡ 16
  fit : length n ≤ 990
  again : unhidden 22 s v (cipher_of s v n) ≡ Ok n
  long : length (cipher_of s v n) ≤ 1017

number_hidden : (s v n : List ℕ) → UnhidesHidden → length v ≡ 16 → length n ≤ 990 → IsHiddenNumber s v n
number_hidden s v n law sized fit =
    let le = padded n fit in
    record {
      sized = sized;
      fit = fit;
      again = law 22 s v n (padding_of n) le;
      long = let l = length-hidden 22 s v n (padding_of n) in omega arith;
    }

icrq_fit : (s v n : List ℕ) (session serial : ℕ) → IsHiddenNumber s v n → AreAvps (pairs_with (Some s) (Some v) (Icrq session serial (Some n)))
icrq_fit s v n session serial h =
    let last : Fits (hidden_pair 22 (cipher_of s v n)) = record { reserved = omega arith; vendor = omega arith; attribute = omega arith; value = h.long } in
    let sized = h.sized in
    (fits_short 0 10 (omega arith), (fits_short 14 session (omega arith), (fits_long 15 serial (omega arith), (fits 36 v (omega arith) (omega arith), (last, tt)))))

icrq_plain : (s v n : List ℕ) (session serial : ℕ) → IsHiddenNumber s v n
    → uncovered (Some s) (pairs_with (Some s) (Some v) (Icrq session serial (Some n))) ≡ plain_pairs_with v (Icrq session serial (Some n))
unfolding uncovered_pair
icrq_plain s v n session serial h = rw h.again refl

icrq_checked : (v n : List ℕ) (session serial : ℕ) → checked_all kind.Icrq [] (plain_pairs_with v (Icrq session serial (Some n))) ≡ Ok tt
unfolding checked u16_bytes u32_bytes
icrq_checked v n session serial = refl

icrq_read : (v n : List ℕ) (session serial : ℕ) → session < 2 ^ 16 → serial < 2 ^ 32
    → icrq_at (plain_pairs_with v (Icrq session serial (Some n))) ≡ Ok (Icrq session serial (Some n))
unfolding icrq_at u16_at u32_at u16_bytes u32_bytes
icrq_read v n session serial lt le = rw (short_again session lt, long_again serial le) refl

pub icrq_again : (known : Kinds) (v n : List ℕ) (session serial : ℕ) → session < 2 ^ 16 → serial < 2 ^ 32
    → message_by known (plain_pairs_with v (Icrq session serial (Some n))) ≡ Ok (Known (Icrq session serial (Some n)))
unfolding message_by u16_bytes
icrq_again known v n session serial lt le = rw (icrq_checked v n session serial, icrq_read v n session serial lt le) refl

icrq_room : (s v n : List ℕ) (session serial : ℕ) → IsHiddenNumber s v n → length (spelling (pairs_with (Some s) (Some v) (Icrq session serial (Some n)))) ≤ 65523
unfolding u16_bytes u32_bytes
icrq_room s v n session serial h =
    let long = h.long in
    let sized = h.sized in
    let last = one_spelled (hidden_pair 22 (cipher_of s v n)) [] in
    let vector = one_spelled (pair 36 v) (hidden_pair 22 (cipher_of s v n) ∷ []) in
    let third = one_spelled (pair 15 (u32_bytes serial)) (pair 36 v ∷ hidden_pair 22 (cipher_of s v n) ∷ []) in
    let second = one_spelled (pair 14 (u16_bytes session)) (pair 15 (u32_bytes serial) ∷ pair 36 v ∷ hidden_pair 22 (cipher_of s v n) ∷ []) in
    let first = one_spelled (pair 0 (u16_bytes 10)) (pair 14 (u16_bytes session) ∷ pair 15 (u32_bytes serial) ∷ pair 36 v ∷ hidden_pair 22 (cipher_of s v n) ∷ []) in
    omega arith

-- ---- each message

-- pairs that are written with a secret, what they are in plain, and the message that is read of them
pub record IsWrittenAgain (known : Kinds) (s : List ℕ) (pairs plain : List Avp) (m : Message) : Type 0 where
  pub fit : AreAvps pairs
  pub short : length (spelling pairs) ≤ 65523
  pub same : uncovered (Some s) pairs ≡ plain
  pub read : message_by known (uncovered (Some s) pairs) ≡ Ok (Known m)

plain_again : (known : Kinds) (s : List ℕ) (m : Message) → IsKnownTo m known → IsWritten m → IsWrittenAgain known s (pairs_of m) (pairs_of m) m
plain_again known s m is w =
    record {
      fit = pairs_fit m w;
      short = room m w;
      same = messages_stay (Some s) m;
      read = ap (message_by known) (messages_stay (Some s) m) ∙ message_again known m is w;
    }

hidden_again : (known : Kinds) (s v n : List ℕ) (session serial : ℕ) → IsHiddenNumber s v n → session < 2 ^ 16 → serial < 2 ^ 32
    → IsWrittenAgain known s (pairs_with (Some s) (Some v) (Icrq session serial (Some n))) (plain_pairs_with v (Icrq session serial (Some n))) (Icrq session serial (Some n))
hidden_again known s v n session serial h lt le =
    record {
      fit = icrq_fit s v n session serial h;
      short = icrq_room s v n session serial h;
      same = icrq_plain s v n session serial h;
      read = ap (message_by known) (icrq_plain s v n session serial h) ∙ icrq_again known v n session serial lt le;
    }

pub with_vector : (known : Kinds) (s v : List ℕ) (m : Message) → IsKnownTo m known → UnhidesHidden → IsWrittenWith (Some s) (Some v) m
    → IsWrittenAgain known s (pairs_with (Some s) (Some v) m) (plain_pairs_with v m) m
with_vector known s v (Sccrq o) is law w = plain_again known s (Sccrq o) is w.0
with_vector known s v (Sccrp o) is law w = plain_again known s (Sccrp o) is w.0
with_vector known s v (Scccn response) is law w = plain_again known s (Scccn response) is w.0
with_vector known s v (StopCcn tunnel result error) is law w = plain_again known s (StopCcn tunnel result error) is w.0
with_vector known s v Hello is law w = plain_again known s Hello is w.0
with_vector known s v (Ocrq session) is law w = absurd w.0
with_vector known s v Ocrp is law w = absurd w.0
with_vector known s v Occn is law w = absurd w.0
with_vector known s v (Icrq session serial None) is law w = absurd (w.0.2)
with_vector known s v (Icrq session serial (Some n)) is law w =
    hidden_again known s v n session serial (number_hidden s v n law w.1.sized w.1.fits) w.0.0 w.0.1
with_vector known s v (Icrp session) is law w = plain_again known s (Icrp session) is w.0
with_vector known s v (Iccn speed framing sequenced) is law w = plain_again known s (Iccn speed framing sequenced) is w.0
with_vector known s v (Cdn session result error) is law w = plain_again known s (Cdn session result error) is w.0
with_vector known s v Wen is law w = absurd w.0
with_vector known s v Sli is law w = absurd w.0
with_vector known s v (Fsq sessions) is law w = plain_again known s (Fsq sessions) is w.0
with_vector known s v (Fsr sessions) is law w = plain_again known s (Fsr sessions) is w.0

-- who knows queries knows each message
known_to_all : (m : Message) → IsKnownTo m Queries
known_to_all (Fsq sessions) = tt
known_to_all (Fsr sessions) = tt
known_to_all m = tt

pub room_with : (k v : Option (List ℕ)) (m : Message) → UnhidesHidden → IsWrittenWith k v m → length (spelling (pairs_with k v m)) ≤ 65523
room_with k None m law w = rw (nothing_hidden k m) (room m w)
room_with None (Some v) m law w = absurd (let h : false ≡ true = w.1.secret_there in cc)
room_with (Some s) (Some v) m law w = (with_vector Queries s v m (known_to_all m) law w).short
