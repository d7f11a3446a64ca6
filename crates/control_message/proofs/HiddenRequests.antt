-- A request whose number is hidden, as an end with any secret, or none, reads it.
use Rattle.std.proofs.Common.{◌≡◌, ℕ, ◌^◌, ◌<◌, ◌≤◌, List, [], ◌∷◌, length, Option, Some, None, Result, Ok, Err, refl, ap, arith}
use Rattle.wire_base.specs.Numbers.{u16_bytes, u32_bytes}
use Rattle.avp_codec.specs.declared.avp.Avp.{Avp}
use Rattle.tunnel_secret.specs.declared.error.UnhideError.{UnhideError}
use Rattle.tunnel_secret.specs.Revealing.{unhidden}
use Rattle.control_message.specs.declared.kind.Kinds.TheVariants.{Base}
use Rattle.control_message.specs.declared.kind.Kind.TheVariants as kind
use Rattle.control_message.specs.declared.message.Message.TheVariants.{Icrq}
use Rattle.control_message.specs.declared.message.MessageError.TheVariants.{BadValue}
use Rattle.control_message.specs.Pairs.{pair, hidden_pair, IsWrittenWith}
use Rattle.control_message.specs.Reading.{message_of, message_by, kind_by, kind_of_pairs, plain_short, checked, checked_all}
use Rattle.control_message.specs.Uncovering.{uncovered_by, uncovered_pair, uncovered}
use Rattle.control_message.specs.HiddenRequests.{IsReadAnyway, WithANumber, WithoutANumber, hidden_pairs, ReadsAnyway}
use Rattle.control_message.proofs.Numbers.{short_again}
use Rattle.control_message.proofs.Plain.{within, shorter, uncovered_fit}
use Rattle.control_message.proofs.WithVector.{UnhidesHidden, cipher_of, with_vector, icrq_again}

-- the pairs of a request with this pair behind its Random Vector
abbrev request_with : List ℕ → ℕ → ℕ → Avp → List Avp
request_with vector own serial last =
    pair 0 (u16_bytes 10) ∷ pair 14 (u16_bytes own) ∷ pair 15 (u32_bytes serial) ∷ pair 36 vector ∷ last ∷ []

-- ---- a number that stays hidden

stays_bad : (vector cipher : List ℕ) (own serial : ℕ) → checked_all kind.Icrq [] (request_with vector own serial (hidden_pair 22 cipher)) ≡ Err (BadValue 22)
unfolding checked u16_bytes u32_bytes
stays_bad vector cipher own serial = refl

stays_unread : (vector cipher : List ℕ) (own serial : ℕ) → message_of (request_with vector own serial (hidden_pair 22 cipher)) ≡ Err (BadValue 22)
unfolding message_by u16_bytes
stays_unread vector cipher own serial = rw (stays_bad vector cipher own serial) refl

-- the type and the id stand in plain, whatever the last pair is
kind_told : (vector : List ℕ) (own serial : ℕ) (last : Avp) → kind_of_pairs (request_with vector own serial last) ≡ Some kind.Icrq
unfolding kind_by u16_bytes
kind_told vector own serial last = refl

own_told : (vector : List ℕ) (own serial : ℕ) (last : Avp) → own < 2 ^ 16 → plain_short 14 (request_with vector own serial last) ≡ Some own
unfolding u16_bytes
own_told vector own serial last lt = ap (λ (x : ℕ). Some x) (short_again own lt)

without_a_number : (vector cipher : List ℕ) (own serial : ℕ) → own < 2 ^ 16 → IsReadAnyway own serial (request_with vector own serial (hidden_pair 22 cipher))
without_a_number vector cipher own serial lt =
    let last = hidden_pair 22 cipher in
    WithoutANumber (stays_unread vector cipher own serial) (kind_told vector own serial last) (own_told vector own serial last lt)

-- ---- with some secret

-- by what the secret makes of the number, which is no longer than the cipher text
by_outcome : (vector cipher : List ℕ) (own serial : ℕ) (r : Result (List ℕ) UnhideError) → own < 2 ^ 16 → serial < 2 ^ 32
    → ((x : List ℕ) → r ≡ Ok x → length x ≤ 1017) → IsReadAnyway own serial (request_with vector own serial (uncovered_by (hidden_pair 22 cipher) r))
by_outcome vector cipher own serial (Ok x) lt le fits = WithANumber x (fits x refl) (icrq_again Base vector x own serial lt le)
by_outcome vector cipher own serial (Err e) lt le fits = without_a_number vector cipher own serial lt

-- only the number is uncovered
only_the_number : (reader secret vector number : List ℕ) (own serial : ℕ)
    → uncovered (Some reader) (hidden_pairs secret vector number own serial)
    ≡ request_with vector own serial (uncovered_by (hidden_pair 22 (cipher_of secret vector number)) (unhidden 22 reader vector (cipher_of secret vector number)))
unfolding uncovered_pair
only_the_number reader secret vector number own serial = refl

-- what is written fits, and so does its cipher text
cipher_fits : (secret vector number : List ℕ) (own serial : ℕ) → UnhidesHidden → IsWrittenWith (Some secret) (Some vector) (Icrq own serial (Some number))
    → length (cipher_of secret vector number) ≤ 1017
cipher_fits secret vector number own serial law w =
    (with_vector Base secret vector (Icrq own serial (Some number)) tt law w).fit.1.1.1.1.0.value

anyway : (reader : Option (List ℕ)) (secret vector number : List ℕ) (own serial : ℕ) → UnhidesHidden
    → IsWrittenWith (Some secret) (Some vector) (Icrq own serial (Some number))
    → IsReadAnyway own serial (uncovered reader (hidden_pairs secret vector number own serial))
anyway None secret vector number own serial law w = without_a_number vector (cipher_of secret vector number) own serial w.0.0
anyway (Some reader) secret vector number own serial law w =
    let cipher = cipher_of secret vector number in
    let le = cipher_fits secret vector number own serial law w in
    rw (only_the_number reader secret vector number own serial)
    (by_outcome vector cipher own serial (unhidden 22 reader vector cipher) w.0.0 w.0.1
    (λ x e. let l = within 22 reader vector cipher x e in omega arith))

pub read_by_any : (reader : Option (List ℕ)) (secret vector number : List ℕ) (own serial : ℕ) → UnhidesHidden
    → IsWrittenWith (Some secret) (Some vector) (Icrq own serial (Some number)) → ReadsAnyway reader secret vector number own serial
read_by_any reader secret vector number own serial law w =
    let pairs = hidden_pairs secret vector number own serial in
    let again = with_vector Base secret vector (Icrq own serial (Some number)) tt law w in
    record {
      fit = uncovered_fit reader pairs again.fit;
      room = let l = shorter reader pairs in let r = again.short in omega arith;
      read = anyway reader secret vector number own serial law w;
    }
