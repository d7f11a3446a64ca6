-- What the index of a tunnel's calls by the peer's ids says of them, as calls are put and taken out.
use Rattle.std.specs.Prelude.{◌≡◌, ℕ, List, [], Option, Some, None, option_map}
use Rattle.std.proofs.Common.{refl, ap}
use Rattle.id_table.specs.Ids.{at, put, without, at-none}
use Rattle.id_table.specs.Order.{Ascends, at_new, at_other, at_without_other, at_without_same}
use Rattle.id_index.specs.Keys.{has_label}
use Rattle.id_index.specs.Indexes.{Listing, Lists, IsRelabelled, IsFirst, IsWithin}
use Rattle.id_index.specs.Firsts.{first_found}
use Rattle.end_model.specs.declared.tunnel.Call.{Call}
use Rattle.end_model.specs.Asking.{is_call_of, call_of}
use Rattle.tunnel_calls.specs.Remotes.{remotes_of}

pub none_assigned : (calls : List (ℕ × Call)) → calls ≡ [] → (s : ℕ) → remotes_of calls s ≡ None
none_assigned calls empty s = rw (empty, at-none {X = Call} s) refl

pub listed_put : (x y : Listing) (es : List (ℕ × Call)) (s : ℕ) (c : Call)
    → IsRelabelled x y s (remotes_of es s) (Some c.remote) → Lists x (remotes_of es) → Lists y (remotes_of (put es s c))
listed_put x y es s c relabelled lists =
    relabelled (remotes_of es) (remotes_of (put es s c)) lists refl (ap (option_map (λ (k : Call). k.remote)) (at_new es s c))
    (λ q apart. ap (option_map (λ (k : Call). k.remote)) (at_other es s c q apart))

pub listed_without : (x y : Listing) (es : List (ℕ × Call)) (s : ℕ) → Ascends es
    → IsRelabelled x y s (remotes_of es s) None → Lists x (remotes_of es) → Lists y (remotes_of (without es s))
listed_without x y es s ascends relabelled lists =
    relabelled (remotes_of es) (remotes_of (without es s)) lists refl (ap (option_map (λ (k : Call). k.remote)) (at_without_same es s ascends))
    (λ q apart. ap (option_map (λ (k : Call). k.remote)) (at_without_other es s q apart))

call_has : (r : ℕ) (o : Option Call) → is_call_of r o ≡ has_label r (option_map (λ c. c.remote) o)
call_has r None = refl
call_has r (Some c) = refl

-- what the index lists first is the first of the calls
pub first_listed : (es : List (ℕ × Call)) (r : ℕ) (o : Option ℕ) → Ascends es → IsWithin es → IsFirst (remotes_of es) r o → call_of es r ≡ o
unfolding call_of
first_listed es r o ascends within first =
    first_found (λ c. c.remote) es (λ s. is_call_of r (at es s)) r o ascends within (λ s. call_has r (at es s)) first
