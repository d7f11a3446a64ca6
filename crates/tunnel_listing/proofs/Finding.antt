-- What is found in a list of tunnels is what an end finds among them, where each is listed as it is.
use Rattle.std.proofs.Common.{◌≡◌, ℕ, Bool, true, false, List, [], ◌∷◌, Option, Some, None, refl, ap, sym, ◌∙◌}
use Rattle.std.specs.Prelude.{find, cond, option_map, ◌==◌, ◌&&◌, if◌then◌else◌}
use Rattle.id_table.specs.Ids.{at, ids_of}
use Rattle.id_table.specs.Order.{Ascends}
use Rattle.id_index.specs.Keys.{has_label}
use Rattle.id_index.specs.Indexes.{IsFirst, IsWithin}
use Rattle.id_index.specs.Firsts.{first_found}
use Rattle.tunnel_fsm.specs.declared.table.TunnelState.{TunnelState}
use Rattle.end_model.specs.Tunnels.{Tunnel, Recovering, ByAttempt, ByAnswer}
use Rattle.end_model.specs.End.{known_as, answered_to, recovered_by, least_in, is_known, is_answered, answers_to, has_line, is_line, is_in, is_recovering}
use Rattle.tunnel_listing.specs.declared.listed.Listed.{Listed}
use Rattle.tunnel_listing.specs.declared.listed.Wanted.{Wanted}
use Rattle.tunnel_listing.specs.declared.listed.Wanted.TheVariants.{Known, Answered, Recovered, In, Recovering as IsRecovered}
use Rattle.tunnel_listing.specs.Listed.{listed_as, line_of, answered_of, is_told, is_wanted, is_wanted_at, first_of, least_of, AreListed}
use Rattle.tunnel_listing.specs.Labels.{IsFirstWanted}

-- ---- the least of a table

one : (b : Bool) → b ≡ ((if b then 1 else 0) == 1)
one true = refl
one false = refl

module _ {X : Type 0} where
  numbered : (w : Wanted) (shown : X → Listed) (o : Option X)
      → is_wanted_at w (option_map shown o) ≡ has_label 1 (option_map (λ x. if is_wanted w (shown x) then 1 else 0) o)
  numbered w shown None = refl
  numbered w shown (Some x) = one (is_wanted w (shown x))

  first_by : (w : Wanted) (shown : X → Listed) (es : List (ℕ × X)) (o : Option ℕ) → IsFirstWanted w (λ i. option_map shown (at es i)) o
      → IsFirst (λ i. option_map (λ x. if is_wanted w (shown x) then 1 else 0) (at es i)) 1 o
  unfolding IsFirst IsFirstWanted
  first_by w shown es None first = λ i lt. sym (numbered w shown (at es i)) ∙ first i lt
  first_by w shown es (Some i) first =
      (first.0, sym (numbered w shown (at es i)) ∙ first.1, λ j lt. sym (numbered w shown (at es j)) ∙ first.2 j lt)

  -- the least tunnel that is looked for is the first of a table that is
  pub first_is : (w : Wanted) (shown : X → Listed) (es : List (ℕ × X)) (o : Option ℕ) → Ascends es → IsWithin es
      → IsFirstWanted w (λ i. option_map shown (at es i)) o → first_of w (λ i. option_map shown (at es i)) (ids_of es) ≡ o
  unfolding first_of
  first_is w shown es o ascends within first =
      first_found (λ x. if is_wanted w (shown x) then 1 else 0) es (λ i. is_wanted_at w (option_map shown (at es i))) 1 o ascends within
      (λ i. numbered w shown (at es i)) (first_by w shown es o first)

-- ---- the least of an end

find_same : (f g : ℕ → Bool) (xs : List ℕ) → ((i : ℕ) → f i ≡ g i) → find f xs ≡ find g xs
find_same f g [] h = refl
find_same f g (x ∷ xs) h =
    ap (λ b. cond b (Some x) (find f xs)) (h x) ∙ ap (λ o. cond (g x) (Some x) o) (find_same f g xs h)

known_is : (peer remote : ℕ) (o : Option Tunnel) → is_known peer remote o ≡ is_wanted_at (Known peer remote) (option_map listed_as o)
known_is peer remote None = refl
known_is peer remote (Some t) = refl

answers_is : (remote : ℕ) (r : Option Recovering) → answers_to remote r ≡ is_told (answered_of r) remote
answers_is remote None = refl
answers_is remote (Some (ByAttempt c)) = refl
answers_is remote (Some (ByAnswer a)) = refl

answered_is : (peer remote : ℕ) (o : Option Tunnel) → is_answered peer remote o ≡ is_wanted_at (Answered peer remote) (option_map listed_as o)
answered_is peer remote None = refl
answered_is peer remote (Some t) = ap (λ b. t.control.peer == peer && b) (answers_is remote t.recovery)

line_is : (line : ℕ) (r : Option Recovering) → is_line line r ≡ is_told (line_of r) line
line_is line None = refl
line_is line (Some r) = refl

recovered_is : (line : ℕ) (o : Option Tunnel) → has_line line o ≡ is_wanted_at (Recovered line) (option_map listed_as o)
recovered_is line None = refl
recovered_is line (Some t) = line_is line t.recovery

in_is : (s : TunnelState) (peer : ℕ) (o : Option Tunnel) → is_in s peer o ≡ is_wanted_at (In s peer) (option_map listed_as o)
in_is s peer None = refl
in_is s peer (Some t) = refl

recovering_is : (peer : ℕ) (o : Option Tunnel) → is_recovering peer o ≡ is_wanted_at (IsRecovered peer) (option_map listed_as o)
recovering_is peer None = refl
recovering_is peer (Some t) = refl

found_is : (w : Wanted) (p : Option Tunnel → Bool) → ((o : Option Tunnel) → p o ≡ is_wanted_at w (option_map listed_as o))
    → (f : ℕ → Option Listed) (ids : List ℕ) (ts : List (ℕ × Tunnel)) → AreListed f ids ts
    → find (λ i. p (at ts i)) (ids_of ts) ≡ first_of w f ids
unfolding first_of
found_is w p h f ids ts l =
    find_same (λ i. p (at ts i)) (λ i. is_wanted_at w (f i)) (ids_of ts) (λ i. h (at ts i) ∙ ap (λ o. is_wanted_at w o) (l.as_they_are i))
    ∙ ap (λ is. find (λ i. is_wanted_at w (f i)) is) l.each

-- it is what an end finds whose tunnels are listed as they are
pub least_is : (w : Wanted) (f : ℕ → Option Listed) (ids : List ℕ) (ts : List (ℕ × Tunnel)) → AreListed f ids ts → least_of w ts ≡ first_of w f ids
unfolding known_as answered_to recovered_by least_in
least_is (Known peer remote) f ids ts l = found_is (Known peer remote) (λ o. is_known peer remote o) (known_is peer remote) f ids ts l
least_is (Answered peer remote) f ids ts l = found_is (Answered peer remote) (λ o. is_answered peer remote o) (answered_is peer remote) f ids ts l
least_is (Recovered line) f ids ts l = found_is (Recovered line) (λ o. has_line line o) (recovered_is line) f ids ts l
least_is (In s peer) f ids ts l = found_is (In s peer) (λ o. is_in s peer o) (in_is s peer) f ids ts l
least_is (IsRecovered peer) f ids ts l = found_is (IsRecovered peer) (λ o. is_recovering peer o) (recovering_is peer) f ids ts l
