-- What an open tunnel's state says, and what its account is once it was given letters or took some.
use Rattle.std.proofs.Common.{◌≡◌, inr, ⊎_elim, ℕ, ◌<◌, false, List, [], ◌∷◌, ◌++◌, length, refl, sym, ap, ◌∙◌, subst, Option, Some, None, arith, append-nil}
use Rattle.std.proofs.lemmas.Option.{slice_get_within}
use Rattle.std.specs.Prelude.{slice_get, unwrap_or}
use Rattle.id_table.specs.Ids.{at}
use Rattle.tunnel_fsm.specs.Rows.{state_number}
use Rattle.end_names.specs.declared.role.Role.{Role}
use Rattle.end_model.specs.declared.moves.Place.{Place}
use Rattle.end_model.specs.declared.moves.Move.{Move}
use Rattle.end_model.specs.Tunnels.{Tunnel}
use Rattle.end_model.specs.End.{End}
use Rattle.world_model.specs.World.{World, Node, Sender, Deed, config_of}
use Rattle.step_laws.specs.Letters.{Letter, letters_of}
use Rattle.connection_laws.specs.Facts.{AllWait}
use Rattle.connection_laws.specs.Steps.{IsDeed}
use Rattle.connection_laws.proofs.Taking.{got_push}
use Rattle.channel_laws.specs.Accounts.{Part, Unmade, Opener, Acceptor, Renewed, Taken, Account, heeded, History, gives, gives_also, takes_at}
use Rattle.channel_laws.specs.Facts.{Accounts, partner_in, IsOpen, IsShut, IsTaken, AreTaken, IsInState}
use Rattle.channel_laws.specs.Steps.{with_end}
use Rattle.channel_laws.proofs.Entering.{base_here, base_other, base_same, base_makes}
use Rattle.channel_laws.proofs.Making.{SameNode, same_node}
use Rattle.channel_laws.proofs.Extending.{Extends, got_given, IsOnly, all_extend}
use Rattle.channel_laws.proofs.Later.{IsAlike}
use Rattle.channel_laws.proofs.Going.{IsPaired, grows_by}

-- an established tunnel, neither frozen nor restored, knows its other end, and is known to it
pub open_state : (accs : Accounts) (i e : ℕ) (a : Account) (t : Tunnel) (p : Part) → IsInState accs i e a t p → state_number t.control.state ≡ 3 → IsPaired accs i a p × IsOpen a
open_state accs i e a t Unmade is three = absurd is
open_state accs i e a t Opener is three = ⊎_elim
    (λ (q : (state_number t.control.state ≡ 1) × (a.remote ≡ 0) × IsOpen a × AllWait t.calls). let one = q.0 in absurd (omega (arith, one, three)))
    (λ r. ⊎_elim
    (λ (q : (state_number t.control.state ≡ 3) × (a.remote ≡ 0 → ⊥) × IsOpen a). (q.1, q.2))
    (λ (q : IsShut a t). let four = q.0 in absurd (omega (arith, four, three))) r)
    is
open_state accs i e a t Acceptor is three = ⊎_elim
    (λ (q : (state_number t.control.state ≡ 2) × (t.calls ≡ []) × IsOpen a). let two = q.0 in absurd (omega (arith, two, three)))
    (λ r. ⊎_elim
    (λ (q : (state_number t.control.state ≡ 3) × ((partner_in accs 0 a).remote ≡ i) × IsOpen a). (q.1, q.2))
    (λ (q : IsShut a t). let four = q.0 in absurd (omega (arith, four, three))) r)
    is
open_state accs i e a t Renewed is three = ⊎_elim
    (λ (q : (state_number t.control.state ≡ 3) × IsOpen a). (tt, q.1))
    (λ (q : IsShut a t). let four = q.0 in absurd (omega (arith, four, three)))
    is

-- ---- the account

pub grows_extends : (more : List Letter) (tks : List Taken) (a : Account) → Extends a (grows_by more tks a)
grows_extends more tks a = record {
  part = inr refl;
  peer = λ made. refl;
  remote = inr refl;
  answer = refl;
  first_given = refl;
  first_taken = refl;
  closed = inr refl;
  given = (more, refl);
  taken = (tks, refl);
  declined = λ z. z;
}

-- what is kept of a letter that is taken
abbrev pub taken_as : Option Sender → Place → Move → Taken
taken_as sender place m = record { sender = sender; number = place.number; move = m }

pub gives_is : (d : Deed) (n : ℕ) (role : Role) (sender : Option Sender) (m : Move) → IsDeed d n role sender m → gives d ≡ letters_of role (config_of n 0 None false) m
gives_is d n role sender m deed = rw (deed.role_is, deed.node_is, deed.move_is) refl

pub gives_only : (d : Deed) (n : ℕ) (role : Role) (sender : Option Sender) (m : Move) (a : Account) → IsDeed d n role sender m
    → gives_also d a ≡ grows_by (letters_of role (config_of n 0 None false) m) [] a
gives_only d n role sender m a deed =
    ap (λ ls. record a { given = a.given ++ ls }) (gives_is d n role sender m deed)
    ∙ ap (λ ts. record a { given = a.given ++ letters_of role (config_of n 0 None false) m; taken = ts }) (sym (append-nil a.taken))

pub takes_only : (d : Deed) (n : ℕ) (role : Role) (sender : Option Sender) (m : Move) (place : Place) (a : Account) → IsDeed d n role sender m
    → takes_at d place a ≡ grows_by [] (taken_as sender place m ∷ []) a
takes_only d n role sender m place a deed = rw (deed.sender_is, deed.move_is, append-nil) refl

pub takes_and_gives : (d : Deed) (n : ℕ) (role : Role) (sender : Option Sender) (m : Move) (place : Place) (a : Account) → IsDeed d n role sender m
    → gives_also d (takes_at d place a) ≡ grows_by (letters_of role (config_of n 0 None false) m) (taken_as sender place m ∷ []) a
takes_and_gives d n role sender m place a deed = rw (deed.sender_is, deed.move_is, deed.role_is, deed.node_is) refl

-- ---- what was taken

module _ (h k : History) (n i e : ℕ) (only : IsOnly h k n i e) (a : Account) (more : List Letter) where
  one_still : (tks : List Taken) (place : ℕ) (y : Taken) → IsTaken h.accounts e a place y → IsTaken k.accounts e (grows_by more tks a) place y
  one_still tks place y q = record {
    numbered = q.numbered;
    partner = q.partner;
    learned = q.learned;
    sender = q.sender;
    letter = q.letter;
    there = got_given (h.accounts q.partner.node q.partner.tunnel e) (k.accounts q.partner.node q.partner.tunnel e) (all_extend h k n i e only q.partner.node q.partner.tunnel e) place q.letter q.there;
    tells = q.tells;
  }

  module _ (was : AreTaken h.accounts e a) (open_is : IsOpen a) where
    heeds : (place : ℕ) (y : Taken) → slice_get a.taken place ≡ Some y → place < heeded a
    heeds place y found = let lt = slice_get_within a.taken place y found in let all : heeded a ≡ length a.taken = ap (λ o. unwrap_or o (length a.taken)) open_is in omega (arith, lt, all)

    pub taken_still : AreTaken k.accounts e (grows_by more [] a)
    taken_still place y found lt =
        let before : slice_get a.taken place ≡ Some y = ap (λ ts. slice_get ts place) (sym (append-nil a.taken)) ∙ found in
        one_still [] place y (was place y before (heeds place y before))

    pub taken_more : (tk : Taken) → IsTaken k.accounts e (grows_by more (tk ∷ []) a) (length a.taken) tk → AreTaken k.accounts e (grows_by more (tk ∷ []) a)
    taken_more tk new place y found lt = ⊎_elim
        (λ (before : slice_get a.taken place ≡ Some y). one_still (tk ∷ []) place y (was place y before (heeds place y before)))
        (λ (q : (place ≡ length a.taken) × (tk ≡ y)).
        subst (λ z. IsTaken k.accounts e (grows_by more (tk ∷ []) a) z y) (sym q.0) (subst (IsTaken k.accounts e (grows_by more (tk ∷ []) a) (length a.taken)) q.1 new))
        (got_push a.taken tk place y found)

-- ---- the world

pub end_alike : (w : World) (n : ℕ) (node : Node) (x : End) → at w.nodes n ≡ Some node → IsAlike w (with_end w n node x) n node x
end_alike w n node x there = record {
  standings = λ m j. base_same w n node there x m j;
  makes_as = λ m c. base_makes w n node there x m c;
  packets = refl;
  others = λ m o. subst (SameNode (at w.nodes m)) (sym (base_other w n node there x m o)) (same_node (at w.nodes m));
  own = record node { end = x };
  own_is = base_here w n node there x;
  end_is = refl;
  checkpoint_is = refl;
}
