-- The other end of an established tunnel that takes a letter: it gave the letter in the same epoch, goes to this tunnel's node, and has
-- learned the tunnel.
use Rattle.std.proofs.Common.{◌≡◌, ◌⊎◌, inl, inr, ⊎_elim, ℕ, zero, suc, ◌<◌, ◌≤◌, Bool, true, false, List, [], ◌∷◌, drop, length, refl, sym, ap, ap₂, ◌∙◌, subst, Option, Some, None, arith}
use Rattle.std.proofs.lemmas.Bool.{eqb-true, eqb-false}
use Rattle.std.proofs.lemmas.Option.{none-some}
use Rattle.std.specs.Prelude.{slice_get, ◌==◌, if◌then◌else◌}
use Rattle.std.specs.List.{AllByRecursion}
use Rattle.id_table.specs.Order.{same_or_not}
use Rattle.tunnel_fsm.specs.Rows.{state_number}
use Rattle.end_model.specs.Tunnels.{Tunnel, mode_of, is_current}
use Rattle.world_model.specs.World.{World, Sender, epoch_of}
use Rattle.step_laws.specs.Letters.{Letter}
use Rattle.connection_laws.specs.Facts.{IsStopCcn, AllWait}
use Rattle.session_laws.specs.Names.{name, name_of}
use Rattle.frame_laws.proofs.Facts.{all_at}
use Rattle.session_laws.proofs.Names.{known_name}
use Rattle.channel_laws.specs.Accounts.{Part, Unmade, Opener, Acceptor, Renewed, Account, no_account, partner_of, History}
use Rattle.channel_laws.specs.Facts.{Accounts, IsMade, IsOpen, IsShut, IsInState, partner_in, AreLinked, IsPart, IsRenewed, LiveOk, Holds}
use Rattle.channel_laws.proofs.Linked.{part_cases, opener_of, acceptor_of, renewed_of, not_itself}
use Rattle.recovery_laws.specs.Joined.{is_early, LearnedSo, ByLetter, ByRecord}
use Rattle.recovery_laws.proofs.Epochs.{learned_so}
use Rattle.join_laws.proofs.Within.{partner_by}

-- so it is of those behind the first
later_is : (P : Letter → Type 0) (ls : List Letter) (k : ℕ) (l : Letter) → 1 ≤ k → slice_get ls k ≡ Some l
    → AllByRecursion P (drop 1 ls) → P l
later_is P [] k l some there all = absurd (none-some l there)
later_is P (x ∷ ls) zero l some there all = absurd (omega (arith, some))
later_is P (x ∷ ls) (suc k) l some there all = all_at P ls k l there all

-- ---- what is known of the partner

pub partner_some : (a : Account) (p : Sender) → partner_of a ≡ Some p → a.remote ≡ 0 → ⊥
partner_some a p h none_is =
    none-some p (sym (ap (λ r. if r == 0 then None else Some (record { node = a.peer; tunnel = r })) none_is) ∙ h)

-- a tunnel isn't its own partner
pub no_self : (w : World) (h : History) → Holds w h → (n i e : ℕ) (p : Sender) → IsMade (h.accounts n i e)
    → partner_of (h.accounts n i e) ≡ Some p
    → p.node ≡ n → p.tunnel ≡ i → ⊥
no_self w h holds n i e p made partner node tunnel = ⊎_elim
    (λ (own : a.part ≡ Opener).
    let o = opener_of w h n i e a (holds.accounts n i e) own in
    differ Opener Acceptor o.0 own (o.1.part (partner_some a p partner)) (λ same. let no : ⊥ = cc in no))
    (λ k. ⊎_elim
    (λ (own : a.part ≡ Acceptor).
    let o = acceptor_of w h n i e a (holds.accounts n i e) own in
    differ Acceptor Opener o.0 own o.1.part (λ same. let no : ⊥ = cc in no))
    (λ (own : a.part ≡ Renewed).
    not_itself h.accounts n i a.peer a.remote (renewed_of w h n i e a (holds.accounts n i e) own).linked (sym (peer
    ∙ node)) (sym (remote ∙ tunnel)))
    k)
    (part_cases a.part made)
  where
    a : Account
    a = h.accounts n i e

    peer : (h.accounts n i e).peer ≡ p.node
    peer = (partner_by (h.accounts n i e) p partner).0

    remote : (h.accounts n i e).remote ≡ p.tunnel
    remote = (partner_by (h.accounts n i e) p partner).1

    differ : (q r : Part) → e ≡ 0 → (h.accounts n i e).part ≡ q → (partner_in h.accounts 0 (h.accounts n i e)).part ≡ r → (q ≡ r → ⊥) → ⊥
    differ q r first own other apart =
        apart (sym own ∙ (ap (λ y. (h.accounts n i y).part) first
        ∙ (sym (ap₂ (λ x y. (h.accounts x y 0).part) (peer ∙ node) (remote ∙ tunnel)) ∙ other)))

pub record Partner (h : History) (n i e : ℕ) (p : Sender) : Type 0 where
  pub goes : (h.accounts p.node p.tunnel e).peer ≡ n
  pub made : IsMade (h.accounts p.node p.tunnel 0)
  pub node : p.node < 256
  pub some : 0 < p.tunnel
  pub fits : p.tunnel < 65536
  pub learned : (x : ℕ) → LearnedSo h.accounts p.node p.tunnel x → x ≡ name n i

-- what an acceptor has learned
pub accepted_so : (accs : Accounts) (n i k j x : ℕ) → LearnedSo accs k j x → (accs k j 0).part ≡ Acceptor → (accs k j 0).peer ≡ n
    → (accs k j 0).remote ≡ i → 0 < i
    → x ≡ name n i
accepted_so accs n i k j x (ByLetter is) part peer remote some =
    is
    ∙ (ap (λ p. if is_early p (accs k j 0).closed then 0 else name_of (accs k j 0).peer (accs k j 0).remote) part
    ∙ (ap₂ (λ p r. name_of p r) peer remote ∙ known_name n i some))
accepted_so accs n i k j x (ByRecord c opened none lt is accepts back own) part peer remote some =
    let two : Acceptor ≡ Opener = sym part ∙ opened in absurd cc

module _ (w : World) (h : History) (holds : Holds w h) (n i e : ℕ) (p : Sender) (place : ℕ) (l : Letter)
    (partner : partner_of (h.accounts n i e) ≡ Some p) (made : IsMade (h.accounts n i e)) (some : 0 < i)
    (there : slice_get (h.accounts p.node p.tunnel e).given place ≡ Some l) (plain : IsStopCcn l.message → ⊥) where
  abbrev a : Account
  a = h.accounts n i e

  abbrev c : Account
  c = h.accounts p.node p.tunnel 0

  peer : a.peer ≡ p.node
  peer = (partner_by a p partner).0

  remote : a.remote ≡ p.tunnel
  remote = (partner_by a p partner).1

  known : a.remote ≡ 0 → ⊥
  known = partner_some a p partner

  some_tunnel : 0 < p.tunnel
  some_tunnel = ⊎_elim
      (λ (z : p.tunnel ≡ 0). absurd (known (remote ∙ z)))
      (λ (z : p.tunnel ≡ 0 → ⊥). omega (arith, z))
      (same_or_not p.tunnel 0)

  partner_is : partner_in h.accounts 0 a ≡ c
  partner_is = ap₂ (λ x y. h.accounts x y 0) peer remote

  made_of : (q : Part) → c.part ≡ q → (q ≡ Unmade → ⊥) → IsMade c
  made_of q is other none = other (sym is ∙ none)

  part_of : (q : Part) → c.part ≡ q → (q ≡ Unmade → ⊥) → c.peer ≡ n → e ≡ 0 → ((x : ℕ) → LearnedSo h.accounts p.node p.tunnel x
      → x ≡ name n i)
      → Partner h n i e p
  part_of q is other goes first learned =
      let c_made = made_of q is other in
      record {
        goes = subst (λ y. (h.accounts p.node p.tunnel y).peer ≡ n) (sym first) goes;
        made = c_made;
        node = (holds.accounts p.node p.tunnel 0).node c_made;
        some = some_tunnel;
        fits = (holds.accounts p.node p.tunnel 0).id c_made;
        learned = learned;
      }

  there_zero : e ≡ 0 → slice_get c.given place ≡ Some l
  there_zero first = subst (λ y. slice_get (h.accounts p.node p.tunnel y).given place ≡ Some l) first there

  -- this end opened the tunnel
  pub of_opener : a.part ≡ Opener → Partner h n i e p
  of_opener own =
      let o = opener_of w h n i e a (holds.accounts n i e) own in
      let accepts = sym (ap (λ (x : Account). x.part) partner_is) ∙ o.1.part known in
      let goes = sym (ap (λ (x : Account). x.peer) partner_is) ∙ o.1.peer known in
      let back = sym (ap (λ (x : Account). x.remote) partner_is) ∙ o.1.remote known in
      part_of Acceptor accepts (λ z. let no : ⊥ = cc in no) goes o.0 (λ x is. accepted_so h.accounts n i p.node p.tunnel x is accepts
      goes back some)

  -- or it accepted it, and its opener has learned it
  pub of_acceptor : a.part ≡ Acceptor → (partner_in h.accounts 0 a).remote ≡ i → 1 ≤ place → Partner h n i e p
  of_acceptor own learned_it le =
      let o = acceptor_of w h n i e a (holds.accounts n i e) own in
      let opens = sym (ap (λ (x : Account). x.part) partner_is) ∙ o.1.part in
      let goes = sym (ap (λ (x : Account). x.peer) partner_is) ∙ o.1.peer in
      let back = sym (ap (λ (x : Account). x.remote) partner_is) ∙ learned_it in
      let opener = (opener_of w h p.node p.tunnel 0 c (holds.accounts p.node p.tunnel 0) opens).1 in
      let late : c.closed ≡ Some 0 → ⊥ =
      λ closed. plain (later_is (λ (y : Letter). IsStopCcn y.message) c.given place l le (there_zero o.0) (opener.early closed).1) in
      part_of Opener opens (λ z. let no : ⊥ = cc in no) goes o.0 (λ x is. learned_so h.accounts p.node p.tunnel n i x is goes back some
      late)

  -- or it began the epoch anew
  gave_made : (h.accounts p.node p.tunnel e).part ≡ Unmade → ⊥
  gave_made none =
      let ok = holds.accounts p.node p.tunnel e in
      let same : h.accounts p.node p.tunnel e ≡ no_account = subst (IsPart w h p.node p.tunnel e (h.accounts p.node p.tunnel e)) none
      ok.part in
      none-some l (sym (ap (λ (x : Account). slice_get x.given place) same) ∙ there)

  of_renewed : a.part ≡ Renewed → Partner h n i e p
  of_renewed own =
      let r = renewed_of w h n i e a (holds.accounts n i e) own in
      let link : AreLinked h.accounts n i p.node p.tunnel =
      subst (λ y. AreLinked h.accounts n i p.node y) remote (subst (λ x. AreLinked h.accounts n i x a.remote) peer r.linked) in
      let c_made : IsMade c = λ none. ⊎_elim
      (λ k. let two = sym k.1 ∙ none in absurd cc)
      (λ k. let two = sym k.1 ∙ none in absurd cc)
      link.parts in
      let s : IsRenewed w h p.node p.tunnel e (h.accounts p.node p.tunnel e) = ⊎_elim
      (λ is. let first = (opener_of w h p.node p.tunnel e _ (holds.accounts p.node p.tunnel e) is).0 in let lt = r.later in absurd
      (omega (arith, first, lt)))
      (λ k. ⊎_elim
      (λ is. let first = (acceptor_of w h p.node p.tunnel e _ (holds.accounts p.node p.tunnel e) is).0 in let lt = r.later in absurd
      (omega (arith, first, lt)))
      (λ is. renewed_of w h p.node p.tunnel e (h.accounts p.node p.tunnel e) (holds.accounts p.node p.tunnel e) is) k)
      (part_cases (h.accounts p.node p.tunnel e).part gave_made) in
      record {
        goes = s.peer ∙ link.back_peer;
        made = c_made;
        node = (holds.accounts p.node p.tunnel 0).node c_made;
        some = some_tunnel;
        fits = (holds.accounts p.node p.tunnel 0).id c_made;
        learned = λ x is. learned_so h.accounts p.node p.tunnel n i x is link.back_peer link.back link.from_some link.to_late;
      }

  -- an established tunnel that takes a letter behind those that it took
  module _ (t : Tunnel) (state : IsInState h.accounts i e a t a.part) (three : state_number t.control.state ≡ 3) (at_place : place ≡
      length a.taken) where
    accepts_state : (q : Part) → a.part ≡ q → IsInState h.accounts i e a t q → Partner h n i e p
    accepts_state Unmade own s = absurd s
    accepts_state Opener own s = of_opener own
    accepts_state Renewed own s = of_renewed own
    accepts_state Acceptor own s = ⊎_elim
        (λ (q : (state_number t.control.state ≡ 2) × (t.calls ≡ []) × IsOpen a). let two = q.0 in absurd (omega (arith, two, three)))
        (λ k. ⊎_elim
        (λ (q : (state_number t.control.state ≡ 3) × ((partner_in h.accounts 0 a).remote ≡ i) × IsOpen a).
        of_acceptor own q.1 (let one = (acceptor_of w h n i e a (holds.accounts n i e) own).1.some in omega (arith, one, at_place)))
        (λ (q : IsShut a t). let four = q.0 in absurd (omega (arith, four, three))) k)
        s

    pub established_partner : Partner h n i e p
    established_partner = accepts_state a.part refl state
