-- A move that gives and takes no letter, of a tunnel that stays in its state: the tunnel talks, and says nothing.
use Rattle.std.proofs.Common.{◌≡◌, ℕ, ◌+◌, ◌<◌, ◌≤◌, List, [], ◌++◌, length, refl, sym, ap, ◌∙◌, subst, Option, Some, arith, append-nil}
use Rattle.std.specs.Prelude.{take}
use Rattle.id_table.specs.Ids.{at}
use Rattle.session_book.specs.Books.{Kept}
use Rattle.end_model.specs.declared.event.Event.{Event}
use Rattle.end_model.specs.declared.moves.Move.{Move}
use Rattle.end_model.specs.Tunnels.{Tunnel}
use Rattle.end_model.specs.End.{End}
use Rattle.world_model.specs.World.{World, Node, Sender, Deed, epoch_of}
use Rattle.step_laws.specs.Letters.{Letter}
use Rattle.book_laws.specs.Books.{Mirrors}
use Rattle.epoch_machine.specs.Worlds as machine
use Rattle.session_laws.specs.Names.{name}
use Rattle.channel_laws.specs.Accounts.{Account, heeded, History, after}
use Rattle.channel_laws.specs.Facts.{partner_in}
use Rattle.recovery_laws.specs.Joined.{CallsJoined}
use Rattle.recovery_laws.specs.Queries.{letters_in, questions_in, weigh}
use Rattle.recovery_laws.proofs.Asking.{none}
use Rattle.join_laws.specs.Steps as steps
use Rattle.join_laws.proofs.Ahead.{left}
use Rattle.join_laws.proofs.Letters.{Talks}
use Rattle.join_laws.proofs.Made as made
use Rattle.join_laws.proofs.OneTunnel.{CallStays}
use Rattle.join_laws.proofs.Roots.{Roots, roots_same, Speaks}

-- nothing more is known of channels, attempts and answers
pub record KnowsNoMore (h g : History) : Type 0 where
  pub accounts : (q f e : ℕ) → g.accounts q f e ≡ h.accounts q f e
  pub attempts : (q c : ℕ) → g.attempts q c ≡ h.attempts q c
  pub answers : (q c : ℕ) → g.answers q c ≡ h.answers q c

pub record Silent (h g : History) (n : ℕ) (node : Node) (x : End) (b : Kept) (j z : machine.World) (i : ℕ) (t r : Tunnel) : Type 0 where
  pub new : Mirrors x b
  pub at_t : at node.end.tunnels i ≡ Some t
  pub at_r : at x.tunnels i ≡ Some r
  pub state : r.control.state ≡ t.control.state
  pub recovery : r.recovery ≡ t.recovery
  pub others : (p : ℕ) → (p ≡ i → ⊥) → at x.tunnels p ≡ at node.end.tunnels p
  pub knows : KnowsNoMore h g
  pub tunnels : z.tunnels ≡ j.tunnels
  pub channels : z.channels ≡ j.channels
  pub calls : CallsJoined z g n (left node x b)
  pub calls_stay : (q s : ℕ) → (q ≡ n → ⊥) → q < 256 → s < 65536 → CallStays j z (name q s)
  pub births : (z.calls.births ≡ j.calls.births) × ((y : ℕ) → z.calls.birth y ≡ j.calls.birth y)

module _ (w : World) (h : History) (n : ℕ) (node : Node) (sender : Option Sender) (moment : ℕ) (ev : Event) (m : Move) (x : End) (d : Deed)
    (k : Kept) (j : machine.World) (q : steps.IsMade w h n node sender moment ev m x d k j) (b : Kept) (z : machine.World) (i : ℕ)
    (t r : Tunnel) (g : History) (o : Silent h g n node x b j z i t r) where
  abbrev e : ℕ
  e = epoch_of w n i

  abbrev a : Account
  a = h.accounts n i (epoch_of w n i)

  speaks : Speaks h g n i (epoch_of w n i) []
  speaks = record {
    roots = subst (Roots a) (sym (o.knows.accounts n i e)) (roots_same a);
    given = ap (λ (c : Account). c.given) (o.knows.accounts n i e) ∙ sym (append-nil a.given);
    others = λ p f u other. o.knows.accounts p f u;
    attempts = o.knows.attempts;
    answers = o.knows.answers;
  }

  pub silent_talks : Talks w h g n node x k b j z i (epoch_of w n i) t r [] [] 0
  silent_talks = record {
    node_fits = made.node_fits w h n node sender moment ev m x d k j q;
    id_fits = made.id_fits w h n node sender moment ev m x d k j q i t o.at_t;
    there = q.moved.there;
    old = q.mirrors;
    new = o.new;
    nodes = q.nodes;
    within = made.within w h n node sender moment ev m x d k j q;
    at_t = o.at_t;
    at_r = o.at_r;
    state = o.state;
    recovery = o.recovery;
    others = o.others;
    speaks = speaks;
    goes = none j z (name n i) e o.tunnels o.channels;
    sent = ap (λ (c : Account). letters_in n a.peer (questions_in c.taken) c.given) (o.knows.accounts n i e)
        ∙ sym (append-nil (letters_in n a.peer (questions_in a.taken) a.given));
    taken = ap (λ (c : Account). weigh (take (heeded c) (partner_in h.accounts e a).given)) (o.knows.accounts n i e) ∙ omega arith;
    most = subst (λ (c : Account). heeded c ≤ length (partner_in h.accounts e a).given) (sym (o.knows.accounts n i e))
        (made.within w h n node sender moment ev m x d k j q n i e);
    calls = o.calls;
    calls_stay = o.calls_stay;
    births = o.births;
  }
