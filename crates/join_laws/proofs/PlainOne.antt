-- A world is joined again behind a move of a node that gives no birth, and makes and enters no epoch, by which one of its tunnels
-- changes: what becomes of
-- that tunnel and of the node's calls is told.
use Rattle.std.proofs.Common.{◌≡◌, ⊎_elim, ℕ, ◌<◌, ◌≤◌, length, refl, sym, ap, ◌∙◌, subst, Option, Some, None}
use Rattle.std.specs.Prelude.{is_some}
use Rattle.id_table.specs.Ids.{at}
use Rattle.session_book.specs.Books.{Kept, tunnel_at}
use Rattle.end_model.specs.declared.moves.Restored.{Restored}
use Rattle.end_model.specs.declared.moves.Froze.{Froze}
use Rattle.end_model.specs.End.{End}
use Rattle.end_names.specs.Names.{node_of}
use Rattle.world_model.specs.declared.standing.Standing.{Standing}
use Rattle.world_model.specs.World.{World, Node}
use Rattle.book_laws.specs.Books.{Mirrors}
use Rattle.node_laws.specs.Nodes.{HoldsNode}
use Rattle.epoch_machine.specs.Worlds as machine
use Rattle.session_laws.specs.Names.{name}
use Rattle.channel_laws.specs.Accounts.{heeded, History}
use Rattle.channel_laws.specs.Facts.{partner_in, makes}
use Rattle.recovery_laws.specs.Joined.{is_used, TunnelJoined, AttemptJoined, AnswerJoined, CallsJoined, AreJoined}
use Rattle.join_laws.specs.Steps.{with_book}
use Rattle.join_laws.proofs.Ahead.{behind, left, was, is, others, nodes_hold, standings, makes_as, births_as, born_as, kept}
use Rattle.join_laws.proofs.Books.{booked}
use Rattle.join_laws.proofs.OneTunnel.{NameStays, CallStays, Grown, OneTunnel}

-- what the machine keeps of epochs, attempts and answers
pub record RestStays (m z : machine.World) : Type 0 where
  pub epochs : (y : ℕ) → z.tunnels.epochs y ≡ m.tunnels.epochs y
  pub attempts : (y : ℕ) → z.tunnels.attempts y ≡ m.tunnels.attempts y
  pub answers : (y : ℕ) → z.tunnels.answers y ≡ m.tunnels.answers y
  pub answered : (y : ℕ) → z.tunnels.answered y ≡ m.tunnels.answered y
  pub makes_it : (y : ℕ) → z.tunnels.makes y ≡ m.tunnels.makes y
  pub confirmed : (y : ℕ) → z.tunnels.confirmed y ≡ m.tunnels.confirmed y
  pub giver_first : (y : ℕ) → z.tunnels.giver_first y ≡ m.tunnels.giver_first y
  pub other_first : (y : ℕ) → z.tunnels.other_first y ≡ m.tunnels.other_first y
  pub ups : (y : ℕ) → z.tunnels.up y ≡ m.tunnels.up y

-- and what history does
pub record HistoryStays (h g : History) : Type 0 where
  pub attempts : (q c : ℕ) → g.attempts q c ≡ h.attempts q c
  pub answers : (q c : ℕ) → g.answers q c ≡ h.answers q c
  pub answer : (q j f : ℕ) → (g.accounts q j f).answer ≡ (h.accounts q j f).answer

attempt_stays : (m z : machine.World) (n c : ℕ) (o : Option Restored) → RestStays m z → AttemptJoined m n c o → AttemptJoined z n c o
attempt_stays m z n c None s is = s.attempts (name n c) ∙ is
attempt_stays m z n c (Some r) s is = s.attempts (name n c) ∙ is

answer_stays : (m z : machine.World) (v u : World) (h g : History) (n c : ℕ) (o : Option Froze) → RestStays m z → makes u n c ≡ makes v n c
    → HistoryStays h g → AnswerJoined m v h n c o → AnswerJoined z u g n c o
answer_stays m z v u h g n c None s makes_it k is = s.answers (name n c) ∙ is
answer_stays m z v u h g n c (Some f) s makes_it k a = record {
  given = s.answers (name n c) ∙ a.given;
  answered = s.answered (name n c) ∙ a.answered;
  epoch = s.makes_it (name n c) ∙ (a.epoch ∙ sym makes_it);
  own = s.giver_first (name n c) ∙ a.own;
  theirs = s.other_first (name n c) ∙ a.theirs;
  confirmed = λ entered.
      s.confirmed (name n c)
      ∙ a.confirmed (sym (k.answer (node_of f.peer) f.remote (makes v n c)) ∙
      subst (λ e. (g.accounts (node_of f.peer) f.remote e).answer ≡ Some (record { node = n; tunnel = c })) makes_it entered);
}

pub record Changes (w : World) (h g : History) (n : ℕ) (node : Node) (x : End) (k b : Kept) (m z : machine.World) (i : ℕ) : Type 0 where
  pub node_fits : n < 256
  pub id_fits : i < 65536
  pub there : at w.nodes n ≡ Some node
  pub old : Mirrors node.end k
  pub new : Mirrors x b
  pub nodes : (q : ℕ) (c : Node) → (q ≡ n → ⊥) → at w.nodes q ≡ Some c → HoldsNode c
  pub within : (q j f : ℕ) → heeded (h.accounts q j f) ≤ length (partner_in h.accounts f (h.accounts q j f)).given
  pub others : (j : ℕ) → (j ≡ i → ⊥) → at x.tunnels j ≡ at node.end.tunnels j
  -- the history
  pub accounts : (q j f : ℕ) → ((q ≡ n) × (j ≡ i) → ⊥) → g.accounts q j f ≡ h.accounts q j f
  pub grown : (f : ℕ) → Grown (h.accounts n i f) (g.accounts n i f)
  pub history : HistoryStays h g
  -- the machine
  pub rest : RestStays m z
  pub drawn : (q c : ℕ) → q < 256 → c < 65536 → z.tunnels.drawn (name q c) ≡ is_used g q c
  pub stays : (y : ℕ) → (y ≡ name n i → ⊥) → NameStays m z y
  pub here : TunnelJoined z (behind w n node x b) g n i (at x.tunnels i) (tunnel_at b i)
  -- calls, and births
  pub calls : CallsJoined z g n (left node x b)
  pub calls_stay : (q s : ℕ) → (q ≡ n → ⊥) → q < 256 → s < 65536 → CallStays m z (name q s)
  pub births : (z.calls.births ≡ m.calls.births) × ((y : ℕ) → z.calls.birth y ≡ m.calls.birth y)

pub changes_one : (w : World) (h g : History) (n : ℕ) (node : Node) (x : End) (k b : Kept) (m z : machine.World) (i : ℕ)
    → Changes w h g n node x k b m z i → AreJoined (with_book w n k) h m
    → OneTunnel (with_book w n k) (behind w n node x b) h g m z n i (booked node k) (left node x b)
changes_one w h g n node x k b m z i o joined = record {
  node_fits = o.node_fits;
  id_fits = o.id_fits;
  was = was w n node o.there x k b;
  is = is w n node o.there x k b;
  up = refl;
  others = others w n node o.there x k b;
  nodes = nodes_hold w n node o.there x k b o.nodes;
  tunnels = o.others;
  kept = λ j other. kept w n node o.there x k b o.old o.new j (o.others j other);
  entered = λ q j apart. ap (λ (s : Standing). s.epoch) (standings w n node o.there x k b q j);
  epochs = λ q j qfits jfits.
      o.rest.epochs (name q j)
      ∙ ((joined.tunnels q j qfits jfits).epochs ∙ sym (ap (λ (s : Standing). s.made) (standings w n node o.there x k b q j)));
  accounts = o.accounts;
  grown = o.grown;
  within = o.within;
  stays = o.stays;
  here = o.here;
  drawn = o.drawn;
  attempts = λ q c qfits cfits.
      subst (λ f. AttemptJoined z q c f) (sym (o.history.attempts q c))
      (attempt_stays m z q c (h.attempts q c) o.rest (joined.attempts q c qfits cfits));
  answers = λ q c qfits cfits.
      subst (λ f. AnswerJoined z (behind w n node x b) g q c f) (sym (o.history.answers q c))
      (answer_stays m z (with_book w n k) (behind w n node x b) h g q c (h.answers q c) o.rest (makes_as w n node o.there x k b q c)
      o.history
      (joined.answers q c qfits cfits));
  ups = o.rest.ups;
  calls = o.calls;
  calls_stay = o.calls_stay;
  births = (
    o.births.0 ∙ (joined.births.0 ∙ sym (born_as w n node o.there x k b)),
    λ q s qfits sfits. o.births.1 (name q s) ∙ (joined.births.1 q s qfits sfits ∙ sym (births_as w n node o.there x k b q s)),
  );
}

-- ---- nothing is known more

pub history_same : (h : History) → HistoryStays h h
history_same h = record { attempts = λ q c. refl; answers = λ q c. refl; answer = λ q j f. refl }
