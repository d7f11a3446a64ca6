-- Of two worlds that keep the same of each node, as the join reads it, either one is joined where the other is.
use Rattle.std.proofs.Common.{◌≡◌, ℕ, ◌≤◌, refl, sym, ap, ◌∙◌, subst, Option, Some, None}
use Rattle.std.proofs.lemmas.Option.{none-some}
use Rattle.std.specs.Prelude.{is_some}
use Rattle.id_table.specs.Ids.{at}
use Rattle.session_book.specs.declared.record.BookTunnel.{BookTunnel}
use Rattle.session_book.specs.Books.{tunnel_at, call_at}
use Rattle.end_names.specs.Names.{node_of}
use Rattle.end_model.specs.declared.moves.Froze.{Froze}
use Rattle.end_model.specs.Tunnels.{Tunnel}
use Rattle.end_model.specs.End.{End}
use Rattle.world_model.specs.declared.standing.Standing.{Standing}
use Rattle.world_model.specs.World.{World, Node, birth_of, standing_of}
use Rattle.epoch_machine.specs.Worlds as machine
use Rattle.channel_laws.specs.Accounts.{History}
use Rattle.channel_laws.specs.Facts.{makes}
use Rattle.channel_laws.specs.Epochs.{IsLive}
use Rattle.recovery_laws.specs.Joined.{TunnelJoined, AnswerJoined, CallsJoined, NodeJoined, live_in, kept_in, AreJoined}
use Rattle.join_laws.specs.Steps.{IsJoined}

-- the same end, up or down, and a book of the same tunnels and calls
abbrev pub SameJoin : Option Node → Option Node → Type 0
SameJoin None None = Unit {0}
SameJoin None (Some b) = ⊥
SameJoin (Some a) None = ⊥
SameJoin (Some a) (Some b) =
    (b.end ≡ a.end) × (b.up ≡ a.up)
    × ((i : ℕ) → tunnel_at b.checkpoint.book i ≡ tunnel_at a.checkpoint.book i)
    × ((s : ℕ) → call_at b.checkpoint.book s ≡ call_at a.checkpoint.book s)

pub same_join : (o : Option Node) → SameJoin o o
same_join None = tt
same_join (Some a) = (refl, refl, λ i. refl, λ s. refl)

pub record AreSame (v u : World) : Type 0 where
  pub nodes : (q : ℕ) → SameJoin (at v.nodes q) (at u.nodes q)
  pub standings : (q i : ℕ) → standing_of u q i ≡ standing_of v q i
  pub makes_as : (q c : ℕ) → makes u q c ≡ makes v q c
  pub births : (q s : ℕ) → birth_of u q s ≡ birth_of v q s
  pub born : u.born ≡ v.born

live_same : (o p : Option Node) → SameJoin o p → (i : ℕ) → live_in p i ≡ live_in o i
live_same None None s i = refl
live_same None (Some b) s i = absurd s
live_same (Some a) None s i = absurd s
live_same (Some a) (Some b) s i = ap (λ (e : End). at e.tunnels i) s.0

kept_same : (o p : Option Node) → SameJoin o p → (i : ℕ) → kept_in p i ≡ kept_in o i
kept_same None None s i = refl
kept_same None (Some b) s i = absurd s
kept_same (Some a) None s i = absurd s
kept_same (Some a) (Some b) s i = s.2 i

calls_same : (m : machine.World) (h : History) (n : ℕ) (a b : Node) → b.end ≡ a.end
    → ((s : ℕ) → call_at b.checkpoint.book s ≡ call_at a.checkpoint.book s) → CallsJoined m h n a → CallsJoined m h n b
calls_same m h n a b end book c = record {
  live = λ i t there. c.live i t (ap (λ (e : End). at e.tunnels i) (sym end) ∙ there);
  gone = λ s lt none. c.gone s lt (λ i t there. none i t (ap (λ (e : End). at e.tunnels i) end ∙ there));
  kept = λ s k is. c.kept s k (sym (book s) ∙ is);
  booked = λ s lt. c.booked s lt ∙ ap (λ o. is_some o) (sym (book s));
  home = c.home;
  undrawn = λ s le lt. c.undrawn s (subst (λ (e : End). e.session_ids.next ≤ s) end le) lt;
  zero = c.zero;
}

node_same : (m : machine.World) (h : History) (n : ℕ) (o p : Option Node) → SameJoin o p → NodeJoined m h n o → NodeJoined m h n p
node_same m h n None None s j = j
node_same m h n None (Some b) s j = absurd s
node_same m h n (Some a) None s j = absurd s
node_same m h n (Some a) (Some b) s j = (j.0 ∙ sym s.1, calls_same m h n a b s.0 s.3 j.1)

module _ (v u : World) (h : History) (m : machine.World) (same : AreSame v u) where
  tunnel_as : (n i : ℕ) (o : Option Tunnel) (b : Option BookTunnel) → TunnelJoined m v h n i o b → TunnelJoined m u h n i o b
  tunnel_as n i o b t = record {
    opener = t.opener;
    node = t.node;
    peer = t.peer;
    learned = t.learned;
    phase = t.phase;
    booked = t.booked;
    entered = t.entered ∙ ap (λ (s : Standing). s.epoch) (sym (same.standings n i));
    epochs = t.epochs ∙ ap (λ (s : Standing). s.made) (sym (same.standings n i));
    entered_by = t.entered_by;
    sent = t.sent;
    taken = t.taken;
    refused = t.refused;
  }

  answer_as : (n c : ℕ) (o : Option Froze) → AnswerJoined m v h n c o → AnswerJoined m u h n c o
  answer_as n c None is = is
  answer_as n c (Some f) a = record {
    given = a.given;
    answered = a.answered;
    epoch = a.epoch ∙ sym (same.makes_as n c);
    own = a.own;
    theirs = a.theirs;
    confirmed = λ is.
        a.confirmed
        (subst (λ e. (h.accounts (node_of f.peer) f.remote e).answer ≡ Some (record { node = n; tunnel = c })) (same.makes_as n c) is);
  }

  joined_as : AreJoined v h m → AreJoined u h m
  joined_as j = record {
    drawn = j.drawn;
    tunnels = λ n i lt fits.
        subst (λ o. TunnelJoined m u h n i o (kept_in (at u.nodes n) i)) (sym (live_same (at v.nodes n) (at u.nodes n) (same.nodes n) i))
        (subst (λ b. TunnelJoined m u h n i (live_in (at v.nodes n) i) b) (sym (kept_same (at v.nodes n) (at u.nodes n) (same.nodes n) i))
        (tunnel_as n i _ _ (j.tunnels n i lt fits)));
    attempts = j.attempts;
    answers = λ n c lt fits. answer_as n c (h.answers n c) (j.answers n c lt fits);
    nodes = λ n lt. node_same m h n (at v.nodes n) (at u.nodes n) (same.nodes n) (j.nodes n lt);
    births = (j.births.0 ∙ sym same.born, λ n s lt fits. j.births.1 n s lt fits ∙ sym (same.births n s));
    moves = j.moves;
    run = j.run;
  }

  live_at : (n i : ℕ) (t : Tunnel) (o : Option Node) → at v.nodes n ≡ o → live_in o i ≡ Some t → IsLive v n i t
  live_at n i t None is there = absurd (none-some t there)
  live_at n i t (Some node) is there = record { node = node; is = is; there = there }

  -- what lives in the one lives in the other
  pub live_before : (n i : ℕ) (t : Tunnel) → IsLive u n i t → IsLive v n i t
  live_before n i t is =
      live_at n i t (at v.nodes n) refl
      (sym (live_same (at v.nodes n) (at u.nodes n) (same.nodes n) i) ∙ (ap (λ o. live_in o i) is.is ∙ is.there))

  pub same_joined : IsJoined v h m → IsJoined u h m
  same_joined j = record {
    joined = joined_as j.joined;
    queries = λ n i t is current three. j.queries n i t (live_before n i t is) current three;
    named = j.named;
  }
