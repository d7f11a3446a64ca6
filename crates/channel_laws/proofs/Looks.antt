-- A move changes the ends of no nodes, nor their checkpoints, but for the end that it leaves. And of worlds whose standings and answers agree the same
-- holds, as far as their nodes do.
use Rattle.std.proofs.Common.{◌≡◌, ⊎_elim, ℕ, ◌+◌, List, [], ◌∷◌, refl, sym, ap, ◌∙◌, subst, Option, Some, None, arith}
use Rattle.std.specs.Prelude.{min, ◌^◌, ◌-◌}
use Rattle.std.specs.List.{AllByRecursion}
use Rattle.id_table.specs.Ids.{at, put}
use Rattle.id_table.specs.Order.{at_new, at_other, same_or_not}
use Rattle.end_names.specs.Names.{node_of}
use Rattle.end_model.specs.declared.moves.Move.{Move}
use Rattle.end_model.specs.declared.moves.Move.TheVariants as move
use Rattle.end_model.specs.Tunnels.{Tunnel, Recovering, ByAttempt, ByAnswer}
use Rattle.end_model.specs.End.{End}
use Rattle.world_model.specs.declared.packet.Packet.{Packet}
use Rattle.world_model.specs.declared.standing.Standing.{Standing}
use Rattle.world_model.specs.World.{World, Node, standing_of, epoch_of, answer_in, with_node, with_birth, with_birth_at, is_born, with_standing, with_standing_at, with_answer_at, has_made, makes_epoch, enters_epoch, birth_of, moved, moved_all}
use Rattle.channel_laws.specs.Accounts.{History}
use Rattle.channel_laws.specs.Facts.{IsRecovered, ChannelOk, LiveOk, EndOk, BookOk, NodeOk, StandingOk, PacketOk, Holds, QueryOk}
pub use Rattle.channel_laws.specs.Whole.{SameLook, CountAlike}
use Rattle.channel_laws.proofs.Agreeing.{Agree}
use Rattle.channel_laws.proofs.Growing.{Grows, account_grows, answers_grow, packets_grow}

-- ---- the same end and checkpoint

pub same_look : (o : Option Node) → SameLook o o
same_look None = tt
same_look (Some a) = (refl, refl)

pub look_on : (a b c : Option Node) → SameLook a b → SameLook b c → SameLook a c
look_on None None None p q = tt
look_on None None (Some c) p q = absurd q
look_on None (Some b) c p q = absurd p
look_on (Some a) None c p q = absurd p
look_on (Some a) (Some b) None p q = absurd q
look_on (Some a) (Some b) (Some c) p q = (q.0 ∙ p.0, q.1 ∙ p.1)

pub look_back : (a b : Option Node) → SameLook a b → SameLook b a
look_back None None p = tt
look_back None (Some b) p = absurd p
look_back (Some a) None p = absurd p
look_back (Some a) (Some b) p = (sym p.0, sym p.1)

-- so look the nodes of two worlds
abbrev pub LookAlike : World → World → Type 0
LookAlike w v = (q : ℕ) → SameLook (at w.nodes q) (at v.nodes q)

put_look : (w : World) (n : ℕ) (node new : Node) → at w.nodes n ≡ Some node → new.end ≡ node.end → new.checkpoint ≡ node.checkpoint → LookAlike w (with_node w n new)
put_look w n node new there end checkpoint q = ⊎_elim
    (λ (same : q ≡ n).
    subst (λ z. SameLook (at w.nodes z) (at (with_node w n new).nodes z)) (sym same)
    (subst (λ o. SameLook o (at (with_node w n new).nodes n)) (sym there) (subst (SameLook (Some node)) (sym (at_new w.nodes n new)) (end, checkpoint))))
    (λ (o : q ≡ n → ⊥). subst (SameLook (at w.nodes q)) (sym (at_other w.nodes n new q o)) (same_look (at w.nodes q)))
    (same_or_not q n)

birth_look : (w : World) (n s birth : ℕ) → LookAlike w (with_birth w n s birth)
unfolding with_birth
birth_look w n s birth = by (at w.nodes n) refl
  where
    by : (o : Option Node) → at w.nodes n ≡ o → LookAlike w (with_birth_at w n s birth o)
    by None none = λ q. same_look (at w.nodes q)
    by (Some node) there = put_look w n node (record node { births = put node.births s birth }) there refl refl

born_look : (w : World) (n s : ℕ) → LookAlike w (is_born w n s)
unfolding is_born
born_look w n s = birth_look (record w { born = _ }) n s _

standing_look : (w : World) (n i : ℕ) (s : Standing) → LookAlike w (with_standing w n i s)
unfolding with_standing
standing_look w n i s = by (at w.nodes n) refl
  where
    by : (o : Option Node) → at w.nodes n ≡ o → LookAlike w (with_standing_at w n i s o)
    by None none = λ q. same_look (at w.nodes q)
    by (Some node) there = put_look w n node (record node { standings = put node.standings i s }) there refl refl

answer_look : (w : World) (n c e : ℕ) → LookAlike w (with_answer_at w n c e (at w.nodes n))
answer_look w n c e = by (at w.nodes n) refl
  where
    by : (o : Option Node) → at w.nodes n ≡ o → LookAlike w (with_answer_at w n c e o)
    by None none = λ q. same_look (at w.nodes q)
    by (Some node) there = put_look w n node (record node { answers = put node.answers c e }) there refl refl

makes_look : (w : World) (n i m j c : ℕ) → LookAlike w (makes_epoch w n i m j c)
unfolding makes_epoch
makes_look w n i m j c q =
    let e = min ((standing_of w n i).made + 1) (2 ^ 64 - 1) in
    let v = has_made w n i e in
    let u = has_made v m j e in
    look_on (at w.nodes q) (at v.nodes q) _ (standing_look w n i (record (standing_of w n i) { made = e }) q)
    (look_on (at v.nodes q) (at u.nodes q) _ (standing_look v m j (record (standing_of v m j) { made = e }) q) (answer_look u n c e q))

enters_look : (w : World) (n i e : ℕ) → LookAlike w (enters_epoch w n i e)
unfolding enters_epoch
enters_look w n i e = standing_look w n i (record (standing_of w n i) { epoch = e; lost = None })

pub moved_look : (n : ℕ) (m : Move) (w : World) → LookAlike w (moved n w m)
unfolding moved
moved_look n (move.Added m) w = born_look w n m.session
moved_look n (move.Replied m) w = birth_look w n m.session (birth_of w (node_of m.peer) m.remote)
moved_look n (move.Froze m) w = makes_look w n m.tunnel (node_of m.peer) m.remote m.answer
moved_look n (move.ResetAttempting m) w = enters_look w n m.tunnel (answer_in (at w.nodes (node_of m.peer)) m.answer)
moved_look n (move.ResetAnswering m) w = enters_look w n m.tunnel (answer_in (at w.nodes n) m.answer)
moved_look n m w = λ q. same_look (at w.nodes q)

pub all_look : (n : ℕ) (ms : List Move) (w : World) → LookAlike w (moved_all n ms w)
unfolding moved_all
all_look n [] w q = same_look (at w.nodes q)
all_look n (m ∷ ms) w q = look_on (at w.nodes q) (at (moved n w m).nodes q) _ (moved_look n m w q) (all_look n ms (moved n w m) q)

-- the node that is there
pub record LooksSo (e : End) (o : Option Node) : Type 0 where
  pub node : Node
  pub is : o ≡ Some node
  pub end : node.end ≡ e

pub looks_so : (a : Node) (o : Option Node) → SameLook (Some a) o → (b : Node) × (o ≡ Some b) × (b.end ≡ a.end) × (b.checkpoint ≡ a.checkpoint)
looks_so a None p = absurd p
looks_so a (Some b) p = (b, refl, p.0, p.1)

-- ---- worlds whose standings and answers are the same

pub count_alike : (v u : World) → Agree v u → CountAlike v u
count_alike v u g = record { standings = g.standings; makes_as = g.makes_as }

module _ (v u : World) (h : History) (g : CountAlike v u) where
  epochs : (m j : ℕ) → epoch_of u m j ≡ epoch_of v m j
  epochs m j = ap (λ (s : Standing). s.epoch) (g.standings m j)

  grows : Grows v u h
  grows = record {
    epochs = λ m j. (let e = epochs m j in omega (arith, e));
    made = λ m j. (let e = ap (λ (s : Standing). s.made) (g.standings m j) in omega (arith, e));
    makes = λ m c f is. g.makes_as m c;
  }

  recovered : (n i : ℕ) (r : Recovering) → IsRecovered v h n i r → IsRecovered u h n i r
  recovered n i (ByAttempt c) (k, reset, named) = (
    k,
    λ is. (let q = reset is in
        let e = epochs n i in let m = g.makes_as (h.accounts n i 0).peer c.remote in let le = q.4 in (q.0, q.1, q.2, q.3, omega (arith, e, m, le), q.5)),
    named,
  )
  recovered n i (ByAnswer a) k =
      (k.0, k.1, k.2, k.3, k.4, λ is. (let e = epochs n i in let m = g.makes_as n a.connection.local in let le = k.5 is in omega (arith, e, m, le)), k.6)

  live_agrees : (n i : ℕ) (t : Tunnel) → LiveOk v h n i t → LiveOk u h n i t
  live_agrees n i t ok = record {
    local = ok.local;
    made = ok.made;
    peer = ok.peer;
    channel = λ current. subst (λ e. ChannelOk h.accounts n i e (h.accounts n i e) t) (sym (epochs n i)) (ok.channel current);
    kept = λ current. ap (λ (s : Standing). s.lost) (g.standings n i) ∙ ok.kept current;
    established = ok.established;
    some = ok.some;
    knows = ok.knows;
    learned = ok.learned;
    recovery = λ r is. recovered n i r (ok.recovery r is);
    unattempted = ok.unattempted;
    calls = ok.calls;
    query = subst (λ e. QueryOk e t.query) (sym (epochs n i)) ok.query;
  }

  pub end_agrees : (n : ℕ) (e : End) → EndOk v h n e → EndOk u h n e
  end_agrees n e ok = record {
    node = ok.node;
    number = ok.number;
    lns = ok.lns;
    ids = ok.ids;
    live = λ i t there. live_agrees n i t (ok.live i t there);
    apart = ok.apart;
  }

  -- a node that looks as it did
  pub node_agrees : (n : ℕ) (a b : Option Node) → SameLook a b → NodeOk v h n a → NodeOk u h n b
  node_agrees n None None p ok = ok
  node_agrees n None (Some b) p ok = absurd p
  node_agrees n (Some a) None p ok = absurd p
  node_agrees n (Some a) (Some b) p ok =
      (subst (EndOk u h n) (sym p.0) (end_agrees n a.end ok.0), subst (λ k. BookOk h n k.book) (sym p.1) ok.1)

  pub packets_agree : (ps : List Packet) → AllByRecursion (PacketOk v h) ps → AllByRecursion (PacketOk u h) ps
  packets_agree ps ok = packets_grow v u h grows ps ok

  pub holds_agrees : Holds v h → ((n : ℕ) → NodeOk u h n (at u.nodes n)) → AllByRecursion (PacketOk u h) u.packets → Holds u h
  holds_agrees holds nodes packets = record {
    accounts = λ n i e. account_grows v u h grows n i e (h.accounts n i e) (holds.accounts n i e);
    attempts = holds.attempts;
    answers = λ n c f is. answers_grow v u h grows n c f is (holds.answers n c f is);
    standings = λ n i. subst (StandingOk h n i) (sym (g.standings n i)) (holds.standings n i);
    nodes = nodes;
    packets = packets;
  }
