-- A line that makes no step keeps the join with the machine: nothing is done, a node is declared, a stop is armed, or a node falls.
use Rattle.std.proofs.Common.{◌≡◌, inl, inr, ⊎_elim, ℕ, ◌<◌, Bool, true, false, List, [], refl, sym, ap, ◌∙◌, subst, Option, Some, None, arith}
use Rattle.std.proofs.lemmas.Bool.{true≢false}
use Rattle.std.proofs.lemmas.Option.{none-some}
use Rattle.std.specs.Prelude.{unwrap_or, ◌==◌, ◌&&◌, if◌then◌else◌}
use Rattle.id_table.specs.Ids.{at, at-none}
use Rattle.id_table.specs.Order.{at_new, at_other, same_or_not}
use Rattle.session_book.specs.declared.record.BookTunnel.{BookTunnel}
use Rattle.session_book.specs.Books.{tunnel_at}
use Rattle.end_names.specs.declared.role.Role.{Role}
use Rattle.end_names.specs.Names.{node_of}
use Rattle.end_model.specs.declared.moves.Froze.{Froze}
use Rattle.end_model.specs.Tunnels.{Tunnel}
use Rattle.world_model.specs.declared.held.Held.{Held}
use Rattle.world_model.specs.declared.standing.Standing.{Standing}
use Rattle.world_model.specs.declared.stop.StopAt.{StopAt}
use Rattle.world_model.specs.World.{World, Node, Deed, birth_of, birth_in, standing_in, standing_of, epoch_of, answer_in, no_standing, with_node, with_stop, new_node, hand_deed, empty_world}
use Rattle.epoch_machine.specs.Worlds as machine
use Rattle.epoch_machine.specs.Worlds.{all_rules}
use Rattle.epoch_machine.specs.Calls.{lives, loses}
use Rattle.epoch_machine.specs.Moves.{falls, goes_on}
use Rattle.channel_laws.specs.Accounts.{Account, History, no_history, after, after_deed, history_from}
use Rattle.channel_laws.specs.Facts.{makes}
use Rattle.channel_laws.specs.Lines.{AreHands, OfNode, Nothing, ANode, Arms, Falls, Steps, Cuts, Starts}
use Rattle.channel_laws.proofs.Resting.{same_holds, fall_holds, arm_holds, declared_holds, empty_holds}
use Rattle.channel_laws.specs.Epochs.{IsLive}
use Rattle.recovery_laws.specs.Queries.{QueriesJoined, CallsAreNamed}
use Rattle.recovery_laws.specs.Joined.{ByLetter, TunnelJoined, AnswerJoined, CallsJoined, NodeJoined, live_in, kept_in, AreJoined}
use Rattle.recovery_laws.specs.Standing.{Stands, StandsFirst, RestingLinesKeep}
use Rattle.recovery_laws.proofs.Crashes.{crash_joined, crash_queries}

-- ---- another world, of which the machine's is the same

record IsAlike (w v : World) (n : ℕ) : Type 0 where
  live : (i : ℕ) → live_in (at v.nodes n) i ≡ live_in (at w.nodes n) i
  kept : (i : ℕ) → kept_in (at v.nodes n) i ≡ kept_in (at w.nodes n) i
  standings : (i : ℕ) → (epoch_of v n i ≡ epoch_of w n i) × ((standing_of v n i).made ≡ (standing_of w n i).made)
  makes_it : (c : ℕ) → makes v n c ≡ makes w n c
  births : (s : ℕ) → birth_of v n s ≡ birth_of w n s

module _ (w v : World) (h : History) (m : machine.World) (joined : AreJoined w h m) (alike : (n : ℕ) → IsAlike w v n)
    (nodes : (n : ℕ) → n < 256 → NodeJoined m h n (at v.nodes n)) (born : v.born ≡ w.born) where
  tunnel_as : (n i : ℕ) (o : Option Tunnel) (b : Option BookTunnel) → TunnelJoined m w h n i o b → TunnelJoined m v h n i o b
  tunnel_as n i o b t = record {
    opener = t.opener;
    node = t.node;
    peer = t.peer;
    learned = t.learned;
    phase = t.phase;
    booked = t.booked;
    entered = t.entered ∙ sym ((alike n).standings i).0;
    epochs = t.epochs ∙ sym ((alike n).standings i).1;
    entered_by = t.entered_by;
    sent = t.sent;
    taken = t.taken;
    refused = t.refused;
  }

  answer_as : (n c : ℕ) (o : Option Froze) → AnswerJoined m w h n c o → AnswerJoined m v h n c o
  answer_as n c None is = is
  answer_as n c (Some f) a = record {
    given = a.given;
    answered = a.answered;
    epoch = a.epoch ∙ sym ((alike n).makes_it c);
    own = a.own;
    theirs = a.theirs;
    confirmed = λ is. a.confirmed (subst (λ e. (h.accounts (node_of f.peer) f.remote e).answer ≡ Some (record { node = n; tunnel = c })) ((alike n).makes_it c) is);
  }

  joined_as : AreJoined v h m
  joined_as = record {
    drawn = joined.drawn;
    tunnels = λ n i lt fits.
        subst (λ o. TunnelJoined m v h n i o (kept_in (at v.nodes n) i)) (sym ((alike n).live i))
        (subst (λ b. TunnelJoined m v h n i (live_in (at w.nodes n) i) b) (sym ((alike n).kept i)) (tunnel_as n i _ _ (joined.tunnels n i lt fits)));
    attempts = joined.attempts;
    answers = λ n c lt fits. answer_as n c (h.answers n c) (joined.answers n c lt fits);
    nodes = nodes;
    births = (joined.births.0 ∙ sym born, λ n s lt fits. joined.births.1 n s lt fits ∙ sym ((alike n).births s));
    moves = joined.moves;
    run = joined.run;
  }

-- the same nodes
module _ (w v : World) (h : History) (m : machine.World) (joined : AreJoined w h m) (nodes : v.nodes ≡ w.nodes) (born : v.born ≡ w.born) where
  alike_as : (n : ℕ) → IsAlike w v n
  unfolding standing_of birth_of
  alike_as n = record {
    live = λ i. ap (λ q. live_in (at q n) i) nodes;
    kept = λ i. ap (λ q. kept_in (at q n) i) nodes;
    standings = λ i. (ap (λ q. (standing_in (at q n) i).epoch) nodes, ap (λ q. (standing_in (at q n) i).made) nodes);
    makes_it = λ c. ap (λ q. answer_in (at q n) c) nodes;
    births = λ s. ap (λ q. birth_in (at q n) s) nodes;
  }

  same_joined : AreJoined v h m
  same_joined = joined_as w v h m joined alike_as (λ n lt. subst (NodeJoined m h n) (sym (ap (λ q. at q n) nodes)) (joined.nodes n lt)) born

-- one node is put in the place of another
module _ (w : World) (h : History) (m : machine.World) (joined : AreJoined w h m) (n : ℕ) (o : Option Node) (new : Node) (was : at w.nodes n ≡ o)
    (live : (i : ℕ) → at new.end.tunnels i ≡ live_in o i) (kept : (i : ℕ) → tunnel_at new.checkpoint.book i ≡ kept_in o i)
    (standings : (i : ℕ) → standing_in (Some new) i ≡ standing_in o i) (answers : (c : ℕ) → answer_in (Some new) c ≡ answer_in o c)
    (births : (s : ℕ) → birth_in (Some new) s ≡ birth_in o s) (node : n < 256 → NodeJoined m h n (Some new)) where
  abbrev v : World
  v = with_node w n new

  here : at v.nodes n ≡ Some new
  here = at_new w.nodes n new

  by_node : {X : Type 0} (f : Option Node → X) → f (Some new) ≡ f o → (k : ℕ) → f (at v.nodes k) ≡ f (at w.nodes k)
  by_node f same k = ⊎_elim
      (λ (e : k ≡ n). ap f (ap (at v.nodes) e ∙ here) ∙ (same ∙ sym (ap f (ap (at w.nodes) e ∙ was))))
      (λ (other : k ≡ n → ⊥). ap f (at_other w.nodes n new k other))
      (same_or_not k n)

  alike_but : (k : ℕ) → IsAlike w v k
  unfolding standing_of birth_of
  alike_but k = record {
    live = λ i. by_node (λ q. live_in q i) (live i) k;
    kept = λ i. by_node (λ q. kept_in q i) (kept i) k;
    standings = λ i. (by_node (λ q. (standing_in q i).epoch) (ap (λ (s : Standing). s.epoch) (standings i)) k, by_node (λ q. (standing_in q i).made) (ap (λ (s : Standing). s.made) (standings i)) k);
    makes_it = λ c. by_node (λ q. answer_in q c) (answers c) k;
    births = λ s. by_node (λ q. birth_in q s) (births s) k;
  }

  put_joined : AreJoined v h m
  put_joined = joined_as w v h m joined alike_but
      (λ k lt. ⊎_elim
      (λ (e : k ≡ n). subst (λ q. NodeJoined m h q (at v.nodes q)) (sym e) (subst (NodeJoined m h n) (sym here) (node (omega (arith, lt, e)))))
      (λ (other : k ≡ n → ⊥). subst (NodeJoined m h k) (sym (at_other w.nodes n new k other)) (joined.nodes k lt))
      (same_or_not k n)) refl

-- ---- lines

-- a stop is armed
armed_joined : (w : World) (h : History) (m : machine.World) (k : OfNode w) (s : StopAt) → AreJoined w h m
    → AreJoined (with_node w k.node (record k.old { checkpoint = with_stop (Some s) k.old.checkpoint })) h m
armed_joined w h m k s joined =
    put_joined w h m joined k.node (Some k.old) (record k.old { checkpoint = with_stop (Some s) k.old.checkpoint }) k.was (λ i. refl) (λ i. refl) (λ i. refl) (λ c. refl)
    (λ q. refl)
    (λ lt. (let j : NodeJoined m h k.node (Some k.old) = subst (NodeJoined m h k.node) k.was (joined.nodes k.node lt) in (j.0, calls_as j.1)))
  where
    calls_as : CallsJoined m h k.node k.old → CallsJoined m h k.node (record k.old { checkpoint = with_stop (Some s) k.old.checkpoint })
    calls_as c = record { live = c.live; gone = c.gone; kept = c.kept; booked = c.booked; home = c.home; undrawn = c.undrawn; zero = c.zero }

-- a node is declared
declared_joined : (w : World) (h : History) (m : machine.World) (number n : ℕ) (r : Role) (lns : ℕ) (secret : Option (List ℕ)) (hide : Bool) → at w.nodes n ≡ None
    → AreJoined w h m → AreJoined (with_node w n (new_node number n r lns secret hide)) h m
declared_joined w h m number n r lns secret hide none joined =
    put_joined w h m joined n None (new_node number n r lns secret hide) none (λ i. at-none i) (λ i. refl) (λ i. ap (λ q. unwrap_or q no_standing) (at-none i))
    (λ c. ap (λ q. unwrap_or q 0) (at-none c)) (λ s. ap (λ q. unwrap_or q 0) (at-none s))
    (λ lt. (let j : NodeJoined m h n None = subst (NodeJoined m h n) none (joined.nodes n lt) in (
      j.0,
      record {
        live = λ i t there s call is. absurd (none-some t (sym (at-none i) ∙ there));
        gone = λ s fits nothing. (j.1 s fits).0;
        kept = λ s c is. absurd (none-some c is);
        booked = λ s fits. (j.1 s fits).2;
        home = λ s fits live. (let no : false ≡ true = sym (ap lives (j.1 s fits).0) ∙ live in absurd cc);
        undrawn = λ s le fits. (j.1 s fits).1;
        zero = (j.1 0 (omega arith)).1;
      },
    )))

empty_joined : AreJoined empty_world no_history machine.empty_world
unfolding standing_of birth_of goes_on
empty_joined = record {
  drawn = λ n k lt fits. refl;
  tunnels = λ n i lt fits.
      subst (λ o. TunnelJoined machine.empty_world empty_world no_history n i (live_in o i) (kept_in o i)) (sym (at-none n)) (record {
        opener = refl;
        node = λ made. absurd (made refl);
        peer = λ made. absurd (made refl);
        learned = ByLetter refl;
        phase = refl;
        booked = refl;
        entered = sym (ap (λ (q : Option Node). (standing_in q i).epoch) (at-none n));
        epochs = sym (ap (λ (q : Option Node). (standing_in q i).made) (at-none n));
        entered_by = λ e. refl;
        sent = λ e. refl;
        taken = λ e. refl;
        refused = refl;
      });
  attempts = λ n a lt fits. refl;
  answers = λ n c lt fits. refl;
  nodes = λ n lt. subst (NodeJoined machine.empty_world no_history n) (sym (at-none n)) (refl, λ s fits. (refl, refl, refl));
  births = (refl, λ n s lt fits. sym (ap (λ (q : Option Node). birth_in q s) (at-none n)));
  moves = [];
  run = refl;
}

-- ---- what a line did

-- a frame that is handed up is in no tunnel's account
hand_account : (number n : ℕ) (r : Role) (f : Held) (k i e : ℕ) (a : Account) → after_deed (hand_deed number n r f) k i e a ≡ a
hand_account number n r f k i e a = by ((n == k) && (f.tunnel == i) && (0 == e))
  where
    by : (b : Bool) → (if b then a else a) ≡ a
    by true = refl
    by false = refl

-- so the history is as it was
hand_history : (number n : ℕ) (r : Role) (f : Held) (h : History) → after h (hand_deed number n r f) ≡ h
hand_history number n r f h = λ j. record {
  accounts = λ k i e. hand_account number n r f k i e (h.accounts k i e) j;
  attempts = h.attempts;
  answers = h.answers;
}

hands_history : (number : ℕ) (ds : List Deed) (h : History) → AreHands number ds → history_from ds h ≡ h
unfolding history_from
hands_history number ds h (inl none) = ap (λ q. history_from q h) none
hands_history number ds h (inr (n, r, f, is)) = ap (λ q. history_from q h) is ∙ hand_history number n r f h

nothing_done : (ds : List Deed) (h : History) → ds ≡ [] → h ≡ history_from ds h
unfolding history_from
nothing_done ds h none = sym (ap (λ q. history_from q h) none)

-- ---- queries

live_at : (w : World) (n i : ℕ) (t : Tunnel) (o : Option Node) → at w.nodes n ≡ o → live_in o i ≡ Some t → IsLive w n i t
live_at w n i t None is there = absurd (none-some t there)
live_at w n i t (Some node) is there = record { node = node; is = is; there = there }

-- another world with the same tunnels
queries_as : (w v : World) (h : History) (m : machine.World) → ((n i : ℕ) → live_in (at v.nodes n) i ≡ live_in (at w.nodes n) i)
    → QueriesJoined w h m
    → QueriesJoined v h m
queries_as w v h m same q n i t is current three =
    q n i t (live_at w n i t (at w.nodes n) refl (sym (same n i) ∙ (ap (λ o. live_in o i) is.is ∙ is.there))) current three

put_live : (w : World) (n : ℕ) (o : Option Node) (new : Node) → at w.nodes n ≡ o → ((i : ℕ) → at new.end.tunnels i ≡ live_in o i)
    → (k i : ℕ)
    → live_in (at (with_node w n new).nodes k) i ≡ live_in (at w.nodes k) i
put_live w n o new was live k i = ⊎_elim
    (λ (e : k ≡ n).
    ap (λ q. live_in q i) (ap (at (with_node w n new).nodes) e ∙ at_new w.nodes n new) ∙
    (live i ∙ sym (ap (λ q. live_in q i) (ap (at w.nodes) e ∙ was))))
    (λ (other : k ≡ n → ⊥). ap (λ q. live_in q i) (at_other w.nodes n new k other))
    (same_or_not k n)

no_queries : QueriesJoined empty_world no_history machine.empty_world
no_queries n i t is current three = absurd (none-some is.node (sym (at-none n) ∙ is.is))

-- ---- names of calls

none_named : CallsAreNamed machine.empty_world
none_named z is = absurd (true≢false (sym is))

fall_named : (m : machine.World) (n : ℕ) → CallsAreNamed m → CallsAreNamed (falls m n)
unfolding falls loses
fall_named m n named z is = named z is

pub stands_first : StandsFirst
stands_first = record {
  holds = empty_holds;
  machine = machine.empty_world;
  joined = empty_joined;
  queries = no_queries;
  named =
      none_named;
}

pub resting_lines_keep : RestingLinesKeep
resting_lines_keep w h number x nodes s (Nothing same hands none) rests =
    subst (Stands x.world) (sym (hands_history number x.done h hands)) (record {
      holds = same_holds w x.world h s.holds same.nodes same.packets;
      machine = s.machine;
      joined = same_joined w x.world h s.machine s.joined same.nodes same.born;
      queries = queries_as w x.world h s.machine (λ n i. ap (λ q. live_in (at q n) i) same.nodes) s.queries;
      named = s.named;
    })
resting_lines_keep w h number x nodes s (ANode n role lns secret hide lt to fresh world done none) rests =
    subst (Stands x.world) (nothing_done x.done h done) (subst (λ v. Stands v h) (sym world) (record {
      holds = declared_holds w h number n role lns secret hide lt to fresh s.holds;
      machine = s.machine;
      joined = declared_joined w h s.machine number n role lns secret hide fresh s.joined;
      queries = queries_as w (with_node w n (new_node number n role lns secret hide)) h s.machine
          (put_live w n None (new_node number n role lns secret hide) fresh (λ i. at-none i)) s.queries;
      named = s.named;
    }))
resting_lines_keep w h number x nodes s (Arms k stop world done none) rests =
    subst (Stands x.world) (nothing_done x.done h done) (subst (λ v. Stands v h) (sym world) (record {
      holds = arm_holds w h k.node k.old k.was s.holds stop;
      machine = s.machine;
      joined = armed_joined w h s.machine k stop s.joined;
      queries = queries_as w (with_node w k.node (record k.old { checkpoint = with_stop (Some stop) k.old.checkpoint })) h s.machine
          (put_live w k.node (Some k.old) (record k.old { checkpoint = with_stop (Some stop) k.old.checkpoint }) k.was
          (λ i. refl)) s.queries;
      named = s.named;
    }))
resting_lines_keep w h number x nodes s (Falls k world done none) rests =
    subst (Stands x.world) (nothing_done x.done h done) (subst (λ v. Stands v h) (sym world) (record {
      holds = fall_holds w h number k.node k.old k.was k.up (nodes k.node k.old k.was) s.holds;
      machine = falls s.machine k.node;
      joined = crash_joined w h number k.node k.old k.was k.up (nodes k.node k.old k.was) s.holds s.machine s.joined;
      queries = crash_queries w h number k.node k.old k.was k.up (nodes k.node k.old k.was) s.holds s.machine s.joined s.queries;
      named = fall_named s.machine k.node s.named;
    }))
resting_lines_keep w h number x nodes s (Steps k) rests = absurd rests
resting_lines_keep w h number x nodes s (Cuts k) rests = absurd rests
resting_lines_keep w h number x nodes s (Starts k) rests = absurd rests
