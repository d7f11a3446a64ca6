-- A move leaves births and mates joined: in the machine, and in the world in which the births of moves are told.
use Rattle.std.proofs.Common.{◌≡◌, ⊎_elim, ℕ, ◌+◌, ◌-◌, ◌^◌, ◌<◌, List, [], ◌∷◌, ◌++◌, refl, sym, ap, ◌∙◌, subst, Option, Some, None, arith}
use Rattle.std.specs.Prelude.{min}
use Rattle.id_table.specs.Ids.{at, put}
use Rattle.id_table.specs.Order.{same_or_not, at_new, at_other}
use Rattle.end_model.specs.declared.moves.Added.{Added}
use Rattle.end_model.specs.declared.moves.FirstUp.{FirstUp}
use Rattle.end_model.specs.declared.moves.Replied.{Replied}
use Rattle.end_model.specs.declared.moves.Move.{Move}
use Rattle.end_model.specs.declared.moves.Move.TheVariants as move
use Rattle.end_names.specs.declared.role.Role.{Role}
use Rattle.end_names.specs.declared.role.Role.TheVariants.{Lac, Lns}
use Rattle.end_names.specs.Names.{node_of}
use Rattle.end_model.specs.End.{End}
use Rattle.world_model.specs.World.{World, Node, Deed, birth_in, birth_of, with_birth, is_born, moved}
use Rattle.epoch_machine.specs.Worlds as machine
use Rattle.frame_laws.specs.Unrecovered.{IsMain}
use Rattle.frame_laws.proofs.Facts.{all_map, all_push}
use Rattle.connection_laws.specs.Steps.{BirthsStay}
use Rattle.session_laws.specs.Names.{name}
use Rattle.session_laws.specs.Joined.{Ends, mate_of, MateJoined, BirthsJoined, ReplyJoined, RepliesJoined}
use Rattle.session_laws.proofs.Births.{BirthsSame, IsBorn, RepliesTo, IsAnswered, births_by, BirthsFollow}
use Rattle.session_laws.proofs.Keeps.{with_end}
use Rattle.session_laws.proofs.Entering.{here_or_not, with_here, with_there}
use Rattle.session_laws.proofs.Names.{other_name, name_not_zero}

-- ---- the births of a world

-- a session has this birth in the new world, and every other one has the birth that it had
record Bears (w v : World) (n s b : ℕ) : Type 0 where
  here : birth_of v n s ≡ b
  others : (k q : ℕ) → ((k ≡ n) × (q ≡ s) → ⊥) → birth_of v k q ≡ birth_of w k q

module _ (w : World) (n s b : ℕ) (node : Node) (is : at w.nodes n ≡ Some node) where
  abbrev with_one : Node
  with_one = record node { births = put node.births s b }

  made_there : (k q : ℕ) → ((k ≡ n) × (q ≡ s) → ⊥) → birth_of (with_birth w n s b) k q ≡ birth_of w k q
  unfolding with_birth birth_of
  made_there k q apart = ⊎_elim
      (λ (e : k ≡ n).
      rw (e, is, at_new w.nodes n with_one, at_other node.births s b q (λ same. apart (e, same))) refl)
      (λ o. rw is (ap (λ (x : Option Node). birth_in x q) (at_other w.nodes n with_one k o)))
      (same_or_not k n)

  made_bears : Bears w (with_birth w n s b) n s b
  unfolding with_birth birth_of
  made_bears = record { here = rw (is, at_new w.nodes n with_one, at_new node.births s b) refl; others = made_there }

  made_count : (with_birth w n s b).born ≡ w.born
  unfolding with_birth
  made_count = rw is refl

  made_declared : (new : Node) × (at (with_birth w n s b).nodes n ≡ Some new)
  unfolding with_birth
  made_declared = (with_one, rw is (at_new w.nodes n with_one))

-- the next birth
abbrev next_birth : World → ℕ
next_birth w = min (w.born + 1) (2 ^ 64 - 1)

abbrev counted : World → World
counted w = record w { born = next_birth w }

next_is : (w : World) → w.born < 2 ^ 64 - 1 → next_birth w ≡ w.born + 1
next_is w few = omega (arith, few)

counted_birth : (w : World) (k q : ℕ) → birth_of (counted w) k q ≡ birth_of w k q
unfolding birth_of
counted_birth w k q = refl

born_bears : (w : World) (n s : ℕ) (node : Node) → at w.nodes n ≡ Some node → Bears w (is_born w n s) n s (next_birth w)
unfolding is_born
born_bears w n s node is =
    let b = made_bears (counted w) n s (next_birth w) node is in
    record { here = b.here; others = λ k q apart. b.others k q apart ∙ counted_birth w k q }

born_count : (w : World) (n s : ℕ) (node : Node) → at w.nodes n ≡ Some node → (is_born w n s).born ≡ next_birth w
unfolding is_born
born_count w n s node is = made_count (counted w) n s (next_birth w) node is

born_declared : (w : World) (n s : ℕ) (node : Node) → at w.nodes n ≡ Some node → (new : Node) × (at (is_born w n s).nodes n ≡ Some new)
unfolding is_born
born_declared w n s node is = made_declared (counted w) n s (next_birth w) node is

-- ---- mates

-- what is said of another node's sessions stays
mate_there : (w v : machine.World) (k q : ℕ) → v.calls.mate (name k q) ≡ w.calls.mate (name k q) → v.calls.remote (name k q) ≡ w.calls.remote (name k q)
    → (o : Option End) → MateJoined w k q o → MateJoined v k q o
mate_there w v k q mate remote None h = (mate ∙ h.0, remote ∙ h.1)
mate_there w v k q mate remote (Some e) h = mate ∙ h ∙ ap (λ r. mate_of e.role r) (sym remote)

-- a node's session has the mate that its end knows
own_mate : (w : machine.World) (n q : ℕ) (e : End) (r : Role) → e.role ≡ r → w.calls.mate (name n q) ≡ mate_of r (w.calls.remote (name n q))
    → MateJoined w n q (Some e)
own_mate w n q e r role h = rw role h

module _ (world : World) (ends : Ends) (w v : machine.World) (n : ℕ) (lt : n < 256) (e x : End) (role : x.role ≡ e.role) (here : ends n ≡ Some e)
    (h : BirthsJoined world ends w) where
  mate_before : (q : ℕ) → q < 65536 → w.calls.mate (name n q) ≡ mate_of e.role (w.calls.remote (name n q))
  mate_before q fits = subst (λ o. MateJoined w n q o) here (h.mate n q lt fits)

  -- the mates of the node's sessions are given, and those of other nodes' stay
  mates_on : ((q : ℕ) → q < 65536 → v.calls.mate (name n q) ≡ mate_of e.role (v.calls.remote (name n q)))
      → ((k q : ℕ) → (k ≡ n → ⊥) → q < 65536 → v.calls.mate (name k q) ≡ w.calls.mate (name k q))
      → ((k q : ℕ) → (k ≡ n → ⊥) → q < 65536 → v.calls.remote (name k q) ≡ w.calls.remote (name k q))
      → (k q : ℕ) → k < 256 → q < 65536 → MateJoined v k q (with_end ends n x k)
  mates_on mine mates remotes k q kfits fits = ⊎_elim
      (λ (p : k ≡ n).
      rw (p, with_here ends n x) (own_mate v n q x e.role role (mine q fits)))
      (λ other. rw (with_there ends n x k other) (mate_there w v k q (mates k q other fits) (remotes k q other fits) (ends k) (h.mate k q kfits fits)))
      (same_or_not k n)

  -- no call replies
  mates_same : ((z : ℕ) → v.calls.mate z ≡ w.calls.mate z) → ((z : ℕ) → v.calls.remote z ≡ w.calls.remote z)
      → (k q : ℕ) → k < 256 → q < 65536 → MateJoined v k q (with_end ends n x k)
  mates_same mate remote =
      mates_on (λ q fits. mate (name n q) ∙ mate_before q fits ∙ ap (λ r. mate_of e.role r) (sym (remote (name n q))))
      (λ k q other fits. mate (name k q)) (λ k q other fits. remote (name k q))

  same_on : BirthsSame w v → BirthsJoined world (with_end ends n x) v
  same_on g = record {
    count = g.count ∙ h.count;
    birth = λ k q kfits fits. g.birth (name k q) ∙ h.birth k q kfits fits;
    mate = mates_same g.mate g.remote;
  }

  -- one session has a new birth
  birth_on : (after : World) (s b : ℕ) → s < 65536 → Bears world after n s b → v.calls.birth (name n s) ≡ b
      → ((z : ℕ) → (z ≡ name n s → ⊥) → v.calls.birth z ≡ w.calls.birth z)
      → (k q : ℕ) → k < 256 → q < 65536 → v.calls.birth (name k q) ≡ birth_of after k q
  birth_on after s b sfits bears its others k q kfits fits = ⊎_elim
      (λ (p : (k ≡ n) × (q ≡ s)). rw (p.0, p.1) (its ∙ sym bears.here))
      (λ apart. others (name k q) (other_name k q n s fits sfits apart) ∙ h.birth k q kfits fits ∙ sym (bears.others k q apart))
      (here_or_not k n q s)

  added_on : (m : Added) (node : Node) → at world.nodes n ≡ Some node → world.born < 2 ^ 64 - 1 → m.session < 65536
      → IsBorn w v (name n m.session) → BirthsJoined (is_born world n m.session) (with_end ends n x) v
  added_on m node is few sfits g =
      let next : w.calls.births + 1 ≡ next_birth world = ap (λ k. k + 1) h.count ∙ sym (next_is world few) in
      record {
        count = g.count ∙ next ∙ sym (born_count world n m.session node is);
        birth = birth_on (is_born world n m.session) m.session (next_birth world) sfits (born_bears world n m.session node is) (g.here ∙ next) g.birth;
        mate = mates_same g.mate g.remote;
      }

  -- an LNS's call has the name that it knows for its mate
  lns_mate : e.role ≡ Lns → (q : ℕ) → v.calls.mate (name n q) ≡ v.calls.remote (name n q)
      → v.calls.mate (name n q) ≡ mate_of e.role (v.calls.remote (name n q))
  lns_mate lns q same = rw lns same

  known_before : e.role ≡ Lns → (q : ℕ) → q < 65536 → w.calls.mate (name n q) ≡ w.calls.remote (name n q)
  known_before lns q fits = rw lns at (mate_before q fits)

  replied_on : (m : Replied) (node : Node) → at world.nodes n ≡ Some node → e.role ≡ Lns → m.session < 65536 → node_of m.peer < 256 → m.remote < 65536
      → RepliesTo w v (name n m.session) (name (node_of m.peer) m.remote)
      → BirthsJoined (with_birth world n m.session (birth_of world (node_of m.peer) m.remote)) (with_end ends n x) v
  replied_on m node is lns sfits pfits rfits g =
      let s = m.session in
      let b = birth_of world (node_of m.peer) m.remote in
      record {
        count = g.count ∙ h.count ∙ sym (made_count world n s b node is);
        birth = birth_on (with_birth world n s b) s b sfits (made_bears world n s b node is)
            (g.here ∙ h.birth (node_of m.peer) m.remote pfits rfits) g.birth;
        mate = mates_on
            (λ q fits. lns_mate lns q (⊎_elim
            (λ (p : q ≡ s). rw p (g.mate_here ∙ sym g.remote_here))
            (λ (other : q ≡ s → ⊥).
            let apart = other_name n q n s fits sfits (λ both. other both.1) in
            g.mate (name n q) apart ∙ known_before lns q fits ∙ sym (g.remote (name n q) apart))
            (same_or_not q s)))
            (λ k q other fits. g.mate (name k q) (other_name k q n s fits sfits (λ both. other both.0)))
            (λ k q other fits. g.remote (name k q) (other_name k q n s fits sfits (λ both. other both.0)));
      }

  lac_mate : e.role ≡ Lac → (r q : ℕ) → v.calls.mate (name n q) ≡ 0 → v.calls.mate (name n q) ≡ mate_of e.role r
  lac_mate lac r q none = rw lac none

  none_before : e.role ≡ Lac → (q : ℕ) → q < 65536 → w.calls.mate (name n q) ≡ 0
  none_before lac q fits = rw lac at (mate_before q fits)

  first_up_on : (m : FirstUp) → e.role ≡ Lac → m.session < 65536 → IsAnswered w v (name n m.session) → BirthsJoined world (with_end ends n x) v
  first_up_on m lac sfits g = record {
    count = g.count ∙ h.count;
    birth = λ k q kfits fits. g.birth (name k q) ∙ h.birth k q kfits fits;
    mate = mates_on
        (λ q fits. lac_mate lac (v.calls.remote (name n q)) q (g.mate (name n q) ∙ none_before lac q fits))
        (λ k q other fits. g.mate (name k q))
        (λ k q other fits. g.remote (name k q) (other_name k q n m.session fits sfits (λ both. other both.0)));
  }

-- ---- a move

-- what a move leaves: births and mates are joined, and the world counts no more births than session ids were drawn
pub record MovesOn (world after : World) (ends : Ends) (v : machine.World) (n : ℕ) (m : Move) : Type 0 where
  pub joined : BirthsJoined after ends v
  pub declared : (node : Node) × (at after.nodes n ≡ Some node)
  pub count : after.born ≡ births_by m + world.born

module _ (world : World) (ends : Ends) (w v : machine.World) (n : ℕ) (lt : n < 256) (e x : End) (here : ends n ≡ Some e) (h : BirthsJoined world ends w)
    (node : Node) (is : at world.nodes n ≡ Some node) (few : world.born < 2 ^ 64 - 1) where
  else_on : (m : Move) → x.role ≡ e.role → births_by m ≡ 0 → BirthsSame w v → MovesOn world world (with_end ends n x) v n m
  else_on m role none g = record { joined = same_on world ends w v n lt e x role here h g; declared = (node, is); count = rw none (omega arith) }

  pub births_on : (m : Move) → IsMain m → BirthsFollow w v n e x m → MovesOn world (moved n world m) (with_end ends n x) v n m
  unfolding moved
  births_on (move.Added m) main g = record {
    joined = added_on world ends w v n lt e x g.role here h m node is few g.go.0 g.go.1;
    declared = born_declared world n m.session node is;
    count = born_count world n m.session node is ∙ next_is world few ∙ (omega arith);
  }
  births_on (move.Replied m) main g = record {
    joined = replied_on world ends w v n lt e x g.role here h m node is g.go.0 g.go.1 g.go.2 g.go.3 g.go.4;
    declared = made_declared world n m.session (birth_of world (node_of m.peer) m.remote) node is;
    count = made_count world n m.session (birth_of world (node_of m.peer) m.remote) node is ∙ (omega arith);
  }
  births_on (move.FirstUp m) main g = record {
    joined = first_up_on world ends w v n lt e x g.role here h m g.go.0 g.go.1 g.go.2;
    declared = (node, is);
    count = omega arith;
  }
  births_on (move.Opened m) main g = else_on (move.Opened m) g.role refl g.go
  births_on (move.Accepted m) main g = else_on (move.Accepted m) g.role refl g.go
  births_on (move.Connected m) main g = else_on (move.Connected m) g.role refl g.go
  births_on (move.Confirmed m) main g = else_on (move.Confirmed m) g.role refl g.go
  births_on (move.Requested m) main g = else_on (move.Requested m) g.role refl g.go
  births_on (move.SecondUp m) main g = else_on (move.SecondUp m) g.role refl g.go
  births_on (move.Refused m) main g = else_on (move.Refused m) g.role refl g.go
  births_on (move.EndTold m) main g = else_on (move.EndTold m) g.role refl g.go
  births_on (move.EndHeard m) main g = else_on (move.EndHeard m) g.role refl g.go
  births_on (move.EndSilent m) main g = else_on (move.EndSilent m) g.role refl g.go
  births_on (move.Declined m) main g = else_on (move.Declined m) g.role refl g.go
  births_on (move.Closed m) main g = else_on (move.Closed m) g.role refl g.go
  births_on (move.Rejected m) main g = else_on (move.Rejected m) g.role refl g.go
  births_on (move.ClosedBy m) main g = else_on (move.ClosedBy m) g.role refl g.go
  births_on (move.Cleared i booked) main g = else_on (move.Cleared i booked) g.role refl g.go
  births_on (move.Greeted m) main g = else_on (move.Greeted m) g.role refl g.go
  births_on (move.TookPlain m) main g = else_on (move.TookPlain m) g.role refl g.go
  births_on (move.NrRead m) main g = else_on (move.NrRead m) g.role refl g.go
  births_on (move.LetGo m) main g = else_on (move.LetGo m) g.role refl g.go
  births_on (move.Repeated m) main g = else_on (move.Repeated m) g.role refl g.go
  births_on (move.Quiet i) main g = else_on (move.Quiet i) g.role refl g.go
  births_on (move.Negotiated m) main g = else_on (move.Negotiated m) g.role refl g.go
  births_on (move.Counted m) main g = else_on (move.Counted m) g.role refl g.go
  births_on (move.FrameSent m) main g = else_on (move.FrameSent m) g.role refl g.go
  births_on (move.FrameUp m) main g = else_on (move.FrameUp m) g.role refl g.go
  births_on m main g = absurd main

-- ---- mates of calls that were made for requests

abbrev DeedReplies : machine.World → Deed → Type 0
DeedReplies w d = (m : Replied) → d.move ≡ move.Replied m → ReplyJoined w d.node m

-- they stay, and the call of a new deed has its mate
pub replies_on : (w v : machine.World) (n : ℕ) (e x : End) (m : Move) (d : Deed) → BirthsFollow w v n e x m → d.node ≡ n → d.move ≡ m → (ds : List Deed)
    → RepliesJoined w ds → RepliesJoined v (ds ++ d ∷ [])
replies_on w v n e x m d g node_is move_is ds had =
    all_push (DeedReplies v) ds d
    (all_map (DeedReplies w) (DeedReplies v) (λ q so r is. stays q.node r (so r is)) ds had)
    (λ r is. subst (λ k. ReplyJoined v k r) (sym node_is) (g.replies r (sym move_is ∙ is)))
  where
    stays : (k : ℕ) (r : Replied) → ReplyJoined w k r → ReplyJoined v k r
    stays k r h = record {
      session = h.session;
      some = h.some;
      mate = g.mates (name k r.session) (λ none. name_not_zero (node_of r.peer) r.remote h.some (sym h.mate ∙ none)) ∙ h.mate;
    }

-- ---- lines

-- the births of a world are told by another one
pub births_told : (before after : World) (ends : Ends) (w : machine.World) → BirthsStay before after → BirthsJoined before ends w → BirthsJoined after ends w
births_told before after ends w same h = record {
  count = h.count ∙ sym same.count;
  birth = λ k q kfits fits. h.birth k q kfits fits ∙ sym (same.births k q);
  mate = h.mate;
}

-- the same ends, however they are told
pub births_ended : (world : World) (ends fs : Ends) (w : machine.World) → ((k : ℕ) → ends k ≡ fs k) → BirthsJoined world ends w
    → BirthsJoined world fs w
births_ended world ends fs w same h = record {
  count = h.count;
  birth = h.birth;
  mate = λ k q kfits fits. subst (λ o. MateJoined w k q o) (same k) (h.mate k q kfits fits);
}
