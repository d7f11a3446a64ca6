-- A move that gives a birth: joined as one that gives none is, but for births; and what is asked for where one tunnel of one node changed.
use Rattle.std.proofs.Common.{◌≡◌, ◌⊎◌, ⊎_elim, ℕ, ◌<◌, true, refl, sym, ap, ◌∙◌, subst, Option, Some, None, arith}
use Rattle.std.proofs.lemmas.Option.{none-some, same_Some}
use Rattle.std.specs.Prelude.{is_some, unwrap_or}
use Rattle.id_table.specs.Ids.{at, put}
use Rattle.id_table.specs.Order.{at_new, at_other, same_or_not}
use Rattle.session_book.specs.Books.{Kept, tunnel_at}
use Rattle.tunnel_fsm.specs.Rows.{state_number}
use Rattle.end_names.specs.Names.{node_of, address_of}
use Rattle.end_model.specs.declared.moves.Restored.{Restored}
use Rattle.end_model.specs.declared.moves.Froze.{Froze}
use Rattle.end_model.specs.Tunnels.{Tunnel, mode_of, is_current}
use Rattle.end_model.specs.End.{End}
use Rattle.world_model.specs.declared.standing.Standing.{Standing}
use Rattle.world_model.specs.World.{World, Node, Checkpoint, standing_in, standing_of, epoch_of, answer_in, birth_in, birth_of, with_node, with_birth, with_birth_at}
use Rattle.epoch_machine.specs.Worlds as machine
use Rattle.epoch_machine.specs.Calls.{Calls}
use Rattle.session_laws.specs.Names.{name}
use Rattle.channel_laws.specs.Accounts.{History}
use Rattle.channel_laws.specs.Facts.{makes}
use Rattle.channel_laws.specs.Epochs.{IsLive}
use Rattle.recovery_laws.specs.Joined.{TunnelJoined, AttemptJoined, AnswerJoined, CallsJoined}
use Rattle.join_laws.specs.Steps.{with_book}
use Rattle.join_laws.proofs.Ahead.{book_standings, book_makes}
use Rattle.join_laws.proofs.Asks.{Asked}
use Rattle.join_laws.proofs.Books.{booked, book_here, book_other, book_born}
use Rattle.join_laws.proofs.Moved.{node_calls, book_births}
use Rattle.join_laws.proofs.OneTunnel.{SameNode, NameStays, CallStays, OneTunnel}

-- a node's address is its own
pub own_address : (p : ℕ) → p < 256 → node_of (address_of p) ≡ p
unfolding node_of address_of
own_address p lt = omega arith

-- ---- the world behind it

-- the world in which a call of the node has this birth, and as many were born
pub record HasBirth (w v : World) (n s birth count : ℕ) : Type 0 where
  pub is : (node : Node) → at w.nodes n ≡ Some node → at v.nodes n ≡ Some (record node { births = put node.births s birth })
  pub others : (q : ℕ) → (q ≡ n → ⊥) → at v.nodes q ≡ at w.nodes q
  pub born : v.born ≡ count

pub has_birth : (w : World) (n s birth count : ℕ) (node : Node) → at w.nodes n ≡ Some node
    → HasBirth w (with_birth (record w { born = count }) n s birth) n s birth count
unfolding with_birth
has_birth w n s birth count node there =
    subst (λ v. HasBirth w v n s birth count) (sym (ap (with_birth_at (record w { born = count }) n s birth) there)) (record {
      is = λ c is.
          at_new w.nodes n (record node { births = put node.births s birth })
          ∙ ap (λ (y : Node). Some (record y { births = put y.births s birth })) (same_Some node c (sym there ∙ is));
      others = λ q o. at_other w.nodes n (record node { births = put node.births s birth }) q o;
      born = refl;
    })

-- ---- with a book of the node's end

-- what differs is the node's births alone
pub record Births (u v : World) (n : ℕ) (b c : Node) : Type 0 where
  pub was : at u.nodes n ≡ Some b
  pub is : at v.nodes n ≡ Some c
  pub end : c.end ≡ b.end
  pub checkpoint : c.checkpoint ≡ b.checkpoint
  pub up : c.up ≡ b.up
  pub others : (q : ℕ) → (q ≡ n → ⊥) → at v.nodes q ≡ at u.nodes q
  pub standings : (q f : ℕ) → standing_of v q f ≡ standing_of u q f
  pub makes_as : (q f : ℕ) → makes v q f ≡ makes u q f

module _ (w : World) (n s birth count : ℕ) (node : Node) (there : at w.nodes n ≡ Some node) (v : World) (h : HasBirth w v n s birth
    count) (b : Kept)
  where
    abbrev new : Node
    new = record node { births = put node.births s birth }

    by_node : {X : Type 0} (f : Option Node → X) → f (Some (booked new b)) ≡ f (Some (booked node b)) → (q : ℕ)
        → f (at (with_book v n b).nodes q) ≡ f (at (with_book w n b).nodes q)
    by_node f same q = ⊎_elim
        (λ (e : q ≡ n).
        ap (λ y. f (at (with_book v n b).nodes y)) e
        ∙ (ap f (book_here v n b new (h.is node there))
        ∙ (same ∙ sym (ap (λ y. f (at (with_book w n b).nodes y)) e ∙ ap f (book_here w n b node there)))))
        (λ o. ap f (book_other v n b new (h.is node there) q o ∙ (h.others q o ∙ sym (book_other w n b node there q o))))
        (same_or_not q n)

    pub with_births : Births (with_book w n b) (with_book v n b) n (booked node b) (booked (record node {
      births = put node.births s
          birth;
    }) b)
    unfolding standing_of
    with_births = record {
      was = book_here w n b node there;
      is = book_here v n b new (h.is node there);
      end = refl;
      checkpoint = refl;
      up = refl;
      others = λ q o. book_other v n b new (h.is node there) q o ∙ (h.others q o ∙ sym (book_other w n b node there q o));
      standings = λ q f. by_node (λ o. standing_in o f) refl q;
      makes_as = λ q f. by_node (λ o. answer_in o f) refl q;
    }

    pub birth_standings : (q f : ℕ) → standing_of v q f ≡ standing_of w q f
    unfolding standing_of
    birth_standings q f = ⊎_elim
        (λ (e : q ≡ n).
        ap (λ y. standing_in (at v.nodes y) f) e
        ∙ (ap (λ o. standing_in o f) (h.is node there) ∙ sym (ap (λ y. standing_in (at w.nodes y) f) e ∙ ap (λ o. standing_in o f) there)))
        (λ o. ap (λ y. standing_in y f) (h.others q o))
        (same_or_not q n)

    pub new_born : (with_book v n b).born ≡ count
    new_born = book_born v n b new (h.is node there) ∙ h.born

    -- the births of all others are as they were
    pub new_birth : birth_of (with_book v n b) n s ≡ birth
    unfolding birth_of
    new_birth = ap (λ o. birth_in o s) (book_here v n b new (h.is node there)) ∙ ap (λ o. unwrap_or o 0) (at_new node.births s birth)

    pub other_births : (q f : ℕ) → ((q ≡ n) × (f ≡ s) → ⊥) → birth_of (with_book v n b) q f ≡ birth_of w q f
    unfolding birth_of
    other_births q f apart = ⊎_elim
        (λ (e : q ≡ n).
        ap (λ y. birth_in (at (with_book v n b).nodes y) f) e
        ∙ (ap (λ o. birth_in o f) (book_here v n b new (h.is node there))
        ∙ (ap (λ o. unwrap_or o 0) (at_other node.births s birth f (λ y. apart (e, y)))
        ∙ sym (ap (λ y. birth_in (at w.nodes y) f) e ∙ ap (λ o. birth_in o f) there))))
        (λ o. ap (λ y. birth_in y f) (book_other v n b new (h.is node there) q o ∙ h.others q o))
        (same_or_not q n)

-- ---- the join

-- the machine's world with the births of another one
abbrev pub unborn : machine.World → machine.World → machine.World
unborn m z = record z { calls = record z.calls { births = m.calls.births; birth = m.calls.birth } }

module _ (v u o : World) (h g : History) (m z : machine.World) (n i : ℕ) (a b c : Node)
    (j : OneTunnel v u h g m (unborn m z) n i a b) (s : Births u o n b c)
    (births : (z.calls.births ≡ o.born) × ((q s : ℕ) → q < 256 → s < 65536 → z.calls.birth (name q s) ≡ birth_of o q s)) where
  here : TunnelJoined z o g n i (at b.end.tunnels i) (tunnel_at b.checkpoint.book i)
  here =
      let t = j.here in
      record {
        opener = t.opener;
        node = t.node;
        peer = t.peer;
        learned = t.learned;
        phase = t.phase;
        booked = t.booked;
        entered = t.entered ∙ sym (ap (λ (y : Standing). y.epoch) (s.standings n i));
        epochs = t.epochs ∙ sym (ap (λ (y : Standing). y.made) (s.standings n i));
        entered_by = t.entered_by;
        sent = t.sent;
        taken = t.taken;
        refused = t.refused;
      }

  attempt_on : (q f : ℕ) (y : Option Restored) → AttemptJoined (unborn m z) q f y → AttemptJoined z q f y
  attempt_on q f None is = is
  attempt_on q f (Some y) is = is

  answer_on : (q f : ℕ) (y : Option Froze) → AnswerJoined (unborn m z) u g q f y → AnswerJoined z o g q f y
  answer_on q f None is = is
  answer_on q f (Some y) is = record {
    given = is.given;
    answered = is.answered;
    epoch = is.epoch ∙ sym (s.makes_as q f);
    own = is.own;
    theirs = is.theirs;
    confirmed = λ entered.
        is.confirmed
        (subst (λ e. (g.accounts (node_of y.peer) y.remote e).answer ≡ Some (record { node = q; tunnel = f })) (s.makes_as q f) entered);
  }

  calls_on : CallsJoined (unborn m z) g n b → CallsJoined z g n b
  calls_on k = record {
    live = λ f t there e y is.
        (let l = k.live f t there e y is in record { some = l.some; state = l.state; tunnel = l.tunnel; remote = l.remote });
    gone = k.gone;
    kept = λ e y is. (let l = k.kept e y is in record { tunnel = l.tunnel; remote = l.remote });
    booked = k.booked;
    home = k.home;
    undrawn = k.undrawn;
    zero = k.zero;
  }

  same_then : (x y y2 : Option Node) → y2 ≡ y → SameNode x y → SameNode x y2
  same_then x y y2 same k = subst (SameNode x) (sym same) k

  stays_on : (y : ℕ) → NameStays m (unborn m z) y → NameStays m z y
  stays_on y k = record {
    opener = k.opener;
    node = k.node;
    peer = k.peer;
    learned = k.learned;
    phase = k.phase;
    booked = k.booked;
    entered = k.entered;
    entered_by = k.entered_by;
    sent = k.sent;
    taken = k.taken;
    refused = k.refused;
  }

  call_on : (y : ℕ) → CallStays m (unborn m z) y → CallStays m z y
  call_on y k = record { drawn = k.drawn; tunnel = k.tunnel; state = k.state; remote = k.remote; booked = k.booked }

  pub born_one : OneTunnel v o h g m z n i a c
  born_one = record {
    node_fits = j.node_fits;
    id_fits = j.id_fits;
    was = j.was;
    is = s.is;
    up = s.up ∙ j.up;
    others = λ q off. same_then (at v.nodes q) (at u.nodes q) (at o.nodes q) (s.others q off) (j.others q off);
    nodes = j.nodes;
    tunnels = λ f other. ap (λ (y : End). at y.tunnels f) s.end ∙ j.tunnels f other;
    kept = λ f other. ap (λ (y : Checkpoint). is_some (tunnel_at y.book f)) s.checkpoint ∙ j.kept f other;
    entered = λ q f apart. ap (λ (y : Standing). y.epoch) (s.standings q f) ∙ j.entered q f apart;
    epochs = λ q f qfits ffits. j.epochs q f qfits ffits ∙ sym (ap (λ (y : Standing). y.made) (s.standings q f));
    accounts = j.accounts;
    grown = j.grown;
    within = j.within;
    stays = λ y other. stays_on y (j.stays y other);
    here = subst (λ (y : End). TunnelJoined z o g n i (at y.tunnels i) (tunnel_at c.checkpoint.book i)) (sym s.end)
        (subst (λ (y : Checkpoint). TunnelJoined z o g n i (at b.end.tunnels i) (tunnel_at y.book i)) (sym s.checkpoint) here);
    drawn = j.drawn;
    attempts = λ q f qfits ffits. attempt_on q f (g.attempts q f) (j.attempts q f qfits ffits);
    answers = λ q f qfits ffits. answer_on q f (g.answers q f) (j.answers q f qfits ffits);
    ups = j.ups;
    calls = node_calls z g n b c s.end (ap (λ (y : Checkpoint). y.book) s.checkpoint) (calls_on j.calls);
    calls_stay = λ q e off qfits efits. call_on (name q e) (j.calls_stay q e off qfits efits);
    births = births;
  }

-- ---- what is asked for

module _ (v u : World) (h g : History) (m z : machine.World) (n i : ℕ) (a b : Node) (o : OneTunnel v u h g m z n i a b) where
  away : (q : ℕ) (x y : Option Node) → at v.nodes q ≡ x → at u.nodes q ≡ y → SameNode x y → (f : ℕ) (t : Tunnel)
      → IsLive u q f t → IsLive v q f t
  away q None None is so same f t live = absurd (none-some live.node (sym so ∙ live.is))
  away q None (Some d) is so same f t live = absurd same
  away q (Some c) None is so same f t live = absurd same
  away q (Some c) (Some d) is so same f t live =
      let one : d ≡ live.node = same_Some d live.node (sym so ∙ live.is) in
      record {
        node = c;
        is = is;
        there = ap (λ (e : End). at e.tunnels f) (sym same.0) ∙ (ap (λ (e : Node). at e.end.tunnels f) one
            ∙ live.there);
      }

  -- a tunnel that asks asked for the same, where the one that changed does
  pub asked_by_one : ((r : Tunnel) → at b.end.tunnels i ≡ Some r → is_current (mode_of r.recovery) ≡ true → state_number r.control.state ≡ 3
      → (t : Tunnel) × (at a.end.tunnels i ≡ Some t) × (is_current (mode_of t.recovery) ≡ true) × (state_number t.control.state ≡ 3)
      × (r.query ≡ t.query))
      → (q f : ℕ) (r : Tunnel) → IsLive u q f r → is_current (mode_of r.recovery) ≡ true → state_number r.control.state ≡ 3 → Asked v q f r
  asked_by_one own q f r live current three = ⊎_elim
      (λ (e : q ≡ n).
      let one : b ≡ live.node = same_Some b live.node (sym o.is ∙ subst (λ y. at u.nodes y ≡ Some live.node) e live.is) in
      let there : at b.end.tunnels f ≡ Some r = ap (λ (y : Node). at y.end.tunnels f) one ∙ live.there in
      subst (λ y. Asked v y f r) (sym e) (⊎_elim
      (λ (k : f ≡ i).
      let c = own r (subst (λ y. at b.end.tunnels y ≡ Some r) k there) current three in
      subst (λ y. Asked v n y r) (sym k) (record {
        tunnel = c.0;
        live = record { node = a; is = o.was; there = c.1 };
        current = c.2;
        three = c.3;
        query = c.4;
      }))
      (λ other. record {
        tunnel = r;
        live = record { node = a; is = o.was; there = sym (o.tunnels f other) ∙ there };
        current = current;
        three = three;
        query = refl;
      })
      (same_or_not f i)))
      (λ off. record {
        tunnel = r;
        live = away q (at v.nodes q) (at u.nodes q) refl refl (o.others q off) f r live;
        current = current;
        three = three;
        query = refl;
      })
      (same_or_not q n)
