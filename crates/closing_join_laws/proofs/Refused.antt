-- A world in which the SCCRQ of one opener was refused, and the machine's that says so: nothing else that is joined changes.
use Rattle.std.proofs.Common.{◌≡◌, ⊎_elim, ℕ, ◌<◌, true, List, ◌++◌, refl, sym, ap, ap₂, ◌∙◌, subst, Option, Some, None}
use Rattle.std.specs.Prelude.{is_some, take, ◌||◌, if◌then◌else◌}
use Rattle.id_table.specs.Ids.{at}
use Rattle.session_book.specs.declared.record.BookTunnel.{BookTunnel}
use Rattle.end_model.specs.Tunnels.{Tunnel}
use Rattle.world_model.specs.World.{World, Node}
use Rattle.epoch_machine.specs.Worlds as machine
use Rattle.epoch_machine.specs.Worlds.{all_rules, empty_world}
use Rattle.epoch_machine.specs.Channels.{refuses}
use Rattle.epoch_machine.specs.Moves.{Move, Refuses, step, goes_on}
use Rattle.stop_laws.specs.Records.{node_of as step_node}
use Rattle.session_laws.specs.Names.{name, name_of}
use Rattle.session_laws.proofs.Ground.{run_on}
use Rattle.session_laws.proofs.Names.{same_name, assign_here, assign_there}
use Rattle.channel_laws.specs.Accounts.{Account, heeded, History}
use Rattle.channel_laws.specs.Facts.{IsMade, partner_in}
use Rattle.recovery_laws.specs.Queries.{letters_in, questions_in, weigh}
use Rattle.recovery_laws.specs.Joined.{is_made, is_opener, is_early, learned_name, answer_name, LearnedSo, ByLetter, ByRecord, TunnelJoined, AttemptJoined, AnswerJoined, CallsJoined, NodeJoined, live_in, kept_in, AreJoined}
use Rattle.join_laws.proofs.OneTunnel.{this_or_not}
use Rattle.join_laws.proofs.Roots.{attempt_as, answer_as}

-- ---- in the machine

abbrev pub refused : machine.World → ℕ → machine.World
refused w s = record w { channels = refuses w.channels s }

pub refuses_it : (w : machine.World) (s : ℕ) → w.tunnels.opener s ≡ true → step all_rules w (Refuses s) ≡ refused w s
unfolding step
refuses_it w s opener = rw opener refl

pub refuses_node : (w : machine.World) (s : ℕ) → step_node w (Refuses s) ≡ w.tunnels.peer s
unfolding step_node
refuses_node w s = refl

record IsRefused (w : machine.World) (s : ℕ) : Type 0 where
  sent : (y e : ℕ) → (refused w s).channels.sent y e ≡ w.channels.sent y e
  taken : (y e : ℕ) → (refused w s).channels.taken y e ≡ w.channels.taken y e
  here : (refused w s).channels.refused s ≡ true
  others : (y : ℕ) → (y ≡ s → ⊥) → (refused w s).channels.refused y ≡ w.channels.refused y

is_refused : (w : machine.World) (s : ℕ) → IsRefused w s
unfolding refuses
is_refused w s = record {
  sent = λ y e. refl;
  taken = λ y e. refl;
  here = assign_here w.channels.refused s true;
  others = λ y o. assign_there w.channels.refused s true y o;
}

-- ---- accounts

-- the same but for whether it was declined
pub record Alike (a b : Account) : Type 0 where
  pub part : b.part ≡ a.part
  pub peer : b.peer ≡ a.peer
  pub remote : b.remote ≡ a.remote
  pub answer : b.answer ≡ a.answer
  pub given : b.given ≡ a.given
  pub taken : b.taken ≡ a.taken
  pub closed : b.closed ≡ a.closed

pub alike_same : (a b : Account) → b ≡ a → Alike a b
alike_same a b same = record {
  part = ap (λ (y : Account). y.part) same;
  peer = ap (λ (y : Account). y.peer) same;
  remote = ap (λ (y : Account). y.remote) same;
  answer = ap (λ (y : Account). y.answer) same;
  given = ap (λ (y : Account). y.given) same;
  taken = ap (λ (y : Account). y.taken) same;
  closed = ap (λ (y : Account). y.closed) same;
}

alike_learned : (a b : Account) → Alike a b → learned_name b ≡ learned_name a
alike_learned a b r =
    ap (λ p. if is_early p b.closed then 0 else name_of b.peer b.remote) r.part
    ∙ (ap (λ c. if is_early a.part c then 0 else name_of b.peer b.remote) r.closed
    ∙ ap₂ (λ p f. if is_early a.part a.closed then 0 else name_of p f) r.peer r.remote)

alike_heeded : (a b : Account) → Alike a b → heeded b ≡ heeded a
alike_heeded a b r = ap₂ (λ c ts. heeded (record a { closed = c; taken = ts })) r.closed r.taken

-- ---- the join

pub record Refusal (v : World) (h g : History) (p r : ℕ) : Type 0 where
  pub node_fits : p < 256
  pub id_fits : r < 65536
  pub alike : (y f e : ℕ) → Alike (h.accounts y f e) (g.accounts y f e)
  pub others : (y f : ℕ) → ((y ≡ p) × (f ≡ r) → ⊥) → (g.accounts y f 0).declined ≡ (h.accounts y f 0).declined
  pub here : (g.accounts p r 0).declined ≡ true
  pub attempts : (y a : ℕ) → g.attempts y a ≡ h.attempts y a
  pub answers : (y c : ℕ) → g.answers y c ≡ h.answers y c

module _ (v : World) (h g : History) (p r : ℕ) (m : machine.World) (joined : AreJoined v h m) (o : Refusal v h g p r) where
  abbrev S : ℕ
  S = name p r

  abbrev z : machine.World
  z = refused m (name p r)

  f : IsRefused m S
  f = is_refused m S

  learned_on : (y i l : ℕ) → LearnedSo h.accounts y i l → LearnedSo g.accounts y i l
  learned_on y i l (ByLetter is) = ByLetter (is ∙ sym (alike_learned (h.accounts y i 0) (g.accounts y i 0) (o.alike y i 0)))
  learned_on y i l (ByRecord c part none some is accepts back own) =
      let a = o.alike y i 0 in
      let k = o.alike (h.accounts y i 0).peer c 0 in
      ByRecord c (a.part ∙ part) (a.remote ∙ none) some (is ∙ ap (λ q. name q c) (sym a.peer))
      (ap (λ q. (g.accounts q c 0).part) a.peer ∙ (k.part ∙ accepts))
      (ap (λ q. (g.accounts q c 0).peer) a.peer ∙ (k.peer ∙ back))
      (ap (λ q. (g.accounts q c 0).remote) a.peer ∙ (k.remote ∙ own))

  made_before : (y i : ℕ) → IsMade (g.accounts y i 0) → IsMade (h.accounts y i 0)
  made_before y i made none = made ((o.alike y i 0).part ∙ none)

  -- what its partner gave
  partner_given : (y i e : ℕ) → (partner_in g.accounts e (g.accounts y i e)).given ≡ (partner_in h.accounts e (h.accounts y i e)).given
  partner_given y i e =
      let a = o.alike y i e in
      ap₂ (λ q c. (g.accounts q c e).given) a.peer a.remote ∙ (o.alike (h.accounts y i e).peer (h.accounts y i e).remote e).given

  tunnel_on : (y i : ℕ) → i < 65536 → (t : Option Tunnel) (b : Option BookTunnel) → TunnelJoined m v h y i t b → TunnelJoined z v g y i t b
  tunnel_on y i ifits t b k = record {
    opener = k.opener ∙ ap is_opener (sym (o.alike y i 0).part);
    node = λ made. k.node (made_before y i made);
    peer = λ made. k.peer (made_before y i made) ∙ sym (o.alike y i 0).peer;
    learned = learned_on y i (m.tunnels.learned (name y i)) k.learned;
    phase = k.phase;
    booked = k.booked;
    entered = k.entered;
    epochs = k.epochs;
    entered_by = λ e. k.entered_by e ∙ ap answer_name (sym (o.alike y i e).answer);
    sent = λ e. f.sent (name y i) e
        ∙ (k.sent e
        ∙ sym (ap (λ q. letters_in y q (questions_in (g.accounts y i e).taken) (g.accounts y i e).given) (o.alike y i e).peer
        ∙ ap₂ (λ ts ls. letters_in y (h.accounts y i e).peer (questions_in ts) ls) (o.alike y i e).taken (o.alike y i e).given));
    taken = λ e. f.taken (name y i) e
        ∙ (k.taken e
        ∙ sym (ap₂ (λ c ls. weigh (take c ls)) (alike_heeded (h.accounts y i e) (g.accounts y i e) (o.alike y i e)) (partner_given y i e)));
    refused = ⊎_elim
        (λ (both : (y ≡ p) × (i ≡ r)). rw (both.0, both.1) (f.here ∙ sym o.here))
        (λ apart. f.others (name y i) (λ same. apart (same_name y i p r ifits o.id_fits same)) ∙ (k.refused ∙ sym (o.others y i apart)))
        (this_or_not y i p r);
  }

  calls_on : (y : ℕ) (node : Node) → CallsJoined m h y node → CallsJoined z g y node
  calls_on y node k = record {
    live = λ i t there s c live. (let l = k.live i t there s c live in record {
      some = l.some;
      state = l.state;
      tunnel = l.tunnel;
      remote = l.remote ∙ ap (λ q. name_of q c.remote) (sym (o.alike y i 0).peer);
    });
    gone = k.gone;
    kept = λ s c has. (let l = k.kept s c has in record {
      tunnel = l.tunnel;
      remote = l.remote ∙ ap (λ q. name_of q c.remote) (sym (o.alike y c.tunnel 0).peer);
    });
    booked = k.booked;
    home = k.home;
    undrawn = k.undrawn;
    zero = k.zero;
  }

  node_on : (y : ℕ) (n : Option Node) → NodeJoined m h y n → NodeJoined z g y n
  node_on y None k = k
  node_on y (Some node) k = (k.0, calls_on y node k.1)

  pub refused_joined : (js : List Move) → z ≡ goes_on all_rules m js → AreJoined v g z
  refused_joined js goes = record {
    drawn = λ y c yfits cfits.
        joined.drawn y c yfits cfits
        ∙ sym (ap (λ q. is_made q || (is_some (g.attempts y c) || is_some (g.answers y c))) (o.alike y c 0).part
        ∙ (ap (λ q. is_made (h.accounts y c 0).part || (is_some q || is_some (g.answers y c))) (o.attempts y c)
        ∙ ap (λ q. is_made (h.accounts y c 0).part || (is_some (h.attempts y c) || is_some q)) (o.answers y c)));
    tunnels = λ y i yfits ifits.
        tunnel_on y i ifits (live_in (at v.nodes y) i) (kept_in (at v.nodes y) i) (joined.tunnels y i yfits ifits);
    attempts = λ y a yfits afits.
        attempt_as m z y a (g.attempts y a) refl
        (subst (λ q. AttemptJoined m y a q) (sym (o.attempts y a)) (joined.attempts y a yfits afits));
    answers = λ y c yfits cfits.
        answer_as m z v v h g y c (g.answers y c) refl refl (λ q i e. (o.alike q i e).answer)
        (subst (λ q. AnswerJoined m v h y c q) (sym (o.answers y c)) (joined.answers y c yfits cfits));
    nodes = λ y yfits. node_on y (at v.nodes y) (joined.nodes y yfits);
    births = joined.births;
    moves = joined.moves ++ js;
    run = goes ∙ (ap (λ y. goes_on all_rules y js) joined.run ∙ sym (run_on all_rules empty_world joined.moves js));
  }
