-- A tunnel of a node that waits is established, or closed, in epoch 0, and so is the machine's: the world is joined again. What becomes
-- of the node's calls, and of what is asked for, is told apart.
use Rattle.std.proofs.Common.{◌≡◌, ⊎_elim, ℕ, ◌+◌, ◌<◌, true, List, [], ◌++◌, refl, sym, ap, ◌∙◌, subst, Option, Some, None, arith, append-nil}
use Rattle.std.proofs.lemmas.List.{append_assoc}
use Rattle.std.specs.Prelude.{is_some, take, ◌||◌}
use Rattle.id_table.specs.Ids.{at}
use Rattle.id_table.specs.Order.{at_new, same_or_not}
use Rattle.session_book.specs.Books.{Kept, tunnel_at}
use Rattle.tunnel_fsm.specs.Rows.{state_number}
use Rattle.end_model.specs.declared.event.Event.{Event}
use Rattle.end_model.specs.declared.moves.Move.{Move}
use Rattle.end_model.specs.Moments.{is_open}
use Rattle.end_model.specs.Tunnels.{Tunnel, mode_of, is_current}
use Rattle.end_model.specs.End.{End}
use Rattle.world_model.specs.declared.standing.Standing.{Standing}
use Rattle.world_model.specs.World.{World, Node, Sender, Deed, epoch_of}
use Rattle.step_laws.specs.Letters.{Letter}
use Rattle.book_laws.specs.Books.{tunnel_record, Mirrors}
use Rattle.connection_laws.specs.Facts.{AllWait}
use Rattle.epoch_machine.specs.Letters as machine_letters
use Rattle.epoch_machine.specs.Tunnels.{Tunnels}
use Rattle.epoch_machine.specs.Channels.{Channels}
use Rattle.epoch_machine.specs.Worlds as machine
use Rattle.session_laws.specs.Names.{name, phase_of}
use Rattle.channel_laws.specs.Accounts.{Part, Unmade, Opener, Acceptor, Renewed, Account, no_account, heeded, History, about, declines_of, entered_by, attempts_by, answers_by, after}
use Rattle.channel_laws.specs.Facts.{IsMade, IsOpen, IsShut, IsInState, partner_in, AccountOk, ChannelOk, LiveOk, EndOk, BookOk, NodeOk}
use Rattle.channel_laws.specs.Steps.{with_end, moves_on}
use Rattle.channel_laws.proofs.Deeds as deeds
use Rattle.channel_laws.proofs.Linked.{opener_of, acceptor_of}
use Rattle.recovery_laws.specs.Asking.{GoesOn}
use Rattle.recovery_laws.specs.Growing.{TakenStay}
use Rattle.recovery_laws.specs.Queries.{letters_in, questions_in, weigh, QueriesJoined, CallsAreNamed}
use Rattle.recovery_laws.specs.Joined.{is_made, is_opener, is_used, learned_name, answer_name, ByLetter, TunnelJoined, CallsJoined}
use Rattle.recovery_laws.proofs.Epochs.{current_phase}
use Rattle.join_laws.specs.Steps as steps
use Rattle.join_laws.specs.Steps.{with_book, Follows}
use Rattle.join_laws.proofs.Ahead.{behind, left, standings, end_standings}
use Rattle.join_laws.proofs.Books.{booked}
use Rattle.join_laws.proofs.Finish.{Went, follows}
use Rattle.join_laws.proofs.Letters.{is_booked}
use Rattle.join_laws.proofs.Made as made
use Rattle.join_laws.proofs.OneTunnel.{NameStays, CallStays, Grown, one_joined, this_or_not}
use Rattle.join_laws.proofs.PlainOne.{RestStays, Changes, changes_one}
use Rattle.join_laws.proofs.Roots.{IsPlain}
use Rattle.closing_join_laws.proofs.Knowing.{unmade_weighs}

-- ---- in the machine

-- a tunnel gives these letters in epoch 0, and takes so many
pub record Goes (w z : machine.World) (x : ℕ) (ls : List machine_letters.Letter) (took : ℕ) : Type 0 where
  pub refused : z.channels.refused ≡ w.channels.refused
  pub sent : z.channels.sent x 0 ≡ w.channels.sent x 0 ++ ls
  pub taken : z.channels.taken x 0 ≡ w.channels.taken x 0 + took
  pub others_sent : (y e : ℕ) → (y ≡ x → e ≡ 0 → ⊥) → z.channels.sent y e ≡ w.channels.sent y e
  pub others_taken : (y e : ℕ) → (y ≡ x → e ≡ 0 → ⊥) → z.channels.taken y e ≡ w.channels.taken y e

pub goes_so : (w z : machine.World) (x e : ℕ) (ls : List machine_letters.Letter) (took : ℕ) → e ≡ 0 → GoesOn w z x e ls took
    → Goes w z x ls took
goes_so w z x e ls took first g =
    let f : GoesOn w z x 0 ls took = subst (λ y. GoesOn w z x y ls took) first g in
    record { refused = f.refused; sent = f.sent; taken = f.taken; others_sent = f.others_sent; others_taken = f.others_taken }

pub goes_none : (w z : machine.World) (x : ℕ) → z.channels ≡ w.channels → Goes w z x [] 0
goes_none w z x same = record {
  refused = ap (λ (c : Channels). c.refused) same;
  sent = ap (λ (c : Channels). c.sent x 0) same ∙ sym (append-nil (w.channels.sent x 0));
  taken = ap (λ (c : Channels). c.taken x 0) same ∙ omega arith;
  others_sent = λ y e other. ap (λ (c : Channels). c.sent y e) same;
  others_taken = λ y e other. ap (λ (c : Channels). c.taken y e) same;
}

pub goes_more : (w u z : machine.World) (x : ℕ) (ls ms : List machine_letters.Letter) (a b : ℕ) → Goes w u x ls a → Goes u z x ms b
    → Goes w z x (ls ++ ms) (a + b)
goes_more w u z x ls ms a b p q = record {
  refused = q.refused ∙ p.refused;
  sent = q.sent ∙ (ap (λ s. s ++ ms) p.sent ∙ append_assoc (w.channels.sent x 0) ls ms);
  taken = (let one = p.taken in let two = q.taken in omega (arith, one, two));
  others_sent = λ y e other. q.others_sent y e other ∙ p.others_sent y e other;
  others_taken = λ y e other. q.others_taken y e other ∙ p.others_taken y e other;
}

-- of all tunnels the same is known, but for the state of this one, its other end, and its record
pub record Settled (w : machine.World) (t : Tunnels) (x : ℕ) : Type 0 where
  pub drawn : (y : ℕ) → t.drawn y ≡ w.tunnels.drawn y
  pub ups : (y : ℕ) → t.up y ≡ w.tunnels.up y
  pub node : (y : ℕ) → t.node y ≡ w.tunnels.node y
  pub peer : (y : ℕ) → t.peer y ≡ w.tunnels.peer y
  pub opener : (y : ℕ) → t.opener y ≡ w.tunnels.opener y
  pub phase : (y : ℕ) → (y ≡ x → ⊥) → t.phase y ≡ w.tunnels.phase y
  pub learned : (y : ℕ) → (y ≡ x → ⊥) → t.learned y ≡ w.tunnels.learned y
  pub booked : (y : ℕ) → (y ≡ x → ⊥) → t.booked y ≡ w.tunnels.booked y
  pub entered : (y : ℕ) → t.entered y ≡ w.tunnels.entered y
  pub entered_by : (y e : ℕ) → t.entered_by y e ≡ w.tunnels.entered_by y e
  pub epochs : (y : ℕ) → t.epochs y ≡ w.tunnels.epochs y
  pub attempts : (y : ℕ) → t.attempts y ≡ w.tunnels.attempts y
  pub answers : (y : ℕ) → t.answers y ≡ w.tunnels.answers y
  pub answered : (y : ℕ) → t.answered y ≡ w.tunnels.answered y
  pub makes_it : (y : ℕ) → t.makes y ≡ w.tunnels.makes y
  pub confirmed : (y : ℕ) → t.confirmed y ≡ w.tunnels.confirmed y
  pub giver_first : (y : ℕ) → t.giver_first y ≡ w.tunnels.giver_first y
  pub other_first : (y : ℕ) → t.other_first y ≡ w.tunnels.other_first y

-- ---- a tunnel that waits

-- it is of epoch 0, an opener or an acceptor, and open
pub record Waits (h : History) (n i : ℕ) (t : Tunnel) : Type 0 where
  pub is_open : (h.accounts n i 0).closed ≡ None
  pub opener : state_number t.control.state ≡ 1 → ((h.accounts n i 0).part ≡ Opener) × ((h.accounts n i 0).remote ≡ 0)
  pub acceptor : state_number t.control.state ≡ 2 → (h.accounts n i 0).part ≡ Acceptor

module _ (w : World) (h : History) (n : ℕ) (node : Node) (sender : Option Sender) (moment : ℕ) (ev : Event) (m : Move) (x : End) (d : Deed)
    (k : Kept) (j : machine.World) (q : steps.IsMade w h n node sender moment ev m x d k j) (t : Tunnel)
    (at_t : at node.end.tunnels (about m) ≡ Some t) (current : is_current (mode_of t.recovery) ≡ true)
    (early : state_number t.control.state < 3) where
  abbrev e : ℕ
  e = epoch_of w n (about m)

  abbrev a : Account
  a = h.accounts n (about m) (epoch_of w n (about m))

  channel : ChannelOk h.accounts n (about m) e a t
  channel = made.channel_ok w h n node sender moment ev m x d k j q (about m) t at_t current

  not_shut : IsShut a t → ⊥
  not_shut shut = let four = shut.0 in omega (arith, four, early)

  by_part : (p : Part) → a.part ≡ p → IsInState h.accounts (about m) e a t p
      → (e ≡ 0) × (a.closed ≡ None) × (state_number t.control.state ≡ 1 → (a.part ≡ Opener) × (a.remote ≡ 0))
      × (state_number t.control.state ≡ 2 → a.part ≡ Acceptor)
  by_part Unmade own s = absurd s
  by_part Opener own s = ⊎_elim
      (λ (y : (state_number t.control.state ≡ 1) × (a.remote ≡ 0) × IsOpen a × AllWait t.calls). (
        (opener_of w h n (about m) e a (q.moved.holds.accounts n (about m) e) own).0,
        y.2,
        λ one. (own, y.1),
        λ two.
            let one = y.0 in absurd (omega (arith, one, two)),
      ))
      (λ y. absurd (⊎_elim
      (λ (f : (state_number t.control.state ≡ 3) × (a.remote ≡ 0 → ⊥) × IsOpen a). let three = f.0 in let no : ⊥ = omega
      (arith, three, early) in no)
      not_shut y))
      s
  by_part Acceptor own s = ⊎_elim
      (λ (y : (state_number t.control.state ≡ 2) × (t.calls ≡ []) × IsOpen a). (
        (acceptor_of w h n (about m) e a (q.moved.holds.accounts n (about m) e) own).0,
        y.2,
        λ one.
            (let two = y.0 in absurd (omega (arith, one, two))),
        λ two. own,
      ))
      (λ y. absurd (⊎_elim
      (λ (f : (state_number t.control.state ≡ 3) × ((partner_in h.accounts 0 a).remote ≡ about m) × IsOpen a).
      let three = f.0 in let no : ⊥ = omega (arith, three, early) in no)
      not_shut y))
      s
  by_part Renewed own s = absurd (⊎_elim
      (λ (f : (state_number t.control.state ≡ 3) × IsOpen a). let three = f.0 in let no : ⊥ = omega (arith, three, early) in no)
      not_shut s)

  all : (e ≡ 0) × (a.closed ≡ None) × (state_number t.control.state ≡ 1 → (a.part ≡ Opener) × (a.remote ≡ 0))
      × (state_number t.control.state ≡ 2 → a.part ≡ Acceptor)
  all = by_part a.part refl channel.state

  pub waits_first : epoch_of w n (about m) ≡ 0
  waits_first = all.0

  pub waits : Waits h n (about m) t
  waits = subst
      (λ y. ((h.accounts n (about m) y).closed ≡ None)
      × (state_number t.control.state ≡ 1 → ((h.accounts n (about m) y).part ≡ Opener) × ((h.accounts n (about m) y).remote ≡ 0))
      × (state_number t.control.state ≡ 2 → (h.accounts n (about m) y).part ≡ Acceptor) → Waits h n (about m) t)
      (sym waits_first) (λ f. record { is_open = f.0; opener = f.1; acceptor = f.2 }) (all.1, all.2, all.3)

-- ---- a tunnel of epoch 0

module _ (w : World) (h : History) (n : ℕ) (node : Node) (sender : Option Sender) (moment : ℕ) (ev : Event) (m : Move) (x : End)
    (d : Deed) (k : Kept) (j : machine.World) (q : steps.IsMade w h n node sender moment ev m x d k j)
    (first : epoch_of w n (about m) ≡ 0) where
  pub waits_later : (f : ℕ) → (f ≡ 0 → ⊥) → h.accounts n (about m) f ≡ no_account
  waits_later f other = deeds.not_entered w h q.moved.holds n (about m) f (omega (arith, first, other))

  -- ---- the history behind the move

  module _ (same : moves_on w n node m x ≡ with_end w n node x) (plain : IsPlain d m) (new : Account)
      (becomes : entered_by d m (h.accounts n (about m) 0) ≡ new) where
    epoch : d.epoch ≡ 0
    epoch = made.epoch_is w h n node sender moment ev m x d k j q same ∙ first

    becomes_it : entered_by d d.move (h.accounts n (about m) 0) ≡ new
    becomes_it = ap (λ y. entered_by d y (h.accounts n (about m) 0)) q.moved.deed.move_is ∙ becomes

    pub settled_is : (after h d).accounts n (about m) 0 ≡ new
    settled_is = deeds.here h d n (about m) 0 new q.moved.deed.node_is (ap about q.moved.deed.move_is) epoch becomes_it
        (λ p i. ap (λ y. declines_of y p i) q.moved.deed.move_is ∙ plain.declines p i)
        (λ p c o. ap (λ y. attempts_by d y p c o) q.moved.deed.move_is ∙ plain.attempts p c o)
        (λ p c o. ap (λ y. answers_by d y p c o) q.moved.deed.move_is ∙ plain.answers p c o)

    pub settled_others : (p i f : ℕ) → ((p ≡ n) × (i ≡ about m) × (f ≡ 0) → ⊥) → (after h d).accounts p i f ≡ h.accounts p i f
    settled_others = deeds.others h d n (about m) 0 new q.moved.deed.node_is (ap about q.moved.deed.move_is) epoch becomes_it
        (λ p i. ap (λ y. declines_of y p i) q.moved.deed.move_is ∙ plain.declines p i)
        (λ p c o. ap (λ y. attempts_by d y p c o) q.moved.deed.move_is ∙ plain.attempts p c o)
        (λ p c o. ap (λ y. answers_by d y p c o) q.moved.deed.move_is ∙ plain.answers p c o)

    pub settled_attempts : (p c : ℕ) → (after h d).attempts p c ≡ h.attempts p c
    settled_attempts p c = ap (λ y. attempts_by d y p c (h.attempts p c)) q.moved.deed.move_is ∙ plain.attempts p c (h.attempts p c)

    pub settled_answers : (p c : ℕ) → (after h d).answers p c ≡ h.answers p c
    settled_answers p c = ap (λ y. answers_by d y p c (h.answers p c)) q.moved.deed.move_is ∙ plain.answers p c (h.answers p c)

    pub settled_ok : AccountOk (moves_on w n node m x) (after h d) n (about m) 0 new
    settled_ok = subst (AccountOk (moves_on w n node m x) (after h d) n (about m) 0) settled_is (q.later.accounts n (about m) 0)

    -- the tunnel behind it, as what holds there says
    module _ (r : Tunnel) (at_r : at x.tunnels (about m) ≡ Some r) where
      there : at (moves_on w n node m x).nodes n ≡ Some (record node { end = x })
      there = ap (λ (v : World). at v.nodes n) same ∙ at_new w.nodes n (record node { end = x })

      live_later : LiveOk (moves_on w n node m x) (after h d) n (about m) r
      live_later =
          let ok : EndOk (moves_on w n node m x) (after h d) n x × BookOk (after h d) n node.checkpoint.book =
          subst (NodeOk (moves_on w n node m x) (after h d) n) there (q.later.nodes n) in
          ok.0.live (about m) r at_r

      first_later : epoch_of (moves_on w n node m x) n (about m) ≡ 0
      first_later =
          ap (λ v. epoch_of v n (about m)) same
          ∙ (ap (λ (s : Standing). s.epoch) (end_standings w n node q.moved.there x n (about m)) ∙ first)

      pub settled_channel : is_current (mode_of r.recovery) ≡ true → ChannelOk (after h d).accounts n (about m) 0 new r
      settled_channel cur =
          subst (λ c. ChannelOk (after h d).accounts n (about m) 0 c r) settled_is
          (subst (λ f. ChannelOk (after h d).accounts n (about m) f ((after h d).accounts n (about m) f) r) first_later
          (live_later.channel cur))

-- ---- what such a move does

pub record Settles (ev : Event) (w : World) (h : History) (n : ℕ) (node : Node) (m : Move) (x : End) (d : Deed) (b : Kept)
    (j z : machine.World) (t r : Tunnel) (new : Account) (ls : List Letter) (says : List machine_letters.Letter) (took : ℕ) : Type 0 where
  pub same : moves_on w n node m x ≡ with_end w n node x
  pub plain : IsPlain d m
  -- the tunnel before and behind it
  pub at_t : at node.end.tunnels (about m) ≡ Some t
  pub current : is_current (mode_of t.recovery) ≡ true
  pub first : epoch_of w n (about m) ≡ 0
  pub at_r : at x.tunnels (about m) ≡ Some r
  pub recovery : r.recovery ≡ t.recovery
  pub others : (i : ℕ) → (i ≡ about m → ⊥) → at x.tunnels i ≡ at node.end.tunnels i
  -- its account
  pub becomes : entered_by d m (h.accounts n (about m) 0) ≡ new
  pub part : new.part ≡ (h.accounts n (about m) 0).part
  pub to : new.peer ≡ (h.accounts n (about m) 0).peer
  pub answer : new.answer ≡ (h.accounts n (about m) 0).answer
  pub declined : new.declined ≡ (h.accounts n (about m) 0).declined
  pub given : new.given ≡ (h.accounts n (about m) 0).given ++ ls
  pub remote : (h.accounts n (about m) 0).part ≡ Acceptor → new.remote ≡ (h.accounts n (about m) 0).remote
  -- the machine's tunnel
  pub settled : Settled j z.tunnels (name n (about m))
  pub goes : Goes j z (name n (about m)) says took
  pub learned : z.tunnels.learned (name n (about m)) ≡ learned_name new
  pub phase : z.tunnels.phase (name n (about m)) ≡ phase_of r.control.state
  pub booked : z.tunnels.booked (name n (about m)) ≡ is_open r.control.state
  pub sent : z.channels.sent (name n (about m)) 0 ≡ letters_in n new.peer (questions_in new.taken) new.given
  pub taken : z.channels.taken (name n (about m)) 0 ≡ weigh (take (heeded new) (partner_in (after h d).accounts 0 new).given)
  -- calls, and what is asked for
  pub calls : CallsJoined z (after h d) n (left node x b)
  pub calls_stay : (p s : ℕ) → (p ≡ n → ⊥) → p < 256 → s < 65536 → CallStays j z (name p s)
  pub births : (z.calls.births ≡ j.calls.births) × ((y : ℕ) → z.calls.birth y ≡ j.calls.birth y)
  pub queries : QueriesJoined (behind w n node x b) (after h d) z
  pub named : CallsAreNamed z
  pub went : Went ev n j z

module _ (stay : TakenStay) (w : World) (h : History) (n : ℕ) (node : Node) (sender : Option Sender) (moment : ℕ) (ev : Event)
    (m : Move) (x : End)
    (d : Deed) (k : Kept) (j : machine.World) (q : steps.IsMade w h n node sender moment ev m x d k j) (b : Kept) (mirrors : Mirrors x b)
    (z : machine.World) (t r : Tunnel) (new : Account) (ls : List Letter) (says : List machine_letters.Letter) (took : ℕ)
    (s : Settles ev w h n node m x d b j z t r new ls says took) where
  abbrev i : ℕ
  i = about m

  abbrev X : ℕ
  X = name n (about m)

  abbrev g : History
  g = after h d

  abbrev u : World
  u = behind w n node x b

  fits : i < 65536
  fits = made.id_fits w h n node sender moment ev m x d k j q i t s.at_t

  told : TunnelJoined j (with_book w n k) h n i (Some t) (tunnel_at k i)
  told = made.told w h n node sender moment ev m x d k j q i t s.at_t

  live_made : IsMade (h.accounts n i 0)
  live_made = (made.live_ok w h n node sender moment ev m x d k j q i t s.at_t).made

  now : g.accounts n i 0 ≡ new
  now = settled_is w h n node sender moment ev m x d k j q s.first s.same s.plain new s.becomes

  others_in : (p f e : ℕ) → ((p ≡ n) × (f ≡ i) × (e ≡ 0) → ⊥) → g.accounts p f e ≡ h.accounts p f e
  others_in = settled_others w h n node sender moment ev m x d k j q s.first s.same s.plain new s.becomes

  others_on : (p f e : ℕ) → ((p ≡ n) × (f ≡ i) → ⊥) → g.accounts p f e ≡ h.accounts p f e
  others_on p f e apart = others_in p f e (λ c. apart (c.0, c.1))

  was_none : (f : ℕ) → (f ≡ 0 → ⊥) → h.accounts n i f ≡ no_account
  was_none = waits_later w h n node sender moment ev m x d k j q s.first

  is_none : (f : ℕ) → (f ≡ 0 → ⊥) → g.accounts n i f ≡ no_account
  is_none f other = others_in n i f (λ c. other c.2) ∙ was_none f other

  attempts : (p c : ℕ) → g.attempts p c ≡ h.attempts p c
  attempts = settled_attempts w h n node sender moment ev m x d k j q s.first s.same s.plain new s.becomes

  answers : (p c : ℕ) → g.answers p c ≡ h.answers p c
  answers = settled_answers w h n node sender moment ev m x d k j q s.first s.same s.plain new s.becomes

  part_now : (g.accounts n i 0).part ≡ (h.accounts n i 0).part
  part_now = ap (λ (a : Account). a.part) now ∙ s.part

  answer_here : (e : ℕ) → (g.accounts n i e).answer ≡ (h.accounts n i e).answer
  answer_here e = ⊎_elim
      (λ (first : e ≡ 0). rw first (ap (λ (a : Account). a.answer) now ∙ s.answer))
      (λ other. ap (λ (a : Account). a.answer) (is_none e other ∙ sym (was_none e other)))
      (same_or_not e 0)

  answer_as : (p f e : ℕ) → (g.accounts p f e).answer ≡ (h.accounts p f e).answer
  answer_as p f e = ⊎_elim
      (λ (c : (p ≡ n) × (f ≡ i)). rw (c.0, c.1) (answer_here e))
      (λ apart. ap (λ (a : Account). a.answer) (others_on p f e apart))
      (this_or_not p f n i)

  grown : (e : ℕ) → Grown (h.accounts n i e) (g.accounts n i e)
  grown e = ⊎_elim
      (λ (first : e ≡ 0). subst (λ y. Grown (h.accounts n i y) (g.accounts n i y)) (sym first) (record {
        given = (ls, ap (λ (a : Account). a.given) now ∙ s.given);
        acceptor = λ accepts. (
          part_now ∙ accepts,
          ap (λ (a : Account). a.peer) now ∙ s.to,
          ap (λ (a : Account). a.remote) now ∙ s.remote accepts,
        );
      }))
      (λ other.
      let same : g.accounts n i e ≡ h.accounts n i e = is_none e other ∙ sym (was_none e other) in
      record {
        given = ([], ap (λ (a : Account). a.given) same ∙ sym (append-nil (h.accounts n i e).given));
        acceptor = λ accepts. (
          ap (λ (a : Account). a.part) same ∙ accepts,
          ap (λ (a : Account). a.peer) same,
          ap (λ (a : Account). a.remote) same,
        );
      })
      (same_or_not e 0)

  here : TunnelJoined z u g n i (Some r) (tunnel_at b i)
  here = record {
    opener = s.settled.opener X ∙ (told.opener ∙ ap is_opener (sym part_now));
    node = λ made. s.settled.node X ∙ told.node live_made;
    peer = λ made. s.settled.peer X ∙ (told.peer live_made ∙ sym (ap (λ (a : Account). a.peer) now ∙ s.to));
    learned = ByLetter (s.learned ∙ ap learned_name (sym now));
    phase = s.phase ∙ sym (current_phase n r r.recovery (ap (λ o. is_current (mode_of o)) s.recovery ∙ s.current));
    booked = s.booked ∙ sym (ap (λ o. is_some o) (mirrors.tunnels i ∙ ap (tunnel_record i) s.at_r) ∙ is_booked i r);
    entered = s.settled.entered X ∙ (told.entered ∙ sym (ap (λ (y : Standing). y.epoch) (standings w n node q.moved.there x k b n i)));
    epochs = s.settled.epochs X ∙ (told.epochs ∙ sym (ap (λ (y : Standing). y.made) (standings w n node q.moved.there x k b n i)));
    entered_by = λ e. s.settled.entered_by X e ∙ (told.entered_by e ∙ ap answer_name (sym (answer_here e)));
    sent = λ e. ⊎_elim
        (λ (first : e ≡ 0).
        rw first (s.sent ∙ ap (λ (a : Account). letters_in n a.peer (questions_in a.taken) a.given) (sym now)))
        (λ other.
        s.goes.others_sent X e (λ own first. other first)
        ∙ (told.sent e ∙ ap (λ (a : Account). letters_in n a.peer (questions_in a.taken) a.given) (was_none e other ∙ sym
        (is_none e other))))
        (same_or_not e 0);
    taken = λ e. ⊎_elim
        (λ (first : e ≡ 0).
        rw first (s.taken ∙ ap (λ (a : Account). weigh (take (heeded a) (partner_in g.accounts 0 a).given)) (sym now)))
        (λ other.
        s.goes.others_taken X e (λ own first. other first)
        ∙ (told.taken e ∙ (unmade_weighs h (h.accounts n i e) e (was_none e other) ∙ sym (unmade_weighs g (g.accounts n i e) e
        (is_none e other)))))
        (same_or_not e 0);
    refused = ap (λ f. f X) s.goes.refused ∙ (told.refused ∙ sym (ap (λ (a : Account). a.declined) now ∙ s.declined));
  }

  drawn_then : (p c : ℕ) → p < 256 → c < 65536 → z.tunnels.drawn (name p c) ≡ is_used g p c
  drawn_then p c pfits cfits =
      s.settled.drawn (name p c)
      ∙ (q.joined.joined.drawn p c pfits cfits
      ∙ sym (ap (λ y. is_made y || (is_some (g.attempts p c) || is_some (g.answers p c))) part_as
      ∙ (ap (λ o. is_made (h.accounts p c 0).part || (is_some o || is_some (g.answers p c))) (attempts p c)
      ∙ ap (λ o. is_made (h.accounts p c 0).part || (is_some (h.attempts p c) || is_some o)) (answers p c))))
    where
      part_as : (g.accounts p c 0).part ≡ (h.accounts p c 0).part
      part_as = ⊎_elim
          (λ (both : (p ≡ n) × (c ≡ i)). rw (both.0, both.1) part_now)
          (λ apart. ap (λ (a : Account). a.part) (others_on p c 0 apart))
          (this_or_not p c n i)

  stays : (y : ℕ) → (y ≡ X → ⊥) → NameStays j z y
  stays y other = record {
    opener = s.settled.opener y;
    node = s.settled.node y;
    peer = s.settled.peer y;
    learned = s.settled.learned y other;
    phase = s.settled.phase y other;
    booked = s.settled.booked y other;
    entered = s.settled.entered y;
    entered_by = s.settled.entered_by y;
    sent = λ e. s.goes.others_sent y e (λ own. absurd (other own));
    taken = λ e. s.goes.others_taken y e (λ own. absurd (other own));
    refused = ap (λ f. f y) s.goes.refused;
  }

  rest : RestStays j z
  rest = record {
    epochs = s.settled.epochs;
    attempts = s.settled.attempts;
    answers = s.settled.answers;
    answered = s.settled.answered;
    makes_it = s.settled.makes_it;
    confirmed = s.settled.confirmed;
    giver_first = s.settled.giver_first;
    other_first = s.settled.other_first;
    ups = s.settled.ups;
  }

  changes : Changes w h g n node x k b j z i
  changes = record {
    node_fits = made.node_fits w h n node sender moment ev m x d k j q;
    id_fits = fits;
    there = q.moved.there;
    old = q.mirrors;
    new = mirrors;
    nodes = q.nodes;
    within = made.within w h n node sender moment ev m x d k j q;
    others = s.others;
    accounts = others_on;
    grown = grown;
    history = record { attempts = attempts; answers = answers; answer = answer_as };
    rest = rest;
    drawn = drawn_then;
    stays = stays;
    here = subst (λ o. TunnelJoined z u g n i o (tunnel_at b i)) (sym s.at_r) here;
    calls = s.calls;
    calls_stay = s.calls_stay;
    births = s.births;
  }

  pub settles_follow : Follows ev (with_book (moves_on w n node m x) n b) (after h d) n j
  settles_follow = follows ev w h n node m x d k b j z s.same s.went
      (λ js goes.
      one_joined stay (with_book w n k) u h g j z n i (booked node k) (left node x b) q.joined.joined
      (changes_one w h g n node x k b j z i changes q.joined.joined) js goes)
      s.queries s.named
