-- What the channels need to know of epochs follows from the machine's laws, where the world is joined with the machine.
use Rattle.std.proofs.Common.{◌≡◌, ◌⊎◌, inl, inr, ⊎_elim, ℕ, ◌<◌, ◌≤◌, Bool, true, false, List, [], refl, sym, ap, ap₂, ◌∙◌, subst, Option, Some, None, arith}
use Rattle.std.proofs.lemmas.Bool.{true≢false, eqb-true, cases_Bool}
use Rattle.std.proofs.lemmas.Option.{none-some}
use Rattle.std.specs.Prelude.{◌≢◌, ◌==◌, ◌&&◌, not, is_some, is_none, if◌then◌else◌}
use Rattle.id_table.specs.Ids.{at, at-none}
use Rattle.tunnel_fsm.specs.declared.table.TunnelState.{TunnelState}
use Rattle.tunnel_fsm.specs.declared.table.TunnelState.TheVariants as tunnel
use Rattle.tunnel_fsm.specs.Rows.{state_number}
use Rattle.recovery_tunnel.specs.Connections.{ControlConnection, is_waiting}
use Rattle.recovery_tunnel.specs.Answers.{Answering}
use Rattle.end_names.specs.Names.{node_of}
use Rattle.end_model.specs.declared.moves.Froze.{Froze}
use Rattle.end_model.specs.End.{End}
use Rattle.end_model.specs.Tunnels.{Tunnel, Recovering, ByAttempt, ByAnswer, mode_of, is_current, is_finished}
use Rattle.world_model.specs.World.{World, epoch_of}
use Rattle.epoch_machine.specs.Worlds as machine
use Rattle.epoch_machine.specs.Tunnels.{Attempts, Answers, Linked}
use Rattle.epoch_laws.specs.Epochs.{EpochsHold}
use Rattle.epoch_laws.specs.Answers.{AnswersHold, AnswersOfRuns}
use Rattle.epoch_machine.specs.Moves.{Move, goes_on}
use Rattle.session_laws.specs.Names.{name, name_of, phase_of}
use Rattle.channel_laws.specs.Accounts.{Part, Unmade, Opener, Acceptor, Renewed, Account, History}
use Rattle.connection_laws.specs.Facts.{AllWait}
use Rattle.channel_laws.specs.Facts.{Accounts, IsMade, IsOpen, IsShut, IsInState, AreLinked, makes, AnswerOk, IsRecovered, LiveOk, EndOk, BookOk, NodeOk, NodesHold, Holds, partner_in}
use Rattle.channel_laws.specs.Epochs.{IsLive, OfOneLink, EpochsKnown}
use Rattle.channel_laws.specs.Heard.{NoneIsOfAnother}
use Rattle.epoch_machine.specs.Worlds.{Rules, all_rules}
use Rattle.epoch_laws.proofs.Steps.{holds_after}
use Rattle.recovery_laws.specs.Epochs.{ClosedOfRuns, JoinedWorldsKnow, LettersOfJoined}
use Rattle.recovery_laws.proofs.Closed.{closed_after}
use Rattle.recovery_laws.specs.Joined.{is_early, phase_by, phase_in, LearnedSo, ByLetter, ByRecord, TunnelJoined, AnswerIs, AnswerJoined, live_in, kept_in, AreJoined, ClosedHold}

-- ---- names

pub some_name : (n i : ℕ) → 0 < i → name n i ≢ 0
unfolding name
some_name n i lt z = let no : ⊥ = omega (arith, z, lt) in no

pub same_name : (n i m j : ℕ) → i < 65536 → j < 65536 → name n i ≡ name m j → (n ≡ m) × (i ≡ j)
unfolding name
same_name n i m j lt less is = (omega (arith, lt, less, is), omega (arith, lt, less, is))

-- where the id is known so is the name
pub known_name : (n i : ℕ) → 0 < i → name_of n i ≡ name n i
known_name n i lt = by (i == 0) refl
  where
    by : (b : Bool) → (i == 0) ≡ b → (if b then 0 else name n i) ≡ name n i
    by true is = let z = eqb-true i 0 is in absurd (omega (arith, z, lt))
    by false is = refl

not_early : (p : Part) (closed : Option ℕ) → (closed ≡ Some 0 → ⊥) → is_early p closed ≡ false
not_early Opener None late = refl
not_early Opener (Some count) late = by (count == 0) refl
  where
    by : (b : Bool) → (count == 0) ≡ b → b ≡ false
    by true is = absurd (late (ap (λ k. Some k) (eqb-true count 0 is)))
    by false is = refl
not_early Unmade closed late = refl
not_early Acceptor closed late = refl
not_early Renewed closed late = refl

-- the other end that a tunnel has learned
pub learned_so : (accs : Accounts) (n i k j learned : ℕ) → LearnedSo accs n i learned → (accs n i 0).peer ≡ k → (accs n i 0).remote ≡ j
    → 0 < j
    → ((accs n i 0).closed ≡ Some 0 → ⊥) → learned ≡ name k j
learned_so accs n i k j learned (ByLetter is) peer remote lt late =
    is
    ∙ (ap (λ b. if b then 0 else name_of (accs n i 0).peer (accs n i 0).remote) (not_early (accs n i 0).part (accs n i 0).closed late)
    ∙ (ap₂ (λ x y. name_of x y) peer remote ∙ known_name k j lt))
learned_so accs n i k j learned (ByRecord u part none some is other back own) peer remote lt late = absurd (omega (arith, none, remote, lt))

-- ---- modes

-- a tunnel that is neither frozen nor restored is in the state of its table
pub current_phase : (n : ℕ) (t : Tunnel) (r : Option Recovering) → is_current (mode_of r) ≡ true → phase_by n t r ≡ phase_of t.control.state
current_phase n t None current = refl
current_phase n t (Some (ByAttempt c)) current = by (is_finished (ByAttempt c)) refl
  where
    by : (b : Bool) → is_finished (ByAttempt c) ≡ b → (if b then phase_of t.control.state else Attempts (name n c.local)) ≡ phase_of t.control.state
    by true is = refl
    by false is = let no : false ≡ true = rw is at current in absurd cc
current_phase n t (Some (ByAnswer a)) current = by (is_finished (ByAnswer a)) refl
  where
    by : (b : Bool) → is_finished (ByAnswer a) ≡ b → (if b then phase_of t.control.state else Answers (name n a.connection.local)) ≡ phase_of t.control.state
    by true is = refl
    by false is = let no : false ≡ true = rw is at current in absurd cc

not_reset : (c : ControlConnection) → is_waiting c ≡ true → is_some c.reset ≡ false
not_reset c h = by c.reset h
  where
    by : (o : Option ℕ) → is_none o && not c.closed ≡ true → is_some o ≡ false
    by None h = refl
    by (Some x) h = absurd (true≢false (sym h))

-- ---- states

-- a tunnel that is neither frozen nor restored isn't idle
not_idle : (accs : Accounts) (i e : ℕ) (a : Account) (t : Tunnel) (p : Part) → IsInState accs i e a t p → 1 ≤ state_number t.control.state
not_idle accs i e a t Unmade s = absurd s
not_idle accs i e a t Opener s = ⊎_elim
    (λ (q : (state_number t.control.state ≡ 1) × (a.remote ≡ 0) × IsOpen a × AllWait t.calls). let one = q.0 in omega (arith, one))
    (λ k. ⊎_elim
    (λ (q : (state_number t.control.state ≡ 3) × (a.remote ≡ 0 → ⊥) × IsOpen a). let three = q.0 in omega (arith, three))
    (λ (q : IsShut a t). let four = q.0 in omega (arith, four)) k)
    s
not_idle accs i e a t Acceptor s = ⊎_elim
    (λ (q : (state_number t.control.state ≡ 2) × (t.calls ≡ []) × IsOpen a). let two = q.0 in omega (arith, two))
    (λ k. ⊎_elim
    (λ (q : (state_number t.control.state ≡ 3) × ((partner_in accs 0 a).remote ≡ i) × IsOpen a). let three = q.0 in omega (arith, three))
    (λ (q : IsShut a t). let four = q.0 in omega (arith, four)) k)
    s
not_idle accs i e a t Renewed s = ⊎_elim
    (λ (q : (state_number t.control.state ≡ 3) × IsOpen a). let three = q.0 in omega (arith, three))
    (λ (q : IsShut a t). let four = q.0 in omega (arith, four))
    s

module _ (w : World) (h : History) (holds : Holds w h) (m : machine.World) (joined : AreJoined w h m) (epochs : EpochsHold m.tunnels)
    (closed : ClosedHold m.tunnels) (answers : AnswersHold m.tunnels) where
  -- a tunnel that was made has a node and an id of so many bits
  module _ (n i : ℕ) (made : IsMade (h.accounts n i 0)) where
    node_fits : n < 256
    node_fits = (holds.accounts n i 0).node made

    id_fits : i < 65536
    id_fits = (holds.accounts n i 0).id made

    tunnel_joined : TunnelJoined m w h n i (live_in (at w.nodes n) i) (kept_in (at w.nodes n) i)
    tunnel_joined = joined.tunnels n i node_fits id_fits

  made_from : (n i k j : ℕ) → AreLinked h.accounts n i k j → IsMade (h.accounts n i 0)
  made_from n i k j l none = ⊎_elim (λ p. let two = sym p.0 ∙ none in absurd cc) (λ p. let two = sym p.0 ∙ none in absurd cc) l.parts

  made_to : (n i k j : ℕ) → AreLinked h.accounts n i k j → IsMade (h.accounts k j 0)
  made_to n i k j l none = ⊎_elim (λ p. let two = sym p.1 ∙ none in absurd cc) (λ p. let two = sym p.1 ∙ none in absurd cc) l.parts

  -- the ends of a link are linked in the machine
  linked : (n i k j : ℕ) → AreLinked h.accounts n i k j → Linked m.tunnels.learned (name n i) (name k j)
  linked n i k j l = record {
    forth = learned_so h.accounts n i k j _ (tunnel_joined n i (made_from n i k j l)).learned l.forth_peer l.forth l.to_some l.from_late;
    back = learned_so h.accounts k j n i _ (tunnel_joined k j (made_to n i k j l)).learned l.back_peer l.back l.from_some l.to_late;
    from_name = some_name n i l.from_some;
    to_name = some_name k j l.to_some;
  }

  entered_is : (n i : ℕ) → IsMade (h.accounts n i 0) → m.tunnels.entered (name n i) ≡ epoch_of w n i
  entered_is n i made = (tunnel_joined n i made).entered

  -- ---- live tunnels

  module _ (n i : ℕ) (t : Tunnel) (is : IsLive w n i t) where
    live_ok : LiveOk w h n i t
    live_ok =
        let k : EndOk w h n is.node.end × BookOk h n is.node.checkpoint.book = subst (NodeOk w h n) is.is (holds.nodes n) in
        k.0.live i t is.there

    live_is : live_in (at w.nodes n) i ≡ Some t
    live_is = ap (λ o. live_in o i) is.is ∙ is.there

    phase_is : m.tunnels.phase (name n i) ≡ phase_by n t t.recovery
    phase_is = (tunnel_joined n i live_ok.made).phase ∙ ap (phase_in n) live_is

    above_by : (k j : ℕ) → AreLinked h.accounts n i k j → (s : TunnelState) → m.tunnels.phase (name n i) ≡ phase_of s → (s ≡ tunnel.Idle → ⊥)
        → m.tunnels.entered (name k j) ≤ m.tunnels.entered (name n i)
    above_by k j l tunnel.Idle phase busy = absurd (busy refl)
    above_by k j l tunnel.WaitCtlReply phase busy =
        let both = linked n i k j l in
        let none = (epochs.waits_reply (name n i) phase).1 in
        absurd (both.to_name (sym both.forth ∙ none))
    above_by k j l tunnel.WaitCtlConn phase busy =
        let both = linked n i k j l in
        let zero = (epochs.waits_connect (name n i) phase).1 in
        let same = epochs.same_epochs (name n i) (name k j) both in
        let most = epochs.entered_made (name k j) in
        omega (arith, zero, same, most)
    above_by k j l tunnel.Established phase busy = epochs.open_above (name n i) (name k j) phase (linked n i k j l)
    above_by k j l tunnel.Closed phase busy = closed.above (name n i) (name k j) phase (linked n i k j l)

    above : (k j : ℕ) → is_current (mode_of t.recovery) ≡ true → (t.control.state ≡ tunnel.Idle → ⊥) → AreLinked h.accounts n i k j → epoch_of w k j ≤ epoch_of w n i
    above k j current busy l =
        let le = above_by k j l t.control.state (phase_is ∙ current_phase n t t.recovery current) busy in
        let here = entered_is n i live_ok.made in
        let there = entered_is k j (made_to n i k j l) in
        omega (arith, le, here, there)

    attempted : (c : ControlConnection) → t.recovery ≡ Some (ByAttempt c) → is_waiting c ≡ true → (k a : ℕ) (f : Froze) → h.answers k a ≡ Some f
        → node_of f.peer ≡ n → f.attempt ≡ c.local → (epoch_of w n i < makes w k a) × (epoch_of w k f.tunnel < makes w k a)
    attempted c has waits k a f answered back attempt =
        let ok = holds.answers k a f answered in
        let fits_node = (holds.accounts k f.tunnel 0).node (made_from k f.tunnel (node_of f.peer) f.remote ok.linked) in
        let q : AnswerIs m w h k a f = subst (AnswerJoined m w h k a) answered (joined.answers k a fits_node ok.fits) in
        let phase : m.tunnels.phase (name n i) ≡ Attempts (name n c.local) =
        phase_is ∙ (ap (λ r. phase_by n t r) has ∙ ap (λ b. if b then phase_of t.control.state else Attempts (name n c.local)) (not_reset c waits)) in
        let given : m.tunnels.answers (name k a) ≢ 0 = λ z. some_name k f.tunnel ok.linked.from_some (sym q.given ∙ z) in
        let to : m.tunnels.answered (name k a) ≡ name n c.local = q.answered ∙ ap₂ (λ x y. name x y) back attempt in
        let by = epochs.attempts_answered (name n i) (name n c.local) (name k a) phase given to in
        let own = epochs.attempts_entered (name n i) (name n c.local) phase in
        let link = epochs.established_linked (name n i) (rw phase refl) in
        let other = epochs.attempts_other (name n i) (m.tunnels.learned (name n i)) (name n c.local) phase link in
        let same : m.tunnels.learned (name n i) ≡ name k f.tunnel = sym by.0 ∙ q.given in
        let theirs = ap (λ x. m.tunnels.entered x) same in
        let less = by.1 in
        let makes_it = q.epoch in
        let here = entered_is n i live_ok.made in
        let there = entered_is k f.tunnel (made_from k f.tunnel (node_of f.peer) f.remote ok.linked) in
        (omega (arith, less, own, makes_it, here), omega (arith, less, other, theirs, makes_it, there))

    frozen : (k j : ℕ) (a : Answering) → t.recovery ≡ Some (ByAnswer a) → is_waiting a.connection ≡ true → AreLinked h.accounts n i k j
        → (epoch_of w n i < makes w n a.connection.local) × (epoch_of w k j ≤ makes w n a.connection.local)
    frozen k j a has waits l =
        let r : IsRecovered w h n i (ByAnswer a) = live_ok.recovery (ByAnswer a) has in
        let f = r.0 in
        let ok = holds.answers n a.connection.local f r.1 in
        let q : AnswerIs m w h n a.connection.local f = subst (AnswerJoined m w h n a.connection.local) r.1 (joined.answers n a.connection.local (node_fits n i live_ok.made) ok.fits) in
        let phase : m.tunnels.phase (name n i) ≡ Answers (name n a.connection.local) =
        phase_is ∙ (ap (λ q. phase_by n t q) has ∙ ap (λ b. if b then phase_of t.control.state else Answers (name n a.connection.local)) (not_reset a.connection waits)) in
        let own = epochs.answers_entered (name n i) (name n a.connection.local) phase in
        let other = epochs.answers_other (name n i) (name k j) (name n a.connection.local) phase (linked n i k j l) in
        let makes_it = q.epoch in
        let here = entered_is n i live_ok.made in
        let there = entered_is k j (made_to n i k j l) in
        (omega (arith, own, makes_it, here), omega (arith, other, makes_it, there))

  -- ---- answers

  -- an answer that was given has a node and an id of so many bits
  module _ (k a : ℕ) (f : Froze) (is : h.answers k a ≡ Some f) where
    answer_ok : AnswerOk w h k a f
    answer_ok = holds.answers k a f is

    giver_fits : k < 256
    giver_fits = (holds.accounts k f.tunnel 0).node (made_from k f.tunnel (node_of f.peer) f.remote answer_ok.linked)

    answer_is : AnswerIs m w h k a f
    answer_is = subst (AnswerJoined m w h k a) is (joined.answers k a giver_fits answer_ok.fits)

    was_given : m.tunnels.answers (name k a) ≢ 0
    was_given z = some_name k f.tunnel answer_ok.linked.from_some (sym answer_is.given ∙ z)

  one : (k a : ℕ) (f : Froze) (l b : ℕ) (g : Froze) → h.answers k a ≡ Some f → h.answers l b ≡ Some g → OfOneLink k f l g → makes w k a ≡ makes w l b
      → (k ≡ l) × (a ≡ b)
  one k a f l b g is so link same =
      let x = answer_is k a f is in
      let y = answer_is l b g so in
      let ends : (m.tunnels.answers (name k a) ≡ m.tunnels.answers (name l b)) ⊎ (m.tunnels.learned (m.tunnels.answers (name k a)) ≡ m.tunnels.answers (name l b)) = ⊎_elim
      (λ (q : (k ≡ l) × (f.tunnel ≡ g.tunnel)). inl (x.given ∙ (ap₂ (λ u v. name u v) q.0 q.1 ∙ sym y.given)))
      (λ (q : (l ≡ node_of f.peer) × (g.tunnel ≡ f.remote)).
      inr (ap m.tunnels.learned x.given ∙ ((linked k f.tunnel (node_of f.peer) f.remote (answer_ok k a f is).linked).forth
      ∙ (ap₂ (λ u v. name u v) (sym q.0) (sym q.1) ∙ sym y.given))))
      link in
      let epochs_same : m.tunnels.makes (name k a) ≡ m.tunnels.makes (name l b) = x.epoch ∙ (same ∙ sym y.epoch) in
      same_name k a l b (answer_ok k a f is).fits (answer_ok l b g so).fits (answers.once (name k a) (name l b) (was_given k a f is) (was_given l b g so) ends epochs_same)

  -- a live tunnel isn't idle
  busy : (n i : ℕ) (t : Tunnel) → IsLive w n i t → is_current (mode_of t.recovery) ≡ true → t.control.state ≡ tunnel.Idle → ⊥
  busy n i t is current idle =
      let e = epoch_of w n i in
      let some = not_idle h.accounts i e (h.accounts n i e) t (h.accounts n i e).part ((live_ok n i t is).channel current).state in
      let none = ap state_number idle in
      omega (arith, some, none)

  pub epochs_known : EpochsKnown w h
  epochs_known = record {
    above = λ n i k j t is current l. above n i t is k j current (busy n i t is current) l;
    one = one;
    attempted = λ n i t c is has waits k a f answered back attempt. attempted n i t is c has waits k a f answered back attempt;
    frozen = λ n i k j t a is has waits l. frozen n i t is k j a has waits l;
    counted = λ n i k j l.
        sym (tunnel_joined n i (made_from n i k j l)).epochs
        ∙ (epochs.same_epochs (name n i) (name k j) (linked n i k j l) ∙ (tunnel_joined k j (made_to n i k j l)).epochs);
  }

-- ---- what follows

module _ (w : World) (h : History) (holds : Holds w h) (m : machine.World) (joined : AreJoined w h m) where
  pub known_so : ((r : Rules) (ms : List Move) → AnswersHold (goes_on r machine.empty_world ms).tunnels) → EpochsKnown w h
  known_so answers =
      epochs_known w h holds m joined (subst (λ (v : machine.World). EpochsHold v.tunnels) (sym joined.run) (holds_after all_rules joined.moves))
      (subst (λ (v : machine.World). ClosedHold v.tunnels) (sym joined.run) (closed_after all_rules joined.moves))
      (subst (λ (v : machine.World). AnswersHold v.tunnels) (sym joined.run) (answers all_rules joined.moves))

pub joined_worlds_know : AnswersOfRuns → JoinedWorldsKnow
joined_worlds_know answers w h m nodes holds joined = record {
  known = known_so w h holds m joined answers.hold;
  lower = λ n i k j t l below is current. (let le = (known_so w h holds m joined answers.hold).above n i k j t is current l in let no : ⊥ = omega (arith, le, below) in no);
}

pub letters_of_joined : AnswersOfRuns → NoneIsOfAnother → LettersOfJoined
letters_of_joined answers letters w h m nodes holds joined = letters w h holds (known_so w h holds m joined answers.hold)

pub closed_of_runs : ClosedOfRuns
closed_of_runs r moves = closed_after r moves
