-- An attempt of the other end's is answered, which freezes the tunnel and makes an epoch of its link: so it does in the machine.
use Rattle.std.proofs.Common.{◌≡◌, ◌⊎◌, inl, inr, ⊎_elim, ℕ, suc, ◌<◌, ◌≤◌, Bool, true, false, [], refl, sym, ap, ap₂, ◌∙◌, subst, Option, Some, None, arith, eq-eqb}
use Rattle.std.proofs.lemmas.Bool.{true≢false, eqb-true, cases_Bool}
use Rattle.std.proofs.lemmas.Option.{none-some, same_Some}
use Rattle.std.specs.Prelude.{is_some, take, ◌==◌, ◌&&◌, ◌||◌, not, if◌then◌else◌}
use Rattle.id_table.specs.Ids.{at, put}
use Rattle.id_table.specs.Order.{Ascends, at_new, at_other, same_or_not}
use Rattle.session_book.specs.Books.{Kept, tunnel_at}
use Rattle.tunnel_fsm.specs.Rows.{state_number}
use Rattle.call_fsm.specs.declared.table.CallState.{CallState}
use Rattle.call_fsm.specs.declared.table.CallState.TheVariants as call
use Rattle.end_names.specs.declared.role.Role.{Role}
use Rattle.end_names.specs.declared.role.Role.TheVariants.{Lac, Lns}
use Rattle.end_names.specs.Names.{node_of}
use Rattle.end_model.specs.declared.event.Event.{Event}
use Rattle.end_model.specs.declared.moves.Restored.{Restored}
use Rattle.end_model.specs.declared.moves.Froze.{Froze}
use Rattle.end_model.specs.declared.moves.Move.{Move}
use Rattle.end_model.specs.declared.moves.Move.TheVariants as move
use Rattle.end_model.specs.declared.tunnel.Call.{Call}
use Rattle.end_model.specs.Calls.{is_up}
use Rattle.end_model.specs.Recovering.{frozen_control}
use Rattle.end_model.specs.Tunnels.{Tunnel, mode_of, is_current}
use Rattle.end_model.specs.End.{End}
use Rattle.world_model.specs.declared.standing.Standing.{Standing}
use Rattle.world_model.specs.World.{World, Node, Sender, Deed, standing_of, epoch_of}
use Rattle.step_laws.specs.Left.{CanBe}
use Rattle.step_laws.specs.Moves.{finished_of}
use Rattle.book_laws.specs.Books.{Mirrors}
use Rattle.book_laws.proofs.Finished.{finished_found}
use Rattle.epoch_machine.specs.Worlds as machine
use Rattle.epoch_machine.specs.Worlds.{all_rules}
use Rattle.epoch_machine.specs.Channels.{Channels}
use Rattle.epoch_machine.specs.Tunnels.{is_established}
use Rattle.epoch_machine.specs.Calls as calls
use Rattle.epoch_machine.specs.Calls.{NoCall, lives, unfinished}
use Rattle.epoch_machine.specs.Moves.{Freezes, freezes}
use Rattle.session_laws.specs.Names.{name, state_of}
use Rattle.session_laws.proofs.Names.{same_name, name_some, name_not_zero}
use Rattle.channel_laws.specs.Accounts.{Account, no_account, heeded, History, after}
use Rattle.channel_laws.specs.Facts.{LiveOk, makes, partner_in}
use Rattle.channel_laws.specs.Epochs.{IsLive}
use Rattle.channel_laws.specs.Steps.{with_end, moves_on}
use Rattle.recovery_laws.specs.Growing.{TakenStay}
use Rattle.recovery_laws.specs.Queries.{letters_in, questions_in, weigh, QueriesJoined}
use Rattle.recovery_laws.specs.Joined.{is_opener, is_made, answer_name, is_used, phase_in, LearnedSo, TunnelJoined, AttemptJoined, AnswerIs, AnswerJoined, CallsJoined, live_in, kept_in, AreJoined}
use Rattle.recovery_laws.proofs.Epochs.{learned_so}
use Rattle.join_laws.specs.Steps as steps
use Rattle.join_laws.specs.Steps.{with_book, Follows, Joins, IsJoined}
use Rattle.join_laws.proofs.Ahead as ahead
use Rattle.join_laws.proofs.Ahead.{book_standings, book_makes}
use Rattle.join_laws.proofs.Apart.{elsewhere}
use Rattle.join_laws.proofs.Asks.{Asked, asks_on}
use Rattle.join_laws.proofs.Books.{booked, book_other, same_tunnels}
use Rattle.join_laws.proofs.Bounds.{fit_bounded}
use Rattle.join_laws.proofs.Calls.{LooksLike, AreLike, like_in, like_same, SessionSame, SessionIs, Sessions, sessions_joined}
use Rattle.join_laws.proofs.Clearing.{grown_same}
use Rattle.join_laws.proofs.Finish.{Went, went_one}
use Rattle.join_laws.proofs.Freezes.{freezes_it, freezes_node, Frozen, is_frozen, StaysFrozen, stays_frozen, FrozenCall, frozen_call}
use Rattle.join_laws.proofs.FreezeWorld as world
use Rattle.join_laws.proofs.Freezing.{finished_up, up_finished, established_phase, frozen_phase, frozen_mode}
use Rattle.join_laws.proofs.Letters.{same_booked}
use Rattle.join_laws.proofs.Made as made
use Rattle.join_laws.proofs.Moved as moved_world
use Rattle.join_laws.proofs.Moved.{node_calls}
use Rattle.join_laws.proofs.OneCall.{gone_session}
use Rattle.join_laws.proofs.OneTunnel.{NameStays, CallStays, Grown, OneTunnel, one_joined, this_or_not}
use Rattle.join_laws.proofs.OneLive as one_live
use Rattle.join_laws.proofs.Counting.{RestSame}

-- a call that is there is established, or lives and isn't
live_or_up : (r : Role) (s : CallState) → CanBe r s → (is_up s ≡ true) ⊎ ((lives (state_of s) ≡ true) × (calls.is_up (state_of s) ≡ false))
live_or_up Lac call.Idle can = absurd can
live_or_up Lns call.Idle can = absurd can
live_or_up r call.WaitTunnel can = inr (refl, refl)
live_or_up r call.WaitReply can = inr (refl, refl)
live_or_up r call.WaitConnect can = inr (refl, refl)
live_or_up r call.Established can = inl refl

up_as : (s : CallState) → is_up s ≡ true → calls.is_up (state_of s) ≡ true
up_as call.Idle up = absurd (true≢false (sym up))
up_as call.WaitTunnel up = absurd (true≢false (sym up))
up_as call.WaitReply up = absurd (true≢false (sym up))
up_as call.WaitConnect up = absurd (true≢false (sym up))
up_as call.Established up = refl

both_true : (a b : Bool) → a && b ≡ true → (a ≡ true) × (b ≡ true)
both_true true true is = (refl, refl)
both_true true false is = absurd (true≢false (sym is))
both_true false b is = absurd (true≢false (sym is))

not_both : (b : Bool) → not b ≡ true → b ≡ true → ⊥
not_both true wrong is = true≢false (sym wrong)
not_both false wrong is = true≢false (sym is)

or_true : (a b c : Bool) → c ≡ true → (a || (b || c)) ≡ true
or_true true b c is = refl
or_true false true c is = refl
or_true false false c is = is

module _ (stay : TakenStay) (w : World) (h : History) (n : ℕ) (node : Node) (sender : Option Sender) (moment : ℕ) (ev : Event) (m :
    Froze) (x : End)
    (d : Deed) (k : Kept) (j : machine.World) (q : steps.IsMade w h n node sender moment ev (move.Froze m) x d k j) (b : Kept) (new :
    Mirrors x b) where
  abbrev mv : Move
  mv = move.Froze m

  abbrev i : ℕ
  i = m.tunnel

  abbrev p : ℕ
  p = node_of m.peer

  abbrev t : Tunnel
  t = q.moved.does.tunnel

  abbrev r : Tunnel
  r = record t { control = frozen_control m.asked t.control; calls = finished_of t.calls; recovery = Some q.moved.does.recovery }

  abbrev X : ℕ
  X = name n m.tunnel

  abbrev P : ℕ
  P = name (node_of m.peer) m.remote

  abbrev A : ℕ
  A = name (node_of m.peer) m.attempt

  abbrev C : ℕ
  C = name n m.answer

  abbrev z : machine.World
  z = freezes all_rules j X A C m.send_from m.expect

  abbrev g : History
  g = after h d

  abbrev led : World
  led = world.led w h n node sender moment ev m x d k j q

  abbrev u : World
  u = with_book led n b

  abbrev left : Node
  left = moved_world.left w n node q.moved.there x k b led (world.rest w h n node sender moment ev m x d k j q) (world.born w h n node
      sender moment ev m x d k j q)

  at_t : at node.end.tunnels i ≡ Some t
  at_t = q.moved.does.there

  live : LiveOk w h n i t
  live = made.live_ok w h n node sender moment ev mv x d k j q i t at_t

  fits : i < 65536
  fits = made.id_fits w h n node sender moment ev mv x d k j q i t at_t

  nfits : n < 256
  nfits = made.node_fits w h n node sender moment ev mv x d k j q

  pfits : p < 256
  pfits = (world.answer_ok w h n node sender moment ev m x d k j q).peer_fits

  rfits : m.remote < 65536
  rfits = world.remote_fits w h n node sender moment ev m x d k j q

  cfits : m.answer < 65536
  cfits = (world.answer_ok w h n node sender moment ev m x d k j q).fits

  told : TunnelJoined j (with_book w n k) h n i (Some t) (tunnel_at k i)
  told = made.told w h n node sender moment ev mv x d k j q i t at_t

  told_peer : TunnelJoined j (with_book w n k) h p m.remote (live_in (at (with_book w n k).nodes p) m.remote) (kept_in (at (with_book w
      n k).nodes p) m.remote)
  told_peer = q.joined.joined.tunnels p m.remote pfits rfits

  acc : (y f e : ℕ) → g.accounts y f e ≡ h.accounts y f e
  acc = world.accounts_same w h n node sender moment ev m x d k j q

  all_acc : g.accounts ≡ h.accounts
  all_acc = world.all_accounts w h n node sender moment ev m x d k j q

  -- ---- in the machine

  forth : j.tunnels.learned X ≡ P
  forth =
      let l = world.link w h n node sender moment ev m x d k j q in
      learned_so h.accounts n i p m.remote (j.tunnels.learned X) told.learned l.forth_peer l.forth l.to_some l.from_late

  back : j.tunnels.learned P ≡ X
  back =
      let l = world.link w h n node sender moment ev m x d k j q in
      learned_so h.accounts p m.remote n i (j.tunnels.learned P) told_peer.learned l.back_peer l.back l.from_some l.to_late

  apart : P ≡ X → ⊥
  apart same = world.apart w h n node sender moment ev m x d k j q (same_name p m.remote n i rfits fits same)

  attempts_is : j.tunnels.attempts A ≡ P
  attempts_is =
      let ok = world.answer_ok w h n node sender moment ev m x d k j q in
      let is : AttemptJoined j p m.attempt (Some ok.attempt) =
      subst (AttemptJoined j p m.attempt) (world.tried w h n node sender moment ev m x d k j q)
      (q.joined.joined.attempts p m.attempt pfits (world.attempt_fits w h n node sender moment ev m x d k j q)) in
      is ∙ ap (name p) ok.attempts

  undrawn : j.tunnels.drawn C ≡ false
  undrawn = q.joined.joined.drawn n m.answer nfits cfits ∙ world.unused w h n node sender moment ev m x d k j q

  went : Went ev n j z
  went = went_one ev n j z (Freezes X A C m.send_from m.expect) (freezes_node j X A C m.send_from m.expect ∙ told.node live.made) refl tt
      (freezes_it j X P A C m.send_from m.expect (ap is_established told.phase
      ∙ established_phase n t t.recovery q.moved.does.open_is) attempts_is
      (name_some p m.remote (world.link w h n node sender moment ev m x d k j q).to_some) back forth
      (name_some n m.answer (world.answer_ok w h n node sender moment ev m x d k j q).some) undrawn)

  fz : Frozen j X P A C m.send_from m.expect forth apart
  fz = is_frozen j X P A C m.send_from m.expect forth apart

  st : StaysFrozen j X A C m.send_from m.expect
  st = stays_frozen j X A C m.send_from m.expect

  fc : (y : ℕ) → FrozenCall j X A C m.send_from m.expect y
  fc y = frozen_call j X A C m.send_from m.expect y

  -- ---- the worlds

  std : (y f : ℕ) → standing_of u y f ≡ standing_of led y f
  std y f = moved_world.standings_then w n node q.moved.there x k b led (world.rest w h n node sender moment ev m x d k j q)
      (world.born w h n node sender moment ev m x d k j q) y f

  was_std : (y f : ℕ) → standing_of (with_book w n k) y f ≡ standing_of w y f
  was_std = book_standings w n node q.moved.there k

  entered_as : (y f : ℕ) → epoch_of u y f ≡ epoch_of (with_book w n k) y f
  entered_as y f =
      ap (λ (s : Standing). s.epoch) (std y f)
      ∙ (world.epochs_stay w h n node sender moment ev m x d k j q y f ∙ sym (ap (λ (s : Standing). s.epoch) (was_std y f)))

  makes_then : (y f : ℕ) → makes u y f ≡ makes led y f
  makes_then y f = moved_world.makes_then w n node q.moved.there x k b led (world.rest w h n node sender moment ev m x d k j q)
      (world.born w h n node sender moment ev m x d k j q) y f

  epoch_here : j.tunnels.epochs X ≡ (standing_of w n i).made
  epoch_here = told.epochs ∙ ap (λ (s : Standing). s.made) (was_std n i)

  epochs_then : (y f : ℕ) → y < 256 → f < 65536 → z.tunnels.epochs (name y f) ≡ (standing_of u y f).made
  epochs_then y f yfits ffits = ⊎_elim
      (λ (e : (y ≡ n) × (f ≡ i)).
      rw (e.0, e.1) (fz.epochs ∙ (ap suc epoch_here ∙ sym (ap (λ (s : Standing). s.made) (std n i)
      ∙ world.made_own w h n node sender moment ev m x d k j q))))
      (λ own. ⊎_elim
      (λ (e : (y ≡ p) × (f ≡ m.remote)).
      rw (e.0, e.1) (fz.epochs_there ∙ (ap suc epoch_here
      ∙ sym (ap (λ (s : Standing). s.made) (std p m.remote) ∙ world.made_peer w h n node sender moment ev m x d k j q))))
      (λ other.
      fz.other_epochs (name y f) (λ same. own (same_name y f n i ffits fits same)) (λ same. other (same_name y f p m.remote ffits rfits
      same))
      ∙ ((q.joined.joined.tunnels y f yfits ffits).epochs
      ∙ (ap (λ (s : Standing). s.made) (was_std y f)
      ∙ sym (ap (λ (s : Standing). s.made) (std y f ∙ world.others_stand w h n node sender moment ev m x d k j q y f own other)))))
      (this_or_not y f p m.remote))
      (this_or_not y f n i)

  -- ---- attempts and answers

  drawn_then : (y f : ℕ) → y < 256 → f < 65536 → z.tunnels.drawn (name y f) ≡ is_used g y f
  drawn_then y f yfits ffits = ⊎_elim
      (λ (e : (y ≡ n) × (f ≡ m.answer)).
      rw (e.0, e.1) (fz.drawn ∙ sym (or_true (is_made (g.accounts n m.answer 0).part) (is_some (g.attempts n m.answer)) (is_some
      (g.answers n m.answer))
      (ap (λ o. is_some o) (world.own_answer w h n node sender moment ev m x d k j q)))))
      (λ other.
      fz.other_drawn (name y f) (λ same. other (same_name y f n m.answer ffits cfits same))
      ∙ (q.joined.joined.drawn y f yfits ffits
      ∙ sym (ap (λ (a : Account). is_made a.part || (is_some (g.attempts y f) || is_some (g.answers y f))) (acc y f 0)
      ∙ (ap (λ o. is_made (h.accounts y f 0).part || (is_some o || is_some (g.answers y f))) (world.attempts_same w h n node sender
      moment ev m x d k j q y f)
      ∙ ap (λ o. is_made (h.accounts y f 0).part || (is_some (h.attempts y f) || is_some o))
      (world.other_answer w h n node sender moment ev m x d k j q y f other)))))
      (this_or_not y f n m.answer)

  attempt_then : (y f : ℕ) (o : Option Restored) → AttemptJoined j y f o → AttemptJoined z y f o
  attempt_then y f None is = st.attempts (name y f) ∙ is
  attempt_then y f (Some s) is = st.attempts (name y f) ∙ is

  answer_new : AnswerIs z u g n m.answer m
  answer_new = record {
    given = fz.answers;
    answered = fz.answered;
    epoch = fz.makes ∙ (ap suc epoch_here ∙ sym (makes_then n m.answer ∙ world.makes_own w h n node sender moment ev m x d k j q));
    own = fz.giver;
    theirs = fz.other;
    confirmed = λ entered.
        absurd (none-some (record { node = n; tunnel = m.answer })
        (sym (ap (λ (a : Account). a.answer) (acc p m.remote (makes u n m.answer)
        ∙ (ap (h.accounts p m.remote) (makes_then n m.answer ∙ world.makes_own w h n node sender moment ev m x d k j q)
        ∙ world.unentered w h n node sender moment ev m x d k j q))) ∙ entered));
  }

  answer_other : (y f : ℕ) → (name y f ≡ C → ⊥) → ((y ≡ n) × (f ≡ m.answer) → ⊥) → (o : Option Froze)
      → AnswerJoined j (with_book w n k) h y f o
      → AnswerJoined z u g y f o
  answer_other y f other no_same None is = fz.other_answers (name y f) other ∙ is
  answer_other y f other no_same (Some s) a =
      let same : makes u y f ≡ makes (with_book w n k) y f =
      makes_then y f ∙ (world.makes_other w h n node sender moment ev m x d k j q y f no_same
      ∙ sym (book_makes w n node q.moved.there k y f)) in
      record {
        given = fz.other_answers (name y f) other ∙ a.given;
        answered = fz.other_answered (name y f) other ∙ a.answered;
        epoch = fz.other_makes (name y f) other ∙ (a.epoch ∙ sym same);
        own = fz.other_giver (name y f) other ∙ a.own;
        theirs = fz.other_other (name y f) other ∙ a.theirs;
        confirmed = λ entered.
            st.confirmed (name y f)
            ∙ a.confirmed (ap (λ (c : Account). c.answer) (sym (acc (node_of s.peer) s.remote (makes (with_book w n k) y f)))
            ∙ subst (λ e. (g.accounts (node_of s.peer) s.remote e).answer ≡ Some (record { node = y; tunnel = f })) same entered);
      }

  answers_then : (y f : ℕ) → y < 256 → f < 65536 → AnswerJoined z u g y f (g.answers y f)
  answers_then y f yfits ffits = ⊎_elim
      (λ (e : (y ≡ n) × (f ≡ m.answer)).
      rw (e.0, e.1) (subst (AnswerJoined z u g n m.answer) (sym (world.own_answer w h n node sender moment ev m x d k j q)) answer_new))
      (λ other.
      subst (AnswerJoined z u g y f) (sym (world.other_answer w h n node sender moment ev m x d k j q y f other))
      (answer_other y f (λ same. other (same_name y f n m.answer ffits cfits same)) other (h.answers y f) (q.joined.joined.answers y f
      yfits ffits)))
      (this_or_not y f n m.answer)

  -- ---- the tunnel

  tunnels : x.tunnels ≡ put node.end.tunnels i r
  tunnels = ap (λ (y : End). y.tunnels) q.moved.does.after

  at_r : at x.tunnels i ≡ Some r
  at_r = ap (λ ts. at ts i) tunnels ∙ at_new node.end.tunnels i r

  others : (f : ℕ) → (f ≡ i → ⊥) → at x.tunnels f ≡ at node.end.tunnels f
  others f other = ap (λ ts. at ts f) tunnels ∙ at_other node.end.tunnels i r f other

  here : TunnelJoined z u g n i (Some r) (tunnel_at b i)
  here = record {
    opener = st.opener X ∙ (told.opener ∙ ap (λ (a : Account). is_opener a.part) (sym (acc n i 0)));
    node = λ made. st.node X ∙ told.node live.made;
    peer = λ made. st.peer X ∙ (told.peer live.made ∙ ap (λ (a : Account). a.peer) (sym (acc n i 0)));
    learned = subst (λ f. LearnedSo f n i (z.tunnels.learned X)) (sym all_acc) (subst (LearnedSo h.accounts n i) (sym (st.learned X))
        told.learned);
    phase = fz.phase ∙ sym (frozen_phase n r q.moved.does.recovery m.answer m.attempt m.draw _ q.moved.does.is);
    booked = st.booked X ∙ (told.booked ∙ sym (same_booked node.end x k b q.mirrors new i t r at_t at_r refl));
    entered = st.entered X ∙ (told.entered ∙ sym (entered_as n i));
    epochs = epochs_then n i nfits fits;
    entered_by = λ e. st.entered_by X e ∙ (told.entered_by e ∙ ap (λ (a : Account). answer_name a.answer) (sym (acc n i e)));
    sent = λ e. ap (λ (f : Channels). f.sent X e) st.channels
        ∙ (told.sent e ∙ ap (λ (a : Account). letters_in n a.peer (questions_in a.taken) a.given) (sym (acc n i e)));
    taken = λ e. ap (λ (f : Channels). f.taken X e) st.channels
        ∙ (told.taken e
        ∙ ap (λ f. weigh (take (heeded (f n i e)) (partner_in f e (f n i e)).given)) (sym all_acc));
    refused = ap (λ (f : Channels). f.refused X) st.channels ∙ (told.refused ∙ ap (λ (a : Account). a.declined) (sym (acc n i 0)));
  }

  stays : (y : ℕ) → (y ≡ X → ⊥) → NameStays j z y
  stays y other = record {
    opener = st.opener y;
    node = st.node y;
    peer = st.peer y;
    learned = st.learned y;
    phase = fz.other_phase y other;
    booked = st.booked y;
    entered = st.entered y;
    entered_by = st.entered_by y;
    sent = λ e. ap (λ (f : Channels). f.sent y e) st.channels;
    taken = λ e. ap (λ (f : Channels). f.taken y e) st.channels;
    refused = ap (λ (f : Channels). f.refused y) st.channels;
  }

  -- ---- calls

  before : CallsJoined j h n (booked node k)
  before = made.calls_before w h n node sender moment ev mv x d k j q

  call_stays : (y : ℕ) → unfinished j.calls X y ≡ false → CallStays j z y
  call_stays y no_end =
      let e = fc y in
      record {
        drawn = e.drawn;
        tunnel = e.tunnel;
        state = e.state ∙ ap (λ u. if u then NoCall else j.calls.state y) no_end;
        remote = e.remote;
        booked = e.booked ∙ ap (λ u. if u then false else j.calls.booked y) no_end;
      }

  -- what is known of a call that ends
  ends_so : (y : ℕ) → unfinished j.calls X y ≡ true → (j.calls.tunnel y ≡ X) × (lives (j.calls.state y) ≡ true)
      × (calls.is_up (j.calls.state y) ≡ true → ⊥)
  ends_so y ends =
      let one = both_true (j.calls.tunnel y == X) (lives (j.calls.state y) && not (calls.is_up (j.calls.state y))) ends in
      let two = both_true (lives (j.calls.state y)) (not (calls.is_up (j.calls.state y))) one.1 in
      (eqb-true (j.calls.tunnel y) X one.0, two.0, not_both (calls.is_up (j.calls.state y)) two.1)

  order : Ascends t.calls
  order = (q.moved.fit.tables.tunnels i t at_t).order

  -- no tunnel has a call that ends
  none_there : (s : ℕ) → unfinished j.calls X (name n s) ≡ true → (f : ℕ) (v : Tunnel) → at x.tunnels f ≡ Some v → at v.calls s ≡ None
  none_there s ends f v at_v = by (at v.calls s) refl
    where
      of_it : (c : Call) → at v.calls s ≡ Some c → ⊥
      of_it c is = ⊎_elim
          (λ (e : f ≡ i).
          let same : r ≡ v = same_Some r v (sym at_r ∙ subst (λ y. at x.tunnels y ≡ Some v) e at_v) in
          let in_r : at r.calls s ≡ Some c = ap (λ (y : Tunnel). at y.calls s) same ∙ is in
          let up = finished_up t.calls s c in_r in
          let was = finished_found t.calls order s c in_r in
          (ends_so (name n s) ends).2 (ap calls.is_up (before.live i t at_t s c was).state ∙ up_as c.state up))
          (λ o.
          let old = sym (others f o) ∙ at_v in
          o (same_name n f n i ((fit_bounded node.end q.moved.fit).tunnels f v old) fits
          (sym (before.live f v old s c is).tunnel ∙ (ends_so (name n s) ends).0)).1)
          (same_or_not f i)

      by : (o : Option Call) → at v.calls s ≡ o → o ≡ None
      by None is = refl
      by (Some c) is = absurd (of_it c is)

  -- the others look as they did
  like : (s : ℕ) → unfinished j.calls X (name n s) ≡ false → AreLike node.end x s
  like s no_end = like_in node.end x i t r s at_t at_r others (by (at t.calls s) refl)
    where
      none_more : at t.calls s ≡ None → (o : Option Call) → at (finished_of t.calls) s ≡ o → LooksLike None o
      none_more none None is = tt
      none_more none (Some c) is = absurd (none-some c (sym none ∙ finished_found t.calls order s c is))

      by : (o : Option Call) → at t.calls s ≡ o → LooksLike o (at r.calls s)
      by None is = none_more is (at (finished_of t.calls) s) refl
      by (Some c) is =
          let l = before.live i t at_t s c is in
          let up : is_up c.state ≡ true = ⊎_elim
          (λ (u : is_up c.state ≡ true). u)
          (λ (u : (lives (state_of c.state) ≡ true) × (calls.is_up (state_of c.state) ≡ false)).
          let ends : unfinished j.calls X (name n s) ≡ true =
          ap (λ y. (y == X) && (lives (j.calls.state (name n s)) && not (calls.is_up (j.calls.state (name n s))))) l.tunnel
          ∙ (ap (λ y. y && (lives (j.calls.state (name n s)) && not (calls.is_up (j.calls.state (name n s))))) (eq-eqb X X refl)
          ∙ (ap (λ y. lives y && not (calls.is_up y)) l.state ∙ (ap (λ y. y && not (calls.is_up (state_of c.state))) u.0 ∙ ap not u.1))) in
          absurd (true≢false (sym ends ∙ no_end)))
          (live_or_up node.end.role c.state (q.sound i t at_t s c is).1) in
          subst (LooksLike (Some c)) (sym (up_finished t.calls order s c is up)) (refl, refl)

  ids : x.session_ids ≡ node.end.session_ids
  ids = ap (λ (y : End). y.session_ids) q.moved.does.after

  peers : (f : ℕ) → (g.accounts n f 0).peer ≡ (h.accounts n f 0).peer
  peers f = ap (λ (a : Account). a.peer) (acc n f 0)

  ended_session : (s : ℕ) → s < 65536 → unfinished j.calls X (name n s) ≡ true → SessionIs x b z g n s
  ended_session s sfits ends = gone_session x b z g n s (record {
    new = new;
    none = none_there s ends;
    state = (fc (name n s)).state ∙ ap (λ u. if u then NoCall else j.calls.state (name n s)) ends;
    booked = (fc (name n s)).booked ∙ ap (λ u. if u then false else j.calls.booked (name n s)) ends;
    undrawn = λ le. (fc (name n s)).drawn ∙ before.undrawn s (subst (λ y. y.next ≤ s) ids le) sfits;
  })

  calls_then : CallsJoined z g n left
  calls_then = node_calls z g n (ahead.left node x b) left
      (moved_world.end_is w n node q.moved.there x k b led (world.rest w h n node sender moment ev m x d k j q)
      (world.born w h n node sender moment ev m x d k j q)) refl
      (sessions_joined node x k b j z h g n (record {
        old = q.mirrors;
        new = new;
        bounded = fit_bounded x q.fit;
        peers = peers;
        nodes = λ y is. st.node y ∙ is;
        rises = (let e = ap (λ y. y.next) ids in omega (arith, e));
        zero = (fc (name n 0)).drawn;
        each = λ s sfits. ⊎_elim
            (λ (ends : unfinished j.calls X (name n s) ≡ true). inr (ended_session s sfits ends))
            (λ (no_end : unfinished j.calls X (name n s) ≡ false). inl (record {
              like = like s no_end;
              stays = call_stays (name n s)
                  no_end;
            }))
            (cases_Bool (unfinished j.calls X (name n s)));
      }) before)

  others_calls : (y s : ℕ) → (y ≡ n → ⊥) → y < 256 → s < 65536 → CallStays j z (name y s)
  others_calls y s off yfits sfits = ⊎_elim
      (λ (ends : unfinished j.calls X (name y s) ≡ true).
      let e = ends_so (name y s) ends in
      absurd ((elsewhere (with_book w n k) h j q.joined.joined n i fits y yfits off
      (λ c has. q.nodes y c off (sym (book_other w n k node q.moved.there y off) ∙ has)) s sfits).live e.1 e.0))
      (λ (no_end : unfinished j.calls X (name y s) ≡ false). call_stays (name y s) no_end)
      (cases_Bool (unfinished j.calls X (name y s)))

  -- ---- the whole

  one : OneTunnel (with_book w n k) u h g j z n i (booked node k) left
  one = record {
    node_fits = nfits;
    id_fits = fits;
    was = moved_world.was w n node q.moved.there x k b led rest born;
    is = moved_world.is w n node q.moved.there x k b led rest born;
    up = moved_world.up w n node q.moved.there x k b led rest born;
    others = moved_world.others w n node q.moved.there x k b led rest born;
    nodes = λ y c off has. q.nodes y c off (sym (book_other w n k node q.moved.there y off) ∙ has);
    tunnels = λ f other. ap (λ (y : End). at y.tunnels f) end_is ∙ others f other;
    kept = λ f other. ap (λ o. is_some o) (same_tunnels node.end x k b q.mirrors new f (others f other));
    entered = λ y f apart. entered_as y f;
    epochs = epochs_then;
    accounts = λ y f e apart. acc y f e;
    grown = λ e. subst (Grown (h.accounts n i e)) (sym (acc n i e)) (grown_same (h.accounts n i e));
    within = made.within w h n node sender moment ev mv x d k j q;
    stays = stays;
    here = subst (λ o. TunnelJoined z u g n i o (tunnel_at b i)) (sym (ap (λ (y : End). at y.tunnels i) end_is ∙ at_r)) here;
    drawn = drawn_then;
    attempts = λ y f yfits ffits.
        subst (AttemptJoined z y f) (sym (world.attempts_same w h n node sender moment ev m x d k j q y f))
        (attempt_then y f (h.attempts y f) (q.joined.joined.attempts y f yfits ffits));
    answers = answers_then;
    ups = st.up;
    calls = calls_then;
    calls_stay = others_calls;
    births = (
      (fc 0).births ∙ (q.joined.joined.births.0 ∙ sym (moved_world.born_as w n node q.moved.there x k b led rest born)),
      λ y s yfits sfits. (fc (name y s)).birth
          ∙ (q.joined.joined.births.1 y s yfits sfits ∙ sym (moved_world.births_as w n node q.moved.there x k b led rest born y s)),
    );
  }
    where
      rest : (y : ℕ) → RestSame (at (with_end w n node x).nodes y) (at led.nodes y)
      rest = world.rest w h n node sender moment ev m x d k j q

      born : led.born ≡ w.born
      born = world.born w h n node sender moment ev m x d k j q

      end_is : left.end ≡ x
      end_is = moved_world.end_is w n node q.moved.there x k b led rest born

  at_left : at left.end.tunnels i ≡ Some r
  at_left = ap (λ (y : End). at y.tunnels i) (moved_world.end_is w n node q.moved.there x k b led
      (world.rest w h n node sender moment ev m x d k j q) (world.born w h n node sender moment ev m x d k j q)) ∙ at_r

  -- a tunnel that asks isn't the one that is frozen
  asked : (y f : ℕ) (v : Tunnel) → IsLive u y f v → is_current (mode_of v.recovery) ≡ true → state_number v.control.state ≡ 3
      → Asked (with_book w n k) y f v
  asked y f v alive current three = record {
    tunnel = v;
    live = one_live.was_live (with_book w n k) u h g j z n i (booked node k) left one r at_left
        (λ cur. frozen_mode q.moved.does.recovery m.answer m.attempt m.draw _ q.moved.does.is cur) y f v alive current;
    current = current;
    three = three;
    query = refl;
  }

  queries : QueriesJoined u g z
  queries = asks_on (with_book w n k) u h g j z (record {
    peers = λ y f. ap (λ (a : Account). a.peer) (acc y f 0);
    asks = λ y s. (fc y).asks s;
    held = λ y f s. (fc y).held f s;
    entered = st.entered;
    asked = asked;
  }) q.joined.queries

  pub froze_follows : Follows ev (with_book (moves_on w n node mv x) n b) (after h d) n j
  froze_follows =
      subst (λ v. Follows ev (with_book v n b) (after h d) n j) (sym (world.moves_is w h n node sender moment ev m x d k j q)) (record {
        moves = went.moves;
        own = went.own;
        heard = went.heard;
        joined = subst (IsJoined u g) went.goes (record {
          joined = one_joined stay (with_book w n k) u h g j z n i (booked node k) left q.joined.joined one went.moves went.goes;
          queries = queries;
          named = λ y is. q.joined.named y (sym (fc y).drawn ∙ is);
        });
      })

pub froze_joins : TakenStay → (m : Froze) → Joins (move.Froze m)
froze_joins stay m w h n node sender moment ev x d k j q b new = froze_follows stay w h n node sender moment ev m x d k j q b new
