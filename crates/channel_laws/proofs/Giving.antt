-- The moves by which an open tunnel is given a letter, and takes none.
use Rattle.std.proofs.Common.{◌≡◌, inl, ⊎_elim, ℕ, ◌<◌, true, false, List, [], ◌∷◌, refl, sym, ap, ◌∙◌, subst, Option, Some, None, arith}
use Rattle.std.proofs.lemmas.Bool.{true≢false, ltb-true}
use Rattle.id_table.specs.Ids.{at, put, without}
use Rattle.id_table.specs.Order.{found_put, found_without}
use Rattle.control_message.specs.declared.message.Message.TheVariants.{Hello, Cdn}
use Rattle.tunnel_fsm.specs.Rows.{state_number}
use Rattle.call_fsm.specs.declared.table.CallState.TheVariants.{WaitTunnel}
use Rattle.call_fsm.specs.declared.table.CallEvent.{CallEvent}
use Rattle.call_fsm.specs.declared.table.CallEvent.TheVariants as call_event
use Rattle.end_names.specs.declared.role.Role.{Role}
use Rattle.end_model.specs.declared.event.Event.{Event}
use Rattle.end_model.specs.declared.moves.EndTold.{EndTold}
use Rattle.end_model.specs.declared.moves.Greeted.{Greeted}
use Rattle.end_model.specs.declared.moves.Requested.{Requested}
use Rattle.end_model.specs.declared.moves.Restored.{Restored}
use Rattle.end_model.specs.declared.moves.Froze.{Froze}
use Rattle.end_model.specs.declared.moves.Move.{Move}
use Rattle.end_model.specs.declared.moves.Move.TheVariants as move
use Rattle.end_model.specs.declared.tunnel.Call.{Call}
use Rattle.end_model.specs.declared.tunnel.CallPlace.{CallPlace}
use Rattle.end_model.specs.Calls.{call_row, row_for, is_told, advanced}
use Rattle.end_model.specs.Channels.{has_room}
use Rattle.end_model.specs.Messages.{request_of}
use Rattle.end_model.specs.Tunnels.{Tunnel, mode_of, is_current}
use Rattle.end_model.specs.End.{End}
use Rattle.world_model.specs.World.{World, Node, Sender, Deed, config_of, epoch_of, moved}
use Rattle.step_laws.specs.Codes.{codes_fit}
use Rattle.step_laws.specs.Letters.{Letter, letters_of}
use Rattle.step_laws.specs.Moves.{with_tunnel, with_letter_as}
use Rattle.frame_laws.specs.Codecs.{Codecs}
use Rattle.frame_laws.specs.Plain.{number_hides}
use Rattle.connection_laws.specs.Facts.{IsNoOpening, TellsOwn, AllWait}
use Rattle.connection_laws.proofs.States.{no_call, waits_untold}
use Rattle.connection_laws.proofs.Written.{request_written}
use Rattle.session_query.specs.Queries.{Asking}
use Rattle.channel_laws.specs.Accounts.{Part, Unmade, Opener, Acceptor, Renewed, Account, History, about, declines_of, entered_by, gives_also, attempts_by, answers_by, after}
use Rattle.channel_laws.specs.Facts.{Accounts, IsMade, partner_in, IsOpen, IsShut, IsInState, ChannelOk, LiveOk, EndOk, BookOk, NodeOk, Holds, QueryOk, IsSpelledIn}
use Rattle.channel_laws.specs.Steps.{with_end, moves_on, IsMoved}
use Rattle.channel_laws.proofs.Deeds.{here, others}
use Rattle.channel_laws.proofs.Entering.{base_same}
use Rattle.channel_laws.proofs.Extending.{Extends, IsOnly}
use Rattle.channel_laws.proofs.Going.{grows_by, goes_hold}
use Rattle.channel_laws.proofs.Open.{open_state, grows_extends, gives_only, taken_still, end_alike}

-- ---- the deed of a move that enters one account

-- it declines nothing, and is no attempt and no answer
pub record IsPlainDeed (d : Deed) : Type 0 where
  pub declines : (m j : ℕ) → declines_of d.move m j ≡ false
  pub attempts : (m a : ℕ) (o : Option Restored) → attempts_by d d.move m a o ≡ o
  pub answers : (m c : ℕ) (o : Option Froze) → answers_by d d.move m c o ≡ o

module _ (h : History) (d : Deed) (n i e : ℕ) (new : Account) (node : d.node ≡ n) (about_it : about d.move ≡ i) (epoch : d.epoch ≡ e)
    (becomes : entered_by d d.move (h.accounts n i e) ≡ new) (plain : IsPlainDeed d) where
  pub becomes_so : (after h d).accounts n i e ≡ new
  becomes_so = here h d n i e new node about_it epoch becomes plain.declines plain.attempts plain.answers

  pub only_so : Extends (h.accounts n i e) new → (0 < e → IsMade (h.accounts n i e)) → IsOnly h (after h d) n i e
  only_so extends later = record {
    here = subst (Extends (h.accounts n i e)) (sym becomes_so) extends;
    others = others h d n i e new node about_it epoch becomes plain.declines plain.attempts plain.answers;
    attempts = λ m a. plain.attempts m a (h.attempts m a);
    answers = λ m c. plain.answers m c (h.answers m c);
    later = later;
  }

-- ---- one letter is given

abbrev pub with_one : Letter → List (ℕ × Call) → Asking → Tunnel → Tunnel
with_one l calls q t = record (with_letter_as l.session l.message l.hidden t) { calls = calls; query = q }

abbrev pub with_places : End → ℕ → Tunnel → List (ℕ × CallPlace) → End
with_places e i u places = record (with_tunnel e i u) { calls = places }

-- what a letter and the tunnel that is given it need
pub record IsGiven (i e : ℕ) (t : Tunnel) (l : Letter) (calls : List (ℕ × Call)) (q : Asking) : Type 0 where
  pub spelled : IsSpelledIn e l
  pub query : QueryOk e q
  pub plain : IsNoOpening l.message
  pub told : TellsOwn i l.message
  pub room : has_room t.control ≡ true
  pub remotes : (s : ℕ) (c : Call) → at calls s ≡ Some c → c.remote < 65536
  pub three : state_number t.control.state ≡ 3

module _ (w : World) (h : History) (n : ℕ) (node : Node) (sender : Option Sender) (moment : ℕ) (ev : Event) (m : Move) (x : End) (d : Deed)
    (k : IsMoved w h n node sender moment ev m x d) (t : Tunnel) (there : at node.end.tunnels (about m) ≡ Some t) (current : is_current (mode_of t.recovery) ≡ true)
    (same : moves_on w n node m x ≡ with_end w n node x) (plain : IsPlainDeed d) where
  abbrev i : ℕ
  i = about m

  abbrev e : ℕ
  e = epoch_of w n (about m)

  both_ok : EndOk w h n node.end × BookOk h n node.checkpoint.book
  both_ok = subst (NodeOk w h n) k.there (k.holds.nodes n)

  pub live_there : LiveOk w h n (about m) t
  live_there = both_ok.0.live i t there

  pub channel_there : ChannelOk h.accounts n (about m) e (h.accounts n (about m) e) t
  channel_there = live_there.channel current

  pub made_there : IsMade (h.accounts n (about m) e)
  made_there = (k.holds.standings n i).entered live_there.made

  pub deed_epoch : d.epoch ≡ epoch_of w n (about m)
  deed_epoch = k.epoch ∙ (ap (λ q. epoch_of q n i) same ∙ ap (λ s. s.epoch) (base_same w n node k.there x n i))

  pub gives_hold : (l : Letter) (calls : List (ℕ × Call)) (q : Asking) (places : List (ℕ × CallPlace))
      → x ≡ with_places node.end (about m) (with_one l calls q t) places
      → ((a : Account) → entered_by d m a ≡ gives_also d a) → letters_of node.end.role (config_of n 0 None false) m ≡ l ∷ []
      → IsGiven (about m) (epoch_of w n (about m)) t l calls q
      → Holds (moves_on w n node m x) (after h d)
  gives_hold l calls q places is enters one g =
      let a = h.accounts n i e in
      let becomes : entered_by d d.move a ≡ grows_by (l ∷ []) [] a =
      ap (λ q. entered_by d q a) k.deed.move_is ∙ (enters a ∙ (gives_only d n node.end.role sender m a k.deed ∙ ap (λ ls. grows_by ls [] a) one)) in
      let opened = open_state h.accounts i e a t a.part channel_there.state g.three in
      let only = only_so h d n i e (grows_by (l ∷ []) [] a) k.deed.node_is (ap about k.deed.move_is) deed_epoch becomes plain (grows_extends (l ∷ []) [] a) (λ lt. made_there) in
      let lt = ltb-true t.control.channel.window.queued 8192 g.room in
      let out = channel_there.outstanding in
      subst (λ q. Holds q (after h d)) (sym same)
      (subst (λ y. Holds (with_end w n node y) (after h d)) (sym is)
      (goes_hold w (with_end w n node (with_places node.end i (with_one l calls q t) places)) h (after h d) n node
      (with_places node.end i (with_one l calls q t) places) i e t (with_one l calls q t) (l ∷ []) [] (record {
        there = k.there;
        holds = k.holds;
        alike = end_alike w n node (with_places node.end i (with_one l calls q t) places) k.there;
        epoch = refl;
        at_t = there;
        current = current;
        goes = record {
          local = refl;
          peer = refl;
          remote = refl;
          three = g.three;
          letters = refl;
          acked = refl;
          queued = refl;
          few = omega arith;
          outstanding = omega arith;
          taken = omega arith;
          calls = g.remotes;
          recovery = refl;
        };
        open_is = opened.1;
        paired = opened.0;
        only = only;
        is = becomes_so h d n i e (grows_by (l ∷ []) [] a) k.deed.node_is (ap about k.deed.move_is) deed_epoch becomes plain;
        query = g.query;
        spelled = (g.spelled, tt);
        plain = (g.plain, tt);
        told = (g.told, tt);
        enough = inl refl;
        taken = taken_still h (after h d) n i e only a (l ∷ []) (k.holds.accounts n i e).taken opened.1;
        puts = record { config = refl; role = refl; tunnels = refl };
        ids = refl;
      })))

-- ---- calls

-- a call that changed
pub calls_put : (calls : List (ℕ × Call)) (s : ℕ) (k : Call) → ((q : ℕ) (c : Call) → at calls q ≡ Some c → c.remote < 65536) → k.remote < 65536
    → (q : ℕ) (c : Call) → at (put calls s k) q ≡ Some c → c.remote < 65536
calls_put calls s k olds fits q c f =
    ⊎_elim (λ (a : (q ≡ s) × (k ≡ c)). rw (← a.1) fits) (λ a. olds q c a.1) (found_put calls s k q c f)

pub advanced_remote : (r : Role) (ev : CallEvent) (moment : ℕ) (c : Call) → (advanced r ev moment c).remote ≡ c.remote
unfolding advanced
advanced_remote r ev moment c = refl

-- the peer is told of the end of a call in an established tunnel alone: in another one its calls wait, or it has none
told_open : (accs : Accounts) (i e : ℕ) (a : Account) (t : Tunnel) (role : Role) (on : CallEvent) (s : ℕ) (c : Call) → at t.calls s ≡ Some c
    → is_told (row_for role c on).1 ≡ true → (r : Part) → IsInState accs i e a t r → state_number t.control.state ≡ 3
told_open accs i e a t role on s c there told Unmade h = absurd h
told_open accs i e a t role on s c there told Opener h = ⊎_elim
    (λ (k : (state_number t.control.state ≡ 1) × (a.remote ≡ 0) × IsOpen a × AllWait t.calls).
    let waits = k.3 s c there in
    let g : is_told (call_row role WaitTunnel on).1 ≡ true = rw waits at told in
    absurd (true≢false (sym g ∙ waits_untold role on)))
    (λ rest. ⊎_elim
    (λ (k : (state_number t.control.state ≡ 3) × (a.remote ≡ 0 → ⊥) × IsOpen a). k.0)
    (λ (k : IsShut a t). absurd (no_call t.calls s c there k.2))
    rest)
    h
told_open accs i e a t role on s c there told Acceptor h = ⊎_elim
    (λ (k : (state_number t.control.state ≡ 2) × (t.calls ≡ []) × IsOpen a). absurd (no_call t.calls s c there k.1))
    (λ rest. ⊎_elim
    (λ (k : (state_number t.control.state ≡ 3) × ((partner_in accs 0 a).remote ≡ i) × IsOpen a). k.0)
    (λ (k : IsShut a t). absurd (no_call t.calls s c there k.2))
    rest)
    h
told_open accs i e a t role on s c there told Renewed h = ⊎_elim
    (λ (k : (state_number t.control.state ≡ 3) × IsOpen a). k.0)
    (λ (k : IsShut a t). absurd (no_call t.calls s c there k.2))
    h

-- ---- the moves

module _ (w : World) (h : History) (n : ℕ) (node : Node) (sender : Option Sender) (moment : ℕ) (ev : Event) (x : End) (d : Deed) where
  pub end_told_keeps : (m : EndTold) → IsMoved w h n node sender moment ev (move.EndTold m) x d → Holds (moves_on w n node (move.EndTold m) x) (after h d)
  unfolding moved
  end_told_keeps m k =
      let o = k.does in
      let t = o.tunnel in
      let mv = move.EndTold m in
      let plain : IsPlainDeed d = record { declines = λ p j. ap (λ q. declines_of q p j) k.deed.move_is; attempts = λ p a z. ap (λ q. attempts_by d q p a z) k.deed.move_is; answers = λ p c z. ap (λ q. answers_by d q p c z) k.deed.move_is } in
      let live = live_there w h n node sender moment ev mv x d k t o.there o.current refl plain in
      let channel = channel_there w h n node sender moment ev mv x d k t o.there o.current refl plain in
      gives_hold w h n node sender moment ev mv x d k t o.there o.current refl plain
      (record { tunnel = m.tunnel; place = m.given; session = m.remote; message = Cdn m.session m.result m.error; hidden = None })
      (without t.calls m.session) t.query _ o.after (λ a. refl) refl
      (record {
        spelled = inl (record {
          written = (let z = codes_fit node.end t ev moment m.session o.call o.on m.result m.error o.why in
              (o.session, z.0, z.1));
          hides = tt;
          session = rw o.remote (live.calls m.session o.call o.live);
        });
        query = live.query;
        plain = tt;
        told = tt;
        room = o.room;
        remotes = λ s c f. live.calls s c (found_without t.calls m.session s c (k.fit.tables.tunnels m.tunnel t o.there).order f).1;
        three = told_open h.accounts m.tunnel (epoch_of w n m.tunnel) (h.accounts n m.tunnel (epoch_of w n m.tunnel)) t node.end.role o.on m.session o.call o.live o.row
            (h.accounts n m.tunnel (epoch_of w n m.tunnel)).part channel.state;
      })

  pub greeted_keeps : (m : Greeted) → IsMoved w h n node sender moment ev (move.Greeted m) x d → Holds (moves_on w n node (move.Greeted m) x) (after h d)
  unfolding moved
  greeted_keeps m k =
      let o = k.does in
      let t = o.tunnel in
      let mv = move.Greeted m in
      let plain : IsPlainDeed d = record { declines = λ p j. ap (λ q. declines_of q p j) k.deed.move_is; attempts = λ p a z. ap (λ q. attempts_by d q p a z) k.deed.move_is; answers = λ p c z. ap (λ q. answers_by d q p c z) k.deed.move_is } in
      let live = live_there w h n node sender moment ev mv x d k t o.there o.current refl plain in
      gives_hold w h n node sender moment ev mv x d k t o.there o.current refl plain
      (record { tunnel = m.tunnel; place = m.given; session = 0; message = Hello; hidden = None })
      t.calls t.query node.end.calls o.after (λ a. refl) refl
      (record {
        spelled = inl (record { written = tt; hides = tt; session = omega arith });
        query = live.query;
        plain = tt;
        told = tt;
        room = o.room;
        remotes = live.calls;
        three = o.open_is;
      })

  pub requested_keeps : Codecs → (m : Requested) → IsMoved w h n node sender moment ev (move.Requested m) x d → Holds (moves_on w n node (move.Requested m) x) (after h d)
  unfolding moved
  requested_keeps codecs m k =
      let o = k.does in
      let t = o.tunnel in
      let mv = move.Requested m in
      let call = advanced node.end.role call_event.TunnelOpen moment o.call in
      let plain : IsPlainDeed d = record { declines = λ p j. ap (λ q. declines_of q p j) k.deed.move_is; attempts = λ p a z. ap (λ q. attempts_by d q p a z) k.deed.move_is; answers = λ p c z. ap (λ q. answers_by d q p c z) k.deed.move_is } in
      let live = live_there w h n node sender moment ev mv x d k t o.there o.current refl plain in
      gives_hold w h n node sender moment ev mv x d k t o.there o.current refl plain
      (record { tunnel = m.tunnel; place = m.given; session = 0; message = request_of m.session m.subscriber; hidden = m.hidden })
      (put t.calls m.session call) t.query _ o.after (λ a. refl) refl
      (record {
        spelled = inl (record {
          written = request_written codecs.digits m.session m.subscriber o.session;
          hides = number_hides node.end.config m.session m.subscriber m.hidden o.session (codecs.digits m.subscriber) o.hides;
          session = omega arith;
        });
        query = live.query;
        plain = tt;
        told = tt;
        room = o.room;
        remotes = calls_put t.calls m.session call live.calls
            (rw (advanced_remote node.end.role call_event.TunnelOpen moment o.call) (live.calls m.session o.call o.waits));
        three = o.open_is;
      })
