-- The moves that take no letter and read no Nr keep what holds.
use Rattle.std.proofs.Common.{None, ◌≡◌, ◌⊎◌, inl, inr, ⊎_elim, ℕ, ◌+◌, ◌<◌, ◌≤◌, Bool, true, false, cond, List, [], ◌∷◌, length, refl, sym, ap, ◌∙◌, subst, append-nil, Option, Some, arith}
use Rattle.std.proofs.lemmas.Bool.{ltb-true, true≢false}
use Rattle.id_source.specs.Spaces.{draw_is, next_is}
use Rattle.std.specs.Prelude.{◌==◌, ◌&&◌, nat_lt, if◌then◌else◌}
use Rattle.id_table.specs.Ids.{at, put, without}
use Rattle.id_table.specs.Order.{Ascends, ascends-put, found_put, ascends-without, found_without}
use Rattle.control_message.specs.declared.message.Message.TheVariants.{Hello, Cdn}
use Rattle.control_channel.specs.Numbers.{Numbers, let_go_at, ticked_at}
use Rattle.send_window.specs.Window.{may_go, due_at}
use Rattle.send_window.specs.Congestion.{halved}
use Rattle.tunnel_fsm.specs.Rows.{state_number}
use Rattle.call_fsm.specs.declared.table.CallState.TheVariants.{WaitTunnel}
use Rattle.call_fsm.specs.declared.table.CallEvent.{CallEvent}
use Rattle.call_fsm.specs.declared.table.CallEvent.TheVariants as call_event
use Rattle.end_model.specs.declared.event.Event.{Event}
use Rattle.end_model.specs.declared.moves.EndTold.{EndTold}
use Rattle.end_model.specs.declared.moves.Greeted.{Greeted}
use Rattle.end_model.specs.declared.moves.Requested.{Requested}
use Rattle.end_model.specs.declared.moves.Added.{Added}
use Rattle.end_model.specs.declared.moves.EndSilent.{EndSilent}
use Rattle.end_model.specs.declared.moves.LetGo.{LetGo}
use Rattle.end_model.specs.declared.moves.Repeated.{Repeated}
use Rattle.end_model.specs.declared.moves.Negotiated.{Negotiated}
use Rattle.end_model.specs.declared.moves.Counted.{Counted}
use Rattle.end_model.specs.declared.moves.FrameSent.{FrameSent}
use Rattle.end_model.specs.declared.moves.FrameUp.{FrameUp}
use Rattle.end_model.specs.declared.moves.Move.{Move}
use Rattle.end_model.specs.declared.moves.Move.TheVariants as move
use Rattle.end_model.specs.declared.tunnel.Call.{Call}
use Rattle.end_model.specs.declared.tunnel.CallPlace.{CallPlace}
use Rattle.end_names.specs.declared.role.Role.{Role}
use Rattle.end_names.specs.Names.{calling_number}
use Rattle.end_model.specs.Calls.{call_row, row_for, is_told, advanced, counted, rung}
use Rattle.end_model.specs.Tunnels.{Tunnel}
use Rattle.end_model.specs.Channels.{has_room}
use Rattle.end_model.specs.Messages.{request_of}
use Rattle.end_model.specs.Links.{with_link}
use Rattle.end_model.specs.End.{End, new_place}
use Rattle.world_model.specs.World.{Sender, Deed, config_of}
use Rattle.step_laws.specs.Callers.{wanted_by_lac}
use Rattle.step_laws.specs.Letters.{Letter, letters_of}
use Rattle.call_link.specs.Laws.{turn_at}
use Rattle.step_laws.specs.Codes.{codes_fit}
use Rattle.step_laws.specs.Moves.{with_tunnel, with_letter_as}
use Rattle.connection_laws.specs.Accounts.{Part, Unmade, Opener, Acceptor, Account, about, entered_by, gives, gives_also}
use Rattle.frame_laws.specs.Plain.{number_hides}
use Rattle.connection_laws.specs.Facts.{Accounts, IsNoOpening, IsSpelled, TellsOwn, IsOpen, partner_in, AllWait, IsShut, IsInState, LiveOk, Within}
use Rattle.connection_laws.proofs.Keeps.{IsDeed, after, IsMoved}
use Rattle.connection_laws.proofs.Puts.{IsOnly, EndPut}
use Rattle.connection_laws.proofs.Later.{extends_same, DeclinesNone, MayEnter, after_move, only_after, same_after}
use Rattle.connection_laws.proofs.States.{no_call, waits_untold, rung_waits}
use Rattle.connection_laws.proofs.Removed.{removed_keeps}
use Rattle.connection_laws.proofs.GoingOn.{GoesOn, with_given, goes_on}
use Rattle.connection_laws.proofs.Written.{request_written}

-- ---- one letter is given

-- a tunnel that is given a letter, where its calls change too
abbrev with_one : Letter → List (ℕ × Call) → Tunnel → Tunnel
with_one l calls t = record (with_letter_as l.session l.message l.hidden t) { calls = calls }

-- what a letter and the tunnel that is given it need
record IsGiven (i : ℕ) (t : Tunnel) (l : Letter) (calls : List (ℕ × Call)) : Type 0 where
  spelled : IsSpelled l
  plain : IsNoOpening l.message
  told : TellsOwn i l.message
  room : has_room t.control ≡ true
  remotes : (s : ℕ) (c : Call) → at calls s ≡ Some c → c.remote < 65536
  order : Ascends calls
  open_is : state_number t.control.state ≡ 3

-- an end in which a tunnel is put, and places of calls change
abbrev with_places : End → ℕ → Tunnel → List (ℕ × CallPlace) → End
with_places e i u places = record (with_tunnel e i u) { calls = places }

put_places : (e : End) (i : ℕ) (u : Tunnel) (places : List (ℕ × CallPlace)) → EndPut e (with_places e i u places) i u
put_places e i u places = record {
  role = refl;
  config = refl;
  tunnels = refl;
  next = omega arith;
  last = refl;
  sessions = omega arith;
  last_session = refl;
}

module _ (accs : Accounts) (n : ℕ) (e : End) (sender : Option Sender) (ev : Event) (d : Deed) (within : Within accs n e sender ev) (m : Move)
    (deed : IsDeed d n e.role sender m) (none : DeclinesNone m) (t : Tunnel) (there : at e.tunnels (about m) ≡ Some t) where
  live : LiveOk accs n (about m) (accs n (about m)) t
  live = within.end.live (about m) t there

  one_goes_on : (l : Letter) (calls : List (ℕ × Call)) → IsGiven (about m) t l calls → GoesOn t (with_one l calls t) (l ∷ [])
  one_goes_on l calls h =
      let lt = ltb-true t.control.channel.window.queued 8192 h.room in
      let out = live.outstanding in
      record {
        local = refl;
        peer = refl;
        remote = refl;
        state = refl;
        letters = refl;
        acked = refl;
        queued = refl;
        few = omega arith;
        outstanding = omega arith;
        taken = refl;
        calls = h.remotes;
        order = h.order;
        recovery = refl;
        query = refl;
        how = inl h.open_is;
      }

  gives_is : gives d ≡ letters_of e.role (config_of n 0 None false) m
  gives_is = rw (deed.role_is, deed.node_is, deed.move_is) refl

  given_keeps : (l : Letter) (calls : List (ℕ × Call)) (places : List (ℕ × CallPlace)) → MayEnter m (accs n (about m))
      → entered_by d m (accs n (about m)) ≡ gives_also d (accs n (about m)) → letters_of e.role (config_of n 0 None false) m ≡ l ∷ [] → IsGiven (about m) t l calls
      → Within (after accs d) n (with_places e (about m) (with_one l calls t) places) sender ev
  given_keeps l calls places may enters one h =
      let i = about m in
      goes_on accs (after accs d) n e (with_places e i (with_one l calls t) places) sender ev within i t (with_one l calls t) (l ∷ []) there
      (one_goes_on l calls h)
      (only_after accs d n m none deed.node_is deed.move_is may)
      (after_move accs d n m none deed.node_is deed.move_is ∙ enters ∙ ap (λ ls. with_given ls (accs n i)) (gives_is ∙ one))
      (h.spelled, tt) (h.plain, tt) (h.told, tt)
      (put_places e i (with_one l calls t) places)

-- the peer is told of the end of a call in an open tunnel alone: in another one its calls wait, or it has none
told_open : (accs : Accounts) (i : ℕ) (a : Account) (t : Tunnel) (role : Role) (on : CallEvent) (s : ℕ) (c : Call) → at t.calls s ≡ Some c
    → is_told (row_for role c on).1 ≡ true → (r : Part) → IsInState accs i a t r → state_number t.control.state ≡ 3
told_open accs i a t role on s c there told Unmade h = absurd h
told_open accs i a t role on s c there told Opener h = ⊎_elim
    (λ (k : (state_number t.control.state ≡ 1) × (a.remote ≡ 0) × IsOpen a × AllWait t.calls).
    let waits = k.3 s c there in
    let g : is_told (call_row role WaitTunnel on).1 ≡ true = rw waits at told in
    absurd (true≢false (sym g ∙ waits_untold role on)))
    (λ rest. ⊎_elim
    (λ (k : (state_number t.control.state ≡ 3) × (a.remote ≡ 0 → ⊥) × IsOpen a). k.0)
    (λ (k : IsShut a t). absurd (no_call t.calls s c there k.2))
    rest)
    h
told_open accs i a t role on s c there told Acceptor h = ⊎_elim
    (λ (k : (state_number t.control.state ≡ 2) × (t.calls ≡ []) × IsOpen a). absurd (no_call t.calls s c there k.1))
    (λ rest. ⊎_elim
    (λ (k : (state_number t.control.state ≡ 3) × ((partner_in accs a).remote ≡ i) × IsOpen a). k.0)
    (λ (k : IsShut a t). absurd (no_call t.calls s c there k.2))
    rest)
    h

-- the end of a live call is told
pub end_told_keeps : (accs : Accounts) (n : ℕ) (e x : End) (sender : Option Sender) (moment : ℕ) (ev : Event) (m : EndTold) (d : Deed)
    → IsMoved accs n e x sender moment ev (move.EndTold m) d → Within (after accs d) n x sender ev
end_told_keeps accs n e x sender moment ev m d h =
    let o = h.does in
    let t = o.tunnel in
    let live = h.within.end.live m.tunnel t o.there in
    subst (λ y. Within (after accs d) n y sender ev) (sym o.after)
    (given_keeps accs n e sender ev d h.within (move.EndTold m) h.deed tt t o.there
    (record { tunnel = m.tunnel; place = m.given; session = m.remote; message = Cdn m.session m.result m.error; hidden = None })
    (without t.calls m.session) _ tt refl refl
    (record {
      spelled = record { written = (let k = codes_fit e t ev moment m.session o.call o.on m.result m.error o.why in (o.session, k.0, k.1)); hides = tt; session = rw o.remote (live.calls m.session o.call o.live) };
      plain = tt;
      told = tt;
      room = o.room;
      remotes = λ s c f. live.calls s c (found_without t.calls m.session s c live.order f).1;
      order = ascends-without m.session t.calls live.order;
      open_is = told_open accs m.tunnel (accs n m.tunnel) t e.role o.on m.session o.call o.live o.row (accs n m.tunnel).part live.state;
    }))

-- a quiet tunnel says that it is there
pub greeted_keeps : (accs : Accounts) (n : ℕ) (e x : End) (sender : Option Sender) (moment : ℕ) (ev : Event) (m : Greeted) (d : Deed)
    → IsMoved accs n e x sender moment ev (move.Greeted m) d → Within (after accs d) n x sender ev
greeted_keeps accs n e x sender moment ev m d h =
    let o = h.does in
    let t = o.tunnel in
    let live = h.within.end.live m.tunnel t o.there in
    subst (λ y. Within (after accs d) n y sender ev) (sym o.after)
    (given_keeps accs n e sender ev d h.within (move.Greeted m) h.deed tt t o.there
    (record { tunnel = m.tunnel; place = m.given; session = 0; message = Hello; hidden = None }) t.calls e.calls tt refl refl
    (record {
      spelled = record { written = tt; hides = tt; session = omega arith };
      plain = tt;
      told = tt;
      room = o.room;
      remotes = live.calls;
      order = live.order;
      open_is = o.open_is;
    }))

-- a call that changed, but for its state
calls_put : (calls : List (ℕ × Call)) (s : ℕ) (k : Call) → ((q : ℕ) (c : Call) → at calls q ≡ Some c → c.remote < 65536) → k.remote < 65536
    → (q : ℕ) (c : Call) → at (put calls s k) q ≡ Some c → c.remote < 65536
calls_put calls s k olds fits q c f =
    ⊎_elim (λ (a : (q ≡ s) × (k ≡ c)). rw (← a.1) fits) (λ a. olds q c a.1) (found_put calls s k q c f)

advanced_remote : (r : Role) (ev : CallEvent) (moment : ℕ) (c : Call) → (advanced r ev moment c).remote ≡ c.remote
unfolding advanced
advanced_remote r ev moment c = refl

rung_remote : (r : Role) (who : List ℕ) (moment : ℕ) → (rung r who moment).remote ≡ 0
unfolding rung advanced
rung_remote r who moment = refl

-- a call is asked for
pub requested_keeps : ((who : List ℕ) → length (calling_number who) ≡ 12) → (accs : Accounts) (n : ℕ) (e x : End) (sender : Option Sender) (moment : ℕ)
    (ev : Event) (m : Requested) (d : Deed) → IsMoved accs n e x sender moment ev (move.Requested m) d → Within (after accs d) n x sender ev
requested_keeps digits accs n e x sender moment ev m d h =
    let o = h.does in
    let t = o.tunnel in
    let live = h.within.end.live m.tunnel t o.there in
    let call = advanced e.role call_event.TunnelOpen moment o.call in
    subst (λ y. Within (after accs d) n y sender ev) (sym o.after)
    (given_keeps accs n e sender ev d h.within (move.Requested m) h.deed tt t o.there
    (record { tunnel = m.tunnel; place = m.given; session = 0; message = request_of m.session m.subscriber; hidden = m.hidden }) (put t.calls m.session call) _ tt refl refl
    (record {
      spelled = record {
        written = request_written digits m.session m.subscriber o.session;
        hides = number_hides e.config m.session m.subscriber m.hidden o.session (digits m.subscriber) o.hides;
        session = omega arith;
      };
      plain = tt;
      told = tt;
      room = o.room;
      remotes = calls_put t.calls m.session call live.calls
          (rw (advanced_remote e.role call_event.TunnelOpen moment o.call) (live.calls m.session o.call o.waits));
      order = ascends-put m.session call t.calls live.order;
      open_is = o.open_is;
    }))

-- ---- nothing is given

-- what a tunnel whose account stays keeps
record Stays (t u : Tunnel) : Type 0 where
  local : u.control.local ≡ t.control.local
  peer : u.control.peer ≡ t.control.peer
  remote : u.control.remote ≡ t.control.remote
  state : u.control.state ≡ t.control.state
  letters : u.letters ≡ t.letters
  acked : u.control.channel.window.acked ≡ t.control.channel.window.acked
  queued : u.control.channel.window.queued ≡ t.control.channel.window.queued
  outstanding : u.control.channel.window.outstanding ≤ u.control.channel.window.queued
  taken : u.control.channel.inbox.taken ≡ t.control.channel.inbox.taken
  calls : (s : ℕ) (c : Call) → at u.calls s ≡ Some c → c.remote < 65536
  order : Ascends u.calls
  recovery : u.recovery ≡ t.recovery
  query : u.query ≡ t.query
  how : (state_number t.control.state ≡ 3)
      ⊎ ((AllWait t.calls → AllWait u.calls) × ((state_number t.control.state ≡ 1 → ⊥) → t.calls ≡ [] → u.calls ≡ []))

only_same : (accs : Accounts) (n i : ℕ) → IsOnly accs accs n i
only_same accs n i = record { here = extends_same (accs n i); others = λ m j other. refl }

stays_keeps : (accs : Accounts) (n : ℕ) (e x : End) (sender : Option Sender) (ev : Event) → Within accs n e sender ev → (i : ℕ) (t u : Tunnel)
    → at e.tunnels i ≡ Some t → Stays t u → EndPut e x i u → Within accs n x sender ev
stays_keeps accs n e x sender ev within i t u there s put_is =
    let live = within.end.live i t there in
    let few = live.few in
    let queued = s.queued in
    goes_on accs accs n e x sender ev within i t u [] there
    (record {
      local = s.local;
      peer = s.peer;
      remote = s.remote;
      state = s.state;
      letters = s.letters ∙ sym (append-nil t.letters);
      acked = s.acked;
      queued = omega (arith, queued);
      few = omega (arith, queued);
      outstanding = s.outstanding;
      taken = s.taken;
      calls = s.calls;
      order = s.order;
      recovery = s.recovery;
      query = s.query;
      how = ⊎_elim (λ three. inl three) (λ k. inr (refl, k.0, k.1)) s.how;
    })
    (only_same accs n i)
    (ap (λ ls. record (accs n i) { given = ls }) (sym (append-nil (accs n i).given)))
    tt tt tt put_is

-- no account changes in the move
still : (accs : Accounts) (n : ℕ) (e x : End) (sender : Option Sender) (moment : ℕ) (ev : Event) (m : Move) (d : Deed)
    → IsMoved accs n e x sender moment ev m d → DeclinesNone m → entered_by d m (accs n (about m)) ≡ accs n (about m) → Within accs n x sender ev
    → Within (after accs d) n x sender ev
still accs n e x sender moment ev m d h none same w =
    subst (λ ms. Within ms n x sender ev) (sym (same_after accs d n m none h.deed.node_is h.deed.move_is same)) w

-- nothing changes at all
pub quiet_keeps : (accs : Accounts) (n : ℕ) (e x : End) (sender : Option Sender) (moment : ℕ) (ev : Event) (i : ℕ) (d : Deed)
    → IsMoved accs n e x sender moment ev (move.Quiet i) d → Within (after accs d) n x sender ev
quiet_keeps accs n e x sender moment ev i d h =
    still accs n e x sender moment ev (move.Quiet i) d h tt refl (subst (λ y. Within accs n y sender ev) (sym h.does.after) h.within)

pub frame_sent_keeps : (accs : Accounts) (n : ℕ) (e x : End) (sender : Option Sender) (moment : ℕ) (ev : Event) (m : FrameSent) (d : Deed)
    → IsMoved accs n e x sender moment ev (move.FrameSent m) d → Within (after accs d) n x sender ev
frame_sent_keeps accs n e x sender moment ev m d h =
    still accs n e x sender moment ev (move.FrameSent m) d h tt refl (subst (λ y. Within accs n y sender ev) (sym h.does.after) h.within)

pub frame_up_keeps : (accs : Accounts) (n : ℕ) (e x : End) (sender : Option Sender) (moment : ℕ) (ev : Event) (m : FrameUp) (d : Deed)
    → IsMoved accs n e x sender moment ev (move.FrameUp m) d → Within (after accs d) n x sender ev
frame_up_keeps accs n e x sender moment ev m d h =
    still accs n e x sender moment ev (move.FrameUp m) d h tt refl (subst (λ y. Within accs n y sender ev) (sym h.does.after) h.within)

-- the tunnel isn't there any more
pub cleared_keeps : (accs : Accounts) (n : ℕ) (e x : End) (sender : Option Sender) (moment : ℕ) (ev : Event) (i : ℕ) (booked : Bool) (d : Deed)
    → IsMoved accs n e x sender moment ev (move.Cleared i booked) d → Within (after accs d) n x sender ev
cleared_keeps accs n e x sender moment ev i booked d h =
    still accs n e x sender moment ev (move.Cleared i booked) d h tt refl
    (subst (λ y. Within accs n y sender ev) (sym h.does.after) (removed_keeps accs n e sender ev h.within i _))

-- ---- its calls change

-- only the calls of a tunnel change
calls_stay : (t : Tunnel) (calls : List (ℕ × Call)) → t.control.channel.window.outstanding ≤ t.control.channel.window.queued
    → ((s : ℕ) (c : Call) → at calls s ≡ Some c → c.remote < 65536) → Ascends calls
    → (state_number t.control.state ≡ 3)
    ⊎ ((AllWait t.calls → AllWait calls) × ((state_number t.control.state ≡ 1 → ⊥) → t.calls ≡ [] → calls ≡ []))
    → Stays t (record t { calls = calls })
calls_stay t calls out fits order how = record {
  local = refl;
  peer = refl;
  remote = refl;
  state = refl;
  letters = refl;
  acked = refl;
  queued = refl;
  outstanding = out;
  taken = refl;
  calls = fits;
  order = order;
  recovery = refl;
  query = refl;
  how = how;
}

-- a call of which the peer knows nothing ends
pub end_silent_keeps : (accs : Accounts) (n : ℕ) (e x : End) (sender : Option Sender) (moment : ℕ) (ev : Event) (m : EndSilent) (d : Deed)
    → IsMoved accs n e x sender moment ev (move.EndSilent m) d → Within (after accs d) n x sender ev
end_silent_keeps accs n e x sender moment ev m d h =
    let o = h.does in
    let t = o.tunnel in
    let live = h.within.end.live m.tunnel t o.there in
    still accs n e x sender moment ev (move.EndSilent m) d h tt refl
    (subst (λ y. Within accs n y sender ev) (sym o.after)
    (stays_keeps accs n e _ sender ev h.within m.tunnel t (record t { calls = without t.calls m.session }) o.there
    (calls_stay t (without t.calls m.session) live.outstanding
    (λ s c f. live.calls s c (found_without t.calls m.session s c live.order f).1)
    (ascends-without m.session t.calls live.order)
    (inr (
      (λ wait s c f. wait s c (found_without t.calls m.session s c live.order f).1),
      (λ one none. absurd (no_call t.calls m.session o.call o.live none)),
    )))
    (put_places e m.tunnel (record t { calls = without t.calls m.session }) _)))

-- one more call that waits
waits_put : (calls : List (ℕ × Call)) (s : ℕ) (k : Call) → k.state ≡ WaitTunnel → AllWait calls → AllWait (put calls s k)
waits_put calls s k is wait q c f =
    ⊎_elim (λ (a : (q ≡ s) × (k ≡ c)). rw (← a.1) is) (λ a. wait q c a.1) (found_put calls s k q c f)

-- a call is born, over a tunnel that is open or isn't answered yet
pub added_keeps : (accs : Accounts) (n : ℕ) (e x : End) (sender : Option Sender) (moment : ℕ) (ev : Event) (m : Added) (d : Deed)
    → IsMoved accs n e x sender moment ev (move.Added m) d → Within (after accs d) n x sender ev
added_keeps accs n e x sender moment ev m d h =
    let o = h.does in
    let t = o.tunnel in
    let live = h.within.end.live m.tunnel t o.there in
    let call = rung e.role m.subscriber moment in
    let u : Tunnel = record t { calls = put t.calls m.session call } in
    let same = o.after
    ∙ ap (λ ids. record (with_tunnel e m.tunnel u) { session_ids = ids; calls = put e.calls m.session (new_place m.tunnel) })
    (next_is e.session_ids m.session o.drawn) in
    let drawn = draw_is e.session_ids m.session o.drawn in
    let next = drawn.0 in
    still accs n e x sender moment ev (move.Added m) d h tt refl
    (subst (λ y. Within accs n y sender ev) (sym same)
    (stays_keeps accs n e _ sender ev h.within m.tunnel t u o.there
    (calls_stay t (put t.calls m.session call) live.outstanding
    (calls_put t.calls m.session call live.calls (rw (rung_remote e.role m.subscriber moment) (omega arith)))
    (ascends-put m.session call t.calls live.order)
    (⊎_elim
    (λ (three : state_number t.control.state ≡ 3). inl three)
    (λ (one : state_number t.control.state ≡ 1). inr (
      waits_put t.calls m.session call (rung_waits e.role m.subscriber moment (wanted_by_lac e ev t.control.peer o.wants)),
      (λ other none. absurd (other one)),
    ))
    o.goes))
    (record {
      role = refl;
      config = refl;
      tunnels = refl;
      next = omega arith;
      last = refl;
      sessions = omega (arith, next);
      last_session = refl;
    })))

-- a call that waited waits on, where it has its state
waits_linked : (calls : List (ℕ × Call)) (s : ℕ) (c k : Call) → at calls s ≡ Some c → k.state ≡ c.state → AllWait calls → AllWait (put calls s k)
waits_linked calls s c k there same wait = waits_put calls s k (same ∙ wait s c there) wait

-- the LCP end of a call made a step
pub negotiated_keeps : (accs : Accounts) (n : ℕ) (e x : End) (sender : Option Sender) (moment : ℕ) (ev : Event) (m : Negotiated) (d : Deed)
    → IsMoved accs n e x sender moment ev (move.Negotiated m) d → Within (after accs d) n x sender ev
negotiated_keeps accs n e x sender moment ev m d h =
    let o = h.does in
    let t = o.tunnel in
    let live = h.within.end.live m.tunnel t o.there in
    let call = with_link (turn_at o.calls.by o.calls.link).link o.call in
    let u : Tunnel = record t { calls = put t.calls m.session call } in
    still accs n e x sender moment ev (move.Negotiated m) d h tt refl
    (subst (λ y. Within accs n y sender ev) (sym o.after)
    (stays_keeps accs n e _ sender ev h.within m.tunnel t u o.there
    (calls_stay t (put t.calls m.session call) live.outstanding
    (calls_put t.calls m.session call live.calls (live.calls m.session o.call o.live))
    (ascends-put m.session call t.calls live.order)
    (inr (
      waits_linked t.calls m.session o.call call o.live refl,
      (λ one none. absurd (no_call t.calls m.session o.call o.live none)),
    )))
    (put_places e m.tunnel u _)))

-- a data message of a call had a number
pub counted_keeps : (accs : Accounts) (n : ℕ) (e x : End) (sender : Option Sender) (moment : ℕ) (ev : Event) (m : Counted) (d : Deed)
    → IsMoved accs n e x sender moment ev (move.Counted m) d → Within (after accs d) n x sender ev
counted_keeps accs n e x sender moment ev m d h =
    let o = h.does in
    let t = o.tunnel in
    let live = h.within.end.live m.tunnel t o.there in
    let call = counted o.call in
    let u : Tunnel = record t { calls = put t.calls m.session call } in
    still accs n e x sender moment ev (move.Counted m) d h tt refl
    (subst (λ y. Within accs n y sender ev) (sym o.after)
    (stays_keeps accs n e _ sender ev h.within m.tunnel t u o.there
    (calls_stay t (put t.calls m.session call) live.outstanding
    (calls_put t.calls m.session call live.calls (live.calls m.session o.call o.live))
    (ascends-put m.session call t.calls live.order)
    (inr (
      waits_linked t.calls m.session o.call call o.live refl,
      (λ one none. absurd (no_call t.calls m.session o.call o.live none)),
    )))
    (put_places e m.tunnel u _)))

-- ---- its window changes

-- the window and the timer of a tunnel's channel change, and neither what is acknowledged nor how many letters there are
record WindowOnly (c d : Numbers) : Type 0 where
  acked : d.window.acked ≡ c.window.acked
  queued : d.window.queued ≡ c.window.queued
  outstanding : d.window.outstanding ≤ d.window.queued
  taken : d.inbox.taken ≡ c.inbox.taken

window_stays : (accs : Accounts) (n i : ℕ) (a : Account) (t : Tunnel) (c : Numbers) → LiveOk accs n i a t → WindowOnly t.control.channel c
    → Stays t (record t { control = record t.control { channel = c } })
window_stays accs n i a t c live h = record {
  local = refl;
  peer = refl;
  remote = refl;
  state = refl;
  letters = refl;
  acked = h.acked;
  queued = h.queued;
  outstanding = h.outstanding;
  taken = h.taken;
  calls = live.calls;
  order = live.order;
  recovery = refl;
  query = refl;
  how = inr ((λ wait. wait), (λ one none. none));
}

first_holds : (a b : Bool) → (a && b) ≡ true → a ≡ true
first_holds true b h = refl
first_holds false b h = h

let_go_only : (c : Numbers) (moment : ℕ) → c.window.outstanding ≤ c.window.queued → WindowOnly c (let_go_at c moment)
let_go_only c moment le = by c.frozen (may_go c.window) refl
  where
    by : (f g : Bool) → may_go c.window ≡ g
        → WindowOnly c (cond f c (record c {
          window = cond g (record c.window {
            outstanding = c.window.outstanding + 1;
            since = if c.window.outstanding == 0 then moment else c.window.since;
            repetitions = if c.window.outstanding == 0 then 0 else c.window.repetitions;
          }) c.window;
        }))
    by true g is = record { acked = refl; queued = refl; outstanding = le; taken = refl }
    by false true is =
        let lt = ltb-true c.window.outstanding c.window.queued (first_holds _ _ is) in
        record { acked = refl; queued = refl; outstanding = omega arith; taken = refl }
    by false false is = record { acked = refl; queued = refl; outstanding = le; taken = refl }

ticked_only : (c : Numbers) (moment : ℕ) → c.window.outstanding ≤ c.window.queued → WindowOnly c (ticked_at c moment)
ticked_only c moment le = by c.frozen (due_at c.window moment && nat_lt c.window.repetitions 5)
  where
    by : (f g : Bool)
        → WindowOnly c (cond f c (record c {
          window = cond g (record c.window {
            congestion = halved c.window.congestion;
            since = moment;
            repetitions = c.window.repetitions + 1;
          }) c.window;
        }))
    by true g = record { acked = refl; queued = refl; outstanding = le; taken = refl }
    by false true = record { acked = refl; queued = refl; outstanding = le; taken = refl }
    by false false = record { acked = refl; queued = refl; outstanding = le; taken = refl }

window_keeps : (accs : Accounts) (n : ℕ) (e x : End) (sender : Option Sender) (moment : ℕ) (ev : Event) (m : Move) (d : Deed)
    → IsMoved accs n e x sender moment ev m d → DeclinesNone m → entered_by d m (accs n (about m)) ≡ accs n (about m) → (t : Tunnel) (c : Numbers)
    → at e.tunnels (about m) ≡ Some t → x ≡ with_tunnel e (about m) (record t { control = record t.control { channel = c } })
    → (t.control.channel.window.outstanding ≤ t.control.channel.window.queued → WindowOnly t.control.channel c) → Within (after accs d) n x sender ev
window_keeps accs n e x sender moment ev m d h none same t c there is stays =
    let i = about m in
    let u : Tunnel = record t { control = record t.control { channel = c } } in
    let live = h.within.end.live i t there in
    still accs n e x sender moment ev m d h none same
    (subst (λ y. Within accs n y sender ev) (sym is)
    (stays_keeps accs n e _ sender ev h.within i t u there (window_stays accs n i (accs n i) t c live (stays live.outstanding)) (put_places e i u e.calls)))

-- a letter is outstanding
pub let_go_keeps : (accs : Accounts) (n : ℕ) (e x : End) (sender : Option Sender) (moment : ℕ) (ev : Event) (m : LetGo) (d : Deed)
    → IsMoved accs n e x sender moment ev (move.LetGo m) d → Within (after accs d) n x sender ev
let_go_keeps accs n e x sender moment ev m d h =
    let o = h.does in
    window_keeps accs n e x sender moment ev (move.LetGo m) d h tt refl o.tunnel (let_go_at o.tunnel.control.channel moment) o.there o.after
    (let_go_only o.tunnel.control.channel moment)

-- a letter is repeated
pub repeated_keeps : (accs : Accounts) (n : ℕ) (e x : End) (sender : Option Sender) (moment : ℕ) (ev : Event) (m : Repeated) (d : Deed)
    → IsMoved accs n e x sender moment ev (move.Repeated m) d → Within (after accs d) n x sender ev
repeated_keeps accs n e x sender moment ev m d h =
    let o = h.does in
    window_keeps accs n e x sender moment ev (move.Repeated m) d h tt refl o.tunnel (ticked_at o.tunnel.control.channel moment) o.there o.after
    (ticked_only o.tunnel.control.channel moment)
