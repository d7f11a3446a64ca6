-- A tunnel that takes a letter plainly, and one that is closed by it, keep what holds.
use Rattle.std.proofs.Common.{◌≡◌, ◌⊎◌, inl, inr, ⊎_elim, ℕ, ◌≤◌, List, [], length, refl, ap, ◌∙◌, subst, Option, Some, Ok, arith, sym}
use Rattle.std.specs.Prelude.{unwrap_or}
use Rattle.id_table.specs.Ids.{at}
use Rattle.id_table.specs.Order.{same_or_not}
use Rattle.l2tp_header.specs.declared.header.Header.{Header}
use Rattle.control_message.specs.declared.message.Message.{Message}
use Rattle.control_message.specs.declared.message.Message.TheVariants.{Sccrq, Sccrp, Scccn, StopCcn, Hello, Ocrq, Ocrp, Occn, Icrq, Icrp, Iccn, Cdn, Wen, Sli, Fsq, Fsr}
use Rattle.control_message.specs.declared.message.Opening.{Opening}
use Rattle.recv_window.specs.declared.Class.TheVariants.{Next}
use Rattle.recv_window.specs.Window.{class_of, ClassIsTrue}
use Rattle.tunnel_fsm.specs.declared.table.TunnelState.TheVariants as state
use Rattle.tunnel_fsm.specs.declared.table.TunnelEvent.TheVariants as event
use Rattle.tunnel_fsm.specs.Rows.{state_number}
use Rattle.end_model.specs.declared.event.Event.{Event}
use Rattle.end_model.specs.declared.moves.ClosedBy.{ClosedBy}
use Rattle.end_model.specs.declared.moves.TookPlain.{TookPlain}
use Rattle.end_model.specs.declared.moves.Place.{Place}
use Rattle.end_model.specs.declared.moves.Move.TheVariants as move
use Rattle.l2tp_header.specs.Reading.{body_of}
use Rattle.end_model.specs.Reading.{message_in, TunnelFault, tunnel_fault_in}
use Rattle.end_model.specs.Tunnels.{Tunnel}
use Rattle.end_model.specs.Channels.{counts_taken}
use Rattle.end_model.specs.End.{End}
use Rattle.world_model.specs.World.{Sender, Deed}
use Rattle.step_laws.specs.Moves.{Came, IsNext, SaysStop}
use Rattle.frame_laws.specs.Codecs.{Codecs}
use Rattle.frame_laws.specs.Plain.{IsReadAs}
use Rattle.connection_laws.specs.Accounts.{Acceptor, Account}
use Rattle.connection_laws.specs.Facts.{Accounts, IsStopCcn, IsLost, LiveOk, Comes, Within}
use Rattle.connection_laws.specs.Steps.{StopLetter, StopOfNone, StopIsHeard}
use Rattle.connection_laws.proofs.Keeps.{after, IsMoved}
use Rattle.connection_laws.proofs.Later.{after_move, only_after}
use Rattle.connection_laws.proofs.States.{lost_unless, not_closed, closed_so, is_open_so, is_shut_so}
use Rattle.connection_laws.proofs.Hearing.{sender_in, Sends, Chosen, Asks, Leaves, Linked, FromOpener, FromAcceptor, opener_of, acceptor_of, heard_to, some_in, letter_some, Heard, HeardRefusal, heard}
use Rattle.connection_laws.proofs.Numbers.{next_is_expected}
use Rattle.connection_laws.proofs.NextHeard.{HeardNext, next_heard}
use Rattle.connection_laws.proofs.Said.{opener_goes}
use Rattle.connection_laws.proofs.Acknowledging.{put_of}
use Rattle.connection_laws.proofs.Taking.{taken_as, takes_only, paired_if, pair_takes}
use Rattle.connection_laws.proofs.PairMoves.{took, took_on}
use Rattle.connection_laws.proofs.Alike.{IsNoRequest, read_plainly, read_same, read_sound}
use Rattle.connection_laws.proofs.Ignoring.{IsDue, copy_due, refusal_due, ignores_only, ignores}

-- ---- StopCCNs

record IsStopSaid (m : Message) : Type 0 where
  tunnel : ℕ
  code : ℕ
  error : Option ℕ
  is : m ≡ StopCcn tunnel code error

stop_said : (m : Message) → IsStopCcn m → IsStopSaid m
stop_said (StopCcn tunnel code error) s = record { tunnel = tunnel; code = code; error = error; is = refl }
stop_said (Sccrq o) s = absurd s
stop_said (Sccrp o) s = absurd s
stop_said (Scccn response) s = absurd s
stop_said Hello s = absurd s
stop_said (Ocrq session) s = absurd s
stop_said Ocrp s = absurd s
stop_said Occn s = absurd s
stop_said Wen s = absurd s
stop_said Sli s = absurd s
stop_said (Fsq sessions) s = absurd s
stop_said (Fsr sessions) s = absurd s
stop_said (Icrq session serial calling) s = absurd s
stop_said (Icrp session) s = absurd s
stop_said (Iccn speed framing sequenced) s = absurd s
stop_said (Cdn session code error) s = absurd s

-- a letter that is one says so
says_stop : (body : List ℕ) (m : Message) → IsReadAs m body → SaysStop body → IsStopCcn m
says_stop body m reads says = ⊎_elim
    (λ (k : (id : ℕ) × (result : ℕ) × (error : Option ℕ) × (message_in body ≡ Ok (StopCcn id result error))).
    subst IsStopCcn (sym (read_same m body reads (StopCcn k.0 k.1 k.2) k.3 tt)) tt)
    (λ (k : (g : TunnelFault) × (tunnel_fault_in body ≡ Some g) × (g.event ≡ event.StopCcnCame)).
    let none = read_sound m body reads in
    let fault = k.1 in
    let no : ⊥ = cc in absurd no)
    says

-- ---- the next letter, whatever it says

pub record CameCopy (accs : Accounts) (n : ℕ) (e : End) (sender : Option Sender) (ev : Event) (comes : Comes accs n e sender ev) (i : ℕ) (t : Tunnel) (h : Header)
    (bytes : List ℕ) : Type 0 where
  pub heard : Heard accs n e sender ev comes i t h bytes
  pub next : HeardNext accs n i heard.o h bytes

-- or it is a StopCCN of no tunnel, and the tunnel has taken nothing
pub record CameRefusal (accs : Accounts) (n : ℕ) (e : End) (sender : Option Sender) (ev : Event) (comes : Comes accs n e sender ev) (i : ℕ) (t : Tunnel)
    (h : Header) (bytes : List ℕ) : Type 0 where
  pub heard : HeardRefusal accs n e sender ev comes i t h bytes
  pub number : heard.o.ns ≡ length (accs n i).taken

refusal_number : ClassIsTrue → (accs : Accounts) (n : ℕ) (e : End) (sender : Option Sender) (ev : Event) (within : Within accs n e sender ev) (i : ℕ)
    (t : Tunnel) → at e.tunnels i ≡ Some t → (h : Header) (bytes : List ℕ) → (k : HeardRefusal accs n e sender ev within.comes i t h bytes)
    → class_of (unwrap_or h.ns 0) t.control.channel.inbox ≡ Next → k.o.ns ≡ length (accs n i).taken
refusal_number classes accs n e sender ev within i t there h bytes k next =
    let taken = (within.end.live i t there).taken in
    let near = k.near.taken in
    let first = k.ns in
    next_is_expected classes k.o.ns t.control.channel.inbox (omega arith) (omega arith) (let r = k.read.ns in rw r at next) ∙ taken

pub came : Codecs → ClassIsTrue → (accs : Accounts) (n : ℕ) (e : End) (sender : Option Sender) (ev : Event) (within : Within accs n e sender ev) (i : ℕ)
    (t : Tunnel) → at e.tunnels i ≡ Some t → (k : Came) (next : IsNext ev t k)
    → CameCopy accs n e sender ev within.comes i t k.header next.comes.came.bytes
    ⊎ CameRefusal accs n e sender ev within.comes i t k.header next.comes.came.bytes
came codecs classes accs n e sender ev within i t there k next =
    let bytes = next.comes.came.bytes in
    ⊎_elim
    (λ (hears : Heard accs n e sender ev within.comes i t k.header bytes).
    inl (record {
      heard = hears;
      next = next_heard classes accs n e sender ev within i t there k.header bytes hears
          (letter_some (sender_in accs n i hears.o) hears.o k.header bytes hears.read (some_in ev k next.comes.came next.some)) next.next;
    }))
    (λ (hears : HeardRefusal accs n e sender ev within.comes i t k.header bytes).
    inr (record { heard = hears; number = refusal_number classes accs n e sender ev within i t there k.header bytes hears next.next }))
    (heard codecs accs n e sender ev within i t there k.header bytes (heard_to ev t.control k next.comes))

-- a tunnel that ignores it takes it
came_due : Codecs → ClassIsTrue → (accs : Accounts) (n : ℕ) (e : End) (sender : Option Sender) (ev : Event) (within : Within accs n e sender ev) (i : ℕ)
    (t : Tunnel) → at e.tunnels i ≡ Some t → (k : Came) → IsNext ev t k → IsDue accs n e sender ev within.comes i t
came_due codecs classes accs n e sender ev within i t there k next =
    let bytes = next.comes.came.bytes in
    ⊎_elim
    (λ (c : CameCopy accs n e sender ev within.comes i t k.header bytes). copy_due accs n e sender ev within.comes i t k.header bytes c.heard c.next)
    (λ (c : CameRefusal accs n e sender ev within.comes i t k.header bytes).
    refusal_due accs n e sender ev within.comes i t k.header bytes c.heard c.number)
    (came codecs classes accs n e sender ev within i t there k next)

-- ---- the moves

module _ (codecs : Codecs) (classes : ClassIsTrue) (accs : Accounts) (n : ℕ) (e x : End) (sender : Option Sender) (moment : ℕ) (ev : Event) (d : Deed) where
  module _ (m : TookPlain) (h : IsMoved accs n e x sender moment ev (move.TookPlain m) d) where
    abbrev t : Tunnel
    t = h.does.tunnel

    abbrev i : ℕ
    i = m.tunnel

    live : LiveOk accs n i (accs n i) t
    live = h.within.end.live i t h.does.there

    abbrev u : Tunnel
    u = took t t.control.state t.calls

    abbrev header : Header
    header = h.does.letter.header

    abbrev bytes : List ℕ
    bytes = h.does.next.comes.came.bytes

    said_there : (q : Message) → message_in (body_of bytes header) ≡ Ok q → message_in h.does.letter.body ≡ Ok q
    said_there q said = ap message_in h.does.next.comes.came.body_is ∙ said

    -- it is a letter of a list
    module _ (k : CameCopy accs n e sender ev h.within.comes i t header bytes) where
      -- what is no request is read as it is
      read_as : (q : Message) → k.next.letter.message ≡ q → IsNoRequest q → message_in (body_of bytes header) ≡ Ok q
      read_as q is plain =
          read_plainly q (body_of bytes header)
          (subst (λ (y : Message). IsReadAs y (body_of bytes header)) is k.next.reads) plain

      -- an open tunnel takes neither an SCCRP for which it waits so, nor a StopCCN
      no_reply : state_number t.control.state ≡ 1 → (opening : Opening) → k.next.letter.message ≡ Sccrp opening → ⊥
      no_reply one opening says =
          let closed = h.does.why (Sccrp opening) (said_there (Sccrp opening) (read_as (Sccrp opening) says tt)) in
          let four = closed_so t.control.state closed in
          let no : ⊥ = omega arith in
          no

      no_stop : (state_number t.control.state ≡ 4 → ⊥) → IsStopCcn k.next.letter.message → ⊥
      no_stop unclosed stops =
          let s = stop_said k.next.letter.message stops in
          unclosed (closed_so t.control.state (h.does.why (StopCcn s.tunnel s.code s.error)
          (said_there (StopCcn s.tunnel s.code s.error) (read_as (StopCcn s.tunnel s.code s.error) s.is tt))))

      takes : (state_number t.control.state ≡ 4 → ⊥) → Within (after accs d) n x sender ev
      takes unclosed =
          let mv = move.TookPlain m in
          let pair = paired_if accs n i k.heard.o t k.next.letter live unclosed no_reply (no_stop unclosed) k.next.of in
          pair_takes accs (after accs d) n e x sender ev i t u (taken_as sender m.taken mv) [] header bytes (record {
            within = h.within;
            there = h.does.there;
            unclosed = unclosed;
            heard = k.heard;
            next = k.next;
            pair = pair.0;
            told = pair.1;
            number = ap (λ (p : Place). p.number) h.does.taken;
            sender_is = refl;
            tells = tt;
            goes = took_on accs n i t live (h.counts i t h.does.there) t.control.state t.calls
                (record { remotes = live.calls; order = live.order }) (inr (refl, refl));
            only = only_after accs d n mv tt h.deed.node_is h.deed.move_is tt;
            is = after_move accs d n mv tt h.deed.node_is h.deed.move_is ∙ takes_only d n e.role sender mv m.taken (accs n i) h.deed;
            spelled = tt;
            plain = tt;
            own = tt;
            put_is = put_of e x e.calls i u h.does.after;
          })

    -- or a StopCCN of no tunnel, which an open tunnel doesn't take so
    no_refusal : (state_number t.control.state ≡ 4 → ⊥) → CameRefusal accs n e sender ev h.within.comes i t header bytes → ⊥
    no_refusal unclosed k =
        let r = k.heard.read in
        unclosed (closed_so t.control.state (h.does.why (StopCcn 0 r.result r.error) (said_there (StopCcn 0 r.result r.error) r.said)))

    leaves : state_number t.control.state ≡ 4 → Within (after accs d) n x sender ev
    leaves four =
        let mv = move.TookPlain m in
        let is_shut = is_shut_so accs i (accs n i) t (accs n i).part live.state four in
        let fits = h.counts i t h.does.there in
        ignores accs (after accs d) n e x sender ev i t u (taken_as sender m.taken mv) (accs n i).closed (record {
          within = h.within;
          there = h.does.there;
          due = came_due codecs classes accs n e sender ev h.within i t h.does.there h.does.letter h.does.next;
          ignored = tt;
          goes = record {
            local = refl;
            peer = refl;
            remote = refl;
            state = four;
            none = is_shut.2;
            letters = refl;
            acked = refl;
            queued = refl;
            outstanding = refl;
            taken = omega arith;
            recovery = refl;
            query = refl;
          };
          shuts = inr (is_shut.1, refl);
          only = only_after accs d n mv tt h.deed.node_is h.deed.move_is tt;
          is = after_move accs d n mv tt h.deed.node_is h.deed.move_is
              ∙ ignores_only d n e.role sender mv m.taken (accs n i).closed (accs n i) h.deed;
          put_is = put_of e x e.calls i u h.does.after;
        })

    -- whatever the letter says
    pub plain_keeps : Within (after accs d) n x sender ev
    plain_keeps = ⊎_elim
        (λ (four : state_number t.control.state ≡ 4). leaves four)
        (λ (unclosed : state_number t.control.state ≡ 4 → ⊥).
        ⊎_elim
        (λ (k : CameCopy accs n e sender ev h.within.comes i t header bytes). takes k unclosed)
        (λ (k : CameRefusal accs n e sender ev h.within.comes i t header bytes). absurd (no_refusal unclosed k))
        (came codecs classes accs n e sender ev h.within i t h.does.there h.does.letter h.does.next))
        (same_or_not (state_number t.control.state) 4)

  pub closed_by_keeps : (m : ClosedBy) → IsMoved accs n e x sender moment ev (move.ClosedBy m) d → Within (after accs d) n x sender ev
  closed_by_keeps m h =
      let o = h.does in
      let t = o.tunnel in
      let i = m.tunnel in
      let a = accs n i in
      let mv = move.ClosedBy m in
      let live = h.within.end.live i t o.there in
      let is_open = is_open_so accs i a t a.part live.state (not_closed t.control.state o.live) in
      let fits = h.counts i t o.there in
      let u : Tunnel = record t { control = record (counts_taken t.control) { state = state.Closed; closed = moment }; calls = [] } in
      ignores accs (after accs d) n e x sender ev i t u (taken_as sender m.taken mv) (Some (length a.taken)) (record {
        within = h.within;
        there = o.there;
        due = came_due codecs classes accs n e sender ev h.within i t o.there o.letter o.takes.next;
        ignored = tt;
        goes = record {
          local = refl;
          peer = refl;
          remote = refl;
          state = refl;
          none = refl;
          letters = refl;
          acked = refl;
          queued = refl;
          outstanding = refl;
          taken = omega arith;
          recovery = refl;
          query = refl;
        };
        shuts = inl (is_open, refl);
        only = only_after accs d n mv tt h.deed.node_is h.deed.move_is is_open;
        is = after_move accs d n mv tt h.deed.node_is h.deed.move_is ∙ ignores_only d n e.role sender mv m.taken (Some (length a.taken)) a h.deed;
        put_is = put_of e x _ i u o.after;
      })

-- ---- the StopCCN by which a tunnel is closed

pub stop_is_heard : Codecs → ClassIsTrue → StopIsHeard
stop_is_heard codecs classes accs n e x sender moment ev within m c = ⊎_elim
    (λ (k : CameCopy accs n e sender ev within.comes m.tunnel c.tunnel c.letter.header c.takes.next.comes.came.bytes). inl (of_copy k))
    (λ (k : CameRefusal accs n e sender ev within.comes m.tunnel c.tunnel c.letter.header c.takes.next.comes.came.bytes). inr (of_none k))
    (came codecs classes accs n e sender ev within m.tunnel c.tunnel c.there c.letter c.takes.next)
  where
    a : Account
    a = accs n m.tunnel

    -- a letter of a list
    of_copy : CameCopy accs n e sender ev within.comes m.tunnel c.tunnel c.letter.header c.takes.next.comes.came.bytes → StopLetter accs n m.tunnel sender
    of_copy k = by k.heard.linked
      where
        b : Account
        b = sender_in accs n m.tunnel k.heard.o

        tells : b.peer ≡ n → (b.remote ≡ m.tunnel) ⊎ ((b.remote ≡ 0) × (a.remote ≡ k.heard.o.tunnel)) → StopLetter accs n m.tunnel sender
        tells goes reaches = record {
          from = record { node = a.peer; tunnel = k.heard.o.tunnel };
          sender_is = k.heard.sender_is;
          peer = refl;
          goes = goes;
          reaches = reaches;
          letter = k.next.letter;
          there = k.next.there;
          stops = says_stop (body_of c.takes.next.comes.came.bytes c.letter.header) k.next.letter.message k.next.reads
              (subst SaysStop c.takes.next.comes.came.body_is c.says);
        }

        of_opener : a.part ≡ Acceptor → a.remote ≡ k.heard.o.tunnel → Sends b m.tunnel k.heard.o → StopLetter accs n m.tunnel sender
        of_opener here told (Chosen chosen) = tells (opener_goes accs n m.tunnel k.heard.o within.accounts here told) (inl chosen)
        of_opener here told (Asks first how) =
            let some = (acceptor_of accs n m.tunnel a (within.accounts n m.tunnel) here).some in
            let number = k.next.number in
            absurd (omega (arith, some, number, first))
        of_opener here told (Leaves lost stops) = tells (opener_goes accs n m.tunnel k.heard.o within.accounts here told) (inr (lost.1, told))

        by : Linked accs n m.tunnel k.heard.o → StopLetter accs n m.tunnel sender
        by (FromOpener here told part which) = of_opener here told which
        by (FromAcceptor here part remote peer) = tells peer (inl remote)

    -- or of no tunnel: an opener that has learned one, or was closed, has taken something
    of_none : CameRefusal accs n e sender ev within.comes m.tunnel c.tunnel c.letter.header c.takes.next.comes.came.bytes → StopOfNone accs n m.tunnel sender
    of_none k =
        let opener = opener_of accs n m.tunnel a (within.accounts n m.tunnel) k.heard.opener in
        let number = k.number in
        let first = k.heard.ns in
        let live = within.end.live m.tunnel c.tunnel c.there in
        let is_open = is_open_so accs m.tunnel a c.tunnel a.part live.state (not_closed c.tunnel.control.state c.live) in
        let unknown : a.remote ≡ 0 = ⊎_elim
        (λ (z : a.remote ≡ 0). z)
        (λ (known : a.remote ≡ 0 → ⊥). let some = opener.some known in absurd (omega (arith, number, first, some)))
        (same_or_not a.remote 0) in
        record {
          node = a.peer;
          sender_is = k.heard.sender_is;
          peer = refl;
          opener = k.heard.opener;
          remote = unknown;
          nothing = ⊎_elim
              (λ (none : a.taken ≡ []). none)
              (λ (q : IsLost a × (length a.taken ≤ 2)). absurd (lost_unless a is_open q.0))
              (opener.none unknown);
          declined = k.heard.declined;
        }
