-- What a message tells of the tunnel that sent it, where it names a tunnel; and what is known of a tunnel that isn't established.
use Rattle.std.proofs.Common.{◌≡◌, ◌⊎◌, inl, inr, ⊎_elim, ℕ, ◌<◌, ◌≤◌, true, List, [], refl, sym, ap, ap₂, ◌∙◌, subst, Option, Some, None, Ok, arith}
use Rattle.std.specs.Prelude.{slice_get, is_some}
use Rattle.l2tp_header.specs.Reading.{body_of}
use Rattle.control_message.specs.declared.message.Message.{Message}
use Rattle.control_message.specs.declared.message.Message.TheVariants.{Sccrq, Sccrp, StopCcn}
use Rattle.control_message.specs.declared.message.Opening.{Opening}
use Rattle.tunnel_fsm.specs.Rows.{state_number}
use Rattle.end_names.specs.Names.{address_of}
use Rattle.end_model.specs.declared.event.Event.{Event}
use Rattle.end_model.specs.Reading.{message_in}
use Rattle.end_model.specs.Tunnels.{Tunnel, mode_of, is_current}
use Rattle.end_model.specs.End.{End}
use Rattle.world_model.specs.World.{World, Sender, epoch_of}
use Rattle.step_laws.specs.Arrivals.{Came, CameIn}
use Rattle.step_laws.specs.Letters.{Letter}
use Rattle.frame_laws.specs.Codecs.{Codecs}
use Rattle.connection_laws.specs.Facts.{IsNoOpening, AllWait}
use Rattle.connection_laws.proofs.Hearing.{no_message, first_only}
use Rattle.channel_laws.specs.Accounts.{Part, Unmade, Opener, Acceptor, Renewed, Account, History}
use Rattle.channel_laws.specs.Facts.{IsMade, partner_in, IsOpen, IsShut, IsInState, IsRenewed, ChannelOk, LiveOk, Holds}
use Rattle.channel_laws.specs.Recoveries.{WrittenIsRead, WrittenHasRoom}
use Rattle.channel_laws.specs.Steps.{Comes}
use Rattle.channel_laws.proofs.Spelled.{letter_same}
use Rattle.channel_laws.proofs.Coming.{FromTunnel, OfNoTunnel, OfRecovery, heard}
use Rattle.channel_laws.proofs.Linked.{part_cases, opener_of, acceptor_of, renewed_of, first_or_later}
use Rattle.channel_laws.proofs.Naming.{copy_names}
use Rattle.channel_laws.proofs.Readings.{IsLetterRead, IsNoneRead}
use Rattle.channel_laws.proofs.Told.{all_at}

-- ---- whom a message comes from that confirms, or answers

-- the other end, which has learned this tunnel
pub record IsFrom (h : History) (sender : Option Sender) (peer n i : ℕ) : Type 0 where
  pub from : ℕ
  pub tunnel : ℕ
  pub some : 0 < tunnel
  pub sender_is : sender ≡ Some (record { node = from; tunnel = tunnel })
  pub address : peer ≡ address_of from
  pub remote_is : (h.accounts from tunnel 0).remote ≡ i
  pub peer_is : (h.accounts from tunnel 0).peer ≡ n
  pub made : IsMade (h.accounts n i 0)
  pub back_peer : (h.accounts n i 0).peer ≡ from
  pub acceptor : (h.accounts from tunnel 0).part ≡ Acceptor → (h.accounts n i 0).part ≡ Opener
  pub back : ((h.accounts from tunnel 0).part ≡ Acceptor) ⊎ ((h.accounts n i 0).remote ≡ tunnel)

module _ (w : World) (h : History) (holds : Holds w h) (n : ℕ) (e : End) (sender : Option Sender) (i : ℕ) (some : 0 < i) (came : Came) (bytes : List ℕ) (f : FromTunnel w h n e sender came bytes)
    (names : came.header.tunnel ≡ i) where
  abbrev j : ℕ
  j = f.o.tunnel

  abbrev q : ℕ
  q = f.packet.from

  abbrev a : ℕ → Account
  a z = h.accounts q j z

  abbrev u : ℕ
  u = f.packet.epoch

  named : f.copy.tunnel ≡ i
  named = sym f.read.tunnel_is ∙ names

  not_none : f.copy.tunnel ≡ 0 → ⊥
  not_none z = let same = named in omega (arith, z, same, some)

  known : i ≡ (a u).remote
  known = ⊎_elim (λ k. absurd (not_none k.0)) (λ (k : (f.copy.tunnel ≡ 0 → ⊥) × (f.copy.tunnel ≡ (a u).remote)). sym named ∙ k.1) f.copy.named

  to : (a u).peer ≡ n
  to = sym f.copy.to ∙ f.to

  own_id : 0 < j
  own_id = (holds.accounts q j u).some f.copy.made

  made_here : IsMade (h.accounts n i 0)
  made_here =
      subst (λ z. IsMade (h.accounts n z 0)) named (subst (λ z. IsMade (h.accounts z f.copy.tunnel 0)) f.to (copy_names w h holds f.packet f.o u f.copy not_none))

  module _ (zero : u ≡ 0) where
    remote0 : (a 0).remote ≡ i
    remote0 = subst (λ z. (a z).remote ≡ i) zero (sym known)

    peer0 : (a 0).peer ≡ n
    peer0 = subst (λ z. (a z).peer ≡ n) zero to

    partner : partner_in h.accounts 0 (a 0) ≡ h.accounts n i 0
    partner = ap₂ (λ y z. h.accounts y z 0) peer0 remote0

    from_first : IsFrom h sender came.peer n i
    from_first = ⊎_elim
        (λ (own : (a 0).part ≡ Opener).
        let o = (opener_of w h q j 0 (a 0) (holds.accounts q j 0) own).1 in
        let learned : (a 0).remote ≡ 0 → ⊥ = (λ z. (let k = remote0 in omega (arith, z, k, some))) in
        record {
          from = q;
          tunnel = j;
          some = own_id;
          sender_is = f.sender_is;
          address = f.peer_is;
          peer_is = peer0;
          remote_is = remote0;
          made = made_here;
          back_peer = sym (ap (λ (y : Account). y.peer) partner) ∙ o.peer learned;
          acceptor = λ other. (let two : Opener ≡ Acceptor = sym own ∙ other in absurd cc);
          back = inr (sym (ap (λ (y : Account). y.remote) partner) ∙ o.remote learned);
        })
        (λ rest. ⊎_elim
        (λ (own : (a 0).part ≡ Acceptor).
        let o = (acceptor_of w h q j 0 (a 0) (holds.accounts q j 0) own).1 in
        record {
          from = q;
          tunnel = j;
          some = own_id;
          sender_is = f.sender_is;
          address = f.peer_is;
          peer_is = peer0;
          remote_is = remote0;
          made = made_here;
          back_peer = sym (ap (λ (y : Account). y.peer) partner) ∙ o.peer;
          acceptor = λ own_too. sym (ap (λ (y : Account). y.part) partner) ∙ o.part;
          back = inl own;
        })
        (λ (own : (a 0).part ≡ Renewed). let lt = (renewed_of w h q j 0 (a 0) (holds.accounts q j 0) own).later in absurd (omega (arith, lt)))
        rest)
        (part_cases (a 0).part (subst (λ z. IsMade (a z)) zero f.copy.made))

  from_later : IsRenewed w h q j u (a u) → IsFrom h sender came.peer n i
  from_later r =
      let l = r.linked in
      let back : h.accounts (a u).peer (a u).remote 0 ≡ h.accounts n i 0 = ap₂ (λ y z. h.accounts y z 0) to (sym known) in
      record {
        from = q;
        tunnel = j;
        some = own_id;
        sender_is = f.sender_is;
        address = f.peer_is;
        peer_is = l.forth_peer ∙ to;
        remote_is = l.forth ∙ sym known;
        made = made_here;
        back_peer = sym (ap (λ (y : Account). y.peer) back) ∙ l.back_peer;
        acceptor = λ own. ⊎_elim
            (λ k. (let two : Opener ≡ Acceptor = sym k.0 ∙ own in absurd cc))
            (λ k. sym (ap (λ (y : Account). y.part) back) ∙ k.1)
            l.parts;
        back = inr (sym (ap (λ (y : Account). y.remote) back) ∙ l.back);
      }

  pub is_from : IsFrom h sender came.peer n i
  is_from = ⊎_elim (λ zero. from_first zero) (λ r. from_later r) (first_or_later w h q j u (a u) (holds.accounts q j u) f.copy.made)

  -- an SCCRP is an acceptor's, and tells its id
  pub replies : Codecs → (o : Opening) → message_in (body_of bytes came.header) ≡ Ok (Sccrp o) → ((h.accounts q j 0).part ≡ Acceptor) × (o.tunnel ≡ j)
  replies codecs o said = ⊎_elim
      (λ (l : IsLetterRead (a u) f.o came.header bytes).
      let message = letter_same l.letter (body_of bytes came.header) l.reads (Sccrp o) said tt in
      let opens : IsNoOpening l.letter.message → ⊥ = (λ k. subst IsNoOpening message k) in
      ⊎_elim
      (λ (zero : u ≡ 0).
      let there = subst (λ z. slice_get (a z).given l.place ≡ Some l.letter) zero l.there in
      ⊎_elim
      (λ (own : (a 0).part ≡ Opener).
      let first = first_only j Sccrq (a 0).given (opener_of w h q j 0 (a 0) (holds.accounts q j 0) own).1.begins l.place l.letter there opens in
      let two : Sccrp o ≡ Sccrq first.1.0 = sym message ∙ first.1.1 in
      absurd cc)
      (λ rest. ⊎_elim
      (λ (own : (a 0).part ≡ Acceptor).
      let first = first_only j Sccrp (a 0).given (acceptor_of w h q j 0 (a 0) (holds.accounts q j 0) own).1.begins l.place l.letter there opens in
      let two : Sccrp o ≡ Sccrp first.1.0 = sym message ∙ first.1.1 in
      let same : o ≡ first.1.0 = cc in
      (own, ap (λ (y : Opening). y.tunnel) same ∙ first.1.2))
      (λ (own : (a 0).part ≡ Renewed). let lt = (renewed_of w h q j 0 (a 0) (holds.accounts q j 0) own).later in absurd (omega (arith, lt)))
      rest)
      (part_cases (a 0).part (subst (λ z. IsMade (a z)) zero f.copy.made)))
      (λ r. absurd (opens (all_at (λ (y : Letter). IsNoOpening y.message) (a u).given l.place l.letter l.there r.no_opening)))
      (first_or_later w h q j u (a u) (holds.accounts q j u) f.copy.made))
      (λ (none : IsNoneRead f.o came.header bytes). absurd (no_message codecs (Sccrp o) (ap message_in (sym none.body) ∙ said)))
      f.read.says

-- a message that names a tunnel, and is no StopCCN, was sent by a tunnel
module _ (codecs : Codecs) (again : WrittenIsRead) (room : WrittenHasRoom) (w : World) (h : History) (holds : Holds w h) (n : ℕ) (e : End) (sender : Option Sender) (ev : Event)
    (comes : Comes w h n e sender ev) (i : ℕ) (some : 0 < i) (came : Came) (in_it : CameIn ev came) (names : came.header.tunnel ≡ i) (m : Message) (said : message_in came.body ≡ Ok m)
    (other : (result : ℕ) (error : Option ℕ) → m ≡ StopCcn 0 result error → ⊥) (unused : (is_some (h.attempts n i) ≡ true) ⊎ (is_some (h.answers n i) ≡ true) → ⊥) where
  of_recovery : OfRecovery w h n sender came → ⊥
  of_recovery f =
      let named : f.sent.named ≡ i = sym f.tunnel_is ∙ names in
      ⊎_elim
      (λ (z : f.sent.named ≡ 0). omega (arith, z, named, some))
      (λ k. unused (⊎_elim
      (λ x. inl (subst (λ z. is_some (h.attempts n z) ≡ true) named (subst (λ z. is_some (h.attempts z f.sent.named) ≡ true) f.to x)))
      (λ x. inr (subst (λ z. is_some (h.answers n z) ≡ true) named (subst (λ z. is_some (h.answers z f.sent.named) ≡ true) f.to x)))
      k))
      f.sent.names

  of_none : OfNoTunnel w h n e sender came in_it.bytes → ⊥
  of_none f = other f.refusal.result f.refusal.error (let both = sym said ∙ (ap message_in in_it.body_is ∙ f.read.said) in cc)

  pub sent_by : FromTunnel w h n e sender came in_it.bytes
  sent_by = ⊎_elim (λ f. f) (λ r. ⊎_elim (λ f. absurd (of_none f)) (λ f. absurd (of_recovery f)) r) (heard w h holds codecs again room n e sender ev comes came in_it)

-- a tunnel that isn't established wasn't closed, and if it opens it has learned none
module _ (w : World) (h : History) (holds : Holds w h) (n i : ℕ) (t : Tunnel) (live : LiveOk w h n i t) (current : is_current (mode_of t.recovery) ≡ true) (early : state_number t.control.state < 3) where
  abbrev v : ℕ
  v = epoch_of w n i

  abbrev b : ℕ → Account
  b z = h.accounts n i z

  channel : ChannelOk h.accounts n i v (b v) t
  channel = live.channel current

  late_not : (k : ℕ) → state_number t.control.state ≡ k → 3 ≤ k → ⊥
  late_not k is le = omega (arith, is, le, early)

  abbrev Fresh : Account → Type 0
  Fresh x = (x.closed ≡ None) × (x.part ≡ Opener → x.remote ≡ 0)

  pub early_state : Fresh (b 0)
  early_state = by (b v).part refl
    where
      by : (p : Part) → (b v).part ≡ p → Fresh (b 0)
      by Unmade own = absurd (subst (IsInState h.accounts i v (b v) t) own channel.state)
      by Opener own = subst (λ z. Fresh (b z)) (opener_of w h n i v (b v) (holds.accounts n i v) own).0 (⊎_elim
          (λ (k : (state_number t.control.state ≡ 1) × ((b v).remote ≡ 0) × IsOpen (b v) × AllWait t.calls). (k.2, λ opener. k.1))
          (λ k. ⊎_elim
          (λ (x : (state_number t.control.state ≡ 3) × ((b v).remote ≡ 0 → ⊥) × IsOpen (b v)). absurd (late_not 3 x.0 (omega arith)))
          (λ (x : IsShut (b v) t). absurd (late_not 4 x.0 (omega arith))) k)
          (subst (IsInState h.accounts i v (b v) t) own channel.state))
      by Acceptor own = subst (λ z. Fresh (b z)) (acceptor_of w h n i v (b v) (holds.accounts n i v) own).0 (⊎_elim
          (λ (k : (state_number t.control.state ≡ 2) × (t.calls ≡ []) × IsOpen (b v)). (k.2, λ opener. (let two : Opener ≡ Acceptor = sym opener ∙ own in absurd cc)))
          (λ k. ⊎_elim
          (λ (x : (state_number t.control.state ≡ 3) × ((partner_in h.accounts 0 (b v)).remote ≡ i) × IsOpen (b v)). absurd (late_not 3 x.0 (omega arith)))
          (λ (x : IsShut (b v) t). absurd (late_not 4 x.0 (omega arith))) k)
          (subst (IsInState h.accounts i v (b v) t) own channel.state))
      by Renewed own = absurd (⊎_elim
          (λ (x : (state_number t.control.state ≡ 3) × IsOpen (b v)). late_not 3 x.0 (omega arith))
          (λ (x : IsShut (b v) t). late_not 4 x.0 (omega arith))
          (subst (IsInState h.accounts i v (b v) t) own channel.state))

  -- one that waits for its confirmation was accepted
  pub waits_accepted : state_number t.control.state ≡ 2 → (b 0).part ≡ Acceptor
  waits_accepted two = by (b v).part refl
    where
      by : (p : Part) → (b v).part ≡ p → (b 0).part ≡ Acceptor
      by Unmade own = absurd (subst (IsInState h.accounts i v (b v) t) own channel.state)
      by Opener own = absurd (⊎_elim
          (λ (k : (state_number t.control.state ≡ 1) × ((b v).remote ≡ 0) × IsOpen (b v) × AllWait t.calls). let one = k.0 in omega (arith, one, two))
          (λ k. ⊎_elim
          (λ (x : (state_number t.control.state ≡ 3) × ((b v).remote ≡ 0 → ⊥) × IsOpen (b v)). late_not 3 x.0 (omega arith))
          (λ (x : IsShut (b v) t). late_not 4 x.0 (omega arith)) k)
          (subst (IsInState h.accounts i v (b v) t) own channel.state))
      by Acceptor own = subst (λ z. (b z).part ≡ Acceptor) (acceptor_of w h n i v (b v) (holds.accounts n i v) own).0 own
      by Renewed own = absurd (⊎_elim
          (λ (x : (state_number t.control.state ≡ 3) × IsOpen (b v)). late_not 3 x.0 (omega arith))
          (λ (x : IsShut (b v) t). late_not 4 x.0 (omega arith))
          (subst (IsInState h.accounts i v (b v) t) own channel.state))

  -- and it goes where its account says
  pub knows_remote : (b 0).part ≡ Acceptor → t.control.remote ≡ (b 0).remote
  knows_remote accepted = by (b v).part refl
    where
      by : (p : Part) → (b v).part ≡ p → t.control.remote ≡ (b 0).remote
      by Unmade own = absurd (subst (IsInState h.accounts i v (b v) t) own channel.state)
      by Opener own = channel.remote ∙ ap (λ z. (b z).remote) (opener_of w h n i v (b v) (holds.accounts n i v) own).0
      by Acceptor own = channel.remote ∙ ap (λ z. (b z).remote) (acceptor_of w h n i v (b v) (holds.accounts n i v) own).0
      by Renewed own = absurd (⊎_elim
          (λ (x : (state_number t.control.state ≡ 3) × IsOpen (b v)). late_not 3 x.0 (omega arith))
          (λ (x : IsShut (b v) t). late_not 4 x.0 (omega arith))
          (subst (IsInState h.accounts i v (b v) t) own channel.state))
