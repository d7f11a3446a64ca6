-- A letter that is taken plainly is counted in the machine, and nothing else changes there; what a closed tunnel takes isn't even counted.
use Rattle.std.proofs.Common.{◌≡◌, ◌≢◌, ◌⊎◌, inl, inr, ⊎_elim, ℕ, zero, suc, ◌<◌, Bool, true, false, cond, eqb, ◌&&◌, [], length, refl, sym, ap, ◌∙◌, Option, Some, arith}
use Rattle.std.proofs.lemmas.Bool.{eqb-true, true≢false}
use Rattle.std.specs.Prelude.{slice_get, ◌==◌}
use Rattle.id_table.specs.Ids.{at}
use Rattle.id_table.specs.Order.{same_or_not}
use Rattle.control_message.specs.declared.message.Message.{Message}
use Rattle.control_message.specs.declared.message.Message.TheVariants as message
use Rattle.tunnel_fsm.specs.declared.table.TunnelState.{TunnelState}
use Rattle.tunnel_fsm.specs.declared.table.TunnelState.TheVariants as tunnel
use Rattle.tunnel_fsm.specs.Rows.{state_number}
use Rattle.end_model.specs.declared.event.Event.{Event}
use Rattle.end_model.specs.declared.moves.TookPlain.{TookPlain}
use Rattle.end_model.specs.declared.moves.Move.TheVariants as move
use Rattle.end_model.specs.declared.tunnel.Call.{Call}
use Rattle.end_names.specs.declared.role.Role.{Role}
use Rattle.end_model.specs.Tunnels.{Tunnel}
use Rattle.end_model.specs.Channels.{counts_taken}
use Rattle.end_model.specs.Asking.{session_named}
use Rattle.end_model.specs.Moments.{is_closed}
use Rattle.end_model.specs.End.{End}
use Rattle.world_model.specs.World.{Sender, Deed}
use Rattle.step_laws.specs.Moves.{IsPlain}
use Rattle.epoch_machine.specs.Letters.{Letter, Sccrq, Sccrp, Scccn, Hello, Request, Reply, Connect, Cdn}
use Rattle.epoch_machine.specs.Tunnels.{is_open, is_wait_reply, is_wait_connect}
use Rattle.epoch_machine.specs.Calls.{Calls, CallState, NoCall, Waits, waits_reply, waits_connect, ends, is_named}
use Rattle.epoch_machine.specs.Worlds.{World, all_rules, took_one, takes, takes_open, answers_request, takes_reply, takes_connect, takes_cdn}
use Rattle.epoch_machine.specs.Moves.{Delivers}
use Rattle.connection_laws.proofs.Alike.{IsNoRequest, read_plainly}
use Rattle.session_laws.proofs.Alike.{IsSized}
use Rattle.connection_laws.specs.Accounts.{Taken, Account}
use Rattle.connection_laws.specs.Facts.{Accounts, IsNoStop, IsClosed}
use Rattle.connection_laws.specs.Steps.{after, PlainLetter}
use Rattle.session_laws.specs.Names.{name, name_of, spoken, phase_of, state_of}
use Rattle.session_laws.specs.Roles.{Says}
use Rattle.session_laws.specs.Joined.{Ends, CallsJoined, NodeJoined, TunnelJoined}
use Rattle.session_laws.proofs.Births.{BirthsSame, else_follow}
use Rattle.session_laws.proofs.Keeps.{with_end, Laws, IsMade, Follows}
use Rattle.session_laws.proofs.Names.{same_name, name_not_zero, known_name}
use Rattle.session_laws.proofs.Entering.{either_way, after_here, with_taken, taken_as, takes_only}
use Rattle.session_laws.proofs.States.{is_shut, heeds_none}
use Rattle.session_laws.proofs.Ground.{Old, no_step, tunnel_same, joined_before, tunnel_moves_follow}
use Rattle.session_laws.proofs.Letters.{no_letters, letters_joined}
use Rattle.session_laws.proofs.Heard.{Delivered, next_delivered, here_fits, here_joined}
use Rattle.session_laws.proofs.CallRows.{no_first, no_second, no_end}
use Rattle.session_laws.proofs.CallGround.{CallSame, no_call_follows}
use Rattle.session_laws.proofs.CallLaws.{WorldHolds, world_holds, waits_unnamed, Named, ByHeader, ByRemote, named_tells}
use Rattle.session_laws.proofs.CallNamed.{no_header, some_header, named_by_header, named_by_remote}
use Rattle.session_laws.proofs.CallFacts.{here_or_gone, gone_elsewhere}
use Rattle.session_laws.proofs.CallSpeaks.{calls_and_take, hears_one, speaks_goes, account_is}

-- what the machine does with such a letter: it counts it, and changes no call
record PlainTakes (w : World) (x s : ℕ) (l : Letter) : Type 0 where
  calls : Calls
  is : takes all_rules (took_one w x) x s l 0 ≡ record (took_one w x) { calls = calls }
  asks : (y z : ℕ) → calls.asks y z ≡ w.calls.asks y z
  same : (m q : ℕ) → m < 256 → q < 65536 → CallSame w (record (took_one w x) { calls = calls }) (name m q)
  births : BirthsSame w (record (took_one w x) { calls = calls })

-- nothing at all changes beside
ignored : (w : World) (x s : ℕ) (l : Letter) → takes all_rules (took_one w x) x s l 0 ≡ took_one w x → PlainTakes w x s l
unfolding took_one
ignored w x s l h = record {
  calls = w.calls;
  is = h;
  asks = λ y z. refl;
  same = λ m q mfits qfits. record { drawn = refl; tunnel = refl; remote = refl; state = refl };
  births = record { count = refl; birth = λ k. refl; mate = λ k. refl; remote = λ k. refl };
}

-- ---- letters of tunnels

no_wait_reply : (s : TunnelState) → (state_number s ≡ 1 → ⊥) → is_wait_reply (phase_of s) ≡ false
no_wait_reply tunnel.Idle other = refl
no_wait_reply tunnel.WaitCtlReply other = absurd (other refl)
no_wait_reply tunnel.WaitCtlConn other = refl
no_wait_reply tunnel.Established other = refl
no_wait_reply tunnel.Closed other = refl

no_wait_connect : (s : TunnelState) → (state_number s ≡ 2 → ⊥) → is_wait_connect (phase_of s) ≡ false
no_wait_connect tunnel.Idle other = refl
no_wait_connect tunnel.WaitCtlReply other = refl
no_wait_connect tunnel.WaitCtlConn other = absurd (other refl)
no_wait_connect tunnel.Established other = refl
no_wait_connect tunnel.Closed other = refl

-- it is open, or it isn't
open_or_not : (s : TunnelState) → (state_number s ≡ 3) ⊎ (is_open (phase_of s) ≡ false)
open_or_not tunnel.Idle = inr refl
open_or_not tunnel.WaitCtlReply = inr refl
open_or_not tunnel.WaitCtlConn = inr refl
open_or_not tunnel.Established = inl refl
open_or_not tunnel.Closed = inr refl

plain_sccrq : (w : World) (x s : ℕ) → takes all_rules w x s Sccrq 0 ≡ w
unfolding takes takes_open
plain_sccrq w x s = either_way (is_open (w.tunnels.phase x)) w

plain_hello : (w : World) (x s : ℕ) → takes all_rules w x s Hello 0 ≡ w
unfolding takes takes_open
plain_hello w x s = either_way (is_open (w.tunnels.phase x)) w

plain_sccrp : (w : World) (x s : ℕ) → is_wait_reply (w.tunnels.phase x) ≡ false → takes all_rules (took_one w x) x s Sccrp 0 ≡ took_one w x
unfolding takes took_one
plain_sccrp w x s h = rw h refl

plain_scccn : (w : World) (x s : ℕ) → is_wait_connect (w.tunnels.phase x) ≡ false → takes all_rules (took_one w x) x s Scccn 0 ≡ took_one w x
unfolding takes took_one
plain_scccn w x s h = rw h refl

-- ---- letters of calls

-- a request without a name for a new call is ignored
plain_request : (w : World) (x s own : ℕ) → takes all_rules w x s (Request own) 0 ≡ w
unfolding takes takes_open answers_request
plain_request w x s own = either_way (is_open (w.tunnels.phase x)) w

shut_reply : (w : World) (x s own z : ℕ) → is_open (w.tunnels.phase x) ≡ false → takes all_rules (took_one w x) x s (Reply own z) 0 ≡ took_one w x
unfolding takes took_one
shut_reply w x s own z h = rw h refl

shut_connect : (w : World) (x s z : ℕ) → is_open (w.tunnels.phase x) ≡ false → takes all_rules (took_one w x) x s (Connect z) 0 ≡ took_one w x
unfolding takes took_one
shut_connect w x s z h = rw h refl

shut_cdn : (w : World) (x s own z : ℕ) → is_open (w.tunnels.phase x) ≡ false → takes all_rules (took_one w x) x s (Cdn own z) 0 ≡ took_one w x
unfolding takes took_one
shut_cdn w x s own z h = rw h refl

both_false : (a b : ℕ) (t : Bool) → (a ≡ b → t ≡ false) → ((a == b) && t) ≡ false
both_false a b t h = by (eqb a b) refl
  where
    by : (is : Bool) → eqb a b ≡ is → (is && t) ≡ false
    by true is = h (eqb-true a b is)
    by false is = refl

-- a call that isn't this tunnel's, or waits for nothing, is as it was
plain_reply : (w : World) (x s own z : ℕ) → (w.calls.tunnel z ≡ x → waits_reply (w.calls.state z) ≡ false)
    → takes all_rules (took_one w x) x s (Reply own z) 0 ≡ took_one w x
unfolding takes took_one takes_open takes_reply
plain_reply w x s own z h =
    rw (both_false (w.calls.tunnel z) x (waits_reply (w.calls.state z)) h) (either_way (is_open (w.tunnels.phase x)) (took_one w x))

plain_connect : (w : World) (x s z : ℕ) → (w.calls.tunnel z ≡ x → waits_connect (w.calls.state z) ≡ false)
    → takes all_rules (took_one w x) x s (Connect z) 0 ≡ took_one w x
unfolding takes took_one takes_open takes_connect
plain_connect w x s z h =
    rw (both_false (w.calls.tunnel z) x (waits_connect (w.calls.state z)) h) (either_way (is_open (w.tunnels.phase x)) (took_one w x))

-- a CDN ends no call that lives
plain_cdn : (w : World) (x s own z : ℕ) → is_open (w.tunnels.phase x) ≡ true
    → ((m q : ℕ) → m < 256 → q < 65536 → is_named w.calls x own z (name m q) ≡ true → w.calls.state (name m q) ≡ NoCall)
    → PlainTakes w x s (Cdn own z)
unfolding takes took_one takes_open takes_cdn ends
plain_cdn w x s own z open_is gone = record {
  calls = ends w.calls (is_named w.calls x own z);
  is = rw open_is refl;
  asks = λ y k. refl;
  same = λ m q mfits qfits. record {
    drawn = refl;
    tunnel = refl;
    remote = refl;
    state = by (is_named w.calls x own z (name m q)) (w.calls.state (name m q)) (gone m q mfits qfits);
  };
  births = record { count = refl; birth = λ k. refl; mate = λ k. refl; remote = λ k. refl };
}
  where
    by : (b : Bool) (s : CallState) → (b ≡ true → s ≡ NoCall) → cond b NoCall s ≡ s
    by true s h = sym (h refl)
    by false s h = refl

-- ---- each letter that is plain

-- what has a name has an id
known_some : (n i own : ℕ) → own ≢ 0 → name_of n i ≡ own → 0 < i
known_some n zero own some is = absurd (some (sym is))
known_some n (suc i) own some is = omega arith

-- what is known where a letter with this header comes from a node
record Comes (w : World) (accs : Accounts) (n : ℕ) (e : End) (i : ℕ) (t : Tunnel) (from s k session : ℕ) : Type 0 where
  holds : WorldHolds w
  old : CallsJoined w accs n e
  elsewhere : (m : ℕ) → m < 256 → (o : Option End) × NodeJoined w accs m o
  id : i < 65536
  there : at e.tunnels i ≡ Some t
  phase : w.tunnels.phase (name n i) ≡ phase_of t.control.state
  peer : (accs n i).peer ≡ from
  header : session < 65536
  remotes : (q : ℕ) (c : Call) → at t.calls q ≡ Some c → c.remote < 65536

-- a closed tunnel is in no other state
shut_not : (s : TunnelState) (n : ℕ) → is_closed s ≡ true → state_number s ≡ n → (n ≡ 4 → ⊥) → ⊥
shut_not s n closed is other = other (sym is ∙ eqb-true (state_number s) 4 closed)

module _ (w : World) (accs : Accounts) (n : ℕ) (e : End) (i : ℕ) (t : Tunnel) (from s k session : ℕ) (h : Comes w accs n e i t from s k session) where
  abbrev X : ℕ
  X = name n i

  opens : state_number t.control.state ≡ 3 → is_open (w.tunnels.phase X) ≡ true
  opens three = rw h.phase (by t.control.state three)
    where
      by : (q : TunnelState) → state_number q ≡ 3 → is_open (phase_of q) ≡ true
      by tunnel.Idle is = absurd (omega (arith, is))
      by tunnel.WaitCtlReply is = absurd (omega (arith, is))
      by tunnel.WaitCtlConn is = absurd (omega (arith, is))
      by tunnel.Established is = refl
      by tunnel.Closed is = absurd (omega (arith, is))

  shut : is_open (phase_of t.control.state) ≡ false → is_open (w.tunnels.phase X) ≡ false
  shut is = rw h.phase is

  -- a call of the tunnel, in the machine
  state_is : (q : ℕ) (c : Call) → at t.calls q ≡ Some c → w.calls.state (name n q) ≡ state_of c.state
  state_is q c call = (h.old.live i t h.there q c call).state

  -- a test of a state that no call fits that nothing is done with
  untested : (test : CallState → Bool) → test NoCall ≡ false
      → ((c : Call) → at t.calls session ≡ Some c → test (state_of c.state) ≡ false) → w.calls.tunnel (name n session) ≡ X
      → test (w.calls.state (name n session)) ≡ false
  untested test none each tunnel = ⊎_elim
      (λ (a : (c : Call) × (at t.calls session ≡ Some c)). rw (state_is session a.0 a.1) (each a.0 a.1))
      (λ (gone : w.calls.state (name n session) ≡ NoCall). rw gone none)
      (here_or_gone w accs n i h.id e h.old t h.there session h.header tunnel)

  -- ---- a CDN

  module _ (remote code : ℕ) (error : Option ℕ) (rfits : remote < 65536) (three : state_number t.control.state ≡ 3)
      (why : IsPlain e t session (message.Cdn remote code error)) (stands : slice_get (w.channels.sent s 0) k ≡ Some (Cdn (name_of from remote) (name_of n session))) where
    abbrev own : ℕ
    own = name_of from remote

    -- the call that the CDN names waits for its tunnel
    named_waits : (c : Call) → at t.calls (session_named t.calls session remote) ≡ Some c → w.calls.state (name n (session_named t.calls session remote)) ≡ Waits
    named_waits c call =
        let q = session_named t.calls session remote in
        state_is q c call ∙ no_end e.role c.state (h.old.roles i t h.there q c call) (why three c call)

    -- by its header
    by_header : (session ≡ 0 → ⊥) → (q : ℕ) → q < 65536 → (c : Call) → at t.calls q ≡ Some c → name n q ≡ name n session → ⊥
    by_header some q fits c call is =
        let same = same_name n q n session fits h.header is in
        let named = named_by_header t.calls session remote some in
        let waits = named_waits c (rw (named, ← same.1) call) in
        waits_unnamed w h.holds s 0 k own (name n session) (known some) (name_not_zero n session (above some)) (rw named at waits)
      where
        above : (session ≡ 0 → ⊥) → 0 < session
        above some = omega (arith, some)

        known : (session ≡ 0 → ⊥) → slice_get (w.channels.sent s 0) k ≡ Some (Cdn own (name n session))
        known some = stands ∙ ap (λ y. Some (Cdn own y)) (known_name n session (above some))

    -- or by its own name
    by_remote : session ≡ 0 → (q : ℕ) (c : Call) → at t.calls q ≡ Some c → own ≢ 0 → w.calls.remote (name n q) ≡ own → ⊥
    by_remote none q c call some remote_is =
        let knows : name_of (accs n i).peer c.remote ≡ own = sym (h.old.live i t h.there q c call).remote ∙ remote_is in
        let lt = known_some (accs n i).peer c.remote own some knows in
        let pos = known_some from remote own some refl in
        let fits = h.remotes q c call in
        let same : c.remote ≡ remote =
        (same_name (accs n i).peer c.remote from remote fits rfits
        (sym (known_name (accs n i).peer c.remote lt) ∙ knows ∙ known_name from remote pos)).1 in
        let it = named_by_remote t.calls remote q c call same (λ zero. (let no : ⊥ = omega (arith, zero) in no)) in
        let waits = named_waits it.call (rw none it.there) in
        let zero : w.calls.remote (name n (session_named t.calls session remote)) ≡ 0 =
        (h.holds.calls.waits (name n (session_named t.calls session remote)) waits).1 in
        let that = (h.old.live i t h.there (session_named t.calls 0 remote) it.call it.there).remote in
        some (sym (rw (it.knows, h.peer) at that) ∙ (rw none at zero))

    -- no call that lives
    named_gone : (m q : ℕ) → m < 256 → q < 65536 → is_named w.calls X own (name_of n session) (name m q) ≡ true → w.calls.state (name m q) ≡ NoCall
    named_gone m q mfits qfits named =
        let tells = named_tells w.calls X own (name_of n session) (name m q) named in
        ⊎_elim
        (λ (here : m ≡ n). by_here here tells)
        (λ (other : m ≡ n → ⊥). let node = h.elsewhere m mfits in gone_elsewhere w accs n i h.id m node.0 node.1 other q qfits tells.0)
        (same_or_not m n)
      where
        no_call_is : (c : Call) → at t.calls q ≡ Some c → Named w.calls own (name_of n session) (name n q) → ⊥
        no_call_is c call (ByHeader some is) =
            let header = some_header n session some in
            let lt : 0 < session = omega (arith, header) in
            by_header header q qfits c call (is ∙ known_name n session lt)
        no_call_is c call (ByRemote none some is) = by_remote (no_header n session none) q c call some is

        by_here : m ≡ n → (w.calls.tunnel (name m q) ≡ X) × Named w.calls own (name_of n session) (name m q) → w.calls.state (name m q) ≡ NoCall
        by_here here tells = rw here (⊎_elim
            (λ (a : (c : Call) × (at t.calls q ≡ Some c)). absurd (no_call_is a.0 a.1 (rw here at tells.1)))
            (λ (gone : w.calls.state (name n q) ≡ NoCall). gone)
            (here_or_gone w accs n i h.id e h.old t h.there q qfits (rw here at tells.0)))

  plain_by : (role : Role) (b : Account) (m : Message) → IsNoStop m → Says role b m
      → (IsNoRequest m → IsPlain e t session m) → IsSized m → slice_get (w.channels.sent s 0) k ≡ Some (spoken from n session m)
      → PlainTakes w X s (spoken from n session m)
  plain_by role b (message.Sccrq o) no_stop says why written stands = ignored w X s Sccrq (plain_sccrq (took_one w X) X s)
  plain_by role b (message.Sccrp o) no_stop says why written stands =
      ignored w X s Sccrp (plain_sccrp w X s (rw h.phase (no_wait_reply t.control.state (λ one. shut_not t.control.state 1 (why tt) one (λ z. absurd (omega (arith, z)))))))
  plain_by role b (message.Scccn response) no_stop says why written stands =
      ignored w X s Scccn (plain_scccn w X s (rw h.phase (no_wait_connect t.control.state (λ two. shut_not t.control.state 2 (why tt) two (λ z. absurd (omega (arith, z)))))))
  plain_by role b (message.StopCcn tunnel result error) no_stop says why written stands = absurd no_stop
  plain_by role b message.Hello no_stop says why written stands = ignored w X s Hello (plain_hello (took_one w X) X s)
  plain_by role b (message.Ocrq remote) no_stop says why written stands = absurd says
  plain_by role b message.Ocrp no_stop says why written stands = absurd says
  plain_by role b message.Occn no_stop says why written stands = absurd says
  plain_by role b message.Wen no_stop says why written stands = absurd says
  plain_by role b message.Sli no_stop says why written stands = absurd says
  plain_by role b (message.Fsq sessions) no_stop says why written stands = absurd says
  plain_by role b (message.Fsr sessions) no_stop says why written stands = absurd says
  plain_by role b (message.Icrq remote serial calling) no_stop says why written stands =
      ignored w X s (Request (name from remote)) (plain_request (took_one w X) X s (name from remote))
  plain_by role b (message.Icrp remote) no_stop says why written stands =
      ignored w X s (Reply (name from remote) (name n session)) (⊎_elim
      (λ (three : state_number t.control.state ≡ 3). plain_reply w X s (name from remote) (name n session)
      (untested waits_reply refl (λ c call. no_first e.role c.state (h.old.roles i t h.there session c call) (why tt three c call))))
      (λ is. shut_reply w X s (name from remote) (name n session) (shut is))
      (open_or_not t.control.state))
  plain_by role b (message.Iccn speed framing sequenced) no_stop says why written stands =
      ignored w X s (Connect (name n session)) (⊎_elim
      (λ (three : state_number t.control.state ≡ 3). plain_connect w X s (name n session)
      (untested waits_connect refl (λ c call. no_second e.role c.state (h.old.roles i t h.there session c call) (why tt three c call))))
      (λ is. shut_connect w X s (name n session) (shut is))
      (open_or_not t.control.state))
  plain_by role b (message.Cdn remote code error) no_stop says why written stands = ⊎_elim
      (λ (three : state_number t.control.state ≡ 3). plain_cdn w X s (name_of from remote) (name_of n session) (opens three)
      (named_gone remote code error written.0 three (why tt) stands))
      (λ is. ignored w X s (Cdn (name_of from remote) (name_of n session)) (shut_cdn w X s (name_of from remote) (name_of n session) (shut is)))
      (open_or_not t.control.state)

-- ---- the move

-- in a tunnel that isn't closed a plain letter is no StopCCN
plain_no_stop : (e : End) (t : Tunnel) (session : ℕ) (m : Message) → is_closed t.control.state ≡ false → (IsNoRequest m → IsPlain e t session m)
    → IsNoStop m
plain_no_stop e t session (message.Sccrq o) works why = tt
plain_no_stop e t session (message.Sccrp o) works why = tt
plain_no_stop e t session (message.Scccn response) works why = tt
plain_no_stop e t session (message.StopCcn tunnel result error) works why = absurd (true≢false (sym (why tt) ∙ works))
plain_no_stop e t session message.Hello works why = tt
plain_no_stop e t session (message.Ocrq remote) works why = tt
plain_no_stop e t session message.Ocrp works why = tt
plain_no_stop e t session message.Occn works why = tt
plain_no_stop e t session message.Wen works why = tt
plain_no_stop e t session message.Sli works why = tt
plain_no_stop e t session (message.Fsq sessions) works why = tt
plain_no_stop e t session (message.Fsr sessions) works why = tt
plain_no_stop e t session (message.Icrq remote serial calling) works why = tt
plain_no_stop e t session (message.Icrp remote) works why = tt
plain_no_stop e t session (message.Iccn speed framing sequenced) works why = tt
plain_no_stop e t session (message.Cdn remote code error) works why = tt

module _ (laws : Laws) (accs : Accounts) (ends : Ends) (w : World) (n : ℕ) (e x : End) (sender : Option Sender) (moment : ℕ) (ev : Event)
    (m : TookPlain) (d : Deed) (h : IsMade accs ends w n e x sender moment ev (move.TookPlain m) d) where
  abbrev t : Tunnel
  t = h.moved.does.tunnel

  abbrev u : Tunnel
  u = record t { control = counts_taken t.control }

  abbrev header : ℕ
  header = h.moved.does.letter.header.session

  old : TunnelJoined w n m.tunnel (accs n m.tunnel) (Some t)
  old = here_joined accs ends w n e x sender moment ev (move.TookPlain m) d h m.tunnel t h.moved.does.there

  id : m.tunnel < 65536
  id = here_fits accs ends w n e x sender moment ev (move.TookPlain m) d h m.tunnel t h.moved.does.there

  abbrev Y : ℕ
  Y = name n m.tunnel

  -- ---- in a tunnel that isn't closed

  module _ (works : is_closed t.control.state ≡ false) where
    letter : PlainLetter accs n m.tunnel sender h.moved.does.letter
    letter = laws.plain accs n e sender ev h.moved.within m.tunnel t h.moved.does.there works h.moved.does.letter h.moved.does.next

    -- what is no request is read as it is, and nothing is done on it
    why : IsNoRequest letter.message → IsPlain e t header letter.message
    why plain = h.moved.does.why letter.message
        (read_plainly letter.message h.moved.does.letter.body letter.reads plain)

    no_stop : IsNoStop letter.message
    no_stop = plain_no_stop e t header letter.message works why

    del : Delivered accs w n m.tunnel sender header letter.message
    del = next_delivered accs ends w n e x sender moment ev (move.TookPlain m) d h m.tunnel t h.moved.does.there works header letter.message no_stop
        (letter.next no_stop)

    abbrev S : ℕ
    S = name del.from.node del.from.tunnel

    comes : Comes w accs n e m.tunnel t del.from.node S (length (accs n m.tunnel).taken) header
    comes = record {
      holds = world_holds laws.births w h.joined.moves h.joined.run;
      old = joined_before accs ends w n e x sender moment ev (move.TookPlain m) d h;
      elsewhere = λ q fits. (ends q, h.joined.nodes q fits);
      id = id;
      there = h.moved.does.there;
      phase = old.phase;
      peer = del.node;
      header = del.header;
      remotes = (h.moved.within.end.live m.tunnel t h.moved.does.there).calls;
    }

    takes_it : PlainTakes w Y S (spoken del.from.node n header letter.message)
    takes_it = plain_by w accs n e m.tunnel t del.from.node S (length (accs n m.tunnel).taken) header comes del.giver.role
        (accs del.from.node del.from.tunnel) letter.message no_stop del.giver.says why del.written del.stands

    abbrev v : World
    v = record (took_one w Y) { calls = takes_it.calls }

    heeded_follows : Follows w n e x (move.TookPlain m) (after accs d) (with_end ends n x)
    heeded_follows =
        no_call_follows accs ends w n e x sender moment ev (move.TookPlain m) d h (λ k j. refl) v t u
        (else_follow w v n e x (move.TookPlain m) tt takes_it.births (ap (λ (y : End). y.role) h.moved.does.after)
        (ap (λ (y : End). y.session_ids) h.moved.does.after))
        (record {
          there = h.moved.does.there;
          put_is = ap (λ (y : End). y.tunnels) h.moved.does.after;
          role = ap (λ (y : End). y.role) h.moved.does.after;
          sessions = ap (λ (y : End). y.session_ids) h.moved.does.after;
          same = refl;
          waits = λ one. one;
          calls = takes_it.same;
        })
        (speaks_goes accs ends w n e x sender moment ev (move.TookPlain m) d h (λ k j. refl) v t u h.moved.does.there [] 1
        (calls_and_take w Y takes_it.calls old.entered takes_it.asks)
        (hears_one d n e.role sender (move.TookPlain m) m.taken (accs n m.tunnel) (after accs d n m.tunnel) h.moved.deed del.is_open
        (account_is accs ends w n e x sender moment ev (move.TookPlain m) d h (λ k j. refl) v t u h.moved.does.there))
        refl (Delivers Y S 0 (length (accs n m.tunnel).taken) 0) (del.is 0 ∙ takes_it.is))

  -- ---- in a closed tunnel, where the machine does nothing

  abbrev tk : Taken
  tk = taken_as sender m.taken (move.TookPlain m)

  abbrev b : Account
  b = with_taken tk [] (accs n m.tunnel)

  is_b : after accs d n m.tunnel ≡ b
  is_b = after_here accs d n (move.TookPlain m) h.moved.deed.node_is h.moved.deed.move_is (λ k j. refl)
      ∙ takes_only d n e.role sender (move.TookPlain m) m.taken (accs n m.tunnel) h.moved.deed

  tunnel_still : IsClosed (accs n m.tunnel) → TunnelJoined w n m.tunnel b (Some u)
  tunnel_still closed =
      letters_joined w w n m.tunnel (accs n m.tunnel) b [] 0 (Some t) (Some u) old (no_letters w Y)
      (record { part = refl; peer = refl; given = refl; heeds = heeds_none tk [] (accs n m.tunnel) closed ∙ (omega arith); declined = refl })
      old.learned old.phase

  ignored_follows : is_closed t.control.state ≡ true → Follows w n e x (move.TookPlain m) (after accs d) (with_end ends n x)
  ignored_follows shut =
      tunnel_moves_follow accs ends w n e x sender moment ev (move.TookPlain m) d h tt w u (record {
        id = id;
        put_is = ap (λ (y : End). y.tunnels) h.moved.does.after;
        sessions = ap (λ (y : End). y.session_ids) h.moved.does.after;
        role = ap (λ (y : End). y.role) h.moved.does.after;
        before = Old t h.moved.does.there refl (λ one. one) (ap (λ (y : Account). y.peer) is_b);
        tunnels = λ y other. tunnel_same w y;
        tunnel = rw is_b
            (tunnel_still (is_shut accs n m.tunnel (accs n m.tunnel) t (h.moved.within.end.live m.tunnel t h.moved.does.there) shut).1);
        calls = refl;
        up = λ k. refl;
        more = [];
        run = sym (no_step all_rules w);
      })

  pub took_plain_follows : Follows w n e x (move.TookPlain m) (after accs d) (with_end ends n x)
  took_plain_follows = by (is_closed t.control.state) refl
    where
      by : (shut : Bool) → is_closed t.control.state ≡ shut → Follows w n e x (move.TookPlain m) (after accs d) (with_end ends n x)
      by false works = heeded_follows works
      by true shut = ignored_follows shut
