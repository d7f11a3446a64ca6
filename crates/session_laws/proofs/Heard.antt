-- The next letter that a tunnel hears is delivered in the machine.
use Rattle.std.proofs.Common.{◌≡◌, ⊎_elim, ℕ, ◌<◌, ◌≤◌, Bool, true, false, zero, suc, drop, List, [], ◌∷◌, length, refl, sym, ap, ap₂, ◌∙◌, subst, slice_get, Option, Some, None, arith, eqb, cond, eq-eqb}
use Rattle.std.proofs.lemmas.Bool.{lt-ltb}
use Rattle.std.proofs.lemmas.Option.{slice_get-map}
use Rattle.std.specs.List.{AllByRecursion}
use Rattle.id_table.specs.Ids.{at}
use Rattle.control_message.specs.declared.message.Message.{Message}
use Rattle.control_message.specs.declared.message.Message.TheVariants.{Sccrq, Sccrp, Scccn, StopCcn, Hello, Ocrq, Ocrp, Occn, Icrq, Icrp, Iccn, Cdn, Wen, Sli, Fsq, Fsr}
use Rattle.tunnel_fsm.specs.declared.table.TunnelState.{TunnelState}
use Rattle.tunnel_fsm.specs.declared.table.TunnelState.TheVariants as tunnel
use Rattle.tunnel_fsm.specs.Rows.{state_number}
use Rattle.end_model.specs.declared.event.Event.{Event}
use Rattle.end_model.specs.declared.moves.Move.{Move}
use Rattle.end_model.specs.declared.moves.Move.TheVariants as move
use Rattle.end_names.specs.declared.role.Role.{Role}
use Rattle.end_names.specs.declared.role.Role.TheVariants.{Lns}
use Rattle.end_model.specs.Tunnels.{Tunnel}
use Rattle.end_model.specs.Moments.{is_closed}
use Rattle.end_model.specs.End.{End}
use Rattle.world_model.specs.World.{Sender, Deed}
use Rattle.step_laws.specs.Letters as step_laws
use Rattle.step_laws.specs.Moves.{HearsNext}
use Rattle.epoch_machine.specs.Letters.{Letter}
use Rattle.epoch_machine.specs.Tunnels.{Open, is_active, is_live}
use Rattle.epoch_machine.specs.Worlds.{World, Rules, all_rules, takes, took_one}
use Rattle.epoch_machine.specs.Moves.{Delivers, may_take, delivers, step}
use Rattle.frame_laws.proofs.Facts.{all_at}
use Rattle.connection_laws.specs.Accounts.{Opener, Acceptor, Taken, Account, no_account, heeded, partner_of}
use Rattle.connection_laws.specs.Facts as facts
use Rattle.connection_laws.specs.Facts.{Accounts, IsNoStop, IsStopCcn, IsSpelled, IsOpener, IsAcceptor, IsPart, AccountOk, Tells, IsTaken, AreTaken, IsOpen, IsIgnored, AreIgnored, LiveOk, Within, partner_in}
use Rattle.connection_laws.specs.Steps.{after, NextLetter, NextIsHeard}
use Rattle.connection_laws.proofs.Alike.{alike_back, stop_alike}
use Rattle.connection_laws.proofs.Said.{no_stop_is}
use Rattle.session_laws.proofs.Learned.{early_or_not, late_learned}
use Rattle.session_laws.specs.Names.{is_early, name, name_of, spoken, letter_of, phase_of}
use Rattle.session_laws.specs.Roles.{TookReply, Says, FitsEnd}
use Rattle.session_laws.specs.Joined.{Ends, TunnelJoined, tunnel_in}
use Rattle.session_laws.proofs.Keeps.{IsMade}
use Rattle.session_laws.proofs.Roles.{Giver, giver_of}
use Rattle.session_laws.proofs.Alike.{IsSized, alike_spoken, alike_sized, alike_giver}
use Rattle.session_laws.proofs.Entering.{with_taken, got_last}
use Rattle.session_laws.proofs.Names.{name_some, known_name}
use Rattle.session_laws.proofs.States.{IsAtWork, at_work, below_or_not, heeds_all, heeds_one}
use Rattle.session_laws.proofs.Ground.{live_made, tunnel_before}

-- ---- states

pub active_phase : (s : TunnelState) → 1 ≤ state_number s → state_number s ≤ 3 → is_active (phase_of s) ≡ true
active_phase tunnel.Idle some few = absurd (omega arith)
active_phase tunnel.WaitCtlReply some few = refl
active_phase tunnel.WaitCtlConn some few = refl
active_phase tunnel.Established some few = refl
active_phase tunnel.Closed some few = absurd (omega arith)

pub live_phase : (s : TunnelState) → 1 ≤ state_number s → is_live (phase_of s) ≡ true
live_phase tunnel.Idle some = absurd (omega arith)
live_phase tunnel.WaitCtlReply some = refl
live_phase tunnel.WaitCtlConn some = refl
live_phase tunnel.Established some = refl
live_phase tunnel.Closed some = refl

pub open_phase : (s : TunnelState) → state_number s ≡ 3 → phase_of s ≡ Open
open_phase tunnel.Idle is = absurd (omega (arith, is))
open_phase tunnel.WaitCtlReply is = absurd (omega (arith, is))
open_phase tunnel.WaitCtlConn is = absurd (omega (arith, is))
open_phase tunnel.Established is = refl
open_phase tunnel.Closed is = absurd (omega (arith, is))

-- ---- a delivery

-- of what an end says, but that a tunnel closes
pub delivers_spoken : (r : Rules) (w : World) (x s e k z : ℕ) (n m header : ℕ) (said : Message) → IsNoStop said
    → may_take r w x s e k (spoken n m header said) ≡ true
    → delivers r w x s e k z (Some (spoken n m header said)) ≡ takes r (took_one w x) x s (spoken n m header said) z
unfolding delivers
delivers_spoken r w x s e k z n m header (Sccrq o) no_stop may = rw may refl
delivers_spoken r w x s e k z n m header (Sccrp o) no_stop may = rw may refl
delivers_spoken r w x s e k z n m header (Scccn response) no_stop may = rw may refl
delivers_spoken r w x s e k z n m header (StopCcn tunnel result error) no_stop may = absurd no_stop
delivers_spoken r w x s e k z n m header Hello no_stop may = rw may refl
delivers_spoken r w x s e k z n m header (Ocrq session) no_stop may = rw may refl
delivers_spoken r w x s e k z n m header Ocrp no_stop may = rw may refl
delivers_spoken r w x s e k z n m header Occn no_stop may = rw may refl
delivers_spoken r w x s e k z n m header Wen no_stop may = rw may refl
delivers_spoken r w x s e k z n m header Sli no_stop may = rw may refl
delivers_spoken r w x s e k z n m header (Fsq sessions) no_stop may = rw may refl
delivers_spoken r w x s e k z n m header (Fsr sessions) no_stop may = rw may refl
delivers_spoken r w x s e k z n m header (Icrq session serial calling) no_stop may = rw may refl
delivers_spoken r w x s e k z n m header (Icrp session) no_stop may = rw may refl
delivers_spoken r w x s e k z n m header (Iccn speed framing sequenced) no_stop may = rw may refl
delivers_spoken r w x s e k z n m header (Cdn session result error) no_stop may = rw may refl

-- an active tunnel takes the next letter of one that has learned it
pub may_take_next : (w : World) (x s k : ℕ) (l : Letter) → is_active (w.tunnels.phase x) ≡ true → 0 < s → w.tunnels.learned s ≡ x
    → w.tunnels.entered x ≡ 0 → w.channels.taken x 0 ≡ k → may_take all_rules w x s 0 k l ≡ true
unfolding may_take
may_take_next w x s k l active some learned now next = rw (active, lt-ltb 0 s some, learned, eq-eqb x x refl, now, next, eq-eqb k k refl) refl

-- ---- the letter that a tunnel takes

-- what gave a letter was made
pub giver_made : (accs : Accounts) (n i k : ℕ) (l : step_laws.Letter) → AccountOk accs n i (accs n i) → slice_get (accs n i).given k ≡ Some l
    → facts.IsMade (accs n i)
giver_made accs n i k l ok there none =
    let same : accs n i ≡ no_account = subst (IsPart accs n i (accs n i)) none ok.part in
    let g = rw same at there in
    let no : ⊥ = cc in no

-- so it is of those behind the first
later_is : (P : step_laws.Letter → Type 0) (ls : List step_laws.Letter) (k : ℕ) (l : step_laws.Letter) → 1 ≤ k → slice_get ls k ≡ Some l
    → AllByRecursion P (drop 1 ls) → P l
later_is P [] k l some there all = let no : ⊥ = cc in absurd no
later_is P (x ∷ ls) zero l some there all = absurd (omega (arith, some))
later_is P (x ∷ ls) (suc k) l some there all = all_at P ls k l there all

pub record Delivered (accs : Accounts) (w : World) (n i : ℕ) (sender : Option Sender) (session : ℕ) (m : Message) : Type 0 where
  -- the tunnel that sent it
  pub from : Sender
  pub sender_is : sender ≡ Some from
  pub node : (accs n i).peer ≡ from.node
  -- the tunnel that takes it isn't closed
  pub is_open : IsOpen (accs n i)
  pub fits : from.node < 256
  pub some : 0 < from.tunnel
  pub id : from.tunnel < 65536
  pub joined : (o : Option Tunnel) × TunnelJoined w from.node from.tunnel (accs from.node from.tunnel) o
  pub goes : (accs from.node from.tunnel).peer ≡ n
  pub learned : (accs from.node from.tunnel).remote ≡ i
  -- the letter in the machine's list, and as it was written
  pub stands : slice_get (w.channels.sent (name from.node from.tunnel) 0) (length (accs n i).taken) ≡ Some (spoken from.node n session m)
  pub written : IsSized m
  pub header : session < 65536
  -- what gave it is of an end whose role it fits
  pub giver : Giver (accs from.node from.tunnel) m
  -- its delivery in the machine, with the name of a new call
  pub is : (z : ℕ) → step all_rules w (Delivers (name n i) (name from.node from.tunnel) 0 (length (accs n i).taken) z)
      ≡ takes all_rules (took_one w (name n i)) (name n i) (name from.node from.tunnel) (spoken from.node n session m) z

module _ (accs : Accounts) (ends : Ends) (w : World) (n : ℕ) (e x : End) (sender : Option Sender) (moment : ℕ) (ev : Event) (mv : Move) (d : Deed)
    (h : IsMade accs ends w n e x sender moment ev mv d) (i : ℕ) (t : Tunnel) (there : at e.tunnels i ≡ Some t) where
  abbrev a : Account
  a = accs n i

  live : LiveOk accs n i a t
  live = h.moved.within.end.live i t there

  pub here_made : facts.IsMade a
  here_made = live_made accs n i a t live

  pub here_some : 0 < i
  here_some = (h.moved.within.accounts n i).some here_made

  pub here_fits : i < 65536
  here_fits = (h.moved.within.accounts n i).id here_made

  -- the live tunnel in the machine
  pub here_joined : TunnelJoined w n i a (Some t)
  here_joined = subst (λ o. TunnelJoined w n i a o) there (tunnel_before accs ends w n e x sender moment ev mv d h i here_fits)

  module _ (not_shut : is_closed t.control.state ≡ false) where
    here_works : IsAtWork a t
    here_works = at_work accs n i a t live not_shut

    pub here_active : is_active (w.tunnels.phase (name n i)) ≡ true
    here_active = rw here_joined.phase (active_phase t.control.state here_works.some here_works.few)

    -- it heeded all that it took
    pub here_took : w.channels.taken (name n i) 0 ≡ length a.taken
    here_took = here_joined.taken ∙ heeds_all a here_works.is_open

    module _ (session : ℕ) (m : Message) (no_stop : IsNoStop m) (k : NextLetter accs n i sender session m) where
      abbrev b : Account
      b = accs k.from.node k.from.tunnel

      from_ok : AccountOk accs k.from.node k.from.tunnel b
      from_ok = h.moved.within.accounts k.from.node k.from.tunnel

      from_made : facts.IsMade b
      from_made = giver_made accs k.from.node k.from.tunnel (length a.taken) k.letter from_ok k.there

      abbrev s : ℕ
      s = name k.from.node k.from.tunnel

      abbrev o : Option Tunnel
      o = tunnel_in (ends k.from.node) k.from.tunnel

      from_joined : TunnelJoined w k.from.node k.from.tunnel b o
      from_joined = h.joined.tunnels k.from.node k.from.tunnel (from_ok.node from_made) (from_ok.id from_made)

      -- one that is closed before it heeded a letter gives no more than a StopCCN behind its SCCRQ, which its acceptor has taken
      no_early : b.part ≡ Opener → b.closed ≡ Some 0 → ⊥
      no_early opens closed =
          let opener : IsOpener accs k.from.node k.from.tunnel b = subst (IsPart accs k.from.node k.from.tunnel b) opens from_ok.part in
          let known : b.remote ≡ 0 → ⊥ = λ z. (let told = k.learned in let some = here_some in let no : ⊥ = omega (arith, z) in no) in
          let other : a.part ≡ Acceptor = ap₂ (λ p q. (accs p q).part) (sym k.goes) (sym k.learned) ∙ opener.part known in
          let acceptor : IsAcceptor accs n i a = subst (IsPart accs n i a) other (h.moved.within.accounts n i).part in
          no_stop_is m no_stop
          (stop_alike m k.letter.message (alike_back k.letter.message m k.message_is)
          (later_is (λ (l : step_laws.Letter). IsStopCcn l.message) b.given (length a.taken) k.letter acceptor.some k.there (opener.early closed).1))

      late : is_early b.part b.closed ≡ false
      late = ⊎_elim
          (λ (e : (b.part ≡ Opener) × (b.closed ≡ Some 0)). absurd (no_early e.0 e.1))
          (λ (is : is_early b.part b.closed ≡ false). is)
          (early_or_not b.part b.closed)

      -- it has learned this tunnel
      learned : w.tunnels.learned s ≡ name n i
      learned = from_joined.learned ∙ late_learned b late ∙ ap₂ name_of k.goes k.learned ∙ known_name n i here_some

      stands : slice_get (w.channels.sent s 0) (length a.taken) ≡ Some (spoken k.from.node n session m)
      stands =
          rw (from_joined.sent, slice_get-map (letter_of k.from.node b.peer) b.given (length a.taken), k.there, k.goes, k.session_is)
          (ap (λ (q : Letter). Some q) (alike_spoken k.from.node n session k.letter.message m k.message_is))

      spelled : IsSpelled k.letter
      spelled = all_at IsSpelled b.given (length a.taken) k.letter k.there from_ok.spelled

      giver : Giver b m
      giver = alike_giver b k.letter.message m k.message_is
          (giver_of (ends k.from.node) b (length a.taken) k.letter (h.joined.fit k.from.node k.from.tunnel) k.there)

      may : (l : Letter) → may_take all_rules w (name n i) s 0 (length a.taken) l ≡ true
      may l = may_take_next w (name n i) s (length a.taken) l here_active (name_some k.from.node k.from.tunnel (from_ok.some from_made)) learned
          here_joined.entered here_took

      step_is : (z : ℕ) → step all_rules w (Delivers (name n i) s 0 (length a.taken) z)
          ≡ takes all_rules (took_one w (name n i)) (name n i) s (spoken k.from.node n session m) z
      unfolding step
      step_is z =
          ap (λ g. delivers all_rules w (name n i) s 0 (length a.taken) z g) stands
          ∙ delivers_spoken all_rules w (name n i) s 0 (length a.taken) z k.from.node n session m no_stop (may (spoken k.from.node n session m))

      pub next_delivered : Delivered accs w n i sender session m
      next_delivered = record {
        from = k.from;
        sender_is = k.sender_is;
        node = k.peer;
        is_open = here_works.is_open;
        fits = from_ok.node from_made;
        some = from_ok.some from_made;
        id = from_ok.id from_made;
        joined = (o, from_joined);
        goes = k.goes;
        learned = k.learned;
        stands = stands;
        written = alike_sized k.letter.message m k.message_is spelled.written;
        header = subst (λ q. q < 65536) k.session_is spelled.session;
        giver = giver;
        is = step_is;
      }

-- a letter that a tunnel hears is delivered
pub delivered : NextIsHeard → (accs : Accounts) (ends : Ends) (w : World) (n : ℕ) (e x : End) (sender : Option Sender) (moment : ℕ) (ev : Event) (mv : Move)
    (d : Deed) → IsMade accs ends w n e x sender moment ev mv d → (i : ℕ) (t : Tunnel) → at e.tunnels i ≡ Some t → is_closed t.control.state ≡ false
    → (session : ℕ) (m : Message) → IsNoStop m → HearsNext ev t session m → Delivered accs w n i sender session m
delivered heard accs ends w n e x sender moment ev mv d h i t there works session m no_stop k =
    next_delivered accs ends w n e x sender moment ev mv d h i t there works session m no_stop
    (heard accs n e sender ev h.moved.within i t there works session m no_stop k)

-- ---- the partner

some_same : {X : Type 0} (x y : X) → Some x ≡ Some y → x ≡ y
some_same x y h = cc

pub partner_by : (b : Account) (p : Sender) → partner_of b ≡ Some p → (b.peer ≡ p.node) × (b.remote ≡ p.tunnel)
partner_by b p h = by (eqb b.remote 0) h
  where
    by : (none : Bool) → cond none None (Some (record { node = b.peer; tunnel = b.remote })) ≡ Some p → (b.peer ≡ p.node) × (b.remote ≡ p.tunnel)
    by true g = absurd cc
    by false g =
        let same : record { node = b.peer; tunnel = b.remote } ≡ p = some_same _ p g in
        (ap (λ (q : Sender). q.node) same, ap (λ (q : Sender). q.tunnel) same)

-- whoever sent what a tunnel took is the tunnel's partner
pub sender_partner : (accs : Accounts) (b : Account) (number : ℕ) (tk : Taken) (from : Sender) → IsTaken accs b number tk → tk.sender ≡ Some from
    → (b.peer ≡ from.node) × (b.remote ≡ from.tunnel)
sender_partner accs b number tk from h is =
    partner_by b from (h.learned ∙ sym h.sender ∙ is)

-- the tunnel gave a reply
pub record GaveReply (b : Account) : Type 0 where
  pub number : ℕ
  pub letter : step_laws.Letter
  pub there : slice_get b.given number ≡ Some letter
  pub session : ℕ
  pub is : letter.message ≡ Icrp session

-- a closed tunnel takes no reply by which a call comes up
heeded_reply : (b : Account) → AreIgnored b → (reply : TookReply b) → reply.number < heeded b
heeded_reply b ignored reply = ⊎_elim
    (λ (below : reply.number < heeded b). below)
    (λ (above : heeded b ≤ reply.number).
    let no : IsIgnored (move.FirstUp reply.up) = subst IsIgnored reply.up_is (ignored reply.number reply.taken reply.there above) in absurd no)
    (below_or_not reply.number (heeded b))

-- so did the partner of one that took one
pub reply_given : (accs : Accounts) (b : Account) → AreTaken accs b → AreIgnored b → TookReply b → GaveReply (partner_in accs b)
reply_given accs b all ignored reply =
    let took = all reply.number reply.taken reply.there (heeded_reply b ignored reply) in
    let partner = partner_by b took.partner took.learned in
    let tells : Tells took.letter (move.FirstUp reply.up) = subst (Tells took.letter) reply.up_is took.tells in
    subst GaveReply (ap₂ accs (sym partner.0) (sym partner.1))
    (record { number = reply.number; letter = took.letter; there = took.there; session = reply.up.remote; is = tells.1 })

-- and an LNS replies
pub replies_role : (r : Role) (b : Account) → FitsEnd r b → GaveReply b → r ≡ Lns
replies_role r b fits gave =
    subst (Says r b) gave.is (all_at (λ (l : step_laws.Letter). Says r b l.message) b.given gave.number gave.letter gave.there fits.says)

-- ---- the account after a letter was taken

pub partner_now : (accs : Accounts) (ends : Ends) (w : World) (n : ℕ) (e x : End) (sender : Option Sender) (moment : ℕ) (ev : Event) (mv : Move) (d : Deed)
    → IsMade accs ends w n e x sender moment ev mv d → (i : ℕ) (a : Account) (tk : Taken) (more : List step_laws.Letter) (from : Sender)
    → after accs d n i ≡ with_taken tk more a → IsOpen a → tk.sender ≡ Some from → (a.peer ≡ from.node) × (a.remote ≡ from.tunnel)
partner_now accs ends w n e x sender moment ev mv d h i a tk more from is works sent =
    let ok : AccountOk (after accs d) n i (with_taken tk more a) = subst (λ b. AccountOk (after accs d) n i b) is (h.leads.accounts n i) in
    let one = heeds_one tk more a works in
    let all = heeds_all a works in
    let lt : length a.taken < heeded (with_taken tk more a) = omega arith in
    sender_partner (after accs d) (with_taken tk more a) (length a.taken) tk from (ok.taken (length a.taken) tk (got_last a.taken tk) lt) sent
