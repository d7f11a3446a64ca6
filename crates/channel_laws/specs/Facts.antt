-- What holds of the channels of a world, epoch by epoch, of its recoveries and of its packets, after each line of every schedule and after each
-- move, whatever crashes. It is made of these groups:
--   accounts   each channel that is or was: what it gave and took, and how that fits to its partner's of the same epoch
--   answers    each answer to an attempt that was given, the epoch that it makes, and the two numbers with which both ends begin that epoch
--   tunnels    each live tunnel: its channel is that of the epoch in which it is, unless it is frozen or restored; and its recovery tunnel
--   books      each tunnel that a node's checkpoint has, while the node is up or down: so a start brings it back as what it was
--   standings  what the world keeps of each tunnel: the epoch that it entered last, how many were made, what a lost channel had counted
--   packets    each packet that was ever sent: a copy of a letter of its sender's channel in the epoch in which it was sent; a letter of a
--              recovery tunnel; or a data message
-- Of the epochs themselves nothing is said here but what the standings are: which of two ends is ahead is the abstract machine's to tell. What the
-- channels need of that is in Epochs.
use Rattle.std.specs.Prelude.{◌≡◌, ◌⊎◌, ℕ, ◌+◌, ◌^◌, ◌<◌, ◌≤◌, Bool, true, false, List, [], drop, map, length, slice_get, Option, Some, None, is_some}
use Rattle.std.specs.List.{AllByRecursion}
use Rattle.id_table.specs.Ids.{at}
use Rattle.l2tp_header.specs.Spelling.{control_bytes}
use Rattle.avp_codec.specs.Spelling.{spelling}
use Rattle.control_message.specs.declared.message.Message.{Message}
use Rattle.control_message.specs.declared.message.Message.TheVariants.{Sccrq, Sccrp, Scccn, StopCcn, Fsq, Fsr}
use Rattle.control_message.specs.declared.message.Opening.{Opening}
use Rattle.control_message.specs.declared.message.Recovery.{Recovery}
use Rattle.control_message.specs.Pairs.{pairs_of, IsWritten}
use Rattle.recv_window.specs.Window.{on_wire}
use Rattle.tunnel_fsm.specs.Rows.{state_number}
use Rattle.session_query.specs.Queries.{Asking}
use Rattle.wire_base.specs.declared.pair.Pair.{Pair}
use Rattle.session_book.specs.declared.record.BookTunnel.{BookTunnel}
use Rattle.session_book.specs.declared.record.BookCall.{BookCall}
use Rattle.session_book.specs.Books.{Kept, tunnel_at, call_at}
use Rattle.end_names.specs.declared.role.Role.TheVariants.{Lac}
use Rattle.end_names.specs.Names.{address_of, node_of}
use Rattle.end_model.specs.declared.moves.Restored.{Restored}
use Rattle.end_model.specs.declared.moves.Froze.{Froze}
use Rattle.end_model.specs.declared.out.Origin.{Origin}
use Rattle.end_model.specs.declared.out.Origin.TheVariants as origin
use Rattle.end_model.specs.declared.out.ControlOrigin.{ControlOrigin}
use Rattle.end_model.specs.declared.tunnel.Call.{Call}
use Rattle.end_model.specs.Tunnels.{Tunnel, no_query, Recovering, ByAttempt, ByAnswer, mode_of, is_current}
use Rattle.end_model.specs.End.{End}
use Rattle.world_model.specs.declared.packet.Packet.{Packet}
use Rattle.world_model.specs.declared.standing.Standing.{Standing}
use Rattle.world_model.specs.World.{World, Node, Sender, standing_of, epoch_of, answer_in, no_standing}
use Rattle.step_laws.specs.Letters.{Letter}
use Rattle.step_laws.specs.Codes.{CodesFit}
use Rattle.connection_laws.specs.Facts.{IsNoOpening, IsStopCcn, IsSpelled, BeginsWith, Tells, TellsOwn, IsIgnored, kept_letter, AllWait, IsData}
use Rattle.node_laws.specs.Nodes.{HoldsNode}
use Rattle.channel_laws.specs.Accounts.{Part, Unmade, Opener, Acceptor, Renewed, Taken, Account, no_account, heeded, partner_of, History}

-- by node, local id and epoch
abbrev pub Accounts : Type 0
Accounts = ℕ → ℕ → ℕ → Account

abbrev pub IsMade : Account → Type 0
IsMade a = a.part ≡ Unmade → ⊥

-- the account of the other end of a tunnel that has learned its id, in the same epoch
abbrev pub partner_in : Accounts → ℕ → Account → Account
partner_in accs e a = accs a.peer a.remote e

-- ---- letters

-- a message that asks for sessions, or answers
abbrev pub IsOfQuery : Message → Type 0
IsOfQuery (Fsq sessions) = Unit {0}
IsOfQuery (Fsr sessions) = Unit {0}
IsOfQuery m = ⊥

-- a letter that does, as the codec writes it
pub record IsSpelledQuery (l : Letter) : Type 0 where
  pub query : IsOfQuery l.message
  pub written : IsWritten l.message
  pub plain : l.hidden ≡ None
  pub session : l.session ≡ 0

-- in epoch 0 letters are spelled as where nothing is recovered; in a later one sessions are asked for too
abbrev pub IsSpelledIn : ℕ → Letter → Type 0
IsSpelledIn e l = IsSpelled l ⊎ ((0 < e) × IsSpelledQuery l)

-- ---- what was taken

-- what a channel took in some place is the letter in that place of those that its partner gave in the same epoch; both count places from the number
-- with which the partner's letters begin in it
pub record IsTaken (accs : Accounts) (e : ℕ) (a : Account) (place : ℕ) (t : Taken) : Type 0 where
  pub numbered : t.number ≡ a.first_taken + place
  pub partner : Sender
  pub learned : partner_of a ≡ Some partner
  pub sender : t.sender ≡ Some partner
  pub letter : Letter
  pub there : slice_get (accs partner.node partner.tunnel e).given place ≡ Some letter
  pub tells : Tells letter t.move

-- so it is with each that it took as long as it wasn't closed
abbrev pub AreTaken : Accounts → ℕ → Account → Type 0
AreTaken accs e a = (place : ℕ) (t : Taken) → slice_get a.taken place ≡ Some t → place < heeded a → IsTaken accs e a place t

-- ---- closed channels

abbrev pub IsOpen : Account → Type 0
IsOpen a = a.closed ≡ None

abbrev pub IsClosed : Account → Type 0
IsClosed a = (count : ℕ) × (a.closed ≡ Some count) × (count ≤ length a.taken)

-- a closed tunnel does nothing with what it takes
abbrev pub AreIgnored : Account → Type 0
AreIgnored a = (place : ℕ) (t : Taken) → slice_get a.taken place ≡ Some t → heeded a ≤ place → IsIgnored t.move

-- it was closed before it had learned its partner, or taken anything
abbrev pub IsLost : Account → Type 0
IsLost a = (a.closed ≡ Some 0) × (a.remote ≡ 0)

-- ---- two partners

-- what both ends of a link took of each other in one epoch: no more than was given, and at most 8,192 letters more were given than are taken. An
-- opener that is closed may have taken the SCCRP and the StopCCN of another acceptor of its SCCRQ
pub record AreJoined (a b : Account) : Type 0 where
  pub here : (length a.taken ≤ length b.given) ⊎ (IsClosed a × (length a.taken ≤ 2))
  pub there : length b.taken ≤ length a.given
  pub few_here : length a.given ≤ length b.taken + 8192
  pub few_there : length b.given ≤ length a.taken + 8192

-- in a later epoch, so it is without that exception
pub record AreEven (a b : Account) : Type 0 where
  pub here : length a.taken ≤ length b.given
  pub there : length b.taken ≤ length a.given
  pub few_here : length a.given ≤ length b.taken + 8192
  pub few_there : length b.given ≤ length a.taken + 8192

-- it gave one letter and then a StopCCN, or that alone
pub record HasStopped (a : Account) : Type 0 where
  pub closed : IsClosed a
  pub few : length a.given ≤ 2
  pub stops : AllByRecursion (λ (l : Letter). IsStopCcn l.message) (drop 1 a.given)

abbrev pub GaveLittle : Account → Type 0
GaveLittle a = (length a.given ≤ 2) × AllByRecursion (λ (l : Letter). IsStopCcn l.message) (drop 1 a.given)

-- ---- epoch 0

-- a tunnel that was opened: what it takes is of the acceptor that it learned; one that is lost gave its SCCRQ and a StopCCN at most, and ignored two
-- letters at most. One that was closed before it heeded a letter, lost or as it rejected its SCCRP, gave no more than that
pub record IsOpener (accs : Accounts) (n i : ℕ) (a : Account) : Type 0 where
  pub begins : BeginsWith i Sccrq a.given
  pub none : a.remote ≡ 0 → (a.taken ≡ []) ⊎ (IsLost a × (length a.taken ≤ 2))
  pub one_given : a.remote ≡ 0 → (length a.given ≡ 1) ⊎ (IsLost a × (length a.given ≤ 2))
  pub some : (a.remote ≡ 0 → ⊥) → 1 ≤ length a.taken
  pub part : (a.remote ≡ 0 → ⊥) → (partner_in accs 0 a).part ≡ Acceptor
  pub peer : (a.remote ≡ 0 → ⊥) → (partner_in accs 0 a).peer ≡ n
  pub remote : (a.remote ≡ 0 → ⊥) → (partner_in accs 0 a).remote ≡ i
  pub joined : (a.remote ≡ 0 → ⊥) → AreJoined a (partner_in accs 0 a)
  pub early : a.closed ≡ Some 0 → GaveLittle a

-- a tunnel that was accepted: as long as its opener hasn't learned it, it took the SCCRQ alone, and gave its SCCRP alone; but one that is closed gave
-- a StopCCN too, and the opener's StopCCN may come where the opener is lost. (An opener that learned it by a record that a stop kept, and did
-- no more in that step, hasn't learned it here: it sent nothing then, and never does.)
pub record IsAcceptor (accs : Accounts) (n i : ℕ) (a : Account) : Type 0 where
  pub begins : BeginsWith i Sccrp a.given
  pub known : a.remote ≡ 0 → ⊥
  pub some : 1 ≤ length a.taken
  pub part : (partner_in accs 0 a).part ≡ Opener
  pub peer : (partner_in accs 0 a).peer ≡ n
  pub one_taken : ((partner_in accs 0 a).remote ≡ i → ⊥) → (length a.taken ≡ 1) ⊎ (IsLost (partner_in accs 0 a) × (length a.taken ≤ 2))
  pub one_given : ((partner_in accs 0 a).remote ≡ i → ⊥) → (length a.given ≡ 1) ⊎ HasStopped a

-- two tunnels are the ends of one link: one opened it and the other accepted it, each goes to the other's node, and has learned the other's id by
-- its letter. An opener that rejects the SCCRP that tells it an id has learned none
pub record AreLinked (accs : Accounts) (n i m j : ℕ) : Type 0 where
  pub forth_peer : (accs n i 0).peer ≡ m
  pub forth : (accs n i 0).remote ≡ j
  pub back_peer : (accs m j 0).peer ≡ n
  pub back : (accs m j 0).remote ≡ i
  pub from_some : 0 < i
  pub to_some : 0 < j
  pub from_late : (accs n i 0).closed ≡ Some 0 → ⊥
  pub to_late : (accs m j 0).closed ≡ Some 0 → ⊥
  pub parts : (((accs n i 0).part ≡ Opener) × ((accs m j 0).part ≡ Acceptor)) ⊎ (((accs n i 0).part ≡ Acceptor) × ((accs m j 0).part ≡ Opener))

-- ---- books

-- the id of the peer's that a book has of a tunnel: the one that it learned by a letter that it took; or it is an opener that has taken none, and a
-- stop kept the record by which it learned that acceptor of its SCCRQ, and nothing else of the step. Such a tunnel is restored and cleared, and
-- takes no letter any more
pub data KnowsBy (accs : Accounts) (n i remote : ℕ) : Type 0 where
  ByLetter : (accs n i 0).remote ≡ remote → KnowsBy accs n i remote
  ByRecord : (accs n i 0).part ≡ Opener → (accs n i 0).remote ≡ 0 → (accs (accs n i 0).peer remote 0).part ≡ Acceptor
      → (accs (accs n i 0).peer remote 0).peer ≡ n → (accs (accs n i 0).peer remote 0).remote ≡ i → KnowsBy accs n i remote

-- a tunnel that a node's checkpoint has: it was opened or accepted, an acceptor's opener has learned it, and it isn't closed
pub record BookedOk (h : History) (n : ℕ) (b : BookTunnel) : Type 0 where
  pub made : IsMade (h.accounts n b.local 0)
  pub peer : b.peer ≡ address_of (h.accounts n b.local 0).peer
  pub remote : 0 < b.remote
  pub knows : KnowsBy h.accounts n b.local b.remote
  pub learned : (h.accounts n b.local 0).part ≡ Acceptor → (partner_in h.accounts 0 (h.accounts n b.local 0)).remote ≡ b.local
  -- it wasn't closed before it heeded a letter
  pub late : (h.accounts n b.local 0).closed ≡ Some 0 → ⊥

-- ---- answers, and the epochs that they make

-- the epoch that the answer of a node with this id makes
abbrev pub makes : World → ℕ → ℕ → ℕ
makes w m c = answer_in (at w.nodes m) c

-- an answer of a node to an attempt of its peer at the recovery of their link
pub record AnswerOk (w : World) (h : History) (m c : ℕ) (f : Froze) : Type 0 where
  pub own : f.answer ≡ c
  pub some : 0 < c
  pub fits : c < 65536
  pub draw_fits : f.draw < 2 ^ 32
  pub peer_fits : node_of f.peer < 256
  pub peer_is : f.peer ≡ address_of (node_of f.peer)
  pub linked : AreLinked h.accounts m f.tunnel (node_of f.peer) f.remote
  pub attempt : Restored
  pub attempted : h.attempts (node_of f.peer) f.attempt ≡ Some attempt
  pub attempts : attempt.tunnel.local ≡ f.remote
  -- it makes an epoch of the link, which was made
  pub epoch_some : 0 < makes w m c
  pub epoch_made : makes w m c ≤ (standing_of w m f.tunnel).made
  -- both numbers have 16 bits
  pub expect : f.expect < 65536
  pub send_from : f.send_from < 65536

-- an attempt of a node, at the recovery of a tunnel that its checkpoint had
pub record AttemptOk (h : History) (n a : ℕ) (m : Restored) : Type 0 where
  pub own : m.attempt ≡ a
  pub some : 0 < a
  pub fits : a < 65536
  pub draw_fits : m.draw < 2 ^ 32
  pub booked : BookedOk h n m.tunnel

-- the end that gave the answer begins the epoch with the number that it suggests for itself, and expects the other one; its peer does it the
-- other way round
pub data BeginsBy (h : History) (n i : ℕ) (a : Account) (m c : ℕ) (f : Froze) : Type 0 where
  AsGiver : m ≡ n → f.tunnel ≡ i → node_of f.peer ≡ a.peer → f.remote ≡ a.remote → a.first_given ≡ f.send_from → a.first_taken ≡ f.expect
      → BeginsBy h n i a m c f
  AsPeer : m ≡ a.peer → f.tunnel ≡ a.remote → node_of f.peer ≡ n → f.remote ≡ i → a.first_given ≡ f.expect → a.first_taken ≡ f.send_from
      → BeginsBy h n i a m c f

-- a channel of a later epoch: it began by an answer that makes the epoch, of a link whose ends are as they were in epoch 0; where the partner
-- has entered the epoch too, that is by the same answer, and the two are joined. As long as it hasn't, nothing was given there, and nothing
-- taken here
pub record IsRenewed (w : World) (h : History) (n i e : ℕ) (a : Account) : Type 0 where
  pub later : 0 < e
  pub peer : a.peer ≡ (h.accounts n i 0).peer
  pub remote : a.remote ≡ (h.accounts n i 0).remote
  pub linked : AreLinked h.accounts n i a.peer a.remote
  pub by : Sender
  pub answer : a.answer ≡ Some by
  pub froze : Froze
  pub answered : h.answers by.node by.tunnel ≡ Some froze
  pub makes_it : makes w by.node by.tunnel ≡ e
  pub begins : BeginsBy h n i a by.node by.tunnel froze
  pub other : ((partner_in h.accounts e a).part ≡ Renewed) ⊎ (partner_in h.accounts e a ≡ no_account)
  pub same : (partner_in h.accounts e a).part ≡ Renewed → (partner_in h.accounts e a).answer ≡ a.answer
  pub joined : AreEven a (partner_in h.accounts e a)
  pub no_opening : AllByRecursion (λ (l : Letter). IsNoOpening l.message) a.given

abbrev pub IsPart : World → History → ℕ → ℕ → ℕ → Account → Part → Type 0
IsPart w h n i e a Unmade = a ≡ no_account
IsPart w h n i e a Opener = (e ≡ 0) × IsOpener h.accounts n i a
IsPart w h n i e a Acceptor = (e ≡ 0) × IsAcceptor h.accounts n i a
IsPart w h n i e a Renewed = IsRenewed w h n i e a

-- the letters of a channel begin with no number in epoch 0, and with one of 16 bits later
pub record AccountOk (w : World) (h : History) (n i e : ℕ) (a : Account) : Type 0 where
  pub part : IsPart w h n i e a a.part
  pub some : IsMade a → 0 < i
  pub id : IsMade a → i < 65536
  pub node : IsMade a → n < 256
  pub peer : a.peer < 256
  pub remote : a.remote < 65536
  pub first_given : a.first_given < 65536
  pub first_taken : a.first_taken < 65536
  pub from_none : e ≡ 0 → (a.first_given ≡ 0) × (a.first_taken ≡ 0)
  pub spelled : AllByRecursion (IsSpelledIn e) a.given
  pub told : AllByRecursion (λ (l : Letter). TellsOwn i l.message) a.given
  pub taken : AreTaken h.accounts e a
  pub ignored : AreIgnored a
  -- a tunnel entered no epoch above the one in which it is; the one in which it is it did enter
  pub entered : IsMade a → e ≤ epoch_of w n i
  pub declined : a.declined ≡ true → (e ≡ 0) × (a.part ≡ Opener)

-- ---- live tunnels

-- a closed tunnel has no calls
abbrev pub IsShut : Account → Tunnel → Type 0
IsShut a t = (state_number t.control.state ≡ 4) × IsClosed a × (t.calls ≡ [])

-- an acceptor of the tunnel's SCCRQ took so many of its letters
pub record IsAnswered (accs : Accounts) (n i : ℕ) (a : Account) (acked : ℕ) : Type 0 where
  pub acceptor : ℕ
  pub part : (accs a.peer acceptor 0).part ≡ Acceptor
  pub peer : (accs a.peer acceptor 0).peer ≡ n
  pub remote : (accs a.peer acceptor 0).remote ≡ i
  pub enough : acked ≤ length (accs a.peer acceptor 0).taken

-- where a tunnel stands that is neither frozen nor restored, by how it entered its epoch: it has learned its partner's id once it is open, and an
-- acceptor is open only where its opener has learned it
abbrev pub IsInState : Accounts → ℕ → ℕ → Account → Tunnel → Part → Type 0
IsInState accs i e a t Unmade = ⊥
IsInState accs i e a t Opener =
    ((state_number t.control.state ≡ 1) × (a.remote ≡ 0) × IsOpen a × AllWait t.calls)
    ⊎ (((state_number t.control.state ≡ 3) × (a.remote ≡ 0 → ⊥) × IsOpen a) ⊎ IsShut a t)
IsInState accs i e a t Acceptor =
    ((state_number t.control.state ≡ 2) × (t.calls ≡ []) × IsOpen a)
    ⊎ (((state_number t.control.state ≡ 3) × ((partner_in accs 0 a).remote ≡ i) × IsOpen a) ⊎ IsShut a t)
IsInState accs i e a t Renewed = ((state_number t.control.state ≡ 3) × IsOpen a) ⊎ IsShut a t

-- so many letters that a tunnel counts as acknowledged were taken: by its partner in that epoch, or, before it has learned one, by an acceptor of its
-- SCCRQ; of an acceptor that its opener hasn't learned nothing was, but where the opener is lost
abbrev pub AreAcked : Accounts → ℕ → ℕ → ℕ → Account → ℕ → Part → Type 0
AreAcked accs n i e a acked Unmade = ⊥
AreAcked accs n i e a acked Opener =
    (a.remote ≡ 0 → (acked ≡ 0) ⊎ (IsAnswered accs n i a acked ⊎ ((acked ≡ 1) × (a.declined ≡ true))))
    × ((a.remote ≡ 0 → ⊥) → acked ≤ length (partner_in accs 0 a).taken)
AreAcked accs n i e a acked Acceptor =
    (((partner_in accs 0 a).remote ≡ i → ⊥) → (acked ≡ 0) ⊎ IsLost (partner_in accs 0 a))
    × ((partner_in accs 0 a).remote ≡ i → acked ≤ length (partner_in accs 0 a).taken)
AreAcked accs n i e a acked Renewed = acked ≤ length (partner_in accs e a).taken

-- a tunnel that is neither frozen nor restored, and its channel, are as what was done in its epoch says; `e` is that epoch, `a` its account
pub record ChannelOk (accs : Accounts) (n i e : ℕ) (a : Account) (t : Tunnel) : Type 0 where
  pub peer : t.control.peer ≡ address_of a.peer
  pub remote : t.control.remote ≡ a.remote
  pub state : IsInState accs i e a t a.part
  -- how many letters were acknowledged, in the epoch
  pub acked : ℕ
  pub acked_is : t.control.channel.window.acked ≡ a.first_given + acked
  -- the letters from the first that isn't acknowledged on
  pub letters : t.letters ≡ map kept_letter (drop acked a.given)
  pub counted : acked + t.control.channel.window.queued ≡ length a.given
  pub few : t.control.channel.window.queued ≤ 8192
  pub outstanding : t.control.channel.window.outstanding ≤ t.control.channel.window.queued
  pub taken : t.control.channel.inbox.taken ≡ a.first_taken + length a.taken
  pub were_acked : AreAcked accs n i e a acked a.part

-- the recovery tunnel of a tunnel: an attempt, which has the ids and the draw number with which it began; or an answer, which has the ids that were
-- given, the draw number, and the numbers that it suggests. An attempt that reset its tunnel knows the answer by which it did, and it names an answer, or
-- none
abbrev pub IsRecovered : World → History → ℕ → ℕ → Recovering → Type 0
IsRecovered w h n i (ByAttempt c) =
    ((m : Restored) × (h.attempts n c.local ≡ Some m) × (m.tunnel.local ≡ i) × (m.draw ≡ c.draw))
    × ((is_some c.reset ≡ true) → (f : Froze) × (h.answers (h.accounts n i 0).peer c.remote ≡ Some f) × (f.remote ≡ i) × (f.attempt ≡ c.local)
    × (makes w (h.accounts n i 0).peer c.remote ≤ epoch_of w n i) × (node_of f.peer ≡ n))
    × ((c.remote ≡ 0) ⊎ (is_some (h.answers (h.accounts n i 0).peer c.remote) ≡ true))
IsRecovered w h n i (ByAnswer a) =
    (f : Froze) × (h.answers n a.connection.local ≡ Some f) × (f.tunnel ≡ i) × (f.attempt ≡ a.connection.remote)
    × (a.suggested ≡ record { ns = f.expect; nr = f.send_from })
    × ((is_some a.connection.reset ≡ true) → makes w n a.connection.local ≤ epoch_of w n i) × (f.draw ≡ a.connection.draw)

-- what a tunnel asks its other end for, in some epoch: nothing before it was reset; and sessions whose ids have 16 bits at both ends
pub record QueryOk (e : ℕ) (q : Asking) : Type 0 where
  pub none : e ≡ 0 → q ≡ no_query
  pub fit : AllByRecursion (λ (p : Pair). (p.sender < 65536) × (p.receiver < 65536)) q.pairs

-- a live tunnel
pub record LiveOk (w : World) (h : History) (n i : ℕ) (t : Tunnel) : Type 0 where
  pub local : t.control.local ≡ i
  pub made : IsMade (h.accounts n i 0)
  pub peer : t.control.peer ≡ address_of (h.accounts n i 0).peer
  -- the channel of one that is neither frozen nor restored is that of its epoch, and wasn't lost
  pub channel : is_current (mode_of t.recovery) ≡ true → ChannelOk h.accounts n i (epoch_of w n i) (h.accounts n i (epoch_of w n i)) t
  pub kept : is_current (mode_of t.recovery) ≡ true → (standing_of w n i).lost ≡ None
  -- one that is frozen or restored is established; it knows the id of its peer's as its book does
  pub established : is_current (mode_of t.recovery) ≡ false → state_number t.control.state ≡ 3
  pub some : is_current (mode_of t.recovery) ≡ false → 0 < t.control.remote
  pub knows : is_current (mode_of t.recovery) ≡ false → KnowsBy h.accounts n i t.control.remote
  pub learned : is_current (mode_of t.recovery) ≡ false → (h.accounts n i 0).part ≡ Acceptor → (partner_in h.accounts 0 (h.accounts n i 0)).remote ≡ i
  pub recovery : (r : Recovering) → t.recovery ≡ Some r → IsRecovered w h n i r
  -- one that isn't established yet was never restored
  pub unattempted : state_number t.control.state < 3 → (a : ℕ) (m : Restored) → h.attempts n a ≡ Some m → m.tunnel.local ≡ i → ⊥
  -- ids of calls that the other end gave
  pub calls : (s : ℕ) (c : Call) → at t.calls s ≡ Some c → c.remote < 65536
  -- what it asks for, and is to ask for
  pub query : QueryOk (epoch_of w n i) t.query

-- ---- nodes

-- an id that a node gave is that of one tunnel, attempt or answer; those that were given are below the next one
pub record IdsOk (h : History) (n : ℕ) (e : End) : Type 0 where
  pub tunnels : (i : ℕ) → IsMade (h.accounts n i 0) → i < e.tunnel_ids.next
  pub attempts : (a : ℕ) → is_some (h.attempts n a) ≡ true → a < e.tunnel_ids.next
  pub answers : (c : ℕ) → is_some (h.answers n c) ≡ true → c < e.tunnel_ids.next
  pub no_attempt : (i : ℕ) → IsMade (h.accounts n i 0) → h.attempts n i ≡ None
  pub no_answer : (i : ℕ) → IsMade (h.accounts n i 0) → h.answers n i ≡ None
  pub one : (a : ℕ) → is_some (h.attempts n a) ≡ true → h.answers n a ≡ None

pub record EndOk (w : World) (h : History) (n : ℕ) (e : End) : Type 0 where
  pub node : n < 256
  pub number : e.config.number ≡ n
  pub lns : e.role ≡ Lac → (m : ℕ) × (m < 256) × (e.config.lns ≡ address_of m)
  pub ids : IdsOk h n e
  pub live : (i : ℕ) (t : Tunnel) → at e.tunnels i ≡ Some t → LiveOk w h n i t
  -- a tunnel of another node is the partner of one tunnel at most
  pub apart : (i j : ℕ) (t u : Tunnel) → at e.tunnels i ≡ Some t → at e.tunnels j ≡ Some u → t.control.peer ≡ u.control.peer
      → t.control.remote ≡ u.control.remote → (t.control.remote ≡ 0 → ⊥) → i ≡ j

-- what a node's checkpoint has; of a node that is down nothing else is left
pub record BookOk (h : History) (n : ℕ) (k : Kept) : Type 0 where
  pub tunnels : (i : ℕ) (b : BookTunnel) → tunnel_at k i ≡ Some b → BookedOk h n b
  pub apart : (i j : ℕ) (b c : BookTunnel) → tunnel_at k i ≡ Some b → tunnel_at k j ≡ Some c → b.peer ≡ c.peer → b.remote ≡ c.remote → i ≡ j
  -- ids of calls that the other end gave
  pub calls : (s : ℕ) (c : BookCall) → call_at k s ≡ Some c → c.remote < 65536

-- of a node that isn't declared nothing is known. What holds of a node by itself, as node_laws says it, is said beside this
abbrev pub NodeOk : World → History → ℕ → Option Node → Type 0
NodeOk w h n None = ((i e : ℕ) → h.accounts n i e ≡ no_account) × (((a : ℕ) → h.attempts n a ≡ None) × ((c : ℕ) → h.answers n c ≡ None))
NodeOk w h n (Some node) = EndOk w h n node.end × BookOk h n node.checkpoint.book

-- what the world keeps of a tunnel. Of one that was never made it keeps nothing; the epoch in which one is was made, and it entered it
pub record StandingOk (h : History) (n i : ℕ) (s : Standing) : Type 0 where
  pub none : ((h.accounts n i 0).part ≡ Unmade) → s ≡ no_standing
  pub entered : IsMade (h.accounts n i 0) → IsMade (h.accounts n i s.epoch)
  pub made : s.epoch ≤ s.made
  -- a number of 64 bits
  pub fits : s.made < 2 ^ 64

-- ---- packets

-- the bytes of a control message: of the letter in its place, or of none
pub data Says (a : Account) (o : ControlOrigin) (tunnel : ℕ) (bytes : List ℕ) : Type 0 where
  ALetter : (l : Letter) (place : ℕ) → o.empty ≡ false → o.ns ≡ a.first_given + place → slice_get a.given place ≡ Some l
      → bytes ≡ control_bytes tunnel l.session (on_wire o.ns) (on_wire o.nr) (kept_letter l).avps → Says a o tunnel bytes
  Nothing : o.empty ≡ true → bytes ≡ control_bytes tunnel 0 (on_wire o.ns) (on_wire o.nr) [] → Says a o tunnel bytes

-- a control message is a copy of a letter, with its number, or of none; it tells no more taken than was; it goes to the node of its sender's peer, and
-- names the tunnel that the sender has learned, or none: then it is of epoch 0, tells nothing taken, and is the first letter, but where the
-- sender is lost
pub record IsCopy (a : Account) (p : Packet) (o : ControlOrigin) : Type 0 where
  pub made : IsMade a
  pub to : p.to ≡ a.peer
  pub nr : o.nr ≤ a.first_taken + length a.taken
  pub tunnel : ℕ
  pub named : ((tunnel ≡ 0) × (a.part ≡ Opener) × (IsLost a ⊎ ((o.nr ≡ 0) × (o.empty ≡ false → o.ns ≡ 0))))
      ⊎ ((tunnel ≡ 0 → ⊥) × (tunnel ≡ a.remote))
  pub says : Says a o tunnel p.bytes

-- a StopCCN of no tunnel declines the SCCRQ of a tunnel of the node that it goes to, which is that tunnel's first letter, or the SCCRQ of an attempt there,
-- of whose number nothing is known; it tells no epoch
pub record IsRefusal (h : History) (p : Packet) (o : ControlOrigin) : Type 0 where
  pub none : o.tunnel ≡ 0
  pub ns : o.ns ≡ 0
  pub nr : o.nr < 65536
  pub some : o.empty ≡ false
  pub epoch : p.epoch ≡ 0
  pub tunnel : ℕ
  pub asked : (((h.accounts p.to tunnel 0).part ≡ Opener) × ((h.accounts p.to tunnel 0).peer ≡ p.from) × ((h.accounts p.to tunnel 0).declined ≡ true)
      × (o.nr ≡ 1))
      ⊎ ((m : Restored) × (h.attempts p.to tunnel ≡ Some m) × (m.tunnel.peer ≡ address_of p.from))
  pub result : ℕ
  pub error : Option ℕ
  pub fit : CodesFit result error
  pub are : p.bytes ≡ control_bytes tunnel 0 0 o.nr (spelling (pairs_of (StopCcn 0 result error)))

-- what a recovery tunnel of a node with some id says, to the tunnel id that it names
pub data SaysRecovery (w : World) (h : History) (p : Packet) (own named : ℕ) : Message → Type 0 where
  -- an attempt asks for the recovery of its tunnel, by its own id of it
  AsksFor : (m : Restored) (o : Opening) → h.attempts p.from own ≡ Some m → m.tunnel.peer ≡ address_of p.to → o.tunnel ≡ own
      → (named : Recovery) × (o.recovery ≡ Some named) × (named.sender ≡ m.tunnel.local) → o.attempt ≡ Some m.draw
      → SaysRecovery w h p own named (Sccrq o)
  -- an answer suggests the numbers, to the attempt that it answers
  Suggests : (f : Froze) (o : Opening) → h.answers p.from own ≡ Some f → p.to ≡ node_of f.peer → o.tunnel ≡ own → o.suggested ≡ Some (record { ns = f.expect; nr = f.send_from })
      → named ≡ f.attempt → SaysRecovery w h p own named (Sccrp o)
  -- an attempt confirms the answer by which it reset its tunnel, and so entered the epoch of the answer
  Confirms : (f : Froze) (response : Option (List ℕ)) → h.answers p.to named ≡ Some f → f.attempt ≡ own → p.from ≡ node_of f.peer
      → makes w p.to named ≤ epoch_of w p.from f.remote → SaysRecovery w h p own named (Scccn response)
  -- either refuses what it heard
  Refuses : (result : ℕ) (error : Option ℕ) → CodesFit result error → SaysRecovery w h p own named (StopCcn own result error)

-- a message of an attempt or an answer, to its other end's node: it names that one, or none as long as it isn't known; and it is written by the
-- codec's rules
pub record IsRecovery (w : World) (h : History) (p : Packet) (own : ℕ) (empty : Bool) : Type 0 where
  pub named : ℕ
  pub names : (named ≡ 0) ⊎ ((is_some (h.attempts p.to named) ≡ true) ⊎ (is_some (h.answers p.to named) ≡ true))
  pub is : (is_some (h.attempts p.from own) ≡ true) ⊎ (is_some (h.answers p.from own) ≡ true)
  pub number : ℕ
  pub nr : ℕ
  pub nr_fits : nr < 65536
  pub says : ((empty ≡ true) × (p.bytes ≡ control_bytes named 0 (on_wire number) nr []))
      ⊎ ((m : Message) × SaysRecovery w h p own named m × IsWritten m × (p.bytes ≡ control_bytes named 0 (on_wire number) nr (spelling (pairs_of m))))

abbrev pub OriginOk : World → History → Packet → Origin → Type 0
OriginOk w h p (origin.Control o) = IsCopy (h.accounts p.from o.tunnel p.epoch) p o ⊎ IsRefusal h p o
OriginOk w h p (origin.Data session) = IsData p.bytes
OriginOk w h p (origin.Recovery own number empty) = IsRecovery w h p own empty

pub record PacketOk (w : World) (h : History) (p : Packet) : Type 0 where
  pub from : p.from < 256
  pub to : p.to < 256
  pub sent : OriginOk w h p p.origin

-- ---- the world

-- each node is as node_laws says: the book of one that is up is that of its end, and one that is down is an end without tunnels
abbrev pub NodesHold : World → Type 0
NodesHold w = (n : ℕ) (node : Node) → at w.nodes n ≡ Some node → HoldsNode node

pub record Holds (w : World) (h : History) : Type 0 where
  pub accounts : (n i e : ℕ) → AccountOk w h n i e (h.accounts n i e)
  pub attempts : (n a : ℕ) (m : Restored) → h.attempts n a ≡ Some m → AttemptOk h n a m
  pub answers : (n c : ℕ) (f : Froze) → h.answers n c ≡ Some f → AnswerOk w h n c f
  pub standings : (n i : ℕ) → StandingOk h n i (standing_of w n i)
  pub nodes : (n : ℕ) → NodeOk w h n (at w.nodes n)
  pub packets : AllByRecursion (PacketOk w h) w.packets
