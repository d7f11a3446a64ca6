-- The letters that moves give, and what a step's outputs are of its moves.
use Rattle.std.specs.Prelude.{◌≡◌, ℕ, ◌^◌, ◌<◌, ◌⊎◌, true, false, List, [], ◌∷◌, slice_get, Option, None, Some, is_some}
use Rattle.l2tp_header.specs.Spelling.{control_bytes, data_bytes}
use Rattle.l2tp_header.specs.Grammar.{FitsWord}
use Rattle.wire_base.specs.declared.letter.Letter as wire
use Rattle.control_message.specs.declared.message.Message.{Message}
use Rattle.control_message.specs.declared.message.Message.TheVariants.{Sccrq, Sccrp, Scccn, StopCcn, Hello, Icrp, Cdn, Fsq, Fsr}
use Rattle.recv_window.specs.Window.{on_wire}
use Rattle.control_channel.specs.Numbers.{place_of}
use Rattle.end_model.specs.declared.tunnel.Config.{Config}
use Rattle.end_names.specs.declared.role.Role.{Role}
use Rattle.end_model.specs.declared.out.Out.{Out}
use Rattle.end_model.specs.declared.out.Out.TheVariants.{Send}
use Rattle.end_model.specs.declared.out.Origin.{Origin}
use Rattle.end_model.specs.declared.out.Origin.TheVariants as origin
use Rattle.end_model.specs.declared.moves.FrameSent.{FrameSent}
use Rattle.end_model.specs.declared.moves.Place.{Place}
use Rattle.end_model.specs.declared.moves.Move.{Move}
use Rattle.end_model.specs.declared.moves.Move.TheVariants as move
use Rattle.end_model.specs.Tunnels.{Tunnel, Recovering, ByAttempt, ByAnswer, connection_of, mode_of, is_current}
use Rattle.end_model.specs.Messages.{opening_of, request_of, connection}
use Rattle.control_message.specs.declared.message.Recovery.{Recovery}
use Rattle.control_message.specs.declared.message.Suggested.{Suggested}
use Rattle.control_message.specs.Pairs.{pairs_of}
use Rattle.avp_codec.specs.Spelling.{spelling}
use Rattle.wire_base.specs.declared.cause.Cause.{Cause}
use Rattle.recovery_tunnel.specs.Connections.{ControlConnection, letter_of, stop_of}
use Rattle.recovery_tunnel.specs.Attempts.{request_of as attempt_request}
use Rattle.recovery_tunnel.specs.Answers.{reply_of}
use Rattle.step_laws.specs.Hides.{Asks, Responds}

-- one of them is this one
abbrev pub Among : {X : Type 0} → X → List X → Type 0
Among x [] = ⊥
Among x (y ∷ ys) = (y ≡ x) ⊎ Among x ys

-- a letter that a tunnel was given: its place in the tunnel's list, the session id of its header, what it says, and, where it hides a
-- value, its pairs as they are spelled
pub record Letter : Type 0 where
  pub tunnel : ℕ
  pub place : Place
  pub session : ℕ
  pub message : Message
  pub hidden : Option (List ℕ)

abbrev pub letter : ℕ → Place → ℕ → Message → List Letter
letter tunnel place session m = record { tunnel = tunnel; place = place; session = session; message = m; hidden = None } ∷ []

-- the letters that a move gives
abbrev pub letters_of : Role → Config → Move → List Letter
letters_of role c (move.Opened m) = letter m.tunnel m.given 0 (Sccrq (opening_of role c m.challenge None m.tunnel))
letters_of role c (move.Accepted m) = letter m.tunnel m.given 0 (Sccrp (opening_of role c m.challenge m.response m.tunnel))
letters_of role c (move.Connected m) = letter m.tunnel m.given 0 (Scccn m.response)
letters_of role c (move.Requested m) =
    record { tunnel = m.tunnel; place = m.given; session = 0; message = request_of m.session m.subscriber; hidden = m.hidden } ∷ []
letters_of role c (move.Replied m) = letter m.tunnel m.given m.remote (Icrp m.session)
letters_of role c (move.FirstUp m) = letter m.tunnel m.given m.remote connection
letters_of role c (move.Refused m) = letter m.tunnel m.given m.remote (Cdn 0 m.result m.error)
letters_of role c (move.EndTold m) = letter m.tunnel m.given m.remote (Cdn m.session m.result m.error)
letters_of role c (move.Closed m) = letter m.tunnel m.given 0 (StopCcn m.tunnel m.result m.error)
letters_of role c (move.Rejected m) = letter m.tunnel m.given 0 (StopCcn m.tunnel m.result m.error)
letters_of role c (move.Greeted m) = letter m.tunnel m.given 0 Hello
letters_of role c (move.Queried m) = letter m.tunnel m.given 0 (Fsq m.pairs)
letters_of role c (move.AnsweredQuery m) = letter m.tunnel m.given 0 (Fsr m.answers)
letters_of role c m = []

-- the letter with a number, among those that a tunnel keeps
abbrev pub letter_at : Tunnel → ℕ → Option wire.Letter
letter_at t number = slice_get t.letters (place_of t.control.channel number)

-- ---- what recovery tunnels say

-- an SCCRQ that asks for the recovery of the tunnel with this id of this end's, and tells the recovery tunnel's id and draw number; all else is
-- as the end opens any tunnel
pub record AsksRecovery (role : Role) (config : Config) (i local draw : ℕ) (m : Message) : Type 0 where
  pub named : Recovery
  pub sender : named.sender ≡ i
  pub challenge : Option (List ℕ)
  pub asks : Asks config.secret challenge
  pub is : m ≡ Sccrq (attempt_request local named draw (opening_of role config challenge None local))

-- an SCCCN, of an attempt that reset its tunnel
pub record ConfirmsRecovery (config : Config) (reset : Option ℕ) (m : Message) : Type 0 where
  pub was_reset : is_some reset ≡ true
  pub asked : Option (List ℕ)
  pub response : Option (List ℕ)
  pub responds : Responds 3 config.secret asked response
  pub is : m ≡ Scccn response

-- an SCCRP, with the numbers that it suggests; all else is as the end accepts any tunnel
pub record AnswersRecovery (role : Role) (config : Config) (local draw : ℕ) (suggested : Suggested) (m : Message) : Type 0 where
  pub challenge : Option (List ℕ)
  pub asks : Asks config.secret challenge
  pub asked : Option (List ℕ)
  pub response : Option (List ℕ)
  pub responds : Responds 2 config.secret asked response
  pub is : m ≡ Sccrp (reply_of local suggested draw (opening_of role config challenge response local))

-- a StopCCN that says why it refuses what came
abbrev pub StopsRecovery : ControlConnection → Message → Type 0
StopsRecovery c m = (why : Cause) × (m ≡ stop_of c.local why)

-- what a letter of a recovery tunnel says, of the tunnel with this id of an end with this role and these settings
abbrev pub IsOfRecovery : Role → Config → ℕ → Recovering → Message → Type 0
IsOfRecovery role config i (ByAttempt c) m = AsksRecovery role config i c.local c.draw m ⊎ (ConfirmsRecovery config c.reset m ⊎ StopsRecovery c m)
IsOfRecovery role config i (ByAnswer a) m =
    AnswersRecovery role config a.connection.local a.connection.draw a.suggested m ⊎ StopsRecovery a.connection m

-- each letter that it holds is one of those, and has the session id 0
abbrev pub IsRecoveryLetter : Role → Config → ℕ → Recovering → wire.Letter → Type 0
IsRecoveryLetter role config i r l = (m : Message) × IsOfRecovery role config i r m × (l ≡ letter_of m)

-- the bytes that are sent in a tunnel, by the ids that both ends assigned: where it is neither frozen nor restored the letter with a number,
-- of those that the tunnel keeps, or an acknowledgement alone; or a frame that a move of the step sends. Nr counts what the tunnel has taken. In its recovery
-- tunnel what goes is a letter of that, or an acknowledgement alone, to the id that the other end assigned; of its numbers no more is said than
-- that Nr has 16 bits
pub data Carries (role : Role) (config : Config) (t : Tunnel) (moves : List Move) (bytes : List ℕ) (o : Origin) : Type 0 where
  ALetter : is_current (mode_of t.recovery) ≡ true → (l : wire.Letter) (number : ℕ) → number < 2 ^ 64 → letter_at t number ≡ Some l
      → o ≡ origin.Control (record { tunnel = t.control.local; ns = number; nr = t.control.channel.inbox.taken; empty = false })
      → bytes ≡ control_bytes t.control.remote l.session (on_wire number) (on_wire t.control.channel.inbox.taken) l.avps
      → Carries role config t moves bytes o
  Nothing : is_current (mode_of t.recovery) ≡ true → (number : ℕ)
      → o ≡ origin.Control (record { tunnel = t.control.local; ns = number; nr = t.control.channel.inbox.taken; empty = true })
      → bytes ≡ control_bytes t.control.remote 0 (on_wire number) (on_wire t.control.channel.inbox.taken) [] → Carries role config t moves bytes o
  AFrame : (f : FrameSent) → Among (move.FrameSent f) moves → f.tunnel ≡ t.control.local → f.peer ≡ t.control.peer → FitsWord f.number
      → o ≡ origin.Data f.session → bytes ≡ data_bytes t.control.remote f.remote f.number f.frame → Carries role config t moves bytes o
  InRecovery : (r : Recovering) → t.recovery ≡ Some r → (m : Message) → IsOfRecovery role config t.control.local r m → (number nr : ℕ) → nr < 65536
      → o ≡ origin.Recovery (connection_of r).local number false
      → bytes ≡ control_bytes (connection_of r).remote 0 (on_wire number) nr (spelling (pairs_of m)) → Carries role config t moves bytes o
  NothingInRecovery : (r : Recovering) → t.recovery ≡ Some r → (number nr : ℕ) → nr < 65536 → o ≡ origin.Recovery (connection_of r).local number true
      → bytes ≡ control_bytes (connection_of r).remote 0 (on_wire number) nr [] → Carries role config t moves bytes o

-- a frame that a move sends is in an output
abbrev pub HasOutput : List Out → Move → Type 0
HasOutput outs (move.FrameSent f) =
    (tunnel : ℕ) × FitsWord f.number × Among (Send f.peer (data_bytes tunnel f.remote f.number f.frame) (origin.Data f.session)) outs
HasOutput outs m = Unit {0}
