-- What each move needs before it, and what it changes, of those that open tunnels; and what these changes are made of.
use Rattle.step_laws.specs.Callers.{WantsTunnel}
use Rattle.std.specs.Prelude.{◌≡◌, ℕ, ◌+◌, ◌<◌, Bool, true, ◌==◌, if◌then◌else◌, nat_le, nat_lt, List, [], ◌∷◌, ◌++◌, length, Option, None, Some, Ok}
use Rattle.id_table.specs.Ids.{at, put}
use Rattle.id_source.specs.Spaces.{takes_id, after_id}
use Rattle.control_message.specs.declared.message.Message.{Message}
use Rattle.control_message.specs.declared.message.Message.TheVariants.{Sccrq, Sccrp, Scccn}
use Rattle.control_message.specs.declared.message.Opening.{Opening}
use Rattle.control_channel.specs.Numbers.{learnt_by}
use Rattle.tunnel_fsm.specs.declared.table.TunnelState.{TunnelState}
use Rattle.tunnel_fsm.specs.declared.table.TunnelState.TheVariants.{WaitCtlReply, WaitCtlConn, Established}
use Rattle.step_laws.specs.Arrivals.{Came, IsNext, Hears}
use Rattle.step_laws.specs.Hides.{Asks, Responds, IsRight, LacksSecret}
use Rattle.end_model.specs.declared.tunnel.Call.{Call}
use Rattle.end_model.specs.declared.tunnel.Control.{Control}
use Rattle.end_model.specs.declared.event.Event.{Event}
use Rattle.end_model.specs.declared.moves.Place.{Place}
use Rattle.end_model.specs.declared.moves.Opened.{Opened}
use Rattle.end_model.specs.declared.moves.Accepted.{Accepted}
use Rattle.end_model.specs.declared.moves.Connected.{Connected}
use Rattle.end_model.specs.declared.moves.Confirmed.{Confirmed}
use Rattle.end_model.specs.Tunnels.{mode_of, is_current}
use Rattle.end_model.specs.Reading.{message_in}
use Rattle.end_model.specs.Calls.{owed_by}
use Rattle.end_model.specs.Tunnels.{Tunnel, new_tunnel}
use Rattle.end_model.specs.Channels.{place, next_place, taken_place, peer_window, letter_of, letter_as, counts_given, counts_taken}
use Rattle.end_model.specs.Openings.{in_state, fresh}
use Rattle.end_model.specs.Messages.{flags_of, opening_of}
use Rattle.end_model.specs.End.{End}

-- ---- how much there may be

-- an end has 1,024 tunnels at most, and closed ones count
abbrev pub has_all_tunnels : End → Bool
has_all_tunnels e = nat_le 1024 (length e.tunnels)

-- a tunnel has 4,096 calls at most
abbrev pub has_all_calls : List (ℕ × Call) → Bool
has_all_calls calls = nat_le 4096 (length calls)

-- a channel holds 8,192 letters at most, so there is room for one more
abbrev pub has_room : Control → Bool
has_room c = nat_lt c.channel.window.queued 8192

-- a tunnel takes the next message, and a call that rings, only where the letters that it holds, those that its calls owe and four more are
-- at most so many
abbrev pub may_take : Control → List (ℕ × Call) → Bool
may_take c calls = nat_le (c.channel.window.queued + owed_by calls + 4) 8192

-- what a move takes is the next letter, of a tunnel that may take one: its place among those that the tunnel took
pub record Taking (ev : Event) (t : Tunnel) (k : Came) (taken : Place) : Type 0 where
  pub next : IsNext ev t k
  pub taken_is : taken ≡ taken_place t.control
  pub spare : may_take t.control t.calls ≡ true

-- ---- what it changes

abbrev pub with_tunnel : End → ℕ → Tunnel → End
with_tunnel e i t = record e { tunnels = put e.tunnels i t }

-- one more letter is given to the tunnel's channel
abbrev pub with_letter : ℕ → Message → Tunnel → Tunnel
with_letter session m t = record t { control = counts_given t.control; letters = t.letters ++ letter_of session m ∷ [] }

-- one whose pairs hide a value, where they do
abbrev pub with_letter_as : ℕ → Message → Option (List ℕ) → Tunnel → Tunnel
with_letter_as session m hidden t = record t { control = counts_given t.control; letters = t.letters ++ letter_as session m hidden ∷ [] }

-- of these ids, in this state, made at a moment, with an empty channel and a window of 4 (RFC 2661 section 4.4.3), asking this
abbrev pub begun : ℕ → ℕ → ℕ → TunnelState → ℕ → Option (List ℕ) → Control
begun local peer remote state moment challenge = record (fresh peer moment) { local = local; remote = remote; state = state; challenge = challenge }

-- the peer's receive window becomes known; one of 0 letters is none
abbrev pub learns_window : ℕ → Control → Control
learns_window window c = if window == 0 then c else record c { channel = learnt_by c.channel window }

pub record Opens (e : End) (moment : ℕ) (ev : Event) (m : Opened) (x : End) : Type 0 where
  pub few : length e.tunnels < 1024
  pub drawn : takes_id e.tunnel_ids ≡ Ok m.tunnel
  pub given : m.given ≡ place 0
  pub wants : WantsTunnel e ev m.peer
  pub asks : Asks e.config.secret m.challenge
  pub after : x ≡ record (with_tunnel e m.tunnel (with_letter 0 (Sccrq (opening_of e.role e.config m.challenge None m.tunnel)) (new_tunnel (begun m.tunnel m.peer 0 WaitCtlReply moment m.challenge)))) {
    tunnel_ids = after_id e.tunnel_ids;
  }

-- no tunnel of this end is the other end of the peer's with this id yet
abbrev pub IsUnknown : End → ℕ → ℕ → Type 0
IsUnknown e peer remote = (i : ℕ) (t : Tunnel) → at e.tunnels i ≡ Some t → t.control.peer ≡ peer → t.control.remote ≡ remote → ⊥

pub record Accepts (e : End) (moment : ℕ) (ev : Event) (m : Accepted) (x : End) : Type 0 where
  pub few : length e.tunnels < 1024
  pub opening : Opening
  pub hears : (session : ℕ) × Hears ev m.peer session (Sccrq opening)
  -- it asks for no recovery
  pub unrecovered : opening.recovery ≡ None
  pub remote : m.remote ≡ opening.tunnel
  pub window : m.window ≡ opening.window
  pub alone : IsUnknown e m.peer m.remote
  pub able : LacksSecret e.config.secret opening.challenge → ⊥
  pub asks : Asks e.config.secret m.challenge
  pub responds : Responds 2 e.config.secret opening.challenge m.response
  pub drawn : takes_id e.tunnel_ids ≡ Ok m.tunnel
  pub taken : m.taken ≡ place 0
  pub given : m.given ≡ place 0
  pub after : x ≡ record (with_tunnel e m.tunnel (with_letter 0 (Sccrp (opening_of e.role e.config m.challenge m.response m.tunnel)) (new_tunnel (counts_taken (learns_window m.window (record (begun m.tunnel m.peer m.remote WaitCtlConn moment m.challenge) { flags = flags_of opening.failover })))))) {
    tunnel_ids = after_id e.tunnel_ids;
  }

pub record Connects (e : End) (ev : Event) (m : Connected) (x : End) : Type 0 where
  pub tunnel : Tunnel
  pub there : at e.tunnels m.tunnel ≡ Some tunnel
  pub current : is_current (mode_of tunnel.recovery) ≡ true
  pub state : tunnel.control.state ≡ WaitCtlReply
  pub opening : Opening
  pub letter : Came
  pub takes : Taking ev tunnel letter m.taken
  pub said : message_in letter.body ≡ Ok (Sccrp opening)
  pub peer : m.peer ≡ tunnel.control.peer
  pub remote : m.remote ≡ opening.tunnel
  pub window : m.window ≡ opening.window
  pub flags : m.flags ≡ flags_of opening.failover
  -- the peer answered rightly what it was asked, and is answered what it asks
  pub right : IsRight 2 e.config.secret tunnel.control.challenge opening.response
  pub able : LacksSecret e.config.secret opening.challenge → ⊥
  pub responds : Responds 3 e.config.secret opening.challenge m.response
  pub room : has_room tunnel.control ≡ true
  pub given : m.given ≡ next_place tunnel.control
  pub after : x ≡ with_tunnel e m.tunnel (with_letter 0 (Scccn m.response) (record tunnel {
    control = counts_taken (learns_window m.window (record tunnel.control { remote = m.remote; flags = m.flags; state = Established }));
  }))

pub record Confirms (e : End) (ev : Event) (m : Confirmed) (x : End) : Type 0 where
  pub tunnel : Tunnel
  pub there : at e.tunnels m.tunnel ≡ Some tunnel
  pub current : is_current (mode_of tunnel.recovery) ≡ true
  pub state : tunnel.control.state ≡ WaitCtlConn
  -- the peer answered rightly what it was asked
  pub response : Option (List ℕ)
  pub letter : Came
  pub takes : Taking ev tunnel letter m.taken
  pub said : message_in letter.body ≡ Ok (Scccn response)
  pub right : IsRight 3 e.config.secret tunnel.control.challenge response
  -- what it told of itself before
  pub peer : m.peer ≡ tunnel.control.peer
  pub remote : m.remote ≡ tunnel.control.remote
  pub window : m.window ≡ peer_window tunnel.control
  pub flags : m.flags ≡ tunnel.control.flags
  pub after : x ≡ with_tunnel e m.tunnel (record tunnel { control = counts_taken (in_state Established tunnel.control) })
