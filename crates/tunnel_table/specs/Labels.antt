-- The labels by which tunnels are found: their peer with the id that it assigned, their peer with their state, and the ids of their
-- recovery tunnels.
use Rattle.std.specs.Prelude.{◌≡◌, ℕ, ◌+◌, ◌*◌, ◌<◌, if◌then◌else◌, List, Option, Some, None, IfSome, option_map}
use Rattle.id_table.specs.Ids.{at}
use Rattle.id_table.specs.Order.{Ascends}
use Rattle.id_index.specs.Indexes.{Listing, Lists, IsRelabelled, IsWithin}
use Rattle.tunnel_fsm.specs.declared.table.TunnelState.{TunnelState}
use Rattle.tunnel_fsm.specs.Rows.{state_number}
use Rattle.end_model.specs.declared.tunnel.Control.{Control}
use Rattle.end_model.specs.declared.tunnel.Mode.{Mode}
use Rattle.end_model.specs.Tunnels.{Tunnel, Recovering, ByAttempt, ByAnswer, connection_of, mode_of, is_current}
use Rattle.tunnel_core.specs.Cores.{Plan}
use Rattle.tunnel_table.specs.declared.labels.Labels.{Labels}

-- an id that a peer assigned has 16 bits
abbrev pub remote_label : ℕ → ℕ → ℕ
remote_label peer remote = peer * 65536 + remote

-- a tunnel that is frozen or restored is found by neither of its states, but by that: the numbers of states have three bits
abbrev pub recovering_number : ℕ
recovering_number = 5

abbrev pub number_by : Mode → TunnelState → ℕ
number_by m s = if is_current m then state_number s else recovering_number

abbrev pub state_label : ℕ → ℕ → ℕ
state_label peer number = peer * 8 + number

-- the answer to an attempt of the peer
abbrev pub answer_label : ℕ → Recovering → Option ℕ
answer_label peer (ByAttempt c) = None
answer_label peer (ByAnswer a) = Some (remote_label peer a.connection.remote)

abbrev pub answer_by : ℕ → Option Recovering → Option ℕ
answer_by peer None = None
answer_by peer (Some r) = answer_label peer r

abbrev pub line_by : Option Recovering → Option ℕ
line_by r = option_map (λ (x : Recovering). (connection_of x).local) r

abbrev pub labels_by : Control → Option Recovering → Labels
labels_by c r = record {
  remote = remote_label c.peer c.remote;
  state = state_label c.peer (number_by (mode_of r) c.state);
  line = line_by r;
  answer = answer_by c.peer r;
}

abbrev pub labels_of : Tunnel → Labels
labels_of t = labels_by t.control t.recovery

-- those of the tunnel with an id
abbrev pub labels_in : List (ℕ × Tunnel) → ℕ → Option Labels
labels_in ts i = option_map labels_of (at ts i)

-- one of them
abbrev pub label_in : (Labels → Option ℕ) → Option Labels → Option ℕ
label_in label None = None
label_in label (Some l) = label l

abbrev pub listed : (Labels → Option ℕ) → List (ℕ × Tunnel) → ℕ → Option ℕ
listed label ts i = label_in label (labels_in ts i)

abbrev pub remote_in : Labels → Option ℕ
remote_in l = Some l.remote

abbrev pub state_in : Labels → Option ℕ
state_in l = Some l.state

abbrev pub line_in : Labels → Option ℕ
line_in l = l.line

abbrev pub answer_in : Labels → Option ℕ
answer_in l = l.answer

-- each id that a peer assigned has 16 bits
abbrev pub IsSmallBy : Control → Option Recovering → Type 0
IsSmallBy c r = (c.remote < 65536) × IfSome r (λ x. (connection_of x).remote < 65536)

abbrev pub IsSmall : Tunnel → Type 0
IsSmall t = IsSmallBy t.control t.recovery

-- a plan that changes none of what the labels of a tunnel are made of
pub record StaysLabelled (p : Plan) (t : Tunnel) : Type 0 where
  pub peer : t.control.peer ≡ p.control.peer
  pub remote : t.control.remote ≡ p.control.remote
  pub state : state_number t.control.state ≡ state_number p.control.state
  pub recovery : p.recovery ≡ None

unfoldable pub AreSmall : List (ℕ × Tunnel) → Type 0
AreSmall ts = (i : ℕ) (t : Tunnel) → at ts i ≡ Some t → IsSmall t

-- what the indexes list
pub record Listings : Type 0 where
  pub remotes : Listing
  pub states : Listing
  pub lines : Listing
  pub answers : Listing

-- the ids of the tunnels ascend, and the indexes list each tunnel
pub record AreKept (x : Listings) (ts : List (ℕ × Tunnel)) : Type 0 where
  pub ascend : Ascends ts
  pub within : IsWithin ts
  pub small : AreSmall ts
  pub remotes : Lists x.remotes (listed remote_in ts)
  pub states : Lists x.states (listed state_in ts)
  pub lines : Lists x.lines (listed line_in ts)
  pub answers : Lists x.answers (listed answer_in ts)

-- each index has the labels of the tunnel with an id in place of those before
pub record AreRelabelled (x y : Listings) (id : ℕ) (before after : Option Labels) : Type 0 where
  pub remotes : IsRelabelled x.remotes y.remotes id (label_in remote_in before) (label_in remote_in after)
  pub states : IsRelabelled x.states y.states id (label_in state_in before) (label_in state_in after)
  pub lines : IsRelabelled x.lines y.lines id (label_in line_in before) (label_in line_in after)
  pub answers : IsRelabelled x.answers y.answers id (label_in answer_in before) (label_in answer_in after)
