-- The labels by which the indexes find tunnels: their peer with the id that it assigned, their peer with their state, and the ids of
-- their recovery tunnels.
use Rattle.std.specs.Prelude.{◌≡◌, ℕ, ◌+◌, ◌*◌, ◌<◌, true, false, if◌then◌else◌, Option, Some, None, IfSome, option_map}
use Rattle.id_index.specs.Indexes.{Listing, Lists, IsRelabelled}
use Rattle.tunnel_fsm.specs.declared.table.TunnelState.{TunnelState}
use Rattle.tunnel_fsm.specs.Rows.{state_number}
use Rattle.end_model.specs.declared.tunnel.Mode.{Mode}
use Rattle.end_model.specs.Tunnels.{is_current}
use Rattle.tunnel_listing.specs.declared.listed.Listed.{Listed}
use Rattle.tunnel_listing.specs.declared.listed.Wanted.{Wanted}
use Rattle.tunnel_listing.specs.Listed.{is_wanted_at}

-- an id that a peer assigned has 16 bits
abbrev pub remote_label : ℕ → ℕ → ℕ
remote_label peer remote = peer * 65536 + remote

-- a tunnel that is frozen or restored is found by neither of its states, but by that: the numbers of states have three bits
abbrev pub recovering_number : ℕ
recovering_number = 5

abbrev pub number_by : Mode → TunnelState → ℕ
number_by m s = if is_current m then state_number s else recovering_number

abbrev pub state_label : ℕ → ℕ → ℕ
state_label peer number = peer * 8 + number

abbrev pub remote_in : Listed → Option ℕ
remote_in l = Some (remote_label l.peer l.remote)

abbrev pub state_in : Listed → Option ℕ
state_in l = Some (state_label l.peer (number_by l.mode l.state))

abbrev pub line_in : Listed → Option ℕ
line_in l = l.line

abbrev pub answer_in : Listed → Option ℕ
answer_in l = option_map (λ remote. remote_label l.peer remote) l.answered

-- one of them, of a tunnel that may be listed
abbrev pub label_at : (Listed → Option ℕ) → Option Listed → Option ℕ
label_at label None = None
label_at label (Some l) = label l

-- each id that a peer assigned has 16 bits
abbrev pub IsSmall : Listed → Type 0
IsSmall l = (l.remote < 65536) × IfSome l.answered (λ remote. remote < 65536)

unfoldable pub AreSmall : (ℕ → Option Listed) → Type 0
AreSmall f = (i : ℕ) → IfSome (f i) IsSmall

-- what the indexes list
pub record Listings : Type 0 where
  pub remotes : Listing
  pub states : Listing
  pub lines : Listing
  pub answers : Listing

-- the indexes list each tunnel by its labels
pub record AreIndexed (x : Listings) (f : ℕ → Option Listed) : Type 0 where
  pub small : AreSmall f
  pub remotes : Lists x.remotes (λ i. label_at remote_in (f i))
  pub states : Lists x.states (λ i. label_at state_in (f i))
  pub lines : Lists x.lines (λ i. label_at line_in (f i))
  pub answers : Lists x.answers (λ i. label_at answer_in (f i))

-- each index has the labels of the tunnel with an id in place of those before
pub record AreRelabelled (x y : Listings) (id : ℕ) (before after : Option Listed) : Type 0 where
  pub remotes : IsRelabelled x.remotes y.remotes id (label_at remote_in before) (label_at remote_in after)
  pub states : IsRelabelled x.states y.states id (label_at state_in before) (label_at state_in after)
  pub lines : IsRelabelled x.lines y.lines id (label_at line_in before) (label_at line_in after)
  pub answers : IsRelabelled x.answers y.answers id (label_at answer_in before) (label_at answer_in after)

-- the least tunnel that is looked for; ids of tables have 32 bits
unfoldable pub IsFirstWanted : Wanted → (ℕ → Option Listed) → Option ℕ → Type 0
IsFirstWanted w f None = (i : ℕ) → i < 4294967296 → is_wanted_at w (f i) ≡ false
IsFirstWanted w f (Some i) =
    (i < 4294967296) × (is_wanted_at w (f i) ≡ true) × ((j : ℕ) → j < i → is_wanted_at w (f j) ≡ false)
