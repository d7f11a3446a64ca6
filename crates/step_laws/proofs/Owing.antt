-- Room for the letters that a tunnel holds and for those that its calls owe.
use Rattle.std.proofs.Common.{◌≡◌, ℕ, ◌+◌, ◌≤◌, ◌<◌, Bool, true, false, List, [], length, refl, sym, ap, ◌∙◌, Some, arith}
use Rattle.std.proofs.lemmas.Bool.{eqb-true, leb-true, leb-false, lt-ltb, ltb-true, true≢false}
use Rattle.std.proofs.lemmas.Option.{none-some}
use Rattle.std.specs.Prelude.{◌==◌}
use Rattle.id_table.specs.Ids.{at, put, without, at-none}
use Rattle.id_table.specs.Order.{Ascends, ascends-empty, ascends-put, ascends-without}
use Rattle.send_window.specs.Kept.{Window}
use Rattle.send_window.specs.Window as sending
use Rattle.tunnel_fsm.specs.declared.table.TunnelState.TheVariants as state
use Rattle.tunnel_fsm.specs.Rows.{state_number}
use Rattle.call_fsm.specs.declared.table.CallState.{CallState}
use Rattle.call_fsm.specs.declared.table.CallState.TheVariants.{Idle, WaitTunnel, WaitReply, WaitConnect, Established}
use Rattle.call_fsm.specs.declared.table.CallEvent.TheVariants as call_event
use Rattle.end_model.specs.declared.tunnel.Call.{Call}
use Rattle.end_model.specs.declared.tunnel.Control.{Control}
use Rattle.end_names.specs.declared.role.Role.{Role}
use Rattle.end_names.specs.declared.role.Role.TheVariants.{Lac, Lns}
use Rattle.end_model.specs.Owing.{owed_at, owed-put, owed-put-most, owed-without, length-put, length-put-most, length-without}
use Rattle.end_model.specs.Calls.{call_row, row_of_none, rung, asked_for, is_request, is_reply, is_connection, is_up, is_told, is_set_up, owes, owed_by, are_too_many}
use Rattle.end_model.specs.Channels.{has_room, may_take, counts_given, counts_acked, learns_window}
use Rattle.end_model.specs.Moments.{is_closed}
use Rattle.end_model.specs.Stopping.{shut}
use Rattle.step_laws.proofs.States.{never, requested_state, replied_state, rung_state, connected_state, up_state}
use Rattle.step_laws.proofs.Lists.{branch}

-- the calls ascend, 4,096 of them at most; the letters that are held and those that the calls owe are fewer than 8,192, as long as
-- the tunnel isn't closed; an open tunnel that holds none has room for one more; and a closed one has no calls
abbrev pub Fits : Control → List (ℕ × Call) → Type 0
Fits c calls =
    Ascends calls × (length calls ≤ 4096) × (is_closed c.state ≡ false → c.channel.window.queued + owed_by calls ≤ 8191)
    × (state_number c.state ≡ 3 → owed_by calls ≤ 8190) × (c.channel.window.queued ≤ 8192) × (is_closed c.state ≡ true → calls ≡ [])

-- the same of one that is neither open nor closed
abbrev pub Holds : Control → List (ℕ × Call) → Type 0
Holds c calls = Ascends calls × (length calls ≤ 4096) × (c.channel.window.queued + owed_by calls ≤ 8191)

-- ---- tunnels that aren't closed

-- as one in a state with another number isn't
pub live_in : (c : Control) (n : ℕ) → (n ≡ 4 → ⊥) → state_number c.state ≡ n → is_closed c.state ≡ false
live_in c n other is = rw is (not_four n other)
  where
    not_four : (n : ℕ) → (n ≡ 4 → ⊥) → (n == 4) ≡ false
    not_four n other = by (n == 4) refl
      where
        by : (b : Bool) → (n == 4) ≡ b → b ≡ false
        by true four = absurd (other (eqb-true n 4 four))
        by false four = refl

-- an open one
pub live_open : (c : Control) → state_number c.state ≡ 3 → is_closed c.state ≡ false
live_open c is = live_in c 3 (λ f. omega (arith, f)) is

-- nor is one that has a call
pub live_with : (c : Control) (calls : List (ℕ × Call)) (s : ℕ) (k : Call) → at calls s ≡ Some k → Fits c calls → is_closed c.state ≡ false
live_with c calls s k found h = by (is_closed c.state) refl
  where
    by : (b : Bool) → is_closed c.state ≡ b → b ≡ false
    by true closed = absurd (none-some k (sym (at-none s) ∙ (ap (λ xs. at xs s) (sym (h.5 closed)) ∙ found)))
    by false closed = refl

pub holds_live : (c : Control) (calls : List (ℕ × Call)) → is_closed c.state ≡ false → Fits c calls → Holds c calls
holds_live c calls live h = (h.0, h.1, h.2 live)

pub holds_open : (c : Control) (calls : List (ℕ × Call)) → state_number c.state ≡ 3 → Fits c calls → Holds c calls
holds_open c calls is h = holds_live c calls (live_open c is) h

-- ---- what a test of room says

-- where they fit there is room for one letter more
pub has_room_for : (c : Control) (calls : List (ℕ × Call)) → Holds c calls → has_room c ≡ true
has_room_for c calls h = let few = h.2 in lt-ltb c.channel.window.queued 8192 (omega (arith, few))

pub spare_most : (c : Control) (calls : List (ℕ × Call)) → may_take c calls ≡ true → c.channel.window.queued + owed_by calls ≤ 8188
spare_most c calls h = let least = leb-true (c.channel.window.queued + owed_by calls + 4) 8192 h in omega (arith, least)

-- so there is room for one letter more
pub spare_room : (c : Control) (calls : List (ℕ × Call)) → may_take c calls ≡ true → has_room c ≡ true
spare_room c calls h = let spare = spare_most c calls h in lt-ltb c.channel.window.queued 8192 (omega (arith, spare))

pub fewer : (calls : List (ℕ × Call)) → are_too_many calls ≡ false → length calls < 4096
fewer calls h = leb-false 4096 (length calls) h

-- ---- what calls owe by their rows

-- a call that is asked for owes one letter less
pub requested_owes : (r : Role) (s : CallState) → is_request (call_row r s call_event.TunnelOpen).1 ≡ true
    → (owes s ≡ 3) × (owes (call_row r s call_event.TunnelOpen).0 ≡ 2)
requested_owes r s h = let state = requested_state r s h in (ap owes state.0, ap owes state.1)

-- so does one that is connected
pub connected_owes : (r : Role) (s : CallState) → is_connection (call_row r s call_event.IcrpAcc).1 ≡ true
    → (owes s ≡ 2) × (owes (call_row r s call_event.IcrpAcc).0 ≡ 1)
connected_owes r s h = let state = connected_state r s h in (ap owes state.0, ap owes state.1)

-- one that is up owes its end
pub up_owes : (s : CallState) → is_up s ≡ true → owes s ≡ 1
up_owes s h = ap owes (up_state s h)

pub replied_owes : (r : Role) (remote moment : ℕ) → is_reply (row_of_none r call_event.IcrqAcc).1 ≡ true → owes (asked_for r remote moment).state ≡ 1
replied_owes r remote moment h = ap owes (replied_state r remote moment h)

pub rung_owes : (r : Role) (who : List ℕ) (moment : ℕ) → r ≡ Lac → owes (rung r who moment).state ≡ 3
rung_owes r who moment h = ap owes (rung_state r who moment h)

-- one that isn't idle owes a letter
pub some_owed : (s : CallState) → is_set_up s ≡ true → 1 ≤ owes s
some_owed Idle h = never h
some_owed WaitTunnel h = omega arith
some_owed WaitReply h = omega arith
some_owed WaitConnect h = omega arith
some_owed Established h = omega arith

-- so does one of which the peer is told, where it is closed
pub closed_owes : (r : Role) (s : CallState) → is_told (call_row r s call_event.Close).1 ≡ true → 1 ≤ owes s
unfolding call_row
closed_owes Lac Idle h = never h
closed_owes Lac WaitTunnel h = never h
closed_owes Lac WaitReply h = omega arith
closed_owes Lac WaitConnect h = never h
closed_owes Lac Established h = omega arith
closed_owes Lns Idle h = never h
closed_owes Lns WaitTunnel h = never h
closed_owes Lns WaitReply h = never h
closed_owes Lns WaitConnect h = omega arith
closed_owes Lns Established h = omega arith

pub dropped_owes : (r : Role) (s : CallState) → is_told (call_row r s call_event.LineDrop).1 ≡ true → 1 ≤ owes s
unfolding call_row
dropped_owes Lac Idle h = never h
dropped_owes Lac WaitTunnel h = never h
dropped_owes Lac WaitReply h = omega arith
dropped_owes Lac WaitConnect h = never h
dropped_owes Lac Established h = omega arith
dropped_owes Lns Idle h = never h
dropped_owes Lns WaitTunnel h = never h
dropped_owes Lns WaitReply h = never h
dropped_owes Lns WaitConnect h = never h
dropped_owes Lns Established h = never h

-- ---- what fits still fits

-- of a tunnel that isn't closed
pub fits_live : (c : Control) (calls : List (ℕ × Call)) → is_closed c.state ≡ false → Holds c calls
    → (state_number c.state ≡ 3 → owed_by calls ≤ 8190) → Fits c calls
fits_live c calls live h owed =
    (h.0, h.1, (λ l. h.2), owed, (let few = h.2 in omega (arith, few)), (λ closed. absurd (true≢false (sym closed ∙ live))))

-- once a letter is given there is no tunnel that holds none
pub fits_given : (c : Control) (calls : List (ℕ × Call)) → is_closed c.state ≡ false → Ascends calls → length calls ≤ 4096
    → c.channel.window.queued + 1 + owed_by calls ≤ 8191
    → Fits (counts_given c) calls
fits_given c calls live sorted many few = fits_live (counts_given c) calls live (sorted, many, omega (arith, few)) (λ o. omega (arith, few))

-- where it may take, there is room for four more
pub fits_spare : (c : Control) (calls : List (ℕ × Call)) → is_closed c.state ≡ false → Fits c calls → may_take c calls ≡ true
    → Fits (counts_given c) calls
fits_spare c calls live h may = let spare = spare_most c calls may in fits_given c calls live h.0 h.1 (omega (arith, spare))

-- a closed tunnel has no calls, and may have as many letters as a channel holds
fits_closed : (c : Control) → is_closed c.state ≡ true → c.channel.window.queued ≤ 8192 → Fits c []
fits_closed c closed most = (
  ascends-empty [] refl,
  omega arith,
  (λ live. absurd (true≢false (sym closed ∙ live))),
  (λ o. absurd (true≢false (sym closed ∙ live_open c o))),
  most,
  (λ also. refl),
)

-- one that closes
pub fits_shut : (c : Control) (remote moment : ℕ) (calls : List (ℕ × Call)) → Fits c calls → Fits (shut remote state.Closed moment c) []
fits_shut c remote moment calls h = fits_closed (shut remote state.Closed moment c) refl h.4

-- and gives its last letter, for which there is room
pub fits_last : (c : Control) (remote moment : ℕ) → has_room c ≡ true → Fits (counts_given (shut remote state.Closed moment c)) []
fits_last c remote moment room =
    fits_closed (counts_given (shut remote state.Closed moment c)) refl (let few = ltb-true c.channel.window.queued 8192 room in omega (arith, few))

-- letters are acknowledged
pub fits_acked : (c : Control) (nr moment : ℕ) (calls : List (ℕ × Call)) → Fits c calls → Fits (counts_acked nr moment c) calls
fits_acked c nr moment calls h =
    branch (λ (w : Window). Fits (record c { channel = record c.channel { window = w } }) calls) (sending.count_acked c.channel.window nr == 0) _ _
    (λ none. h)
    (λ some. (h.0, h.1, (λ live. let few = h.2 live in omega (arith, few)), h.3, (let most = h.4 in omega (arith, most)), h.5))

pub fits_learnt : (window : ℕ) (c : Control) (calls : List (ℕ × Call)) → Fits c calls → Fits (learns_window window c) calls
fits_learnt window c calls h = branch (λ (d : Control). Fits d calls) (window == 0) _ _ (λ none. h) (λ some. h)

-- a tunnel that opens where it may take
pub fits_open : (c d : Control) (calls : List (ℕ × Call)) → is_closed d.state ≡ false → d.channel.window.queued ≡ c.channel.window.queued
    → may_take c calls ≡ true → Fits c calls
    → Fits d calls
fits_open c d calls live same may h =
    let spare = spare_most c calls may in fits_live d calls live (h.0, h.1, omega (arith, spare, same)) (λ o. omega (arith, spare))

module _ (c : Control) (calls : List (ℕ × Call)) (s : ℕ) (d : Call) where
  -- a call that is put in place of one
  many_instead : (k : Call) → Ascends calls → at calls s ≡ Some k → length calls ≤ 4096 → length (put calls s d) ≤ 4096
  many_instead k sorted found many = let count = length-put calls s d sorted in rw (count, found) many

  -- one that is new
  many_new : are_too_many calls ≡ false → length (put calls s d) ≤ 4096
  many_new few = let least = fewer calls few in let most = length-put-most calls s d in omega (arith, least, most)

  owed_instead : (k : Call) → Ascends calls → at calls s ≡ Some k → owed_by (put calls s d) + owes k.state ≡ owed_by calls + owes d.state
  owed_instead k sorted found = ap (λ o. owed_by (put calls s d) + owed_at o) (sym found) ∙ owed-put calls s d sorted

  -- a call gives one of the letters that it owes
  pub fits_instead : (k : Call) → is_closed c.state ≡ false → at calls s ≡ Some k → owes d.state + 1 ≡ owes k.state → Holds c calls
      → Fits (counts_given c) (put calls s d)
  fits_instead k live found less h =
      let owed = owed_instead k h.0 found in
      let few = h.2 in
      fits_given c (put calls s d) live (ascends-put s d calls h.0) (many_instead k h.0 found h.1) (omega (arith, owed, less, few))

  -- a call that owes as much is put in place of one
  pub fits_same : (k : Call) → at calls s ≡ Some k → owes d.state ≡ owes k.state → Fits c calls → Fits c (put calls s d)
  fits_same k found same h =
      let owed = owed_instead k h.0 found in (
        ascends-put s d calls h.0,
        many_instead k h.0 found h.1,
        (λ live. let few = h.2 live in omega (arith, owed, same, few)),
        (λ o. let least = h.3 o in omega (arith, owed, same, least)),
        h.4,
        (λ closed. absurd (true≢false (sym closed ∙ live_with c calls s k found h))),
      )

  -- a call that owes one letter is put in place of one, where the tunnel may take
  pub fits_up : (k : Call) → at calls s ≡ Some k → owes d.state ≡ 1 → may_take c calls ≡ true → Fits c calls → Fits c (put calls s d)
  fits_up k found one may h =
      let spare = spare_most c calls may in
      let owed = owed-put-most calls s d in
      fits_live c (put calls s d) (live_with c calls s k found h)
      (ascends-put s d calls h.0, many_instead k h.0 found h.1, omega (arith, spare, owed, one))
      (λ o. omega (arith, spare, owed, one))

  -- a call is new that owes three letters, or one and its reply
  pub holds_new : owes d.state ≡ 3 → are_too_many calls ≡ false → may_take c calls ≡ true → Fits c calls → Holds c (put calls s d)
  holds_new three few may h =
      let spare = spare_most c calls may in
      let owed = owed-put-most calls s d in
      (ascends-put s d calls h.0, many_new few, omega (arith, spare, owed, three))

  pub fits_new : is_closed c.state ≡ false → owes d.state ≡ 1 → are_too_many calls ≡ false → may_take c calls ≡ true → Fits c calls
      → Fits (counts_given c) (put calls s d)
  fits_new live one few may h =
      let spare = spare_most c calls may in
      let owed = owed-put-most calls s d in
      fits_given c (put calls s d) live (ascends-put s d calls h.0) (many_new few) (omega (arith, spare, owed, one))

module _ (c : Control) (calls : List (ℕ × Call)) (s : ℕ) where
  many_left : length calls ≤ 4096 → length (without calls s) ≤ 4096
  many_left many = let count = length-without calls s in omega (arith, count, many)

  without_none : calls ≡ [] → without calls s ≡ []
  unfolding without
  without_none none = rw none refl

  -- a call ends without a letter
  pub fits_without : Fits c calls → Fits c (without calls s)
  fits_without h =
      let owed = owed-without calls s in (
        ascends-without s calls h.0,
        many_left h.1,
        (λ live. let few = h.2 live in omega (arith, owed, few)),
        (λ o. let least = h.3 o in omega (arith, owed, least)),
        h.4,
        (λ closed. without_none (h.5 closed)),
      )

  -- a call ends with a letter, which it owed, or for which there is room
  abbrev pub MayTell : Call → Type 0
  MayTell k = c.channel.window.queued + owed_by calls ≤ 8190 + owes k.state

  pub fits_told : (k : Call) → at calls s ≡ Some k → MayTell k → Fits c calls → Fits (counts_given c) (without calls s)
  fits_told k found may h =
      let owed : owed_by (without calls s) + owes k.state ≡ owed_by calls =
      ap (λ o. owed_by (without calls s) + owed_at o) (sym found) ∙ owed-without calls s in
      fits_given c (without calls s) (live_with c calls s k found h) (ascends-without s calls h.0) (many_left h.1) (omega (arith, owed, may))

  pub owes_told : (k : Call) → at calls s ≡ Some k → 1 ≤ owes k.state → Fits c calls → MayTell k
  owes_told k found some h = let few = h.2 (live_with c calls s k found h) in omega (arith, some, few)

  pub spare_told : (k : Call) → may_take c calls ≡ true → MayTell k
  spare_told k may = let spare = spare_most c calls may in omega (arith, spare)
