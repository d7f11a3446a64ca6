-- A letter that comes, in a turn that changed nothing yet.
use Rattle.std.proofs.Common.{◌≡◌, inl, inr, ⊎_elim, ℕ, true, false, List, [], ◌∷◌, length, refl, sym, ap, ◌∙◌, subst, Option, Some, None, Ok, arith}
use Rattle.std.proofs.lemmas.Option.{none-some}
use Rattle.id_table.specs.Ids.{at}
use Rattle.wire_base.specs.declared.letter.Letter.{Letter}
use Rattle.avp_codec.specs.Reading.{avps_at}
use Rattle.l2tp_header.specs.declared.header.Header.{Header}
use Rattle.control_message.specs.declared.message.Message.{Message}
use Rattle.control_message.specs.Reading.{message_by}
use Rattle.tunnel_fsm.specs.declared.table.TunnelState.{TunnelState}
use Rattle.tunnel_fsm.specs.Rows.{state_number}
use Rattle.call_fsm.specs.declared.table.CallEvent.{CallEvent}
use Rattle.end_model.specs.declared.tunnel.Call.{Call}
use Rattle.end_model.specs.declared.tunnel.Control.{Control}
use Rattle.end_model.specs.declared.event.Event.{Event}
use Rattle.end_model.specs.declared.event.Addressee.TheVariants.{Opens, Stops}
use Rattle.end_model.specs.Reading.{message_read, pairs_read, message_in}
use Rattle.end_model.specs.Calls.{row_for, is_told}
use Rattle.end_model.specs.Tunnels.{Tunnel, new_tunnel, Turn, Recovering}
use Rattle.end_model.specs.Moments.{is_closed}
use Rattle.end_model.specs.Channels.{may_take}
use Rattle.end_model.specs.Events.{tunnel_after, with_calls}
use Rattle.end_model.specs.End.{End}
use Rattle.step_laws.specs.Causes.{IsTold, CameAbout}
use Rattle.step_laws.specs.Moves.{Came, IsFor, ComesTo, IsNext, HearsNext, IsPlain, InTunnel}
use Rattle.step_laws.proofs.Turns.{ComesPlain, TurnOk, PlainAt, at_turn}

-- an empty body is no message
pub empty_said : (body : List ℕ) (m : Message) → message_in body ≡ Ok m → length body ≡ 0 → ⊥
unfolding message_in pairs_read message_read avps_at message_by
empty_said [] m said none = absurd cc
empty_said (b ∷ body) m said none = absurd (omega (arith, none))

-- what is heard is taken plainly where nothing is done on it
comes : (ev : Event) (x : End) (u : Tunnel) (session : ℕ) (m : Message) → IsPlain x u session m
    → (is_closed u.control.state ≡ false → may_take u.control u.calls ≡ true) → HearsNext ev u session m → ComesPlain ev x u
comes ev x u session m plain spare h = record {
  letter = h.letter;
  next = h.next;
  why = λ n said.
      let both : Ok m ≡ Ok n = sym h.says.said ∙ said in
      let same : m ≡ n = cc in
      subst (λ s. IsPlain x u s n) (sym h.says.session_is) (subst (IsPlain x u session) same plain);
  spare = spare;
}

-- a message is for the tunnel as it goes on
for_still : (h : Header) (body : List ℕ) (c d : Control) → d.local ≡ c.local → d.remote ≡ c.remote → IsFor h body c → IsFor h body d
for_still h body c d local remote to = ⊎_elim
    (λ named. inl (named ∙ sym local))
    (λ unnamed. inr (⊎_elim
    (λ again. inl (record { none = again.none; opens = again.opens ∙ ap Opens (sym remote) }))
    (λ stop. inr (record { none = stop.none; stops = stop.stops ∙ ap Stops (sym remote) }))
    unnamed))
    to

pub to_still : (ev : Event) (k : Came) (c d : Control) → d.local ≡ c.local → d.remote ≡ c.remote → d.peer ≡ c.peer → ComesTo ev c k → ComesTo ev d k
to_still ev k c d local remote peer h = record { came = h.came; peer = h.peer ∙ sym peer; tunnel = for_still k.header k.body c d local remote h.tunnel }

-- and so is the next letter, as long as none is taken
pub next_still : (ev : Event) (k : Came) (t u : Tunnel) → u.control.local ≡ t.control.local → u.control.remote ≡ t.control.remote
    → u.control.peer ≡ t.control.peer → u.control.channel.inbox ≡ t.control.channel.inbox → IsNext ev t k → IsNext ev u k
next_still ev k t u local remote peer inbox h = record {
  comes = to_still ev k t.control u.control local remote peer h.comes;
  some = h.some;
  next = rw inbox h.next;
}

-- what is heard is in the tunnel, also as it goes on
pub heard_in : (ev : Event) (t : Tunnel) (d : Control) (session : ℕ) (m : Message) → d.local ≡ t.control.local → d.remote ≡ t.control.remote
    → d.peer ≡ t.control.peer → HearsNext ev t session m → InTunnel ev d session m
heard_in ev t d session m local remote peer h = record {
  letter = h.letter;
  comes = to_still ev h.letter t.control d local remote peer h.next.comes;
  says = h.says;
}

-- a state with another number
pub in_other : (t : Turn) (s : TunnelState) (n : ℕ) → t.control.state ≡ s → (state_number s ≡ n → ⊥) → state_number t.control.state ≡ n → ⊥
in_other t s n is other same = other (sym (ap state_number is) ∙ same)

module _ (e : End) (moment : ℕ) (ev : Event) (letters : List Letter) (calls : List (ℕ × Call)) (recovery : Option Recovering) (i : ℕ) where
  -- a turn that changed nothing yet
  pub record Fresh (t : Turn) : Type 0 where
    pub good : TurnOk e moment ev letters calls recovery i t
    pub changes : t.changes ≡ []
    pub changed : t.changed ≡ []
    -- the tunnel before the step
    pub first : Control
    pub there : at e.tunnels i ≡ Some (record (new_tunnel first) { letters = letters; calls = calls; recovery = recovery; query = t.query })
    pub local : first.local ≡ t.control.local
    pub remote : first.remote ≡ t.control.remote
    pub peer : first.peer ≡ t.control.peer
    pub state : first.state ≡ t.control.state
    pub challenge : first.challenge ≡ t.control.challenge
    pub inbox : first.channel.inbox ≡ t.control.channel.inbox
    pub sessions : t.ids.sessions ≡ e.session_ids
    -- and its id is one
    pub some : i ≡ 0 → ⊥

  -- and, of a tunnel that isn't closed, may take a letter
  pub record Taking (t : Turn) : Type 0 where
    pub fresh : Fresh t
    pub live : is_closed t.control.state ≡ false
    pub may : may_take t.control calls ≡ true

  abbrev pub Plain : Turn → ℕ → Message → Type 0
  Plain t session m = IsPlain (at_turn e moment ev letters calls recovery i t) (tunnel_after t letters calls recovery) session m

  -- the tunnel as the turn has it
  abbrev pub now : Turn → Tunnel
  now t = tunnel_after t letters calls recovery

  pub calls_first : (t : Turn) → Fresh t → with_calls t.changed calls ≡ calls
  unfolding with_calls
  calls_first t f = rw f.changed refl

  pub spare_first : (t : Turn) → Taking t → may_take t.control (with_calls t.changed calls) ≡ true
  spare_first t f = ap (may_take t.control) (calls_first t f.fresh) ∙ f.may

  pub comes_at : (t : Turn) → Taking t → (session : ℕ) (m : Message) → Plain t session m → HearsNext ev (now t) session m → PlainAt e moment ev letters calls recovery i t
  comes_at t f session m plain h = comes ev (at_turn e moment ev letters calls recovery i t) (now t) session m plain (λ live. spare_first t f) h

  pub at_first : (t : Turn) → Fresh t → (s : ℕ) (o : Option Call) → at calls s ≡ o → at (with_calls t.changed calls) s ≡ o
  at_first t f s o h = ap (λ cs. at cs s) (calls_first t f) ∙ h

  -- the call that is there, or none
  pub that_call : (P : Call → Type 0) (t : Turn) → Fresh t → (s : ℕ) (c : Call) → at calls s ≡ Some c → P c → (d : Call) → at (with_calls t.changed calls) s ≡ Some d → P d
  that_call P t f s c is p d found =
      let both : Some c ≡ Some d = sym (at_first t f s (Some c) is) ∙ found in
      let same : c ≡ d = cc in
      subst P same p

  pub no_call : (t : Turn) → Fresh t → (s : ℕ) → at calls s ≡ None → (d : Call) → at (with_calls t.changed calls) s ≡ Some d → ⊥
  no_call t f s none d found = none-some d (sym (at_first t f s None none) ∙ found)

  -- ---- the tunnel before the step

  abbrev pub begun : (t : Turn) → Fresh t → Tunnel
  begun t f = record (new_tunnel f.first) { letters = letters; calls = calls; recovery = recovery; query = t.query }

  -- the next letter was the next one then
  pub next_first : (t : Turn) (f : Fresh t) (k : Came) → IsNext ev (now t) k → IsNext ev (begun t f) k
  next_first t f k next = next_still ev k (now t) (begun t f) f.local f.remote f.peer f.inbox next

  pub hears_first : (t : Turn) (f : Fresh t) (session : ℕ) (m : Message) → HearsNext ev (now t) session m → HearsNext ev (begun t f) session m
  hears_first t f session m h = record { letter = h.letter; next = next_first t f h.letter h.next; says = h.says }

  pub came_at : (t : Turn) (f : Fresh t) → state_number t.control.state ≡ 3 → (session : ℕ) (m : Message) → HearsNext ev (now t) session m
      → CameAbout e ev (begun t f) session m
  came_at t f is_open session m hears = record {
    id = i;
    there = f.there;
    current = f.good.current;
    open_is = ap state_number f.state ∙ is_open;
    came = hears_first t f session m hears;
  }

  pub told_at : (t : Turn) (f : Fresh t) (s : ℕ) (c : Call) (on : CallEvent) → at calls s ≡ Some c → is_told (row_for e.role c on).1 ≡ true
      → IsTold e (begun t f) s on
  told_at t f s c on found row = record { id = i; there = f.there; current = f.good.current; call = c; live = found; row = row }
