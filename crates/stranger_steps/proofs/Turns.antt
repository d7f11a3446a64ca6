-- The turn of a tunnel that is new, on a datagram: it is accepted, or the datagram is dropped.
use Rattle.std.proofs.Common.{◌≡◌, ◌⊎◌, inl, inr, ℕ, Bool, true, false, cond, zero, suc, ◌+◌, ◌≤◌, List, [], ◌∷◌, ◌++◌, length, refl, sym, ap, ◌∙◌, subst, arith, Option, Some, None, Result, Ok, Err}
use Rattle.std.proofs.lemmas.Bool.{eqb-true, true≢false}
use Rattle.std.proofs.lemmas.Option.{none-some}
use Rattle.std.specs.Prelude.{◌==◌, ◌||◌, ◌&&◌, nat_le}
use Rattle.std.specs.List.{AllByRecursion}
use Rattle.id_source.specs.declared.IdError.{IdError}
use Rattle.id_source.specs.Spaces.{takes_id, after_id}
use Rattle.wire_base.specs.declared.why.Why.{Why}
use Rattle.wire_base.specs.declared.why.Why.TheVariants as why
use Rattle.wire_base.specs.declared.letter.Letter.{Letter}
use Rattle.l2tp_header.specs.declared.header.Header.{Header}
use Rattle.l2tp_header.specs.declared.header.HeaderError.{HeaderError}
use Rattle.l2tp_header.specs.Reading.{body_of}
use Rattle.control_message.specs.declared.message.Message.{Message}
use Rattle.control_message.specs.declared.message.Message.TheVariants.{Sccrq, Sccrp, Scccn, StopCcn, Hello, Ocrq, Ocrp, Occn, Icrq, Icrp, Iccn, Cdn, Wen, Sli, Fsq, Fsr}
use Rattle.send_window.specs.Kept.{Window}
use Rattle.send_window.specs.Window as sending
use Rattle.control_channel.specs.Numbers.{Numbers, next_to_go, next_unsent}
use Rattle.tunnel_fsm.specs.declared.table.TunnelState.{TunnelState}
use Rattle.tunnel_fsm.specs.declared.table.TunnelState.TheVariants.{Idle, WaitCtlConn}
use Rattle.tunnel_fsm.specs.declared.table.TunnelEvent.TheVariants as event
use Rattle.end_model.specs.Secrets.{challenge_by}
use Rattle.session_looks.specs.Frames.{header_why}
use Rattle.end_names.specs.declared.role.Role.{Role}
use Rattle.end_model.specs.declared.tunnel.Config.{Config}
use Rattle.end_model.specs.declared.tunnel.Control.{Control}
use Rattle.end_model.specs.declared.moves.Move.{Move}
use Rattle.end_model.specs.declared.moves.Move.TheVariants as move
use Rattle.end_model.specs.declared.out.Out.{Out}
use Rattle.end_model.specs.declared.out.Out.TheVariants.{Send, Up, Gone, Drop, Cause}
use Rattle.end_model.specs.Channels.{place, sends, has_room, learns_window, counts_sent}
use Rattle.end_model.specs.Messages.{Told, told_by}
use Rattle.end_model.specs.Reading.{message_in}
use Rattle.end_model.specs.Tunnels.{Drawing, Env, Turn, turn_of, no_query}
use Rattle.end_model.specs.Turn.{with_output, with_move, drops}
use Rattle.end_model.specs.Openings.{fresh, asking, next_of, with_local, accepted, accepts_by, accepts}
use Rattle.end_model.specs.Sending.{gives, takes_one, letter_in, sends_letter, sends_now, lets_go, goes_by, lets_all_go, acknowledges, outstanding, acknowledged_after, settles}
use Rattle.end_model.specs.Hearing.{first_said, hears_control, hears_datagram}
use Rattle.stranger_steps.specs.Strangers.{IsOnlyTo, sends_in, IsOfOpening}

pub branch : {T : Type 0} (P : T → Type 0) (a : Bool) (x y : T) → (a ≡ true → P x) → (a ≡ false → P y) → P (cond a x y)
branch P true x y p q = p refl
branch P false x y p q = q refl

branch2 : {T U : Type 0} (P : T → U → Type 0) (a : Bool) (x y : T) (z w : U) → (a ≡ true → P x z) → (a ≡ false → P y w)
    → P (cond a x y) (cond a z w)
branch2 P true x y z w p q = p refl
branch2 P false x y z w p q = q refl

pub and_left : (a b : Bool) → (a && b) ≡ true → a ≡ true
and_left true b h = refl
and_left false b h = absurd (true≢false (sym h))

pub and_right : (a b : Bool) → (a && b) ≡ true → b ≡ true
and_right true b h = h
and_right false b h = absurd (true≢false (sym h))

all_push : {X : Type 0} (P : X → Type 0) (xs : List X) (x : X) → AllByRecursion P xs → P x → AllByRecursion P (xs ++ x ∷ [])
all_push P [] x h p = (p, tt)
all_push P (y ∷ xs) x h p = (h.0, all_push P xs x h.1 p)

-- a turn of a tunnel with this id, to this peer and in this state, that has no calls, from which ids are drawn on so, and that gave nothing
-- but what a stranger's datagram may give
pub record IsBare (peer i : ℕ) (s : TunnelState) (ids : Drawing) (t : Turn) : Type 0 where
  pub ids_are : t.ids ≡ ids
  pub local : t.control.local ≡ i
  pub peer_is : t.control.peer ≡ peer
  pub state_is : t.control.state ≡ s
  pub query : t.query ≡ no_query
  pub cleared : t.cleared ≡ false
  pub changed : t.changed ≡ []
  pub added : t.added ≡ []
  pub changes : t.changes ≡ []
  pub outputs : AllByRecursion (IsOnlyTo peer) t.outputs
  pub moves : AllByRecursion IsOfOpening t.moves

module _ (peer i : ℕ) (s : TunnelState) (ids : Drawing) where
  abbrev Bare : Turn → Type 0
  Bare t = IsBare peer i s ids t

  output_bare : (o : Out) (t : Turn) → IsOnlyTo peer o → Bare t → Bare (with_output o t)
  unfolding with_output
  output_bare o t only h = record {
    ids_are = h.ids_are;
    local = h.local;
    peer_is = h.peer_is;
    state_is = h.state_is;
    query = h.query;
    cleared = h.cleared;
    changed = h.changed;
    added = h.added;
    changes = h.changes;
    outputs = all_push (IsOnlyTo peer) t.outputs o h.outputs only;
    moves = h.moves;
  }

  move_bare : (m : Move) (t : Turn) → IsOfOpening m → Bare t → Bare (with_move m t)
  unfolding with_move
  move_bare m t of h = record {
    ids_are = h.ids_are;
    local = h.local;
    peer_is = h.peer_is;
    state_is = h.state_is;
    query = h.query;
    cleared = h.cleared;
    changed = h.changed;
    added = h.added;
    changes = h.changes;
    outputs = h.outputs;
    moves = all_push IsOfOpening t.moves m h.moves of;
  }

  pub dropped_bare : (w : Why) (t : Turn) → Bare t → Bare (drops w t)
  unfolding drops
  dropped_bare w t h = output_bare (Drop w) t tt h

  -- ---- what goes out

  sent_bare : (number : ℕ) (o : Option Letter) (t : Turn) → Bare t → Bare (sends_letter number o t)
  unfolding sends_letter
  sent_bare number None t h = h
  sent_bare number (Some l) t h =
      branch Bare (nat_le (length l.avps) 65523) _ _
      (λ fits. output_bare (sends t.control l.session number false l.avps) t h.peer_is h)
      (λ long. h)

  counted_bare : (t : Turn) → Bare t → Bare (record t { control = counts_sent t.on.moment t.control })
  counted_bare t h = record {
    ids_are = h.ids_are;
    local = h.local;
    peer_is = h.peer_is;
    state_is = h.state_is;
    query = h.query;
    cleared = h.cleared;
    changed = h.changed;
    added = h.added;
    changes = h.changes;
    outputs = h.outputs;
    moves = h.moves;
  }

  gone_bare : (letters : List Letter) (number : ℕ) (t : Turn) → Bare t → Bare (lets_go letters number t)
  unfolding lets_go sends_now
  gone_bare letters number t h =
      let u = record t { control = counts_sent t.on.moment t.control } in
      let goes = move.LetGo (record { tunnel = t.control.local; sent = place number }) in
      let v = with_move goes u in
      sent_bare number (letter_in letters v number) v (move_bare goes u tt (counted_bare t h))

  all_gone_bare : (most : ℕ) (letters : List Letter) (t : Turn) → Bare t → Bare (lets_all_go most letters t)
  unfolding lets_all_go goes_by
  all_gone_bare zero letters t h = h
  all_gone_bare (suc most) letters t h = by (next_to_go t.control.channel) (all_gone_bare most letters)
    where
      by : (o : Option ℕ) → ((u : Turn) → Bare u → Bare (lets_all_go most letters u))
          → Bare (goes_by (lets_all_go most letters) letters o t)
      by None rest = h
      by (Some number) rest = rest (lets_go letters number t) (gone_bare letters number t h)

  acknowledged_bare : (again : Bool) (before : ℕ) (t : Turn) → Bare t → Bare (acknowledged_after again before t)
  unfolding acknowledged_after acknowledges
  acknowledged_bare again before t h =
      branch Bare (again || (t.took && (outstanding t == before))) _ _
      (λ yes. output_bare _ (with_move (move.Quiet t.control.local) t) h.peer_is (move_bare (move.Quiet t.control.local) t tt h))
      (λ enough. h)

  settled_bare : (again : Bool) (letters : List Letter) (t : Turn) → Bare t → Bare (settles again letters t)
  unfolding settles
  settled_bare again letters t h =
      let u = lets_all_go t.control.channel.window.queued letters t in
      acknowledged_bare again (outstanding t) u (all_gone_bare t.control.channel.window.queued letters t h)

-- ---- how many packets go out

one_more_sent : (os : List Out) (o : Out) → sends_in (os ++ o ∷ []) ≤ sends_in os + 1
unfolding sends_in
one_more_sent [] (Send to bytes origin) = omega arith
one_more_sent [] (Up session side frame) = omega arith
one_more_sent [] (Gone session) = omega arith
one_more_sent [] (Drop w) = omega arith
one_more_sent [] (Cause c) = omega arith
one_more_sent (Send to bytes origin ∷ os) o = let h = one_more_sent os o in omega (arith, h)
one_more_sent (Up session side frame ∷ os) o = one_more_sent os o
one_more_sent (Gone session ∷ os) o = one_more_sent os o
one_more_sent (Drop w ∷ os) o = one_more_sent os o
one_more_sent (Cause c ∷ os) o = one_more_sent os o

-- a letter that goes out is one packet, or none where it is too long, and the channel is as it was counted
record IsOneOf (t u : Turn) : Type 0 where
  control : u.control ≡ t.control
  sent : sends_in u.outputs ≤ sends_in t.outputs + 1

letter_once : (number : ℕ) (o : Option Letter) (t : Turn) → IsOneOf t (sends_letter number o t)
unfolding sends_letter with_output
letter_once number None t = record { control = refl; sent = omega arith }
letter_once number (Some l) t =
    branch (IsOneOf t) (nat_le (length l.avps) 65523) _ _
    (λ fits. record { control = refl; sent = one_more_sent t.outputs (sends t.control l.session number false l.avps) })
    (λ long. record { control = refl; sent = omega arith })

-- one that may go counts as outstanding
goes_outstanding : (moment : ℕ) (c : Control) (number : ℕ) → next_to_go c.channel ≡ Some number
    → (counts_sent moment c).channel.window.outstanding ≡ c.channel.window.outstanding + 1
goes_outstanding moment c number =
    branch2 (λ (o : Option ℕ) (n : Numbers). o ≡ Some number → n.window.outstanding ≡ c.channel.window.outstanding + 1)
    c.channel.frozen _ _ _ _
    (λ frozen none. absurd (none-some number none))
    (λ free. branch2 (λ (o : Option ℕ) (w : Window). o ≡ Some number → w.outstanding ≡ c.channel.window.outstanding + 1)
    (sending.may_go c.channel.window) _ _ _ _
    (λ may goes. refl)
    (λ stays none. absurd (none-some number none)))

module _ (letters : List Letter) (t : Turn) (one : t.control.channel.window.queued ≡ 1) (silent : sends_in t.outputs ≡ 0) where
  gone_once : (number : ℕ) → next_to_go t.control.channel ≡ Some number
      → sends_in (acknowledged_after false (outstanding t) (lets_go letters number t)).outputs ≤ 1
  unfolding acknowledged_after lets_go sends_now with_move
  gone_once number goes =
      let goes_out = move.LetGo (record { tunnel = t.control.local; sent = place number }) in
      let u = with_move goes_out (record t { control = counts_sent t.on.moment t.control }) in
      let v = sends_letter number (letter_in letters u number) u in
      let h = letter_once number (letter_in letters u number) u in
      let more = goes_outstanding t.on.moment t.control number goes in
      let counted : outstanding v ≡ outstanding t + 1 = ap (λ (x : Control). x.channel.window.outstanding) h.control ∙ more in
      branch (λ (x : Turn). sends_in x.outputs ≤ 1) (v.took && (outstanding v == outstanding t)) _ _
      (λ again. let same = eqb-true (outstanding v) (outstanding t) (and_right v.took _ again) in absurd (omega (arith, same, counted)))
      (λ enough. let sent = h.sent in omega (arith, sent, silent))

  kept_once : sends_in (acknowledged_after false (outstanding t) t).outputs ≤ 1
  unfolding acknowledged_after acknowledges with_output with_move
  kept_once =
      branch (λ (x : Turn). sends_in x.outputs ≤ 1) (t.took && (outstanding t == outstanding t)) _ _
      (λ yes. let h = one_more_sent t.outputs (sends t.control 0 (next_unsent t.control.channel) true []) in omega (arith, h, silent))
      (λ no_way. omega (arith, silent))

  settled_once : sends_in (settles false letters t).outputs ≤ 1
  unfolding settles lets_all_go goes_by
  settled_once =
      subst (λ n. sends_in (acknowledged_after false (outstanding t) (lets_all_go n letters t)).outputs ≤ 1) (sym one)
      (by (next_to_go t.control.channel) refl)
    where
      by : (o : Option ℕ) → next_to_go t.control.channel ≡ o
          → sends_in (acknowledged_after false (outstanding t) (goes_by (lets_all_go 0 letters) letters o t)).outputs ≤ 1
      by None is = kept_once
      by (Some number) is = gone_once number is

-- ---- a tunnel that is accepted

-- what the peer tells of its window changes the channel alone
learnt_peer : (window : ℕ) (c : Control) → (learns_window window c).peer ≡ c.peer
learnt_peer window c = branch (λ (x : Control). x.peer ≡ c.peer) (window == 0) _ _ (λ none. refl) (λ some. refl)

learnt_state : (window : ℕ) (c : Control) → (learns_window window c).state ≡ c.state
learnt_state window c = branch (λ (x : Control). x.state ≡ c.state) (window == 0) _ _ (λ none. refl) (λ some. refl)

-- the ids with one tunnel id drawn
abbrev pub one_drawn : Drawing → Drawing
one_drawn ids = record ids { tunnels = after_id ids.tunnels }

module _ (role : Role) (c : Config) (peer moment : ℕ) (env : Env) where
  abbrev begins : Turn
  begins = turn_of (fresh peer moment) env

  begins_bare : IsBare peer 0 Idle env.ids begins
  begins_bare = record {
    ids_are = refl;
    local = refl;
    peer_is = refl;
    state_is = refl;
    query = refl;
    cleared = refl;
    changed = refl;
    added = refl;
    changes = refl;
    outputs = tt;
    moves = tt;
  }

  -- what it knows of its peer before it learns the window
  abbrev told_of : Told → Control
  told_of told =
      asking (challenge_by c.secret env.on.block)
      (record (fresh peer moment) { remote = told.remote; flags = told.flags; state = next_of Idle event.SccrqAcc })

  accepted_bare : (told : Told) (i : ℕ) → IsBare peer i WaitCtlConn (one_drawn env.ids) (accepted role c told i begins)
  unfolding accepted gives with_move takes_one with_local
  accepted_bare told i = record {
    ids_are = refl;
    local = refl;
    peer_is = learnt_peer told.window (told_of told);
    state_is = learnt_state told.window (told_of told);
    query = refl;
    cleared = refl;
    changed = refl;
    added = refl;
    changes = refl;
    outputs = tt;
    moves = (tt, tt);
  }

  -- what an SCCRQ, or something else, makes of it
  abbrev Said : Turn → Type 0
  Said t =
      ((w : Why) × (t ≡ drops w begins))
      ⊎ ((told : Told) × (i : ℕ) × (takes_id env.ids.tunnels ≡ Ok i) × (t ≡ accepted role c told i begins))

  accepts_said : (told : Told) → Said (accepts role c told begins)
  unfolding accepts accepts_by
  accepts_said told = by (takes_id env.ids.tunnels) refl
    where
      by : (x : Result ℕ IdError) → takes_id env.ids.tunnels ≡ x → Said (accepts_by role c told x begins)
      by (Err x) is = inl (why.Tunnel, refl)
      by (Ok i) is = branch Said (has_room begins.control) _ _ (λ may. inr (told, i, is, refl)) (λ full. inl (why.Queue, refl))

  first_is : (r : Result Message Why) → Said (first_said role c r begins)
  unfolding first_said
  first_is (Ok (Sccrq o)) = accepts_said (told_by o)
  first_is (Ok (Sccrp o)) = inl (why.Tunnel, refl)
  first_is (Ok (Scccn response)) = inl (why.Tunnel, refl)
  first_is (Ok (StopCcn tunnel code error)) = inl (why.Tunnel, refl)
  first_is (Ok Hello) = inl (why.Tunnel, refl)
  first_is (Ok (Ocrq remote)) = inl (why.Tunnel, refl)
  first_is (Ok Ocrp) = inl (why.Tunnel, refl)
  first_is (Ok Occn) = inl (why.Tunnel, refl)
  first_is (Ok (Icrq remote serial calling)) = inl (why.Tunnel, refl)
  first_is (Ok (Icrp remote)) = inl (why.Tunnel, refl)
  first_is (Ok (Iccn speed framing sequenced)) = inl (why.Tunnel, refl)
  first_is (Ok (Cdn remote code error)) = inl (why.Tunnel, refl)
  first_is (Ok Wen) = inl (why.Tunnel, refl)
  first_is (Ok Sli) = inl (why.Tunnel, refl)
  first_is (Ok (Fsq sessions)) = inl (why.Tunnel, refl)
  first_is (Ok (Fsr answers)) = inl (why.Tunnel, refl)
  first_is (Err w) = inl (why.Tunnel, refl)

  -- a turn that comes of a datagram of a peer to which no tunnel goes: nothing began, or a tunnel under the id that was drawn; and it sends
  -- one packet at most
  abbrev pub Comes : Turn → Type 0
  Comes t =
      (IsBare peer 0 Idle env.ids t
      ⊎ ((i : ℕ) × (takes_id env.ids.tunnels ≡ Ok i) × IsBare peer i WaitCtlConn (one_drawn env.ids) t))
      × (sends_in t.outputs ≤ 1)

  drops_comes : (w : Why) → Comes (drops w begins)
  unfolding drops with_output sends_in
  drops_comes w = (inl (dropped_bare peer 0 Idle env.ids w begins begins_bare), omega arith)

  settled_drops : (w : Why) → Comes (settles false [] (drops w begins))
  unfolding drops with_output sends_in settles lets_all_go acknowledged_after
  settled_drops w =
      let h = dropped_bare peer 0 Idle env.ids w begins begins_bare in
      (inl (settled_bare peer 0 Idle env.ids false [] (drops w begins) h), omega arith)

  accepted_queued : (told : Told) (i : ℕ) → (accepted role c told i begins).control.channel.window.queued ≡ 1
  unfolding accepted gives with_move takes_one with_local
  accepted_queued told i =
      branch (λ (x : Control). x.channel.window.queued + 1 ≡ 1) (told.window == 0) _ _ (λ none. refl) (λ some. refl)

  accepted_silent : (told : Told) (i : ℕ) → sends_in (accepted role c told i begins).outputs ≡ 0
  unfolding accepted gives with_move takes_one with_local sends_in
  accepted_silent told i = refl

  settled_accepted : (told : Told) (i : ℕ) → takes_id env.ids.tunnels ≡ Ok i → Comes (settles false [] (accepted role c told i begins))
  settled_accepted told i is =
      let t = accepted role c told i begins in (
        inr (i, is, settled_bare peer i WaitCtlConn (one_drawn env.ids) false [] t (accepted_bare told i)),
        settled_once [] t (accepted_queued told i) (accepted_silent told i),
      )

  settled_comes : (t : Turn) → Said t → Comes (settles false [] t)
  settled_comes t (inl h) = subst (λ u. Comes (settles false [] u)) (sym h.1) (settled_drops h.0)
  settled_comes t (inr h) = subst (λ u. Comes (settles false [] u)) (sym h.3) (settled_accepted h.0 h.1 h.2)

  pub heard_comes : (bytes : List ℕ) (r : Result Header HeaderError) → Comes (hears_datagram role c [] [] bytes r begins)
  unfolding hears_datagram hears_control
  heard_comes bytes (Err x) = drops_comes (header_why x)
  heard_comes bytes (Ok h) =
      branch Comes h.control _ _
      (λ control. settled_comes (first_said role c (message_in (body_of bytes h)) begins) (first_is (message_in (body_of bytes h))))
      (λ data_is. drops_comes why.Session)
