-- A step keeps the kind of its end and what the end was told. So a node that a stop cuts off falls as it would have fallen before the step.
use Rattle.std.proofs.Common.{◌≡◌, ℕ, Bool, true, false, List, [], ◌∷◌, Option, Some, None, Result, Ok, Err, refl, ◌∙◌}
use Rattle.std.specs.Prelude.{if◌then◌else◌}
use Rattle.wire_base.specs.declared.letter.Side.TheVariants as side
use Rattle.l2tp_header.specs.declared.header.Header.{Header}
use Rattle.l2tp_header.specs.declared.header.HeaderError.{HeaderError}
use Rattle.session_looks.specs.Frames.{Carried, Upward, Dropped}
use Rattle.end_names.specs.declared.role.Role.{Role}
use Rattle.end_names.specs.declared.role.Role.TheVariants.{Lac, Lns}
use Rattle.end_model.specs.declared.tunnel.CallPlace.{CallPlace}
use Rattle.end_model.specs.declared.tunnel.Config.{Config}
use Rattle.end_model.specs.declared.event.Event.{Event}
use Rattle.end_model.specs.declared.event.Event.TheVariants.{Datagram, Ring, Frame, Admitted, Payload, Lower, Lcp, Hang, OpenTunnel, DropCall, CloseTunnel, Tick}
use Rattle.end_model.specs.declared.out.Out.{Out}
use Rattle.end_model.specs.Tunnels.{Tunnel, Env}
use Rattle.end_model.specs.declared.event.Addressee.{Addressee}
use Rattle.end_model.specs.declared.event.Addressee.TheVariants.{Opens, Stops, Answers, Main, Recovery, Recovers, Nobody}
use Rattle.end_model.specs.Reasons.{Reason, no_recovery, no_secret, no_id, other_version}
use Rattle.end_model.specs.Reading.{message_in}
use Rattle.end_model.specs.Access.{Access, Coming, Ignores, Answers as Told, Runs, Enters, coming, admits, does, serves}
use Rattle.end_model.specs.End.{End, Stepped, env_of, gives_only, after_turn, after_both, after_new, in_new, in_one_more, in_main, in_recovery, Turned, end_after_all, after_all, ticks_all, declined, opens_or_declines, freezes, recovers_tunnel, recovers_by, recovers, next_of_peer, for_addressee, rings_in, rings_at, for_call, then_heard, handed, hands_up, receives, only_by, step_in, plain_step, step}
use Rattle.schedule_replay.specs.Kinds.{Site}
use Rattle.session_book.specs.declared.record.BookTunnel.{BookTunnel}
use Rattle.session_book.specs.declared.record.BookCall.{BookCall}
use Rattle.session_book.specs.Books.{Kept}
use Rattle.id_source.specs.declared.IdError.{IdError}
use Rattle.control_message.specs.declared.message.Recovery.{Recovery as Named}
use Rattle.control_message.specs.declared.message.Opening.{Opening}
use Rattle.control_message.specs.declared.message.Message.{Message}
use Rattle.control_message.specs.declared.message.Message.TheVariants.{Sccrq}
use Rattle.wire_base.specs.declared.why.Why.{Why}
use Rattle.wire_base.specs.declared.why.Why.TheVariants as why
use Rattle.end_model.specs.declared.out.Out.TheVariants.{Drop}
use Rattle.id_table.specs.Ids.{at}
use Rattle.id_source.specs.Spaces.{takes_id}
use Rattle.end_model.specs.Starting.{can_recover, forgets, restored_by, restored, behind_all, restored_all, starts}
use Rattle.schedule_replay.specs.Serving.{step_with, site_step, site_start}

-- which kind of end it is, and what it was told
abbrev pub who : End → Role × Config
who e = (e.role, e.config)

all_keep : (ts : List Turned) (e : End) → who (end_after_all ts e) ≡ who e
unfolding end_after_all after_turn
all_keep [] e = refl
all_keep (t ∷ ts) e = all_keep ts (after_both e t.id t.tunnel t.turn).end

module _ (e : End) (env : Env) where
  abbrev Keeps : Stepped → Type 0
  Keeps s = who s.end ≡ who e

  either : (b : Bool) (x y : Stepped) → Keeps x → Keeps y → Keeps (if b then x else y)
  either true x y one other = one
  either false x y one other = other

  only : (o : Out) → Keeps (gives_only e o)
  unfolding gives_only
  only o = refl

  main : (ev : Event) (i : ℕ) (o : Option Tunnel) → Keeps (in_main e env ev i o)
  unfolding in_main gives_only after_turn
  main ev i None = refl
  main ev i (Some t) = refl

  new : (ev : Event) (peer : ℕ) → Keeps (in_new e env ev peer)
  unfolding in_new after_new after_turn
  new ev peer = either _ _ _ refl refl

  one_more : (ev : Event) (peer : ℕ) (refusal : Out) → Keeps (in_one_more e env ev peer refusal)
  unfolding in_one_more
  one_more ev peer refusal = either _ _ _ (only refusal) (new ev peer)

  opened : (ev : Event) (peer remote nr : ℕ) (o : Option Reason) → Keeps (opens_or_declines e env ev peer remote nr o)
  unfolding opens_or_declines declined
  opened ev peer remote nr None = new ev peer
  opened ev peer remote nr (Some r) = refl

  in_line : (h : Header) (body : List ℕ) (i : ℕ) (o : Option Tunnel) → Keeps (in_recovery e env h body i o)
  unfolding in_recovery gives_only after_turn
  in_line h body i None = refl
  in_line h body i (Some t) = refl

  declines : (peer remote nr : ℕ) (r : Reason) → Keeps (declined e peer remote nr r)
  unfolding declined
  declines peer remote nr r = refl

  frozen : (peer nr : ℕ) (o : Opening) (i : ℕ) (t : Tunnel) (local draw : Result ℕ IdError) → Keeps (freezes e env peer nr o i t local draw)
  unfolding freezes after_turn
  frozen peer nr o i t (Ok local) (Ok draw) = refl
  frozen peer nr o i t (Ok local) (Err x) = declines peer o.tunnel nr no_id
  frozen peer nr o i t (Err x) draw = declines peer o.tunnel nr no_id

  recovered : (peer nr : ℕ) (o : Opening) (i : ℕ) (t : Option Tunnel) (sender : ℕ) → Keeps (recovers_tunnel e env peer nr o i t sender)
  unfolding recovers_tunnel
  recovered peer nr o i None sender = declines peer o.tunnel nr no_recovery
  recovered peer nr o i (Some t) sender =
      let free = either _ _ _ (declines peer o.tunnel nr no_secret)
      (frozen peer nr o i t (takes_id env.ids.tunnels) (takes_id env.ids.recoveries)) in
      either _ _ _ (declines peer o.tunnel nr no_recovery) (either _ _ _ (only (Drop why.Tie)) (either _ _ _ (only (Drop why.Mark)) free))

  recovered_by : (peer nr : ℕ) (o : Opening) (named : Option Named) → Keeps (recovers_by e env peer nr o named)
  unfolding recovers_by
  recovered_by peer nr o None = declines peer o.tunnel nr no_recovery
  recovered_by peer nr o (Some named) =
      either _ _ _ (declines peer o.tunnel nr other_version)
      (recovered peer nr o named.receiver (at e.tunnels named.receiver) named.sender)

  by_asking : (peer nr : ℕ) (r : Result Message Why) → Keeps (recovers e env peer nr r)
  unfolding recovers
  by_asking peer nr (Ok (Sccrq o)) = recovered_by peer nr o o.recovery
  by_asking peer nr r = only (Drop why.Tunnel)

  addressee : (ev : Event) (peer : ℕ) (h : Header) (body : List ℕ) (to : Addressee) → Keeps (for_addressee e env ev peer h body to)
  unfolding for_addressee declined
  addressee ev peer h body (Opens remote) = opened ev peer remote _ _
  addressee ev peer h body (Stops remote) = only _
  addressee ev peer h body (Answers remote) = refl
  addressee ev peer h body (Main i) = main ev i _
  addressee ev peer h body (Recovery i) = in_line h body i _
  addressee ev peer h body (Recovers remote) = by_asking peer (next_of_peer h) (message_in body)
  addressee ev peer h body (Nobody w) = only _

  carried : (session : ℕ) (c : Carried) → Keeps (handed e env session c)
  unfolding handed then_heard
  carried session (Upward tunnel peer side.Sub frame) = refl
  carried session (Upward tunnel peer side.Net frame) = refl
  carried session (Upward tunnel peer side.Lcp frame) = main (Lcp session frame) tunnel _
  carried session (Dropped w) = only _

  received : (peer : ℕ) (bytes : List ℕ) (r : Result Header HeaderError) → Keeps (receives e env peer bytes r)
  unfolding receives hands_up
  received peer bytes (Err x) = only _
  received peer bytes (Ok h) = either h.control _ _ (addressee (Datagram peer bytes) peer h _ _) (carried h.session _)

  rung : (ev : Event) (a b : Option ℕ) → Keeps (rings_in e env ev a b)
  unfolding rings_in
  rung ev (Some i) b = main ev i _
  rung ev None (Some i) = main ev i _
  rung ev None None = either _ _ _ (only _) (one_more ev _ _)

  call : (ev : Event) (o : Option CallPlace) → Keeps (for_call e env ev o)
  unfolding for_call
  call ev None = only _
  call ev (Some p) = main ev p.tunnel _

  by_role : (r : Role) (s : Stepped) → Keeps s → Keeps (only_by r e s)
  unfolding only_by
  by_role Lac s h = either _ s _ h (only _)
  by_role Lns s h = either _ _ s (only _) h

  stepped : (ev : Event) → Keeps (step_in e env ev)
  unfolding step_in rings_at ticks_all after_all
  stepped (Datagram peer bytes) = received peer bytes _
  stepped (Ring port) = by_role Lac _ (rung (Ring port) _ _)
  stepped (Admitted mac) = by_role Lac _ (rung (Admitted mac) _ _)
  stepped (Frame bytes) = only _
  stepped (Payload session frame) = by_role Lac _ (call (Payload session frame) _)
  stepped (Lower session frame) = by_role Lns _ (call (Lower session frame) _)
  stepped (Lcp session packet) = by_role Lns _ (call (Lcp session packet) _)
  stepped (Hang session) = by_role Lac _ (call (Hang session) _)
  stepped OpenTunnel = by_role Lac _ (one_more OpenTunnel _ _)
  stepped (CloseTunnel i) = main (CloseTunnel i) i _
  stepped (DropCall session) = call (DropCall session) _
  stepped Tick = all_keep _ e

pub step_keeps : (e : End) (moment : ℕ) (block : List ℕ) (ev : Event) → who (step e moment block ev).end ≡ who e
unfolding plain_step
step_keeps e moment block ev = stepped e (env_of e moment block) _

module _ (e : End) (a : Access) (moment : ℕ) (block : List ℕ) where
  done : (c : Coming) → who (does (record { end = e; access = a }) moment block c).lac.end ≡ who e
  unfolding does admits
  done (Ignores word) = refl
  done (Told because frame) = refl
  done (Runs ev) = step_keeps e moment block ev
  done (Enters src uniq asked) = step_keeps e moment block (Admitted src)

  served : (ev : Event) → who (serves (record { end = e; access = a }) moment block ev).lac.end ≡ who e
  unfolding serves
  served (Frame bytes) = done (coming a e bytes)
  served (Admitted mac) = refl
  served ev = step_keeps e moment block ev

-- so it is of a node's step
pub site_keeps : (s : Site) (moment : ℕ) (block : List ℕ) (ev : Event) → who (site_step s moment block ev).site.end ≡ who s.end
unfolding site_step
site_keeps s moment block ev = by s.access
  where
    by : (o : Option Access) → who (step_with s o moment block ev).site.end ≡ who s.end
    by None = step_keeps s.end moment block ev
    by (Some a) = served s.end a moment block ev

-- and of its start
tunnel_keeps : (e : End) (env : Env) (calls : List BookCall) (b : BookTunnel) (local draw : Result ℕ IdError)
    → who (restored_by e env calls b local draw).end ≡ who e
unfolding restored_by after_turn forgets
tunnel_keeps e env calls b (Ok local) (Ok draw) = refl
tunnel_keeps e env calls b (Ok local) (Err x) = refl
tunnel_keeps e env calls b (Err x) draw = refl

tunnel_comes : (k : Kept) (e : End) (env : Env) (b : BookTunnel) → who (restored k e env b).end ≡ who e
unfolding restored forgets
tunnel_comes k e env b = either e env (can_recover b) _ _ (tunnel_keeps e env _ b _ _) refl

tunnels_come : (k : Kept) (moment : ℕ) (block : List ℕ) (bs : List BookTunnel) (s : Stepped)
    → who (restored_all k moment block bs s).end ≡ who s.end
unfolding restored_all
tunnels_come k moment block [] s = refl
tunnels_come k moment block (b ∷ bs) s =
    tunnels_come k moment block bs (behind_all s (restored k s.end (env_of s.end moment block) b))
    ∙ tunnel_comes k s.end (env_of s.end moment block) b

pub start_keeps : (r : Role) (c : Config) (moment : ℕ) (block : List ℕ) (k : Kept) → who (site_start r c moment block k).site.end ≡ (r, c)
unfolding site_start starts
start_keeps r c moment block k = tunnels_come k moment block k.tunnels _
