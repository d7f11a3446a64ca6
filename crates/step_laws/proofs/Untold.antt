-- Outputs tell the calls as gone whose looks are dead, in the same order; and what most functions of a turn do tells no other as gone.
use Rattle.std.proofs.Common.{◌≡◌, ℕ, Bool, true, false, zero, suc, List, [], ◌∷◌, ◌++◌, refl, ap, ◌∙◌, Option, Some, None, Result, Ok, Err}
use Rattle.std.proofs.lemmas.Grind.{flat_map-append}
use Rattle.std.proofs.lemmas.List.{append-nil}
use Rattle.std.specs.Prelude.{◌==◌, ◌&&◌, ◌||◌, nat_le, nat_lt, length}
use Rattle.std.specs.List.{flat_map}
use Rattle.id_table.specs.Ids.{at, ids_of}
use Rattle.id_source.specs.Spaces.{takes_id}
use Rattle.id_source.specs.declared.IdError.{IdError}
use Rattle.wire_base.specs.declared.why.Why.{Why}
use Rattle.wire_base.specs.declared.why.Why.TheVariants as why
use Rattle.wire_base.specs.declared.cause.Cause.{Cause}
use Rattle.wire_base.specs.declared.cause.Cause.TheVariants as cause
use Rattle.wire_base.specs.declared.letter.Letter.{Letter}
use Rattle.wire_base.specs.declared.pair.Pair.{Pair}
use Rattle.control_message.specs.declared.message.Message.{Message}
use Rattle.control_message.specs.declared.message.Message.TheVariants.{Sccrq, Sccrp, Scccn, StopCcn, Hello, Ocrq, Ocrp, Occn, Icrq, Icrp, Iccn, Cdn, Wen, Sli, Fsq, Fsr}
use Rattle.control_channel.specs.Numbers.{next_to_go}
use Rattle.tunnel_fsm.specs.declared.table.TunnelState.{TunnelState}
use Rattle.tunnel_fsm.specs.Rows.{state_number}
use Rattle.call_fsm.specs.declared.table.CallEvent.TheVariants as call_event
use Rattle.call_fsm.specs.declared.table.CallAction.{CallAction}
use Rattle.call_fsm.specs.declared.table.CallAction.TheVariants as call_action
use Rattle.end_model.specs.declared.tunnel.Call.{Call}
use Rattle.end_model.specs.declared.tunnel.Config.{Config}
use Rattle.session_looks.specs.declared.look.CellChange.{CellChange}
use Rattle.session_looks.specs.declared.look.CellChange.TheVariants as cell
use Rattle.end_names.specs.declared.role.Role.{Role}
use Rattle.call_link.specs.declared.turn.LinkTurn.{LinkTurn}
use Rattle.call_link.specs.Link.{new_link}
use Rattle.call_link.specs.Turns.{Opens, linked}
use Rattle.end_model.specs.declared.out.Out.{Out}
use Rattle.end_model.specs.declared.out.Out.TheVariants.{Drop, Cause as Refused}
use Rattle.end_model.specs.Calls.{row_for, advanced, rung, with_numbers, counted, is_request, is_up, is_short, is_long, are_too_many}
use Rattle.end_model.specs.Tunnels.{Turn, is_current}
use Rattle.end_model.specs.Links.{link_env, with_link, is_passing, looks_of}
use Rattle.end_model.specs.Messages.{Told, told_by}
use Rattle.end_model.specs.Turn.{with_output, with_move, with_change, with_call, with_new, drops, with_looks_of}
use Rattle.end_model.specs.Openings.{with_local, opened, opens_by, opens, accepted, accepts_by, accepts, connected, confirms}
use Rattle.end_model.specs.Sending.{gives, gives_as, sends_letter, sends_now, lets_go, goes_by, lets_all_go, acknowledges, outstanding, acknowledged_after, settles, takes_one, takes_plain, ignores, repeats, reads_nr}
use Rattle.end_model.specs.Channels.{has_room, may_take}
use Rattle.end_model.specs.Querying.{answered_query, answers_query, asks_more, asks_next, queries, queries_by}
use Rattle.session_query.specs.Queries.{next_batch}
use Rattle.end_model.specs.Ringing.{requested, requests, requests_at, requests_all, adds, rings_over, rings_by, rings_new, rings, rings_within}
use Rattle.end_model.specs.Moments.{is_over, patience}
use Rattle.end_model.specs.Reasons.{Reason}
use Rattle.end_model.specs.Hearing.{connects, first_said}
use Rattle.end_model.specs.Asking.{replied, replies}
use Rattle.end_model.specs.Refusing.{refused, refuses, of_no_call}
use Rattle.end_model.specs.Connecting.{first_up, second_up, connects_call, linked_up}
use Rattle.end_model.specs.Ticking.{greeted, greets}
use Rattle.end_model.specs.Frames.{sends_frame, counts, carried, carries}
use Rattle.end_model.specs.Linking.{sends_frames, negotiated}
use Rattle.step_laws.specs.Gone.{gone_of_output, gone_in}
use Rattle.step_laws.proofs.Lists.{branch}

-- the session whose look is dead by a change
abbrev pub killed_by : CellChange → List ℕ
killed_by (cell.Kill s) = s ∷ []
killed_by c = []

-- outputs tell these sessions as gone, and the looks of the same ones are dead by the changes
pub record Tells (g : List ℕ) (outs : List Out) (cs : List CellChange) : Type 0 where
  pub gone : gone_in outs ≡ g
  pub killed : flat_map killed_by cs ≡ g

abbrev pub TellsIn : List ℕ → Turn → Type 0
TellsIn g t = Tells g t.outputs t.changes

-- nothing more, where the last one gives nothing
none_more : {X : Type 0} (f : X → List ℕ) (xs : List X) (x : X) → f x ≡ [] → flat_map f (xs ++ x ∷ []) ≡ flat_map f xs
none_more f xs x none = flat_map-append f xs (x ∷ []) ∙ ap (λ ys. flat_map f xs ++ (ys ++ [])) none ∙ append-nil (flat_map f xs)

pub tells_none : Tells [] [] []
tells_none = record { gone = refl; killed = refl }

module _ (g : List ℕ) where
  abbrev Still : Turn → Type 0
  Still t = TellsIn g t

  pub told : {outs : List Out} {cs : List CellChange} (o : Out) → gone_of_output o ≡ [] → Tells g outs cs → Tells g (outs ++ o ∷ []) cs
  told {outs} {cs} o none h = record { gone = none_more gone_of_output outs o none ∙ h.gone; killed = h.killed }

  looked : {outs : List Out} {cs : List CellChange} (ds : List CellChange) → flat_map killed_by ds ≡ [] → Tells g outs cs → Tells g outs (cs ++ ds)
  looked {outs} {cs} ds none h = record {
    gone = h.gone;
    killed = flat_map-append killed_by cs ds ∙ ap (λ ys. flat_map killed_by cs ++ ys) none ∙ append-nil (flat_map killed_by cs) ∙ h.killed;
  }

  pub dropped : (w : Why) (t : Turn) → Still t → Still (drops w t)
  unfolding drops with_output
  dropped w t h = told (Drop w) refl h

  pub caused : (c : Cause) (t : Turn) → Still t → Still (with_output (Refused c) t)
  unfolding with_output
  caused c t h = told (Refused c) refl h

  -- ---- what is sent

  sent : (number : ℕ) (o : Option Letter) (t : Turn) → Still t → Still (sends_letter number o t)
  unfolding sends_letter with_output
  sent number None t h = h
  sent number (Some l) t h = branch Still (nat_le (length l.avps) 65523) _ _ (λ fits. told _ refl h) (λ long. h)

  gone : (letters : List Letter) (number : ℕ) (t : Turn) → Still t → Still (lets_go letters number t)
  unfolding lets_go sends_now with_move
  gone letters number t h = sent number _ _ (record { gone = h.gone; killed = h.killed })

  gone_by : (rest : Turn → Turn) → ((u : Turn) → Still u → Still (rest u)) → (letters : List Letter) (o : Option ℕ) (t : Turn) → Still t
      → Still (goes_by rest letters o t)
  unfolding goes_by
  gone_by rest on letters None t h = h
  gone_by rest on letters (Some number) t h = on _ (gone letters number t h)

  all_gone : (most : ℕ) (letters : List Letter) (t : Turn) → Still t → Still (lets_all_go most letters t)
  unfolding lets_all_go
  all_gone zero letters t h = h
  all_gone (suc most) letters t h = gone_by (lets_all_go most letters) (all_gone most letters) letters (next_to_go t.control.channel) t h

  acknowledged : (t : Turn) → Still t → Still (acknowledges t)
  unfolding acknowledges with_output with_move
  acknowledged t h = told _ refl h

  pub settled : (again : Bool) (letters : List Letter) (t : Turn) → Still t → Still (settles again letters t)
  unfolding settles acknowledged_after
  settled again letters t h =
      let u = lets_all_go t.control.channel.window.queued letters t in
      let still = all_gone t.control.channel.window.queued letters t h in
      branch Still (again || (u.took && (outstanding u == outstanding t))) _ _ (λ yes. acknowledged u still) (λ no. still)

  -- ---- new tunnels

  opened_still : (role : Role) (c : Config) (local : ℕ) (t : Turn) → Still t → Still (opened role c local t)
  unfolding opened gives with_move with_local
  opened_still role c local t h = h

  pub opens_still : (role : Role) (c : Config) (t : Turn) → Still t → Still (opens role c t)
  unfolding opens opens_by
  opens_still role c t h = by (takes_id t.ids.tunnels)
    where
      by : (x : Result ℕ IdError) → Still (opens_by role c x t)
      by (Err x) = caused cause.Ids t h
      by (Ok local) = branch Still (has_room t.control) _ _ (λ may. opened_still role c local t h) (λ full. caused cause.Queue t h)

  accepted_still : (role : Role) (c : Config) (says : Told) (local : ℕ) (t : Turn) → Still t → Still (accepted role c says local t)
  unfolding accepted gives with_move takes_one with_local
  accepted_still role c says local t h = h

  accepts_still : (role : Role) (c : Config) (says : Told) (t : Turn) → Still t → Still (accepts role c says t)
  unfolding accepts accepts_by
  accepts_still role c says t h = by (takes_id t.ids.tunnels)
    where
      by : (x : Result ℕ IdError) → Still (accepts_by role c says x t)
      by (Err x) = dropped why.Tunnel t h
      by (Ok local) =
          branch Still (has_room t.control) _ _
          (λ may. accepted_still role c says local t h)
          (λ full. dropped why.Queue t h)

  pub first_still : (role : Role) (c : Config) (r : Result Message Why) (t : Turn) → Still t → Still (first_said role c r t)
  unfolding first_said
  first_still role c (Ok (Sccrq o)) t h = accepts_still role c (told_by o) t h
  first_still role c (Ok (Sccrp o)) t h = dropped why.Tunnel t h
  first_still role c (Ok (Scccn response)) t h = dropped why.Tunnel t h
  first_still role c (Ok Hello) t h = dropped why.Tunnel t h
  first_still role c (Ok (Cdn remote code error)) t h = dropped why.Tunnel t h
  first_still role c (Ok (Icrq remote serial calling)) t h = dropped why.Tunnel t h
  first_still role c (Ok (Icrp remote)) t h = dropped why.Tunnel t h
  first_still role c (Ok (Iccn speed framing sequenced)) t h = dropped why.Tunnel t h
  first_still role c (Ok (StopCcn tunnel code error)) t h = dropped why.Tunnel t h
  first_still role c (Ok (Ocrq remote)) t h = dropped why.Tunnel t h
  first_still role c (Ok Ocrp) t h = dropped why.Tunnel t h
  first_still role c (Ok Occn) t h = dropped why.Tunnel t h
  first_still role c (Ok Wen) t h = dropped why.Tunnel t h
  first_still role c (Ok Sli) t h = dropped why.Tunnel t h
  first_still role c (Ok (Fsq sessions)) t h = dropped why.Tunnel t h
  first_still role c (Ok (Fsr sessions)) t h = dropped why.Tunnel t h
  first_still role c (Err w) t h = dropped why.Tunnel t h

  -- ---- sessions that are asked for

  by_still : (o : Option (List Pair)) (t : Turn) → Still t → Still (queries_by o t)
  unfolding queries_by queries gives with_move
  by_still None t h = h
  by_still (Some pairs) t h =
      branch Still (has_room t.control) _ _ (λ may. record { gone = h.gone; killed = h.killed }) (λ full. dropped why.Queue t h)

  pub asks_still : (t : Turn) → Still t → Still (asks_more t)
  unfolding asks_more
  asks_still t h = by_still (next_batch t.query) t h

  pub next_still : (letters : List Letter) (t : Turn) → Still t → Still (asks_next letters t)
  unfolding asks_next
  next_still letters t h = settled false letters (asks_more t) (asks_still t h)

  pub query_still : (calls : List (ℕ × Call)) (pairs : List Pair) (t : Turn) → Still t → Still (answers_query calls pairs t)
  unfolding answers_query answered_query gives with_move takes_one
  query_still calls pairs t h =
      branch Still (has_room t.control) _ _ (λ may. record { gone = h.gone; killed = h.killed }) (λ full. dropped why.Queue t h)

  -- ---- calls that are asked for

  requested_still : (role : Role) (k : Config) (s : ℕ) (c : Call) (t : Turn) → Still t → Still (requested role k s c t)
  unfolding requested gives_as with_change with_move with_call
  requested_still role k s c t h = looked (cell.Bind s t.control.local t.control.peer ∷ []) refl h

  requests_still : (role : Role) (k : Config) (s : ℕ) (c : Call) (t : Turn) → Still t → Still (requests role k s c t)
  unfolding requests
  requests_still role k s c t h =
      branch Still (is_request (row_for role c call_event.TunnelOpen).1) _ _
      (λ row. branch Still (has_room t.control) _ _ (λ may. requested_still role k s c t h) (λ full. dropped why.Queue t h))
      (λ none. h)

  requests_at_still : (role : Role) (k : Config) (s : ℕ) (o : Option Call) (t : Turn) → Still t → Still (requests_at role k s o t)
  unfolding requests_at
  requests_at_still role k s None t h = h
  requests_at_still role k s (Some c) t h = branch Still (nat_lt s 65536) _ _ (λ small. requests_still role k s c t h) (λ big. h)

  requests_all_still : (role : Role) (k : Config) (ss : List ℕ) (calls : List (ℕ × Call)) (t : Turn) → Still t → Still (requests_all role k ss calls t)
  unfolding requests_all
  requests_all_still role k [] calls t h = h
  requests_all_still role k (s ∷ ss) calls t h =
      requests_all_still role k ss calls (requests_at role k s (at calls s) t) (requests_at_still role k s (at calls s) t h)

  -- ---- letters about the tunnel

  connected_still : (c : Config) (says : Told) (next : TunnelState) (t : Turn) → Still t → Still (connected c says next t)
  unfolding connected gives with_move takes_one
  connected_still c says next t h = h

  pub connects_still : (role : Role) (c : Config) (calls : List (ℕ × Call)) (says : Told) (next : TunnelState) (t : Turn) → Still t
      → Still (connects role c calls says next t)
  unfolding connects
  connects_still role c calls says next t h =
      branch Still (has_room t.control) _ _
      (λ may. requests_all_still role c (ids_of calls) calls (connected c says next t) (connected_still c says next t h))
      (λ full. dropped why.Queue t h)

  pub confirms_still : (next : TunnelState) (t : Turn) → Still t → Still (confirms next t)
  unfolding confirms with_move takes_one
  confirms_still next t h = h

  pub plain_still : (t : Turn) → Still t → Still (takes_plain t)
  unfolding takes_plain with_move takes_one
  plain_still t h = h

  pub read_still : (nr : ℕ) (t : Turn) → Still t → Still (reads_nr nr t)
  unfolding reads_nr with_move
  read_still nr t h = h

  pub ignored : (w : Why) (t : Turn) → Still t → Still (ignores w t)
  unfolding ignores
  ignored w t h = dropped w _ (plain_still t h)

  -- ---- letters about a call

  replied_still : (role : Role) (remote s : ℕ) (t : Turn) → Still t → Still (replied role remote s t)
  unfolding replied gives with_move with_new takes_one
  replied_still role remote s t h = h

  pub replies_still : (role : Role) (remote s : ℕ) (t : Turn) → Still t → Still (replies role remote s t)
  unfolding replies
  replies_still role remote s t h = branch Still (has_room t.control) _ _ (λ may. replied_still role remote s t h) (λ full. dropped why.Queue t h)

  pub refuses_still : (r : Reason) (remote : ℕ) (t : Turn) → Still t → Still (refuses r remote t)
  unfolding refuses refused gives with_move takes_one
  refuses_still r remote t h =
      branch Still (has_room t.control) _ _
      (λ may. caused r.cause t h)
      (λ full. dropped why.Queue t h)

  pub no_call_still : (r : Reason) (remote : ℕ) (a : CallAction) (t : Turn) → Still t → Still (of_no_call r remote a t)
  unfolding of_no_call
  no_call_still r remote call_action.SendCdn t h = refuses_still r remote t h
  no_call_still r remote call_action.DropSession t h = ignored why.Session t h
  no_call_still r remote call_action.Nothing t h = plain_still t h
  no_call_still r remote call_action.SendIcrq t h = plain_still t h
  no_call_still r remote call_action.SendIcrp t h = plain_still t h
  no_call_still r remote call_action.SendIccn t h = plain_still t h
  no_call_still r remote call_action.CleanUp t h = plain_still t h

  pub first_up_still : (role : Role) (s remote : ℕ) (c : Call) (t : Turn) → Still t → Still (first_up role s remote c t)
  unfolding first_up gives with_change with_move with_call takes_one
  first_up_still role s remote c t h = looked (cell.Establish s ∷ []) refl h

  -- ---- frames and LCP

  counts_still : (s : ℕ) (c : Call) (o : Option ℕ) (t : Turn) → Still t → Still (counts s c o t)
  unfolding counts with_move with_call
  counts_still s c None t h = h
  counts_still s c (Some n) t h = h

  carried_still : (s : ℕ) (frame : List ℕ) (c : Call) (t : Turn) → Still t → Still (carried s frame c t)
  unfolding carried sends_frame with_output with_move
  carried_still s frame c t h = counts_still s c c.sequence (sends_frame s frame c t) (told _ refl h)

  pub carries_still : (s : ℕ) (frame : List ℕ) (o : Option Call) (t : Turn) → Still t → Still (carries s frame o t)
  unfolding carries
  carries_still s frame None t h = dropped why.Call t h
  carries_still s frame (Some c) t h =
      branch Still (is_up c.state && is_passing c.link) _ _
      (λ up. branch Still (is_short frame) _ _ (λ short. dropped why.Short t h)
      (λ short. branch Still (is_long frame) _ _ (λ long. dropped why.Long t h) (λ long. carried_still s frame c t h)))
      (λ down. dropped why.Closed t h)

  pub frames_still : (s : ℕ) (fs : List (List ℕ)) (c : Call) (t : Turn) → Still t → Still (sends_frames s fs c t)
  unfolding sends_frames
  frames_still s [] c t h = h
  frames_still s (f ∷ fs) c t h = frames_still s fs (counted c) (carried s f c t) (carried_still s f c t h)

  none_killed : (opens : Bool) (s : ℕ) → flat_map killed_by (looks_of opens s) ≡ []
  none_killed true s = refl
  none_killed false s = refl

  pub negotiated_still : (s : ℕ) (c : Call) (v : LinkTurn) (t : Turn) → Still t → Still (negotiated s c v t)
  unfolding negotiated with_looks_of with_move with_call
  negotiated_still s c v t h = looked (looks_of v.opens s) (none_killed v.opens s) (frames_still s v.frames c t h)

  second_up_still : (sequenced : Bool) (s : ℕ) (d : Call) (t : Turn) → Still t → Still (second_up sequenced s d t)
  unfolding second_up with_change with_move with_call takes_one
  second_up_still sequenced s d t h = looked (cell.Bind s t.control.local t.control.peer ∷ []) refl h

  pub linked_up_still : (role : Role) (sequenced : Bool) (s : ℕ) (c : Call) (t : Turn) → Still t → Still (linked_up role sequenced s c t)
  unfolding linked_up connects_call
  linked_up_still role sequenced s c t h =
      let l = new_link (link_env t.on) in
      let d = with_link l (with_numbers sequenced (advanced role call_event.IccnAcc t.on.moment c)) in
      negotiated_still s d (linked (link_env t.on) Opens l) (second_up sequenced s d t) (second_up_still sequenced s d t h)

  -- ---- rings

  adds_still : (role : Role) (who : List ℕ) (s : ℕ) (t : Turn) → Still t → Still (adds role who s t)
  unfolding adds with_move with_new
  adds_still role who s t h = h

  rings_over_still : (role : Role) (k : Config) (who : List ℕ) (s : ℕ) (t : Turn) → Still t → Still (rings_over role k who s t)
  unfolding rings_over
  rings_over_still role k who s t h =
      let added = adds_still role who s t h in
      branch Still (state_number t.control.state == 3) _ _
      (λ is. requests_still role k s (rung role who t.on.moment) (adds role who s t) added)
      (λ other. added)

  rings_by_still : (role : Role) (k : Config) (who : List ℕ) (x : Result ℕ IdError) (t : Turn) → Still t → Still (rings_by role k who x t)
  unfolding rings_by
  rings_by_still role k who (Err x) t h = caused cause.Ids t h
  rings_by_still role k who (Ok s) t h = rings_over_still role k who s t h

  rings_new_still : (role : Role) (c : Config) (who : List ℕ) (x y : Result ℕ IdError) (t : Turn) → Still t → Still (rings_new role c who x y t)
  unfolding rings_new
  rings_new_still role c who (Err x) y t h = caused cause.Ids t h
  rings_new_still role c who (Ok s) (Err y) t h = caused cause.Ids t h
  rings_new_still role c who (Ok s) (Ok local) t h =
      branch Still (has_room t.control) _ _
      (λ may. adds_still role who s (opened role c local t) (opened_still role c local t h))
      (λ full. caused cause.Queue t h)

  rings_within_still : (role : Role) (k : Config) (calls : List (ℕ × Call)) (who : List ℕ) (t : Turn) → Still t → Still (rings_within role k calls who t)
  unfolding rings_within
  rings_within_still role k calls who t h =
      branch Still (are_too_many calls) _ _
      (λ many. caused cause.Calls t h)
      (λ few. branch Still (may_take t.control calls) _ _
      (λ may. rings_by_still role k who (takes_id t.ids.sessions) t h)
      (λ full. caused cause.Queue t h))

  pub rings_still : (role : Role) (c : Config) (calls : List (ℕ × Call)) (who : List ℕ) (t : Turn) → Still t → Still (rings role c calls who t)
  unfolding rings
  rings_still role c calls who t h =
      branch Still (state_number t.control.state == 0) _ _
      (λ idle. rings_new_still role c who (takes_id t.ids.sessions) (takes_id t.ids.tunnels) t h)
      (λ busy. rings_within_still role c calls who t h)

  -- ---- time

  pub repeated_still : (letters : List Letter) (number : ℕ) (t : Turn) → Still t → Still (repeats letters number t)
  unfolding repeats sends_now with_move
  repeated_still letters number t h = sent number _ _ (record { gone = h.gone; killed = h.killed })

  greeted_still : (letters : List Letter) (t : Turn) → Still t → Still (greeted letters t)
  unfolding greeted gives with_move
  greeted_still letters t h = settled false letters _ (record { gone = h.gone; killed = h.killed })

  pub greets_still : (letters : List Letter) (t : Turn) → Still t → Still (greets letters t)
  unfolding greets
  greets_still letters t h =
      branch Still (state_number t.control.state == 3 && is_current t.on.mode && t.control.channel.window.queued == 0 && is_over patience t.on.moment t.control.heard) _ _
      (λ due. greeted_still letters t h)
      (λ no. h)
