-- A letter about a call is answered as the call's table says.
use Rattle.std.proofs.Common.{◌≡◌, inl, inr, ℕ, Bool, true, false, cond, List, refl, sym, ap, ◌∙◌, subst, Option, Some, None, Result, Ok, Err, is_some}
use Rattle.std.proofs.lemmas.Bool.{eqb-true, eqb-false, ltb-true}
use Rattle.std.specs.Prelude.{◌==◌, ◌||◌, nat_lt, not}
use Rattle.id_table.specs.Ids.{at}
use Rattle.id_source.specs.Spaces.{Space, takes_id}
use Rattle.id_source.specs.declared.IdError.{IdError}
use Rattle.wire_base.specs.declared.why.Why.TheVariants as why
use Rattle.wire_base.specs.declared.cause.Cause.TheVariants as cause
use Rattle.wire_base.specs.declared.letter.Letter.{Letter}
use Rattle.control_message.specs.declared.message.Message.{Message}
use Rattle.control_message.specs.declared.message.Message.TheVariants.{Sccrq, Sccrp, Scccn, StopCcn, Hello, Ocrq, Ocrp, Occn, Icrq, Icrp, Iccn, Cdn, Wen, Sli, Fsq, Fsr}
use Rattle.tunnel_fsm.specs.Rows.{state_number}
use Rattle.call_fsm.specs.declared.table.CallEvent.{CallEvent}
use Rattle.call_fsm.specs.declared.table.CallEvent.TheVariants as call_event
use Rattle.call_fsm.specs.declared.table.CallAction.{CallAction}
use Rattle.call_fsm.specs.declared.table.CallAction.TheVariants as call_action
use Rattle.end_model.specs.declared.tunnel.Call.{Call}
use Rattle.end_names.specs.declared.role.Role.{Role}
use Rattle.end_names.specs.declared.role.Role.TheVariants.{Lac, Lns}
use Rattle.end_model.specs.declared.event.Event.{Event}
use Rattle.end_model.specs.declared.moves.Refused.{Refused}
use Rattle.end_model.specs.Reading.{message_in, call_fault_in}
use Rattle.end_model.specs.Calls.{call_row, row_for, row_of_none, is_reply, is_connection, is_up, is_told, are_too_many, is_clean_up}
use Rattle.end_model.specs.Tunnels.{Tunnel, Turn, Recovering}
use Rattle.end_model.specs.Reasons.{Reason, reason, out_of_state}
use Rattle.end_model.specs.Events.{tunnel_after, with_calls}
use Rattle.end_model.specs.Turn.{with_move}
use Rattle.end_model.specs.Sending.{takes_one, takes_plain}
use Rattle.end_model.specs.Channels.{has_room}
use Rattle.end_model.specs.Refusing.{refuses, of_no_call, answers_by}
use Rattle.end_model.specs.Asking.{call_of, left_of, granted, replies, asked_by, session_named}
use Rattle.end_model.specs.Connecting.{first_up_by, second_up_by, end_heard_by, ends_named}
use Rattle.end_model.specs.Hearing.{about_call, in_call}
use Rattle.end_model.specs.End.{End}
use Rattle.step_laws.specs.Causes.{CameAbout, AskedAgain, RepliedInVain, ConnectedInVain, Stands}
use Rattle.step_laws.specs.Moves.{DeniesCall, Came, IsNext, HearsNext, IsPlain, IsAsked, IsReplied, IsConnected, WhyRefused, IsNotGranted, IsOutgoing, IsReplyToNone}
use Rattle.step_laws.proofs.Granting.{denies_is}
use Rattle.step_laws.proofs.Lists.{branch}
use Rattle.step_laws.proofs.Owing.{spare_told}
use Rattle.step_laws.proofs.Tells.{granted_stands}
use Rattle.step_laws.proofs.Turns.{TurnOk, PlainAt, at_turn, is_roomy, IsGranted, replied_ok, first_up_ok, second_up_ok, end_heard_ok, plain_ok, ignores_ok, refused_ok}
use Rattle.step_laws.proofs.Settling.{Settled, unsent}
use Rattle.step_laws.proofs.Comes.{Taking, heard_in, comes_at, now, begun, came_at, told_at, calls_first, spare_first, at_first, that_call, no_call}
use Rattle.step_laws.proofs.Linking.{linked_up_ok}
use Rattle.step_laws.proofs.Closing.{Ends, ends_leave}

-- a message about a call
abbrev pub OfCall : Message → Type 0
OfCall (Icrq remote serial calling) = Unit {0}
OfCall (Icrp remote) = Unit {0}
OfCall (Iccn speed framing sequenced) = Unit {0}
OfCall (Cdn remote code error) = Unit {0}
OfCall (Ocrq remote) = Unit {0}
OfCall m = ⊥

-- only an open tunnel carries calls
not_open : (x : End) (u : Tunnel) (session : ℕ) (m : Message) → OfCall m → (state_number u.control.state ≡ 3 → ⊥) → IsPlain x u session m
not_open x u session (Icrq remote serial calling) about closed = λ is. absurd (closed is)
not_open x u session (Icrp remote) about closed = λ is. absurd (closed is)
not_open x u session (Iccn speed framing sequenced) about closed = λ is. absurd (closed is)
not_open x u session (Cdn remote code error) about closed = λ is. absurd (closed is)
not_open x u session (Ocrq remote) about closed = λ is. absurd (closed is)
not_open x u session (StopCcn tunnel code error) about closed = absurd about
not_open x u session Hello about closed = absurd about
not_open x u session (Sccrq o) about closed = absurd about
not_open x u session (Sccrp o) about closed = absurd about
not_open x u session (Scccn response) about closed = absurd about
not_open x u session Ocrp about closed = absurd about
not_open x u session Occn about closed = absurd about
not_open x u session Wen about closed = absurd about
not_open x u session Sli about closed = absurd about
not_open x u session (Fsq sessions) about closed = absurd about
not_open x u session (Fsr sessions) about closed = absurd about

-- ---- rows of a call that there isn't

-- the end that is asked for calls tells of a reply
told_of_reply : (r : Role) → (row_of_none r call_event.IcrpAcc).1 ≡ call_action.SendCdn → r ≡ Lns
unfolding call_row
told_of_reply Lac h = absurd cc
told_of_reply Lns h = refl

-- none tells of a connection, or of an end
untold_of_connection : (r : Role) → (row_of_none r call_event.IccnAcc).1 ≡ call_action.SendCdn → ⊥
unfolding call_row
untold_of_connection Lac h = absurd cc
untold_of_connection Lns h = absurd cc

pub untold_of_end : (r : Role) → (row_of_none r call_event.CdnCame).1 ≡ call_action.SendCdn → ⊥
unfolding call_row
untold_of_end Lac h = absurd cc
untold_of_end Lns h = absurd cc

-- ---- what is granted

granted_is : (r : Role) (cs : List (ℕ × Call)) (remote : ℕ) (sessions : Space) (s : ℕ) → granted r cs remote sessions ≡ Ok s → IsGranted r cs sessions s
unfolding granted
granted_is r cs remote sessions s h =
    by (is_reply (row_of_none r call_event.IcrqAcc).1) (remote == 0 || is_some (call_of cs remote)) (are_too_many cs) (takes_id sessions) refl refl refl h
  where
    by : (a b c : Bool) (d : Result ℕ IdError) → is_reply (row_of_none r call_event.IcrqAcc).1 ≡ a → are_too_many cs ≡ c → takes_id sessions ≡ d
        → cond (not a) (Err out_of_state) (cond b (Err (reason cause.Session 2 (Some 5))) (cond c (Err (reason cause.Calls 4 None)) (left_of d))) ≡ Ok s
        → IsGranted r cs sessions s
    by false b c d row many drawn e = absurd cc
    by true true c d row many drawn e = absurd cc
    by true false true d row many drawn e = absurd cc
    by true false false (Err x) row many drawn e = absurd cc
    by true false false (Ok n) row many drawn e =
        let same : n ≡ s = cc in
        record { row = row; few = many; drawn = subst (λ (k : ℕ). takes_id sessions ≡ Ok k) same drawn }

module _ (e : End) (moment : ℕ) (ev : Event) (letters : List Letter) (calls : List (ℕ × Call)) (recovery : Option Recovering) (i : ℕ) where
  abbrev Good : Turn → Type 0
  Good t = Settled e moment ev letters calls recovery i t

  abbrev sent_none : (t : Turn) → TurnOk e moment ev letters calls recovery i t → Good t
  sent_none t h = unsent e moment ev letters calls recovery i t h

  pub plainly : (t : Turn) → Taking e moment ev letters calls recovery i t → PlainAt e moment ev letters calls recovery i t → Good (takes_plain t)
  plainly t f comes = sent_none (takes_plain t) (plain_ok e moment ev letters calls recovery i t comes f.fresh.good)

  -- there is room always
  full_not : (t : Turn) → Taking e moment ev letters calls recovery i t → has_room t.control ≡ false → ⊥
  full_not t f full = is_roomy e moment ev letters calls recovery i t f.live f.fresh.good full

  -- a call that there is does what its table says
  pub answers_ok : (r : Reason) (s : ℕ) (c : Call) (on : CallEvent) (t : Turn) → Taking e moment ev letters calls recovery i t → at calls s ≡ Some c
      → PlainAt e moment ev letters calls recovery i t → Ends e moment ev letters calls recovery i (takes_plain t) s c on r.result r.error
      → (is_told (row_for e.role c on).1 ≡ true → Stands e moment ev r.cause) → Good (answers_by r s c (row_for e.role c on).1 t)
  unfolding answers_by takes_plain with_move takes_one
  answers_ok r s c on t f found comes why so =
      branch Good (nat_lt s 65536) _ _
      (λ small. (ends_leave e moment ev letters calls recovery i r.cause s c on r.result r.error (takes_plain t)
      (at_first e moment ev letters calls recovery i t f.fresh s (Some c) found) why (ltb-true s 65536 small)
      (λ told current. (spare_told t.control (with_calls t.changed calls) s c (spare_first e moment ev letters calls recovery i t f), so told))
      (row_for e.role c on).1 refl (plainly t f comes)).ok)
      (λ big. plainly t f comes)

  -- why there is no call, of each move that says so
  abbrev pub Refusing : Reason → ℕ → Turn → Came → Type 0
  Refusing r remote t k =
      (m : Refused) → m.remote ≡ remote → m.result ≡ r.result → m.error ≡ r.error
      → WhyRefused (at_turn e moment ev letters calls recovery i t) (tunnel_after t letters calls recovery) k.header.session (message_in k.body)
      (call_fault_in k.body) m

  pub refuses_ok : (r : Reason) → Stands e moment ev r.cause → (remote : ℕ) (t : Turn) → Taking e moment ev letters calls recovery i t → state_number t.control.state ≡ 3
      → (k : Came) → IsNext ev (now e moment ev letters calls recovery i t) k → Refusing r remote t k → Good (refuses r remote t)
  unfolding refuses
  refuses_ok r so remote t f is_open k next why =
      branch Good (has_room t.control) _ _
      (λ room. sent_none _ (refused_ok e moment ev letters calls recovery i r so remote t is_open k next why (spare_first e moment ev letters calls recovery i t f) room f.fresh.good))
      (λ full. absurd (full_not t f full))

  -- what the table says of a call that there isn't
  pub none_ok : (r : Reason) (remote : ℕ) (a : CallAction) (t : Turn) → Taking e moment ev letters calls recovery i t → PlainAt e moment ev letters calls recovery i t
      → (a ≡ call_action.SendCdn → Good (refuses r remote t)) → Good (of_no_call r remote a t)
  unfolding of_no_call
  none_ok r remote call_action.SendCdn t f comes says = says refl
  none_ok r remote call_action.DropSession t f comes says = sent_none _ (ignores_ok e moment ev letters calls recovery i why.Session (λ q. absurd cc) t comes f.fresh.good)
  none_ok r remote call_action.Nothing t f comes says = plainly t f comes
  none_ok r remote call_action.SendIcrq t f comes says = plainly t f comes
  none_ok r remote call_action.SendIcrp t f comes says = plainly t f comes
  none_ok r remote call_action.SendIccn t f comes says = plainly t f comes
  none_ok r remote call_action.CleanUp t f comes says = plainly t f comes

  -- ---- requests

  module _ (session remote serial : ℕ) (calling : Option (List ℕ)) (t : Turn) (f : Taking e moment ev letters calls recovery i t) (is_open : state_number t.control.state ≡ 3)
      (hears : HearsNext ev (now e moment ev letters calls recovery i t) session (Icrq remote serial calling)) where
    asks_plain : (c : Call) → at calls session ≡ Some c → PlainAt e moment ev letters calls recovery i t
    asks_plain c found =
        comes_at e moment ev letters calls recovery i t f session (Icrq remote serial calling) (λ o. (c, at_first e moment ev letters calls recovery i t f.fresh session (Some c) found)) hears

    came : CameAbout e ev (begun e moment ev letters calls recovery i t f.fresh) session (Icrq remote serial calling)
    came = came_at e moment ev letters calls recovery i t f.fresh is_open session (Icrq remote serial calling) hears

    -- why it isn't granted
    ungranted : at calls session ≡ None → (r : Reason) → granted e.role calls remote t.ids.sessions ≡ Err r → Stands e moment ev r.cause
    ungranted new r is =
        granted_stands e moment ev (begun e moment ev letters calls recovery i t f.fresh) remote (record {
          header = session;
          new = new;
          serial = serial;
          calling = calling;
          came = came;
        }) r (ap (granted e.role calls remote) (sym f.fresh.sessions) ∙ is)

    granted_now : (g : Result ℕ Reason) → granted e.role calls remote t.ids.sessions ≡ g → granted e.role (with_calls t.changed calls) remote t.ids.sessions ≡ g
    granted_now g is = ap (λ cs. granted e.role cs remote t.ids.sessions) (calls_first e moment ev letters calls recovery i t f.fresh) ∙ is

    denied_now : (r : Reason) → granted e.role calls remote t.ids.sessions ≡ Err r
        → DeniesCall (at_turn e moment ev letters calls recovery i t) (tunnel_after t letters calls recovery) remote r.result r.error
    denied_now r is = (denies_is (at_turn e moment ev letters calls recovery i t) (tunnel_after t letters calls recovery) remote r (granted_now (Err r) is)).0

    refusing : (r : Reason) → granted e.role calls remote t.ids.sessions ≡ Err r → at calls session ≡ None
        → Refusing r remote t hears.letter
    refusing r is none m to result error =
        IsNotGranted remote serial calling hears.says.said
        (ap (λ q. at (with_calls t.changed calls) q) hears.says.session_is ∙ at_first e moment ev letters calls recovery i t f.fresh session None none)
        to (rw (result, error) (denied_now r is))

    asked_by_ok : (g : Result ℕ Reason) → granted e.role calls remote t.ids.sessions ≡ g → (o : Option Call) → at calls session ≡ o
        → Good (asked_by e.role session remote g o t)
    unfolding asked_by replies takes_plain with_move takes_one
    asked_by_ok (Ok s) is None found =
        branch Good (has_room t.control) _ _
        (λ room. sent_none _ (replied_ok e moment ev letters calls recovery i remote s session serial calling t f.fresh.changes is_open hears
        (at_first e moment ev letters calls recovery i t f.fresh session None found) (granted_now (Ok s) is)
        (granted_is e.role (with_calls t.changed calls) remote t.ids.sessions s (granted_now (Ok s) is))
        (spare_first e moment ev letters calls recovery i t f) room f.fresh.good))
        (λ full. absurd (full_not t f full))
    asked_by_ok (Err r) is None found =
        refuses_ok r (ungranted found r is) remote t f is_open hears.letter hears.next (refusing r is found)
    asked_by_ok g is (Some c) found =
        answers_ok out_of_state session c call_event.IcrqAcc t f found (asks_plain c found)
        (IsAsked remote serial calling (heard_in ev (now e moment ev letters calls recovery i t) _ session (Icrq remote serial calling) refl refl refl hears)
        refl refl refl)
        (λ told. inl (
          begun e moment ev letters calls recovery i t f.fresh,
          AskedAgain remote serial session calling came (told_at e moment ev letters calls recovery i t f.fresh session c call_event.IcrqAcc found told),
        ))

  -- ---- replies, connections and ends

  first_up_by_ok : (session remote : ℕ) (t : Turn) → Taking e moment ev letters calls recovery i t → state_number t.control.state ≡ 3 → HearsNext ev (now e moment ev letters calls recovery i t) session (Icrp remote)
      → (o : Option Call) → at calls session ≡ o → Good (first_up_by e.role session remote o t)
  unfolding first_up_by takes_plain with_move takes_one
  first_up_by_ok session remote t f is_open hears None is =
      let none = no_call e moment ev letters calls recovery i t f.fresh session is in
      none_ok out_of_state remote (row_of_none e.role call_event.IcrpAcc).1 t f
      (comes_at e moment ev letters calls recovery i t f session (Icrp remote) (λ o d found. absurd (none d found)) hears)
      (λ told. refuses_ok out_of_state (inl (
        begun e moment ev letters calls recovery i t f.fresh,
        RepliedInVain remote session (came_at e moment ev letters calls recovery i t f.fresh is_open session (Icrp remote) hears) (inl (is, told_of_reply e.role told)),
      )) remote t f is_open hears.letter hears.next (λ m to result error.
      IsReplyToNone remote hears.says.said
      (ap (λ q. at (with_calls t.changed calls) q) hears.says.session_is ∙ at_first e moment ev letters calls recovery i t f.fresh session None is)
      (told_of_reply e.role told) to result error))
  first_up_by_ok session remote t f is_open hears (Some c) is =
      branch Good (is_connection (row_for e.role c call_event.IcrpAcc).1) _ _
      (λ row. branch Good (has_room t.control) _ _
      (λ room. sent_none _ (first_up_ok e moment ev letters calls recovery i session remote c t is_open (at_first e moment ev letters calls recovery i t f.fresh session (Some c) is) hears row
      (spare_first e moment ev letters calls recovery i t f) room f.fresh.good))
      (λ full. absurd (full_not t f full)))
      (λ none. answers_ok out_of_state session c call_event.IcrpAcc t f is
      (comes_at e moment ev letters calls recovery i t f session (Icrp remote)
      (λ o. that_call e moment ev letters calls recovery i (λ (k : Call). is_connection (row_for e.role k call_event.IcrpAcc).1 ≡ false) t f.fresh session c is none) hears)
      (IsReplied remote (heard_in ev (now e moment ev letters calls recovery i t) _ session (Icrp remote) refl refl refl hears) refl refl refl)
      (λ told. inl (
        begun e moment ev letters calls recovery i t f.fresh,
        RepliedInVain remote session (came_at e moment ev letters calls recovery i t f.fresh is_open session (Icrp remote) hears)
            (inr (told_at e moment ev letters calls recovery i t f.fresh session c call_event.IcrpAcc is told)),
      )))

  second_up_by_ok : (session speed framing : ℕ) (sequenced : Bool) (t : Turn) → Taking e moment ev letters calls recovery i t → state_number t.control.state ≡ 3
      → HearsNext ev (now e moment ev letters calls recovery i t) session (Iccn speed framing sequenced) → (o : Option Call) → at calls session ≡ o
      → Good (second_up_by e.role sequenced session o t)
  unfolding second_up_by takes_plain with_move takes_one
  second_up_by_ok session speed framing sequenced t f is_open hears None is =
      let none = no_call e moment ev letters calls recovery i t f.fresh session is in
      none_ok out_of_state 0 (row_of_none e.role call_event.IccnAcc).1 t f
      (comes_at e moment ev letters calls recovery i t f session (Iccn speed framing sequenced) (λ o d found. absurd (none d found)) hears)
      (λ told. absurd (untold_of_connection e.role told))
  second_up_by_ok session speed framing sequenced t f is_open hears (Some c) is =
      branch Good (is_up (row_for e.role c call_event.IccnAcc).0) _ _
      (λ row. linked_up_ok e moment ev letters calls recovery i sequenced session c t row f.fresh.good.stays.4
      (sent_none _ (second_up_ok e moment ev letters calls recovery i session speed framing t.on.block sequenced c t is_open
      (at_first e moment ev letters calls recovery i t f.fresh session (Some c) is) hears row (spare_first e moment ev letters calls recovery i t f) f.fresh.good)))
      (λ none. answers_ok out_of_state session c call_event.IccnAcc t f is
      (comes_at e moment ev letters calls recovery i t f session (Iccn speed framing sequenced)
      (λ o. that_call e moment ev letters calls recovery i (λ (k : Call). is_up (row_for e.role k call_event.IccnAcc).0 ≡ false) t f.fresh session c is none) hears)
      (IsConnected speed framing sequenced (heard_in ev (now e moment ev letters calls recovery i t) _ session (Iccn speed framing sequenced) refl refl refl hears) refl refl refl)
      (λ told. inl (
        begun e moment ev letters calls recovery i t f.fresh,
        ConnectedInVain speed framing session sequenced (came_at e moment ev letters calls recovery i t f.fresh is_open session (Iccn speed framing sequenced) hears)
            (told_at e moment ev letters calls recovery i t f.fresh session c call_event.IccnAcc is told),
      )))

  -- no call with this session ends because its peer says so
  abbrev EndsNone : Turn → ℕ → Type 0
  EndsNone t s = (d : Call) → at (with_calls t.changed calls) s ≡ Some d → is_clean_up (row_for e.role d call_event.CdnCame).1 ≡ false

  end_heard_by_ok : (session remote code : ℕ) (error : Option ℕ) (s : ℕ) (t : Turn) → Taking e moment ev letters calls recovery i t
      → s ≡ session_named calls session remote → state_number t.control.state ≡ 3 → HearsNext ev (now e moment ev letters calls recovery i t) session (Cdn remote code error)
      → (o : Option Call) → at calls s ≡ o → Good (end_heard_by e.role s o t)
  unfolding end_heard_by
  end_heard_by_ok session remote code error s t f named is_open hears o is =
      let named_now : s ≡ session_named (with_calls t.changed calls) session remote =
      named ∙ ap (λ cs. session_named cs session remote) (sym (calls_first e moment ev letters calls recovery i t f.fresh)) in
      by named_now (λ none. comes_at e moment ev letters calls recovery i t f session (Cdn remote code error) (λ q. subst (EndsNone t) named_now none) hears) o is
    where
      by : s ≡ session_named (with_calls t.changed calls) session remote → (EndsNone t s → PlainAt e moment ev letters calls recovery i t) → (o : Option Call)
          → at calls s ≡ o → Good (end_heard_by e.role s o t)
      by named_now plain None is =
          none_ok out_of_state 0 (row_of_none e.role call_event.CdnCame).1 t f
          (plain (λ d found. absurd (no_call e moment ev letters calls recovery i t f.fresh s is d found)))
          (λ told. absurd (untold_of_end e.role told))
      by named_now plain (Some c) is =
          branch Good (is_clean_up (row_for e.role c call_event.CdnCame).1) _ _
          (λ row. sent_none _ (end_heard_ok e moment ev letters calls recovery i s session remote code error c t is_open
          (at_first e moment ev letters calls recovery i t f.fresh s (Some c) is) hears named_now row (spare_first e moment ev letters calls recovery i t f) f.fresh.good))
          (λ none. plainly t f (plain
          (that_call e moment ev letters calls recovery i (λ (k : Call). is_clean_up (row_for e.role k call_event.CdnCame).1 ≡ false) t f.fresh s c is none)))

  -- ---- all of them

  about_call_ok : (session : ℕ) (m : Message) (t : Turn) → Taking e moment ev letters calls recovery i t → OfCall m → state_number t.control.state ≡ 3
      → HearsNext ev (now e moment ev letters calls recovery i t) session m → Good (about_call e.role calls session m t)
  unfolding about_call ends_named
  about_call_ok session (Icrq remote serial calling) t f other is_open hears =
      asked_by_ok session remote serial calling t f is_open hears (granted e.role calls remote t.ids.sessions) refl (at calls session) refl
  about_call_ok session (Icrp remote) t f other is_open hears = first_up_by_ok session remote t f is_open hears (at calls session) refl
  about_call_ok session (Iccn speed framing sequenced) t f other is_open hears =
      second_up_by_ok session speed framing sequenced t f is_open hears (at calls session) refl
  about_call_ok session (Cdn remote code error) t f other is_open hears =
      end_heard_by_ok session remote code error (session_named calls session remote) t f refl is_open hears (at calls (session_named calls session remote)) refl
  about_call_ok session (Ocrq remote) t f other is_open hears =
      refuses_ok (reason cause.Outgoing 5 None)
      (begun e moment ev letters calls recovery i t f.fresh, session, remote, came_at e moment ev letters calls recovery i t f.fresh is_open session (Ocrq remote) hears) remote t f is_open hears.letter hears.next
      (λ m to result error. IsOutgoing remote hears.says.said to result error)
  about_call_ok session (StopCcn tunnel code error) t f other is_open hears = absurd other
  about_call_ok session Hello t f other is_open hears = absurd other
  about_call_ok session (Sccrq o) t f other is_open hears = absurd other
  about_call_ok session (Sccrp o) t f other is_open hears = absurd other
  about_call_ok session (Scccn response) t f other is_open hears = absurd other
  about_call_ok session Ocrp t f other is_open hears = absurd other
  about_call_ok session Occn t f other is_open hears = absurd other
  about_call_ok session Wen t f other is_open hears = absurd other
  about_call_ok session Sli t f other is_open hears = absurd other
  about_call_ok session (Fsq sessions) t f other is_open hears = absurd other
  about_call_ok session (Fsr sessions) t f other is_open hears = absurd other

  pub in_call_ok : (session : ℕ) (m : Message) (t : Turn) → Taking e moment ev letters calls recovery i t → OfCall m → HearsNext ev (now e moment ev letters calls recovery i t) session m
      → Good (in_call e.role calls session m t)
  unfolding in_call
  in_call_ok session m t f other hears =
      branch Good (state_number t.control.state == 3) _ _
      (λ is. about_call_ok session m t f other (eqb-true (state_number t.control.state) 3 is) hears)
      (λ closed. sent_none _ (ignores_ok e moment ev letters calls recovery i why.Session (λ q. absurd cc) t (comes_at e moment ev letters calls recovery i t f session m
      (not_open (at_turn e moment ev letters calls recovery i t) (tunnel_after t letters calls recovery) session m other (eqb-false (state_number t.control.state) 3 closed)) hears) f.fresh.good))
