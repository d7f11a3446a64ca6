-- How each request for a call is answered, and what comes of each ring.
use Rattle.step_laws.specs.Callers.{IsRing}
use Rattle.std.specs.Prelude.{◌≡◌, ◌⊎◌, ℕ, true, List, [], ◌∷◌, Option, Some, None, unwrap_or, Ok}
use Rattle.std.specs.List.{flat_map}
use Rattle.id_table.specs.Ids.{at}
use Rattle.id_source.specs.Spaces.{takes_id}
use Rattle.wire_base.specs.declared.cause.Cause.{Cause as CauseOf}
use Rattle.wire_base.specs.declared.cause.Cause.TheVariants as cause
use Rattle.avp_codec.specs.declared.avp.Avp.{Avp}
use Rattle.avp_codec.specs.Reading.{avps_of}
use Rattle.control_message.specs.declared.message.Message.TheVariants.{Icrq, Ocrq}
use Rattle.control_message.specs.declared.kind.Kind.{Kind}
use Rattle.control_message.specs.declared.kind.Kind.TheVariants as kind
use Rattle.end_model.specs.Reading.{kind_said}
use Rattle.tunnel_fsm.specs.declared.table.TunnelState.TheVariants.{WaitCtlReply, Established}
use Rattle.tunnel_fsm.specs.Rows.{state_number}
use Rattle.end_model.specs.declared.tunnel.Call.{Call}
use Rattle.end_names.specs.declared.role.Role.TheVariants.{Lac}
use Rattle.end_model.specs.declared.event.Event.{Event}
use Rattle.end_model.specs.declared.out.Out.{Out}
use Rattle.end_model.specs.declared.out.Out.TheVariants.{Cause}
use Rattle.end_model.specs.declared.moves.Opened.{Opened}
use Rattle.end_model.specs.declared.moves.Added.{Added}
use Rattle.end_model.specs.declared.moves.Requested.{Requested}
use Rattle.end_model.specs.declared.moves.Replied.{Replied}
use Rattle.end_model.specs.declared.moves.Refused.{Refused}
use Rattle.end_model.specs.declared.moves.EndTold.{EndTold}
use Rattle.end_model.specs.declared.moves.Closed.{Closed}
use Rattle.end_model.specs.declared.moves.Move.{Move}
use Rattle.end_model.specs.declared.moves.Move.TheVariants as move
use Rattle.end_model.specs.Reading.{message_in, CallFault, call_fault_in, TunnelFault, tunnel_fault_in}
use Rattle.end_model.specs.Tunnels.{Tunnel, mode_of, is_current}
use Rattle.end_model.specs.Channels.{counts_acked}
use Rattle.end_model.specs.Reasons.{fault_error}
use Rattle.end_model.specs.End.{End, Stepped, plain_step}
use Rattle.step_laws.specs.Moves.{may_take, Came, IsNext, GrantsCall, DeniesCall, AsksItself, HasUsedId, HasAllCalls, HasNoSession}
use Rattle.step_laws.specs.Causes.{MayBeGranted}
use Rattle.step_laws.specs.Room.{IsLeast, HasNone, IsRecovering}
use Rattle.step_laws.specs.Left.{AreSound, AreAsked}
use Rattle.step_laws.specs.Steps.{AreKept}

-- ---- requests that come

abbrev pub AsksForCall : Option Kind → Type 0
AsksForCall k = (k ≡ Some kind.Icrq) ⊎ (k ≡ Some kind.Ocrq)

-- a control message that asks for a call: an ICRQ or an OCRQ, that can be read; one that has a fault, and can be answered by a CDN;
-- or one so faulty that it can't
pub data IsRequest (body : List ℕ) : Type 0 where
  Incoming : (remote serial : ℕ) (calling : Option (List ℕ)) → message_in body ≡ Ok (Icrq remote serial calling) → IsRequest body
  Outgoing : (remote : ℕ) → message_in body ≡ Ok (Ocrq remote) → IsRequest body
  FaultyIncoming : (f : CallFault) → call_fault_in body ≡ Some f → f.kind ≡ kind.Icrq → IsRequest body
  FaultyOutgoing : (f : CallFault) → call_fault_in body ≡ Some f → f.kind ≡ kind.Ocrq → IsRequest body
  TooFaulty : (avps : List Avp) (g : TunnelFault) → avps_of body ≡ Ok avps → AsksForCall (kind_said avps) → tunnel_fault_in body ≡ Some g
      → IsRequest body

-- the next message of the peer of an open tunnel, in the tunnel that its header names; once Nr is read the tunnel has room for what it
-- may have to give, so the message is taken; and it asks for a call
pub record TakesRequest (e : End) (moment : ℕ) (ev : Event) : Type 0 where
  pub id : ℕ
  pub tunnel : Tunnel
  pub there : at e.tunnels id ≡ Some tunnel
  pub open_is : state_number tunnel.control.state ≡ 3
  pub current : is_current (mode_of tunnel.recovery) ≡ true
  pub letter : Came
  pub next : IsNext ev tunnel letter
  pub named : letter.header.tunnel ≡ id
  pub spare : may_take (counts_acked (unwrap_or letter.header.nr 0) moment tunnel.control) tunnel.calls ≡ true
  pub request : IsRequest letter.body

-- ---- answers

-- the moves that answer: an ICRP, a CDN that names no call, a CDN that ends one, a StopCCN
abbrev pub answer_of_move : Move → List Move
answer_of_move (move.Replied m) = move.Replied m ∷ []
answer_of_move (move.Refused m) = move.Refused m ∷ []
answer_of_move (move.EndTold m) = move.EndTold m ∷ []
answer_of_move (move.Closed m) = move.Closed m ∷ []
answer_of_move m = []

abbrev pub answers_of : List Move → List Move
answers_of ms = flat_map answer_of_move ms

-- the causes that are told, in order
abbrev pub cause_of_output : Out → List CauseOf
cause_of_output (Cause c) = c ∷ []
cause_of_output o = []

abbrev pub causes_of : List Out → List CauseOf
causes_of outs = flat_map cause_of_output outs

-- the cause whose codes a denial has
abbrev pub cause_of_denial : (e : End) (t : Tunnel) (remote result : ℕ) (error : Option ℕ) → DeniesCall e t remote result error → CauseOf
cause_of_denial e t remote result error (AsksItself lac r x) = cause.State
cause_of_denial e t remote result error (HasUsedId lns used r x) = cause.Session
cause_of_denial e t remote result error (HasAllCalls lns free many r x) = cause.Calls
cause_of_denial e t remote result error (HasNoSession lns free few y none r x) = cause.Ids

-- an ICRP in the tunnel: a call of this session is made for the peer's
pub record IsReply (id remote session : ℕ) (m : Move) : Type 0 where
  pub replied : Replied
  pub is : m ≡ move.Replied replied
  pub tunnel : replied.tunnel ≡ id
  pub remote_is : replied.remote ≡ remote
  pub session_is : replied.session ≡ session

-- a CDN in the tunnel to the peer's session, with these codes, that names no call of this end
pub record IsRefusal (id remote result : ℕ) (error : Option ℕ) (m : Move) : Type 0 where
  pub refused : Refused
  pub is : m ≡ move.Refused refused
  pub tunnel : refused.tunnel ≡ id
  pub remote_is : refused.remote ≡ remote
  pub result_is : refused.result ≡ result
  pub error_is : refused.error ≡ error

-- a CDN in the tunnel, with these codes, that ends a call
pub record IsEnd (id session : ℕ) (c : Call) (result : ℕ) (error : Option ℕ) (m : Move) : Type 0 where
  pub told : EndTold
  pub is : m ≡ move.EndTold told
  pub tunnel : told.tunnel ≡ id
  pub session_is : told.session ≡ session
  pub remote_is : told.remote ≡ c.remote
  pub result_is : told.result ≡ result
  pub error_is : told.error ≡ error

-- a StopCCN that closes the tunnel, with these codes
pub record IsClose (id result : ℕ) (error : Option ℕ) (m : Move) : Type 0 where
  pub closed : Closed
  pub is : m ≡ move.Closed closed
  pub tunnel : closed.tunnel ≡ id
  pub result_is : closed.result ≡ result
  pub error_is : closed.error ≡ error

-- An ICRQ, by the call that its header names, and by whether it is granted. One that names no call is replied to, and no cause is told; or it
-- is refused with the codes of the first cause that stands against it, and that cause is told. One that names a call ends it, by an error
-- of 5, with the cause that it is out of state.
pub data AnswersIcrq (e : End) (id : ℕ) (t : Tunnel) (session remote : ℕ) (told : List CauseOf) (m : Move) : Type 0 where
  WithReply : (drawn : ℕ) → at t.calls session ≡ None → GrantsCall e t remote drawn → told ≡ [] → IsReply id remote drawn m
      → AnswersIcrq e id t session remote told m
  WithRefusal : (result : ℕ) (error : Option ℕ) → at t.calls session ≡ None → (denies : DeniesCall e t remote result error)
      → told ≡ cause_of_denial e t remote result error denies ∷ [] → IsRefusal id remote result error m → AnswersIcrq e id t session remote told m
  WithEnd : (c : Call) → at t.calls session ≡ Some c → told ≡ cause.State ∷ [] → IsEnd id session c 2 (Some 5) m
      → AnswersIcrq e id t session remote told m

-- a faulty ICRQ, by the call that its header names: it ends the call, or there is none; and its fault's cause is told
abbrev pub AnswersFaulty : ℕ → ℕ → CallFault → Option Call → List CauseOf → Move → Type 0
AnswersFaulty id session f None told m = (told ≡ f.cause ∷ []) × IsRefusal id (unwrap_or f.session 0) 2 (Some (fault_error f.cause)) m
AnswersFaulty id session f (Some c) told m = (told ≡ f.cause ∷ []) × IsEnd id session c 2 (Some (fault_error f.cause)) m

-- No end places calls, so an OCRQ is refused with a result of 5; one that can't be answered by a CDN closes the tunnel. Beside each answer but
-- a reply its cause is told, and no other.
abbrev pub IsAnswer : End → ℕ → Tunnel → ℕ → (body : List ℕ) → IsRequest body → List CauseOf → Move → Type 0
IsAnswer e id t session body (Incoming remote serial calling is) told m = AnswersIcrq e id t session remote told m
IsAnswer e id t session body (Outgoing remote is) told m = (told ≡ cause.Outgoing ∷ []) × IsRefusal id remote 5 None m
IsAnswer e id t session body (FaultyIncoming f has is) told m = AnswersFaulty id session f (at t.calls session) told m
IsAnswer e id t session body (FaultyOutgoing f has is) told m =
    (told ≡ f.cause ∷ []) × IsRefusal id (unwrap_or f.session 0) 2 (Some (fault_error f.cause)) m
IsAnswer e id t session body (TooFaulty avps g read is has) told m = (told ≡ cause.Value ∷ []) × IsClose id 2 (Some 3) m

-- one move of the step is an answer, and no more than one, and it is the one that the tables and the causes give; the cause that it has is
-- told, and no other
pub record IsAnswered (e : End) (moment : ℕ) (ev : Event) (r : TakesRequest e moment ev) (s : Stepped) : Type 0 where
  pub answer : Move
  pub only : answers_of s.moves ≡ answer ∷ []
  pub right : IsAnswer e r.id r.tunnel r.letter.header.session r.letter.body r.request (causes_of s.outputs) answer

-- an ICRQ that names no call, against which no cause stands, is replied to with the session that is drawn, and by nothing else; no cause is told
pub record IsRepliedTo (e : End) (id remote : ℕ) (s : Stepped) : Type 0 where
  pub replied : Replied
  pub only : answers_of s.moves ≡ move.Replied replied ∷ []
  pub tunnel : replied.tunnel ≡ id
  pub remote_is : replied.remote ≡ remote
  pub drawn : takes_id e.session_ids ≡ Ok replied.session
  pub untold : causes_of s.outputs ≡ []

abbrev pub GrantedAreRepliedTo : End → ℕ → Event → Stepped → Type 0
GrantedAreRepliedTo e moment ev s = (r : TakesRequest e moment ev) (remote serial : ℕ) (calling : Option (List ℕ))
    → message_in r.letter.body ≡ Ok (Icrq remote serial calling) → at r.tunnel.calls r.letter.header.session ≡ None
    → MayBeGranted e r.tunnel remote → IsRepliedTo e r.id remote s

-- one is refused, and the cause is told whose codes the refusal has, and no other
pub record IsRefusedTo (e : End) (t : Tunnel) (id remote : ℕ) (s : Stepped) : Type 0 where
  pub refused : Refused
  pub only : answers_of s.moves ≡ move.Refused refused ∷ []
  pub tunnel : refused.tunnel ≡ id
  pub remote_is : refused.remote ≡ remote
  pub denied : DeniesCall e t remote refused.result refused.error
  pub told : causes_of s.outputs ≡ cause_of_denial e t remote refused.result refused.error denied ∷ []

-- one that names no call is replied to where no cause stands, and else refused by the first that does
abbrev pub NewAreJudged : End → ℕ → Event → Stepped → Type 0
NewAreJudged e moment ev s = (r : TakesRequest e moment ev) (remote serial : ℕ) (calling : Option (List ℕ))
    → message_in r.letter.body ≡ Ok (Icrq remote serial calling) → at r.tunnel.calls r.letter.header.session ≡ None
    → (MayBeGranted e r.tunnel remote × IsRepliedTo e r.id remote s) ⊎ IsRefusedTo e r.tunnel r.id remote s

-- ---- rings

-- the moves that a ring makes: a tunnel is opened by an SCCRQ, a call is born, it is asked for by an ICRQ
abbrev pub ring_of_move : Move → List Move
ring_of_move (move.Opened m) = move.Opened m ∷ []
ring_of_move (move.Added m) = move.Added m ∷ []
ring_of_move (move.Requested m) = move.Requested m ∷ []
ring_of_move m = []

-- a call of the session that is drawn is born in a tunnel, for the port that rings
pub record IsBorn (e : End) (who : List ℕ) (m : Added) : Type 0 where
  pub drawn : takes_id e.session_ids ≡ Ok m.session
  pub subscriber_is : m.subscriber ≡ who

-- over the least tunnel to the LNS that is open the call is asked for; where none is, it waits over the least whose SCCRQ isn't
-- answered yet, and over one that is opened for it where there is neither; or nothing is done, and one cause is told (of that see Causes)
pub data RingIsAnswered (e : End) (who : List ℕ) (s : Stepped) : Type 0 where
  IsAsked : (a : Added) (q : Requested) → flat_map ring_of_move s.moves ≡ move.Added a ∷ move.Requested q ∷ [] → IsBorn e who a
      → IsLeast e Established a.tunnel → q.tunnel ≡ a.tunnel → q.session ≡ a.session → q.subscriber ≡ who → RingIsAnswered e who s
  Waits : (a : Added) → flat_map ring_of_move s.moves ≡ move.Added a ∷ [] → IsBorn e who a → HasNone e Established
      → IsLeast e WaitCtlReply a.tunnel → RingIsAnswered e who s
  Opens : (o : Opened) (a : Added) → flat_map ring_of_move s.moves ≡ move.Opened o ∷ move.Added a ∷ [] → IsBorn e who a
      → takes_id e.tunnel_ids ≡ Ok o.tunnel → o.peer ≡ e.config.lns → a.tunnel ≡ o.tunnel → HasNone e Established → HasNone e WaitCtlReply
      → (IsRecovering e → ⊥) → RingIsAnswered e who s
  IsRefused : (c : CauseOf) → flat_map ring_of_move s.moves ≡ [] → flat_map cause_of_output s.outputs ≡ c ∷ [] → RingIsAnswered e who s

-- ---- each step

pub record StepAnswers (e : End) (moment : ℕ) (ev : Event) (s : Stepped) : Type 0 where
  pub requests : (r : TakesRequest e moment ev) → IsAnswered e moment ev r s
  pub granted : GrantedAreRepliedTo e moment ev s
  pub judged : NewAreJudged e moment ev s
  pub rings : (who : List ℕ) → IsRing ev who → e.role ≡ Lac → RingIsAnswered e who s

-- of an end whose tunnels are kept, and whose calls are those that an end can have
abbrev pub RequestsAreAnswered : Type 0
RequestsAreAnswered =
    (e : End) → AreKept e → AreSound e → AreAsked e → (moment : ℕ) (block : List ℕ) (ev : Event) → StepAnswers e moment ev (plain_step e moment block ev)
