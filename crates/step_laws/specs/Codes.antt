-- The codes of a CDN that ends a call, or refuses one, and of a StopCCN that closes a tunnel, have 16 bits.
use Rattle.std.proofs.Common.{◌≡◌, ℕ, ◌<◌, List, Option, Some, None, Result, arith}
use Rattle.std.specs.Prelude.{IfSome}
use Rattle.wire_base.specs.declared.cause.Cause.{Cause}
use Rattle.wire_base.specs.declared.cause.Cause.TheVariants as cause
use Rattle.wire_base.specs.declared.why.Why.{Why}
use Rattle.control_message.specs.declared.message.Message.{Message}
use Rattle.call_fsm.specs.declared.table.CallEvent.{CallEvent}
use Rattle.end_model.specs.declared.event.Event.{Event}
use Rattle.end_model.specs.declared.moves.Refused.{Refused}
use Rattle.end_model.specs.declared.tunnel.Call.{Call}
use Rattle.end_model.specs.Reading.{CallFault}
use Rattle.end_model.specs.declared.tunnel.Control.{Control}
use Rattle.end_model.specs.Tunnels.{Tunnel, Asking}
use Rattle.end_model.specs.Reasons.{fault_error}
use Rattle.end_model.specs.End.{End}
use Rattle.control_message.specs.declared.message.Opening.{Opening}
use Rattle.control_message.specs.declared.message.Recovery.{Recovery}
use Rattle.tunnel_fsm.specs.declared.table.TunnelEvent.{TunnelEvent}
use Rattle.end_model.specs.declared.moves.Closed.{Closed}
use Rattle.end_model.specs.declared.moves.Declined.{Declined}
use Rattle.step_laws.specs.Moves.{Came, DeniesCall, AsksItself, HasUsedId, HasAllCalls, HasNoSession, StandsAgainst, OtherVersion, NoTunnel, Challenges, NoId, StandsAgainstRecovery, OfOtherVersion, OfNoTunnel, OfNoSecret, OfNoId, ClosesIn, HasOtherVersion, HasRecovery, HasOtherSecret, ClosesConnected, WronglyConnected, ComesUnawaited, IsUnawaited, WhyDeclined, AnOpening, ARecovery, AFaultyOpening, AnAnswer, LetterCloses, WhyCloses, ByOperator, ByLetter, BySccrq, BySccrp, ByScccn, ByUnasked, ByFault, WhyEnds, IsLate, IsDropped, IsHungUp, IsEnded, IsAsked, IsReplied, IsConnected, HasFault, WhyRefused, IsNotGranted, IsOutgoing, IsReplyToNone, IsWrong}

-- 16 bits each
abbrev pub CodesFit : ℕ → Option ℕ → Type 0
CodesFit result error = (result < 65536) × IfSome error (λ x. x < 65536)

-- the error codes that tell a fault (RFC 2661 section 4.4.2): of pairs that can't be read, of a value that is wrong or wanting, and of a pair
-- or a type that has to be understood and isn't
pub record FaultsHaveCodes : Type 0 where
  pub avp : fault_error cause.Avp ≡ 2
  pub value : fault_error cause.Value ≡ 3
  pub mandatory : fault_error cause.Mandatory ≡ 8

fault_fits : (c : Cause) → fault_error c < 65536
fault_fits cause.Mandatory = omega arith
fault_fits cause.Operator = omega arith
fault_fits cause.Line = omega arith
fault_fits cause.Avp = omega arith
fault_fits cause.Value = omega arith
fault_fits cause.Version = omega arith
fault_fits cause.State = omega arith
fault_fits cause.Session = omega arith
fault_fits cause.Secret = omega arith
fault_fits cause.Ids = omega arith
fault_fits cause.Calls = omega arith
fault_fits cause.Tunnels = omega arith
fault_fits cause.Setup = omega arith
fault_fits cause.Recover = omega arith
fault_fits cause.Query = omega arith
fault_fits cause.Lcp = omega arith
fault_fits cause.Outgoing = omega arith
fault_fits cause.Recovering = omega arith
fault_fits cause.Queue = omega arith
fault_fits cause.Service = omega arith
fault_fits cause.Cookie = omega arith
fault_fits cause.Auth = omega arith
fault_fits cause.Address = omega arith
fault_fits cause.Busy = omega arith

fits : (result : ℕ) (error : Option ℕ) (x : ℕ) (y : Option ℕ) → CodesFit x y → result ≡ x → error ≡ y → CodesFit result error
fits result error x y h a b = rw (a, b) h

-- the codes of each reason for which a request isn't granted
denied_fits : (e : End) (t : Tunnel) (remote result : ℕ) (error : Option ℕ) → DeniesCall e t remote result error → CodesFit result error
denied_fits e t remote result error (AsksItself lac r x) = fits result error 2 (Some 5) (omega arith, omega arith) r x
denied_fits e t remote result error (HasUsedId lns used r x) = fits result error 2 (Some 5) (omega arith, omega arith) r x
denied_fits e t remote result error (HasAllCalls lns free many r x) = fits result error 4 None (omega arith, tt) r x
denied_fits e t remote result error (HasNoSession lns free few y none r x) = fits result error 4 None (omega arith, tt) r x

pub codes_fit : (e : End) (t : Tunnel) (ev : Event) (moment session : ℕ) (c : Call) (on : CallEvent) (result : ℕ) (error : Option ℕ)
    → WhyEnds e t ev moment session c on result error → CodesFit result error
codes_fit e t ev moment session c on result error (IsLate late at_ r x) = fits result error 10 None (omega arith, tt) r x
codes_fit e t ev moment session c on result error (IsEnded why done at_ r x) = fits result error 3 None (omega arith, tt) r x
codes_fit e t ev moment session c on result error (IsDropped is at_ r x) = fits result error 3 None (omega arith, tt) r x
codes_fit e t ev moment session c on result error (IsHungUp is at_ r x) = fits result error 1 None (omega arith, tt) r x
codes_fit e t ev moment session c on result error (IsAsked remote serial calling came at_ r x) =
    fits result error 2 (Some 5) (omega arith, omega arith) r x
codes_fit e t ev moment session c on result error (IsReplied remote came at_ r x) = fits result error 2 (Some 5) (omega arith, omega arith) r x
codes_fit e t ev moment session c on result error (IsConnected speed framing sequenced came at_ r x) =
    fits result error 2 (Some 5) (omega arith, omega arith) r x
codes_fit e t ev moment session c on result error (HasFault header f came at_ r x) =
    fits result error 2 (Some (fault_error f.cause)) (omega arith, fault_fits f.cause) r x

pub refusal_codes_fit : (e : End) (t : Tunnel) (header : ℕ) (said : Result Message Why) (fault : Option CallFault) (m : Refused)
    → WhyRefused e t header said fault m → CodesFit m.result m.error
refusal_codes_fit e t header said fault m (IsNotGranted remote serial calling is none same denied) = denied_fits e t remote m.result m.error denied
refusal_codes_fit e t header said fault m (IsOutgoing remote is same result error) = fits m.result m.error 5 None (omega arith, tt) result error
refusal_codes_fit e t header said fault m (IsReplyToNone remote is none lns same result error) =
    fits m.result m.error 2 (Some 5) (omega arith, omega arith) result error
refusal_codes_fit e t header said fault m (IsWrong f is same result error) =
    fits m.result m.error 2 (Some (fault_error f.cause)) (omega arith, fault_fits f.cause) result error

-- the codes of each reason for which no tunnel is opened
against_fits : (e : End) (o : Opening) (result : ℕ) (error : Option ℕ) → StandsAgainst e o result error → CodesFit result error
against_fits e o result error (OtherVersion version r x) = fits result error 5 None (omega arith, tt) r x
against_fits e o result error (NoTunnel version all r x) = fits result error 2 (Some 4) (omega arith, omega arith) r x
against_fits e o result error (Challenges version fewer challenge r x) = fits result error 4 None (omega arith, tt) r x
against_fits e o result error (NoId version fewer challenge y none r x) = fits result error 2 (Some 4) (omega arith, omega arith) r x

-- and for which no recovery is answered
recovery_fits : (e : End) (peer : ℕ) (o : Opening) (r : Recovery) (result : ℕ) (error : Option ℕ) → StandsAgainstRecovery e peer o r result error
    → CodesFit result error
recovery_fits e peer o k result error (OfOtherVersion version r x) = fits result error 5 None (omega arith, tt) r x
recovery_fits e peer o k result error (OfNoTunnel version none r x) = fits result error 2 (Some 1) (omega arith, omega arith) r x
recovery_fits e peer o k result error (OfNoSecret version named challenge r x) = fits result error 4 None (omega arith, tt) r x
recovery_fits e peer o k result error (OfNoId version named challenge y none r x) = fits result error 2 (Some 4) (omega arith, omega arith) r x

-- and of each for which an opening closes a tunnel
closing_fits : (secret asked : Option (List ℕ)) (o : Opening) (result : ℕ) (error : Option ℕ) → ClosesIn secret asked o result error → CodesFit result error
closing_fits secret asked o result error (HasOtherVersion version r x) = fits result error 5 None (omega arith, tt) r x
closing_fits secret asked o result error (HasRecovery version recovery r x) = fits result error 2 (Some 1) (omega arith, omega arith) r x
closing_fits secret asked o result error (HasOtherSecret version recovery fails r x) = fits result error 4 None (omega arith, tt) r x
closing_fits secret asked o result error (IsUnawaited version recovery good r x) = fits result error 7 None (omega arith, tt) r x

-- and of each for which an SCCCN does
connected_fits : (secret asked response : Option (List ℕ)) (on : TunnelEvent) (result : ℕ) (error : Option ℕ)
    → ClosesConnected secret asked response on result error → CodesFit result error
connected_fits secret asked response on result error (WronglyConnected wrong at_ r x) = fits result error 4 None (omega arith, tt) r x
connected_fits secret asked response on result error (ComesUnawaited right at_ r x) = fits result error 7 None (omega arith, tt) r x

-- and those of a StopCCN
pub letter_codes_fit : (secret : Option (List ℕ)) (c : Control) (q : Asking) (k : Came) (on : TunnelEvent)
    (told result : ℕ) (error : Option ℕ)
    → LetterCloses secret c q k on told result error → CodesFit result error
letter_codes_fit secret c q k on told result error (BySccrq o said at_ known why) = closing_fits secret None o result error why
letter_codes_fit secret c q k on told result error (BySccrp o said at_ known why) = closing_fits secret c.challenge o result error why
letter_codes_fit secret c q k on told result error (ByScccn response said known why) =
    connected_fits secret c.challenge response on result error why
letter_codes_fit secret c q k on told result error (ByFault g has at_ known r x) =
    fits result error 2 (Some (fault_error g.cause)) (omega arith, fault_fits g.cause) r x
letter_codes_fit secret c q k on told result error (ByUnasked answers place said differs at_ known r x) = fits result error 7 None
    (omega arith, tt) r x

pub stop_codes_fit : (secret : Option (List ℕ)) (t : Tunnel) (ev : Event) (on : TunnelEvent) (m : Closed) → WhyCloses secret t ev on m → CodesFit m.result m.error
stop_codes_fit secret t ev on m (ByOperator is at_ known r x) = fits m.result m.error 1 None (omega arith, tt) r x
stop_codes_fit secret t ev on m (ByLetter told k next spare why other known) =
    letter_codes_fit secret t.control t.query k on told m.result m.error why

-- and those of one that declines an opening
pub decline_codes_fit : (e : End) (body : List ℕ) (m : Declined) → WhyDeclined e body m → CodesFit m.result m.error
decline_codes_fit e body m (AnOpening o said plain known unknown against) = against_fits e o m.result m.error against
decline_codes_fit e body m (ARecovery o said r asks known against) = recovery_fits e m.peer o r m.result m.error against
decline_codes_fit e body m (AFaultyOpening g to unknown is on result error) =
    fits m.result m.error 2 (Some (fault_error g.cause)) (omega arith, fault_fits g.cause) result error
decline_codes_fit e body m (AnAnswer to result error) = fits m.result m.error 7 None (omega arith, tt) result error
