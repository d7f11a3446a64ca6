-- Why calls end, or can't be had, and why tunnels close.
use Rattle.std.specs.Prelude.{ℕ, Option, Some, None}
use Rattle.wire_base.specs.declared.cause.Cause.{Cause}
use Rattle.wire_base.specs.declared.cause.Cause.TheVariants as cause
use Rattle.end_model.specs.Codes.{general_error, not_authorized, version_not_supported, state_machine_error, no_control_connection, wrong_length, value_out_of_range, insufficient_resources, invalid_session, mandatory_unknown}

-- why a call is ended or refused, or a tunnel closed, and the result code and error code of the CDN, or the StopCCN, that says so
-- (RFC 2661 section 4.4.2)
pub record Reason : Type 0 where
  pub cause : Cause
  pub result : ℕ
  pub error : Option ℕ

abbrev pub reason : Cause → ℕ → Option ℕ → Reason
reason for result error = record { cause = for; result = result; error = error }

abbrev pub out_of_state : Reason
out_of_state = reason cause.State general_error (Some invalid_session)

-- of a message about a tunnel
abbrev pub out_of_order : Reason
out_of_order = reason cause.State state_machine_error None

-- an answer to a query of sessions that wasn't asked for, or differs from what was
abbrev pub not_asked : Reason
not_asked = reason cause.Query state_machine_error None

-- its version isn't 1.0
abbrev pub other_version : Reason
other_version = reason cause.Version version_not_supported None

-- it wants to recover a tunnel that can't be recovered, or comes where no recovery can be asked for
abbrev pub no_recovery : Reason
no_recovery = reason cause.Recover general_error (Some no_control_connection)

-- it asks for what only one who knows the secret can answer, or it should have answered that and didn't
abbrev pub no_secret : Reason
no_secret = reason cause.Secret not_authorized None

-- the end has as many tunnels as it may, and no tunnel id is left
abbrev pub no_tunnel : Reason
no_tunnel = reason cause.Tunnels general_error (Some insufficient_resources)

abbrev pub no_id : Reason
no_id = reason cause.Ids general_error (Some insufficient_resources)

-- ---- of a message that has a fault

-- the codes of the CDN or the StopCCN that answers it: its pairs can't be read, a value is wrong, or a pair that has to be understood
-- isn't
abbrev pub fault_error : Cause → ℕ
fault_error cause.Avp = wrong_length
fault_error cause.Mandatory = mandatory_unknown
fault_error c = value_out_of_range

abbrev pub fault_reason : Cause → Reason
fault_reason c = reason c general_error (Some (fault_error c))
