-- The result codes and error codes of StopCCN and CDN (RFC 2661 section 4.4.2), by name.
use Rattle.std.specs.Prelude.{ℕ}

-- ---- result codes of a StopCCN

-- a general request to clear the control connection
abbrev pub clear_request : ℕ
clear_request = 1

-- of a StopCCN or a CDN: the error code says more
abbrev pub general_error : ℕ
general_error = 2

-- the requester isn't authorized to establish a control channel
abbrev pub not_authorized : ℕ
not_authorized = 4

-- the protocol version of the requester isn't supported
abbrev pub version_not_supported : ℕ
version_not_supported = 5

-- finite state machine error
abbrev pub state_machine_error : ℕ
state_machine_error = 7

-- ---- result codes of a CDN

-- loss of carrier
abbrev pub carrier_lost : ℕ
carrier_lost = 1

-- administrative reasons
abbrev pub administrative : ℕ
administrative = 3

-- a lack of facilities, for a while and for good
abbrev pub facilities_lacking : ℕ
facilities_lacking = 4

abbrev pub facilities_never : ℕ
facilities_never = 5

-- not established within the time allotted
abbrev pub not_in_time : ℕ
not_in_time = 10

-- ---- error codes

-- there is no control connection yet
abbrev pub no_control_connection : ℕ
no_control_connection = 1

abbrev pub wrong_length : ℕ
wrong_length = 2

-- a field's value is out of its range
abbrev pub value_out_of_range : ℕ
value_out_of_range = 3

abbrev pub insufficient_resources : ℕ
insufficient_resources = 4

-- the session id is invalid in this context
abbrev pub invalid_session : ℕ
invalid_session = 5

-- a mandatory pair isn't known
abbrev pub mandatory_unknown : ℕ
mandatory_unknown = 8
