-- What an event says that is a control message, as it was worked out of its body.
use Rattle.std.specs.Prelude.{⊤, ◌≡◌, ℕ, true, List, Option, Some, None, Result, Ok}
use Rattle.wire_base.specs.declared.why.Why.{Why}
use Rattle.l2tp_header.specs.declared.header.Header.{Header}
use Rattle.l2tp_header.specs.Reading.{header_of, body_of}
use Rattle.control_message.specs.declared.message.Message.{Message}
use Rattle.end_model.specs.declared.event.Event.{Event}
use Rattle.end_model.specs.declared.event.Event.TheVariants.{Datagram}
use Rattle.end_model.specs.Reading.{message_in}

-- the event is a control message with this body
pub record IsControlEvent (body : List ℕ) (ev : Event) : Type 0 where
  pub peer : ℕ
  pub bytes : List ℕ
  pub header : Header
  pub event : ev ≡ Datagram peer bytes
  pub read : header_of bytes ≡ Ok header
  pub control : header.control ≡ true
  pub same : body ≡ body_of bytes header

-- it says this
pub record SaysThis (said : Result Message Why) (ev : Event) : Type 0 where
  pub body : List ℕ
  pub is : IsControlEvent body ev
  pub says : said ≡ message_in body

-- where what it says was worked out, it says that
abbrev pub IsSaidBy : Option (Result Message Why) → Event → Type 0
IsSaidBy None ev = ⊤
IsSaidBy (Some said) ev = SaysThis said ev
