-- What was written is read again.
use Rattle.std.specs.Prelude.{◌≡◌, ℕ, ◌+◌, true, false, Option, Some, None, option_map, List, Ok}
use Rattle.l2tp_header.specs.declared.header.Header.{Header}
use Rattle.l2tp_header.specs.Reading.{header_of, body_of}

-- the bytes have the header, and it bounds the body
pub record Carries (bytes : List ℕ) (h : Header) (body : List ℕ) : Type 0 where
  pub reads : header_of bytes ≡ Ok h
  pub bounds : body_of bytes h ≡ body

-- of a control message with as many bytes of pairs
abbrev pub control_header : ℕ → ℕ → ℕ → ℕ → ℕ → Header
control_header tunnel session ns nr count =
    record {
      control = true;
      tunnel = tunnel;
      session = session;
      ns = Some ns;
      nr = Some nr;
      start = 12;
      end = 12 + count;
    }

-- where the body of a data message starts, without a number and with one
abbrev pub data_start : Option ℕ → ℕ
data_start None = 6
data_start (Some number) = 10

-- of a data message with as many bytes behind it
abbrev pub data_header : ℕ → ℕ → Option ℕ → ℕ → Header
data_header tunnel session number count =
    record {
      control = false;
      tunnel = tunnel;
      session = session;
      ns = number;
      nr = option_map (λ n. 0) number;
      start = data_start number;
      end = data_start number + count;
    }
