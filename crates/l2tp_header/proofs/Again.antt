-- What was written is read again.
use Rattle.std.proofs.Common.{ℕ, ◌+◌, ◌-◌, ◌^◌, ◌<◌, ◌≤◌, List, length, Option, Some, None, refl, sym, arith}
use Rattle.std.proofs.lemmas.Bool.{true≢false}
use Rattle.std.proofs.lemmas.List.{take_all}
use Rattle.wire_base.specs.Numbers.{u16_bytes}
use Rattle.l2tp_header.specs.Flags.{is_control, has_length, has_numbers, has_offset, has_priority, version_of}
use Rattle.l2tp_header.specs.Spelling.{control_bytes, data_bytes, hdlc_bytes}
use Rattle.l2tp_header.specs.Grammar.{FitsWord, IsHeader}
use Rattle.l2tp_header.specs.Again.{Carries, control_header, data_header}
use Rattle.l2tp_header.proofs.Laws.{header_again}

control_is : (tunnel session ns nr : ℕ) (avps : List ℕ) → tunnel < 2 ^ 16 → session < 2 ^ 16 → ns < 2 ^ 16 → nr < 2 ^ 16 → length avps ≤ 65523 → IsHeader (control_bytes tunnel session ns nr avps) (control_header tunnel session ns nr (length avps))
unfolding control_bytes u16_bytes is_control has_length has_numbers has_offset has_priority version_of
control_is tunnel session ns nr avps t s n r le =
    record {
      fields = record { word = 0xc802; said = Some (12 + length avps); tunnel = tunnel; session = session; numbers = Some (ns, nr); padding = None };
      has = record {
        are = record {
          word = omega arith;
          tunnel = t;
          session = s;
          length_fits = omega arith;
          numbers_fit = (n, r);
          offset_fits = tt;
          length_named = refl;
          numbers_named = refl;
          offset_named = refl;
        };
        behind = avps;
        parts = refl;
      };
      word = record { version = refl; flags = λ h. refl };
      control = refl;
      tunnel = refl;
      session = refl;
      ns = refl;
      nr = refl;
      starts = refl;
      ends = (refl, omega arith, omega arith);
    }

pub control_again : (tunnel session ns nr : ℕ) (avps : List ℕ) → tunnel < 2 ^ 16 → session < 2 ^ 16 → ns < 2 ^ 16 → nr < 2 ^ 16 → length avps ≤ 65523 → Carries (control_bytes tunnel session ns nr avps) (control_header tunnel session ns nr (length avps)) avps
unfolding control_bytes u16_bytes
control_again tunnel session ns nr avps t s n r le =
    record {
      reads = header_again (control_bytes tunnel session ns nr avps) (control_header tunnel session ns nr (length avps)) (control_is tunnel session ns nr avps t s n r le);
      bounds = take_all (12 + length avps - 12) avps (omega arith);
    }

plain_is : (tunnel session : ℕ) (frame : List ℕ) → tunnel < 2 ^ 16 → session < 2 ^ 16 → IsHeader (data_bytes tunnel session None frame) (data_header tunnel session None (2 + length frame))
unfolding data_bytes u16_bytes is_control has_length has_numbers has_offset has_priority version_of
plain_is tunnel session frame t s =
    record {
      fields = record { word = 0x0002; said = None; tunnel = tunnel; session = session; numbers = None; padding = None };
      has = record {
        are = record {
          word = omega arith;
          tunnel = t;
          session = s;
          length_fits = tt;
          numbers_fit = tt;
          offset_fits = tt;
          length_named = refl;
          numbers_named = refl;
          offset_named = refl;
        };
        behind = hdlc_bytes frame;
        parts = refl;
      };
      word = record { version = refl; flags = λ h. absurd (true≢false (sym h)) };
      control = refl;
      tunnel = refl;
      session = refl;
      ns = refl;
      nr = refl;
      starts = refl;
      ends = omega arith;
    }

numbered_is : (tunnel session number : ℕ) (frame : List ℕ) → tunnel < 2 ^ 16 → session < 2 ^ 16 → number < 2 ^ 16 → IsHeader (data_bytes tunnel session (Some number) frame) (data_header tunnel session (Some number) (2 + length frame))
unfolding data_bytes u16_bytes is_control has_length has_numbers has_offset has_priority version_of
numbered_is tunnel session number frame t s n =
    record {
      fields = record { word = 0x0802; said = None; tunnel = tunnel; session = session; numbers = Some (number, 0); padding = None };
      has = record {
        are = record {
          word = omega arith;
          tunnel = t;
          session = s;
          length_fits = tt;
          numbers_fit = (n, omega arith);
          offset_fits = tt;
          length_named = refl;
          numbers_named = refl;
          offset_named = refl;
        };
        behind = hdlc_bytes frame;
        parts = refl;
      };
      word = record { version = refl; flags = λ h. absurd (true≢false (sym h)) };
      control = refl;
      tunnel = refl;
      session = refl;
      ns = refl;
      nr = refl;
      starts = refl;
      ends = omega arith;
    }

pub data_again : (tunnel session : ℕ) (number : Option ℕ) (frame : List ℕ) → tunnel < 2 ^ 16 → session < 2 ^ 16 → FitsWord number → Carries (data_bytes tunnel session number frame) (data_header tunnel session number (2 + length frame)) (hdlc_bytes frame)
unfolding data_bytes u16_bytes
data_again tunnel session None frame t s n =
    record {
      reads = header_again (data_bytes tunnel session None frame) (data_header tunnel session None (2 + length frame)) (plain_is tunnel session frame t s);
      bounds = take_all (6 + (2 + length frame) - 6) (hdlc_bytes frame) (omega arith);
    }
data_again tunnel session (Some number) frame t s n =
    record {
      reads = header_again (data_bytes tunnel session (Some number) frame) (data_header tunnel session (Some number) (2 + length frame)) (numbered_is tunnel session number frame t s n);
      bounds = take_all (10 + (2 + length frame) - 10) (hdlc_bytes frame) (omega arith);
    }
