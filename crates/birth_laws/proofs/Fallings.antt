-- Calls that are lost, after their records were written.
use Rattle.std.proofs.Common.{◌≡◌, ◌≢◌, ℕ, Bool, true, arith}
use Rattle.std.proofs.lemmas.Bool.Decides.{nat_tests}
use Rattle.epoch_machine.specs.Tunnels.{Tunnels}
use Rattle.epoch_machine.specs.Calls.{Calls, ends, loses, keeps_call}
use Rattle.birth_laws.proofs.Means.{CallsGrow}
use Rattle.birth_laws.specs.Births.{CallsHold}

pub ends_lost_ok : (t : Tunnels) (c : Calls) (kind k1 : ℕ → Bool) → CallsHold t (loses c kind) → CallsHold t (loses (ends c k1) kind)
unfolding loses ends
ends_lost_ok t c kind k1 ok =
    record {
      zero = ok.zero;
      nameless = λ k h. let n = ok.nameless k h in record {
        state = grind (arith, nat_tests);
        remote = n.remote;
        booked = grind (arith, nat_tests);
        mate = n.mate;
        made = n.made;
        up = n.up;
        over = grind (arith, nat_tests);
      };
      tunnel_drawn = ok.tunnel_drawn;
      mate_drawn = ok.mate_drawn;
      waits = grind (arith, nat_tests);
      waits_reply = grind (arith, nat_tests);
      waits_connect = grind (arith, nat_tests);
      up_booked = grind (arith, nat_tests);
      booked_up = grind (arith, nat_tests);
      up_stays = grind (arith, nat_tests);
      up_remote = ok.up_remote;
      up_made = ok.up_made;
      over_gone = grind (arith, nat_tests);
      gone_over = grind (arith, nat_tests);
      remote_mates = ok.remote_mates;
      mate_remote = ok.mate_remote;
      mate_once = ok.mate_once;
      mate_asks = ok.mate_asks;
      mate_birth = ok.mate_birth;
      mate_made = ok.mate_made;
      mate_linked = ok.mate_linked;
      held_call = ok.held_call;
      born = ok.born;
      born_some = ok.born_some;
      birth_once = ok.birth_once;
    }

pub ends_lost_grow : (b c : Calls) (kind k1 : ℕ → Bool) → CallsGrow b (loses c kind) → CallsGrow b (loses (ends c k1) kind)
unfolding loses ends
ends_lost_grow b c kind k1 g = record { drawn = g.drawn; tunnel = g.tunnel; mate = g.mate; birth = g.birth; made = g.made; remote = g.remote; up = g.up; over = grind (arith, nat_tests); held = g.held }

pub keeps_call_grow : (b c : Calls) (kind : ℕ → Bool) (z own : ℕ) → CallsGrow b (loses c kind) → (b.over z ≡ true → ⊥) → (b.remote z ≢ 0 → b.remote z ≡ own) → CallsGrow b (loses (keeps_call c z own) kind)
unfolding loses keeps_call
keeps_call_grow b c kind z own g not_over known = record { drawn = g.drawn; tunnel = g.tunnel; mate = g.mate; birth = g.birth; made = g.made; remote = grind (arith, nat_tests); up = grind (arith, nat_tests); over = grind (arith, nat_tests); held = g.held }
