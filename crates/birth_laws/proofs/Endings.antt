-- Calls that end, are lost, or come back.
use Rattle.std.proofs.Common.{ℕ, Bool, arith}
use Rattle.std.proofs.lemmas.Bool.Decides.{nat_tests}
use Rattle.epoch_machine.specs.Tunnels.{Tunnels}
use Rattle.epoch_machine.specs.Calls.{Calls, ends, loses, comes_back}
use Rattle.birth_laws.specs.Births.{CallsHold}

pub ends_ok : (t : Tunnels) (c : Calls) (kind : ℕ → Bool) → CallsHold t c → CallsHold t (ends c kind)
unfolding ends
ends_ok t c kind ok =
    record {
      zero = ok.zero;
      nameless = λ k h. let n = ok.nameless k h in record {
        state = grind (arith, nat_tests);
        remote = n.remote;
        booked = grind (arith, nat_tests);
        mate = n.mate;
        made = n.made;
        up = n.up;
        over = grind (arith, nat_tests);
      };
      tunnel_drawn = ok.tunnel_drawn;
      mate_drawn = ok.mate_drawn;
      waits = grind (arith, nat_tests);
      waits_reply = grind (arith, nat_tests);
      waits_connect = grind (arith, nat_tests);
      up_booked = grind (arith, nat_tests);
      booked_up = grind (arith, nat_tests);
      up_stays = grind (arith, nat_tests);
      up_remote = ok.up_remote;
      up_made = ok.up_made;
      over_gone = grind (arith, nat_tests);
      gone_over = grind (arith, nat_tests);
      remote_mates = ok.remote_mates;
      mate_remote = ok.mate_remote;
      mate_once = ok.mate_once;
      mate_asks = ok.mate_asks;
      mate_birth = ok.mate_birth;
      mate_made = ok.mate_made;
      mate_linked = ok.mate_linked;
      held_call = ok.held_call;
      born = ok.born;
      born_some = ok.born_some;
      birth_once = ok.birth_once;
    }

pub loses_ok : (t : Tunnels) (c : Calls) (kind : ℕ → Bool) → CallsHold t c → CallsHold t (loses c kind)
unfolding loses
loses_ok t c kind ok =
    record {
      zero = ok.zero;
      nameless = λ k h. let n = ok.nameless k h in record {
        state = grind (arith, nat_tests);
        remote = n.remote;
        booked = n.booked;
        mate = n.mate;
        made = n.made;
        up = n.up;
        over = grind (arith, nat_tests);
      };
      tunnel_drawn = ok.tunnel_drawn;
      mate_drawn = ok.mate_drawn;
      waits = grind (arith, nat_tests);
      waits_reply = grind (arith, nat_tests);
      waits_connect = grind (arith, nat_tests);
      up_booked = grind (arith, nat_tests);
      booked_up = ok.booked_up;
      up_stays = grind (arith, nat_tests);
      up_remote = ok.up_remote;
      up_made = ok.up_made;
      over_gone = grind (arith, nat_tests);
      gone_over = grind (arith, nat_tests);
      remote_mates = ok.remote_mates;
      mate_remote = ok.mate_remote;
      mate_once = ok.mate_once;
      mate_asks = ok.mate_asks;
      mate_birth = ok.mate_birth;
      mate_made = ok.mate_made;
      mate_linked = ok.mate_linked;
      held_call = ok.held_call;
      born = ok.born;
      born_some = ok.born_some;
      birth_once = ok.birth_once;
    }

pub comes_back_ok : (t : Tunnels) (c : Calls) (x : ℕ) → CallsHold t c → CallsHold t (comes_back c x)
unfolding comes_back
comes_back_ok t c x ok =
    record {
      zero = ok.zero;
      nameless = λ k h. let n = ok.nameless k h in record {
        state = grind (arith, nat_tests);
        remote = n.remote;
        booked = n.booked;
        mate = n.mate;
        made = n.made;
        up = n.up;
        over = n.over;
      };
      tunnel_drawn = ok.tunnel_drawn;
      mate_drawn = ok.mate_drawn;
      waits = grind (arith, nat_tests);
      waits_reply = grind (arith, nat_tests);
      waits_connect = grind (arith, nat_tests);
      up_booked = grind (arith, nat_tests);
      booked_up = ok.booked_up;
      up_stays = ok.up_stays;
      up_remote = ok.up_remote;
      up_made = ok.up_made;
      over_gone = grind (arith, nat_tests);
      gone_over = grind (arith, nat_tests);
      remote_mates = ok.remote_mates;
      mate_remote = ok.mate_remote;
      mate_once = ok.mate_once;
      mate_asks = ok.mate_asks;
      mate_birth = ok.mate_birth;
      mate_made = ok.mate_made;
      mate_linked = ok.mate_linked;
      held_call = ok.held_call;
      born = ok.born;
      born_some = ok.born_some;
      birth_once = ok.birth_once;
    }
