-- New calls, and calls that are asked for.
use Rattle.std.proofs.Common.{◌≡◌, ◌≢◌, ℕ, true, false, Some, arith}
use Rattle.std.proofs.lemmas.Bool.Decides.{nat_tests}
use Rattle.epoch_machine.specs.Tunnels.{Tunnels, Linked}
use Rattle.epoch_machine.specs.Calls.{Calls, Waits, is_born, is_asked_for, replies}
use Rattle.birth_laws.specs.Births.{CallsHold}

pub is_born_ok : (t : Tunnels) (c : Calls) (x z : ℕ) → CallsHold t c → (c.drawn z ≡ false) → (z ≢ 0) → (t.drawn x ≡ true) → CallsHold t (is_born c x z)
unfolding is_born
is_born_ok t c x z ok p0 p1 p2 =
    record {
      zero = grind (arith, nat_tests);
      nameless = λ k h. let n = ok.nameless k (grind (arith, nat_tests)) in record {
        state = grind (arith, nat_tests);
        remote = n.remote;
        booked = n.booked;
        mate = n.mate;
        made = n.made;
        up = n.up;
        over = n.over;
      };
      tunnel_drawn = grind (arith, nat_tests);
      mate_drawn = grind (arith, nat_tests);
      waits = grind (arith, nat_tests);
      waits_reply = grind (arith, nat_tests);
      waits_connect = grind (arith, nat_tests);
      up_booked = grind (arith, nat_tests);
      booked_up = ok.booked_up;
      up_stays = ok.up_stays;
      up_remote = ok.up_remote;
      up_made = ok.up_made;
      over_gone = grind (arith, nat_tests);
      gone_over = grind (arith, nat_tests);
      remote_mates = ok.remote_mates;
      mate_remote = ok.mate_remote;
      mate_once = ok.mate_once;
      mate_asks = ok.mate_asks;
      mate_birth = grind (arith, nat_tests);
      mate_made = ok.mate_made;
      mate_linked = grind (arith, nat_tests);
      held_call = grind (arith, nat_tests);
      born = grind (arith, nat_tests);
      born_some = grind (arith, nat_tests);
      birth_once = grind (arith, nat_tests);
    }

pub is_asked_for_ok : (t : Tunnels) (c : Calls) (z e : ℕ) → CallsHold t c → (c.state z ≡ Waits) → CallsHold t (is_asked_for c z e)
unfolding is_asked_for
is_asked_for_ok t c z e ok p0 =
    record {
      zero = ok.zero;
      nameless = λ k h. let n = ok.nameless k h in record {
        state = grind (arith, nat_tests);
        remote = n.remote;
        booked = n.booked;
        mate = n.mate;
        made = grind (arith, nat_tests);
        up = n.up;
        over = n.over;
      };
      tunnel_drawn = ok.tunnel_drawn;
      mate_drawn = ok.mate_drawn;
      waits = grind (arith, nat_tests);
      waits_reply = grind (arith, nat_tests);
      waits_connect = grind (arith, nat_tests);
      up_booked = grind (arith, nat_tests);
      booked_up = ok.booked_up;
      up_stays = ok.up_stays;
      up_remote = ok.up_remote;
      up_made = grind (arith, nat_tests);
      over_gone = grind (arith, nat_tests);
      gone_over = grind (arith, nat_tests);
      remote_mates = ok.remote_mates;
      mate_remote = ok.mate_remote;
      mate_once = ok.mate_once;
      mate_asks = ok.mate_asks;
      mate_birth = ok.mate_birth;
      mate_made = grind (arith, nat_tests);
      mate_linked = ok.mate_linked;
      held_call = grind (arith, nat_tests);
      born = ok.born;
      born_some = ok.born_some;
      birth_once = ok.birth_once;
    }

pub replies_ok : (t : Tunnels) (c : Calls) (x e z own : ℕ) → CallsHold t c → (c.drawn z ≡ false) → (z ≢ 0) → (t.drawn x ≡ true) → (own ≢ 0) → (c.drawn own ≡ true) → (c.made own ≡ Some e) → (c.mate own ≡ 0) → ((y : ℕ) → c.mate y ≢ own) → (Linked t.learned (c.tunnel own) x) → CallsHold t (replies c x e z own)
unfolding replies
replies_ok t c x e z own ok p0 p1 p2 p3 p4 p5 p6 p7 p8 =
    record {
      zero = grind (arith, nat_tests);
      nameless = λ k h. let n = ok.nameless k (grind (arith, nat_tests)) in record {
        state = grind (arith, nat_tests);
        remote = grind (arith, nat_tests);
        booked = n.booked;
        mate = grind (arith, nat_tests);
        made = grind (arith, nat_tests);
        up = n.up;
        over = n.over;
      };
      tunnel_drawn = grind (arith, nat_tests);
      mate_drawn = grind (arith, nat_tests);
      waits = grind (arith, nat_tests);
      waits_reply = grind (arith, nat_tests);
      waits_connect = grind (arith, nat_tests);
      up_booked = grind (arith, nat_tests);
      booked_up = ok.booked_up;
      up_stays = ok.up_stays;
      up_remote = grind (arith, nat_tests);
      up_made = grind (arith, nat_tests);
      over_gone = grind (arith, nat_tests);
      gone_over = grind (arith, nat_tests);
      remote_mates = grind (arith, nat_tests);
      mate_remote = grind (arith, nat_tests);
      mate_once = grind (arith, nat_tests);
      mate_asks = grind (arith, nat_tests);
      mate_birth = grind (arith, nat_tests);
      mate_made = grind (arith, nat_tests);
      mate_linked = grind (arith, nat_tests);
      held_call = grind (arith, nat_tests);
      born = grind (arith, nat_tests);
      born_some = grind (arith, nat_tests);
      birth_once = grind (arith, nat_tests);
    }
