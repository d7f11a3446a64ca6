-- Calls that are established, and what a reset and an answer change.
use Rattle.std.proofs.Common.{◌≡◌, ◌≢◌, ◌⊎◌, inl, inr, ⊎_elim, ℕ, ◌≤◌, Bool, true, false, cond, eqb, ◌&&◌, None, refl, sym, ◌∙◌, arith}
use Rattle.std.proofs.lemmas.Bool.{eqb-true}
use Rattle.std.proofs.lemmas.Bool.Decides.{nat_tests}
use Rattle.epoch_machine.specs.Tunnels.{Tunnels}
use Rattle.epoch_machine.specs.Calls.{Calls, CallState, NoCall, Waits, WaitsReply, WaitsConnect, Up, lives, is_up, loses, is_first_up, is_second_up, keeps_call, resets, is_told}
use Rattle.epoch_machine.proofs.Splits.{at_name}
use Rattle.birth_laws.specs.Births.{CallsHold}

-- what a reset finds held
held_now : (t : Tunnels) (c : Calls) (x y e f z : ℕ) → CallsHold t c → e ≤ t.entered x → y ≡ x → f ≡ e → cond (eqb (c.tunnel z) x && is_up (c.state z)) (c.remote z) 0 ≢ 0 → (c.tunnel z ≡ y) × (cond (eqb (c.tunnel z) x && is_up (c.state z)) (c.remote z) 0 ≡ c.remote z) × (f ≤ t.entered y) × (c.made z ≢ None)
held_now t c x y e f z ok below same here h = by (eqb (c.tunnel z) x) refl (c.state z) refl h
  where
    by : (b : Bool) → eqb (c.tunnel z) x ≡ b → (s : CallState) → c.state z ≡ s → cond (b && is_up s) (c.remote z) 0 ≢ 0 → (c.tunnel z ≡ y) × (cond (b && is_up s) (c.remote z) 0 ≡ c.remote z) × (f ≤ t.entered y) × (c.made z ≢ None)
    by true a Up s n = (eqb-true (c.tunnel z) x a ∙ sym same, refl, rw (same, here) below, ok.up_made z (ok.booked_up z (ok.up_booked z s)))
    by true a NoCall s n = absurd (n refl)
    by true a Waits s n = absurd (n refl)
    by true a WaitsReply s n = absurd (n refl)
    by true a WaitsConnect s n = absurd (n refl)
    by false a s e n = absurd (n refl)

-- a call knows one name of the other end
same_remote : (t : Tunnels) (c : Calls) (kind : ℕ → Bool) (z own : ℕ) → CallsHold t (loses c kind) → z ≢ 0 → (((c.mate own ≡ z) × (own ≢ 0) × (c.mate z ≡ 0)) ⊎ ((c.remote z ≡ own) × (c.mate z ≢ 0))) → c.remote z ≢ 0 → c.remote z ≡ own
unfolding loses
same_remote t c kind z own ok n (inr h) r = h.0
same_remote t c kind z own ok n (inl h) r = ⊎_elim (λ a. absurd (r (sym a ∙ h.2))) (λ a. ok.mate_once (c.remote z) own (λ e. n (sym a ∙ e)) (a ∙ sym h.0)) (ok.remote_mates z r)

pub is_first_up_ok : (t : Tunnels) (c : Calls) (z own : ℕ) → CallsHold t c → (c.state z ≡ WaitsReply) → (c.mate own ≡ z) → (own ≢ 0) → (z ≢ 0) → CallsHold t (is_first_up c z own)
unfolding is_first_up
is_first_up_ok t c z own ok p0 p1 p2 p3 =
    record {
      zero = ok.zero;
      nameless = λ k h. let n = ok.nameless k h in record {
        state = grind (arith, nat_tests);
        remote = grind (arith, nat_tests);
        booked = grind (arith, nat_tests);
        mate = n.mate;
        made = n.made;
        up = grind (arith, nat_tests);
        over = n.over;
      };
      tunnel_drawn = ok.tunnel_drawn;
      mate_drawn = ok.mate_drawn;
      waits = grind (arith, nat_tests);
      waits_reply = grind (arith, nat_tests);
      waits_connect = grind (arith, nat_tests);
      up_booked = grind (arith, nat_tests);
      booked_up = grind (arith, nat_tests);
      up_stays = grind (arith, nat_tests);
      up_remote = grind (arith, nat_tests);
      up_made = grind (arith, nat_tests);
      over_gone = grind (arith, nat_tests);
      gone_over = grind (arith, nat_tests);
      remote_mates = grind (arith, nat_tests);
      mate_remote = grind (arith, nat_tests);
      mate_once = ok.mate_once;
      mate_asks = ok.mate_asks;
      mate_birth = ok.mate_birth;
      mate_made = ok.mate_made;
      mate_linked = ok.mate_linked;
      held_call = grind (arith, nat_tests);
      born = ok.born;
      born_some = ok.born_some;
      birth_once = ok.birth_once;
    }

pub is_second_up_ok : (t : Tunnels) (c : Calls) (z : ℕ) → CallsHold t c → (c.state z ≡ WaitsConnect) → CallsHold t (is_second_up c z)
unfolding is_second_up
is_second_up_ok t c z ok p0 =
    record {
      zero = ok.zero;
      nameless = λ k h. let n = ok.nameless k h in record {
        state = grind (arith, nat_tests);
        remote = n.remote;
        booked = grind (arith, nat_tests);
        mate = n.mate;
        made = n.made;
        up = grind (arith, nat_tests);
        over = n.over;
      };
      tunnel_drawn = ok.tunnel_drawn;
      mate_drawn = ok.mate_drawn;
      waits = grind (arith, nat_tests);
      waits_reply = grind (arith, nat_tests);
      waits_connect = grind (arith, nat_tests);
      up_booked = grind (arith, nat_tests);
      booked_up = grind (arith, nat_tests);
      up_stays = grind (arith, nat_tests);
      up_remote = grind (arith, nat_tests);
      up_made = grind (arith, nat_tests);
      over_gone = grind (arith, nat_tests);
      gone_over = grind (arith, nat_tests);
      remote_mates = ok.remote_mates;
      mate_remote = ok.mate_remote;
      mate_once = ok.mate_once;
      mate_asks = ok.mate_asks;
      mate_birth = ok.mate_birth;
      mate_made = ok.mate_made;
      mate_linked = ok.mate_linked;
      held_call = ok.held_call;
      born = ok.born;
      born_some = ok.born_some;
      birth_once = ok.birth_once;
    }

pub resets_ok : (t : Tunnels) (c : Calls) (asked : Bool) (x e : ℕ) → CallsHold t c → (e ≤ t.entered x) → CallsHold t (resets asked c x e)
unfolding resets
resets_ok t c asked x e ok p0 =
    let now : ℕ → ℕ = λ z. cond (eqb (c.tunnel z) x && is_up (c.state z)) (c.remote z) 0 in
    record {
      zero = ok.zero;
      nameless = λ k h. let n = ok.nameless k h in record {
        state = n.state;
        remote = n.remote;
        booked = n.booked;
        mate = n.mate;
        made = n.made;
        up = n.up;
        over = n.over;
      };
      tunnel_drawn = ok.tunnel_drawn;
      mate_drawn = ok.mate_drawn;
      waits = ok.waits;
      waits_reply = ok.waits_reply;
      waits_connect = ok.waits_connect;
      up_booked = ok.up_booked;
      booked_up = ok.booked_up;
      up_stays = ok.up_stays;
      up_remote = ok.up_remote;
      up_made = ok.up_made;
      over_gone = ok.over_gone;
      gone_over = ok.gone_over;
      remote_mates = ok.remote_mates;
      mate_remote = ok.mate_remote;
      mate_once = ok.mate_once;
      mate_asks = ok.mate_asks;
      mate_birth = ok.mate_birth;
      mate_made = ok.mate_made;
      mate_linked = ok.mate_linked;
      held_call = λ y f z. at_name c.held x (λ g. cond (eqb g e) now (c.held x g)) y (λ h. h f z ≢ 0 → (c.tunnel z ≡ y) × (h f z ≡ c.remote z) × (f ≤ t.entered y) × (c.made z ≢ None)) (λ same. at_name (c.held x) e now f (λ h. h z ≢ 0 → (c.tunnel z ≡ y) × (h z ≡ c.remote z) × (f ≤ t.entered y) × (c.made z ≢ None)) (λ here h. held_now t c x y e f z ok p0 same here h) (λ other h. rw same (ok.held_call x f z h))) (λ other h. ok.held_call y f z h);
      born = ok.born;
      born_some = ok.born_some;
      birth_once = ok.birth_once;
    }

pub is_told_ok : (t : Tunnels) (c : Calls) (x z : ℕ) → CallsHold t c → CallsHold t (is_told c x z)
unfolding is_told
is_told_ok t c x z ok =
    record {
      zero = ok.zero;
      nameless = λ k h. let n = ok.nameless k h in record {
        state = n.state;
        remote = n.remote;
        booked = n.booked;
        mate = n.mate;
        made = n.made;
        up = n.up;
        over = n.over;
      };
      tunnel_drawn = ok.tunnel_drawn;
      mate_drawn = ok.mate_drawn;
      waits = ok.waits;
      waits_reply = ok.waits_reply;
      waits_connect = ok.waits_connect;
      up_booked = ok.up_booked;
      booked_up = ok.booked_up;
      up_stays = ok.up_stays;
      up_remote = ok.up_remote;
      up_made = ok.up_made;
      over_gone = ok.over_gone;
      gone_over = ok.gone_over;
      remote_mates = ok.remote_mates;
      mate_remote = ok.mate_remote;
      mate_once = ok.mate_once;
      mate_asks = ok.mate_asks;
      mate_birth = ok.mate_birth;
      mate_made = ok.mate_made;
      mate_linked = ok.mate_linked;
      held_call = ok.held_call;
      born = ok.born;
      born_some = ok.born_some;
      birth_once = ok.birth_once;
    }

pub keeps_call_ok : (t : Tunnels) (c : Calls) (kind : ℕ → Bool) (z own : ℕ) → CallsHold t (loses c kind) → (kind z ≡ true) → (lives (c.state z) ≡ true) → (c.over z ≡ false) → (z ≢ 0) → (c.made z ≢ None) → (((c.mate own ≡ z) × (own ≢ 0) × (c.mate z ≡ 0)) ⊎ ((c.remote z ≡ own) × (c.mate z ≢ 0))) → CallsHold t (loses (keeps_call c z own) kind)
unfolding loses keeps_call
keeps_call_ok t c kind z own ok p0 p1 p2 p3 p4 p5 =
    record {
      zero = grind (arith, nat_tests);
      nameless = λ k h. let n = ok.nameless k (grind (arith, nat_tests)) in record {
        state = grind (arith, nat_tests);
        remote = grind (arith, nat_tests);
        booked = grind (arith, nat_tests);
        mate = grind (arith, nat_tests);
        made = grind (arith, nat_tests);
        up = grind (arith, nat_tests);
        over = grind (arith, nat_tests);
      };
      tunnel_drawn = grind (arith, nat_tests);
      mate_drawn = grind (arith, nat_tests);
      waits = grind (arith, nat_tests);
      waits_reply = grind (arith, nat_tests);
      waits_connect = grind (arith, nat_tests);
      up_booked = grind (arith, nat_tests);
      booked_up = grind (arith, nat_tests);
      up_stays = grind (arith, nat_tests);
      up_remote = grind (arith, nat_tests);
      up_made = grind (arith, nat_tests);
      over_gone = grind (arith, nat_tests);
      gone_over = grind (arith, nat_tests);
      remote_mates = grind (arith, nat_tests);
      mate_remote = grind (arith, nat_tests);
      mate_once = grind (arith, nat_tests);
      mate_asks = grind (arith, nat_tests);
      mate_birth = grind (arith, nat_tests);
      mate_made = grind (arith, nat_tests);
      mate_linked = grind (arith, nat_tests);
      held_call = λ x e y h. let a = ok.held_call x e y h in let b = same_remote t c kind z own ok p3 p5 in grind (arith, nat_tests);
      born = grind (arith, nat_tests);
      born_some = grind (arith, nat_tests);
      birth_once = grind (arith, nat_tests);
    }
