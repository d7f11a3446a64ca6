-- A pair that one end holds and the other doesn't is covered, and two ends with nothing outstanding agree.
use Rattle.std.proofs.Common.{◌≡◌, ◌≢◌, ◌⊎◌, inl, inr, ⊎_elim, ℕ, ◌<◌, ◌≤◌, Bool, true, false, length, Option, Some, None, refl, sym, ap, ◌∙◌, subst, arith, List}
use Rattle.epoch_machine.specs.Letters.{Request, Connect, Cdn, Fsr}
use Rattle.epoch_machine.specs.Tunnels.{Tunnels, Linked, Gone, Open}
use Rattle.epoch_machine.specs.Channels.{Channels, Stands}
use Rattle.epoch_machine.specs.Calls.{Calls, CallState, NoCall, Waits, WaitsReply, WaitsConnect, Up}
use Rattle.epoch_machine.specs.Worlds.{World}
use Rattle.epoch_machine.proofs.Splits.{same_or_not}
use Rattle.epoch_laws.proofs.Answering.{step_answers, answers_after}
use Rattle.birth_laws.specs.Births.{CallsHold}
use Rattle.coverage_laws.specs.Coverage.{LivedIn, Mates, ToldOf, HeardOf, DeniedOf, Known, ConnectPut, AnswerTaken, is_young}
use Rattle.epoch_machine.specs.Worlds.{all_rules, empty_world}
use Rattle.epoch_machine.specs.Moves.{Move, Kept, Stops, step, goes_on}
use Rattle.epoch_machine.proofs.Places.{stands_below}
use Rattle.epoch_laws.proofs.Rising.{lower_is_not_open}
use Rattle.coverage_laws.specs.Coverage.{ConnectOutstanding, CdnOutstanding, PairsCovered, IsComplete, AllTaken, HeldByBoth, EndsAgree, CoverageOfRuns, StopsKeepAll}
use Rattle.coverage_laws.proofs.Answers.{one_name}
use Rattle.coverage_laws.proofs.Ends.{drawn_mate}
use Rattle.coverage_laws.proofs.Runs.{Whole, whole_after, whole_step}

pub turned_mates : (c : Calls) (a b : ℕ) → Mates c a b → Mates c b a
turned_mates c a b (inl m) = inr m
turned_mates c a b (inr m) = inl m

-- a call has one mate
one_mate : (t : Tunnels) (c : Calls) (a o b : ℕ) → CallsHold t c → Mates c a b → Mates c o b → a ≡ o
one_mate t c a o b ch (inl m) (inl n) = ch.mate_once a o (λ e. m.1 (sym m.0 ∙ e)) (m.0 ∙ sym n.0)
one_mate t c a o b ch (inl m) (inr n) = absurd (n.1 (sym n.0 ∙ ap c.mate (sym m.0) ∙ ch.mate_asks a (λ e. m.1 (sym m.0 ∙ e))))
one_mate t c a o b ch (inr m) (inl n) = absurd (m.1 (sym m.0 ∙ ap c.mate (sym n.0) ∙ ch.mate_asks o (λ e. n.1 (sym n.0 ∙ e))))
one_mate t c a o b ch (inr m) (inr n) = sym m.0 ∙ n.0

knows_mate : (t : Tunnels) (c : Calls) (o b : ℕ) → CallsHold t c → o ≢ 0 → b ≢ 0 → c.remote o ≡ b → Mates c o b
knows_mate t c o b ch named nb r = ⊎_elim (λ m. inl (m ∙ r, nb)) (λ m. inr (ap c.mate (sym r) ∙ m, named)) (ch.remote_mates o (λ e. nb (sym r ∙ e)))

call_name : (t : Tunnels) (c : Calls) (z : ℕ) → CallsHold t c → c.state z ≡ Up → z ≢ 0
call_name t c z ch up e = let a : NoCall ≡ Up = sym (ch.nameless 0 ch.zero).state ∙ ap c.state (sym e) ∙ up in cc

known_up : (t : Tunnels) (c : Calls) (z : ℕ) → CallsHold t c → c.state z ≡ Up → c.remote z ≢ 0
known_up t c z ch up = ch.up_remote z (ch.booked_up z (ch.up_booked z up))

decided : (o : Option ℕ) (e : ℕ) → (o ≡ Some e) ⊎ (o ≡ Some e → ⊥)
decided None e = inr (λ h. cc)
decided (Some m) e = ⊎_elim (λ same. inl (ap Some same)) (λ other. inr (λ h. other (let k : Some m ≡ Some e = h in cc))) (same_or_not m e)

lived_or_not : (c : Calls) (x e z : ℕ) → LivedIn c x e z ⊎ (LivedIn c x e z → ⊥)
lived_or_not c x e z = ⊎_elim {C = LivedIn c x e z ⊎ (LivedIn c x e z → ⊥)} (λ none. ⊎_elim {C = LivedIn c x e z ⊎ (LivedIn c x e z → ⊥)} (λ m. inl (inr m)) (λ m. inr (λ h. ⊎_elim (λ n. n none) (λ n. m n) h)) (decided (c.made z) e)) (λ some. inl (inl some)) (same_or_not (c.held x e z) 0)

below_or_not : (k n : ℕ) → (k < n) ⊎ (n ≤ k)
below_or_not k n = grind arith

module _ (w : World) (h : Whole w) (x y a b : ℕ) (link : Linked w.tunnels.learned x y) (px : w.tunnels.phase x ≡ Open) (py : w.tunnels.phase y ≡ Open) (mates : Mates w.calls a b) (at : w.calls.tunnel a ≡ x) (up : w.calls.state a ≡ Up) where
  abbrev C : Calls
  C = w.calls

  abbrev H : Channels
  H = w.channels

  abbrev e : ℕ
  e = w.tunnels.entered x

  same_epoch : w.tunnels.entered x ≡ w.tunnels.entered y
  same_epoch = (lower_is_not_open w.tunnels h.sound.epochs).one_epoch x y link px py

  ch : CallsHold w.tunnels C
  ch = h.sound.calls

  not_over : C.over a ≡ true → ⊥
  not_over o = let q : NoCall ≡ Up = sym (ch.over_gone a o).0 ∙ up in cc

  bt : C.tunnel b ≡ y
  bt = ⊎_elim (λ m. (let l = ch.mate_linked a (λ q. m.1 (sym m.0 ∙ q)) in sym (ap C.tunnel m.0) ∙ sym l.back ∙ ap w.tunnels.learned at ∙ link.forth)) (λ m. (let l = ch.mate_linked b (λ q. m.1 (sym m.0 ∙ q)) in sym l.forth ∙ ap w.tunnels.learned (ap C.tunnel m.0 ∙ at) ∙ link.forth)) mates

  made_same : C.made a ≡ C.made b
  made_same = ⊎_elim (λ m. (ch.mate_made a (λ q. m.1 (sym m.0 ∙ q))).0 ∙ ap C.made m.0) (λ m. sym ((ch.mate_made b (λ q. m.1 (sym m.0 ∙ q))).0 ∙ ap C.made m.0)) mates

  bd : C.drawn b ≡ true
  bd = ⊎_elim (λ m. subst (λ (q : ℕ). C.drawn q ≡ true) m.0 (ch.mate_drawn a (λ q. m.1 (sym m.0 ∙ q)))) (λ m. drawn_mate w.tunnels C b ch (λ q. m.1 (sym m.0 ∙ q))) mates

  bn : b ≢ 0
  bn q = let z = ch.zero in let d : C.drawn 0 ≡ true = ap C.drawn (sym q) ∙ bd in cc

  an : a ≢ 0
  an = call_name w.tunnels C a ch up

  ar : C.remote a ≡ b
  ar = one_name w.tunnels C b a ch (turned_mates C a b mates) (known_up w.tunnels C a ch up)

  abbrev Answer : Type 0
  Answer = ConnectOutstanding H x y e b ⊎ (CdnOutstanding H x y e b ⊎ (C.asks x a ≡ true))

  -- y's call is over
  told_of : ToldOf H y e b → Answer
  told_of t = ⊎_elim {C = Answer} (λ below. absurd (not_over (h.queries.cdn_taken x e t.place b t.header a (subst (λ (q : ℕ). Stands H q e t.place (Cdn b t.header)) (sym link.forth) t.stands) below bn at (turned_mates C a b mates)))) (λ above. inr (inl record { place = t.place; header = t.header; outstanding = (t.stands, above) })) (below_or_not t.place (H.taken x e))

  heard_of : HeardOf w.tunnels H C y e b → ⊥
  heard_of t = ⊎_elim refused named_call (same_or_not t.own 0)
    where
      there : Stands H x e t.place (Cdn t.own t.header)
      there = subst (λ (q : ℕ). Stands H q e t.place (Cdn t.own t.header)) link.back t.stands

      refused : t.own ≡ 0 → ⊥
      refused z = ⊎_elim (λ q. unmated q) (λ q. q.1 z) t.names
        where
          unmated : t.header ≡ b → ⊥
          unmated q =
              let rf = h.sound.meant.refused x e t.place b (subst (λ (i : ℕ). Stands H x e t.place (Cdn i b)) z (subst (λ (i : ℕ). Stands H x e t.place (Cdn t.own i)) q there)) in
              ⊎_elim (λ m. rf.unanswered a m.0) (λ m. m.1 (sym m.0 ∙ (h.sound.meant.means rf.sender e rf.request.place (Request b) rf.request.stands).4)) mates

      named_call : (t.own ≡ 0 → ⊥) → ⊥
      named_call n = ⊎_elim (λ q. n q) (λ q. not_over (subst (λ (i : ℕ). C.over i ≡ true) (sym (is_a q.4)) q.3)) (h.sound.meant.means x e t.place (Cdn t.own t.header) there)
        where
          is_a : (t.header ≡ 0) ⊎ (C.remote t.own ≡ t.header) → a ≡ t.own
          is_a i = ⊎_elim (λ q. by_header q i) (λ q. sym (one_name w.tunnels C a b ch mates (λ j. n (sym q.2 ∙ j))) ∙ q.2) t.names
            where
              by_header : t.header ≡ b → (t.header ≡ 0) ⊎ (C.remote t.own ≡ t.header) → a ≡ t.own
              by_header q (inl z) = absurd (bn (sym q ∙ z))
              by_header q (inr v) = one_mate w.tunnels C a t.own b ch mates (knows_mate w.tunnels C t.own b ch n bn (v ∙ q))

  denied_of : DeniedOf w.tunnels H y e b → ⊥
  denied_of t =
      let there : Stands H x e t.place (Fsr t.own b false) = subst (λ (q : ℕ). Stands H q e t.place (Fsr t.own b false)) link.back t.stands in
      let m = h.sound.meant.means x e t.place (Fsr t.own b false) there in
      let held : C.held y e b ≡ t.own = ap (λ (q : ℕ). C.held q e b) (sym link.forth) ∙ m.2 in
      let remote : C.remote b ≡ t.own = sym (ch.held_call y e b (λ q. m.0 (sym held ∙ q))).1 ∙ held in
      let is_a : C.remote b ≡ a = one_name w.tunnels C a b ch mates (λ q. m.0 (sym remote ∙ q)) in
      not_over (subst (λ (q : ℕ). C.over q ≡ true) (sym remote ∙ is_a) (h.queries.not_here x e t.place t.own b there))

  open_b : w.tunnels.phase (C.tunnel b) ≡ Open
  open_b = ap w.tunnels.phase bt ∙ py

  over_b : LivedIn C y e b → C.over b ≡ true → Answer
  over_b l o = ⊎_elim {C = Answer} told_of (λ q. ⊎_elim {C = Answer} (λ i. absurd (heard_of i)) (λ i. absurd (denied_of i)) q) known_here
    where
      known_at : Known w.tunnels H C (C.tunnel b) (w.tunnels.entered (C.tunnel b)) b
      known_at = h.queries.no_silent_end b open_b (subst (λ (q : ℕ). LivedIn C q (w.tunnels.entered q) b) (sym bt) (subst (λ (q : ℕ). LivedIn C y q b) same_epoch l)) o

      known_here : Known w.tunnels H C y e b
      known_here = subst (λ (q : ℕ). Known w.tunnels H C y q b) (sym same_epoch) (subst (λ (q : ℕ). Known w.tunnels H C q (w.tunnels.entered q) b) bt known_at)

  -- y's call isn't over, and isn't established
  waits_b : (C.state b ≡ Up → ⊥) → (C.over b ≡ true → ⊥) → LivedIn C y e b → Answer
  waits_b not_up live l = by (C.state b) refl
    where
      none : C.state b ≡ NoCall → (q : Bool) → C.booked b ≡ q → ⊥
      none i true q = not_up (h.states.booked_lives b q (λ g. (let v : Open ≡ Gone = sym open_b ∙ g in cc)))
      none i false q = live (ch.gone_over b bd i q)

      unmade : C.made b ≡ None → LivedIn C y e b → ⊥
      unmade m (inl n) = (ch.held_call y e b n).3 m
      unmade m (inr n) = let v : None ≡ Some e = sym m ∙ n in cc

      reply : C.state b ≡ WaitsReply → ⊥
      reply i = let q = ch.waits_reply b i in ⊎_elim (λ m. ch.up_remote b (subst (λ (v : ℕ). C.up v ≡ true) m.0 (h.states.up_first a (λ j. m.1 (sym m.0 ∙ j)) (ch.booked_up a (ch.up_booked a up)))) q.0) (λ m. m.1 (sym m.0 ∙ q.1)) mates

      connect : C.state b ≡ WaitsConnect → Answer
      connect i = ⊎_elim {C = Answer} (λ below. absurd (taken below)) (λ above. inl record { place = put.place; outstanding = (there, above) }) (below_or_not put.place (H.taken y e))
        where
          asks_a : C.mate a ≡ 0
          asks_a = ⊎_elim (λ m. absurd (ch.waits_connect b i (ap C.mate (sym m.0) ∙ ch.mate_asks a (λ j. m.1 (sym m.0 ∙ j))))) (λ m. ap C.mate (sym m.0) ∙ ch.mate_asks b (λ j. m.1 (sym m.0 ∙ j))) mates

          made_a : C.made a ≡ Some (w.tunnels.entered (C.tunnel a))
          made_a = made_same ∙ h.states.young b open_b (ap is_young i) ∙ ap Some (ap w.tunnels.entered bt ∙ sym same_epoch ∙ ap w.tunnels.entered (sym at))

          put : ConnectPut H (C.tunnel a) (w.tunnels.entered (C.tunnel a)) (C.remote a)
          put = h.queries.connected a (ap w.tunnels.phase at ∙ px) up asks_a made_a

          there : Stands H x e put.place (Connect b)
          there = subst (λ (q : ℕ). Stands H q (w.tunnels.entered q) put.place (Connect b)) at (subst (λ (q : ℕ). Stands H (C.tunnel a) (w.tunnels.entered (C.tunnel a)) put.place (Connect q)) ar put.stands)

          booked : (C.booked b ≡ true) ⊎ (C.over b ≡ true) → ⊥
          booked (inl q) = not_up (h.states.booked_lives b q (λ g. (let v : Open ≡ Gone = sym open_b ∙ g in cc)))
          booked (inr q) = live q

          taken : put.place < H.taken y e → ⊥
          taken below = ⊎_elim (λ q. booked (ch.up_stays b q)) (λ q. live q) (h.queries.connect_taken y e put.place b (subst (λ (q : ℕ). Stands H q e put.place (Connect b)) (sym link.back) there) below)

      by : (q : CallState) → C.state b ≡ q → Answer
      by NoCall i = absurd (none i (C.booked b) refl)
      by Waits i = absurd (unmade (ch.waits b i).0 l)
      by WaitsReply i = absurd (reply i)
      by WaitsConnect i = connect i
      by Up i = absurd (not_up i)

  -- y's call didn't live in this epoch
  not_lived : (LivedIn C y e b → ⊥) → Answer
  not_lived n = ⊎_elim {C = Answer} (λ q. inr (inr q)) (λ q. absurd (answered q)) (h.queries.asked x a px held)
    where
      held : C.held x e a ≢ 0
      held = ⊎_elim (λ q. subst (λ (i : ℕ). C.held i (w.tunnels.entered i) a ≢ 0) at q) (λ q. absurd (n (inr (sym made_same ∙ q ∙ ap Some (ap w.tunnels.entered at))))) (h.states.up_lived a (ap w.tunnels.phase at ∙ px) up)

      is_b : C.held x e a ≡ b
      is_b = (ch.held_call x e a held).1 ∙ ar

      answered : AnswerTaken w.tunnels H x e (C.held x e a) a → ⊥
      answered q = by q.here (subst (λ (i : ℕ). Stands H i e q.place (Fsr b a q.here)) link.forth (subst (λ (i : ℕ). Stands H (w.tunnels.learned x) e q.place (Fsr i a q.here)) is_b q.stands))
        where
          by : (i : Bool) → Stands H y e q.place (Fsr b a i) → ⊥
          by true st = n (h.queries.here y e q.place b a st)
          by false st = not_over (h.queries.denial_taken x e q.place b a (subst (λ (i : ℕ). Stands H i e q.place (Fsr b a false)) (sym link.forth) st) q.taken)

  pub covered : (C.state b ≡ Up → ⊥) → Answer
  covered not_up = ⊎_elim {C = Answer} (λ l. lived l (C.over b) refl) not_lived (lived_or_not C y e b)
    where
      lived : LivedIn C y e b → (q : Bool) → C.over b ≡ q → Answer
      lived l true o = over_b l o
      lived l false o = waits_b not_up (λ q. (let v : true ≡ false = sym q ∙ o in cc)) l

up_or_not : (q : CallState) → (q ≡ Up) ⊎ (q ≡ Up → ⊥)
up_or_not Up = inl refl
up_or_not q = inr (λ h. cc)

pub pairs_covered : (w : World) → Whole w → PairsCovered w
pairs_covered w h = record {
  one_epoch = (lower_is_not_open w.tunnels h.sound.epochs).one_epoch;
  covered = λ x y a b link px py mates at up not_up. covered w h x y a b link px py mates at up not_up;
}

pub ends_agree : (w : World) → Whole w → EndsAgree w
ends_agree w h = record { agree = agree }
  where
    agree : (x y a : ℕ) → Linked w.tunnels.learned x y → w.tunnels.phase x ≡ Open → w.tunnels.phase y ≡ Open → IsComplete w x → IsComplete w y → AllTaken w x y → AllTaken w y x → w.calls.tunnel a ≡ x → w.calls.state a ≡ Up → HeldByBoth w y a
    agree x y a link px py cx cy tx ty at up = by (up_or_not (w.calls.state b))
      where
        b : ℕ
        b = w.calls.remote a

        bn : w.calls.remote a ≢ 0
        bn = known_up w.tunnels w.calls a h.sound.calls up

        mates : Mates w.calls a (w.calls.remote a)
        mates = knows_mate w.tunnels w.calls a (w.calls.remote a) h.sound.calls (call_name w.tunnels w.calls a h.sound.calls up) bn refl

        birth : Mates w.calls a (w.calls.remote a) → w.calls.birth (w.calls.remote a) ≡ w.calls.birth a
        birth (inl m) = sym (h.sound.calls.mate_birth a (λ q. m.1 (sym m.0 ∙ q)) ∙ ap w.calls.birth m.0)
        birth (inr m) = h.sound.calls.mate_birth (w.calls.remote a) (λ q. m.1 (sym m.0 ∙ q)) ∙ ap w.calls.birth m.0

        epoch : w.tunnels.entered x ≡ w.tunnels.entered y
        epoch = (lower_is_not_open w.tunnels h.sound.epochs).one_epoch x y link px py

        gap : ConnectOutstanding w.channels x y (w.tunnels.entered x) (w.calls.remote a) ⊎ (CdnOutstanding w.channels x y (w.tunnels.entered x) (w.calls.remote a) ⊎ (w.calls.asks x a ≡ true)) → ⊥
        gap (inl q) = let i = stands_below w.channels x (w.tunnels.entered x) q.place (Connect (w.calls.remote a)) q.outstanding.0 in let j = q.outstanding.1 in omega (arith, i, j, tx)
        gap (inr (inl q)) = let i = stands_below w.channels y (w.tunnels.entered x) q.place (Cdn (w.calls.remote a) q.header) q.outstanding.0 in let j = q.outstanding.1 in let t : length (w.channels.sent y (w.tunnels.entered x)) ≤ w.channels.taken x (w.tunnels.entered x) = subst (λ (v : ℕ). length (w.channels.sent y v) ≤ w.channels.taken x v) (sym epoch) ty in omega (arith, i, j, t)
        gap (inr (inr q)) = let i : true ≡ false = sym q ∙ cx a in cc

        by : (w.calls.state b ≡ Up) ⊎ (w.calls.state b ≡ Up → ⊥) → HeldByBoth w y a
        by (inr n) = absurd (gap (covered w h x y a (w.calls.remote a) link px py mates at up n))
        by (inl q) = record {
          other = w.calls.remote a;
          known = refl;
          knows = one_name w.tunnels w.calls a (w.calls.remote a) h.sound.calls mates (known_up w.tunnels w.calls (w.calls.remote a) h.sound.calls q);
          tunnel = bt w h x y a (w.calls.remote a) link px py mates at up;
          established = q;
          birth = birth mates;
        }

pub of_runs : CoverageOfRuns
of_runs = record {
  states = λ ms. (whole_after ms).states;
  queries = λ ms. (whole_after ms).queries;
  pairs_covered = λ ms. pairs_covered (goes_on all_rules empty_world ms) (whole_after ms);
  ends_agree = λ ms. ends_agree (goes_on all_rules empty_world ms) (whole_after ms);
}

after_stop : (ms : List Move) (n : ℕ) (ks : List Kept) → Whole (step all_rules (goes_on all_rules empty_world ms) (Stops n ks))
after_stop ms n ks = whole_step all_rules (goes_on all_rules empty_world ms) (Stops n ks) record { reads = refl; truly = refl; asks = refl; tells = refl; freezes = refl } (whole_after ms)

pub stops_keep_all : StopsKeepAll
stops_keep_all = record {
  epochs = λ ms n ks. (after_stop ms n ks).sound.epochs;
  answers = λ ms n ks. step_answers all_rules (goes_on all_rules empty_world ms) (Stops n ks) (whole_after ms).sound.epochs (answers_after all_rules ms);
  letters = λ ms n ks. (after_stop ms n ks).sound.given;
  births = λ ms n ks. (after_stop ms n ks).sound.calls;
  meanings = λ ms n ks. (after_stop ms n ks).sound.meant;
  states = λ ms n ks. (after_stop ms n ks).states;
  queries = λ ms n ks. (after_stop ms n ks).queries;
  pairs_covered = λ ms n ks. pairs_covered (step all_rules (goes_on all_rules empty_world ms) (Stops n ks)) (after_stop ms n ks);
  ends_agree = λ ms n ks. ends_agree (step all_rules (goes_on all_rules empty_world ms) (Stops n ks)) (after_stop ms n ks);
}
