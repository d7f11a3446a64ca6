-- What crates above cite of each call of a link: when frames of the network pass, for what a call ends, and when the timer runs out.
use Rattle.std.proofs.Common.{◌≡◌, ℕ, ◌+◌, ◌-◌, Bool, true, false, not, ◌&&◌, ◌||◌, if◌then◌else◌, Some, None, unwrap_or, refl, sym, ap, arith}
use Rattle.std.specs.Prelude.{nat_le}
use Rattle.std.proofs.lemmas.Bool.Decides.{nat_tests}
use Rattle.wire_base.specs.declared.cause.Cause.{Cause}
use Rattle.wire_base.specs.declared.cause.Cause.TheVariants as cause
use Rattle.lcp_end.specs.Steps.{is_timed}
use Rattle.call_link.specs.declared.env.LinkEnv.{LinkEnv}
use Rattle.call_link.specs.Link.{Link, has_come}
use Rattle.call_link.specs.Turns.{LinkCall, lcp_turn, end_by, linked}
use Rattle.call_link.specs.Laws.{TellsOpening, EachTellsOpening, EachTellsDue}
use Rattle.call_link.specs.Calling.{by_called}

-- ---- when frames of the network pass

-- frames of the network passed or didn't, and LCP comes up or doesn't
told_by : (was up : Bool) → (up && not was) ≡ (not was && (was || up))
told_by true true = refl
told_by true false = refl
told_by false true = refl
told_by false false = refl

never : (was : Bool) → false ≡ (not was && was)
never true = refl
never false = refl

stays_by : (was up : Bool) → was ≡ true → (was || up) ≡ true
stays_by true up h = refl
stays_by false up h = cc

pub each_tells_opening : EachTellsOpening
each_tells_opening e c l =
    let up = (lcp_turn e c l.lcp).out.up in
    by_called (λ t. TellsOpening l t) e c l
    (λ h. record { told = told_by l.network up; stays = stays_by l.network up })
    (λ h. record { told = never l.network; stays = λ w. w })

-- ---- for what a call ends

pub ended_for : (finished : Bool) (why : Cause) → end_by finished ≡ Some why → why ≡ cause.Lcp
ended_for true why h = ap (λ o. unwrap_or o cause.Lcp) (sym h)
ended_for false why h = cc

pub ends_for : (e : LinkEnv) (c : LinkCall) (l : Link) (why : Cause) → (linked e c l).ends ≡ Some why → why ≡ cause.Lcp
ends_for e c l why =
    by_called (λ t. t.ends ≡ Some why → why ≡ cause.Lcp) e c l (λ called. ended_for (lcp_turn e c l.lcp).out.finished why) (λ called h. cc)

-- ---- when its timer runs out

waited : (since m : ℕ) → nat_le 3000 (m - since) ≡ nat_le (since + 3000) m
waited since m = grind (arith, nat_tests)

told_due : (over timed : Bool) (since m : ℕ) → (not over && (timed && nat_le 3000 (m - since))) ≡ has_come m (if not over && timed then Some (since + 3000) else None)
told_due true timed since m = refl
told_due false true since m = waited since m
told_due false false since m = refl

pub each_tells_due : EachTellsDue
each_tells_due m l = told_due l.over (is_timed l.lcp) l.lcp.since m
