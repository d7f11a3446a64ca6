-- How a link ends, and what is left of it then.
use Rattle.std.proofs.Common.{◌≡◌, Bool, true, false, not, ◌&&◌, ◌||◌, List, [], ◌∷◌, map, Some, is_some, refl, sym, ap}
use Rattle.wire_base.specs.declared.cause.Cause.{Cause}
use Rattle.wire_base.specs.declared.cause.Cause.TheVariants as cause
use Rattle.call_link.specs.declared.env.LinkEnv.{LinkEnv}
use Rattle.call_link.specs.Link.{Link}
use Rattle.call_link.specs.Frames.{lcp_frame}
use Rattle.call_link.specs.Turns.{LinkCall, Opens, Ticks, Hears, is_called, lcp_turn, end_by, still, linked}
use Rattle.call_link.specs.Laws.{LinkStep, turn_at, AreStill, EachEndsForGood, EndsByLcp, EachEndsByLcp, EachEndIsTold}
use Rattle.call_link.specs.Calling.{by_called, not_over, or_false}
use Rattle.call_link.specs.Told.{ended_for}
use Rattle.call_link.proofs.Silence.{turn_end}

is_some_end : (b : Bool) → b ≡ is_some (end_by b)
is_some_end true = refl
is_some_end false = refl

over_by : (was finished : Bool) → was ≡ false → finished ≡ (was || is_some (end_by finished))
over_by true finished e = cc
over_by false finished e = is_some_end finished

is_over : (l : Link) (s : LinkStep) → (turn_at s l).link.over ≡ (l.over || is_some (turn_at s l).ends)
is_over l s =
    by_called (λ t. t.link.over ≡ (l.over || is_some t.ends)) s.env s.call l
    (λ h. over_by l.over (lcp_turn s.env s.call l.lcp).out.finished (not_over s.call l h)) (λ h. sym (or_false l.over))

not_called : (c : LinkCall) (l : Link) → l.over ≡ true → is_called c l ≡ false
not_called Opens l h = ap (λ b. not b) h
not_called Ticks l h = ap (λ b. not b) h
not_called (Hears frame) l h = rw h refl

stays : (e : LinkEnv) (c : LinkCall) (l : Link) → l.over ≡ true → linked e c l ≡ still l
stays e c l h =
    by_called (λ t. t ≡ still l) e c l (λ called. let no = not_called c l h in cc) (λ called. refl)

all_still : (l : Link) → l.over ≡ true → (steps : List LinkStep) → AreStill steps l
all_still l h [] = tt
all_still l h (s ∷ ss) = (stays s.env s.call l h, all_still l h ss)

pub each_ends_for_good : EachEndsForGood
each_ends_for_good l = record { over = is_over l; stays = all_still l }

ended : (b : Bool) (why : Cause) → end_by b ≡ Some why → b ≡ true
ended true why h = refl
ended false why h = cc

pub each_ends_by_lcp : EachEndsByLcp
each_ends_by_lcp e c l why =
    let v = lcp_turn e c l.lcp in
    by_called (λ t. t.ends ≡ Some why → EndsByLcp e c l t why) e c l
    (λ called h.
    let finished = ended v.out.finished why h in
    let silent = turn_end e c l.lcp finished in
    record {
      is = ended_for v.out.finished why h;
      finished = finished;
      frames = ap (λ ps. map lcp_frame ps) silent.packets;
      opens = ap (λ b. b && not l.network) silent.up;
    }
    ) (λ called h. cc)

pub each_end_is_told : EachEndIsTold
each_end_is_told e c l called finished =
    by_called (λ t. t.ends ≡ Some cause.Lcp) e c l (λ h. ap end_by finished) (λ h. cc)
