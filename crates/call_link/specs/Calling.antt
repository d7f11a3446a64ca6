-- A call of a link, by cases: it is something to its LCP end, or nothing comes of it.
use Rattle.std.proofs.Common.{◌≡◌, Bool, true, false, not, ◌&&◌, ◌||◌, if◌then◌else◌, refl}
use Rattle.call_link.specs.declared.env.LinkEnv.{LinkEnv}
use Rattle.call_link.specs.declared.turn.LinkTurn.{LinkTurn}
use Rattle.call_link.specs.Link.{Link}
use Rattle.call_link.specs.Frames.{is_for_link}
use Rattle.call_link.specs.Turns.{LinkCall, Opens, Ticks, Hears, is_called, lcp_turn, turned, still, linked}

branch : (P : LinkTurn → Type 0) (b : Bool) (t u : LinkTurn) → (b ≡ true → P t) → (b ≡ false → P u) → P (if b then t else u)
branch P true t u f g = f refl
branch P false t u f g = g refl

pub by_called : (P : LinkTurn → Type 0) (e : LinkEnv) (c : LinkCall) (l : Link) →
    (is_called c l ≡ true → P (turned l (lcp_turn e c l.lcp))) → (is_called c l ≡ false → P (still l)) → P (linked e c l)
unfolding linked
by_called P e c l f g = branch P (is_called c l) _ _ f g

shut : (b : Bool) → not b ≡ true → b ≡ false
shut true h = cc
shut false h = refl

both_shut : (b c : Bool) → (not b && c) ≡ true → b ≡ false
both_shut true c h = cc
both_shut false c h = refl

-- a link that is called isn't over
pub not_over : (c : LinkCall) (l : Link) → is_called c l ≡ true → l.over ≡ false
not_over Opens l h = shut l.over h
not_over Ticks l h = shut l.over h
not_over (Hears frame) l h = both_shut l.over (is_for_link frame) h

pub or_false : (b : Bool) → (b || false) ≡ b
or_false true = refl
or_false false = refl

pub and_true : (b : Bool) → (b && true) ≡ b
and_true true = refl
and_true false = refl

pub and_false : (b : Bool) → (b && false) ≡ false
and_false true = refl
and_false false = refl
