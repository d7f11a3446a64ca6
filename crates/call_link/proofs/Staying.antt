-- What changes nothing of a link.
use Rattle.std.proofs.Common.{◌≡◌, ℕ, Bool, true, false, not, ◌&&◌, List, refl, sym, ◌∙◌, ap}
use Rattle.lcp_end.specs.declared.state.EndState.{EndState}
use Rattle.lcp_end.specs.Steps.{begun, ticked, is_due as is_lcp_due}
use Rattle.call_link.specs.declared.env.LinkEnv.{LinkEnv}
use Rattle.call_link.specs.declared.turn.LinkTurn.{LinkTurn}
use Rattle.call_link.specs.Link.{Link, is_due}
use Rattle.call_link.specs.Frames.{is_for_link}
use Rattle.call_link.specs.Turns.{Ticks, Hears, turned, still, linked}
use Rattle.call_link.specs.Laws.{EachStaysAsItWas}
use Rattle.call_link.specs.Calling.{by_called, not_over, or_false, and_false}

foreign : (e : LinkEnv) (l : Link) (frame : List ℕ) → is_for_link frame ≡ false → linked e (Hears frame) l ≡ still l
foreign e l frame h =
    let no : (not l.over && is_for_link frame) ≡ false = ap (λ b. not l.over && b) h ∙ and_false (not l.over) in
    by_called (λ t. t ≡ still l) e (Hears frame) l (λ called. cc) (λ called. refl)

-- a step in which the LCP end does nothing
same_link : (l : Link) → l.over ≡ false → turned l (begun l.lcp) ≡ still l
same_link l h =
    let made : Bool → Bool → LinkTurn = λ network over. still (record { lcp = l.lcp; network = network; over = over }) in
    ap (λ b. made b false) (or_false l.network) ∙ ap (λ b. made l.network b) (sym h)

not_ticked : (moment : ℕ) (k : EndState) → is_lcp_due moment k ≡ false → ticked moment k ≡ begun k
unfolding ticked
not_ticked moment k h = rw h refl

not_lcp_due : (was due : Bool) → was ≡ false → (not was && due) ≡ false → due ≡ false
not_lcp_due true due e h = cc
not_lcp_due false due e h = h

early : (e : LinkEnv) (l : Link) → is_due e.moment l ≡ false → linked e Ticks l ≡ still l
early e l h =
    by_called (λ t. t ≡ still l) e Ticks l
    (λ called.
    let live = not_over Ticks l called in
    let quiet = not_lcp_due l.over (is_lcp_due e.moment l.lcp) live h in
    ap (λ v. turned l v) (not_ticked e.moment l.lcp quiet) ∙ same_link l live
    ) (λ called. refl)

pub each_stays_as_it_was : EachStaysAsItWas
unfolding linked
each_stays_as_it_was e l = record { foreign = foreign e l; early = early e l; opening = λ block. refl; ticking = λ block. refl }
