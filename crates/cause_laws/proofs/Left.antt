-- In no run is a call or a tunnel left, and in none are there too many tunnels: each line of it leaves none.
use Rattle.std.proofs.Common.{◌≡◌, ℕ, ◌+◌, ◌-◌, ◌^◌, List, [], ◌∷◌, ◌++◌, refl, sym, ap, ◌∙◌, subst, Some, None, Result, Ok, Err}
use Rattle.std.proofs.lemmas.Option.{none-some}
use Rattle.std.specs.Prelude.{option_map, min}
use Rattle.id_table.specs.Ids.{at, at-none}
use Rattle.id_table.specs.Order.{at_new}
use Rattle.schedule_text.specs.declared.line.Line.{Line}
use Rattle.schedule_text.specs.declared.line.Line.TheVariants.{Tick}
use Rattle.schedule_text.specs.Grammar.{FitsLine, AreLines}
use Rattle.end_model.specs.declared.event.Event.TheVariants as event
use Rattle.world_model.specs.declared.refusal.Refusal.{Refusal}
use Rattle.end_model.specs.End.{End, step}
use Rattle.world_model.specs.World.{World, Node, Checkpoint, Lined, declared, later, block_of, after_step, fallen, cut_line, line}
use Rattle.step_laws.specs.Lines.{is_put_on, step_line}
use Rattle.world_model.specs.Run.{Run, empty_run, after_line, goes_on, run_from, run}
use Rattle.step_laws.specs.Left.{NoneIsLate, NoneHasFailed}
use Rattle.node_laws.specs.Nodes.{EndsOfRuns}
use Rattle.cause_laws.specs.Causes.{NoneIsLeftInRuns, TunnelsAreFewInRuns}
use Rattle.cause_laws.proofs.Nodes.{CallLaws, EndsAreKept, AreGood, all_left, kept_in, goods_in}
use Rattle.cause_laws.proofs.Seen.{stepped_seen}

same_end : (e x : End) → Some x ≡ Some e → x ≡ e
same_end e x h = cc

module _ (laws : CallLaws) where
  -- ---- a tick

  abbrev NoneIsLeftAt : ℕ → End → Type 0
  NoneIsLeftAt moment e = NoneIsLate moment e × NoneHasFailed moment e

  abbrev LeavesNone : ℕ → Lined → Type 0
  LeavesNone n x = (node : Node) → at x.world.nodes n ≡ Some node → NoneIsLeftAt node.clock node.end

  ticked_none : (w : World) → EndsAreKept w → AreGood w → (number n : ℕ) (old : Node) (clock : ℕ) (k : Checkpoint) → at w.nodes n ≡ Some old
      → LeavesNone n (after_step w number n (record old { clock = clock; checkpoint = k }) None (step old.end clock (block_of n number) event.Tick))
  ticked_none w kept goods number n old clock k was node is =
      let s = step old.end clock (block_of n number) event.Tick in
      let timed = record old { clock = clock; checkpoint = k } in
      let ended : Some node.end ≡ Some s.end =
      sym (ap (λ o. option_map (λ (x : Node). x.end) o) is) ∙ stepped_seen (λ (x : Node). x.end) (λ x births standings answers. refl) w number n timed None s in
      let at_clock : Some node.clock ≡ Some clock =
      sym (ap (λ o. option_map (λ (x : Node). x.clock) o) is) ∙ stepped_seen (λ (x : Node). x.clock) (λ x births standings answers. refl) w number n timed None s in
      let moment : clock ≡ node.clock = (let e = at_clock in cc) in
      let none : NoneIsLeftAt clock s.end = (
        laws.late old.end (kept n old was) (goods n old was).fine.sound clock (block_of n number),
        laws.gone old.end (kept n old was) clock (block_of n number),
      ) in
      subst (λ (m : ℕ). NoneIsLeftAt m node.end) moment (subst (NoneIsLeftAt clock) (same_end node.end s.end (sym ended)) none)

  -- a node that falls in it has none at all
  fallen_none : (w : World) (number n : ℕ) (old : Node) (k : Checkpoint) → LeavesNone n (cut_line w number n old k)
  unfolding cut_line fallen
  fallen_none w number n old k node is =
      let fell = fallen (block_of n number) old.end old k in
      let both : Some fell ≡ Some node = sym (at_new w.nodes n fell) ∙ is in
      let same : fell ≡ node = cc in
      let none : NoneIsLeftAt fell.clock fell.end = (
        λ i t there. absurd (none-some t (sym (at-none i) ∙ there)),
        λ i t there. absurd (none-some t (sym (at-none i) ∙ there)),
      ) in
      subst (λ (x : Node). NoneIsLeftAt x.clock x.end) same none

  tick_none : (w : World) → EndsAreKept w → AreGood w → (number n milliseconds : ℕ) (x : Lined) → line w number (Tick n milliseconds) ≡ Ok x → LeavesNone n x
  unfolding line
  tick_none w kept goods number n milliseconds x h =
      step_line (LeavesNone n x) w number x n event.Tick None (later milliseconds (declared (at w.nodes n)))
      (λ timed e k whole made.
      let p = is_put_on w n milliseconds timed e in
      let clock = min (p.old.clock + milliseconds) (2 ^ 64 - 1) in
      let left = ticked_none w kept goods number n p.old clock k p.there in
      let again : LeavesNone n (after_step w number n (record timed { checkpoint = k }) None (step timed.end timed.clock (block_of n number) event.Tick)) =
      subst
      (λ (y : Node). LeavesNone n (after_step w number n (record y { checkpoint = k }) None (step y.end y.clock (block_of n number) event.Tick)))
      p.same left in
      subst (LeavesNone n) made again)
      (λ timed e k cut made.
      subst (LeavesNone n) made (fallen_none w number n timed k))
      h

-- the last line of a run that isn't refused
record LastLine (r : Run) (l : Line) (v : Run) : Type 0 where
  number : ℕ
  lined : Lined
  fits : line r.world number l ≡ Ok lined
  leads : v ≡ after_line r lined

last_line : (number : ℕ) (before : List Line) (l : Line) (r : Run) → (run_from number (before ++ l ∷ []) r).fault ≡ None
    → LastLine (run_from number before r) l (run_from number (before ++ l ∷ []) r)
unfolding run_from goes_on
last_line number [] l r none = by (line r.world number l) refl none
  where
    by : (o : Result Lined Refusal) → line r.world number l ≡ o → (goes_on (λ u. u) r number o).fault ≡ None → LastLine r l (goes_on (λ u. u) r number o)
    by (Err w) is e = absurd cc
    by (Ok x) is e = record { number = number; lined = x; fits = is; leads = refl }
last_line number (k ∷ ks) l r none = by (line r.world number k) (λ x e. last_line (number + 1) ks l (after_line r x) e) none
  where
    by : (o : Result Lined Refusal)
        → ((x : Lined) → (run_from (number + 1) (ks ++ l ∷ []) (after_line r x)).fault ≡ None
        → LastLine (run_from (number + 1) ks (after_line r x)) l (run_from (number + 1) (ks ++ l ∷ []) (after_line r x)))
        → (goes_on (run_from (number + 1) (ks ++ l ∷ [])) r number o).fault ≡ None
        → LastLine (goes_on (run_from (number + 1) ks) r number o) l (goes_on (run_from (number + 1) (ks ++ l ∷ [])) r number o)
    by (Err w) rest e = absurd cc
    by (Ok x) rest e = rest x e

-- none is left by the tick that a run ends with
left_none : (laws : CallLaws) → EndsOfRuns → (lines : List Line) → AreLines lines
    → (before : List Line) (n milliseconds : ℕ) → lines ≡ before ++ Tick n milliseconds ∷ [] → (run lines).fault ≡ None
    → (node : Node) → at (run lines).world.nodes n ≡ Some node → NoneIsLeftAt laws node.clock node.end
left_none laws ends lines fits before n milliseconds split none node is =
    let tick = Tick n milliseconds in
    let whole : AreLines (before ++ tick ∷ []) = subst AreLines split fits in
    let first = all_left FitsLine before (tick ∷ []) whole in
    let last = last_line 1 before tick empty_run (subst (λ ls. (run ls).fault ≡ None) split none) in
    let there = ap (λ (r : Run). at r.world.nodes n) (sym (ap run split ∙ last.leads)) ∙ is in
    tick_none laws (run before).world (kept_in laws ends before first) (goods_in laws ends before first) last.number n milliseconds last.lined last.fits node there

pub none_is_left : CallLaws → EndsOfRuns → NoneIsLeftInRuns
none_is_left laws ends lines fits = record {
  asked = λ n node is. (goods_in laws ends lines fits n node is).fine.asked;
  ended = λ before n milliseconds split none node is. (left_none laws ends lines fits before n milliseconds split none node is).0;
  gone = λ before n milliseconds split none node is. (left_none laws ends lines fits before n milliseconds split none node is).1;
}

pub tunnels_are_few : CallLaws → EndsOfRuns → TunnelsAreFewInRuns
tunnels_are_few laws ends lines fits n node is = (goods_in laws ends lines fits n node is).fine.few
