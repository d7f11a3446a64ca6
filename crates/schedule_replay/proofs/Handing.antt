-- The line that a frame makes which a node held is the line of the world.
use Rattle.std.proofs.Common.{◌≡◌, ℕ, Bool, true, false, ◌∷◌, append_assoc, append-nil, refl, sym, ap, subst, ◌∙◌, Option, Some, None, Result, Ok, Err}
use Rattle.std.specs.Prelude.{IsOk, is_some, if◌then◌else◌}
use Rattle.std.proofs.lemmas.Bool.{true≢false}
use Rattle.id_table.specs.Ids.{at, at-none}
use Rattle.wire_base.specs.declared.letter.Side.{Side}
use Rattle.wire_base.specs.declared.letter.Side.TheVariants as side
use Rattle.wire_base.specs.declared.why.Why.{Why}
use Rattle.wire_base.specs.declared.why.Why.TheVariants as why
use Rattle.end_model.specs.declared.event.Event.TheVariants.{Lcp}
use Rattle.end_model.specs.Access.{Access, serves}
use Rattle.end_model.specs.Contents.{contents_of}
use Rattle.end_model.specs.End.{Stepped, step}
use Rattle.world_model.specs.declared.refusal.Refusal.{Refusal}
use Rattle.world_model.specs.declared.refusal.Refusal.TheVariants.{Unfit, HalfSpace, Stale, StoreFull}
use Rattle.world_model.specs.Texts.{entry_text}
use Rattle.world_model.specs.declared.held.Held.{Held}
use Rattle.world_model.specs.World.{World, Node, Lined, Committed, IsFull, IsCut, IsWhole, with_node, moved_all, given, after_step, commits, without_held, cut_line, settled, committed, stepped, block_of, declared, held_at, taken_up, hand_entry, behind_up, hears, hands_it, hands}
use Rattle.schedule_replay.specs.declared.fault.LineFault.{LineFault}
use Rattle.schedule_replay.specs.declared.fault.LineFault.TheVariants.{Refused, NoMemory as OutOfMemory}
use Rattle.schedule_replay.specs.declared.kinds.Moved.{Moved}
use Rattle.schedule_replay.specs.declared.node.Unmade.{Unmade}
use Rattle.schedule_replay.specs.declared.node.Unmade.TheVariants as unmade
use Rattle.schedule_replay.specs.Fault.{Told, Stays, Says}
use Rattle.schedule_replay.specs.Kinds.{site_in}
use Rattle.schedule_replay.specs.Serving.{SiteStep, step_with, site_step, end_step, site_commits, MakesStep, moved_to, whole_line, served_by, served_line, ShowsBehind, heard_at, passes_to, passes}
use Rattle.schedule_replay.proofs.Serving.{SameLine, same_says}

-- a node for which there are no frames holds none with this number
pub none_held : (w : World) (n number : ℕ) → at w.held n ≡ None → false ≡ is_some (at (held_at w n) number)
none_held w n number is = rw (is, at-none number) refl

-- a node's step that was made, and then shown behind the frame
pub heard_says : {T : Type 0} (r : Result T LineFault) (made : Result Moved Unmade) (line n : ℕ) (x y : Node) (v : SiteStep) (f : Held) (old mid new : Told)
    → MakesStep made (block_of n line) v x y → mid.world ≡ with_node old.world n y → mid.report ≡ old.report → mid.ups ≡ old.ups
    → ShowsBehind r made line n f mid new → Says r (behind_up line n x.end.role f (served_line old.world line n x v)) old new
unfolding served_line whole_line moved_to cut_line
heard_says (Ok t) (Ok g) line n x y v f old mid new m world report ups h =
    let v1 : moved_all n g.moves mid.world ≡ moved_to old.world n x v m.0 = rw (world, m.2, m.4) refl in
    subst (λ (c : Committed). Says (Ok t) (behind_up line n x.end.role f (served_by old.world line n x v c)) old new) (sym m.1)
    (record {
      world = h.0 ∙ rw (m.3, v1) refl;
      report = h.1 ∙ rw (report, m.3, v1, m.5) (append_assoc old.report (entry_text (hand_entry line n f)) _);
      ups = h.2 ∙ rw (ups, m.3, v1, m.5) refl;
    })
heard_says (Ok t) (Err unmade.Cut) line n x y v f old mid new m world report ups h =
    subst (λ (c : Committed). Says (Ok t) (behind_up line n x.end.role f (served_by old.world line n x v c)) old new) (sym m.1)
    (record { world = h.0 ∙ ap (λ (w : World). without_held w n) world ∙ rw m.2 refl; report = h.1 ∙ rw report refl; ups = h.2 ∙ ups })
heard_says (Ok t) (Err (unmade.Full records)) line n x y v f old mid new m world report ups h = absurd h
heard_says (Ok t) (Err unmade.NoMemory) line n x y v f old mid new m world report ups h = absurd h
heard_says (Err (Refused e)) (Ok g) line n x y v f old mid new m world report ups h = absurd h
heard_says (Err (Refused e)) (Err unmade.Cut) line n x y v f old mid new m world report ups h = absurd h
heard_says (Err (Refused e)) (Err (unmade.Full records)) line n x y v f old mid new m world report ups h =
    rw h.0 (ap (λ (c : Committed). behind_up line n x.end.role f (served_by old.world line n x v c)) m, (rw h.1 report, rw h.1 ups))
heard_says (Err (Refused e)) (Err unmade.NoMemory) line n x y v f old mid new m world report ups h = absurd h
heard_says (Err OutOfMemory) made line n x y v f old mid new m world report ups h = tt

-- ---- the line

module _ (w : World) (line n : ℕ) (x : Node) (f : Held) where
  heard_by : (v : SiteStep) → v.site.access ≡ x.access → v.reply ≡ None → (c : Committed)
      → SameLine (behind_up line n x.end.role f (served_by w line n x v c)) (behind_up line n x.end.role f (settled w line n x None (end_step v) c))
  unfolding whole_line moved_to settled after_step given cut_line
  heard_by v access reply (IsFull records) = refl
  heard_by v access reply (IsCut k) = (refl, refl)
  heard_by v access reply (IsWhole k) = (rw access refl, rw (access, reply) (ap (λ es. hand_entry line n f ∷ es) (append-nil _)))

  heard_step : (v : SiteStep) (s : Stepped) → end_step v ≡ s → v.site.access ≡ x.access → v.reply ≡ None
      → SameLine (behind_up line n x.end.role f (served_line w line n x v)) (behind_up line n x.end.role f (committed w line n x None s))
  unfolding served_line committed
  heard_step v s is access reply =
      subst (λ (u : Stepped). SameLine (behind_up line n x.end.role f (served_by w line n x v (site_commits x v)))
      (behind_up line n x.end.role f (settled w line n x None u (commits x.checkpoint (contents_of x.end u))))) is
      (heard_by v access reply (site_commits x v))

  heard_access : (o : Option Access) → x.access ≡ o
      → SameLine (behind_up line n x.end.role f (served_line w line n x (step_with (site_in x) o x.clock (block_of n line) (Lcp f.session f.frame))))
      (behind_up line n x.end.role f (committed w line n x None (step x.end x.clock (block_of n line) (Lcp f.session f.frame))))
  unfolding serves
  heard_access None is = heard_step _ _ refl (sym is) refl
  heard_access (Some a) is = heard_step _ _ refl (sym is) refl

  passes_same : (s : Side) → SameLine (passes_to w line n f s (Some x)) (behind_up line n x.end.role f (hears w line n x f s))
  unfolding heard_at hears stepped site_step
  passes_same side.Sub = (refl, refl)
  passes_same side.Net = (refl, refl)
  passes_same side.Lcp = heard_access x.access refl

-- no such line is refused but for want of room in a store
never_unfit : (w : World) (line n : ℕ) (f : Held) (s : Side) (o : Option Node) (e : Refusal) → passes_to w line n f s o ≡ Err e
    → (records : ℕ) × (e ≡ StoreFull records)
unfolding heard_at served_line
never_unfit w line n f side.Sub o e h = absurd (cc)
never_unfit w line n f side.Net o e h = absurd (cc)
never_unfit w line n f side.Lcp None e h = absurd (cc)
never_unfit w line n f side.Lcp (Some x) e h = by (site_commits x (site_step (site_in x) x.clock (block_of n line) (Lcp f.session f.frame))) h
  where
    by : (c : Committed) → behind_up line n x.end.role f (served_by w line n x (site_step (site_in x) x.clock (block_of n line) (Lcp f.session f.frame)) c) ≡ Err e
        → (records : ℕ) × (e ≡ StoreFull records)
    by (IsFull records) h = (records, (let same : StoreFull records ≡ e = cc in sym same))
    by (IsCut k) h = absurd (cc)
    by (IsWhole k) h = absurd (cc)

-- where there was no room, the report and its count stay
full_stays : (e : Refusal) (records : ℕ) → e ≡ StoreFull records → (mid old new : Told) → mid.report ≡ old.report → mid.ups ≡ old.ups → Stays e mid new → Stays e old new
full_stays (Unfit x) records is mid old new report ups h = absurd (cc)
full_stays (HalfSpace a b) records is mid old new report ups h = absurd (cc)
full_stays (Stale a b) records is mid old new report ups h = absurd (cc)
full_stays (StoreFull a) records is mid old new report ups h = (h.0 ∙ report, h.1 ∙ ups)

-- what is said of the world without the frame is said of the world with it
before_says : {T : Type 0} (r : Result T LineFault) (w : World) (line n number : ℕ) (f : Held) (o : Option Node) (old new : Told)
    → Says r (passes (taken_up w n number) line n f o) (record old { world = taken_up w n number }) new
    → Says r (passes (taken_up w n number) line n f o) old new
before_says (Ok t) w line n number f o old new h = by (passes (taken_up w n number) line n f o) h
  where
    by : (a : Result Lined Refusal) → Says (Ok t) a (record old { world = taken_up w n number }) new → Says (Ok t) a old new
    by (Ok l) h = record { world = h.world; report = h.report; ups = h.ups }
    by (Err e) h = absurd h
before_says (Err (Refused e)) w line n number f o old new h =
    let k = never_unfit (taken_up w n number) line n f f.side o e h.0 in
    (h.0, full_stays e k.0 k.1 (record old { world = taken_up w n number }) old new refl refl h.1)
before_says (Err OutOfMemory) w line n number f o old new h = tt

-- a frame that a node held which is up
pub hand_says : {T : Type 0} (r : Result T LineFault) (w : World) (line n number : ℕ) (f : Held) (o : Option Node) (old new : Told)
    → IsOk (declared o) → at (held_at w n) number ≡ Some f
    → Says r (passes (taken_up w n number) line n f o) (record old { world = taken_up w n number }) new
    → Says r (hands w line n number (declared o)) old new
unfolding hands hands_it
hand_says r w line n number f None old new up held h = absurd (true≢false (sym up))
hand_says r w line n number f (Some x) old new up held h = by x.up refl up
  where
    by : (b : Bool) → x.up ≡ b → IsOk (if b then Ok x else Err why.Down) → Says r (hands w line n number (if b then Ok x else Err why.Down)) old new
    by true is up = rw held (same_says r _ _ old new (passes_same (taken_up w n number) line n x f f.side) (before_says r w line n number f (Some x) old new h))
    by false is up = absurd (true≢false (sym up))

-- a node that is down, or isn't there
pub hand_unfit : (w : World) (line n number : ℕ) (r : Result Node Why) (x : Why) → r ≡ Err x → hands w line n number r ≡ Err (Unfit x)
unfolding hands
hand_unfit w line n number r x is = rw is refl

-- a frame that isn't held
pub hand_none : (w : World) (line n number : ℕ) (r : Result Node Why) (x : Node) → r ≡ Ok x → is_some (at (held_at w n) number) ≡ false
    → hands w line n number r ≡ Err (Unfit why.Hand)
unfolding hands hands_it
hand_none w line n number r x is none = rw is (by (at (held_at w n) number) none)
  where
    by : (o : Option Held) → is_some o ≡ false → hands_it w line n number x o ≡ Err (Unfit why.Hand)
    by None h = refl
    by (Some f) h = absurd (true≢false h)
