-- A mark of an end that covers a draw number covers it as long as the tunnel is there, and each move that heeds a number makes a mark
-- cover it.
use Rattle.std.proofs.Common.{◌≡◌, ⊎_elim, ℕ, ◌≤◌, List, [], ◌∷◌, refl, sym, ap, ◌∙◌, subst, Some, Ok, arith}
use Rattle.std.specs.List.{AllByRecursion}
use Rattle.id_table.specs.Ids.{at, put, without}
use Rattle.id_table.specs.Order.{at_new, at_other, same_or_not, found_without}
use Rattle.id_source.specs.Spaces.{takes_id, draw_is}
use Rattle.tunnel_fsm.specs.Rows.{state_number}
use Rattle.session_book.specs.Books.{Kept}
use Rattle.end_model.specs.declared.event.Event.{Event}
use Rattle.end_model.specs.declared.moves.Move.{Move}
use Rattle.end_model.specs.declared.moves.Move.TheVariants as move
use Rattle.end_model.specs.Contents.{records_of}
use Rattle.end_model.specs.Tunnels.{Tunnel, ByAttempt, mode_of, is_current}
use Rattle.end_model.specs.End.{End}
use Rattle.step_laws.specs.Moves.{Does, Chain}
use Rattle.step_laws.specs.Steps.{IsOfNoStart}
use Rattle.book_laws.specs.Books.{Mirrors, TablesFit, book_after, MovesAreBooked}
use Rattle.book_laws.proofs.Steps.{high, high_mirrors, high_drawn}
use Rattle.channel_laws.proofs.Waiting.{waits_inactive}
use Rattle.recovery_laws.proofs.Established.{IsPast, chain_past}
use Rattle.fact_laws.specs.Draws.{Heeds, AnswersNoOlder, AllLater}

-- a tunnel was established, and where it is there its mark is no less than a number
pub record IsMarked (e : End) (i draw : ℕ) : Type 0 where
  pub past : IsPast e i
  pub mark : (t : Tunnel) → at e.tunnels i ≡ Some t → draw ≤ t.control.mark

-- what a move makes of the tunnels, and of the mark of one that was established
data Changed (e x : End) : Type 0 where
  Rests : x.tunnels ≡ e.tunnels → Changed e x
  Changes : (j : ℕ) (t u : Tunnel) → at e.tunnels j ≡ Some t → x.tunnels ≡ put e.tunnels j u
      → (3 ≤ state_number t.control.state → t.control.mark ≤ u.control.mark) → Changed e x
  Makes : (j : ℕ) (u : Tunnel) → takes_id e.tunnel_ids ≡ Ok j → x.tunnels ≡ put e.tunnels j u → Changed e x
  Leaves : (j : ℕ) → x.tunnels ≡ without e.tunnels j → Changed e x

tunnels_of : End → List (ℕ × Tunnel)
tunnels_of e = e.tunnels

module _ (moment : ℕ) (ev : Event) (e x : End) where
  stays : (j : ℕ) (t u : Tunnel) → at e.tunnels j ≡ Some t → (y : End) → x ≡ y → y.tunnels ≡ put e.tunnels j u
      → u.control.mark ≡ t.control.mark
      → Changed e x
  stays j t u there y is tunnels same =
      Changes j t u there (ap (λ (z : End). z.tunnels) is ∙ tunnels) (λ three. omega (arith, same))

  rests : x ≡ e → Changed e x
  rests is = Rests (ap (λ (z : End). z.tunnels) is)

  changed : (m : Move) → IsOfNoStart m → Does e moment ev m x → Changed e x
  changed (move.Opened m) so h = Makes m.tunnel _ h.drawn (ap (λ (z : End). z.tunnels) h.after)
  changed (move.Accepted m) so h = Makes m.tunnel _ h.drawn (ap (λ (z : End). z.tunnels) h.after)
  changed (move.Connected m) so h =
      Changes m.tunnel h.tunnel _ h.there (ap (λ (z : End). z.tunnels) h.after)
      (λ three. absurd (let one = ap state_number h.state in omega (arith, three, one)))
  changed (move.Confirmed m) so h =
      Changes m.tunnel h.tunnel _ h.there (ap (λ (z : End). z.tunnels) h.after)
      (λ three. absurd (let one = ap state_number h.state in omega (arith, three, one)))
  changed (move.Added m) so h = stays m.tunnel h.tunnel _ h.there _ h.after refl refl
  changed (move.Requested m) so h = stays m.tunnel h.tunnel _ h.there _ h.after refl refl
  changed (move.Replied m) so h = stays m.tunnel h.tunnel _ h.there _ h.after refl refl
  changed (move.FirstUp m) so h = stays m.tunnel h.tunnel _ h.there _ h.after refl refl
  changed (move.SecondUp m) so h = stays m.tunnel h.tunnel _ h.there _ h.after refl refl
  changed (move.Refused m) so h = stays m.tunnel h.tunnel _ h.there _ h.after refl refl
  changed (move.EndTold m) so h = stays m.tunnel h.tunnel _ h.there _ h.after refl refl
  changed (move.EndHeard m) so h = stays m.tunnel h.tunnel _ h.there _ h.after refl refl
  changed (move.EndSilent m) so h = stays m.tunnel h.tunnel _ h.there _ h.after refl refl
  changed (move.Declined m) so h = rests h.after
  changed (move.Closed m) so h = stays m.tunnel h.tunnel _ h.there _ h.after refl refl
  changed (move.Rejected m) so h = stays m.tunnel h.tunnel _ h.there _ h.after refl refl
  changed (move.ClosedBy m) so h = stays m.tunnel h.tunnel _ h.there _ h.after refl refl
  changed (move.Cleared j booked) so h = Leaves j (ap (λ (z : End). z.tunnels) h.after)
  changed (move.Greeted m) so h = stays m.tunnel h.tunnel _ h.there _ h.after refl refl
  changed (move.TookPlain m) so h = stays m.tunnel h.tunnel _ h.there _ h.after refl refl
  changed (move.NrRead m) so h = stays m.tunnel h.tunnel _ h.there _ h.after refl refl
  changed (move.LetGo m) so h = stays m.tunnel h.tunnel _ h.there _ h.after refl refl
  changed (move.Repeated m) so h = stays m.tunnel h.tunnel _ h.there _ h.after refl refl
  changed (move.Quiet j) so h = rests h.after
  changed (move.Negotiated m) so h = stays m.tunnel h.tunnel _ h.there _ h.after refl refl
  changed (move.Counted m) so h = stays m.tunnel h.tunnel _ h.there _ h.after refl refl
  changed (move.FrameSent m) so h = rests h.after
  changed (move.FrameUp m) so h = rests h.after
  changed (move.Restored m) so h = absurd so
  changed (move.Forgot m) so h = absurd so
  changed (move.Froze m) so h =
      Changes m.tunnel h.tunnel _ h.there (ap (λ (z : End). z.tunnels) h.after) (λ three. omega arith)
  changed (move.ResetAttempting m) so h =
      Changes m.tunnel h.tunnel _ h.there (ap (λ (z : End). z.tunnels) h.after) (λ three. omega arith)
  changed (move.ResetAnswering m) so h = stays m.tunnel h.tunnel _ h.there _ h.after refl refl
  changed (move.Queried m) so h = stays m.tunnel h.tunnel _ h.there _ h.after refl refl
  changed (move.AnsweredQuery m) so h = stays m.tunnel h.tunnel _ h.there _ h.after refl refl
  changed (move.TookAnswer m) so h = stays m.tunnel h.tunnel _ h.there _ h.after refl refl
  changed (move.RecoveryWentOn j) so h = stays j h.tunnel _ h.there _ h.after refl refl
  changed (move.RecoveryEnded j) so h = stays j h.tunnel _ h.there _ h.after refl refl
  changed (move.Ignored j) so h = stays j h.tunnel _ h.there _ h.after refl refl

  -- it goes on to cover the number
  module _ (i draw : ℕ) (marked : IsMarked e i draw) where
    put_marked : (j : ℕ) (u : Tunnel) → x.tunnels ≡ put e.tunnels j u → (i ≡ j → draw ≤ u.control.mark)
        → (v : Tunnel) → at x.tunnels i ≡ Some v → draw ≤ v.control.mark
    put_marked j u is own v there =
        let here : at (put e.tunnels j u) i ≡ Some v = ap (λ q. at q i) (sym is) ∙ there in
        ⊎_elim
        (λ (same : i ≡ j).
        let one : Some u ≡ Some v = sym (at_new e.tunnels j u) ∙ subst (λ k. at (put e.tunnels j u) k ≡ Some v) same here in
        let u_is : u ≡ v = cc in
        subst (λ (q : Tunnel). draw ≤ q.control.mark) u_is (own same))
        (λ (o : i ≡ j → ⊥). marked.mark v (sym (at_other e.tunnels j u i o) ∙ here))
        (same_or_not i j)

    mark_on : Changed e x → (v : Tunnel) → at x.tunnels i ≡ Some v → draw ≤ v.control.mark
    mark_on (Rests is) v there = marked.mark v (ap (λ q. at q i) (sym is) ∙ there)
    mark_on (Changes j t u was is more) v there =
        put_marked j u is
        (λ same.
        let old : at e.tunnels i ≡ Some t = subst (λ k. at e.tunnels k ≡ Some t) (sym same) was in
        let le = marked.mark t old in
        let up = more (marked.past.state t old) in
        omega (arith, le, up))
        v there
    mark_on (Makes j u drawn is) v there =
        put_marked j u is
        (λ same.
        absurd (let first = (draw_is e.tunnel_ids j drawn).0 in let below = marked.past.drawn in omega (arith, first, below, same)))
        v there
    mark_on (Leaves j is) v there =
        marked.mark v (found_without e.tunnels j i v marked.past.order (ap (λ q. at q i) (sym is) ∙ there)).1

    pub does_mark : (m : Move) → IsOfNoStart m → Does e moment ev m x → IsMarked x i draw
    does_mark m so h = record {
      past = (chain_past i moment ev e (m ∷ []) x marked.past (x, h, refl)).0;
      mark = mark_on (changed m so h);
    }

-- along moves
pub marked_on : (i draw moment : ℕ) (ev : Event) (e : End) (ms : List Move) (x : End) → AllByRecursion IsOfNoStart ms
    → Chain moment ev e ms x
    → IsMarked e i draw → IsMarked x i draw
marked_on i draw moment ev e [] x so is marked = subst (λ (y : End). IsMarked y i draw) is marked
marked_on i draw moment ev e (m ∷ ms) x so (y, does, rest) marked =
    marked_on i draw moment ev y ms x so.1 rest (does_mark moment ev e y i draw marked m so.0 does)

-- ---- a move that heeds a number

-- an established tunnel of an end whose tables fit
past_now : (e : End) → TablesFit e → (i : ℕ) (t : Tunnel) → at e.tunnels i ≡ Some t → state_number t.control.state ≡ 3 → IsPast e i
past_now e fit i t there three = record {
  order = fit.order;
  drawn = (fit.tunnels i t there).drawn;
  state = λ u is. (let both : Some t ≡ Some u = sym there ∙ is in
      let same : t ≡ u = cc in
      let also = subst (λ (q : Tunnel). state_number q.control.state ≡ 3) same three in
      omega (arith, also));
}

own_mark : (e x : End) (i draw : ℕ) (u : Tunnel) → x.tunnels ≡ put e.tunnels i u → draw ≤ u.control.mark
    → (v : Tunnel) → at x.tunnels i ≡ Some v → draw ≤ v.control.mark
own_mark e x i draw u is le v there =
    let one : Some u ≡ Some v = sym (at_new e.tunnels i u) ∙ (ap (λ q. at q i) (sym is) ∙ there) in
    let same : u ≡ v = cc in
    subst (λ (q : Tunnel). draw ≤ q.control.mark) same le

-- of the tunnel and the number that a move tells
told : (x : End) (j i number draw : ℕ) → (j ≡ i) × (number ≡ draw) → IsMarked x j number → IsMarked x i draw
told x j i number draw is marked = subst (λ q. IsMarked x q draw) is.0 (subst (λ d. IsMarked x j d) is.1 marked)

module _ (moment : ℕ) (ev : Event) (e x : End) (fit : TablesFit e) where
  heeded_now : (m : Move) → Does e moment ev m x → (i draw : ℕ) → Heeds m i draw → IsMarked x i draw
  heeded_now (move.Froze f) does i draw heeds =
      let past = past_now e fit f.tunnel does.tunnel does.there does.open_is in
      told x f.tunnel i f.asked draw heeds (record {
        past = (chain_past f.tunnel moment ev e (move.Froze f ∷ []) x past (x, does, refl)).0;
        mark = own_mark e x f.tunnel f.asked _ (ap (λ (z : End). z.tunnels) does.after) (omega arith);
      })
  heeded_now (move.ResetAttempting r) does i draw heeds =
      let apart = ap (λ o. is_current (mode_of o)) does.attempts ∙ waits_inactive (ByAttempt does.old) does.waits in
      let past = past_now e fit r.tunnel does.tunnel does.there ((fit.tunnels r.tunnel does.tunnel does.there).recovered apart) in
      told x r.tunnel i r.draw draw heeds (record {
        past = (chain_past r.tunnel moment ev e (move.ResetAttempting r ∷ []) x past (x, does, refl)).0;
        mark = own_mark e x r.tunnel r.draw _ (ap (λ (z : End). z.tunnels) does.after) (omega arith);
      })
  heeded_now m does i draw heeds = absurd heeds

-- so the end that a chain of moves leaves covers each number that one of them heeded
pub heeded_on : MovesAreBooked → (moment : ℕ) (ev : Event) (e : End) (ms : List Move) (x : End) (k : Kept) → AllByRecursion IsOfNoStart ms
    → Chain moment ev e ms x → TablesFit e → Mirrors e k
    → AllByRecursion (λ (m : Move). (i draw : ℕ) → Heeds m i draw → IsMarked x i draw) ms
heeded_on booked moment ev e [] x k so is fit mirrors = tt
heeded_on booked moment ev e (m ∷ ms) x k so (y, does, rest) fit mirrors =
    let b = booked e (high e k) fit (high_drawn e k) (high_mirrors e k mirrors) moment ev m y so.0 does in (
      λ i draw heeds. marked_on i draw moment ev y ms x so.1 rest (heeded_now moment ev e y fit m does i draw heeds),
      heeded_on booked moment ev y ms x (book_after (high e k) (records_of m)) so.1 rest b.fit b.mirrors,
    )

-- ---- an attempt that is answered isn't older

all_moves_on : (P Q : Move → Type 0) (ms : List Move) → ((m : Move) → P m → Q m) → AllByRecursion P ms → AllByRecursion Q ms
all_moves_on P Q [] on all = tt
all_moves_on P Q (m ∷ ms) on all = (on m all.0, all_moves_on P Q ms on all.1)

no_older_now : (moment : ℕ) (ev : Event) (e x : End) (m : Move) → Does e moment ev m x → (i draw : ℕ) → IsMarked e i draw
    → AnswersNoOlder i draw m
no_older_now moment ev e x (move.Froze f) does i draw marked = λ same.
    (let le = marked.mark does.tunnel (subst (λ j. at e.tunnels j ≡ Some does.tunnel) same does.there) in
    let more = does.not_older in
    omega (arith, le, more))
no_older_now moment ev e x m does i draw marked = tt

-- than what the end covers before the moves
pub no_older_on : (moment : ℕ) (ev : Event) (e : End) (ms : List Move) (x : End) → AllByRecursion IsOfNoStart ms → Chain moment ev e ms x
    → AllByRecursion (λ (m : Move). (i draw : ℕ) → IsMarked e i draw → AnswersNoOlder i draw m) ms
no_older_on moment ev e [] x so is = tt
no_older_on moment ev e (m ∷ ms) x so (y, does, rest) = (
  no_older_now moment ev e y m does,
  all_moves_on (λ k. (i draw : ℕ) → IsMarked y i draw → AnswersNoOlder i draw k)
      (λ k. (i draw : ℕ) → IsMarked e i draw → AnswersNoOlder i draw k) ms
      (λ k all i draw marked. all i draw (does_mark moment ev e y i draw marked m so.0 does)) (no_older_on moment ev y ms x so.1 rest),
)

-- and than what an earlier one of them heeded
pub later_on : MovesAreBooked → (moment : ℕ) (ev : Event) (e : End) (ms : List Move) (x : End) (k : Kept) → AllByRecursion IsOfNoStart ms
    → Chain moment ev e ms x → TablesFit e → Mirrors e k
    → AllLater (λ (a b : Move). (i draw : ℕ) → Heeds a i draw → AnswersNoOlder i draw b) ms
later_on booked moment ev e [] x k so is fit mirrors = tt
later_on booked moment ev e (m ∷ ms) x k so (y, does, rest) fit mirrors =
    let b = booked e (high e k) fit (high_drawn e k) (high_mirrors e k mirrors) moment ev m y so.0 does in (
      all_moves_on (λ n. (i draw : ℕ) → IsMarked y i draw → AnswersNoOlder i draw n)
          (λ n. (i draw : ℕ) → Heeds m i draw → AnswersNoOlder i draw n) ms
          (λ n all i draw heeds. all i draw (heeded_now moment ev e y fit m does i draw heeds)) (no_older_on moment ev y ms x so.1 rest),
      later_on booked moment ev y ms x (book_after (high e k) (records_of m)) so.1 rest b.fit b.mirrors,
    )
