-- The records of a whole step are in place, and the book after them is that of the end after the step.
use Rattle.std.proofs.Common.{◌≡◌, ◌⊎◌, inl, inr, ⊎_elim, ℕ, Bool, true, false, List, [], ◌∷◌, ◌++◌, None, refl, sym, ◌∙◌, ap, subst, arith}
use Rattle.std.proofs.lemmas.Option.{none-some}
use Rattle.std.specs.Prelude.{map}
use Rattle.std.specs.List.{flat_map, AllByRecursion}
use Rattle.id_table.specs.Ids.{at, at-none}
use Rattle.id_table.specs.Order.{ascends-empty}
use Rattle.id_source.specs.Spaces.{Space, after_id}
use Rattle.session_book.specs.declared.record.Record.{Record}
use Rattle.session_book.specs.declared.record.Record.TheVariants.{Ceiling, CallDown}
use Rattle.session_book.specs.Books.{Kept, nothing_kept, stepped, raised}
use Rattle.end_names.specs.declared.role.Role.{Role}
use Rattle.end_model.specs.declared.event.Event.{Event}
use Rattle.end_model.specs.declared.moves.Move.{Move}
use Rattle.end_model.specs.declared.moves.Move.TheVariants as move
use Rattle.end_model.specs.declared.tunnel.Config.{Config}
use Rattle.end_model.specs.Contents.{ceilings_of, records_of, contents_of, tunnel_down, call_down, mark_by}
use Rattle.end_model.specs.End.{End, Stepped, new_end, plain_step}
use Rattle.step_laws.specs.Moves.{Does, Chain}
use Rattle.step_laws.specs.Steps.{AreKept, StepsAreChains, StepsAreNoStarts, IsOfNoStart}
use Rattle.book_laws.specs.Books.{tunnel_record, record_in, Mirrors, IsBook, AreDrawn, TablesFit, SpaceFits, Fits, AreInPlace, book_after, LeavesNone, MovesAreBooked, StepIsBooked, StepsAreBooked, step_on, end_after, left_by, RunsAreBooked, NewEndsAreBooked}
use Rattle.book_laws.proofs.Lists.{none_rises}
use Rattle.book_laws.proofs.Fitting.{Grows}
use Rattle.book_laws.proofs.Changes.{grows_so}
use Rattle.book_laws.proofs.Moves.{does_go}
use Rattle.book_laws.proofs.Ceilings.{Rose, rose_none, draw_goes, ceilings_go, first_space, second_space, third_space}

-- ---- lists of records

pub in_place_both : (k : Kept) (rs ss : List Record) → AreInPlace k rs → AreInPlace (book_after k rs) ss → AreInPlace k (rs ++ ss)
in_place_both k [] ss h g = g
in_place_both k (r ∷ rs) ss h g = (h.0, in_place_both (stepped k r) rs ss h.1 g)

pub after_both : (k : Kept) (rs ss : List Record) → book_after k (rs ++ ss) ≡ book_after (book_after k rs) ss
after_both k [] ss = refl
after_both k (r ∷ rs) ss = after_both (stepped k r) rs ss

pub leaves_both : (r : Role) (rs ss : List Record) → AllByRecursion (LeavesNone r) rs → AllByRecursion (LeavesNone r) ss → AllByRecursion (LeavesNone r) (rs ++ ss)
leaves_both r [] ss h g = g
leaves_both r (x ∷ rs) ss h g = (h.0, leaves_both r rs ss h.1 g)

-- no ceiling is a call
rises_none : (r : Role) (space : ℕ) (number : ℕ → ℕ) (is : List ℕ) → AllByRecursion (LeavesNone r) (map (λ j. Ceiling space (number j)) is)
rises_none r space number [] = tt
rises_none r space number (i ∷ is) = (tt, rises_none r space number is)

pub ceilings_none : (r : Role) (space : ℕ) (before after : Space) → AllByRecursion (LeavesNone r) (ceilings_of space before after)
ceilings_none r space before after = rises_none r space _ _

-- ---- ids that a move draws

pub record Draws (e x : End) : Type 0 where
  pub tunnels : (x.tunnel_ids ≡ e.tunnel_ids) ⊎ (x.tunnel_ids ≡ after_id e.tunnel_ids)
  pub sessions : (x.session_ids ≡ e.session_ids) ⊎ (x.session_ids ≡ after_id e.session_ids)
  pub recoveries : (x.recovery_ids ≡ e.recovery_ids) ⊎ (x.recovery_ids ≡ after_id e.recovery_ids)

abbrev tunnels_of : End → Space
tunnels_of e = e.tunnel_ids

abbrev sessions_of : End → Space
sessions_of e = e.session_ids

abbrev recoveries_of : End → Space
recoveries_of e = e.recovery_ids

module _ (e x : End) where
  pub does_draw : (moment : ℕ) (ev : Event) (m : Move) → Does e moment ev m x → Draws e x
  does_draw moment ev (move.Opened m) h = record { tunnels = inr (ap tunnels_of h.after); sessions = inl (ap sessions_of h.after); recoveries = inl (ap recoveries_of h.after) }
  does_draw moment ev (move.Accepted m) h = record { tunnels = inr (ap tunnels_of h.after); sessions = inl (ap sessions_of h.after); recoveries = inl (ap recoveries_of h.after) }
  does_draw moment ev (move.Connected m) h = record { tunnels = inl (ap tunnels_of h.after); sessions = inl (ap sessions_of h.after); recoveries = inl (ap recoveries_of h.after) }
  does_draw moment ev (move.Confirmed m) h = record { tunnels = inl (ap tunnels_of h.after); sessions = inl (ap sessions_of h.after); recoveries = inl (ap recoveries_of h.after) }
  does_draw moment ev (move.Added m) h = record { tunnels = inl (ap tunnels_of h.after); sessions = inr (ap sessions_of h.after); recoveries = inl (ap recoveries_of h.after) }
  does_draw moment ev (move.Requested m) h = record { tunnels = inl (ap tunnels_of h.after); sessions = inl (ap sessions_of h.after); recoveries = inl (ap recoveries_of h.after) }
  does_draw moment ev (move.Replied m) h = record { tunnels = inl (ap tunnels_of h.after); sessions = inr (ap sessions_of h.after); recoveries = inl (ap recoveries_of h.after) }
  does_draw moment ev (move.FirstUp m) h = record { tunnels = inl (ap tunnels_of h.after); sessions = inl (ap sessions_of h.after); recoveries = inl (ap recoveries_of h.after) }
  does_draw moment ev (move.SecondUp m) h = record { tunnels = inl (ap tunnels_of h.after); sessions = inl (ap sessions_of h.after); recoveries = inl (ap recoveries_of h.after) }
  does_draw moment ev (move.Refused m) h = record { tunnels = inl (ap tunnels_of h.after); sessions = inl (ap sessions_of h.after); recoveries = inl (ap recoveries_of h.after) }
  does_draw moment ev (move.EndTold m) h = record { tunnels = inl (ap tunnels_of h.after); sessions = inl (ap sessions_of h.after); recoveries = inl (ap recoveries_of h.after) }
  does_draw moment ev (move.EndHeard m) h = record { tunnels = inl (ap tunnels_of h.after); sessions = inl (ap sessions_of h.after); recoveries = inl (ap recoveries_of h.after) }
  does_draw moment ev (move.EndSilent m) h = record { tunnels = inl (ap tunnels_of h.after); sessions = inl (ap sessions_of h.after); recoveries = inl (ap recoveries_of h.after) }
  does_draw moment ev (move.Declined m) h = record { tunnels = inl (ap tunnels_of h.after); sessions = inl (ap sessions_of h.after); recoveries = inl (ap recoveries_of h.after) }
  does_draw moment ev (move.Closed m) h = record { tunnels = inl (ap tunnels_of h.after); sessions = inl (ap sessions_of h.after); recoveries = inl (ap recoveries_of h.after) }
  does_draw moment ev (move.Rejected m) h = record { tunnels = inl (ap tunnels_of h.after); sessions = inl (ap sessions_of h.after); recoveries = inl (ap recoveries_of h.after) }
  does_draw moment ev (move.ClosedBy m) h = record { tunnels = inl (ap tunnels_of h.after); sessions = inl (ap sessions_of h.after); recoveries = inl (ap recoveries_of h.after) }
  does_draw moment ev (move.Greeted m) h = record { tunnels = inl (ap tunnels_of h.after); sessions = inl (ap sessions_of h.after); recoveries = inl (ap recoveries_of h.after) }
  does_draw moment ev (move.TookPlain m) h = record { tunnels = inl (ap tunnels_of h.after); sessions = inl (ap sessions_of h.after); recoveries = inl (ap recoveries_of h.after) }
  does_draw moment ev (move.NrRead m) h = record { tunnels = inl (ap tunnels_of h.after); sessions = inl (ap sessions_of h.after); recoveries = inl (ap recoveries_of h.after) }
  does_draw moment ev (move.LetGo m) h = record { tunnels = inl (ap tunnels_of h.after); sessions = inl (ap sessions_of h.after); recoveries = inl (ap recoveries_of h.after) }
  does_draw moment ev (move.Repeated m) h = record { tunnels = inl (ap tunnels_of h.after); sessions = inl (ap sessions_of h.after); recoveries = inl (ap recoveries_of h.after) }
  does_draw moment ev (move.Negotiated m) h = record { tunnels = inl (ap tunnels_of h.after); sessions = inl (ap sessions_of h.after); recoveries = inl (ap recoveries_of h.after) }
  does_draw moment ev (move.Counted m) h = record { tunnels = inl (ap tunnels_of h.after); sessions = inl (ap sessions_of h.after); recoveries = inl (ap recoveries_of h.after) }
  does_draw moment ev (move.FrameSent m) h = record { tunnels = inl (ap tunnels_of h.after); sessions = inl (ap sessions_of h.after); recoveries = inl (ap recoveries_of h.after) }
  does_draw moment ev (move.FrameUp m) h = record { tunnels = inl (ap tunnels_of h.after); sessions = inl (ap sessions_of h.after); recoveries = inl (ap recoveries_of h.after) }
  does_draw moment ev (move.Cleared i booked) h = record { tunnels = inl (ap tunnels_of h.after); sessions = inl (ap sessions_of h.after); recoveries = inl (ap recoveries_of h.after) }
  does_draw moment ev (move.Quiet i) h = record { tunnels = inl (ap tunnels_of h.after); sessions = inl (ap sessions_of h.after); recoveries = inl (ap recoveries_of h.after) }
  does_draw moment ev (move.ResetAttempting m) h = record { tunnels = inl (ap tunnels_of h.after); sessions = inl (ap sessions_of h.after); recoveries = inl (ap recoveries_of h.after) }
  does_draw moment ev (move.ResetAnswering m) h = record { tunnels = inl (ap tunnels_of h.after); sessions = inl (ap sessions_of h.after); recoveries = inl (ap recoveries_of h.after) }
  does_draw moment ev (move.Queried m) h =
      record { tunnels = inl (ap tunnels_of h.after); sessions = inl (ap sessions_of h.after); recoveries = inl (ap recoveries_of h.after) }
  does_draw moment ev (move.AnsweredQuery m) h =
      record { tunnels = inl (ap tunnels_of h.after); sessions = inl (ap sessions_of h.after); recoveries = inl (ap recoveries_of h.after) }
  does_draw moment ev (move.TookAnswer m) h =
      record { tunnels = inl (ap tunnels_of h.after); sessions = inl (ap sessions_of h.after); recoveries = inl (ap recoveries_of h.after) }
  does_draw moment ev (move.RecoveryWentOn i) h = record { tunnels = inl (ap tunnels_of h.after); sessions = inl (ap sessions_of h.after); recoveries = inl (ap recoveries_of h.after) }
  does_draw moment ev (move.RecoveryEnded i) h = record { tunnels = inl (ap tunnels_of h.after); sessions = inl (ap sessions_of h.after); recoveries = inl (ap recoveries_of h.after) }
  does_draw moment ev (move.Ignored i) h = record { tunnels = inl (ap tunnels_of h.after); sessions = inl (ap sessions_of h.after); recoveries = inl (ap recoveries_of h.after) }
  does_draw moment ev (move.Forgot m) h = record { tunnels = inl (ap tunnels_of h.after); sessions = inl (ap sessions_of h.after); recoveries = inl (ap recoveries_of h.after) }
  does_draw moment ev (move.Froze m) h = record { tunnels = inr (ap tunnels_of h.after); sessions = inl (ap sessions_of h.after); recoveries = inr (ap recoveries_of h.after) }
  does_draw moment ev (move.Restored m) h = record { tunnels = inr (ap tunnels_of h.after); sessions = inl (ap sessions_of h.after); recoveries = inr (ap recoveries_of h.after) }

-- the spaces of an end since another one
pub record SpacesRose (b e : End) : Type 0 where
  pub tunnels : SpaceFits 65535 e.tunnel_ids × Rose b.tunnel_ids e.tunnel_ids
  pub sessions : SpaceFits 65534 e.session_ids × Rose b.session_ids e.session_ids
  pub recoveries : SpaceFits 4294967295 e.recovery_ids × Rose b.recovery_ids e.recovery_ids

space_goes : (l : ℕ) (b e x : Space) → SpaceFits l e × Rose b e → (x ≡ e) ⊎ (x ≡ after_id e) → SpaceFits l x × Rose b x
space_goes l b e x h draws = ⊎_elim
    (λ same. subst (λ (s : Space). SpaceFits l s × Rose b s) (sym same) h)
    (λ after. subst (λ (s : Space). SpaceFits l s × Rose b s) (sym after) (draw_goes l b e h.0 h.1))
    draws

pub chain_spaces : (moment : ℕ) (ev : Event) (b e x : End) (ms : List Move) → Chain moment ev e ms x → SpacesRose b e → SpacesRose b x
chain_spaces moment ev b e x [] h rose = subst (SpacesRose b) h rose
chain_spaces moment ev b e x (m ∷ ms) h rose =
    let d = does_draw e h.0 moment ev m h.1 in
    chain_spaces moment ev b h.0 x ms h.2 (record {
      tunnels = space_goes 65535 b.tunnel_ids e.tunnel_ids h.0.tunnel_ids rose.tunnels d.tunnels;
      sessions = space_goes 65534 b.session_ids e.session_ids h.0.session_ids rose.sessions d.sessions;
      recoveries = space_goes 4294967295 b.recovery_ids e.recovery_ids h.0.recovery_ids rose.recoveries d.recoveries;
    })

-- ---- a book whose ceilings are as high as they have to be

abbrev pub high : End → Kept → Kept
high e k = record k { tunnel_ceiling = e.tunnel_ids.next; session_ceiling = e.session_ids.next }

pub high_mirrors : (e : End) (k : Kept) → Mirrors e k → Mirrors e (high e k)
high_mirrors e k m = record { tunnels = m.tunnels; calls = m.calls; all_calls = m.all_calls; tunnels_rise = m.tunnels_rise; calls_rise = m.calls_rise }

pub high_drawn : (e : End) (k : Kept) → AreDrawn e (high e k)
high_drawn e k = record { tunnels = omega arith; sessions = omega arith }

pub grows_both : (e y x : End) → Grows e y → Grows y x → Grows e x
grows_both e y x a b = record {
  role = b.role ∙ a.role;
  tunnels = (let p = a.tunnels in let q = b.tunnels in omega (arith, p, q));
  sessions = (let p = a.sessions in let q = b.sessions in omega (arith, p, q));
}

-- along a chain ids are drawn
pub chain_grows : (moment : ℕ) (ev : Event) (e x : End) (ms : List Move) → AllByRecursion IsOfNoStart ms → Chain moment ev e ms x → TablesFit e → (k : Kept)
    → Mirrors e k → Grows e x
chain_grows moment ev e x [] so h fit k m = grows_so e x (sym (ap (λ (y : End). y.role) h)) (sym (ap tunnels_of h)) (sym (ap sessions_of h))
chain_grows moment ev e x (move ∷ ms) so h fit k m =
    let g = does_go e h.0 (high e k) fit (high_drawn e k) (high_mirrors e k m) moment ev move so.0 h.1 in
    grows_both e h.0 x g.grows (chain_grows moment ev h.0 x ms so.1 h.2 g.fit (book_after (high e k) (records_of move)) g.book)

-- ---- no move leaves a ceiling

pub record SameCeilings (k j : Kept) : Type 0 where
  pub tunnels : j.tunnel_ceiling ≡ k.tunnel_ceiling
  pub sessions : j.session_ceiling ≡ k.session_ceiling
  pub draws : j.draw_ceiling ≡ k.draw_ceiling

call_leaves : (booked : Bool) (s : ℕ) (k : Kept) → SameCeilings k (book_after k (call_down booked s))
call_leaves true s k = record { tunnels = refl; sessions = refl; draws = refl }
call_leaves false s k = record { tunnels = refl; sessions = refl; draws = refl }

tunnel_leaves : (booked : Bool) (i : ℕ) (k : Kept) → SameCeilings k (book_after k (tunnel_down booked i))
tunnel_leaves true i k = record { tunnels = refl; sessions = refl; draws = refl }
tunnel_leaves false i k = record { tunnels = refl; sessions = refl; draws = refl }

mark_leaves : (marked : Bool) (i mark : ℕ) (k : Kept) → SameCeilings k (book_after k (mark_by marked i mark))
mark_leaves true i mark k = record { tunnels = refl; sessions = refl; draws = refl }
mark_leaves false i mark k = record { tunnels = refl; sessions = refl; draws = refl }

downs_leave : (ss : List ℕ) (k : Kept) → SameCeilings k (book_after k (map (λ s. CallDown s) ss))
downs_leave [] k = record { tunnels = refl; sessions = refl; draws = refl }
downs_leave (s ∷ ss) k = let later = downs_leave ss (stepped k (CallDown s)) in
    record { tunnels = later.tunnels; sessions = later.sessions; draws = later.draws }

ceilings_stay : (m : Move) (k : Kept) → SameCeilings k (book_after k (records_of m))
unfolding records_of
ceilings_stay (move.EndTold m) k = call_leaves m.booked m.session k
ceilings_stay (move.EndHeard m) k = call_leaves m.booked m.session k
ceilings_stay (move.EndSilent m) k = call_leaves m.booked m.session k
ceilings_stay (move.Closed m) k = tunnel_leaves m.booked m.tunnel k
ceilings_stay (move.ClosedBy m) k = tunnel_leaves m.booked m.tunnel k
ceilings_stay (move.Cleared i booked) k = tunnel_leaves booked i k
ceilings_stay (move.Froze m) k = mark_leaves m.marked m.tunnel m.asked k
ceilings_stay (move.ResetAttempting m) k = mark_leaves m.marked m.tunnel m.draw k
ceilings_stay (move.TookAnswer m) k = downs_leave m.ended k
ceilings_stay m k = record { tunnels = refl; sessions = refl; draws = refl }

-- ---- a chain of moves

pub record ChainGoes (x : End) (k : Kept) (rs : List Record) : Type 0 where
  pub fit : TablesFit x
  pub in_place : AreInPlace k rs
  pub mirrors : Mirrors x (book_after k rs)
  pub ceilings : SameCeilings k (book_after k rs)
  pub calls : AllByRecursion (LeavesNone x.role) rs

pub chain_goes : (moment : ℕ) (ev : Event) (e x : End) (ms : List Move) → AllByRecursion IsOfNoStart ms → Chain moment ev e ms x → TablesFit e → (k : Kept)
    → Mirrors e k → AreDrawn x k → ChainGoes x k (flat_map (λ m. records_of m) ms)
chain_goes moment ev e x [] so h fit k m drawn = record {
  fit = subst TablesFit h fit;
  in_place = tt;
  mirrors = subst (λ (y : End). Mirrors y k) h m;
  ceilings = record { tunnels = refl; sessions = refl; draws = refl };
  calls = tt;
}
chain_goes moment ev e x (move ∷ ms) so h fit k m drawn =
    let grows = chain_grows moment ev e x (move ∷ ms) so h fit k m in
    let before : AreDrawn e k = record {
      tunnels = (let p = grows.tunnels in let q = drawn.tunnels in omega (arith, p, q));
      sessions = (let p = grows.sessions in let q = drawn.sessions in omega (arith, p, q));
    } in
    let g = does_go e h.0 k fit before m moment ev move so.0 h.1 in
    let j = book_after k (records_of move) in
    let same = ceilings_stay move k in
    let still : AreDrawn x j = record {
      tunnels = (let p = same.tunnels in let q = drawn.tunnels in omega (arith, p, q));
      sessions = (let p = same.sessions in let q = drawn.sessions in omega (arith, p, q));
    } in
    let rest = flat_map (λ n. records_of n) ms in
    let later = chain_goes moment ev h.0 x ms so.1 h.2 g.fit j g.book still in
    let roles = (chain_grows moment ev h.0 x ms so.1 h.2 g.fit j g.book).role in
    let both = after_both k (records_of move) rest in
    let more = later.ceilings in
    record {
      fit = later.fit;
      in_place = in_place_both k (records_of move) rest g.in_place later.in_place;
      mirrors = subst (Mirrors x) (sym both) later.mirrors;
      ceilings = subst (SameCeilings k) (sym both) (record {
        tunnels = more.tunnels ∙ same.tunnels;
        sessions = more.sessions ∙ same.sessions;
        draws = more.draws ∙ same.draws;
      });
      calls = leaves_both x.role (records_of move) rest (subst (λ r. AllByRecursion (LeavesNone r) (records_of move)) (sym roles) g.calls) later.calls;
    }

-- ---- a step

-- records behind those that lead to a book
pub behind : (k j : Kept) (rs ss : List Record) → AreInPlace k rs → book_after k rs ≡ j → AreInPlace j ss
    → AreInPlace k (rs ++ ss) × (book_after k (rs ++ ss) ≡ book_after j ss)
behind k j rs ss h is g = (
  in_place_both k rs ss h (subst (λ (l : Kept). AreInPlace l ss) (sym is) g),
  after_both k rs ss ∙ ap (λ (l : Kept). book_after l ss) is,
)

module _ (e : End) (k : Kept) (fit : Fits e) (book : IsBook e k) (moment : ℕ) (ev : Event) (s : Stepped) (so : AllByRecursion IsOfNoStart s.moves)
    (chain : Chain moment ev e s.moves s.end) where
  rose : SpacesRose e s.end
  rose = chain_spaces moment ev e e s.end s.moves chain (record {
    tunnels = (fit.tunnel_ids, rose_none 65535 e.tunnel_ids fit.tunnel_ids);
    sessions = (fit.session_ids, rose_none 65534 e.session_ids fit.session_ids);
    recoveries = (fit.recovery_ids, rose_none 4294967295 e.recovery_ids fit.recovery_ids);
  })

  abbrev first : Kept
  first = raised 1 s.end.tunnel_ids.ceiling k

  abbrev second : Kept
  second = raised 2 s.end.session_ids.ceiling first

  abbrev third : Kept
  third = raised 3 s.end.recovery_ids.ceiling second

  at_third : Mirrors e third
  at_third = let m = book.mirrors in record { tunnels = m.tunnels; calls = m.calls; all_calls = m.all_calls; tunnels_rise = m.tunnels_rise; calls_rise = m.calls_rise }

  pub step_goes : StepIsBooked e k s
  unfolding contents_of
  step_goes =
      let drawn : AreDrawn s.end third = record { tunnels = (rose.tunnels.0).drawn; sessions = (rose.sessions.0).drawn } in
      let moves = chain_goes moment ev e s.end s.moves so chain fit.tables third at_third drawn in
      let roles = (chain_grows moment ev e s.end s.moves so chain fit.tables third at_third).role in
      let rs = flat_map (λ m. records_of m) s.moves in
      let c = ceilings_go 3 third_space e.recovery_ids (sym fit.recovery_ids.last) s.end.recovery_ids 4294967295 second fit.recovery_ids rose.recoveries.1 book.draw_ceiling in
      let b = ceilings_go 2 second_space e.session_ids (sym fit.session_ids.last) s.end.session_ids 65534 first fit.session_ids rose.sessions.1 book.session_ceiling in
      let a = ceilings_go 1 first_space e.tunnel_ids (sym fit.tunnel_ids.last) s.end.tunnel_ids 65535 k fit.tunnel_ids rose.tunnels.1 book.tunnel_ceiling in
      let with_c = behind second third _ rs c.0 c.1 moves.in_place in
      let with_b = behind first second _ _ b.0 b.1 with_c.0 in
      let with_a = behind k first _ _ a.0 a.1 with_b.0 in
      let end = with_a.1 ∙ with_b.1 ∙ with_c.1 in
      let same = moves.ceilings in
      record {
        in_place = with_a.0;
        book = subst (IsBook s.end) (sym end) (record {
          mirrors = moves.mirrors;
          tunnel_ceiling = same.tunnels;
          session_ceiling = same.sessions;
          draw_ceiling = same.draws;
        });
        fit = record {
          tables = moves.fit;
          tunnel_ids = rose.tunnels.0;
          session_ids = rose.sessions.0;
          recovery_ids = rose.recoveries.0;
        };
        calls =
            leaves_both e.role _ _ (ceilings_none e.role 1 e.tunnel_ids s.end.tunnel_ids) (leaves_both e.role _ _ (ceilings_none e.role 2 e.session_ids s.end.session_ids)
            (leaves_both e.role _ _ (ceilings_none e.role 3 e.recovery_ids s.end.recovery_ids) (subst (λ r. AllByRecursion (LeavesNone r) rs) roles moves.calls)));
        role = roles;
      }

pub moves_are_booked : MovesAreBooked
moves_are_booked e k fit drawn m moment ev move x so h =
    let g = does_go e x k fit drawn m moment ev move so h in
    record { in_place = g.in_place; mirrors = g.book; fit = g.fit }

pub steps_are_booked : StepsAreChains → StepsAreNoStarts → StepsAreBooked
steps_are_booked chains none e k kept fit book moment block ev =
    step_goes e k fit book moment ev (plain_step e moment block ev) (none e moment block ev) (chains e kept moment block ev).chain

-- ---- a run

new_kept : (r : Role) (c : Config) → AreKept (new_end r c)
new_kept r c = record {
  tunnels = λ i t f. absurd (none-some t (sym (at-none i) ∙ f));
  order = ascends-empty [] refl;
  places = ascends-empty [] refl;
  sessions = omega arith;
  first = omega arith;
}

new_fits : (r : Role) (c : Config) → Fits (new_end r c)
new_fits r c = record {
  tables = record {
    order = ascends-empty [] refl;
    few = omega arith;
    tunnels = λ i t f. absurd (none-some t (sym (at-none i) ∙ f));
    apart = λ i t f. absurd (none-some t (sym (at-none i) ∙ f));
    first_tunnel = omega arith;
    first_session = omega arith;
  };
  tunnel_ids = record { last = refl; drawn = omega arith; within = omega arith };
  session_ids = record { last = refl; drawn = omega arith; within = omega arith };
  recovery_ids = record { last = refl; drawn = omega arith; within = omega arith };
}

pub none_there : (i : ℕ) → tunnel_record i (at [] i) ≡ None
none_there i = ap (tunnel_record i) (at-none i)

pub none_in : (i s : ℕ) → record_in i s (at [] i) ≡ None
none_in i s = ap (record_in i s) (at-none i)

new_book : (r : Role) (c : Config) → IsBook (new_end r c) nothing_kept
new_book r c = record {
  mirrors = record {
    tunnels = λ i. sym (none_there i);
    calls = λ s b f. absurd (none-some b f);
    all_calls = λ i s b f. absurd (none-some b (sym (none_in i s) ∙ f));
    tunnels_rise = none_rises _;
    calls_rise = none_rises _;
  };
  tunnel_ceiling = refl;
  session_ceiling = refl;
  draw_ceiling = refl;
}

pub runs_are_booked : StepsAreChains → StepsAreNoStarts → RunsAreBooked
runs_are_booked chains none e k kept fit book [] = record { in_place = tt; book = book; fit = fit }
runs_are_booked chains none e k kept fit book (c ∷ cs) =
    let s = step_on e c in
    let g = steps_are_booked chains none e k kept fit book c.moment c.block c.event in
    let next = (chains e kept c.moment c.block c.event).kept in
    let rs = contents_of e s in
    let later = runs_are_booked chains none s.end (book_after k rs) next g.fit g.book cs in
    record {
      in_place = in_place_both k rs (left_by s.end cs) g.in_place later.in_place;
      book = subst (IsBook (end_after s.end cs)) (sym (after_both k rs (left_by s.end cs))) later.book;
      fit = later.fit;
    }

pub new_ends_are_booked : StepsAreChains → StepsAreNoStarts → NewEndsAreBooked
new_ends_are_booked chains none r c cs = runs_are_booked chains none (new_end r c) nothing_kept (new_kept r c) (new_fits r c) (new_book r c) cs
