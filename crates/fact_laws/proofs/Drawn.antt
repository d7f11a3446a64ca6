-- Along the moves of a step, or of a start, the numbers of an end go on, and what a move draws is the next number.
use Rattle.std.proofs.Common.{◌≡◌, ℕ, ◌+◌, ◌≤◌, ◌<◌, List, [], ◌∷◌, ap, ◌∙◌, subst, Ok, arith}
use Rattle.std.specs.List.{AllByRecursion}
use Rattle.id_source.specs.Spaces.{Space, takes_id, after_id, draw_is, next_is}
use Rattle.end_model.specs.declared.event.Event.{Event}
use Rattle.end_model.specs.declared.moves.Move.{Move}
use Rattle.end_model.specs.declared.moves.Move.TheVariants as move
use Rattle.end_model.specs.End.{End}
use Rattle.step_laws.specs.Moves.{Does, Chain}
use Rattle.book_laws.proofs.Steps.{Draws as SpacesGoOn, does_draw}
use Rattle.line_join_laws.proofs.Counting.{not_less}
use Rattle.fact_laws.specs.Draws.{AllLater}
use Rattle.fact_laws.specs.Ids.{Kind, Tunnels, Sessions, Recoveries, space_of, next_of, DrawsTunnel, DrawsSession, DrawsRecovery, Draws}

-- ---- a move

numbers_on : (k : Kind) (e x : End) → SpacesGoOn e x → next_of k e ≤ next_of k x
numbers_on Tunnels e x h = not_less e.tunnel_ids x.tunnel_ids h.tunnels
numbers_on Sessions e x h = not_less e.session_ids x.session_ids h.sessions
numbers_on Recoveries e x h = not_less e.recovery_ids x.recovery_ids h.recoveries

-- a number is the next one, and behind it the one above it is
record IsNext (k : Kind) (e x : End) (number : ℕ) : Type 0 where
  is : number ≡ next_of k e
  behind : next_of k x ≡ number + 1

is_next : (k : Kind) (e x : End) (number : ℕ) → takes_id (space_of k e) ≡ Ok number → space_of k x ≡ after_id (space_of k e)
    → IsNext k e x number
is_next k e x number took after = record {
  is = (draw_is (space_of k e) number took).0;
  behind = ap (λ (s : Space). s.next) (after ∙ next_is (space_of k e) number took);
}

module _ (e x : End) (moment : ℕ) (ev : Event) where
  tunnel_next : (m : Move) → Does e moment ev m x → (number : ℕ) → DrawsTunnel m number → IsNext Tunnels e x number
  tunnel_next (move.Opened m) h number is =
      subst (IsNext Tunnels e x) is (is_next Tunnels e x m.tunnel h.drawn (ap (λ (y : End). y.tunnel_ids) h.after))
  tunnel_next (move.Accepted m) h number is =
      subst (IsNext Tunnels e x) is (is_next Tunnels e x m.tunnel h.drawn (ap (λ (y : End). y.tunnel_ids) h.after))
  tunnel_next (move.Restored m) h number is =
      subst (IsNext Tunnels e x) is (is_next Tunnels e x m.attempt h.local (ap (λ (y : End). y.tunnel_ids) h.after))
  tunnel_next (move.Froze m) h number is =
      subst (IsNext Tunnels e x) is (is_next Tunnels e x m.answer h.local (ap (λ (y : End). y.tunnel_ids) h.after))
  tunnel_next m h number is = absurd is

  session_next : (m : Move) → Does e moment ev m x → (number : ℕ) → DrawsSession m number → IsNext Sessions e x number
  session_next (move.Added m) h number is =
      subst (IsNext Sessions e x) is (is_next Sessions e x m.session h.drawn (ap (λ (y : End). y.session_ids) h.after))
  session_next (move.Replied m) h number is =
      subst (IsNext Sessions e x) is (is_next Sessions e x m.session h.drawn (ap (λ (y : End). y.session_ids) h.after))
  session_next m h number is = absurd is

  recovery_next : (m : Move) → Does e moment ev m x → (number : ℕ) → DrawsRecovery m number → IsNext Recoveries e x number
  recovery_next (move.Restored m) h number is =
      subst (IsNext Recoveries e x) is (is_next Recoveries e x m.draw h.draw (ap (λ (y : End). y.recovery_ids) h.after))
  recovery_next (move.Froze m) h number is =
      subst (IsNext Recoveries e x) is (is_next Recoveries e x m.draw h.draw (ap (λ (y : End). y.recovery_ids) h.after))
  recovery_next m h number is = absurd is

  drawn_next : (k : Kind) (m : Move) → Does e moment ev m x → (number : ℕ) → Draws k m number → IsNext k e x number
  drawn_next Tunnels m h number is = tunnel_next m h number is
  drawn_next Sessions m h number is = session_next m h number is
  drawn_next Recoveries m h number is = recovery_next m h number is

-- ---- a chain of moves

-- what a move draws wasn't drawn by an end before it, and was by one behind
pub record IsWithin (k : Kind) (e x : End) (number : ℕ) : Type 0 where
  pub least : next_of k e ≤ number
  pub below : number < next_of k x

abbrev pub DrawsWithin : End → End → Move → Type 0
DrawsWithin e x m = (k : Kind) (number : ℕ) → Draws k m number → IsWithin k e x number

-- what a later move draws is above what an earlier one does
abbrev pub IsAboveMove : Move → Move → Type 0
IsAboveMove a b = (k : Kind) (number more : ℕ) → Draws k a number → Draws k b more → number < more

each_move : (P Q : Move → Type 0) (ms : List Move) → ((m : Move) → P m → Q m) → AllByRecursion P ms → AllByRecursion Q ms
each_move P Q [] on all = tt
each_move P Q (m ∷ ms) on all = (on m all.0, each_move P Q ms on all.1)

module _ (moment : ℕ) (ev : Event) where
  pub numbers_go : (k : Kind) (e : End) (ms : List Move) (x : End) → Chain moment ev e ms x → next_of k e ≤ next_of k x
  numbers_go k e [] x same = subst (λ (y : End). next_of k e ≤ next_of k y) same (omega arith)
  numbers_go k e (m ∷ ms) x chain =
      let one = numbers_on k e chain.0 (does_draw e chain.0 moment ev m chain.1) in
      let more = numbers_go k chain.0 ms x chain.2 in
      omega (arith, one, more)

  pub all_within : (e : End) (ms : List Move) (x : End) → Chain moment ev e ms x → AllByRecursion (DrawsWithin e x) ms
  all_within e [] x same = tt
  all_within e (m ∷ ms) x chain = (
    λ k number is.
        (let next = drawn_next e chain.0 moment ev k m chain.1 number is in
        let own = next.is in
        let behind = next.behind in
        let more = numbers_go k chain.0 ms x chain.2 in
        record { least = omega (arith, own); below = omega (arith, behind, more) }),
    each_move (DrawsWithin chain.0 x) (DrawsWithin e x) ms
        (λ n within k number is.
        (let le = (within k number is).least in
        let one = numbers_on k e chain.0 (does_draw e chain.0 moment ev m chain.1) in
        record { least = omega (arith, le, one); below = (within k number is).below }))
        (all_within chain.0 ms x chain.2),
  )

  pub all_rise : (e : End) (ms : List Move) (x : End) → Chain moment ev e ms x → AllLater IsAboveMove ms
  all_rise e [] x same = tt
  all_rise e (m ∷ ms) x chain = (
    each_move (DrawsWithin chain.0 x) (IsAboveMove m) ms
        (λ n within k number more is later.
        (let behind = (drawn_next e chain.0 moment ev k m chain.1 number is).behind in
        let le = (within k more later).least in
        omega (arith, behind, le)))
        (all_within chain.0 ms x chain.2),
    all_rise chain.0 ms x chain.2,
  )
