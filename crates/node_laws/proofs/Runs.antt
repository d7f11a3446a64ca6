-- So it is after each run.
use Rattle.std.proofs.Common.{◌≡◌, inl, inr, ℕ, ◌+◌, false, List, [], ◌∷◌, refl, sym, ap, ◌∙◌, subst, Option, Some, Result, Ok, Err, arith}
use Rattle.std.proofs.lemmas.Option.{none-some}
use Rattle.std.proofs.lemmas.Bool.{cases_Bool}
use Rattle.id_table.specs.Ids.{at-none}
use Rattle.schedule_text.specs.declared.line.Line.{Line}
use Rattle.end_model.specs.Contents.{contents_of}
use Rattle.end_model.specs.End.{End, plain_step}
use Rattle.end_model.specs.Starting.{starts}
use Rattle.world_model.specs.declared.refusal.Refusal.{Refusal}
use Rattle.world_model.specs.World.{Node, Lined, line}
use Rattle.world_model.specs.Run.{Run, empty_run, after_line, goes_on, run_from}
use Rattle.step_laws.specs.Looks.{LooksAreTrue, LooksStayTrue, LooksBeginTrue}
use Rattle.step_laws.specs.Steps.{AreKept, StepsAreChains}
use Rattle.book_laws.specs.Books.{Fits, StepsAreBooked, NewEndsAreBooked}
use Rattle.book_laws.specs.Starts.{StartIsBooked, StartsAreBooked, StartsBringBack}
use Rattle.node_laws.specs.Nodes.{HoldsNode, NodesOfRuns, EndsOfRuns, RecordsOfRuns, RestartsOfRuns, IdsOfRuns, StaysSo, PropertiesOfRuns}
use Rattle.book_laws.proofs.Starts.{bare_kept, bare_looks, bare_fits}
use Rattle.node_laws.proofs.Nodes.{WorldHolds, all_counted, line_holds}

-- a run goes on where a line fits, and stays where it doesn't
pub where_it_fits : (P : Run → Type 0) (rest : Run → Run) (r : Run) (number : ℕ) (x : Result Lined Refusal)
    → ((fault : Option (ℕ × Refusal)) → P (record r { fault = fault })) → ((l : Lined) → x ≡ Ok l → P (rest (after_line r l)))
    → P (goes_on rest r number x)
unfolding goes_on
where_it_fits P rest r number (Err w) stops more = stops (Some (number, w))
where_it_fits P rest r number (Ok l) stops more = more l refl

module _ (chains : StepsAreChains) (looks : LooksStayTrue) (begin : LooksBeginTrue) (booked : StepsAreBooked) (starting : StartsAreBooked)
    (new : NewEndsAreBooked) where
  module _ (P : End → Type 0) (so : StaysSo P) where
    holds_from : (number : ℕ) (lines : List Line) (r : Run) → WorldHolds P so r.world → WorldHolds P so (run_from number lines r).world
    unfolding run_from
    holds_from number [] r holds = holds
    holds_from number (l ∷ ls) r holds =
        where_it_fits (λ (q : Run). WorldHolds P so q.world) _ r number (line r.world number l) (λ fault. holds)
        (λ x h. holds_from (number + 1) ls (after_line r x) (line_holds P so chains looks begin booked starting new r.world number holds x l h))

    all_of_runs : (lines : List Line) → WorldHolds P so (run_from 1 lines empty_run).world
    all_of_runs lines = holds_from 1 lines empty_run (λ n node h. absurd (none-some node (sym (at-none n) ∙ h)))

  nothing_more : StaysSo (λ e. Unit {0})
  nothing_more = record { new = λ r c. tt; bare = λ r c k sound. tt; starts_so = λ r c k sound suits moment block. tt; stays = λ e kept seen fit has moment block ev. tt }

  pub nodes_of_runs : NodesOfRuns
  nodes_of_runs lines fits n node is = (all_of_runs (λ e. Unit {0}) nothing_more lines n node is).0

  -- what new ends have, and ends that crashed, and what each step of an end keeps, each end of each run has
  pub properties_of_runs : PropertiesOfRuns
  properties_of_runs P so lines fits n node is = (all_of_runs P so lines n node is).1

pub ends_of_runs : NodesOfRuns → EndsOfRuns
ends_of_runs nodes lines fits n node is =
    let h = nodes lines fits n node is in
    elim (cases_Bool node.up) [
      | inl up ↦ let u = h.up up in (u.kept, u.looks, u.fit)
      | inr down ↦
          let r = node.end.role in
          let c = node.end.config in
          let k = node.checkpoint.book in
          subst (λ (e : End). AreKept e × LooksAreTrue e × Fits e) (sym (h.down down)) (bare_kept r c k, bare_looks r c k, bare_fits r c k h.sound)
    ]

-- a start of a node that is down
start_booked : StartsAreBooked → (node : Node) → HoldsNode node → node.up ≡ false → (moment : ℕ) (block : List ℕ)
    → StartIsBooked node.end node.checkpoint.book (starts node.end.role node.end.config node.checkpoint.book moment block)
start_booked starting node h down moment block =
    let r = node.end.role in
    let c = node.end.config in
    let k = node.checkpoint.book in
    subst (λ (e : End). StartIsBooked e k (starts r c k moment block)) (sym (h.down down)) (starting r c k h.sound h.suits moment block)

pub records_of_runs : NodesOfRuns → StepsAreBooked → StartsAreBooked → RecordsOfRuns
records_of_runs nodes booked starting lines fits n node is =
    let h = nodes lines fits n node is in
    record {
      steps = λ up moment block ev.
          (let u = h.up up in
          all_counted node.checkpoint (contents_of node.end (plain_step node.end moment block ev))
          (booked node.end node.checkpoint.book u.kept u.fit u.book moment block ev).in_place);
      start = λ down moment block.
          all_counted node.checkpoint (contents_of node.end (starts node.end.role node.end.config node.checkpoint.book moment block))
          (start_booked starting node h down moment block).in_place;
      back = λ down moment block. start_booked starting node h down moment block;
    }

pub ids_of_runs : NodesOfRuns → IdsOfRuns
ids_of_runs nodes lines fits n node is =
    let h = nodes lines fits n node is in
    let tunnels_down : node.up ≡ false → node.end.tunnel_ids.next ≡ node.checkpoint.book.tunnel_ceiling + 1 = λ down. ap (λ (e : End). e.tunnel_ids.next) (h.down down) in
    let draws_down : node.up ≡ false → node.end.recovery_ids.next ≡ node.checkpoint.book.draw_ceiling + 1 = λ down. ap (λ (e : End). e.recovery_ids.next) (h.down down) in
    let sessions_down : node.up ≡ false → node.end.session_ids.next ≡ node.checkpoint.book.session_ceiling + 1 = λ down. ap (λ (e : End). e.session_ids.next) (h.down down) in
    record {
      tunnels = elim (cases_Bool node.up) [
        | inl up ↦ (let u = h.up up in let d = u.fit.tunnel_ids.drawn in let c = u.book.tunnel_ceiling in omega (arith, d, c))
        | inr down ↦ (let e = tunnels_down down in omega (arith, e))
      ];
      sessions = elim (cases_Bool node.up) [
        | inl up ↦ (let u = h.up up in let d = u.fit.session_ids.drawn in let c = u.book.session_ceiling in omega (arith, d, c))
        | inr down ↦ (let e = sessions_down down in omega (arith, e))
      ];
      draws = elim (cases_Bool node.up) [
        | inl up ↦ (let u = h.up up in let d = u.fit.recovery_ids.drawn in let c = u.book.draw_ceiling in omega (arith, d, c))
        | inr down ↦ (let e = draws_down down in omega (arith, e))
      ];
      tunnels_down = tunnels_down;
      sessions_down = sessions_down;
      draws_down = draws_down;
    }

pub restarts_of_runs : NodesOfRuns → StartsBringBack → RestartsOfRuns
restarts_of_runs nodes back lines fits n node is up moment block =
    let h = nodes lines fits n node is in
    back node.end node.checkpoint.book (h.up up).book.mirrors h.sound h.suits moment block
