-- A LAC's tunnel that agrees with its partner holds the same sessions, over every run.
use Rattle.std.proofs.Common.{◌≡◌, ℕ, ◌^◌, ◌<◌, Bool, true, false, cond, ◌&&◌, List, length, refl, sym, ap, ◌∙◌, subst, Option, Some, None, arith}
use Rattle.std.proofs.lemmas.Bool.{eqb-true, true≢false}
use Rattle.std.specs.Prelude.{◌==◌, option_map}
use Rattle.id_table.specs.Ids.{at}
use Rattle.id_table.specs.Order.{Ascends}
use Rattle.tunnel_fsm.specs.Rows.{state_number}
use Rattle.control_channel.specs.Numbers.{next_given}
use Rattle.schedule_text.specs.declared.line.Line.{Line}
use Rattle.schedule_text.specs.Grammar.{AreLines}
use Rattle.end_names.specs.declared.role.Role.{Role}
use Rattle.end_names.specs.declared.role.Role.TheVariants.{Lac, Lns}
use Rattle.end_model.specs.Calls.{is_lac}
use Rattle.end_names.specs.Names.{node_of}
use Rattle.end_model.specs.Tunnels.{Tunnel}
use Rattle.world_model.specs.World.{World, Node, birth_of}
use Rattle.world_model.specs.Run.{Run, run, empty_run, partner_of, lns_tunnel, agree}
use Rattle.step_laws.specs.Calm.{AreCalm}
use Rattle.epoch_machine.specs.Worlds as machine
use Rattle.epoch_machine.specs.Worlds.{all_rules}
use Rattle.birth_laws.specs.Births as births
use Rattle.coverage_laws.specs.Coverage as coverage
use Rattle.connection_laws.specs.Accounts.{account_of}
use Rattle.connection_laws.specs.Facts.{Accounts, NodeOk, EndOk}
use Rattle.connection_laws.specs.Steps.{MovesKeep, LinesGoOn, RunsBegin}
use Rattle.session_laws.specs.Names.{name}
use Rattle.session_laws.specs.Joined.{Ends, NodeJoined, CallsJoined, AreJoined, mate_of, MateJoined, BirthsJoined, MatesJoined, ends_of}
use Rattle.session_laws.specs.Sessions.{HoldsSession, AgreeIn, SessionsAgree, JoinedInRuns, SessionsOfRuns}
use Rattle.session_laws.proofs.Keeps.{Laws, MovesFollow}
use Rattle.session_laws.proofs.Names.{node_again, known_name, name_not_zero}
use Rattle.session_laws.proofs.Agree.{and_left, and_right, OpenAt, Pair, swapped, one_way}
use Rattle.session_laws.proofs.Counts.{same_count}
use Rattle.session_laws.proofs.Runs.{RunOk, ended_from, at_first}

-- ---- the partner of a LAC's tunnel

-- the tunnel with an id, at an LNS
record IsAt (o : Option Node) (i : ℕ) (u : Tunnel) : Type 0 where
  node : Node
  is : o ≡ Some node
  lns : node.end.role ≡ Lns
  there : at node.end.tunnels i ≡ Some u

no_lac : (r : Role) → is_lac r ≡ false → r ≡ Lns
no_lac Lac h = absurd (true≢false h)
no_lac Lns h = refl

at_lns : (i : ℕ) (o : Option Node) (u : Tunnel) → lns_tunnel i o ≡ Some u → IsAt o i u
unfolding lns_tunnel
at_lns i None u h = absurd cc
at_lns i (Some node) u h = by (is_lac node.end.role) refl h
  where
    by : (b : Bool) → is_lac node.end.role ≡ b → cond b None (at node.end.tunnels i) ≡ Some u → IsAt (Some node) i u
    by true lac e = absurd cc
    by false other e = record { node = node; is = refl; lns = no_lac node.end.role other; there = e }

-- ---- mates

end_is : (nodes : List (ℕ × Node)) (n : ℕ) (node : Node) → at nodes n ≡ Some node → ends_of nodes n ≡ Some node.end
end_is nodes n node is = ap (λ (o : Option Node). option_map (λ (x : Node). x.end) o) is

-- the mate that the machine has of a session is the name that its call knows, so it is the one that the end knows
live_mates : (told : World) (accs : Accounts) (ends : Ends) (w : machine.World) → AreJoined accs ends w → BirthsJoined told ends w → MatesJoined accs ends w
live_mates told accs ends w joined births n lt e here i t there s c live =
    let calls : NodeJoined w accs n (Some e) = subst (λ o. NodeJoined w accs n o) here (joined.nodes n lt) in
    let below = calls.drawn i t there s c live in
    let most = calls.most in
    let mate : MateJoined w n s (Some e) = subst (λ o. MateJoined w n s o) here (births.mate n s lt (omega arith)) in
    mate ∙ ap (λ r. mate_of e.role r) (calls.live i t there s c live).remote

-- ---- a run

module _ (laws : Laws) where
  module _ (r : Run) (ok : RunOk r) where
    abbrev w : World
    w = r.world

    abbrev mw : machine.World
    mw = ok.follows.world

    known : births.CallsHold ok.follows.world.tunnels ok.follows.world.calls
    known =
        let j = ok.follows.joined in
        subst (λ (m : machine.World). births.CallsHold m.tunnels m.calls) (sym j.run) (laws.births.calls j.moves)

    agrees : coverage.EndsAgree ok.follows.world
    agrees = let j = ok.follows.joined in subst coverage.EndsAgree (sym j.run) (laws.coverage.ends_agree j.moves)

    -- ---- births

    node_fits : (n : ℕ) (node : Node) → at w.nodes n ≡ Some node → n < 256
    node_fits n node is =
        let accs = account_of r.done in
        let k : NodeOk accs n (Some node) = subst (NodeOk accs n) is (ok.holds.holds.nodes n) in
        k.0.node

    calls_at : (n : ℕ) (node : Node) → at w.nodes n ≡ Some node → CallsJoined mw (account_of r.done) n node.end
    calls_at n node is =
        subst (λ o. NodeJoined mw (account_of r.done) n o) (end_is w.nodes n node is) (ok.follows.joined.nodes n (node_fits n node is))

    session_fits : (n : ℕ) (node : Node) → at w.nodes n ≡ Some node → (i : ℕ) (t : Tunnel) → at node.end.tunnels i ≡ Some t → (s q : ℕ)
        → HoldsSession t s q → s < 65536
    session_fits n node is i t there s q h =
        let calls = calls_at n node is in
        let below = calls.drawn i t there s h.call h.live in
        let most = calls.most in
        omega arith

    -- an LNS's call has the birth of its mate, which is the one that it knows
    same_birth : (n : ℕ) (node : Node) → at w.nodes n ≡ Some node → (i : ℕ) (t : Tunnel) → at node.end.tunnels i ≡ Some t
        → (m : ℕ) (other : Node) → at w.nodes m ≡ Some other → other.end.role ≡ Lns → (j : ℕ) (u : Tunnel) → at other.end.tunnels j ≡ Some u
        → (account_of r.done m j).peer ≡ n → (s q : ℕ) → HoldsSession t s q → HoldsSession u q s → birth_of w n s ≡ birth_of w m q
    same_birth n node is i t there m other is_other lns j u there_other comes s q h g =
        let accs = account_of r.done in
        let births = ok.follows.births in
        let some = ((calls_at n node is).live i t there s h.call h.live).some in
        let mate = live_mates w accs (ends_of w.nodes) mw ok.follows.joined births m (node_fits m other is_other) other.end (end_is w.nodes m other is_other)
        j u there_other q g.call g.live in
        let is_mate : mw.calls.mate (name m q) ≡ name n s = mate ∙ rw (lns, comes, g.known) (known_name n s some) in
        sym (births.birth n s (node_fits n node is) (session_fits n node is i t there s q h))
        ∙ ap mw.calls.birth (sym is_mate)
        ∙ sym (known.mate_birth (name m q) (λ none. name_not_zero n s some (sym is_mate ∙ none)))
        ∙ births.birth m q (node_fits m other is_other) (session_fits m other is_other j u there_other q s g)

    -- ---- pairs

    pair_of : (n i : ℕ) (t u : Tunnel) → AgreeIn w n i t u
        → Pair w (account_of r.done) ok.most ok.few ok.holds.holds ok.holds.given ok.follows.world ok.follows.joined known agrees
        n i t (node_of t.control.peer) t.control.remote u
    unfolding partner_of agree
    pair_of n i t u h =
        let accs = account_of r.done in
        let m = node_of t.control.peer in
        let p = at_lns t.control.remote (at w.nodes m) u h.partner in
        let open_t = state_number t.control.state == 3 in
        let open_u = state_number u.control.state == 3 in
        let names = u.control.remote == t.control.local in
        let goes = node_of u.control.peer == n in
        let took = u.control.channel.inbox.taken == next_given t.control.channel in
        let takes = t.control.channel.inbox.taken == next_given u.control.channel in
        let one = h.all in
        let two = and_left ((((open_t && open_u) && names) && goes) && took) takes one in
        let three = and_left (((open_t && open_u) && names) && goes) took two in
        let four = and_left ((open_t && open_u) && names) goes three in
        let five = and_left (open_t && open_u) names four in
        let ok_t : EndOk accs n h.node.end = (let k : NodeOk accs n (Some h.node) = subst (NodeOk accs n) h.is (ok.holds.holds.nodes n) in k.0) in
        let ok_u : EndOk accs m p.node.end = (let k : NodeOk accs m (Some p.node) = subst (NodeOk accs m) p.is (ok.holds.holds.nodes m) in k.0) in
        let live_t = ok_t.live i t h.there in
        let live_u = ok_u.live t.control.remote u p.there in
        let local = live_t.local in
        record {
          one = record { node = h.node; is = h.is; there = h.there; open_is = eqb-true (state_number t.control.state) 3 (and_left open_t open_u five) };
          other = record { node = p.node; is = p.is; there = p.there; open_is = eqb-true (state_number u.control.state) 3 (and_right open_t open_u five) };
          forth = sym live_t.remote;
          goes = sym (ap node_of live_t.peer ∙ node_again (accs n i).peer (ok.holds.holds.accounts n i).peer);
          back = sym live_u.remote ∙ (eqb-true u.control.remote t.control.local (and_right (open_t && open_u) names four) ∙ local);
          comes = sym (ap node_of live_u.peer ∙ node_again (accs m t.control.remote).peer (ok.holds.holds.accounts m t.control.remote).peer)
              ∙ eqb-true (node_of u.control.peer) n (and_right ((open_t && open_u) && names) goes three);
          took = eqb-true t.control.channel.inbox.taken (next_given u.control.channel) (and_right ((((open_t && open_u) && names) && goes) && took) takes one);
          taken = eqb-true u.control.channel.inbox.taken (next_given t.control.channel) (and_right (((open_t && open_u) && names) && goes) took two);
        }

    sorted_in : (n i : ℕ) (t : Tunnel)
        → OpenAt w (account_of r.done) ok.most ok.few ok.holds.holds ok.holds.given ok.follows.world ok.follows.joined known agrees n i t → Ascends t.calls
    sorted_in n i t o =
        let accs = account_of r.done in
        let k : NodeOk accs n (Some o.node) = subst (NodeOk accs n) o.is (ok.holds.holds.nodes n) in
        (k.0.live i t o.there).order

    agree_hold : SessionsAgree r
    unfolding partner_of
    agree_hold n i t u h =
        let accs = account_of r.done in
        let m = node_of t.control.peer in
        let p = pair_of n i t u h in
        let way = one_way w accs ok.most ok.few ok.holds.holds ok.holds.given ok.follows.world ok.follows.joined known agrees in
        let back = swapped w accs ok.most ok.few ok.holds.holds ok.holds.given ok.follows.world ok.follows.joined known agrees n i t m t.control.remote u p in
        record {
          there = way n i t m t.control.remote u p;
          here = λ s q. way m t.control.remote u n i t back q s;
          births = λ s q held.
              (let found = at_lns t.control.remote (at w.nodes m) u h.partner in
              same_birth n h.node h.is i t h.there m found.node found.is found.lns t.control.remote u found.there p.comes s q held
              (way n i t m t.control.remote u p s q held));
          count = same_count t u (sorted_in n i t p.one) (sorted_in m t.control.remote u p.other) (way n i t m t.control.remote u p)
              (λ s q. way m t.control.remote u n i t back q s);
        }

  module _ (keep : MovesKeep) (follow : MovesFollow) (lines_go_on : LinesGoOn) (begins : RunsBegin) where
    run_ok : (lines : List Line) → AreLines lines → AreCalm lines → length lines < 2 ^ 47 → RunOk (run lines)
    run_ok lines fits calm few = ended_from keep follow lines_go_on 1 lines empty_run 0 fits calm begins at_first (omega (arith, few)) (omega (arith, few))

    pub joined_in_runs : JoinedInRuns
    joined_in_runs lines fits calm few =
        let r = run lines in
        let k = (run_ok lines fits calm few).follows in
        record {
          machine = k.world;
          joined = k.joined;
          births = k.births;
          replies = k.replies;
          mates = live_mates r.world (account_of r.done) (ends_of r.world.nodes) k.world k.joined k.births;
        }

    pub sessions_of_runs : SessionsOfRuns
    sessions_of_runs lines fits calm few = agree_hold (run lines) (run_ok lines fits calm few)
