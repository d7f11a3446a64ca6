-- Two tunnels that both report that they are resynchronised, with nothing outstanding, are open. Where they are covered, they are in one
-- epoch too, and so they agree. And two that agree report so.
use Rattle.std.proofs.Common.{◌≡◌, ℕ, ◌&&◌, sym, ap, ap₂, ◌∙◌, subst}
use Rattle.std.proofs.lemmas.Bool.{eqb-true, eq-eqb, and_from}
use Rattle.std.specs.Prelude.{◌==◌}
use Rattle.id_table.specs.Ids.{at}
use Rattle.tunnel_fsm.specs.Rows.{state_number}
use Rattle.control_channel.specs.Numbers.{next_given}
use Rattle.session_query.specs.Queries.{is_complete}
use Rattle.end_names.specs.Names.{node_of}
use Rattle.end_model.specs.Tunnels.{Tunnel, mode_of, is_current}
use Rattle.world_model.specs.World.{World, epoch_of, standing_in, standing_of}
use Rattle.world_model.specs.Run.{agree, is_resynchronised}
use Rattle.session_laws.proofs.Agree.{and_left, and_right}
use Rattle.channel_laws.specs.Accounts.{History}
use Rattle.channel_laws.specs.Epochs.{IsLive}
use Rattle.channel_laws.specs.Facts.{EndOk, BookOk, NodeOk, Holds}
use Rattle.recovery_laws.specs.Covered.{AreOpen, AreCovered}
use Rattle.recovery_laws.specs.Same.{AgreeIn}
use Rattle.run_join_laws.specs.Runs.{BothReport, AgreementsAreReports}

-- a live tunnel has the id by which it is found
own_id : (w : World) (h : History) → Holds w h → (n i : ℕ) (t : Tunnel) → IsLive w n i t → t.control.local ≡ i
own_id w h holds n i t is =
    let k : EndOk w h n is.node.end × BookOk h n is.node.checkpoint.book = subst (NodeOk w h n) is.is (holds.nodes n) in
    (k.0.live i t is.there).local

module _ (w : World) (h : History) (holds : Holds w h) (n i m j : ℕ) (t u : Tunnel) (r : BothReport w n i m j t u) where
  pub are_open : AreOpen w n i m j t u
  unfolding agree
  are_open =
      let open_t = state_number t.control.state == 3 in
      let open_u = state_number u.control.state == 3 in
      let names = u.control.remote == t.control.local in
      let goes = node_of u.control.peer == n in
      let took = u.control.channel.inbox.taken == next_given t.control.channel in
      let takes = t.control.channel.inbox.taken == next_given u.control.channel in
      let five = and_left ((((open_t && open_u) && names) && goes) && took) takes r.agree in
      let four = and_left (((open_t && open_u) && names) && goes) took five in
      let three = and_left ((open_t && open_u) && names) goes four in
      let two = and_left (open_t && open_u) names three in
      record {
        one = r.one;
        other = r.other;
        goes = r.peer;
        to = r.remote;
        comes = eqb-true (node_of u.control.peer) n (and_right ((open_t && open_u) && names) goes four);
        back = eqb-true u.control.remote t.control.local (and_right (open_t && open_u) names three) ∙ own_id w h holds n i t r.one;
        current = and_left (is_current (mode_of t.recovery)) (is_complete t.query) r.resynchronised.0;
        established = eqb-true (state_number t.control.state) 3 (and_left open_t open_u two);
        current_there = and_left (is_current (mode_of u.recovery)) (is_complete u.query) r.resynchronised.1;
        established_there = eqb-true (state_number u.control.state) 3 (and_right open_t open_u two);
      }

  -- the epochs that the report compares
  same_epoch : epoch_of w n i ≡ epoch_of w m j
      → (standing_in (at w.nodes n) t.control.local).epoch ≡ (standing_in (at w.nodes (node_of t.control.peer)) u.control.local).epoch
  unfolding standing_of
  same_epoch same =
      ap (λ x. (standing_in (at w.nodes n) x).epoch) (own_id w h holds n i t r.one)
      ∙ (same ∙ sym (ap₂ (λ p x. (standing_in (at w.nodes p) x).epoch) r.peer (own_id w h holds m j u r.other)))

  pub they_agree : AreCovered w n i m j t u → AgreeIn w n i m j t u
  they_agree c =
      let here = (standing_in (at w.nodes n) t.control.local).epoch in
      let there = (standing_in (at w.nodes (node_of t.control.peer)) u.control.local).epoch in
      record {
        one = r.one;
        other = r.other;
        peer = r.peer;
        remote = r.remote;
        alike =
            and_from (is_resynchronised t && is_resynchronised u) ((here == there) && agree n t.control u.control)
            (and_from (is_resynchronised t) (is_resynchronised u) r.resynchronised.0 r.resynchronised.1)
            (and_from (here == there) (agree n t.control u.control) (eq-eqb here there (same_epoch c.epochs)) r.agree);
      }

pub agreements_are_reports : AgreementsAreReports
agreements_are_reports w n i m j t u x =
    let here = (standing_in (at w.nodes n) t.control.local).epoch in
    let there = (standing_in (at w.nodes (node_of t.control.peer)) u.control.local).epoch in
    let both = is_resynchronised t && is_resynchronised u in
    let rest = (here == there) && agree n t.control u.control in
    let resynchronised = and_left both rest x.alike in
    record {
      one = x.one;
      other = x.other;
      peer = x.peer;
      remote = x.remote;
      resynchronised = (
        and_left (is_resynchronised t) (is_resynchronised u) resynchronised,
        and_right (is_resynchronised t) (is_resynchronised u) resynchronised,
      );
      agree = and_right (here == there) (agree n t.control u.control) (and_right both rest x.alike);
    }
