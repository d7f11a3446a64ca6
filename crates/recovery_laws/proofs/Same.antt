-- Ends that agree hold the same sessions, where the world is joined with the machine: from what the machine's ends hold.
use Rattle.std.proofs.Common.{◌≡◌, ℕ, ◌+◌, true, ◌&&◌, [], length, sym, ap, ◌∙◌, subst, leb-true, arith}
use Rattle.std.proofs.lemmas.Bool.{eqb-true}
use Rattle.std.proofs.lemmas.List.{take_all, drop_all}
use Rattle.std.specs.Prelude.{◌==◌, take}
use Rattle.std.specs.List.{list_any}
use Rattle.id_table.specs.Ids.{at}
use Rattle.wire_base.specs.declared.pair.Pair.{Pair}
use Rattle.tunnel_fsm.specs.Rows.{state_number}
use Rattle.control_channel.specs.Numbers.{next_given}
use Rattle.session_query.specs.Queries.{Asking, left_of, is_complete}
use Rattle.end_names.specs.Names.{node_of}
use Rattle.end_model.specs.Tunnels.{Tunnel, mode_of, is_current}
use Rattle.world_model.specs.World.{World, birth_of, epoch_of, standing_in}
use Rattle.world_model.specs.Run.{agree}
use Rattle.epoch_machine.specs.Worlds as machine
use Rattle.birth_laws.specs.Births.{BirthsOfRuns}
use Rattle.coverage_laws.specs.Coverage.{EndsAgree, IsComplete, AllTaken, HeldByBoth, CoverageOfRuns}
use Rattle.session_laws.specs.Names.{name}
use Rattle.session_laws.specs.Sessions.{HoldsSession, HoldTheSame}
use Rattle.session_laws.proofs.Agree.{and_left, and_right}
use Rattle.session_laws.proofs.Counts.{same_count}
use Rattle.channel_laws.specs.Accounts.{Account, heeded, History}
use Rattle.channel_laws.specs.Facts.{partner_in}
use Rattle.recovery_laws.specs.Queries.{questions_in, weigh, QueryJoined, QueriesJoined}
use Rattle.recovery_laws.specs.Same.{AgreeIn, NumbersFit, JoinedWorldsAgree}
use Rattle.recovery_laws.proofs.Weights.{letters_weigh}
use Rattle.recovery_laws.proofs.Pairs as pairs
use Rattle.recovery_laws.proofs.Pairs.{Ground, Two, swapped, two_of, link, linked, alike, heeds_all, up_state}

pub none_left : (q : Asking) → is_complete q ≡ true → left_of q ≡ []
none_left q h = drop_all q.done q.pairs (leb-true (length q.pairs) q.done h)

module _ (w : World) (h : History) (m : machine.World) (g : Ground w h m) (queries : QueriesJoined w h m) (numbers : NumbersFit w)
    (agrees : EndsAgree m) where
  -- each took all that was given to the other, and knows of all that it asked for
  record Rests (n i k j : ℕ) (t u : Tunnel) : Type 0 where
    two : Two w h m g n i k j t u
    current : is_current (mode_of t.recovery) ≡ true
    current_there : is_current (mode_of u.recovery) ≡ true
    took : t.control.channel.inbox.taken ≡ next_given u.control.channel
    taken : u.control.channel.inbox.taken ≡ next_given t.control.channel
    asks : IsComplete m (name n i)
    asked : IsComplete m (name k j)

  turned : (n i k j : ℕ) (t u : Tunnel) → Rests n i k j t u → Rests k j n i u t
  turned n i k j t u p = record {
    two = swapped w h m g n i k j t u p.two;
    current = p.current_there;
    current_there = p.current;
    took = p.taken;
    taken = p.took;
    asks = p.asked;
    asked = p.asks;
  }

  module _ (n i k j : ℕ) (t u : Tunnel) (r : Rests n i k j t u) where
    abbrev p : Two w h m g n i k j t u
    p = r.two

    abbrev e : ℕ
    e = epoch_of w n i

    abbrev a : Account
    a = h.accounts n i e

    abbrev b : Account
    b = h.accounts k j e

    -- the number of the next letter is that of the first one, and how many were given
    next_is : next_given t.control.channel ≡ a.first_given + length a.given
    next_is =
        let fits = numbers n p.one.node p.one.is i t p.one.there r.current in
        let c = p.here.channel.counted in
        let few = p.here.channel.few in
        let acked = p.here.channel.acked_is in
        omega (arith, fits, c, few, acked)

    -- the other end took all letters
    all_given : heeded b ≡ length a.given
    all_given =
        let all = heeds_all w h m g b (pairs.b_open w h m g n i k j t u p) in
        let next = next_is in
        let took = pairs.b_taken w h m g n i k j t u p in
        let same = r.taken in
        let begin = (alike w h m g n i k j t u p).here in
        omega (arith, all, next, took, same, begin)

    all_taken : AllTaken m (name n i) (name k j)
    all_taken =
        let sent = p.here.here.sent e in
        let weighs = letters_weigh n a.peer (questions_in a.taken) a.given in
        let taken = p.there.here.taken e in
        let whole : weigh (take (heeded b) (partner_in h.accounts e b).given) ≡ weigh a.given =
        ap (λ (x : Account). weigh (take (heeded b) x.given)) (pairs.partner_back w h m g n i k j t u p)
        ∙ ap weigh (take_all (heeded b) a.given (let all = all_given in omega (arith, all))) in
        let count : length (m.channels.sent (name n i) e) ≡ weigh a.given = ap length sent ∙ weighs in
        let took : m.channels.taken (name k j) e ≡ weigh a.given = taken ∙ whole in
        rw (p.here.here.entered) (omega (arith, count, took))

  -- what the machine says of an established call
  held_there : (n i k j : ℕ) (t u : Tunnel) → Rests n i k j t u → (s q : ℕ) → HoldsSession t s q → HeldByBoth m (name k j) (name n s)
  held_there n i k j t u r s q x =
      let p = r.two in
      let c = pairs.call_joined w h m g n i k j t u p s x.call x.live in
      agrees.agree (name n i) (name k j) (name n s) (linked w h m g n i k j t u p) p.here.phase p.there.phase r.asks r.asked
      (all_taken n i k j t u r)
      (all_taken k j n i u t (turned n i k j t u r)) c.tunnel (c.state ∙ up_state x.call.state x.up)

  other_name : (n i k j : ℕ) (t u : Tunnel) (r : Rests n i k j t u) (s q : ℕ) (x : HoldsSession t s q)
      → (held_there n i k j t u r s q x).other ≡ name k q
  other_name n i k j t u r s q x = sym (held_there n i k j t u r s q x).known ∙ pairs.remote_name w h m g n i k j t u r.two s q x

  -- each call that the one holds established is held by the other, and has one birth
  one_way : (n i k j : ℕ) (t u : Tunnel) → Rests n i k j t u → (s q : ℕ) → HoldsSession t s q → HoldsSession u q s
  one_way n i k j t u r s q x =
      let held = held_there n i k j t u r s q x in
      let is = other_name n i k j t u r s q x in
      let p = r.two in
      pairs.found w h m g n i k j t u p s q (pairs.session_of w h m g n i k j t u p s q x)
      (pairs.call_joined w h m g n i k j t u p s x.call x.live).some
      (pairs.remote_of w h m g n i k j t u p s q x) (subst (λ z. m.calls.state z ≡ Rattle.epoch_machine.specs.Calls.Up) is held.established)
      (subst (λ z. m.calls.tunnel z ≡ name k j) is held.tunnel) (subst (λ z. m.calls.remote z ≡ name n s) is held.knows)

  same_birth : (n i k j : ℕ) (t u : Tunnel) → Rests n i k j t u → (s q : ℕ) → HoldsSession t s q → birth_of w n s ≡ birth_of w k q
  same_birth n i k j t u r s q x =
      let p = r.two in
      let held = held_there n i k j t u r s q x in
      let here = g.joined.births.1 n s p.here.node (pairs.session_of w h m g n i k j t u p s q x) in
      let far = g.joined.births.1 k q p.there.node (pairs.remote_of w h m g n i k j t u p s q x) in
      sym here ∙ (sym held.birth ∙ (ap m.calls.birth (other_name n i k j t u r s q x) ∙ far))

  -- ---- ends that agree

  complete : (n i peer : ℕ) (t : Tunnel) → QueryJoined m n i peer t → is_complete t.query ≡ true → IsComplete m (name n i)
  complete n i peer t q is z = q.asks z ∙ ap (λ ps. list_any (λ (p : Pair). name n p.sender == z) ps) (none_left t.query is)

  rests_of : (n i k j : ℕ) (t u : Tunnel) → AgreeIn w n i k j t u → Rests n i k j t u
  unfolding agree
  rests_of n i k j t u x =
      let current_t = is_current (mode_of t.recovery) in
      let complete_t = is_complete t.query in
      let current_u = is_current (mode_of u.recovery) in
      let complete_u = is_complete u.query in
      let open_t = state_number t.control.state == 3 in
      let open_u = state_number u.control.state == 3 in
      let names = u.control.remote == t.control.local in
      let goes = node_of u.control.peer == n in
      let took = u.control.channel.inbox.taken == next_given t.control.channel in
      let takes = t.control.channel.inbox.taken == next_given u.control.channel in
      let epochs = (standing_in (at w.nodes n) t.control.local).epoch ==
      (standing_in (at w.nodes (node_of t.control.peer)) u.control.local).epoch in
      let both = and_left ((current_t && complete_t) && (current_u && complete_u)) (epochs && agree n t.control u.control) x.alike in
      let rest = and_right ((current_t && complete_t) && (current_u && complete_u)) (epochs && agree n t.control u.control) x.alike in
      let one = and_left (current_t && complete_t) (current_u && complete_u) both in
      let other = and_right (current_t && complete_t) (current_u && complete_u) both in
      let all = and_right epochs (agree n t.control u.control) rest in
      let six = and_left ((((open_t && open_u) && names) && goes) && took) takes all in
      let five = and_left (((open_t && open_u) && names) && goes) took six in
      let four = and_left ((open_t && open_u) && names) goes five in
      let two = and_left (open_t && open_u) names four in
      let three : state_number t.control.state ≡ 3 = eqb-true (state_number t.control.state) 3 (and_left open_t open_u two) in
      let three_there : state_number u.control.state ≡ 3 = eqb-true (state_number u.control.state) 3 (and_right open_t open_u two) in
      let current = and_left current_t complete_t one in
      let current_there = and_left current_u complete_u other in
      let here = pairs.seen w h m g n i t x.one current three in
      record {
        two = two_of w h m g n i k j t u (record {
          one = x.one;
          other = x.other;
          goes = x.peer;
          to = x.remote;
          comes = eqb-true (node_of u.control.peer) n (and_right ((open_t && open_u) && names) goes five);
          back = eqb-true u.control.remote t.control.local (and_right (open_t && open_u) names four) ∙ here.live.local;
          current = current;
          established = three;
          current_there = current_there;
          established_there = three_there;
        });
        current = current;
        current_there = current_there;
        took = eqb-true t.control.channel.inbox.taken (next_given u.control.channel)
            (and_right ((((open_t && open_u) && names) && goes) && took) takes all);
        taken = eqb-true u.control.channel.inbox.taken (next_given t.control.channel)
            (and_right (((open_t && open_u) && names) && goes) took six);
        asks = complete n i _ t (queries n i t x.one current three) (and_right current_t complete_t one);
        asked = complete k j _ u (queries k j u x.other current_there three_there) (and_right current_u complete_u other);
      }

  hold_the_same : (n i k j : ℕ) (t u : Tunnel) → AgreeIn w n i k j t u → HoldTheSame w n k t u
  hold_the_same n i k j t u x =
      let r = rests_of n i k j t u x in
      let p = r.two in
      let there = one_way n i k j t u r in
      let here : (s q : ℕ) → HoldsSession u q s → HoldsSession t s q = λ s q y. one_way k j n i u t (turned n i k j t u r) q s y in
      record {
        there = there;
        here = here;
        births = same_birth n i k j t u r;
        count = same_count t u (p.here.up.kept.tunnels i t p.one.there).calls (p.there.up.kept.tunnels j u p.other.there).calls there here;
      }

pub joined_worlds_agree : BirthsOfRuns → CoverageOfRuns → JoinedWorldsAgree
joined_worlds_agree births coverage w h m nodes holds joined queries numbers =
    hold_the_same w h m (pairs.ground_of births coverage w h m nodes holds joined) queries numbers
    (subst EndsAgree (sym joined.run) (coverage.ends_agree joined.moves))
