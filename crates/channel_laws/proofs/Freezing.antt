-- An answer to a peer's attempt is given: it makes an epoch of the link, and freezes its tunnel.
use Rattle.std.proofs.Common.{◌≡◌, ◌⊎◌, inl, inr, ⊎_elim, ℕ, ◌+◌, ◌<◌, ◌≤◌, Bool, true, false, List, refl, sym, ap, ap₂, ◌∙◌, subst, Option, Some, None, Ok, arith}
use Rattle.std.proofs.lemmas.Bool.{true≢false, eqb-true, eq-eqb}
use Rattle.std.specs.Prelude.{is_some, min, ◌^◌, ◌-◌, ◌==◌, ◌&&◌, if◌then◌else◌}
use Rattle.std.specs.List.{AllByRecursion}
use Rattle.id_source.specs.Spaces.{Space, draw_is, next_is, after_id}
use Rattle.id_table.specs.Ids.{at}
use Rattle.id_table.specs.Order.{same_or_not}
use Rattle.l2tp_header.specs.Reading.{body_of}
use Rattle.control_message.specs.declared.message.Message.{Message}
use Rattle.control_message.specs.declared.message.Message.TheVariants.{Sccrq}
use Rattle.control_message.specs.declared.message.Opening.{Opening}
use Rattle.control_message.specs.declared.message.Recovery.{Recovery}
use Rattle.control_message.specs.declared.message.Suggested.{Suggested}
use Rattle.recovery_tunnel.specs.Connections.{ControlConnection, is_waiting}
use Rattle.end_names.specs.Names.{address_of, node_of}
use Rattle.end_model.specs.declared.event.Event.{Event}
use Rattle.end_model.specs.declared.moves.Restored.{Restored}
use Rattle.end_model.specs.declared.moves.Froze.{Froze}
use Rattle.end_model.specs.declared.moves.Move.TheVariants as move
use Rattle.end_model.specs.Reading.{message_in}
use Rattle.end_model.specs.Recovering.{suggested_by, frozen_control}
use Rattle.end_model.specs.Tunnels.{Tunnel, ByAnswer, mode_of, is_current}
use Rattle.end_model.specs.End.{End}
use Rattle.world_model.specs.declared.packet.Packet.{Packet}
use Rattle.world_model.specs.declared.standing.Standing.{Standing}
use Rattle.world_model.specs.World.{World, Node, Sender, Deed, epoch_of, standing_of, has_made, makes_epoch, moved}
use Rattle.step_laws.specs.Moves.{Freezes, finished_of}
use Rattle.frame_laws.specs.Codecs.{Codecs}
use Rattle.frame_laws.specs.Written.{IsWritten as IsWrittenPlainly}
use Rattle.frame_laws.specs.Plain.{IsReadAs, AsAMessage, AsAFault, message_there, no_message_there}
use Rattle.book_laws.proofs.Finished.{finished_found}
use Rattle.connection_laws.proofs.Hearing.{no_message, same_address}
use Rattle.channel_laws.proofs.Spelled.{plainly_read}
use Rattle.channel_laws.specs.Accounts.{Acceptor, Account, History, about, declined_in, declines_of, entered_by, after_deed, attempts_by, answers_by, after}
use Rattle.channel_laws.specs.Facts.{IsMade, partner_in, makes, AreLinked, AnswerOk, AttemptOk, IsRecovered, LiveOk, IdsOk, EndOk, BookOk, NodeOk, StandingOk, SaysRecovery, AsksFor, Suggests, Confirms, Refuses, PacketOk, Holds, QueryOk}
use Rattle.channel_laws.specs.Recoveries.{WrittenIsRead, WrittenHasRoom}
use Rattle.channel_laws.specs.Steps.{with_end, moves_on, IsMoved}
use Rattle.channel_laws.proofs.Growing.{Grows, account_grows, answers_grow, packets_grow}
use Rattle.channel_laws.proofs.Ends.{put_end_ok}
use Rattle.channel_laws.proofs.Entering.{base_here, base_other, base_same, base_makes}
use Rattle.channel_laws.proofs.Making.{SameNode, IsThere, there_still, same_answer, same_then, MadeOnly, has_made_only, answered, answers_so, answered_here, answered_other, answered_standing, own_answer, other_answer}
use Rattle.channel_laws.proofs.Answered.{live_stays, account_more, book_more, attempt_more, answer_more, live_more, standing_more, packets_more}
use Rattle.channel_laws.proofs.Waiting.{not_reset, node_again, waits_inactive}
use Rattle.channel_laws.proofs.Established.{KnowsOwn, established_knows, known_by_one}
use Rattle.channel_laws.proofs.Coming.{FromTunnel, OfNoTunnel, OfRecovery, heard}

-- what is written by the rules of runs without recoveries asks for none
plain_unasked : (l : Message) (body : List ℕ) (o : Opening) → IsReadAs l body → message_in body ≡ Ok (Sccrq o) → o.recovery ≡ None
plain_unasked l body o (AsAMessage avps y pairs reads written alike) said =
    let both = sym (message_there body avps y pairs reads) ∙ said in
    let same : y ≡ Sccrq o = cc in
    (subst IsWrittenPlainly same written).0.recovery
plain_unasked l body o (AsAFault avps own serial number is fits pairs fault kind told) said =
    let both = sym (no_message_there body avps own pairs fault kind told) ∙ said in absurd cc

-- the attempt that asks for the recovery of a tunnel
pub record IsAsked (h : History) (n remote peer attempt : ℕ) : Type 0 where
  pub from : ℕ
  pub from_fits : from < 256
  pub address : peer ≡ address_of from
  pub tried : Restored
  pub there : h.attempts from attempt ≡ Some tried
  pub local_is : tried.tunnel.local ≡ remote
  pub goes : tried.tunnel.peer ≡ address_of n

module _ (codecs : Codecs) (again : WrittenIsRead) (room : WrittenHasRoom) (w : World) (h : History) (n : ℕ) (node : Node) (sender : Option Sender) (moment : ℕ) (ev : Event)
    (m : Froze) (x : End) (d : Deed) (k : IsMoved w h n node sender moment ev (move.Froze m) x d) where
  abbrev pub does : Freezes node.end ev m x
  does = k.does

  abbrev pub i : ℕ
  i = m.tunnel

  abbrev pub other : ℕ
  other = node_of m.peer

  both_ok : EndOk w h n node.end × BookOk h n node.checkpoint.book
  both_ok = subst (NodeOk w h n) k.there (k.holds.nodes n)

  pub live : LiveOk w h n i does.tunnel
  live = both_ok.0.live i does.tunnel does.there

  -- ---- what asks for it

  by_message : (p : Packet) (own named : ℕ) (q : Message) → SaysRecovery w h p own named q → q ≡ Sccrq does.opening → p.from < 256 → p.to ≡ n → m.peer ≡ address_of p.from
      → IsAsked h n m.remote m.peer m.attempt
  by_message p own named _ (AsksFor r o is peer id recovery draw) same fits to from =
      let one : o ≡ does.opening = cc in
      let both = sym recovery.1 ∙ (ap (λ (y : Opening). y.recovery) one ∙ does.named) in
      let names : ◌≡◌ {A = Recovery} recovery.0 (record { sender = m.remote; receiver = m.tunnel }) = cc in
      record {
        from = p.from;
        from_fits = fits;
        address = from;
        tried = r;
        there = ap (h.attempts p.from) (does.attempt ∙ (ap (λ (y : Opening). y.tunnel) (sym one) ∙ id)) ∙ is;
        local_is = sym recovery.2 ∙ ap (λ (y : Recovery). y.sender) names;
        goes = peer ∙ ap address_of to;
      }
  by_message p own named _ (Suggests f o is to id suggested attempt) same fits to_n from = absurd cc
  by_message p own named _ (Confirms f response is attempt from_is le) same fits to_n from = absurd cc
  by_message p own named _ (Refuses result error fit) same fits to_n from = absurd cc

  pub asked : IsAsked h n m.remote m.peer m.attempt
  asked = ⊎_elim
      (λ (f : FromTunnel w h n node.end sender does.letter does.came.bytes). ⊎_elim
      (λ q.
      let none = plain_unasked q.letter.message (body_of does.came.bytes does.letter.header) does.opening
      (plainly_read q.letter (body_of does.came.bytes does.letter.header) q.reads (Sccrq does.opening)
      (ap message_in (sym does.came.body_is) ∙ does.said) (λ z. z)).reads
      (ap message_in (sym does.came.body_is) ∙ does.said) in
      let no = sym none ∙ does.named in absurd cc)
      (λ q. absurd (no_message codecs (Sccrq does.opening) (ap message_in (sym q.body) ∙ (ap message_in (sym does.came.body_is) ∙ does.said))))
      f.read.says)
      (λ r. ⊎_elim
      (λ (f : OfNoTunnel w h n node.end sender does.letter does.came.bytes).
      let both = sym f.read.said ∙ (ap message_in (sym does.came.body_is) ∙ does.said) in absurd cc)
      (λ (f : OfRecovery w h n sender does.letter). ⊎_elim
      (λ none. absurd (no_message codecs (Sccrq does.opening) (ap message_in (sym none) ∙ does.said)))
      (λ q.
      let both = sym q.2 ∙ does.said in
      let same : q.0 ≡ Sccrq does.opening = cc in
      by_message f.packet f.own f.sent.named q.0 q.1 same f.from f.to (sym does.from ∙ f.peer_is))
      f.says) r)
      (heard w h k.holds codecs again room n node.end sender ev k.comes does.letter does.came)

  pub tried_ok : AttemptOk h asked.from m.attempt asked.tried
  tried_ok = k.holds.attempts asked.from m.attempt asked.tried asked.there

  pub other_is : other ≡ asked.from
  other_is = ap node_of asked.address ∙ node_again asked.from asked.from_fits

  link_from : AreLinked h.accounts n i asked.from m.remote
  link_from =
      let b = tried_ok.booked in
      known_by_one w h k.holds n i asked.from m.remote live.made (subst (λ j. IsMade (h.accounts asked.from j 0)) asked.local_is b.made)
      (same_address _ _ (sym live.peer ∙ (sym does.peer ∙ asked.address)))
      (ap (λ j. (h.accounts asked.from j 0).peer) (sym asked.local_is) ∙ same_address _ _ (sym b.peer ∙ asked.goes))
      (subst (KnowsOwn h.accounts n i) (sym does.remote) (established_knows w h k.holds n i does.tunnel live does.open_is))
      (subst (λ j. (h.accounts asked.from j 0).part ≡ Acceptor → (partner_in h.accounts 0 (h.accounts asked.from j 0)).remote ≡ j) asked.local_is b.learned)
      (subst (λ j. (h.accounts asked.from j 0).closed ≡ Some 0 → ⊥) asked.local_is b.late)

  pub link : AreLinked h.accounts n i other m.remote
  link = subst (λ q. AreLinked h.accounts n i q m.remote) (sym other_is) link_from

  pub made_other : IsMade (h.accounts other m.remote 0)
  made_other = subst (λ q. IsMade (h.accounts q m.remote 0)) (sym other_is) (subst (λ j. IsMade (h.accounts asked.from j 0)) asked.local_is tried_ok.booked.made)

  -- ---- its id is new

  pub drawn : (m.answer ≡ node.end.tunnel_ids.next) × (m.answer ≤ node.end.tunnel_ids.last)
  drawn = draw_is node.end.tunnel_ids m.answer does.local

  pub fresh : h.answers n m.answer ≡ None
  fresh = by (h.answers n m.answer) refl
    where
      by : (o : Option Froze) → h.answers n m.answer ≡ o → o ≡ None
      by None is = refl
      by (Some f) is = (let lt = both_ok.0.ids.answers m.answer (ap is_some is) in let next = drawn.0 in absurd (omega (arith, lt, next)))

  -- ---- what is known then

  abbrev pub answers_then : ℕ → ℕ → Option Froze
  answers_then = λ p c. answers_by d d.move p c (h.answers p c)

  answers_are : (p c : ℕ) → answers_then p c ≡ (if (d.node == p) && (m.answer == c) then Some m else h.answers p c)
  answers_are p c = ap (λ q. answers_by d q p c (h.answers p c)) k.deed.move_is

  pub own_answered : answers_then n m.answer ≡ Some m
  own_answered = answers_are n m.answer ∙ (ap (λ b. if b && (m.answer == m.answer) then Some m else h.answers n m.answer) (eq-eqb d.node n k.deed.node_is)
      ∙ ap (λ b. if true && b then Some m else h.answers n m.answer) (eq-eqb m.answer m.answer refl))

  both_true : (a b : Bool) → a && b ≡ true → (a ≡ true) × (b ≡ true)
  both_true true true is = (refl, refl)
  both_true true false is = absurd (true≢false (sym is))
  both_true false b is = absurd (true≢false (sym is))

  pub other_answered : (p c : ℕ) → ((p ≡ n) × (c ≡ m.answer) → ⊥) → answers_then p c ≡ h.answers p c
  other_answered p c apart = answers_are p c ∙ by ((d.node == p) && (m.answer == c)) refl
    where
      by : (b : Bool) → (d.node == p) && (m.answer == c) ≡ b → (if b then Some m else h.answers p c) ≡ h.answers p c
      by true is = (let both = both_true (d.node == p) (m.answer == c) is in absurd (apart (sym (eqb-true d.node p both.0) ∙ k.deed.node_is, sym (eqb-true m.answer c both.1))))
      by false is = refl

  pub either : (p c : ℕ) → ((p ≡ n) × (c ≡ m.answer)) ⊎ ((p ≡ n) × (c ≡ m.answer) → ⊥)
  either p c = ⊎_elim
      (λ (a : p ≡ n). ⊎_elim (λ (b : c ≡ m.answer). inl (a, b)) (λ no. inr (λ (r : (p ≡ n) × (c ≡ m.answer)). no r.1)) (same_or_not c m.answer))
      (λ no. inr (λ (r : (p ≡ n) × (c ≡ m.answer)). no r.0))
      (same_or_not p n)

  pub not_new : (p c : ℕ) (f : Froze) → h.answers p c ≡ Some f → (p ≡ n) × (c ≡ m.answer) → ⊥
  not_new p c f is both = let no : Some f ≡ None = sym is ∙ (ap₂ h.answers both.0 both.1 ∙ fresh) in cc

  kept : (p c : ℕ) (f : Froze) → h.answers p c ≡ Some f → answers_then p c ≡ Some f
  kept p c f is = other_answered p c (not_new p c f is) ∙ is

  abbrev pub later : History
  later = record { accounts = h.accounts; attempts = h.attempts; answers = answers_then }

  pub after_is : after h d ≡ later
  after_is = λ z. record {
    accounts = λ p j u. account p j u (h.accounts p j u) z;
    attempts = λ p a. attempt p a (h.attempts p a) z;
    answers = answers_then;
  }
    where
      still : (b : Bool) (a : Account) → (if b then entered_by d (move.Froze m) a else a) ≡ a
      still true a = refl
      still false a = refl

      account : (p j u : ℕ) (a : Account) → after_deed d p j u a ≡ a
      account p j u a =
          ap (λ q. declined_in (declines_of q p j && (u == 0)) (if ((d.node == p) && (about q == j)) && (d.epoch == u) then entered_by d q a else a)) k.deed.move_is
          ∙ still (((d.node == p) && (m.tunnel == j)) && (d.epoch == u)) a

      attempt : (p a : ℕ) (o : Option Restored) → attempts_by d d.move p a o ≡ o
      attempt p a o = ap (λ q. attempts_by d q p a o) k.deed.move_is

  -- ---- the world

  abbrev pub before : World
  before = with_end w n node x

  abbrev pub e : ℕ
  e = min ((standing_of before n i).made + 1) (2 ^ 64 - 1)

  abbrev pub first_made : World
  first_made = has_made before n i e

  abbrev pub both_made : World
  both_made = has_made first_made other m.remote e

  pub one : MadeOnly before first_made n i e
  one = has_made_only before n i e

  pub two : MadeOnly first_made both_made other m.remote e
  two = has_made_only first_made other m.remote e

  pub found : IsThere (record node { end = x }) (at both_made.nodes n)
  found = there_still (record node { end = x }) (at both_made.nodes n)
      (subst (λ q. SameNode q (at both_made.nodes n)) (base_here w n node k.there x)
      (same_then (at before.nodes n) (at first_made.nodes n) (at both_made.nodes n) (one.nodes n) (two.nodes n)))

  abbrev pub v : World
  v = answered both_made n m.answer e found.node found.is

  pub moves_is : moves_on w n node (move.Froze m) x ≡ v
  unfolding moved makes_epoch
  moves_is = answers_so both_made n m.answer e found.node found.is

  pub standing_then : (p j : ℕ) → standing_of v p j ≡ standing_of both_made p j
  standing_then p j = answered_standing both_made n m.answer e found.node found.is p j

  pub standing_before : (p j : ℕ) → standing_of before p j ≡ standing_of w p j
  standing_before p j = base_same w n node k.there x p j

  pub epochs : (p j : ℕ) → epoch_of v p j ≡ epoch_of w p j
  epochs p j = ap (λ (s : Standing). s.epoch) (standing_then p j) ∙ (two.epochs p j ∙ (one.epochs p j ∙ ap (λ (s : Standing). s.epoch) (standing_before p j)))

  pub losts : (p j : ℕ) → (standing_of v p j).lost ≡ (standing_of w p j).lost
  losts p j = ap (λ (s : Standing). s.lost) (standing_then p j) ∙ (two.losts p j ∙ (one.losts p j ∙ ap (λ (s : Standing). s.lost) (standing_before p j)))

  pub few : (standing_of w n i).made < 2 ^ 64
  few = (k.holds.standings n i).fits

  -- the new epoch is none of those below
  rises : (p j : ℕ) → (standing_of w p j).made ≡ (standing_of w n i).made → (standing_of w p j).made ≤ e
  rises p j same = let own = ap (λ (s : Standing). s.made) (standing_before n i) in let lt = few in omega (arith, same, own, lt)

  e_fits : e < 2 ^ 64
  e_fits = omega arith

  pub e_some : 0 < e
  e_some = omega arith

  -- each is counted as before, or the new epoch is made
  pub counts : (p j : ℕ) → ((standing_of v p j).made ≡ (standing_of w p j).made) ⊎ (((standing_of v p j).made ≡ e) × ((standing_of w p j).made ≤ e))
  counts p j = ⊎_elim
      (λ (same : (standing_of both_made p j).made ≡ (standing_of first_made p j).made). ⊎_elim
      (λ (again : (standing_of first_made p j).made ≡ (standing_of before p j).made).
      inl (ap (λ (s : Standing). s.made) (standing_then p j) ∙ (same ∙ (again ∙ ap (λ (s : Standing). s.made) (standing_before p j)))))
      (λ q. inr (ap (λ (s : Standing). s.made) (standing_then p j) ∙ (same ∙ q.2), rises p j (ap₂ (λ a b. (standing_of w a b).made) q.0 q.1)))
      (one.made p j))
      (λ q. inr (
        ap (λ (s : Standing). s.made) (standing_then p j) ∙ q.2,
        rises p j (ap₂ (λ a b. (standing_of w a b).made) q.0 q.1 ∙ sym (k.known.counted n i other m.remote link)),
      ))
      (two.made p j)

  pub own_made : (standing_of v n i).made ≡ e
  own_made = ap (λ (s : Standing). s.made) (standing_then n i)
      ∙ ⊎_elim
      (λ (same : (standing_of both_made n i).made ≡ (standing_of first_made n i).made). same ∙ one.own (record node { end = x }) (base_here w n node k.there x))
      (λ q. q.2)
      (two.made n i)

  pub makes_as : (p c : ℕ) (f : Froze) → h.answers p c ≡ Some f → makes v p c ≡ makes w p c
  makes_as p c f is =
      other_answer both_made n m.answer e found.node found.is p c (not_new p c f is)
      ∙ (same_answer (at before.nodes p) (at both_made.nodes p) (same_then (at before.nodes p) (at first_made.nodes p) (at both_made.nodes p) (one.nodes p) (two.nodes p)) c
      ∙ base_makes w n node k.there x p c)

  grows : Grows w v h
  grows = record {
    epochs = λ p j. (let same = epochs p j in omega (arith, same));
    made = λ p j. ⊎_elim (λ same. omega (arith, same)) (λ q. (let up = q.0 in let le = q.1 in omega (arith, up, le))) (counts p j);
    makes = makes_as;
  }

  standing_now : (p j : ℕ) → StandingOk h p j (standing_of v p j)
  standing_now p j =
      let ok = k.holds.standings p j in
      record {
        none = λ unmade. standing_then p j
            ∙ (two.others p j (λ q. made_other (ap₂ (λ a b. (h.accounts a b 0).part) (sym q.0) (sym q.1) ∙ unmade))
            ∙ (one.others p j (λ q. live.made (ap₂ (λ a b. (h.accounts a b 0).part) (sym q.0) (sym q.1) ∙ unmade))
            ∙ (standing_before p j ∙ ok.none unmade)));
        entered = λ made. subst (λ u. IsMade (h.accounts p j u)) (sym (epochs p j)) (ok.entered made);
        made = ⊎_elim
            (λ same. (let up = epochs p j in let le = ok.made in omega (arith, same, up, le)))
            (λ q. (let now = q.0 in let up = q.1 in let same = epochs p j in let le = ok.made in omega (arith, now, up, same, le)))
            (counts p j);
        fits = ⊎_elim
            (λ same. (let lt = ok.fits in omega (arith, same, lt)))
            (λ q. (let now = q.0 in let lt = e_fits in omega (arith, now, lt)))
            (counts p j);
      }

  -- ---- its answer

  numbers : suggested_by does.tunnel.control ≡ record { ns = m.expect; nr = m.send_from }
  numbers = does.suggests

  answer_ok : AnswerOk v later n m.answer m
  answer_ok =
      let first = k.fit.tables.first_tunnel in
      let next = drawn.0 in
      let most = drawn.1 in
      let last = k.fit.tunnel_ids.last in
      let ns = ap (λ (s : Suggested). s.ns) numbers in
      let nr = ap (λ (s : Suggested). s.nr) numbers in
      record {
        own = refl;
        some = omega (arith, first, next);
        fits = omega (arith, most, last);
        draw_fits = (let low = (draw_is node.end.recovery_ids m.draw does.draw).1 in let top = k.fit.recovery_ids.last in omega (arith, low, top));
        peer_fits = (let lt = asked.from_fits in let same = other_is in omega (arith, lt, same));
        peer_is = asked.address ∙ ap address_of (sym other_is);
        linked = link;
        attempt = asked.tried;
        attempted = ap (λ q. h.attempts q m.attempt) other_is ∙ asked.there;
        attempts = asked.local_is;
        epoch_some = (let is = own_answer both_made n m.answer e found.node found.is in let lt = e_some in omega (arith, is, lt));
        epoch_made = (let is = own_answer both_made n m.answer e found.node found.is in let made = own_made in omega (arith, is, made));
        expect = omega (arith, ns);
        send_from = omega (arith, nr);
      }

  -- ---- the tunnel that is frozen

  abbrev u : Tunnel
  u = record does.tunnel { control = frozen_control m.asked does.tunnel.control; calls = finished_of does.tunnel.calls; recovery = Some does.recovery }

  frozen : is_current (mode_of u.recovery) ≡ false
  frozen = ap (λ r. is_current (mode_of (Some r))) does.is.is ∙ waits_inactive (ByAnswer does.is.answering) does.is.waits

  unfinished : (c : ControlConnection) → is_waiting c ≡ true → is_some c.reset ≡ true → ⊥
  unfinished c waits reset = true≢false (sym reset ∙ not_reset c waits)

  recovered : IsRecovered v later n i (ByAnswer does.is.answering)
  recovered = (
    m,
    ap (answers_then n) does.is.local_is ∙ own_answered,
    refl,
    sym does.is.remote_is,
    does.is.suggested_is,
    λ reset. absurd (unfinished does.is.answering.connection does.is.waits reset),
    sym does.is.draw_is,
  )

  knows_own : KnowsOwn h.accounts n i does.tunnel.control.remote
  knows_own = established_knows w h k.holds n i does.tunnel live does.open_is

  live_then : LiveOk v later n i u
  live_then = record {
    local = live.local;
    made = live.made;
    peer = live.peer;
    channel = λ current. absurd (true≢false (sym current ∙ frozen));
    kept = λ current. absurd (true≢false (sym current ∙ frozen));
    established = λ inactive. does.open_is;
    some = λ inactive. (let lt = link.to_some in let same = does.remote in omega (arith, lt, same));
    knows = λ inactive. knows_own.knows;
    learned = λ inactive. knows_own.learned;
    recovery = λ r is. (let same : r ≡ ByAnswer does.is.answering = (let a : does.recovery ≡ r = cc in sym a ∙ does.is.is) in subst (IsRecovered v later n i) (sym same) recovered);
    unattempted = λ early. (let three = does.open_is in absurd (omega (arith, three, early)));
    query = subst (λ z. QueryOk z does.tunnel.query) (sym (epochs n i)) live.query;
    calls = λ s c there. live.calls s c (finished_found does.tunnel.calls (k.fit.tables.tunnels i does.tunnel does.there).order s c there);
  }

  -- ---- the node

  ids_then : (y : End) → y.tunnel_ids ≡ after_id node.end.tunnel_ids → IdsOk later n y
  ids_then y is =
      let ids = both_ok.0.ids in
      let next : y.tunnel_ids.next ≡ m.answer + 1 = ap (λ (s : Space). s.next) (is ∙ next_is node.end.tunnel_ids m.answer does.local) in
      let was = drawn.0 in
      record {
        tunnels = λ j made. (let lt = ids.tunnels j made in omega (arith, lt, next, was));
        attempts = λ a there. (let lt = ids.attempts a there in omega (arith, lt, next, was));
        answers = λ c there. ⊎_elim
            (λ (same : c ≡ m.answer). omega (arith, same, next))
            (λ (o : c ≡ m.answer → ⊥). (let lt = ids.answers c (sym (ap is_some (other_answered n c (λ q. o q.1))) ∙ there) in omega (arith, lt, next, was)))
            (same_or_not c m.answer);
        no_attempt = ids.no_attempt;
        no_answer = λ j made. other_answered n j (λ q. (let lt = ids.tunnels j made in let same = q.1 in omega (arith, lt, was, same))) ∙ ids.no_answer j made;
        one = λ a there. other_answered n a (λ q. (let lt = ids.attempts a there in let same = q.1 in omega (arith, lt, was, same))) ∙ ids.one a there;
      }

  other_ids : (p : ℕ) → (p ≡ n → ⊥) → (y : End) → IdsOk h p y → IdsOk later p y
  other_ids p o y ids = record {
    tunnels = ids.tunnels;
    attempts = ids.attempts;
    answers = λ c there. ids.answers c (sym (ap is_some (other_answered p c (λ q. o q.0))) ∙ there);
    no_attempt = ids.no_attempt;
    no_answer = λ j made. other_answered p j (λ q. o q.0) ∙ ids.no_answer j made;
    one = λ a there. other_answered p a (λ q. o q.0) ∙ ids.one a there;
  }

  end_then : EndOk v later n x
  end_then = subst (EndOk v later n) (sym does.after)
      (put_end_ok w v h later n node.end _ both_ok.0 i does.tunnel u does.there (record { config = refl; role = refl; tunnels = refl }) refl refl
      (ids_then _ refl)
      (λ j q o was. live_more v h answers_then kept n j q (live_stays w v h epochs losts makes_as n j q (both_ok.0.live j q was)))
      live_then)

  other_then : (p : ℕ) → (p ≡ n → ⊥) → (a b : Option Node) → SameNode a b → NodeOk w h p a → NodeOk v later p b
  other_then p o None None s ok = (ok.0, (ok.1.0, λ c. other_answered p c (λ q. o q.0) ∙ ok.1.1 c))
  other_then p o None (Some b) s ok = absurd s
  other_then p o (Some a) None s ok = absurd s
  other_then p o (Some a) (Some b) s ok = (
    subst (EndOk v later p) (sym s.0) (record {
      node = ok.0.node;
      number = ok.0.number;
      lns = ok.0.lns;
      ids = other_ids p o a.end ok.0.ids;
      live = λ j q there. live_more v h answers_then kept p j q (live_stays w v h epochs losts makes_as p j q (ok.0.live j q there));
      apart = ok.0.apart;
    }),
    subst (λ c. BookOk later p c.book) (sym s.1) (book_more v h answers_then kept p a.checkpoint.book ok.1),
  )

  nodes_then : (p : ℕ) → NodeOk v later p (at v.nodes p)
  nodes_then p = ⊎_elim
      (λ (same : p ≡ n). subst (λ q. NodeOk v later q (at v.nodes q)) (sym same)
      (subst (NodeOk v later n) (sym (answered_here both_made n m.answer e found.node found.is))
      (subst (EndOk v later n) (sym found.end) end_then, subst (λ c. BookOk later n c.book) (sym found.checkpoint) (book_more v h answers_then kept n node.checkpoint.book both_ok.1))))
      (λ (o : p ≡ n → ⊥). subst (NodeOk v later p) (sym (answered_other both_made n m.answer e found.node found.is p o))
      (other_then p o (at w.nodes p) (at both_made.nodes p)
      (subst (λ q. SameNode q (at both_made.nodes p)) (base_other w n node k.there x p o)
      (same_then (at before.nodes p) (at first_made.nodes p) (at both_made.nodes p) (one.nodes p) (two.nodes p)))
      (k.holds.nodes p)))
      (same_or_not p n)

  -- ---- all of it

  holds_then : Holds v later
  holds_then = record {
    accounts = λ p j c. account_more v h answers_then kept p j c (h.accounts p j c) (account_grows w v h grows p j c (h.accounts p j c) (k.holds.accounts p j c));
    attempts = λ p a r is. attempt_more v h answers_then kept p a r (k.holds.attempts p a r is);
    answers = λ p c f is. ⊎_elim
        (λ (q : (p ≡ n) × (c ≡ m.answer)).
        let both = sym own_answered ∙ (ap₂ answers_then (sym q.0) (sym q.1) ∙ is) in
        let same : m ≡ f = cc in
        subst (λ a. AnswerOk v later a c f) (sym q.0) (subst (λ a. AnswerOk v later n a f) (sym q.1) (subst (AnswerOk v later n m.answer) same answer_ok)))
        (λ o.
        let was = sym (other_answered p c o) ∙ is in
        answer_more v h answers_then kept p c f (answers_grow w v h grows p c f was (k.holds.answers p c f was)))
        (either p c);
    standings = λ p j. standing_more v h answers_then kept p j (standing_of v p j) (standing_now p j);
    nodes = nodes_then;
    packets = subst (AllByRecursion (PacketOk v later)) (sym (two.packets ∙ one.packets))
        (packets_more v h answers_then kept w.packets (packets_grow w v h grows w.packets k.holds.packets));
  }

  pub froze_holds : Holds (moves_on w n node (move.Froze m) x) (after h d)
  froze_holds = subst (λ q. Holds q (after h d)) (sym moves_is) (subst (Holds v) (sym after_is) holds_then)
