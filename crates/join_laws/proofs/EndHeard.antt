-- A call ends by the other end's CDN, and so does the machine's: it is the call that the CDN names, by its header or by its own name.
use Rattle.std.proofs.Common.{◌≡◌, ◌⊎◌, inl, inr, ⊎_elim, ℕ, Bool, ◌+◌, ◌<◌, true, false, List, [], ◌∷◌, ◌++◌, slice_get, refl, sym, ap, ap₂, ◌∙◌, subst, Option, Some, None, arith, eq-eqb, ne_eqb, lt-ltb, append-nil}
use Rattle.std.proofs.lemmas.Bool.{true≢false, eqb-true}
use Rattle.std.specs.Prelude.{if◌then◌else◌, ◌==◌, ◌&&◌}
use Rattle.id_table.specs.Ids.{at, put, without}
use Rattle.id_table.specs.Order.{Ascends, at_new, at_other, at_without_other, at_without_same, same_or_not}
use Rattle.wire_base.specs.declared.pair.Pair.{Pair}
use Rattle.control_message.specs.declared.message.Message.{Message}
use Rattle.control_message.specs.declared.message.Message.TheVariants.{Cdn}
use Rattle.session_book.specs.Books.{Kept}
use Rattle.end_model.specs.declared.event.Event.{Event}
use Rattle.end_model.specs.declared.moves.EndHeard.{EndHeard}
use Rattle.end_model.specs.declared.moves.Move.{Move}
use Rattle.end_model.specs.declared.moves.Move.TheVariants as move
use Rattle.end_model.specs.declared.tunnel.Call.{Call}
use Rattle.end_model.specs.Channels.{counts_taken}
use Rattle.end_model.specs.Tunnels.{Tunnel}
use Rattle.end_model.specs.End.{End}
use Rattle.world_model.specs.World.{World, Node, Sender, Deed, epoch_of, moved}
use Rattle.step_laws.specs.Letters.{Letter}
use Rattle.book_laws.specs.Books.{Mirrors}
use Rattle.recv_window.specs.Window.{ClassIsTrue}
use Rattle.frame_laws.specs.Codecs.{Codecs}
use Rattle.birth_laws.specs.Births.{BirthsOfRuns}
use Rattle.connection_laws.specs.Facts.{IsStopCcn}
use Rattle.connection_laws.specs.Steps as calm
use Rattle.channel_laws.specs.Recoveries.{WrittenIsRead, WrittenHasRoom}
use Rattle.epoch_machine.specs.Letters as machine_letters
use Rattle.epoch_machine.specs.Names.{is_name}
use Rattle.epoch_machine.specs.Tunnels.{Tunnels, Open}
use Rattle.epoch_machine.specs.Calls as calls
use Rattle.epoch_machine.specs.Calls.{Calls, NoCall, is_named, ends}
use Rattle.epoch_machine.specs.Worlds as machine
use Rattle.epoch_machine.specs.Worlds.{all_rules, took_one, takes, takes_open, takes_cdn}
use Rattle.epoch_machine.specs.Moves.{Delivers, delivers, step}
use Rattle.session_laws.specs.Names.{name, name_of, state_of}
use Rattle.session_laws.proofs.CallLaws.{WorldHolds, world_holds, cdn_own, remote_once}
use Rattle.session_laws.proofs.Names.{known_name, name_some, name_not_zero}
use Rattle.channel_laws.specs.Accounts.{Account, History, after}
use Rattle.channel_laws.specs.Steps.{with_end, moves_on}
use Rattle.recovery_laws.specs.Asking as asking
use Rattle.recovery_laws.specs.Growing.{ChannelsGrow}
use Rattle.recovery_laws.specs.Joined.{CallJoined, CallsJoined}
use Rattle.recovery_laws.specs.Queries.{said_in, letters_in, question_of, questions_in, weight}
use Rattle.recovery_laws.proofs.Asking.{may_take_it, heard_one}
use Rattle.join_laws.specs.Steps as steps
use Rattle.join_laws.specs.Steps.{with_book, Follows, Joins}
use Rattle.join_laws.proofs.Books.{booked}
use Rattle.join_laws.proofs.CallMoves.{with_calls, with_calls_tunnels, delivers_node}
use Rattle.join_laws.proofs.Channel.{gives_is, sent_none}
use Rattle.join_laws.proofs.Finish.{went_one}
use Rattle.join_laws.proofs.HeardNext.{heard_so}
use Rattle.join_laws.proofs.Hearing.{heard_none}
use Rattle.join_laws.proofs.Made as made
use Rattle.join_laws.proofs.Taking as taking
use Rattle.join_laws.proofs.Taking.{Takes, TakesIn, TookLetter}
use Rattle.join_laws.proofs.Talking.{talks_follow}
use Rattle.join_laws.proofs.Turning as turning
use Rattle.join_laws.proofs.Turning.{Turns, Turned}

-- ---- in the machine

takes_end : (w : machine.World) (x s own header : ℕ) → w.tunnels.phase x ≡ Open
    → takes all_rules (took_one w x) x s (machine_letters.Cdn own header) 0 ≡ with_calls w x (ends w.calls (is_named w.calls x own header))
unfolding takes took_one takes_open takes_cdn
takes_end w x s own header phase = rw phase refl

end_step : (w : machine.World) (x s e k own header : ℕ) → asking.TakesFrom w x s e k
    → slice_get (w.channels.sent s e) k ≡ Some (machine_letters.Cdn own header)
    → step all_rules w (Delivers x s e k 0) ≡ with_calls w x (ends w.calls (is_named w.calls x own header))
unfolding step delivers
end_step w x s e k own header t stands =
    ap (λ o. delivers all_rules w x s e k 0 o) stands
    ∙ (ap (λ b. if b then takes all_rules (took_one w x) x s (machine_letters.Cdn own header) 0 else w) (may_take_it w x s e k
    (machine_letters.Cdn own header) t)
    ∙ takes_end w x s own header t.open_is)

-- one call ends where it alone is of this kind
kind_turns : (c : Calls) (kind : ℕ → Bool) (z : ℕ) → kind z ≡ true → ((y : ℕ) → (y ≡ z → ⊥) → kind y ≡ false)
    → Turns c (ends c kind) z NoCall (c.remote z) false
unfolding «ends»
kind_turns c kind z is other_kind = record {
  state_is = ap (λ b. if b then NoCall else c.state z) is;
  remote_is = refl;
  booked_is = ap (λ b. if b then false else c.booked z) is;
  tunnel = refl;
  drawn = refl;
  births = refl;
  birth = refl;
  asks = refl;
  held = refl;
  others = λ y other. (
    ap (λ b. if b then NoCall else c.state y) (other_kind y other),
    refl,
    ap (λ b. if b then false else c.booked y)
        (other_kind y other),
  );
}

both_so : (a b : Bool) → a && b ≡ true → (a ≡ true) × (b ≡ true)
both_so true true is = (refl, refl)
both_so true false is = absurd (true≢false (sym is))
both_so false b is = absurd (true≢false (sym is))

not_so : (b : Bool) → (b ≡ true → ⊥) → b ≡ false
not_so true none = absurd (none refl)
not_so false none = refl

-- a call that is named by its header, and no other
by_header : (c : Calls) (x own z : ℕ) → 0 < z → c.tunnel z ≡ x → is_named c x own z z ≡ true
by_header c x own z some tunnel = rw (eq-eqb (c.tunnel z) x tunnel, lt-ltb 0 z some, eq-eqb z z refl) refl

only_header : (c : Calls) (x own z y : ℕ) → 0 < z → (y ≡ z → ⊥) → is_named c x own z y ≡ false
only_header c x own z y some other = not_so (is_named c x own z y) (λ is.
    (let two : (if is_name z then y == z else (is_name own && (c.remote y == own))) ≡ true = (both_so (c.tunnel y == x) _ is).1 in
    let three : y == z ≡ true = sym (ap (λ b. if b then y == z else (is_name own && (c.remote y == own))) (lt-ltb 0 z some)) ∙ two in
    other (eqb-true y z three)))

-- or by its own name
by_own : (c : Calls) (x own z : ℕ) → 0 < own → c.tunnel z ≡ x → c.remote z ≡ own → is_named c x own 0 z ≡ true
by_own c x own z some tunnel remote = rw (eq-eqb (c.tunnel z) x tunnel, lt-ltb 0 own some, eq-eqb (c.remote z) own remote) refl

only_own : (c : Calls) (x own y : ℕ) → is_named c x own 0 y ≡ true → c.remote y ≡ own
only_own c x own y is =
    let two : (is_name own && (c.remote y == own)) ≡ true = (both_so (c.tunnel y == x) (is_name own && (c.remote y == own)) is).1 in
    eqb-true (c.remote y) own (both_so (is_name own) (c.remote y == own) two).1

-- ---- the move

module _ (keep : calm.MovesKeep) (plainly : calm.PlainIsHeard) (codecs : Codecs) (again : WrittenIsRead) (room : WrittenHasRoom)
    (classes : ClassIsTrue) (grow : ChannelsGrow) (births : BirthsOfRuns) (w : World) (h : History) (n : ℕ) (node : Node) (sender :
    Option Sender) (moment : ℕ) (ev : Event)
    (m : EndHeard) (x : End) (d : Deed) (k : Kept) (j : machine.World)
    (q : steps.IsMade w h n node sender moment ev (move.EndHeard m) x d k j) (b : Kept) (new : Mirrors x b) where
  abbrev mv : Move
  mv = move.EndHeard m

  abbrev i : ℕ
  i = m.tunnel

  abbrev s : ℕ
  s = m.session

  abbrev e : ℕ
  e = epoch_of w n m.tunnel

  abbrev t : Tunnel
  t = q.moved.does.tunnel

  abbrev was : Call
  was = q.moved.does.call

  abbrev r : Tunnel
  r = record t { control = counts_taken t.control; calls = without t.calls m.session }

  at_t : at node.end.tunnels m.tunnel ≡ Some t
  at_t = q.moved.does.there

  same : moves_on w n node mv x ≡ with_end w n node x
  unfolding moved
  same = refl

  takes_it : Takes w h n node mv x d t m.taken.number []
  takes_it = record {
    epoch = made.epoch_is w h n node sender moment ev mv x d k j q same;
    plain = record { declines = λ p f. refl; attempts = λ p a o. refl; answers = λ p c o. refl };
    at_t = at_t;
    current = q.moved.does.current;
    three = q.moved.does.open_is;
    enters = λ a.
        ap (λ ls. record a { given = ls; taken = a.taken ++ (record { sender = d.sender; number = m.taken.number; move = d.move }) ∷ [] })
        (sym (append-nil a.given));
  }

  took : TookLetter w h n node sender moment ev mv x d k j q t m.taken.number [] takes_it
  took = taking.took_letter w h n node sender moment ev mv x d k j q t m.taken.number [] takes_it

  no_stop : IsStopCcn took.letter.message → ⊥
  no_stop stops = subst IsStopCcn took.tells.1.3 stops

  abbrev X : ℕ
  X = name n m.tunnel

  abbrev Z : ℕ
  Z = name n m.session

  abbrev S : ℕ
  S = name took.from.node took.from.tunnel

  -- the session that the header names
  abbrev session : ℕ
  session = q.moved.does.letter.header.session

  abbrev own : ℕ
  own = name_of took.from.node q.moved.does.remote

  abbrev header : ℕ
  header = name_of n session

  abbrev c : Calls
  c = ends j.calls (is_named j.calls X own header)

  abbrev z : machine.World
  z = with_calls j X c

  abbrev place : ℕ
  place = taking.place w h n node sender moment ev mv x d k j q t m.taken.number [] takes_it took no_stop

  from : asking.TakesFrom j X S e place
  from = taking.takes_from w h n node sender moment ev mv x d k j q t m.taken.number [] takes_it took no_stop

  before : CallsJoined j h n (booked node k)
  before = made.calls_before w h n node sender moment ev mv x d k j q

  was_joined : CallJoined j n m.tunnel (h.accounts n m.tunnel 0).peer m.session was
  was_joined = before.live m.tunnel t at_t m.session was q.moved.does.live

  heard : (took.letter.message ≡ Cdn q.moved.does.remote q.moved.does.code q.moved.does.error) × (took.letter.session ≡ session)
  heard = heard_so keep plainly codecs again room classes w h n node sender moment ev mv x d k j q t m.taken.number [] takes_it took
      q.moved.does.letter q.moved.does.takes.next (Cdn q.moved.does.remote q.moved.does.code q.moved.does.error) q.moved.does.said tt tt

  stands : slice_get (j.channels.sent S e) place ≡ Some (machine_letters.Cdn own header)
  stands = taking.takes_stands w h n node sender moment ev mv x d k j q t m.taken.number [] takes_it took no_stop
      (machine_letters.Cdn own header)
      (λ asked. ap₂ (λ s y. said_in took.from.node n asked s y) heard.1 heard.0)

  hold : WorldHolds j
  hold = world_holds births j q.joined.joined.moves q.joined.joined.run

  peer : (h.accounts n i 0).peer ≡ took.from.node
  peer = taking.took_peer w h n node sender moment ev mv x d k j q t m.taken.number [] takes_it took no_stop

  some_name : 0 < Z
  some_name = name_some n s was_joined.some

  abbrev Kind : Type 0
  Kind = (is_named j.calls X own header Z ≡ true) × ((y : ℕ) → (y ≡ Z → ⊥) → is_named j.calls X own header y ≡ false)

  -- the header names it
  kind_header : session ≡ m.session → Kind
  kind_header same_session = subst (λ o. (is_named j.calls X own o Z ≡ true) × ((y : ℕ) → (y ≡ Z → ⊥) → is_named j.calls X own o y ≡ false))
      (sym (ap (λ o. name_of n o) same_session ∙ known_name n s was_joined.some))
      (by_header j.calls X own Z some_name was_joined.tunnel, λ y other. only_header j.calls X own Z y some_name other)

  -- or it names none, and the name that the call knows of the other end's is told
  kind_own : session ≡ 0 → was.remote ≡ q.moved.does.remote → Kind
  kind_own none remote =
      let zero_header : header ≡ 0 = ap (λ o. name_of n o) none in
      let some = (cdn_own j hold S e place own (stands ∙ ap (λ o. Some (machine_letters.Cdn own o)) zero_header)).0 in
      let knows : j.calls.remote Z ≡ own = was_joined.remote ∙ ap₂ name_of peer remote in
      subst (λ o. (is_named j.calls X own o Z ≡ true) × ((y : ℕ) → (y ≡ Z → ⊥) → is_named j.calls X own o y ≡ false)) (sym zero_header) (
        by_own j.calls X own Z (some_of own some) was_joined.tunnel knows,
        λ y other. not_so (is_named j.calls X own 0 y) (λ is.
            (let told = only_own j.calls X own y is in
            other (remote_once j hold y Z own (λ zero_name. some (sym told ∙ (ap (λ o. j.calls.remote o) zero_name
            ∙ (hold.calls.nameless 0 hold.calls.zero).remote))) (λ zero_name. name_not_zero n s was_joined.some zero_name) some told
            knows))),
      )
    where
      some_of : (o : ℕ) → (o ≡ 0 → ⊥) → 0 < o
      some_of o some = omega (arith, some)

  kind : Kind
  kind = ⊎_elim
      (λ same_session. kind_header same_session)
      (λ (k : (session ≡ 0) × (was.remote ≡ q.moved.does.remote)). kind_own k.0 k.1)
      q.moved.does.named

  order : Ascends t.calls
  order = (q.moved.fit.tables.tunnels i t at_t).order

  peers : (p f : ℕ) → ((after h d).accounts p f 0).peer ≡ (h.accounts p f 0).peer
  peers = taking.took_peers w h n node sender moment ev mv x d k j q t m.taken.number [] takes_it

  tunnels : x.tunnels ≡ put node.end.tunnels m.tunnel r
  tunnels = ap (λ (y : End). y.tunnels) q.moved.does.after

  at_r : at x.tunnels m.tunnel ≡ Some r
  at_r = ap (λ ts. at ts m.tunnel) tunnels ∙ at_new node.end.tunnels m.tunnel r

  others : (f : ℕ) → (f ≡ m.tunnel → ⊥) → at x.tunnels f ≡ at node.end.tunnels f
  others f other = ap (λ ts. at ts f) tunnels ∙ at_other node.end.tunnels m.tunnel r f other

  turned : Turned w h n node x d k b j z i s t
  turned = record {
    new = new;
    at_t = at_t;
    was = was;
    live = q.moved.does.live;
    tunnel = r;
    at_r = at_r;
    others = others;
    ids = ap (λ (y : End). y.session_ids) q.moved.does.after;
    sessions = λ y other. at_without_other t.calls s y other;
    then_is = None;
    this = at_without_same t.calls s order;
    peers = peers;
    machine_tunnels = with_calls_tunnels j X c;
    state = NoCall;
    remote = j.calls.remote Z;
    in_book = false;
    turns = kind_turns j.calls (is_named j.calls X own header) Z kind.0 kind.1;
    turned = (refl, refl);
  }

  in_tunnel : TakesIn h (after h d) n node mv x b j z m.tunnel e r [] [] 1 t
  in_tunnel = record {
    new = new;
    at_r = at_r;
    state = refl;
    recovery = refl;
    others = others;
    sent = λ tk is.
        sent_none n (h.accounts n m.tunnel e).peer (h.accounts n m.tunnel e).taken (h.accounts n m.tunnel e).given tk (ap question_of is);
    goes = heard_one j X S e place c from;
    calls = turning.turned_calls w h n node sender moment ev mv x d k j q b z i s t turned;
    calls_stay = turning.turned_stay w h n node sender moment ev mv x d k j q b z i s t turned;
    births = turning.turned_births w h n node sender moment ev mv x d k j q b z i s t turned;
  }

  pub end_heard_follows : Follows ev (with_book (moves_on w n node mv x) n b) (after h d) n j
  end_heard_follows =
      talks_follow grow w h n node sender moment ev mv x d k b j z q t r [] [] 1
      (taking.takes_talks w h n node sender moment ev mv x d k j q t m.taken.number [] takes_it took no_stop grow b z r
      [] 1 in_tunnel (ap weight heard.0))
      peers (record {
        same = same;
        query = refl;
        asks = turning.turned_asks w h n node sender moment ev mv x d k j q b z i s t turned;
        held = turning.turned_held w h n node sender moment ev mv x d k j q b z i s t turned;
        named = turning.turned_named w h n node sender moment ev mv x d k j q b z i s t turned;
        went = went_one ev n j z (Delivers X S e place 0)
            (delivers_node j X S e place 0
            ∙ (made.told w h n node sender moment ev mv x d k j q m.tunnel t at_t).node (made.live_ok w h n node sender moment ev mv x
            d k j q m.tunnel t at_t).made)
            refl (heard_none ev j X S e place 0 (machine_letters.Cdn own header) stands refl)
            (end_step j X S e place own header from stands);
      })

pub end_heard_joins : calm.MovesKeep → calm.PlainIsHeard → Codecs → WrittenIsRead → WrittenHasRoom → ClassIsTrue → ChannelsGrow
    → BirthsOfRuns
    → (m : EndHeard) → Joins (move.EndHeard m)
end_heard_joins keep plainly codecs again room classes grow births m w h n node sender moment ev x d k j q b new =
    end_heard_follows keep plainly codecs again room classes grow births w h n node sender moment ev m x d k j q b new
