-- A tunnel takes the answer to what it asked for, and calls end by it; and so does the machine's, a session at a time.
use Rattle.std.proofs.Common.{◌≡◌, inl, inr, ⊎_elim, ℕ, zero, suc, ◌<◌, ◌≤◌, Bool, true, false, List, [], ◌∷◌, ◌++◌, map, length, refl, sym, ap, ◌∙◌, subst, Option, Some, None, arith, append-nil, ne_eqb}
use Rattle.std.proofs.lemmas.Bool.{cases_Bool}
use Rattle.std.proofs.lemmas.Option.{same_Some}
use Rattle.std.specs.Prelude.{if◌then◌else◌, ◌==◌, ◌&&◌, take}
use Rattle.std.specs.List.{AllByRecursion, list_any}
use Rattle.id_source.specs.Spaces.{Space}
use Rattle.id_table.specs.Ids.{at, put}
use Rattle.id_table.specs.Order.{Ascends, at_new, at_other, same_or_not}
use Rattle.wire_base.specs.declared.pair.Pair.{Pair}
use Rattle.session_query.specs.Queries.{left_of, unanswered, answered, gone_in}
use Rattle.session_book.specs.Books.{Kept, tunnel_at}
use Rattle.end_model.specs.declared.event.Event.{Event}
use Rattle.end_model.specs.declared.moves.TookAnswer.{TookAnswer}
use Rattle.end_model.specs.declared.moves.Move.{Move}
use Rattle.end_model.specs.declared.moves.Move.TheVariants as move
use Rattle.end_model.specs.Channels.{counts_taken}
use Rattle.end_model.specs.Querying.{ended_of, unless_complete}
use Rattle.end_model.specs.Tunnels.{Tunnel}
use Rattle.end_model.specs.End.{End}
use Rattle.world_model.specs.World.{World, Node, Sender, Deed, epoch_of, moved}
use Rattle.step_laws.specs.Moves.{HearsAnswer, without_each}
use Rattle.book_laws.specs.Books.{Mirrors}
use Rattle.connection_laws.specs.Facts.{IsStopCcn}
use Rattle.epoch_machine.specs.Letters as machine_letters
use Rattle.epoch_machine.specs.Tunnels.{Tunnels}
use Rattle.epoch_machine.specs.Calls.{NoCall}
use Rattle.epoch_machine.specs.Worlds as machine
use Rattle.epoch_machine.specs.Worlds.{all_rules}
use Rattle.epoch_machine.specs.Moves.{goes_on}
use Rattle.birth_laws.specs.Births.{LettersMean, BirthsOfRuns}
use Rattle.session_laws.specs.Names.{name, name_of}
use Rattle.session_laws.proofs.Names.{same_name}
use Rattle.channel_laws.specs.Accounts.{History, after}
use Rattle.channel_laws.specs.Facts.{LiveOk}
use Rattle.channel_laws.specs.Steps.{with_end, moves_on}
use Rattle.recovery_laws.specs.Asking.{GoesOn, Told, TakesFrom, StandFrom, delivered, told_all, QueriesAreMoves}
use Rattle.recovery_laws.specs.Growing.{ChannelsGrow}
use Rattle.recovery_laws.specs.Hearing.{EndsCalls, told_for}
use Rattle.recovery_laws.specs.Joined.{TunnelJoined, CallsJoined}
use Rattle.recovery_laws.specs.Left.{QueriesGoOn}
use Rattle.recovery_laws.specs.Queries.{answers_in, said_in, question_of, weight, QueryJoined, QueriesJoined}
use Rattle.recovery_laws.proofs.Answers.{TunnelCalls}
use Rattle.recovery_laws.proofs.Covered.{same_id}
use Rattle.recovery_laws.proofs.Hearing.{hears_so}
use Rattle.recovery_laws.proofs.Left.{told_many, all_dropped}
use Rattle.join_laws.specs.Steps as steps
use Rattle.join_laws.specs.Steps.{with_book, Follows, Joins}
use Rattle.join_laws.proofs.Ahead.{behind, left}
use Rattle.join_laws.proofs.Books.{booked, book_here}
use Rattle.join_laws.proofs.Bounds.{fit_bounded}
use Rattle.join_laws.proofs.Calls.{Sessions, sessions_joined, like_in, like_same}
use Rattle.join_laws.proofs.Channel.{sent_none}
use Rattle.join_laws.proofs.Finish.{Went, follows, named_as}
use Rattle.join_laws.proofs.Letters.{Talks, talks_one}
use Rattle.join_laws.proofs.Made as made
use Rattle.join_laws.proofs.OneCall.{gone_session, alone_in}
use Rattle.join_laws.proofs.OneTunnel.{CallStays, one_joined}
use Rattle.join_laws.proofs.Taking as taking
use Rattle.join_laws.proofs.Taking.{Takes, TakesIn, TookLetter}
use Rattle.recovery_join_laws.proofs.Lists.{delivered_own, all_answers, delivered_heard}
use Rattle.recovery_join_laws.proofs.Others.{end_leads, asks_apart}
use Rattle.recovery_join_laws.proofs.Sessions as sessions
use Rattle.recovery_join_laws.proofs.Sessions.{calls_hold}
use Rattle.recovery_join_laws.proofs.Standing as standing
use Rattle.recovery_join_laws.proofs.Standing.{SaidThere}
use Rattle.recovery_join_laws.proofs.Told.{told_is, told_length, answers_stand, among, gone_each, stays_each}
use Rattle.recovery_join_laws.proofs.TookQuestion.{all_any}

module _ (grow : ChannelsGrow) (are : QueriesAreMoves) (on : QueriesGoOn) (births : BirthsOfRuns) (w : World) (h : History) (n : ℕ)
    (node : Node)
    (sender : Option Sender) (moment : ℕ) (ev : Event) (m : TookAnswer) (x : End) (d : Deed) (k : Kept) (j : machine.World)
    (q : steps.IsMade w h n node sender moment ev (move.TookAnswer m) x d k j) (b : Kept) (new : Mirrors x b) where
  abbrev mv : Move
  mv = move.TookAnswer m

  abbrev does : HearsAnswer node.end ev m x
  does = q.moved.does

  abbrev e : ℕ
  e = epoch_of w n m.tunnel

  abbrev t : Tunnel
  t = does.tunnel

  abbrev r : Tunnel
  r = record t { control = counts_taken t.control; calls = without_each m.ended t.calls; query = unless_complete (answered t.query) }

  same : moves_on w n node mv x ≡ with_end w n node x
  unfolding moved
  same = refl

  takes_it : Takes w h n node mv x d t m.taken.number []
  takes_it = record {
    epoch = made.epoch_is w h n node sender moment ev mv x d k j q same;
    plain = record { declines = λ p i. refl; attempts = λ p a o. refl; answers = λ p c o. refl };
    at_t = does.there;
    current = does.current;
    three = does.open_is;
    enters = λ a.
        ap (λ ls. record a { given = ls; taken = a.taken ++ (record { sender = d.sender; number = m.taken.number; move = d.move }) ∷ [] })
        (sym (append-nil a.given));
  }

  took : TookLetter w h n node sender moment ev mv x d k j q t m.taken.number [] takes_it
  took = taking.took_letter w h n node sender moment ev mv x d k j q t m.taken.number [] takes_it

  no_stop : IsStopCcn took.letter.message → ⊥
  no_stop stops = subst IsStopCcn took.tells stops

  abbrev X : ℕ
  X = name n m.tunnel

  abbrev S : ℕ
  S = name took.from.node took.from.tunnel

  abbrev peer : ℕ
  peer = (h.accounts n m.tunnel 0).peer

  abbrev place : ℕ
  place = taking.place w h n node sender moment ev mv x d k j q t m.taken.number [] takes_it took no_stop

  abbrev told : List Told
  told = told_for n peer (unanswered t.query) m.answers

  abbrev heard : List machine_letters.Letter
  heard = map (λ (a : Told). machine_letters.Fsr a.own a.call a.here) told

  abbrev z : machine.World
  z = goes_on all_rules j (delivered X S e place heard)

  peer_is : peer ≡ took.from.node
  peer_is = taking.took_peer w h n node sender moment ev mv x d k j q t m.taken.number [] takes_it took no_stop

  live : LiveOk w h n m.tunnel t
  live = made.live_ok w h n node sender moment ev mv x d k j q m.tunnel t does.there

  here : TunnelJoined j (with_book w n k) h n m.tunnel (Some t) (tunnel_at k m.tunnel)
  here = made.told w h n node sender moment ev mv x d k j q m.tunnel t does.there

  entered : j.tunnels.entered X ≡ e
  entered = made.entered_is w h n node sender moment ev mv x d k j q m.tunnel t does.there

  order : Ascends t.calls
  order = (q.moved.fit.tables.tunnels m.tunnel t does.there).order

  -- ---- what it asked for, and is told

  asked : QueryJoined j n m.tunnel peer t
  asked = q.joined.queries n m.tunnel t
      (record { node = booked node k; is = book_here w n k node q.moved.there; there = does.there }) does.current does.open_is

  told_so : gone_in (unanswered t.query) m.answers ≡ does.gone
  told_so = (told_is t.query m.answers does.gone does.told).1

  held_first : (count : ℕ) (ps : List Pair) → AllByRecursion (λ (p : Pair). j.calls.held X e (name n p.sender) ≡ name_of peer p.receiver) ps
      → AllByRecursion (λ (p : Pair). j.calls.held X e (name n p.sender) ≡ name_of peer p.receiver) (take count ps)
  held_first zero ps all = tt
  held_first (suc count) [] all = tt
  held_first (suc count) (p ∷ ps) all = (all.0, held_first count ps all.1)

  held_asked : AllByRecursion (λ (p : Pair). j.calls.held X e (name n p.sender) ≡ name_of peer p.receiver) (unanswered t.query)
  held_asked = held_first t.query.asked (left_of t.query)
      (subst (λ f. AllByRecursion (λ (p : Pair). j.calls.held X f (name n p.sender) ≡ name_of peer p.receiver) (left_of t.query)) entered
      asked.held)

  means : LettersMean j.tunnels j.channels j.calls
  means = subst (λ v. LettersMean v.tunnels v.channels v.calls) (sym q.joined.joined.run) (births.letters q.joined.joined.moves)

  from : TakesFrom j X S e place
  from = taking.takes_from w h n node sender moment ev mv x d k j q t m.taken.number [] takes_it took no_stop

  said : SaidThere w h n node sender moment ev mv x d k j q t m.taken.number [] takes_it took no_stop
  said = standing.said_there w h n node sender moment ev mv x d k j q t m.taken.number [] takes_it took no_stop

  stand : StandFrom j S e place heard
  stand = answers_stand j n peer X S e (means.means S e) from.learned (unanswered t.query) m.answers said.asked 0 place
      (told_is t.query m.answers does.gone does.told).0 held_asked
      (subst (StandFrom j S e place)
      (ap (said_in took.from.node n said.asked took.letter.session) took.tells
      ∙ ap (λ p. answers_in p n said.asked m.answers) (sym peer_is))
      said.stand)

  goes : GoesOn j z X e [] (length told) × (z.calls ≡ told_all j.calls X told)
  goes = are.hears j X S e place told from stand

  machine_tunnels : z.tunnels ≡ j.tunnels
  machine_tunnels = goes.0.tunnels

  -- ---- which calls end

  abbrev ends : ℕ → Bool
  ends y = list_any (λ s. name n s == y) m.ended

  before : CallsJoined j h n (booked node k)
  before = made.calls_before w h n node sender moment ev mv x d k j q

  tunnel_calls : TunnelCalls (λ p. Unit {0}) j n m.tunnel peer t
  tunnel_calls = sessions.calls_are (with_book w n k) h j q.joined.joined (calls_hold births (with_book w n k) h j q.joined.joined)
      q.joined.named n
      (booked node k) (book_here w n k node q.moved.there) m.tunnel t does.there order (fit_bounded node.end q.moved.fit) before
      (here.node live.made)

  ended : EndsCalls j.calls z.calls X ends (λ y. list_any (λ (a : Told). a.call == y) told)
  ended =
      subst (λ c. EndsCalls j.calls c X ends (λ y. list_any (λ (a : Told). a.call == y) told)) (sym goes.1)
      (subst (λ (ss : List ℕ). EndsCalls j.calls (told_all j.calls X told) X (λ y. list_any (λ s. name n s == y) ss)
      (λ y. list_any (λ (a : Told). a.call == y) told))
      (ap (ended_of t.calls) told_so ∙ sym does.ended)
      (hears_so (λ p. Unit {0}) j n m.tunnel peer t tunnel_calls (unanswered t.query) m.answers (all_any (unanswered t.query))))

  tunnels : x.tunnels ≡ put node.end.tunnels m.tunnel r
  tunnels = ap (λ (y : End). y.tunnels) does.after

  at_r : at x.tunnels m.tunnel ≡ Some r
  at_r = ap (λ ts. at ts m.tunnel) tunnels ∙ at_new node.end.tunnels m.tunnel r

  others : (i : ℕ) → (i ≡ m.tunnel → ⊥) → at x.tunnels i ≡ at node.end.tunnels i
  others i other = ap (λ ts. at ts i) tunnels ∙ at_other node.end.tunnels m.tunnel r i other

  ids : x.session_ids ≡ node.end.session_ids
  ids = ap (λ (y : End). y.session_ids) does.after

  peers : (p i : ℕ) → ((after h d).accounts p i 0).peer ≡ (h.accounts p i 0).peer
  peers = taking.took_peers w h n node sender moment ev mv x d k j q t m.taken.number [] takes_it

  stays : (y : ℕ) → ends y ≡ false → CallStays j z y
  stays y none = record {
    drawn = ap (λ f. f y) ended.drawn;
    tunnel = ap (λ f. f y) ended.tunnel;
    state = ended.state y ∙ ap (λ u. if u then NoCall else j.calls.state y) none;
    remote = ap (λ f. f y) ended.remote;
    booked = ended.booked y ∙ ap (λ u. if u then false else j.calls.booked y) none;
  }

  -- no tunnel of the end has one that ends
  none_left : (s : ℕ) → ends (name n s) ≡ true → (p : ℕ) (u : Tunnel) → at x.tunnels p ≡ Some u → at u.calls s ≡ None
  none_left s is p u at_u = ⊎_elim
      (λ (same : p ≡ m.tunnel).
      let it : r ≡ u = same_Some r u (sym at_r ∙ (ap (at x.tunnels) (sym same) ∙ at_u)) in
      ap (λ (y : Tunnel). at y.calls s) (sym it) ∙ gone_each m.ended t.calls order n s is)
      (λ other.
      let f = among m.ended t.calls order does.up n (name n s) is in
      let same : f.id ≡ s = same_id n f.id s f.name_is in
      alone_in node.end q.moved.fit.tables m.tunnel s t f.call does.there (ap (at t.calls) (sym same) ∙ f.there) p u other
      (sym (others p other) ∙ at_u))
      (same_or_not p m.tunnel)

  all_sessions : Sessions node x k b j z h (after h d) n
  all_sessions = record {
    old = q.mirrors;
    new = new;
    bounded = fit_bounded x q.fit;
    peers = peers n;
    nodes = λ y is. ap (λ (f : Tunnels). f.node y) machine_tunnels ∙ is;
    rises = (let same = ap (λ (y : Space). y.next) ids in omega (arith, same));
    zero = ap (λ f. f (name n 0)) ended.drawn;
    each = λ s fits. ⊎_elim
        (λ (is : ends (name n s) ≡ true). inr (gone_session x b z (after h d) n s (record {
          new = new;
          none = none_left s is;
          state = ended.state (name n s) ∙ ap (λ u. if u then NoCall else j.calls.state (name n s)) is;
          booked = ended.booked (name n s) ∙ ap (λ u. if u then false else j.calls.booked (name n s)) is;
          undrawn = λ le. ap (λ f. f (name n s)) ended.drawn ∙ before.undrawn s (subst (λ (y : Space). y.next ≤ s) ids le) fits;
        })))
        (λ (is : ends (name n s) ≡ false). inl (record {
          like = like_in node.end x m.tunnel t r s does.there at_r others
              (like_same (at t.calls s) (at r.calls s) (stays_each m.ended t.calls n s is));
          stays = stays (name n s) is;
        }))
        (cases_Bool (ends (name n s)));
  }

  -- those of other nodes stay
  other_stays : (p s : ℕ) → (p ≡ n → ⊥) → p < 256 → s < 65536 → CallStays j z (name p s)
  other_stays p s off pfits sfits = stays (name p s) (by (ends (name p s)) refl)
    where
      by : (u : Bool) → ends (name p s) ≡ u → u ≡ false
      by false is = refl
      by true is =
          let f = among m.ended t.calls order does.up n (name p s) is in
          let bound = (fit_bounded node.end q.moved.fit).sessions m.tunnel t does.there f.id f.call f.there in
          absurd (off (sym (same_name n f.id p s bound sfits f.name_is).0))

  weighs : length told ≡ weight took.letter.message
  weighs = told_length n peer (unanswered t.query) m.answers (told_many t.query m.answers does.gone does.told) ∙ sym (ap weight took.tells)

  in_tunnel : TakesIn h (after h d) n node mv x b j z m.tunnel e r [] [] (length told) t
  in_tunnel = record {
    new = new;
    at_r = at_r;
    state = refl;
    recovery = refl;
    others = others;
    sent = λ tk is. sent_none n (h.accounts n m.tunnel e).peer (h.accounts n m.tunnel e).taken (h.accounts n m.tunnel e).given tk
        (ap question_of is);
    goes = goes.0;
    calls = sessions_joined node x k b j z h (after h d) n all_sessions before;
    calls_stay = other_stays;
    births = (ended.births, λ y. ap (λ f. f y) ended.birth);
  }

  talks : Talks w h (after h d) n node x k b j z m.tunnel e t r [] [] (length told)
  talks = taking.takes_talks w h n node sender moment ev mv x d k j q t m.taken.number [] takes_it took no_stop grow b z r []
      (length told) in_tunnel
      (sym weighs)

  -- ---- what is left to ask for

  abbrev rest : List Pair
  rest = left_of (unless_complete (answered t.query))

  held_rest : AllByRecursion (λ (p : Pair). z.calls.held X (z.tunnels.entered X) (name n p.sender) ≡ name_of peer p.receiver) rest
  held_rest =
      subst (λ (f : ℕ → ℕ → ℕ → ℕ). AllByRecursion (λ (p : Pair). f X (z.tunnels.entered X) (name n p.sender) ≡ name_of peer p.receiver)
      rest)
      (sym ended.held)
      (subst (λ (g : Tunnels). AllByRecursion (λ (p : Pair). j.calls.held X (g.entered X) (name n p.sender) ≡ name_of peer p.receiver) rest)
      (sym machine_tunnels)
      (subst (AllByRecursion (λ (p : Pair). j.calls.held X (j.tunnels.entered X) (name n p.sender) ≡ name_of peer p.receiver))
      (sym (on.left t.query))
      (all_dropped (λ (p : Pair). j.calls.held X (j.tunnels.entered X) (name n p.sender) ≡ name_of peer p.receiver) t.query.asked
      (left_of t.query)
      asked.held)))

  still : QueryJoined z n m.tunnel peer r
  still = record {
    asks = on.asked j.calls z.calls n X peer t.query m.answers does.gone ends does.asks does.told ended asked.asks;
    held = held_rest;
  }

  queries : QueriesJoined (behind w n node x b) (after h d) z
  queries = asks_apart w (with_end w n node x) h (after h d) n node x k b j z m.tunnel (record {
    there = q.moved.there;
    leads = end_leads w n node q.moved.there x;
    id_fits = made.id_fits w h n node sender moment ev mv x d k j q m.tunnel t does.there;
    bounds = fit_bounded node.end q.moved.fit;
    nodes = q.nodes;
    same = others;
    peers = peers;
    entered = λ y other. ap (λ (g : Tunnels). g.entered y) machine_tunnels;
    asks = λ y other s.
        ended.asks y s
        ∙ ap (λ u. if u && list_any (λ (a : Told). a.call == s) told then false else j.calls.asks y s) (ne_eqb y X other);
    held = λ y other f s. ap (λ g. g y f s) ended.held;
    own = λ u at_u current three.
        (let same : r ≡ u = same_Some r u (sym at_r ∙ at_u) in
        subst (QueryJoined z n m.tunnel ((after h d).accounts n m.tunnel 0).peer) same
        (subst (λ y. QueryJoined z n m.tunnel y r) (sym (peers n m.tunnel)) still));
  }) q.joined.queries

  went : Went ev n j z
  went = record {
    moves = delivered X S e place heard;
    own = delivered_own n j X S e place heard (here.node live.made);
    heard = delivered_heard ev j X S e place heard from.apart (all_answers told) stand;
    goes = refl;
  }

  pub took_answer_follows : Follows ev (with_book (moves_on w n node mv x) n b) (after h d) n j
  took_answer_follows = follows ev w h n node mv x d k b j z same went
      (λ js goes. one_joined grow.stay (with_book w n k) (behind w n node x b) h (after h d) j z n m.tunnel (booked node k)
      (left node x b) q.joined.joined
      (talks_one grow.stay w h (after h d) n node x k b j z m.tunnel e t r [] [] (length told) talks q.joined.joined) js goes)
      queries (named_as j z ended.drawn q.joined.named)

pub took_answer_joins : ChannelsGrow → QueriesAreMoves → QueriesGoOn → BirthsOfRuns → (m : TookAnswer) → Joins (move.TookAnswer m)
took_answer_joins grow are on births m w h n node sender moment ev x d k j q b new =
    took_answer_follows grow are on births w h n node sender moment ev m x d k j q b new
