-- A tunnel is asked which sessions it still has, and answers; and so does the machine's, a session at a time.
use Rattle.std.proofs.Common.{◌≡◌, ℕ, List, [], ◌∷◌, ◌++◌, map, length, refl, sym, ap, ◌∙◌, subst, Option, Some, None}
use Rattle.std.proofs.lemmas.List.{length-map}
use Rattle.std.specs.List.{AllByRecursion}
use Rattle.id_table.specs.Ids.{at, put}
use Rattle.id_table.specs.Order.{at_new, at_other}
use Rattle.wire_base.specs.declared.pair.Pair.{Pair}
use Rattle.control_message.specs.declared.message.Message.TheVariants.{Fsr}
use Rattle.session_book.specs.Books.{Kept, tunnel_at}
use Rattle.end_model.specs.declared.event.Event.{Event}
use Rattle.end_model.specs.declared.moves.AnsweredQuery.{AnsweredQuery}
use Rattle.end_model.specs.declared.moves.Move.{Move}
use Rattle.end_model.specs.declared.moves.Move.TheVariants as move
use Rattle.end_model.specs.Channels.{counts_taken}
use Rattle.end_model.specs.Tunnels.{Tunnel}
use Rattle.end_model.specs.End.{End}
use Rattle.world_model.specs.World.{World, Node, Sender, Deed, epoch_of, moved}
use Rattle.step_laws.specs.Letters.{Letter}
use Rattle.step_laws.specs.Moves.{with_letter, AnswersQuestion}
use Rattle.book_laws.specs.Books.{Mirrors}
use Rattle.connection_laws.specs.Facts.{IsStopCcn}
use Rattle.epoch_machine.specs.Letters as machine_letters
use Rattle.epoch_machine.specs.Calls.{Calls}
use Rattle.epoch_machine.specs.Worlds as machine
use Rattle.epoch_machine.specs.Worlds.{all_rules}
use Rattle.epoch_machine.specs.Moves.{goes_on}
use Rattle.birth_laws.specs.Births.{BirthsOfRuns}
use Rattle.session_laws.specs.Names.{name, name_of}
use Rattle.channel_laws.specs.Accounts.{Account, History, after}
use Rattle.channel_laws.specs.Facts.{LiveOk}
use Rattle.channel_laws.specs.Steps.{with_end, moves_on}
use Rattle.recovery_laws.specs.Answers.{asked_for}
use Rattle.recovery_laws.specs.Asking.{GoesOn, Asked, TakesFrom, StandFrom, delivered, answers, QueriesAreMoves}
use Rattle.recovery_laws.specs.Growing.{ChannelsGrow}
use Rattle.recovery_laws.specs.Joined.{TunnelJoined}
use Rattle.recovery_laws.specs.Queries.{asks_in, answers_in, said_in, letters_in, question_of, questions_in, weight}
use Rattle.recovery_laws.proofs.Answers.{all_so}
use Rattle.join_laws.specs.Steps as steps
use Rattle.join_laws.specs.Steps.{with_book, Follows, Joins}
use Rattle.join_laws.proofs.Books.{booked, book_here}
use Rattle.join_laws.proofs.Bounds.{fit_bounded}
use Rattle.join_laws.proofs.Calls.{sessions_joined, unchanged, like_in, like_same, same_stays}
use Rattle.join_laws.proofs.Channel.{gives_is, questions_more}
use Rattle.join_laws.proofs.Finish.{named_as}
use Rattle.join_laws.proofs.Made as made
use Rattle.join_laws.proofs.Taking as taking
use Rattle.join_laws.proofs.Taking.{Takes, TakesIn, TookLetter}
use Rattle.join_laws.proofs.Talking.{talks_follow}
use Rattle.join_laws.proofs.Within.{partner_by}
use Rattle.recovery_join_laws.proofs.Lists.{delivered_own, all_questions, delivered_heard}
use Rattle.recovery_join_laws.proofs.Sessions as sessions
use Rattle.recovery_join_laws.proofs.Sessions.{calls_hold}
use Rattle.recovery_join_laws.proofs.Standing as standing
use Rattle.recovery_join_laws.proofs.Standing.{SaidThere}

-- what the other end asks for, by its letters
asked_letters : (n peer : ℕ) (pairs : List Pair)
    → map (λ (a : Asked). machine_letters.Fsq a.own a.other) (map (λ p. asked_for n peer p) pairs) ≡ asks_in peer n pairs
asked_letters n peer [] = refl
asked_letters n peer (p ∷ ps) = ap (λ ls. machine_letters.Fsq (name peer p.sender) (name_of n p.receiver) ∷ ls) (asked_letters n peer ps)

pub all_any : (pairs : List Pair) → AllByRecursion (λ (p : Pair). Unit {0}) pairs
all_any [] = tt
all_any (p ∷ ps) = (tt, all_any ps)

module _ (grow : ChannelsGrow) (are : QueriesAreMoves) (births : BirthsOfRuns) (w : World) (h : History) (n : ℕ) (node : Node)
    (sender : Option Sender)
    (moment : ℕ) (ev : Event) (m : AnsweredQuery) (x : End) (d : Deed) (k : Kept) (j : machine.World)
    (q : steps.IsMade w h n node sender moment ev (move.AnsweredQuery m) x d k j) (b : Kept) (new : Mirrors x b) where
  abbrev mv : Move
  mv = move.AnsweredQuery m

  abbrev does : AnswersQuestion node.end ev m x
  does = q.moved.does

  abbrev e : ℕ
  e = epoch_of w n m.tunnel

  abbrev t : Tunnel
  t = does.tunnel

  abbrev r : Tunnel
  r = with_letter 0 (Fsr m.answers) (record t { control = counts_taken t.control })

  abbrev l : Letter
  l = record { tunnel = m.tunnel; place = m.given; session = 0; message = Fsr m.answers; hidden = None }

  same : moves_on w n node mv x ≡ with_end w n node x
  unfolding moved
  same = refl

  takes_it : Takes w h n node mv x d t m.taken.number (l ∷ [])
  takes_it = record {
    epoch = made.epoch_is w h n node sender moment ev mv x d k j q same;
    plain = record { declines = λ p i. refl; attempts = λ p a o. refl; answers = λ p c o. refl };
    at_t = does.there;
    current = does.current;
    three = does.open_is;
    enters = λ a.
        ap (λ ls. record a {
          given = a.given ++ ls;
          taken = a.taken ++
              (record { sender = d.sender; number = m.taken.number; move = d.move }) ∷ [];
        })
        (gives_is d n node.end.role sender mv q.moved.deed);
  }

  took : TookLetter w h n node sender moment ev mv x d k j q t m.taken.number (l ∷ []) takes_it
  took = taking.took_letter w h n node sender moment ev mv x d k j q t m.taken.number (l ∷ []) takes_it

  no_stop : IsStopCcn took.letter.message → ⊥
  no_stop stops = subst IsStopCcn took.tells stops

  abbrev X : ℕ
  X = name n m.tunnel

  abbrev S : ℕ
  S = name took.from.node took.from.tunnel

  abbrev peer : ℕ
  peer = (h.accounts n m.tunnel 0).peer

  abbrev place : ℕ
  place = taking.place w h n node sender moment ev mv x d k j q t m.taken.number (l ∷ []) takes_it took no_stop

  abbrev qs : List Asked
  qs = map (λ p. asked_for n peer p) m.pairs

  abbrev asks : List machine_letters.Letter
  asks = map (λ (a : Asked). machine_letters.Fsq a.own a.other) qs

  abbrev says : List machine_letters.Letter
  says = answers_in n peer m.pairs m.answers

  abbrev z : machine.World
  z = goes_on all_rules j (delivered X S e place asks)

  peer_is : peer ≡ took.from.node
  peer_is = taking.took_peer w h n node sender moment ev mv x d k j q t m.taken.number (l ∷ []) takes_it took no_stop

  live : LiveOk w h n m.tunnel t
  live = made.live_ok w h n node sender moment ev mv x d k j q m.tunnel t does.there

  told : TunnelJoined j (with_book w n k) h n m.tunnel (Some t) (tunnel_at k m.tunnel)
  told = made.told w h n node sender moment ev mv x d k j q m.tunnel t does.there

  said : SaidThere w h n node sender moment ev mv x d k j q t m.taken.number (l ∷ []) takes_it took no_stop
  said = standing.said_there w h n node sender moment ev mv x d k j q t m.taken.number (l ∷ []) takes_it took no_stop

  stand : StandFrom j S e place asks
  stand = subst (StandFrom j S e place)
      (ap (said_in took.from.node n said.asked took.letter.session) took.tells
      ∙ (ap (λ p. asks_in p n m.pairs) (sym peer_is) ∙ sym (asked_letters n peer m.pairs)))
      said.stand

  from : TakesFrom j X S e place
  from = taking.takes_from w h n node sender moment ev mv x d k j q t m.taken.number (l ∷ []) takes_it took no_stop

  goes : GoesOn j z X e (answers j.calls X qs) (length qs) × (z.calls ≡ j.calls)
  goes = are.answers j X S e place qs from stand

  calls : z.calls ≡ j.calls
  calls = goes.1

  machine_tunnels : z.tunnels ≡ j.tunnels
  machine_tunnels = goes.0.tunnels

  says_is : answers j.calls X qs ≡ says
  says_is =
      all_so (λ p. Unit {0}) j n m.tunnel peer t
      (sessions.calls_are (with_book w n k) h j q.joined.joined (calls_hold births (with_book w n k) h j q.joined.joined) q.joined.named n
      (booked node k)
      (book_here w n k node q.moved.there) m.tunnel t does.there (q.moved.fit.tables.tunnels m.tunnel t does.there).order
      (fit_bounded node.end q.moved.fit) (made.calls_before w h n node sender moment ev mv x d k j q) (told.node live.made))
      m.pairs (all_any m.pairs)
      ∙ ap (answers_in n peer m.pairs) (sym does.answers)

  tunnels : x.tunnels ≡ put node.end.tunnels m.tunnel r
  tunnels = ap (λ (y : End). y.tunnels) does.after

  at_r : at x.tunnels m.tunnel ≡ Some r
  at_r = ap (λ ts. at ts m.tunnel) tunnels ∙ at_new node.end.tunnels m.tunnel r

  others : (i : ℕ) → (i ≡ m.tunnel → ⊥) → at x.tunnels i ≡ at node.end.tunnels i
  others i other = ap (λ ts. at ts i) tunnels ∙ at_other node.end.tunnels m.tunnel r i other

  peers : (p i : ℕ) → ((after h d).accounts p i 0).peer ≡ (h.accounts p i 0).peer
  peers = taking.took_peers w h n node sender moment ev mv x d k j q t m.taken.number (l ∷ []) takes_it

  abbrev a : Account
  a = h.accounts n m.tunnel e

  peer_now : a.peer ≡ peer
  peer_now = (partner_by a took.from took.partner).0 ∙ sym peer_is

  in_tunnel : TakesIn h (after h d) n node mv x b j z m.tunnel e r (l ∷ []) says (length qs) t
  in_tunnel = record {
    new = new;
    at_r = at_r;
    state = refl;
    recovery = refl;
    others = others;
    sent = λ tk is.
        ap (λ ps. letters_in n a.peer ps (a.given ++ l ∷ []))
        (questions_more a.taken tk ∙ ap (λ y. questions_in a.taken ++ question_of y) is)
        ∙ (grow.answers n a.peer (questions_in a.taken) m.pairs a.given l (q.answers n m.tunnel e) refl
        ∙ ap (λ p. letters_in n a.peer (questions_in a.taken) a.given ++ answers_in n p m.pairs m.answers) peer_now);
    goes = subst (λ ls. GoesOn j z X e ls (length qs)) says_is goes.0;
    calls = sessions_joined node x k b j z h (after h d) n
        (unchanged node x k b j z h (after h d) n q.mirrors new (fit_bounded x q.fit) (peers n) calls machine_tunnels
        (ap (λ (y : End). y.session_ids) does.after)
        (λ s. like_in node.end x m.tunnel t r s does.there at_r others (like_same (at t.calls s) (at t.calls s) refl)))
        (made.calls_before w h n node sender moment ev mv x d k j q);
    calls_stay = λ p s no pfits sfits. same_stays j z (name p s) calls;
    births = (ap (λ (c : Calls). c.births) calls, λ y. ap (λ (c : Calls). c.birth y) calls);
  }

  pub answered_follows : Follows ev (with_book (moves_on w n node mv x) n b) (after h d) n j
  answered_follows =
      talks_follow grow w h n node sender moment ev mv x d k b j z q t r (l ∷ []) says (length qs)
      (taking.takes_talks w h n node sender moment ev mv x d k j q t m.taken.number (l ∷ []) takes_it took no_stop grow b z r says
      (length qs) in_tunnel
      (ap weight took.tells ∙ sym (length-map m.pairs (λ p. asked_for n peer p))))
      peers (record {
        same = same;
        query = refl;
        asks = λ y s. ap (λ (f : Calls). f.asks y s) calls;
        held = λ y f s. ap (λ (p : Calls). p.held y f s) calls;
        named = named_as j z (ap (λ (f : Calls). f.drawn) calls) q.joined.named;
        went = record {
          moves = delivered X S e place asks;
          own = delivered_own n j X S e place asks (told.node live.made);
          heard = delivered_heard ev j X S e place asks from.apart (all_questions qs) stand;
          goes = refl;
        };
      })

pub answered_joins : ChannelsGrow → QueriesAreMoves → BirthsOfRuns → (m : AnsweredQuery) → Joins (move.AnsweredQuery m)
answered_joins grow are births m w h n node sender moment ev x d k j q b new =
    answered_follows grow are births w h n node sender moment ev m x d k j q b new
