-- A request is refused, and so it is in the machine. A reply to an LNS's tunnel would be refused too; none comes, since it replies to a
-- request of that tunnel, and an LNS's tunnel gave none.
use Rattle.std.proofs.Common.{◌≡◌, ◌≢◌, ⊎_elim, ℕ, ◌<◌, Bool, true, false, List, [], ◌∷◌, ◌++◌, refl, sym, ap, ◌∙◌, subst, Option, Some, None, arith, lt-ltb, ne_eqb}
use Rattle.std.proofs.lemmas.Bool.{true≢false}
use Rattle.std.specs.Prelude.{slice_get, if◌then◌else◌}
use Rattle.std.specs.List.{AllByRecursion}
use Rattle.id_table.specs.Ids.{at, put}
use Rattle.id_table.specs.Order.{at_new, at_other, same_or_not}
use Rattle.wire_base.specs.declared.pair.Pair.{Pair}
use Rattle.recv_window.specs.Window.{ClassIsTrue}
use Rattle.session_book.specs.Books.{Kept, tunnel_at}
use Rattle.control_message.specs.declared.message.Message.{Message}
use Rattle.control_message.specs.declared.message.Message.TheVariants as message
use Rattle.tunnel_fsm.specs.Rows.{state_number}
use Rattle.end_names.specs.declared.role.Role.TheVariants.{Lns}
use Rattle.end_model.specs.declared.event.Event.{Event}
use Rattle.end_model.specs.declared.moves.Refused.{Refused}
use Rattle.end_model.specs.declared.moves.Move.{Move}
use Rattle.end_model.specs.declared.moves.Move.TheVariants as move
use Rattle.end_model.specs.Channels.{counts_taken}
use Rattle.end_model.specs.Moments.{is_closed}
use Rattle.end_model.specs.Reading.{message_in, CallFault, call_fault_in}
use Rattle.end_model.specs.Tunnels.{Tunnel}
use Rattle.end_model.specs.End.{End}
use Rattle.world_model.specs.World.{World, Node, Sender, Deed, epoch_of, moved}
use Rattle.step_laws.specs.Letters.{Letter}
use Rattle.step_laws.specs.Moves.{with_letter, WhyRefused, IsNotGranted, IsOutgoing, IsReplyToNone, IsWrong}
use Rattle.book_laws.specs.Books.{Mirrors}
use Rattle.birth_laws.specs.Births.{BirthsOfRuns}
use Rattle.frame_laws.specs.Codecs.{Codecs}
use Rattle.frame_laws.specs.Plain.{AreAlike}
use Rattle.frame_laws.proofs.Facts.{all_at}
use Rattle.connection_laws.specs.Facts.{IsStopCcn}
use Rattle.connection_laws.specs.Steps as calm
use Rattle.epoch_machine.specs.Letters as machine_letters
use Rattle.epoch_machine.specs.Tunnels.{Open}
use Rattle.epoch_machine.specs.Calls.{Calls}
use Rattle.epoch_machine.specs.Worlds as machine
use Rattle.epoch_machine.specs.Worlds.{all_rules, took_one, takes, takes_open, answers_request}
use Rattle.epoch_machine.specs.Moves.{Delivers, delivers, step}
use Rattle.session_laws.specs.Names.{name, name_of}
use Rattle.session_laws.proofs.CallLaws.{WorldHolds, world_holds, request_own}
use Rattle.session_laws.proofs.Names.{known_name}
use Rattle.channel_laws.specs.Accounts.{Account, History, after}
use Rattle.channel_laws.specs.Recoveries.{WrittenIsRead, WrittenHasRoom}
use Rattle.channel_laws.specs.Steps.{with_end, moves_on}
use Rattle.recovery_laws.specs.Asking as asking
use Rattle.recovery_laws.specs.Growing.{ChannelsGrow}
use Rattle.recovery_laws.specs.Joined.{TunnelJoined, NodeJoined}
use Rattle.recovery_laws.specs.Queries.{said_in, letters_in, first_of, rest_of, asks_in, answers_in, question_of, questions_in, weight}
use Rattle.recovery_laws.proofs.Asking.{may_take_it}
use Rattle.join_laws.specs.Hearing.{stage_of_kind, Hears}
use Rattle.join_laws.specs.Roles.{IsAsking, RequestsAreOfLacs, JoinsByRoles}
use Rattle.join_laws.specs.Steps as steps
use Rattle.join_laws.specs.Steps.{with_book, Follows}
use Rattle.join_laws.proofs.Bounds.{fit_bounded}
use Rattle.join_laws.proofs.CallMoves.{then_gives, then_gives_tunnels, then_gives_calls, then_gives_goes, delivers_node}
use Rattle.join_laws.proofs.Calls.{AreLike, like_in, like_same, sessions_joined, unchanged, same_stays}
use Rattle.join_laws.proofs.Channel.{gives_is, sent_one}
use Rattle.join_laws.proofs.Finish.{went_one, named_as}
use Rattle.join_laws.proofs.HeardAny.{fault_is}
use Rattle.join_laws.proofs.Hearing.{heard_at, hears_said, hears_fault}
use Rattle.join_laws.proofs.Made as made
use Rattle.join_laws.proofs.NextAlike.{next_alike, next_faulty}
use Rattle.join_laws.proofs.Taking as taking
use Rattle.join_laws.proofs.Taking.{Takes, TakesIn, TookLetter}
use Rattle.join_laws.proofs.Talking.{talks_follow}
use Rattle.join_laws.proofs.Within.{partner_by}

-- ---- in the machine

-- a request for which there is no new name is refused
takes_refused : (w : machine.World) (x s own : ℕ) → w.tunnels.phase x ≡ Open → 0 < own → w.calls.drawn own ≡ true
    → takes all_rules (took_one w x) x s (machine_letters.Request own) own ≡ then_gives w x w.calls (machine_letters.Cdn 0 own)
unfolding takes took_one takes_open answers_request
takes_refused w x s own phase some drawn = rw (phase, lt-ltb 0 own some, drawn) refl

refused_step : (w : machine.World) (x s e k own : ℕ) → asking.TakesFrom w x s e k
    → slice_get (w.channels.sent s e) k ≡ Some (machine_letters.Request own) → 0 < own → w.calls.drawn own ≡ true
    → step all_rules w (Delivers x s e k own) ≡ then_gives w x w.calls (machine_letters.Cdn 0 own)
unfolding step delivers
refused_step w x s e k own t stands some drawn =
    ap (λ o. delivers all_rules w x s e k own o) stands
    ∙ (ap (λ b. if b then takes all_rules (took_one w x) x s (machine_letters.Request own) own else w) (may_take_it w x s e k
    (machine_letters.Request own) t)
    ∙ takes_refused w x s own t.open_is some drawn)

-- ---- letters that ask for none

abbrev pub is_request : machine_letters.Letter → Bool
is_request (machine_letters.Request own) = true
is_request l = false

abbrev pub NoRequest : machine_letters.Letter → Type 0
NoRequest l = is_request l ≡ false

all_more : (xs ys : List machine_letters.Letter) → AllByRecursion NoRequest xs → AllByRecursion NoRequest ys
    → AllByRecursion NoRequest (xs ++ ys)
all_more [] ys h k = k
all_more (x ∷ xs) ys h k = (h.0, all_more xs ys h.1 k)

asks_none : (n m : ℕ) (pairs : List Pair) → AllByRecursion NoRequest (asks_in n m pairs)
asks_none n m [] = tt
asks_none n m (p ∷ ps) = (refl, asks_none n m ps)

answers_none : (n m : ℕ) (asked answers : List Pair) → AllByRecursion NoRequest (answers_in n m asked answers)
answers_none n m asked [] = tt
answers_none n m [] (a ∷ rest) = (refl, answers_none n m [] rest)
answers_none n m (q ∷ qs) (a ∷ rest) = (refl, answers_none n m qs rest)

said_none : (n m : ℕ) (asked : List Pair) (header : ℕ) (x : Message) → (IsAsking x → ⊥)
    → AllByRecursion NoRequest (said_in n m asked header x)
said_none n m asked header (message.Sccrq o) other = (refl, tt)
said_none n m asked header (message.Sccrp o) other = (refl, tt)
said_none n m asked header (message.Scccn response) other = (refl, tt)
said_none n m asked header (message.StopCcn tunnel result error) other = (refl, tt)
said_none n m asked header message.Hello other = (refl, tt)
said_none n m asked header (message.Ocrq remote) other = (refl, tt)
said_none n m asked header message.Ocrp other = (refl, tt)
said_none n m asked header message.Occn other = (refl, tt)
said_none n m asked header message.Wen other = (refl, tt)
said_none n m asked header message.Sli other = (refl, tt)
said_none n m asked header (message.Fsq sessions) other = asks_none n m sessions
said_none n m asked header (message.Fsr sessions) other = answers_none n m asked sessions
said_none n m asked header (message.Icrq remote serial calling) other = absurd (other tt)
said_none n m asked header (message.Icrp remote) other = (refl, tt)
said_none n m asked header (message.Iccn speed framing sequenced) other = (refl, tt)
said_none n m asked header (message.Cdn remote code error) other = (refl, tt)

pub letters_none : (n m : ℕ) (qs : List (List Pair)) (ls : List Letter) → AllByRecursion (λ (l : Letter). IsAsking l.message → ⊥) ls
    → AllByRecursion NoRequest (letters_in n m qs ls)
letters_none n m qs [] h = tt
letters_none n m qs (l ∷ ls) h =
    all_more (said_in n m (first_of qs) l.session l.message) (letters_in n m (rest_of l.message qs) ls)
    (said_none n m (first_of qs) l.session l.message h.0) (letters_none n m (rest_of l.message qs) ls h.1)

-- ---- messages

no_reply_asks : (m : Message) (r own serial : ℕ) (calling : Option (List ℕ)) → m ≡ message.Icrp r
    → AreAlike m (message.Icrq own serial calling) → ⊥
no_reply_asks m r own serial calling is alike =
    let two : AreAlike (message.Icrp r) (message.Icrq own serial calling) =
    subst (λ y. AreAlike y (message.Icrq own serial calling)) is alike in
    cc

no_reply_places : (m : Message) (r own : ℕ) → m ≡ message.Icrp r → AreAlike m (message.Ocrq own) → ⊥
no_reply_places m r own is alike =
    let two : AreAlike (message.Icrp r) (message.Ocrq own) = subst (λ y. AreAlike y (message.Ocrq own)) is alike in cc

no_request_replies : (m : Message) (r own serial : ℕ) (calling : Option (List ℕ)) → m ≡ message.Icrq own serial calling
    → AreAlike m (message.Icrp r) → ⊥
no_request_replies m r own serial calling is alike =
    let two : AreAlike (message.Icrq own serial calling) (message.Icrp r) = subst (λ y. AreAlike y (message.Icrp r)) is alike in cc

no_request_places : (m : Message) (r own serial : ℕ) (calling : Option (List ℕ)) → m ≡ message.Icrq own serial calling
    → AreAlike m (message.Ocrq r) → ⊥
no_request_places m r own serial calling is alike =
    let two : AreAlike (message.Icrq own serial calling) (message.Ocrq r) = subst (λ y. AreAlike y (message.Ocrq r)) is alike in cc

-- ---- the move

module _ (keep : calm.MovesKeep) (plainly : calm.PlainIsHeard) (codecs : Codecs) (again : WrittenIsRead) (room : WrittenHasRoom)
    (classes : ClassIsTrue) (grow : ChannelsGrow) (births : BirthsOfRuns) (w : World) (h : History) (n : ℕ) (node : Node)
    (sender : Option Sender) (moment : ℕ) (ev : Event) (m : Refused) (x : End) (d : Deed) (k : Kept) (j : machine.World)
    (roles : RequestsAreOfLacs w h) (q : steps.IsMade w h n node sender moment ev (move.Refused m) x d k j) (b : Kept)
    (new : Mirrors x b) where
  abbrev mv : Move
  mv = move.Refused m

  abbrev i : ℕ
  i = m.tunnel

  abbrev e : ℕ
  e = epoch_of w n m.tunnel

  abbrev t : Tunnel
  t = q.moved.does.tunnel

  abbrev r : Tunnel
  r = with_letter m.remote (message.Cdn 0 m.result m.error) (record t { control = counts_taken t.control })

  abbrev l : Letter
  l = record { tunnel = m.tunnel; place = m.given; session = m.remote; message = message.Cdn 0 m.result m.error; hidden = None }

  abbrev a : Account
  a = h.accounts n m.tunnel (epoch_of w n m.tunnel)

  at_t : at node.end.tunnels m.tunnel ≡ Some t
  at_t = q.moved.does.there

  same : moves_on w n node mv x ≡ with_end w n node x
  unfolding moved
  same = refl

  takes_it : Takes w h n node mv x d t m.taken.number (l ∷ [])
  takes_it = record {
    epoch = made.epoch_is w h n node sender moment ev mv x d k j q same;
    plain = record { declines = λ p i. refl; attempts = λ p a o. refl; answers = λ p c o. refl };
    at_t = at_t;
    current = q.moved.does.current;
    three = q.moved.does.open_is;
    enters = λ a.
        ap (λ ls. record a {
          given = a.given ++ ls;
          taken = a.taken ++ (record { sender = d.sender; number = m.taken.number; move = d.move }) ∷ [];
        })
        (gives_is d n node.end.role sender mv q.moved.deed);
  }

  took : TookLetter w h n node sender moment ev mv x d k j q t m.taken.number (l ∷ []) takes_it
  took = taking.took_letter w h n node sender moment ev mv x d k j q t m.taken.number (l ∷ []) takes_it

  works : is_closed t.control.state ≡ false
  works = ne_eqb (state_number t.control.state) 4
      (λ four. (let three = q.moved.does.open_is in let no : ⊥ = omega (arith, four, three) in no))

  no_stop : IsStopCcn took.letter.message → ⊥
  no_stop stops = ⊎_elim
      (λ (asks : (serial : ℕ) × (calling : Option (List ℕ)) × (took.letter.message ≡ message.Icrq m.remote serial calling)).
      subst IsStopCcn asks.2 stops)
      (λ (replies : took.letter.message ≡ message.Icrp m.remote). subst IsStopCcn replies stops)
      took.tells

  abbrev X : ℕ
  X = name n m.tunnel

  abbrev S : ℕ
  S = name took.from.node took.from.tunnel

  abbrev place : ℕ
  place = taking.place w h n node sender moment ev mv x d k j q t m.taken.number (l ∷ []) takes_it took no_stop

  from : asking.TakesFrom j X S e place
  from = taking.takes_from w h n node sender moment ev mv x d k j q t m.taken.number (l ∷ []) takes_it took no_stop

  hold : WorldHolds j
  hold = world_holds births j q.joined.joined.moves q.joined.joined.run

  told : TunnelJoined j (with_book w n k) h n m.tunnel (Some t) (tunnel_at k m.tunnel)
  told = made.told w h n node sender moment ev mv x d k j q i t at_t

  -- ---- it is no reply

  module _ (replies : took.letter.message ≡ message.Icrp m.remote) where
    -- a reply is refused by an LNS alone
    is_lns : WhyRefused node.end t q.moved.does.letter.header.session (message_in q.moved.does.letter.body)
        (call_fault_in q.moved.does.letter.body) m
        → node.end.role ≡ Lns
    is_lns (IsNotGranted remote serial calling said none named denied) = absurd (no_reply_asks took.letter.message m.remote remote
        serial calling replies
        (next_alike keep plainly codecs again room classes w h n node sender moment ev mv x d k j q t at_t q.moved.does.current works
        q.moved.does.letter q.moved.does.takes.next took.from took.letter took.sender_is took.partner took.there
        (message.Icrq remote serial calling) tt said))
    is_lns (IsOutgoing remote said named result error) = absurd (no_reply_places took.letter.message m.remote remote replies
        (next_alike keep plainly codecs again room classes w h n node sender moment ev mv x d k j q t at_t q.moved.does.current works
        q.moved.does.letter q.moved.does.takes.next took.from took.letter took.sender_is took.partner took.there
        (message.Ocrq remote) tt said))
    is_lns (IsReplyToNone remote said none lns named result error) = lns
    is_lns (IsWrong f fault named result error) =
        let g = next_faulty keep plainly codecs again room classes w h n node sender moment ev mv x d k j q t at_t q.moved.does.current
        works q.moved.does.letter q.moved.does.takes.next took.from took.letter took.sender_is took.partner took.there f fault in
        absurd (no_reply_asks took.letter.message m.remote g.0 g.1 (Some g.2) replies g.3)

    abbrev own : ℕ
    own = name took.from.node m.remote

    abbrev Z : ℕ
    Z = name n took.letter.session

    reply : slice_get (j.channels.sent S e) place ≡ Some (machine_letters.Reply own Z)
    reply = taking.takes_stands w h n node sender moment ev mv x d k j q t m.taken.number (l ∷ []) takes_it took no_stop
        (machine_letters.Reply own Z)
        (λ asked. ap (λ y. said_in took.from.node n asked took.letter.session y) replies)

    -- it replies to a request that this tunnel gave
    no_reply : ⊥
    no_reply =
        let means = hold.letters.means S e place (machine_letters.Reply own Z) reply in
        let some : j.calls.mate own ≢ 0 = λ zero. means.0 (sym means.1 ∙ zero) in
        let request = hold.letters.mate_taken own e some means.3 in
        let link = hold.calls.mate_linked own some in
        let tunnel : j.calls.tunnel (j.calls.mate own) ≡ X =
        sym link.back ∙ (ap (λ y. j.tunnels.learned y) means.2 ∙ from.learned) in
        let asked : slice_get (j.channels.sent X e) request.place ≡ Some (machine_letters.Request (j.calls.mate own)) =
        subst (λ y. slice_get (j.channels.sent y e) request.place ≡ Some (machine_letters.Request (j.calls.mate own))) tunnel
        request.stands in
        let all = letters_none n a.peer (questions_in a.taken) a.given (roles n m.tunnel e node q.moved.there (is_lns q.moved.does.why)) in
        let given : slice_get (letters_in n a.peer (questions_in a.taken) a.given) request.place
        ≡ Some (machine_letters.Request (j.calls.mate own)) =
        ap (λ ls. slice_get ls request.place) (sym (told.sent e)) ∙ asked in
        true≢false (all_at NoRequest (letters_in n a.peer (questions_in a.taken) a.given) request.place
        (machine_letters.Request (j.calls.mate own)) given all)

  -- ---- it is a request

  module _ (serial : ℕ) (calling : Option (List ℕ)) (asks : took.letter.message ≡ message.Icrq m.remote serial calling) where
    abbrev asker : ℕ
    asker = name took.from.node m.remote

    abbrev z : machine.World
    z = then_gives j X j.calls (machine_letters.Cdn 0 asker)

    stands : slice_get (j.channels.sent S e) place ≡ Some (machine_letters.Request asker)
    stands = taking.takes_stands w h n node sender moment ev mv x d k j q t m.taken.number (l ∷ []) takes_it took no_stop
        (machine_letters.Request asker)
        (λ asked. ap (λ y. said_in took.from.node n asked took.letter.session y) asks)

    drawn : (asker ≢ 0) × (j.calls.drawn asker ≡ true)
    drawn = request_own j hold S e place asker stands

    giver_fits : took.from.node < 256
    giver_fits = (taking.took_from w h n node sender moment ev mv x d k j q t m.taken.number (l ∷ []) takes_it took no_stop).node

    -- no call that asks has session 0
    zero_undrawn : (o : Option Node) → NodeJoined j h took.from.node o → j.calls.drawn (name took.from.node 0) ≡ false
    zero_undrawn None joined = (joined.1 0 (omega arith)).1
    zero_undrawn (Some other) joined = joined.1.zero

    known : 0 < m.remote
    known = ⊎_elim
        (λ (zero : m.remote ≡ 0).
        absurd (true≢false (sym drawn.1 ∙ (ap (λ y. j.calls.drawn (name took.from.node y)) zero
        ∙ zero_undrawn (at (with_book w n k).nodes took.from.node) (q.joined.joined.nodes took.from.node giver_fits)))))
        (λ (some : m.remote ≡ 0 → ⊥). omega (arith, some))
        (same_or_not m.remote 0)

    machine_calls : z.calls ≡ j.calls
    machine_calls = then_gives_calls j X j.calls (machine_letters.Cdn 0 asker)

    machine_tunnels : z.tunnels ≡ j.tunnels
    machine_tunnels = then_gives_tunnels j X j.calls (machine_letters.Cdn 0 asker)

    peers : (p f : ℕ) → ((after h d).accounts p f 0).peer ≡ (h.accounts p f 0).peer
    peers = taking.took_peers w h n node sender moment ev mv x d k j q t m.taken.number (l ∷ []) takes_it

    tunnels : x.tunnels ≡ put node.end.tunnels m.tunnel r
    tunnels = ap (λ (y : End). y.tunnels) q.moved.does.after

    at_r : at x.tunnels m.tunnel ≡ Some r
    at_r = ap (λ ts. at ts m.tunnel) tunnels ∙ at_new node.end.tunnels m.tunnel r

    others : (f : ℕ) → (f ≡ m.tunnel → ⊥) → at x.tunnels f ≡ at node.end.tunnels f
    others f other = ap (λ ts. at ts f) tunnels ∙ at_other node.end.tunnels m.tunnel r f other

    like : (s : ℕ) → AreLike node.end x s
    like s = like_in node.end x m.tunnel t r s at_t at_r others (like_same (at t.calls s) (at t.calls s) refl)

    in_tunnel : TakesIn h (after h d) n node mv x b j z m.tunnel e r (l ∷ []) (machine_letters.Cdn 0 asker ∷ []) 1 t
    in_tunnel = record {
      new = new;
      at_r = at_r;
      state = refl;
      recovery = refl;
      others = others;
      sent = λ tk is.
          sent_one grow n a.peer a.taken a.given tk l (ap question_of is) refl
          ∙ ap (λ y. letters_in n a.peer (questions_in a.taken) a.given ++ machine_letters.Cdn 0 y ∷ [])
          (ap (λ p. name_of p m.remote) (partner_by a took.from took.partner).0 ∙ known_name took.from.node m.remote known);
      goes = then_gives_goes j X S e place j.calls (machine_letters.Cdn 0 asker) from;
      calls = sessions_joined node x k b j z h (after h d) n
          (unchanged node x k b j z h (after h d) n q.mirrors new (fit_bounded x q.fit) (peers n) machine_calls machine_tunnels
          (ap (λ (y : End). y.session_ids) q.moved.does.after) like)
          (made.calls_before w h n node sender moment ev mv x d k j q);
      calls_stay = λ p s off pfits sfits. same_stays j z (name p s) machine_calls;
      births = (ap (λ (c : Calls). c.births) machine_calls, λ y. ap (λ (c : Calls). c.birth y) machine_calls);
    }

    -- the step hears a request, whether its number could be had or not
    hears_request : WhyRefused node.end t q.moved.does.letter.header.session (message_in q.moved.does.letter.body)
        (call_fault_in q.moved.does.letter.body) m
        → Hears ev 5
    hears_request (IsNotGranted remote number who said none named denied) =
        hears_said ev q.moved.does.letter q.moved.does.takes.next.comes.came (message.Icrq remote number who) said
    hears_request (IsOutgoing remote said named result error) = absurd (no_request_places took.letter.message remote m.remote serial
        calling asks
        (next_alike keep plainly codecs again room classes w h n node sender moment ev mv x d k j q t at_t q.moved.does.current works
        q.moved.does.letter q.moved.does.takes.next took.from took.letter took.sender_is took.partner took.there
        (message.Ocrq remote) tt said))
    hears_request (IsReplyToNone remote said none lns named result error) = absurd (no_request_replies took.letter.message remote
        m.remote serial calling asks
        (next_alike keep plainly codecs again room classes w h n node sender moment ev mv x d k j q t at_t q.moved.does.current works
        q.moved.does.letter q.moved.does.takes.next took.from took.letter took.sender_is took.partner took.there
        (message.Icrp remote) tt said))
    hears_request (IsWrong f fault named result error) =
        let own = fault_is keep codecs again room w h n node sender moment ev mv x d k j q t at_t q.moved.does.current
        q.moved.does.letter.header.session f (record {
          letter = q.moved.does.letter;
          comes = q.moved.does.takes.next.comes;
          says = record { session_is = refl; fault = fault };
        }) in
        subst (λ (o : CallFault). Hears ev (stage_of_kind o.kind)) own.1
        (hears_fault ev q.moved.does.letter q.moved.does.takes.next.comes.came f fault)

    some_name : (y : ℕ) → y ≢ 0 → 0 < y
    some_name y some = omega (arith, some)

    request_follows : Follows ev (with_book (moves_on w n node mv x) n b) (after h d) n j
    request_follows =
        talks_follow grow w h n node sender moment ev mv x d k b j z q t r (l ∷ []) (machine_letters.Cdn 0 asker ∷ []) 1
        (taking.takes_talks w h n node sender moment ev mv x d k j q t m.taken.number (l ∷ []) takes_it took no_stop grow b z r
        (machine_letters.Cdn 0 asker ∷ []) 1 in_tunnel (ap weight asks))
        peers (record {
          same = same;
          query = refl;
          asks = λ y s. ap (λ (f : Calls). f.asks y s) machine_calls;
          held = λ y f s. ap (λ (p : Calls). p.held y f s) machine_calls;
          named = named_as j z (ap (λ (f : Calls). f.drawn) machine_calls) q.joined.named;
          went = went_one ev n j z (Delivers X S e place asker)
              (delivers_node j X S e place asker
              ∙ told.node (made.live_ok w h n node sender moment ev mv x d k j q m.tunnel t at_t).made)
              refl
              (heard_at ev j X S e place asker (machine_letters.Request asker) stands (λ up. hears_request q.moved.does.why))
              (refused_step j X S e place asker from stands (some_name asker drawn.0) drawn.1);
        })

  pub refused_follows : Follows ev (with_book (moves_on w n node mv x) n b) (after h d) n j
  refused_follows = ⊎_elim
      (λ (asks : (serial : ℕ) × (calling : Option (List ℕ)) × (took.letter.message ≡ message.Icrq m.remote serial calling)).
      request_follows asks.0 asks.1 asks.2)
      (λ (replies : took.letter.message ≡ message.Icrp m.remote). absurd (no_reply replies))
      took.tells

pub refused_joins : calm.MovesKeep → calm.PlainIsHeard → Codecs → WrittenIsRead → WrittenHasRoom → ClassIsTrue → ChannelsGrow
    → BirthsOfRuns
    → (m : Refused) → JoinsByRoles (move.Refused m)
refused_joins keep plainly codecs again room classes grow births m w h n node sender moment ev x d k j roles q b new =
    refused_follows keep plainly codecs again room classes grow births w h n node sender moment ev m x d k j roles q b new
