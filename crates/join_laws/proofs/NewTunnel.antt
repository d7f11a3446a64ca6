-- A tunnel is made, with an id that is drawn, and so is the machine's: all else is as it was.
use Rattle.std.proofs.Common.{◌≡◌, ◌⊎◌, inl, inr, ⊎_elim, ℕ, ◌+◌, ◌<◌, ◌≤◌, Bool, true, false, List, [], ◌++◌, length, refl, sym, ap, ap₂, ◌∙◌, subst, Option, Some, None, Ok, arith, append-nil}
use Rattle.std.proofs.lemmas.Option.{none-some, same_Some}
use Rattle.std.specs.Prelude.{is_some, take, ◌||◌}
use Rattle.id_source.specs.Spaces.{takes_id, draw_is}
use Rattle.id_table.specs.Ids.{at, put, at-none}
use Rattle.id_table.specs.Order.{at_new, at_other, same_or_not}
use Rattle.session_book.specs.declared.record.BookTunnel.{BookTunnel}
use Rattle.session_book.specs.Books.{Kept, tunnel_at}
use Rattle.tunnel_fsm.specs.Rows.{state_number}
use Rattle.end_model.specs.declared.event.Event.{Event}
use Rattle.end_model.specs.declared.moves.Move.{Move}
use Rattle.end_model.specs.declared.tunnel.Call.{Call}
use Rattle.end_model.specs.Moments.{is_open}
use Rattle.end_model.specs.Tunnels.{Tunnel}
use Rattle.end_model.specs.End.{End}
use Rattle.world_model.specs.declared.standing.Standing.{Standing}
use Rattle.world_model.specs.World.{World, Node, Sender, Deed, no_standing, standing_of, epoch_of}
use Rattle.step_laws.specs.Letters.{Letter}
use Rattle.book_laws.specs.Books.{tunnel_record, Mirrors}
use Rattle.epoch_machine.specs.Letters as machine_letters
use Rattle.epoch_machine.specs.Channels.{Channels}
use Rattle.epoch_machine.specs.Tunnels.{Tunnels, Phase}
use Rattle.epoch_machine.specs.Calls.{Calls}
use Rattle.epoch_machine.specs.Worlds as machine
use Rattle.epoch_machine.specs.Worlds.{all_rules}
use Rattle.epoch_machine.specs.Moves as moves
use Rattle.epoch_machine.specs.Moves.{goes_on}
use Rattle.session_laws.specs.Names.{name, name_of, phase_of}
use Rattle.session_laws.proofs.Names.{same_name, name_some}
use Rattle.channel_laws.specs.Accounts.{Part, Unmade, Opener, Acceptor, Account, no_account, heeded, History}
use Rattle.channel_laws.specs.Facts.{partner_in, EndOk, BookOk, NodeOk}
use Rattle.channel_laws.proofs.Anew.{here_or_not}
use Rattle.channel_laws.proofs.Opening.{undrawn}
use Rattle.recovery_laws.specs.Growing.{TakenStay}
use Rattle.recovery_laws.specs.Joined.{is_opener, is_made, learned_name, answer_name, is_used, phase_by, LearnedSo, ByLetter, ByRecord, TunnelJoined, CallsJoined, AreJoined, live_in, kept_in}
use Rattle.recovery_laws.specs.Queries.{letters_in, questions_in, weigh, QueryJoined, QueriesJoined, CallsAreNamed}
use Rattle.join_laws.specs.Steps as steps
use Rattle.join_laws.specs.Steps.{with_book}
use Rattle.join_laws.proofs.Ahead as ahead
use Rattle.join_laws.proofs.Ahead.{behind, left, was, standings, book_standings}
use Rattle.join_laws.proofs.Asks.{asks_on, one_asked}
use Rattle.join_laws.proofs.Books.{booked}
use Rattle.join_laws.proofs.Bounds.{fit_bounded}
use Rattle.join_laws.proofs.Calls.{call_in, LooksLike, like_same, booked_live, same_stays, sessions_joined}
use Rattle.join_laws.proofs.Finish.{named_as}
use Rattle.join_laws.proofs.Letters.{is_booked}
use Rattle.join_laws.proofs.Made as made
use Rattle.join_laws.proofs.OneTunnel.{NameStays, Grown, one_joined, this_or_not}
use Rattle.join_laws.proofs.PlainOne.{RestStays, Changes, changes_one}

-- what the machine does: its tunnel of this name is made, and gives and takes so many letters
pub record Makes (m z : machine.World) (x : ℕ) (opener : Bool) (node peer learned : ℕ) (phase : Phase)
    (says : List machine_letters.Letter) (took : ℕ) : Type 0 where
  pub drawn : z.tunnels.drawn x ≡ true
  pub opener_is : z.tunnels.opener x ≡ opener
  pub node_is : z.tunnels.node x ≡ node
  pub peer_is : z.tunnels.peer x ≡ peer
  pub learned_is : z.tunnels.learned x ≡ learned
  pub phase_is : z.tunnels.phase x ≡ phase
  pub sent : z.channels.sent x 0 ≡ m.channels.sent x 0 ++ says
  pub taken : z.channels.taken x 0 ≡ m.channels.taken x 0 + took
  pub later_sent : (e : ℕ) → (e ≡ 0 → ⊥) → z.channels.sent x e ≡ m.channels.sent x e
  pub later_taken : (e : ℕ) → (e ≡ 0 → ⊥) → z.channels.taken x e ≡ m.channels.taken x e
  pub other_drawn : (y : ℕ) → (y ≡ x → ⊥) → z.tunnels.drawn y ≡ m.tunnels.drawn y
  pub stays : (y : ℕ) → (y ≡ x → ⊥) → NameStays m z y
  pub booked : z.tunnels.booked x ≡ m.tunnels.booked x
  pub entered : (y : ℕ) → z.tunnels.entered y ≡ m.tunnels.entered y
  pub entered_by : (e : ℕ) → z.tunnels.entered_by x e ≡ m.tunnels.entered_by x e
  pub refused : z.channels.refused x ≡ m.channels.refused x
  pub rest : RestStays m z
  pub calls : z.calls ≡ m.calls

module _ (w : World) (h : History) (n : ℕ) (node : Node) (sender : Option Sender) (moment : ℕ) (ev : Event) (mv : Move) (x : End) (d : Deed)
    (k : Kept) (j : machine.World) (q : steps.IsMade w h n node sender moment ev mv x d k j) (i : ℕ)
    (drawn : takes_id node.end.tunnel_ids ≡ Ok i) where
  both_ok : EndOk w h n node.end × BookOk h n node.checkpoint.book
  both_ok = made.both_ok w h n node sender moment ev mv x d k j q

  next : (i ≡ node.end.tunnel_ids.next) × (i ≤ node.end.tunnel_ids.last)
  next = draw_is node.end.tunnel_ids i drawn

  pub new_some : 0 < i
  new_some = (let first = q.moved.fit.tables.first_tunnel in let is = next.0 in omega (arith, first, is))

  pub new_fits : i < 65536
  new_fits = (let le = next.1 in let last = q.moved.fit.tunnel_ids.last in omega (arith, le, last))

  -- nothing is known of it
  pub new_unmade : h.accounts n i 0 ≡ no_account
  new_unmade = undrawn w h n node.end q.moved.holds both_ok.0.ids i next.0

  -- it was in no epoch
  pub new_epoch : standing_of w n i ≡ no_standing
  new_epoch = (q.moved.holds.standings n i).none (ap (λ (a : Account). a.part) new_unmade)

  none_of : (o : Option Tunnel) → at node.end.tunnels i ≡ o → at node.end.tunnels i ≡ None
  none_of None is = is
  none_of (Some t) is = (let lt = (q.moved.fit.tables.tunnels i t is).drawn in let same = next.0 in absurd (omega (arith, lt, same)))

  pub new_none : at node.end.tunnels i ≡ None
  new_none = none_of (at node.end.tunnels i) refl

  pub new_told : TunnelJoined j (with_book w n k) h n i None (tunnel_at k i)
  new_told =
      subst (λ o. TunnelJoined j (with_book w n k) h n i o (tunnel_at k i)) new_none
      (subst (λ (o : Option Node). TunnelJoined j (with_book w n k) h n i (live_in o i) (kept_in o i)) (was w n node q.moved.there x k k)
      (q.joined.joined.tunnels n i (made.node_fits w h n node sender moment ev mv x d k j q) new_fits))

  -- nor is its name
  pub new_unused : j.tunnels.drawn (name n i) ≡ false
  new_unused =
      q.joined.joined.drawn n i (made.node_fits w h n node sender moment ev mv x d k j q) new_fits
      ∙ (ap (λ (a : Account). is_made a.part || (is_some (h.attempts n i) || is_some (h.answers n i))) new_unmade
      ∙ (ap (λ b. b || is_some (h.answers n i)) (no_attempt (is_some (h.attempts n i)) refl)
      ∙ no_answer (is_some (h.answers n i)) refl))
    where
      no_attempt : (b : Bool) → is_some (h.attempts n i) ≡ b → is_some (h.attempts n i) ≡ false
      no_attempt true is = (let lt = both_ok.0.ids.attempts i is in let same = next.0 in absurd (omega (arith, lt, same)))
      no_attempt false is = is

      no_answer : (b : Bool) → is_some (h.answers n i) ≡ b → is_some (h.answers n i) ≡ false
      no_answer true is = (let lt = both_ok.0.ids.answers i is in let same = next.0 in absurd (omega (arith, lt, same)))
      no_answer false is = is

  pub new_name : 0 < name n i
  new_name = name_some n i new_some

  pub new_entered : j.tunnels.entered (name n i) ≡ 0
  new_entered =
      new_told.entered ∙ ap (λ (s : Standing). s.epoch) (book_standings w n node q.moved.there k n i ∙ new_epoch)

  -- it has learned none
  pub new_learned : j.tunnels.learned (name n i) ≡ 0
  new_learned = by (j.tunnels.learned (name n i)) new_told.learned
    where
      by : (y : ℕ) → LearnedSo h.accounts n i y → y ≡ 0
      by y (ByLetter is) = is ∙ ap learned_name new_unmade
      by y (ByRecord c part none some is accepts back own) =
          let two : Unmade ≡ Opener = sym (ap (λ (a : Account). a.part) new_unmade) ∙ part in absurd cc

  -- ---- it is made

  pub record IsNew (g : History) (b : Kept) (z : machine.World) (r : Tunnel) (new : Account) (says : List machine_letters.Letter) (took : ℕ)
      (peer learned : ℕ) : Type 0 where
    pub mirrors : Mirrors x b
    pub tunnels : x.tunnels ≡ put node.end.tunnels i r
    pub empty : r.calls ≡ []
    pub recovery : r.recovery ≡ None
    pub early : state_number r.control.state < 3
    pub unopen : is_open r.control.state ≡ false
    pub ids : x.session_ids ≡ node.end.session_ids
    -- the history
    pub is : g.accounts n i 0 ≡ new
    pub others : (p f u : ℕ) → ((p ≡ n) × (f ≡ i) × (u ≡ 0) → ⊥) → g.accounts p f u ≡ h.accounts p f u
    pub attempts : (p c : ℕ) → g.attempts p c ≡ h.attempts p c
    pub answers : (p c : ℕ) → g.answers p c ≡ h.answers p c
    pub part : is_made new.part ≡ true
    pub answer : new.answer ≡ None
    pub declined : new.declined ≡ false
    pub sent : letters_in n new.peer (questions_in new.taken) new.given ≡ says
    pub taken : weigh (take (heeded new) (partner_in g.accounts 0 new).given) ≡ took
    pub peer_is : new.peer ≡ peer
    pub learned_so : LearnedSo g.accounts n i learned
    -- the machine
    pub makes : Makes j z (name n i) (is_opener new.part) n peer learned (phase_of r.control.state) says took

  module _ (stay : TakenStay) (g : History) (b : Kept) (z : machine.World) (r : Tunnel) (new : Account)
      (says : List machine_letters.Letter) (took : ℕ) (peer learned : ℕ) (o : IsNew g b z r new says took peer learned) where
    abbrev X : ℕ
    X = name n i

    abbrev u : World
    u = behind w n node x b

    at_r : at x.tunnels i ≡ Some r
    at_r = ap (λ ts. at ts i) o.tunnels ∙ at_new node.end.tunnels i r

    others : (f : ℕ) → (f ≡ i → ⊥) → at x.tunnels f ≡ at node.end.tunnels f
    others f other = ap (λ ts. at ts f) o.tunnels ∙ at_other node.end.tunnels i r f other

    later : (e : ℕ) → (e ≡ 0 → ⊥) → g.accounts n i e ≡ h.accounts n i e
    later e other = o.others n i e (λ p. other p.2)

    grown : (f : ℕ) → Grown (h.accounts n i f) (g.accounts n i f)
    grown f = ⊎_elim
        (λ (first : f ≡ 0). rw first (record {
          given = ((g.accounts n i 0).given, sym (ap (λ (a : Account). a.given ++ (g.accounts n i 0).given) new_unmade));
          acceptor = λ accepts. (let two : Unmade ≡ Acceptor = sym (ap (λ (a : Account). a.part) new_unmade) ∙ accepts in absurd cc);
        }))
        (λ other. subst (Grown (h.accounts n i f)) (sym (later f other)) (record {
          given = ([], sym (append-nil (h.accounts n i f).given));
          acceptor = λ is. (is, refl, refl);
        }))
        (same_or_not f 0)

    answer_as : (p f e : ℕ) → (g.accounts p f e).answer ≡ (h.accounts p f e).answer
    answer_as p f e = ⊎_elim
        (λ (s : (p ≡ n) × (f ≡ i) × (e ≡ 0)).
        rw (s.0, s.1, s.2) (ap (λ (a : Account). a.answer) o.is ∙ (o.answer ∙ sym (ap (λ (a : Account). a.answer) new_unmade))))
        (λ other. ap (λ (a : Account). a.answer) (o.others p f e other))
        (here_or_not p f e n i 0)

    sent_on : (e : ℕ) → z.channels.sent X e
        ≡ letters_in n (g.accounts n i e).peer (questions_in (g.accounts n i e).taken) (g.accounts n i e).given
    sent_on e = ⊎_elim
        (λ (first : e ≡ 0).
        subst (λ y. z.channels.sent X y
        ≡ letters_in n (g.accounts n i y).peer (questions_in (g.accounts n i y).taken) (g.accounts n i y).given) (sym first)
        (o.makes.sent
        ∙ (ap (λ ls. ls ++ says) (new_told.sent 0 ∙ ap (λ (a : Account). letters_in n a.peer (questions_in a.taken) a.given) new_unmade)
        ∙ sym (ap (λ (a : Account). letters_in n a.peer (questions_in a.taken) a.given) o.is ∙ o.sent))))
        (λ other.
        o.makes.later_sent e other
        ∙ (new_told.sent e ∙ ap (λ (a : Account). letters_in n a.peer (questions_in a.taken) a.given) (sym (later e other))))
        (same_or_not e 0)

    given_on : (p f e : ℕ) → (more : List Letter) × ((g.accounts p f e).given ≡ (h.accounts p f e).given ++ more)
    given_on p f e = ⊎_elim
        (λ (s : (p ≡ n) × (f ≡ i) × (e ≡ 0)).
        subst (λ y. (more : List Letter) × ((g.accounts y f e).given ≡ (h.accounts y f e).given ++ more)) (sym s.0)
        (subst (λ y. (more : List Letter) × ((g.accounts n y e).given ≡ (h.accounts n y e).given ++ more)) (sym s.1)
        (grown e).given))
        (λ other. ([], ap (λ (a : Account). a.given) (o.others p f e other) ∙ sym (append-nil (h.accounts p f e).given)))
        (here_or_not p f e n i 0)

    taken_on : (e : ℕ) → z.channels.taken X e ≡ weigh (take (heeded (g.accounts n i e)) (partner_in g.accounts e (g.accounts n i e)).given)
    taken_on e = ⊎_elim
        (λ (first : e ≡ 0).
        subst (λ y. z.channels.taken X y ≡ weigh (take (heeded (g.accounts n i y)) (partner_in g.accounts y (g.accounts n i y)).given))
        (sym first)
        (o.makes.taken
        ∙ (ap (λ c. c + took) (new_told.taken 0 ∙ ap (λ (a : Account). weigh (take (heeded a) (partner_in h.accounts 0 a).given))
        new_unmade)
        ∙ (omega arith ∙ sym (ap (λ (a : Account). weigh (take (heeded a) (partner_in g.accounts 0 a).given)) o.is ∙ o.taken)))))
        (λ other.
        let a = h.accounts n i e in
        let more = given_on a.peer a.remote e in
        o.makes.later_taken e other
        ∙ (new_told.taken e
        ∙ sym (ap (λ (c : Account). weigh (take (heeded c) (partner_in g.accounts e c).given)) (later e other)
        ∙ (ap (λ ls. weigh (take (heeded a) ls)) more.1
        ∙ stay (partner_in h.accounts e a).given more.0 (heeded a) (made.within w h n node sender moment ev mv x d k j q n i e)))))
        (same_or_not e 0)

    here : TunnelJoined z u g n i (Some r) (tunnel_at b i)
    here = record {
      opener = o.makes.opener_is ∙ sym (ap (λ (a : Account). is_opener a.part) o.is);
      node = λ some. o.makes.node_is;
      peer = λ some. o.makes.peer_is ∙ sym (ap (λ (a : Account). a.peer) o.is ∙ o.peer_is);
      learned = subst (LearnedSo g.accounts n i) (sym o.makes.learned_is) o.learned_so;
      phase = o.makes.phase_is ∙ sym (ap (λ y. phase_by n r y) o.recovery);
      booked = o.makes.booked ∙ (new_told.booked
          ∙ (ap (λ y. is_some y) (q.mirrors.tunnels i ∙ ap (tunnel_record i) new_none)
          ∙ sym (ap (λ y. is_some y) (o.mirrors.tunnels i ∙ ap (tunnel_record i) at_r) ∙ (is_booked i r ∙ o.unopen))));
      entered = o.makes.entered X ∙ (new_told.entered
          ∙ sym (ap (λ (y : Standing). y.epoch) (standings w n node q.moved.there x k b n i)));
      epochs = o.makes.rest.epochs X ∙ (new_told.epochs
          ∙ sym (ap (λ (y : Standing). y.made) (standings w n node q.moved.there x k b n i)));
      entered_by = λ e. o.makes.entered_by e ∙ (new_told.entered_by e ∙ ap answer_name (sym (answer_as n i e)));
      sent = sent_on;
      taken = taken_on;
      refused = o.makes.refused ∙ (new_told.refused ∙ (ap (λ (a : Account). a.declined) new_unmade
          ∙ sym (ap (λ (a : Account). a.declined) o.is ∙ o.declined)));
    }

    like : (s f : ℕ) → LooksLike (call_in (at node.end.tunnels f) s) (call_in (at x.tunnels f) s)
    like s f = ⊎_elim
        (λ (e : f ≡ i).
        subst (λ y. LooksLike (call_in (at node.end.tunnels y) s) (call_in (at x.tunnels y) s)) (sym e)
        (like_same (call_in (at node.end.tunnels i) s) (call_in (at x.tunnels i) s)
        (ap (λ y. call_in y s) at_r ∙ (ap (λ y. at y s) o.empty ∙ (at-none s ∙ sym (ap (λ y. call_in y s) new_none))))))
        (λ other. like_same (call_in (at node.end.tunnels f) s) (call_in (at x.tunnels f) s) (ap (λ y. call_in y s) (others f other)))
        (same_or_not f i)

    before : CallsJoined j h n (booked node k)
    before = made.calls_before w h n node sender moment ev mv x d k j q

    -- the calls are those that were there
    calls_then : CallsJoined z h n (left node x b)
    calls_then = sessions_joined node x k b j z h h n (record {
      old = q.mirrors;
      new = o.mirrors;
      bounded = fit_bounded x q.fit;
      peers = λ f. refl;
      nodes = λ y is. ⊎_elim
          (λ (e : y ≡ X). ap (λ p. z.tunnels.node p) e ∙ o.makes.node_is)
          (λ other. (o.makes.stays y other).node ∙ is)
          (same_or_not y X);
      rises = (let e = ap (λ y. y.next) o.ids in omega (arith, e));
      zero = ap (λ (c : Calls). c.drawn (name n 0)) o.makes.calls;
      each = λ s sfits. inl (record { like = λ f. like s f; stays = same_stays j z (name n s) o.makes.calls });
    }) before

    no_call : (t : Tunnel) → at x.tunnels i ≡ Some t → (s : ℕ) (c : Call) → at t.calls s ≡ Some c → ⊥
    no_call t there s c is =
        let same : r ≡ t = same_Some r t (sym at_r ∙ there) in
        none-some c (sym (at-none s) ∙ (sym (ap (λ y. at y s) o.empty) ∙ (ap (λ (y : Tunnel). at y.calls s) same ∙ is)))

    other_peer : (f : ℕ) → (f ≡ i → ⊥) → (g.accounts n f 0).peer ≡ (h.accounts n f 0).peer
    other_peer f other = ap (λ (a : Account). a.peer) (o.others n f 0 (λ s. other s.1))

    calls : CallsJoined z g n (left node x b)
    calls =
        let c = calls_then in
        record {
          live = λ f t there s d is. ⊎_elim
              (λ (e : f ≡ i). absurd (no_call t (subst (λ y. at x.tunnels y ≡ Some t) e there) s d is))
              (λ other.
              let l = c.live f t there s d is in
              record {
                some = l.some;
                state = l.state;
                tunnel = l.tunnel;
                remote = l.remote ∙ ap (λ y. name_of y d.remote) (sym (other_peer
                    f other));
              })
              (same_or_not f i);
          gone = c.gone;
          kept = λ s d has. ⊎_elim
              (λ (e : d.tunnel ≡ i).
              let f = booked_live x b o.mirrors s d has in
              absurd (no_call f.tunnel (subst (λ y. at x.tunnels y ≡ Some f.tunnel) e f.there) s f.call f.live))
              (λ other.
              let l = c.kept s d has in
              record { tunnel = l.tunnel; remote = l.remote ∙ ap (λ y. name_of y d.remote) (sym (other_peer d.tunnel other)) })
              (same_or_not d.tunnel i);
          booked = c.booked;
          home = c.home;
          undrawn = c.undrawn;
          zero = c.zero;
        }

    drawn_on : (p c : ℕ) → p < 256 → c < 65536 → z.tunnels.drawn (name p c) ≡ is_used g p c
    drawn_on p c pfits cfits = ⊎_elim
        (λ (s : (p ≡ n) × (c ≡ i)).
        rw (s.0, s.1) (o.makes.drawn
        ∙ sym (ap (λ (a : Account). is_made a.part || (is_some (g.attempts n i) || is_some (g.answers n i))) o.is
        ∙ ap (λ y. y || (is_some (g.attempts n i) || is_some (g.answers n i))) o.part)))
        (λ apart.
        o.makes.other_drawn (name p c) (λ same. apart (same_name p c n i cfits new_fits same))
        ∙ (q.joined.joined.drawn p c pfits cfits
        ∙ sym (ap (λ (a : Account). is_made a.part || (is_some (g.attempts p c) || is_some (g.answers p c)))
        (o.others p c 0 (λ s. apart (s.0, s.1)))
        ∙ (ap (λ y. is_made (h.accounts p c 0).part || (is_some y || is_some (g.answers p c))) (o.attempts p c)
        ∙ ap (λ y. is_made (h.accounts p c 0).part || (is_some (h.attempts p c) || is_some y)) (o.answers p c)))))
        (this_or_not p c n i)

    changes : Changes w h g n node x k b j z i
    changes = record {
      node_fits = made.node_fits w h n node sender moment ev mv x d k j q;
      id_fits = new_fits;
      there = q.moved.there;
      old = q.mirrors;
      new = o.mirrors;
      nodes = q.nodes;
      within = made.within w h n node sender moment ev mv x d k j q;
      others = others;
      accounts = λ p f e apart. o.others p f e (λ s. apart (s.0, s.1));
      grown = grown;
      history = record { attempts = o.attempts; answers = o.answers; answer = answer_as };
      rest = o.makes.rest;
      drawn = drawn_on;
      stays = o.makes.stays;
      here = subst (λ y. TunnelJoined z u g n i y (tunnel_at b i)) (sym at_r) here;
      calls = calls;
      calls_stay = λ p s off pfits sfits. same_stays j z (name p s) o.makes.calls;
      births = (ap (λ (c : Calls). c.births) o.makes.calls, λ y. ap (λ (c : Calls). c.birth y) o.makes.calls);
    }

    pub new_joined : (js : List moves.Move) → z ≡ goes_on all_rules j js → AreJoined u g z
    new_joined js goes = one_joined stay (with_book w n k) u h g j z n i (booked node k) (left node x b) q.joined.joined
        (changes_one w h g n node x k b j z i changes q.joined.joined) js goes

    -- what is asked for is what was
    not_asking : (v : Tunnel) → at x.tunnels i ≡ Some v → state_number v.control.state ≡ 3 → ⊥
    not_asking v at_v three =
        let same : r ≡ v = same_Some r v (sym at_r ∙ at_v) in
        let lt = o.early in
        let is = ap (λ (y : Tunnel). state_number y.control.state) same ∙ three in
        omega (arith, lt, is)

    queries_then : QueriesJoined u h z
    queries_then = asks_on (with_book w n k) u h h j z (record {
      peers = λ p f. refl;
      asks = λ y s. ap (λ (c : Calls). c.asks y s) o.makes.calls;
      held = λ y f s. ap (λ (c : Calls). c.held y f s) o.makes.calls;
      entered = o.makes.entered;
      asked = one_asked w n node q.moved.there x k b i others (λ v at_v current three. absurd (not_asking v at_v three));
    }) q.joined.queries

    pub new_queries : QueriesJoined u g z
    new_queries y f v live current three = ⊎_elim
        (λ (s : (y ≡ n) × (f ≡ i)).
        let here_is : at u.nodes n ≡ Some live.node = subst (λ p. at u.nodes p ≡ Some live.node) s.0 live.is in
        let node_is : left node x b ≡ live.node = same_Some (left node x b) live.node
        (sym (ahead.is w n node q.moved.there x k b) ∙ here_is) in
        let at_v : at x.tunnels f ≡ Some v = ap (λ (p : Node). at p.end.tunnels f) node_is ∙ live.there in
        absurd (not_asking v (subst (λ p. at x.tunnels p ≡ Some v) s.1 at_v) three))
        (λ apart.
        subst (λ p. QueryJoined z y f p v) (sym (ap (λ (a : Account). a.peer) (o.others y f 0 (λ s. apart (s.0, s.1)))))
        (queries_then y f v live current three))
        (this_or_not y f n i)

    pub new_named : CallsAreNamed z
    new_named = named_as j z (ap (λ (c : Calls). c.drawn) o.makes.calls) q.joined.named
