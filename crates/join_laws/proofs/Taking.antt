-- An established tunnel takes a letter, and may give one: what becomes of the history, which letter it is, and that the machine's tunnel
-- may take it.
use Rattle.std.proofs.Common.{◌≡◌, ◌⊎◌, inl, inr, ⊎_elim, ℕ, suc, ◌+◌, ◌<◌, ◌≤◌, Bool, true, false, List, [], ◌∷◌, ◌++◌, length, refl, sym, ap, ap₂, ◌∙◌, subst, Option, Some, None, arith}
use Rattle.std.proofs.lemmas.Option.{slice_get_within}
use Rattle.std.specs.Prelude.{take, slice_get, ◌≢◌}
use Rattle.id_table.specs.Ids.{at}
use Rattle.session_book.specs.Books.{Kept, tunnel_at}
use Rattle.wire_base.specs.declared.pair.Pair.{Pair}
use Rattle.tunnel_fsm.specs.Rows.{state_number}
use Rattle.end_model.specs.declared.event.Event.{Event}
use Rattle.end_model.specs.declared.moves.Move.{Move}
use Rattle.end_model.specs.Tunnels.{Tunnel, mode_of, is_current}
use Rattle.end_model.specs.End.{End}
use Rattle.world_model.specs.World.{World, Node, Sender, Deed, epoch_of}
use Rattle.step_laws.specs.Letters.{Letter}
use Rattle.book_laws.specs.Books.{Mirrors}
use Rattle.frame_laws.proofs.Facts.{all_at}
use Rattle.connection_laws.specs.Facts.{IsSpelled, IsStopCcn, Tells}
use Rattle.connection_laws.proofs.Hearing.{same_address}
use Rattle.epoch_machine.specs.Letters as machine_letters
use Rattle.epoch_machine.specs.Worlds as machine
use Rattle.session_laws.specs.Names.{name}
use Rattle.session_laws.proofs.Entering.{got_last}
use Rattle.session_laws.proofs.Names.{same_name, name_not_zero}
use Rattle.channel_laws.specs.Accounts.{Taken, Account, heeded, partner_of, History, about, entered_by, after}
use Rattle.channel_laws.specs.Facts.{IsMade, IsOpen, IsShut, IsInState, partner_in, IsTaken, AccountOk, Holds, ChannelOk, IsOfQuery, IsSpelledIn, IsSpelledQuery}
use Rattle.channel_laws.specs.Steps.{with_end, moves_on}
use Rattle.recovery_laws.specs.Asking.{GoesOn, TakesFrom}
use Rattle.recovery_laws.specs.Queries.{said_in, letters_in, questions_in, weight, weigh}
use Rattle.recovery_laws.specs.Joined.{TunnelJoined, CallsJoined, live_in, kept_in}
use Rattle.recovery_laws.specs.Growing.{ChannelsGrow}
use Rattle.join_laws.specs.Steps as steps
use Rattle.join_laws.specs.Steps.{with_book}
use Rattle.join_laws.proofs.Ahead.{left}
use Rattle.join_laws.proofs.Channel.{heeds_one, heeds_all}
use Rattle.join_laws.proofs.Entering as entering
use Rattle.join_laws.proofs.Letters.{Talks}
use Rattle.join_laws.proofs.Made as made
use Rattle.join_laws.proofs.OneTunnel.{CallStays}
use Rattle.join_laws.proofs.Partners.{Partner, no_self, established_partner}
use Rattle.join_laws.proofs.Roots.{Roots, Speaks, IsPlain}
use Rattle.join_laws.proofs.Said.{says_one}
use Rattle.join_laws.proofs.Within.{partner_by}

-- what such a move does with its account: it takes one letter more, and gives these
pub record Takes (w : World) (h : History) (n : ℕ) (node : Node) (m : Move) (x : End) (d : Deed) (t : Tunnel) (number : ℕ) (ls : List
    Letter) : Type 0 where
  pub epoch : d.epoch ≡ epoch_of w n (about m)
  pub plain : IsPlain d m
  pub at_t : at node.end.tunnels (about m) ≡ Some t
  pub current : is_current (mode_of t.recovery) ≡ true
  pub three : state_number t.control.state ≡ 3
  pub enters : (a : Account) → entered_by d m a
      ≡ record a { given = a.given ++ ls; taken = a.taken ++ (record { sender = d.sender; number = number; move = d.move }) ∷ [] }

-- what becomes of its tunnel; `says` is what the machine's gives, and `weighs` how many of the machine's letters it takes
pub record TakesIn (h g : History) (n : ℕ) (node : Node) (m : Move) (x : End) (b : Kept) (j z : machine.World) (i e : ℕ) (r : Tunnel)
    (ls : List Letter)
    (says : List machine_letters.Letter) (weighs : ℕ) (t : Tunnel) : Type 0 where
  pub new : Mirrors x b
  pub at_r : at x.tunnels i ≡ Some r
  pub state : r.control.state ≡ t.control.state
  pub recovery : r.recovery ≡ t.recovery
  pub others : (p : ℕ) → (p ≡ i → ⊥) → at x.tunnels p ≡ at node.end.tunnels p
  pub sent : (tk : Taken) → tk.move ≡ m
      → letters_in n (h.accounts n i e).peer (questions_in ((h.accounts n i e).taken ++ tk ∷ [])) ((h.accounts n i e).given ++ ls)
      ≡ letters_in n (h.accounts n i e).peer (questions_in (h.accounts n i e).taken) (h.accounts n i e).given ++ says
  pub goes : GoesOn j z (name n i) e says weighs
  pub calls : CallsJoined z g n (left node x b)
  pub calls_stay : (q s : ℕ) → (q ≡ n → ⊥) → q < 256 → s < 65536 → CallStays j z (name q s)
  pub births : (z.calls.births ≡ j.calls.births) × ((y : ℕ) → z.calls.birth y ≡ j.calls.birth y)

-- a letter's header names a session of 16 bits
pub spelled_session : (e : ℕ) (l : Letter) → IsSpelledIn e l → l.session < 65536
spelled_session e l (inl s) = s.session
spelled_session e l (inr s) = (let none = s.1.session in omega (arith, none))

-- and one that doesn't ask for sessions, or answer, is written as where nothing is recovered
pub spelled_so : (e : ℕ) (l : Letter) → (IsOfQuery l.message → ⊥) → IsSpelledIn e l → IsSpelled l
spelled_so e l none (inl s) = s
spelled_so e l none (inr s) = absurd (none s.1.query)

module _ (w : World) (h : History) (n : ℕ) (node : Node) (sender : Option Sender) (moment : ℕ) (ev : Event) (m : Move) (x : End) (d : Deed)
    (k : Kept) (j : machine.World) (q : steps.IsMade w h n node sender moment ev m x d k j) (t : Tunnel) (number : ℕ) (ls : List Letter)
    (s : Takes w h n node m x d t number ls) where
  abbrev i : ℕ
  i = about m

  abbrev e : ℕ
  e = epoch_of w n (about m)

  abbrev a : Account
  a = h.accounts n (about m) (epoch_of w n (about m))

  abbrev tk : Taken
  tk = record { sender = d.sender; number = number; move = d.move }

  abbrev new : Account
  new = record a { given = a.given ++ ls; taken = a.taken ++ tk ∷ [] }

  abbrev g : History
  g = after h d

  channel : ChannelOk h.accounts n i e a t
  channel = made.channel_ok w h n node sender moment ev m x d k j q i t s.at_t s.current

  pub took_open : IsOpen (h.accounts n (about m) (epoch_of w n (about m)))
  took_open = made.open_account h.accounts i e a t a.part channel.state s.three

  made_now : IsMade a
  made_now = made.made_now w h n node sender moment ev m x d k j q i t s.at_t

  pub took_is : (after h d).accounts n (about m) (epoch_of w n (about m))
      ≡ record (h.accounts n (about m) (epoch_of w n (about m))) {
        given = (h.accounts n (about m) (epoch_of w n (about m))).given ++ ls;
        taken = (h.accounts n (about m) (epoch_of w n (about m))).taken ++ (record {
          sender = d.sender;
          number = number;
          move = d.move;
        }) ∷ [];
      }
  took_is = entering.account_now w h n node sender moment ev m x d k j q s.epoch s.plain new (s.enters a)

  abbrev roots : Roots a new
  roots = record { part = refl; peer = refl; remote = refl; answer = refl; closed = refl; declined = refl }

  pub took : Speaks h (after h d) n (about m) (epoch_of w n (about m)) ls
  took = entering.spoke w h n node sender moment ev m x d k j q s.epoch s.plain new (s.enters a) ls roots refl

  pub took_peers : (p f : ℕ) → ((after h d).accounts p f 0).peer ≡ (h.accounts p f 0).peer
  took_peers = entering.same_peers w h n node sender moment ev m x d k j q s.epoch s.plain new (s.enters a) ls roots refl

  heeds : heeded new ≡ suc (length a.taken)
  heeds = heeds_one a new tk took_open refl refl

  -- ---- the letter, by what holds behind the move

  is_taken : IsTaken g.accounts e new (length a.taken) tk
  is_taken =
      let ok : AccountOk (moves_on w n node m x) g n i e new = subst (AccountOk (moves_on w n node m x) g n i e) took_is
      (q.later.accounts n i e) in
      ok.taken (length a.taken) tk (got_last a.taken tk) (omega (arith, heeds))

  abbrev from : Sender
  from = is_taken.partner

  abbrev letter : Letter
  letter = is_taken.letter

  partner_now : partner_of a ≡ Some from
  partner_now = is_taken.learned

  apart : from.node ≡ n → from.tunnel ≡ i → ⊥
  apart = no_self (moves_on w n node m x) g q.later n i e from (λ none. made_now (sym (ap (λ (c : Account). c.part) took_is) ∙ none))
      (ap partner_of took_is ∙ partner_now)

  there : slice_get (h.accounts from.node from.tunnel e).given (length a.taken) ≡ Some letter
  there = sym (ap (λ (c : Account). slice_get c.given (length a.taken)) (took.others from.node from.tunnel e (λ p. apart p.0 p.1)))
      ∙ is_taken.there

  -- the letter that it takes
  pub record TookLetter : Type 0 where
    pub from : Sender
    pub letter : Letter
    pub sender_is : sender ≡ Some from
    pub partner : partner_of (h.accounts n (about m) (epoch_of w n (about m))) ≡ Some from
    pub apart : from.node ≡ n → from.tunnel ≡ about m → ⊥
    pub there : slice_get (h.accounts from.node from.tunnel (epoch_of w n (about m))).given (length (h.accounts n (about m) (epoch_of w
        n (about m))).taken)
        ≡ Some letter
    pub tells : Tells letter m
    pub spelled : IsSpelledIn (epoch_of w n (about m)) letter

  pub took_letter : TookLetter
  took_letter = record {
    from = from;
    letter = letter;
    sender_is = sym q.moved.deed.sender_is ∙ is_taken.sender;
    partner = partner_now;
    apart = apart;
    there = there;
    tells = subst (Tells letter) q.moved.deed.move_is is_taken.tells;
    spelled = all_at (IsSpelledIn e) (h.accounts from.node from.tunnel e).given (length a.taken) letter there
        (q.moved.holds.accounts from.node from.tunnel e).spelled;
  }

  -- ---- in the machine

  module _ (l : TookLetter) (goes_on : IsStopCcn l.letter.message → ⊥) where
    abbrev S : ℕ
    S = name l.from.node l.from.tunnel

    abbrev X : ℕ
    X = name n (about m)

    abbrev P : List Letter
    P = (h.accounts l.from.node l.from.tunnel e).given

    pub took_from : Partner h n (about m) (epoch_of w n (about m)) l.from
    took_from = established_partner w h q.moved.holds n i e l.from (length a.taken) l.letter l.partner made_now
        (made.some w h n node sender moment ev m x d k j q i t s.at_t) l.there goes_on t channel.state s.three refl

    told_there : TunnelJoined j (with_book w n k) h l.from.node l.from.tunnel (live_in (at (with_book w n k).nodes l.from.node)
        l.from.tunnel)
        (kept_in (at (with_book w n k).nodes l.from.node) l.from.tunnel)
    told_there = q.joined.joined.tunnels l.from.node l.from.tunnel took_from.node took_from.fits

    told_here : TunnelJoined j (with_book w n k) h n i (Some t) (tunnel_at k i)
    told_here = made.told w h n node sender moment ev m x d k j q i t s.at_t

    partner_is : partner_in h.accounts e a ≡ h.accounts l.from.node l.from.tunnel e
    partner_is = let p = partner_by a l.from l.partner in ap₂ (λ y z. h.accounts y z e) p.0 p.1

    -- the tunnel goes to the node of the one that gave it
    pub took_peer : (h.accounts n (about m) 0).peer ≡ l.from.node
    took_peer =
        same_address (h.accounts n i 0).peer a.peer (sym (made.live_ok w h n node sender moment ev m x d k j q i t s.at_t).peer
        ∙ channel.peer)
        ∙ (partner_by a l.from l.partner).0

    -- the place of the letter in the machine's list
    abbrev pub place : ℕ
    place = weigh (take (length (h.accounts n (about m) (epoch_of w n (about m))).taken) (h.accounts l.from.node l.from.tunnel
        (epoch_of w n (about m))).given)

    pub takes_from : TakesFrom j (name n (about m)) (name l.from.node l.from.tunnel) (epoch_of w n (about m)) place
    takes_from = record {
      open_is = made.open_is w h n node sender moment ev m x d k j q i t s.at_t s.current s.three;
      entered = made.entered_is w h n node sender moment ev m x d k j q i t s.at_t;
      learned = took_from.learned (j.tunnels.learned S) told_there.learned;
      some = name_not_zero l.from.node l.from.tunnel took_from.some;
      apart = λ same.
          (let two = same_name l.from.node l.from.tunnel n i took_from.fits (made.id_fits w h n node sender moment ev m x d k j q i t
          s.at_t) same in
          l.apart two.0 two.1);
      next = told_here.taken e
          ∙ (ap (λ c. weigh (take c (partner_in h.accounts e a).given)) (heeds_all a took_open)
          ∙ ap (λ (c : Account). weigh (take (length a.taken) c.given)) partner_is);
    }

    pub takes_stands : (y : machine_letters.Letter)
        → ((asked : List Pair) → said_in l.from.node n asked l.letter.session l.letter.message ≡ y ∷ [])
        → slice_get (j.channels.sent (name l.from.node l.from.tunnel) (epoch_of w n (about m))) place ≡ Some y
    takes_stands y one =
        ap (λ q. slice_get q place) (told_there.sent e)
        ∙ says_one l.from.node (h.accounts l.from.node l.from.tunnel e).peer (questions_in (h.accounts l.from.node l.from.tunnel
        e).taken) P (length a.taken)
        l.letter y l.there (λ asked. ap (λ p. said_in l.from.node p asked l.letter.session l.letter.message) took_from.goes ∙ one asked)

    most : suc (length a.taken) ≤ length (partner_in h.accounts e a).given
    most =
        let lt = slice_get_within P (length a.taken) l.letter l.there in
        let same = ap (λ (c : Account). length c.given) partner_is in
        omega (arith, lt, same)

    pub takes_most : heeded ((after h d).accounts n (about m) (epoch_of w n (about m)))
        ≤ length (partner_in h.accounts (epoch_of w n (about m)) (h.accounts n (about m) (epoch_of w n (about m)))).given
    takes_most = subst (λ (c : Account). heeded c ≤ length (partner_in h.accounts e a).given) (sym took_is) (omega (arith, heeds, most))

    pub takes_more : ChannelsGrow
        → weigh (take (heeded ((after h d).accounts n (about m) (epoch_of w n (about m))))
        (partner_in h.accounts (epoch_of w n (about m)) (h.accounts n (about m) (epoch_of w n (about m)))).given)
        ≡ weigh (take (heeded (h.accounts n (about m) (epoch_of w n (about m))))
        (partner_in h.accounts (epoch_of w n (about m)) (h.accounts n (about m) (epoch_of w n (about m)))).given) + weight l.letter.message
    takes_more grow =
        let Q = (partner_in h.accounts e a).given in
        ap (λ (c : Account). weigh (take (heeded c) Q)) took_is
        ∙ (ap (λ c. weigh (take c Q)) heeds
        ∙ (grow.taken Q (length a.taken) l.letter (ap (λ (c : Account). slice_get c.given (length a.taken)) partner_is ∙ l.there)
        ∙ ap (λ c. weigh (take c Q) + weight l.letter.message) (sym (heeds_all a took_open))))

    -- ---- the tunnel talks

    pub takes_talks : ChannelsGrow → (b : Kept) (z : machine.World) (r : Tunnel) (says : List machine_letters.Letter) (weighs : ℕ)
        → TakesIn h (after h d) n node m x b j z (about m) (epoch_of w n (about m)) r ls says weighs t → weight l.letter.message ≡ weighs
        → Talks w h (after h d) n node x k b j z (about m) (epoch_of w n (about m)) t r ls says weighs
    takes_talks grow b z r says weighs o one = record {
      node_fits = made.node_fits w h n node sender moment ev m x d k j q;
      id_fits = made.id_fits w h n node sender moment ev m x d k j q i t s.at_t;
      there = q.moved.there;
      old = q.mirrors;
      new = o.new;
      nodes = q.nodes;
      within = made.within w h n node sender moment ev m x d k j q;
      at_t = s.at_t;
      at_r = o.at_r;
      state = o.state;
      recovery = o.recovery;
      others = o.others;
      speaks = took;
      goes = o.goes;
      sent = ap (λ (c : Account). letters_in n a.peer (questions_in c.taken) c.given) took_is ∙ o.sent tk q.moved.deed.move_is;
      taken = takes_more grow ∙ ap (λ c. weigh (take (heeded a) (partner_in h.accounts e a).given) + c) one;
      most = takes_most;
      calls = o.calls;
      calls_stay = o.calls_stay;
      births = o.births;
    }
