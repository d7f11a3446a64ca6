-- What comes in a live tunnel, the next letter or not, whether it is taken or not: it is a letter that its partner gave, in whichever epoch
-- the tunnel is, and is one of the machine's there. A message about a call that has a fault is a request whose number can't be had.
use Rattle.std.proofs.Common.{◌≡◌, ◌⊎◌, ⊎_elim, ℕ, true, List, [], ◌∷◌, refl, sym, ap, ◌∙◌, subst, Option, Some, None, Ok}
use Rattle.std.proofs.lemmas.Option.{none-some}
use Rattle.std.specs.Prelude.{slice_get, take}
use Rattle.id_table.specs.Ids.{at}
use Rattle.id_table.specs.Order.{same_or_not}
use Rattle.wire_base.specs.declared.pair.Pair.{Pair}
use Rattle.session_book.specs.Books.{Kept}
use Rattle.l2tp_header.specs.Reading.{body_of}
use Rattle.control_message.specs.declared.message.Message.{Message}
use Rattle.control_message.specs.Reading.{message_by, kind_by}
use Rattle.end_model.specs.declared.event.Event.{Event}
use Rattle.end_model.specs.declared.moves.Move.{Move}
use Rattle.end_model.specs.Reading.{message_in, CallFault, call_fault_in, fault_of_pairs}
use Rattle.end_model.specs.Tunnels.{Tunnel, mode_of, is_current}
use Rattle.end_model.specs.End.{End}
use Rattle.world_model.specs.World.{World, Node, Sender, Deed, epoch_of}
use Rattle.step_laws.specs.Letters.{Letter}
use Rattle.step_laws.specs.Arrivals.{Came, ComesTo, InTunnel, IsFaulty}
use Rattle.frame_laws.specs.Codecs.{Codecs}
use Rattle.frame_laws.specs.Plain.{number_fault, message_there, no_fault_there}
use Rattle.connection_laws.specs.Facts.{IsNoOpening, IsNoStop, Within}
use Rattle.connection_laws.specs.Steps as calm
use Rattle.connection_laws.proofs.Alike.{IsNoRequest, read_faulty, read_same, same_alike}
use Rattle.connection_laws.proofs.AnyHeard.{letters_are_heard, faults_are_of_requests}
use Rattle.connection_laws.proofs.Hearing.{no_message}
use Rattle.epoch_machine.specs.Letters as machine_letters
use Rattle.epoch_machine.specs.Worlds as machine
use Rattle.session_laws.specs.Names.{name}
use Rattle.channel_laws.specs.Accounts.{Part, Unmade, Opener, Acceptor, Renewed, Account, no_account, History, about}
use Rattle.channel_laws.specs.Facts.{IsMade, IsPart, partner_in}
use Rattle.channel_laws.specs.Recoveries.{WrittenIsRead, WrittenHasRoom}
use Rattle.channel_laws.proofs.Alone.{alone_there}
use Rattle.channel_laws.proofs.Calm.{calm_of, bare}
use Rattle.channel_laws.proofs.FirstMoves as first_moves
use Rattle.channel_laws.proofs.FirstMoves.{alone_in}
use Rattle.channel_laws.proofs.HeardLater.{heard_later}
use Rattle.channel_laws.proofs.Linked.{opener_of, acceptor_of, renewed_of}
use Rattle.recovery_laws.specs.Joined.{TunnelJoined, live_in, kept_in}
use Rattle.recovery_laws.specs.Queries.{said_in, questions_in, weigh}
use Rattle.join_laws.specs.Steps as steps
use Rattle.join_laws.specs.Steps.{with_book}
use Rattle.join_laws.proofs.Made as made
use Rattle.join_laws.proofs.Said.{says_one}

-- where there are no pairs, there is no fault
no_fault : Codecs → call_fault_in [] ≡ None
unfolding call_fault_in fault_of_pairs message_by kind_by
no_fault codecs = rw (codecs.pairs [] tt) refl

-- one of two, where the types are told by what it is
pub either : {A B C : Type 0} → A ⊎ B → (A → C) → (B → C) → C
either one first second = ⊎_elim first second one

-- one body says one thing
pub same_said : (body : List ℕ) (l m : Message) → message_in body ≡ Ok l → message_in body ≡ Ok m → l ≡ m
same_said body l m says said = let both : Ok l ≡ Ok m = sym says ∙ said in cc

-- a letter that was given to this tunnel in its epoch, with this session in its header
pub record WasGiven (h : History) (n e session : ℕ) (m : Message) : Type 0 where
  pub from : Sender
  pub goes : (h.accounts from.node from.tunnel e).peer ≡ n
  pub place : ℕ
  pub letter : Letter
  pub there : slice_get (h.accounts from.node from.tunnel e).given place ≡ Some letter
  pub session_is : letter.session ≡ session
  pub message_is : letter.message ≡ m

module _ (keep : calm.MovesKeep) (codecs : Codecs) (again : WrittenIsRead) (room : WrittenHasRoom) (w : World) (h : History) (n : ℕ)
    (node : Node) (sender : Option Sender) (moment : ℕ) (ev : Event) (m : Move) (x : End) (d : Deed) (k : Kept) (j : machine.World)
    (q : steps.IsMade w h n node sender moment ev m x d k j) (t : Tunnel) (at_t : at node.end.tunnels (about m) ≡ Some t)
    (current : is_current (mode_of t.recovery) ≡ true) where
  abbrev i : ℕ
  i = about m

  abbrev e : ℕ
  e = epoch_of w n (about m)

  abbrev a : Account
  a = h.accounts n (about m) (epoch_of w n (about m))

  abbrev p : Account
  p = partner_in h.accounts e a

  made_now : IsMade a
  made_now = made.made_now w h n node sender moment ev m x d k j q i t at_t

  pub part_later : (epoch_of w n (about m) ≡ 0 → ⊥) → (h.accounts n (about m) (epoch_of w n (about m))).part ≡ Renewed
  part_later later = by a.part refl
    where
      by : (p : Part) → (h.accounts n (about m) (epoch_of w n (about m))).part ≡ p
          → (h.accounts n (about m) (epoch_of w n (about m))).part ≡ Renewed
      by Unmade is = absurd (made_now is)
      by Opener is = absurd (later (opener_of w h n i e a (q.moved.holds.accounts n i e) is).0)
      by Acceptor is = absurd (later (acceptor_of w h n i e a (q.moved.holds.accounts n i e) is).0)
      by Renewed is = is

  -- in epoch 0, in the words of connection_laws
  within_first : (came : Came) → ComesTo ev t.control came → epoch_of w n (about m) ≡ 0
      → Within (calm_of h) n (alone_in node.end (about m) t) sender ev
  within_first came to first = record {
    accounts = first_moves.accounts_to keep codecs again room w h n node sender moment ev m x d q.moved t at_t current first;
    end = first_moves.end_to keep codecs again room w h n node sender moment ev m x d q.moved t at_t current first;
    comes = first_moves.comes_zero keep codecs again room w h n node sender moment ev m x d q.moved t at_t current first came to;
  }

  module _ (session : ℕ) (says : Message) (hears : InTunnel ev t.control session says) (request : IsNoRequest says) where
    given_first : IsNoOpening says → IsNoStop says → epoch_of w n (about m) ≡ 0 → WasGiven h n (epoch_of w n (about m)) session says
    given_first opening stop first =
        let l = letters_are_heard codecs (calm_of h) n (alone_in node.end i t) sender ev (within_first hears.letter hears.comes first)
        i (bare t) (alone_there node.end i t) session says opening stop hears in
        subst (λ y. WasGiven h n y session says) (sym first) (record {
          from = l.from;
          goes = l.goes;
          place = l.number;
          letter = l.letter;
          there = l.there;
          session_is = l.session_is;
          message_is = same_alike l.letter.message says l.message_is request;
        })

    given_later : (epoch_of w n (about m) ≡ 0 → ⊥) → WasGiven h n (epoch_of w n (about m)) session says
    given_later later =
        let came = hears.comes.came in
        let part = part_later later in
        let f = heard_later codecs again room w h q.moved.holds n node q.moved.there sender ev q.moved.comes i e t at_t current refl part
        hears.letter hears.comes in
        let said : message_in (body_of came.bytes hears.letter.header) ≡ Ok says = ap message_in (sym came.body_is) ∙ hears.says.said in
        either f.says
        (λ l. record {
          from = record { node = a.peer; tunnel = a.remote };
          goes = partner_goes part l.place l.letter l.there;
          place = l.place;
          letter = l.letter;
          there = l.there;
          session_is = sym l.session ∙ hears.says.session_is;
          message_is = either l.reads
              (λ p. read_same l.letter.message (body_of came.bytes hears.letter.header) p.reads says said request)
              (λ p. same_said (body_of came.bytes hears.letter.header) l.letter.message says
              (message_there (body_of came.bytes hears.letter.header) p.avps l.letter.message p.pairs p.said) said);
        })
        (λ none. absurd (no_message codecs says (ap message_in (sym none.body) ∙ said)))
      where
        partner_goes : (h.accounts n (about m) (epoch_of w n (about m))).part ≡ Renewed → (place : ℕ) (l : Letter)
            → slice_get (partner_in h.accounts (epoch_of w n (about m)) (h.accounts n (about m) (epoch_of w n (about m)))).given place
            ≡ Some l
            → (partner_in h.accounts (epoch_of w n (about m)) (h.accounts n (about m) (epoch_of w n (about m)))).peer ≡ n
        partner_goes part place l there =
            let r = renewed_of w h n i e a (q.moved.holds.accounts n i e) part in
            ⊎_elim
            (λ (is : p.part ≡ Renewed).
            (renewed_of w h a.peer a.remote e p (q.moved.holds.accounts a.peer a.remote e) is).peer ∙ r.linked.back_peer)
            (λ (none : p ≡ no_account).
            absurd (none-some l (sym (ap (λ (y : Account). slice_get y.given place) none) ∙ there)))
            r.other

    pub was_given : IsNoOpening says → IsNoStop says → WasGiven h n (epoch_of w n (about m)) session says
    was_given opening stop = ⊎_elim (λ first. given_first opening stop first) (λ later. given_later later) (same_or_not e 0)

  -- ---- in the machine

  module _ (session : ℕ) (says : Message) (g : WasGiven h n (epoch_of w n (about m)) session says) (y : machine_letters.Letter)
      (one : (asked : List Pair) → said_in g.from.node n asked session says ≡ y ∷ []) where
    abbrev c : Account
    c = h.accounts g.from.node g.from.tunnel e

    gave_made : IsMade c
    gave_made none =
        let same : c ≡ no_account = subst (IsPart w h g.from.node g.from.tunnel e c) none
        (q.moved.holds.accounts g.from.node g.from.tunnel e).part in
        none-some g.letter (sym (ap (λ (y : Account). slice_get y.given g.place) same) ∙ g.there)

    told_there : TunnelJoined j (with_book w n k) h g.from.node g.from.tunnel (live_in (at (with_book w n k).nodes g.from.node)
        g.from.tunnel)
        (kept_in (at (with_book w n k).nodes g.from.node) g.from.tunnel)
    told_there = q.joined.joined.tunnels g.from.node g.from.tunnel
        ((q.moved.holds.accounts g.from.node g.from.tunnel e).node gave_made)
        ((q.moved.holds.accounts g.from.node g.from.tunnel e).id gave_made)

    pub stands_there : slice_get (j.channels.sent (name g.from.node g.from.tunnel) (epoch_of w n (about m)))
        (weigh (take g.place (h.accounts g.from.node g.from.tunnel (epoch_of w n (about m))).given))
        ≡ Some y
    stands_there =
        ap (λ ls. slice_get ls (weigh (take g.place c.given))) (told_there.sent e)
        ∙ says_one g.from.node c.peer (questions_in c.taken) c.given g.place g.letter y g.there
        (λ asked. ap (λ p. said_in g.from.node p asked g.letter.session g.letter.message) g.goes
        ∙ (ap (λ s. said_in g.from.node n asked s g.letter.message) g.session_is
        ∙ (ap (λ s. said_in g.from.node n asked session s) g.message_is ∙ one asked)))

  -- ---- faults

  module _ (session : ℕ) (f : CallFault) (hears : IsFaulty ev t.control session f) where
    fault_first : epoch_of w n (about m) ≡ 0 → (own : ℕ) × (f ≡ number_fault own)
    fault_first first = faults_are_of_requests codecs (calm_of h) n (alone_in node.end i t) sender ev
        (within_first hears.letter hears.comes first) t.control session f hears

    fault_later : (epoch_of w n (about m) ≡ 0 → ⊥) → (own : ℕ) × (f ≡ number_fault own)
    fault_later later =
        let came = hears.comes.came in
        let body = body_of came.bytes hears.letter.header in
        let o = heard_later codecs again room w h q.moved.holds n node q.moved.there sender ev q.moved.comes i e t at_t current refl
        (part_later later) hears.letter hears.comes in
        let fault : call_fault_in body ≡ Some f = ap call_fault_in (sym came.body_is) ∙ hears.says.fault in
        either o.says
        (λ l. either l.reads
        (λ p. let r = read_faulty l.letter.message body p.reads f fault in (r.0, r.4))
        (λ p. absurd (none-some f (sym (no_fault_there body p.avps l.letter.message p.pairs p.said) ∙ fault))))
        (λ none. absurd (none-some f (sym (no_fault codecs) ∙ (ap call_fault_in (sym none.body) ∙ fault))))

    pub fault_is : (own : ℕ) × (f ≡ number_fault own)
    fault_is = ⊎_elim (λ first. fault_first first) (λ later. fault_later later) (same_or_not e 0)
