-- The moves of a tunnel that is in a later epoch.
use Rattle.std.proofs.Common.{◌≡◌, ◌⊎◌, inr, ⊎_elim, ℕ, zero, suc, ◌+◌, ◌<◌, ◌≤◌, true, List, [], ◌∷◌, ◌++◌, length, refl, sym, ap, ◌∙◌, subst, Option, Some, arith, ne_eqb}
use Rattle.std.proofs.lemmas.Bool.{cases_lt}
use Rattle.std.proofs.lemmas.Option.{slice_get_within}
use Rattle.std.specs.Prelude.{slice_get}
use Rattle.std.specs.List.{AllByRecursion}
use Rattle.id_table.specs.Ids.{at}
use Rattle.recv_window.specs.Window.{ClassIsTrue}
use Rattle.tunnel_fsm.specs.Rows.{state_number}
use Rattle.end_model.specs.declared.event.Event.{Event}
use Rattle.end_model.specs.declared.moves.Place.{Place}
use Rattle.end_model.specs.declared.moves.Move.{Move}
use Rattle.end_model.specs.Channels.{taken_place}
use Rattle.end_model.specs.Tunnels.{Tunnel, mode_of, is_current}
use Rattle.end_model.specs.End.{End}
use Rattle.world_model.specs.World.{World, Node, Sender, Deed, epoch_of}
use Rattle.world_model.specs.declared.standing.Standing.{Standing}
use Rattle.step_laws.specs.Arrivals.{Came, IsNext}
use Rattle.step_laws.specs.Letters.{Letter}
use Rattle.frame_laws.specs.Codecs.{Codecs}
use Rattle.connection_laws.specs.Facts.{Tells, IsIgnored, IsNoOpening, TellsOwn}
use Rattle.channel_laws.specs.Accounts.{Part, Unmade, Opener, Acceptor, Renewed, Taken, Account, heeded, History, about, entered_by, after}
use Rattle.channel_laws.specs.Facts.{IsMade, partner_in, IsOpen, IsShut, IsTaken, AreTaken, AreIgnored, IsRenewed, IsInState, AreAcked, ChannelOk, LiveOk, EndOk, BookOk, NodeOk, Holds, QueryOk, IsSpelledIn}
use Rattle.channel_laws.specs.Recoveries.{WrittenIsRead, WrittenHasRoom}
use Rattle.channel_laws.specs.Steps.{moves_on, IsMoved}
use Rattle.channel_laws.proofs.Linked.{opener_of, acceptor_of, renewed_of}
use Rattle.channel_laws.proofs.Ends.{Puts}
use Rattle.channel_laws.proofs.Extending.{Extends, got_given, IsOnly, all_extend}
use Rattle.channel_laws.proofs.Later.{IsAlike}
use Rattle.channel_laws.proofs.Giving.{IsPlainDeed, becomes_so, only_so}
use Rattle.channel_laws.proofs.Going.{IsPaired, GoesOn, grows_by, goes_hold}
use Rattle.channel_laws.proofs.GoingLater.{changes_by}
use Rattle.channel_laws.proofs.Open.{open_state, taken_as, taken_more}
use Rattle.channel_laws.proofs.HeardLater.{NextLater, next_later}

-- ---- lists

-- what is found in the front of a longer list
got_before : {X : Type 0} (xs ys : List X) (k : ℕ) (x : X) → k < length xs → slice_get (xs ++ ys) k ≡ Some x → slice_get xs k ≡ Some x
got_before [] ys k x lt is = absurd (omega (arith, lt))
got_before (z ∷ xs) ys zero x lt is = is
got_before (z ∷ xs) ys (suc k) x lt is = got_before xs ys k x (omega (arith, lt)) is

-- or behind it
got_behind : {X : Type 0} (xs : List X) (y : X) (k : ℕ) (x : X) → length xs ≤ k → slice_get (xs ++ y ∷ []) k ≡ Some x → y ≡ x
got_behind [] y zero x le is = cc
got_behind [] y (suc k) x le is = absurd cc
got_behind (z ∷ xs) y zero x le is = absurd (omega (arith, le))
got_behind (z ∷ xs) y (suc k) x le is = got_behind xs y k x (omega (arith, le)) is

-- ---- what a closed channel took, and what it ignores

module _ (h k : History) (n i e : ℕ) (only : IsOnly h k n i e) (a : Account) (more : List Letter) (tks : List Taken) (count : ℕ) (within_taken : count ≤ length a.taken) where
  abbrev b : Account
  b = changes_by more tks (Some count) a

  pub taken_shut : AreTaken h.accounts e a → count ≤ heeded a → AreTaken k.accounts e (changes_by more tks (Some count) a)
  taken_shut was most place y found lt =
      let before = got_before a.taken tks place y (omega (arith, lt, within_taken)) found in
      let q = was place y before (omega (arith, lt, most)) in
      record {
        numbered = q.numbered;
        partner = q.partner;
        learned = q.learned;
        sender = q.sender;
        letter = q.letter;
        there = got_given (h.accounts q.partner.node q.partner.tunnel e) (k.accounts q.partner.node q.partner.tunnel e) (all_extend h k n i e only q.partner.node q.partner.tunnel e) place q.letter q.there;
        tells = q.tells;
      }

pub ignored_shut : (a : Account) (more : List Letter) (tk : Taken) (count : ℕ) → ((place : ℕ) (y : Taken) → slice_get a.taken place ≡ Some y → count ≤ place → IsIgnored y.move) → IsIgnored tk.move
    → AreIgnored (changes_by more (tk ∷ []) (Some count) a)
ignored_shut a more tk count was ignores place y found le = ⊎_elim
    (λ (lt : place < length a.taken). was place y (got_before a.taken (tk ∷ []) place y lt found) le)
    (λ (far : length a.taken ≤ place). subst (λ (z : Taken). IsIgnored z.move) (got_behind a.taken tk place y far found) ignores)
    (cases_lt place (length a.taken))

-- ---- a tunnel in a later epoch

module _ (codecs : Codecs) (again : WrittenIsRead) (room : WrittenHasRoom) (classes : ClassIsTrue) (w : World) (h : History) (n : ℕ) (node : Node) (sender : Option Sender)
    (moment : ℕ) (ev : Event) (m : Move) (x : End) (d : Deed) (k : IsMoved w h n node sender moment ev m x d) (t : Tunnel) (there : at node.end.tunnels (about m) ≡ Some t)
    (current : is_current (mode_of t.recovery) ≡ true) (later : epoch_of w n (about m) ≡ 0 → ⊥) (plain : IsPlainDeed d) (v : World) (v_is : moves_on w n node m x ≡ v)
    (alike : IsAlike w v n node x) where
  abbrev i : ℕ
  i = about m

  abbrev e : ℕ
  e = epoch_of w n (about m)

  abbrev a : Account
  a = h.accounts n (about m) (epoch_of w n (about m))

  both_ok : EndOk w h n node.end × BookOk h n node.checkpoint.book
  both_ok = subst (NodeOk w h n) k.there (k.holds.nodes n)

  pub live_later : LiveOk w h n (about m) t
  live_later = both_ok.0.live i t there

  pub channel_so : ChannelOk h.accounts n (about m) (epoch_of w n (about m)) (h.accounts n (about m) (epoch_of w n (about m))) t
  channel_so = live_later.channel current

  made : IsMade a
  made = (k.holds.standings n i).entered live_later.made

  pub part_so : (h.accounts n (about m) (epoch_of w n (about m))).part ≡ Renewed
  part_so = by a.part refl
    where
      by : (p : Part) → a.part ≡ p → a.part ≡ Renewed
      by Unmade own = absurd (made own)
      by Opener own = absurd (later (opener_of w h n i e a (k.holds.accounts n i e) own).0)
      by Acceptor own = absurd (later (acceptor_of w h n i e a (k.holds.accounts n i e) own).0)
      by Renewed own = own

  pub renewed_so : IsRenewed w h n (about m) (epoch_of w n (about m)) (h.accounts n (about m) (epoch_of w n (about m)))
  renewed_so = renewed_of w h n i e a (k.holds.accounts n i e) part_so

  known : a.remote ≡ 0 → ⊥
  known z = let some = renewed_so.linked.to_some in omega (arith, z, some)

  deed_epoch : d.epoch ≡ e
  deed_epoch = k.epoch ∙ (ap (λ q. epoch_of q n i) v_is ∙ ap (λ (s : Standing). s.epoch) (alike.standings n i))

  pub state_so : ((state_number t.control.state ≡ 3) × IsOpen a) ⊎ IsShut a t
  state_so = subst (IsInState h.accounts i e a t) part_so channel_so.state

  pub acked_so : channel_so.acked ≤ length (partner_in h.accounts (epoch_of w n (about m)) (h.accounts n (about m) (epoch_of w n (about m)))).taken
  acked_so = subst (AreAcked h.accounts n i e a channel_so.acked) part_so channel_so.were_acked

  -- ---- its account

  module _ (more : List Letter) (tks : List Taken) (closed : Option ℕ) (becomes : entered_by d m (h.accounts n (about m) (epoch_of w n (about m))) ≡ changes_by more tks closed (h.accounts n (about m) (epoch_of w n (about m))))
      (how : IsOpen (h.accounts n (about m) (epoch_of w n (about m))) ⊎ (closed ≡ (h.accounts n (about m) (epoch_of w n (about m))).closed)) where
    becomes_deed : entered_by d d.move a ≡ changes_by more tks closed a
    becomes_deed = ap (λ q. entered_by d q a) k.deed.move_is ∙ becomes

    extends : Extends a (changes_by more tks closed a)
    extends = record {
      part = inr refl;
      peer = λ z. refl;
      remote = inr refl;
      answer = refl;
      first_given = refl;
      first_taken = refl;
      closed = how;
      given = (more, refl);
      taken = (tks, refl);
      declined = λ z. z;
    }

    pub is_so : (after h d).accounts n (about m) (epoch_of w n (about m)) ≡ changes_by more tks closed (h.accounts n (about m) (epoch_of w n (about m)))
    is_so = becomes_so h d n i e (changes_by more tks closed a) k.deed.node_is (ap about k.deed.move_is) deed_epoch becomes_deed plain

    pub only_there : IsOnly h (after h d) n (about m) (epoch_of w n (about m))
    only_there = only_so h d n i e (changes_by more tks closed a) k.deed.node_is (ap about k.deed.move_is) deed_epoch becomes_deed plain extends (λ lt. made)

  -- ---- the next letter is taken

  module _ (letter : Came) (next : IsNext ev t letter) (place : Place) (place_is : place ≡ taken_place t.control) where
    pub next_so : NextLater h n (about m) (epoch_of w n (about m)) sender letter next.comes.came.bytes
    next_so = next_later codecs again room w h k.holds n node k.there sender ev k.comes i e t there current refl part_so classes letter next

    pub enough_so : length (h.accounts n (about m) (epoch_of w n (about m))).taken + 1
        ≤ length (partner_in h.accounts (epoch_of w n (about m)) (h.accounts n (about m) (epoch_of w n (about m)))).given
    enough_so = let lt = slice_get_within (partner_in h.accounts e a).given (length a.taken) next_so.letter next_so.there in omega (arith, lt)

    -- what is kept of it
    pub new_taken : (kk : History) → IsOnly h kk n (about m) (epoch_of w n (about m)) → (more : List Letter) (closed : Option ℕ) → Tells next_so.letter m
        → IsTaken kk.accounts (epoch_of w n (about m)) (changes_by more (taken_as sender place m ∷ []) closed (h.accounts n (about m) (epoch_of w n (about m))))
        (length (h.accounts n (about m) (epoch_of w n (about m))).taken) (taken_as sender place m)
    new_taken kk only more closed tells = record {
      numbered = ap (λ (p : Place). p.number) place_is ∙ channel_so.taken;
      partner = record { node = a.peer; tunnel = a.remote };
      learned = rw (ne_eqb a.remote 0 known) refl;
      sender = next_so.sender_is;
      letter = next_so.letter;
      there = got_given (h.accounts a.peer a.remote e) (kk.accounts a.peer a.remote e) (all_extend h kk n i e only a.peer a.remote e) (length a.taken) next_so.letter next_so.there;
      tells = tells;
    }

    -- an open tunnel goes on
    module _ (more : List Letter) (u : Tunnel) (goes : GoesOn t u more 1) (three : state_number t.control.state ≡ 3)
        (becomes : entered_by d m (h.accounts n (about m) (epoch_of w n (about m))) ≡ grows_by more (taken_as sender place m ∷ []) (h.accounts n (about m) (epoch_of w n (about m))))
        (tells : Tells next_so.letter m) (spelled : AllByRecursion (IsSpelledIn (epoch_of w n (about m))) more)
        (no_opening : AllByRecursion (λ (l : Letter). IsNoOpening l.message) more)
        (told : AllByRecursion (λ (l : Letter). TellsOwn (about m) l.message) more) (puts : Puts node.end x (about m) u)
        (ids : x.tunnel_ids ≡ node.end.tunnel_ids)
        (query : QueryOk (epoch_of w n (about m)) u.query) where
      opened : IsPaired h.accounts i a a.part × IsOpen a
      opened = open_state h.accounts i e a t a.part channel_so.state three

      only : IsOnly h (after h d) n i e
      only = only_there more (taken_as sender place m ∷ []) a.closed becomes (inr refl)

      pub takes_hold : Holds (moves_on w n node m x) (after h d)
      takes_hold = subst (λ q. Holds q (after h d)) (sym v_is)
          (goes_hold w v h (after h d) n node x i e t u more (taken_as sender place m ∷ []) (record {
            there = k.there;
            holds = k.holds;
            alike = alike;
            epoch = refl;
            at_t = there;
            current = current;
            goes = goes;
            open_is = opened.1;
            paired = opened.0;
            only = only;
            is = is_so more (taken_as sender place m ∷ []) a.closed becomes (inr refl);
            query = query;
            spelled = spelled;
            plain = no_opening;
            told = told;
            enough = inr enough_so;
            taken = taken_more h (after h d) n i e only a more (k.holds.accounts n i e).taken opened.1 (taken_as sender place m) (new_taken (after h d) only more a.closed tells);
            puts = puts;
            ids = ids;
          }))
