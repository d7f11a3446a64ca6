-- What an established tunnel takes is what came: the letter that its account tells says the same, and names the same session, in whichever
-- epoch it is. (A request may be read with another Calling Number, and a StopCCN with a fault: of these it says nothing.)
use Rattle.std.proofs.Common.{◌≡◌, ◌⊎◌, inl, inr, ⊎_elim, ℕ, ◌<◌, ◌≤◌, true, false, List, length, refl, sym, ap, ap₂, ◌∙◌, subst, Option, Some, Ok, arith, ne_eqb}
use Rattle.std.proofs.lemmas.Option.{same_Some}
use Rattle.std.specs.Prelude.{slice_get, ◌==◌}
use Rattle.id_table.specs.Ids.{at}
use Rattle.id_table.specs.Order.{same_or_not}
use Rattle.recv_window.specs.Window.{ClassIsTrue}
use Rattle.session_book.specs.Books.{Kept}
use Rattle.tunnel_fsm.specs.Rows.{state_number}
use Rattle.control_message.specs.declared.message.Message.{Message}
use Rattle.end_model.specs.declared.event.Event.{Event}
use Rattle.end_model.specs.declared.moves.Move.{Move}
use Rattle.end_model.specs.Moments.{is_closed}
use Rattle.end_model.specs.Reading.{message_in}
use Rattle.end_model.specs.Tunnels.{Tunnel, mode_of, is_current}
use Rattle.end_model.specs.End.{End}
use Rattle.world_model.specs.World.{World, Node, Sender, Deed, epoch_of}
use Rattle.step_laws.specs.Letters.{Letter}
use Rattle.step_laws.specs.Arrivals.{Came, IsNext}
use Rattle.frame_laws.specs.Codecs.{Codecs}
use Rattle.frame_laws.specs.Plain.{AreAlike}
use Rattle.connection_laws.specs.Facts.{IsNoStop}
use Rattle.connection_laws.specs.Steps as calm
use Rattle.connection_laws.proofs.Alike.{IsNoRequest, read_same, same_alike}
use Rattle.epoch_machine.specs.Worlds as machine
use Rattle.channel_laws.specs.Accounts.{Part, Unmade, Opener, Acceptor, Renewed, Account, partner_of, History, about}
use Rattle.channel_laws.specs.Facts.{IsMade, partner_in}
use Rattle.channel_laws.specs.Recoveries.{WrittenIsRead, WrittenHasRoom}
use Rattle.channel_laws.proofs.Alone.{alone_there, next_bare}
use Rattle.channel_laws.proofs.Calm.{calm_of, bare}
use Rattle.channel_laws.proofs.FirstMoves as first_moves
use Rattle.channel_laws.proofs.FirstMoves.{alone_in}
use Rattle.channel_laws.proofs.HeardLater.{NextLater, next_later}
use Rattle.channel_laws.proofs.Linked.{opener_of, acceptor_of}
use Rattle.channel_laws.proofs.TakesLater.{says_same}
use Rattle.join_laws.specs.Steps as steps
use Rattle.join_laws.proofs.Made as made
use Rattle.join_laws.proofs.Taking as taking
use Rattle.join_laws.proofs.Taking.{Takes, TookLetter}
use Rattle.join_laws.proofs.Within.{partner_by}

module _ (keep : calm.MovesKeep) (plainly : calm.PlainIsHeard) (codecs : Codecs) (again : WrittenIsRead) (room : WrittenHasRoom)
    (classes : ClassIsTrue) (w : World) (h : History) (n : ℕ) (node : Node) (sender : Option Sender) (moment : ℕ) (ev : Event) (m : Move)
    (x : End) (d : Deed) (k : Kept) (j : machine.World) (q : steps.IsMade w h n node sender moment ev m x d k j) (t : Tunnel)
    (number : ℕ) (ls : List Letter) (s : Takes w h n node m x d t number ls)
    (took : TookLetter w h n node sender moment ev m x d k j q t number ls s) (came : Came) (next : IsNext ev t came) (says : Message)
    (said : message_in came.body ≡ Ok says) (request : IsNoRequest says) (stop : IsNoStop says) where
  abbrev i : ℕ
  i = about m

  abbrev e : ℕ
  e = epoch_of w n (about m)

  abbrev a : Account
  a = h.accounts n (about m) (epoch_of w n (about m))

  abbrev Same : Type 0
  Same = (took.letter.message ≡ says) × (took.letter.session ≡ came.header.session)

  partner_is : partner_in h.accounts e a ≡ h.accounts took.from.node took.from.tunnel e
  partner_is = let p = partner_by a took.from took.partner in ap₂ (λ y z. h.accounts y z e) p.0 p.1

  -- ---- in a later epoch

  made_now : IsMade a
  made_now = made.made_now w h n node sender moment ev m x d k j q i t s.at_t

  part_later : (e ≡ 0 → ⊥) → a.part ≡ Renewed
  part_later later = by a.part refl
    where
      by : (p : Part) → (h.accounts n (about m) (epoch_of w n (about m))).part ≡ p
          → (h.accounts n (about m) (epoch_of w n (about m))).part ≡ Renewed
      by Unmade is = absurd (made_now is)
      by Opener is = absurd (later (opener_of w h n i e a (q.moved.holds.accounts n i e) is).0)
      by Acceptor is = absurd (later (acceptor_of w h n i e a (q.moved.holds.accounts n i e) is).0)
      by Renewed is = is

  said_later : (e ≡ 0 → ⊥) → Same
  said_later later =
      let l : NextLater h n i e sender came next.comes.came.bytes =
      next_later codecs again room w h q.moved.holds n node q.moved.there sender ev q.moved.comes i e t s.at_t s.current refl
      (part_later later) classes came next in
      let one : took.letter ≡ l.letter =
      same_Some took.letter l.letter (sym took.there ∙ (sym (ap (λ (c : Account). slice_get c.given (length a.taken)) partner_is)
      ∙ l.there)) in (
        ap (λ (y : Letter). y.message) one ∙ says_same h n i e sender ev t came next l says said request,
        ap (λ (y : Letter). y.session) one ∙ sym l.session,
      )

  -- ---- in epoch 0

  not_shut : is_closed t.control.state ≡ false
  not_shut = ne_eqb (state_number t.control.state) 4 (λ four. (let three = s.three in let no_state : ⊥ = omega (arith, three, four) in
      no_state))

  heard_first : e ≡ 0 → calm.PlainLetter (calm_of h) n i sender came
  heard_first first =
      plainly (calm_of h) n (alone_in node.end i t) sender ev
      (record {
        accounts = first_moves.accounts_to keep codecs again room w h n node sender moment ev m x d q.moved t s.at_t s.current first;
        end = first_moves.end_to keep codecs again room w h n node sender moment ev m x d q.moved t s.at_t s.current first;
        comes = first_moves.comes_zero keep codecs again room w h n node sender moment ev m x d q.moved t s.at_t s.current first came
            next.comes;
      })
      i (bare t) (alone_there node.end i t) not_shut came (next_bare ev t came next)

  said_first : e ≡ 0 → Same
  said_first first =
      let p = heard_first first in
      let one : p.message ≡ says = read_same p.message came.body p.reads says said request in
      let l = p.next (subst IsNoStop (sym one) stop) in
      let same : took.from ≡ l.from = same_Some took.from l.from (sym took.sender_is ∙ l.sender_is) in
      let there : slice_get (h.accounts l.from.node l.from.tunnel 0).given (length (h.accounts n i 0).taken) ≡ Some took.letter =
      subst (λ y. slice_get (h.accounts l.from.node l.from.tunnel y).given (length (h.accounts n i y).taken) ≡ Some took.letter) first
      (ap (λ (y : Sender). slice_get (h.accounts y.node y.tunnel e).given (length a.taken)) (sym same) ∙ took.there) in
      let letter : took.letter ≡ l.letter = same_Some took.letter l.letter (sym there ∙ l.there) in (
        ap (λ (y : Letter). y.message) letter ∙ same_alike l.letter.message says (subst (AreAlike l.letter.message) one l.message_is)
            request,
        ap (λ (y : Letter). y.session) letter ∙ l.session_is,
      )

  pub heard_so : (took.letter.message ≡ says) × (took.letter.session ≡ came.header.session)
  heard_so = ⊎_elim (λ first. said_first first) (λ later. said_later later) (same_or_not e 0)
