-- What comes next in an established tunnel is read as the letter that its account tells, but that a request's Calling Number may be
-- another.
use Rattle.std.proofs.Common.{◌≡◌, ⊎_elim, ℕ, true, false, List, length, refl, sym, ap, ap₂, ◌∙◌, subst, Option, Some, Ok}
use Rattle.std.proofs.lemmas.Option.{none-some, same_Some}
use Rattle.std.specs.Prelude.{slice_get}
use Rattle.id_table.specs.Ids.{at}
use Rattle.id_table.specs.Order.{same_or_not}
use Rattle.recv_window.specs.Window.{ClassIsTrue}
use Rattle.session_book.specs.Books.{Kept}
use Rattle.control_message.specs.declared.message.Message.{Message}
use Rattle.control_message.specs.declared.message.Message.TheVariants.{Icrq}
use Rattle.end_model.specs.declared.event.Event.{Event}
use Rattle.end_model.specs.declared.moves.Move.{Move}
use Rattle.end_model.specs.Moments.{is_closed}
use Rattle.end_model.specs.Reading.{message_in, CallFault, call_fault_in}
use Rattle.end_model.specs.Tunnels.{Tunnel, mode_of, is_current}
use Rattle.end_model.specs.End.{End}
use Rattle.world_model.specs.World.{World, Node, Sender, Deed, epoch_of}
use Rattle.step_laws.specs.Letters.{Letter}
use Rattle.step_laws.specs.Arrivals.{Came, IsNext}
use Rattle.frame_laws.specs.Codecs.{Codecs}
use Rattle.frame_laws.specs.Plain.{without_number, AreAlike, message_there, no_fault_there}
use Rattle.connection_laws.specs.Facts.{IsNoStop}
use Rattle.connection_laws.specs.Steps as calm
use Rattle.connection_laws.proofs.Alike.{read_alike, read_faulty, no_stop_alike}
use Rattle.epoch_machine.specs.Worlds as machine
use Rattle.channel_laws.specs.Accounts.{Account, partner_of, History, about}
use Rattle.channel_laws.specs.Facts.{partner_in}
use Rattle.channel_laws.specs.Recoveries.{WrittenIsRead, WrittenHasRoom}
use Rattle.channel_laws.proofs.Alone.{alone_there, next_bare}
use Rattle.channel_laws.proofs.Calm.{calm_of, bare}
use Rattle.channel_laws.proofs.FirstMoves as first_moves
use Rattle.channel_laws.proofs.FirstMoves.{alone_in}
use Rattle.channel_laws.proofs.HeardLater.{NextLater, next_later}
use Rattle.join_laws.specs.Steps as steps
use Rattle.join_laws.proofs.HeardAny.{either, part_later, same_said}
use Rattle.join_laws.proofs.Within.{partner_by}

module _ (keep : calm.MovesKeep) (plainly : calm.PlainIsHeard) (codecs : Codecs) (again : WrittenIsRead) (room : WrittenHasRoom)
    (classes : ClassIsTrue) (w : World) (h : History) (n : ℕ) (node : Node) (sender : Option Sender) (moment : ℕ) (ev : Event) (m : Move)
    (x : End) (d : Deed) (k : Kept) (j : machine.World) (q : steps.IsMade w h n node sender moment ev m x d k j) (t : Tunnel)
    (at_t : at node.end.tunnels (about m) ≡ Some t) (current : is_current (mode_of t.recovery) ≡ true)
    (works : is_closed t.control.state ≡ false) (came : Came) (next : IsNext ev t came) (from : Sender) (letter : Letter)
    (sender_is : sender ≡ Some from) (partner : partner_of (h.accounts n (about m) (epoch_of w n (about m))) ≡ Some from)
    (there : slice_get (h.accounts from.node from.tunnel (epoch_of w n (about m))).given
    (length (h.accounts n (about m) (epoch_of w n (about m))).taken) ≡ Some letter) where
  abbrev i : ℕ
  i = about m

  abbrev e : ℕ
  e = epoch_of w n (about m)

  abbrev a : Account
  a = h.accounts n (about m) (epoch_of w n (about m))

  -- a request whose number can't be had
  abbrev Faulty : Type 0
  Faulty = (own : ℕ) × (serial : ℕ) × (number : List ℕ) × AreAlike letter.message (Icrq own serial (Some number))

  -- ---- in a later epoch

  partner_is : partner_in h.accounts e a ≡ h.accounts from.node from.tunnel e
  partner_is = let p = partner_by a from partner in ap₂ (λ y z. h.accounts y z e) p.0 p.1

  module _ (later : epoch_of w n (about m) ≡ 0 → ⊥) where
    heard : NextLater h n i e sender came next.comes.came.bytes
    heard = next_later codecs again room w h q.moved.holds n node q.moved.there sender ev q.moved.comes i e t at_t current refl
        (part_later keep codecs again room w h n node sender moment ev m x d k j q t at_t current later) classes came next

    one : letter ≡ heard.letter
    one = same_Some letter heard.letter
        (sym there ∙ (sym (ap (λ (c : Account). slice_get c.given (length a.taken)) partner_is) ∙ heard.there))

    later_alike : (says : Message) → message_in came.body ≡ Ok says → AreAlike letter.message says
    later_alike says said =
        let read = ap message_in (sym next.comes.came.body_is) ∙ said in
        subst (λ (y : Letter). AreAlike y.message says) (sym one) (either heard.reads
        (λ p. read_alike heard.letter.message _ p.reads says read)
        (λ p. ap without_number (same_said _ heard.letter.message says (message_there _ p.avps heard.letter.message p.pairs p.said) read)))

    later_faulty : (f : CallFault) → call_fault_in came.body ≡ Some f
        → (own : ℕ) × (serial : ℕ) × (number : List ℕ) × AreAlike letter.message (Icrq own serial (Some number))
    later_faulty f fault =
        let read = ap call_fault_in (sym next.comes.came.body_is) ∙ fault in
        either heard.reads
        (λ p.
        let r = read_faulty heard.letter.message _ p.reads f read in
        (r.0, r.1, r.2, ap without_number (ap (λ (y : Letter). y.message) one ∙ r.3)))
        (λ p. absurd (none-some f (sym (no_fault_there _ p.avps heard.letter.message p.pairs p.said) ∙ read)))

  -- ---- in epoch 0

  module _ (first : epoch_of w n (about m) ≡ 0) where
    plain : calm.PlainLetter (calm_of h) n i sender came
    plain = plainly (calm_of h) n (alone_in node.end i t) sender ev
        (record {
          accounts = first_moves.accounts_to keep codecs again room w h n node sender moment ev m x d q.moved t at_t current first;
          end = first_moves.end_to keep codecs again room w h n node sender moment ev m x d q.moved t at_t current first;
          comes = first_moves.comes_zero keep codecs again room w h n node sender moment ev m x d q.moved t at_t current first came
              next.comes;
        })
        i (bare t) (alone_there node.end i t) works came (next_bare ev t came next)

    first_letter : IsNoStop plain.message → AreAlike letter.message plain.message
    first_letter stop =
        let l = plain.next stop in
        let same : from ≡ l.from = same_Some from l.from (sym sender_is ∙ l.sender_is) in
        let found : slice_get (h.accounts l.from.node l.from.tunnel 0).given (length (h.accounts n i 0).taken) ≡ Some letter =
        subst (λ y. slice_get (h.accounts l.from.node l.from.tunnel y).given (length (h.accounts n i y).taken) ≡ Some letter) first
        (ap (λ (y : Sender). slice_get (h.accounts y.node y.tunnel e).given (length a.taken)) (sym same) ∙ there) in
        let one : letter ≡ l.letter = same_Some letter l.letter (sym found ∙ l.there) in
        subst (λ (y : Letter). AreAlike y.message plain.message) (sym one) l.message_is

    first_alike : (says : Message) → IsNoStop says → message_in came.body ≡ Ok says → AreAlike letter.message says
    first_alike says stop said =
        let like : AreAlike plain.message says = read_alike plain.message came.body plain.reads says said in
        let that : AreAlike letter.message plain.message = first_letter (no_stop_alike plain.message says like stop) in
        that ∙ like

    first_faulty : (f : CallFault) → call_fault_in came.body ≡ Some f
        → (own : ℕ) × (serial : ℕ) × (number : List ℕ) × AreAlike letter.message (Icrq own serial (Some number))
    first_faulty f fault =
        let r = read_faulty plain.message came.body plain.reads f fault in
        (r.0, r.1, r.2, first_letter (subst IsNoStop (sym r.3) tt) ∙ ap without_number r.3)

  pub next_alike : (says : Message) → IsNoStop says → message_in came.body ≡ Ok says → AreAlike letter.message says
  next_alike says stop said =
      ⊎_elim (λ first. first_alike first says stop said) (λ later. later_alike later says said) (same_or_not e 0)

  pub next_faulty : (f : CallFault) → call_fault_in came.body ≡ Some f
      → (own : ℕ) × (serial : ℕ) × (number : List ℕ) × AreAlike letter.message (Icrq own serial (Some number))
  next_faulty f fault = ⊎_elim (λ first. first_faulty first f fault) (λ later. later_faulty later f fault) (same_or_not e 0)
