-- A letter that a tunnel takes and on which it does nothing: as what it was read, in whichever epoch, and that it is no StopCCN.
use Rattle.std.proofs.Common.{◌≡◌, ⊎_elim, ℕ, true, false, List, [], ◌∷◌, length, refl, sym, ap, ap₂, ◌∙◌, subst, Option, Some, Ok}
use Rattle.std.proofs.lemmas.Bool.{true≢false}
use Rattle.std.proofs.lemmas.Option.{same_Some}
use Rattle.std.specs.Prelude.{slice_get}
use Rattle.id_table.specs.Ids.{at}
use Rattle.id_table.specs.Order.{same_or_not}
use Rattle.wire_base.specs.declared.pair.Pair.{Pair}
use Rattle.recv_window.specs.Window.{ClassIsTrue}
use Rattle.session_book.specs.Books.{Kept}
use Rattle.control_message.specs.declared.message.Message.{Message}
use Rattle.control_message.specs.declared.message.Message.TheVariants as message
use Rattle.end_model.specs.declared.event.Event.{Event}
use Rattle.end_model.specs.declared.moves.Move.{Move}
use Rattle.end_model.specs.Moments.{is_closed}
use Rattle.end_model.specs.Reading.{message_in}
use Rattle.end_model.specs.Tunnels.{Tunnel, mode_of, is_current}
use Rattle.end_model.specs.End.{End}
use Rattle.world_model.specs.World.{World, Node, Sender, Deed, epoch_of}
use Rattle.step_laws.specs.Letters.{Letter}
use Rattle.step_laws.specs.Arrivals.{Came, IsNext}
use Rattle.step_laws.specs.Moves.{IsPlain}
use Rattle.frame_laws.specs.Codecs.{Codecs}
use Rattle.frame_laws.specs.Plain.{without_number, AreAlike, IsReadAs, AsAMessage, AsAFault, message_there, no_message_there, fault_there}
use Rattle.connection_laws.specs.Facts.{IsNoStop, IsStopCcn}
use Rattle.connection_laws.specs.Steps as calm
use Rattle.connection_laws.proofs.Alike.{IsNoRequest, of_all, carried, alike_back, stop_alike, read_plainly}
use Rattle.epoch_machine.specs.Worlds as machine
use Rattle.session_laws.specs.Names.{spoken}
use Rattle.session_laws.proofs.Alike.{alike_spoken}
use Rattle.channel_laws.specs.Accounts.{Account, partner_of, History, about}
use Rattle.channel_laws.specs.Facts.{IsOfQuery, partner_in}
use Rattle.channel_laws.specs.Recoveries.{WrittenIsRead, WrittenHasRoom}
use Rattle.channel_laws.proofs.Alone.{alone_there, next_bare}
use Rattle.channel_laws.proofs.Calm.{calm_of, bare}
use Rattle.channel_laws.proofs.FirstMoves as first_moves
use Rattle.channel_laws.proofs.FirstMoves.{alone_in}
use Rattle.channel_laws.proofs.HeardLater.{NextLater, next_later}
use Rattle.recovery_laws.specs.Queries.{said_in, weight}
use Rattle.join_laws.specs.Hearing.{stage_of, stage_said, stage_in}
use Rattle.join_laws.specs.Steps as steps
use Rattle.join_laws.proofs.HeardAny.{either, part_later}
use Rattle.join_laws.proofs.Hearing.{stage_alike, stage_there}
use Rattle.join_laws.proofs.Within.{partner_by}

-- ---- messages

-- in a tunnel that isn't closed a plain letter is no StopCCN
pub plain_no_stop : (e : End) (t : Tunnel) (session : ℕ) (m : Message) → is_closed t.control.state ≡ false
    → (IsNoRequest m → IsPlain e t session m) → IsNoStop m
plain_no_stop e t session (message.Sccrq o) works why = tt
plain_no_stop e t session (message.Sccrp o) works why = tt
plain_no_stop e t session (message.Scccn response) works why = tt
plain_no_stop e t session (message.StopCcn tunnel result error) works why = absurd (true≢false (sym (why tt) ∙ works))
plain_no_stop e t session message.Hello works why = tt
plain_no_stop e t session (message.Ocrq remote) works why = tt
plain_no_stop e t session message.Ocrp works why = tt
plain_no_stop e t session message.Occn works why = tt
plain_no_stop e t session message.Wen works why = tt
plain_no_stop e t session message.Sli works why = tt
plain_no_stop e t session (message.Fsq sessions) works why = tt
plain_no_stop e t session (message.Fsr sessions) works why = tt
plain_no_stop e t session (message.Icrq remote serial calling) works why = tt
plain_no_stop e t session (message.Icrp remote) works why = tt
plain_no_stop e t session (message.Iccn speed framing sequenced) works why = tt
plain_no_stop e t session (message.Cdn remote code error) works why = tt

pub not_both : (m : Message) → IsStopCcn m → IsNoStop m → ⊥
not_both (message.StopCcn tunnel result error) stop none = none
not_both m stop none = absurd stop

-- what is no question and no answer is one letter of the machine's
pub said_one : (n p : ℕ) (asked : List Pair) (header : ℕ) (m : Message) → (IsOfQuery m → ⊥)
    → said_in n p asked header m ≡ spoken n p header m ∷ []
said_one n p asked header (message.Sccrq o) none = refl
said_one n p asked header (message.Sccrp o) none = refl
said_one n p asked header (message.Scccn response) none = refl
said_one n p asked header (message.StopCcn tunnel result error) none = refl
said_one n p asked header message.Hello none = refl
said_one n p asked header (message.Ocrq remote) none = refl
said_one n p asked header message.Ocrp none = refl
said_one n p asked header message.Occn none = refl
said_one n p asked header message.Wen none = refl
said_one n p asked header message.Sli none = refl
said_one n p asked header (message.Fsq sessions) none = absurd (none tt)
said_one n p asked header (message.Fsr sessions) none = absurd (none tt)
said_one n p asked header (message.Icrq remote serial calling) none = refl
said_one n p asked header (message.Icrp remote) none = refl
said_one n p asked header (message.Iccn speed framing sequenced) none = refl
said_one n p asked header (message.Cdn remote code error) none = refl

pub weighs_one : (m : Message) → (IsOfQuery m → ⊥) → weight m ≡ 1
weighs_one (message.Fsq sessions) none = absurd (none tt)
weighs_one (message.Fsr sessions) none = absurd (none tt)
weighs_one m none = refl

-- ---- the letter, and as what it was read

-- a letter and what it was read as in what came in, with what is known of that
pub record IsHeard (e : End) (t : Tunnel) (came : Came) (l : Letter) : Type 0 where
  pub message : Message
  pub alike : AreAlike l.message message
  pub session_is : l.session ≡ came.header.session
  pub why : IsNoRequest message → IsPlain e t came.header.session message
  pub stage_is : stage_in came.body ≡ stage_of message

-- what was read, whether it could be read or not
stage_read : (m : Message) (body : List ℕ) → IsReadAs m body → stage_in body ≡ stage_of m
stage_read m body (AsAMessage avps y pairs reads written alike) =
    stage_there body y (message_there body avps y pairs reads) ∙ stage_alike y m (alike_back m y alike)
stage_read m body (AsAFault avps own serial number is small pairs fault kind told) =
    ap₂ (λ o f. stage_said o f) (no_message_there body avps own pairs fault kind told) (fault_there body avps own pairs fault kind told)
    ∙ ap stage_of (sym is)

module _ (e : End) (t : Tunnel) (came : Came) (l : Letter) (h : IsHeard e t came l) where
  pub heard_no_stop : is_closed t.control.state ≡ false → IsStopCcn l.message → ⊥
  heard_no_stop works stops =
      not_both h.message (stop_alike h.message l.message (alike_back l.message h.message h.alike) stops)
      (plain_no_stop e t came.header.session h.message works h.why)

  pub heard_no_query : (IsOfQuery h.message → ⊥) → IsOfQuery l.message → ⊥
  heard_no_query none query = none (carried IsOfQuery (of_all IsOfQuery (λ own serial calling k. k) (λ own serial calling k. k)) h.message
      l.message (alike_back l.message h.message h.alike) query)

  pub heard_said : (IsOfQuery h.message → ⊥) → (n p : ℕ) (asked : List Pair)
      → said_in n p asked l.session l.message ≡ spoken n p came.header.session h.message ∷ []
  heard_said none n p asked =
      said_one n p asked l.session l.message (heard_no_query none)
      ∙ (ap (λ s. spoken n p s l.message ∷ []) h.session_is
      ∙ ap (λ y. y ∷ []) (alike_spoken n p came.header.session l.message h.message h.alike))

module _ (keep : calm.MovesKeep) (plainly : calm.PlainIsHeard) (codecs : Codecs) (again : WrittenIsRead) (room : WrittenHasRoom)
    (classes : ClassIsTrue) (w : World) (h : History) (n : ℕ) (node : Node) (sender : Option Sender) (moment : ℕ) (ev : Event) (m : Move)
    (x : End) (d : Deed) (k : Kept) (j : machine.World) (q : steps.IsMade w h n node sender moment ev m x d k j) (t : Tunnel)
    (at_t : at node.end.tunnels (about m) ≡ Some t) (current : is_current (mode_of t.recovery) ≡ true)
    (works : is_closed t.control.state ≡ false) (came : Came) (next : IsNext ev t came)
    (why : (says : Message) → message_in came.body ≡ Ok says → IsPlain node.end t came.header.session says)
    (from : Sender) (letter : Letter) (sender_is : sender ≡ Some from)
    (partner : partner_of (h.accounts n (about m) (epoch_of w n (about m))) ≡ Some from)
    (there : slice_get (h.accounts from.node from.tunnel (epoch_of w n (about m))).given
    (length (h.accounts n (about m) (epoch_of w n (about m))).taken) ≡ Some letter) where
  abbrev i : ℕ
  i = about m

  abbrev e : ℕ
  e = epoch_of w n (about m)

  abbrev a : Account
  a = h.accounts n (about m) (epoch_of w n (about m))

  abbrev Heard : Type 0
  Heard = IsHeard node.end t came letter

  partner_is : partner_in h.accounts e a ≡ h.accounts from.node from.tunnel e
  partner_is = let p = partner_by a from partner in ap₂ (λ y z. h.accounts y z e) p.0 p.1

  heard_later : (epoch_of w n (about m) ≡ 0 → ⊥) → IsHeard node.end t came letter
  heard_later later =
      let l : NextLater h n i e sender came next.comes.came.bytes =
      next_later codecs again room w h q.moved.holds n node q.moved.there sender ev q.moved.comes i e t at_t current refl
      (part_later keep codecs again room w h n node sender moment ev m x d k j q t at_t current later) classes came next in
      let one : letter ≡ l.letter =
      same_Some letter l.letter (sym there ∙ (sym (ap (λ (c : Account). slice_get c.given (length a.taken)) partner_is) ∙ l.there)) in
      record {
        message = l.letter.message;
        alike = ap (λ (y : Letter). without_number y.message) one;
        session_is = ap (λ (y : Letter). y.session) one ∙ sym l.session;
        why = λ plain. why l.letter.message (ap message_in next.comes.came.body_is ∙ either l.reads
            (λ p. read_plainly l.letter.message _ p.reads plain)
            (λ p. message_there _ p.avps l.letter.message p.pairs p.said));
        stage_is = ap stage_in next.comes.came.body_is ∙ either l.reads
            (λ p. stage_read l.letter.message _ p.reads)
            (λ p. stage_there _ l.letter.message (message_there _ p.avps l.letter.message p.pairs p.said));
      }

  module _ (first : epoch_of w n (about m) ≡ 0) where
    plain : calm.PlainLetter (calm_of h) n i sender came
    plain = plainly (calm_of h) n (alone_in node.end i t) sender ev
        (record {
          accounts = first_moves.accounts_to keep codecs again room w h n node sender moment ev m x d q.moved t at_t current first;
          end = first_moves.end_to keep codecs again room w h n node sender moment ev m x d q.moved t at_t current first;
          comes = first_moves.comes_zero keep codecs again room w h n node sender moment ev m x d q.moved t at_t current first came
              next.comes;
        })
        i (bare t) (alone_there node.end i t) works came (next_bare ev t came next)

    so : IsNoRequest plain.message → IsPlain node.end t came.header.session plain.message
    so simple = why plain.message (read_plainly plain.message came.body plain.reads simple)

    given : calm.NextLetter (calm_of h) n i sender came.header.session plain.message
    given = plain.next (plain_no_stop node.end t came.header.session plain.message works so)

    one : letter ≡ given.letter
    one =
        let same : from ≡ given.from = same_Some from given.from (sym sender_is ∙ given.sender_is) in
        let found : slice_get (h.accounts given.from.node given.from.tunnel 0).given (length (h.accounts n i 0).taken) ≡ Some letter =
        subst (λ y. slice_get (h.accounts given.from.node given.from.tunnel y).given (length (h.accounts n i y).taken) ≡ Some letter)
        first (ap (λ (y : Sender). slice_get (h.accounts y.node y.tunnel e).given (length a.taken)) (sym same) ∙ there) in
        same_Some letter given.letter (sym found ∙ given.there)

    heard_first : IsHeard node.end t came letter
    heard_first = record {
      message = plain.message;
      alike = subst (λ (y : Letter). AreAlike y.message plain.message) (sym one) given.message_is;
      session_is = subst (λ (y : Letter). y.session ≡ came.header.session) (sym one) given.session_is;
      why = so;
      stage_is = stage_read plain.message came.body plain.reads;
    }

  pub heard_plain : IsHeard node.end t came letter
  heard_plain = ⊎_elim (λ first. heard_first first) (λ later. heard_later later) (same_or_not e 0)
