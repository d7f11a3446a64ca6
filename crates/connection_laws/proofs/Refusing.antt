-- A tunnel that takes a letter about a call that there isn't, and refuses it by a CDN, keeps what holds.
use Rattle.std.proofs.Common.{◌≡◌, inl, inr, ⊎_elim, ℕ, ◌<◌, List, [], ◌∷◌, refl, sym, ap, ◌∙◌, subst, Option, Some, None, Ok, arith}
use Rattle.std.specs.Prelude.{unwrap_or}
use Rattle.l2tp_header.specs.declared.header.Header.{Header}
use Rattle.control_message.specs.declared.message.Message.{Message}
use Rattle.control_message.specs.declared.message.Message.TheVariants.{StopCcn, Ocrq, Icrq, Icrp, Cdn}
use Rattle.recv_window.specs.Window.{ClassIsTrue}
use Rattle.end_model.specs.declared.event.Event.{Event}
use Rattle.end_model.specs.declared.moves.Refused.{Refused}
use Rattle.end_model.specs.declared.moves.Move.TheVariants as move
use Rattle.l2tp_header.specs.Reading.{body_of}
use Rattle.end_model.specs.Reading.{message_in, CallFault, call_fault_in}
use Rattle.end_model.specs.Tunnels.{Tunnel}
use Rattle.end_model.specs.End.{End}
use Rattle.world_model.specs.World.{Sender, Deed}
use Rattle.step_laws.specs.Letters.{Letter}
use Rattle.step_laws.specs.Moves.{HearsNext, heard_so, with_letter_as, Refuses, WhyRefused, IsNotGranted, IsOutgoing, IsReplyToNone, IsWrong}
use Rattle.step_laws.specs.Codes.{refusal_codes_fit}
use Rattle.frame_laws.specs.Codecs.{Codecs}
use Rattle.frame_laws.specs.Plain.{AreAlike}
use Rattle.frame_laws.specs.Written.{IsWritten}
use Rattle.connection_laws.specs.Facts.{Accounts, IsNoStop, IsStopCcn, IsSpelled, Tells, Within}
use Rattle.connection_laws.proofs.Keeps.{after, IsMoved}
use Rattle.connection_laws.proofs.Later.{after_move, only_after}
use Rattle.connection_laws.proofs.Puts.{IsOnly}
use Rattle.connection_laws.proofs.Alike.{same_alike, request_alike, read_faulty}
use Rattle.connection_laws.proofs.Hearing.{sender_in, Heard, HeardRefusal, heard, heard_to, some_in, letter_some}
use Rattle.connection_laws.proofs.NextHeard.{next_heard}
use Rattle.connection_laws.proofs.Acknowledging.{put_of}
use Rattle.connection_laws.proofs.Taking.{TakesOn, with_taken, taken_as, takes_and_gives}
use Rattle.connection_laws.proofs.PairMoves.{took, took_and_given, said_written, letter_takes, said_takes, open_so, unclosed_so}

module _ (codecs : Codecs) (classes : ClassIsTrue) (accs : Accounts) (n : ℕ) (e x : End) (sender : Option Sender) (moment : ℕ) (ev : Event) (d : Deed)
    (m : Refused) (h : IsMoved accs n e x sender moment ev (move.Refused m) d) where
  abbrev o : Refuses e ev m x
  o = h.does

  abbrev t : Tunnel
  t = o.tunnel

  abbrev body : List ℕ
  body = o.letter.body

  abbrev header : Header
  header = o.letter.header

  abbrev bytes : List ℕ
  bytes = o.takes.next.comes.came.bytes

  -- as the datagram has it
  body_is : body ≡ body_of bytes header
  body_is = o.takes.next.comes.came.body_is

  -- the letter that came
  came : (said : Message) → message_in body ≡ Ok said → HearsNext ev t header.session said
  came said is = heard_so ev t o.letter said o.takes.next is

  -- the CDN that is given, and the tunnel with it
  abbrev l : Letter
  l = record { tunnel = m.tunnel; place = m.given; session = m.remote; message = Cdn 0 m.result m.error; hidden = None }

  abbrev u : Tunnel
  u = with_letter_as l.session l.message l.hidden (took t t.control.state t.calls)

  goes : TakesOn t u (l ∷ [])
  goes =
      let live = h.within.end.live m.tunnel t o.there in
      took_and_given accs n m.tunnel t live (h.counts m.tunnel t o.there) t.control.state t.calls
      (record { remotes = live.calls; order = live.order }) (inr (refl, refl)) l o.room

  only : IsOnly accs (after accs d) n m.tunnel
  only = only_after accs d n (move.Refused m) tt h.deed.node_is h.deed.move_is tt

  is : after accs d n m.tunnel ≡ with_taken (taken_as sender m.taken (move.Refused m)) (l ∷ []) (accs n m.tunnel)
  is = after_move accs d n (move.Refused m) tt h.deed.node_is h.deed.move_is
      ∙ takes_and_gives d n e.role sender (move.Refused m) m.taken (accs n m.tunnel) h.deed

  spelled : m.remote < 65536 → IsSpelled l
  spelled fits =
      let codes = refusal_codes_fit e t header.session (message_in body) (call_fault_in body) m o.why in
      record { written = (omega arith, codes.0, codes.1); hides = tt; session = fits }

  -- a message that can be read
  refuses : (said : Message) → IsNoStop said → message_in body ≡ Ok said → m.remote < 65536
      → ((l : Letter) → l.session ≡ header.session → AreAlike l.message said → Tells l (move.Refused m)) → Within (after accs d) n x sender ev
  refuses said no_stop reads fits tells =
      said_takes codecs classes accs n e sender ev h.within m.tunnel t o.there header.session said (came said reads)
      (open_so t o.open_is) (unclosed_so t o.open_is) no_stop (after accs d) x u (move.Refused m) m.taken (l ∷ []) o.takes.taken_is tells goes only is
      (spelled fits, tt) (tt, tt) (tt, tt) (put_of e x e.calls m.tunnel u o.after)

  -- a request whose number can't be had
  refuses_faulty : (k : Heard accs n e sender ev h.within.comes m.tunnel t header bytes) (f : CallFault) → call_fault_in body ≡ Some f
      → m.remote ≡ unwrap_or f.session 0 → Within (after accs d) n x sender ev
  refuses_faulty k f fault same =
      let q = letter_some (sender_in accs n m.tunnel k.o) k.o header bytes k.read (some_in ev o.letter o.takes.next.comes.came o.takes.next.some) in
      let next = next_heard classes accs n e sender ev h.within m.tunnel t o.there header bytes k q o.takes.next.next in
      let r = read_faulty next.letter.message (body_of bytes header) next.reads f (ap call_fault_in (sym body_is) ∙ fault) in
      let own : m.remote ≡ r.0 = same ∙ ap (λ (y : CallFault). unwrap_or y.session 0) r.4 in
      let fits = (subst IsWritten r.3 next.spelled.written).0 in
      letter_takes accs n e sender ev h.within m.tunnel t o.there header bytes k next
      (open_so t o.open_is) (unclosed_so t o.open_is) (λ stops. subst IsStopCcn r.3 stops) (after accs d) x u (move.Refused m) m.taken (l ∷ []) o.takes.taken_is
      (inl (r.1, Some r.2, r.3 ∙ ap (λ (y : ℕ). Icrq y r.1 (Some r.2)) (sym own))) goes only is
      (spelled (rw own fits), tt) (tt, tt) (tt, tt) (put_of e x e.calls m.tunnel u o.after)

  told : (session : ℕ) → m.remote ≡ session → session < 65536 → m.remote < 65536
  told session same small = rw same small

  written : (said : Message) → IsNoStop said → message_in body ≡ Ok said → IsWritten said
  written said plain is = said_written codecs classes accs n e sender ev h.within m.tunnel t o.there header.session said (came said is) plain

  by_why : WhyRefused e t header.session (message_in body) (call_fault_in body) m → Within (after accs d) n x sender ev
  by_why (IsNotGranted remote serial calling said none same denied) =
      refuses (Icrq remote serial calling) tt said (told remote same (written (Icrq remote serial calling) tt said).0)
      (λ l session says.
      let r = request_alike l.message remote serial calling says in
      inl (serial, r.calling, r.is ∙ ap (λ q. Icrq q serial r.calling) (sym same)))
  by_why (IsOutgoing remote said same result error) = absurd (written (Ocrq remote) tt said)
  by_why (IsReplyToNone remote said none lns same result error) =
      refuses (Icrp remote) tt said (told remote same (written (Icrp remote) tt said).0)
      (λ l session says. inr (same_alike l.message (Icrp remote) says tt ∙ ap (λ q. Icrp q) (sym same)))
  by_why (IsWrong f fault same result error) = ⊎_elim
      (λ (k : Heard accs n e sender ev h.within.comes m.tunnel t header bytes). refuses_faulty k f fault same)
      (λ (k : HeardRefusal accs n e sender ev h.within.comes m.tunnel t header bytes).
      let r = read_faulty (StopCcn 0 k.read.result k.read.error) (body_of bytes header) k.read.reads f (ap call_fault_in (sym body_is) ∙ fault) in
      let no : StopCcn 0 k.read.result k.read.error ≡ Icrq r.0 r.1 (Some r.2) = r.3 in
      absurd cc)
      (heard codecs accs n e sender ev h.within m.tunnel t o.there header bytes (heard_to ev t.control o.letter o.takes.next.comes))

  pub refused_keeps : Within (after accs d) n x sender ev
  refused_keeps = by_why o.why
