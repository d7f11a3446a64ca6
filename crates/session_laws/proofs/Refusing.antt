-- A request is refused, and so it is in the machine: it is the one letter about a call that there isn't which comes in a run.
use Rattle.std.proofs.Common.{◌≡◌, ⊎_elim, ℕ, ◌<◌, true, false, List, length, refl, sym, ap, ap₂, ◌∙◌, subst, Option, Some, Ok, arith, None, unwrap_or}
use Rattle.std.proofs.lemmas.Bool.{true≢false, lt-ltb}
use Rattle.id_table.specs.Order.{same_or_not}
use Rattle.control_message.specs.declared.message.Message.{Message}
use Rattle.control_message.specs.declared.message.Message.TheVariants.{Icrq, Icrp, Ocrq, Cdn}
use Rattle.end_model.specs.declared.event.Event.{Event}
use Rattle.end_model.specs.declared.moves.Refused.{Refused}
use Rattle.end_model.specs.declared.moves.Move.TheVariants as move
use Rattle.end_names.specs.declared.role.Role.TheVariants.{Lns}
use Rattle.end_model.specs.Reading.{message_in, CallFault, call_fault_in}
use Rattle.end_model.specs.Tunnels.{Tunnel}
use Rattle.end_model.specs.Channels.{counts_taken}
use Rattle.end_model.specs.Moments.{is_closed}
use Rattle.end_model.specs.End.{End}
use Rattle.world_model.specs.World.{Sender, Deed, config_of}
use Rattle.step_laws.specs.Letters.{letters_of}
use Rattle.step_laws.specs.Moves.{with_letter, WhyRefused, IsNotGranted, IsOutgoing, IsReplyToNone, IsWrong}
use Rattle.epoch_machine.specs.Letters as letter
use Rattle.epoch_machine.specs.Tunnels.{Open}
use Rattle.epoch_machine.specs.Worlds.{World, all_rules, gives, took_one, takes, takes_open, answers_request}
use Rattle.epoch_machine.specs.Moves.{Delivers}
use Rattle.frame_laws.specs.Plain.{AreAlike, number_fault}
use Rattle.connection_laws.proofs.Alike.{no_stop_alike, request_alike, read_alike, read_faulty}
use Rattle.session_laws.proofs.Alike.{alike_giver}
use Rattle.connection_laws.specs.Accounts.{Part, Unmade, Opener, Acceptor, Account}
use Rattle.connection_laws.specs.Facts.{Accounts, IsNoStop, IsPart}
use Rattle.connection_laws.specs.Steps.{after, NextLetter, PlainLetter}
use Rattle.session_laws.specs.Names.{name, name_of}
use Rattle.session_laws.specs.Joined.{Ends, TunnelJoined}
use Rattle.session_laws.proofs.Births.{BirthsSame, else_follow}
use Rattle.session_laws.proofs.Keeps.{with_end, Laws, IsMade, Follows}
use Rattle.session_laws.proofs.Names.{name_some, known_name}
use Rattle.session_laws.proofs.Roles.{lac_not_lns, Giver, giver_of, fits_before}
use Rattle.session_laws.proofs.States.{not_closed}
use Rattle.session_laws.proofs.Heard.{Delivered, next_delivered, here_joined, open_phase}
use Rattle.session_laws.proofs.CallGround.{CallSame, no_call_follows}
use Rattle.session_laws.proofs.CallLaws.{world_holds, request_own}
use Rattle.session_laws.proofs.CallFacts.{zero_undrawn}
use Rattle.session_laws.proofs.CallSpeaks.{calls_take_and_give, hears_and_says, speaks_goes, account_is}

-- ---- in the machine

abbrev refused : World → ℕ → ℕ → World
refused w x own = gives (record (took_one w x) { calls = w.calls }) x (letter.Cdn 0 own)

-- a request for which there is no new name is refused
takes_refused : (w : World) (x s own : ℕ) → w.tunnels.phase x ≡ Open → 0 < own → w.calls.drawn own ≡ true
    → takes all_rules (took_one w x) x s (letter.Request own) own ≡ refused w x own
unfolding takes took_one takes_open answers_request
takes_refused w x s own phase some drawn = rw (phase, lt-ltb 0 own some, drawn) refl

refused_same : (w : World) (x own k : ℕ) → CallSame w (refused w x own) k
unfolding gives
refused_same w x own k = record { drawn = refl; tunnel = refl; remote = refl; state = refl }

refused_births : (w : World) (x own : ℕ) → BirthsSame w (refused w x own)
unfolding gives
refused_births w x own = record { count = refl; birth = λ k. refl; mate = λ k. refl; remote = λ k. refl }

-- ---- the move

module _ (laws : Laws) (accs : Accounts) (ends : Ends) (w : World) (n : ℕ) (e x : End) (sender : Option Sender) (moment : ℕ) (ev : Event)
    (m : Refused) (d : Deed) (h : IsMade accs ends w n e x sender moment ev (move.Refused m) d) where
  abbrev i : ℕ
  i = m.tunnel

  abbrev t : Tunnel
  t = h.moved.does.tunnel

  abbrev u : Tunnel
  u = with_letter m.remote (Cdn 0 m.result m.error) (record t { control = counts_taken t.control })

  abbrev header : ℕ
  header = h.moved.does.letter.header.session

  abbrev body : List ℕ
  body = h.moved.does.letter.body

  not_shut : is_closed t.control.state ≡ false
  not_shut = not_closed t.control.state 3 h.moved.does.open_is (omega arith)

  heard : PlainLetter accs n i sender h.moved.does.letter
  heard = laws.plain accs n e sender ev h.moved.within i t h.moved.does.there not_shut h.moved.does.letter h.moved.does.takes.next

  said : (q : Message) → message_in body ≡ Ok q → AreAlike heard.message q
  said q is = read_alike heard.message body heard.reads q is

  -- a faulty one is a request whose number can't be had
  abbrev Requests : CallFault → Type 0
  Requests f = (own : ℕ) × (serial : ℕ) × (number : List ℕ) × (heard.message ≡ Icrq own serial (Some number)) × (f ≡ number_fault own)

  faulty : (f : CallFault) → call_fault_in body ≡ Some f → Requests f
  faulty f fault = read_faulty heard.message body heard.reads f fault

  -- it closes no tunnel
  no_stop_by : WhyRefused e t header (message_in body) (call_fault_in body) m → IsNoStop heard.message
  no_stop_by (IsNotGranted remote serial calling is none remote_is denied) =
      no_stop_alike heard.message (Icrq remote serial calling) (said (Icrq remote serial calling) is) tt
  no_stop_by (IsOutgoing remote is remote_is result error) = no_stop_alike heard.message (Ocrq remote) (said (Ocrq remote) is) tt
  no_stop_by (IsReplyToNone remote is none lns remote_is result error) = no_stop_alike heard.message (Icrp remote) (said (Icrp remote) is) tt
  no_stop_by (IsWrong f fault remote_is result error) = subst IsNoStop (sym (faulty f fault).3) tt

  no_stop : IsNoStop heard.message
  no_stop = no_stop_by h.moved.does.why

  next : NextLetter accs n i sender header heard.message
  next = heard.next no_stop

  at_all : Delivered accs w n i sender header heard.message
  at_all = next_delivered accs ends w n e x sender moment ev (move.Refused m) d h i t h.moved.does.there not_shut header heard.message no_stop
      next

  -- ---- it is a request

  abbrev b : Account
  b = accs next.from.node next.from.tunnel

  giver : (q : Message) → message_in body ≡ Ok q → Giver b q
  giver q is = alike_giver b next.letter.message q (next.message_is ∙ said q is)
      (giver_of (ends next.from.node) b (length (accs n i).taken) next.letter (h.joined.fit next.from.node next.from.tunnel)
      next.there)

  -- who replies is an LNS's, and an LNS's tunnel goes to a LAC's
  no_reply : (remote : ℕ) → message_in body ≡ Ok (Icrp remote) → e.role ≡ Lns → ⊥
  no_reply remote is lns = by b.part refl (h.moved.within.accounts next.from.node next.from.tunnel).part
    where
      it : Giver b (Icrp remote)
      it = giver (Icrp remote) is

      by : (p : Part) → b.part ≡ p → IsPart accs next.from.node next.from.tunnel b p → ⊥
      by Unmade part ok = let there = next.there in let g = rw ok at there in let no : ⊥ = cc in no
      by Opener part ok = lac_not_lns it.role (it.fits.opens part) it.says
      by Acceptor part ok =
          let opens = (fits_before accs ends w n e x sender moment ev (move.Refused m) d h i).opens in
          let is_it : (accs n i).part ≡ Opener =
          ap₂ (λ p q. (accs p q).part) (sym next.goes) (sym next.learned) ∙ ok.part in
          lac_not_lns e.role (opens is_it) lns

  asks_by : WhyRefused e t header (message_in body) (call_fault_in body) m → (serial : ℕ) × (calling : Option (List ℕ)) × (heard.message ≡ Icrq m.remote serial calling)
  asks_by (IsNotGranted remote serial calling is none remote_is denied) =
      let r = request_alike heard.message remote serial calling (said (Icrq remote serial calling) is) in
      (serial, r.calling, r.is ∙ ap (λ q. Icrq q serial r.calling) (sym remote_is))
  asks_by (IsOutgoing remote is remote_is result error) =
      absurd (giver (Ocrq remote) is).says
  asks_by (IsReplyToNone remote is none lns remote_is result error) = absurd (no_reply remote is lns)
  asks_by (IsWrong f fault remote_is result error) =
      let r = faulty f fault in
      let own : m.remote ≡ r.0 = remote_is ∙ ap (λ (y : CallFault). unwrap_or y.session 0) r.4 in
      (r.1, Some r.2, r.3 ∙ ap (λ q. Icrq q r.1 (Some r.2)) (sym own))

  asks : (serial : ℕ) × (calling : Option (List ℕ)) × (heard.message ≡ Icrq m.remote serial calling)
  asks = asks_by h.moved.does.why

  del : Delivered accs w n i sender header (Icrq m.remote asks.0 asks.1)
  del = subst (Delivered accs w n i sender header) asks.2 at_all

  old : TunnelJoined w n i (accs n i) (Some t)
  old = here_joined accs ends w n e x sender moment ev (move.Refused m) d h i t h.moved.does.there

  abbrev X : ℕ
  X = name n i

  abbrev S : ℕ
  S = name del.from.node del.from.tunnel

  -- the call that asks, which was drawn
  abbrev own : ℕ
  own = name del.from.node m.remote

  abbrev v : World
  v = refused w X own

  drawn : w.calls.drawn own ≡ true
  drawn = (request_own w (world_holds laws.births w h.joined.moves h.joined.run) S 0 (length (accs n i).taken) own del.stands).1

  -- no call that asks has session 0
  known : 0 < m.remote
  known = ⊎_elim
      (λ (zero : m.remote ≡ 0).
      let none = zero_undrawn w accs del.from.node (ends del.from.node) (h.joined.nodes del.from.node del.fits) in
      absurd (true≢false (sym drawn ∙ ap (λ k. w.calls.drawn (name del.from.node k)) zero ∙ none)))
      (λ (other : m.remote ≡ 0 → ⊥). omega (arith, other))
      (same_or_not m.remote 0)

  named : name_of (accs n i).peer m.remote ≡ own
  named = ap (λ p. name_of p m.remote) del.node ∙ known_name del.from.node m.remote known

  pub refused_follows : Follows w n e x (move.Refused m) (after accs d) (with_end ends n x)
  refused_follows =
      no_call_follows accs ends w n e x sender moment ev (move.Refused m) d h (λ k j. refl) v t u
      (else_follow w v n e x (move.Refused m) tt (refused_births w X own) (ap (λ (y : End). y.role) h.moved.does.after)
      (ap (λ (y : End). y.session_ids) h.moved.does.after))
      (record {
        there = h.moved.does.there;
        put_is = ap (λ (y : End). y.tunnels) h.moved.does.after;
        role = ap (λ (y : End). y.role) h.moved.does.after;
        sessions = ap (λ (y : End). y.session_ids) h.moved.does.after;
        same = refl;
        waits = λ one. one;
        calls = λ k q kfits qfits. refused_same w X own (name k q);
      })
      (speaks_goes accs ends w n e x sender moment ev (move.Refused m) d h (λ k j. refl) v t u h.moved.does.there
      (letters_of e.role (config_of n 0 None false) (move.Refused m)) 1
      (rw named (calls_take_and_give w X w.calls (letter.Cdn 0 own) old.entered (λ y k. refl)))
      (hears_and_says d n e.role sender (move.Refused m) m.taken (accs n i) (after accs d n i) h.moved.deed del.is_open
      (account_is accs ends w n e x sender moment ev (move.Refused m) d h (λ k j. refl) v t u h.moved.does.there))
      refl (Delivers X S 0 (length (accs n i).taken) own)
      (del.is own ∙ takes_refused w X S own (old.phase ∙ open_phase t.control.state h.moved.does.open_is) (name_some del.from.node m.remote known) drawn))
