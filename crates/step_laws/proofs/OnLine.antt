-- What a recovery tunnel sends is its own, and is so of the end that the step has by then.
use Rattle.std.proofs.Common.{◌≡◌, ℕ, ◌<◌, true, false, zero, suc, List, [], ◌∷◌, ◌++◌, refl, sym, ap, ◌∙◌, subst, Option, Some, None, length, arith}
use Rattle.std.specs.Prelude.{nat_le, slice_get}
use Rattle.std.specs.List.{AllByRecursion}
use Rattle.wire_base.specs.declared.letter.Letter.{Letter}
use Rattle.control_channel.specs.Channel.{Channel, let_go_at, next_to_go, nr_of}
use Rattle.send_window.specs.Window.{next_unsent}
use Rattle.send_window.specs.Outbox.{letter_at}
use Rattle.recovery_tunnel.specs.Connections.{ControlConnection}
use Rattle.end_model.specs.declared.tunnel.Call.{Call}
use Rattle.end_model.specs.declared.event.Event.{Event}
use Rattle.end_model.specs.declared.out.Out.{Out}
use Rattle.end_model.specs.declared.out.Out.TheVariants.{Send, Up, Gone, Drop, Cause}
use Rattle.end_model.specs.declared.out.Origin.{Origin}
use Rattle.end_model.specs.declared.out.Origin.TheVariants as origin
use Rattle.end_model.specs.declared.moves.Move.{Move}
use Rattle.control_message.specs.declared.message.Message.{Message}
use Rattle.end_model.specs.Tunnels.{Turn, Recovering, ByAttempt, ByAnswer, connection_of, with_connection, mode_of, is_current}
use Rattle.end_model.specs.Events.{tunnel_after}
use Rattle.end_model.specs.Turn.{with_output}
use Rattle.end_model.specs.Recovering.{RecoveryTurn, recovery_sends, recovery_letter, Line, goes_once, goes_by, all_go, goes, acknowledges_on}
use Rattle.end_model.specs.End.{End}
use Rattle.step_laws.specs.Letters.{IsOfRecovery, IsRecoveryLetter, Carries, ALetter, Nothing, AFrame, InRecovery, NothingInRecovery}
use Rattle.step_laws.specs.Steps.{AreKept}
use Rattle.step_laws.proofs.Lists.{all_push, among_left, branch}
use Rattle.step_laws.proofs.Tells.{Tells}
use Rattle.step_laws.proofs.Outputs.{frames_more}
use Rattle.step_laws.proofs.Settling.{OutOk}
use Rattle.step_laws.proofs.Leaving.{Whole}
use Rattle.l2tp_header.specs.Spelling.{control_bytes}
use Rattle.recv_window.specs.Window.{on_wire}
use Rattle.avp_codec.specs.Spelling.{spelling}
use Rattle.control_message.specs.Pairs.{pairs_of}

-- with another channel
abbrev pub on_channel : Channel → Recovering → Recovering
on_channel channel r = with_connection (record (connection_of r) { channel = channel }) r

-- what is found in a list is one of it
pub got_all : {X : Type 0} (P : X → Type 0) (xs : List X) (n : ℕ) (x : X) → AllByRecursion P xs → slice_get xs n ≡ Some x → P x
got_all P [] n x h got = absurd cc
got_all P (y ∷ xs) zero x h got = let same : y ≡ x = cc in subst P same h.0
got_all P (y ∷ xs) (suc n) x h got = got_all P xs n x h.1 got

-- ---- what goes

-- the connection is the same but for its channel, which holds the same letters, and the turn but for its outputs
pub record IsSent (l k : Line) : Type 0 where
  pub same : k.connection ≡ record l.connection { channel = k.connection.channel }
  pub letters : k.connection.channel.outbox.letters ≡ l.connection.channel.outbox.letters
  pub only : k.turn ≡ record l.turn { outputs = k.turn.outputs }

letter_only : (c : ControlConnection) (number : ℕ) (o : Option Letter) (t : Turn) → recovery_letter c number o t ≡ record t { outputs = (recovery_letter c number o t).outputs }
unfolding recovery_letter with_output
letter_only c number None t = refl
letter_only c number (Some l) t =
    branch (λ (u : Turn). u ≡ record t { outputs = u.outputs }) (nat_le (length l.avps) 65523) _ _ (λ fits. refl) (λ long. refl)

gone_letters : (c : Channel) (moment : ℕ) → (let_go_at c moment).outbox.letters ≡ c.outbox.letters
gone_letters c moment = branch (λ (x : Channel). x.outbox.letters ≡ c.outbox.letters) c.frozen _ _ (λ frozen. refl) (λ free. refl)

-- Nr has 16 bits
small_nr : (c : Channel) → nr_of c < 65536
small_nr c = omega arith

once_sent : (number : ℕ) (l : Line) → IsSent l (goes_once number l)
unfolding goes_once
once_sent number l = record {
  same = refl;
  letters = gone_letters l.connection.channel l.turn.on.moment;
  only = letter_only l.connection number (letter_at l.connection.channel.outbox number) l.turn;
}

sent_on : (l k j : Line) → IsSent l k → IsSent k j → IsSent l j
sent_on l k j h n = record {
  same = n.same ∙ ap (λ (c : ControlConnection). record c { channel = j.connection.channel }) h.same;
  letters = n.letters ∙ h.letters;
  only = n.only ∙ ap (λ (t : Turn). record t { outputs = j.turn.outputs }) h.only;
}

by_sent : (most : ℕ) (o : Option ℕ) (l : Line) → IsSent l (goes_by most o l)
unfolding goes_by
by_sent zero None l = record { same = refl; letters = refl; only = refl }
by_sent (suc most) None l = record { same = refl; letters = refl; only = refl }
by_sent zero (Some number) l = record { same = refl; letters = refl; only = refl }
by_sent (suc most) (Some number) l =
    let gone = goes_once number l in
    sent_on l gone _ (once_sent number l) (by_sent most (next_to_go gone.connection.channel) gone)

-- ---- it stays so

module _ (e : End) (kept : AreKept e) (moment : ℕ) (ev : Event) (letters : List Letter) (calls : List (ℕ × Call)) (i : ℕ) (some : i ≡ 0 → ⊥) where
  abbrev pub WholeAt : Option Recovering → Turn → Type 0
  WholeAt recovery t = Whole e kept moment ev letters calls recovery i some t

  pub more_out : (recovery : Option Recovering) (o : Out) (t : Turn) → OutOk e.role e.config (tunnel_after t letters calls recovery) t.moves o → Tells e moment ev o
      → WholeAt recovery t → WholeAt recovery (with_output o t)
  unfolding with_output
  more_out recovery o t is so h = record {
    chain = h.chain;
    outs = all_push _ t.outputs o h.outs is;
    tells = all_push _ t.outputs o h.tells so;
    frames = frames_more t.outputs _ t.moves h.frames;
    stays = h.stays;
    frozen = h.frozen;
    recovering = h.recovering;
    held = h.held;
    fits = h.fits;
  }

  -- a connection of a recovery tunnel has its ids
  abbrev pub IsAlike : Recovering → ControlConnection → Type 0
  IsAlike r c = (c.local ≡ (connection_of r).local) × (c.remote ≡ (connection_of r).remote)

  pub letter_ok : (r : Recovering) (c : ControlConnection) → IsAlike r c → (number : ℕ) (o : Option Letter) (t : Turn)
      → ((l : Letter) → o ≡ Some l → IsRecoveryLetter e.role e.config i r l) → WholeAt (Some r) t → WholeAt (Some r) (recovery_letter c number o t)
  unfolding recovery_letter
  letter_ok r c alike number None t says h = h
  letter_ok r c alike number (Some l) t says h =
      let is = says l refl in
      branch (WholeAt (Some r)) (nat_le (length l.avps) 65523) _ _
      (λ fits. more_out (Some r) _ t (
        refl,
        InRecovery r refl is.0 (subst (λ n. IsOfRecovery e.role e.config n r is.0) (sym h.stays.0) is.1) number (nr_of c.channel) (small_nr c.channel)
            (ap (λ n. origin.Recovery n number false) alike.0)
            (ap (λ (x : Letter). control_bytes c.remote x.session (on_wire number) (nr_of c.channel) x.avps) is.2
            ∙ ap (λ n. control_bytes n 0 (on_wire number) (nr_of c.channel) (spelling (pairs_of is.0))) alike.1),
      ) tt h)
      (λ long. h)

  once_ok : (r : Recovering) (number : ℕ) (l : Line) → IsAlike r l.connection → AllByRecursion (IsRecoveryLetter e.role e.config i r) l.connection.channel.outbox.letters
      → WholeAt (Some r) l.turn → WholeAt (Some r) (goes_once number l).turn
  unfolding goes_once
  once_ok r number l alike says h =
      letter_ok r l.connection alike number (letter_at l.connection.channel.outbox number) l.turn
      (λ x got. got_all (IsRecoveryLetter e.role e.config i r) l.connection.channel.outbox.letters _ x says got) h

  by_ok : (r : Recovering) (most : ℕ) (o : Option ℕ) (l : Line) → IsAlike r l.connection
      → AllByRecursion (IsRecoveryLetter e.role e.config i r) l.connection.channel.outbox.letters → WholeAt (Some r) l.turn → WholeAt (Some r) (goes_by most o l).turn
  unfolding goes_by
  by_ok r zero None l alike says h = h
  by_ok r (suc most) None l alike says h = h
  by_ok r zero (Some number) l alike says h = h
  by_ok r (suc most) (Some number) l alike says h =
      let gone = goes_once number l in
      let s = once_sent number l in
      by_ok r most (next_to_go gone.connection.channel) gone
      (ap (λ (c : ControlConnection). c.local) s.same ∙ alike.0, ap (λ (c : ControlConnection). c.remote) s.same ∙ alike.1)
      (subst (AllByRecursion (IsRecoveryLetter e.role e.config i r)) (sym s.letters) says)
      (once_ok r number l alike says h)

  -- a recovery tunnel with a channel, in a turn
  abbrev line_of : Channel → Recovering → Turn → Line
  line_of channel r t = record { connection = connection_of (on_channel channel r); turn = t }

  -- what goes is so, by a recovery tunnel of the same ids
  pub goes_ok : (r q : Recovering) (channel : Channel) (t : Turn) → IsAlike r (connection_of (on_channel channel q))
      → AllByRecursion (IsRecoveryLetter e.role e.config i r) channel.outbox.letters → WholeAt (Some r) t → WholeAt (Some r) (goes (on_channel channel q) t).turn
  unfolding goes
  goes_ok r (ByAttempt c) channel t alike says h = by_ok r 3 _ (line_of channel (ByAttempt c) t) alike says h
  goes_ok r (ByAnswer a) channel t alike says h = by_ok r 3 _ (line_of channel (ByAnswer a) t) alike says h

  -- what is left of it, and of the turn
  pub record Went (q : Recovering) (before : Channel) (t : Turn) (g : RecoveryTurn) : Type 0 where
    pub channel : Channel
    pub is : g.recovery ≡ Some (on_channel channel q)
    pub holds : channel.outbox.letters ≡ before.outbox.letters
    pub only : g.turn ≡ record t { outputs = g.turn.outputs }

  pub goes_went : (q : Recovering) (channel : Channel) (t : Turn) → Went q channel t (goes (on_channel channel q) t)
  unfolding goes
  goes_went (ByAttempt c) channel t =
      let l = line_of channel (ByAttempt c) t in
      let s = by_sent 3 (next_to_go channel) l in
      record {
        channel = (all_go l).connection.channel;
        is = ap (λ (d : ControlConnection). Some (ByAttempt d)) s.same;
        holds = s.letters;
        only = s.only;
      }
  goes_went (ByAnswer a) channel t =
      let l = line_of channel (ByAnswer a) t in
      let s = by_sent 3 (next_to_go channel) l in
      record {
        channel = (all_go l).connection.channel;
        is = ap (λ (d : ControlConnection). Some (ByAnswer (record a { connection = d }))) s.same;
        holds = s.letters;
        only = s.only;
      }

  -- the acknowledgement alone
  abbrev pub ack_of : Recovering → ℕ → Out
  ack_of r peer = let c = connection_of r in recovery_sends peer c 0 (next_unsent c.channel.outbox.window) true []

  pub ack_ok : (r q : Recovering) (t : Turn) → IsAlike r (connection_of q) → WholeAt (Some r) t
      → OutOk e.role e.config (tunnel_after t letters calls (Some r)) t.moves (ack_of q t.control.peer)
  ack_ok r q t alike h = (
    refl,
    NothingInRecovery r refl (next_unsent (connection_of q).channel.outbox.window) (nr_of (connection_of q).channel) (small_nr (connection_of q).channel)
        (ap (λ n. origin.Recovery n (next_unsent (connection_of q).channel.outbox.window) true) alike.0) (rw alike.1 refl),
  )

  pub acknowledged_ok : (r : Recovering) (t : Turn) → WholeAt (Some r) t → WholeAt (Some r) (acknowledges_on r t).turn
  unfolding acknowledges_on
  acknowledged_ok r t h = more_out (Some r) _ t (ack_ok r r t (refl, refl) h) tt h

  -- what was sent stays so where the channel of the recovery tunnel alone changes, and more moves are made
  line_says : (r : Recovering) (channel : Channel) (n : ℕ) (m : Message) → IsOfRecovery e.role e.config n r m → IsOfRecovery e.role e.config n (on_channel channel r) m
  line_says (ByAttempt c) channel n m h = h
  line_says (ByAnswer a) channel n m h = h

  line_ids : (r : Recovering) (channel : Channel)
      → ((connection_of (on_channel channel r)).local ≡ (connection_of r).local) × ((connection_of (on_channel channel r)).remote ≡ (connection_of r).remote)
  line_ids (ByAttempt c) channel = (refl, refl)
  line_ids (ByAnswer a) channel = (refl, refl)

  line_mode : (r : Recovering) (channel : Channel) → is_current (mode_of (Some (on_channel channel r))) ≡ is_current (mode_of (Some r))
  line_mode (ByAttempt c) channel = refl
  line_mode (ByAnswer a) channel = refl

  carries_line : (r : Recovering) (channel : Channel) (u : Turn) (more : List Move) (bytes : List ℕ) (o : Origin)
      → Carries e.role e.config (tunnel_after u letters calls (Some r)) u.moves bytes o
      → Carries e.role e.config (tunnel_after u letters calls (Some (on_channel channel r))) (u.moves ++ more) bytes o
  carries_line r channel u more bytes o (ALetter current l number small kept_l is said) = ALetter (line_mode r channel ∙ current) l number small kept_l is said
  carries_line r channel u more bytes o (Nothing current number is said) = Nothing (line_mode r channel ∙ current) number is said
  carries_line r channel u more bytes o (AFrame f sent tunnel peer number is said) = AFrame f (among_left _ u.moves more sent) tunnel peer number is said
  carries_line r channel u more bytes o (InRecovery q has m says number nr small is said) =
      let same : q ≡ r = let h : Some r ≡ Some q = has in cc in
      let ids = line_ids r channel in
      InRecovery (on_channel channel r) refl m (line_says r channel u.control.local m (subst (λ (x : Recovering). IsOfRecovery e.role e.config u.control.local x m) same says)) number nr small
      (is ∙ ap (λ n. origin.Recovery n number false) (ap (λ (x : Recovering). (connection_of x).local) same ∙ sym ids.0))
      (said ∙ ap (λ n. control_bytes n 0 (on_wire number) nr (spelling (pairs_of m))) (ap (λ (x : Recovering). (connection_of x).remote) same ∙ sym ids.1))
  carries_line r channel u more bytes o (NothingInRecovery q has number nr small is said) =
      let same : q ≡ r = let h : Some r ≡ Some q = has in cc in
      let ids = line_ids r channel in
      NothingInRecovery (on_channel channel r) refl number nr small
      (is ∙ ap (λ n. origin.Recovery n number true) (ap (λ (x : Recovering). (connection_of x).local) same ∙ sym ids.0))
      (said ∙ ap (λ n. control_bytes n 0 (on_wire number) nr []) (ap (λ (x : Recovering). (connection_of x).remote) same ∙ sym ids.1))

  pub out_line : (r : Recovering) (channel : Channel) (u : Turn) (more : List Move) (o : Out)
      → OutOk e.role e.config (tunnel_after u letters calls (Some r)) u.moves o → OutOk e.role e.config (tunnel_after u letters calls (Some (on_channel channel r))) (u.moves ++ more) o
  out_line r channel u more (Send p bytes o) h = (h.0, carries_line r channel u more bytes o h.1)
  out_line r channel u more (Up session side frame) h = h
  out_line r channel u more (Gone session) h = h
  out_line r channel u more (Drop w) h = h
  out_line r channel u more (Cause x) h = h
