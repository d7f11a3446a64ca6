-- What a recovery tunnel sends in a step is a message of an attempt or of an answer, and is written by the codec's rules.
use Rattle.std.proofs.Common.{◌≡◌, ◌⊎◌, inl, inr, ⊎_elim, ℕ, ◌^◌, ◌%◌, ◌<◌, true, false, List, [], refl, sym, ap, ap₂, ◌∙◌, subst, Some, None, arith}
use Rattle.std.specs.Prelude.{is_some}
use Rattle.id_table.specs.Ids.{at}
use Rattle.l2tp_header.specs.Spelling.{control_bytes}
use Rattle.avp_codec.specs.Spelling.{spelling}
use Rattle.control_message.specs.declared.message.Message.{Message}
use Rattle.control_message.specs.declared.message.Message.TheVariants.{Sccrq, Sccrp, Scccn}
use Rattle.control_message.specs.declared.message.Suggested.{Suggested}
use Rattle.control_message.specs.Pairs.{pairs_of, IsWritten}
use Rattle.recv_window.specs.Window.{on_wire}
use Rattle.recovery_tunnel.specs.Connections.{ControlConnection, result_code, error_code, stop_of}
use Rattle.recovery_tunnel.specs.Attempts.{request_of}
use Rattle.recovery_tunnel.specs.Answers.{Answering, reply_of}
use Rattle.end_names.specs.Names.{address_of, node_of}
use Rattle.end_model.specs.declared.moves.Restored.{Restored}
use Rattle.end_model.specs.declared.moves.Froze.{Froze}
use Rattle.end_model.specs.declared.out.Origin.{Origin}
use Rattle.end_model.specs.declared.out.Origin.TheVariants as origin
use Rattle.end_model.specs.Messages.{opening_of}
use Rattle.end_model.specs.Tunnels.{Tunnel, Recovering, ByAttempt, ByAnswer, connection_of}
use Rattle.end_model.specs.End.{End}
use Rattle.world_model.specs.declared.packet.Packet.{Packet}
use Rattle.world_model.specs.World.{World, epoch_of, packet_from}
use Rattle.step_laws.specs.Letters.{AsksRecovery, ConfirmsRecovery, AnswersRecovery, StopsRecovery, IsOfRecovery}
use Rattle.frame_laws.proofs.RecoveryLetters.{asked_for, small_request, stop_fits}
use Rattle.connection_laws.proofs.Written.{asks_short, responds_sized, opening_written, node_again}
use Rattle.channel_laws.specs.Accounts.{History}
use Rattle.channel_laws.specs.Facts.{makes, AttemptOk, AnswerOk, IsRecovered, LiveOk, EndOk, SaysRecovery, AsksFor, Suggests, Confirms, Refuses, OriginOk, PacketOk, Holds}

-- ---- messages

-- what a recovery tunnel of a node says, and how it is spelled
pub record IsSaid (w : World) (h : History) (p : Packet) (own named : ℕ) (m : Message) : Type 0 where
  pub message : Message
  pub says : SaysRecovery w h p own named message
  pub written : IsWritten message
  pub same : pairs_of message ≡ pairs_of m

module _ (w : World) (h : History) (holds : Holds w h) (n : ℕ) (e : End) (ok : EndOk w h n e) (i : ℕ) (t : Tunnel) (there : at e.tunnels i ≡ Some t) (peer : ℕ)
    (peer_is : peer ≡ t.control.peer) (bytes : List ℕ) (o : Origin) where
  live : LiveOk w h n i t
  live = ok.live i t there

  abbrev q : ℕ
  q = (h.accounts n i 0).peer

  -- the peer's node
  goes : node_of peer ≡ q
  goes = ap node_of (peer_is ∙ live.peer) ∙ node_again q (holds.accounts n i 0).peer

  abbrev p : Packet
  p = packet_from n (node_of peer) bytes o 0

  -- ---- an attempt

  module _ (c : ControlConnection) (has : t.recovery ≡ Some (ByAttempt c)) where
    tried : IsRecovered w h n i (ByAttempt c)
    tried = live.recovery (ByAttempt c) has

    abbrev m0 : Restored
    m0 = tried.0.0

    tried_ok : AttemptOk h n c.local m0
    tried_ok = holds.attempts n c.local m0 tried.0.1

    draw_small : c.draw < 2 ^ 32
    draw_small = let lt = tried_ok.draw_fits in let same = tried.0.3 in omega (arith, lt, same)

    id_small : i < 2 ^ 32
    id_small = let lt = (holds.accounts n i 0).id live.made in omega (arith, lt)

    asks : (m : Message) → AsksRecovery e.role e.config t.control.local c.local c.draw m → IsSaid w h p c.local c.remote m
    asks m a =
        let base = opening_written e.role e.config a.challenge None c.local (let lt = ok.node in let same = ok.number in omega (arith, lt, same)) tried_ok.some tried_ok.fits
        (asks_short e.config.secret a.challenge a.asks) tt in
        let all = opening_of e.role e.config a.challenge None c.local in
        let plain = request_of c.local a.named c.draw all in
        let sender_is = a.sender ∙ live.local in
        let low = id_small in
        record {
          message = Sccrq (asked_for plain (record { sender = a.named.sender; receiver = a.named.receiver % 4294967296 }));
          says = AsksFor m0 _ tried.0.1
              ((holds.attempts n c.local m0 tried.0.1).booked.peer ∙ (ap (λ j. address_of (h.accounts n j 0).peer) tried.0.2 ∙ ap address_of (sym goes)))
              refl (record { sender = a.named.sender; receiver = a.named.receiver % 4294967296 }, refl, sender_is ∙ sym tried.0.2) (ap (λ x. Some x) (sym tried.0.3));
          written = (
            record {
              version = base.version;
              framing = base.framing;
              name = base.name;
              tunnel = base.tunnel;
              tunnel_not_zero = base.tunnel_not_zero;
              window = base.window;
              window_not_zero = base.window_not_zero;
              failover = base.failover;
              challenge = base.challenge;
              response = tt;
              recovery = (omega (arith, sender_is, low), omega arith);
              suggested = tt;
              attempt = draw_small;
            },
            refl,
            refl,
          );
          same = small_request plain a.named.sender a.named.receiver ∙ ap pairs_of (sym a.is);
        }

    confirms : (m : Message) → ConfirmsRecovery e.config c.reset m → IsSaid w h p c.local c.remote m
    confirms m a =
        let by = tried.1 a.was_reset in
        record {
          message = Scccn a.response;
          says = Confirms by.0 a.response (ap (λ z. h.answers z c.remote) goes ∙ by.1) by.3 (sym by.5)
              (let same = ap (λ z. makes w z c.remote) goes in let le = by.4 in let here = ap (λ z. epoch_of w n z) by.2 in omega (arith, same, le, here));
          written = responds_sized 3 e.config.secret a.asked a.response a.responds;
          same = ap pairs_of (sym a.is);
        }

    stops : (m : Message) → StopsRecovery c m → IsSaid w h p c.local c.remote m
    stops m a =
        let fit = stop_fits a.0 in
        let lt = tried_ok.fits in
        record {
          message = stop_of c.local a.0;
          says = Refuses (result_code a.0) (error_code a.0) fit;
          written = (omega (arith, lt), fit.0, fit.1);
          same = ap pairs_of (sym a.1);
        }

    pub said_by_attempt : (m : Message) → IsOfRecovery e.role e.config t.control.local (ByAttempt c) m → IsSaid w h p c.local c.remote m
    said_by_attempt m says = ⊎_elim (λ a. asks m a) (λ k. ⊎_elim (λ a. confirms m a) (λ a. stops m a) k) says

    named_by_attempt : (c.remote ≡ 0) ⊎ ((is_some (h.attempts (node_of peer) c.remote) ≡ true) ⊎ (is_some (h.answers (node_of peer) c.remote) ≡ true))
    named_by_attempt = ⊎_elim (λ none. inl none) (λ is. inr (inr (ap (λ z. is_some (h.answers z c.remote)) goes ∙ is))) tried.2

  -- ---- an answer

  module _ (a : Answering) (has : t.recovery ≡ Some (ByAnswer a)) where
    answered : IsRecovered w h n i (ByAnswer a)
    answered = live.recovery (ByAnswer a) has

    abbrev f : Froze
    f = answered.0

    answered_ok : AnswerOk w h n a.connection.local f
    answered_ok = holds.answers n a.connection.local f answered.1

    to_asker : node_of peer ≡ node_of f.peer
    to_asker = goes ∙ (ap (λ j. (h.accounts n j 0).peer) (sym answered.2) ∙ answered_ok.linked.forth_peer)

    replies : (m : Message) → AnswersRecovery e.role e.config a.connection.local a.connection.draw a.suggested m → IsSaid w h p a.connection.local a.connection.remote m
    replies m r =
        let base = opening_written e.role e.config r.challenge r.response a.connection.local (let lt = ok.node in let same = ok.number in omega (arith, lt, same))
        answered_ok.some answered_ok.fits (asks_short e.config.secret r.challenge r.asks) (responds_sized 2 e.config.secret r.asked r.response r.responds) in
        let ns = ap (λ (s : Suggested). s.ns) answered.4 in
        let nr = ap (λ (s : Suggested). s.nr) answered.4 in
        let low = answered_ok.expect in
        let lower = answered_ok.send_from in
        let drawn = answered_ok.draw_fits in
        let draw = answered.6 in
        record {
          message = Sccrp (reply_of a.connection.local a.suggested a.connection.draw (opening_of e.role e.config r.challenge r.response a.connection.local));
          says = Suggests f _ answered.1 to_asker refl (ap (λ s. Some s) answered.4) (sym answered.3);
          written = (
            record {
              version = base.version;
              framing = base.framing;
              name = base.name;
              tunnel = base.tunnel;
              tunnel_not_zero = base.tunnel_not_zero;
              window = base.window;
              window_not_zero = base.window_not_zero;
              failover = base.failover;
              challenge = base.challenge;
              response = base.response;
              recovery = tt;
              suggested = (omega (arith, ns, low), omega (arith, nr, lower));
              attempt = omega (arith, drawn, draw);
            },
            refl,
          );
          same = ap pairs_of (sym r.is);
        }

    refuses : (m : Message) → StopsRecovery a.connection m → IsSaid w h p a.connection.local a.connection.remote m
    refuses m s =
        let fit = stop_fits s.0 in
        let lt = answered_ok.fits in
        record {
          message = stop_of a.connection.local s.0;
          says = Refuses (result_code s.0) (error_code s.0) fit;
          written = (omega (arith, lt), fit.0, fit.1);
          same = ap pairs_of (sym s.1);
        }

    pub said_by_answer : (m : Message) → IsOfRecovery e.role e.config t.control.local (ByAnswer a) m → IsSaid w h p a.connection.local a.connection.remote m
    said_by_answer m says = ⊎_elim (λ r. replies m r) (λ s. refuses m s) says

    named_by_answer : is_some (h.attempts (node_of peer) a.connection.remote) ≡ true
    named_by_answer = ap₂ (λ x y. is_some (h.attempts x y)) to_asker (sym answered.3) ∙ ap is_some answered_ok.attempted

  -- ---- either

  said_by : (r : Recovering) → t.recovery ≡ Some r → (m : Message) → IsOfRecovery e.role e.config t.control.local r m
      → IsSaid w h p (connection_of r).local (connection_of r).remote m
  said_by (ByAttempt c) has m says = said_by_attempt c has m says
  said_by (ByAnswer a) has m says = said_by_answer a has m says

  names_by : (r : Recovering) → t.recovery ≡ Some r → ((connection_of r).remote ≡ 0)
      ⊎ ((is_some (h.attempts (node_of peer) (connection_of r).remote) ≡ true) ⊎ (is_some (h.answers (node_of peer) (connection_of r).remote) ≡ true))
  names_by (ByAttempt c) has = named_by_attempt c has
  names_by (ByAnswer a) has = inr (inl (named_by_answer a has))

  is_by : (r : Recovering) → t.recovery ≡ Some r → (is_some (h.attempts n (connection_of r).local) ≡ true) ⊎ (is_some (h.answers n (connection_of r).local) ≡ true)
  is_by (ByAttempt c) has = inl (ap is_some (tried c has).0.1)
  is_by (ByAnswer a) has = inr (ap is_some (answered a has).1)

  fits_to : node_of peer < 256
  fits_to = let same = goes in let lt = (holds.accounts n i 0).peer in omega (arith, same, lt)

  -- a message
  pub recovery_sent : (r : Recovering) → t.recovery ≡ Some r → (m : Message) → IsOfRecovery e.role e.config t.control.local r m → (number nr : ℕ) → nr < 65536
      → o ≡ origin.Recovery (connection_of r).local number false
      → bytes ≡ control_bytes (connection_of r).remote 0 (on_wire number) nr (spelling (pairs_of m)) → PacketOk w h p
  recovery_sent r has m says number nr small is are =
      let s = said_by r has m says in
      record {
        from = ok.node;
        to = fits_to;
        sent = subst (OriginOk w h p) (sym is) (record {
          named = (connection_of r).remote;
          names = names_by r has;
          is = is_by r has;
          number = number;
          nr = nr;
          nr_fits = small;
          says = inr (s.message, s.says, s.written, are ∙ ap (λ ps. control_bytes (connection_of r).remote 0 (on_wire number) nr (spelling ps)) (sym s.same));
        });
      }

  -- or an acknowledgement alone
  pub recovery_acknowledged : (r : Recovering) → t.recovery ≡ Some r → (number nr : ℕ) → nr < 65536 → o ≡ origin.Recovery (connection_of r).local number true
      → bytes ≡ control_bytes (connection_of r).remote 0 (on_wire number) nr [] → PacketOk w h p
  recovery_acknowledged r has number nr small is are = record {
    from = ok.node;
    to = fits_to;
    sent = subst (OriginOk w h p) (sym is) (record {
      named = (connection_of r).remote;
      names = names_by r has;
      is = is_by r has;
      number = number;
      nr = nr;
      nr_fits = small;
      says = inl (refl, are);
    });
  }
