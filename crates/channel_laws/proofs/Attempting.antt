-- What holds goes on to hold where one more attempt is known, at the recovery of a tunnel that a start brings back.
use Rattle.std.proofs.Common.{◌≡◌, inl, inr, ⊎_elim, ℕ, true, List, [], ◌∷◌, refl, ap, Option, Some, None}
use Rattle.std.specs.Prelude.{is_some}
use Rattle.std.specs.List.{AllByRecursion}
use Rattle.session_book.specs.declared.record.BookTunnel.{BookTunnel}
use Rattle.session_book.specs.Books.{Kept}
use Rattle.control_message.specs.declared.message.Message.{Message}
use Rattle.end_model.specs.declared.moves.Restored.{Restored}
use Rattle.end_model.specs.declared.moves.Froze.{Froze}
use Rattle.end_model.specs.declared.out.Origin.{Origin}
use Rattle.end_model.specs.declared.out.Origin.TheVariants as origin
use Rattle.end_model.specs.Tunnels.{Tunnel, Recovering, ByAttempt, ByAnswer}
use Rattle.world_model.specs.declared.packet.Packet.{Packet}
use Rattle.world_model.specs.declared.standing.Standing.{Standing}
use Rattle.world_model.specs.World.{World}
use Rattle.channel_laws.specs.Accounts.{Part, Unmade, Opener, Acceptor, Renewed, Account, History}
use Rattle.channel_laws.specs.Facts.{BookedOk, AnswerOk, AttemptOk, BeginsBy, AsGiver, AsPeer, IsRenewed, IsPart, AccountOk, IsRecovered, LiveOk, BookOk, StandingOk, SaysRecovery, AsksFor, Suggests, Confirms, Refuses, OriginOk, PacketOk}

module _ (w : World) (h : History) (attempts : ℕ → ℕ → Option Restored)
    (kept : (n a : ℕ) (m : Restored) → h.attempts n a ≡ Some m → attempts n a ≡ Some m) where
  abbrev pub tried : History
  tried = record { accounts = h.accounts; attempts = attempts; answers = h.answers }

  renewed_tried : (n i e : ℕ) (a : Account) → IsRenewed w h n i e a → IsRenewed w tried n i e a
  renewed_tried n i e a r = record {
    later = r.later;
    peer = r.peer;
    remote = r.remote;
    linked = r.linked;
    by = r.by;
    answer = r.answer;
    froze = r.froze;
    answered = r.answered;
    makes_it = r.makes_it;
    begins = by r.begins;
    other = r.other;
    same = r.same;
    joined = r.joined;
    no_opening = r.no_opening;
  }
    where
      by : BeginsBy h n i a r.by.node r.by.tunnel r.froze → BeginsBy tried n i a r.by.node r.by.tunnel r.froze
      by (AsGiver x y z p q s) = AsGiver x y z p q s
      by (AsPeer x y z p q s) = AsPeer x y z p q s

  part_tried : (n i e : ℕ) (a : Account) (p : Part) → IsPart w h n i e a p → IsPart w tried n i e a p
  part_tried n i e a Unmade is = is
  part_tried n i e a Opener is = is
  part_tried n i e a Acceptor is = is
  part_tried n i e a Renewed is = renewed_tried n i e a is

  pub account_tried : (n i e : ℕ) (a : Account) → AccountOk w h n i e a → AccountOk w tried n i e a
  account_tried n i e a ok = record {
    part = part_tried n i e a a.part ok.part;
    some = ok.some;
    id = ok.id;
    node = ok.node;
    peer = ok.peer;
    remote = ok.remote;
    first_given = ok.first_given;
    first_taken = ok.first_taken;
    from_none = ok.from_none;
    spelled = ok.spelled;
    told = ok.told;
    taken = ok.taken;
    ignored = ok.ignored;
    entered = ok.entered;
    declined = ok.declined;
  }

  pub booked_tried : (n : ℕ) (b : BookTunnel) → BookedOk h n b → BookedOk tried n b
  booked_tried n b ok = record { made = ok.made; peer = ok.peer; remote = ok.remote; knows = ok.knows; learned = ok.learned; late = ok.late }

  pub book_tried : (n : ℕ) (k : Kept) → BookOk h n k → BookOk tried n k
  book_tried n k ok = record { tunnels = λ i b is. booked_tried n b (ok.tunnels i b is); apart = ok.apart; calls = ok.calls }

  pub attempt_tried : (n a : ℕ) (m : Restored) → AttemptOk h n a m → AttemptOk tried n a m
  attempt_tried n a m ok = record { own = ok.own; some = ok.some; fits = ok.fits; draw_fits = ok.draw_fits; booked = booked_tried n m.tunnel ok.booked }

  pub answer_tried : (n c : ℕ) (f : Froze) → AnswerOk w h n c f → AnswerOk w tried n c f
  answer_tried n c f ok = record {
    own = ok.own;
    some = ok.some;
    fits = ok.fits;
    draw_fits = ok.draw_fits;
    peer_fits = ok.peer_fits;
    peer_is = ok.peer_is;
    linked = ok.linked;
    attempt = ok.attempt;
    attempted = kept _ f.attempt ok.attempt ok.attempted;
    attempts = ok.attempts;
    epoch_some = ok.epoch_some;
    epoch_made = ok.epoch_made;
    expect = ok.expect;
    send_from = ok.send_from;
  }

  recovered_tried : (n i : ℕ) (r : Recovering) → IsRecovered w h n i r → IsRecovered w tried n i r
  recovered_tried n i (ByAttempt c) (k, reset, named) = ((k.0, kept n c.local k.0 k.1, k.2, k.3), reset, named)
  recovered_tried n i (ByAnswer a) k = k

  -- no attempt more is at the recovery of this tunnel
  pub live_tried : (n i : ℕ) (t : Tunnel) → ((a : ℕ) (m : Restored) → attempts n a ≡ Some m → m.tunnel.local ≡ i → h.attempts n a ≡ Some m)
      → LiveOk w h n i t → LiveOk w tried n i t
  live_tried n i t only ok = record {
    local = ok.local;
    made = ok.made;
    peer = ok.peer;
    channel = ok.channel;
    kept = ok.kept;
    established = ok.established;
    some = ok.some;
    knows = ok.knows;
    learned = ok.learned;
    recovery = λ r is. recovered_tried n i r (ok.recovery r is);
    unattempted = λ early a m is local. ok.unattempted early a m (only a m is local) local;
    calls = ok.calls;
    query = ok.query;
  }

  pub standing_tried : (n i : ℕ) (s : Standing) → StandingOk h n i s → StandingOk tried n i s
  standing_tried n i s ok = record { none = ok.none; entered = ok.entered; made = ok.made; fits = ok.fits }

  some_tried : (n a : ℕ) (o : Option Restored) → h.attempts n a ≡ o → is_some o ≡ true → is_some (attempts n a) ≡ true
  some_tried n a None is some = absurd cc
  some_tried n a (Some m) is some = ap is_some (kept n a m is)

  says_tried : (p : Packet) (own named : ℕ) (m : Message) → SaysRecovery w h p own named m → SaysRecovery w tried p own named m
  says_tried p own named _ (AsksFor m o is peer id recovery draw) = AsksFor m o (kept p.from own m is) peer id recovery draw
  says_tried p own named _ (Suggests f o is to id suggested attempt) = Suggests f o is to id suggested attempt
  says_tried p own named _ (Confirms f response is attempt from le) = Confirms f response is attempt from le
  says_tried p own named _ (Refuses result error fit) = Refuses result error fit

  origin_tried : (p : Packet) (o : Origin) → OriginOk w h p o → OriginOk w tried p o
  origin_tried p (origin.Control o) (inl copy) = inl copy
  origin_tried p (origin.Control o) (inr r) = inr (record {
    none = r.none;
    ns = r.ns;
    nr = r.nr;
    some = r.some;
    epoch = r.epoch;
    tunnel = r.tunnel;
    asked = ⊎_elim (λ q. inl q) (λ q. inr (q.0, kept p.to r.tunnel q.0 q.1, q.2)) r.asked;
    result = r.result;
    error = r.error;
    fit = r.fit;
    are = r.are;
  })
  origin_tried p (origin.Data session) ok = ok
  origin_tried p (origin.Recovery own number empty) r = record {
    named = r.named;
    names = ⊎_elim (λ z. inl z) (λ q. inr (⊎_elim (λ s. inl (some_tried p.to r.named (h.attempts p.to r.named) refl s))
        (λ s. inr s) q)) r.names;
    is = ⊎_elim (λ s. inl (some_tried p.from own (h.attempts p.from own) refl s)) (λ s. inr s) r.is;
    number = r.number;
    nr = r.nr;
    nr_fits = r.nr_fits;
    says = ⊎_elim (λ q. inl q) (λ q. inr (q.0, says_tried p own r.named q.0 q.1, q.2, q.3)) r.says;
  }

  pub packets_tried : (ps : List Packet) → AllByRecursion (PacketOk w h) ps → AllByRecursion (PacketOk w tried) ps
  packets_tried [] ok = tt
  packets_tried (p ∷ ps) ok = (record { from = ok.0.from; to = ok.0.to; sent = origin_tried p p.origin ok.0.sent }, packets_tried ps ok.1)
