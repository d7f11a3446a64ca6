-- What holds goes on to hold where one more answer is known, and where epochs are made and none is entered.
use Rattle.std.proofs.Common.{◌≡◌, inl, inr, ⊎_elim, ℕ, true, false, List, [], ◌∷◌, refl, sym, ap, ◌∙◌, subst, Option, Some, None, arith}
use Rattle.std.specs.Prelude.{is_some}
use Rattle.std.specs.List.{AllByRecursion}
use Rattle.session_book.specs.declared.record.BookTunnel.{BookTunnel}
use Rattle.session_book.specs.Books.{Kept}
use Rattle.control_message.specs.declared.message.Message.{Message}
use Rattle.end_model.specs.declared.moves.Restored.{Restored}
use Rattle.end_model.specs.declared.moves.Froze.{Froze}
use Rattle.end_model.specs.declared.out.Origin.{Origin}
use Rattle.end_model.specs.declared.out.Origin.TheVariants as origin
use Rattle.end_model.specs.Tunnels.{Tunnel, Recovering, ByAttempt, ByAnswer}
use Rattle.world_model.specs.declared.packet.Packet.{Packet}
use Rattle.world_model.specs.declared.standing.Standing.{Standing}
use Rattle.world_model.specs.World.{World, standing_of, epoch_of}
use Rattle.channel_laws.specs.Accounts.{Part, Unmade, Opener, Acceptor, Renewed, Account, History}
use Rattle.channel_laws.specs.Facts.{makes, BookedOk, AnswerOk, AttemptOk, BeginsBy, AsGiver, AsPeer, IsRenewed, IsPart, AccountOk, ChannelOk, IsRecovered, LiveOk, BookOk, StandingOk, SaysRecovery, AsksFor, Suggests, Confirms, Refuses, OriginOk, PacketOk, QueryOk}

-- what is there stays there
still_some : (o q : Option Froze) → ((f : Froze) → o ≡ Some f → q ≡ Some f) → is_some o ≡ true → is_some q ≡ true
still_some None q keep is = let no : false ≡ true = is in absurd cc
still_some (Some f) q keep is = ap is_some (keep f refl)

-- ---- no epoch is entered, and no channel is lost

module _ (w v : World) (h : History) (epochs : (n i : ℕ) → epoch_of v n i ≡ epoch_of w n i) (losts : (n i : ℕ) → (standing_of v n i).lost ≡ (standing_of w n i).lost)
    (makes_as : (n c : ℕ) (f : Froze) → h.answers n c ≡ Some f → makes v n c ≡ makes w n c) where
  recovered_stays : (n i : ℕ) (r : Recovering) → IsRecovered w h n i r → IsRecovered v h n i r
  recovered_stays n i (ByAttempt c) (k, reset, named) = (
    k,
    λ is. (let q = reset is in
        let e = epochs n i in let m = makes_as (h.accounts n i 0).peer c.remote q.0 q.1 in let le = q.4 in (q.0, q.1, q.2, q.3, omega (arith, e, m, le), q.5)),
    named,
  )
  recovered_stays n i (ByAnswer a) k =
      (k.0, k.1, k.2, k.3, k.4, λ is. (let e = epochs n i in let m = makes_as n a.connection.local k.0 k.1 in let le = k.5 is in omega (arith, e, m, le)), k.6)

  pub live_stays : (n i : ℕ) (t : Tunnel) → LiveOk w h n i t → LiveOk v h n i t
  live_stays n i t ok = record {
    local = ok.local;
    made = ok.made;
    peer = ok.peer;
    channel = λ current. subst (λ e. ChannelOk h.accounts n i e (h.accounts n i e) t) (sym (epochs n i)) (ok.channel current);
    kept = λ current. losts n i ∙ ok.kept current;
    established = ok.established;
    some = ok.some;
    knows = ok.knows;
    learned = ok.learned;
    recovery = λ r is. recovered_stays n i r (ok.recovery r is);
    unattempted = ok.unattempted;
    calls = ok.calls;
    query = subst (λ e. QueryOk e t.query) (sym (epochs n i)) ok.query;
  }

-- ---- one more answer is known

module _ (w : World) (h : History) (answers : ℕ → ℕ → Option Froze) (kept : (n c : ℕ) (f : Froze) → h.answers n c ≡ Some f → answers n c ≡ Some f) where
  abbrev pub more : History
  more = record { accounts = h.accounts; attempts = h.attempts; answers = answers }

  renewed_more : (n i e : ℕ) (a : Account) → IsRenewed w h n i e a → IsRenewed w more n i e a
  renewed_more n i e a r = record {
    later = r.later;
    peer = r.peer;
    remote = r.remote;
    linked = r.linked;
    by = r.by;
    answer = r.answer;
    froze = r.froze;
    answered = kept r.by.node r.by.tunnel r.froze r.answered;
    makes_it = r.makes_it;
    begins = by r.begins;
    other = r.other;
    same = r.same;
    joined = r.joined;
    no_opening = r.no_opening;
  }
    where
      by : BeginsBy h n i a r.by.node r.by.tunnel r.froze → BeginsBy more n i a r.by.node r.by.tunnel r.froze
      by (AsGiver x y z p q s) = AsGiver x y z p q s
      by (AsPeer x y z p q s) = AsPeer x y z p q s

  part_more : (n i e : ℕ) (a : Account) (p : Part) → IsPart w h n i e a p → IsPart w more n i e a p
  part_more n i e a Unmade is = is
  part_more n i e a Opener is = is
  part_more n i e a Acceptor is = is
  part_more n i e a Renewed is = renewed_more n i e a is

  pub account_more : (n i e : ℕ) (a : Account) → AccountOk w h n i e a → AccountOk w more n i e a
  account_more n i e a ok = record {
    part = part_more n i e a a.part ok.part;
    some = ok.some;
    id = ok.id;
    node = ok.node;
    peer = ok.peer;
    remote = ok.remote;
    first_given = ok.first_given;
    first_taken = ok.first_taken;
    from_none = ok.from_none;
    spelled = ok.spelled;
    told = ok.told;
    taken = ok.taken;
    ignored = ok.ignored;
    entered = ok.entered;
    declined = ok.declined;
  }

  booked_more : (n : ℕ) (b : BookTunnel) → BookedOk h n b → BookedOk more n b
  booked_more n b ok = record { made = ok.made; peer = ok.peer; remote = ok.remote; knows = ok.knows; learned = ok.learned; late = ok.late }

  pub book_more : (n : ℕ) (k : Kept) → BookOk h n k → BookOk more n k
  book_more n k ok = record { tunnels = λ i b is. booked_more n b (ok.tunnels i b is); apart = ok.apart; calls = ok.calls }

  pub attempt_more : (n a : ℕ) (m : Restored) → AttemptOk h n a m → AttemptOk more n a m
  attempt_more n a m ok = record { own = ok.own; some = ok.some; fits = ok.fits; draw_fits = ok.draw_fits; booked = booked_more n m.tunnel ok.booked }

  pub answer_more : (n c : ℕ) (f : Froze) → AnswerOk w h n c f → AnswerOk w more n c f
  answer_more n c f ok = record {
    own = ok.own;
    some = ok.some;
    fits = ok.fits;
    draw_fits = ok.draw_fits;
    peer_fits = ok.peer_fits;
    peer_is = ok.peer_is;
    linked = ok.linked;
    attempt = ok.attempt;
    attempted = ok.attempted;
    attempts = ok.attempts;
    epoch_some = ok.epoch_some;
    epoch_made = ok.epoch_made;
    expect = ok.expect;
    send_from = ok.send_from;
  }

  recovered_more : (n i : ℕ) (r : Recovering) → IsRecovered w h n i r → IsRecovered w more n i r
  recovered_more n i (ByAttempt c) (k, reset, named) = (
    k,
    λ is. (let q = reset is in (q.0, kept (h.accounts n i 0).peer c.remote q.0 q.1, q.2, q.3, q.4, q.5)),
    ⊎_elim
        (λ none. inl none)
        (λ is. inr (still_some (h.answers (h.accounts n i 0).peer c.remote) (more.answers (h.accounts n i 0).peer c.remote) (λ f there. kept (h.accounts n i 0).peer c.remote f there) is))
        named,
  )
  recovered_more n i (ByAnswer a) k = (k.0, kept n a.connection.local k.0 k.1, k.2, k.3, k.4, k.5, k.6)

  pub live_more : (n i : ℕ) (t : Tunnel) → LiveOk w h n i t → LiveOk w more n i t
  live_more n i t ok = record {
    local = ok.local;
    made = ok.made;
    peer = ok.peer;
    channel = ok.channel;
    kept = ok.kept;
    established = ok.established;
    some = ok.some;
    knows = ok.knows;
    learned = ok.learned;
    recovery = λ r is. recovered_more n i r (ok.recovery r is);
    unattempted = ok.unattempted;
    calls = ok.calls;
    query = ok.query;
  }

  pub standing_more : (n i : ℕ) (s : Standing) → StandingOk h n i s → StandingOk more n i s
  standing_more n i s ok = record { none = ok.none; entered = ok.entered; made = ok.made; fits = ok.fits }

  some_more : (n c : ℕ) (o : Option Froze) → h.answers n c ≡ o → is_some o ≡ true → is_some (answers n c) ≡ true
  some_more n c None is some = absurd cc
  some_more n c (Some f) is some = ap is_some (kept n c f is)

  says_more : (p : Packet) (own named : ℕ) (m : Message) → SaysRecovery w h p own named m → SaysRecovery w more p own named m
  says_more p own named _ (AsksFor m o is peer id recovery draw) = AsksFor m o is peer id recovery draw
  says_more p own named _ (Suggests f o is to id suggested attempt) = Suggests f o (kept p.from own f is) to id suggested attempt
  says_more p own named _ (Confirms f response is attempt from le) = Confirms f response (kept p.to named f is) attempt from le
  says_more p own named _ (Refuses result error fit) = Refuses result error fit

  origin_more : (p : Packet) (o : Origin) → OriginOk w h p o → OriginOk w more p o
  origin_more p (origin.Control o) (inl copy) = inl copy
  origin_more p (origin.Control o) (inr r) = inr (record {
    none = r.none;
    ns = r.ns;
    nr = r.nr;
    some = r.some;
    epoch = r.epoch;
    tunnel = r.tunnel;
    asked = r.asked;
    result = r.result;
    error = r.error;
    fit = r.fit;
    are = r.are;
  })
  origin_more p (origin.Data session) ok = ok
  origin_more p (origin.Recovery own number empty) r = record {
    named = r.named;
    names = ⊎_elim (λ z. inl z) (λ q. inr (⊎_elim (λ s. inl s) (λ s. inr (some_more p.to r.named (h.answers p.to r.named) refl s)) q)) r.names;
    is = ⊎_elim (λ s. inl s) (λ s. inr (some_more p.from own (h.answers p.from own) refl s)) r.is;
    number = r.number;
    nr = r.nr;
    nr_fits = r.nr_fits;
    says = ⊎_elim (λ q. inl q) (λ q. inr (q.0, says_more p own r.named q.0 q.1, q.2, q.3)) r.says;
  }

  pub packets_more : (ps : List Packet) → AllByRecursion (PacketOk w h) ps → AllByRecursion (PacketOk w more) ps
  packets_more [] ok = tt
  packets_more (p ∷ ps) ok = (record { from = ok.0.from; to = ok.0.to; sent = origin_more p p.origin ok.0.sent }, packets_more ps ok.1)
