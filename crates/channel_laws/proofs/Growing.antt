-- What holds of channels, answers and packets goes on to hold as epochs are made and entered, as long as the history stays.
use Rattle.std.proofs.Common.{◌≡◌, inl, inr, ⊎_elim, ℕ, ◌≤◌, Bool, List, [], ◌∷◌, ◌∙◌, Some, arith}
use Rattle.std.specs.List.{AllByRecursion}
use Rattle.control_message.specs.declared.message.Message.{Message}
use Rattle.end_model.specs.declared.moves.Froze.{Froze}
use Rattle.end_model.specs.declared.out.Origin.{Origin}
use Rattle.end_model.specs.declared.out.Origin.TheVariants as origin
use Rattle.world_model.specs.declared.packet.Packet.{Packet}
use Rattle.world_model.specs.World.{World, standing_of, epoch_of}
use Rattle.channel_laws.specs.Accounts.{Part, Unmade, Opener, Acceptor, Renewed, Account, History}
use Rattle.channel_laws.specs.Facts.{makes, AnswerOk, IsRenewed, IsPart, AccountOk, SaysRecovery, AsksFor, Suggests, Confirms, Refuses, IsRecovery, OriginOk, PacketOk}

-- a later world: epochs rise, and an answer makes the epoch that it made
pub record Grows (w v : World) (h : History) : Type 0 where
  pub epochs : (n i : ℕ) → epoch_of w n i ≤ epoch_of v n i
  pub made : (n i : ℕ) → (standing_of w n i).made ≤ (standing_of v n i).made
  pub makes : (n c : ℕ) (f : Froze) → h.answers n c ≡ Some f → makes v n c ≡ makes w n c

module _ (w v : World) (h : History) (g : Grows w v h) where
  answer_grows : (n c : ℕ) (f : Froze) → h.answers n c ≡ Some f → AnswerOk w h n c f → AnswerOk v h n c f
  answer_grows n c f is ok = record {
    own = ok.own;
    some = ok.some;
    fits = ok.fits;
    draw_fits = ok.draw_fits;
    peer_fits = ok.peer_fits;
    peer_is = ok.peer_is;
    linked = ok.linked;
    attempt = ok.attempt;
    attempted = ok.attempted;
    attempts = ok.attempts;
    epoch_some = (let same = g.makes n c f is in let lt = ok.epoch_some in omega (arith, same, lt));
    epoch_made = (let same = g.makes n c f is in let le = ok.epoch_made in let more = g.made n f.tunnel in omega (arith, same, le, more));
    expect = ok.expect;
    send_from = ok.send_from;
  }

  renewed_grows : (n i e : ℕ) (a : Account) → IsRenewed w h n i e a → IsRenewed v h n i e a
  renewed_grows n i e a r = record {
    later = r.later;
    peer = r.peer;
    remote = r.remote;
    linked = r.linked;
    by = r.by;
    answer = r.answer;
    froze = r.froze;
    answered = r.answered;
    makes_it = g.makes r.by.node r.by.tunnel r.froze r.answered ∙ r.makes_it;
    begins = r.begins;
    other = r.other;
    same = r.same;
    joined = r.joined;
    no_opening = r.no_opening;
  }

  part_grows : (n i e : ℕ) (a : Account) (k : Part) → IsPart w h n i e a k → IsPart v h n i e a k
  part_grows n i e a Unmade is = is
  part_grows n i e a Opener is = is
  part_grows n i e a Acceptor is = is
  part_grows n i e a Renewed is = renewed_grows n i e a is

  pub account_grows : (n i e : ℕ) (a : Account) → AccountOk w h n i e a → AccountOk v h n i e a
  account_grows n i e a ok = record {
    part = part_grows n i e a a.part ok.part;
    some = ok.some;
    id = ok.id;
    node = ok.node;
    peer = ok.peer;
    remote = ok.remote;
    first_given = ok.first_given;
    first_taken = ok.first_taken;
    from_none = ok.from_none;
    spelled = ok.spelled;
    told = ok.told;
    taken = ok.taken;
    ignored = ok.ignored;
    entered = λ made. (let le = ok.entered made in let more = g.epochs n i in omega (arith, le, more));
    declined = ok.declined;
  }

  pub answers_grow : (n c : ℕ) (f : Froze) → h.answers n c ≡ Some f → AnswerOk w h n c f → AnswerOk v h n c f
  answers_grow = answer_grows

  -- ---- packets

  says_grows : (p : Packet) (own named : ℕ) (m : Message) → SaysRecovery w h p own named m → SaysRecovery v h p own named m
  says_grows p own named _ (AsksFor m o is peer id recovery draw) = AsksFor m o is peer id recovery draw
  says_grows p own named _ (Suggests f o is to id suggested to_attempt) = Suggests f o is to id suggested to_attempt
  says_grows p own named _ (Confirms f response is attempt from le) =
      let same = g.makes p.to named f is in
      let more = g.epochs p.from f.remote in
      Confirms f response is attempt from (omega (arith, same, more, le))
  says_grows p own named _ (Refuses result error fit) = Refuses result error fit

  recovery_grows : (p : Packet) (own : ℕ) (empty : Bool) → IsRecovery w h p own empty → IsRecovery v h p own empty
  recovery_grows p own empty r = record {
    named = r.named;
    names = r.names;
    is = r.is;
    number = r.number;
    nr = r.nr;
    nr_fits = r.nr_fits;
    says = ⊎_elim (λ k. inl k) (λ k. inr (k.0, says_grows p own r.named k.0 k.1, k.2, k.3)) r.says;
  }

  origin_grows : (p : Packet) (o : Origin) → OriginOk w h p o → OriginOk v h p o
  origin_grows p (origin.Control o) ok = ok
  origin_grows p (origin.Data session) ok = ok
  origin_grows p (origin.Recovery own number empty) ok = recovery_grows p own empty ok

  packet_grows : (p : Packet) → PacketOk w h p → PacketOk v h p
  packet_grows p ok = record { from = ok.from; to = ok.to; sent = origin_grows p p.origin ok.sent }

  pub packets_grow : (ps : List Packet) → AllByRecursion (PacketOk w h) ps → AllByRecursion (PacketOk v h) ps
  packets_grow [] ok = tt
  packets_grow (p ∷ ps) ok = (packet_grows p ok.0, packets_grow ps ok.1)
