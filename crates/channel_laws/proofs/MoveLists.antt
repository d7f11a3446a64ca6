-- The moves of a step as lists, and what goes out between them.
use Rattle.std.proofs.Common.{◌≡◌, inl, inr, ℕ, ◌≤◌, List, [], ◌∷◌, ◌++◌, map, refl, sym, ap, subst, arith}
use Rattle.std.specs.Prelude.{is_some}
use Rattle.std.specs.List.{AllByRecursion}
use Rattle.id_table.specs.Ids.{at}
use Rattle.end_model.specs.declared.event.Event.{Event}
use Rattle.end_model.specs.declared.event.Event.TheVariants.{Datagram}
use Rattle.end_model.specs.declared.moves.Move.{Move}
use Rattle.end_names.specs.Names.{node_of}
use Rattle.end_model.specs.declared.out.Out.{Out}
use Rattle.end_model.specs.declared.out.Out.TheVariants.{Send, Up, Gone, Drop, Cause}
use Rattle.end_model.specs.declared.out.Origin.{Origin}
use Rattle.end_model.specs.declared.out.Origin.TheVariants as origin
use Rattle.end_model.specs.End.{End}
use Rattle.world_model.specs.declared.packet.Packet.{Packet}
use Rattle.world_model.specs.World.{World, Deed, standing_of, answer_in, epoch_sent, packet_from, sent, shown, shown_all}
use Rattle.step_laws.specs.Letters.{Among}
use Rattle.step_laws.specs.Moves.{Does, Chain}
use Rattle.step_laws.specs.Ups.{most_reads}
use Rattle.channel_laws.specs.Accounts.{History, after, history_from}
use Rattle.channel_laws.specs.Lines.{AreSame}
use Rattle.channel_laws.proofs.Agreeing.{Agree}
use Rattle.channel_laws.proofs.Mailing.{with_mail, all_joined}

-- ---- lists of moves

-- one of them, and those before and behind it
pub record IsSplit (moment : ℕ) (ev : Event) (e z : End) (m : Move) (ms : List Move) : Type 0 where
  pub before : List Move
  pub behind : List Move
  pub is : ms ≡ before ++ (m ∷ behind)
  pub from : End
  pub to : End
  pub comes : Chain moment ev e before from
  pub does : Does from moment ev m to
  pub goes : Chain moment ev to behind z

pub split : (moment : ℕ) (ev : Event) (e z : End) (m : Move) (ms : List Move) → Among m ms → Chain moment ev e ms z → IsSplit moment ev e z m ms
split moment ev e z m [] none chain = absurd none
split moment ev e z m (k ∷ ks) (inl same) chain = record {
  before = [];
  behind = ks;
  is = ap (λ q. q ∷ ks) same;
  from = e;
  to = chain.0;
  comes = refl;
  does = subst (λ q. Does e moment ev q chain.0) same chain.1;
  goes = chain.2;
}
split moment ev e z m (k ∷ ks) (inr more) chain =
    let s = split moment ev chain.0 z m ks more chain.2 in
    record {
      before = k ∷ s.before;
      behind = s.behind;
      is = ap (λ q. k ∷ q) s.is;
      from = s.from;
      to = s.to;
      comes = (chain.0, chain.1, s.comes);
      does = s.does;
      goes = s.goes;
    }

pub deeds_more : (f : Move → Deed) (ms ns : List Move) (h : History) → history_from (map f ns) (history_from (map f ms) h) ≡ history_from (map f (ms ++ ns)) h
unfolding history_from
deeds_more f [] ns h = refl
deeds_more f (m ∷ ms) ns h = deeds_more f ms ns (after h (f m))

pub deed_last : (f : Move → Deed) (ms : List Move) (m : Move) (h : History) → history_from (map f (ms ++ m ∷ [])) h ≡ after (history_from (map f ms) h) (f m)
unfolding history_from
deed_last f [] m h = refl
deed_last f (k ∷ ks) m h = deed_last f ks m (after h (f k))

-- ---- what is sent

pub sent_is : (w : World) (ps : List Packet) (n q : ℕ) (bytes : List ℕ) (o : Origin)
    → sent (with_mail w ps) n q bytes o ≡ with_mail w (ps ++ packet_from n q bytes o (epoch_sent w n o) ∷ [])
unfolding sent standing_of
sent_is w ps n q bytes (origin.Control c) = refl
sent_is w ps n q bytes (origin.Data session) = refl
sent_is w ps n q bytes (origin.Recovery own number empty) = refl

-- the packets that outputs send, of each of which something is so
module _ (n : ℕ) (w : World) (P : Packet → Type 0) where
  abbrev pub OutOk : Out → Type 0
  OutOk (Send peer bytes o) = P (packet_from n (node_of peer) bytes o (epoch_sent w n o))
  OutOk (Up session side frame) = Unit {0}
  OutOk (Gone session) = Unit {0}
  OutOk (Drop x) = Unit {0}
  OutOk (Cause x) = Unit {0}

  pub record IsShown (u : World) : Type 0 where
    pub mail : List Packet
    pub is : u ≡ with_mail w mail
    pub all : AllByRecursion P mail

  pub shows : (os : List Out) (ps : List Packet) → AllByRecursion OutOk os → AllByRecursion P ps → IsShown (shown_all n os (with_mail w ps))
  unfolding shown_all shown
  shows [] ps of ok = record { mail = ps; is = refl; all = ok }
  shows (Send peer bytes o ∷ os) ps of ok =
      let p = packet_from n (node_of peer) bytes o (epoch_sent w n o) in
      subst (λ u. IsShown (shown_all n os u)) (sym (sent_is w ps n (node_of peer) bytes o))
      (shows os (ps ++ p ∷ []) of.1 (all_joined P ps p ok of.0))
  shows (Up session side frame ∷ os) ps of ok = shows os ps of.1 ok
  shows (Gone session ∷ os) ps of ok = shows os ps of.1 ok
  shows (Drop x ∷ os) ps of ok = shows os ps of.1 ok
  shows (Cause x ∷ os) ps of ok = shows os ps of.1 ok

pub reads_once : (ev : Event) → most_reads ev ≤ 1
reads_once (Datagram peer bytes) = omega arith
reads_once ev = omega arith

-- worlds with the same nodes and packets agree
pub same_agree : (w v : World) → AreSame w v → Agree w v
unfolding standing_of
same_agree w v same = record {
  there = λ m. ap (λ ns. is_some (at ns m)) same.nodes;
  standings = λ m j. ap (λ ns. standing_of (record v { nodes = ns }) m j) same.nodes;
  makes_as = λ m c. ap (λ ns. answer_in (at ns m) c) same.nodes;
  packets = same.packets;
}
