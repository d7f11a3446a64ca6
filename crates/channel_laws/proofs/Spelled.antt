-- The letters of a channel, by its epoch, and what they are read as, whatever secret they are read with.
use Rattle.std.proofs.Common.{◌≡◌, ◌⊎◌, inl, inr, ℕ, ◌<◌, ◌≤◌, List, [], ◌∷◌, length, refl, sym, ap, ◌∙◌, subst, Option, Some, Ok, arith}
use Rattle.std.proofs.lemmas.Option.{none-some}
use Rattle.std.specs.List.{AllByRecursion}
use Rattle.l2tp_header.specs.Spelling.{control_bytes}
use Rattle.avp_codec.specs.declared.avp.Avp.{Avp}
use Rattle.avp_codec.specs.Reading.{avps_of}
use Rattle.avp_codec.specs.Spelling.{spelling}
use Rattle.control_message.specs.declared.kind.Kinds.TheVariants.{Queries}
use Rattle.control_message.specs.declared.message.Message.{Message}
use Rattle.control_message.specs.declared.message.Message.TheVariants.{Fsq, Fsr}
use Rattle.control_message.specs.declared.message.Read.TheVariants.{Known}
use Rattle.control_message.specs.Grammar.{IsKnownTo}
use Rattle.control_message.specs.Pairs.{pairs_of, IsWritten}
use Rattle.recv_window.specs.Window.{on_wire}
use Rattle.wire_base.specs.declared.why.Why.TheVariants as why
use Rattle.end_model.specs.declared.event.Addressee.TheVariants.{Nobody}
use Rattle.end_model.specs.Reading.{message_in, message_said, CallFault, call_fault_in, TunnelFault, tunnel_fault_in, at_zero, zero_read}
use Rattle.end_model.specs.Secrets.{uncovered_datagram}
use Rattle.step_laws.specs.Letters.{Letter}
use Rattle.frame_laws.specs.Codecs.{Codecs}
use Rattle.frame_laws.specs.Plain.{AreAlike, without_number, IsReadAs, stays_plain, hides_nothing, message_there, no_fault_there, no_tunnel_fault_there, zero_there}
use Rattle.frame_laws.specs.Written.{IsWritten as IsWrittenPlainly}
use Rattle.connection_laws.specs.Facts.{IsSpelled, kept_letter}
use Rattle.connection_laws.proofs.Alike.{IsNoRequest, read_alike, read_same, read_written}
use Rattle.connection_laws.proofs.Plain as calm
use Rattle.channel_laws.specs.Facts.{IsOfQuery, IsSpelledQuery, IsSpelledIn}
use Rattle.channel_laws.specs.Recoveries.{WrittenIsRead, WrittenHasRoom}

-- ---- letters

pub all_so : {X : Type 0} (P Q : X → Type 0) → ((x : X) → P x → Q x) → (xs : List X) → AllByRecursion P xs → AllByRecursion Q xs
all_so P Q so [] h = tt
all_so P Q so (x ∷ xs) h = (so x h.0, all_so P Q so xs h.1)

-- in epoch 0 no sessions are asked for
spelled_first : (l : Letter) → IsSpelledIn 0 l → IsSpelled l
spelled_first l (inl s) = s
spelled_first l (inr q) = let lt = q.0 in absurd (omega (arith, lt))

pub all_first : (ls : List Letter) → AllByRecursion (IsSpelledIn 0) ls → AllByRecursion IsSpelled ls
all_first ls h = all_so (IsSpelledIn 0) IsSpelled spelled_first ls h

pub all_spelled : (e : ℕ) (ls : List Letter) → AllByRecursion IsSpelled ls → AllByRecursion (IsSpelledIn e) ls
all_spelled e ls h = all_so IsSpelled (IsSpelledIn e) (λ l s. inl s) ls h

session_fits : (e : ℕ) (l : Letter) → IsSpelledIn e l → l.session < 65536
session_fits e l (inl s) = s.session
session_fits e l (inr q) = let zero = q.1.session in omega (arith, zero)

-- ---- what they are read as

-- a letter as where nothing is recovered
pub record IsPlainRead (l : Letter) (body : List ℕ) : Type 0 where
  pub reads : IsReadAs l.message body
  pub spelled : IsSpelled l

-- a question for sessions, or an answer
pub record IsQueryRead (l : Letter) (body : List ℕ) : Type 0 where
  pub spelled : IsSpelledQuery l
  pub avps : List Avp
  pub pairs : avps_of body ≡ Ok avps
  pub said : message_said avps ≡ Ok (Known l.message)

abbrev pub ReadsLetter : Letter → List ℕ → Type 0
ReadsLetter l body = IsPlainRead l body ⊎ IsQueryRead l body

module _ (l : Letter) (body : List ℕ) where
  query_said : IsQueryRead l body → message_in body ≡ Ok l.message
  query_said q = message_there body q.avps l.message q.pairs q.said

  query_same : IsQueryRead l body → (m : Message) → message_in body ≡ Ok m → l.message ≡ m
  query_same q m said = let both : Ok l.message ≡ Ok m = sym (query_said q) ∙ said in cc

  -- it is the message that is read, unless that is a request
  pub letter_same : ReadsLetter l body → (m : Message) → message_in body ≡ Ok m → IsNoRequest m → l.message ≡ m
  letter_same (inl p) m said plain = read_same l.message body p.reads m said plain
  letter_same (inr q) m said plain = query_same q m said

  pub letter_alike : ReadsLetter l body → (m : Message) → message_in body ≡ Ok m → AreAlike l.message m
  letter_alike (inl p) m said = read_alike l.message body p.reads m said
  letter_alike (inr q) m said = ap without_number (query_same q m said)

  -- one that says something else
  pub plainly_read : ReadsLetter l body → (m : Message) → message_in body ≡ Ok m → (IsOfQuery m → ⊥) → IsPlainRead l body
  plainly_read (inl p) m said other = p
  plainly_read (inr q) m said other = absurd (other (subst IsOfQuery (query_same q m said) q.spelled.query))

  pub letter_written : ReadsLetter l body → (m : Message) → message_in body ≡ Ok m → (IsOfQuery m → ⊥) → IsWrittenPlainly m
  letter_written r m said other = read_written l.message body (plainly_read r m said other).reads m said

  -- or that has a fault
  pub faultily_read : ReadsLetter l body → (f : CallFault) → call_fault_in body ≡ Some f → IsPlainRead l body
  faultily_read (inl p) f fault = p
  faultily_read (inr q) f fault = absurd (none-some f (sym (no_fault_there body q.avps l.message q.pairs q.said) ∙ fault))

  pub closing_read : ReadsLetter l body → (f : TunnelFault) → tunnel_fault_in body ≡ Some f → IsPlainRead l body
  closing_read (inl p) f fault = p
  closing_read (inr q) f fault = absurd (none-some f (sym (no_tunnel_fault_there body q.avps l.message q.pairs q.said) ∙ fault))

-- it is for no tunnel where it names none
query_none : (avps : List Avp) (m : Message) → IsOfQuery m → zero_read avps (Ok (Known m)) ≡ Nobody why.Tunnel
unfolding zero_read
query_none avps (Fsq sessions) q = refl
query_none avps (Fsr sessions) q = refl
query_none avps m q = absurd q

pub query_for_none : (l : Letter) (body : List ℕ) → IsQueryRead l body → at_zero body ≡ Nobody why.Tunnel
query_for_none l body q = zero_there body q.avps l.message q.pairs q.said ∙ query_none q.avps l.message q.spelled.query

-- what asks for sessions, or answers, is written by the codec's rules
no_plain_query : (m : Message) → IsOfQuery m → IsWrittenPlainly m → ⊥
no_plain_query (Fsq sessions) q written = written
no_plain_query (Fsr sessions) q written = written
no_plain_query m q written = q

pub query_written : (l : Letter) (body : List ℕ) → ReadsLetter l body → (m : Message) → message_in body ≡ Ok m → IsOfQuery m
    → (l.message ≡ m) × IsWritten m
query_written l body (inl p) m said of = absurd (no_plain_query m of (read_written l.message body p.reads m said))
query_written l body (inr q) m said of = let same = query_same l body q m said in (same, subst IsWritten same q.spelled.written)

-- ---- as copies

-- every message that asks or answers is known where queries are
query_known : (m : Message) → IsOfQuery m → IsKnownTo m Queries
query_known (Fsq sessions) q = tt
query_known (Fsr sessions) q = tt
query_known m q = absurd q

-- the pairs as which a letter is read
pub record LetterRead (secret : Option (List ℕ)) (l : Letter) (tunnel ns nr : ℕ) (bytes : List ℕ) : Type 0 where
  pub body : List ℕ
  pub few : length body ≤ 65523
  pub is : uncovered_datagram secret bytes ≡ control_bytes tunnel l.session (on_wire ns) (on_wire nr) body
  pub session : l.session < 65536
  pub reads : ReadsLetter l body

module _ (codecs : Codecs) (again : WrittenIsRead) (room : WrittenHasRoom) (secret : Option (List ℕ)) (e : ℕ) (l : Letter)
    (tunnel ns nr : ℕ) (bytes : List ℕ)
    (fits : tunnel < 65536) (are : bytes ≡ control_bytes tunnel l.session (on_wire ns) (on_wire nr) (kept_letter l).avps) where
  pub letter_read : IsSpelledIn e l → LetterRead secret l tunnel ns nr bytes
  letter_read (inl s) =
      let u = calm.letter_read codecs secret l tunnel ns nr bytes fits s are in
      record { body = u.body; few = u.few; is = u.is; session = s.session; reads = inl (record { reads = u.reads; spelled = s }) }
  letter_read (inr q) =
      let s = q.1 in
      let m = l.message in
      let both = again Queries m (query_known m s.query) s.written in
      let pairs = spelling (pairs_of m) in
      let few = room m s.written in
      let session = session_fits e l (inr q) in
      let plain : bytes ≡ control_bytes tunnel l.session (on_wire ns) (on_wire nr) pairs = rw s.plain at are in
      record {
        body = pairs;
        few = few;
        is = ap (uncovered_datagram secret) plain
            ∙ stays_plain codecs secret tunnel l.session (on_wire ns) (on_wire nr) pairs (pairs_of m) fits session (calm.on_wire_fits ns)
            (calm.on_wire_fits nr) few both.0
            (hides_nothing m);
        session = session;
        reads = inr (record { spelled = s; avps = pairs_of m; pairs = both.0; said = both.1 });
      }
