-- A session that one end of a link holds alone is covered, where the world is joined with the machine.
use Rattle.std.proofs.Common.{◌≡◌, ◌⊎◌, inl, inr, ⊎_elim, ℕ, zero, suc, ◌+◌, ◌-◌, ◌<◌, ◌≤◌, Bool, true, false, List, [], ◌∷◌, ◌++◌, length, drop, slice_get, refl, sym, ap, ◌∙◌, subst, Option, Some, None, arith}
use Rattle.std.proofs.lemmas.Bool.{eqb-true, eqb-false}
use Rattle.std.proofs.lemmas.Option.{none-some, slice_get-map}
use Rattle.std.specs.Prelude.{◌==◌, ◌||◌, take, not}
use Rattle.std.specs.List.{list_any}
use Rattle.id_table.specs.Order.{same_or_not}
use Rattle.wire_base.specs.declared.pair.Pair.{Pair}
use Rattle.control_message.specs.declared.message.Message.{Message}
use Rattle.control_message.specs.declared.message.Message.TheVariants as message
use Rattle.session_query.specs.Queries.{left_of}
use Rattle.end_model.specs.Tunnels.{Tunnel, mode_of, is_current}
use Rattle.world_model.specs.World.{World, epoch_of}
use Rattle.step_laws.specs.Letters as step
use Rattle.step_laws.specs.Letters.{Among}
use Rattle.epoch_machine.specs.Letters.{Letter, Connect, Cdn, Fsq, Fsr}
use Rattle.epoch_machine.specs.Worlds as machine
use Rattle.epoch_machine.specs.Calls as calls
use Rattle.birth_laws.specs.Births.{BirthsOfRuns}
use Rattle.coverage_laws.specs.Coverage.{Mates, ConnectOutstanding, CdnOutstanding, CoverageOfRuns}
use Rattle.frame_laws.specs.Plain.{HidesOk}
use Rattle.connection_laws.specs.Facts.{kept_letter}
use Rattle.connection_laws.proofs.Hearing.{all_at}
use Rattle.connection_laws.proofs.Sent.{got_dropped}
use Rattle.session_laws.specs.Names.{name, name_of}
use Rattle.session_laws.specs.Sessions.{HoldsSession}
use Rattle.channel_laws.specs.Accounts.{Part, Unmade, Opener, Acceptor, Renewed, Account, heeded, History}
use Rattle.channel_laws.specs.Facts.{partner_in, AreAcked, IsSpelledIn}
use Rattle.recovery_laws.specs.Queries.{asks_in, answers_in, said_in, first_of, rest_of, letters_in, questions_in, weigh, QueriesJoined}
use Rattle.recovery_laws.specs.Covered.{AreOpen, IsOutstanding, IccnIsOutstanding, CdnIsOutstanding, AsksFor, AreCovered, JoinedWorldsCover}
use Rattle.recovery_laws.proofs.Epochs.{some_name, known_name}
use Rattle.recovery_laws.proofs.Weights.{said_weighs}
use Rattle.recovery_laws.proofs.Pairs as pairs
use Rattle.recovery_laws.proofs.Pairs.{Ground, Two, swapped, two_of, some_number, up_state, ground_of}

-- ---- which letter it is

-- a letter of the machine's is said by one that was given
record IsSaid (n k : ℕ) (ls : List step.Letter) (q : ℕ) (x : Letter) : Type 0 where
  place : ℕ
  letter : step.Letter
  there : slice_get ls place ≡ Some letter
  asked : List Pair
  among : Among x (said_in n k asked letter.session letter.message)
  below : q < weigh (take (suc place) ls)

got_among : {X : Type 0} (xs : List X) (q : ℕ) (x : X) → slice_get xs q ≡ Some x → Among x xs
got_among [] q x is = absurd (none-some x is)
got_among (y ∷ ys) zero x is = inl cc
got_among (y ∷ ys) (suc q) x is = inr (got_among ys q x is)

within : {X : Type 0} (xs : List X) (q : ℕ) (x : X) → slice_get xs q ≡ Some x → q < length xs
within [] q x is = absurd (none-some x is)
within (y ∷ ys) zero x is = omega arith
within (y ∷ ys) (suc q) x is = let less = within ys q x is in omega (arith, less)

-- a place of two lists is in the first one, or in the second
got_either : {X : Type 0} (xs ys : List X) (q : ℕ) (x : X) → slice_get (xs ++ ys) q ≡ Some x
    → (slice_get xs q ≡ Some x) ⊎ ((r : ℕ) × (q ≡ length xs + r) × (slice_get ys r ≡ Some x))
got_either [] ys q x is = inr (q, omega arith, is)
got_either (y ∷ xs) ys zero x is = inl is
got_either (y ∷ xs) ys (suc q) x is = ⊎_elim
    (λ h. inl h)
    (λ (h : (r : ℕ) × (q ≡ length xs + r) × (slice_get ys r ≡ Some x)). inr (h.0, (let same = h.1 in omega (arith, same)), h.2))
    (got_either xs ys q x is)

said_by : (n k : ℕ) (qs : List (List Pair)) (ls : List step.Letter) (q : ℕ) (x : Letter) → slice_get (letters_in n k qs ls) q ≡ Some x
    → IsSaid n k ls q x
said_by n k qs [] q x is = absurd (none-some x is)
said_by n k qs (l ∷ ls) q x is = ⊎_elim
    (λ (h : slice_get first q ≡ Some x). record {
      place = 0;
      letter = l;
      there = refl;
      asked = first_of qs;
      among = got_among first q x h;
      below = (let less = within first q x h in let weighs = said_weighs n k (first_of qs) l.session l.message in omega
          (arith, less, weighs));
    })
    (λ (h : (r : ℕ) × (q ≡ length first + r) × (slice_get (letters_in n k (rest_of l.message qs) ls) r ≡ Some x)).
    let later = said_by n k (rest_of l.message qs) ls h.0 x h.2 in
    record {
      place = suc later.place;
      letter = later.letter;
      there = later.there;
      asked = later.asked;
      among = later.among;
      below = (let less = later.below in let same = h.1 in let weighs = said_weighs n k (first_of qs) l.session l.message in omega
          (arith, less, same, weighs));
    })
    (got_either first (letters_in n k (rest_of l.message qs) ls) q x is)
  where
    first : List Letter
    first = said_in n k (first_of qs) l.session l.message

-- more letters weigh more
weighs_more : (p q : ℕ) (ls : List step.Letter) → p ≤ q → weigh (take p ls) ≤ weigh (take q ls)
weighs_more zero q ls le = omega arith
weighs_more (suc p) zero ls le = absurd (omega (arith, le))
weighs_more (suc p) (suc q) [] le = omega arith
weighs_more (suc p) (suc q) (l ∷ ls) le = let more = weighs_more p q ls (omega (arith, le)) in omega (arith, more)

-- so what is behind those that were taken is none of them
not_taken : (ls : List step.Letter) (p q taken : ℕ) → q < weigh (take (suc p) ls) → weigh (take taken ls) ≤ q → taken ≤ p
not_taken ls p q taken below behind = ⊎_elim (λ (le : taken ≤ p). le)
    (λ (more : suc p ≤ taken). let weighs = weighs_more (suc p) taken ls more in let no : ⊥ = omega (arith, below, behind, weighs) in
    absurd no)
    (le_or_more p taken)
  where
    le_or_more : (p t : ℕ) → (t ≤ p) ⊎ (suc p ≤ t)
    le_or_more p zero = inl (omega arith)
    le_or_more zero (suc t) = inr (omega arith)
    le_or_more (suc p) (suc t) = ⊎_elim (λ (le : t ≤ p). inl (omega (arith, le))) (λ (le : suc p ≤ t). inr (omega (arith, le)))
        (le_or_more p t)

-- ---- what it says

no_query : (n k : ℕ) (x : Letter) (ps : List Pair) → Among x (asks_in n k ps) → ((own header : ℕ) → Fsq own header ≡ x → ⊥) → ⊥
no_query n k x [] a other = a
no_query n k x (p ∷ ps) a other = ⊎_elim (λ (is : Fsq (name n p.sender) (name_of k p.receiver) ≡ x). other _ _ is)
    (λ l. no_query n k x ps l other) a

no_answer : (n k : ℕ) (x : Letter) (asked answers : List Pair) → Among x (answers_in n k asked answers)
    → ((own header : ℕ) (here : Bool) → Fsr own header here ≡ x → ⊥) → ⊥
no_answer n k x asked [] a other = a
no_answer n k x [] (p ∷ ps) a other =
    ⊎_elim (λ (is : Fsr 0 (name k p.receiver) false ≡ x). other _ _ _ is) (λ l. no_answer n k x [] ps l other) a
no_answer n k x (q ∷ qs) (p ∷ ps) a other =
    ⊎_elim (λ (is : Fsr (name_of n q.receiver) (name k p.receiver) (not (p.sender == 0)) ≡ x). other _ _ _ is)
    (λ l. no_answer n k x qs ps l other) a

-- an ICCN alone says that a call is connected
abbrev SaysIccn : Message → Type 0
SaysIccn x = (speed : ℕ) × (framing : ℕ) × (sequenced : Bool) × (x ≡ message.Iccn speed framing sequenced)

connects : (n k : ℕ) (asked : List Pair) (header z : ℕ) (x : Message) → Among (Connect z) (said_in n k asked header x)
    → SaysIccn x × (name k header ≡ z)
connects n k asked header z (message.Fsq pairs) a = absurd (no_query n k (Connect z) pairs a (λ own other is. cc))
connects n k asked header z (message.Fsr answers) a = absurd (no_answer n k (Connect z) asked answers a (λ own other here is. cc))
connects n k asked header z (message.Sccrq o) (inl is) = absurd cc
connects n k asked header z (message.Sccrq o) (inr never) = absurd never
connects n k asked header z (message.Sccrp o) (inl is) = absurd cc
connects n k asked header z (message.Sccrp o) (inr never) = absurd never
connects n k asked header z (message.Scccn response) (inl is) = absurd cc
connects n k asked header z (message.Scccn response) (inr never) = absurd never
connects n k asked header z (message.StopCcn tunnel result error) (inl is) = absurd cc
connects n k asked header z (message.StopCcn tunnel result error) (inr never) = absurd never
connects n k asked header z message.Hello (inl is) = absurd cc
connects n k asked header z message.Hello (inr never) = absurd never
connects n k asked header z (message.Ocrq session) (inl is) = absurd cc
connects n k asked header z (message.Ocrq session) (inr never) = absurd never
connects n k asked header z message.Ocrp (inl is) = absurd cc
connects n k asked header z message.Ocrp (inr never) = absurd never
connects n k asked header z message.Occn (inl is) = absurd cc
connects n k asked header z message.Occn (inr never) = absurd never
connects n k asked header z message.Wen (inl is) = absurd cc
connects n k asked header z message.Wen (inr never) = absurd never
connects n k asked header z message.Sli (inl is) = absurd cc
connects n k asked header z message.Sli (inr never) = absurd never
connects n k asked header z (message.Icrq session serial calling) (inl is) = absurd cc
connects n k asked header z (message.Icrq session serial calling) (inr never) = absurd never
connects n k asked header z (message.Icrp session) (inl is) = absurd cc
connects n k asked header z (message.Icrp session) (inr never) = absurd never
connects n k asked header z (message.Iccn speed framing sequenced) (inl is) = ((speed, framing, sequenced, refl), cc)
connects n k asked header z (message.Iccn speed framing sequenced) (inr never) = absurd never
connects n k asked header z (message.Cdn session result error) (inl is) = absurd cc
connects n k asked header z (message.Cdn session result error) (inr never) = absurd never

-- a CDN that tells its own end's session
abbrev SaysCdn : ℕ → ℕ → Message → Type 0
SaysCdn n z x = (session : ℕ) × (result : ℕ) × (error : Option ℕ) × (x ≡ message.Cdn session result error) × (name_of n session ≡ z)

ends : (n k : ℕ) (asked : List Pair) (header z other : ℕ) (x : Message) → Among (Cdn z other) (said_in n k asked header x) → SaysCdn n z x
ends n k asked header z other (message.Fsq pairs) a = absurd (no_query n k (Cdn z other) pairs a (λ own header is. cc))
ends n k asked header z other (message.Fsr answers) a = absurd (no_answer n k (Cdn z other) asked answers a (λ own header here is. cc))
ends n k asked header z other (message.Sccrq o) (inl is) = absurd cc
ends n k asked header z other (message.Sccrq o) (inr never) = absurd never
ends n k asked header z other (message.Sccrp o) (inl is) = absurd cc
ends n k asked header z other (message.Sccrp o) (inr never) = absurd never
ends n k asked header z other (message.Scccn response) (inl is) = absurd cc
ends n k asked header z other (message.Scccn response) (inr never) = absurd never
ends n k asked header z other (message.StopCcn tunnel result error) (inl is) = absurd cc
ends n k asked header z other (message.StopCcn tunnel result error) (inr never) = absurd never
ends n k asked header z other message.Hello (inl is) = absurd cc
ends n k asked header z other message.Hello (inr never) = absurd never
ends n k asked header z other (message.Ocrq session) (inl is) = absurd cc
ends n k asked header z other (message.Ocrq session) (inr never) = absurd never
ends n k asked header z other message.Ocrp (inl is) = absurd cc
ends n k asked header z other message.Ocrp (inr never) = absurd never
ends n k asked header z other message.Occn (inl is) = absurd cc
ends n k asked header z other message.Occn (inr never) = absurd never
ends n k asked header z other message.Wen (inl is) = absurd cc
ends n k asked header z other message.Wen (inr never) = absurd never
ends n k asked header z other message.Sli (inl is) = absurd cc
ends n k asked header z other message.Sli (inr never) = absurd never
ends n k asked header z other (message.Icrq session serial calling) (inl is) = absurd cc
ends n k asked header z other (message.Icrq session serial calling) (inr never) = absurd never
ends n k asked header z other (message.Icrp session) (inl is) = absurd cc
ends n k asked header z other (message.Icrp session) (inr never) = absurd never
ends n k asked header z other (message.Iccn speed framing sequenced) (inl is) = absurd cc
ends n k asked header z other (message.Iccn speed framing sequenced) (inr never) = absurd never
ends n k asked header z other (message.Cdn session result error) (inl is) = (session, result, error, refl, cc)
ends n k asked header z other (message.Cdn session result error) (inr never) = absurd never

-- ---- what it hides

-- a message that asks for no call
IsNoRequest : Message → Type 0
IsNoRequest x = (own serial : ℕ) (calling : Option (List ℕ)) → x ≡ message.Icrq own serial calling → ⊥

-- what is spelled hides nothing but the Calling Number of a request
none_hidden : (x : Message) (pairs : Option (List ℕ)) → IsNoRequest x → HidesOk x pairs → pairs ≡ None
unfolding IsNoRequest
none_hidden x None other h = refl
none_hidden x (Some pairs) other h = absurd (other h.own h.serial (Some h.number) h.is)

hides_none : (e : ℕ) (l : step.Letter) → IsNoRequest l.message → IsSpelledIn e l → l.hidden ≡ None
hides_none e l other (inl s) = none_hidden l.message l.hidden other s.hides
hides_none e l other (inr q) = q.1.plain

iccn_no_request : (x : Message) → SaysIccn x → IsNoRequest x
unfolding IsNoRequest
iccn_no_request x says own serial calling is = let same = says.3 in cc

cdn_no_request : (n z : ℕ) (x : Message) → SaysCdn n z x → IsNoRequest x
unfolding IsNoRequest
cdn_no_request n z x says own serial calling is = let same = says.3 in cc

-- ---- names

pub same_id : (n i j : ℕ) → name n i ≡ name n j → i ≡ j
unfolding name
same_id n i j is = omega (arith, is)

pub names_same : (n i j : ℕ) → (name n i == name n j) ≡ (i == j)
names_same n i j = by (name n i == name n j) (i == j) refl refl
  where
    by : (b c : Bool) → (name n i == name n j) ≡ b → (i == j) ≡ c → b ≡ c
    by true true is so = refl
    by false false is so = refl
    by true false is so = absurd (eqb-false i j so (same_id n i j (eqb-true (name n i) (name n j) is)))
    by false true is so = absurd (eqb-false (name n i) (name n j) is (ap (name n) (eqb-true i j so)))

-- ---- outstanding letters

module _ (w : World) (h : History) (m : machine.World) (g : Ground w h m) where
  module _ (n i k j : ℕ) (t u : Tunnel) (p : Two w h m g n i k j t u) where
    abbrev e : ℕ
    e = epoch_of w n i

    abbrev a : Account
    a = h.accounts n i e

    abbrev b : Account
    b = h.accounts k j e

    partner_is : partner_in h.accounts e a ≡ b
    partner_is = pairs.partner w h m g n i k j t u p

    known_by : (acked : ℕ) → e ≡ 0 → acked ≤ length (partner_in h.accounts 0 a).taken → acked ≤ length b.taken
    known_by acked z le =
        subst (λ (x : Account). acked ≤ length x.taken) partner_is
        (subst (λ x. acked ≤ length (partner_in h.accounts x a).taken) (sym z) le)

    -- what the one counts as acknowledged the other took
    acked_taken : (acked : ℕ) (q : Part) → AreAcked h.accounts n i e a acked q → (e ≡ 0) ⊎ (q ≡ Renewed) → acked ≤ length b.taken
    acked_taken acked Unmade is first = absurd is
    acked_taken acked Opener is (inl z) = known_by acked z (is.1 known)
      where
        known : a.remote ≡ 0 → ⊥
        known none =
            let some = p.there.some in
            let same = pairs.goes_for w h m g n i k j t u p in
            omega (arith, some, same, none)
    acked_taken acked Opener is (inr renewed) = absurd cc
    acked_taken acked Acceptor is (inl z) = known_by acked z (is.1 learned)
      where
        learned : (partner_in h.accounts 0 a).remote ≡ i
        learned = subst (λ x. (partner_in h.accounts x a).remote ≡ i) z
            (ap (λ (x : Account). x.remote) partner_is ∙ pairs.goes_back w h m g n i k j t u p)
    acked_taken acked Acceptor is (inr renewed) = absurd cc
    acked_taken acked Renewed is first = subst (λ (x : Account). acked ≤ length x.taken) partner_is is

    -- a letter that was given, and not taken, is kept
    outstanding : (place : ℕ) (l : step.Letter) → slice_get a.given place ≡ Some l → heeded b ≤ place → IsOutstanding t u l
    outstanding place l is behind =
        let c = p.here.channel in
        let le = acked_le in
        let all = pairs.heeds_all w h m g b (pairs.b_open w h m g n i k j t u p) in
        let taken = pairs.b_taken w h m g n i k j t u p in
        let begin = (pairs.alike w h m g n i k j t u p).here in
        let acked = c.acked_is in
        record {
          place = place - c.acked;
          there =
              ap (λ ls. slice_get ls (place - c.acked)) c.letters
              ∙ (slice_get-map kept_letter (drop c.acked a.given) (place - c.acked)
              ∙ ap (λ o. Rattle.std.specs.Prelude.option_map kept_letter o)
              (got_dropped c.acked a.given (place - c.acked) ∙ (ap (slice_get a.given) (omega (arith, le, all, behind)) ∙ is)));
          waits = omega (arith, le, all, behind, taken, begin, acked);
        }
      where
        acked_le : p.here.channel.acked ≤ length b.taken
        acked_le = acked_taken p.here.channel.acked a.part p.here.channel.were_acked
            (pairs.first_or_renewed w h m g n i e a p.here.account p.here.made)

    -- a letter of the machine's that isn't taken is said by one that is outstanding
    behind_taken : (q : ℕ) (x : Letter) → slice_get (m.channels.sent (name n i) (m.tunnels.entered (name n i))) q ≡ Some x
        → m.channels.taken (name k j) (m.tunnels.entered (name n i)) ≤ q
        → (s : IsSaid n a.peer a.given q x) × (IsSpelledIn e s.letter) × IsOutstanding t u s.letter
    behind_taken q x is le =
        let here : slice_get (letters_in n a.peer (questions_in a.taken) a.given) q ≡ Some x =
        ap (λ ls. slice_get ls q) (sym (p.here.here.sent e)) ∙
        (ap (λ d. slice_get (m.channels.sent (name n i) d) q) (sym p.here.here.entered) ∙ is) in
        let said = said_by n a.peer (questions_in a.taken) a.given q x here in
        let taken : m.channels.taken (name k j) e ≡ weigh (take (heeded b) a.given) =
        p.there.here.taken e ∙ ap (λ (x : Account). weigh (take (heeded b) x.given)) (pairs.partner_back w h m g n i k j t u p) in
        let entered = p.here.here.entered in
        let few : weigh (take (heeded b) a.given) ≤ q =
        subst (λ d. d ≤ q) taken (subst (λ d. m.channels.taken (name k j) d ≤ q) entered le) in (
          said,
          all_at (IsSpelledIn e) a.given said.place said.letter said.there p.here.account.spelled,
          outstanding said.place said.letter said.there (not_taken a.given said.place q (heeded b) said.below few),
        )

    -- ---- the mate of an established call

    module _ (s r : ℕ) (x : HoldsSession t s r) where
      abbrev z : ℕ
      z = name n s

      abbrev y : ℕ
      y = name k r

      z_tunnel : m.calls.tunnel z ≡ name n i
      z_tunnel = (pairs.call_joined w h m g n i k j t u p s x.call x.live).tunnel

      z_up : m.calls.state z ≡ calls.Up
      z_up = (pairs.call_joined w h m g n i k j t u p s x.call x.live).state ∙ up_state x.call.state x.up

      z_some : z ≡ 0 → ⊥
      z_some = some_name n s (pairs.call_joined w h m g n i k j t u p s x.call x.live).some

      r_some : 0 < r
      r_some = pairs.remote_some w h m g n i k j t u p s r x

      y_some : y ≡ 0 → ⊥
      y_some = some_name k r r_some

      knows : m.calls.remote z ≡ y
      knows = pairs.remote_name w h m g n i k j t u p s r x

      learns : m.tunnels.learned (name n i) ≡ name k j
      learns = (pairs.linked w h m g n i k j t u p).forth

      mates : (m.calls.mate z ≡ y) ⊎ (m.calls.mate y ≡ z)
      mates = ⊎_elim (λ (is : m.calls.mate z ≡ m.calls.remote z). inl (is ∙ knows))
          (λ (is : m.calls.mate (m.calls.remote z) ≡ z). inr (ap m.calls.mate (sym knows) ∙ is))
          (g.known.remote_mates z (λ none. y_some (sym knows ∙ none)))

      mated : Mates m.calls z y
      mated = ⊎_elim (λ is. inl (is, y_some)) (λ is. inr (is, z_some)) mates

      y_tunnel : m.calls.tunnel y ≡ name k j
      y_tunnel = ⊎_elim
          (λ (is : m.calls.mate z ≡ y).
          let l = g.known.mate_linked z (λ none. y_some (sym is ∙ none)) in
          ap m.calls.tunnel (sym is) ∙ (sym l.back ∙ (ap m.tunnels.learned z_tunnel ∙ learns)))
          (λ (is : m.calls.mate y ≡ z).
          let l = g.known.mate_linked y (λ none. z_some (sym is ∙ none)) in
          sym l.forth ∙ (ap (λ q. m.tunnels.learned (m.calls.tunnel q)) is ∙ (ap m.tunnels.learned z_tunnel ∙ learns)))
          mates

      y_knows : m.calls.state y ≡ calls.Up → m.calls.remote y ≡ z
      y_knows up = ⊎_elim
          (λ (is : m.calls.mate z ≡ y).
          let some = g.known.up_remote y (g.known.booked_up y (g.known.up_booked y up)) in
          let none : m.calls.mate y ≡ 0 = ap m.calls.mate (sym is) ∙ g.known.mate_asks z (λ none. y_some (sym is ∙ none)) in
          ⊎_elim
          (λ (own : m.calls.mate y ≡ m.calls.remote y). absurd (some (sym own ∙ none)))
          (λ (back : m.calls.mate (m.calls.remote y) ≡ y). g.known.mate_once (m.calls.remote y) z (λ no_mate. y_some (sym back ∙ no_mate))
          (back ∙ sym is))
          (g.known.remote_mates y some))
          (λ (is : m.calls.mate y ≡ z). g.known.mate_remote y (λ none. z_some (sym is ∙ none)) ∙ is)
          mates

      not_there : (HoldsSession u r s → ⊥) → m.calls.state y ≡ calls.Up → ⊥
      not_there alone up =
          alone (pairs.found w h m g n i k j t u p s r (pairs.session_of w h m g n i k j t u p s r x)
          (pairs.call_joined w h m g n i k j t u p s x.call x.live).some
          (pairs.remote_of w h m g n i k j t u p s r x) up y_tunnel (y_knows up))

      -- the letter that connects it
      by_iccn : ConnectOutstanding m.channels (name n i) (name k j) (m.tunnels.entered (name n i)) y → IccnIsOutstanding t u r
      by_iccn c =
          let found = behind_taken c.place (Connect y) c.outstanding.0 c.outstanding.1 in
          let said = found.0 in
          let says = connects n a.peer said.asked said.letter.session y said.letter.message said.among in
          let header : name k said.letter.session ≡ name k r = ap (λ q. name q said.letter.session)
          (sym (pairs.goes_to w h m g n i k j t u p)) ∙ says.1 in
          record {
            letter = said.letter;
            says = says.0;
            header = same_id k said.letter.session r header;
            plain = hides_none e said.letter (iccn_no_request said.letter.message says.0) found.1;
            outstanding = found.2;
          }

      asks_for : QueriesJoined w h m → is_current (mode_of t.recovery) ≡ true → m.calls.asks (name n i) z ≡ true → AsksFor t s
      asks_for queries current is =
          let q = queries n i t p.one current p.three in
          sym (λ c. list_any (λ (x : Pair). names_same n x.sender s c) (left_of t.query)) ∙ (sym (q.asks z) ∙ is)

  -- the letter by which the other end ended it
  module _ (n i k j : ℕ) (t u : Tunnel) (p : Two w h m g n i k j t u) where
    by_cdn : (r : ℕ) → 0 < r → CdnOutstanding m.channels (name n i) (name k j) (m.tunnels.entered (name n i)) (name k r)
        → CdnIsOutstanding u t r
    by_cdn r some c =
        let entered = g.covered.one_epoch (name n i) (name k j) (pairs.linked w h m g n i k j t u p) p.here.phase p.there.phase in
        let back = swapped w h m g n i k j t u p in
        let found = behind_taken k j n i u t back c.place (Cdn (name k r) c.header)
        (subst (λ d. slice_get (m.channels.sent (name k j) d) c.place ≡ Some (Cdn (name k r) c.header)) entered c.outstanding.0)
        (subst (λ d. m.channels.taken (name n i) d ≤ c.place) entered c.outstanding.1) in
        let said = found.0 in
        let says = ends k _ said.asked said.letter.session (name k r) c.header said.letter.message said.among in
        record {
          letter = said.letter;
          says =
              (says.1, says.2, says.3 ∙ ap (λ q. message.Cdn q says.1 says.2) (session_is says.0 r some says.4));
          plain = hides_none _ said.letter (cdn_no_request k (name k r) said.letter.message says) found.1;
          outstanding = found.2;
        }
      where
        session_is : (session r : ℕ) → 0 < r → name_of k session ≡ name k r → session ≡ r
        session_is session r some is = ⊎_elim
            (λ (none : session ≡ 0). absurd (some_name k r some (sym is ∙ ap (λ q. name_of k q) none)))
            (λ (some_session : session ≡ 0 → ⊥). same_id k session r (sym (known_name k session (some_number session some_session)) ∙ is))
            (same_or_not session 0)

  covers : QueriesJoined w h m → (n i k j : ℕ) (t u : Tunnel) → AreOpen w n i k j t u → AreCovered w n i k j t u
  covers queries n i k j t u o =
      let p = two_of w h m g n i k j t u o in
      record {
        epochs = sym (pairs.epochs w h m g n i k j t u p);
        covered = λ s r x alone. ⊎_elim
            (λ c. inl (by_iccn n i k j t u p s r x c))
            (λ rest. inr (⊎_elim
            (λ c. inl (by_cdn n i k j t u p r (r_some n i k j t u p s r x) c))
            (λ asks. inr (asks_for n i k j t u p s r x queries o.current asks))
            rest))
            (g.covered.covered (name n i) (name k j) (name n s) (name k r) (pairs.linked w h m g n i k j t u p) p.here.phase p.there.phase
            (mated n i k j t u p s r x)
            (z_tunnel n i k j t u p s r x) (z_up n i k j t u p s r x) (not_there n i k j t u p s r x alone));
      }

pub joined_worlds_cover : BirthsOfRuns → CoverageOfRuns → JoinedWorldsCover
joined_worlds_cover births coverage w h m nodes holds joined queries = covers w h m
    (ground_of births coverage w h m nodes holds joined) queries
