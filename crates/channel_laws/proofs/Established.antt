-- What an established tunnel knows of its other end, also where it is frozen or restored; and two tunnels that know each other so are the ends of a link.
use Rattle.std.proofs.Common.{◌≡◌, inl, inr, ⊎_elim, ℕ, ◌<◌, Bool, true, false, [], refl, sym, ap, ap₂, ◌∙◌, subst, Option, Some, None, arith}
use Rattle.std.proofs.lemmas.Bool.{true≢false}
use Rattle.std.proofs.lemmas.Option.{none-some}
use Rattle.tunnel_fsm.specs.Rows.{state_number}
use Rattle.end_model.specs.Tunnels.{Tunnel, Recovering, ByAttempt, ByAnswer, mode_of, is_current}
use Rattle.world_model.specs.World.{World, epoch_of}
use Rattle.connection_laws.specs.Facts.{AllWait}
use Rattle.channel_laws.specs.Accounts.{Part, Unmade, Opener, Acceptor, Renewed, Account, History}
use Rattle.channel_laws.specs.Facts.{Accounts, IsMade, partner_in, IsOpen, IsShut, AreLinked, KnowsBy, ByLetter, ByRecord, IsInState, ChannelOk, IsRecovered, LiveOk, Holds}
use Rattle.channel_laws.proofs.Linked.{part_cases, opener_of, acceptor_of, renewed_of}

-- a tunnel knows the id of its other end; an acceptor's opener has learned it; and it wasn't closed before it heeded a letter
pub record KnowsOwn (accs : Accounts) (n i remote : ℕ) : Type 0 where
  pub knows : KnowsBy accs n i remote
  pub learned : (accs n i 0).part ≡ Acceptor → (partner_in accs 0 (accs n i 0)).remote ≡ i
  pub late : (accs n i 0).closed ≡ Some 0 → ⊥

module _ (w : World) (h : History) (holds : Holds w h) where
  -- ---- one that is neither frozen nor restored

  module _ (n i : ℕ) (t : Tunnel) (live : LiveOk w h n i t) (three : state_number t.control.state ≡ 3) where
    abbrev e : ℕ
    e = epoch_of w n i

    open_unless : (a : Account) → a.closed ≡ None → a.closed ≡ Some 0 → ⊥
    open_unless a is closed = none-some 0 (sym is ∙ closed)

    of_part : (a : Account) → h.accounts n i e ≡ a → ChannelOk h.accounts n i e a t → (p : Part) → a.part ≡ p → KnowsOwn h.accounts n i t.control.remote
    of_part a is c Unmade own = absurd (subst (IsInState h.accounts i e a t) own c.state)
    of_part a is c Opener own =
        let first = (opener_of w h n i e (h.accounts n i e) (holds.accounts n i e) (ap (λ (x : Account). x.part) is ∙ own)).0 in
        let zero : h.accounts n i 0 ≡ a = ap (h.accounts n i) (sym first) ∙ is in
        let opened : (a.remote ≡ 0 → ⊥) × IsOpen a = ⊎_elim
        (λ (q : (state_number t.control.state ≡ 1) × (a.remote ≡ 0) × IsOpen a × AllWait t.calls). let one = q.0 in absurd (omega (arith, one, three)))
        (λ k. ⊎_elim
        (λ (q : (state_number t.control.state ≡ 3) × (a.remote ≡ 0 → ⊥) × IsOpen a). (q.1, q.2))
        (λ (q : IsShut a t). let four = q.0 in absurd (omega (arith, four, three))) k)
        (subst (IsInState h.accounts i e a t) own c.state) in
        record {
          knows = ByLetter (ap (λ (x : Account). x.remote) zero ∙ sym c.remote);
          learned = λ acceptor. (let two : Opener ≡ Acceptor = sym own ∙ (ap (λ (x : Account). x.part) (sym zero) ∙ acceptor) in absurd cc);
          late = λ closed. open_unless a opened.1 (ap (λ (x : Account). x.closed) (sym zero) ∙ closed);
        }
    of_part a is c Acceptor own =
        let first = (acceptor_of w h n i e (h.accounts n i e) (holds.accounts n i e) (ap (λ (x : Account). x.part) is ∙ own)).0 in
        let zero : h.accounts n i 0 ≡ a = ap (h.accounts n i) (sym first) ∙ is in
        let opened : ((partner_in h.accounts 0 a).remote ≡ i) × IsOpen a = ⊎_elim
        (λ (q : (state_number t.control.state ≡ 2) × (t.calls ≡ []) × IsOpen a). let two = q.0 in absurd (omega (arith, two, three)))
        (λ k. ⊎_elim
        (λ (q : (state_number t.control.state ≡ 3) × ((partner_in h.accounts 0 a).remote ≡ i) × IsOpen a). (q.1, q.2))
        (λ (q : IsShut a t). let four = q.0 in absurd (omega (arith, four, three))) k)
        (subst (IsInState h.accounts i e a t) own c.state) in
        record {
          knows = ByLetter (ap (λ (x : Account). x.remote) zero ∙ sym c.remote);
          learned = λ acceptor. ap (λ (x : Account). (partner_in h.accounts 0 x).remote) zero ∙ opened.0;
          late = λ closed. open_unless a opened.1 (ap (λ (x : Account). x.closed) (sym zero) ∙ closed);
        }
    of_part a is c Renewed own =
        let r = renewed_of w h n i e (h.accounts n i e) (holds.accounts n i e) (ap (λ (x : Account). x.part) is ∙ own) in
        let remote : (h.accounts n i 0).remote ≡ t.control.remote = sym r.remote ∙ (ap (λ (x : Account). x.remote) is ∙ sym c.remote) in
        record {
          knows = ByLetter remote;
          learned = λ acceptor. ap₂ (λ x y. (h.accounts x y 0).remote) (sym r.peer) (sym r.remote) ∙ r.linked.back;
          late = r.linked.from_late;
        }

    current_knows : is_current (mode_of t.recovery) ≡ true → KnowsOwn h.accounts n i t.control.remote
    current_knows current = of_part (h.accounts n i e) refl (live.channel current) (h.accounts n i e).part refl

    -- ---- one that is

    late_by : (r : Recovering) → IsRecovered w h n i r → (h.accounts n i 0).closed ≡ Some 0 → ⊥
    late_by (ByAttempt c) q closed =
        let m = q.0.0 in
        let ok = (holds.attempts n c.local m q.0.1).booked in
        ok.late (ap (λ j. (h.accounts n j 0).closed) q.0.2 ∙ closed)
    late_by (ByAnswer a) q closed =
        let ok = holds.answers n a.connection.local q.0 q.1 in
        ok.linked.from_late (ap (λ j. (h.accounts n j 0).closed) q.2 ∙ closed)

    inactive_knows : is_current (mode_of t.recovery) ≡ false → KnowsOwn h.accounts n i t.control.remote
    inactive_knows inactive = record {
      knows = live.knows inactive;
      learned = live.learned inactive;
      late = λ closed. by t.recovery refl closed;
    }
      where
        by : (o : Option Recovering) → t.recovery ≡ o → (h.accounts n i 0).closed ≡ Some 0 → ⊥
        by None is closed = true≢false (ap (λ q. is_current (mode_of q)) (sym is) ∙ inactive)
        by (Some r) is closed = late_by r (live.recovery r is) closed

    pub established_knows : KnowsOwn h.accounts n i t.control.remote
    established_knows = by (is_current (mode_of t.recovery)) refl
      where
        by : (b : Bool) → is_current (mode_of t.recovery) ≡ b → KnowsOwn h.accounts n i t.control.remote
        by true is = current_knows is
        by false is = inactive_knows is

  -- ---- two tunnels that know each other

  module _ (n i m j : ℕ) (made : IsMade (h.accounts n i 0)) (other_made : IsMade (h.accounts m j 0)) (peer : (h.accounts n i 0).peer ≡ m) (back_peer : (h.accounts m j 0).peer ≡ n)
      (here : KnowsOwn h.accounts n i j) (there : KnowsOwn h.accounts m j i) where
    some : 0 < i
    some = (holds.accounts n i 0).some made

    other_some : 0 < j
    other_some = (holds.accounts m j 0).some other_made

    -- both by a letter
    by_letters : (h.accounts n i 0).remote ≡ j → (h.accounts m j 0).remote ≡ i → AreLinked h.accounts n i m j
    by_letters forth back = record {
      forth_peer = peer;
      forth = forth;
      back_peer = back_peer;
      back = back;
      from_some = some;
      to_some = other_some;
      from_late = here.late;
      to_late = there.late;
      parts = ⊎_elim
          (λ (is : (h.accounts n i 0).part ≡ Opener).
          let o = (opener_of w h n i 0 (h.accounts n i 0) (holds.accounts n i 0) is).1 in
          inl (is, sym (ap (λ (a : Account). a.part) partner) ∙ o.part (λ z. absurd (omega (arith, z, forth, other_some)))))
          (λ k. ⊎_elim
          (λ (is : (h.accounts n i 0).part ≡ Acceptor).
          let a = (acceptor_of w h n i 0 (h.accounts n i 0) (holds.accounts n i 0) is).1 in
          inr (is, sym (ap (λ (x : Account). x.part) partner) ∙ a.part))
          (λ (is : (h.accounts n i 0).part ≡ Renewed). let lt = (renewed_of w h n i 0 (h.accounts n i 0) (holds.accounts n i 0) is).later in absurd (omega (arith, lt)))
          k)
          (part_cases (h.accounts n i 0).part made);
    }
      where
        partner : partner_in h.accounts 0 (h.accounts n i 0) ≡ h.accounts m j 0
        partner = ap₂ (λ x y. h.accounts x y 0) peer forth

    by : KnowsBy h.accounts n i j → KnowsBy h.accounts m j i → AreLinked h.accounts n i m j
    by (ByLetter forth) (ByLetter back) = by_letters forth back
    by (ByLetter forth) (ByRecord part none acceptor home own) =
        let here_acceptor : (h.accounts n i 0).part ≡ Acceptor = ap (λ x. (h.accounts x i 0).part) (sym back_peer) ∙ acceptor in
        let told = here.learned here_acceptor in
        let is : (h.accounts m j 0).remote ≡ i = ap₂ (λ x y. (h.accounts x y 0).remote) (sym peer) (sym forth) ∙ told in
        absurd (omega (arith, none, is, some))
    by (ByRecord part none acceptor home own) back =
        let there_acceptor : (h.accounts m j 0).part ≡ Acceptor = ap (λ x. (h.accounts x j 0).part) (sym peer) ∙ acceptor in
        let its_own : (h.accounts m j 0).remote ≡ i = ap (λ x. (h.accounts x j 0).remote) (sym peer) ∙ own in
        let told = there.learned there_acceptor in
        let is : (h.accounts n i 0).remote ≡ j = ap₂ (λ x y. (h.accounts x y 0).remote) (sym back_peer) (sym its_own) ∙ told in
        absurd (omega (arith, none, is, other_some))

    pub know_each_other : AreLinked h.accounts n i m j
    know_each_other = by here.knows there.knows

  -- ---- a tunnel that knows its other end, which knows it then

  module _ (n i m j : ℕ) (made : IsMade (h.accounts n i 0)) (other_made : IsMade (h.accounts m j 0)) (peer : (h.accounts n i 0).peer ≡ m)
      (back_peer : (h.accounts m j 0).peer ≡ n) (here : KnowsOwn h.accounts n i j)
      (learned : (h.accounts m j 0).part ≡ Acceptor → (partner_in h.accounts 0 (h.accounts m j 0)).remote ≡ j)
      (late : (h.accounts m j 0).closed ≡ Some 0 → ⊥) where
    back_by : KnowsBy h.accounts n i j → (h.accounts m j 0).remote ≡ i
    back_by (ByLetter forth) =
        let there : 0 < j = (holds.accounts m j 0).some other_made in
        let same : (h.accounts m j 0).remote ≡ (partner_in h.accounts 0 (h.accounts n i 0)).remote =
        ap₂ (λ x y. (h.accounts x y 0).remote) (sym peer) (sym forth) in
        ⊎_elim
        (λ (is : (h.accounts n i 0).part ≡ Opener).
        let o = (opener_of w h n i 0 (h.accounts n i 0) (holds.accounts n i 0) is).1 in
        same ∙ o.remote (λ z. absurd (omega (arith, z, forth, there))))
        (λ k. ⊎_elim
        (λ (is : (h.accounts n i 0).part ≡ Acceptor). same ∙ here.learned is)
        (λ (is : (h.accounts n i 0).part ≡ Renewed). let lt = (renewed_of w h n i 0 (h.accounts n i 0) (holds.accounts n i 0) is).later in absurd (omega (arith, lt)))
        k)
        (part_cases (h.accounts n i 0).part made)
    back_by (ByRecord part none acceptor home own) = ap (λ x. (h.accounts x j 0).remote) (sym peer) ∙ own

    pub known_by_one : AreLinked h.accounts n i m j
    known_by_one = know_each_other n i m j made other_made peer back_peer here (record { knows = ByLetter (back_by here.knows); learned = learned; late = late })
