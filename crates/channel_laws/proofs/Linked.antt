-- The two ends of a link, and the numbers with which they begin an epoch.
use Rattle.std.proofs.Common.{◌≡◌, ◌⊎◌, inl, inr, ⊎_elim, ℕ, ◌+◌, ◌<◌, ◌≤◌, [], length, refl, sym, ap, ap₂, ◌∙◌, subst, Some, arith}
use Rattle.id_table.specs.Order.{same_or_not}
use Rattle.end_model.specs.declared.moves.Froze.{Froze}
use Rattle.world_model.specs.World.{World, Sender}
use Rattle.channel_laws.specs.Accounts.{Part, Unmade, Opener, Acceptor, Renewed, Account, History}
use Rattle.channel_laws.specs.Facts.{Accounts, IsMade, partner_in, IsLost, IsClosed, HasStopped, AreJoined, IsOpener, IsAcceptor, AreLinked, BeginsBy, AsGiver, AsPeer, IsRenewed, IsPart, AccountOk}

-- ---- parts

pub part_cases : (k : Part) → (k ≡ Unmade → ⊥) → (k ≡ Opener) ⊎ ((k ≡ Acceptor) ⊎ (k ≡ Renewed))
part_cases Unmade h = absurd (h refl)
part_cases Opener h = inl refl
part_cases Acceptor h = inr (inl refl)
part_cases Renewed h = inr (inr refl)

module _ (w : World) (h : History) (n i e : ℕ) (a : Account) (ok : AccountOk w h n i e a) where
  pub opener_of : a.part ≡ Opener → (e ≡ 0) × IsOpener h.accounts n i a
  opener_of is = subst (IsPart w h n i e a) is ok.part

  pub acceptor_of : a.part ≡ Acceptor → (e ≡ 0) × IsAcceptor h.accounts n i a
  acceptor_of is = subst (IsPart w h n i e a) is ok.part

  pub renewed_of : a.part ≡ Renewed → IsRenewed w h n i e a
  renewed_of is = subst (IsPart w h n i e a) is ok.part

  -- a channel of epoch 0 was opened or accepted, and one of a later epoch began anew
  pub first_or_later : IsMade a → (e ≡ 0) ⊎ IsRenewed w h n i e a
  first_or_later made = ⊎_elim
      (λ (is : a.part ≡ Opener). inl (opener_of is).0)
      (λ (k : (a.part ≡ Acceptor) ⊎ (a.part ≡ Renewed)). ⊎_elim (λ is. inl (acceptor_of is).0) (λ is. inr (renewed_of is)) k)
      (part_cases a.part made)

-- ---- links

pub linked_back : (accs : Accounts) (n i m j : ℕ) → AreLinked accs n i m j → AreLinked accs m j n i
linked_back accs n i m j l = record {
  forth_peer = l.back_peer;
  forth = l.back;
  back_peer = l.forth_peer;
  back = l.forth;
  from_some = l.to_some;
  to_some = l.from_some;
  from_late = l.to_late;
  to_late = l.from_late;
  parts = ⊎_elim (λ k. inr (k.1, k.0)) (λ k. inl (k.1, k.0)) l.parts;
}

-- a tunnel isn't its own other end
pub not_itself : (accs : Accounts) (n i m j : ℕ) → AreLinked accs n i m j → n ≡ m → i ≡ j → ⊥
not_itself accs n i m j l nodes ids =
    let same : accs n i 0 ≡ accs m j 0 = ap₂ (λ x y. accs x y 0) nodes ids in
    ⊎_elim
    (λ (k : ((accs n i 0).part ≡ Opener) × ((accs m j 0).part ≡ Acceptor)).
    let two : Opener ≡ Acceptor = sym k.0 ∙ (ap (λ (x : Account). x.part) same ∙ k.1) in absurd cc)
    (λ (k : ((accs n i 0).part ≡ Acceptor) × ((accs m j 0).part ≡ Opener)).
    let two : Acceptor ≡ Opener = sym k.0 ∙ (ap (λ (x : Account). x.part) same ∙ k.1) in absurd cc)
    l.parts

-- ---- first numbers

-- of two channels of one epoch the one begins with the number that the other expects
pub record BeginAlike (a b : Account) : Type 0 where
  pub here : a.first_given ≡ b.first_taken
  pub there : b.first_given ≡ a.first_taken

-- both ends of a link that began by one answer begin alike
pub begin_alike : (h : History) (n i m j : ℕ) (a b : Account) → AreLinked h.accounts n i m j → (k c : ℕ) (f : Froze) → BeginsBy h n i a k c f → BeginsBy h m j b k c f
    → BeginAlike a b
begin_alike h n i m j a b l k c f (AsGiver n1 i1 p1 r1 g1 t1) (AsGiver n2 i2 p2 r2 g2 t2) =
    absurd (not_itself h.accounts n i m j l (sym n1 ∙ n2) (sym i1 ∙ i2))
begin_alike h n i m j a b l k c f (AsGiver n1 i1 p1 r1 g1 t1) (AsPeer n2 i2 p2 r2 g2 t2) = record { here = g1 ∙ sym t2; there = g2 ∙ sym t1 }
begin_alike h n i m j a b l k c f (AsPeer n1 i1 p1 r1 g1 t1) (AsGiver n2 i2 p2 r2 g2 t2) = record { here = g1 ∙ sym t2; there = g2 ∙ sym t1 }
begin_alike h n i m j a b l k c f (AsPeer n1 i1 p1 r1 g1 t1) (AsPeer n2 i2 p2 r2 g2 t2) =
    absurd (not_itself h.accounts n i m j l (sym p1 ∙ p2) (sym r1 ∙ r2))

-- so do the two channels of an epoch
pub renewed_alike : (w : World) (h : History) (n i m j e : ℕ) (a b : Account) → IsRenewed w h n i e a → IsRenewed w h m j e b → AreLinked h.accounts n i m j
    → a.answer ≡ b.answer → BeginAlike a b
renewed_alike w h n i m j e a b x y l answers =
    let both : Some x.by ≡ Some y.by = sym x.answer ∙ (answers ∙ y.answer) in
    let by : x.by ≡ y.by = cc in
    let there : h.answers x.by.node x.by.tunnel ≡ Some y.froze = subst (λ (s : Sender). h.answers s.node s.tunnel ≡ Some y.froze) (sym by) y.answered in
    let frozen : Some x.froze ≡ Some y.froze = sym x.answered ∙ there in
    let froze : y.froze ≡ x.froze = cc in
    let second : BeginsBy h m j b x.by.node x.by.tunnel x.froze =
    subst (λ (f : Froze). BeginsBy h m j b x.by.node x.by.tunnel f) froze (subst (λ (s : Sender). BeginsBy h m j b s.node s.tunnel y.froze) (sym by) y.begins) in
    begin_alike h n i m j a b l x.by.node x.by.tunnel x.froze x.begins second

-- ---- epoch 0

-- no letter was given that is far ahead of those that were taken, and hardly one taken that wasn't given
pub record AreNearby (a b : Account) : Type 0 where
  pub given : length b.given ≤ length a.taken + 8192
  pub taken : length b.taken ≤ length a.given + 2

pub record IsSmall (a : Account) : Type 0 where
  pub given : length a.given ≤ 2
  pub taken : length a.taken ≤ 2

pub unlearned_small : (accs : Accounts) (n i : ℕ) (a : Account) → IsOpener accs n i a → a.remote ≡ 0 → IsSmall a
unlearned_small accs n i a h none = record {
  given = ⊎_elim (λ (one : length a.given ≡ 1). omega arith) (λ (k : IsLost a × (length a.given ≤ 2)). k.1) (h.one_given none);
  taken = ⊎_elim (λ (z : a.taken ≡ []). let e = ap length z in omega arith) (λ (k : IsLost a × (length a.taken ≤ 2)). k.1) (h.none none);
}

module _ (w : World) (h : History) (accounts : (m j e : ℕ) → AccountOk w h m j e (h.accounts m j e)) (n i m j : ℕ) (some : 0 < i) (made : IsMade (h.accounts m j 0))
    (peer : (h.accounts m j 0).peer ≡ n) (remote : (h.accounts m j 0).remote ≡ i) where
  abbrev a : Account
  a = h.accounts n i 0

  abbrev b : Account
  b = h.accounts m j 0

  partner : partner_in h.accounts 0 b ≡ a
  partner = ap₂ (λ x y. h.accounts x y 0) peer remote

  known : b.remote ≡ 0 → ⊥
  known z = absurd (omega (arith, remote, z, some))

  of_opener : IsOpener h.accounts m j b → AreNearby a b
  of_opener k =
      let joined = subst (AreJoined b) partner (k.joined known) in
      record {
        given = joined.few_here;
        taken = ⊎_elim
            (λ (le : length b.taken ≤ length a.given). omega arith)
            (λ (two : IsClosed b × (length b.taken ≤ 2)). let le = two.1 in omega arith)
            joined.here;
      }

  of_acceptor : IsAcceptor h.accounts m j b → AreNearby a b
  of_acceptor k =
      let part : a.part ≡ Opener = subst (λ (x : Account). x.part ≡ Opener) partner k.part in
      let back : a.peer ≡ m = subst (λ (x : Account). x.peer ≡ m) partner k.peer in
      let opener = (opener_of w h n i 0 a (accounts n i 0) part).1 in
      ⊎_elim
      (λ (named : a.remote ≡ j).
      let lt = (accounts m j 0).some made in
      let joined = subst (AreJoined a) (ap₂ (λ x y. h.accounts x y 0) back named) (opener.joined (λ z. absurd (omega (arith, named, z, lt)))) in
      record { given = joined.few_there; taken = (let le = joined.there in omega arith) })
      (λ (no : a.remote ≡ j → ⊥).
      let apart = λ (named : (partner_in h.accounts 0 b).remote ≡ j). no (subst (λ (x : Account). x.remote ≡ j) partner named) in
      record {
        given = ⊎_elim
            (λ (one : length b.given ≡ 1). omega arith)
            (λ (s : HasStopped b). let two = s.few in omega arith)
            (k.one_given apart);
        taken = ⊎_elim
            (λ (one : length b.taken ≡ 1). omega arith)
            (λ (lost : IsLost (partner_in h.accounts 0 b) × (length b.taken ≤ 2)). let le = lost.1 in omega arith)
            (k.one_taken apart);
      })
      (same_or_not a.remote j)

  pub nearby : AreNearby a b
  nearby = ⊎_elim
      (λ is. of_opener (opener_of w h m j 0 b (accounts m j 0) is).1)
      (λ (k : (b.part ≡ Acceptor) ⊎ (b.part ≡ Renewed)).
      ⊎_elim
      (λ is. of_acceptor (acceptor_of w h m j 0 b (accounts m j 0) is).1)
      (λ is. let lt = (renewed_of w h m j 0 b (accounts m j 0) is).later in absurd (omega (arith, lt)))
      k)
      (part_cases b.part made)
