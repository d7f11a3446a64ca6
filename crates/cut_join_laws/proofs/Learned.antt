-- What an opener learns by a record that a stop keeps is an acceptor of its SCCRQ.
use Rattle.std.proofs.Common.{◌≡◌, ℕ, ◌<◌, Bool, true, false, refl, sym, ap, ap₂, ◌∙◌, subst, arith}
use Rattle.std.proofs.lemmas.Bool.Decides.{nat_tests}
use Rattle.std.specs.Prelude.{◌==◌, if◌then◌else◌}
use Rattle.world_model.specs.World.{World}
use Rattle.session_laws.specs.Names.{name, name_of}
use Rattle.channel_laws.specs.Accounts.{Part, Unmade, Opener, Acceptor, Renewed, Account, no_account, History}
use Rattle.channel_laws.specs.Facts.{IsMade, IsPart, IsOpener, IsAcceptor, IsRenewed, partner_in, Holds}
use Rattle.recovery_laws.specs.Joined.{is_early, learned_name, LearnedSo, ByLetter, ByRecord}
use Rattle.recovery_laws.proofs.Epochs.{some_name, same_name}

some_id : (j : ℕ) → (j == 0) ≡ false → 0 < j
some_id j is = grind (arith, nat_tests)

-- where an account has learned some other end, that is the one that it goes to
learned_is : (a : Account) → (learned_name a ≡ 0 → ⊥) → (0 < a.remote) × (learned_name a ≡ name a.peer a.remote)
learned_is a some = by (is_early a.part a.closed) some
  where
    name_is : (b : Bool) → (a.remote == 0) ≡ b → ((if b then 0 else name a.peer a.remote) ≡ 0 → ⊥)
        → (0 < a.remote) × ((if b then 0 else name a.peer a.remote) ≡ name a.peer a.remote)
    name_is true is k = absurd (k refl)
    name_is false is k = (some_id a.remote is, refl)

    by : (b : Bool) → ((if b then 0 else name_of a.peer a.remote) ≡ 0 → ⊥)
        → (0 < a.remote) × ((if b then 0 else name_of a.peer a.remote) ≡ name a.peer a.remote)
    by true k = absurd (k refl)
    by false k = name_is (a.remote == 0) refl k

-- an acceptor was made
acceptor_made : (a : Account) → a.part ≡ Acceptor → IsMade a
acceptor_made a is none = let two : Acceptor ≡ Unmade = sym is ∙ none in cc

-- what a tunnel has learned is the name of a node's tunnel
pub record HasName (learned : ℕ) : Type 0 where
  pub node : ℕ
  pub tunnel : ℕ
  pub node_fits : node < 256
  pub tunnel_fits : tunnel < 65536
  pub is : learned ≡ name node tunnel

module _ (w : World) (h : History) (holds : Holds w h) (n i : ℕ) where
  abbrev own : Account
  own = h.accounts n i 0

  pub has_name : (learned : ℕ) → LearnedSo h.accounts n i learned → (learned ≡ 0 → ⊥) → HasName learned
  has_name learned (ByLetter is) some =
      let q = learned_is own (λ z. some (is ∙ z)) in
      record {
        node = own.peer;
        tunnel = own.remote;
        node_fits = (holds.accounts n i 0).peer;
        tunnel_fits = (holds.accounts n i 0).remote;
        is = is ∙ q.1;
      }
  has_name learned (ByRecord j part none lt is other back to) some =
      let made = acceptor_made (h.accounts own.peer j 0) other in
      record {
        node = own.peer;
        tunnel = j;
        node_fits = (holds.accounts n i 0).peer;
        tunnel_fits = (holds.accounts own.peer j 0).id made;
        is = is;
      }

  -- a tunnel that learned an opener which has learned none is an acceptor of its
  module _ (some : 0 < i) (fits : i < 65536) (opener : own.part ≡ Opener) (none : own.remote ≡ 0) (p j : ℕ) where
    abbrev a : Account
    a = h.accounts p j 0

    not_accepted : (b : Account) → b ≡ own → b.part ≡ Acceptor → ⊥
    not_accepted b same is = let two : Opener ≡ Acceptor = sym opener ∙ (ap (λ (x : Account). x.part) (sym same) ∙ is) in cc

    accepted : a.peer ≡ n → a.remote ≡ i → LearnedSo h.accounts n i (name p j)
    accepted peer remote = by a.part refl
      where
        partner : partner_in h.accounts 0 a ≡ own
        partner = ap₂ (λ x y. h.accounts x y 0) peer remote

        known : a.remote ≡ 0 → ⊥
        known z = omega (arith, z, remote, some)

        by : (q : Part) → a.part ≡ q → LearnedSo h.accounts n i (name p j)
        by Unmade is =
            let nothing : a ≡ no_account = subst (IsPart w h p j 0 a) is (holds.accounts p j 0).part in
            absurd (known (ap (λ (x : Account). x.remote) nothing))
        by Opener is =
            let o : (0 ≡ 0) × IsOpener h.accounts p j a = subst (IsPart w h p j 0 a) is (holds.accounts p j 0).part in
            absurd (not_accepted (partner_in h.accounts 0 a) partner (o.1.part known))
        by Acceptor is =
            let o : (0 ≡ 0) × IsAcceptor h.accounts p j a = subst (IsPart w h p j 0 a) is (holds.accounts p j 0).part in
            let to : own.peer ≡ p = ap (λ (x : Account). x.peer) (sym partner) ∙ o.1.peer in
            let made = acceptor_made a is in
            ByRecord j opener none ((holds.accounts p j 0).some made) (ap (λ q. name q j) (sym to))
            (ap (λ q. (h.accounts q j 0).part) to ∙ is) (ap (λ q. (h.accounts q j 0).peer) to ∙ peer)
            (ap (λ q. (h.accounts q j 0).remote) to ∙ remote)
        by Renewed is =
            let r : IsRenewed w h p j 0 a = subst (IsPart w h p j 0 a) is (holds.accounts p j 0).part in
            let lt = r.later in
            absurd (omega (arith, lt))

    pub learned_back : LearnedSo h.accounts p j (name n i) → LearnedSo h.accounts n i (name p j)
    learned_back (ByLetter is) =
        let q = learned_is a (λ z. some_name n i some (is ∙ z)) in
        let same = same_name n i a.peer a.remote fits (holds.accounts p j 0).remote (is ∙ q.1) in
        accepted (sym same.0) (sym same.1)
    learned_back (ByRecord k part free lt is other back to) =
        let made = acceptor_made (h.accounts a.peer k 0) other in
        let same = same_name n i a.peer k fits ((holds.accounts a.peer k 0).id made) is in
        absurd (not_accepted (h.accounts a.peer k 0) (ap₂ (λ x y. h.accounts x y 0) (sym same.0) (sym same.1)) other)
