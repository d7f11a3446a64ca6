-- The channel with which an end of a link enters the epoch of an answer, its own or its other end's: it begins by the numbers of the answer, and so did its
-- other end's, where that entered the epoch before.
use Rattle.std.proofs.Common.{◌≡◌, ◌⊎◌, inl, inr, ⊎_elim, ℕ, ◌<◌, List, length, refl, sym, ap, ap₂, ◌∙◌, subst, Some, arith}
use Rattle.end_model.specs.declared.moves.Froze.{Froze}
use Rattle.step_laws.specs.Letters.{Letter}
use Rattle.world_model.specs.World.{World, Sender}
use Rattle.channel_laws.specs.Accounts.{Part, Unmade, Opener, Acceptor, Renewed, Taken, Account, no_account, History}
use Rattle.channel_laws.specs.Facts.{makes, partner_in, AreEven, AreLinked, BeginsBy, IsRenewed, IsPart, AnswerOk, Holds}
use Rattle.channel_laws.specs.Epochs.{OfOneLink, EpochsKnown}
use Rattle.std.specs.List.{AllByRecursion}
use Rattle.connection_laws.specs.Facts.{IsNoOpening}
use Rattle.channel_laws.proofs.Growing.{Grows, account_grows}
use Rattle.channel_laws.proofs.Anew.{Begins, first, linked_on}
use Rattle.channel_laws.proofs.Linked.{not_itself, opener_of, acceptor_of, renewed_of}

-- the answer's epoch is entered by an end of its link
module _ (w v : World) (h : History) (holds : Holds w h) (known : EpochsKnown w h) (makes_as : (m c : ℕ) → makes v m c ≡ makes w m c) (n i q c : ℕ) (f : Froze)
    (is : h.answers q c ≡ Some f) (far far_id : ℕ) (link : AreLinked h.accounts n i far far_id)
    (of_one : (m j : ℕ) → (r : IsRenewed v h m j (makes w q c) (h.accounts m j (makes w q c))) → (h.accounts m j (makes w q c)).peer ≡ n
    → (h.accounts m j (makes w q c)).remote ≡ i → OfOneLink q f r.by.node r.froze)
    (new : Account) (answer : new.answer ≡ Some (record { node = q; tunnel = c })) where
  abbrev e : ℕ
  e = makes w q c

  ok : AnswerOk w h q c f
  ok = holds.answers q c f is

  pub agrees : (m j : ℕ) → IsRenewed v h m j e (h.accounts m j e) → (h.accounts m j e).peer ≡ n → (h.accounts m j e).remote ≡ i
      → new.answer ≡ (h.accounts m j e).answer
  agrees m j r peer remote =
      let same = known.one q c f r.by.node r.by.tunnel r.froze is r.answered (of_one m j r peer remote) (sym r.makes_it ∙ makes_as r.by.node r.by.tunnel) in
      let sender : record { node = q; tunnel = c } ≡ r.by = ap₂ (λ (x y : ℕ). (record { node = x; tunnel = y })) same.0 same.1 in
      answer ∙ (ap (λ (s : Sender). Some s) sender ∙ sym r.answer)

  -- ---- the channel itself

  module _ (g : Grows w v h) (k : History) (b : Begins h k n i e new) (peer : new.peer ≡ (h.accounts n i 0).peer) (remote : new.remote ≡ (h.accounts n i 0).remote)
      (begins : BeginsBy k n i new q c f) where
    peer_is : new.peer ≡ far
    peer_is = peer ∙ link.forth_peer

    remote_is : new.remote ≡ far_id
    remote_is = remote ∙ link.forth

    -- the other end's channel of the epoch
    abbrev other : Account
    other = h.accounts new.peer new.remote e

    other_is : k.accounts new.peer new.remote e ≡ other
    other_is = b.others new.peer new.remote e
        (λ (z : (new.peer ≡ n) × (new.remote ≡ i) × (e ≡ e)).
        not_itself h.accounts n i far far_id link (sym z.0 ∙ peer_is) (sym z.1 ∙ remote_is))

    other_cases : (other.part ≡ Renewed) ⊎ (other ≡ no_account)
    other_cases = by other.part refl
      where
        lt : 0 < e
        lt = ok.epoch_some

        by : (p : Part) → other.part ≡ p → (other.part ≡ Renewed) ⊎ (other ≡ no_account)
        by Unmade is = inr (subst (IsPart w h new.peer new.remote e other) is (holds.accounts new.peer new.remote e).part)
        by Opener is = (let z = (opener_of w h new.peer new.remote e other (holds.accounts new.peer new.remote e) is).0 in absurd (omega (arith, z, lt)))
        by Acceptor is = (let z = (acceptor_of w h new.peer new.remote e other (holds.accounts new.peer new.remote e) is).0 in absurd (omega (arith, z, lt)))
        by Renewed is = inl is

    other_renewed : other.part ≡ Renewed → IsRenewed v h new.peer new.remote e other
    other_renewed is = renewed_of v h new.peer new.remote e other (account_grows w v h g new.peer new.remote e other (holds.accounts new.peer new.remote e)) is

    -- it goes back to this one
    other_back : IsRenewed v h new.peer new.remote e other → (other.peer ≡ n) × (other.remote ≡ i)
    other_back r = (
      r.peer ∙ (ap₂ (λ x y. (h.accounts x y 0).peer) peer_is remote_is ∙ link.back_peer),
      r.remote ∙ (ap₂ (λ x y. (h.accounts x y 0).remote) peer_is remote_is ∙ link.back),
    )

    -- of a channel of which nothing was known it has taken nothing, and given few letters
    even_new : AreEven new (k.accounts new.peer new.remote e)
    even_new = ⊎_elim
        (λ is.
        let r = other_renewed is in
        let back = other_back r in
        let mine : partner_in h.accounts e other ≡ no_account = ap₂ (λ x y. h.accounts x y e) back.0 back.1 ∙ b.was in
        let none_given = ap (λ (a : Account). length a.given) mine in
        let none_taken = ap (λ (a : Account). length a.taken) mine in
        let here = r.joined.here in
        let few = r.joined.few_here in
        let mine_given = ap (λ (l : List Letter). length l) b.given in
        let mine_taken = ap (λ (l : List Taken). length l) b.taken in
        let theirs_given = ap (λ (a : Account). length a.given) other_is in
        let theirs_taken = ap (λ (a : Account). length a.taken) other_is in
        record {
          here = omega (arith, mine_taken);
          there = omega (arith, theirs_taken, here, none_given);
          few_here = omega (arith, mine_given);
          few_there = omega (arith, theirs_given, few, none_taken);
        })
        (λ none.
        let mine_given = ap (λ (l : List Letter). length l) b.given in
        let mine_taken = ap (λ (l : List Taken). length l) b.taken in
        let theirs_given = ap (λ (a : Account). length a.given) (other_is ∙ none) in
        let theirs_taken = ap (λ (a : Account). length a.taken) (other_is ∙ none) in
        record {
          here = omega (arith, mine_taken);
          there = omega (arith, theirs_taken);
          few_here = omega (arith, mine_given);
          few_there = omega (arith, theirs_given);
        })
        other_cases

    pub new_renewed : IsRenewed v k n i e new
    new_renewed = record {
      later = ok.epoch_some;
      peer = peer ∙ ap (λ (a : Account). a.peer) (sym (first h k n i e new b n i));
      remote = remote ∙ ap (λ (a : Account). a.remote) (sym (first h k n i e new b n i));
      linked = linked_on h k n i e new b n i new.peer new.remote
          (subst (λ z. AreLinked h.accounts n i z new.remote) (sym peer_is) (subst (λ z. AreLinked h.accounts n i far z) (sym remote_is) link));
      by = record { node = q; tunnel = c };
      answer = answer;
      froze = f;
      answered = b.answers q c ∙ is;
      makes_it = makes_as q c;
      begins = begins;
      other = ⊎_elim (λ q. inl (ap (λ (a : Account). a.part) other_is ∙ q)) (λ none. inr (other_is ∙ none)) other_cases;
      same = λ part.
          (let r = other_renewed (ap (λ (a : Account). a.part) (sym other_is) ∙ part) in
          let back = other_back r in
          ap (λ (a : Account). a.answer) other_is ∙ sym (agrees new.peer new.remote r back.0 back.1));
      joined = even_new;
      no_opening = subst (AllByRecursion (λ (l : Letter). IsNoOpening l.message)) (sym b.given) tt;
    }
