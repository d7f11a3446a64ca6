-- No two tunnels of a node have the same other end: the id of another node's that a tunnel goes to is that of one which names it, or which opened it.
use Rattle.std.proofs.Common.{◌≡◌, ◌⊎◌, inl, inr, ⊎_elim, ℕ, Bool, true, false, refl, sym, ap, ap₂, ◌∙◌, subst, arith}
use Rattle.end_model.specs.Tunnels.{Tunnel, mode_of, is_current}
use Rattle.end_model.specs.End.{End}
use Rattle.world_model.specs.World.{World, epoch_of}
use Rattle.connection_laws.proofs.Hearing.{same_address}
use Rattle.channel_laws.specs.Accounts.{Part, Unmade, Opener, Acceptor, Renewed, Account, History}
use Rattle.channel_laws.specs.Facts.{KnowsBy, ByLetter, ByRecord, IsOpener, ChannelOk, LiveOk, EndOk, Holds}
use Rattle.channel_laws.proofs.Linked.{part_cases, opener_of, acceptor_of, renewed_of}
use Rattle.channel_laws.proofs.Extending.{IsOnly}
use Rattle.channel_laws.proofs.Ends.{Puts, IsAlone}

-- an account names a tunnel, or opened its own
abbrev pub NamesOrOpened : Account → ℕ → Type 0
NamesOrOpened a j = (a.remote ≡ j) ⊎ (a.part ≡ Opener)

module _ (w : World) (h : History) (holds : Holds w h) (n j : ℕ) (t : Tunnel) (live : LiveOk w h n j t) (some : t.control.remote ≡ 0 → ⊥) where
  -- by the channel of epoch 0
  by_first : (h.accounts n j 0).remote ≡ t.control.remote → NamesOrOpened (h.accounts (h.accounts n j 0).peer t.control.remote 0) j
  by_first is =
      let known = λ (z : (h.accounts n j 0).remote ≡ 0). some (sym is ∙ z) in
      subst (λ r. NamesOrOpened (h.accounts (h.accounts n j 0).peer r 0) j) is
      (⊎_elim
      (λ (own : (h.accounts n j 0).part ≡ Opener). inl ((opener_of w h n j 0 (h.accounts n j 0) (holds.accounts n j 0) own).1.remote known))
      (λ q. ⊎_elim
      (λ (own : (h.accounts n j 0).part ≡ Acceptor). inr (acceptor_of w h n j 0 (h.accounts n j 0) (holds.accounts n j 0) own).1.part)
      (λ (own : (h.accounts n j 0).part ≡ Renewed). let lt = (renewed_of w h n j 0 (h.accounts n j 0) (holds.accounts n j 0) own).later in absurd (omega (arith, lt)))
      q)
      (part_cases (h.accounts n j 0).part live.made))

  pub names_back : NamesOrOpened (h.accounts (h.accounts n j 0).peer t.control.remote 0) j
  names_back = by (is_current (mode_of t.recovery)) refl
    where
      e : ℕ
      e = epoch_of w n j

      of_channel : ChannelOk h.accounts n j (epoch_of w n j) (h.accounts n j (epoch_of w n j)) t → (p : Part) → (h.accounts n j (epoch_of w n j)).part ≡ p
          → NamesOrOpened (h.accounts (h.accounts n j 0).peer t.control.remote 0) j
      of_channel c Unmade own = absurd ((holds.standings n j).entered live.made own)
      of_channel c Opener own =
          let first = (opener_of w h n j (epoch_of w n j) (h.accounts n j (epoch_of w n j)) (holds.accounts n j (epoch_of w n j)) own).0 in
          by_first (ap (λ u. (h.accounts n j u).remote) (sym first) ∙ sym c.remote)
      of_channel c Acceptor own =
          let first = (acceptor_of w h n j (epoch_of w n j) (h.accounts n j (epoch_of w n j)) (holds.accounts n j (epoch_of w n j)) own).0 in
          by_first (ap (λ u. (h.accounts n j u).remote) (sym first) ∙ sym c.remote)
      of_channel c Renewed own =
          let r = renewed_of w h n j (epoch_of w n j) (h.accounts n j (epoch_of w n j)) (holds.accounts n j (epoch_of w n j)) own in
          by_first (sym r.remote ∙ sym c.remote)

      of_books : KnowsBy h.accounts n j t.control.remote → NamesOrOpened (h.accounts (h.accounts n j 0).peer t.control.remote 0) j
      of_books (ByLetter is) = by_first is
      of_books (ByRecord part none other peer own) = inl own

      by : (b : Bool) → is_current (mode_of t.recovery) ≡ b → NamesOrOpened (h.accounts (h.accounts n j 0).peer t.control.remote 0) j
      by true is = of_channel (live.channel is) (h.accounts n j (epoch_of w n j)).part refl
      by false is = of_books (live.knows is)

-- an opener that learns an acceptor is alone with it
pub alone_with_acceptor : (w v : World) (h k : History) (n : ℕ) (e x : End) (holds : Holds w h) (ok : EndOk w h n e) (i : ℕ) (u : Tunnel) (puts : Puts e x i u)
    → (live : LiveOk v k n i u) → IsOnly h k n i 0 → IsOpener k.accounts n i (k.accounts n i 0) → u.control.remote ≡ (k.accounts n i 0).remote
    → (k.accounts n i 0).part ≡ Opener → IsAlone w v h k n e x ok i u puts
alone_with_acceptor w v h k n e x holds ok i u puts live only opener remote own j q o was peers remotes some =
    let b = k.accounts n i 0 in
    let known = λ (z : b.remote ≡ 0). some (remote ∙ z) in
    let p = k.accounts b.peer b.remote 0 in
    let same : p ≡ h.accounts b.peer b.remote 0 = only.others b.peer b.remote 0
    (λ (z : (b.peer ≡ n) × (b.remote ≡ i) × (0 ≡ 0)).
    let two : Acceptor ≡ Opener = sym (opener.part known) ∙ (ap₂ (λ y s. (k.accounts y s 0).part) z.0 z.1 ∙ own) in
    let none : ⊥ = cc in none) in
    let its = ok.live j q was in
    let peer : (h.accounts n j 0).peer ≡ b.peer = same_address _ _ (sym its.peer ∙ (sym peers ∙ live.peer)) in
    let back = names_back w h holds n j q its (λ z. some (remotes ∙ z)) in
    let there : NamesOrOpened p j = subst (λ y. NamesOrOpened y j) (ap₂ (λ y s. h.accounts y s 0) peer (sym remotes ∙ remote) ∙ sym same) back in
    ⊎_elim
    (λ (is : p.remote ≡ j). o (sym is ∙ opener.remote known))
    (λ (is : p.part ≡ Opener). let two : Acceptor ≡ Opener = sym (opener.part known) ∙ is in cc)
    there
