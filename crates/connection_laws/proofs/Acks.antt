-- What is said and taken, and what is acknowledged, of what holds in a run.
use Rattle.std.proofs.Common.{◌≡◌, ◌⊎◌, inl, inr, ⊎_elim, ℕ, ◌<◌, ◌≤◌, true, List, length, get_or, refl, sym, ap₂, ◌∙◌, subst, Option, Some, None, arith, ne_eqb}
use Rattle.std.proofs.lemmas.Bool.{cases_lt}
use Rattle.std.specs.Prelude.{slice_get}
use Rattle.std.proofs.lemmas.Option.{slice_get_cases}
use Rattle.id_table.specs.Order.{same_or_not}
use Rattle.end_model.specs.declared.out.Origin.{Origin}
use Rattle.end_model.specs.declared.out.Origin.TheVariants as origin
use Rattle.end_model.specs.declared.out.ControlOrigin.{ControlOrigin}
use Rattle.world_model.specs.declared.packet.Packet.{Packet}
use Rattle.world_model.specs.World.{Deed}
use Rattle.world_model.specs.Run.{Run}
use Rattle.step_laws.specs.Steps.{AreKept}
use Rattle.connection_laws.specs.Accounts.{Part, Unmade, Opener, Acceptor, Taken, Account, heeded, account_of, partner_of}
use Rattle.connection_laws.specs.Facts.{Accounts, AreTaken, IsLost, partner_in, IsOpener, IsAcceptor, IsPart, AccountOk, IsAnswered, AreAcked, EndOk, OriginOk, PacketOk, NodeOk, Holds}
use Rattle.connection_laws.specs.Channels.{IsOtherEnd, IsLearned, HasLearned, IsCopied, IsOfNoRecovery, LettersAreCarried, WasTaken, WasIgnored, WasDeclined, AcksAreTrue}
use Rattle.connection_laws.proofs.Later.{live_made}
use Rattle.connection_laws.proofs.States.{heeded_open, heeded_closed}
use Rattle.connection_laws.proofs.Worlds.{all_map}

-- ---- letters

of_none : (accs : Accounts) (p : Packet) (o : Origin) → OriginOk accs p o → IsOfNoRecovery o
of_none accs p (origin.Control o) ok = tt
of_none accs p (origin.Data session) ok = tt
of_none accs p (origin.Recovery tunnel number empty) ok = ok

pub letters_carried : (r : Run) → Holds r.world (account_of r.done) → LettersAreCarried r
letters_carried r holds = record {
  copies = all_map (PacketOk (account_of r.done)) (IsCopied r.done)
      (λ (p : Packet) h (o : ControlOrigin) (e : p.origin ≡ origin.Control o). subst (λ (q : Origin). OriginOk (account_of r.done) p q) e h.sent)
      r.world.packets holds.packets;
  none_recovers = all_map (PacketOk (account_of r.done)) (λ (p : Packet). IsOfNoRecovery p.origin)
      (λ (p : Packet) h. of_none (account_of r.done) p p.origin h.sent) r.world.packets holds.packets;
  taken = λ n i. (holds.accounts n i).taken;
}

-- ---- acknowledgements

partner_is : (a : Account) → (a.remote ≡ 0 → ⊥) → partner_of a ≡ Some (record { node = a.peer; tunnel = a.remote })
partner_is a some = rw (ne_eqb a.remote 0 some) refl

-- a letter was taken, or ignored, or is the SCCRQ of a tunnel that was declined
abbrev WasHeard : List Deed → ℕ → ℕ → ℕ → Type 0
WasHeard ds n i number = WasTaken ds n i number ⊎ (WasIgnored ds n i number ⊎ WasDeclined ds n i number)

-- what another end of a tunnel took is of the tunnel that it has learned
module _ (ds : List Deed) (n i j number : ℕ) (is_other : IsOtherEnd ds n i j) where
  abbrev b : Account
  b = account_of ds (account_of ds n i).peer j

  -- once it is closed it ignores what it takes
  was_ignored : b.peer ≡ n → number < length b.taken → heeded b ≤ number → WasIgnored ds n i number
  was_ignored peer lt le = by b.closed refl
    where
      by : (c : Option ℕ) → b.closed ≡ c → WasIgnored ds n i number
      by None is = let all = heeded_open b is in absurd (omega (arith, lt, le, all))
      by (Some count) is =
          let few = heeded_closed b count is in
          record { other = j; is_other = is_other; goes = peer; count = count; closed = is; before = omega (arith, le, few) }

  taken_of : AreTaken (account_of ds) b → b.peer ≡ n → b.remote ≡ i → (i ≡ 0 → ⊥) → number < length b.taken → WasHeard ds n i number
  taken_of taken peer remote some lt =
      ⊎_elim
      (λ (heeds : number < heeded b).
      ⊎_elim
      (λ (x : (t : Taken) × (number < length b.taken) × (slice_get b.taken number ≡ Some t) × (get_or b.taken number t ≡ t)).
      let h = taken number x.0 x.2 heeds in
      let is : partner_of b ≡ Some (record { node = n; tunnel = i }) =
      partner_is b (λ z. some (sym remote ∙ z)) ∙ ap₂ (λ p q. Some (record { node = p; tunnel = q })) peer remote in
      inl (record { other = j; is_other = is_other; goes = peer; letter = x.0; there = x.2; from = h.sender ∙ (sym h.learned ∙ is) }))
      (λ (x : (length b.taken ≤ number) × (slice_get b.taken number ≡ None)). (let le = x.0 in absurd (omega arith)))
      (slice_get_cases b.taken number).1)
      (λ (le : heeded b ≤ number). inr (inl (was_ignored peer lt le)))
      (cases_lt number (heeded b))

module _ (ds : List Deed) (accounts : (m j : ℕ) → AccountOk (account_of ds) m j (account_of ds m j)) (n i : ℕ) (some : 0 < i) (acked number : ℕ)
    (lt : number < acked) where
  abbrev accs : Accounts
  accs = account_of ds

  abbrev a : Account
  a = accs n i

  not_zero : i ≡ 0 → ⊥
  not_zero z = absurd (omega arith)

  -- by its partner
  by_partner : (a.remote ≡ 0 → ⊥) → (partner_in accs a).peer ≡ n → (partner_in accs a).remote ≡ i → acked ≤ length (partner_in accs a).taken
      → WasHeard ds n i number
  by_partner known peer remote le =
      taken_of ds n i a.remote number (IsLearned known refl) (accounts a.peer a.remote).taken peer remote not_zero (omega arith)

  -- by an acceptor that it hasn't learned
  by_answer : IsAnswered accs n i a acked → WasHeard ds n i number
  by_answer x =
      let le = x.enough in
      taken_of ds n i x.acceptor number (HasLearned x.remote) (accounts a.peer x.acceptor).taken x.peer x.remote not_zero (omega arith)

  -- by its opener, which was closed before it took anything
  by_lost : (a.remote ≡ 0 → ⊥) → (partner_in accs a).peer ≡ n → IsLost (partner_in accs a) → WasHeard ds n i number
  by_lost known peer lost =
      inr (inl (record { other = a.remote; is_other = IsLearned known refl; goes = peer; count = 0; closed = lost.0; before = omega arith }))

  opener_acked : IsOpener accs n i a → AreAcked accs n i a acked Opener → WasHeard ds n i number
  opener_acked k h = ⊎_elim
      (λ (z : a.remote ≡ 0).
      ⊎_elim
      (λ (none : acked ≡ 0). absurd (omega arith))
      (λ rest. ⊎_elim
      (λ (x : IsAnswered accs n i a acked). by_answer x)
      (λ (x : (acked ≡ 1) × (a.declined ≡ true)). let one = x.0 in inr (inr (omega arith, x.1)))
      rest)
      (h.0 z))
      (λ known. by_partner known (k.peer known) (k.remote known) (h.1 known))
      (same_or_not a.remote 0)

  acceptor_acked : IsAcceptor accs n i a → AreAcked accs n i a acked Acceptor → WasHeard ds n i number
  acceptor_acked k h = ⊎_elim
      (λ (named : (partner_in accs a).remote ≡ i). by_partner k.known k.peer named (h.1 named))
      (λ no. ⊎_elim (λ (none : acked ≡ 0). absurd (omega arith)) (λ (lost : IsLost (partner_in accs a)). by_lost k.known k.peer lost) (h.0 no))
      (same_or_not (partner_in accs a).remote i)

  acked_by : (q : Part) → IsPart accs n i a q → AreAcked accs n i a acked q → WasHeard ds n i number
  acked_by Unmade k h = absurd h
  acked_by Opener k h = opener_acked k h
  acked_by Acceptor k h = acceptor_acked k h

pub acks_true : (r : Run) → Holds r.world (account_of r.done) → AcksAreTrue r
acks_true r holds n node is i t there number lt =
    let accs = account_of r.done in
    let ok : EndOk accs n node.end × AreKept node.end = subst (NodeOk accs n) is (holds.nodes n) in
    let live = ok.0.live i t there in
    acked_by r.done holds.accounts n i ((holds.accounts n i).some (live_made accs n i (accs n i) t live)) t.control.channel.window.acked number lt
    (accs n i).part (holds.accounts n i).part live.acked
