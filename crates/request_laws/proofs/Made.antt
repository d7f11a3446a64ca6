-- For a request of one node one call is made: by one tunnel, which took it once.
use Rattle.std.proofs.Common.{◌≡◌, ⊎_elim, ℕ, ◌<◌, Bool, true, false, cond, List, refl, sym, ap, ◌∙◌, subst, Some, None, slice_get}
use Rattle.std.specs.Prelude.{◌==◌}
use Rattle.id_table.specs.Order.{same_or_not}
use Rattle.end_model.specs.declared.moves.Replied.{Replied}
use Rattle.end_model.specs.declared.moves.Move.TheVariants as move
use Rattle.world_model.specs.World.{Sender, Deed}
use Rattle.world_model.specs.Run.{run}
use Rattle.step_laws.specs.Steps.{StepsAreChains}
use Rattle.frame_laws.specs.Facts.{FactsOfRuns}
use Rattle.frame_laws.specs.Unrecovered.{MovesOfRuns}
use Rattle.connection_laws.specs.Accounts.{Part, Unmade, Opener, Acceptor, Taken, Account, heeded, account_of, partner_of}
use Rattle.connection_laws.specs.Facts.{Accounts, Tells, IsPart, IsIgnored, AccountOk, partner_in}
use Rattle.connection_laws.specs.Channels.{HoldsInRuns}
use Rattle.request_laws.specs.Requests.{IsAskedAt, AreAskedOnce, IsMadeAt, AreMadeOnce, MadeInRuns}
use Rattle.request_laws.proofs.Lists.{le_or_lt}
use Rattle.request_laws.proofs.Replies.{no_reply, replies_are_given}
use Rattle.request_laws.proofs.AskedRuns.{asked_in_runs}

-- ---- partners

-- a tunnel that has a partner has learned its id, and it is the one at its peer with this id
partner_is : (a : Account) (p : Sender) → partner_of a ≡ Some p → (a.remote ≡ 0 → ⊥) × (p ≡ record { node = a.peer; tunnel = a.remote })
partner_is a p h = ⊎_elim
    (λ (none : a.remote ≡ 0). let g = rw none at h in let clash : ⊥ = cc in absurd clash)
    (λ some. (some, by (a.remote == 0) h))
    (same_or_not a.remote 0)
  where
    by : (b : Bool) → cond b None (Some (record { node = a.peer; tunnel = a.remote })) ≡ Some p → p ≡ record { node = a.peer; tunnel = a.remote }
    by true g = absurd (cc)
    by false g = sym (cc)

-- ---- the tunnel that took a request

module _ (ds : List Deed) (ok : (n i : ℕ) → AccountOk (account_of ds) n i (account_of ds n i)) where
  abbrev accs : Accounts
  accs = account_of ds

  -- the tunnel wasn't closed when it took the request
  pub heeds : (n i k : ℕ) (m : Replied) → IsMadeAt ds n i k m → k < heeded (accs n i)
  heeds n i k m h = ⊎_elim
      (λ le. absurd (subst IsIgnored h.replied ((ok n i).ignored k h.taken h.there le)))
      (λ lt. lt)
      (le_or_lt (heeded (accs n i)) k)

  -- what a call was made for is a request at its number in the partner's list; and the partner has learned the taker
  pub record IsTakenFor (n i k : ℕ) (m : Replied) : Type 0 where
    pub asked : IsAskedAt ds (accs n i).peer (accs n i).remote k m.remote
    pub node : (partner_in accs (accs n i)).peer ≡ n
    pub tunnel : (partner_in accs (accs n i)).remote ≡ i

  -- a tunnel that made a call for a request was learned by its partner, since it has replied
  learned : (n i k : ℕ) (m : Replied) → IsMadeAt ds n i k m → ((accs n i).remote ≡ 0 → ⊥)
      → ((partner_in accs (accs n i)).peer ≡ n) × ((partner_in accs (accs n i)).remote ≡ i)
  learned n i k m h some = by (accs n i).part (ok n i).part
    where
      by : (p : Part) → IsPart accs n i (accs n i) p → ((partner_in accs (accs n i)).peer ≡ n) × ((partner_in accs (accs n i)).remote ≡ i)
      by Unmade part = absurd (let found = rw part at h.there in let clash : ⊥ = cc in clash)
      by Opener part = (part.peer some, part.remote some)
      by Acceptor part = (
        part.peer,
        ⊎_elim (λ same. same)
            (λ other. absurd (no_reply i (accs n i) part.begins (part.one_given other) m.session (replies_are_given ds n i k h.taken m h.there h.replied)))
            (same_or_not (partner_in accs (accs n i)).remote i),
      )

  -- what a tunnel took was sent by the tunnel that it learned
  pub sent_by_partner : (n i k : ℕ) (t : Taken) → slice_get (accs n i).taken k ≡ Some t → k < heeded (accs n i)
      → t.sender ≡ Some (record { node = (accs n i).peer; tunnel = (accs n i).remote })
  sent_by_partner n i k t there lt =
      let h = (ok n i).taken k t there lt in
      h.sender ∙ ap (λ (p : Sender). Some p) (partner_is (accs n i) h.partner h.learned).1

  pub taken_request : (n i k : ℕ) (m : Replied) → IsMadeAt ds n i k m → IsTakenFor n i k m
  taken_request n i k m h =
      let a = accs n i in
      let t = (ok n i).taken k h.taken h.there (heeds n i k m h) in
      let p = partner_is a t.partner t.learned in
      let found : slice_get (accs a.peer a.remote).given k ≡ Some t.letter =
      subst (λ (q : Sender). slice_get (accs q.node q.tunnel).given k ≡ Some t.letter) p.1 t.there in
      let tells : Tells t.letter (move.Replied m) = subst (Tells t.letter) h.replied t.tells in
      let asked : IsAskedAt ds a.peer a.remote k m.remote =
      record { letter = t.letter; there = found; serial = tells.0; calling = tells.1; asks = tells.2 } in
      let l = learned n i k m h p.0 in
      record { asked = asked; node = l.0; tunnel = l.1 }

  -- two tunnels that took one request are one
  pub made_once : AreAskedOnce ds → AreMadeOnce ds
  made_once once n i k o j l m q one two peers sessions =
      let a = taken_request n i k m one in
      let b = taken_request o j l q two in
      let here : IsAskedAt ds (accs n i).peer (accs o j).remote l m.remote = rw (peers, sessions) b.asked in
      let same = once (accs n i).peer (accs n i).remote k (accs o j).remote l m.remote a.asked here in
      let partner : partner_in accs (accs n i) ≡ partner_in accs (accs o j) = rw (peers, same.0) refl in (
        sym a.node ∙ ap (λ (x : Account). x.peer) partner ∙ b.node,
        sym a.tunnel ∙ ap (λ (x : Account). x.remote) partner ∙ b.tunnel,
        same.1,
      )

pub made_in_runs : StepsAreChains → FactsOfRuns → MovesOfRuns → HoldsInRuns → MadeInRuns
made_in_runs chains facts moves holds lines fits calm few =
    made_once (run lines).done (holds lines fits calm few).accounts (asked_in_runs chains facts moves lines fits calm)
