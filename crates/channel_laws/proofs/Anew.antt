-- What holds goes on to hold as a channel begins anew: the account of one tunnel in one epoch, of which nothing was known, has its two first numbers then, and
-- nothing that was given or taken.
use Rattle.std.proofs.Common.{◌≡◌, ◌⊎◌, inl, inr, ⊎_elim, ℕ, ◌<◌, List, [], length, sym, ap, ◌∙◌, subst, arith}
use Rattle.std.specs.Prelude.{slice_get}
use Rattle.id_table.specs.Order.{same_or_not}
use Rattle.session_book.specs.declared.record.BookTunnel.{BookTunnel}
use Rattle.end_model.specs.declared.moves.Restored.{Restored}
use Rattle.end_model.specs.declared.moves.Froze.{Froze}
use Rattle.end_names.specs.Names.{address_of, node_of}
use Rattle.step_laws.specs.Letters.{Letter}
use Rattle.world_model.specs.World.{World}
use Rattle.channel_laws.specs.Accounts.{Part, Unmade, Opener, Acceptor, Renewed, Taken, Account, no_account, History}
use Rattle.channel_laws.specs.Facts.{Accounts, partner_in, AreTaken, AreEven, IsOpener, IsAcceptor, AreLinked, KnowsBy, ByLetter, ByRecord, BookedOk, AnswerOk, AttemptOk, BeginsBy, AsGiver, AsPeer, IsRenewed, IsPart, AccountOk}

pub record Begins (h k : History) (n i e : ℕ) (new : Account) : Type 0 where
  pub later : 0 < e
  pub was : h.accounts n i e ≡ no_account
  pub here : k.accounts n i e ≡ new
  pub others : (m j u : ℕ) → ((m ≡ n) × (j ≡ i) × (u ≡ e) → ⊥) → k.accounts m j u ≡ h.accounts m j u
  pub attempts : (m a : ℕ) → k.attempts m a ≡ h.attempts m a
  pub answers : (m c : ℕ) → k.answers m c ≡ h.answers m c
  pub part : new.part ≡ Renewed
  pub given : new.given ≡ []
  pub taken : new.taken ≡ []

pub here_or_not : (m j u n i e : ℕ) → ((m ≡ n) × (j ≡ i) × (u ≡ e)) ⊎ ((m ≡ n) × (j ≡ i) × (u ≡ e) → ⊥)
here_or_not m j u n i e = ⊎_elim
    (λ (p : m ≡ n). ⊎_elim
    (λ (q : j ≡ i). ⊎_elim (λ (r : u ≡ e). inl (p, q, r)) (λ no. inr (λ (k : (m ≡ n) × (j ≡ i) × (u ≡ e)). no k.2)) (same_or_not u e))
    (λ no. inr (λ (k : (m ≡ n) × (j ≡ i) × (u ≡ e)). no k.1)) (same_or_not j i))
    (λ no. inr (λ (k : (m ≡ n) × (j ≡ i) × (u ≡ e)). no k.0))
    (same_or_not m n)

-- ---- accounts of epoch 0

-- what is said of them alone is said of any accounts that are the same there
abbrev flat : (ℕ → ℕ → Account) → Accounts
flat f = λ m j u. f m j

abbrev firsts : History → ℕ → ℕ → Account
firsts h m j = h.accounts m j 0

linked_flat : (accs : Accounts) (n i m j : ℕ) → AreLinked accs n i m j → AreLinked (flat (λ p q. accs p q 0)) n i m j
linked_flat accs n i m j l = record {
  forth_peer = l.forth_peer;
  forth = l.forth;
  back_peer = l.back_peer;
  back = l.back;
  from_some = l.from_some;
  to_some = l.to_some;
  from_late = l.from_late;
  to_late = l.to_late;
  parts = l.parts;
}

linked_of : (accs : Accounts) (n i m j : ℕ) → AreLinked (flat (λ p q. accs p q 0)) n i m j → AreLinked accs n i m j
linked_of accs n i m j l = record {
  forth_peer = l.forth_peer;
  forth = l.forth;
  back_peer = l.back_peer;
  back = l.back;
  from_some = l.from_some;
  to_some = l.to_some;
  from_late = l.from_late;
  to_late = l.to_late;
  parts = l.parts;
}

opener_flat : (accs : Accounts) (n i : ℕ) (a : Account) → IsOpener accs n i a → IsOpener (flat (λ p q. accs p q 0)) n i a
opener_flat accs n i a o = record {
  begins = o.begins;
  none = o.none;
  one_given = o.one_given;
  some = o.some;
  part = o.part;
  peer = o.peer;
  remote = o.remote;
  joined = o.joined;
  early = o.early;
}

opener_from : (accs : Accounts) (n i : ℕ) (a : Account) → IsOpener (flat (λ p q. accs p q 0)) n i a → IsOpener accs n i a
opener_from accs n i a o = record {
  begins = o.begins;
  none = o.none;
  one_given = o.one_given;
  some = o.some;
  part = o.part;
  peer = o.peer;
  remote = o.remote;
  joined = o.joined;
  early = o.early;
}

acceptor_flat : (accs : Accounts) (n i : ℕ) (a : Account) → IsAcceptor accs n i a → IsAcceptor (flat (λ p q. accs p q 0)) n i a
acceptor_flat accs n i a o = record {
  begins = o.begins;
  known = o.known;
  some = o.some;
  part = o.part;
  peer = o.peer;
  one_taken = o.one_taken;
  one_given = o.one_given;
}

acceptor_from : (accs : Accounts) (n i : ℕ) (a : Account) → IsAcceptor (flat (λ p q. accs p q 0)) n i a → IsAcceptor accs n i a
acceptor_from accs n i a o = record {
  begins = o.begins;
  known = o.known;
  some = o.some;
  part = o.part;
  peer = o.peer;
  one_taken = o.one_taken;
  one_given = o.one_given;
}

knows_flat : (accs : Accounts) (n i remote : ℕ) → KnowsBy accs n i remote → KnowsBy (flat (λ p q. accs p q 0)) n i remote
knows_flat accs n i remote (ByLetter is) = ByLetter is
knows_flat accs n i remote (ByRecord part none other peer own) = ByRecord part none other peer own

knows_from : (accs : Accounts) (n i remote : ℕ) → KnowsBy (flat (λ p q. accs p q 0)) n i remote → KnowsBy accs n i remote
knows_from accs n i remote (ByLetter is) = ByLetter is
knows_from accs n i remote (ByRecord part none other peer own) = ByRecord part none other peer own

module _ (h k : History) (n i e : ℕ) (new : Account) (b : Begins h k n i e new) where
  pub first : (m j : ℕ) → k.accounts m j 0 ≡ h.accounts m j 0
  first m j = b.others m j 0 (λ (q : (m ≡ n) × (j ≡ i) × (0 ≡ e)). let z = q.2 in let lt = b.later in let no : ⊥ = omega (arith, z, lt) in no)

  all_first : firsts h ≡ firsts k
  all_first = λ z m j. sym (first m j) z

  pub linked_on : (m j p q : ℕ) → AreLinked h.accounts m j p q → AreLinked k.accounts m j p q
  linked_on m j p q l = linked_of k.accounts m j p q (subst (λ f. AreLinked (flat f) m j p q) all_first (linked_flat h.accounts m j p q l))

  opener_on : (m j : ℕ) (a : Account) → IsOpener h.accounts m j a → IsOpener k.accounts m j a
  opener_on m j a o = opener_from k.accounts m j a (subst (λ f. IsOpener (flat f) m j a) all_first (opener_flat h.accounts m j a o))

  acceptor_on : (m j : ℕ) (a : Account) → IsAcceptor h.accounts m j a → IsAcceptor k.accounts m j a
  acceptor_on m j a o = acceptor_from k.accounts m j a (subst (λ f. IsAcceptor (flat f) m j a) all_first (acceptor_flat h.accounts m j a o))

  pub knows_on : (m j remote : ℕ) → KnowsBy h.accounts m j remote → KnowsBy k.accounts m j remote
  knows_on m j remote q = knows_from k.accounts m j remote (subst (λ f. KnowsBy (flat f) m j remote) all_first (knows_flat h.accounts m j remote q))

  -- ---- books, attempts, answers

  pub booked_on : (m : ℕ) (t : BookTunnel) → BookedOk h m t → BookedOk k m t
  booked_on m t ok = record {
    made = λ none. ok.made (ap (λ (a : Account). a.part) (sym (first m t.local)) ∙ none);
    peer = ok.peer ∙ ap (λ (a : Account). address_of a.peer) (sym (first m t.local));
    remote = ok.remote;
    knows = knows_on m t.local t.remote ok.knows;
    learned = λ acceptor.
        (let was = ok.learned (ap (λ (a : Account). a.part) (sym (first m t.local)) ∙ acceptor) in
        ap (λ (a : Account). (partner_in k.accounts 0 a).remote) (first m t.local)
        ∙ (ap (λ (a : Account). a.remote) (first (h.accounts m t.local 0).peer (h.accounts m t.local 0).remote) ∙ was));
    late = λ is. ok.late (ap (λ (a : Account). a.closed) (sym (first m t.local)) ∙ is);
  }

  pub attempt_on : (m a : ℕ) (r : Restored) → AttemptOk h m a r → AttemptOk k m a r
  attempt_on m a r ok = record { own = ok.own; some = ok.some; fits = ok.fits; draw_fits = ok.draw_fits; booked = booked_on m r.tunnel ok.booked }

  pub answer_on : (w : World) (m c : ℕ) (f : Froze) → AnswerOk w h m c f → AnswerOk w k m c f
  answer_on w m c f ok = record {
    own = ok.own;
    some = ok.some;
    fits = ok.fits;
    draw_fits = ok.draw_fits;
    peer_fits = ok.peer_fits;
    peer_is = ok.peer_is;
    linked = linked_on m f.tunnel (node_of f.peer) f.remote ok.linked;
    attempt = ok.attempt;
    attempted = b.attempts (node_of f.peer) f.attempt ∙ ok.attempted;
    attempts = ok.attempts;
    epoch_some = ok.epoch_some;
    epoch_made = ok.epoch_made;
    expect = ok.expect;
    send_from = ok.send_from;
  }

  -- ---- accounts

  pub given_on : (m j u : ℕ) → (k.accounts m j u).given ≡ (h.accounts m j u).given
  given_on m j u = ⊎_elim
      (λ (q : (m ≡ n) × (j ≡ i) × (u ≡ e)).
      rw (q.0, q.1, q.2) (ap (λ (a : Account). a.given) b.here ∙ (b.given ∙ sym (ap (λ (a : Account). a.given) b.was))))
      (λ o. ap (λ (a : Account). a.given) (b.others m j u o))
      (here_or_not m j u n i e)

  pub taken_on : (m j u : ℕ) → (k.accounts m j u).taken ≡ (h.accounts m j u).taken
  taken_on m j u = ⊎_elim
      (λ (q : (m ≡ n) × (j ≡ i) × (u ≡ e)).
      rw (q.0, q.1, q.2) (ap (λ (a : Account). a.taken) b.here ∙ (b.taken ∙ sym (ap (λ (a : Account). a.taken) b.was))))
      (λ o. ap (λ (a : Account). a.taken) (b.others m j u o))
      (here_or_not m j u n i e)

  are_taken_on : (u : ℕ) (a : Account) → AreTaken h.accounts u a → AreTaken k.accounts u a
  are_taken_on u a was place t is lt =
      let q = was place t is lt in
      record {
        numbered = q.numbered;
        partner = q.partner;
        learned = q.learned;
        sender = q.sender;
        letter = q.letter;
        there = ap (λ l. slice_get l place) (given_on q.partner.node q.partner.tunnel u) ∙ q.there;
        tells = q.tells;
      }

  begins_on : (m j : ℕ) (a : Account) (p c : ℕ) (f : Froze) → BeginsBy h m j a p c f → BeginsBy k m j a p c f
  begins_on m j a p c f (AsGiver x y z r s t) = AsGiver x y z r s t
  begins_on m j a p c f (AsPeer x y z r s t) = AsPeer x y z r s t

  even_on : (u : ℕ) (a : Account) → AreEven a (partner_in h.accounts u a) → AreEven a (partner_in k.accounts u a)
  even_on u a q =
      let given = ap (λ (l : List Letter). length l) (given_on a.peer a.remote u) in
      let taken = ap (λ (l : List Taken). length l) (taken_on a.peer a.remote u) in
      let here = q.here in
      let there = q.there in
      let few_here = q.few_here in
      let few_there = q.few_there in
      record {
        here = omega (arith, given, here);
        there = omega (arith, taken, there);
        few_here = omega (arith, taken, few_here);
        few_there = omega (arith, given, few_there);
      }

  -- the other end's channel of the epoch began by the same answer, where it did
  module _ (w : World) (agrees : (m j : ℕ) → IsRenewed w h m j e (h.accounts m j e) → (h.accounts m j e).peer ≡ n → (h.accounts m j e).remote ≡ i
      → new.answer ≡ (h.accounts m j e).answer) where
    renewed_on : (m j u : ℕ) → IsRenewed w h m j u (h.accounts m j u) → IsRenewed w k m j u (h.accounts m j u)
    renewed_on m j u r =
        let a = h.accounts m j u in
        record {
          later = r.later;
          peer = r.peer ∙ ap (λ (q : Account). q.peer) (sym (first m j));
          remote = r.remote ∙ ap (λ (q : Account). q.remote) (sym (first m j));
          linked = linked_on m j a.peer a.remote r.linked;
          by = r.by;
          answer = r.answer;
          froze = r.froze;
          answered = b.answers r.by.node r.by.tunnel ∙ r.answered;
          makes_it = r.makes_it;
          begins = begins_on m j a r.by.node r.by.tunnel r.froze r.begins;
          other = ⊎_elim
              (λ (q : (a.peer ≡ n) × (a.remote ≡ i) × (u ≡ e)). inl (rw (q.0, q.1, q.2) (ap (λ (x : Account). x.part) b.here ∙ b.part)))
              (λ o. (let same = b.others a.peer a.remote u o in
              ⊎_elim (λ is. inl (ap (λ (x : Account). x.part) same ∙ is)) (λ none. inr (same ∙ none)) r.other))
              (here_or_not a.peer a.remote u n i e);
          same = λ part. ⊎_elim
              (λ (q : (a.peer ≡ n) × (a.remote ≡ i) × (u ≡ e)). answers_so m j u r q)
              (λ o. (let same = b.others a.peer a.remote u o in
              ap (λ (x : Account). x.answer) same ∙ r.same (ap (λ (x : Account). x.part) (sym same) ∙ part)))
              (here_or_not a.peer a.remote u n i e);
          joined = even_on u a r.joined;
          no_opening = r.no_opening;
        }
      where
        answers_so : (m j u : ℕ) → IsRenewed w h m j u (h.accounts m j u) → ((h.accounts m j u).peer ≡ n) × ((h.accounts m j u).remote ≡ i) × (u ≡ e)
            → (partner_in k.accounts u (h.accounts m j u)).answer ≡ (h.accounts m j u).answer
        answers_so m j u r q =
            let r_e = subst (λ x. IsRenewed w h m j x (h.accounts m j x)) q.2 r in
            let peer_e = subst (λ x. (h.accounts m j x).peer ≡ n) q.2 q.0 in
            let remote_e = subst (λ x. (h.accounts m j x).remote ≡ i) q.2 q.1 in
            let by = agrees m j r_e peer_e remote_e in
            rw (q.0, q.1) (subst (λ x. (k.accounts n i x).answer ≡ (h.accounts m j x).answer) (sym q.2) (ap (λ (a : Account). a.answer) b.here ∙ by))

    part_on : (m j u : ℕ) (p : Part) → IsPart w h m j u (h.accounts m j u) p → IsPart w k m j u (h.accounts m j u) p
    part_on m j u Unmade is = is
    part_on m j u Opener is = (is.0, opener_on m j (h.accounts m j u) is.1)
    part_on m j u Acceptor is = (is.0, acceptor_on m j (h.accounts m j u) is.1)
    part_on m j u Renewed is = renewed_on m j u is

    -- an account that was there, or that isn't the one that begins
    pub account_on : (m j u : ℕ) → AccountOk w h m j u (h.accounts m j u) → ((m ≡ n) × (j ≡ i) × (u ≡ e) → ⊥) → AccountOk w k m j u (k.accounts m j u)
    account_on m j u ok o = subst (AccountOk w k m j u) (sym (b.others m j u o)) (record {
      part = part_on m j u (h.accounts m j u).part ok.part;
      some = ok.some;
      id = ok.id;
      node = ok.node;
      peer = ok.peer;
      remote = ok.remote;
      first_given = ok.first_given;
      first_taken = ok.first_taken;
      from_none = ok.from_none;
      spelled = ok.spelled;
      told = ok.told;
      taken = are_taken_on u (h.accounts m j u) ok.taken;
      ignored = ok.ignored;
      entered = ok.entered;
      declined = ok.declined;
    })
