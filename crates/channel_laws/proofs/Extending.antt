-- What is known goes on to hold where more is known of one channel: more was given and taken in it, its tunnel was made, has learned an id or was closed, or
-- its SCCRQ was declined.
use Rattle.std.proofs.Common.{◌≡◌, ◌⊎◌, inl, inr, ⊎_elim, ℕ, zero, suc, ◌+◌, ◌<◌, ◌≤◌, true, false, List, [], ◌∷◌, ◌++◌, length, refl, sym, ap, ◌∙◌, Some, arith, append-nil}
use Rattle.std.proofs.lemmas.List.{length-append}
use Rattle.std.proofs.lemmas.Option.{none-some}
use Rattle.std.specs.Prelude.{slice_get}
use Rattle.step_laws.specs.Letters.{Letter}
use Rattle.end_model.specs.declared.out.ControlOrigin.{ControlOrigin}
use Rattle.world_model.specs.declared.packet.Packet.{Packet}
use Rattle.channel_laws.specs.Accounts.{Unmade, Opener, Taken, Account, History}
use Rattle.channel_laws.specs.Facts.{IsMade, IsOpen, IsLost, Says, ALetter, Nothing, IsCopy}
use Rattle.channel_laws.proofs.Anew.{here_or_not}

pub record Extends (a b : Account) : Type 0 where
  pub part : (a.part ≡ Unmade) ⊎ (b.part ≡ a.part)
  pub peer : IsMade a → b.peer ≡ a.peer
  pub remote : (IsOpen a × (a.remote ≡ 0)) ⊎ (b.remote ≡ a.remote)
  pub answer : b.answer ≡ a.answer
  pub first_given : b.first_given ≡ a.first_given
  pub first_taken : b.first_taken ≡ a.first_taken
  pub closed : IsOpen a ⊎ (b.closed ≡ a.closed)
  pub given : (more : List Letter) × (b.given ≡ a.given ++ more)
  pub taken : (more : List Taken) × (b.taken ≡ a.taken ++ more)
  pub declined : a.declined ≡ true → b.declined ≡ true

pub extends_same : (a : Account) → Extends a a
extends_same a = record {
  part = inr refl;
  peer = λ made. refl;
  remote = inr refl;
  answer = refl;
  first_given = refl;
  first_taken = refl;
  closed = inr refl;
  given = ([], sym (append-nil a.given));
  taken = ([], sym (append-nil a.taken));
  declined = λ z. z;
}

-- what is in a list is in a longer one
pub got_left : {X : Type 0} (xs ys : List X) (k : ℕ) (x : X) → slice_get xs k ≡ Some x → slice_get (xs ++ ys) k ≡ Some x
got_left [] ys k x h = absurd (cc)
got_left (y ∷ xs) ys zero x h = h
got_left (y ∷ xs) ys (suc k) x h = got_left xs ys k x h

module _ (a b : Account) (g : Extends a b) where
  pub made_on : IsMade a → IsMade b
  made_on made none = ⊎_elim (λ u. made u) (λ same. made (sym same ∙ none)) g.part

  pub part_on : IsMade a → b.part ≡ a.part
  part_on made = ⊎_elim (λ u. absurd (made u)) (λ same. same) g.part

  pub remote_on : (a.remote ≡ 0 → ⊥) → b.remote ≡ a.remote
  remote_on some = ⊎_elim (λ u. absurd (some u.1)) (λ same. same) g.remote

  lost_unless : IsOpen a → IsLost a → ⊥
  lost_unless is_open lost = none-some 0 (sym is_open ∙ lost.0)

  -- what is lost stays so
  pub lost_on : IsLost a → IsLost b
  lost_on lost = (
    ⊎_elim (λ (was : IsOpen a). absurd (lost_unless was lost)) (λ (same : b.closed ≡ a.closed). same ∙ lost.0) g.closed,
    ⊎_elim (λ (was : IsOpen a × (a.remote ≡ 0)). absurd (lost_unless was.0 lost)) (λ (same : b.remote ≡ a.remote). same ∙ lost.1) g.remote,
  )

  pub got_given : (k : ℕ) (l : Letter) → slice_get a.given k ≡ Some l → slice_get b.given k ≡ Some l
  got_given k l h = rw g.given.1 (got_left a.given g.given.0 k l h)

  pub more_given : length a.given ≤ length b.given
  more_given = rw (g.given.1, length-append) (omega arith)

  pub more_taken : length a.taken ≤ length b.taken
  more_taken = rw (g.taken.1, length-append) (omega arith)

  says_on : (o : ControlOrigin) (tunnel : ℕ) (bytes : List ℕ) → Says a o tunnel bytes → Says b o tunnel bytes
  says_on o tunnel bytes (ALetter l place full at_place there are) = ALetter l place full (at_place ∙ ap (λ q. q + place) (sym g.first_given)) (got_given place l there) are
  says_on o tunnel bytes (Nothing empty are) = Nothing empty are

  pub copy_on : (p : Packet) (o : ControlOrigin) → IsCopy a p o → IsCopy b p o
  copy_on p o c = record {
    made = made_on c.made;
    to = c.to ∙ sym (g.peer c.made);
    nr = (let le = c.nr in let more = more_taken in let same = g.first_taken in omega (arith, le, more, same));
    tunnel = c.tunnel;
    named = ⊎_elim
        (λ (none : (c.tunnel ≡ 0) × (a.part ≡ Opener) × (IsLost a ⊎ ((o.nr ≡ 0) × (o.empty ≡ false → o.ns ≡ 0)))).
        inl (none.0, part_on c.made ∙ none.1, ⊎_elim (λ (lost : IsLost a). inl (lost_on lost)) (λ first. inr first) none.2))
        (λ some. inr (some.0, some.1 ∙ sym (remote_on (λ none. some.0 (some.1 ∙ none))))) c.named;
    says = says_on o c.tunnel p.bytes c.says;
  }

-- ---- one channel of all

pub record IsOnly (h k : History) (n i e : ℕ) : Type 0 where
  pub here : Extends (h.accounts n i e) (k.accounts n i e)
  pub others : (m j u : ℕ) → ((m ≡ n) × (j ≡ i) × (u ≡ e) → ⊥) → k.accounts m j u ≡ h.accounts m j u
  pub attempts : (m a : ℕ) → k.attempts m a ≡ h.attempts m a
  pub answers : (m c : ℕ) → k.answers m c ≡ h.answers m c
  -- a channel of a later epoch is begun by a reset alone
  pub later : 0 < e → IsMade (h.accounts n i e)

pub all_extend : (h k : History) (n i e : ℕ) → IsOnly h k n i e → (m j u : ℕ) → Extends (h.accounts m j u) (k.accounts m j u)
all_extend h k n i e only m j u = ⊎_elim
    (λ (q : (m ≡ n) × (j ≡ i) × (u ≡ e)). rw (q.0, q.1, q.2) only.here)
    (λ o. rw (only.others m j u o) (extends_same (h.accounts m j u)))
    (here_or_not m j u n i e)
