-- What the deeds of a step leave of what is known of each tunnel.
use Rattle.std.proofs.Common.{◌≡◌, ◌⊎◌, inl, inr, ⊎_elim, ℕ, Bool, true, false, List, [], ◌∷◌, ◌++◌, length, slice_get, refl, sym, ap, ◌∙◌, subst, Option, Some, eq-eqb, ne_eqb}
use Rattle.std.specs.Prelude.{map}
use Rattle.std.specs.List.{AllByRecursion}
use Rattle.id_table.specs.Order.{same_or_not}
use Rattle.control_message.specs.declared.message.Message.TheVariants.{Icrq}
use Rattle.end_model.specs.declared.moves.Replied.{Replied}
use Rattle.end_model.specs.declared.moves.Move.{Move}
use Rattle.end_model.specs.declared.moves.Move.TheVariants as move
use Rattle.end_names.specs.declared.role.Role.{Role}
use Rattle.end_model.specs.Messages.{request_of}
use Rattle.world_model.specs.World.{World, Sender, Deed, deed_of}
use Rattle.step_laws.specs.Letters.{Letter}
use Rattle.frame_laws.specs.Unrecovered.{IsMain}
use Rattle.connection_laws.specs.Accounts.{Taken, Account, about, entered, declines_of, declined_in, after_deed, account_from}
use Rattle.request_laws.proofs.Lists.{got_left, got_last, got_in}
use Rattle.request_laws.proofs.Asked.{Asking, Known}

-- ---- one more letter

pushed : (ls : List Letter) (l : Letter) (k s : ℕ) → Asking (ls ++ l ∷ []) k s
    → (Asking ls k s) ⊎ ((k ≡ length ls) × ((serial : ℕ) × (calling : Option (List ℕ)) × (l.message ≡ Icrq s serial calling)))
pushed ls l k s a = ⊎_elim
    (λ b. inl (record { letter = a.letter; there = b; serial = a.serial; calling = a.calling; asks = a.asks }))
    (λ (b : (k ≡ length ls) × (l ≡ a.letter)). inr (b.0, (a.serial, a.calling, ap (λ (x : Letter). x.message) b.1 ∙ a.asks)))
    (got_in ls l k a.letter a.there)

-- an account after which the letters are as before: a tunnel whose SCCRQ is declined has the same ones
pub record KeepsLetters (a b : Account) : Type 0 where
  pub given : b.given ≡ a.given
  pub taken : b.taken ≡ a.taken

declined_keeps : (declined : Bool) (a : Account) → KeepsLetters a (declined_in declined a)
declined_keeps true a = record { given = refl; taken = refl }
declined_keeps false a = record { given = refl; taken = refl }

-- the move asks for the call of a session
abbrev pub IsRequest : Move → ℕ → Type 0
IsRequest (move.Opened m) s = ⊥
IsRequest (move.Accepted m) s = ⊥
IsRequest (move.Connected m) s = ⊥
IsRequest (move.Confirmed m) s = ⊥
IsRequest (move.Added m) s = ⊥
IsRequest (move.Requested m) s = s ≡ m.session
IsRequest (move.Replied m) s = ⊥
IsRequest (move.FirstUp m) s = ⊥
IsRequest (move.SecondUp m) s = ⊥
IsRequest (move.Refused m) s = ⊥
IsRequest (move.EndTold m) s = ⊥
IsRequest (move.EndHeard m) s = ⊥
IsRequest (move.EndSilent m) s = ⊥
IsRequest (move.Declined m) s = ⊥
IsRequest (move.Closed m) s = ⊥
IsRequest (move.Rejected m) s = ⊥
IsRequest (move.ClosedBy m) s = ⊥
IsRequest (move.Cleared i booked) s = ⊥
IsRequest (move.Greeted m) s = ⊥
IsRequest (move.TookPlain m) s = ⊥
IsRequest (move.NrRead m) s = ⊥
IsRequest (move.LetGo m) s = ⊥
IsRequest (move.Repeated m) s = ⊥
IsRequest (move.Quiet i) s = ⊥
IsRequest (move.Negotiated m) s = ⊥
IsRequest (move.Counted m) s = ⊥
IsRequest (move.FrameSent m) s = ⊥
IsRequest (move.FrameUp m) s = ⊥
IsRequest m s = ⊥

module _ (v : World) (number n : ℕ) (r : Role) (sender : Option Sender) where
  abbrev pub deed : Move → Deed
  deed m = deed_of v number n r sender m

  abbrev pub deeds : List Move → List Deed
  deeds ms = map deed ms

  -- the moves of deeds that aren't of a recovery
  pub mains_of : (ms : List Move) → AllByRecursion (λ (d : Deed). IsMain d.move) (deeds ms) → AllByRecursion IsMain ms
  mains_of [] h = tt
  mains_of (m ∷ ms) h = (h.0, mains_of ms h.1)

  -- ---- letters that ask

  abbrev MayAsk : Move → Account → ℕ → ℕ → Type 0
  MayAsk m a k s = (Asking a.given k s) ⊎ ((k ≡ length a.given) × IsRequest m s)

  -- the letter that is given doesn't ask
  plain : (m : Move) (a : Account) (l : Letter) (k s : ℕ) → ((serial : ℕ) (calling : Option (List ℕ)) → l.message ≡ Icrq s serial calling → ⊥)
      → Asking (a.given ++ l ∷ []) k s → MayAsk m a k s
  plain m a l k s other h = ⊎_elim
      (λ b. inl b)
      (λ (b : (k ≡ length a.given) × ((serial : ℕ) × (calling : Option (List ℕ)) × (l.message ≡ Icrq s serial calling))). absurd (other b.1.0 b.1.1 b.1.2))
      (pushed a.given l k s h)

  entered_asks : (m : Move) (a : Account) (k s : ℕ) → Asking (entered (deed m) a).given k s → MayAsk m a k s
  entered_asks (move.Opened m) a k s h = plain (move.Opened m) a _ k s (λ serial calling e. absurd (cc)) h
  entered_asks (move.Accepted m) a k s h = plain (move.Accepted m) a _ k s (λ serial calling e. absurd (cc)) h
  entered_asks (move.Connected m) a k s h = plain (move.Connected m) a _ k s (λ serial calling e. absurd (cc)) h
  entered_asks (move.Confirmed m) a k s h = inl h
  entered_asks (move.Added m) a k s h = inl h
  entered_asks (move.Requested m) a k s h = ⊎_elim
      (λ b. inl b)
      (λ (b : (k ≡ length a.given) × ((serial : ℕ) × (calling : Option (List ℕ)) × (request_of m.session m.subscriber ≡ Icrq s serial calling))).
      let e = b.1.2 in let same : s ≡ m.session = cc in inr (b.0, same))
      (pushed a.given _ k s h)
  entered_asks (move.Replied m) a k s h = plain (move.Replied m) a _ k s (λ serial calling e. absurd (cc)) h
  entered_asks (move.FirstUp m) a k s h = plain (move.FirstUp m) a _ k s (λ serial calling e. absurd (cc)) h
  entered_asks (move.SecondUp m) a k s h = inl h
  entered_asks (move.Refused m) a k s h = plain (move.Refused m) a _ k s (λ serial calling e. absurd (cc)) h
  entered_asks (move.EndTold m) a k s h = plain (move.EndTold m) a _ k s (λ serial calling e. absurd (cc)) h
  entered_asks (move.EndHeard m) a k s h = inl h
  entered_asks (move.EndSilent m) a k s h = inl h
  entered_asks (move.Declined m) a k s h = inl h
  entered_asks (move.Closed m) a k s h = plain (move.Closed m) a _ k s (λ serial calling e. absurd (cc)) h
  entered_asks (move.Rejected m) a k s h = plain (move.Rejected m) a _ k s (λ serial calling e. absurd (cc)) h
  entered_asks (move.ClosedBy m) a k s h = inl h
  entered_asks (move.Cleared i booked) a k s h = inl h
  entered_asks (move.Greeted m) a k s h = plain (move.Greeted m) a _ k s (λ serial calling e. absurd (cc)) h
  entered_asks (move.TookPlain m) a k s h = inl h
  entered_asks (move.NrRead m) a k s h = inl h
  entered_asks (move.LetGo m) a k s h = inl h
  entered_asks (move.Repeated m) a k s h = inl h
  entered_asks (move.Quiet i) a k s h = inl h
  entered_asks (move.Negotiated m) a k s h = inl h
  entered_asks (move.Counted m) a k s h = inl h
  entered_asks (move.FrameSent m) a k s h = inl h
  entered_asks (move.FrameUp m) a k s h = inl h
  entered_asks m a k s h = inl h

  -- ---- letters that are taken

  takes_more : (a : Account) (t : Taken) (k : ℕ) (u : Taken) → slice_get a.taken k ≡ Some u → slice_get (a.taken ++ t ∷ []) k ≡ Some u
  takes_more a t k u h = got_left a.taken (t ∷ []) k u h

  entered_taken : (m : Move) (a : Account) (k : ℕ) (u : Taken) → slice_get a.taken k ≡ Some u → slice_get (entered (deed m) a).taken k ≡ Some u
  entered_taken (move.Opened m) a k u h = h
  entered_taken (move.Accepted m) a k u h = takes_more a _ k u h
  entered_taken (move.Connected m) a k u h = takes_more a _ k u h
  entered_taken (move.Confirmed m) a k u h = takes_more a _ k u h
  entered_taken (move.Added m) a k u h = h
  entered_taken (move.Requested m) a k u h = h
  entered_taken (move.Replied m) a k u h = takes_more a _ k u h
  entered_taken (move.FirstUp m) a k u h = takes_more a _ k u h
  entered_taken (move.SecondUp m) a k u h = takes_more a _ k u h
  entered_taken (move.Refused m) a k u h = takes_more a _ k u h
  entered_taken (move.EndTold m) a k u h = h
  entered_taken (move.EndHeard m) a k u h = takes_more a _ k u h
  entered_taken (move.EndSilent m) a k u h = h
  entered_taken (move.Declined m) a k u h = h
  entered_taken (move.Closed m) a k u h = h
  entered_taken (move.Rejected m) a k u h = takes_more a _ k u h
  entered_taken (move.ClosedBy m) a k u h = takes_more a _ k u h
  entered_taken (move.Cleared i booked) a k u h = h
  entered_taken (move.Greeted m) a k u h = h
  entered_taken (move.TookPlain m) a k u h = takes_more a _ k u h
  entered_taken (move.NrRead m) a k u h = h
  entered_taken (move.LetGo m) a k u h = h
  entered_taken (move.Repeated m) a k u h = h
  entered_taken (move.Quiet i) a k u h = h
  entered_taken (move.Negotiated m) a k u h = h
  entered_taken (move.Counted m) a k u h = h
  entered_taken (move.FrameSent m) a k u h = h
  entered_taken (move.FrameUp m) a k u h = h
  entered_taken m a k u h = h

  -- the request that a call is made for is the next letter that is taken
  abbrev pub taken_for : Replied → Taken
  taken_for m = record { sender = sender; number = m.taken.number; move = move.Replied m }

  entered_replied : (m : Replied) (a : Account) → slice_get (entered (deed (move.Replied m)) a).taken (length a.taken) ≡ Some (taken_for m)
  entered_replied m a = got_last a.taken (taken_for m)

  -- ---- after a deed

  deed_here : (m : Move) (a : Account) → KeepsLetters (entered (deed m) a) (after_deed (deed m) n (about m) a)
  deed_here m a = rw (eq-eqb n n refl, eq-eqb (about m) (about m) refl) (declined_keeps (declines_of m n (about m)) (entered (deed m) a))

  deed_other : (m : Move) (i : ℕ) (a : Account) → (i ≡ about m → ⊥) → KeepsLetters a (after_deed (deed m) n i a)
  deed_other m i a other = rw (eq-eqb n n refl, ne_eqb (about m) i (λ e. other (sym e))) (declined_keeps (declines_of m n i) a)

  deed_elsewhere : (m : Move) (q i : ℕ) (a : Account) → (q ≡ n → ⊥) → KeepsLetters a (after_deed (deed m) q i a)
  deed_elsewhere m q i a other = rw (ne_eqb n q (λ e. other (sym e))) (declined_keeps (declines_of m q i) a)

  -- the tunnels of the node
  abbrev pub known_after : Move → Known → Known
  known_after m known i = after_deed (deed m) n i (known i)

  -- a letter that asks was there, or the move gives it to its tunnel
  pub deed_asks : (m : Move) (known : Known) (i k s : ℕ) → Asking (known_after m known i).given k s
      → (Asking (known i).given k s) ⊎ ((i ≡ about m) × (k ≡ length (known (about m)).given) × IsRequest m s)
  deed_asks m known i k s h = ⊎_elim
      (λ (e : i ≡ about m).
      let here : Asking (after_deed (deed m) n (about m) (known (about m))).given k s =
      subst (λ j. Asking (after_deed (deed m) n j (known j)).given k s) e h in
      let now : Asking (entered (deed m) (known (about m))).given k s = subst (λ ls. Asking ls k s) (deed_here m (known (about m))).given here in
      ⊎_elim
      (λ b. inl (subst (λ j. Asking (known j).given k s) (sym e) b))
      (λ (b : (k ≡ length (known (about m)).given) × IsRequest m s). inr (e, b.0, b.1))
      (entered_asks m (known (about m)) k s now))
      (λ other. inl (subst (λ ls. Asking ls k s) (deed_other m i (known i) other).given h))
      (same_or_not i (about m))

  -- what was taken stays
  pub deed_taken : (m : Move) (known : Known) (i k : ℕ) (u : Taken) → slice_get (known i).taken k ≡ Some u → slice_get (known_after m known i).taken k ≡ Some u
  deed_taken m known i k u h = ⊎_elim
      (λ (e : i ≡ about m).
      let now = entered_taken m (known (about m)) k u (subst (λ j. slice_get (known j).taken k ≡ Some u) e h) in
      let here : slice_get (after_deed (deed m) n (about m) (known (about m))).taken k ≡ Some u =
      subst (λ ts. slice_get ts k ≡ Some u) (sym (deed_here m (known (about m))).taken) now in
      subst (λ j. slice_get (after_deed (deed m) n j (known j)).taken k ≡ Some u) (sym e) here)
      (λ other. subst (λ ts. slice_get ts k ≡ Some u) (sym (deed_other m i (known i) other).taken) h)
      (same_or_not i (about m))

  pub deed_replied : (m : Replied) (known : Known)
      → slice_get (known_after (move.Replied m) known m.tunnel).taken (length (known m.tunnel).taken) ≡ Some (taken_for m)
  deed_replied m known = subst
      (λ ts. slice_get ts (length (known m.tunnel).taken) ≡ Some (taken_for m)) (sym (deed_here (move.Replied m) (known m.tunnel)).taken)
      (entered_replied m (known m.tunnel))

  -- the deeds of a step change no letters of a tunnel of another node
  pub deeds_elsewhere : (ms : List Move) (q i : ℕ) (a : Account) → (q ≡ n → ⊥) → KeepsLetters a (account_from (deeds ms) q i a)
  unfolding account_from
  deeds_elsewhere [] q i a other = record { given = refl; taken = refl }
  deeds_elsewhere (m ∷ ms) q i a other =
      let first = deed_elsewhere m q i a other in
      let rest = deeds_elsewhere ms q i (after_deed (deed m) q i a) other in
      record { given = rest.given ∙ first.given; taken = rest.taken ∙ first.taken }

-- ---- deeds and more deeds

pub account_from-append : (ds es : List Deed) (n i : ℕ) (a : Account) → account_from (ds ++ es) n i a ≡ account_from es n i (account_from ds n i a)
unfolding account_from
account_from-append [] es n i a = refl
account_from-append (d ∷ ds) es n i a = account_from-append ds es n i (after_deed d n i a)
