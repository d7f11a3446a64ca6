-- A tunnel that made a call for a request gave its reply, and so it gave more than an SCCRP and a StopCCN.
use Rattle.std.proofs.Common.{◌≡◌, ◌⊎◌, ⊎_elim, ℕ, zero, suc, Bool, true, false, cond, List, [], ◌∷◌, ◌++◌, length, slice_get, refl, sym, ap, ◌∙◌, subst, Some, None, arith}
use Rattle.std.specs.Prelude.{◌==◌, ◌&&◌, drop}
use Rattle.std.specs.List.{AllByRecursion}
use Rattle.control_message.specs.declared.message.Message.TheVariants.{Sccrp, Icrp}
use Rattle.end_model.specs.declared.moves.Replied.{Replied}
use Rattle.end_model.specs.declared.moves.Move.{Move}
use Rattle.end_model.specs.declared.moves.Move.TheVariants as move
use Rattle.world_model.specs.World.{Deed, config_of}
use Rattle.step_laws.specs.Letters.{Letter, letters_of}
use Rattle.connection_laws.specs.Accounts.{Taken, Account, no_account, gives, about, entered, entered_by, declines_of, declined_in, after_deed, account_from, account_of}
use Rattle.connection_laws.specs.Facts.{BeginsWith, IsStopCcn, HasStopped}
use Rattle.request_laws.proofs.Lists.{got_left, got_last, got_in, got_below, all_at}

-- one of these letters replies, and tells the session
pub record HasReply (ls : List Letter) (s : ℕ) : Type 0 where
  pub number : ℕ
  pub letter : Letter
  pub there : slice_get ls number ≡ Some letter
  pub says : letter.message ≡ Icrp s

reply_later : (ls more : List Letter) (s : ℕ) → HasReply ls s → HasReply (ls ++ more) s
reply_later ls more s h = record { number = h.number; letter = h.letter; there = got_left ls more h.number h.letter h.there; says = h.says }

-- for each call that was made for a letter of these the reply was given
abbrev AreReplied : List Taken → List Letter → Type 0
AreReplied ts ls = (k : ℕ) (t : Taken) (m : Replied) → slice_get ts k ≡ Some t → t.move ≡ move.Replied m → HasReply ls m.session

more_given : (ts : List Taken) (ls more : List Letter) → AreReplied ts ls → AreReplied ts (ls ++ more)
more_given ts ls more h k t m there is = reply_later ls more m.session (h k t m there is)

more_taken : (ts : List Taken) (ls : List Letter) (t : Taken) → ((m : Replied) → t.move ≡ move.Replied m → HasReply ls m.session) → AreReplied ts ls
    → AreReplied (ts ++ t ∷ []) ls
more_taken ts ls t new h k u m there is = ⊎_elim
    (λ a. h k u m a is)
    (λ (a : (k ≡ length ts) × (t ≡ u)). new m (ap (λ (x : Taken). x.move) a.1 ∙ is))
    (got_in ts t k u there)

-- a move that makes a call for a request gives the reply
reply_given : (d : Deed) (ls : List Letter) (m : Replied) → d.move ≡ move.Replied m → HasReply (ls ++ gives d) m.session
reply_given d ls m is =
    let l : Letter = record { tunnel = m.tunnel; place = m.given; session = m.remote; message = Icrp m.session; hidden = None } in
    let one : gives d ≡ l ∷ [] = ap (λ q. letters_of d.role (config_of d.node 0 None false) q) is in
    rw one (record { number = length ls; letter = l; there = got_last ls l; says = refl })

-- what a deed leaves of a tunnel
abbrev StillReplied : Deed → Account → Account → Type 0
StillReplied d a b = AreReplied a.taken a.given → AreReplied b.taken b.given

-- it gives a letter, takes one, or does both
gives_one : (d : Deed) (a : Account) → AreReplied a.taken a.given → AreReplied a.taken (a.given ++ gives d)
gives_one d a h = more_given a.taken a.given (gives d) h

takes_one : (d : Deed) (a : Account) (t : Taken) → t.move ≡ d.move → ((m : Replied) → d.move ≡ move.Replied m → ⊥) → AreReplied a.taken a.given
    → AreReplied (a.taken ++ t ∷ []) a.given
takes_one d a t same none h = more_taken a.taken a.given t (λ m is. absurd (none m (sym same ∙ is))) h

does_both : (d : Deed) (a : Account) (t : Taken) → t.move ≡ d.move → AreReplied a.taken a.given → AreReplied (a.taken ++ t ∷ []) (a.given ++ gives d)
does_both d a t same h = more_taken a.taken (a.given ++ gives d) t (λ m is. reply_given d a.given m (sym same ∙ is)) (gives_one d a h)

entered_replied : (d : Deed) (a : Account) (q : Move) → d.move ≡ q → AreReplied a.taken a.given
    → AreReplied (entered_by d q a).taken (entered_by d q a).given
entered_replied d a (move.Opened m) is h = gives_one d a h
entered_replied d a (move.Accepted m) is h = does_both d a _ refl h
entered_replied d a (move.Connected m) is h = does_both d a _ refl h
entered_replied d a (move.Confirmed m) is h = takes_one d a _ refl (λ k e. absurd (cc)) h
entered_replied d a (move.Added m) is h = h
entered_replied d a (move.Requested m) is h = gives_one d a h
entered_replied d a (move.Replied m) is h = does_both d a _ refl h
entered_replied d a (move.FirstUp m) is h = does_both d a _ refl h
entered_replied d a (move.SecondUp m) is h = takes_one d a _ refl (λ k e. absurd (cc)) h
entered_replied d a (move.Refused m) is h = does_both d a _ refl h
entered_replied d a (move.EndTold m) is h = gives_one d a h
entered_replied d a (move.EndHeard m) is h = takes_one d a _ refl (λ k e. absurd (cc)) h
entered_replied d a (move.EndSilent m) is h = h
entered_replied d a (move.Declined m) is h = h
entered_replied d a (move.Closed m) is h = gives_one d a h
entered_replied d a (move.Rejected m) is h = does_both d a _ refl h
entered_replied d a (move.ClosedBy m) is h = takes_one d a _ refl (λ k e. absurd (cc)) h
entered_replied d a (move.Cleared i booked) is h = h
entered_replied d a (move.Greeted m) is h = gives_one d a h
entered_replied d a (move.TookPlain m) is h = takes_one d a _ refl (λ k e. absurd (cc)) h
entered_replied d a (move.NrRead m) is h = h
entered_replied d a (move.LetGo m) is h = h
entered_replied d a (move.Repeated m) is h = h
entered_replied d a (move.Quiet i) is h = h
entered_replied d a (move.Negotiated m) is h = h
entered_replied d a (move.Counted m) is h = h
entered_replied d a (move.FrameSent m) is h = h
entered_replied d a (move.FrameUp m) is h = h
entered_replied d a m is h = h

deed_replied : (d : Deed) (n i : ℕ) (a : Account) → AreReplied a.taken a.given → AreReplied (after_deed d n i a).taken (after_deed d n i a).given
deed_replied d n i a h = by (declines_of d.move n i) ((d.node == n) && (about d.move == i))
  where
    by : (declined here : Bool) → let b : Account = declined_in declined (cond here (entered d a) a) in AreReplied b.taken b.given
    by true true = entered_replied d a d.move refl h
    by true false = h
    by false true = entered_replied d a d.move refl h
    by false false = h

deeds_replied : (ds : List Deed) (n i : ℕ) (a : Account) → AreReplied a.taken a.given
    → AreReplied (account_from ds n i a).taken (account_from ds n i a).given
unfolding account_from
deeds_replied [] n i a h = h
deeds_replied (d ∷ ds) n i a h = deeds_replied ds n i (after_deed d n i a) (deed_replied d n i a h)

pub replies_are_given : (ds : List Deed) (n i k : ℕ) (t : Taken) (m : Replied) → slice_get (account_of ds n i).taken k ≡ Some t → t.move ≡ move.Replied m
    → HasReply (account_of ds n i).given m.session
replies_are_given ds n i = deeds_replied ds n i no_account (λ k t m there is. absurd (let clash : ⊥ = cc in clash))

-- an SCCRP alone, and one before a StopCCN, have no reply among them
pub no_reply : (i : ℕ) (a : Account) → BeginsWith i Sccrp a.given → (length a.given ≡ 1) ⊎ HasStopped a → (s : ℕ) → HasReply a.given s → ⊥
no_reply i a begins few s h = by h.number h.there
  where
    by : (k : ℕ) → slice_get a.given k ≡ Some h.letter → ⊥
    by zero there =
        let found : slice_get (begins.first ∷ begins.rest) 0 ≡ Some h.letter = subst (λ ls. slice_get ls 0 ≡ Some h.letter) begins.are there in
        let e : begins.first ≡ h.letter = cc in
        let told = sym begins.says_so ∙ ap (λ (x : Letter). x.message) e ∙ h.says in
        let clash : ⊥ = cc in clash
    by (suc k) there = ⊎_elim
        (λ one. (let below = got_below a.given (suc k) h.letter there in omega (arith, one, below)))
        (λ (stopped : HasStopped a).
        let stops = subst (λ ls. AllByRecursion (λ (l : Letter). IsStopCcn l.message) (drop 1 ls)) begins.are stopped.stops in
        let found : slice_get begins.rest k ≡ Some h.letter = subst (λ ls. slice_get ls (suc k) ≡ Some h.letter) begins.are there in
        subst IsStopCcn h.says (all_at (λ (l : Letter). IsStopCcn l.message) begins.rest k h.letter found stops))
        few
