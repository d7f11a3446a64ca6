-- What a move changes in the accounts of tunnels, and whose end it changes.
use Rattle.std.proofs.Common.{◌≡◌, ◌⊎◌, inl, inr, ⊎_elim, ℕ, Bool, true, false, cond, List, [], ◌∷◌, ◌++◌, length, slice_get, refl, sym, ap, ◌∙◌, append-nil, Option, Some, eq-eqb, ne_eqb, None}
use Rattle.id_table.specs.Order.{same_or_not}
use Rattle.end_model.specs.declared.moves.Place.{Place}
use Rattle.end_model.specs.declared.moves.Move.{Move}
use Rattle.end_model.specs.declared.moves.Move.TheVariants as move
use Rattle.end_names.specs.declared.role.Role.{Role}
use Rattle.end_model.specs.End.{End}
use Rattle.world_model.specs.World.{Sender, Deed, config_of}
use Rattle.step_laws.specs.Letters as step
use Rattle.step_laws.specs.Letters.{letters_of}
use Rattle.connection_laws.specs.Accounts.{Taken, Account, about, entered, entered_by, takes_at, gives_also, declines_of}
use Rattle.connection_laws.specs.Facts.{Accounts}
use Rattle.connection_laws.specs.Steps.{after, IsDeed}
use Rattle.session_laws.specs.Joined.{Ends}
use Rattle.session_laws.proofs.Births.{IsElse}
use Rattle.session_laws.proofs.Keeps.{with_end}

-- ---- accounts

pub here_or_not : (m n j i : ℕ) → ((m ≡ n) × (j ≡ i)) ⊎ ((m ≡ n) × (j ≡ i) → ⊥)
here_or_not m n j i =
    ⊎_elim
    (λ (p : m ≡ n). ⊎_elim (λ (q : j ≡ i). inl (p, q)) (λ no. inr (λ (both : (m ≡ n) × (j ≡ i)). no both.1)) (same_or_not j i))
    (λ no. inr (λ (both : (m ≡ n) × (j ≡ i)). no both.0))
    (same_or_not m n)

pub either_way : {X : Type 0} (b : Bool) (x : X) → cond b x x ≡ x
either_way true x = refl
either_way false x = refl

-- the move declines no opening: then it changes no account but that of its own tunnel
abbrev pub DeclinesNone : Move → Type 0
DeclinesNone m = (k j : ℕ) → declines_of m k j ≡ false

pub else_none : (m : Move) → IsElse m → DeclinesNone m
else_none (move.Added m) is = absurd is
else_none (move.Replied m) is = absurd is
else_none (move.FirstUp m) is = absurd is
else_none (move.Declined m) is = absurd is
else_none (move.Opened m) is = λ k j. refl
else_none (move.Accepted m) is = λ k j. refl
else_none (move.Connected m) is = λ k j. refl
else_none (move.Confirmed m) is = λ k j. refl
else_none (move.Requested m) is = λ k j. refl
else_none (move.SecondUp m) is = λ k j. refl
else_none (move.Refused m) is = λ k j. refl
else_none (move.EndTold m) is = λ k j. refl
else_none (move.EndHeard m) is = λ k j. refl
else_none (move.EndSilent m) is = λ k j. refl
else_none (move.Closed m) is = λ k j. refl
else_none (move.Rejected m) is = λ k j. refl
else_none (move.ClosedBy m) is = λ k j. refl
else_none (move.Cleared i booked) is = λ k j. refl
else_none (move.Greeted m) is = λ k j. refl
else_none (move.TookPlain m) is = λ k j. refl
else_none (move.NrRead m) is = λ k j. refl
else_none (move.LetGo m) is = λ k j. refl
else_none (move.Repeated m) is = λ k j. refl
else_none (move.Quiet i) is = λ k j. refl
else_none (move.Negotiated m) is = λ k j. refl
else_none (move.Counted m) is = λ k j. refl
else_none (move.FrameSent m) is = λ k j. refl
else_none (move.FrameUp m) is = λ k j. refl
else_none m is = λ k j. refl

after_there : (accs : Accounts) (d : Deed) (m j : ℕ) → declines_of d.move m j ≡ false → ((m ≡ d.node) × (j ≡ about d.move) → ⊥)
    → after accs d m j ≡ accs m j
after_there accs d m j none apart =
    ⊎_elim
    (λ (p : d.node ≡ m). rw (none, p, eq-eqb m m refl, ne_eqb (about d.move) j (λ q. apart (sym p, sym q))) refl)
    (λ other. rw (none, ne_eqb d.node m other) refl)
    (same_or_not d.node m)

none_in : (d : Deed) (m : Move) → d.move ≡ m → DeclinesNone m → DeclinesNone d.move
none_in d m is none k j = ap (λ q. declines_of q k j) is ∙ none k j

-- a move enters one tunnel of its node
pub after_here : (accs : Accounts) (d : Deed) (n : ℕ) (m : Move) → d.node ≡ n → d.move ≡ m → DeclinesNone m
    → after accs d n (about m) ≡ entered_by d m (accs n (about m))
after_here accs d n m node is none =
    let here : after accs d n (about m) ≡ entered d (accs n (about m)) =
    rw (none_in d m is none n (about m), node, ap about is, eq-eqb n n refl, eq-eqb (about m) (about m) refl) refl in
    here ∙ ap (λ q. entered_by d q (accs n (about m))) is

-- and no other one
pub after_elsewhere : (accs : Accounts) (d : Deed) (n : ℕ) (m : Move) → d.node ≡ n → d.move ≡ m → DeclinesNone m → (k j : ℕ)
    → ((k ≡ n) × (j ≡ about m) → ⊥) → after accs d k j ≡ accs k j
after_elsewhere accs d n m node is none k j apart =
    after_there accs d k j (none_in d m is none k j) (λ both. apart (both.0 ∙ node, both.1 ∙ ap about is))

-- where nothing changes in it, no account changes
pub all_still : (accs : Accounts) (d : Deed) (n : ℕ) (m : Move) → d.node ≡ n → d.move ≡ m → DeclinesNone m
    → entered_by d m (accs n (about m)) ≡ accs n (about m) → (k j : ℕ) → after accs d k j ≡ accs k j
all_still accs d n m node is none still k j = ⊎_elim
    (λ (p : (k ≡ n) × (j ≡ about m)). rw (p.0, p.1) (after_here accs d n m node is none ∙ still))
    (λ apart. after_elsewhere accs d n m node is none k j apart)
    (here_or_not k n j (about m))

-- ---- ends

pub with_here : (ends : Ends) (n : ℕ) (x : End) → with_end ends n x n ≡ Some x
with_here ends n x = rw (eq-eqb n n refl) refl

pub with_there : (ends : Ends) (n : ℕ) (x : End) (m : ℕ) → (m ≡ n → ⊥) → with_end ends n x m ≡ ends m
with_there ends n x m other = rw (ne_eqb m n other) refl

-- ---- what is known of a tunnel

-- the account of a tunnel that takes a letter and is given these
abbrev pub with_taken : Taken → List step.Letter → Account → Account
with_taken tk more a = record a { given = a.given ++ more; taken = a.taken ++ tk ∷ [] }

abbrev pub with_given : List step.Letter → Account → Account
with_given more a = record a { given = a.given ++ more }

-- what is kept of the letter
abbrev pub taken_as : Option Sender → Place → Move → Taken
taken_as sender place m = record { sender = sender; number = place.number; move = m }

pub takes_only : (d : Deed) (n : ℕ) (role : Role) (sender : Option Sender) (m : Move) (place : Place) (a : Account) → IsDeed d n role sender m
    → takes_at d place a ≡ with_taken (taken_as sender place m) [] a
takes_only d n role sender m place a deed = rw (deed.sender_is, deed.move_is, append-nil) refl

pub takes_and_gives : (d : Deed) (n : ℕ) (role : Role) (sender : Option Sender) (m : Move) (place : Place) (a : Account) → IsDeed d n role sender m
    → gives_also d (takes_at d place a) ≡ with_taken (taken_as sender place m) (letters_of role (config_of n 0 None false) m) a
takes_and_gives d n role sender m place a deed = rw (deed.sender_is, deed.move_is, deed.role_is, deed.node_is) refl

pub gives_only : (d : Deed) (n : ℕ) (role : Role) (sender : Option Sender) (m : Move) (a : Account) → IsDeed d n role sender m
    → gives_also d a ≡ with_given (letters_of role (config_of n 0 None false) m) a
gives_only d n role sender m a deed = rw (deed.move_is, deed.role_is, deed.node_is) refl

-- the letter that was taken is the last one
pub got_last : {X : Type 0} (xs : List X) (x : X) → slice_get (xs ++ x ∷ []) (length xs) ≡ Some x
got_last [] x = refl
got_last (y ∷ xs) x = got_last xs x
