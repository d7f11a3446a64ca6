-- Histories in which a channel goes on: it gives letters and takes some, and all else that is known of channels stays.
use Rattle.std.proofs.Common.{◌≡◌, ◌⊎◌, inl, inr, ⊎_elim, ℕ, Bool, true, false, List, [], ◌++◌, refl, sym, ap, ◌∙◌, subst, Option, Some, None, append-nil}
use Rattle.std.specs.Prelude.{is_some, ◌||◌, ◌&&◌, ◌==◌, if◌then◌else◌}
use Rattle.end_model.specs.declared.moves.Restored.{Restored}
use Rattle.end_model.specs.declared.moves.Froze.{Froze}
use Rattle.end_model.specs.declared.moves.Move.{Move}
use Rattle.end_names.specs.declared.role.Role.{Role}
use Rattle.end_names.specs.Names.{node_of}
use Rattle.world_model.specs.World.{World, Sender, Deed}
use Rattle.step_laws.specs.Letters.{Letter}
use Rattle.connection_laws.specs.Steps.{IsDeed}
use Rattle.epoch_machine.specs.Worlds as machine
use Rattle.epoch_machine.specs.Tunnels.{Tunnels}
use Rattle.session_laws.specs.Names.{name, name_of}
use Rattle.channel_laws.specs.Accounts.{Part, Unmade, Opener, Acceptor, Renewed, Account, History, about, declines_of, declined_in, entered_by, attempts_by, answers_by, after}
use Rattle.channel_laws.specs.Facts.{IsMade, makes}
use Rattle.channel_laws.proofs.Anew.{here_or_not}
use Rattle.channel_laws.proofs.Deeds as deeds
use Rattle.recovery_laws.specs.Joined.{is_early, is_made, learned_name, is_used, LearnedSo, ByLetter, ByRecord, AttemptJoined, AnswerIs, AnswerJoined}
use Rattle.join_laws.proofs.OneTunnel.{Grown}

-- ---- accounts

-- the same but for what is given and taken
pub record Roots (a b : Account) : Type 0 where
  pub part : b.part ≡ a.part
  pub peer : b.peer ≡ a.peer
  pub remote : b.remote ≡ a.remote
  pub answer : b.answer ≡ a.answer
  pub closed : b.closed ≡ a.closed
  pub declined : b.declined ≡ a.declined

pub roots_same : (a : Account) → Roots a a
roots_same a = record { part = refl; peer = refl; remote = refl; answer = refl; closed = refl; declined = refl }

learned_by : (a b : Account) → Roots a b → learned_name b ≡ learned_name a
learned_by a b r =
    ap (λ p. if is_early p b.closed then 0 else name_of b.peer b.remote) r.part
    ∙ (ap (λ c. if is_early a.part c then 0 else name_of b.peer b.remote) r.closed
    ∙ (ap (λ p. if is_early a.part a.closed then 0 else name_of p b.remote) r.peer
    ∙ ap (λ q. if is_early a.part a.closed then 0 else name_of a.peer q) r.remote))

-- ---- histories

pub record Speaks (h g : History) (n i e : ℕ) (ls : List Letter) : Type 0 where
  pub roots : Roots (h.accounts n i e) (g.accounts n i e)
  pub given : (g.accounts n i e).given ≡ (h.accounts n i e).given ++ ls
  pub others : (q j f : ℕ) → ((q ≡ n) × (j ≡ i) × (f ≡ e) → ⊥) → g.accounts q j f ≡ h.accounts q j f
  pub attempts : (q c : ℕ) → g.attempts q c ≡ h.attempts q c
  pub answers : (q c : ℕ) → g.answers q c ≡ h.answers q c

module _ (h g : History) (n i e : ℕ) (ls : List Letter) (s : Speaks h g n i e ls) where
  pub all_roots : (q j f : ℕ) → Roots (h.accounts q j f) (g.accounts q j f)
  all_roots q j f = ⊎_elim
      (λ (p : (q ≡ n) × (j ≡ i) × (f ≡ e)). rw (p.0, p.1, p.2) s.roots)
      (λ o. rw (s.others q j f o) (roots_same (h.accounts q j f)))
      (here_or_not q j f n i e)

  pub other_tunnels : (q j f : ℕ) → ((q ≡ n) × (j ≡ i) → ⊥) → g.accounts q j f ≡ h.accounts q j f
  other_tunnels q j f apart = s.others q j f (λ p. apart (p.0, p.1))

  pub grown : (f : ℕ) → Grown (h.accounts n i f) (g.accounts n i f)
  grown f =
      let r = all_roots n i f in
      record {
        given = ⊎_elim
            (λ (p : (n ≡ n) × (i ≡ i) × (f ≡ e)).
            subst (λ x. (more : List Letter) × ((g.accounts n i x).given ≡ (h.accounts n i x).given ++ more)) (sym p.2) (ls, s.given))
            (λ o. ([], ap (λ (a : Account). a.given) (s.others n i f o) ∙ sym (append-nil (h.accounts n i f).given)))
            (here_or_not n i f n i e);
        acceptor = λ is. (r.part ∙ is, r.peer, r.remote);
      }

  pub learned_on : (q j x : ℕ) → LearnedSo h.accounts q j x → LearnedSo g.accounts q j x
  learned_on q j x (ByLetter is) = ByLetter (is ∙ sym (learned_by (h.accounts q j 0) (g.accounts q j 0) (all_roots q j 0)))
  learned_on q j x (ByRecord c part none some is accepts back own) =
      let r = all_roots q j 0 in
      let k = all_roots (h.accounts q j 0).peer c 0 in
      ByRecord c (r.part ∙ part) (r.remote ∙ none) some (is ∙ ap (λ y. name y c) (sym r.peer))
      (ap (λ y. (g.accounts y c 0).part) r.peer ∙ (k.part ∙ accepts))
      (ap (λ y. (g.accounts y c 0).peer) r.peer ∙ (k.peer ∙ back))
      (ap (λ y. (g.accounts y c 0).remote) r.peer ∙ (k.remote ∙ own))

  pub made_before : (q j : ℕ) → IsMade (g.accounts q j 0) → IsMade (h.accounts q j 0)
  made_before q j made none = made ((all_roots q j 0).part ∙ none)

  pub used_as : (q c : ℕ) → is_used g q c ≡ is_used h q c
  used_as q c =
      ap (λ p. is_made p || (is_some (g.attempts q c) || is_some (g.answers q c))) (all_roots q c 0).part
      ∙ (ap (λ o. is_made (h.accounts q c 0).part || (is_some o || is_some (g.answers q c))) (s.attempts q c)
      ∙ ap (λ o. is_made (h.accounts q c 0).part || (is_some (h.attempts q c) || is_some o)) (s.answers q c))

-- ---- attempts and answers stay joined

pub attempt_as : (m z : machine.World) (n c : ℕ) (o : Option Restored) → z.tunnels ≡ m.tunnels → AttemptJoined m n c o
    → AttemptJoined z n c o
attempt_as m z n c None same is = ap (λ (T : Tunnels). T.attempts (name n c)) same ∙ is
attempt_as m z n c (Some r) same is = ap (λ (T : Tunnels). T.attempts (name n c)) same ∙ is

pub answer_as : (m z : machine.World) (v u : World) (h g : History) (n c : ℕ) (o : Option Froze) → z.tunnels ≡ m.tunnels
    → makes u n c ≡ makes v n c
    → ((q j f : ℕ) → (g.accounts q j f).answer ≡ (h.accounts q j f).answer) → AnswerJoined m v h n c o → AnswerJoined z u g n c o
answer_as m z v u h g n c None same makes_it answers is = ap (λ (T : Tunnels). T.answers (name n c)) same ∙ is
answer_as m z v u h g n c (Some f) same makes_it answers a = record {
  given = ap (λ (T : Tunnels). T.answers (name n c)) same ∙ a.given;
  answered = ap (λ (T : Tunnels). T.answered (name n c)) same ∙ a.answered;
  epoch = ap (λ (T : Tunnels). T.makes (name n c)) same ∙ (a.epoch ∙ sym makes_it);
  own = ap (λ (T : Tunnels). T.giver_first (name n c)) same ∙ a.own;
  theirs = ap (λ (T : Tunnels). T.other_first (name n c)) same ∙ a.theirs;
  confirmed = λ entered.
      ap (λ (T : Tunnels). T.confirmed (name n c)) same
      ∙ a.confirmed (sym (answers (node_of f.peer) f.remote (makes v n c)) ∙
      subst (λ e. (g.accounts (node_of f.peer) f.remote e).answer ≡ Some (record { node = n; tunnel = c })) makes_it entered);
}

-- ---- the deed of a move in one channel

-- it declines nothing, and is no attempt and no answer
pub record IsPlain (d : Deed) (m : Move) : Type 0 where
  pub declines : (q j : ℕ) → declines_of m q j ≡ false
  pub attempts : (q a : ℕ) (o : Option Restored) → attempts_by d m q a o ≡ o
  pub answers : (q c : ℕ) (o : Option Froze) → answers_by d m q c o ≡ o

module _ (h : History) (d : Deed) (n e : ℕ) (role : Role) (sender : Option Sender) (m : Move) (deed : IsDeed d n role sender m) (epoch
    : d.epoch ≡ e)
    (plain : IsPlain d m) (new : Account) (becomes : entered_by d m (h.accounts n (about m) e) ≡ new) where
  declines : (q j : ℕ) → declines_of d.move q j ≡ false
  declines q j = ap (λ y. declines_of y q j) deed.move_is ∙ plain.declines q j

  attempts : (q a : ℕ) (o : Option Restored) → attempts_by d d.move q a o ≡ o
  attempts q a o = ap (λ y. attempts_by d y q a o) deed.move_is ∙ plain.attempts q a o

  answers : (q c : ℕ) (o : Option Froze) → answers_by d d.move q c o ≡ o
  answers q c o = ap (λ y. answers_by d y q c o) deed.move_is ∙ plain.answers q c o

  becomes_it : entered_by d d.move (h.accounts n (about m) e) ≡ new
  becomes_it = ap (λ y. entered_by d y (h.accounts n (about m) e)) deed.move_is ∙ becomes

  pub account_is : (after h d).accounts n (about m) e ≡ new
  account_is = deeds.here h d n (about m) e new deed.node_is (ap about deed.move_is) epoch becomes_it declines attempts answers

  pub speaks : (ls : List Letter) → Roots (h.accounts n (about m) e) new → new.given ≡ (h.accounts n (about m) e).given ++ ls
      → Speaks h (after h d) n (about m) e ls
  speaks ls roots given = record {
    roots = subst (Roots (h.accounts n (about m) e)) (sym account_is) roots;
    given = ap (λ (a : Account). a.given) account_is ∙ given;
    others = deeds.others h d n (about m) e new deed.node_is (ap about deed.move_is) epoch becomes_it declines attempts answers;
    attempts = λ q a. attempts q a (h.attempts q a);
    answers = λ q c. answers q c (h.answers q c);
  }

-- ---- a deed that changes no account

pub account_stays : (h : History) (d : Deed) (m : Move) → d.move ≡ m → ((a : Account) → entered_by d m a ≡ a) → ((q j : ℕ)
    → declines_of m q j ≡ false)
    → (q j e : ℕ) → (after h d).accounts q j e ≡ h.accounts q j e
account_stays h d m is enters declines q j e =
    ap (λ b. declined_in (b && (e == 0)) (if ((d.node == q) && (about d.move == j)) && (d.epoch == e) then entered_by d d.move a else a))
    (ap (λ y. declines_of y q j) is ∙ declines q j)
    ∙ by (((d.node == q) && (about d.move == j)) && (d.epoch == e))
  where
    a : Account
    a = h.accounts q j e

    by : (b : Bool) → (if b then entered_by d d.move (h.accounts q j e) else h.accounts q j e) ≡ h.accounts q j e
    by true = ap (λ y. entered_by d y (h.accounts q j e)) is ∙ enters (h.accounts q j e)
    by false = refl
