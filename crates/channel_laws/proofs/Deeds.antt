-- The deed of a reset: one account begins anew, and all else that is known stays.
use Rattle.std.proofs.Common.{◌≡◌, ℕ, ◌<◌, Bool, true, false, [], refl, sym, ap, ◌∙◌, subst, Option, arith}
use Rattle.std.proofs.lemmas.Bool.{true≢false, eqb-true, eq-eqb}
use Rattle.std.specs.Prelude.{◌==◌, ◌&&◌, if◌then◌else◌}
use Rattle.end_model.specs.declared.moves.Move.TheVariants as move
use Rattle.end_model.specs.declared.moves.ResetAnswering.{ResetAnswering}
use Rattle.end_model.specs.declared.moves.ResetAttempting.{ResetAttempting}
use Rattle.end_model.specs.declared.moves.Restored.{Restored}
use Rattle.end_model.specs.declared.moves.Froze.{Froze}
use Rattle.end_names.specs.Names.{node_of}
use Rattle.world_model.specs.World.{World, Deed, epoch_of}
use Rattle.channel_laws.specs.Accounts.{Part, Unmade, Opener, Acceptor, Renewed, Account, no_account, renewed, about, declines_of, declined_in, entered_by, after_deed, attempts_by, answers_by, after, History}
use Rattle.channel_laws.specs.Facts.{IsPart, Holds}
use Rattle.channel_laws.proofs.Anew.{Begins}

-- an account of an epoch above the one in which its tunnel is was never made
pub not_entered : (w : World) (h : History) → Holds w h → (n i e : ℕ) → epoch_of w n i < e → h.accounts n i e ≡ no_account
not_entered w h holds n i e above = by (h.accounts n i e).part refl
  where
    made : ((h.accounts n i e).part ≡ Unmade → ⊥) → ⊥
    made some = let le = (holds.accounts n i e).entered some in omega (arith, le, above)

    by : (p : Part) → (h.accounts n i e).part ≡ p → h.accounts n i e ≡ no_account
    by Unmade is = subst (IsPart w h n i e (h.accounts n i e)) is (holds.accounts n i e).part
    by Opener is = absurd (made (λ z. let two = sym is ∙ z in absurd cc))
    by Acceptor is = absurd (made (λ z. let two = sym is ∙ z in absurd cc))
    by Renewed is = absurd (made (λ z. let two = sym is ∙ z in absurd cc))

all_three : (a b c : Bool) → (a && b) && c ≡ true → (a ≡ true) × (b ≡ true) × (c ≡ true)
all_three true true true is = (refl, refl, refl)
all_three true true false is = absurd (true≢false (sym is))
all_three true false c is = absurd (true≢false (sym is))
all_three false b c is = absurd (true≢false (sym is))

chosen_here : {X : Type 0} (a b c : Bool) (x y : X) → a ≡ true → b ≡ true → c ≡ true → (if (a && b) && c then x else y) ≡ x
chosen_here a b c x y p q r = ap (λ t. if (t && b) && c then x else y) p ∙ (ap (λ t. if (true && t) && c then x else y) q ∙ ap (λ t. if (true && true) && t then x else y) r)

-- the deed of a move that declines nothing, and is no attempt and no answer: its account alone is another one
module _ (h : History) (d : Deed) (n i e : ℕ) (new : Account) (node : d.node ≡ n) (about_it : about d.move ≡ i) (epoch : d.epoch ≡ e)
    (becomes : entered_by d d.move (h.accounts n i e) ≡ new) (declines : (m j : ℕ) → declines_of d.move m j ≡ false)
    (attempts : (m a : ℕ) (o : Option Restored) → attempts_by d d.move m a o ≡ o) (answers : (m c : ℕ) (o : Option Froze) → answers_by d d.move m c o ≡ o) where
  plain : (m j u : ℕ) (a : Account) → after_deed d m j u a ≡ (if ((d.node == m) && (about d.move == j)) && (d.epoch == u) then entered_by d d.move a else a)
  plain m j u a = ap (λ b. declined_in (b && (u == 0)) (if ((d.node == m) && (about d.move == j)) && (d.epoch == u) then entered_by d d.move a else a)) (declines m j)

  pub here : after_deed d n i e (h.accounts n i e) ≡ new
  here =
      plain n i e (h.accounts n i e)
      ∙ (chosen_here (d.node == n) (about d.move == i) (d.epoch == e) _ _ (eq-eqb d.node n node) (eq-eqb (about d.move) i about_it) (eq-eqb d.epoch e epoch) ∙ becomes)

  pub others : (m j u : ℕ) → ((m ≡ n) × (j ≡ i) × (u ≡ e) → ⊥) → after_deed d m j u (h.accounts m j u) ≡ h.accounts m j u
  others m j u apart = plain m j u (h.accounts m j u) ∙ by (((d.node == m) && (about d.move == j)) && (d.epoch == u)) refl
    where
      by : (b : Bool) → ((d.node == m) && (about d.move == j)) && (d.epoch == u) ≡ b → (if b then entered_by d d.move (h.accounts m j u) else h.accounts m j u) ≡ h.accounts m j u
      by true is =
          let k = all_three (d.node == m) (about d.move == j) (d.epoch == u) is in
          absurd (apart (sym (eqb-true d.node m k.0) ∙ node, sym (eqb-true (about d.move) j k.1) ∙ about_it, sym (eqb-true d.epoch u k.2) ∙ epoch))
      by false is = refl

  pub begins_so : 0 < e → h.accounts n i e ≡ no_account → new.part ≡ Renewed → new.given ≡ [] → new.taken ≡ [] → Begins h (after h d) n i e new
  begins_so later was part given taken = record {
    later = later;
    was = was;
    here = here;
    others = others;
    attempts = λ m a. attempts m a (h.attempts m a);
    answers = λ m c. answers m c (h.answers m c);
    part = part;
    given = given;
    taken = taken;
  }

-- of the reset of an end that answers
pub answering_begins : (h : History) (d : Deed) (m : ResetAnswering) (n e : ℕ) → d.move ≡ move.ResetAnswering m → d.node ≡ n → d.epoch ≡ e → 0 < e
    → h.accounts n m.tunnel e ≡ no_account
    → Begins h (after h d) n m.tunnel e (renewed (node_of m.peer) m.remote (record { node = d.node; tunnel = m.answer }) m.send_from m.expect)
answering_begins h d m n e is node epoch later was =
    begins_so h d n m.tunnel e (renewed (node_of m.peer) m.remote (record { node = d.node; tunnel = m.answer }) m.send_from m.expect) node (ap about is) epoch
    (ap (λ q. entered_by d q (h.accounts n m.tunnel e)) is) (λ p j. ap (λ q. declines_of q p j) is) (λ p a o. ap (λ q. attempts_by d q p a o) is)
    (λ p c o. ap (λ q. answers_by d q p c o) is) later was refl refl refl

-- and of the reset of an end that attempts
pub attempting_begins : (h : History) (d : Deed) (m : ResetAttempting) (n e : ℕ) → d.move ≡ move.ResetAttempting m → d.node ≡ n → d.epoch ≡ e → 0 < e
    → h.accounts n m.tunnel e ≡ no_account
    → Begins h (after h d) n m.tunnel e (renewed (node_of m.peer) m.remote (record { node = node_of m.peer; tunnel = m.answer }) m.send_from m.expect)
attempting_begins h d m n e is node epoch later was =
    begins_so h d n m.tunnel e (renewed (node_of m.peer) m.remote (record { node = node_of m.peer; tunnel = m.answer }) m.send_from m.expect) node (ap about is) epoch
    (ap (λ q. entered_by d q (h.accounts n m.tunnel e)) is) (λ p j. ap (λ q. declines_of q p j) is) (λ p a o. ap (λ q. attempts_by d q p a o) is)
    (λ p c o. ap (λ q. answers_by d q p c o) is) later was refl refl refl
