-- Channels that grow by a letter that is given, one that is taken, or both.
use Rattle.std.proofs.Common.{◌≡◌, inl, ⊎_elim, ℕ, suc, ◌≤◌, refl, arith}
use Rattle.epoch_machine.specs.Letters.{Letter}
use Rattle.epoch_machine.specs.Channels.{Channels, puts, counts, refuses}
use Rattle.epoch_machine.proofs.Places.{Counted, gave, counted, count_here}
use Rattle.birth_laws.proofs.Means.{LettersGrow}

one_more : (h g : Channels) (x e : ℕ) → Counted h g x e → (y f : ℕ) → h.taken y f ≤ g.taken y f
one_more h g x e c y f = ⊎_elim (λ a. let b = a.1 in omega arith) (λ a. omega arith) (c.counts y f)

pub idle_grows : (h : Channels) (x e : ℕ) (l : Letter) → LettersGrow h h x e l
idle_grows h x e l = record { before = λ y f k m s. inl s; later = λ y f k m s. s; taken = λ y f. omega arith }

pub took_grows : (h : Channels) (x e : ℕ) (l : Letter) → LettersGrow h (counts h x e) x e l
unfolding counts
took_grows h x e l = record { before = λ y f k m s. inl s; later = λ y f k m s. s; taken = one_more h (counts h x e) x e (counted h (counts h x e) x e (λ y f. refl)) }

pub gave_grows : (h : Channels) (x e : ℕ) (l : Letter) → LettersGrow h (puts h x e l) x e l
unfolding puts
gave_grows h x e l = let g = gave h (puts h x e l) x e l (λ y f. refl) in record { before = g.before; later = g.later; taken = λ y f. omega arith }

pub answered_grows : (h : Channels) (x e : ℕ) (l : Letter) → LettersGrow h (puts (counts h x e) x e l) x e l
unfolding puts counts
answered_grows h x e l = let g = gave h (puts (counts h x e) x e l) x e l (λ y f. refl) in record { before = g.before; later = g.later; taken = one_more h (puts (counts h x e) x e l) x e (counted h (puts (counts h x e) x e l) x e (λ y f. refl)) }

pub accepted_grows : (h : Channels) (x e : ℕ) (l : Letter) → LettersGrow h (counts (puts h x e l) x e) x e l
unfolding puts counts
accepted_grows h x e l = let g = gave h (counts (puts h x e l) x e) x e l (λ y f. refl) in record { before = g.before; later = g.later; taken = one_more h (counts (puts h x e l) x e) x e (counted h (counts (puts h x e l) x e) x e (λ y f. refl)) }

pub refused_grows : (h : Channels) (s x e : ℕ) (l : Letter) → LettersGrow h (refuses h s) x e l
unfolding refuses
refused_grows h s x e l = record { before = λ y f k m s. inl s; later = λ y f k m s. s; taken = λ y f. omega arith }

pub answered_taken : (h : Channels) (x e : ℕ) (l : Letter) → (puts (counts h x e) x e l).taken x e ≡ suc (h.taken x e)
unfolding puts
answered_taken h x e l = count_here h x e
