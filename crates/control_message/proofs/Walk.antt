-- What the walk keeps of the pairs that it passed.
use Rattle.std.proofs.Common.{◌≡◌, ◌≢◌, ℕ, ◌<◌, ◌||◌, Bool, true, false, List, [], ◌∷◌, ◌++◌, length, get_or, set, replicate, Some, is_some, Ok, Err, refl, sym, ap, subst, ◌∙◌, inl, inr, arith}
use Rattle.std.specs.Prelude.{slice_get}
use Rattle.std.specs.List.{AllByRecursion, find}
use Rattle.std.proofs.lemmas.Bool.{cases_Bool, cases_eq, false_from_ne_true}
use Rattle.std.proofs.Math.Bool.{or-true, or-false}
use Rattle.std.proofs.lemmas.List.{length-set, get_or-replicate, get_or-set_same, get_or-set_other}
use Rattle.std.proofs.lemmas.Option.{slice_get-get_or, slice_get_within, get_or_from_slice_get}
use Rattle.avp_codec.specs.declared.avp.Avp.{Avp}
use Rattle.control_message.specs.declared.checking.Seen.{Seen}
use Rattle.control_message.specs.declared.kind.Kind.{Kind}
use Rattle.control_message.specs.declared.kind.Kind.TheVariants as kind
use Rattle.control_message.specs.declared.kind.Shape.{Shape}
use Rattle.control_message.specs.Table.{shape_of, uses_of}
use Rattle.wire_base.specs.Answers.{◌>>=◌}
use Rattle.control_message.specs.declared.message.MessageError.{MessageError}
use Rattle.control_message.specs.Reading.{is_at, first, is_draw, first_draw, is_vector, has_vector, checked, checked_all}
use Rattle.control_message.specs.Walk.{HasSeen}
use Rattle.control_message.proofs.Firsts.{decides_at}
use Rattle.control_message.proofs.Along.{row_holds}

-- ---- one more pair, behind those that were passed

found_more : (test : Avp → Bool) (avps : List Avp) (a : Avp) → is_some (find test (avps ++ a ∷ [])) ≡ (is_some (find test avps) || test a)
found_more test [] a = elim (cases_Bool (test a)) [ inl t ↦ rw t refl | inr f ↦ rw f refl ]
found_more test (b ∷ avps) a = elim (cases_Bool (test b)) [ inl t ↦ rw t refl | inr f ↦ rw f (found_more test avps a) ]

found_now : (test : Avp → Bool) (avps : List Avp) (a : Avp) → test a ≡ true → is_some (find test (avps ++ a ∷ [])) ≡ true
found_now test avps a t = found_more test avps a ∙ rw t (or-true (is_some (find test avps)))

found_before : (test : Avp → Bool) (avps : List Avp) (a : Avp) → test a ≡ false → is_some (find test (avps ++ a ∷ [])) ≡ is_some (find test avps)
found_before test avps a f = found_more test avps a ∙ rw f (or-false (is_some (find test avps)))

-- a pair is one of no attribute but its own
not_other : (n : ℕ) (a : Avp) → n ≢ a.attribute → is_at n a ≡ false
not_other n a other = false_from_ne_true (is_at n a) (λ t. other (sym ((decides_at n a).0 t).1))

not_any : (n : ℕ) (a : Avp) → is_at a.attribute a ≡ false → is_at n a ≡ false
not_any n a f = elim (cases_eq n a.attribute) [ inl e ↦ ap (λ (m : ℕ). is_at m a) e ∙ f | inr other ↦ not_other n a other ]

-- ---- flags

-- the flag that is set, and another one
set_here : (flags : List Bool) (n : ℕ) (b : Bool) → slice_get flags n ≡ Some b → slice_get (set flags n true) n ≡ Some true
set_here flags n b h =
    let lt : n < length flags = slice_get_within flags n b h in
    let within : n < length (set flags n true) = rw (length-set flags n true) lt in
    slice_get-get_or (set flags n true) n false within ∙ ap (λ (x : Bool). Some x) (get_or-set_same flags n true false lt)

set_there : (flags : List Bool) (n m : ℕ) (b : Bool) → m ≢ n → slice_get flags m ≡ Some b → slice_get (set flags n true) m ≡ Some b
set_there flags n m b other h =
    let lt : m < length flags = slice_get_within flags m b h in
    let within : m < length (set flags n true) = rw (length-set flags n true) lt in
    let same : get_or (set flags n true) m false ≡ b = get_or-set_other flags n m true false other ∙ get_or_from_slice_get flags m b false h in
    slice_get-get_or (set flags n true) m false within ∙ ap (λ (x : Bool). Some x) same

-- they tell of each attribute below 80 whether it is there
abbrev pub HasFlags : List Bool → List Avp → Type 0
HasFlags flags avps = (n : ℕ) → n < 80 → slice_get flags n ≡ Some (is_some (first n avps))

no_flags : HasFlags (replicate 80 false) []
no_flags n lt = slice_get-get_or (replicate 80 false) n false lt ∙ ap (λ (x : Bool). Some x) (get_or-replicate 80 n false false lt)

flags_set : (flags : List Bool) (avps : List Avp) (a : Avp) → is_at a.attribute a ≡ true → HasFlags flags avps → HasFlags (set flags a.attribute true) (avps ++ a ∷ [])
flags_set flags avps a is h n lt =
    elim (cases_eq n a.attribute) [
      | inl e ↦
          let seen = found_now (λ x. is_at n x) avps a (ap (λ (m : ℕ). is_at m a) e ∙ is) in
          ap (λ (m : ℕ). slice_get (set flags m true) n) (sym e)
          ∙ set_here flags n (is_some (first n avps)) (h n lt)
          ∙ ap (λ (x : Bool). Some x) (sym seen)
      | inr other ↦
          let same = found_before (λ x. is_at n x) avps a (not_other n a other) in
          set_there flags a.attribute n (is_some (first n avps)) other (h n lt) ∙ ap (λ (x : Bool). Some x) (sym same)
    ]

flags_kept : (flags : List Bool) (avps : List Avp) (a : Avp) → is_at a.attribute a ≡ false → HasFlags flags avps → HasFlags flags (avps ++ a ∷ [])
flags_kept flags avps a is h n lt =
    let same = found_before (λ x. is_at n x) avps a (not_any n a is) in
    h n lt ∙ ap (λ (x : Bool). Some x) (sym same)

-- ---- what was seen

pub none_seen : HasSeen (record { attributes = replicate 80 false; draw = false; vector = false }) []
none_seen = record { attributes = no_flags; draw = refl; vector = refl }

-- what was seen, with the attribute of one more pair
pub record HasMarked (s : Seen) (avps : List Avp) (a : Avp) : Type 0 where
  pub attributes : HasFlags s.attributes (avps ++ a ∷ [])
  pub draw : s.draw ≡ is_some (first_draw avps)
  pub vector : s.vector ≡ has_vector avps

pub marked : (s t : Seen) (avps : List Avp) (a : Avp) → HasSeen s avps → is_at a.attribute a ≡ true
    → t ≡ record s { attributes = set s.attributes a.attribute true } → HasMarked t avps a
marked s t avps a h is e =
    let flags = flags_set s.attributes avps a is h.attributes in
    subst (λ (x : Seen). HasMarked x avps a) (sym e) (record { attributes = flags; draw = h.draw; vector = h.vector })

pub kept : (s t : Seen) (avps : List Avp) (a : Avp) → HasSeen s avps → is_at a.attribute a ≡ false → t ≡ s → HasMarked t avps a
kept s t avps a h is e =
    let flags = flags_kept s.attributes avps a is h.attributes in
    subst (λ (x : Seen). HasMarked x avps a) (sym e) (record { attributes = flags; draw = h.draw; vector = h.vector })

-- whether one of a sort was seen, with one more pair
seen_more : (test : Avp → Bool) (avps : List Avp) (a : Avp) (seen is : Bool) → seen ≡ is_some (find test avps) → is ≡ test a → (seen || is) ≡ is_some (find test (avps ++ a ∷ []))
seen_more test avps a seen is old new =
    ap (λ (b : Bool). b || is) old ∙ ap (λ (b : Bool). is_some (find test avps) || b) new ∙ sym (found_more test avps a)

pub added : (s : Seen) (avps : List Avp) (a : Avp) (draw vector : Bool) → draw ≡ is_draw a → vector ≡ is_vector a → HasMarked s avps a
    → HasSeen (record s { draw = s.draw || draw; vector = s.vector || vector }) (avps ++ a ∷ [])
added s avps a draw vector d v h =
    record {
      attributes = h.attributes;
      draw = seen_more (λ x. is_draw x) avps a s.draw draw h.draw d;
      vector = seen_more (λ x. is_vector x) avps a s.vector vector h.vector v;
    }

-- ---- a used attribute is below 80

all_below : (k : Kind) → AllByRecursion (λ (u : ℕ × Shape). u.0 < 80) (uses_of k)
all_below kind.Sccrq = (omega arith, (omega arith, (omega arith, (omega arith, (omega arith, (omega arith, (omega arith, (omega arith, tt))))))))
all_below kind.Sccrp = (omega arith, (omega arith, (omega arith, (omega arith, (omega arith, (omega arith, (omega arith, (omega arith, (omega arith, tt)))))))))
all_below kind.Scccn = (omega arith, tt)
all_below kind.StopCcn = (omega arith, (omega arith, tt))
all_below kind.Hello = tt
all_below kind.Ocrq = (omega arith, tt)
all_below kind.Ocrp = (omega arith, tt)
all_below kind.Occn = tt
all_below kind.Icrq = (omega arith, (omega arith, (omega arith, tt)))
all_below kind.Icrp = (omega arith, tt)
all_below kind.Iccn = (omega arith, (omega arith, (omega arith, tt)))
all_below kind.Cdn = (omega arith, (omega arith, tt))
all_below kind.Wen = (omega arith, tt)
all_below kind.Sli = (omega arith, tt)
all_below kind.Fsq = (omega arith, tt)
all_below kind.Fsr = (omega arith, tt)

pub used_below : (k : Kind) (n : ℕ) (s : Shape) → shape_of k n ≡ Some s → n < 80
used_below k n s h = row_holds (λ (u : ℕ × Shape). u.0 < 80) n s (uses_of k) (all_below k) h

-- ---- where the walk stands

pub record Walked (k : Kind) (s : Seen) (avps rest : List Avp) : Type 0 where
  pub before : List Avp
  pub seen : HasSeen s before
  pub left : checked_all k before rest ≡ checked_all k [] avps

pub walk_begins : (k : Kind) (s : Seen) (avps : List Avp) → HasSeen s [] → Walked k s avps avps
walk_begins k s avps h = record { before = []; seen = h; left = refl }

-- a pair without a fault
pub walks_on : (k : Kind) (s t : Seen) (avps rest behind : List Avp) (a : Avp) → rest ≡ a ∷ behind → (w : Walked k s avps rest) → checked k w.before a ≡ Ok tt → HasSeen t (w.before ++ a ∷ []) → Walked k t avps behind
walks_on k s t avps rest behind a e w good seen =
    record {
      before = w.before ++ a ∷ [];
      seen = seen;
      left = sym (ap (λ r. r >>= λ _. checked_all k (w.before ++ a ∷ []) behind) good) ∙ (ap (λ (r : List Avp). checked_all k w.before r) (sym e) ∙ w.left);
    }

-- a pair with one
pub walk_ends : (k : Kind) (s : Seen) (avps rest behind : List Avp) (a : Avp) (fault : MessageError) → rest ≡ a ∷ behind → (w : Walked k s avps rest) → checked k w.before a ≡ Err fault → checked_all k [] avps ≡ Err fault
walk_ends k s avps rest behind a fault e w bad =
    sym w.left ∙ ap (λ (r : List Avp). checked_all k w.before r) e ∙ ap (λ r. r >>= λ _. checked_all k (w.before ++ a ∷ []) behind) bad
