-- Options that are read are those that were written, and a fault is told exactly where it stands.
use Rattle.std.proofs.Common.{◌≡◌, ℕ, zero, suc, ◌+◌, ◌-◌, ◌<◌, ◌≤◌, ◌⊎◌, List, [], ◌∷◌, ◌++◌, length, take, drop, get_or, Result, Ok, Err, refl, sym, ap, ◌∙◌, append_assoc, arith, inl, inr}
use Rattle.std.specs.Prelude.{IfOk, IfErr}
use Rattle.std.proofs.lemmas.Bool.{lt-ltb, le-ltb}
use Rattle.std.proofs.lemmas.Grind.{flat_map-append}
use Rattle.std.proofs.lemmas.List.{append-nil, nil_from_length, take-append-drop, take_at, drop_at, drop-drop, length-append, length-drop, length-take}
use Rattle.std.proofs.lemmas.List.Concat.{flat_map-cons}
use Rattle.wire_base.specs.Answers.{◌>>=◌, Gives}
use Rattle.wire_base.specs.NumberLaws.{AreBytes}
use Rattle.lcp_wire.specs.declared.packet.LcpOption.{LcpOption}
use Rattle.lcp_wire.specs.declared.error.OptionError.{OptionError}
use Rattle.lcp_wire.specs.declared.error.OptionError.TheVariants.{OptionLength, NoMemory}
use Rattle.lcp_wire.specs.Spelling.{spelling_of, spelling, FitsOption, AreOptions}
use Rattle.lcp_wire.specs.Grammar.{BeginsWith, LacksOption, LacksAt, IsOptionFault, IsFirstOptionFault}
use Rattle.lcp_wire.specs.Reading.{ToldOption, options_at, options_of}

-- ---- one option

-- the option at the front, where all of it is there
pub front_is : (bytes : List ℕ) → AreBytes bytes → 2 ≤ get_or bytes 1 0 → get_or bytes 1 0 ≤ length bytes → BeginsWith bytes (record { kind = get_or bytes 0 0; value = take (get_or bytes 1 0 - 2) (drop 2 bytes) }) (get_or bytes 1 0)
front_is (kind ∷ n ∷ rest) fits two within =
    let lt : n < 256 = fits 1 in
    let len : n ≡ 2 + length (take (n - 2) rest) = let l = length-take (n - 2) rest in omega arith in
    let behind : drop n (kind ∷ n ∷ rest) ≡ drop (n - 2) rest = ap (λ (m : ℕ). drop m (kind ∷ n ∷ rest)) (let e : n ≡ 2 + (n - 2) = omega arith in e) ∙ sym (drop-drop (n - 2) 2 (kind ∷ n ∷ rest)) in
    record {
      fits = record { kind = fits 0; value = omega arith };
      size = len ∙ omega arith;
      parts = sym (rw (behind, ← len) (ap (λ (t : List ℕ). kind ∷ n ∷ t) (take-append-drop (n - 2) rest)));
    }
front_is bytes fits two within = absurd (omega arith)

pub lacks : (bytes : List ℕ) → 0 < length bytes → (length bytes < 2) ⊎ ((get_or bytes 1 0 < 2) ⊎ (length bytes < get_or bytes 1 0)) → LacksOption bytes
lacks [] some wrong = absurd (omega arith)
lacks (kind ∷ []) some wrong = tt
lacks (kind ∷ n ∷ rest) some (inl lt) = absurd (omega arith)
lacks (kind ∷ n ∷ rest) some (inr (inl lt)) = inl lt
lacks (kind ∷ n ∷ rest) some (inr (inr lt)) = inr (omega arith)

-- ---- the loop

-- where the loop stands: whole options before the place
pub record Stands (bytes : List ℕ) (front : List LcpOption) (at : ℕ) : Type 0 where
  pub whole : AreOptions front
  pub place : at ≡ length (spelling front)
  pub parts : bytes ≡ spelling front ++ drop at bytes

all_and : (v : List LcpOption) (o : LcpOption) → AreOptions v → FitsOption o → AreOptions (v ++ o ∷ [])
all_and [] o all one = (one, tt)
all_and (x ∷ v) o all one = (all.0, all_and v o all.1 one)

spelling-and : (v : List LcpOption) (o : LcpOption) → spelling (v ++ o ∷ []) ≡ spelling v ++ spelling_of o
spelling-and v o = flat_map-append spelling_of v (o ∷ []) ∙ ap (λ (t : List ℕ). spelling v ++ t) (flat_map-cons spelling_of o [] ∙ append-nil (spelling_of o))

pub goes_on : (bytes : List ℕ) (front : List LcpOption) (at : ℕ) (o : LcpOption) (n : ℕ) → Stands bytes front at → BeginsWith (drop at bytes) o n → Stands bytes (front ++ o ∷ []) (at + n)
goes_on bytes front at o n h begins =
    let more = spelling-and front o in
    let p = h.place in
    let q = begins.size in
    record {
      whole = all_and front o h.whole begins.fits;
      place = let l = length-append (spelling front) (spelling_of o) in let k = ap length more in omega arith;
      parts =
          h.parts
          ∙ ap (λ (t : List ℕ). spelling front ++ t) (begins.parts ∙ ap (λ (t : List ℕ). spelling_of o ++ t) (drop-drop n at bytes))
          ∙ sym (append_assoc (spelling front) (spelling_of o) (drop (at + n) bytes))
          ∙ ap (λ (t : List ℕ). t ++ drop (at + n) bytes) (sym more);
    }

pub ends : (bytes : List ℕ) (front : List LcpOption) (at : ℕ) (e : OptionError) → Stands bytes front at → LacksAt (drop at bytes) at e → IsFirstOptionFault bytes e
ends bytes front at (OptionLength told) h wrong =
    record { before = front; rest = drop at bytes; whole = h.whole; parts = h.parts; place = wrong.0 ∙ h.place; wrong = wrong.1 }
ends bytes front at NoMemory h wrong = tt

pub is_done : (bytes : List ℕ) (front : List LcpOption) (at : ℕ) → Stands bytes front at → length bytes ≤ at → AreOptions front × (bytes ≡ spelling front)
is_done bytes front at h le =
    let none : drop at bytes ≡ [] = nil_from_length (drop at bytes) (length-drop at bytes ∙ omega arith) in
    (h.whole, h.parts ∙ ap (λ (t : List ℕ). spelling front ++ t) none ∙ append-nil (spelling front))

-- ---- what is there is read

-- what was read before, and what is still read
abbrev with_front : List LcpOption → Result (List LcpOption) OptionError → Result (List LcpOption) OptionError
with_front front read = read >>= λ v. Ok (front ++ v)

no_front : (r : Result (List LcpOption) OptionError) → with_front [] r ≡ r
no_front (Ok v) = refl
no_front (Err e) = refl

one_front : (x : LcpOption) (v : List LcpOption) (r : Result (List LcpOption) OptionError) → (with_front v r >>= λ w. Ok (x ∷ w)) ≡ with_front (x ∷ v) r
one_front x v (Ok w) = refl
one_front x v (Err e) = refl

-- past an option
past_one : (x : LcpOption) (n at : ℕ) (others : List ℕ) → options_at (suc n) at (spelling_of x ++ others) ≡ options_at n (at + (2 + length x.value)) others >>= λ w. Ok (x ∷ w)
unfolding options_at
past_one x n at others =
    let k : 2 + length x.value - 2 ≡ length x.value = omega arith in
    let l = length-append x.value others in
    rw (k, le-ltb (2 + length x.value) 2 (omega arith), le-ltb (length (x.value ++ others)) (length x.value) (omega arith), take_at x.value others (length x.value) refl, drop_at x.value others (length x.value) refl) refl

-- past options
past : (v : List LcpOption) (n at later : ℕ) (rest : List ℕ) → later ≡ at + length (spelling v) → options_at (length v + n) at (spelling v ++ rest) ≡ with_front v (options_at n later rest)
past [] n at later rest e =
    let none : 0 + n ≡ n = omega arith in
    let at-is : later ≡ at = omega arith in
    rw (none, at-is) (sym (no_front (options_at n at rest)))
past (x ∷ v) n at later rest e =
    let longer : length (spelling (x ∷ v)) ≡ length (spelling_of x) + length (spelling v) = ap length (flat_map-cons spelling_of x v) ∙ length-append (spelling_of x) (spelling v) in
    let count : suc (length v) + n ≡ suc (length v + n) = omega arith in
    let regrouped : spelling (x ∷ v) ++ rest ≡ spelling_of x ++ (spelling v ++ rest) = ap (λ (t : List ℕ). t ++ rest) (flat_map-cons spelling_of x v) ∙ append_assoc (spelling_of x) (spelling v) rest in
    ap (options_at (suc (length v) + n) at) regrouped
    ∙ rw (count, past_one x (length v + n) at (spelling v ++ rest), past v n (at + (2 + length x.value)) later rest (omega arith)) (one_front x v (options_at n later rest))

no_fewer : (v : List LcpOption) → length v ≤ length (spelling v)
no_fewer [] = omega arith
no_fewer (x ∷ v) =
    let longer : length (spelling (x ∷ v)) ≡ length (spelling_of x) + length (spelling v) = ap length (flat_map-cons spelling_of x v) ∙ length-append (spelling_of x) (spelling v) in
    omega (arith, no_fewer v)

-- the same, with as many steps as there are bytes
past_all : (bytes : List ℕ) (v : List LcpOption) (rest : List ℕ) → bytes ≡ spelling v ++ rest → options_of bytes ≡ with_front v (options_at (length bytes - length v) (length (spelling v)) rest)
past_all bytes v rest e =
    let le = no_fewer v in
    let len : length bytes ≡ length (spelling v) + length rest = ap length e ∙ length-append (spelling v) rest in
    let n : ℕ = length bytes - length v in
    let steps : length bytes ≡ length v + n = omega arith in
    ap (options_at (length bytes) 0) e
    ∙ ap (λ (m : ℕ). options_at m 0 (spelling v ++ rest)) steps
    ∙ past v n 0 (length (spelling v)) rest (omega arith)

none_left : (n at : ℕ) → options_at n at [] ≡ Ok []
unfolding options_at
none_left n at = refl

pub options_again : (bytes : List ℕ) (v : List LcpOption) → bytes ≡ spelling v → options_of bytes ≡ Ok v
options_again bytes v e =
    past_all bytes v [] (e ∙ sym (append-nil (spelling v)))
    ∙ ap (with_front v) (none_left (length bytes - length v) (length (spelling v)))
    ∙ ap (λ (w : List LcpOption). Ok w) (append-nil v)

told_here : (n at : ℕ) (rest : List ℕ) → 0 < n → LacksOption rest → options_at n at rest ≡ Err (OptionLength at)
unfolding options_at
told_here n at [] some wrong = absurd wrong
told_here zero at rest some wrong = absurd (omega arith)
told_here (suc n) at (kind ∷ []) some wrong = refl
told_here (suc n) at (kind ∷ len ∷ rest) some (inl lt) = rw (lt-ltb len 2 lt) refl
told_here (suc n) at (kind ∷ len ∷ rest) some (inr lt) = rw (le-ltb len 2 (omega arith), lt-ltb (length rest) (len - 2) (omega arith)) refl

some_left : (rest : List ℕ) → LacksOption rest → 0 < length rest
some_left [] wrong = absurd wrong
some_left (kind ∷ rest) wrong = omega arith

pub fault_again : (bytes : List ℕ) (at : ℕ) → IsOptionFault bytes at → options_of bytes ≡ Err (OptionLength at)
fault_again bytes at h =
    let le = no_fewer h.before in
    let some : 0 < length h.rest = some_left h.rest h.wrong in
    let len : length bytes ≡ length (spelling h.before) + length h.rest = ap length h.parts ∙ length-append (spelling h.before) h.rest in
    past_all bytes h.before h.rest h.parts
    ∙ ap (with_front h.before) (told_here (length bytes - length h.before) (length (spelling h.before)) h.rest (omega arith) h.wrong)
    ∙ ap (λ (i : ℕ). Err (OptionLength i)) (sym h.place)

-- ---- the laws, of what a call answered

pub is_exact : (bytes : List ℕ) (r : Result (List LcpOption) OptionError) → IfOk r (λ v. AreOptions v × (bytes ≡ spelling v)) → IfErr r (IsFirstOptionFault bytes) → Gives ToldOption (λ v. v) r (options_of bytes)
is_exact bytes (Ok v) found fault = options_again bytes v found.1
is_exact bytes (Err (OptionLength at)) found fault = fault_again bytes at fault
is_exact bytes (Err NoMemory) found fault = tt
