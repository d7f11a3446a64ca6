-- A frame that is read is the one that was written, and a fault is told exactly where it stands.
use Rattle.std.proofs.Common.{◌≡◌, ℕ, ◌<◌, ◌≤◌, ◌⊎◌, Bool, true, false, eqb, List, ◌++◌, length, take, drop, Result, Ok, Err, refl, sym, ap, subst, ◌∙◌, append_assoc, arith, inl, inr}
use Rattle.std.specs.Prelude.{IfOk, IfErr}
use Rattle.std.proofs.lemmas.Bool.{lt-ltb, le-ltb, eq-eqb, ne_eqb, cases_lt, cases_eq}
use Rattle.std.proofs.lemmas.List.{take-append-drop, take_at, length-append, length-take}
use Rattle.wire_base.specs.Answers.{Gives}
use Rattle.wire_base.specs.NumberLaws.{AreBytes}
use Rattle.pppoe_wire.specs.declared.frame.Pppoe.{Pppoe}
use Rattle.pppoe_wire.specs.declared.error.PppoeError.{PppoeError}
use Rattle.pppoe_wire.specs.declared.error.PppoeError.TheVariants.{Short, VerType, Length, NoMemory}
use Rattle.pppoe_wire.specs.Spelling.{Head, head_bytes, ethertype_of, head_of, frame_bytes, FitsFrame}
use Rattle.pppoe_wire.specs.Grammar.{HasFrame, HasHead, IsEthertype, SeesOther, IsFault, IsFirstFault}
use Rattle.pppoe_wire.specs.Reading.{Told, head_at, is_pppoe, front_of, frame_with, frame_of}
use Rattle.pppoe_wire.proofs.Heads.{head_there, same_head, head_again}

-- ---- the ways that reading goes behind a head

is_one : (n : ℕ) → IsEthertype n → is_pppoe n ≡ true
is_one n (inl e) = rw e refl
is_one n (inr e) = rw e refl

is_none : (n : ℕ) → ¬ (IsEthertype n) → is_pppoe n ≡ false
is_none n h = rw (ne_eqb n 0x8863 (λ e. h (inl e)), ne_eqb n 0x8864 (λ e. h (inr e))) refl

sees : (h : Head) (behind : List ℕ) (seen : ℕ) → SeesOther h seen → frame_with h behind ≡ Err (VerType seen)
unfolding frame_with
sees h behind seen (inl w) = rw (is_none h.ethertype w.0, w.1) refl
sees h behind seen (inr w) = rw (is_one h.ethertype w.0, ne_eqb h.version 0x11 w.1, w.2) refl

passes : (h : Head) (behind : List ℕ) → IsEthertype h.ethertype → h.version ≡ 0x11 → length behind < h.said → frame_with h behind ≡ Err (Length h.said (length behind))
unfolding frame_with
passes h behind one version lt = rw (is_one h.ethertype one, eq-eqb h.version 0x11 version, lt-ltb (length behind) h.said lt) refl

whole_is : (h : Head) (behind : List ℕ) → IsEthertype h.ethertype → h.version ≡ 0x11 → h.said ≤ length behind → frame_with h behind ≡ Ok (front_of h behind)
unfolding frame_with
whole_is h behind one version le = rw (is_one h.ethertype one, eq-eqb h.version 0x11 version, le-ltb (length behind) h.said le) refl

-- ---- what is read is there

abbrev Outcome : List ℕ → Result Pppoe PppoeError → Type 0
Outcome bytes (Ok f) = HasFrame bytes f
Outcome bytes (Err e) = IsFault bytes e

type_again : (n : ℕ) → IsEthertype n → ethertype_of (eqb n 0x8864) ≡ n
type_again n (inl e) = rw e refl
type_again n (inr e) = rw e refl

whole : (bytes : List ℕ) (h : Head) (behind : List ℕ) → HasHead bytes h behind → IsEthertype h.ethertype → h.version ≡ 0x11 → h.said ≤ length behind → HasFrame bytes (front_of h behind)
whole bytes h behind has one version le =
    let f = has.fits in
    let len : length (take h.said behind) ≡ h.said = length-take h.said behind ∙ omega arith in
    let head : head_of (front_of h behind) ≡ h = same_head (head_of (front_of h behind)) h refl refl (type_again h.ethertype one) (sym version) refl refl len in
    record {
      fits = record { dst = f.dst; src = f.src; session = f.session; payload = let s = f.said in omega arith; starts = refl; ends = omega arith };
      padding = drop h.said behind;
      parts =
          has.parts
          ∙ ap (λ (t : List ℕ). head_bytes h ++ t) (sym (take-append-drop h.said behind))
          ∙ sym (append_assoc (head_bytes h) (take h.said behind) (drop h.said behind))
          ∙ ap (λ (k : Head). (head_bytes k ++ take h.said behind) ++ drop h.said behind) (sym head);
    }

behind_head : (bytes : List ℕ) (h : Head) (behind : List ℕ) → HasHead bytes h behind → Outcome bytes (frame_with h behind)
behind_head bytes h behind has =
    let one : (IsEthertype h.ethertype) ⊎ (¬ (IsEthertype h.ethertype)) =
    elim (cases_eq h.ethertype 0x8863) [
      | inl e ↦ inl (inl e)
      | inr a ↦ elim (cases_eq h.ethertype 0x8864) [ inl e ↦ inl (inr e) | inr b ↦ inr (λ t. elim t [ inl e ↦ a e | inr e ↦ b e ]) ]
    ] in
    elim one [
      | inr none ↦ rw (sees h behind 0 (inl (none, refl))) (record { head = h; behind = behind; has = has; wrong = inl (none, refl) })
      | inl some ↦
          elim (cases_eq h.version 0x11) [
            | inr ne ↦ rw (sees h behind h.version (inr (some, ne, refl))) (record { head = h; behind = behind; has = has; wrong = inr (some, ne, refl) })
            | inl version ↦
                elim (cases_lt (length behind) h.said) [
                  | inl lt ↦ rw (passes h behind some version lt) (record { head = h; behind = behind; has = has; ethertype = some; version = version; tells = refl; total = refl; wrong = lt })
                  | inr le ↦ rw (whole_is h behind some version le) (whole bytes h behind has some version le)
                ]
          ]
    ]

short_is : (bytes : List ℕ) → length bytes < 20 → frame_of bytes ≡ Err Short
unfolding frame_of
short_is bytes lt = rw (lt-ltb (length bytes) 20 lt) refl

outcome : (bytes : List ℕ) → AreBytes bytes → Outcome bytes (frame_of bytes)
outcome bytes fits =
    elim (cases_lt (length bytes) 20) [
      | inl lt ↦ rw (short_is bytes lt) lt
      | inr le ↦
          let has = head_there bytes fits le in
          subst (Outcome bytes) (sym (head_again bytes (head_at bytes) (drop 20 bytes) has)) (behind_head bytes (head_at bytes) (drop 20 bytes) has)
    ]

pub is_found : (bytes : List ℕ) (r : Result Pppoe PppoeError) → AreBytes bytes → Gives Told (λ f. f) r (frame_of bytes) → IfOk r (HasFrame bytes)
is_found bytes (Ok f) fits given = subst (Outcome bytes) given (outcome bytes fits)
is_found bytes (Err e) fits given = tt

pub is_first : (bytes : List ℕ) (r : Result Pppoe PppoeError) → AreBytes bytes → Gives Told (λ f. f) r (frame_of bytes) → IfErr r (IsFirstFault bytes)
is_first bytes (Ok f) fits given = tt
is_first bytes (Err NoMemory) fits given = tt
is_first bytes (Err e) fits given = subst (Outcome bytes) given (outcome bytes fits)

-- ---- what is there is read

abbrev made : List ℕ → List ℕ → Bool → ℕ → ℕ → ℕ → ℕ → List ℕ → Pppoe
made d s stage code session start stop payload = record { dst = d; src = s; session_stage = stage; code = code; session = session; start = start; end = stop; payload = payload }

same_frame : (f g : Pppoe) → f.dst ≡ g.dst → f.src ≡ g.src → f.session_stage ≡ g.session_stage → f.code ≡ g.code → f.session ≡ g.session → f.start ≡ g.start → f.end ≡ g.end → f.payload ≡ g.payload → f ≡ g
same_frame f g a b c d e i j k =
    let all : made f.dst f.src f.session_stage f.code f.session f.start f.end f.payload ≡ made g.dst g.src g.session_stage g.code g.session g.start g.end g.payload = rw (a, b, c, d, e, i, j, k) refl in
    all

-- the ethertype of a stage
record OfStage (stage : Bool) : Type 0 where
  one : IsEthertype (ethertype_of stage)
  small : ethertype_of stage < 65536
  back : eqb (ethertype_of stage) 0x8864 ≡ stage

of_stage : (stage : Bool) → OfStage stage
of_stage true = record { one = inr refl; small = omega arith; back = refl }
of_stage false = record { one = inl refl; small = omega arith; back = refl }

pub written_again : (f : Pppoe) (padding : List ℕ) → FitsFrame f → frame_of (frame_bytes f ++ padding) ≡ Ok f
written_again f padding fits =
    let stage = of_stage f.session_stage in
    let behind : List ℕ = f.payload ++ padding in
    let p = fits.payload in
    let has : HasHead (frame_bytes f ++ padding) (head_of f) behind =
    record {
      fits = record { dst = fits.dst; src = fits.src; ethertype = stage.small; session = fits.session; said = omega arith };
      parts = append_assoc (head_bytes (head_of f)) f.payload padding;
    } in
    head_again (frame_bytes f ++ padding) (head_of f) behind has
    ∙ whole_is (head_of f) behind stage.one refl (let l = length-append f.payload padding in omega arith)
    ∙ ap (λ (g : Pppoe). Ok g) (same_frame (front_of (head_of f) behind) f refl refl stage.back refl refl (sym fits.starts) (sym fits.ends) (take_at f.payload padding (length f.payload) refl))

pub frame_again : (bytes : List ℕ) (f : Pppoe) → HasFrame bytes f → frame_of bytes ≡ Ok f
frame_again bytes f h = ap frame_of h.parts ∙ written_again f h.padding h.fits

pub fault_again : (bytes : List ℕ) (e : PppoeError) → IsFault bytes e → frame_of bytes ≡ Err e
fault_again bytes Short h = short_is bytes h
fault_again bytes (VerType seen) h = head_again bytes h.head h.behind h.has ∙ sees h.head h.behind seen h.wrong
fault_again bytes (Length said have) h =
    let lt : length h.behind < h.head.said = let a = h.tells in let b = h.total in let c = h.wrong in omega arith in
    head_again bytes h.head h.behind h.has ∙ passes h.head h.behind h.ethertype h.version lt ∙ rw (h.tells, h.total) refl
fault_again bytes NoMemory h = absurd h
