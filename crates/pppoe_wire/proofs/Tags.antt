-- Tags that are read are those that were written, and a fault is told exactly where it stands.
use Rattle.std.proofs.Common.{◌≡◌, ◌≢◌, ℕ, zero, suc, ◌+◌, ◌-◌, ◌<◌, ◌≤◌, List, [], ◌∷◌, ◌++◌, length, take, drop, Result, Ok, Err, refl, sym, ap, ◌∙◌, append_assoc, arith, inl, inr}
use Rattle.std.specs.Prelude.{IfOk, IfErr}
use Rattle.std.proofs.lemmas.Bool.{lt-ltb, le-ltb, eq-eqb, ne_eqb}
use Rattle.std.proofs.lemmas.Grind.{flat_map-append}
use Rattle.std.proofs.lemmas.List.{append-nil, take-append-drop, take_at, drop_at, drop-drop, length-append, length-drop, length-take}
use Rattle.std.proofs.lemmas.List.Concat.{flat_map-cons}
use Rattle.wire_base.specs.Answers.{◌>>=◌, Gives}
use Rattle.wire_base.specs.Numbers.{u16_bytes}
use Rattle.wire_base.specs.NumberLaws.{AreBytes, length-u16_bytes, number-u16_bytes, u16_bytes-number, number-lt}
use Rattle.pppoe_wire.specs.declared.frame.Tag.{Tag}
use Rattle.pppoe_wire.specs.declared.error.TagError.{TagError}
use Rattle.pppoe_wire.specs.declared.error.TagError.TheVariants.{TagPastEnd, NoMemory}
use Rattle.pppoe_wire.specs.Spelling.{spelling_of, spelling, FitsTag, AreTags}
use Rattle.pppoe_wire.specs.Grammar.{EndsTags, HasTags, LacksTag, IsTagFault, IsFirstTagFault, BeginsWith, LacksAt}
use Rattle.pppoe_wire.specs.Reading.{ToldTag, kind_told, length_told, tag_of, tags_at, tags_of}
use Rattle.pppoe_wire.proofs.Pieces.{and_next, word_at, word-lt}

-- ---- what stands at the front

kind_parts : (bytes : List ℕ) → AreBytes bytes → 4 ≤ length bytes → bytes ≡ u16_bytes (kind_told bytes) ++ drop 2 bytes
kind_parts bytes fits four = sym (take-append-drop 2 bytes) ∙ ap (λ (t : List ℕ). t ++ drop 2 bytes) (sym (u16_bytes-number bytes fits (omega arith)))

head_parts : (bytes : List ℕ) → AreBytes bytes → 4 ≤ length bytes → bytes ≡ u16_bytes (kind_told bytes) ++ u16_bytes (length_told bytes) ++ drop 4 bytes
head_parts bytes fits four = and_next bytes (u16_bytes (kind_told bytes)) (u16_bytes (length_told bytes)) 2 2 (kind_parts bytes fits four) (word_at bytes 2 fits (omega arith))

pub end_there : (bytes : List ℕ) → AreBytes bytes → 4 ≤ length bytes → kind_told bytes ≡ 0 → EndsTags bytes
end_there bytes fits four none =
    inr (record { behind = drop 2 bytes; head = let l = length-drop 2 bytes in omega arith; parts = kind_parts bytes fits four ∙ ap (λ (k : ℕ). u16_bytes k ++ drop 2 bytes) none })

pub lack_there : (bytes : List ℕ) → AreBytes bytes → 4 ≤ length bytes → kind_told bytes ≢ 0 → length bytes < 4 + length_told bytes → LacksTag bytes
lack_there bytes fits four other lt =
    inr (record {
      kind = kind_told bytes;
      said = length_told bytes;
      behind = drop 4 bytes;
      kind_fits = number-lt bytes fits;
      said_fits = word-lt bytes 2 fits;
      parts = head_parts bytes fits four;
      other = other;
      wrong = let l = length-drop 4 bytes in omega arith;
    })

length-spelling_of : (t : Tag) → length (spelling_of t) ≡ 4 + length t.value
unfolding u16_bytes
length-spelling_of t = omega arith

pub tag_there : (bytes : List ℕ) → AreBytes bytes → 4 ≤ length bytes → kind_told bytes ≢ 0 → 4 + length_told bytes ≤ length bytes → BeginsWith bytes (tag_of bytes) (4 + length_told bytes)
tag_there bytes fits four other le =
    let n : ℕ = length_told bytes in
    let value : List ℕ = take n (drop 4 bytes) in
    let len : length value ≡ n = length-take n (drop 4 bytes) ∙ let l = length-drop 4 bytes in omega arith in
    let lt : n < 65536 = word-lt bytes 2 fits in
    record {
      fits = record { kind = number-lt bytes fits; other = other; value = omega arith };
      size = let l = length-spelling_of (tag_of bytes) in omega arith;
      parts =
          and_next bytes (u16_bytes (kind_told bytes) ++ u16_bytes n) value n 4 (head_parts bytes fits four) refl
          ∙ ap (λ (m : ℕ). u16_bytes (kind_told bytes) ++ u16_bytes m ++ value ++ drop (4 + n) bytes) (sym len);
    }

-- ---- the loop

-- where the loop stands: whole tags before the place
pub record Stands (bytes : List ℕ) (front : List Tag) (at : ℕ) : Type 0 where
  pub whole : AreTags front
  pub place : at ≡ length (spelling front)
  pub parts : bytes ≡ spelling front ++ drop at bytes
  pub within : at ≤ length bytes

all_and : (v : List Tag) (t : Tag) → AreTags v → FitsTag t → AreTags (v ++ t ∷ [])
all_and [] t all one = (one, tt)
all_and (x ∷ v) t all one = (all.0, all_and v t all.1 one)

spelling-and : (v : List Tag) (t : Tag) → spelling (v ++ t ∷ []) ≡ spelling v ++ spelling_of t
spelling-and v t = flat_map-append spelling_of v (t ∷ []) ∙ ap (λ (s : List ℕ). spelling v ++ s) (flat_map-cons spelling_of t [] ∙ append-nil (spelling_of t))

pub goes_on : (bytes : List ℕ) (front : List Tag) (at : ℕ) (t : Tag) (n : ℕ) → Stands bytes front at → BeginsWith (drop at bytes) t n → Stands bytes (front ++ t ∷ []) (at + n)
goes_on bytes front at t n h begins =
    let more = spelling-and front t in
    let p = h.place in
    let q = begins.size in
    let w = h.within in
    let drops = length-drop at bytes in
    let size = ap length begins.parts ∙ length-append (spelling_of t) (drop n (drop at bytes)) in
    record {
      whole = all_and front t h.whole begins.fits;
      place = let l = length-append (spelling front) (spelling_of t) in let k = ap length more in omega arith;
      parts =
          h.parts
          ∙ ap (λ (s : List ℕ). spelling front ++ s) (begins.parts ∙ ap (λ (s : List ℕ). spelling_of t ++ s) (drop-drop n at bytes))
          ∙ sym (append_assoc (spelling front) (spelling_of t) (drop (at + n) bytes))
          ∙ ap (λ (s : List ℕ). s ++ drop (at + n) bytes) (sym more);
      within = omega arith;
    }

-- each tag brings the end nearer
pub nearer : (bytes : List ℕ) (front : List Tag) (at : ℕ) (t : Tag) (n : ℕ) → Stands bytes front at → BeginsWith (drop at bytes) t n → length bytes - (at + n) < length bytes - at
nearer bytes front at t n h begins =
    let a = length-spelling_of t in
    let q = begins.size in
    let w = (goes_on bytes front at t n h begins).within in
    omega arith

pub stops : (bytes : List ℕ) (front : List Tag) (at : ℕ) (e : TagError) → Stands bytes front at → LacksAt (drop at bytes) at e → IsFirstTagFault bytes e
stops bytes front at (TagPastEnd told) h wrong =
    record { before = front; rest = drop at bytes; whole = h.whole; parts = h.parts; place = wrong.0 ∙ h.place; wrong = wrong.1 }
stops bytes front at NoMemory h wrong = tt

pub is_done : (bytes : List ℕ) (front : List Tag) (at : ℕ) → Stands bytes front at → EndsTags (drop at bytes) → HasTags bytes front
is_done bytes front at h ends = record { are = h.whole; rest = drop at bytes; parts = h.parts; ends = ends }

-- ---- one step of reading

at_end : (n at : ℕ) (bytes : List ℕ) → length bytes ≡ 0 → tags_at n at bytes ≡ Ok []
unfolding tags_at
at_end zero at bytes e = refl
at_end (suc n) at bytes e = rw (eq-eqb (length bytes) 0 e) refl

at_end_of_list : (n at : ℕ) (bytes : List ℕ) → 4 ≤ length bytes → kind_told bytes ≡ 0 → tags_at n at bytes ≡ Ok []
unfolding tags_at
at_end_of_list zero at bytes four e = refl
at_end_of_list (suc n) at bytes four e = rw (ne_eqb (length bytes) 0 (λ e. omega arith), le-ltb (length bytes) 4 four, eq-eqb (kind_told bytes) 0 e) refl

short_is : (n at : ℕ) (bytes : List ℕ) → 0 < length bytes → length bytes < 4 → tags_at (suc n) at bytes ≡ Err (TagPastEnd at)
unfolding tags_at
short_is n at bytes some lt = rw (ne_eqb (length bytes) 0 (λ e. omega arith), lt-ltb (length bytes) 4 lt) refl

past_is : (n at : ℕ) (bytes : List ℕ) → 4 ≤ length bytes → kind_told bytes ≢ 0 → length bytes < 4 + length_told bytes → tags_at (suc n) at bytes ≡ Err (TagPastEnd at)
unfolding tags_at
past_is n at bytes four other lt = rw (ne_eqb (length bytes) 0 (λ e. omega arith), le-ltb (length bytes) 4 four, ne_eqb (kind_told bytes) 0 other, lt-ltb (length bytes) (4 + length_told bytes) lt) refl

one_more : (n at : ℕ) (bytes : List ℕ) → kind_told bytes ≢ 0 → 4 + length_told bytes ≤ length bytes → tags_at (suc n) at bytes ≡ tags_at n (at + (4 + length_told bytes)) (drop (4 + length_told bytes) bytes) >>= λ w. Ok (tag_of bytes ∷ w)
unfolding tags_at
one_more n at bytes other le = rw (ne_eqb (length bytes) 0 (λ e. omega arith), le-ltb (length bytes) 4 (omega arith), ne_eqb (kind_told bytes) 0 other, le-ltb (length bytes) (4 + length_told bytes) le) refl

-- ---- what is there is read

-- the head that was written
record Again (bytes : List ℕ) (kind said : ℕ) (behind : List ℕ) : Type 0 where
  kind_is : kind_told bytes ≡ kind
  said_is : length_told bytes ≡ said
  rest : drop 4 bytes ≡ behind
  len : length bytes ≡ 4 + length behind

again : (kind said : ℕ) (behind : List ℕ) → kind < 65536 → said < 65536 → Again (u16_bytes kind ++ u16_bytes said ++ behind) kind said behind
unfolding u16_bytes
again kind said behind lk ls =
    record { kind_is = number-u16_bytes kind [] lk; said_is = number-u16_bytes said [] ls; rest = refl; len = omega arith }

same_tag : (t u : Tag) → t.kind ≡ u.kind → t.value ≡ u.value → t ≡ u
same_tag t u a b =
    let made : ℕ → List ℕ → Tag = λ x y. record { kind = x; value = y } in
    let all : made t.kind t.value ≡ made u.kind u.value = rw (a, b) refl in
    all

-- past a tag
past_one : (x : Tag) (n at : ℕ) (others : List ℕ) → FitsTag x → tags_at (suc n) at (spelling_of x ++ others) ≡ tags_at n (at + (4 + length x.value)) others >>= λ w. Ok (x ∷ w)
past_one x n at others fits =
    let bytes : List ℕ = u16_bytes x.kind ++ u16_bytes (length x.value) ++ (x.value ++ others) in
    let small = fits.value in
    let a = again x.kind (length x.value) (x.value ++ others) fits.kind (omega arith) in
    let told : length x.value ≡ length_told bytes = sym a.said_is in
    let rest : drop (4 + length_told bytes) bytes ≡ others = sym (drop-drop (length_told bytes) 4 bytes) ∙ ap (drop (length_told bytes)) a.rest ∙ drop_at x.value others (length_told bytes) told in
    let tag : tag_of bytes ≡ x = same_tag (tag_of bytes) x a.kind_is (ap (take (length_told bytes)) a.rest ∙ take_at x.value others (length_told bytes) told) in
    let within : 4 + length_told bytes ≤ length bytes = let l = length-append x.value others in let m = a.len in omega arith in
    ap (tags_at (suc n) at) (append_assoc (u16_bytes x.kind ++ u16_bytes (length x.value)) x.value others)
    ∙ one_more n at bytes (λ e. fits.other (sym a.kind_is ∙ e)) within
    ∙ ap (λ (r : List ℕ). tags_at n (at + (4 + length_told bytes)) r >>= λ w. Ok (tag_of bytes ∷ w)) rest
    ∙ ap (λ (m : ℕ). tags_at n (at + (4 + m)) others >>= λ w. Ok (tag_of bytes ∷ w)) a.said_is
    ∙ ap (λ (y : Tag). tags_at n (at + (4 + length x.value)) others >>= λ w. Ok (y ∷ w)) tag

-- what was read before, and what is still read
abbrev with_front : List Tag → Result (List Tag) TagError → Result (List Tag) TagError
with_front front read = read >>= λ v. Ok (front ++ v)

no_front : (r : Result (List Tag) TagError) → with_front [] r ≡ r
no_front (Ok v) = refl
no_front (Err e) = refl

one_front : (x : Tag) (v : List Tag) (r : Result (List Tag) TagError) → (with_front v r >>= λ w. Ok (x ∷ w)) ≡ with_front (x ∷ v) r
one_front x v (Ok w) = refl
one_front x v (Err e) = refl

longer : (x : Tag) (v : List Tag) → length (spelling (x ∷ v)) ≡ 4 + length x.value + length (spelling v)
longer x v = ap length (flat_map-cons spelling_of x v) ∙ length-append (spelling_of x) (spelling v) ∙ ap (λ (m : ℕ). m + length (spelling v)) (length-spelling_of x)

-- past tags
past : (v : List Tag) (n at later : ℕ) (rest : List ℕ) → AreTags v → later ≡ at + length (spelling v) → tags_at (length v + n) at (spelling v ++ rest) ≡ with_front v (tags_at n later rest)
past [] n at later rest are e =
    let none : 0 + n ≡ n = omega arith in
    let at-is : later ≡ at = omega arith in
    rw (none, at-is) (sym (no_front (tags_at n at rest)))
past (x ∷ v) n at later rest are e =
    let count : suc (length v) + n ≡ suc (length v + n) = omega arith in
    let more = longer x v in
    let regrouped : spelling (x ∷ v) ++ rest ≡ spelling_of x ++ (spelling v ++ rest) = ap (λ (t : List ℕ). t ++ rest) (flat_map-cons spelling_of x v) ∙ append_assoc (spelling_of x) (spelling v) rest in
    ap (tags_at (suc (length v) + n) at) regrouped
    ∙ ap (λ (m : ℕ). tags_at m at (spelling_of x ++ (spelling v ++ rest))) count
    ∙ past_one x (length v + n) at (spelling v ++ rest) are.0
    ∙ ap (λ (r : Result (List Tag) TagError). r >>= λ w. Ok (x ∷ w)) (past v n (at + (4 + length x.value)) later rest are.1 (omega arith))
    ∙ one_front x v (tags_at n later rest)

no_fewer : (v : List Tag) → length v ≤ length (spelling v)
no_fewer [] = omega arith
no_fewer (x ∷ v) = let more = longer x v in omega (arith, no_fewer v)

-- the same, with as many steps as there are bytes
past_all : (bytes : List ℕ) (v : List Tag) (rest : List ℕ) → AreTags v → bytes ≡ spelling v ++ rest → tags_of bytes ≡ with_front v (tags_at (length bytes - length v) (length (spelling v)) rest)
past_all bytes v rest are e =
    let le = no_fewer v in
    let len : length bytes ≡ length (spelling v) + length rest = ap length e ∙ length-append (spelling v) rest in
    let n : ℕ = length bytes - length v in
    let steps : length bytes ≡ length v + n = omega arith in
    ap (tags_at (length bytes) 0) e
    ∙ ap (λ (m : ℕ). tags_at m 0 (spelling v ++ rest)) steps
    ∙ past v n 0 (length (spelling v)) rest are (omega arith)

ended : (n at : ℕ) (rest : List ℕ) → EndsTags rest → tags_at n at rest ≡ Ok []
ended n at rest (inl e) = at_end n at rest (ap length e)
ended n at rest (inr h) =
    let len : length rest ≡ 2 + length h.behind = ap length h.parts ∙ length-append (u16_bytes 0) h.behind ∙ ap (λ (m : ℕ). m + length h.behind) (length-u16_bytes 0) in
    let two = h.head in
    at_end_of_list n at rest (omega arith) (ap kind_told h.parts ∙ number-u16_bytes 0 h.behind (omega arith))

pub tags_again : (bytes : List ℕ) (v : List Tag) → HasTags bytes v → tags_of bytes ≡ Ok v
tags_again bytes v h =
    past_all bytes v h.rest h.are h.parts
    ∙ ap (with_front v) (ended (length bytes - length v) (length (spelling v)) h.rest h.ends)
    ∙ ap (λ (w : List Tag). Ok w) (append-nil v)

pub written_again : (v : List Tag) → AreTags v → tags_of (spelling v) ≡ Ok v
written_again v are = tags_again (spelling v) v (record { are = are; rest = []; parts = sym (append-nil (spelling v)); ends = inl refl })

some_left : (rest : List ℕ) → LacksTag rest → 0 < length rest
some_left rest (inl w) = w.0
some_left rest (inr h) = let a = again h.kind h.said h.behind h.kind_fits h.said_fits in let l = ap length h.parts ∙ a.len in omega arith

told_here : (n at : ℕ) (rest : List ℕ) → LacksTag rest → 0 < n → tags_at n at rest ≡ Err (TagPastEnd at)
told_here zero at rest wrong lt = absurd (omega arith)
told_here (suc n) at rest (inl w) lt = short_is n at rest w.0 w.1
told_here (suc n) at rest (inr h) lt =
    let a = again h.kind h.said h.behind h.kind_fits h.said_fits in
    let len : length rest ≡ 4 + length h.behind = ap length h.parts ∙ a.len in
    let kind : kind_told rest ≡ h.kind = ap kind_told h.parts ∙ a.kind_is in
    let said : length_told rest ≡ h.said = ap length_told h.parts ∙ a.said_is in
    let w = h.wrong in
    past_is n at rest (omega arith) (λ e. h.other (sym kind ∙ e)) (omega arith)

pub fault_again : (bytes : List ℕ) (at : ℕ) → IsTagFault bytes at → tags_of bytes ≡ Err (TagPastEnd at)
fault_again bytes at h =
    let le = no_fewer h.before in
    let some : 0 < length h.rest = some_left h.rest h.wrong in
    let len : length bytes ≡ length (spelling h.before) + length h.rest = ap length h.parts ∙ length-append (spelling h.before) h.rest in
    past_all bytes h.before h.rest h.whole h.parts
    ∙ ap (with_front h.before) (told_here (length bytes - length h.before) (length (spelling h.before)) h.rest h.wrong (omega arith))
    ∙ ap (λ (i : ℕ). Err (TagPastEnd i)) (sym h.place)

-- ---- the laws, of what a call answered

pub is_exact : (bytes : List ℕ) (r : Result (List Tag) TagError) → IfOk r (HasTags bytes) → IfErr r (IsFirstTagFault bytes) → Gives ToldTag (λ v. v) r (tags_of bytes)
is_exact bytes (Ok v) found fault = tags_again bytes v found
is_exact bytes (Err (TagPastEnd at)) found fault = fault_again bytes at fault
is_exact bytes (Err NoMemory) found fault = tt
