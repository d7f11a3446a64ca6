-- The laws of reading: what is read is the header, each header is read, and a fault is told exactly where it is the first.
use Rattle.std.proofs.Common.{◌≡◌, ◌⊎◌, ℕ, ◌<◌, ◌≤◌, Bool, true, false, not, ◌&&◌, ltb, List, [], length, drop, Option, Some, None, Result, Ok, Err, refl, sym, ap, subst, ◌∙◌, arith, inl, inr}
use Rattle.std.specs.Prelude.{is_some, IfOk, IfErr, IsTrue}
use Rattle.std.proofs.lemmas.Bool.{cases_Bool, cases_lt, cases_eq, lt-ltb, le-ltb, eq-eqb, ne_eqb, true≢false, or_right, false_from_ne_true}
use Rattle.std.proofs.lemmas.List.{length-append}
use Rattle.wire_base.specs.Numbers.{u16_bytes}
use Rattle.wire_base.specs.NumberLaws.{AreBytes, length-u16_bytes}
use Rattle.l2tp_header.specs.declared.header.Header.{Header}
use Rattle.l2tp_header.specs.declared.header.HeaderError.{HeaderError}
use Rattle.l2tp_header.specs.declared.header.HeaderError.TheVariants.{Short, Version, ControlFlags, Length}
use Rattle.l2tp_header.specs.Flags.{is_control, has_length, version_of, are_control_flags}
use Rattle.l2tp_header.specs.Grammar.{Fields, HasFields, IsWord, EndsAt, IsHeader}
use Rattle.l2tp_header.specs.Faults.{BeginsWith, LacksFields, IsOtherVersion, HasOtherFlags, HasOtherLength, IsFault}
use Rattle.l2tp_header.specs.Reading.{word_at, word_of, fields_end, body_at, start_of, end_of, header_with, header_of}
use Rattle.l2tp_header.proofs.Places.{number_behind, number_here, small_here, AreRead, are_read, fields_of, fields_here, fields_before_body, offset_past}

-- ---- the first word

pub word_short : (bytes : List ℕ) → length bytes < 2 → word_of bytes ≡ Err Short
unfolding word_of
word_short bytes lt = rw (lt-ltb (length bytes) 2 lt) refl

pub word_version : (bytes : List ℕ) → 2 ≤ length bytes → (version_of (word_at bytes 0) ≡ 2 → ⊥) → word_of bytes ≡ Err (Version (version_of (word_at bytes 0)))
unfolding word_of
word_version bytes le ne = rw (le-ltb (length bytes) 2 le, ne_eqb (version_of (word_at bytes 0)) 2 ne) refl

pub word_flags : (bytes : List ℕ) → 2 ≤ length bytes → version_of (word_at bytes 0) ≡ 2 → is_control (word_at bytes 0) ≡ true → are_control_flags (word_at bytes 0) ≡ false → word_of bytes ≡ Err (ControlFlags (word_at bytes 0))
unfolding word_of
word_flags bytes le v c f = rw (le-ltb (length bytes) 2 le, eq-eqb (version_of (word_at bytes 0)) 2 v, c, f) refl

flags_agree : (c f : Bool) → (IsTrue c → IsTrue f) → (c && not f) ≡ false
flags_agree false f h = refl
flags_agree true true h = refl
flags_agree true false h = absurd (true≢false (sym (h refl)))

pub word_right : (bytes : List ℕ) → 2 ≤ length bytes → IsWord (word_at bytes 0) → word_of bytes ≡ Ok (word_at bytes 0)
unfolding word_of
word_right bytes le h = rw (le-ltb (length bytes) 2 le, eq-eqb (version_of (word_at bytes 0)) 2 h.version, flags_agree _ _ h.flags) refl

begins_here : (bytes : List ℕ) → AreBytes bytes → 2 ≤ length bytes → BeginsWith bytes (word_at bytes 0)
begins_here bytes are le = record { fits = small_here bytes 0 are; behind = drop 2 bytes; parts = number_here bytes 0 are (omega arith) }

begins_is : (bytes : List ℕ) (word : ℕ) → BeginsWith bytes word → (2 ≤ length bytes) × (word_at bytes 0 ≡ word)
begins_is bytes word h = (omega (arith, ap length h.parts, length-append (u16_bytes word) h.behind, length-u16_bytes word), number_behind bytes [] h.behind word 0 h.parts refl h.fits)

-- ---- where the body starts and ends

pub start_short : (word : ℕ) (bytes : List ℕ) → length bytes < body_at word bytes → start_of word bytes ≡ Err Short
unfolding start_of
start_short word bytes lt =
    elim (cases_lt (length bytes) (fields_end word)) [
      | inl l ↦ rw (lt-ltb (length bytes) (fields_end word) l) refl
      | inr l ↦ rw (le-ltb (length bytes) (fields_end word) l, lt-ltb (length bytes) (body_at word bytes) lt) refl
    ]

pub start_right : (word : ℕ) (bytes : List ℕ) → body_at word bytes ≤ length bytes → start_of word bytes ≡ Ok (body_at word bytes)
unfolding start_of
start_right word bytes le = rw (le-ltb (length bytes) (fields_end word) (omega (arith, fields_before_body word bytes)), le-ltb (length bytes) (body_at word bytes) le) refl

pub end_without : (word start : ℕ) (bytes : List ℕ) → has_length word ≡ false → end_of word start bytes ≡ Ok (length bytes)
unfolding end_of
end_without word start bytes e = rw e refl

pub end_right : (word start : ℕ) (bytes : List ℕ) → has_length word ≡ true → start ≤ word_at bytes 2 → word_at bytes 2 ≤ length bytes → end_of word start bytes ≡ Ok (word_at bytes 2)
unfolding end_of
end_right word start bytes e low high = rw (e, le-ltb (word_at bytes 2) start low, le-ltb (length bytes) (word_at bytes 2) high) refl

pub end_wrong : (word start : ℕ) (bytes : List ℕ) → has_length word ≡ true → (word_at bytes 2 < start) ⊎ (length bytes < word_at bytes 2) → end_of word start bytes ≡ Err (Length (word_at bytes 2) (length bytes))
unfolding end_of
end_wrong word start bytes e (inl lt) = rw (e, lt-ltb (word_at bytes 2) start lt) refl
end_wrong word start bytes e (inr lt) = rw (e, or_right (ltb (word_at bytes 2) start) (ltb (length bytes) (word_at bytes 2)) (lt-ltb (length bytes) (word_at bytes 2) lt)) refl

-- ---- the parts together

no_word : (bytes : List ℕ) (e : HeaderError) → word_of bytes ≡ Err e → header_of bytes ≡ Err e
unfolding header_of
no_word bytes e a = rw a refl

no_start : (bytes : List ℕ) (word : ℕ) (e : HeaderError) → word_of bytes ≡ Ok word → start_of word bytes ≡ Err e → header_of bytes ≡ Err e
unfolding header_of
no_start bytes word e a b = rw (a, b) refl

no_end : (bytes : List ℕ) (word start : ℕ) (e : HeaderError) → word_of bytes ≡ Ok word → start_of word bytes ≡ Ok start → end_of word start bytes ≡ Err e → header_of bytes ≡ Err e
unfolding header_of
no_end bytes word start e a b c = rw (a, b, c) refl

all_there : (bytes : List ℕ) (word start stop : ℕ) → word_of bytes ≡ Ok word → start_of word bytes ≡ Ok start → end_of word start bytes ≡ Ok stop → header_of bytes ≡ Ok (header_with word start stop bytes)
unfolding header_of
all_there bytes word start stop a b c = rw (a, b, c) refl

word_is : (bytes : List ℕ) (word : ℕ) → 2 ≤ length bytes → word_at bytes 0 ≡ word → IsWord word → word_of bytes ≡ Ok word
word_is bytes word le e h = subst (λ w. word_of bytes ≡ Ok w) e (word_right bytes le (subst IsWord (sym e) h))

-- ---- a header is read

abbrev made : Bool → ℕ → ℕ → Option ℕ → Option ℕ → ℕ → ℕ → Header
made c t s ns nr start stop = record { control = c; tunnel = t; session = s; ns = ns; nr = nr; start = start; end = stop }

same_header : (x y : Header) → x.control ≡ y.control → x.tunnel ≡ y.tunnel → x.session ≡ y.session → x.ns ≡ y.ns → x.nr ≡ y.nr → x.start ≡ y.start → x.end ≡ y.end → x ≡ y
same_header x y a b c d e f g =
    let whole : made x.control x.tunnel x.session x.ns x.nr x.start x.end ≡ made y.control y.tunnel y.session y.ns y.nr y.start y.end = rw (a, b, c, d, e, f, g) refl in
    whole

end_is : (bytes : List ℕ) (f : Fields) (start stop : ℕ) (said : Option ℕ) → f.said ≡ said → is_some said ≡ has_length f.word → AreRead bytes f → EndsAt said start (length bytes) stop → end_of f.word start bytes ≡ Ok stop
end_is bytes f start stop None e named r h = end_without f.word start bytes (sym named) ∙ ap (λ (k : ℕ). Ok k) (sym h)
end_is bytes f start stop (Some n) e named r h =
    let same : word_at bytes 2 ≡ n = r.said n e in
    end_right f.word start bytes (sym named) (omega arith) (omega arith) ∙ ap (λ (k : ℕ). Ok k) (same ∙ sym h.0)

pub header_again : (bytes : List ℕ) (h : Header) → IsHeader bytes h → header_of bytes ≡ Ok h
unfolding header_with
header_again bytes h i =
    let f = i.fields in
    let r = are_read bytes f i.has in
    let start : body_at f.word bytes ≡ h.start = r.start ∙ sym i.starts in
    let two : 2 ≤ length bytes = omega (arith, r.body_within, offset_past f.word bytes) in
    let stop = end_is bytes f h.start h.end f.said refl i.has.are.length_named r i.ends in
    all_there bytes f.word h.start h.end (word_is bytes f.word two r.word i.word) (start_right f.word bytes r.body_within ∙ ap (λ (k : ℕ). Ok k) start) stop
    ∙ ap (λ (x : Header). Ok x) (same_header (header_with f.word h.start h.end bytes) h (sym i.control) (r.tunnel ∙ sym i.tunnel) (r.session ∙ sym i.session) (r.ns ∙ sym i.ns) (r.nr ∙ sym i.nr) refl refl)

-- ---- what is read is the header, or the first fault

abbrev Outcome : List ℕ → Result Header HeaderError → Type 0
Outcome bytes (Ok h) = IsHeader bytes h
Outcome bytes (Err e) = IsFault bytes e

header_there : (bytes : List ℕ) (f : Fields) (stop : ℕ) → HasFields bytes f → IsWord f.word → EndsAt f.said (body_at f.word bytes) (length bytes) stop → IsHeader bytes (header_with f.word (body_at f.word bytes) stop bytes)
unfolding header_with
header_there bytes f stop has w ends =
    let r = are_read bytes f has in
    record {
      fields = f;
      has = has;
      word = w;
      control = refl;
      tunnel = r.tunnel;
      session = r.session;
      ns = r.ns;
      nr = r.nr;
      starts = r.start;
      ends = ends;
    }

-- the end, where there is a length and where there is none
ends_with : (word : ℕ) (bytes : List ℕ) (start : ℕ) → has_length word ≡ true → start ≤ word_at bytes 2 → word_at bytes 2 ≤ length bytes → EndsAt (fields_of word bytes).said start (length bytes) (word_at bytes 2)
ends_with word bytes start e low high = rw e (refl, low, high)

ends_without : (word : ℕ) (bytes : List ℕ) (start : ℕ) → has_length word ≡ false → EndsAt (fields_of word bytes).said start (length bytes) (length bytes)
ends_without word bytes start e = rw e refl

length_there : (bytes : List ℕ) (word : ℕ) → HasFields bytes (fields_of word bytes) → IsWord word → has_length word ≡ true → (word_at bytes 2 < body_at word bytes) ⊎ (length bytes < word_at bytes 2) → HasOtherLength bytes (word_at bytes 2) (length bytes)
length_there bytes word has w e wrong =
    let r = are_read bytes (fields_of word bytes) has in
    record {
      fields = fields_of word bytes;
      has = has;
      right = w;
      tells = rw e refl;
      total = refl;
      wrong = subst (λ n. (word_at bytes 2 < n) ⊎ (length bytes < word_at bytes 2)) r.start wrong;
    }

-- the fields are there
with_fields : (bytes : List ℕ) (word : ℕ) → word_of bytes ≡ Ok word → IsWord word → body_at word bytes ≤ length bytes → HasFields bytes (fields_of word bytes) → Outcome bytes (header_of bytes)
with_fields bytes word a w le has =
    let start : ℕ = body_at word bytes in
    let b = start_right word bytes le in
    elim (cases_Bool (has_length word)) [
      | inr e ↦ subst (Outcome bytes) (sym (all_there bytes word start (length bytes) a b (end_without word start bytes e))) (header_there bytes (fields_of word bytes) (length bytes) has w (ends_without word bytes start e))
      | inl e ↦ elim (cases_lt (word_at bytes 2) start) [
        | inl lt ↦ subst (Outcome bytes) (sym (no_end bytes word start _ a b (end_wrong word start bytes e (inl lt)))) (length_there bytes word has w e (inl lt))
        | inr low ↦ elim (cases_lt (length bytes) (word_at bytes 2)) [
          | inl lt ↦ subst (Outcome bytes) (sym (no_end bytes word start _ a b (end_wrong word start bytes e (inr lt)))) (length_there bytes word has w e (inr lt))
          | inr high ↦ subst (Outcome bytes) (sym (all_there bytes word start (word_at bytes 2) a b (end_right word start bytes e low high))) (header_there bytes (fields_of word bytes) (word_at bytes 2) has w (ends_with word bytes start e low high))
        ]
      ]
    ]

-- fields that are there leave the body a place
body_within : (bytes : List ℕ) (f : Fields) (word : ℕ) → f.word ≡ word → HasFields bytes f → body_at word bytes ≤ length bytes
body_within bytes f word e h = let r = are_read bytes f h in subst (λ w. body_at w bytes ≤ length bytes) e r.body_within

lacks_there : (bytes : List ℕ) → AreBytes bytes → 2 ≤ length bytes → IsWord (word_at bytes 0) → length bytes < body_at (word_at bytes 0) bytes → LacksFields bytes
lacks_there bytes are two w lt =
    record {
      word = word_at bytes 0;
      begins = begins_here bytes are two;
      right = w;
      wrong = λ f e h. absurd (omega (arith, body_within bytes f (word_at bytes 0) e h));
    }

with_word : (bytes : List ℕ) → AreBytes bytes → 2 ≤ length bytes → IsWord (word_at bytes 0) → Outcome bytes (header_of bytes)
with_word bytes are two w =
    let word : ℕ = word_at bytes 0 in
    let a = word_right bytes two w in
    elim (cases_lt (length bytes) (body_at word bytes)) [
      | inl lt ↦ subst (Outcome bytes) (sym (no_start bytes word Short a (start_short word bytes lt))) (inr (lacks_there bytes are two w lt))
      | inr le ↦ with_fields bytes word a w le (fields_here bytes word are refl le)
    ]

-- a word that agrees is right
agrees : (word : ℕ) → version_of word ≡ 2 → (is_control word ≡ false) ⊎ (are_control_flags word ≡ true) → IsWord word
agrees word v (inl e) = record { version = v; flags = λ t. absurd (true≢false (sym t ∙ e)) }
agrees word v (inr e) = record { version = v; flags = λ t. e }

pub outcome : (bytes : List ℕ) → AreBytes bytes → Outcome bytes (header_of bytes)
outcome bytes are =
    let word : ℕ = word_at bytes 0 in
    elim (cases_lt (length bytes) 2) [
      | inl lt ↦ subst (Outcome bytes) (sym (no_word bytes Short (word_short bytes lt))) (inl lt)
      | inr two ↦ elim (cases_eq (version_of word) 2) [
        | inr ne ↦
            let fault : IsOtherVersion bytes (version_of word) = record { word = word; begins = begins_here bytes are two; version = refl; wrong = ne } in
            subst (Outcome bytes) (sym (no_word bytes _ (word_version bytes two ne))) fault
        | inl v ↦ elim (cases_Bool (is_control word)) [
          | inr c ↦ with_word bytes are two (agrees word v (inl c))
          | inl c ↦ elim (cases_Bool (are_control_flags word)) [
            | inl g ↦ with_word bytes are two (agrees word v (inr g))
            | inr g ↦
                let fault : HasOtherFlags bytes word = record { begins = begins_here bytes are two; version = v; control = c; wrong = λ t. true≢false (sym t ∙ g) } in
                subst (Outcome bytes) (sym (no_word bytes _ (word_flags bytes two v c g))) fault
          ]
        ]
      ]
    ]

-- ---- a fault is told

lacks_again : (bytes : List ℕ) → AreBytes bytes → LacksFields bytes → header_of bytes ≡ Err Short
lacks_again bytes are h =
    let b = begins_is bytes h.word h.begins in
    elim (cases_lt (length bytes) (body_at h.word bytes)) [
      | inl lt ↦ no_start bytes h.word Short (word_is bytes h.word b.0 b.1 h.right) (start_short h.word bytes lt)
      | inr le ↦ absurd (h.wrong (fields_of h.word bytes) refl (fields_here bytes h.word are b.1 le))
    ]

version_again : (bytes : List ℕ) (seen : ℕ) → IsOtherVersion bytes seen → header_of bytes ≡ Err (Version seen)
version_again bytes seen h =
    let b = begins_is bytes h.word h.begins in
    let v : version_of (word_at bytes 0) ≡ seen = ap version_of b.1 ∙ h.version in
    no_word bytes (Version seen) (word_version bytes b.0 (λ e. h.wrong (sym v ∙ e)) ∙ ap (λ (n : ℕ). Err (Version n)) v)

flags_again : (bytes : List ℕ) (word : ℕ) → HasOtherFlags bytes word → header_of bytes ≡ Err (ControlFlags word)
flags_again bytes word h =
    let b = begins_is bytes word h.begins in
    let wrong : are_control_flags word ≡ false = false_from_ne_true (are_control_flags word) h.wrong in
    no_word bytes (ControlFlags word)
    (word_flags bytes b.0 (ap version_of b.1 ∙ h.version) (ap is_control b.1 ∙ h.control) (ap are_control_flags b.1 ∙ wrong) ∙ ap (λ (n : ℕ). Err (ControlFlags n)) b.1)

length_again : (bytes : List ℕ) (said have : ℕ) → HasOtherLength bytes said have → header_of bytes ≡ Err (Length said have)
length_again bytes said have h =
    let f = h.fields in
    let r = are_read bytes f h.has in
    let two : 2 ≤ length bytes = omega (arith, r.body_within, offset_past f.word bytes) in
    let same : word_at bytes 2 ≡ said = r.said said h.tells in
    let l : has_length f.word ≡ true = sym h.has.are.length_named ∙ ap is_some h.tells in
    let wrong = elim h.wrong as (λ _. (word_at bytes 2 < body_at f.word bytes) ⊎ (length bytes < word_at bytes 2)) [
      | inl lt ↦ inl (let s = r.start in omega arith)
      | inr lt ↦ inr (let t = h.total in omega arith)
    ] in
    no_end bytes f.word (body_at f.word bytes) (Length said have) (word_is bytes f.word two r.word h.right) (start_right f.word bytes r.body_within)
    (end_wrong f.word (body_at f.word bytes) bytes l wrong ∙ ap (λ (n : ℕ). Err (Length n (length bytes))) same ∙ ap (λ (n : ℕ). Err (Length said n)) (sym h.total))

pub fault_again : (bytes : List ℕ) (e : HeaderError) → AreBytes bytes → IsFault bytes e → header_of bytes ≡ Err e
fault_again bytes Short are (inl lt) = no_word bytes Short (word_short bytes lt)
fault_again bytes Short are (inr h) = lacks_again bytes are h
fault_again bytes (Version seen) are h = version_again bytes seen h
fault_again bytes (ControlFlags word) are h = flags_again bytes word h
fault_again bytes (Length said have) are h = length_again bytes said have h

-- ---- the laws, of what a call answered

pub is_found : (bytes : List ℕ) (r : Result Header HeaderError) → AreBytes bytes → r ≡ header_of bytes → IfOk r (IsHeader bytes)
is_found bytes (Ok h) are e = subst (Outcome bytes) (sym e) (outcome bytes are)
is_found bytes (Err f) are e = tt

pub is_first : (bytes : List ℕ) (r : Result Header HeaderError) → AreBytes bytes → r ≡ header_of bytes → IfErr r (IsFault bytes)
is_first bytes (Ok h) are e = tt
is_first bytes (Err f) are e = subst (Outcome bytes) (sym e) (outcome bytes are)
