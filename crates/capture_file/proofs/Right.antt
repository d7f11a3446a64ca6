-- A sum of words with its own checksum comes to 65535.
use Rattle.std.proofs.Common.{◌≡◌, ℕ, ◌+◌, ◌-◌, ◌*◌, ◌/◌, ◌%◌, ◌<◌, ◌≤◌, Bool, true, false, cond, eqb, ltb, List, [], ◌∷◌, ◌++◌, length, refl, sym, ap, subst, ◌∙◌, append_assoc, arith, inl, inr}
use Rattle.std.specs.List.{AllByRecursion}
use Rattle.std.proofs.lemmas.Bool.{cases_lt, cases_Bool, lt-ltb, le-ltb, eqb-true}
use Rattle.wire_base.specs.Numbers.{u16_bytes, u32_bytes}
use Rattle.end_names.specs.Names.{address_of}
use Rattle.capture_file.specs.Sums.{IsByte, add_words, sum_from, checksum, sent_checksum}
use Rattle.capture_file.specs.Frames.{addresses, ipv4_front, ipv4_header, udp_front, pseudo_header, udp_covered, udp_header}

abbrev AreBytes : List ℕ → Type 0
AreBytes bytes = AllByRecursion IsByte bytes

-- ---- sums

-- the sum of the words as a number
abbrev total : List ℕ → ℕ
total [] = 0
total (last ∷ []) = last * 256
total (high ∷ low ∷ rest) = high * 256 + low + total rest

-- as a word: less its carries, which leave nothing only of nothing
record Folds (n s : ℕ) : Type 0 where
  small : s ≤ 65535
  same : s % 65535 ≡ n % 65535
  some : s ≡ 0 → n ≡ 0
  none : n ≡ 0 → s ≡ 0

carried : (a b n : ℕ) → b ≤ 65535 → 65535 < a + b → Folds n a → Folds (n + b) (a + b - 65535)
carried a b n small over h =
    let s = h.small in
    let m = h.same in
    record {
      small = omega arith;
      same = omega arith;
      some = λ e. absurd (omega arith);
      none = λ e. absurd (let z : a ≡ 0 = h.none (omega arith) in omega arith);
    }

uncarried : (a b n : ℕ) → a + b ≤ 65535 → Folds n a → Folds (n + b) (a + b)
uncarried a b n small h =
    let m = h.same in
    record {
      small = small;
      same = omega arith;
      some = λ e. let z : n ≡ 0 = h.some (omega arith) in omega arith;
      none = λ e. let z : a ≡ 0 = h.none (omega arith) in omega arith;
    }

added : (a b n : ℕ) → b ≤ 65535 → Folds n a → Folds (n + b) (add_words a b)
added a b n small h =
    elim (cases_lt 65535 (a + b)) [
      | inl lt ↦ rw (lt-ltb 65535 (a + b) lt) (carried a b n small lt h)
      | inr le ↦ rw (le-ltb 65535 (a + b) le) (uncarried a b n le h)
    ]

summed : (a n : ℕ) (bytes : List ℕ) → AreBytes bytes → Folds n a → Folds (n + total bytes) (sum_from a bytes)
summed a n [] are h = let e : n ≡ n + 0 = omega arith in subst (λ k. Folds k a) e h
summed a n (last ∷ []) are h = let lt = are.0 in added a (last * 256) n (omega arith) h
summed a n (high ∷ low ∷ rest) are h =
    let one = are.0 in
    let two = (are.1).0 in
    let e : n + (high * 256 + low) + total rest ≡ n + (high * 256 + low + total rest) = omega arith in
    subst (λ k. Folds k (sum_from (add_words a (high * 256 + low)) rest)) e
    (summed (add_words a (high * 256 + low)) (n + (high * 256 + low)) rest (are.1).1 (added a (high * 256 + low) n (omega arith) h))

nothing : Folds 0 0
nothing = record { small = omega arith; same = refl; some = λ e. refl; none = λ e. refl }

of_all : (bytes : List ℕ) → AreBytes bytes → Folds (total bytes) (sum_from 0 bytes)
of_all bytes are = let e : 0 + total bytes ≡ total bytes = omega arith in subst (λ k. Folds k (sum_from 0 bytes)) e (summed 0 0 bytes are nothing)

-- ---- a checksum in its place

comes_to : (n s m : ℕ) → Folds n s → Folds (n + (65535 - s)) m → m ≡ 65535
comes_to n s m h k =
    let a = h.small in
    let b = h.same in
    let c = k.small in
    let d = k.same in
    let e : m ≡ 0 → ⊥ = λ z. (let f : n + (65535 - s) ≡ 0 = k.some z in let g : s ≡ 0 = h.none (omega arith) in absurd (omega arith)) in
    omega arith

comes_to_sent : (n s m : ℕ) → Folds n s → Folds (n + sent_checksum (65535 - s)) m → m ≡ 65535
comes_to_sent n s m h k =
    elim (cases_Bool (eqb (65535 - s) 0)) [
      | inl z ↦
          let zero : 65535 - s ≡ 0 = eqb-true (65535 - s) 0 z in
          let q : Folds (n + 65535) m = rw z at k in
          let a = h.small in
          let b = h.same in
          let c = q.small in
          let d = q.same in
          let e : m ≡ 0 → ⊥ = λ y. (let f : n + 65535 ≡ 0 = q.some y in absurd (omega arith)) in
          omega arith
      | inr z ↦ comes_to n s m h (rw z at k)
    ]

sent_small : (c : ℕ) → c ≤ 65535 → sent_checksum c ≤ 65535
sent_small c h =
    elim (cases_Bool (eqb c 0)) [
      | inl z ↦ rw z (omega arith)
      | inr z ↦ rw z h
    ]

-- whole words
abbrev AreWhole : List ℕ → Type 0
AreWhole [] = Unit {0}
AreWhole (last ∷ []) = ⊥
AreWhole (high ∷ low ∷ rest) = AreWhole rest

-- a word among others
with_word : (front rest : List ℕ) (c : ℕ) → AreWhole front → c ≤ 65535 → total (front ++ u16_bytes c ++ rest) ≡ total (front ++ u16_bytes 0 ++ rest) + c
unfolding u16_bytes
with_word [] rest c whole small = omega arith
with_word (last ∷ []) rest c whole small = absurd whole
with_word (high ∷ low ∷ front) rest c whole small = omega (arith, with_word front rest c whole small)

-- ---- headers

are_both : (xs ys : List ℕ) → AreBytes xs → AreBytes ys → AreBytes (xs ++ ys)
are_both [] ys h k = k
are_both (x ∷ xs) ys h k = (h.0, are_both xs ys h.1 k)

are_three : (xs ys zs : List ℕ) → AreBytes xs → AreBytes ys → AreBytes zs → AreBytes (xs ++ ys ++ zs)
are_three xs ys zs h k l = are_both (xs ++ ys) zs (are_both xs ys h k) l

are_u16 : (n : ℕ) → AreBytes (u16_bytes n)
unfolding u16_bytes
are_u16 n = (omega arith, (omega arith, tt))

are_u32 : (n : ℕ) → AreBytes (u32_bytes n)
unfolding u32_bytes
are_u32 n = (omega arith, (omega arith, (omega arith, (omega arith, tt))))

are_addresses : (from to : ℕ) → AreBytes (addresses from to)
are_addresses from to = are_both (u32_bytes (address_of from)) (u32_bytes (address_of to)) (are_u32 (address_of from)) (are_u32 (address_of to))

are_front : (id len : ℕ) → AreBytes (ipv4_front id len)
unfolding u16_bytes
are_front id len = (omega arith, (omega arith, (omega arith, (omega arith, (omega arith, (omega arith, (omega arith, (omega arith, (omega arith, (omega arith, tt))))))))))

whole_front : (id len : ℕ) → AreWhole (ipv4_front id len)
unfolding u16_bytes
whole_front id len = tt

pub ipv4_is_right : (id len from to : ℕ) → sum_from 0 (ipv4_header id len from to) ≡ 65535
unfolding ipv4_header checksum
ipv4_is_right id len from to =
    let front : List ℕ = ipv4_front id len in
    let back : List ℕ = addresses from to in
    let s : ℕ = sum_from 0 (front ++ u16_bytes 0 ++ back) in
    let behind = are_addresses from to in
    let blank = of_all (front ++ u16_bytes 0 ++ back) (are_three front (u16_bytes 0) back (are_front id len) (are_u16 0) behind) in
    let all = of_all (front ++ u16_bytes (65535 - s) ++ back) (are_three front (u16_bytes (65535 - s)) back (are_front id len) (are_u16 (65535 - s)) behind) in
    let e = with_word front back (65535 - s) (whole_front id len) (omega arith) in
    comes_to (total (front ++ u16_bytes 0 ++ back)) s (sum_from 0 (front ++ u16_bytes (65535 - s) ++ back)) blank
    (subst (λ n. Folds n (sum_from 0 (front ++ u16_bytes (65535 - s) ++ back))) e all)

abbrev udp_cover : ℕ → ℕ → ℕ → List ℕ
udp_cover from to len = pseudo_header from to len ++ udp_front len

are_cover : (from to len : ℕ) → AreBytes (udp_cover from to len)
are_cover from to len =
    let ports = are_both (u16_bytes 1701) (u16_bytes 1701) (are_u16 1701) (are_u16 1701) in
    let head = are_both (addresses from to) (0 ∷ 17 ∷ []) (are_addresses from to) (omega arith, (omega arith, tt)) in
    are_both (pseudo_header from to len) (udp_front len)
    (are_both (addresses from to ++ 0 ∷ 17 ∷ []) (u16_bytes len) head (are_u16 len))
    (are_both (u16_bytes 1701 ++ u16_bytes 1701) (u16_bytes len) ports (are_u16 len))

whole_cover : (from to len : ℕ) → AreWhole (udp_cover from to len)
unfolding u16_bytes u32_bytes
whole_cover from to len = tt

pub udp_is_right : (from to : ℕ) (payload : List ℕ) → AreBytes payload → sum_from 0 (pseudo_header from to (8 + length payload) ++ udp_header from to payload ++ payload) ≡ 65535
unfolding udp_header udp_covered checksum
udp_is_right from to payload are =
    let len : ℕ = 8 + length payload in
    let front : List ℕ = udp_cover from to len in
    let s : ℕ = sum_from 0 (front ++ u16_bytes 0 ++ payload) in
    let c : ℕ = sent_checksum (65535 - s) in
    let blank = of_all (front ++ u16_bytes 0 ++ payload) (are_three front (u16_bytes 0) payload (are_cover from to len) (are_u16 0) are) in
    let all = of_all (front ++ u16_bytes c ++ payload) (are_three front (u16_bytes c) payload (are_cover from to len) (are_u16 c) are) in
    let e = with_word front payload c (whole_cover from to len) (sent_small (65535 - s) (omega arith)) in
    let right = comes_to_sent (total (front ++ u16_bytes 0 ++ payload)) s (sum_from 0 (front ++ u16_bytes c ++ payload)) blank
    (subst (λ n. Folds n (sum_from 0 (front ++ u16_bytes c ++ payload))) e all) in
    ap (λ (t : List ℕ). sum_from 0 (t ++ payload)) (sym (append_assoc (pseudo_header from to len) (udp_front len) (u16_bytes c))) ∙ right
