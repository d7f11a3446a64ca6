-- Fields that stand at the front of bytes are read from their places, and what stands at the places are fields.
use Rattle.std.proofs.Common.{◌≡◌, ℕ, ◌+◌, ◌^◌, ◌<◌, ◌≤◌, Bool, true, false, cond, List, [], ◌++◌, length, take, drop, Option, Some, None, refl, sym, ap, subst, ◌∙◌, append_assoc, arith, inl, inr}
use Rattle.std.specs.Prelude.{option_map, is_some}
use Rattle.std.proofs.lemmas.Bool.{cases_Bool, cond_both}
use Rattle.std.proofs.lemmas.Option.{none-some, same_Some}
use Rattle.std.proofs.lemmas.List.{length-append, length-drop, length-take, drop-drop, drop_at, take-append-drop, get_or-drop}
use Rattle.byteorder.specs.Endian.{big_number}
use Rattle.wire_base.specs.Numbers.{u16_bytes}
use Rattle.wire_base.specs.NumberLaws.{AreBytes, length-u16_bytes, number-u16_bytes, u16_bytes-number, number-lt}
use Rattle.l2tp_header.specs.Flags.{has_length, has_numbers, has_offset}
use Rattle.l2tp_header.specs.Grammar.{Fields, length_bytes, numbers_bytes, offset_bytes, fields_bytes, FitsWord, FitNumbers, FitsOffset, HasFields}
use Rattle.l2tp_header.specs.Reading.{word_at, tunnel_at, numbers_at, offset_at, fields_end, body_at, number_at}

-- ---- one number

AreBytes-drop : (n : ℕ) (bytes : List ℕ) → AreBytes bytes → AreBytes (drop n bytes)
AreBytes-drop n bytes h i = rw get_or-drop (h (n + i))

-- a number that stands behind others
pub number_behind : (bytes front behind : List ℕ) (n at : ℕ) → bytes ≡ front ++ (u16_bytes n ++ behind) → length front ≡ at → n < 2 ^ 16 → word_at bytes at ≡ n
number_behind bytes front behind n at e len lt =
    ap (λ t. word_at t at) e ∙ ap (big_number 2) (drop_at front (u16_bytes n ++ behind) at len) ∙ number-u16_bytes n behind lt

-- the two bytes at a place spell the number that is read there
pub number_here : (bytes : List ℕ) (at : ℕ) → AreBytes bytes → at + 2 ≤ length bytes → drop at bytes ≡ u16_bytes (word_at bytes at) ++ drop (at + 2) bytes
number_here bytes at are le =
    let rest : List ℕ = drop at bytes in
    let two : 2 ≤ length rest = omega (arith, length-drop at bytes) in
    sym (take-append-drop 2 rest) ∙ ap (λ t. t ++ drop 2 rest) (sym (u16_bytes-number rest (AreBytes-drop at bytes are) two)) ∙ ap (λ t. u16_bytes (word_at bytes at) ++ t) (drop-drop 2 at bytes)

pub small_here : (bytes : List ℕ) (at : ℕ) → AreBytes bytes → word_at bytes at < 2 ^ 16
small_here bytes at are = number-lt (drop at bytes) (AreBytes-drop at bytes are)

-- ---- fields that are there are read

-- what is read from the places of the fields
pub record AreRead (bytes : List ℕ) (f : Fields) : Type 0 where
  pub word : word_at bytes 0 ≡ f.word
  pub said : (n : ℕ) → f.said ≡ Some n → word_at bytes 2 ≡ n
  pub tunnel : word_at bytes (tunnel_at f.word) ≡ f.tunnel
  pub session : word_at bytes (tunnel_at f.word + 2) ≡ f.session
  pub ns : number_at f.word (numbers_at f.word) bytes ≡ option_map (λ n. n.0) f.numbers
  pub nr : number_at f.word (numbers_at f.word + 2) bytes ≡ option_map (λ n. n.1) f.numbers
  pub start : body_at f.word bytes ≡ length (fields_bytes f)
  pub fields_within : fields_end f.word ≤ length bytes
  pub body_within : body_at f.word bytes ≤ length bytes

-- how many bytes a field has
length_size : (said : Option ℕ) (b : Bool) → is_some said ≡ b → 2 + length (length_bytes said) ≡ cond b 4 2
length_size None b e = rw (← e) (omega arith)
length_size (Some n) b e = rw (← e) (omega (arith, length-u16_bytes n))

numbers_size : (numbers : Option (ℕ × ℕ)) (b : Bool) (at : ℕ) → is_some numbers ≡ b → at + length (numbers_bytes numbers) ≡ cond b (at + 4) at
numbers_size None b at e = rw (← e) (omega arith)
numbers_size (Some n) b at e = rw (← e) (omega (arith, length-append (u16_bytes n.0) (u16_bytes n.1), length-u16_bytes n.0, length-u16_bytes n.1))

said_read : (bytes front behind : List ℕ) (said : Option ℕ) (at n : ℕ) → bytes ≡ front ++ (length_bytes said ++ behind) → length front ≡ at → FitsWord said → said ≡ Some n → word_at bytes at ≡ n
said_read bytes front behind None at n e len fits f = absurd (none-some n f)
said_read bytes front behind (Some m) at n e len fits f = number_behind bytes front behind m at e len fits ∙ same_Some m n f

numbers_read : (bytes front behind : List ℕ) (numbers : Option (ℕ × ℕ)) (word at : ℕ) → bytes ≡ front ++ (numbers_bytes numbers ++ behind) → length front ≡ at → FitNumbers numbers → is_some numbers ≡ has_numbers word → (number_at word at bytes ≡ option_map (λ n. n.0) numbers) × (number_at word (at + 2) bytes ≡ option_map (λ n. n.1) numbers)
numbers_read bytes front behind None word at e len fits named = rw (← named) (refl, refl)
numbers_read bytes front behind (Some n) word at e len fits named =
    let first : bytes ≡ front ++ (u16_bytes n.0 ++ (u16_bytes n.1 ++ behind)) = e ∙ simp append_assoc in
    let second : bytes ≡ (front ++ u16_bytes n.0) ++ (u16_bytes n.1 ++ behind) = e ∙ simp append_assoc in
    let longer : length (front ++ u16_bytes n.0) ≡ at + 2 = omega (arith, length-append front (u16_bytes n.0), length-u16_bytes n.0) in
    rw (← named) (
      ap (λ (k : ℕ). Some k) (number_behind bytes front (u16_bytes n.1 ++ behind) n.0 at first len fits.0),
      ap (λ (k : ℕ). Some k) (number_behind bytes (front ++ u16_bytes n.0) behind n.1 (at + 2) second longer fits.1),
    )

-- where the body starts, and that the fields are there
body_read : (bytes front behind : List ℕ) (padding : Option (List ℕ)) (word : ℕ) → bytes ≡ front ++ (offset_bytes padding ++ behind) → length front ≡ offset_at word → FitsOffset padding → is_some padding ≡ has_offset word → (body_at word bytes ≡ length front + length (offset_bytes padding)) × (fields_end word ≤ length bytes)
body_read bytes front behind None word e len fits named =
    let total : length bytes ≡ length front + length behind = ap length e ∙ length-append front behind in
    rw (← named) (omega arith, omega arith)
body_read bytes front behind (Some p) word e len fits named =
    let first : bytes ≡ front ++ (u16_bytes (length p) ++ (p ++ behind)) = e ∙ simp append_assoc in
    let size : word_at bytes (offset_at word) ≡ length p = number_behind bytes front (p ++ behind) (length p) (offset_at word) first len fits in
    let own : length (offset_bytes (Some p)) ≡ 2 + length p = omega (arith, length-append (u16_bytes (length p)) p, length-u16_bytes (length p)) in
    let total : length bytes ≡ length front + (length (offset_bytes (Some p)) + length behind) = ap length e ∙ length-append front (offset_bytes (Some p) ++ behind) ∙ omega (arith, length-append (offset_bytes (Some p)) behind) in
    rw (← named) (omega arith, omega arith)

pub are_read : (bytes : List ℕ) (f : Fields) → HasFields bytes f → AreRead bytes f
are_read bytes f h =
    let w = u16_bytes f.word in
    let l = length_bytes f.said in
    let t = u16_bytes f.tunnel in
    let s = u16_bytes f.session in
    let n = numbers_bytes f.numbers in
    let o = offset_bytes f.padding in
    let b = h.behind in
    let before_tunnel : length (w ++ l) ≡ tunnel_at f.word = omega (arith, length-append w l, length-u16_bytes f.word, length_size f.said (has_length f.word) h.are.length_named) in
    let before_session : length ((w ++ l) ++ t) ≡ tunnel_at f.word + 2 = omega (arith, length-append (w ++ l) t, length-u16_bytes f.tunnel) in
    let before_numbers : length (((w ++ l) ++ t) ++ s) ≡ numbers_at f.word = omega (arith, length-append ((w ++ l) ++ t) s, length-u16_bytes f.session) in
    let before_offset : length ((((w ++ l) ++ t) ++ s) ++ n) ≡ offset_at f.word = length-append (((w ++ l) ++ t) ++ s) n ∙ ap (λ (k : ℕ). k + length n) before_numbers ∙ numbers_size f.numbers (has_numbers f.word) (numbers_at f.word) h.are.numbers_named in
    let numbers = numbers_read bytes (((w ++ l) ++ t) ++ s) (o ++ b) f.numbers f.word (numbers_at f.word) (h.parts ∙ simp append_assoc) before_numbers h.are.numbers_fit h.are.numbers_named in
    let body = body_read bytes ((((w ++ l) ++ t) ++ s) ++ n) b f.padding f.word (h.parts ∙ simp append_assoc) before_offset h.are.offset_fits h.are.offset_named in
    let whole : length (fields_bytes f) ≡ length ((((w ++ l) ++ t) ++ s) ++ n) + length o = length-append ((((w ++ l) ++ t) ++ s) ++ n) o in
    let total : length bytes ≡ length (fields_bytes f) + length b = ap length h.parts ∙ length-append (fields_bytes f) b in
    record {
      word = number_behind bytes [] (l ++ (t ++ (s ++ (n ++ (o ++ b))))) f.word 0 (h.parts ∙ simp append_assoc) refl h.are.word;
      said = λ k e. said_read bytes w (t ++ (s ++ (n ++ (o ++ b)))) f.said 2 k (h.parts ∙ simp append_assoc) (length-u16_bytes f.word) h.are.length_fits e;
      tunnel = number_behind bytes (w ++ l) (s ++ (n ++ (o ++ b))) f.tunnel (tunnel_at f.word) (h.parts ∙ simp append_assoc) before_tunnel h.are.tunnel;
      session = number_behind bytes ((w ++ l) ++ t) (n ++ (o ++ b)) f.session (tunnel_at f.word + 2) (h.parts ∙ simp append_assoc) before_session h.are.session;
      ns = numbers.0;
      nr = numbers.1;
      start = body.0 ∙ sym whole;
      fields_within = body.1;
      body_within = let e = body.0 in omega arith;
    }

-- ---- what stands at the places

length_here : (bytes : List ℕ) (b : Bool) → AreBytes bytes → cond b 4 2 ≤ length bytes → drop 2 bytes ≡ length_bytes (cond b (Some (word_at bytes 2)) None) ++ drop (cond b 4 2) bytes
length_here bytes true are le = number_here bytes 2 are le
length_here bytes false are le = refl

numbers_here : (bytes : List ℕ) (at : ℕ) (b : Bool) → AreBytes bytes → cond b (at + 4) at ≤ length bytes → drop at bytes ≡ numbers_bytes (cond b (Some (word_at bytes at, word_at bytes (at + 2))) None) ++ drop (cond b (at + 4) at) bytes
numbers_here bytes at true are le =
    let two : at + 2 + 2 ≡ at + 4 = omega arith in
    number_here bytes at are (omega arith) ∙ ap (λ t. u16_bytes (word_at bytes at) ++ t) (number_here bytes (at + 2) are (omega arith) ∙ ap (λ (k : ℕ). u16_bytes (word_at bytes (at + 2)) ++ drop k bytes) two) ∙ sym (append_assoc (u16_bytes (word_at bytes at)) (u16_bytes (word_at bytes (at + 2))) (drop (at + 4) bytes))
numbers_here bytes at false are le = refl

-- the bytes of the offset
abbrev padding_at : List ℕ → ℕ → List ℕ
padding_at bytes at = take (word_at bytes at) (drop (at + 2) bytes)

offset_here : (bytes : List ℕ) (at : ℕ) (b : Bool) → AreBytes bytes → cond b (at + 2 + word_at bytes at) at ≤ length bytes → drop at bytes ≡ offset_bytes (cond b (Some (padding_at bytes at)) None) ++ drop (cond b (at + 2 + word_at bytes at) at) bytes
offset_here bytes at true are le =
    let size : ℕ = word_at bytes at in
    let whole : length (padding_at bytes at) ≡ size = omega (arith, length-take size (drop (at + 2) bytes), length-drop (at + 2) bytes) in
    number_here bytes at are (omega arith)
    ∙ ap (λ t. u16_bytes size ++ t) (sym (take-append-drop size (drop (at + 2) bytes)) ∙ ap (λ t. padding_at bytes at ++ t) (drop-drop size (at + 2) bytes))
    ∙ sym (append_assoc (u16_bytes size) (padding_at bytes at) (drop (at + 2 + size) bytes))
    ∙ ap (λ (k : ℕ). (u16_bytes k ++ padding_at bytes at) ++ drop (at + 2 + size) bytes) (sym whole)
offset_here bytes at false are le = refl

-- the fields that stand at their places
abbrev pub fields_of : ℕ → List ℕ → Fields
fields_of word bytes =
    record {
      word = word;
      said = cond (has_length word) (Some (word_at bytes 2)) None;
      tunnel = word_at bytes (tunnel_at word);
      session = word_at bytes (tunnel_at word + 2);
      numbers = cond (has_numbers word) (Some (word_at bytes (numbers_at word), word_at bytes (numbers_at word + 2))) None;
      padding = cond (has_offset word) (Some (padding_at bytes (offset_at word))) None;
    }

-- where the body starts, by the offset's flag alone
body_by : (word : ℕ) (bytes : List ℕ) → body_at word bytes ≡ cond (has_offset word) (offset_at word + 2 + word_at bytes (offset_at word)) (offset_at word)
body_by word bytes =
    elim (cases_Bool (has_offset word)) [
      | inl e ↦ rw e refl
      | inr e ↦ rw e refl
    ]

named : {A : Type 0} (b : Bool) (x : A) → is_some (cond b (Some x) None) ≡ b
named true x = refl
named false x = refl

length_fits : (bytes : List ℕ) (b : Bool) (at : ℕ) → AreBytes bytes → FitsWord (cond b (Some (word_at bytes at)) None)
length_fits bytes true at are = small_here bytes at are
length_fits bytes false at are = tt

numbers_fit : (bytes : List ℕ) (b : Bool) (at : ℕ) → AreBytes bytes → FitNumbers (cond b (Some (word_at bytes at, word_at bytes (at + 2))) None)
numbers_fit bytes true at are = (small_here bytes at are, small_here bytes (at + 2) are)
numbers_fit bytes false at are = tt

offset_fits : (bytes : List ℕ) (b : Bool) (at : ℕ) → AreBytes bytes → FitsOffset (cond b (Some (padding_at bytes at)) None)
offset_fits bytes true at are = omega (arith, length-take (word_at bytes at) (drop (at + 2) bytes), small_here bytes at are)
offset_fits bytes false at are = tt

-- places of the parts, each within the next
places : (word : ℕ) → (2 ≤ tunnel_at word) × (numbers_at word ≤ offset_at word)
places word = (cond_both (has_length word) 4 2 (λ n. 2 ≤ n) (λ _. omega arith) (λ _. omega arith), cond_both (has_numbers word) (numbers_at word + 4) (numbers_at word) (λ n. numbers_at word ≤ n) (λ _. omega arith) (λ _. omega arith))

offset_before_body : (word : ℕ) (bytes : List ℕ) → offset_at word ≤ body_at word bytes
offset_before_body word bytes = subst (λ n. offset_at word ≤ n) (sym (body_by word bytes)) (cond_both (has_offset word) _ _ (λ n. offset_at word ≤ n) (λ _. omega arith) (λ _. omega arith))

joined : (bytes w l t s n o r2 r3 r4 r5 r6 b : List ℕ) → bytes ≡ w ++ r2 → r2 ≡ l ++ r3 → r3 ≡ t ++ r4 → r4 ≡ s ++ r5 → r5 ≡ n ++ r6 → r6 ≡ o ++ b → bytes ≡ (((((w ++ l) ++ t) ++ s) ++ n) ++ o) ++ b
joined bytes w l t s n o r2 r3 r4 r5 r6 b e1 e2 e3 e4 e5 e6 = rw (e1, e2, e3, e4, e5, e6) (simp append_assoc)

pub fields_here : (bytes : List ℕ) (word : ℕ) → AreBytes bytes → word_at bytes 0 ≡ word → body_at word bytes ≤ length bytes → HasFields bytes (fields_of word bytes)
fields_here bytes word are e le =
    let p = places word in
    let q = offset_before_body word bytes in
    let by = body_by word bytes in
    let here = number_here bytes 0 are (omega arith) ∙ ap (λ (k : ℕ). u16_bytes k ++ drop 2 bytes) e in
    let two : tunnel_at word + 2 + 2 ≡ numbers_at word = omega arith in
    let session = number_here bytes (tunnel_at word + 2) are (omega arith) ∙ ap (λ (k : ℕ). u16_bytes (word_at bytes (tunnel_at word + 2)) ++ drop k bytes) two in
    record {
      are = record {
        word = subst (λ k. k < 2 ^ 16) e (small_here bytes 0 are);
        tunnel = small_here bytes (tunnel_at word) are;
        session = small_here bytes (tunnel_at word + 2) are;
        length_fits = length_fits bytes (has_length word) 2 are;
        numbers_fit = numbers_fit bytes (has_numbers word) (numbers_at word) are;
        offset_fits = offset_fits bytes (has_offset word) (offset_at word) are;
        length_named = named (has_length word) (word_at bytes 2);
        numbers_named = named (has_numbers word) (word_at bytes (numbers_at word), word_at bytes (numbers_at word + 2));
        offset_named = named (has_offset word) (padding_at bytes (offset_at word));
      };
      behind = drop (cond (has_offset word) (offset_at word + 2 + word_at bytes (offset_at word)) (offset_at word)) bytes;
      parts = joined bytes _ _ _ _ _ _ (drop 2 bytes) (drop (tunnel_at word) bytes) (drop (tunnel_at word + 2) bytes) (drop (numbers_at word) bytes) (drop (offset_at word) bytes) _
          here
          (length_here bytes (has_length word) are (omega arith))
          (number_here bytes (tunnel_at word) are (omega arith))
          session
          (numbers_here bytes (numbers_at word) (has_numbers word) are (omega arith))
          (offset_here bytes (offset_at word) (has_offset word) are (omega arith));
    }

-- the fields end before the body starts
pub fields_before_body : (word : ℕ) (bytes : List ℕ) → fields_end word ≤ body_at word bytes
fields_before_body word bytes = cond_both (has_offset word) (fields_end word + word_at bytes (offset_at word)) (fields_end word) (λ n. fields_end word ≤ n) (λ _. omega arith) (λ _. omega arith)

-- six bytes at least stand before the body
pub offset_past : (word : ℕ) (bytes : List ℕ) → 6 ≤ body_at word bytes
offset_past word bytes = omega (arith, (places word).0, (places word).1, offset_before_body word bytes)
