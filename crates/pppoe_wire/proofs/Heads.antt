-- A head that is read is the head that was written, and the other way round.
use Rattle.std.proofs.Common.{◌≡◌, ℕ, ◌+◌, ◌<◌, ◌≤◌, List, [], ◌∷◌, ◌++◌, length, get_or, take, drop, refl, sym, ap, ◌∙◌, arith}
use Rattle.std.proofs.lemmas.Bool.{le-ltb}
use Rattle.std.proofs.lemmas.List.{take-append-drop, length-drop, length-take}
use Rattle.byteorder.specs.Endian.{big_number}
use Rattle.wire_base.specs.Numbers.{u16_bytes}
use Rattle.wire_base.specs.NumberLaws.{AreBytes, number-u16_bytes}
use Rattle.pppoe_wire.specs.Spelling.{Head, head_bytes}
use Rattle.pppoe_wire.specs.Grammar.{HasHead}
use Rattle.pppoe_wire.specs.Reading.{head_at, frame_with, frame_of}
use Rattle.pppoe_wire.proofs.Pieces.{and_next, word_at, word-lt, pair_at}

pub head_there : (bytes : List ℕ) → AreBytes bytes → 20 ≤ length bytes → HasHead bytes (head_at bytes) (drop 20 bytes)
unfolding head_bytes
head_there bytes fits le =
    let dst = sym (take-append-drop 6 bytes) in
    let src = and_next bytes (take 6 bytes) (take 6 (drop 6 bytes)) 6 6 dst refl in
    let ethertype = and_next bytes _ (u16_bytes (big_number 2 (drop 12 bytes))) 2 12 src (word_at bytes 12 fits (omega arith)) in
    let version = and_next bytes _ (get_or bytes 14 0 ∷ get_or bytes 15 0 ∷ []) 2 14 ethertype (pair_at bytes 14 (omega arith)) in
    let session = and_next bytes _ (u16_bytes (big_number 2 (drop 16 bytes))) 2 16 version (word_at bytes 16 fits (omega arith)) in
    record {
      fits = record {
        dst = length-take 6 bytes ∙ omega arith;
        src = length-take 6 (drop 6 bytes) ∙ let l = length-drop 6 bytes in omega arith;
        ethertype = word-lt bytes 12 fits;
        session = word-lt bytes 16 fits;
        said = word-lt bytes 18 fits;
      };
      parts = and_next bytes _ (u16_bytes (big_number 2 (drop 18 bytes))) 2 18 session (word_at bytes 18 fits (omega arith));
    }

abbrev made : List ℕ → List ℕ → ℕ → ℕ → ℕ → ℕ → ℕ → Head
made d s ethertype version code session said = record { dst = d; src = s; ethertype = ethertype; version = version; code = code; session = session; said = said }

pub same_head : (h k : Head) → h.dst ≡ k.dst → h.src ≡ k.src → h.ethertype ≡ k.ethertype → h.version ≡ k.version → h.code ≡ k.code → h.session ≡ k.session → h.said ≡ k.said → h ≡ k
same_head h k a b c d e f g =
    let whole : made h.dst h.src h.ethertype h.version h.code h.session h.said ≡ made k.dst k.src k.ethertype k.version k.code k.session k.said = rw (a, b, c, d, e, f, g) refl in
    whole

-- the head that was written
record Again (bytes : List ℕ) (h : Head) (behind : List ℕ) : Type 0 where
  head : head_at bytes ≡ h
  rest : drop 20 bytes ≡ behind
  len : length bytes ≡ 20 + length behind

again : (d s : List ℕ) (ethertype version code session said : ℕ) (behind : List ℕ) → length d ≡ 6 → length s ≡ 6 → ethertype < 65536 → session < 65536 → said < 65536 → Again (head_bytes (made d s ethertype version code session said) ++ behind) (made d s ethertype version code session said) behind
unfolding head_bytes u16_bytes
again (d0 ∷ d1 ∷ d2 ∷ d3 ∷ d4 ∷ d5 ∷ []) (s0 ∷ s1 ∷ s2 ∷ s3 ∷ s4 ∷ s5 ∷ []) ethertype version code session said behind ld ls le lt lu =
    record {
      head = same_head _ _ refl refl (number-u16_bytes ethertype [] le) refl refl (number-u16_bytes session [] lt) (number-u16_bytes said [] lu);
      rest = refl;
      len = omega arith;
    }
again d s ethertype version code session said behind ld ls le lt lu = absurd (omega arith)

frame_is : (bytes : List ℕ) → 20 ≤ length bytes → frame_of bytes ≡ frame_with (head_at bytes) (drop 20 bytes)
unfolding frame_of
frame_is bytes le = rw (le-ltb (length bytes) 20 le) refl

-- what a head and what is behind it are read as
pub head_again : (bytes : List ℕ) (h : Head) (behind : List ℕ) → HasHead bytes h behind → frame_of bytes ≡ frame_with h behind
head_again bytes h behind has =
    let f = has.fits in
    let a = again h.dst h.src h.ethertype h.version h.code h.session h.said behind f.dst f.src f.ethertype f.session f.said in
    ap frame_of has.parts ∙ frame_is (head_bytes h ++ behind) (let l = a.len in omega arith) ∙ ap (λ (k : Head). frame_with k (drop 20 (head_bytes h ++ behind))) a.head ∙ ap (frame_with h) a.rest
