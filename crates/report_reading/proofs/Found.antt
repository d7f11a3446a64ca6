-- A line that is read as what was sent is spelled so.
use Rattle.std.proofs.Common.{◌≡◌, ◌⊎◌, ℕ, ◌&&◌, Bool, true, false, cond, leb, List, ◌∷◌, ◌++◌, length, Option, Some, None, Result, Ok, Err, refl, sym, ap, subst, ◌∙◌, arith, inl, inr}
use Rattle.std.specs.Prelude.{codes}
use Rattle.std.specs.Fmt.{decimal}
use Rattle.std.specs.Str.{bytes_eq}
use Rattle.std.proofs.lemmas.Bool.{leb-true, and_parts}
use Rattle.std.proofs.lemmas.Option.{none-some, same_Some}
use Rattle.std.proofs.lemmas.Slice.Eq.{bytes_eq-Decides}
use Rattle.hex.specs.Hex.{decode_of, encode_lower}
use Rattle.hex.specs.declared.error.FromHexError.{FromHexError}
use Rattle.hex.proofs.HexLemmas.{decode_of-ok}
use Rattle.schedule_text.specs.Grammar.{IsNode}
use Rattle.schedule_text.specs.Reading.{◌>>=◌, cut, node_of, bytes_from, bytes_of}
use Rattle.schedule_text.proofs.Numbers.{number_found}
use Rattle.schedule_text.proofs.LineLaws.{cut_found}
use Rattle.report_reading.specs.declared.entry.Entry.{Entry}
use Rattle.report_reading.specs.declared.entry.Entry.TheVariants.{Datagram, Frame, Other}
use Rattle.report_reading.specs.Grammar.{IsCount, IsPayload, IsSpelled}
use Rattle.report_reading.specs.Reading.{count_of, payload_of, packet_words_of, send_of, frame_of, tells_other, told_of, first_words_of, numbered_line_of, is_ending, or_other, line_of}
use Rattle.report_reading.proofs.Again.{regroup_send, regroup_frame}

-- ---- steps that may find nothing

bound : {A B P : Type 0} (o : Option A) (f : A → Option B) (y : B) → (o >>= f) ≡ Some y → ((x : A) → o ≡ Some x → f x ≡ Some y → P) → P
bound None f y e then = absurd (none-some y e)
bound (Some x) f y e then = then x refl e

chosen : {A : Type 0} (b : Bool) (o : Option A) (y : A) → cond b o None ≡ Some y → (b ≡ true) × (o ≡ Some y)
chosen true o y e = (refl, e)
chosen false o y e = absurd (none-some y e)

either : {A : Type 0} (b : Bool) (o p : Option A) (y : A) → cond b o p ≡ Some y → ((b ≡ true) × (o ≡ Some y)) ⊎ (p ≡ Some y)
either true o p y e = inl (refl, e)
either false o p y e = inr e

same_text : (xs ys : List ℕ) → bytes_eq xs ys ≡ true → xs ≡ ys
same_text xs ys e = (bytes_eq-Decides xs ys).0 e

-- ---- words

node_found : (n : ℕ) (word : List ℕ) → node_of word ≡ Some n → (word ≡ decimal n) × IsNode n
node_found n word e = let f = number_found 1 255 n word (omega arith) e in (f.0, (f.1, f.2))

count_found : (n : ℕ) (word : List ℕ) → count_of word ≡ Some n → (word ≡ decimal n) × IsCount n
count_found n word e = let f = number_found 1 4294967295 n word (omega arith) e in (f.0, (f.1, f.2))

-- words that were cut, joined again by a space
cut_words : (words word rest : List ℕ) (n : ℕ) → cut 32 words ≡ Some (word, rest) → word ≡ decimal n → words ≡ decimal n ++ 32 ∷ rest
cut_words words word rest n e f = cut_found 32 words word rest e ∙ ap (λ w. w ++ 32 ∷ rest) f

-- the bytes that a word spells
abbrev IsHex : List ℕ → List ℕ → Type 0
IsHex word bytes = (word ≡ encode_lower bytes) × IsPayload bytes

kept : (word bytes : List ℕ) (r : Result (List ℕ) FromHexError) → decode_of word ≡ r → bytes_from 1 65507 word r ≡ Some bytes → IsHex word bytes
kept word bytes (Err x) d e = absurd (none-some bytes e)
kept word bytes (Ok x) d e =
    let c = chosen _ _ bytes e in
    let p = and_parts (leb 1 (length x) && leb (length x) 65507) (bytes_eq (encode_lower x) word) c.0 in
    let q = and_parts (leb 1 (length x)) (leb (length x) 65507) p.0 in
    let spelled : IsHex word x = (sym (same_text (encode_lower x) word p.1), (leb-true 1 (length x) q.0, leb-true (length x) 65507 q.1, (decode_of-ok word x d).3)) in
    subst (IsHex word) (same_Some x bytes c.1) spelled

payload_found : (word bytes : List ℕ) → payload_of word ≡ Some bytes → IsHex word bytes
unfolding bytes_of
payload_found word bytes e = kept word bytes (decode_of word) refl e

-- ---- lines

-- the words are those of a packet, of its nodes, and of its bytes
record ArePacketWords (words : List ℕ) (said : ℕ × ℕ × ℕ × List ℕ) : Type 0 where
  spelled : words ≡ decimal said.0 ++ 32 ∷ (decimal said.1 ++ 32 ∷ (decimal said.2 ++ 32 ∷ said.3))
  packet : IsCount said.0
  from : IsNode said.1
  to : IsNode said.2

packet_words_found : (words : List ℕ) (said : ℕ × ℕ × ℕ × List ℕ) → packet_words_of words ≡ Some said → ArePacketWords words said
unfolding packet_words_of
packet_words_found words said e =
    bound (cut 32 words) _ said e (λ a ea ha.
    bound (cut 32 a.1) _ said ha (λ b eb hb.
    bound (cut 32 b.1) _ said hb (λ c ec hc.
    bound (count_of a.0) _ said hc (λ packet en hn.
    bound (node_of b.0) _ said hn (λ from em hm.
    bound (node_of c.0) _ said hm (λ to eo ho.
    let p = count_found packet a.0 en in
    let f = node_found from b.0 em in
    let t = node_found to c.0 eo in
    let last = cut_words b.1 c.0 c.1 to ec t.0 in
    let middle = cut_words a.1 b.0 b.1 from eb f.0 ∙ ap (λ x. decimal from ++ 32 ∷ x) last in
    let found : ArePacketWords words (packet, from, to, c.1) =
    record {
      spelled = cut_words words a.0 a.1 packet ea p.0 ∙ ap (λ x. decimal packet ++ 32 ∷ x) middle;
      packet = p.1;
      from = f.1;
      to = t.1;
    } in
    subst (ArePacketWords words) (same_Some (packet, from, to, c.1) said ho) found))))))

send_found : (line : ℕ) (words : List ℕ) (e : Entry) → IsCount line → send_of line words ≡ Some e → IsSpelled e (decimal line ++ 32 ∷ (codes "send" ++ 32 ∷ words))
unfolding send_of
send_found line words e count h =
    bound (packet_words_of words) _ e h (λ said es hs.
    bound (payload_of said.3) _ e hs (λ bytes eb hb.
    let w = packet_words_found words said es in
    let b = payload_found said.3 bytes eb in
    let text : words ≡ decimal said.0 ++ 32 ∷ (decimal said.1 ++ 32 ∷ (decimal said.2 ++ 32 ∷ encode_lower bytes)) =
    w.spelled ∙ ap (λ x. decimal said.0 ++ 32 ∷ (decimal said.1 ++ 32 ∷ (decimal said.2 ++ 32 ∷ x))) b.0 in
    let spelled : IsSpelled (Datagram line said.0 said.1 said.2 bytes) (decimal line ++ 32 ∷ (codes "send" ++ 32 ∷ words)) =
    ((count, w.packet, w.from, w.to, b.1), ap (λ x. decimal line ++ 32 ∷ (codes "send" ++ 32 ∷ x)) text ∙ sym (regroup_send line said.0 said.1 said.2 bytes)) in
    subst (λ x. IsSpelled x (decimal line ++ 32 ∷ (codes "send" ++ 32 ∷ words))) (same_Some (Datagram line said.0 said.1 said.2 bytes) e hb) spelled))

frame_found : (line : ℕ) (words : List ℕ) (e : Entry) → IsCount line → frame_of line words ≡ Some e → IsSpelled e (decimal line ++ 32 ∷ (codes "frame" ++ 32 ∷ words))
unfolding frame_of
frame_found line words e count h =
    bound (cut 32 words) _ e h (λ a ea ha.
    bound (node_of a.0) _ e ha (λ node en hn.
    bound (payload_of a.1) _ e hn (λ bytes eb hb.
    let n = node_found node a.0 en in
    let b = payload_found a.1 bytes eb in
    let text : words ≡ decimal node ++ 32 ∷ encode_lower bytes = cut_words words a.0 a.1 node ea n.0 ∙ ap (λ x. decimal node ++ 32 ∷ x) b.0 in
    let spelled : IsSpelled (Frame line node bytes) (decimal line ++ 32 ∷ (codes "frame" ++ 32 ∷ words)) =
    ((count, n.1, b.1), ap (λ x. decimal line ++ 32 ∷ (codes "frame" ++ 32 ∷ x)) text ∙ sym (regroup_frame line node bytes)) in
    subst (λ x. IsSpelled x (decimal line ++ 32 ∷ (codes "frame" ++ 32 ∷ words))) (same_Some (Frame line node bytes) e hb) spelled)))

other_found : (b : Bool) (e : Entry) (text : List ℕ) → cond b (Some Other) None ≡ Some e → IsSpelled e text
other_found b e text h = subst (λ x. IsSpelled x text) (same_Some Other e (chosen b (Some Other) e h).1) tt

told_found : (line : ℕ) (kind words : List ℕ) (e : Entry) → IsCount line → told_of line kind words ≡ Some e → IsSpelled e (decimal line ++ 32 ∷ (kind ++ 32 ∷ words))
unfolding told_of
told_found line kind words e count h =
    elim (either (bytes_eq kind (codes "send")) (send_of line words) _ e h) [
      | inl a ↦ subst (λ k. IsSpelled e (decimal line ++ 32 ∷ (k ++ 32 ∷ words))) (sym (same_text kind (codes "send") a.0)) (send_found line words e count a.1)
      | inr h1 ↦
          elim (either (bytes_eq kind (codes "frame")) (frame_of line words) _ e h1) [
            | inl a ↦ subst (λ k. IsSpelled e (decimal line ++ 32 ∷ (k ++ 32 ∷ words))) (sym (same_text kind (codes "frame") a.0)) (frame_found line words e count a.1)
            | inr h2 ↦ other_found (tells_other kind words) e _ h2
          ]
    ]

-- the text is that of a number, of a kind, and of the words behind it
record AreFirstWords (text : List ℕ) (said : ℕ × List ℕ × List ℕ) : Type 0 where
  spelled : text ≡ decimal said.0 ++ 32 ∷ (said.1 ++ 32 ∷ said.2)
  count : IsCount said.0

first_words_found : (text : List ℕ) (said : ℕ × List ℕ × List ℕ) → first_words_of text ≡ Some said → AreFirstWords text said
unfolding first_words_of
first_words_found text said e =
    bound (cut 32 text) _ said e (λ a ea ha.
    bound (cut 32 a.1) _ said ha (λ b eb hb.
    bound (count_of a.0) _ said hb (λ line en hn.
    let n = count_found line a.0 en in
    let found : AreFirstWords text (line, b.0, b.1) =
    record {
      spelled = cut_words text a.0 a.1 line ea n.0 ∙ ap (λ x. decimal line ++ 32 ∷ x) (cut_found 32 a.1 b.0 b.1 eb);
      count = n.1;
    } in
    subst (AreFirstWords text) (same_Some (line, b.0, b.1) said hn) found)))

numbered_found : (text : List ℕ) (e : Entry) → numbered_line_of text ≡ Some e → IsSpelled e text
unfolding numbered_line_of
numbered_found text e h =
    bound (first_words_of text) _ e h (λ said es hs.
    let w = first_words_found text said es in
    subst (IsSpelled e) (sym w.spelled) (told_found said.0 said.1 said.2 e w.count hs))

or_found : (o : Option Entry) (b : Bool) (e : Entry) (text : List ℕ) → ((x : Entry) → o ≡ Some x → IsSpelled x text) → or_other o b ≡ Some e → IsSpelled e text
or_found None b e text f h = other_found b e text h
or_found (Some x) b e text f h = f e h

pub line_found : (text : List ℕ) (e : Entry) → line_of text ≡ Some e → IsSpelled e text
unfolding line_of
line_found text e h = or_found (numbered_line_of text) (is_ending text) e text (numbered_found text) h
