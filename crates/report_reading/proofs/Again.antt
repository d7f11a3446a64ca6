-- A line that spells what was sent is read as that.
use Rattle.std.proofs.Common.{◌≡◌, ℕ, ◌+◌, ◌≤◌, true, List, [], ◌∷◌, ◌++◌, length, Some, refl, sym, ap, subst, ◌∙◌, append_assoc, arith}
use Rattle.std.specs.Prelude.{codes}
use Rattle.std.specs.Fmt.{decimal}
use Rattle.std.specs.Str.{bytes_eq}
use Rattle.std.proofs.lemmas.Bool.{le-leb}
use Rattle.std.proofs.lemmas.Slice.Eq.{bytes_eq-Decides}
use Rattle.hex.specs.Hex.{encode_lower, lower_digits}
use Rattle.hex.proofs.HexLemmas.{decode_of-encode_lower}
use Rattle.schedule_text.specs.Grammar.{IsNode}
use Rattle.schedule_text.specs.Reading.{cut, text_lines, node_of, bytes_of}
use Rattle.schedule_text.proofs.Numbers.{number_again}
use Rattle.schedule_text.proofs.LineLaws.{Lacks, cut_again}
use Rattle.schedule_text.proofs.LinesAgain.{number_lacks, hex_lacks, digits_lack_feed}
use Rattle.schedule_text.proofs.TextLaws.{fed_line}
use Rattle.report_reading.specs.declared.entry.Entry.{Entry}
use Rattle.report_reading.specs.declared.entry.Entry.TheVariants.{Datagram, Frame, Other}
use Rattle.report_reading.specs.Grammar.{sent_text, IsCount, IsPayload, FitsSent}
use Rattle.report_reading.specs.Reading.{count_of, payload_of, packet_words_of, send_of, frame_of, told_of, first_words_of, numbered_line_of, line_of, put_front, entries_from}
use Rattle.report_reading.proofs.Entries.{next_is}

-- ---- words

node_again : (n : ℕ) → IsNode n → node_of (decimal n) ≡ Some n
node_again n h = number_again 1 255 n (omega arith) h.0 h.1

count_again : (n : ℕ) → IsCount n → count_of (decimal n) ≡ Some n
count_again n h = number_again 1 4294967295 n (omega arith) h.0 h.1

number_cut : (n : ℕ) (rest : List ℕ) → n ≤ 4294967295 → cut 32 (decimal n ++ 32 ∷ rest) ≡ Some (decimal n, rest)
number_cut n rest h = cut_again 32 (decimal n) rest (number_lacks 32 n (omega arith) (omega arith))

payload_again : (bytes : List ℕ) → IsPayload bytes → payload_of (encode_lower bytes) ≡ Some bytes
unfolding bytes_of
payload_again bytes h =
    let same : bytes_eq (encode_lower bytes) (encode_lower bytes) ≡ true = (bytes_eq-Decides (encode_lower bytes) (encode_lower bytes)).1 refl in
    rw (decode_of-encode_lower bytes h.2, le-leb 1 (length bytes) h.0, le-leb (length bytes) 65507 h.1, same) refl

-- ---- lines

packet_words_again : (packet from to : ℕ) (word : List ℕ) → IsCount packet → IsNode from → IsNode to → packet_words_of (decimal packet ++ 32 ∷ (decimal from ++ 32 ∷ (decimal to ++ 32 ∷ word))) ≡ Some (packet, from, to, word)
unfolding packet_words_of
packet_words_again packet from to word p f t =
    let first = number_cut packet (decimal from ++ 32 ∷ (decimal to ++ 32 ∷ word)) p.1 in
    let second = number_cut from (decimal to ++ 32 ∷ word) (omega arith) in
    let third = number_cut to word (omega arith) in
    rw (first, second, third, count_again packet p, node_again from f, node_again to t) refl

send_again : (line packet from to : ℕ) (bytes : List ℕ) → FitsSent (Datagram line packet from to bytes) → send_of line (decimal packet ++ 32 ∷ (decimal from ++ 32 ∷ (decimal to ++ 32 ∷ encode_lower bytes))) ≡ Some (Datagram line packet from to bytes)
unfolding send_of
send_again line packet from to bytes h =
    rw (packet_words_again packet from to (encode_lower bytes) h.1 h.2 h.3, payload_again bytes h.4) refl

frame_again : (line node : ℕ) (bytes : List ℕ) → FitsSent (Frame line node bytes) → frame_of line (decimal node ++ 32 ∷ encode_lower bytes) ≡ Some (Frame line node bytes)
unfolding frame_of
frame_again line node bytes h =
    let n = h.1 in
    rw (number_cut node (encode_lower bytes) (omega arith), node_again node h.1, payload_again bytes h.2) refl

first_words_again : (line : ℕ) (kind words : List ℕ) → IsCount line → Lacks 32 kind → first_words_of (decimal line ++ 32 ∷ (kind ++ 32 ∷ words)) ≡ Some (line, kind, words)
unfolding first_words_of
first_words_again line kind words h lacks =
    rw (number_cut line (kind ++ 32 ∷ words) h.1, cut_again 32 kind words lacks, count_again line h) refl

-- a line with a number is read as what it tells
told_again : (line : ℕ) (kind words : List ℕ) (e : Entry) → IsCount line → Lacks 32 kind → told_of line kind words ≡ Some e → line_of (decimal line ++ 32 ∷ (kind ++ 32 ∷ words)) ≡ Some e
unfolding line_of numbered_line_of
told_again line kind words e h lacks is =
    let text : List ℕ = decimal line ++ 32 ∷ (kind ++ 32 ∷ words) in
    rw (first_words_again line kind words h lacks, is) refl

send_told : (line : ℕ) (words : List ℕ) → told_of line (codes "send") words ≡ send_of line words
unfolding told_of
send_told line words = refl

frame_told : (line : ℕ) (words : List ℕ) → told_of line (codes "frame") words ≡ frame_of line words
unfolding told_of
frame_told line words = refl

pub regroup_send : (line packet from to : ℕ) (bytes : List ℕ) → sent_text (Datagram line packet from to bytes) ≡ decimal line ++ 32 ∷ (codes "send" ++ 32 ∷ (decimal packet ++ 32 ∷ (decimal from ++ 32 ∷ (decimal to ++ 32 ∷ encode_lower bytes))))
regroup_send line packet from to bytes = simp append_assoc

pub regroup_frame : (line node : ℕ) (bytes : List ℕ) → sent_text (Frame line node bytes) ≡ decimal line ++ 32 ∷ (codes "frame" ++ 32 ∷ (decimal node ++ 32 ∷ encode_lower bytes))
regroup_frame line node bytes = simp append_assoc

pub sent_again : (e : Entry) → FitsSent e → line_of (sent_text e) ≡ Some e
sent_again (Datagram line packet from to bytes) h =
    ap line_of (regroup_send line packet from to bytes)
    ∙ told_again line (codes "send") (decimal packet ++ 32 ∷ (decimal from ++ 32 ∷ (decimal to ++ 32 ∷ encode_lower bytes))) (Datagram line packet from to bytes) h.0 (refl, (refl, (refl, (refl, tt))))
    (send_told line _ ∙ send_again line packet from to bytes h)
sent_again (Frame line node bytes) h =
    ap line_of (regroup_frame line node bytes)
    ∙ told_again line (codes "frame") (decimal node ++ 32 ∷ encode_lower bytes) (Frame line node bytes) h.0 (refl, (refl, (refl, (refl, (refl, tt)))))
    (frame_told line _ ∙ frame_again line node bytes h)
sent_again Other h = absurd h

-- ---- the text

lacks_append : (c : ℕ) (xs ys : List ℕ) → Lacks c xs → Lacks c ys → Lacks c (xs ++ ys)
lacks_append c [] ys h k = k
lacks_append c (x ∷ xs) ys h k = (h.0, lacks_append c xs ys h.1 k)

number_front : (n : ℕ) (rest : List ℕ) → n ≤ 4294967295 → Lacks 10 rest → Lacks 10 (decimal n ++ 32 ∷ rest)
number_front n rest small lacks = lacks_append 10 (decimal n) (32 ∷ rest) (number_lacks 10 n (omega arith) (omega arith)) (refl, lacks)

hex_lacks_feed : (bytes : List ℕ) → Lacks 10 (encode_lower bytes)
hex_lacks_feed bytes = hex_lacks 10 lower_digits bytes refl digits_lack_feed

lacks_feed : (e : Entry) → FitsSent e → Lacks 10 (sent_text e)
lacks_feed (Datagram line packet from to bytes) h =
    let to_word = number_front to (encode_lower bytes) (let t = h.3 in omega arith) (hex_lacks_feed bytes) in
    let from_word = number_front from _ (let f = h.2 in omega arith) to_word in
    let packet_word = number_front packet _ (h.1).1 from_word in
    subst (Lacks 10) (sym (regroup_send line packet from to bytes)) (number_front line _ (h.0).1 (refl, (refl, (refl, (refl, (refl, packet_word))))))
lacks_feed (Frame line node bytes) h =
    let node_word = number_front node (encode_lower bytes) (let n = h.1 in omega arith) (hex_lacks_feed bytes) in
    subst (Lacks 10) (sym (regroup_frame line node bytes)) (number_front line _ (h.0).1 (refl, (refl, (refl, (refl, (refl, (refl, node_word)))))))
lacks_feed Other h = absurd h

-- in front of any other lines
pub text_again : (e : Entry) (number : ℕ) (rest : List ℕ) → FitsSent e → entries_from number (text_lines (sent_text e ++ 10 ∷ rest)) ≡ put_front e (entries_from (number + 1) (text_lines rest))
text_again e number rest h =
    ap (entries_from number) (fed_line (sent_text e) rest (lacks_feed e h))
    ∙ next_is number (sent_text e) (text_lines rest) (Some e) (sent_again e h)
