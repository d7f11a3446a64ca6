-- One line that is spelled is read again.
use Rattle.std.proofs.Common.{◌≡◌, ℕ, ◌^◌, ◌<◌, ◌≤◌, zero, suc, ◌/◌, ◌%◌, slice_index, Bool, true, false, eqb, leb, List, [], ◌∷◌, ◌++◌, length, Option, Some, None, refl, ap, ◌∙◌, append_assoc, arith}
use Rattle.std.specs.Prelude.{codes, IfSome}
use Rattle.std.specs.List.{list_all, AllByRecursion}
use Rattle.std.specs.Char.{is_ascii_digit}
use Rattle.std.specs.Str.{bytes_eq, all_ascii_digits}
use Rattle.std.specs.Fmt.{decimal}
use Rattle.std.proofs.lemmas.Bool.{false≢true, ne_eqb, leb-true, le-leb, and_parts, and_from}
use Rattle.std.proofs.lemmas.Slice.Eq.{bytes_eq-Decides}
use Rattle.std.proofs.lemmas.Fmt.{digits_decimal}
use Rattle.hex.specs.Hex.{encode_lower, encode_with, lower_digits, IsBytes}
use Rattle.hex.proofs.HexLemmas.{decode_of-encode_lower}
use Rattle.schedule_text.specs.declared.line.Line.{Line}
use Rattle.schedule_text.specs.declared.line.Line.TheVariants.{Remark, Lac, Lns, OpenUp, Close, Ring, FromSub, Down, Hang, DropCall, Frame, Deliver, Load, Hand, Tick, Crash, Stop, Start}
use Rattle.schedule_text.specs.Grammar.{call_text, line_text, IsPrintable, IsNode, IsPort, IsSession, IsTunnel, IsFrame, IsEthernet, IsPacket, IsHeld, IsMilliseconds, IsSecret, HasSecret, IsCommit, IsDeviceCall, secret_text, mode_text, kept_text, FitsLine}
use Rattle.schedule_text.specs.Reading.{cut, node_of, bytes_of, frame_of, secret_of, mode_of, mode_words_of, lac_by, lac_of, lns_of, open_of, ring_of, call_of, from_sub_of, down_of, node_session_of, hang_of, drop_of, close_of, frame_line_of, deliver_of, load_of, hand_of, carry_of, tick_of, crash_of, start_of, kept_of, stop_words_of, stop_by, stop_of, fall_of, plain_of, words_of, is_printable, remark_of, line_of}
use Rattle.schedule_text.proofs.Numbers.{own, number_again}
use Rattle.schedule_text.proofs.LineLaws.{Lacks, cut_again, regroup_call, regroup_frame_line, regroup_lac, regroup_stop, regroup_lns}

lacks_byte : (c : ℕ) (ds : List ℕ) → c < 48 → all_ascii_digits ds ≡ true → Lacks c ds
lacks_byte c [] lt e = tt
lacks_byte c (d ∷ ds) lt e =
    let p = and_parts (is_ascii_digit d) (all_ascii_digits ds) e in
    let q = and_parts (leb 48 d) (leb d 57) p.0 in
    (ne_eqb d c (λ f. omega (arith, leb-true 48 d q.0)), lacks_byte c ds lt p.1)

-- digits stand behind the space and the line feed
pub number_lacks : (c n : ℕ) → c < 48 → n < 2 ^ 64 → Lacks c (decimal n)
number_lacks c n lt small = lacks_byte c (decimal n) lt (digits_decimal own n small)

-- no place of a table has the byte, if none of its digits is the byte
digit_lacks : (c : ℕ) (table : List ℕ) (place : ℕ) → eqb 0 c ≡ false → Lacks c table → eqb (slice_index table place) c ≡ false
digit_lacks c [] place z h = z
digit_lacks c (x ∷ xs) zero z h = h.0
digit_lacks c (x ∷ xs) (suc place) z h = digit_lacks c xs place z h.1

pub hex_lacks : (c : ℕ) (table bytes : List ℕ) → eqb 0 c ≡ false → Lacks c table → Lacks c (encode_with table bytes)
unfolding encode_with
hex_lacks c table [] z h = tt
hex_lacks c table (b ∷ bs) z h = (digit_lacks c table (b / 16) z h, (digit_lacks c table (b % 16) z h, hex_lacks c table bs z h))

pub digits_lack_feed : Lacks 10 lower_digits
digits_lack_feed = (refl, (refl, (refl, (refl, (refl, (refl, (refl, (refl, (refl, (refl, (refl, (refl, (refl, (refl, (refl, (refl, tt))))))))))))))))

digits_lack_space : Lacks 32 lower_digits
digits_lack_space = (refl, (refl, (refl, (refl, (refl, (refl, (refl, (refl, (refl, (refl, (refl, (refl, (refl, (refl, (refl, (refl, tt))))))))))))))))

digits_lack_dash : Lacks 45 lower_digits
digits_lack_dash = (refl, (refl, (refl, (refl, (refl, (refl, (refl, (refl, (refl, (refl, (refl, (refl, (refl, (refl, (refl, (refl, tt))))))))))))))))

-- a secret's word has no such byte, where neither the digits are it nor the sign that there is no secret
pub secret_lacks : (c : ℕ) (secret : Option (List ℕ)) → eqb 0 c ≡ false → eqb 45 c ≡ false → Lacks c lower_digits → Lacks c (secret_text secret)
secret_lacks c None z d h = (d, tt)
secret_lacks c (Some s) z d h = hex_lacks c lower_digits s z h

-- what begins with another byte isn't the sign that there is no secret
other_word : (word : List ℕ) → 0 < length word → Lacks 45 word → bytes_eq word (codes "-") ≡ false
other_word [] some h = absurd (omega arith)
other_word (c ∷ cs) some h = rw h.0 refl

no_dash : (secret : List ℕ) → 0 < length secret → bytes_eq (encode_lower secret) (codes "-") ≡ false
unfolding encode_with
no_dash [] some = absurd (omega arith)
no_dash (b ∷ bs) some = other_word (encode_lower (b ∷ bs)) (omega arith) (hex_lacks 45 lower_digits (b ∷ bs) refl digits_lack_dash)

node_again : (n : ℕ) → IsNode n → node_of (decimal n) ≡ Some n
node_again n h = number_again 1 255 n (omega arith) h.0 h.1

node_cut : (n : ℕ) (rest : List ℕ) → IsNode n → cut 32 (decimal n ++ 32 ∷ rest) ≡ Some (decimal n, rest)
node_cut n rest h = cut_again 32 (decimal n) rest (number_lacks 32 n (omega arith) (omega arith))

bytes_again : (least most : ℕ) (bytes : List ℕ) → least ≤ length bytes → length bytes ≤ most → IsBytes bytes → bytes_of least most (encode_lower bytes) ≡ Some bytes
unfolding bytes_of
bytes_again least most bytes low high h =
    let same : bytes_eq (encode_lower bytes) (encode_lower bytes) ≡ true = (bytes_eq-Decides (encode_lower bytes) (encode_lower bytes)).1 refl in
    rw (decode_of-encode_lower bytes h, le-leb least (length bytes) low, le-leb (length bytes) most high, same) refl

-- no table of digits has the sign that there is no secret
secret_again : (secret : Option (List ℕ)) → IfSome secret IsSecret → secret_of (secret_text secret) ≡ Some secret
unfolding secret_of
secret_again None h = refl
secret_again (Some s) h = rw (no_dash s h.0, bytes_again 1 64 s h.0 h.1 h.2) refl

secret_cut : (secret : Option (List ℕ)) (rest : List ℕ) → cut 32 (secret_text secret ++ 32 ∷ rest) ≡ Some (secret_text secret, rest)
secret_cut secret rest = cut_again 32 (secret_text secret) rest (secret_lacks 32 secret refl refl digits_lack_space)

mode_again : (hide : Bool) → mode_of (mode_text hide) ≡ Some hide
mode_again false = refl
mode_again true = refl

mode_words_again : (node lns : ℕ) (secret : Option (List ℕ)) (hide : Bool) → IsNode node → IsNode lns →
    mode_words_of (decimal node ++ 32 ∷ (decimal lns ++ 32 ∷ (secret_text secret ++ 32 ∷ mode_text hide)))
    ≡ Some (node, lns, secret_text secret, hide)
unfolding mode_words_of
mode_words_again node lns secret hide n m =
    let first = node_cut node (decimal lns ++ 32 ∷ (secret_text secret ++ 32 ∷ mode_text hide)) n in
    let second = node_cut lns (secret_text secret ++ 32 ∷ mode_text hide) m in
    rw (first, second, secret_cut secret (mode_text hide), node_again node n, node_again lns m, mode_again hide) refl

-- a line that has a secret, if it hides, is read
lac_by_again : (node lns : ℕ) (secret : Option (List ℕ)) (hide : Bool) → HasSecret hide secret →
    lac_by node lns secret hide ≡ Some (Lac node lns secret hide)
lac_by_again node lns secret false h = refl
lac_by_again node lns None true h = absurd (false≢true (h refl))
lac_by_again node lns (Some s) true h = refl

lac_again : (node lns : ℕ) (secret : Option (List ℕ)) (hide : Bool) → FitsLine (Lac node lns secret hide) →
    lac_of (decimal node ++ 32 ∷ (decimal lns ++ 32 ∷ (secret_text secret ++ 32 ∷ mode_text hide)))
    ≡ Some (Lac node lns secret hide)
unfolding lac_of
lac_again node lns secret hide h =
    rw (mode_words_again node lns secret hide h.0 h.1, secret_again secret h.2, lac_by_again node lns secret hide h.3) refl

lns_again : (node : ℕ) (secret : Option (List ℕ)) → IsNode node → IfSome secret IsSecret → lns_of (decimal node ++ 32 ∷ secret_text secret) ≡ Some (Lns node secret)
unfolding lns_of
lns_again node secret n s = rw (node_cut node (secret_text secret) n, node_again node n, secret_again secret s) refl

ring_again : (node port : ℕ) → IsNode node → IsPort port → ring_of (decimal node ++ 32 ∷ decimal port) ≡ Some (Ring node port)
unfolding ring_of
ring_again node port n p = rw (node_cut node (decimal port) n, node_again node n, number_again 1 65535 port (omega arith) p.0 p.1) refl

node_session_again : (node session : ℕ) → IsNode node → IsSession session → node_session_of (decimal node ++ 32 ∷ decimal session) ≡ Some (node, session)
unfolding node_session_of
node_session_again node session n s = rw (node_cut node (decimal session) n, node_again node n, number_again 1 65535 session (omega arith) s.0 s.1) refl

hang_again : (node session : ℕ) → IsNode node → IsSession session → hang_of (decimal node ++ 32 ∷ decimal session) ≡ Some (Hang node session)
unfolding hang_of
hang_again node session n s = rw (node_session_again node session n s) refl

drop_again : (node session : ℕ) → IsNode node → IsSession session → drop_of (decimal node ++ 32 ∷ decimal session) ≡ Some (DropCall node session)
unfolding drop_of
drop_again node session n s = rw (node_session_again node session n s) refl

close_again : (node tunnel : ℕ) → IsNode node → IsTunnel tunnel → close_of (decimal node ++ 32 ∷ decimal tunnel) ≡ Some (Close node tunnel)
unfolding close_of
close_again node tunnel n s = rw (node_session_again node tunnel n s) refl

kept_again : (kept : Bool) → kept_of (kept_text kept) ≡ Some kept
kept_again false = refl
kept_again true = refl

stop_by_again : (node commit call : ℕ) (kept : Bool) → IsDeviceCall kept call → stop_by node commit call kept ≡ Some (Stop node commit call kept)
stop_by_again node commit call false h = refl
stop_by_again node commit call true h = rw (le-leb 3 call (h.2 refl)) refl

stop_words_again : (node commit call : ℕ) (kept : Bool) → IsNode node → IsCommit commit → IsDeviceCall kept call →
    stop_words_of (decimal node ++ 32 ∷ (decimal commit ++ 32 ∷ (decimal call ++ 32 ∷ kept_text kept))) ≡ Some (node, commit, call, kept)
unfolding stop_words_of
stop_words_again node commit call kept n m c =
    let first = node_cut node (decimal commit ++ 32 ∷ (decimal call ++ 32 ∷ kept_text kept)) n in
    let second : cut 32 (decimal commit ++ 32 ∷ (decimal call ++ 32 ∷ kept_text kept)) ≡ Some (decimal commit, decimal call ++ 32 ∷ kept_text kept) =
    cut_again 32 (decimal commit) (decimal call ++ 32 ∷ kept_text kept) (number_lacks 32 commit (omega arith) (omega arith)) in
    let third : cut 32 (decimal call ++ 32 ∷ kept_text kept) ≡ Some (decimal call, kept_text kept) =
    cut_again 32 (decimal call) (kept_text kept) (number_lacks 32 call (omega arith) (omega arith)) in
    rw (first, second, third, node_again node n, number_again 1 255 commit (omega arith) m.0 m.1, number_again 1 4 call (omega arith) c.0 c.1, kept_again kept) refl

stop_again : (node commit call : ℕ) (kept : Bool) → IsNode node → IsCommit commit → IsDeviceCall kept call →
    stop_of (decimal node ++ 32 ∷ (decimal commit ++ 32 ∷ (decimal call ++ 32 ∷ kept_text kept))) ≡ Some (Stop node commit call kept)
unfolding stop_of
stop_again node commit call kept n m c = rw (stop_words_again node commit call kept n m c, stop_by_again node commit call kept c) refl

load_again : (node packet : ℕ) → IsNode node → IsPacket packet → load_of (decimal node ++ 32 ∷ decimal packet) ≡ Some (Load node packet)
unfolding load_of
load_again node packet n p = rw (node_cut node (decimal packet) n, node_again node n, number_again 1 4294967295 packet (omega arith) p.0 p.1) refl

hand_again : (node number : ℕ) → IsNode node → IsHeld number → hand_of (decimal node ++ 32 ∷ decimal number) ≡ Some (Hand node number)
unfolding hand_of
hand_again node number n p = rw (node_cut node (decimal number) n, node_again node n, number_again 1 4294967295 number (omega arith) p.0 p.1) refl

tick_again : (node milliseconds : ℕ) → IsNode node → IsMilliseconds milliseconds → tick_of (decimal node ++ 32 ∷ decimal milliseconds) ≡ Some (Tick node milliseconds)
unfolding tick_of
tick_again node milliseconds n m = rw (node_cut node (decimal milliseconds) n, node_again node n, number_again 0 86400000 milliseconds (omega arith) (omega arith) m) refl

frame_again : (frame : List ℕ) → IsFrame frame → frame_of (encode_lower frame) ≡ Some frame
frame_again frame h = bytes_again 2 1494 frame h.0 h.1 h.2

call_again : (node session : ℕ) (word : List ℕ) → IsNode node → IsSession session → call_of (decimal node ++ 32 ∷ (decimal session ++ 32 ∷ word)) ≡ Some (node, session, word)
unfolding call_of
call_again node session word n s =
    let second : cut 32 (decimal session ++ 32 ∷ word) ≡ Some (decimal session, word) = cut_again 32 (decimal session) word (number_lacks 32 session (omega arith) (omega arith)) in
    rw (node_cut node (decimal session ++ 32 ∷ word) n, second, node_again node n, number_again 1 65535 session (omega arith) s.0 s.1) refl

from_sub_again : (node session : ℕ) (frame : List ℕ) → IsNode node → IsSession session → IsFrame frame → from_sub_of (call_text node session frame) ≡ Some (FromSub node session frame)
unfolding from_sub_of
from_sub_again node session frame n s f = rw (regroup_call node session frame, call_again node session (encode_lower frame) n s, frame_again frame f) refl

down_again : (node session : ℕ) (frame : List ℕ) → IsNode node → IsSession session → IsFrame frame → down_of (call_text node session frame) ≡ Some (Down node session frame)
unfolding down_of
down_again node session frame n s f = rw (regroup_call node session frame, call_again node session (encode_lower frame) n s, frame_again frame f) refl

frame_line_again : (node : ℕ) (bytes : List ℕ) → IsNode node → IsEthernet bytes → frame_line_of (decimal node ++ 32 ∷ encode_lower bytes) ≡ Some (Frame node bytes)
unfolding frame_line_of
frame_line_again node bytes n h =
    rw (node_cut node (encode_lower bytes) n, node_again node n, bytes_again 1 2048 bytes h.0 h.1 h.2) refl

-- what is printable passes the test
printable_again : (text : List ℕ) → AllByRecursion IsPrintable text → list_all is_printable text ≡ true
printable_again [] h = refl
printable_again (c ∷ cs) h = and_from _ _ (and_from _ _ (le-leb 32 c h.0.0) (le-leb c 126 h.0.1)) (printable_again cs h.1)

-- what is spelled is read
pub line_again : (l : Line) → FitsLine l → line_of (line_text l) ≡ Some l
unfolding line_of words_of plain_of fall_of carry_of remark_of open_of deliver_of crash_of start_of
line_again (Remark text) h = rw (printable_again text h) refl
line_again (Lac node lns secret hide) h = ap lac_of (regroup_lac node lns (secret_text secret) (mode_text hide)) ∙ lac_again node lns secret hide h
line_again (Lns node secret) h = ap lns_of (regroup_lns node (secret_text secret)) ∙ lns_again node secret h.0 h.1
line_again (OpenUp node) h = rw (node_again node h) refl
line_again (Ring node port) h =
    let regrouped : decimal node ++ codes " " ++ decimal port ≡ decimal node ++ 32 ∷ decimal port = simp append_assoc in
    ap ring_of regrouped ∙ ring_again node port h.0 h.1
line_again (FromSub node session frame) h = from_sub_again node session frame h.0 h.1 h.2
line_again (Down node session frame) h = down_again node session frame h.0 h.1 h.2
line_again (Hang node session) h =
    let regrouped : decimal node ++ codes " " ++ decimal session ≡ decimal node ++ 32 ∷ decimal session = simp append_assoc in
    ap hang_of regrouped ∙ hang_again node session h.0 h.1
line_again (DropCall node session) h =
    let regrouped : decimal node ++ codes " " ++ decimal session ≡ decimal node ++ 32 ∷ decimal session = simp append_assoc in
    ap drop_of regrouped ∙ drop_again node session h.0 h.1
line_again (Close node tunnel) h =
    let regrouped : decimal node ++ codes " " ++ decimal tunnel ≡ decimal node ++ 32 ∷ decimal tunnel = simp append_assoc in
    ap close_of regrouped ∙ close_again node tunnel h.0 h.1
line_again (Frame node bytes) h = ap frame_line_of (regroup_frame_line node bytes) ∙ frame_line_again node bytes h.0 h.1
line_again (Deliver packet) h = rw (number_again 1 4294967295 packet (omega arith) h.0 h.1) refl
line_again (Load node packet) h =
    let regrouped : decimal node ++ codes " " ++ decimal packet ≡ decimal node ++ 32 ∷ decimal packet = simp append_assoc in
    ap load_of regrouped ∙ load_again node packet h.0 h.1
line_again (Hand node number) h =
    let regrouped : decimal node ++ codes " " ++ decimal number ≡ decimal node ++ 32 ∷ decimal number = simp append_assoc in
    ap hand_of regrouped ∙ hand_again node number h.0 h.1
line_again (Tick node milliseconds) h =
    let regrouped : decimal node ++ codes " " ++ decimal milliseconds ≡ decimal node ++ 32 ∷ decimal milliseconds = simp append_assoc in
    ap tick_of regrouped ∙ tick_again node milliseconds h.0 h.1
line_again (Crash node) h = rw (node_again node h) refl
line_again (Stop node commit call kept) h = ap stop_of (regroup_stop node commit call (kept_text kept)) ∙ stop_again node commit call kept h.0 h.1 h.2
line_again (Start node) h = rw (node_again node h) refl
