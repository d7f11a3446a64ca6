-- A line that is read is spelled so.
use Rattle.std.proofs.Common.{◌≡◌, ◌⊎◌, ℕ, ◌≤◌, ◌&&◌, Bool, true, false, cond, eqb, leb, List, [], ◌∷◌, ◌++◌, length, Option, Some, None, Result, Ok, Err, refl, sym, ap, subst, ◌∙◌, append_assoc, arith, inl, inr}
use Rattle.std.specs.Prelude.{codes, not, option_map, IfSome}
use Rattle.std.specs.List.{list_all, AllByRecursion}
use Rattle.std.specs.Str.{bytes_eq}
use Rattle.std.specs.Fmt.{decimal}
use Rattle.std.proofs.lemmas.Bool.{cases_Bool, false≢true, eqb-true, eq-eqb, leb-true, and_parts}
use Rattle.std.proofs.lemmas.Option.{none-some, same_Some}
use Rattle.std.proofs.lemmas.Slice.Eq.{bytes_eq-Decides}
use Rattle.hex.specs.Hex.{decode_of, encode_lower, IsBytes}
use Rattle.hex.specs.declared.error.FromHexError.{FromHexError}
use Rattle.hex.proofs.HexLemmas.{decode_of-ok}
use Rattle.schedule_text.specs.declared.line.Line.{Line}
use Rattle.schedule_text.specs.declared.line.Line.TheVariants.{Remark, Lac, Lns, OpenUp, Close, Ring, FromSub, Down, Hang, DropCall, Frame, Deliver, Load, Hand, Tick, Crash, Stop, Start}
use Rattle.schedule_text.specs.Grammar.{call_text, line_text, IsPrintable, IsNode, IsPort, IsSession, IsFrame, IsEthernet, IsPacket, IsHeld, IsMilliseconds, IsSecret, HasSecret, IsCommit, secret_text, mode_text, kept_text, FitsLine}
use Rattle.schedule_text.specs.Reading.{◌>>=◌, cut, node_of, port_of, session_of, packet_of, held_of, milliseconds_of, bytes_from, bytes_of, frame_of, ethernet_of, secret_of, mode_of, mode_words_of, lac_by, lac_of, lns_of, open_of, ring_of, call_of, from_sub_of, down_of, node_session_of, hang_of, drop_of, close_of, frame_line_of, deliver_of, load_of, hand_of, carry_of, tick_of, crash_of, start_of, commit_of, device_call_of, kept_of, stop_words_of, stop_by, stop_of, fall_of, plain_of, words_of, is_printable, remark_of, line_of}
use Rattle.schedule_text.proofs.Numbers.{own, number_found}

-- ---- parts

-- none of them is the byte
abbrev pub Lacks : ℕ → List ℕ → Type 0
Lacks c xs = AllByRecursion (λ x. eqb x c ≡ false) xs

pub cut_again : (c : ℕ) (xs ys : List ℕ) → Lacks c xs → cut c (xs ++ c ∷ ys) ≡ Some (xs, ys)
cut_again c [] ys h = rw (eq-eqb c c refl) refl
cut_again c (x ∷ xs) ys h = rw (h.0, cut_again c xs ys h.1) refl

-- what was cut, and how
abbrev pub IsCut : ℕ → List ℕ → Option (List ℕ × List ℕ) → Type 0
IsCut c xs None = Lacks c xs
IsCut c xs (Some parts) = (xs ≡ parts.0 ++ c ∷ parts.1) × Lacks c parts.0

cut_further : (c x : ℕ) (xs : List ℕ) (o : Option (List ℕ × List ℕ)) → eqb x c ≡ false → IsCut c xs o → IsCut c (x ∷ xs) (option_map {U = List ℕ × List ℕ} (λ parts. (x ∷ parts.0, parts.1)) o)
cut_further c x xs None e h = (e, h)
cut_further c x xs (Some parts) e h = (ap (λ (t : List ℕ). x ∷ t) h.0, (e, h.1))

pub cut_is : (c : ℕ) (xs : List ℕ) → IsCut c xs (cut c xs)
cut_is c [] = tt
cut_is c (x ∷ xs) =
    elim (cases_Bool (eqb x c)) [
      | inl e ↦ rw e (ap (λ (y : ℕ). y ∷ xs) (eqb-true x c e), tt)
      | inr e ↦ rw e (cut_further c x xs (cut c xs) e (cut_is c xs))
    ]

pub cut_found : (c : ℕ) (xs ys zs : List ℕ) → cut c xs ≡ Some (ys, zs) → xs ≡ ys ++ c ∷ zs
cut_found c xs ys zs e = (subst (IsCut c xs) e (cut_is c xs)).0

-- ---- steps that may find nothing

bound : {A B P : Type 0} (o : Option A) (f : A → Option B) (y : B) → (o >>= f) ≡ Some y → ((x : A) → o ≡ Some x → f x ≡ Some y → P) → P
bound None f y e then = absurd (none-some y e)
bound (Some x) f y e then = then x refl e

chosen : {A : Type 0} (b : Bool) (o : Option A) (y : A) → cond b o None ≡ Some y → (b ≡ true) × (o ≡ Some y)
chosen true o y e = (refl, e)
chosen false o y e = absurd (none-some y e)

either : {A : Type 0} (b : Bool) (o p : Option A) (y : A) → cond b o p ≡ Some y → ((b ≡ true) × (o ≡ Some y)) ⊎ (p ≡ Some y)
either true o p y e = inl (refl, e)
either false o p y e = inr e

same_text : (xs ys : List ℕ) → bytes_eq xs ys ≡ true → xs ≡ ys
same_text xs ys e = (bytes_eq-Decides xs ys).0 e

-- ---- one line that was read

-- the line is in the grammar, and this is its spelling
abbrev pub IsSpelled : Line → List ℕ → Type 0
IsSpelled l bytes = FitsLine l × (bytes ≡ line_text l)

node_found : (n : ℕ) (word : List ℕ) → node_of word ≡ Some n → (word ≡ decimal n) × IsNode n
node_found n word e = let f = number_found 1 255 n word (omega arith) e in (f.0, (f.1, f.2))

port_found : (n : ℕ) (word : List ℕ) → port_of word ≡ Some n → (word ≡ decimal n) × IsPort n
port_found n word e = let f = number_found 1 65535 n word (omega arith) e in (f.0, (f.1, f.2))

session_found : (n : ℕ) (word : List ℕ) → session_of word ≡ Some n → (word ≡ decimal n) × IsSession n
session_found n word e = let f = number_found 1 65535 n word (omega arith) e in (f.0, (f.1, f.2))

packet_found : (n : ℕ) (word : List ℕ) → packet_of word ≡ Some n → (word ≡ decimal n) × IsPacket n
packet_found n word e = let f = number_found 1 4294967295 n word (omega arith) e in (f.0, (f.1, f.2))

held_found : (n : ℕ) (word : List ℕ) → held_of word ≡ Some n → (word ≡ decimal n) × IsHeld n
held_found n word e = let f = number_found 1 4294967295 n word (omega arith) e in (f.0, (f.1, f.2))

milliseconds_found : (n : ℕ) (word : List ℕ) → milliseconds_of word ≡ Some n → (word ≡ decimal n) × IsMilliseconds n
milliseconds_found n word e = let f = number_found 0 86400000 n word (omega arith) e in (f.0, f.2)

-- words that were cut, joined again by a space
cut_words : (words word rest : List ℕ) (n : ℕ) → cut 32 words ≡ Some (word, rest) → word ≡ decimal n → words ≡ decimal n ++ 32 ∷ rest
cut_words words word rest n e f = cut_found 32 words word rest e ∙ ap (λ w. w ++ 32 ∷ rest) f

-- ---- bytes that were read

-- the bytes that a word spells, in so many
abbrev IsHex : ℕ → ℕ → List ℕ → List ℕ → Type 0
IsHex least most word bytes = (word ≡ encode_lower bytes) × ((least ≤ length bytes) × (length bytes ≤ most) × IsBytes bytes)

bytes_kept : (least most : ℕ) (word bytes : List ℕ) (r : Result (List ℕ) FromHexError) → decode_of word ≡ r → bytes_from least most word r ≡ Some bytes → IsHex least most word bytes
bytes_kept least most word bytes (Err x) d e = absurd (none-some bytes e)
bytes_kept least most word bytes (Ok x) d e =
    let c = chosen _ _ bytes e in
    let p = and_parts (leb least (length x) && leb (length x) most) (bytes_eq (encode_lower x) word) c.0 in
    let q = and_parts (leb least (length x)) (leb (length x) most) p.0 in
    let spelled : IsHex least most word x = (sym (same_text (encode_lower x) word p.1), (leb-true least (length x) q.0, leb-true (length x) most q.1, (decode_of-ok word x d).3)) in
    subst (IsHex least most word) (same_Some x bytes c.1) spelled

bytes_found : (least most : ℕ) (word bytes : List ℕ) → bytes_of least most word ≡ Some bytes → IsHex least most word bytes
unfolding bytes_of
bytes_found least most word bytes e = bytes_kept least most word bytes (decode_of word) refl e

-- the word is that of the secret, or says that there is none
abbrev IsSecretWord : List ℕ → Option (List ℕ) → Type 0
IsSecretWord word secret = (word ≡ secret_text secret) × IfSome secret IsSecret

secret_found : (word : List ℕ) (secret : Option (List ℕ)) → secret_of word ≡ Some secret → IsSecretWord word secret
unfolding secret_of
secret_found word secret e =
    elim (either (bytes_eq word (codes "-")) (Some None) _ secret e) [
      | inl a ↦ subst (IsSecretWord word) (same_Some None secret a.1) (same_text word (codes "-") a.0, tt)
      | inr e1 ↦ bound (bytes_of 1 64 word) _ secret e1 (λ bytes eb hb.
          let found : IsSecretWord word (Some bytes) = bytes_found 1 64 word bytes eb in
          subst (IsSecretWord word) (same_Some (Some bytes) secret hb) found)
    ]

-- ---- ends that were read

-- the word of a mode that is read is the one spelling of it
mode_found : (hide : Bool) (word : List ℕ) → mode_of word ≡ Some hide → word ≡ mode_text hide
mode_found hide word e =
    elim (either (bytes_eq word (codes "plain")) (Some false) _ hide e) [
      | inl a ↦ subst (λ b. word ≡ mode_text b) (same_Some false hide a.1) (same_text word (codes "plain") a.0)
      | inr e1 ↦
          let c = chosen _ _ hide e1 in
          subst (λ b. word ≡ mode_text b) (same_Some true hide c.1) (same_text word (codes "hide") c.0)
    ]

-- the words are those of a LAC, of its LNS, of their secret, and of the mode
record AreModeWords (words : List ℕ) (said : ℕ × ℕ × List ℕ × Bool) : Type 0 where
  spelled : words ≡ decimal said.0 ++ 32 ∷ (decimal said.1 ++ 32 ∷ (said.2 ++ 32 ∷ mode_text said.3))
  node : IsNode said.0
  lns : IsNode said.1

mode_words_found : (words : List ℕ) (said : ℕ × ℕ × List ℕ × Bool) → mode_words_of words ≡ Some said → AreModeWords words said
unfolding mode_words_of
mode_words_found words said e =
    bound (cut 32 words) _ said e (λ a ea ha.
    bound (cut 32 a.1) _ said ha (λ b eb hb.
    bound (cut 32 b.1) _ said hb (λ c ec hc.
    bound (node_of a.0) _ said hc (λ node en hn.
    bound (node_of b.0) _ said hn (λ lns em hm.
    bound (mode_of c.1) _ said hm (λ hide eo ho.
    let n = node_found node a.0 en in
    let m = node_found lns b.0 em in
    let mode : b.1 ≡ c.0 ++ 32 ∷ mode_text hide = cut_found 32 b.1 c.0 c.1 ec ∙ ap (λ t. c.0 ++ 32 ∷ t) (mode_found hide c.1 eo) in
    let tail = cut_words a.1 b.0 b.1 lns eb m.0 ∙ ap (λ t. decimal lns ++ 32 ∷ t) mode in
    let found : AreModeWords words (node, lns, c.0, hide) =
    record {
      spelled = cut_words words a.0 a.1 node ea n.0 ∙ ap (λ t. decimal node ++ 32 ∷ t) tail;
      node = n.1;
      lns = m.1;
    } in
    subst (AreModeWords words) (same_Some (node, lns, c.0, hide) said ho) found))))))

-- a line that is read has a secret, if it hides
lac_by_found : (node lns : ℕ) (secret : Option (List ℕ)) (hide : Bool) (l : Line) →
    lac_by node lns secret hide ≡ Some l → HasSecret hide secret × (Lac node lns secret hide ≡ l)
lac_by_found node lns secret false l e = (λ t. absurd (false≢true t), same_Some (Lac node lns secret false) l e)
lac_by_found node lns None true l e = absurd (none-some l e)
lac_by_found node lns (Some s) true l e = (λ t. refl, same_Some (Lac node lns (Some s) true) l e)

-- the same bytes, as words that are cut in turn
pub regroup_lac : (node lns : ℕ) (secret mode : List ℕ) →
    decimal node ++ codes " " ++ decimal lns ++ codes " " ++ secret ++ codes " " ++ mode
    ≡ decimal node ++ 32 ∷ (decimal lns ++ 32 ∷ (secret ++ 32 ∷ mode))
regroup_lac node lns secret mode = simp append_assoc

pub regroup_lns : (node : ℕ) (secret : List ℕ) → decimal node ++ codes " " ++ secret ≡ decimal node ++ 32 ∷ secret
regroup_lns node secret = simp append_assoc

lac_found : (words : List ℕ) (l : Line) → lac_of words ≡ Some l → IsSpelled l (codes "lac " ++ words)
unfolding lac_of
lac_found words l e =
    bound (mode_words_of words) _ l e (λ said em hm.
    bound (secret_of said.2) _ l hm (λ secret es hs.
    let m = mode_words_found words said em in
    let s = secret_found said.2 secret es in
    let by = lac_by_found said.0 said.1 secret said.3 l hs in
    let text : words ≡ decimal said.0 ++ codes " " ++ decimal said.1 ++ codes " " ++ secret_text secret ++ codes " " ++ mode_text said.3 =
    m.spelled ∙ ap (λ t. decimal said.0 ++ 32 ∷ (decimal said.1 ++ 32 ∷ (t ++ 32 ∷ mode_text said.3))) s.0
    ∙ sym (regroup_lac said.0 said.1 (secret_text secret) (mode_text said.3)) in
    let spelled : IsSpelled (Lac said.0 said.1 secret said.3) (codes "lac " ++ words) = ((m.node, m.lns, s.1, by.0), ap (λ t. codes "lac " ++ t) text) in
    subst (λ x. IsSpelled x (codes "lac " ++ words)) by.1 spelled))

lns_found : (words : List ℕ) (l : Line) → lns_of words ≡ Some l → IsSpelled l (codes "lns " ++ words)
unfolding lns_of
lns_found words l e =
    bound (cut 32 words) _ l e (λ a ea ha.
    bound (node_of a.0) _ l ha (λ node en hn.
    bound (secret_of a.1) _ l hn (λ secret es hs.
    let n = node_found node a.0 en in
    let s = secret_found a.1 secret es in
    let text : words ≡ decimal node ++ codes " " ++ secret_text secret = cut_words words a.0 a.1 node ea n.0 ∙ ap (λ t. decimal node ++ 32 ∷ t) s.0 ∙ sym (regroup_lns node (secret_text secret)) in
    let spelled : IsSpelled (Lns node secret) (codes "lns " ++ words) = ((n.1, s.1), ap (λ t. codes "lns " ++ t) text) in
    subst (λ x. IsSpelled x (codes "lns " ++ words)) (same_Some (Lns node secret) l hs) spelled)))

open_found : (words : List ℕ) (l : Line) → open_of words ≡ Some l → IsSpelled l (codes "open " ++ words)
unfolding open_of
open_found words l e =
    bound (node_of words) _ l e (λ node en hn.
    let n = node_found node words en in
    let spelled : IsSpelled (OpenUp node) (codes "open " ++ words) = (n.1, ap (λ t. codes "open " ++ t) n.0) in
    subst (λ x. IsSpelled x (codes "open " ++ words)) (same_Some (OpenUp node) l hn) spelled)

ring_found : (words : List ℕ) (l : Line) → ring_of words ≡ Some l → IsSpelled l (codes "ring " ++ words)
unfolding ring_of
ring_found words l e =
    bound (cut 32 words) _ l e (λ a ea ha.
    bound (node_of a.0) _ l ha (λ node en hn.
    bound (port_of a.1) _ l hn (λ port ep hp.
    let n = node_found node a.0 en in
    let p = port_found port a.1 ep in
    let tail : words ≡ decimal node ++ 32 ∷ decimal port = cut_words words a.0 a.1 node ea n.0 ∙ ap (λ t. decimal node ++ 32 ∷ t) p.0 in
    let spelled : IsSpelled (Ring node port) (codes "ring " ++ words) = ((n.1, p.1), rw tail (simp append_assoc)) in
    subst (λ x. IsSpelled x (codes "ring " ++ words)) (same_Some (Ring node port) l hp) spelled)))

-- ---- a frame of a call that was read

frame_found : (word frame : List ℕ) → frame_of word ≡ Some frame → (word ≡ encode_lower frame) × IsFrame frame
frame_found word frame e = bytes_found 2 1494 word frame e

-- the words are those of the call
record IsCall (words : List ℕ) (call : ℕ × ℕ × List ℕ) : Type 0 where
  spelled : words ≡ decimal call.0 ++ 32 ∷ (decimal call.1 ++ 32 ∷ call.2)
  node : IsNode call.0
  session : IsSession call.1

call_found : (words : List ℕ) (call : ℕ × ℕ × List ℕ) → call_of words ≡ Some call → IsCall words call
unfolding call_of
call_found words call e =
    bound (cut 32 words) _ call e (λ a ea ha.
    bound (cut 32 a.1) _ call ha (λ b eb hb.
    bound (node_of a.0) _ call hb (λ node en hn.
    bound (session_of b.0) _ call hn (λ session es hs.
    let n = node_found node a.0 en in
    let s = session_found session b.0 es in
    let tail = cut_words a.1 b.0 b.1 session eb s.0 in
    let found : IsCall words (node, session, b.1) =
    record {
      spelled = cut_words words a.0 a.1 node ea n.0 ∙ ap (λ t. decimal node ++ 32 ∷ t) tail;
      node = n.1;
      session = s.1;
    } in
    subst (IsCall words) (same_Some (node, session, b.1) call hs) found))))

-- the same bytes, as words that are cut in turn
pub regroup_call : (node session : ℕ) (frame : List ℕ) → call_text node session frame ≡ decimal node ++ 32 ∷ (decimal session ++ 32 ∷ encode_lower frame)
regroup_call node session frame = simp append_assoc

-- a call and the spelling of its frame
call_spelled : (words : List ℕ) (call : ℕ × ℕ × List ℕ) (frame : List ℕ) → IsCall words call → call.2 ≡ encode_lower frame → words ≡ call_text call.0 call.1 frame
call_spelled words call frame h e =
    h.spelled ∙ ap (λ t. decimal call.0 ++ 32 ∷ (decimal call.1 ++ 32 ∷ t)) e ∙ sym (regroup_call call.0 call.1 frame)

from_sub_found : (words : List ℕ) (l : Line) → from_sub_of words ≡ Some l → IsSpelled l (codes "data " ++ words)
unfolding from_sub_of
from_sub_found words l e =
    bound (call_of words) _ l e (λ call ec hc.
    bound (frame_of call.2) _ l hc (λ frame ef hf.
    let k = call_found words call ec in
    let f = frame_found call.2 frame ef in
    let spelled : IsSpelled (FromSub call.0 call.1 frame) (codes "data " ++ words) = ((k.node, k.session, f.1), ap (λ t. codes "data " ++ t) (call_spelled words call frame k f.0)) in
    subst (λ x. IsSpelled x (codes "data " ++ words)) (same_Some (FromSub call.0 call.1 frame) l hf) spelled))

down_found : (words : List ℕ) (l : Line) → down_of words ≡ Some l → IsSpelled l (codes "down " ++ words)
unfolding down_of
down_found words l e =
    bound (call_of words) _ l e (λ call ec hc.
    bound (frame_of call.2) _ l hc (λ frame ef hf.
    let k = call_found words call ec in
    let f = frame_found call.2 frame ef in
    let spelled : IsSpelled (Down call.0 call.1 frame) (codes "down " ++ words) = ((k.node, k.session, f.1), ap (λ t. codes "down " ++ t) (call_spelled words call frame k f.0)) in
    subst (λ x. IsSpelled x (codes "down " ++ words)) (same_Some (Down call.0 call.1 frame) l hf) spelled))

-- ---- a call alone that was read

-- the words are those of the node and of the session
record IsNodeSession (words : List ℕ) (call : ℕ × ℕ) : Type 0 where
  spelled : words ≡ decimal call.0 ++ 32 ∷ decimal call.1
  node : IsNode call.0
  session : IsSession call.1

node_session_found : (words : List ℕ) (call : ℕ × ℕ) → node_session_of words ≡ Some call → IsNodeSession words call
unfolding node_session_of
node_session_found words call e =
    bound (cut 32 words) _ call e (λ a ea ha.
    bound (node_of a.0) _ call ha (λ node en hn.
    bound (session_of a.1) _ call hn (λ session es hs.
    let n = node_found node a.0 en in
    let s = session_found session a.1 es in
    let found : IsNodeSession words (node, session) =
    record {
      spelled = cut_words words a.0 a.1 node ea n.0 ∙ ap (λ t. decimal node ++ 32 ∷ t) s.0;
      node = n.1;
      session = s.1;
    } in
    subst (IsNodeSession words) (same_Some (node, session) call hs) found)))

hang_found : (words : List ℕ) (l : Line) → hang_of words ≡ Some l → IsSpelled l (codes "hang " ++ words)
unfolding hang_of
hang_found words l e =
    bound (node_session_of words) _ l e (λ call ec hc.
    let k = node_session_found words call ec in
    let spelled : IsSpelled (Hang call.0 call.1) (codes "hang " ++ words) = ((k.node, k.session), rw k.spelled (simp append_assoc)) in
    subst (λ x. IsSpelled x (codes "hang " ++ words)) (same_Some (Hang call.0 call.1) l hc) spelled)

drop_found : (words : List ℕ) (l : Line) → drop_of words ≡ Some l → IsSpelled l (codes "drop " ++ words)
unfolding drop_of
drop_found words l e =
    bound (node_session_of words) _ l e (λ call ec hc.
    let k = node_session_found words call ec in
    let spelled : IsSpelled (DropCall call.0 call.1) (codes "drop " ++ words) = ((k.node, k.session), rw k.spelled (simp append_assoc)) in
    subst (λ x. IsSpelled x (codes "drop " ++ words)) (same_Some (DropCall call.0 call.1) l hc) spelled)

close_found : (words : List ℕ) (l : Line) → close_of words ≡ Some l → IsSpelled l (codes "close " ++ words)
unfolding close_of
close_found words l e =
    bound (node_session_of words) _ l e (λ call ec hc.
    let k = node_session_found words call ec in
    let spelled : IsSpelled (Close call.0 call.1) (codes "close " ++ words) = ((k.node, k.session), rw k.spelled (simp append_assoc)) in
    subst (λ x. IsSpelled x (codes "close " ++ words)) (same_Some (Close call.0 call.1) l hc) spelled)

-- ---- an Ethernet frame that was read

ethernet_found : (word bytes : List ℕ) → ethernet_of word ≡ Some bytes → (word ≡ encode_lower bytes) × IsEthernet bytes
ethernet_found word bytes e = bytes_found 1 2048 word bytes e

-- the same bytes, as words that are cut in turn
pub regroup_frame_line : (node : ℕ) (bytes : List ℕ) → decimal node ++ codes " " ++ encode_lower bytes ≡ decimal node ++ 32 ∷ encode_lower bytes
regroup_frame_line node bytes = simp append_assoc

frame_line_found : (words : List ℕ) (l : Line) → frame_line_of words ≡ Some l → IsSpelled l (codes "frame " ++ words)
unfolding frame_line_of
frame_line_found words l e =
    bound (cut 32 words) _ l e (λ a ea ha.
    bound (node_of a.0) _ l ha (λ node en hn.
    bound (ethernet_of a.1) _ l hn (λ bytes eb hb.
    let n = node_found node a.0 en in
    let b = ethernet_found a.1 bytes eb in
    let text : words ≡ decimal node ++ codes " " ++ encode_lower bytes = cut_words words a.0 a.1 node ea n.0 ∙ ap (λ t. decimal node ++ 32 ∷ t) b.0 ∙ sym (regroup_frame_line node bytes) in
    let spelled : IsSpelled (Frame node bytes) (codes "frame " ++ words) = ((n.1, b.1), ap (λ t. codes "frame " ++ t) text) in
    subst (λ x. IsSpelled x (codes "frame " ++ words)) (same_Some (Frame node bytes) l hb) spelled)))

-- ---- other lines that were read

deliver_found : (words : List ℕ) (l : Line) → deliver_of words ≡ Some l → IsSpelled l (codes "deliver " ++ words)
unfolding deliver_of
deliver_found words l e =
    bound (packet_of words) _ l e (λ packet ep hp.
    let p = packet_found packet words ep in
    let spelled : IsSpelled (Deliver packet) (codes "deliver " ++ words) = (p.1, ap (λ t. codes "deliver " ++ t) p.0) in
    subst (λ x. IsSpelled x (codes "deliver " ++ words)) (same_Some (Deliver packet) l hp) spelled)

tick_found : (words : List ℕ) (l : Line) → tick_of words ≡ Some l → IsSpelled l (codes "tick " ++ words)
unfolding tick_of
tick_found words l e =
    bound (cut 32 words) _ l e (λ a ea ha.
    bound (node_of a.0) _ l ha (λ node en hn.
    bound (milliseconds_of a.1) _ l hn (λ milliseconds em hm.
    let n = node_found node a.0 en in
    let m = milliseconds_found milliseconds a.1 em in
    let tail : words ≡ decimal node ++ 32 ∷ decimal milliseconds = cut_words words a.0 a.1 node ea n.0 ∙ ap (λ t. decimal node ++ 32 ∷ t) m.0 in
    let spelled : IsSpelled (Tick node milliseconds) (codes "tick " ++ words) = ((n.1, m.1), rw tail (simp append_assoc)) in
    subst (λ x. IsSpelled x (codes "tick " ++ words)) (same_Some (Tick node milliseconds) l hm) spelled)))

-- ---- frames that are carried in two steps, as they were read

load_found : (words : List ℕ) (l : Line) → load_of words ≡ Some l → IsSpelled l (codes "load " ++ words)
unfolding load_of
load_found words l e =
    bound (cut 32 words) _ l e (λ a ea ha.
    bound (node_of a.0) _ l ha (λ node en hn.
    bound (packet_of a.1) _ l hn (λ packet ep hp.
    let n = node_found node a.0 en in
    let p = packet_found packet a.1 ep in
    let tail : words ≡ decimal node ++ 32 ∷ decimal packet = cut_words words a.0 a.1 node ea n.0 ∙ ap (λ t. decimal node ++ 32 ∷ t) p.0 in
    let spelled : IsSpelled (Load node packet) (codes "load " ++ words) = ((n.1, p.1), rw tail (simp append_assoc)) in
    subst (λ x. IsSpelled x (codes "load " ++ words)) (same_Some (Load node packet) l hp) spelled)))

hand_found : (words : List ℕ) (l : Line) → hand_of words ≡ Some l → IsSpelled l (codes "hand " ++ words)
unfolding hand_of
hand_found words l e =
    bound (cut 32 words) _ l e (λ a ea ha.
    bound (node_of a.0) _ l ha (λ node en hn.
    bound (held_of a.1) _ l hn (λ number ep hp.
    let n = node_found node a.0 en in
    let p = held_found number a.1 ep in
    let tail : words ≡ decimal node ++ 32 ∷ decimal number = cut_words words a.0 a.1 node ea n.0 ∙ ap (λ t. decimal node ++ 32 ∷ t) p.0 in
    let spelled : IsSpelled (Hand node number) (codes "hand " ++ words) = ((n.1, p.1), rw tail (simp append_assoc)) in
    subst (λ x. IsSpelled x (codes "hand " ++ words)) (same_Some (Hand node number) l hp) spelled)))

-- ---- crashes, stops and starts that were read

crash_found : (words : List ℕ) (l : Line) → crash_of words ≡ Some l → IsSpelled l (codes "crash " ++ words)
unfolding crash_of
crash_found words l e =
    bound (node_of words) _ l e (λ node en hn.
    let n = node_found node words en in
    let spelled : IsSpelled (Crash node) (codes "crash " ++ words) = (n.1, ap (λ t. codes "crash " ++ t) n.0) in
    subst (λ x. IsSpelled x (codes "crash " ++ words)) (same_Some (Crash node) l hn) spelled)

start_found : (words : List ℕ) (l : Line) → start_of words ≡ Some l → IsSpelled l (codes "start " ++ words)
unfolding start_of
start_found words l e =
    bound (node_of words) _ l e (λ node en hn.
    let n = node_found node words en in
    let spelled : IsSpelled (Start node) (codes "start " ++ words) = (n.1, ap (λ t. codes "start " ++ t) n.0) in
    subst (λ x. IsSpelled x (codes "start " ++ words)) (same_Some (Start node) l hn) spelled)

commit_found : (n : ℕ) (word : List ℕ) → commit_of word ≡ Some n → (word ≡ decimal n) × IsCommit n
commit_found n word e = let f = number_found 1 255 n word (omega arith) e in (f.0, (f.1, f.2))

device_call_found : (n : ℕ) (word : List ℕ) → device_call_of word ≡ Some n → (word ≡ decimal n) × (1 ≤ n) × (n ≤ 4)
device_call_found n word e = number_found 1 4 n word (omega arith) e

-- the word is the one spelling of what is said of a record
kept_found : (kept : Bool) (word : List ℕ) → kept_of word ≡ Some kept → word ≡ kept_text kept
kept_found kept word e =
    elim (either (bytes_eq word (codes "kept")) (Some true) _ kept e) [
      | inl a ↦ subst (λ b. word ≡ kept_text b) (same_Some true kept a.1) (same_text word (codes "kept") a.0)
      | inr e1 ↦
          let c = chosen _ _ kept e1 in
          subst (λ b. word ≡ kept_text b) (same_Some false kept c.1) (same_text word (codes "lost") c.0)
    ]

-- the words are those of a node, of a commit, of a call, and of what is said of the record
record AreStopWords (words : List ℕ) (said : ℕ × ℕ × ℕ × Bool) : Type 0 where
  spelled : words ≡ decimal said.0 ++ 32 ∷ (decimal said.1 ++ 32 ∷ (decimal said.2 ++ 32 ∷ kept_text said.3))
  node : IsNode said.0
  commit : IsCommit said.1
  least : 1 ≤ said.2
  most : said.2 ≤ 4

stop_words_found : (words : List ℕ) (said : ℕ × ℕ × ℕ × Bool) → stop_words_of words ≡ Some said → AreStopWords words said
unfolding stop_words_of
stop_words_found words said e =
    bound (cut 32 words) _ said e (λ a ea ha.
    bound (cut 32 a.1) _ said ha (λ b eb hb.
    bound (cut 32 b.1) _ said hb (λ c ec hc.
    bound (node_of a.0) _ said hc (λ node en hn.
    bound (commit_of b.0) _ said hn (λ commit em hm.
    bound (device_call_of c.0) _ said hm (λ call el hl.
    bound (kept_of c.1) _ said hl (λ kept ek hk.
    let n = node_found node a.0 en in
    let m = commit_found commit b.0 em in
    let l = device_call_found call c.0 el in
    let last : b.1 ≡ decimal call ++ 32 ∷ kept_text kept =
    cut_words b.1 c.0 c.1 call ec l.0 ∙ ap (λ t. decimal call ++ 32 ∷ t) (kept_found kept c.1 ek) in
    let tail = cut_words a.1 b.0 b.1 commit eb m.0 ∙ ap (λ t. decimal commit ++ 32 ∷ t) last in
    let found : AreStopWords words (node, commit, call, kept) =
    record {
      spelled = cut_words words a.0 a.1 node ea n.0 ∙ ap (λ t. decimal node ++ 32 ∷ t) tail;
      node = n.1;
      commit = m.1;
      least = l.1;
      most = l.2;
    } in
    subst (AreStopWords words) (same_Some (node, commit, call, kept) said hk) found)))))))

-- a record that is kept has its gate
stop_by_found : (node commit call : ℕ) (kept : Bool) (l : Line) → stop_by node commit call kept ≡ Some l
    → (kept ≡ true → 3 ≤ call) × (Stop node commit call kept ≡ l)
stop_by_found node commit call false l e = (λ t. absurd (false≢true t), same_Some (Stop node commit call false) l e)
stop_by_found node commit call true l e = by (leb 3 call) refl e
  where
    by : (b : Bool) → leb 3 call ≡ b → cond (not b) None (Some (Stop node commit call true)) ≡ Some l
        → (true ≡ true → 3 ≤ call) × (Stop node commit call true ≡ l)
    by true is h = (λ t. leb-true 3 call is, same_Some (Stop node commit call true) l h)
    by false is h = absurd (none-some l h)

-- the same bytes, as words that are cut in turn
pub regroup_stop : (node commit call : ℕ) (kept : List ℕ) →
    decimal node ++ codes " " ++ decimal commit ++ codes " " ++ decimal call ++ codes " " ++ kept
    ≡ decimal node ++ 32 ∷ (decimal commit ++ 32 ∷ (decimal call ++ 32 ∷ kept))
regroup_stop node commit call kept = simp append_assoc

stop_found : (words : List ℕ) (l : Line) → stop_of words ≡ Some l → IsSpelled l (codes "stop " ++ words)
unfolding stop_of
stop_found words l e =
    bound (stop_words_of words) _ l e (λ said es hs.
    let m = stop_words_found words said es in
    let by = stop_by_found said.0 said.1 said.2 said.3 l hs in
    let text = m.spelled ∙ sym (regroup_stop said.0 said.1 said.2 (kept_text said.3)) in
    let spelled : IsSpelled (Stop said.0 said.1 said.2 said.3) (codes "stop " ++ words) =
    ((m.node, m.commit, (m.least, m.most, by.0)), ap (λ t. codes "stop " ++ t) text) in
    subst (λ x. IsSpelled x (codes "stop " ++ words)) by.1 spelled)

-- a kind's own line, where the words are behind its word
kind_spelled : (kind name words : List ℕ) (l : Line) → bytes_eq kind name ≡ true → IsSpelled l (name ++ 32 ∷ words) → IsSpelled l (kind ++ 32 ∷ words)
kind_spelled kind name words l e h = subst (λ k. IsSpelled l (k ++ 32 ∷ words)) (sym (same_text kind name e)) h

carry_found : (kind words : List ℕ) (l : Line) → carry_of kind words ≡ Some l → IsSpelled l (kind ++ 32 ∷ words)
unfolding carry_of
carry_found kind words l e =
    elim (either (bytes_eq kind (codes "load")) (load_of words) _ l e) [
      | inl a ↦ kind_spelled kind (codes "load") words l a.0 (load_found words l a.1)
      | inr e1 ↦ elim (either (bytes_eq kind (codes "hand")) (hand_of words) _ l e1) [
        | inl a ↦ kind_spelled kind (codes "hand") words l a.0 (hand_found words l a.1)
        | inr e2 ↦ absurd (none-some l e2)
      ]
    ]

fall_found : (kind words : List ℕ) (l : Line) → fall_of kind words ≡ Some l → IsSpelled l (kind ++ 32 ∷ words)
unfolding fall_of
fall_found kind words l e =
    elim (either (bytes_eq kind (codes "crash")) (crash_of words) _ l e) [
      | inl a ↦ kind_spelled kind (codes "crash") words l a.0 (crash_found words l a.1)
      | inr e1 ↦ elim (either (bytes_eq kind (codes "stop")) (stop_of words) _ l e1) [
        | inl a ↦ kind_spelled kind (codes "stop") words l a.0 (stop_found words l a.1)
        | inr e2 ↦ elim (either (bytes_eq kind (codes "start")) (start_of words) _ l e2) [
          | inl a ↦ kind_spelled kind (codes "start") words l a.0 (start_found words l a.1)
          | inr e3 ↦ carry_found kind words l e3
        ]
      ]
    ]

plain_found : (kind words : List ℕ) (l : Line) → plain_of kind words ≡ Some l → IsSpelled l (kind ++ 32 ∷ words)
unfolding plain_of
plain_found kind words l e =
    elim (either (bytes_eq kind (codes "open")) (open_of words) _ l e) [
      | inl a ↦ kind_spelled kind (codes "open") words l a.0 (open_found words l a.1)
      | inr e1 ↦ elim (either (bytes_eq kind (codes "ring")) (ring_of words) _ l e1) [
        | inl a ↦ kind_spelled kind (codes "ring") words l a.0 (ring_found words l a.1)
        | inr e2 ↦ elim (either (bytes_eq kind (codes "hang")) (hang_of words) _ l e2) [
          | inl a ↦ kind_spelled kind (codes "hang") words l a.0 (hang_found words l a.1)
          | inr e3 ↦ elim (either (bytes_eq kind (codes "drop")) (drop_of words) _ l e3) [
            | inl a ↦ kind_spelled kind (codes "drop") words l a.0 (drop_found words l a.1)
            | inr e4 ↦ elim (either (bytes_eq kind (codes "close")) (close_of words) _ l e4) [
              | inl a ↦ kind_spelled kind (codes "close") words l a.0 (close_found words l a.1)
              | inr e5 ↦ elim (either (bytes_eq kind (codes "deliver")) (deliver_of words) _ l e5) [
                | inl a ↦ kind_spelled kind (codes "deliver") words l a.0 (deliver_found words l a.1)
                | inr e6 ↦ elim (either (bytes_eq kind (codes "tick")) (tick_of words) _ l e6) [
                  | inl a ↦ kind_spelled kind (codes "tick") words l a.0 (tick_found words l a.1)
                  | inr e7 ↦ fall_found kind words l e7
                ]
              ]
            ]
          ]
        ]
      ]
    ]

words_found : (kind words : List ℕ) (l : Line) → words_of kind words ≡ Some l → IsSpelled l (kind ++ 32 ∷ words)
unfolding words_of
words_found kind words l e =
    elim (either (bytes_eq kind (codes "lac")) (lac_of words) _ l e) [
      | inl a ↦ kind_spelled kind (codes "lac") words l a.0 (lac_found words l a.1)
      | inr e1 ↦ elim (either (bytes_eq kind (codes "lns")) (lns_of words) _ l e1) [
        | inl a ↦ kind_spelled kind (codes "lns") words l a.0 (lns_found words l a.1)
        | inr e2 ↦ elim (either (bytes_eq kind (codes "data")) (from_sub_of words) _ l e2) [
          | inl a ↦ kind_spelled kind (codes "data") words l a.0 (from_sub_found words l a.1)
          | inr e3 ↦ elim (either (bytes_eq kind (codes "down")) (down_of words) _ l e3) [
            | inl a ↦ kind_spelled kind (codes "down") words l a.0 (down_found words l a.1)
            | inr e4 ↦ elim (either (bytes_eq kind (codes "frame")) (frame_line_of words) _ l e4) [
              | inl a ↦ kind_spelled kind (codes "frame") words l a.0 (frame_line_found words l a.1)
              | inr e5 ↦ plain_found kind words l e5
            ]
          ]
        ]
      ]
    ]

printable_found : (text : List ℕ) → list_all is_printable text ≡ true → AllByRecursion IsPrintable text
printable_found [] e = tt
printable_found (c ∷ cs) e =
    let p = and_parts (is_printable c) (list_all is_printable cs) e in
    let q = and_parts (leb 32 c) (leb c 126) p.0 in
    ((leb-true 32 c q.0, leb-true c 126 q.1), printable_found cs p.1)

remark_found : (text : List ℕ) (l : Line) → remark_of text ≡ Some l → IsSpelled l (35 ∷ text)
unfolding remark_of
remark_found text l e =
    let c = chosen _ _ l e in
    let spelled : IsSpelled (Remark text) (35 ∷ text) = (printable_found text c.0, refl) in
    subst (λ x. IsSpelled x (35 ∷ text)) (same_Some (Remark text) l c.1) spelled

-- what is read is spelled so
pub line_found : (bytes : List ℕ) (l : Line) → line_of bytes ≡ Some l → IsSpelled l bytes
unfolding line_of
line_found [] l e = absurd (none-some l e)
line_found (c ∷ cs) l e =
    elim (cases_Bool (eqb c 35)) [
      | inl t ↦ subst (λ x. IsSpelled l (x ∷ cs)) (sym (eqb-true c 35 t)) (remark_found cs l (rw t at e))
      | inr f ↦ bound (cut 32 (c ∷ cs)) _ l (rw f at e) (λ a ea ha. subst (IsSpelled l) (sym (cut_found 32 (c ∷ cs) a.0 a.1 ea)) (words_found a.0 a.1 l ha))
    ]
