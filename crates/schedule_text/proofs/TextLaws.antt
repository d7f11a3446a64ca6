-- The bytes of the lines of a text, and the text that they make.
use Rattle.std.proofs.Common.{◌≡◌, ◌⊎◌, ℕ, ◌<◌, Bool, true, false, eqb, List, [], ◌∷◌, ◌++◌, length, map, refl, sym, ap, subst, ◌∙◌, append_assoc, arith, inl, inr}
use Rattle.std.specs.Prelude.{codes}
use Rattle.std.specs.Fmt.{decimal}
use Rattle.std.specs.List.{flat_map, AllByRecursion}
use Rattle.std.proofs.lemmas.Bool.{cases_Bool, eqb-true, ne_eqb}
use Rattle.std.proofs.lemmas.List.{append-nil, length-append}
use Rattle.hex.specs.Hex.{encode_lower, lower_digits}
use Rattle.schedule_text.specs.declared.line.Line.{Line}
use Rattle.schedule_text.specs.declared.line.Line.TheVariants.{Remark, Lac, Lns, OpenUp, Close, Ring, FromSub, Down, Hang, DropCall, Frame, Deliver, Load, Hand, Tick, Crash, Stop, Start}
use Rattle.schedule_text.specs.Grammar.{call_text, secret_text, mode_text, kept_text, line_text, IsPrintable, IsNode, IsSession, FitsLine, AreLines, spelling, IsText}
use Rattle.schedule_text.specs.Reading.{put_first, text_lines}
use Rattle.schedule_text.proofs.LineLaws.{Lacks}
use Rattle.schedule_text.proofs.LinesAgain.{number_lacks, hex_lacks, digits_lack_feed, secret_lacks}

pub first_is : (x y : List ℕ) (xs ys : List (List ℕ)) → x ∷ xs ≡ y ∷ ys → x ≡ y
first_is x y xs ys e = cc

pub others_are : (x y : List ℕ) (xs ys : List (List ℕ)) → x ∷ xs ≡ y ∷ ys → xs ≡ ys
others_are x y xs ys e = cc

-- ---- from lines to the text

-- a line feed behind each
abbrev pub fed : List (List ℕ) → List ℕ
fed parts = flat_map (λ p. p ++ 10 ∷ []) parts

-- the line's bytes, up to its line feed
pub fed_line : (line rest : List ℕ) → Lacks 10 line → text_lines (line ++ 10 ∷ rest) ≡ line ∷ text_lines rest
fed_line [] rest h = refl
fed_line (c ∷ cs) rest h = rw (h.0, fed_line cs rest h.1) refl

pub unfed_line : (line : List ℕ) → Lacks 10 line → 0 < length line → text_lines line ≡ line ∷ []
unfed_line [] h some = absurd (omega arith)
unfed_line (c ∷ []) h some = rw h.0 refl
unfed_line (c ∷ d ∷ ds) h some = rw (h.0, unfed_line (d ∷ ds) h.1 (omega arith)) refl

-- ---- from the text to its lines

-- the parts make the text, whose last line feed may be lacking
abbrev IsFed : List ℕ → List (List ℕ) → Type 0
IsFed text parts = (text ≡ fed parts) ⊎ (text ++ 10 ∷ [] ≡ fed parts)

fed_further : (c : ℕ) (cs : List ℕ) (parts : List (List ℕ)) → IsFed cs parts → IsFed (c ∷ cs) (put_first c parts)
fed_further c cs [] (inl e) = inr (ap (λ (t : List ℕ). c ∷ (t ++ 10 ∷ [])) e)
fed_further c cs [] (inr e) = absurd (omega (arith, ap length e, length-append cs (10 ∷ [])))
fed_further c cs (p ∷ ps) (inl e) = inl (ap (λ (t : List ℕ). c ∷ t) e)
fed_further c cs (p ∷ ps) (inr e) = inr (ap (λ (t : List ℕ). c ∷ t) e)

feed_further : (cs : List ℕ) (parts : List (List ℕ)) → IsFed cs parts → IsFed (10 ∷ cs) ([] ∷ parts)
feed_further cs parts (inl e) = inl (ap (λ (t : List ℕ). 10 ∷ t) e)
feed_further cs parts (inr e) = inr (ap (λ (t : List ℕ). 10 ∷ t) e)

pub text_fed : (text : List ℕ) → IsFed text (text_lines text)
text_fed [] = inl refl
text_fed (c ∷ cs) =
    elim (cases_Bool (eqb c 10)) [
      | inl e ↦ subst (λ x. IsFed (x ∷ cs) (text_lines (x ∷ cs))) (sym (eqb-true c 10 e)) (feed_further cs (text_lines cs) (text_fed cs))
      | inr e ↦ rw e (fed_further c cs (text_lines cs) (text_fed cs))
    ]

-- one line feed more ends the last line, or makes an empty one
abbrev IsOneFeed : List (List ℕ) → List (List ℕ) → Type 0
IsOneFeed more parts = (more ≡ parts) ⊎ (more ≡ parts ++ [] ∷ [])

feed_behind : (c : ℕ) (more parts : List (List ℕ)) → IsOneFeed more parts → IsOneFeed (put_first c more) (put_first c parts)
feed_behind c more parts (inl e) = inl (ap (put_first c) e)
feed_behind c more [] (inr e) = inl (ap (put_first c) e)
feed_behind c more (p ∷ ps) (inr e) = inr (ap (put_first c) e)

empty_front : (more parts : List (List ℕ)) → IsOneFeed more parts → IsOneFeed ([] ∷ more) ([] ∷ parts)
empty_front more parts (inl e) = inl (ap (λ (t : List (List ℕ)). [] ∷ t) e)
empty_front more parts (inr e) = inr (ap (λ (t : List (List ℕ)). [] ∷ t) e)

one_feed : (text : List ℕ) → IsOneFeed (text_lines (text ++ 10 ∷ [])) (text_lines text)
one_feed [] = inr refl
one_feed (c ∷ cs) =
    elim (cases_Bool (eqb c 10)) [
      | inl e ↦ rw e (empty_front (text_lines (cs ++ 10 ∷ [])) (text_lines cs) (one_feed cs))
      | inr e ↦ rw e (feed_behind c (text_lines (cs ++ 10 ∷ [])) (text_lines cs) (one_feed cs))
    ]

-- ---- lines that are spelled

lacks_append : (c : ℕ) (xs ys : List ℕ) → Lacks c xs → Lacks c ys → Lacks c (xs ++ ys)
lacks_append c [] ys h k = k
lacks_append c (x ∷ xs) ys h k = (h.0, lacks_append c xs ys h.1 k)

lacks_printable : (text : List ℕ) → AllByRecursion IsPrintable text → Lacks 10 text
lacks_printable [] h = tt
lacks_printable (c ∷ cs) h = (ne_eqb c 10 (λ e. let low = h.0.0 in omega arith), lacks_printable cs h.1)

node_lacks : (n : ℕ) → IsNode n → Lacks 10 (decimal n)
node_lacks n h = number_lacks 10 n (omega arith) (omega arith)

call_lacks : (node session : ℕ) (frame : List ℕ) → IsNode node → IsSession session → Lacks 10 (call_text node session frame)
call_lacks node session frame n s =
    let front = lacks_append 10 (decimal node) (codes " ") (node_lacks node n) (refl, tt) in
    let names = lacks_append 10 (decimal node ++ codes " ") (decimal session) front (number_lacks 10 session (omega arith) (omega arith)) in
    let words = lacks_append 10 _ (codes " ") names (refl, tt) in
    lacks_append 10 _ (encode_lower frame) words (hex_lacks 10 lower_digits frame refl digits_lack_feed)

node_session_lacks : (node session : ℕ) → IsNode node → IsSession session → Lacks 10 (decimal node ++ codes " " ++ decimal session)
node_session_lacks node session n s =
    let front = lacks_append 10 (decimal node) (codes " ") (node_lacks node n) (refl, tt) in
    lacks_append 10 _ (decimal session) front (number_lacks 10 session (omega arith) (omega arith))

mode_lacks : (hide : Bool) → Lacks 10 (mode_text hide)
mode_lacks false = (refl, (refl, (refl, (refl, (refl, tt)))))
mode_lacks true = (refl, (refl, (refl, (refl, tt))))

kept_lacks : (kept : Bool) → Lacks 10 (kept_text kept)
kept_lacks false = (refl, (refl, (refl, (refl, tt))))
kept_lacks true = (refl, (refl, (refl, (refl, tt))))

lacks_feed : (l : Line) → FitsLine l → Lacks 10 (line_text l)
lacks_feed (Remark text) h = (refl, lacks_printable text h)
lacks_feed (Lac node lns secret hide) h =
    let front = lacks_append 10 (decimal node) (codes " ") (node_lacks node h.0) (refl, tt) in
    let names = lacks_append 10 (decimal node ++ codes " ") (decimal lns) front (node_lacks lns h.1) in
    let words = lacks_append 10 _ (codes " ") names (refl, tt) in
    let secrets = lacks_append 10 _ (secret_text secret) words (secret_lacks 10 secret refl refl digits_lack_feed) in
    let parts = lacks_append 10 _ (codes " ") secrets (refl, tt) in
    (refl, (refl, (refl, (refl, lacks_append 10 _ (mode_text hide) parts (mode_lacks hide)))))
lacks_feed (Lns node secret) h =
    let front = lacks_append 10 (decimal node) (codes " ") (node_lacks node h.0) (refl, tt) in
    (refl, (refl, (refl, (refl, lacks_append 10 _ (secret_text secret) front (secret_lacks 10 secret refl refl digits_lack_feed)))))
lacks_feed (OpenUp node) h = (refl, (refl, (refl, (refl, (refl, node_lacks node h)))))
lacks_feed (Ring node port) h =
    let front = lacks_append 10 (decimal node) (codes " ") (node_lacks node h.0) (refl, tt) in
    (refl, (refl, (refl, (refl, (refl, lacks_append 10 _ (decimal port) front (number_lacks 10 port (omega arith) (omega arith)))))))
lacks_feed (FromSub node session frame) h = (refl, (refl, (refl, (refl, (refl, call_lacks node session frame h.0 h.1)))))
lacks_feed (Down node session frame) h = (refl, (refl, (refl, (refl, (refl, call_lacks node session frame h.0 h.1)))))
lacks_feed (Hang node session) h = (refl, (refl, (refl, (refl, (refl, node_session_lacks node session h.0 h.1)))))
lacks_feed (DropCall node session) h = (refl, (refl, (refl, (refl, (refl, node_session_lacks node session h.0 h.1)))))
lacks_feed (Close node tunnel) h = (refl, (refl, (refl, (refl, (refl, (refl, node_session_lacks node tunnel h.0 h.1))))))
lacks_feed (Frame node bytes) h =
    let front = lacks_append 10 (decimal node) (codes " ") (node_lacks node h.0) (refl, tt) in
    (refl, (refl, (refl, (refl, (refl, (refl, lacks_append 10 _ (encode_lower bytes) front (hex_lacks 10 lower_digits bytes refl digits_lack_feed)))))))
lacks_feed (Deliver packet) h = (refl, (refl, (refl, (refl, (refl, (refl, (refl, (refl, number_lacks 10 packet (omega arith) (omega arith)))))))))
lacks_feed (Load node packet) h =
    let front = lacks_append 10 (decimal node) (codes " ") (node_lacks node h.0) (refl, tt) in
    (refl, (refl, (refl, (refl, (refl, lacks_append 10 _ (decimal packet) front (number_lacks 10 packet (omega arith) (omega arith)))))))
lacks_feed (Hand node number) h =
    let front = lacks_append 10 (decimal node) (codes " ") (node_lacks node h.0) (refl, tt) in
    (refl, (refl, (refl, (refl, (refl, lacks_append 10 _ (decimal number) front (number_lacks 10 number (omega arith) (omega arith)))))))
lacks_feed (Tick node milliseconds) h =
    let front = lacks_append 10 (decimal node) (codes " ") (node_lacks node h.0) (refl, tt) in
    (refl, (refl, (refl, (refl, (refl, lacks_append 10 _ (decimal milliseconds) front (number_lacks 10 milliseconds (omega arith) (omega arith)))))))
lacks_feed (Crash node) h = (refl, (refl, (refl, (refl, (refl, (refl, node_lacks node h))))))
lacks_feed (Stop node commit call kept) h =
    let front = lacks_append 10 (decimal node) (codes " ") (node_lacks node h.0) (refl, tt) in
    let commits = lacks_append 10 (decimal node ++ codes " ") (decimal commit) front (number_lacks 10 commit (omega arith) (omega arith)) in
    let words = lacks_append 10 _ (codes " ") commits (refl, tt) in
    let calls = lacks_append 10 _ (decimal call) words (number_lacks 10 call (omega arith) (omega arith)) in
    let parts = lacks_append 10 _ (codes " ") calls (refl, tt) in
    (refl, (refl, (refl, (refl, (refl, lacks_append 10 _ (kept_text kept) parts (kept_lacks kept))))))
lacks_feed (Start node) h = (refl, (refl, (refl, (refl, (refl, (refl, node_lacks node h))))))

some_byte : (l : Line) → 0 < length (line_text l)
some_byte (Remark text) = omega arith
some_byte (Lac node lns secret hide) = omega arith
some_byte (Lns node secret) = omega arith
some_byte (OpenUp node) = omega arith
some_byte (Ring node port) = omega arith
some_byte (FromSub node session frame) = omega arith
some_byte (Down node session frame) = omega arith
some_byte (Hang node session) = omega arith
some_byte (DropCall node session) = omega arith
some_byte (Close node tunnel) = omega arith
some_byte (Frame node bytes) = omega arith
some_byte (Deliver packet) = omega arith
some_byte (Load node packet) = omega arith
some_byte (Hand node number) = omega arith
some_byte (Tick node milliseconds) = omega arith
some_byte (Crash node) = omega arith
some_byte (Stop node commit call kept) = omega arith
some_byte (Start node) = omega arith

pub fed_texts : (lines : List Line) → fed (map line_text lines) ≡ spelling lines
fed_texts [] = refl
fed_texts (l ∷ lines) = ap (λ t. (line_text l ++ 10 ∷ []) ++ t) (fed_texts lines)

-- lines that are spelled, and what follows
pub spelled_front : (lines : List Line) (rest : List ℕ) → AreLines lines → text_lines (spelling lines ++ rest) ≡ map line_text lines ++ text_lines rest
spelled_front [] rest h = refl
spelled_front (l ∷ lines) rest h =
    let regrouped : spelling (l ∷ lines) ++ rest ≡ line_text l ++ 10 ∷ (spelling lines ++ rest) = simp append_assoc in
    ap text_lines regrouped ∙ fed_line (line_text l) (spelling lines ++ rest) (lacks_feed l h.0) ∙ ap (λ t. line_text l ∷ t) (spelled_front lines rest h.1)

-- none of the lines is empty
no_empty : (lines : List Line) (parts : List (List ℕ)) → map line_text lines ≡ parts ++ [] ∷ [] → ⊥
no_empty [] parts e = omega (arith, ap length e, length-append parts ([] ∷ []))
no_empty (l ∷ lines) [] e = omega (arith, some_byte l, ap length (first_is _ _ _ _ e))
no_empty (l ∷ lines) (p ∷ ps) e = no_empty lines ps (others_are _ _ _ _ e)

-- the lines of a text that spells them
pub texts_again : (text : List ℕ) (lines : List Line) → AreLines lines → IsText text lines → text_lines text ≡ map line_text lines
texts_again text lines h (inl e) = ap text_lines (e ∙ sym (append-nil (spelling lines))) ∙ spelled_front lines [] h ∙ append-nil (map line_text lines)
texts_again text lines h (inr e) =
    let all : text_lines (text ++ 10 ∷ []) ≡ map line_text lines = ap text_lines (e ∙ sym (append-nil (spelling lines))) ∙ spelled_front lines [] h ∙ append-nil (map line_text lines) in
    elim (one_feed text) [
      | inl f ↦ sym f ∙ all
      | inr f ↦ absurd (no_empty lines (text_lines text) (sym all ∙ f))
    ]

-- a text whose lines are those of lines spells them
pub text_is : (text : List ℕ) (lines : List Line) → text_lines text ≡ map line_text lines → IsText text lines
text_is text lines e =
    elim (text_fed text) [
      | inl f ↦ inl (f ∙ ap fed e ∙ fed_texts lines)
      | inr f ↦ inr (f ∙ ap fed e ∙ fed_texts lines)
    ]
