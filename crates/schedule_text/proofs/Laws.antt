-- The laws of reading: what is read is a schedule, each schedule is read, and the first bad line is told exactly where one is.
use Rattle.std.proofs.Common.{◌≡◌, ℕ, suc, ◌+◌, ◌<◌, List, [], ◌∷◌, ◌++◌, length, map, Option, Some, None, Result, Ok, Err, refl, sym, ap, subst, ◌∙◌, append_assoc, arith, inl, inr}
use Rattle.std.specs.Prelude.{IfOk, IfErr}
use Rattle.std.specs.List.{AllByRecursion}
use Rattle.std.proofs.lemmas.Bool.{cases_lt, eq-eqb, ne_eqb, eqb-false}
use Rattle.std.proofs.lemmas.List.{append-nil, length-append, length-map, nil_from_length}
use Rattle.std.proofs.lemmas.Option.{none-some}
use Rattle.wire_base.specs.Answers.{Gives}
use Rattle.schedule_text.specs.declared.line.Line.{Line}
use Rattle.schedule_text.specs.declared.error.ScheduleError.{ScheduleError}
use Rattle.schedule_text.specs.declared.error.ScheduleError.TheVariants.{BadLine, NoMemory}
use Rattle.schedule_text.specs.Grammar.{line_text, FitsLine, AreLines, spelling, IsSchedule, EndsLine, IsBadLine, IsFirstBad}
use Rattle.schedule_text.specs.Reading.{Told, cut, text_lines, line_of, front_of, lines_of}
use Rattle.schedule_text.proofs.LineLaws.{Lacks, IsCut, cut_is, line_found}
use Rattle.schedule_text.proofs.LinesAgain.{line_again}
use Rattle.schedule_text.proofs.TextLaws.{fed, first_is, others_are, fed_line, unfed_line, fed_texts, spelled_front, texts_again, text_is}
use Rattle.schedule_text.proofs.TextLines.{first_fed, first_unfed, front_some, front_none, front_nil, bad_is}

-- ---- the lines before the first bytes that spell none

-- the bytes are those of these lines, and then come none or some that spell no line
record Front (parts : List (List ℕ)) : Type 0 where
  others : List (List ℕ)
  fits : AreLines (front_of parts)
  parts_are : parts ≡ map line_text (front_of parts) ++ others
  stops : (w : List ℕ) (more : List (List ℕ)) → others ≡ w ∷ more → line_of w ≡ None

front_more : (bytes : List ℕ) (others : List (List ℕ)) (o : Option Line) → line_of bytes ≡ o → Front others → Front (bytes ∷ others)
front_more bytes others None e h =
    let f : front_of (bytes ∷ others) ≡ [] = front_none bytes others e in
    record {
      others = bytes ∷ others;
      fits = subst AreLines (sym f) tt;
      parts_are = ap (λ t. map line_text t ++ bytes ∷ others) (sym f);
      stops = λ w more g. ap line_of (sym (first_is bytes w others more g)) ∙ e;
    }
front_more bytes others (Some l) e h =
    let f : front_of (bytes ∷ others) ≡ l ∷ front_of others = front_some bytes others l e in
    let s = line_found bytes l e in
    let both : bytes ∷ others ≡ line_text l ∷ (map line_text (front_of others) ++ h.others) = rw (s.1, ← h.parts_are) refl in
    record {
      others = h.others;
      fits = subst AreLines (sym f) (s.0, h.fits);
      parts_are = both ∙ ap (λ t. map line_text t ++ h.others) (sym f);
      stops = h.stops;
    }

front_is : (parts : List (List ℕ)) → Front parts
front_is [] =
    record {
      others = [];
      fits = subst AreLines (sym front_nil) tt;
      parts_are = ap (λ t. map line_text t ++ []) (sym front_nil);
      stops = λ w more e. absurd (omega (arith, ap length e));
    }
front_is (bytes ∷ others) = front_more bytes others (line_of bytes) refl (front_is others)

front_again : (lines : List Line) (others : List (List ℕ)) → AreLines lines → front_of (map line_text lines ++ others) ≡ lines ++ front_of others
front_again [] others h = refl
front_again (l ∷ lines) others h = front_some (line_text l) (map line_text lines ++ others) l (line_again l h.0) ∙ ap (λ t. l ∷ t) (front_again lines others h.1)

-- ---- a schedule is read

pub schedule_again : (text : List ℕ) (lines : List Line) → IsSchedule text lines → lines_of text ≡ Ok lines
schedule_again text lines h =
    let parts : text_lines text ≡ map line_text lines = texts_again text lines h.fits h.spelled in
    let front : front_of (text_lines text) ≡ lines = ap front_of (parts ∙ sym (append-nil (map line_text lines))) ∙ front_again lines [] h.fits ∙ ap (λ t. lines ++ t) front_nil ∙ append-nil lines in
    let all : length (front_of (text_lines text)) ≡ length (text_lines text) = ap length front ∙ sym (length-map lines line_text) ∙ ap length (sym parts) in
    rw (eq-eqb _ _ all) (ap (λ (t : List Line). Ok t) front)

-- ---- the text of a line in the midst

-- lines that stand before bytes, which end there
record Midst (parts : List (List ℕ)) (text line : List ℕ) : Type 0 where
  rest : List ℕ
  parts_are : text ≡ fed parts ++ line ++ rest
  lacks : Lacks 10 line
  ends : EndsLine line rest

midst_unfed : (ps : List (List ℕ)) (text w : List ℕ) (more : List (List ℕ)) → cut 10 text ≡ None → Lacks 10 text → text_lines text ≡ ps ++ w ∷ more → Midst ps text w
midst_unfed ps [] w more e h f = absurd (omega (arith, ap length f, length-append ps (w ∷ more)))
midst_unfed [] (c ∷ cs) w more e h f =
    let same : c ∷ cs ≡ w = first_is (c ∷ cs) w [] more (sym (first_unfed (c ∷ cs) e (omega arith)) ∙ f) in
    record {
      rest = [];
      parts_are = same ∙ sym (append-nil w);
      lacks = subst (Lacks 10) same h;
      ends = omega (arith, ap length same);
    }
midst_unfed (p ∷ ps) (c ∷ cs) w more e h f =
    let none : [] ≡ ps ++ w ∷ more = others_are (c ∷ cs) p [] (ps ++ w ∷ more) (sym (first_unfed (c ∷ cs) e (omega arith)) ∙ f) in
    absurd (omega (arith, ap length none, length-append ps (w ∷ more)))

midst_here : (text a b w : List ℕ) (more : List (List ℕ)) → text ≡ a ++ 10 ∷ b → Lacks 10 a → a ∷ text_lines b ≡ w ∷ more → Midst [] text w
midst_here text a b w more e h f =
    let same : a ≡ w = first_is a w (text_lines b) more f in
    record {
      rest = 10 ∷ b;
      parts_are = e ∙ ap (λ t. t ++ 10 ∷ b) same;
      lacks = subst (Lacks 10) same h;
      ends = refl;
    }

midst_further : (ps : List (List ℕ)) (text a b p w : List ℕ) → text ≡ a ++ 10 ∷ b → a ≡ p → Midst ps b w → Midst (p ∷ ps) text w
midst_further ps text a b p w e f m =
    let regrouped : p ++ 10 ∷ (fed ps ++ w ++ m.rest) ≡ ((p ++ 10 ∷ []) ++ fed ps) ++ w ++ m.rest = simp append_assoc in
    record {
      rest = m.rest;
      parts_are = e ∙ ap (λ t. t ++ 10 ∷ b) f ∙ ap (λ t. p ++ 10 ∷ t) m.parts_are ∙ regrouped;
      lacks = m.lacks;
      ends = m.ends;
    }

midst_first : (text w : List ℕ) (more : List (List ℕ)) (o : Option (List ℕ × List ℕ)) → cut 10 text ≡ o → IsCut 10 text o → text_lines text ≡ w ∷ more → Midst [] text w
midst_first text w more None e h f = midst_unfed [] text w more e h f
midst_first text w more (Some p) e h f = midst_here text p.0 p.1 w more h.0 h.1 (sym (first_fed text p.0 p.1 e).0 ∙ f)

midst_later : (ps : List (List ℕ)) (text p w : List ℕ) (more : List (List ℕ)) (o : Option (List ℕ × List ℕ)) → cut 10 text ≡ o → IsCut 10 text o → text_lines text ≡ p ∷ (ps ++ w ∷ more) → ((b : List ℕ) → text_lines b ≡ ps ++ w ∷ more → Midst ps b w) → Midst (p ∷ ps) text w
midst_later ps text p w more None e h f ih = midst_unfed (p ∷ ps) text w more e h f
midst_later ps text p w more (Some q) e h f ih =
    let g : q.0 ∷ text_lines q.1 ≡ p ∷ (ps ++ w ∷ more) = sym (first_fed text q.0 q.1 e).0 ∙ f in
    midst_further ps text q.0 q.1 p w h.0 (first_is q.0 p (text_lines q.1) (ps ++ w ∷ more) g) (ih q.1 (others_are q.0 p (text_lines q.1) (ps ++ w ∷ more) g))

midst_is : (ps : List (List ℕ)) (text w : List ℕ) (more : List (List ℕ)) → text_lines text ≡ ps ++ w ∷ more → Midst ps text w
midst_is [] text w more f = midst_first text w more (cut 10 text) refl (cut_is 10 text) f
midst_is (p ∷ ps) text w more f = midst_later ps text p w more (cut 10 text) refl (cut_is 10 text) f (λ b g. midst_is ps b w more g)

-- ---- the first bad line

no_feeds : (line : List ℕ) → Lacks 10 line → AllByRecursion (λ c. ¬ (c ≡ 10)) line
no_feeds [] h = tt
no_feeds (c ∷ cs) h = (eqb-false c 10 h.0, no_feeds cs h.1)

lacks_feeds : (line : List ℕ) → AllByRecursion (λ c. ¬ (c ≡ 10)) line → Lacks 10 line
lacks_feeds [] h = tt
lacks_feeds (c ∷ cs) h = (ne_eqb c 10 h.0, lacks_feeds cs h.1)

-- a schedule is found, or the first bad line
abbrev Outcome : List ℕ → Result (List Line) ScheduleError → Type 0
Outcome text (Ok v) = IsSchedule text v
Outcome text (Err (BadLine line)) = IsBadLine text line
Outcome text (Err NoMemory) = ⊥

bad_there : (text : List ℕ) (f : Front (text_lines text)) (tail : List (List ℕ)) → f.others ≡ tail → 0 < length tail → IsBadLine text (length (front_of (text_lines text)) + 1)
bad_there text f [] e some = absurd (omega arith)
bad_there text f (w ∷ more) e some =
    let front = front_of (text_lines text) in
    let m = midst_is (map line_text front) text w more (f.parts_are ∙ ap (λ t. map line_text front ++ t) e) in
    record {
      before = front;
      line = w;
      rest = m.rest;
      fits = f.fits;
      parts = m.parts_are ∙ ap (λ t. t ++ w ++ m.rest) (fed_texts front);
      no_feed = no_feeds w m.lacks;
      ends = m.ends;
      place = refl;
      wrong = λ l h g. none-some l (sym (f.stops w more e) ∙ ap line_of g ∙ line_again l h);
    }

-- the bytes of all lines are read, and there are no others
whole_schedule : (text : List ℕ) (f : Front (text_lines text)) → length f.others ≡ 0 → IsSchedule text (front_of (text_lines text))
whole_schedule text f none =
    let front = front_of (text_lines text) in
    record {
      fits = f.fits;
      spelled = text_is text front (f.parts_are ∙ ap (λ t. map line_text front ++ t) (nil_from_length f.others none) ∙ append-nil (map line_text front));
    }

pub outcome : (text : List ℕ) → Outcome text (lines_of text)
outcome text =
    let parts = text_lines text in
    let f = front_is parts in
    let count : length parts ≡ length (front_of parts) + length f.others = ap length f.parts_are ∙ length-append (map line_text (front_of parts)) f.others ∙ ap (λ (n : ℕ). n + length f.others) (length-map (front_of parts) line_text) in
    elim (cases_lt (length (front_of parts)) (length parts)) [
      | inl lt ↦ subst (Outcome text) (sym (bad_is text lt)) (bad_there text f f.others refl (omega arith))
      | inr le ↦
          let whole : length (front_of parts) ≡ length parts = omega arith in
          rw (eq-eqb _ _ whole) (whole_schedule text f (omega arith))
    ]

-- ---- a bad line is told

line_there : (line rest : List ℕ) → Lacks 10 line → EndsLine line rest → (more : List (List ℕ)) × (text_lines (line ++ rest) ≡ line ∷ more)
line_there line [] h some = ([], ap text_lines (append-nil line) ∙ unfed_line line h some)
line_there line (c ∷ cs) h e = (text_lines cs, ap (λ x. text_lines (line ++ x ∷ cs)) e ∙ fed_line line cs h)

none_there : (line : List ℕ) (more : List (List ℕ)) (o : Option Line) → ((l : Line) → FitsLine l → ¬ (line ≡ line_text l)) → line_of line ≡ o → front_of (line ∷ more) ≡ []
none_there line more None wrong e = front_none line more e
none_there line more (Some l) wrong e = let s = line_found line l e in absurd (wrong l s.0 s.1)

pub bad_again : (text : List ℕ) (line : ℕ) → IsBadLine text line → lines_of text ≡ Err (BadLine line)
bad_again text line h =
    let t = line_there h.line h.rest (lacks_feeds h.line h.no_feed) h.ends in
    let parts : text_lines text ≡ map line_text h.before ++ h.line ∷ t.0 =
    ap text_lines (h.parts ∙ append_assoc (spelling h.before) h.line h.rest) ∙ spelled_front h.before (h.line ++ h.rest) h.fits ∙ ap (λ x. map line_text h.before ++ x) t.1 in
    let front : front_of (text_lines text) ≡ h.before =
    ap front_of parts ∙ front_again h.before (h.line ∷ t.0) h.fits ∙ ap (λ x. h.before ++ x) (none_there h.line t.0 (line_of h.line) h.wrong refl) ∙ append-nil h.before in
    let count : length (text_lines text) ≡ length h.before + suc (length t.0) = ap length parts ∙ length-append (map line_text h.before) (h.line ∷ t.0) ∙ ap (λ (n : ℕ). n + suc (length t.0)) (length-map h.before line_text) in
    bad_is text (omega (arith, ap length front)) ∙ ap (λ (n : ℕ). Err (BadLine n)) (let p = h.place in omega (arith, ap length front))

-- ---- the laws, of what a call answered

pub is_found : (text : List ℕ) (r : Result (List Line) ScheduleError) → Gives Told (λ v. v) r (lines_of text) → IfOk r (IsSchedule text)
is_found text (Ok v) given = subst (Outcome text) given (outcome text)
is_found text (Err e) given = tt

-- no lines are a schedule of the text, where it has a bad line
no_schedule : (text : List ℕ) (line : ℕ) → lines_of text ≡ Err (BadLine line) → (lines : List Line) → ¬ (IsSchedule text lines)
no_schedule text line given lines h = let e : ◌≡◌ {A = Result (List Line) ScheduleError} (Ok lines) (Err (BadLine line)) = sym (schedule_again text lines h) ∙ given in cc

pub is_bad : (text : List ℕ) (r : Result (List Line) ScheduleError) → Gives Told (λ v. v) r (lines_of text) → IfErr r (IsFirstBad text)
is_bad text (Ok v) given = tt
is_bad text (Err NoMemory) given = tt
is_bad text (Err (BadLine line)) given = (subst (Outcome text) given (outcome text), no_schedule text line given)
