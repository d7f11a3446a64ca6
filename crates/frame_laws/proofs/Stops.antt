-- What a stop that cuts off a step, or a start, leaves of a book: of each call that it has, the births of its session and of its mate's
-- are from before the step. A call that comes up does so by a letter, and where one of these is heard no call is born.
use Rattle.std.proofs.Common.{◌≡◌, ◌⊎◌, inl, inr, ⊎_elim, ℕ, ◌+◌, ◌-◌, ◌<◌, ◌≤◌, Bool, true, false, zero, suc, List, [], ◌∷◌, ◌++◌, length, map, take, refl, sym, ap, ◌∙◌, subst, Option, Some, Ok, flat_map, append_assoc, arith}
use Rattle.std.proofs.lemmas.Bool.{cases_lt}
use Rattle.std.proofs.lemmas.List.{append-nil}
use Rattle.std.specs.Prelude.{min, ◌*◌, ◌/◌, ◌==◌, if◌then◌else◌}
use Rattle.std.specs.List.{AllByRecursion}
use Rattle.id_source.specs.Spaces.{Space, counting_from}
use Rattle.control_message.specs.declared.message.Message.{Message}
use Rattle.control_message.specs.declared.message.Message.TheVariants.{Sccrp, Scccn, Icrq, Icrp, Iccn}
use Rattle.session_book.specs.declared.record.BookTunnel.{BookTunnel}
use Rattle.session_book.specs.declared.record.BookCall.{BookCall}
use Rattle.session_book.specs.declared.record.Record.{Record}
use Rattle.session_book.specs.declared.record.Record.TheVariants.{Ceiling, TunnelUp, TunnelDown, CallUp, CallDown, Mark}
use Rattle.session_book.specs.Books.{Kept, raised, stepped as with_record}
use Rattle.end_names.specs.declared.role.Role.{Role}
use Rattle.end_names.specs.declared.role.Role.TheVariants.{Lac, Lns}
use Rattle.end_names.specs.Names.{node_of, calling_number}
use Rattle.end_model.specs.declared.event.Event.{Event}
use Rattle.end_model.specs.declared.event.Event.TheVariants.{Datagram}
use Rattle.end_model.specs.declared.moves.Move.{Move}
use Rattle.end_model.specs.declared.moves.Move.TheVariants as move
use Rattle.end_model.specs.Contents.{ceilings_of, call_down, tunnel_down, mark_by, records_of, contents_of}
use Rattle.end_model.specs.Reading.{message_in}
use Rattle.end_model.specs.End.{End, Stepped}
use Rattle.world_model.specs.World.{World, Node, moved_all}
use Rattle.step_laws.specs.Callers.{IsRing}
use Rattle.step_laws.specs.Moves.{Came, CameIn, Does, Chain}
use Rattle.step_laws.specs.Starts.{IsOfStart}
use Rattle.step_laws.specs.Steps.{IsOfNoStart}
use Rattle.book_laws.specs.Books.{Mirrors, TablesFit, book_after}
use Rattle.book_laws.proofs.Steps.{after_both, chain_goes}
use Rattle.frame_laws.specs.Frames.{other_end}
use Rattle.frame_laws.proofs.Facts.{Nodes, Plays, Mates, CallBooked, BooksCall, BookOk, all_map}
use Rattle.frame_laws.proofs.Changes.{birth_there}
use Rattle.frame_laws.proofs.Leads.{Heard, At}
use Rattle.frame_laws.proofs.EachMove.{of_no_start}
use Rattle.frame_laws.proofs.Chains.{Ran, ran}
use Rattle.frame_laws.proofs.Books.{IsNoUp, mirrored_book, lists_ok, all_less}

-- ---- lists

all_take : {X : Type 0} (P : X → Type 0) (n : ℕ) (xs : List X) → AllByRecursion P xs → AllByRecursion P (take n xs)
all_take P zero xs all = tt
all_take P (suc n) [] all = tt
all_take P (suc n) (x ∷ xs) all = (all.0, all_take P n xs all.1)

both : {X : Type 0} (P : X → Type 0) (xs ys : List X) → AllByRecursion P xs → AllByRecursion P ys → AllByRecursion P (xs ++ ys)
both P [] ys all more = more
both P (x ∷ xs) ys all more = (all.0, both P xs ys all.1 more)

take_less : {X : Type 0} (c : ℕ) (xs ys : List X) → c < length xs → take c (xs ++ ys) ≡ take c xs
take_less zero xs ys lt = refl
take_less (suc c) [] ys lt = absurd (omega (arith, lt))
take_less (suc c) (x ∷ xs) ys lt = ap (λ zs. x ∷ zs) (take_less c xs ys (omega (arith, lt)))

take_more : {X : Type 0} (c : ℕ) (xs ys : List X) → length xs ≤ c → take c (xs ++ ys) ≡ xs ++ take (c - length xs) ys
take_more c [] ys le = let same : c - 0 ≡ c = omega arith in rw same refl
take_more zero (x ∷ xs) ys le = absurd (omega (arith, le))
take_more (suc c) (x ∷ xs) ys le =
    let same : suc c - suc (length xs) ≡ c - length xs = omega arith in
    rw same (ap (λ zs. x ∷ zs) (take_more c xs ys (omega (arith, le))))

flat_both : (f : Move → List Record) (ms ns : List Move) → flat_map f (ms ++ ns) ≡ flat_map f ms ++ flat_map f ns
flat_both f [] ns = refl
flat_both f (m ∷ ms) ns = ap (λ rs. f m ++ rs) (flat_both f ms ns) ∙ sym (append_assoc (f m) (flat_map f ms) (flat_map f ns))

-- ---- records

-- a move by which nothing comes up
abbrev pub BringsNone : Move → Type 0
BringsNone (move.Connected m) = ⊥
BringsNone (move.Confirmed m) = ⊥
BringsNone (move.FirstUp m) = ⊥
BringsNone (move.SecondUp m) = ⊥
BringsNone m = Unit {0}

calls_go : (b : Bool) (q : ℕ) → AllByRecursion IsNoUp (call_down b q)
calls_go true q = (tt, tt)
calls_go false q = tt

tunnels_go : (b : Bool) (q : ℕ) → AllByRecursion IsNoUp (tunnel_down b q)
tunnels_go true q = (tt, tt)
tunnels_go false q = tt

marks_go : (b : Bool) (q mark : ℕ) → AllByRecursion IsNoUp (mark_by b q mark)
marks_go true q mark = (tt, tt)
marks_go false q mark = tt

all_go : (ss : List ℕ) → AllByRecursion IsNoUp (map (λ s. CallDown s) ss)
all_go [] = tt
all_go (s ∷ ss) = (tt, all_go ss)

none_up : (m : Move) → BringsNone m → AllByRecursion IsNoUp (records_of m)
unfolding records_of
none_up (move.Connected m) none = absurd none
none_up (move.Confirmed m) none = absurd none
none_up (move.FirstUp m) none = absurd none
none_up (move.SecondUp m) none = absurd none
none_up (move.EndTold m) none = calls_go m.booked m.session
none_up (move.EndHeard m) none = calls_go m.booked m.session
none_up (move.EndSilent m) none = calls_go m.booked m.session
none_up (move.Closed m) none = tunnels_go m.booked m.tunnel
none_up (move.ClosedBy m) none = tunnels_go m.booked m.tunnel
none_up (move.Cleared i booked) none = tunnels_go booked i
none_up (move.Forgot m) none = (tt, tt)
none_up (move.Froze m) none = marks_go m.marked m.tunnel m.asked
none_up (move.ResetAttempting m) none = marks_go m.marked m.tunnel m.draw
none_up (move.TookAnswer m) none = all_go m.ended
none_up m none = tt

all_none_up : (ms : List Move) → AllByRecursion BringsNone ms → AllByRecursion IsNoUp (flat_map (λ m. records_of m) ms)
all_none_up [] none = tt
all_none_up (m ∷ ms) none = both IsNoUp (records_of m) (flat_map (λ m. records_of m) ms) (none_up m none.0) (all_none_up ms none.1)

-- a front of the records of a move that isn't all of them brings nothing up: a move by which something comes up has one record
front_none : (c : ℕ) (rs : List Record) → length rs ≡ 1 → c < length rs → AllByRecursion IsNoUp (take c rs)
front_none zero rs one lt = tt
front_none (suc c) rs one lt = absurd (omega (arith, one, lt))

part_none_up : (m : Move) (c : ℕ) → c < length (records_of m) → AllByRecursion IsNoUp (take c (records_of m))
unfolding records_of
part_none_up (move.Connected m) c lt = front_none c (records_of (move.Connected m)) refl lt
part_none_up (move.Confirmed m) c lt = front_none c (records_of (move.Confirmed m)) refl lt
part_none_up (move.FirstUp m) c lt = front_none c (records_of (move.FirstUp m)) refl lt
part_none_up (move.SecondUp m) c lt = front_none c (records_of (move.SecondUp m)) refl lt
part_none_up m c lt = all_take IsNoUp c (records_of m) (none_up m tt)

-- ceilings
abbrev IsCeiling : Record → Type 0
IsCeiling (Ceiling space number) = Unit {0}
IsCeiling (TunnelUp t) = ⊥
IsCeiling (TunnelDown id) = ⊥
IsCeiling (CallUp c) = ⊥
IsCeiling (CallDown id) = ⊥
IsCeiling (Mark id mark) = ⊥

all_ceilings : (f : ℕ → Record) → ((k : ℕ) → IsCeiling (f k)) → (ns : List ℕ) → AllByRecursion IsCeiling (map f ns)
all_ceilings f each [] = tt
all_ceilings f each (n ∷ ns) = (each n, all_ceilings f each ns)

ceilings_are : (space : ℕ) (x y : Space) → AllByRecursion IsCeiling (ceilings_of space x y)
ceilings_are space x y =
    all_ceilings (λ k. Ceiling space (min x.last (x.ceiling + 64 * k))) (λ k. tt) (counting_from 1 ((y.ceiling - x.ceiling + 63) / 64))

ceiling_none : (r : Record) → IsCeiling r → IsNoUp r
ceiling_none (Ceiling space number) is = tt
ceiling_none (TunnelUp t) is = absurd is
ceiling_none (TunnelDown id) is = absurd is
ceiling_none (CallUp c) is = absurd is
ceiling_none (CallDown id) is = absurd is
ceiling_none (Mark id mark) is = absurd is

-- ---- lists of books

-- two books have the same lists
pub record SameLists (k j : Kept) : Type 0 where
  pub tunnels : j.tunnels ≡ k.tunnels
  pub calls : j.calls ≡ k.calls

raised_lists : (space number : ℕ) (k : Kept) → SameLists k (raised space number k)
raised_lists space number k = by (space == 1) (space == 2) (space == 3)
  where
    by : (a b c : Bool)
        → SameLists k (if a then record k { tunnel_ceiling = number }
        else if b then record k { session_ceiling = number }
        else if c then record k { draw_ceiling = number }
        else k)
    by true b c = record { tunnels = refl; calls = refl }
    by false true c = record { tunnels = refl; calls = refl }
    by false false true = record { tunnels = refl; calls = refl }
    by false false false = record { tunnels = refl; calls = refl }

lists_then : (k j l : Kept) → SameLists k j → SameLists j l → SameLists k l
lists_then k j l g h = record { tunnels = h.tunnels ∙ g.tunnels; calls = h.calls ∙ g.calls }

lists_back : (k j : Kept) → SameLists k j → SameLists j k
lists_back k j g = record { tunnels = sym g.tunnels; calls = sym g.calls }

one_same : (k j : Kept) (r : Record) → SameLists k j → SameLists (with_record k r) (with_record j r)
one_same k j (Ceiling space number) same =
    lists_then (raised space number k) j (raised space number j)
    (lists_then (raised space number k) k j (lists_back k (raised space number k) (raised_lists space number k)) same)
    (raised_lists space number j)
one_same k j (TunnelUp t) same = record { tunnels = rw same.tunnels refl; calls = same.calls }
one_same k j (TunnelDown id) same = record { tunnels = rw same.tunnels refl; calls = rw same.calls refl }
one_same k j (CallUp c) same = record { tunnels = same.tunnels; calls = rw same.calls refl }
one_same k j (CallDown id) same = record { tunnels = same.tunnels; calls = rw same.calls refl }
one_same k j (Mark id mark) same = record { tunnels = rw same.tunnels refl; calls = same.calls }

-- what records make of lists doesn't depend on the ceilings
same_after : (k j : Kept) (rs : List Record) → SameLists k j → SameLists (book_after k rs) (book_after j rs)
same_after k j [] same = same
same_after k j (r ∷ rs) same = same_after (with_record k r) (with_record j r) rs (one_same k j r same)

-- behind ceilings, and behind a front of what comes after them
module _ (ns : Nodes) (n : ℕ) (k : Kept) (ok : BookOk ns n k) where
  -- of each book with these lists each front of records leaves what is so
  abbrev FrontsOk : List Record → Type 0
  FrontsOk rs = (j : Kept) → SameLists k j → (c : ℕ) → BookOk ns n (book_after j (take c rs))

  behind_ceilings : (rs : List Record) → FrontsOk rs → (xs : List Record) → AllByRecursion IsCeiling xs → FrontsOk (xs ++ rs)
  behind_ceilings rs fronts [] are j same c = fronts j same c
  behind_ceilings rs fronts (x ∷ xs) are j same zero = lists_ok ns n k j same.tunnels same.calls ok
  behind_ceilings rs fronts (Ceiling space number ∷ xs) are j same (suc c) =
      behind_ceilings rs fronts xs are.1 (raised space number j)
      (lists_then k j (raised space number j) same (raised_lists space number j)) c
  behind_ceilings rs fronts (TunnelUp t ∷ xs) are j same (suc c) = absurd are.0
  behind_ceilings rs fronts (TunnelDown id ∷ xs) are j same (suc c) = absurd are.0
  behind_ceilings rs fronts (CallUp t ∷ xs) are j same (suc c) = absurd are.0
  behind_ceilings rs fronts (CallDown id ∷ xs) are j same (suc c) = absurd are.0
  behind_ceilings rs fronts (Mark id mark ∷ xs) are j same (suc c) = absurd are.0

  contents_fronts : (e : End) (s : Stepped) → FrontsOk (flat_map (λ m. records_of m) s.moves) → FrontsOk (contents_of e s)
  unfolding contents_of
  contents_fronts e s fronts =
      behind_ceilings _ (behind_ceilings _ (behind_ceilings _ fronts _ (ceilings_are 3 e.recovery_ids s.end.recovery_ids)) _
      (ceilings_are 2 e.session_ids s.end.session_ids)) _ (ceilings_are 1 e.tunnel_ids s.end.tunnel_ids)

  -- where nothing comes up
  none_fronts : (rs : List Record) → AllByRecursion IsNoUp rs → FrontsOk rs
  none_fronts rs none j same c = all_less ns n j (take c rs) (all_take IsNoUp c rs none) (lists_ok ns n k j same.tunnels same.calls ok)

  of_start : (b : Kept) (m : Move) → IsOfStart b m → BringsNone m
  of_start b (move.Connected m) is = is
  of_start b (move.Confirmed m) is = is
  of_start b (move.FirstUp m) is = is
  of_start b (move.SecondUp m) is = is
  of_start b m is = tt

  -- a start that is cut off
  pub start_fronts : (b : Kept) (e : End) (s : Stepped) → AllByRecursion (IsOfStart b) s.moves → FrontsOk (contents_of e s)
  start_fronts b e s moves =
      contents_fronts e s (none_fronts (flat_map (λ m. records_of m) s.moves)
      (all_none_up s.moves (all_map (IsOfStart b) BringsNone (λ m is. of_start b m is) s.moves moves)))

-- ---- letters by which something comes up

abbrev IsUpMessage : Message → Type 0
IsUpMessage (Sccrp o) = Unit {0}
IsUpMessage (Scccn response) = Unit {0}
IsUpMessage (Icrp own) = Unit {0}
IsUpMessage (Iccn speed framing sequenced) = Unit {0}
IsUpMessage m = ⊥

record SaysUp (ev : Event) : Type 0 where
  pub letter : Came
  pub came : CameIn ev letter
  pub message : Message
  pub said : message_in letter.body ≡ Ok message
  pub is : IsUpMessage message

up_or_none : (e : End) (moment : ℕ) (ev : Event) (m : Move) (x : End) → Does e moment ev m x → BringsNone m ⊎ SaysUp ev
up_or_none e moment ev (move.Connected m) x h =
    inr (record { letter = h.letter; came = h.takes.next.comes.came; message = Sccrp h.opening; said = h.said; is = tt })
up_or_none e moment ev (move.Confirmed m) x h =
    inr (record { letter = h.letter; came = h.takes.next.comes.came; message = Scccn h.response; said = h.said; is = tt })
up_or_none e moment ev (move.FirstUp m) x h =
    inr (record { letter = h.letter; came = h.takes.next.comes.came; message = Icrp m.remote; said = h.says.said; is = tt })
up_or_none e moment ev (move.SecondUp m) x h =
    inr (record {
      letter = h.letter;
      came = h.takes.next.comes.came;
      message = Iccn h.speed h.framing m.sequenced;
      said = h.says.said;
      is = tt;
    })
up_or_none e moment ev m x h = inl tt

all_or_up : (e : End) (moment : ℕ) (ev : Event) (ms : List Move) (x : End) → Chain moment ev e ms x
    → AllByRecursion BringsNone ms ⊎ SaysUp ev
all_or_up e moment ev [] x h = inl tt
all_or_up e moment ev (m ∷ ms) x h = ⊎_elim
    (λ none. ⊎_elim (λ all. inl (none, all)) (λ up. inr up) (all_or_up h.0 moment ev ms x h.2))
    (λ up. inr up)
    (up_or_none e moment ev m h.0 h.1)

-- one message is heard in a step
same_body : (ev : Event) (k j : Came) → CameIn ev k → CameIn ev j → k.body ≡ j.body
same_body ev k j one two =
    let both : Datagram k.peer one.bytes ≡ Datagram j.peer two.bytes = sym one.is ∙ two.is in
    let bytes : one.bytes ≡ two.bytes = cc in
    let read = one.read in
    let again = two.read in
    let header : k.header ≡ j.header = cc in
    one.body_is ∙ rw (bytes, header) (sym two.body_is)

not_asked : (ev : Event) (up : SaysUp ev) (k : Came) → CameIn ev k → (own serial : ℕ) (calling : Option (List ℕ))
    → message_in k.body ≡ Ok (Icrq own serial calling) → ⊥
not_asked ev up k came own serial calling said =
    let same : Ok up.message ≡ Ok (Icrq own serial calling) = sym up.said ∙
    (ap message_in (same_body ev up.letter k up.came came) ∙ said) in
    let one : up.message ≡ Icrq own serial calling = cc in
    subst IsUpMessage one up.is

not_rung : (ev : Event) → SaysUp ev → (who : List ℕ) → IsRing ev who → ⊥
not_rung ev up who rings = by (subst (λ q. IsRing q who) up.came.is rings)
  where
    by : IsRing (Datagram up.letter.peer up.came.bytes) who → ⊥
    by h = absurd cc

-- where one is heard no session is drawn
still : (e : End) (moment : ℕ) (ev : Event) → SaysUp ev → (m : Move) (x : End) → Does e moment ev m x → x.session_ids ≡ e.session_ids
still e moment ev up (move.Added m) x h = absurd (not_rung ev up m.subscriber h.rings)
still e moment ev up (move.Replied m) x h = absurd (not_asked ev up h.letter h.takes.next.comes.came m.remote h.serial h.calling h.said)
still e moment ev up (move.Opened m) x h = ap (λ (y : End). y.session_ids) h.after
still e moment ev up (move.Accepted m) x h = ap (λ (y : End). y.session_ids) h.after
still e moment ev up (move.Connected m) x h = ap (λ (y : End). y.session_ids) h.after
still e moment ev up (move.Confirmed m) x h = ap (λ (y : End). y.session_ids) h.after
still e moment ev up (move.Requested m) x h = ap (λ (y : End). y.session_ids) h.after
still e moment ev up (move.FirstUp m) x h = ap (λ (y : End). y.session_ids) h.after
still e moment ev up (move.SecondUp m) x h = ap (λ (y : End). y.session_ids) h.after
still e moment ev up (move.Refused m) x h = ap (λ (y : End). y.session_ids) h.after
still e moment ev up (move.EndTold m) x h = ap (λ (y : End). y.session_ids) h.after
still e moment ev up (move.EndHeard m) x h = ap (λ (y : End). y.session_ids) h.after
still e moment ev up (move.EndSilent m) x h = ap (λ (y : End). y.session_ids) h.after
still e moment ev up (move.Declined m) x h = ap (λ (y : End). y.session_ids) h.after
still e moment ev up (move.Closed m) x h = ap (λ (y : End). y.session_ids) h.after
still e moment ev up (move.Rejected m) x h = ap (λ (y : End). y.session_ids) h.after
still e moment ev up (move.ClosedBy m) x h = ap (λ (y : End). y.session_ids) h.after
still e moment ev up (move.Cleared i booked) x h = ap (λ (y : End). y.session_ids) h.after
still e moment ev up (move.Greeted m) x h = ap (λ (y : End). y.session_ids) h.after
still e moment ev up (move.TookPlain m) x h = ap (λ (y : End). y.session_ids) h.after
still e moment ev up (move.NrRead m) x h = ap (λ (y : End). y.session_ids) h.after
still e moment ev up (move.LetGo m) x h = ap (λ (y : End). y.session_ids) h.after
still e moment ev up (move.Repeated m) x h = ap (λ (y : End). y.session_ids) h.after
still e moment ev up (move.Quiet i) x h = ap (λ (y : End). y.session_ids) h.after
still e moment ev up (move.Negotiated m) x h = ap (λ (y : End). y.session_ids) h.after
still e moment ev up (move.Counted m) x h = ap (λ (y : End). y.session_ids) h.after
still e moment ev up (move.FrameSent m) x h = ap (λ (y : End). y.session_ids) h.after
still e moment ev up (move.FrameUp m) x h = ap (λ (y : End). y.session_ids) h.after
still e moment ev up (move.Restored m) x h = ap (λ (y : End). y.session_ids) h.after
still e moment ev up (move.Forgot m) x h = ap (λ (y : End). y.session_ids) h.after
still e moment ev up (move.Froze m) x h = ap (λ (y : End). y.session_ids) h.after
still e moment ev up (move.ResetAttempting m) x h = ap (λ (y : End). y.session_ids) h.after
still e moment ev up (move.ResetAnswering m) x h = ap (λ (y : End). y.session_ids) h.after
still e moment ev up (move.Queried m) x h = ap (λ (y : End). y.session_ids) h.after
still e moment ev up (move.AnsweredQuery m) x h = ap (λ (y : End). y.session_ids) h.after
still e moment ev up (move.TookAnswer m) x h = ap (λ (y : End). y.session_ids) h.after
still e moment ev up (move.RecoveryWentOn i) x h = ap (λ (y : End). y.session_ids) h.after
still e moment ev up (move.RecoveryEnded i) x h = ap (λ (y : End). y.session_ids) h.after
still e moment ev up (move.Ignored i) x h = ap (λ (y : End). y.session_ids) h.after

all_still : (e : End) (moment : ℕ) (ev : Event) → SaysUp ev → (ms : List Move) (x : End) → Chain moment ev e ms x
    → x.session_ids ≡ e.session_ids
all_still e moment ev up [] x h = ap (λ (y : End). y.session_ids) (sym h)
all_still e moment ev up (m ∷ ms) x h = all_still h.0 moment ev up ms x h.2 ∙ still e moment ev up m h.0 h.1

-- one more move
chain_more : (moment : ℕ) (ev : Event) (e x y : End) (ms : List Move) (m : Move) → Chain moment ev e ms x → Does x moment ev m y
    → Chain moment ev e (ms ++ m ∷ []) y
chain_more moment ev e x y [] m h does = (y, subst (λ q. Does q moment ev m y) (sym h) does, refl)
chain_more moment ev e x y (q ∷ ms) m h does = (h.0, h.1, chain_more moment ev h.0 x y ms m h.2 does)

-- ---- a step that is cut off

other_not : (r : Role) → r ≡ other_end r → ⊥
other_not Lac h = absurd cc
other_not Lns h = absurd cc

module _ (calm : Bool) (digits : (who : List ℕ) → length (calling_number who) ≡ 12) (w : World) (n : ℕ) (old : Node)
    (here : At calm n old w old.end)
    (moment : ℕ) (ev : Event) (heard : Heard calm w.nodes n ev) (k : Kept) (fit : TablesFit old.end) (mirrors : Mirrors old.end k) where
  -- the first moves, and the end that they lead to
  module _ (made : List Move) (so : AllByRecursion IsOfNoStart made) (x : End) (chain : Chain moment ev old.end made x) where
    abbrev v : World
    v = moved_all n made w

    r : Ran calm digits n old moment ev w v old.end x
    r = ran calm digits n old moment ev w old.end x here heard made (λ calm_so. so)
        (all_map IsOfNoStart _ (λ m is. of_no_start w.nodes n old.end.tunnel_ids.next old.end.session_ids.next m is) made so) chain

    -- the book with ceilings above all that was drawn
    abbrev high : Kept
    high = record k { tunnel_ceiling = x.tunnel_ids.next; session_ceiling = x.session_ids.next }

    goes : Mirrors x (book_after high (flat_map (λ m. records_of m) made))
    goes = (chain_goes moment ev old.end x made so chain fit high
        (record {
          tunnels = mirrors.tunnels;
          calls = mirrors.calls;
          all_calls = mirrors.all_calls;
          tunnels_rise = mirrors.tunnels_rise;
          calls_rise = mirrors.calls_rise;
        })
        (record { tunnels = omega arith; sessions = omega arith })).mirrors

    module _ (none_drawn : x.session_ids ≡ old.end.session_ids) where
      -- mates were mates before
      mates_first : (s m a : ℕ) → Mates v.nodes n s m a → Mates w.nodes n s m a
      mates_first s m a h =
          let birth = birth_there v.nodes n s h.birth r.at_end.node r.at_end.is h.here in
          let low = (r.at_end.births s h.birth birth).0 in
          let next = ap (λ (q : Space). q.next) none_drawn in
          record {
            birth = h.birth;
            some = h.some;
            here = r.grows.olds n s h.birth h.here (λ own. omega (arith, low, next));
            there = r.grows.olds m a h.birth h.there (λ own. absurd (other_not h.role
                (let both : Some h.role ≡ Some (other_end h.role) = sym h.mine ∙ subst
                (λ q. Plays v.nodes q (other_end h.role)) own h.its in cc)));
            role = h.role;
            mine = r.grows.backs n h.role h.mine;
            its = r.grows.backs m (other_end h.role) h.its;
          }

      booked_first : (peer : ℕ) (c : BookCall) → CallBooked v.nodes n peer c → CallBooked w.nodes n peer c
      booked_first peer c h = record { remote = h.remote; mate = mates_first c.local (node_of peer) c.remote h.mate }

      book_first : (j : Kept) → BookOk v.nodes n j → BookOk w.nodes n j
      book_first j h = record {
        tunnels = h.tunnels;
        calls = all_map (BooksCall v.nodes n j.tunnels) (BooksCall w.nodes n j.tunnels)
            (λ c all. all_map (λ (b : BookTunnel). b.local ≡ c.tunnel → CallBooked v.nodes n b.peer c)
            (λ (b : BookTunnel). b.local ≡ c.tunnel → CallBooked w.nodes n b.peer c)
            (λ b is same. booked_first b.peer c (is same)) j.tunnels all)
            j.calls h.calls;
      }

      -- the book behind the records of these moves
      made_ok : BookOk w.nodes n (book_after k (flat_map (λ m. records_of m) made))
      made_ok =
          let rs = flat_map (λ m. records_of m) made in
          let same = same_after high k rs (record { tunnels = refl; calls = refl }) in
          lists_ok w.nodes n (book_after high rs) (book_after k rs) same.tunnels same.calls
          (book_first (book_after high rs) (mirrored_book calm v.nodes n x (book_after high rs) r.at_end.end goes))

  module _ (up : SaysUp ev) where
    -- a front of the records of the moves behind those that were made
    fronts_from : (made ms : List Move) (x y : End) → AllByRecursion IsOfNoStart made → AllByRecursion IsOfNoStart ms
        → Chain moment ev old.end made x
        → Chain moment ev x ms y → (j : Kept) → SameLists (book_after k (flat_map (λ m. records_of m) made)) j → (c : ℕ)
        → BookOk w.nodes n (book_after j (take c (flat_map (λ m. records_of m) ms)))
    fronts_from made [] x y so sos chain rest j same c =
        let rs = flat_map (λ m. records_of m) made in
        let here = lists_ok w.nodes n (book_after k rs) j same.tunnels same.calls
        (made_ok made so x chain (all_still old.end moment ev up made x chain)) in
        empty_front c here
      where
        empty_front : (c : ℕ) → BookOk w.nodes n j → BookOk w.nodes n (book_after j (take c []))
        empty_front zero ok = ok
        empty_front (suc c) ok = ok
    fronts_from made (m ∷ ms) x y so sos chain rest j same c =
        let rs = flat_map (λ m. records_of m) made in
        let rm = records_of m in
        let later = flat_map (λ m. records_of m) ms in
        let here = lists_ok w.nodes n (book_after k rs) j same.tunnels same.calls
        (made_ok made so x chain (all_still old.end moment ev up made x chain)) in
        elim (cases_lt c (length rm)) [
          | inl lt ↦ rw (take_less c rm later lt) (all_less w.nodes n j (take c rm) (part_none_up m c lt) here)
          | inr le ↦
              let all = flat_both (λ m. records_of m) made (m ∷ []) in
              let one : flat_map (λ m. records_of m) (m ∷ []) ≡ rm = append-nil rm in
              let behind : book_after k (flat_map (λ m. records_of m) (made ++ m ∷ [])) ≡ book_after (book_after k rs) rm =
              ap (book_after k) (all ∙ ap (λ zs. rs ++ zs) one) ∙ after_both k rs rm in
              rw (take_more c rm later le, after_both j rm (take (c - length rm) later))
              (fronts_from (made ++ m ∷ []) ms rest.0 y (both IsOfNoStart made (m ∷ []) so (sos.0, tt)) sos.1
              (chain_more moment ev old.end x rest.0 made m chain rest.1) rest.2
              (book_after j rm)
              (subst (λ (q : Kept). SameLists q (book_after j rm)) (sym behind) (same_after (book_after k rs) j rm same))
              (c - length rm))
        ]

  -- each front of the records of a step
  pub step_fronts : BookOk w.nodes n k → (s : Stepped) → AllByRecursion IsOfNoStart s.moves → Chain moment ev old.end s.moves s.end
      → (c : ℕ)
      → BookOk w.nodes n (book_after k (take c (contents_of old.end s)))
  step_fronts ok s so chain c =
      let rs = flat_map (λ m. records_of m) s.moves in
      contents_fronts w.nodes n k ok old.end s
      (⊎_elim
      (λ all. none_fronts w.nodes n k ok rs (all_none_up s.moves all))
      (λ up j same d. fronts_from up [] s.moves old.end s.end tt so refl chain j same d)
      (all_or_up old.end moment ev s.moves s.end chain))
      k (record { tunnels = refl; calls = refl }) c
