-- What the indexes list, as tunnels are put and taken out.
use Rattle.std.specs.Prelude.{◌≡◌, ℕ, suc, ◌+◌, ◌*◌, ◌<◌, ◌==◌, ◌&&◌, Bool, true, false, not, List, [], Option, Some, None, is_some, option_map, find, unwrap_or}
use Rattle.std.proofs.Common.{refl, ap, subst, sym, ◌∙◌, ⊎_elim, arith}
use Rattle.std.proofs.lemmas.Bool.Decides.{nat_tests}
use Rattle.std.proofs.lemmas.Option.{none-some}
use Rattle.id_table.specs.Ids.{at, put, without, at-none, ids_of}
use Rattle.id_table.specs.Order.{Ascends, ascends-empty, ascends-put, ascends-without, at_new, at_other, at_without_other, at_without_same, found_put, found_without, same_or_not}
use Rattle.id_index.specs.Keys.{has_label}
use Rattle.id_index.specs.Indexes.{Listing, Lists, IsRelabelled, IsFirst}
use Rattle.id_index.specs.Firsts.{first_found, within_empty, within_put, within_without}
use Rattle.tunnel_fsm.specs.declared.table.TunnelState.{TunnelState}
use Rattle.tunnel_fsm.specs.declared.table.TunnelState.TheVariants.{Idle, WaitCtlReply, WaitCtlConn, Established, Closed}
use Rattle.tunnel_fsm.specs.Rows.{state_number}
use Rattle.end_model.specs.declared.tunnel.Control.{Control}
use Rattle.end_model.specs.declared.tunnel.Mode.{Mode}
use Rattle.end_model.specs.declared.tunnel.Mode.TheVariants.{Current, Frozen, Restored}
use Rattle.end_model.specs.Tunnels.{Tunnel, Recovering, ByAttempt, ByAnswer, mode_of, is_current}
use Rattle.end_model.specs.End.{is_known, known_as, is_in, least_in, has_line, recovered_by, is_answered, answered_to, is_recovering, are_recovering}
use Rattle.tunnel_table.specs.declared.labels.Labels.{Labels}
use Rattle.tunnel_core.specs.Cores.{Plan, made_of}
use Rattle.tunnel_table.specs.Labels.{remote_label, state_label, number_by, recovering_number, labels_of, labels_in, label_in, listed, remote_in, state_in, line_in, answer_in, IsSmall, AreSmall, StaysLabelled, Listings, AreRelabelled, AreKept}

-- ---- labels

none_labelled : (label : Labels → Option ℕ) (ts : List (ℕ × Tunnel)) → ts ≡ [] → (i : ℕ) → listed label ts i ≡ None
none_labelled label ts empty i = rw (empty, at-none {X = Tunnel} i) refl

-- a tunnel is put with the label that it has
listed_put : (label : Labels → Option ℕ) (x y : Listing) (ts : List (ℕ × Tunnel)) (id : ℕ) (before : Option Labels) (l : Labels) (t : Tunnel)
    → labels_in ts id ≡ before → labels_of t ≡ l → IsRelabelled x y id (label_in label before) (label l)
    → Lists x (listed label ts) → Lists y (listed label (put ts id t))
listed_put label x y ts id before l t was is relabelled lists =
    relabelled (listed label ts) (listed label (put ts id t)) lists
    (ap (label_in label) was)
    (ap (λ (o : Option Tunnel). label_in label (option_map labels_of o)) (at_new ts id t) ∙ ap label is)
    (λ q apart. ap (λ (o : Option Tunnel). label_in label (option_map labels_of o)) (at_other ts id t q apart))

listed_without : (label : Labels → Option ℕ) (x y : Listing) (ts : List (ℕ × Tunnel)) (id : ℕ) (before : Option Labels) → Ascends ts
    → labels_in ts id ≡ before → IsRelabelled x y id (label_in label before) None
    → Lists x (listed label ts) → Lists y (listed label (without ts id))
listed_without label x y ts id before ascends was relabelled lists =
    relabelled (listed label ts) (listed label (without ts id)) lists
    (ap (label_in label) was)
    (ap (λ (o : Option Tunnel). label_in label (option_map labels_of o)) (at_without_same ts id ascends))
    (λ q apart. ap (λ (o : Option Tunnel). label_in label (option_map labels_of o)) (at_without_other ts id q apart))

-- ---- ids that peers assigned

small_empty : (ts : List (ℕ × Tunnel)) → ts ≡ [] → AreSmall ts
unfolding AreSmall
small_empty ts empty i t found = absurd (none-some t (sym (ap (λ us. at us i) empty ∙ at-none {X = Tunnel} i) ∙ found))

small_put : (ts : List (ℕ × Tunnel)) (id : ℕ) (u : Tunnel) → IsSmall u → AreSmall ts → AreSmall (put ts id u)
unfolding AreSmall
small_put ts id u few small i t found =
    ⊎_elim (λ h. subst (λ (x : Tunnel). IsSmall x) h.1 few) (λ h. small i t h.1) (found_put ts id u i t found)

small_without : (ts : List (ℕ × Tunnel)) (id : ℕ) → Ascends ts → AreSmall ts → AreSmall (without ts id)
unfolding AreSmall
small_without ts id ascends small i t found = small i t (found_without ts id i t ascends found).1

-- ---- what is kept

-- an index of nothing
abbrev pub IsEmpty : Listing → Type 0
IsEmpty x = (labels : ℕ → Option ℕ) → ((i : ℕ) → labels i ≡ None) → Lists x labels

pub kept_empty : (x : Listings) → IsEmpty x.remotes → IsEmpty x.states → IsEmpty x.lines → IsEmpty x.answers
    → (ts : List (ℕ × Tunnel)) → ts ≡ [] → AreKept x ts
kept_empty x remotes states lines answers ts empty = record {
  ascend = ascends-empty ts empty;
  within = within_empty ts empty;
  small = small_empty ts empty;
  remotes = remotes (listed remote_in ts) (none_labelled remote_in ts empty);
  states = states (listed state_in ts) (none_labelled state_in ts empty);
  lines = lines (listed line_in ts) (none_labelled line_in ts empty);
  answers = answers (listed answer_in ts) (none_labelled answer_in ts empty);
}

-- an index that lists the same
abbrev pub AreAlike : Listing → Listing → Type 0
AreAlike x y = (labels : ℕ → Option ℕ) → Lists x labels → Lists y labels

pub kept_alike : (x y : Listings) → AreAlike x.remotes y.remotes → AreAlike x.states y.states → AreAlike x.lines y.lines
    → AreAlike x.answers y.answers → (ts : List (ℕ × Tunnel)) → AreKept x ts → AreKept y ts
kept_alike x y remotes states lines answers ts kept = record {
  ascend = kept.ascend;
  within = kept.within;
  small = kept.small;
  remotes = remotes (listed remote_in ts) kept.remotes;
  states = states (listed state_in ts) kept.states;
  lines = lines (listed line_in ts) kept.lines;
  answers = answers (listed answer_in ts) kept.answers;
}

pub kept_put : (x y : Listings) (ts : List (ℕ × Tunnel)) (id : ℕ) (before : Option Labels) (l : Labels) (t : Tunnel) → id < 4294967296
    → labels_in ts id ≡ before → labels_of t ≡ l → IsSmall t → AreRelabelled x y id before (Some l) → AreKept x ts → AreKept y (put ts id t)
kept_put x y ts id before l t few was is small are kept = record {
  ascend = ascends-put id t ts kept.ascend;
  within = within_put ts id t few kept.within;
  small = small_put ts id t small kept.small;
  remotes = listed_put remote_in x.remotes y.remotes ts id before l t was is are.remotes kept.remotes;
  states = listed_put state_in x.states y.states ts id before l t was is are.states kept.states;
  lines = listed_put line_in x.lines y.lines ts id before l t was is are.lines kept.lines;
  answers = listed_put answer_in x.answers y.answers ts id before l t was is are.answers kept.answers;
}

-- the same label is given again
stays : (x : Listing) (id : ℕ) (l : Option ℕ) → IsRelabelled x x id l l
unfolding Lists
stays x id l labels next lists was is others whole k i lt =
    let same : next i ≡ labels i = ⊎_elim
    (λ (e : i ≡ id). ap next e ∙ is ∙ sym was ∙ sym (ap labels e)) (λ (apart : i ≡ id → ⊥). others i apart) (same_or_not i id) in
    lists whole k i lt ∙ ap (has_label k) (sym same)

pub same_labels : (x : Listings) (id : ℕ) (before after : Option Labels) → before ≡ after → AreRelabelled x x id before after
same_labels x id before after same = subst (AreRelabelled x x id before) same (record {
  remotes = stays x.remotes id (label_in remote_in before);
  states = stays x.states id (label_in state_in before);
  lines = stays x.lines id (label_in line_in before);
  answers = stays x.answers id (label_in answer_in before);
})

-- a tunnel that keeps its labels by a plan is listed as it was
labels_stay : (p : Plan) (t : Tunnel) → StaysLabelled p t → labels_of (made_of p t) ≡ labels_of t
labels_stay p t h = rw (h.recovery, sym h.peer, sym h.remote, sym h.state) refl

small_stays : (p : Plan) (t : Tunnel) → StaysLabelled p t → IsSmall t → IsSmall (made_of p t)
small_stays p t h small = rw (h.recovery, sym h.remote) small

pub kept_stays : (x : Listings) (ts : List (ℕ × Tunnel)) (id : ℕ) (p : Plan) (t : Tunnel) → id < 4294967296 → at ts id ≡ Some t
    → StaysLabelled p t → AreKept x ts → AreKept x (put ts id (made_of p t))
unfolding AreSmall
kept_stays x ts id p t few there stays kept =
    let before = Some (labels_of t) in
    kept_put x x ts id before (labels_of t) (made_of p t) few (ap (option_map labels_of) there) (labels_stay p t stays)
    (small_stays p t stays (kept.small id t there)) (same_labels x id before before refl) kept

pub kept_without : (x y : Listings) (ts : List (ℕ × Tunnel)) (id : ℕ) (before : Option Labels) → id < 4294967296 → labels_in ts id ≡ before
    → AreRelabelled x y id before None → AreKept x ts → AreKept y (without ts id)
kept_without x y ts id before few was are kept = record {
  ascend = ascends-without id ts kept.ascend;
  within = within_without ts id few kept.within;
  small = small_without ts id kept.ascend kept.small;
  remotes = listed_without remote_in x.remotes y.remotes ts id before kept.ascend was are.remotes kept.remotes;
  states = listed_without state_in x.states y.states ts id before kept.ascend was are.states kept.states;
  lines = listed_without line_in x.lines y.lines ts id before kept.ascend was are.lines kept.lines;
  answers = listed_without answer_in x.answers y.answers ts id before kept.ascend was are.answers kept.answers;
}

-- ---- the least tunnel with a label

-- a label that may be wanting, as one that is there: another one in its place
abbrev in_full : ℕ → (Labels → Option ℕ) → Tunnel → ℕ
in_full l label t = unwrap_or (label (labels_of t)) (suc l)

full_by : (l : ℕ) (o : Option ℕ) → has_label l o ≡ has_label l (Some (unwrap_or o (suc l)))
full_by l None = grind (arith, nat_tests)
full_by l (Some m) = refl

full_at : (l : ℕ) (label : Labels → Option ℕ) (o : Option Tunnel)
    → has_label l (label_in label (option_map labels_of o)) ≡ has_label l (option_map (in_full l label) o)
full_at l label None = refl
full_at l label (Some t) = full_by l (label (labels_of t))

same_first : (a b : ℕ → Option ℕ) (l : ℕ) (o : Option ℕ) → ((i : ℕ) → has_label l (a i) ≡ has_label l (b i)) → IsFirst a l o → IsFirst b l o
unfolding IsFirst
same_first a b l None same first = λ i lt. sym (same i) ∙ first i lt
same_first a b l (Some i) same first = (first.0, sym (same i) ∙ first.1, λ j lt. sym (same j) ∙ first.2 j lt)

-- the least that passes a test for a label is the one that the index tells
found : (label : Labels → Option ℕ) (ts : List (ℕ × Tunnel)) (p : ℕ → Bool) (l : ℕ) (o : Option ℕ) → (x : Listings) → AreKept x ts
    → ((i : ℕ) → p i ≡ has_label l (listed label ts i)) → IsFirst (listed label ts) l o → find p (ids_of ts) ≡ o
found label ts p l o x kept tests first =
    first_found (in_full l label) ts p l o kept.ascend kept.within
    (λ i. tests i ∙ full_at l label (at ts i))
    (same_first (listed label ts) (λ i. option_map (in_full l label) (at ts i)) l o (λ i. full_at l label (at ts i)) first)

state_small : (s : TunnelState) → state_number s < 8
state_small Idle = omega arith
state_small WaitCtlReply = omega arith
state_small WaitCtlConn = omega arith
state_small Established = omega arith
state_small Closed = omega arith

remote_pair : (a b p r : ℕ) → b < 65536 → r < 65536 → (a == p && b == r) ≡ (a * 65536 + b == p * 65536 + r)
remote_pair a b p r small few = grind (arith, nat_tests)

state_pair : (a b p r : ℕ) → b < 8 → r < 8 → (b == r && a == p) ≡ (a * 8 + b == p * 8 + r)
state_pair a b p r small few = grind (arith, nat_tests)

known_by : (peer remote : ℕ) → remote < 65536 → (o : Option Tunnel) → ((t : Tunnel) → o ≡ Some t → IsSmall t)
    → is_known peer remote o ≡ has_label (remote_label peer remote) (label_in remote_in (option_map labels_of o))
known_by peer remote few None small = refl
known_by peer remote few (Some t) small = remote_pair t.control.peer t.control.remote peer remote (small t refl).0 few

pub first_known : (x : Listings) (ts : List (ℕ × Tunnel)) (peer remote : ℕ) (o : Option ℕ) → remote < 65536
    → ((labels : ℕ → Option ℕ) → Lists x.remotes labels → IsFirst labels (remote_label peer remote) o) → AreKept x ts → known_as peer remote ts ≡ o
unfolding known_as AreSmall
first_known x ts peer remote o few first kept =
    found remote_in ts (λ i. is_known peer remote (at ts i)) (remote_label peer remote) o x kept
    (λ i. known_by peer remote few (at ts i) (kept.small i)) (first (listed remote_in ts) kept.remotes)

below : (s : TunnelState) → state_number s < 5
below Idle = omega arith
below WaitCtlReply = omega arith
below WaitCtlConn = omega arith
below Established = omega arith
below Closed = omega arith

apart : (n a p : ℕ) (b : Bool) → n < 5 → (b && false) ≡ (a * 8 + 5 == p * 8 + n)
apart n a p b few = grind (arith, nat_tests)

and_true : (b : Bool) → (b && true) ≡ b
and_true true = refl
and_true false = refl

-- a current tunnel is found by its state, and no other one is
in_mode : (s : TunnelState) (peer : ℕ) (c : Control) (m : Mode)
    → ((state_number c.state == state_number s && c.peer == peer) && is_current m) ≡ (c.peer * 8 + number_by m c.state == peer * 8 + state_number s)
in_mode s peer c Current = and_true (state_number c.state == state_number s && c.peer == peer) ∙ state_pair c.peer (state_number c.state) peer (state_number s) (state_small c.state) (state_small s)
in_mode s peer c Frozen = apart (state_number s) c.peer peer (state_number c.state == state_number s && c.peer == peer) (below s)
in_mode s peer c Restored = apart (state_number s) c.peer peer (state_number c.state == state_number s && c.peer == peer) (below s)

in_by : (s : TunnelState) (peer : ℕ) (o : Option Tunnel)
    → is_in s peer o ≡ has_label (state_label peer (state_number s)) (label_in state_in (option_map labels_of o))
in_by s peer None = refl
in_by s peer (Some t) = in_mode s peer t.control (mode_of t.recovery)

pub first_in : (x : Listings) (ts : List (ℕ × Tunnel)) (s : TunnelState) (peer : ℕ) (o : Option ℕ)
    → ((labels : ℕ → Option ℕ) → Lists x.states labels → IsFirst labels (state_label peer (state_number s)) o) → AreKept x ts → least_in s peer ts ≡ o
unfolding least_in
first_in x ts s peer o first kept =
    found state_in ts (λ i. is_in s peer (at ts i)) (state_label peer (state_number s)) o x kept
    (λ i. in_by s peer (at ts i)) (first (listed state_in ts) kept.states)

-- ---- tunnels that are recovered

differs : (n a p : ℕ) (b : Bool) → n < 5 → (b && false) ≡ (a * 8 + n == p * 8 + 5)
differs n a p b few = grind (arith, nat_tests)

recovering_mode : (peer : ℕ) (c : Control) (m : Mode)
    → (c.peer == peer && not (is_current m)) ≡ (c.peer * 8 + number_by m c.state == peer * 8 + recovering_number)
recovering_mode peer c Current = differs (state_number c.state) c.peer peer (c.peer == peer) (below c.state)
recovering_mode peer c Frozen = grind (arith, nat_tests)
recovering_mode peer c Restored = grind (arith, nat_tests)

recovering_by : (peer : ℕ) (o : Option Tunnel) → is_recovering peer o ≡ has_label (state_label peer recovering_number) (label_in state_in (option_map labels_of o))
recovering_by peer None = refl
recovering_by peer (Some t) = recovering_mode peer t.control (mode_of t.recovery)

pub first_recovering : (x : Listings) (ts : List (ℕ × Tunnel)) (peer : ℕ) (o : Option ℕ)
    → ((labels : ℕ → Option ℕ) → Lists x.states labels → IsFirst labels (state_label peer recovering_number) o) → AreKept x ts
    → are_recovering peer ts ≡ is_some o
unfolding are_recovering
first_recovering x ts peer o first kept =
    ap (λ (p : Option ℕ). is_some p)
    (found state_in ts (λ i. is_recovering peer (at ts i)) (state_label peer recovering_number) o x kept
    (λ i. recovering_by peer (at ts i)) (first (listed state_in ts) kept.states))

line_is : (id : ℕ) (t : Tunnel) (r : Option Recovering) → t.recovery ≡ r → has_line id (Some t) ≡ has_label id (line_in (labels_of t))
line_is id t None is = rw is refl
line_is id t (Some r) is = rw is refl

lined : (id : ℕ) (o : Option Tunnel) → has_line id o ≡ has_label id (label_in line_in (option_map labels_of o))
lined id None = refl
lined id (Some t) = line_is id t t.recovery refl

pub first_recovered : (x : Listings) (ts : List (ℕ × Tunnel)) (id : ℕ) (o : Option ℕ)
    → ((labels : ℕ → Option ℕ) → Lists x.lines labels → IsFirst labels id o) → AreKept x ts → recovered_by id ts ≡ o
unfolding recovered_by
first_recovered x ts id o first kept =
    found line_in ts (λ i. has_line id (at ts i)) id o x kept (λ i. lined id (at ts i)) (first (listed line_in ts) kept.lines)

answer_is : (peer remote : ℕ) (t : Tunnel) → remote < 65536 → IsSmall t → (r : Option Recovering) → t.recovery ≡ r
    → is_answered peer remote (Some t) ≡ has_label (remote_label peer remote) (answer_in (labels_of t))
answer_is peer remote t few small None is = rw is (no_answer (t.control.peer == peer))
  where
    no_answer : (b : Bool) → (b && false) ≡ false
    no_answer true = refl
    no_answer false = refl
answer_is peer remote t few small (Some (ByAttempt c)) is = rw is (no_answer (t.control.peer == peer))
  where
    no_answer : (b : Bool) → (b && false) ≡ false
    no_answer true = refl
    no_answer false = refl
answer_is peer remote t few small (Some (ByAnswer a)) is =
    let short : a.connection.remote < 65536 = rw is at small.1 in
    rw is (remote_pair t.control.peer a.connection.remote peer remote short few)

answered : (peer remote : ℕ) → remote < 65536 → (o : Option Tunnel) → ((t : Tunnel) → o ≡ Some t → IsSmall t)
    → is_answered peer remote o ≡ has_label (remote_label peer remote) (label_in answer_in (option_map labels_of o))
answered peer remote few None small = refl
answered peer remote few (Some t) small = answer_is peer remote t few (small t refl) t.recovery refl

pub first_answered : (x : Listings) (ts : List (ℕ × Tunnel)) (peer remote : ℕ) (o : Option ℕ) → remote < 65536
    → ((labels : ℕ → Option ℕ) → Lists x.answers labels → IsFirst labels (remote_label peer remote) o) → AreKept x ts → answered_to peer remote ts ≡ o
unfolding answered_to AreSmall
first_answered x ts peer remote o few first kept =
    found answer_in ts (λ i. is_answered peer remote (at ts i)) (remote_label peer remote) o x kept
    (λ i. answered peer remote few (at ts i) (kept.small i)) (first (listed answer_in ts) kept.answers)
