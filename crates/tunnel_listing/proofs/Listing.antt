-- What the indexes list, as a tunnel is listed anew, and the least tunnel that is looked for.
use Rattle.std.specs.Prelude.{◌≡◌, ◌≢◌, ℕ, ◌+◌, ◌*◌, ◌<◌, ◌==◌, ◌&&◌, Bool, true, false, not, Option, Some, None, IfSome}
use Rattle.std.proofs.Common.{refl, ap, subst, sym, ◌∙◌, ⊎_elim, arith}
use Rattle.std.proofs.lemmas.Bool.Decides.{nat_tests}
use Rattle.id_table.specs.Order.{same_or_not}
use Rattle.id_index.specs.Keys.{has_label}
use Rattle.id_index.specs.Indexes.{Listing, Lists, IsFirst}
use Rattle.tunnel_fsm.specs.declared.table.TunnelState.{TunnelState}
use Rattle.tunnel_fsm.specs.declared.table.TunnelState.TheVariants.{Idle, WaitCtlReply, WaitCtlConn, Established, Closed}
use Rattle.tunnel_fsm.specs.Rows.{state_number}
use Rattle.end_model.specs.declared.tunnel.Mode.{Mode}
use Rattle.end_model.specs.declared.tunnel.Mode.TheVariants.{Current, Frozen, Restored}
use Rattle.end_model.specs.Tunnels.{is_current}
use Rattle.tunnel_listing.specs.declared.listed.Listed.{Listed}
use Rattle.tunnel_listing.specs.declared.listed.Wanted.{Wanted}
use Rattle.tunnel_listing.specs.declared.listed.Wanted.TheVariants.{Known, Answered, Recovered, In, Recovering}
use Rattle.tunnel_listing.specs.Listed.{is_told, is_wanted, is_wanted_at}
use Rattle.tunnel_listing.specs.Labels.{remote_label, state_label, number_by, recovering_number, remote_in, state_in, line_in, answer_in, label_at, IsSmall, AreSmall, Listings, AreIndexed, AreRelabelled, IsFirstWanted}

-- ---- what is listed

-- an index of nothing
abbrev pub IsEmpty : Listing → Type 0
IsEmpty x = (labels : ℕ → Option ℕ) → ((i : ℕ) → labels i ≡ None) → Lists x labels

pub indexed_empty : (x : Listings) → IsEmpty x.remotes → IsEmpty x.states → IsEmpty x.lines → IsEmpty x.answers
    → (f : ℕ → Option Listed) → ((i : ℕ) → f i ≡ None) → AreIndexed x f
unfolding AreSmall
indexed_empty x remotes states lines answers f none = record {
  small = λ i. subst (λ (o : Option Listed). IfSome o IsSmall) (sym (none i)) tt;
  remotes = remotes (λ i. label_at remote_in (f i)) (λ i. ap (label_at remote_in) (none i));
  states = states (λ i. label_at state_in (f i)) (λ i. ap (label_at state_in) (none i));
  lines = lines (λ i. label_at line_in (f i)) (λ i. ap (label_at line_in) (none i));
  answers = answers (λ i. label_at answer_in (f i)) (λ i. ap (label_at answer_in) (none i));
}

-- an index that lists the same
abbrev pub AreAlike : Listing → Listing → Type 0
AreAlike x y = (labels : ℕ → Option ℕ) → Lists x labels → Lists y labels

pub indexed_alike : (x y : Listings) → AreAlike x.remotes y.remotes → AreAlike x.states y.states → AreAlike x.lines y.lines
    → AreAlike x.answers y.answers → (f : ℕ → Option Listed) → AreIndexed x f → AreIndexed y f
indexed_alike x y remotes states lines answers f kept = record {
  small = kept.small;
  remotes = remotes (λ i. label_at remote_in (f i)) kept.remotes;
  states = states (λ i. label_at state_in (f i)) kept.states;
  lines = lines (λ i. label_at line_in (f i)) kept.lines;
  answers = answers (λ i. label_at answer_in (f i)) kept.answers;
}

small_changed : (f g : ℕ → Option Listed) (id : ℕ) (after : Option Listed) → g id ≡ after → ((i : ℕ) → i ≢ id → g i ≡ f i) → IfSome after IsSmall
    → AreSmall f → AreSmall g
unfolding AreSmall
small_changed f g id after is others few small i =
    ⊎_elim
    (λ (e : i ≡ id). subst (λ (o : Option Listed). IfSome o IsSmall) (sym (ap g e ∙ is)) few)
    (λ (apart : i ≡ id → ⊥). subst (λ (o : Option Listed). IfSome o IsSmall) (sym (others i apart)) (small i))
    (same_or_not i id)

pub indexed_change : (x y : Listings) (f g : ℕ → Option Listed) (id : ℕ) (before after : Option Listed) → AreRelabelled x y id before after
    → f id ≡ before → g id ≡ after → ((i : ℕ) → i ≢ id → g i ≡ f i) → IfSome after IsSmall → AreIndexed x f → AreIndexed y g
indexed_change x y f g id before after are was is others few kept = record {
  small = small_changed f g id after is others few kept.small;
  remotes =
      are.remotes (λ i. label_at remote_in (f i)) (λ i. label_at remote_in (g i)) kept.remotes (ap (label_at remote_in) was)
      (ap (label_at remote_in) is) (λ i apart. ap (label_at remote_in) (others i apart));
  states =
      are.states (λ i. label_at state_in (f i)) (λ i. label_at state_in (g i)) kept.states (ap (label_at state_in) was)
      (ap (label_at state_in) is) (λ i apart. ap (label_at state_in) (others i apart));
  lines =
      are.lines (λ i. label_at line_in (f i)) (λ i. label_at line_in (g i)) kept.lines (ap (label_at line_in) was)
      (ap (label_at line_in) is) (λ i apart. ap (label_at line_in) (others i apart));
  answers =
      are.answers (λ i. label_at answer_in (f i)) (λ i. label_at answer_in (g i)) kept.answers (ap (label_at answer_in) was)
      (ap (label_at answer_in) is) (λ i apart. ap (label_at answer_in) (others i apart));
}

-- ---- what is looked for

-- where a label tells which tunnels are looked for, the least with it is the least of these
by_label : (w : Wanted) (f : ℕ → Option Listed) (label : Listed → Option ℕ) (l : ℕ) (o : Option ℕ)
    → ((i : ℕ) → is_wanted_at w (f i) ≡ has_label l (label_at label (f i)))
    → IsFirst (λ i. label_at label (f i)) l o → IsFirstWanted w f o
unfolding IsFirst IsFirstWanted
by_label w f label l None tests first = λ i lt. tests i ∙ first i lt
by_label w f label l (Some i) tests first = (first.0, tests i ∙ first.1, λ j lt. tests j ∙ first.2 j lt)

remote_pair : (a b p r : ℕ) → b < 65536 → r < 65536 → (a == p && b == r) ≡ (a * 65536 + b == p * 65536 + r)
remote_pair a b p r small few = grind (arith, nat_tests)

state_pair : (a b p r : ℕ) → b < 8 → r < 8 → (b == r && a == p) ≡ (a * 8 + b == p * 8 + r)
state_pair a b p r small few = grind (arith, nat_tests)

and_false : (b : Bool) → (b && false) ≡ false
and_false true = refl
and_false false = refl

and_true : (b : Bool) → (b && true) ≡ b
and_true true = refl
and_true false = refl

known_at : (peer remote : ℕ) → remote < 65536 → (o : Option Listed) → IfSome o IsSmall
    → is_wanted_at (Known peer remote) o ≡ has_label (remote_label peer remote) (label_at remote_in o)
known_at peer remote few None small = refl
known_at peer remote few (Some l) small = remote_pair l.peer l.remote peer remote small.0 few

answered_by : (peer remote p : ℕ) → remote < 65536 → (a : Option ℕ) → IfSome a (λ r. r < 65536) → (l : Listed) → l.answered ≡ a → l.peer ≡ p
    → is_wanted (Answered peer remote) l ≡ has_label (remote_label peer remote) (answer_in l)
answered_by peer remote p few None small l is at = rw is (and_false (l.peer == peer))
answered_by peer remote p few (Some r) small l is at = rw is (remote_pair l.peer r peer remote small few)

answered_at : (peer remote : ℕ) → remote < 65536 → (o : Option Listed) → IfSome o IsSmall
    → is_wanted_at (Answered peer remote) o ≡ has_label (remote_label peer remote) (label_at answer_in o)
answered_at peer remote few None small = refl
answered_at peer remote few (Some l) small = answered_by peer remote l.peer few l.answered small.1 l refl refl

lined : (line : ℕ) (o : Option ℕ) → is_told o line ≡ has_label line o
lined line None = refl
lined line (Some i) = refl

recovered_at : (line : ℕ) (o : Option Listed) → is_wanted_at (Recovered line) o ≡ has_label line (label_at line_in o)
recovered_at line None = refl
recovered_at line (Some l) = lined line l.line

below : (s : TunnelState) → state_number s < 5
below Idle = omega arith
below WaitCtlReply = omega arith
below WaitCtlConn = omega arith
below Established = omega arith
below Closed = omega arith

few_states : (s : TunnelState) → state_number s < 8
few_states s = let b = below s in omega arith

apart_in : (n a p : ℕ) (b : Bool) → n < 5 → (b && false) ≡ (a * 8 + 5 == p * 8 + n)
apart_in n a p b few = grind (arith, nat_tests)

-- a current tunnel is found by its state, and no other one is
in_mode : (s t : TunnelState) (peer p : ℕ) (m : Mode)
    → ((state_number t == state_number s && p == peer) && is_current m) ≡ (p * 8 + number_by m t == peer * 8 + state_number s)
in_mode s t peer p Current =
    and_true (state_number t == state_number s && p == peer) ∙ state_pair p (state_number t) peer (state_number s) (few_states t) (few_states s)
in_mode s t peer p Frozen = apart_in (state_number s) p peer (state_number t == state_number s && p == peer) (below s)
in_mode s t peer p Restored = apart_in (state_number s) p peer (state_number t == state_number s && p == peer) (below s)

in_at : (s : TunnelState) (peer : ℕ) (o : Option Listed)
    → is_wanted_at (In s peer) o ≡ has_label (state_label peer (state_number s)) (label_at state_in o)
in_at s peer None = refl
in_at s peer (Some l) = in_mode s l.state peer l.peer l.mode

differs : (n a p : ℕ) (b : Bool) → n < 5 → (b && false) ≡ (a * 8 + n == p * 8 + 5)
differs n a p b few = grind (arith, nat_tests)

recovering_mode : (t : TunnelState) (peer p : ℕ) (m : Mode)
    → (p == peer && not (is_current m)) ≡ (p * 8 + number_by m t == peer * 8 + recovering_number)
recovering_mode t peer p Current = differs (state_number t) p peer (p == peer) (below t)
recovering_mode t peer p Frozen = grind (arith, nat_tests)
recovering_mode t peer p Restored = grind (arith, nat_tests)

recovering_at : (peer : ℕ) (o : Option Listed) → is_wanted_at (Recovering peer) o ≡ has_label (state_label peer recovering_number) (label_at state_in o)
recovering_at peer None = refl
recovering_at peer (Some l) = recovering_mode l.state peer l.peer l.mode

-- ---- the least that each index tells

pub first_known : (x : Listings) (f : ℕ → Option Listed) (peer remote : ℕ) (o : Option ℕ) → remote < 65536
    → ((labels : ℕ → Option ℕ) → Lists x.remotes labels → IsFirst labels (remote_label peer remote) o) → AreIndexed x f
    → IsFirstWanted (Known peer remote) f o
unfolding AreSmall
first_known x f peer remote o few first kept =
    by_label (Known peer remote) f remote_in (remote_label peer remote) o (λ i. known_at peer remote few (f i) (kept.small i))
    (first (λ i. label_at remote_in (f i)) kept.remotes)

pub first_answered : (x : Listings) (f : ℕ → Option Listed) (peer remote : ℕ) (o : Option ℕ) → remote < 65536
    → ((labels : ℕ → Option ℕ) → Lists x.answers labels → IsFirst labels (remote_label peer remote) o) → AreIndexed x f
    → IsFirstWanted (Answered peer remote) f o
unfolding AreSmall
first_answered x f peer remote o few first kept =
    by_label (Answered peer remote) f answer_in (remote_label peer remote) o (λ i. answered_at peer remote few (f i) (kept.small i))
    (first (λ i. label_at answer_in (f i)) kept.answers)

pub first_recovered : (x : Listings) (f : ℕ → Option Listed) (line : ℕ) (o : Option ℕ)
    → ((labels : ℕ → Option ℕ) → Lists x.lines labels → IsFirst labels line o) → AreIndexed x f → IsFirstWanted (Recovered line) f o
first_recovered x f line o first kept =
    by_label (Recovered line) f line_in line o (λ i. recovered_at line (f i)) (first (λ i. label_at line_in (f i)) kept.lines)

pub first_in : (x : Listings) (f : ℕ → Option Listed) (s : TunnelState) (peer : ℕ) (o : Option ℕ)
    → ((labels : ℕ → Option ℕ) → Lists x.states labels → IsFirst labels (state_label peer (state_number s)) o) → AreIndexed x f
    → IsFirstWanted (In s peer) f o
first_in x f s peer o first kept =
    by_label (In s peer) f state_in (state_label peer (state_number s)) o (λ i. in_at s peer (f i))
    (first (λ i. label_at state_in (f i)) kept.states)

pub first_recovering : (x : Listings) (f : ℕ → Option Listed) (peer : ℕ) (o : Option ℕ)
    → ((labels : ℕ → Option ℕ) → Lists x.states labels → IsFirst labels (state_label peer recovering_number) o) → AreIndexed x f
    → IsFirstWanted (Recovering peer) f o
first_recovering x f peer o first kept =
    by_label (Recovering peer) f state_in (state_label peer recovering_number) o (λ i. recovering_at peer (f i))
    (first (λ i. label_at state_in (f i)) kept.states)
