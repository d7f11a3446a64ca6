-- How far the numbers of letters go in a step, of whatever epoch.
use Rattle.std.proofs.Common.{◌≡◌, ◌⊎◌, inl, inr, ⊎_elim, ℕ, ◌+◌, ◌*◌, ◌%◌, ◌^◌, ◌<◌, ◌≤◌, Bool, true, false, cond, eqb, length, refl, sym, ap, ◌∙◌, subst, Some, arith}
use Rattle.std.proofs.lemmas.Bool.{eqb-true}
use Rattle.std.proofs.lemmas.Bool.Decides.{nat_tests}
use Rattle.std.specs.Prelude.{nat_le, ◌==◌, ◌&&◌, if◌then◌else◌}
use Rattle.id_table.specs.Ids.{at, put}
use Rattle.id_table.specs.Order.{at_new, same_or_not}
use Rattle.send_window.specs.Kept.{Window}
use Rattle.send_window.specs.Window as sending
use Rattle.control_channel.specs.Numbers.{Numbers, acked_at}
use Rattle.end_model.specs.declared.event.Event.{Event}
use Rattle.end_model.specs.declared.moves.Move.{Move}
use Rattle.end_model.specs.declared.moves.Move.TheVariants as move
use Rattle.end_model.specs.Tunnels.{Tunnel}
use Rattle.end_model.specs.End.{End}
use Rattle.world_model.specs.World.{World, Deed, epoch_of}
use Rattle.step_laws.specs.Moves.{Does}
use Rattle.step_laws.specs.Steps.{IsOfNoStart}
use Rattle.step_laws.specs.Ups.{reads_of_move}
use Rattle.channel_laws.specs.Accounts.{Part, Unmade, Opener, Acceptor, Renewed, Account, History, about, declines_of, declined_by, declined_in, entered_by, after_deed, after}
use Rattle.channel_laws.specs.Facts.{IsMade, EndOk, Holds}
use Rattle.channel_laws.specs.Steps.{NumbersFit, CountsFit}
pub use Rattle.channel_laws.specs.Whole.{Below}
use Rattle.channel_laws.proofs.Linked.{part_cases, opener_of, acceptor_of, renewed_of, unlearned_small, nearby}
use Rattle.channel_laws.proofs.Numbering.{IsActive, acked_of, Counted, Stays, Takes, Reads, Begins, Resets}

-- ---- what is acknowledged

abbrev pub ActiveBelow : End → ℕ → Type 0
ActiveBelow e top = (i : ℕ) (t : Tunnel) → at e.tunnels i ≡ Some t → IsActive t → acked_of t ≤ top

-- Nr acknowledges no more than is on the wire
count_few : (w : Window) (nr : ℕ) → sending.count_acked w nr ≤ w.outstanding
count_few w nr =
    let d = sending.distance (w.acked % 2 ^ 16) nr in
    by (nat_le d w.outstanding) d refl
  where
    by : (b : Bool) (d : ℕ) → nat_le d w.outstanding ≡ b → cond b d 0 ≤ w.outstanding
    by true d is = grind (arith, nat_tests)
    by false d is = omega arith

acked_few : (c : Numbers) (nr moment top : ℕ) → c.window.acked ≤ top → c.window.outstanding ≤ 8192 → (acked_at c nr moment).window.acked ≤ top + 8192
acked_few c nr moment top le few =
    let count = sending.count_acked c.window nr in
    let small = count_few c.window nr in
    let sum : (c.window.acked + count) % 2 ^ 64 ≤ top + 8192 = omega (arith, le, few, small) in
    by (eqb count 0) c.window _ (omega (arith, le)) sum
  where
    by : (b : Bool) (x y : Window) → x.acked ≤ top + 8192 → y.acked ≤ top + 8192 → (cond b x y).acked ≤ top + 8192
    by true x y p q = p
    by false x y p q = q

module _ (w : World) (h : History) (n : ℕ) (e x : End) (ok : EndOk w h n e) (moment : ℕ) (ev : Event) (m : Move) (top : ℕ) (below : ActiveBelow e top)
    (enough : 65535 ≤ top) where
  out_few : (j : ℕ) (t : Tunnel) → at e.tunnels j ≡ Some t → IsActive t → t.control.channel.window.outstanding ≤ 8192
  out_few j t was on = let c = (ok.live j t was).channel on in let out = c.outstanding in let few = c.few in omega (arith, out, few)

  pub active_then : ((j : ℕ) (u : Tunnel) → at x.tunnels j ≡ Some u → IsActive u → Counted e moment ev m j u) → ActiveBelow x (top + 8192 * length (reads_of_move m))
  active_then counts j u there active = by (counts j u there active)
    where
      by : Counted e moment ev m j u → acked_of u ≤ top + 8192 * length (reads_of_move m)
      by (Stays t was on same) = let le = below j t was on in let same_acked = same.acked in omega (arith, le, same_acked)
      by (Takes t c was on next goes more acked) = let le = below j t was on in omega (arith, le, acked)
      by (Reads t nr one was on tells goes remote taken acked) =
          let le = acked_few t.control.channel nr moment top (below j t was on) (out_few j t was on) in omega (arith, le, acked, one)
      by (Begins first it taken acked) = omega (arith, acked)
      by (Resets t reset it was off state acked) = omega (arith, acked, enough)

-- ---- letters that are given

-- a tunnel that is active
pub record HasActive (x : End) (i : ℕ) : Type 0 where
  pub tunnel : Tunnel
  pub there : at x.tunnels i ≡ Some tunnel
  pub active : IsActive tunnel

put_active : (e x : End) (k : ℕ) (u : Tunnel) → x ≡ x → x.tunnels ≡ put e.tunnels k u → IsActive u → HasActive x k
put_active e x k u same puts active = record { tunnel = u; there = ap (λ l. at l k) puts ∙ at_new e.tunnels k u; active = active }

abbrev GivesTo : Deed → Move → End → Account → Type 0
GivesTo d m x a = (length (entered_by d m a).given ≤ length a.given) ⊎ HasActive x (about m)

tunnels_are : (x y : End) → x ≡ y → x.tunnels ≡ y.tunnels
tunnels_are x y same = ap (λ (e : End). e.tunnels) same

less : (a : Account) → length a.given ≤ length a.given
less a = omega arith

gives_to : (e x : End) (moment : ℕ) (ev : Event) (m : Move) → IsOfNoStart m → (d : Deed) (a : Account) → Does e moment ev m x → GivesTo d m x a
gives_to e x moment ev (move.Opened m) start d a h = inr (put_active e x m.tunnel _ refl (tunnels_are x _ h.after) refl)
gives_to e x moment ev (move.Accepted m) start d a h = inr (put_active e x m.tunnel _ refl (tunnels_are x _ h.after) refl)
gives_to e x moment ev (move.Connected m) start d a h = inr (put_active e x m.tunnel _ refl (tunnels_are x _ h.after) h.current)
gives_to e x moment ev (move.Requested m) start d a h = inr (put_active e x m.tunnel _ refl (tunnels_are x _ h.after) h.current)
gives_to e x moment ev (move.Replied m) start d a h = inr (put_active e x m.tunnel _ refl (tunnels_are x _ h.after) h.current)
gives_to e x moment ev (move.FirstUp m) start d a h = inr (put_active e x m.tunnel _ refl (tunnels_are x _ h.after) h.current)
gives_to e x moment ev (move.Refused m) start d a h = inr (put_active e x m.tunnel _ refl (tunnels_are x _ h.after) h.current)
gives_to e x moment ev (move.EndTold m) start d a h = inr (put_active e x m.tunnel _ refl (tunnels_are x _ h.after) h.current)
gives_to e x moment ev (move.Rejected m) start d a h = inr (put_active e x m.tunnel _ refl (tunnels_are x _ h.after) h.current)
gives_to e x moment ev (move.Closed m) start d a h = inr (put_active e x m.tunnel _ refl (tunnels_are x _ h.after) h.current)
gives_to e x moment ev (move.Greeted m) start d a h = inr (put_active e x m.tunnel _ refl (tunnels_are x _ h.after) h.current)
gives_to e x moment ev (move.Queried m) start d a h = inr (put_active e x m.tunnel _ refl (tunnels_are x _ h.after) h.current)
gives_to e x moment ev (move.AnsweredQuery m) start d a h = inr (put_active e x m.tunnel _ refl (tunnels_are x _ h.after) h.current)
gives_to e x moment ev (move.Confirmed m) start d a h = inl (less a)
gives_to e x moment ev (move.Added m) start d a h = inl (less a)
gives_to e x moment ev (move.TookAnswer m) start d a h = inl (less a)
gives_to e x moment ev (move.SecondUp m) start d a h = inl (less a)
gives_to e x moment ev (move.EndHeard m) start d a h = inl (less a)
gives_to e x moment ev (move.EndSilent m) start d a h = inl (less a)
gives_to e x moment ev (move.Declined m) start d a h = inl (less a)
gives_to e x moment ev (move.ClosedBy m) start d a h = inl (less a)
gives_to e x moment ev (move.TookPlain m) start d a h = inl (less a)
gives_to e x moment ev (move.NrRead m) start d a h = inl (less a)
gives_to e x moment ev (move.LetGo m) start d a h = inl (less a)
gives_to e x moment ev (move.Repeated m) start d a h = inl (less a)
gives_to e x moment ev (move.Negotiated m) start d a h = inl (less a)
gives_to e x moment ev (move.Counted m) start d a h = inl (less a)
gives_to e x moment ev (move.FrameSent m) start d a h = inl (less a)
gives_to e x moment ev (move.FrameUp m) start d a h = inl (less a)
gives_to e x moment ev (move.Froze m) start d a h = inl (less a)
gives_to e x moment ev (move.Cleared k booked) start d a h = inl (less a)
gives_to e x moment ev (move.Quiet k) start d a h = inl (less a)
gives_to e x moment ev (move.Ignored k) start d a h = inl (less a)
gives_to e x moment ev (move.RecoveryWentOn k) start d a h = inl (less a)
gives_to e x moment ev (move.RecoveryEnded k) start d a h = inl (less a)
gives_to e x moment ev (move.ResetAttempting m) start d a h = inl (omega arith)
gives_to e x moment ev (move.ResetAnswering m) start d a h = inl (omega arith)
gives_to e x moment ev (move.Restored m) start d a h = absurd start
gives_to e x moment ev (move.Forgot m) start d a h = absurd start

declined_given : (p : Part) (a : Account) → (declined_by p a).given ≡ a.given
declined_given Unmade a = refl
declined_given Opener a = refl
declined_given Acceptor a = refl
declined_given Renewed a = refl

declining_given : (b : Bool) (a : Account) → (declined_in b a).given ≡ a.given
declining_given true a = declined_given a.part a
declining_given false a = refl

three_true : (a b c : Bool) → (a && b) && c ≡ true → (a ≡ true) × (b ≡ true) × (c ≡ true)
three_true true true true is = (refl, refl, refl)
three_true true true false is = absurd cc
three_true true false c is = absurd cc
three_true false b c is = absurd cc

-- an account after a deed: of it, or of another one
after_given : (d : Deed) (n i e : ℕ) (a : Account) → ((after_deed d n i e a).given ≡ a.given)
    ⊎ ((d.node ≡ n) × (about d.move ≡ i) × (d.epoch ≡ e) × ((after_deed d n i e a).given ≡ (entered_by d d.move a).given))
after_given d n i e a = by (((d.node == n) && (about d.move == i)) && (d.epoch == e)) refl
  where
    by : (b : Bool) → ((d.node == n) && (about d.move == i)) && (d.epoch == e) ≡ b → ((declined_in (declines_of d.move n i && (e == 0)) (if b then entered_by d d.move a else a)).given ≡ a.given)
        ⊎ ((d.node ≡ n) × (about d.move ≡ i) × (d.epoch ≡ e) × ((declined_in (declines_of d.move n i && (e == 0)) (if b then entered_by d d.move a else a)).given ≡ (entered_by d d.move a).given))
    by true is =
        let q = three_true (d.node == n) (about d.move == i) (d.epoch == e) is in
        inr (eqb-true d.node n q.0, eqb-true (about d.move) i q.1, eqb-true d.epoch e q.2, declining_given (declines_of d.move n i && (e == 0)) (entered_by d d.move a))
    by false is = inl (declining_given (declines_of d.move n i && (e == 0)) a)

-- no more are given than are acknowledged or queued
module _ (v : World) (g : History) (n : ℕ) (x : End) (ok : EndOk v g n x) (top most : ℕ) (below : ActiveBelow x top) (room : top + 8192 ≤ most) where
  active_given : (i e : ℕ) → e ≡ epoch_of v n i → HasActive x i → length (g.accounts n i e).given ≤ most
  active_given i e is a =
      let c = (ok.live i a.tunnel a.there).channel a.active in
      let le = below i a.tunnel a.there a.active in
      let sum = c.counted in
      let few = c.few in
      let first = c.acked_is in
      let there : length (g.accounts n i (epoch_of v n i)).given ≤ most = omega (arith, le, sum, few, first, room) in
      subst (λ z. length (g.accounts n i z).given ≤ most) (sym is) there

pub given_then : (h : History) (d : Deed) (v : World) (n : ℕ) (e x : End) (moment : ℕ) (ev : Event) (m : Move) → IsOfNoStart m → Does e moment ev m x → d.node ≡ n → d.move ≡ m
    → d.epoch ≡ epoch_of v n (about m) → EndOk v (after h d) n x → (top most : ℕ) → ActiveBelow x top → top + 8192 ≤ most → Below h most → Below (after h d) most
given_then h d v n e x moment ev m start does node_is move_is epoch ok top most below room had p j u = ⊎_elim
    (λ (same : (after_deed d p j u (h.accounts p j u)).given ≡ (h.accounts p j u).given). (let le = had p j u in let l = ap length same in omega (arith, le, l)))
    (λ (q : (d.node ≡ p) × (about d.move ≡ j) × (d.epoch ≡ u) × ((after_deed d p j u (h.accounts p j u)).given ≡ (entered_by d d.move (h.accounts p j u)).given)).
    let about_is : about m ≡ j = ap about (sym move_is) ∙ q.1 in
    ⊎_elim
    (λ (le : length (entered_by d m (h.accounts p j u)).given ≤ length (h.accounts p j u).given).
    let le_before = had p j u in
    let l = ap length q.3 in
    let l2 : length (entered_by d d.move (h.accounts p j u)).given ≡ length (entered_by d m (h.accounts p j u)).given = ap (λ z. length (entered_by d z (h.accounts p j u)).given) move_is in
    omega (arith, le, le_before, l, l2))
    (λ (a : HasActive x (about m)).
    let here = active_given v (after h d) n x ok top most below room (about m) u (sym q.2 ∙ epoch) a in
    subst (λ z. length ((after h d).accounts z j u).given ≤ most) (sym node_is ∙ q.0) (subst (λ z. length ((after h d).accounts n z u).given ≤ most) about_is here))
    (gives_to e x moment ev m start d (h.accounts p j u) does))
    (after_given d p j u (h.accounts p j u))

-- ---- letters that are taken

module _ (w : World) (h : History) (holds : Holds w h) (most : ℕ) (had : Below h most) where
  taken_first : (n i : ℕ) → IsMade (h.accounts n i 0) → length (h.accounts n i 0).taken ≤ most + 2
  taken_first n i made = ⊎_elim
      (λ (none : a.remote ≡ 0). ⊎_elim
      (λ (own : a.part ≡ Opener). (let two = (unlearned_small h.accounts n i a (opener_of w h n i 0 a (holds.accounts n i 0) own).1 none).taken in omega (arith, two)))
      (λ k. ⊎_elim
      (λ (own : a.part ≡ Acceptor). absurd ((acceptor_of w h n i 0 a (holds.accounts n i 0) own).1.known none))
      (λ (own : a.part ≡ Renewed). (let lt = (renewed_of w h n i 0 a (holds.accounts n i 0) own).later in absurd (omega (arith, lt))))
      k)
      (part_cases a.part made))
      (λ (known : a.remote ≡ 0 → ⊥).
      let near = nearby w h holds.accounts a.peer a.remote n i (omega (arith, known)) made refl refl in
      let le = near.taken in
      let few = had a.peer a.remote 0 in
      omega (arith, le, few))
      (same_or_not a.remote 0)
    where
      a : Account
      a = h.accounts n i 0

  pub taken_below : (n i e : ℕ) → IsMade (h.accounts n i e) → length (h.accounts n i e).taken ≤ most + 2
  taken_below n i e made = ⊎_elim
      (λ (own : (h.accounts n i e).part ≡ Opener). first (opener_of w h n i e (h.accounts n i e) (holds.accounts n i e) own).0)
      (λ k. ⊎_elim
      (λ (own : (h.accounts n i e).part ≡ Acceptor). first (acceptor_of w h n i e (h.accounts n i e) (holds.accounts n i e) own).0)
      (λ (own : (h.accounts n i e).part ≡ Renewed).
      let r = renewed_of w h n i e (h.accounts n i e) (holds.accounts n i e) own in
      let le = r.joined.here in
      let few = had (h.accounts n i e).peer (h.accounts n i e).remote e in
      omega (arith, le, few))
      k)
      (part_cases (h.accounts n i e).part made)
    where
      first : e ≡ 0 → length (h.accounts n i e).taken ≤ most + 2
      first zero = subst (λ z. length (h.accounts n i z).taken ≤ most + 2) (sym zero) (taken_first n i (subst (λ z. IsMade (h.accounts n i z)) zero made))

  module _ (n : ℕ) (e : End) (ok : EndOk w h n e) where
    -- before each move
    pub numbers_fit : (top : ℕ) → ActiveBelow e top → top + 8192 < 2 ^ 64 → NumbersFit e
    numbers_fit top below room i t there active = let le = below i t there active in omega (arith, le, room)

    pub counts_fit : most + 65540 < 2 ^ 64 → CountsFit e
    counts_fit room i t there active =
        let c = (ok.live i t there).channel active in
        let made = (holds.standings n i).entered (ok.live i t there).made in
        let le = taken_below n i (epoch_of w n i) made in
        let counts = c.taken in
        let first = (holds.accounts n i (epoch_of w n i)).first_taken in
        omega (arith, le, counts, first, room)

    -- as a step begins
    pub active_first : ActiveBelow e (most + 65535)
    active_first i t there active =
        let c = (ok.live i t there).channel active in
        let le = had n i (epoch_of w n i) in
        let sum = c.counted in
        let acked = c.acked_is in
        let first = (holds.accounts n i (epoch_of w n i)).first_given in
        omega (arith, le, sum, acked, first)
