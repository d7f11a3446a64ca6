-- How far the numbers of letters go in a step.
use Rattle.std.proofs.Common.{◌≡◌, ◌⊎◌, inl, inr, ⊎_elim, ℕ, ◌+◌, ◌*◌, ◌%◌, ◌^◌, ◌<◌, ◌≤◌, Bool, true, false, cond, eqb, length, refl, sym, ap, ◌∙◌, subst, Option, Some, arith}
use Rattle.std.specs.Prelude.{nat_le, ◌&&◌, nat_lt}
use Rattle.std.proofs.lemmas.Bool.Decides.{nat_tests}
use Rattle.id_table.specs.Ids.{at, put}
use Rattle.id_table.specs.Order.{Ascends, at_new, found_put, found_without, same_or_not}
use Rattle.send_window.specs.Kept.{Window}
use Rattle.send_window.specs.Window as window
use Rattle.control_channel.specs.Numbers.{Numbers, acked_at, let_go_at, ticked_at}
use Rattle.end_model.specs.declared.event.Event.{Event}
use Rattle.end_model.specs.declared.moves.Move.{Move}
use Rattle.end_model.specs.declared.moves.Move.TheVariants as move
use Rattle.end_model.specs.declared.tunnel.Control.{Control}
use Rattle.end_model.specs.Tunnels.{Tunnel}
use Rattle.end_model.specs.Channels.{learns_window}
use Rattle.end_model.specs.End.{End}
use Rattle.world_model.specs.World.{Sender, Deed}
use Rattle.step_laws.specs.Moves.{Does}
use Rattle.step_laws.specs.Ups.{reads_of_move}
use Rattle.frame_laws.specs.Unrecovered.{IsMain}
use Rattle.connection_laws.specs.Accounts.{Part, Unmade, Opener, Acceptor, Account, no_account, about, entered_by}
use Rattle.connection_laws.specs.Facts.{Accounts, IsClosed, IsLost, partner_in, IsPart, AccountOk, LiveOk, EndOk, Within}
use Rattle.connection_laws.proofs.Keeps.{after, HasNumbers, HasCounts}
pub use Rattle.connection_laws.specs.Steps.{GivenBelow}
use Rattle.connection_laws.proofs.Hearing.{opener_of, acceptor_of}
use Rattle.connection_laws.proofs.NextHeard.{unlearned_small, joined_opener}
use Rattle.connection_laws.proofs.Later.{here_or_not, DeclinesNone, after_move, after_there}

-- ---- the first letters that aren't acknowledged

abbrev pub acked_of : Tunnel → ℕ
acked_of t = t.control.channel.window.acked

abbrev pub AckedBelow : End → ℕ → Type 0
AckedBelow e most = (i : ℕ) (t : Tunnel) → at e.tunnels i ≡ Some t → acked_of t ≤ most

-- few letters are on the wire
abbrev pub FewOut : End → Type 0
FewOut e = (i : ℕ) (t : Tunnel) → at e.tunnels i ≡ Some t → t.control.channel.window.outstanding ≤ 8192

-- by cases on a test
either : {X : Type 0} (P : X → Type 0) (b : Bool) (x y : X) → P x → P y → P (cond b x y)
either P true x y p q = p
either P false x y p q = q

learns_acked : (w : ℕ) (c : Control) → (learns_window w c).channel.window.acked ≡ c.channel.window.acked
learns_acked w c = either (λ (x : Control). x.channel.window.acked ≡ c.channel.window.acked) (eqb w 0) c _ refl refl

goes_acked : (c : Numbers) (moment : ℕ) → (let_go_at c moment).window.acked ≡ c.window.acked
goes_acked c moment = either (λ (x : Numbers). x.window.acked ≡ c.window.acked) c.frozen c _ refl
    (either (λ (x : Window). x.acked ≡ c.window.acked) (window.may_go c.window) _ c.window refl refl)

ticked_acked : (c : Numbers) (moment : ℕ) → (ticked_at c moment).window.acked ≡ c.window.acked
ticked_acked c moment = either (λ (x : Numbers). x.window.acked ≡ c.window.acked) c.frozen c _ refl
    (either (λ (x : Window). x.acked ≡ c.window.acked) (window.due_at c.window moment && nat_lt c.window.repetitions 5) _ c.window refl refl)

-- Nr acknowledges no more than is on the wire
count_few : (w : Window) (nr : ℕ) → window.count_acked w nr ≤ w.outstanding
count_few w nr =
    let d = window.distance (w.acked % 2 ^ 16) nr in
    by (nat_le d w.outstanding) d refl
  where
    by : (b : Bool) (d : ℕ) → nat_le d w.outstanding ≡ b → cond b d 0 ≤ w.outstanding
    by true d is = grind (arith, nat_tests)
    by false d is = omega arith

acked_few : (c : Numbers) (nr moment most : ℕ) → c.window.acked ≤ most → c.window.outstanding ≤ 8192 → (acked_at c nr moment).window.acked ≤ most + 8192
acked_few c nr moment most le few =
    let count = window.count_acked c.window nr in
    let small = count_few c.window nr in
    let sum : (c.window.acked + count) % 2 ^ 64 ≤ most + 8192 = omega arith in
    either (λ (x : Window). x.acked ≤ most + 8192) (eqb count 0) c.window _ (omega arith) sum

-- ---- each move

put_below : (e x : End) (most k : ℕ) (u : Tunnel) → AckedBelow e most → x.tunnels ≡ put e.tunnels k u → acked_of u ≤ most → AckedBelow x most
put_below e x most k u had puts le i t there = ⊎_elim
    (λ (p : (i ≡ k) × (u ≡ t)). subst (λ v. acked_of v ≤ most) p.1 le)
    (λ (p : (i ≡ k → ⊥) × (at e.tunnels i ≡ Some t)). had i t p.1)
    (found_put e.tunnels k u i t (let g = rw puts at there in g))

same_below : (e x : End) (most : ℕ) → AckedBelow e most → x.tunnels ≡ e.tunnels → AckedBelow x most
same_below e x most had same i t there = had i t (let g = rw same at there in g)

-- the tunnel that a move works in, which isn't acknowledged more
old_below : (e x : End) (most k : ℕ) (t u : Tunnel) → AckedBelow e most → at e.tunnels k ≡ Some t → x.tunnels ≡ put e.tunnels k u → acked_of u ≡ acked_of t
    → AckedBelow x most
old_below e x most k t u had there puts same = put_below e x most k u had puts (let le = had k t there in omega arith)

more_below : (e : End) (most more : ℕ) → AckedBelow e most → AckedBelow e (most + more)
more_below e most more had i t there = let le = had i t there in omega arith

none_below : (a most : ℕ) → a ≡ 0 → a ≤ most
none_below a most h = omega arith

tunnels_are : (x y : End) → x ≡ y → x.tunnels ≡ y.tunnels
tunnels_are x y h = ap (λ (e : End). e.tunnels) h

pub does_below : (e x : End) (moment : ℕ) (ev : Event) (m : Move) → IsMain m → (most : ℕ) → Ascends e.tunnels → FewOut e
    → AckedBelow e most → Does e moment ev m x → AckedBelow x (most + 8192 * length (reads_of_move m))
does_below e x moment ev (move.Opened m) main most order few had h =
    put_below e x (most + 8192 * 0) m.tunnel _ (more_below e most (8192 * 0) had) (tunnels_are x _ h.after) (omega arith)
does_below e x moment ev (move.Accepted m) main most order few had h =
    put_below e x (most + 8192 * 0) m.tunnel _ (more_below e most (8192 * 0) had) (tunnels_are x _ h.after)
    (none_below _ (most + 8192 * 0) (learns_acked m.window _))
does_below e x moment ev (move.Connected m) main most order few had h =
    old_below e x (most + 8192 * 0) m.tunnel h.tunnel _ (more_below e most (8192 * 0) had) h.there (tunnels_are x _ h.after) (learns_acked m.window _)
does_below e x moment ev (move.Confirmed m) main most order few had h =
    old_below e x (most + 8192 * 0) m.tunnel h.tunnel _ (more_below e most (8192 * 0) had) h.there (tunnels_are x _ h.after) refl
does_below e x moment ev (move.Added m) main most order few had h =
    old_below e x (most + 8192 * 0) m.tunnel h.tunnel _ (more_below e most (8192 * 0) had) h.there (tunnels_are x _ h.after) refl
does_below e x moment ev (move.Requested m) main most order few had h =
    old_below e x (most + 8192 * 0) m.tunnel h.tunnel _ (more_below e most (8192 * 0) had) h.there (tunnels_are x _ h.after) refl
does_below e x moment ev (move.Replied m) main most order few had h =
    old_below e x (most + 8192 * 0) m.tunnel h.tunnel _ (more_below e most (8192 * 0) had) h.there (tunnels_are x _ h.after) refl
does_below e x moment ev (move.FirstUp m) main most order few had h =
    old_below e x (most + 8192 * 0) m.tunnel h.tunnel _ (more_below e most (8192 * 0) had) h.there (tunnels_are x _ h.after) refl
does_below e x moment ev (move.SecondUp m) main most order few had h =
    old_below e x (most + 8192 * 0) m.tunnel h.tunnel _ (more_below e most (8192 * 0) had) h.there (tunnels_are x _ h.after) refl
does_below e x moment ev (move.Refused m) main most order few had h =
    old_below e x (most + 8192 * 0) m.tunnel h.tunnel _ (more_below e most (8192 * 0) had) h.there (tunnels_are x _ h.after) refl
does_below e x moment ev (move.EndTold m) main most order few had h =
    old_below e x (most + 8192 * 0) m.tunnel h.tunnel _ (more_below e most (8192 * 0) had) h.there (tunnels_are x _ h.after) refl
does_below e x moment ev (move.EndHeard m) main most order few had h =
    old_below e x (most + 8192 * 0) m.tunnel h.tunnel _ (more_below e most (8192 * 0) had) h.there (tunnels_are x _ h.after) refl
does_below e x moment ev (move.EndSilent m) main most order few had h =
    old_below e x (most + 8192 * 0) m.tunnel h.tunnel _ (more_below e most (8192 * 0) had) h.there (tunnels_are x _ h.after) refl
does_below e x moment ev (move.Declined m) main most order few had h =
    same_below e x (most + 8192 * 0) (more_below e most (8192 * 0) had) (tunnels_are x _ h.after)
does_below e x moment ev (move.Rejected m) main most order few had h =
    old_below e x (most + 8192 * 0) m.tunnel h.tunnel _ (more_below e most (8192 * 0) had) h.there (tunnels_are x _ h.after) refl
does_below e x moment ev (move.Closed m) main most order few had h =
    old_below e x (most + 8192 * 0) m.tunnel h.tunnel _ (more_below e most (8192 * 0) had) h.there (tunnels_are x _ h.after) refl
does_below e x moment ev (move.ClosedBy m) main most order few had h =
    old_below e x (most + 8192 * 0) m.tunnel h.tunnel _ (more_below e most (8192 * 0) had) h.there (tunnels_are x _ h.after) refl
does_below e x moment ev (move.Cleared k booked) main most order few had h =
    λ i t there. more_below e most (8192 * 0) had i t (found_without e.tunnels k i t order (let g = rw (tunnels_are x _ h.after) at there in g)).1
does_below e x moment ev (move.Greeted m) main most order few had h =
    old_below e x (most + 8192 * 0) m.tunnel h.tunnel _ (more_below e most (8192 * 0) had) h.there (tunnels_are x _ h.after) refl
does_below e x moment ev (move.TookPlain m) main most order few had h =
    old_below e x (most + 8192 * 0) m.tunnel h.tunnel _ (more_below e most (8192 * 0) had) h.there (tunnels_are x _ h.after) refl
does_below e x moment ev (move.NrRead m) main most order few had h =
    put_below e x (most + 8192 * 1) m.tunnel _ (more_below e most (8192 * 1) had) (tunnels_are x _ h.after)
    (let le = acked_few h.tunnel.control.channel m.nr moment most (had m.tunnel h.tunnel h.there) (few m.tunnel h.tunnel h.there) in omega arith)
does_below e x moment ev (move.LetGo m) main most order few had h =
    old_below e x (most + 8192 * 0) m.tunnel h.tunnel _ (more_below e most (8192 * 0) had) h.there (tunnels_are x _ h.after)
    (goes_acked h.tunnel.control.channel moment)
does_below e x moment ev (move.Repeated m) main most order few had h =
    old_below e x (most + 8192 * 0) m.tunnel h.tunnel _ (more_below e most (8192 * 0) had) h.there (tunnels_are x _ h.after)
    (ticked_acked h.tunnel.control.channel moment)
does_below e x moment ev (move.Quiet k) main most order few had h =
    same_below e x (most + 8192 * 0) (more_below e most (8192 * 0) had) (tunnels_are x _ h.after)
does_below e x moment ev (move.Negotiated m) main most order few had h =
    old_below e x (most + 8192 * 0) m.tunnel h.tunnel _ (more_below e most (8192 * 0) had) h.there (tunnels_are x _ h.after) refl
does_below e x moment ev (move.Counted m) main most order few had h =
    old_below e x (most + 8192 * 0) m.tunnel h.tunnel _ (more_below e most (8192 * 0) had) h.there (tunnels_are x _ h.after) refl
does_below e x moment ev (move.FrameSent m) main most order few had h =
    same_below e x (most + 8192 * 0) (more_below e most (8192 * 0) had) (tunnels_are x _ h.after)
does_below e x moment ev (move.FrameUp m) main most order few had h =
    same_below e x (most + 8192 * 0) (more_below e most (8192 * 0) had) (tunnels_are x _ h.after)
does_below e x moment ev m main most order few had h = absurd main

-- ---- the letters that are given and taken

pub record IsLive (x : End) (i : ℕ) : Type 0 where
  pub tunnel : Tunnel
  pub there : at x.tunnels i ≡ Some tunnel

put_live : (e x : End) (k : ℕ) (u : Tunnel) → x.tunnels ≡ put e.tunnels k u → IsLive x k
put_live e x k u puts = record { tunnel = u; there = rw puts (at_new e.tunnels k u) }

-- letters are given only to a tunnel that is live then
does_give : (e x : End) (moment : ℕ) (ev : Event) (m : Move) → IsMain m → (d : Deed) (a : Account) → Does e moment ev m x
    → ((entered_by d m a).given ≡ a.given) ⊎ IsLive x (about m)
does_give e x moment ev (move.Opened m) main d a h = inr (put_live e x m.tunnel _ (tunnels_are x _ h.after))
does_give e x moment ev (move.Accepted m) main d a h = inr (put_live e x m.tunnel _ (tunnels_are x _ h.after))
does_give e x moment ev (move.Connected m) main d a h = inr (put_live e x m.tunnel _ (tunnels_are x _ h.after))
does_give e x moment ev (move.Confirmed m) main d a h = inl refl
does_give e x moment ev (move.Added m) main d a h = inl refl
does_give e x moment ev (move.Requested m) main d a h = inr (put_live e x m.tunnel _ (tunnels_are x _ h.after))
does_give e x moment ev (move.Replied m) main d a h = inr (put_live e x m.tunnel _ (tunnels_are x _ h.after))
does_give e x moment ev (move.FirstUp m) main d a h = inr (put_live e x m.tunnel _ (tunnels_are x _ h.after))
does_give e x moment ev (move.SecondUp m) main d a h = inl refl
does_give e x moment ev (move.Refused m) main d a h = inr (put_live e x m.tunnel _ (tunnels_are x _ h.after))
does_give e x moment ev (move.EndTold m) main d a h = inr (put_live e x m.tunnel _ (tunnels_are x _ h.after))
does_give e x moment ev (move.EndHeard m) main d a h = inl refl
does_give e x moment ev (move.EndSilent m) main d a h = inl refl
does_give e x moment ev (move.Declined m) main d a h = inl refl
does_give e x moment ev (move.Rejected m) main d a h = inr (put_live e x m.tunnel _ (tunnels_are x _ h.after))
does_give e x moment ev (move.Closed m) main d a h = inr (put_live e x m.tunnel _ (tunnels_are x _ h.after))
does_give e x moment ev (move.ClosedBy m) main d a h = inl refl
does_give e x moment ev (move.Cleared k booked) main d a h = inl refl
does_give e x moment ev (move.Greeted m) main d a h = inr (put_live e x m.tunnel _ (tunnels_are x _ h.after))
does_give e x moment ev (move.TookPlain m) main d a h = inl refl
does_give e x moment ev (move.NrRead m) main d a h = inl refl
does_give e x moment ev (move.LetGo m) main d a h = inl refl
does_give e x moment ev (move.Repeated m) main d a h = inl refl
does_give e x moment ev (move.Quiet k) main d a h = inl refl
does_give e x moment ev (move.Negotiated m) main d a h = inl refl
does_give e x moment ev (move.Counted m) main d a h = inl refl
does_give e x moment ev (move.FrameSent m) main d a h = inl refl
does_give e x moment ev (move.FrameUp m) main d a h = inl refl
does_give e x moment ev m main d a h = absurd main

-- all letters of a live tunnel are acknowledged or queued
live_below : (accs : Accounts) (n i : ℕ) (x : End) (top most : ℕ) (t : Tunnel) → LiveOk accs n i (accs n i) t → at x.tunnels i ≡ Some t → AckedBelow x top
    → top + 8192 ≤ most → length (accs n i).given ≤ most
live_below accs n i x top most t live there below room =
    let le = below i t there in let sum = live.counted in let few = live.few in omega arith

pub given_after : (accs : Accounts) (n : ℕ) (e x : End) (sender : Option Sender) (moment : ℕ) (ev : Event) (m : Move) → IsMain m
    → (d : Deed) (top most : ℕ) → DeclinesNone m → d.node ≡ n → d.move ≡ m → Does e moment ev m x → Within (after accs d) n x sender ev → AckedBelow x top → top + 8192 ≤ most
    → GivenBelow accs most
    → GivenBelow (after accs d) most
given_after accs n e x sender moment ev m main d top most none node is does within below room had k j = ⊎_elim
    (λ (p : (k ≡ n) × (j ≡ about m)).
    rw (p.0, p.1) (⊎_elim
    (λ (same : (entered_by d m (accs n (about m))).given ≡ (accs n (about m)).given).
    subst (λ (b : Account). length b.given ≤ most) (sym (after_move accs d n m none node is)) (rw same (had n (about m))))
    (λ (l : IsLive x (about m)). live_below (after accs d) n (about m) x top most l.tunnel (within.end.live (about m) l.tunnel l.there) l.there below room)
    (does_give e x moment ev m main d (accs n (about m)) does)))
    (λ no. rw (after_there accs d k j (subst DeclinesNone (sym is) none) (λ both. no (both.0 ∙ node, both.1 ∙ ap about is))) (had k j))
    (here_or_not k n j (about m))

-- hardly more is taken than is given
pub taken_below : (accs : Accounts) → ((m j : ℕ) → AccountOk accs m j (accs m j)) → (n i most : ℕ) → GivenBelow accs most
    → length (accs n i).taken ≤ most + 2
taken_below accs all n i most had = by (accs n i).part refl
  where
    a : Account
    a = accs n i

    unmade : a ≡ no_account → length a.taken ≤ most + 2
    unmade is = rw is (omega arith)

    by : (p : Part) → a.part ≡ p → length a.taken ≤ most + 2
    by Unmade own = unmade (subst (IsPart accs n i a) own (all n i).part)
    by Opener own =
        let opener = opener_of accs n i a (all n i) own in
        ⊎_elim
        (λ (z : a.remote ≡ 0). let two = (unlearned_small accs n i a opener z).taken in omega arith)
        (λ (known : a.remote ≡ 0 → ⊥).
        let le = had a.peer a.remote in
        ⊎_elim
        (λ (few : length a.taken ≤ length (partner_in accs a).given). omega arith)
        (λ (k : IsClosed a × (length a.taken ≤ 2)). let two = k.1 in omega arith)
        (opener.joined known).here)
        (same_or_not a.remote 0)
    by Acceptor own = ⊎_elim
        (λ (chosen : (partner_in accs a).remote ≡ i).
        let few = (joined_opener accs n i all own chosen).there in
        let le = had a.peer a.remote in
        omega arith)
        (λ (apart : (partner_in accs a).remote ≡ i → ⊥).
        ⊎_elim
        (λ (one : length a.taken ≡ 1). omega arith)
        (λ (k : IsLost (partner_in accs a) × (length a.taken ≤ 2)). let two = k.1 in omega arith)
        ((acceptor_of accs n i a (all n i) own).one_taken apart))
        (same_or_not (partner_in accs a).remote i)

-- ---- before each move

pub has_numbers : (e : End) (top : ℕ) → AckedBelow e top → top + 8192 < 2 ^ 64 → HasNumbers e
has_numbers e top below room i t there = let le = below i t there in omega (arith, room)

pub has_counts : (accs : Accounts) (n : ℕ) (e : End) (sender : Option Sender) (ev : Event) (most : ℕ) → Within accs n e sender ev → GivenBelow accs most
    → most + 3 < 2 ^ 64 → HasCounts e
has_counts accs n e sender ev most within had room i t there =
    let le = taken_below accs within.accounts n i most had in
    let same = (within.end.live i t there).taken in
    omega (arith, room)

pub few_out : (accs : Accounts) (n : ℕ) (e : End) (sender : Option Sender) (ev : Event) → Within accs n e sender ev → FewOut e
few_out accs n e sender ev within i t there =
    let live = within.end.live i t there in let le = live.outstanding in let few = live.few in omega arith

-- what is acknowledged was given
pub acked_given : (accs : Accounts) (n : ℕ) (e : End) (most : ℕ) → EndOk accs n e → GivenBelow accs most → AckedBelow e most
acked_given accs n e most ok had i t there = let sum = (ok.live i t there).counted in let le = had n i in omega arith
