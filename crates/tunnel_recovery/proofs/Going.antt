-- Letters go one by one.
use Rattle.std.proofs.Common.{◌≡◌, ℕ, zero, suc, ◌+◌, ◌-◌, ◌<◌, length, Bool, true, false, Option, Some, None, refl, ap, ◌∙◌, arith, sym}
use Rattle.std.specs.Prelude.{◌==◌, nat_le, slice_get, if◌then◌else◌}
use Rattle.l2tp_header.specs.Spelling.{control_bytes}
use Rattle.recv_window.specs.Window.{Inbox, on_wire}
use Rattle.end_model.specs.declared.out.Out.TheVariants.{Send}
use Rattle.end_model.specs.declared.out.Origin.TheVariants as origin
use Rattle.end_model.specs.Turn.{with_output}
use Rattle.wire_base.specs.declared.letter.Letter.{Letter}
use Rattle.send_window.specs.Outbox.{letter_at}
use Rattle.send_window.specs.Kept.{Window}
use Rattle.send_window.specs.Window as window
use Rattle.control_channel.specs.Channel.{Channel, next_to_go, let_go_at}
use Rattle.recovery_tunnel.specs.Connections.{ControlConnection}
use Rattle.recovery_tunnel.specs.Either.{channel_of, lets_go}
use Rattle.end_model.specs.Tunnels.{Turn, Recovering, ByAttempt, ByAnswer}
use Rattle.end_model.specs.Recovering.{with_recovery, recovery_letter, goes_by, goes_once, goes}
use Rattle.tunnel_recovery.specs.Going.{letter_goes, WentBy, line_of, back_in, goes_up_to}

-- ---- a letter that is let go is the one that stood there

place_by : (b : Bool) (w : Window) (since repetitions n : ℕ) →
    window.place_of (if b then record w { outstanding = w.outstanding + 1; since = since; repetitions = repetitions } else w) n ≡ window.place_of w n
place_by true w since repetitions n = refl
place_by false w since repetitions n = refl

letter_by : (b : Bool) (c : Channel) (m n : ℕ) → letter_at (if b then c else record c { outbox = record c.outbox { window = window.let_go_at c.outbox.window m } }).outbox n ≡ letter_at c.outbox n
letter_by true c m n = refl
letter_by false c m n =
    let w = c.outbox.window in
    ap (λ p. slice_get c.outbox.letters p)
    (place_by (window.may_go w) w (if w.outstanding == 0 then m else w.since) (if w.outstanding == 0 then 0 else w.repetitions) n)

letter_same : (c : Channel) (m n : ℕ) → letter_at (let_go_at c m).outbox n ≡ letter_at c.outbox n
letter_same c m n = letter_by c.frozen c m n

inbox_by : (b : Bool) (c : Channel) (m : ℕ) → (if b then c else record c { outbox = record c.outbox { window = window.let_go_at c.outbox.window m } }).inbox ≡ c.inbox
inbox_by true c m = refl
inbox_by false c m = refl

sends_same : (c : ControlConnection) (m n : ℕ) (o : Option Letter) (t : Turn) → recovery_letter (record c { channel = let_go_at c.channel m }) n o t ≡ recovery_letter c n o t
unfolding recovery_letter
sends_same c m n None t = refl
sends_same c m n (Some l) t =
    ap (λ (i : Inbox). if nat_le (length l.avps) 65523 then with_output (Send t.control.peer (control_bytes c.remote l.session (on_wire n) (on_wire i.taken) l.avps) (origin.Recovery c.local n false)) t else t)
    (inbox_by c.channel.frozen c.channel m)

both_same : (c : ControlConnection) (m n : ℕ) (t : Turn) → recovery_letter (record c { channel = let_go_at c.channel m }) n (letter_at (let_go_at c.channel m).outbox n) t ≡ recovery_letter c n (letter_at c.channel.outbox n) t
both_same c m n t = ap (λ o. recovery_letter (record c { channel = let_go_at c.channel m }) n o t) (letter_same c.channel m n) ∙ sends_same c m n (letter_at c.channel.outbox n) t

pub goes_same : (r : Recovering) (m n : ℕ) (t : Turn) → letter_goes (lets_go m r) n t ≡ letter_goes r n t
goes_same (ByAttempt c) m n t = both_same c m n t
goes_same (ByAnswer a) m n t = both_same a.connection m n t

-- ---- where none goes, nothing changes

stays_by : (f b : Bool) (c : Channel) (w : Window) (k : ℕ) → (if f then None else (if b then Some k else None)) ≡ None
    → (if f then c else record c { outbox = record c.outbox { window = if b then w else c.outbox.window } }) ≡ c
stays_by true b c w k none = refl
stays_by false true c w k none = absurd cc
stays_by false false c w k none = refl

stays_in : (c : Channel) (m : ℕ) → next_to_go c ≡ None → let_go_at c m ≡ c
stays_in c m none = stays_by c.frozen (window.may_go c.outbox.window) c _ _ none

pub stays : (r : Recovering) (m : ℕ) → next_to_go (channel_of r) ≡ None → lets_go m r ≡ r
stays (ByAttempt c) m none = ap (λ k. ByAttempt (record c { channel = k })) (stays_in c.channel m none)
stays (ByAnswer a) m none = ap (λ k. ByAnswer (record a { connection = record a.connection { channel = k } })) (stays_in a.connection.channel m none)

-- ---- one letter, or none

pub went : (r after : Recovering) (n : ℕ) (t u : Turn) → next_to_go (channel_of r) ≡ Some n → after ≡ lets_go t.on.moment r → u ≡ letter_goes after n t → WentBy true r t after u
went r after n t u number is sent = (n, number, is, sent ∙ ap (λ s. letter_goes s n t) is ∙ goes_same r t.on.moment n t)

pub none_went : (r after : Recovering) (t : Turn) → next_to_go (channel_of r) ≡ None → after ≡ lets_go t.on.moment r → WentBy false r t after t
none_went r after t none is = (none, is ∙ stays r t.on.moment none, refl)

-- ---- so many letters

pub all_are : (r : Recovering) (t : Turn) → goes_up_to 3 r t ≡ goes r t
unfolding goes_up_to goes
all_are r t = refl

back : (r : Recovering) (t : Turn) → back_in r (line_of r t) ≡ with_recovery r t
back (ByAttempt c) t = refl
back (ByAnswer a) t = refl

none_by : (o : Option ℕ) (r : Recovering) (t : Turn) → back_in r (goes_by 0 o (line_of r t)) ≡ with_recovery r t
unfolding goes_by
none_by None r t = back r t
none_by (Some n) r t = back r t

pub no_more : (r : Recovering) (t : Turn) → goes_up_to 0 r t ≡ with_recovery r t
unfolding goes_up_to
no_more r t = none_by (next_to_go (channel_of r)) r t

none_gone : (most : ℕ) (r : Recovering) (t : Turn) → back_in r (goes_by most None (line_of r t)) ≡ with_recovery r t
unfolding goes_by
none_gone zero r t = back r t
none_gone (suc most) r t = back r t

pub none_left : (most : ℕ) (r : Recovering) (t : Turn) → next_to_go (channel_of r) ≡ None → goes_up_to most r t ≡ with_recovery r t
unfolding goes_up_to
none_left most r t none = ap (λ o. back_in r (goes_by most o (line_of r t))) none ∙ none_gone most r t

one_by : (most n : ℕ) (r : Recovering) (t : Turn) → goes_up_to most (lets_go t.on.moment r) (letter_goes r n t) ≡ back_in r (goes_by (suc most) (Some n) (line_of r t))
unfolding goes_up_to goes_by goes_once
one_by most n (ByAttempt c) t = refl
one_by most n (ByAnswer a) t = refl

-- one letter went out, and so many at most are left to go
pub one_more : (most : ℕ) (r after : Recovering) (t u : Turn) → 0 < most → WentBy true r t after u → goes_up_to (most - 1) after u ≡ goes_up_to most r t
unfolding goes_up_to
one_more zero r after t u lt w = absurd (omega (arith, lt))
one_more (suc most) r after t u lt w =
    let left : suc most - 1 ≡ most = omega arith in
    ap (λ m. goes_up_to m after u) left
    ∙ ap (λ x. goes_up_to most x u) w.2
    ∙ ap (λ x. goes_up_to most (lets_go t.on.moment r) x) w.3
    ∙ one_by most w.0 r t
    ∙ ap (λ o. back_in r (goes_by (suc most) o (line_of r t))) (sym w.1)
