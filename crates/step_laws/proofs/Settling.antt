-- At a turn's end its letters go, and each that is sent is one that the tunnel keeps.
use Rattle.std.proofs.Common.{◌≡◌, ◌⊎◌, inl, ⊎_elim, ℕ, ◌+◌, ◌%◌, ◌^◌, ◌<◌, Bool, true, false, cond, zero, suc, List, [], ◌∷◌, ◌++◌, refl, sym, ap, ◌∙◌, subst, Option, Some, None, arith}
use Rattle.std.proofs.lemmas.Bool.{ltb-true, true≢false}
use Rattle.std.proofs.lemmas.List.{append-nil}
use Rattle.std.specs.List.{AllByRecursion}
use Rattle.std.specs.Prelude.{◌==◌, ◌&&◌, ◌||◌, nat_le, length}
use Rattle.id_table.specs.Ids.{put-put}
use Rattle.wire_base.specs.declared.letter.Letter.{Letter}
use Rattle.send_window.specs.Kept.{Window}
use Rattle.send_window.specs.Window as window
use Rattle.tunnel_fsm.specs.Rows.{state_number}
use Rattle.control_channel.specs.Numbers.{Numbers, next_to_go, next_unsent, let_go_at}
use Rattle.end_names.specs.declared.role.Role.{Role}
use Rattle.end_model.specs.declared.tunnel.Config.{Config}
use Rattle.end_model.specs.declared.tunnel.Call.{Call}
use Rattle.end_model.specs.declared.tunnel.Control.{Control}
use Rattle.end_model.specs.declared.event.Event.{Event}
use Rattle.end_model.specs.declared.out.Out.{Out}
use Rattle.end_model.specs.declared.out.Out.TheVariants.{Send, Up, Gone, Drop, Cause}
use Rattle.end_model.specs.declared.out.Origin.{Origin}
use Rattle.end_model.specs.declared.moves.Move.{Move}
use Rattle.end_model.specs.declared.moves.Move.TheVariants as move
use Rattle.end_model.specs.Tunnels.{Tunnel, Turn, Recovering, mode_of, is_current}
use Rattle.end_model.specs.Events.{with_calls, tunnel_after}
use Rattle.end_model.specs.Turn.{with_output, with_move}
use Rattle.end_model.specs.Channels.{place, counts_sent}
use Rattle.end_model.specs.Sending.{letter_in, sends_letter, sends_now, lets_go, goes_by, lets_all_go, acknowledges, outstanding, acknowledged_after, settles, letters_after}
use Rattle.end_model.specs.End.{End}
use Rattle.step_laws.specs.Letters.{Among, Carries, ALetter, Nothing, AFrame, InRecovery, NothingInRecovery, HasOutput}
use Rattle.step_laws.specs.Moves.{Chain}
use Rattle.step_laws.proofs.Lists.{all_push, all_map, among_left, got_still, and_left, branch, chain_more}
use Rattle.step_laws.proofs.Outputs.{no_frame_out, frames_more}
use Rattle.step_laws.proofs.Tells.{Tells}
use Rattle.step_laws.proofs.Owing.{Fits}
use Rattle.step_laws.proofs.Turns.{IsWord, Stays, IsCurrent, Held, has_64_bits, at_turn, TurnOk, there}

-- a letter that goes changes neither what is taken nor which letters are kept
module _ (n : Numbers) (moment : ℕ) where
  inbox_stays : (let_go_at n moment).inbox ≡ n.inbox
  inbox_stays = branch (λ (x : Numbers). x.inbox ≡ n.inbox) n.frozen _ _ (λ frozen. refl) (λ free. refl)

  acked_stays : (let_go_at n moment).window.acked ≡ n.window.acked
  acked_stays =
      branch (λ (x : Numbers). x.window.acked ≡ n.window.acked) n.frozen _ _
      (λ frozen. refl)
      (λ free. branch (λ (w : Window). w.acked ≡ n.window.acked) (window.may_go n.window) _ _ (λ may. refl) (λ no. refl))

  frozen_stays : (let_go_at n moment).frozen ≡ n.frozen
  frozen_stays = branch (λ (x : Numbers). x.frozen ≡ n.frozen) n.frozen _ _ (λ frozen. refl) (λ free. refl)

  -- from a frozen channel nothing goes
  frozen_none : (number : ℕ) → n.frozen ≡ true → next_to_go n ≡ Some number → ⊥
  frozen_none number frozen goes = by n.frozen frozen goes
    where
      by : (a : Bool) → a ≡ true → cond a None (window.next_to_go n.window) ≡ Some number → ⊥
      by true is e = absurd cc
      by false is e = true≢false (sym is)

  held_gone : (ls : List Letter) → Held n.window ls → Held (let_go_at n moment).window ls
  held_gone ls h =
      branch (λ (x : Numbers). Held x.window ls) n.frozen _ _
      (λ frozen. h)
      (λ free. branch (λ (w : Window). Held w ls) (window.may_go n.window) _ _
      (λ may. (h.0, (let lt = ltb-true n.window.outstanding n.window.queued (and_left _ _ may) in omega (arith, lt)), h.2))
      (λ no. h))

fits_gone : (c : Control) (moment : ℕ) (calls : List (ℕ × Call)) → Fits c calls → Fits (counts_sent moment c) calls
fits_gone c moment calls h =
    branch (λ (n : Numbers). Fits (record c { channel = n }) calls) c.channel.frozen _ _
    (λ frozen. h)
    (λ free. branch (λ (w : Window). Fits (record c { channel = record c.channel { window = w } }) calls) (window.may_go c.channel.window) _ _
    (λ may. h)
    (λ no. h))

-- the number of the next letter has 64 bits
small_to_go : (n : Numbers) (number : ℕ) → next_to_go n ≡ Some number → number < 2 ^ 64
small_to_go n number h = by n.frozen (window.may_go n.window) h
  where
    by : (a b : Bool) → cond a None (cond b (Some ((n.window.acked + n.window.outstanding) % 2 ^ 64)) None) ≡ Some number → number < 2 ^ 64
    by true b e = absurd cc
    by false true e =
        let same : (n.window.acked + n.window.outstanding) % 2 ^ 64 ≡ number = cc in
        subst (λ (k : ℕ). k < 2 ^ 64) same (has_64_bits (n.window.acked + n.window.outstanding))
    by false false e = absurd cc

-- ---- what was sent stays so as the tunnel goes on

-- letters are given to it, and its numbers go on; none of its letters is acknowledged, and nothing is taken
pub record GoesOn (t u : Tunnel) : Type 0 where
  pub local : u.control.local ≡ t.control.local
  pub peer : u.control.peer ≡ t.control.peer
  pub remote : u.control.remote ≡ t.control.remote
  pub acked : u.control.channel.window.acked ≡ t.control.channel.window.acked
  pub inbox : u.control.channel.inbox ≡ t.control.channel.inbox
  pub more : List Letter
  pub letters : u.letters ≡ t.letters ++ more
  pub recovery : u.recovery ≡ t.recovery

pub goes_nowhere : (t : Tunnel) → GoesOn t t
goes_nowhere t = record { local = refl; peer = refl; remote = refl; acked = refl; inbox = refl; more = []; letters = sym (append-nil t.letters); recovery = refl }

-- each of these moves is one of those
abbrev pub AreWithin : List Move → List Move → Type 0
AreWithin ms ns = (m : Move) → Among m ms → Among m ns

pub carries_on : {role : Role} {config : Config} (t u : Tunnel) → GoesOn t u → (ms ns : List Move) → AreWithin ms ns → (bytes : List ℕ) (o : Origin)
    → Carries role config t ms bytes o → Carries role config u ns bytes o
carries_on t u g ms ns within bytes o (ALetter current l number small kept is said) =
    ALetter (ap (λ r. is_current (mode_of r)) g.recovery ∙ current) l number small
    (rw (g.letters, g.acked) (got_still t.letters g.more _ l kept))
    (rw (g.local, g.inbox) is)
    (rw (g.remote, g.inbox) said)
carries_on t u g ms ns within bytes o (Nothing current number is said) =
    Nothing (ap (λ r. is_current (mode_of r)) g.recovery ∙ current) number (rw (g.local, g.inbox) is) (rw (g.remote, g.inbox) said)
carries_on t u g ms ns within bytes o (AFrame f sent tunnel peer number is said) =
    AFrame f (within _ sent) (tunnel ∙ sym g.local) (peer ∙ sym g.peer) number is (rw g.remote said)
carries_on t u g ms ns within bytes o (InRecovery r has m says number nr small is said) =
    InRecovery r (g.recovery ∙ has) m (rw g.local says) number nr small is said
carries_on t u g ms ns within bytes o (NothingInRecovery r has number nr small is said) = NothingInRecovery r (g.recovery ∙ has) number nr small is said

-- what is sent goes to the tunnel's peer
abbrev pub OutOk : Role → Config → Tunnel → List Move → Out → Type 0
OutOk role config t ms (Send p bytes o) = (p ≡ t.control.peer) × Carries role config t ms bytes o
OutOk role config t ms (Up session side frame) = ⊥
OutOk role config t ms (Gone session) = Unit {0}
OutOk role config t ms (Drop w) = Unit {0}
OutOk role config t ms (Cause w) = Unit {0}

pub out_on : (role : Role) (config : Config) (t u : Tunnel) → GoesOn t u → (ms ns : List Move) → AreWithin ms ns → (x : Out) → OutOk role config t ms x
    → OutOk role config u ns x
out_on role config t u g ms ns within (Send p bytes o) h = (h.0 ∙ sym g.peer, carries_on t u g ms ns within bytes o h.1)
out_on role config t u g ms ns within (Up session side frame) h = h
out_on role config t u g ms ns within (Gone session) h = h
out_on role config t u g ms ns within (Drop w) h = h
out_on role config t u g ms ns within (Cause w) h = h

pub word_ok : (role : Role) (config : Config) (t : Tunnel) (ms : List Move) (x : Out) → IsWord x → OutOk role config t ms x
word_ok role config t ms (Gone session) h = tt
word_ok role config t ms (Drop w) h = tt
word_ok role config t ms (Cause w) h = tt
word_ok role config t ms (Send p bytes o) h = absurd h
word_ok role config t ms (Up session side frame) h = absurd h

module _ (e : End) (moment : ℕ) (ev : Event) (letters : List Letter) (calls : List (ℕ × Call)) (recovery : Option Recovering) (i : ℕ) where
  abbrev tunnel : Turn → Tunnel
  tunnel t = tunnel_after t letters calls recovery

  -- its channel carries messages, or it is frozen, and the turn of the open tunnel has taken nothing
  abbrev pub Goes : Turn → Type 0
  Goes t = IsCurrent recovery ⊎ ((t.control.channel.frozen ≡ true) × (t.took ≡ false) × (state_number t.control.state ≡ 3))

  -- a turn, with what it sent
  pub record Settled (t : Turn) : Type 0 where
    pub chain : Chain moment ev e t.moves (at_turn e moment ev letters calls recovery i t)
    pub outs : AllByRecursion (OutOk e.role e.config (tunnel t) t.moves) t.outputs
    pub tells : AllByRecursion (Tells e moment ev) t.outputs
    pub frames : AllByRecursion (HasOutput t.outputs) t.moves
    pub stays : Stays recovery i moment t
    pub goes : Goes t
    pub held : Held t.control.channel.window (letters_after t letters)
    pub fits : Fits t.control (with_calls t.changed calls)

  pub unsent : (t : Turn) → TurnOk e moment ev letters calls recovery i t → Settled t
  unsent t h = record {
    chain = h.chain;
    outs = all_map IsWord _ (word_ok e.role e.config (tunnel t) t.moves) t.outputs h.words;
    tells = h.tells;
    frames = all_map _ _ (no_frame_out t.outputs) t.moves h.frames;
    stays = h.stays;
    goes = inl h.current;
    held = h.held;
    fits = h.fits;
  }

  -- what was sent stays so as more moves are made
  pub outs_on : (t u : Turn) → GoesOn (tunnel t) (tunnel u) → (more : List Move) → u.moves ≡ t.moves ++ more → Settled t
      → AllByRecursion (OutOk e.role e.config (tunnel u) u.moves) t.outputs
  outs_on t u g more is h =
      all_map _ _ (out_on e.role e.config (tunnel t) (tunnel u) g t.moves u.moves (λ m a. rw is (among_left m t.moves more a))) t.outputs h.outs

  -- ---- letters that go

  abbrev counted : ℕ → Turn → Turn
  counted number t =
      with_move (move.LetGo (record { tunnel = t.control.local; sent = place number })) (record t { control = counts_sent t.on.moment t.control })

  -- where a letter goes the channel carries messages
  going_current : (number : ℕ) (t : Turn) → next_to_go t.control.channel ≡ Some number → Goes t → IsCurrent recovery
  going_current number t goes h =
      ⊎_elim (λ current. current)
      (λ (k : (t.control.channel.frozen ≡ true) × (t.took ≡ false) × (state_number t.control.state ≡ 3)). absurd
      (frozen_none t.control.channel t.on.moment number k.0 goes)) h

  counted_ok : (number : ℕ) (t : Turn) → next_to_go t.control.channel ≡ Some number → Settled t → Settled (counted number t)
  unfolding with_move
  counted_ok number t goes h =
      let m = move.LetGo (record { tunnel = t.control.local; sent = place number }) in
      record {
        chain = chain_more moment ev e (at_turn e moment ev letters calls recovery i t) _ t.moves m h.chain (record {
          tunnel = tunnel t;
          there = there e moment ev letters calls recovery i t;
          current = going_current number t goes h.goes;
          number = number;
          goes = goes;
          sent = refl;
          after = rw (h.stays.4, put-put e.tunnels t.control.local (tunnel t) _) refl;
        });
        outs = outs_on t (counted number t) (record {
          local = refl;
          peer = refl;
          remote = refl;
          acked = acked_stays t.control.channel t.on.moment;
          inbox = inbox_stays t.control.channel t.on.moment;
          more = [];
          letters = sym (append-nil (tunnel t).letters);
          recovery = refl;
        }) (m ∷ []) refl h;
        tells = h.tells;
        frames = all_push (HasOutput t.outputs) t.moves m h.frames tt;
        stays = h.stays;
        goes = inl (going_current number t goes h.goes);
        held = held_gone t.control.channel t.on.moment (letters_after t letters) h.held;
        fits = fits_gone t.control t.on.moment (with_calls t.changed calls) h.fits;
      }

  pub sent_ok : (number : ℕ) (t : Turn) (o : Option Letter) → IsCurrent recovery → number < 2 ^ 64 → letter_in letters t number ≡ o → Settled t
      → Settled (sends_letter number o t)
  unfolding sends_letter with_output
  sent_ok number t None current small is h = h
  sent_ok number t (Some l) current small is h =
      branch Settled (nat_le (length l.avps) 65523) _ _
      (λ fits. record {
        chain = h.chain;
        outs = all_push _ t.outputs _ h.outs (refl, ALetter current l number small is refl refl);
        tells = all_push _ t.outputs _ h.tells tt;
        frames = frames_more t.outputs _ t.moves h.frames;
        stays = h.stays;
        goes = h.goes;
        held = h.held;
        fits = h.fits;
      })
      (λ long. h)

  let_go_ok : (number : ℕ) (t : Turn) → next_to_go t.control.channel ≡ Some number → Settled t → Settled (lets_go letters number t)
  unfolding lets_go sends_now
  let_go_ok number t goes h =
      let u = counted number t in
      sent_ok number u (letter_in letters u number) (going_current number t goes h.goes) (small_to_go t.control.channel number goes) refl (counted_ok number t goes h)

  goes_ok : (rest : Turn → Turn) → ((u : Turn) → Settled u → Settled (rest u)) → (t : Turn) (o : Option ℕ) → next_to_go t.control.channel ≡ o
      → Settled t → Settled (goes_by rest letters o t)
  unfolding goes_by
  goes_ok rest on t None goes h = h
  goes_ok rest on t (Some number) goes h = on (lets_go letters number t) (let_go_ok number t goes h)

  all_go_ok : (most : ℕ) (t : Turn) → Settled t → Settled (lets_all_go most letters t)
  unfolding lets_all_go
  all_go_ok zero t h = h
  all_go_ok (suc most) t h = goes_ok (lets_all_go most letters) (all_go_ok most) t (next_to_go t.control.channel) refl h

  -- nothing goes from a frozen channel
  none_go : (most : ℕ) (t : Turn) → t.control.channel.frozen ≡ true → lets_all_go most letters t ≡ t
  unfolding lets_all_go goes_by
  none_go zero t frozen = refl
  none_go (suc most) t frozen = by (next_to_go t.control.channel) refl
    where
      by : (o : Option ℕ) → next_to_go t.control.channel ≡ o → goes_by (lets_all_go most letters) letters o t ≡ t
      by None is = refl
      by (Some number) is = absurd (frozen_none t.control.channel t.on.moment number frozen is)

  -- ---- acknowledgements

  acknowledges_ok : (t : Turn) → IsCurrent recovery → Settled t → Settled (acknowledges t)
  unfolding acknowledges with_output with_move
  acknowledges_ok t current h =
      let m = move.Quiet t.control.local in
      record {
        chain = chain_more moment ev e (at_turn e moment ev letters calls recovery i t) (at_turn e moment ev letters calls recovery i t) t.moves m h.chain (record {
          tunnel = tunnel t;
          there = there e moment ev letters calls recovery i t;
          current = current;
          after = refl;
        });
        outs = all_push _ t.outputs _ (outs_on t (with_move m t) (goes_nowhere (tunnel t)) (m ∷ []) refl h)
            (refl, Nothing current (next_unsent t.control.channel) refl refl);
        tells = all_push _ t.outputs _ h.tells tt;
        frames = all_push _ t.moves m (frames_more t.outputs _ t.moves h.frames) tt;
        stays = h.stays;
        goes = h.goes;
        held = h.held;
        fits = h.fits;
      }

  -- nor is anything acknowledged where the channel is frozen
  taken_current : (again : Bool) (before : ℕ) (t : Turn) → (again ≡ true → IsCurrent recovery) → Goes t
      → (again || (t.took && (outstanding t == before))) ≡ true → IsCurrent recovery
  taken_current true before t may goes is = may refl
  taken_current false before t may goes is =
      ⊎_elim (λ current. current)
      (λ (k : (t.control.channel.frozen ≡ true) × (t.took ≡ false) × (state_number t.control.state ≡ 3)). absurd
      (true≢false (sym (and_left t.took _ is) ∙ k.1))) goes

  acknowledged_ok : (again : Bool) (before : ℕ) (t : Turn) → (again ≡ true → IsCurrent recovery) → Settled t → Settled (acknowledged_after again before t)
  unfolding acknowledged_after
  acknowledged_ok again before t may h =
      branch Settled (again || (t.took && (outstanding t == before))) _ _ (λ yes. acknowledges_ok t (taken_current again before t may h.goes yes) h) (λ no. h)

  -- what came again is acknowledged in a channel that carries messages
  pub settled_ok : (again : Bool) (t : Turn) → (again ≡ true → IsCurrent recovery) → Settled t → Settled (settles again letters t)
  unfolding settles
  settled_ok again t may h =
      acknowledged_ok again (outstanding t) (lets_all_go t.control.channel.window.queued letters t) may (all_go_ok t.control.channel.window.queued t h)

  pub settles_ok : (again : Bool) (t : Turn) → TurnOk e moment ev letters calls recovery i t → Settled (settles again letters t)
  settles_ok again t h = settled_ok again t (λ again. h.current) (unsent t h)

  -- nothing came again
  pub settled_so : (t : Turn) → Settled t → Settled (settles false letters t)
  settled_so t h = settled_ok false t (λ again. absurd (true≢false (sym again))) h

  -- where the channel is frozen and nothing was taken, nothing follows
  pub settled_frozen : (t : Turn) → t.control.channel.frozen ≡ true → t.took ≡ false → settles false letters t ≡ t
  unfolding settles acknowledged_after
  settled_frozen t frozen none =
      ap (acknowledged_after false (outstanding t)) (none_go t.control.channel.window.queued t frozen)
      ∙ branch (λ (u : Turn). u ≡ t) (false || (t.took && (outstanding t == outstanding t))) _ _
      (λ is. absurd (true≢false (sym (and_left t.took _ is) ∙ none))) (λ is. refl)

  -- a word that is told
  pub told_settled : (o : Out) → IsWord o → Tells e moment ev o → (t : Turn) → Settled t → Settled (with_output o t)
  unfolding with_output
  told_settled o is so t h = record {
    chain = h.chain;
    outs = all_push _ t.outputs o h.outs (word_ok e.role e.config (tunnel t) t.moves o is);
    tells = all_push _ t.outputs o h.tells so;
    frames = frames_more t.outputs _ t.moves h.frames;
    stays = h.stays;
    goes = h.goes;
    held = h.held;
    fits = h.fits;
  }
