-- The moves of a start, one after another: each tunnel that comes back attempts its recovery in the machine, and its calls are up there.
use Rattle.std.proofs.Common.{◌≡◌, ◌⊎◌, inl, inr, ⊎_elim, ℕ, ◌<◌, ◌≤◌, Bool, true, false, List, [], ◌∷◌, ◌++◌, refl, sym, ap, ap₂, ◌∙◌}
use Rattle.std.proofs.Common.{subst, Option, Some, None, arith, eq-eqb}
use Rattle.std.proofs.lemmas.Bool.{eqb-true}
use Rattle.std.proofs.lemmas.Option.{same_Some}
use Rattle.std.specs.Prelude.{is_some, ◌==◌, ◌&&◌, ◌||◌, if◌then◌else◌}
use Rattle.id_source.specs.Spaces.{draw_is}
use Rattle.id_table.specs.Ids.{at, put}
use Rattle.id_table.specs.Order.{at_new, at_other, same_or_not}
use Rattle.session_book.specs.declared.record.BookTunnel.{BookTunnel}
use Rattle.session_book.specs.Books.{Kept, tunnel_at}
use Rattle.end_model.specs.declared.event.Event.{Event}
use Rattle.end_model.specs.declared.moves.Restored.{Restored}
use Rattle.end_model.specs.declared.moves.Froze.{Froze}
use Rattle.end_model.specs.declared.moves.Move.{Move}
use Rattle.end_model.specs.declared.moves.Move.TheVariants as move
use Rattle.end_model.specs.Tunnels.{Tunnel, new_tunnel}
use Rattle.end_model.specs.End.{End}
use Rattle.world_model.specs.World.{World, Node, Checkpoint, Deed}
use Rattle.step_laws.specs.Moves as step_moves
use Rattle.end_model.specs.Starting.{kept_control}
use Rattle.book_laws.proofs.Pending.{among_entry}
use Rattle.step_laws.specs.Moves.{Does, calls_back}
use Rattle.book_laws.proofs.Steps.{does_draw}
use Rattle.epoch_machine.specs.Worlds as machine
use Rattle.epoch_machine.specs.Worlds.{all_rules}
use Rattle.epoch_machine.specs.Moves as moves
use Rattle.epoch_machine.specs.Moves.{Restores, restores, step, goes_on}
use Rattle.epoch_machine.specs.Tunnels.{Attempts}
use Rattle.epoch_machine.specs.Calls.{Up}
use Rattle.session_laws.specs.Names.{name, phase_of}
use Rattle.session_laws.proofs.Ground.{one_step}
use Rattle.session_laws.proofs.Names.{same_name, name_not_zero}
use Rattle.channel_laws.specs.Accounts.{Part, Unmade, Opener, Acceptor, Renewed, Account, History, attempts_by, answers_by, after}
use Rattle.channel_laws.specs.Facts.{IsMade, EndOk, BookOk, NodeOk, BookedOk}
use Rattle.channel_laws.specs.Steps.{moves_on, IsStarted}
use Rattle.channel_laws.specs.Whole.{LeadsBack, NoMoveBack, OneMoreBack}
use Rattle.channel_laws.proofs.Restarted.{started_accounts}
use Rattle.channel_laws.proofs.Still.{same_history, nothing_by}
use Rattle.channel_laws.proofs.Waiting.{not_reset}
use Rattle.recovery_laws.specs.Joined.{is_made, is_used, phase_by, phase_in, AttemptJoined}
use Rattle.line_join_laws.proofs.Counting.{not_less}
use Rattle.line_join_laws.proofs.Lists.{goes_both}
use Rattle.line_join_laws.proofs.Nodes.{IsThere, left_there}
use Rattle.line_join_laws.proofs.Restored.{Stays, restores_it, restores_stay, phase_back, phase_stays, drawn_then, drawn_stays}
use Rattle.line_join_laws.proofs.Restored.{attempts_then, attempts_stay, state_back, state_stays, state_free}

-- ---- what is known of attempts after a move

-- the attempts that were made, and the answers, where a tunnel came back
module _ (w : World) (h : History) (n : ℕ) (node : Node) (moment : ℕ) (ev : Event) (m : Restored) (x : End) (d : Deed)
    (k : IsStarted w h n node moment ev (move.Restored m) x d) where
  tries : (p a : ℕ) → (after h d).attempts p a ≡ (if (d.node == p) && (m.attempt == a) then Some m else h.attempts p a)
  tries p a = ap (λ q. attempts_by d q p a (h.attempts p a)) k.deed.move_is

  own_tries : (after h d).attempts n m.attempt ≡ Some m
  own_tries =
      tries n m.attempt
      ∙ ap₂ (λ a b. if a && b then Some m else h.attempts n m.attempt) (eq-eqb d.node n k.deed.node_is) (eq-eqb m.attempt m.attempt refl)

  other_tries : (p a : ℕ) → ((p ≡ n) × (a ≡ m.attempt) → ⊥) → (after h d).attempts p a ≡ h.attempts p a
  other_tries p a apart = tries p a ∙ by (d.node == p) (m.attempt == a) refl refl
    where
      by : (b c : Bool) → (d.node == p) ≡ b → (m.attempt == a) ≡ c → (if b && c then Some m else h.attempts p a) ≡ h.attempts p a
      by true true one two = absurd (apart (sym (eqb-true d.node p one) ∙ k.deed.node_is, sym (eqb-true m.attempt a two)))
      by true false one two = refl
      by false c one two = refl

  answers_stay : (p c : ℕ) → (after h d).answers p c ≡ h.answers p c
  answers_stay p c = ap (λ q. answers_by d q p c (h.answers p c)) k.deed.move_is

-- the id of an attempt that begins is used for nothing else
module _ (h : History) (n a : ℕ) where
  unused : (IsMade (h.accounts n a 0) → ⊥) → h.attempts n a ≡ None → h.answers n a ≡ None → is_used h n a ≡ false
  unused none attempts answers =
      ap₂ (λ b o. b || (is_some o || is_some (h.answers n a))) (not_made (h.accounts n a 0).part refl) attempts
      ∙ ap (λ o. is_some o) answers
    where
      not_made : (p : Part) → (h.accounts n a 0).part ≡ p → is_made (h.accounts n a 0).part ≡ false
      not_made Unmade is = ap is_made is
      not_made Opener is = absurd (none (λ z. let two = sym is ∙ z in absurd cc))
      not_made Acceptor is = absurd (none (λ z. let two = sym is ∙ z in absurd cc))
      not_made Renewed is = absurd (none (λ z. let two = sym is ∙ z in absurd cc))

  used : (m : Restored) → h.attempts n a ≡ Some m → is_used h n a ≡ true
  used m is = ap (λ o. is_made (h.accounts n a 0).part || (is_some o || is_some (h.answers n a))) is ∙ by (is_made (h.accounts n a 0).part)
    where
      by : (b : Bool) → (b || true) ≡ true
      by true = refl
      by false = refl

-- ---- amid a start

module _ (n : ℕ) (m1 : machine.World) (j : Kept) (c0 : Checkpoint) (h0 : History) (next : ℕ) where
  -- the world to which some of its moves lead
  pub record AmidBack (w : World) (h : History) : Type 0 where
    pub node : Node
    pub there : at w.nodes n ≡ Some node
    pub checkpoint : node.checkpoint ≡ c0
    pub next_id : next ≤ node.end.session_ids.next
    pub accounts : h.accounts ≡ h0.accounts
    pub answers : (p c : ℕ) → h.answers p c ≡ h0.answers p c
    pub moves : List moves.Move
    pub stays : Stays m1 (goes_on all_rules m1 moves)
    pub drawn : (p k : ℕ) → p < 256 → k < 65536 → (goes_on all_rules m1 moves).tunnels.drawn (name p k) ≡ is_used h p k
    pub attempts : (p a : ℕ) → p < 256 → a < 65536 → AttemptJoined (goes_on all_rules m1 moves) p a (h.attempts p a)
    pub phase : (i : ℕ) → i < 65536 → (goes_on all_rules m1 moves).tunnels.phase (name n i) ≡ phase_in n (at node.end.tunnels i)
    pub phases : (p i : ℕ) → (p ≡ n → ⊥) → p < 256 → i < 65536
        → (goes_on all_rules m1 moves).tunnels.phase (name p i) ≡ m1.tunnels.phase (name p i)
    -- the calls of its tunnels that are in the book are up where their tunnel is there
    pub state : (s i : ℕ) → s < 65536 → i < 65536 → m1.calls.tunnel (name n s) ≡ name n i
        → (goes_on all_rules m1 moves).calls.state (name n s)
        ≡ (if is_some (at node.end.tunnels i) && m1.calls.booked (name n s) then Up else m1.calls.state (name n s))
    pub free : (s : ℕ) → s < 65536 → m1.calls.booked (name n s) ≡ false
        → (goes_on all_rules m1 moves).calls.state (name n s) ≡ m1.calls.state (name n s)
    pub states : (p s : ℕ) → (p ≡ n → ⊥) → p < 256 → s < 65536
        → (goes_on all_rules m1 moves).calls.state (name p s) ≡ m1.calls.state (name p s)

  -- what is known of the machine's world before its moves
  pub record IsReady : Type 0 where
    pub node_fits : n < 256
    pub up : m1.tunnels.up n ≡ true
    pub node : (i : ℕ) → i < 65536 → IsMade (h0.accounts n i 0) → m1.tunnels.node (name n i) ≡ n
    pub booked : (i : ℕ) → i < 65536 → is_some (tunnel_at j i) ≡ true → m1.tunnels.booked (name n i) ≡ true
    pub apart : (p s i : ℕ) → (p ≡ n → ⊥) → p < 256 → s < 65536 → i < 65536 → m1.calls.booked (name p s) ≡ true
        → m1.calls.tunnel (name p s) ≡ name n i → ⊥

  -- each tunnel that comes back is in the book behind the start
  abbrev pub IsKept : Move → Type 0
  IsKept (move.Restored r) = is_some (tunnel_at j r.tunnel.local) ≡ true
  IsKept m = Unit {0}

  abbrev pub AreKeptIn : List Move → Type 0
  AreKeptIn [] = Unit {0}
  AreKeptIn (m ∷ ms) = IsKept m × AreKeptIn ms

  kept_front : (ms ns : List Move) → AreKeptIn (ms ++ ns) → AreKeptIn ms
  kept_front [] ns k = tt
  kept_front (m ∷ ms) ns k = (k.0, kept_front ms ns k.1)

  kept_last : (ms : List Move) (m : Move) → AreKeptIn (ms ++ m ∷ []) → IsKept m
  kept_last [] m k = k.0
  kept_last (x ∷ ms) m k = kept_last ms m k.1

  module _ (ready : IsReady) (w : World) (h : History) (a : AmidBack w h) (old : Node) (moment : ℕ) (ev : Event) where
    abbrev z : machine.World
    z = goes_on all_rules m1 a.moves

    -- ---- a move that brings no tunnel back

    -- tunnels stay in the midst of what they are
    abbrev SamePhases : End → Type 0
    SamePhases x = (i : ℕ) → (phase_in n (at x.tunnels i) ≡ phase_in n (at old.end.tunnels i)) × (is_some (at x.tunnels i) ≡ is_some
        (at old.end.tunnels i))

    module _ (m : Move) (x : End) (d : Deed) (is : IsStarted w h n old moment ev m x d) where
      same : a.node ≡ old
      same = same_Some a.node old (sym a.there ∙ is.there)

      left : IsThere (moves_on w n old m x) n x old.up old.checkpoint
      left = left_there w n old is.there m x

      more_ids : next ≤ x.session_ids.next
      more_ids =
          let le = a.next_id in
          let own = ap (λ (y : Node). y.end.session_ids.next) same in
          let up = not_less old.end.session_ids x.session_ids (does_draw old.end x moment ev m is.does).sessions in
          omega (arith, le, own, up)

      still_then : after h d ≡ h → SamePhases x → AmidBack (moves_on w n old m x) (after h d)
      still_then history phases = subst (AmidBack (moves_on w n old m x)) (sym history) (record {
        node = left.node;
        there = left.there;
        checkpoint = left.checkpoint ∙ (ap (λ (y : Node). y.checkpoint) (sym same) ∙ a.checkpoint);
        next_id = (let le = more_ids in let end = ap (λ (e : End). e.session_ids.next) left.end in omega (arith, le, end));
        accounts = a.accounts;
        answers = a.answers;
        moves = a.moves;
        stays = a.stays;
        drawn = a.drawn;
        attempts = a.attempts;
        phase = λ i fits.
            a.phase i fits
            ∙ (ap (λ (y : Node). phase_in n (at y.end.tunnels i)) same
            ∙ (sym (phases i).0 ∙ ap (λ (e : End). phase_in n (at e.tunnels i)) (sym left.end)));
        phases = a.phases;
        state = λ s i sfits fits own.
            a.state s i sfits fits own
            ∙ ap (λ b. if b && m1.calls.booked (name n s) then Up else m1.calls.state (name n s))
            (ap (λ (y : Node). is_some (at y.end.tunnels i)) same
            ∙ (sym (phases i).1 ∙ ap (λ (e : End). is_some (at e.tunnels i)) (sym left.end)));
        free = a.free;
        states = a.states;
      })

      -- one tunnel is put, in the same state
      put_phases : (k : ℕ) (t u : Tunnel) → at old.end.tunnels k ≡ Some t → x.tunnels ≡ put old.end.tunnels k u
          → phase_in n (Some u) ≡ phase_in n (Some t) → SamePhases x
      put_phases k t u there tunnels phase i = ⊎_elim
          (λ (e : i ≡ k).
          let now : at x.tunnels i ≡ Some u = ap (at x.tunnels) e ∙ (ap (λ ts. at ts k) tunnels ∙ at_new old.end.tunnels k u) in
          let was : at old.end.tunnels i ≡ Some t = ap (at old.end.tunnels) e ∙ there in
          (ap (phase_in n) now ∙ (phase ∙ ap (phase_in n) (sym was)), ap (λ o. is_some o) now ∙ ap (λ o. is_some o) (sym was)))
          (λ (o : i ≡ k → ⊥).
          let stays : at x.tunnels i ≡ at old.end.tunnels i = ap (λ ts. at ts i) tunnels ∙ at_other old.end.tunnels k u i o in
          (ap (phase_in n) stays, ap (λ q. is_some q) stays))
          (same_or_not i k)

      end_phases : x ≡ old.end → SamePhases x
      end_phases is_so i = (ap (λ (e : End). phase_in n (at e.tunnels i)) is_so, ap (λ (e : End). is_some (at e.tunnels i)) is_so)

    -- ---- a tunnel comes back

    module _ (m : Restored) (x : End) (d : Deed) (is : IsStarted w h n old moment ev (move.Restored m) x d) (kept : is_some
        (tunnel_at j m.tunnel.local) ≡ true)
      where
        does : step_moves.Restores old.end moment m x
        does = is.does

        abbrev i : ℕ
        i = m.tunnel.local

        abbrev X : ℕ
        X = name n m.tunnel.local

        abbrev A : ℕ
        A = name n m.attempt

        abbrev g : History
        g = after h d

        abbrev u : Tunnel
        u = record (new_tunnel (kept_control moment m.tunnel)) {
          calls = calls_back old.end.role does.ground m.calls;
          recovery = Some does.recovery;
        }

        ok : EndOk w h n old.end × BookOk h n old.checkpoint.book
        ok = subst (NodeOk w h n) is.there (is.holds.nodes n)

        same_node : a.node ≡ old
        same_node = same (move.Restored m) x d is

        found : BookedOk h n m.tunnel
        found =
            ok.1.tunnels m.tunnel.local m.tunnel
            (among_entry (λ (t : BookTunnel). t.local) old.checkpoint.book.tunnels is.sound.tunnels_rise m.tunnel is.of.0)

        made0 : IsMade (h0.accounts n i 0)
        made0 = subst (λ (f : ℕ → ℕ → ℕ → Account). IsMade (f n i 0)) a.accounts found.made

        fits : i < 65536
        fits = (is.holds.accounts n i 0).id found.made

        -- its attempt

        next_is : m.attempt ≡ old.end.tunnel_ids.next
        next_is = (draw_is old.end.tunnel_ids m.attempt does.local).0

        attempt_fits : m.attempt < 65536
        attempt_fits = let le = (draw_is old.end.tunnel_ids m.attempt does.local).1 in let last = is.tunnel_ids.last in omega
            (arith, le, last)

        attempt_some : 0 < m.attempt
        attempt_some = let first = is.first in let next = next_is in omega (arith, first, next)

        fresh : is_used h n m.attempt ≡ false
        fresh = unused h n m.attempt
            (λ made. (let lt = ok.0.ids.tunnels m.attempt made in let next = next_is in let no : ⊥ = omega (arith, lt, next) in no))
            (no_attempt (h.attempts n m.attempt) refl) (no_answer (h.answers n m.attempt) refl)
          where
            no_attempt : (o : Option Restored) → h.attempts n m.attempt ≡ o → o ≡ None
            no_attempt None eq = refl
            no_attempt (Some r) eq =
                (let lt = ok.0.ids.attempts m.attempt (ap (λ q. is_some q) eq) in let next = next_is in absurd (omega (arith, lt, next)))

            no_answer : (o : Option Froze) → h.answers n m.attempt ≡ o → o ≡ None
            no_answer None eq = refl
            no_answer (Some r) eq =
                (let lt = ok.0.ids.answers m.attempt (ap (λ q. is_some q) eq) in let next = next_is in absurd (omega (arith, lt, next)))

        no_attempt_before : h.attempts n m.attempt ≡ None
        no_attempt_before = by (h.attempts n m.attempt) refl
          where
            by : (o : Option Restored) → h.attempts n m.attempt ≡ o → o ≡ None
            by None eq = refl
            by (Some r) eq = let no : true ≡ false = sym (used h n m.attempt r eq) ∙ fresh in absurd cc

        -- the machine's move

        none_there : at a.node.end.tunnels i ≡ None
        none_there = ap (λ (y : Node). at y.end.tunnels i) same_node ∙ does.none

        goes : step all_rules z (Restores X A) ≡ restores z X A
        goes =
            restores_it z X A (ap (λ f. f X) a.stays.booked ∙ ready.booked i fits kept) (a.phase i fits ∙ ap (phase_in n) none_there)
            (ap₂ (λ f k. f (k X)) a.stays.up a.stays.node ∙ (ap m1.tunnels.up (ready.node i fits made0) ∙ ready.up))
            (let some = name_not_zero n m.attempt attempt_some in omega (arith, some)) (a.drawn n m.attempt ready.node_fits attempt_fits
            ∙ fresh)

        abbrev js : List moves.Move
        js = a.moves ++ Restores X A ∷ []

        now : goes_on all_rules m1 js ≡ restores z X A
        now = goes_both m1 a.moves (Restores X A ∷ []) ∙ (one_step all_rules z (Restores X A) ∙ goes)

        other_attempt : (p k : ℕ) → k < 65536 → ((p ≡ n) × (k ≡ m.attempt) → ⊥) → name p k ≡ A → ⊥
        other_attempt p k kfits apart eq = apart (same_name p k n m.attempt kfits attempt_fits eq)

        either : (p k : ℕ) → ((p ≡ n) × (k ≡ m.attempt)) ⊎ ((p ≡ n) × (k ≡ m.attempt) → ⊥)
        either p k = ⊎_elim
            (λ (e : p ≡ n). ⊎_elim (λ (f : k ≡ m.attempt). inl (e, f)) (λ o. inr (λ (q : (p ≡ n) × (k ≡ m.attempt)). o q.1))
            (same_or_not k m.attempt))
            (λ o. inr (λ (q : (p ≡ n) × (k ≡ m.attempt)). o q.0))
            (same_or_not p n)

        used_as : (p k : ℕ) → ((p ≡ n) × (k ≡ m.attempt) → ⊥) → is_used g p k ≡ is_used h p k
        used_as p k apart =
            ap (λ (f : ℕ → ℕ → ℕ → Account). is_made (f p k 0).part || (is_some (g.attempts p k) || is_some (g.answers p k)))
            (started_accounts (move.Restored m) w h n old moment ev x d is)
            ∙ ap₂ (λ o q. is_made (h.accounts p k 0).part || (is_some o || is_some q)) (other_tries w h n old moment ev m x d is p k apart)
            (answers_stay w h n old moment ev m x d is p k)

        drawn_now : (p k : ℕ) → p < 256 → k < 65536 → (restores z X A).tunnels.drawn (name p k) ≡ is_used g p k
        drawn_now p k pfits kfits = ⊎_elim
            (λ (e : (p ≡ n) × (k ≡ m.attempt)).
            ap₂ (λ q r. (restores z X A).tunnels.drawn (name q r)) e.0 e.1
            ∙ (drawn_then z X A ∙ (sym (used g n m.attempt m (own_tries w h n old moment ev m x d is))
            ∙ ap₂ (λ q r. is_used g q r) (sym e.0) (sym e.1))))
            (λ apart. drawn_stays z X A (name p k) (other_attempt p k kfits apart) ∙ (a.drawn p k pfits kfits ∙ sym (used_as p k apart)))
            (either p k)

        attempt_same : (y : machine.World) (p k : ℕ) (o : Option Restored) → y.tunnels.attempts (name p k) ≡ z.tunnels.attempts (name p k)
            → AttemptJoined z p k o → AttemptJoined y p k o
        attempt_same y p k None eq t = eq ∙ t
        attempt_same y p k (Some r) eq t = eq ∙ t

        attempts_now : (p k : ℕ) → p < 256 → k < 65536 → AttemptJoined (restores z X A) p k (g.attempts p k)
        attempts_now p k pfits kfits = ⊎_elim
            (λ (e : (p ≡ n) × (k ≡ m.attempt)).
            subst (λ q. AttemptJoined (restores z X A) q k (g.attempts q k)) (sym e.0)
            (subst (λ r. AttemptJoined (restores z X A) n r (g.attempts n r)) (sym e.1)
            (subst (AttemptJoined (restores z X A) n m.attempt) (sym (own_tries w h n old moment ev m x d is)) (attempts_then z X A))))
            (λ apart.
            subst (AttemptJoined (restores z X A) p k) (sym (other_tries w h n old moment ev m x d is p k apart))
            (attempt_same (restores z X A) p k (h.attempts p k) (attempts_stay z X A (name p k) (other_attempt p k kfits apart))
            (a.attempts p k pfits kfits)))
            (either p k)

        -- the tunnel, and the others

        tunnels : x.tunnels ≡ put old.end.tunnels i u
        tunnels = ap (λ (e : End). e.tunnels) does.after

        waits : phase_in n (Some u) ≡ Attempts A
        waits =
            ap (λ r. phase_by n u (Some r)) does.is.is
            ∙ (ap (λ b. if b then phase_of u.control.state else Attempts (name n does.is.connection.local))
            (not_reset does.is.connection does.is.waits)
            ∙ ap (λ k. Attempts (name n k)) does.is.local_is)

        here : at x.tunnels i ≡ Some u
        here = ap (λ ts. at ts i) tunnels ∙ at_new old.end.tunnels i u

        elsewhere : (k : ℕ) → (k ≡ i → ⊥) → at x.tunnels k ≡ at a.node.end.tunnels k
        elsewhere k o =
            ap (λ ts. at ts k) tunnels ∙ (at_other old.end.tunnels i u k o ∙ ap (λ (y : Node). at y.end.tunnels k) (sym same_node))

        phase_now : (k : ℕ) → k < 65536 → (restores z X A).tunnels.phase (name n k) ≡ phase_in n (at x.tunnels k)
        phase_now k kfits = ⊎_elim
            (λ (e : k ≡ i).
            ap (λ q. (restores z X A).tunnels.phase (name n q)) e
            ∙ (phase_back z X A ∙ (sym waits ∙ (ap (phase_in n) (sym here) ∙ ap (λ q. phase_in n (at x.tunnels q)) (sym e)))))
            (λ (o : k ≡ i → ⊥).
            phase_stays z X A (name n k) (λ eq. o (same_name n k n i kfits fits eq).1) ∙ (a.phase k kfits
            ∙ ap (phase_in n) (sym (elsewhere k o))))
            (same_or_not k i)

        phases_now : (p k : ℕ) → (p ≡ n → ⊥) → p < 256 → k < 65536 → (restores z X A).tunnels.phase (name p k) ≡ m1.tunnels.phase (name p k)
        phases_now p k o pfits kfits =
            phase_stays z X A (name p k) (λ eq. o (same_name p k n i kfits fits eq).0) ∙ a.phases p k o pfits kfits

        -- calls

        tunnel_as : (y : ℕ) → z.calls.tunnel y ≡ m1.calls.tunnel y
        tunnel_as y = ap (λ f. f y) a.stays.tunnel

        booked_as : (y : ℕ) → z.calls.booked y ≡ m1.calls.booked y
        booked_as y = ap (λ f. f y) a.stays.call_booked

        state_now : (s k : ℕ) → s < 65536 → k < 65536 → m1.calls.tunnel (name n s) ≡ name n k
            → (restores z X A).calls.state (name n s)
            ≡ (if is_some (at x.tunnels k) && m1.calls.booked (name n s) then Up else m1.calls.state (name n s))
        state_now s k sfits kfits own = ⊎_elim
            (λ (e : k ≡ i).
            let y = name n s in
            let was : z.calls.state y ≡ m1.calls.state y =
            a.state s k sfits kfits own
            ∙ ap (λ o. if is_some o && m1.calls.booked y then Up else m1.calls.state y) (ap (at a.node.end.tunnels) e ∙ none_there) in
            state_back z X A y (tunnel_as y ∙ (own ∙ ap (name n) e))
            ∙ (ap₂ (λ b t. if b then Up else t) (booked_as y) was
            ∙ ap (λ o. if is_some o && m1.calls.booked y then Up else m1.calls.state y) (sym (ap (at x.tunnels) e ∙ here))))
            (λ (o : k ≡ i → ⊥).
            let y = name n s in
            state_stays z X A y (λ eq. o (same_name n k n i kfits fits (sym own ∙ (sym (tunnel_as y) ∙ eq))).1)
            ∙ (a.state s k sfits kfits own
            ∙ ap (λ q. if is_some q && m1.calls.booked y then Up else m1.calls.state y) (sym (elsewhere k o))))
            (same_or_not k i)

        free_now : (s : ℕ) → s < 65536 → m1.calls.booked (name n s) ≡ false → (restores z X A).calls.state (name n s) ≡ m1.calls.state
            (name n s)
        free_now s sfits none = state_free z X A (name n s) (booked_as (name n s) ∙ none) ∙ a.free s sfits none

        states_now : (p s : ℕ) → (p ≡ n → ⊥) → p < 256 → s < 65536 → (restores z X A).calls.state (name p s) ≡ m1.calls.state (name p s)
        states_now p s o pfits sfits = by (m1.calls.booked (name p s)) refl
          where
            by : (b : Bool) → m1.calls.booked (name p s) ≡ b → (restores z X A).calls.state (name p s) ≡ m1.calls.state (name p s)
            by true booked =
                state_stays z X A (name p s) (λ eq. ready.apart p s i o pfits sfits fits booked (sym (tunnel_as (name p s)) ∙ eq))
                ∙ a.states p s o pfits sfits
            by false free = state_free z X A (name p s) (booked_as (name p s) ∙ free) ∙ a.states p s o pfits sfits

        restored_then : AmidBack (moves_on w n old (move.Restored m) x) (after h d)
        restored_then =
            let q = left (move.Restored m) x d is in
            record {
              node = q.node;
              there = q.there;
              checkpoint = q.checkpoint ∙ (ap (λ (y : Node). y.checkpoint) (sym same_node) ∙ a.checkpoint);
              next_id = (let le = more_ids (move.Restored m) x d is in let end = ap (λ (e : End). e.session_ids.next) q.end in omega
                  (arith, le, end));
              accounts = started_accounts (move.Restored m) w h n old moment ev x d is ∙ a.accounts;
              answers = λ p c. answers_stay w h n old moment ev m x d is p c ∙ a.answers p c;
              moves = js;
              stays = subst (Stays m1) (sym now) (restores_stay z X A m1 a.stays);
              drawn = λ p k pfits kfits. ap (λ (y : machine.World). y.tunnels.drawn (name p k)) now ∙ drawn_now p k pfits kfits;
              attempts = λ p k pfits kfits. subst (λ y. AttemptJoined y p k (g.attempts p k)) (sym now) (attempts_now p k pfits kfits);
              phase = λ k kfits.
                  ap (λ (y : machine.World). y.tunnels.phase (name n k)) now
                  ∙ (phase_now k kfits ∙ ap (λ (e : End). phase_in n (at e.tunnels k)) (sym q.end));
              phases = λ p k o pfits kfits. ap (λ (y : machine.World). y.tunnels.phase (name p k)) now ∙ phases_now p k o pfits kfits;
              state = λ s k sfits kfits own.
                  ap (λ (y : machine.World). y.calls.state (name n s)) now
                  ∙ (state_now s k sfits kfits own
                  ∙ ap (λ (e : End). if is_some (at e.tunnels k) && m1.calls.booked (name n s) then Up else m1.calls.state (name n s))
                  (sym q.end));
              free = λ s sfits none. ap (λ (y : machine.World). y.calls.state (name n s)) now ∙ free_now s sfits none;
              states = λ p s o pfits sfits. ap (λ (y : machine.World). y.calls.state (name p s)) now ∙ states_now p s o pfits sfits;
            }

    -- ---- any move of a start

    one_back : (m : Move) (x : End) (d : Deed) → IsStarted w h n old moment ev m x d → IsKept m
        → AmidBack (moves_on w n old m x) (after h d)
    one_back (move.Restored m) x d is kept = restored_then m x d is kept
    one_back (move.Forgot m) x d is kept =
        still_then (move.Forgot m) x d is (same_history h d (nothing_by d (move.Forgot m) tt is.deed.move_is))
        (end_phases (move.Forgot m) x d is is.does.after)
    one_back (move.FrameSent m) x d is kept =
        still_then (move.FrameSent m) x d is (same_history h d (nothing_by d (move.FrameSent m) tt is.deed.move_is))
        (end_phases (move.FrameSent m) x d is is.does.after)
    one_back (move.Negotiated m) x d is kept =
        still_then (move.Negotiated m) x d is (same_history h d (nothing_by d (move.Negotiated m) tt is.deed.move_is))
        (put_phases (move.Negotiated m) x d is m.tunnel is.does.tunnel _ is.does.there (ap (λ (e : End). e.tunnels) is.does.after) refl)
    one_back (move.Counted m) x d is kept =
        still_then (move.Counted m) x d is (same_history h d (nothing_by d (move.Counted m) tt is.deed.move_is))
        (put_phases (move.Counted m) x d is m.tunnel is.does.tunnel _ is.does.there (ap (λ (e : End). e.tunnels) is.does.after) refl)
    one_back m x d is kept = absurd is.of

  -- ---- all of them

  pub all_back : (w0 : World) → IsReady → AmidBack w0 h0 → (moment : ℕ) (ev : Event) (made : List Move) (v : World) (g : History)
      → LeadsBack n moment ev w0 h0 made v g → AreKeptIn made → AmidBack v g
  all_back w0 ready first moment ev made v g NoMoveBack kept = first
  all_back w0 ready first moment ev made v g (OneMoreBack before w h node m x d leads is) kept =
      one_back ready w h (all_back w0 ready first moment ev before w h leads (kept_front before (m ∷ []) kept)) node moment ev m x d is
      (kept_last before m kept)
