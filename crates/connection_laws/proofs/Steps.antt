-- What a chain of moves of a step keeps.
use Rattle.std.proofs.Common.{◌≡◌, inl, ⊎_elim, ℕ, ◌+◌, ◌*◌, ◌^◌, ◌<◌, ◌≤◌, List, [], ◌∷◌, ◌++◌, length, map, refl, sym, ap, ◌∙◌, subst, Option, Some, Ok, arith, flat_map}
use Rattle.std.proofs.lemmas.List.{length-append}
use Rattle.std.specs.List.{AllByRecursion}
use Rattle.id_table.specs.Ids.{at}
use Rattle.id_source.specs.Spaces.{takes_id, draw_is}
use Rattle.tunnel_fsm.specs.Rows.{state_number}
use Rattle.end_model.specs.declared.event.Event.{Event}
use Rattle.end_model.specs.declared.moves.Declined.{Declined}
use Rattle.end_model.specs.declared.moves.FrameSent.{FrameSent}
use Rattle.end_model.specs.declared.moves.Move.{Move}
use Rattle.end_model.specs.declared.moves.Move.TheVariants as move
use Rattle.end_names.specs.declared.role.Role.{Role}
use Rattle.l2tp_header.specs.Reading.{body_of}
use Rattle.end_model.specs.Tunnels.{Tunnel}
use Rattle.end_model.specs.End.{End}
use Rattle.world_model.specs.World.{World, Sender, Deed, deed_of}
use Rattle.step_laws.specs.Letters.{Among}
use Rattle.step_laws.specs.Moves.{Does, Chain, Declines, SendsFrame}
use Rattle.step_laws.specs.Codes.{decline_codes_fit}
use Rattle.step_laws.specs.Ups.{reads_of_move}
use Rattle.step_laws.specs.Steps.{IsOfNoStart}
use Rattle.frame_laws.specs.Unrecovered.{IsMain, is_main}
use Rattle.frame_laws.proofs.Chains.{does_role}
use Rattle.connection_laws.specs.Accounts.{Account, no_account, about, after_deed, account_from}
use Rattle.connection_laws.specs.Facts.{Accounts, IsOpen, Within}
use Rattle.connection_laws.proofs.Keeps.{after, IsMoved, MovesKeep}
use Rattle.connection_laws.specs.Steps.{MovesWithin, ClosingsAreKnown, DeclinesAreOfOpenings, OpeningsAreAcceptable, NoneAsksForSessions}
use Rattle.connection_laws.proofs.Later.{extends_same, extends_on, AllExtend, all_extend, DeclinesNone, MayEnter, only_after, after_there}
use Rattle.connection_laws.proofs.Staying.{Stays, stays_same, stays_on, all_stay_extend, given_stays, IsDeclining, declines_or_not, opening_stays, WasOpening, was_opening, opening_later}
use Rattle.connection_laws.proofs.States.{not_closed, is_open_so, is_waiting, closes_open}
use Rattle.connection_laws.proofs.Beginning.{undrawn}
use Rattle.connection_laws.proofs.Budget.{AckedBelow, GivenBelow, does_below, given_after, has_numbers, has_counts, few_out}

-- ---- what a tunnel is before a move that makes it, that learns its partner, or that closes it

module _ (closings : ClosingsAreKnown) (accs : Accounts) (n : ℕ) (e : End) (sender : Option Sender) (moment : ℕ) (ev : Event)
    (within : Within accs n e sender ev) where
  drawn_unknown : (k : ℕ) → takes_id e.tunnel_ids ≡ Ok k → accs n k ≡ no_account
  drawn_unknown k h = undrawn accs n e sender ev within k (draw_is e.tunnel_ids k h).0

  -- a tunnel that isn't closed is open
  opens : (i : ℕ) (t : Tunnel) → at e.tunnels i ≡ Some t → (state_number t.control.state ≡ 4 → ⊥) → IsOpen (accs n i)
  opens i t there unclosed = is_open_so accs i (accs n i) t (accs n i).part (within.end.live i t there).state unclosed

  may_enter : (m : Move) (x : End) → Does e moment ev m x → MayEnter m (accs n (about m))
  may_enter (move.Opened m) x h = ap (λ (a : Account). a.part) (drawn_unknown m.tunnel h.drawn)
  may_enter (move.Accepted m) x h =
      let none = drawn_unknown m.tunnel h.drawn in
      (ap (λ (a : Account). a.part) none, ap (λ (a : Account). a.remote) none, ap (λ (a : Account). a.closed) none)
  may_enter (move.Connected m) x h =
      let a = accs n m.tunnel in
      let waits = is_waiting accs m.tunnel a h.tunnel a.part (within.end.live m.tunnel h.tunnel h.there).state (ap state_number h.state) in
      (waits.remote, waits.is_open)
  may_enter (move.Closed m) x h = (
    closings accs n e x sender moment ev within m h,
    opens m.tunnel h.tunnel h.there (closes_open h.tunnel.control.state h.on h.row),
  )
  may_enter (move.Rejected m) x h =
      let a = accs n m.tunnel in
      let waits = is_waiting accs m.tunnel a h.tunnel a.part (within.end.live m.tunnel h.tunnel h.there).state h.waits in
      (waits.remote, waits.is_open)
  may_enter (move.ClosedBy m) x h = opens m.tunnel h.tunnel h.there (not_closed h.tunnel.control.state h.live)
  may_enter (move.Confirmed m) x h = tt
  may_enter (move.Added m) x h = tt
  may_enter (move.Requested m) x h = tt
  may_enter (move.Replied m) x h = tt
  may_enter (move.FirstUp m) x h = tt
  may_enter (move.SecondUp m) x h = tt
  may_enter (move.Refused m) x h = tt
  may_enter (move.EndTold m) x h = tt
  may_enter (move.EndHeard m) x h = tt
  may_enter (move.EndSilent m) x h = tt
  may_enter (move.Declined m) x h = tt
  may_enter (move.Cleared i booked) x h = tt
  may_enter (move.Greeted m) x h = tt
  may_enter (move.TookPlain m) x h = tt
  may_enter (move.NrRead m) x h = tt
  may_enter (move.LetGo m) x h = tt
  may_enter (move.Repeated m) x h = tt
  may_enter (move.Quiet i) x h = tt
  may_enter (move.Negotiated m) x h = tt
  may_enter (move.Counted m) x h = tt
  may_enter (move.FrameSent m) x h = tt
  may_enter (move.FrameUp m) x h = tt
  may_enter m x h = tt

-- ---- the frames that moves send

-- they name calls by ids of 16 bits
abbrev pub FramesFit : List Move → Type 0
FramesFit moves = (f : FrameSent) → Among (move.FrameSent f) moves → f.remote < 65536

-- a frame names its call by the id that the peer gave it
frame_fits : (accs : Accounts) (n : ℕ) (e x : End) (sender : Option Sender) (moment : ℕ) (ev : Event) (f : FrameSent) → Within accs n e sender ev
    → SendsFrame e moment ev f x → f.remote < 65536
frame_fits accs n e x sender moment ev f within h = rw h.remote ((within.end.live f.tunnel h.tunnel h.there).calls f.session h.call h.calls)

-- ---- a chain of moves

-- the accounts after deeds
abbrev pub afterwards : Accounts → List Deed → Accounts
afterwards accs ds k j = account_from ds k j (accs k j)

pub from-append : (ds es : List Deed) (n i : ℕ) (a : Account) → account_from es n i (account_from ds n i a) ≡ account_from (ds ++ es) n i a
unfolding account_from
from-append [] es n i a = refl
from-append (d ∷ ds) es n i a = from-append ds es n i (after_deed d n i a)

-- what a step of a node leaves: so many letters are acknowledged at most, and so many are given
pub record Kept (accs ms : Accounts) (n : ℕ) (x : End) (sender : Option Sender) (ev : Event) (acked most : ℕ) : Type 0 where
  pub within : Within ms n x sender ev
  pub below : AckedBelow x acked
  pub given : GivenBelow ms most
  pub grown : AllExtend accs ms
  -- of the tunnels of other nodes only SCCRQs may be declined
  pub others : (k j : ℕ) → (k ≡ n → ⊥) → Stays (accs k j) (ms k j)

-- and its moves, each made where all of it holds
pub record Ran (accs ms : Accounts) (n : ℕ) (e x : End) (sender : Option Sender) (moment : ℕ) (ev : Event) (deed : Move → Deed) (made : List Move)
    (acked most : ℕ) : Type 0 where
  pub kept : Kept accs ms n x sender ev acked most
  pub moves : MovesWithin accs n e sender moment ev deed made x
  pub openings : (q : Declined) → Among (move.Declined q) made → WasOpening ms n q
  pub frames : FramesFit made
  pub main : AllByRecursion IsMain made

-- what one move leaves of the accounts
record MoveLeaves (accs ms : Accounts) (n most : ℕ) (m : Move) : Type 0 where
  grown : AllExtend accs ms
  given : GivenBelow ms most
  others : (k j : ℕ) → (k ≡ n → ⊥) → Stays (accs k j) (ms k j)
  openings : (q : Declined) → m ≡ move.Declined q → WasOpening ms n q

no_opening : (m : Move) → DeclinesNone m → (q : Declined) → m ≡ move.Declined q → ⊥
no_opening m plain q is = subst DeclinesNone is plain

abbrev pub reads_in : List Move → List ℕ
reads_in ms = flat_map reads_of_move ms

abbrev pub deeds : World → ℕ → ℕ → Role → Option Sender → List Move → List Deed
deeds v line n r sender ms = map (λ m. deed_of v line n r sender m) ms

module _ (moves_keep : MovesKeep) (closings : ClosingsAreKnown) (declines : DeclinesAreOfOpenings) (acceptable : OpeningsAreAcceptable)
    (unasked : NoneAsksForSessions)
    (v : World) (line n : ℕ) (r : Role) (sender : Option Sender) (moment : ℕ) (ev : Event) where
  move_leaves : (accs : Accounts) (e y : End) (m : Move) → IsMain m → (d : Deed) (top most : ℕ) → d.node ≡ n → d.move ≡ m → Within accs n e sender ev
      → Does e moment ev m y → Within (after accs d) n y sender ev → AckedBelow y top → top + 8192 ≤ most → GivenBelow accs most
      → MoveLeaves accs (after accs d) n most m
  move_leaves accs e y m main d top most node is within does then below room had = ⊎_elim
      (λ (plain : DeclinesNone m). record {
        grown = all_extend accs (after accs d) n (about m)
            (only_after accs d n m plain node is (may_enter closings accs n e sender moment ev within m y does));
        given = given_after accs n e y sender moment ev m main d top most plain node is does then below room had;
        others = λ k j other. stays_same (accs k j) (after accs d k j)
            (after_there accs d k j (subst DeclinesNone (sym is) plain) (λ both. other (both.0 ∙ node)));
        openings = λ q same. absurd (no_opening m plain q same);
      })
      (λ (k : IsDeclining m).
      let all = opening_stays accs n d k.declined (is ∙ k.is)
      (declines accs n e y sender ev within k.declined (subst (λ (q : Move). Does e moment ev q y) k.is does)) in
      record {
        grown = all_stay_extend accs (after accs d) all;
        given = given_stays accs (after accs d) all most had;
        others = λ i j other. all i j;
        openings = λ q same.
            let did : Declines e ev q y = subst (λ (q : Move). Does e moment ev q y) same does in
            was_opening accs n d q (is ∙ same) (declines accs n e y sender ev within q did) (decline_codes_fit e (body_of did.bytes did.header) q did.why);
      })
      (declines_or_not m)

  -- a move that is made where all of it holds isn't one of a recovery
  main_within : (accs : Accounts) (e y : End) (m : Move) → Within accs n e sender ev → IsOfNoStart m → Does e moment ev m y → IsMain m
  main_within accs e y m within start does =
      is_main e (λ i t there. let live = within.end.live i t there in (live.recovery, live.query)) moment ev (
        (λ k came o said. (acceptable accs n e sender ev within k.peer k.header.session o
            (inl (record { letter = k; came = came; peer_is = refl; says = record { session_is = refl; said = said } }))).1),
        (λ k came pairs said. unasked accs n e sender ev within k.peer k.header.session pairs
            (record { letter = k; came = came; peer_is = refl; says = record { session_is = refl; said = said } })),
      ) m start y does

  pub chain_keeps : (ms : List Move) (accs : Accounts) (e x : End) (top most : ℕ) → AllByRecursion IsOfNoStart ms → Chain moment ev e ms x
      → e.role ≡ r → Within accs n e sender ev → AckedBelow e top → GivenBelow accs most → top + 8192 * length (reads_in ms) + 8192 ≤ most → most + 3 < 2 ^ 64
      → Ran accs (afterwards accs (deeds v line n r sender ms)) n e x sender moment ev (λ m. deed_of v line n r sender m) ms
      (top + 8192 * length (reads_in ms)) most
  unfolding account_from
  chain_keeps [] accs e x top most starts h role within below had room last = record {
    kept = record {
      within = subst (λ y. Within accs n y sender ev) h within;
      below = λ i t there. let le = below i t (subst (λ (y : End). at y.tunnels i ≡ Some t) (sym h) there) in omega arith;
      given = had;
      grown = λ k j. extends_same (accs k j);
      others = λ k j o. stays_same (accs k j) (accs k j) refl;
    };
    moves = h;
    openings = λ q among. absurd among;
    frames = λ f among. absurd among;
    main = tt;
  }
  chain_keeps (m ∷ ms) accs e x top most starts h role within below had room last =
      let d = deed_of v line n r sender m in
      let y = h.0 in
      let main = main_within accs e y m within starts.0 h.1 in
      let reads = length (reads_of_move m) in
      let count = length-append (reads_of_move m) (reads_in ms) in
      let made : IsMoved accs n e y sender moment ev m d = record {
        within = within;
        numbers = has_numbers e top below (omega (arith, room, last));
        counts = has_counts accs n e sender ev most within had last;
        does = h.1;
        main = main;
        deed = record { node_is = refl; role_is = sym role; sender_is = refl; move_is = refl };
      } in
      let w : Within (after accs d) n y sender ev = moves_keep accs n e y sender moment ev m d made in
      let next = does_below e y moment ev m main top within.end.order (few_out accs n e sender ev within) below h.1 in
      let leaves = move_leaves accs e y m main d (top + 8192 * reads) most refl refl within h.1 w next (omega (arith, room, count)) had in
      let k = chain_keeps ms (after accs d) y x (top + 8192 * reads) most starts.1 h.2 (does_role moment ev e m y h.1 ∙ role) w next leaves.given
      (omega (arith, room, count)) last in
      let left : Accounts = afterwards (after accs d) (deeds v line n r sender ms) in
      record {
        kept = record {
          within = k.kept.within;
          below = λ i t there. let le = k.kept.below i t there in omega (arith, count);
          given = k.kept.given;
          grown = λ i j. extends_on (accs i j) (after accs d i j) (left i j) (leaves.grown i j) (k.kept.grown i j);
          others = λ i j o. stays_on (accs i j) (after accs d i j) (left i j) (leaves.others i j o) (k.kept.others i j o);
        };
        moves = (y, made, k.moves);
        openings = λ q among. ⊎_elim
            (λ (same : m ≡ move.Declined q). opening_later (after accs d) left k.kept.grown n q (leaves.openings q same))
            (λ (later : Among (move.Declined q) ms). k.openings q later)
            among;
        frames = λ f among. ⊎_elim
            (λ (same : m ≡ move.FrameSent f).
            frame_fits accs n e y sender moment ev f within (subst (λ (q : Move). Does e moment ev q y) same h.1))
            (λ (later : Among (move.FrameSent f) ms). k.frames f later)
            among;
        main = (main, k.main);
      }
