-- No channel of an LNS gives a request in a move: who asks for a call is a LAC, and a move changes no end's role.
use Rattle.std.proofs.Common.{◌≡◌, ⊎_elim, ℕ, Bool, true, false, List, [], ◌∷◌, ◌++◌, refl, sym, ap, ◌∙◌, subst, Option, Some, None}
use Rattle.std.proofs.lemmas.Bool.{true≢false, eqb-true}
use Rattle.std.proofs.lemmas.Option.{none-some, same_Some}
use Rattle.std.specs.Prelude.{◌==◌, ◌&&◌, if◌then◌else◌}
use Rattle.std.specs.List.{AllByRecursion}
use Rattle.id_table.specs.Ids.{at, put}
use Rattle.id_table.specs.Order.{at_new, at_other, same_or_not}
use Rattle.end_names.specs.declared.role.Role.{Role}
use Rattle.end_names.specs.declared.role.Role.TheVariants.{Lac, Lns}
use Rattle.end_model.specs.declared.event.Event.{Event}
use Rattle.end_model.specs.declared.moves.Move.{Move}
use Rattle.end_model.specs.declared.moves.Move.TheVariants as move
use Rattle.end_model.specs.declared.tunnel.Config.{Config}
use Rattle.end_model.specs.End.{End}
use Rattle.world_model.specs.declared.standing.Standing.{Standing}
use Rattle.world_model.specs.World.{World, Node, Sender, Deed, empty_world, config_of, with_node, with_birth_at, with_birth, is_born, with_standing_at, with_standing, with_answer_at, has_made, makes_epoch, enters_epoch, moved}
use Rattle.step_laws.specs.Letters.{Letter, letters_of}
use Rattle.step_laws.specs.Moves.{Does}
use Rattle.session_laws.proofs.CallRows.{request_role}
use Rattle.channel_laws.specs.Accounts.{Part, Unmade, Opener, Acceptor, Renewed, Account, History, no_history, about, gives, declines_of, declined_by, declined_in, entered_by, after}
use Rattle.channel_laws.specs.Steps.{with_end, moves_on, IsMoved}
use Rattle.join_laws.specs.Roles.{IsAsking, AsksNone, RequestsAreOfLacs, HasRolesOf, RequestsStay}
use Rattle.join_laws.proofs.Channel.{gives_is}

-- ---- roles

abbrev pub role_in : Option Node → Option Role
role_in None = None
role_in (Some node) = Some node.end.role

put_role : (w : World) (n : ℕ) (node new : Node) → at w.nodes n ≡ Some node → new.end.role ≡ node.end.role → (p : ℕ)
    → role_in (at (with_node w n new).nodes p) ≡ role_in (at w.nodes p)
put_role w n node new there role p = ⊎_elim
    (λ (same : p ≡ n).
    subst (λ y. role_in (at (with_node w n new).nodes y) ≡ role_in (at w.nodes y)) (sym same)
    (ap role_in (at_new w.nodes n new) ∙ (ap (λ r. Some r) role ∙ sym (ap role_in there))))
    (λ other. ap role_in (at_other w.nodes n new p other))
    (same_or_not p n)

birth_role : (w : World) (n session birth p : ℕ) → role_in (at (with_birth w n session birth).nodes p) ≡ role_in (at w.nodes p)
unfolding with_birth
birth_role w n session birth p = by (at w.nodes n) refl
  where
    by : (o : Option Node) → at w.nodes n ≡ o → role_in (at (with_birth_at w n session birth o).nodes p) ≡ role_in (at w.nodes p)
    by None is = refl
    by (Some node) is = put_role w n node (record node { births = put node.births session birth }) is refl p

born_role : (w : World) (n session p : ℕ) → role_in (at (is_born w n session).nodes p) ≡ role_in (at w.nodes p)
unfolding is_born
born_role w n session p = birth_role _ n session _ p

standing_role : (w : World) (n i : ℕ) (s : Standing) (p : ℕ) → role_in (at (with_standing w n i s).nodes p) ≡ role_in (at w.nodes p)
unfolding with_standing
standing_role w n i s p = by (at w.nodes n) refl
  where
    by : (o : Option Node) → at w.nodes n ≡ o → role_in (at (with_standing_at w n i s o).nodes p) ≡ role_in (at w.nodes p)
    by None is = refl
    by (Some node) is = put_role w n node (record node { standings = put node.standings i s }) is refl p

made_role : (w : World) (n i epoch p : ℕ) → role_in (at (has_made w n i epoch).nodes p) ≡ role_in (at w.nodes p)
made_role w n i epoch p = standing_role w n i _ p

answer_role : (w : World) (n answer epoch p : ℕ) → role_in (at (with_answer_at w n answer epoch (at w.nodes n)).nodes p)
    ≡ role_in (at w.nodes p)
answer_role w n answer epoch p = by (at w.nodes n) refl
  where
    by : (o : Option Node) → at w.nodes n ≡ o → role_in (at (with_answer_at w n answer epoch o).nodes p) ≡ role_in (at w.nodes p)
    by None is = refl
    by (Some node) is = put_role w n node (record node { answers = put node.answers answer epoch }) is refl p

epoch_role : (w : World) (n i m f answer p : ℕ) → role_in (at (makes_epoch w n i m f answer).nodes p) ≡ role_in (at w.nodes p)
unfolding makes_epoch
epoch_role w n i m f answer p = answer_role _ n answer _ p ∙ (made_role _ m f _ p ∙ made_role w n i _ p)

enters_role : (w : World) (n i epoch p : ℕ) → role_in (at (enters_epoch w n i epoch).nodes p) ≡ role_in (at w.nodes p)
unfolding enters_epoch
enters_role w n i epoch p = standing_role w n i _ p

moved_role : (n : ℕ) (w : World) (m : Move) (p : ℕ) → role_in (at (moved n w m).nodes p) ≡ role_in (at w.nodes p)
unfolding moved
moved_role n w (move.Added m) p = born_role w n m.session p
moved_role n w (move.Replied m) p = birth_role w n m.session _ p
moved_role n w (move.Froze m) p = epoch_role w n m.tunnel _ m.remote m.answer p
moved_role n w (move.ResetAttempting m) p = enters_role w n m.tunnel _ p
moved_role n w (move.ResetAnswering m) p = enters_role w n m.tunnel _ p
moved_role n w m p = refl

does_role : (moment : ℕ) (ev : Event) (e x : End) (m : Move) → Does e moment ev m x → x.role ≡ e.role
does_role moment ev e x (move.Opened m) h = ap (λ (y : End). y.role) h.after
does_role moment ev e x (move.Accepted m) h = ap (λ (y : End). y.role) h.after
does_role moment ev e x (move.Connected m) h = ap (λ (y : End). y.role) h.after
does_role moment ev e x (move.Confirmed m) h = ap (λ (y : End). y.role) h.after
does_role moment ev e x (move.Added m) h = ap (λ (y : End). y.role) h.after
does_role moment ev e x (move.Requested m) h = ap (λ (y : End). y.role) h.after
does_role moment ev e x (move.Replied m) h = ap (λ (y : End). y.role) h.after
does_role moment ev e x (move.FirstUp m) h = ap (λ (y : End). y.role) h.after
does_role moment ev e x (move.SecondUp m) h = ap (λ (y : End). y.role) h.after
does_role moment ev e x (move.Refused m) h = ap (λ (y : End). y.role) h.after
does_role moment ev e x (move.EndTold m) h = ap (λ (y : End). y.role) h.after
does_role moment ev e x (move.EndHeard m) h = ap (λ (y : End). y.role) h.after
does_role moment ev e x (move.EndSilent m) h = ap (λ (y : End). y.role) h.after
does_role moment ev e x (move.Declined m) h = ap (λ (y : End). y.role) h.after
does_role moment ev e x (move.Closed m) h = ap (λ (y : End). y.role) h.after
does_role moment ev e x (move.Rejected m) h = ap (λ (y : End). y.role) h.after
does_role moment ev e x (move.ClosedBy m) h = ap (λ (y : End). y.role) h.after
does_role moment ev e x (move.Cleared i booked) h = ap (λ (y : End). y.role) h.after
does_role moment ev e x (move.Greeted m) h = ap (λ (y : End). y.role) h.after
does_role moment ev e x (move.TookPlain m) h = ap (λ (y : End). y.role) h.after
does_role moment ev e x (move.NrRead m) h = ap (λ (y : End). y.role) h.after
does_role moment ev e x (move.LetGo m) h = ap (λ (y : End). y.role) h.after
does_role moment ev e x (move.Repeated m) h = ap (λ (y : End). y.role) h.after
does_role moment ev e x (move.Quiet i) h = ap (λ (y : End). y.role) h.after
does_role moment ev e x (move.Negotiated m) h = ap (λ (y : End). y.role) h.after
does_role moment ev e x (move.Counted m) h = ap (λ (y : End). y.role) h.after
does_role moment ev e x (move.FrameSent m) h = ap (λ (y : End). y.role) h.after
does_role moment ev e x (move.FrameUp m) h = ap (λ (y : End). y.role) h.after
does_role moment ev e x (move.Restored m) h = ap (λ (y : End). y.role) h.after
does_role moment ev e x (move.Forgot m) h = ap (λ (y : End). y.role) h.after
does_role moment ev e x (move.Froze m) h = ap (λ (y : End). y.role) h.after
does_role moment ev e x (move.ResetAttempting m) h = ap (λ (y : End). y.role) h.after
does_role moment ev e x (move.ResetAnswering m) h = ap (λ (y : End). y.role) h.after
does_role moment ev e x (move.Queried m) h = ap (λ (y : End). y.role) h.after
does_role moment ev e x (move.AnsweredQuery m) h = ap (λ (y : End). y.role) h.after
does_role moment ev e x (move.TookAnswer m) h = ap (λ (y : End). y.role) h.after
does_role moment ev e x (move.RecoveryWentOn i) h = ap (λ (y : End). y.role) h.after
does_role moment ev e x (move.RecoveryEnded i) h = ap (λ (y : End). y.role) h.after
does_role moment ev e x (move.Ignored i) h = ap (λ (y : End). y.role) h.after

-- a node behind the move was one before it, of the same role
role_before : (o : Option Node) (r : Role) → role_in o ≡ Some r → (node : Node) × (o ≡ Some node) × (node.end.role ≡ r)
role_before None r is = absurd (none-some r is)
role_before (Some node) r is = (node, refl, same_Some node.end.role r is)

-- ---- letters

abbrev NoRequest : Letter → Type 0
NoRequest l = IsAsking l.message → ⊥

all_more : (xs ys : List Letter) → AllByRecursion NoRequest xs → AllByRecursion NoRequest ys → AllByRecursion NoRequest (xs ++ ys)
all_more [] ys h k = k
all_more (x ∷ xs) ys h k = (h.0, all_more xs ys h.1 k)

-- an LNS's moves give no request
gives_none : (e x : End) (moment : ℕ) (ev : Event) (c : Config) (m : Move) → Does e moment ev m x → e.role ≡ Lns
    → AllByRecursion NoRequest (letters_of e.role c m)
gives_none e x moment ev c (move.Opened m) does lns = (λ no. no, tt)
gives_none e x moment ev c (move.Accepted m) does lns = (λ no. no, tt)
gives_none e x moment ev c (move.Connected m) does lns = (λ no. no, tt)
gives_none e x moment ev c (move.Requested m) does lns =
    let lac = request_role e.role does.call.state does.row in
    let two : Lac ≡ Lns = sym lac ∙ lns in
    absurd cc
gives_none e x moment ev c (move.Replied m) does lns = (λ no. no, tt)
gives_none e x moment ev c (move.FirstUp m) does lns = (λ no. no, tt)
gives_none e x moment ev c (move.Refused m) does lns = (λ no. no, tt)
gives_none e x moment ev c (move.EndTold m) does lns = (λ no. no, tt)
gives_none e x moment ev c (move.Closed m) does lns = (λ no. no, tt)
gives_none e x moment ev c (move.Rejected m) does lns = (λ no. no, tt)
gives_none e x moment ev c (move.Greeted m) does lns = (λ no. no, tt)
gives_none e x moment ev c (move.Queried m) does lns = (λ no. no, tt)
gives_none e x moment ev c (move.AnsweredQuery m) does lns = (λ no. no, tt)
gives_none e x moment ev c m does lns = tt

-- ---- accounts

entered_none : (d : Deed) (m : Move) (a : Account) → AsksNone a → AllByRecursion NoRequest (gives d) → AsksNone (entered_by d m a)
entered_none d (move.Opened m) a h g = all_more a.given (gives d) h g
entered_none d (move.Accepted m) a h g = all_more a.given (gives d) h g
entered_none d (move.Connected m) a h g = all_more a.given (gives d) h g
entered_none d (move.Requested m) a h g = all_more a.given (gives d) h g
entered_none d (move.Replied m) a h g = all_more a.given (gives d) h g
entered_none d (move.FirstUp m) a h g = all_more a.given (gives d) h g
entered_none d (move.Refused m) a h g = all_more a.given (gives d) h g
entered_none d (move.EndTold m) a h g = all_more a.given (gives d) h g
entered_none d (move.Closed m) a h g = all_more a.given (gives d) h g
entered_none d (move.Rejected m) a h g = all_more a.given (gives d) h g
entered_none d (move.Greeted m) a h g = all_more a.given (gives d) h g
entered_none d (move.Queried m) a h g = all_more a.given (gives d) h g
entered_none d (move.AnsweredQuery m) a h g = all_more a.given (gives d) h g
entered_none d (move.ResetAttempting m) a h g = tt
entered_none d (move.ResetAnswering m) a h g = tt
entered_none d m a h g = h

declined_none : (b : Bool) (a : Account) → AsksNone a → AsksNone (declined_in b a)
declined_none false a h = h
declined_none true a h = by a.part
  where
    by : (p : Part) → AsksNone (declined_by p a)
    by Unmade = h
    by Opener = h
    by Acceptor = h
    by Renewed = h

both_first : (a b : Bool) → a && b ≡ true → a ≡ true
both_first true b is = refl
both_first false b is = absurd (true≢false (sym is))

-- ---- the law

-- a move leaves each node its role
pub moves_role : (w : World) (h : History) (n : ℕ) (node : Node) (sender : Option Sender) (moment : ℕ) (ev : Event) (m : Move) (x : End)
    (d : Deed) → IsMoved w h n node sender moment ev m x d → (p : ℕ)
    → role_in (at (moves_on w n node m x).nodes p) ≡ role_in (at w.nodes p)
moves_role w h n node sender moment ev m x d moves p =
    moved_role n (with_end w n node x) m p
    ∙ put_role w n node (record node { end = x }) moves.there (does_role moment ev node.end x m moves.does) p

moves_stay : (w : World) (h : History) (n : ℕ) (node : Node) (sender : Option Sender) (moment : ℕ) (ev : Event) (m : Move) (x : End)
    (d : Deed) → IsMoved w h n node sender moment ev m x d → RequestsAreOfLacs w h → RequestsAreOfLacs (moves_on w n node m x) (after h d)
moves_stay w h n node sender moment ev m x d moves roles p i e then_node there lns =
    declined_none (declines_of d.move p i && (e == 0)) _ (by (((d.node == p) && (about d.move == i)) && (d.epoch == e)) refl)
  where
    role_same : role_in (at (moves_on w n node m x).nodes p) ≡ role_in (at w.nodes p)
    role_same = moves_role w h n node sender moment ev m x d moves p

    was : (c : Node) × (at w.nodes p ≡ Some c) × (c.end.role ≡ Lns)
    was = role_before (at w.nodes p) Lns (sym role_same ∙ (ap role_in there ∙ ap (λ r. Some r) lns))

    before : AsksNone (h.accounts p i e)
    before = roles p i e was.0 was.1 was.2

    by : (b : Bool) → (((d.node == p) && (about d.move == i)) && (d.epoch == e)) ≡ b
        → AsksNone (if b then entered_by d d.move (h.accounts p i e) else h.accounts p i e)
    by false is = before
    by true is =
        let here : d.node ≡ p =
        eqb-true d.node p (both_first (d.node == p) (about d.move == i)
        (both_first ((d.node == p) && (about d.move == i)) (d.epoch == e) is)) in
        let own : p ≡ n = sym here ∙ moves.deed.node_is in
        let one : was.0 ≡ node = same_Some was.0 node (sym was.1 ∙ (ap (at w.nodes) own ∙ moves.there)) in
        let role : node.end.role ≡ Lns = sym (ap (λ (c : Node). c.end.role) one) ∙ was.2 in
        entered_none d d.move (h.accounts p i e) before
        (subst (AllByRecursion NoRequest) (sym (gives_is d n node.end.role sender m moves.deed))
        (gives_none node.end x moment ev (config_of n 0 None false) m moves.does role))

first_none : RequestsAreOfLacs empty_world no_history
first_none n i e node there lns = tt

others_stay : (w v : World) (h : History) → HasRolesOf w v h → RequestsAreOfLacs w h → RequestsAreOfLacs v h
others_stay w v h has roles n i e node there lns = ⊎_elim
    (λ (k : (old : Node) × (at w.nodes n ≡ Some old) × (old.end.role ≡ node.end.role)). roles n i e k.0 k.1 (k.2 ∙ lns))
    (λ (none : (i e : ℕ) → (h.accounts n i e).given ≡ []). subst (AllByRecursion NoRequest) (sym (none i e)) tt)
    (has n node there)

pub requests_stay : RequestsStay
requests_stay = record { first = first_none; moves = moves_stay; others = others_stay }
