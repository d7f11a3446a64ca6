-- Two sessions of LNSs with one birth are one, in every run.
use Rattle.std.proofs.Common.{◌≡◌, ⊎_elim, ℕ, ◌+◌, ◌<◌, List, [], ◌∷◌, ◌++◌, append_assoc, sym, ap, ◌∙◌, subst, Option, Some, None, slice_get, arith, Bool, false}
use Rattle.std.proofs.lemmas.Option.{none-some}
use Rattle.std.specs.List.{AllByRecursion}
use Rattle.id_table.specs.Ids.{at, put, at-none}
use Rattle.id_table.specs.Order.{at_new, found_put, same_or_not}
use Rattle.schedule_text.specs.declared.line.Line.{Line}
use Rattle.schedule_text.specs.Grammar.{AreLines}
use Rattle.end_model.specs.Access.{Access}
use Rattle.world_model.specs.Texts.{Entry}
use Rattle.end_model.specs.declared.event.Event.{Event}
use Rattle.end_model.specs.declared.event.Event.TheVariants.{Datagram}
use Rattle.end_model.specs.declared.out.Origin.{Origin}
use Rattle.end_model.specs.declared.out.Origin.TheVariants as origin
use Rattle.world_model.specs.declared.packet.Packet.{Packet}
use Rattle.end_model.specs.declared.moves.Replied.{Replied}
use Rattle.end_model.specs.declared.moves.Move.TheVariants as move
use Rattle.end_names.specs.declared.role.Role.{Role}
use Rattle.end_names.specs.declared.role.Role.TheVariants.{Lns}
use Rattle.end_names.specs.Names.{address_of, node_of}
use Rattle.end_model.specs.Secrets.{uncovered_event}
use Rattle.end_model.specs.End.{End, Stepped, step}
use Rattle.world_model.specs.World.{World, Node, Checkpoint, Sender, Deed, Lined, new_node, with_node, taken_up, hand_deed, block_of, sender_of}
use Rattle.world_model.specs.Run.{Run, after_line, run}
use Rattle.step_laws.specs.Calm.{AreCalm}
use Rattle.step_laws.specs.Steps.{StepsAreChains}
use Rattle.frame_laws.specs.Facts.{Nodes, birth_in_node, PacketOk, NodeOk, Holds, FactsOfRuns}
use Rattle.frame_laws.specs.Births.{IsBornAt, AreApart, BirthsOfRuns}
use Rattle.frame_laws.specs.Unrecovered.{IsMain, MovesOfRuns}
use Rattle.frame_laws.specs.Past.{Passage, past_of}
use Rattle.connection_laws.specs.Accounts.{Taken, account_of}
use Rattle.connection_laws.specs.Facts.{AccountOk}
use Rattle.connection_laws.specs.Channels.{HoldsInRuns}
use Rattle.request_laws.specs.Requests.{IsAskedAt, IsMadeAt, AreMadeOnce, IsDrawnAtLac, DrawnForRequestsInRuns, BornInRuns}
use Rattle.request_laws.proofs.Lists.{all_at}
use Rattle.request_laws.proofs.Asked.{Known}
use Rattle.request_laws.proofs.Deeds.{deeds}
use Rattle.request_laws.proofs.Chains.{known_then}
use Rattle.request_laws.proofs.Lines.{IsFrom, OfNobody, OfPacket, uncovered_from, told_line, LineDoes, Nothing, Declares, Steps, LineIs, ByItself, Holds as HeldLine, BehindHand, step_of, line_is}
use Rattle.request_laws.proofs.Worlds.{step_nodes, step_done, step_follows, before_moves, after_moves}
use Rattle.request_laws.proofs.Runs.{Reached, reached_is, holds_in_runs, AreMain, mains_reached}
use Rattle.request_laws.proofs.AskedRuns.{step_mains, StillKnown, still_same, hand_known, known_more, known_elsewhere, kept_order, nothing_done, asked_in_runs, drawn_at_lacs_in_runs}
use Rattle.request_laws.proofs.Made.{heeds, taken_request, sent_by_partner, made_once}
use Rattle.request_laws.proofs.Births.{Drawn, Told, BirthsStay, Tells, tells_later, ComesFrom, BornOk, Bears, born_on, birth_there, put_stays}

-- ---- nodes

-- the session ids of a node, and their births, are told of, if it is an LNS
abbrev pub NodeTells : Nodes → Known → Node → Type 0
NodeTells ns known node = node.end.role ≡ Lns → Tells ns known node.end.session_ids.next node.births

abbrev pub RunTells : Run → Type 0
RunTells r = (n : ℕ) (node : Node) → at r.world.nodes n ≡ Some node → NodeTells r.world.nodes (account_of r.done n) node

node_tells_later : (ns ms : Nodes) → BirthsStay ns ms → (known later : Known) → StillKnown known later → (node : Node)
    → NodeTells ns known node → NodeTells ms later node
node_tells_later ns ms births known later same node h lns =
    tells_later ns ms births known later (λ i k t g. rw (same i).taken g) node.end.session_ids.next node.births (h lns)

-- a node that is new has drawn no session id
fresh_tells : (ns : Nodes) (known : Known) (number n : ℕ) (r : Role) (lns : ℕ) (secret : Option (List ℕ)) (hide : Bool) → NodeTells ns known (new_node number n r lns secret hide)
fresh_tells ns known number n r lns secret hide is_lns = record {
  drawn = λ s some lt. absurd (omega (arith, some, lt));
  told = λ s b f some. absurd (none-some b (sym (at-none s) ∙ f));
}

-- a packet's sender is a tunnel of the node at its address
node_again : (from : ℕ) → from < 256 → node_of (address_of from) ≡ from
unfolding node_of address_of
node_again from lt = omega arith

sent_from : (from : ℕ) (o : Origin) (s : Sender) → sender_of from o ≡ Some s → s.node ≡ from
sent_from from (origin.Control c) s h = let e : record { node = from; tunnel = c.tunnel } ≡ s = cc in ap (λ (x : Sender). x.node) (sym e)
sent_from from (origin.Recovery tunnel number empty) s h =
    let e : record { node = from; tunnel = tunnel } ≡ s = cc in ap (λ (x : Sender). x.node) (sym e)
sent_from from (origin.Data session) s h = absurd (cc)

comes_from : (w : World) (sender : Option Sender) (ev : Event) → ((k : ℕ) (p : Packet) → slice_get w.packets k ≡ Some p → p.from < 256) → IsFrom w sender ev
    → ComesFrom sender ev
comes_from w sender ev few (OfNobody none) peer bytes e from is = absurd (none-some from (sym none ∙ is))
comes_from w sender ev few (OfPacket k p there sent had came) peer bytes e from is =
    let same : Datagram (address_of p.from) had ≡ Datagram peer bytes = sym came ∙ e in
    let address : address_of p.from ≡ peer = cc in
    sent_from p.from p.origin from (sym sent ∙ is) ∙ (sym (node_again p.from (few k p there)) ∙ ap node_of address)

-- ---- lines

module _ (r : Run) (ok : RunTells r) where
  quiet_tells : (x : Lined) (es : List Entry) → x ≡ told_line r.world es → RunTells (after_line r x)
  quiet_tells x es e n node f =
      let done = nothing_done r.done x.done (ap (λ (y : Lined). y.done) e) n in
      let nodes : x.world.nodes ≡ r.world.nodes = ap (λ (y : Lined). y.world.nodes) e in
      let was : at r.world.nodes n ≡ Some node = rw (← nodes) f in
      subst (λ ns. NodeTells ns (account_of (r.done ++ x.done) n) node) (sym nodes)
      (node_tells_later r.world.nodes r.world.nodes (λ m q c h. h) (account_of r.done n) (account_of (r.done ++ x.done) n) done node (ok n node was))

  -- births stay where a node is declared
  fresh_stay : (n : ℕ) (new : Node) → at r.world.nodes n ≡ None → BirthsStay r.world.nodes (put r.world.nodes n new)
  fresh_stay n new none =
      put_stays r.world.nodes n new (λ q c h. absurd (none-some c (subst (λ (o : Option Node). birth_in_node o q ≡ Some c) none h)))

  declared_tells : (x : Lined) (number n : ℕ) (role : Role) (lns : ℕ) (secret : Option (List ℕ)) (hide : Bool) → at r.world.nodes n ≡ None
      → (es : List Entry) → x ≡ told_line (with_node r.world n (new_node number n role lns secret hide)) es → RunTells (after_line r x)
  declared_tells x number n role lns secret hide none es e q node f =
      let done = nothing_done r.done x.done (ap (λ (y : Lined). y.done) e) q in
      let new = new_node number n role lns secret hide in
      let ns = put r.world.nodes n new in
      let nodes : x.world.nodes ≡ ns = ap (λ (y : Lined). y.world.nodes) e in
      let later = account_of (r.done ++ x.done) q in
      subst (λ ms. NodeTells ms later node) (sym nodes)
      (⊎_elim
      (λ (a : (q ≡ n) × (new ≡ node)). subst (λ y. NodeTells ns later y) a.1 (fresh_tells ns later number n role lns secret hide))
      (λ a. node_tells_later r.world.nodes ns (fresh_stay n new none) (account_of r.done q) later done node (ok q node a.1))
      (found_put r.world.nodes n new q node (rw (← nodes) f)))

  module _ (chains : StepsAreChains) (gs : List Passage) (facts : Holds false r.world gs)
      (number n : ℕ) (old : Node) (clock : ℕ) (access : Option Access) (checkpoint : Checkpoint) (ev : Event) (sender : Option Sender) (there : at r.world.nodes n ≡ Some old)
      (from : IsFrom r.world sender ev) (mains : AllByRecursion IsMain (step old.end clock (block_of n number) ev).moves) where
    -- what came, as it is read
    abbrev came : Event
    came = uncovered_event old.end.config.secret ev

    abbrev s : Stepped
    s = step old.end clock (block_of n number) ev

    abbrev timed : Node
    timed = record old { clock = clock; access = access; checkpoint = checkpoint }

    abbrev ended : Node
    ended = record old { clock = clock; access = access; checkpoint = checkpoint; end = s.end }

    abbrev x : Lined
    x = step_of r.world number n timed ev sender

    abbrev base : World
    base = before_moves r.world number n timed sender s

    abbrev v : World
    v = after_moves r.world number n timed sender s

    node_ok : NodeOk false r.world.nodes n old
    node_ok = facts.nodes n old there

    few : (k : ℕ) (p : Packet) → slice_get r.world.packets k ≡ Some p → p.from < 256
    few k p is = (all_at (PacketOk false r.world.nodes gs) r.world.packets k p is facts.packets).from

    -- the births of the node stay as its step begins
    begun : BirthsStay r.world.nodes base.nodes
    begun = put_stays r.world.nodes n ended (λ q c h. birth_there r.world.nodes n q c old there h)

    here : BornOk n base.nodes (account_of r.done n) old.end
    here = record {
      order = kept_order old.end node_ok.kept;
      node = ended;
      is = at_new r.world.nodes n ended;
      below = λ q c h. (node_ok.births q c h).0;
      tells = λ lns. tells_later r.world.nodes base.nodes begun (account_of r.done n) (account_of r.done n) (λ i k t g. g) old.end.session_ids.next old.births
          (ok n old there lns);
    }

    bears : Bears n base.nodes v.nodes (known_then v number n old.end.role sender clock came s.moves (account_of r.done n)) s.end
    bears =
        let chain = (chains old.end node_ok.kept clock (block_of n number) came).chain in
        born_on v number n old.end.role sender clock came
        (comes_from r.world sender came few (uncovered_from r.world sender ev old.end.config.secret from))
        base (account_of r.done n) old.end s.end here s.moves mains chain

    done_is : x.done ≡ deeds v number n old.end.role sender s.moves
    done_is = step_done r.world number n timed sender s

    stay : BirthsStay r.world.nodes v.nodes
    stay m q c h = bears.stay m q c (begun m q c h)

    known_is : account_of (r.done ++ x.done) n ≡ known_then v number n old.end.role sender clock came s.moves (account_of r.done n)
    known_is = ap (λ (ds : List Deed). account_of (r.done ++ ds) n) done_is ∙ known_more r.done (deeds v number n old.end.role sender s.moves) n

    nodes_are : x.world.nodes ≡ v.nodes
    nodes_are = step_nodes r.world number n timed sender s

    -- the node itself, as its step leaves it
    mine : (node : Node) → at v.nodes n ≡ Some node → node.end ≡ s.end → NodeTells v.nodes (account_of (r.done ++ x.done) n) node
    mine node f end lns =
        let is = bears.ok.is in
        let same : bears.ok.node ≡ node = cc in
        rw (known_is, end, ← same) (bears.ok.tells (ap (λ (e : End). e.role) (sym end) ∙ lns))

    step_tells : RunTells (after_line r x)
    step_tells q node f =
        let g = step_follows r.world number n timed sender s mains in
        let later = account_of (r.done ++ x.done) q in
        subst (λ ms. NodeTells ms later node) (sym nodes_are)
        (⊎_elim
        (λ (a : q ≡ n).
        let found : at x.world.nodes n ≡ Some node = subst (λ k. at x.world.nodes k ≡ Some node) a f in
        let is = g.is in
        let same : g.node ≡ node = cc in
        let end : node.end ≡ s.end = ap (λ (y : Node). y.end) (sym same) ∙ g.end_is in
        subst (λ k. NodeTells v.nodes (account_of (r.done ++ x.done) k) node) (sym a) (mine node (rw (← nodes_are) found) end))
        (λ other.
        let same = known_elsewhere v number n old.end.role sender r.done x.done s.moves done_is q other in
        node_tells_later r.world.nodes v.nodes stay (account_of r.done q) later same node (ok q node (sym (g.others q other) ∙ f)))
        (same_or_not q n))

module _ (chains : StepsAreChains) (facts : FactsOfRuns) (moves : MovesOfRuns) where
  does_tells : (number : ℕ) (r : Run) (gs : List Passage) → Holds false r.world gs → RunTells r → (x : Lined) → AreMain x.done → LineDoes r.world number x
      → RunTells (after_line r x)
  does_tells number r gs now ok x mains (Nothing es e) = quiet_tells r ok x es e
  does_tells number r gs now ok x mains (Declares n role lns secret hide none es e) = declared_tells r ok x number n role lns secret hide none es e
  does_tells number r gs now ok x mains (Steps n old clock access checkpoint ev sender es there from e) =
      subst (λ y. RunTells (after_line r y)) (sym e)
      (step_tells r ok chains gs now number n old clock access checkpoint ev sender there from
      (step_mains r.world number n old clock access checkpoint ev sender (subst (λ (y : Lined). AreMain y.done) e mains)))

  -- what is known changes with no frame that is held or handed up
  still_tells : (ns : Nodes) (ds es : List Deed) → ((q : ℕ) → StillKnown (account_of ds q) (account_of es q)) → ((q : ℕ) (node : Node) → at ns q ≡ Some node → NodeTells ns (account_of ds q) node)
      → (q : ℕ) (node : Node) → at ns q ≡ Some node → NodeTells ns (account_of es q) node
  still_tells ns ds es same ok q node f = node_tells_later ns ns (λ m k c h. h) (account_of ds q) (account_of es q) (same q) node (ok q node f)

  holds_now : (number : ℕ) (before : List Line) (r : Run) → Reached number before r → Holds false r.world (past_of before).sent
  holds_now number before r h = subst (λ (q : Run). Holds false q.world (past_of before).sent) (reached_is number before r h) (facts before h.fit)

  line_tells : (number : ℕ) (before : List Line) (r : Run) → Reached number before r → RunTells r → (x : Lined) → AreMain x.done → LineIs r.world number x
      → RunTells (after_line r x)
  line_tells number before r h ok x mains (ByItself d) = does_tells number r (past_of before).sent (holds_now number before r h) ok x mains d
  line_tells number before r h ok x mains (HeldLine done nodes) = λ q node f.
      subst (λ (ns : Nodes). NodeTells ns (account_of (r.done ++ x.done) q) node) (sym nodes)
      (still_tells r.world.nodes r.done (r.done ++ x.done) (λ k. nothing_done r.done x.done done k) ok q node (rw (← nodes) f))
  line_tells number before r h ok x mains (BehindHand y n held role g is d) =
      let one = hand_deed number n role g in
      let up : Run = record r { world = taken_up r.world n held; done = r.done ++ one ∷ [] } in
      let now = holds_now number before r h in
      let tells : RunTells up =
      still_tells r.world.nodes r.done (r.done ++ one ∷ [])
      (λ k. still_same (account_of r.done k) (account_of (r.done ++ one ∷ []) k) (hand_known r.done number n role g k)) ok in
      let then = does_tells number up (past_of before).sent (record { nodes = now.nodes; packets = now.packets }) tells y
      (subst (λ (z : Lined). AreMain z.done) is mains).1 d in
      subst (λ z. RunTells (after_line r z)) (sym is)
      (λ q node f. subst (λ ds. NodeTells y.world.nodes (account_of ds q) node) (append_assoc r.done (one ∷ []) y.done) (then q node f))

  pub tells_in_runs : (lines : List Line) → AreLines lines → AreCalm lines → RunTells (run lines)
  tells_in_runs lines fits calm =
      holds_in_runs RunTells (λ number before r h ok l x calm is next.
      line_tells number before r h ok x (mains_reached moves (number + 1) (before ++ l ∷ []) r x next)
      (line_is r.world h.world number x l calm is)) (λ r fault ok. ok)
      (λ n node f. absurd (none-some node (sym (at-none n) ∙ f))) lines fits calm

-- ---- sessions of LNSs

made_at : (ds : List Deed) (n s : ℕ) (h : Drawn (account_of ds n) s) → IsMadeAt ds n h.tunnel h.number h.reply
made_at ds n s h = record { taken = h.taken; there = h.there; replied = h.move_is }

pub drawn_for_requests_in_runs : StepsAreChains → FactsOfRuns → MovesOfRuns → DrawnForRequestsInRuns
drawn_for_requests_in_runs chains facts moves lines fits calm n node is lns s some lt =
    let ds = (run lines).done in
    let h = (tells_in_runs chains facts moves lines fits calm n node is lns).drawn s some lt in
    record { tunnel = h.tunnel; number = h.number; reply = h.reply; made = made_at ds n s h; session_is = h.session }

module _ (ds : List Deed) (ok : (n i : ℕ) → AccountOk (account_of ds) n i (account_of ds n i)) (w : World) where
  -- the peer of the tunnel is the node at the request's address
  peer_is : (n s b : ℕ) (h : Told w.nodes (account_of ds n) s b) → (account_of ds n h.drawn.tunnel).peer ≡ node_of h.drawn.reply.peer
  peer_is n s b h =
      let d = h.drawn in
      h.sender _ (sent_by_partner ds ok n d.tunnel d.number d.taken d.there (heeds ds ok n d.tunnel d.number d.reply (made_at ds n s d)))

  -- the request that the session was drawn for is of a LAC
  module _ (lacs : (n i k s : ℕ) → IsAskedAt ds n i k s → IsDrawnAtLac w n s) where
    born_at_lac : (n s b : ℕ) (h : Told w.nodes (account_of ds n) s b) → IsBornAt w (node_of h.drawn.reply.peer) h.drawn.reply.remote b
    born_at_lac n s b h =
        let d = h.drawn in
        let q = node_of d.reply.peer in
        let asked = (taken_request ds ok n d.tunnel d.number d.reply (made_at ds n s d)).asked in
        let at_peer : IsAskedAt ds q (account_of ds n d.tunnel).remote d.number d.reply.remote = rw (← peer_is n s b h) asked in
        let lac = lacs q (account_of ds n d.tunnel).remote d.number d.reply.remote at_peer in
        record { node = lac.node; is = lac.is; role = lac.role; birth_is = birth_there w.nodes q d.reply.remote b lac.node lac.is h.birth }

    -- two sessions that were drawn for one request are one
    one_session : AreMadeOnce ds → AreApart w → (n s m q b : ℕ) → Told w.nodes (account_of ds n) s b → Told w.nodes (account_of ds m) q b → (n ≡ m) × (s ≡ q)
    one_session made apart n s m q b h k =
        let c = h.drawn in
        let d = k.drawn in
        let request = apart b (node_of c.reply.peer) c.reply.remote (node_of d.reply.peer) d.reply.remote (born_at_lac n s b h) (born_at_lac m q b k) in
        let peers = peer_is n s b h ∙ (request.0 ∙ sym (peer_is m q b k)) in
        let place = made n c.tunnel c.number m d.tunnel d.number c.reply d.reply (made_at ds n s c) (made_at ds m q d) peers request.1 in
        let here : slice_get (account_of ds m d.tunnel).taken d.number ≡ Some c.taken =
        subst (λ j. slice_get (account_of ds m d.tunnel).taken j ≡ Some c.taken) place.2
        (subst (λ j. slice_get (account_of ds m j).taken c.number ≡ Some c.taken) place.1
        (subst (λ j. slice_get (account_of ds j c.tunnel).taken c.number ≡ Some c.taken) place.0 c.there)) in
        let there = d.there in
        let same : c.taken ≡ d.taken = cc in
        let moves : move.Replied c.reply ≡ move.Replied d.reply = sym c.move_is ∙ (ap (λ (t : Taken). t.move) same ∙ d.move_is) in
        let reply : c.reply ≡ d.reply = cc in
        (place.0, sym c.session ∙ (ap (λ (x : Replied). x.session) reply ∙ d.session))

pub born_in_runs : StepsAreChains → FactsOfRuns → MovesOfRuns → BirthsOfRuns → HoldsInRuns → BornInRuns
born_in_runs chains facts moves births holds lines fits calm few b n s m q one two =
    let r = run lines in
    let ok = (holds lines fits calm few).accounts in
    let asked = asked_in_runs chains facts moves in
    let tells = tells_in_runs chains facts moves lines fits calm in
    let nodes = (facts lines fits).nodes in
    let h = (tells n one.node one.is one.role).told s b one.birth_is ((nodes n one.node one.is).births s b one.birth_is).1 in
    let k = (tells m two.node two.is two.role).told q b two.birth_is ((nodes m two.node two.is).births q b two.birth_is).1 in
    one_session r.done ok r.world (drawn_at_lacs_in_runs chains facts moves lines fits calm)
    (made_once r.done ok (asked lines fits calm)) (births lines fits few) n s m q b h k
