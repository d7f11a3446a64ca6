-- The host of a call is held on as long as the call lives and its LAC is up.
use Rattle.std.proofs.Common.{◌≡◌, ⊎_elim, Bool, true, false, ℕ, ◌-◌, List, refl, sym, ap, ◌∙◌, subst, Option, Some, None, Result, Ok, Err}
use Rattle.std.specs.Prelude.{is_some, option_map, slice_get}
use Rattle.std.proofs.lemmas.Bool.{true≢false}
use Rattle.id_table.specs.Ids.{at}
use Rattle.id_table.specs.Order.{at_new, at_other, same_or_not}
use Rattle.wire_base.specs.declared.why.Why.{Why}
use Rattle.wire_base.specs.declared.why.Why.TheVariants as why
use Rattle.schedule_text.specs.declared.line.Line.{Line}
use Rattle.schedule_text.specs.declared.line.Line.TheVariants.{Remark, Lac, Lns, OpenUp, Close, Ring, Frame, FromSub, Down, Hang, DropCall, Deliver, Load, Hand, Tick, Crash, Stop, Start}
use Rattle.end_names.specs.Names.{address_of}
use Rattle.end_names.specs.declared.role.Role.{Role}
use Rattle.end_names.specs.declared.role.Role.TheVariants as role
use Rattle.end_model.specs.declared.event.Event.{Event}
use Rattle.end_model.specs.declared.event.Event.TheVariants as event
use Rattle.end_model.specs.End.{Stepped, step}
use Rattle.end_model.specs.Access.{Access, Enters, coming, entered}
use Rattle.end_model.specs.Starting.{starts}
use Rattle.pppoe_discovery.specs.declared.outcome.Discovered.{Discovered}
use Rattle.world_model.specs.declared.refusal.Refusal.TheVariants.{Unfit}
use Rattle.world_model.specs.declared.stop.StopAt.{StopAt}
use Rattle.world_model.specs.World.{World, Node, Checkpoint, Sender, Lined, quiet_line, with_node, after_step, with_stop, fallen, without_held, held_line, taken_up, cut_line, committed, declared, lac_at, lns_at, down_at, with_call, with_tunnel, later, new_node, added, block_of, stepped, sender_of, crashed, armed, opened, started, line}
use Rattle.step_laws.specs.Lines.{tested_not, is_lac_at, is_lns_at, is_declared, is_down_at, has_call, has_tunnel, IsTimed, is_later, committed_line, step_line, deliver_line, load_line, IsHeldAt, hand_line}
use Rattle.step_laws.specs.Hosts.{LacAt, with_host, OfFrame, frame_line}
use Rattle.cause_laws.specs.Hosts.{IsHeld, IsHeldOn}
use Rattle.cause_laws.proofs.Coming.{entered_so}
use Rattle.cause_laws.proofs.Held.{found_held, entered_stays}
use Rattle.cause_laws.proofs.Nodes.{AreGood, lac_apart, was_whole}
use Rattle.cause_laws.proofs.Seen.{step_same}

-- what is seen of a node: whether it is up, and its hosts
abbrev seen : Node → Bool × Option Access
seen node = (node.up, node.access)

abbrev is_up : Option (Bool × Option Access) → Bool
is_up None = true
is_up (Some q) = q.0

abbrev hosts_in : Option (Bool × Option Access) → Option Access
hosts_in None = None
hosts_in (Some q) = q.1

abbrev seen_in : World → ℕ → Option (Bool × Option Access)
seen_in w k = option_map seen (at w.nodes k)

module _ (src : List ℕ) (uniq : Option (List ℕ)) (session : ℕ) where
  -- of one that is up this host is held
  abbrev Keeps : Option (Bool × Option Access) → Type 0
  Keeps o = (a : Access) → o ≡ Some (true, Some a) → IsHeld a src uniq session

  down_keeps : (o : Option Access) → Keeps (Some (false, o))
  down_keeps o a is = absurd (true≢false (sym (ap is_up is)))

  module _ (w : World) (number n : ℕ) (base : Keeps (seen_in w n)) where
    put_keeps : (m : ℕ) (node : Node) → (m ≡ n → Keeps (Some (seen node))) → Keeps (seen_in (with_node w m node) n)
    put_keeps m node here = ⊎_elim
        (λ (e : n ≡ m).
        let is : seen_in (with_node w m node) n ≡ Some (seen node) = rw (e, at_new w.nodes m node) refl in
        subst Keeps (sym is) (here (sym e)))
        (λ o. subst Keeps (sym (ap (λ (q : Option Node). option_map seen q) (at_other w.nodes m node n o))) base)
        (same_or_not n m)

    -- a node as it is in the world
    there_keeps : (m : ℕ) (node : Node) → at w.nodes m ≡ Some node → m ≡ n → Keeps (Some (seen node))
    there_keeps m node there e =
        subst Keeps (ap (λ (q : Option Node). option_map seen q) (ap (λ k. at w.nodes k) (sym e) ∙ there)) base

    timed_keeps : (m : ℕ) (node : Node) → IsTimed w m node → m ≡ n → Keeps (Some (seen node))
    timed_keeps m node is e =
        let same : seen node ≡ seen is.before = ap seen is.same in
        subst (λ q. Keeps (Some q)) (sym same) (there_keeps m is.before is.there e)

    module _ (x : Lined) where
      abbrev Kept : Type 0
      Kept = Keeps (seen_in x.world n)

      after_keeps : (m : ℕ) (node : Node) (sender : Option Sender) (s : Stepped) → (m ≡ n → Keeps (Some (seen node)))
          → after_step w number m node sender s ≡ x → Kept
      after_keeps m node sender s here is =
          subst (λ (y : Lined). Keeps (seen_in y.world n)) is
          (subst Keeps (sym (step_same seen (λ q births standings answers. refl) w number m node sender s n))
          (put_keeps m (record node { end = s.end }) here))

      cut_keeps : (m : ℕ) (node : Node) (k : Checkpoint) → cut_line w number m node k ≡ x → Kept
      unfolding cut_line fallen
      cut_keeps m node k is =
          subst (λ (y : Lined). Keeps (seen_in y.world n)) is
          (put_keeps m (fallen (block_of m number) node.end node k) (λ e. down_keeps _))

      committed_keeps : (m : ℕ) (node : Node) (sender : Option Sender) (s : Stepped) → (m ≡ n → Keeps (Some (seen node)))
          → committed w number m node sender s ≡ Ok x → Kept
      committed_keeps m node sender s here h =
          committed_line Kept w number m node sender s x
          (λ k whole is. after_keeps m (record node { checkpoint = k }) sender s here is)
          (λ k cut is. cut_keeps m node k is) h

      stepped_keeps : (m : ℕ) (ev : Event) (sender : Option Sender) (o : Result Node Why)
          → ((node : Node) → o ≡ Ok node → m ≡ n → Keeps (Some (seen node))) → stepped w number m ev sender o ≡ Ok x → Kept
      unfolding stepped
      stepped_keeps m ev sender (Err y) here h = absurd cc
      stepped_keeps m ev sender (Ok node) here h =
          committed_keeps m node sender (step node.end node.clock (block_of m number) ev) (here node refl) h

      -- a step that is cut off
      off_keeps : (m : ℕ) (ev : Event) (node : Node) → stepped w number m ev None (Ok node) ≡ Ok x → x.cut ≡ true → Kept
      off_keeps m ev node h off =
          step_line Kept w number x m ev None (Ok node)
          (λ q e k whole made.
          absurd
          (true≢false (sym off
          ∙ was_whole w number m (record q { checkpoint = k }) None (step q.end q.clock (block_of m number) ev) x made)))
          (λ q e k cut made. cut_keeps m q k made) h

    one_keeps : (x : Lined) (m : ℕ) (ev : Event) (node : Node) → at w.nodes m ≡ Some node → stepped w number m ev None (Ok node) ≡ Ok x
        → Keeps (seen_in x.world n)
    one_keeps x m ev node there h =
        stepped_keeps x m ev None (Ok node)
        (λ q e. (let same : node ≡ q = cc in
        subst (λ (z : Node). m ≡ n → Keeps (Some (seen z))) same (there_keeps m node there))) h

module _ (src : List ℕ) (uniq : Option (List ℕ)) (session : ℕ) (w : World) (number n : ℕ)
    (base : Keeps src uniq session (seen_in w n)) where
  -- the host is held at the node of a world, and by this node
  abbrev KeptIn : World → Type 0
  KeptIn v = Keeps src uniq session (seen_in v n)

  abbrev KeptBy : Node → Type 0
  KeptBy node = Keeps src uniq session (Some (seen node))

  by_put : (m : ℕ) (node : Node) → (m ≡ n → KeptBy node) → KeptIn (with_node w m node)
  by_put = put_keeps src uniq session w number n base

  stays : (m : ℕ) (node : Node) → at w.nodes m ≡ Some node → m ≡ n → KeptBy node
  stays = there_keeps src uniq session w number n base

  by_step : (x : Lined) (m : ℕ) (ev : Event) (sender : Option Sender) (o : Result Node Why)
      → ((node : Node) → o ≡ Ok node → m ≡ n → KeptBy node) → stepped w number m ev sender o ≡ Ok x → KeptIn x.world
  by_step = stepped_keeps src uniq session w number n base

  by_one : (x : Lined) (m : ℕ) (ev : Event) (node : Node) → at w.nodes m ≡ Some node → stepped w number m ev None (Ok node) ≡ Ok x
      → KeptIn x.world
  by_one = one_keeps src uniq session w number n base

  -- a frame of LCP is handed up, in a world that doesn't hold it any more
  hand_keeps : (m p : ℕ) (k : IsHeldAt w m p) (y : Lined)
      → stepped (taken_up w m p) number m (event.Lcp k.frame.session k.frame.frame) None (Ok k.node) ≡ Ok y
      → KeptIn y.world
  hand_keeps m p k y steps =
      one_keeps src uniq session (taken_up w m p) number n base y m (event.Lcp k.frame.session k.frame.frame) k.node k.there steps

  module _ (goods : AreGood w) (live : (node : Node) → at w.nodes n ≡ Some node → is_some (at node.end.calls session) ≡ true) where
    -- as a host enters the live call's isn't forgotten
    enters_keeps : (m : ℕ) (bytes : List ℕ) (l : LacAt w m) (by_src : List ℕ) (by_uniq : Option (List ℕ)) (asked : Discovered)
        → coming l.access l.node.end bytes ≡ Enters by_src by_uniq asked → m ≡ n → KeptBy (with_host w number m l by_src by_uniq)
    enters_keeps m bytes l by_src by_uniq asked is to a same =
        let s = step l.node.end l.node.clock (block_of m number) (event.Admitted by_src) in
        let apart = lac_apart w goods m l in
        let new = (entered_so l.access l.node.end bytes apart by_src by_uniq asked is).0.new in
        let there : at w.nodes n ≡ Some l.node = ap (λ k. at w.nodes k) (sym to) ∙ l.there in
        let up : Some (seen l.node) ≡ Some (true, Some l.access) = rw (l.up, l.keeps) refl in
        let held : IsHeld l.access src uniq session =
        base l.access (ap (λ (q : Option Node). option_map seen q) there ∙ up) in
        let stays = entered_stays l.access apart l.node.end by_src by_uniq s src uniq session held
        (λ found. new session (found_held by_src by_uniq l.access.key l.access.held l.access.kept session found) (live l.node there)) in
        let kept : Some (entered l.access l.node.end by_src by_uniq s) ≡ Some a = ap hosts_in same in
        let is_it : entered l.access l.node.end by_src by_uniq s ≡ a = cc in
        subst (λ (b : Access). IsHeld b src uniq session) is_it stays

    of_frame_keeps : (m : ℕ) (bytes : List ℕ) → OfFrame (λ (x : Lined). KeptIn x.world) w number m bytes
    of_frame_keeps m bytes = record {
      ignored = λ l word is x h u. by_one x m (event.Frame bytes) l.node l.there h;
      answered = λ l because frame is x h u. by_one x m (event.Frame bytes) l.node l.there h;
      done = λ l ev is does x h. by_one x m ev l.node l.there h;
      entered = λ l by_src by_uniq asked is x h u.
          by_step x m (event.Admitted by_src) None (Ok (with_host w number m l by_src by_uniq))
          (λ q e. (let same : with_host w number m l by_src by_uniq ≡ q = cc in
          subst (λ (z : Node). m ≡ n → KeptBy z) same (enters_keeps m bytes l by_src by_uniq asked is))) h;
      cut = λ l ev node is x h c. off_keeps src uniq session w number n base x m ev node h c;
    }

    added_keeps : (x : Lined) (m : ℕ) (r : Role) (lns : ℕ) (secret : Option (List ℕ)) (hide : Bool) → is_some (at w.nodes n) ≡ true
        → added w number m r lns secret hide ≡ Ok x → KeptIn x.world
    unfolding added
    added_keeps x m r lns secret hide some h =
        let new = new_node number m r lns secret hide in
        let t = tested_not (is_some (at w.nodes m)) (quiet_line (with_node w m new)) (Unfit why.Twice) x h in
        subst (λ (y : Lined). KeptIn y.world) t.1
        (by_put m new (λ e. absurd (true≢false (sym some ∙ (ap (λ k. is_some (at w.nodes k)) (sym e) ∙ t.0)))))

    line_keeps : (lac : LacAt w n) (x : Lined) (l : Line) → line w number l ≡ Ok x → KeptIn x.world
    unfolding line crashed armed started held_line fallen
    line_keeps lac x (Remark text) h = let e : quiet_line w ≡ x = cc in subst (λ (y : Lined). KeptIn y.world) e base
    line_keeps lac x (Lac m k secret hide) h = added_keeps x m role.Lac (address_of k) secret hide (ap (λ q. is_some q) lac.there) h
    line_keeps lac x (Lns m secret) h = added_keeps x m role.Lns 0 secret false (ap (λ q. is_some q) lac.there) h
    line_keeps lac x (OpenUp m) h =
        by_step x m event.OpenTunnel None (lac_at (at w.nodes m)) (λ q e. stays m q (is_lac_at (at w.nodes m) q e).0) h
    line_keeps lac x (Close m i) h =
        by_step x m (event.CloseTunnel i) None (with_tunnel i (declared (at w.nodes m)))
        (λ q e. stays m q (is_declared (at w.nodes m) q (has_tunnel i (declared (at w.nodes m)) q e))) h
    line_keeps lac x (Ring m port) h =
        by_step x m (event.Ring port) None (lac_at (at w.nodes m)) (λ q e. stays m q (is_lac_at (at w.nodes m) q e).0) h
    line_keeps lac x (Frame m bytes) h =
        frame_line (λ (y : Lined). KeptIn y.world) w number m bytes (of_frame_keeps m bytes) x h
    line_keeps lac x (FromSub m s frame) h =
        by_step x m (event.Payload s frame) None (with_call s (lac_at (at w.nodes m)))
        (λ q e. stays m q (is_lac_at (at w.nodes m) q (has_call s (lac_at (at w.nodes m)) q e)).0) h
    line_keeps lac x (Down m s frame) h =
        by_step x m (event.Lower s frame) None (with_call s (lns_at (at w.nodes m)))
        (λ q e. stays m q (is_lns_at (at w.nodes m) q (has_call s (lns_at (at w.nodes m)) q e)).0) h
    line_keeps lac x (Hang m s) h =
        by_step x m (event.Hang s) None (with_call s (lac_at (at w.nodes m)))
        (λ q e. stays m q (is_lac_at (at w.nodes m) q (has_call s (lac_at (at w.nodes m)) q e)).0) h
    line_keeps lac x (DropCall m s) h =
        by_step x m (event.DropCall s) None (with_call s (declared (at w.nodes m)))
        (λ q e. stays m q (is_declared (at w.nodes m) q (has_call s (declared (at w.nodes m)) q e))) h
    line_keeps lac x (Deliver p) h =
        deliver_line (KeptIn x.world) w number x (line w number (Deliver p)) (slice_get w.packets (p - 1))
        (λ q node found there up young so leads.
        by_step x q.to (event.Datagram (address_of q.from) q.bytes) (sender_of q.from q.origin) (Ok node)
        (λ y e. (let same : node ≡ y = cc in subst (λ (z : Node). q.to ≡ n → KeptBy z) same (stays q.to node there))) leads)
        refl h
    line_keeps lac x (Load m p) h =
        load_line (λ (y : Lined). KeptIn y.world) w number m (slice_get w.packets (p - 1))
        (record { dropped = λ word other. base; held = λ g is. base }) x h
    line_keeps lac x (Hand m p) h =
        hand_line (λ (y : Lined). KeptIn y.world) w number m p
        (record {
          passed = λ k other. base;
          heard = λ k y lcp steps whole. hand_keeps m p k y steps;
          cut = λ k y lcp steps off. hand_keeps m p k y steps;
        }) x h
    line_keeps lac x (Tick m milliseconds) h =
        by_step x m event.Tick None (later milliseconds (declared (at w.nodes m)))
        (λ q e. timed_keeps src uniq session w number n base m q (is_later w m milliseconds q e)) h
    line_keeps lac x (Crash m) h = by (declared (at w.nodes m)) h
      where
        by : (o : Result Node Why) → crashed w number m o ≡ Ok x → KeptIn x.world
        by (Err y) h = absurd cc
        by (Ok node) h =
            let down = fallen (block_of m number) node.end node node.checkpoint in
            let e : quiet_line (without_held (with_node w m down) m) ≡ x = cc in
            subst (λ (y : Lined). KeptIn y.world) e
            (by_put m down (λ e. down_keeps src uniq session _))
    line_keeps lac x (Stop m commit call keeps) h = by (declared (at w.nodes m)) (λ q e. is_declared (at w.nodes m) q e) h
      where
        by : (o : Result Node Why) → ((q : Node) → o ≡ Ok q → at w.nodes m ≡ Some q)
            → armed w m (record { commit = commit; kept = keeps }) o ≡ Ok x → KeptIn x.world
        by (Err y) is h = absurd cc
        by (Ok node) is h =
            let stop : StopAt = record { commit = commit; kept = keeps } in
            let with = record node { checkpoint = with_stop (Some stop) node.checkpoint } in
            let e : quiet_line (with_node w m with) ≡ x = cc in
            subst (λ (y : Lined). KeptIn y.world) e (by_put m with (stays m node (is node refl)))
    line_keeps lac x (Start m) h = by (down_at (at w.nodes m)) (λ q e. is_down_at (at w.nodes m) q e) h
      where
        by : (o : Result Node Why) → ((q : Node) → o ≡ Ok q → (at w.nodes m ≡ Some q) × (q.up ≡ false)) → started w number m o ≡ Ok x
            → KeptIn x.world
        by (Err y) is h = absurd cc
        by (Ok node) is h =
            let k = is node refl in
            committed_keeps src uniq session w number n base x m (opened (block_of m number) node) None
            (starts node.end.role node.end.config node.checkpoint.book node.clock (block_of m number))
            (λ e.
            let both : Some node ≡ Some lac.node = sym k.0 ∙ (ap (λ j. at w.nodes j) e ∙ lac.there) in
            let same : node ≡ lac.node = cc in
            absurd (true≢false (sym lac.up ∙ (ap (λ (q : Node). q.up) (sym same) ∙ k.1)))) h

pub held_on : (w : World) → AreGood w → (number : ℕ) (l : Line) → IsHeldOn w number l
held_on w goods number l x made n before after src uniq session held live =
    let base : Keeps src uniq session (seen_in w n) = λ a is.
    (let both : Some (seen before.node) ≡ Some (true, Some a) = sym (ap (λ (q : Option Node). option_map seen q) before.there) ∙ is in
    let keeps : before.node.access ≡ Some a = ap hosts_in both in
    let some : Some before.access ≡ Some a = sym before.keeps ∙ keeps in
    let same : before.access ≡ a = cc in
    subst (λ (b : Access). IsHeld b src uniq session) same held) in
    let lives : (node : Node) → at w.nodes n ≡ Some node → is_some (at node.end.calls session) ≡ true = λ node there.
    (let both : Some before.node ≡ Some node = sym before.there ∙ there in
    let same : before.node ≡ node = cc in
    subst (λ (q : Node). is_some (at q.end.calls session) ≡ true) same live) in
    let up : Some (seen after.node) ≡ Some (true, Some after.access) = rw (after.up, after.keeps) refl in
    line_keeps src uniq session w number n base goods lives before x l made after.access
    (ap (λ (q : Option Node). option_map seen q) after.there ∙ up)
