-- What a line did are the moves of the step of the node to which it brings an event, and that step answers it.
use Rattle.std.proofs.Common.{◌≡◌, inl, inr, ⊎_elim, false, ℕ, ◌+◌, ◌-◌, List, [], ◌∷◌, ◌++◌, length, map, refl, sym, ap, ◌∙◌, subst, Option, Some, None, Result, Ok}
use Rattle.std.proofs.lemmas.Bool.{true≢false}
use Rattle.std.specs.Prelude.{slice_get, option_map}
use Rattle.id_table.specs.Ids.{at}
use Rattle.wire_base.specs.declared.why.Why.{Why}
use Rattle.wire_base.specs.declared.cause.Cause.{Cause as CauseOf}
use Rattle.schedule_text.specs.declared.line.Line.{Line}
use Rattle.schedule_text.specs.declared.line.Line.TheVariants.{Remark, Lac, Lns, OpenUp, Close, Ring, Frame, FromSub, Down, Hang, DropCall, Deliver, Load, Hand, Tick, Crash, Stop, Start}
use Rattle.schedule_text.specs.Grammar.{FitsLine, AreLines}
use Rattle.end_model.specs.declared.event.Event.{Event}
use Rattle.end_model.specs.declared.event.Event.TheVariants as event
use Rattle.end_model.specs.declared.moves.Move.{Move}
use Rattle.end_model.specs.declared.out.Out.{Out}
use Rattle.end_model.specs.declared.out.Out.TheVariants.{Cause}
use Rattle.world_model.specs.Texts.{Entry, Causes}
use Rattle.step_laws.specs.Letters.{Among}
use Rattle.world_model.specs.declared.packet.Packet.{Packet}
use Rattle.end_names.specs.Names.{address_of}
use Rattle.end_model.specs.Secrets.{uncovered_event}
use Rattle.end_model.specs.End.{Stepped, step}
use Rattle.step_laws.specs.Lines.{is_lac_at, is_lns_at, is_declared, has_call, has_tunnel, is_put_on, deliver_line, OfHand, hand_line}
use Rattle.world_model.specs.declared.held.Held.{Held}
use Rattle.world_model.specs.World.{World, Node, taken_up, hand_move, Sender, Deed, Lined, after_step, given, entry_of, entries_of, shown, declared, lac_at, lns_at, with_call, with_tunnel, later, block_of, stepped, sender_of, line}
use Rattle.world_model.specs.Run.{run}
use Rattle.step_laws.specs.Answers.{RequestsAreAnswered}
use Rattle.step_laws.specs.Steps.{StepsAreChains}
use Rattle.pppoe_discovery.specs.declared.outcome.Discovered.{Discovered}
use Rattle.end_model.specs.Access.{Coming, coming, Runs, Enters, Ignores, Answers}
use Rattle.step_laws.specs.Hosts.{LacAt, with_host, OfFrame, frame_line}
use Rattle.cause_laws.specs.Hosts.{FrameBrings}
use Rattle.cause_laws.proofs.Coming.{FrameComes, OfItsHost, OfAPadr, frame_comes}
use Rattle.cause_laws.specs.Causes.{Brings, moment_of}
use Rattle.cause_laws.specs.Answers.{hands_first, step_at, AnswersOfRuns}
use Rattle.node_laws.specs.Nodes.{EndsOfRuns}
use Rattle.cause_laws.proofs.Nodes.{CallLaws, all_left, kept_in, goods_in, whole_step}
use Rattle.cause_laws.proofs.Seen.{stepped_seen}

-- what is done are the moves
moves_done : (f : Move → Deed) → ((m : Move) → (f m).move ≡ m) → (ms : List Move) → map (λ (d : Deed). d.move) (map f ms) ≡ ms
moves_done f same [] = refl
moves_done f same (m ∷ ms) = rw (same m, moves_done f same ms) refl

-- and each cause is told
told_caused : (number n : ℕ) (c : CauseOf) (os : List Out) (v : World) → Among (Cause c) os → Among (Causes number n c) (entries_of number n os v)
unfolding entries_of entry_of
told_caused number n c [] v a = absurd a
told_caused number n c (o ∷ os) v a = ⊎_elim
    (λ (is : o ≡ Cause c). inl (ap (λ (q : Out). entry_of number n v q) is))
    (λ rest. inr (told_caused number n c os (shown n v o) rest))
    a

among_first : (e : Entry) (es fs : List Entry) → Among e es → Among e (es ++ fs)
among_first e [] fs a = absurd a
among_first e (x ∷ es) fs a = ⊎_elim (λ is. inl is) (λ rest. inr (among_first e es fs rest)) a

-- what a line did and told of a node are the moves and the causes of the step that it brings, whose end the node then has
record Does (w : World) (number : ℕ) (l : Line) (x : Lined) (n : ℕ) (node : Node) (ev : Event) : Type 0 where
  done : map (λ (d : Deed). d.move) x.done ≡ (step_at number l n node ev).moves
  told : (c : CauseOf) → Among (Cause c) (step_at number l n node ev).outputs → Among (Causes number n c) x.entries
  left : option_map (λ (q : Node). q.end) (at x.world.nodes n) ≡ Some (step_at number l n node ev).end

-- also with more entries behind
does_more : (w : World) (number : ℕ) (l : Line) (x : Lined) (n : ℕ) (node : Node) (ev : Event) (es : List Entry) → Does w number l x n node ev
    → Does w number l (record x { entries = x.entries ++ es }) n node ev
does_more w number l x n node ev es h = record {
  done = h.done;
  told = λ c a. among_first (Causes number n c) x.entries es (h.told c a);
  left = h.left;
}

module _ (w : World) (number : ℕ) (l : Line) (x : Lined) where
  -- a step that the line brings, of a node at the moment of the line
  of_step : (n : ℕ) (old node : Node) (ev : Event) (sender : Option Sender) → node.end ≡ old.end → node.clock ≡ moment_of l old
      → after_step w number n node sender (step node.end node.clock (block_of n number) ev) ≡ x → Does w number l x n old ev
  unfolding after_step given
  of_step n old node ev sender same clock is =
      let s = step node.end node.clock (block_of n number) ev in
      let alike : s ≡ step_at number l n old ev = rw (same, clock) refl in
      subst (λ (q : Lined). Does w number l q n old ev) is (record {
        done = moves_done _ (λ m. refl) s.moves ∙ ap (λ (q : Stepped). q.moves) alike;
        told = λ c a. told_caused number n c s.outputs _ (subst (λ (q : Stepped). Among (Cause c) q.outputs) (sym alike) a);
        left = stepped_seen (λ (q : Node). q.end) (λ q births standings answers. refl) w number n node sender s
            ∙ ap (λ (q : Stepped). Some q.end) alike;
      })

  -- a step of a node that is there, to which it brings this event
  stepped_does : (m : ℕ) (c : Event) (sender : Option Sender) (o : Result Node Why) → ((q : Node) → o ≡ Ok q → at w.nodes m ≡ Some q)
      → ((q : Node) → q.clock ≡ moment_of l q) → x.cut ≡ false → stepped w number m c sender o ≡ Ok x → (n : ℕ) (node : Node) (ev : Event)
      → at w.nodes n ≡ Some node → n ≡ m → ev ≡ c → Does w number l x n node ev
  stepped_does m c sender o there clock uncut h n node ev was to is =
      whole_step (Does w number l x n node ev) w number x m c sender o
      (λ q e k whole made.
      let both : Some q ≡ Some node = sym (there q e) ∙ (ap (at w.nodes) (sym to) ∙ was) in
      let same : q ≡ node = cc in
      let done : Does w number l x m q c = of_step m q (record q { checkpoint = k }) c sender refl (clock q) made in
      rw (to, is, ← same) done)
      uncut h

-- a step of a LAC whose hosts change with it
host_does_it : (w : World) (number m : ℕ) (bytes : List ℕ) (l : LacAt w m) (src : List ℕ) (uniq : Option (List ℕ)) (x : Lined)
    → x.cut ≡ false → stepped w number m (event.Admitted src) None (Ok (with_host w number m l src uniq)) ≡ Ok x
    → Does w number (Frame m bytes) x m l.node (event.Admitted src)
host_does_it w number m bytes l src uniq x uncut h =
    whole_step (Does w number (Frame m bytes) x m l.node (event.Admitted src)) w number x m (event.Admitted src) None (Ok (with_host w number m l src uniq))
    (λ q e k whole made.
    let host : with_host w number m l src uniq ≡ q = cc in
    of_step w number (Frame m bytes) x m l.node (record q { checkpoint = k }) (event.Admitted src) None
    (ap (λ (y : Node). y.end) (sym host)) (ap (λ (y : Node). y.clock) (sym host)) made)
    uncut h

-- a LAC is told by its number, and so is what comes to it
module _ (w : World) (m : ℕ) (bytes : List ℕ) where
  same_lac : (l k : LacAt w m) → (l.node ≡ k.node) × (l.access ≡ k.access)
  same_lac l k =
      let nodes : Some l.node ≡ Some k.node = sym l.there ∙ k.there in
      let node : l.node ≡ k.node = cc in
      let held : Some l.access ≡ Some k.access = sym l.keeps ∙ (ap (λ (q : Node). q.access) node ∙ k.keeps) in
      (node, cc)

  same_coming : (l k : LacAt w m) → coming l.access l.node.end bytes ≡ coming k.access k.node.end bytes
  same_coming l k = let s = same_lac l k in rw (s.0, s.1) refl

frame_does : (w : World) (number m : ℕ) (bytes : List ℕ) (n : ℕ) (node : Node) (ev : Event) → at w.nodes n ≡ Some node → n ≡ m → FrameBrings w m bytes ev
    → OfFrame (λ y. y.cut ≡ false → Does w number (Frame m bytes) y n node ev) w number m bytes
frame_does w number m bytes n node ev was to brings = record {
  ignored = λ l word is x h u uncut. absurd (not_told l (Ignores word) is (λ c e. cc) (λ src uniq asked e. cc) (frame_comes w m bytes ev brings));
  answered = λ l because frame is x h u uncut. absurd (not_told l (Answers because frame) is (λ c e. cc) (λ src uniq asked e. cc) (frame_comes w m bytes ev brings));
  done = λ l c is does x h uncut.
      stepped_does w number (Frame m bytes) x m c None (Ok l.node) (λ q e. (let same : l.node ≡ q = cc in rw (← same) l.there)) (λ q. refl) uncut h
      n node ev was to (runs_this l c is (frame_comes w m bytes ev brings));
  entered = λ l src uniq asked is x h u uncut.
      does_more w number (Frame m bytes) x n node ev _ (entered_does l src uniq asked is x u h (frame_comes w m bytes ev brings));
  cut = λ l c q is x h off uncut. absurd (true≢false (sym off ∙ uncut));
}
  where
    not_told : (l : LacAt w m) (k : Coming) → coming l.access l.node.end bytes ≡ k → ((c : Event) → k ≡ Runs c → ⊥)
        → ((src : List ℕ) (uniq : Option (List ℕ)) (asked : Discovered) → k ≡ Enters src uniq asked → ⊥) → FrameComes w m bytes ev → ⊥
    not_told l k is other another (OfItsHost j runs) = other ev (sym is ∙ (same_coming w m bytes l j ∙ runs))
    not_told l k is other another (OfAPadr j src uniq asked enters same) = another src uniq asked (sym is ∙ (same_coming w m bytes l j ∙ enters))

    runs_this : (l : LacAt w m) (c : Event) → coming l.access l.node.end bytes ≡ Runs c → FrameComes w m bytes ev → ev ≡ c
    runs_this l c is (OfItsHost k runs) = let e : Runs c ≡ Runs ev = sym is ∙ (same_coming w m bytes l k ∙ runs) in cc
    runs_this l c is (OfAPadr k src uniq asked enters same) =
        let e : Runs c ≡ Enters src uniq asked = sym is ∙ (same_coming w m bytes l k ∙ enters) in absurd cc

    entered_does : (l : LacAt w m) (src : List ℕ) (uniq : Option (List ℕ)) (asked : Discovered) → coming l.access l.node.end bytes ≡ Enters src uniq asked
        → (x : Lined) → x.cut ≡ false → stepped w number m (event.Admitted src) None (Ok (with_host w number m l src uniq)) ≡ Ok x → FrameComes w m bytes ev
        → Does w number (Frame m bytes) x n node ev
    entered_does l src uniq asked is x uncut h (OfItsHost k runs) =
        let e : Enters src uniq asked ≡ Runs ev = sym is ∙ (same_coming w m bytes l k ∙ runs) in absurd cc
    entered_does l src uniq asked is x uncut h (OfAPadr k from named wanted enters same) =
        let e : Enters src uniq asked ≡ Enters from named wanted = sym is ∙ (same_coming w m bytes l k ∙ enters) in
        let who : src ≡ from = cc in
        let both : Some l.node ≡ Some node = sym l.there ∙ (ap (at w.nodes) (sym to) ∙ was) in
        let here : l.node ≡ node = cc in
        let event_is : ev ≡ event.Admitted src = same ∙ ap event.Admitted (sym who) in
        let done = host_does_it w number m bytes l src uniq x uncut h in
        rw (to, event_is, ← here) done

-- of each kind that hands up no frame by itself
abbrev IsNoHand : Line → Type 0
IsNoHand (Hand m k) = ⊥
IsNoHand l = Unit {0}

line_does : (w : World) (number : ℕ) (l : Line) (x : Lined) → IsNoHand l → line w number l ≡ Ok x → x.cut ≡ false → (n : ℕ) (node : Node) (ev : Event) → at w.nodes n ≡ Some node
    → Brings w l n ev → Does w number l x n node ev
unfolding line
line_does w number (Remark text) x alone h uncut n node ev was brings = absurd brings
line_does w number (Lac m k secret hide) x alone h uncut n node ev was brings = absurd brings
line_does w number (Lns m secret) x alone h uncut n node ev was brings = absurd brings
line_does w number (OpenUp m) x alone h uncut n node ev was brings =
    stepped_does w number (OpenUp m) x m event.OpenTunnel None (lac_at (at w.nodes m)) (λ q e. (is_lac_at (at w.nodes m) q e).0) (λ q. refl) uncut h
    n node ev was brings.0 brings.1
line_does w number (Close m i) x alone h uncut n node ev was brings =
    stepped_does w number (Close m i) x m (event.CloseTunnel i) None (with_tunnel i (declared (at w.nodes m)))
    (λ q e. is_declared (at w.nodes m) q (has_tunnel i (declared (at w.nodes m)) q e)) (λ q. refl) uncut h n node ev was brings.0 brings.1
line_does w number (Ring m port) x alone h uncut n node ev was brings =
    stepped_does w number (Ring m port) x m (event.Ring port) None (lac_at (at w.nodes m)) (λ q e. (is_lac_at (at w.nodes m) q e).0) (λ q. refl) uncut h
    n node ev was brings.0 brings.1
line_does w number (Frame m bytes) x alone h uncut n node ev was brings =
    frame_line (λ y. y.cut ≡ false → Does w number (Frame m bytes) y n node ev) w number m bytes (frame_does w number m bytes n node ev was brings.0 brings.1)
    x h uncut
line_does w number (FromSub m session frame) x alone h uncut n node ev was brings =
    stepped_does w number (FromSub m session frame) x m (event.Payload session frame) None (with_call session (lac_at (at w.nodes m)))
    (λ q e. (is_lac_at (at w.nodes m) q (has_call session (lac_at (at w.nodes m)) q e)).0) (λ q. refl) uncut h n node ev was brings.0 brings.1
line_does w number (Down m session frame) x alone h uncut n node ev was brings =
    stepped_does w number (Down m session frame) x m (event.Lower session frame) None (with_call session (lns_at (at w.nodes m)))
    (λ q e. (is_lns_at (at w.nodes m) q (has_call session (lns_at (at w.nodes m)) q e)).0) (λ q. refl) uncut h n node ev was brings.0 brings.1
line_does w number (Hang m session) x alone h uncut n node ev was brings =
    stepped_does w number (Hang m session) x m (event.Hang session) None (with_call session (lac_at (at w.nodes m)))
    (λ q e. (is_lac_at (at w.nodes m) q (has_call session (lac_at (at w.nodes m)) q e)).0) (λ q. refl) uncut h n node ev was brings.0 brings.1
line_does w number (DropCall m session) x alone h uncut n node ev was brings =
    stepped_does w number (DropCall m session) x m (event.DropCall session) None (with_call session (declared (at w.nodes m)))
    (λ q e. is_declared (at w.nodes m) q (has_call session (declared (at w.nodes m)) q e)) (λ q. refl) uncut h n node ev was brings.0 brings.1
line_does w number (Deliver k) x alone h uncut n node ev was brings =
    deliver_line (Does w number (Deliver k) x n node ev) w number x (line w number (Deliver k)) (slice_get w.packets (k - 1))
    (λ p q sent there up young so leads.
    let both : Some p ≡ Some brings.0 = sym sent ∙ brings.1 in
    let same : brings.0 ≡ p = cc in
    stepped_does w number (Deliver k) x p.to (event.Datagram (address_of p.from) p.bytes) (sender_of p.from p.origin) (Ok q)
    (λ y is. (let here : q ≡ y = cc in rw (← here) there)) (λ y. refl) uncut leads
    n node ev was (brings.2 ∙ ap (λ (y : Packet). y.to) same)
    (brings.3 ∙ ap (λ (y : Packet). event.Datagram (address_of y.from) y.bytes) same))
    refl h
line_does w number (Load m k) x alone h uncut n node ev was brings = absurd brings
line_does w number (Hand m k) x alone h uncut n node ev was brings = absurd alone
line_does w number (Tick m milliseconds) x alone h uncut n node ev was brings =
    whole_step (Does w number (Tick m milliseconds) x n node ev) w number x m event.Tick None (later milliseconds (declared (at w.nodes m)))
    (λ timed e c whole made.
    let k = is_put_on w m milliseconds timed e in
    let both : Some k.old ≡ Some node = sym k.there ∙ (ap (at w.nodes) (sym brings.0) ∙ was) in
    let same : k.old ≡ node = cc in
    let done : Does w number (Tick m milliseconds) x m k.old event.Tick =
    of_step w number (Tick m milliseconds) x m k.old (record timed { checkpoint = c }) event.Tick None (ap (λ (q : Node). q.end) (sym k.same)) (ap (λ (q : Node). q.clock) (sym k.same)) made in
    rw (brings.0, brings.1, ← same) done)
    uncut h
line_does w number (Crash m) x alone h uncut n node ev was brings = absurd brings
line_does w number (Stop m commit call keeps) x alone h uncut n node ev was brings = absurd brings
line_does w number (Start m) x alone h uncut n node ev was brings = absurd brings

-- and with that frame
record DoesAll (w : World) (number : ℕ) (l : Line) (x : Lined) (n : ℕ) (node : Node) (ev : Event) : Type 0 where
  done : map (λ (d : Deed). d.move) x.done ≡ hands_first w l ++ (step_at number l n node ev).moves
  told : (c : CauseOf) → Among (Cause c) (step_at number l n node ev).outputs → Among (Causes number n c) x.entries
  left : option_map (λ (q : Node). q.end) (at x.world.nodes n) ≡ Some (step_at number l n node ev).end

hand_does : (w : World) (number m held : ℕ) (n : ℕ) (node : Node) (ev : Event) → at w.nodes n ≡ Some node → Brings w (Hand m held) n ev
    → OfHand (λ y. y.cut ≡ false → DoesAll w number (Hand m held) y n node ev) w number m held
hand_does w number m held n node ev was brings = record {
  passed = λ k other uncut. (let both : Some k.frame ≡ Some brings.0 = sym k.held ∙ brings.1 in
      let same : k.frame ≡ brings.0 = cc in absurd (other (ap (λ (f : Held). f.side) same ∙ brings.2)));
  heard = λ k y lcp steps whole uncut.
      (let both : Some k.frame ≡ Some brings.0 = sym k.held ∙ brings.1 in
      let same : k.frame ≡ brings.0 = cc in
      let event_is : ev ≡ event.Lcp k.frame.session k.frame.frame = brings.4 ∙ ap (λ (f : Held). event.Lcp f.session f.frame) (sym same) in
      let d = stepped_does (taken_up w m held) number (Hand m held) y m (event.Lcp k.frame.session k.frame.frame) None (Ok k.node)
      (λ q e. (let here : k.node ≡ q = cc in rw (← here) k.there)) (λ q. refl) whole steps n node ev was brings.3 event_is in
      record { done = rw k.held (ap (λ ms. hand_move k.frame ∷ ms) d.done); told = λ c a. inr (d.told c a); left = d.left });
  cut = λ k y lcp steps off uncut. absurd (true≢false (sym off ∙ uncut));
}

line_all : (w : World) (number : ℕ) (l : Line) (x : Lined) → line w number l ≡ Ok x → x.cut ≡ false → (n : ℕ) (node : Node) (ev : Event) → at w.nodes n ≡ Some node
    → Brings w l n ev → DoesAll w number l x n node ev
unfolding line
line_all w number (Hand m held) x h uncut n node ev was brings =
    hand_line (λ y. y.cut ≡ false → DoesAll w number (Hand m held) y n node ev) w number m held (hand_does w number m held n node ev was brings) x h uncut
line_all w number l x h uncut n node ev was brings =
    let d = line_does w number l x tt h uncut n node ev was brings in record { done = d.done; told = d.told; left = d.left }

-- ---- runs

pub answers_of_runs : RequestsAreAnswered → StepsAreChains → CallLaws → EndsOfRuns → AnswersOfRuns
answers_of_runs answers chains laws ends lines fits before after l split x made uncut n node ev was brings =
    let whole : AreLines (before ++ l ∷ after) = subst AreLines split fits in
    let first = all_left FitsLine before (l ∷ after) whole in
    let r = run before in
    let kept = kept_in laws ends before first n node was in
    let fine = (goods_in laws ends before first n node was).fine in
    let does = line_all r.world (length before + 1) l x made uncut n node ev was brings in
    let block = block_of n (length before + 1) in
    let heard = uncovered_event node.end.config.secret ev in
    record {
      done = does.done;
      told = does.told;
      answers = answers node.end kept fine.sound fine.asked (moment_of l node) block heard;
      chain = chains node.end kept (moment_of l node) block heard;
      left = does.left;
    }
