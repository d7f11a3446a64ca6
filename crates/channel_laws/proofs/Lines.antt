-- Whatever line fits does one of a few things with the nodes.
use Rattle.std.proofs.Common.{◌≡◌, ◌⊎◌, inl, inr, ℕ, ◌+◌, ◌-◌, ◌^◌, ◌<◌, Bool, true, false, List, [], ◌∷◌, ◌++◌, refl, sym, ap, ◌∙◌, subst, Option, Some, None, Result, Ok, Err, arith}
use Rattle.std.proofs.lemmas.Bool.{true≢false}
use Rattle.std.specs.Prelude.{is_some, slice_get, min}
use Rattle.id_table.specs.Ids.{at}
use Rattle.wire_base.specs.declared.why.Why.{Why}
use Rattle.wire_base.specs.declared.why.Why.TheVariants as why
use Rattle.schedule_text.specs.declared.line.Line.{Line}
use Rattle.schedule_text.specs.Grammar.{IsNode, FitsLine}
use Rattle.schedule_text.specs.declared.line.Line.TheVariants.{Remark, Lac, Lns, OpenUp, Close, Ring, Frame, FromSub, Down, Hang, DropCall, Deliver, Load, Hand, Tick, Crash, Stop, Start}
use Rattle.end_names.specs.declared.role.Role.{Role}
use Rattle.end_names.specs.declared.role.Role.TheVariants as role
use Rattle.end_names.specs.Names.{address_of}
use Rattle.end_model.specs.declared.event.Event.{Event}
use Rattle.end_model.specs.declared.event.Event.TheVariants as event
use Rattle.end_model.specs.declared.out.Out.{Out}
use Rattle.end_model.specs.declared.out.Out.TheVariants.{Send, Up, Gone, Drop, Cause}
use Rattle.end_model.specs.End.{End, Stepped, step}
use Rattle.end_model.specs.Starting.{starts}
use Rattle.end_model.specs.Access.{Access}
use Rattle.world_model.specs.declared.refusal.Refusal.TheVariants.{Unfit}
use Rattle.world_model.specs.Texts.{Entry, Frames, Drops}
use Rattle.world_model.specs.World.{World, Node, Checkpoint, Sender, Lined, quiet_line, with_node, shown, entries_of, entry_of, given, after_step, with_stop, fallen, without_held, cut_line, declared, lac_at, lns_at, down_at, with_call, with_tunnel, later, new_node, added, block_of, stepped, sender_of, held_line, taken_up, behind_hand, hand_deed, answer_entries, crashed, armed, opened, started, line}
use Rattle.step_laws.specs.Gone.{gone_in}
use Rattle.step_laws.specs.Lines.{tested_not, is_running, is_lac_at, is_lns_at, is_down_at, has_call, has_tunnel, IsAt, is_at, at_moment, is_later, none_there, committed_line, step_line, deliver_line, load_line, hand_line}
use Rattle.step_laws.specs.Hosts.{LacAt, with_host, entering, reply_to, HostDoes, HostSends, HostLeaves}
use Rattle.frame_laws.proofs.Frames.{OfFrame, frame_line}
use Rattle.channel_laws.specs.Lines.{gone_by, gone_told, of_node, AreSame, Finds, AreHands, IsNoDatagram, ComesIn, OfPacket, OfItself, LineDoes, Nothing, ANode, Arms, Falls, Steps, Cuts, Starts, LinesDo}

-- ---- what is told as gone

gone_both : (xs ys : List Entry) → gone_told (xs ++ ys) ≡ gone_told xs ++ gone_told ys
gone_both [] ys = refl
gone_both (x ∷ xs) ys = ap (λ q. gone_by x ++ q) (gone_both xs ys) ∙ sym (assoc (gone_by x) (gone_told xs) (gone_told ys))
  where
    assoc : {X : Type 0} (us bs cs : List X) → (us ++ bs) ++ cs ≡ us ++ (bs ++ cs)
    assoc [] bs cs = refl
    assoc (a ∷ us) bs cs = ap (λ q. a ∷ q) (assoc us bs cs)

none_behind : {X : Type 0} (xs : List X) → xs ++ [] ≡ xs
none_behind [] = refl
none_behind (x ∷ xs) = ap (λ q. x ∷ q) (none_behind xs)

-- the entries of outputs tell those that the outputs do
gone_of_outputs : (number n : ℕ) (os : List Out) (v : World) → gone_told (entries_of number n os v) ≡ of_node n (gone_in os)
unfolding entries_of entry_of
gone_of_outputs number n [] v = refl
gone_of_outputs number n (Send peer bytes origin ∷ os) v = gone_of_outputs number n os (shown n v (Send peer bytes origin))
gone_of_outputs number n (Up session side frame ∷ os) v = gone_of_outputs number n os (shown n v (Up session side frame))
gone_of_outputs number n (Gone session ∷ os) v = ap (λ q. (n, session) ∷ q) (gone_of_outputs number n os (shown n v (Gone session)))
gone_of_outputs number n (Drop x ∷ os) v = gone_of_outputs number n os (shown n v (Drop x))
gone_of_outputs number n (Cause x ∷ os) v = gone_of_outputs number n os (shown n v (Cause x))

pub gone_after : (w : World) (number n : ℕ) (node : Node) (sender : Option Sender) (s : Stepped)
    → gone_told (after_step w number n node sender s).entries ≡ of_node n (gone_in s.outputs)
unfolding after_step given
gone_after w number n node sender s = gone_of_outputs number n s.outputs _

node_fits : (n : ℕ) → IsNode n → n < 256
node_fits n is = let le = is.1 in omega (arith, le)

-- ---- a step

abbrev same_world : (w : World) → AreSame w w
same_world w = record { nodes = refl; packets = refl; born = refl }

-- of a node at some moment, with some hosts
finds_at : (w : World) (n : ℕ) (node : Node) (is : IsAt w n node) → Finds is.before node
finds_at w n node is = record {
  end = ap (λ (x : Node). x.end) is.same;
  checkpoint = ap (λ (x : Node). x.checkpoint) is.same;
  births = ap (λ (x : Node). x.births) is.same;
  standings = ap (λ (x : Node). x.standings) is.same;
  answers = ap (λ (x : Node). x.answers) is.same;
}

-- a step that was cut off does and tells nothing
was_cut : (w : World) (number n : ℕ) (q : Node) (k : Checkpoint) (y : Lined) → cut_line w number n q k ≡ y → y.cut ≡ true
unfolding cut_line
was_cut w number n q k y made = subst (λ (l : Lined). l.cut ≡ true) made refl

cut_done : (w : World) (number n : ℕ) (q : Node) (k : Checkpoint) → (cut_line w number n q k).done ≡ []
unfolding cut_line
cut_done w number n q k = refl

cut_told : (w : World) (number n : ℕ) (q : Node) (k : Checkpoint) → gone_told (cut_line w number n q k).entries ≡ []
unfolding cut_line
cut_told w number n q k = refl

was_whole : (w : World) (number n : ℕ) (q : Node) (s : Stepped) (x : Lined) → after_step w number n q None s ≡ x → x.cut ≡ false
unfolding after_step given
was_whole w number n q s x made = subst (λ (y : Lined). y.cut ≡ false) made refl

-- what a line tells beside the entries of its step, or in place of them
pub record Retells (number : ℕ) (y x : Lined) : Type 0 where
  pub world : x.world ≡ y.world
  pub hands : (ds : List _) × (AreHands number ds × (x.done ≡ ds ++ y.done))
  pub told : (gone_told x.entries ≡ gone_told y.entries) ⊎ (gone_told x.entries ≡ [])

as_it_is : (number : ℕ) (y : Lined) → Retells number y y
as_it_is number y = record { world = refl; hands = ([], (inl refl, refl)); told = inl refl }

module _ (w : World) (number : ℕ) where
  -- a step of a node that is up, as it is or with other entries
  module _ (base : World) (same : AreSame w base) (n : ℕ) (node : Node) (is : IsAt w n node) (up : node.up ≡ true) (ev : Event) (sender : Option Sender)
      (comes : ComesIn w n is.before ev sender) where
    was_up : is.before.up ≡ true
    was_up = sym (ap (λ (x : Node). x.up) is.same) ∙ up

    stepped_so : (y : Lined) → stepped base number n ev sender (Ok node) ≡ Ok y → (x : Lined) → Retells number y x → (y.cut ≡ true → x ≡ y) → LineDoes w number x
    stepped_so y h x r off = step_line (LineDoes w number x) base number y n ev sender (Ok node)
        (λ q e k whole made.
        let one : node ≡ q = cc in
        let s = step q.end q.clock (block_of n number) ev in
        let told = subst (λ (l : Lined). gone_told l.entries ≡ of_node n (gone_in s.outputs)) made (gone_after base number n (record q { checkpoint = k }) sender s) in
        Steps (record {
          node = n;
          old = is.before;
          was = is.there;
          up = was_up;
          found = q;
          finds = subst (Finds is.before) one (finds_at w n node is);
          still = subst (λ (z : Node). z.up ≡ true) one up;
          base = base;
          same = same;
          event = ev;
          sender = sender;
          comes = comes;
          checkpoint = k;
          whole = whole;
          world = r.world ∙ ap (λ (l : Lined). l.world) (sym made);
          hands = r.hands.0;
          are_hands = r.hands.1.0;
          done = r.hands.1.1 ∙ ap (λ (l : Lined). r.hands.0 ++ l.done) (sym made);
          told = told_so r.told told;
        }))
        (λ q e k cut made.
        let one : node ≡ q = cc in
        let same_line : x ≡ y = off (was_cut base number n q k y made) in
        Cuts (record {
          node = n;
          old = is.before;
          was = is.there;
          found = q;
          finds = subst (Finds is.before) one (finds_at w n node is);
          base = base;
          same = same;
          stepped = step q.end q.clock (block_of n number) ev;
          of = inl (was_up, (ev, sender, comes, refl));
          checkpoint = k;
          cut = cut;
          world = ap (λ (l : Lined). l.world) (same_line ∙ sym made);
          done = ap (λ (l : Lined). l.done) (same_line ∙ sym made) ∙ cut_done base number n q k;
          told = ap (λ (l : Lined). gone_told l.entries) (same_line ∙ sym made) ∙ cut_told base number n q k;
        }))
        h
      where
        told_so : {gone : List (ℕ × ℕ)} → (gone_told x.entries ≡ gone_told y.entries) ⊎ (gone_told x.entries ≡ []) → gone_told y.entries ≡ gone
            → (gone_told x.entries ≡ gone) ⊎ (gone_told x.entries ≡ [])
        told_so (inl e) is = inl (e ∙ is)
        told_so (inr e) is = inr e

  -- a step as it is
  plain_so : (base : World) (same : AreSame w base) (n : ℕ) (node : Node) (is : IsAt w n node) (up : node.up ≡ true) (ev : Event) (sender : Option Sender)
      → ComesIn w n is.before ev sender → (x : Lined) → stepped base number n ev sender (Ok node) ≡ Ok x → LineDoes w number x
  plain_so base same n node is up ev sender comes x h = stepped_so base same n node is up ev sender comes x h x (as_it_is number x) (λ off. refl)

  by_itself : (n : ℕ) (ev : Event) (o : Result Node Why) → IsNoDatagram ev → ((node : Node) → o ≡ Ok node → IsAt w n node × (node.up ≡ true))
      → (x : Lined) → stepped w number n ev None o ≡ Ok x → LineDoes w number x
  unfolding stepped
  by_itself n ev o none there x h = by o refl h
    where
      by : (q : Result Node Why) → o ≡ q → stepped w number n ev None q ≡ Ok x → LineDoes w number x
      by (Err y) is h = absurd (cc)
      by (Ok node) is h = let k = there node is in plain_so w (same_world w) n node k.0 k.1 ev None (OfItself none refl) x h

  any_up : (o : Option Node) (node : Node) → declared o ≡ Ok node → (o ≡ Some node) × (node.up ≡ true)
  any_up None node h = absurd (cc)
  any_up (Some y) node h = let u = is_running y node h in (ap (λ z. Some z) u.0, u.1)

  lac_there : (n : ℕ) (node : Node) → lac_at (at w.nodes n) ≡ Ok node → IsAt w n node × (node.up ≡ true)
  lac_there n node e = let l = is_lac_at (at w.nodes n) node e in (is_at w n node l.0, l.2)

  lns_there : (n : ℕ) (node : Node) → lns_at (at w.nodes n) ≡ Ok node → IsAt w n node × (node.up ≡ true)
  lns_there n node e = let l = is_lns_at (at w.nodes n) node e in (is_at w n node l.0, l.2)

  any_there : (n : ℕ) (node : Node) → declared (at w.nodes n) ≡ Ok node → IsAt w n node × (node.up ≡ true)
  any_there n node e = let l = any_up (at w.nodes n) node e in (is_at w n node l.0, l.1)

  later_up : (milliseconds : ℕ) (o : Option Node) (node : Node) → later milliseconds (declared o) ≡ Ok node → node.up ≡ true
  later_up milliseconds o node h = by (declared o) refl h
    where
      by : (r : Result Node Why) → declared o ≡ r → later milliseconds r ≡ Ok node → node.up ≡ true
      by (Err y) is h = absurd (cc)
      by (Ok y) is h = let up = (any_up o y is).1 in let same : record y { clock = min (y.clock + milliseconds) (2 ^ 64 - 1) } ≡ node = cc in subst (λ (z : Node). z.up ≡ true) same up

  -- ---- frames

  told_none : (number n : ℕ) (word : Why) → gone_told (Drops number n word ∷ []) ≡ []
  told_none number n word = refl

  host_itself : (a : Access) (e : End) (bytes : List ℕ) (ev : Event) → HostDoes a e bytes ev → IsNoDatagram ev
  host_itself a e bytes ev (HostSends src session start stop found of) = tt
  host_itself a e bytes ev (HostLeaves src session found of) = tt

  of_frame : (n : ℕ) (bytes : List ℕ) → OfFrame (λ (x : Lined). LineDoes w number x) w number n bytes
  of_frame n bytes = record {
    ignored = λ l word is x h u.
        stepped_so w (same_world w) n l.node (is_at w n l.node l.there) l.up (event.Frame bytes) None (OfItself tt refl) x h (record x { entries = Drops number n word ∷ [] })
        (record { world = refl; hands = ([], (inl refl, refl)); told = inr refl }) (λ off. absurd (true≢false (sym off ∙ u)));
    answered = λ l because frame is x h u.
        stepped_so w (same_world w) n l.node (is_at w n l.node l.there) l.up (event.Frame bytes) None (OfItself tt refl) x h (record x { entries = answer_entries number n because frame })
        (record { world = refl; hands = ([], (inl refl, refl)); told = inr (answers_none because frame) }) (λ off. absurd (true≢false (sym off ∙ u)));
    done = λ l ev is does x h.
        plain_so w (same_world w) n l.node (is_at w n l.node l.there) l.up ev None (OfItself (host_itself l.access l.node.end bytes ev does) refl) x h;
    entered = λ l src uniq asked is x h u.
        stepped_so w (same_world w) n (with_host w number n l src uniq) (entering w number n l src uniq (with_host w number n l src uniq) refl) l.up (event.Admitted src) None
        (OfItself tt refl) x h (record x { entries = x.entries ++ Frames number n (reply_to w number n l src asked) ∷ [] })
        (record { world = refl; hands = ([], (inl refl, refl)); told = inl (gone_both x.entries _ ∙ none_behind (gone_told x.entries)) })
        (λ off. absurd (true≢false (sym off ∙ u)));
    cut = λ l ev node is up none x h c. cut_so n l node is up ev none x h c;
  }
    where
      answers_none : (because : Option _) (frame : List ℕ) → gone_told (answer_entries number n because frame) ≡ []
      answers_none None frame = refl
      answers_none (Some c) frame = refl

      cut_so : (n : ℕ) (l : LacAt w n) (node : Node) → IsAt w n node → node.up ≡ true → (ev : Event) → IsNoDatagram ev → (x : Lined) → stepped w number n ev None (Ok node) ≡ Ok x
          → x.cut ≡ true → LineDoes w number x
      cut_so n l node is up ev none x h c = stepped_so w (same_world w) n node is up ev None (OfItself none refl) x h x
          (record { world = refl; hands = ([], (inl refl, refl)); told = inl refl }) (λ off. refl)

  -- ---- lines

  added_so : (n : ℕ) (r : Role) (lns : ℕ) (secret : Option (List ℕ)) (hide : Bool) (x : Lined) → n < 256
      → (r ≡ role.Lac → (m : ℕ) × (m < 256) × (lns ≡ address_of m)) → added w number n r lns secret hide ≡ Ok x → LineDoes w number x
  unfolding added
  added_so n r lns secret hide x lt to h =
      let fresh = new_node number n r lns secret hide in
      let t = tested_not (is_some (at w.nodes n)) (quiet_line (with_node w n fresh)) (Unfit why.Twice) x h in
      subst (LineDoes w number) t.1 (ANode n r lns secret hide lt to (none_there (at w.nodes n) t.0) refl refl refl)

  pub line_does : (l : Line) (x : Lined) → FitsLine l → line w number l ≡ Ok x → LineDoes w number x
  unfolding line crashed armed held_line started
  line_does (Remark text) x fits h =
      let e : quiet_line w ≡ x = cc in subst (LineDoes w number) e (Nothing (same_world w) (inl refl) refl)
  line_does (Lac n m secret hide) x fits h = added_so n role.Lac (address_of m) secret hide x (node_fits n fits.0) (λ lac. (m, node_fits m fits.1, refl)) h
  line_does (Lns n secret) x fits h = added_so n role.Lns 0 secret false x (node_fits n fits.0) (λ lac. absurd cc) h
  line_does (OpenUp n) x fits h = by_itself n event.OpenTunnel (lac_at (at w.nodes n)) tt (λ node e. lac_there n node e) x h
  line_does (Close n i) x fits h =
      by_itself n (event.CloseTunnel i) (with_tunnel i (declared (at w.nodes n))) tt (λ node e. any_there n node (has_tunnel i (declared (at w.nodes n)) node e)) x h
  line_does (Ring n port) x fits h = by_itself n (event.Ring port) (lac_at (at w.nodes n)) tt (λ node e. lac_there n node e) x h
  line_does (Frame n bytes) x fits h = frame_line (λ (y : Lined). LineDoes w number y) w number n bytes (of_frame n bytes) x h
  line_does (FromSub n session frame) x fits h =
      by_itself n (event.Payload session frame) (with_call session (lac_at (at w.nodes n))) tt (λ node e. lac_there n node (has_call session (lac_at (at w.nodes n)) node e)) x h
  line_does (Down n session frame) x fits h =
      by_itself n (event.Lower session frame) (with_call session (lns_at (at w.nodes n))) tt (λ node e. lns_there n node (has_call session (lns_at (at w.nodes n)) node e)) x h
  line_does (Hang n session) x fits h =
      by_itself n (event.Hang session) (with_call session (lac_at (at w.nodes n))) tt (λ node e. lac_there n node (has_call session (lac_at (at w.nodes n)) node e)) x h
  line_does (DropCall n session) x fits h =
      by_itself n (event.DropCall session) (with_call session (declared (at w.nodes n))) tt
      (λ node e. any_there n node (has_call session (declared (at w.nodes n)) node e)) x h
  line_does (Deliver p) x fits h = deliver_line (LineDoes w number x) w number x (line w number (Deliver p)) (slice_get w.packets (p - 1))
      (λ q node found there up young comes leads.
      plain_so w (same_world w) q.to node (record { before = node; there = there; same = refl }) up (event.Datagram (address_of q.from) q.bytes) (sender_of q.from q.origin)
      (OfPacket q (p - 1) found refl young refl refl) x leads) refl h
  line_does (Load n p) x fits h = load_line (λ (y : Lined). LineDoes w number y) w number n (slice_get w.packets (p - 1))
      (record { dropped = λ word other. Nothing (same_world w) (inl refl) refl; held = λ f is. Nothing (record { nodes = refl; packets = refl; born = refl }) (inl refl) refl }) x h
  line_does (Hand n k) x fits h = hand_line (λ (y : Lined). LineDoes w number y) w number n k (record {
    passed = λ f other. Nothing (record { nodes = refl; packets = refl; born = refl }) (inr (n, f.node.end.role, f.frame, refl)) refl;
    heard = λ f y lcp steps whole.
        stepped_so (taken_up w n k) (record { nodes = refl; packets = refl; born = refl }) n f.node (is_at w n f.node f.there) f.up (event.Lcp f.frame.session f.frame.frame) None
        (OfItself tt refl) y steps (behind_hand number n f.node.end.role f.frame y)
        (record { world = refl; hands = (hand_deed number n f.node.end.role f.frame ∷ [], (inr (n, f.node.end.role, f.frame, refl), refl)); told = inl refl })
        (λ off. absurd (true≢false (sym off ∙ whole)));
    cut = λ f y lcp steps off.
        plain_so (taken_up w n k) (record { nodes = refl; packets = refl; born = refl }) n f.node (is_at w n f.node f.there) f.up (event.Lcp f.frame.session f.frame.frame) None
        (OfItself tt refl) y steps;
  }) x h
  line_does (Tick n milliseconds) x fits h =
      by_itself n event.Tick (later milliseconds (declared (at w.nodes n))) tt
      (λ node e. (at_moment w n node (is_later w n milliseconds node e), later_up milliseconds (at w.nodes n) node e)) x h
  line_does (Crash n) x fits h = by (declared (at w.nodes n)) refl h
    where
      by : (o : Result Node Why) → declared (at w.nodes n) ≡ o → crashed w number n o ≡ Ok x → LineDoes w number x
      by (Err y) is h = absurd (cc)
      by (Ok node) is h =
          let k = any_up (at w.nodes n) node is in
          let e : quiet_line (without_held (with_node w n (fallen (block_of n number) node.end node node.checkpoint)) n) ≡ x = cc in
          subst (LineDoes w number) e (Falls (record { node = n; old = node; was = k.0; up = k.1 }) refl refl refl)
  line_does (Stop n commit call kept) x fits h = by (declared (at w.nodes n)) refl h
    where
      by : (o : Result Node Why) → declared (at w.nodes n) ≡ o → armed w n (record { commit = commit; kept = kept }) o ≡ Ok x → LineDoes w number x
      by (Err y) is h = absurd (cc)
      by (Ok node) is h =
          let k = any_up (at w.nodes n) node is in
          let e : quiet_line (with_node w n (record node { checkpoint = with_stop (Some (record { commit = commit; kept = kept })) node.checkpoint })) ≡ x = cc in
          subst (LineDoes w number) e (Arms (record { node = n; old = node; was = k.0; up = k.1 }) (record { commit = commit; kept = kept }) refl refl refl)
  line_does (Start n) x fits h = by (down_at (at w.nodes n)) refl h
    where
      by : (o : Result Node Why) → down_at (at w.nodes n) ≡ o → started w number n o ≡ Ok x → LineDoes w number x
      by (Err y) is h = absurd (cc)
      by (Ok node) is h =
          let k = is_down_at (at w.nodes n) node is in
          let s = starts node.end.role node.end.config node.checkpoint.book node.clock (block_of n number) in
          committed_line (LineDoes w number x) w number n (opened (block_of n number) node) None s x
          (λ c whole made. Starts (record { node = n; old = node; was = k.0; down = k.1; checkpoint = c; whole = whole; is = sym made }))
          (λ c cut made. Cuts (record {
            node = n;
            old = node;
            was = k.0;
            found = opened (block_of n number) node;
            finds = record { end = refl; checkpoint = refl; births = refl; standings = refl; answers = refl };
            base = w;
            same = same_world w;
            stepped = s;
            of = inr (k.1, refl);
            checkpoint = c;
            cut = cut;
            world = ap (λ (l : Lined). l.world) (sym made);
            done = ap (λ (l : Lined). l.done) (sym made) ∙ cut_done w number n (opened (block_of n number) node) c;
            told = ap (λ (l : Lined). gone_told l.entries) (sym made) ∙ cut_told w number n (opened (block_of n number) node) c;
          })) h

pub lines_do : LinesDo
lines_do w number l x fits h = line_does w number l x fits h
