-- What a line does: nothing, or a node is declared, or a node makes a step.
use Rattle.std.proofs.Common.{◌≡◌, ℕ, ◌-◌, false, List, [], refl, sym, ap, ◌∙◌, subst, Option, Some, None, Result, Ok, Bool, ◌∷◌, ◌++◌}
use Rattle.std.proofs.lemmas.Bool.{true≢false}
use Rattle.std.specs.Prelude.{is_some, slice_get}
use Rattle.id_table.specs.Ids.{at}
use Rattle.wire_base.specs.declared.why.Why.{Why}
use Rattle.wire_base.specs.declared.why.Why.TheVariants as why
use Rattle.schedule_text.specs.declared.line.Line.{Line}
use Rattle.schedule_text.specs.declared.line.Line.TheVariants.{Remark, Lac, Lns, OpenUp, Close, Ring, Frame, FromSub, Down, Hang, DropCall, Deliver, Load, Hand, Tick, Crash, Stop, Start}
use Rattle.end_model.specs.declared.event.Event.{Event}
use Rattle.end_model.specs.declared.event.Event.TheVariants as event
use Rattle.world_model.specs.declared.packet.Packet.{Packet}
use Rattle.world_model.specs.declared.refusal.Refusal.TheVariants.{Unfit}
use Rattle.end_names.specs.declared.role.Role.{Role}
use Rattle.end_names.specs.declared.role.Role.TheVariants as role
use Rattle.end_names.specs.Names.{address_of}
use Rattle.end_model.specs.Secrets.{uncovered_datagram, uncovered_event}
use Rattle.end_model.specs.End.{step}
use Rattle.end_model.specs.Access.{Access}
use Rattle.world_model.specs.Texts.{Entry, Drops, Frames}
use Rattle.step_laws.specs.Hosts.{LacAt, with_host, entering, reply_to, OfFrame, frame_line}
use Rattle.step_laws.specs.Lines.{tested_not, is_lac_at, is_lns_at, is_declared, has_call, has_tunnel, none_there, IsAt, at_moment, is_at, is_later, deliver_line, OfLoad, load_line, IsHeldAt, OfHand, hand_line}
use Rattle.step_laws.specs.Calm.{IsCalm, NodeIsCalm, WorldIsCalm, at_calm, calm_step}
use Rattle.world_model.specs.declared.held.Held.{Held}
use Rattle.world_model.specs.World.{World, Node, Checkpoint, Sender, Lined, held_line, taken_up, behind_hand, quiet_line, with_node, after_step, declared, lac_at, lns_at, with_call, with_tunnel, later, new_node, answer_entries, added, block_of, given, stepped, sender_of, delivers, line}

-- ---- what a line does

-- what comes in a step was sent, or nothing comes of a tunnel
pub data IsFrom (w : World) (sender : Option Sender) (ev : Event) : Type 0 where
  OfNobody : sender ≡ None → IsFrom w sender ev
  OfPacket : (k : ℕ) (p : Packet) → slice_get w.packets k ≡ Some p → sender ≡ sender_of p.from p.origin → (bytes : List ℕ)
      → ev ≡ event.Datagram (address_of p.from) bytes → IsFrom w sender ev

-- what is hidden in it says nothing of who sent it
pub uncovered_from : (w : World) (sender : Option Sender) (ev : Event) (secret : Option (List ℕ)) → IsFrom w sender ev
    → IsFrom w sender (uncovered_event secret ev)
uncovered_from w sender ev secret (OfNobody none) = OfNobody none
uncovered_from w sender ev secret (OfPacket k p there sent bytes is) =
    OfPacket k p there sent (uncovered_datagram secret bytes) (ap (uncovered_event secret) is)

-- a step of a node, at the clock's moment
abbrev pub step_of : World → ℕ → ℕ → Node → Event → Option Sender → Lined
step_of w number n node ev sender = after_step w number n node sender (step node.end node.clock (block_of n number) ev)

-- a line without a step, and its entries
abbrev pub told_line : World → List Entry → Lined
told_line w es = record (quiet_line w) { entries = es }

pub data LineDoes (w : World) (number : ℕ) (x : Lined) : Type 0 where
  Nothing : (es : List Entry) → x ≡ told_line w es → LineDoes w number x
  Declares : (n : ℕ) (r : Role) (lns : ℕ) (secret : Option (List ℕ)) (hide : Bool) → at w.nodes n ≡ None
      → (es : List Entry) → x ≡ told_line (with_node w n (new_node number n r lns secret hide)) es → LineDoes w number x
  Steps : (n : ℕ) (old : Node) (clock : ℕ) (access : Option Access) (checkpoint : Checkpoint) (ev : Event) (sender : Option Sender) (es : List Entry)
      → at w.nodes n ≡ Some old → IsFrom w sender ev
      → x ≡ record (step_of w number n (record old { clock = clock; access = access; checkpoint = checkpoint }) ev sender) { entries = es } → LineDoes w number x

-- that alone; or a frame is held, which changes no node; or a frame that a node held is handed up before that
pub data LineIs (w : World) (number : ℕ) (x : Lined) : Type 0 where
  ByItself : LineDoes w number x → LineIs w number x
  Holds : x.done ≡ [] → x.world.nodes ≡ w.nodes → LineIs w number x
  BehindHand : (y : Lined) (n held : ℕ) (r : Role) (f : Held) → x ≡ behind_hand number n r f y → LineDoes (taken_up w n held) number y → LineIs w number x

-- ---- lines

-- more entries change nothing of what a line does
more_told : (w : World) (number : ℕ) (x : Lined) (es : List Entry) → LineDoes w number x → LineDoes w number (record x { entries = es })
more_told w number x es (Nothing fs e) = Nothing es (ap (λ (y : Lined). record y { entries = es }) e)
more_told w number x es (Declares n r lns secret hide none fs e) = Declares n r lns secret hide none es (ap (λ (y : Lined). record y { entries = es }) e)
more_told w number x es (Steps n old clock access checkpoint ev sender fs there from e) =
    Steps n old clock access checkpoint ev sender es there from (ap (λ (y : Lined). record y { entries = es }) e)

module _ (w : World) (calm : WorldIsCalm w) (number : ℕ) (x : Lined) where
  added_does : (n : ℕ) (r : Role) (lns : ℕ) (secret : Option (List ℕ)) (hide : Bool) → added w number n r lns secret hide ≡ Ok x → LineDoes w number x
  unfolding added
  added_does n r lns secret hide h =
      let t = tested_not (is_some (at w.nodes n)) (quiet_line (with_node w n (new_node number n r lns secret hide))) (Unfit why.Twice) x h in
      Declares n r lns secret hide (none_there (at w.nodes n) t.0) [] (sym t.1)

  stepped_does : (n : ℕ) (ev : Event) (sender : Option Sender) (o : Result Node Why) → ((node : Node) → o ≡ Ok node → IsAt w n node)
      → IsFrom w sender ev → stepped w number n ev sender o ≡ Ok x → LineDoes w number x
  stepped_does n ev sender o is from h =
      calm_step (LineDoes w number x) w number x n ev sender o (λ node e. at_calm w n node calm (is node e))
      (λ node e k whole made.
      let was = is node e in
      Steps n was.before node.clock node.access k ev sender x.entries was.there from
      (ap (λ (y : Lined). record y { entries = x.entries })
      (sym made ∙ ap (λ (q : Node). step_of w number n (record q { checkpoint = k }) ev sender) was.same))) h

-- an Ethernet frame
module _ (w : World) (calm : WorldIsCalm w) (number : ℕ) where
  -- a frame that an end doesn't see
  only_told : (n : ℕ) (bytes : List ℕ) (l : LacAt w n) (es : List Entry) (x : Lined) → stepped w number n (event.Frame bytes) None (Ok l.node) ≡ Ok x
      → LineDoes w number (record x { entries = es })
  only_told n bytes l es x h =
      more_told w number x es
      (stepped_does w calm number x n (event.Frame bytes) None (Ok l.node) (λ node e. (let same : l.node ≡ node = cc in rw (← same) (is_at w n l.node l.there)))
      (OfNobody refl) h)

  of_frame : (n : ℕ) (bytes : List ℕ) → OfFrame (LineDoes w number) w number n bytes
  of_frame n bytes = record {
    ignored = λ l word is x h u. only_told n bytes l (Drops number n word ∷ []) x h;
    answered = λ l because frame is x h u. only_told n bytes l (answer_entries number n because frame) x h;
    done = λ l ev is does x h.
        stepped_does w calm number x n ev None (Ok l.node) (λ node e. (let same : l.node ≡ node = cc in rw (← same) (is_at w n l.node l.there))) (OfNobody refl) h;
    entered = λ l src uniq asked is x h u.
        more_told w number x (x.entries ++ Frames number n (reply_to w number n l src asked) ∷ [])
        (stepped_does w calm number x n (event.Admitted src) None (Ok (with_host w number n l src uniq))
        (λ node e. (let same : with_host w number n l src uniq ≡ node = cc in entering w number n l src uniq node same)) (OfNobody refl) h);
    cut = λ l ev node is x h off.
        stepped_does w calm number x n ev None (Ok node) (λ q e. (let same : node ≡ q = cc in subst (IsAt w n) same is)) (OfNobody refl) h;
  }

module _ (w : World) (calm : WorldIsCalm w) (number : ℕ) (x : Lined) where
  delivers_does : (k : ℕ) (o : Option Packet) → slice_get w.packets k ≡ o → delivers w number o ≡ Ok x → LineDoes w number x
  delivers_does k o sent h = deliver_line (LineDoes w number x) w number x (delivers w number o) o
      (λ p node found there up young so leads.
      stepped_does w calm number x p.to (event.Datagram (address_of p.from) p.bytes) (sender_of p.from p.origin) (Ok node)
      (λ q e. (let same : node ≡ q = cc in rw (← same) (is_at w p.to node there)))
      (OfPacket k p (sent ∙ found) refl p.bytes refl) leads)
      refl h

  -- a line that doesn't carry a data packet in two steps
  abbrev IsPlain : Line → Type 0
  IsPlain (Load n k) = ⊥
  IsPlain (Hand n k) = ⊥
  IsPlain l = Unit {0}

  line_does : (l : Line) → IsCalm l → IsPlain l → line w number l ≡ Ok x → LineDoes w number x
  unfolding line
  line_does (Remark text) is plain h = let e : quiet_line w ≡ x = cc in Nothing [] (sym e)
  line_does (Lac n m secret hide) is plain h = added_does w calm number x n role.Lac (address_of m) secret hide h
  line_does (Lns n secret) is plain h = added_does w calm number x n role.Lns 0 secret false h
  line_does (OpenUp n) is plain h =
      stepped_does w calm number x n event.OpenTunnel None (lac_at (at w.nodes n)) (λ node e. is_at w n node ((is_lac_at (at w.nodes n) node e).0)) (OfNobody refl) h
  line_does (Close n i) is plain h =
      stepped_does w calm number x n (event.CloseTunnel i) None (with_tunnel i (declared (at w.nodes n)))
      (λ node e. is_at w n node (is_declared (at w.nodes n) node (has_tunnel i (declared (at w.nodes n)) node e))) (OfNobody refl) h
  line_does (Ring n port) is plain h =
      stepped_does w calm number x n (event.Ring port) None (lac_at (at w.nodes n)) (λ node e. is_at w n node ((is_lac_at (at w.nodes n) node e).0)) (OfNobody refl) h
  line_does (Frame n bytes) is plain h = frame_line (LineDoes w number) w number n bytes (of_frame w calm number n bytes) x h
  line_does (FromSub n session frame) is plain h =
      stepped_does w calm number x n (event.Payload session frame) None (with_call session (lac_at (at w.nodes n)))
      (λ node e. is_at w n node ((is_lac_at (at w.nodes n) node (has_call session (lac_at (at w.nodes n)) node e)).0)) (OfNobody refl) h
  line_does (Down n session frame) is plain h =
      stepped_does w calm number x n (event.Lower session frame) None (with_call session (lns_at (at w.nodes n)))
      (λ node e. is_at w n node ((is_lns_at (at w.nodes n) node (has_call session (lns_at (at w.nodes n)) node e)).0)) (OfNobody refl) h
  line_does (Hang n session) is plain h =
      stepped_does w calm number x n (event.Hang session) None (with_call session (lac_at (at w.nodes n)))
      (λ node e. is_at w n node ((is_lac_at (at w.nodes n) node (has_call session (lac_at (at w.nodes n)) node e)).0)) (OfNobody refl) h
  line_does (DropCall n session) is plain h =
      stepped_does w calm number x n (event.DropCall session) None (with_call session (declared (at w.nodes n)))
      (λ node e. is_at w n node (is_declared (at w.nodes n) node (has_call session (declared (at w.nodes n)) node e))) (OfNobody refl) h
  line_does (Deliver k) is plain h = delivers_does (k - 1) (slice_get w.packets (k - 1)) refl h
  line_does (Load n k) is plain h = absurd plain
  line_does (Hand n k) is plain h = absurd plain
  line_does (Tick n milliseconds) is plain h =
      stepped_does w calm number x n event.Tick None (later milliseconds (declared (at w.nodes n)))
      (λ node e. at_moment w n node (is_later w n milliseconds node e)) (OfNobody refl) h
  line_does (Crash n) is plain h = absurd is
  line_does (Stop n commit call kept) is plain h = absurd is
  line_does (Start n) is plain h = absurd is

module _ (w : World) (calm : WorldIsCalm w) (number : ℕ) where
  load_is : (n : ℕ) (o : Option Packet) → OfLoad (LineIs w number) w number n o
  unfolding held_line
  load_is n o = record { dropped = λ word other. ByItself (Nothing (Drops number n word ∷ []) refl); held = λ f is. Holds refl refl }

  module _ (n held : ℕ) (k : IsHeldAt w n held) (y : Lined)
      (steps : stepped (taken_up w n held) number n (event.Lcp k.frame.session k.frame.frame) None (Ok k.node) ≡ Ok y) where
    heard_does : LineDoes (taken_up w n held) number y
    heard_does =
        stepped_does (taken_up w n held) calm number y n (event.Lcp k.frame.session k.frame.frame) None (Ok k.node)
        (λ q e. (let same : k.node ≡ q = cc in rw (← same) (is_at (taken_up w n held) n k.node k.there))) (OfNobody refl) steps

    not_cut : y.cut ≡ false
    unfolding after_step given
    not_cut =
        calm_step (y.cut ≡ false) (taken_up w n held) number y n (event.Lcp k.frame.session k.frame.frame) None (Ok k.node)
        (λ q e. (let same : k.node ≡ q = cc in subst NodeIsCalm same (calm n k.node k.there)))
        (λ q e c whole made. sym (ap (λ (z : Lined). z.cut) made)) steps

  hand_is : (n held : ℕ) → OfHand (LineIs w number) w number n held
  hand_is n held = record {
    passed = λ k other. BehindHand (quiet_line (taken_up w n held)) n held k.node.end.role k.frame refl (Nothing [] refl);
    heard = λ k y lcp steps whole. BehindHand y n held k.node.end.role k.frame refl (heard_does n held k y steps);
    cut = λ k y lcp steps off. absurd (true≢false (sym off ∙ not_cut n held k y steps));
  }

  pub line_is : (x : Lined) (l : Line) → IsCalm l → line w number l ≡ Ok x → LineIs w number x
  unfolding line
  line_is x (Load n k) is h = load_line (LineIs w number) w number n (slice_get w.packets (k - 1)) (load_is n (slice_get w.packets (k - 1))) x h
  line_is x (Hand n k) is h = hand_line (LineIs w number) w number n k (hand_is n k) x h
  line_is x l is h = ByItself (line_does w calm number x l is tt h)
