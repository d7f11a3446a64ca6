-- Each line of a schedule.
use Rattle.std.proofs.Common.{◌≡◌, ⊎_elim, ℕ, ◌+◌, ◌-◌, ◌^◌, ◌<◌, true, false, List, [], refl, sym, ap, ◌∙◌, subst, Option, Some, None, Result, Ok, arith, Bool, ◌∷◌, ◌++◌}
use Rattle.std.proofs.lemmas.Option.{none-some}
use Rattle.std.proofs.lemmas.Bool.{true≢false}
use Rattle.std.specs.Prelude.{is_some, slice_get, ◌==◌, ◌&&◌, if◌then◌else◌}
use mathlib.Core.Path.{fun_ext}
use Rattle.id_table.specs.Ids.{at, put, at-none}
use Rattle.id_table.specs.Order.{at_new, at_other, same_or_not, ascends-empty}
use Rattle.wire_base.specs.declared.why.Why.{Why}
use Rattle.wire_base.specs.declared.why.Why.TheVariants as why
use Rattle.schedule_text.specs.declared.line.Line.{Line}
use Rattle.schedule_text.specs.declared.line.Line.TheVariants.{Remark, Lac, Lns, OpenUp, Close, Ring, Frame, FromSub, Down, Hang, DropCall, Deliver, Load, Hand, Tick, Crash, Stop, Start}
use Rattle.schedule_text.specs.Grammar.{FitsLine}
use Rattle.end_model.specs.Secrets.{uncovered_event}
use Rattle.end_model.specs.declared.event.Event.{Event}
use Rattle.end_model.specs.declared.event.Event.TheVariants as event
use Rattle.world_model.specs.declared.packet.Packet.{Packet}
use Rattle.world_model.specs.declared.refusal.Refusal.TheVariants.{Unfit}
use Rattle.end_names.specs.declared.role.Role.{Role}
use Rattle.end_names.specs.declared.role.Role.TheVariants as role
use Rattle.end_names.specs.Names.{address_of}
use Rattle.end_model.specs.End.{End, plain_step, new_end}
use Rattle.step_laws.specs.Lines.{tested_not, is_lac_at, is_lns_at, is_declared, has_call, has_tunnel, none_there, IsAt, at_moment, is_at, is_later, deliver_line, OfLoad, load_line, IsHeldAt, OfHand, hand_line}
use Rattle.world_model.specs.declared.held.Held.{Held}
use Rattle.world_model.specs.World.{World, Node, Checkpoint, Sender, Deed, Lined, standing_of, birth_of, held_line, taken_up, hand_deed, behind_hand, quiet_line, with_node, after_step, declared, lac_at, lns_at, with_call, with_tunnel, later, config_of, new_node, answer_entries, added, block_of, given, stepped, sender_of, delivers, line}
use Rattle.step_laws.specs.Steps.{AreKept}
use Rattle.frame_laws.specs.Codecs.{Codecs}
use Rattle.end_model.specs.Access.{Access}
use Rattle.world_model.specs.Texts.{Entry, Drops, Frames}
use Rattle.step_laws.specs.Hosts.{LacAt, with_host, entering, reply_to, HostDoes, HostSends, HostLeaves, OfFrame, frame_line}
use Rattle.step_laws.specs.Calm.{IsCalm, WorldIsCalm, at_calm, calm_step}
use Rattle.connection_laws.specs.Accounts.{Account, no_account, after_deed, account_from}
use Rattle.connection_laws.specs.Facts.{Accounts, IsMade, EndOk, PacketOk, Comes, NodeOk, Holds}
use Rattle.connection_laws.proofs.Hearing.{all_at}
use Rattle.connection_laws.proofs.Steps.{afterwards}
use Rattle.connection_laws.proofs.Starts.{is_packet}
use Rattle.connection_laws.proofs.Budget.{GivenBelow}
use Rattle.connection_laws.specs.Steps.{LineDoes, Nothing, ANode, AStep, LineHands, ByItself, BehindHand}
use Rattle.connection_laws.proofs.Worlds.{births_same, added_births, added_standings, Goes, Laws, step_ok, step_does}

-- ---- a node that is new

-- what a line leaves, and what it does
pub record Does (w : World) (accs : Accounts) (most number : ℕ) (l : Lined) : Type 0 where
  pub goes : Goes accs most l.world l.done
  pub does : LineDoes w accs number l

quiet_goes : (w : World) (accs : Accounts) (most : ℕ) → Holds w accs → GivenBelow accs most → Goes accs (most + 16384) w []
unfolding account_from
quiet_goes w accs most holds had = record { holds = holds; given = λ n i. (let le = had n i in omega arith) }

not_made : (a : Account) → a ≡ no_account → IsMade a → ⊥
not_made a none made = made (ap (λ (x : Account). x.part) none)

-- a LAC's LNS is a node
abbrev pub HasLns : Role → ℕ → Type 0
HasLns r lns = r ≡ role.Lac → (m : ℕ) × (m < 256) × (lns ≡ address_of m)

new_ok : (accs : Accounts) (n : ℕ) (r : Role) (lns : ℕ) (secret : Option (List ℕ)) (hide : Bool) → n < 256 → HasLns r lns → ((i : ℕ) → accs n i ≡ no_account)
    → EndOk accs n (new_end r (config_of n lns secret hide)) × AreKept (new_end r (config_of n lns secret hide))
new_ok accs n r lns secret hide lt has none = (
  record {
    node = lt;
    number = refl;
    lns = has;
    first = omega arith;
    last = omega arith;
    first_session = omega arith;
    last_session = omega arith;
    order = ascends-empty [] refl;
    drawn = λ i made. absurd (not_made (accs n i) (none i) made);
    live = λ i t h. absurd (none-some t (sym (at-none i) ∙ h));
    apart = λ i j t u h k a b c. absurd (none-some t (sym (at-none i) ∙ h));
  },
  record {
    tunnels = λ i t h. absurd (none-some t (sym (at-none i) ∙ h));
    order = ascends-empty [] refl;
    places = ascends-empty [] refl;
    sessions = omega arith;
    first = omega arith;
  },
)

module _ (w : World) (accs : Accounts) (number : ℕ) (holds : Holds w accs) (most : ℕ) (had : GivenBelow accs most) where
  more_holds : (n : ℕ) (r : Role) (lns : ℕ) (secret : Option (List ℕ)) (hide : Bool) → n < 256 → HasLns r lns → at w.nodes n ≡ None
      → Holds (with_node w n (new_node number n r lns secret hide)) accs
  more_holds n r lns secret hide lt has none = record {
    accounts = holds.accounts;
    nodes = λ k. ⊎_elim
        (λ (e : k ≡ n).
        subst (λ q. NodeOk accs q (at (put w.nodes n new) q)) (sym e)
        (rw (at_new w.nodes n new) (new_ok accs n r lns secret hide lt has (subst (NodeOk accs n) none (holds.nodes n)))))
        (λ o. rw (at_other w.nodes n new k o) (holds.nodes k))
        (same_or_not k n);
    packets = holds.packets;
    standings = added_standings w n new refl holds.standings;
  }
    where
      new : Node
      new = new_node number n r lns secret hide

  added_ok : (n : ℕ) (r : Role) (lns : ℕ) (secret : Option (List ℕ)) (hide : Bool) → n < 256 → HasLns r lns → (x : Lined)
      → added w number n r lns secret hide ≡ Ok x → Does w accs (most + 16384) number x
  unfolding added
  added_ok n r lns secret hide lt has x h =
      let new : Node = new_node number n r lns secret hide in
      let t = tested_not (is_some (at w.nodes n)) (quiet_line (with_node w n new)) (Unfit why.Twice) x h in
      let none = none_there (at w.nodes n) t.0 in
      subst (Does w accs (most + 16384) number) t.1
      (record { goes = quiet_goes (with_node w n new) accs most (more_holds n r lns secret hide lt has none) had; does = ANode n r lns secret hide lt none refl refl (added_births w n new none refl) })

-- ---- lines

module _ (codecs : Codecs) (laws : Laws) (number : ℕ) (w : World) (accs : Accounts) (holds : Holds w accs) (most : ℕ) (had : GivenBelow accs most)
    (still : WorldIsCalm w) (room : most + 24576 < 2 ^ 64) where
  -- on an event as the node reads it
  timed_ok : (n : ℕ) (ev : Event) (sender : Option Sender) (node : Node) (k : Checkpoint) → IsAt w n node → Comes accs n node.end sender ev
      → Does w accs (most + 16384) number
      (after_step w number n (record node { checkpoint = k }) sender (plain_step node.end node.clock (block_of n number) ev))
  timed_ok n ev sender node k is comes =
      subst
      (λ (q : Node). Does w accs (most + 16384) number
      (after_step w number n (record q { checkpoint = k }) sender (plain_step q.end q.clock (block_of n number) ev))) (sym is.same)
      (let here = subst (λ (q : Node). Comes accs n q.end sender ev) is.same comes in
      record {
        goes = step_ok laws number w accs holds most had room n is.before is.there node.clock node.access k ev sender here node.clock (block_of n number);
        does = AStep (step_does laws number w accs holds most had room n is.before is.there node.clock node.access k ev sender here node.clock (block_of n number));
      })

  stepped_ok : (x : Lined) (n : ℕ) (ev : Event) (sender : Option Sender) (o : Result Node Why)
      → ((node : Node) → o ≡ Ok node → IsAt w n node)
      → ((node : Node) → o ≡ Ok node → Comes accs n node.end sender (uncovered_event node.end.config.secret ev))
      → stepped w number n ev sender o ≡ Ok x → Does w accs (most + 16384) number x
  stepped_ok x n ev sender o is comes h =
      calm_step (Does w accs (most + 16384) number x) w number x n ev sender o (λ node e. at_calm w n node still (is node e))
      (λ node e k committed made.
      subst (Does w accs (most + 16384) number) made
      (timed_ok n (uncovered_event node.end.config.secret ev) sender node k (is node e) (comes node e))) h

  -- no stop is armed at any node
  not_cut : (n : ℕ) (ev : Event) (node : Node) → IsAt w n node → (x : Lined) → stepped w number n ev None (Ok node) ≡ Ok x → x.cut ≡ false
  unfolding after_step given
  not_cut n ev node is x h =
      calm_step (x.cut ≡ false) w number x n ev None (Ok node)
      (λ q e. at_calm w n q still (subst (IsAt w n) (let same : node ≡ q = cc in same) is))
      (λ q e k committed made. sym (ap (λ (y : Lined). y.cut) made)) h

  -- what is delivered is a packet that was sent, and may be
  delivers_ok : (x : Lined) (o : Option Packet) → ((p : Packet) → o ≡ Some p → PacketOk accs p) → delivers w number o ≡ Ok x
      → Does w accs (most + 16384) number x
  delivers_ok x o sent h = deliver_line (Does w accs (most + 16384) number x) w number x (delivers w number o) o
      (λ p node found there up young so leads.
      let ok : EndOk accs p.to node.end × AreKept node.end = subst (NodeOk accs p.to) there (holds.nodes p.to) in
      stepped_ok x p.to (event.Datagram (address_of p.from) p.bytes) (sender_of p.from p.origin) (Ok node)
      (λ q e. (let same : node ≡ q = cc in rw (← same) (is_at w p.to node there)))
      (λ q e. (let same : node ≡ q = cc in
      subst
      (λ (y : Node). Comes accs p.to y.end (sender_of p.from p.origin) (uncovered_event y.end.config.secret (event.Datagram (address_of p.from) p.bytes)))
      same
      (is_packet codecs accs holds.accounts p.to node ok.0 w holds.standings p (sent p found) refl young))) leads)
      refl h

  host_comes : (n : ℕ) (a : Access) (e : End) (bytes : List ℕ) (ev : Event) → HostDoes a e bytes ev → (q : End) (secret : Option (List ℕ))
      → Comes accs n q None (uncovered_event secret ev)
  host_comes n a e bytes ev (HostSends src session start stop is of) q secret = tt
  host_comes n a e bytes ev (HostLeaves src session is of) q secret = tt

  -- more entries change nothing of what a line does
  more_told : (x : Lined) (es : List Entry) → LineDoes w accs number x → LineDoes w accs number (record x { entries = es })
  more_told x es (Nothing none nodes births) = Nothing none nodes births
  more_told x es (ANode n r lns secret hide lt free none nodes births) = ANode n r lns secret hide lt free none nodes births
  more_told x es (AStep s) = AStep (record {
    node = s.node;
    old = s.old;
    was = s.was;
    sender = s.sender;
    moment = s.moment;
    block = s.block;
    ev = s.ev;
    begun = s.begun;
    begins = s.begins;
    declared = s.declared;
    told = s.told;
    told_is = s.told_is;
    births = s.births;
    done = s.done;
    moves = s.moves;
    end = s.end;
    others = s.others;
  })

  -- a frame that an end doesn't see
  only_told : (n : ℕ) (bytes : List ℕ) (l : LacAt w n) (es : List Entry) (x : Lined) → stepped w number n (event.Frame bytes) None (Ok l.node) ≡ Ok x
      → Does w accs (most + 16384) number (record x { entries = es })
  only_told n bytes l es x h =
      let k =
      stepped_ok x n (event.Frame bytes) None (Ok l.node) (λ node e. (let same : l.node ≡ node = cc in rw (← same) (is_at w n l.node l.there)))
      (λ node e. tt) h in
      record { goes = k.goes; does = more_told x es k.does }

  of_frame : (n : ℕ) (bytes : List ℕ) → OfFrame (Does w accs (most + 16384) number) w number n bytes
  of_frame n bytes = record {
    ignored = λ l word is x h u. only_told n bytes l (Drops number n word ∷ []) x h;
    answered = λ l because frame is x h u. only_told n bytes l (answer_entries number n because frame) x h;
    done = λ l ev is does x h.
        stepped_ok x n ev None (Ok l.node) (λ node e. (let same : l.node ≡ node = cc in rw (← same) (is_at w n l.node l.there)))
        (λ node e. host_comes n l.access l.node.end bytes ev does node.end node.end.config.secret) h;
    entered = λ l src uniq asked is x h u.
        let k =
        stepped_ok x n (event.Admitted src) None (Ok (with_host w number n l src uniq))
        (λ node e. (let same : with_host w number n l src uniq ≡ node = cc in entering w number n l src uniq node same)) (λ node e. tt) h in
        record { goes = k.goes; does = more_told x (x.entries ++ Frames number n (reply_to w number n l src asked) ∷ []) k.does };
    cut = λ l ev node is x h c. absurd (true≢false (sym c ∙ not_cut n ev node is x h));
  }

  -- a data packet is loaded
  load_ok : (n : ℕ) (o : Option Packet) → OfLoad (Does w accs (most + 16384) number) w number n o
  unfolding held_line birth_of standing_of
  load_ok n o = record {
    dropped = λ word other. record { goes = quiet_goes w accs most holds had; does = Nothing refl refl (births_same w) };
    held = λ f is. record {
      goes = quiet_goes (held_line w number n f).world accs most
          (record { accounts = holds.accounts; nodes = holds.nodes; packets = holds.packets; standings = holds.standings }) had;
      does = Nothing refl refl (record { count = refl; births = λ k s. refl });
    };
  }

  -- a line that hands up no frame that was held
  abbrev IsNoHand : Line → Type 0
  IsNoHand (Hand n k) = ⊥
  IsNoHand l = Unit {0}

  plain_ok : (x : Lined) (l : Line) → FitsLine l → IsCalm l → IsNoHand l → line w number l ≡ Ok x → Does w accs (most + 16384) number x
  unfolding line
  plain_ok x (Remark text) fits calm alone h =
      let e : quiet_line w ≡ x = cc in subst (Does w accs (most + 16384) number) e (record { goes = quiet_goes w accs most holds had; does = Nothing refl refl (births_same w) })
  plain_ok x (Lac n m secret hide) fits calm alone h =
      added_ok w accs number holds most had n role.Lac (address_of m) secret hide (omega (arith, fits.0.1)) (λ lac. (m, omega (arith, fits.1.1), refl)) x h
  plain_ok x (Lns n secret) fits calm alone h = added_ok w accs number holds most had n role.Lns 0 secret false (omega (arith, fits.0.1)) (λ lac. absurd cc) x h
  plain_ok x (OpenUp n) fits calm alone h =
      stepped_ok x n event.OpenTunnel None (lac_at (at w.nodes n)) (λ node e. is_at w n node ((is_lac_at (at w.nodes n) node e).0)) (λ node e. tt) h
  plain_ok x (Close n i) fits calm alone h =
      stepped_ok x n (event.CloseTunnel i) None (with_tunnel i (declared (at w.nodes n)))
      (λ node e. is_at w n node (is_declared (at w.nodes n) node (has_tunnel i (declared (at w.nodes n)) node e))) (λ node e. tt) h
  plain_ok x (Ring n port) fits calm alone h =
      stepped_ok x n (event.Ring port) None (lac_at (at w.nodes n)) (λ node e. is_at w n node ((is_lac_at (at w.nodes n) node e).0)) (λ node e. tt) h
  plain_ok x (Frame n bytes) fits calm alone h = frame_line (Does w accs (most + 16384) number) w number n bytes (of_frame n bytes) x h
  plain_ok x (FromSub n session frame) fits calm alone h =
      stepped_ok x n (event.Payload session frame) None (with_call session (lac_at (at w.nodes n)))
      (λ node e. is_at w n node ((is_lac_at (at w.nodes n) node (has_call session (lac_at (at w.nodes n)) node e)).0)) (λ node e. tt) h
  plain_ok x (Down n session frame) fits calm alone h =
      stepped_ok x n (event.Lower session frame) None (with_call session (lns_at (at w.nodes n)))
      (λ node e. is_at w n node ((is_lns_at (at w.nodes n) node (has_call session (lns_at (at w.nodes n)) node e)).0)) (λ node e. tt) h
  plain_ok x (Hang n session) fits calm alone h =
      stepped_ok x n (event.Hang session) None (with_call session (lac_at (at w.nodes n)))
      (λ node e. is_at w n node ((is_lac_at (at w.nodes n) node (has_call session (lac_at (at w.nodes n)) node e)).0)) (λ node e. tt) h
  plain_ok x (DropCall n session) fits calm alone h =
      stepped_ok x n (event.DropCall session) None (with_call session (declared (at w.nodes n)))
      (λ node e. is_at w n node (is_declared (at w.nodes n) node (has_call session (declared (at w.nodes n)) node e))) (λ node e. tt) h
  plain_ok x (Deliver k) fits calm alone h =
      delivers_ok x (slice_get w.packets (k - 1)) (λ p e. all_at (PacketOk accs) w.packets (k - 1) p e holds.packets) h
  plain_ok x (Load n k) fits calm alone h =
      load_line (Does w accs (most + 16384) number) w number n (slice_get w.packets (k - 1)) (load_ok n (slice_get w.packets (k - 1))) x h
  plain_ok x (Hand n k) fits calm alone h = absurd alone
  plain_ok x (Tick n milliseconds) fits calm alone h =
      stepped_ok x n event.Tick None (later milliseconds (declared (at w.nodes n))) (λ node e. at_moment w n node (is_later w n milliseconds node e))
      (λ node e. tt) h
  plain_ok x (Crash n) fits calm alone h = absurd calm
  plain_ok x (Stop n commit call kept) fits calm alone h = absurd calm
  plain_ok x (Start n) fits calm alone h = absurd calm

-- ---- frames that are handed up

-- the deed of one changes no account
pub hand_keeps : (line n : ℕ) (r : Role) (f : Held) (m i : ℕ) (a : Account) → after_deed (hand_deed line n r f) m i a ≡ a
hand_keeps line n r f m i a = by (n == m && f.tunnel == i)
  where
    by : (b : Bool) → (if b then a else a) ≡ a
    by true = refl
    by false = refl

pub behind_accounts : (accs : Accounts) (line n : ℕ) (r : Role) (f : Held) (ds : List Deed) → afterwards accs (hand_deed line n r f ∷ ds) ≡ afterwards accs ds
unfolding account_from
behind_accounts accs line n r f ds = fun_ext (λ m. fun_ext (λ i. ap (account_from ds m i) (hand_keeps line n r f m i (accs m i))))

-- what a line leaves, and what it does, with the frame that it hands up
pub record Hands (w : World) (accs : Accounts) (most number : ℕ) (l : Lined) : Type 0 where
  pub goes : Goes accs most l.world l.done
  pub does : LineHands w accs number l

-- what is done in a world is done in that which still holds a frame
does_before : (w : World) (n held : ℕ) (accs : Accounts) (number : ℕ) (y : Lined) → LineDoes (taken_up w n held) accs number y → LineDoes w accs number y
unfolding birth_of
does_before w n held accs number y (Nothing none nodes births) = Nothing none nodes (record { count = births.count; births = births.births })
does_before w n held accs number y (ANode k role lns secret hide lt free none nodes births) =
    ANode k role lns secret hide lt free none nodes (record { count = births.count; births = births.births })
does_before w n held accs number y (AStep s) = AStep (record {
  node = s.node;
  old = s.old;
  was = s.was;
  sender = s.sender;
  moment = s.moment;
  block = s.block;
  ev = s.ev;
  begun = s.begun;
  begins = record { count = s.begins.count; births = s.begins.births };
  declared = s.declared;
  told = s.told;
  told_is = s.told_is;
  births = s.births;
  done = s.done;
  moves = s.moves;
  end = s.end;
  others = s.others;
})

module _ (codecs : Codecs) (laws : Laws) (number : ℕ) (w : World) (accs : Accounts) (holds : Holds w accs) (most : ℕ) (had : GivenBelow accs most)
    (still : WorldIsCalm w) (room : most + 24576 < 2 ^ 64) where
  plainly : (x : Lined) → Does w accs (most + 16384) number x → Hands w accs (most + 16384) number x
  plainly x d = record { goes = d.goes; does = ByItself d.does }

  behind : (n : ℕ) (r : Role) (f : Held) (held : ℕ) (y : Lined) → Does (taken_up w n held) accs (most + 16384) number y
      → Hands w accs (most + 16384) number (behind_hand number n r f y)
  behind n r f held y d =
      let same : afterwards accs y.done ≡ afterwards accs (hand_deed number n r f ∷ y.done) = sym (behind_accounts accs number n r f y.done) in
      record {
        goes = record {
          holds = subst (λ (a : Accounts). Holds y.world a) same d.goes.holds;
          given = subst (λ (a : Accounts). GivenBelow a (most + 16384)) same d.goes.given;
        };
        does = BehindHand y n r f refl (does_before w n held accs number y d.does);
      }

  taken_holds : (n held : ℕ) → Holds (taken_up w n held) accs
  unfolding standing_of
  taken_holds n held = record { accounts = holds.accounts; nodes = holds.nodes; packets = holds.packets; standings = holds.standings }

  heard_ok : (n held : ℕ) (k : IsHeldAt w n held) (y : Lined) → stepped (taken_up w n held) number n (event.Lcp k.frame.session k.frame.frame) None (Ok k.node) ≡ Ok y
      → Does (taken_up w n held) accs (most + 16384) number y
  heard_ok n held k y h =
      stepped_ok codecs laws number (taken_up w n held) accs (taken_holds n held) most had still room y n (event.Lcp k.frame.session k.frame.frame) None (Ok k.node)
      (λ q e. (let same : k.node ≡ q = cc in subst (IsAt (taken_up w n held) n) same (is_at (taken_up w n held) n k.node k.there))) (λ q e. tt) h

  hand_ok : (n held : ℕ) → OfHand (Hands w accs (most + 16384) number) w number n held
  hand_ok n held = record {
    passed = λ k other. behind n k.node.end.role k.frame held (quiet_line (taken_up w n held))
        (record { goes = quiet_goes (taken_up w n held) accs most (taken_holds n held) had; does = Nothing refl refl (births_same (taken_up w n held)) });
    heard = λ k y lcp steps whole. behind n k.node.end.role k.frame held y (heard_ok n held k y steps);
    cut = λ k y lcp steps off.
        (let d = heard_ok n held k y steps in record { goes = d.goes; does = ByItself (does_before w n held accs number y d.does) });
  }

  pub line_ok : (x : Lined) (l : Line) → FitsLine l → IsCalm l → line w number l ≡ Ok x → Hands w accs (most + 16384) number x
  unfolding line
  line_ok x (Hand n k) fits calm h = hand_line (Hands w accs (most + 16384) number) w number n k (hand_ok n k) x h
  line_ok x l fits calm h = plainly x (plain_ok codecs laws number w accs holds most had still room x l fits calm tt h)
