-- What a line makes is of a step of one node, which the line brings.
use Rattle.std.proofs.Common.{◌≤◌, length, ◌≡◌, inl, inr, ℕ, ◌-◌, List, [], ◌∷◌, refl, subst, Option, Some, None, Result, Ok, Err, Bool, true, false, ◌++◌, ap, sym, ◌∙◌}
use Rattle.std.specs.Prelude.{is_some, if◌then◌else◌, slice_get}
use Rattle.std.specs.List.{AllByRecursion}
use Rattle.id_table.specs.Ids.{at}
use Rattle.id_source.specs.Spaces.{takes_id}
use Rattle.id_source.specs.declared.IdError.{IdError}
use Rattle.pppoe_discovery.specs.declared.outcome.Discovered.{Discovered}
use Rattle.wire_base.specs.declared.why.Why.{Why}
use Rattle.wire_base.specs.declared.letter.Side.TheVariants as side
use Rattle.wire_base.specs.declared.why.Why.TheVariants as why
use Rattle.schedule_text.specs.declared.line.Line.{Line}
use Rattle.schedule_text.specs.declared.line.Line.TheVariants.{Remark, Lac, Lns, OpenUp, Close, Ring, Frame, FromSub, Down, Hang, DropCall, Deliver, Load, Hand, Tick, Crash, Stop, Start}
use Rattle.end_model.specs.declared.event.Event.{Event}
use Rattle.end_model.specs.declared.event.Event.TheVariants as event
use Rattle.end_model.specs.declared.out.Out.{Out}
use Rattle.end_model.specs.declared.out.Out.TheVariants.{Send, Up, Gone, Drop, Cause}
use Rattle.world_model.specs.declared.refusal.Refusal.TheVariants.{Unfit}
use Rattle.end_names.specs.declared.role.Role.{Role}
use Rattle.end_model.specs.declared.tunnel.Config.{Config}
use Rattle.end_names.specs.declared.role.Role.TheVariants as role
use Rattle.end_names.specs.Names.{address_of, mac_of, host_name}
use Rattle.end_model.specs.Secrets.{uncovered_event}
use Rattle.end_model.specs.End.{End, Stepped, step}
use Rattle.step_laws.specs.Lines.{tested_not, is_lac_at, is_lns_at, is_declared, has_call, has_tunnel, is_put_on, committed_line, step_line, deliver_line, load_line, IsHeldAt, hand_line}
use Rattle.world_model.specs.World.{World, Node, Checkpoint, Sender, Lined, quiet_line, with_node, after_step, given, entries_of, entry_of, shown, moved_all, with_stop, fallen, without_held, held_line, taken_up, cut_line, declared, lac_at, lns_at, down_at, with_call, with_tunnel, later, new_node, answer_entries, added, block_of, stepped, sender_of, crashed, armed, opened, started, line}
use Rattle.world_model.specs.declared.stop.StopAt.{StopAt}
use Rattle.session_book.specs.Books.{Kept}
use Rattle.end_model.specs.Starting.{starts}
use Rattle.book_laws.specs.Starts.{IsSentOrGone, StartsSendOnly}
use Rattle.step_laws.specs.Letters.{Among}
use Rattle.step_laws.specs.Room.{StepsRefuseTruly}
use Rattle.step_laws.specs.Answers.{causes_of}
use Rattle.step_laws.specs.Rings.{IsRingCause, ForTunnels, ForCalls, ForRoom, ForIds, ForRecovery, RingComes, ToCall, ToCause, RingsCome}
use Rattle.step_laws.specs.Causes.{CausesStand}
use Rattle.end_model.specs.Access.{coming, Ignores, Answers, Enters, live_in, ring_cause, refusal_in, pads_for, pads_of}
use Rattle.pppoe_discovery.specs.Told.{pads_to}
use Rattle.std.proofs.lemmas.Bool.{true≢false}
use Rattle.wire_base.specs.declared.cause.Cause.{Cause as BecauseOf}
use Rattle.world_model.specs.Texts.{Frames}
use Rattle.step_laws.specs.Hosts.{LacAt, with_host, reply_to, OfFrame, frame_line, never_full, discovery_refuses}
use Rattle.cause_laws.proofs.Held.{AreApart}
use Rattle.cause_laws.proofs.Nodes.{EndsAreKept, AreGood, lac_apart, was_whole}
use Rattle.cause_laws.proofs.Refusals.{refused_padr}
use Rattle.cause_laws.proofs.Coming.{Offers, Declines, IsAnswer, AsDiscovery, AsBefore, answered_so, entered_so, host_brings, padr_brings}
use Rattle.cause_laws.specs.Hosts.{AnswersEntry, WithSession, WithCause}
use Rattle.cause_laws.specs.Causes.{Brings, CauseStandsIn, AtTheEnd, InDiscovery, moment_of, IsFullAt, IsNoStart, FrameIsTrue, OfPadi, OfRefusal, OfLiveCall, OfEntry, IsTrue, TellsTruly}

-- ---- the outputs of a step, and the entries that they make

-- what an output says in a line
abbrev OutIsTrue : World → Line → ℕ → Out → Type 0
OutIsTrue w l n (Cause c) = CauseStandsIn w l n c
OutIsTrue w l n (Drop x) = (x ≡ why.Queue → IsFullAt w l n) × IsNoStart l
OutIsTrue w l n (Send peer bytes origin) = Unit {0}
OutIsTrue w l n (Up session side frame) = IsNoStart l
OutIsTrue w l n (Gone session) = Unit {0}

entry_true : (w v : World) (l : Line) (number n : ℕ) (o : Out) → OutIsTrue w l n o → IsTrue w number l (entry_of number n v o)
unfolding entry_of
entry_true w v l number n (Cause c) h = (refl, h)
entry_true w v l number n (Drop x) h = (refl, h.0, h.1)
entry_true w v l number n (Send peer bytes origin) h = refl
entry_true w v l number n (Up session side frame) h = (refl, h)
entry_true w v l number n (Gone session) h = refl

entries_true : (w v : World) (l : Line) (number n : ℕ) (os : List Out) → ((o : Out) → Among o os → OutIsTrue w l n o)
    → AllByRecursion (IsTrue w number l) (entries_of number n os v)
unfolding entries_of
entries_true w v l number n [] h = tt
entries_true w v l number n (o ∷ os) h =
    (entry_true w v l number n o (h o (inl refl)), entries_true w (shown n v o) l number n os (λ q a. h q (inr a)))

all_both : {X : Type 0} (P : X → Type 0) (xs ys : List X) → AllByRecursion P xs → AllByRecursion P ys → AllByRecursion P (xs ++ ys)
all_both P [] ys one two = two
all_both P (x ∷ xs) ys one two = (one.0, all_both P xs ys one.1 two)

-- what a start gives is sent, or tells of calls that went
module _ (w : World) (l : Line) (n : ℕ) where
  start_out : (o : Out) → IsSentOrGone o → OutIsTrue w l n o
  start_out (Send peer bytes origin) so = tt
  start_out (Gone session) so = tt
  start_out (Cause c) so = absurd so
  start_out (Drop x) so = absurd so
  start_out (Up session side frame) so = absurd so

  all_told : (v : World) (number : ℕ) (os : List Out) → AllByRecursion IsSentOrGone os → AllByRecursion (IsTrue w number l) (entries_of number n os v)
  unfolding entries_of
  all_told v number [] h = tt
  all_told v number (o ∷ os) h = (entry_true w v l number n o (start_out o h.0), all_told (shown n v o) number os h.1)

-- a start brings nothing
brings_no_start : (w : World) (l : Line) (n : ℕ) (ev : Event) → Brings w l n ev → IsNoStart l
brings_no_start w (Start m) n ev h = absurd h
brings_no_start w (Remark text) n ev h = tt
brings_no_start w (Lac m lns secret hide) n ev h = tt
brings_no_start w (Lns m secret) n ev h = tt
brings_no_start w (OpenUp m) n ev h = tt
brings_no_start w (Close m i) n ev h = tt
brings_no_start w (Ring m port) n ev h = tt
brings_no_start w (Frame m bytes) n ev h = tt
brings_no_start w (FromSub m session frame) n ev h = tt
brings_no_start w (Down m session frame) n ev h = tt
brings_no_start w (Hang m session) n ev h = tt
brings_no_start w (DropCall m session) n ev h = tt
brings_no_start w (Deliver k) n ev h = tt
brings_no_start w (Load m k) n ev h = tt
brings_no_start w (Hand m k) n ev h = tt
brings_no_start w (Tick m milliseconds) n ev h = tt
brings_no_start w (Crash m) n ev h = tt
brings_no_start w (Stop m commit call kept) n ev h = tt

-- ---- a line

module _ (causes : CausesStand) (room : StepsRefuseTruly) (quiet : StartsSendOnly) (w : World) (kept : EndsAreKept w) (number : ℕ) (l : Line) (x : Lined) where
  abbrev Told : Type 0
  Told = AllByRecursion (IsTrue w number l) x.entries

  -- a step that the line brings, of a node at the moment of the line, in a world whose nodes are these
  of_step_in : (u : World) (n : ℕ) (old node : Node) (ev : Event) (sender : Option Sender) → at w.nodes n ≡ Some old → node.end ≡ old.end
      → node.clock ≡ moment_of l old → Brings w l n ev
      → after_step u number n node sender (step node.end node.clock (block_of n number) ev) ≡ x → Told
  unfolding after_step given
  of_step_in u n old node ev sender was same clock brings is =
      let s = step node.end node.clock (block_of n number) ev in
      let alike : s ≡ step old.end (moment_of l old) (block_of n number) ev = rw (same, clock) refl in
      let v = moved_all n s.moves (with_node u n (record node { end = s.end })) in
      subst (λ (q : Lined). AllByRecursion (IsTrue w number l) q.entries) is (entries_true w v l number n s.outputs (λ o a.
      by o (subst (λ q. Among o q.outputs) alike a)))
    where
      by : (o : Out) → Among o (step old.end (moment_of l old) (block_of n number) ev).outputs → OutIsTrue w l n o
      by (Cause c) a = AtTheEnd (record {
        node = old;
        is = was;
        event = ev;
        brings = brings;
        stands = causes old.end (kept n old was) (moment_of l old) (block_of n number) (uncovered_event old.end.config.secret ev) c a;
      })
      by (Drop x) a = (
        λ queue. record {
          node = old;
          is = was;
          event = ev;
          brings = brings;
          full = room old.end (kept n old was) (moment_of l old) (block_of n number) (uncovered_event old.end.config.secret ev)
              (subst (λ q. Among (Drop q) (step old.end (moment_of l old) (block_of n number) ev).outputs) queue a);
        },
        brings_no_start w l n ev brings,
      )
      by (Send peer bytes origin) a = tt
      by (Up session side frame) a = brings_no_start w l n ev brings
      by (Gone session) a = tt

  of_step : (n : ℕ) (old node : Node) (ev : Event) (sender : Option Sender) → at w.nodes n ≡ Some old → node.end ≡ old.end
      → node.clock ≡ moment_of l old → Brings w l n ev
      → after_step w number n node sender (step node.end node.clock (block_of n number) ev) ≡ x → Told
  of_step = of_step_in w

  -- a step that was cut off tells just that
  cut_told_in : (u : World) (n : ℕ) (node : Node) (k : Checkpoint) → cut_line u number n node k ≡ x → Told
  unfolding cut_line
  cut_told_in u n node k is = subst (λ (q : Lined). AllByRecursion (IsTrue w number l) q.entries) is (refl, tt)

  cut_told : (n : ℕ) (node : Node) (k : Checkpoint) → cut_line w number n node k ≡ x → Told
  cut_told = cut_told_in w

  -- a step on a frame that the node held
  heard_true : (u : World) (n : ℕ) (node : Node) (ev : Event) → at w.nodes n ≡ Some node → node.clock ≡ moment_of l node → Brings w l n ev
      → stepped u number n ev None (Ok node) ≡ Ok x → Told
  heard_true u n node ev there clock brings h =
      step_line Told u number x n ev None (Ok node)
      (λ q e k whole is. (let same : node ≡ q = cc in
      of_step_in u n q (record q { checkpoint = k }) ev None (subst (λ (z : Node). at w.nodes n ≡ Some z) same there) refl
      (subst (λ (z : Node). z.clock ≡ moment_of l z) same clock) brings is))
      (λ q e k cut is. cut_told_in u n q k is)
      h

  -- a step of a node that is there
  stepped_true : (n : ℕ) (ev : Event) (sender : Option Sender) (o : Result Node Why) → ((node : Node) → o ≡ Ok node → at w.nodes n ≡ Some node)
      → ((node : Node) → node.clock ≡ moment_of l node) → Brings w l n ev → stepped w number n ev sender o ≡ Ok x → Told
  stepped_true n ev sender o there clock brings h =
      step_line Told w number x n ev sender o
      (λ node e k whole is. of_step n node (record node { checkpoint = k }) ev sender (there node e) refl (clock node) brings is)
      (λ node e k cut is. cut_told n node k is)
      h

  -- a step of a node whose hosts change with it
  entered_true : (n : ℕ) (ev : Event) (old node : Node) → at w.nodes n ≡ Some old → node.end ≡ old.end → node.clock ≡ moment_of l old → Brings w l n ev
      → stepped w number n ev None (Ok node) ≡ Ok x → Told
  entered_true n ev old node was same clock brings h =
      step_line Told w number x n ev None (Ok node)
      (λ q e k whole is.
      let one : node ≡ q = cc in
      of_step n old (record q { checkpoint = k }) ev None was (ap (λ (y : Node). y.end) (sym one) ∙ same) (ap (λ (y : Node). y.clock) (sym one) ∙ clock) brings is)
      (λ q e k cut is. cut_told n q k is)
      h

  -- a step that was cut off, whatever it is of
  off_told : (n : ℕ) (ev : Event) (sender : Option Sender) (o : Result Node Why) → stepped w number n ev sender o ≡ Ok x → x.cut ≡ true → Told
  off_told n ev sender o h off =
      step_line Told w number x n ev sender o
      (λ node e k whole is.
      absurd (true≢false (sym off ∙ was_whole w number n (record node { checkpoint = k }) sender (step node.end node.clock (block_of n number) ev) x is)))
      (λ node e k cut is. cut_told n node k is)
      h

  -- a start
  start_told : (n : ℕ) (node : Node) (sender : Option Sender) (k : Kept) (r : Role) (c : Config) (moment : ℕ) (block : List ℕ)
      → after_step w number n node sender (starts r c k moment block) ≡ x → Told
  unfolding after_step given
  start_told n node sender k r c moment block is =
      let s = starts r c k moment block in
      let v = moved_all n s.moves (with_node w n (record node { end = s.end })) in
      subst (λ (q : Lined). AllByRecursion (IsTrue w number l) q.entries) is (all_told w l n v number s.outputs (quiet r c k moment block))

  started_true : (n : ℕ) (o : Result Node Why) → started w number n o ≡ Ok x → Told
  unfolding started
  started_true n (Err y) h = absurd (cc)
  started_true n (Ok node) h =
      let s = starts node.end.role node.end.config node.checkpoint.book node.clock (block_of n number) in
      let up = opened (block_of n number) node in
      committed_line Told w number n up None s x
      (λ k whole is. start_told n (record up { checkpoint = k }) None node.checkpoint.book node.end.role node.end.config node.clock (block_of n number) is)
      (λ k cut is. cut_told n up k is)
      h

  quiet_true : (v : World) → quiet_line v ≡ x → Told
  quiet_true v is = subst (λ (q : Lined). AllByRecursion (IsTrue w number l) q.entries) is tt

  added_true : (n : ℕ) (r : Role) (lns : ℕ) (secret : Option (List ℕ)) (hide : Bool) → added w number n r lns secret hide ≡ Ok x → Told
  unfolding added
  added_true n r lns secret hide h =
      let v = with_node w n (new_node number n r lns secret hide) in
      quiet_true v (tested_not (is_some (at w.nodes n)) (quiet_line v) (Unfit why.Twice) x h).1

-- what is answered to an Ethernet frame, with a cause where discovery has one
module _ (w : World) (number n : ℕ) (bytes : List ℕ) (l : LacAt w n) (apart : AreApart l.access.held) where
  told_frame : (because : Option BecauseOf) (frame : List ℕ) → length bytes ≤ 2048 → IsAnswer l.access l.node.end bytes because frame
      → FrameIsTrue w number (Frame n bytes) n frame
  told_frame because frame short (AsDiscovery (Offers src service tags uniq relay none padi asked is)) =
      OfPadi l bytes src service tags uniq relay refl short padi asked is
  told_frame because frame short (AsDiscovery (Declines src tags uniq relay c some padr is_uniq is_relay why is)) =
      OfRefusal l bytes src tags uniq relay c refl short padr is_uniq is_relay why is
  told_frame because frame short (AsBefore src service uniq relay session none a held live is) =
      OfLiveCall l bytes src service a.tags uniq relay session refl short a.padr a.asked a.cookie held live is

  answers_true : (because : Option BecauseOf) (frame : List ℕ) → coming l.access l.node.end bytes ≡ Answers because frame
      → AllByRecursion (IsTrue w number (Frame n bytes)) (answer_entries number n because frame)
  answers_true None frame is =
      let so = answered_so l.access l.node.end bytes apart None frame is in
      ((refl, told_frame None frame so.1 so.0), tt)
  answers_true (Some c) frame is =
      let so = answered_so l.access l.node.end bytes apart (Some c) frame is in
      let found = discovery_refuses l.access l.node.end bytes c frame is in
      let r = refused_padr l.access.key (mac_of l.node.end.config.number) (host_name l.node.end.role l.node.end.config.number) bytes c frame found in (
        (refl, InDiscovery (record { lac = l; bytes = bytes; line_is = refl; src = r.src; tags = r.tags; padr = r.padr; why = r.why })),
        ((refl, told_frame (Some c) frame so.1 so.0), tt),
      )

-- a cause for which a ring is refused is told so
refused_by : (os : List Out) (c : BecauseOf) → IsRingCause c → causes_of os ≡ c ∷ [] → refusal_in os ≡ c
unfolding refusal_in
refused_by [] c is one = absurd cc
refused_by (Cause b ∷ os) c is one = let same : b ≡ c = cc in ap ring_cause same ∙ itself c is
  where
    itself : (c : BecauseOf) → IsRingCause c → ring_cause c ≡ c
    itself _ ForTunnels = refl
    itself _ ForCalls = refl
    itself _ ForRoom = refl
    itself _ ForIds = refl
    itself _ ForRecovery = refl
refused_by (Drop x ∷ os) c is one = refused_by os c is one
refused_by (Send peer bytes origin ∷ os) c is one = refused_by os c is one
refused_by (Up session side frame ∷ os) c is one = refused_by os c is one
refused_by (Gone session ∷ os) c is one = refused_by os c is one

-- what the PADS of a host that entered says
pub entry_answered : (before : End) (asked : Discovered) (s : Stepped) → RingComes before s → AnswersEntry before asked s (pads_of before asked s)
unfolding pads_of
entry_answered before asked s comes = by (takes_id before.session_ids) refl
  where
    Dead : Type 0
    Dead = (session : ℕ) → takes_id before.session_ids ≡ Ok session → is_some (at s.end.calls session) ≡ false

    refused : RingComes before s → Dead → AnswersEntry before asked s (pads_for before asked s.outputs None)
    refused (ToCall q drawn live none) dead = absurd (true≢false (sym live ∙ dead q drawn))
    refused (ToCause c is one calls) dead =
        WithCause c is one calls dead (ap (λ b. pads_to (mac_of before.config.number) asked 0 (Some b)) (refused_by s.outputs c is one))

    by : (r : Result ℕ IdError) → takes_id before.session_ids ≡ r → AnswersEntry before asked s (pads_for before asked s.outputs (live_in s.end r))
    by (Err x) is = refused comes (λ session drawn. absurd cc)
    by (Ok q) is = of (is_some (at s.end.calls q)) refl
      where
        of : (b : Bool) → is_some (at s.end.calls q) ≡ b → AnswersEntry before asked s (pads_for before asked s.outputs (if b then Some q else None))
        of true live = WithSession q is live refl
        of false dead = refused comes (λ session drawn. let same : q ≡ session = cc in subst (λ r. is_some (at s.end.calls r) ≡ false) same dead)

-- the frame of a host that enters
entry_true_of : (w : World) (number n : ℕ) (bytes : List ℕ) (l : LacAt w n) → AreApart l.access.held → (src : List ℕ) (uniq : Option (List ℕ)) (asked : Discovered)
    → coming l.access l.node.end bytes ≡ Enters src uniq asked
    → AnswersEntry l.node.end asked (step l.node.end l.node.clock (block_of n number) (event.Admitted src)) (reply_to w number n l src asked)
    → FrameIsTrue w number (Frame n bytes) n (reply_to w number n l src asked)
entry_true_of w number n bytes l apart src uniq asked is answers =
    let so = entered_so l.access l.node.end bytes apart src uniq asked is in
    let h = so.0 in
    let s = step l.node.end l.node.clock (block_of n number) (event.Admitted src) in
    OfEntry l bytes src h.service h.admitted.tags uniq h.relay refl so.1 h.admitted.padr h.admitted.asked h.admitted.cookie h.new
    (subst (λ d. AnswersEntry l.node.end d s (reply_to w number n l src asked)) h.asked_is answers)

frame_true : CausesStand → StepsRefuseTruly → StartsSendOnly → RingsCome → (w : World) → EndsAreKept w → AreGood w → (number n : ℕ) (bytes : List ℕ)
    → OfFrame (λ y. AllByRecursion (IsTrue w number (Frame n bytes)) y.entries) w number n bytes
frame_true causes room quiet rings w kept goods number n bytes = record {
  ignored = λ l word is x h u. ((refl, (λ queue. absurd (never_full l.access l.node.end bytes (is ∙ ap Ignores queue))), tt), tt);
  answered = λ l because frame is x h u. answers_true w number n bytes l (lac_apart w goods n l) because frame is;
  done = λ l ev is does x h.
      stepped_true causes room quiet w kept number (Frame n bytes) x n ev None (Ok l.node) (λ node e. (let same : l.node ≡ node = cc in rw (← same) l.there)) (λ node. refl)
      (refl, host_brings w n bytes ev l (lac_apart w goods n l) is) h;
  entered = λ l src uniq asked is x h u.
      all_both (IsTrue w number (Frame n bytes)) x.entries (Frames number n (reply_to w number n l src asked) ∷ [])
      (entered_true causes room quiet w kept number (Frame n bytes) x n (event.Admitted src) l.node (with_host w number n l src uniq) l.there refl refl
      (refl, padr_brings w n bytes l (lac_apart w goods n l) src uniq asked is) h) (
        (
          refl,
          entry_true_of w number n bytes l (lac_apart w goods n l) src uniq asked is
              (entry_answered l.node.end asked (step l.node.end l.node.clock (block_of n number) (event.Admitted src))
              (rings l.node.end (kept n l.node l.there) l.lac l.node.clock (block_of n number) (event.Admitted src) src refl)),
        ),
        tt,
      );
  cut = λ l ev node is x h off. off_told causes room quiet w kept number (Frame n bytes) x n ev None (Ok node) h off;
}

-- of each kind
pub line_true : CausesStand → StepsRefuseTruly → StartsSendOnly → RingsCome → (w : World) → EndsAreKept w → AreGood w → (number : ℕ) (l : Line) → TellsTruly w number l
unfolding line crashed armed held_line
line_true causes room quiet rings w kept goods number (Remark text) x h =
    let is : quiet_line w ≡ x = cc in quiet_true causes room quiet w kept number (Remark text) x w is
line_true causes room quiet rings w kept goods number (Lac n m secret hide) x h =
    added_true causes room quiet w kept number (Lac n m secret hide) x n role.Lac (address_of m) secret hide h
line_true causes room quiet rings w kept goods number (Lns n secret) x h =
    added_true causes room quiet w kept number (Lns n secret) x n role.Lns 0 secret false h
line_true causes room quiet rings w kept goods number (OpenUp n) x h =
    stepped_true causes room quiet w kept number (OpenUp n) x n event.OpenTunnel None (lac_at (at w.nodes n)) (λ node e. (is_lac_at (at w.nodes n) node e).0)
    (λ node. refl) (refl, refl) h
line_true causes room quiet rings w kept goods number (Close n i) x h =
    stepped_true causes room quiet w kept number (Close n i) x n (event.CloseTunnel i) None (with_tunnel i (declared (at w.nodes n)))
    (λ node e. is_declared (at w.nodes n) node (has_tunnel i (declared (at w.nodes n)) node e)) (λ node. refl) (refl, refl) h
line_true causes room quiet rings w kept goods number (Ring n port) x h =
    stepped_true causes room quiet w kept number (Ring n port) x n (event.Ring port) None (lac_at (at w.nodes n))
    (λ node e. (is_lac_at (at w.nodes n) node e).0) (λ node. refl) (refl, refl) h
line_true causes room quiet rings w kept goods number (Frame n bytes) x h =
    frame_line (λ y. AllByRecursion (IsTrue w number (Frame n bytes)) y.entries) w number n bytes (frame_true causes room quiet rings w kept goods number n bytes) x h
line_true causes room quiet rings w kept goods number (FromSub n session frame) x h =
    stepped_true causes room quiet w kept number (FromSub n session frame) x n (event.Payload session frame) None (with_call session (lac_at (at w.nodes n)))
    (λ node e. (is_lac_at (at w.nodes n) node (has_call session (lac_at (at w.nodes n)) node e)).0) (λ node. refl) (refl, refl) h
line_true causes room quiet rings w kept goods number (Down n session frame) x h =
    stepped_true causes room quiet w kept number (Down n session frame) x n (event.Lower session frame) None (with_call session (lns_at (at w.nodes n)))
    (λ node e. (is_lns_at (at w.nodes n) node (has_call session (lns_at (at w.nodes n)) node e)).0) (λ node. refl) (refl, refl) h
line_true causes room quiet rings w kept goods number (Hang n session) x h =
    stepped_true causes room quiet w kept number (Hang n session) x n (event.Hang session) None (with_call session (lac_at (at w.nodes n)))
    (λ node e. (is_lac_at (at w.nodes n) node (has_call session (lac_at (at w.nodes n)) node e)).0) (λ node. refl) (refl, refl) h
line_true causes room quiet rings w kept goods number (DropCall n session) x h =
    stepped_true causes room quiet w kept number (DropCall n session) x n (event.DropCall session) None (with_call session (declared (at w.nodes n)))
    (λ node e. is_declared (at w.nodes n) node (has_call session (declared (at w.nodes n)) node e)) (λ node. refl) (refl, refl) h
line_true causes room quiet rings w kept goods number (Deliver k) x h =
    deliver_line (AllByRecursion (IsTrue w number (Deliver k)) x.entries) w number x (line w number (Deliver k)) (slice_get w.packets (k - 1))
    (λ p node sent there up young so leads.
    stepped_true causes room quiet w kept number (Deliver k) x p.to (event.Datagram (address_of p.from) p.bytes) (sender_of p.from p.origin) (Ok node)
    (λ q same. (let is : node ≡ q = cc in rw (← is) there)) (λ q. refl) (p, sent, refl, refl) leads)
    refl h
line_true causes room quiet rings w kept goods number (Load n p) x h =
    load_line (λ y. AllByRecursion (IsTrue w number (Load n p)) y.entries) w number n (slice_get w.packets (p - 1))
    (record { dropped = λ word other. ((refl, (λ queue. absurd (other queue)), tt), tt); held = λ f is. (refl, tt) }) x h
line_true causes room quiet rings w kept goods number (Hand n p) x h =
    hand_line (λ y. AllByRecursion (IsTrue w number (Hand n p)) y.entries) w number n p
    (record {
      passed = λ k other. ((refl, tt), tt);
      heard = λ k y lcp steps whole. ((refl, tt), heard k y lcp steps);
      cut = λ k y lcp steps off. heard k y lcp steps;
    }) x h
  where
    heard : (k : IsHeldAt w n p) (y : Lined) → k.frame.side ≡ side.Lcp → stepped (taken_up w n p) number n (event.Lcp k.frame.session k.frame.frame) None (Ok k.node) ≡ Ok y
        → AllByRecursion (IsTrue w number (Hand n p)) y.entries
    heard k y lcp steps =
        heard_true causes room quiet w kept number (Hand n p) y (taken_up w n p) n k.node (event.Lcp k.frame.session k.frame.frame) k.there refl
        (k.frame, k.held, lcp, refl, refl) steps
line_true causes room quiet rings w kept goods number (Tick n milliseconds) x h =
    step_line (AllByRecursion (IsTrue w number (Tick n milliseconds)) x.entries) w number x n event.Tick None (later milliseconds (declared (at w.nodes n)))
    (λ node e c whole is.
    let k = is_put_on w n milliseconds node e in
    of_step causes room quiet w kept number (Tick n milliseconds) x n k.old (record node { checkpoint = c }) event.Tick None k.there
    (ap (λ (q : Node). q.end) (sym k.same)) (ap (λ (q : Node). q.clock) (sym k.same)) (refl, refl) is)
    (λ node e c cut is.
    cut_told causes room quiet w kept number (Tick n milliseconds) x n node c is)
    h
line_true causes room quiet rings w kept goods number (Crash n) x h = by (declared (at w.nodes n)) h
  where
    by : (o : Result Node Why) → crashed w number n o ≡ Ok x → AllByRecursion (IsTrue w number (Crash n)) x.entries
    by (Err y) h = absurd (cc)
    by (Ok node) h =
        let v = without_held (with_node w n (fallen (block_of n number) node.end node node.checkpoint)) n in
        let is : quiet_line v ≡ x = cc in
        quiet_true causes room quiet w kept number (Crash n) x v is
line_true causes room quiet rings w kept goods number (Stop n commit call keeps) x h = by (declared (at w.nodes n)) h
  where
    stop : StopAt
    stop = record { commit = commit; kept = keeps }

    by : (o : Result Node Why) → armed w n stop o ≡ Ok x → AllByRecursion (IsTrue w number (Stop n commit call keeps)) x.entries
    by (Err y) h = absurd (cc)
    by (Ok node) h =
        let v = with_node w n (record node { checkpoint = with_stop (Some stop) node.checkpoint }) in
        let is : quiet_line v ≡ x = cc in
        quiet_true causes room quiet w kept number (Stop n commit call keeps) x v is
line_true causes room quiet rings w kept goods number (Start n) x h = started_true causes room quiet w kept number (Start n) x n (down_at (at w.nodes n)) h
