-- Each host is answered whose PADI asks for a service that is served, or whose PADR comes.
use Rattle.std.proofs.Common.{◌≡◌, ℕ, ◌+◌, ◌-◌, ◌*◌, ◌/◌, min, arith, Result, ◌≤◌, Bool, true, false, List, [], ◌∷◌, ◌++◌, length, Option, Some, None, Ok, Err, refl, sym, ap, ◌∙◌, subst}
use Rattle.std.specs.Prelude.{map, is_some, if◌then◌else◌}
use Rattle.std.proofs.lemmas.Bool.{true≢false, le-ltb}
use Rattle.std.proofs.lemmas.List.{append-nil}
use Rattle.std.proofs.lemmas.Grind.{flat_map-append}
use Rattle.id_table.specs.Ids.{at}
use Rattle.wire_base.specs.declared.why.Why.TheVariants as why
use Rattle.wire_base.specs.declared.cause.Cause.{Cause}
use Rattle.wire_base.specs.declared.cause.Cause.TheVariants as cause
use Rattle.schedule_text.specs.declared.line.Line.{Line}
use Rattle.schedule_text.specs.declared.line.Line.TheVariants.{Frame}
use Rattle.pppoe_wire.specs.declared.frame.Tag.{Tag}
use Rattle.pppoe_wire.specs.Spelling.{frame_bytes}
use Rattle.pppoe_discovery.specs.declared.outcome.Discovered.{Discovered}
use Rattle.pppoe_discovery.specs.declared.outcome.Discovered.TheVariants.{Reply, Admit}
use Rattle.pppoe_discovery.specs.Cookie.{cookie_of, is_cookie}
use Rattle.pppoe_discovery.specs.Asking.{service_of, asked_by}
use Rattle.pppoe_discovery.specs.Discovery.{refused, admission}
use Rattle.pppoe_discovery.specs.Replies.{sent, pado, pads, refusal}
use Rattle.pppoe_discovery.specs.Told.{pads_to}
use Rattle.pppoe_session.specs.Subscribers.{repeat_in}
use Rattle.end_names.specs.Names.{host_name, mac_of}
use Rattle.end_model.specs.declared.event.Event.TheVariants as event
use Rattle.end_model.specs.declared.out.Out.{Out}
use Rattle.end_model.specs.declared.out.Out.TheVariants.{Send, Up, Gone, Drop, Cause as Refused}
use Rattle.end_model.specs.declared.moves.Move.{Move}
use Rattle.session_book.specs.declared.record.Record.{Record}
use Rattle.session_book.specs.declared.record.Record.TheVariants.{Ceiling}
use Rattle.id_source.specs.Spaces.{Space, counting_from, takes_id}
use Rattle.end_model.specs.Contents.{ceilings_of, contents_of}
use Rattle.world_model.specs.declared.refusal.Refusal.{Refusal}
use Rattle.end_model.specs.Calls.{is_lac}
use Rattle.end_model.specs.End.{End, Stepped, step, plain_step, step_in, gives_only}
use Rattle.end_model.specs.Access.{Coming, Answers, Enters, coming, led_to, wants_call, live_in, pads_for, pads_of}
use Rattle.world_model.specs.Texts.{Frames, Causes}
use Rattle.world_model.specs.World.{World, Node, Checkpoint, Deed, Lined, IsCut, deed_of, with_node, after_step, given, entry_of, entries_of, shown, moved_all, commits, running, lac_at, retold, replies, answer_entries, comes, comes_by, enters, framed, stepped, block_of, line}
use Rattle.step_laws.specs.Lines.{step_line}
use Rattle.step_laws.specs.Hosts.{LacAt, discovered_at, with_host, reply_to}
use Rattle.step_laws.specs.Steps.{AreKept}
use Rattle.step_laws.specs.Answers.{causes_of}
use Rattle.step_laws.specs.Rings.{RingsCome}
use Rattle.cause_laws.specs.Refusals.{IsPadr, IsRefusedFor}
use Rattle.cause_laws.specs.Hosts.{IsPadi, HasValue, IsAsked, HasCookie, IsHeld, IsNew, frame_in, frames_in, cause_in, causes_in, TellsOnly, TellsPads, TellsRefusal, HostEnters, HostIsAnswered, AnswersHosts}
use Rattle.cause_laws.proofs.Coming.{offered, admits, refuses, padr_found, padr_brings}
use Rattle.cause_laws.proofs.Held.{found_held, held_found}
use Rattle.cause_laws.proofs.Nodes.{EndsAreKept, AreGood, lac_apart, never_cut, whole_step}
use Rattle.cause_laws.proofs.Lines.{entry_answered}

-- ---- entries

-- and tells the causes that the step does
causes_told : (number n : ℕ) (os : List Out) (v : World) → causes_in (entries_of number n os v) ≡ map (λ c. Causes number n c) (causes_of os)
unfolding entries_of entry_of
causes_told number n [] v = refl
causes_told number n (Send peer bytes origin ∷ os) v = causes_told number n os (shown n v (Send peer bytes origin))
causes_told number n (Up session side frame ∷ os) v = causes_told number n os (shown n v (Up session side frame))
causes_told number n (Gone session ∷ os) v = causes_told number n os (shown n v (Gone session))
causes_told number n (Drop x ∷ os) v = causes_told number n os (shown n v (Drop x))
causes_told number n (Refused c ∷ os) v = ap (λ es. Causes number n c ∷ es) (causes_told number n os (shown n v (Refused c)))

-- what is done are the moves
moves_done : (f : Move → Deed) → ((m : Move) → (f m).move ≡ m) → (ms : List Move) → map (λ (d : Deed). d.move) (map f ms) ≡ ms
moves_done f same [] = refl
moves_done f same (m ∷ ms) = rw (same m, moves_done f same ms) refl

-- a step tells no frame itself
none_told : (number n : ℕ) (os : List Out) (v : World) → frames_in (entries_of number n os v) ≡ []
unfolding entries_of entry_of
none_told number n [] v = refl
none_told number n (Send peer bytes origin ∷ os) v = none_told number n os (shown n v (Send peer bytes origin))
none_told number n (Up session side frame ∷ os) v = none_told number n os (shown n v (Up session side frame))
none_told number n (Gone session ∷ os) v = none_told number n os (shown n v (Gone session))
none_told number n (Drop x ∷ os) v = none_told number n os (shown n v (Drop x))
none_told number n (Refused c ∷ os) v = none_told number n os (shown n v (Refused c))

-- ---- a frame that does nothing, and a line that isn't cut off

-- no ceiling rises where a space is as it was
none_rose : (space : ℕ) (s : Space) → ceilings_of space s s ≡ []
unfolding counting_from
none_rose space s =
    let none : s.ceiling - s.ceiling + 63 ≡ 63 = omega arith in
    ap (λ (n : ℕ). map (λ (j : ℕ). Ceiling space (min s.last (s.ceiling + 64 * j))) (counting_from 1 (n / 64))) none

-- and so an end commits nothing of a frame
frame_leaves : (e : End) (moment : ℕ) (block bytes : List ℕ) → contents_of e (step e moment block (event.Frame bytes)) ≡ []
unfolding contents_of plain_step step_in gives_only
frame_leaves e moment block bytes = rw (none_rose 1 e.tunnel_ids, none_rose 2 e.session_ids, none_rose 3 e.recovery_ids) refl

abbrev led : Lined → Result Lined Refusal
led y = Ok y

uncut_line : (y z x : Lined) → y.cut ≡ false → led (if y.cut then y else z) ≡ led x → z ≡ x
uncut_line y z x uncut h = let whole : led (if false then y else z) ≡ led x = subst (λ (b : Bool). led (if b then y else z) ≡ led x) uncut h in cc

behind_uncut : (y z x : Lined) → x.cut ≡ false → led (if y.cut then y else z) ≡ led x → (y.cut ≡ false) × (z ≡ x)
behind_uncut y z x uncut h = by y.cut refl h
  where
    by : (b : Bool) → y.cut ≡ b → led (if b then y else z) ≡ led x → (y.cut ≡ false) × (z ≡ x)
    by true off h = let same : y ≡ x = cc in absurd (true≢false (sym off ∙ (ap (λ (q : Lined). q.cut) same ∙ uncut)))
    by false whole h = (whole, cc)

-- ---- a line that brings a frame

module _ (w : World) (number n : ℕ) (bytes : List ℕ) (short : length bytes ≤ 2048) (l : LacAt w n) (x : Lined) (made : line w number (Frame n bytes) ≡ Ok x)
    (rings : RingsCome) (kept : AreKept l.node.end) (goods : AreGood w) where
  abbrev e : End
  e = l.node.end

  abbrev mac : List ℕ
  mac = mac_of e.config.number

  lac_is : lac_at (at w.nodes n) ≡ Ok l.node
  lac_is =
      ap lac_at l.there
      ∙ (ap (λ r. if is_lac r then running l.node else Err why.Node) l.lac ∙ ap (λ (b : Bool). if b then Ok l.node else Err why.Down) l.up)

  line_is : line w number (Frame n bytes) ≡ comes w number n bytes l.node l.access (coming l.access e bytes)
  unfolding line framed comes_by
  line_is = ap (framed w number n bytes) lac_is ∙ ap (comes_by w number n bytes l.node) l.keeps

  leads : (c : Coming) → coming l.access e bytes ≡ c → comes w number n bytes l.node l.access c ≡ Ok x
  leads c is = ap (comes w number n bytes l.node l.access) (sym is) ∙ (sym line_is ∙ made)

  coming_is : (d : Discovered) → discovered_at l.access e bytes ≡ d → coming l.access e bytes ≡ led_to l.access e bytes d
  unfolding coming
  coming_is d is = rw (le-ltb 2048 (length bytes) short, is) refl

  -- it is answered, and no more
  record IsAnswered (because : Option Cause) (frame : List ℕ) : Type 0 where
    entries : x.entries ≡ answer_entries number n because frame
    done : x.done ≡ []

  -- to the end itself the frame is nothing, so that no stop cuts the step off
  nothing_done : (y : Lined) → stepped w number n (event.Frame bytes) None (Ok l.node) ≡ Ok y → (y.cut ≡ false) × (y.done ≡ [])
  unfolding after_step given plain_step step_in gives_only
  nothing_done y h =
      step_line ((y.cut ≡ false) × (y.done ≡ [])) w number y n (event.Frame bytes) None (Ok l.node)
      (λ node same k whole is. (ap (λ (q : Lined). q.cut) (sym is), ap (λ (q : Lined). q.done) (sym is)))
      (λ node same k cut is.
      let one : l.node ≡ node = cc in
      let there : at w.nodes n ≡ Some node = l.there ∙ ap (λ (q : Node). Some q) one in
      let none = frame_leaves node.end node.clock (block_of n number) bytes in
      absurd (never_cut node.checkpoint (goods n node there).real k (subst (λ (rs : List Record). commits node.checkpoint rs ≡ IsCut k) none cut)))
      h

  answered : (because : Option Cause) (frame : List ℕ) → coming l.access e bytes ≡ Answers because frame → IsAnswered because frame
  unfolding comes
  answered because frame is = by (stepped w number n (event.Frame bytes) None (Ok l.node)) refl (leads (Answers because frame) is)
    where
      by : (r : Result Lined Refusal) → stepped w number n (event.Frame bytes) None (Ok l.node) ≡ r
          → retold (answer_entries number n because frame) r ≡ Ok x → IsAnswered because frame
      by (Err y) same h = absurd (cc)
      by (Ok y) same h =
          let nothing = nothing_done y same in
          let made = uncut_line y (record y { entries = answer_entries number n because frame }) x nothing.0 h in
          record { entries = ap (λ (q : Lined). q.entries) (sym made); done = ap (λ (q : Lined). q.done) (sym made) ∙ nothing.1 }

  told_only : (frame : List ℕ) → coming l.access e bytes ≡ Answers None frame → TellsOnly number n frame x
  told_only frame is = let a = answered None frame is in record { entries = a.entries; done = a.done }

  replied : (because : Option Cause) (frame : List ℕ) → discovered_at l.access e bytes ≡ Reply because frame → coming l.access e bytes ≡ Answers because frame
  unfolding led_to
  replied because frame is = coming_is (Reply because frame) is

  padi_told : (src service : List ℕ) (tags : List Tag) (uniq relay : Option (List ℕ)) → IsPadi mac bytes src tags → IsAsked tags service uniq relay
      → TellsOnly number n (frame_bytes (pado mac src service (host_name e.role e.config.number) (cookie_of l.access.key src) uniq relay)) x
  padi_told src service tags uniq relay p asked =
      told_only _ (replied None _ (offered l.access.key mac (host_name e.role e.config.number) bytes src tags service uniq relay asked p))

  again_told : (src service : List ℕ) (tags : List Tag) (uniq relay : Option (List ℕ)) (session : ℕ) → IsPadr mac bytes src tags
      → IsAsked tags service uniq relay → HasCookie l.access.key src tags → IsHeld l.access src uniq session → is_some (at e.calls session) ≡ true
      → TellsOnly number n (frame_bytes (pads mac src session service uniq relay)) x
  unfolding led_to
  again_told src service tags uniq relay session p asked cookie held live =
      told_only _
      (coming_is (Admit src service uniq relay) (admits l.access.key mac (host_name e.role e.config.number) bytes src tags service uniq relay asked p cookie)
      ∙ (rw (held_found l.access (lac_apart w goods n l) src uniq session held, live) refl))

  -- ---- a PADR

  -- a refusal of discovery, or the PADS of a live call, is one
  because_told : (because : Option Cause) (src : List ℕ) (session : ℕ) (payload : List ℕ)
      → coming l.access e bytes ≡ Answers because (frame_bytes (sent mac src 0x65 session payload)) → TellsPads number n mac src x
  because_told None src session payload is =
      let a = answered None _ is in record { session = session; payload = payload; only = ap frames_in a.entries }
  because_told (Some c) src session payload is =
      let a = answered (Some c) _ is in record { session = session; payload = payload; only = ap frames_in a.entries }

  -- and so is what answers one that enters
  module _ (src : List ℕ) (service : List ℕ) (uniq relay : Option (List ℕ)) where
    abbrev asked : Discovered
    asked = Admit src service uniq relay

    abbrev made_step : Stepped
    made_step = step e l.node.clock (block_of n number) (event.Admitted src)

    -- all that its step leaves was committed, and the PADS comes behind what it tells
    abbrev told_after : Checkpoint → Lined
    told_after k =
        let y = after_step w number n (record (with_host w number n l src uniq) { checkpoint = k }) None made_step in
        record y { entries = y.entries ++ Frames number n (reply_to w number n l src asked) ∷ [] }

    record Came : Type 0 where
      checkpoint : Checkpoint
      is : told_after checkpoint ≡ x

    came : x.cut ≡ false → coming l.access e bytes ≡ Enters src uniq asked → Came
    unfolding comes enters
    came uncut is = by (stepped w number n (event.Admitted src) None (Ok (with_host w number n l src uniq))) refl (leads (Enters src uniq asked) is)
      where
        by : (r : Result Lined Refusal) → stepped w number n (event.Admitted src) None (Ok (with_host w number n l src uniq)) ≡ r
            → replies number n (reply_to w number n l src asked) r ≡ Ok x → Came
        by (Err y) same h = absurd (cc)
        by (Ok y) same h =
            let whole = behind_uncut y (record y { entries = y.entries ++ Frames number n (reply_to w number n l src asked) ∷ [] }) x uncut h in
            whole_step Came w number y n (event.Admitted src) None (Ok (with_host w number n l src uniq))
            (λ node one k committed made.
            let host : with_host w number n l src uniq ≡ node = cc in
            let again : after_step w number n (record (with_host w number n l src uniq) { checkpoint = k }) None made_step ≡ y =
            subst
            (λ (q : Node). after_step w number n (record q { checkpoint = k }) None (step q.end q.clock (block_of n number) (event.Admitted src)) ≡ y)
            (sym host) made in
            record {
              checkpoint = k;
              is = ap (λ (q : Lined). record q { entries = q.entries ++ Frames number n (reply_to w number n l src asked) ∷ [] }) again ∙ whole.1;
            })
            whole.0 same

    entered_told : x.cut ≡ false → coming l.access e bytes ≡ Enters src uniq asked
        → frames_in x.entries ≡ Frames number n (reply_to w number n l src asked) ∷ []
    unfolding after_step given
    entered_told uncut is =
        let c = came uncut is in
        let v = moved_all n made_step.moves (with_node w n (record (with_host w number n l src uniq) { end = made_step.end; checkpoint = c.checkpoint })) in
        let entries : entries_of number n made_step.outputs v ++ Frames number n (reply_to w number n l src asked) ∷ [] ≡ x.entries =
        ap (λ (q : Lined). q.entries) c.is in
        ap frames_in (sym entries)
        ∙ (flat_map-append frame_in (entries_of number n made_step.outputs v) (Frames number n (reply_to w number n l src asked) ∷ [])
        ∙ ap (λ es. es ++ Frames number n (reply_to w number n l src asked) ∷ []) (none_told number n made_step.outputs v))

    host_enters : x.cut ≡ false → coming l.access e bytes ≡ Enters src uniq asked → HostEnters w number n bytes l src asked x
    unfolding after_step given
    host_enters uncut is =
        let c = came uncut is in
        let v = moved_all n made_step.moves (with_node w n (record (with_host w number n l src uniq) { end = made_step.end; checkpoint = c.checkpoint })) in
        let entries : entries_of number n made_step.outputs v ++ Frames number n (reply_to w number n l src asked) ∷ [] ≡ x.entries =
        ap (λ (q : Lined). q.entries) c.is in
        let done : map (λ m. deed_of v number n e.role None m) made_step.moves ≡ x.done = ap (λ (q : Lined). q.done) c.is in
        record {
          brings = padr_brings w n bytes l (lac_apart w goods n l) src uniq asked is;
          done = ap (map (λ (d : Deed). d.move)) (sym done) ∙ moves_done (λ m. deed_of v number n e.role None m) (λ m. refl) made_step.moves;
          causes =
              ap causes_in (sym entries)
              ∙ (flat_map-append cause_in (entries_of number n made_step.outputs v) (Frames number n (reply_to w number n l src asked) ∷ [])
              ∙ (append-nil (causes_in (entries_of number n made_step.outputs v)) ∙ causes_told number n made_step.outputs v));
          frame = reply_to w number n l src asked;
          only = entered_told uncut is;
          answers = entry_answered e asked made_step (rings e kept l.lac l.node.clock (block_of n number) (event.Admitted src) src refl);
        }

    new_enters : x.cut ≡ false → coming l.access e bytes ≡ wants_call l.access e src uniq asked (repeat_in l.access.held src uniq) → IsNew l.access e src uniq
        → HostEnters w number n bytes l src asked x
    new_enters uncut is new = by (repeat_in l.access.held src uniq) refl is
      where
        by : (o : Option ℕ) → repeat_in l.access.held src uniq ≡ o → coming l.access e bytes ≡ wants_call l.access e src uniq asked o
            → HostEnters w number n bytes l src asked x
        by None found h = host_enters uncut h
        by (Some q) found h = of (is_some (at e.calls q)) refl h
          where
            of : (b : Bool) → is_some (at e.calls q) ≡ b
                → coming l.access e bytes ≡ (if b then Answers None (pads_to mac asked q None) else Enters src uniq asked)
                → HostEnters w number n bytes l src asked x
            of true live g = absurd (new q (found_held src uniq l.access.key l.access.held l.access.kept q found) live)
            of false dead g = host_enters uncut g

    -- the PADS of the one that entered
    record IsPads (frame : List ℕ) : Type 0 where
      session : ℕ
      payload : List ℕ
      is : frame ≡ frame_bytes (sent mac src 0x65 session payload)

    reply_pads : IsPads (reply_to w number n l src asked)
    unfolding pads_of
    reply_pads = by (live_in made_step.end (takes_id e.session_ids))
      where
        by : (o : Option ℕ) → IsPads (pads_for e asked made_step.outputs o)
        by (Some q) = record { session = q; payload = _; is = refl }
        by None = record { session = 0; payload = _; is = refl }

    enters_told : x.cut ≡ false → coming l.access e bytes ≡ Enters src uniq asked → TellsPads number n mac src x
    enters_told uncut is =
        let p = reply_pads in
        record { session = p.session; payload = p.payload; only = entered_told uncut is ∙ ap (λ f. Frames number n f ∷ []) p.is }

    admitted_told : x.cut ≡ false → coming l.access e bytes ≡ wants_call l.access e src uniq asked (repeat_in l.access.held src uniq) → TellsPads number n mac src x
    admitted_told uncut is = by (repeat_in l.access.held src uniq) is
      where
        by : (o : Option ℕ) → coming l.access e bytes ≡ wants_call l.access e src uniq asked o → TellsPads number n mac src x
        by None h = enters_told uncut h
        by (Some q) h = of (is_some (at e.calls q)) h
          where
            of : (b : Bool) → coming l.access e bytes ≡ (if b then Answers None (pads_to mac asked q None) else Enters src uniq asked) → TellsPads number n mac src x
            of true g = because_told None src q _ g
            of false g = enters_told uncut g

  padr_told : x.cut ≡ false → (src : List ℕ) (tags : List Tag) → IsPadr mac bytes src tags → TellsPads number n mac src x
  unfolding led_to
  padr_told uncut src tags p = by (service_of tags) (padr_found l.access.key mac (host_name e.role e.config.number) bytes src tags p)
    where
      key : List ℕ
      key = l.access.key

      declines : (c : Cause) → discovered_at l.access e bytes ≡ refused mac src c (asked_by tags) → TellsPads number n mac src x
      declines c found = because_told (Some c) src 0 _ (replied (Some c) _ found)

      by : (o : Option (List ℕ)) → discovered_at l.access e bytes ≡ admission key mac src (asked_by tags) o → TellsPads number n mac src x
      by None found = declines cause.Service found
      by (Some service) found = of (is_cookie key src (asked_by tags).cookie) found
        where
          of : (b : Bool)
              → discovered_at l.access e bytes ≡ (if b then Admit src service (asked_by tags).uniq (asked_by tags).relay else refused mac src cause.Cookie (asked_by tags))
              → TellsPads number n mac src x
          of true g = admitted_told src service (asked_by tags).uniq (asked_by tags).relay uncut (coming_is (Admit src service (asked_by tags).uniq (asked_by tags).relay) g)
          of false g = declines cause.Cookie g

  refused_told : (src : List ℕ) (tags : List Tag) (uniq relay : Option (List ℕ)) (c : Cause) → IsPadr mac bytes src tags
      → HasValue 0x0103 tags uniq → HasValue 0x0110 tags relay → IsRefusedFor l.access.key src tags c
      → TellsRefusal number n c (frame_bytes (refusal mac src c uniq relay)) x
  refused_told src tags uniq relay c p is_uniq is_relay why =
      let a = answered (Some c) _ (replied (Some c) _ (refuses l.access.key mac (host_name e.role e.config.number) bytes src tags uniq relay c p is_uniq is_relay why)) in
      record { entries = a.entries; done = a.done }

  new_told : x.cut ≡ false → (src service : List ℕ) (tags : List Tag) (uniq relay : Option (List ℕ)) → IsPadr mac bytes src tags → IsAsked tags service uniq relay
      → HasCookie l.access.key src tags → IsNew l.access e src uniq → HostEnters w number n bytes l src (Admit src service uniq relay) x
  unfolding led_to
  new_told uncut src service tags uniq relay p asked cookie new =
      new_enters src service uniq relay uncut
      (coming_is (Admit src service uniq relay) (admits l.access.key mac (host_name e.role e.config.number) bytes src tags service uniq relay asked p cookie)) new

  host_is_answered : HostIsAnswered w number n bytes l x
  host_is_answered = record { padi = padi_told; padr = padr_told; refused = refused_told; repeated = again_told; entered = new_told }

pub hosts_answered : RingsCome → (w : World) → EndsAreKept w → AreGood w → (number : ℕ) (l : Line) → AnswersHosts w number l
hosts_answered rings w kept goods number l x made n bytes is short lac =
    host_is_answered w number n bytes short lac x (subst (λ (q : Line). line w number q ≡ Ok x) is made) rings (kept n lac.node lac.there) goods
