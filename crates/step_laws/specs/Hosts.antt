-- What a line that brings an Ethernet frame does: nothing but answer, or what a host of a call does, or what a host does that enters.
use Rattle.std.proofs.Common.{◌≡◌, ◌⊎◌, inl, inr, ℕ, ◌-◌, Bool, true, false, List, [], ◌∷◌, ◌++◌, length, take, drop, refl, sym, ap, ◌∙◌, subst, Option, Some, None, Result, Ok, Err}
use Rattle.std.specs.Prelude.{nat_lt, find, option_map, is_some, not, ◌||◌, ◌==◌, if◌then◌else◌}
use Rattle.id_table.specs.Ids.{at}
use Rattle.wire_base.specs.declared.why.Why.{Why}
use Rattle.wire_base.specs.declared.why.Why.TheVariants as why
use Rattle.wire_base.specs.declared.cause.Cause.{Cause}
use Rattle.pppoe_session.specs.Subscribers.{is_repeat, repeat_in}
use Rattle.pppoe_discovery.specs.declared.outcome.Discovered.{Discovered}
use Rattle.pppoe_discovery.specs.declared.outcome.Discovered.TheVariants as outcome
use Rattle.wire_base.specs.declared.cause.Cause.TheVariants as cause
use Rattle.pppoe_wire.specs.declared.frame.Pppoe.{Pppoe}
use Rattle.pppoe_wire.specs.declared.frame.Tag.{Tag}
use Rattle.pppoe_wire.specs.declared.error.PppoeError.{PppoeError}
use Rattle.pppoe_wire.specs.declared.error.PppoeError.TheVariants as frame_errors
use Rattle.pppoe_wire.specs.declared.error.TagError.{TagError}
use Rattle.pppoe_wire.specs.Reading.{frame_of, tags_of}
use Rattle.pppoe_discovery.specs.declared.asking.Asked.{Asked}
use Rattle.pppoe_discovery.specs.Asking.{asked_by}
use Rattle.pppoe_discovery.specs.Cookie.{is_cookie}
use Rattle.pppoe_discovery.specs.Discovery.{discovered, discovered_by, refused, requested, is_for, offer, admission, fault_word, taken}
use Rattle.pppoe_discovery.specs.Told.{pads_to}
use Rattle.pppoe_discovery.specs.Replies.{pads}
use Rattle.pppoe_wire.specs.Spelling.{frame_bytes}
use Rattle.pppoe_session.specs.declared.Subscriber.{Subscriber}
use Rattle.step_laws.specs.Letters.{Among}
use Rattle.end_model.specs.declared.event.Event.{Event}
use Rattle.end_model.specs.declared.event.Event.TheVariants.{Payload, Hang, Admitted}
use Rattle.end_model.specs.declared.event.Event.TheVariants as event
use Rattle.end_names.specs.declared.role.Role.TheVariants.{Lac}
use Rattle.world_model.specs.declared.refusal.Refusal.{Refusal}
use Rattle.end_names.specs.Names.{host_name, mac_of}
use Rattle.end_model.specs.End.{End, step}
use Rattle.world_model.specs.Texts.{Entry, Drops, Frames}
use Rattle.end_model.specs.Access.{Access, is_host, Coming, Ignores, Answers, Runs, Enters, coming, led_to, of_call, wants_call, pads_of, entered}
use Rattle.world_model.specs.World.{World, Node, Lined, lac_at, retold, answer_entries, replies, enters, comes, comes_by, framed, stepped, block_of}
use Rattle.step_laws.specs.Lines.{is_lac_at, IsAt, is_at}

-- what a frame is to a LAC, as discovery tells it
abbrev pub discovered_at : Access → End → List ℕ → Discovered
discovered_at a e bytes = discovered a.key (mac_of e.config.number) (host_name e.role e.config.number) bytes

-- a call that is live, and whose host is the source
pub record IsOfHost (a : Access) (e : End) (src : List ℕ) (session : ℕ) : Type 0 where
  pub live : is_some (at e.calls session) ≡ true
  pub holds : is_host a src session ≡ true

-- what a host does in its call: it sends the frame that a session frame holds, or leaves by a PADT
pub data HostDoes (a : Access) (e : End) (bytes : List ℕ) : Event → Type 0 where
  HostSends : (src : List ℕ) (session start stop : ℕ) → discovered_at a e bytes ≡ outcome.Carried src session start stop → IsOfHost a e src session
      → HostDoes a e bytes (Payload session (take (stop - start) (drop start bytes)))
  HostLeaves : (src : List ℕ) (session : ℕ) → discovered_at a e bytes ≡ outcome.Left src session → IsOfHost a e src session → HostDoes a e bytes (Hang session)

-- ---- what is answered

-- a PADR that may be admitted repeats that of a live call, by the source's address and its Host-Uniq: it is answered by the PADS of that
-- call's session again
pub record IsRepeated (a : Access) (e : End) (bytes frame : List ℕ) : Type 0 where
  pub src : List ℕ
  pub service : List ℕ
  pub uniq : Option (List ℕ)
  pub relay : Option (List ℕ)
  pub found : discovered_at a e bytes ≡ outcome.Admit src service uniq relay
  pub session : ℕ
  pub live : is_some (at e.calls session) ≡ true
  pub who : Subscriber
  pub held : Among (session, who) a.held
  pub repeats : is_repeat src uniq who ≡ true
  pub is : frame ≡ frame_bytes (pads (mac_of e.config.number) src session service uniq relay)

-- what is found stands in the list
found_held : (es : List (ℕ × Subscriber)) (src : List ℕ) (uniq : Option (List ℕ)) (session : ℕ) → repeat_in es src uniq ≡ Some session
    → (who : Subscriber) × Among (session, who) es × (is_repeat src uniq who ≡ true)
unfolding repeat_in
found_held [] src uniq session h = absurd cc
found_held (x ∷ xs) src uniq session h = by (found_held xs src uniq session) (is_repeat src uniq x.1) refl h
  where
    by : (repeat_in xs src uniq ≡ Some session → (who : Subscriber) × Among (session, who) xs × (is_repeat src uniq who ≡ true)) → (b : Bool)
        → is_repeat src uniq x.1 ≡ b
        → option_map (λ (e : ℕ × Subscriber). e.0) (if b then Some x else find (λ (e : ℕ × Subscriber). is_repeat src uniq e.1) xs) ≡ Some session
        → (who : Subscriber) × Among (session, who) (x ∷ xs) × (is_repeat src uniq who ≡ true)
    by rest true is h = let same : x.0 ≡ session = cc in (x.1, inl (ap (λ (s : ℕ). (s, x.1)) same), is)
    by rest false is h = let k = rest h in (k.0, inr k.1, k.2)

module _ (a : Access) (e : End) (bytes : List ℕ) where
  of_host : (src : List ℕ) (session : ℕ) (ev ev' : Event) (live is : Bool) → is_some (at e.calls session) ≡ live
      → is_host a src session ≡ is → of_call live is ev ≡ Runs ev' → IsOfHost a e src session × (ev ≡ ev')
  of_host src session ev ev' false is l i h = absurd cc
  of_host src session ev ev' true false l i h = absurd cc
  of_host src session ev ev' true true l i h = (record { live = l; holds = i }, cc)

  wants_none : (src : List ℕ) (uniq : Option (List ℕ)) (asked : Discovered) (o : Option ℕ) (ev : Event) → wants_call a e src uniq asked o ≡ Runs ev → ⊥
  wants_none src uniq asked None ev h = cc
  wants_none src uniq asked (Some s) ev h = by (is_some (at e.calls s)) h
    where
      by : (b : Bool) → (if b then Answers None (pads_to (mac_of e.config.number) asked s None) else Enters src uniq asked) ≡ Runs ev → ⊥
      by true h = cc
      by false h = cc

  led_does : (d : Discovered) → discovered_at a e bytes ≡ d → (ev : Event) → led_to a e bytes d ≡ Runs ev → HostDoes a e bytes ev
  unfolding led_to
  led_does (outcome.Ignored w) is ev h = absurd cc
  led_does (outcome.Reply because frame) is ev h = absurd cc
  led_does (outcome.Admit src service uniq relay) is ev h = absurd (wants_none src uniq (outcome.Admit src service uniq relay) (repeat_in a.held src uniq) ev h)
  led_does (outcome.Left src session) is ev h =
      let k = of_host src session (Hang session) ev (is_some (at e.calls session)) (is_host a src session) refl refl h in
      subst (HostDoes a e bytes) k.1 (HostLeaves src session is k.0)
  led_does (outcome.Carried src session start stop) is ev h =
      let frame = take (stop - start) (drop start bytes) in
      let k = of_host src session (Payload session frame) ev (is_some (at e.calls session)) (is_host a src session) refl refl h in
      subst (HostDoes a e bytes) k.1 (HostSends src session start stop is k.0)

  -- whatever a frame makes an end do is what its host does
  pub host_does : (ev : Event) → coming a e bytes ≡ Runs ev → HostDoes a e bytes ev
  unfolding coming
  host_does ev h = by (nat_lt 2048 (length bytes)) h
    where
      by : (b : Bool) → (if b then Ignores why.Long else led_to a e bytes (discovered_at a e bytes)) ≡ Runs ev → HostDoes a e bytes ev
      by true h = absurd cc
      by false h = led_does (discovered_at a e bytes) refl ev h

  refused_none : (src : List ℕ) (uniq : Option (List ℕ)) (asked : Discovered) (o : Option ℕ) (c : Cause) (frame : List ℕ)
      → wants_call a e src uniq asked o ≡ Answers (Some c) frame → ⊥
  refused_none src uniq asked None c frame h = cc
  refused_none src uniq asked (Some s) c frame h = by (is_some (at e.calls s)) h
    where
      by : (b : Bool) → (if b then Answers None (pads_to (mac_of e.config.number) asked s None) else Enters src uniq asked) ≡ Answers (Some c) frame → ⊥
      by true h = cc
      by false h = cc

  of_call_none : (live is : Bool) (ev : Event) (c : Cause) (frame : List ℕ) → of_call live is ev ≡ Answers (Some c) frame → ⊥
  of_call_none false is ev c frame h = cc
  of_call_none true false ev c frame h = cc
  of_call_none true true ev c frame h = cc

  of_call_silent : (live is : Bool) (ev : Event) (frame : List ℕ) → of_call live is ev ≡ Answers None frame → ⊥
  of_call_silent false is ev frame h = cc
  of_call_silent true false ev frame h = cc
  of_call_silent true true ev frame h = cc

  of_call_old : (live is : Bool) (ev : Event) (src : List ℕ) (uniq : Option (List ℕ)) (asked : Discovered) → of_call live is ev ≡ Enters src uniq asked → ⊥
  of_call_old false is ev src uniq asked h = cc
  of_call_old true false ev src uniq asked h = cc
  of_call_old true true ev src uniq asked h = cc

  led_refused : (d : Discovered) (c : Cause) (frame : List ℕ) → led_to a e bytes d ≡ Answers (Some c) frame → d ≡ outcome.Reply (Some c) frame
  unfolding led_to
  led_refused (outcome.Ignored w) c frame h = absurd cc
  led_refused (outcome.Reply because given) c frame h = cc
  led_refused (outcome.Admit src service uniq relay) c frame h =
      absurd (refused_none src uniq (outcome.Admit src service uniq relay) (repeat_in a.held src uniq) c frame h)
  led_refused (outcome.Left src session) c frame h =
      absurd (of_call_none (is_some (at e.calls session)) (is_host a src session) (Hang session) c frame h)
  led_refused (outcome.Carried src session start stop) c frame h =
      absurd (of_call_none (is_some (at e.calls session)) (is_host a src session) (Payload session (take (stop - start) (drop start bytes))) c frame h)

  -- a frame that is answered with a cause is a PADR that discovery refuses for it
  pub discovery_refuses : (c : Cause) (frame : List ℕ) → coming a e bytes ≡ Answers (Some c) frame → discovered_at a e bytes ≡ outcome.Reply (Some c) frame
  unfolding coming
  discovery_refuses c frame h = by (nat_lt 2048 (length bytes)) h
    where
      by : (b : Bool) → (if b then Ignores why.Long else led_to a e bytes (discovered_at a e bytes)) ≡ Answers (Some c) frame
          → discovered_at a e bytes ≡ outcome.Reply (Some c) frame
      by true h = absurd cc
      by false h = led_refused (discovered_at a e bytes) c frame h

  wants_again : (src service : List ℕ) (uniq relay : Option (List ℕ)) (o : Option ℕ) (frame : List ℕ)
      → discovered_at a e bytes ≡ outcome.Admit src service uniq relay → repeat_in a.held src uniq ≡ o
      → wants_call a e src uniq (outcome.Admit src service uniq relay) o ≡ Answers None frame → IsRepeated a e bytes frame
  wants_again src service uniq relay None frame found is h = absurd cc
  wants_again src service uniq relay (Some s) frame found is h = by (is_some (at e.calls s)) refl h
    where
      by : (b : Bool) → is_some (at e.calls s) ≡ b
          → (if b then Answers None (frame_bytes (pads (mac_of e.config.number) src s service uniq relay)) else Enters src uniq (outcome.Admit src service uniq relay))
          ≡ Answers None frame → IsRepeated a e bytes frame
      by true live h =
          let k = found_held a.held src uniq s is in
          let same : frame_bytes (pads (mac_of e.config.number) src s service uniq relay) ≡ frame = cc in
          record {
            src = src;
            service = service;
            uniq = uniq;
            relay = relay;
            found = found;
            session = s;
            live = live;
            who = k.0;
            held = k.1;
            repeats = k.2;
            is = sym same;
          }
      by false live h = absurd cc

  led_answered : (d : Discovered) → discovered_at a e bytes ≡ d → (frame : List ℕ) → led_to a e bytes d ≡ Answers None frame
      → (discovered_at a e bytes ≡ outcome.Reply None frame) ⊎ IsRepeated a e bytes frame
  unfolding led_to
  led_answered (outcome.Ignored w) is frame h = absurd cc
  led_answered (outcome.Reply because given) is frame h = inl (is ∙ (let same : outcome.Reply because given ≡ outcome.Reply None frame = cc in same))
  led_answered (outcome.Admit src service uniq relay) is frame h =
      inr (wants_again src service uniq relay (repeat_in a.held src uniq) frame is refl h)
  led_answered (outcome.Left src session) is frame h =
      absurd (of_call_silent (is_some (at e.calls session)) (is_host a src session) (Hang session) frame h)
  led_answered (outcome.Carried src session start stop) is frame h =
      absurd (of_call_silent (is_some (at e.calls session)) (is_host a src session) (Payload session (take (stop - start) (drop start bytes)))
      frame h)

  -- a frame that is answered without a cause is a PADI, which gets the PADO of discovery, or such a PADR
  pub frame_answered : (frame : List ℕ) → coming a e bytes ≡ Answers None frame
      → (discovered_at a e bytes ≡ outcome.Reply None frame) ⊎ IsRepeated a e bytes frame
  unfolding coming
  frame_answered frame h = by (nat_lt 2048 (length bytes)) h
    where
      by : (b : Bool) → (if b then Ignores why.Long else led_to a e bytes (discovered_at a e bytes)) ≡ Answers None frame
          → (discovered_at a e bytes ≡ outcome.Reply None frame) ⊎ IsRepeated a e bytes frame
      by true h = absurd cc
      by false h = led_answered (discovered_at a e bytes) refl frame h

  -- a host is entered whose PADR discovery admits
  wants_new : (src service : List ℕ) (uniq relay : Option (List ℕ)) (o : Option ℕ) (from : List ℕ) (tag : Option (List ℕ)) (asked : Discovered)
      → wants_call a e src uniq (outcome.Admit src service uniq relay) o ≡ Enters from tag asked → asked ≡ outcome.Admit src service uniq relay
  wants_new src service uniq relay None from tag asked h = cc
  wants_new src service uniq relay (Some s) from tag asked h = by (is_some (at e.calls s)) h
    where
      by : (b : Bool)
          → (if b then Answers None (pads_to (mac_of e.config.number) (outcome.Admit src service uniq relay) s None) else Enters src uniq (outcome.Admit src service uniq relay))
          ≡ Enters from tag asked → asked ≡ outcome.Admit src service uniq relay
      by true h = absurd cc
      by false h = cc

  led_new : (d : Discovered) (src : List ℕ) (uniq : Option (List ℕ)) (asked : Discovered) → led_to a e bytes d ≡ Enters src uniq asked → d ≡ asked
  unfolding led_to
  led_new (outcome.Ignored w) src uniq asked h = absurd cc
  led_new (outcome.Reply because given) src uniq asked h = absurd cc
  led_new (outcome.Admit from service tag relay) src uniq asked h = sym (wants_new from service tag relay (repeat_in a.held from tag) src uniq asked h)
  led_new (outcome.Left from session) src uniq asked h =
      absurd (of_call_old (is_some (at e.calls session)) (is_host a from session) (Hang session) src uniq asked h)
  led_new (outcome.Carried from session start stop) src uniq asked h =
      absurd (of_call_old (is_some (at e.calls session)) (is_host a from session) (Payload session (take (stop - start) (drop start bytes)))
      src uniq asked h)

  pub host_enters : (src : List ℕ) (uniq : Option (List ℕ)) (asked : Discovered) → coming a e bytes ≡ Enters src uniq asked → discovered_at a e bytes ≡ asked
  unfolding coming
  host_enters src uniq asked h = by (nat_lt 2048 (length bytes)) h
    where
      by : (b : Bool) → (if b then Ignores why.Long else led_to a e bytes (discovered_at a e bytes)) ≡ Enters src uniq asked → discovered_at a e bytes ≡ asked
      by true h = absurd cc
      by false h = led_new (discovered_at a e bytes) src uniq asked h

-- ---- what is ignored

abbrev NotQueue : Discovered → Type 0
NotQueue d = d ≡ outcome.Ignored why.Queue → ⊥

module _ (key mac name : List ℕ) where
  offer_other : (src : List ℕ) (asked : Asked) (o : Option (List ℕ)) → NotQueue (offer key mac name src asked o)
  offer_other src asked None h = cc
  offer_other src asked (Some s) h = cc

  admission_other : (src : List ℕ) (asked : Asked) (o : Option (List ℕ)) → NotQueue (admission key mac src asked o)
  admission_other src asked None h = cc
  admission_other src asked (Some s) h = by (is_cookie key src asked.cookie) h
    where
      by : (b : Bool) → (if b then outcome.Admit src s asked.uniq asked.relay else refused mac src cause.Cookie asked) ≡ outcome.Ignored why.Queue → ⊥
      by true h = cc
      by false h = cc

  asked_other : (f : Pppoe) (r : Result (List Tag) TagError) → NotQueue (requested key mac name f r)
  asked_other f (Err e) h = cc
  asked_other f (Ok tags) h = by (f.code == 0x09) h
    where
      by : (b : Bool)
          → (if b then offer key mac name f.src (asked_by tags) (asked_by tags).service else admission key mac f.src (asked_by tags) (asked_by tags).service)
          ≡ outcome.Ignored why.Queue → ⊥
      by true h = offer_other f.src (asked_by tags) (asked_by tags).service h
      by false h = admission_other f.src (asked_by tags) (asked_by tags).service h

  either : (b : Bool) (x y : Discovered) → NotQueue x → NotQueue y → NotQueue (if b then x else y)
  either true x y f g = f
  either false x y f g = g

  taken_other : (f : Pppoe) → NotQueue (taken key mac name f)
  unfolding taken
  taken_other f =
      either (not (is_for mac f)) _ _ (λ h. cc)
      (either f.session_stage _ _ (either (f.code == 0) _ _ (λ h. cc) (λ h. cc))
      (either (f.code == 0xa7) _ _ (λ h. cc) (either (f.code == 0x09 || f.code == 0x19) _ _ (asked_other f (tags_of f.payload)) (λ h. cc))))

  faults_other : (e : PppoeError) → NotQueue (outcome.Ignored (fault_word e))
  faults_other frame_errors.Short h = cc
  faults_other (frame_errors.VerType seen) h = cc
  faults_other (frame_errors.Length said have) h = cc
  faults_other frame_errors.NoMemory h = cc

  found_other : (r : Result Pppoe PppoeError) → NotQueue (discovered_by key mac name r)
  found_other (Err e) h = faults_other e h
  found_other (Ok f) h = taken_other f h

module _ (a : Access) (e : End) (bytes : List ℕ) where
  call_other : (live is : Bool) (ev : Event) → of_call live is ev ≡ Ignores why.Queue → ⊥
  call_other false is ev h = cc
  call_other true false ev h = cc
  call_other true true ev h = cc

  wants_other : (src : List ℕ) (uniq : Option (List ℕ)) (asked : Discovered) (o : Option ℕ) → wants_call a e src uniq asked o ≡ Ignores why.Queue → ⊥
  wants_other src uniq asked None h = cc
  wants_other src uniq asked (Some s) h = by (is_some (at e.calls s)) h
    where
      by : (b : Bool) → (if b then Answers None (pads_to (mac_of e.config.number) asked s None) else Enters src uniq asked) ≡ Ignores why.Queue → ⊥
      by true h = cc
      by false h = cc

  led_other : (d : Discovered) → NotQueue d → led_to a e bytes d ≡ Ignores why.Queue → ⊥
  unfolding led_to
  led_other (outcome.Ignored w) other h = let same : w ≡ why.Queue = cc in other (ap outcome.Ignored same)
  led_other (outcome.Reply because given) other h = cc
  led_other (outcome.Admit src service uniq relay) other h = wants_other src uniq (outcome.Admit src service uniq relay) (repeat_in a.held src uniq) h
  led_other (outcome.Left src session) other h =
      call_other (is_some (at e.calls session)) (is_host a src session) (Hang session) h
  led_other (outcome.Carried src session start stop) other h =
      call_other (is_some (at e.calls session)) (is_host a src session) (Payload session (take (stop - start) (drop start bytes))) h

  -- no frame is ignored for want of room
  pub never_full : coming a e bytes ≡ Ignores why.Queue → ⊥
  unfolding coming
  never_full h = by (nat_lt 2048 (length bytes)) h
    where
      by : (b : Bool) → (if b then Ignores why.Long else led_to a e bytes (discovered_at a e bytes)) ≡ Ignores why.Queue → ⊥
      by true h = cc
      by false h =
          led_other (discovered_at a e bytes) (found_other a.key (mac_of e.config.number) (host_name e.role e.config.number) (frame_of bytes)) h

-- ---- lines

-- a LAC of a world
pub record LacAt (w : World) (n : ℕ) : Type 0 where
  pub node : Node
  pub access : Access
  pub there : at w.nodes n ≡ Some node
  pub lac : node.end.role ≡ Lac
  pub up : node.up ≡ true
  pub keeps : node.access ≡ Some access

-- the LAC as the host enters that it admitted
abbrev pub with_host : (w : World) (number n : ℕ) → LacAt w n → List ℕ → Option (List ℕ) → Node
with_host w number n l src uniq =
    let s = step l.node.end l.node.clock (block_of n number) (Admitted src) in
    record l.node { access = Some (entered l.access l.node.end src uniq s) }

pub entering : (w : World) (number n : ℕ) (l : LacAt w n) (src : List ℕ) (uniq : Option (List ℕ)) (node : Node) → with_host w number n l src uniq ≡ node → IsAt w n node
entering w number n l src uniq node e = subst (IsAt w n) e (record { before = l.node; there = l.there; same = refl })

abbrev pub reply_to : (w : World) (number n : ℕ) → LacAt w n → List ℕ → Discovered → List ℕ
reply_to w number n l src asked = pads_of l.node.end asked (step l.node.end l.node.clock (block_of n number) (Admitted src))

-- what is to be shown of a line that brings a frame; a step that a stop cuts off answers no host
pub record OfFrame (P : Lined → Type 0) (w : World) (number n : ℕ) (bytes : List ℕ) : Type 1 where
  pub ignored : (l : LacAt w n) (word : Why) → coming l.access l.node.end bytes ≡ Ignores word → (x : Lined)
      → stepped w number n (event.Frame bytes) None (Ok l.node) ≡ Ok x → x.cut ≡ false → P (record x { entries = Drops number n word ∷ [] })
  pub answered : (l : LacAt w n) (because : Option Cause) (frame : List ℕ) → coming l.access l.node.end bytes ≡ Answers because frame
      → (x : Lined) → stepped w number n (event.Frame bytes) None (Ok l.node) ≡ Ok x → x.cut ≡ false → P (record x { entries = answer_entries number n because frame })
  pub done : (l : LacAt w n) (ev : Event) → coming l.access l.node.end bytes ≡ Runs ev → HostDoes l.access l.node.end bytes ev → (x : Lined) → stepped w number n ev None (Ok l.node) ≡ Ok x → P x
  pub entered : (l : LacAt w n) (src : List ℕ) (uniq : Option (List ℕ)) (asked : Discovered) → coming l.access l.node.end bytes ≡ Enters src uniq asked
      → (x : Lined) → stepped w number n (Admitted src) None (Ok (with_host w number n l src uniq)) ≡ Ok x → x.cut ≡ false
      → P (record x { entries = x.entries ++ Frames number n (reply_to w number n l src asked) ∷ [] })
  pub cut : (l : LacAt w n) (ev : Event) (node : Node) → IsAt w n node → (x : Lined)
      → stepped w number n ev None (Ok node) ≡ Ok x → x.cut ≡ true → P x

module _ (P : Lined → Type 0) (w : World) (number n : ℕ) (bytes : List ℕ) (of : OfFrame P w number n bytes) (x : Lined) where
  abbrev led : Lined → Result Lined Refusal
  led y = Ok y

  -- a line whose step was cut off is as it is
  uncut : (y z : Lined) → (y.cut ≡ false → P z) → (y.cut ≡ true → P y) → led (if y.cut then y else z) ≡ led x → P x
  uncut y z whole off h = by y.cut refl h
    where
      by : (b : Bool) → y.cut ≡ b → led (if b then y else z) ≡ led x → P x
      by true is h = let e : y ≡ x = cc in subst P e (off is)
      by false is h = let e : z ≡ x = cc in subst P e (whole is)

  replied : (reply : List ℕ) (r : Result Lined Refusal)
      → ((y : Lined) → r ≡ Ok y → y.cut ≡ false → P (record y { entries = y.entries ++ Frames number n reply ∷ [] }))
      → ((y : Lined) → r ≡ Ok y → y.cut ≡ true → P y) → replies number n reply r ≡ Ok x → P x
  replied reply (Err e) f g h = absurd cc
  replied reply (Ok y) f g h = uncut y (record y { entries = y.entries ++ Frames number n reply ∷ [] }) (f y refl) (g y refl) h

  told_again : (es : List Entry) (r : Result Lined Refusal) → ((y : Lined) → r ≡ Ok y → y.cut ≡ false → P (record y { entries = es }))
      → ((y : Lined) → r ≡ Ok y → y.cut ≡ true → P y) → retold es r ≡ Ok x → P x
  told_again es (Err e) f g h = absurd cc
  told_again es (Ok y) f g h = uncut y (record y { entries = es }) (f y refl) (g y refl) h

  by_coming : (l : LacAt w n) (c : Coming) → coming l.access l.node.end bytes ≡ c → comes w number n bytes l.node l.access c ≡ Ok x → P x
  unfolding comes enters
  by_coming l (Ignores word) is h =
      told_again (Drops number n word ∷ []) (stepped w number n (event.Frame bytes) None (Ok l.node)) (λ y e u. of.ignored l word is y e u)
      (λ y e c. of.cut l (event.Frame bytes) l.node (is_at w n l.node l.there) y e c) h
  by_coming l (Answers because frame) is h =
      told_again (answer_entries number n because frame) (stepped w number n (event.Frame bytes) None (Ok l.node)) (λ y e u. of.answered l because frame is y e u)
      (λ y e c. of.cut l (event.Frame bytes) l.node (is_at w n l.node l.there) y e c) h
  by_coming l (Runs ev) is h = of.done l ev is (host_does l.access l.node.end bytes ev is) x h
  by_coming l (Enters src uniq asked) is h =
      replied (reply_to w number n l src asked) (stepped w number n (Admitted src) None (Ok (with_host w number n l src uniq)))
      (λ y e u. of.entered l src uniq asked is y e u)
      (λ y e c. of.cut l (Admitted src) (with_host w number n l src uniq) (entering w number n l src uniq (with_host w number n l src uniq) refl) y e c) h

  by_access : (node : Node) → at w.nodes n ≡ Some node → node.end.role ≡ Lac → node.up ≡ true → (o : Option Access) → node.access ≡ o
      → comes_by w number n bytes node o ≡ Ok x → P x
  unfolding comes_by
  by_access node there lac up None keeps h = absurd cc
  by_access node there lac up (Some a) keeps h =
      by_coming (record { node = node; access = a; there = there; lac = lac; up = up; keeps = keeps }) (coming a node.end bytes) refl h

  by_node : (r : Result Node Why) → lac_at (at w.nodes n) ≡ r → framed w number n bytes r ≡ Ok x → P x
  unfolding framed
  by_node (Err y) is h = absurd cc
  by_node (Ok node) is h = let l = is_lac_at (at w.nodes n) node is in by_access node l.0 l.1 l.2 node.access refl h

  pub frame_line : framed w number n bytes (lac_at (at w.nodes n)) ≡ Ok x → P x
  frame_line h = by_node (lac_at (at w.nodes n)) refl h
