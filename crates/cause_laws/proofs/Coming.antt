-- What a frame is to a LAC, said by the tags that it has and by the hosts that the LAC holds.
use Rattle.std.proofs.Common.{◌≡◌, ℕ, ◌≤◌, Bool, true, false, cond, List, [], ◌∷◌, length, Option, Some, None, Ok, Err, refl, sym, ap, ◌∙◌, subst, eqb, not, ◌||◌, Result}
use Rattle.std.specs.Prelude.{find, is_some, if◌then◌else◌, ◌-◌, take, drop, nat_lt}
use Rattle.std.specs.Option.{option_map}
use Rattle.std.proofs.lemmas.Bool.{eqb-true, eqb-false, ne_eqb, true≢false, ltb-false, le-ltb}
use Rattle.std.proofs.lemmas.Slice.Eq.{bytes_eq-Decides}
use Rattle.id_table.specs.Ids.{at}
use Rattle.wire_base.specs.declared.why.Why.TheVariants as why
use Rattle.wire_base.specs.declared.cause.Cause.{Cause}
use Rattle.wire_base.specs.declared.cause.Cause.TheVariants as cause
use Rattle.pppoe_wire.specs.declared.frame.Tag.{Tag}
use Rattle.pppoe_wire.specs.Spelling.{frame_bytes}
use Rattle.pppoe_discovery.specs.declared.outcome.Discovered.{Discovered}
use Rattle.pppoe_discovery.specs.declared.outcome.Discovered.TheVariants.{Ignored, Reply, Admit, Left, Carried}
use Rattle.pppoe_discovery.specs.Cookie.{cookie_of, is_same, is_cookie}
use Rattle.pppoe_discovery.specs.Asking.{is_of, value_of, service_of, asked_by}
use Rattle.pppoe_discovery.specs.Discovery.{refused, offer, admission, taken, discovered, is_for, requested, discovered_by}
use Rattle.pppoe_discovery.specs.Replies.{pado, pads, refusal}
use Rattle.pppoe_discovery.specs.Told.{pads_to}
use Rattle.pppoe_session.specs.Subscribers.{repeat_in}
use Rattle.end_names.specs.Names.{host_name, mac_of}
use Rattle.end_model.specs.declared.event.Event.{Event}
use Rattle.end_model.specs.declared.event.Event.TheVariants as event
use Rattle.end_model.specs.End.{End}
use Rattle.end_model.specs.Access.{Access, is_host, Coming, Ignores, Answers, Runs, Enters, coming, led_to, wants_call, of_call}
use Rattle.world_model.specs.World.{World}
use Rattle.step_laws.specs.Hosts.{LacAt, discovered_at}
use Rattle.cause_laws.specs.Refusals.{IsPadr, NoneIsOf, IsFirst, AsksFor, IsServed, IsRefusedFor, ForItsService, ForItsCookie}
use Rattle.cause_laws.specs.Hosts.{IsPadi, HasValue, AtNone, AtFirst, IsAsked, HasCookie, IsHeld, IsNew, HostActs, HostSends, HostLeaves, FrameBrings, ByItsHost, ByAPadr}
use Rattle.cause_laws.proofs.Refusals.{first_found, asks_service, service_asks, own_cookie}
use Rattle.cause_laws.proofs.Held.{AreApart, found_held, held_found}
use Rattle.pppoe_wire.specs.declared.frame.Pppoe.{Pppoe}
use Rattle.pppoe_wire.specs.declared.error.PppoeError.{PppoeError}
use Rattle.pppoe_wire.specs.declared.error.TagError.{TagError}
use Rattle.pppoe_wire.specs.Reading.{frame_of, tags_of}

-- ---- tags

-- where there is none, none is found
find_none : (kind : ℕ) (tags : List Tag) → NoneIsOf kind tags → find (λ t. is_of kind t) tags ≡ None
find_none kind [] h = refl
find_none kind (t ∷ tags) h = rw (ne_eqb t.kind kind h.0) (find_none kind tags h.1)

value_is : (kind : ℕ) (tags : List Tag) (v : Option (List ℕ)) → HasValue kind tags v → value_of kind tags ≡ v
value_is kind tags _ (AtNone none) = ap (option_map (λ (t : Tag). t.value)) (find_none kind tags none)
value_is kind tags _ (AtFirst t first) = ap (option_map (λ (t : Tag). t.value)) (first_found kind t tags first)

-- what is found is the first
tag_found : (kind : ℕ) (tags : List Tag) (t : Tag) → find (λ t. is_of kind t) tags ≡ Some t → IsFirst kind t tags
tag_found kind [] t h = absurd cc
tag_found kind (q ∷ tags) t h = by (is_of kind q) refl h (tag_found kind tags t)
  where
    by : (b : Bool) → is_of kind q ≡ b → cond b (Some q) (find (λ t. is_of kind t) tags) ≡ Some t
        → (find (λ t. is_of kind t) tags ≡ Some t → IsFirst kind t tags) → IsFirst kind t (q ∷ tags)
    by true is f later =
        let same : q ≡ t = cc in
        subst (λ y. IsFirst kind y (q ∷ tags)) same (record { before = []; after = tags; parts = refl; is = eqb-true q.kind kind is; none = tt })
    by false is f later =
        let rest = later f in
        record {
          before = q ∷ rest.before;
          after = rest.after;
          parts = ap (λ ts. q ∷ ts) rest.parts;
          is = rest.is;
          none = (eqb-false q.kind kind is, rest.none);
        }

-- no service that is served is asked for
unserved : (tags : List Tag) → ((name : List ℕ) → IsServed name → AsksFor tags name → ⊥) → service_of tags ≡ None
unserved tags none = by (service_of tags) refl
  where
    by : (o : Option (List ℕ)) → service_of tags ≡ o → service_of tags ≡ None
    by None is = is
    by (Some name) is = let s = service_asks tags name is in absurd (none name s.is s.asks)

-- the cookie isn't that of the host
other_cookie : (key src : List ℕ) (tags : List Tag) → ((t : Tag) → IsFirst 0x0104 t tags → t.value ≡ cookie_of key src → ⊥)
    → is_cookie key src (value_of 0x0104 tags) ≡ false
other_cookie key src tags none = by (find (λ t. is_of 0x0104 t) tags) refl
  where
    by : (o : Option Tag) → find (λ t. is_of 0x0104 t) tags ≡ o → is_cookie key src (option_map (λ (t : Tag). t.value) o) ≡ false
    by None is = refl
    by (Some t) is = of (is_same t.value (cookie_of key src)) refl
      where
        of : (b : Bool) → is_same t.value (cookie_of key src) ≡ b → is_same t.value (cookie_of key src) ≡ false
        of true same = absurd (none t (tag_found 0x0104 tags t is) ((bytes_eq-Decides t.value (cookie_of key src)).0 same))
        of false same = same

-- ---- what discovery finds

module _ (key mac name bytes src : List ℕ) (tags : List Tag) where
  padi_found : IsPadi mac bytes src tags → discovered key mac name bytes ≡ offer key mac name src (asked_by tags) (service_of tags)
  unfolding taken
  padi_found p = rw (p.reads, p.to, p.discovery, p.code, p.reads_tags, p.source) refl

  pub padr_found : IsPadr mac bytes src tags → discovered key mac name bytes ≡ admission key mac src (asked_by tags) (service_of tags)
  unfolding taken
  padr_found p = rw (p.reads, p.to, p.discovery, p.code, p.reads_tags, p.source) refl

  pub refuses : (uniq relay : Option (List ℕ)) (c : Cause) → IsPadr mac bytes src tags → HasValue 0x0103 tags uniq → HasValue 0x0110 tags relay
      → IsRefusedFor key src tags c → discovered key mac name bytes ≡ Reply (Some c) (frame_bytes (refusal mac src c uniq relay))
  refuses uniq relay _ p is_uniq is_relay (ForItsService none) =
      padr_found p ∙ rw (unserved tags none, value_is 0x0103 tags uniq is_uniq, value_is 0x0110 tags relay is_relay) refl
  refuses uniq relay _ p is_uniq is_relay (ForItsCookie service served asks none) =
      padr_found p
      ∙ rw (asks_service tags service served asks, other_cookie key src tags none, value_is 0x0103 tags uniq is_uniq, value_is 0x0110 tags relay is_relay) refl

  module _ (service : List ℕ) (uniq relay : Option (List ℕ)) (asked : IsAsked tags service uniq relay) where
    service_is : service_of tags ≡ Some service
    service_is = asks_service tags service asked.served asked.asks

    pub offered : IsPadi mac bytes src tags
        → discovered key mac name bytes ≡ Reply None (frame_bytes (pado mac src service name (cookie_of key src) uniq relay))
    offered p =
        padi_found p
        ∙ rw (service_is, value_is 0x0103 tags uniq asked.uniq_is, value_is 0x0110 tags relay asked.relay_is) refl

    pub admits : IsPadr mac bytes src tags → HasCookie key src tags → discovered key mac name bytes ≡ Admit src service uniq relay
    admits p cookie =
        padr_found p
        ∙ rw (service_is, own_cookie key src tags cookie.tag cookie.first cookie.value, value_is 0x0103 tags uniq asked.uniq_is, value_is 0x0110 tags relay asked.relay_is) refl

-- ---- what is found

-- each tag's first value
none_is : (kind : ℕ) (tags : List Tag) → find (λ t. is_of kind t) tags ≡ None → NoneIsOf kind tags
none_is kind [] h = tt
none_is kind (t ∷ tags) h = by (is_of kind t) refl h (none_is kind tags)
  where
    by : (b : Bool) → is_of kind t ≡ b → cond b (Some t) (find (λ t. is_of kind t) tags) ≡ None
        → (find (λ t. is_of kind t) tags ≡ None → NoneIsOf kind tags) → NoneIsOf kind (t ∷ tags)
    by true is f later = absurd cc
    by false is f later = (eqb-false t.kind kind is, later f)

has_value : (kind : ℕ) (tags : List Tag) → HasValue kind tags (value_of kind tags)
has_value kind tags = by (find (λ t. is_of kind t) tags) refl
  where
    by : (o : Option Tag) → find (λ t. is_of kind t) tags ≡ o → HasValue kind tags (option_map (λ (t : Tag). t.value) o)
    by None is = AtNone (none_is kind tags is)
    by (Some t) is = AtFirst t (tag_found kind tags t is)

own_there : (key src : List ℕ) (tags : List Tag) → is_cookie key src (value_of 0x0104 tags) ≡ true → HasCookie key src tags
own_there key src tags h = by (find (λ t. is_of 0x0104 t) tags) refl h
  where
    by : (o : Option Tag) → find (λ t. is_of 0x0104 t) tags ≡ o → is_cookie key src (option_map (λ (t : Tag). t.value) o) ≡ true → HasCookie key src tags
    by None is good = absurd cc
    by (Some t) is good = record { tag = t; first = tag_found 0x0104 tags t is; value = (bytes_eq-Decides t.value (cookie_of key src)).0 good }

module _ (key mac name bytes : List ℕ) where
  -- a PADO or a refusal
  pub data IsReply (because : Option Cause) (frame : List ℕ) : Type 0 where
    Offers : (src service : List ℕ) (tags : List Tag) (uniq relay : Option (List ℕ)) → because ≡ None → IsPadi mac bytes src tags
        → IsAsked tags service uniq relay → frame ≡ frame_bytes (pado mac src service name (cookie_of key src) uniq relay) → IsReply because frame
    Declines : (src : List ℕ) (tags : List Tag) (uniq relay : Option (List ℕ)) (c : Cause) → because ≡ Some c → IsPadr mac bytes src tags
        → HasValue 0x0103 tags uniq → HasValue 0x0110 tags relay → IsRefusedFor key src tags c
        → frame ≡ frame_bytes (refusal mac src c uniq relay) → IsReply because frame

  -- a PADR that may be admitted
  pub record IsAdmitted (src service : List ℕ) (uniq relay : Option (List ℕ)) : Type 0 where
    pub tags : List Tag
    pub padr : IsPadr mac bytes src tags
    pub asked : IsAsked tags service uniq relay
    pub cookie : HasCookie key src tags

  -- a PADT
  pub record IsPadt (src : List ℕ) (session : ℕ) : Type 0 where
    pub frame : Pppoe
    pub reads : frame_of bytes ≡ Ok frame
    pub to : is_for mac frame ≡ true
    pub discovery : frame.session_stage ≡ false
    pub code : frame.code ≡ 0xa7
    pub source : frame.src ≡ src
    pub session_is : frame.session ≡ session

  -- a frame of the session stage
  pub record IsSessionFrame (src : List ℕ) (session start stop : ℕ) : Type 0 where
    pub frame : Pppoe
    pub reads : frame_of bytes ≡ Ok frame
    pub to : is_for mac frame ≡ true
    pub stage : frame.session_stage ≡ true
    pub code : frame.code ≡ 0
    pub source : frame.src ≡ src
    pub session_is : frame.session ≡ session
    pub start_is : frame.start ≡ start
    pub stop_is : frame.end ≡ stop

  abbrev FoundSo : Discovered → Type 0
  FoundSo (Ignored word) = Unit {0}
  FoundSo (Reply because frame) = IsReply because frame
  FoundSo (Admit src service uniq relay) = IsAdmitted src service uniq relay
  FoundSo (Left src session) = IsPadt src session
  FoundSo (Carried src session start stop) = IsSessionFrame src session start stop

  either : (b : Bool) (x y : Discovered) → (b ≡ true → FoundSo x) → (b ≡ false → FoundSo y) → FoundSo (cond b x y)
  either true x y f g = f refl
  either false x y f g = g refl

  padr_code : (n : ℕ) → eqb n 0x09 ≡ false → (eqb n 0x09 || eqb n 0x19) ≡ true → n ≡ 0x19
  padr_code n other either_one = eqb-true n 0x19 (sym (ap (λ b. b || eqb n 0x19) other) ∙ either_one)

  module _ (f : Pppoe) (reads : frame_of bytes ≡ Ok f) (to : is_for mac f ≡ true) (discovery : f.session_stage ≡ false) (tags : List Tag)
      (reads_tags : tags_of f.payload ≡ Ok tags) where
    asked_for : (s : List ℕ) → service_of tags ≡ Some s → IsAsked tags s (value_of 0x0103 tags) (value_of 0x0110 tags)
    asked_for s named =
        let k = service_asks tags s named in
        record { served = k.is; asks = k.asks; uniq_is = has_value 0x0103 tags; relay_is = has_value 0x0110 tags }

    offer_so : f.code ≡ 0x09 → (o : Option (List ℕ)) → service_of tags ≡ o → FoundSo (offer key mac name f.src (asked_by tags) o)
    offer_so code None named = tt
    offer_so code (Some s) named =
        Offers f.src s tags (value_of 0x0103 tags) (value_of 0x0110 tags) refl
        (record { frame = f; reads = reads; to = to; discovery = discovery; code = code; source = refl; reads_tags = reads_tags }) (asked_for s named) refl

    module _ (code : f.code ≡ 0x19) where
      padr : IsPadr mac bytes f.src tags
      padr = record { frame = f; reads = reads; to = to; discovery = discovery; code = code; source = refl; reads_tags = reads_tags }

      declined : (c : Cause) → IsRefusedFor key f.src tags c → FoundSo (refused mac f.src c (asked_by tags))
      declined c why = Declines f.src tags (value_of 0x0103 tags) (value_of 0x0110 tags) c refl padr (has_value 0x0103 tags) (has_value 0x0110 tags) why refl

      admission_so : (o : Option (List ℕ)) → service_of tags ≡ o → FoundSo (admission key mac f.src (asked_by tags) o)
      admission_so None none =
          declined cause.Service (ForItsService (λ s is asks. let both : None ≡ Some s = sym none ∙ asks_service tags s is asks in absurd cc))
      admission_so (Some s) named =
          either (is_cookie key f.src (value_of 0x0104 tags)) _ _
          (λ good. record { tags = tags; padr = padr; asked = asked_for s named; cookie = own_there key f.src tags good })
          (λ bad. let k = service_asks tags s named in
          declined cause.Cookie (ForItsCookie s k.is k.asks (λ t first is. true≢false (sym (own_cookie key f.src tags t first is) ∙ bad))))

  requested_so : (f : Pppoe) → frame_of bytes ≡ Ok f → is_for mac f ≡ true → f.session_stage ≡ false → (r : Result (List Tag) TagError)
      → tags_of f.payload ≡ r → (eqb f.code 0x09 || eqb f.code 0x19) ≡ true → FoundSo (requested key mac name f r)
  requested_so f reads to discovery (Err e) read code = tt
  requested_so f reads to discovery (Ok tags) read code =
      either (eqb f.code 0x09) _ _
      (λ padi. offer_so f reads to discovery tags read (eqb-true f.code 0x09 padi) (service_of tags) refl)
      (λ other. admission_so f reads to discovery tags read (padr_code f.code other code) (service_of tags) refl)

  taken_so : (f : Pppoe) → frame_of bytes ≡ Ok f → FoundSo (taken key mac name f)
  unfolding taken
  taken_so f reads =
      either (not (is_for mac f)) _ _ (λ other. tt) (λ for_it.
      either f.session_stage _ _
      (λ stage. either (eqb f.code 0) _ _
      (λ zero. record {
        frame = f;
        reads = reads;
        to = is_so (is_for mac f) for_it;
        stage = stage;
        code = eqb-true f.code 0 zero;
        source = refl;
        session_is = refl;
        start_is = refl;
        stop_is = refl;
      })
      (λ other. tt))
      (λ stage.
      either (eqb f.code 0xa7) _ _
      (λ left. record {
        frame = f;
        reads = reads;
        to = is_so (is_for mac f) for_it;
        discovery = stage;
        code = eqb-true f.code 0xa7 left;
        source = refl;
        session_is = refl;
      })
      (λ stays.
      either (eqb f.code 0x09 || eqb f.code 0x19) _ _
      (λ code. requested_so f reads (is_so (is_for mac f) for_it) stage (tags_of f.payload) refl code)
      (λ other. tt))))
    where
      is_so : (b : Bool) → not b ≡ false → b ≡ true
      is_so true h = refl
      is_so false h = absurd cc

  read_so : (r : Result Pppoe PppoeError) → frame_of bytes ≡ r → FoundSo (discovered_by key mac name r)
  read_so (Err e) reads = tt
  read_so (Ok f) reads = taken_so f reads

  found_so : FoundSo (discovered key mac name bytes)
  found_so = read_so (frame_of bytes) refl

-- ---- what comes

module _ (a : Access) (e : End) (bytes : List ℕ) where
  abbrev mac_at : List ℕ
  mac_at = mac_of e.config.number

  abbrev name_at : List ℕ
  name_at = host_name e.role e.config.number

  -- what answers a frame, and nothing else follows on it
  pub data IsAnswer (because : Option Cause) (frame : List ℕ) : Type 0 where
    AsDiscovery : IsReply a.key mac_at name_at bytes because frame → IsAnswer because frame
    AsBefore : (src service : List ℕ) (uniq relay : Option (List ℕ)) (session : ℕ) → because ≡ None
        → IsAdmitted a.key mac_at name_at bytes src service uniq relay → IsHeld a src uniq session → is_some (at e.calls session) ≡ true
        → frame ≡ frame_bytes (pads mac_at src session service uniq relay) → IsAnswer because frame

  -- a host that enters
  pub record IsEntry (src : List ℕ) (uniq : Option (List ℕ)) (asked : Discovered) : Type 0 where
    pub service : List ℕ
    pub relay : Option (List ℕ)
    pub asked_is : asked ≡ Admit src service uniq relay
    pub admitted : IsAdmitted a.key mac_at name_at bytes src service uniq relay
    pub new : IsNew a e src uniq

  abbrev LedSo : Coming → Type 0
  LedSo (Ignores word) = Unit {0}
  LedSo (Answers because frame) = IsAnswer because frame
  LedSo (Runs ev) = HostActs a e bytes ev
  LedSo (Enters src uniq asked) = IsEntry src uniq asked

  call_so : (src : List ℕ) (session : ℕ) (ev : Event)
      → (is_some (at e.calls session) ≡ true → is_host a src session ≡ true → HostActs a e bytes ev) → (live is : Bool)
      → is_some (at e.calls session) ≡ live → is_host a src session ≡ is → LedSo (of_call live is ev)
  call_so src session ev acts false is l h = tt
  call_so src session ev acts true false l h = tt
  call_so src session ev acts true true l h = acts l h

  padt_acts : (src : List ℕ) (session : ℕ) → IsPadt a.key mac_at name_at bytes src session → is_some (at e.calls session) ≡ true
      → is_host a src session ≡ true → HostActs a e bytes (event.Hang session)
  padt_acts src session p live holds =
      let same : event.Hang p.frame.session ≡ event.Hang session = rw p.session_is refl in
      subst (HostActs a e bytes) same
      (HostLeaves p.frame (record { reads = p.reads; to = p.to; live = rw p.session_is live; holds = rw (p.source, p.session_is) holds }) p.discovery p.code)

  frame_acts : (src : List ℕ) (session start stop : ℕ) → IsSessionFrame a.key mac_at name_at bytes src session start stop → is_some (at e.calls session) ≡ true
      → is_host a src session ≡ true → HostActs a e bytes (event.Payload session (take (stop - start) (drop start bytes)))
  frame_acts src session start stop p live holds =
      let same : event.Payload p.frame.session (take (p.frame.end - p.frame.start) (drop p.frame.start bytes)) ≡ event.Payload session (take (stop - start) (drop start bytes)) =
      rw (p.session_is, p.start_is, p.stop_is) refl in
      subst (HostActs a e bytes) same
      (HostSends p.frame (record { reads = p.reads; to = p.to; live = rw p.session_is live; holds = rw (p.source, p.session_is) holds }) p.stage p.code)

  wants_so : AreApart a.held → (src service : List ℕ) (uniq relay : Option (List ℕ)) → IsAdmitted a.key mac_at name_at bytes src service uniq relay
      → LedSo (wants_call a e src uniq (Admit src service uniq relay) (repeat_in a.held src uniq))
  wants_so apart src service uniq relay h = by (repeat_in a.held src uniq) refl
    where
      by : (o : Option ℕ) → repeat_in a.held src uniq ≡ o → LedSo (wants_call a e src uniq (Admit src service uniq relay) o)
      by None none =
          record {
            service = service;
            relay = relay;
            asked_is = refl;
            admitted = h;
            new = λ s held live. let both : None ≡ Some s = sym none ∙ held_found a apart src uniq s held in absurd cc;
          }
      by (Some q) found = of (is_some (at e.calls q)) refl
        where
          of : (b : Bool) → is_some (at e.calls q) ≡ b
              → LedSo (if b then Answers None (pads_to mac_at (Admit src service uniq relay) q None) else Enters src uniq (Admit src service uniq relay))
          of true live = AsBefore src service uniq relay q refl h (found_held src uniq a.key a.held a.kept q found) live refl
          of false dead =
              record {
                service = service;
                relay = relay;
                asked_is = refl;
                admitted = h;
                new = λ s held live.
                    let both : Some q ≡ Some s = sym found ∙ held_found a apart src uniq s held in
                    let same : q ≡ s = cc in
                    true≢false (sym (subst (λ r. is_some (at e.calls r) ≡ true) (sym same) live) ∙ dead);
              }

  led_so : AreApart a.held → (d : Discovered) → FoundSo a.key mac_at name_at bytes d → LedSo (led_to a e bytes d)
  unfolding led_to
  led_so apart (Ignored word) h = tt
  led_so apart (Reply because frame) h = AsDiscovery h
  led_so apart (Admit src service uniq relay) h = wants_so apart src service uniq relay h
  led_so apart (Left src session) h =
      call_so src session (event.Hang session) (padt_acts src session h) (is_some (at e.calls session)) (is_host a src session) refl refl
  led_so apart (Carried src session start stop) h =
      call_so src session (event.Payload session (take (stop - start) (drop start bytes))) (frame_acts src session start stop h) (is_some (at e.calls session))
      (is_host a src session) refl refl

  pub answered_so : AreApart a.held → (because : Option Cause) (frame : List ℕ) → coming a e bytes ≡ Answers because frame → IsAnswer because frame × (length bytes ≤ 2048)
  unfolding coming
  answered_so apart because frame h = by (nat_lt 2048 (length bytes)) refl h
    where
      by : (b : Bool) → nat_lt 2048 (length bytes) ≡ b → (if b then Ignores why.Long else led_to a e bytes (discovered_at a e bytes)) ≡ Answers because frame
          → IsAnswer because frame × (length bytes ≤ 2048)
      by true long g = absurd cc
      by false short g = (subst LedSo g (led_so apart (discovered_at a e bytes) (found_so a.key mac_at name_at bytes)), ltb-false 2048 (length bytes) short)

  pub entered_so : AreApart a.held → (src : List ℕ) (uniq : Option (List ℕ)) (asked : Discovered) → coming a e bytes ≡ Enters src uniq asked
      → IsEntry src uniq asked × (length bytes ≤ 2048)
  unfolding coming
  entered_so apart src uniq asked h = by (nat_lt 2048 (length bytes)) refl h
    where
      by : (b : Bool) → nat_lt 2048 (length bytes) ≡ b → (if b then Ignores why.Long else led_to a e bytes (discovered_at a e bytes)) ≡ Enters src uniq asked
          → IsEntry src uniq asked × (length bytes ≤ 2048)
      by true long g = absurd cc
      by false short g = (subst LedSo g (led_so apart (discovered_at a e bytes) (found_so a.key mac_at name_at bytes)), ltb-false 2048 (length bytes) short)

  runs_so : AreApart a.held → (ev : Event) → coming a e bytes ≡ Runs ev → HostActs a e bytes ev × (length bytes ≤ 2048)
  unfolding coming
  runs_so apart ev h = by (nat_lt 2048 (length bytes)) refl h
    where
      by : (b : Bool) → nat_lt 2048 (length bytes) ≡ b → (if b then Ignores why.Long else led_to a e bytes (discovered_at a e bytes)) ≡ Runs ev
          → HostActs a e bytes ev × (length bytes ≤ 2048)
      by true long g = absurd cc
      by false short g = (subst LedSo g (led_so apart (discovered_at a e bytes) (found_so a.key mac_at name_at bytes)), ltb-false 2048 (length bytes) short)

  -- ---- and the other way

  module _ (short : length bytes ≤ 2048) where
    coming_short : (d : Discovered) → discovered_at a e bytes ≡ d → coming a e bytes ≡ led_to a e bytes d
    unfolding coming
    coming_short d is = rw (le-ltb 2048 (length bytes) short, is) refl

    acts_run : (ev : Event) → HostActs a e bytes ev → coming a e bytes ≡ Runs ev
    unfolding led_to taken
    acts_run _ (HostSends f of stage code) =
        coming_short (Carried f.src f.session f.start f.end) (rw (of.reads, of.to, stage, code) refl) ∙ rw (of.live, of.holds) refl
    acts_run _ (HostLeaves f of stage code) =
        coming_short (Left f.src f.session) (rw (of.reads, of.to, stage, code) refl) ∙ rw (of.live, of.holds) refl

    admits_enter : (src service : List ℕ) (tags : List Tag) (uniq relay : Option (List ℕ)) → IsPadr mac_at bytes src tags → IsAsked tags service uniq relay
        → HasCookie a.key src tags → IsNew a e src uniq → coming a e bytes ≡ Enters src uniq (Admit src service uniq relay)
    unfolding led_to
    admits_enter src service tags uniq relay padr asked cookie new =
        coming_short (Admit src service uniq relay) (admits a.key mac_at name_at bytes src tags service uniq relay asked padr cookie)
        ∙ by (repeat_in a.held src uniq) refl
      where
        by : (o : Option ℕ) → repeat_in a.held src uniq ≡ o → wants_call a e src uniq (Admit src service uniq relay) o ≡ Enters src uniq (Admit src service uniq relay)
        by None found = refl
        by (Some q) found = of (is_some (at e.calls q)) refl
          where
            of : (b : Bool) → is_some (at e.calls q) ≡ b
                → (if b then Answers None (pads_to mac_at (Admit src service uniq relay) q None) else Enters src uniq (Admit src service uniq relay))
                ≡ Enters src uniq (Admit src service uniq relay)
            of true live = absurd (new q (found_held src uniq a.key a.held a.kept q found) live)
            of false dead = refl

-- ---- what a frame brings to a LAC of a world

module _ (w : World) (n : ℕ) (bytes : List ℕ) where
  pub data FrameComes (ev : Event) : Type 0 where
    OfItsHost : (l : LacAt w n) → coming l.access l.node.end bytes ≡ Runs ev → FrameComes ev
    OfAPadr : (l : LacAt w n) (src : List ℕ) (uniq : Option (List ℕ)) (asked : Discovered) → coming l.access l.node.end bytes ≡ Enters src uniq asked
        → ev ≡ event.Admitted src → FrameComes ev

  pub frame_comes : (ev : Event) → FrameBrings w n bytes ev → FrameComes ev
  frame_comes ev (ByItsHost l short acts) = OfItsHost l (acts_run l.access l.node.end bytes short ev acts)
  frame_comes ev (ByAPadr l src service tags uniq relay short padr asked cookie new is) =
      OfAPadr l src uniq (Admit src service uniq relay) (admits_enter l.access l.node.end bytes short src service tags uniq relay padr asked cookie new) is

  pub host_brings : (ev : Event) (l : LacAt w n) → AreApart l.access.held → coming l.access l.node.end bytes ≡ Runs ev → FrameBrings w n bytes ev
  host_brings ev l apart is = let h = runs_so l.access l.node.end bytes apart ev is in ByItsHost l h.1 h.0

  pub padr_brings : (l : LacAt w n) → AreApart l.access.held → (src : List ℕ) (uniq : Option (List ℕ)) (asked : Discovered) → coming l.access l.node.end bytes ≡ Enters src uniq asked
      → FrameBrings w n bytes (event.Admitted src)
  padr_brings l apart src uniq asked is =
      let so = entered_so l.access l.node.end bytes apart src uniq asked is in
      let h = so.0 in
      ByAPadr l src h.service h.admitted.tags uniq h.relay so.1 h.admitted.padr h.admitted.asked h.admitted.cookie h.new refl
