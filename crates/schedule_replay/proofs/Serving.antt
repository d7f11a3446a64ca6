-- The line that a step of a node's end makes is the line of the world.
use Rattle.std.proofs.Common.{◌≡◌, ℕ, Bool, true, false, List, [], ◌∷◌, ◌++◌, refl, sym, ap, subst, ◌∙◌, Option, Some, None, Result, Ok, Err}
use Rattle.std.proofs.lemmas.Grind.{flat_map-append}
use Rattle.std.proofs.lemmas.List.{append-nil}
use Rattle.std.specs.Prelude.{◌+◌, ◌-◌, ◌^◌, min, is_some, IsOk, if◌then◌else◌}
use Rattle.std.proofs.lemmas.Bool.{true≢false}
use Rattle.wire_base.specs.declared.why.Why.{Why}
use Rattle.wire_base.specs.declared.why.Why.TheVariants as why
use Rattle.pppoe_discovery.specs.declared.outcome.Discovered.{Discovered}
use Rattle.end_model.specs.declared.event.Event.{Event}
use Rattle.end_model.specs.declared.event.Event.TheVariants.{Datagram, Ring, Frame, Admitted, Payload, Lower, Lcp, Hang, OpenTunnel, DropCall, CloseTunnel, Tick}
use Rattle.world_model.specs.declared.refusal.Refusal.TheVariants.{Unfit, HalfSpace, Stale, StoreFull}
use Rattle.end_model.specs.Calls.{is_lac}
use Rattle.end_model.specs.declared.out.Out.{Out}
use Rattle.end_model.specs.declared.out.Out.TheVariants.{Drop, Cause}
use Rattle.end_model.specs.Access.{Access, Coming, Ignores, Answers, Runs, Enters, coming, serves, does, admits, as_it_was, pads_of, entered}
use Rattle.end_model.specs.Contents.{contents_of}
use Rattle.end_model.specs.End.{Stepped, plain_step, step, step_in, gives_only}
use Rattle.end_model.specs.Starting.{starts}
use Rattle.world_model.specs.declared.refusal.Refusal.{Refusal}
use Rattle.world_model.specs.Texts.{Entry, Drops, entry_text, entries_text}
use Rattle.end_names.specs.Names.{address_of}
use Rattle.id_table.specs.Ids.{at}
use Rattle.world_model.specs.declared.packet.Packet.{Packet}
use Rattle.world_model.specs.World.{World, Node, Sender, sender_of, arrival, refused_by, arrives, delivers_it, delivers, Lined, Committed, IsFull, IsCut, IsWhole, with_node, declared, lac_at, down_at, later, moved_all, shown, shown_all, entry_of, entries_of, given, after_step, commits, fallen, without_held, cut_line, settled, committed, stepped, block_of, retold, answer_entries, replies, enters, comes, comes_by, framed, opened, started}
use Rattle.schedule_replay.specs.Counting.{ups_with, ups_after}
use Rattle.schedule_replay.specs.declared.fault.LineFault.{LineFault}
use Rattle.schedule_replay.specs.declared.fault.LineFault.TheVariants.{Refused, NoMemory as OutOfMemory}
use Rattle.schedule_replay.specs.declared.kinds.Moved.{Moved}
use Rattle.schedule_replay.specs.declared.node.Unmade.{Unmade}
use Rattle.schedule_replay.specs.declared.node.Unmade.TheVariants as unmade
use Rattle.schedule_replay.specs.Fault.{Told, LeadsTo, Stays, Says}
use Rattle.schedule_replay.specs.Kinds.{site_in}
use Rattle.schedule_replay.specs.Serving.{SiteStep, by_served, step_with, site_step, site_start, end_step, site_commits, MakesStep, frames_unfit, start_unfit, reply_entries, moved_to, whole_line, served_by, served_line, served_at, start_served, IsPlain, ShowsMade}

-- two lines with one world and one list of entries lead to the same
pub same_leads : (l k : Lined) (old new : Told) → l.world ≡ k.world → l.entries ≡ k.entries → LeadsTo l old new → LeadsTo k old new
same_leads l k old new worlds entries h = record {
  world = h.world ∙ worlds;
  report = h.report ∙ ap (λ es. old.report ++ entries_text es) entries;
  ups = h.ups ∙ ap (λ es. ups_after old.ups es) entries;
}

-- two outcomes lead to the same, or are refused for the same
abbrev pub SameLine : Result Lined Refusal → Result Lined Refusal → Type 0
SameLine (Ok l) (Ok k) = (l.world ≡ k.world) × (l.entries ≡ k.entries)
SameLine (Ok l) (Err b) = ⊥
SameLine (Err a) (Ok k) = ⊥
SameLine (Err a) (Err b) = a ≡ b

pub same_says : {T : Type 0} (r : Result T LineFault) (a b : Result Lined Refusal) (old new : Told) → SameLine a b → Says r a old new → Says r b old new
same_says (Ok t) (Ok l) (Ok k) old new same h = same_leads l k old new same.0 same.1 h
same_says (Ok t) (Ok l) (Err b) old new same h = absurd same
same_says (Ok t) (Err a) (Ok k) old new same h = absurd same
same_says (Ok t) (Err a) (Err b) old new same h = absurd h
same_says (Err (Refused e)) (Ok l) (Ok k) old new same h = (let e : Ok l ≡ Err e = h.0 in absurd cc)
same_says (Err (Refused e)) (Ok l) (Err b) old new same h = absurd same
same_says (Err (Refused e)) (Err a) (Ok k) old new same h = absurd same
same_says (Err (Refused e)) (Err a) (Err b) old new same h = (ap Err (sym same) ∙ h.0, h.1)
same_says (Err OutOfMemory) a b old new same h = tt

module _ (w : World) (line n : ℕ) (x : Node) where
  -- ---- an event that isn't of its access

  plain_by : (v : SiteStep) → v.site.access ≡ x.access → v.reply ≡ None → (c : Committed)
      → SameLine (served_by w line n x v c) (settled w line n x None (end_step v) c)
  unfolding whole_line moved_to settled after_step given
  plain_by v access reply (IsFull records) = refl
  plain_by v access reply (IsCut k) = (refl, refl)
  plain_by v access reply (IsWhole k) = (rw access refl, rw (access, reply) (append-nil _))

  plain_same : (v : SiteStep) (s : Stepped) → end_step v ≡ s → v.site.access ≡ x.access → v.reply ≡ None
      → SameLine (served_line w line n x v) (committed w line n x None s)
  unfolding served_line committed
  plain_same v s is access reply =
      subst (λ (u : Stepped). SameLine (served_by w line n x v (site_commits x v)) (settled w line n x None u (commits x.checkpoint (contents_of x.end u)))) is
      (plain_by v access reply (site_commits x v))

  abbrev pub stepped_so : (ev : Event) (o : Option Access) → Type 0
  stepped_so ev o =
      SameLine (served_line w line n x (step_with (site_in x) o x.clock (block_of n line) ev))
      (committed w line n x None (step x.end x.clock (block_of n line) ev))

  pub by_access : (ev : Event) → IsPlain ev → (o : Option Access) → x.access ≡ o → stepped_so ev o
  unfolding serves
  by_access ev plain None is = plain_same _ _ refl (sym is) refl
  by_access (Frame bytes) plain (Some a) is = absurd plain
  by_access (Admitted mac) plain (Some a) is = absurd plain
  by_access (Datagram peer bytes) plain (Some a) is = plain_same _ _ refl (sym is) refl
  by_access (Ring port) plain (Some a) is = plain_same _ _ refl (sym is) refl
  by_access (Payload s frame) plain (Some a) is = plain_same _ _ refl (sym is) refl
  by_access (Lower s frame) plain (Some a) is = plain_same _ _ refl (sym is) refl
  by_access (Lcp s packet) plain (Some a) is = plain_same _ _ refl (sym is) refl
  by_access (Hang s) plain (Some a) is = plain_same _ _ refl (sym is) refl
  by_access OpenTunnel plain (Some a) is = plain_same _ _ refl (sym is) refl
  by_access (DropCall s) plain (Some a) is = plain_same _ _ refl (sym is) refl
  by_access (CloseTunnel i) plain (Some a) is = plain_same _ _ refl (sym is) refl
  by_access Tick plain (Some a) is = plain_same _ _ refl (sym is) refl

  -- ---- a frame

  module _ (bytes : List ℕ) (a : Access) (is : x.access ≡ Some a) where
    abbrev done_by : Coming → SiteStep
    done_by c = by_served (does (record { end = x.end; access = a }) x.clock (block_of n line) c)

    -- the LAC answers, or ignores the frame, and its end does nothing
    told_by : (outputs : List Out) (reply : Option (List ℕ)) (es : List Entry)
        → ((v : World) → (shown_all n outputs v ≡ v) × (entries_of line n outputs v ++ reply_entries line n reply ≡ es)) → (c : Committed)
        → SameLine (served_by w line n x (by_served (as_it_was (record { end = x.end; access = a }) outputs reply)) c)
        (retold es (settled w line n x None (gives_only x.end (Drop why.Node)) c))
    unfolding whole_line moved_to settled after_step given gives_only moved_all shown_all shown cut_line
    told_by outputs reply es so (IsFull records) = refl
    told_by outputs reply es so (IsCut k) = (refl, refl)
    told_by outputs reply es so (IsWhole k) = ((so _).0 ∙ rw is refl, (so _).1)

    by_coming : (c : Coming) → SameLine (served_line w line n x (done_by c)) (comes w line n bytes x a c)
    unfolding served_line comes enters stepped committed contents_of does admits plain_step step_in gives_only shown_all shown entries_of entry_of whole_line moved_to settled after_step given cut_line fallen
    by_coming (Ignores word) = told_by (Drop word ∷ []) None (Drops line n word ∷ []) (λ v. (refl, refl)) _
    by_coming (Answers None frame) = told_by [] (Some frame) (answer_entries line n None frame) (λ v. (refl, refl)) _
    by_coming (Answers (Some c) frame) = told_by (Cause c ∷ []) (Some frame) (answer_entries line n (Some c) frame) (λ v. (refl, refl)) _
    by_coming (Runs ev) = plain_same (done_by (Runs ev)) (step x.end x.clock (block_of n line) ev) refl (sym is) refl
    by_coming (Enters src uniq asked) = entered_by src uniq asked _
      where
        entered_by : (src : List ℕ) (uniq : Option (List ℕ)) (asked : Discovered) (c : Committed)
            → let s = step x.end x.clock (block_of n line) (Admitted src) in
            SameLine (served_by w line n x (by_served (admits (record { end = x.end; access = a }) src uniq asked s)) c)
            (replies line n (pads_of x.end asked s) (settled w line n (record x { access = Some (entered a x.end src uniq s) }) None s c))
        entered_by src uniq asked (IsFull records) = refl
        entered_by src uniq asked (IsCut k) = (refl, refl)
        entered_by src uniq asked (IsWhole k) = (refl, refl)

  -- ---- a frame, by what the node keeps of hosts

  frame_same : (bytes : List ℕ) (o : Option Access) → x.access ≡ o → is_some o ≡ true
      → SameLine (served_line w line n x (step_with (site_in x) o x.clock (block_of n line) (Frame bytes))) (comes_by w line n bytes x o)
  unfolding serves comes_by
  frame_same bytes None is e = absurd (true≢false (sym e))
  frame_same bytes (Some a) is e = by_coming bytes a is (coming a x.end bytes)

-- entries are appended as texts
pub both_text : (es fs : List Entry) → entries_text (es ++ fs) ≡ entries_text es ++ entries_text fs
both_text es fs = flat_map-append entry_text es fs

-- and counted one after the other
pub both_ups : (n : ℕ) (es fs : List Entry) → ups_after n (es ++ fs) ≡ ups_after (ups_after n es) fs
both_ups n [] fs = refl
both_ups n (e ∷ es) fs = both_ups (ups_with n e) es fs

-- ---- what a line says

-- a node's step that was made, and then shown
pub made_says : {T : Type 0} (r : Result T LineFault) (made : Result Moved Unmade) (line n : ℕ) (x y : Node) (v : SiteStep) (old mid new : Told)
    → MakesStep made (block_of n line) v x y → mid.world ≡ with_node old.world n y → mid.report ≡ old.report → mid.ups ≡ old.ups
    → ShowsMade r made line n mid new → Says r (served_line old.world line n x v) old new
unfolding served_line whole_line moved_to cut_line
made_says (Ok t) (Ok g) line n x y v old mid new m world report ups h =
    let v1 : moved_all n g.moves mid.world ≡ moved_to old.world n x v m.0 = rw (world, m.2, m.4) refl in
    subst (λ (c : Committed). Says (Ok t) (served_by old.world line n x v c) old new) (sym m.1)
    (record {
      world = h.0 ∙ rw (m.3, v1) refl;
      report = h.1 ∙ rw (report, m.3, v1, m.5) refl;
      ups = h.2 ∙ rw (ups, m.3, v1, m.5) refl;
    })
made_says (Ok t) (Err unmade.Cut) line n x y v old mid new m world report ups h =
    subst (λ (c : Committed). Says (Ok t) (served_by old.world line n x v c) old new) (sym m.1)
    (record { world = h.0 ∙ ap (λ (w : World). without_held w n) world ∙ rw m.2 refl; report = h.1 ∙ rw report refl; ups = h.2 ∙ ups })
made_says (Ok t) (Err (unmade.Full records)) line n x y v old mid new m world report ups h = absurd h
made_says (Ok t) (Err unmade.NoMemory) line n x y v old mid new m world report ups h = absurd h
made_says (Err (Refused e)) (Ok g) line n x y v old mid new m world report ups h = absurd h
made_says (Err (Refused e)) (Err unmade.Cut) line n x y v old mid new m world report ups h = absurd h
made_says (Err (Refused e)) (Err (unmade.Full records)) line n x y v old mid new m world report ups h =
    rw h.0 (ap (λ (c : Committed). served_by old.world line n x v c) m, (rw h.1 report, rw h.1 ups))
made_says (Err (Refused e)) (Err unmade.NoMemory) line n x y v old mid new m world report ups h = absurd h
made_says (Err OutOfMemory) made line n x y v old mid new m world report ups h = tt

-- a step on an event that isn't of a LAC's access, of a node that is up
pub plain_says : {T : Type 0} (r : Result T LineFault) (w : World) (line n : ℕ) (ev : Event) (o : Option Node) (old new : Told) → IsOk (declared o) → IsPlain ev
    → Says r (served_at w line n ev o) old new → Says r (stepped w line n ev None (declared o)) old new
unfolding served_at stepped site_step
plain_says r w line n ev None old new up plain h = absurd (true≢false (sym up))
plain_says r w line n ev (Some x) old new up plain h = by x.up refl up
  where
    by : (b : Bool) → x.up ≡ b → IsOk (if b then Ok x else Err why.Down) → Says r (stepped w line n ev None (if b then Ok x else Err why.Down)) old new
    by true is up = same_says r _ _ old new (by_access w line n x ev plain x.access refl) h
    by false is up = absurd (true≢false (sym up))

-- whose packet it is that reached a node changes what is done alone
pub sender_same : (w : World) (line n : ℕ) (ev : Event) (sender : Option Sender) (node : Result Node Why)
    → SameLine (stepped w line n ev None node) (stepped w line n ev sender node)
unfolding stepped committed settled after_step given
sender_same w line n ev sender (Err x) = refl
sender_same w line n ev sender (Ok x) = by (commits x.checkpoint (contents_of x.end (step x.end x.clock (block_of n line) ev)))
  where
    by : (c : Committed) → SameLine (settled w line n x None (step x.end x.clock (block_of n line) ev) c) (settled w line n x sender (step x.end x.clock (block_of n line) ev) c)
    by (IsFull records) = refl
    by (IsCut k) = (refl, refl)
    by (IsWhole k) = (refl, refl)

-- a node that is up is there
pub there : (o : Option Node) (x : Node) → declared o ≡ Ok x → o ≡ Some x
there None x is = absurd cc
there (Some a) x is = by a.up is
  where
    by : (b : Bool) → (if b then Ok a else Err why.Down) ≡ Ok x → Some a ≡ Some x
    by true e = let same : a ≡ x = cc in ap Some same
    by false e = absurd cc

-- why a packet is refused that reached a node, in each world in which the node is there
abbrev pub RefusedSo : Option Refusal → Packet → Node → Type 0
RefusedSo e packet node = (w : World) → at w.nodes packet.to ≡ Some node → e ≡ refused_by w packet node packet.origin

-- a packet that reached a node that is up
pub arrival_says : {T : Type 0} (r : Result T LineFault) (w : World) (line : ℕ) (p : Option Packet) (packet : Packet) (node : Node) (old new : Told)
    → arrival w p ≡ Ok (packet, node) → declared (at w.nodes packet.to) ≡ Ok node → RefusedSo None packet node
    → Says r (stepped w line packet.to (Datagram (address_of packet.from) packet.bytes) None (Ok node)) old new → Says r (delivers w line p) old new
unfolding delivers delivers_it arrives
arrival_says r w line p packet node old new is up free h =
    rw (is, sym (free w (there (at w.nodes packet.to) node up)))
    (same_says r _ _ old new
    (sender_same w line packet.to (Datagram (address_of packet.from) packet.bytes) (sender_of packet.from packet.origin) (Ok node)) h)

stays_same : (e : Refusal) (t : Told) → Stays e t t
stays_same (Unfit x) t = refl
stays_same (HalfSpace number count) t = refl
stays_same (Stale sent own) t = refl
stays_same (StoreFull records) t = (refl, refl)

-- one that is refused there
pub arrival_refused : (w : World) (line : ℕ) (p : Option Packet) (packet : Packet) (node : Node) (e : Refusal) (t : Told)
    → arrival w p ≡ Ok (packet, node) → declared (at w.nodes packet.to) ≡ Ok node → RefusedSo (Some e) packet node
    → (delivers w line p ≡ Err e) × Stays e t t
unfolding delivers delivers_it arrives
arrival_refused w line p packet node e t is up refused =
    (rw (is, sym (refused w (there (at w.nodes packet.to) node up))) refl, stays_same e t)

-- the clock of a node that is up goes on
pub later_there : (milliseconds : ℕ) (o : Option Node) (a f x : Node) → o ≡ Some a → declared o ≡ Ok f
    → x ≡ record a { clock = min (a.clock + milliseconds) (2 ^ 64 - 1) } → later milliseconds (declared o) ≡ Ok x
later_there milliseconds o a f x is up goes =
    ap (λ (q : Option Node). later milliseconds (declared q)) is ∙ by a.up (ap (λ (q : Option Node). declared q) (sym is) ∙ up)
  where
    by : (b : Bool) → (if b then Ok a else Err why.Down) ≡ Ok f → later milliseconds (if b then Ok a else Err why.Down) ≡ Ok x
    by true e = ap Ok (sym goes)
    by false e = absurd cc

-- a tick of a node whose clock has gone on
pub tick_says : {T : Type 0} (r : Result T LineFault) (w : World) (line n milliseconds : ℕ) (x : Node) (o : Option Node) (old new : Told)
    → later milliseconds (declared o) ≡ Ok x → Says r (served_line w line n x (site_step (site_in x) x.clock (block_of n line) Tick)) old new
    → Says r (stepped w line n Tick None (later milliseconds (declared o))) old new
unfolding stepped site_step
tick_says r w line n milliseconds x o old new is h = rw is (same_says r _ _ old new (by_access w line n x Tick tt x.access refl) h)

-- a step on a frame
pub frame_says : {T : Type 0} (r : Result T LineFault) (w : World) (line n : ℕ) (bytes : List ℕ) (o : Option Node) (old new : Told) → frames_unfit o ≡ None
    → Says r (served_at w line n (Frame bytes) o) old new → Says r (framed w line n bytes (lac_at o)) old new
unfolding served_at framed comes_by site_step serves
frame_says r w line n bytes None old new fits h = absurd cc
frame_says r w line n bytes (Some x) old new fits h = by (is_lac x.end.role) x.up x.access refl fits
  where
    by : (b c : Bool) (a : Option Access) → x.access ≡ a
        → (if b then (if c then (if is_some a then None else Some why.Node) else Some why.Down) else Some why.Node) ≡ None
        → Says r (framed w line n bytes (if b then (if c then Ok x else Err why.Down) else Err why.Node)) old new
    by true true (Some a) is e = same_says r _ _ old new (frame_same w line n x bytes x.access refl (ap (λ (o : Option Access). is_some o) is)) h
    by true true None is e = absurd cc
    by true false a is e = absurd cc
    by false c a is e = absurd cc

-- a frame for a node that none can come to
pub frame_unfit : (w : World) (line n : ℕ) (bytes : List ℕ) (o : Option Node) (x : Why) → frames_unfit o ≡ Some x
    → framed w line n bytes (lac_at o) ≡ Err (Unfit x)
unfolding framed comes_by
frame_unfit w line n bytes None x e = let same : why.Node ≡ x = cc in ap (λ (y : Why). Err (Unfit y)) same
frame_unfit w line n bytes (Some node) x e = by (is_lac node.end.role) node.up node.access refl e
  where
    by : (b c : Bool) (a : Option Access) → node.access ≡ a
        → (if b then (if c then (if is_some a then None else Some why.Node) else Some why.Down) else Some why.Node) ≡ Some x
        → framed w line n bytes (if b then (if c then Ok node else Err why.Down) else Err why.Node) ≡ Err (Unfit x)
    by true true (Some a) is e = absurd cc
    by true true None is e = rw is (let same : why.Node ≡ x = cc in ap (λ (y : Why). Err (Unfit y)) same)
    by true false a is e = let same : why.Down ≡ x = cc in ap (λ (y : Why). Err (Unfit y)) same
    by false c a is e = let same : why.Node ≡ x = cc in ap (λ (y : Why). Err (Unfit y)) same

-- ---- a start

pub start_same : (w : World) (line n : ℕ) (x : Node) → SameLine (start_served w line n x) (started w line n (Ok x))
unfolding start_served served_line started committed site_start contents_of whole_line moved_to settled after_step given cut_line fallen
start_same w line n x = by _
  where
    by : (c : Committed)
        → let v = site_start x.end.role x.end.config x.clock (block_of n line) x.checkpoint.book in
        SameLine (served_by w line n (record x { up = true }) v c)
        (settled w line n (opened (block_of n line) x) None (starts x.end.role x.end.config x.checkpoint.book x.clock (block_of n line)) c)
    by (IsFull records) = refl
    by (IsCut k) = (refl, refl)
    by (IsWhole k) = (refl, append-nil _)

-- a node that can't start
pub start_refused : (w : World) (line n : ℕ) (o : Option Node) (x : Why) → start_unfit o ≡ Some x → started w line n (down_at o) ≡ Err (Unfit x)
unfolding started
start_refused w line n None x e = let same : why.Node ≡ x = cc in ap (λ (y : Why). Err (Unfit y)) same
start_refused w line n (Some node) x e = by node.up e
  where
    by : (b : Bool) → (if b then Some why.Up else None) ≡ Some x → started w line n (if b then Err why.Up else Ok node) ≡ Err (Unfit x)
    by true e = let same : why.Up ≡ x = cc in ap (λ (y : Why). Err (Unfit y)) same
    by false e = absurd cc

pub start_says : {T : Type 0} (r : Result T LineFault) (w : World) (line n : ℕ) (x : Node) (o : Option Node) (old new : Told) → o ≡ Some x → start_unfit o ≡ None
    → Says r
    (served_line w line n (record x { up = true }) (site_start x.end.role x.end.config x.clock (block_of n line) x.checkpoint.book)) old new
    → Says r (started w line n (down_at o)) old new
unfolding start_served
start_says r w line n x o old new is fits h = rw is (by x.up (subst (λ (q : Option Node). start_unfit q ≡ None) is fits))
  where
    by : (b : Bool) → (if b then Some why.Up else None) ≡ None → Says r (started w line n (if b then Err why.Up else Ok x)) old new
    by true e = absurd cc
    by false e = same_says r _ _ old new (start_same w line n x) h
