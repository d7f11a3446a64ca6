-- A turn, put together of its parts.
use Rattle.std.proofs.Common.{◌≡◌, ℕ, ◌⊎◌, inl, inr, List, [], ◌∷◌, ◌++◌, drop, refl, sym, ap, subst, ◌∙◌}
use Rattle.std.specs.Prelude.{Option, Some, None, option_map, IfSome}
use Rattle.std.proofs.lemmas.List.{append-nil}
use Rattle.rand_core.specs.Stream.{Stream}
use Rattle.port_events.specs.declared.end.Event.{Event}
use Rattle.port_events.specs.declared.end.Event.TheVariants as event
use Rattle.port_events.specs.declared.end.Out.{Out}
use Rattle.port_events.specs.declared.giving.TurnFault.{TurnFault}
use Rattle.port_events.specs.Giving.{IsAround}
use Rattle.port_events.specs.Feeding.{Given, Fed, Stopped, some_of}
use Rattle.port_events.specs.Taking.{TellsEvent, MayTell, datagram_event, frame_event, lower_event}
use Rattle.port_events.specs.Laws.{FeedsJoin, StopsJoin, NothingStops}
use Rattle.port_turn.specs.Turns.{Waits, Asked, AtLink, AtEther, AtUplink, Broke, GivingStopped, AskingFailed}
use Rattle.port_traits.specs.Packets.{Asks, Moments, moment}

pub tells_of : {T : Type 0} (make : T → Event) (old mid : Option (List T)) (got : Option Event) → mid ≡ old → TellsEvent make mid got → TellsEvent make old got
tells_of make old mid got same first = subst (λ k. TellsEvent make k got) same first

some_none : {X : Type 0} (x : X) → None ≡ Some x → ⊥
some_none x e = cc

-- where nothing waits, nothing is taken
none_left : {T : Type 0} (make : T → Event) (old : Option (List T)) → TellsEvent make old None → option_map (drop 1) old ≡ old
none_left make None first = refl
none_left make (Some []) first = refl
none_left make (Some (x ∷ xs)) first = absurd (some_none (make x) first)

pub may_of : {F T : Type 0} (fault : TurnFault F) (make : T → Event) (old mid new new' : Option (List T)) (got : Option Event)
    → mid ≡ old → TellsEvent make mid got → new ≡ option_map (drop 1) mid → new' ≡ new → MayTell fault make old new' got
may_of fault make old mid new new' None same first left stays = inl (stays ∙ left ∙ ap (option_map (drop 1)) same ∙ none_left make old (tells_of make old mid None same first))
may_of fault make old mid new new' (Some e) same first left stays = (tells_of make old mid (Some e) same first, stays ∙ left ∙ ap (option_map (drop 1)) same)

pub may_still : {F T : Type 0} (fault : TurnFault F) (make : T → Event) (old mid new : Option (List T)) (got : Option Event)
    → mid ≡ old → MayTell fault make mid new got → MayTell fault make old new got
may_still fault make old mid new got same may = subst (λ k. MayTell fault make k new got) same may

-- a port that was asked once and then not again
pub asked_of : (old mid new new' : Option ℕ) → mid ≡ old → Asks mid new → new' ≡ new → Asks old new'
asked_of old mid new new' same asks stays = subst (λ k. Asks old k) (sym stays) (subst (λ k. Asks k new) same asks)

module _ {S : Type 0} (steps : S → ℕ → List ℕ → Event → List Out → S → Type 0) (now : ℕ) where
  pub from_there : (s t : Stream) (x y : S) (p p' q : Given) (es : List Event) → p' ≡ p → Fed steps now s t x y p' q es → Fed steps now s t x y p q es
  from_there s t x y p p' q es same a = subst (λ k. Fed steps now s t x y k q es) same a

  pub four : (join : FeedsJoin steps) (s0 s1 s2 s3 s4 : Stream) (e0 e1 e2 e3 e4 : S) (g0 g1 g2 g3 g4 : Given) (ds fs ls ts : List Event)
      → Fed steps now s0 s1 e0 e1 g0 g1 ds → Fed steps now s1 s2 e1 e2 g1 g2 fs
      → Fed steps now s2 s3 e2 e3 g2 g3 ls → Fed steps now s3 s4 e3 e4 g3 g4 ts
      → Fed steps now s0 s4 e0 e4 g0 g4 (ds ++ (fs ++ (ls ++ ts)))
  four join s0 s1 s2 s3 s4 e0 e1 e2 e3 e4 g0 g1 g2 g3 g4 ds fs ls ts a b c d =
      join now s0 s1 s4 e0 e1 e4 g0 g1 g4 ds (fs ++ (ls ++ ts)) a
      (join now s1 s2 s4 e1 e2 e4 g1 g2 g4 fs (ls ++ ts) b
      (join now s2 s3 s4 e2 e3 e4 g2 g3 g4 ls ts c d))

module _ {S F : Type 0} (steps : S → ℕ → List ℕ → Event → List Out → S → Type 0) (stops : S → ℕ → List ℕ → Event → F → S → Type 0) (now : ℕ) where
  pub broke_there : (fault : TurnFault F) (c : Option Moments) (s : Stream) (x y : S) (p p' q : Given) (w w' : Waits) (a a' : Asked) → p' ≡ p
      → Broke steps stops fault c s x y p' q w w' a a' → Broke steps stops fault c s x y p q w w' a a'
  broke_there fault c s x y p p' q w w' a a' same broke = subst (λ k. Broke steps stops fault c s x y k q w w' a a') same broke

  pub no_more : (fault : TurnFault F) (s : Stream) (e e' : S) (g g' : Given) (es : List Event) → Stopped steps stops now fault s e e' g g' es → Stopped steps stops now fault s e e' g g' (es ++ [])
  no_more fault s e e' g g' es a = subst (Stopped steps stops now fault s e e' g g') (sym (append-nil es)) a

  module _ (clock : Option Moments) (at : IfSome clock (λ moments. now ≡ moment moments)) (join : FeedsJoin steps) (stop : StopsJoin steps stops) (nothing : NothingStops steps stops) where
    -- what stopped early behind the events of two ports, which are over
    pub behind_two : (fault : TurnFault F) (s0 s1 s2 : Stream) (e0 e1 e2 e3 : S) (g0 g1 g2 g3 : Given) (ds fs ls : List Event)
        → Fed steps now s0 s1 e0 e1 g0 g1 ds → Fed steps now s1 s2 e1 e2 g1 g2 fs → (c : Stopped steps stops now fault s2 e2 e3 g2 g3 ls)
        → (all : Stopped steps stops now fault s0 e0 e3 g0 g3 (ds ++ (fs ++ ls))) × (all.made ≡ ds ++ (fs ++ c.made))
    behind_two fault s0 s1 s2 e0 e1 e2 e3 g0 g1 g2 g3 ds fs ls a b c =
        let inner = stop now fault s1 s2 e1 e2 e3 g1 g2 g3 fs ls b c in
        let outer = stop now fault s0 s1 e0 e1 e3 g0 g1 g3 ds (fs ++ ls) a inner.0 in
        (outer.0, outer.1 ∙ ap (λ (k : List Event). ds ++ k) inner.1)

    -- a turn that ended early, by where it ended
    pub link_broke : (fault : TurnFault F) (s0 : Stream) (e0 : S) (g0 : Given) (w0 w1 : Waits) (a0 a1 : Asked)
        → IsAround fault → MayTell fault datagram_event w0.link w1.link None → w1.ether ≡ w0.ether → w1.up ≡ w0.up
        → Asks a0.link a1.link → a1.ether ≡ a0.ether → a1.up ≡ a0.up
        → Broke steps stops fault clock s0 e0 e0 g0 g0 w0 w1 a0 a1
    link_broke fault s0 e0 g0 w0 w1 a0 a1 around link ether up asks ether_asks up_asks = record {
      turn = record { now = now; datagram = None; frame = None; lower = None };
      moment_is = at;
      tick = [];
      port = AtLink;
      takes = record { datagram = link; frame = inl ether; lower = inl up };
      ticks = inl refl;
      stopped = nothing now fault s0 e0 g0 around;
      asks = (asks, ether_asks, up_asks);
      later = (refl, refl, refl);
      over = ((nothing now fault s0 e0 g0 around).made, refl);
    }

    pub frame_broke : (fault : TurnFault F) (s0 s1 : Stream) (e0 e1 : S) (g0 g1 : Given) (d : Option Event) (w0 w1 : Waits) (a0 a1 : Asked)
        → MayTell fault datagram_event w0.link w1.link d → w1.up ≡ w0.up → Asks a0.link a1.link → a1.up ≡ a0.up
        → GivingStopped steps stops fault now s0 e0 e1 g0 g1 (some_of d) w0.ether w1.ether a0.ether a1.ether
        ⊎ AskingFailed steps fault frame_event now s0 s1 e0 e1 g0 g1 (some_of d) w0.ether w1.ether a0.ether a1.ether
        → Broke steps stops fault clock s0 e0 e1 g0 g1 w0 w1 a0 a1
    frame_broke fault s0 s1 e0 e1 g0 g1 d w0 w1 a0 a1 link up asks up_asks (inl h) =
        let all = no_more fault s0 e0 e1 g0 g1 (some_of d) h.stopped in
        record {
          turn = record { now = now; datagram = d; frame = None; lower = None };
          moment_is = at;
          tick = [];
          port = AtLink;
          takes = record { datagram = link; frame = inl h.waits; lower = inl up };
          ticks = inl refl;
          stopped = all;
          asks = (asks, h.asks, up_asks);
          later = (refl, refl, refl);
          over = (all.made, refl);
        }
    frame_broke fault s0 s1 e0 e1 g0 g1 d w0 w1 a0 a1 link up asks up_asks (inr h) =
        let none = nothing now fault s1 e1 g1 h.around in
        let all = stop now fault s0 s1 e0 e1 e1 g0 g1 g1 (some_of d) [] h.fed none in
        record {
          turn = record { now = now; datagram = d; frame = None; lower = None };
          moment_is = at;
          tick = [];
          port = AtEther;
          takes = record { datagram = link; frame = h.takes; lower = inl up };
          ticks = inl refl;
          stopped = all.0;
          asks = (asks, h.asks, up_asks);
          later = (refl, refl);
          over = (none.made, all.1);
        }

    pub lower_broke : (fault : TurnFault F) (s0 s1 s2 : Stream) (e0 e1 e2 : S) (g0 g1 g2 : Given) (d f : Option Event) (w0 w1 w2 : Waits) (a0 a1 a2 : Asked)
        → w1.up ≡ w0.up → a1.up ≡ a0.up
        → Fed steps now s0 s1 e0 e1 g0 g1 (some_of d)
        → MayTell fault datagram_event w0.link w2.link d → MayTell fault frame_event w0.ether w2.ether f → Asks a0.link a2.link → Asks a0.ether a2.ether
        → GivingStopped steps stops fault now s1 e1 e2 g1 g2 (some_of f) w1.up w2.up a1.up a2.up
        ⊎ AskingFailed steps fault lower_event now s1 s2 e1 e2 g1 g2 (some_of f) w1.up w2.up a1.up a2.up
        → Broke steps stops fault clock s0 e0 e2 g0 g2 w0 w2 a0 a2
    lower_broke fault s0 s1 s2 e0 e1 e2 g0 g1 g2 d f w0 w1 w2 a0 a1 a2 same_up same_asks fed link ether asks ether_asks (inl h) =
        let later = no_more fault s1 e1 e2 g1 g2 (some_of f) h.stopped in
        let all = stop now fault s0 s1 e0 e1 e2 g0 g1 g2 (some_of d) (some_of f ++ []) fed later in
        record {
          turn = record { now = now; datagram = d; frame = f; lower = None };
          moment_is = at;
          tick = [];
          port = AtEther;
          takes = record { datagram = link; frame = ether; lower = inl (h.waits ∙ same_up) };
          ticks = inl refl;
          stopped = all.0;
          asks = (asks, ether_asks, h.asks ∙ same_asks);
          later = (refl, refl);
          over = (later.made, all.1);
        }
    lower_broke fault s0 s1 s2 e0 e1 e2 g0 g1 g2 d f w0 w1 w2 a0 a1 a2 same_up same_asks fed link ether asks ether_asks (inr h) =
        let none = nothing now fault s2 e2 g2 h.around in
        let all = behind_two fault s0 s1 s2 e0 e1 e2 e2 g0 g1 g2 g2 (some_of d) (some_of f) [] fed h.fed none in
        record {
          turn = record { now = now; datagram = d; frame = f; lower = None };
          moment_is = at;
          tick = [];
          port = AtUplink;
          takes = record { datagram = link; frame = ether; lower = may_still fault lower_event w0.up w1.up w2.up None same_up h.takes };
          ticks = inl refl;
          stopped = all.0;
          asks = (asks, ether_asks, asked_of a0.up a1.up a2.up a2.up same_asks h.asks refl);
          later = tt;
          over = (none.made, all.1);
        }

    pub given_broke : (fault : TurnFault F) (s0 s1 s2 : Stream) (e0 e1 e2 e3 : S) (g0 g1 g2 g3 : Given) (d f l : Option Event) (w0 w3 : Waits) (a0 a3 : Asked)
        → Fed steps now s0 s1 e0 e1 g0 g1 (some_of d) → Fed steps now s1 s2 e1 e2 g1 g2 (some_of f)
        → MayTell fault datagram_event w0.link w3.link d → MayTell fault frame_event w0.ether w3.ether f → MayTell fault lower_event w0.up w3.up l
        → Asks a0.link a3.link → Asks a0.ether a3.ether → Asks a0.up a3.up
        → Stopped steps stops now fault s2 e2 e3 g2 g3 (some_of l)
        → Broke steps stops fault clock s0 e0 e3 g0 g3 w0 w3 a0 a3
    given_broke fault s0 s1 s2 e0 e1 e2 e3 g0 g1 g2 g3 d f l w0 w3 a0 a3 first second link ether up asks ether_asks up_asks stopped =
        let later = no_more fault s2 e2 e3 g2 g3 (some_of l) stopped in
        let all = behind_two fault s0 s1 s2 e0 e1 e2 e3 g0 g1 g2 g3 (some_of d) (some_of f) (some_of l ++ []) first second later in
        record {
          turn = record { now = now; datagram = d; frame = f; lower = l };
          moment_is = at;
          tick = [];
          port = AtUplink;
          takes = record { datagram = link; frame = ether; lower = up };
          ticks = inl refl;
          stopped = all.0;
          asks = (asks, ether_asks, up_asks);
          later = tt;
          over = (later.made, all.1);
        }

    pub tick_broke : (fault : TurnFault F) (s0 s1 s2 s3 : Stream) (e0 e1 e2 e3 e4 : S) (g0 g1 g2 g3 g4 : Given) (d f l : Option Event) (w0 w4 : Waits) (a0 a4 : Asked)
        → Fed steps now s0 s1 e0 e1 g0 g1 (some_of d) → Fed steps now s1 s2 e1 e2 g1 g2 (some_of f) → Fed steps now s2 s3 e2 e3 g2 g3 (some_of l)
        → MayTell fault datagram_event w0.link w4.link d → MayTell fault frame_event w0.ether w4.ether f → MayTell fault lower_event w0.up w4.up l
        → Asks a0.link a4.link → Asks a0.ether a4.ether → Asks a0.up a4.up
        → Stopped steps stops now fault s3 e3 e4 g3 g4 (event.Tick ∷ [])
        → Broke steps stops fault clock s0 e0 e4 g0 g4 w0 w4 a0 a4
    tick_broke fault s0 s1 s2 s3 e0 e1 e2 e3 e4 g0 g1 g2 g3 g4 d f l w0 w4 a0 a4 first second third link ether up asks ether_asks up_asks stopped =
        let later = stop now fault s2 s3 e2 e3 e4 g2 g3 g4 (some_of l) (event.Tick ∷ []) third stopped in
        let all = behind_two fault s0 s1 s2 e0 e1 e2 e4 g0 g1 g2 g4 (some_of d) (some_of f) (some_of l ++ event.Tick ∷ []) first second later.0 in
        record {
          turn = record { now = now; datagram = d; frame = f; lower = l };
          moment_is = at;
          tick = event.Tick ∷ [];
          port = AtUplink;
          takes = record { datagram = link; frame = ether; lower = up };
          ticks = inr refl;
          stopped = all.0;
          asks = (asks, ether_asks, up_asks);
          later = tt;
          over = (later.0.made, all.1);
        }
