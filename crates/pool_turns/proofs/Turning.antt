-- The parts of a turn, as a turn.
use Rattle.std.proofs.Common.{◌≡◌, ℕ, ◌+◌, inl, inr, List, [], ◌∷◌, ◌++◌, length, refl, sym, ap, subst, ◌∙◌, length-append}
use Rattle.std.specs.Prelude.{Option, Some, None, drop, option_map}
use Rattle.rand_core.specs.Stream.{Stream}
use Rattle.port_traits.specs.Packets.{Asks}
use Rattle.port_events.specs.declared.end.Event.{Event}
use Rattle.port_events.specs.declared.end.Event.TheVariants.{Tick}
use Rattle.port_events.specs.Feeding.{Given, Goes, some_of}
use Rattle.port_events.specs.Taking.{datagram_event, frame_event, lower_event, TellsEvent}
use Rattle.port_turn.specs.Turns.{Turn, Waits, Asked, events_of}
use Rattle.held_ports.specs.Around.{Around, ReadsClock}
use Rattle.pool_turns.specs.Turns.{Put, blocks, first_block, put_of, Draws, TakesLink, TakesEther, TakesUplink, StopsAtLink, StopsAtEther, StopsAtUplink, Took, StopsIn, MakesTurn}
use Rattle.pool_turns.proofs.Drawing.{goes_then, blocks_add}

abbrev turn_of : ℕ → Option Event → Option Event → Option Event → Turn
turn_of now d f l = record { now = now; datagram = d; frame = f; lower = l }

same_given : (p q r : Given) (xs : List _) → q ≡ p → Goes q r xs → Goes p r xs
same_given p q r xs e g = subst (λ (k : Given). Goes k r xs) e g

told_first : {T : Type 0} (make : T → Event) (v w : Option (List T)) (got : Option Event) → w ≡ v → TellsEvent make w got → TellsEvent make v got
told_first make v w got e t = subst (λ k. TellsEvent make k got) e t

-- a port that was asked
tells_took : {T : Type 0} (make : T → Event) (v w : Option (List T)) (got : Option Event) → TellsEvent make v got → w ≡ option_map (drop 1) v → Took make v w got
tells_took make v w None t e = inr e
tells_took make v w (Some x) t e = (t, e)

took_nothing : {T : Type 0} (make : T → Event) (v w : Option (List T)) → w ≡ v → Took make v w None
took_nothing make v w e = inl e

took_there : {T : Type 0} (make : T → Event) (u v w x : Option (List T)) (got : Option Event) → v ≡ u → x ≡ w → Took make v w got → Took make u x got
took_there make u v w x got e f t = subst (λ k. Took make u k got) (sym f) (subst (λ k. Took make k w got) e t)

asks_there : (u v w x : Option ℕ) → v ≡ u → x ≡ w → Asks v w → Asks u x
asks_there u v w x e f t = subst (λ k. Asks u k) (sym f) (subst (λ k. Asks k w) e t)

-- a turn's events, as far as their number goes
five : (now : ℕ) (d f l : Option Event) (s : Stream)
    → blocks 1 (blocks (length (some_of l)) (blocks (length (some_of f)) (blocks (length (some_of d)) s))) ≡ blocks (length (events_of (turn_of now d f l))) s
five now d f l s =
    let n = length (some_of d) in let m = length (some_of f) in let k = length (some_of l) in
    let last : length (some_of l ++ Tick ∷ []) ≡ k + 1 = length-append (some_of l) (Tick ∷ []) in
    let mid : length (some_of f ++ (some_of l ++ Tick ∷ [])) ≡ m + (k + 1) = length-append (some_of f) (some_of l ++ Tick ∷ []) ∙ ap (λ x. m + x) last in
    let all : length (events_of (turn_of now d f l)) ≡ n + (m + (k + 1)) = length-append (some_of d) (some_of f ++ (some_of l ++ Tick ∷ [])) ∙ ap (λ x. n + x) mid in
    sym (ap (λ x. blocks x s) all ∙ (blocks_add n (m + (k + 1)) s ∙ (blocks_add m (k + 1) (blocks n s) ∙ blocks_add k 1 (blocks m (blocks n s)))))

module _ (now : ℕ) (d : Option Event) (ps : List Put) (a b c : Around) (r : ReadsClock now a b) (t : TakesLink now d ps b c) where
  stream_1 : b.stream ≡ a.stream
  stream_1 = ap (λ (x : Around). x.stream) r.rest

  waits_1 : b.waits ≡ a.waits
  waits_1 = ap (λ (x : Around). x.waits) r.rest

  asked_1 : b.asked ≡ a.asked
  asked_1 = ap (λ (x : Around). x.asked) r.rest

  given_1 : b.given ≡ a.given
  given_1 = ap (λ (x : Around). x.given) r.rest

  stream_2 : c.stream ≡ blocks (length (some_of d)) a.stream
  stream_2 = ap (λ (x : Around). x.stream) t.rest ∙ ap (λ (s : Stream). blocks (length (some_of d)) s) stream_1

  clock_2 : c.clock ≡ b.clock
  clock_2 = ap (λ (x : Around). x.clock) t.rest

  link_2 : c.waits.link ≡ option_map (drop 1) a.waits.link
  link_2 = ap (λ (x : Around). x.waits.link) t.rest ∙ ap (λ (w : Waits). option_map (drop 1) w.link) waits_1

  ether_2 : c.waits.ether ≡ a.waits.ether
  ether_2 = ap (λ (x : Around). x.waits.ether) t.rest ∙ ap (λ (w : Waits). w.ether) waits_1

  up_2 : c.waits.up ≡ a.waits.up
  up_2 = ap (λ (x : Around). x.waits.up) t.rest ∙ ap (λ (w : Waits). w.up) waits_1

  ether_asked_2 : c.asked.ether ≡ a.asked.ether
  ether_asked_2 = ap (λ (x : Around). x.asked.ether) t.rest ∙ ap (λ (w : Asked). w.ether) asked_1

  up_asked_2 : c.asked.up ≡ a.asked.up
  up_asked_2 = ap (λ (x : Around). x.asked.up) t.rest ∙ ap (λ (w : Asked). w.up) asked_1

  given_2 : Goes a.given c.given t.outs
  given_2 = same_given a.given b.given c.given t.outs given_1 t.gave

  first_2 : TellsEvent datagram_event a.waits.link d
  first_2 = told_first datagram_event a.waits.link b.waits.link d (ap (λ (w : Waits). w.link) waits_1) t.first

  puts_2 : ps ≡ put_of now (first_block a.stream) d
  puts_2 = t.puts ∙ ap (λ (s : Stream). put_of now (first_block s) d) stream_1

  -- at the Ethernet port it ended
  pub ether_stopped : (e : Around) → StopsAtEther c e → StopsIn ps a e
  ether_stopped e h =
      let kept : e.waits.link ≡ c.waits.link = ap (λ (w : Waits). w.link) h.others in
      let up : e.waits.up ≡ c.waits.up = ap (λ (w : Waits). w.up) h.others in
      record {
        t = turn_of now d h.got None;
        breaks = record {
          link = tells_took datagram_event a.waits.link e.waits.link d first_2 (kept ∙ link_2);
          ether = took_there frame_event a.waits.ether c.waits.ether e.waits.ether e.waits.ether h.got ether_2 refl h.took;
          up = took_nothing lower_event a.waits.up e.waits.up (up ∙ up_2);
          outs = t.outs ++ h.outs;
          gave = goes_then a.given c.given e.given t.outs h.outs given_2 h.gave;
        };
        block = first_block a.stream;
        puts = inr puts_2;
      }

  module _ (f : Option Event) (e : Around) (u : TakesEther f c e) where
    stream_3 : e.stream ≡ blocks (length (some_of f)) (blocks (length (some_of d)) a.stream)
    stream_3 = ap (λ (x : Around). x.stream) u.rest ∙ ap (λ (s : Stream). blocks (length (some_of f)) s) stream_2

    clock_3 : e.clock ≡ b.clock
    clock_3 = ap (λ (x : Around). x.clock) u.rest ∙ clock_2

    link_3 : e.waits.link ≡ option_map (drop 1) a.waits.link
    link_3 = ap (λ (x : Around). x.waits.link) u.rest ∙ link_2

    ether_3 : e.waits.ether ≡ option_map (drop 1) a.waits.ether
    ether_3 = ap (λ (x : Around). x.waits.ether) u.rest ∙ ap (λ w. option_map (drop 1) w) ether_2

    up_3 : e.waits.up ≡ a.waits.up
    up_3 = ap (λ (x : Around). x.waits.up) u.rest ∙ up_2

    link_asked_3 : e.asked.link ≡ c.asked.link
    link_asked_3 = ap (λ (x : Around). x.asked.link) u.rest

    up_asked_3 : e.asked.up ≡ a.asked.up
    up_asked_3 = ap (λ (x : Around). x.asked.up) u.rest ∙ up_asked_2

    given_3 : Goes a.given e.given (t.outs ++ u.outs)
    given_3 = goes_then a.given c.given e.given t.outs u.outs given_2 u.gave

    first_3 : TellsEvent frame_event a.waits.ether f
    first_3 = told_first frame_event a.waits.ether c.waits.ether f ether_2 u.first

    -- at the uplink it ended
    pub uplink_stopped : (g : Around) → StopsAtUplink e g → StopsIn ps a g
    uplink_stopped g h =
        let link : g.waits.link ≡ e.waits.link = ap (λ (w : Waits). w.link) h.others in
        let ether : g.waits.ether ≡ e.waits.ether = ap (λ (w : Waits). w.ether) h.others in
        record {
          t = turn_of now d f h.got;
          breaks = record {
            link = tells_took datagram_event a.waits.link g.waits.link d first_2 (link ∙ link_3);
            ether = tells_took frame_event a.waits.ether g.waits.ether f first_3 (ether ∙ ether_3);
            up = took_there lower_event a.waits.up e.waits.up g.waits.up g.waits.up h.got up_3 refl h.took;
            outs = (t.outs ++ u.outs) ++ h.outs;
            gave = goes_then a.given e.given g.given (t.outs ++ u.outs) h.outs given_3 h.gave;
          };
          block = first_block a.stream;
          puts = inr puts_2;
        }

    module _ (l : Option Event) (g : Around) (v : TakesUplink l e g) (n : ℕ) (z : Around) (w : Draws n g z) where
      waits_5 : z.waits ≡ g.waits
      waits_5 = ap (λ (x : Around). x.waits) w.rest

      asked_5 : z.asked ≡ g.asked
      asked_5 = ap (λ (x : Around). x.asked) w.rest

      link_5 : z.waits.link ≡ option_map (drop 1) a.waits.link
      link_5 = ap (λ (x : Waits). x.link) waits_5 ∙ (ap (λ (x : Around). x.waits.link) v.rest ∙ link_3)

      ether_5 : z.waits.ether ≡ option_map (drop 1) a.waits.ether
      ether_5 = ap (λ (x : Waits). x.ether) waits_5 ∙ (ap (λ (x : Around). x.waits.ether) v.rest ∙ ether_3)

      up_5 : z.waits.up ≡ option_map (drop 1) a.waits.up
      up_5 = ap (λ (x : Waits). x.up) waits_5 ∙ (ap (λ (x : Around). x.waits.up) v.rest ∙ ap (λ x. option_map (drop 1) x) up_3)

      given_5 : Goes a.given z.given (((t.outs ++ u.outs) ++ v.outs) ++ w.outs)
      given_5 = goes_then a.given g.given z.given ((t.outs ++ u.outs) ++ v.outs) w.outs (goes_then a.given e.given g.given (t.outs ++ u.outs) v.outs given_3 v.gave) w.gave

      first_4 : TellsEvent lower_event a.waits.up l
      first_4 = told_first lower_event a.waits.up e.waits.up l up_3 v.first

      -- behind the ports it ended
      pub end_stopped : StopsIn ps a z
      end_stopped = record {
        t = turn_of now d f l;
        breaks = record {
          link = tells_took datagram_event a.waits.link z.waits.link d first_2 link_5;
          ether = tells_took frame_event a.waits.ether z.waits.ether f first_3 ether_5;
          up = tells_took lower_event a.waits.up z.waits.up l first_4 up_5;
          outs = ((t.outs ++ u.outs) ++ v.outs) ++ w.outs;
          gave = given_5;
        };
        block = first_block a.stream;
        puts = inr puts_2;
      }

    module _ (l : Option Event) (g : Around) (v : TakesUplink l e g) (z : Around) (w : Draws 1 g z) where
      stream_5 : z.stream ≡ blocks (length (events_of (turn_of now d f l))) a.stream
      stream_5 =
          ap (λ (x : Around). x.stream) w.rest
          ∙ (ap (λ (s : Stream). blocks 1 s) (ap (λ (x : Around). x.stream) v.rest ∙ ap (λ (s : Stream). blocks (length (some_of l)) s) stream_3)
          ∙ five now d f l a.stream)

      -- it was made
      pub turn_made : MakesTurn (turn_of now d f l) ps a z
      turn_made = record {
        moment_is = r.told;
        clock_is = ap (λ (x : Around). x.clock) w.rest ∙ (ap (λ (x : Around). x.clock) v.rest ∙ (clock_3 ∙ ap (λ (x : Around). x.clock) r.rest));
        takes = record {
          datagram = first_2;
          frame = first_3;
          lower = first_4 l g v 1 z w;
          link = link_5 l g v 1 z w;
          ether = ether_5 l g v 1 z w;
          up = up_5 l g v 1 z w;
        };
        asks = (
          asks_there a.asked.link b.asked.link c.asked.link z.asked.link (ap (λ (x : Asked). x.link) asked_1)
              (ap (λ (x : Around). x.asked.link) w.rest ∙ (ap (λ (x : Around). x.asked.link) v.rest ∙ link_asked_3)) t.asks,
          asks_there a.asked.ether c.asked.ether e.asked.ether z.asked.ether ether_asked_2
              (ap (λ (x : Around). x.asked.ether) w.rest ∙ ap (λ (x : Around). x.asked.ether) v.rest) u.asks,
          asks_there a.asked.up e.asked.up g.asked.up z.asked.up up_asked_3 (ap (λ (x : Around). x.asked.up) w.rest) v.asks,
        );
        stream_is = stream_5;
        puts = puts_2;
        outs = ((t.outs ++ u.outs) ++ v.outs) ++ w.outs;
        gave = given_5 l g v 1 z w;
      }

-- at the link it ended
pub link_stopped : (now : ℕ) (a b c : Around) → ReadsClock now a b → StopsAtLink b c → StopsIn [] a c
link_stopped now a b c r h =
    let waits : b.waits ≡ a.waits = ap (λ (x : Around). x.waits) r.rest in
    let ether : c.waits.ether ≡ b.waits.ether = ap (λ (w : Waits). w.ether) h.others in
    let up : c.waits.up ≡ b.waits.up = ap (λ (w : Waits). w.up) h.others in
    record {
      t = turn_of now h.got None None;
      breaks = record {
        link = took_there datagram_event a.waits.link b.waits.link c.waits.link c.waits.link h.got (ap (λ (w : Waits). w.link) waits) refl h.took;
        ether = took_nothing frame_event a.waits.ether c.waits.ether (ether ∙ ap (λ (w : Waits). w.ether) waits);
        up = took_nothing lower_event a.waits.up c.waits.up (up ∙ ap (λ (w : Waits). w.up) waits);
        outs = h.outs;
        gave = same_given a.given b.given c.given h.outs (ap (λ (x : Around). x.given) r.rest) h.gave;
      };
      block = [];
      puts = inl refl;
    }
