-- What is asked of one port, and what is drawn for it, is a part of a turn.
use Rattle.std.proofs.Common.{◌≡◌, ℕ, inl, inr, List, [], length, sym, ap, subst, ◌∙◌}
use Rattle.std.specs.Prelude.{Option, Some, None, drop, option_map}
use Rattle.port_traits.specs.Packets.{Asks}
use Rattle.port_events.specs.declared.end.Event.{Event}
use Rattle.port_events.specs.declared.giving.TurnFault.{TurnFault}
use Rattle.port_events.specs.Feeding.{Given, Goes, some_of}
use Rattle.port_events.specs.Taking.{datagram_event, frame_event, lower_event, TellsEvent, MayTell}
use Rattle.port_turn.specs.Turns.{Waits}
use Rattle.held_ports.specs.Around.{Around, ReadsClock, DrawsBlock, AsksLink, AsksEther, AsksUplink, LinkFails, EtherFails, UplinkFails}
use Rattle.pool_turns.specs.Turns.{blocks, first_block, put_of, Draws, TakesLink, TakesEther, TakesUplink, StopsAtLink, StopsAtEther, StopsAtUplink, Took, Opens}
use Rattle.pool_turns.proofs.Drawing.{goes_none}

goes_from : (p q r : Given) (xs : List _) → q ≡ p → Goes q r xs → Goes p r xs
goes_from p q r xs e g = subst (λ (k : Given). Goes k r xs) e g

tells : {T : Type 0} (make : T → Event) (v w : Option (List T)) (got : Option Event) → TellsEvent make v got → w ≡ option_map (drop 1) v → Took make v w got
tells make v w None t e = inr e
tells make v w (Some x) t e = (t, e)

took_or : {T F : Type 0} (fault : TurnFault F) (make : T → Event) (v w : Option (List T)) → MayTell fault make v w None → Took make v w None
took_or fault make v w (inl e) = inl e
took_or fault make v w (inr e) = inr e.1

module _ (a b c : Around) (got : Option Event) where
  module _ (h : AsksLink got a b) where
    given_l : b.given ≡ a.given
    given_l = ap (λ (k : Around). k.given) h.rest

    stream_l : b.stream ≡ a.stream
    stream_l = ap (λ (k : Around). k.stream) h.rest

    pub takes_link : (now : ℕ) → Draws (length (some_of got)) b c → TakesLink now got (put_of now (first_block b.stream) got) a c
    takes_link now d = record {
      first = h.first;
      asks = subst (λ k. Asks a.asked.link k) (sym (ap (λ (k : Around). k.asked.link) d.rest)) h.asks;
      puts = ap (λ s. put_of now (first_block s) got) stream_l;
      outs = d.outs;
      gave = goes_from a.given b.given c.given d.outs given_l d.gave;
      rest = d.rest ∙ (ap (λ (k : Around). record k { stream = blocks (length (some_of got)) k.stream; given = c.given }) h.rest
          ∙ ap (λ q. record a {
            stream = blocks (length (some_of got)) a.stream;
            given = c.given;
            waits = record a.waits { link = option_map (drop 1) a.waits.link };
            asked = record a.asked { link = q };
          }) (sym (ap (λ (k : Around). k.asked.link) d.rest)));
    }

    pub cut_at_link : (n : ℕ) → Draws n b c → StopsAtLink a c
    cut_at_link n d =
        let same : c.waits ≡ b.waits = ap (λ (k : Around). k.waits) d.rest in
        let waits : c.waits ≡ record a.waits { link = option_map (drop 1) a.waits.link } = same ∙ ap (λ (k : Around). k.waits) h.rest in
        let link : c.waits.link ≡ option_map (drop 1) a.waits.link = ap (λ (w : Waits). w.link) waits in
        record {
          got = got;
          took = tells datagram_event a.waits.link c.waits.link got h.first link;
          others = waits ∙ ap (λ q. record a.waits { link = q }) (sym link);
          outs = d.outs;
          gave = goes_from a.given b.given c.given d.outs given_l d.gave;
        }

  module _ (h : AsksEther got a b) where
    given_e : b.given ≡ a.given
    given_e = ap (λ (k : Around). k.given) h.rest

    pub takes_ether : Draws (length (some_of got)) b c → TakesEther got a c
    takes_ether d = record {
      first = h.first;
      asks = subst (λ k. Asks a.asked.ether k) (sym (ap (λ (k : Around). k.asked.ether) d.rest)) h.asks;
      outs = d.outs;
      gave = goes_from a.given b.given c.given d.outs given_e d.gave;
      rest = d.rest ∙ (ap (λ (k : Around). record k { stream = blocks (length (some_of got)) k.stream; given = c.given }) h.rest
          ∙ ap (λ q. record a {
            stream = blocks (length (some_of got)) a.stream;
            given = c.given;
            waits = record a.waits { ether = option_map (drop 1) a.waits.ether };
            asked = record a.asked { ether = q };
          }) (sym (ap (λ (k : Around). k.asked.ether) d.rest)));
    }

    pub cut_at_ether : (n : ℕ) → Draws n b c → StopsAtEther a c
    cut_at_ether n d =
        let same : c.waits ≡ b.waits = ap (λ (k : Around). k.waits) d.rest in
        let waits : c.waits ≡ record a.waits { ether = option_map (drop 1) a.waits.ether } = same ∙ ap (λ (k : Around). k.waits) h.rest in
        let ether : c.waits.ether ≡ option_map (drop 1) a.waits.ether = ap (λ (w : Waits). w.ether) waits in
        record {
          got = got;
          took = tells frame_event a.waits.ether c.waits.ether got h.first ether;
          others = waits ∙ ap (λ q. record a.waits { ether = q }) (sym ether);
          outs = d.outs;
          gave = goes_from a.given b.given c.given d.outs given_e d.gave;
        }

  module _ (h : AsksUplink got a b) where
    given_u : b.given ≡ a.given
    given_u = ap (λ (k : Around). k.given) h.rest

    pub takes_uplink : Draws (length (some_of got)) b c → TakesUplink got a c
    takes_uplink d = record {
      first = h.first;
      asks = subst (λ k. Asks a.asked.up k) (sym (ap (λ (k : Around). k.asked.up) d.rest)) h.asks;
      outs = d.outs;
      gave = goes_from a.given b.given c.given d.outs given_u d.gave;
      rest = d.rest ∙ (ap (λ (k : Around). record k { stream = blocks (length (some_of got)) k.stream; given = c.given }) h.rest
          ∙ ap (λ q. record a {
            stream = blocks (length (some_of got)) a.stream;
            given = c.given;
            waits = record a.waits { up = option_map (drop 1) a.waits.up };
            asked = record a.asked { up = q };
          }) (sym (ap (λ (k : Around). k.asked.up) d.rest)));
    }

    pub cut_at_uplink : (n : ℕ) → Draws n b c → StopsAtUplink a c
    cut_at_uplink n d =
        let same : c.waits ≡ b.waits = ap (λ (k : Around). k.waits) d.rest in
        let waits : c.waits ≡ record a.waits { up = option_map (drop 1) a.waits.up } = same ∙ ap (λ (k : Around). k.waits) h.rest in
        let up : c.waits.up ≡ option_map (drop 1) a.waits.up = ap (λ (w : Waits). w.up) waits in
        record {
          got = got;
          took = tells lower_event a.waits.up c.waits.up got h.first up;
          others = waits ∙ ap (λ q. record a.waits { up = q }) (sym up);
          outs = d.outs;
          gave = goes_from a.given b.given c.given d.outs given_u d.gave;
        }

module _ {F : Type 0} (fault : TurnFault F) (a b : Around) where
  pub failed_at_link : LinkFails fault a b → StopsAtLink a b
  failed_at_link h =
      let waits : b.waits ≡ record a.waits { link = b.waits.link } = ap (λ (k : Around). k.waits) h.rest in
      record {
        got = None;
        took = took_or fault datagram_event a.waits.link b.waits.link h.takes;
        others = waits;
        outs = [];
        gave = goes_from a.given b.given b.given [] (ap (λ (k : Around). k.given) h.rest) (goes_none b.given);
      }

  pub failed_at_ether : EtherFails fault a b → StopsAtEther a b
  failed_at_ether h =
      let waits : b.waits ≡ record a.waits { ether = b.waits.ether } = ap (λ (k : Around). k.waits) h.rest in
      record {
        got = None;
        took = took_or fault frame_event a.waits.ether b.waits.ether h.takes;
        others = waits;
        outs = [];
        gave = goes_from a.given b.given b.given [] (ap (λ (k : Around). k.given) h.rest) (goes_none b.given);
      }

  pub failed_at_uplink : UplinkFails fault a b → StopsAtUplink a b
  failed_at_uplink h =
      let waits : b.waits ≡ record a.waits { up = b.waits.up } = ap (λ (k : Around). k.waits) h.rest in
      record {
        got = None;
        took = took_or fault lower_event a.waits.up b.waits.up h.takes;
        others = waits;
        outs = [];
        gave = goes_from a.given b.given b.given [] (ap (λ (k : Around). k.given) h.rest) (goes_none b.given);
      }

-- a tunnel was opened
pub opened : (now : ℕ) (a b c : Around) → ReadsClock now a b → Draws 1 b c → Opens a c
opened now a b c r d = record {
  clock_is = ap (λ (k : Around). k.clock) d.rest ∙ ap (λ (k : Around). k.clock) r.rest;
  stream_is = ap (λ (k : Around). k.stream) d.rest ∙ ap (λ (k : Around). blocks 1 k.stream) r.rest;
  waits = ap (λ (k : Around). k.waits) d.rest ∙ ap (λ (k : Around). k.waits) r.rest;
  asks = ap (λ (k : Around). k.asked) d.rest ∙ ap (λ (k : Around). k.asked) r.rest;
  outs = d.outs;
  gave = goes_from a.given b.given c.given d.outs (ap (λ (k : Around). k.given) r.rest) d.gave;
}

pub draws_block : (block : List ℕ) (a b : Around) → DrawsBlock block a b → Draws 1 a b
draws_block block a b h =
    let same : b.given ≡ a.given = ap (λ (k : Around). k.given) h.rest in
    record {
      outs = [];
      gave = goes_from a.given b.given b.given [] same (goes_none b.given);
      rest = h.rest ∙ ap (λ (q : Given). record a { stream = blocks 1 a.stream; given = q }) (sym same);
    }

-- what a port gave, whatever it was
pub got_ether : (got : Option Event) (a b : Around) → TakesEther got a b → (e : Option Event) × TakesEther e a b
got_ether got a b h = (got, h)

pub got_uplink : (got : Option Event) (a b : Around) → TakesUplink got a b → (e : Option Event) × TakesUplink e a b
got_uplink got a b h = (got, h)
