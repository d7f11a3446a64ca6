-- What a step sends is so at an end of its chain of moves, and stays so as the chain goes on.
use Rattle.std.proofs.Common.{◌≡◌, inl, inr, ⊎_elim, ℕ, List, [], ◌++◌, refl, sym, ap, ◌∙◌, Some}
use Rattle.std.proofs.lemmas.List.{append-nil, append_assoc}
use Rattle.id_table.specs.Ids.{at}
use Rattle.end_model.specs.declared.event.Event.{Event}
use Rattle.end_model.specs.declared.out.Out.{Out}
use Rattle.end_model.specs.declared.out.Out.TheVariants.{Send, Up, Gone, Drop, Cause}
use Rattle.end_model.specs.declared.moves.Move.{Move}
use Rattle.end_model.specs.Tunnels.{Tunnel}
use Rattle.end_model.specs.End.{End, Stepped}
use Rattle.step_laws.specs.Moves.{Chain}
use Rattle.step_laws.specs.Steps.{InChain, IsSent, IsDecline, IsOfMoves, IsChain}
use Rattle.step_laws.proofs.Lists.{all_append, all_map, among_left, among_right, chain_append}
use Rattle.step_laws.proofs.Outputs.{output_within, frames_more}
use Rattle.step_laws.proofs.Turns.{IsWord}
use Rattle.step_laws.proofs.Settling.{OutOk, goes_nowhere, carries_on}

module _ (moment : ℕ) (ev : Event) where
  -- ---- one chain

  module _ (e : End) (ms : List Move) (x : End) where
    -- the last end of a chain is one of its ends
    abbrev pub at_last : Chain moment ev e ms x → InChain moment ev e ms x
    at_last h = record { made = ms; rest = []; moves_are = sym (append-nil ms); end = x; comes = h; goes = refl }

    pub word_is : (o : Out) → IsWord o → IsOfMoves moment ev e ms x o
    word_is (Gone session) h = tt
    word_is (Drop w) h = tt
    word_is (Cause c) h = tt
    word_is (Send p bytes o) h = absurd h
    word_is (Up session side frame) h = absurd h

    -- what is sent in a tunnel of one of its ends
    pub ok_is : (c : InChain moment ev e ms x) (i : ℕ) (t : Tunnel) → at c.end.tunnels i ≡ Some t → (o : Out) → OutOk c.end.role c.end.config t c.made o → IsOfMoves moment ev e ms x o
    ok_is c i t is (Send p bytes o) h = inl (record { amid = c; id = i; tunnel = t; there = is; peer_is = h.0; carries = h.1 })
    ok_is c i t is (Up session side frame) h = absurd h
    ok_is c i t is (Gone session) h = tt
    ok_is c i t is (Drop w) h = tt
    ok_is c i t is (Cause w) h = tt

  -- ---- a chain and one behind it

  module _ (e y x : End) (ms ns : List Move) where
    -- each end of the first is one of the whole
    abbrev in_first : Chain moment ev y ns x → InChain moment ev e ms y → InChain moment ev e (ms ++ ns) x
    in_first more c = record {
      made = c.made;
      rest = c.rest ++ ns;
      moves_are = ap (λ qs. qs ++ ns) c.moves_are ∙ append_assoc c.made c.rest ns;
      end = c.end;
      comes = c.comes;
      goes = chain_append moment ev c.end y x c.rest ns c.goes more;
    }

    -- and so is each end of the second
    abbrev in_second : Chain moment ev e ms y → InChain moment ev y ns x → InChain moment ev e (ms ++ ns) x
    in_second first c = record {
      made = ms ++ c.made;
      rest = c.rest;
      moves_are = ap (λ qs. ms ++ qs) c.moves_are ∙ sym (append_assoc ms c.made c.rest);
      end = c.end;
      comes = chain_append moment ev e y c.end ms c.made first c.comes;
      goes = c.goes;
    }

    of_first : Chain moment ev y ns x → (o : Out) → IsOfMoves moment ev e ms y o → IsOfMoves moment ev e (ms ++ ns) x o
    of_first more (Send p bytes o) h = ⊎_elim
        (λ (s : IsSent moment ev e ms y p bytes o). inl (record {
          amid = in_first more s.amid;
          id = s.id;
          tunnel = s.tunnel;
          there = s.there;
          peer_is = s.peer_is;
          carries = s.carries;
        }))
        (λ (d : IsDecline ms p bytes o). inr (record {
          declined = d.declined;
          there = among_left _ ms ns d.there;
          peer_is = d.peer_is;
          bytes_are = d.bytes_are;
          origin_is = d.origin_is;
        }))
        h
    of_first more (Up session side frame) h = record { tunnel = h.tunnel; peer = h.peer; there = among_left _ ms ns h.there }
    of_first more (Gone session) h = tt
    of_first more (Drop w) h = tt
    of_first more (Cause w) h = tt

    of_second : Chain moment ev e ms y → (o : Out) → IsOfMoves moment ev y ns x o → IsOfMoves moment ev e (ms ++ ns) x o
    of_second first (Send p bytes o) h = ⊎_elim
        (λ (s : IsSent moment ev y ns x p bytes o). inl (record {
          amid = in_second first s.amid;
          id = s.id;
          tunnel = s.tunnel;
          there = s.there;
          peer_is = s.peer_is;
          carries = carries_on s.tunnel s.tunnel (goes_nowhere s.tunnel) s.amid.made (ms ++ s.amid.made) (λ m a. among_right m ms s.amid.made a) bytes o
              s.carries;
        }))
        (λ (d : IsDecline ns p bytes o). inr (record {
          declined = d.declined;
          there = among_right _ ms ns d.there;
          peer_is = d.peer_is;
          bytes_are = d.bytes_are;
          origin_is = d.origin_is;
        }))
        h
    of_second first (Up session side frame) h = record { tunnel = h.tunnel; peer = h.peer; there = among_right _ ms ns h.there }
    of_second first (Gone session) h = tt
    of_second first (Drop w) h = tt
    of_second first (Cause w) h = tt

  -- a step and one behind it make one
  pub both_chain : (e : End) (s q : Stepped) → IsChain e moment ev s → IsChain s.end moment ev q
      → IsChain e moment ev (record { end = q.end; outputs = s.outputs ++ q.outputs; moves = s.moves ++ q.moves })
  both_chain e s q h k = record {
    chain = chain_append moment ev e s.end q.end s.moves q.moves h.chain k.chain;
    outputs = all_append _ s.outputs q.outputs (all_map _ _ (of_first e s.end q.end s.moves q.moves k.chain) s.outputs h.outputs)
        (all_map _ _ (of_second e s.end q.end s.moves q.moves h.chain) q.outputs k.outputs);
    frames = all_append _ s.moves q.moves (frames_more s.outputs q.outputs s.moves h.frames)
        (all_map _ _ (output_within q.outputs (s.outputs ++ q.outputs) (λ o a. among_right o s.outputs q.outputs a)) q.moves k.frames);
    kept = k.kept;
  }
