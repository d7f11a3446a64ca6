-- What a letter that a tunnel takes says stands in the machine's list of its other end, from the next place on.
use Rattle.std.proofs.Common.{ℕ, ◌+◌, List, length, ap, ◌∙◌, Option}
use Rattle.std.specs.Prelude.{slice_get}
use Rattle.wire_base.specs.declared.pair.Pair.{Pair}
use Rattle.session_book.specs.Books.{Kept}
use Rattle.end_model.specs.declared.event.Event.{Event}
use Rattle.end_model.specs.declared.moves.Move.{Move}
use Rattle.end_model.specs.Tunnels.{Tunnel}
use Rattle.end_model.specs.End.{End}
use Rattle.world_model.specs.World.{World, Node, Sender, Deed, epoch_of}
use Rattle.step_laws.specs.Letters.{Letter}
use Rattle.connection_laws.specs.Facts.{IsStopCcn}
use Rattle.epoch_machine.specs.Worlds as machine
use Rattle.session_laws.specs.Names.{name}
use Rattle.channel_laws.specs.Accounts.{Account, History, about}
use Rattle.recovery_laws.specs.Asking.{StandFrom}
use Rattle.recovery_laws.specs.Queries.{said_in, questions_in}
use Rattle.join_laws.specs.Steps as steps
use Rattle.join_laws.proofs.Partners.{Partner}
use Rattle.join_laws.proofs.Said.{SaysAt, says_at}
use Rattle.join_laws.proofs.Taking as taking
use Rattle.join_laws.proofs.Taking.{Takes, TookLetter}
use Rattle.recovery_join_laws.proofs.Lists.{stand_from}

module _ (w : World) (h : History) (n : ℕ) (node : Node) (sender : Option Sender) (moment : ℕ) (ev : Event) (m : Move) (x : End) (d : Deed)
    (k : Kept) (j : machine.World) (q : steps.IsMade w h n node sender moment ev m x d k j) (t : Tunnel) (number : ℕ) (ls : List Letter)
    (s : Takes w h n node m x d t number ls) (l : TookLetter w h n node sender moment ev m x d k j q t number ls s)
    (goes_on : IsStopCcn l.letter.message → ⊥) where
  -- whatever it answers, where it is an answer
  pub record SaidThere : Type 0 where
    pub asked : List Pair
    pub stand : StandFrom j (name l.from.node l.from.tunnel) (epoch_of w n (about m))
        (taking.place w h n node sender moment ev m x d k j q t number ls s l goes_on)
        (said_in l.from.node n asked l.letter.session l.letter.message)

  from : Partner h n (about m) (epoch_of w n (about m)) l.from
  from = taking.took_from w h n node sender moment ev m x d k j q t number ls s l goes_on

  abbrev a : Account
  a = h.accounts l.from.node l.from.tunnel (epoch_of w n (about m))

  says : SaysAt l.from.node a.peer (questions_in a.taken) a.given (length (h.accounts n (about m) (epoch_of w n (about m))).taken) l.letter
  says = says_at l.from.node a.peer (questions_in a.taken) a.given (length (h.accounts n (about m) (epoch_of w n (about m))).taken)
      l.letter l.there

  pub said_there : SaidThere
  said_there = record {
    asked = says.asked;
    stand = stand_from j (name l.from.node l.from.tunnel) (epoch_of w n (about m))
        (taking.place w h n node sender moment ev m x d k j q t number ls s l goes_on)
        (said_in l.from.node n says.asked l.letter.session l.letter.message)
        (λ r y is.
        ap (λ c. slice_get c (taking.place w h n node sender moment ev m x d k j q t number ls s l goes_on + r))
        ((q.joined.joined.tunnels l.from.node l.from.tunnel from.node from.fits).sent (epoch_of w n (about m)))
        ∙ says.at_place r y (ap (λ p. slice_get (said_in l.from.node p says.asked l.letter.session l.letter.message) r) from.goes ∙ is));
  }
