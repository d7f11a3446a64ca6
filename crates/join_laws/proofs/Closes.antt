-- Whatever was done, a channel that is closed was closed with no more letters taken than it has taken.
use Rattle.std.proofs.Common.{◌≡◌, ℕ, ◌+◌, ◌≤◌, Bool, true, false, List, [], ◌∷◌, ◌++◌, length, Some, sym, ap, ◌∙◌, arith}
use Rattle.std.proofs.lemmas.List.{length-append}
use Rattle.std.proofs.lemmas.Option.{none-some, same_Some}
use Rattle.std.specs.Prelude.{◌==◌, ◌&&◌, if◌then◌else◌}
use Rattle.end_model.specs.declared.moves.Move.{Move}
use Rattle.end_model.specs.declared.moves.Move.TheVariants as move
use Rattle.world_model.specs.World.{Deed}
use Rattle.channel_laws.specs.Accounts.{Part, Unmade, Opener, Acceptor, Renewed, Taken, Account, declined_by, declined_in, declines_of, about, entered_by, after_deed, History, after, history_from}
use Rattle.join_laws.specs.Steps.{ClosesWithin, AllClose, ChannelsClose}

module _ (d : Deed) (a : Account) (is : ClosesWithin a) where
  more : (t : Taken) → length (a.taken ++ t ∷ []) ≡ length a.taken + 1
  more t = length-append a.taken (t ∷ [])

  -- one more was taken
  took : (t : Taken) (count : ℕ) → a.closed ≡ Some count → count ≤ length (a.taken ++ t ∷ [])
  took t count some = let le = is count some in let one = more t in omega (arith, le, one)

  -- it is closed with what it took
  shuts : (count : ℕ) → Some (length a.taken) ≡ Some count → count ≤ length a.taken
  shuts count some = let same = same_Some (length a.taken) count some in omega (arith, same)

  took_shut : (t : Taken) (count : ℕ) → Some (length a.taken) ≡ Some count → count ≤ length (a.taken ++ t ∷ [])
  took_shut t count some = let le = shuts count some in let one = more t in omega (arith, le, one)

  abbrev took_one : ℕ → Taken
  took_one number = record { sender = d.sender; number = number; move = d.move }

  entered : (m : Move) → ClosesWithin (entered_by d m a)
  entered (move.Opened m) = is
  entered (move.Accepted m) = took (took_one m.taken.number)
  entered (move.Connected m) = took (took_one m.taken.number)
  entered (move.Confirmed m) = took (took_one m.taken.number)
  entered (move.Added m) = is
  entered (move.Requested m) = is
  entered (move.Replied m) = took (took_one m.taken.number)
  entered (move.FirstUp m) = took (took_one m.taken.number)
  entered (move.SecondUp m) = took (took_one m.taken.number)
  entered (move.Refused m) = took (took_one m.taken.number)
  entered (move.EndTold m) = is
  entered (move.EndHeard m) = took (took_one m.taken.number)
  entered (move.EndSilent m) = is
  entered (move.Declined m) = is
  entered (move.Closed m) = shuts
  entered (move.Rejected m) = took_shut (took_one m.taken.number)
  entered (move.ClosedBy m) = took_shut (took_one m.taken.number)
  entered (move.Cleared i booked) = is
  entered (move.Greeted m) = is
  entered (move.TookPlain m) = took (took_one m.taken.number)
  entered (move.NrRead m) = is
  entered (move.LetGo m) = is
  entered (move.Repeated m) = is
  entered (move.Quiet m) = is
  entered (move.Negotiated m) = is
  entered (move.Counted m) = is
  entered (move.FrameSent m) = is
  entered (move.FrameUp m) = is
  entered (move.Restored m) = is
  entered (move.Forgot m) = is
  entered (move.Froze m) = is
  entered (move.ResetAttempting m) = λ count some. absurd (none-some count some)
  entered (move.ResetAnswering m) = λ count some. absurd (none-some count some)
  entered (move.Queried m) = is
  entered (move.AnsweredQuery m) = took (took_one m.taken.number)
  entered (move.TookAnswer m) = took (took_one m.taken.number)
  entered (move.RecoveryWentOn m) = is
  entered (move.RecoveryEnded m) = is
  entered (move.Ignored m) = is

after_one : (d : Deed) (n i e : ℕ) (a : Account) → ClosesWithin a → ClosesWithin (after_deed d n i e a)
after_one d n i e a is = declined (declines_of d.move n i && (e == 0)) _ (by (((d.node == n) && (about d.move == i)) && (d.epoch == e)))
  where
    by : (b : Bool) → ClosesWithin (if b then entered_by d d.move a else a)
    by true = entered d a is d.move
    by false = is

    declined_so : (p : Part) (c : Account) → ClosesWithin c → ClosesWithin (declined_by p c)
    declined_so Opener c so = so
    declined_so Unmade c so = so
    declined_so Acceptor c so = so
    declined_so Renewed c so = so

    declined : (b : Bool) (c : Account) → ClosesWithin c → ClosesWithin (declined_in b c)
    declined true c so = declined_so c.part c so
    declined false c so = so

after_all : (done : List Deed) (h : History) → AllClose h → AllClose (history_from done h)
unfolding history_from
after_all [] h is n i e = is n i e
after_all (d ∷ ds) h is n i e = after_all ds (after h d) (λ n i e. after_one d n i e (h.accounts n i e) (is n i e)) n i e

pub channels_close : ChannelsClose
channels_close = record { first = λ n i e count some. absurd (none-some count some); later = after_all }
