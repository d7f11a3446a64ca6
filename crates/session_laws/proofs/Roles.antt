-- What tunnels say fits the roles of their ends after each move.
use Rattle.std.proofs.Common.{◌≡◌, ⊎_elim, ℕ, zero, suc, true, List, [], ◌∷◌, ◌++◌, length, slice_get, refl, sym, ap, ◌∙◌, subst, append-nil, Option, Some, None, arith, false}
use Rattle.std.specs.List.{AllByRecursion}
use Rattle.id_table.specs.Ids.{at}
use Rattle.id_table.specs.Order.{same_or_not}
use Rattle.control_message.specs.declared.message.Message.{Message}
use Rattle.control_message.specs.declared.message.Message.TheVariants as message
use Rattle.tunnel_fsm.specs.Rows.{state_number}
use Rattle.end_model.specs.declared.event.Event.{Event}
use Rattle.end_model.specs.declared.moves.Place.{Place}
use Rattle.end_model.specs.declared.moves.Move.{Move}
use Rattle.end_model.specs.declared.moves.Move.TheVariants as move
use Rattle.end_names.specs.declared.role.Role.{Role}
use Rattle.end_names.specs.declared.role.Role.TheVariants.{Lac, Lns}
use Rattle.end_model.specs.Tunnels.{Tunnel}
use Rattle.end_model.specs.End.{End}
use Rattle.world_model.specs.World.{Sender, Deed, config_of}
use Rattle.step_laws.specs.Callers.{wanted_by_lac}
use Rattle.step_laws.specs.Letters.{Letter, letters_of}
use Rattle.step_laws.specs.Moves.{Does}
use Rattle.epoch_machine.specs.Worlds as machine
use Rattle.connection_laws.specs.Accounts.{Part, Unmade, Opener, Acceptor, Taken, Account, about, entered_by, takes_at, gives_also, declined_in}
use Rattle.connection_laws.specs.Facts.{Accounts, IsInState, LiveOk}
use Rattle.connection_laws.specs.Steps.{after, IsDeed}
use Rattle.session_laws.specs.Roles.{TookReply, Says, FitsEnd, IsOfEnd, FitEnds}
use Rattle.session_laws.specs.Joined.{Ends}
use Rattle.session_laws.proofs.Keeps.{with_end, IsMade}
use Rattle.session_laws.proofs.Entering.{here_or_not, DeclinesNone, after_here, after_elsewhere, with_here, with_there, with_taken, with_given, taken_as, takes_only, takes_and_gives, gives_only, got_last}
use Rattle.session_laws.proofs.CallRows.{request_role, reply_role, first_role}
use Rattle.frame_laws.proofs.Facts.{all_map, all_at}

-- ---- lists that grow

got_still : {X : Type 0} (xs ys : List X) (k : ℕ) (x : X) → slice_get xs k ≡ Some x → slice_get (xs ++ ys) k ≡ Some x
got_still [] ys k x is = absurd cc
got_still (z ∷ xs) ys zero x is = is
got_still (z ∷ xs) ys (suc k) x is = got_still xs ys k x is

all_more : {X : Type 0} (P : X → Type 0) (xs ys : List X) → AllByRecursion P xs → AllByRecursion P ys → AllByRecursion P (xs ++ ys)
all_more P [] ys h k = k
all_more P (x ∷ xs) ys h k = (h.0, all_more P xs ys h.1 k)

took_still : (a b : Account) (got : List Taken) → b.taken ≡ a.taken ++ got → TookReply a → TookReply b
took_still a b got is h = record {
  number = h.number;
  taken = h.taken;
  there = ap (λ ts. slice_get ts h.number) is ∙ got_still a.taken got h.number h.taken h.there;
  up = h.up;
  up_is = h.up_is;
}

-- what a tunnel said goes on to fit
says_still : (r : Role) (a b : Account) (got : List Taken) → b.taken ≡ a.taken ++ got → (m : Message) → Says r a m → Says r b m
says_still r a b got is (message.Sccrq o) h = h
says_still r a b got is (message.Sccrp o) h = h
says_still r a b got is (message.Scccn response) h = h
says_still r a b got is (message.StopCcn tunnel result error) h = h
says_still r a b got is message.Hello h = h
says_still r a b got is (message.Ocrq session) h = h
says_still r a b got is message.Ocrp h = h
says_still r a b got is message.Occn h = h
says_still r a b got is message.Wen h = h
says_still r a b got is message.Sli h = h
says_still r a b got is (message.Fsq sessions) h = h
says_still r a b got is (message.Fsr sessions) h = h
says_still r a b got is (message.Icrq session serial calling) h = h
says_still r a b got is (message.Icrp session) h = h
says_still r a b got is (message.Iccn speed framing sequenced) h = (h.0, took_still a b got is h.1)
says_still r a b got is (message.Cdn session result error) h = h

-- ---- accounts that grow

module _ (r : Role) (a : Account) (h : FitsEnd r a) where
  fits_more : (b : Account) (more : List Letter) (got : List Taken) → b.given ≡ a.given ++ more → b.taken ≡ a.taken ++ got → (b.part ≡ Opener → r ≡ Lac)
      → AllByRecursion (λ (l : Letter). Says r b l.message) more → FitsEnd r b
  fits_more b more got given taken opens says = record {
    opens = opens;
    says = subst (λ ls. AllByRecursion (λ (l : Letter). Says r b l.message) ls) (sym given)
        (all_more (λ (l : Letter). Says r b l.message) a.given more
        (all_map (λ (l : Letter). Says r a l.message) (λ (l : Letter). Says r b l.message) (λ l. says_still r a b got taken l.message) a.given h.says) says);
  }

  -- in a move by which the tunnel is as b before it gives and takes letters
  module _ (d : Deed) (n : ℕ) (sender : Option Sender) (m : Move) (deed : IsDeed d n r sender m) (b : Account) (given : b.given ≡ a.given)
      (taken : b.taken ≡ a.taken) (opens : b.part ≡ Opener → r ≡ Lac) where
    abbrev more : List Letter
    more = letters_of r (config_of n 0 None false) m

    given_fits : AllByRecursion (λ (l : Letter). Says r (with_given more b) l.message) more → FitsEnd r (gives_also d b)
    given_fits says = subst (FitsEnd r) (sym (gives_only d n r sender m b deed))
        (fits_more (with_given more b) more [] (ap (λ ls. ls ++ more) given) (taken ∙ sym (append-nil a.taken)) opens says)

    module _ (place : Place) where
      abbrev tk : Taken
      tk = taken_as sender place m

      taken_fits : FitsEnd r (takes_at d place b)
      taken_fits = subst (FitsEnd r) (sym (takes_only d n r sender m place b deed))
          (fits_more (with_taken tk [] b) [] (tk ∷ []) (ap (λ ls. ls ++ []) given) (ap (λ ts. ts ++ tk ∷ []) taken) opens tt)

      both_fit : AllByRecursion (λ (l : Letter). Says r (with_taken tk more b) l.message) more → FitsEnd r (gives_also d (takes_at d place b))
      both_fit says = subst (FitsEnd r) (sym (takes_and_gives d n r sender m place b deed))
          (fits_more (with_taken tk more b) more (tk ∷ []) (ap (λ ls. ls ++ more) given) (ap (λ ts. ts ++ tk ∷ []) taken) opens says)

-- an opener is declined
pub declined_fits : (o : Option End) (a : Account) → a.part ≡ Opener → IsOfEnd o a → IsOfEnd o (declined_in true a)
declined_fits None a opener h = absurd cc
declined_fits (Some e) a opener h =
    fits_more e.role a h (declined_in true a) [] [] (sym (append-nil a.given)) (sym (append-nil a.taken)) h.opens tt

pub lac_not_lns : (r : Role) → r ≡ Lac → r ≡ Lns → ⊥
lac_not_lns r lac lns = let no : Lac ≡ Lns = sym lac ∙ lns in cc

-- ---- who gave a letter

-- the tunnel is of an end whose role the letter fits
pub record Giver (b : Account) (m : Message) : Type 0 where
  pub role : Role
  pub fits : FitsEnd role b
  pub says : Says role b m

pub giver_of : (o : Option End) (b : Account) (k : ℕ) (l : Letter) → IsOfEnd o b → slice_get b.given k ≡ Some l → Giver b l.message
giver_of None b k l h there = let g = rw h at there in let no : ⊥ = cc in absurd no
giver_of (Some e) b k l h there = record {
  role = e.role;
  fits = h;
  says = all_at (λ (l : Letter). Says e.role b l.message) b.given k l there h.says;
}

-- ---- each move

-- a tunnel that waits for its SCCRP was opened
waits_opened : (accs : Accounts) (i : ℕ) (a : Account) (t : Tunnel) → state_number t.control.state ≡ 1 → (p : Part) → IsInState accs i a t p → p ≡ Opener
waits_opened accs i a t one Unmade h = absurd h
waits_opened accs i a t one Opener h = refl
waits_opened accs i a t one Acceptor h = ⊎_elim
    (λ two. absurd (omega (arith, one, two.0)))
    (λ more. ⊎_elim (λ three. absurd (omega (arith, one, three.0))) (λ four. absurd (omega (arith, one, four.0))) more)
    h

module _ (accs : Accounts) (n : ℕ) (e x : End) (sender : Option Sender) (moment : ℕ) (ev : Event) (d : Deed) where
  entered_fits : (m : Move) → IsDeed d n e.role sender m → Does e moment ev m x → FitsEnd e.role (accs n (about m))
      → ((t : Tunnel) → at e.tunnels (about m) ≡ Some t → LiveOk accs n (about m) (accs n (about m)) t)
      → FitsEnd e.role (entered_by d m (accs n (about m)))
  entered_fits (move.Opened m) deed does h live =
      let lac = wanted_by_lac e ev m.peer does.wants in
      given_fits e.role _ h d n sender (move.Opened m) deed _ refl refl (λ is. lac) (lac, tt)
  entered_fits (move.Accepted m) deed does h live =
      both_fit e.role _ h d n sender (move.Accepted m) deed _ refl refl (λ is. absurd cc) m.taken (tt, tt)
  entered_fits (move.Connected m) deed does h live =
      let opened = waits_opened accs m.tunnel (accs n m.tunnel) does.tunnel (ap state_number does.state) (accs n m.tunnel).part (live does.tunnel does.there).state in
      both_fit e.role _ h d n sender (move.Connected m) deed _ refl refl h.opens m.taken (h.opens opened, tt)
  entered_fits (move.Confirmed m) deed does h live = taken_fits e.role _ h d n sender (move.Confirmed m) deed _ refl refl h.opens m.taken
  entered_fits (move.Added m) deed does h live = h
  entered_fits (move.Requested m) deed does h live =
      given_fits e.role _ h d n sender (move.Requested m) deed _ refl refl h.opens (request_role e.role does.call.state does.row, tt)
  entered_fits (move.Replied m) deed does h live =
      both_fit e.role _ h d n sender (move.Replied m) deed _ refl refl h.opens m.taken (reply_role e.role does.row, tt)
  entered_fits (move.FirstUp m) deed does h live =
      let tk = taken_as sender m.taken (move.FirstUp m) in
      both_fit e.role _ h d n sender (move.FirstUp m) deed _ refl refl h.opens m.taken (
        (
          first_role e.role does.call.state does.row,
          record {
            number = length (accs n m.tunnel).taken;
            taken = tk;
            there = got_last (accs n m.tunnel).taken tk;
            up = m;
            up_is = refl;
          },
        ),
        tt,
      )
  entered_fits (move.SecondUp m) deed does h live = taken_fits e.role _ h d n sender (move.SecondUp m) deed _ refl refl h.opens m.taken
  entered_fits (move.Refused m) deed does h live = both_fit e.role _ h d n sender (move.Refused m) deed _ refl refl h.opens m.taken (tt, tt)
  entered_fits (move.EndTold m) deed does h live = given_fits e.role _ h d n sender (move.EndTold m) deed _ refl refl h.opens (tt, tt)
  entered_fits (move.EndHeard m) deed does h live = taken_fits e.role _ h d n sender (move.EndHeard m) deed _ refl refl h.opens m.taken
  entered_fits (move.EndSilent m) deed does h live = h
  entered_fits (move.Declined m) deed does h live = h
  entered_fits (move.Closed m) deed does h live = given_fits e.role _ h d n sender (move.Closed m) deed _ refl refl h.opens (tt, tt)
  entered_fits (move.Rejected m) deed does h live = both_fit e.role _ h d n sender (move.Rejected m) deed _ refl refl h.opens m.taken (tt, tt)
  entered_fits (move.ClosedBy m) deed does h live = taken_fits e.role _ h d n sender (move.ClosedBy m) deed _ refl refl h.opens m.taken
  entered_fits (move.Cleared i booked) deed does h live = h
  entered_fits (move.Greeted m) deed does h live = given_fits e.role _ h d n sender (move.Greeted m) deed _ refl refl h.opens (tt, tt)
  entered_fits (move.TookPlain m) deed does h live = taken_fits e.role _ h d n sender (move.TookPlain m) deed _ refl refl h.opens m.taken
  entered_fits (move.NrRead m) deed does h live = h
  entered_fits (move.LetGo m) deed does h live = h
  entered_fits (move.Repeated m) deed does h live = h
  entered_fits (move.Quiet i) deed does h live = h
  entered_fits (move.Negotiated m) deed does h live = h
  entered_fits (move.Counted m) deed does h live = h
  entered_fits (move.FrameSent m) deed does h live = h
  entered_fits (move.FrameUp m) deed does h live = h
  entered_fits m deed does h live = h

-- ---- all tunnels

module _ (accs : Accounts) (ends : Ends) (w : machine.World) (n : ℕ) (e x : End) (sender : Option Sender) (moment : ℕ) (ev : Event) (m : Move) (d : Deed)
    (h : IsMade accs ends w n e x sender moment ev m d) where
  -- a tunnel of the node before the move
  pub fits_before : (i : ℕ) → FitsEnd e.role (accs n i)
  fits_before i = subst (λ o. IsOfEnd o (accs n i)) h.here (h.joined.fit n i)

  -- a role never changes
  of_node : x.role ≡ e.role → (i : ℕ) → FitsEnd e.role (after accs d n i) → IsOfEnd (with_end ends n x n) (after accs d n i)
  of_node role i f = subst (λ o. IsOfEnd o (after accs d n i)) (sym (with_here ends n x)) (rw role f)

  pub fit_on : DeclinesNone m → x.role ≡ e.role → FitEnds (after accs d) (with_end ends n x)
  fit_on none role k j = ⊎_elim
      (λ (p : (k ≡ n) × (j ≡ about m)).
      rw (p.0, p.1) (of_node role (about m)
      (subst (FitsEnd e.role) (sym (after_here accs d n m h.moved.deed.node_is h.moved.deed.move_is none))
      (entered_fits accs n e x sender moment ev d m h.moved.deed h.moved.does (fits_before (about m)) (h.moved.within.end.live (about m))))))
      (λ (apart : (k ≡ n) × (j ≡ about m) → ⊥). elsewhere apart)
      (here_or_not k n j (about m))
    where
      elsewhere : ((k ≡ n) × (j ≡ about m) → ⊥) → IsOfEnd (with_end ends n x k) (after accs d k j)
      elsewhere apart =
          subst (IsOfEnd (with_end ends n x k)) (sym (after_elsewhere accs d n m h.moved.deed.node_is h.moved.deed.move_is none k j apart))
          (⊎_elim
          (λ (p : k ≡ n). subst (λ q. IsOfEnd (with_end ends n x q) (accs q j)) (sym p)
          (subst (λ o. IsOfEnd o (accs n j)) (sym (with_here ends n x)) (rw role (fits_before j))))
          (λ other. subst (λ o. IsOfEnd o (accs k j)) (sym (with_there ends n x k other)) (h.joined.fit k j))
          (same_or_not k n))
