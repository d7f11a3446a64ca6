-- The next letter that a live tunnel hears: which letter of its sender's it is, and what its numbers tell.
use Rattle.std.proofs.Common.{◌≡◌, ◌⊎◌, inl, inr, ⊎_elim, ℕ, zero, suc, ◌+◌, ◌<◌, ◌≤◌, List, [], ◌∷◌, drop, length, refl, sym, ap, ◌∙◌, subst, Option, Some, arith}
use Rattle.std.proofs.lemmas.Option.{slice_get_within}
use Rattle.std.specs.Prelude.{slice_get, unwrap_or}
use Rattle.std.specs.List.{AllByRecursion}
use Rattle.id_table.specs.Ids.{at}
use Rattle.id_table.specs.Order.{same_or_not}
use Rattle.l2tp_header.specs.declared.header.Header.{Header}
use Rattle.control_message.specs.declared.message.Message.{Message}
use Rattle.control_message.specs.declared.message.Message.TheVariants.{Sccrp}
use Rattle.control_message.specs.declared.message.Opening.{Opening}
use Rattle.recv_window.specs.declared.Class.TheVariants.{Next}
use Rattle.recv_window.specs.Window.{class_of, ClassIsTrue}
use Rattle.end_model.specs.declared.event.Event.{Event}
use Rattle.end_model.specs.declared.out.ControlOrigin.{ControlOrigin}
use Rattle.l2tp_header.specs.Reading.{body_of}
use Rattle.end_model.specs.Tunnels.{Tunnel}
use Rattle.end_model.specs.End.{End}
use Rattle.world_model.specs.World.{Sender}
use Rattle.step_laws.specs.Letters.{Letter}
use Rattle.step_laws.specs.Moves.{HearsNext}
use Rattle.frame_laws.specs.Codecs.{Codecs}
use Rattle.frame_laws.specs.Plain.{AreAlike, IsReadAs}
use Rattle.connection_laws.specs.Accounts.{Opener, Acceptor, Account}
use Rattle.connection_laws.specs.Facts.{Accounts, IsMade, IsSpelled, IsNoStop, IsStopCcn, IsClosed, IsLost, HasStopped, BeginsWith, IsOpener, IsAcceptor, AreJoined, partner_in, IsAnswered, AreAcked, AccountOk, Comes, Within}
use Rattle.connection_laws.proofs.Numbers.{next_is_expected}
use Rattle.connection_laws.proofs.Alike.{read_alike}
use Rattle.connection_laws.proofs.Hearing.{all_at, opener_of, acceptor_of, sender_in, Sends, Chosen, Asks, Leaves, Linked, FromOpener, FromAcceptor, IsLetterRead, letter_said, Heard, heard_to, said_in, heard_said}

-- ---- two tunnels that have learned each other

abbrev pub IsPaired : Accounts → ℕ → ℕ → Type 0
IsPaired accs n i =
    (((accs n i).part ≡ Opener) × ((accs n i).remote ≡ 0 → ⊥)) ⊎ (((accs n i).part ≡ Acceptor) × ((partner_in accs (accs n i)).remote ≡ i))

-- what a tunnel and its partner know of each other, whichever of them was opened: an opener may have taken two letters of another
-- acceptor of its SCCRQ
pub record AreMates (a b : Account) : Type 0 where
  pub few_here : length a.given ≤ length b.taken + 8192
  pub few_there : length b.given ≤ length a.taken + 8192
  pub taken : length b.taken ≤ length a.given + 2

acceptor_made : (a : Account) → a.part ≡ Acceptor → IsMade a
acceptor_made a e z = cc

-- an acceptor that its opener has learned is that one's partner
partner_back : (accs : Accounts) (n i : ℕ) → IsAcceptor accs n i (accs n i) → (partner_in accs (accs n i)).remote ≡ i
    → partner_in accs (partner_in accs (accs n i)) ≡ accs n i
partner_back accs n i acceptor chosen = let p = acceptor.peer in cc

-- the opener of an acceptor that it has learned is joined with it
pub joined_opener : (accs : Accounts) (n i : ℕ) → ((m j : ℕ) → AccountOk accs m j (accs m j)) → (accs n i).part ≡ Acceptor
    → (partner_in accs (accs n i)).remote ≡ i → AreJoined (partner_in accs (accs n i)) (accs n i)
joined_opener accs n i all here chosen =
    let a = accs n i in
    let acceptor = acceptor_of accs n i a (all n i) here in
    let some = (all n i).some (acceptor_made a here) in
    let b = partner_in accs a in
    let opener = opener_of accs a.peer a.remote b (all a.peer a.remote) acceptor.part in
    let known = λ (z : b.remote ≡ 0). let no : ⊥ = omega (arith, chosen, z, some) in no in
    subst (λ (x : Account). AreJoined b x) (partner_back accs n i acceptor chosen) (opener.joined known)

opener_mates : (a b : Account) → AreJoined a b → AreMates a b
opener_mates a b h = record { few_here = h.few_here; few_there = h.few_there; taken = (let le = h.there in omega arith) }

acceptor_mates : (a b : Account) → AreJoined b a → AreMates a b
acceptor_mates a b h = record {
  few_here = h.few_there;
  few_there = h.few_here;
  taken = ⊎_elim
      (λ (le : length b.taken ≤ length a.given). omega arith)
      (λ (k : IsClosed b × (length b.taken ≤ 2)). let two = k.1 in omega arith)
      h.here;
}

pub mates : (accs : Accounts) (n i : ℕ) → ((m j : ℕ) → AccountOk accs m j (accs m j)) → IsPaired accs n i → AreMates (accs n i) (partner_in accs (accs n i))
mates accs n i all pair =
    let a = accs n i in
    let b = partner_in accs a in
    ⊎_elim
    (λ (k : (a.part ≡ Opener) × (a.remote ≡ 0 → ⊥)). opener_mates a b ((opener_of accs n i a (all n i) k.0).joined k.1))
    (λ (k : (a.part ≡ Acceptor) × (b.remote ≡ i)). acceptor_mates a b (joined_opener accs n i all k.0 k.1))
    pair

-- ---- tunnels that gave two letters at most

-- all but the first are StopCCNs
pub stops_later : (given : List Letter) → AllByRecursion (λ (l : Letter). IsStopCcn l.message) (drop 1 given) → (k : ℕ) (l : Letter)
    → slice_get given k ≡ Some l → (k ≡ 0 → ⊥) → IsStopCcn l.message
stops_later [] all k l is some = absurd cc
stops_later (x ∷ xs) all zero l is some = absurd (some refl)
stops_later (x ∷ xs) all (suc k) l is some = all_at (λ (y : Letter). IsStopCcn y.message) xs k l is all

-- an opener that has learned none
pub record IsSmall (a : Account) : Type 0 where
  pub given : length a.given ≤ 2
  pub taken : length a.taken ≤ 2

pub unlearned_small : (accs : Accounts) (n i : ℕ) (a : Account) → IsOpener accs n i a → a.remote ≡ 0 → IsSmall a
unlearned_small accs n i a h none = record {
  given = ⊎_elim (λ (one : length a.given ≡ 1). omega arith) (λ (k : IsLost a × (length a.given ≤ 2)). k.1) (h.one_given none);
  taken = ⊎_elim (λ (k : a.taken ≡ []). let none_taken = ap length k in omega arith) (λ (k : IsLost a × (length a.taken ≤ 2)). k.1) (h.none none);
}

-- an acceptor that its opener hasn't learned
pub record IsAlone (opener acceptor : Account) : Type 0 where
  pub some : 1 ≤ length acceptor.taken
  pub taken : (length acceptor.taken ≡ 1) ⊎ (IsLost opener × (length acceptor.taken ≤ 2))
  pub given : (length acceptor.given ≡ 1) ⊎ HasStopped acceptor

pub alone_small : (a b : Account) → IsAlone a b → IsSmall b
alone_small a b h = record {
  given = ⊎_elim (λ (one : length b.given ≡ 1). omega arith) (λ (k : HasStopped b). k.few) h.given;
  taken = ⊎_elim (λ (one : length b.taken ≡ 1). omega arith) (λ (k : IsLost a × (length b.taken ≤ 2)). k.1) h.taken;
}

-- it took one letter, where its opener isn't lost
pub alone_one : (a b : Account) → IsAlone a b → (IsLost a → ⊥) → length b.taken ≡ 1
alone_one a b h found = ⊎_elim (λ one. one) (λ (k : IsLost a × (length b.taken ≤ 2)). absurd (found k.0)) h.taken

-- ---- the next letter

-- what a tunnel takes is of the tunnel that it has learned, which has learned it, or it is the SCCRP of an acceptor of its SCCRQ; or it
-- is ignored: one of an acceptor, where the tunnel is lost, the StopCCN of another acceptor of its SCCRQ, or that of its opener, which is
-- lost
pub data TakesOf (accs : Accounts) (n i : ℕ) (o : ControlOrigin) (l : Letter) : Type 0 where
  OfPartner : IsPaired accs n i → (accs n i).remote ≡ o.tunnel → TakesOf accs n i o l
  OfFirst : (accs n i).part ≡ Opener → (accs n i).remote ≡ 0 → (accs n i).taken ≡ [] → (sender_in accs n i o).part ≡ Acceptor
      → (sender_in accs n i o).remote ≡ i → (sender_in accs n i o).peer ≡ n → (opening : Opening) → l.message ≡ Sccrp opening
      → opening.tunnel ≡ o.tunnel → TakesOf accs n i o l
  OfLost : (accs n i).part ≡ Opener → IsLost (accs n i) → length (accs n i).taken ≤ 1 → TakesOf accs n i o l
  OfOther : (accs n i).part ≡ Opener → ((accs n i).remote ≡ 0 → ⊥) → length (accs n i).taken ≤ 1 → IsStopCcn l.message → TakesOf accs n i o l
  OfOpener : (accs n i).part ≡ Acceptor → IsLost (partner_in accs (accs n i)) → length (accs n i).taken ≤ 1 → IsStopCcn l.message
      → TakesOf accs n i o l

pub record HeardNext (accs : Accounts) (n i : ℕ) (o : ControlOrigin) (h : Header) (bytes : List ℕ) : Type 0 where
  pub letter : Letter
  pub there : slice_get (sender_in accs n i o).given (length (accs n i).taken) ≡ Some letter
  pub number : o.ns ≡ length (accs n i).taken
  pub session : h.session ≡ letter.session
  pub reads : IsReadAs letter.message (body_of bytes h)
  pub spelled : IsSpelled letter
  pub of : TakesOf accs n i o letter

pub first_is : (i : ℕ) (says : Opening → Message) (given : List Letter) → BeginsWith i says given → (l : Letter) → slice_get given 0 ≡ Some l
    → (opening : Opening) × (l.message ≡ says opening) × (opening.tunnel ≡ i)
first_is i says given begins l there =
    let is : slice_get (begins.first ∷ begins.rest) 0 ≡ Some l = (let a = begins.are in rw a at there) in
    let same : begins.first ≡ l = cc in
    (begins.opening, subst (λ (x : Letter). x.message ≡ says begins.opening) same begins.says_so, begins.id)

-- a tunnel that names its partner isn't chosen by it, where that one has learned another id, or none
pub not_chosen : (accs : Accounts) (n i : ℕ) (o : ControlOrigin) → (sender_in accs n i o).remote ≡ i → (sender_in accs n i o).peer ≡ n
    → ((accs n i).remote ≡ o.tunnel → ⊥) → (partner_in accs (sender_in accs n i o)).remote ≡ o.tunnel → ⊥
not_chosen accs n i o remote peer apart chosen =
    let b = sender_in accs n i o in
    let same : partner_in accs b ≡ accs n i = cc in
    apart (sym (ap (λ (x : Account). x.remote) same) ∙ chosen)

-- an acceptor that isn't learned
pub acceptor_alone : (accs : Accounts) (n i : ℕ) (o : ControlOrigin) → ((m j : ℕ) → AccountOk accs m j (accs m j))
    → (sender_in accs n i o).part ≡ Acceptor → (sender_in accs n i o).remote ≡ i → (sender_in accs n i o).peer ≡ n
    → ((accs n i).remote ≡ o.tunnel → ⊥) → IsAlone (accs n i) (sender_in accs n i o)
acceptor_alone accs n i o all part remote peer apart =
    let b = sender_in accs n i o in
    let acceptor = acceptor_of accs (accs n i).peer o.tunnel b (all (accs n i).peer o.tunnel) part in
    let no = not_chosen accs n i o remote peer apart in
    let same : partner_in accs b ≡ accs n i = cc in
    record {
      some = acceptor.some;
      taken = subst (λ (x : Account). (length b.taken ≡ 1) ⊎ (IsLost x × (length b.taken ≤ 2))) same (acceptor.one_taken no);
      given = acceptor.one_given no;
    }

module _ (classes : ClassIsTrue) (accs : Accounts) (n : ℕ) (e : End) (sender : Option Sender) (ev : Event) (within : Within accs n e sender ev)
    (i : ℕ) (t : Tunnel) (there : at e.tunnels i ≡ Some t) (h : Header) (bytes : List ℕ) (k : Heard accs n e sender ev within.comes i t h bytes) where
  abbrev a : Account
  a = accs n i

  abbrev b : Account
  b = sender_in accs n i k.o

  same_partner : a.remote ≡ k.o.tunnel → partner_in accs a ≡ b
  same_partner told = ap (λ (r : ℕ). accs a.peer r) told

  -- an opener that has learned the sender, or an acceptor that the sender has learned, is its pair
  opener_paired : a.part ≡ Opener → a.remote ≡ k.o.tunnel → IsPaired accs n i
  opener_paired here told =
      let from = (within.accounts a.peer k.o.tunnel).some k.made in
      inl (here, λ z. let no : ⊥ = omega arith in no)

  acceptor_paired : a.part ≡ Acceptor → a.remote ≡ k.o.tunnel → b.remote ≡ i → IsPaired accs n i
  acceptor_paired here told chosen = inr (here, ap (λ (x : Account). x.remote) (same_partner told) ∙ chosen)

  alone : b.part ≡ Acceptor → b.remote ≡ i → b.peer ≡ n → (a.remote ≡ k.o.tunnel → ⊥) → IsAlone a b
  alone part remote peer apart = acceptor_alone accs n i k.o within.accounts part remote peer apart

  -- the sender is an opener that is lost
  lost_small : b.part ≡ Opener → IsLost b → IsSmall b
  lost_small part lost = unlearned_small accs a.peer k.o.tunnel b (opener_of accs a.peer k.o.tunnel b (within.accounts a.peer k.o.tunnel) part) lost.1

  -- ---- Ns

  few_of_pair : IsPaired accs n i → a.remote ≡ k.o.tunnel → k.o.ns < length b.given → k.o.ns ≤ length a.taken + 8192
  few_of_pair pair told bound =
      let few = (mates accs n i within.accounts pair).few_there in
      let more : length b.given ≤ length a.taken + 8192 = rw (same_partner told) at few in
      omega arith

  -- no letter is far ahead of those that were taken
  pub ns_few : k.o.ns < length b.given → k.o.ns ≤ length a.taken + 8192
  ns_few bound = by k.linked
    where
      of_opener : a.part ≡ Acceptor → a.remote ≡ k.o.tunnel → b.part ≡ Opener → Sends b i k.o → k.o.ns ≤ length a.taken + 8192
      of_opener here told part (Chosen chosen) = few_of_pair (acceptor_paired here told chosen) told bound
      of_opener here told part (Asks first how) = omega arith
      of_opener here told part (Leaves lost stops) = let two = (lost_small part lost).given in omega arith

      by : Linked accs n i k.o → k.o.ns ≤ length a.taken + 8192
      by (FromOpener here told part which) = of_opener here told part which
      by (FromAcceptor here part remote peer) =
          ⊎_elim
          (λ (told : a.remote ≡ k.o.tunnel). few_of_pair (opener_paired here told) told bound)
          (λ (apart : a.remote ≡ k.o.tunnel → ⊥).
          let two = (alone_small a b (alone part remote peer apart)).given in
          omega arith)
          (same_or_not a.remote k.o.tunnel)

  -- the number of the next one is how many were taken
  number_is : class_of (unwrap_or h.ns 0) t.control.channel.inbox ≡ Next → k.o.ns ≤ length a.taken + 8192 → k.o.ns ≡ length a.taken
  number_is next few =
      let live = within.end.live i t there in
      let taken = live.taken in
      let near = k.near.taken in
      next_is_expected classes k.o.ns t.control.channel.inbox (omega arith) (omega arith) (let r = k.read.ns in rw r at next) ∙ taken

  -- of an acceptor that the opener hasn't learned
  first_of : k.o.ns ≡ length a.taken → a.part ≡ Opener → b.part ≡ Acceptor → b.remote ≡ i → b.peer ≡ n → (a.remote ≡ k.o.tunnel → ⊥) → (l : Letter)
      → slice_get b.given k.o.ns ≡ Some l → TakesOf accs n i k.o l
  first_of number here part remote peer apart l x =
      let opener = opener_of accs n i a (within.accounts n i) here in
      let only = alone part remote peer apart in
      let two = (alone_small a b only).given in
      let bound = slice_get_within b.given k.o.ns l x in
      let acceptor = acceptor_of accs a.peer k.o.tunnel b (within.accounts a.peer k.o.tunnel) part in
      ⊎_elim
      (λ (z : a.remote ≡ 0).
      ⊎_elim
      (λ (none : a.taken ≡ []).
      let zeroth : k.o.ns ≡ 0 = number ∙ ap length none in
      let first = first_is k.o.tunnel Sccrp b.given acceptor.begins l (subst (λ (p : ℕ). slice_get b.given p ≡ Some l) zeroth x) in
      OfFirst here z none part remote peer first.0 first.1 first.2)
      (λ (lost : IsLost a × (length a.taken ≤ 2)). OfLost here lost.0 (omega arith))
      (opener.none z))
      (λ (z : a.remote ≡ 0 → ⊥).
      let some = opener.some z in
      ⊎_elim
      (λ (one : length b.given ≡ 1). let no : ⊥ = omega arith in absurd no)
      (λ (s : HasStopped b). OfOther here z (omega arith) (stops_later b.given s.stops k.o.ns l x (λ q. let no : ⊥ = omega arith in no)))
      only.given)
      (same_or_not a.remote 0)

  takes_of : k.o.ns ≡ length a.taken → (l : Letter) → slice_get b.given k.o.ns ≡ Some l → TakesOf accs n i k.o l
  takes_of number l x = by k.linked
    where
      of_opener : a.part ≡ Acceptor → a.remote ≡ k.o.tunnel → b.part ≡ Opener → Sends b i k.o → TakesOf accs n i k.o l
      of_opener here told part (Chosen chosen) = OfPartner (acceptor_paired here told chosen) told
      of_opener here told part (Asks first how) =
          let some = (acceptor_of accs n i a (within.accounts n i) here).some in
          let no : ⊥ = omega arith in absurd no
      of_opener here told part (Leaves lost stops) =
          let two = (lost_small part lost).given in
          let bound = slice_get_within b.given k.o.ns l x in
          OfOpener here (subst IsLost (sym (same_partner told)) lost) (omega arith) (stops l x)

      by : Linked accs n i k.o → TakesOf accs n i k.o l
      by (FromOpener here told part which) = of_opener here told part which
      by (FromAcceptor here part remote peer) =
          ⊎_elim
          (λ (told : a.remote ≡ k.o.tunnel). OfPartner (opener_paired here told) told)
          (λ (apart : a.remote ≡ k.o.tunnel → ⊥). first_of number here part remote peer apart l x)
          (same_or_not a.remote k.o.tunnel)

  pub next_heard : IsLetterRead b k.o h bytes → class_of (unwrap_or h.ns 0) t.control.channel.inbox ≡ Next → HeardNext accs n i k.o h bytes
  next_heard q next =
      let number = number_is next (ns_few (slice_get_within b.given k.o.ns q.letter q.there)) in
      record {
        letter = q.letter;
        there = subst (λ (p : ℕ). slice_get b.given p ≡ Some q.letter) number q.there;
        number = number;
        session = q.session;
        reads = q.reads;
        spelled = q.spelled;
        of = takes_of number q.letter q.there;
      }

  -- ---- Nr

  nr_of_pair : IsPaired accs n i → a.remote ≡ k.o.tunnel → k.o.nr ≤ length a.given + 2
  nr_of_pair pair told =
      let some = (mates accs n i within.accounts pair).taken in
      let more : length b.taken ≤ length a.given + 2 = rw (same_partner told) at some in
      let nr = k.nr in
      omega arith

  -- it tells hardly more letters than were given
  pub nr_few : k.o.nr ≤ length a.given + 2
  nr_few = by k.linked
    where
      of_opener : a.part ≡ Acceptor → a.remote ≡ k.o.tunnel → b.part ≡ Opener → Sends b i k.o → k.o.nr ≤ length a.given + 2
      of_opener here told part (Chosen chosen) = nr_of_pair (acceptor_paired here told chosen) told
      of_opener here told part (Asks first how) = ⊎_elim
          (λ (lost : IsLost b). let two = (lost_small part lost).taken in let nr = k.nr in omega arith)
          (λ (none : k.o.nr ≡ 0). omega arith)
          how
      of_opener here told part (Leaves lost stops) = let two = (lost_small part lost).taken in let nr = k.nr in omega arith

      by : Linked accs n i k.o → k.o.nr ≤ length a.given + 2
      by (FromOpener here told part which) = of_opener here told part which
      by (FromAcceptor here part remote peer) =
          ⊎_elim
          (λ (told : a.remote ≡ k.o.tunnel). nr_of_pair (opener_paired here told) told)
          (λ (apart : a.remote ≡ k.o.tunnel → ⊥).
          let two = (alone_small a b (alone part remote peer apart)).taken in
          let nr = k.nr in
          omega arith)
          (same_or_not a.remote k.o.tunnel)

  -- an opener that has learned one isn't lost
  found : (a.remote ≡ 0 → ⊥) → IsLost a → ⊥
  found known lost = known lost.1

  -- and letters that were taken
  pub nr_taken : AreAcked accs n i a k.o.nr a.part
  nr_taken = by k.linked
    where
      -- an opener that hasn't learned the acceptor tells nothing, or is lost
      unchosen : a.remote ≡ k.o.tunnel → Sends b i k.o → ((partner_in accs a).remote ≡ i → ⊥) → (k.o.nr ≡ 0) ⊎ IsLost (partner_in accs a)
      unchosen told (Chosen chosen) apart = absurd (apart (ap (λ (x : Account). x.remote) (same_partner told) ∙ chosen))
      unchosen told (Asks first how) apart =
          ⊎_elim (λ (lost : IsLost b). inr (subst IsLost (sym (same_partner told)) lost)) (λ (none : k.o.nr ≡ 0). inl none) how
      unchosen told (Leaves lost stops) apart = inr (subst IsLost (sym (same_partner told)) lost)

      by : Linked accs n i k.o → AreAcked accs n i a k.o.nr a.part
      by (FromOpener here told part which) =
          let nr = k.nr in
          let same = same_partner told in
          let most : k.o.nr ≤ length (partner_in accs a).taken = rw same nr in
          subst (AreAcked accs n i a k.o.nr) (sym here) (unchosen told which, λ c. most)
      by (FromAcceptor here part remote peer) =
          let nr = k.nr in
          ⊎_elim
          (λ (told : a.remote ≡ k.o.tunnel).
          let most : k.o.nr ≤ length (partner_in accs a).taken = rw (same_partner told) nr in
          let from = (within.accounts a.peer k.o.tunnel).some k.made in
          subst (AreAcked accs n i a k.o.nr) (sym here) (λ z. (let no : ⊥ = omega arith in absurd no), λ z. most))
          (λ (apart : a.remote ≡ k.o.tunnel → ⊥).
          let only = alone part remote peer apart in
          let answered : IsAnswered accs n i a k.o.nr = record { acceptor = k.o.tunnel; part = part; peer = peer; remote = remote; enough = nr } in
          let opener = opener_of accs n i a (within.accounts n i) here in
          subst (AreAcked accs n i a k.o.nr) (sym here) (
            λ z. inr (inl answered),
            λ z.
                let mate = within.accounts a.peer a.remote in
                let taken = (acceptor_of accs a.peer a.remote (partner_in accs a) mate (opener.part z)).some in
                let one = alone_one a b only (found z) in
                omega arith,
          ))
          (same_or_not a.remote k.o.tunnel)

-- ---- a letter that is the next one, with what it says

pub record Said (accs : Accounts) (n : ℕ) (e : End) (sender : Option Sender) (ev : Event) (comes : Comes accs n e sender ev) (i : ℕ) (t : Tunnel) (h : Header)
    (bytes : List ℕ) (session : ℕ) (m : Message) : Type 0 where
  pub heard : Heard accs n e sender ev comes i t h bytes
  pub next : HeardNext accs n i heard.o h bytes
  pub message : AreAlike next.letter.message m
  pub session_is : next.letter.session ≡ session

pub said_so : Codecs → ClassIsTrue → (accs : Accounts) (n : ℕ) (e : End) (sender : Option Sender) (ev : Event) (within : Within accs n e sender ev) (i : ℕ)
    (t : Tunnel) → at e.tunnels i ≡ Some t → (session : ℕ) (m : Message) → IsNoStop m → (k : HearsNext ev t session m)
    → Said accs n e sender ev within.comes i t k.letter.header k.next.comes.came.bytes session m
said_so codecs classes accs n e sender ev within i t there session m plain k =
    let h = k.letter.header in
    let bytes = k.next.comes.came.bytes in
    let said = said_in ev k.letter k.next.comes.came m k.says.said in
    let from = heard_said codecs accs n e sender ev within i t there h bytes (heard_to ev t.control k.letter k.next.comes) m plain said in
    let next = next_heard classes accs n e sender ev within i t there h bytes from
    (letter_said codecs (sender_in accs n i from.o) from.o h bytes m from.read said) k.next.next in
    record {
      heard = from;
      next = next;
      message = read_alike next.letter.message (body_of bytes h) next.reads m said;
      session_is = sym next.session ∙ k.says.session_is;
    }
