-- An open tunnel goes on in its epoch: it may be given letters and take letters of its other end, and its calls may change.
use Rattle.std.proofs.Common.{◌≡◌, ◌⊎◌, inl, inr, ⊎_elim, ℕ, ◌+◌, ◌<◌, ◌≤◌, true, List, ◌++◌, length, map, refl, sym, ap, ap₂, ◌∙◌, subst, Some, arith}
use Rattle.std.proofs.lemmas.Bool.{true≢false}
use Rattle.std.proofs.lemmas.List.{length-append, drop-append-le, map-append}
use Rattle.std.proofs.lemmas.Option.{none-some, slice_get_within}
use Rattle.std.specs.Prelude.{unwrap_or, is_some}
use Rattle.std.specs.List.{AllByRecursion}
use Rattle.id_table.specs.Ids.{at}
use Rattle.id_table.specs.Order.{same_or_not}
use Rattle.id_source.specs.Spaces.{Space}
use Rattle.control_message.specs.declared.message.Message.TheVariants.{Sccrq, Sccrp}
use Rattle.tunnel_fsm.specs.Rows.{state_number}
use Rattle.end_names.specs.Names.{address_of}
use Rattle.end_model.specs.declared.tunnel.Call.{Call}
use Rattle.end_model.specs.Tunnels.{Tunnel, mode_of, is_current}
use Rattle.end_model.specs.End.{End}
use Rattle.world_model.specs.declared.standing.Standing.{Standing}
use Rattle.world_model.specs.World.{World, Node, epoch_of}
use Rattle.step_laws.specs.Letters.{Letter}
use Rattle.connection_laws.specs.Facts.{IsNoOpening, TellsOwn, kept_letter}
use Rattle.connection_laws.proofs.Taking.{all_append, begins_on}
use Rattle.channel_laws.specs.Accounts.{Part, Unmade, Opener, Acceptor, Renewed, Taken, Account, heeded, History}
use Rattle.channel_laws.specs.Facts.{Accounts, IsMade, partner_in, AreTaken, IsOpen, IsClosed, AreJoined, AreEven, IsOpener, IsAcceptor, BeginsBy, AsGiver, AsPeer, IsRenewed, IsPart, AccountOk, IsInState, AreAcked, ChannelOk, LiveOk, IdsOk, EndOk, BookOk, NodeOk, Holds, QueryOk, IsSpelledIn}
use Rattle.channel_laws.proofs.Linked.{opener_of, acceptor_of, renewed_of, not_itself}
use Rattle.channel_laws.proofs.Ends.{Puts, put_end_ok}
use Rattle.channel_laws.proofs.Extending.{IsOnly}
use Rattle.channel_laws.proofs.Later.{IsAlike, IsUnbooked, StaysJoined, linked_later, recovered_later, live_later, holds_later}

-- an account with these letters given, and these taken
abbrev pub grows_by : List Letter → List Taken → Account → Account
grows_by more tks a = record a { given = a.given ++ more; taken = a.taken ++ tks }

-- an open tunnel that is given these letters, and takes so many, goes on so
pub record GoesOn (t u : Tunnel) (more : List Letter) (count : ℕ) : Type 0 where
  pub local : u.control.local ≡ t.control.local
  pub peer : u.control.peer ≡ t.control.peer
  pub remote : u.control.remote ≡ t.control.remote
  pub three : state_number u.control.state ≡ 3
  pub letters : u.letters ≡ t.letters ++ map kept_letter more
  pub acked : u.control.channel.window.acked ≡ t.control.channel.window.acked
  pub queued : u.control.channel.window.queued ≡ t.control.channel.window.queued + length more
  pub few : u.control.channel.window.queued ≤ 8192
  pub outstanding : u.control.channel.window.outstanding ≤ u.control.channel.window.queued
  pub taken : u.control.channel.inbox.taken ≡ t.control.channel.inbox.taken + count
  pub calls : (s : ℕ) (c : Call) → at u.calls s ≡ Some c → c.remote < 65536
  pub recovery : u.recovery ≡ t.recovery

-- it has learned its other end, and that has learned it
abbrev pub IsPaired : Accounts → ℕ → Account → Part → Type 0
IsPaired accs i a Unmade = ⊥
IsPaired accs i a Opener = a.remote ≡ 0 → ⊥
IsPaired accs i a Acceptor = (partner_in accs 0 a).remote ≡ i
IsPaired accs i a Renewed = Unit {0}

-- what is needed of a tunnel of a node that goes on
pub record Goes (w v : World) (h k : History) (n : ℕ) (node : Node) (x : End) (i e : ℕ) (t u : Tunnel) (more : List Letter) (tks : List Taken) : Type 0 where
  pub there : at w.nodes n ≡ Some node
  pub holds : Holds w h
  pub alike : IsAlike w v n node x
  pub epoch : epoch_of w n i ≡ e
  pub at_t : at node.end.tunnels i ≡ Some t
  pub current : is_current (mode_of t.recovery) ≡ true
  pub goes : GoesOn t u more (length tks)
  pub open_is : IsOpen (h.accounts n i e)
  pub paired : IsPaired h.accounts i (h.accounts n i e) (h.accounts n i e).part
  pub only : IsOnly h k n i e
  pub is : k.accounts n i e ≡ grows_by more tks (h.accounts n i e)
  pub query : QueryOk e u.query
  pub spelled : AllByRecursion (IsSpelledIn e) more
  pub plain : AllByRecursion (λ (l : Letter). IsNoOpening l.message) more
  pub told : AllByRecursion (λ (l : Letter). TellsOwn i l.message) more
  pub enough : (length tks ≡ 0) ⊎ (length (h.accounts n i e).taken + length tks ≤ length (partner_in h.accounts e (h.accounts n i e)).given)
  pub taken : AreTaken k.accounts e (grows_by more tks (h.accounts n i e))
  pub puts : Puts node.end x i u
  pub ids : x.tunnel_ids ≡ node.end.tunnel_ids

module _ (w v : World) (h k : History) (n : ℕ) (node : Node) (x : End) (i e : ℕ) (t u : Tunnel) (more : List Letter) (tks : List Taken)
    (g : Goes w v h k n node x i e t u more tks) where
  abbrev a : Account
  a = h.accounts n i e

  abbrev b : Account
  b = grows_by more tks a

  both_ok : EndOk w h n node.end × BookOk h n node.checkpoint.book
  both_ok = subst (NodeOk w h n) g.there (g.holds.nodes n)

  live : LiveOk w h n i t
  live = both_ok.0.live i t g.at_t

  channel : ChannelOk h.accounts n i e a t
  channel = subst (λ q. ChannelOk h.accounts n i q (h.accounts n i q) t) g.epoch (live.channel g.current)

  ok : AccountOk w h n i e a
  ok = g.holds.accounts n i e

  made : IsMade a
  made = subst (λ q. IsMade (h.accounts n i q)) g.epoch ((g.holds.standings n i).entered live.made)

  some : 0 < i
  some = ok.some made

  -- ---- lists

  length_given : length b.given ≡ length a.given + length more
  length_given = length-append a.given more

  length_taken : length b.taken ≡ length a.taken + length tks
  length_taken = length-append a.taken tks

  -- what isn't acknowledged is little
  few_given : (count : ℕ) → channel.acked ≤ count → length b.given ≤ count + 8192
  few_given count le =
      let sum = channel.counted in
      let queued = g.goes.queued in
      let few = g.goes.few in
      let all = length_given in
      omega (arith, sum, queued, few, all, le)

  -- what is taken was given
  there_given : (p : Account) → p ≡ partner_in h.accounts e a → length a.taken ≤ length p.given → length b.taken ≤ length p.given
  there_given p is le = ⊎_elim
      (λ (none : length tks ≡ 0). let all = length_taken in omega (arith, none, all, le))
      (λ (more_le : length a.taken + length tks ≤ length (partner_in h.accounts e a).given).
      let all = length_taken in let same = ap (λ (y : Account). length y.given) is in omega (arith, more_le, all, same))
      g.enough

  open_unless : a.closed ≡ Some 0 → ⊥
  open_unless closed = none-some 0 (sym g.open_is ∙ closed)

  late : e ≡ 0 → ((h.accounts n i e).remote ≡ 0 → ⊥) → (k.accounts n i e).closed ≡ Some 0 → (h.accounts n i e).closed ≡ Some 0
  late zero known closed = ap (λ (y : Account). y.closed) (sym g.is) ∙ closed

  settled : e ≡ 0 → (h.accounts n i e).remote ≡ 0
      → (((k.accounts n i e).remote ≡ 0) × ((k.accounts n i e).closed ≡ Some 0 → (h.accounts n i e).closed ≡ Some 0)) ⊎ IsUnbooked h n i node.checkpoint.book
  settled z none = inl (ap (λ (y : Account). y.remote) g.is ∙ none, λ closed. ap (λ (y : Account). y.closed) (sym g.is) ∙ closed)

  -- ---- of epoch 0

  module _ (first : e ≡ 0) where
    abbrev p : Account
    p = partner_in h.accounts 0 a

    abbrev q : Account
    q = partner_in k.accounts 0 a

    same_partner : p ≡ partner_in h.accounts e a
    same_partner = ap (h.accounts a.peer a.remote) (sym first)

    own_zero : h.accounts n i 0 ≡ a
    own_zero = ap (h.accounts n i) (sym first)

    stays : (p.part ≡ a.part → ⊥) → q ≡ p
    stays apart = g.only.others a.peer a.remote 0
        (λ (z : (a.peer ≡ n) × (a.remote ≡ i) × (0 ≡ e)). apart (ap₂ (λ m j. (h.accounts m j 0).part) z.0 z.1 ∙ ap (λ (y : Account). y.part) own_zero))

    opener_on : a.part ≡ Opener → IsOpener k.accounts n i b
    opener_on own =
        let o = (opener_of w h n i e a ok own).1 in
        let known : a.remote ≡ 0 → ⊥ = subst (IsPaired h.accounts i a) own g.paired in
        let acked : channel.acked ≤ length p.taken = (subst (AreAcked h.accounts n i e a channel.acked) own channel.were_acked).1 known in
        let same : q ≡ p = stays (λ alike. let two : Acceptor ≡ Opener = sym (o.part known) ∙ (alike ∙ own) in cc) in
        let was = o.joined known in
        record {
          begins = begins_on i Sccrq a.given more g.plain o.begins;
          none = λ z. absurd (known z);
          one_given = λ z. absurd (known z);
          some = λ z. (let one = o.some known in let all = length_taken in omega (arith, one, all));
          part = λ z. ap (λ (y : Account). y.part) same ∙ o.part known;
          peer = λ z. ap (λ (y : Account). y.peer) same ∙ o.peer known;
          remote = λ z. ap (λ (y : Account). y.remote) same ∙ o.remote known;
          joined = λ z. subst (AreJoined b) (sym same) (record {
            here = ⊎_elim
                (λ (le : length a.taken ≤ length p.given). inl (there_given p same_partner le))
                (λ (closed : IsClosed a × (length a.taken ≤ 2)). absurd (none-some closed.0.0 (sym g.open_is ∙ closed.0.1)))
                was.here;
            there = (let le = was.there in let all = length_given in omega (arith, le, all));
            few_here = few_given (length p.taken) acked;
            few_there = (let le = was.few_there in let all = length_taken in omega (arith, le, all));
          });
          early = λ z. absurd (open_unless z);
        }

    acceptor_on : a.part ≡ Acceptor → IsAcceptor k.accounts n i b
    acceptor_on own =
        let o = (acceptor_of w h n i e a ok own).1 in
        let named : p.remote ≡ i = subst (IsPaired h.accounts i a) own g.paired in
        let same : q ≡ p = stays (λ alike. let two : Opener ≡ Acceptor = sym o.part ∙ (alike ∙ own) in cc) in
        let still : q.remote ≡ i = ap (λ (y : Account). y.remote) same ∙ named in
        record {
          begins = begins_on i Sccrp a.given more g.plain o.begins;
          known = o.known;
          some = (let one = o.some in let all = length_taken in omega (arith, one, all));
          part = ap (λ (y : Account). y.part) same ∙ o.part;
          peer = ap (λ (y : Account). y.peer) same ∙ o.peer;
          one_taken = λ no. absurd (no still);
          one_given = λ no. absurd (no still);
        }

    -- its opener is still joined with it
    joined_on : a.part ≡ Acceptor → AreJoined q b
    joined_on own =
        let o = (acceptor_of w h n i e a ok own).1 in
        let named : p.remote ≡ i = subst (IsPaired h.accounts i a) own g.paired in
        let same : q ≡ p = stays (λ alike. let two : Opener ≡ Acceptor = sym o.part ∙ (alike ∙ own) in cc) in
        let acked : channel.acked ≤ length p.taken = (subst (AreAcked h.accounts n i e a channel.acked) own channel.were_acked).1 named in
        let its = (opener_of w h a.peer a.remote 0 p (g.holds.accounts a.peer a.remote 0) o.part).1 in
        let back : partner_in h.accounts 0 p ≡ a = ap₂ (λ m j. h.accounts m j 0) o.peer named ∙ own_zero in
        let was : AreJoined p a = subst (AreJoined p) back (its.joined (λ z. let no : ⊥ = omega (arith, z, named, some) in no)) in
        subst (λ y. AreJoined y b) (sym same) (record {
          here = ⊎_elim (λ (le : length p.taken ≤ length a.given). inl (let all = length_given in omega (arith, le, all))) (λ closed. inr closed) was.here;
          there = there_given p same_partner was.there;
          few_here = (let le = was.few_here in let all = length_taken in omega (arith, le, all));
          few_there = few_given (length p.taken) acked;
        })

  -- ---- of a later one

  module _ (own : a.part ≡ Renewed) where
    r : IsRenewed w h n i e a
    r = renewed_of w h n i e a ok own

    abbrev pr : Account
    pr = partner_in h.accounts e a

    abbrev qr : Account
    qr = partner_in k.accounts e a

    stays_renewed : qr ≡ pr
    stays_renewed = g.only.others a.peer a.remote e
        (λ (z : (a.peer ≡ n) × (a.remote ≡ i) × (e ≡ e)). not_itself h.accounts n i a.peer a.remote r.linked (sym z.0) (sym z.1))

    first_stays : k.accounts n i 0 ≡ h.accounts n i 0
    first_stays = g.only.others n i 0 (λ (z : (n ≡ n) × (i ≡ i) × (0 ≡ e)). let none = z.2 in let lt = r.later in let no : ⊥ = omega (arith, none, lt) in no)

    renewed_on : IsRenewed v k n i e b
    renewed_on = record {
      later = r.later;
      peer = r.peer ∙ ap (λ (y : Account). y.peer) (sym first_stays);
      remote = r.remote ∙ ap (λ (y : Account). y.remote) (sym first_stays);
      linked = linked_later w v h k n i e g.only g.holds node x g.alike late settled g.there n i a.peer a.remote r.linked;
      by = r.by;
      answer = r.answer;
      froze = r.froze;
      answered = g.only.answers r.by.node r.by.tunnel ∙ r.answered;
      makes_it = g.alike.makes_as r.by.node r.by.tunnel ∙ r.makes_it;
      begins = begins r.begins;
      other = ⊎_elim (λ is. inl (ap (λ (y : Account). y.part) stays_renewed ∙ is)) (λ none. inr (stays_renewed ∙ none)) r.other;
      same = λ part. ap (λ (y : Account). y.answer) stays_renewed ∙ r.same (ap (λ (y : Account). y.part) (sym stays_renewed) ∙ part);
      joined = subst (AreEven b) (sym stays_renewed) (record {
        here = there_given pr refl r.joined.here;
        there = (let le = r.joined.there in let all = length_given in omega (arith, le, all));
        few_here = few_given (length pr.taken) (subst (AreAcked h.accounts n i e a channel.acked) own channel.were_acked);
        few_there = (let le = r.joined.few_there in let all = length_taken in omega (arith, le, all));
      });
      no_opening = all_append (λ (l : Letter). IsNoOpening l.message) a.given more r.no_opening g.plain;
    }
      where
        begins : BeginsBy h n i a r.by.node r.by.tunnel r.froze → BeginsBy k n i b r.by.node r.by.tunnel r.froze
        begins (AsGiver y1 y2 y3 y4 y5 y6) = AsGiver y1 y2 y3 y4 y5 y6
        begins (AsPeer y1 y2 y3 y4 y5 y6) = AsPeer y1 y2 y3 y4 y5 y6

  -- ---- its account

  part_on : (c : Part) → a.part ≡ c → IsPart v k n i e b c
  part_on Unmade own = absurd (made own)
  part_on Opener own = let first = (opener_of w h n i e a ok own).0 in (first, opener_on first own)
  part_on Acceptor own = let first = (acceptor_of w h n i e a ok own).0 in (first, acceptor_on first own)
  part_on Renewed own = renewed_on own

  heeds_all : heeded b ≡ length b.taken
  heeds_all = ap (λ o. unwrap_or o (length b.taken)) g.open_is

  account : AccountOk v k n i e b
  account = record {
    part = part_on a.part refl;
    some = ok.some;
    id = ok.id;
    node = ok.node;
    peer = ok.peer;
    remote = ok.remote;
    first_given = ok.first_given;
    first_taken = ok.first_taken;
    from_none = ok.from_none;
    spelled = all_append (IsSpelledIn e) a.given more ok.spelled g.spelled;
    told = all_append (λ (l : Letter). TellsOwn i l.message) a.given more ok.told g.told;
    taken = g.taken;
    ignored = λ place y found le. (let lt = slice_get_within b.taken place y found in let all = heeds_all in absurd (omega (arith, le, lt, all)));
    entered = λ was. (let le = ok.entered was in let same = ap (λ (s : Standing). s.epoch) (g.alike.standings n i) in omega (arith, le, same));
    declined = ok.declined;
  }

  joined : StaysJoined k n i (k.accounts n i e)
  joined = subst (StaysJoined k n i) (sym g.is) (λ own named. joined_on (acceptor_of w h n i e a ok own).0 own)

  -- ---- the tunnel

  state_on : (c : Part) → a.part ≡ c → IsInState k.accounts i e b u c
  state_on Unmade own = absurd (made own)
  state_on Opener own = inr (inl (g.goes.three, subst (IsPaired h.accounts i a) own g.paired, g.open_is))
  state_on Acceptor own =
      let first = (acceptor_of w h n i e a ok own).0 in
      let named : (partner_in h.accounts 0 a).remote ≡ i = subst (IsPaired h.accounts i a) own g.paired in
      let o = (acceptor_of w h n i e a ok own).1 in
      let same = stays first (λ alike. let two : Opener ≡ Acceptor = sym o.part ∙ (alike ∙ own) in cc) in
      inr (inl (g.goes.three, ap (λ (y : Account). y.remote) same ∙ named, g.open_is))
  state_on Renewed own = inl (g.goes.three, g.open_is)

  acked_on : (c : Part) → a.part ≡ c → AreAcked k.accounts n i e b channel.acked c
  acked_on Unmade own = absurd (made own)
  acked_on Opener own =
      let first = (opener_of w h n i e a ok own).0 in
      let o = (opener_of w h n i e a ok own).1 in
      let known : a.remote ≡ 0 → ⊥ = subst (IsPaired h.accounts i a) own g.paired in
      let same = stays first (λ alike. let two : Acceptor ≡ Opener = sym (o.part known) ∙ (alike ∙ own) in cc) in
      let acked : channel.acked ≤ length (partner_in h.accounts 0 a).taken = (subst (AreAcked h.accounts n i e a channel.acked) own channel.were_acked).1 known in
      let lens = ap (λ (y : Account). length y.taken) same in
      (λ z. absurd (known z), λ z. omega (arith, acked, lens))
  acked_on Acceptor own =
      let first = (acceptor_of w h n i e a ok own).0 in
      let o = (acceptor_of w h n i e a ok own).1 in
      let named : (partner_in h.accounts 0 a).remote ≡ i = subst (IsPaired h.accounts i a) own g.paired in
      let same = stays first (λ alike. let two : Opener ≡ Acceptor = sym o.part ∙ (alike ∙ own) in cc) in
      let acked : channel.acked ≤ length (partner_in h.accounts 0 a).taken = (subst (AreAcked h.accounts n i e a channel.acked) own channel.were_acked).1 named in
      let lens = ap (λ (y : Account). length y.taken) same in
      (λ no. absurd (no (ap (λ (y : Account). y.remote) same ∙ named)), λ z. omega (arith, acked, lens))
  acked_on Renewed own =
      let acked : channel.acked ≤ length (partner_in h.accounts e a).taken = subst (AreAcked h.accounts n i e a channel.acked) own channel.were_acked in
      let lens = ap (λ (y : Account). length y.taken) (stays_renewed own) in
      omega (arith, acked, lens)

  channel_on : ChannelOk k.accounts n i e b u
  channel_on =
      let sum = channel.counted in
      let all_given = length_given in
      let all_taken = length_taken in
      let queued = g.goes.queued in
      let count = g.goes.taken in
      let was = channel.taken in
      record {
        peer = g.goes.peer ∙ channel.peer;
        remote = g.goes.remote ∙ channel.remote;
        state = state_on a.part refl;
        acked = channel.acked;
        acked_is = g.goes.acked ∙ channel.acked_is;
        letters = rw (drop-append-le channel.acked a.given more (omega (arith, sum)), map-append) (g.goes.letters ∙ ap (λ ls. ls ++ map kept_letter more) channel.letters);
        counted = omega (arith, sum, all_given, queued);
        few = g.goes.few;
        outstanding = g.goes.outstanding;
        taken = omega (arith, count, was, all_taken);
        were_acked = acked_on a.part refl;
      }

  account_there : AccountOk v k n i e (k.accounts n i e)
  account_there = subst (AccountOk v k n i e) (sym g.is) account

  epoch_there : epoch_of v n i ≡ e
  epoch_there = ap (λ (s : Standing). s.epoch) (g.alike.standings n i) ∙ g.epoch

  current_there : is_current (mode_of u.recovery) ≡ true
  current_there = ap (λ r_. is_current (mode_of r_)) g.goes.recovery ∙ g.current

  live_on : LiveOk v k n i u
  live_on = record {
    local = g.goes.local ∙ live.local;
    made = made_first;
    peer = g.goes.peer ∙ (live.peer ∙ ap address_of (sym peer_first));
    channel = λ current. subst (λ z. ChannelOk k.accounts n i z (k.accounts n i z) u) (sym epoch_there) (subst (λ y. ChannelOk k.accounts n i e y u) (sym g.is) channel_on);
    kept = λ current. ap (λ (s : Standing). s.lost) (g.alike.standings n i) ∙ live.kept g.current;
    established = λ no. absurd (true≢false (sym current_there ∙ no));
    some = λ no. absurd (true≢false (sym current_there ∙ no));
    knows = λ no. absurd (true≢false (sym current_there ∙ no));
    learned = λ no. absurd (true≢false (sym current_there ∙ no));
    recovery = λ r_ is. recovered_later w v h k n i e g.only g.holds node x g.alike late settled g.there joined account_there n i live.made r_ (live.recovery r_ (sym g.goes.recovery ∙ is));
    unattempted = λ early. (let three = g.goes.three in absurd (omega (arith, three, early)));
    calls = g.goes.calls;
    query = subst (λ z. QueryOk z u.query) (sym epoch_there) g.query;
  }
    where
      same_or : (z : ℕ) → (k.accounts n i 0 ≡ h.accounts n i 0) ⊎ (0 ≡ e)
      same_or z = ⊎_elim
          (λ (is : 0 ≡ e). inr is)
          (λ (o : 0 ≡ e → ⊥). inl (g.only.others n i 0 (λ (q : (n ≡ n) × (i ≡ i) × (0 ≡ e)). o q.2)))
          (same_or_not 0 e)

      made_first : IsMade (k.accounts n i 0)
      made_first none = ⊎_elim
          (λ same. live.made (ap (λ (y : Account). y.part) (sym same) ∙ none))
          (λ is. made (ap (λ (y : Account). y.part) (sym g.is) ∙ (ap (λ z. (k.accounts n i z).part) (sym is) ∙ none)))
          (same_or 0)

      peer_first : (k.accounts n i 0).peer ≡ (h.accounts n i 0).peer
      peer_first = ⊎_elim
          (λ same. ap (λ (y : Account). y.peer) same)
          (λ is. ap (λ z. (k.accounts n i z).peer) is ∙ (ap (λ (y : Account). y.peer) g.is ∙ ap (λ z. (h.accounts n i z).peer) (sym is)))
          (same_or 0)

  -- ---- the node

  ids_on : IdsOk k n x
  ids_on =
      let ids = both_ok.0.ids in
      let next = ap (λ (s : Space). s.next) g.ids in
      record {
        tunnels = λ j was. (let lt = ids.tunnels j (made_before j was) in omega (arith, lt, next));
        attempts = λ c is. (let lt = ids.attempts c (ap is_some (sym (g.only.attempts n c)) ∙ is) in omega (arith, lt, next));
        answers = λ c is. (let lt = ids.answers c (ap is_some (sym (g.only.answers n c)) ∙ is) in omega (arith, lt, next));
        no_attempt = λ j was. g.only.attempts n j ∙ ids.no_attempt j (made_before j was);
        no_answer = λ j was. g.only.answers n j ∙ ids.no_answer j (made_before j was);
        one = λ c is. g.only.answers n c ∙ ids.one c (ap is_some (sym (g.only.attempts n c)) ∙ is);
      }
    where
      made_before : (j : ℕ) → IsMade (k.accounts n j 0) → IsMade (h.accounts n j 0)
      made_before j was = ⊎_elim
          (λ (same : j ≡ i). subst (λ z. IsMade (h.accounts n z 0)) (sym same) live.made)
          (λ (o : j ≡ i → ⊥). subst IsMade (g.only.others n j 0 (λ (q : (n ≡ n) × (j ≡ i) × (0 ≡ e)). o q.1)) was)
          (same_or_not j i)

  pub goes_hold : Holds v k
  goes_hold =
      holds_later w v h k n i e g.only g.holds node x g.alike late settled g.there joined account_there
      (put_end_ok w v h k n node.end x both_ok.0 i t u g.at_t g.puts g.goes.peer g.goes.remote ids_on
      (λ j q o was. live_later w v h k n i e g.only g.holds node x g.alike late settled g.there joined account_there n j (λ z. o z.1) q (both_ok.0.live j q was))
      live_on)
