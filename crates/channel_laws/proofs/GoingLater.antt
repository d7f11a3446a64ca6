-- A tunnel goes on in a later epoch: it may be given letters, take letters, have some acknowledged, and be closed.
use Rattle.std.proofs.Common.{◌≡◌, ◌⊎◌, inl, inr, ⊎_elim, ℕ, ◌+◌, ◌<◌, ◌≤◌, true, List, ◌++◌, length, map, drop, sym, ap, ◌∙◌, subst, Option, Some, arith}
use Rattle.std.proofs.lemmas.Bool.{true≢false}
use Rattle.std.proofs.lemmas.List.{length-append}
use Rattle.std.specs.Prelude.{is_some}
use Rattle.std.specs.List.{AllByRecursion}
use Rattle.id_table.specs.Ids.{at}
use Rattle.id_source.specs.Spaces.{Space}
use Rattle.tunnel_fsm.specs.Rows.{state_number}
use Rattle.end_names.specs.Names.{address_of}
use Rattle.end_model.specs.declared.tunnel.Call.{Call}
use Rattle.end_model.specs.Tunnels.{Tunnel, mode_of, is_current}
use Rattle.end_model.specs.End.{End}
use Rattle.world_model.specs.declared.standing.Standing.{Standing}
use Rattle.world_model.specs.World.{World, Node, epoch_of}
use Rattle.step_laws.specs.Letters.{Letter}
use Rattle.connection_laws.specs.Facts.{IsNoOpening, TellsOwn, kept_letter}
use Rattle.connection_laws.proofs.Taking.{all_append}
use Rattle.channel_laws.specs.Accounts.{Acceptor, Renewed, Taken, Account, History}
use Rattle.channel_laws.specs.Facts.{IsMade, partner_in, AreTaken, IsOpen, IsShut, AreIgnored, AreEven, BeginsBy, AsGiver, AsPeer, IsRenewed, IsPart, AccountOk, IsInState, AreAcked, ChannelOk, LiveOk, IdsOk, EndOk, BookOk, NodeOk, Holds, QueryOk, IsSpelledIn}
use Rattle.channel_laws.proofs.Linked.{renewed_of, not_itself}
use Rattle.channel_laws.proofs.Ends.{Puts, put_end_ok}
use Rattle.channel_laws.proofs.Extending.{IsOnly}
use Rattle.channel_laws.proofs.Later.{IsAlike, IsUnbooked, StaysJoined, linked_later, recovered_later, live_later, holds_later}

abbrev pub changes_by : List Letter → List Taken → Option ℕ → Account → Account
changes_by more tks closed a = record a { given = a.given ++ more; taken = a.taken ++ tks; closed = closed }

pub record GoesLater (w v : World) (h k : History) (n : ℕ) (node : Node) (x : End) (i e : ℕ) (t u : Tunnel) (more : List Letter) (tks : List Taken) (closed : Option ℕ) : Type 0 where
  pub there : at w.nodes n ≡ Some node
  pub holds : Holds w h
  pub alike : IsAlike w v n node x
  pub epoch : epoch_of w n i ≡ e
  pub at_t : at node.end.tunnels i ≡ Some t
  pub current : is_current (mode_of t.recovery) ≡ true
  pub part : (h.accounts n i e).part ≡ Renewed
  pub only : IsOnly h k n i e
  pub is : k.accounts n i e ≡ changes_by more tks closed (h.accounts n i e)
  pub local : u.control.local ≡ t.control.local
  pub peer : u.control.peer ≡ t.control.peer
  pub remote : u.control.remote ≡ t.control.remote
  pub state : IsInState k.accounts i e (changes_by more tks closed (h.accounts n i e)) u Renewed
  -- how many letters are acknowledged then
  pub acked : ℕ
  pub acked_is : u.control.channel.window.acked ≡ (h.accounts n i e).first_given + acked
  pub letters : u.letters ≡ map kept_letter (drop acked ((h.accounts n i e).given ++ more))
  pub counted : acked + u.control.channel.window.queued ≡ length (h.accounts n i e).given + length more
  pub few : u.control.channel.window.queued ≤ 8192
  pub outstanding : u.control.channel.window.outstanding ≤ u.control.channel.window.queued
  pub taken_is : u.control.channel.inbox.taken ≡ (h.accounts n i e).first_taken + (length (h.accounts n i e).taken + length tks)
  pub were : acked ≤ length (partner_in h.accounts e (h.accounts n i e)).taken
  pub enough : length (h.accounts n i e).taken + length tks ≤ length (partner_in h.accounts e (h.accounts n i e)).given
  pub query : QueryOk e u.query
  pub spelled : AllByRecursion (IsSpelledIn e) more
  pub plain : AllByRecursion (λ (l : Letter). IsNoOpening l.message) more
  pub told : AllByRecursion (λ (l : Letter). TellsOwn i l.message) more
  pub taken : AreTaken k.accounts e (changes_by more tks closed (h.accounts n i e))
  pub ignored : AreIgnored (changes_by more tks closed (h.accounts n i e))
  pub calls : (s : ℕ) (c : Call) → at u.calls s ≡ Some c → c.remote < 65536
  pub recovery : u.recovery ≡ t.recovery
  pub puts : Puts node.end x i u
  pub ids : x.tunnel_ids ≡ node.end.tunnel_ids

module _ (w v : World) (h k : History) (n : ℕ) (node : Node) (x : End) (i e : ℕ) (t u : Tunnel) (more : List Letter) (tks : List Taken) (closed : Option ℕ)
    (g : GoesLater w v h k n node x i e t u more tks closed) where
  abbrev a : Account
  a = h.accounts n i e

  abbrev b : Account
  b = changes_by more tks closed a

  abbrev p : Account
  p = partner_in h.accounts e a

  abbrev q : Account
  q = partner_in k.accounts e a

  both_ok : EndOk w h n node.end × BookOk h n node.checkpoint.book
  both_ok = subst (NodeOk w h n) g.there (g.holds.nodes n)

  live : LiveOk w h n i t
  live = both_ok.0.live i t g.at_t

  channel : ChannelOk h.accounts n i e a t
  channel = subst (λ z. ChannelOk h.accounts n i z (h.accounts n i z) t) g.epoch (live.channel g.current)

  ok : AccountOk w h n i e a
  ok = g.holds.accounts n i e

  r : IsRenewed w h n i e a
  r = renewed_of w h n i e a ok g.part

  not_first : e ≡ 0 → ⊥
  not_first z = let lt = r.later in omega (arith, z, lt)

  length_given : length b.given ≡ length a.given + length more
  length_given = length-append a.given more

  length_taken : length b.taken ≡ length a.taken + length tks
  length_taken = length-append a.taken tks

  late : e ≡ 0 → ((h.accounts n i e).remote ≡ 0 → ⊥) → (k.accounts n i e).closed ≡ Some 0 → (h.accounts n i e).closed ≡ Some 0
  late z = absurd (not_first z)

  settled : e ≡ 0 → (h.accounts n i e).remote ≡ 0
      → (((k.accounts n i e).remote ≡ 0) × ((k.accounts n i e).closed ≡ Some 0 → (h.accounts n i e).closed ≡ Some 0)) ⊎ IsUnbooked h n i node.checkpoint.book
  settled z = absurd (not_first z)

  stays : q ≡ p
  stays = g.only.others a.peer a.remote e
      (λ (z : (a.peer ≡ n) × (a.remote ≡ i) × (e ≡ e)). not_itself h.accounts n i a.peer a.remote r.linked (sym z.0) (sym z.1))

  first_stays : k.accounts n i 0 ≡ h.accounts n i 0
  first_stays = g.only.others n i 0 (λ (z : (n ≡ n) × (i ≡ i) × (0 ≡ e)). not_first (sym z.2))

  renewed : IsRenewed v k n i e b
  renewed = record {
    later = r.later;
    peer = r.peer ∙ ap (λ (y : Account). y.peer) (sym first_stays);
    remote = r.remote ∙ ap (λ (y : Account). y.remote) (sym first_stays);
    linked = linked_later w v h k n i e g.only g.holds node x g.alike late settled g.there n i a.peer a.remote r.linked;
    by = r.by;
    answer = r.answer;
    froze = r.froze;
    answered = g.only.answers r.by.node r.by.tunnel ∙ r.answered;
    makes_it = g.alike.makes_as r.by.node r.by.tunnel ∙ r.makes_it;
    begins = begins r.begins;
    other = ⊎_elim (λ is. inl (ap (λ (y : Account). y.part) stays ∙ is)) (λ none. inr (stays ∙ none)) r.other;
    same = λ part. ap (λ (y : Account). y.answer) stays ∙ r.same (ap (λ (y : Account). y.part) (sym stays) ∙ part);
    joined = subst (AreEven b) (sym stays) (record {
      here = (let le = g.enough in let all = length_taken in omega (arith, le, all));
      there = (let le = r.joined.there in let all = length_given in omega (arith, le, all));
      few_here = (let sum = g.counted in let few = g.few in let le = g.were in let all = length_given in omega (arith, sum, few, le, all));
      few_there = (let le = r.joined.few_there in let all = length_taken in omega (arith, le, all));
    });
    no_opening = all_append (λ (l : Letter). IsNoOpening l.message) a.given more r.no_opening g.plain;
  }
    where
      begins : BeginsBy h n i a r.by.node r.by.tunnel r.froze → BeginsBy k n i b r.by.node r.by.tunnel r.froze
      begins (AsGiver y1 y2 y3 y4 y5 y6) = AsGiver y1 y2 y3 y4 y5 y6
      begins (AsPeer y1 y2 y3 y4 y5 y6) = AsPeer y1 y2 y3 y4 y5 y6

  account : AccountOk v k n i e b
  account = record {
    part = subst (IsPart v k n i e b) (sym g.part) renewed;
    some = ok.some;
    id = ok.id;
    node = ok.node;
    peer = ok.peer;
    remote = ok.remote;
    first_given = ok.first_given;
    first_taken = ok.first_taken;
    from_none = ok.from_none;
    spelled = all_append (IsSpelledIn e) a.given more ok.spelled g.spelled;
    told = all_append (λ (l : Letter). TellsOwn i l.message) a.given more ok.told g.told;
    taken = g.taken;
    ignored = g.ignored;
    entered = λ was. (let le = ok.entered was in let same = ap (λ (s : Standing). s.epoch) (g.alike.standings n i) in omega (arith, le, same));
    declined = ok.declined;
  }

  account_there : AccountOk v k n i e (k.accounts n i e)
  account_there = subst (AccountOk v k n i e) (sym g.is) account

  joined : StaysJoined k n i (k.accounts n i e)
  joined own named = (let two : Renewed ≡ Acceptor = sym g.part ∙ (ap (λ (y : Account). y.part) (sym g.is) ∙ own) in absurd cc)

  -- ---- the tunnel

  channel_on : ChannelOk k.accounts n i e b u
  channel_on = record {
    peer = g.peer ∙ channel.peer;
    remote = g.remote ∙ channel.remote;
    state = subst (IsInState k.accounts i e b u) (sym g.part) g.state;
    acked = g.acked;
    acked_is = g.acked_is;
    letters = g.letters;
    counted = (let sum = g.counted in let all = length_given in omega (arith, sum, all));
    few = g.few;
    outstanding = g.outstanding;
    taken = (let is = g.taken_is in let all = length_taken in omega (arith, is, all));
    were_acked = subst (AreAcked k.accounts n i e b g.acked) (sym g.part) (let le = g.were in let same = ap (λ (y : Account). length y.taken) stays in omega (arith, le, same));
  }

  epoch_there : epoch_of v n i ≡ e
  epoch_there = ap (λ (s : Standing). s.epoch) (g.alike.standings n i) ∙ g.epoch

  current_there : is_current (mode_of u.recovery) ≡ true
  current_there = ap (λ z. is_current (mode_of z)) g.recovery ∙ g.current

  not_early : state_number u.control.state < 3 → ⊥
  not_early early = ⊎_elim
      (λ (z : (state_number u.control.state ≡ 3) × IsOpen b). let three = z.0 in omega (arith, three, early))
      (λ (z : IsShut b u). let four = z.0 in omega (arith, four, early))
      g.state

  live_on : LiveOk v k n i u
  live_on = record {
    local = g.local ∙ live.local;
    made = λ none. live.made (ap (λ (y : Account). y.part) (sym first_stays) ∙ none);
    peer = g.peer ∙ (live.peer ∙ ap (λ (y : Account). address_of y.peer) (sym first_stays));
    channel = λ current. subst (λ z. ChannelOk k.accounts n i z (k.accounts n i z) u) (sym epoch_there) (subst (λ y. ChannelOk k.accounts n i e y u) (sym g.is) channel_on);
    kept = λ current. ap (λ (s : Standing). s.lost) (g.alike.standings n i) ∙ live.kept g.current;
    established = λ z. absurd (true≢false (sym current_there ∙ z));
    some = λ z. absurd (true≢false (sym current_there ∙ z));
    knows = λ z. absurd (true≢false (sym current_there ∙ z));
    learned = λ z. absurd (true≢false (sym current_there ∙ z));
    recovery = λ z is. recovered_later w v h k n i e g.only g.holds node x g.alike late settled g.there joined account_there n i live.made z (live.recovery z (sym g.recovery ∙ is));
    unattempted = λ early. absurd (not_early early);
    calls = g.calls;
    query = subst (λ z. QueryOk z u.query) (sym epoch_there) g.query;
  }

  ids_on : IdsOk k n x
  ids_on =
      let ids = both_ok.0.ids in
      let next = ap (λ (s : Space). s.next) g.ids in
      record {
        tunnels = λ j was. (let lt = ids.tunnels j (made_before j was) in omega (arith, lt, next));
        attempts = λ c is. (let lt = ids.attempts c (ap is_some (sym (g.only.attempts n c)) ∙ is) in omega (arith, lt, next));
        answers = λ c is. (let lt = ids.answers c (ap is_some (sym (g.only.answers n c)) ∙ is) in omega (arith, lt, next));
        no_attempt = λ j was. g.only.attempts n j ∙ ids.no_attempt j (made_before j was);
        no_answer = λ j was. g.only.answers n j ∙ ids.no_answer j (made_before j was);
        one = λ c is. g.only.answers n c ∙ ids.one c (ap is_some (sym (g.only.attempts n c)) ∙ is);
      }
    where
      made_before : (j : ℕ) → IsMade (k.accounts n j 0) → IsMade (h.accounts n j 0)
      made_before j was = subst IsMade (g.only.others n j 0 (λ (z : (n ≡ n) × (j ≡ i) × (0 ≡ e)). not_first (sym z.2))) was

  pub later_holds : Holds v k
  later_holds =
      holds_later w v h k n i e g.only g.holds node x g.alike late settled g.there joined account_there
      (put_end_ok w v h k n node.end x both_ok.0 i t u g.at_t g.puts g.peer g.remote ids_on
      (λ j z o was. live_later w v h k n i e g.only g.holds node x g.alike late settled g.there joined account_there n j (λ y. o y.1) z (both_ok.0.live j z was))
      live_on)
