-- The channels of epoch 0 are those of which connection_laws speaks, as long as one looks at one tunnel of its node alone: what is known of them is known in its
-- words, and what it says of a move holds in these.
use Rattle.std.proofs.Common.{◌≡◌, inl, inr, ⊎_elim, ℕ, ◌<◌, true, length, map, drop, refl, sym, ap, ◌∙◌, subst, Some, None, arith}
use Rattle.id_table.specs.Ids.{at}
use Rattle.id_table.specs.Order.{Ascends}
use Rattle.end_model.specs.declared.tunnel.Call.{Call}
use Rattle.end_model.specs.Tunnels.{Tunnel, no_query}
use Rattle.world_model.specs.World.{World}
use Rattle.connection_laws.specs.Facts.{AllWait, kept_letter}
use Rattle.connection_laws.specs.Accounts as calm
use Rattle.connection_laws.specs.Facts as calm_facts
use Rattle.channel_laws.proofs.Spelled.{all_first, all_spelled}
use Rattle.channel_laws.specs.Accounts.{Part, Unmade, Opener, Acceptor, Renewed, Account, History}
use Rattle.channel_laws.specs.Facts.{IsMade, partner_in, AreJoined, HasStopped, IsOpener, IsAcceptor, IsPart, AccountOk, IsAnswered, IsInState, AreAcked, ChannelOk}
use Rattle.channel_laws.proofs.Linked.{renewed_of}

-- ---- accounts

abbrev pub calm_part : Part → calm.Part
calm_part Unmade = calm.Unmade
calm_part Opener = calm.Opener
calm_part Acceptor = calm.Acceptor
calm_part Renewed = calm.Unmade

abbrev pub calm_account : Account → calm.Account
calm_account a = record { part = calm_part a.part; peer = a.peer; remote = a.remote; given = a.given; taken = a.taken; closed = a.closed; declined = a.declined }

abbrev pub calm_of : History → calm_facts.Accounts
calm_of h = λ m j. calm_account (h.accounts m j 0)

pub opener_back : (p : Part) → calm_part p ≡ calm.Opener → p ≡ Opener
opener_back Unmade is = absurd cc
opener_back Opener is = refl
opener_back Acceptor is = absurd cc
opener_back Renewed is = absurd cc

pub acceptor_back : (p : Part) → calm_part p ≡ calm.Acceptor → p ≡ Acceptor
acceptor_back Unmade is = absurd cc
acceptor_back Opener is = absurd cc
acceptor_back Acceptor is = refl
acceptor_back Renewed is = absurd cc

-- ---- to its words

joined_to : (a b : Account) → AreJoined a b → calm_facts.AreJoined (calm_account a) (calm_account b)
joined_to a b j = record { here = j.here; there = j.there; few_here = j.few_here; few_there = j.few_there }

pub joined_from : (a b : Account) → calm_facts.AreJoined (calm_account a) (calm_account b) → AreJoined a b
joined_from a b j = record { here = j.here; there = j.there; few_here = j.few_here; few_there = j.few_there }

pub opener_to : (h : History) (n i : ℕ) (a : Account) → IsOpener h.accounts n i a → calm_facts.IsOpener (calm_of h) n i (calm_account a)
opener_to h n i a o = record {
  begins = o.begins;
  none = o.none;
  one_given = o.one_given;
  some = o.some;
  part = λ z. ap calm_part (o.part z);
  peer = o.peer;
  remote = o.remote;
  joined = λ z. joined_to a (partner_in h.accounts 0 a) (o.joined z);
  early = o.early;
}

pub opener_from : (h : History) (n i : ℕ) (a : Account) → calm_facts.IsOpener (calm_of h) n i (calm_account a) → IsOpener h.accounts n i a
opener_from h n i a o = record {
  begins = o.begins;
  none = o.none;
  one_given = o.one_given;
  some = o.some;
  part = λ z. acceptor_back (partner_in h.accounts 0 a).part (o.part z);
  peer = o.peer;
  remote = o.remote;
  joined = λ z. joined_from a (partner_in h.accounts 0 a) (o.joined z);
  early = o.early;
}

acceptor_to : (h : History) (n i : ℕ) (a : Account) → IsAcceptor h.accounts n i a → calm_facts.IsAcceptor (calm_of h) n i (calm_account a)
acceptor_to h n i a o = record {
  begins = o.begins;
  known = o.known;
  some = o.some;
  part = ap calm_part o.part;
  peer = o.peer;
  one_taken = o.one_taken;
  one_given = λ no. ⊎_elim
      (λ (one : length a.given ≡ 1). inl one)
      (λ (s : HasStopped a). inr (record { closed = s.closed; few = s.few; stops = s.stops }))
      (o.one_given no);
}

pub acceptor_from : (h : History) (n i : ℕ) (a : Account) → calm_facts.IsAcceptor (calm_of h) n i (calm_account a) → IsAcceptor h.accounts n i a
acceptor_from h n i a o = record {
  begins = o.begins;
  known = o.known;
  some = o.some;
  part = opener_back (partner_in h.accounts 0 a).part o.part;
  peer = o.peer;
  one_taken = o.one_taken;
  one_given = λ no. ⊎_elim
      (λ (one : length a.given ≡ 1). inl one)
      (λ (s : calm_facts.HasStopped (calm_account a)). inr (record { closed = s.closed; few = s.few; stops = s.stops }))
      (o.one_given no);
}

-- a tunnel is made in the one where it is in the other
pub made_from : (a : Account) → calm_facts.IsMade (calm_account a) → IsMade a
made_from a made none = made (ap calm_part none)

pub made_to : (w : World) (h : History) (n i : ℕ) → AccountOk w h n i 0 (h.accounts n i 0) → IsMade (h.accounts n i 0) → calm_facts.IsMade (calm_account (h.accounts n i 0))
made_to w h n i ok made none = by (h.accounts n i 0).part refl
  where
    by : (p : Part) → (h.accounts n i 0).part ≡ p → ⊥
    by Unmade is = made is
    by Opener is = let two : calm.Opener ≡ calm.Unmade = ap calm_part (sym is) ∙ none in cc
    by Acceptor is = let two : calm.Acceptor ≡ calm.Unmade = ap calm_part (sym is) ∙ none in cc
    by Renewed is = let lt = (renewed_of w h n i 0 (h.accounts n i 0) ok is).later in let no : ⊥ = omega (arith, lt) in no

module _ (w : World) (h : History) (n i : ℕ) (ok : AccountOk w h n i 0 (h.accounts n i 0)) where
  abbrev a : Account
  a = h.accounts n i 0

  part_to : (p : Part) → a.part ≡ p → IsPart w h n i 0 a p → calm_facts.IsPart (calm_of h) n i (calm_account a) (calm_part p)
  part_to Unmade own is = ap calm_account is
  part_to Opener own is = opener_to h n i a is.1
  part_to Acceptor own is = acceptor_to h n i a is.1
  part_to Renewed own is = let lt = is.later in absurd (omega (arith, lt))

  pub account_to : calm_facts.AccountOk (calm_of h) n i (calm_account a)
  account_to = record {
    part = part_to a.part refl ok.part;
    some = λ made. ok.some (made_from a made);
    id = λ made. ok.id (made_from a made);
    node = λ made. ok.node (made_from a made);
    peer = ok.peer;
    remote = ok.remote;
    spelled = all_first a.given ok.spelled;
    told = ok.told;
    taken = λ place t found lt.
        (let q = ok.taken place t found lt in
        let number = q.numbered in
        let none = (ok.from_none refl).1 in
        record { numbered = omega (arith, number, none); partner = q.partner; learned = q.learned; sender = q.sender; letter = q.letter; there = q.there; tells = q.tells });
    ignored = ok.ignored;
  }

  -- and back again, for what of it isn't said there
  module _ (v : World) (k : History) (made : IsMade (k.accounts n i 0)) (now : calm_facts.AccountOk (calm_of k) n i (calm_account (k.accounts n i 0)))
      (unrenewed : (k.accounts n i 0).part ≡ Renewed → ⊥) (first_given : (k.accounts n i 0).first_given ≡ 0) (first_taken : (k.accounts n i 0).first_taken ≡ 0)
      (declined : (k.accounts n i 0).declined ≡ true → (k.accounts n i 0).part ≡ Opener) where
    abbrev b : Account
    b = k.accounts n i 0

    part_from : (p : Part) → b.part ≡ p → calm_facts.IsPart (calm_of k) n i (calm_account b) (calm_part p) → IsPart v k n i 0 b p
    part_from Unmade own is = absurd (made own)
    part_from Opener own is = (refl, opener_from k n i b is)
    part_from Acceptor own is = (refl, acceptor_from k n i b is)
    part_from Renewed own is = absurd (unrenewed own)

    made_now : calm_facts.IsMade (calm_account b)
    made_now none = by b.part refl
      where
        by : (p : Part) → b.part ≡ p → ⊥
        by Unmade is = made is
        by Opener is = let two : calm.Opener ≡ calm.Unmade = ap calm_part (sym is) ∙ none in cc
        by Acceptor is = let two : calm.Acceptor ≡ calm.Unmade = ap calm_part (sym is) ∙ none in cc
        by Renewed is = unrenewed is

    pub account_from : AccountOk v k n i 0 b
    account_from = record {
      part = part_from b.part refl now.part;
      some = λ z. now.some made_now;
      id = λ z. now.id made_now;
      node = λ z. now.node made_now;
      peer = now.peer;
      remote = now.remote;
      first_given = omega (arith, first_given);
      first_taken = omega (arith, first_taken);
      from_none = λ z. (first_given, first_taken);
      spelled = all_spelled 0 b.given now.spelled;
      told = now.told;
      taken = λ place t found lt.
          (let q = now.taken place t found lt in
          let number = q.numbered in
          record { numbered = omega (arith, number, first_taken); partner = q.partner; learned = q.learned; sender = q.sender; letter = q.letter; there = q.there; tells = q.tells });
      ignored = now.ignored;
      entered = λ z. omega arith;
      declined = λ z. (refl, declined z);
    }

-- ---- live tunnels

-- without its recovery tunnel, which has reset it, and without a query; one in epoch 0 asks for nothing
abbrev pub bare : Tunnel → Tunnel
bare t = record t { recovery = None; query = no_query }

state_to : (h : History) (n i : ℕ) (a : Account) (t : Tunnel) (p : Part) → IsInState h.accounts i 0 a t p → (p ≡ Renewed → ⊥)
    → calm_facts.IsInState (calm_of h) i (calm_account a) (bare t) (calm_part p)
state_to h n i a t Unmade is other = is
state_to h n i a t Opener is other = is
state_to h n i a t Acceptor is other = is
state_to h n i a t Renewed is other = absurd (other refl)

state_from : (h : History) (n i : ℕ) (a : Account) (t : Tunnel) (p : Part) → calm_facts.IsInState (calm_of h) i (calm_account a) (bare t) (calm_part p)
    → IsInState h.accounts i 0 a t p
state_from h n i a t Unmade is = is
state_from h n i a t Opener is = is
state_from h n i a t Acceptor is = is
state_from h n i a t Renewed is = absurd is

acked_to : (h : History) (n i : ℕ) (a : Account) (count : ℕ) (p : Part) → AreAcked h.accounts n i 0 a count p → (p ≡ Renewed → ⊥)
    → calm_facts.AreAcked (calm_of h) n i (calm_account a) count (calm_part p)
acked_to h n i a count Unmade q other = q
acked_to h n i a count Opener q other = (
  λ none. ⊎_elim
      (λ z. inl z)
      (λ r. inr (⊎_elim
      (λ (s : IsAnswered h.accounts n i a count). inl (record { acceptor = s.acceptor; part = ap calm_part s.part; peer = s.peer; remote = s.remote; enough = s.enough }))
      (λ s. inr s) r))
      (q.0 none),
  q.1,
)
acked_to h n i a count Acceptor q other = q
acked_to h n i a count Renewed q other = absurd (other refl)

acked_from : (h : History) (n i : ℕ) (a : Account) (count : ℕ) (p : Part) → calm_facts.AreAcked (calm_of h) n i (calm_account a) count (calm_part p)
    → AreAcked h.accounts n i 0 a count p
acked_from h n i a count Unmade q = q
acked_from h n i a count Opener q = (
  λ none. ⊎_elim
      (λ z. inl z)
      (λ r. inr (⊎_elim
      (λ (s : calm_facts.IsAnswered (calm_of h) n i (calm_account a) count).
      inl (record { acceptor = s.acceptor; part = acceptor_back (h.accounts a.peer s.acceptor 0).part s.part; peer = s.peer; remote = s.remote; enough = s.enough }))
      (λ s. inr s) r))
      (q.0 none),
  q.1,
)
acked_from h n i a count Acceptor q = q
acked_from h n i a count Renewed q = absurd q

pub live_to : (h : History) (n i : ℕ) (t : Tunnel) → ((h.accounts n i 0).part ≡ Renewed → ⊥) → (h.accounts n i 0).first_given ≡ 0 → (h.accounts n i 0).first_taken ≡ 0
    → t.control.local ≡ i → ((s : ℕ) (c : Call) → at t.calls s ≡ Some c → c.remote < 65536) → Ascends t.calls
    → ChannelOk h.accounts n i 0 (h.accounts n i 0) t → calm_facts.LiveOk (calm_of h) n i (calm_account (h.accounts n i 0)) (bare t)
live_to h n i t other first_given first_taken local calls order c =
    let a = h.accounts n i 0 in
    let is : t.control.channel.window.acked ≡ c.acked = (let q = c.acked_is in omega (arith, q, first_given)) in
    record {
      local = local;
      peer = c.peer;
      remote = c.remote;
      state = state_to h n i a t a.part c.state other;
      letters = c.letters ∙ ap (λ z. map kept_letter (drop z a.given)) (sym is);
      counted = (let q = c.counted in omega (arith, q, is));
      few = c.few;
      outstanding = c.outstanding;
      taken = (let q = c.taken in omega (arith, q, first_taken));
      acked = subst (λ z. calm_facts.AreAcked (calm_of h) n i (calm_account a) z (calm_part a.part)) (sym is) (acked_to h n i a c.acked a.part c.were_acked other);
      calls = calls;
      order = order;
      recovery = refl;
      query = refl;
    }

pub live_from : (h : History) (n i : ℕ) (t : Tunnel) → (h.accounts n i 0).first_given ≡ 0 → (h.accounts n i 0).first_taken ≡ 0
    → calm_facts.LiveOk (calm_of h) n i (calm_account (h.accounts n i 0)) (bare t) → ChannelOk h.accounts n i 0 (h.accounts n i 0) t
live_from h n i t first_given first_taken l =
    let a = h.accounts n i 0 in
    record {
      peer = l.peer;
      remote = l.remote;
      state = state_from h n i a t a.part l.state;
      acked = t.control.channel.window.acked;
      acked_is = omega (arith, first_given);
      letters = l.letters;
      counted = l.counted;
      few = l.few;
      outstanding = l.outstanding;
      taken = (let q = l.taken in omega (arith, q, first_taken));
      were_acked = acked_from h n i a t.control.channel.window.acked a.part l.acked;
    }
