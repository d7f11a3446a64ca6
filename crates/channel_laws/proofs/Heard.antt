-- The letter that a tunnel hears is of the tunnel's own epoch, and the next one of its sender's list in it.
--
-- A packet of an earlier epoch is refused by the world. One of a later epoch was sent by a tunnel that is ahead of the one that it is for; and that is
-- frozen, restored, closed or gone then, so it isn't one that takes a letter. Of one epoch, the 16 bits of a number tell the number without
-- an end: the packet hasn't outlived half of the numbers, and no tunnel gives 8,192 letters more than its other end took.
use Rattle.std.proofs.Common.{◌≡◌, ◌⊎◌, inl, inr, ⊎_elim, ℕ, ◌+◌, ◌<◌, ◌≤◌, Bool, true, false, cond, List, length, refl, sym, ap, ap₂, ◌∙◌, subst, Option, Some, None, Result, Ok, Err, arith}
use Rattle.std.proofs.lemmas.Bool.{eqb-false}
use Rattle.std.proofs.lemmas.Bool.Decides.{nat_tests}
use Rattle.std.proofs.lemmas.Option.{slice_get_within}
use Rattle.std.specs.Prelude.{slice_get, nat_lt, ◌==◌}
use Rattle.recv_window.specs.declared.Class.TheVariants.{Next}
use Rattle.recv_window.specs.Window.{on_wire, class_of, ClassIsTrue}
use Rattle.l2tp_header.specs.declared.header.Header.{Header}
use Rattle.l2tp_header.specs.declared.header.HeaderError.{HeaderError}
use Rattle.l2tp_header.specs.Reading.{header_of}
use Rattle.end_model.specs.Secrets.{uncovered_datagram}
use Rattle.end_model.specs.declared.out.Origin.{Origin}
use Rattle.end_model.specs.declared.out.Origin.TheVariants as origin
use Rattle.end_model.specs.declared.out.ControlOrigin.{ControlOrigin}
use Rattle.end_model.specs.declared.tunnel.Control.{Control}
use Rattle.end_names.specs.Names.{address_of}
use Rattle.end_model.specs.Tunnels.{Tunnel, mode_of, is_current}
use Rattle.world_model.specs.declared.packet.Packet.{Packet}
use Rattle.world_model.specs.declared.standing.Counts.{Counts}
use Rattle.world_model.specs.declared.standing.Standing.{Standing}
use Rattle.world_model.specs.declared.refusal.Refusal.TheVariants.{HalfSpace, Stale}
use Rattle.world_model.specs.World.{World, Node, standing_of, epoch_of, counts_of, counts_now, outlives, outlived, is_past, too_old}
use Rattle.step_laws.specs.Letters.{Letter}
use Rattle.frame_laws.specs.Codecs.{Codecs}
use Rattle.channel_laws.proofs.Spelled.{all_so}
use Rattle.channel_laws.specs.Recoveries.{WrittenIsRead, WrittenHasRoom}
use Rattle.channel_laws.specs.Accounts.{Opener, Acceptor, Renewed, Account, History}
use Rattle.channel_laws.specs.Facts.{IsMade, IsLost, partner_in, AreLinked, IsRenewed, AccountOk, ChannelOk, LiveOk, EndOk, BookOk, NodeOk, Says, ALetter, Nothing, IsCopy, IsRefusal, OriginOk, PacketOk, Holds}
use Rattle.channel_laws.specs.Epochs.{IsLive, EpochsKnown}
use Rattle.channel_laws.specs.Heard.{IsRead, IsDelivered, IsOfItsEpoch, NoneIsOfAnother}
use Rattle.channel_laws.proofs.Numbers.{next_is_expected, count_is_true}
use Rattle.channel_laws.proofs.Told.{copy_tells}
use Rattle.channel_laws.proofs.Reached.{reach_of, unreached}
use Rattle.channel_laws.proofs.Linked.{part_cases, opener_of, acceptor_of, first_or_later, linked_back, renewed_alike, AreNearby, unlearned_small, nearby}

-- ---- what the world refuses

none_first : {X : Type 0} (b : Bool) (x : X) (o : Option X) → cond b (Some x) o ≡ None → (b ≡ false) × (o ≡ None)
none_first true x o h = absurd cc
none_first false x o h = (refl, h)

not_less : (m n : ℕ) → nat_lt m n ≡ false → n ≤ m
not_less m n h = grind (arith, nat_tests)

lives : (number count : ℕ) → outlives number count ≡ false → count ≤ number + 32767
lives number count h = grind (arith, nat_tests)

-- a packet that isn't refused is of no earlier epoch
pub no_earlier : (epoch : ℕ) (o : ControlOrigin) (s : Standing) (c : Control) → is_past epoch o s c ≡ None → s.epoch ≤ epoch
no_earlier epoch o s c h =
    not_less epoch s.epoch (none_first (nat_lt epoch s.epoch) (Stale epoch s.epoch) (cond (epoch == s.epoch) (outlived o (counts_now s.lost c)) None) h).0

pub record IsYoung (o : ControlOrigin) (c : Control) : Type 0 where
  pub taken : c.channel.inbox.taken ≤ o.ns + 32767
  pub acked : c.channel.window.acked ≤ o.nr + 32767

young_counts : (o : ControlOrigin) (c : Control) → outlived o (counts_of c) ≡ None → IsYoung o c
young_counts o c young =
    let taken = c.channel.inbox.taken in
    let acked = c.channel.window.acked in
    let one = none_first (outlives o.ns taken) (HalfSpace o.ns taken) (cond (outlives o.nr acked) (Some (HalfSpace o.nr acked)) None) young in
    let two = none_first (outlives o.nr acked) (HalfSpace o.nr acked) None one.1 in
    record { taken = lives o.ns taken one.0; acked = lives o.nr acked two.0 }

-- of the same epoch its numbers haven't outlived half of them, as the channel counts, which wasn't lost
pub same_epoch : (epoch : ℕ) (o : ControlOrigin) (s : Standing) (c : Control) → is_past epoch o s c ≡ None → epoch ≡ s.epoch → s.lost ≡ None → IsYoung o c
same_epoch epoch o s c h same kept =
    let rest = (none_first (nat_lt epoch s.epoch) (Stale epoch s.epoch) (cond (epoch == s.epoch) (outlived o (counts_now s.lost c)) None) h).1 in
    young_counts o c (by (epoch == s.epoch) refl rest)
  where
    by : (b : Bool) → (epoch == s.epoch) ≡ b → cond b (outlived o (counts_now s.lost c)) None ≡ None → outlived o (counts_of c) ≡ None
    by true is g = subst (λ (l : Option Counts). outlived o (counts_now l c) ≡ None) kept g
    by false is g = absurd (eqb-false epoch s.epoch is same)

pub past_of : (w : World) (n epoch : ℕ) (o : ControlOrigin) (c : Control) → too_old epoch o w n (Some c) ≡ None → is_past epoch o (standing_of w n c.local) c ≡ None
unfolding too_old
past_of w n epoch o c h = h

-- ---- the numbers of a copy that reaches a tunnel

-- what its sender `a` and the tunnel, with its account `b`, know of each other
pub record Fit (a b : Account) (o : ControlOrigin) : Type 0 where
  pub ns : o.empty ≡ false → o.ns ≤ b.first_taken + length b.taken + 8192
  pub nr : o.nr ≤ b.first_given + length b.given + 2
  pub alike : a.first_given ≡ b.first_taken

-- the letter of a copy that isn't empty was given
copy_there : (a : Account) (o : ControlOrigin) (tunnel : ℕ) (bytes : List ℕ) → Says a o tunnel bytes → o.empty ≡ false → o.ns < a.first_given + length a.given
copy_there a o tunnel bytes (ALetter l place full at_place there are) f = let lt = slice_get_within a.given place l there in omega arith
copy_there a o tunnel bytes (Nothing empty are) f = absurd cc

-- the letter with the number that its other end's channel expects
copy_letter : (a : Account) (o : ControlOrigin) (tunnel : ℕ) (bytes : List ℕ) → Says a o tunnel bytes → o.empty ≡ false → (place : ℕ) → o.ns ≡ a.first_given + place
    → (l : Letter) × (slice_get a.given place ≡ Some l)
copy_letter a o tunnel bytes (ALetter l k full at_place there are) f place is =
    let same : k ≡ place = omega (arith, at_place, is) in (l, subst (λ q. slice_get a.given q ≡ Some l) same there)
copy_letter a o tunnel bytes (Nothing empty are) f place is = absurd cc

-- how a message names the tunnel that it is for: by its id, or not at all
abbrev Names : ℕ → ℕ → Type 0
Names tunnel i = ((tunnel ≡ 0 → ⊥) × (tunnel ≡ i)) ⊎ (tunnel ≡ 0)

module _ (w : World) (h : History) (holds : Holds w h) (known : EpochsKnown w h) (p : Packet) (o : ControlOrigin) (e : ℕ)
    (copy : IsCopy (h.accounts p.from o.tunnel e) p o) (i : ℕ) (some : 0 < i) where
  abbrev a : Account
  a = h.accounts p.from o.tunnel e

  ok : AccountOk w h p.from o.tunnel e a
  ok = holds.accounts p.from o.tunnel e

  -- one that names none is of epoch 0
  unnamed_first : copy.tunnel ≡ 0 → e ≡ 0
  unnamed_first z = ⊎_elim
      (λ k. (opener_of w h p.from o.tunnel e a ok k.1).0)
      (λ (k : (copy.tunnel ≡ 0 → ⊥) × (copy.tunnel ≡ a.remote)). absurd (k.0 z))
      copy.named

  -- one that names the tunnel has learned it
  learned : (copy.tunnel ≡ 0 → ⊥) → copy.tunnel ≡ i → a.remote ≡ i
  learned some is = ⊎_elim
      (λ k. absurd (some k.0))
      (λ (k : (copy.tunnel ≡ 0 → ⊥) × (copy.tunnel ≡ a.remote)). sym k.1 ∙ is)
      copy.named

  -- where it is of a later epoch its sender is the other end of a link
  link : IsRenewed w h p.from o.tunnel e a → Names copy.tunnel i → AreLinked h.accounts p.to i p.from o.tunnel
  link r names = ⊎_elim
      (λ (k : (copy.tunnel ≡ 0 → ⊥) × (copy.tunnel ≡ i)).
      linked_back h.accounts p.from o.tunnel p.to i (subst (λ j. AreLinked h.accounts p.from o.tunnel p.to j) (learned k.0 k.1) (subst (λ m. AreLinked h.accounts p.from o.tunnel m a.remote) (sym copy.to) r.linked)))
      (λ z. let first = unnamed_first z in let lt = r.later in absurd (omega (arith, first, lt)))
      names

  -- it is of no later epoch than the tunnel is in, where that is neither frozen nor restored
  no_later : (t : Tunnel) → IsLive w p.to i t → is_current (mode_of t.recovery) ≡ true → Names copy.tunnel i → e ≤ epoch_of w p.to i
  no_later t live current names = ⊎_elim
      (λ (first : e ≡ 0). omega (arith, first))
      (λ (r : IsRenewed w h p.from o.tunnel e a).
      let above = known.above p.to i p.from o.tunnel t live current (link r names) in
      let entered = ok.entered copy.made in
      omega (arith, above, entered))
      (first_or_later w h p.from o.tunnel e a ok copy.made)

  -- ---- in epoch 0

  module _ (first : e ≡ 0) where
    begun : (a.first_given ≡ 0) × (a.first_taken ≡ 0)
    begun = ok.from_none first

    also : ((h.accounts p.to i e).first_given ≡ 0) × ((h.accounts p.to i e).first_taken ≡ 0)
    also = (holds.accounts p.to i e).from_none first

    near_first : a.remote ≡ i → AreNearby (h.accounts p.to i e) a
    near_first remote =
        subst (λ (k : ℕ). AreNearby (h.accounts p.to i k) (h.accounts p.from o.tunnel k)) (sym first)
        (nearby w h holds.accounts p.to i p.from o.tunnel some (subst (λ k. IsMade (h.accounts p.from o.tunnel k)) first copy.made)
        (subst (λ k. (h.accounts p.from o.tunnel k).peer ≡ p.to) first (sym copy.to))
        (subst (λ k. (h.accounts p.from o.tunnel k).remote ≡ i) first remote))

    fit_named : a.remote ≡ i → Fit a (h.accounts p.to i e) o
    fit_named remote =
        let near = near_first remote in
        let le = near.given in
        let fewer = near.taken in
        let taken = copy.nr in
        let zero_here = begun in
        let zero_there = also in
        record {
          ns = λ full. (let lt = copy_there a o copy.tunnel p.bytes copy.says full in omega (arith, lt, le, zero_here.0, zero_there.1));
          nr = omega (arith, taken, fewer, zero_here.1, zero_there.0);
          alike = zero_here.0 ∙ sym zero_there.1;
        }

    fit_none : copy.tunnel ≡ 0 → Fit a (h.accounts p.to i e) o
    fit_none z = ⊎_elim
        (λ k. ⊎_elim
        (λ (lost : IsLost a).
        let small = unlearned_small h.accounts p.from o.tunnel a (opener_of w h p.from o.tunnel e a ok k.1).1 lost.1 in
        let few = small.given in
        let two = small.taken in
        let taken = copy.nr in
        record {
          ns = λ full. (let lt = copy_there a o copy.tunnel p.bytes copy.says full in let b = begun in omega (arith, lt, few, b.0));
          nr = (let b = begun in omega (arith, taken, two, b.1));
          alike = begun.0 ∙ sym also.1;
        })
        (λ (only : (o.nr ≡ 0) × (o.empty ≡ false → o.ns ≡ 0)).
        let nr = only.0 in
        record { ns = λ full. (let ns = only.1 full in omega (arith, ns)); nr = omega (arith, nr); alike = begun.0 ∙ sym also.1 })
        k.2)
        (λ (k : (copy.tunnel ≡ 0 → ⊥) × (copy.tunnel ≡ a.remote)). absurd (k.0 z))
        copy.named

    fit_first : Names copy.tunnel i → Fit a (h.accounts p.to i e) o
    fit_first names = ⊎_elim (λ (k : (copy.tunnel ≡ 0 → ⊥) × (copy.tunnel ≡ i)). fit_named (learned k.0 k.1)) (λ z. fit_none z) names

  -- ---- in a later one

  fit_later : IsRenewed w h p.from o.tunnel e a → Names copy.tunnel i → IsMade (h.accounts p.to i e) → Fit a (h.accounts p.to i e) o
  fit_later r names made =
      let b = h.accounts p.to i e in
      let l = link r names in
      let remote : a.remote ≡ i = r.remote ∙ l.back in
      let partner : partner_in h.accounts e a ≡ b = ap₂ (λ x y. h.accounts x y e) (sym copy.to) remote in
      let later = r.later in
      ⊎_elim
      (λ (first : e ≡ 0). absurd (omega (arith, first, later)))
      (λ (s : IsRenewed w h p.to i e b).
      let same = r.same (ap (λ (x : Account). x.part) partner ∙ part_of s) in
      let answers : a.answer ≡ b.answer = sym same ∙ ap (λ (x : Account). x.answer) partner in
      let alike = renewed_alike w h p.from o.tunnel p.to i e a b r s (linked_back h.accounts p.to i p.from o.tunnel l) answers in
      let joined = subst (λ (x : Account). length a.given ≤ length x.taken + 8192) partner r.joined.few_here in
      let taken = subst (λ (x : Account). length a.taken ≤ length x.given) partner r.joined.here in
      let here = alike.here in
      let there = alike.there in
      let nr = copy.nr in
      record {
        ns = λ full. (let lt = copy_there a o copy.tunnel p.bytes copy.says full in omega (arith, lt, joined, here));
        nr = omega (arith, nr, taken, there);
        alike = here;
      })
      (first_or_later w h p.to i e b (holds.accounts p.to i e) made)
    where
      part_of : IsRenewed w h p.to i e (h.accounts p.to i e) → (h.accounts p.to i e).part ≡ Renewed
      part_of s = ⊎_elim
          (λ (is : (h.accounts p.to i e).part ≡ Opener). let z = (opener_of w h p.to i e (h.accounts p.to i e) (holds.accounts p.to i e) is).0 in let lt = s.later in absurd (omega (arith, z, lt)))
          (λ (k : ((h.accounts p.to i e).part ≡ Acceptor) ⊎ ((h.accounts p.to i e).part ≡ Renewed)). ⊎_elim
          (λ (is : (h.accounts p.to i e).part ≡ Acceptor). let z = (acceptor_of w h p.to i e (h.accounts p.to i e) (holds.accounts p.to i e) is).0 in let lt = s.later in absurd (omega (arith, z, lt)))
          (λ (is : (h.accounts p.to i e).part ≡ Renewed). is) k)
          (part_cases (h.accounts p.to i e).part made)

  fit : Names copy.tunnel i → IsMade (h.accounts p.to i e) → Fit a (h.accounts p.to i e) o
  fit names made = ⊎_elim
      (λ (first : e ≡ 0). fit_first first names)
      (λ (r : IsRenewed w h p.from o.tunnel e a). fit_later r names made)
      (first_or_later w h p.from o.tunnel e a ok copy.made)

-- ---- then they are read truly

module _ (classes : ClassIsTrue) (h : History) (n i e : ℕ) (a : Account) (t : Tunnel) (o : ControlOrigin) (live : ChannelOk h.accounts n i e (h.accounts n i e) t)
    (young : IsYoung o t.control) (fit : Fit a (h.accounts n i e) o) where
  is_read : IsRead t.control o
  is_read =
      let taken = live.taken in
      let acked = live.acked_is in
      let near = young.taken in
      let sum = live.counted in
      let few = live.few in
      let out = live.outstanding in
      let le = fit.nr in
      record {
        class = λ full. classes o.ns t.control.channel.inbox ((let ahead = fit.ns full in omega (arith, ahead, taken)), omega (arith, near));
        acked = count_is_true t.control.channel.window o.nr young.acked (omega (arith, le, acked, sum, few)) (omega (arith, out, few));
      }

  -- the one that comes next is the next one of the sender's
  is_next : (tunnel : ℕ) (bytes : List ℕ) → Says a o tunnel bytes → o.empty ≡ false → class_of (on_wire o.ns) t.control.channel.inbox ≡ Next
      → (l : Letter) × (slice_get a.given (length (h.accounts n i e).taken) ≡ Some l)
  is_next tunnel bytes says full next =
      let taken = live.taken in
      let near = young.taken in
      let ahead = fit.ns full in
      let number = next_is_expected classes o.ns t.control.channel.inbox (omega (arith, ahead, taken)) (omega (arith, near)) next in
      let alike = fit.alike in
      copy_letter a o tunnel bytes says full (length (h.accounts n i e).taken) (omega (arith, number, taken, alike))

-- ---- a packet that is delivered

module _ (codecs : Codecs) (again : WrittenIsRead) (room : WrittenHasRoom) (classes : ClassIsTrue) (w : World) (h : History)
    (holds : Holds w h) (known : EpochsKnown w h) where
  module _ (p : Packet) (o : ControlOrigin) (node : Node) (i : ℕ) (t : Tunnel) (d : IsDelivered w p o node i t) (current : is_current (mode_of t.recovery) ≡ true)
      (copy : IsCopy (h.accounts p.from o.tunnel p.epoch) p o) where
    abbrev bytes : List ℕ
    bytes = uncovered_datagram node.end.config.secret p.bytes

    end : EndOk w h p.to node.end
    end = let k : EndOk w h p.to node.end × BookOk h p.to node.checkpoint.book = subst (NodeOk w h p.to) d.there (holds.nodes p.to) in k.0

    live : LiveOk w h p.to i t
    live = end.live i t d.live

    is_live : IsLive w p.to i t
    is_live = record { node = node; is = d.there; there = d.live }

    -- it names this tunnel, or none
    names : Names copy.tunnel i
    names = by (header_of bytes) refl
      where
        by : (x : Result Header HeaderError) → header_of bytes ≡ x → Names copy.tunnel i
        by (Err x) read = absurd (unreached node.end (address_of p.from) bytes x t.control read d.reached_it)
        by (Ok k) read =
            let r = reach_of node.end (address_of p.from) bytes k t.control read d.reached_it in
            let from = holds.accounts p.from o.tunnel p.epoch in
            let told : k.tunnel ≡ copy.tunnel = copy_tells codecs again room (h.accounts p.from o.tunnel p.epoch) p.epoch p o from.remote
            from.spelled copy node.end.config.secret k read in
            let same : r.id ≡ i = sym (end.live r.id r.tunnel r.there).local ∙ (ap (λ (c : Control). c.local) (sym r.same) ∙ live.local) in
            ⊎_elim
            (λ (q : (k.tunnel ≡ 0 → ⊥) × (k.tunnel ≡ r.id) × (r.tunnel.control.peer ≡ address_of p.from)). inl ((λ z. q.0 (told ∙ z)), sym told ∙ (q.1 ∙ same)))
            (λ (q : k.tunnel ≡ 0). inr (sym told ∙ q))
            r.named

    past : is_past p.epoch o (standing_of w p.to i) t.control ≡ None
    past = subst (λ j. is_past p.epoch o (standing_of w p.to j) t.control ≡ None) live.local (past_of w p.to p.epoch o t.control d.young)

    some : 0 < i
    some = (holds.accounts p.to i 0).some live.made

    pub epoch : p.epoch ≡ epoch_of w p.to i
    epoch =
        let low = no_earlier p.epoch o (standing_of w p.to i) t.control past in
        let high = no_later w h holds known p o p.epoch copy i some t is_live current names in
        omega (arith, low, high)

    pub young : IsYoung o t.control
    young = same_epoch p.epoch o (standing_of w p.to i) t.control past epoch (live.kept current)

    channel : ChannelOk h.accounts p.to i p.epoch (h.accounts p.to i p.epoch) t
    channel = subst (λ e. ChannelOk h.accounts p.to i e (h.accounts p.to i e) t) (sym epoch) (live.channel current)

    made : IsMade (h.accounts p.to i p.epoch)
    made = subst (λ e. IsMade (h.accounts p.to i e)) (sym epoch) ((holds.standings p.to i).entered live.made)

    fits : Fit (h.accounts p.from o.tunnel p.epoch) (h.accounts p.to i p.epoch) o
    fits = fit w h holds known p o p.epoch copy i some names made

    of_its_epoch : IsOfItsEpoch w h p o i t
    of_its_epoch = record {
      copy = copy;
      epoch = epoch;
      read = is_read classes h p.to i p.epoch (h.accounts p.from o.tunnel p.epoch) t o channel young fits;
      next = λ full next. is_next classes h p.to i p.epoch (h.accounts p.from o.tunnel p.epoch) t o channel young fits copy.tunnel p.bytes copy.says full next;
    }

  one_of_its_epoch : (p : Packet) → PacketOk w h p → (o : ControlOrigin) (node : Node) (i : ℕ) (t : Tunnel) → IsDelivered w p o node i t
      → is_current (mode_of t.recovery) ≡ true → IsOfItsEpoch w h p o i t ⊎ IsRefusal h p o
  one_of_its_epoch p ok o node i t d current =
      let sent : OriginOk w h p (origin.Control o) = subst (λ (q : Origin). OriginOk w h p q) d.origin_is ok.sent in
      ⊎_elim
      (λ (copy : IsCopy (h.accounts p.from o.tunnel p.epoch) p o). inl (of_its_epoch p o node i t d current copy))
      (λ (r : IsRefusal h p o). inr r)
      sent

pub none_is_of_another : Codecs → WrittenIsRead → WrittenHasRoom → ClassIsTrue → NoneIsOfAnother
none_is_of_another codecs again room classes w h holds known =
    all_so (PacketOk w h) _ (λ p ok. one_of_its_epoch codecs again room classes w h holds known p ok) w.packets holds.packets
