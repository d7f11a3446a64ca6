-- A tunnel that was frozen or restored resets: what it and its node have to show as it enters an epoch, whichever end of the recovery it is.
use Rattle.std.proofs.Common.{◌≡◌, inl, ⊎_elim, ℕ, ◌<◌, ◌≤◌, true, false, List, map, drop, length, refl, sym, ap, ◌∙◌, subst, Some, None, arith}
use Rattle.std.proofs.lemmas.Bool.{true≢false}
use Rattle.std.specs.List.{AllByRecursion}
use Rattle.id_table.specs.Ids.{at}
use Rattle.id_table.specs.Order.{same_or_not}
use Rattle.end_model.specs.Tunnels.{Tunnel, Recovering, mode_of, is_current}
use Rattle.end_model.specs.End.{End}
use Rattle.end_names.specs.Names.{address_of}
use Rattle.world_model.specs.declared.standing.Standing.{Standing}
use Rattle.world_model.specs.World.{World, Node, standing_of, epoch_of}
use Rattle.step_laws.specs.Letters.{Letter}
use Rattle.step_laws.specs.Moves.{with_tunnel, begun_anew}
use Rattle.connection_laws.specs.Facts.{TellsOwn, kept_letter}
use Rattle.wire_base.specs.declared.pair.Pair.{Pair}
use Rattle.end_model.specs.Calls.{sessions_of}
use Rattle.channel_laws.specs.Accounts.{Account, History}
use Rattle.channel_laws.specs.Facts.{makes, IsRenewed, IsPart, IsInState, AreAcked, AccountOk, IsRecovered, ChannelOk, LiveOk, EndOk, BookOk, NodeOk, Holds, IsSpelledIn}
use Rattle.channel_laws.proofs.Anew.{Begins, first}
use Rattle.channel_laws.proofs.Resetting.{live_grows, ids_on, book_on, other_node_on, begun_holds}
use Rattle.channel_laws.proofs.Entering.{world_then, here_then, other_then, own_standing, other_standing, makes_then}
use Rattle.channel_laws.proofs.Ends.{ids_as, put_end_ok}

-- the account with which a channel begins anew, and the tunnel's recovery, which it finished
pub record IsBegun (w v : World) (h k : History) (n i e : ℕ) (new : Account) (t : Tunnel) (send_from expect : ℕ) (r : Recovering) : Type 0 where
  pub begins : Begins h k n i e new
  pub agrees : (m j : ℕ) → IsRenewed v h m j e (h.accounts m j e) → (h.accounts m j e).peer ≡ n → (h.accounts m j e).remote ≡ i
      → new.answer ≡ (h.accounts m j e).answer
  pub up : epoch_of w n i ≤ e
  pub enough : e ≤ (standing_of w n i).made
  pub renewed : IsRenewed v k n i e new
  pub peer : new.peer ≡ (h.accounts n i 0).peer
  pub remote : t.control.remote ≡ new.remote
  pub first_given : new.first_given ≡ send_from
  pub first_taken : new.first_taken ≡ expect
  pub send_from_fits : send_from < 65536
  pub expect_fits : expect < 65536
  pub open_is : new.closed ≡ None
  pub undeclined : new.declined ≡ false
  pub current : is_current (mode_of (Some r)) ≡ true
  pub recovered : IsRecovered v k n i r
  -- the sessions that it is to ask for
  pub sessions : AllByRecursion (λ (p : Pair). (p.sender < 65536) × (p.receiver < 65536)) (sessions_of t.calls)

module _ (w : World) (h k : History) (n : ℕ) (node : Node) (there : at w.nodes n ≡ Some node) (holds : Holds w h) (x : End) (i e : ℕ) (new : Account) (t : Tunnel)
    (at_t : at node.end.tunnels i ≡ Some t) (inactive : is_current (mode_of t.recovery) ≡ false) (send_from expect mark : ℕ) (r : Recovering)
    (after : x ≡ with_tunnel node.end i (begun_anew send_from expect mark r t))
    (begun : IsBegun w (world_then w n node there x i e) h k n i e new t send_from expect r) where
  abbrev v : World
  v = world_then w n node there x i e

  abbrev u : Tunnel
  u = begun_anew send_from expect mark r t

  both_ok : EndOk w h n node.end × BookOk h n node.checkpoint.book
  both_ok = subst (NodeOk w h n) there (holds.nodes n)

  live : LiveOk w h n i t
  live = both_ok.0.live i t at_t

  -- ---- the world

  epoch_now : epoch_of v n i ≡ e
  epoch_now = ap (λ (s : Standing). s.epoch) (own_standing w n node there x i e)

  made_now : (standing_of v n i).made ≡ (standing_of w n i).made
  made_now = ap (λ (s : Standing). s.made) (own_standing w n node there x i e)

  lost_now : (standing_of v n i).lost ≡ None
  lost_now = ap (λ (s : Standing). s.lost) (own_standing w n node there x i e)

  -- ---- the account

  account_of : AccountOk v k n i e new
  account_of =
      let ok = holds.accounts n i 0 in
      let b = begun.begins in
      record {
        part = subst (IsPart v k n i e new) (sym b.part) begun.renewed;
        some = λ made. ok.some live.made;
        id = λ made. ok.id live.made;
        node = λ made. ok.node live.made;
        peer = (let same = begun.peer in let lt = ok.peer in omega (arith, same, lt));
        remote = (let same = begun.renewed.remote in let was = ap (λ (a : Account). a.remote) (first h k n i e new b n i) in let lt = ok.remote in omega (arith, same, was, lt));
        first_given = (let is = begun.first_given in let lt = begun.send_from_fits in omega (arith, is, lt));
        first_taken = (let is = begun.first_taken in let lt = begun.expect_fits in omega (arith, is, lt));
        from_none = λ z. (let lt = b.later in absurd (omega (arith, z, lt)));
        spelled = subst (AllByRecursion (IsSpelledIn e)) (sym b.given) tt;
        told = subst (AllByRecursion (λ (l : Letter). TellsOwn i l.message)) (sym b.given) tt;
        taken = λ place y is lt. (let no = rw b.taken at is in absurd cc);
        ignored = λ place y is le. (let no = rw b.taken at is in absurd cc);
        entered = λ made. (let now = epoch_now in omega (arith, now));
        declined = λ is. (let no : false ≡ true = sym begun.undeclined ∙ is in absurd cc);
      }

  -- ---- the tunnel

  channel : ChannelOk k.accounts n i e new u
  channel =
      let b = begun.begins in
      let fits = begun.send_from_fits in
      let is = begun.first_given in
      let taken_fits = begun.expect_fits in
      let taken_is = begun.first_taken in
      let nothing_given = ap length b.given in
      let nothing_taken = ap length b.taken in
      record {
        peer = live.peer ∙ ap (λ p. address_of p) (sym begun.peer);
        remote = begun.remote;
        state = subst (IsInState k.accounts i e new u) (sym b.part) (inl (live.established inactive, begun.open_is));
        acked = 0;
        acked_is = omega (arith, is, fits);
        letters = ap (λ (l : List Letter). map kept_letter (drop 0 l)) (sym b.given);
        counted = omega (arith, nothing_given);
        few = omega arith;
        outstanding = omega arith;
        taken = omega (arith, taken_is, taken_fits, nothing_taken);
        were_acked = subst (AreAcked k.accounts n i e new 0) (sym b.part) (omega arith);
      }

  not_inactive : is_current (mode_of u.recovery) ≡ false → ⊥
  not_inactive is = true≢false (sym begun.current ∙ is)

  live_then : LiveOk v k n i u
  live_then =
      let b = begun.begins in
      record {
        local = live.local;
        made = λ none. live.made (ap (λ (a : Account). a.part) (sym (first h k n i e new b n i)) ∙ none);
        peer = live.peer ∙ ap (λ (a : Account). address_of a.peer) (sym (first h k n i e new b n i));
        channel = λ current. subst (λ q. ChannelOk k.accounts n i q (k.accounts n i q) u) (sym epoch_now) (subst (λ a. ChannelOk k.accounts n i e a u) (sym b.here) channel);
        kept = λ current. lost_now;
        established = λ is. absurd (not_inactive is);
        some = λ is. absurd (not_inactive is);
        knows = λ is. absurd (not_inactive is);
        learned = λ is. absurd (not_inactive is);
        recovery = λ q is. (let one : Some r ≡ Some q = is in let same : r ≡ q = cc in subst (IsRecovered v k n i) same begun.recovered);
        unattempted = λ early. (let three = live.established inactive in absurd (omega (arith, three, early)));
        calls = live.calls;
        query = record {
          none = λ z. (let now = epoch_now in let lt = b.later in absurd (omega (arith, now, lt, z)));
          fit = begun.sessions;
        };
      }

  -- ---- the node, and the rest

  pub resets_hold : Holds v k
  resets_hold = begun_holds w v h k n i e new b holds begun.agrees epoch_now begun.up standings made_now begun.enough makes_as refl live.made account_of nodes
    where
      b : Begins h k n i e new
      b = begun.begins

      standings : (m j : ℕ) → ((m ≡ n) × (j ≡ i) → ⊥) → standing_of v m j ≡ standing_of w m j
      standings = other_standing w n node there x i e

      makes_as : (m c : ℕ) → makes v m c ≡ makes w m c
      makes_as = makes_then w n node there x i e

      end_now : EndOk v k n x
      end_now = subst (EndOk v k n) (sym after)
          (put_end_ok w v h k n node.end (with_tunnel node.end i u) both_ok.0 i t u at_t (record { config = refl; role = refl; tunnels = refl }) refl refl
          (ids_as k n node.end (with_tunnel node.end i u) refl
          (ids_on w v h k n i e new b holds begun.agrees epoch_now begun.up standings made_now begun.enough makes_as refl live.made n node.end both_ok.0.ids))
          (λ j q o was. live_grows w v h k n i e new b holds begun.agrees epoch_now begun.up standings made_now begun.enough makes_as refl live.made n j q (λ same. o same.1) (both_ok.0.live j q was))
          live_then)

      book_now : BookOk k n node.checkpoint.book
      book_now = book_on w v h k n i e new b holds begun.agrees epoch_now begun.up standings made_now begun.enough makes_as refl live.made n node.checkpoint.book both_ok.1

      nodes : (m : ℕ) → NodeOk v k m (at v.nodes m)
      nodes m = ⊎_elim
          (λ (same : m ≡ n). subst (λ q. NodeOk v k q (at v.nodes q)) (sym same) (subst (NodeOk v k n) (sym (here_then w n node there x i e)) (end_now, book_now)))
          (λ (o : m ≡ n → ⊥). subst (NodeOk v k m) (sym (other_then w n node there x i e m o))
          (other_node_on w v h k n i e new b holds begun.agrees epoch_now begun.up standings made_now begun.enough makes_as refl live.made m o (at w.nodes m) (holds.nodes m)))
          (same_or_not m n)
