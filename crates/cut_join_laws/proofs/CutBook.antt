-- What records of a step make of the machine's book is the book of the end that the first moves of the step leave, as the history before
-- the step has it. The records are those that a stop keeps, without those by which tunnels come up that aren't there any more.
use Rattle.std.proofs.Common.{◌≡◌, ⊎_elim, ℕ, ◌<◌, Bool, true, false, List, refl, sym, ap, ◌∙◌, subst, Option, Some, None}
use Rattle.std.proofs.lemmas.Bool.{true≢false}
use Rattle.std.specs.Prelude.{is_some}
use Rattle.id_table.specs.Ids.{at}
use Rattle.session_book.specs.declared.record.BookTunnel.{BookTunnel}
use Rattle.session_book.specs.declared.record.BookCall.{BookCall}
use Rattle.session_book.specs.Books.{Kept, tunnel_at, call_at}
use Rattle.world_model.specs.World.{World, Node}
use Rattle.book_laws.specs.Books.{Mirrors, Fits}
use Rattle.book_laws.proofs.Lists.{entry_has}
use Rattle.node_laws.specs.Nodes.{HoldsUp}
use Rattle.epoch_machine.specs.Worlds as machine
use Rattle.epoch_machine.specs.Moves as moves
use Rattle.epoch_machine.specs.Moves.{may_keep}
use Rattle.epoch_machine.specs.Calls.{Calls}
use Rattle.epoch_machine.proofs.Stops.{UpTells, up_tells}
use Rattle.birth_laws.specs.Births.{CallsHold}
use Rattle.stop_laws.specs.Records.{writes, each_allowed, SameBook}
use Rattle.stop_laws.proofs.Stays.{Stays}
use Rattle.connection_laws.proofs.Hearing.{same_address}
use Rattle.session_laws.specs.Names.{name, name_of}
use Rattle.channel_laws.specs.Accounts.{Opener, History}
use Rattle.channel_laws.specs.Facts.{KnowsBy, ByLetter, ByRecord, BookedOk, EndOk, BookOk, NodeOk, Holds}
use Rattle.channel_laws.proofs.OfEnds.{book_ok}
use Rattle.recovery_laws.specs.Joined.{LearnedSo, BookCallJoined, CallsJoined, NodeJoined, kept_in}
use Rattle.recovery_laws.proofs.Epochs.{some_name, learned_so}
use Rattle.join_laws.specs.Steps.{with_book, IsJoined}
use Rattle.join_laws.proofs.Books.{booked, book_here}
use Rattle.line_join_laws.specs.Falls.{IsCutBook}
use Rattle.line_join_laws.proofs.Rebooked.{tunnels_same, calls_same}
use Rattle.line_join_laws.proofs.Written.{Written, all_written}
use Rattle.cut_join_laws.proofs.Before.{drawn_before}
use Rattle.cut_join_laws.proofs.Booked.{call_bound, home_there}
use Rattle.cut_join_laws.proofs.Fewer.{fewer, fewer_allowed, Under, all_under}
use Rattle.cut_join_laws.proofs.Learned.{HasName, has_name, learned_back}
use Rattle.cut_join_laws.proofs.Learning.{all_learn}

-- records that the machine's world allows, and that make this book
pub record CutsTo (m : machine.World) (h : History) (n : ℕ) (j : Kept) : Type 0 where
  pub records : List moves.Kept
  pub allowed : each_allowed m n records ≡ true
  pub book : IsCutBook (writes m records) h n j

some_there : {X : Type 0} (o : Option X) → is_some o ≡ true → (x : X) × (o ≡ Some x)
some_there None is = absurd (true≢false (sym is))
some_there (Some x) is = (x, refl)

module _ (w : World) (h : History) (holds : Holds w h) (m : machine.World) (before : IsJoined w h m) (births : CallsHold m.tunnels m.calls)
    (n : ℕ) (old : Node) (was : at w.nodes n ≡ Some old) (up : HoldsUp old) (ks : List moves.Kept) (allowed : each_allowed m n ks ≡ true)
    (z : machine.World) (stays : Stays m z) (alike : SameBook (writes m ks) z) (v : World) (g : History) (later : Holds v g) (node : Node)
    (there : at v.nodes n ≡ Some node) (fit : Fits node.end) (k : Kept) (mirrors : Mirrors node.end k)
    (joined : IsJoined (with_book v n k) g z) (j : Kept) (own : Mirrors node.end j)
    (ok : (i : ℕ) (b : BookTunnel) → tunnel_at j i ≡ Some b → BookedOk h n b) where
  abbrev c : machine.World
  c = writes m ks

  abbrev keep : ℕ → Bool
  keep y = c.tunnels.booked y

  abbrev few : List moves.Kept
  few = fewer keep ks

  abbrev d : machine.World
  d = writes m few

  under : Under m n keep c d
  under = all_under m n keep ks

  node_ok : EndOk w h n old.end × BookOk h n old.checkpoint.book
  node_ok = subst (NodeOk w h n) was (holds.nodes n)

  abbrev lt : n < 256
  lt = node_ok.0.node

  calls_before : CallsJoined m h n old
  calls_before = let q : NodeJoined m h n (Some old) = subst (NodeJoined m h n) was (before.joined.nodes n lt) in q.1

  calls_there : CallsJoined z g n (booked node k)
  calls_there =
      let q : NodeJoined z g n (Some (booked node k)) = subst (NodeJoined z g n) (book_here v n k node there) (joined.joined.nodes n lt) in
      q.1

  -- ---- tunnels

  booked_at_front : (i : ℕ) → i < 65536 → z.tunnels.booked (name n i) ≡ is_some (tunnel_at j i)
  booked_at_front i fits =
      (joined.joined.tunnels n i lt fits).booked
      ∙ (ap (λ o. is_some (kept_in o i)) (book_here v n k node there)
      ∙ ap (λ o. is_some o) (sym (tunnels_same node.end k j mirrors own i)))

  booked_all : (i : ℕ) → i < 65536 → c.tunnels.booked (name n i) ≡ is_some (tunnel_at j i)
  booked_all i fits = alike.tunnels (name n i) ∙ booked_at_front i fits

  booked_few : (y : ℕ) → d.tunnels.booked y ≡ c.tunnels.booked y
  booked_few y = by (c.tunnels.booked y) refl
    where
      by : (b : Bool) → c.tunnels.booked y ≡ b → d.tunnels.booked y ≡ c.tunnels.booked y
      by true is = under.booked y is
      by false is = under.less y is ∙ sym is

  -- one that is there learned its other end now: it is an opener that has taken no letter
  module _ (i : ℕ) (fits : i < 65536) (b : BookTunnel) (has : tunnel_at j i ≡ Some b) (new : m.tunnels.learned (name n i) ≡ 0)
      (may : may_keep m n (moves.TunnelUp (name n i) (c.tunnels.learned (name n i))) ≡ true) where
    abbrev learned : ℕ
    learned = c.tunnels.learned (name n i)

    local : b.local ≡ i
    local = entry_has (λ (t : BookTunnel). t.local) i j.tunnels b has

    of_book : BookedOk h n b
    of_book = ok i b has

    some : 0 < i
    some = subst (λ q. 0 < q) local ((holds.accounts n b.local 0).some of_book.made)

    none_by : KnowsBy h.accounts n i b.remote → ((h.accounts n i 0).part ≡ Opener) × ((h.accounts n i 0).remote ≡ 0)
    none_by (ByLetter is) =
        let known = learned_so h.accounts n i (h.accounts n i 0).peer b.remote (m.tunnels.learned (name n i))
        (before.joined.tunnels n i lt fits).learned refl is of_book.remote
        (subst (λ q. (h.accounts n q 0).closed ≡ Some 0 → ⊥) local of_book.late) in
        absurd (some_name (h.accounts n i 0).peer b.remote of_book.remote (sym known ∙ new))
    none_by (ByRecord part none other back to) = (part, none)

    none : ((h.accounts n i 0).part ≡ Opener) × ((h.accounts n i 0).remote ≡ 0)
    none = none_by (subst (λ q. KnowsBy h.accounts n q b.remote) local of_book.knows)

    tells : UpTells m n (name n i) learned
    tells = up_tells m n (name n i) learned may

    -- the machine's world at the front has learned it too, so it has a name
    has_its : HasName learned
    has_its = has_name v g later n i learned
        (subst (LearnedSo g.accounts n i) (sym (alike.links (name n i) (booked_at_front i fits ∙ ap (λ o. is_some o) has)))
        (joined.joined.tunnels n i lt fits).learned)
        (λ e. tells.sender e)

    learned_now : LearnedSo h.accounts n i learned
    learned_now =
        subst (LearnedSo h.accounts n i) (sym has_its.is)
        (learned_back w h holds n i some fits none.0 none.1 has_its.node has_its.tunnel
        (subst (LearnedSo h.accounts has_its.node has_its.tunnel) (ap m.tunnels.learned (sym has_its.is) ∙ tells.learns)
        (before.joined.tunnels has_its.node has_its.tunnel has_its.node_fits has_its.tunnel_fits).learned))

  learned_all : (i : ℕ) → i < 65536 → c.tunnels.booked (name n i) ≡ true → LearnedSo h.accounts n i (c.tunnels.learned (name n i))
  learned_all i fits is = ⊎_elim
      (λ same. subst (LearnedSo h.accounts n i) (sym same) (before.joined.tunnels n i lt fits).learned)
      (λ now.
      let b = some_there (tunnel_at j i) (sym (booked_all i fits) ∙ is) in
      learned_now i fits b.0 b.1 now.0 now.1)
      (all_learn m n ks allowed (name n i))

  learned_few : (i : ℕ) → i < 65536 → LearnedSo h.accounts n i (d.tunnels.learned (name n i))
  learned_few i fits = by (c.tunnels.booked (name n i)) refl
    where
      by : (b : Bool) → c.tunnels.booked (name n i) ≡ b → LearnedSo h.accounts n i (d.tunnels.learned (name n i))
      by true is = subst (LearnedSo h.accounts n i) (sym (under.learned (name n i) is)) (learned_all i fits is)
      by false is = subst (LearnedSo h.accounts n i) (sym (under.unlearned (name n i) is)) (before.joined.tunnels n i lt fits).learned

  -- ---- calls

  call_at_front : (s : ℕ) → s < 65536 → z.calls.booked (name n s) ≡ is_some (call_at j s)
  call_at_front s fits = calls_there.booked s fits ∙ ap (λ o. is_some o) (sym (calls_same node.end k j mirrors own s))

  call_all : (s : ℕ) → s < 65536 → c.calls.booked (name n s) ≡ is_some (call_at j s)
  call_all s fits = alike.calls (name n s) ∙ call_at_front s fits

  front_ok : EndOk v g n node.end × BookOk g n node.checkpoint.book
  front_ok = subst (NodeOk v g n) there (later.nodes n)

  module _ (s : ℕ) (b : BookCall) (has : call_at j s ≡ Some b) where
    session : s < 65536
    session = call_bound node.end j own s b has fit

    wrote : Written m c n
    wrote = all_written m n ks allowed

    drawn : m.calls.drawn (name n s) ≡ true
    drawn = drawn_before h m births n old up calls_before ks allowed s session (call_all s session ∙ ap (λ o. is_some o) has)

    kept_there : BookCallJoined z g n s b
    kept_there = calls_there.kept s b (sym (calls_same node.end k j mirrors own s) ∙ has)

    -- its tunnel goes to whom it went before
    peer_same : (g.accounts n b.tunnel 0).peer ≡ (h.accounts n b.tunnel 0).peer
    peer_same =
        let t = home_there node.end j own s b has fit in
        let local = entry_has (λ (q : BookTunnel). q.local) b.tunnel j.tunnels t.0 t.1 in
        let now = (book_ok v g later n node.end front_ok.0 j own).tunnels b.tunnel t.0 t.1 in
        let then = ok b.tunnel t.0 t.1 in
        subst (λ q. (g.accounts n q 0).peer ≡ (h.accounts n q 0).peer) local
        (same_address (g.accounts n t.0.local 0).peer (h.accounts n t.0.local 0).peer (sym now.peer ∙ then.peer))

    kept_all : BookCallJoined c h n s b
    kept_all = record {
      tunnel = ap (λ f. f (name n s)) wrote.tunnel ∙ (sym (stays.calls.tunnel (name n s) drawn) ∙ kept_there.tunnel);
      remote = alike.names (name n s) (call_at_front s session ∙ ap (λ o. is_some o) has)
          ∙ (kept_there.remote ∙ ap (λ p. name_of p b.remote) peer_same);
    }

  kept_few : (s : ℕ) (b : BookCall) → call_at j s ≡ Some b → BookCallJoined d h n s b
  kept_few s b has =
      let q = kept_all s b has in
      record {
        tunnel = ap (λ (x : Calls). x.tunnel (name n s)) under.calls ∙ q.tunnel;
        remote = ap (λ (x : Calls). x.remote (name n s)) under.calls ∙ q.remote;
      }

  -- ---- the whole

  pub front_cuts : CutsTo m h n j
  front_cuts = record {
    records = few;
    allowed = fewer_allowed m n keep ks allowed;
    book = record {
      booked = λ i fits. booked_few (name n i) ∙ booked_all i fits;
      learned = learned_few;
      calls = λ s fits. ap (λ (x : Calls). x.booked (name n s)) under.calls ∙ call_all s fits;
      kept = kept_few;
    };
  }
