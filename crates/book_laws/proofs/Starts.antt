-- What a start leaves in a checkpoint is in place, and the book after it is that of the end that it leads to.
use Rattle.std.proofs.Common.{◌≡◌, ◌⊎◌, inl, inr, ⊎_elim, ℕ, ◌<◌, ◌≤◌, ◌+◌, suc, Bool, true, false, cond, not, ◌==◌, filter, List, [], ◌∷◌, ◌++◌, length, Option, Some, None, Ok, is_some, refl, sym, ◌∙◌, ap, subst, arith}
use Rattle.std.specs.Prelude.{◌||◌}
use Rattle.std.specs.List.{AllByRecursion, flat_map}
use Rattle.std.proofs.lemmas.Bool.{true≢false}
use Rattle.std.proofs.lemmas.Grind.{flat_map-append}
use Rattle.std.proofs.lemmas.List.{append-nil}
use Rattle.std.proofs.lemmas.Option.{none-some}
use Rattle.id_table.specs.Ids.{at, at-none}
use Rattle.id_table.specs.Order.{Ascends, ascends-empty, same_or_not}
use Rattle.id_source.specs.Spaces.{takes_id}
use Rattle.session_book.specs.declared.record.BookTunnel.{BookTunnel}
use Rattle.session_book.specs.declared.record.BookCall.{BookCall}
use Rattle.session_book.specs.declared.record.Record.{Record}
use Rattle.session_book.specs.declared.record.Record.TheVariants.{TunnelDown}
use Rattle.session_book.specs.Books.{Kept, AreRising, entry, tunnel_at, calls_of, raised, stepped}
use Rattle.end_names.specs.declared.role.Role.{Role}
use Rattle.end_model.specs.declared.tunnel.Config.{Config}
use Rattle.end_model.specs.declared.out.Out.{Out}
use Rattle.end_model.specs.declared.event.Event.{Event}
use Rattle.end_model.specs.declared.event.Event.TheVariants.{Tick}
use Rattle.end_model.specs.declared.moves.Move.{Move}
use Rattle.end_model.specs.declared.moves.Move.TheVariants as move
use Rattle.end_model.specs.declared.moves.Restored.{Restored}
use Rattle.end_model.specs.Contents.{records_of, contents_of}
use Rattle.end_model.specs.End.{End, Stepped, env_of, after_turn}
use Rattle.end_model.specs.Events.{tunnel_after}
use Rattle.end_model.specs.Secrets.{challenge_by}
use Rattle.end_model.specs.Starting.{bare_end, can_recover, gone_with, forgets, restores, restored_by, restored, behind_all, restored_all, starts, kept_control}
use Rattle.end_model.specs.Tunnels.{turn_of}
use Rattle.step_laws.specs.Gone.{gone_in}
use Rattle.step_laws.specs.Letters.{Among}
use Rattle.step_laws.specs.Looks.{LooksAreTrue}
use Rattle.step_laws.specs.Moves.{Chain, Restores}
use Rattle.step_laws.specs.Steps.{AreKept, IsChain, IsOfNoStart}
use Rattle.step_laws.proofs.Looks.{chain_looks, does_order, kept_order}
use Rattle.step_laws.proofs.Starts.{AreUpTo, none_above, up_after}
use Rattle.book_laws.specs.Books.{Mirrors, IsBook, TablesFit, SpaceFits, Fits, AreInPlace, book_after, RecordsNone, SuitsRole, LeavesNone, RunsAreBooked}
use Rattle.book_laws.specs.Starts.{IsSoundTunnel, IsSoundCall, IsSoundBook, AreUp, LacksIds, ComesBack, TellsGone, StartsAreBooked, StartedRunsAreBooked, IsSentOrGone, StartsSendOnly}
use Rattle.book_laws.proofs.Lists.{all_to, all_filter, entry_has, filter_rises, none_rises}
use Rattle.book_laws.proofs.Views.{id_of, session_of}
use Rattle.book_laws.proofs.Fitting.{Grows}
use Rattle.book_laws.proofs.Ceilings.{rose_none, ceilings_go, first_space, second_space, third_space}
use Rattle.book_laws.proofs.Steps.{in_place_both, after_both, behind, leaves_both, ceilings_none, chain_spaces, chain_grows, grows_both, SameCeilings, ChainGoes, chain_goes, high, high_drawn, none_there, none_in}
use Rattle.book_laws.proofs.Openings.{sent_or_gone, none_gone, Begins, restores_begins}
use Rattle.book_laws.proofs.Returning.{CallsRise}
use Rattle.book_laws.proofs.Pending.{calls_rise, all_among, each_among, entry_among, among_entry, waits, waits_first, waits_later, TunnelsRise, tunnels_rise, none_waits, other_ids, decided, all_decided, forgotten_decided}
use Rattle.book_laws.proofs.Restoring.{rise, back_looks, back_mirrors, back_grows, back_fits, back_up, back_few}
use Rattle.book_laws.proofs.Links.{restored_chain, chain_lacks, chain_append, links_none, links_leave, links_up, links_few, Outcome, IsForgotten, IsBack, outcome}
use Rattle.book_laws.proofs.Taken.{AreDecided, StandsWhole, out_waits, out_decided, gone_locals, none_more, out_gone}

-- ---- an end that crashed

module _ (r : Role) (c : Config) (k : Kept) where
  pub bare_kept : AreKept (bare_end r c k)
  bare_kept = record {
    tunnels = λ i t h. absurd (none-some t (sym (at-none i) ∙ h));
    order = ascends-empty [] refl;
    places = ascends-empty [] refl;
    sessions = omega arith;
    first = omega arith;
  }

  pub bare_looks : LooksAreTrue (bare_end r c k)
  bare_looks = record {
    live = λ s p h. absurd (none-some p (sym (at-none s) ∙ h));
    seen = λ i t h s d g. absurd (none-some t (sym (at-none i) ∙ h));
    links = λ i t h s d g. absurd (none-some t (sym (at-none i) ∙ h));
    tunnels = λ i t h. absurd (none-some t (sym (at-none i) ∙ h));
    sessions = λ s p h. absurd (none-some p (sym (at-none s) ∙ h));
  }

  pub bare_tables : TablesFit (bare_end r c k)
  bare_tables = record {
    order = ascends-empty [] refl;
    few = omega arith;
    tunnels = λ i t h. absurd (none-some t (sym (at-none i) ∙ h));
    apart = λ i t h. absurd (none-some t (sym (at-none i) ∙ h));
    first_tunnel = omega arith;
    first_session = omega arith;
  }

  record AreSpaces : Type 0 where
    tunnels : SpaceFits 65535 (bare_end r c k).tunnel_ids
    sessions : SpaceFits 65534 (bare_end r c k).session_ids
    draws : SpaceFits 4294967295 (bare_end r c k).recovery_ids

  bare_spaces : IsSoundBook k → AreSpaces
  bare_spaces sound = record {
    tunnels = record { last = refl; drawn = omega arith; within = sound.tunnel_ceiling };
    sessions = record { last = refl; drawn = omega arith; within = sound.session_ceiling };
    draws = record { last = refl; drawn = omega arith; within = sound.draw_ceiling };
  }

  pub bare_fits : IsSoundBook k → Fits (bare_end r c k)
  bare_fits sound =
      let s = bare_spaces sound in
      record { tables = bare_tables; tunnel_ids = s.tunnels; session_ids = s.sessions; recovery_ids = s.draws }

-- ---- a start in its midst

-- the event makes no difference
abbrev ev : Event
ev = Tick

module _ (r : Role) (c : Config) (k : Kept) (sound : IsSoundBook k) (suits : SuitsRole r k) (moment : ℕ) (block : List ℕ) (tunnel_top session_top draw_top : ℕ) where
  abbrev high_book : Kept
  high_book = record k { tunnel_ceiling = tunnel_top; session_ceiling = session_top; draw_ceiling = draw_top }

  abbrev bare : End
  bare = bare_end r c k

  -- it leads to this end, where it isn't decided yet of some tunnels, and leaves these records
  record IsAmid (n : ℕ) (bs : List BookTunnel) (s : Stepped) : Type 0 where
    kept : AreKept s.end
    up_to : AreUpTo n s.end.tunnels
    looks : LooksAreTrue s.end
    fit : TablesFit s.end
    up : AreUp s.end
    chain : Chain moment ev bare s.moves s.end
    grows : Grows bare s.end
    few : length s.end.tunnels + length bs ≤ 1024
    records : List Record
    records_are : flat_map (λ m. records_of m) s.moves ≡ records
    in_place : AreInPlace high_book records
    none : AllByRecursion (LeavesNone r) records
    book : Kept
    makes : book_after high_book records ≡ book
    ceilings : SameCeilings high_book book
    mirrors : Mirrors s.end (decided bs book)
    tunnels_up : AreRising id_of book.tunnels
    calls_up : AreRising session_of book.calls
    sounds : AllByRecursion (λ (x : BookCall). (0 < x.local) × (x.local < bare.session_ids.next)) book.calls
    calls_none : AllByRecursion (RecordsNone r) book.calls
    waiting : AllByRecursion (StandsWhole k book) bs
    back : AreDecided s.end k book bs
    gone : TellsGone k book s

  module _ (n : ℕ) (b : BookTunnel) (bs : List BookTunnel) (s : Stepped) (h : IsAmid n (b ∷ bs) s) (rise : TunnelsRise n (b ∷ bs)) (one : IsSoundTunnel k.tunnel_ceiling b) where
    abbrev own : List BookCall
    own = calls_of b.local k.calls

    own_rise : CallsRise 0 own
    own_rise =
        calls_rise 0 own
        (all_filter (λ (x : BookCall). 0 < x.local) (λ x. x.tunnel == b.local) k.calls
        (all_to (IsSoundCall k.session_ceiling) (λ (x : BookCall). 0 < x.local) (λ x so. so.some) k.calls sound.calls))
        (filter_rises session_of (λ x. x.tunnel == b.local) k.calls sound.calls_rise)

    -- it is forgotten
    forgets_on : (can_recover b ≡ false) ⊎ LacksIds s.end → IsAmid b.local bs (behind_all s (forgets s.end own b))
    unfolding forgets records_of
    forgets_on why =
        let down = TunnelDown b.local ∷ [] in
        let next = stepped h.book (TunnelDown b.local) in
        let there = h.waiting.0.0 in
        record {
          kept = h.kept;
          up_to = λ i t found. (let low = h.up_to i t found in let over = rise.0 in omega (arith, low, over));
          looks = h.looks;
          fit = h.fit;
          up = h.up;
          chain = chain_append moment ev bare s.end s.end s.moves (move.Forgot (record { tunnel = b.local }) ∷ []) h.chain
              (s.end, record { none = none_above n b.local s.end.tunnels h.up_to rise.0; after = refl }, refl);
          grows = h.grows;
          few = (let few = h.few in omega (arith, few));
          records = h.records ++ down;
          records_are = flat_map-append (λ m. records_of m) s.moves (move.Forgot (record { tunnel = b.local }) ∷ []) ∙ ap (λ rs. rs ++ down) h.records_are;
          in_place = in_place_both high_book h.records down h.in_place
              (subst (λ (x : Kept). AreInPlace x down) (sym h.makes) (ap is_some there, tt));
          none = leaves_both r h.records down h.none (tt, tt);
          book = next;
          makes = after_both high_book h.records down ∙ ap (λ (x : Kept). stepped x (TunnelDown b.local)) h.makes;
          ceilings = record { tunnels = h.ceilings.tunnels; sessions = h.ceilings.sessions; draws = h.ceilings.draws };
          mirrors = subst (Mirrors s.end) (sym (forgotten_decided b bs h.book)) h.mirrors;
          tunnels_up = filter_rises id_of (λ t. not (t.local == b.local)) h.book.tunnels h.tunnels_up;
          calls_up = filter_rises session_of (λ x. not (x.tunnel == b.local)) h.book.calls h.calls_up;
          sounds = all_filter _ (λ x. not (x.tunnel == b.local)) h.book.calls h.sounds;
          calls_none = all_filter _ (λ x. not (x.tunnel == b.local)) h.book.calls h.calls_none;
          waiting = out_waits h.book h.tunnels_up h.calls_up b.local k bs (other_ids b.local bs rise.1) h.waiting.1;
          back = out_decided h.book h.tunnels_up h.calls_up b.local s.end k b bs refl there why h.back;
          gone = out_gone k h.book h.tunnels_up h.calls_up sound.calls_rise b.local s (forgets s.end own b) h.back.only_calls h.waiting.0.1 own_rise (gone_locals own) h.gone;
        }

    -- it comes back
    module _ (can : can_recover b ≡ true) (local draw : ℕ) (drawn : takes_id s.end.tunnel_ids ≡ Ok local) (drew : takes_id s.end.recovery_ids ≡ Ok draw) where
      abbrev y : Stepped
      y = restored_by s.end (env_of s.end moment block) own b (Ok local) (Ok draw)

      abbrev m : Restored
      m = record { tunnel = b; calls = own; attempt = local; draw = draw; challenge = challenge_by s.end.config.secret block }

      none_yet : at s.end.tunnels b.local ≡ None
      none_yet = none_above n b.local s.end.tunnels h.up_to rise.0

      own_few : length own ≤ 4096
      own_few = sound.few_calls b.local

      whole : IsChain s.end moment ev y
      whole =
          restored_chain s.end h.kept moment ev block b own none_yet (λ zero. let some = one.some in absurd (omega (arith, some, zero))) 0 own_rise own_few can local draw drawn drew

      begins : Begins (move.Restored m) (restores s.end.role s.end.config own b local draw (turn_of (kept_control moment b) (env_of s.end moment block))).turn
      unfolding restores
      begins = restores_begins s.end (env_of s.end moment block) own b local draw

      moves_are : y.moves ≡ move.Restored m ∷ begins.rest
      unfolding restored_by after_turn
      moves_are = begins.is

      abbrev links : List Move
      links = begins.rest

      parts : Chain moment ev s.end (move.Restored m ∷ links) y.end
      parts = subst (λ (ms : List Move). Chain moment ev s.end ms y.end) moves_are whole.chain

      abbrev z : End
      z = parts.0

      abbrev restores_z : Restores s.end moment m z
      restores_z = parts.1

      chain_z : Chain moment ev z links y.end
      chain_z = parts.2

      up_then : AreUpTo b.local y.end.tunnels
      unfolding restored_by after_turn
      up_then =
          let t = restores s.end.role s.end.config own b local draw (turn_of (kept_control moment b) (env_of s.end moment block)) in
          up_after n b.local s.end.tunnels h.kept.order h.up_to rise.0 t.turn.cleared (tunnel_after t.turn [] [] t.recovery)

      -- ---- as it comes back

      own_same : own ≡ calls_of b.local h.book.calls
      own_same = sym h.waiting.0.1

      few_same : length (calls_of b.local h.book.calls) ≤ 4096
      few_same = subst (λ (cs : List BookCall). length cs ≤ 4096) own_same own_few

      low_one : b.local < s.end.tunnel_ids.next
      low_one = let within = one.within in let more = h.grows.tunnels in omega (arith, within, more)

      sounds_then : AllByRecursion (λ (x : BookCall). (0 < x.local) × (x.local < s.end.session_ids.next)) h.book.calls
      sounds_then =
          all_to (λ (x : BookCall). (0 < x.local) × (x.local < bare.session_ids.next)) (λ (x : BookCall). (0 < x.local) × (x.local < s.end.session_ids.next))
          (λ x so. (so.0, (let low = so.1 in let more = h.grows.sessions in omega (arith, low, more)))) h.book.calls h.sounds

      none_then : AllByRecursion (RecordsNone s.end.role) h.book.calls
      none_then = subst (λ q. AllByRecursion (RecordsNone q) h.book.calls) (sym h.grows.role) h.calls_none

      few_one : length s.end.tunnels < 1024
      few_one = let few = h.few in omega (arith, few)

      decides : waits bs b.local ≡ false
      decides = none_waits b.local b.local bs rise.1 (omega arith)

      abbrev there : tunnel_at h.book b.local ≡ Some b
      there = h.waiting.0.0

      z_looks : LooksAreTrue z
      z_looks =
          back_looks s.end h.fit h.up h.looks b bs h.book h.mirrors h.tunnels_up h.calls_up there decides moment m z restores_z refl own_same
          one.some low_one one.window few_one few_same sounds_then none_then

      z_mirrors : Mirrors z (decided bs h.book)
      z_mirrors =
          back_mirrors s.end h.fit h.up h.looks b bs h.book h.mirrors h.tunnels_up h.calls_up there decides moment m z restores_z refl own_same
          one.some low_one one.window few_one few_same sounds_then none_then

      z_grows : Grows s.end z
      z_grows =
          back_grows s.end h.fit h.up h.looks b bs h.book h.mirrors h.tunnels_up h.calls_up there decides moment m z restores_z refl own_same
          one.some low_one one.window few_one few_same sounds_then none_then

      z_fits : TablesFit z
      z_fits =
          back_fits s.end h.fit h.up h.looks b bs h.book h.mirrors h.tunnels_up h.calls_up there decides moment m z restores_z refl own_same
          one.some low_one one.window few_one few_same sounds_then none_then

      z_up : AreUp z
      z_up =
          back_up s.end h.fit h.up h.looks b bs h.book h.mirrors h.tunnels_up h.calls_up there decides moment m z restores_z refl own_same
          one.some low_one one.window few_one few_same sounds_then none_then

      z_few : length z.tunnels ≤ suc (length s.end.tunnels)
      z_few =
          back_few s.end h.fit h.up h.looks b bs h.book h.mirrors h.tunnels_up h.calls_up there decides moment m z restores_z refl own_same
          one.some low_one one.window few_one few_same sounds_then none_then

      -- ---- and as its links are opened

      no_start : AllByRecursion IsOfNoStart links
      no_start = links_none links begins.so

      abbrev tall : Kept
      tall = high y.end (decided bs h.book)

      tall_z : Mirrors z tall
      tall_z = let f = z_mirrors in record { tunnels = f.tunnels; calls = f.calls; all_calls = f.all_calls; tunnels_rise = f.tunnels_rise; calls_rise = f.calls_rise }

      goes : ChainGoes y.end tall (flat_map (λ x. records_of x) links)
      goes = chain_goes moment ev z y.end links no_start chain_z z_fits tall tall_z (high_drawn y.end (decided bs h.book))

      y_mirrors : Mirrors y.end (decided bs h.book)
      y_mirrors =
          let f = subst (λ rs. Mirrors y.end (book_after tall rs)) (links_leave links begins.so) goes.mirrors in
          record { tunnels = f.tunnels; calls = f.calls; all_calls = f.all_calls; tunnels_rise = f.tunnels_rise; calls_rise = f.calls_rise }

      order_z : Ascends z.tunnels
      order_z = z_fits.order

      back_leaves : flat_map (λ x. records_of x) y.moves ≡ []
      unfolding records_of
      back_leaves = ap (λ ms. flat_map (λ x. records_of x) ms) moves_are ∙ links_leave links begins.so

      y_gone : gone_in y.outputs ≡ []
      unfolding restored_by after_turn
      y_gone = none_gone y.outputs begins.says

      returns_on : IsAmid b.local bs (behind_all s y)
      returns_on = record {
        kept = whole.kept;
        up_to = up_then;
        looks = chain_looks moment ev z y.end links no_start chain_z (does_order s.end (kept_order s.end h.kept) moment ev (move.Restored m) z restores_z) z_looks;
        fit = goes.fit;
        up = links_up moment ev z y.end links begins.so chain_z z_up;
        chain = chain_append moment ev bare s.end y.end s.moves y.moves h.chain whole.chain;
        grows = grows_both bare s.end y.end h.grows (grows_both s.end z y.end z_grows (chain_grows moment ev z y.end links no_start chain_z z_fits tall tall_z));
        few = (let some = links_few moment ev z y.end links begins.so chain_z order_z in let more = z_few in let few = h.few in omega (arith, some, more, few));
        records = h.records;
        records_are = flat_map-append (λ x. records_of x) s.moves y.moves ∙ ap (λ rs. flat_map (λ x. records_of x) s.moves ++ rs) back_leaves
            ∙ append-nil (flat_map (λ x. records_of x) s.moves) ∙ h.records_are;
        in_place = h.in_place;
        none = h.none;
        book = h.book;
        makes = h.makes;
        ceilings = h.ceilings;
        mirrors = y_mirrors;
        tunnels_up = h.tunnels_up;
        calls_up = h.calls_up;
        sounds = h.sounds;
        calls_none = h.calls_none;
        waiting = h.waiting.1;
        back = record {
          tunnels = λ i t found free. ⊎_elim
              (λ (mine : i ≡ b.local).
              let both : Some t ≡ Some b = sym found ∙ ap (tunnel_at k) mine ∙ h.back.only_tunnels b.local b there in
              let same_one : t ≡ b = cc in
              inl (ap can_recover same_one ∙ can, ap (tunnel_at h.book) mine ∙ there ∙ ap (λ (x : BookTunnel). Some x) (sym same_one)))
              (λ (apart : i ≡ b.local → ⊥). ⊎_elim
              (λ (l : (can_recover t ≡ true) × (tunnel_at h.book i ≡ Some t)). inl l)
              (λ (l : ((can_recover t ≡ false) ⊎ LacksIds s.end) × (tunnel_at h.book i ≡ None)). inr (
                ⊎_elim (λ (cannot : can_recover t ≡ false). inl cannot) (λ (lacks : LacksIds s.end). inr (chain_lacks moment ev s.end y.end y.moves whole.chain lacks)) l.0,
                l.1,
              ))
              (h.back.tunnels i t found (waits_later b bs i apart ∙ free)))
              (same_or_not i b.local);
          only_tunnels = h.back.only_tunnels;
          calls = h.back.calls;
          only_calls = h.back.only_calls;
        };
        gone = none_more k h.book s y y_gone h.gone;
      }

    goes_on : IsAmid b.local bs (behind_all s (restored k s.end (env_of s.end moment block) b))
    goes_on = by (restored k s.end (env_of s.end moment block) b) (outcome k s.end moment block b)
      where
        by : (y : Stepped) → Outcome s.end moment block b own y → IsAmid b.local bs (behind_all s y)
        by y (IsForgotten why is) = subst (λ (x : Stepped). IsAmid b.local bs (behind_all s x)) (sym is) (forgets_on why)
        by y (IsBack can local draw drawn drew is) = subst (λ (x : Stepped). IsAmid b.local bs (behind_all s x)) (sym is) (returns_on can local draw drawn drew)

  -- ---- all of them

  all_on : (n : ℕ) (bs : List BookTunnel) (s : Stepped) → TunnelsRise n bs → AllByRecursion (IsSoundTunnel k.tunnel_ceiling) bs → IsAmid n bs s
      → (last : ℕ) × IsAmid last [] (restored_all k moment block bs s)
  unfolding restored_all
  all_on n [] s rise sounds h = (n, h)
  all_on n (b ∷ bs) s rise sounds h =
      all_on b.local bs (behind_all s (restored k s.end (env_of s.end moment block) b)) rise.1 sounds.1 (goes_on n b bs s h rise sounds.0)

  -- none of them is back yet
  all_wait : AllByRecursion (λ (b : BookTunnel). waits k.tunnels b.local ≡ true) k.tunnels
  all_wait = each_among (λ (b : BookTunnel). waits k.tunnels b.local ≡ true) k.tunnels (λ b a. among_waits k.tunnels b a)
    where
      among_waits : (bs : List BookTunnel) (b : BookTunnel) → Among b bs → waits bs b.local ≡ true
      among_waits [] b a = absurd a
      among_waits (d ∷ bs) b a = ⊎_elim
          (λ (one : d ≡ b). subst (λ (x : BookTunnel). waits (d ∷ bs) x.local ≡ true) one (waits_first d bs))
          (λ rest. ap (λ q. (b.local == d.local) || q) (among_waits bs b rest) ∙ or_true (b.local == d.local))
          a
        where
          or_true : (q : Bool) → (q || true) ≡ true
          or_true true = refl
          or_true false = refl

  none_left : {X : Type 0} (p : X → Bool) (xs : List X) → AllByRecursion (λ x. p x ≡ false) xs → filter p xs ≡ []
  none_left p [] all = refl
  none_left p (x ∷ xs) all = ap (λ q. cond q (x ∷ filter p xs) (filter p xs)) all.0 ∙ none_left p xs all.1

  no_tunnel : filter (λ (t : BookTunnel). not (waits k.tunnels t.local)) k.tunnels ≡ []
  no_tunnel =
      none_left (λ (t : BookTunnel). not (waits k.tunnels t.local)) k.tunnels
      (all_to (λ (t : BookTunnel). waits k.tunnels t.local ≡ true) (λ (t : BookTunnel). not (waits k.tunnels t.local) ≡ false) (λ t so. ap not so) k.tunnels all_wait)

  home_of : (x : BookCall) → is_some (tunnel_at k x.tunnel) ≡ true → not (waits k.tunnels x.tunnel) ≡ false
  home_of x home = by (tunnel_at k x.tunnel) refl home
    where
      by : (o : Option BookTunnel) → tunnel_at k x.tunnel ≡ o → is_some o ≡ true → not (waits k.tunnels x.tunnel) ≡ false
      by None is some = absurd (true≢false (sym some))
      by (Some t) is some =
          ap (λ i. not (waits k.tunnels i)) (sym (entry_has id_of x.tunnel k.tunnels t is))
          ∙ ap not (all_among (λ (b : BookTunnel). waits k.tunnels b.local ≡ true) k.tunnels t all_wait (entry_among id_of x.tunnel k.tunnels t is))

  no_call : filter (λ (x : BookCall). not (waits k.tunnels x.tunnel)) k.calls ≡ []
  no_call =
      none_left (λ (x : BookCall). not (waits k.tunnels x.tunnel)) k.calls
      (all_to (λ (x : BookCall). is_some (tunnel_at k x.tunnel) ≡ true) (λ (x : BookCall). not (waits k.tunnels x.tunnel) ≡ false) (λ x home. home_of x home) k.calls sound.homes)

  all_stand : AllByRecursion (StandsWhole k high_book) k.tunnels
  all_stand = each_among (StandsWhole k high_book) k.tunnels (λ b a. (among_entry id_of k.tunnels sound.tunnels_rise b a, refl))

  abbrev first_stepped : Stepped
  first_stepped = record { end = bare; outputs = []; moves = [] }

  begins_so : IsAmid 0 k.tunnels first_stepped
  begins_so = record {
    kept = bare_kept r c k;
    up_to = λ i t there. absurd (none-some t (sym (at-none i) ∙ there));
    looks = bare_looks r c k;
    fit = bare_tables r c k;
    up = λ i t there. absurd (none-some t (sym (at-none i) ∙ there));
    chain = refl;
    grows = record { role = refl; tunnels = omega arith; sessions = omega arith };
    few = (let few = sound.few_tunnels in omega (arith, few));
    records = [];
    records_are = refl;
    in_place = tt;
    none = tt;
    book = high_book;
    makes = refl;
    ceilings = record { tunnels = refl; sessions = refl; draws = refl };
    mirrors = record {
      tunnels = λ i. ap (λ (ts : List BookTunnel). entry id_of i ts) no_tunnel ∙ sym (none_there i);
      calls = λ s x f. absurd (none-some x (sym (ap (λ (cs : List BookCall). entry session_of s cs) no_call) ∙ f));
      all_calls = λ i s x f. absurd (none-some x (sym (none_in i s) ∙ f));
      tunnels_rise = subst (AreRising id_of) (sym no_tunnel) (none_rises _);
      calls_rise = subst (AreRising session_of) (sym no_call) (none_rises _);
    };
    tunnels_up = sound.tunnels_rise;
    calls_up = sound.calls_rise;
    sounds = all_to (IsSoundCall k.session_ceiling) (λ (x : BookCall). (0 < x.local) × (x.local < k.session_ceiling + 1))
        (λ x so. (so.some, (let within = so.within in omega (arith, within)))) k.calls sound.calls;
    calls_none = suits;
    waiting = all_stand;
    back = record {
      tunnels = λ i b found free. absurd (true≢false (sym (all_among (λ (d : BookTunnel). waits k.tunnels d.local ≡ true) k.tunnels b all_wait (entry_among id_of i k.tunnels b found))
          ∙ ap (waits k.tunnels) (entry_has id_of i k.tunnels b found) ∙ free));
      only_tunnels = λ i b found. found;
      calls = λ s x found home. found;
      only_calls = λ s x found. (found, all_among (λ (y : BookCall). is_some (tunnel_at k y.tunnel) ≡ true) k.calls x sound.homes (entry_among session_of s k.calls x found));
    };
    gone = record { once = tt; had = λ q a. absurd a; told = λ q some none. absurd (true≢false (sym some ∙ ap is_some none)) };
  }

  all_done : (last : ℕ) × IsAmid last [] (starts r c k moment block)
  unfolding starts
  all_done = all_on 0 k.tunnels first_stepped (tunnels_rise 0 k.tunnels
      (all_to (IsSoundTunnel k.tunnel_ceiling) (λ (b : BookTunnel). 0 < b.local) (λ b so. so.some) k.tunnels sound.tunnels) sound.tunnels_rise) sound.tunnels begins_so

-- ---- with the ceilings

pub starts_are_booked : StartsAreBooked
unfolding contents_of
starts_are_booked r c k sound suits moment block =
    let e = bare_end r c k in
    let s = starts r c k moment block in
    let first_done = (all_done r c k sound suits moment block 0 0 0).1 in
    let fit = bare_spaces r c k sound in
    let rose = chain_spaces moment ev e e s.end s.moves first_done.chain (record {
      tunnels = (fit.tunnels, rose_none 65535 e.tunnel_ids fit.tunnels);
      sessions = (fit.sessions, rose_none 65534 e.session_ids fit.sessions);
      recoveries = (fit.draws, rose_none 4294967295 e.recovery_ids fit.draws);
    }) in
    let d = (all_done r c k sound suits moment block s.end.tunnel_ids.ceiling s.end.session_ids.ceiling s.end.recovery_ids.ceiling).1 in
    let first = raised 1 s.end.tunnel_ids.ceiling k in
    let second = raised 2 s.end.session_ids.ceiling first in
    let third = raised 3 s.end.recovery_ids.ceiling second in
    let rs = flat_map (λ m. records_of m) s.moves in
    let placed : AreInPlace third rs = subst (AreInPlace third) (sym d.records_are) d.in_place in
    let made : book_after third rs ≡ d.book = ap (book_after third) d.records_are ∙ d.makes in
    let with_c = ceilings_go 3 third_space e.recovery_ids refl s.end.recovery_ids 4294967295 second fit.draws rose.recoveries.1 refl in
    let with_b = ceilings_go 2 second_space e.session_ids refl s.end.session_ids 65534 first fit.sessions rose.sessions.1 refl in
    let with_a = ceilings_go 1 first_space e.tunnel_ids refl s.end.tunnel_ids 65535 k fit.tunnels rose.tunnels.1 refl in
    let behind_c = behind second third _ rs with_c.0 with_c.1 placed in
    let behind_b = behind first second _ _ with_b.0 with_b.1 behind_c.0 in
    let behind_a = behind k first _ _ with_a.0 with_a.1 behind_b.0 in
    let end = behind_a.1 ∙ behind_b.1 ∙ behind_c.1 ∙ made in
    record {
      in_place = behind_a.0;
      book = subst (IsBook s.end) (sym end) (record {
        mirrors = subst (Mirrors s.end) (all_decided d.book) d.mirrors;
        tunnel_ceiling = d.ceilings.tunnels;
        session_ceiling = d.ceilings.sessions;
        draw_ceiling = d.ceilings.draws;
      });
      back = subst (ComesBack s.end k) (sym end) (record {
        tunnels = λ i b found. d.back.tunnels i b found refl;
        calls = d.back.calls;
        only_tunnels = d.back.only_tunnels;
        only_calls = d.back.only_calls;
      });
      gone = subst (λ (x : Kept). TellsGone k x s) (sym end) d.gone;
      calls = leaves_both r _ _ (ceilings_none r 1 e.tunnel_ids s.end.tunnel_ids) (leaves_both r _ _ (ceilings_none r 2 e.session_ids s.end.session_ids)
          (leaves_both r _ _ (ceilings_none r 3 e.recovery_ids s.end.recovery_ids) (subst (AllByRecursion (LeavesNone r)) (sym d.records_are) d.none)));
      kept = d.kept;
      looks = d.looks;
      fit = record { tables = d.fit; tunnel_ids = rose.tunnels.0; session_ids = rose.sessions.0; recovery_ids = rose.recoveries.0 };
      up = d.up;
      role = d.grows.role;
    }

-- and whatever comes then
pub started_runs_are_booked : RunsAreBooked → StartedRunsAreBooked
started_runs_are_booked runs r c k sound suits moment block cs =
    let b = starts_are_booked r c k sound suits moment block in
    runs (starts r c k moment block).end (book_after k (contents_of (bare_end r c k) (starts r c k moment block))) b.kept b.fit b.book cs

-- ---- what it gives

gone_or_sent : (cs : List BookCall) → AllByRecursion IsSentOrGone (gone_with cs)
gone_or_sent [] = tt
gone_or_sent (c ∷ cs) = (tt, gone_or_sent cs)

both_say : (xs ys : List Out) → AllByRecursion IsSentOrGone xs → AllByRecursion IsSentOrGone ys → AllByRecursion IsSentOrGone (xs ++ ys)
both_say [] ys h g = g
both_say (x ∷ xs) ys h g = (h.0, both_say xs ys h.1 g)

one_says : (e : End) (moment : ℕ) (block : List ℕ) (b : BookTunnel) (cs : List BookCall) (y : Stepped) → Outcome e moment block b cs y
    → AllByRecursion IsSentOrGone y.outputs
unfolding forgets restored_by after_turn
one_says e moment block b cs y (IsForgotten why is) = subst (λ (x : Stepped). AllByRecursion IsSentOrGone x.outputs) (sym is) (gone_or_sent cs)
one_says e moment block b cs y (IsBack can local draw drawn drew is) =
    subst (λ (x : Stepped). AllByRecursion IsSentOrGone x.outputs) (sym is) (sent_or_gone _ (restores_begins e (env_of e moment block) cs b local draw).says)

all_say : (k : Kept) (moment : ℕ) (block : List ℕ) (bs : List BookTunnel) (s : Stepped) → AllByRecursion IsSentOrGone s.outputs
    → AllByRecursion IsSentOrGone (restored_all k moment block bs s).outputs
unfolding restored_all
all_say k moment block [] s h = h
all_say k moment block (b ∷ bs) s h =
    let y = restored k s.end (env_of s.end moment block) b in
    all_say k moment block bs (behind_all s y)
    (both_say s.outputs y.outputs h (one_says s.end moment block b (calls_of b.local k.calls) y (outcome k s.end moment block b)))

pub starts_send_only : StartsSendOnly
unfolding starts
starts_send_only r c k moment block = all_say k moment block k.tunnels (record { end = bare_end r c k; outputs = []; moves = [] }) tt
