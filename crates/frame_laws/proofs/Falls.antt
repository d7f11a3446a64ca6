-- What a crash, or a stop, leaves: a node that fell is an end without tunnels, over the book that it committed.
use Rattle.std.proofs.Common.{◌≡◌, ⊎_elim, ℕ, ◌+◌, ◌<◌, ◌≤◌, Bool, true, false, List, [], ◌∷◌, refl, sym, ap, ◌∙◌, subst, Some, arith}
use Rattle.std.proofs.lemmas.Bool.Decides.{nat_tests}
use Rattle.std.proofs.lemmas.List.{append-nil}
use Rattle.std.proofs.lemmas.Option.{none-some}
use Rattle.std.specs.Prelude.{unwrap_or, nat_lt, ◌==◌, if◌then◌else◌}
use Rattle.std.specs.List.{AllByRecursion}
use Rattle.id_table.specs.Ids.{at, without, at-none}
use Rattle.id_table.specs.Order.{Ascends, ascends-empty, ascends-without, at_new, at_other, at_without_other, at_without_same, found_put, same_or_not}
use Rattle.session_book.specs.declared.record.Record.{Record}
use Rattle.session_book.specs.declared.record.Record.TheVariants.{Ceiling, TunnelUp, TunnelDown, CallUp, CallDown, Mark}
use Rattle.session_book.specs.Books.{Kept, ceiling, fits, stepped as with_record}
use Rattle.end_names.specs.declared.role.Role.{Role}
use Rattle.end_model.specs.declared.tunnel.Config.{Config}
use Rattle.end_model.specs.End.{End}
use Rattle.end_model.specs.Starting.{bare_end}
use Rattle.world_model.specs.declared.held.Held.{Held}
use Rattle.world_model.specs.World.{World, Node, Checkpoint, with_node, fallen, without_held, held_at}
use Rattle.book_laws.specs.Books.{AreInPlace, book_after}
use Rattle.book_laws.specs.Starts.{IsSoundBook}
use Rattle.book_laws.proofs.Lists.{and_left}
use Rattle.book_laws.proofs.Starts.{bare_kept, bare_looks}
use Rattle.frame_laws.specs.Past.{Passage}
use Rattle.frame_laws.proofs.Facts.{Nodes, Grows, PacketOk, BookOk, EndOk, NodeOk, Holds, HeldOk, HeldIsSent, held_ok_later, packets_later, node_later, book_later}
use Rattle.frame_laws.proofs.Changes.{Changed, grows, NoBirth}
use Rattle.frame_laws.proofs.Births.{counted_after}
use Rattle.frame_laws.proofs.Worlds.{Counts}

-- ---- ceilings only rise

one_rises : (k : Kept) (r : Record) → fits k r ≡ true → k.session_ceiling ≤ (with_record k r).session_ceiling
one_rises k (Ceiling space number) fit = by (space == 1) (space == 2) (space == 3) (and_left (nat_lt (ceiling k space) number) _ fit)
  where
    by : (a b c : Bool)
        → nat_lt (if a then k.tunnel_ceiling else if b then k.session_ceiling else if c then k.draw_ceiling else 0) number ≡ true
        → k.session_ceiling
        ≤ (if a then record k { tunnel_ceiling = number }
        else if b then record k { session_ceiling = number }
        else if c then record k { draw_ceiling = number }
        else k).session_ceiling
    by true b c lt = omega arith
    by false true c lt = grind (arith, nat_tests)
    by false false true lt = omega arith
    by false false false lt = omega arith
one_rises k (TunnelUp t) fit = omega arith
one_rises k (TunnelDown id) fit = omega arith
one_rises k (CallUp c) fit = omega arith
one_rises k (CallDown id) fit = omega arith
one_rises k (Mark id mark) fit = omega arith

pub ceilings_rise : (k : Kept) (rs : List Record) → AreInPlace k rs → k.session_ceiling ≤ (book_after k rs).session_ceiling
ceilings_rise k [] in_place = omega arith
ceilings_rise k (r ∷ rs) in_place =
    let one = one_rises k r in_place.0 in
    let more = ceilings_rise (with_record k r) rs in_place.1 in
    omega (arith, one, more)

-- ---- an end without tunnels

pub bare_ok : (calm : Bool) (ns : Nodes) (n : ℕ) (r : Role) (c : Config) (k : Kept) → c.number < 256 → IsSoundBook k
    → EndOk calm ns n (bare_end r c k)
bare_ok calm ns n r c k number sound =
    let tunnels = sound.tunnel_ceiling in
    let sessions = sound.session_ceiling in
    record {
      number = number;
      first = omega arith;
      last = omega arith;
      most_tunnels = omega (arith, tunnels);
      first_session = omega arith;
      last_session = omega arith;
      most = omega (arith, sessions);
      last_draw = omega arith;
      tunnels = λ i t h. absurd (none-some t (sym (at-none i) ∙ h));
      order = ascends-empty [] refl;
    }

-- ---- the frames that were held at it are gone

module _ (w v : World) (gs : List Passage) (n : ℕ) (held : v.held ≡ without w.held n) (grown : Grows w.nodes v.nodes)
    (h : HeldIsSent w gs) where
  abbrev Tables : Type 0
  Tables = List (ℕ × List (ℕ × Held))

  gone : (m : ℕ) → m ≡ n → held_at v m ≡ []
  gone m e = ap (λ (t : Tables). unwrap_or (at t m) []) held ∙ (ap (λ q. unwrap_or (at (without w.held n) q) []) e
      ∙ ap (λ o. unwrap_or o []) (at_without_same w.held n h.nodes))

  stays : (m : ℕ) → (m ≡ n → ⊥) → held_at v m ≡ held_at w m
  stays m o = ap (λ (t : Tables). unwrap_or (at t m) []) held ∙ ap (λ q. unwrap_or q []) (at_without_other w.held n m o)

  pub held_without : HeldIsSent v gs
  held_without = record {
    sent = λ m number f there. ⊎_elim
        (λ (e : m ≡ n). absurd
        (none-some f (sym (at-none number) ∙ subst (λ (t : List (ℕ × Held)). at t number ≡ Some f) (gone m e) there)))
        (λ o. subst (λ hs. HeldOk v.nodes hs m f) (append-nil gs)
        (held_ok_later w.nodes v.nodes grown gs [] m f
        (h.sent m number f (subst (λ (t : List (ℕ × Held)). at t number ≡ Some f) (stays m o) there))))
        (same_or_not m n);
    order = λ m. ⊎_elim
        (λ (e : m ≡ n). subst Ascends (sym (gone m e)) (ascends-empty [] refl))
        (λ o. subst Ascends (sym (stays m o)) (h.order m))
        (same_or_not m n);
    nodes = subst Ascends (sym held) (ascends-without n w.held h.nodes);
  }

-- ---- the node that fell

module _ (calm : Bool) (w : World) (gs : List Passage) (holds : Holds calm w gs) (n : ℕ) (old : Node) (was : at w.nodes n ≡ Some old)
    (node : Node)
    (end_is : node.end ≡ old.end) (births_are : node.births ≡ old.births) (k : Checkpoint) (sound : IsSoundBook k.book)
    (above : old.end.session_ids.next ≤ k.book.session_ceiling + 1) (book : BookOk w.nodes n k.book) (block : List ℕ) (before : End) where
  abbrev fell : Node
  fell = fallen block before node k

  abbrev after : World
  after = without_held (with_node w n fell) n

  ok : NodeOk calm w.nodes n old
  ok = holds.nodes n old was

  changed : Changed w.nodes after.nodes n old fell
  unfolding fallen
  changed = record {
    was = was;
    is = at_new w.nodes n fell;
    others = λ m o. at_other w.nodes n fell m o;
    role = ap (λ (e : End). e.role) end_is;
    births = λ q b h. subst (λ bs. at bs q ≡ Some b) (sym births_are) h;
  }

  pub grown : Grows w.nodes after.nodes
  grown = grows w.nodes after.nodes n old fell changed

  fell_ok : NodeOk calm after.nodes n fell
  unfolding fallen
  fell_ok = record {
    number = ok.number;
    kept = bare_kept node.end.role node.end.config k.book;
    looks = bare_looks node.end.role node.end.config k.book;
    end = bare_ok calm after.nodes n node.end.role node.end.config k.book (rw end_is ok.end.number) sound;
    book = book_later w.nodes after.nodes grown n k.book book;
    births = λ s b h. (let q = ok.births s b (subst (λ bs. at bs s ≡ Some b) births_are h) in let low = q.0 in
        (omega (arith, low, above), q.1));
  }

  pub fell_holds : Holds calm after gs
  fell_holds = record {
    nodes = λ m x f. ⊎_elim
        (λ (a : (m ≡ n) × (fell ≡ x)). subst (λ y. NodeOk calm after.nodes y x) (sym a.0) (subst (NodeOk calm after.nodes n) a.1 fell_ok))
        (λ a. node_later calm w.nodes after.nodes grown m x (holds.nodes m x a.1))
        (found_put w.nodes n fell m x f);
    packets = subst (λ hs. AllByRecursion (PacketOk calm after.nodes hs) w.packets) (append-nil gs)
        (packets_later calm w.nodes after.nodes grown gs [] w.packets holds.packets);
  }

  pub fell_counts : Counts w.nodes w.born after
  unfolding fallen
  fell_counts = record {
    few = omega arith;
    counted = λ few had. counted_after w after.nodes w.born n old fell changed (omega (arith, few)) had (NoBirth births_are refl);
  }

  pub fell_held : HeldIsSent w gs → HeldIsSent after gs
  fell_held h = held_without w after gs n refl grown h
