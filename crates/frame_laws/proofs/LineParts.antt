-- Lines without a step: nothing changes, a node is declared, a stop is armed, or a node falls.
use Rattle.std.proofs.Common.{◌≡◌, ⊎_elim, ℕ, ◌<◌, Bool, List, [], refl, sym, ap, ◌∙◌, subst, Option, Some, None, Ok, arith}
use Rattle.std.proofs.lemmas.Option.{none-some}
use Rattle.std.proofs.lemmas.List.{append-nil}
use Rattle.std.specs.Prelude.{is_some}
use Rattle.std.specs.List.{AllByRecursion}
use Rattle.id_table.specs.Ids.{at, put, at-none}
use Rattle.id_table.specs.Order.{at_new, at_other, found_put, same_or_not, ascends-empty}
use Rattle.wire_base.specs.declared.why.Why.TheVariants as why
use Rattle.schedule_text.specs.declared.line.Line.{Line}
use Rattle.end_names.specs.declared.role.Role.{Role}
use Rattle.end_names.specs.declared.role.Role.TheVariants as role
use Rattle.world_model.specs.declared.refusal.Refusal.TheVariants.{Unfit}
use Rattle.world_model.specs.declared.stop.StopAt.{StopAt}
use Rattle.world_model.specs.World.{World, Node, Checkpoint, Lined, quiet_line, with_node, with_stop, fallen, without_held, cut_line, new_node, added, block_of}
use Rattle.step_laws.specs.Lines.{tested_not, none_there, IsAt}
use Rattle.frame_laws.specs.Past.{Passage, sent_in, handed_in}
use Rattle.frame_laws.specs.Reports.{ups_in, told_of}
use Rattle.frame_laws.proofs.Facts.{Nodes, birth_in_node, Born, role_in_node, Plays, Grows, PacketOk, NodeOk, Holds, HeldIsSent, held_later, packets_later, node_later}
use Rattle.frame_laws.proofs.Changes.{Changed, grows, birth_there, NoBirth}
use Rattle.frame_laws.proofs.Births.{Counted, counted_after}
use Rattle.frame_laws.proofs.Worlds.{LineGives, Counts, Goes}
use Rattle.frame_laws.proofs.Falls.{grown, fell_holds, fell_counts, fell_held}
use Rattle.frame_laws.proofs.Steps.{CutBook}

-- what a line leaves
pub record LineOk (calm : Bool) (number : ℕ) (w : World) (gs : List Passage) (l : Line) (r : Lined) : Type 0 where
  pub goes : Goes calm number w gs r.world r.done
  pub given : AllByRecursion (LineGives number w l) (sent_in r.done)
  pub told : ups_in r.entries ≡ told_of r.done

-- a line without a step
pub quiet_goes : (calm : Bool) (number : ℕ) (w v : World) (gs : List Passage) (l : Line) → Holds calm v gs → Counts w.nodes w.born v
    → v.packets ≡ w.packets
    → Grows w.nodes v.nodes → (HeldIsSent w gs → HeldIsSent v gs)
    → LineOk calm number w gs l (quiet_line v)
unfolding sent_in handed_in ups_in told_of
quiet_goes calm number w v gs l holds counts same grows held = record {
  goes = record {
    holds = subst (Holds calm v) (sym (append-nil gs)) holds;
    lines = tt;
    sent = tt;
    counts = counts;
    carried = tt;
    grown = ([], same ∙ sym (append-nil w.packets));
    grows = grows;
    held = λ h. subst (HeldIsSent v) (sym (append-nil gs)) (held h);
    main = λ still. tt;
  };
  given = tt;
  told = refl;
}

pub uncounted : (w : World) → Counts w.nodes w.born w
uncounted w = record { few = omega arith; counted = λ few had. had }

-- one more node
module _ (calm : Bool) (ns : Nodes) (number n : ℕ) (r : Role) (lns : ℕ) (secret : Option (List ℕ)) (hide : Bool)
    (none : at ns n ≡ None) where
  abbrev fresh_node : Node
  fresh_node = new_node number n r lns secret hide

  no_birth : (m s b : ℕ) → m ≡ n → birth_in_node (at ns m) s ≡ Some b → ⊥
  no_birth m s b e h = none-some b (subst (λ o. birth_in_node o s ≡ Some b) none (subst (λ x. birth_in_node (at ns x) s ≡ Some b) e h))

  no_role : (m : ℕ) (q : Role) → m ≡ n → role_in_node (at ns m) ≡ Some q → ⊥
  no_role m q e h = none-some q (subst (λ o. role_in_node o ≡ Some q) none (subst (λ x. role_in_node (at ns x) ≡ Some q) e h))

  more_nodes : Grows ns (put ns n fresh_node)
  more_nodes =
      record {
        births = λ m s b h. ⊎_elim (λ e. absurd (no_birth m s b e h)) (λ o. rw (at_other ns n fresh_node m o) h) (same_or_not m n);
        roles = λ m q h. ⊎_elim (λ e. absurd (no_role m q e h)) (λ o. rw (at_other ns n fresh_node m o) h) (same_or_not m n);
      }

  fresh_ok : n < 256 → NodeOk calm (put ns n fresh_node) n fresh_node
  fresh_ok lt =
      record {
        number = lt;
        kept = record {
          tunnels = λ i t h. absurd (none-some t (sym (at-none i) ∙ h));
          order = ascends-empty [] refl;
          places = ascends-empty [] refl;
          sessions = omega arith;
          first = omega arith;
        };
        looks = record {
          live = λ s p h. absurd (none-some p (sym (at-none s) ∙ h));
          seen = λ i t h s d g. absurd (none-some t (sym (at-none i) ∙ h));
          links = λ i t h s d g. absurd (none-some t (sym (at-none i) ∙ h));
          tunnels = λ i t h. absurd (none-some t (sym (at-none i) ∙ h));
          sessions = λ s p h. absurd (none-some p (sym (at-none s) ∙ h));
        };
        end = record {
          number = lt;
          first = omega arith;
          last = omega arith;
          most_tunnels = omega arith;
          first_session = omega arith;
          last_session = omega arith;
          most = omega arith;
          last_draw = omega arith;
          tunnels = λ i t h. absurd (none-some t (sym (at-none i) ∙ h));
          order = ascends-empty [] refl;
        };
        book = record { tunnels = tt; calls = tt };
        births = λ s b h. absurd (none-some b (sym (at-none s) ∙ h));
      }

  -- births that are found were there before
  fresh_births : (m s b : ℕ) → Born (put ns n fresh_node) m s b → (m ≡ n → ⊥) × Born ns m s b
  fresh_births m s b h = ⊎_elim
      (λ e.
      let mine = subst (λ x. Born (put ns n fresh_node) x s b) e h in
      absurd (none-some b (sym (at-none s) ∙ birth_there (put ns n fresh_node) n s b fresh_node (at_new ns n fresh_node) mine)))
      (λ o. (o, subst (λ (x : Option Node). birth_in_node x s ≡ Some b) (at_other ns n fresh_node m o) h))
      (same_or_not m n)

  plays_there : (m : ℕ) (q : Role) → (m ≡ n → ⊥) → Plays (put ns n fresh_node) m q → Plays ns m q
  plays_there m q o h = subst (λ (x : Option Node). role_in_node x ≡ Some q) (at_other ns n fresh_node m o) h

  fresh_counted : (born : ℕ) → Counted ns born → Counted (put ns n fresh_node) born
  fresh_counted born had =
      record {
        most = λ m s b h. had.most m s b (fresh_births m s b h).1;
        apart = λ i s m q b h k one two.
            let a = fresh_births i s b h in
            let c = fresh_births m q b k in
            had.apart i s m q b a.1 c.1 (plays_there i role.Lac a.0 one) (plays_there m role.Lac c.0 two);
      }

module _ (calm : Bool) (number : ℕ) (w : World) (gs : List Passage) (holds : Holds calm w gs) (l : Line)
    (n : ℕ) (r : Role) (lns : ℕ) (secret : Option (List ℕ)) (hide : Bool) (lt : n < 256) (none : at w.nodes n ≡ None) where
  abbrev new : Node
  new = new_node number n r lns secret hide

  more_ok : LineOk calm number w gs l (quiet_line (with_node w n new))
  more_ok =
      let g = more_nodes calm w.nodes number n r lns secret hide none in
      quiet_goes calm number w (with_node w n new) gs l
      (record {
        nodes = λ m node f. ⊎_elim
            (λ (a : (m ≡ n) × (new ≡ node)).
            let mine = subst (λ y. NodeOk calm (put w.nodes n new) n y) a.1 (fresh_ok calm w.nodes number n r lns secret hide none lt) in
            subst (λ y. NodeOk calm (put w.nodes n new) y node) (sym a.0) mine)
            (λ a. node_later calm w.nodes (put w.nodes n new) g m node (holds.nodes m node a.1))
            (found_put w.nodes n new m node f);
        packets = subst
            (λ hs. AllByRecursion (PacketOk calm (put w.nodes n new) hs) w.packets) (append-nil gs)
            (packets_later calm w.nodes (put w.nodes n new) g gs [] w.packets holds.packets);
      })
      (record { few = omega arith; counted = λ few had. fresh_counted calm w.nodes number n r lns secret hide none w.born had })
      refl g
      (λ h. subst (HeldIsSent (with_node w n new)) (append-nil gs) (held_later w (with_node w n new) refl g gs [] h))

pub added_ok : (calm : Bool) (number : ℕ) (w : World) (gs : List Passage) → Holds calm w gs
    → (l : Line) (n : ℕ) (r : Role) (lns : ℕ) (secret : Option (List ℕ)) (hide : Bool) → n < 256 → (x : Lined)
    → added w number n r lns secret hide ≡ Ok x → LineOk calm number w gs l x
unfolding added
added_ok calm number w gs holds l n r lns secret hide lt x h =
    let t = tested_not (is_some (at w.nodes n)) (quiet_line (with_node w n (new_node number n r lns secret hide))) (Unfit why.Twice) x h in
    subst (LineOk calm number w gs l) t.1 (more_ok calm number w gs holds l n r lns secret hide lt (none_there (at w.nodes n) t.0))

-- ---- a stop that is armed

module _ (calm : Bool) (number : ℕ) (w : World) (gs : List Passage) (holds : Holds calm w gs) (l : Line) (n : ℕ) (old : Node)
    (was : at w.nodes n ≡ Some old)
    (s : StopAt) where
  abbrev with : Node
  with = record old { checkpoint = with_stop (Some s) old.checkpoint }

  abbrev armed_world : World
  armed_world = with_node w n with

  arms : Changed w.nodes armed_world.nodes n old with
  arms = record { was = was; is = at_new w.nodes n with; others = λ m o. at_other w.nodes n with m o; role = refl; births = λ q b h. h }

  still : Grows w.nodes armed_world.nodes
  still = grows w.nodes armed_world.nodes n old with arms

  armed_node : NodeOk calm armed_world.nodes n with
  armed_node =
      let ok = node_later calm w.nodes armed_world.nodes still n old (holds.nodes n old was) in
      record { number = ok.number; kept = ok.kept; looks = ok.looks; end = ok.end; book = ok.book; births = ok.births }

  pub armed_ok : LineOk calm number w gs l (quiet_line armed_world)
  armed_ok =
      quiet_goes calm number w armed_world gs l
      (record {
        nodes = λ m x f. ⊎_elim
            (λ (a : (m ≡ n) × (with ≡ x)). subst (λ y. NodeOk calm armed_world.nodes y x) (sym a.0)
            (subst (NodeOk calm armed_world.nodes n) a.1 armed_node))
            (λ a. node_later calm w.nodes armed_world.nodes still m x (holds.nodes m x a.1))
            (found_put w.nodes n with m x f);
        packets = subst (λ hs. AllByRecursion (PacketOk calm armed_world.nodes hs) w.packets) (append-nil gs)
            (packets_later calm w.nodes armed_world.nodes still gs [] w.packets holds.packets);
      })
      (record {
        few = omega arith;
        counted = λ few had. counted_after w armed_world.nodes w.born n old with arms (omega (arith, few)) had
            (NoBirth refl refl);
      })
      refl still
      (λ h. subst (HeldIsSent armed_world) (append-nil gs) (held_later w armed_world refl still gs [] h))

-- ---- a node that falls

module _ (calm : Bool) (number : ℕ) (w : World) (gs : List Passage) (holds : Holds calm w gs) (l : Line) (n : ℕ) (old : Node)
    (was : at w.nodes n ≡ Some old) (node : Node) (end_is : node.end ≡ old.end) (births_are : node.births ≡ old.births) (c : Checkpoint)
    (left : CutBook w n old.end c) where
  abbrev fell_world : World
  fell_world = without_held (with_node w n (fallen (block_of n number) node.end node c)) n

  pub falls_ok : LineOk calm number w gs l (quiet_line fell_world)
  falls_ok =
      quiet_goes calm number w fell_world gs l
      (fell_holds calm w gs holds n old was node end_is births_are c left.sound left.above left.book (block_of n number) node.end)
      (fell_counts calm w gs holds n old was node end_is births_are c left.sound left.above left.book (block_of n number) node.end)
      refl
      (grown calm w gs holds n old was node end_is births_are c left.sound left.above left.book (block_of n number) node.end)
      (fell_held calm w gs holds n old was node end_is births_are c left.sound left.above left.book (block_of n number) node.end)

  -- so it is where a stop cut off its step
  pub off_ok : LineOk calm number w gs l (cut_line w number n node c)
  unfolding cut_line sent_in handed_in ups_in told_of
  off_ok = let k = falls_ok in record { goes = k.goes; given = tt; told = refl }

-- a node as a line finds it
pub cut_line_ok : (calm : Bool) (number : ℕ) (w : World) (gs : List Passage) → Holds calm w gs
    → (l : Line) (n : ℕ) (node : Node) (is : IsAt w n node)
    (c : Checkpoint) → CutBook w n is.before.end c → LineOk calm number w gs l (cut_line w number n node c)
cut_line_ok calm number w gs holds l n node is c left =
    off_ok calm number w gs holds l n is.before is.there node (ap (λ (x : Node). x.end) is.same)
    (ap (λ (x : Node). x.births) is.same) c left
