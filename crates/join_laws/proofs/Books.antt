-- The world in which a node has a book of its end; and what two books of one end have in common.
use Rattle.std.proofs.Common.{◌≡◌, ℕ, refl, sym, ap, ◌∙◌, subst, Option, Some, None}
use Rattle.std.specs.Prelude.{is_some}
use Rattle.id_table.specs.Ids.{at}
use Rattle.id_table.specs.Order.{at_new, at_other}
use Rattle.session_book.specs.declared.record.BookCall.{BookCall}
use Rattle.session_book.specs.Books.{Kept, tunnel_at, call_at}
use Rattle.end_model.specs.End.{End}
use Rattle.world_model.specs.World.{World, Node, with_node}
use Rattle.book_laws.specs.Books.{tunnel_record, record_in, Mirrors}
use Rattle.join_laws.specs.Steps.{with_book_at, with_book}

abbrev pub booked : Node → Kept → Node
booked node k = record node { checkpoint = record node.checkpoint { book = k } }

module _ (w : World) (n : ℕ) (k : Kept) (node : Node) (there : at w.nodes n ≡ Some node) where
  book_is : with_book w n k ≡ with_node w n (booked node k)
  book_is = ap (with_book_at w n k) there

  pub book_here : at (with_book w n k).nodes n ≡ Some (booked node k)
  book_here = ap (λ (v : World). at v.nodes n) book_is ∙ at_new w.nodes n (booked node k)

  pub book_other : (q : ℕ) → (q ≡ n → ⊥) → at (with_book w n k).nodes q ≡ at w.nodes q
  book_other q o = ap (λ (v : World). at v.nodes q) book_is ∙ at_other w.nodes n (booked node k) q o

  pub book_born : (with_book w n k).born ≡ w.born
  book_born = ap (λ (v : World). v.born) book_is

-- ---- two books

-- they have the same tunnels, each under its id
pub same_tunnels : (e x : End) (k b : Kept) → Mirrors e k → Mirrors x b → (j : ℕ) → at x.tunnels j ≡ at e.tunnels j
    → tunnel_at b j ≡ tunnel_at k j
same_tunnels e x k b old new j same = new.tunnels j ∙ (ap (tunnel_record j) same ∙ sym (old.tunnels j))

-- a call that one has the other has too, where it is in the same tunnel
pub same_call : (e x : End) (k b : Kept) → Mirrors e k → Mirrors x b → (s : ℕ) (c : BookCall) → call_at k s ≡ Some c
    → at x.tunnels c.tunnel ≡ at e.tunnels c.tunnel → call_at b s ≡ Some c
same_call e x k b old new s c has same =
    new.all_calls c.tunnel s c (ap (record_in c.tunnel s) same ∙ old.calls s c has)
