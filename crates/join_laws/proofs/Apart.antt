-- A call of another node, which lives or is in the book, is in no tunnel of this one in the machine.
use Rattle.std.proofs.Common.{◌≡◌, ⊎_elim, ℕ, ◌<◌, Bool, true, false, refl, sym, ap, ◌∙◌, subst, Option, Some, None, arith}
use Rattle.std.proofs.lemmas.Bool.{true≢false}
use Rattle.std.proofs.lemmas.Option.{none-some}
use Rattle.std.specs.Prelude.{is_some}
use Rattle.id_table.specs.Ids.{at}
use Rattle.session_book.specs.declared.record.BookTunnel.{BookTunnel}
use Rattle.session_book.specs.declared.record.BookCall.{BookCall}
use Rattle.session_book.specs.Books.{tunnel_at, call_at}
use Rattle.end_model.specs.declared.tunnel.Call.{Call}
use Rattle.end_model.specs.Tunnels.{Tunnel}
use Rattle.world_model.specs.World.{World, Node}
use Rattle.book_laws.proofs.Lists.{entry_found}
use Rattle.step_laws.specs.Starts.{IsSoundTunnel}
use Rattle.node_laws.specs.Nodes.{HoldsNode}
use Rattle.epoch_machine.specs.Worlds as machine
use Rattle.epoch_machine.specs.Calls.{NoCall, lives}
use Rattle.session_laws.specs.Names.{name}
use Rattle.session_laws.proofs.Names.{same_name}
use Rattle.channel_laws.specs.Accounts.{History}
use Rattle.recovery_laws.specs.Joined.{HasNoCall, CallsJoined, NodeJoined, AreJoined}
use Rattle.join_laws.proofs.Bounds.{Bounded, bounded, booked_bound}

-- the tunnel of a call of a book has an id of 16 bits
book_home : (c : Node) → HoldsNode c → (s : ℕ) (b : BookCall) → call_at c.checkpoint.book s ≡ Some b → b.tunnel < 65536
book_home c held s b has =
    let k = c.checkpoint.book in
    let home = (entry_found (λ (y : BookCall). y.local) (λ (y : BookCall). is_some (tunnel_at k y.tunnel) ≡ true) s k.calls b
    held.sound.homes has).1 in
    by (tunnel_at k b.tunnel) refl home
  where
    by : (o : Option BookTunnel) → tunnel_at c.checkpoint.book b.tunnel ≡ o → is_some (tunnel_at c.checkpoint.book b.tunnel) ≡ true
        → b.tunnel < 65536
    by None is some = absurd (true≢false (sym some ∙ ap (λ o. is_some o) is))
    by (Some t) is some =
        let k = c.checkpoint.book in
        let q = entry_found (λ (y : BookTunnel). y.local) (IsSoundTunnel k.tunnel_ceiling) b.tunnel k.tunnels t held.sound.tunnels is in
        let same = q.0 in
        let within = q.1.within in
        let ceiling = held.sound.tunnel_ceiling in
        omega (arith, same, within, ceiling)

pub record Elsewhere (m : machine.World) (y x : ℕ) : Type 0 where
  pub live : lives (m.calls.state y) ≡ true → m.calls.tunnel y ≡ x → ⊥
  pub booked : m.calls.booked y ≡ true → m.calls.tunnel y ≡ x → ⊥

module _ (v : World) (h : History) (m : machine.World) (joined : AreJoined v h m) (n i : ℕ) (fits : i < 65536) (q : ℕ) (qfits : q < 256)
    (no : q ≡ n → ⊥) (held : (c : Node) → at v.nodes q ≡ Some c → HoldsNode c) where
  by_node : (o : Option Node) → at v.nodes q ≡ o → NodeJoined m h q o → (s : ℕ) → s < 65536 → Elsewhere m (name q s) (name n i)
  by_node None is j s sfits = record {
    live = λ live same. true≢false (sym live ∙ ap lives (j.1 s sfits).0);
    booked = λ booked same. true≢false (sym booked ∙ (j.1 s sfits).2);
  }
  by_node (Some c) is j s sfits = record {
    live = λ live same. true≢false (sym live ∙ ap lives (j.1.gone s sfits (λ p t at_t. none p t at_t (at t.calls s) refl same)));
    booked = λ booked same. in_book (call_at c.checkpoint.book s) refl (sym (j.1.booked s sfits) ∙ booked) same;
  }
    where
      none : (p : ℕ) (t : Tunnel) → at c.end.tunnels p ≡ Some t → (f : Option Call) → at t.calls s ≡ f
          → m.calls.tunnel (name q s) ≡ name n i → f ≡ None
      none p t at_t None has same = refl
      none p t at_t (Some d) has same =
          absurd (no (same_name q p n i ((bounded c (held c is)).tunnels p t at_t) fits (sym (j.1.live p t at_t s d has).tunnel ∙ same)).0)

      in_book : (o : Option BookCall) → call_at c.checkpoint.book s ≡ o → is_some (call_at c.checkpoint.book s) ≡ true
          → m.calls.tunnel (name q s) ≡ name n i → ⊥
      in_book None has some same = true≢false (sym some ∙ ap (λ o. is_some o) has)
      in_book (Some b) has some same =
          no (same_name q b.tunnel n i (book_home c (held c is) s b has) fits (sym (j.1.kept s b has).tunnel ∙ same)).0

  pub elsewhere : (s : ℕ) → s < 65536 → Elsewhere m (name q s) (name n i)
  elsewhere s sfits = by_node (at v.nodes q) refl (joined.nodes q qfits) s sfits
