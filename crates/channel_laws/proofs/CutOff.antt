-- The book behind some records, and the world in which a stop cut off what leaves them.
use Rattle.std.proofs.Common.{◌≡◌, ℕ, ◌+◌, ◌<◌, List, sym, ap, ◌∙◌, subst, Some, None}
use Rattle.std.proofs.lemmas.Option.{none-some}
use Rattle.std.specs.Prelude.{unwrap_or}
use Rattle.std.specs.List.{AllByRecursion}
use Rattle.id_table.specs.Ids.{at, put, ids_of, at-none}
use Rattle.session_book.specs.declared.record.BookTunnel.{BookTunnel}
use Rattle.session_book.specs.declared.record.BookCall.{BookCall}
use Rattle.session_book.specs.declared.record.Record.{Record}
use Rattle.session_book.specs.Books.{Kept, AreRising}
use Rattle.end_model.specs.End.{End}
use Rattle.world_model.specs.World.{World, Node, Checkpoint, no_standing, with_node, block_of, fallen, without_held, cut_line}
use Rattle.book_laws.specs.Books.{book_after}
use Rattle.book_laws.proofs.Lists.{all_found, entry_found}
use Rattle.channel_laws.specs.Accounts.{Unmade, History}
use Rattle.channel_laws.specs.Facts.{BookedOk, EndOk, BookOk, NodeOk, Holds}
use Rattle.channel_laws.specs.Lines.{AreSame, Finds}
use Rattle.channel_laws.proofs.Partners.{one_of_two}
use Rattle.channel_laws.proofs.Records.{Brings, BringsCall, all_after, calls_after, booked_like}
use Rattle.channel_laws.proofs.Resting.{Rests, after_loss, put_holds, same_holds}

-- ---- books

-- the other end's id of a call that a book has fits
abbrev pub FitsCall : BookCall → Type 0
FitsCall c = c.remote < 65536

-- a book is as what was done says behind records that bring what is so
module _ (w : World) (h : History) (holds : Holds w h) (n : ℕ) (k : Kept) (tunnels_rise : AreRising (λ t. t.local) k.tunnels)
    (calls_rise : AreRising (λ c. c.local) k.calls)
    (ok : BookOk h n k) (rs : List Record) (tunnels : AllByRecursion (Brings (BookedOk h n)) rs)
    (calls : AllByRecursion (BringsCall FitsCall) rs) where
  all_tunnels : AllByRecursion (BookedOk h n) (book_after k rs).tunnels
  all_tunnels =
      all_after (BookedOk h n) (λ a b local peer remote ok. booked_like h n a b local peer remote ok) k rs
      (all_found (λ (b : BookTunnel). b.local) (BookedOk h n) k.tunnels tunnels_rise (λ i b there. ok.tunnels i b there)) tunnels

  all_calls : AllByRecursion FitsCall (book_after k rs).calls
  all_calls =
      calls_after FitsCall k rs (all_found (λ (c : BookCall). c.local) FitsCall k.calls calls_rise (λ s c there. ok.calls s c there)) calls

  pub book_behind : BookOk h n (book_after k rs)
  book_behind = record {
    tunnels = λ i b there. (entry_found (λ (t : BookTunnel). t.local) (BookedOk h n) i (book_after k rs).tunnels b all_tunnels there).1;
    apart = λ i j b c there too peers remotes.
        (let one = entry_found (λ (t : BookTunnel). t.local) (BookedOk h n) i (book_after k rs).tunnels b all_tunnels there in
        let two = entry_found (λ (t : BookTunnel). t.local) (BookedOk h n) j (book_after k rs).tunnels c all_tunnels too in
        sym one.0 ∙ (one_of_two w h holds n b c one.1 two.1 peers remotes ∙ two.0));
    calls = λ s c there. (entry_found (λ (q : BookCall). q.local) FitsCall s (book_after k rs).calls c all_calls there).1;
  }

-- ---- the world

-- a node falls with a checkpoint whose ceiling is above the ids that it drew, and whose book is as what was done says
module _ (w : World) (h : History) (holds : Holds w h) (number n : ℕ) (old : Node) (was : at w.nodes n ≡ Some old) (found : Node)
    (finds : Finds old found) (base : World)
    (same : AreSame w base) (kc : Checkpoint) (gone : (i : ℕ) → (h.accounts n i 0).part ≡ Unmade → at found.end.tunnels i ≡ None)
    (above : (i : ℕ) → i < old.end.tunnel_ids.next → i < kc.book.tunnel_ceiling + 1) (book : BookOk h n kc.book) where
  both_ok : EndOk w h n old.end × BookOk h n old.checkpoint.book
  both_ok = subst (NodeOk w h n) was (holds.nodes n)

  abbrev pub cut_node : Node
  cut_node = fallen (block_of n number) found.end found kc

  cut_rests : Rests h n old cut_node
  unfolding fallen
  cut_rests = record {
    answers = finds.answers;
    epochs = λ i. (after_loss found.end i (ids_of found.end.tunnels) found.standings).0
        ∙ ap (λ xs. (unwrap_or (at xs i) no_standing).epoch) finds.standings;
    made = λ i. (after_loss found.end i (ids_of found.end.tunnels) found.standings).1.0
        ∙ ap (λ xs. (unwrap_or (at xs i) no_standing).made) finds.standings;
    none = λ i unmade none. (after_loss found.end i (ids_of found.end.tunnels) found.standings).1.1 (gone i unmade)
        ∙ (ap (λ xs. unwrap_or (at xs i) no_standing) finds.standings ∙ none);
  }

  cut_ok : NodeOk (with_node w n cut_node) h n (Some cut_node)
  unfolding fallen
  cut_ok =
      let e = both_ok.0 in
      let ids = e.ids in
      let alike = finds.end in (
        record {
          node = e.node;
          number = ap (λ (q : End). q.config.number) alike ∙ e.number;
          lns = λ lac. (let l = e.lns (ap (λ (q : End). q.role) (sym alike) ∙ lac) in
              (l.0, l.1, ap (λ (q : End). q.config.lns) alike ∙ l.2));
          ids = record {
            tunnels = λ i made. above i (ids.tunnels i made);
            attempts = λ a is. above a (ids.attempts a is);
            answers = λ c is. above c (ids.answers c is);
            no_attempt = ids.no_attempt;
            no_answer = ids.no_answer;
            one = ids.one;
          };
          live = λ i t there. absurd (none-some t (sym (at-none i) ∙ there));
          apart = λ i j t u there too. absurd (none-some t (sym (at-none i) ∙ there));
        },
        book,
      )

  pub cut_off : Holds (cut_line base number n found kc).world h
  unfolding cut_line
  cut_off =
      let v = with_node w n cut_node in
      same_holds v (without_held (with_node base n cut_node) n) h (put_holds w h n old cut_node was holds cut_rests cut_ok)
      (ap (λ ns. put ns n cut_node) same.nodes) same.packets
