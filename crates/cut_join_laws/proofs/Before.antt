-- The calls of a node that records of a step that is cut off leave in its book lived before the step.
use Rattle.std.proofs.Common.{◌≡◌, ◌⊎◌, inl, inr, ⊎_elim, ℕ, ◌<◌, Bool, true, false, List, refl, sym, ap, ◌∙◌, Option, Some, None}
use Rattle.std.proofs.lemmas.Bool.{true≢false}
use Rattle.std.specs.Prelude.{is_some}
use Rattle.session_book.specs.declared.record.BookCall.{BookCall}
use Rattle.session_book.specs.Books.{call_at}
use Rattle.world_model.specs.World.{Node}
use Rattle.node_laws.specs.Nodes.{HoldsUp}
use Rattle.epoch_machine.specs.Worlds as machine
use Rattle.epoch_machine.specs.Moves as moves
use Rattle.epoch_machine.specs.Calls.{CallState, NoCall, lives}
use Rattle.birth_laws.specs.Births.{CallsHold}
use Rattle.stop_laws.specs.Records.{writes, each_allowed}
use Rattle.session_laws.specs.Names.{name}
use Rattle.channel_laws.specs.Accounts.{History}
use Rattle.recovery_laws.specs.Joined.{CallsJoined}
use Rattle.line_join_laws.proofs.Written.{all_written}
use Rattle.cut_join_laws.proofs.Booked.{is_in_end, up_state}

live_or_not : (s : CallState) → (lives s ≡ true) ⊎ (s ≡ NoCall)
live_or_not NoCall = inr refl
live_or_not s = inl refl

set_or_not : (b : Bool) → (b ≡ true) ⊎ (b ≡ false)
set_or_not true = inl refl
set_or_not false = inr refl

module _ (h : History) (m : machine.World) (births : CallsHold m.tunnels m.calls) (n : ℕ) (old : Node) (up : HoldsUp old)
    (joined : CallsJoined m h n old) where
  -- a call of the node's book
  booked_lives : (s : ℕ) → s < 65536 → m.calls.booked (name n s) ≡ true → lives (m.calls.state (name n s)) ≡ true
  booked_lives s fits is = by (call_at old.checkpoint.book s) refl
    where
      by : (o : Option BookCall) → call_at old.checkpoint.book s ≡ o → lives (m.calls.state (name n s)) ≡ true
      by None none = absurd (true≢false (sym is ∙ (joined.booked s fits ∙ ap (λ q. is_some q) none)))
      by (Some b) has =
          let c = is_in_end old.end old.checkpoint.book up.book.mirrors s b has in
          ap lives (joined.live b.tunnel c.tunnel c.there s c.call c.has).state ∙ up_state c.call.state c.up

  module _ (ks : List moves.Kept) (allowed : each_allowed m n ks ≡ true) (s : ℕ) (fits : s < 65536)
      (is : (writes m ks).calls.booked (name n s) ≡ true) where
    pub lived_before : lives (m.calls.state (name n s)) ≡ true
    lived_before = ⊎_elim
        (λ live. live)
        (λ none. ⊎_elim
        (λ had. booked_lives s fits had)
        (λ free. absurd (true≢false (sym is ∙ (all_written m n ks allowed).dead (name n s) none free)))
        (set_or_not (m.calls.booked (name n s))))
        (live_or_not (m.calls.state (name n s)))

    pub drawn_before : m.calls.drawn (name n s) ≡ true
    drawn_before = ⊎_elim
        (λ drawn. drawn)
        (λ new. absurd (true≢false (sym lived_before ∙ ap lives (births.nameless (name n s) new).state)))
        (set_or_not (m.calls.drawn (name n s)))
