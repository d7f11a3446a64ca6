-- What moves of recoveries have in common: the world in which a tunnel entered an epoch, the machine's answers, and how such a move is
-- joined.
use Rattle.std.proofs.Common.{◌≡◌, ⊎_elim, ℕ, ◌<◌, true, List, refl, sym, ap, ◌∙◌, subst, Some, lt-ltb}
use Rattle.std.specs.Prelude.{if◌then◌else◌}
use Rattle.id_table.specs.Ids.{at}
use Rattle.id_table.specs.Order.{same_or_not}
use Rattle.recovery_tunnel.specs.Connections.{ControlConnection, is_waiting}
use Rattle.recovery_tunnel.specs.Answers.{Answering}
use Rattle.session_book.specs.Books.{Kept}
use Rattle.end_names.specs.Names.{node_of}
use Rattle.end_model.specs.declared.event.Event.{Event}
use Rattle.end_model.specs.declared.moves.Froze.{Froze}
use Rattle.end_model.specs.declared.moves.Move.{Move}
use Rattle.end_model.specs.Tunnels.{Tunnel, ByAttempt, ByAnswer}
use Rattle.end_model.specs.End.{End}
use Rattle.world_model.specs.World.{World, Node, Deed, birth_in, birth_of}
use Rattle.epoch_machine.specs.Names.{is_name}
use Rattle.epoch_machine.specs.Worlds as machine
use Rattle.epoch_machine.specs.Worlds.{all_rules}
use Rattle.epoch_machine.specs.Moves as moves
use Rattle.epoch_machine.specs.Moves.{goes_on}
use Rattle.epoch_machine.specs.Tunnels.{Attempts, Answers}
use Rattle.session_laws.specs.Names.{name, phase_of}
use Rattle.session_laws.proofs.Names.{name_some}
use Rattle.channel_laws.specs.Accounts.{Opener, Acceptor, History, after}
use Rattle.channel_laws.specs.Facts.{Accounts, IsMade, AreLinked, AnswerOk, Holds, makes}
use Rattle.channel_laws.specs.Steps.{moves_on}
use Rattle.channel_laws.proofs.Entering.{node_then, world_then, here_then, other_then}
use Rattle.channel_laws.proofs.Waiting.{not_reset}
use Rattle.recovery_laws.specs.Queries.{QueriesJoined, CallsAreNamed}
use Rattle.recovery_laws.specs.Joined.{phase_by, AnswerIs, AnswerJoined, AreJoined}
use Rattle.join_laws.specs.Steps.{with_book, Follows, IsJoined}
use Rattle.join_laws.proofs.Ahead.{book_makes}
use Rattle.join_laws.proofs.Finish.{Went}
use Rattle.join_laws.proofs.OneTunnel.{SameNode, same_node}
use Rattle.recovery_join_laws.proofs.Behind.{Leads}

-- ---- the world behind

pub entered_leads : (w : World) (n : ℕ) (node : Node) (there : at w.nodes n ≡ Some node) (x : End) (i e : ℕ)
    → Leads w (world_then w n node there x i e) n node x
unfolding birth_of
entered_leads w n node there x i e = record {
  after = node_then w n node there x i e;
  is = here_then w n node there x i e;
  end = refl;
  up = refl;
  others = λ q o. subst (SameNode (at w.nodes q)) (sym (other_then w n node there x i e q o)) (same_node (at w.nodes q));
  born = refl;
  births = births;
}
  where
    births : (q s : ℕ) → birth_of (world_then w n node there x i e) q s ≡ birth_of w q s
    births q s = ⊎_elim
        (λ (same : q ≡ n).
        ap (λ y. birth_in (at (world_then w n node there x i e).nodes y) s) same
        ∙ (ap (λ o. birth_in o s) (here_then w n node there x i e)
        ∙ sym (ap (λ y. birth_in (at w.nodes y) s) same ∙ ap (λ o. birth_in o s) there)))
        (λ o. ap (λ y. birth_in y s) (other_then w n node there x i e q o))
        (same_or_not q n)

-- the move is joined where the world that it leads to is
pub led : (ev : Event) (w v : World) (h : History) (n : ℕ) (node : Node) (m : Move) (x : End) (d : Deed) (b : Kept) (j z : machine.World)
    → moves_on w n node m x ≡ v → (t : Went ev n j z)
    → ((js : List moves.Move) → z ≡ goes_on all_rules j js → AreJoined (with_book v n b) (after h d) z)
    → QueriesJoined (with_book v n b) (after h d) z → CallsAreNamed z
    → Follows ev (with_book (moves_on w n node m x) n b) (after h d) n j
led ev w v h n node m x d b j z same t joined queries named =
    subst (λ y. Follows ev (with_book y n b) (after h d) n j) (sym same) (record {
      moves = t.moves;
      own = t.own;
      heard = t.heard;
      joined = subst (IsJoined (with_book v n b) (after h d)) t.goes
          (record { joined = joined t.moves t.goes; queries = queries; named = named });
    })

-- ---- links and answers

pub made_from : (accs : Accounts) (n i m j : ℕ) → AreLinked accs n i m j → IsMade (accs n i 0)
made_from accs n i m j l none = ⊎_elim
    (λ (k : ((accs n i 0).part ≡ Opener) × ((accs m j 0).part ≡ Acceptor)). let two = sym k.0 ∙ none in absurd cc)
    (λ (k : ((accs n i 0).part ≡ Acceptor) × ((accs m j 0).part ≡ Opener)). let two = sym k.0 ∙ none in absurd cc)
    l.parts

pub made_to : (accs : Accounts) (n i m j : ℕ) → AreLinked accs n i m j → IsMade (accs m j 0)
made_to accs n i m j l none = ⊎_elim
    (λ (k : ((accs n i 0).part ≡ Opener) × ((accs m j 0).part ≡ Acceptor)). let two = sym k.1 ∙ none in absurd cc)
    (λ (k : ((accs n i 0).part ≡ Acceptor) × ((accs m j 0).part ≡ Opener)). let two = sym k.1 ∙ none in absurd cc)
    l.parts

-- an id that isn't 0 makes a name
pub some_named : (n i : ℕ) → 0 < i → is_name (name n i) ≡ true
some_named n i some = lt-ltb 0 (name n i) (name_some n i some)

-- an answer that was given is the machine's, also with a book of a node's end
module _ (w : World) (h : History) (holds : Holds w h) (n : ℕ) (node : Node) (there : at w.nodes n ≡ Some node) (k : Kept)
    (j : machine.World)
    (joined : AreJoined (with_book w n k) h j) (q a : ℕ) (f : Froze) (is : h.answers q a ≡ Some f) where
  ok : AnswerOk w h q a f
  ok = holds.answers q a f is

  pub giver_fits : q < 256
  giver_fits = (holds.accounts q f.tunnel 0).node (made_from h.accounts q f.tunnel (node_of f.peer) f.remote ok.linked)

  pub answer_is : AnswerIs j (with_book w n k) h q a f
  answer_is = subst (AnswerJoined j (with_book w n k) h q a) is (joined.answers q a giver_fits ok.fits)

  pub epoch_is : j.tunnels.makes (name q a) ≡ makes w q a
  epoch_is = answer_is.epoch ∙ book_makes w n node there k q a

-- ---- phases

-- of a tunnel whose attempt waits, or whose answer does
pub attempts_phase : (n : ℕ) (t : Tunnel) (c : ControlConnection) → t.recovery ≡ Some (ByAttempt c) → is_waiting c ≡ true
    → phase_by n t t.recovery ≡ Attempts (name n c.local)
attempts_phase n t c has waits = ap (phase_by n t) has
    ∙ ap (λ b. if b then phase_of t.control.state else Attempts (name n c.local)) (not_reset c waits)

pub answers_phase : (n : ℕ) (t : Tunnel) (a : Answering) → t.recovery ≡ Some (ByAnswer a) → is_waiting a.connection ≡ true
    → phase_by n t t.recovery ≡ Answers (name n a.connection.local)
answers_phase n t a has waits = ap (phase_by n t) has
    ∙ ap (λ b. if b then phase_of t.control.state else Answers (name n a.connection.local)) (not_reset a.connection waits)
