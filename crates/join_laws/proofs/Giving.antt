-- A move by which an established tunnel gives a letter, and takes none: what becomes of the history, and that the tunnel talks.
use Rattle.std.proofs.Common.{◌≡◌, ℕ, ◌+◌, ◌<◌, ◌≤◌, false, List, [], ◌∷◌, ◌++◌, length, refl, sym, ap, ◌∙◌, subst, Option, Some, None, arith}
use Rattle.std.specs.Prelude.{take}
use Rattle.id_table.specs.Ids.{at}
use Rattle.session_book.specs.Books.{Kept}
use Rattle.end_model.specs.declared.event.Event.{Event}
use Rattle.end_model.specs.declared.moves.Move.{Move}
use Rattle.end_model.specs.Tunnels.{Tunnel}
use Rattle.end_model.specs.End.{End}
use Rattle.world_model.specs.World.{World, Node, Sender, Deed, config_of, epoch_of}
use Rattle.step_laws.specs.Letters.{Letter, letters_of}
use Rattle.book_laws.specs.Books.{Mirrors}
use Rattle.epoch_machine.specs.Letters as machine_letters
use Rattle.epoch_machine.specs.Worlds as machine
use Rattle.session_laws.specs.Names.{name}
use Rattle.channel_laws.specs.Accounts.{Account, heeded, History, about, entered_by, gives_also, after}
use Rattle.channel_laws.specs.Facts.{partner_in}
use Rattle.channel_laws.specs.Steps.{with_end, moves_on}
use Rattle.recovery_laws.specs.Answered.{is_answer}
use Rattle.recovery_laws.specs.Asking.{GoesOn}
use Rattle.recovery_laws.specs.Growing.{ChannelsGrow}
use Rattle.recovery_laws.specs.Joined.{CallsJoined}
use Rattle.recovery_laws.specs.Queries.{said_in, letters_in, questions_in, weigh}
use Rattle.join_laws.specs.Steps as steps
use Rattle.join_laws.proofs.Ahead.{left}
use Rattle.join_laws.proofs.Channel.{gives_is}
use Rattle.join_laws.proofs.Entering as entering
use Rattle.join_laws.proofs.Letters.{Talks}
use Rattle.join_laws.proofs.Made as made
use Rattle.join_laws.proofs.OneTunnel.{CallStays}
use Rattle.join_laws.proofs.Roots.{Roots, Speaks, IsPlain}

-- the letter that such a move gives
pub record Gives (w : World) (h : History) (n : ℕ) (node : Node) (m : Move) (x : End) (d : Deed) (l : Letter) : Type 0 where
  pub same : moves_on w n node m x ≡ with_end w n node x
  pub plain : IsPlain d m
  pub enters : (a : Account) → entered_by d m a ≡ gives_also d a
  pub one : letters_of node.end.role (config_of n 0 None false) m ≡ l ∷ []
  pub none : is_answer l.message ≡ 0

-- what becomes of its tunnel; `says` is what the machine's gives
pub record GivesIn (h g : History) (n : ℕ) (node : Node) (x : End) (b : Kept) (j z : machine.World) (i e : ℕ) (t r : Tunnel) (l : Letter)
    (says : List machine_letters.Letter) : Type 0 where
  pub new : Mirrors x b
  pub at_t : at node.end.tunnels i ≡ Some t
  pub at_r : at x.tunnels i ≡ Some r
  pub state : r.control.state ≡ t.control.state
  pub recovery : r.recovery ≡ t.recovery
  pub others : (p : ℕ) → (p ≡ i → ⊥) → at x.tunnels p ≡ at node.end.tunnels p
  pub said : said_in n (h.accounts n i e).peer [] l.session l.message ≡ says
  pub goes : GoesOn j z (name n i) e says 0
  pub calls : CallsJoined z g n (left node x b)
  pub calls_stay : (q s : ℕ) → (q ≡ n → ⊥) → q < 256 → s < 65536 → CallStays j z (name q s)
  pub births : (z.calls.births ≡ j.calls.births) × ((y : ℕ) → z.calls.birth y ≡ j.calls.birth y)

module _ (w : World) (h : History) (n : ℕ) (node : Node) (sender : Option Sender) (moment : ℕ) (ev : Event) (m : Move) (x : End) (d : Deed)
    (k : Kept) (j : machine.World) (q : steps.IsMade w h n node sender moment ev m x d k j) (l : Letter) (s : Gives w h n node m x d l)
  where
    abbrev i : ℕ
    i = about m

    abbrev e : ℕ
    e = epoch_of w n (about m)

    abbrev a : Account
    a = h.accounts n (about m) (epoch_of w n (about m))

    abbrev new : Account
    new = record a { given = a.given ++ l ∷ [] }

    becomes : entered_by d m a ≡ new
    becomes =
        s.enters a
        ∙ ap (λ ls. record a { given = a.given ++ ls }) (gives_is d n node.end.role sender m q.moved.deed ∙ s.one)

    is : (after h d).accounts n i e ≡ new
    is = entering.account_now w h n node sender moment ev m x d k j q (made.epoch_is w h n node sender moment ev m x d k j q s.same)
        s.plain new becomes

    abbrev roots : Roots a new
    roots = record { part = refl; peer = refl; remote = refl; answer = refl; closed = refl; declined = refl }

    pub gave : Speaks h (after h d) n (about m) (epoch_of w n (about m)) (l ∷ [])
    gave = entering.spoke w h n node sender moment ev m x d k j q (made.epoch_is w h n node sender moment ev m x d k j q s.same)
        s.plain new becomes (l ∷ []) roots refl

    pub gave_peers : (p f : ℕ) → ((after h d).accounts p f 0).peer ≡ (h.accounts p f 0).peer
    gave_peers = entering.same_peers w h n node sender moment ev m x d k j q (made.epoch_is w h n node sender moment ev m x d k j q
        s.same) s.plain new becomes (l ∷ []) roots refl

    module _ (grow : ChannelsGrow) (b : Kept) (z : machine.World) (t r : Tunnel) (says : List machine_letters.Letter)
        (o : GivesIn h (after h d) n node x b j z (about m) (epoch_of w n (about m)) t r l says) where
      pub gives_talks : Talks w h (after h d) n node x k b j z (about m) (epoch_of w n (about m)) t r (l ∷ []) says 0
      gives_talks = record {
        node_fits = made.node_fits w h n node sender moment ev m x d k j q;
        id_fits = made.id_fits w h n node sender moment ev m x d k j q i t o.at_t;
        there = q.moved.there;
        old = q.mirrors;
        new = o.new;
        nodes = q.nodes;
        within = made.within w h n node sender moment ev m x d k j q;
        at_t = o.at_t;
        at_r = o.at_r;
        state = o.state;
        recovery = o.recovery;
        others = o.others;
        speaks = gave;
        goes = o.goes;
        sent =
            ap (λ (c : Account). letters_in n a.peer (questions_in c.taken) c.given) is
            ∙ (grow.letters n a.peer (questions_in a.taken) a.given l s.none
            ∙ ap (λ ls. letters_in n a.peer (questions_in a.taken) a.given ++ ls) o.said);
        taken = ap (λ (c : Account). weigh (take (heeded c) (partner_in h.accounts e a).given)) is ∙ omega arith;
        most = subst (λ (c : Account). heeded c ≤ length (partner_in h.accounts e a).given) (sym is)
            (made.within w h n node sender moment ev m x d k j q n i e);
        calls = o.calls;
        calls_stay = o.calls_stay;
        births = o.births;
      }
