-- A node asks for each of its calls once, in every run.
use Rattle.std.proofs.Common.{◌≡◌, ⊎_elim, ℕ, ◌+◌, List, [], ◌∷◌, ◌++◌, append_assoc, refl, sym, ap, ◌∙◌, subst, append-nil, Option, Some, None, arith, Bool}
use Rattle.std.proofs.lemmas.Option.{none-some}
use mathlib.Core.Path.{fun_ext}
use Rattle.std.specs.List.{AllByRecursion}
use Rattle.id_table.specs.Ids.{at, put, at-none}
use Rattle.id_table.specs.Order.{ascends-empty, at_new, at_other, same_or_not}
use Rattle.schedule_text.specs.declared.line.Line.{Line}
use Rattle.schedule_text.specs.Grammar.{AreLines}
use Rattle.end_model.specs.Access.{Access}
use Rattle.world_model.specs.Texts.{Entry}
use Rattle.end_model.specs.declared.event.Event.{Event}
use Rattle.end_model.specs.declared.moves.Move.{Move}
use Rattle.end_model.specs.declared.tunnel.Call.{Call}
use Rattle.end_names.specs.declared.role.Role.{Role}
use Rattle.end_model.specs.Secrets.{uncovered_event}
use Rattle.end_model.specs.End.{End, Stepped, step}
use Rattle.world_model.specs.declared.held.Held.{Held}
use Rattle.world_model.specs.World.{World, Node, Checkpoint, Sender, Deed, Lined, new_node, with_node, taken_up, hand_deed, block_of}
use Rattle.world_model.specs.Run.{Run, after_line, run}
use Rattle.step_laws.specs.Calm.{AreCalm}
use Rattle.step_laws.specs.Steps.{AreKept, StepsAreChains}
use Rattle.frame_laws.specs.Facts.{FactsOfRuns}
use Rattle.frame_laws.specs.Unrecovered.{IsMain, MovesOfRuns}
use Rattle.connection_laws.specs.Accounts.{no_account, account_from, account_of}
use Rattle.connection_laws.proofs.Lines.{hand_keeps}
use Rattle.request_laws.specs.Requests.{IsAskedAt, AskedInRuns, IsDrawnAtLac, DrawnAtLacsInRuns}
use Rattle.request_laws.proofs.Asked.{Asking, IsCall, Known, Ordered, AskOk}
use Rattle.request_laws.proofs.Deeds.{KeepsLetters, deeds, mains_of, deeds_elsewhere, account_from-append}
use Rattle.request_laws.proofs.Chains.{asks_on}
use Rattle.request_laws.proofs.Lines.{told_line, LineDoes, Nothing, Declares, Steps, LineIs, ByItself, Holds, BehindHand, step_of, line_is}
use Rattle.request_laws.proofs.Worlds.{step_done, step_follows, after_moves}
use Rattle.request_laws.proofs.Runs.{Reached, reached_is, holds_in_runs, AreMain, mains_reached}

-- ---- accounts

-- what is known of a node's tunnels, after more deeds
pub known_more : (ds es : List Deed) (n : ℕ) → account_of (ds ++ es) n ≡ (λ i. account_from es n i (account_of ds n i))
known_more ds es n = fun_ext (λ i. account_from-append ds es n i no_account)

-- no more letters are known of a node's tunnels
abbrev pub StillKnown : Known → Known → Type 0
StillKnown known later = (i : ℕ) → KeepsLetters (known i) (later i)

pub still_same : (known later : Known) → later ≡ known → StillKnown known later
still_same known later same i = rw same (record { given = refl; taken = refl })

-- so it is with another node's
pub known_elsewhere : (v : World) (number n : ℕ) (r : Role) (sender : Option Sender) (ds es : List Deed) (ms : List Move) → es ≡ deeds v number n r sender ms
    → (q : ℕ) → (q ≡ n → ⊥) → StillKnown (account_of ds q) (account_of (ds ++ es) q)
known_elsewhere v number n r sender ds es ms done q other i =
    rw (done, account_from-append ds (deeds v number n r sender ms) q i no_account) (deeds_elsewhere v number n r sender ms q i (account_of ds q i) other)

-- ---- nodes

-- of a node that isn't declared no letter is known
abbrev pub NodeAsks : List Deed → ℕ → Option Node → Type 0
NodeAsks ds n None = (i : ℕ) → (account_of ds n i).given ≡ []
NodeAsks ds n (Some node) = AskOk (account_of ds n) node.end

abbrev pub RunAsks : Run → Type 0
RunAsks r = (n : ℕ) → NodeAsks r.done n (at r.world.nodes n)

-- letters that ask were there
ask_still : (known later : Known) → StillKnown known later → (e : End) → AskOk known e → AskOk later e
ask_still known later same e h =
    let was : (i k s : ℕ) → Asking (later i).given k s → Asking (known i).given k s = λ i k s a. subst (λ ls. Asking ls k s) (same i).given a in
    record {
      order = h.order;
      first = h.first;
      drawn = h.drawn;
      asked = λ i k s a. h.asked i k s (was i k s a);
      apart = h.apart;
      waits = λ i s c is asks j k a. h.waits i s c is asks j k (was j k s a);
      once = λ i k j l s a b. h.once i k j l s (was i k s a) (was j l s b);
    }

-- the same is known of it
nodes_ask : (ds es : List Deed) (n : ℕ) (o : Option Node) → StillKnown (account_of ds n) (account_of es n) → NodeAsks ds n o → NodeAsks es n o
nodes_ask ds es n None same h = λ i. (same i).given ∙ h i
nodes_ask ds es n (Some node) same h = ask_still (account_of ds n) (account_of es n) same node.end h

no_asking : (k s : ℕ) → Asking [] k s → ⊥
no_asking k s h = none-some h.letter h.there

nothing_asks : (known : Known) → ((i : ℕ) → (known i).given ≡ []) → (i k s : ℕ) → Asking (known i).given k s → ⊥
nothing_asks known none i k s a = no_asking k s (subst (λ ls. Asking ls k s) (none i) a)

-- a node that is new
fresh_asks : (known : Known) → ((i : ℕ) → (known i).given ≡ []) → (number n : ℕ) (r : Role) (lns : ℕ) (secret : Option (List ℕ)) (hide : Bool)
    → AskOk known (new_node number n r lns secret hide).end
fresh_asks known none number n r lns secret hide =
    let no_call = λ (i s : ℕ) (c : Call) (h : IsCall (new_node number n r lns secret hide).end i s c). none-some h.tunnel (sym (at-none i) ∙ h.there) in
    record {
      order = record {
        tunnels = ascends-empty [] refl;
        calls = λ i t f. absurd (none-some t (sym (at-none i) ∙ f));
      };
      first = omega arith;
      drawn = λ i s c h. absurd (no_call i s c h);
      asked = λ i k s a. absurd (nothing_asks known none i k s a);
      apart = λ i j s c d h k. absurd (no_call i s c h);
      waits = λ i s c h asks j k a. nothing_asks known none j k s a;
      once = λ i k j l s a b. absurd (nothing_asks known none i k s a);
    }

-- ---- lines

-- what is known of an end whose tunnels are kept
pub kept_order : (e : End) → AreKept e → Ordered e
kept_order e h = record { tunnels = h.order; calls = λ i t f. (h.tunnels i t f).calls }

-- nothing more is known
pub nothing_done : (ds es : List Deed) → es ≡ [] → (n : ℕ) → StillKnown (account_of ds n) (account_of (ds ++ es) n)
nothing_done ds es none n =
    still_same (account_of ds n) (account_of (ds ++ es) n)
    (ap (λ (fs : List Deed). account_of fs n) (ap (λ (fs : List Deed). ds ++ fs) none ∙ append-nil ds))

module _ (r : Run) (ok : RunAsks r) where
  quiet_asks : (x : Lined) (es : List Entry) → x ≡ told_line r.world es → RunAsks (after_line r x)
  quiet_asks x es e n =
      let done = ap (λ (y : Lined). y.done) e in
      let world = ap (λ (y : Lined). y.world) e in
      subst (λ (w : World). NodeAsks (r.done ++ x.done) n (at w.nodes n)) (sym world)
      (nodes_ask r.done (r.done ++ x.done) n (at r.world.nodes n) (nothing_done r.done x.done done n) (ok n))

  declared_asks : (x : Lined) (number n : ℕ) (role : Role) (lns : ℕ) (secret : Option (List ℕ)) (hide : Bool) → at r.world.nodes n ≡ None
      → (es : List Entry) → x ≡ told_line (with_node r.world n (new_node number n role lns secret hide)) es → RunAsks (after_line r x)
  declared_asks x number n role lns secret hide none es e q =
      let done = ap (λ (y : Lined). y.done) e in
      let world = ap (λ (y : Lined). y.world) e in
      let new = new_node number n role lns secret hide in
      let unknown : (i : ℕ) → (account_of r.done n i).given ≡ [] = subst (λ o. NodeAsks r.done n o) none (ok n) in
      subst (λ (w : World). NodeAsks (r.done ++ x.done) q (at w.nodes q)) (sym world)
      (nodes_ask r.done (r.done ++ x.done) q (at (put r.world.nodes n new) q) (nothing_done r.done x.done done q)
      (⊎_elim
      (λ (a : q ≡ n). subst (λ k. NodeAsks r.done k (at (put r.world.nodes n new) k)) (sym a)
      (rw (at_new r.world.nodes n new) (fresh_asks (account_of r.done n) unknown number n role lns secret hide)))
      (λ other. rw (at_other r.world.nodes n new q other) (ok q))
      (same_or_not q n)))

  module _ (chains : StepsAreChains) (kept : (n : ℕ) (node : Node) → at r.world.nodes n ≡ Some node → AreKept node.end)
      (number n : ℕ) (old : Node) (clock : ℕ) (access : Option Access) (checkpoint : Checkpoint) (ev : Event) (sender : Option Sender)
      (there : at r.world.nodes n ≡ Some old) (mains : AllByRecursion IsMain (step old.end clock (block_of n number) ev).moves) where
    -- what came, as it is read
    abbrev came : Event
    came = uncovered_event old.end.config.secret ev

    abbrev s : Stepped
    s = step old.end clock (block_of n number) ev

    abbrev timed : Node
    timed = record old { clock = clock; access = access; checkpoint = checkpoint }

    abbrev x : Lined
    x = step_of r.world number n timed ev sender

    abbrev v : World
    v = after_moves r.world number n timed sender s

    done_is : x.done ≡ deeds v number n old.end.role sender s.moves
    done_is = step_done r.world number n timed sender s

    asks_then : AskOk (account_of (r.done ++ x.done) n) s.end
    asks_then =
        let before : AskOk (account_of r.done n) old.end = subst (λ o. NodeAsks r.done n o) there (ok n) in
        let chain = (chains old.end (kept n old there) clock (block_of n number) came).chain in
        let after = asks_on v number n old.end.role sender clock came (account_of r.done n) old.end s.end before s.moves mains chain in
        rw done_is (rw (known_more r.done (deeds v number n old.end.role sender s.moves) n) after)

    step_asks : RunAsks (after_line r x)
    step_asks q =
        let f = step_follows r.world number n timed sender s mains in
        ⊎_elim
        (λ (a : q ≡ n).
        let here : NodeAsks (r.done ++ x.done) n (at x.world.nodes n) = rw (f.is, f.end_is) asks_then in
        subst (λ k. NodeAsks (r.done ++ x.done) k (at x.world.nodes k)) (sym a) here)
        (λ other.
        let same = known_elsewhere v number n old.end.role sender r.done x.done s.moves done_is q other in
        rw (f.others q other) (nodes_ask r.done (r.done ++ x.done) q (at r.world.nodes q) same (ok q)))
        (same_or_not q n)

-- the moves of a step whose deeds are those of no recovery
pub step_mains : (w : World) (number n : ℕ) (old : Node) (clock : ℕ) (access : Option Access) (checkpoint : Checkpoint) (ev : Event) (sender : Option Sender)
    → AreMain (step_of w number n (record old { clock = clock; access = access; checkpoint = checkpoint }) ev sender).done
    → AllByRecursion IsMain (step old.end clock (block_of n number) ev).moves
step_mains w number n old clock access checkpoint ev sender mains =
    let node : Node = record old { clock = clock; access = access; checkpoint = checkpoint } in
    let s = step old.end clock (block_of n number) ev in
    mains_of (after_moves w number n node sender s) number n old.end.role sender s.moves (subst AreMain (step_done w number n node sender s) mains)

-- a frame that is handed up tells of no letter
pub hand_known : (ds : List Deed) (line n : ℕ) (role : Role) (f : Held) (q : ℕ) → account_of (ds ++ hand_deed line n role f ∷ []) q ≡ account_of ds q
unfolding account_from
hand_known ds line n role f q =
    fun_ext (λ i. account_from-append ds (hand_deed line n role f ∷ []) q i no_account ∙ hand_keeps line n role f q i (account_of ds q i))

module _ (chains : StepsAreChains) (facts : FactsOfRuns) (moves : MovesOfRuns) where
  kept_now : (number : ℕ) (before : List Line) (r : Run) → Reached number before r → (n : ℕ) (node : Node) → at r.world.nodes n ≡ Some node → AreKept node.end
  kept_now number before r h n node there =
      let is = reached_is number before r h in
      ((facts before h.fit).nodes n node (subst (λ (q : Run). at q.world.nodes n ≡ Some node) (sym is) there)).kept

  does_asks : (number : ℕ) (r : Run) → ((n : ℕ) (node : Node) → at r.world.nodes n ≡ Some node → AreKept node.end) → RunAsks r → (x : Lined)
      → AreMain x.done → LineDoes r.world number x → RunAsks (after_line r x)
  does_asks number r kept ok x mains (Nothing es e) = quiet_asks r ok x es e
  does_asks number r kept ok x mains (Declares n role lns secret hide none es e) = declared_asks r ok x number n role lns secret hide none es e
  does_asks number r kept ok x mains (Steps n old clock access checkpoint ev sender es there from e) =
      subst (λ y. RunAsks (after_line r y)) (sym e)
      (step_asks r ok chains kept number n old clock access checkpoint ev sender there
      (step_mains r.world number n old clock access checkpoint ev sender (subst (λ (y : Lined). AreMain y.done) e mains)))

  line_asks : (number : ℕ) (before : List Line) (r : Run) → Reached number before r → RunAsks r → (x : Lined) → AreMain x.done → LineIs r.world number x
      → RunAsks (after_line r x)
  line_asks number before r h ok x mains (ByItself d) = does_asks number r (kept_now number before r h) ok x mains d
  line_asks number before r h ok x mains (Holds done nodes) = λ q.
      subst (λ (ns : List (ℕ × Node)). NodeAsks (r.done ++ x.done) q (at ns q)) (sym nodes)
      (nodes_ask r.done (r.done ++ x.done) q (at r.world.nodes q) (nothing_done r.done x.done done q) (ok q))
  line_asks number before r h ok x mains (BehindHand y n held role f is d) =
      let one = hand_deed number n role f in
      let up : Run = record r { world = taken_up r.world n held; done = r.done ++ one ∷ [] } in
      let asks : RunAsks up = λ q.
      nodes_ask r.done (r.done ++ one ∷ []) q (at r.world.nodes q)
      (still_same (account_of r.done q) (account_of (r.done ++ one ∷ []) q) (hand_known r.done number n role f q)) (ok q) in
      let then = does_asks number up (kept_now number before r h) asks y (subst (λ (z : Lined). AreMain z.done) is mains).1 d in
      subst (λ z. RunAsks (after_line r z)) (sym is) (λ q. subst (λ ds. NodeAsks ds q (at y.world.nodes q)) (append_assoc r.done (one ∷ []) y.done) (then q))

  pub asks_in_runs : (lines : List Line) → AreLines lines → AreCalm lines → RunAsks (run lines)
  unfolding account_from
  asks_in_runs lines fits calm =
      holds_in_runs RunAsks (λ number before r h ok l x calm is next.
      line_asks number before r h ok x (mains_reached moves (number + 1) (before ++ l ∷ []) r x next)
      (line_is r.world h.world number x l calm is)) (λ r fault ok. ok)
      (λ n. rw (at-none n) (λ i. refl)) lines fits calm

-- ---- requests

asking_at : (ds : List Deed) (n i k s : ℕ) → IsAskedAt ds n i k s → Asking (account_of ds n i).given k s
asking_at ds n i k s h = record { letter = h.letter; there = h.there; serial = h.serial; calling = h.calling; asks = h.asks }

-- nothing is asked for by a node that isn't declared
asked_node : (ds : List Deed) (n : ℕ) (o : Option Node) → NodeAsks ds n o → (i k s : ℕ) → IsAskedAt ds n i k s
    → (node : Node) × (o ≡ Some node) × AskOk (account_of ds n) node.end
asked_node ds n None h i k s a = absurd (nothing_asks (account_of ds n) h i k s (asking_at ds n i k s a))
asked_node ds n (Some node) h i k s a = (node, refl, h)

pub drawn_at_lac : (r : Run) → RunAsks r → (n i k s : ℕ) → IsAskedAt r.done n i k s → IsDrawnAtLac r.world n s
drawn_at_lac r ok n i k s a =
    let h = asked_node r.done n (at r.world.nodes n) (ok n) i k s a in
    let asked = h.2.asked i k s (asking_at r.done n i k s a) in
    record { node = h.0; is = h.1; role = asked.1; some = asked.0.0; drawn = asked.0.1 }

pub asked_in_runs : StepsAreChains → FactsOfRuns → MovesOfRuns → AskedInRuns
asked_in_runs chains facts moves lines fits calm n i k j l s a b =
    let r = run lines in
    let h = asked_node r.done n (at r.world.nodes n) (asks_in_runs chains facts moves lines fits calm n) i k s a in
    h.2.once i k j l s (asking_at r.done n i k s a) (asking_at r.done n j l s b)

pub drawn_at_lacs_in_runs : StepsAreChains → FactsOfRuns → MovesOfRuns → DrawnAtLacsInRuns
drawn_at_lacs_in_runs chains facts moves lines fits calm n i k s a = drawn_at_lac (run lines) (asks_in_runs chains facts moves lines fits calm) n i k s a
