-- From the moves of a step to the lines of a run.
use Rattle.std.proofs.Common.{◌≡◌, ⊎_elim, ℕ, ◌+◌, ◌-◌, ◌*◌, ◌^◌, ◌<◌, ◌≤◌, List, [], ◌∷◌, ◌++◌, length, refl, sym, ap, ◌∙◌, subst, append_assoc, append-nil, Option, Some, None, Result, Ok, Err, arith, Bool}
use Rattle.std.proofs.lemmas.Bool.{eq-eqb, ne_eqb}
use Rattle.std.proofs.lemmas.Option.{none-some}
use Rattle.std.specs.Prelude.{map, option_map}
use Rattle.id_table.specs.Ids.{at, at-none}
use Rattle.id_table.specs.Order.{at_new, at_other, same_or_not}
use Rattle.schedule_text.specs.declared.line.Line.{Line}
use Rattle.schedule_text.specs.Grammar.{AreLines}
use Rattle.end_model.specs.declared.event.Event.{Event}
use Rattle.end_model.specs.declared.moves.Move.{Move}
use Rattle.end_model.specs.declared.moves.Move.TheVariants as move
use Rattle.end_model.specs.declared.moves.Replied.{Replied}
use Rattle.frame_laws.proofs.Facts.{all_push}
use Rattle.world_model.specs.declared.refusal.Refusal.{Refusal}
use Rattle.end_names.specs.declared.role.Role.{Role}
use Rattle.end_names.specs.declared.role.Role.TheVariants.{Lac, Lns}
use Rattle.end_model.specs.End.{End, new_end, plain_step}
use Rattle.world_model.specs.World.{World, Node, Sender, Deed, Lined, birth_in, birth_of, moved, moved_all, config_of, hand_deed, line, new_node}
use Rattle.world_model.specs.Run.{Run, empty_run, after_line, goes_on, run_from}
use Rattle.step_laws.specs.Calm.{AreCalm}
use Rattle.epoch_machine.specs.Worlds as machine
use Rattle.epoch_machine.specs.Moves as moves
use Rattle.connection_laws.specs.Accounts.{Account, no_account, account_of, account_from}
use Rattle.connection_laws.specs.Facts.{Accounts, EndOk, NodeOk, Holds}
use Rattle.connection_laws.specs.Steps.{after, MovesKeep, MovesWithin, BirthsStay, LineSteps, LineDoes, Nothing, ANode, AStep, LineHands, ByItself, BehindHand, HoldsAt, LinesGoOn}
use Rattle.connection_laws.proofs.Steps.{afterwards}
use Rattle.connection_laws.proofs.Runs.{accounts_more}
use Rattle.connection_laws.proofs.Lines.{behind_accounts}
use Rattle.session_laws.specs.Names.{name}
use Rattle.session_laws.specs.Roles.{FitsEnd, IsOfEnd}
use Rattle.session_laws.specs.Joined.{Ends, tunnel_in, TunnelJoined, NodeJoined, CallsJoined, AreJoined, mate_of, MateJoined, BirthsJoined, ReplyJoined, RepliesJoined, ends_of}
use Rattle.session_laws.proofs.Keeps.{with_end, MovesFollow}
use Rattle.session_laws.proofs.WorldBirths.{births_on, replies_on, births_told, births_ended}

-- ---- ends

pub here_end : (ends : Ends) (n : ℕ) (x : End) → with_end ends n x n ≡ Some x
here_end ends n x = rw (eq-eqb n n refl) refl

pub there_end : (ends : Ends) (n : ℕ) (x : End) (m : ℕ) → (m ≡ n → ⊥) → with_end ends n x m ≡ ends m
there_end ends n x m other = rw (ne_eqb m n other) refl

-- the same ends, however they are told
pub same_ends : (accs : Accounts) (ends fs : Ends) (w : machine.World) → ((m : ℕ) → ends m ≡ fs m) → AreJoined accs ends w → AreJoined accs fs w
same_ends accs ends fs w same h = record {
  tunnels = λ n i a b. subst (λ (o : Option End). TunnelJoined w n i (accs n i) (tunnel_in o i)) (same n) (h.tunnels n i a b);
  nodes = λ n a. subst (λ (o : Option End). NodeJoined w accs n o) (same n) (h.nodes n a);
  fit = λ n i. subst (λ (o : Option End). IsOfEnd o (accs n i)) (same n) (h.fit n i);
  up = h.up;
  moves = h.moves;
  run = h.run;
}

-- the machine moves along with a run whose world is this one
pub record Joins (accs : Accounts) (ends : Ends) (told : World) (ds : List Deed) : Type 0 where
  pub world : machine.World
  pub joined : AreJoined accs ends world
  pub births : BirthsJoined told ends world
  pub replies : RepliesJoined world ds

joins_same : (accs : Accounts) (ends fs : Ends) (told : World) (ds : List Deed) → ((m : ℕ) → ends m ≡ fs m) → Joins accs ends told ds
    → Joins accs fs told ds
joins_same accs ends fs told ds same h = record {
  world = h.world;
  joined = same_ends accs ends fs h.world same h.joined;
  births = births_ended told ends fs h.world same h.births;
  replies = h.replies;
}

end_again : (ends : Ends) (n : ℕ) (e x : End) → ends n ≡ Some e → e ≡ x → (m : ℕ) → ends m ≡ with_end ends n x m
end_again ends n e x here is m = ⊎_elim
    (λ (s : m ≡ n). subst (λ q. ends q ≡ with_end ends n x q) (sym s) (here ∙ ap (λ y. Some y) is ∙ sym (here_end ends n x)))
    (λ o. sym (there_end ends n x m o))
    (same_or_not m n)

end_twice : (ends : Ends) (n : ℕ) (y x : End) (m : ℕ) → with_end (with_end ends n y) n x m ≡ with_end ends n x m
end_twice ends n y x m = ⊎_elim
    (λ (s : m ≡ n). subst (λ q. with_end (with_end ends n y) n x q ≡ with_end ends n x q) (sym s)
    (here_end (with_end ends n y) n x ∙ sym (here_end ends n x)))
    (λ o. there_end (with_end ends n y) n x m o ∙ (there_end ends n y m o ∙ sym (there_end ends n x m o)))
    (same_or_not m n)

-- ---- the moves of a step

-- after the moves of a step: each birth takes a session id, of which a node has fewer than 65,536
record ChainJoins (accs : Accounts) (ends : Ends) (before told : World) (ds : List Deed) (e x : End) : Type 0 where
  joins : Joins accs ends told ds
  count : told.born + e.session_ids.next ≤ before.born + x.session_ids.next

-- of an end that is joined
most_sessions : (accs : Accounts) (ends : Ends) (w : machine.World) → AreJoined accs ends w → (n : ℕ) → n < 256 → (e : End) → ends n ≡ Some e
    → e.session_ids.next ≤ 65536
most_sessions accs ends w joined n lt e here =
    let calls : NodeJoined w accs n (Some e) = subst (λ o. NodeJoined w accs n o) here (joined.nodes n lt) in
    calls.most

module _ (keep : MovesKeep) (follow : MovesFollow) where
  chain_follows : (deed : Move → Deed) (ms : List Move) (accs : Accounts) (ends : Ends) (w : machine.World) (n : ℕ) (lt : n < 256) (e x : End)
      (sender : Option Sender) (moment : ℕ) (ev : Event) → MovesWithin accs n e sender moment ev deed ms x → ends n ≡ Some e → AreJoined accs ends w
      → (told : World) (node : Node) → at told.nodes n ≡ Some node → BirthsJoined told ends w
      → told.born + 65536 < 2 ^ 64 - 1 + e.session_ids.next → (ds : List Deed) → RepliesJoined w ds
      → ChainJoins (afterwards accs (map deed ms)) (with_end ends n x) told (moved_all n ms told) (ds ++ map deed ms) e x
  unfolding account_from moved_all
  chain_follows deed [] accs ends w n lt e x sender moment ev h here joined told node is births room ds replies = record {
    joins = record {
      world = w;
      joined = same_ends accs ends (with_end ends n x) w (end_again ends n e x here h) joined;
      births = births_ended told ends (with_end ends n x) w (end_again ends n e x here h) births;
      replies = subst (λ qs. RepliesJoined w qs) (sym (append-nil ds)) replies;
    };
    count = rw h (omega arith);
  }
  chain_follows deed (m ∷ ms) accs ends w n lt e x sender moment ev h here joined told node is births room ds replies =
      let y = h.0 in
      let d = deed m in
      let f = follow accs ends w n e y sender moment ev m d (record {
        moved = h.1;
        leads = keep accs n e y sender moment ev m d h.1;
        here = here;
        joined = joined;
      }) in
      let most = most_sessions accs ends w joined n lt e here in
      let few : told.born < 2 ^ 64 - 1 = omega (arith, room) in
      let b = births_on told ends w f.world n lt e y here births node is few m h.1.main f.births in
      let count = b.count in
      let rises = f.births.rises in
      let k = chain_follows deed ms (after accs d) (with_end ends n y) f.world n lt y x sender moment ev h.2 (here_end ends n y) f.joined
      (moved n told m) b.declared.0 b.declared.1 b.joined (omega (arith, room)) (ds ++ d ∷ [])
      (replies_on w f.world n e y m d f.births h.1.deed.node_is h.1.deed.move_is ds replies) in
      record {
        joins = subst (λ qs. Joins (afterwards (after accs d) (map deed ms)) (with_end ends n x) (moved_all n ms (moved n told m)) qs)
            (append_assoc ds (d ∷ []) (map deed ms))
            (joins_same (afterwards (after accs d) (map deed ms)) (with_end (with_end ends n y) n x) (with_end ends n x)
            (moved_all n ms (moved n told m)) ((ds ++ d ∷ []) ++ map deed ms) (end_twice ends n y x) k.joins);
        count = (let more = k.count in omega arith);
      }

-- ---- a node that is new

some_not_none : {X Y : Type 0} (o : Option X) (x : X) → o ≡ None → o ≡ Some x → Y
some_not_none o x n s = absurd (none-some x (sym n ∙ s))

module _ (accs : Accounts) (ends : Ends) (w : machine.World) (joined : AreJoined accs ends w) (n : ℕ) (lt : n < 256) (role : Role) (lns : ℕ)
    (secret : Option (List ℕ)) (hide : Bool) (none : ends n ≡ None) where
  abbrev new : End
  new = new_end role (config_of n lns secret hide)

  new_calls : CallsJoined w accs n new
  new_calls =
      let had : NodeJoined w accs n None = subst (λ (o : Option End). NodeJoined w accs n o) none (joined.nodes n lt) in
      record {
        live = λ i t there. some_not_none (at [] i) t (at-none i) there;
        drawn = λ i t there. some_not_none (at [] i) t (at-none i) there;
        gone = λ s fits no. (had s fits).0;
        undrawn = λ s above fits. (had s fits).1;
        waiting = λ i t there. some_not_none (at [] i) t (at-none i) there;
        most = omega arith;
        ids = λ i t there. some_not_none (at [] i) t (at-none i) there;
        zero = (had 0 (omega arith)).1;
        roles = λ i t there. some_not_none (at [] i) t (at-none i) there;
      }

  -- it has no tunnels yet
  new_fits : (i : ℕ) → FitsEnd role (accs n i)
  new_fits i =
      let nothing : accs n i ≡ no_account = subst (λ (o : Option End). IsOfEnd o (accs n i)) none (joined.fit n i) in
      rw nothing (record { opens = λ is. absurd cc; says = tt })

  pub new_joined : AreJoined accs (with_end ends n new) w
  new_joined = record {
    tunnels = λ m i mfits fits. ⊎_elim
        (λ (s : m ≡ n). subst (λ (o : Option End). TunnelJoined w m i (accs m i) (tunnel_in o i))
        (sym (subst (λ q. with_end ends n new q ≡ Some new) (sym s) (here_end ends n new)))
        (subst (TunnelJoined w m i (accs m i)) (sym (at-none i))
        (subst (λ (o : Option End). TunnelJoined w m i (accs m i) (tunnel_in o i)) (subst (λ q. ends q ≡ None) (sym s) none) (joined.tunnels m i mfits fits))))
        (λ o. subst (λ (e : Option End). TunnelJoined w m i (accs m i) (tunnel_in e i)) (sym (there_end ends n new m o)) (joined.tunnels m i mfits fits))
        (same_or_not m n);
    nodes = λ m mfits. ⊎_elim
        (λ (s : m ≡ n). subst (λ q. NodeJoined w accs q (with_end ends n new q)) (sym s)
        (subst (λ (o : Option End). NodeJoined w accs n o) (sym (here_end ends n new)) new_calls))
        (λ o. subst (λ (e : Option End). NodeJoined w accs m e) (sym (there_end ends n new m o)) (joined.nodes m mfits))
        (same_or_not m n);
    fit = λ m i. ⊎_elim
        (λ (s : m ≡ n). subst (λ q. IsOfEnd (with_end ends n new q) (accs q i)) (sym s)
        (subst (λ (o : Option End). IsOfEnd o (accs n i)) (sym (here_end ends n new)) (new_fits i)))
        (λ o. subst (λ (e : Option End). IsOfEnd e (accs m i)) (sym (there_end ends n new m o)) (joined.fit m i))
        (same_or_not m n);
    up = joined.up;
    moves = joined.moves;
    run = joined.run;
  }

  -- it has no mates yet
  new_births : (told : World) → BirthsJoined told ends w → BirthsJoined told (with_end ends n new) w
  new_births told h = record {
    count = h.count;
    birth = h.birth;
    mate = λ m s mfits fits. ⊎_elim
        (λ (p : m ≡ n). subst (λ q. MateJoined w q s (with_end ends n new q)) (sym p)
        (subst (λ (o : Option End). MateJoined w n s o) (sym (here_end ends n new)) (no_mate s fits (h.mate n s lt fits))))
        (λ o. subst (λ (q : Option End). MateJoined w m s q) (sym (there_end ends n new m o)) (h.mate m s mfits fits))
        (same_or_not m n);
  }
    where
      none_known : (r : Role) (known : ℕ) → known ≡ 0 → 0 ≡ mate_of r known
      none_known Lac known none = refl
      none_known Lns known none = sym none

      no_mate : (s : ℕ) → s < 65536 → MateJoined w n s (ends n) → MateJoined w n s (Some new)
      no_mate s fits had =
          let nothing : MateJoined w n s None = subst (λ (o : Option End). MateJoined w n s o) none had in
          nothing.0 ∙ none_known role (w.calls.remote (name n s)) nothing.1

-- ---- lines

-- what holds of a run after some number of letters
pub record RunOk (r : Run) : Type 0 where
  pub most : ℕ
  pub few : most + 8192 < 2 ^ 64
  pub holds : HoldsAt most r
  pub follows : Joins (account_of r.done) (ends_of r.world.nodes) r.world r.done

-- the births after the moves of a line are those of the world that it leaves
step_told : (w : World) (accs : Accounts) (number : ℕ) (x : Lined) (s : LineSteps w accs number x)
    → BirthsStay (moved_all s.node (plain_step s.old.end s.moment s.block s.ev).moves s.begun) x.world
step_told w accs number x s = subst (λ (v : World). BirthsStay v x.world) s.told_is s.births

-- what a line leaves
record LineJoins (accs : Accounts) (w : World) (ds : List Deed) (x : Lined) : Type 0 where
  joins : Joins (afterwards accs x.done) (ends_of x.world.nodes) x.world (ds ++ x.done)
  count : x.world.born ≤ w.born + 65536

module _ (keep : MovesKeep) (follow : MovesFollow) where
  line_follows : (w : World) (accs : Accounts) → Holds w accs → (number : ℕ) (x : Lined) (mw : machine.World) → AreJoined accs (ends_of w.nodes) mw
      → BirthsJoined w (ends_of w.nodes) mw → w.born + 65536 < 2 ^ 64 - 1 → (ds : List Deed) → RepliesJoined mw ds → LineDoes w accs number x
      → LineJoins accs w ds x
  unfolding account_from
  line_follows w accs holds number x mw joined births room ds replies (Nothing none same born) =
      let there : (m : ℕ) → ends_of w.nodes m ≡ ends_of x.world.nodes m = λ m. ap (λ (ns : List (ℕ × Node)). ends_of ns m) (sym same) in
      record {
        joins = rw none (record {
          world = mw;
          joined = same_ends accs (ends_of w.nodes) (ends_of x.world.nodes) mw there joined;
          births = births_ended x.world (ends_of w.nodes) (ends_of x.world.nodes) mw there (births_told w x.world (ends_of w.nodes) mw born births);
          replies = subst (λ qs. RepliesJoined mw qs) (sym (append-nil ds)) replies;
        });
        count = rw born.count (omega arith);
      }
  line_follows w accs holds number x mw joined births room ds replies (ANode n role lns secret hide lt free none same born) =
      let new : Node = new_node number n role lns secret hide in
      let there : (m : ℕ) → with_end (ends_of w.nodes) n new.end m ≡ ends_of x.world.nodes m = λ m. ⊎_elim
      (λ (s : m ≡ n). subst (λ q. with_end (ends_of w.nodes) n new.end q ≡ ends_of x.world.nodes q) (sym s)
      (here_end (ends_of w.nodes) n new.end
      ∙ sym (ap (λ (ns : List (ℕ × Node)). ends_of ns n) same ∙ ap (λ (o : Option Node). option_map (λ (node : Node). node.end) o) (at_new w.nodes n new))))
      (λ o. there_end (ends_of w.nodes) n new.end m o
      ∙ sym (ap (λ (ns : List (ℕ × Node)). ends_of ns m) same
      ∙ ap (λ (q : Option Node). option_map (λ (node : Node). node.end) q) (at_other w.nodes n new m o)))
      (same_or_not m n) in
      let is_none : ends_of w.nodes n ≡ None = ap (λ (o : Option Node). option_map (λ (node : Node). node.end) o) free in
      let grown = with_end (ends_of w.nodes) n new.end in
      record {
        joins = rw none (record {
          world = mw;
          joined = same_ends accs grown (ends_of x.world.nodes) mw there (new_joined accs (ends_of w.nodes) mw joined n lt role lns secret hide is_none);
          births = births_ended x.world grown (ends_of x.world.nodes) mw there
              (births_told w x.world grown mw born (new_births accs (ends_of w.nodes) mw joined n lt role lns secret hide is_none w births));
          replies = subst (λ qs. RepliesJoined mw qs) (sym (append-nil ds)) replies;
        });
        count = rw born.count (omega arith);
      }
  line_follows w accs holds number x mw joined births room ds replies (AStep s) =
      let here : ends_of w.nodes s.node ≡ Some s.old.end = ap (λ (o : Option Node). option_map (λ (node : Node). node.end) o) s.was in
      let ok : EndOk accs s.node s.old.end = (let k : NodeOk accs s.node (Some s.old) = subst (NodeOk accs s.node) s.was (holds.nodes s.node) in k.0) in
      let same = s.begins.count in
      let begun = births_told w s.begun (ends_of w.nodes) mw s.begins births in
      let c = chain_follows keep follow _ _ accs (ends_of w.nodes) mw s.node ok.node s.old.end _ s.sender s.moment s.ev s.moves here joined
      s.begun s.declared.0 s.declared.1 begun (omega (arith, room)) ds replies in
      let last = with_end (ends_of w.nodes) s.node _ in
      let there : (m : ℕ) → last m ≡ ends_of x.world.nodes m = λ m. ⊎_elim
      (λ (e : m ≡ s.node). subst (λ q. last q ≡ ends_of x.world.nodes q) (sym e) (here_end (ends_of w.nodes) s.node _ ∙ sym s.end))
      (λ o. there_end (ends_of w.nodes) s.node _ m o ∙ sym (s.others m o))
      (same_or_not m s.node) in
      let told = step_told w accs number x s in
      let most = most_sessions _ last c.joins.world c.joins.joined s.node ok.node _ (here_end (ends_of w.nodes) s.node _) in
      record {
        joins = rw s.done (record {
          world = c.joins.world;
          joined = same_ends _ last (ends_of x.world.nodes) c.joins.world there c.joins.joined;
          births = births_ended x.world last (ends_of x.world.nodes) c.joins.world there
              (births_told _ x.world last c.joins.world told c.joins.births);
          replies = c.joins.replies;
        });
        count = (let count = c.count in let after = told.count in omega arith);
      }

  -- a frame that is handed up before that is no reply
  line_hands : (w : World) (accs : Accounts) → Holds w accs → (number : ℕ) (x : Lined) (mw : machine.World) → AreJoined accs (ends_of w.nodes) mw
      → BirthsJoined w (ends_of w.nodes) mw → w.born + 65536 < 2 ^ 64 - 1 → (ds : List Deed) → RepliesJoined mw ds → LineHands w accs number x
      → LineJoins accs w ds x
  line_hands w accs holds number x mw joined births room ds replies (ByItself d) = line_follows w accs holds number x mw joined births room ds replies d
  line_hands w accs holds number x mw joined births room ds replies (BehindHand y n r f is d) =
      let one = hand_deed number n r f in
      let more : RepliesJoined mw (ds ++ one ∷ []) =
      all_push (λ (q : Deed). (m : Replied) → q.move ≡ move.Replied m → ReplyJoined mw q.node m) ds one replies (λ m e. absurd (cc)) in
      let j = line_follows w accs holds number y mw joined births room (ds ++ one ∷ []) more d in
      subst (LineJoins accs w ds) (sym is) (record {
        joins = subst (λ qs. Joins (afterwards accs (one ∷ y.done)) (ends_of y.world.nodes) y.world qs) (append_assoc ds (one ∷ []) y.done)
            (subst (λ (a : Accounts). Joins a (ends_of y.world.nodes) y.world ((ds ++ one ∷ []) ++ y.done)) (sym (behind_accounts accs number n r f y.done)) j.joins);
        count = j.count;
      })

  -- ---- runs

  -- a run goes on where a line fits, and stays where it doesn't
  where_it_fits : (P : Run → Type 0) (rest : Run → Run) (r : Run) (number : ℕ) (x : Result Lined Refusal)
      → ((fault : Option (ℕ × Refusal)) → P (record r { fault = fault })) → ((l : Lined) → x ≡ Ok l → P (rest (after_line r l)))
      → P (goes_on rest r number x)
  unfolding goes_on
  where_it_fits P rest r number (Err w) stops more = stops (Some (number, w))
  where_it_fits P rest r number (Ok l) stops more = more l refl

  module _ (lines_go_on : LinesGoOn) where
    pub ended_from : (number : ℕ) (lines : List Line) (r : Run) (most : ℕ) → AreLines lines → AreCalm lines → HoldsAt most r
        → Joins (account_of r.done) (ends_of r.world.nodes) r.world r.done → most + 16384 * length lines + 24576 < 2 ^ 64
        → r.world.born + 65536 * length lines + 65536 < 2 ^ 64 - 1 → RunOk (run_from number lines r)
    unfolding run_from
    ended_from number [] r most fits calm holds follows room few = record { most = most; few = omega (arith, room); holds = holds; follows = follows }
    ended_from number (l ∷ ls) r most fits calm holds follows room few =
        where_it_fits RunOk _ r number (line r.world number l)
        (λ fault. record {
          most = most;
          few = omega (arith, room);
          holds = record { holds = holds.holds; given = holds.given; calm = holds.calm };
          follows = record { world = follows.world; joined = follows.joined; births = follows.births; replies = follows.replies };
        })
        (λ x is.
        let k = lines_go_on most number r holds (omega (arith, room)) l fits.0 calm.0 x is in
        let f = line_hands r.world (account_of r.done) holds.holds number x follows.world follows.joined follows.births (omega (arith, few)) r.done follows.replies k.does in
        let count = f.count in
        ended_from (number + 1) ls (after_line r x) (most + 16384) fits.1 calm.1 k.after
        (subst (λ (accs : Accounts). Joins accs (ends_of x.world.nodes) x.world (r.done ++ x.done)) (accounts_more r.done x.done) f.joins) (omega (arith, room))
        (omega (arith, few)))

-- ---- at first nothing is there

nothing_known : (n i : ℕ) → account_of [] n i ≡ no_account
unfolding account_from
nothing_known n i = refl

no_ends : (n : ℕ) → ends_of [] n ≡ None
no_ends n = ap (λ (o : Option Node). option_map (λ (node : Node). node.end) o) (at-none n)

no_births : (n s : ℕ) → 0 ≡ birth_of empty_run.world n s
unfolding birth_of
no_births n s = sym (ap (λ (o : Option Node). birth_in o s) (at-none n))

pub at_first : Joins (account_of empty_run.done) (ends_of empty_run.world.nodes) empty_run.world empty_run.done
unfolding moves.goes_on
at_first = record {
  world = machine.empty_world;
  replies = tt;
  births = record {
    count = refl;
    birth = λ n s a b. no_births n s;
    mate = λ n s a b. subst (λ (o : Option End). MateJoined machine.empty_world n s o) (sym (no_ends n)) (refl, refl);
  };
  joined = record {
    tunnels = λ n i a b.
        subst (λ (o : Option End). TunnelJoined machine.empty_world n i (account_of [] n i) (tunnel_in o i)) (sym (no_ends n))
        (subst (λ (q : Account). TunnelJoined machine.empty_world n i q None) (sym (nothing_known n i)) (record {
          drawn = refl;
          opener = refl;
          node = λ made. absurd (made refl);
          peer = λ made. absurd (made refl);
          learned = refl;
          phase = refl;
          entered = refl;
          sent = refl;
          taken = refl;
          refused = refl;
          asks = λ z. refl;
        }));
    nodes = λ n a. subst (λ (o : Option End). NodeJoined machine.empty_world (account_of []) n o) (sym (no_ends n)) (λ s fits. (refl, refl));
    fit = λ n i. subst (λ (o : Option End). IsOfEnd o (account_of [] n i)) (sym (no_ends n)) (nothing_known n i);
    up = λ n. refl;
    moves = [];
    run = refl;
  };
}
