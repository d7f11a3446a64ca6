-- An opening is declined, which the machine's opener is told; where it is the SCCRQ of an attempt, the machine does nothing.
use Rattle.std.proofs.Common.{◌≡◌, ⊎_elim, ℕ, ◌<◌, true, refl, sym, ap, ◌∙◌, subst, Option, Some, None}
use Rattle.std.proofs.lemmas.Option.{none-some}
use Rattle.std.specs.Prelude.{is_some}
use Rattle.id_table.specs.Ids.{at}
use Rattle.id_table.specs.Order.{same_or_not}
use Rattle.session_book.specs.Books.{Kept, tunnel_at}
use Rattle.end_names.specs.Names.{address_of, node_of}
use Rattle.end_model.specs.declared.event.Event.{Event}
use Rattle.end_model.specs.declared.moves.Declined.{Declined}
use Rattle.end_model.specs.declared.moves.Restored.{Restored}
use Rattle.end_model.specs.declared.moves.Move.{Move}
use Rattle.end_model.specs.declared.moves.Move.TheVariants as move
use Rattle.end_model.specs.End.{End}
use Rattle.world_model.specs.World.{World, Node, Sender, Deed, moved}
use Rattle.book_laws.specs.Books.{Mirrors}
use Rattle.frame_laws.specs.Codecs.{Codecs}
use Rattle.epoch_machine.specs.Worlds as machine
use Rattle.epoch_machine.specs.Moves.{Refuses}
use Rattle.session_laws.specs.Names.{name}
use Rattle.channel_laws.specs.Accounts.{Part, Unmade, Opener, Acceptor, Renewed, Account, History, declined_by, after}
use Rattle.channel_laws.specs.Facts.{IsMade, NodeOk}
use Rattle.channel_laws.specs.Recoveries.{WrittenIsRead, WrittenHasRoom}
use Rattle.channel_laws.specs.Steps.{with_end, moves_on}
use Rattle.channel_laws.proofs.Declining as declining
use Rattle.channel_laws.proofs.Refusing.{IsDeclinedFor, declined_for}
use Rattle.recovery_laws.specs.Queries.{QueriesJoined}
use Rattle.recovery_laws.specs.Joined.{phase_in, is_opener, TunnelJoined, CallsJoined, NodeJoined, live_in, kept_in, AreJoined}
use Rattle.join_laws.specs.Steps as steps
use Rattle.join_laws.specs.Steps.{with_book, Follows, Joins}
use Rattle.join_laws.proofs.Ahead.{behind, was}
use Rattle.join_laws.proofs.Asks.{asks_on, one_asked}
use Rattle.join_laws.proofs.Books.{booked, same_tunnels}
use Rattle.join_laws.proofs.Bounds.{fit_bounded}
use Rattle.join_laws.proofs.Calls.{call_in, like_same, sessions_joined, unchanged}
use Rattle.join_laws.proofs.Finish.{Went, went_one, follows}
use Rattle.join_laws.proofs.Made as made
use Rattle.join_laws.proofs.Still.{Same, still_joined, still_follows}
use Rattle.closing_join_laws.proofs.Refused.{refused, refuses_it, refuses_node, Alike, alike_same, Refusal, refused_joined}

module _ (codecs : Codecs) (again : WrittenIsRead) (room : WrittenHasRoom) (w : World) (h : History) (n : ℕ) (node : Node)
    (sender : Option Sender)
    (moment : ℕ) (ev : Event) (m : Declined) (x : End) (d : Deed) (k : Kept) (j : machine.World)
    (q : steps.IsMade w h n node sender moment ev (move.Declined m) x d k j) (b : Kept) (mirrors : Mirrors x b) where
  abbrev mv : Move
  mv = move.Declined m

  abbrev p : ℕ
  p = node_of m.peer

  abbrev g : History
  g = after h d

  abbrev a : Account
  a = h.accounts (node_of m.peer) m.remote 0

  abbrev v : World
  v = with_book w n k

  abbrev u : World
  u = behind w n node x b

  is : d.move ≡ mv
  is = q.moved.deed.move_is

  same : moves_on w n node mv x ≡ with_end w n node x
  unfolding moved
  same = refl

  tunnels : x.tunnels ≡ node.end.tunnels
  tunnels = ap (λ (y : End). y.tunnels) q.moved.does.after

  ids : x.session_ids ≡ node.end.session_ids
  ids = ap (λ (y : End). y.session_ids) q.moved.does.after

  for_it : IsDeclinedFor h n m
  for_it = declined_for codecs again room w h q.moved.holds n node.end x sender ev q.moved.comes m q.moved.does

  -- ---- an opener's

  module _ (own : a.part ≡ Opener) (to : a.peer ≡ n) where
    abbrev S : ℕ
    S = name (node_of m.peer) m.remote

    abbrev z : machine.World
    z = refused j S

    made_there : IsMade a
    made_there unmade = let two : Opener ≡ Unmade = sym own ∙ unmade in cc

    fits : m.remote < 65536
    fits = (q.moved.holds.accounts p m.remote 0).id made_there

    told : TunnelJoined j v h p m.remote (live_in (at v.nodes p) m.remote) (kept_in (at v.nodes p) m.remote)
    told = q.joined.joined.tunnels p m.remote for_it.to fits

    now : g.accounts p m.remote 0 ≡ record a { declined = true }
    now = declining.declined_here h d m is ∙ ap (λ y. declined_by y a) own

    alike : (y f e : ℕ) → Alike (h.accounts y f e) (g.accounts y f e)
    alike y f e = ⊎_elim
        (λ (one : y ≡ p). ⊎_elim
        (λ (two : f ≡ m.remote). ⊎_elim
        (λ (three : e ≡ 0). rw (one, two, three) (subst (Alike a) (sym now)
        (record { part = refl; peer = refl; remote = refl; answer = refl; given = refl; taken = refl; closed = refl })))
        (λ other. by_other y f e (λ all. other all.2))
        (same_or_not e 0))
        (λ other. by_other y f e (λ all. other all.1))
        (same_or_not f m.remote))
        (λ other. by_other y f e (λ all. other all.0))
        (same_or_not y p)
      where
        by_other : (y f e : ℕ) → ((y ≡ node_of m.peer) × (f ≡ m.remote) × (e ≡ 0) → ⊥) → Alike (h.accounts y f e) (g.accounts y f e)
        by_other y f e other = alike_same (h.accounts y f e) (g.accounts y f e) (declining.others h d m is y f e other)

    refusal : Refusal v h g p m.remote
    refusal = record {
      node_fits = for_it.to;
      id_fits = fits;
      alike = alike;
      others = λ y f apart. ap (λ (c : Account). c.declined) (declining.others h d m is y f 0 (λ all. apart (all.0, all.1)));
      here = ap (λ (c : Account). c.declined) now;
      attempts = declining.attempts_same h d m is;
      answers = declining.answers_same h d m is;
    }

    went : Went ev n j z
    went = went_one ev n j z (Refuses S) (refuses_node j S ∙ (told.peer made_there ∙ to)) refl tt
        (refuses_it j S (told.opener ∙ ap is_opener own))

    phases : (f : ℕ) → phase_in n (at x.tunnels f) ≡ phase_in n (at node.end.tunnels f)
    phases f = ap (λ ts. phase_in n (at ts f)) tunnels

    kept : (f : ℕ) → is_some (tunnel_at b f) ≡ is_some (tunnel_at k f)
    kept f = ap (λ o. is_some o) (same_tunnels node.end x k b q.mirrors mirrors f (ap (λ ts. at ts f) tunnels))

    joined : AreJoined v g z → AreJoined u g z
    joined first = still_joined w g n node q.moved.there x k b z first phases kept
        (sessions_joined node x k b z z g g n
        (unchanged node x k b z z g g n q.mirrors mirrors (fit_bounded x q.fit) (λ f. refl) refl refl ids
        (λ s f. like_same _ _ (ap (λ ts. call_in (at ts f) s) tunnels)))
        calls)
      where
        calls : CallsJoined z g n (booked node k)
        calls =
            let c : NodeJoined z g n (Some (booked node k)) = subst (NodeJoined z g n) (was w n node q.moved.there x k b)
            (first.nodes n (made.node_fits w h n node sender moment ev mv x d k j q)) in
            c.1

    queries : QueriesJoined u g z
    queries = asks_on v u h g j z (record {
      peers = λ y f. (alike y f 0).peer;
      asks = λ y s. refl;
      held = λ y f s. refl;
      entered = λ y. refl;
      asked = one_asked w n node q.moved.there x k b 0 (λ f other. ap (λ ts. at ts f) tunnels)
          (λ r at_r current three. (r, sym (ap (λ ts. at ts 0) tunnels) ∙ at_r, current, three, refl));
    }) q.joined.queries

    refused_follows : Follows ev (with_book (moves_on w n node mv x) n b) (after h d) n j
    refused_follows = follows ev w h n node mv x d k b j z same went
        (λ js goes. joined (refused_joined v h g p m.remote j q.joined.joined refusal js goes)) queries q.joined.named

  -- ---- an attempt's

  module _ (r : Restored) (tried : h.attempts (node_of m.peer) m.remote ≡ Some r) where
    never_made : (o : Option Node) → NodeOk w h p o → IsMade a → ⊥
    never_made None ok made = none-some r (sym (ok.1.0 m.remote) ∙ tried)
    never_made (Some c) ok made = none-some r (sym (ok.0.ids.no_attempt m.remote made) ∙ tried)

    unmade : a.part ≡ Unmade
    unmade = by a.part refl
      where
        none : IsMade a → ⊥
        none = never_made (at w.nodes p) (q.moved.holds.nodes p)

        by : (c : Part) → a.part ≡ c → c ≡ Unmade
        by Unmade own = refl
        by Opener own = absurd (none (λ f. let two : Opener ≡ Unmade = sym own ∙ f in cc))
        by Acceptor own = absurd (none (λ f. let two : Acceptor ≡ Unmade = sym own ∙ f in cc))
        by Renewed own = absurd (none (λ f. let two : Renewed ≡ Unmade = sym own ∙ f in cc))

    here : g.accounts p m.remote 0 ≡ a
    here = declining.declined_here h d m is ∙ ap (λ y. declined_by y a) unmade

    accounts : (y f e : ℕ) → g.accounts y f e ≡ h.accounts y f e
    accounts y f e = ⊎_elim
        (λ (one : y ≡ p). ⊎_elim
        (λ (two : f ≡ m.remote). ⊎_elim
        (λ (three : e ≡ 0). rw (one, two, three) here)
        (λ other. declining.others h d m is y f e (λ all. other all.2))
        (same_or_not e 0))
        (λ other. declining.others h d m is y f e (λ all. other all.1))
        (same_or_not f m.remote))
        (λ other. declining.others h d m is y f e (λ all. other all.0))
        (same_or_not y p)

    history : after h d ≡ h
    history = λ i. record {
      accounts = λ y f e. accounts y f e i;
      attempts = λ y f. declining.attempts_same h d m is y f i;
      answers = λ y f. declining.answers_same h d m is y f i;
    }

    attempt_follows : Follows ev (with_book (moves_on w n node mv x) n b) (after h d) n j
    attempt_follows = still_follows w h n node sender moment ev mv x d k j q b mirrors same history ids 0 (Same tunnels)

  pub declined_follows : Follows ev (with_book (moves_on w n node mv x) n b) (after h d) n j
  declined_follows = ⊎_elim
      (λ (opener : (a.part ≡ Opener) × (a.peer ≡ n) × (m.nr ≡ 1)). refused_follows opener.0 opener.1)
      (λ (attempt : (r : Restored) × (h.attempts (node_of m.peer) m.remote ≡ Some r) × (r.tunnel.peer ≡ address_of n)).
      attempt_follows attempt.0 attempt.1)
      for_it.asked

pub declined_joins : Codecs → WrittenIsRead → WrittenHasRoom → (m : Declined) → Joins (move.Declined m)
declined_joins codecs again room m w h n node sender moment ev x d k j q b mirrors =
    declined_follows codecs again room w h n node sender moment ev m x d k j q b mirrors
