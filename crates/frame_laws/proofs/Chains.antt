-- What the moves of a step leave.
use Rattle.std.proofs.Common.{◌≡◌, inr, ⊎_elim, ℕ, ◌<◌, Bool, true, List, [], ◌∷◌, ◌++◌, length, refl, ap, ◌∙◌, subst, sym, None, arith}
use Rattle.std.specs.List.{AllByRecursion}
use Rattle.id_table.specs.Ids.{at}
use Rattle.end_model.specs.declared.event.Event.{Event}
use Rattle.end_model.specs.declared.moves.FrameSent.{FrameSent}
use Rattle.end_model.specs.declared.moves.Move.{Move}
use Rattle.end_model.specs.declared.moves.Move.TheVariants as move
use Rattle.end_names.specs.declared.role.Role.TheVariants.{Lac}
use Rattle.end_names.specs.Names.{node_of, calling_number}
use Rattle.end_model.specs.End.{End}
use Rattle.world_model.specs.World.{World, Node, moved, moved_all}
use Rattle.step_laws.specs.Letters.{Among}
use Rattle.step_laws.specs.Moves.{SendsFrame, Does, Chain}
use Rattle.frame_laws.proofs.Facts.{Nodes, Grows, Mates, grows_on, mates_later, same_nodes}
use Rattle.step_laws.specs.Steps.{IsOfNoStart}
use Rattle.frame_laws.specs.Unrecovered.{IsMain, is_main}
use Rattle.frame_laws.proofs.Leads.{Heard, heard_later, heard_asks, At, Leads}
use Rattle.frame_laws.proofs.Alike.{like_self, like_then}
use Rattle.frame_laws.proofs.EachMove.{Founded, all_later, none_recovers, does_led}

-- a move keeps the end's role
pub does_role : (moment : ℕ) (ev : Event) (x : End) (m : Move) (y : End) → Does x moment ev m y → y.role ≡ x.role
does_role moment ev x (move.Opened m) y h = ap (λ (e : End). e.role) h.after
does_role moment ev x (move.Accepted m) y h = ap (λ (e : End). e.role) h.after
does_role moment ev x (move.Connected m) y h = ap (λ (e : End). e.role) h.after
does_role moment ev x (move.Confirmed m) y h = ap (λ (e : End). e.role) h.after
does_role moment ev x (move.Added m) y h = ap (λ (e : End). e.role) h.after
does_role moment ev x (move.Requested m) y h = ap (λ (e : End). e.role) h.after
does_role moment ev x (move.Replied m) y h = ap (λ (e : End). e.role) h.after
does_role moment ev x (move.FirstUp m) y h = ap (λ (e : End). e.role) h.after
does_role moment ev x (move.SecondUp m) y h = ap (λ (e : End). e.role) h.after
does_role moment ev x (move.Refused m) y h = ap (λ (e : End). e.role) h.after
does_role moment ev x (move.EndTold m) y h = ap (λ (e : End). e.role) h.after
does_role moment ev x (move.EndHeard m) y h = ap (λ (e : End). e.role) h.after
does_role moment ev x (move.EndSilent m) y h = ap (λ (e : End). e.role) h.after
does_role moment ev x (move.Declined m) y h = ap (λ (e : End). e.role) h.after
does_role moment ev x (move.Closed m) y h = ap (λ (e : End). e.role) h.after
does_role moment ev x (move.Rejected m) y h = ap (λ (e : End). e.role) h.after
does_role moment ev x (move.ClosedBy m) y h = ap (λ (e : End). e.role) h.after
does_role moment ev x (move.Cleared i booked) y h = ap (λ (e : End). e.role) h.after
does_role moment ev x (move.Greeted m) y h = ap (λ (e : End). e.role) h.after
does_role moment ev x (move.TookPlain m) y h = ap (λ (e : End). e.role) h.after
does_role moment ev x (move.NrRead m) y h = ap (λ (e : End). e.role) h.after
does_role moment ev x (move.LetGo m) y h = ap (λ (e : End). e.role) h.after
does_role moment ev x (move.Repeated m) y h = ap (λ (e : End). e.role) h.after
does_role moment ev x (move.Quiet i) y h = ap (λ (e : End). e.role) h.after
does_role moment ev x (move.Negotiated m) y h = ap (λ (e : End). e.role) h.after
does_role moment ev x (move.Counted m) y h = ap (λ (e : End). e.role) h.after
does_role moment ev x (move.FrameSent m) y h = ap (λ (e : End). e.role) h.after
does_role moment ev x (move.FrameUp m) y h = ap (λ (e : End). e.role) h.after
does_role moment ev x (move.Restored m) y h = ap (λ (e : End). e.role) h.after
does_role moment ev x (move.Forgot m) y h = ap (λ (e : End). e.role) h.after
does_role moment ev x (move.Froze m) y h = ap (λ (e : End). e.role) h.after
does_role moment ev x (move.ResetAttempting m) y h = ap (λ (e : End). e.role) h.after
does_role moment ev x (move.ResetAnswering m) y h = ap (λ (e : End). e.role) h.after
does_role moment ev x (move.Queried m) y h = ap (λ (e : End). e.role) h.after
does_role moment ev x (move.AnsweredQuery m) y h = ap (λ (e : End). e.role) h.after
does_role moment ev x (move.TookAnswer m) y h = ap (λ (e : End). e.role) h.after
does_role moment ev x (move.RecoveryWentOn i) y h = ap (λ (e : End). e.role) h.after
does_role moment ev x (move.RecoveryEnded i) y h = ap (λ (e : End). e.role) h.after
does_role moment ev x (move.Ignored i) y h = ap (λ (e : End). e.role) h.after

pub same_role : (moment : ℕ) (ev : Event) (x y : End) (ms : List Move) → Chain moment ev x ms y → y.role ≡ x.role
same_role moment ev x y [] h = ap (λ (e : End). e.role) (sym h)
same_role moment ev x y (m ∷ ms) h = same_role moment ev h.0 y ms h.2 ∙ does_role moment ev x m h.0 h.1

-- the moves of a chain and those behind them
pub moved_more : (n : ℕ) (ms ns : List Move) (w : World) → moved_all n (ms ++ ns) w ≡ moved_all n ns (moved_all n ms w)
unfolding moved_all
moved_more n [] ns w = refl
moved_more n (m ∷ ms) ns w = moved_more n ms ns (moved n w m)

module _ (calm : Bool) (digits : (who : List ℕ) → length (calling_number who) ≡ 12) (n : ℕ) (z : Node) (moment : ℕ) (ev : Event) where
  pub record Ran (v w : World) (x y : End) : Type 0 where
    pub at_end : At calm n z w y
    pub grows : Leads n v w x y

  leads_on : (u v w : World) (x y e : End) → Leads n u v x y → Leads n v w y e → Leads n u w x e
  leads_on u v w x y e g h = record {
    grows = grows_on u.nodes v.nodes w.nodes g.grows h.grows;
    others = λ m o. like_then (at u.nodes m) (at v.nodes m) (at w.nodes m) (g.others m o) (h.others m o);
    olds = λ m s b k lt. g.olds m s b (h.olds m s b k (λ same. (let low = lt same in let up = g.rises in omega (arith, low, up)))) lt;
    backs = λ m r k. g.backs m r (h.backs m r k);
    packets = h.packets ∙ g.packets;
    born = (let a = g.born in let b = h.born in omega arith);
    rises = (let a = g.rises in let b = h.rises in omega arith);
    climbs = (let a = g.climbs in let b = h.climbs in omega arith);
    counted = λ room had. h.counted (let a = g.born in omega (arith, room)) (g.counted room had);
  }

  -- where nothing is recovered, a move of a step isn't one of a recovery
  abbrev pub AreMain : List Move → Type 0
  AreMain ms = calm ≡ true → AllByRecursion IsOfNoStart ms

  main_here : (v : World) (x y : End) → At calm n z v x → Heard calm v.nodes n ev → (m : Move) → (calm ≡ true → IsOfNoStart m)
      → Does x moment ev m y → calm ≡ true → IsMain m
  main_here v x y here heard m start does still =
      is_main x (none_recovers calm digits n z v x here ev heard still) moment ev (heard_asks calm v.nodes n ev heard still) m
      (start still) y does

  abbrev pub FoundedAt : World → End → List Move → Type 0
  FoundedAt v x ms = AllByRecursion (Founded v.nodes n x.tunnel_ids.next x.session_ids.next) ms

  pub founded_then : (v w : World) (x y : End) → Leads n v w x y → (ms : List Move) → FoundedAt v x ms → FoundedAt w y ms
  founded_then v w x y l ms h =
      all_later v.nodes w.nodes l.grows n x.tunnel_ids.next y.tunnel_ids.next x.session_ids.next y.session_ids.next l.climbs l.rises ms h

  pub ran : (v : World) (x y : End) → At calm n z v x → Heard calm v.nodes n ev → (ms : List Move) → AreMain ms → FoundedAt v x ms
      → Chain moment ev x ms y → Ran v (moved_all n ms v) x y
  unfolding moved_all
  ran v x y here heard [] starts founded h = subst (λ e. Ran v v x e) h (record {
    at_end = here;
    grows = record {
      grows = same_nodes v.nodes;
      others = λ q o. like_self (at v.nodes q);
      olds = λ q s b k lt. k;
      backs = λ q r k. k;
      packets = refl;
      born = omega arith;
      rises = omega arith;
      climbs = omega arith;
      counted = λ room had. had;
    };
  })
  ran v x y here heard (m ∷ ms) starts founded h =
      let led = does_led calm digits n z v x here ev heard moment m
      (main_here v x h.0 here heard m (λ still. (starts still).0) h.1) founded.0 h.0 h.1 in
      let w = moved n v m in
      let r = ran w h.0 y led.at_end (heard_later calm v.nodes w.nodes led.leads.grows n ev heard) ms (λ still. (starts still).1)
      (founded_then v w x h.0 led.leads ms founded.1) h.2 in
      record { at_end = r.at_end; grows = leads_on v w (moved_all n ms w) x h.0 y led.leads r.grows }

  -- nor is any of its moves
  pub all_main : (v : World) (x y : End) → At calm n z v x → Heard calm v.nodes n ev → (ms : List Move) → AreMain ms → FoundedAt v x ms
      → Chain moment ev x ms y → calm ≡ true → AllByRecursion IsMain ms
  all_main v x y here heard [] starts founded h still = tt
  all_main v x y here heard (m ∷ ms) starts founded h still =
      let main = main_here v x h.0 here heard m (λ calm_so. (starts calm_so).0) h.1 in
      let led = does_led calm digits n z v x here ev heard moment m main founded.0 h.0 h.1 in
      let w = moved n v m in (
        main still,
        all_main w h.0 y led.at_end (heard_later calm v.nodes w.nodes led.leads.grows n ev heard) ms (λ calm_so. (starts calm_so).1)
            (founded_then v w x h.0 led.leads ms founded.1) h.2 still,
      )

  -- a frame that moves send: the end as it stands then, and the two sessions, which are mates in the nodes that all the moves lead to
  pub record SentThen (ns : Nodes) (x : End) (ms : List Move) (f : FrameSent) : Type 0 where
    pub first : List Move
    pub rest : List Move
    pub moves : ms ≡ first ++ move.FrameSent f ∷ rest
    pub end : End
    pub leads : Chain moment ev x first end
    pub next : End
    pub does : SendsFrame end moment ev f next
    pub mates : Mates ns n f.session (node_of f.peer) f.remote
    pub fits : f.remote < 65536
    -- a LAC's call has no link
    pub link : end.role ≡ Lac → does.call.link ≡ None

  sent_first : (v : World) (x y : End) → At calm n z v x → (ns : Nodes) → Grows v.nodes ns → (f : FrameSent) (ms : List Move)
      → SendsFrame x moment ev f y
      → SentThen ns x (move.FrameSent f ∷ ms) f
  sent_first v x y here ns grows f ms h =
      let k = (here.end.tunnels f.tunnel h.tunnel h.there).calls f.session h.call h.calls in
      let mates : Mates v.nodes n f.session (node_of f.peer) f.remote = rw (h.peer, h.remote) (k.mate (inr h.up)) in
      record {
        first = [];
        rest = ms;
        moves = refl;
        end = x;
        leads = refl;
        next = y;
        does = h;
        mates = mates_later v.nodes ns grows n f.session (node_of f.peer) f.remote mates;
        fits = rw h.remote k.remote;
        link = k.link;
      }

  sent_later : (ns : Nodes) (x y : End) (m : Move) (ms : List Move) (f : FrameSent) → Does x moment ev m y → SentThen ns y ms f
      → SentThen ns x (m ∷ ms) f
  sent_later ns x y m ms f does h = record {
    first = m ∷ h.first;
    rest = h.rest;
    moves = ap (λ qs. m ∷ qs) h.moves;
    end = h.end;
    leads = (y, does, h.leads);
    next = h.next;
    does = h.does;
    mates = h.mates;
    fits = h.fits;
    link = h.link;
  }

  pub sent_then : (v : World) (x y : End) → At calm n z v x → Heard calm v.nodes n ev → (ms : List Move) → AreMain ms → FoundedAt v x ms
      → Chain moment ev x ms y → (f : FrameSent) → Among (move.FrameSent f) ms → SentThen (moved_all n ms v).nodes x ms f
  unfolding moved_all
  sent_then v x y here heard [] starts founded h f a = absurd a
  sent_then v x y here heard (m ∷ ms) starts founded h f a =
      let led = does_led calm digits n z v x here ev heard moment m
      (main_here v x h.0 here heard m (λ still. (starts still).0) h.1) founded.0 h.0 h.1 in
      let next = moved n v m in
      let then_heard = heard_later calm v.nodes next.nodes led.leads.grows n ev heard in
      let later = founded_then v next x h.0 led.leads ms founded.1 in
      let r = ran next h.0 y led.at_end then_heard ms (λ still. (starts still).1) later h.2 in
      let ns = (moved_all n ms next).nodes in
      ⊎_elim
      (λ (e : m ≡ move.FrameSent f). subst (λ q. SentThen ns x (q ∷ ms) f) (sym e)
      (sent_first v x h.0 here ns (grows_on v.nodes next.nodes ns led.leads.grows r.grows.grows) f ms
      (subst (λ q. Does x moment ev q h.0) e h.1)))
      (λ b. sent_later ns x h.0 m ms f h.1 (sent_then next h.0 y led.at_end then_heard ms (λ still. (starts still).1) later h.2 f b))
      a
