-- A tunnel comes back or is forgotten, and the links of the calls that come back are opened, as moves.
use Rattle.std.proofs.Common.{◌≡◌, ◌⊎◌, inl, inr, ⊎_elim, ℕ, ◌<◌, ◌≤◌, Bool, true, false, cond, List, [], ◌∷◌, ◌++◌, length, Some, None, Result, Ok, Err, refl, sym, ◌∙◌, ap, subst, arith}
use Rattle.std.specs.List.{AllByRecursion, flat_map}
use Rattle.id_table.specs.Ids.{at, put}
use Rattle.id_table.specs.Order.{Ascends, ascends-put, found_put}
use Rattle.id_source.specs.declared.IdError.{IdError}
use Rattle.id_source.specs.Spaces.{Space, takes_id, with_taken, after_id}
use Rattle.session_book.specs.declared.record.BookTunnel.{BookTunnel}
use Rattle.session_book.specs.declared.record.BookCall.{BookCall}
use Rattle.session_book.specs.Books.{Kept, calls_of}
use Rattle.end_model.specs.declared.tunnel.Call.{Call}
use Rattle.end_model.specs.declared.event.Event.{Event}
use Rattle.end_model.specs.declared.moves.Move.{Move}
use Rattle.end_model.specs.declared.moves.Move.TheVariants as move
use Rattle.tunnel_fsm.specs.Rows.{state_number}
use Rattle.call_fsm.specs.declared.table.CallState.TheVariants.{Established}
use Rattle.call_link.specs.Laws.{turn_at}
use Rattle.end_model.specs.Calls.{counted}
use Rattle.end_model.specs.Links.{with_link}
use Rattle.end_model.specs.Contents.{records_of}
use Rattle.end_model.specs.End.{End, Stepped, env_of}
use Rattle.end_model.specs.Starting.{can_recover, forgets, restored_by, restored}
use Rattle.end_model.specs.Tunnels.{Tunnel}
use Rattle.step_laws.specs.Moves.{Does, Chain}
use Rattle.step_laws.specs.Steps.{AreKept, IsChain, IsOfNoStart}
use Rattle.step_laws.proofs.Starts.{restored_step}
use Rattle.book_laws.specs.Starts.{AreUp, LacksIds}
use Rattle.book_laws.proofs.Lists.{put_there, all_to}
use Rattle.book_laws.proofs.Steps.{does_draw}
use Rattle.book_laws.proofs.Openings.{IsOfLink, link_no_start, link_leaves}
use Rattle.book_laws.proofs.Returning.{CallsRise}
use Rattle.book_laws.proofs.Restoring.{rise}

-- ---- one tunnel comes back, as a chain

-- what is so of calls that rise
rise_by : (P : ℕ → List BookCall → Type 0) (n : ℕ) (cs : List BookCall) → CallsRise n cs → ((m : ℕ) → Unit {0} → P m [])
    → ((m : ℕ) (c : BookCall) (ds : List BookCall) → (m < c.local) × P c.local ds → P m (c ∷ ds)) → P n cs
rise_by P n [] rise none more = none n tt
rise_by P n (c ∷ cs) rise none more = more n c cs (rise.0, rise_by P c.local cs rise.1 none more)

-- a tunnel comes back by a chain, where its calls rise
abbrev OneBack : (ℕ → List BookCall → Type 0) → Type 0
OneBack P =
    (e : End) → AreKept e → (moment : ℕ) (ev : Event) (block : List ℕ) (b : BookTunnel) (cs : List BookCall) → at e.tunnels b.local ≡ None
    → (b.local ≡ 0 → ⊥) → (n : ℕ) → P n cs → length cs ≤ 4096 → can_recover b ≡ true → (local draw : ℕ)
    → takes_id e.tunnel_ids ≡ Ok local → takes_id e.recovery_ids ≡ Ok draw → IsChain e moment ev (restored_by e (env_of e moment block) cs b (Ok local) (Ok draw))

one_back : (P : ℕ → List BookCall → Type 0) → OneBack P → ((m : ℕ) → Unit {0} → P m [])
    → ((m : ℕ) (c : BookCall) (ds : List BookCall) → (m < c.local) × P c.local ds → P m (c ∷ ds)) → OneBack CallsRise
one_back P back none more e kept moment ev block b cs new some n rise few can local draw drawn drew =
    back e kept moment ev block b cs new some n (rise_by P n cs rise none more) few can local draw drawn drew

pub restored_chain : OneBack CallsRise
restored_chain =
    one_back _ (λ e kept moment ev block b cs new some n rise few can local draw drawn drew.
    (restored_step e kept moment ev block b cs new some n rise few can local draw drawn drew).chain) (λ m so. so) (λ m c ds both. both)

-- ---- ids that are lacking

lacks_stay : (a b : Space) (x : IdError) → (b ≡ a) ⊎ (b ≡ after_id a) → takes_id a ≡ Err x → takes_id b ≡ Err x
lacks_stay a b x draws lacks = ⊎_elim
    (λ (same_space : b ≡ a). ap takes_id same_space ∙ lacks)
    (λ (drew : b ≡ after_id a). ap takes_id (drew ∙ ap (λ o. with_taken o a) lacks) ∙ lacks)
    draws

pub chain_lacks : (moment : ℕ) (ev : Event) (e x : End) (ms : List Move) → Chain moment ev e ms x → LacksIds e → LacksIds x
chain_lacks moment ev e x [] h lacks = subst LacksIds h lacks
chain_lacks moment ev e x (m ∷ ms) h lacks =
    let d = does_draw e h.0 moment ev m h.1 in
    chain_lacks moment ev h.0 x ms h.2 (⊎_elim
    (λ (l : (y : IdError) × (takes_id e.tunnel_ids ≡ Err y)). inl (l.0, lacks_stay e.tunnel_ids h.0.tunnel_ids l.0 d.tunnels l.1))
    (λ (l : (y : IdError) × (takes_id e.recovery_ids ≡ Err y)). inr (l.0, lacks_stay e.recovery_ids h.0.recovery_ids l.0 d.recoveries l.1))
    lacks)

pub chain_append : (moment : ℕ) (ev : Event) (e y x : End) (ms ns : List Move) → Chain moment ev e ms y → Chain moment ev y ns x → Chain moment ev e (ms ++ ns) x
chain_append moment ev e y x [] ns h g = subst (λ (z : End). Chain moment ev z ns x) (sym h) g
chain_append moment ev e y x (m ∷ ms) ns h g = (h.0, h.1, chain_append moment ev h.0 y x ms ns h.2 g)

-- ---- the moves of links

pub links_none : (ms : List Move) → AllByRecursion IsOfLink ms → AllByRecursion IsOfNoStart ms
links_none ms so = all_to IsOfLink IsOfNoStart link_no_start ms so

pub links_leave : (ms : List Move) → AllByRecursion IsOfLink ms → flat_map (λ m. records_of m) ms ≡ []
links_leave [] so = refl
links_leave (m ∷ ms) so = ap (λ rs. rs ++ flat_map (λ n. records_of n) ms) (link_leaves m so.0) ∙ links_leave ms so.1

-- a call that is put is established still
put_up : (e x : End) (i s : ℕ) (t : Tunnel) (c d : Call) → at e.tunnels i ≡ Some t → at t.calls s ≡ Some c → d.state ≡ c.state
    → x.tunnels ≡ put e.tunnels i (record t { calls = put t.calls s d }) → AreUp e → AreUp x
put_up e x i s t c d there live state is up n u found = ⊎_elim
    (λ (a : (n ≡ i) × (record t { calls = put t.calls s d } ≡ u)).
    let was = up i t there in
    subst (λ (v : Tunnel). (state_number v.control.state ≡ 3) × ((q : ℕ) (y : Call) → at v.calls q ≡ Some y → y.state ≡ Established)) a.1 (
      was.0,
      (λ q y g. ⊎_elim
          (λ (b : (q ≡ s) × (d ≡ y)). ap (λ (z : Call). z.state) (sym b.1) ∙ state ∙ was.1 s c live)
          (λ (b : (q ≡ s → ⊥) × (at t.calls q ≡ Some y)). was.1 q y b.1)
          (found_put t.calls s d q y g)),
    ))
    (λ (a : (n ≡ i → ⊥) × (at e.tunnels n ≡ Some u)). up n u a.1)
    (found_put e.tunnels i (record t { calls = put t.calls s d }) n u (subst (λ (ts : List (ℕ × Tunnel)). at ts n ≡ Some u) is found))

link_up : (moment : ℕ) (ev : Event) (e x : End) (m : Move) → IsOfLink m → Does e moment ev m x → AreUp e → AreUp x
link_up moment ev e x (move.Negotiated m) so h up =
    put_up e x m.tunnel m.session h.tunnel h.call (with_link (turn_at h.calls.by h.calls.link).link h.call) h.there h.live refl (ap (λ (y : End). y.tunnels) h.after) up
link_up moment ev e x (move.Counted m) so h up =
    put_up e x m.tunnel m.session h.tunnel h.call (counted h.call) h.there h.live refl (ap (λ (y : End). y.tunnels) h.after) up
link_up moment ev e x (move.FrameSent m) so h up = subst AreUp (sym h.after) up
link_up moment ev e x m so h up = absurd so

pub links_up : (moment : ℕ) (ev : Event) (e x : End) (ms : List Move) → AllByRecursion IsOfLink ms → Chain moment ev e ms x → AreUp e → AreUp x
links_up moment ev e x [] so h up = subst AreUp h up
links_up moment ev e x (m ∷ ms) so h up = links_up moment ev h.0 x ms so.1 h.2 (link_up moment ev e h.0 m so.0 h.1 up)

-- nor is there a tunnel more
abbrev FewOn : End → End → Type 0
FewOn e x = Ascends x.tunnels × (length x.tunnels ≤ length e.tunnels)

put_few : (e x : End) (i : ℕ) (t u : Tunnel) → at e.tunnels i ≡ Some t → x.tunnels ≡ put e.tunnels i u → Ascends e.tunnels → FewOn e x
put_few e x i t u there is order = (
  subst (λ (ts : List (ℕ × Tunnel)). Ascends ts) (sym is) (ascends-put i u e.tunnels order),
  (let long = ap (λ (ts : List (ℕ × Tunnel)). length ts) is ∙ put_there e.tunnels i u t order there in omega (arith, long)),
)

link_few : (moment : ℕ) (ev : Event) (e x : End) (m : Move) → IsOfLink m → Does e moment ev m x → Ascends e.tunnels → FewOn e x
link_few moment ev e x (move.Negotiated m) so h order = put_few e x m.tunnel h.tunnel _ h.there (ap (λ (y : End). y.tunnels) h.after) order
link_few moment ev e x (move.Counted m) so h order = put_few e x m.tunnel h.tunnel _ h.there (ap (λ (y : End). y.tunnels) h.after) order
link_few moment ev e x (move.FrameSent m) so h order = (
  subst (λ (y : End). Ascends y.tunnels) (sym h.after) order,
  (let long = ap (λ (y : End). length y.tunnels) h.after in omega (arith, long)),
)
link_few moment ev e x m so h order = absurd so

pub links_few : (moment : ℕ) (ev : Event) (e x : End) (ms : List Move) → AllByRecursion IsOfLink ms → Chain moment ev e ms x → Ascends e.tunnels
    → length x.tunnels ≤ length e.tunnels
links_few moment ev e x [] so h order = (let long = ap (λ (y : End). length y.tunnels) h in omega (arith, long))
links_few moment ev e x (m ∷ ms) so h order =
    let one = link_few moment ev e h.0 m so.0 h.1 order in
    let more = links_few moment ev h.0 x ms so.1 h.2 one.0 in
    let least = one.1 in
    omega (arith, least, more)

-- ---- one of the tunnels

-- a tunnel of the book is forgotten, or it comes back
pub data Outcome (e : End) (moment : ℕ) (block : List ℕ) (b : BookTunnel) (cs : List BookCall) (y : Stepped) : Type 0 where
  IsForgotten : (can_recover b ≡ false) ⊎ LacksIds e → y ≡ forgets e cs b → Outcome e moment block b cs y
  IsBack : can_recover b ≡ true → (local draw : ℕ) → takes_id e.tunnel_ids ≡ Ok local → takes_id e.recovery_ids ≡ Ok draw
      → y ≡ restored_by e (env_of e moment block) cs b (Ok local) (Ok draw) → Outcome e moment block b cs y

by_ids : (e : End) (moment : ℕ) (block : List ℕ) (b : BookTunnel) (cs : List BookCall) → can_recover b ≡ true → (p q : Result ℕ IdError)
    → takes_id e.tunnel_ids ≡ p → takes_id e.recovery_ids ≡ q → Outcome e moment block b cs (restored_by e (env_of e moment block) cs b p q)
unfolding restored_by
by_ids e moment block b cs can (Err x) q drawn drew = IsForgotten (inr (inl (x, drawn))) refl
by_ids e moment block b cs can (Ok local) (Err x) drawn drew = IsForgotten (inr (inr (x, drew))) refl
by_ids e moment block b cs can (Ok local) (Ok draw) drawn drew = IsBack can local draw drawn drew refl

pub outcome : (k : Kept) (e : End) (moment : ℕ) (block : List ℕ) (b : BookTunnel)
    → Outcome e moment block b (calls_of b.local k.calls) (restored k e (env_of e moment block) b)
unfolding restored
outcome k e moment block b = by (can_recover b) refl
  where
    cs : List BookCall
    cs = calls_of b.local k.calls

    by : (c : Bool) → can_recover b ≡ c
        → Outcome e moment block b cs (cond c (restored_by e (env_of e moment block) cs b (takes_id e.tunnel_ids) (takes_id e.recovery_ids)) (forgets e cs b))
    by true can = by_ids e moment block b cs can (takes_id e.tunnel_ids) (takes_id e.recovery_ids) refl refl
    by false cannot = IsForgotten (inl cannot) refl
