-- A tunnel that is in a later epoch is closed, or takes a letter once it is; and what its other end acknowledges goes.
use Rattle.std.proofs.Common.{◌≡◌, ◌⊎◌, inl, inr, ⊎_elim, ℕ, ◌+◌, ◌<◌, ◌≤◌, true, List, [], ◌∷◌, ◌++◌, length, map, drop, refl, sym, ap, ap₂, ◌∙◌, subst, Option, Some, None, arith, append-nil}
use Rattle.std.proofs.lemmas.Bool.{ltb-true}
use Rattle.std.proofs.lemmas.List.{length-append, drop-append-le, map-append}
use Rattle.std.proofs.lemmas.Option.{none-some, slice_get_within}
use Rattle.std.specs.Prelude.{slice_get, unwrap_or, min, ◌^◌, ◌-◌}
use Rattle.std.specs.List.{AllByRecursion}
use Rattle.wire_base.specs.declared.letter.Letter as wire
use Rattle.id_table.specs.Ids.{at, put, at-none}
use Rattle.id_source.specs.Spaces.{after_id}
use Rattle.control_message.specs.declared.message.Message.TheVariants.{StopCcn}
use Rattle.send_window.specs.Window.{count_acked, without_first}
use Rattle.recv_window.specs.Window.{ClassIsTrue}
use Rattle.tunnel_fsm.specs.Rows.{state_number}
use Rattle.tunnel_fsm.specs.declared.table.TunnelEvent.{TunnelEvent}
use Rattle.tunnel_fsm.specs.declared.table.TunnelState.TheVariants as state
use Rattle.end_model.specs.declared.event.Event.{Event}
use Rattle.end_model.specs.declared.moves.Added.{Added}
use Rattle.end_model.specs.declared.moves.TookPlain.{TookPlain}
use Rattle.end_model.specs.declared.moves.NrRead.{NrRead}
use Rattle.end_model.specs.declared.moves.Closed.{Closed}
use Rattle.end_model.specs.declared.moves.ClosedBy.{ClosedBy}
use Rattle.end_model.specs.declared.moves.Move.{Move}
use Rattle.end_model.specs.declared.moves.Move.TheVariants as move
use Rattle.end_model.specs.declared.tunnel.Call.{Call}
use Rattle.end_model.specs.Calls.{advanced, rung}
use Rattle.end_model.specs.Channels.{counts_taken, counts_acked}
use Rattle.end_model.specs.Tunnels.{Tunnel, mode_of, is_current}
use Rattle.end_model.specs.End.{End, new_place}
use Rattle.end_names.specs.declared.role.Role.{Role}
use Rattle.world_model.specs.World.{World, Node, Sender, Deed, epoch_of, is_born, moved}
use Rattle.step_laws.specs.Codes.{stop_codes_fit}
use Rattle.step_laws.specs.Letters.{Letter}
use Rattle.step_laws.specs.Moves.{with_tunnel, with_letter, without_calls, WhyCloses, ByOperator, ByLetter}
use Rattle.frame_laws.specs.Codecs.{Codecs}
use Rattle.connection_laws.specs.Facts.{IsNoOpening, TellsOwn, kept_letter}
use Rattle.connection_laws.proofs.Acknowledging.{kept_on}
use Rattle.connection_laws.proofs.Numbers.{IsCount, is_count, IsWithout, without_count}
use Rattle.connection_laws.proofs.States.{not_closed, closes_open}
use Rattle.channel_laws.specs.Accounts.{Renewed, Taken, Account, heeded, History, after, entered_by}
use Rattle.channel_laws.specs.Facts.{IsOpen, IsClosed, IsShut, AreTaken, AreIgnored, IsRenewed, ChannelOk, partner_in, Holds, QueryOk, IsSpelledIn, LiveOk, EndOk, BookOk, NodeOk}
use Rattle.channel_laws.specs.Recoveries.{WrittenIsRead, WrittenHasRoom}
use Rattle.channel_laws.specs.Steps.{with_end, moves_on, IsMoved}
use Rattle.channel_laws.proofs.Alone.{puts_so}
use Rattle.channel_laws.proofs.Births.{birth_alike}
use Rattle.channel_laws.proofs.Ends.{Puts}
use Rattle.channel_laws.proofs.Extending.{IsOnly, got_given, all_extend}
use Rattle.channel_laws.proofs.Giving.{calls_put}
use Rattle.channel_laws.proofs.Going.{grows_by}
use Rattle.channel_laws.proofs.GoingLater.{changes_by, later_holds}
use Rattle.channel_laws.proofs.HeardLater.{heard_later}
use Rattle.channel_laws.proofs.Later.{IsAlike}
use Rattle.channel_laws.proofs.LaterMoves.{taken_shut, ignored_shut, live_later, channel_so, part_so, renewed_so, state_so, acked_so, is_so, only_there, enough_so, takes_hold}
use Rattle.channel_laws.proofs.Open.{end_alike, taken_as, takes_only, gives_is}
use Rattle.channel_laws.proofs.TakesLater.{deed_plain, took_goes}

-- ---- the tunnel that is left

-- it is closed, and has these letters more, and took so many more
pub record ShutsDown (t u : Tunnel) (more : List Letter) (count : ℕ) : Type 0 where
  pub local : u.control.local ≡ t.control.local
  pub peer : u.control.peer ≡ t.control.peer
  pub remote : u.control.remote ≡ t.control.remote
  pub four : state_number u.control.state ≡ 4
  pub none : u.calls ≡ []
  pub letters : u.letters ≡ t.letters ++ map kept_letter more
  pub acked : u.control.channel.window.acked ≡ t.control.channel.window.acked
  pub queued : u.control.channel.window.queued ≡ t.control.channel.window.queued + length more
  pub few : u.control.channel.window.queued ≤ 8192
  pub outstanding : u.control.channel.window.outstanding ≤ u.control.channel.window.queued
  pub taken : u.control.channel.inbox.taken ≡ t.control.channel.inbox.taken + count
  pub recovery : u.recovery ≡ t.recovery
  pub query : u.query ≡ t.query

-- what is found in a list that nothing was added to
still_found : {X : Type 0} (xs : List X) (k : ℕ) (x : X) → slice_get (xs ++ []) k ≡ Some x → slice_get xs k ≡ Some x
still_found xs k x is = ap (λ ys. slice_get ys k) (sym (append-nil xs)) ∙ is

no_calls : (t : Tunnel) → t.calls ≡ [] → (s : ℕ) (c : Call) → at t.calls s ≡ Some c → c.remote < 65536
no_calls t none s c is = absurd (none-some c (sym (at-none s) ∙ (ap (λ cs. at cs s) (sym none) ∙ is)))

module _ (w : World) (h : History) (n : ℕ) (node : Node) (sender : Option Sender) (moment : ℕ) (ev : Event) (m : Move) (x : End) (d : Deed)
    (k : IsMoved w h n node sender moment ev m x d) (i : ℕ) (t : Tunnel) (there : at node.end.tunnels i ≡ Some t)
    (current : is_current (mode_of t.recovery) ≡ true) (v : World) (alike : IsAlike w v n node x) (ok : ChannelOk h.accounts n i (epoch_of w n i) (h.accounts n i (epoch_of w n i)) t)
    (part : (h.accounts n i (epoch_of w n i)).part ≡ Renewed) (r : IsRenewed w h n i (epoch_of w n i) (h.accounts n i (epoch_of w n i)))
    (were : ok.acked ≤ length (partner_in h.accounts (epoch_of w n i) (h.accounts n i (epoch_of w n i))).taken) (more : List Letter) (tks : List Taken) (count : ℕ) (few : count ≤ length (h.accounts n i (epoch_of w n i)).taken)
    (u : Tunnel) (downs : ShutsDown t u more (length tks)) (only : IsOnly h (after h d) n i (epoch_of w n i))
    (is : (after h d).accounts n i (epoch_of w n i) ≡ changes_by more tks (Some count) (h.accounts n i (epoch_of w n i))) where
  abbrev e : ℕ
  e = epoch_of w n i

  abbrev a : Account
  a = h.accounts n i (epoch_of w n i)

  abbrev b : Account
  b = changes_by more tks (Some count) a

  both_ok : EndOk w h n node.end × BookOk h n node.checkpoint.book
  both_ok = subst (NodeOk w h n) k.there (k.holds.nodes n)

  live_there : LiveOk w h n i t
  live_there = both_ok.0.live i t there

  is_closed_now : IsClosed b
  is_closed_now = let all = length-append a.taken tks in (count, refl, omega (arith, few, all))

  letters_on : u.letters ≡ map kept_letter (drop ok.acked (a.given ++ more))
  letters_on =
      let sum = ok.counted in
      let le : ok.acked ≤ length a.given = omega (arith, sum) in
      downs.letters
      ∙ (ap (λ (ls : List wire.Letter). ls ++ map kept_letter more) ok.letters
      ∙ (sym (map-append kept_letter (drop ok.acked a.given) more)
      ∙ ap (λ (ls : List Letter). map kept_letter ls) (sym (drop-append-le ok.acked a.given more le))))

  pub shuts_hold : length a.taken + length tks ≤ length (partner_in h.accounts (epoch_of w n i) (h.accounts n i (epoch_of w n i))).given
      → AllByRecursion (IsSpelledIn (epoch_of w n i)) more
      → AllByRecursion (λ (l : Letter). IsNoOpening l.message) more
      → AllByRecursion (λ (l : Letter). TellsOwn i l.message) more → count ≤ heeded (h.accounts n i (epoch_of w n i))
      → AreIgnored (changes_by more tks (Some count) (h.accounts n i (epoch_of w n i))) → Puts node.end x i u → x.tunnel_ids ≡ node.end.tunnel_ids → Holds v (after h d)
  shuts_hold enough spelled plain told most ignored puts ids =
      later_holds w v h (after h d) n node x i e t u more tks (Some count) (record {
        there = k.there;
        holds = k.holds;
        alike = alike;
        epoch = refl;
        at_t = there;
        current = current;
        part = part;
        only = only;
        is = is;
        local = downs.local;
        peer = downs.peer;
        remote = downs.remote;
        state = inr (downs.four, is_closed_now, downs.none);
        acked = ok.acked;
        acked_is = downs.acked ∙ ok.acked_is;
        letters = letters_on;
        counted = (let sum = ok.counted in let queued = downs.queued in omega (arith, sum, queued));
        few = downs.few;
        outstanding = downs.outstanding;
        taken_is = (let before = ok.taken in let now = downs.taken in omega (arith, before, now));
        were = were;
        enough = enough;
        spelled = spelled;
        plain = plain;
        told = told;
        taken = taken_shut h (after h d) n i e only a more tks count few (k.holds.accounts n i e).taken most;
        ignored = ignored;
        calls = no_calls u downs.none;
        recovery = downs.recovery;
        query = subst (QueryOk e) (sym downs.query) live_there.query;
        puts = puts;
        ids = ids;
      })

-- ---- nothing is given, and nothing taken

module _ (h k : History) (n i e : ℕ) (only : IsOnly h k n i e) where
  pub still_taken : (a : Account) → AreTaken h.accounts e a → AreTaken k.accounts e a
  still_taken a was place y found lt =
      let q = was place y found lt in
      record {
        numbered = q.numbered;
        partner = q.partner;
        learned = q.learned;
        sender = q.sender;
        letter = q.letter;
        there = got_given (h.accounts q.partner.node q.partner.tunnel e) (k.accounts q.partner.node q.partner.tunnel e) (all_extend h k n i e only q.partner.node q.partner.tunnel e) place q.letter q.there;
        tells = q.tells;
      }

pub changes_nothing : (a : Account) → a ≡ changes_by [] [] a.closed a
changes_nothing a = ap₂ (λ gs ts. record a { given = gs; taken = ts }) (sym (append-nil a.given)) (sym (append-nil a.taken))

-- where a tunnel stands, as its state, its calls and its account do
state_as : (a b : Account) (t u : Tunnel) → a ≡ b → u.control.state ≡ t.control.state → (t.calls ≡ [] → u.calls ≡ []) → ((state_number t.control.state ≡ 3) × IsOpen a) ⊎ IsShut a t
    → ((state_number u.control.state ≡ 3) × IsOpen b) ⊎ IsShut b u
state_as a b t u same state none is = ⊎_elim
    (λ (q : (state_number t.control.state ≡ 3) × IsOpen a). inl (ap state_number state ∙ q.0, subst IsOpen same q.1))
    (λ (q : IsShut a t). inr (ap state_number state ∙ q.0, subst IsClosed same q.1, none q.2))
    is

closes_same : (secret : Option (List ℕ)) (t : Tunnel) (ev : Event) (on : TunnelEvent) (m : Closed) → WhyCloses secret t ev on m → m.remote ≡ t.control.remote
closes_same secret t ev on m (ByOperator is by same one two) = same
closes_same secret t ev on m (ByLetter told k next spare why other same) = same

rung_remote : (r : Role) (who : List ℕ) (moment : ℕ) → (rung r who moment).remote ≡ 0
unfolding rung advanced
rung_remote r who moment = refl

-- ---- the moves

module _ (codecs : Codecs) (again : WrittenIsRead) (room : WrittenHasRoom) (classes : ClassIsTrue) (w : World) (h : History) (n : ℕ) (node : Node) (sender : Option Sender)
    (moment : ℕ) (ev : Event) (x : End) (d : Deed) where
  pub took_plain_later : (m : TookPlain) → IsMoved w h n node sender moment ev (move.TookPlain m) x d → (epoch_of w n m.tunnel ≡ 0 → ⊥)
      → Holds (moves_on w n node (move.TookPlain m) x) (after h d)
  unfolding moved
  took_plain_later m k later =
      let o = k.does in
      let t = o.tunnel in
      let mv = move.TookPlain m in
      let i = m.tunnel in
      let e = epoch_of w n m.tunnel in
      let a = h.accounts n i e in
      let v = with_end w n node x in
      let u : Tunnel = record t { control = counts_taken t.control } in
      let tk = taken_as sender m.taken mv in
      let plain = deed_plain d mv k.deed.move_is (λ p j. refl) (λ p q z. refl) (λ p q z. refl) in
      let alike = end_alike w n node x k.there in
      let live = live_later codecs again room classes w h n node sender moment ev mv x d k t o.there o.current later plain v refl alike in
      let channel = channel_so codecs again room classes w h n node sender moment ev mv x d k t o.there o.current later plain v refl alike in
      let fits = k.counts i t o.there o.current in
      let puts = puts_so node.end x (with_tunnel node.end i u) i u o.after (record { config = refl; role = refl; tunnels = refl }) in
      let ids = ap (λ (y : End). y.tunnel_ids) o.after in
      ⊎_elim
      (λ (q : (state_number t.control.state ≡ 3) × IsOpen (h.accounts n m.tunnel (epoch_of w n m.tunnel))).
      takes_hold codecs again room classes w h n node sender moment ev mv x d k t o.there o.current later plain v refl alike o.letter o.next m.taken o.taken
      [] u (took_goes h.accounts n i e a t channel fits q.0 t.calls live.calls) q.0
      (takes_only d n node.end.role sender mv m.taken a k.deed) tt tt tt tt puts ids live.query)
      (λ (q : IsShut (h.accounts n m.tunnel (epoch_of w n m.tunnel)) t).
      let count = q.1.0 in
      let becomes : entered_by d mv a ≡ changes_by [] (tk ∷ []) (Some count) a =
      takes_only d n node.end.role sender mv m.taken a k.deed ∙ ap (λ z. record (grows_by [] (tk ∷ []) a) { closed = z }) q.1.1 in
      let heeds : heeded a ≡ count = ap (λ z. unwrap_or z (length a.taken)) q.1.1 in
      let few = channel.few in
      let out = channel.outstanding in
      shuts_hold w h n node sender moment ev mv x d k i t o.there o.current v alike channel
      (part_so codecs again room classes w h n node sender moment ev mv x d k t o.there o.current later plain v refl alike)
      (renewed_so codecs again room classes w h n node sender moment ev mv x d k t o.there o.current later plain v refl alike)
      (acked_so codecs again room classes w h n node sender moment ev mv x d k t o.there o.current later plain v refl alike)
      [] (tk ∷ []) count q.1.2 u
      (record {
        local = refl;
        peer = refl;
        remote = refl;
        four = q.0;
        none = q.2;
        letters = sym (append-nil t.letters);
        acked = refl;
        queued = omega arith;
        few = few;
        outstanding = out;
        taken = omega (arith, fits);
        recovery = refl;
        query = refl;
      })
      (only_there codecs again room classes w h n node sender moment ev mv x d k t o.there o.current later plain v refl alike [] (tk ∷ []) (Some count) becomes (inr (sym q.1.1)))
      (is_so codecs again room classes w h n node sender moment ev mv x d k t o.there o.current later plain v refl alike [] (tk ∷ []) (Some count) becomes (inr (sym q.1.1)))
      (enough_so codecs again room classes w h n node sender moment ev mv x d k t o.there o.current later plain v refl alike o.letter o.next m.taken o.taken)
      tt tt tt (omega (arith, heeds))
      (ignored_shut a [] tk count (λ place y found le. (k.holds.accounts n i e).ignored place y found (omega (arith, le, heeds))) tt)
      puts ids)
      (state_so codecs again room classes w h n node sender moment ev mv x d k t o.there o.current later plain v refl alike)

  pub closed_by_later : (m : ClosedBy) → IsMoved w h n node sender moment ev (move.ClosedBy m) x d → (epoch_of w n m.tunnel ≡ 0 → ⊥)
      → Holds (moves_on w n node (move.ClosedBy m) x) (after h d)
  unfolding moved
  closed_by_later m k later =
      let o = k.does in
      let t = o.tunnel in
      let mv = move.ClosedBy m in
      let i = m.tunnel in
      let e = epoch_of w n m.tunnel in
      let a = h.accounts n i e in
      let v = with_end w n node x in
      let s : Tunnel = record t { control = record (counts_taken t.control) { state = state.Closed; closed = moment } } in
      let u : Tunnel = record s { calls = [] } in
      let tk = taken_as sender m.taken mv in
      let plain = deed_plain d mv k.deed.move_is (λ p j. refl) (λ p q z. refl) (λ p q z. refl) in
      let alike = end_alike w n node x k.there in
      let channel = channel_so codecs again room classes w h n node sender moment ev mv x d k t o.there o.current later plain v refl alike in
      let fits = k.counts i t o.there o.current in
      let stands = state_so codecs again room classes w h n node sender moment ev mv x d k t o.there o.current later plain v refl alike in
      let open_is : IsOpen a = ⊎_elim
      (λ (q : (state_number t.control.state ≡ 3) × IsOpen (h.accounts n m.tunnel (epoch_of w n m.tunnel))). q.1)
      (λ (q : IsShut (h.accounts n m.tunnel (epoch_of w n m.tunnel)) t). absurd (not_closed t.control.state o.live q.0)) stands in
      let count = length a.taken in
      let becomes : entered_by d mv a ≡ changes_by [] (tk ∷ []) (Some count) a =
      takes_only d n node.end.role sender mv m.taken (record a { closed = Some (length a.taken) }) k.deed in
      let heeds : heeded a ≡ count = ap (λ z. unwrap_or z (length a.taken)) open_is in
      let few = channel.few in
      let out = channel.outstanding in
      shuts_hold w h n node sender moment ev mv x d k i t o.there o.current v alike channel
      (part_so codecs again room classes w h n node sender moment ev mv x d k t o.there o.current later plain v refl alike)
      (renewed_so codecs again room classes w h n node sender moment ev mv x d k t o.there o.current later plain v refl alike)
      (acked_so codecs again room classes w h n node sender moment ev mv x d k t o.there o.current later plain v refl alike)
      [] (tk ∷ []) count (omega arith) u
      (record {
        local = refl;
        peer = refl;
        remote = refl;
        four = refl;
        none = refl;
        letters = sym (append-nil t.letters);
        acked = refl;
        queued = omega arith;
        few = few;
        outstanding = out;
        taken = omega (arith, fits);
        recovery = refl;
        query = refl;
      })
      (only_there codecs again room classes w h n node sender moment ev mv x d k t o.there o.current later plain v refl alike [] (tk ∷ []) (Some count) becomes (inl open_is))
      (is_so codecs again room classes w h n node sender moment ev mv x d k t o.there o.current later plain v refl alike [] (tk ∷ []) (Some count) becomes (inl open_is))
      (enough_so codecs again room classes w h n node sender moment ev mv x d k t o.there o.current later plain v refl alike o.letter o.takes.next m.taken o.takes.taken_is)
      tt tt tt (omega (arith, heeds))
      (ignored_shut a [] tk count (λ place y found le. (let lt = slice_get_within a.taken place y found in absurd (omega (arith, lt, le)))) tt)
      (puts_so node.end x (without_calls node.end i s t.calls) i u o.after (record { config = refl; role = refl; tunnels = refl }))
      (ap (λ (y : End). y.tunnel_ids) o.after)

  pub closed_later : (m : Closed) → IsMoved w h n node sender moment ev (move.Closed m) x d → (epoch_of w n m.tunnel ≡ 0 → ⊥)
      → Holds (moves_on w n node (move.Closed m) x) (after h d)
  unfolding moved
  closed_later m k later =
      let o = k.does in
      let t = o.tunnel in
      let mv = move.Closed m in
      let i = m.tunnel in
      let e = epoch_of w n m.tunnel in
      let a = h.accounts n i e in
      let v = with_end w n node x in
      let s : Tunnel = with_letter 0 (StopCcn m.tunnel m.result m.error) (record t { control = record t.control { state = state.Closed; remote = m.remote; closed = moment } }) in
      let u : Tunnel = record s { calls = [] } in
      let last : Letter = record { tunnel = m.tunnel; place = m.given; session = 0; message = StopCcn m.tunnel m.result m.error; hidden = None } in
      let plain = deed_plain d mv k.deed.move_is (λ p j. refl) (λ p q z. refl) (λ p q z. refl) in
      let alike = end_alike w n node x k.there in
      let channel = channel_so codecs again room classes w h n node sender moment ev mv x d k t o.there o.current later plain v refl alike in
      let part = part_so codecs again room classes w h n node sender moment ev mv x d k t o.there o.current later plain v refl alike in
      let r = renewed_so codecs again room classes w h n node sender moment ev mv x d k t o.there o.current later plain v refl alike in
      let stands = state_so codecs again room classes w h n node sender moment ev mv x d k t o.there o.current later plain v refl alike in
      let open_is : IsOpen a = ⊎_elim
      (λ (q : (state_number t.control.state ≡ 3) × IsOpen (h.accounts n m.tunnel (epoch_of w n m.tunnel))). q.1)
      (λ (q : IsShut (h.accounts n m.tunnel (epoch_of w n m.tunnel)) t). absurd (closes_open t.control.state o.on o.row q.0)) stands in
      let count = length a.taken in
      let same : m.remote ≡ t.control.remote = closes_same node.end.config.secret t ev o.on m o.why in
      let known : m.remote ≡ a.remote = same ∙ channel.remote in
      let becomes : entered_by d mv a ≡ changes_by (last ∷ []) [] (Some count) a =
      ap₂ (λ z ls. record a { remote = z; closed = Some (length a.taken); given = a.given ++ ls }) known (gives_is d n node.end.role sender mv k.deed)
      ∙ ap (λ ts. record a { given = a.given ++ last ∷ []; taken = ts; closed = Some (length a.taken) }) (sym (append-nil a.taken)) in
      let heeds : heeded a ≡ count = ap (λ z. unwrap_or z (length a.taken)) open_is in
      let lt = ltb-true t.control.channel.window.queued 8192 o.room in
      let out = channel.outstanding in
      let here = r.joined.here in
      let codes = stop_codes_fit node.end.config.secret t ev o.on m o.why in
      shuts_hold w h n node sender moment ev mv x d k i t o.there o.current v alike channel part r
      (acked_so codecs again room classes w h n node sender moment ev mv x d k t o.there o.current later plain v refl alike)
      (last ∷ []) [] count (omega arith) u
      (record {
        local = refl;
        peer = refl;
        remote = same;
        four = refl;
        none = refl;
        letters = refl;
        acked = refl;
        queued = refl;
        few = omega (arith, lt);
        outstanding = omega (arith, out);
        taken = omega arith;
        recovery = refl;
        query = refl;
      })
      (only_there codecs again room classes w h n node sender moment ev mv x d k t o.there o.current later plain v refl alike (last ∷ []) [] (Some count) becomes (inl open_is))
      (is_so codecs again room classes w h n node sender moment ev mv x d k t o.there o.current later plain v refl alike (last ∷ []) [] (Some count) becomes (inl open_is))
      (omega (arith, here)) (
        inl (record {
          written = ((k.holds.accounts n i e).id (λ z. (let two = sym part ∙ z in absurd cc)), codes.0, codes.1);
          hides = tt;
          session = omega arith;
        }),
        tt,
      )
      (tt, tt) (refl, tt) (omega (arith, heeds))
      (λ place y found le. (let within = slice_get_within a.taken place y (still_found a.taken place y found) in absurd (omega (arith, within, le))))
      (puts_so node.end x (without_calls node.end i s t.calls) i u o.after (record { config = refl; role = refl; tunnels = refl }))
      (ap (λ (y : End). y.tunnel_ids) o.after)

  pub added_later : (m : Added) → IsMoved w h n node sender moment ev (move.Added m) x d → (epoch_of w n m.tunnel ≡ 0 → ⊥)
      → Holds (moves_on w n node (move.Added m) x) (after h d)
  unfolding moved is_born
  added_later m k later =
      let o = k.does in
      let t = o.tunnel in
      let mv = move.Added m in
      let i = m.tunnel in
      let e = epoch_of w n m.tunnel in
      let a = h.accounts n i e in
      let v = moves_on w n node mv x in
      let call = rung node.end.role m.subscriber moment in
      let u : Tunnel = record t { calls = put t.calls m.session call } in
      let plain = deed_plain d mv k.deed.move_is (λ p j. refl) (λ p q z. refl) (λ p q z. refl) in
      let alike = birth_alike w n node k.there x (min (w.born + 1) (2 ^ 64 - 1)) m.session (min (w.born + 1) (2 ^ 64 - 1)) in
      let live = live_later codecs again room classes w h n node sender moment ev mv x d k t o.there o.current later plain v refl alike in
      let channel = channel_so codecs again room classes w h n node sender moment ev mv x d k t o.there o.current later plain v refl alike in
      let stands = state_so codecs again room classes w h n node sender moment ev mv x d k t o.there o.current later plain v refl alike in
      let r = renewed_so codecs again room classes w h n node sender moment ev mv x d k t o.there o.current later plain v refl alike in
      let same = changes_nothing a in
      let only = only_there codecs again room classes w h n node sender moment ev mv x d k t o.there o.current later plain v refl alike [] [] a.closed same (inr refl) in
      let not_four : state_number t.control.state ≡ 4 → ⊥ = λ four. ⊎_elim (λ (q : state_number t.control.state ≡ 3). (let no_ : ⊥ = omega (arith, q, four) in no_))
      (λ (q : state_number t.control.state ≡ 1). (let no_ : ⊥ = omega (arith, q, four) in no_)) o.goes in
      let goes : (state_number t.control.state ≡ 3) × IsOpen a = ⊎_elim
      (λ (q : (state_number t.control.state ≡ 3) × IsOpen (h.accounts n m.tunnel (epoch_of w n m.tunnel))). q)
      (λ (q : IsShut (h.accounts n m.tunnel (epoch_of w n m.tunnel)) t). absurd (not_four q.0)) stands in
      let sum = channel.counted in
      let here = r.joined.here in
      let before = channel.taken in
      later_holds w v h (after h d) n node x i e t u [] [] a.closed (record {
        there = k.there;
        holds = k.holds;
        alike = alike;
        epoch = refl;
        at_t = o.there;
        current = o.current;
        part = part_so codecs again room classes w h n node sender moment ev mv x d k t o.there o.current later plain v refl alike;
        only = only;
        is = is_so codecs again room classes w h n node sender moment ev mv x d k t o.there o.current later plain v refl alike [] [] a.closed same (inr refl);
        local = refl;
        peer = refl;
        remote = refl;
        state = inl goes;
        acked = channel.acked;
        acked_is = channel.acked_is;
        letters = channel.letters ∙ ap (λ ls. map kept_letter (drop channel.acked ls)) (sym (append-nil a.given));
        counted = omega (arith, sum);
        few = channel.few;
        outstanding = channel.outstanding;
        taken_is = omega (arith, before);
        were = acked_so codecs again room classes w h n node sender moment ev mv x d k t o.there o.current later plain v refl alike;
        enough = omega (arith, here);
        spelled = tt;
        plain = tt;
        told = tt;
        taken = subst (AreTaken (after h d).accounts e) same (still_taken h (after h d) n i e only a (k.holds.accounts n i e).taken);
        ignored = subst AreIgnored same (k.holds.accounts n i e).ignored;
        calls = calls_put t.calls m.session call live.calls (rw (rung_remote node.end.role m.subscriber moment) (omega arith));
        recovery = refl;
        query = live.query;
        puts = puts_so node.end x (record (with_tunnel node.end i u) { session_ids = after_id node.end.session_ids; calls = put node.end.calls m.session (new_place m.tunnel) }) i u o.after
            (record { config = refl; role = refl; tunnels = refl });
        ids = ap (λ (y : End). y.tunnel_ids) o.after;
      })

  pub nr_read_later : (m : NrRead) → IsMoved w h n node sender moment ev (move.NrRead m) x d → (epoch_of w n m.tunnel ≡ 0 → ⊥)
      → Holds (moves_on w n node (move.NrRead m) x) (after h d)
  unfolding moved
  nr_read_later m k later =
      let o = k.does in
      let t = o.tunnel in
      let mv = move.NrRead m in
      let i = m.tunnel in
      let e = epoch_of w n m.tunnel in
      let a = h.accounts n i e in
      let p = partner_in h.accounts e a in
      let v = with_end w n node x in
      let wd = t.control.channel.window in
      let count = count_acked wd m.nr in
      let wo = without_first wd count moment in
      let u : Tunnel = record t { control = record (counts_acked m.nr moment t.control) { heard = moment }; letters = drop count t.letters } in
      let plain = deed_plain d mv k.deed.move_is (λ q j. refl) (λ q c z. refl) (λ q c z. refl) in
      let alike = end_alike w n node x k.there in
      let live = live_later codecs again room classes w h n node sender moment ev mv x d k t o.there o.current later plain v refl alike in
      let channel = channel_so codecs again room classes w h n node sender moment ev mv x d k t o.there o.current later plain v refl alike in
      let stands = state_so codecs again room classes w h n node sender moment ev mv x d k t o.there o.current later plain v refl alike in
      let part = part_so codecs again room classes w h n node sender moment ev mv x d k t o.there o.current later plain v refl alike in
      let r = renewed_so codecs again room classes w h n node sender moment ev mv x d k t o.there o.current later plain v refl alike in
      let were = acked_so codecs again room classes w h n node sender moment ev mv x d k t o.there o.current later plain v refl alike in
      let same = changes_nothing a in
      let only = only_there codecs again room classes w h n node sender moment ev mv x d k t o.there o.current later plain v refl alike [] [] a.closed same (inr refl) in
      let f = heard_later codecs again room w h k.holds n node k.there sender ev k.comes i e t o.there o.current refl part o.tells.letter o.tells.comes in
      let near = f.near.acked in
      let out = channel.outstanding in
      let few = channel.few in
      let sum = channel.counted in
      let acks = channel.acked_is in
      let told = f.taken in
      let there = r.joined.there in
      let here = r.joined.here in
      let before = channel.taken in
      let counted : IsCount wd f.o.nr count =
      subst (λ (nr : ℕ). IsCount wd f.o.nr (count_acked wd nr)) (sym (o.tells.tells ∙ f.nr))
      (is_count wd f.o.nr near (omega (arith, told, there, sum, acks, few)) (omega (arith, out, few))) in
      let le = counted.few in
      let fits = k.numbers i t o.there o.current in
      let left : IsWithout wd count wo = without_count wd count moment le out (omega (arith, le, out, few, fits)) in
      let new_acked = left.acked in
      let new_queued = left.queued in
      later_holds w v h (after h d) n node x i e t u [] [] a.closed (record {
        there = k.there;
        holds = k.holds;
        alike = alike;
        epoch = refl;
        at_t = o.there;
        current = o.current;
        part = part;
        only = only;
        is = is_so codecs again room classes w h n node sender moment ev mv x d k t o.there o.current later plain v refl alike [] [] a.closed same (inr refl);
        local = refl;
        peer = refl;
        remote = refl;
        state = state_as a (changes_by [] [] a.closed a) t u same refl (λ none. none) stands;
        acked = channel.acked + count;
        acked_is = omega (arith, new_acked, acks);
        letters = ap (λ ls. drop count ls) channel.letters ∙ kept_on a.given channel.acked count ∙ ap (λ ls. map kept_letter (drop (channel.acked + count) ls)) (sym (append-nil a.given));
        counted = omega (arith, sum, new_queued);
        few = omega (arith, few, new_queued);
        outstanding = left.outstanding;
        taken_is = omega (arith, before);
        were = ⊎_elim (λ (z : wd.acked + count ≡ wd.acked). omega (arith, z, were)) (λ (z : wd.acked + count ≡ f.o.nr). omega (arith, z, told, acks)) counted.leads;
        enough = omega (arith, here);
        spelled = tt;
        plain = tt;
        told = tt;
        taken = subst (AreTaken (after h d).accounts e) same (still_taken h (after h d) n i e only a (k.holds.accounts n i e).taken);
        ignored = subst AreIgnored same (k.holds.accounts n i e).ignored;
        calls = live.calls;
        recovery = refl;
        query = live.query;
        puts = puts_so node.end x (with_tunnel node.end i u) i u o.after (record { config = refl; role = refl; tunnels = refl });
        ids = ap (λ (y : End). y.tunnel_ids) o.after;
      })
