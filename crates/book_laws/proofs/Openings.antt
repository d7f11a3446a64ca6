-- What a start does to a tunnel that comes back, as its moves and its outputs: it comes back first, and then the links of its calls are opened.
use Rattle.std.proofs.Common.{◌≡◌, ℕ, suc, zero, true, false, Bool, List, [], ◌∷◌, ◌++◌, length, refl, sym, ap, subst, Option, Some, None}
use Rattle.std.specs.Prelude.{nat_le, cond}
use Rattle.std.specs.List.{AllByRecursion}
use Rattle.wire_base.specs.declared.letter.Letter.{Letter}
use Rattle.send_window.specs.Outbox.{letter_at}
use Rattle.control_channel.specs.Channel.{next_to_go}
use Rattle.recovery_tunnel.specs.Connections.{ControlConnection}
use Rattle.session_book.specs.declared.record.BookTunnel.{BookTunnel}
use Rattle.session_book.specs.declared.record.BookCall.{BookCall}
use Rattle.lcp_end.specs.Steps.{opened, stepped, acted, counted, zeroed, configured, terminated, signalled, requested, requesting, sent}
use Rattle.call_link.specs.Link.{new_link}
use Rattle.call_link.specs.declared.env.LinkEnv.{LinkEnv}
use Rattle.call_link.specs.declared.turn.LinkTurn.{LinkTurn}
use Rattle.call_link.specs.Turns.{Opens, linked}
use Rattle.end_names.specs.declared.role.Role.{Role}
use Rattle.end_names.specs.declared.role.Role.TheVariants.{Lac, Lns}
use Rattle.end_model.specs.declared.tunnel.Call.{Call}
use Rattle.end_model.specs.declared.moves.Move.{Move}
use Rattle.end_model.specs.declared.moves.Move.TheVariants as move
use Rattle.end_model.specs.declared.out.Out.{Out}
use Rattle.end_model.specs.declared.out.Out.TheVariants.{Send}
use Rattle.end_model.specs.Calls.{counted as counted_call}
use Rattle.end_model.specs.Contents.{records_of}
use Rattle.end_model.specs.Frames.{sends_frame, counts, carried}
use Rattle.end_model.specs.Linking.{sends_frames, negotiated, links_by}
use Rattle.end_model.specs.Links.{link_env}
use Rattle.end_model.specs.Tunnels.{Turn, Env, Recovering, turn_of, connection_of}
use Rattle.end_model.specs.Turn.{with_output, with_move, with_call, with_looks_of}
use Rattle.end_model.specs.Recovering.{Line, recovery_letter, recovery_sends, goes_once, goes_by, goes, attempted}
use Rattle.end_model.specs.Starting.{kept_control, kept_call, kept_looks, keeps_calls, opens_link, opens_links, restored_move, restores}
use Rattle.end_model.specs.End.{End}
use Rattle.step_laws.specs.Gone.{gone_in}
use Rattle.step_laws.specs.Steps.{IsOfNoStart}
use Rattle.book_laws.specs.Starts.{IsSentOrGone}

-- ---- moves of links

-- a move of the link of a call
abbrev pub IsOfLink : Move → Type 0
IsOfLink (move.Negotiated m) = Unit {0}
IsOfLink (move.Counted m) = Unit {0}
IsOfLink (move.FrameSent m) = Unit {0}
IsOfLink m = ⊥

pub link_no_start : (m : Move) → IsOfLink m → IsOfNoStart m
link_no_start (move.Negotiated m) h = tt
link_no_start (move.Counted m) h = tt
link_no_start (move.FrameSent m) h = tt
link_no_start m h = absurd h

pub link_leaves : (m : Move) → IsOfLink m → records_of m ≡ []
unfolding records_of
link_leaves (move.Negotiated m) h = refl
link_leaves (move.Counted m) h = refl
link_leaves (move.FrameSent m) h = refl
link_leaves m h = absurd h

pub push : {X : Type 0} (P : X → Type 0) (xs : List X) (x : X) → AllByRecursion P xs → P x → AllByRecursion P (xs ++ x ∷ [])
push P [] x all here = (here, tt)
push P (y ∷ xs) x all here = (all.0, push P xs x all.1 here)

-- ---- what is sent

abbrev pub IsSent : Out → Type 0
IsSent (Send peer bytes origin) = Unit {0}
IsSent o = ⊥

pub sent_or_gone : (os : List Out) → AllByRecursion IsSent os → AllByRecursion IsSentOrGone os
sent_or_gone [] h = tt
sent_or_gone (Send peer bytes origin ∷ os) h = (tt, sent_or_gone os h.1)
sent_or_gone (o ∷ os) h = absurd h.0

pub none_gone : (os : List Out) → AllByRecursion IsSent os → gone_in os ≡ []
none_gone [] h = refl
none_gone (Send peer bytes origin ∷ os) h = none_gone os h.1
none_gone (o ∷ os) h = absurd h.0

-- ---- a turn whose first move brings a tunnel back

pub record Begins (first : Move) (t : Turn) : Type 0 where
  pub rest : List Move
  pub is : t.moves ≡ first ∷ rest
  pub so : AllByRecursion IsOfLink rest
  pub says : AllByRecursion IsSent t.outputs

module _ (first : Move) where
  -- a move of a link more
  moved_on : (m : Move) (t : Turn) → IsOfLink m → Begins first t → Begins first (with_move m t)
  unfolding with_move
  moved_on m t so h = record { rest = h.rest ++ m ∷ []; is = ap (λ ms. ms ++ m ∷ []) h.is; so = push IsOfLink h.rest m h.so so; says = h.says }

  said_on : (o : Out) (t : Turn) → IsSent o → Begins first t → Begins first (with_output o t)
  unfolding with_output
  said_on o t so h = record { rest = h.rest; is = h.is; so = h.so; says = push IsSent t.outputs o h.says so }

  counts_on : (s : ℕ) (c : Call) (o : Option ℕ) (t : Turn) → Begins first t → Begins first (counts s c o t)
  unfolding counts with_call
  counts_on s c None t h = h
  counts_on s c (Some n) t h = moved_on _ (with_call s (counted_call c) t) tt (record { rest = h.rest; is = h.is; so = h.so; says = h.says })

  carried_on : (s : ℕ) (frame : List ℕ) (c : Call) (t : Turn) → Begins first t → Begins first (carried s frame c t)
  unfolding carried sends_frame
  carried_on s frame c t h = counts_on s c c.sequence (sends_frame s frame c t) (said_on _ _ tt (moved_on _ t tt h))

  frames_on : (s : ℕ) (fs : List (List ℕ)) (c : Call) (t : Turn) → Begins first t → Begins first (sends_frames s fs c t)
  unfolding sends_frames
  frames_on s [] c t h = h
  frames_on s (f ∷ fs) c t h = frames_on s fs (counted_call c) (carried s f c t) (carried_on s f c t h)

  negotiated_on : (s : ℕ) (c : Call) (v : LinkTurn) (t : Turn) → Begins first t → Begins first (negotiated s c v t)
  unfolding negotiated with_looks_of with_call
  negotiated_on s c v t h =
      let f = frames_on s v.frames c t h in
      let m = moved_on (move.Negotiated (record { tunnel = t.control.local; session = s })) (with_call s _ (sends_frames s v.frames c t)) tt
      (record { rest = f.rest; is = f.is; so = f.so; says = f.says }) in
      record { rest = m.rest; is = m.is; so = m.so; says = m.says }

  -- what is opened doesn't end
  opens_ends : (e : LinkEnv) → (linked e Opens (new_link e)).ends ≡ None
  unfolding linked opened stepped acted counted zeroed configured terminated signalled requested sent requesting
  opens_ends e = refl

  links_on : (r : Role) (cs : List BookCall) (t : Turn) → Begins first t → Begins first (opens_links r cs t)
  unfolding opens_links opens_link links_by
  links_on r [] t h = h
  links_on Lac (c ∷ cs) t h = links_on Lac cs t h
  links_on Lns (c ∷ cs) t h =
      let k = kept_call Lns t.on c in
      let v = linked (link_env t.on) Opens (new_link (link_env t.on)) in
      subst (λ o. Begins first (opens_links Lns cs (links_by Lns [] c.local k v o t))) (sym (opens_ends (link_env t.on)))
      (links_on Lns cs (negotiated c.local k v t) (negotiated_on c.local k v t h))

  -- ---- its SCCRQ goes

  letter_on : (c : ControlConnection) (n : ℕ) (o : Option Letter) (t : Turn) → Begins first t → Begins first (recovery_letter c n o t)
  unfolding recovery_letter
  letter_on c n None t h = h
  letter_on c n (Some l) t h = by (nat_le (length l.avps) 65523)
    where
      by : (b : Bool) → Begins first (cond b (with_output (recovery_sends t.control.peer c l.session n false l.avps) t) t)
      by true = said_on _ t tt h
      by false = h

  by_on : (most : ℕ) (o : Option ℕ) (l : Line) → Begins first l.turn → Begins first (goes_by most o l).turn
  unfolding goes_by goes_once
  by_on zero None l h = h
  by_on (suc most) None l h = h
  by_on zero (Some n) l h = h
  by_on (suc most) (Some n) l h =
      let gone = goes_once n l in
      by_on most (next_to_go gone.connection.channel) gone (letter_on l.connection n (letter_at l.connection.channel.outbox n) l.turn h)

  goes_on : (r : Recovering) (t : Turn) → Begins first t → Begins first (goes r t).turn
  unfolding goes
  goes_on r t h = by_on 3 (next_to_go (connection_of r).channel) (record { connection = connection_of r; turn = t }) h

-- ---- its calls come back before

record IsQuietSo (t u : Turn) : Type 0 where
  moves : u.moves ≡ t.moves
  outputs : u.outputs ≡ t.outputs

keeps_quiet : (r : Role) (cs : List BookCall) (t : Turn) → IsQuietSo t (keeps_calls r cs t)
unfolding keeps_calls with_looks_of
keeps_quiet r [] t = record { moves = refl; outputs = refl }
keeps_quiet r (c ∷ cs) t =
    let u = with_looks_of (kept_looks r c.local t.control.local t.control.peer)
    (record t { changed = t.changed ++ (c.local, Some (kept_call r t.on c)) ∷ []; added = t.added ++ c.local ∷ [] }) in
    let q = keeps_quiet r cs u in
    record { moves = q.moves; outputs = q.outputs }

module _ (e : End) (env : Env) (cs : List BookCall) (b : BookTunnel) (local draw : ℕ) where
  abbrev start : Turn
  start = turn_of (kept_control env.on.moment b) env

  pub restores_begins : Begins (restored_move e.config cs b local draw start) (restores e.role e.config cs b local draw start).turn
  unfolding restores attempted with_move
  restores_begins =
      let q = keeps_quiet e.role cs start in
      let back = restored_move e.config cs b local draw start in
      links_on back e.role cs _ (goes_on back _ _ (record { rest = []; is = ap (λ ms. ms ++ back ∷ []) q.moves; so = tt; says = rw q.outputs tt }))
