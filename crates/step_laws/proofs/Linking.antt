-- What the link of a call gives is sent in the call, and is kept there.
use Rattle.std.proofs.Common.{◌≡◌, inl, inr, ℕ, ◌<◌, Bool, true, false, List, [], ◌∷◌, ◌++◌, refl, sym, ap, ◌∙◌, subst, Option, Some, None, arith}
use Rattle.std.proofs.lemmas.List.{append-nil}
use Rattle.id_table.specs.Ids.{at, put, put-put}
use Rattle.id_table.specs.Order.{at_new, at_other}
use Rattle.wire_base.specs.declared.letter.Letter.{Letter}
use Rattle.call_fsm.specs.declared.table.CallEvent.TheVariants as call_event
use Rattle.wire_base.specs.declared.cause.Cause.{Cause}
use Rattle.call_link.specs.declared.turn.LinkTurn.{LinkTurn}
use Rattle.call_link.specs.Link.{Link, new_link}
use Rattle.call_link.specs.Turns.{Opens}
use Rattle.call_link.specs.Laws.{LinkStep, turn_at}
use Rattle.call_link.specs.Told.{ends_for}
use Rattle.l2tp_header.specs.Grammar.{FitsWord}
use Rattle.end_model.specs.declared.tunnel.Call.{Call}
use Rattle.end_model.specs.declared.tunnel.CallPlace.{CallPlace}
use Rattle.session_looks.specs.declared.look.CellChange.{CellChange}
use Rattle.end_model.specs.declared.tunnel.Control.{Control}
use Rattle.end_model.specs.declared.event.Event.{Event}
use Rattle.end_model.specs.declared.moves.FrameSent.{FrameSent}
use Rattle.end_model.specs.declared.moves.Move.TheVariants as move
use Rattle.end_model.specs.Calls.{row_for, advanced, counted, counted_all, number_of, number_after, is_up, is_told}
use Rattle.end_model.specs.Links.{link_env, with_link, looks_of}
use Rattle.end_model.specs.Tunnels.{Tunnel, Turn, Recovering}
use Rattle.end_model.specs.Turn.{with_output, with_move, with_call, with_looks_of, with_change}
use Rattle.end_model.specs.Events.{with_calls, tunnel_after}
use Rattle.end_model.specs.Frames.{sends_frame, counts, carried}
use Rattle.end_model.specs.Linking.{sends_frames, negotiated, ends_linked, links_by, links}
use Rattle.end_model.specs.Closing.{ends_by}
use Rattle.end_model.specs.Sending.{takes_one}
use Rattle.end_model.specs.Connecting.{second_up, connects_call, linked_up}
use Rattle.end_model.specs.End.{End, placed, with_look, with_looks}
use Rattle.step_laws.specs.Letters.{Among, AFrame}
use Rattle.step_laws.specs.Links.{IsCalled, ToOpen, Calls, WhySent, IsGiven, IsOfLink}
use Rattle.step_laws.specs.Causes.{Stands, IsEndedCall}
use Rattle.step_laws.specs.Moves.{WhyEnds, IsEnded}
use Rattle.step_laws.proofs.Lists.{all_push, among_right, with_calls-more, chain_more}
use Rattle.step_laws.proofs.Outputs.{frames_more}
use Rattle.step_laws.proofs.Owing.{up_owes, fits_same, owes_told}
use Rattle.step_laws.proofs.Turns.{at_turn, there, fits_changed, Others, connected_call, IsCurrent}
use Rattle.step_laws.proofs.Settling.{Settled, outs_on, goes_nowhere, settled_so}
use Rattle.step_laws.proofs.Keeping.{settled_keeps}
use Rattle.step_laws.proofs.Closing.{Leaves, ends_leave}

-- a cause for which a link ended a call stands: links end calls for that one alone
pub ended_stands : (e : End) (moment : ℕ) (ev : Event) (by : LinkStep) (l : Link) (why : Cause) → (turn_at by l).ends ≡ Some why
    → IsEndedCall e moment ev why → Stands e moment ev why
ended_stands e moment ev by l why ends h =
    let is = ends_for by.env by.call l why ends in
    subst (λ (x : Cause). Stands e moment ev x) (sym is) (subst (λ (x : Cause). IsEndedCall e moment ev x) is h)

-- changes of looks, one after the other
with_looks-append : (xs ys : List CellChange) (places : List (ℕ × CallPlace)) → with_looks (xs ++ ys) places ≡ with_looks ys (with_looks xs places)
unfolding with_looks
with_looks-append [] ys places = refl
with_looks-append (x ∷ xs) ys places = with_looks-append xs ys (with_look x places)

-- what is sent in a turn, and its calls alone
abbrev with_sent : Turn → Turn → Turn
with_sent t u = record t { outputs = u.outputs; moves = u.moves; changed = u.changed }

-- of a turn a frame that is sent changes what is sent alone, and the number of its call
counts_same : (s : ℕ) (c : Call) (o : Option ℕ) (t : Turn) → counts s c o t ≡ with_sent t (counts s c o t)
unfolding counts with_move with_call
counts_same s c None t = refl
counts_same s c (Some n) t = refl

carried_same : (s : ℕ) (frame : List ℕ) (c : Call) (t : Turn) → carried s frame c t ≡ with_sent t (carried s frame c t)
unfolding carried sends_frame with_output with_move
carried_same s frame c t = counts_same s c c.sequence (sends_frame s frame c t)

pub frames_same : (s : ℕ) (fs : List (List ℕ)) (c : Call) (t : Turn) → sends_frames s fs c t ≡ with_sent t (sends_frames s fs c t)
unfolding sends_frames
frames_same s [] c t = refl
frames_same s (f ∷ fs) c t =
    let u = carried s f c t in
    let v = sends_frames s fs (counted c) u in
    frames_same s fs (counted c) u ∙ ap (λ (x : Turn). with_sent x v) (carried_same s f c t)

-- where the call is put afterwards, that is all that changed of the calls
module _ (calls : List (ℕ × Call)) where
  counts_put : (s : ℕ) (c : Call) (o : Option ℕ) (t : Turn) (d : Call)
      → put (with_calls (counts s c o t).changed calls) s d ≡ put (with_calls t.changed calls) s d
  unfolding counts with_move with_call
  counts_put s c None t d = refl
  counts_put s c (Some n) t d =
      ap (λ xs. put xs s d) (with_calls-more t.changed s (Some (counted c)) calls) ∙ put-put (with_calls t.changed calls) s (counted c) d

  carried_put : (s : ℕ) (frame : List ℕ) (c : Call) (t : Turn) (d : Call)
      → put (with_calls (carried s frame c t).changed calls) s d ≡ put (with_calls t.changed calls) s d
  unfolding carried sends_frame with_output with_move
  carried_put s frame c t d = counts_put s c c.sequence (sends_frame s frame c t) d

  frames_put : (s : ℕ) (fs : List (List ℕ)) (c : Call) (t : Turn) (d : Call)
      → put (with_calls (sends_frames s fs c t).changed calls) s d ≡ put (with_calls t.changed calls) s d
  unfolding sends_frames
  frames_put s [] c t d = refl
  frames_put s (f ∷ fs) c t d = frames_put s fs (counted c) (carried s f c t) d ∙ carried_put s f c t d

-- what the link of a call gives is sent
abbrev sent : ℕ → Call → LinkTurn → Turn → Turn
sent s c v t = sends_frames s v.frames c t

-- the call as it then is, and as its link leaves it
abbrev sent_call : Call → LinkTurn → Call
sent_call c v = counted_all v.frames c

abbrev pub linked_call : Call → LinkTurn → Call
linked_call c v = with_link v.link (sent_call c v)

-- what that and the link change of a turn
abbrev pub kept_in : ℕ → Call → LinkTurn → Turn → Turn → Turn
kept_in s c v t u = record t {
  changed = u.changed ++ (s, Some (linked_call c v)) ∷ [];
  changes = t.changes ++ looks_of v.opens s;
  outputs = u.outputs;
  moves = u.moves ++ move.Negotiated (record { tunnel = t.control.local; session = s }) ∷ [];
}

pub negotiated_is : (s : ℕ) (c : Call) (v : LinkTurn) (t : Turn) → negotiated s c v t ≡ kept_in s c v t (sent s c v t)
unfolding negotiated with_looks_of with_move with_call
negotiated_is s c v t =
    let d = linked_call c v in
    ap (λ (x : Turn). with_looks_of (looks_of v.opens s) (with_move (move.Negotiated (record { tunnel = t.control.local; session = s })) (with_call s d x)))
    (frames_same s v.frames c t)

-- it leaves the call alone changed
pub negotiated_put : (calls : List (ℕ × Call)) (s : ℕ) (c : Call) (v : LinkTurn) (t : Turn)
    → with_calls (negotiated s c v t).changed calls ≡ put (with_calls t.changed calls) s (linked_call c v)
unfolding negotiated with_looks_of with_move with_call
negotiated_put calls s c v t =
    with_calls-more (sent s c v t).changed s (Some (linked_call c v)) calls ∙ frames_put calls s v.frames c t (linked_call c v)

module _ (e : End) (moment : ℕ) (ev : Event) (letters : List Letter) (calls : List (ℕ × Call)) (recovery : Option Recovering) (i : ℕ) where
  abbrev tunnel : Turn → Tunnel
  tunnel t = tunnel_after t letters calls recovery

  abbrev now : Turn → List (ℕ × Call)
  now t = with_calls t.changed calls

  -- what goes in a header has 16 bits
  number_is : (o : Option ℕ) → FitsWord (number_of o)
  number_is None = tt
  number_is (Some n) = omega arith

  -- a frame that is sent leaves the calls
  still_found : (s : ℕ) (frame : List ℕ) (c : Call) (t : Turn) → at (now t) s ≡ Some c → at (now (sends_frame s frame c t)) s ≡ Some c
  unfolding sends_frame with_output with_move
  still_found s frame c t found = found

  -- a number is counted
  counted_ok : (s : ℕ) (c : Call) (n : ℕ) (t : Turn) → c.sequence ≡ Some n → at (now t) s ≡ Some c → is_up c.state ≡ true
      → Settled e moment ev letters calls recovery i t
      → Settled e moment ev letters calls recovery i (with_move (move.Counted (record { tunnel = t.control.local; session = s })) (with_call s (counted c) t))
  unfolding with_move with_call
  counted_ok s c n t has found up h =
      let m = move.Counted (record { tunnel = t.control.local; session = s }) in
      let d = counted c in
      record {
        chain = chain_more moment ev e (at_turn e moment ev letters calls recovery i t) _ t.moves m h.chain (record {
          tunnel = tunnel t;
          there = there e moment ev letters calls recovery i t;
          call = c;
          live = found;
          up = up;
          number = n;
          has = has;
          after =
              let changed = with_calls-more t.changed s (Some d) calls in
              rw (changed, put-put e.tunnels t.control.local (tunnel t) _) refl;
        });
        outs = outs_on e moment ev letters calls recovery i t (with_move m (with_call s d t)) (record {
          local = refl;
          peer = refl;
          remote = refl;
          acked = refl;
          inbox = refl;
          more = [];
          letters = sym (append-nil (tunnel t).letters);
          recovery = refl;
        }) (m ∷ []) refl h;
        tells = h.tells;
        frames = all_push _ t.moves m h.frames tt;
        stays = h.stays;
        goes = h.goes;
        held = h.held;
        fits = fits_changed e moment ev letters calls recovery i t.control t s (Some d) (fits_same t.control (now t) s d c found refl h.fits);
      }

  counts_ok : (s : ℕ) (c : Call) (o : Option ℕ) (t : Turn) → c.sequence ≡ o → at (now t) s ≡ Some c → is_up c.state ≡ true
      → Settled e moment ev letters calls recovery i t → Settled e moment ev letters calls recovery i (counts s c o t)
  unfolding counts
  counts_ok s c None t is found up h = h
  counts_ok s c (Some n) t is found up h = counted_ok s c n t is found up h

  -- the call has the next number
  unnumbered : (c : Call) → c.sequence ≡ None → counted c ≡ c
  unnumbered c is =
      ap (λ (o : Option ℕ). record c { sequence = number_after o }) is ∙ ap (λ (o : Option ℕ). record c { sequence = o }) (sym is)

  counts_found : (s : ℕ) (c : Call) (o : Option ℕ) (t : Turn) → c.sequence ≡ o → at (now t) s ≡ Some c → at (now (counts s c o t)) s ≡ Some (counted c)
  unfolding counts with_move with_call
  counts_found s c None t is found = found ∙ ap Some (sym (unnumbered c is))
  counts_found s c (Some n) t is found =
      ap (λ xs. at xs s) (with_calls-more t.changed s (Some (counted c)) calls) ∙ at_new (now t) s (counted c)

  sends_frame_ok : (s : ℕ) (frame : List ℕ) (c : Call) (t : Turn) → at (now t) s ≡ Some c → is_up c.state ≡ true
      → WhySent ev moment t.control s c frame → Settled e moment ev letters calls recovery i t → Settled e moment ev letters calls recovery i (sends_frame s frame c t)
  unfolding sends_frame with_output with_move
  sends_frame_ok s frame c t found up why h =
      let f : FrameSent = record {
        tunnel = t.control.local;
        peer = t.control.peer;
        session = s;
        remote = c.remote;
        number = number_of c.sequence;
        frame = frame;
      } in
      let small = number_is c.sequence in
      let m = move.FrameSent f in
      record {
        chain = chain_more moment ev e (at_turn e moment ev letters calls recovery i t) _ t.moves m h.chain (record {
          tunnel = tunnel t;
          there = there e moment ev letters calls recovery i t;
          peer = refl;
          call = c;
          calls = found;
          up = up;
          remote = refl;
          number = refl;
          given = why;
          after = refl;
        });
        outs = all_push _ t.outputs _ (outs_on e moment ev letters calls recovery i t (with_move m t) (goes_nowhere (tunnel t)) (m ∷ []) refl h)
            (refl, AFrame f (among_right m t.moves (m ∷ []) (inl refl)) refl refl small refl refl);
        tells = all_push _ t.outputs _ h.tells tt;
        frames = all_push _ t.moves m (frames_more t.outputs _ t.moves h.frames)
            (t.control.remote, small, among_right _ t.outputs _ (inl refl));
        stays = h.stays;
        goes = h.goes;
        held = h.held;
        fits = h.fits;
      }

  pub carried_ok : (s : ℕ) (frame : List ℕ) (c : Call) (t : Turn) → at (now t) s ≡ Some c → is_up c.state ≡ true
      → WhySent ev moment t.control s c frame → Settled e moment ev letters calls recovery i t → Settled e moment ev letters calls recovery i (carried s frame c t)
  unfolding carried
  carried_ok s frame c t found up why h =
      counts_ok s c c.sequence (sends_frame s frame c t) refl (still_found s frame c t found) up (sends_frame_ok s frame c t found up why h)

  found_on : (s : ℕ) (frame : List ℕ) (c : Call) (t : Turn) → at (now t) s ≡ Some c → at (now (carried s frame c t)) s ≡ Some (counted c)
  unfolding carried
  found_on s frame c t found = counts_found s c c.sequence (sends_frame s frame c t) refl (still_found s frame c t found)

  why_counted : (k : Control) (s : ℕ) (frame : List ℕ) (c : Call) → WhySent ev moment k s c frame → WhySent ev moment k s (counted c) frame
  why_counted k s frame c (IsGiven given passes) = IsGiven given passes
  why_counted k s frame c (IsOfLink g) = IsOfLink (record {
    calls = record { link = g.calls.link; has = g.calls.has; by = g.calls.by; at_moment = g.calls.at_moment; called = g.calls.called };
    among = g.among;
  })

  why_on : (s : ℕ) (frame : List ℕ) (c : Call) (t : Turn) (q : List ℕ) → WhySent ev moment t.control s c q
      → WhySent ev moment (carried s frame c t).control s (counted c) q
  why_on s frame c t q why =
      subst (λ (k : Control). WhySent ev moment k s (counted c) q) (sym (ap (λ (x : Turn). x.control) (carried_same s frame c t)))
      (why_counted t.control s q c why)

  -- each of these frames
  frames_ok : (s : ℕ) (fs : List (List ℕ)) (c : Call) (t : Turn) → at (now t) s ≡ Some c → is_up c.state ≡ true
      → ((f : List ℕ) → Among f fs → WhySent ev moment t.control s c f) → Settled e moment ev letters calls recovery i t
      → Settled e moment ev letters calls recovery i (sends_frames s fs c t)
  unfolding sends_frames
  frames_ok s [] c t found up why h = h
  frames_ok s (f ∷ fs) c t found up why h =
      frames_ok s fs (counted c) (carried s f c t) (found_on s f c t found) up (λ q a. why_on s f c t q (why q (inr a)))
      (carried_ok s f c t found up (why f (inl refl)) h)

  frames_found : (s : ℕ) (fs : List (List ℕ)) (c : Call) (t : Turn) → at (now t) s ≡ Some c → at (now (sends_frames s fs c t)) s ≡ Some (counted_all fs c)
  unfolding sends_frames
  frames_found s [] c t found = found
  frames_found s (f ∷ fs) c t found = frames_found s fs (counted c) (carried s f c t) (found_on s f c t found)

  -- a call of which the link is called
  pub record IsLinked (s : ℕ) (c : Call) (l : Link) (by : LinkStep) (t : Turn) : Type 0 where
    pub found : at (now t) s ≡ Some c
    pub has : c.link ≡ Some l
    pub up : is_up c.state ≡ true
    pub at_moment : by.env.moment ≡ moment
    pub called : IsCalled ev moment t.control s l by

  -- it is called
  abbrev calls_it : (s : ℕ) (c : Call) (l : Link) (by : LinkStep) (t : Turn) → IsLinked s c l by t → Calls ev moment t.control s c
  calls_it s c l by t k = record { link = l; has = k.has; by = by; at_moment = k.at_moment; called = k.called }

  pub sent_ok : (s : ℕ) (c : Call) (l : Link) (by : LinkStep) (t : Turn) → IsLinked s c l by t → Settled e moment ev letters calls recovery i t
      → Settled e moment ev letters calls recovery i (sent s c (turn_at by l) t)
  sent_ok s c l by t k h =
      frames_ok s (turn_at by l).frames c t k.found k.up (λ f a. IsOfLink (record { calls = calls_it s c l by t k; among = a })) h

  -- behind its frames the call is still there, with its link
  sent_linked : (s : ℕ) (c : Call) (l : Link) (by : LinkStep) (t : Turn) → IsLinked s c l by t
      → IsLinked s (sent_call c (turn_at by l)) l by (sent s c (turn_at by l) t)
  sent_linked s c l by t k =
      let same = frames_same s (turn_at by l).frames c t in
      record {
        found = frames_found s (turn_at by l).frames c t k.found;
        has = k.has;
        up = k.up;
        at_moment = k.at_moment;
        called = subst (λ (x : Control). IsCalled ev moment x s l by) (sym (ap (λ (x : Turn). x.control) same)) k.called;
      }

  -- a turn that was settled, with the call as its link leaves it
  kept_ok : (s : ℕ) (c : Call) (l : Link) (by : LinkStep) (t : Turn) → IsLinked s c l by t → Settled e moment ev letters calls recovery i t
      → Settled e moment ev letters calls recovery i (with_looks_of (looks_of (turn_at by l).opens s)
      (with_move (move.Negotiated (record { tunnel = t.control.local; session = s })) (with_call s (with_link (turn_at by l).link c) t)))
  unfolding with_looks_of with_move with_call
  kept_ok s c l by t k h =
      let m = move.Negotiated (record { tunnel = t.control.local; session = s }) in
      let d = with_link (turn_at by l).link c in
      let cs = looks_of (turn_at by l).opens s in
      record {
        chain = chain_more moment ev e (at_turn e moment ev letters calls recovery i t) _ t.moves m h.chain (record {
          tunnel = tunnel t;
          there = there e moment ev letters calls recovery i t;
          call = c;
          live = k.found;
          up = k.up;
          calls = calls_it s c l by t k;
          after =
              let changed = with_calls-more t.changed s (Some d) calls in
              let looked = with_looks-append t.changes cs (placed t.control.local t.added e.calls) in
              rw (changed, looked, put-put e.tunnels t.control.local (tunnel t) _) refl;
        });
        outs = outs_on e moment ev letters calls recovery i t (with_move m (with_call s d t)) (record {
          local = refl;
          peer = refl;
          remote = refl;
          acked = refl;
          inbox = refl;
          more = [];
          letters = sym (append-nil (tunnel t).letters);
          recovery = refl;
        }) (m ∷ []) refl h;
        tells = h.tells;
        frames = all_push _ t.moves m h.frames tt;
        stays = h.stays;
        goes = h.goes;
        held = h.held;
        fits = fits_changed e moment ev letters calls recovery i t.control t s (Some d) (fits_same t.control (now t) s d c k.found refl h.fits);
      }

  pub negotiated_ok : (s : ℕ) (c : Call) (l : Link) (by : LinkStep) (t : Turn) → IsLinked s c l by t → Settled e moment ev letters calls recovery i t
      → Settled e moment ev letters calls recovery i (negotiated s c (turn_at by l) t)
  unfolding negotiated
  negotiated_ok s c l by t k h =
      let v = turn_at by l in
      let u = sent s c v t in
      subst (λ (j : ℕ). Settled e moment ev letters calls recovery i (with_looks_of (looks_of v.opens s)
      (with_move (move.Negotiated (record { tunnel = j; session = s })) (with_call s (linked_call c v) u))))
      (ap (λ (x : Turn). x.control.local) (frames_same s v.frames c t))
      (kept_ok s (sent_call c v) l by u (sent_linked s c l by t k) (sent_ok s c l by t k h))

  -- a turn that changes one call
  one_changed : (s : ℕ) (d : Call) (t u : Turn) → now u ≡ put (now t) s d → Others e moment ev letters calls recovery i s t u
  one_changed s d t u is q o = ap (λ xs. at xs q) is ∙ at_other (now t) s d q o

  negotiated_leaves : (s : ℕ) (c : Call) (l : Link) (by : LinkStep) (t : Turn) → IsLinked s c l by t → Settled e moment ev letters calls recovery i t
      → Leaves e moment ev letters calls recovery i s t (negotiated s c (turn_at by l) t)
  negotiated_leaves s c l by t k h =
      let v = turn_at by l in
      let is = negotiated_is s c v t in
      record {
        ok = negotiated_ok s c l by t k h;
        others = one_changed s (linked_call c v) t (negotiated s c v t) (negotiated_put calls s c v t);
        added = ap (λ (x : Turn). x.added) is;
        ids = ap (λ (x : Turn). x.ids) is;
      }

  -- frames that are sent in a call leave the others
  sent_others : (s : ℕ) (c : Call) (v : LinkTurn) (t : Turn) → Others e moment ev letters calls recovery i s t (sent s c v t)
  sent_others s c v t q o =
      let u = sent s c v t in
      sym (at_other (now u) s c q o) ∙ (ap (λ xs. at xs q) (frames_put calls s v.frames c t c) ∙ at_other (now t) s c q o)

  -- where its link ends it a call ends
  ended_leaves : (s : ℕ) (c : Call) (l : Link) (by : LinkStep) (why : Cause) (t : Turn) → IsLinked s c l by t → s < 65536 → (turn_at by l).ends ≡ Some why
      → (is_told (row_for e.role c call_event.Close).1 ≡ true → IsCurrent recovery → Stands e moment ev why) → Settled e moment ev letters calls recovery i t
      → Leaves e moment ev letters calls recovery i s t (ends_linked e.role letters s c (turn_at by l) why t)
  unfolding ends_linked
  ended_leaves s c l by why t k small ends so h =
      let v = turn_at by l in
      let u = sent s c v t in
      let d = sent_call c v in
      let still = sent_linked s c l by t k in
      let sent = sent_ok s c l by t k h in
      let same = frames_same s v.frames c t in
      let over = ends_by why 3 None s d (row_for e.role c call_event.Close).1 u in
      let reason : WhyEnds (at_turn e moment ev letters calls recovery i u) (tunnel u) ev moment s d call_event.Close 3 None =
      IsEnded why (record { calls = calls_it s d l by u still; ends = ends }) refl refl refl in
      let one = up_owes c.state k.up in
      let left = ends_leave e moment ev letters calls recovery i why s d call_event.Close 3 None u still.found reason small
      (λ told current. (owes_told u.control (now u) s d still.found (omega (arith, one)) sent.fits, so told current))
      (row_for e.role c call_event.Close).1 refl sent in
      let keeps = settled_keeps false letters over in
      record {
        ok = settled_so e moment ev letters calls recovery i over left.ok;
        others = λ q o. ap (λ xs. at (with_calls xs calls) q) keeps.changed ∙ (left.others q o ∙ sent_others s c v t q o);
        added = keeps.added ∙ (left.added ∙ ap (λ (x : Turn). x.added) same);
        ids = keeps.ids ∙ (left.ids ∙ ap (λ (x : Turn). x.ids) same);
      }

  linked_leaves : (s : ℕ) (c : Call) (l : Link) (by : LinkStep) (o : Option Cause) (t : Turn) → (turn_at by l).ends ≡ o → IsLinked s c l by t → s < 65536
      → ((why : Cause) → (turn_at by l).ends ≡ Some why → is_told (row_for e.role c call_event.Close).1 ≡ true → IsCurrent recovery → Stands e moment ev why)
      → Settled e moment ev letters calls recovery i t → Leaves e moment ev letters calls recovery i s t (links_by e.role letters s c (turn_at by l) o t)
  unfolding links_by
  linked_leaves s c l by None t is k small so h = negotiated_leaves s c l by t k h
  linked_leaves s c l by (Some why) t is k small so h = ended_leaves s c l by why t k small is (so why is) h

  pub links_leave : (s : ℕ) (c : Call) (l : Link) (by : LinkStep) (t : Turn) → IsLinked s c l by t → s < 65536
      → ((why : Cause) → (turn_at by l).ends ≡ Some why → is_told (row_for e.role c call_event.Close).1 ≡ true → IsCurrent recovery → Stands e moment ev why)
      → Settled e moment ev letters calls recovery i t → Leaves e moment ev letters calls recovery i s t (links e.role letters s c (turn_at by l) t)
  links_leave s c l by t k small so h = linked_leaves s c l by (turn_at by l).ends t refl k small so h

  -- ---- a call that is connected

  -- a turn in which a call was connected has it, with its link
  connected_found : (sequenced : Bool) (s : ℕ) (d : Call) (t : Turn) → at (now (second_up sequenced s d t)) s ≡ Some d
  unfolding second_up with_change with_move with_call takes_one
  connected_found sequenced s d t = ap (λ xs. at xs s) (with_calls-more t.changed s (Some d) calls) ∙ at_new (now t) s d

  pub linked_up_ok : (sequenced : Bool) (s : ℕ) (c : Call) (t : Turn) → is_up (row_for e.role c call_event.IccnAcc).0 ≡ true → t.on.moment ≡ moment
      → Settled e moment ev letters calls recovery i (second_up sequenced s (connected_call e moment ev letters calls recovery i sequenced t.on.block c t) t)
      → Settled e moment ev letters calls recovery i (linked_up e.role sequenced s c t)
  unfolding linked_up connects_call advanced
  linked_up_ok sequenced s c t row same h =
      let d = connected_call e moment ev letters calls recovery i sequenced t.on.block c t in
      let l = new_link (link_env t.on) in
      negotiated_ok s d l (record { env = link_env t.on; call = Opens }) (second_up sequenced s d t)
      (record { found = connected_found sequenced s d t; has = refl; up = row; at_moment = same; called = ToOpen refl refl }) h
