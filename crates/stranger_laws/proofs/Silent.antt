-- No frame is handed up in a call of another peer's tunnel.
use Rattle.std.proofs.Common.{◌≡◌, inl, inr, ⊎_elim, ℕ, false, List, [], ◌∷◌, refl, sym, ap, ◌∙◌, subst, Some, Ok}
use Rattle.std.proofs.lemmas.Bool.{true≢false}
use Rattle.std.specs.List.{AllByRecursion}
use Rattle.id_table.specs.Ids.{at}
use Rattle.wire_base.specs.declared.letter.Side.{Side}
use Rattle.l2tp_header.specs.declared.header.Header.{Header}
use Rattle.l2tp_header.specs.Reading.{header_of, body_of}
use Rattle.session_looks.specs.Frames.{Carried, Upward, Dropped, carry_look, frame_of}
use Rattle.end_model.specs.declared.event.Event.{Event}
use Rattle.end_model.specs.declared.event.Event.TheVariants.{Datagram}
use Rattle.end_model.specs.declared.moves.Move.{Move}
use Rattle.end_model.specs.declared.out.Out.TheVariants.{Up, Drop}
use Rattle.end_model.specs.declared.tunnel.Call.{Call}
use Rattle.end_model.specs.Tunnels.{Tunnel, Env}
use Rattle.end_model.specs.End.{End, Stepped, env_of, gives_only, look_in, handed, hands_up, receives, step_in, plain_step}
use Rattle.step_laws.specs.Letters.{Among}
use Rattle.step_laws.specs.Links.{HearsFrame, Passes}
use Rattle.step_laws.specs.Looks.{LooksAreTrue}
use Rattle.step_laws.specs.Moves.{Does, Chain}
use Rattle.step_laws.specs.Steps.{AreKept, IsOfMoves, StepsAreChains}
use Rattle.step_laws.proofs.Steps.{look_is}
use Rattle.stranger_laws.proofs.Passing.{passes_to}
use Rattle.stranger_steps.proofs.Turns.{branch}

among_has : {X : Type 0} (P : X → Type 0) (xs : List X) (x : X) → AllByRecursion P xs → Among x xs → P x
among_has P [] x h a = absurd a
among_has P (y ∷ xs) x h (inl is) = subst P is h.0
among_has P (y ∷ xs) x h (inr later) = among_has P xs x h.1 later

-- each move of a chain is done between two of its ends
among_does : (moment : ℕ) (ev : Event) (e x : End) (ms : List Move) (m : Move) → Chain moment ev e ms x → Among m ms
    → (a : End) × (b : End) × Does a moment ev m b
among_does moment ev e x [] m h a = absurd a
among_does moment ev e x (k ∷ ms) m h (inl is) = (e, h.0, subst (λ q. Does e moment ev q h.0) is h.1)
among_does moment ev e x (k ∷ ms) m h (inr later) = among_does moment ev h.0 x ms m h.2 later

module _ (e : End) (looks : LooksAreTrue e) (moment : ℕ) (block : List ℕ) (peer : ℕ) (bytes : List ℕ) (i : ℕ) (t : Tunnel)
    (there : at e.tunnels i ≡ Some t) (other : t.control.peer ≡ peer → ⊥) (q : ℕ) (c : Call) (live : at t.calls q ≡ Some c) (side : Side)
    (frame : List ℕ) where
  abbrev env : Env
  env = env_of e moment block

  abbrev Silent : Stepped → Type 0
  Silent s = Among (Up q side frame) s.outputs → ⊥

  -- nothing passes of the call that is of this peer
  none_passes : (tunnel : ℕ) (f : List ℕ) → Passes e.role (look_in (at e.calls q)) tunnel peer f → ⊥
  none_passes tunnel f passes =
      let seen = looks.seen i t there q c live in
      let seen_so = subst (λ o. Passes e.role (look_in o) tunnel peer f) seen passes in
      other (passes_to e.role c.state c.link i t.control.peer tunnel peer f seen_so).1

  handed_silent : (h : Header) → h.session ≡ q → (f : List ℕ) (x : Carried)
      → carry_look e.role (look_in (at e.calls h.session)) peer h f ≡ x → Silent (handed e env h.session x)
  unfolding handed gives_only
  handed_silent h session f (Dropped w) is = λ a. ⊎_elim (λ (same : Drop w ≡ Up q side frame). absurd cc) (λ none. none) a
  handed_silent h session f (Upward tunnel to x g) is =
      let of = (look_is e.role (look_in (at e.calls h.session)) peer h f).up tunnel to x g is in
      let passes = subst (λ p. Passes e.role (look_in (at e.calls h.session)) tunnel p g) of.1 of.4 in
      absurd (none_passes tunnel g (subst (λ s. Passes e.role (look_in (at e.calls s)) tunnel peer g) session passes))

  data_silent : (h : Header) → header_of bytes ≡ Ok h → h.control ≡ false → h.session ≡ q
      → Silent (plain_step e moment block (Datagram peer bytes))
  unfolding plain_step step_in receives hands_up
  data_silent h read data_is session =
      subst (λ r. Silent (receives e env peer bytes r)) (sym read)
      (branch Silent h.control _ _
      (λ control. absurd (true≢false (sym control ∙ data_is)))
      (λ none. handed_silent h session (frame_of (body_of bytes h)) _ refl))

  -- what is handed up is what came in a data message of the session
  heard_silent : (p tunnel : ℕ) → HearsFrame (Datagram peer bytes) p tunnel q frame
      → Silent (plain_step e moment block (Datagram peer bytes))
  heard_silent p tunnel h =
      let both : Datagram peer bytes ≡ Datagram p h.bytes = h.is in
      let same : h.bytes ≡ bytes = cc in
      data_silent h.header (ap header_of (sym same) ∙ h.read) h.data_is h.session_is

  pub none_up : StepsAreChains → AreKept e → Silent (plain_step e moment block (Datagram peer bytes))
  none_up chains kept a =
      let s = plain_step e moment block (Datagram peer bytes) in
      let k = chains e kept moment block (Datagram peer bytes) in
      let h = among_has (IsOfMoves moment (Datagram peer bytes) e s.moves s.end) s.outputs (Up q side frame) k.outputs a in
      let d = among_does moment (Datagram peer bytes) e s.end s.moves _ k.chain h.there in
      heard_silent h.peer h.tunnel d.2.hears a
