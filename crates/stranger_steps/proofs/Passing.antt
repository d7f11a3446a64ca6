-- What the data plane sees of a session goes to the peer of a tunnel, so what is handed up is of that peer.
use Rattle.std.proofs.Common.{◌≡◌, ℕ, Bool, true, false, List, refl, subst, Option, Some, None, Ok, arith}
use Rattle.std.proofs.lemmas.Bool.{eqb-true}
use Rattle.std.specs.Prelude.{◌==◌, ◌||◌, not, nat_lt, length}
use Rattle.id_table.specs.Ids.{at}
use Rattle.id_source.specs.Spaces.{takes_id, draw_is}
use Rattle.wire_base.specs.declared.letter.Side.{Side}
use Rattle.session_looks.specs.declared.look.Look.{Look}
use Rattle.session_looks.specs.declared.look.Look.TheVariants as look
use Rattle.session_looks.specs.Frames.{Carried, Upward, is_for_lcp, carry_known, carry_look}
use Rattle.l2tp_header.specs.declared.header.Header.{Header}
use Rattle.end_names.specs.declared.role.Role.{Role}
use Rattle.end_model.specs.Tunnels.{Tunnel}
use Rattle.end_model.specs.End.{End, look_in}
use Rattle.stranger_steps.specs.Strangers.{GoesTo, LooksFitTunnels}
use Rattle.stranger_steps.proofs.Turns.{branch}

not_false : (b : Bool) → not b ≡ false → b ≡ true
not_false true is = refl
not_false false is = absurd cc

-- what is handed up that came from an address is of this tunnel, and of the address
abbrev IsUpOf : ℕ → ℕ → ℕ → Carried → Type 0
IsUpOf tunnel peer from c = (t to : ℕ) (side : Side) (f : List ℕ) → c ≡ Upward t to side f → (tunnel ≡ t) × (peer ≡ from)

known_up : (role : Role) (up : Bool) (tunnel of peer from : ℕ) (frame : List ℕ)
    → IsUpOf tunnel peer from (carry_known role up tunnel of peer from frame)
unfolding carry_known
known_up role up tunnel of peer from frame =
    branch (IsUpOf tunnel peer from) (not (tunnel == of)) _ _ (λ other t to side f is. absurd cc)
    (λ same. branch (IsUpOf tunnel peer from) (not (peer == from)) _ _ (λ other t to side f is. absurd cc)
    (λ met. branch (IsUpOf tunnel peer from) (nat_lt (length frame) 2) _ _ (λ short t to side f is. absurd cc)
    (λ long. branch (IsUpOf tunnel peer from) (up || is_for_lcp role frame) _ _
    (λ passes t to side f is. (cc, eqb-true peer from (not_false _ met)))
    (λ closed t to side f is. absurd cc))))

module _ (e : End) (looks : LooksFitTunnels e) (peer : ℕ) where
  look_goes : (h : Header) (frame : List ℕ) (tunnel to : ℕ) (side : Side) (f : List ℕ) (l : Look) → look_in (at e.calls h.session) ≡ l
      → carry_look e.role l peer h frame ≡ Upward tunnel to side f → GoesTo e peer tunnel
  unfolding carry_look
  look_goes h frame tunnel to side f look.Unborn seen is = absurd cc
  look_goes h frame tunnel to side f look.Dead seen is = absurd cc
  look_goes h frame tunnel to side f (look.Bound i q) seen is =
      let g = known_up e.role false i h.tunnel q peer frame tunnel to side f is in
      subst (λ j. GoesTo e peer j) g.0 (subst (λ p. GoesTo e p i) g.1 (looks.bound h.session i q seen))
  look_goes h frame tunnel to side f (look.Established i q) seen is =
      let g = known_up e.role true i h.tunnel q peer frame tunnel to side f is in
      subst (λ j. GoesTo e peer j) g.0 (subst (λ p. GoesTo e p i) g.1 (looks.established h.session i q seen))

  -- what is handed up of a data message of the peer is of a tunnel to it
  pub upward_goes : (h : Header) (frame : List ℕ) (tunnel to : ℕ) (side : Side) (f : List ℕ)
      → carry_look e.role (look_in (at e.calls h.session)) peer h frame ≡ Upward tunnel to side f → GoesTo e peer tunnel
  upward_goes h frame tunnel to side f is = look_goes h frame tunnel to side f (look_in (at e.calls h.session)) refl is

-- no tunnel has an id that wasn't drawn
pub none_at : (e : End) → LooksFitTunnels e → (i : ℕ) → takes_id e.tunnel_ids ≡ Ok i → at e.tunnels i ≡ None
none_at e looks i drawn = by (at e.tunnels i) refl
  where
    by : (o : Option Tunnel) → at e.tunnels i ≡ o → o ≡ None
    by None is = refl
    by (Some t) is =
        let below = looks.drawn i t is in
        let next = (draw_is e.tunnel_ids i drawn).0 in
        absurd (omega (arith, below, next))
