-- A call ends as its peer's CDN comes, and in the machine that call alone.
use Rattle.std.proofs.Common.{◌≡◌, ◌≢◌, inr, ⊎_elim, ℕ, ◌<◌, Bool, true, false, cond, [], length, refl, sym, ap, ap₂, ◌∙◌, subst, Option, Some, arith}
use Rattle.id_table.specs.Ids.{at, without}
use Rattle.id_table.specs.Order.{same_or_not, at_without_other, at_without_same}
use Rattle.control_message.specs.declared.message.Message.TheVariants as message
use Rattle.end_model.specs.declared.event.Event.{Event}
use Rattle.end_model.specs.declared.moves.EndHeard.{EndHeard}
use Rattle.end_model.specs.declared.moves.Move.TheVariants as move
use Rattle.end_model.specs.declared.tunnel.Call.{Call}
use Rattle.end_model.specs.Tunnels.{Tunnel}
use Rattle.end_model.specs.Channels.{counts_taken}
use Rattle.end_model.specs.Asking.{session_named}
use Rattle.end_model.specs.End.{End}
use Rattle.world_model.specs.World.{Sender, Deed}
use Rattle.epoch_machine.specs.Letters.{Cdn}
use Rattle.epoch_machine.specs.Tunnels.{Open}
use Rattle.epoch_machine.specs.Calls.{Calls, CallState, NoCall, ends, is_named}
use Rattle.epoch_machine.specs.Worlds.{World, all_rules, took_one, takes, takes_open, takes_cdn}
use Rattle.epoch_machine.specs.Moves.{Delivers}
use Rattle.step_laws.specs.Moves.{heard_so}
use Rattle.connection_laws.specs.Facts.{Accounts}
use Rattle.connection_laws.specs.Steps.{after}
use Rattle.session_laws.specs.Names.{name, name_of}
use Rattle.session_laws.specs.Joined.{Ends, CallJoined, CallsJoined, TunnelJoined}
use Rattle.session_laws.proofs.Births.{BirthsSame, else_follow}
use Rattle.session_laws.proofs.Keeps.{with_end, Laws, IsMade, Follows}
use Rattle.session_laws.proofs.Names.{same_name, name_not_zero, known_name}
use Rattle.session_laws.proofs.States.{not_closed}
use Rattle.session_laws.proofs.Ground.{joined_before}
use Rattle.session_laws.proofs.Heard.{Delivered, delivered, here_fits, here_joined, open_phase}
use Rattle.session_laws.proofs.CallGround.{CallSame, OneCall, one_call_follows}
use Rattle.session_laws.proofs.CallLaws.{WorldHolds, world_holds, cdn_own, remote_once, Named, ByHeader, ByRemote, named_tells, tells_named}
use Rattle.session_laws.proofs.CallNamed.{no_header, some_header, named_by_header, named_knows}
use Rattle.session_laws.proofs.CallFacts.{here_or_gone, gone_elsewhere}
use Rattle.session_laws.proofs.CallSpeaks.{calls_and_take, hears_one, speaks_goes, account_is}

-- ---- in the machine

abbrev without_named : World → ℕ → ℕ → ℕ → Calls
without_named w x own header = ends w.calls (is_named w.calls x own header)

abbrev ended : World → ℕ → ℕ → ℕ → World
ended w x own header = record (took_one w x) { calls = without_named w x own header }

takes_end : (w : World) (x s own header : ℕ) → w.tunnels.phase x ≡ Open → takes all_rules (took_one w x) x s (Cdn own header) 0 ≡ ended w x own header
unfolding takes took_one takes_open takes_cdn
takes_end w x s own header phase = rw phase refl

end_asks : (w : World) (x own header y k : ℕ) → (without_named w x own header).asks y k ≡ w.calls.asks y k
unfolding ends
end_asks w x own header y k = refl

-- a call that isn't named, or doesn't live, stays
end_same : (w : World) (x own header k : ℕ) → (is_named w.calls x own header k ≡ true → w.calls.state k ≡ NoCall) → CallSame w (ended w x own header) k
unfolding ends
end_same w x own header k gone = record {
  drawn = refl;
  tunnel = refl;
  remote = refl;
  state = by (is_named w.calls x own header k) (w.calls.state k) gone;
}
  where
    by : (b : Bool) (s : CallState) → (b ≡ true → s ≡ NoCall) → cond b NoCall s ≡ s
    by true s h = sym (h refl)
    by false s h = refl

end_births : (w : World) (x own header : ℕ) → BirthsSame w (ended w x own header)
unfolding ends
end_births w x own header = record { count = refl; birth = λ k. refl; mate = λ k. refl; remote = λ k. refl }

-- one that is named ends
end_here : (w : World) (x own header k : ℕ) → is_named w.calls x own header k ≡ true → (ended w x own header).calls.state k ≡ NoCall
unfolding ends
end_here w x own header k named = rw named refl

-- ---- the move

module _ (laws : Laws) (accs : Accounts) (ends : Ends) (w : World) (n : ℕ) (e x : End) (sender : Option Sender) (moment : ℕ) (ev : Event)
    (m : EndHeard) (d : Deed) (h : IsMade accs ends w n e x sender moment ev (move.EndHeard m) d) where
  abbrev i : ℕ
  i = m.tunnel

  abbrev s : ℕ
  s = m.session

  abbrev t : Tunnel
  t = h.moved.does.tunnel

  abbrev call : Call
  call = h.moved.does.call

  -- the session of the header
  abbrev session : ℕ
  session = h.moved.does.letter.header.session

  abbrev remote : ℕ
  remote = h.moved.does.remote

  abbrev u : Tunnel
  u = record t { control = counts_taken t.control; calls = without t.calls s }

  del : Delivered accs w n i sender session (message.Cdn remote h.moved.does.code h.moved.does.error)
  del = delivered laws.heard accs ends w n e x sender moment ev (move.EndHeard m) d h i t h.moved.does.there
      (not_closed t.control.state 3 h.moved.does.open_is (omega arith)) session
      (message.Cdn remote h.moved.does.code h.moved.does.error) tt
      (heard_so ev t h.moved.does.letter (message.Cdn remote h.moved.does.code h.moved.does.error) h.moved.does.takes.next h.moved.does.said)

  named_is : s ≡ session_named t.calls session remote
  named_is = h.moved.does.session_is

  old : TunnelJoined w n i (accs n i) (Some t)
  old = here_joined accs ends w n e x sender moment ev (move.EndHeard m) d h i t h.moved.does.there

  calls : CallsJoined w accs n e
  calls = joined_before accs ends w n e x sender moment ev (move.EndHeard m) d h

  ifits : i < 65536
  ifits = here_fits accs ends w n e x sender moment ev (move.EndHeard m) d h i t h.moved.does.there

  holds : WorldHolds w
  holds = world_holds laws.births w h.joined.moves h.joined.run

  before : CallJoined w n i (accs n i).peer s call
  before = calls.live i t h.moved.does.there s call h.moved.does.live

  abbrev X : ℕ
  X = name n i

  abbrev Z : ℕ
  Z = name n s

  abbrev S : ℕ
  S = name del.from.node del.from.tunnel

  -- the call that ended at the other end
  abbrev own : ℕ
  own = name_of del.from.node remote

  abbrev header : ℕ
  header = name_of n session

  abbrev v : World
  v = ended w X own header

  below : s < e.session_ids.next
  below = calls.drawn i t h.moved.does.there s call h.moved.does.live

  fits : s < 65536
  fits = let lt = below in let most = calls.most in omega arith

  -- ---- where the header names no session

  stands_none : session ≡ 0 → header ≡ 0
  stands_none none = ap (λ q. name_of n q) none

  own_drawn : session ≡ 0 → (own ≢ 0) × (w.calls.drawn own ≡ true)
  own_drawn none = cdn_own w holds S 0 (length (accs n i).taken) own (del.stands ∙ ap (λ q. Some (Cdn own q)) (stands_none none))

  knows : session ≡ 0 → call.remote ≡ remote
  knows none = ⊎_elim
      (λ (is : call.remote ≡ remote). is)
      (λ (zero : session_named t.calls 0 remote ≡ 0).
      let some = before.some in
      let is : s ≡ 0 = named_is ∙ ap (λ q. session_named t.calls q remote) none ∙ zero in
      absurd (omega (arith, is)))
      (named_knows t.calls remote call (ap (λ q. at t.calls q) (sym (named_is ∙ ap (λ q. session_named t.calls q remote) none)) ∙ h.moved.does.live))

  knows_own : session ≡ 0 → w.calls.remote Z ≡ own
  knows_own none = before.remote ∙ ap₂ name_of del.node (knows none)

  -- ---- the call is named

  named : Named w.calls own header Z
  named = ⊎_elim
      (λ (none : session ≡ 0). ByRemote (stands_none none) (own_drawn none).0 (knows_own none))
      (λ (other : session ≡ 0 → ⊥).
      let lt : 0 < session = omega (arith, other) in
      let is = known_name n session lt in
      ByHeader (λ zero. name_not_zero n session lt (sym is ∙ zero))
      (ap (λ q. name n q) (named_is ∙ named_by_header t.calls session remote other) ∙ sym is))
      (same_or_not session 0)

  -- and no other one of the tunnel
  only : (q : ℕ) → q < 65536 → (c : Call) → at t.calls q ≡ Some c → Named w.calls own header (name n q) → q ≡ s
  only q qfits c there (ByHeader some is) =
      let other = some_header n session some in
      let lt : 0 < session = omega (arith, other) in
      (same_name n q n session qfits del.header (is ∙ known_name n session lt)).1 ∙ sym (named_by_header t.calls session remote other) ∙ sym named_is
  only q qfits c there (ByRemote none some is) =
      let zero = no_header n session none in
      let pos = (calls.live i t h.moved.does.there q c there).some in
      let same = remote_once w holds (name n q) Z own (name_not_zero n q pos) (name_not_zero n s before.some) some is (knows_own zero) in
      (same_name n q n s qfits fits same).1

  others : (k q : ℕ) → k < 256 → q < 65536 → ((k ≡ n) × (q ≡ s) → ⊥) → CallSame w v (name k q)
  others k q kfits qfits other = end_same w X own header (name k q) (λ is.
      (let tells = named_tells w.calls X own header (name k q) is in
      ⊎_elim
      (λ (here : k ≡ n). by_here here tells)
      (λ (apart : k ≡ n → ⊥). gone_elsewhere w accs n i ifits k (ends k) (h.joined.nodes k kfits) apart q qfits tells.0)
      (same_or_not k n)))
    where
      by_here : k ≡ n → (w.calls.tunnel (name k q) ≡ X) × Named w.calls own header (name k q) → w.calls.state (name k q) ≡ NoCall
      by_here here tells = ap (λ p. w.calls.state (name p q)) here ∙ ⊎_elim
          (λ (a : (c : Call) × (at t.calls q ≡ Some c)).
          absurd (other (here, only q qfits a.0 a.1 (subst (λ p. Named w.calls own header (name p q)) here tells.1))))
          (λ (gone : w.calls.state (name n q) ≡ NoCall). gone)
          (here_or_gone w accs n i ifits e calls t h.moved.does.there q qfits (sym (ap (λ p. w.calls.tunnel (name p q)) here) ∙ tells.0))

  next : x.session_ids ≡ e.session_ids
  next = ap (λ (y : End). y.session_ids) h.moved.does.after

  pub end_heard_follows : Follows w n e x (move.EndHeard m) (after accs d) (with_end ends n x)
  end_heard_follows =
      let is = account_is accs ends w n e x sender moment ev (move.EndHeard m) d h (λ k j. refl) v t u h.moved.does.there in
      let order = (h.moved.within.end.live i t h.moved.does.there).order in
      let one : OneCall w v n i (accs n i).peer e x t u s = record {
        there = h.moved.does.there;
        put_is = ap (λ (y : End). y.tunnels) h.moved.does.after;
        role = ap (λ (y : End). y.role) h.moved.does.after;
        rises = rw next (omega arith);
        most = rw next calls.most;
        some = before.some;
        below = rw next below;
        others = λ q other. at_without_other t.calls s q other;
        waits = λ one. one;
        mine = inr (call, h.moved.does.live);
        calls = others;
        here = rw (at_without_same t.calls s order) (end_here w X own header Z (tells_named w.calls X own header Z before.tunnel named));
      } in
      let speaks = hears_one d n e.role sender (move.EndHeard m) m.taken (accs n i) (after accs d n i) h.moved.deed del.is_open is in
      one_call_follows accs ends w n e x sender moment ev (move.EndHeard m) d h (λ k j. refl) v t u s
      (else_follow w v n e x (move.EndHeard m) tt (end_births w X own header) (ap (λ (y : End). y.role) h.moved.does.after) next)
      (subst (λ p. OneCall w v n i p e x t u s) (sym speaks.moves.peer) one)
      (speaks_goes accs ends w n e x sender moment ev (move.EndHeard m) d h (λ k j. refl) v t u h.moved.does.there [] 1
      (calls_and_take w X (without_named w X own header) old.entered (end_asks w X own header))
      speaks refl (Delivers X S 0 (length (accs n i).taken) 0)
      (del.is 0 ∙ takes_end w X S own header (old.phase ∙ open_phase t.control.state h.moved.does.open_is)))
