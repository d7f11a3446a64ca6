-- What the records that a stop keeps change of the tunnels, and what was known before.
use Rattle.std.proofs.Common.{◌≡◌, ◌≢◌, ◌⊎◌, inl, inr, ⊎_elim, ℕ, true, cond, eqb, ltb, ◌&&◌, ◌||◌, List, [], ◌∷◌, refl, sym, ap, ◌∙◌, slice_get, Option, Some, None}
use Rattle.epoch_machine.specs.Letters.{Letter, Sccrp, Scccn, Reply, Connect}
use Rattle.epoch_machine.specs.Tunnels.{WaitReply, WaitConnect, Open, is_open, is_wait_reply, is_wait_connect, keeps_up, keeps_down}
use Rattle.epoch_machine.specs.Channels.{Stands}
use Rattle.epoch_machine.specs.Calls.{WaitsReply, WaitsConnect, lives, waits_reply, waits_connect, keeps_call}
use Rattle.epoch_machine.specs.Worlds.{World, is_sccrp, is_scccn}
use Rattle.epoch_machine.specs.Moves.{Kept, TunnelUp, TunnelDown, CallUp, CallDown, may_clear, may_keep, keeps, keeps_all, is_there, is_reply, is_connect}
use Rattle.epoch_machine.proofs.Splits.{chosen, at_name}
use Rattle.epoch_machine.proofs.Tells.{both, either, same, named, open_phase, reply_phase, connect_phase, reply_state, connect_state}

-- between the records of a stop: of the tunnels the nodes, the kinds and the phases are as before, and what was learned stays
pub record Amid (before w : World) : Type 0 where
  pub node : (x : ℕ) → w.tunnels.node x ≡ before.tunnels.node x
  pub opener : (x : ℕ) → w.tunnels.opener x ≡ before.tunnels.opener x
  pub phase : (x : ℕ) → w.tunnels.phase x ≡ before.tunnels.phase x
  pub learned : (x : ℕ) → before.tunnels.learned x ≢ 0 → w.tunnels.learned x ≡ before.tunnels.learned x

pub amid_first : (w : World) → Amid w w
amid_first w = record { node = λ x. refl; opener = λ x. refl; phase = λ x. refl; learned = λ x h. refl }

amid_up : (before w : World) (x s : ℕ) → Amid before w → (w.tunnels.learned x ≡ 0) ⊎ (w.tunnels.learned x ≡ s) → Amid before (record w { tunnels = keeps_up w.tunnels x s })
unfolding keeps_up
amid_up before w x s a h = record {
  node = a.node;
  opener = a.opener;
  phase = a.phase;
  learned = λ z n. at_name w.tunnels.learned x s z (λ v. v ≡ before.tunnels.learned z) (λ e. (let k = a.learned z n in ⊎_elim (λ u. absurd (n (sym k ∙ ap w.tunnels.learned e ∙ u))) (λ u. sym u ∙ ap w.tunnels.learned (sym e) ∙ k) h)) (λ e. a.learned z n);
}

amid_down : (before w : World) (x : ℕ) → Amid before w → Amid before (keeps w (TunnelDown x))
unfolding keeps keeps_down
amid_down before w x a = record { node = a.node; opener = a.opener; phase = a.phase; learned = a.learned }

amid_call : (before w : World) (z own : ℕ) → Amid before w → Amid before (record w { calls = keeps_call w.calls z own })
amid_call before w z own a = record { node = a.node; opener = a.opener; phase = a.phase; learned = a.learned }

amid_ended : (before w : World) (z : ℕ) → Amid before w → Amid before (keeps w (CallDown z))
unfolding keeps
amid_ended before w z a = record { node = a.node; opener = a.opener; phase = a.phase; learned = a.learned }

-- a tunnel's record: who establishes it
pub record UpTells (w : World) (n x s : ℕ) : Type 0 where
  pub node : w.tunnels.node x ≡ n
  pub sender : s ≢ 0
  pub learns : w.tunnels.learned s ≡ x
  pub why : ((w.tunnels.phase x ≡ WaitReply) × Stands w.channels s 0 0 Sccrp) ⊎ ((w.tunnels.phase x ≡ WaitConnect) × Stands w.channels s 0 1 Scccn)

sccrp_there : (o : Option Letter) → is_there is_sccrp o ≡ true → o ≡ Some Sccrp
sccrp_there None h = absurd cc
sccrp_there (Some Sccrp) h = refl
sccrp_there (Some l) h = absurd cc

scccn_there : (o : Option Letter) → is_there is_scccn o ≡ true → o ≡ Some Scccn
scccn_there None h = absurd cc
scccn_there (Some Scccn) h = refl
scccn_there (Some l) h = absurd cc

pub up_tells : (w : World) (n x s : ℕ) → may_keep w n (TunnelUp x s) ≡ true → UpTells w n x s
unfolding may_keep
up_tells w n x s h =
    let a = both (eqb (w.tunnels.node x) n) _ h in
    let b = both (ltb 0 s && eqb (w.tunnels.learned s) x) _ a.1 in
    let c = both (ltb 0 s) (eqb (w.tunnels.learned s) x) b.0 in
    record {
      node = same (w.tunnels.node x) n a.0;
      sender = named s c.0;
      learns = same (w.tunnels.learned s) x c.1;
      why = ⊎_elim
          (λ d. let f = both (is_wait_reply (w.tunnels.phase x)) (is_there is_sccrp (slice_get (w.channels.sent s 0) 0)) d in inl (reply_phase (w.tunnels.phase x) f.0, sccrp_there (slice_get (w.channels.sent s 0) 0) f.1))
          (λ d. let f = both (is_wait_connect (w.tunnels.phase x)) (is_there is_scccn (slice_get (w.channels.sent s 0) 1)) d in inr (connect_phase (w.tunnels.phase x) f.0, scccn_there (slice_get (w.channels.sent s 0) 1) f.1))
          (either (is_wait_reply (w.tunnels.phase x) && is_there is_sccrp (slice_get (w.channels.sent s 0) 0)) (is_wait_connect (w.tunnels.phase x) && is_there is_scccn (slice_get (w.channels.sent s 0) 1)) b.1);
    }

down_tells : (w : World) (n x : ℕ) → may_keep w n (TunnelDown x) ≡ true → w.tunnels.node x ≡ n
unfolding may_keep
down_tells w n x h = same (w.tunnels.node x) n (both (eqb (w.tunnels.node x) n) (may_clear w x) h).0

-- what is shown of each record holds of all of them
module _ (P : World → Type 0) (before : World) (n : ℕ) where
  pub record EachKept : Type 0 where
    pub up : (w : World) (x s : ℕ) → P w → Amid before w → UpTells before n x s → (w.tunnels.learned x ≡ 0) ⊎ (w.tunnels.learned x ≡ s) → P (record w { tunnels = keeps_up w.tunnels x s })
    pub down : (w : World) (x : ℕ) → P w → Amid before w → before.tunnels.node x ≡ n → P (keeps w (TunnelDown x))
    pub call : (w : World) (z own k : ℕ) → P w → Amid before w → may_keep before n (CallUp z own k) ≡ true → lives (w.calls.state z) ≡ true → P (record w { calls = keeps_call w.calls z own })
    pub ended : (w : World) (z : ℕ) → P w → Amid before w → may_keep before n (CallDown z) ≡ true → P (keeps w (CallDown z))

  module _ (each : EachKept) where
    one : (k : Kept) (w : World) → P w → Amid before w → may_keep before n k ≡ true → P (keeps w k) × Amid before (keeps w k)
    unfolding keeps
    one (TunnelUp x s) w p a h = chosen (λ (v : World). P v × Amid before v) (eqb (w.tunnels.learned x) 0 || eqb (w.tunnels.learned x) s) _ _ (λ g. let u = which g in (each.up w x s p a (up_tells before n x s h) u, amid_up before w x s a u)) (λ g. (p, a))
      where
        which : (eqb (w.tunnels.learned x) 0 || eqb (w.tunnels.learned x) s) ≡ true → (w.tunnels.learned x ≡ 0) ⊎ (w.tunnels.learned x ≡ s)
        which g = ⊎_elim (λ d. inl (same (w.tunnels.learned x) 0 d)) (λ d. inr (same (w.tunnels.learned x) s d)) (either (eqb (w.tunnels.learned x) 0) (eqb (w.tunnels.learned x) s) g)
    one (TunnelDown x) w p a h = (each.down w x p a (down_tells before n x h), amid_down before w x a)
    one (CallUp z own k) w p a h = chosen (λ (v : World). P v × Amid before v) (lives (w.calls.state z)) _ _ (λ g. (each.call w z own k p a h g, amid_call before w z own a)) (λ g. (p, a))
    one (CallDown z) w p a h = (each.ended w z p a h, amid_ended before w z a)

    pub all_kept : (ks : List Kept) (w : World) → P w → Amid before w → P (keeps_all before n ks w)
    unfolding keeps_all
    all_kept [] w p a = p
    all_kept (k ∷ ks) w p a = let q : P (cond (may_keep before n k) (keeps w k) w) × Amid before (cond (may_keep before n k) (keeps w k) w) = chosen (λ (v : World). P v × Amid before v) (may_keep before n k) (keeps w k) w (λ h. one k w p a h) (λ h. (p, a)) in all_kept ks _ q.0 q.1

-- a call's record: by which letter it's established
pub record CallTells (w : World) (n z own k : ℕ) : Type 0 where
  pub node : w.tunnels.node (w.calls.tunnel z) ≡ n
  pub phase : w.tunnels.phase (w.calls.tunnel z) ≡ Open
  pub why : ((w.calls.state z ≡ WaitsReply) × Stands w.channels (w.tunnels.learned (w.calls.tunnel z)) (w.tunnels.entered (w.calls.tunnel z)) k (Reply own z)) ⊎ ((w.calls.state z ≡ WaitsConnect) × (w.calls.remote z ≡ own) × Stands w.channels (w.tunnels.learned (w.calls.tunnel z)) (w.tunnels.entered (w.calls.tunnel z)) k (Connect z))

reply_there : (own z : ℕ) (o : Option Letter) → is_there (is_reply own z) o ≡ true → o ≡ Some (Reply own z)
reply_there own z None h = absurd cc
reply_there own z (Some (Reply a b)) h = let p = both (eqb a own) (eqb b z) h in let e = same a own p.0 in let f = same b z p.1 in cc
reply_there own z (Some l) h = absurd cc

connect_there : (z : ℕ) (o : Option Letter) → is_there (is_connect z) o ≡ true → o ≡ Some (Connect z)
connect_there z None h = absurd cc
connect_there z (Some (Connect b)) h = let e = same b z h in cc
connect_there z (Some l) h = absurd cc

pub call_tells : (w : World) (n z own k : ℕ) → may_keep w n (CallUp z own k) ≡ true → CallTells w n z own k
unfolding may_keep
call_tells w n z own k h =
    let x = w.calls.tunnel z in
    let o : Option Letter = slice_get (w.channels.sent (w.tunnels.learned (w.calls.tunnel z)) (w.tunnels.entered (w.calls.tunnel z))) k in
    let a = both (eqb (w.tunnels.node x) n) _ h in
    let b = both (is_open (w.tunnels.phase x)) _ a.1 in
    record {
      node = same (w.tunnels.node x) n a.0;
      phase = open_phase (w.tunnels.phase x) b.0;
      why = ⊎_elim
          (λ d. let f = both (waits_reply (w.calls.state z)) (is_there (is_reply own z) o) d in inl (reply_state (w.calls.state z) f.0, reply_there own z o f.1))
          (λ d. let f = both (waits_connect (w.calls.state z)) (eqb (w.calls.remote z) own && is_there (is_connect z) o) d in let g = both (eqb (w.calls.remote z) own) (is_there (is_connect z) o) f.1 in inr (connect_state (w.calls.state z) f.0, same (w.calls.remote z) own g.0, connect_there z o g.1))
          (either (waits_reply (w.calls.state z) && is_there (is_reply own z) o) (waits_connect (w.calls.state z) && (eqb (w.calls.remote z) own && is_there (is_connect z) o)) b.1);
    }

pub ended_tells : (w : World) (n z : ℕ) → may_keep w n (CallDown z) ≡ true → w.tunnels.node (w.calls.tunnel z) ≡ n
unfolding may_keep
ended_tells w n z h = same (w.tunnels.node (w.calls.tunnel z)) n (both (eqb (w.tunnels.node (w.calls.tunnel z)) n) (lives (w.calls.state z)) h).0
