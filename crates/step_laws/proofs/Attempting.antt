-- What holds of a peer's attempt that is declined, dropped or answered holds of what an SCCRQ that asks for a recovery does.
use Rattle.std.proofs.Common.{◌≡◌, ℕ, refl, sym, subst, Option, Some, None, Result, Ok, Err}
use Rattle.std.specs.Prelude.{◌==◌, not, nat_lt}
use Rattle.id_table.specs.Ids.{at}
use Rattle.id_source.specs.Spaces.{takes_id}
use Rattle.id_source.specs.declared.IdError.{IdError}
use Rattle.wire_base.specs.declared.why.Why.{Why}
use Rattle.wire_base.specs.declared.why.Why.TheVariants as why
use Rattle.control_message.specs.declared.message.Message.{Message}
use Rattle.control_message.specs.declared.message.Message.TheVariants.{Sccrq, Sccrp, Scccn, StopCcn, Hello, Ocrq, Ocrp, Occn, Icrq, Icrp, Iccn, Cdn, Wen, Sli, Fsq, Fsr}
use Rattle.control_message.specs.declared.message.Opening.{Opening}
use Rattle.control_message.specs.declared.message.Recovery.{Recovery}
use Rattle.end_model.specs.declared.out.Out.TheVariants.{Drop}
use Rattle.end_model.specs.Tunnels.{Tunnel, Env, turn_in}
use Rattle.end_model.specs.Reasons.{Reason, no_recovery, other_version, no_secret, no_id}
use Rattle.end_model.specs.Secrets.{lacks_secret}
use Rattle.end_model.specs.Recovering.{asked_in, froze}
use Rattle.end_model.specs.End.{End, Stepped, gives_only, after_both, declined, is_tied, is_recoverable, freezes, recovers_tunnel, recovers_by, recovers}
use Rattle.step_laws.specs.Steps.{AreKept}
use Rattle.step_laws.proofs.Lists.{branch}

module _ (e : End) (kept : AreKept e) (env : Env) (P : Stepped → Type 0)
    (refused : (peer remote nr : ℕ) (r : Reason) → P (declined e peer remote nr r))
    (dropped : (w : Why) → P (gives_only e (Drop w)))
    (frozen : (t : Tunnel) (o : Opening) (local draw : ℕ) → at e.tunnels t.control.local ≡ Some t
    → P (after_both e t.control.local t (froze e.role e.config t.calls o local draw (turn_in t env)))) where
  freezes_so : (peer nr : ℕ) (o : Opening) (t : Tunnel) → at e.tunnels t.control.local ≡ Some t → (a b : Result ℕ IdError)
      → P (freezes e env peer nr o t.control.local t a b)
  unfolding freezes
  freezes_so peer nr o t is (Err x) b = refused peer o.tunnel nr no_id
  freezes_so peer nr o t is (Ok local) (Err x) = refused peer o.tunnel nr no_id
  freezes_so peer nr o t is (Ok local) (Ok draw) = frozen t o local draw is

  tunnel_so : (peer nr : ℕ) (o : Opening) (i : ℕ) (x : Option Tunnel) → at e.tunnels i ≡ x → (sender : ℕ) → P (recovers_tunnel e env peer nr o i x sender)
  unfolding recovers_tunnel
  tunnel_so peer nr o i None is sender = refused peer o.tunnel nr no_recovery
  tunnel_so peer nr o i (Some t) is sender =
      branch P (not (is_recoverable peer sender t)) _ _
      (λ other. refused peer o.tunnel nr no_recovery)
      (λ good. branch P (is_tied e.role t) _ _
      (λ tied. dropped why.Tie)
      (λ untied. branch P (nat_lt (asked_in o) t.control.mark) _ _
      (λ older. dropped why.Mark)
      (λ newer. branch P (lacks_secret e.config.secret o.challenge) _ _
      (λ lacks. refused peer o.tunnel nr no_secret)
      (λ able. frozen_at i t is (takes_id env.ids.tunnels) (takes_id env.ids.recoveries)))))
    where
      frozen_at : (i : ℕ) (t : Tunnel) → at e.tunnels i ≡ Some t → (a b : Result ℕ IdError) → P (freezes e env peer nr o i t a b)
      frozen_at i t is a b =
          let local = (kept.tunnels i t is).local in
          subst (λ j. P (freezes e env peer nr o j t a b)) local (freezes_so peer nr o t (subst (λ j. at e.tunnels j ≡ Some t) (sym local) is) a b)

  by_so : (peer nr : ℕ) (o : Opening) (x : Option Recovery) → P (recovers_by e env peer nr o x)
  unfolding recovers_by
  by_so peer nr o None = refused peer o.tunnel nr no_recovery
  by_so peer nr o (Some named) =
      branch P (not (o.version == 256)) _ _
      (λ other. refused peer o.tunnel nr other_version)
      (λ good. tunnel_so peer nr o named.receiver (at e.tunnels named.receiver) refl named.sender)

  pub recovers_so : (peer nr : ℕ) (m : Result Message Why) → P (recovers e env peer nr m)
  unfolding recovers
  recovers_so peer nr (Ok (Sccrq o)) = by_so peer nr o o.recovery
  recovers_so peer nr (Ok (Sccrp o)) = dropped why.Tunnel
  recovers_so peer nr (Ok (Scccn response)) = dropped why.Tunnel
  recovers_so peer nr (Ok (StopCcn tunnel code error)) = dropped why.Tunnel
  recovers_so peer nr (Ok Hello) = dropped why.Tunnel
  recovers_so peer nr (Ok (Ocrq remote)) = dropped why.Tunnel
  recovers_so peer nr (Ok Ocrp) = dropped why.Tunnel
  recovers_so peer nr (Ok Occn) = dropped why.Tunnel
  recovers_so peer nr (Ok (Icrq remote serial calling)) = dropped why.Tunnel
  recovers_so peer nr (Ok (Icrp remote)) = dropped why.Tunnel
  recovers_so peer nr (Ok (Iccn speed framing sequenced)) = dropped why.Tunnel
  recovers_so peer nr (Ok (Cdn remote code error)) = dropped why.Tunnel
  recovers_so peer nr (Ok Wen) = dropped why.Tunnel
  recovers_so peer nr (Ok Sli) = dropped why.Tunnel
  recovers_so peer nr (Ok (Fsq sessions)) = dropped why.Tunnel
  recovers_so peer nr (Ok (Fsr sessions)) = dropped why.Tunnel
  recovers_so peer nr (Err w) = dropped why.Tunnel
