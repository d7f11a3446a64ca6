-- What stands against an opening: in a tunnel, and where it would open one.
use Rattle.std.proofs.Common.{◌≡◌, inl, inr, ℕ, ◌<◌, ◌≤◌, length, Bool, true, false, cond, List, refl, sym, ◌∙◌, subst, Option, Some, None, is_some, Result, Ok, Err, arith}
use Rattle.std.proofs.lemmas.Bool.{eqb-true, eq-eqb, true≢false}
use Rattle.std.proofs.lemmas.Bool.Decides.{nat_tests}
use Rattle.std.specs.Prelude.{◌==◌, not, is_none, unwrap_or, nat_le}
use Rattle.id_source.specs.Spaces.{takes_id}
use Rattle.id_source.specs.declared.IdError.{IdError}
use Rattle.control_message.specs.declared.message.Opening.{Opening}
use Rattle.tunnel_fsm.specs.declared.table.TunnelEvent.{TunnelEvent}
use Rattle.end_model.specs.declared.event.Event.{Event}
use Rattle.end_model.specs.Reasons.{no_tunnel, no_id, Reason, out_of_order, other_version, no_recovery, no_secret}
use Rattle.end_model.specs.Tunnels.{Tunnel}
use Rattle.end_model.specs.Messages.{is_acceptable, event_by, opening_reason}
use Rattle.end_model.specs.End.{End, lacks_id, against_opening}
use Rattle.step_laws.specs.Moves.{has_all_tunnels, StandsAgainst, OtherVersion, NoTunnel, Challenges, NoId, ClosesIn, HasOtherVersion, HasRecovery, HasOtherSecret, IsUnawaited, LacksSecret, FailsSecret}
use Rattle.step_laws.specs.Causes.{IsClosedOn, WouldOpen, IsNotAccepted, AtZero, MayOpen, IsOutOfOrder, ForPeer, FailsBySecret, AsksInVain, Stands}
use Rattle.end_model.specs.Secrets.{lacks_secret}
use Rattle.step_laws.proofs.Secrets.{lacks_so, lacks_not, fails, fails_so, fails_not, acceptable_at_first}

pub other_than : (o : Opening) → (o.version == 256) ≡ false → o.version ≡ 256 → ⊥
other_than o other is = true≢false (sym (eq-eqb o.version 256 is) ∙ other)

-- ---- how many tunnels there are

below : (n : ℕ) → nat_le 1024 n ≡ false → n < 1024
below n h = grind (arith, nat_tests)

reached : (n : ℕ) → nat_le 1024 n ≡ true → 1024 ≤ n
reached n h = grind (arith, nat_tests)

pub not_all : (e : End) → has_all_tunnels e ≡ false → length e.tunnels < 1024
not_all e fewer = below (length e.tunnels) fewer

pub all_made : (e : End) → has_all_tunnels e ≡ true → 1024 ≤ length e.tunnels
all_made e all = reached (length e.tunnels) all

-- ---- the codes

-- of what stands against an opening where it would open a tunnel
module _ (e : End) (o : Opening) where
  pub against_is : (r : Reason) → against_opening e o ≡ Some r → StandsAgainst e o r.result r.error
  unfolding against_opening
  against_is r h = by (o.version == 256) (has_all_tunnels e) (lacks_secret e.config.secret o.challenge) (takes_id e.tunnel_ids) refl refl refl refl h
    where
      so : (q : Reason) → Some q ≡ Some r → StandsAgainst e o q.result q.error → StandsAgainst e o r.result r.error
      so q is stands = let same : q ≡ r = cc in subst (λ (x : Reason). StandsAgainst e o x.result x.error) same stands

      last : (d : Result ℕ IdError) → takes_id e.tunnel_ids ≡ d → lacks_id d ≡ Some r
          → ((x : IdError) → takes_id e.tunnel_ids ≡ Err x → StandsAgainst e o no_id.result no_id.error) → StandsAgainst e o r.result r.error
      last (Ok i) drawn is stands = absurd cc
      last (Err x) drawn is stands = so no_id is (stands x drawn)

      by : (a c d : Bool) (i : Result ℕ IdError) → (o.version == 256) ≡ a → has_all_tunnels e ≡ c
          → lacks_secret e.config.secret o.challenge ≡ d → takes_id e.tunnel_ids ≡ i
          → cond (not a) (Some other_version) (cond c (Some no_tunnel) (cond d (Some no_secret) (lacks_id i))) ≡ Some r → StandsAgainst e o r.result r.error
      by false c d i version all challenge drawn is = so other_version is (OtherVersion (other_than o version) refl refl)
      by true true d i version all challenge drawn is =
          so no_tunnel is (NoTunnel (eqb-true o.version 256 version) (all_made e all) refl refl)
      by true false true i version all challenge drawn is =
          so no_secret is (Challenges (eqb-true o.version 256 version) (not_all e all) (lacks_so e.config.secret o.challenge challenge) refl refl)
      by true false false i version all challenge drawn is =
          last i drawn is (λ x none. NoId (eqb-true o.version 256 version) (not_all e all) (lacks_not e.config.secret o.challenge challenge) x none refl refl)

  -- where nothing does there may be one more, and what is asked can be answered
  pub none_against : against_opening e o ≡ None → (length e.tunnels < 1024) × (LacksSecret e.config.secret o.challenge → ⊥)
  unfolding against_opening
  none_against h = by (o.version == 256) (has_all_tunnels e) (lacks_secret e.config.secret o.challenge) (lacks_id (takes_id e.tunnel_ids)) refl refl h
    where
      by : (a c d : Bool) (i : Option Reason) → has_all_tunnels e ≡ c → lacks_secret e.config.secret o.challenge ≡ d
          → cond (not a) (Some other_version) (cond c (Some no_tunnel) (cond d (Some no_secret) i)) ≡ None
          → (length e.tunnels < 1024) × (LacksSecret e.config.secret o.challenge → ⊥)
      by false c d i all lacks is = absurd cc
      by true true d i all lacks is = absurd cc
      by true false true i all lacks is = absurd cc
      by true false false i all lacks is = (not_all e all, lacks_not e.config.secret o.challenge lacks)

-- and of one that closes the tunnel in which it comes
abbrev reason_by : Bool → Bool → Bool → Reason
reason_by a b c = unwrap_or (cond (not a) (Some other_version) (cond b (Some no_recovery) (cond c (Some no_secret) None))) out_of_order

pub closes_in : (secret asked : Option (List ℕ)) (o : Opening) (result : ℕ) (error : Option ℕ) → result ≡ (opening_reason secret asked o).result
    → error ≡ (opening_reason secret asked o).error → ClosesIn secret asked o result error
closes_in secret asked o result error r x = rw (r, x) (by (o.version == 256) (is_some o.recovery) (fails secret asked o) refl refl refl)
  where
    by : (a b c : Bool) → (o.version == 256) ≡ a → is_some o.recovery ≡ b → fails secret asked o ≡ c
        → ClosesIn secret asked o (reason_by a b c).result (reason_by a b c).error
    by false b c version recovery failed = HasOtherVersion (other_than o version) refl refl
    by true true c version recovery failed = HasRecovery (eqb-true o.version 256 version) recovery refl refl
    by true false true version recovery failed = HasOtherSecret (eqb-true o.version 256 version) recovery (fails_so secret asked o failed) refl refl
    by true false false version recovery failed = IsUnawaited (eqb-true o.version 256 version) recovery (fails_not secret asked o failed) refl refl

-- ---- the causes

module _ (e : End) (moment : ℕ) (ev : Event) (o : Opening) where
  -- ---- in a tunnel

  -- by its version, a recovery and the secret
  abbrev against_by : Bool → Bool → Bool → Option Reason
  against_by a b c = cond (not a) (Some other_version) (cond b (Some no_recovery) (cond c (Some no_secret) None))

  module _ (good bad : TunnelEvent) (t : Tunnel) (refused : IsClosedOn e t bad → IsNotAccepted e ev o)
      (asked : Option (List ℕ)) (in_order : is_acceptable e.config.secret asked o ≡ true → IsClosedOn e t good → IsOutOfOrder e ev)
      (failing : FailsSecret e.config.secret asked o → FailsBySecret e ev o) (may : MayOpen e ev o) where
    -- the tunnel is closed for it, or since it doesn't wait for it
    pub opening_stands : IsClosedOn e t (event_by good bad e.config.secret asked o) → Stands e moment ev (opening_reason e.config.secret asked o).cause
    opening_stands closed = by (o.version == 256) (is_some o.recovery) (fails e.config.secret asked o) refl refl refl closed
      where
        by : (a b c : Bool) → (o.version == 256) ≡ a → is_some o.recovery ≡ b → fails e.config.secret asked o ≡ c
            → IsClosedOn e t (cond (is_none (against_by a b c)) good bad) → Stands e moment ev (unwrap_or (against_by a b c) out_of_order).cause
        by false b c version recovery challenge on = inl (o, inl (refused on), other_than o version)
        by true true c version recovery challenge on = inl (o, refused on, (eqb-true o.version 256 version, recovery))
        by true false true version recovery failed on =
            inl (o, refused on, (eqb-true o.version 256 version, recovery), failing (fails_so e.config.secret asked o failed), may)
        by true false false version recovery failed on = inr (inl (in_order (rw (version, recovery, failed) refl) on))

  -- ---- where it would open one

  pub against_stands : WouldOpen e ev o → (r : Reason) → against_opening e o ≡ Some r → Stands e moment ev r.cause
  unfolding against_opening
  against_stands would r h =
      by (o.version == 256) (has_all_tunnels e) (lacks_secret e.config.secret o.challenge) (takes_id e.tunnel_ids) refl refl refl refl h
    where
      so : (q : Reason) → Some q ≡ Some r → Stands e moment ev q.cause → Stands e moment ev r.cause
      so q is stands = let same : q ≡ r = cc in subst (λ (x : Reason). Stands e moment ev x.cause) same stands

      last : (d : Result ℕ IdError) → takes_id e.tunnel_ids ≡ d → lacks_id d ≡ Some r → is_acceptable e.config.secret None o ≡ true → has_all_tunnels e ≡ false
          → Stands e moment ev r.cause
      last (Ok i) drawn is good fewer = absurd cc
      last (Err x) drawn is good fewer = so _ is (ForPeer o x would good fewer drawn)

      by : (a c d : Bool) (i : Result ℕ IdError) → (o.version == 256) ≡ a → has_all_tunnels e ≡ c
          → lacks_secret e.config.secret o.challenge ≡ d → takes_id e.tunnel_ids ≡ i
          → cond (not a) (Some other_version) (cond c (Some no_tunnel) (cond d (Some no_secret) (lacks_id i))) ≡ Some r → Stands e moment ev r.cause
      by false c d i version all challenge drawn is = so other_version is (inl (o, inl (AtZero would), other_than o version))
      by true true d i version all challenge drawn is =
          so no_tunnel is (inr (inr (o, would, (eqb-true o.version 256 version, would.ordinary))), all)
      by true false true i version all challenge drawn is =
          so no_secret is
          (inl (o, AtZero would, (eqb-true o.version 256 version, would.ordinary), AsksInVain (lacks_so e.config.secret o.challenge challenge), λ w. all))
      by true false false i version all challenge drawn is = last i drawn is (acceptable_at_first e.config.secret o version would.ordinary challenge) all
