-- A request that is taken has no answer yet.
use Rattle.std.proofs.Common.{◌≡◌, ◌≢◌, ◌⊎◌, inl, inr, ℕ, ◌<◌, true, false, Some, refl, sym, ap, ◌∙◌, subst, arith}
use Rattle.epoch_machine.specs.Letters.{Letter, Request}
use Rattle.epoch_machine.specs.Tunnels.{Linked, Open, is_established}
use Rattle.epoch_machine.specs.Channels.{Stands}
use Rattle.epoch_machine.specs.Worlds.{World, Rules, is_stop}
use Rattle.epoch_machine.proofs.Did.{Takes}
use Rattle.epoch_laws.specs.Epochs.{EpochsHold}
use Rattle.letter_laws.specs.Letters.{LettersHold}
use Rattle.letter_laws.proofs.Sources.{source, FromLearned, FromNew, FromUnchosen}
use Rattle.birth_laws.specs.Births.{CallsHold, TakenRequest, Refused, LettersMean}

-- an open tunnel takes from the other end, in its own epoch
pub record FromPartner (w : World) (x s e k : ℕ) : Type 0 where
  pub linked : Linked w.tunnels.learned s x
  pub epoch : e ≡ w.tunnels.entered x
  pub place : k ≡ w.channels.taken x e

pub partner : (r : Rules) (w : World) (x s e k : ℕ) (l : Letter) → r.reads_epochs ≡ true → EpochsHold w.tunnels → LettersHold w.tunnels w.channels → Takes r w x s e k l → w.tunnels.phase x ≡ Open → is_stop l ≡ false → FromPartner w x s e k
partner r w x s e k l reads ep ok t p n = by (source r w x s e k l reads ep ok t)
  where
    by : FromLearned w x s e ⊎ (FromNew w x s e l ⊎ FromUnchosen w x s e l) → FromPartner w x s e k
    by (inl a) =
        let link = ep.established_linked x (ap is_established p) in
        record {
          linked = record { forth = ap w.tunnels.learned (sym a.learned) ∙ link.back; back = a.learned; from_name = t.sender; to_name = link.from_name };
          epoch = a.epoch;
          place = t.next ∙ ap (λ (m : ℕ). w.channels.taken x m) (sym a.epoch);
        }
    by (inr (inl a)) = absurd (let f = sym p ∙ a.phase in cc)
    by (inr (inr a)) = absurd (let f = ap is_stop a.letter in cc)

module _ (w : World) (x s e k own : ℕ) (ch : CallsHold w.tunnels w.calls) (lm : LettersMean w.tunnels w.channels w.calls) (from : FromPartner w x s e k) (st : Stands w.channels s e k (Request own)) where
  pub means : (own ≢ 0) × (w.calls.drawn own ≡ true) × (w.calls.tunnel own ≡ s) × (w.calls.made own ≡ Some e) × (w.calls.mate own ≡ 0) × (w.tunnels.drawn s ≡ true)
  means = lm.means s e k (Request own) st

  -- no taking of this request lies behind
  not_taken : (v f : ℕ) → Linked w.tunnels.learned s v → TakenRequest w.channels s v f own → f ≡ e → ⊥
  not_taken v f l r same =
      let there : v ≡ x = sym l.forth ∙ from.linked.forth in
      let place : r.place ≡ k = lm.request_once s e r.place k own (subst (λ (m : ℕ). Stands w.channels s m r.place (Request own)) same r.stands) st in
      let below : r.place < w.channels.taken x e = subst (λ (m : ℕ). r.place < w.channels.taken x m) same (subst (λ (m : ℕ). r.place < w.channels.taken m f) there r.taken) in
      let now = from.place in
      omega arith

  pub unanswered : (y : ℕ) → w.calls.mate y ≢ own
  unanswered y m =
      let named : w.calls.mate y ≢ 0 = (λ z. means.0 (sym m ∙ z)) in
      let made : w.calls.made y ≡ Some e = (ch.mate_made y named).0 ∙ ap w.calls.made m ∙ means.3 in
      let sender : w.calls.tunnel (w.calls.mate y) ≡ s = ap w.calls.tunnel m ∙ means.2 in
      let r = lm.mate_taken y e named made in
      not_taken (w.calls.tunnel y) e (subst (λ (n : ℕ). Linked w.tunnels.learned n (w.calls.tunnel y)) sender (ch.mate_linked y named)) (subst (λ (n : ℕ). TakenRequest w.channels s (w.calls.tunnel y) e n) m (subst (λ (n : ℕ). TakenRequest w.channels n (w.calls.tunnel y) e (w.calls.mate y)) sender r)) refl

  pub unrefused : (v f z : ℕ) → Refused w.tunnels w.channels w.calls v f z → own ≢ z
  unrefused v f z r same =
      let q = lm.means r.sender f r.request.place (Request z) r.request.stands in
      let sender : r.sender ≡ s = sym q.2 ∙ ap w.calls.tunnel (sym same) ∙ means.2 in
      let epoch : Some f ≡ Some e = sym q.3 ∙ ap w.calls.made (sym same) ∙ means.3 in
      not_taken v f (subst (λ (n : ℕ). Linked w.tunnels.learned n v) sender r.linked) (subst (λ (n : ℕ). TakenRequest w.channels n v f own) sender (subst (λ (n : ℕ). TakenRequest w.channels r.sender v f n) (sym same) r.request)) cc
