-- Which tunnels messages name, and which messages open, answer and stop.
use Rattle.std.proofs.Common.{◌≡◌, ⊎_elim, ℕ, List, refl, sym, ◌∙◌, subst, Result, Ok, Err}
use Rattle.avp_codec.specs.declared.avp.Avp.{Avp}
use Rattle.avp_codec.specs.declared.error.AvpError.{AvpError}
use Rattle.avp_codec.specs.Reading.{avps_of}
use Rattle.control_message.specs.declared.message.Message.TheVariants.{Sccrp}
use Rattle.control_message.specs.declared.message.MessageError.{MessageError}
use Rattle.control_message.specs.declared.message.Opening.{Opening}
use Rattle.control_message.specs.declared.message.Read.{Read}
use Rattle.control_message.specs.declared.message.Read.TheVariants.{Known, Ignored}
use Rattle.end_model.specs.declared.event.Addressee.TheVariants.{Answers}
use Rattle.end_model.specs.declared.out.ControlOrigin.{ControlOrigin}
use Rattle.end_model.specs.Reading.{message_in, pairs_read, message_read, at_zero, zero_pairs, zero_read, message_said}
use Rattle.world_model.specs.declared.packet.Packet.{Packet}
use Rattle.world_model.specs.World.{World}
use Rattle.channel_laws.specs.Accounts.{Opener, Acceptor, Renewed, Account, History}
use Rattle.channel_laws.specs.Facts.{IsMade, AreLinked, IsCopy, Holds}
use Rattle.channel_laws.proofs.Linked.{part_cases, opener_of, acceptor_of, renewed_of}

-- ---- an SCCRP that names no tunnel is for none of a recovery

module _ (body : List ℕ) (o : Opening) where
  reads_so : (avps : List Avp) (q : Result Read MessageError) → message_read q ≡ Ok (Sccrp o) → zero_read avps q ≡ Answers o.tunnel
  unfolding message_read zero_read
  reads_so avps (Ok (Known y)) said = let same : y ≡ Sccrp o = cc in subst (λ z. zero_read avps (Ok (Known z)) ≡ Answers o.tunnel) (sym same) refl
  reads_so avps (Ok (Ignored n)) said = absurd cc
  reads_so avps (Err e) said = absurd cc

  pairs_so : (r : Result (List Avp) AvpError) → pairs_read r ≡ Ok (Sccrp o) → zero_pairs r ≡ Answers o.tunnel
  unfolding pairs_read zero_pairs
  pairs_so (Ok avps) said = reads_so avps (message_said avps) said
  pairs_so (Err e) said = absurd cc

  pub reply_answers : message_in body ≡ Ok (Sccrp o) → at_zero body ≡ Answers o.tunnel
  unfolding message_in at_zero
  reply_answers said = pairs_so (avps_of body) said

-- ---- the tunnels of an account

module _ (w : World) (h : History) (holds : Holds w h) where
  linked_made : (n i m j : ℕ) → AreLinked h.accounts n i m j → IsMade (h.accounts m j 0)
  linked_made n i m j l none = ⊎_elim
      (λ (k : ((h.accounts n i 0).part ≡ Opener) × ((h.accounts m j 0).part ≡ Acceptor)). let two = sym k.1 ∙ none in absurd cc)
      (λ (k : ((h.accounts n i 0).part ≡ Acceptor) × ((h.accounts m j 0).part ≡ Opener)). let two = sym k.1 ∙ none in absurd cc)
      l.parts

  -- the other end that it has learned is a tunnel
  pub learned_made : (n i e : ℕ) → IsMade (h.accounts n i e) → ((h.accounts n i e).remote ≡ 0 → ⊥) → IsMade (h.accounts (h.accounts n i e).peer (h.accounts n i e).remote 0)
  learned_made n i e made known none = ⊎_elim
      (λ (is : a.part ≡ Opener). let two = sym ((opener_of w h n i e a (holds.accounts n i e) is).1.part known) ∙ none in absurd cc)
      (λ k. ⊎_elim
      (λ (is : a.part ≡ Acceptor). let two = sym (acceptor_of w h n i e a (holds.accounts n i e) is).1.part ∙ none in absurd cc)
      (λ (is : a.part ≡ Renewed). linked_made n i a.peer a.remote (renewed_of w h n i e a (holds.accounts n i e) is).linked none)
      k)
      (part_cases a.part made)
    where
      a : Account
      a = h.accounts n i e

  -- a copy names none, or a tunnel
  pub copy_names : (p : Packet) (o : ControlOrigin) (e : ℕ) → (c : IsCopy (h.accounts p.from o.tunnel e) p o) → (c.tunnel ≡ 0 → ⊥)
      → IsMade (h.accounts p.to c.tunnel 0)
  copy_names p o e c some = ⊎_elim
      (λ k. absurd (some k.0))
      (λ (k : (c.tunnel ≡ 0 → ⊥) × (c.tunnel ≡ (h.accounts p.from o.tunnel e).remote)).
      subst (λ q. IsMade (h.accounts q c.tunnel 0)) (sym c.to)
      (subst (λ q. IsMade (h.accounts (h.accounts p.from o.tunnel e).peer q 0)) (sym k.1)
      (learned_made p.from o.tunnel e c.made (λ z. some (k.1 ∙ z)))))
      c.named
