-- What a tunnel hears says the same in the machine, whatever the Calling Number of a request.
use Rattle.std.proofs.Common.{◌≡◌, ℕ, ◌^◌, ◌<◌, refl, sym, ap, ◌∙◌}
use Rattle.control_message.specs.declared.message.Message.{Message}
use Rattle.control_message.specs.declared.message.Message.TheVariants.{Sccrq, Sccrp, Scccn, StopCcn, Hello, Ocrq, Ocrp, Occn, Icrq, Icrp, Iccn, Cdn, Wen, Sli, Fsq, Fsr}
use Rattle.frame_laws.specs.Plain.{without_number, AreAlike}
use Rattle.frame_laws.specs.Written.{IsWritten}
use Rattle.connection_laws.specs.Accounts.{Account}
use Rattle.connection_laws.proofs.Alike.{of_all, carried, alike_back}
use Rattle.session_laws.specs.Names.{spoken}
use Rattle.session_laws.specs.Roles.{Says}
use Rattle.session_laws.proofs.Roles.{Giver}

without_spoken : (n m header : ℕ) (x : Message) → spoken n m header (without_number x) ≡ spoken n m header x
without_spoken n m header (Icrq own serial calling) = refl
without_spoken n m header (Sccrq o) = refl
without_spoken n m header (Sccrp o) = refl
without_spoken n m header (Scccn response) = refl
without_spoken n m header (StopCcn tunnel code error) = refl
without_spoken n m header Hello = refl
without_spoken n m header (Ocrq own) = refl
without_spoken n m header Ocrp = refl
without_spoken n m header Occn = refl
without_spoken n m header (Icrp own) = refl
without_spoken n m header (Iccn speed framing sequenced) = refl
without_spoken n m header (Cdn own code error) = refl
without_spoken n m header Wen = refl
without_spoken n m header Sli = refl
without_spoken n m header (Fsq sessions) = refl
without_spoken n m header (Fsr sessions) = refl

pub alike_spoken : (n m header : ℕ) (x y : Message) → AreAlike x y → spoken n m header x ≡ spoken n m header y
alike_spoken n m header x y alike =
    sym (without_spoken n m header x) ∙ ap (λ (q : Message). spoken n m header q) alike ∙ without_spoken n m header y

-- ids of 16 bits, as messages that are written have them
abbrev pub IsSized : Message → Type 0
IsSized (Icrq own serial calling) = (own < 2 ^ 16) × (serial < 2 ^ 32)
IsSized (Sccrq o) = IsWritten (Sccrq o)
IsSized (Sccrp o) = IsWritten (Sccrp o)
IsSized (Scccn response) = IsWritten (Scccn response)
IsSized (StopCcn tunnel code error) = IsWritten (StopCcn tunnel code error)
IsSized Hello = IsWritten Hello
IsSized (Ocrq own) = IsWritten (Ocrq own)
IsSized Ocrp = IsWritten Ocrp
IsSized Occn = IsWritten Occn
IsSized (Icrp own) = IsWritten (Icrp own)
IsSized (Iccn speed framing sequenced) = IsWritten (Iccn speed framing sequenced)
IsSized (Cdn own code error) = IsWritten (Cdn own code error)
IsSized Wen = IsWritten Wen
IsSized Sli = IsWritten Sli
IsSized (Fsq sessions) = IsWritten (Fsq sessions)
IsSized (Fsr sessions) = IsWritten (Fsr sessions)

sized : (m : Message) → IsWritten m → IsSized m
sized (Icrq own serial calling) w = (w.0, w.1)
sized (Sccrq o) w = w
sized (Sccrp o) w = w
sized (Scccn response) w = w
sized (StopCcn tunnel code error) w = w
sized Hello w = w
sized (Ocrq own) w = w
sized Ocrp w = w
sized Occn w = w
sized (Icrp own) w = w
sized (Iccn speed framing sequenced) w = w
sized (Cdn own code error) w = w
sized Wen w = w
sized Sli w = w
sized (Fsq sessions) w = w
sized (Fsr sessions) w = w

pub alike_sized : (m x : Message) → AreAlike m x → IsWritten m → IsSized x
alike_sized m x alike w =
    carried IsSized (of_all IsSized (λ own serial calling k. k) (λ own serial calling k. k)) x m (alike_back m x alike) (sized m w)

pub alike_giver : (b : Account) (m x : Message) → AreAlike m x → Giver b m → Giver b x
alike_giver b m x alike g = record {
  role = g.role;
  fits = g.fits;
  says = carried (Says g.role b) (of_all (Says g.role b) (λ own serial calling k. k) (λ own serial calling k. k)) x m (alike_back m x alike) g.says;
}
