-- The id of the peer's tunnel whose opening is declined has 16 bits.
use Rattle.std.proofs.Common.{◌≡◌, inl, inr, ℕ, Bool, ◌<◌, true, List, Ok}
use Rattle.l2tp_header.specs.declared.header.Header.{Header}
use Rattle.l2tp_header.specs.Reading.{header_of, body_of}
use Rattle.control_message.specs.declared.message.Message.TheVariants.{Sccrq}
use Rattle.end_model.specs.declared.moves.Declined.{Declined}
use Rattle.end_model.specs.End.{End}
use Rattle.step_laws.specs.Moves.{WhyDeclined, AnOpening, ARecovery, AFaultyOpening, AnAnswer}
use Rattle.frame_laws.specs.Past.{Passage}
use Rattle.frame_laws.proofs.Facts.{Nodes, ReadOk}

pub declined_fits : (calm : Bool) (ns : Nodes) (gs : List Passage) (from to : ℕ) (bytes : List ℕ) → ReadOk calm ns gs from to bytes
    → (h : Header) → header_of bytes ≡ Ok h
    → h.control ≡ true → (e : End) (m : Declined) → WhyDeclined e (body_of bytes h) m → m.remote < 65536
declined_fits calm ns gs from to bytes ok h read control e m (AnOpening o said plain told unknown against) =
    let fits = (ok.letters h read control (Sccrq o) said).0.0.tunnel in rw told fits
declined_fits calm ns gs from to bytes ok h read control e m (ARecovery o said r asks told against) =
    let fits = (ok.letters h read control (Sccrq o) said).0.0.tunnel in rw told fits
declined_fits calm ns gs from to bytes ok h read control e m
    (AFaultyOpening g opens unknown is on result error) = ok.zero h read control m.remote (inl opens)
declined_fits calm ns gs from to bytes ok h read control e m (AnAnswer answers result error) = ok.zero h read control m.remote (inr answers)
