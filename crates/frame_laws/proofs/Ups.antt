-- What a step's entries hand up is what its moves hand up.
use Rattle.std.proofs.Common.{◌≡◌, ℕ, List, [], ◌∷◌, ◌++◌, refl, sym, ap, ◌∙◌, append_assoc, Option}
use Rattle.std.specs.List.{flat_map}
use Rattle.id_table.specs.Ids.{at}
use Rattle.end_model.specs.declared.moves.Move.{Move}
use Rattle.end_model.specs.declared.moves.Move.TheVariants as move
use Rattle.end_model.specs.declared.out.Out.{Out}
use Rattle.end_model.specs.declared.out.Out.TheVariants.{Send, Up, Gone, Drop, Cause}
use Rattle.end_names.specs.declared.role.Role.{Role}
use Rattle.end_names.specs.Names.{node_of}
use Rattle.world_model.specs.Texts.{Entry, Sends, HandsUp, Holds, Ends, Frames, Drops, Causes, Stopped}
use Rattle.end_model.specs.End.{Stepped}
use Rattle.world_model.specs.World.{World, Sender, Deed, birth_in, birth_of, sent, shown, entry_of, entries_of}
use Rattle.step_laws.specs.Ups.{ups_of_output, ups_of_move}
use Rattle.frame_laws.specs.Reports.{ups_in, told_by, told_of}
use Rattle.frame_laws.proofs.Facts.{Nodes}
use Rattle.frame_laws.proofs.Deeds.{deeds}

pub ups_in-append : (es fs : List Entry) → ups_in (es ++ fs) ≡ ups_in es ++ ups_in fs
unfolding ups_in
ups_in-append [] fs = refl
ups_in-append (HandsUp line node session birth side frame ∷ es) fs = ap (λ ps. HandsUp line node session birth side frame ∷ ps) (ups_in-append es fs)
ups_in-append (Sends line packet from to bytes ∷ es) fs = ups_in-append es fs
ups_in-append (Holds line node number ∷ es) fs = ups_in-append es fs
ups_in-append (Ends line node session padt ∷ es) fs = ups_in-append es fs
ups_in-append (Drops line node why ∷ es) fs = ups_in-append es fs
ups_in-append (Frames line node bytes ∷ es) fs = ups_in-append es fs
ups_in-append (Causes line node cause ∷ es) fs = ups_in-append es fs
ups_in-append (Stopped line node ∷ es) fs = ups_in-append es fs

pub told_of-append : (ds es : List Deed) → told_of (ds ++ es) ≡ told_of ds ++ told_of es
unfolding told_of
told_of-append [] es = refl
told_of-append (d ∷ ds) es = ap (λ gs. told_by d d.move ++ gs) (told_of-append ds es) ∙ sym (append_assoc (told_by d d.move) (told_of ds) (told_of es))

module _ (line n : ℕ) (r : Role) (sender : Option Sender) (v : World) where
  -- the entry of an output that hands a frame up
  abbrev told : Out → List Entry
  told (Up session side frame) = HandsUp line n session (birth_of v n session) side frame ∷ []
  told o = []

  -- nothing that is shown gives a birth
  entries_told : (os : List Out) (w : World) → w.nodes ≡ v.nodes → ups_in (entries_of line n os w) ≡ flat_map told (flat_map ups_of_output os)
  unfolding ups_in entries_of entry_of shown sent birth_of
  entries_told [] w same = refl
  entries_told (Send peer bytes origin ∷ os) w same = entries_told os (sent w n (node_of peer) bytes origin) same
  entries_told (Up session side frame ∷ os) w same =
      ap (λ es. HandsUp line n session (birth_of w n session) side frame ∷ es) (entries_told os w same)
      ∙ ap (λ (ns : Nodes). HandsUp line n session (birth_in (at ns n) session) side frame ∷ flat_map told (flat_map ups_of_output os)) same
  entries_told (Gone session ∷ os) w same = entries_told os w same
  entries_told (Drop x ∷ os) w same = entries_told os w same
  entries_told (Cause x ∷ os) w same = entries_told os w same

  deeds_told : (ms : List Move) → told_of (deeds v line n r sender ms) ≡ flat_map told (flat_map ups_of_move ms)
  unfolding told_of
  deeds_told [] = refl
  deeds_told (move.FrameUp m ∷ ms) = ap (λ es. HandsUp line n m.session (birth_of v n m.session) m.side m.frame ∷ es) (deeds_told ms)
  deeds_told (move.Opened m ∷ ms) = deeds_told ms
  deeds_told (move.Accepted m ∷ ms) = deeds_told ms
  deeds_told (move.Connected m ∷ ms) = deeds_told ms
  deeds_told (move.Confirmed m ∷ ms) = deeds_told ms
  deeds_told (move.Added m ∷ ms) = deeds_told ms
  deeds_told (move.Requested m ∷ ms) = deeds_told ms
  deeds_told (move.Replied m ∷ ms) = deeds_told ms
  deeds_told (move.FirstUp m ∷ ms) = deeds_told ms
  deeds_told (move.SecondUp m ∷ ms) = deeds_told ms
  deeds_told (move.Refused m ∷ ms) = deeds_told ms
  deeds_told (move.EndTold m ∷ ms) = deeds_told ms
  deeds_told (move.EndHeard m ∷ ms) = deeds_told ms
  deeds_told (move.EndSilent m ∷ ms) = deeds_told ms
  deeds_told (move.Declined m ∷ ms) = deeds_told ms
  deeds_told (move.Closed m ∷ ms) = deeds_told ms
  deeds_told (move.Rejected m ∷ ms) = deeds_told ms
  deeds_told (move.ClosedBy m ∷ ms) = deeds_told ms
  deeds_told (move.Cleared i booked ∷ ms) = deeds_told ms
  deeds_told (move.Greeted m ∷ ms) = deeds_told ms
  deeds_told (move.TookPlain m ∷ ms) = deeds_told ms
  deeds_told (move.NrRead m ∷ ms) = deeds_told ms
  deeds_told (move.LetGo m ∷ ms) = deeds_told ms
  deeds_told (move.Repeated m ∷ ms) = deeds_told ms
  deeds_told (move.Quiet i ∷ ms) = deeds_told ms
  deeds_told (move.Negotiated m ∷ ms) = deeds_told ms
  deeds_told (move.Counted m ∷ ms) = deeds_told ms
  deeds_told (move.FrameSent m ∷ ms) = deeds_told ms
  deeds_told (m ∷ ms) = deeds_told ms

  pub ups_told : (s : Stepped) → flat_map ups_of_output s.outputs ≡ flat_map ups_of_move s.moves
      → ups_in (entries_of line n s.outputs v) ≡ told_of (deeds v line n r sender s.moves)
  ups_told s same = entries_told s.outputs v refl ∙ ap (λ os. flat_map told os) same ∙ sym (deeds_told s.moves)
