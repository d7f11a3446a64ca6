-- What goes out in a tunnel between two moves of a step is as what was done says, whatever becomes of the tunnel behind it.
use Rattle.std.proofs.Common.{◌≡◌, ℕ, ◌+◌, ◌^◌, ◌<◌, Bool, true, false, List, length, refl, sym, ap, ◌∙◌, subst, Some, arith}
use Rattle.id_table.specs.Ids.{at}
use Rattle.end_names.specs.Names.{node_of}
use Rattle.end_model.specs.declared.moves.FrameSent.{FrameSent}
use Rattle.end_model.specs.declared.moves.Move.{Move}
use Rattle.end_model.specs.declared.moves.Move.TheVariants as move
use Rattle.end_model.specs.declared.out.Origin.{Origin}
use Rattle.end_model.specs.declared.out.Origin.TheVariants as origin
use Rattle.end_model.specs.declared.out.ControlOrigin.{ControlOrigin}
use Rattle.end_model.specs.Tunnels.{Tunnel, mode_of, is_current}
use Rattle.end_model.specs.End.{End}
use Rattle.world_model.specs.World.{World, epoch_of, epoch_sent, packet_from}
use Rattle.step_laws.specs.Letters.{Among, Carries}
use Rattle.step_laws.specs.Letters as carries
use Rattle.channel_laws.specs.Accounts.{Acceptor, History}
use Rattle.channel_laws.specs.Facts.{KnowsBy, ByLetter, ByRecord, LiveOk, EndOk, OriginOk, PacketOk, Holds}
use Rattle.channel_laws.proofs.Budgets.{Below}
use Rattle.channel_laws.proofs.ControlSent.{letter_sent, none_sent}
use Rattle.channel_laws.proofs.RecoveryLetters.{recovery_sent, recovery_acknowledged}
use Rattle.channel_laws.proofs.Waiting.{node_again}

-- the frames that moves send name calls by ids of 16 bits
abbrev pub FramesFit : List Move → Type 0
FramesFit moves = (f : FrameSent) → Among (move.FrameSent f) moves → f.remote < 65536

-- `told` is the world in which the step tells epochs: of a tunnel that is neither frozen nor restored, the one in which it is
module _ (v : World) (g : History) (holds : Holds v g) (n : ℕ) (x : End) (ok : EndOk v g n x) (most : ℕ) (had : Below g most) (room : most + 65536 < 2 ^ 64) (told : World) (i : ℕ) (t : Tunnel)
    (there : at x.tunnels i ≡ Some t) (epoch : is_current (mode_of t.recovery) ≡ true → epoch_of told n i ≡ epoch_of v n i) (peer : ℕ) (peer_is : peer ≡ t.control.peer) (bytes : List ℕ)
    (moves : List Move) (fit : FramesFit moves) where
  live : LiveOk v g n i t
  live = ok.live i t there

  goes : node_of peer < 256
  goes =
      let same = ap node_of (peer_is ∙ live.peer) ∙ node_again (g.accounts n i 0).peer (holds.accounts n i 0).peer in
      let lt = (holds.accounts n i 0).peer in
      omega (arith, same, lt)

  -- the id that the other end gave has 16 bits
  known_fits : KnowsBy g.accounts n i t.control.remote → t.control.remote < 65536
  known_fits (ByLetter same) = let lt = (holds.accounts n i 0).remote in omega (arith, same, lt)
  known_fits (ByRecord part none acceptor home back) =
      (holds.accounts (g.accounts n i 0).peer t.control.remote 0).id (λ none_made. let two : Acceptor ≡ _ = sym acceptor ∙ none_made in absurd cc)

  remote_fits : t.control.remote < 65536
  remote_fits = by (is_current (mode_of t.recovery)) refl
    where
      by : (b : Bool) → is_current (mode_of t.recovery) ≡ b → t.control.remote < 65536
      by true current = let same = (live.channel current).remote in let lt = (holds.accounts n i (epoch_of v n i)).remote in omega (arith, same, lt)
      by false inactive = known_fits (live.knows inactive)

  count_fits : (g.accounts n i (epoch_of v n i)).first_given + length (g.accounts n i (epoch_of v n i)).given < 2 ^ 64
  count_fits =
      let le = had n i (epoch_of v n i) in
      let lt = (holds.accounts n i (epoch_of v n i)).first_given in
      omega (arith, le, lt, room)

  -- the epoch that it tells
  control_epoch : (o : Origin) (c : ControlOrigin) → o ≡ origin.Control c → c.tunnel ≡ t.control.local → is_current (mode_of t.recovery) ≡ true → epoch_sent told n o ≡ epoch_of v n i
  control_epoch o c is from current = ap (epoch_sent told n) is ∙ (ap (epoch_of told n) (from ∙ live.local) ∙ epoch current)

  pub carries_ok : (o : Origin) → Carries x.role x.config t moves bytes o → PacketOk v g (packet_from n (node_of peer) bytes o (epoch_sent told n o))
  carries_ok o (carries.ALetter current l number lt is origin_is are) =
      letter_sent v g holds n x ok i t there current (epoch_sent told n o) (control_epoch o _ origin_is refl current) count_fits peer peer_is bytes o l number lt is origin_is are
  carries_ok o (carries.Nothing current number origin_is are) =
      none_sent v g holds n x ok i t there current (epoch_sent told n o) (control_epoch o _ origin_is refl current) count_fits peer peer_is bytes o number origin_is are
  carries_ok o (carries.AFrame f among tunnel_is same number origin_is are) = record {
    from = ok.node;
    to = goes;
    sent = subst (λ q. OriginOk v g (packet_from n (node_of peer) bytes o (epoch_sent told n o)) q) (sym origin_is) (record {
      tunnel = t.control.remote;
      tunnel_fits = remote_fits;
      session = f.remote;
      session_fits = fit f among;
      number = f.number;
      number_fits = number;
      frame = f.frame;
      are = are;
    });
  }
  carries_ok o (carries.InRecovery r has m said number nr small origin_is are) =
      subst (λ e. PacketOk v g (packet_from n (node_of peer) bytes o e)) (sym (ap (epoch_sent told n) origin_is))
      (recovery_sent v g holds n x ok i t there peer peer_is bytes o r has m said number nr small origin_is are)
  carries_ok o (carries.NothingInRecovery r has number nr small origin_is are) =
      subst (λ e. PacketOk v g (packet_from n (node_of peer) bytes o e)) (sym (ap (epoch_sent told n) origin_is))
      (recovery_acknowledged v g holds n x ok i t there peer peer_is bytes o r has number nr small origin_is are)
