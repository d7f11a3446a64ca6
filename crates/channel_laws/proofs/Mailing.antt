-- A packet that is as what was done says is so after a move too, whether it was sent before it or is sent behind it.
use Rattle.std.proofs.Common.{◌≡◌, ℕ, zero, suc, List, [], ◌∷◌, ◌++◌, refl, sym, ap, ◌∙◌, subst, Option, Some, None}
use Rattle.std.specs.Prelude.{slice_get, min, ◌+◌, ◌-◌, ◌^◌}
use Rattle.std.specs.List.{AllByRecursion}
use Rattle.id_table.specs.Ids.{at}
use Rattle.end_names.specs.Names.{node_of}
use Rattle.end_model.specs.declared.event.Event.{Event}
use Rattle.end_model.specs.declared.moves.Move.{Move}
use Rattle.end_model.specs.declared.moves.Move.TheVariants as move
use Rattle.end_model.specs.declared.out.Origin.{Origin}
use Rattle.end_model.specs.declared.out.Origin.TheVariants as origin
use Rattle.end_model.specs.Tunnels.{Tunnel}
use Rattle.end_model.specs.End.{End}
use Rattle.world_model.specs.declared.packet.Packet.{Packet}
use Rattle.world_model.specs.declared.standing.Standing.{Standing}
use Rattle.world_model.specs.World.{World, Node, Sender, Deed, standing_of, epoch_of, answer_in, with_birth, with_birth_at, is_born, with_standing, with_standing_at, with_answer_at, has_made, makes_epoch, enters_epoch, birth_of, moved}
use Rattle.step_laws.specs.Steps.{IsOfNoStart}
use Rattle.frame_laws.proofs.Deeds.{all_behind}
use Rattle.channel_laws.specs.Accounts.{History, about, after}
use Rattle.channel_laws.specs.Epochs.{IsLive, EpochsKnown}
use Rattle.channel_laws.specs.Facts.{PacketOk, Holds}
use Rattle.channel_laws.specs.Steps.{AreNear, Comes, with_end, moves_on, IsMoved, Keeps}
use Rattle.channel_laws.proofs.Looks.{CountAlike, same_look, node_agrees, packets_agree, holds_agrees}

-- other packets in a world
abbrev pub with_mail : World → List Packet → World
with_mail w ps = record w { packets = ps }

birth_mail : (w : World) (ps : List Packet) (n s birth : ℕ) → with_birth (with_mail w ps) n s birth ≡ with_mail (with_birth w n s birth) ps
unfolding with_birth
birth_mail w ps n s birth = by (at w.nodes n)
  where
    by : (o : Option Node) → with_birth_at (with_mail w ps) n s birth o ≡ with_mail (with_birth_at w n s birth o) ps
    by None = refl
    by (Some node) = refl

born_mail : (w : World) (ps : List Packet) (n s : ℕ) → is_born (with_mail w ps) n s ≡ with_mail (is_born w n s) ps
unfolding is_born
born_mail w ps n s = birth_mail (record w { born = _ }) ps n s _

standing_mail : (w : World) (ps : List Packet) (n i : ℕ) (s : Standing) → with_standing (with_mail w ps) n i s ≡ with_mail (with_standing w n i s) ps
unfolding with_standing
standing_mail w ps n i s = by (at w.nodes n)
  where
    by : (o : Option Node) → with_standing_at (with_mail w ps) n i s o ≡ with_mail (with_standing_at w n i s o) ps
    by None = refl
    by (Some node) = refl

answer_mail : (w : World) (ps : List Packet) (n c e : ℕ) → with_answer_at (with_mail w ps) n c e (at w.nodes n) ≡ with_mail (with_answer_at w n c e (at w.nodes n)) ps
answer_mail w ps n c e = by (at w.nodes n)
  where
    by : (o : Option Node) → with_answer_at (with_mail w ps) n c e o ≡ with_mail (with_answer_at w n c e o) ps
    by None = refl
    by (Some node) = refl

made_mail : (w : World) (ps : List Packet) (n i e : ℕ) → has_made (with_mail w ps) n i e ≡ with_mail (has_made w n i e) ps
unfolding standing_of
made_mail w ps n i e = standing_mail w ps n i _

makes_mail : (w : World) (ps : List Packet) (n i m j c : ℕ) → makes_epoch (with_mail w ps) n i m j c ≡ with_mail (makes_epoch w n i m j c) ps
unfolding makes_epoch standing_of
makes_mail w ps n i m j c =
    let e = min ((standing_of w n i).made + 1) (2 ^ 64 - 1) in
    let one = made_mail w ps n i e in
    let two = ap (λ v. has_made v m j e) one ∙ made_mail (has_made w n i e) ps m j e in
    ap (λ (v : World). with_answer_at v n c e (at v.nodes n)) two ∙ answer_mail (has_made (has_made w n i e) m j e) ps n c e

enters_mail : (w : World) (ps : List Packet) (n i e : ℕ) → enters_epoch (with_mail w ps) n i e ≡ with_mail (enters_epoch w n i e) ps
unfolding enters_epoch standing_of
enters_mail w ps n i e = standing_mail w ps n i _

pub moved_mail : (n : ℕ) (m : Move) (w : World) (ps : List Packet) → moved n (with_mail w ps) m ≡ with_mail (moved n w m) ps
unfolding moved birth_of
moved_mail n (move.Added m) w ps = born_mail w ps n m.session
moved_mail n (move.Replied m) w ps = birth_mail w ps n m.session _
moved_mail n (move.Froze m) w ps = makes_mail w ps n m.tunnel (node_of m.peer) m.remote m.answer
moved_mail n (move.ResetAttempting m) w ps = enters_mail w ps n m.tunnel (answer_in (at w.nodes (node_of m.peer)) m.answer)
moved_mail n (move.ResetAnswering m) w ps = enters_mail w ps n m.tunnel (answer_in (at w.nodes n) m.answer)
moved_mail n m w ps = refl

-- all of it but the packets stays
pub mail_alike : (w : World) (ps : List Packet) → CountAlike w (with_mail w ps)
unfolding standing_of
mail_alike w ps = record { standings = λ m j. refl; makes_as = λ m c. refl }

mail_away : (w : World) (ps : List Packet) → CountAlike (with_mail w ps) w
unfolding standing_of
mail_away w ps = record { standings = λ m j. refl; makes_as = λ m c. refl }

pub still_there : {X : Type 0} (xs ys : List X) (k : ℕ) (x : X) → slice_get xs k ≡ Some x → slice_get (xs ++ ys) k ≡ Some x
still_there [] ys k x h = absurd cc
still_there (y ∷ xs) ys zero x h = h
still_there (y ∷ xs) ys (suc k) x h = still_there xs ys k x h

pub all_joined : {X : Type 0} (P : X → Type 0) (xs : List X) (x : X) → AllByRecursion P xs → P x → AllByRecursion P (xs ++ x ∷ [])
all_joined P [] x all one = (one, tt)
all_joined P (y ∷ xs) x all one = (all.0, all_joined P xs x all.1 one)

module _ (w : World) (h : History) (p : Packet) (ok : PacketOk w h p) where
  abbrev ps : List Packet
  ps = w.packets ++ p ∷ []

  abbrev u : World
  u = with_mail w ps

  holds_mail : Holds w h → Holds u h
  holds_mail holds =
      let alike = mail_alike w ps in
      holds_agrees w u h alike holds (λ n. node_agrees w u h alike n (at w.nodes n) (at w.nodes n) (same_look (at w.nodes n)) (holds.nodes n))
      (packets_agree w u h alike ps (all_joined (PacketOk w h) w.packets p holds.packets ok))

  live_mail : (n i : ℕ) (t : Tunnel) → IsLive u n i t → IsLive w n i t
  live_mail n i t l = record { node = l.node; is = l.is; there = l.there }

  known_mail : EpochsKnown w h → EpochsKnown u h
  unfolding standing_of
  known_mail k = record {
    above = λ n i m j t l. k.above n i m j t (live_mail n i t l);
    attempted = λ n i t c l. k.attempted n i t c (live_mail n i t l);
    one = k.one;
    frozen = λ n i m j t a l. k.frozen n i m j t a (live_mail n i t l);
    counted = k.counted;
  }

  near_mail : (n : ℕ) (e : End) (q : Packet) (bytes : List ℕ) (o : Origin) → AreNear w h n e q bytes o → AreNear u h n e q bytes o
  unfolding standing_of
  near_mail n e q bytes (origin.Control o) near = near
  near_mail n e q bytes (origin.Data session) near = tt
  near_mail n e q bytes (origin.Recovery own number empty) near = tt

  comes_mail : (n : ℕ) (e : End) (sender : Option Sender) (ev : Event) → Comes w h n e sender ev → Comes u h n e sender ev
  comes_mail n e sender ev comes peer bytes is =
      let c = comes peer bytes is in
      record {
        packet = c.packet;
        place = c.place;
        sent = still_there w.packets (p ∷ []) c.place c.packet c.sent;
        ok = (packets_agree w u h (mail_alike w ps) (c.packet ∷ []) (c.ok, tt)).0;
        to = c.to;
        peer_is = c.peer_is;
        secret = c.secret;
        bytes_are = c.bytes_are;
        sender_is = c.sender_is;
        near = near_mail n e c.packet bytes c.packet.origin c.near;
      }

  module _ (any : (m : Move) → IsOfNoStart m → Keeps m) (n : ℕ) (node : Node) (sender : Option Sender) (moment : ℕ) (ev : Event) (m : Move) (start : IsOfNoStart m) (x : End) (d : Deed)
      (k : IsMoved w h n node sender moment ev m x d) where
    abbrev v : World
    v = moves_on w n node m x

    same : moves_on u n node m x ≡ with_mail v ps
    same = moved_mail n m (with_end w n node x) ps

    same_epoch : epoch_of (moves_on u n node m x) n (about m) ≡ epoch_of v n (about m)
    unfolding standing_of
    same_epoch = ap (λ z. epoch_of z n (about m)) same

    is_moved : IsMoved u h n node sender moment ev m x d
    is_moved = record {
      there = k.there;
      holds = holds_mail k.holds;
      known = known_mail k.known;
      fit = k.fit;
      unbooked = k.unbooked;
      comes = comes_mail n node.end sender ev k.comes;
      numbers = k.numbers;
      counts = k.counts;
      does = k.does;
      deed = k.deed;
      epoch = k.epoch ∙ sym same_epoch;
    }

    holds_then : Holds (with_mail v ps) (after h d)
    holds_then = subst (λ z. Holds z (after h d)) same (any m start u h n node sender moment ev x d is_moved)

    pub mail_kept : PacketOk v (after h d) p
    mail_kept =
        (packets_agree (with_mail v ps) v (after h d) (mail_away v ps) (p ∷ [])
        (all_behind (PacketOk (with_mail v ps) (after h d)) w.packets (p ∷ []) holds_then.packets)).0
