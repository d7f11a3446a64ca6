-- What a step of a node leaves of the world.
use Rattle.std.proofs.Common.{◌≡◌, ⊎_elim, ℕ, ◌+◌, ◌*◌, ◌^◌, ◌<◌, ◌≤◌, List, [], ◌∷◌, ◌++◌, length, refl, sym, ap, ◌∙◌, subst, Option, Some, None, arith}
use Rattle.std.proofs.lemmas.List.{length-append, map-append}
use Rattle.std.proofs.lemmas.Grind.{flat_map-append}
use Rattle.std.specs.Prelude.{option_map}
use Rattle.std.specs.List.{AllByRecursion}
use Rattle.id_table.specs.Ids.{at, put, at-none}
use Rattle.id_table.specs.Order.{at_new, at_other, same_or_not}
use Rattle.end_model.specs.Access.{Access}
use Rattle.end_model.specs.declared.event.Event.{Event}
use Rattle.end_model.specs.declared.event.Event.TheVariants.{Datagram, Ring, Frame, Admitted, Payload, Lower, Lcp, Hang, OpenTunnel, DropCall, CloseTunnel, Tick}
use Rattle.end_model.specs.declared.moves.Move.{Move}
use Rattle.end_model.specs.declared.moves.Move.TheVariants as move
use Rattle.end_model.specs.declared.out.Out.{Out}
use Rattle.end_model.specs.declared.out.Out.TheVariants.{Send, Up, Gone, Drop, Cause}
use Rattle.end_model.specs.declared.out.Origin.{Origin}
use Rattle.end_model.specs.declared.out.Origin.TheVariants as origin_of
use Rattle.world_model.specs.declared.packet.Packet.{Packet}
use Rattle.end_names.specs.Names.{node_of}
use Rattle.end_model.specs.Tunnels.{Tunnel}
use Rattle.end_model.specs.End.{End, Stepped, plain_step}
use Rattle.world_model.specs.declared.standing.Standing.{Standing}
use Rattle.world_model.specs.World.{World, Node, Checkpoint, Sender, Deed, standing_in, standing_of, no_standing, epoch_sent, birth_in, birth_of, deed_of, with_node, with_birth_at, with_birth, is_born, moved, moved_all, packet_from, sent, shown, shown_all, given, after_step}
use Rattle.step_laws.specs.Letters.{Carries}
use Rattle.step_laws.specs.Moves.{Chain}
use Rattle.step_laws.specs.Steps.{AreKept, InChain, IsSent, IsDecline, IsOfMoves, IsChain, StepsAreChains, IsOfNoStart, StepsAreNoStarts}
use Rattle.step_laws.specs.Ups.{reads_of_move, most_reads, ReadsAreFew}
use Rattle.frame_laws.specs.Unrecovered.{IsMain}
use Rattle.frame_laws.proofs.Chains.{same_role}
use Rattle.frame_laws.proofs.Deeds.{all_before, all_behind}
use Rattle.connection_laws.specs.Accounts.{no_account, account_from}
use Rattle.connection_laws.specs.Facts.{Accounts, IsMade, EndOk, PacketOk, Comes, Within, NodeOk, Holds}
use Rattle.connection_laws.proofs.Keeps.{MovesKeep}
use Rattle.connection_laws.proofs.Puts.{Extends}
use Rattle.connection_laws.proofs.Later.{AllExtend, packet_later}
use Rattle.connection_laws.proofs.Budget.{GivenBelow, acked_given}
use Rattle.connection_laws.proofs.Steps.{reads_in, afterwards, from-append, deeds, Kept, chain_keeps, Ran}
use Rattle.connection_laws.specs.Steps.{ClosingsAreKnown, DeclinesAreOfOpenings, OpeningsAreAcceptable, NoneAsksForSessions}
pub use Rattle.connection_laws.specs.Steps.{end_at, BirthsStay, LineSteps}
use Rattle.connection_laws.proofs.Sent.{carries_ok}
use Rattle.connection_laws.proofs.Staying.{Stays, end_stays, unknown_stays}
use Rattle.connection_laws.proofs.Declining.{declined_ok}

-- ---- the ends of nodes

-- the ends and the packets stay
pub record SameEnds (w v : World) : Type 0 where
  pub ends : (k : ℕ) → end_at v k ≡ end_at w k
  pub packets : v.packets ≡ w.packets
  pub standings : (k i : ℕ) → standing_of v k i ≡ standing_of w k i

same_ends : (w : World) → SameEnds w w
same_ends w = record { ends = λ k. refl; packets = refl; standings = λ k i. refl }

ends_on : (u v w : World) → SameEnds u v → SameEnds v w → SameEnds u w
ends_on u v w g h = record {
  ends = λ k. h.ends k ∙ g.ends k;
  packets = h.packets ∙ g.packets;
  standings = λ k i. h.standings k i ∙ g.standings k i;
}

-- a node changes, but not its standings
with_standings : (w : World) (n : ℕ) (old new : Node) → at w.nodes n ≡ Some old → new.standings ≡ old.standings
    → (k i : ℕ) → standing_of (with_node w n new) k i ≡ standing_of w k i
unfolding standing_of
with_standings w n old new was same k i = ⊎_elim
    (λ (e : k ≡ n). rw (e, at_new w.nodes n new, was, same) refl)
    (λ o. ap (λ (x : Option Node). standing_in x i) (at_other w.nodes n new k o))
    (same_or_not k n)

-- a new node has none
pub added_standings : (w : World) (n : ℕ) (new : Node) → new.standings ≡ [] → ((k i : ℕ) → standing_of w k i ≡ no_standing)
    → (k i : ℕ) → standing_of (with_node w n new) k i ≡ no_standing
unfolding standing_of
added_standings w n new empty had k i = ⊎_elim
    (λ (e : k ≡ n). rw (e, at_new w.nodes n new, empty, at-none i) refl)
    (λ o. ap (λ (x : Option Node). standing_in x i) (at_other w.nodes n new k o) ∙ had k i)
    (same_or_not k n)

with_same : (w : World) (n : ℕ) (old new : Node) → at w.nodes n ≡ Some old → new.end ≡ old.end → new.standings ≡ old.standings
    → SameEnds w (with_node w n new)
with_same w n old new was same standings = record {
  ends = λ k. ⊎_elim
      (λ (e : k ≡ n). rw (e, at_new w.nodes n new, was) (ap (λ x. Some x) same))
      (λ o. ap (λ x. option_map (λ (node : Node). node.end) x) (at_other w.nodes n new k o))
      (same_or_not k n);
  packets = refl;
  standings = with_standings w n old new was standings;
}

birth_same : (w : World) (n session birth : ℕ) → SameEnds w (with_birth w n session birth)
unfolding with_birth
birth_same w n session birth = by (at w.nodes n) refl
  where
    by : (o : Option Node) → at w.nodes n ≡ o → SameEnds w (with_birth_at w n session birth o)
    by None is = same_ends w
    by (Some node) is = with_same w n node (record node { births = put node.births session birth }) is refl refl

born_same : (w : World) (n session : ℕ) → SameEnds w (is_born w n session)
unfolding is_born standing_of
born_same w n session =
    ends_on w (record w { born = _ }) _ (record { ends = λ k. refl; packets = refl; standings = λ k i. refl })
    (birth_same (record w { born = _ }) n session _)

-- births change no end, and no standing
move_same : (n : ℕ) (w : World) (m : Move) → IsMain m → SameEnds w (moved n w m)
unfolding moved
move_same n w (move.Opened m) main = same_ends w
move_same n w (move.Accepted m) main = same_ends w
move_same n w (move.Connected m) main = same_ends w
move_same n w (move.Confirmed m) main = same_ends w
move_same n w (move.Added m) main = born_same w n m.session
move_same n w (move.Requested m) main = same_ends w
move_same n w (move.Replied m) main = birth_same w n m.session _
move_same n w (move.FirstUp m) main = same_ends w
move_same n w (move.SecondUp m) main = same_ends w
move_same n w (move.Refused m) main = same_ends w
move_same n w (move.EndTold m) main = same_ends w
move_same n w (move.EndHeard m) main = same_ends w
move_same n w (move.EndSilent m) main = same_ends w
move_same n w (move.Declined m) main = same_ends w
move_same n w (move.Closed m) main = same_ends w
move_same n w (move.Rejected m) main = same_ends w
move_same n w (move.ClosedBy m) main = same_ends w
move_same n w (move.Cleared i booked) main = same_ends w
move_same n w (move.Greeted m) main = same_ends w
move_same n w (move.TookPlain m) main = same_ends w
move_same n w (move.NrRead m) main = same_ends w
move_same n w (move.LetGo m) main = same_ends w
move_same n w (move.Repeated m) main = same_ends w
move_same n w (move.Quiet i) main = same_ends w
move_same n w (move.Negotiated m) main = same_ends w
move_same n w (move.Counted m) main = same_ends w
move_same n w (move.FrameSent m) main = same_ends w
move_same n w (move.FrameUp m) main = same_ends w
move_same n w m main = absurd main

moves_same : (n : ℕ) (ms : List Move) (w : World) → AllByRecursion IsMain ms → SameEnds w (moved_all n ms w)
unfolding moved_all
moves_same n [] w mains = same_ends w
moves_same n (m ∷ ms) w mains =
    ends_on w (moved n w m) (moved_all n ms (moved n w m)) (move_same n w m mains.0) (moves_same n ms (moved n w m) mains.1)

-- ---- births

pub births_same : (w : World) → BirthsStay w w
births_same w = record { count = refl; births = λ k q. refl }

-- a node changes, but not its births
ended_births : (w : World) (n : ℕ) (old new : Node) → at w.nodes n ≡ Some old → new.births ≡ old.births → BirthsStay w (with_node w n new)
unfolding birth_of
ended_births w n old new was same = record {
  count = refl;
  births = λ k q. ⊎_elim
      (λ (e : k ≡ n). rw (e, at_new w.nodes n new, was, same) refl)
      (λ o. ap (λ x. birth_in x q) (at_other w.nodes n new k o))
      (same_or_not k n);
}

-- a new node has none
pub added_births : (w : World) (n : ℕ) (new : Node) → at w.nodes n ≡ None → new.births ≡ [] → BirthsStay w (with_node w n new)
unfolding birth_of
added_births w n new none empty = record {
  count = refl;
  births = λ k q. ⊎_elim
      (λ (e : k ≡ n). rw (e, at_new w.nodes n new, none, empty, at-none q) refl)
      (λ o. ap (λ x. birth_in x q) (at_other w.nodes n new k o))
      (same_or_not k n);
}

-- ---- what is shown

shown_nodes : (n : ℕ) (os : List Out) (w : World) → (shown_all n os w).nodes ≡ w.nodes
unfolding shown_all shown sent
shown_nodes n [] w = refl
shown_nodes n (Send peer bytes origin ∷ os) w = shown_nodes n os (sent w n (node_of peer) bytes origin)
shown_nodes n (Up session side frame ∷ os) w = shown_nodes n os w
shown_nodes n (Gone session ∷ os) w = shown_nodes n os w
shown_nodes n (Drop x ∷ os) w = shown_nodes n os w
shown_nodes n (Cause x ∷ os) w = shown_nodes n os w

shown_born : (n : ℕ) (os : List Out) (w : World) → (shown_all n os w).born ≡ w.born
unfolding shown_all shown sent
shown_born n [] w = refl
shown_born n (Send peer bytes origin ∷ os) w = shown_born n os (sent w n (node_of peer) bytes origin)
shown_born n (Up session side frame ∷ os) w = shown_born n os w
shown_born n (Gone session ∷ os) w = shown_born n os w
shown_born n (Drop x ∷ os) w = shown_born n os w
shown_born n (Cause x ∷ os) w = shown_born n os w

shown_births : (n : ℕ) (os : List Out) (w : World) → BirthsStay w (shown_all n os w)
unfolding birth_of
shown_births n os w = record {
  count = shown_born n os w;
  births = λ k q. ap (λ (ns : List (ℕ × Node)). birth_in (at ns k) q) (shown_nodes n os w);
}

-- each is sent in the first epoch
abbrev pub FirstOnly : World → Type 0
FirstOnly w = (k i : ℕ) → standing_of w k i ≡ no_standing

first_sent : (w : World) (n : ℕ) (o : Origin) → FirstOnly w → epoch_sent w n o ≡ 0
first_sent w n (origin_of.Control o) only = ap (λ (x : Standing). x.epoch) (only n o.tunnel)
first_sent w n (origin_of.Data session) only = refl
first_sent w n (origin_of.Recovery tunnel number empty) only = refl

-- what is to hold of the packets that are sent
abbrev SendOk : (Packet → Type 0) → ℕ → Out → Type 0
SendOk P n (Send peer bytes origin) = P (packet_from n (node_of peer) bytes origin 0)
SendOk P n (Up session side frame) = Unit {0}
SendOk P n (Gone session) = Unit {0}
SendOk P n (Drop x) = Unit {0}
SendOk P n (Cause x) = Unit {0}

all_push : {X : Type 0} (P : X → Type 0) (xs : List X) (x : X) → AllByRecursion P xs → P x → AllByRecursion P (xs ++ x ∷ [])
all_push P [] x h p = (p, tt)
all_push P (y ∷ xs) x h p = (h.0, all_push P xs x h.1 p)

pub all_map : {X : Type 0} (P Q : X → Type 0) → ((x : X) → P x → Q x) → (xs : List X) → AllByRecursion P xs → AllByRecursion Q xs
all_map P Q f [] h = tt
all_map P Q f (x ∷ xs) h = (f x h.0, all_map P Q f xs h.1)

shown_packets : (P : Packet → Type 0) (n : ℕ) (os : List Out) (w : World) → FirstOnly w → AllByRecursion (SendOk P n) os → AllByRecursion P w.packets
    → AllByRecursion P (shown_all n os w).packets
unfolding shown_all shown sent standing_of
shown_packets P n [] w only ok had = had
shown_packets P n (Send peer bytes origin ∷ os) w only ok had =
    shown_packets P n os (sent w n (node_of peer) bytes origin) only ok.1
    (all_push P w.packets _ had (subst (λ (k : ℕ). P (packet_from n (node_of peer) bytes origin k)) (sym (first_sent w n origin only)) ok.0))
shown_packets P n (Up session side frame ∷ os) w only ok had = shown_packets P n os w only ok.1 had
shown_packets P n (Gone session ∷ os) w only ok had = shown_packets P n os w only ok.1 had
shown_packets P n (Drop x ∷ os) w only ok had = shown_packets P n os w only ok.1 had
shown_packets P n (Cause x ∷ os) w only ok had = shown_packets P n os w only ok.1 had

shown_standings : (n : ℕ) (os : List Out) (w : World) → FirstOnly w → FirstOnly (shown_all n os w)
unfolding standing_of
shown_standings n os w only k i = ap (λ (ns : List (ℕ × Node)). standing_in (at ns k) i) (shown_nodes n os w) ∙ only k i

-- ---- other nodes

-- what holds of a node, by its end
abbrev pub NodeEndOk : Accounts → ℕ → Option End → Type 0
NodeEndOk accs n None = (i : ℕ) → accs n i ≡ no_account
NodeEndOk accs n (Some e) = EndOk accs n e × AreKept e

by_end : (accs : Accounts) (n : ℕ) (o : Option Node) → NodeOk accs n o → NodeEndOk accs n (option_map (λ (node : Node). node.end) o)
by_end accs n None h = h
by_end accs n (Some node) h = h

of_end : (accs : Accounts) (n : ℕ) (o : Option Node) → NodeEndOk accs n (option_map (λ (node : Node). node.end) o) → NodeOk accs n o
of_end accs n None h = h
of_end accs n (Some node) h = h

-- of the accounts of an end only SCCRQs may be declined, and more is known of its tunnels' partners
node_later : (accs ms : Accounts) → AllExtend accs ms → (k : ℕ) → ((i : ℕ) → Stays (accs k i) (ms k i)) → ((i : ℕ) → IsMade (accs k i) → 0 < i)
    → (o : Option End) → NodeEndOk accs k o → NodeEndOk ms k o
node_later accs ms grown k same some None h = λ i. unknown_stays (accs k i) (ms k i) (same i) (h i)
node_later accs ms grown k same some (Some e) h = (end_stays accs ms grown k same some e h.0, h.1)

-- ---- a step

few_reads : (ev : Event) → most_reads ev ≤ 1
few_reads (Datagram peer bytes) = omega arith
few_reads (Ring port) = omega arith
few_reads (Frame bytes) = omega arith
few_reads (Admitted mac) = omega arith
few_reads (Payload s frame) = omega arith
few_reads (Lower s frame) = omega arith
few_reads (Lcp s packet) = omega arith
few_reads (Hang s) = omega arith
few_reads OpenTunnel = omega arith
few_reads (DropCall s) = omega arith
few_reads (CloseTunnel i) = omega arith
few_reads Tick = omega arith

-- what a line leaves
pub record Goes (accs : Accounts) (most : ℕ) (after : World) (more : List Deed) : Type 0 where
  pub holds : Holds after (afterwards accs more)
  pub given : GivenBelow (afterwards accs more) most

-- what was proved of steps before
pub record Laws : Type 0 where
  pub moves : MovesKeep
  pub chains : StepsAreChains
  pub reads : ReadsAreFew
  pub closings : ClosingsAreKnown
  pub declines : DeclinesAreOfOpenings
  pub acceptable : OpeningsAreAcceptable
  pub unasked : NoneAsksForSessions
  pub starts : StepsAreNoStarts

module _ (laws : Laws) (number : ℕ) (w : World) (accs : Accounts) (holds : Holds w accs) (most : ℕ) (had : GivenBelow accs most)
    (room : most + 24576 < 2 ^ 64) (n : ℕ) (old : Node) (was : at w.nodes n ≡ Some old) (clock : ℕ) (access : Option Access) (checkpoint : Checkpoint) (ev : Event) (sender : Option Sender)
    (comes : Comes accs n old.end sender ev) (moment : ℕ) (block : List ℕ) where
  ok : EndOk accs n old.end × AreKept old.end
  ok = subst (NodeOk accs n) was (holds.nodes n)

  -- the node at the moment of the step
  abbrev timed : Node
  timed = record old { clock = clock; access = access; checkpoint = checkpoint }

  abbrev s : Stepped
  s = plain_step old.end moment block ev

  chain : IsChain old.end moment ev s
  chain = laws.chains old.end ok.1 moment block ev

  abbrev ended : Node
  ended = record timed { end = s.end }

  abbrev base : World
  base = with_node w n ended

  abbrev v : World
  v = moved_all n s.moves base

  abbrev done : List Deed
  done = deeds v number n old.end.role sender s.moves

  abbrev ms : Accounts
  ms = afterwards accs done

  begun : Within accs n old.end sender ev
  begun = record { accounts = holds.accounts; end = ok.0; comes = comes }

  -- the deeds of some of its moves
  abbrev did : List Move → List Deed
  did made = deeds v number n old.end.role sender made

  -- the count of letters that are acknowledged after these moves
  abbrev acked_by : List Move → ℕ
  acked_by made = most + 8192 * length (reads_in made)

  one_read : length (reads_in s.moves) ≤ 1
  one_read = let reads = laws.reads old.end moment block ev in let few = few_reads ev in omega arith

  -- the first moves of the step, up to an end
  first_ran : (made : List Move) (y : End) → AllByRecursion IsOfNoStart made → Chain moment ev old.end made y → length (reads_in made) ≤ 1
      → Ran accs (afterwards accs (did made)) n old.end y sender moment ev (λ m. deed_of v number n old.end.role sender m) made (acked_by made) (most + 16384)
  first_ran made y starts leads reads =
      chain_keeps laws.moves laws.closings laws.declines laws.acceptable laws.unasked
      v number n old.end.role sender moment ev made accs old.end y most (most + 16384)
      starts leads refl begun
      (acked_given accs n old.end most ok.0 had) (λ k j. (let le = had k j in omega arith)) (omega (arith, reads)) (omega (arith, room))

  ran : Ran accs ms n old.end s.end sender moment ev (λ m. deed_of v number n old.end.role sender m) s.moves (acked_by s.moves) (most + 16384)
  ran = first_ran s.moves s.end (laws.starts old.end moment block ev) chain.chain one_read

  kept : Kept accs ms n s.end sender ev (acked_by s.moves) (most + 16384)
  kept = ran.kept

  -- what holds at an end of its chain, and what the moves behind it leave of the accounts as they are there
  module _ (amid : InChain moment ev old.end s.moves s.end) where
    started : AllByRecursion IsOfNoStart (amid.made ++ amid.rest)
    started = subst (AllByRecursion IsOfNoStart) amid.moves_are (laws.starts old.end moment block ev)

    abbrev so_far : Accounts
    so_far = afterwards accs (did amid.made)

    reads_add : length (reads_in s.moves) ≡ length (reads_in amid.made) + length (reads_in amid.rest)
    reads_add = ap (λ qs. length (reads_in qs)) amid.moves_are ∙ ap length (flat_map-append reads_of_move amid.made amid.rest)
        ∙ length-append (reads_in amid.made) (reads_in amid.rest)

    made_ran : Ran accs so_far n old.end amid.end sender moment ev (λ m. deed_of v number n old.end.role sender m) amid.made (acked_by amid.made) (most + 16384)
    made_ran = first_ran amid.made amid.end (all_before IsOfNoStart amid.made amid.rest started) amid.comes (omega (arith, reads_add, one_read))

    rest_ran : Ran so_far (afterwards so_far (did amid.rest)) n amid.end s.end sender moment ev (λ m. deed_of v number n old.end.role sender m) amid.rest
        (acked_by amid.made + 8192 * length (reads_in amid.rest)) (most + 16384)
    rest_ran =
        chain_keeps laws.moves laws.closings laws.declines laws.acceptable laws.unasked
        v number n old.end.role sender moment ev amid.rest so_far amid.end s.end
        (acked_by amid.made) (most + 16384) (all_behind IsOfNoStart amid.made amid.rest started) amid.goes
        (same_role moment ev old.end amid.end amid.made amid.comes) made_ran.kept.within
        made_ran.kept.below made_ran.kept.given (omega (arith, reads_add, one_read)) (omega (arith, room))

    did_all : did s.moves ≡ did amid.made ++ did amid.rest
    did_all = ap did amid.moves_are ∙ map-append (λ m. deed_of v number n old.end.role sender m) amid.made amid.rest

    whole : (k j : ℕ) → afterwards so_far (did amid.rest) k j ≡ ms k j
    whole k j = from-append (did amid.made) (did amid.rest) k j (accs k j) ∙ ap (λ ds. account_from ds k j (accs k j)) (sym did_all)

    grown_on : AllExtend so_far ms
    grown_on k j = subst (λ a. Extends (so_far k j) a) (whole k j) (rest_ran.kept.grown k j)

    -- what is sent there stays so
    sent_ok : (peer id : ℕ) (tunnel : Tunnel) → at amid.end.tunnels id ≡ Some tunnel → peer ≡ tunnel.control.peer → (bytes : List ℕ) (o : Origin)
        → Carries amid.end.role amid.end.config tunnel amid.made bytes o → PacketOk ms (packet_from n (node_of peer) bytes o 0)
    sent_ok peer id tunnel there peer_is bytes o carries =
        packet_later so_far ms grown_on (packet_from n (node_of peer) bytes o 0)
        (carries_ok so_far n amid.end sender ev (most + 16384) made_ran.kept.within made_ran.kept.given (omega (arith, room)) id tunnel there peer peer_is bytes
        amid.made made_ran.frames o carries)

  send_ok : (o : Out) → IsOfMoves moment ev old.end s.moves s.end o → SendOk (PacketOk ms) n o
  send_ok (Send peer bytes o) h = ⊎_elim
      (λ (k : IsSent moment ev old.end s.moves s.end peer bytes o). sent_ok k.amid peer k.id k.tunnel k.there k.peer_is bytes o k.carries)
      (λ (k : IsDecline s.moves peer bytes o).
      declined_ok ms n kept.within.end.node k.declined (ran.openings k.declined k.there) peer bytes o k.peer_is k.bytes_are k.origin_is)
      h
  send_ok (Up session side frame) h = tt
  send_ok (Gone session) h = tt
  send_ok (Drop x) h = tt
  send_ok (Cause x) h = tt

  base_ok : (k : ℕ) → NodeEndOk ms k (end_at base k)
  base_ok k = ⊎_elim
      (λ (e : k ≡ n).
      subst (λ q. NodeEndOk ms q (end_at base q)) (sym e) (rw (at_new w.nodes n ended) (kept.within.end, chain.kept)))
      (λ o. rw (at_other w.nodes n ended k o)
      (node_later accs ms kept.grown k (λ i. kept.others k i o) (λ i made. (holds.accounts k i).some made) (end_at w k)
      (by_end accs k (at w.nodes k) (holds.nodes k))))
      (same_or_not k n)

  same : SameEnds base v
  same = moves_same n s.moves base ran.main

  -- the standings are as they were
  first_only : FirstOnly v
  first_only k i = same.standings k i ∙ with_standings w n old ended was refl k i ∙ holds.standings k i

  node_ok : (k : ℕ) → NodeOk ms k (at v.nodes k)
  node_ok k = of_end ms k (at v.nodes k) (subst (NodeEndOk ms k) (sym (same.ends k)) (base_ok k))

  goes : Goes accs (most + 16384) (shown_all n s.outputs v) done
  goes = record {
    holds = record {
      accounts = kept.within.accounts;
      nodes = λ k. subst (λ ns. NodeOk ms k (at ns k)) (sym (shown_nodes n s.outputs v)) (node_ok k);
      packets = shown_packets (PacketOk ms) n s.outputs v first_only
          (all_map (IsOfMoves moment ev old.end s.moves s.end) (SendOk (PacketOk ms) n) send_ok s.outputs chain.outputs)
          (subst (λ ps. AllByRecursion (PacketOk ms) ps) (sym same.packets)
          (all_map (PacketOk accs) (PacketOk ms) (λ p h. packet_later accs ms kept.grown p h) w.packets holds.packets));
      standings = shown_standings n s.outputs v first_only;
    };
    given = kept.given;
  }

  ends_shown : (k : ℕ) → end_at (shown_all n s.outputs v) k ≡ end_at base k
  ends_shown k = ap (λ (ns : List (ℕ × Node)). option_map (λ (node : Node). node.end) (at ns k)) (shown_nodes n s.outputs v) ∙ same.ends k

  pub step_ok : let l = after_step w number n timed sender s in Goes accs (most + 16384) l.world l.done
  unfolding after_step given
  step_ok = goes

  pub step_does : LineSteps w accs number (after_step w number n timed sender s)
  unfolding after_step given
  step_does = record {
    node = n;
    old = old;
    was = was;
    sender = sender;
    moment = moment;
    block = block;
    ev = ev;
    begun = base;
    begins = ended_births w n old ended was refl;
    declared = (ended, at_new w.nodes n ended);
    told = v;
    told_is = refl;
    births = shown_births n s.outputs v;
    done = refl;
    moves = ran.moves;
    end = ends_shown n ∙ ap (λ (o : Option Node). option_map (λ (node : Node). node.end) o) (at_new w.nodes n ended);
    others = λ k o. ends_shown k ∙ ap (λ (o : Option Node). option_map (λ (node : Node). node.end) o) (at_other w.nodes n ended k o);
  }
