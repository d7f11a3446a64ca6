-- Frames that are held: a load holds one that was sent in its call, and a frame that is handed up is held no more.
use Rattle.std.proofs.Common.{◌≡◌, ⊎_elim, ℕ, ◌+◌, ◌-◌, ◌^◌, ◌<◌, Bool, true, false, List, [], ◌∷◌, ◌++◌, refl, sym, ap, ◌∙◌, subst, Option, Some, None, not, ◌==◌, ◌||◌, nat_lt, length, if◌then◌else◌}
use Rattle.std.proofs.lemmas.Bool.{eqb-true, true≢false}
use Rattle.std.specs.Prelude.{min, unwrap_or}
use Rattle.id_table.specs.Ids.{at, put, without}
use Rattle.id_table.specs.Order.{Ascends, ascends-put, ascends-without, at_new, at_other, found_put, found_without, same_or_not}
use Rattle.wire_base.specs.declared.letter.Side.{Side}
use Rattle.wire_base.specs.declared.why.Why.TheVariants as why
use Rattle.l2tp_header.specs.declared.header.Header.{Header}
use Rattle.end_names.specs.declared.role.Role.{Role}
use Rattle.end_names.specs.Names.{address_of, node_of}
use Rattle.session_looks.specs.declared.look.Look.{Look}
use Rattle.session_looks.specs.declared.look.Look.TheVariants.{Unborn, Bound, Established, Dead}
use Rattle.session_looks.specs.Frames.{Upward, Dropped, carry_known, carry_look, frame_of, side_of, is_for_lcp}
use Rattle.end_model.specs.Secrets.{uncovered_datagram}
use Rattle.l2tp_header.specs.Reading.{body_of}
use Rattle.end_model.specs.declared.moves.Move.{Move}
use Rattle.end_model.specs.declared.moves.Move.TheVariants as move
use Rattle.end_model.specs.declared.out.Out.{Out}
use Rattle.end_model.specs.declared.out.Out.TheVariants.{Send, Up, Gone, Drop, Cause}
use Rattle.world_model.specs.declared.packet.Packet.{Packet}
use Rattle.world_model.specs.declared.held.Held.{Held}
use Rattle.world_model.specs.declared.standing.Standing.{Standing}
use Rattle.world_model.specs.World.{World, Node, standing_of, with_standing, with_standing_at, with_answer_at, has_made, makes_epoch, enters_epoch, with_birth_at, with_birth, is_born, moved, moved_all, sent, shown, shown_all, held_at, held_line, taken_up, hand_deed}
use Rattle.step_laws.specs.Lines.{IsLoaded, IsHeldAt}
use Rattle.step_laws.specs.Letters.{Among}
use Rattle.frame_laws.specs.Past.{Passage, passage_of}
use Rattle.frame_laws.specs.Frames.{WasSent, other_end}
use Rattle.frame_laws.proofs.Facts.{Nodes, WasSentInCall, PacketOk, HeldOk, HeldIsSent, among_left}
use Rattle.frame_laws.proofs.Changes.{birth_is, role_there}
use Rattle.frame_laws.proofs.Leads.{node_again}

-- ---- a step holds no frame

birth_held : (n s b : ℕ) (w : World) → (with_birth w n s b).held ≡ w.held
unfolding with_birth
birth_held n s b w = by (at w.nodes n)
  where
    by : (o : Option Node) → (with_birth_at w n s b o).held ≡ w.held
    by None = refl
    by (Some node) = refl

standing_held : (n i : ℕ) (s : Standing) (w : World) → (with_standing w n i s).held ≡ w.held
unfolding with_standing
standing_held n i s w = by (at w.nodes n)
  where
    by : (o : Option Node) → (with_standing_at w n i s o).held ≡ w.held
    by None = refl
    by (Some node) = refl

answer_held : (n answer epoch : ℕ) (o : Option Node) (w : World) → (with_answer_at w n answer epoch o).held ≡ w.held
answer_held n answer epoch None w = refl
answer_held n answer epoch (Some node) w = refl

epoch_held : (n i m j answer : ℕ) (w : World) → (makes_epoch w n i m j answer).held ≡ w.held
unfolding makes_epoch
epoch_held n i m j answer w =
    let epoch = min ((standing_of w n i).made + 1) (2 ^ 64 - 1) in
    let v = has_made w n i epoch in
    let u = has_made v m j epoch in
    answer_held n answer epoch (at u.nodes n) u ∙ standing_held m j _ v ∙ standing_held n i _ w

enters_held : (n i epoch : ℕ) (w : World) → (enters_epoch w n i epoch).held ≡ w.held
unfolding enters_epoch
enters_held n i epoch w = standing_held n i _ w

move_held : (n : ℕ) (m : Move) (w : World) → (moved n w m).held ≡ w.held
unfolding moved is_born
move_held n (move.Added m) w = birth_held n m.session _ _
move_held n (move.Replied m) w = birth_held n m.session _ w
move_held n (move.Opened m) w = refl
move_held n (move.Accepted m) w = refl
move_held n (move.Connected m) w = refl
move_held n (move.Confirmed m) w = refl
move_held n (move.Requested m) w = refl
move_held n (move.FirstUp m) w = refl
move_held n (move.SecondUp m) w = refl
move_held n (move.Refused m) w = refl
move_held n (move.EndTold m) w = refl
move_held n (move.EndHeard m) w = refl
move_held n (move.EndSilent m) w = refl
move_held n (move.Declined m) w = refl
move_held n (move.Closed m) w = refl
move_held n (move.Rejected m) w = refl
move_held n (move.ClosedBy m) w = refl
move_held n (move.Greeted m) w = refl
move_held n (move.TookPlain m) w = refl
move_held n (move.NrRead m) w = refl
move_held n (move.LetGo m) w = refl
move_held n (move.Repeated m) w = refl
move_held n (move.Negotiated m) w = refl
move_held n (move.Counted m) w = refl
move_held n (move.FrameSent m) w = refl
move_held n (move.FrameUp m) w = refl
move_held n (move.Cleared i booked) w = refl
move_held n (move.Quiet i) w = refl
move_held n (move.Froze m) w = epoch_held n m.tunnel (node_of m.peer) m.remote m.answer w
move_held n (move.ResetAttempting m) w = enters_held n m.tunnel _ w
move_held n (move.ResetAnswering m) w = enters_held n m.tunnel _ w
move_held n m w = refl

pub moved_held : (n : ℕ) (ms : List Move) (w : World) → (moved_all n ms w).held ≡ w.held
unfolding moved_all
moved_held n [] w = refl
moved_held n (m ∷ ms) w = moved_held n ms (moved n w m) ∙ move_held n m w

pub shown_held : (n : ℕ) (os : List Out) (w : World) → (shown_all n os w).held ≡ w.held
unfolding shown_all shown sent
shown_held n [] w = refl
shown_held n (Send peer bytes origin ∷ os) w = shown_held n os (sent w n (node_of peer) bytes origin)
shown_held n (Up session side frame ∷ os) w = shown_held n os w
shown_held n (Gone session ∷ os) w = shown_held n os w
shown_held n (Drop x ∷ os) w = shown_held n os w
shown_held n (Cause x ∷ os) w = shown_held n os w

-- ---- what passes

not_false : (b : Bool) → not b ≡ false → b ≡ true
not_false true h = refl
not_false false h = absurd (true≢false h)

-- a frame that passes came from the peer of its call, and is that of the message
known_from : (role : Role) (up : Bool) (tunnel of peer from : ℕ) (frame : List ℕ) (t q : ℕ) (s : Side) (g : List ℕ)
    → carry_known role up tunnel of peer from frame ≡ Upward t q s g → (q ≡ from) × (g ≡ frame)
unfolding carry_known
known_from role up tunnel of peer from frame t q s g h =
    by (not (tunnel == of)) (not (peer == from)) refl (nat_lt (length frame) 2) (up || is_for_lcp role frame) h
  where
    by : (a b : Bool) → not (peer == from) ≡ b → (c d : Bool)
        → (if a then Dropped why.Tunnel else if b then Dropped why.Peer else if c then Dropped why.Short
        else if d then Upward tunnel peer (side_of role frame) frame else Dropped why.Closed) ≡ Upward t q s g → (q ≡ from) × (g ≡ frame)
    by true b is c d h = absurd (cc)
    by false true is c d h = absurd (cc)
    by false false is true d h = absurd (cc)
    by false false is false false h = absurd (cc)
    by false false is false true h =
        let one : peer ≡ q = cc in
        let two : frame ≡ g = cc in
        (sym one ∙ eqb-true peer from (not_false (peer == from) is), sym two)

look_from : (role : Role) (l : Look) (from : ℕ) (h : Header) (frame : List ℕ) (t q : ℕ) (s : Side) (g : List ℕ)
    → carry_look role l from h frame ≡ Upward t q s g → (q ≡ from) × (g ≡ frame)
unfolding carry_look
look_from role Unborn from h frame t q s g is = absurd (cc)
look_from role Dead from h frame t q s g is = absurd (cc)
look_from role (Bound tunnel peer) from h frame t q s g is = known_from role false tunnel h.tunnel peer from frame t q s g is
look_from role (Established tunnel peer) from h frame t q s g is = known_from role true tunnel h.tunnel peer from frame t q s g is

-- ---- a load

-- the frame of a packet that was sent was sent in the call of its session, whatever is done with it
module _ (calm : Bool) (w : World) (gs : List Passage) (n : ℕ) (o : Option Packet) (f : Held) (is : IsLoaded w n o f)
    (ok : PacketOk calm w.nodes gs is.packet) where
  original : WasSentInCall w.nodes gs is.packet.from n is.header.session (frame_of (body_of is.packet.bytes is.header))
  unfolding uncovered_datagram
  original = subst (λ k. WasSentInCall w.nodes gs is.packet.from k is.header.session (frame_of (body_of is.packet.bytes is.header))) is.to
      ((ok.bytes None).frames is.header is.read is.plain)

  from : (f.peer ≡ address_of is.packet.from) × (f.frame ≡ frame_of (body_of is.packet.bytes is.header))
  from = look_from is.node.end.role _ (address_of is.packet.from) is.header
      (frame_of (body_of is.packet.bytes is.header)) f.tunnel f.peer f.side f.frame is.carried

  birth : f.birth ≡ original.passage.birth
  birth = is.birth ∙ birth_is w n is.header.session original.passage.birth original.birth

  pub loaded_ok : HeldOk w.nodes gs n f
  loaded_ok = record {
    passage = original.passage;
    there = original.there;
    frame_is = from.1 ∙ original.frame_is;
    birth_is = birth;
    some = original.some;
    born = rw (is.session, birth) original.birth;
    role = original.role;
    from_is = original.from_is ∙ sym (ap node_of from.0 ∙ node_again is.packet.from ok.from);
    to_is = original.to_is;
  }

-- ---- tables of frames

abbrev Tables : Type 0
Tables = List (ℕ × List (ℕ × Held))

abbrev held_in : Tables → ℕ → List (ℕ × Held)
held_in t n = unwrap_or (at t n) []

put_here : (t : Tables) (n : ℕ) (fs : List (ℕ × Held)) (m : ℕ) → m ≡ n → held_in (put t n fs) m ≡ fs
put_here t n fs m e = rw (e, at_new t n fs) refl

put_there : (t : Tables) (n : ℕ) (fs : List (ℕ × Held)) (m : ℕ) → (m ≡ n → ⊥) → held_in (put t n fs) m ≡ held_in t m
put_there t n fs m o = rw (at_other t n fs m o) refl

-- the frames of one node are others
module _ (w v : World) (gs : List Passage) (h : HeldIsSent w gs) (n : ℕ) (fs : List (ℕ × Held)) (nodes : v.nodes ≡ w.nodes)
    (held : v.held ≡ put w.held n fs)
    (order : Ascends fs) (each : (number : ℕ) (f : Held) → at fs number ≡ Some f → HeldOk w.nodes gs n f) where
  at_mine : (m number : ℕ) (f : Held) → m ≡ n → at (held_in (put w.held n fs) m) number ≡ Some f → HeldOk w.nodes gs m f
  at_mine m number f e there =
      subst (λ k. HeldOk w.nodes gs k f) (sym e)
      (each number f (subst (λ (t : List (ℕ × Held)). at t number ≡ Some f) (put_here w.held n fs m e) there))

  at_its : (m number : ℕ) (f : Held) → (m ≡ n → ⊥) → at (held_in (put w.held n fs) m) number ≡ Some f → HeldOk w.nodes gs m f
  at_its m number f o there = h.sent m number f (subst (λ (t : List (ℕ × Held)). at t number ≡ Some f) (put_there w.held n fs m o) there)

  pub held_changed : HeldIsSent v gs
  held_changed = record {
    sent = λ m number f there.
        (let now = subst (λ (t : Tables). at (held_in t m) number ≡ Some f) held there in
        subst (λ (ns : Nodes). HeldOk ns gs m f) (sym nodes)
        (⊎_elim (λ (e : m ≡ n). at_mine m number f e now) (λ o. at_its m number f o now) (same_or_not m n)));
    order = λ m. subst (λ (t : Tables). Ascends (held_in t m)) (sym held)
        (⊎_elim (λ (e : m ≡ n). subst Ascends (sym (put_here w.held n fs m e)) order)
        (λ o. subst Ascends (sym (put_there w.held n fs m o)) (h.order m)) (same_or_not m n));
    nodes = subst Ascends (sym held) (ascends-put n fs w.held h.nodes);
  }

-- one more
pub one_more_held : (w : World) (gs : List Passage) → HeldIsSent w gs → (number n : ℕ) (f : Held) → HeldOk w.nodes gs n f
    → HeldIsSent (held_line w number n f).world gs
unfolding held_line
one_more_held w gs h number n f ok =
    held_changed w (held_line w number n f).world gs h n (put (held_at w n) (held_line w number n f).world.loads f) refl refl
    (ascends-put (held_line w number n f).world.loads f (held_at w n) (h.order n))
    (λ k g there. ⊎_elim
    (λ (a : (k ≡ (held_line w number n f).world.loads) × (f ≡ g)). subst (HeldOk w.nodes gs n) a.1 ok)
    (λ a. h.sent n k g a.1)
    (found_put (held_at w n) (held_line w number n f).world.loads f k g there))

-- one that is handed up is held no more
pub one_less_held : (w : World) (gs : List Passage) → HeldIsSent w gs → (n number : ℕ) → HeldIsSent (taken_up w n number) gs
one_less_held w gs h n number =
    held_changed w (taken_up w n number) gs h n (without (held_at w n) number) refl refl
    (ascends-without number (held_at w n) (h.order n))
    (λ k g there. h.sent n k g (found_without (held_at w n) number k g (h.order n) there).1)

-- ---- a frame that is handed up

-- what is handed up is what was sent at an earlier line
pub hand_was_sent : (w : World) (gs : List Passage) (line n number : ℕ) (k : IsHeldAt w n number) → HeldOk w.nodes gs n k.frame
    → ((g : Passage) → Among g gs → g.line < line) → (hs : List Passage)
    → WasSent (gs ++ hs) (passage_of (hand_deed line n k.node.end.role k.frame) k.frame.peer k.frame.session k.frame.frame)
hand_was_sent w gs line n number k ok earlier hs = record {
  passage = ok.passage;
  there = among_left ok.passage gs hs ok.there;
  is = record {
    frame = ok.frame_is;
    birth = ok.birth_is;
    born = rw ok.birth_is ok.some;
    end = role_there w.nodes n (other_end ok.passage.role) k.node k.there ok.role;
    sender = sym ok.from_is;
    receiver = ok.to_is;
    earlier = earlier ok.passage ok.there;
  };
}
