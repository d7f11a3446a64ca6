-- What holds of a world goes on to hold.
use Rattle.std.proofs.Common.{◌≡◌, Bool, inl, inr, ⊎_elim, ℕ, zero, suc, ◌≤◌, List, [], ◌∷◌, ◌++◌, refl, sym, subst, Some, arith, ◌<◌, ◌⊎◌}
use Rattle.std.specs.Prelude.{drop, slice_get, unwrap_or}
use Rattle.id_table.specs.Ids.{at}
use Rattle.id_table.specs.Order.{Ascends}
use Rattle.std.specs.List.{AllByRecursion}
use Rattle.wire_base.specs.declared.letter.Letter.{Letter}
use Rattle.control_message.specs.declared.message.Message.{Message}
use Rattle.control_message.specs.declared.message.Message.TheVariants.{Sccrq, Sccrp, Scccn, StopCcn, Hello, Ocrq, Ocrp, Occn, Icrq, Icrp, Iccn, Cdn, Wen, Sli, Fsq, Fsr}
use Rattle.end_model.specs.declared.tunnel.Call.{Call}
use Rattle.session_book.specs.declared.record.BookTunnel.{BookTunnel}
use Rattle.session_book.specs.declared.record.BookCall.{BookCall}
use Rattle.session_book.specs.Books.{Kept}
use Rattle.end_names.specs.declared.role.Role.{Role}
use Rattle.end_names.specs.declared.role.Role.TheVariants.{Lac, Lns}
use Rattle.world_model.specs.declared.packet.Packet.{Packet}
use Rattle.end_names.specs.Names.{node_of}
use Rattle.end_model.specs.Tunnels.{Tunnel}
use Rattle.end_model.specs.End.{End}
use Rattle.step_laws.specs.Letters.{Among}
use Rattle.world_model.specs.declared.held.Held.{Held}
use Rattle.world_model.specs.World.{World, Node}
use Rattle.frame_laws.specs.Past.{Passage}
use Rattle.frame_laws.specs.Frames.{other_end}
use Rattle.end_model.specs.Secrets.{uncovered_datagram}
pub use Rattle.frame_laws.specs.Facts.{Nodes, birth_in_node, Born, role_in_node, Plays, Grows, Mates, NamesItsCall, WasSentInCall, ReadOk, BytesOk, PacketOk, KnowsItsMate, CallOk, CallsOk, SuggestsOk, RecoveryOk, FitsPair, CallBooked, BooksCall, BookOk, LetterOk, LettersOk, TunnelOk, EndOk, NodeOk, Holds, HeldOk, HeldIsSent, StepLaws, LooksOfRuns, HeldOfRuns, FactsOfRuns, CalmFactsOfRuns}

pub all_map : {X : Type 0} (P Q : X → Type 0) → ((x : X) → P x → Q x) → (xs : List X) → AllByRecursion P xs → AllByRecursion Q xs
all_map P Q f [] h = tt
all_map P Q f (x ∷ xs) h = (f x h.0, all_map P Q f xs h.1)

pub all_push : {X : Type 0} (P : X → Type 0) (xs : List X) (x : X) → AllByRecursion P xs → P x → AllByRecursion P (xs ++ x ∷ [])
all_push P [] x h p = (p, tt)
all_push P (y ∷ xs) x h p = (h.0, all_push P xs x h.1 p)

pub all_drop : {X : Type 0} (P : X → Type 0) (k : ℕ) (xs : List X) → AllByRecursion P xs → AllByRecursion P (drop k xs)
all_drop P zero xs h = h
all_drop P (suc k) [] h = tt
all_drop P (suc k) (x ∷ xs) h = all_drop P k xs h.1

-- the one at a place
pub all_at : {X : Type 0} (P : X → Type 0) (xs : List X) (k : ℕ) (x : X) → slice_get xs k ≡ Some x → AllByRecursion P xs → P x
all_at P [] k x is h = absurd (cc)
all_at P (y ∷ xs) zero x is h = let e : y ≡ x = cc in subst P e h.0
all_at P (y ∷ xs) (suc k) x is h = all_at P xs k x is h.1

-- ---- births and roles

pub same_nodes : (ns : Nodes) → Grows ns ns
same_nodes ns = record { births = λ n s b h. h; roles = λ n r h. h }

pub grows_on : (ns ms os : Nodes) → Grows ns ms → Grows ms os → Grows ns os
grows_on ns ms os g h = record { births = λ n s b k. h.births n s b (g.births n s b k); roles = λ n r k. h.roles n r (g.roles n r k) }

other_twice : (r : Role) → other_end (other_end r) ≡ r
other_twice Lac = refl
other_twice Lns = refl

pub swapped : (ns : Nodes) (n s m a : ℕ) → Mates ns n s m a → Mates ns m a n s
swapped ns n s m a h =
    record {
      birth = h.birth;
      some = h.some;
      here = h.there;
      there = h.here;
      role = other_end h.role;
      mine = h.its;
      its = rw
          (other_twice h.role) h.mine;
    }

pub mates_later : (ns ms : Nodes) → Grows ns ms → (n s m a : ℕ) → Mates ns n s m a → Mates ms n s m a
mates_later ns ms g n s m a h =
    record {
      birth = h.birth;
      some = h.some;
      here = g.births n s h.birth h.here;
      there = g.births m a h.birth h.there;
      role = h.role;
      mine = g.roles n h.role h.mine;
      its = g.roles m (other_end h.role) h.its;
    }

-- ---- packets

pub names_later : (ns ms : Nodes) → Grows ns ms → (from to session : ℕ) (m : Message) → NamesItsCall ns from to session m
    → NamesItsCall ms from to session m
names_later ns ms g from to session (Icrq own serial calling) h = ((h.0.0, h.0.1, g.births from own h.0.0 h.0.2), g.roles from Lac h.1)
names_later ns ms g from to session (Icrp own) h = mates_later ns ms g from own to session h
names_later ns ms g from to session (Cdn own code error) h = ⊎_elim (λ a. inl a) (λ k. inr (told_later k)) h
  where
    told_later : ((b : ℕ) × (0 < b) × Born ns from own b) × ((session ≡ 0) ⊎ Mates ns from own to session)
        → ((b : ℕ) × (0 < b) × Born ms from own b) × ((session ≡ 0) ⊎ Mates ms from own to session)
    told_later k =
        ((k.0.0, k.0.1, g.births from own k.0.0 k.0.2), ⊎_elim (λ a. inl a) (λ a. inr (mates_later ns ms g from own to session a)) k.1)
names_later ns ms g from to session (StopCcn tunnel code error) h = tt
names_later ns ms g from to session Hello h = tt
names_later ns ms g from to session (Ocrq own) h = tt
names_later ns ms g from to session Ocrp h = tt
names_later ns ms g from to session Occn h = tt
names_later ns ms g from to session Wen h = tt
names_later ns ms g from to session Sli h = tt
names_later ns ms g from to session (Fsq sessions) h = tt
names_later ns ms g from to session (Fsr sessions) h = tt
names_later ns ms g from to session (Sccrq o) h = tt
names_later ns ms g from to session (Sccrp o) h = tt
names_later ns ms g from to session (Scccn response) h = tt
names_later ns ms g from to session (Iccn speed framing sequenced) h = tt

pub among_left : {X : Type 0} (g : X) (gs hs : List X) → Among g gs → Among g (gs ++ hs)
among_left g [] hs h = absurd h
among_left g (q ∷ gs) hs h = ⊎_elim (λ a. inl a) (λ a. inr (among_left g gs hs a)) h

pub among_right : {X : Type 0} (g : X) (gs hs : List X) → Among g hs → Among g (gs ++ hs)
among_right g [] hs h = h
among_right g (q ∷ gs) hs h = inr (among_right g gs hs h)

pub sent_in_call_later : (ns ms : Nodes) → Grows ns ms → (gs hs : List Passage) (from to session : ℕ) (frame : List ℕ)
    → WasSentInCall ns gs from to session frame → WasSentInCall ms (gs ++ hs) from to session frame
sent_in_call_later ns ms g gs hs from to session frame h =
    record {
      passage = h.passage;
      there = among_left h.passage gs hs h.there;
      frame_is = h.frame_is;
      birth = g.births to session h.passage.birth h.birth;
      some = h.some;
      role = g.roles to (other_end h.passage.role) h.role;
      from_is = h.from_is;
      to_is = h.to_is;
    }

read_later : (calm : Bool) (ns ms : Nodes) → Grows ns ms → (gs hs : List Passage) (from to : ℕ) (bytes : List ℕ)
    → ReadOk calm ns gs from to bytes
    → ReadOk calm ms (gs ++ hs) from to bytes
read_later calm ns ms g gs hs from to bytes h =
    record {
      frames = λ x e c. sent_in_call_later ns ms g gs hs from to x.session _ (h.frames x e c);
      letters = λ x e c m r. let l = h.letters x e c m r in (l.0, names_later ns ms g from to x.session m l.1);
      plainly = h.plainly;
      faulty = h.faulty;
      told = h.told;
      zero = h.zero;
    }

pub bytes_later : (calm : Bool) (ns ms : Nodes) → Grows ns ms → (gs hs : List Passage) (from to : ℕ) (bytes : List ℕ)
    → BytesOk calm ns gs from to bytes
    → BytesOk calm ms (gs ++ hs) from to bytes
bytes_later calm ns ms g gs hs from to bytes h secret = read_later calm ns ms g gs hs from to (uncovered_datagram secret bytes) (h secret)

pub packets_later : (calm : Bool) (ns ms : Nodes) → Grows ns ms → (gs hs : List Passage) (ps : List Packet)
    → AllByRecursion (PacketOk calm ns gs) ps
    → AllByRecursion (PacketOk calm ms (gs ++ hs)) ps
packets_later calm ns ms g gs hs [] h = tt
packets_later calm ns ms g gs hs (p ∷ ps) h =
    let bytes = bytes_later calm ns ms g gs hs p.from p.to p.bytes h.0.bytes in
    (record { from = h.0.from; bytes = bytes }, packets_later calm ns ms g gs hs ps h.1)

-- ---- ends

pub call_later : (ns ms : Nodes) → Grows ns ms → (n : ℕ) (role : Role) (bound more peer s : ℕ) (c : Call) → bound ≤ more
    → CallOk ns n role bound peer s c → CallOk ms n role more peer s c
call_later ns ms g n role bound more peer s c le h =
    record {
      drawn = (let d = h.drawn in omega arith);
      birth = h.birth;
      some = h.some;
      born = g.births n s h.birth h.born;
      remote = h.remote;
      known = ⊎_elim (λ a. inl a) (λ a. inr (mates_later ns ms g n s (node_of peer) c.remote a)) h.known;
      mate = λ k. mates_later ns ms g n s (node_of peer) c.remote (h.mate k);
      link = h.link;
    }

pub letter_later : (calm : Bool) (ns ms : Nodes) → Grows ns ms → (n peer : ℕ) (l : Letter) → LetterOk calm ns n peer l
    → LetterOk calm ms n peer l
letter_later calm ns ms g n peer l h =
    record {
      message = h.message;
      hidden = h.hidden;
      hides = h.hides;
      spelt = h.spelt;
      session = h.session;
      written = h.written;
      plainly = h.plainly;
      names = names_later ns ms g n (node_of peer) l.session h.message h.names;
    }

pub letters_later : (calm : Bool) (ns ms : Nodes) → Grows ns ms → (n peer : ℕ) (ls : List Letter) → LettersOk calm ns n peer ls
    → LettersOk calm ms n peer ls
letters_later calm ns ms g n peer ls h = all_map (LetterOk calm ns n peer) (LetterOk calm ms n peer)
    (λ l k. letter_later calm ns ms g n peer l k) ls h

pub tunnel_later : (calm : Bool) (ns ms : Nodes) → Grows ns ms → (n : ℕ) (e x : End) (i : ℕ) (t : Tunnel) → x.role ≡ e.role
    → e.tunnel_ids.next ≤ x.tunnel_ids.next
    → e.session_ids.next ≤ x.session_ids.next → TunnelOk calm ns n e i t → TunnelOk calm ms n x i t
tunnel_later calm ns ms g n e x i t role le more h =
    record {
      local = h.local;
      drawn = (let d = h.drawn in omega arith);
      remote = h.remote;
      letters = letters_later calm ns ms g n t.control.peer t.letters h.letters;
      calls = λ s c f. rw role (call_later ns ms g n e.role e.session_ids.next x.session_ids.next t.control.peer s c more (h.calls s c f));
      order = h.order;
      line = h.line;
      asked = h.asked;
      recovery = h.recovery;
      query = h.query;
    }

pub end_later : (calm : Bool) (ns ms : Nodes) → Grows ns ms → (n : ℕ) (e : End) → EndOk calm ns n e → EndOk calm ms n e
end_later calm ns ms g n e h =
    record {
      number = h.number;
      first = h.first;
      last = h.last;
      most_tunnels = h.most_tunnels;
      first_session = h.first_session;
      last_session = h.last_session;
      most = h.most;
      last_draw = h.last_draw;
      tunnels = λ i t f. tunnel_later calm ns ms g n e e i t refl (omega arith) (omega arith) (h.tunnels i t f);
      order = h.order;
    }

call_booked_later : (ns ms : Nodes) → Grows ns ms → (n peer : ℕ) (c : BookCall) → CallBooked ns n peer c → CallBooked ms n peer c
call_booked_later ns ms g n peer c h = record { remote = h.remote; mate = mates_later ns ms g n c.local (node_of peer) c.remote h.mate }

pub book_later : (ns ms : Nodes) → Grows ns ms → (n : ℕ) (k : Kept) → BookOk ns n k → BookOk ms n k
book_later ns ms g n k h = record {
  tunnels = h.tunnels;
  calls = all_map (BooksCall ns n k.tunnels) (BooksCall ms n k.tunnels)
      (λ c all. all_map (λ (b : BookTunnel). b.local ≡ c.tunnel → CallBooked ns n b.peer c)
      (λ (b : BookTunnel). b.local ≡ c.tunnel → CallBooked ms n b.peer c)
      (λ b is same. call_booked_later ns ms g n b.peer c (is same)) k.tunnels all)
      k.calls h.calls;
}

pub node_later : (calm : Bool) (ns ms : Nodes) → Grows ns ms → (n : ℕ) (node : Node) → NodeOk calm ns n node → NodeOk calm ms n node
node_later calm ns ms g n node h = record {
  number = h.number;
  kept = h.kept;
  looks = h.looks;
  end = end_later calm ns ms g n node.end h.end;
  book = book_later ns ms g n node.checkpoint.book h.book;
  births = h.births;
}

-- so it is of one that differs in what the world keeps of its tunnels alone
pub node_like_ok : (calm : Bool) (ns : Nodes) (n : ℕ) (node more : Node) → more.end ≡ node.end → more.births ≡ node.births
    → more.checkpoint ≡ node.checkpoint
    → NodeOk calm ns n node → NodeOk calm ns n more
node_like_ok calm ns n node more end births checkpoint h = record {
  number = h.number;
  kept = rw end h.kept;
  looks = rw end h.looks;
  end = rw end h.end;
  book = rw checkpoint h.book;
  births = rw (end, births) h.births;
}

-- ---- frames that are held

pub held_ok_later : (ns ms : Nodes) → Grows ns ms → (gs hs : List Passage) (n : ℕ) (f : Held) → HeldOk ns gs n f → HeldOk ms (gs ++ hs) n f
held_ok_later ns ms g gs hs n f h =
    record {
      passage = h.passage;
      there = among_left h.passage gs hs h.there;
      frame_is = h.frame_is;
      birth_is = h.birth_is;
      some = h.some;
      born = g.births n f.session f.birth h.born;
      role = g.roles n (other_end h.passage.role) h.role;
      from_is = h.from_is;
      to_is = h.to_is;
    }

-- where no frame more is held
pub held_later : (w v : World) → v.held ≡ w.held → Grows w.nodes v.nodes → (gs hs : List Passage) → HeldIsSent w gs
    → HeldIsSent v (gs ++ hs)
held_later w v same g gs hs h =
    record {
      sent = λ n number f there.
          held_ok_later w.nodes v.nodes g gs hs n f
          (h.sent n number f (subst (λ (t : List (ℕ × List (ℕ × Held))). at (unwrap_or (at t n) []) number ≡ Some f) same there));
      order = λ n. subst (λ (t : List (ℕ × List (ℕ × Held))). Ascends (unwrap_or (at t n) [])) (sym same) (h.order n);
      nodes = subst Ascends (sym same) h.nodes;
    }
