-- What each move does with births and mates of calls in the machine.
use Rattle.std.proofs.Common.{◌≡◌, ℕ, ◌+◌, ◌<◌, ◌≤◌, refl, ap, arith}
use Rattle.end_model.specs.declared.moves.Replied.{Replied}
use Rattle.end_model.specs.declared.moves.Move.{Move}
use Rattle.end_model.specs.declared.moves.Move.TheVariants as move
use Rattle.end_names.specs.declared.role.Role.{Role}
use Rattle.end_names.specs.declared.role.Role.TheVariants.{Lac, Lns}
use Rattle.end_names.specs.Names.{node_of}
use Rattle.end_model.specs.End.{End}
use Rattle.epoch_machine.specs.Calls as calls
use Rattle.epoch_machine.specs.Worlds as machine
use Rattle.session_laws.specs.Names.{name}
use Rattle.session_laws.specs.Joined.{ReplyJoined}

-- no call is born, none replies, and none learns of its other end
pub record BirthsSame (w v : machine.World) : Type 0 where
  pub count : v.calls.births ≡ w.calls.births
  pub birth : (z : ℕ) → v.calls.birth z ≡ w.calls.birth z
  pub mate : (z : ℕ) → v.calls.mate z ≡ w.calls.mate z
  pub remote : (z : ℕ) → v.calls.remote z ≡ w.calls.remote z

-- the call is born
pub record IsBorn (w v : machine.World) (z : ℕ) : Type 0 where
  pub count : v.calls.births ≡ w.calls.births + 1
  pub here : v.calls.birth z ≡ w.calls.births + 1
  pub birth : (k : ℕ) → (k ≡ z → ⊥) → v.calls.birth k ≡ w.calls.birth k
  pub mate : (k : ℕ) → v.calls.mate k ≡ w.calls.mate k
  pub remote : (k : ℕ) → v.calls.remote k ≡ w.calls.remote k

-- the call replies to another one, and has its birth
pub record RepliesTo (w v : machine.World) (z own : ℕ) : Type 0 where
  pub count : v.calls.births ≡ w.calls.births
  pub here : v.calls.birth z ≡ w.calls.birth own
  pub birth : (k : ℕ) → (k ≡ z → ⊥) → v.calls.birth k ≡ w.calls.birth k
  pub mate_here : v.calls.mate z ≡ own
  pub mate : (k : ℕ) → (k ≡ z → ⊥) → v.calls.mate k ≡ w.calls.mate k
  pub remote_here : v.calls.remote z ≡ own
  pub remote : (k : ℕ) → (k ≡ z → ⊥) → v.calls.remote k ≡ w.calls.remote k

-- the call learns the one that replied to it
pub record IsAnswered (w v : machine.World) (z : ℕ) : Type 0 where
  pub count : v.calls.births ≡ w.calls.births
  pub birth : (k : ℕ) → v.calls.birth k ≡ w.calls.birth k
  pub mate : (k : ℕ) → v.calls.mate k ≡ w.calls.mate k
  pub remote : (k : ℕ) → (k ≡ z → ⊥) → v.calls.remote k ≡ w.calls.remote k

-- session ids have 16 bits, and nodes' numbers 8
abbrev pub BirthsGo : machine.World → machine.World → ℕ → Role → Move → Type 0
BirthsGo w v n r (move.Added m) = (m.session < 65536) × IsBorn w v (name n m.session)
BirthsGo w v n r (move.Replied m) =
    (r ≡ Lns) × (m.session < 65536) × (node_of m.peer < 256) × (m.remote < 65536)
    × RepliesTo w v (name n m.session) (name (node_of m.peer) m.remote)
BirthsGo w v n r (move.FirstUp m) = (r ≡ Lac) × (m.session < 65536) × IsAnswered w v (name n m.session)
BirthsGo w v n r m = BirthsSame w v

-- how many calls are born by a move
abbrev pub births_by : Move → ℕ
births_by (move.Added m) = 1
births_by m = 0

-- each birth takes a session id of the end, and mates stay
pub record BirthsFollow (w v : machine.World) (n : ℕ) (e x : End) (m : Move) : Type 0 where
  pub go : BirthsGo w v n e.role m
  pub role : x.role ≡ e.role
  pub rises : births_by m + e.session_ids.next ≤ x.session_ids.next
  pub mates : (z : ℕ) → (w.calls.mate z ≡ 0 → ⊥) → v.calls.mate z ≡ w.calls.mate z
  pub replies : (r : Replied) → m ≡ move.Replied r → ReplyJoined v n r

-- a move by which no call is born, replies or is replied to, and no opening is declined
abbrev pub IsElse : Move → Type 0
IsElse (move.Added m) = ⊥
IsElse (move.Replied m) = ⊥
IsElse (move.FirstUp m) = ⊥
IsElse (move.Declined m) = ⊥
IsElse m = Unit {0}

pub same_calls : (w v : machine.World) → v.calls ≡ w.calls → BirthsSame w v
same_calls w v same = record {
  count = ap (λ (c : calls.Calls). c.births) same;
  birth = λ z. ap (λ (c : calls.Calls). c.birth z) same;
  mate = λ z. ap (λ (c : calls.Calls). c.mate z) same;
  remote = λ z. ap (λ (c : calls.Calls). c.remote z) same;
}

-- no session id is drawn, and no call is born or replies
pub none_follow : (w v : machine.World) (n : ℕ) (e x : End) (m : Move) → x.role ≡ e.role → x.session_ids ≡ e.session_ids
    → BirthsGo w v n e.role m → births_by m ≡ 0 → BirthsSame w v → ((r : Replied) → m ≡ move.Replied r → ⊥) → BirthsFollow w v n e x m
none_follow w v n e x m role sessions go none same other = record {
  go = go;
  role = role;
  rises = rw (none, sessions) (omega arith);
  mates = λ z some. same.mate z;
  replies = λ r is. absurd (other r is);
}

pub else_follow : (w v : machine.World) (n : ℕ) (e x : End) (m : Move) → IsElse m → BirthsSame w v → x.role ≡ e.role
    → x.session_ids ≡ e.session_ids → BirthsFollow w v n e x m
else_follow w v n e x m is same role sessions = by m is
  where
    it : (m : Move) → BirthsGo w v n e.role m → births_by m ≡ 0 → ((r : Replied) → m ≡ move.Replied r → ⊥) → BirthsFollow w v n e x m
    it m go none other = none_follow w v n e x m role sessions go none same other

    by : (m : Move) → IsElse m → BirthsFollow w v n e x m
    by (move.Added m) is = absurd is
    by (move.Replied m) is = absurd is
    by (move.FirstUp m) is = absurd is
    by (move.Declined m) is = absurd is
    by (move.Opened m) is = it (move.Opened m) same refl (λ r no. absurd cc)
    by (move.Accepted m) is = it (move.Accepted m) same refl (λ r no. absurd cc)
    by (move.Connected m) is = it (move.Connected m) same refl (λ r no. absurd cc)
    by (move.Confirmed m) is = it (move.Confirmed m) same refl (λ r no. absurd cc)
    by (move.Requested m) is = it (move.Requested m) same refl (λ r no. absurd cc)
    by (move.SecondUp m) is = it (move.SecondUp m) same refl (λ r no. absurd cc)
    by (move.Refused m) is = it (move.Refused m) same refl (λ r no. absurd cc)
    by (move.EndTold m) is = it (move.EndTold m) same refl (λ r no. absurd cc)
    by (move.EndHeard m) is = it (move.EndHeard m) same refl (λ r no. absurd cc)
    by (move.EndSilent m) is = it (move.EndSilent m) same refl (λ r no. absurd cc)
    by (move.Closed m) is = it (move.Closed m) same refl (λ r no. absurd cc)
    by (move.Rejected m) is = it (move.Rejected m) same refl (λ r no. absurd cc)
    by (move.ClosedBy m) is = it (move.ClosedBy m) same refl (λ r no. absurd cc)
    by (move.Cleared i booked) is = it (move.Cleared i booked) same refl (λ r no. absurd cc)
    by (move.Greeted m) is = it (move.Greeted m) same refl (λ r no. absurd cc)
    by (move.TookPlain m) is = it (move.TookPlain m) same refl (λ r no. absurd cc)
    by (move.NrRead m) is = it (move.NrRead m) same refl (λ r no. absurd cc)
    by (move.LetGo m) is = it (move.LetGo m) same refl (λ r no. absurd cc)
    by (move.Repeated m) is = it (move.Repeated m) same refl (λ r no. absurd cc)
    by (move.Quiet i) is = it (move.Quiet i) same refl (λ r no. absurd cc)
    by (move.Negotiated m) is = it (move.Negotiated m) same refl (λ r no. absurd cc)
    by (move.Counted m) is = it (move.Counted m) same refl (λ r no. absurd cc)
    by (move.FrameSent m) is = it (move.FrameSent m) same refl (λ r no. absurd cc)
    by (move.FrameUp m) is = it (move.FrameUp m) same refl (λ r no. absurd cc)
    by (move.Restored m) is = it (move.Restored m) same refl (λ r no. absurd cc)
    by (move.Forgot m) is = it (move.Forgot m) same refl (λ r no. absurd cc)
    by (move.Froze m) is = it (move.Froze m) same refl (λ r no. absurd cc)
    by (move.ResetAttempting m) is = it (move.ResetAttempting m) same refl (λ r no. absurd cc)
    by (move.ResetAnswering m) is = it (move.ResetAnswering m) same refl (λ r no. absurd cc)
    by (move.Queried m) is = it (move.Queried m) same refl (λ r no. absurd cc)
    by (move.AnsweredQuery m) is = it (move.AnsweredQuery m) same refl (λ r no. absurd cc)
    by (move.TookAnswer m) is = it (move.TookAnswer m) same refl (λ r no. absurd cc)
    by (move.RecoveryWentOn i) is = it (move.RecoveryWentOn i) same refl (λ r no. absurd cc)
    by (move.RecoveryEnded i) is = it (move.RecoveryEnded i) same refl (λ r no. absurd cc)
    by (move.Ignored i) is = it (move.Ignored i) same refl (λ r no. absurd cc)
