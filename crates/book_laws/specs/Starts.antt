-- A start over a book: what it leaves in the checkpoint, and the book of the end that it leads to.
use Rattle.std.specs.Prelude.{◌≡◌, ◌⊎◌, ℕ, true, false, List, [], ◌∷◌, Some, None, is_some, Err}
use Rattle.std.specs.List.{AllByRecursion}
use Rattle.id_table.specs.Ids.{at}
use Rattle.id_source.specs.declared.IdError.{IdError}
use Rattle.id_source.specs.Spaces.{takes_id}
use Rattle.tunnel_fsm.specs.Rows.{state_number}
use Rattle.call_fsm.specs.declared.table.CallState.TheVariants.{Established}
use Rattle.end_names.specs.declared.role.Role.{Role}
use Rattle.session_book.specs.declared.record.BookTunnel.{BookTunnel}
use Rattle.session_book.specs.declared.record.BookCall.{BookCall}
use Rattle.session_book.specs.Books.{Kept, tunnel_at, call_at}
use Rattle.end_model.specs.declared.tunnel.Call.{Call}
use Rattle.end_model.specs.declared.tunnel.Config.{Config}
use Rattle.end_model.specs.declared.out.Out.{Out}
use Rattle.end_model.specs.declared.out.Out.TheVariants.{Send, Gone}
use Rattle.end_model.specs.Contents.{contents_of}
use Rattle.end_model.specs.End.{End, Stepped}
use Rattle.end_model.specs.Starting.{bare_end, can_recover, starts}
use Rattle.end_model.specs.Tunnels.{Tunnel}
use Rattle.step_laws.specs.Gone.{gone_in}
use Rattle.step_laws.specs.Letters.{Among}
use Rattle.step_laws.specs.Looks.{LooksAreTrue}
use Rattle.step_laws.specs.Steps.{AreKept}
pub use Rattle.step_laws.specs.Starts.{IsSoundTunnel, IsSoundCall, IsSoundBook}
use Rattle.book_laws.specs.Books.{tunnel_record, call_record, record_in, Mirrors, IsBook, Fits, AreInPlace, book_after, SuitsRole, LeavesNone, Coming, RunIsBooked}

-- ---- what a start leads to

-- each tunnel is established, and so is each of its calls
abbrev pub AreUp : End → Type 0
AreUp e =
    (i : ℕ) (t : Tunnel) → at e.tunnels i ≡ Some t
    → (state_number t.control.state ≡ 3) × ((s : ℕ) (c : Call) → at t.calls s ≡ Some c → c.state ≡ Established)

-- no tunnel id is left, or no draw number
abbrev pub LacksIds : End → Type 0
LacksIds e = ((x : IdError) × (takes_id e.tunnel_ids ≡ Err x)) ⊎ ((x : IdError) × (takes_id e.recovery_ids ≡ Err x))

-- of a book that becomes another one: a tunnel stays as it is, with its calls, where its peer can recover; or it is taken out with them, since
-- its peer can't, or since the end lacks ids for the recovery. Nothing else is there then
pub record ComesBack (e : End) (k j : Kept) : Type 0 where
  pub tunnels : (i : ℕ) (b : BookTunnel) → tunnel_at k i ≡ Some b
      → ((can_recover b ≡ true) × (tunnel_at j i ≡ Some b)) ⊎ (((can_recover b ≡ false) ⊎ LacksIds e) × (tunnel_at j i ≡ None))
  pub calls : (s : ℕ) (c : BookCall) → call_at k s ≡ Some c → is_some (tunnel_at j c.tunnel) ≡ true → call_at j s ≡ Some c
  pub only_tunnels : (i : ℕ) (b : BookTunnel) → tunnel_at j i ≡ Some b → tunnel_at k i ≡ Some b
  pub only_calls : (s : ℕ) (c : BookCall) → call_at j s ≡ Some c → (call_at k s ≡ Some c) × (is_some (tunnel_at j c.tunnel) ≡ true)

-- no session twice
abbrev pub AreOnce : List ℕ → Type 0
AreOnce [] = Unit {0}
AreOnce (q ∷ qs) = (Among q qs → ⊥) × AreOnce qs

-- what is told as gone are the sessions of the calls that were taken out of the book, each once, and no others
pub record TellsGone (k j : Kept) (s : Stepped) : Type 0 where
  pub once : AreOnce (gone_in s.outputs)
  pub had : (q : ℕ) → Among q (gone_in s.outputs) → (is_some (call_at k q) ≡ true) × (call_at j q ≡ None)
  pub told : (q : ℕ) → is_some (call_at k q) ≡ true → call_at j q ≡ None → Among q (gone_in s.outputs)

-- the records of a start over a book are in place in it, and the book after them is that of the end that it leads to, whose tables and looks are
-- kept
pub record StartIsBooked (e : End) (k : Kept) (s : Stepped) : Type 0 where
  pub in_place : AreInPlace k (contents_of e s)
  pub book : IsBook s.end (book_after k (contents_of e s))
  pub back : ComesBack s.end k (book_after k (contents_of e s))
  pub gone : TellsGone k (book_after k (contents_of e s)) s
  pub calls : AllByRecursion (LeavesNone e.role) (contents_of e s)
  pub kept : AreKept s.end
  pub looks : LooksAreTrue s.end
  pub fit : Fits s.end
  pub up : AreUp s.end
  pub role : s.end.role ≡ e.role

abbrev pub StartsAreBooked : Type 0
StartsAreBooked =
    (r : Role) (c : Config) (k : Kept) → IsSoundBook k → SuitsRole r k → (moment : ℕ) (block : List ℕ)
    → StartIsBooked (bare_end r c k) k (starts r c k moment block)

-- over the book of an end that fell: each tunnel that was established is so again, with its peer, its ids, its window, its flags and its mark, where
-- its peer can recover, and each established call that it had is established in it again; or it is gone, since its peer can't, or since the
-- end lacks ids for the recovery. Nothing else is there
pub record IsBroughtBack (e : End) (s : Stepped) : Type 0 where
  pub tunnels : (i : ℕ) (b : BookTunnel) → tunnel_record i (at e.tunnels i) ≡ Some b
      → ((can_recover b ≡ true) × (tunnel_record i (at s.end.tunnels i) ≡ Some b))
      ⊎ (((can_recover b ≡ false) ⊎ LacksIds s.end) × (at s.end.tunnels i ≡ None))
  pub calls : (i q : ℕ) (c : BookCall) → record_in i q (at e.tunnels i) ≡ Some c → is_some (at s.end.tunnels i) ≡ true
      → record_in i q (at s.end.tunnels i) ≡ Some c
  pub only_tunnels : (i : ℕ) (t : Tunnel) → at s.end.tunnels i ≡ Some t → tunnel_record i (at e.tunnels i) ≡ tunnel_record i (Some t)
  pub only_calls : (i q : ℕ) (t : Tunnel) (d : Call) → at s.end.tunnels i ≡ Some t → at t.calls q ≡ Some d
      → record_in i q (at e.tunnels i) ≡ call_record i q (Some d)

abbrev pub StartsBringBack : Type 0
StartsBringBack =
    (e : End) (k : Kept) → Mirrors e k → IsSoundBook k → SuitsRole e.role k → (moment : ℕ) (block : List ℕ)
    → IsBroughtBack e (starts e.role e.config k moment block)

-- so is a run of steps from there on: whatever comes, the book is the end's
abbrev pub StartedRunsAreBooked : Type 0
StartedRunsAreBooked =
    (r : Role) (c : Config) (k : Kept) → IsSoundBook k → SuitsRole r k → (moment : ℕ) (block : List ℕ) (cs : List Coming)
    → RunIsBooked (starts r c k moment block).end (book_after k (contents_of (bare_end r c k) (starts r c k moment block))) cs

-- what it gives is sent, or tells a call as gone: no cause, nothing that is dropped, and nothing that is handed up
abbrev pub IsSentOrGone : Out → Type 0
IsSentOrGone (Send peer bytes origin) = Unit {0}
IsSentOrGone (Gone session) = Unit {0}
IsSentOrGone o = ⊥

abbrev pub StartsSendOnly : Type 0
StartsSendOnly =
    (r : Role) (c : Config) (k : Kept) (moment : ℕ) (block : List ℕ) → AllByRecursion IsSentOrGone (starts r c k moment block).outputs
