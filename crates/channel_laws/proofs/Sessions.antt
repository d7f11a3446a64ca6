-- The sessions that a tunnel asks for: their ids have 16 bits, and so have those that are still to be asked for.
use Rattle.std.proofs.Common.{◌≡◌, ℕ, ◌<◌, List, Some, arith}
use Rattle.std.specs.List.{AllByRecursion}
use Rattle.id_table.specs.Ids.{at}
use Rattle.wire_base.specs.declared.pair.Pair.{Pair}
use Rattle.session_query.specs.Queries.{Asking, next_batch, answered}
use Rattle.end_model.specs.declared.tunnel.Call.{Call}
use Rattle.end_model.specs.Calls.{sessions_of}
use Rattle.end_model.specs.Querying.{unless_complete}
use Rattle.end_model.specs.Tunnels.{Tunnel, no_query}
use Rattle.end_model.specs.End.{End}
use Rattle.book_laws.specs.Books.{Fits}
use Rattle.channel_laws.specs.Facts.{QueryOk}
pub use Rattle.frame_laws.specs.Facts.{FitsPair}
pub use Rattle.frame_laws.proofs.Sessions.{IsFound, all_found, batch_written, answers_written}
use Rattle.frame_laws.proofs.Sessions as below

pub sessions_fit : (e : End) → Fits e → (i : ℕ) (t : Tunnel) → at e.tunnels i ≡ Some t
    → ((s : ℕ) (c : Call) → at t.calls s ≡ Some c → c.remote < 65536)
    → AllByRecursion FitsPair (sessions_of t.calls)
sessions_fit e fit i t there remotes =
    let tunnel = fit.tables.tunnels i t there in
    below.sessions_fit t.calls tunnel.order (λ s c found.
    let drawn = (tunnel.calls s c found).drawn in
    let top = fit.session_ids.drawn in
    let most = fit.session_ids.within in
    (omega (arith, drawn, top, most), remotes s c found))

pub asks_none : (pairs : List Pair) → next_batch no_query ≡ Some pairs → ⊥
unfolding next_batch
asks_none pairs h = absurd cc

pub query_left : (e : ℕ) (q : Asking) → (e ≡ 0 → ⊥) → AllByRecursion FitsPair q.pairs → QueryOk e (unless_complete (answered q))
query_left e q later fit = record { none = λ zero. absurd (later zero); fit = below.asked_left q fit }
