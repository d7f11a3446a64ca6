-- The end that a move of a step leaves fits again, and has a book.
use Rattle.std.proofs.Common.{ℕ, [], ◌∷◌, refl}
use Rattle.session_book.specs.Books.{Kept}
use Rattle.end_model.specs.declared.event.Event.{Event}
use Rattle.end_model.specs.declared.moves.Move.{Move}
use Rattle.end_model.specs.Contents.{records_of}
use Rattle.end_model.specs.End.{End}
use Rattle.step_laws.specs.Moves.{Does}
use Rattle.step_laws.specs.Steps.{IsOfNoStart}
use Rattle.book_laws.specs.Books.{Mirrors, Fits, MoveIsBooked, book_after}
use Rattle.book_laws.proofs.Ceilings.{rose_none}
use Rattle.book_laws.proofs.Steps.{SpacesRose, chain_spaces, high, high_mirrors, high_drawn, moves_are_booked}

module _ (e x : End) (k : Kept) (moment : ℕ) (ev : Event) (m : Move) (start : IsOfNoStart m) (does : Does e moment ev m x) (fit : Fits e)
    (mirrors : Mirrors e k) where
  rose : SpacesRose e x
  rose = chain_spaces moment ev e e x (m ∷ []) (x, does, refl) (record {
    tunnels = (fit.tunnel_ids, rose_none 65535 e.tunnel_ids fit.tunnel_ids);
    sessions = (fit.session_ids, rose_none 65534 e.session_ids fit.session_ids);
    recoveries = (fit.recovery_ids, rose_none 4294967295 e.recovery_ids fit.recovery_ids);
  })

  booked : MoveIsBooked x (high e k) m
  booked = moves_are_booked e (high e k) fit.tables (high_drawn e k) (high_mirrors e k mirrors) moment ev m x start does

  -- the book behind its records
  abbrev pub next_book : Kept
  next_book = book_after (high e k) (records_of m)

  pub mirrors_then : Mirrors x (book_after (high e k) (records_of m))
  mirrors_then = booked.mirrors

  pub fits_then : Fits x
  fits_then = record { tables = booked.fit; tunnel_ids = rose.tunnels.0; session_ids = rose.sessions.0; recovery_ids = rose.recoveries.0 }
