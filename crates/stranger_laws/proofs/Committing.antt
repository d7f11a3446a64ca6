-- What is committed where all records are ceilings of tunnel ids.
use Rattle.std.proofs.Common.{◌≡◌, ℕ, ◌+◌, ◌-◌, Bool, true, false, zero, suc, List, [], ◌∷◌, take, length, refl, ◌∙◌, Option, Some, None, is_some}
use Rattle.std.specs.Prelude.{nat_le, if◌then◌else◌}
use Rattle.std.specs.List.{AllByRecursion}
use Rattle.session_book.specs.declared.record.Record.{Record}
use Rattle.session_book.specs.declared.record.Record.TheVariants.{Ceiling, TunnelUp, TunnelDown, CallUp, CallDown, Mark}
use Rattle.session_book.specs.Books.{Kept, raised, fits, stepped as with_record}
use Rattle.world_model.specs.declared.stop.StopAt.{StopAt}
use Rattle.world_model.specs.World.{Checkpoint, Committed, IsFull, IsCut, IsWhole, recorded, recorded_all, is_full, with_stop, kept_by, commits_by, commits}
use Rattle.stranger_steps.specs.Strangers.{IsOfTunnelIds}
use Rattle.stranger_laws.specs.Lines.{HasAllOf}

pub all_of_itself : (k : Kept) → HasAllOf k k
all_of_itself k = record { tunnels = refl; calls = refl; session_ceiling = refl; draw_ceiling = refl }

all_of_both : (a b c : Kept) → HasAllOf a b → HasAllOf b c → HasAllOf a c
all_of_both a b c h k = record {
  tunnels = k.tunnels ∙ h.tunnels;
  calls = k.calls ∙ h.calls;
  session_ceiling = k.session_ceiling ∙ h.session_ceiling;
  draw_ceiling = k.draw_ceiling ∙ h.draw_ceiling;
}

raised_has : (space number : ℕ) (k : Kept) → space ≡ 1 → HasAllOf k (raised space number k)
raised_has space number k is = rw is (record { tunnels = refl; calls = refl; session_ceiling = refl; draw_ceiling = refl })

recorded_has : (k : Checkpoint) (r : Record) → IsOfTunnelIds r → HasAllOf k.book (recorded k r).book
recorded_has k (TunnelUp t) of = absurd of
recorded_has k (TunnelDown id) of = absurd of
recorded_has k (CallUp c) of = absurd of
recorded_has k (CallDown id) of = absurd of
recorded_has k (Mark id mark) of = absurd of
recorded_has k (Ceiling space number) of = by (fits k.book (Ceiling space number))
  where
    by : (c : Bool)
        → HasAllOf k.book (if c then record k { records = k.records + 1; book = with_record k.book (Ceiling space number) } else k).book
    by true = raised_has space number k.book of
    by false = all_of_itself k.book

all_recorded_has : (k : Checkpoint) (rs : List Record) → AllByRecursion IsOfTunnelIds rs → HasAllOf k.book (recorded_all k rs).book
unfolding recorded_all
all_recorded_has k [] of = all_of_itself k.book
all_recorded_has k (r ∷ rs) of =
    all_of_both k.book (recorded k r).book (recorded_all (recorded k r) rs).book (recorded_has k r of.0)
    (all_recorded_has (recorded k r) rs of.1)

front_all : {X : Type 0} (P : X → Type 0) (n : ℕ) (xs : List X) → AllByRecursion P xs → AllByRecursion P (take n xs)
front_all P zero xs h = tt
front_all P (suc n) [] h = tt
front_all P (suc n) (x ∷ xs) h = (h.0, front_all P n xs h.1)

-- what a checkpoint comes to as they are committed; only a stop that is armed cuts them off
abbrev pub HasAll : Checkpoint → Committed → Type 0
HasAll k (IsFull records) = Unit {0}
HasAll k (IsCut c) = HasAllOf k.book c.book × (is_some k.stop ≡ true)
HasAll k (IsWhole c) = HasAllOf k.book c.book

pub committed_has : (k : Checkpoint) (rs : List Record) → AllByRecursion IsOfTunnelIds rs → HasAll k (commits k rs)
unfolding commits commits_by
committed_has k rs of = by (is_full k rs) k.stop refl
  where
    by : (b : Bool) (o : Option StopAt) → k.stop ≡ o → HasAll k (if b then IsFull k.records else commits_by k rs o)
    by true o is = tt
    by false None is = all_recorded_has k rs of
    by false (Some s) is = reached (nat_le s.commit (length rs))
      where
        reached : (c : Bool) → HasAll k (if c then IsCut (recorded_all k (take (kept_by s) rs))
            else IsWhole (with_stop (Some (record s { commit = s.commit - length rs })) (recorded_all k rs)))
        reached true = (all_recorded_has k (take (kept_by s) rs) (front_all IsOfTunnelIds (kept_by s) rs of), rw is refl)
        reached false = all_recorded_has k rs of
