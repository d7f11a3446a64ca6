-- A run of lines.
use Rattle.std.proofs.Common.{◌≡◌, ℕ, ◌+◌, ◌*◌, ◌^◌, ◌<◌, List, [], ◌∷◌, ◌++◌, length, refl, sym, ap, ◌∙◌, subst, Option, Some, Result, Ok, Err, arith}
use mathlib.Core.Path.{fun_ext}
use Rattle.std.proofs.lemmas.Option.{none-some}
use Rattle.id_table.specs.Ids.{at-none}
use Rattle.schedule_text.specs.declared.line.Line.{Line}
use Rattle.schedule_text.specs.Grammar.{AreLines}
use Rattle.world_model.specs.declared.refusal.Refusal.{Refusal}
use Rattle.world_model.specs.World.{Node, Deed, Lined, empty_world, standing_in, standing_of, no_standing, line}
use Rattle.world_model.specs.Run.{Run, empty_run, after_line, goes_on, run_from}
use Rattle.step_laws.specs.Calm.{WorldIsCalm, AreCalm, calm_line}
use Rattle.frame_laws.specs.Codecs.{Codecs}
use Rattle.connection_laws.specs.Accounts.{no_account, account_from, account_of}
use Rattle.connection_laws.specs.Facts.{Accounts, AccountOk, NodeOk, Holds}
use Rattle.connection_laws.specs.Channels.{HoldsInRuns}
use Rattle.connection_laws.specs.Steps.{HoldsAt, LinesGoOn}
use Rattle.connection_laws.proofs.Budget.{GivenBelow}
use Rattle.connection_laws.proofs.Steps.{afterwards, from-append}
use Rattle.connection_laws.proofs.Worlds.{Goes, Laws}
use Rattle.connection_laws.proofs.Lines.{line_ok}

-- a run goes on where a line fits, and stays where it doesn't
where_it_fits : (P : Run → Type 0) (rest : Run → Run) (r : Run) (number : ℕ) (x : Result Lined Refusal)
    → ((fault : Option (ℕ × Refusal)) → P (record r { fault = fault })) → ((l : Lined) → x ≡ Ok l → P (rest (after_line r l)))
    → P (goes_on rest r number x)
unfolding goes_on
where_it_fits P rest r number (Err w) stops more = stops (Some (number, w))
where_it_fits P rest r number (Ok l) stops more = more l refl

-- ---- accounts of a longer history

pub accounts_more : (ds es : List Deed) → afterwards (account_of ds) es ≡ account_of (ds ++ es)
accounts_more ds es = fun_ext (λ n. fun_ext (λ i. from-append ds es n i no_account))

-- ---- before each line

nothing_known : (n i : ℕ) → account_of [] n i ≡ no_account
unfolding account_from
nothing_known n i = refl

no_account_ok : (accs : Accounts) (n i : ℕ) → AccountOk accs n i no_account
no_account_ok accs n i = record {
  part = refl;
  some = λ made. absurd (made refl);
  id = λ made. absurd (made refl);
  node = λ made. absurd (made refl);
  peer = omega arith;
  remote = omega arith;
  spelled = tt;
  told = tt;
  taken = λ number t there lt. absurd cc;
  ignored = λ number t there le. absurd cc;
}

no_standings : (n i : ℕ) → standing_of empty_world n i ≡ no_standing
unfolding standing_of
no_standings n i = ap (λ (o : Option Node). standing_in o i) (at-none n)

pub begins : HoldsAt 0 empty_run
begins = record {
  holds = record {
    accounts = λ n i. subst (λ a. AccountOk (account_of []) n i a) (sym (nothing_known n i)) (no_account_ok (account_of []) n i);
    nodes = λ n. subst (λ (o : Option Node). NodeOk (account_of []) n o) (sym (at-none n)) (λ i. nothing_known n i);
    packets = tt;
    standings = no_standings;
  };
  given = λ n i. rw (nothing_known n i) (omega arith);
  calm = λ n node there. absurd (none-some node (sym (at-none n) ∙ there));
}

stopped : (most : ℕ) (r : Run) (fault : Option (ℕ × Refusal)) → HoldsAt most r → HoldsAt most (record r { fault = fault })
stopped most r fault ok = record { holds = ok.holds; given = ok.given; calm = ok.calm }

goes_on_ok : (most : ℕ) (r : Run) (x : Lined) → Goes (account_of r.done) most x.world x.done → WorldIsCalm x.world
    → HoldsAt most (after_line r x)
goes_on_ok most r x g calm =
    let more = accounts_more r.done x.done in
    record {
      holds = subst (λ (accs : Accounts). Holds x.world accs) more g.holds;
      given = subst (λ (accs : Accounts). GivenBelow accs most) more g.given;
      calm = calm;
    }

-- after some number of letters
abbrev Ended : Run → Type 0
Ended r = (most : ℕ) × HoldsAt most r

module _ (codecs : Codecs) (laws : Laws) where
  pub lines_go_on : LinesGoOn
  lines_go_on most number r ok room l fits calm x h =
      let k = line_ok codecs laws number r.world (account_of r.done) ok.holds most ok.given ok.calm room x l fits calm h in
      record { after = goes_on_ok (most + 16384) r x k.goes (calm_line r.world number ok.calm x l calm h).world; does = k.does }

  ended_from : (number : ℕ) (lines : List Line) (r : Run) (most : ℕ) → AreLines lines → AreCalm lines → HoldsAt most r
      → most + 16384 * length lines + 24576 < 2 ^ 64 → Ended (run_from number lines r)
  unfolding run_from
  ended_from number [] r most fits calm ok room = (most, ok)
  ended_from number (l ∷ ls) r most fits calm ok room =
      where_it_fits Ended _ r number (line r.world number l) (λ fault. (most, stopped most r fault ok))
      (λ x h. ended_from (number + 1) ls (after_line r x) (most + 16384) fits.1 calm.1
      (lines_go_on most number r ok (omega (arith, room)) l fits.0 calm.0 x h).after
      (omega (arith, room)))

  pub holds_in_runs : HoldsInRuns
  holds_in_runs lines fits calm few = (ended_from 1 lines empty_run 0 fits calm begins (omega (arith, few))).1.holds
