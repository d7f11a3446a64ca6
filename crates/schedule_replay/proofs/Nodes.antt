-- A node commits what a step of its end leaves.
use Rattle.std.proofs.Common.{◌≡◌, inl, inr, ℕ, Bool, List, refl, sym, ap, subst, ◌∙◌, Result, Ok, Err}
use Rattle.session_book.specs.declared.record.Record.{Record}
use Rattle.end_names.specs.declared.role.Role.{Role}
use Rattle.end_model.specs.declared.tunnel.Config.{Config}
use Rattle.end_model.specs.End.{End}
use Rattle.step_ledger.specs.declared.ledger.StepFault.{StepFault}
use Rattle.step_ledger.specs.declared.ledger.StepFault.TheVariants as fault
use Rattle.step_ledger.specs.Committing.{Commits}
use Rattle.world_model.specs.World.{Node, Checkpoint, Committed, IsFull, IsCut, IsWhole, commits, fallen}
use Rattle.world_checkpoint.specs.declared.commits.CommitStop.{CommitStop}
use Rattle.world_checkpoint.specs.declared.commits.CommitStop.TheVariants as stop
use Rattle.world_checkpoint.specs.Stores.{Filed, CommitsFile}
use Rattle.schedule_replay.specs.declared.kinds.Moved.{Moved}
use Rattle.schedule_replay.specs.declared.node.Unmade.{Unmade}
use Rattle.schedule_replay.specs.declared.node.Unmade.TheVariants as unmade
use Rattle.schedule_replay.specs.Kinds.{Site, site_in}
use Rattle.schedule_replay.specs.Serving.{SiteStep, site_contents, site_commits, kind_of, IsFileOf, GivesSite, IsLeft, MayLeave, IsAsBefore, MakesStep}
use Rattle.schedule_replay.proofs.Keeps.{who}

module _ (block : List ℕ) (x : Node) (v : SiteStep) (old after : Filed) (known : old.known ≡ x.checkpoint) where
  -- what comes of the records is said of what the world knows
  of_known : (k : Committed) → commits old.known (site_contents (site_in x) v) ≡ k → commits x.checkpoint (site_contents (site_in x) v) ≡ k
  of_known k is = ap (λ (c : Checkpoint). commits c (site_contents (site_in x) v)) (sym known) ∙ is

  -- all records were committed
  pub step_made : (g : Moved) (site : Site) (new : Node) → GivesSite {F = StepFault CommitStop} (Ok g) v (site_in x) site → Commits CommitsFile (Ok g) (site_contents (site_in x) v) old after
      → new ≡ record x { end = site.end; access = site.access; checkpoint = after.known } → MakesStep (Ok g) block v x new
  step_made g site new given committed is = (
    after.known,
    of_known (IsWhole after.known) committed.0,
    is ∙ rw given refl,
    sym (ap (λ (q : SiteStep). q.outputs) given),
    sym (ap (λ (q : SiteStep). q.moves) given),
    sym (ap (λ (q : SiteStep). q.reply) given),
  )

  -- or why they weren't
  pub step_left : (u : Unmade) (f : StepFault CommitStop) (up : Bool) (mid new : Node)
      → Commits {T = Moved} CommitsFile (Err f) (site_contents (site_in x) v) old after → mid ≡ record x { up = up; checkpoint = after.known }
      → IsLeft u f block mid new → MakesStep (Err u) block v x new
  unfolding fallen
  step_left unmade.Cut (fault.Uncommitted stop.Cut) up mid new committed is left =
      (after.known, of_known (IsCut after.known) committed.0, left ∙ rw is refl)
  step_left unmade.Cut (fault.Uncommitted stop.NoMemory) up mid new committed is left = absurd left
  step_left unmade.Cut (fault.Uncommitted stop.Differs) up mid new committed is left = absurd left
  step_left unmade.Cut (fault.Uncommitted (stop.Full records)) up mid new committed is left = absurd left
  step_left unmade.Cut fault.NoMemory up mid new committed is left = absurd left
  step_left (unmade.Full records) (fault.Uncommitted (stop.Full told)) up mid new committed is left =
      rw left.0 (of_known (IsFull told) committed.0.0)
  step_left (unmade.Full records) (fault.Uncommitted stop.NoMemory) up mid new committed is left = absurd left
  step_left (unmade.Full records) (fault.Uncommitted stop.Differs) up mid new committed is left = absurd left
  step_left (unmade.Full records) (fault.Uncommitted stop.Cut) up mid new committed is left = absurd left
  step_left (unmade.Full records) fault.NoMemory up mid new committed is left = absurd left
  step_left unmade.NoMemory f up mid new committed is left = tt

  -- what a node that didn't fall is behind a step that wasn't made
  as_it_was : (mid new : Node) → mid ≡ record x { checkpoint = after.known } → after.known ≡ old.known → new ≡ mid → new ≡ x
  as_it_was mid new is same left = left ∙ is ∙ ap (λ (k : Checkpoint). record x { checkpoint = k }) (same ∙ known)

  same_left : (c : Committed) (k : Checkpoint) → MayLeave c k k
  same_left (IsFull records) k = refl
  same_left (IsCut j) k = inl refl
  same_left (IsWhole j) k = refl

  all_as_before : (mid new : Node) → mid ≡ record x { checkpoint = after.known } → after.known ≡ old.known → new ≡ mid
      → IsAsBefore {T = Moved} (Err unmade.NoMemory) (site_commits x v) x new
  all_as_before mid new is same left = (x.checkpoint, as_it_was mid new is same left, same_left (site_commits x v) x.checkpoint)

  pub left_as_before : (u : Unmade) (f : StepFault CommitStop) (mid new : Node)
      → Commits {T = Moved} CommitsFile (Err f) (site_contents (site_in x) v) old after → mid ≡ record x { checkpoint = after.known }
      → IsLeft u f block mid new → IsAsBefore {T = Moved} (Err u) (site_commits x v) x new
  left_as_before unmade.Cut f mid new committed is left = tt
  left_as_before (unmade.Full records) (fault.Uncommitted (stop.Full told)) mid new committed is left = as_it_was mid new is committed.0.1 left.1
  left_as_before (unmade.Full records) (fault.Uncommitted stop.NoMemory) mid new committed is left = absurd left
  left_as_before (unmade.Full records) (fault.Uncommitted stop.Differs) mid new committed is left = absurd left
  left_as_before (unmade.Full records) (fault.Uncommitted stop.Cut) mid new committed is left = absurd left
  left_as_before (unmade.Full records) fault.NoMemory mid new committed is left = absurd left
  left_as_before unmade.NoMemory (fault.Uncommitted stop.NoMemory) mid new committed is left = all_as_before mid new is committed.0 left
  left_as_before unmade.NoMemory (fault.Uncommitted stop.Differs) mid new committed is left = all_as_before mid new is committed.0.1 left
  left_as_before unmade.NoMemory (fault.Uncommitted (stop.Full records)) mid new committed is left = absurd left
  left_as_before unmade.NoMemory (fault.Uncommitted stop.Cut) mid new committed is left =
      let cut : site_commits x v ≡ IsCut after.known = of_known (IsCut after.known) committed.0 in
      (after.known, left ∙ is, subst (λ (c : Committed). MayLeave c x.checkpoint after.known) (sym cut) (inr refl))
  left_as_before unmade.NoMemory fault.NoMemory mid new committed is left =
      all_as_before mid new is (ap (λ (f : Filed). f.known) committed) left

-- ---- whose file it is

same_file : (old after : Filed) (e : End) → after ≡ record old { known = after.known } → IsFileOf e old → IsFileOf e after
same_file old after e is of = record {
  kind = ap (λ (f : Filed). f.kind) is ∙ of.kind;
  number = ap (λ (f : Filed). f.number) is ∙ of.number;
}

-- a commit leaves it the same node's
pub commits_same : {T : Type 0} (r : Result T (StepFault CommitStop)) (rs : List Record) (old after : Filed) (e : End) → Commits CommitsFile r rs old after
    → IsFileOf e old → IsFileOf e after
commits_same (Ok g) rs old after e committed of = same_file old after e committed.1 of
commits_same (Err fault.NoMemory) rs old after e committed of = subst (λ (f : Filed). IsFileOf e f) (sym committed) of
commits_same (Err (fault.Uncommitted s)) rs old after e committed of = same_file old after e committed.1 of

-- it is told by the kind of the end and by what the end was told
pub file_of_kept : (d e : End) (f : Filed) → who e ≡ who d → IsFileOf d f → IsFileOf e f
file_of_kept d e f keeps of = record {
  kind = of.kind ∙ ap kind_of (sym (ap (λ (p : Role × Config). p.0) keeps));
  number = of.number ∙ ap (λ (c : Config). c.number) (sym (ap (λ (p : Role × Config). p.1) keeps));
}

-- so behind a step of the node's end, made or not, it is the node's as before
pub keeps_file : (r : Result Moved (StepFault CommitStop)) (v : SiteStep) (rs : List Record) (site new : Site) (old after : Filed) → GivesSite r v site new
    → Commits CommitsFile r rs old after → who v.site.end ≡ who site.end → IsFileOf site.end old → IsFileOf new.end after
keeps_file (Ok g) v rs site new old after given committed keeps of =
    let same : new.end ≡ v.site.end = sym (ap (λ (q : SiteStep). q.site.end) given) in
    file_of_kept site.end new.end after (ap who same ∙ keeps) (commits_same {T = Moved} (Ok g) rs old after site.end committed of)
keeps_file (Err f) v rs site new old after given committed keeps of =
    file_of_kept site.end new.end after (ap (λ (q : Site). who q.end) given) (commits_same {T = Moved} (Err f) rs old after site.end committed of)
