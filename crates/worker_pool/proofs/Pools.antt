-- What follows of a pass of a pool.
use Rattle.std.proofs.Common.{◌≡◌, ℕ, ◌+◌, List, [], ◌∷◌, ◌++◌, length, refl, ap, sym, ◌∙◌, append-nil, length-append, arith}
use Rattle.std.proofs.lemmas.List.{length-map, map-append}
use Rattle.session_workers.specs.declared.finished.Finished.{Finished}
use Rattle.session_workers.specs.declared.item.Numbered.{Numbered}
use Rattle.step_hub.specs.declared.hub.Hub.{Ghosts}
use Rattle.session_workers.specs.Items.{numbers_of}
use Rattle.session_workers.specs.Finishing.{finished_numbers}
use Rattle.session_workers.specs.Lists.{total, times}
use Rattle.session_workers.specs.Passes.{items_of, known_of, took_of, taken_of, made_of, got_of, origin_of, origins_of, IsPassIn, IsOpener, EachOnce}
use Rattle.worker_pool.specs.declared.pool.Pool.{Pool}
use Rattle.worker_pool.specs.declared.pass.PoolPass.{PoolPass}
use Rattle.worker_pool.specs.declared.tally.Tally.{Tally}
use Rattle.worker_pool.specs.Counting.{counts_of, IsEven}
use Rattle.worker_pool.specs.Pools.{ends_of, IsMember, IsCaller, IsAlone, NothingWaits, AllDone}
use Rattle.worker_pool.specs.Tallies.{capped, tally_of, counted, added, IsTallyOf}
use Rattle.worker_pool.proofs.Tallies.{tally_more, tally_both, capped_two}
use Rattle.worker_pool.proofs.Times.{once_more, same_length}

empty : {A : Type 0} (xs : List A) → length xs ≡ 0 → xs ≡ []
empty [] none = refl
empty (x ∷ xs) none = absurd (omega arith)

-- who is alone, and finds both queues empty, knows that all is done
pub all_done : (p : PoolPass) → IsOpener p.pass → IsAlone p → NothingWaits p → AllDone p
all_done p opener alone none =
    let items = none.0.0 in
    let told = none.0.2 opener.opens in
    let whole : told.0 ≡ known_of p.pass = sym (append-nil told.0) ∙ ap (λ xs. told.0 ++ xs) (sym (empty items none.0.1)) ∙ told.1 in
    let left = none.1.0 in
    let evens = none.1.2 alone.1 in (
      λ n. told.2 alone.0 n ∙ ap (λ xs. times n (numbers_of xs)) whole,
      λ count. (
          let e = evens count in
          let z : total count left ≡ 0 = ap (total count) (empty left none.1.1) in
          omega arith),
      told.3,
    )

-- ---- what a member made of what it took

origins_numbers : (fs : List Finished) → numbers_of (origins_of fs) ≡ finished_numbers fs
origins_numbers [] = refl
origins_numbers (f ∷ fs) = ap (λ (ns : List ℕ). f.number ∷ ns) (origins_numbers fs)

-- its tally is of items with the numbers that it took
pub is_tally : {H : Type 0} {G : Ghosts H} (pool : Pool H G) (p : PoolPass) → IsMember pool p → IsTallyOf (taken_of p.pass) p.tally
is_tally pool p member = (made_of p.pass, ap numbers_of member.took ∙ origins_numbers (made_of p.pass), member.tally)

-- and counts all of these
taken_counted : {H : Type 0} {G : Ghosts H} (pool : Pool H G) (p : PoolPass) → IsMember pool p → p.tally.taken ≡ capped (length (taken_of p.pass))
taken_counted pool p member =
    let numbers : length (taken_of p.pass) ≡ length (took_of p.pass) = length-map (took_of p.pass) (λ (x : Numbered). x.number) in
    let made : length (origins_of (made_of p.pass)) ≡ length (made_of p.pass) = length-map (made_of p.pass) origin_of in
    ap (λ (t : Tally). t.taken) member.tally ∙ ap capped (sym (numbers ∙ ap (λ (xs : List Numbered). length xs) member.took ∙ made))

-- who knows that all is done knows how many were put
pub all_counted : {H : Type 0} {G : Ghosts H} (pool : Pool H G) (p : PoolPass) → IsCaller pool p → AllDone p → p.tally.taken ≡ capped (length (known_of p.pass))
all_counted pool p caller done =
    let puts : length (numbers_of (known_of p.pass)) ≡ length (known_of p.pass) = length-map (known_of p.pass) (λ (x : Numbered). x.number) in
    taken_counted pool p caller.member ∙ ap capped (same_length (taken_of p.pass) (numbers_of (known_of p.pass)) done.0 ∙ puts)

-- a member that took one item more
pub took_one : {H : Type 0} {G : Ghosts H} (pool : Pool H G) (old new : PoolPass) (f : Finished) → IsPassIn pool.shared new.pass → IsMember pool old
    → took_of new.pass ≡ took_of old.pass ++ origin_of f ∷ [] → times f.number (taken_of old.pass) ≡ 0 → made_of new.pass ≡ made_of old.pass ++ f ∷ []
    → got_of new.pass ≡ got_of old.pass → new.collected ≡ old.collected → new.tally ≡ counted old.tally f → IsMember pool new
took_one pool old new f of member took none made got collected tally = record {
  of = of;
  once = once_more (taken_of old.pass) (taken_of new.pass) f.number (ap numbers_of took ∙ map-append (λ (x : Numbered). x.number) (took_of old.pass) (origin_of f ∷ [])) member.once none;
  took = took ∙ ap (λ (xs : List Numbered). xs ++ origin_of f ∷ []) member.took ∙ sym (map-append origin_of (made_of old.pass) (f ∷ [])) ∙ ap origins_of (sym made);
  tally = tally ∙ ap (λ (t : Tally). counted t f) member.tally ∙ tally_more (made_of old.pass) f ∙ ap tally_of (sym made);
  collected = collected ∙ member.collected ∙ ap (λ (xs : List Finished). capped (length xs)) (sym got);
}

-- the calling thread's, where what was put is as before
pub still_caller : {H : Type 0} {G : Ghosts H} (pool : Pool H G) (old new : PoolPass) → IsMember pool new → IsCaller pool old → known_of new.pass ≡ known_of old.pass
    → (items_of new.pass).opener ≡ (items_of old.pass).opener → new.pass.puts ≡ old.pass.puts → new.puts ≡ old.puts → IsCaller pool new
still_caller pool old new member caller known opener inner puts =
    let same : length (known_of old.pass) ≡ length (known_of new.pass) = ap (λ (xs : List Numbered). length xs) (sym known) in
    record {
      member = member;
      opener = record { opens = opener ∙ caller.opener.opens; counts = inner ∙ caller.opener.counts ∙ same };
      puts = puts ∙ caller.puts ∙ same;
    }

-- a member to which another's pass came back
pub both_members : {H : Type 0} {G : Ghosts H} (pool : Pool H G) (old other new : PoolPass) → IsPassIn pool.shared new.pass → EachOnce (taken_of new.pass) → IsMember pool old → IsMember pool other
    → took_of new.pass ≡ took_of old.pass ++ took_of other.pass → made_of new.pass ≡ made_of old.pass ++ made_of other.pass → got_of new.pass ≡ got_of old.pass ++ got_of other.pass
    → new.collected ≡ capped (old.collected + other.collected) → new.tally ≡ added old.tally other.tally → IsMember pool new
both_members pool old other new of once mine theirs took made got collected tally = record {
  of = of;
  once = once;
  took = took ∙ ap (λ (xs : List Numbered). xs ++ took_of other.pass) mine.took ∙ ap (λ (xs : List Numbered). origins_of (made_of old.pass) ++ xs) theirs.took
      ∙ sym (map-append origin_of (made_of old.pass) (made_of other.pass)) ∙ ap origins_of (sym made);
  tally = tally ∙ ap (λ (t : Tally). added t other.tally) mine.tally ∙ ap (λ (t : Tally). added (tally_of (made_of old.pass)) t) theirs.tally
      ∙ tally_both (made_of old.pass) (made_of other.pass) ∙ ap tally_of (sym made);
  collected = collected ∙ capped_two (length (got_of old.pass)) (length (got_of other.pass)) old.collected other.collected (length (got_of new.pass)) mine.collected theirs.collected
      (ap (λ (xs : List Finished). length xs) got ∙ length-append (got_of old.pass) (got_of other.pass));
}

-- by counts that don't stand still, as many items were worked or collected as were put
pub even_ends : {H : Type 0} {G : Ghosts H} (pool : Pool H G) (p q : PoolPass) → IsCaller pool p → IsCaller pool q → IsEven (counts_of p) (counts_of q)
    → ends_of p + length (known_of q.pass) ≡ ends_of q + length (known_of p.pass)
even_ends pool p q before after even =
    let a = taken_counted pool p before.member in
    let b = taken_counted pool q after.member in
    let c = before.member.collected in
    let d = after.member.collected in
    let e = before.puts in
    let f = after.puts in
    let g = even.2 in
    let h = even.0 in
    let i = even.1 in
    omega (arith, h.0, h.1, i.0, i.1)
