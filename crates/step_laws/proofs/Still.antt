-- What a turn did and told stays the same where it is settled.
use Rattle.std.proofs.Common.{◌≡◌, ℕ, Bool, zero, suc, List, [], ◌∷◌, ◌++◌, length, refl, ap, ◌∙◌, Option, Some, None}
use Rattle.std.proofs.lemmas.Grind.{flat_map-append}
use Rattle.std.proofs.lemmas.List.{append-nil}
use Rattle.std.specs.Prelude.{◌==◌, ◌&&◌, ◌||◌, nat_le}
use Rattle.std.specs.List.{flat_map}
use Rattle.step_laws.proofs.Lists.{branch}
use Rattle.wire_base.specs.declared.letter.Letter.{Letter}
use Rattle.control_channel.specs.Numbers.{next_to_go}
use Rattle.end_model.specs.declared.out.Out.{Out}
use Rattle.end_model.specs.declared.out.Out.TheVariants.{Send}
use Rattle.end_model.specs.declared.out.Origin.{Origin}
use Rattle.end_model.specs.declared.moves.LetGo.{LetGo}
use Rattle.end_model.specs.declared.moves.Move.{Move}
use Rattle.end_model.specs.declared.moves.Move.TheVariants as move
use Rattle.end_model.specs.Tunnels.{Turn}
use Rattle.end_model.specs.Turn.{with_output, with_move}
use Rattle.end_model.specs.Sending.{sends_letter, sends_now, lets_go, goes_by, lets_all_go, acknowledges, outstanding, acknowledged_after, settles}

-- nothing more, where the last one gives nothing
pub none_more : {X Y : Type 0} (f : X → List Y) (xs : List X) (x : X) → f x ≡ [] → flat_map f (xs ++ x ∷ []) ≡ flat_map f xs
none_more f xs x none = flat_map-append f xs (x ∷ []) ∙ ap (λ ys. flat_map f xs ++ (ys ++ [])) none ∙ append-nil (flat_map f xs)

-- ---- what settles a turn

-- it makes only moves that let letters go or acknowledge
module _ {Y : Type 0} (f : Move → List Y) (let_go : (m : LetGo) → f (move.LetGo m) ≡ []) (quiet : (i : ℕ) → f (move.Quiet i) ≡ []) where
  abbrev done_in : Turn → List Y
  done_in t = flat_map f t.moves

  sent_done : (number : ℕ) (o : Option Letter) (t : Turn) → done_in (sends_letter number o t) ≡ done_in t
  unfolding sends_letter with_output
  sent_done number None t = refl
  sent_done number (Some l) t = branch (λ u. done_in u ≡ done_in t) (nat_le (length l.avps) 65523) _ _ (λ fits. refl) (λ long. refl)

  gone_done : (letters : List Letter) (number : ℕ) (t : Turn) → done_in (lets_go letters number t) ≡ done_in t
  unfolding lets_go sends_now with_move
  gone_done letters number t = sent_done number _ _ ∙ none_more f t.moves _ (let_go _)

  gone_by_done : (rest : Turn → Turn) → ((u : Turn) → done_in (rest u) ≡ done_in u) → (letters : List Letter) (o : Option ℕ) (t : Turn)
      → done_in (goes_by rest letters o t) ≡ done_in t
  unfolding goes_by
  gone_by_done rest on letters None t = refl
  gone_by_done rest on letters (Some number) t = on (lets_go letters number t) ∙ gone_done letters number t

  all_gone_done : (most : ℕ) (letters : List Letter) (t : Turn) → done_in (lets_all_go most letters t) ≡ done_in t
  unfolding lets_all_go
  all_gone_done zero letters t = refl
  all_gone_done (suc most) letters t =
      gone_by_done (lets_all_go most letters) (all_gone_done most letters) letters (next_to_go t.control.channel) t

  acknowledged_done : (t : Turn) → done_in (acknowledges t) ≡ done_in t
  unfolding acknowledges with_output with_move
  acknowledged_done t = none_more f t.moves _ (quiet _)

  pub settled_done : (again : Bool) (letters : List Letter) (t : Turn) → done_in (settles again letters t) ≡ done_in t
  unfolding settles acknowledged_after
  settled_done again letters t =
      let u = lets_all_go t.control.channel.window.queued letters t in
      let same = all_gone_done t.control.channel.window.queued letters t in
      branch (λ v. done_in v ≡ done_in t) (again || (u.took && (outstanding u == outstanding t))) _ _
      (λ yes. acknowledged_done u ∙ same)
      (λ no. same)

-- and it only sends
module _ {Y : Type 0} (f : Out → List Y) (send : (peer : ℕ) (bytes : List ℕ) (o : Origin) → f (Send peer bytes o) ≡ []) where
  abbrev told_in : Turn → List Y
  told_in t = flat_map f t.outputs

  sent_told : (number : ℕ) (o : Option Letter) (t : Turn) → told_in (sends_letter number o t) ≡ told_in t
  unfolding sends_letter with_output
  sent_told number None t = refl
  sent_told number (Some l) t =
      branch (λ u. told_in u ≡ told_in t) (nat_le (length l.avps) 65523) _ _ (λ fits. none_more f t.outputs _ (send _ _ _)) (λ long. refl)

  gone_told : (letters : List Letter) (number : ℕ) (t : Turn) → told_in (lets_go letters number t) ≡ told_in t
  unfolding lets_go sends_now with_move
  gone_told letters number t = sent_told number _ _

  gone_by_told : (rest : Turn → Turn) → ((u : Turn) → told_in (rest u) ≡ told_in u) → (letters : List Letter) (o : Option ℕ) (t : Turn)
      → told_in (goes_by rest letters o t) ≡ told_in t
  unfolding goes_by
  gone_by_told rest on letters None t = refl
  gone_by_told rest on letters (Some number) t = on (lets_go letters number t) ∙ gone_told letters number t

  all_gone_told : (most : ℕ) (letters : List Letter) (t : Turn) → told_in (lets_all_go most letters t) ≡ told_in t
  unfolding lets_all_go
  all_gone_told zero letters t = refl
  all_gone_told (suc most) letters t =
      gone_by_told (lets_all_go most letters) (all_gone_told most letters) letters (next_to_go t.control.channel) t

  acknowledged_told : (t : Turn) → told_in (acknowledges t) ≡ told_in t
  unfolding acknowledges with_output with_move
  acknowledged_told t = none_more f t.outputs _ (send _ _ _)

  pub settled_told : (again : Bool) (letters : List Letter) (t : Turn) → told_in (settles again letters t) ≡ told_in t
  unfolding settles acknowledged_after
  settled_told again letters t =
      let u = lets_all_go t.control.channel.window.queued letters t in
      let same = all_gone_told t.control.channel.window.queued letters t in
      branch (λ v. told_in v ≡ told_in t) (again || (u.took && (outstanding u == outstanding t))) _ _
      (λ yes. acknowledged_told u ∙ same)
      (λ no. same)
