-- What events lead to, one after another.
use Rattle.std.proofs.Common.{◌≡◌, ℕ, inl, inr, List, [], ◌∷◌, ◌++◌, refl, sym, ap, subst, ◌∙◌, append_assoc}
use Rattle.std.specs.Prelude.{Some, None}
use Rattle.rand_core.specs.Stream.{Stream, fill_bytes}
use Rattle.std.proofs.lemmas.List.{append-nil}
use Rattle.port_events.specs.declared.end.Event.{Event}
use Rattle.port_events.specs.declared.end.Out.{Out}
use Rattle.port_events.specs.declared.giving.TurnFault.{TurnFault}
use Rattle.port_events.specs.declared.giving.TurnFault.TheVariants as faults
use Rattle.port_events.specs.Giving.{IsCut, IsAround}
use Rattle.port_events.specs.Feeding.{Given, Goes, Leads, Fed, Stopped, some_of}
use Rattle.port_events.specs.Laws.{Ran, run}
use Rattle.port_events.proofs.Gives.{Gave-none, Gave-then}

Goes-then : (p q r : Given) (xs ys : List Out) → Goes p q xs → Goes q r ys → Goes p r (xs ++ ys)
Goes-then p q r xs ys a b = Gave-then p.link q.link r.link p.ether q.ether r.ether p.up q.up r.up xs ys a b

Goes-none : (p : Given) → Goes p p []
Goes-none p = Gave-none p.link p.ether p.up

module _ {S : Type 0} (steps : S → ℕ → List ℕ → Event → List Out → S → Type 0) (now : ℕ) where
  leads_then : (s t u : Stream) (x y z : S) (es fs : List Event) (xs ys : List Out)
      → Leads steps now s x es xs t y → Leads steps now t y fs ys u z → Leads steps now s x (es ++ fs) (xs ++ ys) u z
  leads_then s t u x y z [] fs xs ys a b =
      let there : Leads steps now s x fs ys u z = subst (λ (k : S). Leads steps now s k fs ys u z) a.2 (subst (λ (k : Stream). Leads steps now k y fs ys u z) a.1 b) in
      subst (λ (k : List Out). Leads steps now s x fs (k ++ ys) u z) (sym a.0) there
  leads_then s t u x y z (e ∷ es) fs xs ys a b =
      let block = fill_bytes 16 s in
      (a.0, a.1, a.2 ++ ys, a.3, ap (λ (k : List Out). k ++ ys) a.4 ∙ append_assoc a.1 a.2 ys, leads_then block.1 t u a.0 y z es fs a.2 ys a.5 b)

  -- one event, with the block that was drawn for it
  one_leads : (s t : Stream) (block : List ℕ) (x y : S) (e : Event) (outs : List Out)
      → (block, t) ≡ fill_bytes 16 s → steps x now block e outs y → Leads steps now s x (e ∷ []) outs t y
  one_leads s t block x y e outs drawn made =
      (y, outs, [], subst (λ (k : List ℕ). steps x now k e outs y) (ap (λ p. p.0) drawn) made, sym (append-nil outs), (refl, ap (λ p. p.1) drawn, refl))

  pub fed_none : (s : Stream) (x : S) (g : Given) → Fed steps now s s x x g g []
  fed_none s x g = record { outs = []; leads = (refl, refl, refl); gave = Goes-none g }

  pub fed_one : (s t : Stream) (block : List ℕ) (x y : S) (g g' : Given) (e : Event) (outs : List Out)
      → (block, t) ≡ fill_bytes 16 s → steps x now block e outs y → Goes g g' outs → Fed steps now s t x y g g' (e ∷ [])
  fed_one s t block x y g g' e outs drawn made gave = record { outs = outs; leads = one_leads s t block x y e outs drawn made; gave = gave }

  pub fed_then : (s t u : Stream) (x y z : S) (p q r : Given) (es fs : List Event)
      → Fed steps now s t x y p q es → Fed steps now t u y z q r fs → Fed steps now s u x z p r (es ++ fs)
  fed_then s t u x y z p q r es fs a b = record {
    outs = a.outs ++ b.outs;
    leads = leads_then s t u x y z es fs a.outs b.outs a.leads b.leads;
    gave = Goes-then p q r a.outs b.outs a.gave b.gave;
  }

module _ {S F : Type 0} (steps : S → ℕ → List ℕ → Event → List Out → S → Type 0) (stops : S → ℕ → List ℕ → Event → F → S → Type 0) (now : ℕ) where
  pub stopped_now : (fault : TurnFault F) (s : Stream) (x : S) (g : Given) → IsAround fault → Stopped steps stops now fault s x x g g []
  stopped_now fault s x g around = record {
    made = [];
    outs = [];
    mid_stream = s;
    mid = x;
    leads = (refl, refl, refl);
    last = None;
    part = [];
    ends = (refl, refl, around);
    taken = refl;
    gave = Goes-none g;
  }

  pub stopped_before : (stop : F) (s t : Stream) (block : List ℕ) (x y : S) (g : Given) (e : Event)
      → (block, t) ≡ fill_bytes 16 s → stops x now block e stop y → Stopped steps stops now (faults.Stopped stop) s x y g g (e ∷ [])
  stopped_before stop s t block x y g e drawn why = record {
    made = [];
    outs = [];
    mid_stream = s;
    mid = x;
    leads = (refl, refl, refl);
    last = Some e;
    part = [];
    ends = inr (record { stop = stop; fault_is = refl; why = subst (λ (k : List ℕ). stops x now k e stop y) (ap (λ p. p.0) drawn) why; nothing = refl });
    taken = refl;
    gave = Goes-none g;
  }

  pub stopped_inside : (fault : TurnFault F) (s t : Stream) (block : List ℕ) (x y : S) (g g' : Given) (e : Event) (outs part : List Out)
      → (block, t) ≡ fill_bytes 16 s → steps x now block e outs y → IsCut fault outs part → Goes g g' part → Stopped steps stops now fault s x y g g' (e ∷ [])
  stopped_inside fault s t block x y g g' e outs part drawn made cut gave = record {
    made = [];
    outs = [];
    mid_stream = s;
    mid = x;
    leads = (refl, refl, refl);
    last = Some e;
    part = part;
    ends = inl (record { outs = outs; made = subst (λ (k : List ℕ). steps x now k e outs y) (ap (λ p. p.0) drawn) made; cut = cut });
    taken = refl;
    gave = gave;
  }

  pub stopped_later : (fault : TurnFault F) (s t : Stream) (x y z : S) (p q r : Given) (es fs : List Event)
      → Fed steps now s t x y p q es → (later : Stopped steps stops now fault t y z q r fs)
      → (all : Stopped steps stops now fault s x z p r (es ++ fs)) × (all.made ≡ es ++ later.made)
  stopped_later fault s t x y z p q r es fs a b = (
    record {
      made = es ++ b.made;
      outs = a.outs ++ b.outs;
      mid_stream = b.mid_stream;
      mid = b.mid;
      leads = leads_then steps now s t b.mid_stream x y b.mid es b.made a.outs b.outs a.leads b.leads;
      last = b.last;
      part = b.part;
      ends = b.ends;
      taken = ap (λ (k : List Event). es ++ k) b.taken ∙ sym (append_assoc es b.made (some_of b.last));
      gave = subst (Goes p r) (sym (append_assoc a.outs b.outs b.part)) (Goes-then p q r a.outs (b.outs ++ b.part) a.gave b.gave);
    },
    refl,
  )

-- where a step is a function, so is what events lead to
module _ {S : Type 0} (steps : S → ℕ → List ℕ → Event → List Out → S → Type 0) (after : S → ℕ → List ℕ → Event → S) (outputs : S → ℕ → List ℕ → Event → List Out) where
  pub leads_as_function : ((x y : S) (now : ℕ) (block : List ℕ) (e : Event) (outs : List Out) → steps x now block e outs y → (y ≡ after x now block e) × (outs ≡ outputs x now block e))
      → (now : ℕ) (s t : Stream) (x y : S) (es : List Event) (outs : List Out) → Leads steps now s x es outs t y → record { stream = t; end = y; outs = outs } ≡ run after outputs now s x es
  leads_as_function f now s t x y [] outs a = rw (a.0, a.1, a.2) refl
  leads_as_function f now s t x y (e ∷ es) outs a =
      let block = fill_bytes 16 s in
      let step = f x a.0 now block.0 e a.1 a.3 in
      let rest : record { stream = t; end = y; outs = a.2 } ≡ run after outputs now block.1 (after x now block.0 e) es =
      leads_as_function f now block.1 t a.0 y es a.2 a.5 ∙ ap (λ (k : S). run after outputs now block.1 k es) step.0 in
      let all : outs ≡ outputs x now block.0 e ++ a.2 = a.4 ∙ ap (λ (k : List Out). k ++ a.2) step.1 in
      ap (λ (k : List Out). record { stream = t; end = y; outs = k }) all
      ∙ ap (λ (k : Ran S). record { stream = k.stream; end = k.end; outs = outputs x now block.0 e ++ k.outs }) rest
