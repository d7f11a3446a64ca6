-- A PADR that discovery refuses asks for no service that is served, or doesn't hold the cookie of its host.
use Rattle.std.proofs.Common.{◌≡◌, ◌⊎◌, inl, inr, ⊎_elim, ℕ, Bool, true, false, cond, not, ◌||◌, eqb, List, [], ◌∷◌, ◌++◌, length, Option, Some, None, Result, Ok, Err, refl, sym, ap, ◌∙◌, subst, arith}
use Rattle.std.specs.Prelude.{◌==◌, filter, find, codes}
use Rattle.std.specs.Option.{option_map}
use Rattle.std.proofs.lemmas.Bool.{eqb-true, eqb-false, eq-eqb, ne_eqb, true≢false}
use Rattle.std.proofs.lemmas.Slice.Eq.{bytes_eq-Decides}
use Rattle.wire_base.specs.declared.cause.Cause.{Cause}
use Rattle.wire_base.specs.declared.cause.Cause.TheVariants as cause
use Rattle.pppoe_wire.specs.declared.frame.Pppoe.{Pppoe}
use Rattle.pppoe_wire.specs.declared.frame.Tag.{Tag}
use Rattle.pppoe_wire.specs.declared.error.PppoeError.{PppoeError}
use Rattle.pppoe_wire.specs.declared.error.TagError.{TagError}
use Rattle.pppoe_wire.specs.Reading.{frame_of, tags_of}
use Rattle.pppoe_discovery.specs.declared.asking.Asked.{Asked}
use Rattle.pppoe_discovery.specs.declared.outcome.Discovered.{Discovered}
use Rattle.pppoe_discovery.specs.declared.outcome.Discovered.TheVariants.{Reply}
use Rattle.pppoe_discovery.specs.Cookie.{cookie_of, is_same, is_cookie}
use Rattle.pppoe_discovery.specs.Asking.{is_of, value_of, is_served, served, names_in, service_of, asked_by}
use Rattle.pppoe_discovery.specs.Discovery.{is_for, refused, offer, admission, requested, taken, discovered_by, discovered}
use Rattle.cause_laws.specs.Refusals.{IsPadr, NoneIsOf, IsFirst, AsksFor, IsServed, IsRefusedFor, ForItsService, ForItsCookie}

-- ---- tags of a kind

module _ (kind : ℕ) where
  abbrev test : Tag → Bool
  test t = is_of kind t

  none_found : (tags : List Tag) → NoneIsOf kind tags → filter test tags ≡ []
  none_found [] h = refl
  none_found (t ∷ tags) h = rw (ne_eqb t.kind kind h.0) (none_found tags h.1)

  -- the first one is found
  first_there : (t : Tag) (before after : List Tag) → t.kind ≡ kind → NoneIsOf kind before → find test (before ++ t ∷ after) ≡ Some t
  first_there t [] after is none = rw (eq-eqb t.kind kind is) refl
  first_there t (b ∷ before) after is none = rw (ne_eqb b.kind kind none.0) (first_there t before after is none.1)

  pub first_found : (t : Tag) (tags : List Tag) → IsFirst kind t tags → find test tags ≡ Some t
  first_found t tags h = ap (find test) h.parts ∙ first_there t h.before h.after h.is h.none

  -- and where it is the only one, it is all that there are
  only_there : (t : Tag) (before after : List Tag) → t.kind ≡ kind → NoneIsOf kind before → NoneIsOf kind after
      → filter test (before ++ t ∷ after) ≡ t ∷ []
  only_there t [] after is none alone = rw (eq-eqb t.kind kind is) (ap (λ ts. t ∷ ts) (none_found after alone))
  only_there t (b ∷ before) after is none alone = rw (ne_eqb b.kind kind none.0) (only_there t before after is none.1 alone)

  found_none : (tags : List Tag) → length (filter test tags) ≡ 0 → NoneIsOf kind tags
  found_none [] h = tt
  found_none (t ∷ tags) h = by (λ e. found_none tags e) (test t) refl h
    where
      by : (length (filter test tags) ≡ 0 → NoneIsOf kind tags) → (b : Bool) → test t ≡ b
          → length (cond b (t ∷ filter test tags) (filter test tags)) ≡ 0 → NoneIsOf kind (t ∷ tags)
      by rest true is e = absurd (omega (arith, e))
      by rest false is e = (eqb-false t.kind kind is, rest e)

  record IsOnly (tags : List Tag) : Type 0 where
    tag : Tag
    first : IsFirst kind tag tags
    alone : NoneIsOf kind first.after

  found_one : (tags : List Tag) → length (filter test tags) ≡ 1 → IsOnly tags
  found_one [] h = absurd (omega (arith, h))
  found_one (t ∷ tags) h = by (λ e. found_one tags e) (test t) refl h
    where
      by : (length (filter test tags) ≡ 1 → IsOnly tags) → (b : Bool) → test t ≡ b
          → length (cond b (t ∷ filter test tags) (filter test tags)) ≡ 1 → IsOnly (t ∷ tags)
      by later true is e = record {
        tag = t;
        first = record { before = []; after = tags; parts = refl; is = eqb-true t.kind kind is; none = tt };
        alone = found_none tags (omega (arith, e));
      }
      by later false is e =
          let rest = later e in
          record {
            tag = rest.tag;
            first = record {
              before = t ∷ rest.first.before;
              after = rest.first.after;
              parts = ap (λ ts. t ∷ ts) rest.first.parts;
              is = rest.first.is;
              none = (eqb-false t.kind kind is, rest.first.none);
            };
            alone = rest.alone;
          }

-- ---- services

either_true : (a b : Bool) → (a || b) ≡ true → (a ≡ true) ⊎ (b ≡ true)
either_true true b h = inl refl
either_true false b h = inr h

is_one : (name : List ℕ) → is_served name ≡ true → IsServed name
is_one name h = ⊎_elim
    (λ any. inl ((bytes_eq-Decides name []).0 any))
    (λ own. inr ((bytes_eq-Decides name (codes "l2tp")).0 own))
    (either_true (is_same name []) (is_same name (codes "l2tp")) h)

or_right : (a : Bool) → (a || true) ≡ true
or_right true = refl
or_right false = refl

one_is : (name : List ℕ) → IsServed name → is_served name ≡ true
one_is name h = ⊎_elim
    (λ (any : name ≡ []). rw ((bytes_eq-Decides name []).1 any) refl)
    (λ (own : name ≡ codes "l2tp"). rw ((bytes_eq-Decides name (codes "l2tp")).1 own) (or_right (is_same name [])))
    h

-- what is asked for is served
pub asks_service : (tags : List Tag) (name : List ℕ) → IsServed name → AsksFor tags name → service_of tags ≡ Some name
unfolding service_of
asks_service tags name is asks =
    let t = asks.tag in
    let f = asks.first in
    let one : names_in tags ≡ 1 =
    ap (λ (ts : List Tag). length (filter (λ t. is_of 0x0101 t) ts)) f.parts
    ∙ ap length (only_there 0x0101 t f.before f.after f.is f.none asks.alone) in
    let value : value_of 0x0101 tags ≡ Some name =
    ap (option_map (λ (t : Tag). t.value)) (first_found 0x0101 t tags f) ∙ ap (λ (v : List ℕ). Some v) asks.value in
    rw (eq-eqb (names_in tags) 1 one, value, one_is name is) refl

-- and so is asked for what is served
pub record Served (tags : List Tag) (name : List ℕ) : Type 0 where
  pub is : IsServed name
  pub asks : AsksFor tags name

pub service_asks : (tags : List Tag) (name : List ℕ) → service_of tags ≡ Some name → Served tags name
unfolding service_of
service_asks tags name h = by (names_in tags == 1) refl h
  where
    valued : (o : Option (List ℕ)) → value_of 0x0101 tags ≡ o → served o ≡ Some name → (value_of 0x0101 tags ≡ Some name) × (is_served name ≡ true)
    valued None is e = absurd cc
    valued (Some v) is e = of (is_served v) refl e
      where
        of : (b : Bool) → is_served v ≡ b → cond b (Some v) None ≡ Some name → (value_of 0x0101 tags ≡ Some name) × (is_served name ≡ true)
        of true own g = let same : v ≡ name = cc in (is ∙ ap (λ (x : List ℕ). Some x) same, sym (ap is_served same) ∙ own)
        of false other g = absurd cc

    by : (b : Bool) → (names_in tags == 1) ≡ b → cond b (served (value_of 0x0101 tags)) None ≡ Some name → Served tags name
    by false many e = absurd cc
    by true one e =
        let only = found_one 0x0101 tags (eqb-true (names_in tags) 1 one) in
        let told = valued (value_of 0x0101 tags) refl e in
        let found : value_of 0x0101 tags ≡ Some only.tag.value = ap (option_map (λ (t : Tag). t.value)) (first_found 0x0101 only.tag tags only.first) in
        let both : Some only.tag.value ≡ Some name = sym found ∙ told.0 in
        record { is = is_one name told.1; asks = record { tag = only.tag; first = only.first; alone = only.alone; value = cc } }

-- ---- cookies

pub own_cookie : (key src : List ℕ) (tags : List Tag) (t : Tag) → IsFirst 0x0104 t tags → t.value ≡ cookie_of key src
    → is_cookie key src (value_of 0x0104 tags) ≡ true
own_cookie key src tags t first is =
    let value : value_of 0x0104 tags ≡ Some (cookie_of key src) =
    ap (option_map (λ (t : Tag). t.value)) (first_found 0x0104 t tags first) ∙ ap (λ (v : List ℕ). Some v) is in
    rw value ((bytes_eq-Decides (cookie_of key src) (cookie_of key src)).1 refl)

-- ---- what is refused

pub record IsRefusedPadr (key mac bytes : List ℕ) (c : Cause) : Type 0 where
  pub src : List ℕ
  pub tags : List Tag
  pub padr : IsPadr mac bytes src tags
  pub why : IsRefusedFor key src tags c

module _ (key mac name bytes : List ℕ) (c : Cause) (frame : List ℕ) where
  abbrev Refuses : Discovered → Type 0
  Refuses d = d ≡ Reply (Some c) frame → IsRefusedPadr key mac bytes c

  either : (b : Bool) (x y : Discovered) → (b ≡ true → Refuses x) → (b ≡ false → Refuses y) → Refuses (cond b x y)
  either true x y f g = f refl
  either false x y f g = g refl

  padr_code : (n : ℕ) → eqb n 0x09 ≡ false → (eqb n 0x09 || eqb n 0x19) ≡ true → n ≡ 0x19
  padr_code n other either_one = eqb-true n 0x19 (sym (ap (λ b. b || eqb n 0x19) other) ∙ either_one)

  module _ (f : Pppoe) (reads : frame_of bytes ≡ Ok f) (to : is_for mac f ≡ true) (discovery : f.session_stage ≡ false) where
    offer_refuses : (asked : Asked) (o : Option (List ℕ)) → Refuses (offer key mac name f.src asked o)
    offer_refuses asked None h = absurd cc
    offer_refuses asked (Some s) h = absurd cc

    module _ (tags : List Tag) (reads_tags : tags_of f.payload ≡ Ok tags) (code : f.code ≡ 0x19) where
      padr : IsPadr mac bytes f.src tags
      padr = record { frame = f; reads = reads; to = to; discovery = discovery; code = code; source = refl; reads_tags = reads_tags }

      refused_for : (b : Cause) → IsRefusedFor key f.src tags b → Refuses (refused mac f.src b (asked_by tags))
      refused_for b why h =
          let same : b ≡ c = cc in
          subst (IsRefusedPadr key mac bytes) same (record { src = f.src; tags = tags; padr = padr; why = why })

      admission_refuses : (o : Option (List ℕ)) → service_of tags ≡ o → Refuses (admission key mac f.src (asked_by tags) o)
      admission_refuses None none =
          refused_for cause.Service (ForItsService (λ s is asks. let both : None ≡ Some s = sym none ∙ asks_service tags s is asks in absurd cc))
      admission_refuses (Some s) named =
          either (is_cookie key f.src (value_of 0x0104 tags)) _ _
          (λ good h. absurd cc)
          (λ bad. let asked = service_asks tags s named in
          refused_for cause.Cookie (ForItsCookie s asked.is asked.asks
          (λ t first is. true≢false (sym (own_cookie key f.src tags t first is) ∙ bad))))

    requested_refuses : (r : Result (List Tag) TagError) → tags_of f.payload ≡ r → (eqb f.code 0x09 || eqb f.code 0x19) ≡ true
        → Refuses (requested key mac name f r)
    requested_refuses (Err e) read code h = absurd cc
    requested_refuses (Ok tags) read code h =
        either (eqb f.code 0x09) _ _
        (λ padi. offer_refuses (asked_by tags) (asked_by tags).service)
        (λ other. admission_refuses tags read (padr_code f.code other code) (service_of tags) refl)
        h

  taken_refuses : (f : Pppoe) → frame_of bytes ≡ Ok f → Refuses (taken key mac name f)
  unfolding taken
  taken_refuses f reads =
      either (not (is_for mac f)) _ _ (λ other h. absurd cc) (λ for_it.
      either f.session_stage _ _ (λ stage. either (eqb f.code 0) _ _ (λ zero h. absurd cc) (λ other h. absurd cc)) (λ stage.
      either (eqb f.code 0xa7) _ _ (λ left h. absurd cc) (λ stays.
      either (eqb f.code 0x09 || eqb f.code 0x19) _ _
      (λ code. requested_refuses f reads (is_so (is_for mac f) for_it) stage (tags_of f.payload) refl code)
      (λ other h. absurd cc))))
    where
      is_so : (b : Bool) → not b ≡ false → b ≡ true
      is_so true h = refl
      is_so false h = absurd cc

  found_refuses : (r : Result Pppoe PppoeError) → frame_of bytes ≡ r → Refuses (discovered_by key mac name r)
  found_refuses (Err e) reads h = absurd cc
  found_refuses (Ok f) reads h = taken_refuses f reads h

  pub refused_padr : discovered key mac name bytes ≡ Reply (Some c) frame → IsRefusedPadr key mac bytes c
  refused_padr h = found_refuses (frame_of bytes) refl h
