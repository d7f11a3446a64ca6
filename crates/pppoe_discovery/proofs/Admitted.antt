-- A PADR with the cookie of its address is admitted, and nothing else is.
use Rattle.std.proofs.Common.{rules, ◌≡◌, ℕ, Bool, true, false, cond, not, ◌||◌, eqb, List, Option, Some, None, Result, Ok, Err, refl, sym, ap, subst, ◌∙◌, inl, inr}
use Rattle.std.proofs.lemmas.Bool.{cases_eq, ne_eqb}
use Rattle.std.proofs.lemmas.Slice.Eq.{bytes_eq-Decides}
use Rattle.pppoe_wire.specs.declared.frame.Pppoe.{Pppoe}
use Rattle.pppoe_wire.specs.declared.frame.Tag.{Tag}
use Rattle.pppoe_wire.specs.declared.error.PppoeError.{PppoeError}
use Rattle.pppoe_wire.specs.declared.error.TagError.{TagError}
use Rattle.pppoe_wire.specs.Reading.{frame_of, tags_of}
use Rattle.pppoe_discovery.specs.declared.asking.Asked.{Asked}
use Rattle.pppoe_discovery.specs.declared.outcome.Discovered.{Discovered}
use Rattle.pppoe_discovery.specs.declared.outcome.Discovered.TheVariants.{Admit}
use Rattle.pppoe_discovery.specs.Cookie.{cookie_of, is_cookie}
use Rattle.pppoe_discovery.specs.Asking.{value_of, service_of, asked_by}
use Rattle.pppoe_discovery.specs.Discovery.{is_for, offer, admission, requested, taken, discovered_by}
use Rattle.pppoe_discovery.specs.Laws.{TakesUp, TakesBack, AdmitsCookies}

-- ---- the cookie that was given is the one that is wanted

own_cookie : (key src : List ℕ) (given : Option (List ℕ)) → given ≡ Some (cookie_of key src) → is_cookie key src given ≡ true
own_cookie key src given e = rw e ((bytes_eq-Decides (cookie_of key src) (cookie_of key src)).1 refl)

is_own : (key src : List ℕ) (given : Option (List ℕ)) → is_cookie key src given ≡ true → given ≡ Some (cookie_of key src)
is_own key src None e = absurd (search (rules, e))
is_own key src (Some v) e = ap (λ (c : List ℕ). Some c) ((bytes_eq-Decides v (cookie_of key src)).0 e)

-- ---- a PADR that takes up an offer

admitted : (key mac src : List ℕ) (asked : Asked) (service : List ℕ) (named : Option (List ℕ)) → named ≡ Some service → asked.cookie ≡ Some (cookie_of key src) → admission key mac src asked named ≡ Admit src service asked.uniq asked.relay
admitted key mac src asked service named n c = rw (n, own_cookie key src asked.cookie c) refl

requested_is : (key mac name : List ℕ) (f : Pppoe) (tags : List Tag) (read : Result (List Tag) TagError) → read ≡ Ok tags → f.code ≡ 0x19 → requested key mac name f read ≡ admission key mac f.src (asked_by tags) (service_of tags)
requested_is key mac name f tags read r code = rw (r, code) refl

taken_is : (key mac name : List ℕ) (f : Pppoe) → is_for mac f ≡ true → f.session_stage ≡ false → f.code ≡ 0x19 → taken key mac name f ≡ requested key mac name f (tags_of f.payload)
unfolding taken
taken_is key mac name f own stage code = rw (own, stage) (rw code refl)

pub takes_back : TakesBack
takes_back key mac name bytes src service tags padr own =
    let f = padr.frame in
    let cookie : value_of 0x0104 tags ≡ Some (cookie_of key f.src) = padr.cookie ∙ ap (λ (s : List ℕ). Some (cookie_of key s)) (sym padr.source) in
    ap (discovered_by key mac name) padr.reads
    ∙ taken_is key mac name f own padr.discovery padr.code
    ∙ requested_is key mac name f tags (tags_of f.payload) padr.reads_tags padr.code
    ∙ admitted key mac f.src (asked_by tags) service (service_of tags) padr.named cookie
    ∙ ap (λ (s : List ℕ). Admit s service (value_of 0x0103 tags) (value_of 0x0110 tags)) padr.source

-- ---- what is admitted took up an offer

record Granted (key : List ℕ) (f : Pppoe) (src service : List ℕ) (uniq relay : Option (List ℕ)) : Type 0 where
  discovery : f.session_stage ≡ false
  code : f.code ≡ 0x19
  source : f.src ≡ src
  tags : List Tag
  reads_tags : tags_of f.payload ≡ Ok tags
  named : service_of tags ≡ Some service
  cookie : value_of 0x0104 tags ≡ Some (cookie_of key src)
  uniq_is : value_of 0x0103 tags ≡ uniq
  relay_is : value_of 0x0110 tags ≡ relay

abbrev Grants : List ℕ → Pppoe → Discovered → Type 0
Grants key f (Admit src service uniq relay) = Granted key f src service uniq relay
Grants key f other = Unit {0}

by_test : (P : Discovered → Type 0) (b : Bool) (x y : Discovered) → (b ≡ true → P x) → (b ≡ false → P y) → P (cond b x y)
by_test P true x y l r = l refl
by_test P false x y l r = r refl

padr_code : (n : ℕ) → eqb n 0x09 ≡ false → (eqb n 0x09 || eqb n 0x19) ≡ true → n ≡ 0x19
padr_code n a b = elim (cases_eq n 0x19) [ inl e ↦ e | inr ne ↦ let c : false ≡ true = sym (rw (a, ne_eqb n 0x19 ne) refl) ∙ b in absurd (search (rules, c)) ]

offer_grants : (key mac name : List ℕ) (f : Pppoe) (asked : Asked) (named : Option (List ℕ)) → Grants key f (offer key mac name f.src asked named)
offer_grants key mac name f asked None = tt
offer_grants key mac name f asked (Some s) = tt

admission_grants : (key mac : List ℕ) (f : Pppoe) (tags : List Tag) (named : Option (List ℕ)) → f.session_stage ≡ false → f.code ≡ 0x19 → tags_of f.payload ≡ Ok tags → service_of tags ≡ named → Grants key f (admission key mac f.src (asked_by tags) named)
admission_grants key mac f tags None stage code read n = tt
admission_grants key mac f tags (Some s) stage code read n =
    by_test (Grants key f) (is_cookie key f.src (value_of 0x0104 tags)) _ _
    (λ own. record {
      discovery = stage;
      code = code;
      source = refl;
      tags = tags;
      reads_tags = read;
      named = n;
      cookie = is_own key f.src (value_of 0x0104 tags) own;
      uniq_is = refl;
      relay_is = refl;
    })
    (λ _. tt)

requested_grants : (key mac name : List ℕ) (f : Pppoe) (read : Result (List Tag) TagError) → f.session_stage ≡ false → (eqb f.code 0x09 || eqb f.code 0x19) ≡ true → tags_of f.payload ≡ read → Grants key f (requested key mac name f read)
requested_grants key mac name f (Err e) stage code is = tt
requested_grants key mac name f (Ok tags) stage code is =
    by_test (Grants key f) (eqb f.code 0x09) _ _
    (λ _. offer_grants key mac name f (asked_by tags) (service_of tags))
    (λ other. admission_grants key mac f tags (service_of tags) stage (padr_code f.code other code) is refl)

taken_grants : (key mac name : List ℕ) (f : Pppoe) → Grants key f (taken key mac name f)
unfolding taken
taken_grants key mac name f =
    by_test (Grants key f) (not (is_for mac f)) _ _ (λ _. tt) (λ _.
    by_test (Grants key f) f.session_stage _ _ (λ _. by_test (Grants key f) (eqb f.code 0) _ _ (λ _. tt) (λ _. tt)) (λ stage.
    by_test (Grants key f) (eqb f.code 0xa7) _ _ (λ _. tt) (λ _.
    by_test (Grants key f) (eqb f.code 0x09 || eqb f.code 0x19) _ _ (λ code. requested_grants key mac name f (tags_of f.payload) stage code refl) (λ _. tt))))

abbrev Upheld : List ℕ → List ℕ → List ℕ → List ℕ → Option (List ℕ) → Option (List ℕ) → Type 0
Upheld key bytes src service uniq relay = (tags : List Tag) × TakesUp key bytes src service tags × (value_of 0x0103 tags ≡ uniq) × (value_of 0x0110 tags ≡ relay)

granted_is : (key bytes src service : List ℕ) (uniq relay : Option (List ℕ)) (f : Pppoe) → frame_of bytes ≡ Ok f → Granted key f src service uniq relay → Upheld key bytes src service uniq relay
granted_is key bytes src service uniq relay f read g =
    let up : TakesUp key bytes src service g.tags =
    record {
      frame = f;
      reads = read;
      discovery = g.discovery;
      code = g.code;
      source = g.source;
      reads_tags = g.reads_tags;
      named = g.named;
      cookie = g.cookie;
    } in
    (g.tags, up, g.uniq_is, g.relay_is)

admits_by : (key mac name bytes src service : List ℕ) (uniq relay : Option (List ℕ)) (read : Result Pppoe PppoeError) → frame_of bytes ≡ read → discovered_by key mac name read ≡ Admit src service uniq relay → Upheld key bytes src service uniq relay
admits_by key mac name bytes src service uniq relay (Err e) is a = absurd (search (rules, a))
admits_by key mac name bytes src service uniq relay (Ok f) is a = granted_is key bytes src service uniq relay f is (subst (Grants key f) a (taken_grants key mac name f))

pub admits_cookies : AdmitsCookies
admits_cookies key mac name bytes src service uniq relay a = admits_by key mac name bytes src service uniq relay (frame_of bytes) refl a
