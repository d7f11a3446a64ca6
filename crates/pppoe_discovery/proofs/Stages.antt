-- A session frame is none of discovery's, and a discovery frame is no session's.
use Rattle.std.proofs.Common.{◌≡◌, ℕ, Bool, true, false, cond, not, ◌||◌, eqb, List, Option, Some, None, Result, Ok, Err, refl}
use Rattle.pppoe_wire.specs.declared.frame.Pppoe.{Pppoe}
use Rattle.pppoe_wire.specs.declared.frame.Tag.{Tag}
use Rattle.pppoe_wire.specs.declared.error.TagError.{TagError}
use Rattle.pppoe_wire.specs.Reading.{tags_of}
use Rattle.pppoe_discovery.specs.declared.asking.Asked.{Asked}
use Rattle.pppoe_discovery.specs.declared.outcome.Discovered.{Discovered}
use Rattle.pppoe_discovery.specs.Cookie.{is_cookie}
use Rattle.pppoe_discovery.specs.Asking.{asked_by}
use Rattle.pppoe_discovery.specs.Discovery.{is_for, offer, admission, requested, taken}
use Rattle.pppoe_discovery.specs.Laws.{IsOf, KeepsStages}

abbrev Of : Bool → Discovered → Type 0
Of stage d = IsOf stage d

either : (stage b : Bool) (x y : Discovered) → Of stage x → Of stage y → Of stage (cond b x y)
either stage true x y l r = l
either stage false x y l r = r

of_offer : (key mac name src : List ℕ) (asked : Asked) (service : Option (List ℕ)) → Of false (offer key mac name src asked service)
of_offer key mac name src asked None = tt
of_offer key mac name src asked (Some s) = tt

of_admission : (key mac src : List ℕ) (asked : Asked) (service : Option (List ℕ)) → Of false (admission key mac src asked service)
of_admission key mac src asked None = tt
of_admission key mac src asked (Some s) = either false (is_cookie key src asked.cookie) _ _ tt tt

of_requested : (key mac name : List ℕ) (f : Pppoe) (read : Result (List Tag) TagError) → Of false (requested key mac name f read)
of_requested key mac name f (Err e) = tt
of_requested key mac name f (Ok tags) =
    either false (eqb f.code 0x09) _ _ (of_offer key mac name f.src (asked_by tags) (asked_by tags).service) (of_admission key mac f.src (asked_by tags) (asked_by tags).service)

of_taken : (key mac name : List ℕ) (f : Pppoe) (stage : Bool) → f.session_stage ≡ stage → Of stage (taken key mac name f)
unfolding taken
of_taken key mac name f true e = either true (not (is_for mac f)) _ _ tt (rw e (either true (eqb f.code 0) _ _ tt tt))
of_taken key mac name f false e =
    either false (not (is_for mac f)) _ _ tt (rw e (either false (eqb f.code 0xa7) _ _ tt (either false (eqb f.code 0x09 || eqb f.code 0x19) _ _ (of_requested key mac name f (tags_of f.payload)) tt)))

pub keeps_stages : KeepsStages
keeps_stages key mac name bytes f e = rw e (of_taken key mac name f f.session_stage refl)
