-- What a PADI or a PADR asks for by its tags (RFC 2516 sections 5.1 and 5.3, and appendix A).
use Rattle.std.specs.Prelude.{ℕ, ◌≤◌, Bool, ◌||◌, ◌==◌, if◌then◌else◌, List, [], length, filter, find, codes, Option, Some, None, IfSome}
use Rattle.std.specs.Option.{option_map}
use Rattle.pppoe_wire.specs.declared.frame.Tag.{Tag}
use Rattle.pppoe_discovery.specs.declared.asking.Asked.{Asked}
use Rattle.pppoe_discovery.specs.Cookie.{is_same}

abbrev pub is_of : ℕ → Tag → Bool
is_of kind t = t.kind == kind

-- where a tag is repeated, the first counts
abbrev pub value_of : ℕ → List Tag → Option (List ℕ)
value_of kind tags = option_map (λ t. t.value) (find (λ t. is_of kind t) tags)

-- the empty name, which asks for any service, and l2tp
abbrev pub is_served : List ℕ → Bool
is_served name = is_same name [] || is_same name (codes "l2tp")

abbrev pub served : Option (List ℕ) → Option (List ℕ)
served None = None
served (Some name) = if is_served name then Some name else None

-- how many Service-Names there are
abbrev pub names_in : List Tag → ℕ
names_in tags = length (filter (λ t. is_of 0x0101 t) tags)

-- the one Service-Name, where there is exactly one, and where its service is served
unfoldable pub service_of : List Tag → Option (List ℕ)
service_of tags = if names_in tags == 1 then served (value_of 0x0101 tags) else None

-- Service-Name, AC-Cookie, Host-Uniq, Relay-Session-Id
abbrev pub asked_by : List Tag → Asked
asked_by tags =
    record {
      service = service_of tags;
      cookie = value_of 0x0104 tags;
      uniq = value_of 0x0103 tags;
      relay = value_of 0x0110 tags;
    }

-- no more bytes than a frame has
abbrev pub IsShort : Option (List ℕ) → Type 0
IsShort value = IfSome value (λ v. length v ≤ 2048)

pub record AreShort (asked : Asked) : Type 0 where
  pub service : IsShort asked.service
  pub uniq : IsShort asked.uniq
  pub relay : IsShort asked.relay
