-- Pairs as places in bytes.
use Rattle.std.specs.Prelude.{ℕ, List, map, take, drop}
use Rattle.avp_codec.specs.declared.avp.Avp.{Avp}
use Rattle.avp_codec.specs.declared.lent.Place.{Place}

-- the pair at a place
abbrev pub pair_in : List ℕ → Place → Avp
pair_in bytes p =
    record {
      mandatory = p.mandatory;
      hidden = p.hidden;
      reserved = p.reserved;
      vendor = p.vendor;
      attribute = p.attribute;
      value = take p.len (drop p.start bytes);
    }

-- the pairs at places, in order
abbrev pub pairs_in : List ℕ → List Place → List Avp
pairs_in bytes places = map (λ p. pair_in bytes p) places
