-- A word that std reads as an IPv4 address, and the address that it spells.
use Rattle.std.proofs.Common.{◌≡◌, ℕ, List, [], ◌∷◌, Option, Some, None, refl, sym, ap, subst, ◌∙◌, lit≤}
use Rattle.std.proofs.lemmas.List.{append-nil}
use Rattle.std.specs.declared.net.ipv4_addr.Ipv4Addr.{Ipv4Addr}
use Rattle.std.specs.Net.Addr.{ipv4_octets, ipv4_bits}
use Rattle.std.specs.Net.Grammar.{IsDotted, IsIpv4Text}
use Rattle.std.specs.Net.Reader.{read_ipv4}
use Rattle.std.proofs.NetLemmas.Ipv4.{read_ipv4_complete, read_ipv4_sound}
use Rattle.option_values.specs.Values.{◌>>=◌, address_of, alone}

whole_word : (word octets : List ℕ) → IsDotted word octets → read_ipv4 word ≡ Some (octets, [])
whole_word word octets dotted = subst (λ w. read_ipv4 w ≡ Some (octets, [])) (append-nil word) (read_ipv4_complete word octets [] dotted (lit≤ tt))

pub parsed_address : (word : List ℕ) (a : Ipv4Addr) → IsIpv4Text word a → Some (ipv4_bits a) ≡ address_of word
unfolding address_of ipv4_bits
parsed_address word a dotted = sym (ap (λ o. o >>= alone) (whole_word word (ipv4_octets a) dotted))

pub no_address : (word : List ℕ) → ((a : Ipv4Addr) → IsIpv4Text word a → ⊥) → None ≡ address_of word
unfolding address_of
no_address word none = go (read_ipv4 word) refl
  where
    go : (o : Option (List ℕ × List ℕ)) → read_ipv4 word ≡ o → None ≡ (o >>= alone)
    go None e = refl
    go (Some (octets, c ∷ cs)) e = refl
    go (Some (octets, [])) e =
        let found = read_ipv4_sound word octets [] e in
        let dotted : IsDotted word octets = subst (λ w. IsDotted w octets) (sym (found.1 ∙ append-nil found.0)) found.2 in
        absurd (none (record { octets = octets }) dotted)
