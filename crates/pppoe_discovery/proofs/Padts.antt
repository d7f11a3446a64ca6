-- The bytes of a PADT.
use Rattle.std.proofs.Common.{◌≡◌, ℕ, List, [], ◌∷◌, ◌++◌, length, slice_index_or, ap, arith}
use Rattle.wire_base.specs.Numbers.{u16_bytes}
use Rattle.pppoe_wire.specs.Spelling.{head_bytes, frame_bytes}
use Rattle.pppoe_discovery.specs.Replies.{padt}

-- both addresses, the ethertype of discovery, the version, the code, the session, and no tags
pub padt_is : (mac dst two : List ℕ) (session : ℕ) → length mac ≡ 6 → length dst ≡ 6 → two ≡ u16_bytes session
    → slice_index_or dst 0 0 ∷ slice_index_or dst 1 0 ∷ slice_index_or dst 2 0 ∷ slice_index_or dst 3 0 ∷ slice_index_or dst 4 0 ∷ slice_index_or dst 5 0
    ∷ slice_index_or mac 0 0 ∷ slice_index_or mac 1 0 ∷ slice_index_or mac 2 0 ∷ slice_index_or mac 3 0 ∷ slice_index_or mac 4 0 ∷ slice_index_or mac 5 0
    ∷ 136 ∷ 99 ∷ 17 ∷ 167 ∷ slice_index_or two 0 0 ∷ slice_index_or two 1 0 ∷ 0 ∷ 0 ∷ []
    ≡ frame_bytes (padt mac dst session)
unfolding head_bytes u16_bytes
padt_is (a ∷ b ∷ c ∷ d ∷ e ∷ f ∷ []) (g ∷ h ∷ i ∷ j ∷ k ∷ l ∷ []) two session six also is =
    ap (λ (xs : List ℕ). g ∷ h ∷ i ∷ j ∷ k ∷ l ∷ a ∷ b ∷ c ∷ d ∷ e ∷ f ∷ 136 ∷ 99 ∷ 17 ∷ 167 ∷ slice_index_or xs 0 0 ∷ slice_index_or xs 1 0 ∷ 0 ∷ 0 ∷ []) is
padt_is mac dst two session six also is = absurd (omega arith)
