-- Hidden values (RFC 2661 section 4.3), block by block from the front.
use Rattle.std.specs.Prelude.{ℕ, zero, suc, ◌+◌, ◌/◌, List, [], ◌∷◌, ◌++◌, length, take, drop, replicate, bit_xor}
use Rattle.md5.specs.Md5.{md5}
use Rattle.wire_base.specs.Numbers.{u16_bytes}
use Rattle.tunnel_secret.specs.declared.hiding.Direction.{Direction}
use Rattle.tunnel_secret.specs.declared.hiding.Direction.TheVariants.{Hide, Unhide}

-- a block under a mask, byte by byte
unfoldable pub xored : List ℕ → List ℕ → List ℕ
xored mask [] = []
xored [] (b ∷ block) = []
xored (m ∷ mask) (b ∷ block) = bit_xor m b ∷ xored mask block

-- the mask of the first block: MD5 over the attribute in two bytes, the secret and the random vector
abbrev pub first_mask : ℕ → List ℕ → List ℕ → List ℕ
first_mask attribute secret vector = md5 (u16_bytes attribute ++ secret ++ vector)

-- the mask of the block behind a block of cipher text: MD5 over the secret and that block
abbrev pub next_mask : List ℕ → List ℕ → List ℕ
next_mask secret cipher = md5 (secret ++ cipher)

-- of the block that is given and the one that is made of it, the one of cipher text
abbrev pub cipher_block : Direction → List ℕ → List ℕ → List ℕ
cipher_block Hide given made = made
cipher_block Unhide given made = given

-- what is made of a text in so many blocks of 16 bytes, of which the last may have fewer: cipher text of plain text, or plain
-- text of cipher text
unfoldable pub blocks_of : Direction → List ℕ → List ℕ → ℕ → List ℕ → List ℕ
blocks_of direction secret mask zero text = []
blocks_of direction secret mask (suc n) text =
    let made = xored mask (take 16 text) in
    made ++ blocks_of direction secret (next_mask secret (cipher_block direction (take 16 text) made)) n (drop 16 text)

-- what is made of a whole text
unfoldable pub text_of : Direction → List ℕ → List ℕ → List ℕ → List ℕ
text_of direction secret first text = blocks_of direction secret first ((length text + 15) / 16) text

-- the original length in two bytes, the value, and zeros as padding
abbrev pub plain_text : List ℕ → ℕ → List ℕ
plain_text value padding = u16_bytes (length value) ++ value ++ replicate padding 0

-- the cipher text that is made of a plain text
abbrev pub ciphered : ℕ → List ℕ → List ℕ → List ℕ → List ℕ
ciphered attribute secret vector plain = text_of Hide secret (first_mask attribute secret vector) plain

-- a value of an attribute as it is hidden
abbrev pub hidden : ℕ → List ℕ → List ℕ → List ℕ → ℕ → List ℕ
hidden attribute secret vector value padding = ciphered attribute secret vector (plain_text value padding)
