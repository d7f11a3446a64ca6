-- The cookie that an address is given (RFC 2516 appendix A, on AC-Cookie): no other address is answered with it, so a PADR
-- that has it comes from where its PADO went.
use Rattle.std.specs.Prelude.{ℕ, Bool, false, List, ◌++◌, Option, Some, None}
use Rattle.std.specs.Bool.{nat_eq}
use Rattle.std.specs.Cmp.Lexicographic.{pointwise}
use Rattle.md5.specs.Md5.{md5}

-- MD5 over the key and the address
abbrev pub cookie_of : List ℕ → List ℕ → List ℕ
cookie_of key mac = md5 (key ++ mac)

-- byte by byte
abbrev pub is_same : List ℕ → List ℕ → Bool
is_same a b = pointwise nat_eq a b

-- whether an AC-Cookie came, and is that of the address
abbrev pub is_cookie : List ℕ → List ℕ → Option (List ℕ) → Bool
is_cookie key mac None = false
is_cookie key mac (Some given) = is_same given (cookie_of key mac)
