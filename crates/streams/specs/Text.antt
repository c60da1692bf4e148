-- Words and numbers as bytes.
use Rattle.std.specs.Prelude.{cond, List, [] as none, ◌∷◌ as ◌then◌, ℕ, zero, suc, ◌^◌, ltb}
use Prim.Native.Char.{code}
use Prim.Native.String.{String, [], ◌∷◌}
use Rattle.io.specs.Digits.{last_digits}

-- the bytes of a text, each character one byte
unfoldable pub bytes : String → List ℕ
bytes [] = none
bytes (c ∷ s) = code c then bytes s

-- the first of k, k + 1, .. that is enough digits for n, or the last of them
unfoldable pub places_from : ℕ → ℕ → ℕ → ℕ
places_from zero k n = k
places_from (suc more) k n = let later = places_from more (suc k) n in cond (ltb n (10 ^ k)) k later

-- how many digits a number has in decimal: the fewest that hold it, one at least
unfoldable pub places : ℕ → ℕ
places n = places_from n 1 n

-- a number in decimal, with no leading zero
unfoldable pub decimal : ℕ → List ℕ
decimal n = last_digits 10 (places n) n
