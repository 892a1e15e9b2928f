-- Little-endian numbers, over the width in bytes.
use Rattle.std.specs.Prelude.{ℕ, zero, suc, ◌+◌, ◌*◌, ◌/◌, ◌%◌, List, [], ◌∷◌, get_or}

-- the k bytes of n, the lowest first
unfoldable pub le : ℕ → ℕ → List ℕ
le zero n = []
le (suc k) n = n % 256 ∷ le k (n / 256)

-- the number that the k bytes of b from i on make; a byte past the end of b counts as 0
unfoldable pub le_at : ℕ → List ℕ → ℕ → ℕ
le_at zero b i = 0
le_at (suc k) b i = get_or b i 0 + 256 * le_at k b (i + 1)
