-- Tables that are read by a number from 1 on.
--
--   value_at t k         the value that the table t has at the number k: none outside the numbers from 1 to its length
--   put_at f k v         f with v at k
--   put_within n f k v   the same, if k is one of 1 to n; else f
--   put_bit f k g v      f with v at k and g
--   put_bit_within n m f k g v    the same, if k is one of 1 to n and g one of 1 to m; else f
--   is_other_within n m f k g v   k and g are such numbers, and f has another bit than v there
use Rattle.std.specs.Prelude.{ℕ, ◌-◌, Bool, cond, not, ◌&&◌, None, Option, ◌==◌, slice_get}
use Rattle.fabric.specs.Meaning.{within}
use Rattle.rules.specs.Switching.{same}
use Rattle.records.specs.declared.table.Table.{Table}

abbrev pub value_at : {T : Type 0} {N : ℕ} → Table T N → ℕ → Option T
value_at {T} {N} t k = cond (within k N) (slice_get t.cells (k - 1)) None

module _ {V : Type 0} where
  abbrev pub put_at : (ℕ → V) → ℕ → V → ℕ → V
  put_at f k v j = cond (j == k) v (f j)

  abbrev pub put_within : ℕ → (ℕ → V) → ℕ → V → ℕ → V
  put_within n f k v = cond (within k n) (put_at f k v) f

abbrev pub put_bit : (ℕ → ℕ → Bool) → ℕ → ℕ → Bool → ℕ → ℕ → Bool
put_bit f k g v j h = cond (j == k) (cond (h == g) v (f j h)) (f j h)

abbrev pub put_bit_within : ℕ → ℕ → (ℕ → ℕ → Bool) → ℕ → ℕ → Bool → ℕ → ℕ → Bool
put_bit_within n m f k g v = cond (within k n && within g m) (put_bit f k g v) f

abbrev pub is_other_within : ℕ → ℕ → (ℕ → ℕ → Bool) → ℕ → ℕ → Bool → Bool
is_other_within n m f k g v = (within k n && within g m) && not (same v (f k g))
