-- The 64 bytes of a reply: what ending it does to header, address and body.
use Rattle.std.proofs.Common.{◌≡◌, ℕ, ◌+◌, ◌≤◌, List, [], ◌∷◌, ◌++◌, length, get_or, take, drop, set, ap, ◌∙◌, arith}
use Rattle.std.proofs.lemmas.Grind.{common_steps}
use Rattle.std.proofs.lemmas.List.{length-set, take_more_set}
use Rattle.wire.specs.Frames.{Frame, up_to_etx, check_byte, on_line}

-- what stands in the cells, with n bytes of body
abbrev reading : List ℕ → ℕ → Frame
reading cells n = record { header = get_or cells 0 0; high = get_or cells 1 0; low = get_or cells 2 0; body = take n (drop 3 cells) }

front : (cells : List ℕ) (n : ℕ) → 3 ≤ length cells → take (3 + n) cells ≡ get_or cells 0 0 ∷ get_or cells 1 0 ∷ get_or cells 2 0 ∷ take n (drop 3 cells)
front cells n h = grind (arith, common_steps)

-- ETX and the check byte x, written behind n bytes of body
module _ (cells : List ℕ) (n x : ℕ) (len : length cells ≡ 64) (room : n ≤ 59) where
  ended : take (3 + n + 1) (set cells (3 + n) 3) ≡ up_to_etx (reading cells n)
  ended = take_more_set cells (3 + n) 3 (omega arith) ∙ ap (λ (l : List ℕ). l ++ 3 ∷ []) (front cells n (omega arith))

  pub sealed_as : x ≡ check_byte (take (3 + n + 1) (set cells (3 + n) 3)) → take (3 + n + 2) (set (set cells (3 + n) 3) (3 + n + 1) x) ≡ on_line (reading cells n)
  sealed_as e =
      let k : 3 + n + 2 ≡ 3 + n + 1 + 1 = omega arith in
      let check : x ≡ check_byte (up_to_etx (reading cells n)) = e ∙ ap check_byte ended in
      ap (λ (m : ℕ). take m (set (set cells (3 + n) 3) (3 + n + 1) x)) k
      ∙ take_more_set (set cells (3 + n) 3) (3 + n + 1) x (omega (arith, length-set cells (3 + n) 3))
      ∙ (λ i. ended i ++ check i ∷ [])
