-- What a list of routings does, each a pair of an output and an input; a refused one changes nothing and the next follows.
--
--   can_be_made m p    the pair p can be made in m
--   after_all m ps     m after the routings ps
--   accepted m ps      how many of them are accepted
--   makeable_of m ps   those of ps that can be made in m, in order
--   sets m o p         the routing p is one of output o, and accepted
--   none_sets m o ps   no routing of ps is an accepted one of output o
use Rattle.std.specs.Prelude.{ℕ, ◌+◌, Bool, true, cond, not, ◌&&◌, List, [], ◌∷◌, filter, ◌==◌}
use Rattle.fabric.specs.Meaning.{Meaning, after}

abbrev pub can_be_made : Meaning → (ℕ × ℕ) → Bool
can_be_made m p = m.makeable p.0 p.1

abbrev pub after_all : Meaning → List (ℕ × ℕ) → Meaning
after_all m [] = m
after_all m (p ∷ ps) = after_all (after m p.0 p.1) ps

abbrev pub accepted : Meaning → List (ℕ × ℕ) → ℕ
accepted m [] = 0
accepted m (p ∷ ps) = cond (can_be_made m p) 1 0 + accepted (after m p.0 p.1) ps

abbrev pub makeable_of : Meaning → List (ℕ × ℕ) → List (ℕ × ℕ)
makeable_of m ps = filter (can_be_made m) ps

abbrev pub sets : Meaning → ℕ → (ℕ × ℕ) → Bool
sets m o p = p.0 == o && can_be_made m p

abbrev pub none_sets : Meaning → ℕ → List (ℕ × ℕ) → Bool
none_sets m o [] = true
none_sets m o (p ∷ ps) = not (sets m o p) && none_sets m o ps
