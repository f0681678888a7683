-- The rules' words on lists, as those of std.
use Rattle.std.proofs.Common.{◌≡◌, ℕ, Bool, ◌&&◌, List, [], ◌∷◌, cond, Some, refl, ap}
use Rattle.std.specs.List.{list_all, find}
use Rattle.rules.specs.State.{User}
use Rattle.rules.specs.Panel.{every}
use Rattle.rules.specs.Commands.{is_user, first_user}

pub list_all-every : (f : ℕ → Bool) (xs : List ℕ) → list_all f xs ≡ every f xs
list_all-every f [] = refl
list_all-every f (x ∷ xs) = ap (λ b. f x && b) (list_all-every f xs)

pub find-first_user : (us : ℕ → User) (n w numbers : List ℕ) → find (is_user us n w) numbers ≡ first_user us n w numbers
find-first_user us n w [] = refl
find-first_user us n w (u ∷ more) = ap (cond (is_user us n w u) (Some u)) (find-first_user us n w more)
