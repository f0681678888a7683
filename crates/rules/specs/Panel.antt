-- What the panel's calls, and the entry of users, are refused for.
--
--   panel_refusal s o i  what every panel set, lock and unlock of output o and input i is asked
--   set_refusal, lock_refusal, unlock_refusal   all that each of them is asked, in order
--   is_letter            a letter from A to Z or from a to z
--   every f xs           each of xs passes f
--   starts_with_letter   there is no first byte, or it is a letter
--   is_name              a user's name: empty, or letters and digits starting with a letter, up to ten
--   is_password          a user's password: up to ten bytes from 20 to 7E, and no colon
--   user_refusal u n w   what the entry of user u with name n and password w is asked
use Rattle.std.specs.Prelude.{ℕ, Bool, true, not, ◌&&◌, ◌||◌, List, [], ◌∷◌, length, Option, ◌==◌, nat_le}
use Rattle.wire.specs.Fields.{is_digit}
use Rattle.fabric.specs.Meaning.{within}
use Rattle.rules.specs.declared.refusal.Refusal.{Refusal}
use Rattle.rules.specs.declared.refusal.Refusal.TheVariants.{NoSuchOutput, NoSuchInput, KeypadLocked, OutputLocked, CannotBeMade, WrongUser}
use Rattle.rules.specs.State.{State}
use Rattle.rules.specs.Switching.{may_set, may_lock, can_be_made, unless, first_of}

-- ---- the panel

abbrev pub panel_refusal : State → ℕ → ℕ → Option Refusal
panel_refusal s o i = first_of (unless (within o s.fabric.outputs) NoSuchOutput ∷ unless (within i s.fabric.inputs) NoSuchInput ∷ unless (not s.keypad) KeypadLocked ∷ [])

abbrev pub set_refusal : State → ℕ → ℕ → Option Refusal
set_refusal s o i = first_of (panel_refusal s o i ∷ unless (may_set s o) OutputLocked ∷ unless (can_be_made s o i) CannotBeMade ∷ [])

abbrev pub lock_refusal : State → ℕ → ℕ → Option Refusal
lock_refusal s o i = first_of (panel_refusal s o i ∷ unless (may_lock s o i) OutputLocked ∷ unless (can_be_made s o i) CannotBeMade ∷ [])

abbrev pub unlock_refusal : State → ℕ → ℕ → Option Refusal
unlock_refusal s o i = panel_refusal s o i

-- ---- users

abbrev pub is_letter : ℕ → Bool
is_letter b = (nat_le 65 b && nat_le b 90) || (nat_le 97 b && nat_le b 122)

abbrev pub every : (ℕ → Bool) → List ℕ → Bool
every f [] = true
every f (x ∷ xs) = f x && every f xs

abbrev pub starts_with_letter : List ℕ → Bool
starts_with_letter [] = true
starts_with_letter (x ∷ xs) = is_letter x

abbrev pub is_name : List ℕ → Bool
is_name n = nat_le (length n) 10 && (starts_with_letter n && every (λ b. is_letter b || is_digit b) n)

abbrev pub is_password : List ℕ → Bool
is_password w = nat_le (length w) 10 && every (λ b. nat_le 0x20 b && (nat_le b 0x7E && not (b == 58))) w

abbrev pub user_refusal : ℕ → List ℕ → List ℕ → Option Refusal
user_refusal u n w = unless (within u 8 && (is_name n && is_password w)) WrongUser
