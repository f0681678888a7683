-- The bits of a mask: all set, read, summed, and one of them flipped; and those that no mask has.
use Rattle.std.proofs.Common.{◌≡◌, ℕ, zero, suc, ◌-◌, ◌*◌, ◌/◌, ◌%◌, ◌^◌, ◌<◌, Bool, true, false, cond, not, ◌&&◌, eqb, sym, refl, ap, ◌∙◌, le_of_suc-le-suc, not-suc-le-zero, arith}
use mathlib.Core.Bool.{beq}
use lib.Bits.{bit_xor}
use Rattle.std.proofs.lemmas.Bool.Decides.{nat_tests}
use Rattle.std.proofs.lemmas.Bool.{true≢false, eqb-true, eq-eqb, cond-true, cond-false}
use Rattle.std.proofs.lemmas.Nat.{xor_shr, xor_mod, mod_below, one_shl}
use Rattle.fabric.specs.Meaning.{within}
use Rattle.fabric.proofs.Relays.{digit}
use Rattle.rules.specs.Switching.{same}
use Rattle.records.specs.Tables.{put_bit, put_bit_within, put_within, is_other_within}
use Rattle.rules.specs.State.{byte_of}
use Rattle.records.specs.Records.{mask_bit}
use Rattle.records.proofs.Cells.{put_inside}
use Rattle.records.proofs.Below.{each_below}

-- ---- one mask

pub all_set : (g : ℕ) → mask_bit 255 g ≡ true
all_set g = grind (arith, nat_tests, each_below (λ k. eqb (255 / 2 ^ k % 2) 1) 8 refl (g - 1))

-- what holds of 0 and of 1 holds of a number's last digit
last_digit : (P : ℕ → Type 0) → P 0 → P 1 → (x : ℕ) → P (x % 2)
last_digit P p q x = at (x % 2) (mod_below x 2 (omega arith))
  where
    at : (y : ℕ) → y < 2 → P y
    at zero h = p
    at (suc zero) h = q
    at (suc (suc y)) h = absurd (not-suc-le-zero (le_of_suc-le-suc (le_of_suc-le-suc h)))

weight : (x w : ℕ) → cond (eqb (x % 2) 1) w 0 ≡ x % 2 * w
weight x w = last_digit (λ y. cond (eqb y 1) w 0 ≡ y * w) (omega arith) (omega arith) x

pub byte_sum : (b : ℕ) → b < 256 → b ≡ byte_of (mask_bit b)
byte_sum b h =
    omega (arith, weight (b / 1) 1, weight (b / 2) 2, weight (b / 4) 4, weight (b / 8) 8, weight (b / 16) 16, weight (b / 32) 32, weight (b / 64) 64, weight (b / 128) 128)

-- one digit flipped
digit_flipped : (b p q : ℕ) → eqb (bit_xor b (2 ^ p) / 2 ^ q % 2) 1 ≡ cond (eqb p q) (not (eqb (b / 2 ^ q % 2) 1)) (eqb (b / 2 ^ q % 2) 1)
digit_flipped b p q =
    let e : bit_xor b (2 ^ p) / 2 ^ q % 2 ≡ bit_xor (b / 2 ^ q % 2) (cond (eqb p q) 1 0) =
    ap (λ x. x % 2) (xor_shr b (2 ^ p) q) ∙ xor_mod (b / 2 ^ q) (2 ^ p / 2 ^ q) 1 ∙ ap (bit_xor (b / 2 ^ q % 2)) (digit p q) in
    rw e (last_digit (λ x. eqb (bit_xor x (cond (eqb p q) 1 0)) 1 ≡ cond (eqb p q) (not (eqb x 1)) (eqb x 1)) (clear (eqb p q)) (set_one (eqb p q)) (b / 2 ^ q))
  where
    clear : (t : Bool) → eqb (bit_xor 0 (cond t 1 0)) 1 ≡ cond t true false
    clear true = refl
    clear false = refl

    set_one : (t : Bool) → eqb (bit_xor 1 (cond t 1 0)) 1 ≡ cond t false true
    set_one true = refl
    set_one false = refl

module _ (b g : ℕ) (inside : within g 8 ≡ true) where
  abbrev flipped : ℕ
  flipped = bit_xor b (2 ^ (g - 1))

  bit_there : (h : ℕ) (w : Bool) → within h 8 ≡ w → eqb h g ≡ false → cond w (eqb (flipped / 2 ^ (h - 1) % 2) 1) true ≡ cond w (eqb (b / 2 ^ (h - 1) % 2) 1) true
  bit_there h true e n = let other : eqb (g - 1) (h - 1) ≡ false = grind (arith, nat_tests) in digit_flipped b (g - 1) (h - 1) ∙ cond-false _ _ _ other
  bit_there h false e n = refl

  bit_here : mask_bit flipped g ≡ not (mask_bit b g)
  bit_here = rw inside (digit_flipped b (g - 1) (g - 1) ∙ cond-true _ _ _ (eq-eqb (g - 1) (g - 1) refl))

  bit_at : (v : Bool) → v ≡ not (mask_bit b g) → (h : ℕ) (t : Bool) → eqb h g ≡ t → mask_bit flipped h ≡ cond t v (mask_bit b h)
  bit_at v other h true e = ap (mask_bit flipped) (eqb-true h g e) ∙ bit_here ∙ sym other
  bit_at v other h false e = bit_there h (within h 8) refl e

  bit_flipped : (v : Bool) → v ≡ not (mask_bit b g) → (h : ℕ) → mask_bit (bit_xor b (1 * 2 ^ (g - 1) % 256)) h ≡ cond (eqb h g) v (mask_bit b h)
  bit_flipped v other h = ap (λ x. mask_bit (bit_xor b x) h) (one_shl (g - 1) 8 (grind (arith, nat_tests))) ∙ bit_at v other h (eqb h g) refl

-- ---- the masks of the outputs

-- a flag that is not the same as another
pub differ : (a v : Bool) → beq a v ≡ false → v ≡ not a
differ true true e = absurd (true≢false e)
differ true false e = refl
differ false true e = refl
differ false false e = absurd (true≢false e)

-- a bit by numbers that a mask has, and by others
module _ (n m : ℕ) (f : ℕ → ℕ → Bool) (o g : ℕ) (v : Bool) where
  pub bit_put_inside : (within o n && within g m) ≡ true → put_bit_within n m f o g v ≡ put_bit f o g v
  bit_put_inside e = cond-true _ _ _ e

  pub other_inside : (within o n && within g m) ≡ true → is_other_within n m f o g v ≡ not (same v (f o g))
  other_inside e = ap (λ (b : Bool). b && not (same v (f o g))) e

-- a bit that is set to what it is
pub bit_kept : (f : ℕ → ℕ → Bool) (o g : ℕ) (v : Bool) → v ≡ f o g → f ≡ put_bit f o g v
bit_kept f o g v e = λ i j h. at j h (eqb j o) refl (eqb h g) refl i
  where
    at : (j h : ℕ) (s : Bool) → eqb j o ≡ s → (t : Bool) → eqb h g ≡ t → f j h ≡ cond s (cond t v (f j h)) (f j h)
    at j h true p true q = (λ i. f (eqb-true j o p i) (eqb-true h g q i)) ∙ sym e
    at j h true p false q = refl
    at j h false p t q = refl

-- the mask of an output is put with one bit flipped
module _ (masks : ℕ → ℕ) (o g b : ℕ) (read : b ≡ masks o) (output : within o 256 ≡ true) (group : within g 8 ≡ true) where
  abbrev after : ℕ
  after = bit_xor b (1 * 2 ^ (g - 1) % 256)

  pub bit_written : (v : Bool) → v ≡ not (mask_bit (masks o) g) → (λ j. mask_bit (put_within 256 masks o after j)) ≡ put_bit (λ j. mask_bit (masks j)) o g v
  bit_written v other = λ i j h. (ap (λ (f : ℕ → ℕ). mask_bit (f j) h) (put_inside 256 masks o after output) ∙ at j h (eqb j o) refl) i
    where
      at : (j h : ℕ) (s : Bool) → eqb j o ≡ s → mask_bit (cond s after (masks j)) h ≡ cond s (cond (eqb h g) v (mask_bit (masks j) h)) (mask_bit (masks j) h)
      at j h true e = bit_flipped b g group v (other ∙ ap (λ b. not (mask_bit b g)) (sym read)) h ∙ ap (λ b. cond (eqb h g) v (mask_bit b h)) (read ∙ ap masks (sym (eqb-true j o e)))
      at j h false e = refl
