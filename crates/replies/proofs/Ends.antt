-- A reply by its first three bytes, its body and its last two bytes, as a slice pattern has them.
use Rattle.std.proofs.Common.{◌≡◌, ℕ, suc, ◌+◌, ◌-◌, ◌≤◌, List, [], ◌∷◌, ◌++◌, length, get_or, take, drop, Err, sym, ap, ◌∙◌, arith}
use Rattle.std.proofs.lemmas.List.{take_more}
use Rattle.std.proofs.lemmas.Bool.{eq-eqb, ne_eqb, le-leb, cond-true, cond-false}
use Rattle.wire.specs.Frames.{check_byte}
use Rattle.replies.specs.declared.reply.ReadFault.TheVariants.{NoEtx, WrongCheckByte}
use Rattle.replies.specs.Replies.{read_body, with_address, if_ended, read_reply}

abbrev body : List ℕ → List ℕ
body bytes = take (length bytes - 2 - 3) (drop 3 bytes)

abbrev etx : List ℕ → ℕ
etx bytes = get_or bytes (length bytes - 2) 0

abbrev check : List ℕ → ℕ
check bytes = get_or bytes (length bytes - 1) 0

-- a reply with at least five bytes is judged by its end
opened : (bytes : List ℕ) → 5 ≤ length bytes → if_ended (get_or bytes 0 0) (get_or bytes 1 0) (get_or bytes 2 0) (body bytes) (etx bytes) (check bytes) ≡ read_reply bytes
opened [] long = absurd (omega arith)
opened (c ∷ []) long = absurd (omega arith)
opened (c ∷ h ∷ []) long = absurd (omega arith)
opened (c ∷ h ∷ l ∷ rest) long =
    let bytes = c ∷ h ∷ l ∷ rest in
    let n : length bytes - 2 - 3 ≡ length rest - 2 = omega arith in
    let e : length bytes - 2 ≡ suc (suc (suc (length rest - 2))) = omega arith in
    let k : length bytes - 1 ≡ suc (suc (suc (length rest - 1))) = omega arith in
    (λ i. if_ended c h l (take (n i) rest) (get_or bytes (e i) 0) (get_or bytes (k i) 0)) ∙ sym (cond-true _ _ _ (le-leb 2 (length rest) (omega arith)))

-- all bytes but the last are header, address, body and ETX
but_last : (bytes : List ℕ) → 5 ≤ length bytes → take (length bytes - 1) bytes ≡ get_or bytes 0 0 ∷ get_or bytes 1 0 ∷ get_or bytes 2 0 ∷ body bytes ++ etx bytes ∷ []
but_last [] long = absurd (omega arith)
but_last (c ∷ []) long = absurd (omega arith)
but_last (c ∷ h ∷ []) long = absurd (omega arith)
but_last (c ∷ h ∷ l ∷ rest) long =
    let bytes = c ∷ h ∷ l ∷ rest in
    let k : length bytes - 1 ≡ suc (suc (suc (length rest - 2 + 1))) = omega arith in
    let n : length rest - 2 ≡ length bytes - 2 - 3 = omega arith in
    let e : suc (suc (suc (length rest - 2))) ≡ length bytes - 2 = omega arith in
    ap (λ (m : ℕ). take m bytes) k
    ∙ ap (λ (b : List ℕ). c ∷ h ∷ l ∷ b) (take_more rest (length rest - 2) 0 (omega arith))
    ∙ (λ i. c ∷ h ∷ l ∷ take (n i) rest ++ get_or bytes (e i) 0 ∷ [])

module _ (bytes : List ℕ) (long : 5 ≤ length bytes) where
  pub no_etx : (etx bytes ≡ 3 → ⊥) → Err NoEtx ≡ read_reply bytes
  no_etx other = sym (cond-false _ _ _ (ne_eqb (etx bytes) 3 other)) ∙ opened bytes long

  module _ (is_etx : etx bytes ≡ 3) where
    summed : check_byte (take (length bytes - 1) bytes) ≡ check_byte (get_or bytes 0 0 ∷ get_or bytes 1 0 ∷ get_or bytes 2 0 ∷ body bytes ++ 3 ∷ [])
    summed = ap check_byte (but_last bytes long) ∙ ap (λ (x : ℕ). check_byte (get_or bytes 0 0 ∷ get_or bytes 1 0 ∷ get_or bytes 2 0 ∷ body bytes ++ x ∷ [])) is_etx

    pub wrong_check : (check bytes ≡ check_byte (take (length bytes - 1) bytes) → ⊥) → Err WrongCheckByte ≡ read_reply bytes
    wrong_check other = sym (cond-false _ _ _ (ne_eqb (check bytes) _ (λ e. other (e ∙ sym summed)))) ∙ sym (cond-true _ _ _ (eq-eqb (etx bytes) 3 is_etx)) ∙ opened bytes long

    pub right_check : check bytes ≡ check_byte (take (length bytes - 1) bytes) → with_address (get_or bytes 1 0) (get_or bytes 2 0) (read_body (get_or bytes 0 0) (body bytes)) ≡ read_reply bytes
    right_check same = sym (cond-true _ _ _ (eq-eqb (check bytes) _ (same ∙ summed))) ∙ sym (cond-true _ _ _ (eq-eqb (etx bytes) 3 is_etx)) ∙ opened bytes long
