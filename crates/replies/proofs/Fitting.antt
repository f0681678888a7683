-- The test of a reply is passed exactly if its numbers fit their places; what was written is what the test says, and its body is short.
use Rattle.std.proofs.Common.{◌≡◌, ℕ, ◌≤◌, Bool, true, false, cond, ◌&&◌, ltb, leb, List, length, Some, None, Decides, sym, refl, arith}
use Rattle.std.specs.List.{AllByRecursion}
use Rattle.std.proofs.lemmas.Bool.{leb-true, le-leb, cond-true}
use Rattle.std.proofs.lemmas.Bool.Decides.{Decides-and, Decides-ltb, Decides-like}
use Rattle.std.proofs.ByRecursion.{Decides-by_and}
use Rattle.replies.specs.declared.change.Change.{Change}
use Rattle.replies.specs.Replies.{Contents, keypad_locked, keypad_unlocked, output_locked, output_set, output_unlocked, ethernet_changed, mask_set, flags, version, keypad_state, feeding_input, status, changes, login, logged_in, Reply, ack, nak, contents_bytes, longest_body, reply_bytes, small_change, all_small, fits_contents, fits_reply, SmallChange, FitsContents, Fits, TestTellsWhatFits, RepliesAreShort}
use Rattle.replies.specs.Replying.{written_if}
use Rattle.replies.proofs.Entries.{entries-length, small}

decides_leb : (a b : ℕ) → Decides (leb a b) (a ≤ b)
decides_leb a b = (leb-true a b, le-leb a b)

always : Decides true (Unit {0})
always = (λ _. tt, λ _. refl)

each_small : (cs : List Change) → Decides (all_small cs) (AllByRecursion SmallChange cs)
each_small cs = Decides-by_and small_change SmallChange all_small small refl (λ _ _. refl) cs

contents_test : (c : Contents) → Decides (fits_contents c) (FitsContents c)
contents_test keypad_locked = always
contents_test keypad_unlocked = always
contents_test output_locked = always
contents_test output_set = always
contents_test output_unlocked = always
contents_test ethernet_changed = always
contents_test mask_set = always
contents_test (flags e m v) = always
contents_test (version i o) = Decides-and (ltb i 1000) (ltb o 1000) (Decides-ltb i 1000) (Decides-ltb o 1000)
contents_test (keypad_state l) = always
contents_test (feeding_input i) = Decides-ltb i 1000
contents_test (status i l m) = Decides-and (ltb i 1000) (ltb m 256) (Decides-ltb i 1000) (Decides-ltb m 256)
contents_test (changes cs) = Decides-and (leb (length cs) 8) (all_small cs) (decides_leb (length cs) 8) (each_small cs)
contents_test (login u g n) =
    let behind = Decides-and (ltb g 10) (leb (length n) 10) (Decides-ltb g 10) (decides_leb (length n) 10) in
    Decides-like (ltb u 10 && (ltb g 10 && leb (length n) 10)) (λ h. (h.0, h.1.0, h.1.1)) (λ h. (h.0, (h.1, h.2))) (Decides-and (ltb u 10) (ltb g 10 && leb (length n) 10) (Decides-ltb u 10) behind)
contents_test (logged_in u g) = Decides-and (ltb u 10) (ltb g 10) (Decides-ltb u 10) (Decides-ltb g 10)

pub test_tells : (r : Reply) → TestTellsWhatFits r
test_tells (ack c) = contents_test c
test_tells (nak x) = always

pub written : (h l : ℕ) (r : Reply) → Fits r → Some (reply_bytes h l r) ≡ written_if h l r
written h l r fit = sym (cond-true _ _ _ ((test_tells r).1 fit))

pub refused : (h l : ℕ) (r : Reply) → (Fits r → ⊥) → None ≡ written_if h l r
refused h l r unfit = by (fits_reply r) (test_tells r).0
  where
    by : (b : Bool) → (b ≡ true → Fits r) → None ≡ cond b (Some (reply_bytes h l r)) None
    by true fit = absurd (unfit (fit refl))
    by false fit = refl

short_contents : (c : Contents) → FitsContents c → length (contents_bytes c) ≤ longest_body
short_contents keypad_locked f = omega arith
short_contents keypad_unlocked f = omega arith
short_contents output_locked f = omega arith
short_contents output_set f = omega arith
short_contents output_unlocked f = omega arith
short_contents ethernet_changed f = omega arith
short_contents mask_set f = omega arith
short_contents (flags e m v) f = omega arith
short_contents (version i o) f = omega arith
short_contents (keypad_state l) f = omega arith
short_contents (feeding_input i) f = omega arith
short_contents (status i l m) f = omega arith
short_contents (changes cs) f = omega (arith, entries-length cs, f.0)
short_contents (login u g n) f = omega (arith, f.2)
short_contents (logged_in u g) f = omega arith

pub short : (r : Reply) → RepliesAreShort r
short (ack c) f = short_contents c f
short (nak x) f = omega arith
