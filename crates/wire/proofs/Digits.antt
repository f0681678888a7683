-- A number that was written is read as that number.
use Rattle.std.proofs.Common.{ℕ, arith}
use Rattle.std.proofs.lemmas.Bool.Decides.{nat_tests}
use Rattle.wire.specs.Fields.{DigitReadsBack, NumberReadsBack, HexReadsBack}

pub digit_back : (n : ℕ) → DigitReadsBack n
digit_back n h rest = grind (arith, nat_tests)

pub number_back : (n : ℕ) → NumberReadsBack n
number_back n h rest = grind (arith, nat_tests)

pub hex_back : (n : ℕ) → HexReadsBack n
hex_back n h rest = grind (arith, nat_tests)
