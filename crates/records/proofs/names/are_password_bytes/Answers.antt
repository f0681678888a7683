use Rattle.std.proofs.Common.{◌&&◌, not, eqb, leb, ◌∙◌, rules}
use Rattle.std.proofs.lemmas.Iterator.{YieldsList-from_slice}
use Rattle.std.proofs.lemmas.Iterator.Search.{all_from_yields_List}
use Rattle.records.proofs.Lists.{list_all-every}
use Rattle.records.proofs.names.are_password_bytes.Goals as goal

pub returns : goal.returns
returns c = all_from_yields_List (λ b. leb 0x20 b && (leb b 0x7E && not (eqb b 58))) _ _ _ c.all.ensures.ran (YieldsList-from_slice c.args.password.now cc) (λ x b q k. search rules) ∙ list_all-every (λ b. leb 0x20 b && (leb b 0x7E && not (eqb b 58))) c.args.password.now
