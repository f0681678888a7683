-- The first byte that is a colon cuts the bytes in two.
use Rattle.std.proofs.Common.{◌≡◌, sym, ap, ◌∙◌, rules, tests, eqb}
use Rattle.std.proofs.lemmas.List.{take_rest}
use Rattle.std.proofs.lemmas.Iterator.{YieldsList-from_slice}
use Rattle.std.proofs.lemmas.Iterator.Search.{position_from_yields_List}
use Rattle.packets.specs.Data.{at_colon, colon}
use Rattle.packets.specs.Decoding.{two_parts}
use Rattle.packets.proofs.Colons.{around, around_colon}
use Rattle.packets.proofs.command.data_bytes.at_colon.Goals.{After-position}
use Rattle.packets.proofs.command.data_bytes.at_colon.Goals as goal

around_found : (c : After-position) → around c.args.s.now c.position.result ≡ at_colon c.args.s.now
around_found c = around_colon c.args.s.now c.position.result (position_from_yields_List (λ b. eqb b colon) _ _ _ c.position.ensures.ran (YieldsList-from_slice _ c.iter.ensures.rest) (λ x b q k. search (rules, tests)))

pub returns-in_err-i : goal.returns-in_err-i
returns-in_err-i c = ap two_parts c.from_residual.ensures ∙ ap (around c.args.s.now) (sym c.in_err-i.was) ∙ around_found (goal.at.returns-in_err-i c).After-position

pub returns : goal.returns
returns c = rw take_rest (ap (around c.args.s.now) (sym c.in_ok-i.was) ∙ around_found (goal.at.returns c).After-position)
