use Rattle.rules.proofs.Computed.{packet_examples, change_examples, ethernet_examples, right_examples, call_examples, bound_examples, table_examples, law_examples}
use Rattle.rules.proofs.examples.Goals as goal

pub returns : goal.returns
returns c = record { packet = packet_examples; change = change_examples; ethernet = ethernet_examples; right = right_examples; call = call_examples; bound = bound_examples; table = table_examples; law = law_examples }
