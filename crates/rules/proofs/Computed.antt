-- The worked cases and the examples, by computation.
use Rattle.std.proofs.Common.{[], ◌∷◌, refl, arith}
use Rattle.rules.specs.Calls.{along, ending}
use Rattle.rules.specs.Table.{table, receiver_after}
use Rattle.rules.specs.History.{accepted_in}
use Rattle.rules.specs.Cases.{WorkedCases, answers_to}
use Rattle.rules.specs.Examples.{PacketExamples, ChangeExamples, EthernetExamples, RightExamples, CallExamples, BoundExamples, TableExamples, LawExamples, results, table_after, accepted_after, inputs_after}

pub worked : WorkedCases
unfolding answers_to ending
worked = record { empty_queue = refl; already_so = refl; no_entry = refl; locked = refl; set_of_locked = refl; flags_after_change = refl; wrong_check_byte = refl; not_addressed = refl; check_byte_02 = refl }

pub packet_examples : PacketExamples
unfolding answers_to
packet_examples = record { check_02 = refl; started_over = refl; after_gap = refl; gap_elsewhere = refl; listed_29 = refl; listed_30 = refl; listed_40_wrong = refl; one_listed = refl; no_command = refl; for_all = refl; small_letters = refl; not_listed = refl; wrong_amounts = refl; no_digit = refl; ranges = refl; shown = refl }

pub change_examples : ChangeExamples
unfolding answers_to
change_examples = record { overrun = refl; own_input_of_locked = refl; lock_routes = refl; unlock_keeps_input = refl; not_made = refl; locked_before_made = refl }

pub ethernet_examples : EthernetExamples
unfolding answers_to
ethernet_examples = record { locked_out = refl; locked_out_too = refl; range_first = refl; new_password = refl }

pub right_examples : RightExamples
unfolding answers_to
right_examples = record { logins = refl; smallest_user = refl; name_of_now = refl; mask_by_user_1 = refl; mask_flag = refl; hung_up = refl; flags_stay = refl; access = refl }

pub call_examples : CallExamples
unfolding answers_to results ending
call_examples = record { buffer_first = refl; nothing_written = refl; beyond_the_reply = refl; refused_byte_is_not_heard = refl; panel_order = refl; panel_locks = refl; users = refl }

pub bound_examples : BoundExamples
unfolding answers_to results
bound_examples = record { sizes = refl; panel_sizes = refl; masks = refl; last_user = refl; range_first = refl; other_password = refl; letters = refl }

pub table_examples : TableExamples
unfolding table_after accepted_after receiver_after
table_examples = record { learned = refl; after_queue = refl; after_eight = refl; refused_tells_nothing = refl; all_accepted = refl }

pub law_examples : LawExamples
unfolding table_after inputs_after along ending table accepted_in receiver_after
law_examples = record {
  out_of_date = refl;
  inputs_are = refl;
  short_answer = record { entries = record { output = 2; input = 5 } ∷ record { output = 3; input = 7 } ∷ []; asked = refl; told = refl; few = omega arith };
  made_true = refl;
  was_accepted = refl;
  named_are = refl;
}
