-- Examples on the rules that are easily got wrong, each computed.
--
--   with_check_byte c xs    c, the bytes xs, ETX and the check byte of all these
--   ask p t                 the packet with the text t for address 00, at the port p
--   ack_00 t, nak_00 t      the replies ACK and NAK with address 00 and the text t
--   flagged b               the reply to C with the byte b
--   answers_of, results     what the calls returned
--   left_in s c xs          what the byte call c leaves in a buffer that held xs
--   access_on, bad_pairs    a unit with access control on; a unit over a card with two pairs that cannot be made
--   PacketExamples          receiver, address, letters and data
--   nine_changes            calls that overrun every queue
--   ChangeExamples          changes, locks, pairs
--   EthernetExamples        the Ethernet lock and its password
--   two_users               calls that enter two users
--   RightExamples           logins, masks, access control
--   CallExamples            numbers of the calls, and their order
--   uneven                  a unit over a card of four inputs and six outputs
--   BoundExamples           ranges, each with the number on either side
--   shown_table, shown_inputs   a table, and the feeding inputs, at the outputs 1 to 8
--   table_after, inputs_after, accepted_after   a port's table, the feeding inputs, and what was accepted, after some calls
--   TableExamples           tables and what was accepted
--   before_q, at_q          a run in which port 1 learns two inputs, which then change, up to the last byte of its Q; its history
--   q_event                 that byte
--   LawExamples             a run in which a short Q answer makes a table true that was not
use Rattle.std.specs.Prelude.{◌≡◌, ℕ, true, false, not, ◌&&◌, List, [], ◌∷◌, ◌++◌, reverse, replicate, Some, None, Ok, Err, codes, Option, Result, ◌==◌}
use Prim.Native.String.{String}
use Rattle.wire.specs.Frames.{check_byte, written}
use Rattle.fabric.specs.Cards.{new_card}
use Rattle.rules.specs.State.{State, service, feeding}
use Rattle.rules.specs.declared.port.Port.{Port}
use Rattle.rules.specs.declared.port.Port.TheVariants.{One}
use Rattle.rules.specs.declared.refusal.Refusal.{Refusal}
use Rattle.rules.specs.declared.refusal.Refusal.TheVariants.{ShortBuffer, NoSuchPort, NoSuchOutput, NoSuchInput, KeypadLocked, OutputLocked, CannotBeMade, WrongUser}
use Rattle.rules.specs.Calls.{Call, byte, gap, hang_up, panel_set, panel_lock, panel_unlock, enter_user, Event, event_at, along, ending, transcript, final, step}
use Rattle.rules.specs.Table.{table}
use Rattle.rules.specs.History.{accepted_in, Accepted, was_set, was_locked, was_unlocked, named}
use Rattle.rules.specs.Laws.{ShortQueueAnswer}
use Rattle.rules.specs.Cases.{bytes_at, answers_to, small, wide}

abbrev pub with_check_byte : ℕ → List ℕ → List ℕ
with_check_byte c xs = c ∷ xs ++ 0x03 ∷ check_byte (c ∷ xs ++ 0x03 ∷ []) ∷ []

abbrev pub ask : ℕ → String → List Call
ask p t = bytes_at p (with_check_byte 0x02 (codes "00" ++ codes t))

abbrev pub ack_00 : String → List ℕ
ack_00 t = with_check_byte 0x06 (codes "00" ++ codes t)

abbrev pub nak_00 : String → List ℕ
nak_00 t = with_check_byte 0x15 (codes "00" ++ codes t)

-- the reply to C
abbrev pub flagged : ℕ → List ℕ
flagged b = with_check_byte 0x06 (codes "00C" ++ b ∷ [])

abbrev pub answers_of : List Event → List (Result ℕ Refusal)
answers_of [] = []
answers_of (e ∷ es) = e.answer.result ∷ answers_of es

unfoldable pub results : State → List Call → List (Result ℕ Refusal)
unfolding along
results s cs = answers_of (transcript s cs)

-- what a byte call leaves in a buffer that held xs
abbrev pub left_in : State → Call → List ℕ → List ℕ
left_in s c xs = written (step s c).answer.reply xs

-- the same unit with access control on
abbrev pub access_on : State
access_on = service 0x00 true (new_card 8 8)

-- a card that cannot make output 2 to input 3, nor output 1 to the input that it starts on
abbrev pub bad_pairs : State
bad_pairs = service 0x00 false (record {
  inputs = 8;
  outputs = 8;
  feeding = (new_card 8 8).feeding;
  makeable = λ o i. (new_card 8 8).makeable o i && not (o == 2 && i == 3) && not (o == 1 && i == 1);
})

pub record PacketExamples : Type 0 where
  -- 02 as a wrong check byte ends the packet, and starts none
  pub check_02 : answers_to small (bytes_at 1 (0x02 ∷ 0x30 ∷ 0x30 ∷ 0x51 ∷ 0x03 ∷ 0x02 ∷ 0x30 ∷ 0x30 ∷ 0x51 ∷ 0x03 ∷ 0x50 ∷ [])) ≡ nak_00 "x" ∷ []
  pub started_over : answers_to small (bytes_at 1 (0x02 ∷ 0x30 ∷ 0x31 ∷ []) ++ ask 1 "Q") ≡ ack_00 "Q0" ∷ []
  pub after_gap : answers_to small (bytes_at 1 (0x02 ∷ 0x30 ∷ 0x30 ∷ 0x51 ∷ []) ++ gap 1 ∷ bytes_at 1 (0x03 ∷ 0x50 ∷ [])) ≡ []
  pub gap_elsewhere : answers_to small (bytes_at 1 (0x02 ∷ 0x30 ∷ 0x30 ∷ 0x51 ∷ []) ++ gap 2 ∷ bytes_at 1 (0x03 ∷ 0x50 ∷ [])) ≡ ack_00 "Q0" ∷ []
  -- 29 listed bytes are judged by their command, and 30 are not; a wrong check byte comes before both
  pub listed_29 : answers_to small (bytes_at 1 (with_check_byte 0x02 (replicate 29 0x30))) ≡ nak_00 "c" ∷ []
  pub listed_30 : answers_to small (bytes_at 1 (with_check_byte 0x02 (replicate 30 0x30))) ≡ nak_00 "i" ∷ []
  pub listed_40_wrong : answers_to small (bytes_at 1 (0x02 ∷ replicate 40 0x30 ++ 0x03 ∷ 0x55 ∷ [])) ≡ nak_00 "x" ∷ []
  pub one_listed : answers_to small (bytes_at 1 (with_check_byte 0x02 (codes "0"))) ≡ []
  pub no_command : answers_to small (ask 1 "") ≡ nak_00 "c" ∷ []
  pub for_all : answers_to small (bytes_at 1 (with_check_byte 0x02 (codes "FFQ"))) ≡ with_check_byte 0x06 (codes "FFQ0") ∷ []
  pub small_letters : answers_to wide (bytes_at 1 (with_check_byte 0x02 (codes "c0Q"))) ≡ []
  -- letters and data
  pub not_listed : answers_to small (ask 1 "K" ++ ask 1 "EL" ++ ask 1 "c" ++ ask 1 "X") ≡ nak_00 "c" ∷ nak_00 "c" ∷ nak_00 "c" ∷ nak_00 "c" ∷ []
  pub wrong_amounts : answers_to small (ask 1 "Q0" ++ ask 1 "O01" ++ ask 1 "OS" ++ ask 1 "S0010011" ++ ask 1 "ELP12345678901") ≡ nak_00 "i" ∷ nak_00 "i" ∷ nak_00 "i" ∷ nak_00 "i" ∷ nak_00 "i" ∷ []
  pub no_digit : answers_to small (ask 1 "O0:1" ++ ask 1 "ZA;1:1:001" ++ ask 1 "ZI:A" ++ ask 1 "ZI::") ≡ nak_00 "i" ∷ nak_00 "i" ∷ nak_00 "i" ∷ nak_00 "i" ∷ []
  pub ranges : answers_to small (ask 1 "O008" ++ ask 1 "O009" ++ ask 1 "O000" ++ ask 1 "U001009" ++ ask 1 "ZA:9:1:001" ++ ask 1 "ZA:1:2:001") ≡ ack_00 "O001" ∷ nak_00 "d" ∷ nak_00 "d" ∷ nak_00 "d" ∷ nak_00 "d" ∷ nak_00 "d" ∷ []
  pub shown : answers_to small (ask 1 "F" ++ ask 1 "OS008" ++ ask 1 "KS" ++ ask 1 "KL" ++ ask 1 "KS" ++ ask 1 "KU" ++ ask 1 "ZC") ≡ ack_00 "Fv1.00 Pv2.15 XPC1000/008X008" ∷ ack_00 "OS001UFF" ∷ ack_00 "KSU" ∷ ack_00 "KL" ∷ ack_00 "KSL" ∷ ack_00 "KU" ∷ ack_00 "ZC:0:0:" ∷ []

abbrev pub nine_changes : List Call
nine_changes = panel_set 1 2 ∷ panel_set 2 2 ∷ panel_set 3 2 ∷ panel_set 4 2 ∷ panel_set 5 2 ∷ panel_set 6 2 ∷ panel_set 7 2 ∷ panel_set 8 2 ∷ panel_set 1 3 ∷ []

pub record ChangeExamples : Type 0 where
  pub overrun : answers_to small (nine_changes ++ ask 2 "C" ++ ask 2 "C" ++ ask 2 "Q" ++ ask 2 "C" ++ ask 2 "Q" ++ ask 3 "C")
      ≡ flagged 0x89 ∷ flagged 0x89 ∷ ack_00 "Q8001002002002003002004002005002006002007002008002" ∷ flagged 0x80 ∷ ack_00 "Q0" ∷ flagged 0x89 ∷ []
  pub own_input_of_locked : answers_to small (ask 1 "L005001" ++ ask 1 "S005001" ++ ask 1 "L005002" ++ ask 1 "L005001" ++ ask 1 "Q") ≡ ack_00 "L" ∷ nak_00 "k" ∷ nak_00 "k" ∷ ack_00 "L" ∷ ack_00 "Q1005001" ∷ []
  pub lock_routes : answers_to small (ask 1 "L005003" ++ ask 2 "Q" ++ ask 1 "OS005") ≡ ack_00 "L" ∷ ack_00 "Q1005003" ∷ ack_00 "OS003LFF" ∷ []
  pub unlock_keeps_input : answers_to small (ask 1 "L005003" ++ ask 1 "U005001" ++ ask 1 "U005001" ++ ask 3 "Q") ≡ ack_00 "L" ∷ ack_00 "U" ∷ ack_00 "U" ∷ ack_00 "Q2005003005003" ∷ []
  pub not_made : answers_to bad_pairs (ask 1 "S002003" ++ ask 1 "L002003" ++ ask 1 "U002003" ++ ask 1 "S001001" ++ ask 1 "Q" ++ ask 1 "O002") ≡ nak_00 "f" ∷ nak_00 "f" ∷ ack_00 "U" ∷ nak_00 "f" ∷ ack_00 "Q0" ∷ ack_00 "O001" ∷ []
  pub locked_before_made : answers_to bad_pairs (ask 1 "L002002" ++ ask 1 "S002003") ≡ ack_00 "L" ∷ nak_00 "k" ∷ []

pub record EthernetExamples : Type 0 where
  pub locked_out : answers_to small (ask 1 "ELE" ++ ask 2 "C" ++ ask 2 "F" ++ ask 2 "KL" ++ ask 2 "KS" ++ ask 2 "KU" ++ ask 2 "L001002" ++ ask 2 "O001" ++ ask 2 "OS001" ++ ask 2 "Q")
      ≡ ack_00 "EL" ∷ nak_00 "C" ∷ nak_00 "F" ∷ nak_00 "K" ∷ nak_00 "K" ∷ nak_00 "K" ∷ nak_00 "L" ∷ nak_00 "O" ∷ nak_00 "O" ∷ nak_00 "Q" ∷ []
  pub locked_out_too : answers_to small (ask 1 "ELE" ++ ask 2 "S001002" ++ ask 2 "U001002" ++ ask 2 "ELE" ++ ask 2 "ELP" ++ ask 2 "ZA:1:1:001" ++ ask 2 "ZC" ++ ask 2 "ZI:A:" ++ ask 1 "S001002" ++ ask 3 "S001003")
      ≡ ack_00 "EL" ∷ nak_00 "S" ∷ nak_00 "U" ∷ nak_00 "E" ∷ nak_00 "E" ∷ nak_00 "Z" ∷ nak_00 "Z" ∷ nak_00 "Z" ∷ ack_00 "S" ∷ ack_00 "S" ∷ []
  pub range_first : answers_to small (ask 2 "ELE" ++ ask 2 "S009001" ++ ask 2 "ELDquintech" ++ ask 2 "ELDQuintech" ++ ask 2 "S001002") ≡ ack_00 "EL" ∷ nak_00 "d" ∷ nak_00 "d" ∷ ack_00 "EL" ∷ ack_00 "S" ∷ []
  pub new_password : answers_to small (ask 1 "ELP" ++ ask 1 "ELDQuintech" ++ ask 1 "ELD") ≡ ack_00 "EL" ∷ nak_00 "d" ∷ ack_00 "EL" ∷ []

abbrev pub two_users : List Call
two_users = enter_user 1 (codes "Ann") (codes "a b") ∷ enter_user 2 (codes "Bob") [] ∷ []

pub record RightExamples : Type 0 where
  pub logins : answers_to small (two_users ++ ask 1 "ZI:Ann:a" ++ ask 1 "ZI:Ann:a b" ++ ask 1 "ZC" ++ ask 1 "ZI:Bob:" ++ ask 1 "ZC" ++ ask 3 "ZC") ≡ nak_00 "g" ∷ ack_00 "ZI:1:1" ∷ ack_00 "ZC:1:1:Ann" ∷ ack_00 "ZI:2:2" ∷ ack_00 "ZC:2:2:Bob" ∷ ack_00 "ZC:0:0:" ∷ []
  pub smallest_user : answers_to small (two_users ++ enter_user 3 (codes "Ann") (codes "a b") ∷ ask 1 "ZI:Ann:a b") ≡ ack_00 "ZI:1:1" ∷ []
  pub name_of_now : answers_to small (two_users ++ ask 1 "ZI:Bob:" ++ enter_user 2 [] [] ∷ ask 1 "ZC") ≡ ack_00 "ZI:2:2" ∷ ack_00 "ZC:2:2:" ∷ []
  pub mask_by_user_1 : answers_to small (two_users ++ ask 1 "ZA:1:0:005" ++ ask 1 "ZI:Bob:" ++ ask 1 "ZA:1:0:005" ++ ask 1 "ZI:Ann:a b" ++ ask 1 "ZA:8:0:005" ++ ask 1 "OS005") ≡ nak_00 "g" ∷ ack_00 "ZI:2:2" ∷ nak_00 "g" ∷ ack_00 "ZI:1:1" ∷ ack_00 "ZA" ∷ ack_00 "OS001U7F" ∷ []
  pub mask_flag : answers_to small (two_users ++ ask 1 "ZI:Ann:a b" ++ ask 1 "ZA:8:1:005" ++ ask 1 "C" ++ ask 1 "ZA:8:0:005" ++ ask 1 "C" ++ ask 1 "Q" ++ ask 1 "C" ++ ask 3 "C") ≡ ack_00 "ZI:1:1" ∷ ack_00 "ZA" ∷ flagged 0x80 ∷ ack_00 "ZA" ∷ flagged 0x84 ∷ ack_00 "Q0" ∷ flagged 0x80 ∷ flagged 0x84 ∷ []
  pub hung_up : answers_to small (two_users ++ ask 1 "ZI:Ann:a b" ++ ask 1 "S001002" ++ gap 1 ∷ ask 1 "ZC" ++ hang_up 1 ∷ ask 1 "ZC" ++ ask 1 "Q") ≡ ack_00 "ZI:1:1" ∷ ack_00 "S" ∷ ack_00 "ZC:1:1:Ann" ∷ ack_00 "ZC:0:0:" ∷ ack_00 "Q1001002" ∷ []
  pub flags_stay : answers_to small (two_users ++ ask 1 "ZI:Ann:a b" ++ ask 1 "ZA:8:0:005" ++ nine_changes ++ hang_up 3 ∷ ask 3 "C") ≡ ack_00 "ZI:1:1" ∷ ack_00 "ZA" ∷ flagged 0x8D ∷ []
  pub access : answers_to access_on (two_users ++ ask 1 "S001002" ++ ask 1 "ZI:Bob:" ++ ask 1 "S001002" ++ ask 3 "ZI:Ann:a b" ++ ask 3 "ZA:2:0:001" ++ ask 1 "L001002" ++ ask 1 "U001002" ++ ask 1 "O001" ++ ask 1 "S002002" ++ panel_set 1 5 ∷ ask 1 "O001")
      ≡ nak_00 "g" ∷ ack_00 "ZI:2:2" ∷ ack_00 "S" ∷ ack_00 "ZI:1:1" ∷ ack_00 "ZA" ∷ nak_00 "g" ∷ nak_00 "g" ∷ ack_00 "O002" ∷ ack_00 "S" ∷ ack_00 "O005" ∷ []

pub record CallExamples : Type 0 where
  pub buffer_first : results small (byte 9 0x02 63 ∷ byte 4 0x02 64 ∷ byte 0 0x02 64 ∷ gap 4 ∷ hang_up 0 ∷ gap 3 ∷ hang_up 2 ∷ [])
      ≡ Err ShortBuffer ∷ Err NoSuchPort ∷ Err NoSuchPort ∷ Err NoSuchPort ∷ Err NoSuchPort ∷ Ok 0 ∷ Ok 0 ∷ []
  pub nothing_written : left_in small (byte 9 0x02 3) (1 ∷ 2 ∷ 3 ∷ []) ≡ 1 ∷ 2 ∷ 3 ∷ []
  pub beyond_the_reply : left_in (final small (bytes_at 1 (0x02 ∷ 0x30 ∷ 0x30 ∷ 0x51 ∷ 0x03 ∷ []))) (byte 1 0x50 70) (replicate 70 9) ≡ ack_00 "Q0" ++ replicate 63 9
  pub refused_byte_is_not_heard : answers_to small (bytes_at 1 (0x02 ∷ 0x30 ∷ 0x30 ∷ 0x51 ∷ []) ++ byte 1 0x02 0 ∷ bytes_at 1 (0x03 ∷ 0x50 ∷ [])) ≡ ack_00 "Q0" ∷ []
  pub panel_order : results bad_pairs (ask 1 "L005001" ++ ask 1 "KL" ++ panel_set 9 9 ∷ panel_set 5 9 ∷ panel_lock 0 1 ∷ panel_unlock 5 9 ∷ panel_set 5 1 ∷ panel_unlock 5 1 ∷ [])
      ≡ Ok 0 ∷ Ok 0 ∷ Ok 0 ∷ Ok 0 ∷ Ok 0 ∷ Ok 0 ∷ Ok 0 ∷ Ok 0 ∷ Ok 0 ∷ Ok 0 ∷ Ok 0 ∷ Ok 6 ∷ Ok 0 ∷ Ok 0 ∷ Ok 0 ∷ Ok 0 ∷ Ok 0 ∷ Ok 0 ∷ Ok 7
      ∷ Err NoSuchOutput ∷ Err NoSuchInput ∷ Err NoSuchOutput ∷ Err NoSuchInput ∷ Err KeypadLocked ∷ Err KeypadLocked ∷ []
  pub panel_locks : results bad_pairs (panel_lock 2 2 ∷ panel_set 2 2 ∷ panel_set 2 3 ∷ panel_lock 2 3 ∷ panel_lock 2 2 ∷ panel_unlock 2 7 ∷ panel_set 2 3 ∷ panel_lock 2 3 ∷ panel_unlock 2 3 ∷ panel_set 2 4 ∷ [])
      ≡ Ok 0 ∷ Err OutputLocked ∷ Err OutputLocked ∷ Err OutputLocked ∷ Ok 0 ∷ Ok 0 ∷ Err CannotBeMade ∷ Err CannotBeMade ∷ Ok 0 ∷ Ok 0 ∷ []
  pub users : results small (enter_user 0 [] [] ∷ enter_user 9 [] [] ∷ enter_user 8 [] [] ∷ enter_user 1 (codes "1a") [] ∷ enter_user 1 (codes "a1") [] ∷ enter_user 1 (codes "a b") [] ∷ enter_user 1 (codes "abcdefghij") [] ∷ enter_user 1 (codes "abcdefghijk") [] ∷ enter_user 1 (codes "a") (codes "0123456789") ∷ enter_user 1 (codes "a") (codes "01234567890") ∷ enter_user 1 (codes "a") (codes "a:b") ∷ enter_user 1 (codes "a") (codes " ~") ∷ enter_user 1 (codes "a") (0x7F ∷ []) ∷ enter_user 1 (codes "a") (0x1F ∷ []) ∷ [])
      ≡ Err WrongUser ∷ Err WrongUser ∷ Ok 0 ∷ Err WrongUser ∷ Ok 0 ∷ Err WrongUser ∷ Ok 0 ∷ Err WrongUser ∷ Ok 0 ∷ Err WrongUser ∷ Err WrongUser ∷ Ok 0 ∷ Err WrongUser ∷ Err WrongUser ∷ []

-- a unit over a card of four inputs and six outputs
abbrev pub uneven : State
uneven = service 0x00 false (new_card 4 6)

pub record BoundExamples : Type 0 where
  -- inputs and outputs have bounds of their own
  pub sizes : answers_to uneven (ask 1 "F" ++ ask 1 "S005004" ++ ask 1 "S004005" ++ ask 1 "L006001" ++ ask 1 "L007001" ++ ask 1 "U006004" ++ ask 1 "U006005" ++ ask 1 "O006" ++ ask 1 "O007" ++ ask 1 "OS006" ++ ask 1 "OS007")
      ≡ ack_00 "Fv1.00 Pv2.15 XPC1000/004X006" ∷ ack_00 "S" ∷ nak_00 "d" ∷ ack_00 "L" ∷ nak_00 "d" ∷ ack_00 "U" ∷ nak_00 "d" ∷ ack_00 "O001" ∷ nak_00 "d" ∷ ack_00 "OS001UFF" ∷ nak_00 "d" ∷ []
  pub panel_sizes : results uneven (panel_set 5 4 ∷ panel_set 4 5 ∷ panel_lock 6 4 ∷ panel_lock 7 1 ∷ panel_unlock 6 5 ∷ panel_unlock 7 4 ∷ [])
      ≡ Ok 0 ∷ Err NoSuchInput ∷ Ok 0 ∷ Err NoSuchOutput ∷ Err NoSuchInput ∷ Err NoSuchOutput ∷ []
  pub masks : answers_to uneven (enter_user 1 (codes "Ann") [] ∷ ask 1 "ZI:Ann:" ++ ask 1 "ZA:0:0:001" ++ ask 1 "ZA:1:0:006" ++ ask 1 "ZA:1:0:007" ++ ask 1 "ZA:9:0:001" ++ ask 1 "ZA:2:0:006" ++ ask 1 "OS006")
      ≡ ack_00 "ZI:1:1" ∷ nak_00 "d" ∷ ack_00 "ZA" ∷ nak_00 "d" ∷ nak_00 "d" ∷ ack_00 "ZA" ∷ ack_00 "OS001UFC" ∷ []
  pub last_user : answers_to small (enter_user 8 (codes "Hal") [] ∷ ask 3 "ZI:Hal:" ++ ask 3 "ZC") ≡ ack_00 "ZI:8:8" ∷ ack_00 "ZC:8:8:Hal" ∷ []
  -- a range is asked before the Ethernet lock, by every command that has one
  pub range_first : answers_to small (ask 1 "ELE" ++ ask 2 "L009001" ++ ask 2 "O009" ++ ask 2 "OS009" ++ ask 2 "S009001" ++ ask 2 "U009001" ++ ask 2 "ZA:9:1:001")
      ≡ ack_00 "EL" ∷ nak_00 "d" ∷ nak_00 "d" ∷ nak_00 "d" ∷ nak_00 "d" ∷ nak_00 "d" ∷ nak_00 "d" ∷ []
  pub other_password : answers_to small (ask 1 "ELPabc" ++ ask 1 "ELE" ++ ask 2 "ELDQuintech" ++ ask 2 "ELDabc" ++ ask 2 "Q") ≡ ack_00 "EL" ∷ ack_00 "EL" ∷ nak_00 "d" ∷ ack_00 "EL" ∷ ack_00 "Q0" ∷ []
  -- the bytes on either side of the letters and digits
  pub letters : results small (enter_user 1 (codes "A") [] ∷ enter_user 1 (codes "Z") [] ∷ enter_user 1 (codes "a") [] ∷ enter_user 1 (codes "z") [] ∷ enter_user 1 (codes "@") [] ∷ enter_user 1 (codes "[") [] ∷ enter_user 1 (codes "`") [] ∷ enter_user 1 (codes "{") [] ∷ enter_user 1 (codes "a0") [] ∷ enter_user 1 (codes "a9") [] ∷ enter_user 1 (codes "a/") [] ∷ enter_user 1 (codes "a:") [] ∷ [])
      ≡ Ok 0 ∷ Ok 0 ∷ Ok 0 ∷ Ok 0 ∷ Err WrongUser ∷ Err WrongUser ∷ Err WrongUser ∷ Err WrongUser ∷ Ok 0 ∷ Ok 0 ∷ Err WrongUser ∷ Err WrongUser ∷ []

-- a table at the outputs 1 to 8
abbrev pub shown_table : (ℕ → Option ℕ) → List (Option ℕ)
shown_table t = t 1 ∷ t 2 ∷ t 3 ∷ t 4 ∷ t 5 ∷ t 6 ∷ t 7 ∷ t 8 ∷ []

abbrev pub shown_inputs : State → List ℕ
shown_inputs s = feeding s 1 ∷ feeding s 2 ∷ feeding s 3 ∷ feeding s 4 ∷ feeding s 5 ∷ feeding s 6 ∷ feeding s 7 ∷ feeding s 8 ∷ []

unfoldable pub table_after : Port → List Call → List (Option ℕ)
unfolding table along
table_after p cs = shown_table (table p (reverse (transcript small cs)))

unfoldable pub inputs_after : List Call → List ℕ
unfolding ending
inputs_after cs = shown_inputs (final small cs)

unfoldable pub accepted_after : List Call → List Accepted
unfolding accepted_in along
accepted_after cs = accepted_in (reverse (transcript small cs))

pub record TableExamples : Type 0 where
  -- port 1 learns from its own O, OS and Q, and port 2 from nothing of that
  pub learned : table_after One (ask 1 "O002" ++ ask 1 "OS003" ++ ask 2 "S002004" ++ panel_lock 7 5 ∷ ask 2 "O008") ≡ None ∷ Some 1 ∷ Some 1 ∷ None ∷ None ∷ None ∷ None ∷ None ∷ []
  pub after_queue : table_after One (ask 1 "O002" ++ ask 1 "OS003" ++ ask 2 "S002004" ++ panel_lock 7 5 ∷ ask 1 "Q") ≡ None ∷ Some 4 ∷ Some 1 ∷ None ∷ None ∷ None ∷ Some 5 ∷ None ∷ []
  pub after_eight : table_after One (ask 1 "O002" ++ nine_changes ++ ask 1 "Q") ≡ None ∷ None ∷ None ∷ None ∷ None ∷ None ∷ None ∷ None ∷ []
  pub refused_tells_nothing : table_after One (ask 1 "O009" ++ bytes_at 1 (with_check_byte 0x02 (codes "01O001")) ++ byte 1 0x02 0 ∷ ask 1 "Q") ≡ None ∷ None ∷ None ∷ None ∷ None ∷ None ∷ None ∷ None ∷ []
  pub all_accepted : accepted_after (ask 1 "S002004" ++ ask 3 "L002005" ++ ask 1 "S002006" ++ panel_set 2 7 ∷ panel_unlock 2 7 ∷ panel_set 2 8 ∷ ask 2 "U002001") ≡ was_unlocked 2 1 ∷ was_set 2 8 ∷ was_unlocked 2 7 ∷ was_locked 2 5 ∷ was_set 2 4 ∷ []

-- port 1 learns the inputs of outputs 2 and 3; then port 3 locks the one, which from then on stays as it is, and the panel sets the other
abbrev pub before_q : List Call
before_q = ask 1 "O002" ++ ask 1 "O003" ++ ask 3 "L002005" ++ ask 2 "S002006" ++ panel_set 3 7 ∷ panel_set 2 1 ∷ bytes_at 1 (0x02 ∷ 0x30 ∷ 0x30 ∷ 0x51 ∷ 0x03 ∷ [])

abbrev pub at_q : List Event
at_q = reverse (transcript small before_q)

abbrev pub q_event : Event
q_event = event_at (final small before_q) (byte 1 0x50 64)

pub record LawExamples : Type 0 where
  -- before its Q the port's table is out of date
  pub out_of_date : table_after One before_q ≡ None ∷ Some 1 ∷ Some 1 ∷ None ∷ None ∷ None ∷ None ∷ None ∷ []
  pub inputs_are : inputs_after before_q ≡ 1 ∷ 5 ∷ 7 ∷ 1 ∷ 1 ∷ 1 ∷ 1 ∷ 1 ∷ []
  -- the answer is short, and makes it true
  pub short_answer : ShortQueueAnswer One at_q q_event
  pub made_true : shown_table (table One (q_event ∷ at_q)) ≡ None ∷ Some 5 ∷ Some 7 ∷ None ∷ None ∷ None ∷ None ∷ None ∷ []
  -- of two settings of the locked output neither was accepted
  pub was_accepted : accepted_in (q_event ∷ at_q) ≡ was_set 3 7 ∷ was_locked 2 5 ∷ []
  pub named_are : named 2 (was_set 3 7 ∷ was_locked 2 5 ∷ []) 1 ≡ 5
