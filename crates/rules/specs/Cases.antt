-- Worked cases: bytes in, bytes out.
--
--   bytes_at p xs     the bytes xs at the port p, one call each, with reply buffers of 64 bytes
--   with_reply, replies   the replies that events brought, in order
--   answers_to s cs   the replies that the calls cs bring in the state s
--   small             a unit with address 00 over a card of eight by eight, access off
--   wide              a unit with address C0 over a card of eight inputs and 100 outputs, access off
--   ask_queue, ask_flags, set_5_to_1, lock_5_on_1, set_5_to_2, wrong_check, other_address, input_of_87
--                     the packets of the cases, byte by byte
--   WorkedCases       the eight cases
use Rattle.std.specs.Prelude.{◌≡◌, ℕ, false, List, [], ◌∷◌, ◌++◌}
use Rattle.fabric.specs.Cards.{new_card}
use Rattle.rules.specs.PerPort.{three}
use Rattle.rules.specs.State.{State, service, new_port}
use Rattle.rules.specs.Calls.{Call, byte, Event, along, transcript, final}

abbrev pub bytes_at : ℕ → List ℕ → List Call
bytes_at p [] = []
bytes_at p (b ∷ bs) = byte p b 64 ∷ bytes_at p bs

abbrev pub with_reply : List ℕ → List (List ℕ) → List (List ℕ)
with_reply [] rs = rs
with_reply (b ∷ bs) rs = (b ∷ bs) ∷ rs

abbrev pub replies : List Event → List (List ℕ)
replies [] = []
replies (e ∷ es) = with_reply e.answer.reply (replies es)

unfoldable pub answers_to : State → List Call → List (List ℕ)
unfolding along
answers_to s cs = replies (transcript s cs)

abbrev pub small : State
small = service 0x00 false (new_card 8 8)

abbrev pub wide : State
wide = service 0xC0 false (new_card 8 100)

abbrev pub ask_queue : List ℕ
ask_queue = 0x02 ∷ 0x30 ∷ 0x30 ∷ 0x51 ∷ 0x03 ∷ 0x50 ∷ []

abbrev pub ask_flags : List ℕ
ask_flags = 0x02 ∷ 0x30 ∷ 0x30 ∷ 0x43 ∷ 0x03 ∷ 0x42 ∷ []

abbrev pub set_5_to_1 : List ℕ
set_5_to_1 = 0x02 ∷ 0x30 ∷ 0x30 ∷ 0x53 ∷ 0x30 ∷ 0x30 ∷ 0x35 ∷ 0x30 ∷ 0x30 ∷ 0x31 ∷ 0x03 ∷ 0x56 ∷ []

abbrev pub lock_5_on_1 : List ℕ
lock_5_on_1 = 0x02 ∷ 0x30 ∷ 0x30 ∷ 0x4C ∷ 0x30 ∷ 0x30 ∷ 0x35 ∷ 0x30 ∷ 0x30 ∷ 0x31 ∷ 0x03 ∷ 0x49 ∷ []

abbrev pub set_5_to_2 : List ℕ
set_5_to_2 = 0x02 ∷ 0x30 ∷ 0x30 ∷ 0x53 ∷ 0x30 ∷ 0x30 ∷ 0x35 ∷ 0x30 ∷ 0x30 ∷ 0x32 ∷ 0x03 ∷ 0x55 ∷ []

abbrev pub wrong_check : List ℕ
wrong_check = 0x02 ∷ 0x30 ∷ 0x30 ∷ 0x51 ∷ 0x03 ∷ 0x51 ∷ []

abbrev pub other_address : List ℕ
other_address = 0x02 ∷ 0x30 ∷ 0x31 ∷ 0x51 ∷ 0x03 ∷ 0x51 ∷ []

abbrev pub input_of_87 : List ℕ
input_of_87 = 0x02 ∷ 0x43 ∷ 0x30 ∷ 0x4F ∷ 0x30 ∷ 0x38 ∷ 0x37 ∷ 0x03 ∷ 0x02 ∷ []

pub record WorkedCases : Type 0 where
  -- Q of an empty queue
  pub empty_queue : answers_to small (bytes_at 1 ask_queue) ≡ (0x06 ∷ 0x30 ∷ 0x30 ∷ 0x51 ∷ 0x30 ∷ 0x03 ∷ 0x64 ∷ []) ∷ []
  -- output 5 to input 1, which feeds it already: accepted, and no entry at any port
  pub already_so : answers_to small (bytes_at 1 set_5_to_1) ≡ (0x06 ∷ 0x30 ∷ 0x30 ∷ 0x53 ∷ 0x03 ∷ 0x56 ∷ []) ∷ []
  pub no_entry : (final small (bytes_at 1 set_5_to_1)).ports ≡ three new_port
  -- the lock alone is a change
  pub locked : answers_to small (bytes_at 1 lock_5_on_1 ++ bytes_at 1 ask_queue) ≡ (0x06 ∷ 0x30 ∷ 0x30 ∷ 0x4C ∷ 0x03 ∷ 0x49 ∷ []) ∷ (0x06 ∷ 0x30 ∷ 0x30 ∷ 0x51 ∷ 0x31 ∷ 0x30 ∷ 0x30 ∷ 0x35 ∷ 0x30 ∷ 0x30 ∷ 0x31 ∷ 0x03 ∷ 0x61 ∷ []) ∷ []
  -- with that lock, output 5 to input 2
  pub set_of_locked : answers_to small (bytes_at 1 lock_5_on_1 ++ bytes_at 1 set_5_to_2) ≡ (0x06 ∷ 0x30 ∷ 0x30 ∷ 0x4C ∷ 0x03 ∷ 0x49 ∷ []) ∷ (0x15 ∷ 0x30 ∷ 0x30 ∷ 0x6B ∷ 0x03 ∷ 0x7D ∷ []) ∷ []
  -- C after one change
  pub flags_after_change : answers_to small (bytes_at 1 lock_5_on_1 ++ bytes_at 1 ask_flags) ≡ (0x06 ∷ 0x30 ∷ 0x30 ∷ 0x4C ∷ 0x03 ∷ 0x49 ∷ []) ∷ (0x06 ∷ 0x30 ∷ 0x30 ∷ 0x43 ∷ 0x81 ∷ 0x03 ∷ 0xC7 ∷ []) ∷ []
  -- 51 where 50 belongs
  pub wrong_check_byte : answers_to small (bytes_at 1 wrong_check) ≡ (0x15 ∷ 0x30 ∷ 0x30 ∷ 0x78 ∷ 0x03 ∷ 0x6E ∷ []) ∷ []
  -- address 01
  pub not_addressed : answers_to small (bytes_at 1 other_address) ≡ []
  -- a check byte that is 02
  pub check_byte_02 : answers_to wide (bytes_at 1 input_of_87) ≡ (0x06 ∷ 0x43 ∷ 0x30 ∷ 0x4F ∷ 0x30 ∷ 0x30 ∷ 0x31 ∷ 0x03 ∷ 0x08 ∷ []) ∷ []
