-- What a line receiver makes of each byte.
--
--   stx, etx    the byte that starts a packet, and the byte that ends what is listed of it
--   Receiver    idle; collecting, with the bytes listed and the exclusive or of all bytes so far; awaiting the check byte, with the same
--   Packet      what was listed between STX and ETX, and whether the check byte was right
--   Heard       the receiver after a byte, and the packet that the byte ended, if it ended one
--   quiet r     the receiver is r, and no packet ended
--   most_listed how many bytes of a packet are listed
--   hear r b    the byte b at the receiver r
use Rattle.std.specs.Prelude.{ℕ, Bool, cond, Some, None, Option, ◌==◌, bit_xor}
use Rattle.wire.specs.Kept.{Kept, empty, put}

abbrev pub stx : ℕ
stx = 0x02

abbrev pub etx : ℕ
etx = 0x03

pub data Receiver : Type 0 where
  idle : Receiver
  collecting : Kept ℕ → ℕ → Receiver
  awaiting : Kept ℕ → ℕ → Receiver

pub record Packet : Type 0 where
  pub listed : Kept ℕ
  pub right : Bool

pub record Heard : Type 0 where
  pub next : Receiver
  pub packet : Option Packet

abbrev pub quiet : Receiver → Heard
quiet r = record { next = r; packet = None }

abbrev pub most_listed : ℕ
most_listed = 29

-- The exclusive or begins with STX and takes in every byte up to ETX, those that are not listed too.
-- Whatever comes after ETX is the check byte.
abbrev pub hear : Receiver → ℕ → Heard
hear idle b = quiet (cond (b == stx) (collecting empty stx) idle)
hear (collecting k x) b = quiet (cond (b == stx) (collecting empty stx) (cond (b == etx) (awaiting k (bit_xor x b)) (collecting (put most_listed k b) (bit_xor x b))))
hear (awaiting k x) b = record { next = idle; packet = Some (record { listed = k; right = (b == x) }) }
