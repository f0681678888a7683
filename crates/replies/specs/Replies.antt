-- What a reply says, the bytes that say it, and how it is read back.
--
--   Contents                what an accepted command is answered, with its fields
--   Reply                   ack: the command was accepted, and this is its answer; nak: it was refused, with this letter
--   model_text              the version and model in the answer to F
--   flag_byte               the byte of C: 128, 1 for entries, 4 for an altered mask, 8 for an overrun
--   locked_letter           L or U
--   entry_digits            output and input of each change, three digits each, oldest first
--   contents_bytes          the body of an accepted command's reply
--   header_of               the first byte of a reply
--   body_of                 its body
--   frame_of h l r          the reply r with the address bytes h and l
--   reply_bytes h l r       the same as bytes
--   read_locked             L or U
--   read_x                  an X: the bytes behind it
--   bit b k                 the bit of b that counts k
--   read_flags              what the bytes behind the letter of C say
--   with_entry o i cs       the changes cs, if there are any, behind one of the output o to the input i
--   read_entries n          the n entries of Q, and nothing behind them
--   changes_if              entries, if they were read, as an answer
--   read_changes            what the bytes behind the letter of Q say: as many entries as the digit counts, at most most_queued
--   read_keypad             what the bytes behind the letters of KS say
--   read_input              what the bytes behind the letter of O say
--   read_status             what the bytes behind the letters of OS say
--   read_model              the version and model behind the letter of F: the bytes behind them
--   read_version            what the bytes behind these say
--   login_if_short          an answer to ZC whose name has at most most_text bytes
--   read_login              what the bytes behind the letters of ZC say
--   read_logged_in          what the bytes behind the letters of ZI say
--   answers                 the letters of each answer, with what the bytes behind them say
--   acked                   an answer, if there is one, as a reply
--   read_contents           the reply that the body behind ACK is
--   read_letter             the reply that the body behind NAK is
--   or_no_contents          a reply, or that the body is none
--   read_body               the reply that a header and a body are
--   Received                a reply with its address bytes
--   with_address            a reply that was read, with its address bytes
--   if_ended                a body whose end is ETX and the right check byte
--   if_long_enough          what stands behind the address has at least an end
--   read_reply              the reply that bytes are; or why they are none
--   begins_with_ack         whether bytes are the reply to an accepted packet
--   small_change            whether the numbers of a change have three digits
--   all_small               whether those of all changes have
--   fits_contents           whether the numbers of an answer fit their places
--   fits_reply              whether those of a reply do
--   SmallChange             the numbers of a change have three digits
--   FitsContents            the numbers of an answer fit their places
--   Fits                    those of a reply do
--   longest_body            how many bytes the body of a reply has at the most
--   TestTellsWhatFits       a reply passes the test exactly if it fits
--   RepliesAreShort         the body of a reply that fits is not longer than that
--   ReplyReadsBack          a reply that was written is read as what it was written for
--   OnlyWrittenRepliesAreRead       bytes that are read as a reply are those that are written for it, and it fits
use Rattle.std.specs.Prelude.{◌≡◌, ℕ, zero, suc, ◌+◌, ◌-◌, ◌/◌, ◌%◌, ◌<◌, ◌≤◌, Bool, true, false, cond, ◌&&◌, List, [], ◌∷◌, ◌++◌, length, take, drop, Some, None, Ok, Err, codes, Decides, Option, Result, ◌==◌, nat_le, nat_lt, slice_index}
use Rattle.std.specs.List.{AllByRecursion}
use Rattle.wire.specs.Fields.{Field, one_digit, three_digits, two_hex, read_digit, read_number, read_hex, read_mark, read_colon, then, past, ended, most_text}
use Rattle.wire.specs.Frames.{Frame, check_byte, on_line}
use Rattle.wire.specs.Letters.{Row, row, begins, looked_up}
use Rattle.wire.specs.Drafts.{header_byte}
use Rattle.wire.specs.declared.reply.Header.TheVariants.{Ack, Nak}
use Rattle.replies.specs.declared.change.Change.{Change}
use Rattle.replies.specs.declared.reply.ReadFault.{ReadFault}
use Rattle.replies.specs.declared.reply.ReadFault.TheVariants.{TooShort, NoEtx, WrongCheckByte, NoHeader, NoContents}
use Rattle.replies.specs.Queues.{most_queued}

pub data Contents : Type 0 where
  -- KL, KU, L, S, U, EL, ZA
  keypad_locked keypad_unlocked output_locked output_set output_unlocked ethernet_changed mask_set : Contents
  -- C: whether the queue has entries, whether a mask was altered, whether the queue is overrun
  flags : Bool → Bool → Bool → Contents
  -- F: the unit's inputs and outputs
  version : ℕ → ℕ → Contents
  -- KS: whether the keypad is locked
  keypad_state : Bool → Contents
  -- O: the feeding input
  feeding_input : ℕ → Contents
  -- OS: the feeding input, whether the output is locked, the mask
  status : ℕ → Bool → ℕ → Contents
  -- Q: the changes, oldest first
  changes : List Change → Contents
  -- ZC: user, group and name; ZI: user and group
  login : ℕ → ℕ → List ℕ → Contents
  logged_in : ℕ → ℕ → Contents

pub data Reply : Type 0 where
  ack : Contents → Reply
  nak : ℕ → Reply

-- ---- written

-- the text between the letter of F and the size
abbrev pub model_text : List ℕ
model_text = codes "v1.00 Pv2.15 XPC1000/"

abbrev pub flag_byte : Bool → Bool → Bool → ℕ
flag_byte e m v = 128 + cond e 1 0 + cond m 4 0 + cond v 8 0

abbrev pub locked_letter : Bool → ℕ
locked_letter b = cond b 0x4C 0x55

abbrev pub entry_digits : List Change → List ℕ
entry_digits [] = []
entry_digits (c ∷ cs) = three_digits c.output ++ three_digits c.input ++ entry_digits cs

abbrev pub contents_bytes : Contents → List ℕ
contents_bytes keypad_locked = codes "KL"
contents_bytes keypad_unlocked = codes "KU"
contents_bytes output_locked = codes "L"
contents_bytes output_set = codes "S"
contents_bytes output_unlocked = codes "U"
contents_bytes ethernet_changed = codes "EL"
contents_bytes mask_set = codes "ZA"
contents_bytes (flags e m v) = codes "C" ++ flag_byte e m v ∷ []
contents_bytes (version i o) = codes "F" ++ model_text ++ three_digits i ++ codes "X" ++ three_digits o
contents_bytes (keypad_state l) = codes "KS" ++ locked_letter l ∷ []
contents_bytes (feeding_input i) = codes "O" ++ three_digits i
contents_bytes (status i l m) = codes "OS" ++ three_digits i ++ locked_letter l ∷ [] ++ two_hex m
contents_bytes (changes cs) = codes "Q" ++ one_digit (length cs) ++ entry_digits cs
contents_bytes (login u g n) = codes "ZC:" ++ one_digit u ++ codes ":" ++ one_digit g ++ codes ":" ++ n
contents_bytes (logged_in u g) = codes "ZI:" ++ one_digit u ++ codes ":" ++ one_digit g

abbrev pub header_of : Reply → ℕ
header_of (ack c) = header_byte Ack
header_of (nak x) = header_byte Nak

abbrev pub body_of : Reply → List ℕ
body_of (ack c) = contents_bytes c
body_of (nak x) = x ∷ []

abbrev pub frame_of : ℕ → ℕ → Reply → Frame
frame_of h l r = record { header = header_of r; high = h; low = l; body = body_of r }

abbrev pub reply_bytes : ℕ → ℕ → Reply → List ℕ
reply_bytes h l r = on_line (frame_of h l r)

-- ---- read

abbrev pub read_locked : List ℕ → Field Bool
read_locked [] = None
read_locked (a ∷ rest) = cond (a == 0x4C) (Some (true, rest)) (cond (a == 0x55) (Some (false, rest)) None)

abbrev pub read_x : List ℕ → Option (List ℕ)
read_x = read_mark 0x58

abbrev pub bit : ℕ → ℕ → Bool
bit b k = b / k % 2 == 1

abbrev pub read_flags : List ℕ → Option Contents
read_flags [] = None
read_flags (b ∷ rest) = cond (b == flag_byte (bit b 1) (bit b 4) (bit b 8)) (ended (flags (bit b 1) (bit b 4) (bit b 8)) rest) None

abbrev pub with_entry : ℕ → ℕ → Option (List Change) → Option (List Change)
with_entry o i None = None
with_entry o i (Some cs) = Some (record { output = o; input = i } ∷ cs)

abbrev pub read_entries : ℕ → List ℕ → Option (List Change)
read_entries zero xs = ended [] xs
read_entries (suc n) xs = then (read_number xs) (λ o a. then (read_number a) (λ i b. with_entry o i (read_entries n b)))

abbrev pub changes_if : Option (List Change) → Option Contents
changes_if None = None
changes_if (Some cs) = Some (changes cs)

abbrev pub read_changes : List ℕ → Option Contents
read_changes xs = then (read_digit xs) (λ n es. cond (nat_le n most_queued) (changes_if (read_entries n es)) None)

abbrev pub read_keypad : List ℕ → Option Contents
read_keypad xs = then (read_locked xs) (λ l end. ended (keypad_state l) end)

abbrev pub read_input : List ℕ → Option Contents
read_input xs = then (read_number xs) (λ i end. ended (feeding_input i) end)

abbrev pub read_status : List ℕ → Option Contents
read_status xs = then (read_number xs) (λ i a. then (read_locked a) (λ l b. then (read_hex b) (λ m end. ended (status i l m) end)))

abbrev pub read_model : List ℕ → Option (List ℕ)
read_model xs = cond (begins model_text xs) (Some (drop (length model_text) xs)) None

abbrev pub read_version : List ℕ → Option Contents
read_version xs = then (read_number xs) (λ i a. past (read_x a) (λ b. then (read_number b) (λ o end. ended (version i o) end)))

abbrev pub login_if_short : ℕ → ℕ → List ℕ → Option Contents
login_if_short u g n = cond (nat_le (length n) most_text) (Some (login u g n)) None

abbrev pub read_login : List ℕ → Option Contents
read_login xs = past (read_colon xs) (λ a. then (read_digit a) (λ u b. past (read_colon b) (λ c. then (read_digit c) (λ g d. past (read_colon d) (λ n. login_if_short u g n)))))

abbrev pub read_logged_in : List ℕ → Option Contents
read_logged_in xs = past (read_colon xs) (λ a. then (read_digit a) (λ u b. past (read_colon b) (λ c. then (read_digit c) (λ g end. ended (logged_in u g) end))))

abbrev pub answers : List (Row (Option Contents))
answers =
    row (codes "KL") (ended keypad_locked)
    ∷ row (codes "KU") (ended keypad_unlocked)
    ∷ row (codes "KS") read_keypad
    ∷ row (codes "EL") (ended ethernet_changed)
    ∷ row (codes "OS") read_status
    ∷ row (codes "ZA") (ended mask_set)
    ∷ row (codes "ZC") read_login
    ∷ row (codes "ZI") read_logged_in
    ∷ row (codes "C") read_flags
    ∷ row (codes "F") (λ xs. past (read_model xs) read_version)
    ∷ row (codes "L") (ended output_locked)
    ∷ row (codes "O") read_input
    ∷ row (codes "Q") read_changes
    ∷ row (codes "S") (ended output_set)
    ∷ row (codes "U") (ended output_unlocked)
    ∷ []

abbrev pub acked : Option Contents → Option Reply
acked None = None
acked (Some c) = Some (ack c)

abbrev pub read_contents : List ℕ → Option Reply
read_contents body = acked (looked_up None answers body)

abbrev pub read_letter : List ℕ → Option Reply
read_letter [] = None
read_letter (x ∷ rest) = ended (nak x) rest

abbrev pub or_no_contents : Option Reply → Result Reply ReadFault
or_no_contents None = Err NoContents
or_no_contents (Some r) = Ok r

abbrev pub read_body : ℕ → List ℕ → Result Reply ReadFault
read_body c body = cond (c == header_byte Ack) (or_no_contents (read_contents body)) (cond (c == header_byte Nak) (or_no_contents (read_letter body)) (Err NoHeader))

pub record Received : Type 0 where
  pub high : ℕ
  pub low : ℕ
  pub reply : Reply

abbrev pub with_address : ℕ → ℕ → Result Reply ReadFault → Result Received ReadFault
with_address h l (Ok r) = Ok (record { high = h; low = l; reply = r })
with_address h l (Err f) = Err f

-- the body, and the two bytes that end the reply
abbrev pub if_ended : ℕ → ℕ → ℕ → List ℕ → ℕ → ℕ → Result Received ReadFault
if_ended c h l body etx check =
    cond (etx == 0x03) (cond (check == check_byte (c ∷ h ∷ l ∷ body ++ 0x03 ∷ [])) (with_address h l (read_body c body)) (Err WrongCheckByte)) (Err NoEtx)

abbrev pub if_long_enough : ℕ → ℕ → ℕ → List ℕ → Result Received ReadFault
if_long_enough c h l rest =
    cond (nat_le 2 (length rest)) (if_ended c h l (take (length rest - 2) rest) (slice_index rest (length rest - 2)) (slice_index rest (length rest - 1))) (Err TooShort)

abbrev pub read_reply : List ℕ → Result Received ReadFault
read_reply [] = Err TooShort
read_reply (c ∷ []) = Err TooShort
read_reply (c ∷ h ∷ []) = Err TooShort
read_reply (c ∷ h ∷ l ∷ rest) = if_long_enough c h l rest

abbrev pub begins_with_ack : List ℕ → Bool
begins_with_ack [] = false
begins_with_ack (c ∷ rest) = c == header_byte Ack

-- ---- what fits

abbrev pub small_change : Change → Bool
small_change c = nat_lt c.output 1000 && nat_lt c.input 1000

abbrev pub all_small : List Change → Bool
all_small [] = true
all_small (c ∷ cs) = small_change c && all_small cs

abbrev pub fits_contents : Contents → Bool
fits_contents keypad_locked = true
fits_contents keypad_unlocked = true
fits_contents output_locked = true
fits_contents output_set = true
fits_contents output_unlocked = true
fits_contents ethernet_changed = true
fits_contents mask_set = true
fits_contents (flags e m v) = true
fits_contents (version i o) = nat_lt i 1000 && nat_lt o 1000
fits_contents (keypad_state l) = true
fits_contents (feeding_input i) = nat_lt i 1000
fits_contents (status i l m) = nat_lt i 1000 && nat_lt m 256
fits_contents (changes cs) = nat_le (length cs) most_queued && all_small cs
fits_contents (login u g n) = nat_lt u 10 && (nat_lt g 10 && nat_le (length n) most_text)
fits_contents (logged_in u g) = nat_lt u 10 && nat_lt g 10

abbrev pub fits_reply : Reply → Bool
fits_reply (ack c) = fits_contents c
fits_reply (nak x) = true

-- ---- the same as statements

abbrev pub SmallChange : Change → Type 0
SmallChange c = (c.output < 1000) × (c.input < 1000)

abbrev pub FitsContents : Contents → Type 0
FitsContents keypad_locked = Unit {0}
FitsContents keypad_unlocked = Unit {0}
FitsContents output_locked = Unit {0}
FitsContents output_set = Unit {0}
FitsContents output_unlocked = Unit {0}
FitsContents ethernet_changed = Unit {0}
FitsContents mask_set = Unit {0}
FitsContents (flags e m v) = Unit {0}
FitsContents (version i o) = (i < 1000) × (o < 1000)
FitsContents (keypad_state l) = Unit {0}
FitsContents (feeding_input i) = i < 1000
FitsContents (status i l m) = (i < 1000) × (m < 256)
FitsContents (changes cs) = (length cs ≤ most_queued) × AllByRecursion SmallChange cs
FitsContents (login u g n) = (u < 10) × (g < 10) × (length n ≤ most_text)
FitsContents (logged_in u g) = (u < 10) × (g < 10)

abbrev pub Fits : Reply → Type 0
Fits (ack c) = FitsContents c
Fits (nak x) = Unit {0}

-- ---- the laws

abbrev pub longest_body : ℕ
longest_body = 50

abbrev pub TestTellsWhatFits : Reply → Type 0
TestTellsWhatFits r = Decides (fits_reply r) (Fits r)

abbrev pub RepliesAreShort : Reply → Type 0
RepliesAreShort r = Fits r → length (body_of r) ≤ longest_body

abbrev pub ReplyReadsBack : ℕ → ℕ → Reply → Type 0
ReplyReadsBack h l r = Fits r → read_reply (reply_bytes h l r) ≡ Ok (record { high = h; low = l; reply = r })

abbrev pub OnlyWrittenRepliesAreRead : List ℕ → Type 0
OnlyWrittenRepliesAreRead xs = (x : Received) → read_reply xs ≡ Ok x → Fits x.reply × (xs ≡ reply_bytes x.high x.low x.reply)
