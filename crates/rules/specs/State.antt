-- The unit's state, and a unit that was just put in service.
--
--   User               a name and a password
--   PortState          a port's receiver, change queue, mask flag and login
--   State              all that a unit keeps, with what its fabric means
--   port_at s p        the port p
--   is_locked s o      output o is locked
--   feeding s o        the input that feeds output o
--   group_of u         the group of user u: u is in group u
--   byte_of f          the byte of a mask: the bit of each group g is f g, group 8 the highest
--   mask_byte s o      the group mask of output o as a byte
--   new_port           a port as service starts: idle, nothing queued, no flag, nobody logged in
--   service a on m     a unit at address a, with access control on or off, over a fabric that means m
--   with_fabric, with_lock, with_mask, with_keypad, with_ethernet, with_password, with_user, with_ports, with_port
--                      the state with that part in place of its own
--   with_receiver, with_queue, with_mask_flag, with_login
--                      the same for a port
use Rattle.std.specs.Prelude.{ℕ, ◌+◌, Bool, true, false, cond, List, [], None, codes, Option, ◌==◌}
use Rattle.wire.specs.Kept.{Kept, empty}
use Rattle.fabric.specs.Meaning.{Meaning}
use Rattle.packets.specs.Receiver.{Receiver, idle}
use Rattle.replies.specs.declared.change.Change.{Change}
use Rattle.rules.specs.declared.port.PerPort.{PerPort}
use Rattle.rules.specs.declared.port.Port.{Port}
use Rattle.rules.specs.PerPort.{at, set_at, three}

pub record User : Type 0 where
  pub name : List ℕ
  pub password : List ℕ

pub record PortState : Type 0 where
  pub receiver : Receiver
  -- the changes since the last Q, eight kept
  pub queue : Kept Change
  -- an accepted ZA altered a mask since the last Q
  pub mask_flag : Bool
  pub login : Option ℕ

pub record State : Type 0 where
  pub address : ℕ
  -- access control is on
  pub access : Bool
  pub fabric : Meaning
  -- by output
  pub locks : ℕ → Bool
  -- by output and group
  pub masks : ℕ → ℕ → Bool
  -- locked or not
  pub keypad : Bool
  pub ethernet : Bool
  pub password : List ℕ
  -- by number
  pub users : ℕ → User
  pub ports : PerPort PortState

abbrev pub port_at : State → Port → PortState
port_at s p = at s.ports p

abbrev pub is_locked : State → ℕ → Bool
is_locked s o = s.locks o

abbrev pub feeding : State → ℕ → ℕ
feeding s o = s.fabric.feeding o

abbrev pub group_of : ℕ → ℕ
group_of u = u

abbrev pub byte_of : (ℕ → Bool) → ℕ
byte_of f = cond (f 1) 1 0 + cond (f 2) 2 0 + cond (f 3) 4 0 + cond (f 4) 8 0 + cond (f 5) 16 0 + cond (f 6) 32 0 + cond (f 7) 64 0 + cond (f 8) 128 0

abbrev pub mask_byte : State → ℕ → ℕ
mask_byte s o = byte_of (s.masks o)

abbrev pub new_port : PortState
new_port = record { receiver = idle; queue = empty; mask_flag = false; login = None }

abbrev pub service : ℕ → Bool → Meaning → State
service a on m = record {
  address = a;
  access = on;
  fabric = m;
  locks = λ o. false;
  masks = λ o g. true;
  keypad = false;
  ethernet = false;
  password = codes "Quintech";
  users = λ u. record { name = []; password = [] };
  ports = three new_port;
}

-- ---- one part of the state in place of its own

abbrev pub with_fabric : Meaning → State → State
with_fabric m s = record { address = s.address; access = s.access; fabric = m; locks = s.locks; masks = s.masks; keypad = s.keypad; ethernet = s.ethernet; password = s.password; users = s.users; ports = s.ports }

abbrev pub with_lock : ℕ → Bool → State → State
with_lock o l s = record { address = s.address; access = s.access; fabric = s.fabric; locks = λ k. cond (k == o) l (s.locks k); masks = s.masks; keypad = s.keypad; ethernet = s.ethernet; password = s.password; users = s.users; ports = s.ports }

abbrev pub with_mask : ℕ → ℕ → Bool → State → State
with_mask o g b s = record { address = s.address; access = s.access; fabric = s.fabric; locks = s.locks; masks = λ k h. cond (k == o) (cond (h == g) b (s.masks k h)) (s.masks k h); keypad = s.keypad; ethernet = s.ethernet; password = s.password; users = s.users; ports = s.ports }

abbrev pub with_keypad : Bool → State → State
with_keypad b s = record { address = s.address; access = s.access; fabric = s.fabric; locks = s.locks; masks = s.masks; keypad = b; ethernet = s.ethernet; password = s.password; users = s.users; ports = s.ports }

abbrev pub with_ethernet : Bool → State → State
with_ethernet b s = record { address = s.address; access = s.access; fabric = s.fabric; locks = s.locks; masks = s.masks; keypad = s.keypad; ethernet = b; password = s.password; users = s.users; ports = s.ports }

abbrev pub with_password : List ℕ → State → State
with_password w s = record { address = s.address; access = s.access; fabric = s.fabric; locks = s.locks; masks = s.masks; keypad = s.keypad; ethernet = s.ethernet; password = w; users = s.users; ports = s.ports }

abbrev pub with_user : ℕ → User → State → State
with_user u x s = record { address = s.address; access = s.access; fabric = s.fabric; locks = s.locks; masks = s.masks; keypad = s.keypad; ethernet = s.ethernet; password = s.password; users = λ k. cond (k == u) x (s.users k); ports = s.ports }

abbrev pub with_ports : PerPort PortState → State → State
with_ports ps s = record { address = s.address; access = s.access; fabric = s.fabric; locks = s.locks; masks = s.masks; keypad = s.keypad; ethernet = s.ethernet; password = s.password; users = s.users; ports = ps }

abbrev pub with_port : Port → PortState → State → State
with_port p x s = with_ports (set_at s.ports p x) s

abbrev pub with_receiver : Receiver → PortState → PortState
with_receiver r x = record { receiver = r; queue = x.queue; mask_flag = x.mask_flag; login = x.login }

abbrev pub with_queue : Kept Change → PortState → PortState
with_queue q x = record { receiver = x.receiver; queue = q; mask_flag = x.mask_flag; login = x.login }

abbrev pub with_mask_flag : Bool → PortState → PortState
with_mask_flag b x = record { receiver = x.receiver; queue = x.queue; mask_flag = b; login = x.login }

abbrev pub with_login : Option ℕ → PortState → PortState
with_login u x = record { receiver = x.receiver; queue = x.queue; mask_flag = x.mask_flag; login = u }
