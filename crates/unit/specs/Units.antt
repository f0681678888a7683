-- What a unit of the code means.
--
--   state_of m u        the state of the unit u, whose fabric means m of it
--   with_record u p r   u with r in the place of the record of the port p
--   settled t o i l     t, in which output o was on input i with the lock l before, with the change of o in every port's queue, if there is one
use Rattle.std.specs.Prelude.{ℕ, Bool, not, ◌&&◌, ◌==◌}
use Rattle.fabric.specs.Meaning.{Meaning}
use Rattle.replies.specs.Queues.{text}
use Rattle.rules.specs.declared.port.Port.{Port}
use Rattle.rules.specs.PerPort.{set_at, each}
use Rattle.rules.specs.State.{State, PortState, is_locked, feeding, with_ports}
use Rattle.rules.specs.Switching.{same, note_if}
use Rattle.records.specs.Records.{locks_of, masks_of, users_of}
use Rattle.unit.specs.declared.state.Unit.{Unit}

module _ {F : Type 0} where
  abbrev pub state_of : (F → Meaning) → Unit F → State
  state_of meaning u = record {
    address = u.address;
    access = u.access;
    fabric = meaning u.fabric;
    locks = locks_of u.locks;
    masks = masks_of u.masks;
    keypad = u.keypad_locked;
    ethernet = u.ethernet_locked;
    password = text u.password;
    users = users_of u.users;
    ports = u.ports;
  }

  abbrev pub with_record : Unit F → Port → PortState → Unit F
  with_record u p r = record {
    fabric = u.fabric;
    address = u.address;
    access = u.access;
    locks = u.locks;
    masks = u.masks;
    keypad_locked = u.keypad_locked;
    ethernet_locked = u.ethernet_locked;
    password = u.password;
    users = u.users;
    ports = set_at u.ports p r;
  }

abbrev pub settled : State → ℕ → ℕ → Bool → State
settled t o i l = with_ports (each (note_if (not (i == feeding t o && same l (is_locked t o))) (record { output = o; input = feeding t o })) t.ports) t
