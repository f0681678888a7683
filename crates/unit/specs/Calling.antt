-- A call by what came back.
--
--   plain_event c r   the call c, which brings no reply and returned r
use Rattle.std.specs.Prelude.{ℕ, [], Result}
use Rattle.rules.specs.declared.refusal.Refusal.{Refusal}
use Rattle.rules.specs.Calls.{Call, Event}

abbrev pub plain_event : Call → Result ℕ Refusal → Event
plain_event c r = record { call = c; answer = record { result = r; reply = [] } }
