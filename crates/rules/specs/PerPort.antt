-- One value for each of the three ports. Ports 1 and 3 are serial, port 2 is Ethernet.
--
--   port_of n      the port that the number n names: 1, 2 and 3 name one
--   number_of p    the number of the port p
--   is_ethernet p  the port p is port 2
--   at t p         the value at the port p
--   set_at t p x   t with x at the port p
--   three x        x at every port
--   each f t       f of the value at every port
use Rattle.std.specs.Prelude.{ℕ, Bool, true, false, cond, Some, None, Option, ◌==◌}
use Rattle.rules.specs.declared.port.PerPort.{PerPort}
use Rattle.rules.specs.declared.port.Port.{Port}
use Rattle.rules.specs.declared.port.Port.TheVariants.{One, Two, Three}

abbrev pub port_of : ℕ → Option Port
port_of n = cond (n == 1) (Some One) (cond (n == 2) (Some Two) (cond (n == 3) (Some Three) None))

abbrev pub number_of : Port → ℕ
number_of One = 1
number_of Two = 2
number_of Three = 3

abbrev pub is_ethernet : Port → Bool
is_ethernet One = false
is_ethernet Two = true
is_ethernet Three = false

module _ {R : Type 0} where
  abbrev pub at : PerPort R → Port → R
  at t One = t.one
  at t Two = t.two
  at t Three = t.three

  abbrev pub set_at : PerPort R → Port → R → PerPort R
  set_at t One x = record { one = x; two = t.two; three = t.three }
  set_at t Two x = record { one = t.one; two = x; three = t.three }
  set_at t Three x = record { one = t.one; two = t.two; three = x }

  abbrev pub three : R → PerPort R
  three x = record { one = x; two = x; three = x }

abbrev pub each : {R S : Type 0} → (R → S) → PerPort R → PerPort S
each f t = record { one = f t.one; two = f t.two; three = f t.three }
