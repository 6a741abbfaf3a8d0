-- What the outcome of an access is counted as.
use Rattle.std.specs.Prelude.{ℕ, ◌-◌, Bool, true, false, if◌then◌else◌, Result, Ok, Err}
use Rattle.pci_machine.specs.declared.port.PortError.{PortError}
use Rattle.pci_machine.specs.declared.port.PortError.TheVariants.{NoFunction, BadAccess, Failed}

-- the number of an error
abbrev pub port_error_number : PortError → ℕ
port_error_number NoFunction = 40
port_error_number BadAccess = 41
port_error_number Failed = 42

-- how many failures an error counts as
abbrev pub failures_of_error : PortError → ℕ
failures_of_error NoFunction = 0
failures_of_error BadAccess = 0
failures_of_error Failed = 1

-- how many failures an outcome counts as
abbrev pub failures_of : {T : Type 0} → Result T PortError → ℕ
failures_of (Ok x) = 0
failures_of (Err e) = failures_of_error e

-- whether an access is counted: all are but those that are refused by 40 or 41
abbrev pub is_counted_error : PortError → Bool
is_counted_error NoFunction = false
is_counted_error BadAccess = false
is_counted_error Failed = true

-- whether an access with this outcome is counted
abbrev pub is_counted : {T : Type 0} → Result T PortError → Bool
is_counted (Ok x) = true
is_counted (Err e) = is_counted_error e

-- how many accesses are to come until one fails, after one with this outcome; 0 where none fails
abbrev pub due_after_error : ℕ → PortError → ℕ
due_after_error due e = if is_counted_error e then due - 1 else due

-- the same after an outcome
abbrev pub due_after : {T : Type 0} → ℕ → Result T PortError → ℕ
due_after due outcome = if is_counted outcome then due - 1 else due

-- a step that stopped counts as one failure
abbrev pub failures_of_stop : {T S : Type 0} → Result T S → ℕ
failures_of_stop (Ok x) = 0
failures_of_stop (Err e) = 1
