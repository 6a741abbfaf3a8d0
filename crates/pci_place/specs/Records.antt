-- The records of the code, function by function.
use Rattle.std.specs.Prelude.{◌≡◌}
use Rattle.std.specs.List.{Contains}
use Rattle.pci_spec.specs.System.{System, Function}
use Rattle.pci_spec.specs.Decoded.{IsDecodable, record_of}
use Rattle.pci_function.specs.Values.{record_value}
use Rattle.pci_function.specs.declared.record.Record.{Record}

-- a function of the system, and its record
pub record IsRecordInSystem (s : System) (f : Function) (r : Record) : Type 0 where
  pub listed : Contains s f
  pub decodable : IsDecodable f
  pub value : record_value r ≡ record_of f
