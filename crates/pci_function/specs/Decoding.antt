-- What a record is of its function.
use Rattle.std.specs.Prelude.{◌≡◌, ◌==◌, ℕ, IsFalse, List, Option, None, Some, if◌then◌else◌}
use Rattle.std.specs.Option.{option_map}
use Rattle.pci_spec.specs.Header.{layout}
use Rattle.pci_spec.specs.Window.{WindowKind, breaks_window_rule}
use Rattle.pci_spec.specs.System.{Function}
use Rattle.pci_spec.specs.Decoded.{IsDecodable, record_of, bridge_of}
use Rattle.pci_function.specs.declared.record.Bridge.{Bridge}
use Rattle.pci_function.specs.declared.record.Record.{Record}
use Rattle.pci_function.specs.Values.{record_value, bridge_value}

-- the bus numbers and windows are those of a bridge, whose windows break no rule; a device has none
pub record IsBridgeAt (image probe : List ℕ) (o : Option Bridge) : Type 0 where
  pub same : option_map bridge_value o
      ≡ (if layout image == 1 then Some (bridge_of image probe) else None)
  pub windows : (kind : WindowKind) → layout image ≡ 1
      → IsFalse (breaks_window_rule kind image probe)

-- the function's registers break no rule, and the record is what they decode to
pub record IsRecordOf (f : Function) (r : Record) : Type 0 where
  pub decodable : IsDecodable f
  pub same : record_value r ≡ record_of f
