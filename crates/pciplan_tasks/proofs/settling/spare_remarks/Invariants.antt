use Rattle.std.proofs.Common.{◌≡◌, map, take}
use Rattle.std.specs.List.{flat_map}
use Rattle.std.specs.String.{string_bytes}
use Rattle.pci_settle.specs.Denied.{denied_value}
use Rattle.pciplan_tasks.specs.SettleAnswers.{spare_remark}
use Rattle.pciplan_tasks.proofs.settling.spare_remarks.Given as goal

abbrev pub invariant-loop-one : goal.invariant-loop-one
invariant-loop-one g l = string_bytes l.text ≡ flat_map spare_remark (map denied_value (take l.one-index l.denied))
