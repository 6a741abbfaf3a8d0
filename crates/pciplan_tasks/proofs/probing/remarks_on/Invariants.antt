use Rattle.std.proofs.Common.{◌≡◌, take}
use Rattle.std.specs.List.{flat_map}
use Rattle.std.specs.String.{string_bytes}
use Rattle.pciplan_tasks.specs.ProbeAnswers.{remark}
use Rattle.pciplan_tasks.proofs.probing.remarks_on.Given as goal

abbrev pub invariant-loop-register : goal.invariant-loop-register
invariant-loop-register g l = string_bytes l.text ≡ flat_map remark (take l.register-index l.assumed)
