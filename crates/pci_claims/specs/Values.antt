-- What is given, as the definitions have it.
use Rattle.std.specs.Prelude.{map}
use Rattle.std.specs.Option.{option_map}
use Rattle.judge_spec.specs.Given as spec
use Rattle.judge_spec.specs.ToldClaims as told_spec
use Rattle.pci_base.specs.Ranges.{decoded_range_of}
use Rattle.pci_base.specs.declared.range.RootRange.{RootRange}
use Rattle.pci_claims.specs.declared.given.LegacyBridge.{LegacyBridge}
use Rattle.pci_claims.specs.declared.given.TakingBridge.{TakingBridge}
use Rattle.pci_claims.specs.declared.given.Given.{Given}
use Rattle.pci_claims.specs.declared.told.Told.{Told}

abbrev pub host_value : RootRange → spec.HostRange
host_value r = record { root = r.root; first = r.range.first; last = r.range.last }

abbrev pub legacy_value : LegacyBridge → spec.LegacyBridge
legacy_value b = record { slot = b.slot; is_wide = b.is_wide }

abbrev pub taking_value : TakingBridge → spec.TakingBridge
taking_value b = record {
  slot = b.slot;
  io = map decoded_range_of b.io.now;
  memory = map decoded_range_of b.memory.now;
}

abbrev pub code_given_value : Given → spec.Given
code_given_value g = record {
  io = option_map (λ rs. map host_value rs.now) g.io;
  memory = option_map (λ rs. map host_value rs.now) g.memory;
  legacy = map legacy_value g.legacy.now;
  isa = g.isa.now;
  palette = map legacy_value g.palette.now;
  unclaimed = map taking_value g.unclaimed.now;
}

abbrev pub told_value : Told → told_spec.Told
told_value t = record { ranges = t.ranges.now; asleep = t.asleep.now }
