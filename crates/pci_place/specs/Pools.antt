-- Pools of the code as those of the definitions.
use Rattle.plan_spec.specs.Plan as plan
use Rattle.pci_base.specs.Ranges.{decoded_range_of}
use Rattle.pci_place.specs.declared.pools.Pools.{Pools}

abbrev pub pools_value : Pools → plan.Pools
pools_value p =
    record {
      io = decoded_range_of p.io;
      memory = decoded_range_of p.mem;
      prefetch = decoded_range_of p.pref;
    }
