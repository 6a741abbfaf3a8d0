-- The parts with fixed addresses of the code as those of the definitions.
use Rattle.judge_spec.specs.Taken as taken
use Rattle.pci_model.specs.declared.fixed_parts.FixedParts.{FixedParts}

abbrev pub fixed_value : FixedParts → taken.FixedParts
fixed_value f = record { legacy = f.legacy; palette = f.palette }
