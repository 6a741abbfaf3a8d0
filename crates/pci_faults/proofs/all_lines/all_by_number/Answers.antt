use Rattle.std.proofs.Common.{List, Bool, subst, sym}
use Rattle.pci_spec.specs.Slot.{Slot}
use Rattle.pci_claims.specs.Values.{told_value}
use Rattle.pci_claims.specs.BusClaims.{AreBridgesOf}
use Rattle.pci_claims.specs.ToldOn.{AreOnIn}
use Rattle.pci_faults.proofs.all_lines.all_by_number.Goals as goal

pub lines_of-requires : goal.lines_of-requires
lines_of-requires g c = record {
  lawful = c.requires;
  each_on = subst (λ (l : List Bool). AreOnIn (told_value c.args.told.now) c.args.outline.now l) (sym c.deref.ensures.value) c.in_ok-on.ensures;
  all_bridges = subst (λ (l : List Slot). AreBridgesOf c.args.outline.now l) (sym c.deref-2.ensures.value) c.in_ok-bridges.ensures;
}
