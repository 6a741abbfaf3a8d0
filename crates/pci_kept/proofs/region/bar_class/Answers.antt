use Rattle.std.proofs.Common.{◌≡◌, sym, ◌∙◌, ap, refl}
use Rattle.pci_base.specs.declared.window_kind.WindowKind.{WindowKind}
use Rattle.pci_base.specs.declared.window_kind.WindowKind.TheVariants as kinds
use Rattle.pci_base.specs.WindowKinds.{kind_value}
use Rattle.pci_kept.specs.Regions.{kind_of}
use Rattle.pci_kept.proofs.region.bar_class.Goals as goal

kind_back : (k : WindowKind) → kind_of (kind_value k) ≡ k
kind_back kinds.Io = refl
kind_back kinds.Memory = refl
kind_back kinds.Prefetchable = refl

pub returns : goal.returns
returns c = sym (kind_back c.class_of.result) ∙ ap kind_of c.class_of.ensures
