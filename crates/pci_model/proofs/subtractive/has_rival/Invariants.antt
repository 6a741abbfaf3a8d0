use Rattle.std.proofs.Common.{◌≡◌, false}
use Rattle.std.specs.List.{AllWithin}
use Rattle.pci_model.specs.Subtractive.{is_rival_block}
use Rattle.pci_model.proofs.subtractive.has_rival.Given as goal

abbrev pub invariant-loop-i : goal.invariant-loop-i
invariant-loop-i l = AllWithin (λ b. is_rival_block l.slot b ≡ false) l.blocks 0 l.i
