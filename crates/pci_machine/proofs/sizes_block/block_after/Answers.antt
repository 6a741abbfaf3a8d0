use Rattle.std.proofs.Common.{ap, sym, subst, ◌∙◌, length, List, ℕ}
use Rattle.pci_spec.specs.Form.{Fits}
use Rattle.pci_spec.specs.Slot.{IsRising}
use Rattle.pci_spec.specs.SizesText.{SizesBlock}
use Rattle.pci_spec.specs.SizesForm.{sizes_cells}
use Rattle.std.proofs.lemmas.Bool.{false≢true}
use Rattle.pci_spec.proofs.SizesTexts.{block_long, fits_sizes, sized_same}
use Rattle.pci_spec.proofs.SizesFaults.{slots_with}
use Rattle.pci_machine.proofs.sizes_block.block_after.Goals as goal

pub returns-then-bytes-ne-BLOCK_LEN-clause-no : goal.returns-then-bytes-ne-BLOCK_LEN-clause-no
returns-then-bytes-ne-BLOCK_LEN-clause-no c = λ no b holds text rising. c.if-bytes-ne-BLOCK_LEN.true (ap length text ∙ block_long b holds)

pub returns-then-not-block_into-clause-no : goal.returns-then-not-block_into-clause-no
returns-then-not-block_into-clause-no c = λ no b holds text rising. c.block_into.ensures.no c.if-not-block_into.true (subst (λ (t : List ℕ). Fits sizes_cells t) (sym text) (fits_sizes b holds))

pub returns-clause-no : goal.returns-clause-no
returns-clause-no c = λ no b holds text rising.
    let read = c.block_into.ensures.yes c.if-not-block_into.false in
    let same = sized_same b c.block_into.new.block holds read.0 (sym text ∙ read.1) in
    let slot = ap (λ (x : SizesBlock). x.slot) (same ∙ sym c.block.view_is) in
    false≢true (sym no ∙ c.may_follow.ensures.1 (subst IsRising (slots_with c.args.blocks.now b c.block.inside.slot slot) rising))
