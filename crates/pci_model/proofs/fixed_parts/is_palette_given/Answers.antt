use Rattle.std.proofs.Common.{◌≡◌, true, ◌&&◌, sym}
use Rattle.pci_model.proofs.fixed_parts.is_palette_given.Goals as goal

pub returns-then-words : goal.returns-then-words
returns-then-words c slot probe =
    let counts : true ≡ c.args.words.snoop = sym c.if-words.true in
    λ i. counts i && c.has_palette.ensures slot probe i
