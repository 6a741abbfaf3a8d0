use Rattle.std.proofs.Common.{ℕ, slice_index_or, slice_set, rules, ◌∙◌, ap}
use Rattle.pci_spec.specs.Machine.{Target}
use Rattle.pci_machine.specs.Memory.{pinned}
use Rattle.pci_machine.proofs.Bytes.{without_bits-and}
use Rattle.pci_machine.proofs.registers.ConfigSpace.pin.Goals as goal

pub returns : goal.returns
returns c =
    let w = c.self.inside.writable in
    let spot = c.from.result in
    let bits = without_bits-and (slice_index_or w spot 0) c.args.mask (search rules) (search rules) in
    ap (λ (n : ℕ). let t : Target = record { slot = c.self.inside.slot; image = c.self.inside.image.0; writable = slice_set w spot n; clearing = c.self.inside.clearing } in t) bits
    ∙ ap (λ (k : ℕ). pinned (record { slot = c.self.inside.slot; image = c.self.inside.image.0; writable = w; clearing = c.self.inside.clearing }) k c.args.mask) c.from.ensures
    ∙ ap (λ (t : Target). pinned t c.args.off c.args.mask) c.self.view_is
