use Rattle.std.proofs.Common.{sym, ap, arith}
use Rattle.std.proofs.lemmas.Bool.{ltb-true, lt-ltb}
use Rattle.pci_spec.specs.Slot.{slot_number}
use Rattle.pci_machine.proofs.SizesBlocks.{rises_with, rises_above}
use Rattle.pci_machine.proofs.sizes_block.may_follow.Goals as goal

pub returns-in-Some : goal.returns-in-Some
returns-in-Some c =
    let some = ltb-true 0 _ (sym c.in-Some.ensures.item.0) in
    let last = ap (λ b. slot_number b.slot) c.last-in-Some.view_is in
    let number = c.number.ensures.number in
    let other = c.number-in-Some.ensures.number in (
      (λ less.
          let below = ltb-true c.number.result c.number-in-Some.result less in
          rises_with c.args.blocks.now c.args.slot c.in-Some.last.now some c.in-Some.ensures.value c.requires (omega (arith, below, last, number, other))),
      (λ rising.
          let above = rises_above c.args.blocks.now c.args.slot c.in-Some.last.now some c.in-Some.ensures.value rising in
          lt-ltb c.number.result c.number-in-Some.result (omega (arith, above, last, number, other))),
    )
