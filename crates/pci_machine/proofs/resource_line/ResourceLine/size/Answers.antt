use Rattle.std.proofs.Common.{◌≡◌, ◌+◌, ◌-◌, true, false, arith, subst}
use Rattle.pci_spec.specs.Resource.{has_size, address_count}
use Rattle.pci_machine.proofs.Powers.{none_below, none_of_all, told, counted, bounded, none_else}
use Rattle.pci_machine.proofs.resource_line.ResourceLine.size.Goals as goal
use Rattle.pci_machine.proofs.resource_line.ResourceLine.size.Goals.{then-self-via-then-self, then-self-via-else-self+then-self-2, else-place-most-via-then-place-most+else-size-place, else-place-most-via-else-place-most}

pub returns-then-self-clause-told : goal.returns-then-self-clause-told
returns-then-self-clause-told c =
    let i = c.self.inside in
    subst (λ l. has_size c.args.most l ≡ false) c.self.view_is (elim c.then-self.branch [
      | then-self-via-then-self w ↦ none_below i.first i.last i.flags c.args.most c.requires w.if-self.true
      | then-self-via-else-self+then-self-2 w ↦ none_of_all i.first i.last i.flags c.args.most c.requires w.if-self-2.true
    ])

pub returns-then-size-place-clause-told : goal.returns-then-size-place-clause-told
returns-then-size-place-clause-told c =
    let i = c.self.inside in
    subst (λ l. (has_size c.args.most l ≡ true) × (i.last - i.first + 1 ≡ address_count l)) c.self.view_is (
      told i.first i.last i.flags c.args.most c.requires c.if-self.false c.if-place-most.true c.if-size-place.true,
      counted i.first i.last i.flags c.args.most c.requires c.if-self.false,
    )

pub returns-then-size-place-clause-bounds : goal.returns-then-size-place-clause-bounds
returns-then-size-place-clause-bounds c =
    let i = c.self.inside in (
      omega arith,
      bounded i.first i.last i.flags c.args.most c.requires c.if-place-most.true c.if-size-place.true,
    )

pub returns-else-place-most-clause-told : goal.returns-else-place-most-clause-told
returns-else-place-most-clause-told c =
    let i = c.self.inside in
    subst (λ l. has_size c.args.most l ≡ false) c.self.view_is (
    none_else i.first i.last i.flags c.args.most c.requires c.if-self.false (λ few is. elim c.else-place-most.branch [
      | else-place-most-via-then-place-most+else-size-place w ↦ w.if-size-place.false is
      | else-place-most-via-else-place-most w ↦ let more = w.if-place-most.false in omega (arith, few, more)
    ]))
