use Rattle.std.proofs.Common.{◌≡◌, ◌<◌, Some, true, false, nat_lt, slice_get, get_or, length, arith, rules, sym, ◌∙◌, ap, subst}
use Rattle.std.specs.List.Sorted.{IsPartitionPoint}
use Rattle.std.proofs.lemmas.Bool.{both_ways}
use Rattle.std.proofs.lemmas.Fn.{always_returns_same}
use Rattle.std.proofs.lemmas.Option.{slice_get-get_or, slice_get_within}
use Rattle.pci_spec.specs.Slot.{slot_number}
use Rattle.pci_spec.specs.Machine.{Target}
use Rattle.pci_spec.specs.Port.{target_at, has_function}
use Rattle.pci_machine.specs.Memory.{IsMachine}
use Rattle.pci_machine.proofs.Targets.{found}
use Rattle.pci_machine.proofs.Memory.{lawful_from_rising, below_in_front, at_index, not_at_point}
use Rattle.pci_machine.proofs.machine.Machine.index_of.Goals as goal
use Rattle.pci_machine.proofs.machine.Machine.index_of.Goals.{else-index-len-via-then-index-len+else-is_at-2, else-index-len-via-else-index-len}

pub returns-then-is_at-clause-lawful : goal.returns-then-is_at-clause-lawful
returns-then-is_at-clause-lawful g c = lawful_from_rising c.args.self.now (subst IsMachine c.self.view_is c.self.invariant)

pub returns-else-index-len-clause-lawful : goal.returns-else-index-len-clause-lawful
returns-else-index-len-clause-lawful g c = lawful_from_rising c.args.self.now (subst IsMachine c.self.view_is c.self.invariant)

pub returns-then-is_at-2-clause-lawful : goal.returns-then-is_at-2-clause-lawful
returns-then-is_at-2-clause-lawful g c = lawful_from_rising c.args.self.now (subst IsMachine c.self.view_is c.self.invariant)

pub returns-then-is_at-clause-found : goal.returns-then-is_at-clause-found
returns-then-is_at-clause-found g c =
    let items = c.self.inside.functions.items in
    let k = c.self.inside.last in
    let t = c.index.result.now in
    let within : k < length items = omega (arith, c.if-last-len.true, c.len.ensures) in
    let at : slice_get items k ≡ Some t = slice_get-get_or items k t within ∙ ap Some (sym c.index.ensures) in
    let is : t.slot ≡ c.args.slot = c.is_at.ensures.0 c.if-is_at.true in (
      t,
      ap (λ xs. slice_get xs k) (sym c.self.view_is) ∙ at,
      ap (λ xs. target_at xs c.args.slot) (sym c.self.view_is) ∙ found items c.args.slot k t (lawful_from_rising items c.self.invariant) at is,
    )

pub returns-then-is_at-2-clause-found : goal.returns-then-is_at-2-clause-found
returns-then-is_at-2-clause-found g c =
    let items = c.self.inside.functions.items in
    let k = c.partition_point-index.result in
    let t = c.index-then-index-len.result.now in
    let within : k < length items = omega (arith, c.if-index-len.true, c.len-2.ensures, c.deref.ensures.len, ap length c.deref.ensures.value) in
    let at : slice_get items k ≡ Some t = slice_get-get_or items k t within ∙ ap Some (sym c.index-then-index-len.ensures) in
    let is : t.slot ≡ c.args.slot = c.is_at-then-index-len.ensures.0 c.if-is_at-2.true in (
      t,
      ap (λ xs. slice_get xs k) (sym c.self.view_is) ∙ at,
      ap (λ xs. target_at xs c.args.slot) (sym c.self.view_is) ∙ found items c.args.slot k t (lawful_from_rising items c.self.invariant) at is,
    )

pub returns-else-index-len-clause-there : goal.returns-else-index-len-clause-there
returns-else-index-len-clause-there g c =
    let xs = c.deref.result.now in
    let machine : IsMachine xs = subst IsMachine (sym c.deref.ensures.value) c.self.invariant in
    let same : xs ≡ c.args.self.now = c.deref.ensures.value ∙ c.self.view_is in
    let n = c.number-number.result in
    let k = c.partition_point-index.result in
    let point = c.partition_point-index.ensures.partitioned (λ t. nat_lt (slot_number t.slot) n) (always_returns_same _ _ _ (λ a r f h. search rules)) (below_in_front xs machine n) in
    let there = subst (λ m. IsPartitionPoint (λ t. nat_lt (slot_number t.slot) m ≡ true) (λ t. nat_lt (slot_number t.slot) m ≡ false) xs k) c.number-number.ensures.number point in
    ap (λ ys. has_function ys c.args.slot) (sym same) ∙ not_at_point xs machine c.args.slot k there (λ t at is.
    elim c.else-index-len.branch [
      | else-index-len-via-then-index-len+else-is_at-2 w ↦
          let r : w.index-then-index-len.result.now ≡ t =
          at_index xs k t w.index-then-index-len.result.now at (w.index-then-index-len.ensures ∙ ap (λ ys. get_or ys k w.index-then-index-len.result.now) (sym c.deref.ensures.value)) in
          both_ways w.is_at-then-index-len.result w.if-is_at-2.false (w.is_at-then-index-len.ensures.1 (ap (λ (u : Target). u.slot) r ∙ is))
      | else-index-len-via-else-index-len w ↦
          let within = slice_get_within xs k t at in
          omega (arith, within, w.if-index-len.false, c.len-2.ensures, c.deref.ensures.len)
    ])
