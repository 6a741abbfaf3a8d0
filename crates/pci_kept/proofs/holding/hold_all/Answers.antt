use Rattle.std.proofs.Common.{◌≡◌, ◌+◌, ◌-◌, ◌<◌, ℕ, length, get_or, refl, arith, sym, ◌∙◌, ap, subst, Some}
use Rattle.std.specs.Option.{is_some}
use Rattle.std.specs.List.{slice_get}
use Rattle.std.proofs.lemmas.Option.{slice_get-get_or}
use Rattle.pci_tree.proofs.Lifting.{same_bridge}
use Rattle.pci_place.specs.Above.{system_in}
use Rattle.pci_place.specs.Items.{no_function}
use Rattle.pci_place.proofs.Records.{lent, same_count}
use Rattle.pci_kept.specs.Holding.{IsHeldFrom}
use Rattle.pci_kept.proofs.HeldTables.{record_at, held_last, held_same, all_hold}
use Rattle.pci_kept.proofs.holding.hold_all.Goals as goal
use Rattle.pci_kept.proofs.holding.hold_all.Goals.{then-is_some+in_ok-hold_bridge, else-is_some}

all_of : (n : ℕ) → n - 0 ≡ n
all_of n = omega arith

none_of : (n m done : ℕ) → n ≡ m → m - done ≡ 0 → n - done ≡ 0
none_of n m done same none = omega (arith, same, none)

before_it : (n m done : ℕ) → n ≡ m → done < m → n - done ≡ m - 1 - done + 1
before_it n m done same less = omega (arith, same, less)

after_it : (n m done : ℕ) → n ≡ m → done < m → m - 1 - done ≡ n - (done + 1)
after_it n m done same less = omega (arith, same, less)

inside : (n m done : ℕ) → n ≡ m → done < m → m - 1 - done < n
inside n m done same less = omega (arith, same, less)

pub loop-done-init : goal.loop-done-init
loop-done-init g c = record {
  size = refl;
  held = λ q asking are. (
      let s = system_in c.args.behind.now.classing.now.admitted.now in
      subst (IsHeldFrom q s c.args.table.now) (sym (all_of (length s))) (held_last q s asking.system asking.nested c.args.table.now are));
}

pub loop-done-preserved : goal.loop-done-preserved
loop-done-preserved g c = record {
  size = c.if-is_some.auto.table ∙ c.loop-done.invariant.size;
  held = λ q asking are. (
      let s = system_in c.args.behind.now.classing.now.admitted.now in
      let records = c.records-records.result.now in
      let has = lent s records c.records-records.ensures.value c.outline.ensures.records in
      let count = same_count s records has in
      let done = c.loop-done.done in
      let less = c.loop-done-test.true in
      let k = length records - 1 - done in
      let f = get_or s k no_function in
      let at : slice_get s k ≡ Some f = slice_get-get_or s k no_function (inside (length s) (length records) done count less) in
      let was = subst (IsHeldFrom q s c.loop-done.table) (before_it (length s) (length records) done count less) (c.loop-done.invariant.held q asking are) in
      subst (IsHeldFrom q s c.if-is_some.table) (after_it (length s) (length records) done count less)
      (elim c.if-is_some.branch [
        | then-is_some+in_ok-hold_bridge w ↦
            subst (λ t. IsHeldFrom q s t k) (sym w.table-is) (w.in_ok-hold_bridge.ensures q f asking at was)
        | else-is_some w ↦
            subst (λ t. IsHeldFrom q s t k) (sym w.table-is)
            (held_same q s asking.system asking.nested k f at c.loop-done.table was
            (sym (same_bridge c.index-records-function.result f (record_at s records has k f at c.index-records-function.result c.index-records-function.is).value)
            ∙ ap (λ r. is_some r.bridge) c.index-records-function.is ∙ sym c.is_some.ensures ∙ w.if-is_some.false))
      ]));
}

pub returns : goal.returns
returns g c = λ q asking are.
    let s = system_in c.args.behind.now.classing.now.admitted.now in
    let records = c.records-records.result.now in
    let has = lent s records c.records-records.ensures.value c.outline.ensures.records in
    let count = same_count s records has in
    let past = c.loop-done-test.false in
    all_hold q s asking.system asking.nested c.loop-done.table
    (subst (IsHeldFrom q s c.loop-done.table) (none_of (length s) (length records) c.loop-done.done count (omega (arith, past))) (c.loop-done.invariant.held q asking are))
