use Rattle.std.proofs.Common.{◌⊎◌, ◌≡◌, None, false, refl, subst}
use Rattle.std.specs.List.{All}
use Rattle.pci_first_fit.specs.Slots.{demand_value}
use Rattle.pci_kept.proofs.Asked.{left_of}
use Rattle.pci_grow.specs.Reaching.{reaching_value, tells_whole, TellsWhole}
use Rattle.pci_grow.proofs.Growable.{can_grow, large_of}
use Rattle.pci_grow.proofs.growing.growing.Goals as goal

pub returns-in-Some-clause-fault : goal.returns-in-Some-clause-fault
returns-in-Some-clause-fault g c =
    let a = c.args.admitted.now in
    let d = demand_value c.args.lists.now in
    let left = left_of a d c.args.rules.now c.outline.ensures.admitted c.records.result.now c.records.ensures.value c.outline.ensures.records
    c.of.result c.of.ensures c.open_windows-opened.result c.open_windows-opened.ensures in
    let some = c.in-Some.ensures.some in
    large_of a d c.args.rules.now c.outline.ensures.admitted c.of.result c.open_windows-opened.result left c.in_ok-windows.windows.tables c.in_ok-windows.windows.large c.in_ok-windows.ensures.windows
    (reaching_value c.in_ok-reaching.reaching) c.in_ok-reaching.ensures c.in-Some.window (some.0, subst TellsWhole c.as_slice.ensures.value some.1)

pub growing_by-requires-clause-ready : goal.growing_by-requires-clause-ready
growing_by-requires-clause-ready g c =
    let a = c.args.admitted.now in
    let d = demand_value c.args.lists.now in
    let left = left_of a d c.args.rules.now c.outline.ensures.admitted c.records.result.now c.records.ensures.value c.outline.ensures.records
    c.of.result c.of.ensures c.open_windows-opened.result c.open_windows-opened.ensures in
    let large = c.in_ok-windows.windows.large in (
      _,
      can_grow a d c.args.rules.now c.outline.ensures.admitted c.of.result c.open_windows-opened.result left c.in_ok-windows.windows.tables large c.in_ok-windows.ensures.windows
          (reaching_value c.in_ok-reaching.reaching) c.in_ok-reaching.ensures
          (subst (λ xs. (large ≡ None) ⊎ All (λ ranges. tells_whole ranges ≡ false) xs) c.as_slice.ensures.value (c.in_default.ensures.none refl)),
    )

pub returns-clause-grown : goal.returns-clause-grown
returns-clause-grown g c =
    let a = c.args.admitted.now in
    let d = demand_value c.args.lists.now in
    let left = left_of a d c.args.rules.now c.outline.ensures.admitted c.records.result.now c.records.ensures.value c.outline.ensures.records
    c.of.result c.of.ensures c.open_windows-opened.result c.open_windows-opened.ensures in
    let large = c.in_ok-windows.windows.large in
    c.in_ok-grown.ensures _ (can_grow a d c.args.rules.now c.outline.ensures.admitted c.of.result c.open_windows-opened.result left c.in_ok-windows.windows.tables large c.in_ok-windows.ensures.windows
    (reaching_value c.in_ok-reaching.reaching) c.in_ok-reaching.ensures
    (subst (λ xs. (large ≡ None) ⊎ All (λ ranges. tells_whole ranges ≡ false) xs) c.as_slice.ensures.value (c.in_default.ensures.none refl)))
