use Rattle.std.proofs.Common.{◌≡◌, arith, List, ℕ, ◌<◌, length, get_or, subst, sym, ap, ◌∙◌}
use Rattle.std.specs.List.{All}
use Rattle.pci_spec.specs.Window.{IoWindow, MemoryWindow, PrefetchWindow}
use Rattle.pci_base.specs.declared.range.Range.{Range}
use Rattle.pci_base.specs.declared.window_kind.WindowKind.{WindowKind}
use Rattle.pci_base.specs.declared.window_kind.ByKind.{ByKind}
use Rattle.pci_base.specs.WindowKinds.{by_kind}
use Rattle.pci_base.proofs.WindowKinds.{each_by_kind}
use Rattle.pci_tree.specs.Ranges.{IsCanonical}
use Rattle.pci_check.specs.Stops.{AreWholeReaches}
use Rattle.pci_check.proofs.reached.Reached.ranges.Goals as goal

abbrev IsWhole : List (List Range) → Type 0
IsWhole lists = (length lists ≡ 256) × All IsCanonical lists

-- the lists of a kind are whole as all are
lent_whole : {V : Type 0} (items : V → List (List Range)) (b : ByKind V) (kind : WindowKind) (got : V) (lists : List (List Range)) → lists ≡ items got → got ≡ by_kind b kind
    → AreWholeReaches record { io = items b.io; memory = items b.memory; prefetch = items b.prefetchable } → IsWhole lists
lent_whole items b kind got lists lent same whole =
    subst IsWhole (sym (lent ∙ ap items same)) (each_by_kind (λ v. IsWhole (items v)) b kind
    (whole.count IoWindow, whole.canonical IoWindow) (whole.count MemoryWindow, whole.canonical MemoryWindow) (whole.count PrefetchWindow, whole.canonical PrefetchWindow))

pub offset_bounds-reaches-from : goal.offset_bounds-reaches-from
offset_bounds-reaches-from g c =
    let whole = lent_whole (λ v. v.items) c.self.inside.reaches c.args.kind c.get.result.now c.as_slice-reaches.result.now c.as_slice-reaches.ensures.value c.get.ensures c.self.invariant in
    let count = whole.0 in
    omega (arith, count)

pub bounds-reaches-from : goal.bounds-reaches-from
bounds-reaches-from g c =
    let whole = lent_whole (λ v. v.items) c.self.inside.reaches c.args.kind c.get.result.now c.as_slice-reaches.result.now c.as_slice-reaches.ensures.value c.get.ensures c.self.invariant in
    let count = whole.0 in
    omega (arith, count)

-- the element that was lent is canonical, and so is what it lends
lent : (lists : List (List Range)) (k : ℕ) (x y : List Range) → IsWhole lists → k < 256 → x ≡ get_or lists k x → y ≡ x → IsCanonical y
lent lists k x y whole small is same = let count = whole.0 in subst IsCanonical (sym same) (subst IsCanonical (sym is) (whole.1 k x (omega (arith, small, count))))

pub returns-clause-canonical : goal.returns-clause-canonical
returns-clause-canonical g c =
    let whole = lent_whole (λ v. v.items) c.self.inside.reaches c.args.kind c.get.result.now c.as_slice-reaches.result.now c.as_slice-reaches.ensures.value c.get.ensures c.self.invariant in
    lent c.as_slice-reaches.result.now c.from.result c.index-reaches-from.result _ whole (omega arith) c.index-reaches-from.is c.ranges-2.ensures
