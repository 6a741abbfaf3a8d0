use Rattle.std.proofs.Common.{subst, sym, slice_index_or, arith, Result, Ok, Err}
use Rattle.std.specs.Prelude.{IfOk}
use Rattle.std.specs.List.{All}
use Rattle.std.proofs.lemmas.Result.{IfOk-weaker}
use Rattle.pci_spec.specs.Bus.{IsNested}
use Rattle.pci_spec.specs.Decoded.{HasRecords}
use Rattle.pci_spec.specs.System.{window_space}
use Rattle.pci_base.specs.WindowKinds.{kind_value}
use Rattle.pci_base.specs.Space.{is_prefetch}
use Rattle.pci_tree.specs.Roots.{buses_of}
use Rattle.pci_tree.specs.Ranges.{IsCanonical}
use Rattle.pci_tree.specs.Reaches.{HasSpans, IsReachOf}
use Rattle.pci_tree.specs.Outline.{Tree, IsReachTo}
use Rattle.pci_tree.proofs.Lifting.{Has}
use Rattle.pci_tree.proofs.Outlines.{have_spans, reach_to}
use Rattle.pci_tree.proofs.outline.Outline.reaches.Goals as goal

pub reaches-requires-clause-spans : goal.reaches-requires-clause-spans
reaches-requires-clause-spans g c = subst (All HasSpans) (sym c.deref.ensures.value) (have_spans c.self.inside.records.items c.self.invariant.0.lawful)

pub returns-clause-exact : goal.returns-clause-exact
returns-clause-exact g c = IfOk-weaker c.reaches.result _ _
    (λ v exact s bus d has small. (
    let here : Has s c.self.inside.records.items = subst (λ (t : Tree). HasRecords s t.records) (sym c.self.view_is) has in
    subst (λ (t : Tree). IsReachTo t.roots s (window_space (kind_value c.args.kind)) (is_prefetch (kind_value c.args.kind)) bus (slice_index_or v.items bus d)) c.self.view_is
    (reach_to (buses_of c.self.inside.roots) s c.self.inside.records.items (kind_value c.args.kind) bus (slice_index_or v.items bus d) here
    (subst (λ rs. IsReachOf rs (buses_of c.self.inside.roots) (kind_value c.args.kind) bus (slice_index_or v.items bus d)) c.deref.ensures.value (exact bus d small)))))
    c.reaches.ensures.exact

-- what follows from two clauses
both : {X Y : Type 0} (r : Result X Y) (P Q R : X → Type 0) → IfOk r P → IfOk r Q → ((x : X) → P x → Q x → R x) → IfOk r R
both (Ok x) P Q R p q then = then x p q
both (Err y) P Q R p q then = tt {0}

pub returns-clause-canonical : goal.returns-clause-canonical
returns-clause-canonical g c =
    both c.reaches.result _ _ (λ v. All IsCanonical v.items) c.reaches.ensures.size c.reaches.ensures.exact
    (λ v size exact bus d within. (exact bus d (omega (arith, size, within))).canonical)

pub returns-clause-nested : goal.returns-clause-nested
returns-clause-nested g c = λ s has.
    subst (λ (t : Tree). HasRecords s t.records → IsNested t.roots s) c.self.view_is (c.self.invariant.0.nested s) has
