use Rattle.std.proofs.Common.{map, ap, subst, sym, ◌∙◌}
use Rattle.std.specs.Prelude.{MatchOption}
use Rattle.std.specs.List.{Contains}
use Rattle.std.proofs.lemmas.Bool.{both_ways}
use Rattle.pci_spec.specs.System.{System}
use Rattle.pci_spec.specs.Decoded.{HasRecords}
use Rattle.pci_tree.specs.Ways.{slots_of}
use Rattle.pci_tree.specs.Outline.{Tree, RiseBySlot, IsPathTo}
use Rattle.pci_tree.proofs.Outlines.{slots_of_values, path_to}
use Rattle.pci_tree.proofs.outline.Outline.path.Goals as goal

pub has_slot-requires : goal.has_slot-requires
has_slot-requires g c = subst RiseBySlot (sym c.deref.ensures.value) c.self.invariant.0.rising

pub returns-then-not-has_slot : goal.returns-then-not-has_slot
returns-then-not-has_slot g c = λ has.
    both_ways _ c.if-not-has_slot.true (c.has_slot.ensures.1 (subst (λ xs. Contains xs c.args.slot)
    (ap (λ (t : Tree). map (λ r. r.slot) t.records) (sym c.self.view_is) ∙ slots_of_values c.self.inside.records.items ∙ ap slots_of (sym c.deref.ensures.value)) has))

pub returns : goal.returns
returns g c =
    subst (λ (t : Tree). MatchOption c.path.result (Contains (map (λ r. r.slot) t.records) c.args.slot → ⊥) (λ v. (s : System) → HasRecords s t.records → IsPathTo t.roots s v.items c.args.slot.bus))
    c.self.view_is
    (path_to (λ v. v.items) _ c.self.inside.records.items c.deref-2.result.now c.args.slot c.bus.result c.path.result c.self.invariant.0 c.deref-2.ensures.value c.bus.ensures
    (subst (λ rs. Contains (slots_of rs) c.args.slot) (c.deref.ensures.value ∙ sym c.deref-2.ensures.value) (c.has_slot.ensures.0 c.if-not-has_slot.false)) c.path.ensures)
