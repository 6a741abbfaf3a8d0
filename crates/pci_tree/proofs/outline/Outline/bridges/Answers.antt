use Rattle.std.proofs.Common.{ap, subst, sym, ◌∙◌}
use Rattle.std.specs.List.{filter}
use Rattle.std.proofs.lemmas.Result.{IfOk-weaker}
use Rattle.pci_spec.specs.Decoded.{HasRecords}
use Rattle.pci_tree.specs.Ways.{is_bridging, slots_of}
use Rattle.pci_tree.specs.Outline.{Tree}
use Rattle.pci_tree.proofs.Lifting.{Has}
use Rattle.pci_tree.proofs.Outlines.{same_bridges}
use Rattle.pci_tree.proofs.outline.Outline.bridges.Goals as goal

pub returns : goal.returns
returns g c = IfOk-weaker c.bridges_among.result _ _
    (λ v is s has. (
    let here : Has s c.self.inside.records.items = subst (λ (t : Tree). HasRecords s t.records) (sym c.self.view_is) has in
    is ∙ ap (λ rs. slots_of (filter is_bridging rs)) c.deref.ensures.value ∙ same_bridges s c.self.inside.records.items here.same))
    c.bridges_among.ensures
