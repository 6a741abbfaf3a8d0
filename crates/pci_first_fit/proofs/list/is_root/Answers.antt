use Rattle.std.proofs.Common.{inl, inr, sym, ◌∙◌}
use Rattle.std.proofs.lemmas.Bool.{cases_Bool, both_ways, false_from_ne_true}
use Rattle.pci_spec.specs.Bus.{is_root}
use Rattle.pci_spec.proofs.BusRanges.{root_means}
use Rattle.pci_tree.specs.Roots.{buses_of}
use Rattle.pci_first_fit.proofs.list.is_root.Goals as goal

pub returns : goal.returns
returns c = elim (cases_Bool c.has.result) [
  | inl is ↦ is ∙ sym ((root_means (buses_of c.args.roots.now) c.args.bus).1 (c.has.ensures.0 is))
  | inr not ↦ not
      ∙ sym (false_from_ne_true (is_root (buses_of c.args.roots.now) c.args.bus) (λ root. both_ways c.has.result not (c.has.ensures.1 ((root_means (buses_of c.args.roots.now) c.args.bus).0 root))))
]
