use Rattle.std.proofs.Common.{◌≡◌, ◌∙◌, List, length, map, sym, ap, subst}
use Rattle.std.proofs.lemmas.Result.{IfOk-weaker}
use Rattle.pci_spec.specs.Text.{Block}
use Rattle.settle_spec.specs.Lists.{Request}
use Rattle.settle_spec.specs.Kept.{Kept}
use Rattle.pci_tree.specs.Admission.{Admission, IsAdmitted}
use Rattle.pci_place.specs.Above.{system_in}
use Rattle.pci_settle.specs.declared.writes.Stages.{Stages}
use Rattle.pci_settle.specs.Shut.{AreClosings}
use Rattle.pci_settle.specs.Dumps.{IsSettledDump}
use Rattle.pci_settle.specs.Stages.{AreOf, AreStages}
use Rattle.pci_settle.proofs.StagedWrites.{count_of}
use Rattle.pci_settle.proofs.States.{start_of, probe_count, probes_of, settled_of}
use Rattle.pci_settle.proofs.writes.writes_to.Goals as goal
use Rattle.pci_settle.proofs.writes.writes_to.Goals.{After-blocks-3}
use Rattle.pci_settle.proofs.writes.writes_to.Given.{Over}

module _ (g : Over) (c : After-blocks-3 g) where
  abbrev a : Admission
  a = c.args.admitted.now

  admitted_is : IsAdmitted a
  admitted_is = c.outline-outline.ensures.admitted

  blocks_are : c.blocks-2.result.now ≡ a.dump
  blocks_are = c.blocks-2.ensures.value ∙ c.dump.ensures

  probes_are : c.blocks-3.result.now ≡ a.probe
  probes_are = c.blocks-3.ensures.value ∙ c.probe.ensures

  start : AreOf (system_in a) c.blocks-2.result.now
  start = subst (λ (bs : List Block). AreOf (system_in a) bs) (sym blocks_are) (start_of a admitted_is)

  abbrev stages : Stages
  stages = record { start = c.blocks-2.result; probe = c.blocks-3.result; closings = c.args.closings; settled = c.args.settled }

  are : (q : Request) (keep : Kept) → IsSettledDump q keep a c.args.settled.now → AreClosings q (system_in a) keep c.args.closings.now → AreStages q (system_in a) keep stages
  are q keep to closings = record {
    system = admitted_is.system;
    start = start;
    probe = ap (map (λ (b : Block). b.image)) probes_are ∙ probes_of a admitted_is;
    closings = closings;
    settled = settled_of a admitted_is q keep c.args.settled.now to;
  }

pub writes_by-requires : goal.writes_by-requires
writes_by-requires g c =
    let first = (goal.at.writes_by-requires g c).After-blocks-3 in
    record {
      probe = ap length (probes_are g first) ∙ probe_count (a g first) (admitted_is g first) ∙ sym (ap length (blocks_are g first));
      closings = c.requires.closings ∙ count_of (system_in (a g first)) c.blocks-2.result.now (start g first);
      settled = c.requires.settled ∙ sym (ap length (blocks_are g first));
    }

pub returns-clause-writes : goal.returns-clause-writes
returns-clause-writes g c =
    let first = (goal.at.returns-clause-writes g c).After-blocks-3 in
    IfOk-weaker c.writes_by.result _ _ (λ w is q keep to closings. is q (system_in (a g first)) keep (are g first q keep to closings)) c.writes_by.ensures.writes

pub returns-clause-closings : goal.returns-clause-closings
returns-clause-closings g c =
    let first = (goal.at.returns-clause-closings g c).After-blocks-3 in
    IfOk-weaker c.writes_by.result _ _ (λ w is q keep to closings. is q (system_in (a g first)) keep (are g first q keep to closings)) c.writes_by.ensures.closings
