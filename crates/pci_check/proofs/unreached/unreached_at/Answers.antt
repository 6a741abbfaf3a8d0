use Rattle.std.proofs.Common.{List, subst, sym, refl}
use Rattle.pci_spec.specs.Slot.{Slot}
use Rattle.pci_tree.specs.Outline.{IsPathTo}
use Rattle.pci_base.specs.Space.{space_of}
use Rattle.pci_check.proofs.Homes.{whole_without_path, whole_unstopped, unreached_fault, unreached_line}
use Rattle.pci_check.proofs.unreached.unreached_at.Goals as goal

pub returns-in-None-clause-fault : goal.returns-in-None-clause-fault
returns-in-None-clause-fault g c =
    whole_without_path c.args.outline.now c.args.reached.now c.requires.reached c.requires.nested (space_of c.args.space) c.args.region.now
    c.in-None.ensures

pub returns-in-None-first_stop-clause-fault : goal.returns-in-None-first_stop-clause-fault
returns-in-None-first_stop-clause-fault g c =
    whole_unstopped c.args.outline.now c.args.reached.now c.requires.reached c.requires.nested (space_of c.args.space) c.args.region.now c.as_slice-path.result.now
    (λ s tree. subst (λ (path : List Slot). IsPathTo c.args.outline.now.roots s path c.args.region.now.slot.bus) (sym c.as_slice-path.ensures.value) (c.in-Some.ensures s tree.records))
    c.in-None-first_stop.ensures

pub returns-in-Some-first_stop : goal.returns-in-Some-first_stop
returns-in-Some-first_stop g c = record {
  fault = unreached_fault c.args.outline.now c.args.reached.now c.requires.reached c.requires.nested (space_of c.args.space) c.args.region.now c.as_slice-path.result.now
      c.in-Some-first_stop.stop.index c.in-Some-first_stop.stop.address c.index-path-stop.result
      (λ s tree. subst (λ (path : List Slot). IsPathTo c.args.outline.now.roots s path c.args.region.now.slot.bus) (sym c.as_slice-path.ensures.value) (c.in-Some.ensures s tree.records))
      c.in-Some-first_stop.ensures c.index-path-stop.is;
  line = λ s tree bus on no_window. (
    refl,
    refl,
    refl,
    unreached_line c.args.outline.now c.args.reached.now c.requires.reached c.requires.nested (space_of c.args.space) c.args.region.now
        c.as_slice-path.result.now c.in-Some-first_stop.stop.index c.in-Some-first_stop.stop.address c.index-path-stop.result
        (λ s tree. subst (λ (path : List Slot). IsPathTo c.args.outline.now.roots s path c.args.region.now.slot.bus) (sym c.as_slice-path.ensures.value) (c.in-Some.ensures s tree.records))
        c.in-Some-first_stop.ensures c.index-path-stop.is s tree bus on no_window,
  );
}
