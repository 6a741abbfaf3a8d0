use Rattle.std.proofs.Common.{◌≡◌, ◌++◌, ◌∷◌, [], List, Option, Some, ℕ, get_or, sym, ◌∙◌, ap}
use Rattle.std.proofs.lemmas.Bool.{cond-true, cond-false}
use Rattle.std.proofs.lemmas.List.{append-nil}
use Rattle.std.proofs.lemmas.Result.{err_from_is_err_and}
use Rattle.pci_spec.specs.Derived.{register_derived, read_back_of, is_assumed}
use Rattle.pci_spec.specs.NoProbe.{NoProbe, register_fault, no_probe}
use Rattle.pci_spec.specs.NoProbe as spec
use Rattle.pci_spec.specs.Resource.{ResourceLine}
use Rattle.pci_image.specs.Header.{HasHeader}
use Rattle.pci_machine.proofs.Turns.{none}
use Rattle.pci_machine.specs.declared.derive_fault.DeriveFault.{DeriveFault}
use Rattle.pci_machine.specs.declared.derive_fault.DeriveFault.TheVariants.{Header, NoSize, OtherSize}
use Rattle.pci_machine.specs.Assuming.{assuming_of}
use Rattle.pci_machine.specs.declared.assuming.Assuming.{Assuming}
use Rattle.pci_machine.specs.Derived.{derived_of}
use Rattle.pci_machine.specs.DeriveFault.{IsDeriveFault, IsOfRegister}
use Rattle.pci_machine.proofs.DerivedRegisters.{derived_none, derived_fault, derived_more, IsDerivedOfAll, derived_of_all}
use Rattle.pci_machine.proofs.derive.derive.Goals as goal
use Rattle.pci_machine.proofs.derive.derive.Goals.{then-is_assumed, else-is_assumed}

fault_of : (assuming : Assuming) (image : List ℕ) (lines : List ResourceLine) (fault : DeriveFault) (found : Option NoProbe) → IsOfRegister fault found → HasHeader image
    → ((x : NoProbe) → found ≡ Some x → no_probe (assuming_of assuming) image lines ≡ Some x) → IsDeriveFault assuming image lines fault
fault_of assuming image lines (Header fault) found is header first = absurd is
fault_of assuming image lines (NoSize register) found is header first = (header, first (spec.NoSize register) is)
fault_of assuming image lines (OtherSize register) found is header first = (header, first (spec.OtherSize register) is)

pub loop-place-init : goal.loop-place-init
loop-place-init c =
    let table = c.address_registers-place-items.ensures in
    derived_none (assuming_of c.args.assuming) c.args.image.now.0 c.args.lines.now c.in-Ok.layout c.address_registers-place-items.result.now table.places table.roles c.new-assumed.result.items c.new-assumed.ensures

pub register-derived-requires-clause-place : goal.register-derived-requires-clause-place
register-derived-requires-clause-place c = (c.loop-place.invariant.filled.turn c.loop-place.place-index c.loop-place-test.true).placed

pub returns-in_err-read_back-clause-fault : goal.returns-in_err-read_back-clause-fault
returns-in_err-read_back-clause-fault c =
    let items = c.address_registers-place-items.result.now in
    let offset = (get_or items c.loop-place.place-index none).offset in
    let p = err_from_is_err_and c.from_residual.result c.from_residual.ensures.1 in
    rw (p.1, p.2) (fault_of c.args.assuming c.args.image.now.0 c.args.lines.now c.in_err-read_back.field-0.0 (register_fault (assuming_of c.args.assuming) offset (derived_of c.register-derived.result))
    c.in_err-read_back.ensures.fault c.in-Ok.ensures.header (λ found is.
    derived_fault (assuming_of c.args.assuming) c.args.image.now.0 c.args.lines.now c.in-Ok.layout items c.in-Ok.ensures.layout c.address_registers-place-items.ensures.places c.loop-place.place-index
    c.loop-place.probe.0 c.loop-place.assumed.items found c.loop-place-test.true c.loop-place.invariant (sym (ap (register_fault (assuming_of c.args.assuming) offset) c.register-derived.ensures.derived) ∙ is)))

pub put-requires : goal.put-requires
put-requires c = (c.loop-place.invariant.filled.turn c.loop-place.place-index c.loop-place-test.true).access

pub loop-place-preserved : goal.loop-place-preserved
loop-place-preserved c =
    let items = c.address_registers-place-items.result.now in
    let offset = (get_or items c.loop-place.place-index none).offset in
    let derived = c.register-derived.ensures.derived in
    let taken = c.in_ok-read_back.ensures in
    let assumes : c.in_ok-read_back.is_assumed ≡ is_assumed (register_derived c.args.image.now.0 c.args.lines.now offset) = taken.read_back.1 ∙ ap is_assumed derived in
    let so_far = c.loop-place.assumed.items in
    derived_more (assuming_of c.args.assuming) c.args.image.now.0 c.args.lines.now c.in-Ok.layout items c.loop-place.place-index c.loop-place-test.true
    c.loop-place.probe.0 c.put.new.bytes so_far c.if-is_assumed.assumed.items c.in_ok-read_back.read_back c.loop-place.invariant
    (sym (ap (register_fault (assuming_of c.args.assuming) offset) derived) ∙ taken.told) c.put.array_long (taken.read_back.0 ∙ ap read_back_of derived) c.put.ensures.inside c.put.ensures.outside
    (elim c.if-is_assumed.branch [
      | then-is_assumed w ↦ rw w.assumed-is
          (w.push.ensures.items ∙ ap (λ xs. so_far ++ xs) (sym (cond-true (is_assumed (register_derived c.args.image.now.0 c.args.lines.now offset)) (offset ∷ []) [] (sym assumes ∙ w.if-is_assumed.true))))
      | else-is_assumed w ↦ rw w.assumed-is
          (sym (append-nil so_far) ∙ ap (λ xs. so_far ++ xs) (sym (cond-false (is_assumed (register_derived c.args.image.now.0 c.args.lines.now offset)) (offset ∷ []) [] (sym assumes ∙ w.if-is_assumed.false))))
    ])

derived_all : (c : goal.After-loop-place) → IsDerivedOfAll (assuming_of c.args.assuming) c.args.image.now.0 c.args.lines.now c.in-Ok.layout c.address_registers-place-items.result.now c.loop-place.probe.0 c.loop-place.assumed.items
derived_all c =
    derived_of_all (assuming_of c.args.assuming) c.args.image.now.0 c.args.lines.now c.in-Ok.layout c.address_registers-place-items.result.now c.in-Ok.ensures.layout c.address_registers-place-items.ensures.places
    c.loop-place.place-index c.loop-place.probe.0 c.loop-place.assumed.items c.loop-place-test.false c.loop-place.invariant

pub returns-clause-told : goal.returns-clause-told
returns-clause-told c = (derived_all c).told

pub returns-clause-probe : goal.returns-clause-probe
returns-clause-probe c = (derived_all c).bytes

pub returns-clause-assumed : goal.returns-clause-assumed
returns-clause-assumed c = (derived_all c).listed
