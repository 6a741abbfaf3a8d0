use Rattle.std.proofs.Common.{◌≡◌, ◌+◌, suc, arith, sym, ◌∙◌, ap, subst, map, length, Some}
use Rattle.std.specs.List.{slice_get}
use Rattle.std.proofs.lemmas.List.{length-map}
use Rattle.pci_plan.specs.Writes.{write_value}
use Rattle.pci_plan.specs.Places.{IsPlaceOfStep}
use Rattle.pci_plan.specs.declared.step.Kind.TheVariants.{ReadBack}
use Rattle.pci_plan.proofs.Makes.{at_index}
use Rattle.pci_plan.proofs.Places.{step_compare, step_make, step_read_back, step_none}
use Rattle.pci_plan.proofs.step.step_at.Goals as goal

pub returns-in-None : goal.returns-in-None
returns-in-None c =
    let past = c.in-None.ensures.none in
    let compares = length-map c.args.compares.now write_value in
    let writes = length-map c.args.writes.now write_value in
    sym (step_none (map write_value c.args.compares.now) (map write_value c.args.writes.now) c.args.n (omega (arith, past, compares, writes)))

pub returns-in-Some-Compare : goal.returns-in-Some-Compare
returns-in-Some-Compare c =
    let place = subst (IsPlaceOfStep (length c.args.compares.now) (length c.args.writes.now) c.args.n) c.in-Some-Compare.field-0-is c.in-Some-Compare.ensures.some in
    let at = at_index c.args.compares.now c.in-Some-Compare.index c.index-compares-index.result place.1 c.index-compares-index.is in
    sym (step_compare (map write_value c.args.compares.now) (map write_value c.args.writes.now) c.args.n (write_value c.index-compares-index.result) (ap (slice_get (map write_value c.args.compares.now)) place.0 ∙ at))

pub returns-in-Some-Make : goal.returns-in-Some-Make
returns-in-Some-Make c =
    let place = subst (IsPlaceOfStep (length c.args.compares.now) (length c.args.writes.now) c.args.n) c.in-Some-Make.field-0-is c.in-Some-Make.ensures.some in
    let compares = length-map c.args.compares.now write_value in
    let here = place.0 in
    let at = at_index c.args.writes.now c.in-Some-Make.index c.index-writes-index.result place.1 c.index-writes-index.is in
    sym (step_make (map write_value c.args.compares.now) (map write_value c.args.writes.now) c.args.n c.in-Some-Make.index (write_value c.index-writes-index.result) at (omega (arith, here, compares)))

pub returns-in-Some-ReadBack : goal.returns-in-Some-ReadBack
returns-in-Some-ReadBack c =
    let place = subst (IsPlaceOfStep (length c.args.compares.now) (length c.args.writes.now) c.args.n) c.in-Some-ReadBack.field-0-is c.in-Some-ReadBack.ensures.some in
    let compares = length-map c.args.compares.now write_value in
    let here = place.0 in
    let i = c.in-Some-ReadBack.index in
    let next : i + 1 ≡ suc i = omega arith in
    let at = at_index c.args.writes.now i c.index-writes-index-in-Some-ReadBack.result place.1 c.index-writes-index-in-Some-ReadBack.is in
    ap (λ n. Some (record { kind = ReadBack; register = write_value c.index-writes-index-in-Some-ReadBack.result; done = n })) next
    ∙ sym (step_read_back (map write_value c.args.compares.now) (map write_value c.args.writes.now) c.args.n i (write_value c.index-writes-index-in-Some-ReadBack.result) at (omega (arith, here, compares)))
