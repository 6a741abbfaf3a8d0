use Rattle.std.proofs.Common.{◌≡◌, ◌+◌, ◌<◌, suc, slice_index_or, arith, sym, ◌∙◌, ap, subst, map, length, List, ℕ, Some}
use Rattle.std.specs.List.{slice_get}
use Rattle.std.specs.Option.{option_map}
use Rattle.std.proofs.lemmas.List.{length-map}
use Rattle.std.proofs.lemmas.Option.{slice_get-map, slice_get-get_or}
use Rattle.pci_plan.specs.Places.{IsPlaceOfStep}
use Rattle.pci_plan.specs.declared.step.Kind.TheVariants.{ReadBack}
use Rattle.pci_plan.proofs.Places.{step_compare, step_make, step_read_back, step_none}
use Rattle.pciplan_c.specs.RegisterWrites.{write_value_of}
use Rattle.pciplan_c.specs.declared.register_write.RegisterWrite.{RegisterWrite}
use Rattle.pciplan_c.proofs.stepping.step_at.Goals as goal

-- an item that is none
abbrev no_write : RegisterWrite
no_write = record { bus = 0; device = 0; function = 0; offset = 0; width = 0; value = 0 }

-- what a list has at an index, by its values
at_index : (items : List RegisterWrite) (i : ℕ) → i < length items → slice_get (map write_value_of items) i ≡ Some (write_value_of (slice_index_or items i no_write))
at_index items i within = slice_get-map write_value_of items i ∙ ap (λ o. option_map write_value_of o) (slice_get-get_or items i no_write within)

pub returns-in-None : goal.returns-in-None
returns-in-None c =
    let past = c.in-None.ensures.none in
    let compares = length-map c.args.compares.now write_value_of in
    let writes = length-map c.args.writes.now write_value_of in
    sym (step_none (map write_value_of c.args.compares.now) (map write_value_of c.args.writes.now) c.args.n (omega (arith, past, compares, writes)))

pub returns-in-Some-Compare : goal.returns-in-Some-Compare
returns-in-Some-Compare c =
    let place = subst (IsPlaceOfStep (length c.args.compares.now) (length c.args.writes.now) c.args.n) c.in-Some-Compare.field-0-is c.in-Some-Compare.ensures.some in
    let at = at_index c.args.compares.now c.in-Some-Compare.index place.1 in
    sym (step_compare (map write_value_of c.args.compares.now) (map write_value_of c.args.writes.now) c.args.n (write_value_of (slice_index_or c.args.compares.now c.in-Some-Compare.index no_write)) (ap (slice_get (map write_value_of c.args.compares.now)) place.0 ∙ at))

pub returns-in-Some-Make : goal.returns-in-Some-Make
returns-in-Some-Make c =
    let place = subst (IsPlaceOfStep (length c.args.compares.now) (length c.args.writes.now) c.args.n) c.in-Some-Make.field-0-is c.in-Some-Make.ensures.some in
    let compares = length-map c.args.compares.now write_value_of in
    let here = place.0 in
    let at = at_index c.args.writes.now c.in-Some-Make.index place.1 in
    sym (step_make (map write_value_of c.args.compares.now) (map write_value_of c.args.writes.now) c.args.n c.in-Some-Make.index (write_value_of (slice_index_or c.args.writes.now c.in-Some-Make.index no_write)) at (omega (arith, here, compares)))

pub returns-in-Some-ReadBack : goal.returns-in-Some-ReadBack
returns-in-Some-ReadBack c =
    let place = subst (IsPlaceOfStep (length c.args.compares.now) (length c.args.writes.now) c.args.n) c.in-Some-ReadBack.field-0-is c.in-Some-ReadBack.ensures.some in
    let compares = length-map c.args.compares.now write_value_of in
    let here = place.0 in
    let i = c.in-Some-ReadBack.index in
    let next : i + 1 ≡ suc i = omega arith in
    let at = at_index c.args.writes.now i place.1 in
    ap (λ n. Some (record { kind = ReadBack; register = write_value_of (slice_index_or c.args.writes.now i no_write); done = n })) next
    ∙ sym (step_read_back (map write_value_of c.args.compares.now) (map write_value_of c.args.writes.now) c.args.n i (write_value_of (slice_index_or c.args.writes.now i no_write)) at (omega (arith, here, compares)))
