use Rattle.std.proofs.Common.{arith, ◌≡◌, ◌+◌, ◌%◌, ◌∙◌, ap, Bool, true, false, refl, if◌then◌else◌}
use Rattle.std.specs.Bool.{◌==◌}
use Rattle.std.specs.Option.{is_some}
use Rattle.pci_spec.specs.Number.{number_at}
use Rattle.pci_spec.specs.Header.{layout}
use Rattle.plan_spec.specs.Planning.Numbers.{rom_number}
use Rattle.pci_plan.specs.Fillings.{FillingOf}
use Rattle.pci_plan.proofs.FilledRoms.{rom_number_is, rom_absent_is, rom_small}
use Rattle.pci_plan.proofs.numbers.Filling.rom_number.Goals as goal
use Rattle.pci_plan.proofs.numbers.Filling.rom_number.Goals.{After-u32-in-Some}

aligned_by : (b : Bool) → (if b then 0x38 else 0x30) % 4 ≡ 0
aligned_by true = refl
aligned_by false = refl

pub u32-requires : goal.u32-requires
u32-requires c = ap (λ offset. offset % 4) (c.requires.register c.requires.of) ∙ aligned_by (layout c.requires.of.function.image == 1)

pub u32-requires-in-Some : goal.u32-requires-in-Some
u32-requires-in-Some c = ap (λ offset. offset % 4) (c.requires.register c.requires.of) ∙ aligned_by (layout c.requires.of.function.image == 1)

pub overflow_cast-result : goal.overflow_cast-result
overflow_cast-result c =
    let of = c.requires.of in
    let e = rom_number_is c.args.self.now of (ap is_some c.in-Some.is) in
    let small = rom_small c.args.self.now of in
    omega (arith, e, small)

value_is : (c : After-u32-in-Some) (of : FillingOf c.args.self.now) → c.args.self.now.places.now.rom + c.u32-in-Some.result % 2 ≡ rom_number of.roots of.system of.pools of.function
value_is c of =
    let place = c.args.self.now.places.now.rom in
    ap (λ number. place + number % 2) (c.u32-in-Some.ensures ∙ ap (λ offset. number_at c.args.self.now.image.now.0 offset 4) (c.requires.register of))
    ∙ rom_number_is c.args.self.now of (ap is_some c.in-Some.is)

pub overflow_add-result : goal.overflow_add-result
overflow_add-result c =
    let of = c.requires.of in
    let e = value_is c of in
    let small = rom_small c.args.self.now of in
    omega (arith, e, small)

pub returns-in-None : goal.returns-in-None
returns-in-None c of =
    c.u32.ensures ∙ ap (λ offset. number_at c.args.self.now.image.now.0 offset 4) (c.requires.register of) ∙ rom_absent_is c.args.self.now of (ap is_some c.in-None.is)

pub returns-in-Some : goal.returns-in-Some
returns-in-Some c of = value_is c of
