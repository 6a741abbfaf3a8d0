use Rattle.std.proofs.Common.{arith, ◌≡◌, ◌+◌, ◌^◌, ◌%◌, ◌∙◌, ap, ℕ}
use Rattle.pci_spec.specs.Number.{number_at}
use Rattle.pci_spec.specs.Header.{bar_register}
use Rattle.pci_spec.specs.Bar.{bar_at, bar_kind, first_bit}
use Rattle.pci_spec.specs.System.{Bar}
use Rattle.plan_spec.specs.Planning.Numbers.{new_bar}
use Rattle.pci_image.specs.Bars.{decoded_kind_of}
use Rattle.pci_place.specs.Places.{first_in}
use Rattle.pci_plan.specs.Fillings.{FillingOf}
use Rattle.pci_plan.proofs.FilledBars.{IsBarAt, bar_of_record, bar_with, register_is, kind_is, few_bars, bar_number_is, bar_number_small}
use Rattle.pci_plan.proofs.numbers.Filling.bar_value.Goals as goal
use Rattle.pci_plan.proofs.numbers.Filling.bar_value.Goals.{After-place_of}

pub place_of-requires : goal.place_of-requires
place_of-requires c =
    let of = c.requires.of in
    let found = bar_of_record c.args.self.now of c.args.bar.now c.requires.listed in
    (found.0, omega (arith, found.1.inside, few_bars of.function), register_is of.function found.0 c.args.bar.now found.1)

pub u32-requires : goal.u32-requires
u32-requires c =
    let of = c.requires.of in
    let found = bar_of_record c.args.self.now of c.args.bar.now c.requires.listed in
    omega (arith, register_is of.function found.0 c.args.bar.now found.1)

value_is : (c : After-place_of) (of : FillingOf c.args.self.now) (n : ℕ) → IsBarAt of.function n c.args.bar.now
    → c.place_of.result + c.u32.result % 2 ^ first_bit (decoded_kind_of c.args.bar.now.kind) ≡ new_bar of.roots of.system of.pools of.function n
value_is c of n at =
    let f = of.function in
    let register = register_is f n c.args.bar.now at in
    let kind = decoded_kind_of c.args.bar.now.kind in
    let number : c.u32.result ≡ number_at c.args.self.now.image.now.0 (bar_register n) 4 = c.u32.ensures ∙ ap (λ offset. number_at c.args.self.now.image.now.0 offset 4) register in
    let low : c.u32.result % 2 ^ first_bit kind ≡ number_at c.args.self.now.image.now.0 (bar_register n) 4 % 2 ^ first_bit (bar_kind (bar_at f.probe n)) =
    ap (λ m. m % 2 ^ first_bit kind) number ∙ ap (λ kind. number_at c.args.self.now.image.now.0 (bar_register n) 4 % 2 ^ first_bit kind) (kind_is f n c.args.bar.now at) in
    ap (λ m. m + c.u32.result % 2 ^ first_bit kind) (c.place_of.ensures n register) ∙ ap (λ m. first_in c.args.self.now.places.now (Bar n) + m) low
    ∙ bar_number_is c.args.self.now of n at.inside at.there

pub value_from-requires : goal.value_from-requires
value_from-requires c =
    let of = c.requires.of in
    let found = bar_of_record c.args.self.now of c.args.bar.now c.requires.listed in
    omega (arith, value_is (goal.at.value_from-requires c).After-place_of of found.0 found.1, bar_number_small c.args.self.now of found.0 found.1.inside found.1.there)

pub returns : goal.returns
returns c of n register =
    c.value_from.ensures ∙ value_is (goal.at.returns c).After-place_of of n (bar_with c.args.self.now of c.args.bar.now n c.requires.listed register)
