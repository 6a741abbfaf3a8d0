use Rattle.std.proofs.Common.{◌≡◌, ℕ, true, ◌+◌, ◌<◌, List, ◌++◌, [], ◌∷◌, length, map, take, get_or, arith, sym, ◌∙◌, ap, subst, if◌then◌else◌}
use Rattle.std.specs.Option.{is_some}
use Rattle.std.specs.List.{AllPairs, Contains, list_all}
use Rattle.std.proofs.lemmas.List.{length-map, take_all, take_more}
use Rattle.std.proofs.lemmas.List.Elements.{Contains-get_or}
use Rattle.std.proofs.Math.ListN.{get_or-map}
use Rattle.pci_spec.specs.Header.{address_registers, layout, registers_by}
use Rattle.pci_spec.specs.System.{is_bridge}
use Rattle.plan_spec.specs.Planning.Numbers.{new_number, new_command}
use Rattle.pci_spec.proofs.Members.{in_map_from}
use Rattle.plan_spec.proofs.Planning.Behind.{all_gives}
use Rattle.plan_spec.proofs.Planning.Staging.{Follows, registers_in_order, pairs_in_order}
use Rattle.plan_spec.proofs.Planning.NumbersFit.{numbers_fit}
use Rattle.pci_image.specs.Registers.{has_place}
use Rattle.pci_image.specs.declared.register.Register.{Register}
use Rattle.pci_image.specs.declared.register.Role.TheVariants as roles
use Rattle.pci_plan.specs.Fillings.{FillingOf}
use Rattle.pci_plan.proofs.FilledWindows.{bridge_is, function_is}
use Rattle.pci_plan.proofs.FilledImages.{ArePut, none_put, more_put, earlier_apart, filled_with}
use Rattle.pci_plan.proofs.WriteLists.{by_bridge, register_access}
use Rattle.pci_plan.proofs.planned.filled.Goals as goal
use Rattle.pci_plan.proofs.planned.filled.Goals.{After-address_registers-register-items}

abbrev pair : Register → ℕ × ℕ
pair r = (r.offset, r.width)

-- what stands there where the slice has no register
abbrev no_register : Register
no_register = record { offset = 0; width = 0; role = roles.Bar 0 }

-- ---- the registers that are gone over

module _ (c : After-address_registers-register-items) where
  abbrev items : List Register
  items = c.address_registers-register-items.result.now

  by_record : map pair items ≡ address_registers (if is_some c.args.filling.now.record.now.bridge then 1 else 0)
  by_record = c.address_registers-register-items.ensures.places ∙ ap registers_by c.layout.ensures ∙ sym (by_bridge (is_some c.args.filling.now.record.now.bridge))

  by_function : (of : FillingOf c.args.filling.now) → map pair items ≡ address_registers (layout of.function.image)
  by_function of = c.address_registers-register-items.ensures.places ∙ ap registers_by (c.layout.ensures ∙ bridge_is c.args.filling.now of)

  here : (k : ℕ) → k < length items → Contains (map pair items) (pair (get_or items k no_register))
  here k within = in_map_from pair items (get_or items k no_register) (Contains-get_or items k no_register within)

  of_function : (of : FillingOf c.args.filling.now) (k : ℕ) → k < length items → Contains (address_registers (layout of.function.image)) (pair (get_or items k no_register))
  of_function of k within = subst (λ rs. Contains rs (pair (get_or items k no_register))) (by_function of) (here k within)

  in_order : (of : FillingOf c.args.filling.now) → AllPairs Follows (map pair items)
  in_order of = subst (λ rs. AllPairs Follows rs) (sym (by_function of)) (pairs_in_order (registers_by (is_bridge of.function)) (registers_in_order (is_bridge of.function)))

  placed : (k : ℕ) → k < length items → has_place (is_some c.args.filling.now.record.now.bridge) (get_or items k no_register) ≡ true
  placed k within =
      let all : list_all (has_place (is_some c.args.filling.now.record.now.bridge)) items ≡ true =
      ap (λ b. list_all (has_place b) items) (sym c.layout.ensures) ∙ c.address_registers-register-items.ensures.roles in
      all_gives (has_place (is_some c.args.filling.now.record.now.bridge)) items (get_or items k no_register) all (Contains-get_or items k no_register within)

  within_pairs : (k : ℕ) → k < length items → k < length (map pair items)
  within_pairs k within = let l = length-map items pair in omega (arith, l, within)

-- ---- answers

pub loop-register-init : goal.loop-register-init
loop-register-init c of =
    subst (λ image. ArePut [] (new_number of.roots of.system of.pools of.function) of.function.image image) (sym of.image)
    (none_put (new_number of.roots of.system of.pools of.function) of.function.image (function_is c.args.filling.now of).image)

pub number-requires-clause-place : goal.number-requires-clause-place
number-requires-clause-place c =
    placed (goal.at.number-requires-clause-place c).After-address_registers-register-items c.loop-register.register-index c.loop-register-test.true

pub put-requires : goal.put-requires
put-requires c =
    let start = (goal.at.put-requires c).After-address_registers-register-items in
    register_access (items start) (if is_some c.args.filling.now.record.now.bridge then 1 else 0) (by_record start) c.loop-register.register-index no_register c.loop-register-test.true

pub loop-register-preserved : goal.loop-register-preserved
loop-register-preserved c of =
    let start = (goal.at.loop-register-preserved c).After-address_registers-register-items in
    let k = c.loop-register.register-index in
    let value = new_number of.roots of.system of.pools of.function in
    let rs : List (ℕ × ℕ) = map pair (items start) in
    let r : ℕ × ℕ = pair (get_or (items start) k no_register) in
    let within = within_pairs start k c.loop-register-test.true in
    let at : get_or rs k (pair no_register) ≡ r = get_or-map pair (items start) k no_register in
    let more : take (k + 1) rs ≡ take k rs ++ r ∷ [] = take_more rs k (pair no_register) within ∙ ap (λ q. take k rs ++ q ∷ []) at in
    let before = c.loop-register.invariant of in
    let small = (numbers_fit of.roots of.system of.pools of.plannable of.tables of.function of.recorded.listed).small r (of_function start of k c.loop-register-test.true) in
    let e = c.number.ensures of in
    let put = more_put (take k rs) r value of.function.image c.loop-register.image.0 c.put.new.bytes before (c.put.ensures.image before.image) (c.put.ensures.number (omega (arith, small, e)) ∙ e) c.put.ensures.outside
    (λ q earlier. let apart = earlier_apart rs k (pair no_register) (in_order start of) within q earlier in let e = ap (λ (p : ℕ × ℕ). p.0) at in omega (arith, apart, e)) in
    subst (λ done. ArePut done value of.function.image c.put.new.bytes) (sym more) put

pub returns : goal.returns
returns c of =
    let start = (goal.at.returns c).After-address_registers-register-items in
    let value = new_number of.roots of.system of.pools of.function in
    let size = length-map (items start) pair in
    let done = c.loop-register-test.false in
    let all : take c.loop-register.register-index (map pair (items start)) ≡ address_registers (layout of.function.image) =
    take_all c.loop-register.register-index (map pair (items start)) (omega (arith, size, done)) ∙ by_function start of in
    let put = subst (λ rs. ArePut rs value of.function.image c.loop-register.image.0) all (c.loop-register.invariant of) in
    let small = c.from.ensures in
    filled_with of.function value (new_command of.system of.pools of.function) c.loop-register.image.0 c.put-2.new.bytes put (c.put-2.ensures.image put.image)
    (c.put-2.ensures.number (omega (arith, small)) ∙ c.from.ensures ∙ c.command.ensures of) c.put-2.ensures.outside
