-- A slot and a register name one part of a system.
use Rattle.std.proofs.Common.{◌≡◌, Some, true, arith, ap, sym, subst, ◌∙◌}
use Rattle.std.specs.List.{Contains, slice_get}
use Rattle.std.proofs.lemmas.Option.{slice_get-get_or}
use Rattle.pci_spec.specs.Slot.{slot_number}
use Rattle.pci_spec.specs.System.{System, Function, Part, IsSystem, has_part, register_of}
use Rattle.pci_spec.proofs.Nesting.{one_function}
use Rattle.pci_spec.proofs.Regions.{register_of-lt, part_same}
use Rattle.settle_spec.specs.Parts.{FunctionPart}
use Rattle.settle_spec.specs.Stands.{rank}

pub rank_parts : (s : System) → IsSystem s → (u v : FunctionPart) → Contains s u.function → Contains s v.function → has_part u.function u.part ≡ true → has_part v.function v.part ≡ true → rank u ≡ rank v → u ≡ v
rank_parts s system u v listed_u listed_v there_u there_v same =
    let f = u.function in
    let g = v.function in
    let low = register_of-lt f u.part there_u in
    let high = register_of-lt g v.part there_v in
    let slot : slot_number f.slot ≡ slot_number g.slot = omega (arith, same, low, high) in
    let one : f ≡ g = one_function s system f g listed_u listed_v slot in
    let register : register_of f u.part ≡ register_of g v.part = omega (arith, same, slot) in
    let part : u.part ≡ v.part = part_same f u.part v.part there_u (subst (λ x. has_part x v.part ≡ true) (sym one) there_v) (register ∙ ap (λ (x : Function). register_of x v.part) (sym one)) in
    ap (λ (x : Function). record { function = x; part = u.part }) one ∙ ap (λ (p : Part). record { function = g; part = p }) part

-- a function of a system stands at some index
pub at_index : (s : System) (f : Function) (listed : Contains s f) → slice_get s listed.0 ≡ Some f
at_index s f listed = slice_get-get_or s listed.0 f listed.1 ∙ ap Some listed.2
