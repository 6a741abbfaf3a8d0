-- Bridges that are closed forward less.
use Rattle.std.proofs.Common.{◌≡◌, ℕ, ◌<◌, ◌≤◌, inl, inr, List, [], ◌++◌, true, false, ◌&&◌, arith, refl, sym, ◌∙◌, ap, length, map}
use Rattle.std.specs.Bool.{nat_lt, nat_le, ◌==◌, if◌then◌else◌}
use Rattle.std.proofs.lemmas.Bool.{and_parts, cases_Bool, eqb-true, leb-true, false_from_ne_true}
use Rattle.std.proofs.lemmas.List.{length-append, length-map}
use Rattle.pci_spec.specs.Slot.{Slot}
use Rattle.pci_spec.specs.Header.{secondary_bus, subordinate_bus}
use Rattle.pci_number.specs.Board.{Nodes, Node, NodePlace, Behind, Next, is_type_1, on_bus, passes_on, behind_bridges}
use Rattle.pci_number.specs.Steps.{IsAlike}
use Rattle.pci_number.specs.Less.{IsLess, IsLessOf}
use Rattle.pci_number.proofs.Views.{same_node, same_others}

-- what answers on the other side of a bridge
abbrev side : List ℕ → Nodes → Slot → List NodePlace
side image behind access =
    if is_type_1 image && secondary_bus image == access.bus then on_bus behind access
    else if is_type_1 image && passes_on image access.bus then behind_bridges behind access else []

none_passed : (image : List ℕ) (bus : ℕ) → subordinate_bus image ≡ 0 → 0 < bus → (is_type_1 image && passes_on image bus) ≡ false
none_passed image bus zero above = false_from_ne_true _ (λ meets.
    let passed = and_parts (nat_lt (secondary_bus image) bus) (nat_le bus (subordinate_bus image)) (and_parts (is_type_1 image) (passes_on image bus) meets).1 in
    omega (arith, leb-true bus (subordinate_bus image) passed.1, zero))

less_side : (image new : List ℕ) (behind : Nodes) (access : Slot) → is_type_1 new ≡ is_type_1 image → IsLess image new → 0 < access.bus → length (side new behind access) ≤ length (side image behind access)
less_side image new behind access kind less above =
    let no_pass = none_passed new access.bus less.0 above in
    elim (cases_Bool (is_type_1 new && secondary_bus new == access.bus)) [
      | inr none ↦ rw (none, no_pass) (omega arith)
      | inl takes ↦ elim less.1 [
        | inr zero ↦
            let at = eqb-true (secondary_bus new) access.bus (and_parts (is_type_1 new) (secondary_bus new == access.bus) takes).1 in
            absurd (omega (arith, at, zero, above))
        | inl same ↦
            let took : (is_type_1 image && secondary_bus image == access.bus) ≡ true = ap (λ b. b && secondary_bus image == access.bus) (sym kind) ∙ ap (λ s. is_type_1 new && s == access.bus) (sym same) ∙ takes in
            rw (takes, took) (omega arith)
      ]
    ]

two_parts : (xs less_xs ys less_ys : List NodePlace) → length less_xs ≤ length xs → length less_ys ≤ length ys → length (map Behind less_xs ++ map Next less_ys) ≤ length (map Behind xs ++ map Next ys)
two_parts xs less_xs ys less_ys first second =
    omega (arith, length-append (map Behind xs) (map Next ys), length-append (map Behind less_xs) (map Next less_ys), length-map xs Behind, length-map ys Next, length-map less_xs Behind, length-map less_ys Next)

pub less_itself : (nodes : Nodes) → IsLessOf nodes nodes
less_itself nodes = record { same = refl; own = refl; less = λ access above. omega arith }

pub less_then : (first second third : Nodes) → IsLessOf first second → IsLessOf second third → IsLessOf first third
less_then first second third a b = record {
  same = b.same ∙ a.same;
  own = b.own ∙ a.own;
  less = λ access above. omega (arith, a.less access above, b.less access above);
}

-- a node is kept
pub less_after : (d f : ℕ) (image : List ℕ) (behind others after : Nodes) → IsLessOf others after → IsLessOf (Node d f image behind others) (Node d f image behind after)
less_after d f image behind others after rest = record {
  same = same_others d f image behind others after rest.same;
  own = rw rest.own refl;
  less = λ access above. two_parts (side image behind access) (side image behind access) (behind_bridges others access) (behind_bridges after access) (omega arith) (rest.less access above);
}

-- a bridge forwards less
pub less_node : (d f : ℕ) (image new : List ℕ) (behind others after : Nodes) → is_type_1 image ≡ true → IsAlike image new → IsLess image new → IsLessOf others after → IsLessOf (Node d f image behind others) (Node d f new behind after)
less_node d f image new behind others after bridge alike less rest =
    let new_bridge : is_type_1 new ≡ true = alike.kind ∙ bridge in
    record {
      same = same_node d f image new behind behind others after bridge alike refl rest.same;
      own = rw (bridge, new_bridge, alike.cleared, rest.own) refl;
      less = λ access above. two_parts (side image behind access) (side new behind access) (behind_bridges others access) (behind_bridges after access) (less_side image new behind access alike.kind less above) (rest.less access above);
    }
