-- Going up from a bus by the bridges that lead to it.
use Rattle.std.proofs.Common.{◌≡◌, ℕ, ◌+◌, ◌<◌, ◌≤◌, ◌⊎◌, inl, inr, List, get_or, Bool, true, false, ◌&&◌, arith, sym, ◌∙◌, ap, subst, refl, Option, None, Some}
use Rattle.std.specs.List.{Contains}
use Rattle.std.proofs.lemmas.Bool.{cases_Bool}
use Rattle.pci_spec.specs.Decoded as decoded
use Rattle.pci_spec.specs.System.{System, Function, Space, is_bridge, is_space_on}
use Rattle.pci_spec.specs.Bus.{secondary, is_root}
use Rattle.pci_spec.proofs.BusRanges.{root_means}
use Rattle.plan_spec.proofs.Planning.AboveBuses.{all_above, all_above_root}
use Rattle.plan_spec.proofs.Planning.Safe.{order_of}
use Rattle.settle_spec.specs.Lists.{Request}
use Rattle.settle_spec.specs.Parts.{bridge_over}
use Rattle.settle_spec.specs.Stands.{are_bridges_on}
use Rattle.settle_spec.proofs.BridgeOver.{over_leads, none_leads}
use Rattle.pci_base.specs.Space as code
use Rattle.pci_function.specs.declared.record.Record.{Record}
use Rattle.pci_place.proofs.Records.{FunctionAt}
use Rattle.pci_tree.specs.Ways.{IsBridgeToBus}
use Rattle.pci_kept.specs.Boards.{IsTree}
use Rattle.pci_kept.proofs.OfRecord.{on_is}
use Rattle.pci_kept.proofs.OverBus.{none_over, found, one_over}

with_true : (b : Bool) → (b && true) ≡ b
with_true true = refl
with_true false = refl

with_false : (b : Bool) → (b && false) ≡ false
with_false true = refl
with_false false = refl

-- so far up from a bus all bridges enable the space
pub record IsUp (s : System) (space : Space) (bus at steps : ℕ) : Type 0 where
  pub same : are_bridges_on s space bus ≡ are_bridges_on s space at
  pub low : at + steps ≤ bus
  pub here : (at ≡ bus) ⊎ ((f : Function) × Contains s f × (f.slot.bus ≡ at))

pub begins : (s : System) (space : Space) (bus : ℕ) → IsUp s space bus bus 0
begins s space bus = record { same = refl; low = omega arith; here = inl refl }

module _ (q : Request) (s : System) (records : List Record) (tree : IsTree q s records) (over : List (Option ℕ)) (are : IsBridgeToBus records over) (space : Space) (bus at steps : ℕ) (small : at < 256) (up : IsUp s space bus at steps) where
  -- no bridge leads to a root, and above it there is none
  pub at_root : (f : Function) → bridge_over s bus ≡ Some f → get_or over at None ≡ None → true ≡ are_bridges_on s space bus
  at_root f leads none = sym (up.same ∙ all_above_root q.roots s tree.system tree.nested (λ b. is_space_on b space) at ((root_means q.roots at).0 root))
    where
      unled : bridge_over s at ≡ None
      unled = none_over q s records tree at small over are none

      root : is_root q.roots at ≡ true
      root = elim up.here [
        | inl same ↦ absurd (let both : Some f ≡ None = sym leads ∙ ap (bridge_over s) (sym same) ∙ unled in let no : ⊥ = cc in no)
        | inr on ↦ elim (cases_Bool (is_root q.roots at)) [
          | inl is ↦ is
          | inr off ↦ absurd (
              let one = tree.nested.one on.0 on.1 (subst (λ n. is_root q.roots n ≡ false) (sym on.2) off) in
              none_leads s at unled one.0 (subst (λ n. Contains s one.0 × (is_bridge one.0 ≡ true) × (secondary one.0 ≡ n)) on.2 one.1))
        ]
      ]

  module _ (k : ℕ) (there : get_or over at None ≡ Some k) (x : Record) (x_is : x ≡ get_or records k x) where
    abbrev of : FunctionAt s x k
    of = found q s records tree at small over are k there x x_is

    leading : Contains s of.f × (is_bridge of.f ≡ true) × (secondary of.f ≡ at)
    leading = over_leads s at of.f (one_over q s records tree at small over are k there x x_is)

    enables : code.is_on x.command space ≡ is_space_on of.f space
    enables = on_is x.command of.f space (ap (λ (r : decoded.Record). r.command) of.is.value)

    above : are_bridges_on s space at ≡ (are_bridges_on s space of.f.slot.bus && code.is_on x.command space)
    above =
        ap (are_bridges_on s space) (sym leading.2)
        ∙ all_above q.roots s tree.system tree.nested (λ b. is_space_on b space) of.f leading.0 leading.1
        ∙ ap (λ b. are_bridges_on s space of.f.slot.bus && b) (sym enables)

    slot_is : x.slot ≡ of.f.slot
    slot_is = ap (λ (r : decoded.Record). r.slot) of.is.value

    pub is_off : code.is_on x.command space ≡ false → false ≡ are_bridges_on s space bus
    is_off off = sym (up.same ∙ above ∙ ap (λ b. are_bridges_on s space of.f.slot.bus && b) off ∙ with_false (are_bridges_on s space of.f.slot.bus))

    pub goes_up : code.is_on x.command space ≡ true → IsUp s space bus x.slot.bus (steps + 1)
    goes_up on =
        let less = order_of q.roots s tree.nested of.f leading.0 leading.1 in
        let to = leading.2 in
        let low = up.low in
        subst (λ n. IsUp s space bus n (steps + 1)) (sym (ap (λ z. z.bus) slot_is)) record {
          same = up.same ∙ above ∙ ap (λ b. are_bridges_on s space of.f.slot.bus && b) on ∙ with_true (are_bridges_on s space of.f.slot.bus);
          low = omega (arith, less, to, low);
          here = inr (of.f, leading.0, refl);
        }
