use Rattle.std.proofs.Common.{◌≡◌, ℕ, ◌∙◌, sym, subst, arith}
use Rattle.std.specs.List.{Contains}
use Rattle.pci_spec.specs.Slot.{Slot}
use Rattle.pci_tree.specs.Ways.{slots_of}
use Rattle.pci_tree.specs.BusNumbers.{first_function}
use Rattle.pci_tree.proofs.buses.is_not_lone.Goals as goal

slot_at : ℕ → ℕ → Slot
slot_at bus device = record { bus = bus; device = device; function = 0 }

slot_of : (m n x y : ℕ) → m ≡ n → x ≡ y → slot_at m x ≡ slot_at n y
slot_of m n x y e f = cc

pub returns-in-Some : goal.returns-in-Some
unfolding slot_at
returns-in-Some c =
    let first : c.in-Some.first ≡ first_function c.args.slot =
    c.in-Some.ensures.numbers ∙ slot_of c.bus.result c.args.slot.bus c.dev.result c.args.slot.device c.bus.ensures c.dev.ensures in (
      λ h other. subst (λ x. Contains (slots_of c.args.records.now) x) first (c.has_slot.ensures.0 h),
      λ h. c.has_slot.ensures.1 (subst (λ x. Contains (slots_of c.args.records.now) x) (sym first) (h (let some = c.if-fun-eq0.false in let same = c.fun.ensures.number in omega arith))),
    )
