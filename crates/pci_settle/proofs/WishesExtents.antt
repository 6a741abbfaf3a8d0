-- The spare that is wanted behind each slot.
use Rattle.std.proofs.Common.{◌≡◌, ◌^◌, ◌<◌, ◌≤◌, ℕ, cond, arith, ap, sym, ◌∙◌, refl, Option, Some, None}
use Rattle.std.specs.Option.{option_map}
use Rattle.std.proofs.lemmas.Bool.{lt-ltb}
use Rattle.pci_spec.specs.Window.{WindowKind, IoWindow, MemoryWindow, PrefetchWindow, page_size}
use Rattle.plan_spec.specs.Plan.{raised_to}
use Rattle.plan_spec.proofs.Planning.Room.{raised}
use Rattle.settle_spec.specs.FirstPlace.{Extent as ExtentValue}
use Rattle.settle_spec.specs.Spares.{spare_extent}
use Rattle.pci_first_fit.specs.declared.extent.Extent.{Extent}
use Rattle.pci_first_fit.specs.declared.slots.Slots.{Slots}
use Rattle.pci_first_fit.specs.Slots.{most_wanted, wanted_of, spare_by}
use Rattle.pci_first_fit.specs.Windows.{IsAround}
use Rattle.pci_grow.specs.Granting.{spare_up_to}

-- whole pages of what can be wanted are fewer than 2^64
pages_fit : (c : WindowKind) (wanted : ℕ) → wanted ≤ most_wanted → raised_to (page_size c) wanted ≤ most_wanted
pages_fit IoWindow wanted low = (raised (page_size IoWindow) wanted (omega arith)).least most_wanted refl low
pages_fit MemoryWindow wanted low = (raised (page_size MemoryWindow) wanted (omega arith)).least most_wanted refl low
pages_fit PrefetchWindow wanted low = (raised (page_size PrefetchWindow) wanted (omega arith)).least most_wanted refl low

pub most_of : (w : Slots) (c : WindowKind) → wanted_of w c ≤ most_wanted
most_of w IoWindow = omega arith
most_of w MemoryWindow = omega arith
most_of w PrefetchWindow = omega arith

pub spare_is : (c : WindowKind) (wanted top : ℕ) → 0 < wanted → wanted ≤ most_wanted → (o : Option Extent) → IsAround (spare_extent c wanted top) o
    → (highest : ℕ) → option_map (spare_up_to highest) o ≡ spare_by c wanted highest
spare_is c wanted top some low None large highest =
    absurd (let over : 2 ^ 64 ≤ raised_to (page_size c) wanted = large in let fit = pages_fit c wanted low in let no : ⊥ = omega (arith, over, fit) in no)
spare_is c wanted top some low (Some e) is highest =
    ap (λ (x : ExtentValue). let o : Option ExtentValue = Some record { size = x.size; alignment = x.alignment; highest = highest } in o) is
    ∙ sym (ap (λ b. let o : Option ExtentValue = cond b (Some (spare_extent c wanted highest)) None in o) (lt-ltb 0 wanted some))
