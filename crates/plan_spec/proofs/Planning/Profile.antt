-- What moving regions keeps of the profile: each fault that isn't about an address register was there before.
use Rattle.std.proofs.Common.{◌≡◌, ℕ, List, ◌+◌, ◌*◌, ◌^◌, ◌<◌, [], ◌∷◌, refl, ◌&&◌, ◌||◌, not, arith, sym, ◌∙◌, ap}
use Rattle.std.specs.Bool.{IsTrue, nat_lt, ◌==◌}
use Rattle.std.specs.List.{AllZip}
use Rattle.pci_spec.specs.Number.{byte_at, has_bit, IsImage}
use Rattle.pci_spec.specs.Slot.{Slot}
use Rattle.pci_spec.specs.Header.{vendor_id, command, class_code, layout, bridge_control}
use Rattle.pci_spec.specs.System.{System, Function, IsSystem}
use Rattle.pci_spec.specs.Fault.{NoVendor, HeaderKind, StrayProbe, LoneFunction, IsIn, SomeAt, has_no_vendor, has_other_layout, is_stray, is_in_address_register, has_function_zero}
use Rattle.plan_spec.specs.Plan.{IsMoved}
use Rattle.plan_spec.proofs.Planning.Moved.{low_same, rest_same, layout_same, no_early_field}
use Rattle.plan_spec.proofs.Planning.Kept.{images_of}
use Rattle.pci_spec.proofs.Pairs.{member_back}
use Rattle.plan_spec.proofs.Planning.Writes.{command_bit}

module _ (f g : Function) (m : IsMoved f g) (is : IsImage f.image) where
  pub vendor_same : vendor_id g.image ≡ vendor_id f.image
  vendor_same =
      ap (λ a. 0 + a * 256 ^ 0 + byte_at g.image 1 * 256 ^ 1) (low_same f g m is 0 (omega arith) refl)
      ∙ ap (λ b. 0 + byte_at f.image 0 * 256 ^ 0 + b * 256 ^ 1) (low_same f g m is 1 (omega arith) refl)

  pub class_same : class_code g.image ≡ class_code f.image
  class_same =
      ap (λ a. 0 + a * 256 ^ 0 + byte_at g.image 0x0a * 256 ^ 1 + byte_at g.image 0x0b * 256 ^ 2) (low_same f g m is 0x09 (omega arith) refl)
      ∙ ap (λ b. 0 + byte_at f.image 0x09 * 256 ^ 0 + b * 256 ^ 1 + byte_at g.image 0x0b * 256 ^ 2) (low_same f g m is 0x0a (omega arith) refl)
      ∙ ap (λ b. 0 + byte_at f.image 0x09 * 256 ^ 0 + byte_at f.image 0x0a * 256 ^ 1 + b * 256 ^ 2) (low_same f g m is 0x0b (omega arith) refl)

  pub control_same : bridge_control g.image ≡ bridge_control f.image
  control_same =
      ap (λ a. 0 + a * 256 ^ 0 + byte_at g.image 0x3f * 256 ^ 1) (rest_same f g m is 0x3e (omega arith) (omega arith))
      ∙ ap (λ b. 0 + byte_at f.image 0x3e * 256 ^ 0 + b * 256 ^ 1) (rest_same f g m is 0x3f (omega arith) (omega arith))

  pub snoop_same : has_bit (command g.image) 5 ≡ has_bit (command f.image) 5
  snoop_same =
      ap (λ n. n == 1) (
      command_bit g.image 5 (omega arith)
      ∙ m.same 4 5 (omega arith) (omega arith) (no_early_field f.image f.probe 4 5 (omega arith)) refl
      ∙ sym (command_bit f.image 5 (omega arith))
      )

  pub stray_same : (offset : ℕ) → is_stray g.image g.probe offset ≡ is_stray f.image f.probe offset
  stray_same offset =
      ap (λ p. nat_lt offset 256 && not (byte_at p offset == 0) && not (is_in_address_register (layout g.image) offset)) m.probe
      ∙ ap (λ k. nat_lt offset 256 && not (byte_at f.probe offset == 0) && not (is_in_address_register k offset)) (layout_same f g m is)

zero_same : (s t : System) → AllZip IsMoved s t → (slot : Slot) → has_function_zero t slot ≡ has_function_zero s slot
zero_same [] [] pairs slot = refl
zero_same [] (y ∷ t) pairs slot = absurd pairs
zero_same (x ∷ s) [] pairs slot = absurd pairs
zero_same (x ∷ s) (y ∷ t) (m, rest) slot =
    ap (λ (z : Slot). (z.bus == slot.bus && z.device == slot.device && z.function == 0) || has_function_zero t slot) m.slot
    ∙ ap (λ b. (x.slot.bus == slot.bus && x.slot.device == slot.device && x.slot.function == 0) || b) (zero_same s t rest slot)

pub some_before : (s t : System) → IsSystem s → AllZip IsMoved s t → (slot : Slot) (P Q : Function → Type 0)
    → ((f g : Function) → IsMoved f g → IsImage f.image → Q g → P f) → SomeAt t slot Q → SomeAt s slot P
some_before s t system pairs slot P Q back there =
    let found = member_back IsMoved s t pairs there.0 there.1 in
    let listed = found.1 in
    (found.0, (listed.0, listed.1, listed.2), sym found.2.slot ∙ there.2, back found.0 there.0 found.2 (images_of s system found.0 found.1) there.3)

module _ (roots : List ℕ) (s t : System) (system : IsSystem s) (pairs : AllZip IsMoved s t) where
  pub no_vendor_before : (slot : Slot) → IsIn roots t (NoVendor slot) → IsIn roots s (NoVendor slot)
  no_vendor_before slot there = some_before s t system pairs slot (λ f. IsTrue (has_no_vendor f.image)) (λ f. IsTrue (has_no_vendor f.image))
      (λ f g m is h. sym (ap (λ v. v == 0xffff) (vendor_same f g m is)) ∙ h) there

  pub kind_before : (slot : Slot) → IsIn roots t (HeaderKind slot) → IsIn roots s (HeaderKind slot)
  kind_before slot there = some_before s t system pairs slot (λ f. IsTrue (has_other_layout f.image)) (λ f. IsTrue (has_other_layout f.image))
      (λ f g m is h. sym (ap (λ k. not (k == 0 || k == 1)) (layout_same f g m is)) ∙ h) there

  pub stray_before : (slot : Slot) (offset : ℕ) → IsIn roots t (StrayProbe slot offset) → IsIn roots s (StrayProbe slot offset)
  stray_before slot offset there = some_before s t system pairs slot (λ f. IsTrue (is_stray f.image f.probe offset)) (λ f. IsTrue (is_stray f.image f.probe offset))
      (λ f g m is h. sym (stray_same f g m is offset) ∙ h) there

  pub lone_before : (slot : Slot) → IsIn roots t (LoneFunction slot) → IsIn roots s (LoneFunction slot)
  lone_before slot there = some_before s t system pairs slot (λ f. (0 < slot.function) × IsTrue (not (has_function_zero s slot))) (λ f. (0 < slot.function) × IsTrue (not (has_function_zero t slot)))
      (λ f g m is h. (h.0, sym (ap not (zero_same s t pairs slot)) ∙ h.1)) there
