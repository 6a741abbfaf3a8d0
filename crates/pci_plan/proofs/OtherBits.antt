-- Writes over functions that have a system's images and other writable bits: where they read back, the images are the same.
use Rattle.std.proofs.Common.{◌≡◌, ℕ, ◌+◌, ◌<◌, inl, inr, List, [], ◌∷◌, true, false, cond, Some, arith, sym, ◌∙◌, ap, subst, map}
use Rattle.std.specs.List.{AllPairs, Contains}
use Rattle.std.proofs.lemmas.Bool.{cases_Bool, cases_lt, cond-true, cond-false}
use Rattle.std.proofs.lemmas.List.{ext_get_or}
use Rattle.std.proofs.lemmas.Option.{same_Some}
use Rattle.pci_spec.specs.Number.{byte_at, number_at, IsImage}
use Rattle.pci_spec.specs.Slot.{same_slot, slot_number}
use Rattle.pci_spec.specs.System.{System, Function}
use Rattle.pci_spec.specs.Machine.{Target, Write, target_of, write_target, write_targets, write_function, write_system, written}
use Rattle.pci_spec.specs.Port.{target_at, ShowsNumber}
use Rattle.pci_spec.proofs.Members.{in_head, in_tail, in_map_from, pairs_head, pairs_tail}
use Rattle.plan_spec.proofs.Planning.Fit.{written_image}
use Rattle.plan_spec.proofs.Planning.Writes.{write_elsewhere, write_here, byte_outside, same_number, other_number}
use Rattle.plan_spec.proofs.Planning.Reached.{byte_of_number}
use Rattle.pci_plan.specs.Applying.{HasImage, HasImages}
use Rattle.pci_plan.proofs.Makes.{same_place}

-- ---- one function

-- bytes that are written read back alike, the others are as they were
same_written : (t : Target) (f : Function) (w : Write) → t.image ≡ f.image → IsImage f.image
    → number_at (written t w.offset w.width w.value) w.offset w.width ≡ number_at (written (target_of f) w.offset w.width w.value) w.offset w.width
    → written t w.offset w.width w.value ≡ written (target_of f) w.offset w.width w.value
same_written t f w same is shown =
    let o = w.offset in
    let u = target_of f in
    let left = written t o w.width w.value in
    let right = written u o w.width w.value in
    let is_left = written_image t o w.width w.value (subst IsImage (sym same) is) in
    let is_right = written_image u o w.width w.value is in
    ext_get_or 0 left right (is_left.full ∙ sym is_right.full) (λ place below.
    let full = is_left.full in
    let inside : place < 256 = omega (arith, below, full) in
    elim (cases_lt place o) [
      | inl low ↦ byte_outside t o w.width w.value place inside (inl low) ∙ ap (λ i. byte_at i place) same ∙ sym (byte_outside u o w.width w.value place inside (inl low))
      | inr from ↦ elim (cases_lt place (o + w.width)) [
        | inl to ↦ byte_of_number left right o w.width place is_left is_right shown from to
        | inr high ↦ byte_outside t o w.width w.value place inside (inr high) ∙ ap (λ i. byte_at i place) same ∙ sym (byte_outside u o w.width w.value place inside (inr high))
      ]
    ])

target_here : (w : Write) (t : Target) → same_slot t.slot w.slot ≡ true → write_target w t ≡ record t { image = written t w.offset w.width w.value }
target_here w t here = ap (λ b. cond b (record t { image = written t w.offset w.width w.value }) t) here

target_elsewhere : (w : Write) (t : Target) → same_slot t.slot w.slot ≡ false → write_target w t ≡ t
target_elsewhere w t other = ap (λ b. cond b (record t { image = written t w.offset w.width w.value }) t) other

one_write : (w : Write) (t : Target) (f : Function) → HasImage t f → IsImage f.image → same_slot f.slot w.slot ≡ true
    → number_at (write_target w t).image w.offset w.width ≡ w.value → number_at (write_function w f).image w.offset w.width ≡ w.value
    → HasImage (write_target w t) (write_function w f)
one_write w t f (slot, image) is here back planned =
    let at = target_here w t (ap (λ s. same_slot s w.slot) slot ∙ here) in
    let as_planned = write_here w f here in
    let shown : number_at (written t w.offset w.width w.value) w.offset w.width ≡ number_at (written (target_of f) w.offset w.width w.value) w.offset w.width =
    sym (ap (λ (u : Target). number_at u.image w.offset w.width) at) ∙ back ∙ sym planned ∙ ap (λ (g : Function). number_at g.image w.offset w.width) as_planned in (
      same_place w t ∙ slot,
      ap (λ (u : Target). u.image) at ∙ same_written t f w image is shown ∙ sym (ap (λ (g : Function). g.image) as_planned),
    )

no_write : (w : Write) (t : Target) (f : Function) → HasImage t f → same_slot f.slot w.slot ≡ false → HasImage (write_target w t) (write_function w f)
no_write w t f (slot, image) other =
    subst (λ u. HasImage u (write_function w f)) (sym (target_elsewhere w t (ap (λ s. same_slot s w.slot) slot ∙ other)))
    (subst (λ g. HasImage t g) (sym (write_elsewhere w f other)) (slot, image))

-- ---- all of them

no_writes : (w : Write) (targets : List Target) (u : System) → HasImages targets u → ((f : Function) → Contains u f → same_slot f.slot w.slot ≡ false) → HasImages (write_targets targets w) (write_system u w)
no_writes w [] [] pairs none = pairs
no_writes w [] (f ∷ u) pairs none = absurd pairs
no_writes w (t ∷ targets) [] pairs none = absurd pairs
no_writes w (t ∷ targets) (f ∷ u) (first, rest) none = (no_write w t f first (none f (in_head f u)), no_writes w targets u rest (λ g listed. none g (in_tail f u g listed)))

abbrev pub numbers : System → List ℕ
numbers u = map slot_number (map (λ (f : Function). f.slot) u)

-- a write that reads back, as it does on the system's own machine
pub images_after : (w : Write) (targets : List Target) (u : System) → HasImages targets u → AllPairs (λ x y. x < y) (numbers u) → ((f : Function) → Contains u f → IsImage f.image)
    → ((f : Function) → Contains u f → same_slot f.slot w.slot ≡ true → number_at (write_function w f).image w.offset w.width ≡ w.value)
    → ShowsNumber (write_targets targets w) w.slot w.offset w.width w.value → HasImages (write_targets targets w) (write_system u w)
images_after w [] [] pairs rising images planned shown = pairs
images_after w [] (f ∷ u) pairs rising images planned shown = absurd pairs
images_after w (t ∷ targets) [] pairs rising images planned shown = absurd pairs
images_after w (t ∷ targets) (f ∷ u) (first, rest) rising images planned (back, at, value) =
    let x = write_target w t in
    let slot : same_slot x.slot w.slot ≡ same_slot f.slot w.slot = ap (λ s. same_slot s w.slot) (same_place w t ∙ first.0) in
    elim (cases_Bool (same_slot f.slot w.slot)) [
      | inl here ↦
          let one : x ≡ back = same_Some x back (sym (cond-true (same_slot x.slot w.slot) (Some x) (target_at (write_targets targets w) w.slot) (slot ∙ here)) ∙ at) in (
            one_write w t f first (images f (in_head f u)) here (ap (λ (y : Target). number_at y.image w.offset w.width) one ∙ sym value) (planned f (in_head f u) here),
            no_writes w targets u rest (λ g listed.
                other_number g.slot w.slot (λ same.
                let less : slot_number f.slot < slot_number g.slot =
                pairs_head (λ i j. i < j) (slot_number f.slot) (numbers u) (slot_number g.slot) rising (in_map_from slot_number (map (λ (h : Function). h.slot) u) g.slot (in_map_from (λ (h : Function). h.slot) u g listed)) in
                let e = same_number f.slot w.slot here in
                let no : ⊥ = omega (arith, less, same, e) in no)),
          )
      | inr other ↦
          let later = sym (cond-false (same_slot x.slot w.slot) (Some x) (target_at (write_targets targets w) w.slot) (slot ∙ other)) ∙ at in (
            no_write w t f first other,
            images_after w targets u rest (pairs_tail (λ i j. i < j) (slot_number f.slot) (numbers u) rising) (λ g listed. images g (in_tail f u g listed))
                (λ g listed. planned g (in_tail f u g listed)) (back, later, value),
          )
    ]
