-- Over a port whose functions are those of the system with their own writable bits, writes do what they do to the system.
use Rattle.std.proofs.Common.{◌≡◌, ℕ, suc, inl, inr, List, [], ◌∷◌, refl, true, cond, arith, sym, ◌∙◌, ap, map}
use Rattle.std.specs.Bool.{◌==◌}
use Rattle.std.specs.List.{Contains, AllZip, All}
use Rattle.std.proofs.lemmas.Bool.{cases_Bool}
use Rattle.std.proofs.lemmas.List.Elements.{All-head, All-tail}
use Rattle.pci_spec.specs.Number.{IsImage}
use Rattle.pci_spec.specs.Slot.{same_slot}
use Rattle.pci_spec.specs.Header.{layout}
use Rattle.pci_spec.specs.System.{System, Function}
use Rattle.pci_spec.specs.Machine.{Write, in_fields, bytes_of_bits, writable_by, writable_bits, clearing_bits, written, target_of, write_target, write_targets, after_writes, write_function, write_system, system_after}
use Rattle.plan_spec.specs.Plan.{IsMoved}
use Rattle.plan_spec.specs.Planning.Fitting.{IsFitting, FitsAt}
use Rattle.plan_spec.proofs.Planning.Moved.{layout_same}
use Rattle.pci_spec.proofs.Pairs.{member_back}
use Rattle.plan_spec.proofs.Planning.Writes.{write_elsewhere, write_here}
use Rattle.plan_spec.proofs.Planning.Fit.{clearing_same, fitting_moves, fitting_later, system_moves, system_trans}

writable_same : (f g : Function) → g.probe ≡ f.probe → layout g.image ≡ layout f.image → writable_bits g.image g.probe ≡ writable_bits f.image f.probe
unfolding writable_bits
writable_same f g probe e =
    ap (λ k. bytes_of_bits (in_fields (writable_by (k == 1) g.probe))) e ∙ ap (λ p. bytes_of_bits (in_fields (writable_by (layout f.image == 1) p))) probe

target_written : (x : Write) (f : Function) → IsImage f.image → (same_slot f.slot x.slot ≡ true → IsFitting x f) → write_target x (target_of f) ≡ target_of (write_function x f)
target_written x f is fits = elim (cases_Bool (same_slot f.slot x.slot)) [
  | inr other ↦
      ap (λ b. cond b (record (target_of f) { image = written (target_of f) x.offset x.width x.value }) (target_of f)) other
      ∙ ap target_of (sym (write_elsewhere x f other))
  | inl here ↦
      let g : Function = record f { image = written (target_of f) x.offset x.width x.value } in
      let m = fitting_moves x f is (fits here) in
      let e : layout (written (target_of f) x.offset x.width x.value) ≡ layout f.image = layout_same f (record f { image = written (target_of f) x.offset x.width x.value }) m is in
      ap (λ b. cond b (record (target_of f) { image = written (target_of f) x.offset x.width x.value }) (target_of f)) here
      ∙ ap (λ (bits : List ℕ). record { slot = f.slot; image = written (target_of f) x.offset x.width x.value; writable = bits; clearing = clearing_bits f.image })
      (sym (writable_same f (record f { image = written (target_of f) x.offset x.width x.value }) refl e))
      ∙ ap (λ (bits : List ℕ). record { slot = f.slot; image = written (target_of f) x.offset x.width x.value; writable = writable_bits (written (target_of f) x.offset x.width x.value) f.probe; clearing = bits })
      (sym (clearing_same f (record f { image = written (target_of f) x.offset x.width x.value }) e))
      ∙ ap target_of (sym (write_here x f here))
]

targets_written : (x : Write) (t : System) → ((f : Function) → Contains t f → write_target x (target_of f) ≡ target_of (write_function x f)) → write_targets (map target_of t) x ≡ map target_of (write_system t x)
targets_written x [] each = refl
targets_written x (f ∷ t) each =
    ap (λ h. h ∷ write_targets (map target_of t) x) (each f (0, omega arith, refl))
    ∙ ap (λ hs. target_of (write_function x f) ∷ hs) (targets_written x t (λ g listed. each g (suc listed.0, (let l = listed.1 in omega (arith, l)), listed.2)))

module _ (s : System) (images : (f : Function) → Contains s f → IsImage f.image) where
  fits_later : (t : System) (x : Write) → AllZip IsMoved s t → FitsAt s x → (g : Function) → Contains t g → same_slot g.slot x.slot ≡ true → IsFitting x g
  fits_later t x moved fit g listed here =
      let found = member_back IsMoved s t moved g listed in
      let f = found.0 in
      let m = found.2 in
      fitting_later x f g (images f found.1) m (fit f found.1 (ap (λ slot. same_slot slot x.slot) (sym m.slot) ∙ here))

  pub own_machine : (t : System) (writes : List Write) → AllZip IsMoved s t → All (FitsAt s) writes → after_writes (map target_of t) writes ≡ map target_of (system_after t writes)
  own_machine t [] moved fits = refl
  own_machine t (x ∷ writes) moved fits =
      let fit = All-head (FitsAt s) x writes fits in
      let image_of = λ (g : Function) (listed : Contains t g). (member_back IsMoved s t moved g listed).2.image in
      ap (λ ts. after_writes ts writes) (targets_written x t (λ g listed. target_written x g (image_of g listed) (λ here. fits_later t x moved fit g listed here)))
      ∙ own_machine (write_system t x) writes (system_trans s t (write_system t x) images moved (system_moves x t image_of (λ g listed here. fits_later t x moved fit g listed here))) (All-tail (FitsAt s) x writes fits)
