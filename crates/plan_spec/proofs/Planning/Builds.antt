-- What is built of a function shows the numbers that were asked for.
use Rattle.std.proofs.Common.{◌≡◌, ℕ, ◌+◌, ◌≤◌, ◌⊎◌, inl, inr, List, [], ◌∷◌, ◌++◌, refl, true, arith, ap, subst, map}
use Rattle.std.specs.List.{Contains}
use Rattle.std.proofs.lemmas.List.Elements.{Contains-append_cases, Contains-append_left, Contains-append_right}
use Rattle.pci_spec.specs.Number.{number_at, IsImage}
use Rattle.pci_spec.specs.Slot.{same_slot}
use Rattle.pci_spec.specs.Header.{layout, address_registers, registers_by}
use Rattle.pci_spec.specs.System.{Function, is_bridge}
use Rattle.pci_spec.specs.Machine.{Write}
use Rattle.pci_spec.proofs.Members.{in_nil, in_cons_cases, in_head, in_map_to, in_map_from, IsMade}
use Rattle.pci_spec.proofs.SameSlot.{slot_itself}
use Rattle.plan_spec.specs.Planning.Fitting.{IsFitting}
use Rattle.plan_spec.specs.Planning.Building.{write_of, command_write, built, AreFitting, IsBuilt}
use Rattle.plan_spec.proofs.Planning.Registers.{fits_by_number}
use Rattle.plan_spec.proofs.Planning.Fit.{moved_itself}
use Rattle.plan_spec.proofs.Planning.Staging.{is_register, pairs_in_order, registers_in_order}
use Rattle.plan_spec.proofs.Planning.Settled.{IsSetting, function_moved, settled}
use Rattle.plan_spec.proofs.Planning.Reached.{two_of}

module _ (f : Function) (is : IsImage f.image) (value : ℕ × ℕ → ℕ) (new_command : ℕ) (fitting : AreFitting f value new_command) where
  abbrev registers : List Write
  registers = map (write_of f value) (address_registers (layout f.image))

  abbrev all : List Write
  all = registers ++ command_write f new_command ∷ []

  -- a write of the list is of a register or of Command
  which : (x : Write) → Contains all x → (IsMade (write_of f value) (address_registers (layout f.image)) x) ⊎ (command_write f new_command ≡ x)
  which x has = elim (Contains-append_cases registers (command_write f new_command ∷ []) x has) [
    | inl register ↦ inl (in_map_to (write_of f value) (address_registers (layout f.image)) x register)
    | inr last ↦ elim (in_cons_cases (command_write f new_command) [] x last) [ inl it ↦ inr it | inr none ↦ absurd (in_nil x none) ]
  ]

  all_fit : (x : Write) → Contains all x → same_slot f.slot x.slot ≡ true → IsFitting x f
  all_fit x has here = elim (which x has) [
    | inl register ↦ subst (λ (w : Write). IsFitting w f) register.is (fits_by_number (write_of f value register.from) f is (fitting.registers register.from register.has))
    | inr last ↦ subst (λ (w : Write). IsFitting w f) last (fits_by_number (command_write f new_command) f is fitting.command)
  ]

  register_there : (r : ℕ × ℕ) → Contains (address_registers (layout f.image)) r → number_at (built f value new_command).image r.0 r.1 ≡ value r
  register_there r listed =
      let at = is_register f r listed in
      let low = at.low in
      let high = at.high in
      settled f is f all r.0 r.1 (value r) (moved_itself f is) (omega (arith, high)) (fitting.small r listed) all_fit
      (λ x has. elim (which x has) [
        | inr last ↦
            let o = ap (λ (w : Write). w.offset) last in
            let n = ap (λ (w : Write). w.width) last in
            inl (inr (inr (omega (arith, low, o, n))))
        | inl register ↦
            let q = register.from in
            let o = ap (λ (w : Write). w.offset) register.is in
            let n = ap (λ (w : Write). w.width) register.is in
            elim (two_of (λ (a b : ℕ × ℕ). a.0 + a.1 ≤ b.0) (registers_by (is_bridge f)) r q (pairs_in_order (registers_by (is_bridge f)) (registers_in_order (is_bridge f))) listed register.has) [
              | inl e ↦ inr (subst (λ (w : Write). IsSetting f.slot r.0 r.1 (value r) w) register.is
                  (subst (λ (a : ℕ × ℕ). IsSetting f.slot r.0 r.1 (value r) (write_of f value a)) e record { here = slot_itself f.slot; offset = refl; width = refl; value = refl }))
              | inr (inl before) ↦ inl (inr (inl (omega (arith, before, o))))
              | inr (inr after) ↦ inl (inr (inr (omega (arith, after, o, n))))
            ]
      ])
      (inr (
        write_of f value r,
        Contains-append_left registers (command_write f new_command ∷ []) (write_of f value r) (in_map_from (write_of f value) (address_registers (layout f.image)) r listed),
        record { here = slot_itself f.slot; offset = refl; width = refl; value = refl },
      ))

  command_there : number_at (built f value new_command).image 4 2 ≡ new_command
  command_there =
      settled f is f all 4 2 new_command (moved_itself f is) (omega arith) fitting.command_small all_fit
      (λ x has. elim (which x has) [
        | inr last ↦ inr (subst (λ (w : Write). IsSetting f.slot 4 2 new_command w) last record { here = slot_itself f.slot; offset = refl; width = refl; value = refl })
        | inl register ↦
            let low = (is_register f register.from register.has).low in
            let o = ap (λ (w : Write). w.offset) register.is in
            inl (inr (inl (omega (arith, low, o))))
      ])
      (inr (
        command_write f new_command,
        Contains-append_right registers (command_write f new_command ∷ []) (command_write f new_command) (in_head (command_write f new_command) []),
        record { here = slot_itself f.slot; offset = refl; width = refl; value = refl },
      ))

  pub is_built : IsBuilt f (built f value new_command) value new_command
  is_built = record {
    moved = function_moved f is f all (moved_itself f is) all_fit;
    registers = register_there;
    command_is = command_there;
  }
