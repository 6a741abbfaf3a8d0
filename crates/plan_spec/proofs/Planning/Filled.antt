-- A function that is filled with numbers that fit is moved.
use Rattle.std.proofs.Common.{◌≡◌, ℕ, ◌+◌, ◌-◌, ◌*◌, ◌<◌, ◌≤◌, inl, inr, true, ◌&&◌, ◌||◌, arith, sym, ◌∙◌, ap}
use Rattle.std.specs.Bool.{IsFalse, nat_le, nat_lt, ◌==◌}
use Rattle.std.specs.Int.{bit_at}
use Rattle.std.proofs.lemmas.Bool.{and_parts, or_cases, cases_Bool, eqb-true, leb-true, ltb-true}
use Rattle.pci_spec.specs.Number.{byte_at, number_at, IsImage}
use Rattle.pci_spec.specs.Header.{layout, address_registers, is_in_register}
use Rattle.pci_spec.specs.Fault.{is_in_address_register}
use Rattle.pci_spec.specs.System.{Function}
use Rattle.pci_spec.specs.Machine.{Write, in_fields, address_fields}
use Rattle.plan_spec.specs.Plan.{IsMoved}
use Rattle.plan_spec.specs.Planning.Fitting.{FitsByNumber}
use Rattle.plan_spec.specs.Planning.Building.{write_of, command_write, AreFitting}
use Rattle.plan_spec.specs.Planning.Numbers.{IsFilled}
use Rattle.plan_spec.proofs.Planning.Registers.{register_bit}
use Rattle.plan_spec.proofs.Planning.Behind.{any_gives}

-- a byte of a register that shows a number that fits
byte_shows : (f g : Function) (w : Write) → IsImage f.image → IsImage g.image → FitsByNumber w f → number_at g.image w.offset w.width ≡ w.value
    → (place i : ℕ) → w.offset ≤ place → place < w.offset + w.width → i < 8 → IsFalse (in_fields (address_fields f.image f.probe) place i) → IsFalse (place == 4 && nat_lt i 2)
    → bit_at (byte_at g.image place) i ≡ bit_at (byte_at f.image place) i
byte_shows f g w is new_is fits shown place i from to small plain other =
    let j = place - w.offset in
    let at : w.offset + j ≡ place = omega (arith, from) in
    let short : j < w.width = omega (arith, from, to) in
    ap (λ p. bit_at (byte_at g.image p) i) (sym at)
    ∙ sym (register_bit g.image w.offset new_is w.width j i short small)
    ∙ ap (λ n. bit_at n (8 * j + i)) shown
    ∙ fits.same j i short small (ap (λ p. in_fields (address_fields f.image f.probe) p i) at ∙ plain) (ap (λ p. p == 4 && nat_lt i 2) at ∙ other)
    ∙ register_bit f.image w.offset is w.width j i short small
    ∙ ap (λ p. bit_at (byte_at f.image p) i) at

module _ (f g : Function) (value : ℕ × ℕ → ℕ) (new_command : ℕ) (is : IsImage f.image) (fitting : AreFitting f value new_command) (filled : IsFilled value new_command f g) where
  in_register : (place i : ℕ) → place < 256 → i < 8 → is_in_address_register (layout f.image) place ≡ true
      → IsFalse (in_fields (address_fields f.image f.probe) place i) → IsFalse (place == 4 && nat_lt i 2) → bit_at (byte_at g.image place) i ≡ bit_at (byte_at f.image place) i
  in_register place i inside small there plain other =
      let found = any_gives (is_in_register place) (address_registers (layout f.image)) there in
      let r = found.x in
      let parts = and_parts (nat_le r.0 place) (nat_lt place (r.0 + r.1)) found.is in
      byte_shows f g (write_of f value r) is filled.image (fitting.registers r found.listed) (filled.registers r found.listed)
      place i (leb-true r.0 place parts.0) (ltb-true place (r.0 + r.1) parts.1) small plain other

  in_command : (place i : ℕ) → (place == 4 || place == 5) ≡ true → i < 8
      → IsFalse (in_fields (address_fields f.image f.probe) place i) → IsFalse (place == 4 && nat_lt i 2) → bit_at (byte_at g.image place) i ≡ bit_at (byte_at f.image place) i
  in_command place i there small plain other = elim (or_cases (place == 4) (place == 5) there) [
    | inl four ↦ (let e = eqb-true place 4 four in byte_shows f g (command_write f new_command) is filled.image fitting.command filled.command_is place i (omega (arith, e)) (omega (arith, e)) small plain other)
    | inr five ↦ (let e = eqb-true place 5 five in byte_shows f g (command_write f new_command) is filled.image fitting.command filled.command_is place i (omega (arith, e)) (omega (arith, e)) small plain other)
  ]

  pub filled_is_moved : IsMoved f g
  filled_is_moved = record {
    slot = filled.slot;
    probe = filled.probe;
    image = filled.image;
    same = λ place i inside small plain other. elim (cases_Bool (is_in_address_register (layout f.image) place)) [
      | inl register ↦ in_register place i inside small register plain other
      | inr none ↦ elim (cases_Bool (place == 4 || place == 5)) [
        | inl command ↦ in_command place i command small plain other
        | inr rest ↦ ap (λ n. bit_at n i) (filled.others place inside none rest)
      ]
    ];
  }
