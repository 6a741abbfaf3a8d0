-- The numbers of all registers fit when everything is placed, and so does Command.
use Rattle.std.proofs.Common.{◌≡◌, ℕ, ◌+◌, ◌*◌, ◌%◌, ◌^◌, ◌<◌, ◌≤◌, inl, inr, List, true, false, cond, arith, sym, ◌∙◌, ap, subst}
use Rattle.std.specs.Bool.{nat_lt, ◌==◌}
use Rattle.std.specs.List.{Contains, All}
use Rattle.std.specs.Int.{bit_at}
use Rattle.std.proofs.lemmas.Bool.{cases_Bool, and_left, eqb-true, ne_eqb}
use Rattle.std.proofs.lemmas.List.Elements.{All-contains, All-from_recursion}
use Rattle.pci_spec.specs.Header.{layout, bar_count, bar_register, rom_register, address_registers, registers_by}
use Rattle.pci_spec.specs.Bar.{bar_at, bar_kind, has_bar}
use Rattle.pci_spec.specs.Rom.{has_rom}
use Rattle.pci_spec.specs.Window.{WindowKind, IoWindow, MemoryWindow, PrefetchWindow}
use Rattle.pci_spec.specs.Decoded.{IsDecodable, bar_size, rom_size}
use Rattle.pci_spec.specs.System.{System, Function, IsFunction, Bar, Rom, Window, is_bridge}
use Rattle.pci_spec.specs.Bus.{secondary}
use Rattle.plan_spec.specs.Plan.{Pools, window_size, need_of, has_behind}
use Rattle.plan_spec.specs.Place.{nibble_of}
use Rattle.plan_spec.specs.Planning.Building.{AreFitting}
use Rattle.plan_spec.specs.Planning.Numbers.{place_at, new_number, needs_io, needs_memory, new_command}
use Rattle.plan_spec.specs.Planning.Plannable.{IsPlannable}
use Rattle.plan_spec.specs.Planning.Showing.{reach_of}
use Rattle.plan_spec.specs.Planning.Table.{need_behind, IsTable}
use Rattle.plan_spec.proofs.Planning.BarFits.{bar_register_fits}
use Rattle.plan_spec.proofs.Planning.BarNumbers.{bar_number_bits, bar_number_small}
use Rattle.plan_spec.proofs.Planning.BitsFit.{BitsFit, fits_by_bits, fits_joined}
use Rattle.plan_spec.proofs.Planning.CommandFits.{command_fits, command_small}
use Rattle.plan_spec.proofs.Planning.Numbers.{bar_place, bounds, number_of_bar, number_of_rom, numbers_of_windows}
use Rattle.plan_spec.proofs.Planning.Reach.{IsWindowPlace, window_place}
use Rattle.plan_spec.proofs.Planning.Reach as reach
use Rattle.plan_spec.proofs.Planning.RomFits.{rom_by, rom_number_fits, rom_number_small}
use Rattle.plan_spec.proofs.Planning.WindowFits.{PartsFit, window_fits}

two_bytes : (a b : ℕ) → a < 2 ^ 8 → b < 2 ^ 8 → a + 2 ^ 8 * b < 256 ^ 2
two_bytes a b low high = omega (arith, low, high)

four_bytes : (a b : ℕ) → a < 2 ^ 16 → b < 2 ^ 16 → a + 2 ^ 16 * b < 256 ^ 4
four_bytes a b low high = omega (arith, low, high)

module _ (roots : List ℕ) (s : System) (pools : Pools) (p : IsPlannable roots s pools) (tables : (c : WindowKind) → IsTable roots s pools c (place_at roots s pools)) (f : Function) (listed : Contains s f) where
  pub is_function : IsFunction f
  is_function = All-contains IsFunction s f p.system.each listed

  pub is_decodable : IsDecodable f
  is_decodable = All-contains IsDecodable s f p.decodable listed

  -- ---- the places of its parts

  pub bar_room : (n : ℕ) → n < bar_count (layout f.image) → has_bar f.probe n ≡ true
      → (place_at roots s pools f (Bar n) % bar_size f.probe n ≡ 0) × (place_at roots s pools f (Bar n) + bar_size f.probe n ≤ 2 ^ reach_of (bar_kind (bar_at f.probe n)))
  bar_room n inside there = reach.bar_place roots s pools p (place_at roots s pools) tables f n listed inside there

  pub rom_room : has_rom f.image f.probe ≡ true → (place_at roots s pools f Rom % rom_size f.image f.probe ≡ 0) × (place_at roots s pools f Rom + rom_size f.image f.probe ≤ 2 ^ 32)
  rom_room there = reach.rom_place roots s pools p (place_at roots s pools) tables f listed there

  -- no need is cut
  pub need_same : (c : WindowKind) → is_bridge f ≡ true → need_of s pools c (secondary f) ≡ need_behind s pools c f
  need_same c bridge = let small = (tables c).small f listed bridge in omega (arith, small)

  pub window_room : (kind : WindowKind) → is_bridge f ≡ true → has_behind s pools kind f ≡ true
      → IsWindowPlace kind (nibble_of kind f) (place_at roots s pools f (Window kind)) (window_size kind (need_of s pools kind (secondary f)))
  window_room kind bridge has =
      subst (λ need. IsWindowPlace kind (nibble_of kind f) (place_at roots s pools f (Window kind)) (window_size kind need)) (sym (need_same kind bridge))
      (window_place roots s pools p (place_at roots s pools) tables f kind listed bridge has)

  -- ---- register by register

  abbrev value : ℕ × ℕ → ℕ
  value = new_number roots s pools f

  abbrev IsFit : ℕ × ℕ → Type 0
  IsFit r = BitsFit f r.0 r.1 (value r) × (value r < 256 ^ r.1)

  by_value : (o w v : ℕ) → value (o, w) ≡ v → BitsFit f o w v → v < 256 ^ w → IsFit (o, w)
  by_value o w v e fit small = (subst (BitsFit f o w) (sym e) fit, omega (arith, e, small))

  bar_fit : (n : ℕ) → n < bar_count (layout f.image) → IsFit (bar_register n, 4)
  bar_fit n inside =
      let is = is_function in
      let d = is_decodable in
      let e = number_of_bar roots s pools f n inside in
      let fits = bar_register_fits f n value is.image inside
      (λ b low dark. ap (λ v. bit_at v b) e ∙ bar_number_bits f is.image is.probe (bar_place roots s pools f) d.bars bar_room n inside b low dark) in (
        λ j i short small plain. fits.same j i short small plain (and_left (bar_register n + j == 4) (nat_lt i 2) (ne_eqb (bar_register n + j) 4 (λ four. let impossible : ⊥ = omega (arith, four) in impossible))),
        (let below = bar_number_small f is.image is.probe (bar_place roots s pools f) d.bars bar_room n inside in omega (arith, e, below)),
      )

  rom_fit : IsFit (rom_register (layout f.image), 4)
  rom_fit =
      let is = is_function in
      let d = is_decodable in
      by_value (rom_register (layout f.image)) 4 (rom_by f (place_at roots s pools f Rom)) (number_of_rom roots s pools f)
      (rom_number_fits f is.image (place_at roots s pools f Rom) d.rom rom_room)
      (let below = rom_number_small f is.image (place_at roots s pools f Rom) d.rom rom_room in omega (arith, below))

  pub parts_fit : is_bridge f ≡ true → (kind : WindowKind) → PartsFit f kind (bounds roots s pools f kind)
  parts_fit bridge kind =
      window_fits f bridge is_function.image kind (has_behind s pools kind f) (place_at roots s pools f (Window kind))
      (window_size kind (need_of s pools kind (secondary f))) (is_decodable.windows kind (eqb-true (layout f.image) 1 bridge)) (window_room kind bridge)

  io_fit : is_bridge f ≡ true → IsFit (0x1c, 2)
  io_fit bridge =
      let parts = parts_fit bridge IoWindow in
      let v = bounds roots s pools f IoWindow in
      by_value 0x1c 2 (v.base + 2 ^ 8 * v.limit) (numbers_of_windows roots s pools f bridge).io
      (fits_joined f is_function.image 0x1c 1 1 v.base v.limit parts.base_small parts.base parts.limit) (two_bytes v.base v.limit parts.base_small parts.limit_small)

  io_upper_fit : is_bridge f ≡ true → IsFit (0x30, 4)
  io_upper_fit bridge =
      let parts = parts_fit bridge IoWindow in
      let v = bounds roots s pools f IoWindow in
      by_value 0x30 4 (v.base_upper + 2 ^ 16 * v.limit_upper) (numbers_of_windows roots s pools f bridge).io_upper
      (fits_joined f is_function.image 0x30 2 2 v.base_upper v.limit_upper parts.base_upper_small parts.base_upper parts.limit_upper) (four_bytes v.base_upper v.limit_upper parts.base_upper_small parts.limit_upper_small)

  memory_fit : is_bridge f ≡ true → IsFit (0x20, 4)
  memory_fit bridge =
      let parts = parts_fit bridge MemoryWindow in
      let v = bounds roots s pools f MemoryWindow in
      by_value 0x20 4 (v.base + 2 ^ 16 * v.limit) (numbers_of_windows roots s pools f bridge).memory
      (fits_joined f is_function.image 0x20 2 2 v.base v.limit parts.base_small parts.base parts.limit) (four_bytes v.base v.limit parts.base_small parts.limit_small)

  prefetch_fit : is_bridge f ≡ true → IsFit (0x24, 4)
  prefetch_fit bridge =
      let parts = parts_fit bridge PrefetchWindow in
      let v = bounds roots s pools f PrefetchWindow in
      by_value 0x24 4 (v.base + 2 ^ 16 * v.limit) (numbers_of_windows roots s pools f bridge).prefetch
      (fits_joined f is_function.image 0x24 2 2 v.base v.limit parts.base_small parts.base parts.limit) (four_bytes v.base v.limit parts.base_small parts.limit_small)

  prefetch_base_fit : is_bridge f ≡ true → IsFit (0x28, 4)
  prefetch_base_fit bridge =
      let parts = parts_fit bridge PrefetchWindow in
      by_value 0x28 4 (bounds roots s pools f PrefetchWindow).base_upper (numbers_of_windows roots s pools f bridge).prefetch_base parts.base_upper parts.base_upper_small

  prefetch_limit_fit : is_bridge f ≡ true → IsFit (0x2c, 4)
  prefetch_limit_fit bridge =
      let parts = parts_fit bridge PrefetchWindow in
      by_value 0x2c 4 (bounds roots s pools f PrefetchWindow).limit_upper (numbers_of_windows roots s pools f bridge).prefetch_limit parts.limit_upper parts.limit_upper_small

  -- ---- all of them

  bars_inside : (n : ℕ) → is_bridge f ≡ true → n < 2 → n < bar_count (layout f.image)
  bars_inside n bridge few = let e : bar_count (layout f.image) ≡ 2 = ap (λ t. cond t 2 6) bridge in omega (arith, few, e)

  device_inside : (n : ℕ) → is_bridge f ≡ false → n < 6 → n < bar_count (layout f.image)
  device_inside n device few = let e : bar_count (layout f.image) ≡ 6 = ap (λ t. cond t 2 6) device in omega (arith, few, e)

  bridge_fits : is_bridge f ≡ true → All IsFit (registers_by true)
  bridge_fits bridge =
      All-from_recursion IsFit (registers_by true) (
        bar_fit 0 (bars_inside 0 bridge (omega arith)),
        (
          bar_fit 1 (bars_inside 1 bridge (omega arith)),
          (
            io_fit bridge,
            (
              memory_fit bridge,
              (
                prefetch_fit bridge,
                (
                  prefetch_base_fit bridge,
                  (
                    prefetch_limit_fit bridge,
                    (
                      io_upper_fit bridge,
                      (
                        subst (λ t. IsFit (cond t 0x38 0x30, 4)) bridge rom_fit,
                        tt,
                      ),
                    ),
                  ),
                ),
              ),
            ),
          ),
        ),
      )

  device_fits : is_bridge f ≡ false → All IsFit (registers_by false)
  device_fits device =
      All-from_recursion IsFit (registers_by false) (
        bar_fit 0 (device_inside 0 device (omega arith)),
        (
          bar_fit 1 (device_inside 1 device (omega arith)),
          (
            bar_fit 2 (device_inside 2 device (omega arith)),
            (
              bar_fit 3 (device_inside 3 device (omega arith)),
              (
                bar_fit 4 (device_inside 4 device (omega arith)),
                (
                  bar_fit 5 (device_inside 5 device (omega arith)),
                  (
                    subst (λ t. IsFit (cond t 0x38 0x30, 4)) device rom_fit,
                    tt,
                  ),
                ),
              ),
            ),
          ),
        ),
      )

  each_fit : (r : ℕ × ℕ) → Contains (address_registers (layout f.image)) r → IsFit r
  each_fit r there = elim (cases_Bool (is_bridge f)) [
    | inl bridge ↦ All-contains IsFit (registers_by true) r (bridge_fits bridge) (subst (λ t. Contains (registers_by t) r) bridge there)
    | inr device ↦ All-contains IsFit (registers_by false) r (device_fits device) (subst (λ t. Contains (registers_by t) r) device there)
  ]

  pub numbers_fit : AreFitting f (new_number roots s pools f) (new_command s pools f)
  numbers_fit = record {
    registers = λ r there. fits_by_bits f value r there (each_fit r there).0;
    small = λ r there. (each_fit r there).1;
    command = command_fits f (needs_io s pools f) (needs_memory s pools f);
    command_small = command_small f is_function.image (needs_io s pools f) (needs_memory s pools f);
  }
