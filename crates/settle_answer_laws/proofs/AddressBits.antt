-- A write may set each address bit.
use Rattle.std.proofs.Common.{◌≡◌, ℕ, ◌<◌, List, [], ◌∷◌, ◌++◌, refl, Bool, true, false, ◌||◌, sym, ◌∙◌, ap, map}
use Rattle.std.specs.Bool.{◌==◌, if◌then◌else◌}
use Rattle.std.specs.List.{list_any, range_with_len}
use Rattle.std.proofs.lemmas.Bool.{both_ways}
use Rattle.std.proofs.lemmas.List.Folds.{list_any-append}
use Rattle.pci_spec.specs.Number.{byte_at, number_at, has_bit}
use Rattle.pci_spec.specs.Header.{layout, rom_place}
use Rattle.pci_spec.specs.System.{Function}
use Rattle.pci_spec.specs.Machine.{Field, field_has, in_fields, bar_field, window_fields, address_fields, writable_by, writable_bits, plain_field}
use Rattle.pci_spec.proofs.WritableBits.{has_bit-writable_bits}
use Rattle.plan_spec.proofs.Planning.Moved.{kind_fields}

moved_back : (bars rom windows enable control : Bool) → (bars || (rom || windows)) ≡ true → (bars || (windows || (enable || (rom || control)))) ≡ true
moved_back true rom windows enable control h = refl
moved_back false rom true enable control h = refl
moved_back false rom false true control h = refl
moved_back false true false false control h = refl
moved_back false false false false control h = absurd (both_ways false refl h)

-- the table has the ROM behind the windows
among_all : (bars windows control : List Field) (rom enable : Field) (place i : ℕ) → in_fields (bars ++ rom ∷ windows) place i ≡ true → in_fields (bars ++ (windows ++ enable ∷ rom ∷ control)) place i ≡ true
among_all bars windows control rom enable place i h =
    let has = field_has place i in
    list_any-append has bars (windows ++ enable ∷ rom ∷ control) ∙ ap (λ b. list_any has bars || b) (list_any-append has windows (enable ∷ rom ∷ control))
    ∙ moved_back (list_any has bars) (has rom) (list_any has windows) (has enable) (list_any has control) (sym (list_any-append has bars (rom ∷ windows)) ∙ h)

by_kind_writable : (bridge : Bool) (probe : List ℕ) (place i : ℕ) → in_fields (kind_fields bridge probe (number_at probe (rom_place bridge) 4)) place i ≡ true → in_fields (writable_by bridge probe) place i ≡ true
by_kind_writable true probe place i h =
    among_all (map (bar_field probe) (range_with_len 0 2)) (window_fields probe)
    (plain_field 0x04 2 0x0547 ∷ plain_field 0x18 1 0xff ∷ plain_field 0x19 1 0xff ∷ plain_field 0x1a 1 0xff ∷ plain_field 0x3c 1 0xff ∷ [])
    (plain_field 0x38 4 (number_at probe 0x38 4)) (plain_field 0x38 1 (if number_at probe 0x38 4 == 0 then 0 else 1)) place i h
by_kind_writable false probe place i h =
    among_all (map (bar_field probe) (range_with_len 0 6)) [] (plain_field 0x04 2 0x0547 ∷ plain_field 0x3c 1 0xff ∷ [])
    (plain_field 0x30 4 (number_at probe 0x30 4)) (plain_field 0x30 1 (if number_at probe 0x30 4 == 0 then 0 else 1)) place i h

pub address_bits_writable : (f : Function) (place i : ℕ) → place < 256 → i < 8 → in_fields (address_fields f.image f.probe) place i ≡ true → has_bit (byte_at (writable_bits f.image f.probe) place) i ≡ true
address_bits_writable f place i inside small h =
    has_bit-writable_bits f.image f.probe place i inside small ∙ by_kind_writable (layout f.image == 1) f.probe place i h
