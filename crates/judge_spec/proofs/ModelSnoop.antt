-- What is taken with `snoop` has no VGA Palette Snoop.
use Rattle.std.proofs.Common.{◌≡◌, ℕ, ◌+◌, ◌*◌, ◌/◌, ◌%◌, List, length, false, refl, sym, subst, arith}
use Rattle.std.specs.Int.{bit_at}
use Rattle.std.proofs.lemmas.Bool.{ne_eqb}
use Rattle.std.proofs.lemmas.List.{get_or-set_same}
use Rattle.pci_spec.specs.Number.{byte_at, has_bit}
use Rattle.pci_spec.specs.Registers.{COMMAND}
use Rattle.pci_spec.specs.Header.{command}
use Rattle.pci_spec.specs.System.{Function}
use Rattle.judge_spec.specs.Words.{without_snoop}
use Rattle.judge_spec.specs.Bytes.{switched_off}
use Rattle.judge_spec.specs.Taken.{bridge_aside, first_aside, fixed_parts_by, isa_aside_by, vga_aside_by, windows_aside}
use Rattle.judge_spec.specs.WordsLaws.{TakenHasNoPaletteSnoop}
use Rattle.judge_spec.proofs.Changes.{without_low_bits}
use Rattle.judge_spec.proofs.Commands.{HasZero, bridge_keeps, header_keeps, parts_keep}
use Rattle.judge_spec.proofs.NoEnables.{first_full, second_full, where_either}

abbrev snoop_bit : ℕ → ℕ
snoop_bit n = n / 32 % 2

cleared : (image : List ℕ) → length image ≡ 256 → HasZero snoop_bit (without_snoop image)
cleared image full =
    let low : byte_at (without_snoop image) COMMAND ≡ byte_at image COMMAND / 64 * 64 + byte_at image COMMAND % 32 = get_or-set_same image COMMAND _ 0 (omega (arith, full)) in
    omega (arith, low)

switched : (image : List ℕ) → length image ≡ 256 → HasZero snoop_bit image → HasZero snoop_bit (switched_off image)
switched image full off = let low = without_low_bits image full in omega (arith, low, off)

none_shown : (image : List ℕ) → HasZero snoop_bit image → has_bit (command image) 5 ≡ false
none_shown image off = ne_eqb (bit_at (command image) 5) 1 (λ one. omega (arith, one, off))

pub taken_has_no_palette_snoop : TakenHasNoPaletteSnoop
taken_has_no_palette_snoop w slots f h is counts taken =
    let second = isa_aside_by w (vga_aside_by w (windows_aside w f)) in
    let start = first_aside w f in
    let start_is : HasZero snoop_bit start.image = rw counts (cleared second.image (second_full w f is.full)) in
    let g_is = where_either (λ x. HasZero snoop_bit x.image) _ start _ taken.g taken.power (switched start.image (first_full w f is.full) start_is) start_is in
    let b = bridge_aside w slots taken.g in
    let b_is = bridge_keeps snoop_bit refl w slots taken.g g_is in
    let k_is = where_either (λ x. HasZero snoop_bit x.image) _ b _ taken.k taken.parts (parts_keep snoop_bit refl w (fixed_parts_by w f) b b_is) b_is in
    none_shown h.image (subst (λ (x : Function). HasZero snoop_bit x.image) (sym taken.header) (header_keeps snoop_bit refl w taken.k k_is))
