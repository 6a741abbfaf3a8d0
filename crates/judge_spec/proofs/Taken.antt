-- Functions without VGA Enable, without ISA Enable and without VGA Palette Snoop, and bridges that aren't subtractive.
use Rattle.std.proofs.Common.{◌≡◌, ℕ, zero, suc, [], ◌∷◌, ◌+◌, ◌*◌, ◌/◌, ◌%◌, List, map, set, false, refl, subst, arith}
use Rattle.std.specs.Int.{bit_at}
use Rattle.std.specs.List.{Contains}
use Rattle.std.proofs.lemmas.Bool.{both_ways, cond_both, ne_eqb}
use Rattle.std.proofs.Math.Bool.{and-false}
use Rattle.std.proofs.lemmas.List.{get_or-set_same}
use Rattle.std.proofs.lemmas.List.Elements.{All-contains}
use Rattle.pci_spec.specs.Number.{byte_at, has_bit, IsImage}
use Rattle.pci_spec.specs.Registers.{BRIDGE_CONTROL, COMMAND, INTERFACE, ISA_ENABLE, PALETTE_SNOOP, VGA_ENABLE}
use Rattle.pci_spec.specs.Header.{bridge_control, class_code, command}
use Rattle.pci_spec.specs.System.{System, Function, IsFunction}
use Rattle.pci_spec.specs.Fault.{controls_bridge, is_subtractive_bridge}
use Rattle.judge_spec.specs.Words.{without_isa, without_snoop, without_vga, isa_aside, snoop_aside, vga_aside}
use Rattle.judge_spec.specs.Laws.{AloneIsNotSubtractive, NoIsaEnable, NoPaletteSnoop, NoVgaEnable}

-- the image has no VGA Enable
cleared : (image : List ℕ) → IsImage image → controls_bridge (set image BRIDGE_CONTROL (byte_at image BRIDGE_CONTROL / 16 * 16 + byte_at image BRIDGE_CONTROL % 8)) VGA_ENABLE ≡ false
cleared image is =
    let full = is.full in
    let new = set image BRIDGE_CONTROL (byte_at image BRIDGE_CONTROL / 16 * 16 + byte_at image BRIDGE_CONTROL % 8) in
    let low : byte_at new BRIDGE_CONTROL ≡ byte_at image BRIDGE_CONTROL / 16 * 16 + byte_at image BRIDGE_CONTROL % 8 =
    get_or-set_same image BRIDGE_CONTROL _ 0 (omega (arith, full)) in
    let none : has_bit (bridge_control new) VGA_ENABLE ≡ false =
    ne_eqb (bit_at (bridge_control new) 3) 1 (λ one. omega (arith, one, low)) in
    rw none (and-false _)

without_vga_is : (image : List ℕ) → IsImage image → controls_bridge (without_vga image) VGA_ENABLE ≡ false
without_vga_is image is = cond_both (controls_bridge image VGA_ENABLE) _ image (λ x. controls_bridge x VGA_ENABLE ≡ false) (λ on. cleared image is) (λ off. off)

-- a mapped element comes from one
from_mapped : (aside : Function → Function) (s : System) (g : Function) → Contains (map aside s) g → (f : Function) × Contains s f × (aside f ≡ g)
from_mapped aside [] g (k, less, is) = absurd (let no : ⊥ = omega (arith, less) in no)
from_mapped aside (f ∷ s) g (zero, less, is) = (f, (0, omega arith, refl), is)
from_mapped aside (f ∷ s) g (suc k, less, is) =
    let found = from_mapped aside s g (k, omega (arith, less), is) in (found.0, (suc found.1.0, omega (arith, found.1.1), found.1.2), found.2)

pub no_vga_enable : NoVgaEnable
no_vga_enable roots s slot system (f, listed, at, vga) =
    let found = from_mapped vga_aside s f listed in
    let image = (All-contains IsFunction s found.0 system.each found.1).image in
    both_ways _ (subst (λ (g : Function). controls_bridge g.image VGA_ENABLE ≡ false) found.2 (without_vga_is found.0.image image)) vga

-- ---- ISA Enable

isa_cleared : (image : List ℕ) → IsImage image → controls_bridge (set image BRIDGE_CONTROL (byte_at image BRIDGE_CONTROL / 8 * 8 + byte_at image BRIDGE_CONTROL % 4)) ISA_ENABLE ≡ false
isa_cleared image is =
    let full = is.full in
    let new = set image BRIDGE_CONTROL (byte_at image BRIDGE_CONTROL / 8 * 8 + byte_at image BRIDGE_CONTROL % 4) in
    let low : byte_at new BRIDGE_CONTROL ≡ byte_at image BRIDGE_CONTROL / 8 * 8 + byte_at image BRIDGE_CONTROL % 4 =
    get_or-set_same image BRIDGE_CONTROL _ 0 (omega (arith, full)) in
    let none : has_bit (bridge_control new) ISA_ENABLE ≡ false =
    ne_eqb (bit_at (bridge_control new) 2) 1 (λ one. omega (arith, one, low)) in
    rw none (and-false _)

without_isa_is : (image : List ℕ) → IsImage image → controls_bridge (without_isa image) ISA_ENABLE ≡ false
without_isa_is image is = cond_both (controls_bridge image ISA_ENABLE) _ image (λ x. controls_bridge x ISA_ENABLE ≡ false) (λ on. isa_cleared image is) (λ off. off)

pub no_isa_enable : NoIsaEnable
no_isa_enable roots s slot system (f, listed, at, isa) =
    let found = from_mapped isa_aside s f listed in
    let image = (All-contains IsFunction s found.0 system.each found.1).image in
    both_ways _ (subst (λ (g : Function). controls_bridge g.image ISA_ENABLE ≡ false) found.2 (without_isa_is found.0.image image)) isa

-- ---- VGA Palette Snoop

snoop_cleared : (image : List ℕ) → IsImage image → has_bit (command (without_snoop image)) PALETTE_SNOOP ≡ false
snoop_cleared image is =
    let full = is.full in
    let low : byte_at (without_snoop image) COMMAND ≡ byte_at image COMMAND / 64 * 64 + byte_at image COMMAND % 32 = get_or-set_same image COMMAND _ 0 (omega (arith, full)) in
    ne_eqb (bit_at (command (without_snoop image)) 5) 1 (λ one. omega (arith, one, low))

pub no_palette_snoop : NoPaletteSnoop
no_palette_snoop roots s slot system (f, listed, at, snoop) =
    let found = from_mapped snoop_aside s f listed in
    let image = (All-contains IsFunction s found.0 system.each found.1).image in
    both_ways _ (subst (λ (g : Function). has_bit (command g.image) PALETTE_SNOOP ≡ false) found.2 (snoop_cleared found.0.image image)) snoop

-- ---- subtractive decoding

made_positive : (image : List ℕ) → IsImage image → is_subtractive_bridge (set image INTERFACE 0) ≡ false
made_positive image is =
    let full = is.full in
    let low : byte_at (set image INTERFACE 0) INTERFACE ≡ 0 = get_or-set_same image INTERFACE 0 0 (omega (arith, full)) in
    let other = ne_eqb (class_code (set image INTERFACE 0)) 0x060401 (λ same. omega (arith, same, low)) in
    rw other (and-false _)

pub alone_is_not_subtractive : AloneIsNotSubtractive
alone_is_not_subtractive s f is alone = rw alone (made_positive f.image is)
