-- What words set aside first changes no address register.
use Rattle.std.proofs.Common.{◌≡◌, ℕ, ◌<◌, ◌≤◌, List, set, ◌&&◌, not, is_some, refl, ◌∙◌, ap, arith}
use Rattle.std.specs.Bool.{if◌then◌else◌}
use Rattle.std.proofs.lemmas.Bool.{cond_both}
use Rattle.std.proofs.lemmas.List.{get_or-set_other}
use Rattle.pci_spec.specs.Number.{byte_at}
use Rattle.pci_spec.specs.Registers.{BRIDGE_CONTROL, COMMAND, INTERFACE, ISA_ENABLE, SECONDARY_BUS_RESET, VGA_ENABLE}
use Rattle.pci_spec.specs.Slot.{Slot}
use Rattle.pci_spec.specs.System.{Function, System}
use Rattle.pci_spec.specs.Fault.{controls_bridge, is_subtractive_bridge}
use Rattle.judge_spec.specs.Words.{is_alone, isa_aside, snoop_aside, unclaimed_aside, vga_aside}
use Rattle.judge_spec.specs.ModelWords.{Words}
use Rattle.judge_spec.specs.Bytes.{out_of_reset, positive}
use Rattle.judge_spec.specs.Taken.{bridge_aside, first_aside, function_with_image, is_anyone_behind, isa_aside_by, reset_aside, vga_aside_by, windows_aside}

-- the bytes of registers that settling writes besides Command are the same
abbrev pub AreRegistersKept : Function → Function → Type 0
AreRegistersKept f h = (place : ℕ) → 16 ≤ place → place < 60 → byte_at h.image place ≡ byte_at f.image place

set_low : (image : List ℕ) (at v place : ℕ) → at < 16 → 16 ≤ place → byte_at (set image at v) place ≡ byte_at image place
set_low image at v place low from = get_or-set_other image at place v 0 (λ e. omega (arith, e, low, from))

set_high : (image : List ℕ) (at v place : ℕ) → 60 ≤ at → place < 60 → byte_at (set image at v) place ≡ byte_at image place
set_high image at v place high to = get_or-set_other image at place v 0 (λ e. omega (arith, e, high, to))

vga_kept : (w : Words) (f : Function) → AreRegistersKept f (vga_aside_by w f)
vga_kept w f place from to = cond_both (is_some w.vga) (vga_aside f) f (λ x. byte_at x.image place ≡ byte_at f.image place)
    (λ counts. cond_both (controls_bridge f.image VGA_ENABLE) (set f.image BRIDGE_CONTROL _) f.image (λ x. byte_at x place ≡ byte_at f.image place) (λ on. set_high f.image BRIDGE_CONTROL _ place (omega arith) to) (λ off. refl))
    (λ other. refl)

isa_kept : (w : Words) (f : Function) → AreRegistersKept f (isa_aside_by w f)
isa_kept w f place from to = cond_both w.isa (isa_aside f) f (λ x. byte_at x.image place ≡ byte_at f.image place)
    (λ counts. cond_both (controls_bridge f.image ISA_ENABLE) (set f.image BRIDGE_CONTROL _) f.image (λ x. byte_at x place ≡ byte_at f.image place) (λ on. set_high f.image BRIDGE_CONTROL _ place (omega arith) to) (λ off. refl))
    (λ other. refl)

pub first_kept : (w : Words) (f : Function) → windows_aside w f ≡ f → AreRegistersKept f (first_aside w f)
first_kept w f shown place from to =
    let g = windows_aside w f in
    let h = isa_aside_by w (vga_aside_by w g) in
    let snoop : byte_at (first_aside w f).image place ≡ byte_at h.image place =
    cond_both w.snoop (snoop_aside h) h (λ x. byte_at x.image place ≡ byte_at h.image place) (λ counts. set_low h.image COMMAND _ place (omega arith) from) (λ other. refl) in
    snoop ∙ isa_kept w (vga_aside_by w g) place from to ∙ vga_kept w g place from to ∙ ap (λ (x : Function). byte_at x.image place) shown

pub bridge_kept : (w : Words) (slots : List Slot) (f : Function) → AreRegistersKept f (bridge_aside w slots f)
bridge_kept w slots f place from to =
    let r = reset_aside w slots f in
    let reset : byte_at r.image place ≡ byte_at f.image place =
    cond_both (w.reset && controls_bridge f.image SECONDARY_BUS_RESET && not (is_anyone_behind slots f)) (function_with_image f (out_of_reset f.image)) f (λ x. byte_at x.image place ≡ byte_at f.image place)
    (λ counts. set_high f.image BRIDGE_CONTROL _ place (omega arith) to) (λ other. refl) in
    cond_both (w.subtractive && is_subtractive_bridge r.image && not (is_anyone_behind slots r)) (function_with_image r (positive r.image)) r (λ x. byte_at x.image place ≡ byte_at r.image place)
    (λ counts. set_low r.image INTERFACE 0 place (omega arith) from) (λ other. refl)
    ∙ reset

pub unclaimed_kept : (w : Words) (s : System) (f : Function) → AreRegistersKept f (if w.unclaimed then unclaimed_aside s f else f)
unclaimed_kept w s f place from to = cond_both w.unclaimed (unclaimed_aside s f) f (λ (x : Function). byte_at x.image place ≡ byte_at f.image place)
    (λ counts. cond_both (is_alone s f) (record { slot = f.slot; image = set f.image INTERFACE 0; probe = f.probe }) f (λ (x : Function). byte_at x.image place ≡ byte_at f.image place) (λ alone. set_low f.image INTERFACE 0 place (omega arith) from) (λ other. refl))
    (λ other. refl)
