-- What is taken with a word for legacy parts has no VGA Enable, and with `isa` no ISA Enable.
use Rattle.std.proofs.Common.{◌≡◌, ℕ, zero, suc, ◌+◌, ◌*◌, ◌/◌, ◌%◌, ◌==◌, List, [], ◌∷◌, length, set, true, false, ◌&&◌, not, is_some, refl, sym, ◌∙◌, ap, subst, inl, inr, arith}
use Rattle.std.specs.Prelude.{◌⊎◌}
use Rattle.std.specs.Int.{bit_at}
use Rattle.std.proofs.lemmas.Bool.{and_left, both_ways, cases_Bool, cases_eq, cases_lt, cond_both, ne_eqb, true_from_ne_false}
use Rattle.std.proofs.Math.Bool.{and-false}
use Rattle.std.proofs.lemmas.List.{get_or-set_same, get_or-set_other, get_or_past, length-set}
use Rattle.pci_spec.specs.Number.{byte_at, has_bit}
use Rattle.pci_spec.specs.Registers.{COMMAND, STATUS, INTERFACE, HEADER_TYPE, BRIDGE_CONTROL, SECONDARY_BUS_RESET, ISA_ENABLE, VGA_ENABLE}
use Rattle.pci_spec.specs.Header.{bridge_control, layout}
use Rattle.pci_spec.specs.Slot.{Slot}
use Rattle.pci_spec.specs.System.{Function}
use Rattle.pci_spec.specs.Decoded.{DecodedBar}
use Rattle.pci_spec.specs.Fault.{controls_bridge, is_subtractive_bridge}
use Rattle.judge_spec.specs.Words.{isa_aside, snoop_aside, vga_aside, without_isa, without_snoop, without_vga}
use Rattle.judge_spec.specs.ModelWords.{Words}
use Rattle.judge_spec.specs.Bytes.{as_bare_device, cleared, out_of_reset, positive, switched_off, width_of, without_bars}
use Rattle.judge_spec.specs.Taken.{IsTakenAs, IsWhere, bridge_aside, cardbus_aside, compatible_bars, first_aside, fixed_parts_by, is_anyone_behind, is_cardbus, is_ide, is_unnumbered, isa_aside_by, parts_aside, reset_aside, snoop_aside_by, vga_aside_by, windows_aside, function_with_image, without_channels, without_socket, FixedParts}
use Rattle.judge_spec.specs.WordsLaws.{TakenHasNoIsaEnable, TakenHasNoVgaEnable}
use Rattle.judge_spec.proofs.Changes.{bare_is_device, device_is_none}
use Rattle.judge_spec.proofs.WindowBytes.{aside_differs}

-- an image of 256 bytes with a bit of Bridge Control cleared
record IsOff (bit : ℕ) (image : List ℕ) : Type 0 where
  full : length image ≡ 256
  off : controls_bridge image bit ≡ false

-- it is one of the two
abbrev IsEnable : ℕ → Type 0
IsEnable bit = (bit ≡ ISA_ENABLE) ⊎ (bit ≡ VGA_ENABLE)

-- the header and the bit are what they were
still_off : (bit : ℕ) (image changed : List ℕ) → byte_at changed HEADER_TYPE ≡ byte_at image HEADER_TYPE
    → has_bit (bridge_control changed) bit ≡ has_bit (bridge_control image) bit
    → controls_bridge image bit ≡ false → controls_bridge changed bit ≡ false
still_off bit image changed kind same off =
    ap (λ n. n % 128 == 1 && has_bit (bridge_control changed) bit) kind ∙ ap (λ b. layout image == 1 && b) same ∙ off

-- ---- each change

vga_off : (image : List ℕ) → length image ≡ 256 → IsOff VGA_ENABLE (without_vga image)
vga_off image full = cond_both (controls_bridge image VGA_ENABLE) _ image (λ x. IsOff VGA_ENABLE x)
    (λ on.
    let control = byte_at image BRIDGE_CONTROL in
    let new = set image BRIDGE_CONTROL (control / 16 * 16 + control % 8) in
    let low : byte_at new BRIDGE_CONTROL ≡ control / 16 * 16 + control % 8 = get_or-set_same image BRIDGE_CONTROL _ 0 (omega (arith, full)) in
    let none : has_bit (bridge_control new) VGA_ENABLE ≡ false = ne_eqb (bit_at (bridge_control new) 3) 1 (λ one. omega (arith, one, low)) in
    record { full = length-set image BRIDGE_CONTROL _ ∙ full; off = rw none (and-false _) })
    (λ off. record { full = full; off = off })

isa_off : (image : List ℕ) → length image ≡ 256 → IsOff ISA_ENABLE (without_isa image)
isa_off image full = cond_both (controls_bridge image ISA_ENABLE) _ image (λ x. IsOff ISA_ENABLE x)
    (λ on.
    let control = byte_at image BRIDGE_CONTROL in
    let new = set image BRIDGE_CONTROL (control / 8 * 8 + control % 4) in
    let low : byte_at new BRIDGE_CONTROL ≡ control / 8 * 8 + control % 4 = get_or-set_same image BRIDGE_CONTROL _ 0 (omega (arith, full)) in
    let none : has_bit (bridge_control new) ISA_ENABLE ≡ false = ne_eqb (bit_at (bridge_control new) 2) 1 (λ one. omega (arith, one, low)) in
    record { full = length-set image BRIDGE_CONTROL _ ∙ full; off = rw none (and-false _) })
    (λ off. record { full = full; off = off })

-- Bridge Control written, with the bit as it was
written_off : (bit : ℕ) (image : List ℕ) (n : ℕ) → bit_at (n + 256 * byte_at image (BRIDGE_CONTROL + 1)) bit ≡ bit_at (bridge_control image) bit → IsOff bit image → IsOff bit (set image BRIDGE_CONTROL n)
written_off bit image n same is =
    let changed = set image BRIDGE_CONTROL n in
    let full = is.full in
    let kind : byte_at changed HEADER_TYPE ≡ byte_at image HEADER_TYPE = get_or-set_other image BRIDGE_CONTROL HEADER_TYPE n 0 (λ e. cc e) in
    let high : byte_at changed (BRIDGE_CONTROL + 1) ≡ byte_at image (BRIDGE_CONTROL + 1) = get_or-set_other image BRIDGE_CONTROL (BRIDGE_CONTROL + 1) n 0 (λ e. omega (arith, e)) in
    let low : byte_at changed BRIDGE_CONTROL ≡ n = get_or-set_same image BRIDGE_CONTROL n 0 (omega (arith, full)) in
    let control : bridge_control changed ≡ n + 256 * byte_at image (BRIDGE_CONTROL + 1) = omega (arith, low, high) in
    record {
      full = length-set image BRIDGE_CONTROL n ∙ full;
      off = still_off bit image changed kind (ap (λ m. has_bit m bit) control ∙ ap (λ m. m == 1) same) is.off;
    }

-- clearing ISA Enable leaves VGA Enable
isa_leaves_vga : (image : List ℕ) → IsOff VGA_ENABLE image → IsOff VGA_ENABLE (without_isa image)
isa_leaves_vga image is = cond_both (controls_bridge image ISA_ENABLE) _ image (λ x. IsOff VGA_ENABLE x)
    (λ on.
    let control = byte_at image BRIDGE_CONTROL in
    let same : bit_at (control / 8 * 8 + control % 4 + 256 * byte_at image (BRIDGE_CONTROL + 1)) 3 ≡ bit_at (bridge_control image) 3 = omega arith in
    written_off VGA_ENABLE image (control / 8 * 8 + control % 4) same is)
    (λ off. is)

pub off_at : (image : List ℕ) (k : ℕ) → (k ≡ COMMAND → ⊥) → (k ≡ STATUS → ⊥) → byte_at (switched_off image) k ≡ byte_at image k
off_at image k command status =
    get_or-set_other (set image COMMAND (byte_at image COMMAND / 4 * 4)) STATUS k _ 0 status ∙ get_or-set_other image COMMAND k _ 0 command

switched_stays_off : (bit : ℕ) (image : List ℕ) → IsOff bit image → IsOff bit (switched_off image)
switched_stays_off bit image is =
    let low = off_at image BRIDGE_CONTROL (λ e. cc e) (λ e. cc e) in
    let high = off_at image (BRIDGE_CONTROL + 1) (λ e. cc e) (λ e. cc e) in
    let control : bridge_control (switched_off image) ≡ bridge_control image = omega (arith, low, high) in
    record {
      full = length-set (set image COMMAND (byte_at image COMMAND / 4 * 4)) STATUS _ ∙ length-set image COMMAND _ ∙ is.full;
      off = still_off bit image (switched_off image) (off_at image HEADER_TYPE (λ e. cc e) (λ e. cc e)) (ap (λ n. has_bit n bit) control) is.off;
    }

snoop_leaves : (image : List ℕ) (k : ℕ) → (k ≡ COMMAND → ⊥) → byte_at (without_snoop image) k ≡ byte_at image k
snoop_leaves image k other = get_or-set_other image COMMAND k _ 0 other

snoop_stays_off : (bit : ℕ) (image : List ℕ) → IsOff bit image → IsOff bit (without_snoop image)
snoop_stays_off bit image is =
    let changed = without_snoop image in
    let low = snoop_leaves image BRIDGE_CONTROL (λ e. cc e) in
    let high = snoop_leaves image (BRIDGE_CONTROL + 1) (λ e. cc e) in
    let control : bridge_control changed ≡ bridge_control image = omega (arith, low, high) in
    record {
      full = length-set image COMMAND _ ∙ is.full;
      off = still_off bit image changed (snoop_leaves image HEADER_TYPE (λ e. cc e)) (ap (λ n. has_bit n bit) control) is.off;
    }

-- VGA Palette Snoop left aside
snoop_by_stays_off : (bit : ℕ) (w : Words) (f : Function) → IsOff bit f.image → IsOff bit (snoop_aside_by w f).image
snoop_by_stays_off bit w f is = cond_both w.snoop (snoop_aside f) f (λ x. IsOff bit x.image) (λ counts. snoop_stays_off bit f.image is) (λ other. is)

-- bits below the one of reset
kept_by_reset : (bit : ℕ) → IsEnable bit → (control high : ℕ) → bit_at (control / 128 * 128 + control % 64 + 256 * high) bit ≡ bit_at (control + 256 * high) bit
kept_by_reset bit (inl isa) control high =
    subst (λ i. bit_at (control / 128 * 128 + control % 64 + 256 * high) i ≡ bit_at (control + 256 * high) i) (sym isa) (let same : bit_at (control / 128 * 128 + control % 64 + 256 * high) 2 ≡ bit_at (control + 256 * high) 2 = omega arith in same)
kept_by_reset bit (inr vga) control high =
    subst (λ i. bit_at (control / 128 * 128 + control % 64 + 256 * high) i ≡ bit_at (control + 256 * high) i) (sym vga) (let same : bit_at (control / 128 * 128 + control % 64 + 256 * high) 3 ≡ bit_at (control + 256 * high) 3 = omega arith in same)

reset_stays_off : (bit : ℕ) → IsEnable bit → (image : List ℕ) → IsOff bit image → IsOff bit (out_of_reset image)
reset_stays_off bit which image is =
    let control = byte_at image BRIDGE_CONTROL in
    let whole : control + 256 * byte_at image (BRIDGE_CONTROL + 1) ≡ bridge_control image = omega arith in
    written_off bit image (control / 128 * 128 + control % 64) (kept_by_reset bit which control (byte_at image (BRIDGE_CONTROL + 1)) ∙ ap (λ n. bit_at n bit) whole) is

positive_stays_off : (bit : ℕ) (image : List ℕ) → IsOff bit image → IsOff bit (positive image)
positive_stays_off bit image is =
    let low : byte_at (positive image) BRIDGE_CONTROL ≡ byte_at image BRIDGE_CONTROL = get_or-set_other image INTERFACE BRIDGE_CONTROL 0 0 (λ e. cc e) in
    let high : byte_at (positive image) (BRIDGE_CONTROL + 1) ≡ byte_at image (BRIDGE_CONTROL + 1) = get_or-set_other image INTERFACE (BRIDGE_CONTROL + 1) 0 0 (λ e. cc e) in
    let control : bridge_control (positive image) ≡ bridge_control image = omega (arith, low, high) in
    record {
      full = length-set image INTERFACE 0 ∙ is.full;
      off = still_off bit image (positive image) (get_or-set_other image INTERFACE HEADER_TYPE 0 0 (λ e. cc e)) (ap (λ n. has_bit n bit) control) is.off;
    }

bridge_stays_off : (bit : ℕ) → IsEnable bit → (w : Words) (slots : List Slot) (g : Function) → IsOff bit g.image → IsOff bit (bridge_aside w slots g).image
bridge_stays_off bit which w slots g is =
    let r = reset_aside w slots g in
    let reset : IsOff bit r.image = cond_both (w.reset && controls_bridge g.image SECONDARY_BUS_RESET && not (is_anyone_behind slots g)) (function_with_image g (out_of_reset g.image)) g (λ x. IsOff bit x.image)
    (λ on. reset_stays_off bit which g.image is) (λ other. is) in
    cond_both (w.subtractive && is_subtractive_bridge r.image && not (is_anyone_behind slots r)) (function_with_image r (positive r.image)) r (λ x. IsOff bit x.image)
    (λ on. positive_stays_off bit r.image reset) (λ other. reset)

-- ---- what becomes a device, or stays one

-- a layout of 0 stays where bytes are cleared
zero_stays : (image : List ℕ) (k : ℕ) → layout image ≡ 0 → layout (set image k 0) ≡ 0
zero_stays image k device = elim (cases_eq HEADER_TYPE k) [
  | inl same ↦ elim (cases_lt k (length image)) [
    | inl within ↦ ap (λ n. n % 128) (ap (λ j. byte_at (set image k 0) j) same ∙ get_or-set_same image k 0 0 within)
    | inr past ↦ ap (λ n. n % 128) (get_or_past (set image k 0) HEADER_TYPE 0 (omega (arith, past, same, length-set image k 0)))
  ]
  | inr other ↦ ap (λ n. n % 128) (get_or-set_other image k HEADER_TYPE 0 0 other) ∙ device
]

cleared_stays : (offset count : ℕ) (image : List ℕ) → layout image ≡ 0 → layout (cleared offset count image) ≡ 0
cleared_stays offset zero image device = device
cleared_stays offset (suc count) image device = zero_stays (cleared offset count image) (offset + count) (cleared_stays offset count image device)

pub bars_stay : (bars : List DecodedBar) (image : List ℕ) → layout image ≡ 0 → layout (without_bars bars image) ≡ 0
bars_stay [] image device = device
bars_stay (bar ∷ bars) image device = bars_stay bars (cleared bar.register (width_of bar.kind) image) (cleared_stays bar.register (width_of bar.kind) image device)

zero_is_no_bridge : (n : ℕ) → n ≡ 0 → (n == 1) ≡ false
zero_is_no_bridge n device = ne_eqb n 1 (λ one. omega (arith, device, one))

pub is_controller : (f : Function) → is_ide f.image ≡ true → layout f.image ≡ 0
is_controller f ide = elim (cases_eq (layout f.image) 0) [
  | inl device ↦ device
  | inr other ↦ absurd (both_ways (is_ide f.image) (and_left _ _ (ne_eqb (layout f.image) 0 other)) ide)
]

parts_stay_off : (bit : ℕ) (w : Words) (fixed : FixedParts) (f : Function) → IsOff bit f.image → controls_bridge (parts_aside w fixed f).image bit ≡ false
parts_stay_off bit w fixed f is = elim (cases_Bool (w.ide && is_ide f.image)) [
  | inl channels ↦ (
      let ide : is_ide f.image ≡ true = true_from_ne_false _ (λ no. both_ways (w.ide && is_ide f.image) (ap (λ b. w.ide && b) no ∙ and-false w.ide) channels) in
      let device = bars_stay (compatible_bars f) f.image (is_controller f ide) in
      rw channels (and_left _ _ (zero_is_no_bridge (layout (without_channels f).image) device))
      )
  | inr other ↦ elim (cases_Bool (w.unnumbered && is_unnumbered fixed f)) [
    | inl bare ↦ rw (other, bare) (and_left _ _ (device_is_none f.image))
    | inr numbered ↦ rw (other, numbered) is.off
  ]
]

-- a function with another layout than 1 is no bridge
cardbus_stays_off : (bit : ℕ) (w : Words) (f : Function) → controls_bridge f.image bit ≡ false → controls_bridge (cardbus_aside w f).image bit ≡ false
cardbus_stays_off bit w f off =
    cond_both (w.cardbus && is_cardbus f) (without_socket f) f (λ x. controls_bridge x.image bit ≡ false)
    (λ counts. and_left _ _ (zero_is_no_bridge (layout (as_bare_device f.image)) (bare_is_device f.image))) (λ other. off)

-- ---- all of them

-- what is so with a change and without it is so
pub where_either : (Q : Function → Type 0) (Condition : Type 0) (f changed g : Function) → IsWhere Condition f changed g → Q changed → Q f → Q g
where_either Q Condition f changed g (inl (holds, is)) with_it without_it = subst Q (sym is) with_it
where_either Q Condition f changed g (inr (fails, is)) with_it without_it = subst Q (sym is) without_it

taken_has_none : (bit : ℕ) → IsEnable bit → (w : Words) (slots : List Slot) (f h : Function) → IsOff bit (first_aside w f).image → IsTakenAs w slots f h → controls_bridge h.image bit ≡ false
taken_has_none bit which w slots f h start_is taken =
    let start = first_aside w f in
    let g_is : IsOff bit taken.g.image = where_either (λ x. IsOff bit x.image) _ start _ taken.g taken.power (switched_stays_off bit start.image start_is) start_is in
    let b = bridge_aside w slots taken.g in
    let b_is : IsOff bit b.image = bridge_stays_off bit which w slots taken.g g_is in
    let k_is = where_either (λ x. controls_bridge x.image bit ≡ false) _ b _ taken.k taken.parts (parts_stay_off bit w (fixed_parts_by w f) b b_is) b_is.off in
    subst (λ (x : Function). controls_bridge x.image bit ≡ false) (sym taken.header) (cardbus_stays_off bit w taken.k k_is)

vga_full : (w : Words) (f : Function) → length f.image ≡ 256 → length (vga_aside_by w f).image ≡ 256
vga_full w f full = cond_both (is_some w.vga) (vga_aside f) f (λ x. length x.image ≡ 256) (λ counts. (vga_off f.image full).full) (λ other. full)

-- before VGA Palette Snoop is left aside
pub second_full : (w : Words) (f : Function) → length f.image ≡ 256 → length (isa_aside_by w (vga_aside_by w (windows_aside w f))).image ≡ 256
second_full w f full =
    let shown = aside_differs w f in
    let first = vga_aside_by w (windows_aside w f) in
    let first_is = vga_full w (windows_aside w f) (shown.full ∙ full) in
    cond_both w.isa (isa_aside first) first (λ x. length x.image ≡ 256) (λ counts. (isa_off first.image first_is).full) (λ other. first_is)

pub first_full : (w : Words) (f : Function) → length f.image ≡ 256 → length (first_aside w f).image ≡ 256
first_full w f full =
    let second = isa_aside_by w (vga_aside_by w (windows_aside w f)) in
    let second_is = second_full w f full in
    cond_both w.snoop (snoop_aside second) second (λ x. length x.image ≡ 256) (λ counts. length-set second.image COMMAND _ ∙ second_is) (λ other. second_is)

pub taken_has_no_vga_enable : TakenHasNoVgaEnable
taken_has_no_vga_enable w slots f h is counts taken =
    let shown = aside_differs w f in
    let first = vga_aside_by w (windows_aside w f) in
    let first_is : IsOff VGA_ENABLE first.image = rw counts (vga_off (windows_aside w f).image (shown.full ∙ is.full)) in
    let second_is : IsOff VGA_ENABLE (isa_aside_by w first).image = cond_both w.isa (isa_aside first) first (λ x. IsOff VGA_ENABLE x.image) (λ on. isa_leaves_vga first.image first_is) (λ off. first_is) in
    taken_has_none VGA_ENABLE (inr refl) w slots f h (snoop_by_stays_off VGA_ENABLE w (isa_aside_by w first) second_is) taken

pub taken_has_no_isa_enable : TakenHasNoIsaEnable
taken_has_no_isa_enable w slots f h is counts taken =
    let shown = aside_differs w f in
    let first = vga_aside_by w (windows_aside w f) in
    let second_is : IsOff ISA_ENABLE (isa_aside_by w first).image = rw counts (isa_off first.image (vga_full w (windows_aside w f) (shown.full ∙ is.full))) in
    taken_has_none ISA_ENABLE (inl refl) w slots f h (snoop_by_stays_off ISA_ENABLE w (isa_aside_by w first) second_is) taken
