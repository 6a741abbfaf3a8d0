-- What `ide` and `unnumbered` leave alone, whatever other words count.
use Rattle.std.proofs.Common.{◌≡◌, ℕ, ◌/◌, ◌%◌, ◌==◌, ◌<◌, inl, inr, List, length, set, Bool, true, false, ◌&&◌, ◌||◌, not, refl, sym, ◌∙◌, ap, subst, arith, Some, None, is_some}
use Rattle.std.specs.Bool.{IsTrue, if◌then◌else◌}
use Rattle.std.proofs.lemmas.Bool.{and_left, and_parts, and_right, both_ways, cases_Bool, cases_lt, cond_both, eqb-true, ne_eqb, or_cases, or_left}
use Rattle.std.proofs.lemmas.List.{get_or-set_same, get_or-set_other, get_or_past, length-set}
use Rattle.pci_spec.specs.Number.{byte_at, IsImage}
use Rattle.pci_spec.specs.Registers.{COMMAND, STATUS, INTERFACE, HEADER_TYPE, PRIMARY_BUS, SECONDARY_BUS, SUBORDINATE_BUS, BRIDGE_CONTROL, SECONDARY_BUS_RESET, ISA_ENABLE, VGA_ENABLE}
use Rattle.pci_spec.specs.Header.{class_code, layout}
use Rattle.pci_spec.specs.Slot.{Slot}
use Rattle.pci_spec.specs.System.{Function, is_bridge}
use Rattle.pci_spec.specs.Decoded.{bridge_of, record_of}
use Rattle.pci_spec.specs.Fault.{controls_bridge, is_subtractive_bridge}
use Rattle.pci_spec.specs.Order.{Place}
use Rattle.judge_spec.specs.Words.{without_isa, without_snoop, without_vga, isa_aside, snoop_aside, vga_aside}
use Rattle.judge_spec.specs.ModelWords.{Words, no_words}
use Rattle.judge_spec.specs.Bytes.{out_of_reset, positive, switched_off}
use Rattle.judge_spec.specs.Taken.{HasNoOwnFaultBefore, IsTakenAs, IsWhere, bridge_aside, cardbus_aside, first_aside, fixed_parts_by, is_cardbus, has_numbers, is_anyone_behind, is_ide, is_unnumbered, is_unnumbered_bridge, isa_aside_by, may_have_parts_by, parts_aside, reset_aside, vga_aside_by, windows_aside, function_with_image, without_buses, without_channels, without_socket, FixedParts, no_fixed_parts}
use Rattle.judge_spec.specs.WordsLaws.{IdeLeavesOthers, UnnumberedLeavesOthers, UnnumberedLeavesNumbers, IdeAloneLeavesOthers, UnnumberedAloneLeavesOthers}
use Rattle.judge_spec.proofs.Kept.{taken_same, unnumbered_is_bridge}
use Rattle.judge_spec.proofs.WindowBytes.{IsOutside, aside_differs}
use Rattle.judge_spec.proofs.NoEnables.{off_at}

-- ---- which bytes words change

-- a byte of none of the registers that words change before they look for parts
pub record IsAside (k : ℕ) : Type 0 where
  pub command : k ≡ COMMAND → ⊥
  pub status : k ≡ STATUS → ⊥
  pub interface : k ≡ INTERFACE → ⊥
  pub control : k ≡ BRIDGE_CONTROL → ⊥
  pub window : IsOutside k

pub record IsAlike (image changed : List ℕ) : Type 0 where
  pub same : (k : ℕ) → IsAside k → byte_at changed k ≡ byte_at image k
  pub small : byte_at image INTERFACE < 256 → byte_at changed INTERFACE < 256

alike_itself : (image : List ℕ) → IsAlike image image
alike_itself image = record { same = λ k aside. refl; small = λ is. is }

alike_through : (a b c : List ℕ) → IsAlike a b → IsAlike b c → IsAlike a c
alike_through a b c first second = record { same = λ k aside. second.same k aside ∙ first.same k aside; small = λ is. second.small (first.small is) }

control_alike : (image : List ℕ) (n : ℕ) → IsAlike image (set image BRIDGE_CONTROL n)
control_alike image n = record {
  same = λ k aside. get_or-set_other image BRIDGE_CONTROL k n 0 aside.control;
  small = λ is. (let same : byte_at (set image BRIDGE_CONTROL n) INTERFACE ≡ byte_at image INTERFACE = get_or-set_other image BRIDGE_CONTROL INTERFACE n 0 (λ e. cc e) in omega (arith, same, is));
}

vga_alike : (image : List ℕ) → IsAlike image (without_vga image)
vga_alike image = cond_both (controls_bridge image VGA_ENABLE) _ image (λ x. IsAlike image x) (λ on. control_alike image _) (λ off. alike_itself image)

isa_alike : (image : List ℕ) → IsAlike image (without_isa image)
isa_alike image = cond_both (controls_bridge image ISA_ENABLE) _ image (λ x. IsAlike image x) (λ on. control_alike image _) (λ off. alike_itself image)

snoop_alike : (image : List ℕ) → IsAlike image (without_snoop image)
snoop_alike image = record {
  same = λ k aside. get_or-set_other image COMMAND k _ 0 aside.command;
  small = λ is. (let same : byte_at (without_snoop image) INTERFACE ≡ byte_at image INTERFACE = get_or-set_other image COMMAND INTERFACE _ 0 (λ e. cc e) in omega (arith, same, is));
}

off_alike : (image : List ℕ) → IsAlike image (switched_off image)
off_alike image = record {
  same = λ k aside. off_at image k aside.command aside.status;
  small = λ is. (let same = off_at image INTERFACE (λ e. cc e) (λ e. cc e) in omega (arith, same, is));
}

positive_alike : (image : List ℕ) → IsAlike image (positive image)
positive_alike image = record {
  same = λ k aside. get_or-set_other image INTERFACE k 0 0 aside.interface;
  small = λ is. elim (cases_lt INTERFACE (length image)) [
    | inl within ↦ (let zero : byte_at (positive image) INTERFACE ≡ 0 = get_or-set_same image INTERFACE 0 0 within in omega (arith, zero))
    | inr past ↦ (let long = length-set image INTERFACE 0 in let zero : byte_at (positive image) INTERFACE ≡ 0 = get_or_past (positive image) INTERFACE 0 (omega (arith, past, long)) in omega (arith, zero))
  ];
}

bridge_alike : (w : Words) (slots : List Slot) (g : Function) → IsAlike g.image (bridge_aside w slots g).image
bridge_alike w slots g =
    let r = reset_aside w slots g in
    let first : IsAlike g.image r.image = cond_both (w.reset && controls_bridge g.image SECONDARY_BUS_RESET && not (is_anyone_behind slots g)) (function_with_image g (out_of_reset g.image)) g (λ x. IsAlike g.image x.image)
    (λ on. control_alike g.image _) (λ off. alike_itself g.image) in
    let second : IsAlike r.image (bridge_aside w slots g).image = cond_both (w.subtractive && is_subtractive_bridge r.image && not (is_anyone_behind slots r)) (function_with_image r (positive r.image)) r (λ x. IsAlike r.image x.image)
    (λ on. positive_alike r.image) (λ off. alike_itself r.image) in
    alike_through g.image r.image (bridge_aside w slots g).image first second

windows_alike : (w : Words) (f : Function) → IsAlike f.image (windows_aside w f).image
windows_alike w f =
    let shown = aside_differs w f in
    record {
      same = λ k aside. shown.same k aside.window;
      small = λ is. (let same = shown.same INTERFACE (inl (omega arith)) in omega (arith, same, is));
    }

start_alike : (w : Words) (f : Function) → IsAlike f.image (first_aside w f).image
start_alike w f =
    let g = windows_aside w f in
    let k = vga_aside_by w g in
    let second : IsAlike g.image k.image = cond_both (is_some w.vga) (vga_aside g) g (λ x. IsAlike g.image x.image) (λ on. vga_alike g.image) (λ off. alike_itself g.image) in
    let m = isa_aside_by w k in
    let third : IsAlike k.image m.image = cond_both w.isa (isa_aside k) k (λ x. IsAlike k.image x.image) (λ on. isa_alike k.image) (λ off. alike_itself k.image) in
    let fourth : IsAlike m.image (first_aside w f).image = cond_both w.snoop (snoop_aside m) m (λ x. IsAlike m.image x.image) (λ on. snoop_alike m.image) (λ off. alike_itself m.image) in
    alike_through f.image m.image (first_aside w f).image
    (alike_through f.image k.image m.image (alike_through f.image g.image k.image (windows_alike w f) second) third) fourth

-- a function before its parts are looked at
pub before_alike : (w : Words) (slots : List Slot) (f h : Function) (t : IsTakenAs w slots f h) → IsAlike f.image (bridge_aside w slots t.g).image
before_alike w slots f h t =
    let start = first_aside w f in
    let power : IsAlike start.image t.g.image = elim t.power [
      | inl on ↦ subst (λ (x : Function). IsAlike start.image x.image) (sym on.1) (off_alike start.image)
      | inr off ↦ subst (λ (x : Function). IsAlike start.image x.image) (sym off.1) (alike_itself start.image)
    ] in
    alike_through f.image start.image (bridge_aside w slots t.g).image (start_alike w f) (alike_through start.image t.g.image (bridge_aside w slots t.g).image power (bridge_alike w slots t.g))

aside : (k : ℕ) → (k ≡ COMMAND → ⊥) → (k ≡ STATUS → ⊥) → (k ≡ INTERFACE → ⊥) → (k ≡ BRIDGE_CONTROL → ⊥) → IsOutside k → IsAside k
aside k a b c d e = record { command = a; status = b; interface = c; control = d; window = e }

pub layout_same : (image changed : List ℕ) → IsAlike image changed → layout changed ≡ layout image
layout_same image changed alike = ap (λ n. n % 128) (alike.same HEADER_TYPE (aside HEADER_TYPE (λ e. cc e) (λ e. cc e) (λ e. cc e) (λ e. cc e) (inl (omega arith))))

ide_same : (image changed : List ℕ) → IsImage image → IsAlike image changed → is_ide changed ≡ is_ide image
ide_same image changed is alike =
    let first = is.bytes INTERFACE in
    let other = alike.small first in
    let low = alike.same 10 (aside 10 (λ e. cc e) (λ e. cc e) (λ e. cc e) (λ e. cc e) (inl (omega arith))) in
    let high = alike.same 11 (aside 11 (λ e. cc e) (λ e. cc e) (λ e. cc e) (λ e. cc e) (inl (omega arith))) in
    let class : class_code changed / 256 ≡ class_code image / 256 = omega (arith, first, other, low, high) in
    λ i. layout_same image changed alike i == 0 && class i == 0x0101

-- ---- ide

module _ (w : Words) (slots : List Slot) (f h g : Function) where
  abbrev b : Function
  b = bridge_aside w slots g

  abbrev fixed : FixedParts
  fixed = fixed_parts_by w f

  abbrev no_ide : Words
  no_ide = record w { ide = false }

  module _ (other : is_ide b.image ≡ false) where
    may_same : may_have_parts_by w b ≡ may_have_parts_by no_ide b
    may_same = ap (λ x. x || (w.unnumbered && is_bridge b)) (and_right w.ide (is_ide b.image) other)

    aside_same : parts_aside w fixed b ≡ parts_aside no_ide fixed b
    aside_same = ap (λ x. if x then without_channels b else if w.unnumbered && is_unnumbered fixed b then without_buses b else b) (and_right w.ide (is_ide b.image) other)

    parts_same : IsWhere (IsTrue (may_have_parts_by w b) × HasNoOwnFaultBefore Place b) b (parts_aside w fixed b) h
        ≡ IsWhere (IsTrue (may_have_parts_by no_ide b) × HasNoOwnFaultBefore Place b) b (parts_aside no_ide fixed b) h
    parts_same = λ i. IsWhere (IsTrue (may_same i) × HasNoOwnFaultBefore Place b) b (aside_same i) h

pub ide_leaves_others : IdeLeavesOthers
ide_leaves_others w slots f h is other = (
  λ t. record { g = t.g; k = t.k; power = t.power; parts = subst (λ (T : Type 0). T) (parts_same w slots f t.k t.g (ide_same f.image (bridge_aside w slots t.g).image is (before_alike w slots f h t) ∙ other)) t.parts; header = t.header },
  λ t. record { g = t.g; k = t.k; power = t.power; parts = subst (λ (T : Type 0). T) (sym (parts_same w slots f t.k t.g (ide_same f.image (bridge_aside w slots t.g).image is (before_alike (record w { ide = false }) slots f h t) ∙ other))) t.parts; header = t.header },
)

-- ---- unnumbered

module _ (w : Words) (slots : List Slot) (f h : Function) where
  abbrev no_unnumbered : Words
  no_unnumbered = record w { unnumbered = false }

  -- what is taken with the word, and is no unnumbered bridge before its parts are looked at
  leaves : (t : IsTakenAs w slots f h) → ((w.ide && is_ide (bridge_aside w slots t.g).image) ≡ false → is_unnumbered (fixed_parts_by w f) (bridge_aside w slots t.g) ≡ false) → IsTakenAs no_unnumbered slots f h
  leaves t none = record { g = t.g; k = t.k; power = t.power; parts = by t.parts; header = t.header }
    where
      b : Function
      b = bridge_aside w slots t.g

      fixed : FixedParts
      fixed = fixed_parts_by w f

      fewer : may_have_parts_by no_unnumbered b ≡ true → (w.ide && is_ide b.image) ≡ true
      fewer may = elim (or_cases (w.ide && is_ide b.image) (false && is_bridge b) may) [ inl ide ↦ ide | inr none ↦ absurd (both_ways false refl none) ]

      by : IsWhere (IsTrue (may_have_parts_by w b) × HasNoOwnFaultBefore Place b) b (parts_aside w fixed b) t.k → IsWhere (IsTrue (may_have_parts_by no_unnumbered b) × HasNoOwnFaultBefore Place b) b (parts_aside no_unnumbered fixed b) t.k
      by (inr (fails, is)) = inr (λ holds. fails (or_left (w.ide && is_ide b.image) (w.unnumbered && is_bridge b) (fewer holds.0), holds.1), is)
      by (inl (holds, is)) = elim (cases_Bool (w.ide && is_ide b.image)) [
        | inl ide ↦ inl (
          (or_left (w.ide && is_ide b.image) (false && is_bridge b) ide, holds.1),
          is ∙ ap (λ x. if x then without_channels b else if w.unnumbered && is_unnumbered fixed b then without_buses b else b) ide
              ∙ sym (ap (λ x. if x then without_channels b else if false && is_unnumbered fixed b then without_buses b else b) ide),
        )
        | inr other ↦ inr (
          λ may. both_ways (w.ide && is_ide b.image) other (fewer may.0),
          is ∙ ap (λ x. if x then without_channels b else if w.unnumbered && is_unnumbered fixed b then without_buses b else b) other
              ∙ ap (λ x. if x then without_buses b else b) (and_right w.unnumbered (is_unnumbered fixed b) (none other)),
        )
      ]

  -- how the other words take what is no controller
  taken_before : (t : IsTakenAs w slots f h) → (w.ide && is_ide (bridge_aside w slots t.g).image) ≡ false → IsTakenAs no_unnumbered slots f (cardbus_aside w (bridge_aside w slots t.g))
  taken_before t other = record {
    g = t.g;
    k = bridge_aside w slots t.g;
    power = t.power;
    parts = inr (
      λ may. elim (or_cases (w.ide && is_ide (bridge_aside w slots t.g).image) (false && is_bridge (bridge_aside w slots t.g)) may.0) [
        | inl ide ↦ both_ways (w.ide && is_ide (bridge_aside w slots t.g).image) other ide
        | inr none ↦ both_ways false refl none
      ],
      refl,
    );
    header = refl;
  }

-- a CardBus bridge is no unnumbered bridge, so it makes no difference whether it is one no more
numbered_as_device : (w : Words) (fixed : FixedParts) (f : Function) → is_unnumbered fixed (cardbus_aside w f) ≡ false → is_unnumbered fixed f ≡ false
numbered_as_device w fixed f =
    cond_both (w.cardbus && is_cardbus f) (without_socket f) f (λ g. is_unnumbered fixed g ≡ false → is_unnumbered fixed f ≡ false)
    (λ counts none. unnumbered_is_bridge fixed f (ne_eqb (layout f.image) 1 (λ one. let two = eqb-true (layout f.image) 2 (and_second w.cardbus (is_cardbus f) counts) in omega (arith, one, two))))
    (λ other none. none)
  where
    and_second : (x y : Bool) → (x && y) ≡ true → y ≡ true
    and_second x y both = (and_parts x y both).1

pub unnumbered_leaves_others : UnnumberedLeavesOthers
unnumbered_leaves_others w slots f h t none = leaves w slots f h t (λ other.
    numbered_as_device w (fixed_parts_by w f) (bridge_aside w slots t.g) (none (cardbus_aside w (bridge_aside w slots t.g)) (taken_before w slots f h t other)))

-- a bridge without bus numbers has none before
numbered_before : (fixed : FixedParts) (f b : Function) → IsAlike f.image b.image → (is_bridge f && not (has_numbers (bridge_of f.image f.probe))) ≡ false → is_unnumbered fixed b ≡ false
numbered_before fixed f b alike numbered = elim (cases_Bool (is_bridge b)) [
  | inr device ↦ ap (λ x. is_unnumbered_bridge fixed (record_of b) (if x then Some (bridge_of b.image b.probe) else None)) device
  | inl bridge ↦
      let kind : is_bridge b ≡ is_bridge f = ap (λ n. n == 1) (layout_same f.image b.image alike) in
      let number = λ (k : ℕ) (is : IsAside k). alike.same k is in
      let primary = number PRIMARY_BUS (aside PRIMARY_BUS (λ e. cc e) (λ e. cc e) (λ e. cc e) (λ e. cc e) (inl (omega arith))) in
      let secondary = number SECONDARY_BUS (aside SECONDARY_BUS (λ e. cc e) (λ e. cc e) (λ e. cc e) (λ e. cc e) (inl (omega arith))) in
      let subordinate = number SUBORDINATE_BUS (aside SUBORDINATE_BUS (λ e. cc e) (λ e. cc e) (λ e. cc e) (λ e. cc e) (inl (omega arith))) in
      let same : has_numbers (bridge_of b.image b.probe) ≡ has_numbers (bridge_of f.image f.probe) = λ i. not (primary i == 0 && secondary i == 0 && subordinate i == 0) in
      let none : not (has_numbers (bridge_of b.image b.probe)) ≡ false = ap not same ∙ and_second_false (is_bridge f) (not (has_numbers (bridge_of f.image f.probe))) (sym kind ∙ bridge) numbered in
      ap (λ x. is_unnumbered_bridge fixed (record_of b) (if x then Some (bridge_of b.image b.probe) else None)) bridge
      ∙ and_left _ _ (and_left _ _ (and_left _ _ none))
]
  where
    and_second_false : (x y : Bool) → x ≡ true → (x && y) ≡ false → y ≡ false
    and_second_false x y is none = sym (ap (λ z. z && y) is) ∙ none

pub unnumbered_leaves_numbers : UnnumberedLeavesNumbers
unnumbered_leaves_numbers w slots f h t numbered = leaves w slots f h t (λ other. numbered_before (fixed_parts_by w f) f (bridge_aside w slots t.g) (before_alike w slots f h t) numbered)

-- ---- one word alone

pub ide_alone : IdeAloneLeavesOthers
ide_alone slots f h is other t = taken_same slots f h ((ide_leaves_others (record no_words { ide = true }) slots f h is other).0 t)

pub unnumbered_alone : UnnumberedAloneLeavesOthers
unnumbered_alone slots f h numbered t =
    taken_same slots f h (unnumbered_leaves_others (record no_words { unnumbered = true }) slots f h t (λ k taken. ap (is_unnumbered no_fixed_parts) (taken_same slots f k taken) ∙ numbered))
