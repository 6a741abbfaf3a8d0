-- What the registers of a function show when the enable bit of its ROM is set: what they showed before.
use Rattle.std.proofs.Common.{◌≡◌, ℕ, zero, suc, ◌+◌, ◌*◌, ◌/◌, ◌%◌, ◌^◌, ◌<◌, ◌≤◌, inl, inr, refl, Bool, true, ◌&&◌, ◌||◌, not, None, arith, sym, ◌∙◌, ap, subst}
use Rattle.std.specs.Bool.{nat_le, ◌==◌, if◌then◌else◌}
use Rattle.std.specs.Int.{bit_at}
use Rattle.std.proofs.lemmas.Bool.{cases_Bool, both_ways, and_parts, not-false, eqb-true, eq-eqb, and_from, not_from_true}
use Rattle.pci_spec.specs.Number.{byte_at, number_at, each_from, some_from, AgreeFrom}
use Rattle.pci_spec.specs.Header.{layout, bar_count, bar_register, rom_register}
use Rattle.pci_spec.specs.Bar.{bar_at, is_wide, starts_bar, whole_bar, is_within, first_broken, bar_fault}
use Rattle.pci_spec.specs.Rom.{rom_at, has_rom, is_rom_size, breaks_rom_rule}
use Rattle.pci_spec.specs.Window.{WindowKind, bounds_at, breaks_window_rule}
use Rattle.pci_spec.specs.Decoded.{IsDecodable}
use Rattle.pci_spec.specs.System.{Function, is_bridge}
use Rattle.pci_spec.proofs.Bits.{quotients-agree}
use Rattle.plan_spec.proofs.Planning.Kept.{IsSameBridge}
use Rattle.plan_spec.proofs.Planning.OtherRules.{window_breaks}
use Rattle.plan_spec.proofs.Planning.RomsOn.{IsRomOn, rom_place}
use Rattle.plan_spec.proofs.Planning.SameBytes.{number_same, bounds_same}

few_bars : (kind : ℕ) → bar_count kind ≤ 6
few_bars kind = elim (cases_Bool (kind == 1)) [
  | inl b ↦ (let e : bar_count kind ≡ 2 = ap (λ t. if t then 2 else 6) b in omega (arith, e))
  | inr d ↦ (let e : bar_count kind ≡ 6 = ap (λ t. if t then 2 else 6) d in omega (arith, e))
]

each_later : (low count : ℕ) (p q : ℕ → Bool) → ((i : ℕ) → low ≤ i → p i ≡ q i) → each_from low count p ≡ each_from low count q
unfolding each_from
each_later low zero p q same = refl
each_later low (suc count) p q same =
    let here = same low (omega arith) in
    let rest = each_later (low + 1) count p q (λ i l. same i (omega (arith, l))) in
    λ i. here i && rest i

module _ (f g : Function) (h : IsRomOn f g) where
  pub low_byte : (place : ℕ) → place < 0x30 → byte_at g.image place ≡ byte_at f.image place
  low_byte place low = h.bytes place (λ e. let from = (rom_place (layout f.image)).0 in let impossible : ⊥ = omega (arith, e, low, from) in impossible)

  pub low_number : (o w : ℕ) → o + w ≤ 0x30 → number_at g.image o w ≡ number_at f.image o w
  low_number o w low = number_same g.image f.image o w (λ j l. low_byte (o + j) (omega (arith, low, l)))

  pub later_byte : (place : ℕ) → 0x38 < place → byte_at g.image place ≡ byte_at f.image place
  later_byte place late = h.bytes place (λ e. let to = (rom_place (layout f.image)).1 in let impossible : ⊥ = omega (arith, e, late, to) in impossible)

  pub later_number : (o w : ℕ) → 0x38 < o → number_at g.image o w ≡ number_at f.image o w
  later_number o w late = number_same g.image f.image o w (λ j l. later_byte (o + j) (omega (arith, late)))

  pub layout_kept : layout g.image ≡ layout f.image
  layout_kept = ap (λ b. b % 128) (low_byte 0x0e (omega arith))

  pub bridge_kept : is_bridge g ≡ is_bridge f
  bridge_kept = ap (λ n. n == 1) layout_kept

  pub same_bridge : IsSameBridge f g
  same_bridge = record {
    slot = h.slot;
    bridge = bridge_kept;
    primary = λ b. low_byte 0x18 (omega arith);
    secondary_is = λ b. low_byte 0x19 (omega arith);
    subordinate_is = λ b. low_byte 0x1a (omega arith);
  }

  -- ---- BARs

  bar_kept : (n : ℕ) → n ≤ 6 → bar_at g.image n ≡ bar_at f.image n
  bar_kept n few = low_number (bar_register n) 4 (omega (arith, few))

  pub whole_kept : (n : ℕ) → n < bar_count (layout f.image) → whole_bar g.probe g.image n ≡ whole_bar f.probe f.image n
  whole_kept n inside =
      let few = few_bars (layout f.image) in
      let low = bar_kept n (omega (arith, inside, few)) in
      let high = bar_kept (n + 1) (omega (arith, inside, few)) in
      λ i. if is_wide (bar_at (h.probe i) n) then low i + 2 ^ 32 * high i else low i

  pub bar_fault_kept : (n : ℕ) → n < bar_count (layout f.image) → bar_fault g.image g.probe n ≡ bar_fault f.image f.probe n
  bar_fault_kept n inside =
      let few = few_bars (layout f.image) in
      let low = bar_kept n (omega (arith, inside, few)) in
      let whole = whole_kept n inside in
      λ i. if starts_bar (h.probe i) n then first_broken (record {
        last = n + 1 == bar_count (layout_kept i);
        value = low i;
        mask = bar_at (h.probe i) n;
        whole_value = whole i;
        whole_mask = whole_bar (h.probe i) (h.probe i) n;
      }) else None

  -- ---- the ROM

  rom_bytes : (j : ℕ) → 0 < j → byte_at g.image (rom_register (layout f.image) + j) ≡ byte_at f.image (rom_register (layout f.image) + j)
  rom_bytes j past = h.bytes (rom_register (layout f.image) + j) (λ e. let impossible : ⊥ = omega (arith, e, past) in impossible)

  first_place : rom_register (layout f.image) + 0 ≡ rom_register (layout f.image)
  first_place = omega arith

  rom_value_at : rom_at f.image g.image / 2 ≡ rom_at f.image f.image / 2
  rom_value_at =
      let new = ap (byte_at g.image) first_place in
      let old = ap (byte_at f.image) first_place in
      let half = h.half in
      let one = rom_bytes 1 (omega arith) in
      let two = rom_bytes 2 (omega arith) in
      let three = rom_bytes 3 (omega arith) in
      omega (arith, new, old, half, one, two, three)

  rom_more : rom_at f.image f.image ≤ rom_at f.image g.image
  rom_more =
      let new = ap (byte_at g.image) first_place in
      let old = ap (byte_at f.image) first_place in
      let more = h.more in
      let one = rom_bytes 1 (omega arith) in
      let two = rom_bytes 2 (omega arith) in
      let three = rom_bytes 3 (omega arith) in
      omega (arith, new, old, more, one, two, three)

  rom_value_kept : rom_at g.image g.image ≡ rom_at f.image g.image
  rom_value_kept = ap (λ k. number_at g.image (rom_register k) 4) layout_kept

  pub rom_mask_kept : rom_at g.image g.probe ≡ rom_at f.image f.probe
  rom_mask_kept = λ i. number_at (h.probe i) (rom_register (layout_kept i)) 4

  -- from bit 1 upward the ROM register shows the same
  pub rom_agrees : AgreeFrom 1 (rom_at g.image g.image) (rom_at f.image f.image)
  rom_agrees i from = ap (λ n. bit_at n i) rom_value_kept ∙ quotients-agree 1 (rom_at f.image g.image) (rom_at f.image f.image) rom_value_at i from

  pub has_rom_kept : has_rom g.image g.probe ≡ has_rom f.image f.probe
  has_rom_kept = elim (cases_Bool (has_rom f.image f.probe)) [
    | inr none ↦ (let same = h.none none in λ i. has_rom (same i) (h.probe i))
    | inl some ↦ elim (cases_Bool (has_rom g.image g.probe)) [
      | inl still ↦ still ∙ sym some
      | inr gone ↦
          let both = and_parts (rom_at g.image g.image == 0) (rom_at g.image g.probe == 0) (not-false _ gone) in
          let value = eqb-true (rom_at g.image g.image) 0 both.0 in
          let mask = eqb-true (rom_at g.image g.probe) 0 both.1 in
          let more = rom_more in
          let as_is = rom_value_kept in
          let old_value : rom_at f.image f.image ≡ 0 = omega (arith, value, as_is, more) in
          let old_mask : rom_at f.image f.probe ≡ 0 = sym rom_mask_kept ∙ mask in
          absurd (both_ways (has_rom f.image f.probe)
          (not_from_true _ (and_from (rom_at f.image f.image == 0) (rom_at f.image f.probe == 0) (eq-eqb (rom_at f.image f.image) 0 old_value) (eq-eqb (rom_at f.image f.probe) 0 old_mask))) some)
    ]
  ]

  pub rom_rule_kept : breaks_rom_rule g.image g.probe ≡ breaks_rom_rule f.image f.probe
  rom_rule_kept =
      let mask = rom_mask_kept in
      let there = has_rom_kept in
      let within : is_within 1 (rom_at g.image g.image) (rom_at g.image g.probe) ≡ is_within 1 (rom_at f.image f.image) (rom_at f.image f.probe) =
      each_later 1 63 (λ b. nat_le (bit_at (rom_at g.image g.image) b) (bit_at (rom_at g.image g.probe) b)) (λ b. nat_le (bit_at (rom_at f.image f.image) b) (bit_at (rom_at f.image f.probe) b))
      (λ b from. let value = rom_agrees b from in λ i. nat_le (value i) (bit_at (mask i) b)) in
      λ i. there i && not (some_from 0 64 (is_rom_size (mask i)) && within i)

  -- ---- windows

  module _ (bridge : is_bridge f ≡ true) where
    page_byte : (place : ℕ) → place < 0x38 → byte_at g.image place ≡ byte_at f.image place
    page_byte place low =
        let at : rom_register (layout f.image) ≡ 0x38 = ap (λ t. if t then 0x38 else 0x30) bridge in
        h.bytes place (λ e. let impossible : ⊥ = omega (arith, e, low, at) in impossible)

    pub bounds_kept : (kind : WindowKind) → bounds_at kind g.image ≡ bounds_at kind f.image
    bounds_kept = bounds_same g.image f.image (λ place from to. page_byte place to)

    pub window_rule_kept : (kind : WindowKind) → breaks_window_rule kind g.image g.probe ≡ breaks_window_rule kind f.image f.probe
    window_rule_kept kind = let bounds = bounds_kept kind in λ i. window_breaks kind (bounds i) (bounds_at kind (h.probe i))

  -- ---- all rules

  pub decodable_kept : IsDecodable f → IsDecodable g
  decodable_kept d = record {
    vendor = ap (λ v. v == 0xffff) (low_number 0 2 (omega arith)) ∙ d.vendor;
    header = ap (λ k. not (k == 0 || k == 1)) layout_kept ∙ d.header;
    bars = λ n inside. let was : n < bar_count (layout f.image) = subst (λ k. n < bar_count k) layout_kept inside in bar_fault_kept n was ∙ d.bars n was;
    rom = rom_rule_kept ∙ d.rom;
    windows = λ kind bridge. let was : layout f.image ≡ 1 = sym layout_kept ∙ bridge in window_rule_kept (ap (λ k. k == 1) was) kind ∙ d.windows kind was;
  }
