-- Settling changes address bits alone in the address registers.
use Rattle.std.proofs.Common.{◌≡◌, ℕ, suc, ◌+◌, ◌-◌, ◌*◌, ◌/◌, ◌%◌, ◌^◌, ◌<◌, ◌≤◌, inl, inr, List, ◌∷◌, map, refl, Bool, true, false, cond, not, Option, None, Some, arith, sym, ◌∙◌, ap, subst}
use Rattle.std.specs.Bool.{◌==◌, nat_lt, if◌then◌else◌}
use Rattle.std.specs.Int.{bit_at}
use Rattle.std.specs.List.{Contains}
use Rattle.std.proofs.lemmas.Bool.{and_parts, and_from, and_left, cases_Bool, cond_both, both_ways, eqb-true, ne_eqb}
use Rattle.std.proofs.lemmas.Nat.{mod_below, shr_split}
use Rattle.pci_spec.specs.Number.{has_bit}
use Rattle.pci_spec.specs.Header.{layout, bar_count, bar_register, rom_register}
use Rattle.pci_spec.specs.Bar.{bar_at, bar_kind, encodings, first_bit, has_bar, is_io, is_wide, starts_bar, type_bits}
use Rattle.pci_spec.specs.Rom.{has_rom}
use Rattle.pci_spec.specs.Window.{WindowKind, bounds_for, closed_bounds, breaks_window_rule, has_window}
use Rattle.pci_spec.specs.Decoded.{IsDecodable, bar_size, rom_size, Range}
use Rattle.pci_spec.specs.System.{System, Function, IsFunction, Memory, Part, Bar, Rom, Window, space_of, is_bridge, is_window}
use Rattle.pci_spec.specs.Bus.{secondary}
use Rattle.pci_spec.specs.Machine.{bar_field}
use Rattle.pci_spec.proofs.Bits.{bit_at-mod}
use Rattle.pci_spec.proofs.Members.{in_head}
use Rattle.plan_spec.specs.Plan.{is_open}
use Rattle.plan_spec.specs.Place.{nibble_of}
use Rattle.plan_spec.specs.Planning.Showing.{bar_value, rom_value}
use Rattle.plan_spec.proofs.Planning.BarFits.{bar_register_fits}
use Rattle.plan_spec.proofs.Planning.BitsFit.{BitsFit, fits_joined}
use Rattle.plan_spec.proofs.Planning.RomFits.{rom_there, rom_number_fits}
use Rattle.plan_spec.proofs.Planning.WindowFits.{PartsFit, by_closed, few_nibbles, kept_fit, lawful_nibbles, window_fits}
use Rattle.settle_spec.specs.FirstPlace.{Extent}
use Rattle.settle_spec.specs.Lists.{Request}
use Rattle.settle_spec.specs.Spares.{with_spare}
use Rattle.settle_spec.specs.Parts.{FunctionPart, addresses, header_parts}
use Rattle.settle_spec.specs.Items.{PlacingItem, Placed, highest_of_bar, highest_in, bus_items, nothing, spare_of, new_window, window_within, taken_by}
use Rattle.settle_spec.specs.Keeping.Places.{new_place}
use Rattle.settle_spec.specs.Registers.{closed_if_open, changing}
use Rattle.judge_spec.specs.Windows.{with_number, with_bounds}
use Rattle.settle_spec.specs.Keeping.Registers.{is_same_range, with_kept, shown, with_wish, settled_image}
use Rattle.settle_spec.proofs.FirstSpot.{least_in}
use Rattle.settle_laws.proofs.BarReach.{lower_fits, upper_fits}
use Rattle.settle_laws.proofs.HeaderParts.{IsPart, part_cases, few_bars, rom_at_end}
use Rattle.settle_laws.proofs.NewPlaces.{HasPlace, size_some}
use Rattle.settle_laws.proofs.Keeping.NewPlaces.{new_place_is}
use Rattle.settle_laws.proofs.RomPlaces.{rom_part}
use Rattle.settle_laws.proofs.Shown.{fold_keeps}
use Rattle.settle_laws.proofs.Keeping.Shown.{IsChanging, can_change, changing_is, step, can_bar, can_rom, window_bridge, window_there, upper_there}
use Rattle.settle_spec.specs.Kept.{Kept}
use Rattle.settle_laws.specs.Keeping.PlacesLaws.{CanSettle}
use Rattle.settle_laws.proofs.Keeping.Kept.{kept_forward}
use Rattle.settle_laws.proofs.PlacesFit.{HasBits, encoding_width, no_bar, one_bar, bounds_fit, bounds_kept, with_fit}

module _ (q : Request) (s : System) (k : Kept) (can : CanSettle q s k) (f : Function) (listed : Contains s f) (is : IsFunction f) (decodable : IsDecodable f) where
  abbrev region : Part → FunctionPart
  region p = record { function = f; part = p }

  -- ---- BARs

  module _ (n : ℕ) (part : IsPart f (Bar n)) (inside : n < bar_count (layout f.image)) (there : has_bar f.probe n ≡ true) (p : Placed) (e : new_place q s k (region (Bar n)) ≡ Some p) where
    bar_is : HasPlace q s (space_of f (Bar n)) f (Bar n) p
    bar_is = new_place_is q s k can f listed (Bar n) part p e

    bar_aligned : p.at % bar_size f.probe n ≡ 0
    bar_aligned = ap (λ (x : Extent). p.at % x.alignment) (bar_is.own refl) ∙ bar_is.multiple

    bar_room : p.at + bar_size f.probe n ≤ highest_of_bar (bar_at f.probe n) + 1
    bar_room =
        let extent = bar_is.own refl in
        let size : bar_size f.probe n ≡ p.item.extent.size = ap (λ (x : Extent). x.size) extent in
        let highest : highest_of_bar (bar_at f.probe n) ≡ p.item.extent.highest = ap (λ (x : Extent). x.highest) extent in
        let some = size_some q s f (Bar n) refl in
        let low = bar_is.low in
        omega (arith, low, size, highest, some)

    pub bar_fine : (p.at % bar_size f.probe n ≡ 0) × (p.at + bar_size f.probe n ≤ highest_of_bar (bar_at f.probe n) + 1)
    bar_fine = (bar_aligned, bar_room)

    width : encodings (bar_at f.probe n) ≡ 2 ^ first_bit (bar_kind (bar_at f.probe n))
    width = let mask = bar_at f.probe n in encoding_width (is_io mask) (type_bits mask == 2) (type_bits mask == 0)

    abbrev value : ℕ
    value = bar_value f.image f.probe n p.at

    starts : starts_bar f.probe n ≡ true
    starts = (and_parts (starts_bar f.probe n) (not (bar_at f.probe n == 0)) there).0

    bits_of : (m v : ℕ) → m < bar_count (layout f.image) → ((b : ℕ) → b < 32 → has_bit (bar_field f.probe m).bits b ≡ false → bit_at v b ≡ bit_at (bar_at f.image m) b) → BitsFit f (bar_register m) 4 v
    bits_of m v below same j i short small plain =
        (bar_register_fits f m (λ r. v) is.image below same).same j i short small plain (and_left (bar_register m + j == 4) (nat_lt i 2) (ne_eqb (bar_register m + j) 4 (λ four. let no : ⊥ = omega (arith, four) in no)))

    low_bits : (b : ℕ) → b < 32 → has_bit (bar_field f.probe n).bits b ≡ false → bit_at (value % 2 ^ 32) b ≡ bit_at (bar_at f.image n) b
    low_bits = lower_fits f.image f.probe n p.at is.probe there (decodable.bars n inside) bar_aligned bar_room starts width

    narrow_fits : BitsFit f (bar_register n) 4 value
    narrow_fits = bits_of n value inside (λ b low dark. sym (bit_at-mod value 32 b low) ∙ low_bits b low dark)

    wide_fits : is_wide (bar_at f.probe n) ≡ true → BitsFit f (bar_register n) 8 value
    wide_fits wide =
        let next : n + 1 ≡ suc n = omega arith in
        let more = upper_there q s k f decodable n inside there wide in
        let upper : starts_bar f.probe (n + 1) ≡ false = ap (starts_bar f.probe) next ∙ ap not (and_from (starts_bar f.probe n) (is_wide (bar_at f.probe n)) starts wide) in
        let high : BitsFit f (bar_register (n + 1)) 4 (value / 2 ^ 32) =
        bits_of (n + 1) (value / 2 ^ 32) (omega (arith, more)) (λ b low dark. upper_fits f.image f.probe n p.at is.probe there (decodable.bars n inside) bar_aligned bar_room is.image wide b low dark upper) in
        let at : bar_register (n + 1) ≡ bar_register n + 4 = omega arith in
        let split = shr_split value 32 in
        let whole : value % 2 ^ 32 + 2 ^ (8 * 4) * (value / 2 ^ 32) ≡ value = omega (arith, split) in
        subst (BitsFit f (bar_register n) 8) whole
        (fits_joined f is.image (bar_register n) 4 4 (value % 2 ^ 32) (value / 2 ^ 32) (mod_below value (2 ^ 32) (omega arith)) (bits_of n (value % 2 ^ 32) inside low_bits) (subst (λ o. BitsFit f o 4 (value / 2 ^ 32)) at high))

    bar_shown : (image : List ℕ) → HasBits f image → HasBits f (with_number (if is_wide (bar_at f.probe n) then 8 else 4) (bar_register n) value image)
    bar_shown image h =
        let few = few_bars f n inside in
        elim (cases_Bool (is_wide (bar_at f.probe n))) [
          | inl wide ↦ subst (λ t. HasBits f (with_number (if t then 8 else 4) (bar_register n) value image)) (sym wide) (with_fit f is.image 8 (bar_register n) value image (omega (arith, few)) (wide_fits wide) h)
          | inr narrow ↦ subst (λ t. HasBits f (with_number (if t then 8 else 4) (bar_register n) value image)) (sym narrow) (with_fit f is.image 4 (bar_register n) value image (omega (arith, few)) narrow_fits h)
        ]

  -- ---- the ROM

  pub rom_fine : (p : Placed) → new_place q s k (region Rom) ≡ Some p → (p.at % rom_size f.image f.probe ≡ 0) × (p.at + rom_size f.image f.probe ≤ 2 ^ 32)
  rom_fine p e =
      let has : HasPlace q s Memory f Rom p = new_place_is q s k can f listed Rom (rom_part f) p e in
      let extent = has.own refl in
      let size : rom_size f.image f.probe ≡ p.item.extent.size = ap (λ (x : Extent). x.size) extent in
      let highest : 0xffff_ffff ≡ p.item.extent.highest = ap (λ (x : Extent). x.highest) extent in
      let low = has.low in
      let some = size_some q s f Rom refl in
      (ap (λ (x : Extent). p.at % x.alignment) extent ∙ has.multiple, omega (arith, low, highest, size, some))

  rom_shown : has_rom f.image f.probe ≡ true → (p : Placed) → new_place q s k (region Rom) ≡ Some p → (image : List ℕ) → HasBits f image → HasBits f (with_number 4 (rom_register (layout f.image)) (rom_value f.image p.at) image)
  rom_shown there p e image h =
      let at = rom_fine p e in
      let fits = rom_number_fits f is.image p.at decodable.rom (λ h. at) in
      let room : rom_register (layout f.image) + 4 ≤ 256 = elim (rom_at_end f) [ inl a ↦ omega (arith, a) | inr a ↦ omega (arith, a) ] in
      with_fit f is.image 4 (rom_register (layout f.image)) (rom_value f.image p.at) image room
      (subst (BitsFit f (rom_register (layout f.image)) 4) (rom_there f is.image p.at decodable.rom (λ h. at) there) fits) h

  -- ---- windows

  no_higher : (c : WindowKind) → (new_window q s c f).highest ≤ highest_in c f.probe
  unfolding window_within
  no_higher c =
      let extents = with_spare (spare_of q c f) (map (λ (i : PlacingItem). i.extent) (bus_items q s c nothing (window_within q s c 255) (secondary f))) in
      least_in (highest_in c f.probe ∷ map (λ (e : Extent). e.highest) extents) (highest_in c f.probe) (in_head (highest_in c f.probe) (map (λ (e : Extent). e.highest) extents))

  pub window_low : (c : WindowKind) (p : Placed) → HasPlace q s (space_of f (Window c)) f (Window c) p → (taken_by p.item p.at).last ≤ highest_in c f.probe
  window_low c p has =
      let low = has.low in
      let same : (new_window q s c f).highest ≡ p.item.extent.highest = ap (λ (x : Extent). x.highest) (has.new c refl) in
      let most = no_higher c in
      omega (arith, low, same, most)

  module _ (c : WindowKind) (part : IsPart f (Window c)) (bridge : is_bridge f ≡ true) (there : has_window c f.probe ≡ true) where
    rule : breaks_window_rule c f.image f.probe ≡ false
    rule = decodable.windows c (eqb-true (layout f.image) 1 bridge)

    pub open_fit : (p : Placed) → new_place q s k (region (Window c)) ≡ Some p → PartsFit f c (bounds_for c (nibble_of c f) p.at (p.at + (p.item.extent.size - 1)))
    open_fit p e =
        let has : HasPlace q s (space_of f (Window c)) f (Window c) p = new_place_is q s k can f listed (Window c) part p e in
        kept_fit f bridge c (nibble_of c f) _ (few_nibbles f bridge c) (lawful_nibbles f bridge c rule there)
        (bounds_kept c f p.at (p.at + (p.item.extent.size - 1)) (few_nibbles f bridge c) (omega arith) (window_low c p has))

    pub grown_fit : k.stays (region (Window c)) ≡ true → PartsFit f c (bounds_for c (nibble_of c f) (k.range (region (Window c))).first (k.range (region (Window c))).last)
    grown_fit keeps =
        let grown = can.sound.grown c f listed bridge keeps in
        kept_fit f bridge c (nibble_of c f) _ (few_nibbles f bridge c) (lawful_nibbles f bridge c rule there)
        (bounds_kept c f (k.range (region (Window c))).first (k.range (region (Window c))).last (few_nibbles f bridge c) (kept_forward q s k can c f listed keeps) grown.low)

    pub kept_free_fit : (w : Range) → k.wished (region (Window c)) ≡ Some w → PartsFit f c (bounds_for c (nibble_of c f) w.first w.last)
    kept_free_fit w wished =
        let is = can.sound.wished.windows c f w listed bridge wished in
        kept_fit f bridge c (nibble_of c f) _ (few_nibbles f bridge c) (lawful_nibbles f bridge c rule there)
        (bounds_kept c f w.first w.last (few_nibbles f bridge c) is.forward is.low)

    pub closed_fit : PartsFit f c (closed_bounds c (nibble_of c f))
    closed_fit = subst (PartsFit f c) (by_closed f bridge c false 0 0 there refl) (window_fits f bridge is.image c false 0 0 rule (λ opened. absurd (both_ways false refl opened)))

  -- ---- each part, and all

  abbrev keeps_range : Part → Bool
  keeps_range p = is_same_range (k.range (region p)) (addresses (region p))

  part_of : (p : Part) → Contains (header_parts f) p → can_change q s k f p ≡ true → IsPart f p
  part_of p there may = record {
    there = there;
    bridge = λ window. elim (part_cases f p there) [
      | inl bar ↦ absurd (both_ways false refl (ap is_window bar.is ∙ window))
      | inr (inl w) ↦ window_bridge q s k f w.kind (ap (can_change q s k f) w.is ∙ may)
      | inr (inr rom) ↦ absurd (both_ways false refl (ap is_window rom ∙ window))
    ];
  }

  either : (b : Bool) (x y : List ℕ) → (b ≡ true → HasBits f x) → (b ≡ false → HasBits f y) → HasBits f (cond b x y)
  either b x y p r = cond_both b x y (HasBits f) p r

  bar_inside : (n : ℕ) → Contains (header_parts f) (Bar n) → n < bar_count (layout f.image)
  bar_inside n there = elim (part_cases f (Bar n) there) [
    | inl bar ↦ (let same : bar.n ≡ n = one_bar bar.n n bar.is in let inside = bar.inside in omega (arith, same, inside))
    | inr (inl window) ↦ absurd (both_ways true (ap is_window window.is) refl)
    | inr (inr rom) ↦ absurd (no_bar n rom)
  ]

  part_shown : (p : Part) → IsPart f p → can_change q s k f p ≡ true → (o : Option Placed) → new_place q s k (region p) ≡ o → (image : List ℕ) → HasBits f image → HasBits f (shown k (region p) o image)
  part_shown (Bar n) part may None e image h = either (k.stays (region (Bar n))) (with_kept k (region (Bar n)) image) image (λ t. either (keeps_range (Bar n)) image image (λ t. h) (λ t. h)) (λ t. h)
  part_shown Rom part may None e image h = either (k.stays (region Rom)) (with_kept k (region Rom) image) image (λ t. either (keeps_range Rom) image image (λ t. h) (λ t. h)) (λ t. h)
  part_shown (Window c) part may None e image h =
      either (k.stays (region (Window c))) (with_kept k (region (Window c)) image) (closed_if_open f (Window c) image)
      (λ keeps. either (keeps_range (Window c)) image _ (λ t. h) (λ t. bounds_fit f is.image c _ image (grown_fit c part (part.bridge refl) (window_there q s k f c may) keeps) h))
      (λ moves. either (is_open f c) (with_bounds c (closed_bounds c (nibble_of c f)) image) image
      (λ opened. bounds_fit f is.image c _ image (closed_fit c part (part.bridge refl) (window_there q s k f c may)) h) (λ t. h))
  part_shown (Bar n) part may (Some p) e image h = bar_shown n part (bar_inside n part.there) (can_bar q s k f n may) p e image h
  part_shown Rom part may (Some p) e image h = rom_shown (can_rom q s k f may) p e image h
  part_shown (Window c) part may (Some p) e image h = bounds_fit f is.image c _ image (open_fit c part (part.bridge refl) (window_there q s k f c may) p e) h

  part_wished : (p : Part) → IsPart f p → can_change q s k f p ≡ true → (o : Option Range) → k.wished (region p) ≡ o → (image : List ℕ) → HasBits f image → HasBits f (with_wish (region p) o image)
  part_wished p part may None e image h = h
  part_wished (Bar n) part may (Some w) e image h = h
  part_wished Rom part may (Some w) e image h = h
  part_wished (Window c) part may (Some w) e image h = bounds_fit f is.image c _ image (kept_free_fit c part (part.bridge refl) (window_there q s k f c may) w e) h

  -- The law: what is no address bit of an address register stays.
  pub image_has_bits : HasBits f (settled_image q s k f)
  image_has_bits = fold_keeps (HasBits f) (step q s k f) (changing q s f)
      (λ r has image h.
      let c : IsChanging q s k f r = changing_is q s k f r has in
      subst (λ (t : FunctionPart). HasBits f (step q s k f image t)) c.is
      (part_wished c.p (part_of c.p c.there c.can) c.can (k.wished (region c.p)) refl (shown k (region c.p) (new_place q s k (region c.p)) image)
      (part_shown c.p (part_of c.p c.there c.can) c.can (new_place q s k (region c.p)) refl image h))) f.image
      record { whole = is.image; bits = λ place i inside small plain. refl }
