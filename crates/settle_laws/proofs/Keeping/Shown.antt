-- A settled image differs in the bytes of address registers alone, and a ROM stays as it was switched.
use Rattle.std.proofs.Common.{◌≡◌, ℕ, suc, ◌+◌, ◌/◌, ◌%◌, ◌^◌, ◌<◌, ◌≤◌, ◌⊎◌, inl, inr, List, refl, Bool, true, false, cond, ◌&&◌, ◌||◌, not, Option, None, Some, arith, sym, ◌∙◌, ap, subst, length}
use Rattle.std.specs.Bool.{◌==◌, if◌then◌else◌}
use Rattle.std.specs.Int.{bit_at}
use Rattle.std.specs.List.{Contains, filter, list_any}
use Rattle.std.proofs.lemmas.Bool.{and_parts, and_from, cases_Bool, cases_lt, cond_both, both_ways, eq-eqb, or_cases}
use Rattle.pci_spec.specs.Number.{byte_at, IsImage}
use Rattle.pci_spec.specs.Header.{layout, bar_count, bar_register, rom_register, registers_by, address_registers, is_in_register}
use Rattle.pci_spec.specs.Bar.{bar_at, has_bar, is_wide}
use Rattle.pci_spec.specs.Rom.{rom_at, has_rom, rom_is_on}
use Rattle.pci_spec.specs.Window.{WindowKind, has_window, is_closed}
use Rattle.pci_spec.specs.Decoded.{Range, IsDecodable}
use Rattle.pci_spec.specs.System.{System, Function, Part, Bar, Rom, Window, is_bridge, is_implemented, is_window}
use Rattle.pci_spec.proofs.Members.{in_filter_to, IsMade, in_map_to}
use Rattle.pci_spec.proofs.Ranges.{lawful_bar}
use Rattle.plan_spec.specs.Plan.{is_open}
use Rattle.plan_spec.specs.Planning.Showing.{rom_value}
use Rattle.plan_spec.proofs.Planning.Registers.{register_bit}
use Rattle.settle_spec.specs.Lists.{Request}
use Rattle.settle_spec.specs.Parts.{FunctionPart, addresses, is_left, is_part, header_parts}
use Rattle.settle_spec.specs.Items.{Placed}
use Rattle.settle_spec.specs.Keeping.Places.{new_place}
use Rattle.settle_spec.specs.Registers.{closed_if_open, changing}
use Rattle.settle_spec.specs.Keeping.Registers.{is_same_range, with_kept, shown, with_wish, settled_image}
use Rattle.settle_laws.proofs.HeaderParts.{part_cases, few_bars, rom_at_end}
use Rattle.settle_laws.proofs.Numbers.{with_elsewhere, with_first, with_image}
use Rattle.settle_laws.proofs.Keeping.RomPlaces.{rom_is_even}
use Rattle.settle_laws.proofs.NonePasses.{none_passes, outside}
use Rattle.settle_spec.specs.Kept.{Kept}
use Rattle.settle_laws.specs.Keeping.PlacesLaws.{CanSettle}
use Rattle.settle_laws.proofs.Shown.{IsOff, IsOffWindows, bounds_image, bounds_off, fold_keeps, rom_in}
use Rattle.settle_laws.proofs.Shown.{bar_in, either, past_all}

module _ (q : Request) (s : System) (k : Kept) (f : Function) where
  abbrev region : Part → FunctionPart
  region p = record { function = f; part = p }

  -- a part that stays keeps its addresses
  abbrev keeps_range : Part → Bool
  keeps_range p = is_same_range (k.range (region p)) (addresses (region p))

  pub shown_off : (p : Part) (o : Option Placed) (image : List ℕ) (place : ℕ) → IsOff f p place → byte_at (shown k (region p) o image) place ≡ byte_at image place
  shown_off (Bar n) None image place off = either (λ x. byte_at x place ≡ byte_at image place) (k.stays (region (Bar n))) (with_kept k (region (Bar n)) image) image (either (λ x. byte_at x place ≡ byte_at image place) (keeps_range (Bar n)) image image refl refl) refl
  shown_off Rom None image place off = either (λ x. byte_at x place ≡ byte_at image place) (k.stays (region Rom)) (with_kept k (region Rom) image) image (either (λ x. byte_at x place ≡ byte_at image place) (keeps_range Rom) image image refl refl) refl
  shown_off (Window c) None image place off =
      either (λ x. byte_at x place ≡ byte_at image place) (k.stays (region (Window c))) (with_kept k (region (Window c)) image) (closed_if_open f (Window c) image)
      (either (λ x. byte_at x place ≡ byte_at image place) (keeps_range (Window c)) image _ refl (bounds_off c _ image place off))
      (either (λ x. byte_at x place ≡ byte_at image place) (is_open f c) _ image (bounds_off c _ image place off) refl)
  shown_off (Bar n) (Some p) image place off = with_elsewhere (if is_wide (bar_at f.probe n) then 8 else 4) (bar_register n) _ place image off
  shown_off Rom (Some p) image place off = with_elsewhere 4 (rom_register (layout f.image)) (rom_value f.image p.at) place image off
  shown_off (Window c) (Some p) image place off = bounds_off c _ image place off

  pub shown_image : (p : Part) (o : Option Placed) (image : List ℕ) → IsImage image → IsImage (shown k (region p) o image)
  shown_image (Bar n) None image is = either IsImage (k.stays (region (Bar n))) (with_kept k (region (Bar n)) image) image (either IsImage (keeps_range (Bar n)) image image is is) is
  shown_image Rom None image is = either IsImage (k.stays (region Rom)) (with_kept k (region Rom) image) image (either IsImage (keeps_range Rom) image image is is) is
  shown_image (Window c) None image is =
      either IsImage (k.stays (region (Window c))) (with_kept k (region (Window c)) image) (closed_if_open f (Window c) image)
      (either IsImage (keeps_range (Window c)) image _ is (bounds_image c _ image is)) (either IsImage (is_open f c) _ image (bounds_image c _ image is) is)
  shown_image (Bar n) (Some p) image is = with_image (if is_wide (bar_at f.probe n) then 8 else 4) (bar_register n) _ image is
  shown_image Rom (Some p) image is = with_image 4 (rom_register (layout f.image)) (rom_value f.image p.at) image is
  shown_image (Window c) (Some p) image is = bounds_image c _ image is

  -- ---- a wish

  wish_off : (p : Part) (w : Option Range) (image : List ℕ) (place : ℕ) → IsOff f p place → byte_at (with_wish (region p) w image) place ≡ byte_at image place
  wish_off p None image place off = refl
  wish_off (Bar n) (Some w) image place off = refl
  wish_off Rom (Some w) image place off = refl
  wish_off (Window c) (Some w) image place off = bounds_off c _ image place off

  wish_image : (p : Part) (w : Option Range) (image : List ℕ) → IsImage image → IsImage (with_wish (region p) w image)
  wish_image p None image is = is
  wish_image (Bar n) (Some w) image is = is
  wish_image Rom (Some w) image is = is
  wish_image (Window c) (Some w) image is = bounds_image c _ image is

  -- a BAR or ROM has none
  plain_wish : (p : Part) → is_window p ≡ false → (w : Option Range) (image : List ℕ) → with_wish (region p) w image ≡ image
  plain_wish p plain None image = refl
  plain_wish (Bar n) plain (Some w) image = refl
  plain_wish Rom plain (Some w) image = refl
  plain_wish (Window c) plain (Some w) image = absurd (both_ways true plain refl)

  -- ---- a step of the settled image

  abbrev pub step : List ℕ → FunctionPart → List ℕ
  step image r = with_wish r (k.wished r) (shown k r (new_place q s k r) image)

  pub step_off : (p : Part) (image : List ℕ) (place : ℕ) → IsOff f p place → byte_at (step image (region p)) place ≡ byte_at image place
  step_off p image place off =
      wish_off p (k.wished (region p)) (shown k (region p) (new_place q s k (region p)) image) place off ∙ shown_off p (new_place q s k (region p)) image place off

  pub step_image : (p : Part) (image : List ℕ) → IsImage image → IsImage (step image (region p))
  step_image p image is = wish_image p (k.wished (region p)) (shown k (region p) (new_place q s k (region p)) image) (shown_image p (new_place q s k (region p)) image is)

  pub step_plain : (p : Part) → is_window p ≡ false → (image : List ℕ) → step image (region p) ≡ shown k (region p) (new_place q s k (region p)) image
  step_plain p plain image = plain_wish p plain (k.wished (region p)) (shown k (region p) (new_place q s k (region p)) image)

  -- where nothing is wished
  pub step_unwished : (r : FunctionPart) → k.wished r ≡ None → (image : List ℕ) → step image r ≡ shown k r (new_place q s k r) image
  step_unwished r none image = ap (λ o. with_wish r o (shown k r (new_place q s k r) image)) none

  -- ---- what changes is a part of the function's header

  abbrev pub can_change : Part → Bool
  can_change p = is_part q s f p || (is_window p && is_implemented f p)

  pub record IsChanging (r : FunctionPart) : Type 0 where
    pub p : Part
    pub is : region p ≡ r
    pub there : Contains (header_parts f) p
    pub can : can_change p ≡ true

  pub changing_is : (r : FunctionPart) → Contains (changing q s f) r → IsChanging r
  changing_is r has =
      let made : IsMade region (filter can_change (header_parts f)) r = in_map_to region (filter can_change (header_parts f)) r has in
      let chosen = in_filter_to can_change (header_parts f) made.from made.has in
      record { p = made.from; is = made.is; there = chosen.0; can = chosen.1 }

  pub window_bridge : (c : WindowKind) → can_change (Window c) ≡ true → is_bridge f ≡ true
  window_bridge c can = elim (or_cases (is_open f c) (is_implemented f (Window c)) can) [
    | inl opened ↦ (and_parts (is_bridge f) (has_window c f.probe) (and_parts (is_bridge f && has_window c f.probe) (not (is_closed c f.image)) opened).0).0
    | inr there ↦ (and_parts (is_bridge f) (has_window c f.probe) there).0
  ]

  pub window_there : (c : WindowKind) → can_change (Window c) ≡ true → has_window c f.probe ≡ true
  window_there c can = elim (or_cases (is_open f c) (is_implemented f (Window c)) can) [
    | inl opened ↦ (and_parts (is_bridge f) (has_window c f.probe) (and_parts (is_bridge f && has_window c f.probe) (not (is_closed c f.image)) opened).0).1
    | inr there ↦ (and_parts (is_bridge f) (has_window c f.probe) there).1
  ]

  pub can_bar : (n : ℕ) → can_change (Bar n) ≡ true → has_bar f.probe n ≡ true
  can_bar n can = elim (or_cases (is_part q s f (Bar n)) false can) [
    | inl part ↦ (and_parts (has_bar f.probe n) (not (is_left q s f (Bar n))) part).0
    | inr other ↦ absurd (both_ways false refl other)
  ]

  pub can_rom : can_change Rom ≡ true → has_rom f.image f.probe ≡ true
  can_rom can = elim (or_cases (is_part q s f Rom) false can) [
    | inl part ↦ (and_parts (has_rom f.image f.probe) (rom_is_on f.image) part).0
    | inr other ↦ absurd (both_ways false refl other)
  ]

  module _ (decodable : IsDecodable f) where
    -- a 64-bit BAR has a register left for its upper half
    pub upper_there : (n : ℕ) → n < bar_count (layout f.image) → has_bar f.probe n ≡ true → is_wide (bar_at f.probe n) ≡ true → suc n < bar_count (layout f.image)
    upper_there n inside there wide =
        let pair = (lawful_bar f.image f.probe n there (decodable.bars n inside)).pair in
        elim (cases_lt (suc n) (bar_count (layout f.image))) [
          | inl room ↦ room
          | inr none ↦
              let last : n + 1 ≡ bar_count (layout f.image) = omega (arith, inside, none) in
              absurd (both_ways (is_wide (bar_at f.probe n) && (n + 1 == bar_count (layout f.image))) pair
              (and_from (is_wide (bar_at f.probe n)) (n + 1 == bar_count (layout f.image)) wide (eq-eqb (n + 1) (bar_count (layout f.image)) last)))
        ]

    -- ---- a byte of no address register

    module _ (place : ℕ) (out : list_any (is_in_register place) (address_registers (layout f.image)) ≡ false) where
      off_register : (r : ℕ × ℕ) → Contains (address_registers (layout f.image)) r → (place < r.0) ⊎ (r.0 + r.1 ≤ place)
      off_register r has = elim (outside place r (none_passes (is_in_register place) (address_registers (layout f.image)) out r has)) [
        | inl before ↦ inl (omega (arith, before))
        | inr after ↦ inr after
      ]

      off_bar : (n : ℕ) → n < bar_count (layout f.image) → (place < bar_register n) ⊎ (bar_register n + 4 ≤ place)
      off_bar n inside = off_register (bar_register n, 4) (bar_in (layout f.image == 1) n inside)

      bar_off : (n : ℕ) → n < bar_count (layout f.image) → has_bar f.probe n ≡ true → IsOff f (Bar n) place
      bar_off n inside there = elim (cases_Bool (is_wide (bar_at f.probe n))) [
        | inr narrow ↦ subst (λ t. (place < bar_register n) ⊎ (bar_register n + (if t then 8 else 4) ≤ place)) (sym narrow) (off_bar n inside)
        | inl wide ↦
            subst (λ t. (place < bar_register n) ⊎ (bar_register n + (if t then 8 else 4) ≤ place)) (sym wide)
            (elim (off_bar n inside) [
              | inl before ↦ inl before
              | inr after ↦ elim (off_bar (suc n) (upper_there n inside there wide)) [
                | inl between ↦ absurd (let no : ⊥ = omega (arith, after, between) in no)
                | inr past ↦ inr (omega (arith, past))
              ]
            ])
      ]

      windows_off : is_bridge f ≡ true → IsOffWindows place
      windows_off bridge =
          let at = λ (r : ℕ × ℕ) (has : Contains (registers_by true) r). off_register r (subst (λ b. Contains (registers_by b) r) (sym bridge) has) in
          let memory = at (0x20, 4) (3, omega arith, refl) in
          let prefetch = at (0x24, 4) (4, omega arith, refl) in
          let base = at (0x28, 4) (5, omega arith, refl) in
          let limit = at (0x2c, 4) (6, omega arith, refl) in
          let upper = at (0x30, 4) (7, omega arith, refl) in
          (at (0x1c, 2) (2, omega arith, refl), past_all place memory prefetch base limit upper)

      part_off : (p : Part) → Contains (header_parts f) p → can_change p ≡ true → IsOff f p place
      part_off p there can = elim (part_cases f p there) [
        | inl bar ↦ subst (λ x. IsOff f x place) bar.is (bar_off bar.n bar.inside (can_bar bar.n (ap can_change bar.is ∙ can)))
        | inr (inl window) ↦ subst (λ x. IsOff f x place) window.is (windows_off (window_bridge window.kind (ap can_change window.is ∙ can)))
        | inr (inr rom) ↦ subst (λ x. IsOff f x place) rom (off_register (rom_register (layout f.image), 4) (rom_in (layout f.image == 1)))
      ]

      pub settled_off : byte_at (settled_image q s k f) place ≡ byte_at f.image place
      settled_off = fold_keeps (λ (x : List ℕ). byte_at x place ≡ byte_at f.image place) step (changing q s f)
          (λ r has image same.
          let c : IsChanging r = changing_is r has in
          subst (λ (t : FunctionPart). byte_at (step image t) place ≡ byte_at f.image place) c.is
          (step_off c.p image place (part_off c.p c.there c.can) ∙ same)) f.image refl

  pub settled_image_is : IsImage f.image → IsImage (settled_image q s k f)
  settled_image_is is = fold_keeps IsImage step (changing q s f)
      (λ r has image was.
      let c : IsChanging r = changing_is r has in
      subst (λ (t : FunctionPart). IsImage (step image t)) c.is (step_image c.p image was)) f.image is

  -- ---- the enable bit of a ROM

  module _ (can : CanSettle q s k) (listed : Contains s f) (image_is : IsImage f.image) (decodable : IsDecodable f) where
    abbrev rom : ℕ
    rom = rom_register (layout f.image)

    record IsSwitched (image : List ℕ) : Type 0 where
      is : IsImage image
      same : bit_at (byte_at image rom) 0 ≡ bit_at (byte_at f.image rom) 0

    -- an even place leaves the lowest bit
    lowest : (old at : ℕ) → at % 2 ≡ 0 → bit_at ((at + old % 2 ^ 1) % 256) 0 ≡ bit_at old 0
    lowest old at even = let e : (at + old % 2 ^ 1) % 256 / 1 % 2 ≡ old / 1 % 2 = omega (arith, even) in e

    either_switched : (b : Bool) (x y : List ℕ) → IsSwitched x → IsSwitched y → IsSwitched (cond b x y)
    either_switched b x y h j = cond_both b x y IsSwitched (λ e. h) (λ e. j)

    rom_shown : has_rom f.image f.probe ≡ true → (o : Option Placed) → new_place q s k (region Rom) ≡ o → (image : List ℕ) → IsSwitched image → IsSwitched (shown k (region Rom) o image)
    rom_shown there None e image h = either_switched (k.stays (region Rom)) (with_kept k (region Rom) image) image (either_switched (keeps_range Rom) image image h h) h
    rom_shown there (Some p) e image h =
        let full = h.is.full in
        let inside : rom < length image = elim (rom_at_end f) [ inl a ↦ omega (arith, full, a) | inr a ↦ omega (arith, full, a) ] in
        record {
          is = shown_image Rom (Some p) image h.is;
          same =
              ap (λ n. bit_at n 0) (with_first 3 rom (rom_value f.image p.at) image inside)
              ∙ lowest (rom_at f.image f.image) p.at (rom_is_even q s k can f listed there decodable.rom p e)
              ∙ register_bit f.image rom image_is 4 0 0 (omega arith) (omega arith)
              ∙ ap (λ n. bit_at (byte_at f.image n) 0) (omega arith);
        }

    pub bar_below : (n : ℕ) → n < bar_count (layout f.image) → has_bar f.probe n ≡ true → bar_register n + (if is_wide (bar_at f.probe n) then 8 else 4) ≤ rom
    bar_below n inside there =
        let few = few_bars f n inside in
        let end : bar_register n + (if is_wide (bar_at f.probe n) then 8 else 4) ≤ 0x30 = elim (cases_Bool (is_wide (bar_at f.probe n))) [
          | inl wide ↦
              let next = few_bars f (suc n) (upper_there decodable n inside there wide) in
              subst (λ t. bar_register n + (if t then 8 else 4) ≤ 0x30) (sym wide) (omega (arith, next))
          | inr narrow ↦ subst (λ t. bar_register n + (if t then 8 else 4) ≤ 0x30) (sym narrow) (omega (arith, few))
        ] in
        elim (rom_at_end f) [ inl a ↦ omega (arith, end, a) | inr a ↦ omega (arith, end, a) ]

    step_switched : (p : Part) → Contains (header_parts f) p → can_change p ≡ true → (image : List ℕ) → IsSwitched image → IsSwitched (step image (region p))
    step_switched p there can image h =
        let off : IsOff f p rom → IsSwitched (step image (region p)) = λ is. record { is = step_image p image h.is; same = ap (λ n. bit_at n 0) (step_off p image rom is) ∙ h.same } in
        elim (part_cases f p there) [
          | inl bar ↦ off (subst (λ x. IsOff f x rom) bar.is (inr (bar_below bar.n bar.inside (can_bar bar.n (ap can_change bar.is ∙ can)))))
          | inr (inl window) ↦ off (subst (λ x. IsOff f x rom) window.is
              (let bridge = window_bridge window.kind (ap can_change window.is ∙ can) in
              let at : rom ≡ 0x38 = ap (λ t. cond t 0x38 0x30) bridge in
              (inr (omega (arith, at)), inr (omega (arith, at)))))
          | inr (inr is) ↦ subst (λ x. IsSwitched (step image (region x))) is
              (subst IsSwitched (sym (step_plain Rom refl image)) (rom_shown (can_rom (ap can_change is ∙ can)) (new_place q s k (region Rom)) refl image h))
        ]

    switched : IsSwitched (settled_image q s k f)
    switched = fold_keeps IsSwitched step (changing q s f)
        (λ r has image h.
        let c : IsChanging r = changing_is r has in
        subst (λ (t : FunctionPart). IsSwitched (step image t)) c.is (step_switched c.p c.there c.can image h)) f.image record { is = image_is; same = refl }

    pub rom_stays_switched : bit_at (byte_at (settled_image q s k f) rom) 0 ≡ bit_at (byte_at f.image rom) 0
    rom_stays_switched = switched.same
