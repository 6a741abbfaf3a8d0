-- A BAR or ROM whose space is left on shows the same before, once closed and once settled.
use Rattle.std.proofs.Common.{◌≡◌, ◌&&◌, ◌||◌, ℕ, ◌+◌, ◌%◌, ◌<◌, ◌≤◌, inl, inr, [], ◌∷◌, true, false, cond, not, arith, refl, sym, ◌∙◌, ap, subst}
use Rattle.std.specs.Bool.{if◌then◌else◌}
use Rattle.std.specs.List.{Contains, filter}
use Rattle.std.proofs.lemmas.Bool.{and_from, both_ways, cases_Bool, not_from_false, or_cases, or_parts}
use Rattle.pci_spec.specs.Number.{byte_at, number_at, IsImage}
use Rattle.pci_spec.specs.Header.{layout, bar_count, bar_register, rom_register}
use Rattle.pci_spec.specs.Bar.{bar_at, has_bar, is_wide, whole_bar}
use Rattle.pci_spec.specs.Rom.{rom_at}
use Rattle.pci_spec.specs.System.{System, Function, Space, Memory, Part, Bar, Rom, is_bridge, is_space_on, is_window, space_of}
use Rattle.pci_spec.proofs.Members.{in_nil, in_cons_cases, in_head, in_map_from, in_filter_from}
use Rattle.plan_spec.proofs.Planning.Reached.{byte_of_number}
use Rattle.settle_spec.specs.Lists.{Request}
use Rattle.settle_spec.specs.Parts.{FunctionPart, is_left, is_part, header_parts, function_parts, class_in, are_same_space}
use Rattle.settle_spec.specs.Stands.{part_space}
use Rattle.settle_spec.specs.Registers.{changing}
use Rattle.settle_spec.specs.Keeping.Registers.{settled_function}
use Rattle.settle_spec.specs.Keeping.Writes.{changes_at, changes_above, moves, is_left_on, closed_function}
use Rattle.settle_laws.specs.Keeping.PlacesLaws.{CanSettle}
use Rattle.settle_laws.proofs.Keeping.Claimed.{on_now, unleft_bar}
use Rattle.settle_laws.proofs.Keeping.ClosedImages.{device_unreplaced, closed_elsewhere, closed_low, closed_command}
use Rattle.settle_laws.proofs.Keeping.Commands.{IsLeftOn, on_closed, left_parts, left_is_enabled}
use Rattle.settle_laws.proofs.Keeping.Fits.{was}
use Rattle.settle_laws.proofs.HeaderParts.{bar_of, rom_of}
use Rattle.settle_laws.proofs.Held.{same_itself}
use Rattle.settle_laws.proofs.Keeping.Held.{unshut_parts}
use Rattle.settle_laws.proofs.Held.{and_second_false}
use Rattle.settle_laws.proofs.Images.{same_number}
use Rattle.settle_laws.proofs.Keeping.SettledMoved.{new_image, kind_stays}
use Rattle.settle_laws.proofs.Shown.{fold_keeps}
use Rattle.settle_laws.proofs.Keeping.Shown.{IsChanging, can_change, changing_is, step}
use Rattle.settle_laws.proofs.Keeping.ShownParts.{bridge_bar, whole_by_bytes, keeps_rom, rom_aside}
use Rattle.settle_laws.proofs.ShownParts.{rom_or_not}
use Rattle.settle_laws.proofs.Stages.{ShowsSame}
use Rattle.settle_laws.proofs.WindowBytes.{window_bytes}
use Rattle.settle_laws.proofs.NonePasses.{none_passes}
use Rattle.settle_spec.specs.Kept.{Kept}
use Rattle.settle_laws.proofs.Keeping.ShownKept.{bar_number_stays, rom_stays}
use Rattle.settle_laws.proofs.Keeping.ChangedWindows.{unchanged}

module _ (q : Request) (s : System) (k : Kept) where
  -- a part stays, or neither it nor a window of its class above it changes
  pub data Rests (r : FunctionPart) : Type 0 where
    Stays : (keeps : k.stays r ≡ true) → Rests r
    Unchanged : (itself : changes_at q s k r.function r.part ≡ false) → (above : changes_above q s k (class_in q s r.function r.part) r.function.slot.bus ≡ false) → Rests r

  pub resting : (r : FunctionPart) → moves q s k r ≡ false → Rests r
  resting r still = elim (cases_Bool (k.stays r)) [
    | inl keeps ↦ Stays keeps
    | inr goes ↦
        let changes = changes_at q s k r.function r.part || changes_above q s k (class_in q s r.function r.part) r.function.slot.bus in
        let none = or_parts (changes_at q s k r.function r.part) (changes_above q s k (class_in q s r.function r.part) r.function.slot.bus) (and_second_false (not (k.stays r)) changes (ap not goes) still) in
        Unchanged none.0 none.1
  ]

  -- a part that is looked at and whose space is left on doesn't move
  pub rests : (f : Function) (p : Part) → Contains (header_parts f) p → is_part q s f p ≡ true → is_window p ≡ false → IsLeftOn q s k f (space_of f p) → moves q s k record { function = f; part = p } ≡ false
  rests f p there part plain is =
      let space = space_of f p in
      let r : FunctionPart = record { function = f; part = p } in
      let region : Part → FunctionPart = λ p. record { function = f; part = p } in
      and_second_false (are_same_space space (part_space r) && not (is_window p)) (moves q s k r)
      (and_from (are_same_space space (part_space r)) (not (is_window p)) (same_itself space) (ap not plain))
      (none_passes (λ r. are_same_space space (part_space r) && not (is_window r.part) && moves q s k r) (function_parts q s f) (unshut_parts q s k space f is.unshut).resting r
      (in_map_from region (filter (is_part q s f) (header_parts f)) p (in_filter_from (is_part q s f) (header_parts f) p there part)))

module _ (q : Request) (s : System) (k : Kept) (can : CanSettle q s k) where
  abbrev closed : Function → Function
  closed f = closed_function q s k f

  abbrev final : Function → Function
  final f = settled_function q s k f

  final_is : (f : Function) → Contains s f → IsImage (final f).image
  final_is f listed = new_image q s k can f listed

  -- ---- what is on

  -- once closed
  pub on_is : (f : Function) (space : Space) → Contains s f → is_space_on (closed f) space ≡ is_left_on q s k space f
  on_is f space listed = on_closed q s k f (closed f) (closed_command q s k f (was q s k can f listed).image) space

  pub left_of : (f : Function) (space : Space) → Contains s f → is_space_on (closed f) space ≡ true → IsLeftOn q s k f space
  left_of f space listed on = left_parts q s k f space (sym (on_is f space listed) ∙ on)

  pub was_on : (f : Function) (space : Space) → Contains s f → is_space_on (closed_function q s k f) space ≡ true → is_space_on f space ≡ true
  was_on f space listed on = (left_of f space listed on).was

  pub ends_on : (f : Function) (space : Space) → Contains s f → is_space_on (closed_function q s k f) space ≡ true → is_space_on (settled_function q s k f) space ≡ true
  ends_on f space listed on = on_now q s k can f listed space ∙ left_is_enabled q s k f space (sym (on_is f space listed) ∙ on)

  -- ---- BARs

  module _ (f : Function) (n : ℕ) (listed : Contains s f) (inside : n < bar_count (layout f.image)) (there : has_bar f.probe n ≡ true) where
    abbrev width : ℕ
    width = if is_wide (bar_at f.probe n) then 8 else 4

    -- closing leaves a BAR's bytes
    bar_bytes : (place : ℕ) → bar_register n ≤ place → place < bar_register n + width → byte_at (closed f).image place ≡ byte_at f.image place
    bar_bytes place from to = closed_elsewhere q s k f place (inr (omega (arith, from))) (λ c mine. elim (cases_Bool (is_bridge f)) [
      | inr device ↦ device_unreplaced q s k f device c
      | inl bridge ↦
          let end = bridge_bar q s k can f listed n inside there bridge in
          let low = (window_bytes c place mine).0 in
          absurd (let no : ⊥ = omega (arith, end, low, to) in no)
    ])

    bar_closed : number_at (closed f).image (bar_register n) width ≡ number_at f.image (bar_register n) width
    bar_closed = same_number (closed f).image f.image (bar_register n) width (λ j less. bar_bytes (bar_register n + j) (omega arith) (omega (arith, less)))

    pub whole_closed : whole_bar f.probe (closed f).image n ≡ whole_bar f.probe f.image n
    whole_closed = whole_by_bytes q s k can f listed n inside there (closed f).image f.image bar_bytes

    module _ (on : is_space_on (closed f) (space_of f (Bar n)) ≡ true) where
      bar_part : is_part q s f (Bar n) ≡ true
      bar_part =
          and_from (has_bar f.probe n) (not (is_left q s f (Bar n))) there
          (not_from_false (is_left q s f (Bar n)) (unleft_bar q s k can f listed n inside there (ends_on f (space_of f (Bar n)) listed on)))

      bar_final : number_at (final f).image (bar_register n) width ≡ number_at f.image (bar_register n) width
      bar_final =
          by (resting q s k (record { function = f; part = Bar n }) (rests q s k f (Bar n) (bar_of f n inside) bar_part refl (left_of f (space_of f (Bar n)) listed on)))
        where
          by : Rests q s k (record { function = f; part = Bar n }) → number_at (final f).image (bar_register n) width ≡ number_at f.image (bar_register n) width
          by (Stays keeps) = bar_number_stays q s k can f listed n inside there keeps
          by (Unchanged none above) = unchanged q s k f (Bar n) none (bar_register n, width) (in_head (bar_register n, width) [])

      pub whole_final : whole_bar f.probe (final f).image n ≡ whole_bar f.probe f.image n
      whole_final = whole_by_bytes q s k can f listed n inside there (final f).image f.image
          (λ place from to. byte_of_number (final f).image f.image (bar_register n) width place (final_is f listed) (was q s k can f listed).image bar_final from to)

      bar_same : ShowsSame (closed f) (final f) (Bar n)
      bar_same r has = elim (in_cons_cases (bar_register n, width) [] r has) [
        | inl here ↦ subst (λ (r : ℕ × ℕ). number_at (final f).image r.0 r.1 ≡ number_at (closed f).image r.0 r.1) here (bar_final ∙ sym bar_closed)
        | inr other ↦ absurd (in_nil r other)
      ]

  pub bar_rests : (f : Function) (n : ℕ) → Contains s f → n < bar_count (layout f.image) → has_bar f.probe n ≡ true → is_space_on (closed_function q s k f) (space_of f (Bar n)) ≡ true
      → ShowsSame (closed_function q s k f) (settled_function q s k f) (Bar n)
  bar_rests f n listed inside there on = bar_same f n listed inside there on

  -- ---- the ROM

  pub closed_layout : (f : Function) → layout (closed f).image ≡ layout f.image
  closed_layout f = ap (λ b. b % 128) (closed_low q s k f 0x0e (omega arith) (omega arith))

  module _ (f : Function) (listed : Contains s f) where
    abbrev rom : ℕ
    rom = rom_register (layout f.image)

    -- closing leaves its bytes
    rom_bytes : (place : ℕ) → rom ≤ place → place < rom + 4 → byte_at (closed f).image place ≡ byte_at f.image place
    rom_bytes place from to = elim (cases_Bool (is_bridge f)) [
      | inr device ↦
          let at : rom ≡ 0x30 = ap (λ t. cond t 0x38 0x30) device in
          closed_elsewhere q s k f place (inr (omega (arith, at, from))) (λ c mine. device_unreplaced q s k f device c)
      | inl bridge ↦
          let at : rom ≡ 0x38 = ap (λ t. cond t 0x38 0x30) bridge in
          closed_elsewhere q s k f place (inr (omega (arith, at, from))) (λ c mine. let high = (window_bytes c place mine).1 in absurd (let no : ⊥ = omega (arith, at, from, high) in no))
    ]

    rom_closed : number_at (closed f).image rom 4 ≡ number_at f.image rom 4
    rom_closed = same_number (closed f).image f.image rom 4 (λ j less. rom_bytes (rom + j) (omega arith) (omega (arith, less)))

    -- one that isn't looked at isn't set
    rom_untouched : is_part q s f Rom ≡ false → number_at (final f).image rom 4 ≡ number_at f.image rom 4
    rom_untouched off =
        let v = number_at f.image rom 4 in
        rom_aside q s k can f listed
        ∙ fold_keeps (λ image. number_at image rom 4 ≡ v) (step q s k f) (changing q s f)
        (λ r in_r image same.
        let c : IsChanging q s k f r = changing_is q s k f r in_r in
        subst (λ (t : FunctionPart). number_at (step q s k f image t) rom 4 ≡ v) c.is (elim (rom_or_not c.p) [
          | inl here ↦ elim (or_cases (is_part q s f Rom) false (ap (can_change q s k f) here ∙ c.can)) [
            | inl part ↦ absurd (both_ways (is_part q s f Rom) off part)
            | inr other ↦ absurd (both_ways false refl other)
          ]
          | inr other ↦ keeps_rom q s k can f listed c.p c.there c.can other image ∙ same
        ])) f.image refl

    rom_by : Rests q s k (record { function = f; part = Rom }) → number_at (final f).image rom 4 ≡ number_at f.image rom 4
    rom_by (Stays keeps) = rom_stays q s k can f listed keeps
    rom_by (Unchanged none above) = unchanged q s k f Rom none (rom, 4) (in_head (rom, 4) [])

    rom_final : IsLeftOn q s k f Memory → number_at (final f).image rom 4 ≡ number_at f.image rom 4
    rom_final is = elim (cases_Bool (is_part q s f Rom)) [
      | inr off ↦ rom_untouched off
      | inl part ↦
          rom_by (resting q s k (record { function = f; part = Rom }) (rests q s k f Rom (rom_of f) part refl is))
    ]

    pub rom_at_closed : rom_at (closed f).image (closed f).image ≡ rom_at f.image f.image
    rom_at_closed = ap (λ k. number_at (closed f).image (rom_register k) 4) (closed_layout f) ∙ rom_closed

    pub rom_at_final : IsLeftOn q s k f Memory → rom_at (final f).image (final f).image ≡ rom_at f.image f.image
    rom_at_final is = ap (λ k. number_at (final f).image (rom_register k) 4) (kind_stays q s k can f listed) ∙ rom_final is

    rom_same : IsLeftOn q s k f Memory → ShowsSame (closed f) (final f) Rom
    rom_same is r has = elim (in_cons_cases (rom, 4) [] r (subst (λ k. Contains ((rom_register k, 4) ∷ []) r) (closed_layout f) has)) [
      | inl here ↦ subst (λ (r : ℕ × ℕ). number_at (final f).image r.0 r.1 ≡ number_at (closed f).image r.0 r.1) here (rom_final is ∙ sym rom_closed)
      | inr other ↦ absurd (in_nil r other)
    ]

  pub rom_rests : (f : Function) → Contains s f → is_space_on (closed_function q s k f) Memory ≡ true → ShowsSame (closed_function q s k f) (settled_function q s k f) Rom
  rom_rests f listed on = rom_same f listed (left_of f Memory listed on)
