-- A settled function shows its new places: each part that has one is there, and a window that has none is closed.
use Rattle.std.proofs.Common.{◌≡◌, ◌&&◌, ℕ, suc, ◌+◌, ◌-◌, ◌*◌, ◌%◌, ◌^◌, ◌<◌, ◌≤◌, inl, inr, List, Bool, true, false, cond, not, refl, arith, sym, ◌∙◌, ap, subst, Option, None, Some}
use Rattle.std.specs.Bool.{◌==◌, if◌then◌else◌}
use Rattle.std.specs.List.{Contains, filter}
use Rattle.std.proofs.lemmas.Bool.{and_parts, and_from, both_ways, cases_Bool, cases_eq, cases_lt, lt-ltb, not-false, or_left, or_right}
use Rattle.std.proofs.lemmas.Nat.{mod_below, pow_pos}
use Rattle.std.proofs.Math.Nat.{pow-le-pow_right}
use Rattle.pci_spec.specs.Number.{byte_at, number_at, lowest_one, IsImage}
use Rattle.pci_spec.specs.Registers.{COMMAND}
use Rattle.pci_spec.specs.Header.{layout, bar_count, bar_register, rom_register}
use Rattle.pci_spec.specs.Bar.{bar_at, bar_kind, is_wide, starts_bar, whole_bar, has_bar, first_bit}
use Rattle.pci_spec.specs.Rom.{has_rom}
use Rattle.pci_spec.specs.Window.{WindowKind, Bounds, bounds_at, bounds_for, closed_bounds, has_window, is_closed, page_size}
use Rattle.pci_spec.specs.Decoded.{Range, aligned_range, bar_size, rom_size}
use Rattle.pci_spec.specs.System.{System, Function, Part, Bar, Rom, Window, has_part, is_bridge, is_implemented, is_window}
use Rattle.pci_spec.proofs.Members.{in_map_from, in_filter_from}
use Rattle.pci_spec.proofs.Ranges as ranges
use Rattle.plan_spec.specs.Plan.{is_open}
use Rattle.plan_spec.specs.Place.{nibble_of, range_from}
use Rattle.plan_spec.specs.Planning.Layout.{range_of}
use Rattle.plan_spec.specs.Planning.Showing.{bar_value, rom_value}
use Rattle.plan_spec.proofs.Planning.BarValues.{rom_shows}
use Rattle.plan_spec.proofs.Planning.RomFits.{rom_there, rom_number_small}
use Rattle.plan_spec.proofs.Planning.Shown.{closed_shows}
use Rattle.plan_spec.proofs.Planning.Shows.{window_shows}
use Rattle.plan_spec.proofs.Planning.WindowFits.{few_nibbles}
use Rattle.settle_spec.specs.FirstPlace.{Extent}
use Rattle.settle_spec.specs.Lists.{Request}
use Rattle.settle_spec.specs.Parts.{FunctionPart, addresses, is_part, header_parts, class_in}
use Rattle.settle_spec.specs.Items.{Placed, highest_of_bar, taken_by}
use Rattle.settle_spec.specs.Keeping.Places.{new_place}
use Rattle.settle_spec.specs.Registers.{closed_if_open, changing}
use Rattle.judge_spec.specs.Windows.{with_number, with_bounds}
use Rattle.settle_spec.specs.Keeping.Registers.{is_same_range, with_kept, shown, with_wish, settled_image, settled_function, settled_command}
use Rattle.settle_laws.specs.KeptLaws.{IsWishedWindow}
use Rattle.settle_laws.specs.Keeping.PlacesLaws.{CanSettle}
use Rattle.settle_laws.proofs.BarReach.{size_is, top_here, bar_shows, highest_by}
use Rattle.settle_laws.proofs.Keeping.Fits.{was, decodable, window_there, window_has, size_of_place, bar_room, rom_room, window_room, shown_fit, more_fit, wish_fit, none_fit}
use Rattle.settle_laws.proofs.HeaderParts.{part_cases, few_bars, rom_at_end, bar_of, rom_of, window_of}
use Rattle.settle_laws.proofs.Held.{and_second_false}
use Rattle.settle_laws.proofs.Images.{AgreeAside, same_number, whole_aside, bounds_aside}
use Rattle.settle_laws.proofs.ItemForms.{IsPlaceable, IsOwnPart, IsNewWindow}
use Rattle.settle_laws.proofs.Numbers.{with_elsewhere}
use Rattle.settle_laws.proofs.NumbersPut.{reads_four, reads_low, reads_high}
use Rattle.settle_laws.proofs.Keeping.PartPlaces.{new_place_is}
use Rattle.settle_laws.proofs.Keeping.SettledMoved.{kind_stays}
use Rattle.settle_laws.proofs.Shown.{IsOff, fold_keeps, either}
use Rattle.settle_laws.proofs.Keeping.Shown.{IsChanging, can_change, changing_is, window_bridge, can_bar, upper_there, shown_image, step_off, step_image, step_plain, step_unwished, bar_below}
use Rattle.settle_laws.proofs.WindowBytes.{size_whole, IsOf, one_window, window_bytes, bounds_elsewhere, bounds_by_bytes, bounds_shown}
use Rattle.settle_spec.specs.Kept.{Kept}
use Rattle.settle_laws.proofs.Keeping.Kept.{stays_part, kept_forward}
use Rattle.settle_laws.proofs.ShownParts.{closed_by, bar_or_not, reaches, rom_or_not, window_or_not}

module _ (q : Request) (s : System) (k : Kept) (can : CanSettle q s k) (f : Function) (listed : Contains s f) where
  abbrev region : Part → FunctionPart
  region p = record { function = f; part = p }

  abbrev step : List ℕ → FunctionPart → List ℕ
  step image r = with_wish r (k.wished r) (shown k r (new_place q s k r) image)

  image_is : IsImage f.image
  image_is = (was q s k can f listed).image

  stepped_image : (r : FunctionPart) → Contains (changing q s f) r → (image : List ℕ) → IsImage image → IsImage (step image r)
  stepped_image r has image is = (let c = changing_is q s k f r has in subst (λ t. IsImage (step image t)) c.is (step_image q s k f c.p image is))

  pub in_changing : (p : Part) → Contains (header_parts f) p → can_change q s k f p ≡ true → Contains (changing q s f) (region p)
  in_changing p there can_p = in_map_from region (filter (can_change q s k f) (header_parts f)) p (in_filter_from (can_change q s k f) (header_parts f) p there can_p)

  -- where the registers of parts are, Command isn't
  pub aside : AgreeAside (settled_function q s k f).image (settled_image q s k f)
  aside place from to = with_elsewhere 2 COMMAND (settled_command q s k f) place (settled_image q s k f) (inr (omega (arith, from)))

  own_by : (c : WindowKind) (p : Part) → is_window p ≡ false → IsPlaceable q s c f p → is_part q s f p ≡ true
  own_by c p plain (IsOwnPart same part) = part
  own_by c p plain (IsNewWindow window bridge has) = absurd (both_ways (is_window p) plain (ap is_window window))

  -- a BAR or ROM that has a place is looked at
  pub own_placed : (p : Part) → is_window p ≡ false → has_part f p ≡ true → (x : Placed) → new_place q s k (region p) ≡ Some x → is_part q s f p ≡ true
  own_placed p plain there x placed = own_by (class_in q s f p) p plain (new_place_is q s k can f p listed there x placed).placeable

  -- a window keeps its addresses
  abbrev pub keeps_range : WindowKind → Bool
  keeps_range c = is_same_range (k.range (region (Window c))) (addresses (region (Window c)))

  -- a window changes no byte but its own
  shown_elsewhere : (c : WindowKind) (o : Option Placed) (image : List ℕ) (place : ℕ) → (IsOf c place → ⊥) → byte_at (shown k (region (Window c)) o image) place ≡ byte_at image place
  shown_elsewhere c None image place out =
      either (λ x. byte_at x place ≡ byte_at image place) (k.stays (region (Window c))) (with_kept k (region (Window c)) image) (closed_if_open f (Window c) image)
      (either (λ x. byte_at x place ≡ byte_at image place) (keeps_range c) image _ refl (bounds_elsewhere c _ image place out))
      (either (λ x. byte_at x place ≡ byte_at image place) (is_open f c) _ image (bounds_elsewhere c _ image place out) refl)
  shown_elsewhere c (Some x) image place out = bounds_elsewhere c _ image place out

  wish_elsewhere : (c : WindowKind) (w : Option Range) (image : List ℕ) (place : ℕ) → (IsOf c place → ⊥) → byte_at (with_wish (region (Window c)) w image) place ≡ byte_at image place
  wish_elsewhere c None image place out = refl
  wish_elsewhere c (Some w) image place out = bounds_elsewhere c _ image place out

  window_off : (c : WindowKind) (image : List ℕ) (place : ℕ) → (IsOf c place → ⊥) → byte_at (step image (region (Window c))) place ≡ byte_at image place
  window_off c image place out =
      wish_elsewhere c (k.wished (region (Window c))) (shown k (region (Window c)) (new_place q s k (region (Window c))) image) place out
      ∙ shown_elsewhere c (new_place q s k (region (Window c))) image place out

  -- where nothing is wished, a step shows the window's place
  pub leaves_wish : (c : WindowKind) → k.wished (region (Window c)) ≡ None → (image : List ℕ) → step image (region (Window c)) ≡ shown k (region (Window c)) (new_place q s k (region (Window c))) image
  leaves_wish c unwished image = step_unwished q s k f (region (Window c)) unwished image

  -- ---- which bytes are whose

  abbrev width : ℕ → ℕ
  width n = if is_wide (bar_at f.probe n) then 8 else 4

  -- a BAR ends before a later one begins
  bar_before : (n m : ℕ) → has_bar f.probe n ≡ true → has_bar f.probe m ≡ true → n < m → bar_register n + width n ≤ bar_register m
  bar_before n m there_n there_m less = elim (cases_Bool (is_wide (bar_at f.probe n))) [
    | inr narrow ↦ (let w : width n ≡ 4 = ap (λ t. if t then 8 else 4) narrow in omega (arith, w, less))
    | inl wide ↦
        let w : width n ≡ 8 = ap (λ t. if t then 8 else 4) wide in
        let starts_n = (and_parts (starts_bar f.probe n) (not (bar_at f.probe n == 0)) there_n).0 in
        let upper : starts_bar f.probe (suc n) ≡ false = ap not (and_from (starts_bar f.probe n) (is_wide (bar_at f.probe n)) starts_n wide) in
        elim (cases_eq m (suc n)) [
          | inl next ↦ absurd (both_ways (starts_bar f.probe m) (ap (starts_bar f.probe) next ∙ upper) (and_parts (starts_bar f.probe m) (not (bar_at f.probe m == 0)) there_m).0)
          | inr further ↦ omega (arith, w, less, further)
        ]
  ]

  bar_ends : (n : ℕ) → n < bar_count (layout f.image) → has_bar f.probe n ≡ true → bar_register n + width n ≤ rom_register (layout f.image)
  bar_ends n inside there = bar_below q s k f can listed image_is (decodable q s k can f listed) n inside there

  -- a bridge's BARs end before its windows
  pub bridge_bar : (n : ℕ) → n < bar_count (layout f.image) → has_bar f.probe n ≡ true → is_bridge f ≡ true → bar_register n + width n ≤ 0x18
  bridge_bar n inside there bridge =
      let two : bar_count (layout f.image) ≡ 2 = ap (λ t. cond t 2 6) bridge in
      elim (cases_Bool (is_wide (bar_at f.probe n))) [
        | inr narrow ↦ (let w : width n ≡ 4 = ap (λ t. if t then 8 else 4) narrow in omega (arith, w, inside, two))
        | inl wide ↦
            let w : width n ≡ 8 = ap (λ t. if t then 8 else 4) wide in
            let next = upper_there q s k f (decodable q s k can f listed) n inside there wide in
            omega (arith, w, next, two)
      ]

  -- ---- BARs

  module _ (n : ℕ) (inside : n < bar_count (layout f.image)) (there : has_bar f.probe n ≡ true) where
    pub off_bar : (p : Part) → Contains (header_parts f) p → can_change q s k f p ≡ true → (Bar n ≡ p → ⊥) → (place : ℕ) → bar_register n ≤ place → place < bar_register n + width n → IsOff f p place
    off_bar p in_p can_p other place from to = elim (part_cases f p in_p) [
      | inl bar ↦
          let m = bar.n in
          let there_m = can_bar q s k f m (ap (can_change q s k f) bar.is ∙ can_p) in
          subst (λ o. IsOff f o place) bar.is (elim (cases_lt m n) [
            | inl lower ↦ (let end = bar_before m n there_m there lower in inr (omega (arith, end, from)))
            | inr up ↦ elim (cases_eq m n) [
              | inl same ↦ absurd (other (ap Bar (sym same) ∙ bar.is))
              | inr differ ↦ (let end = bar_before n m there there_m (omega (arith, up, differ)) in inl (omega (arith, end, to)))
            ]
          ])
      | inr (inl window) ↦
          let bridge = window_bridge q s k f window.kind (ap (can_change q s k f) window.is ∙ can_p) in
          let end = bridge_bar n inside there bridge in
          subst (λ o. IsOff f o place) window.is (inl (omega (arith, end, to)), inl (omega (arith, end, to)))
      | inr (inr rom) ↦ (let end = bar_ends n inside there in subst (λ o. IsOff f o place) rom (inl (omega (arith, end, to))))
    ]

    -- the BAR's number is told by its own bytes
    pub whole_by_bytes : (a b : List ℕ) → ((place : ℕ) → bar_register n ≤ place → place < bar_register n + width n → byte_at a place ≡ byte_at b place) → whole_bar f.probe a n ≡ whole_bar f.probe b n
    whole_by_bytes a b same = elim (cases_Bool (is_wide (bar_at f.probe n))) [
      | inr narrow ↦
          let w : width n ≡ 4 = ap (λ t. if t then 8 else 4) narrow in
          let low = same_number a b (bar_register n) 4 (λ j less. same (bar_register n + j) (omega arith) (omega (arith, less, w))) in
          ap (λ t. cond t (bar_at a n + 2 ^ 32 * bar_at a (n + 1)) (bar_at a n)) narrow ∙ low ∙ sym (ap (λ t. cond t (bar_at b n + 2 ^ 32 * bar_at b (n + 1)) (bar_at b n)) narrow)
      | inl wide ↦
          let w : width n ≡ 8 = ap (λ t. if t then 8 else 4) wide in
          let low = same_number a b (bar_register n) 4 (λ j less. same (bar_register n + j) (omega arith) (omega (arith, less, w))) in
          let high = same_number a b (bar_register (n + 1)) 4 (λ j less. same (bar_register (n + 1) + j) (omega arith) (omega (arith, less, w))) in
          ap (λ t. cond t (bar_at a n + 2 ^ 32 * bar_at a (n + 1)) (bar_at a n)) wide
          ∙ ap (λ m. m + 2 ^ 32 * bar_at a (n + 1)) low ∙ ap (λ m. bar_at b n + 2 ^ 32 * m) high
          ∙ sym (ap (λ t. cond t (bar_at b n + 2 ^ 32 * bar_at b (n + 1)) (bar_at b n)) wide)
    ]

    -- no other part has a byte of it
    pub keeps_whole : (p : Part) → Contains (header_parts f) p → can_change q s k f p ≡ true → (Bar n ≡ p → ⊥) → (image : List ℕ) → whole_bar f.probe (step image (region p)) n ≡ whole_bar f.probe image n
    keeps_whole p in_p can_p other image =
        whole_by_bytes (step image (region p)) image (λ place from to. step_off q s k f p image place (off_bar p in_p can_p other place from to))

    -- where a number is put there, it is the BAR's
    whole_shown : (v : ℕ) → (is_wide (bar_at f.probe n) ≡ true → v < 2 ^ 64) → (is_wide (bar_at f.probe n) ≡ false → v < 2 ^ 32) → (image : List ℕ) → IsImage image
        → whole_bar f.probe (with_number (width n) (bar_register n) v image) n ≡ v
    whole_shown v wide_small narrow_small image is =
        let few = few_bars f n inside in
        let full = is.full in
        elim (cases_Bool (is_wide (bar_at f.probe n))) [
          | inr narrow ↦
              ap (λ t. cond t (bar_at (with_number (width n) (bar_register n) v image) n + 2 ^ 32 * bar_at (with_number (width n) (bar_register n) v image) (n + 1)) (bar_at (with_number (width n) (bar_register n) v image) n)) narrow
              ∙ ap (λ t. bar_at (with_number (if t then 8 else 4) (bar_register n) v image) n) narrow
              ∙ reads_four (bar_register n) v image (omega (arith, few, full)) (narrow_small narrow)
          | inl wide ↦
              let put = with_number 8 (bar_register n) v image in
              let at : bar_register (n + 1) ≡ bar_register n + 4 = omega arith in
              let low = reads_low (bar_register n) v image (omega (arith, few, full)) in
              let high = reads_high (bar_register n) v image (omega (arith, few, full)) (wide_small wide) in
              ap (λ t. cond t (bar_at (with_number (width n) (bar_register n) v image) n + 2 ^ 32 * bar_at (with_number (width n) (bar_register n) v image) (n + 1)) (bar_at (with_number (width n) (bar_register n) v image) n)) wide
              ∙ ap (λ t. bar_at (with_number (if t then 8 else 4) (bar_register n) v image) n + 2 ^ 32 * bar_at (with_number (if t then 8 else 4) (bar_register n) v image) (n + 1)) wide
              ∙ ap (λ m. m + 2 ^ 32 * bar_at put (n + 1)) low
              ∙ ap (λ o. v % 2 ^ 32 + 2 ^ 32 * number_at put o 4) at
              ∙ ap (λ m. v % 2 ^ 32 + 2 ^ 32 * m) high
              ∙ omega arith
        ]

    module _ (x : Placed) (placed : new_place q s k (region (Bar n)) ≡ Some x) where
      abbrev value : ℕ
      value = bar_value f.image f.probe n x.at

      pub room : (x.at % bar_size f.probe n ≡ 0) × (x.at + bar_size f.probe n ≤ highest_of_bar (bar_at f.probe n) + 1)
      room = bar_room q s k can f n listed inside there x placed

      -- the encoding is below the size
      value_reach : value ≤ highest_of_bar (bar_at f.probe n)
      value_reach =
          let fine = (decodable q s k can f listed).bars n inside in
          let e = first_bit (bar_kind (bar_at f.probe n)) in
          let r = top_here f.image f.probe n x.at (was q s k can f listed).probe there fine room.0 room.1 in
          let size = size_is f.image f.probe n x.at (was q s k can f listed).probe there fine room.0 room.1 in
          let low = mod_below (whole_bar f.probe f.image n) (2 ^ e) (pow_pos e) in
          let up : 2 ^ e ≤ 2 ^ lowest_one (ranges.first_bit (bar_kind (bar_at f.probe n))) (whole_bar f.probe f.probe n) = pow-le-pow_right (omega arith) r.low in
          let end = room.1 in
          omega (arith, low, up, size, end)

      can_here : can_change q s k f (Bar n) ≡ true
      can_here = or_left (is_part q s f (Bar n)) (is_window (Bar n) && is_implemented f (Bar n)) (own_placed (Bar n) refl (lt-ltb n (bar_count (layout f.image)) inside) x placed)

      sets_bar : (image : List ℕ) → IsImage image → whole_bar f.probe (step image (region (Bar n))) n ≡ value
      sets_bar image is =
          let far = value_reach in
          let by = highest_by (bar_at f.probe n) in
          ap (λ x. whole_bar f.probe x n) (step_plain q s k f (Bar n) refl image ∙ ap (λ o. shown k (region (Bar n)) o image) placed)
          ∙ whole_shown value (λ wide. let most = by.0 wide in omega (arith, far, most))
          (λ narrow. let most = by.1 narrow in omega (arith, far, most)) image is

      bar_set : whole_bar f.probe (settled_image q s k f) n ≡ value
      bar_set = reaches IsImage (λ image. whole_bar f.probe image n ≡ value) step (changing q s f) (region (Bar n)) stepped_image sets_bar
          (λ r has image is same.
          let c : IsChanging q s k f r = changing_is q s k f r has in
          subst (λ t. whole_bar f.probe (step image t) n ≡ value) c.is (elim (bar_or_not n c.p) [
            | inl here ↦ subst (λ o. whole_bar f.probe (step image (region o)) n ≡ value) here (sets_bar image is)
            | inr other ↦ keeps_whole c.p c.there c.can other image ∙ same
          ])) f.image image_is (in_changing (Bar n) (bar_of f n inside) can_here)

      -- what the BAR shows
      pub bar_now : whole_bar f.probe (settled_function q s k f).image n ≡ value
      bar_now = whole_aside (settled_function q s k f).image (settled_image q s k f) aside f.probe n (few_bars f n inside) ∙ bar_set

      pub bar_shown : range_of (settled_function q s k f) (Bar n) ≡ taken_by x.item x.at
      bar_shown =
          let size : x.item.extent.size ≡ bar_size f.probe n = ap (λ (e : Extent). e.size) (size_of_place q s k can f (Bar n) listed (lt-ltb n (bar_count (layout f.image)) inside) x placed) in
          ap (λ v. aligned_range v (bar_size f.probe n)) bar_now
          ∙ bar_shows f.image f.probe n x.at (was q s k can f listed).probe there ((decodable q s k can f listed).bars n inside) room.0 room.1
          ∙ ap (range_from x.at) (sym size)

  -- ---- the ROM

  off_rom : (p : Part) → Contains (header_parts f) p → can_change q s k f p ≡ true → (Rom ≡ p → ⊥) → (place : ℕ) → rom_register (layout f.image) ≤ place → IsOff f p place
  off_rom p in_p can_p other place from = elim (part_cases f p in_p) [
    | inl bar ↦ (let end = bar_ends bar.n bar.inside (can_bar q s k f bar.n (ap (can_change q s k f) bar.is ∙ can_p)) in subst (λ o. IsOff f o place) bar.is (inr (omega (arith, end, from))))
    | inr (inl window) ↦
        let bridge = window_bridge q s k f window.kind (ap (can_change q s k f) window.is ∙ can_p) in
        let at : rom_register (layout f.image) ≡ 0x38 = ap (λ t. cond t 0x38 0x30) bridge in
        subst (λ o. IsOff f o place) window.is (inr (omega (arith, at, from)), inr (omega (arith, at, from)))
    | inr (inr rom) ↦ absurd (other rom)
  ]

  abbrev rom : ℕ
  rom = rom_register (layout f.image)

  pub keeps_rom : (p : Part) → Contains (header_parts f) p → can_change q s k f p ≡ true → (Rom ≡ p → ⊥) → (image : List ℕ) → number_at (step image (region p)) rom 4 ≡ number_at image rom 4
  keeps_rom p in_p can_p other image =
      same_number (step image (region p)) image rom 4 (λ j less. step_off q s k f p image (rom + j) (off_rom p in_p can_p other (rom + j) (omega arith)))

  pub rom_aside : number_at (settled_function q s k f).image rom 4 ≡ number_at (settled_image q s k f) rom 4
  rom_aside =
      same_number (settled_function q s k f).image (settled_image q s k f) rom 4 (λ j less. with_elsewhere 2 COMMAND (settled_command q s k f) (rom + j) (settled_image q s k f) (elim (rom_at_end f) [ inl a ↦ inr (omega (arith, a)) | inr a ↦ inr (omega (arith, a)) ]))

  module _ (there : has_rom f.image f.probe ≡ true) (x : Placed) (placed : new_place q s k (region Rom) ≡ Some x) where
    abbrev rom_number : ℕ
    rom_number = rom_value f.image x.at

    pub rom_fine : (x.at % rom_size f.image f.probe ≡ 0) × (x.at + rom_size f.image f.probe ≤ 2 ^ 32)
    rom_fine = rom_room q s k can f listed x placed

    small_rom : rom_number < 2 ^ 32
    small_rom =
        let fine = (decodable q s k can f listed).rom in
        let e = rom_there f image_is x.at fine (λ h. rom_fine) there in
        let small = rom_number_small f image_is x.at fine (λ h. rom_fine) in
        omega (arith, e, small)

    sets_rom : (image : List ℕ) → IsImage image → number_at (step image (region Rom)) rom 4 ≡ rom_number
    sets_rom image is =
        let full = is.full in
        ap (λ x. number_at x rom 4) (step_plain q s k f Rom refl image ∙ ap (λ o. shown k (region Rom) o image) placed)
        ∙ reads_four rom rom_number image (elim (rom_at_end f) [ inl a ↦ omega (arith, a, full) | inr a ↦ omega (arith, a, full) ]) small_rom

    rom_set : number_at (settled_image q s k f) rom 4 ≡ rom_number
    rom_set = reaches IsImage (λ image. number_at image rom 4 ≡ rom_number) step (changing q s f) (region Rom) stepped_image sets_rom
        (λ r has image is same.
        let c : IsChanging q s k f r = changing_is q s k f r has in
        subst (λ t. number_at (step image t) rom 4 ≡ rom_number) c.is (elim (rom_or_not c.p) [
          | inl here ↦ subst (λ o. number_at (step image (region o)) rom 4 ≡ rom_number) here (sets_rom image is)
          | inr other ↦ keeps_rom c.p c.there c.can other image ∙ same
        ])) f.image image_is
        (in_changing Rom (rom_of f) (or_left (is_part q s f Rom) (is_window Rom && is_implemented f Rom) (own_placed Rom refl refl x placed)))

    -- what the ROM's register shows
    pub rom_now : number_at (settled_function q s k f).image rom 4 ≡ rom_number
    rom_now = rom_aside ∙ rom_set

    pub rom_shown : range_of (settled_function q s k f) Rom ≡ taken_by x.item x.at
    rom_shown =
        let g = settled_function q s k f in
        let kind = kind_stays q s k can f listed in
        let size : x.item.extent.size ≡ rom_size f.image f.probe = ap (λ (e : Extent). e.size) (size_of_place q s k can f Rom listed refl x placed) in
        ap (λ k. aligned_range (number_at g.image (rom_register k) 4) (2 ^ lowest_one 0 (number_at f.probe (rom_register k) 4))) kind
        ∙ ap (λ v. aligned_range v (rom_size f.image f.probe)) rom_now
        ∙ rom_shows f.image f.probe x.at there (decodable q s k can f listed).rom rom_fine.0 rom_fine.1
        ∙ ap (range_from x.at) (sym size)

  -- ---- windows

  module _ (c : WindowKind) (bridge : is_bridge f ≡ true) where
    -- no other part has a byte of a window's
    pub keeps_bounds : (p : Part) → Contains (header_parts f) p → can_change q s k f p ≡ true → (Window c ≡ p → ⊥) → (image : List ℕ) → bounds_at c (step image (region p)) ≡ bounds_at c image
    keeps_bounds p in_p can_p other image = elim (part_cases f p in_p) [
      | inl bar ↦
          let end = bridge_bar bar.n bar.inside (can_bar q s k f bar.n (ap (can_change q s k f) bar.is ∙ can_p)) bridge in
          bounds_by_bytes c (step image (region p)) image (λ place mine.
          let low = (window_bytes c place mine).0 in
          step_off q s k f p image place (subst (λ o. IsOff f o place) bar.is (inr (omega (arith, end, low)))))
      | inr (inl window) ↦ subst (λ o. bounds_at c (step image (region o)) ≡ bounds_at c image) window.is
          (bounds_by_bytes c (step image (region (Window window.kind))) image (λ place mine.
          window_off window.kind image place (λ its. other (ap Window (one_window c window.kind place mine its) ∙ window.is))))
      | inr (inr rom) ↦
          let at : rom_register (layout f.image) ≡ 0x38 = ap (λ t. cond t 0x38 0x30) bridge in
          bounds_by_bytes c (step image (region p)) image (λ place mine.
          let high = (window_bytes c place mine).1 in
          step_off q s k f p image place (subst (λ o. IsOff f o place) rom (inl (omega (arith, at, high)))))
    ]

    pub in_window : has_window c f.probe ≡ true → Contains (changing q s f) (region (Window c))
    in_window there = in_changing (Window c) (window_of f c) (or_right (is_part q s f (Window c)) (is_window (Window c) && is_implemented f (Window c)) (and_from (is_bridge f) (has_window c f.probe) bridge there))

    pub keeps_or_sets : (v : Bounds) → ((image : List ℕ) → IsImage image → bounds_at c image ≡ v → bounds_at c (step image (region (Window c))) ≡ v) → (r : FunctionPart) → Contains (changing q s f) r → (image : List ℕ) → IsImage image → bounds_at c image ≡ v → bounds_at c (step image r) ≡ v
    keeps_or_sets v sets r has image is same =
        let p : IsChanging q s k f r = changing_is q s k f r has in
        subst (λ t. bounds_at c (step image t) ≡ v) p.is (elim (window_or_not c p.p) [
          | inl here ↦ subst (λ o. bounds_at c (step image (region o)) ≡ v) here (sets image is same)
          | inr other ↦ keeps_bounds p.p p.there p.can other image ∙ same
        ])

    -- the bounds that a function's window has once it is settled
    pub same_bounds : bounds_at c (settled_function q s k f).image ≡ bounds_at c (settled_image q s k f)
    same_bounds = bounds_aside (settled_function q s k f).image (settled_image q s k f) aside c

    module _ (unwished : k.wished (region (Window c)) ≡ None) (x : Placed) (placed : new_place q s k (region (Window c)) ≡ Some x) where
      abbrev bounds : Bounds
      bounds = bounds_for c (nibble_of c f) x.at (x.at + (x.item.extent.size - 1))

      there_now : has_window c f.probe ≡ true
      there_now = window_there q s k can c f listed bridge (window_has q s k can f c listed bridge x placed)

      sets_window : (image : List ℕ) → IsImage image → bounds_at c (step image (region (Window c))) ≡ bounds
      sets_window image is = ap (bounds_at c) (leaves_wish c unwished image ∙ ap (λ o. shown k (region (Window c)) o image) placed) ∙ bounds_shown f c bounds (shown_fit q s k can f c listed bridge there_now x placed) image is

      window_set : bounds_at c (settled_image q s k f) ≡ bounds
      window_set = reaches IsImage (λ image. bounds_at c image ≡ bounds) step (changing q s f) (region (Window c)) stepped_image sets_window
          (keeps_or_sets bounds (λ image is same. sets_window image is)) f.image image_is (in_window there_now)

      opened : (range_of (settled_function q s k f) (Window c) ≡ taken_by x.item x.at) × (is_closed c (settled_function q s k f).image ≡ false)
      opened =
          let room = window_room q s k can f c listed bridge x placed in
          window_shows (settled_function q s k f) c (nibble_of c f) x.at x.item.extent.size (few_nibbles f bridge c) room.some room.aligned room.whole (same_bounds ∙ window_set)

      -- what the window's registers show
      pub window_now : bounds_at c (settled_function q s k f).image ≡ bounds
      window_now = same_bounds ∙ window_set

      pub window_shown : range_of (settled_function q s k f) (Window c) ≡ taken_by x.item x.at
      window_shown = opened.0

      pub window_opened : is_closed c (settled_function q s k f).image ≡ false
      window_opened = opened.1

    -- where its step leaves its bounds, it has those that it had
    pub bounds_stay : ((image : List ℕ) → step image (region (Window c)) ≡ image) → bounds_at c (settled_function q s k f).image ≡ bounds_at c f.image
    bounds_stay leaves =
        let v = bounds_at c f.image in
        let kept = λ (image : List ℕ) (is : IsImage image) (same : bounds_at c image ≡ v). ap (bounds_at c) (leaves image) ∙ same in
        same_bounds
        ∙ (fold_keeps (λ image. IsImage image × (bounds_at c image ≡ v)) step (changing q s f) (λ r has image now. (stepped_image r has image now.0, keeps_or_sets v kept r has image now.0 now.1)) f.image (image_is, refl)).1

    -- one that stays and grows shows what it comes to
    module _ (unwished : k.wished (region (Window c)) ≡ None) (keeps : k.stays (region (Window c)) ≡ true) (none : new_place q s k (region (Window c)) ≡ None) (grows : keeps_range c ≡ false) where
      abbrev grown : Range
      grown = k.range (region (Window c))

      abbrev pub grown_bounds : Bounds
      grown_bounds = bounds_for c (nibble_of c f) grown.first grown.last

      grown_there : has_window c f.probe ≡ true
      grown_there = (and_parts (is_bridge f) (has_window c f.probe) (and_parts (is_bridge f && has_window c f.probe) (not (is_closed c f.image)) (stays_part q s k can (region (Window c)) listed keeps)).0).1

      sets_grown : (image : List ℕ) → IsImage image → bounds_at c (step image (region (Window c))) ≡ grown_bounds
      sets_grown image is =
          ap (bounds_at c) (leaves_wish c unwished image ∙ ap (λ o. shown k (region (Window c)) o image) none)
          ∙ ap (λ t. bounds_at c (cond t (with_kept k (region (Window c)) image) (closed_if_open f (Window c) image))) keeps
          ∙ ap (λ t. bounds_at c (cond t image (with_bounds c grown_bounds image))) grows
          ∙ bounds_shown f c grown_bounds (more_fit q s k can f c listed bridge grown_there keeps) image is

      -- what its registers show
      pub window_grown : bounds_at c (settled_function q s k f).image ≡ grown_bounds
      window_grown =
          same_bounds
          ∙ reaches IsImage (λ image. bounds_at c image ≡ grown_bounds) step (changing q s f) (region (Window c)) stepped_image sets_grown
          (keeps_or_sets grown_bounds (λ image is same. sets_grown image is)) f.image image_is (in_window grown_there)

      grown_opened : (range_of (settled_function q s k f) (Window c) ≡ grown) × (is_closed c (settled_function q s k f).image ≡ false)
      grown_opened =
          let size = grown.last + 1 - grown.first in
          let forward = kept_forward q s k can c f listed keeps in
          let pages = can.sound.grown c f listed bridge keeps in
          let first = pages.first in
          let last = pages.last in
          let end : grown.first + (size - 1) ≡ grown.last = omega (arith, forward) in
          let whole : size % page_size c ≡ 0 = size_whole c grown.first grown.last forward first last in
          let bounds : bounds_at c (settled_function q s k f).image ≡ bounds_for c (nibble_of c f) grown.first (grown.first + (size - 1)) = window_grown ∙ ap (bounds_for c (nibble_of c f) grown.first) (sym end) in
          let shows = window_shows (settled_function q s k f) c (nibble_of c f) grown.first size (few_nibbles f bridge c) (omega (arith, forward)) first whole bounds in
          (shows.0 ∙ ap (λ n. record { first = grown.first; last = n }) end, shows.1)

      pub grown_shown : range_of (settled_function q s k f) (Window c) ≡ grown
      grown_shown = grown_opened.0

      pub grown_open : is_closed c (settled_function q s k f).image ≡ false
      grown_open = grown_opened.1

    -- one in which room is kept free shows that
    module _ (w : Range) (wished : k.wished (region (Window c)) ≡ Some w) where
      abbrev pub wish_bounds : Bounds
      wish_bounds = bounds_for c (nibble_of c f) w.first w.last

      is : IsWishedWindow q s k c f w
      is = can.sound.wished.windows c f w listed bridge wished

      sets_wish : (image : List ℕ) → IsImage image → bounds_at c (step image (region (Window c))) ≡ wish_bounds
      sets_wish image whole =
          let place = new_place q s k (region (Window c)) in
          ap (λ o. bounds_at c (with_wish (region (Window c)) o (shown k (region (Window c)) place image))) wished
          ∙ bounds_shown f c wish_bounds (wish_fit q s k can f c listed bridge is.there w wished) (shown k (region (Window c)) place image)
          (shown_image q s k f (Window c) place image whole)

      -- what its registers show
      pub window_wished : bounds_at c (settled_function q s k f).image ≡ wish_bounds
      window_wished =
          same_bounds
          ∙ reaches IsImage (λ image. bounds_at c image ≡ wish_bounds) step (changing q s f) (region (Window c)) stepped_image sets_wish
          (keeps_or_sets wish_bounds (λ image whole same. sets_wish image whole)) f.image image_is (in_window is.there)

      wished_opened : (range_of (settled_function q s k f) (Window c) ≡ w) × (is_closed c (settled_function q s k f).image ≡ false)
      wished_opened =
          let size = w.last + 1 - w.first in
          let forward = is.forward in
          let end : w.first + (size - 1) ≡ w.last = omega (arith, forward) in
          let whole : size % page_size c ≡ 0 = size_whole c w.first w.last forward is.first is.last in
          let bounds : bounds_at c (settled_function q s k f).image ≡ bounds_for c (nibble_of c f) w.first (w.first + (size - 1)) = window_wished ∙ ap (bounds_for c (nibble_of c f) w.first) (sym end) in
          let shows = window_shows (settled_function q s k f) c (nibble_of c f) w.first size (few_nibbles f bridge c) (omega (arith, forward)) is.first whole bounds in
          (shows.0 ∙ ap (λ n. record { first = w.first; last = n }) end, shows.1)

      pub wished_shown : range_of (settled_function q s k f) (Window c) ≡ w
      wished_shown = wished_opened.0

      pub wished_open : is_closed c (settled_function q s k f).image ≡ false
      wished_open = wished_opened.1

    -- one that doesn't stay and has no place is closed
    module _ (unwished : k.wished (region (Window c)) ≡ None) (there : has_window c f.probe ≡ true) (moves : k.stays (region (Window c)) ≡ false) (none : new_place q s k (region (Window c)) ≡ None) where
      step_none : (image : List ℕ) → step image (region (Window c)) ≡ closed_if_open f (Window c) image
      step_none image =
          leaves_wish c unwished image ∙ ap (λ o. shown k (region (Window c)) o image) none
          ∙ ap (λ t. cond t (with_kept k (region (Window c)) image) (closed_if_open f (Window c) image)) moves

      pub window_closed : is_closed c (settled_function q s k f).image ≡ true
      window_closed = elim (cases_Bool (is_open f c)) [
        | inl open_then ↦
            let v = closed_bounds c (nibble_of c f) in
            let sets = λ (image : List ℕ) (is : IsImage image).
            ap (bounds_at c) (step_none image ∙ ap (λ t. cond t (with_bounds c v image) image) open_then) ∙ bounds_shown f c v (none_fit q s k can f c listed bridge there) image is in
            ap (closed_by c) same_bounds
            ∙ closed_shows c (settled_image q s k f) (nibble_of c f) (few_nibbles f bridge c)
            (reaches IsImage (λ image. bounds_at c image ≡ v) step (changing q s f) (region (Window c)) stepped_image sets
            (keeps_or_sets v (λ image is same. sets image is)) f.image image_is (in_window there))
        | inr closed_then ↦
            ap (closed_by c) (bounds_stay (λ image. step_none image ∙ ap (λ t. cond t (with_bounds c (closed_bounds c (nibble_of c f)) image) image) closed_then))
            ∙ not-false (is_closed c f.image) (and_second_false (is_bridge f && has_window c f.probe) (not (is_closed c f.image)) (and_from (is_bridge f) (has_window c f.probe) bridge there) closed_then)
      ]
