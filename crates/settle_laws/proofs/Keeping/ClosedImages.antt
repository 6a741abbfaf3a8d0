-- The bytes of a function once it is closed: Command, and the windows that are replaced.
use Rattle.std.proofs.Common.{◌≡◌, ℕ, ◌+◌, ◌*◌, ◌^◌, ◌<◌, ◌≤◌, ◌⊎◌, inl, inr, List, refl, true, false, cond, ◌&&◌, not, arith, sym, ◌∙◌, ap, subst, Option, None, Some}
use Rattle.std.specs.Bool.{nat_lt, ◌==◌, if◌then◌else◌}
use Rattle.std.specs.List.{Contains}
use Rattle.std.proofs.lemmas.Bool.{and_from, and_parts, and_right, both_ways, cases_Bool, cond_both, eq-eqb, eqb-true, not-true}
use Rattle.std.proofs.lemmas.List.Elements.{All-contains}
use Rattle.pci_spec.specs.Number.{byte_at, number_at, IsImage}
use Rattle.pci_spec.specs.Registers.{COMMAND}
use Rattle.pci_spec.specs.Header.{command, layout, bar_count, rom_register}
use Rattle.pci_spec.specs.Bar.{bar_at, has_bar, is_wide}
use Rattle.pci_spec.specs.Window.{WindowKind, IoWindow, MemoryWindow, PrefetchWindow, Bounds, bounds_at, upper_bits, has_window}
use Rattle.pci_spec.specs.Decoded.{Range, IsDecodable}
use Rattle.pci_spec.specs.System.{System, Function, IsSystem, IsFunction, Io, Memory, Part, Bar, Window, is_bridge}
use Rattle.pci_spec.specs.Sound.{IsInProfile}
use Rattle.pci_spec.proofs.ReadBacks.{IsLawful}
use Rattle.plan_spec.specs.Plan.{is_open}
use Rattle.plan_spec.specs.Place.{nibble_of}
use Rattle.plan_spec.proofs.PlanningLaws.{profile_decodes}
use Rattle.plan_spec.proofs.Planning.Behind.{Passes, any_gives}
use Rattle.plan_spec.proofs.Planning.CommandFits.{command_small}
use Rattle.plan_spec.proofs.Planning.Reached.{byte_of_number}
use Rattle.plan_spec.proofs.Planning.Registers.{number_below}
use Rattle.plan_spec.proofs.Planning.WindowFits.{AreKept, PartsFit, few_nibbles, kept_fit, lawful_nibbles}
use Rattle.settle_spec.specs.Lists.{Request}
use Rattle.settle_spec.specs.Parts.{FunctionPart, addresses, header_parts}
use Rattle.settle_spec.specs.Stands.{window_part}
use Rattle.settle_spec.specs.Items.{Placed}
use Rattle.settle_spec.specs.Keeping.Places.{new_place}
use Rattle.settle_spec.specs.Registers.{closed_if_open, changing}
use Rattle.judge_spec.specs.Windows.{with_number, with_bounds}
use Rattle.settle_spec.specs.Keeping.Registers.{is_same_range, with_kept, shown, with_wish, settled_image, settled_function, settled_command}
use Rattle.settle_spec.specs.Writes.{part_registers, differs_at, shut_bounds}
use Rattle.settle_spec.specs.Keeping.Writes.{changes_window, is_left_on, closing_command, is_replaced, without_window, closed_image, closed_function}
use Rattle.settle_laws.proofs.Held.{and_second_false}
use Rattle.settle_laws.proofs.Keeping.ChangedWindows.{window_changes}
use Rattle.settle_laws.proofs.HeaderParts.{part_cases}
use Rattle.settle_laws.proofs.Images.{same_number}
use Rattle.settle_laws.proofs.Numbers.{with_elsewhere, with_image, command_with}
use Rattle.settle_laws.proofs.NumbersPut.{reads_four}
use Rattle.settle_laws.proofs.Shown.{IsOff, fold_keeps, bounds_image, either}
use Rattle.settle_laws.proofs.Keeping.Shown.{IsChanging, can_change, changing_is, window_there, can_bar, upper_there, step, step_off}
use Rattle.settle_laws.proofs.WindowBytes.{IsOf, one_window, window_bytes, bounds_elsewhere, bounds_by_bytes, bounds_shown, number_elsewhere}
use Rattle.settle_spec.specs.Kept.{Kept}
use Rattle.settle_laws.proofs.ClosedImages.{are_low, no_kind, register_bytes, upper_kept}

module _ (q : Request) (s : System) (k : Kept) (f : Function) where
  -- a device has no window that is replaced
  pub device_unreplaced : is_bridge f ≡ false → (c : WindowKind) → is_replaced q s k f c ≡ false
  device_unreplaced device c = ap (λ b. b && not (k.stays (window_part c f)) && changes_window q s k c f) device

  -- nor has one a window that stays
  pub staying_unreplaced : (c : WindowKind) → k.stays (window_part c f) ≡ true → is_replaced q s k f c ≡ false
  staying_unreplaced c keeps = ap (λ b. is_bridge f && not b && changes_window q s k c f) keeps ∙ ap (λ b. b && changes_window q s k c f) (and_right (is_bridge f) false refl)

  -- a window that doesn't stay and isn't replaced doesn't change
  pub unreplaced_rests : is_bridge f ≡ true → (c : WindowKind) → k.stays (window_part c f) ≡ false → is_replaced q s k f c ≡ false → changes_window q s k c f ≡ false
  unreplaced_rests bridge c goes same = and_second_false (is_bridge f && not (k.stays (window_part c f))) (changes_window q s k c f) (and_from (is_bridge f) (not (k.stays (window_part c f))) bridge (ap not goes)) same

  -- ---- bytes that closing leaves

  without_elsewhere : (c : WindowKind) (image : List ℕ) (place : ℕ) → (IsOf c place → is_replaced q s k f c ≡ false) → byte_at (without_window q s k f c image) place ≡ byte_at image place
  without_elsewhere c image place out =
      cond_both (is_replaced q s k f c) (with_bounds c (shut_bounds c (nibble_of c f) (bounds_at c f.image)) image) image (λ x. byte_at x place ≡ byte_at image place)
      (λ replaced. bounds_elsewhere c _ image place (λ mine. both_ways (is_replaced q s k f c) (out mine) replaced)) (λ other. refl)

  -- a byte outside Command and of no window that is replaced
  pub closed_elsewhere : (place : ℕ) → (place < 4) ⊎ (6 ≤ place) → ((c : WindowKind) → IsOf c place → is_replaced q s k f c ≡ false) → byte_at (closed_function q s k f).image place ≡ byte_at f.image place
  closed_elsewhere place apart out =
      with_elsewhere 2 COMMAND (closing_command q s k f) place (closed_image q s k f) apart
      ∙ without_elsewhere PrefetchWindow _ place (out PrefetchWindow)
      ∙ without_elsewhere MemoryWindow _ place (out MemoryWindow)
      ∙ without_elsewhere IoWindow f.image place (out IoWindow)

  -- a byte outside Command and of no window
  pub closed_outside : (place : ℕ) → (place < 4) ⊎ (6 ≤ place) → ((c : WindowKind) → IsOf c place → ⊥) → byte_at (closed_function q s k f).image place ≡ byte_at f.image place
  closed_outside place apart out = closed_elsewhere place apart (λ c mine. absurd (out c mine))

  -- of a device all but Command
  pub closed_device : is_bridge f ≡ false → (place : ℕ) → (place < 4) ⊎ (6 ≤ place) → byte_at (closed_function q s k f).image place ≡ byte_at f.image place
  closed_device device place apart = closed_elsewhere place apart (λ c mine. device_unreplaced device c)

  -- below the windows and above them
  pub closed_low : (place : ℕ) → 6 ≤ place → place < 0x1c → byte_at (closed_function q s k f).image place ≡ byte_at f.image place
  closed_low place from to = closed_outside place (inr from) (λ c mine. let low = (window_bytes c place mine).0 in omega (arith, low, to))

  -- ---- the image

  module _ (is : IsImage f.image) where
    without_image : (c : WindowKind) (image : List ℕ) → IsImage image → IsImage (without_window q s k f c image)
    without_image c image whole =
        cond_both (is_replaced q s k f c) (with_bounds c (shut_bounds c (nibble_of c f) (bounds_at c f.image)) image) image IsImage
        (λ replaced. bounds_image c _ image whole) (λ other. whole)

    abbrev without_io : List ℕ
    without_io = without_window q s k f IoWindow f.image

    abbrev without_memory : List ℕ
    without_memory = without_window q s k f MemoryWindow without_io

    without_io_is : IsImage without_io
    without_io_is = without_image IoWindow f.image is

    without_memory_is : IsImage without_memory
    without_memory_is = without_image MemoryWindow without_io without_io_is

    pub closed_image_is : IsImage (closed_image q s k f)
    closed_image_is = without_image PrefetchWindow without_memory without_memory_is

    pub closed_is : IsImage (closed_function q s k f).image
    closed_is = with_image 2 COMMAND (closing_command q s k f) (closed_image q s k f) closed_image_is

    pub closed_command : command (closed_function q s k f).image ≡ closing_command q s k f
    closed_command = command_with (closing_command q s k f) (closed_image q s k f) closed_image_is (command_small f is (is_left_on q s k Io f) (is_left_on q s k Memory f))

    -- ---- the upper base of a prefetchable window stays

    upper_put : (v : Bounds) (image : List ℕ) → IsImage image → v.base_upper < 2 ^ 32 → number_at (with_bounds PrefetchWindow v image) 0x28 4 ≡ v.base_upper
    upper_put v image whole small =
        let a = with_number 2 0x24 v.base image in
        let b = with_number 2 0x26 v.limit a in
        let full = (with_image 2 0x26 v.limit a (with_image 2 0x24 v.base image whole)).full in
        number_elsewhere 4 0x2c v.limit_upper 0x28 4 (with_number 4 0x28 v.base_upper b) (inl (omega arith))
        ∙ reads_four 0x28 v.base_upper b (omega (arith, full)) small

    below_prefetch : (place : ℕ) → 0x28 ≤ place → place < 0x2c → byte_at without_memory place ≡ byte_at f.image place
    below_prefetch place from to =
        without_elsewhere MemoryWindow without_io place (λ mine. absurd (let high = mine.1 in let no : ⊥ = omega (arith, high, from) in no))
        ∙ without_elsewhere IoWindow f.image place (λ mine. absurd (elim mine [ inl low ↦ (let b = low.1 in let no : ⊥ = omega (arith, b, from) in no) | inr high ↦ (let a = high.0 in let no : ⊥ = omega (arith, a, to) in no) ]))

    upper_byte : (place : ℕ) → 0x28 ≤ place → place < 0x2c → byte_at (closed_image q s k f) place ≡ byte_at without_memory place
    upper_byte place from to =
        let v = shut_bounds PrefetchWindow (nibble_of PrefetchWindow f) (bounds_at PrefetchWindow f.image) in
        let below = number_below f.image 0x28 is 4 in
        let x = with_bounds PrefetchWindow v without_memory in
        cond_both (is_replaced q s k f PrefetchWindow) x without_memory (λ y. byte_at y place ≡ byte_at without_memory place)
        (λ replaced. byte_of_number x f.image 0x28 4 place (bounds_image PrefetchWindow v without_memory without_memory_is) is (upper_put v without_memory without_memory_is (omega (arith, below))) from to
        ∙ sym (below_prefetch place from to)) (λ other. refl)

    -- bytes 28h to 2Bh
    pub closed_base_upper : (place : ℕ) → 0x28 ≤ place → place < 0x2c → byte_at (closed_function q s k f).image place ≡ byte_at f.image place
    closed_base_upper place from to =
        with_elsewhere 2 COMMAND (closing_command q s k f) place (closed_image q s k f) (inr (omega (arith, from)))
        ∙ upper_byte place from to
        ∙ below_prefetch place from to

    -- ---- what the windows show

    -- closing one window leaves the others
    other_bounds : (c d : WindowKind) → (d ≡ c → ⊥) → (image : List ℕ) → bounds_at c (without_window q s k f d image) ≡ bounds_at c image
    other_bounds c d differ image = bounds_by_bytes c (without_window q s k f d image) image (λ place mine. without_elsewhere d image place (λ its. absurd (differ (one_window d c place its mine))))

    abbrev shut : WindowKind → Bounds
    shut c = shut_bounds c (nibble_of c f) (bounds_at c f.image)

    -- what is shown where each replaced window's numbers fit
    module _ (fits : (c : WindowKind) → is_replaced q s k f c ≡ true → PartsFit f c (shut c)) where
      put : (c : WindowKind) (image : List ℕ) → IsImage image → bounds_at c image ≡ bounds_at c f.image → bounds_at c (without_window q s k f c image) ≡ (if is_replaced q s k f c then shut c else bounds_at c f.image)
      put c image whole same = elim (cases_Bool (is_replaced q s k f c)) [
        | inl replaced ↦
            ap (λ t. bounds_at c (if t then with_bounds c (shut c) image else image)) replaced
            ∙ bounds_shown f c (shut c) (fits c replaced) image whole
            ∙ sym (ap (λ t. if t then shut c else bounds_at c f.image) replaced)
        | inr other ↦
            ap (λ t. bounds_at c (if t then with_bounds c (shut c) image else image)) other
            ∙ same
            ∙ sym (ap (λ t. if t then shut c else bounds_at c f.image) other)
      ]

      image_bounds : (c : WindowKind) → bounds_at c (closed_image q s k f) ≡ (if is_replaced q s k f c then shut c else bounds_at c f.image)
      image_bounds IoWindow =
          other_bounds IoWindow PrefetchWindow (λ e. no_kind PrefetchWindow IoWindow e refl) without_memory
          ∙ other_bounds IoWindow MemoryWindow (λ e. no_kind MemoryWindow IoWindow e refl) without_io
          ∙ put IoWindow f.image is refl
      image_bounds MemoryWindow =
          other_bounds MemoryWindow PrefetchWindow (λ e. no_kind PrefetchWindow MemoryWindow e refl) without_memory
          ∙ put MemoryWindow without_io without_io_is (other_bounds MemoryWindow IoWindow (λ e. no_kind IoWindow MemoryWindow e refl) f.image)
      image_bounds PrefetchWindow =
          put PrefetchWindow without_memory without_memory_is
          (other_bounds PrefetchWindow MemoryWindow (λ e. no_kind MemoryWindow PrefetchWindow e refl) without_io
          ∙ other_bounds PrefetchWindow IoWindow (λ e. no_kind IoWindow PrefetchWindow e refl) f.image)

      pub bounds_by_fits : (c : WindowKind) → bounds_at c (closed_function q s k f).image ≡ (if is_replaced q s k f c then shut c else bounds_at c f.image)
      bounds_by_fits c =
          bounds_by_bytes c (closed_function q s k f).image (closed_image q s k f)
          (λ place mine. let low = (window_bytes c place mine).0 in with_elsewhere 2 COMMAND (closing_command q s k f) place (closed_image q s k f) (inr (omega (arith, low))))
          ∙ image_bounds c

  -- ---- a window that isn't there is never replaced

  abbrev region : Part → FunctionPart
  region p = record { function = f; part = p }

  abbrev width : ℕ → ℕ
  width n = if is_wide (bar_at f.probe n) then 8 else 4

  module _ (decodable : IsDecodable f) (bridge : is_bridge f ≡ true) where
    module _ (c : WindowKind) (absent : has_window c f.probe ≡ false) (place : ℕ) (mine : IsOf c place) where
      bar_under : (n : ℕ) → n < bar_count (layout f.image) → has_bar f.probe n ≡ true → IsOff f (Bar n) place
      bar_under n inside there =
          let two : bar_count (layout f.image) ≡ 2 = ap (λ t. cond t 2 6) bridge in
          let low = (window_bytes c place mine).0 in
          elim (cases_Bool (is_wide (bar_at f.probe n))) [
            | inr narrow ↦ (let w : width n ≡ 4 = ap (λ t. if t then 8 else 4) narrow in inr (omega (arith, w, inside, two, low)))
            | inl wide ↦
                let w : width n ≡ 8 = ap (λ t. if t then 8 else 4) wide in
                let next = upper_there q s k f decodable n inside there wide in
                inr (omega (arith, w, next, two, low))
          ]

      window_leaves : (d : WindowKind) → has_window d f.probe ≡ true → (o : Option Placed) (image : List ℕ) → byte_at (shown k (region (Window d)) o image) place ≡ byte_at image place
      window_leaves d there None image =
          let out = λ (its : IsOf d place). both_ways (has_window d f.probe) (ap (λ k. has_window k f.probe) (one_window d c place its mine) ∙ absent) there in
          either (λ x. byte_at x place ≡ byte_at image place) (k.stays (region (Window d))) (with_kept k (region (Window d)) image) (closed_if_open f (Window d) image)
          (either (λ x. byte_at x place ≡ byte_at image place) (is_same_range (k.range (region (Window d))) (addresses (region (Window d)))) image _ refl (bounds_elsewhere d _ image place out))
          (either (λ x. byte_at x place ≡ byte_at image place) (is_open f d) _ image (bounds_elsewhere d _ image place out) refl)
      window_leaves d there (Some x) image =
          bounds_elsewhere d _ image place (λ its. both_ways (has_window d f.probe) (ap (λ k. has_window k f.probe) (one_window d c place its mine) ∙ absent) there)

      wish_leaves : (d : WindowKind) → has_window d f.probe ≡ true → (w : Option Range) (image : List ℕ) → byte_at (with_wish (region (Window d)) w image) place ≡ byte_at image place
      wish_leaves d there None image = refl
      wish_leaves d there (Some w) image =
          bounds_elsewhere d _ image place (λ its. both_ways (has_window d f.probe) (ap (λ k. has_window k f.probe) (one_window d c place its mine) ∙ absent) there)

      part_leaves : (p : Part) → Contains (header_parts f) p → can_change q s k f p ≡ true → (image : List ℕ) → byte_at (step q s k f image (region p)) place ≡ byte_at image place
      part_leaves p there can image = elim (part_cases f p there) [
        | inl bar ↦ step_off q s k f p image place (subst (λ o. IsOff f o place) bar.is (bar_under bar.n bar.inside (can_bar q s k f bar.n (ap (can_change q s k f) bar.is ∙ can))))
        | inr (inl window) ↦
            let d = window.kind in
            let there = window_there q s k f d (ap (can_change q s k f) window.is ∙ can) in
            let place_d = new_place q s k (region (Window d)) in
            subst (λ o. byte_at (step q s k f image (region o)) place ≡ byte_at image place) window.is
            (wish_leaves d there (k.wished (region (Window d))) (shown k (region (Window d)) place_d image) ∙ window_leaves d there place_d image)
        | inr (inr rom) ↦
            let at : rom_register (layout f.image) ≡ 0x38 = ap (λ t. cond t 0x38 0x30) bridge in
            let high = (window_bytes c place mine).1 in
            step_off q s k f p image place (subst (λ o. IsOff f o place) rom (inl (omega (arith, at, high))))
      ]

      absent_stays : byte_at (settled_function q s k f).image place ≡ byte_at f.image place
      absent_stays =
          let low = (window_bytes c place mine).0 in
          with_elsewhere 2 COMMAND (settled_command q s k f) place (settled_image q s k f) (inr (omega (arith, low)))
          ∙ fold_keeps (λ (x : List ℕ). byte_at x place ≡ byte_at f.image place) (step q s k f) (changing q s f)
          (λ r has image same.
          let p : IsChanging q s k f r = changing_is q s k f r has in
          subst (λ (t : FunctionPart). byte_at (step q s k f image t) place ≡ byte_at f.image place) p.is (part_leaves p.p p.there p.can image ∙ same)) f.image refl

    pub replaced_there : (c : WindowKind) → is_replaced q s k f c ≡ true → has_window c f.probe ≡ true
    replaced_there c replaced = elim (cases_Bool (has_window c f.probe)) [
      | inl there ↦ there
      | inr absent ↦
          let g = settled_function q s k f in
          let found : Passes (differs_at f g) (part_registers f (Window c)) = any_gives (differs_at f g) (part_registers f (Window c))
          (window_changes q s k c f (and_parts (is_bridge f && not (k.stays (window_part c f))) (changes_window q s k c f) replaced).1) in
          let r = found.x in
          let same : number_at g.image r.0 r.1 ≡ number_at f.image r.0 r.1 = same_number g.image f.image r.0 r.1 (λ j less. absent_stays c absent (r.0 + j) (register_bytes f c r found.listed j less)) in
          absurd (both_ways (number_at g.image r.0 r.1 == number_at f.image r.0 r.1) (not-true (number_at g.image r.0 r.1 == number_at f.image r.0 r.1) found.is) (eq-eqb (number_at g.image r.0 r.1) (number_at f.image r.0 r.1) same))
    ]

    -- ---- the numbers of a replaced window fit its registers

    shut_kept : IsImage f.image → (c : WindowKind) → IsLawful c (nibble_of c f) (bounds_at c f.image) (bounds_at c f.probe) → AreKept c (nibble_of c f) (shut_bounds c (nibble_of c f) (bounds_at c f.image))
    shut_kept is c lawful =
        let n = nibble_of c f in
        let b = bounds_at c f.image in
        let few = few_nibbles f bridge c in
        let low = are_low c n few in
        let uppers = upper_kept f is c n few lawful in
        record {
          base_nibble = low.nibble;
          limit_nibble = low.itself;
          base_small = low.base;
          limit_small = low.limit;
          base_upper_small = uppers.0;
          limit_upper_small = cond_both (nat_lt b.base_upper b.limit_upper) b.base_upper b.limit_upper (λ m. m ≤ n * upper_bits c) (λ less. uppers.0) (λ other. uppers.1);
        }

    pub shut_fits : IsImage f.image → (c : WindowKind) → is_replaced q s k f c ≡ true → PartsFit f c (shut_bounds c (nibble_of c f) (bounds_at c f.image))
    shut_fits is c replaced =
        let rule = decodable.windows c (eqb-true (layout f.image) 1 bridge) in
        let lawful = lawful_nibbles f bridge c rule (replaced_there c replaced) in
        kept_fit f bridge c (nibble_of c f) _ (few_nibbles f bridge c) lawful (shut_kept is c lawful)

  -- what the windows of a bridge show once it is closed
  pub closed_bounds_are : IsSystem s → IsInProfile q.roots s → Contains s f → is_bridge f ≡ true → (c : WindowKind)
      → bounds_at c (closed_function q s k f).image ≡ (if is_replaced q s k f c then shut_bounds c (nibble_of c f) (bounds_at c f.image) else bounds_at c f.image)
  closed_bounds_are system profile listed bridge =
      let is = (All-contains IsFunction s f system.each listed).image in
      bounds_by_fits is (shut_fits (All-contains IsDecodable s f (profile_decodes q.roots s profile) listed) bridge is)
