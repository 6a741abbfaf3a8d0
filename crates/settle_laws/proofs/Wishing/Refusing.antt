-- Wishes write no fixed function that isn't written without them.
use Rattle.std.proofs.Common.{◌≡◌, ◌&&◌, ◌||◌, ℕ, inl, inr, List, [], ◌∷◌, ◌++◌, Bool, true, false, cond, not, refl, sym, ◌∙◌, ap, subst, Option, None, Some}
use Rattle.std.specs.Bool.{◌==◌, if◌then◌else◌}
use Rattle.std.specs.List.{Contains, flat_map, fold, list_any}
use Rattle.std.proofs.lemmas.Bool.{and_from, and_parts, and_right, both_ways, cases_Bool, false_from_ne_true, ltb-true, not-true, not_from_true, eq-eqb, eqb-true, or_cases, or_left, or_right}
use Rattle.std.proofs.lemmas.List.Elements.{Contains-append_cases, Contains-append_left, Contains-append_right}
use Rattle.pci_spec.specs.Number.{number_at, has_bit}
use Rattle.pci_spec.specs.Registers.{COMMAND}
use Rattle.pci_spec.specs.Slot.{same_slot}
use Rattle.pci_spec.specs.Header.{layout, bar_count, bar_register, rom_register}
use Rattle.pci_spec.specs.Bar.{bar_at, has_bar, is_wide}
use Rattle.pci_spec.specs.Rom.{has_rom, rom_is_on}
use Rattle.pci_spec.specs.Decoded.{Range}
use Rattle.pci_spec.specs.Window.{WindowKind, has_window, is_closed}
use Rattle.pci_spec.specs.Machine.{Write}
use Rattle.pci_spec.specs.System.{System, Function, Space, Io, Memory, Part, Bar, Rom, Window, has_part, is_bridge, is_space_on, is_window, space_of}
use Rattle.pci_spec.proofs.Members.{in_nil, in_cons_cases, in_head, IsInPiece, in_flat_map_to, in_flat_map_from, IsMade, in_map_to, in_filter_to, in_tail}
use Rattle.plan_spec.specs.Plan.{bridges_above, is_open}
use Rattle.plan_spec.specs.Planning.PlanWrites.{register_write}
use Rattle.plan_spec.proofs.Planning.AboveBuses.{above_to}
use Rattle.plan_spec.proofs.Planning.Behind.{Passes, any_from, any_gives}
use Rattle.plan_spec.proofs.Planning.Kept.{images_of}
use Rattle.settle_spec.specs.Lists.{Request}
use Rattle.settle_spec.specs.Parts.{FunctionPart, header_parts, function_parts, parts_of, is_part, is_left, has_left, class_in, are_same_space}
use Rattle.settle_spec.specs.Stands.{is_fixed_part, part_space, window_part}
use Rattle.settle_spec.specs.Items.{Placed, taken_by}
use Rattle.settle_spec.specs.Kept.{Kept, no_wish, unwished}
use Rattle.settle_spec.specs.Keeping.Places.{new_place}
use Rattle.settle_spec.specs.Registers.{changing}
use Rattle.judge_spec.specs.Windows.{with_number}
use Rattle.settle_spec.specs.Keeping.Registers.{shown, with_wish, settled_image, settled_function}
use Rattle.settle_spec.specs.Writes.{differs_at, part_registers, is_cut_off_in, closing_registers, setting_registers, fixed_write}
use Rattle.settle_spec.specs.Keeping.Writes.{changes_at, changes_window, changes_above, moves, has_moving, is_shut_itself, is_shut, is_left_on, is_replaced, closed_function, change_to_closed, setting_of, closing_from, setting_from, opening_from, closings, settle_writes}
use Rattle.settle_spec.specs.Wishes.{range_then}
use Rattle.settle_laws.specs.KeptLaws.{WishesNothing}
use Rattle.settle_laws.specs.PlacesLaws.{place_range}
use Rattle.settle_laws.specs.Keeping.PlacesLaws.{CanSettle}
use Rattle.settle_laws.proofs.Climbs.{climbs}
use Rattle.settle_laws.proofs.ClosedMoves.{window_same}
use Rattle.settle_laws.proofs.ClosedSame.{none_flat, no_difference}
use Rattle.settle_laws.proofs.HeaderParts.{header_of, part_cases}
use Rattle.settle_laws.proofs.ItemForms.{header_has}
use Rattle.settle_laws.proofs.NonePasses.{none_by}
use Rattle.settle_laws.proofs.NothingSettled.{find_none}
use Rattle.settle_laws.proofs.OnlyOpened.{closing_piece}
use Rattle.settle_laws.proofs.ShownKept.{opens_by}
use Rattle.settle_laws.proofs.StayingRests.{bar_number}
use Rattle.settle_laws.proofs.Keeping.ChangedWindows.{no_window_changes, unchanged}
use Rattle.settle_laws.proofs.Keeping.Claimed.{ends_open}
use Rattle.settle_laws.proofs.Keeping.ClosedSame.{closed_same}
use Rattle.settle_laws.proofs.Keeping.Ends.{in_window, unwished_end}
use Rattle.settle_laws.proofs.Keeping.Few.{own_writes, own_write}
use Rattle.settle_laws.proofs.Keeping.Fits.{was}
use Rattle.settle_laws.proofs.Keeping.FixedRests.{fixed_rests, not_found}
use Rattle.settle_laws.proofs.Keeping.InWindows.{placed_range}
use Rattle.settle_laws.proofs.Keeping.PartPlaces.{part_placed}
use Rattle.settle_laws.proofs.Keeping.SettledMoved.{new_image}
use Rattle.settle_laws.proofs.Keeping.Shown.{IsChanging, can_change, changing_is, window_bridge}
use Rattle.settle_laws.proofs.Keeping.ShownParts.{bar_now, rom_now}
use Rattle.settle_laws.proofs.Keeping.StillShown.{on_is}
use Rattle.settle_laws.proofs.Keeping.Wishless.{new_same}
use Rattle.settle_laws.proofs.Wishing.Nothing.{wishes_set_none}
use Rattle.settle_laws.proofs.Wishing.Same.{any_alike}

-- steps that are alike on the members of a list
fold_alike : {A B : Type 0} (f g : A → B → A) (xs : List B) → ((x : B) → Contains xs x → (a : A) → f a x ≡ g a x) → (a : A) → fold f a xs ≡ fold g a xs
fold_alike f g [] same a = refl
fold_alike f g (x ∷ xs) same a = ap (λ b. fold f b xs) (same x (in_head x xs) a) ∙ fold_alike f g xs (λ y has. same y (in_tail x xs y has)) (g a x)

module _ (q : Request) (s : System) (k j : Kept) (can : CanSettle q s k) (more : CanSettle q s j) (alike : unwished j ≡ unwished k) (wishless : WishesNothing k) where
  -- without wishes it is the same
  without : unwished j ≡ k
  without = alike ∙ ap (λ w. record k { wished = w }) (sym wishless)

  stays_alike : (r : FunctionPart) → j.stays r ≡ k.stays r
  stays_alike r = ap (λ i. i.stays r) without

  new_alike : (r : FunctionPart) → new_place q s j r ≡ new_place q s k r
  new_alike r = sym (new_same q s j no_wish r) ∙ ap (λ i. new_place q s i r) without

  has_of_changing : (f : Function) (r : FunctionPart) (c : IsChanging q s j f r) → has_part f c.p ≡ true
  has_of_changing f r c = elim (part_cases f c.p c.there) [
    | inl bar ↦ header_has f c.p c.there (sym (ap is_window bar.is))
    | inr (inl window) ↦ subst (λ o. has_part f o ≡ true) window.is (window_bridge q s j f window.kind (ap (can_change q s j f) window.is ∙ c.can))
    | inr (inr rom) ↦ subst (λ o. has_part f o ≡ true) rom refl
  ]

  -- ---- what is fixed shows the same

  module _ (f : Function) (listed : Contains s f) (fixed : list_any (same_slot f.slot) q.fixed ≡ true) where
    no_wish_there : (p : Part) → has_part f p ≡ true → j.wished record { function = f; part = p } ≡ None
    no_wish_there (Bar n) there = more.sound.wished.plain record { function = f; part = Bar n } listed there refl
    no_wish_there Rom there = more.sound.wished.plain record { function = f; part = Rom } listed there refl
    no_wish_there (Window c) there = by (j.wished (window_part c f)) refl
      where
        by : (o : Option Range) → j.wished (window_part c f) ≡ o → j.wished (window_part c f) ≡ None
        by None e = e
        by (Some w) e = absurd (both_ways (is_fixed_part q (window_part c f)) (more.sound.wished.windows c f w listed there e).unfixed fixed)

    step_alike : (p : Part) → has_part f p ≡ true → (image : List ℕ)
        → with_wish record { function = f; part = p } (j.wished record { function = f; part = p }) (shown j record { function = f; part = p } (new_place q s j record { function = f; part = p }) image)
        ≡ with_wish record { function = f; part = p } (k.wished record { function = f; part = p }) (shown k record { function = f; part = p } (new_place q s k record { function = f; part = p }) image)
    step_alike p there image =
        let r : FunctionPart = record { function = f; part = p } in
        ap (λ o. with_wish r o (shown j r (new_place q s j r) image)) (no_wish_there p there)
        ∙ ap (λ o. shown j r o image) (new_alike r)
        ∙ ap (λ i. shown i r (new_place q s k r) image) without
        ∙ sym (ap (λ w. with_wish r (w r) (shown k r (new_place q s k r) image)) wishless)

    image_alike : settled_image q s j f ≡ settled_image q s k f
    image_alike = fold_alike (λ image r. with_wish r (j.wished r) (shown j r (new_place q s j r) image)) (λ image r. with_wish r (k.wished r) (shown k r (new_place q s k r) image)) (changing q s f)
        (λ r has image.
        let c : IsChanging q s j f r = changing_is q s j f r has in
        subst (λ (t : FunctionPart). with_wish t (j.wished t) (shown j t (new_place q s j t) image) ≡ with_wish t (k.wished t) (shown k t (new_place q s k t) image)) c.is (step_alike c.p (has_of_changing f r c) image)) f.image

    settled_same : settled_function q s j f ≡ settled_function q s k f
    settled_same =
        let image = image_alike in
        let now = wishes_set_none q s j k f alike in
        λ i. record { slot = f.slot; image = with_number 2 COMMAND (now i) (image i); probe = f.probe }

  -- ---- what moves for wishes moves without them

  module _ (f : Function) (p : Part) (listed : Contains s f) (there : has_part f p ≡ true) (part : is_part q s f p ≡ true) (plain : is_window p ≡ false) (goes : k.stays record { function = f; part = p } ≡ false) where
    abbrev r : FunctionPart
    r = record { function = f; part = p }

    placed : (x : Placed) × (new_place q s k r ≡ Some x)
    placed = part_placed q s k can f p listed (header_of f p there) part plain goes

    placed_with : new_place q s j r ≡ Some placed.0
    placed_with = new_alike r ∙ placed.1

    -- a window above ends somewhere
    record Ends (t : FunctionPart) : Type 0 where
      in_s : Contains s t.function
      has : has_part t.function t.part ≡ true
      at : Range
      ends : range_then q s k t ≡ Some at

    above_ends : (b : Function) → Contains (bridges_above s f.slot.bus) b → Ends (window_part (class_in q s f p) b)
    above_ends b above = climbs q s can.system can.nested Ends
        (λ t d in_t is leads.
        let over = in_window q s k can t.function d t.part in_t is.has leads is.at is.ends in
        record { in_s = leads.0; has = leads.1; at = over.w; ends = over.ends })
        r listed
        record { in_s = listed; has = there; at = taken_by placed.0.item placed.0.at; ends = unwished_end q s k r (ap (λ w. w r) wishless) ∙ placed_range q s k r goes ∙ ap place_range placed.1 } b above

    -- its registers show the same
    numbers_alike : (n : ℕ × ℕ) → Contains (part_registers f p) n → number_at (settled_function q s j f).image n.0 n.1 ≡ number_at (settled_function q s k f).image n.0 n.1
    numbers_alike = by p there part plain placed.0 placed.1 placed_with
      where
        one : (r n : ℕ × ℕ) → Contains (r ∷ []) n → number_at (settled_function q s j f).image r.0 r.1 ≡ number_at (settled_function q s k f).image r.0 r.1 → number_at (settled_function q s j f).image n.0 n.1 ≡ number_at (settled_function q s k f).image n.0 n.1
        one r n has same = elim (in_cons_cases r [] n has) [
          | inl is ↦ subst (λ (x : ℕ × ℕ). number_at (settled_function q s j f).image x.0 x.1 ≡ number_at (settled_function q s k f).image x.0 x.1) is same
          | inr none ↦ absurd (in_nil n none)
        ]

        by : (p : Part) → has_part f p ≡ true → is_part q s f p ≡ true → is_window p ≡ false → (x : Placed) → new_place q s k record { function = f; part = p } ≡ Some x → new_place q s j record { function = f; part = p } ≡ Some x
            → (n : ℕ × ℕ) → Contains (part_registers f p) n → number_at (settled_function q s j f).image n.0 n.1 ≡ number_at (settled_function q s k f).image n.0 n.1
        by (Bar m) there part plain x own its n has =
            let bar = (and_parts (has_bar f.probe m) (not (is_left q s f (Bar m))) part).0 in
            let inside = ltb-true m (bar_count (layout f.image)) there in
            let w : ℕ = if is_wide (bar_at f.probe m) then 8 else 4 in
            one (bar_register m, w) n has
            (bar_number f.probe (settled_function q s j f).image (settled_function q s k f).image m (is_wide (bar_at f.probe m)) refl
            (bar_now q s j more f listed m inside bar x its ∙ sym (bar_now q s k can f listed m inside bar x own)))
        by Rom there part plain x own its n has =
            let rom = (and_parts (has_rom f.image f.probe) (rom_is_on f.image) part).0 in
            one (rom_register (layout f.image), 4) n has (rom_now q s j more f listed rom x its ∙ sym (rom_now q s k can f listed rom x own))
        by (Window c) there part plain x own its n has = absurd (both_ways true plain refl)

    changes_alike : changes_at q s j f p ≡ changes_at q s k f p
    changes_alike = any_alike (differs_at f (settled_function q s j f)) (differs_at f (settled_function q s k f)) (part_registers f p)
        (λ n has. ap (λ m. not (m == number_at f.image n.0 n.1)) (numbers_alike n has))

    -- a window above that changes for wishes, and is closed, is opened without them
    opens : (b : Function) (c : WindowKind) → Contains s b → is_bridge b ≡ true → is_open b c ≡ false → Ends (window_part c b) → changes_at q s k b (Window c) ≡ true
    opens b c in_b bridge closed end = elim (cases_Bool (changes_at q s k b (Window c))) [
      | inl changes ↦ changes
      | inr rests ↦
          let g = settled_function q s k b in
          let opened = ends_open q s k can b c in_b bridge end.at end.ends in
          let parts = and_parts (is_bridge g && has_window c b.probe) (not (is_closed c g.image)) opened in
          let there = (and_parts (is_bridge g) (has_window c b.probe) parts.0).1 in
          let shows = window_same b g c (was q s k can b in_b).image (new_image q s k can b in_b) (unchanged q s k b (Window c) rests) in
          absurd (both_ways (is_open b c) closed
          (and_from (is_bridge b && has_window c b.probe) (not (is_closed c b.image)) (and_from (is_bridge b) (has_window c b.probe) bridge there) (sym (ap (λ v. not (not (opens_by c v))) shows) ∙ parts.1)))
    ]

    above_alike : changes_above q s j (class_in q s f p) f.slot.bus ≡ true → changes_above q s k (class_in q s f p) f.slot.bus ≡ true
    above_alike changes =
        let c = class_in q s f p in
        let found : Passes (changes_window q s j c) (bridges_above s f.slot.bus) = any_gives (changes_window q s j c) (bridges_above s f.slot.bus) changes in
        let b = found.x in
        let at = above_to s f.slot.bus b found.listed in
        let parts = and_parts (changes_at q s j b (Window c)) (not (is_open b c) || changes_at q s (unwished j) b (Window c)) found.is in
        let own : changes_at q s k b (Window c) ≡ true = elim (or_cases (not (is_open b c)) (changes_at q s (unwished j) b (Window c)) parts.1) [
          | inl closed ↦ opens b c at.listed at.bridge (not-true (is_open b c) closed) (above_ends b found.listed)
          | inr changes ↦ ap (λ i. changes_at q s i b (Window c)) (sym without) ∙ changes
        ] in
        any_from (changes_window q s k c) (bridges_above s f.slot.bus) b found.listed
        (and_from (changes_at q s k b (Window c)) (not (is_open b c) || changes_at q s (unwished k) b (Window c)) own
        (or_right (not (is_open b c)) (changes_at q s (unwished k) b (Window c)) (ap (λ i. changes_at q s i b (Window c)) (sym alike ∙ without) ∙ own)))

    moves_alike : moves q s j r ≡ true → moves q s k r ≡ true
    moves_alike is =
        let parts = and_parts (not (j.stays r)) (changes_at q s j f p || changes_above q s j (class_in q s f p) f.slot.bus) is in
        and_from (not (k.stays r)) (changes_at q s k f p || changes_above q s k (class_in q s f p) f.slot.bus) (ap not goes)
        (elim (or_cases (changes_at q s j f p) (changes_above q s j (class_in q s f p) f.slot.bus) parts.1) [
          | inl own ↦ or_left (changes_at q s k f p) (changes_above q s k (class_in q s f p) f.slot.bus) (sym changes_alike ∙ own)
          | inr above ↦ or_right (changes_at q s k f p) (changes_above q s k (class_in q s f p) f.slot.bus) (above_alike above)
        ])

  -- ---- so what is shut for wishes is shut without them

  moving_alike : (space : Space) (f : Function) → Contains s f → has_moving q s j space f ≡ true → has_moving q s k space f ≡ true
  moving_alike space f listed is =
      let test = λ (i : Kept) (r : FunctionPart). are_same_space space (part_space r) && not (is_window r.part) && moves q s i r in
      let found : Passes (test j) (function_parts q s f) = any_gives (test j) (function_parts q s f) is in
      any_from (test k) (function_parts q s f) found.x found.listed (by found.x found.listed found.is)
    where
      by : (r : FunctionPart) → Contains (function_parts q s f) r → (are_same_space space (part_space r) && not (is_window r.part) && moves q s j r) ≡ true → (are_same_space space (part_space r) && not (is_window r.part) && moves q s k r) ≡ true
      by r has is =
          let made : IsMade (λ p. record { function = f; part = p }) (parts_of q s f) r = in_map_to (λ p. record { function = f; part = p }) (parts_of q s f) r has in
          subst (λ (t : FunctionPart). (are_same_space space (part_space t) && not (is_window t.part) && moves q s k t) ≡ true) made.is
          (own made.from (in_filter_to (is_part q s f) (header_parts f) made.from made.has) (subst (λ (t : FunctionPart). (are_same_space space (part_space t) && not (is_window t.part) && moves q s j t) ≡ true) (sym made.is) is))
        where
          own : (p : Part) → Contains (header_parts f) p × (is_part q s f p ≡ true) → (are_same_space space (space_of f p) && not (is_window p) && moves q s j record { function = f; part = p }) ≡ true
              → (are_same_space space (space_of f p) && not (is_window p) && moves q s k record { function = f; part = p }) ≡ true
          own p (there, part) is =
              let t : FunctionPart = record { function = f; part = p } in
              let parts = and_parts (are_same_space space (space_of f p) && not (is_window p)) (moves q s j t) is in
              let plain = not-true (is_window p) (and_parts (are_same_space space (space_of f p)) (not (is_window p)) parts.0).1 in
              let goes = sym (stays_alike t) ∙ not-true (j.stays t) (and_parts (not (j.stays t)) (changes_at q s j f p || changes_above q s j (class_in q s f p) f.slot.bus) parts.1).0 in
              and_from (are_same_space space (space_of f p) && not (is_window p)) (moves q s k t) parts.0
              (moves_alike f p listed (header_has f p there plain) part plain goes parts.1)

  itself_alike : (space : Space) (f : Function) → Contains s f → is_shut_itself q s j space f ≡ true → is_shut_itself q s k space f ≡ true
  itself_alike space f listed is = elim (or_cases (has_moving q s j space f) (is_cut_off_in q s f space) is) [
    | inl moving ↦ or_left (has_moving q s k space f) (is_cut_off_in q s f space) (moving_alike space f listed moving)
    | inr cut ↦ or_right (has_moving q s k space f) (is_cut_off_in q s f space) cut
  ]

  pub shut_alike : (space : Space) (f : Function) → Contains s f → is_shut q s j space f ≡ true → is_shut q s k space f ≡ true
  shut_alike space f listed is = elim (or_cases (is_shut_itself q s j space f) (list_any (is_shut_itself q s j space) (bridges_above s f.slot.bus)) is) [
    | inl own ↦ or_left (is_shut_itself q s k space f) (list_any (is_shut_itself q s k space) (bridges_above s f.slot.bus)) (itself_alike space f listed own)
    | inr above ↦
        let found : Passes (is_shut_itself q s j space) (bridges_above s f.slot.bus) = any_gives (is_shut_itself q s j space) (bridges_above s f.slot.bus) above in
        or_right (is_shut_itself q s k space f) (list_any (is_shut_itself q s k space) (bridges_above s f.slot.bus))
        (any_from (is_shut_itself q s k space) (bridges_above s f.slot.bus) found.x found.listed (itself_alike space found.x (above_to s f.slot.bus found.x found.listed).listed found.is))
  ]

  -- ---- what is fixed isn't written

  module _ (unwritten : fixed_write q (settle_writes q s k) ≡ None) where
    module _ (f : Function) (listed : Contains s f) (fixed : list_any (same_slot f.slot) q.fixed ≡ true) where
      rests : settled_function q s j f ≡ f
      rests = settled_same f listed fixed ∙ fixed_rests q s k can unwritten f listed fixed

      changes_nowhere : (p : Part) → changes_at q s j f p ≡ false
      changes_nowhere p = none_by (differs_at f (settled_function q s j f)) (part_registers f p)
          (λ r has. not_from_true (number_at (settled_function q s j f).image r.0 r.1 == number_at f.image r.0 r.1)
          (eq-eqb (number_at (settled_function q s j f).image r.0 r.1) (number_at f.image r.0 r.1) (ap (λ (g : Function). number_at g.image r.0 r.1) rests)))

      unreplaced : (c : WindowKind) → is_replaced q s j f c ≡ false
      unreplaced c = and_right (is_bridge f && not (j.stays (window_part c f))) (changes_window q s j c f) (no_window_changes q s j c f (changes_nowhere (Window c)))

      -- without wishes its Command is left as it was
      command_left : number_at (closed_function q s k f).image 4 2 ≡ number_at f.image 4 2
      command_left =
          let old = number_at f.image 4 2 in
          let new = number_at (closed_function q s k f).image 4 2 in
          elim (cases_Bool (new == old)) [
            | inl same ↦ eqb-true new old same
            | inr differs ↦
                let w : Write = record { slot = f.slot; offset = 4; width = 2; value = new } in
                let first : Contains (register_write (change_to_closed q s k f) (COMMAND, 2)) w = subst (λ t. Contains (cond t [] (w ∷ [])) w) (sym differs) (in_head w []) in
                let own : Contains (closing_from q s k f) w = in_flat_map_from (register_write (change_to_closed q s k f)) (closing_registers f) (COMMAND, 2) w (in_head (COMMAND, 2) _) first in
                let all : Contains (settle_writes q s k) w = Contains-append_left (closings q s k s) (flat_map (setting_from q s k) s ++ flat_map (opening_from q s k) s) w (closing_in s listed w own) in
                absurd (both_ways (list_any (same_slot f.slot) q.fixed) (not_found (λ (x : Write). list_any (same_slot x.slot) q.fixed) (settle_writes q s k) unwritten w all) fixed)
          ]
        where
          closing_in : (t : System) → Contains t f → (w : Write) → Contains (closing_from q s k f) w → Contains (closings q s k t) w
          closing_in [] has w own = absurd (in_nil f has)
          closing_in (g ∷ t) has w own = elim (in_cons_cases g t f has) [
            | inl here ↦ Contains-append_right (closings q s k t) (closing_from q s k g) w (subst (λ x. Contains (closing_from q s k x) w) (sym here) own)
            | inr later ↦ Contains-append_left (closings q s k t) (closing_from q s k g) w (closing_in t later w own)
          ]

      left_without : (space : Space) → is_left_on q s k space f ≡ is_space_on f space
      left_without space = sym (on_is q s k can f space listed) ∙ on_by space
        where
          on_by : (space : Space) → is_space_on (closed_function q s k f) space ≡ is_space_on f space
          on_by Io = ap (λ n. has_bit n 0) command_left
          on_by Memory = ap (λ n. has_bit n 1) command_left

      left_as_on : (space : Space) → is_left_on q s j space f ≡ is_space_on f space
      left_as_on space = elim (cases_Bool (is_space_on f space)) [
        | inr off ↦ ap (λ t. not (is_shut q s j space f) && (not (are_same_space space Io && has_left q s f) && t)) off ∙ none (not (is_shut q s j space f)) (not (are_same_space space Io && has_left q s f)) ∙ sym off
        | inl on ↦
            let parts = and_parts (not (is_shut q s k space f)) (not (are_same_space space Io && has_left q s f) && is_space_on f space) (left_without space ∙ on) in
            let unshut = false_from_ne_true (is_shut q s j space f) (λ shut. both_ways (is_shut q s k space f) (not-true (is_shut q s k space f) parts.0) (shut_alike space f listed shut)) in
            and_from (not (is_shut q s j space f)) (not (are_same_space space Io && has_left q s f) && is_space_on f space) (ap not unshut) parts.1 ∙ sym on
      ]
        where
          none : (x y : Bool) → (x && (y && false)) ≡ false
          none true true = refl
          none true false = refl
          none false y = refl

      closed_is : closed_function q s j f ≡ f
      closed_is = closed_same q s j f (images_of s can.system f listed) unreplaced left_as_on

      no_closing : closing_from q s j f ≡ []
      no_closing = none_flat (register_write (change_to_closed q s j f)) (closing_registers f) (λ r has. no_difference (change_to_closed q s j f) r (ap (λ (g : Function). number_at g.image r.0 r.1) closed_is))

      no_change : settled_function q s j f ≡ closed_function q s j f
      no_change = rests ∙ sym closed_is

      no_setting : setting_from q s j f ≡ []
      no_setting = none_flat (register_write (setting_of q s j f)) (setting_registers (setting_of q s j f)) (λ r has. no_difference (setting_of q s j f) r (ap (λ (g : Function). number_at g.image r.0 r.1) no_change))

      no_opening : opening_from q s j f ≡ []
      no_opening = no_difference (setting_of q s j f) (COMMAND, 2) (ap (λ (g : Function). number_at g.image 4 2) no_change)

    -- a write is of a function of the system, and none of a fixed one
    of_fixed : (f : Function) (w : Write) → w.slot ≡ f.slot → list_any (same_slot w.slot) q.fixed ≡ true → list_any (same_slot f.slot) q.fixed ≡ true
    of_fixed f w same fixed = subst (λ slot. list_any (same_slot slot) q.fixed ≡ true) same fixed

    none_fixed : (w : Write) → Contains (settle_writes q s j) w → list_any (same_slot w.slot) q.fixed ≡ true → ⊥
    none_fixed w has fixed = elim (Contains-append_cases (closings q s j s) (flat_map (setting_from q s j) s ++ flat_map (opening_from q s j) s) w has) [
      | inl closing ↦
          let piece : IsInPiece (closing_from q s j) s w = closing_piece q s j s w closing in
          let held = of_fixed piece.of w (own_writes q s j can.system (change_to_closed q s j piece.of) (closing_registers piece.of) w piece.piece) fixed in
          in_nil w (subst (λ ws. Contains ws w) (no_closing piece.of piece.has held) piece.piece)
      | inr later ↦ elim (Contains-append_cases (flat_map (setting_from q s j) s) (flat_map (opening_from q s j) s) w later) [
        | inl setting ↦
            let piece : IsInPiece (setting_from q s j) s w = in_flat_map_to (setting_from q s j) s w setting in
            let held = of_fixed piece.of w (own_writes q s j can.system (setting_of q s j piece.of) (setting_registers (setting_of q s j piece.of)) w piece.piece) fixed in
            in_nil w (subst (λ ws. Contains ws w) (no_setting piece.of piece.has held) piece.piece)
        | inr opening ↦
            let piece : IsInPiece (opening_from q s j) s w = in_flat_map_to (opening_from q s j) s w opening in
            let held = of_fixed piece.of w (own_write q s j can.system (setting_of q s j piece.of) (COMMAND, 2) w piece.piece) fixed in
            in_nil w (subst (λ ws. Contains ws w) (no_opening piece.of piece.has held) piece.piece)
      ]
    ]

    pub wishes_write_none : fixed_write q (settle_writes q s j) ≡ None
    wishes_write_none = find_none (λ (w : Write). list_any (same_slot w.slot) q.fixed) (settle_writes q s j)
        (λ w has. false_from_ne_true (list_any (same_slot w.slot) q.fixed) (λ fixed. none_fixed w has fixed))
