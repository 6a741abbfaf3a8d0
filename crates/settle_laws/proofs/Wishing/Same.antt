-- Two requests that ask for other new windows, beside what stays alike: the same parts get places, and the same is enabled.
use Rattle.std.proofs.Common.{◌≡◌, ◌&&◌, ◌||◌, ℕ, zero, suc, ◌+◌, inl, inr, List, [], ◌∷◌, Bool, true, false, not, refl, sym, ◌∙◌, ap, subst, Option, None, Some}
use Rattle.std.specs.Bool.{◌==◌, if◌then◌else◌}
use Rattle.std.specs.List.{Contains, list_any}
use Rattle.std.specs.Option.{is_some}
use Rattle.std.proofs.lemmas.Bool.{both_ways, cases_Bool, false_from_ne_true}
use Rattle.pci_spec.specs.Header.{command}
use Rattle.pci_spec.specs.Machine.{without_low}
use Rattle.pci_spec.specs.System.{System, Function, Space, Io, Memory, Part, has_part, is_bridge, is_space_on, is_window}
use Rattle.pci_spec.specs.Bus.{secondary}
use Rattle.pci_spec.proofs.Members.{in_head, in_tail}
use Rattle.settle_spec.specs.Lists.{Request}
use Rattle.settle_spec.specs.Parts.{FunctionPart, system_parts, is_part, has_left, class_in, are_same_space}
use Rattle.settle_spec.specs.Stands.{part_space}
use Rattle.settle_spec.specs.Items.{Placed}
use Rattle.settle_spec.specs.Kept.{Kept}
use Rattle.settle_spec.specs.Keeping.Places.{new_place}
use Rattle.settle_spec.specs.Registers.{changing, has_own}
use Rattle.settle_spec.specs.Keeping.Registers.{got_place, is_live_within, is_enabled_in, settled_command}
use Rattle.settle_spec.specs.Sparing.{without_slots}
use Rattle.settle_laws.specs.Keeping.PlacesLaws.{CanSettle}
use Rattle.settle_laws.proofs.HeaderParts.{header_of, part_cases}
use Rattle.settle_laws.proofs.ItemForms.{IsPlaceable, IsOwnPart, IsNewWindow, header_has}
use Rattle.settle_laws.proofs.Kept.{in_regions}
use Rattle.settle_laws.proofs.Keeping.Kept.{stays_part}
use Rattle.settle_laws.proofs.Keeping.PartPlaces.{new_place_is, part_placed, window_placed}
use Rattle.settle_laws.proofs.Keeping.Shown.{IsChanging, can_change, changing_is, window_bridge}
use Rattle.settle_laws.proofs.Told.Slots.{own_alike}

-- tests that are alike on the members of a list
pub any_alike : {X : Type 0} (f g : X → Bool) (xs : List X) → ((x : X) → Contains xs x → f x ≡ g x) → list_any f xs ≡ list_any g xs
any_alike f g [] same = refl
any_alike f g (x ∷ xs) same = (let first = same x (in_head x xs) in let rest = any_alike f g xs (λ y has. same y (in_tail x xs y has)) in λ i. first i || rest i)

-- what gets a place by one request gets one by the other
module _ (q : Request) (s : System) (j k : Kept) (can : CanSettle q s j) (free : CanSettle (without_slots q) s k) (same : (f : Function) (p : Part) → Contains s f → has_part f p ≡ true → j.stays record { function = f; part = p } ≡ k.stays record { function = f; part = p }) where
  abbrev w : Request
  w = without_slots q

  none_by : (f : Function) (p : Part) (x : Placed) → new_place w s k record { function = f; part = p } ≡ None → new_place w s k record { function = f; part = p } ≡ Some x → ⊥
  none_by f p x none placed = (let is : None ≡ Some x = sym none ∙ placed in let no : ⊥ = cc in no)

  none_with : (f : Function) (p : Part) (x : Placed) → new_place q s j record { function = f; part = p } ≡ None → new_place q s j record { function = f; part = p } ≡ Some x → ⊥
  none_with f p x none placed = (let is : None ≡ Some x = sym none ∙ placed in let no : ⊥ = cc in no)

  placed_without : (f : Function) (p : Part) → Contains s f → has_part f p ≡ true → k.stays record { function = f; part = p } ≡ false → IsPlaceable q s (class_in q s f p) f p → new_place w s k record { function = f; part = p } ≡ None → ⊥
  placed_without f p listed there moves (IsOwnPart plain part) none = (let x = part_placed w s k free f p listed (header_of f p there) part plain moves in none_by f p x.0 none x.1)
  placed_without f p listed there moves (IsNewWindow window bridge has) none =
      let c = class_in q s f p in
      let x = window_placed w s k free f c listed bridge has (ap (λ o. k.stays record { function = f; part = o }) (sym window) ∙ moves) in
      none_by f p x.0 none (ap (λ o. new_place w s k record { function = f; part = o }) window ∙ x.1)

  placed_with : (f : Function) (p : Part) → Contains s f → has_part f p ≡ true → j.stays record { function = f; part = p } ≡ false → IsPlaceable w s (class_in w s f p) f p → new_place q s j record { function = f; part = p } ≡ None → ⊥
  placed_with f p listed there moves (IsOwnPart plain part) none = (let x = part_placed q s j can f p listed (header_of f p there) part plain moves in none_with f p x.0 none x.1)
  placed_with f p listed there moves (IsNewWindow window bridge has) none =
      let c = class_in q s f p in
      let x = window_placed q s j can f c listed bridge has (ap (λ o. j.stays record { function = f; part = o }) (sym window) ∙ moves) in
      none_with f p x.0 none (ap (λ o. new_place q s j record { function = f; part = o }) window ∙ x.1)

  placed_alike : (f : Function) (p : Part) → Contains s f → has_part f p ≡ true → is_some (new_place q s j record { function = f; part = p }) ≡ is_some (new_place w s k record { function = f; part = p })
  placed_alike f p listed there = by (new_place q s j r) (new_place w s k r) refl refl
    where
      r : FunctionPart
      r = record { function = f; part = p }

      by : (o n : Option Placed) → new_place q s j r ≡ o → new_place w s k r ≡ n → is_some (new_place q s j r) ≡ is_some (new_place w s k r)
      by None None e d = ap is_some e ∙ sym (ap is_some d)
      by (Some x) (Some y) e d = ap is_some e ∙ sym (ap is_some d)
      by (Some x) None e d =
          let is = new_place_is q s j can f p listed there x e in
          absurd (placed_without f p listed there (sym (same f p listed there) ∙ is.moves) is.placeable d)
      by None (Some y) e d =
          let is = new_place_is w s k free f p listed there y d in
          absurd (placed_with f p listed there (same f p listed there ∙ is.moves) is.placeable e)

  -- ---- so the same is enabled

  changing_has : (f : Function) (r : FunctionPart) (c : IsChanging q s j f r) → has_part f c.p ≡ true
  changing_has f r c = elim (part_cases f c.p c.there) [
    | inl bar ↦ header_has f c.p c.there (sym (ap is_window bar.is))
    | inr (inl window) ↦ subst (λ o. has_part f o ≡ true) window.is (window_bridge q s j f window.kind (ap (can_change q s j f) window.is ∙ c.can))
    | inr (inr rom) ↦ subst (λ o. has_part f o ≡ true) rom refl
  ]

  got_alike : (space : Space) (f : Function) → Contains s f → got_place q s j space f ≡ got_place w s k space f
  got_alike space f listed =
      any_alike (λ r. are_same_space space (part_space r) && is_some (new_place q s j r)) (λ r. are_same_space space (part_space r) && is_some (new_place w s k r)) (changing q s f) (λ r has.
      let c : IsChanging q s j f r = changing_is q s j f r has in
      ap (λ t. are_same_space space (part_space r) && t)
      (subst (λ (t : FunctionPart). is_some (new_place q s j t) ≡ is_some (new_place w s k t)) c.is (placed_alike f c.p listed (changing_has f r c))))

  live_alike : (space : Space) (depth : ℕ) (f : Function) → Contains s f → is_live_within q s j space depth f ≡ is_live_within w s k space depth f
  unfolding is_live_within
  live_alike space zero f listed = refl
  live_alike space (suc depth) f listed =
      let got = got_alike space f listed in
      let behind = any_alike (λ g. g.slot.bus == secondary f && is_live_within q s j space depth g) (λ g. g.slot.bus == secondary f && is_live_within w s k space depth g) s
      (λ g in_g. ap (λ t. g.slot.bus == secondary f && t) (live_alike space depth g in_g)) in
      let own : has_own q s space f ≡ has_own w s space f = sym (own_alike q [] s space f) in
      λ i. (not (are_same_space space Io && has_left q s f)
      && (is_space_on f space || got i || (is_bridge f && behind i)))
      && (own i || (is_bridge f && behind i))

  enabled_alike : (space : Space) (f : Function) → Contains s f → is_enabled_in q s j space f ≡ is_enabled_in w s k space f
  enabled_alike space f listed =
      let got = got_alike space f listed in
      let behind = any_alike (λ g. g.slot.bus == secondary f && is_live_within q s j space 256 g) (λ g. g.slot.bus == secondary f && is_live_within w s k space 256 g) s
      (λ g in_g. ap (λ t. g.slot.bus == secondary f && t) (live_alike space 256 g in_g)) in
      λ i. not (are_same_space space Io && has_left q s f) && (is_space_on f space || got i || (is_bridge f && behind i))

  pub command_alike : (f : Function) → Contains s f → settled_command q s j f ≡ settled_command w s k f
  command_alike f listed =
      let io = enabled_alike Io f listed in
      let memory = enabled_alike Memory f listed in
      λ i. without_low 4 (command f.image) + (if io i then 1 else 0) + (if memory i then 2 else 0)

-- what stays alike among the parts of a system does so wherever a function has the part
module _ (q : Request) (s : System) (j k : Kept) (can : CanSettle q s j) (free : CanSettle (without_slots q) s k) (same : (r : FunctionPart) → Contains (system_parts q s) r → j.stays r ≡ k.stays r) where
  pub stays_alike : (f : Function) (p : Part) → Contains s f → has_part f p ≡ true → j.stays record { function = f; part = p } ≡ k.stays record { function = f; part = p }
  stays_alike f p listed there =
      let r : FunctionPart = record { function = f; part = p } in
      elim (cases_Bool (is_part q s f p)) [
        | inl part ↦ same r (in_regions q s f p listed (header_of f p there) part)
        | inr none ↦
            false_from_ne_true (j.stays r) (λ keeps. both_ways (is_part q s f p) none (stays_part q s j can r listed keeps))
            ∙ sym (false_from_ne_true (k.stays r) (λ keeps. both_ways (is_part q s f p) none (stays_part (without_slots q) s k free r listed keeps)))
      ]
