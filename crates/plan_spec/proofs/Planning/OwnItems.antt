-- The items of a class that a function has on its own bus: BARs, the window, the ROM.
use Rattle.std.proofs.Common.{◌≡◌, ℕ, ◌<◌, inl, inr, List, [], ◌∷◌, ◌++◌, refl, Bool, true, false, cond, ◌&&◌, arith, sym, ◌∙◌, ap, subst, map}
use Rattle.std.specs.Bool.{if◌then◌else◌}
use Rattle.std.specs.List.{Contains, filter, range_with_len}
use Rattle.std.proofs.lemmas.Bool.{and_parts, and_from}
use Rattle.std.proofs.lemmas.List.Elements.{Contains-append_cases, Contains-append_left, Contains-append_right}
use Rattle.pci_spec.specs.Header.{layout, bar_count}
use Rattle.pci_spec.specs.Window.{WindowKind}
use Rattle.pci_spec.specs.System.{System, Function, Part, Bar, Rom, is_bridge, is_implemented}
use Rattle.plan_spec.specs.Plan.{Pools, class_of, same_class, has_behind}
use Rattle.plan_spec.specs.Place.{Item, part_item, window_item, items_among, own_items}
use Rattle.plan_spec.specs.Planning.Sorted.{all_items}
use Rattle.pci_spec.proofs.Members.{IsMade, IsInPiece, in_nil, in_head, in_cons_cases, in_map_to, in_map_from, in_filter_to, in_filter_from, in_range_to, in_range_from, in_flat_map_to}

pub in_cond : {X : Type 0} (b : Bool) (xs : List X) (y : X) → Contains (cond b xs []) y → (b ≡ true) × Contains xs y
in_cond true xs y has = (refl, has)
in_cond false xs y has = absurd (in_nil y has)

pub in_cond_from : {X : Type 0} (b : Bool) (xs : List X) (y : X) → b ≡ true → Contains xs y → Contains (cond b xs []) y
in_cond_from b xs y is listed = subst (λ t. Contains (cond t xs []) y) (sym is) listed

abbrev pub window_items : System → Pools → WindowKind → Function → List Item
window_items s pools c f = if is_bridge f && has_behind s pools c f then window_item s pools c f ∷ [] else []

abbrev pub bar_parts : Function → List Part
bar_parts f = map Bar (range_with_len 0 (bar_count (layout f.image)))

-- an item of one of some parts
pub record IsAmong (s : System) (pools : Pools) (c : WindowKind) (f : Function) (parts : List Part) (i : Item) : Type 0 where
  pub part : Part
  pub listed : Contains parts part
  pub there : is_implemented f part ≡ true
  pub same : same_class c (class_of s pools f part) ≡ true
  pub is : part_item f part ≡ i

pub record IsBarItem (s : System) (pools : Pools) (c : WindowKind) (f : Function) (i : Item) : Type 0 where
  pub n : ℕ
  pub within : n < bar_count (layout f.image)
  pub there : is_implemented f (Bar n) ≡ true
  pub same : same_class c (class_of s pools f (Bar n)) ≡ true
  pub is : part_item f (Bar n) ≡ i

pub record IsRomItem (s : System) (pools : Pools) (c : WindowKind) (f : Function) (i : Item) : Type 0 where
  pub there : is_implemented f Rom ≡ true
  pub same : same_class c (class_of s pools f Rom) ≡ true
  pub is : part_item f Rom ≡ i

pub record IsWindowItem (s : System) (pools : Pools) (c : WindowKind) (f : Function) (i : Item) : Type 0 where
  pub bridge : is_bridge f ≡ true
  pub behind : has_behind s pools c f ≡ true
  pub is : window_item s pools c f ≡ i

pub data OwnCases (s : System) (pools : Pools) (c : WindowKind) (f : Function) (i : Item) : Type 0 where
  of_bar : IsBarItem s pools c f i → OwnCases s pools c f i
  of_window : IsWindowItem s pools c f i → OwnCases s pools c f i
  of_rom : IsRomItem s pools c f i → OwnCases s pools c f i

module _ (s : System) (pools : Pools) (c : WindowKind) (f : Function) where
  abbrev in_class : Part → Bool
  in_class part = same_class c (class_of s pools f part)

  among : (parts : List Part) (i : Item) → Contains (items_among s pools c f parts) i → IsAmong s pools c f parts i
  among parts i listed =
      let made : IsMade (part_item f) (filter in_class (filter (is_implemented f) parts)) i = in_map_to (part_item f) (filter in_class (filter (is_implemented f) parts)) i listed in
      let kept = in_filter_to in_class (filter (is_implemented f) parts) made.from made.has in
      let inner = in_filter_to (is_implemented f) parts made.from kept.0 in
      record { part = made.from; listed = inner.0; there = inner.1; same = kept.1; is = made.is }

  among_from : (parts : List Part) (p : Part) → Contains parts p → is_implemented f p ≡ true → same_class c (class_of s pools f p) ≡ true → Contains (items_among s pools c f parts) (part_item f p)
  among_from parts p listed there same =
      in_map_from (part_item f) (filter in_class (filter (is_implemented f) parts)) p
      (in_filter_from in_class (filter (is_implemented f) parts) p (in_filter_from (is_implemented f) parts p listed there) same)

  pub bar_among : (i : Item) → Contains (items_among s pools c f (bar_parts f)) i → IsBarItem s pools c f i
  bar_among i listed =
      let is = among (bar_parts f) i listed in
      let made : IsMade Bar (range_with_len 0 (bar_count (layout f.image))) is.part = in_map_to Bar (range_with_len 0 (bar_count (layout f.image))) is.part is.listed in
      let range = in_range_to 0 (bar_count (layout f.image)) made.from made.has in
      let less = range.1 in
      record { n = made.from; within = omega (arith, less); there = ap (is_implemented f) made.is ∙ is.there; same = ap in_class made.is ∙ is.same; is = ap (part_item f) made.is ∙ is.is }

  pub rom_among : (i : Item) → Contains (items_among s pools c f (Rom ∷ [])) i → IsRomItem s pools c f i
  rom_among i listed =
      let is = among (Rom ∷ []) i listed in
      elim (in_cons_cases Rom [] is.part is.listed) [
        | inl rom ↦ record { there = ap (is_implemented f) rom ∙ is.there; same = ap in_class rom ∙ is.same; is = ap (part_item f) rom ∙ is.is }
        | inr none ↦ absurd (in_nil is.part none)
      ]

  pub window_among : (i : Item) → Contains (window_items s pools c f) i → IsWindowItem s pools c f i
  window_among i listed =
      let has = in_cond (is_bridge f && has_behind s pools c f) (window_item s pools c f ∷ []) i listed in
      let parts = and_parts (is_bridge f) (has_behind s pools c f) has.0 in
      elim (in_cons_cases (window_item s pools c f) [] i has.1) [
        | inl is ↦ record { bridge = parts.0; behind = parts.1; is = is }
        | inr none ↦ absurd (in_nil i none)
      ]

  pub own_cases : (i : Item) → Contains (own_items s pools c f) i → OwnCases s pools c f i
  own_cases i listed =
      elim (Contains-append_cases (items_among s pools c f (bar_parts f)) (window_items s pools c f ++ items_among s pools c f (Rom ∷ [])) i listed) [
        | inl bar ↦ of_bar (bar_among i bar)
        | inr more ↦ elim (Contains-append_cases (window_items s pools c f) (items_among s pools c f (Rom ∷ [])) i more) [
          | inl window ↦ of_window (window_among i window)
          | inr rom ↦ of_rom (rom_among i rom)
        ]
      ]

  pub own_function : (i : Item) → Contains (own_items s pools c f) i → i.function ≡ f
  own_function i listed = elim (own_cases i listed) [
    | of_bar bar ↦ sym (ap (λ (j : Item). j.function) bar.is)
    | of_window window ↦ sym (ap (λ (j : Item). j.function) window.is)
    | of_rom rom ↦ sym (ap (λ (j : Item). j.function) rom.is)
  ]

  -- ---- and back

  abbrev after_bars : List Item
  after_bars = window_items s pools c f ++ items_among s pools c f (Rom ∷ [])

  pub bar_owned : (n : ℕ) → n < bar_count (layout f.image) → is_implemented f (Bar n) ≡ true → same_class c (class_of s pools f (Bar n)) ≡ true → Contains (own_items s pools c f) (part_item f (Bar n))
  bar_owned n within there same =
      Contains-append_left (items_among s pools c f (bar_parts f)) after_bars (part_item f (Bar n))
      (among_from (bar_parts f) (Bar n) (in_map_from Bar (range_with_len 0 (bar_count (layout f.image))) n (in_range_from 0 (bar_count (layout f.image)) n (omega arith) (omega (arith, within)))) there same)

  pub rom_owned : is_implemented f Rom ≡ true → same_class c (class_of s pools f Rom) ≡ true → Contains (own_items s pools c f) (part_item f Rom)
  rom_owned there same =
      Contains-append_right (items_among s pools c f (bar_parts f)) after_bars (part_item f Rom)
      (Contains-append_right (window_items s pools c f) (items_among s pools c f (Rom ∷ [])) (part_item f Rom) (among_from (Rom ∷ []) Rom (in_head Rom []) there same))

  pub window_owned : is_bridge f ≡ true → has_behind s pools c f ≡ true → Contains (own_items s pools c f) (window_item s pools c f)
  window_owned bridge behind =
      Contains-append_right (items_among s pools c f (bar_parts f)) after_bars (window_item s pools c f)
      (Contains-append_left (window_items s pools c f) (items_among s pools c f (Rom ∷ [])) (window_item s pools c f)
      (in_cond_from (is_bridge f && has_behind s pools c f) (window_item s pools c f ∷ []) (window_item s pools c f)
      (and_from (is_bridge f) (has_behind s pools c f) bridge behind) (in_head (window_item s pools c f) [])))

pub item_function : (s : System) (pools : Pools) (c : WindowKind) (i : Item) → Contains (all_items s pools c) i → Contains s i.function
item_function s pools c i listed =
    let piece : IsInPiece (own_items s pools c) s i = in_flat_map_to (own_items s pools c) s i listed in
    subst (Contains s) (sym (own_function s pools c piece.of i piece.piece)) piece.has
