-- Two systems whose functions have the same slots, probes, kinds of header, bus numbers and ROMs that are on: where all is placed anew, their BARs and ROMs are looked at alike, and are of the same classes.
use Rattle.std.proofs.Common.{◌≡◌, ℕ, ◌+◌, ◌*◌, ◌^◌, inl, inr, List, [], ◌∷◌, ◌++◌, ◌&&◌, ◌||◌, map, cond, not, refl, Bool, true, false, sym, ◌∙◌, ap, subst}
use Rattle.std.specs.Bool.{IsTrue, ◌==◌, nat_le, if◌then◌else◌}
use Rattle.std.specs.List.{AllZip, filter, list_any, list_all, range_with_len}
use Rattle.std.proofs.lemmas.Bool.{cases_Bool, and_right, both_ways}
use Rattle.pci_spec.specs.Number.{number_at, lowest_one}
use Rattle.pci_spec.specs.Slot.{Slot, slot_number}
use Rattle.pci_spec.specs.Header.{layout, bar_count, rom_register}
use Rattle.pci_spec.specs.Bar.{bar_at, has_bar, is_io, is_prefetchable, is_wide}
use Rattle.pci_spec.specs.Rom.{has_rom, rom_is_on}
use Rattle.pci_spec.specs.Window.{WindowKind, IoWindow, MemoryWindow, PrefetchWindow, has_window, is_wide_window}
use Rattle.pci_spec.specs.Decoded.{bar_size}
use Rattle.pci_spec.specs.System.{System, Function, Io, Memory, Part, Bar, Rom, Window, space_of, is_bridge, is_window, register_of}
use Rattle.pci_spec.specs.Bus.{secondary, subordinate, is_behind, is_root}
use Rattle.plan_spec.specs.Plan.{Pools, bridges_above, is_served, same_class, size_of}
use Rattle.settle_spec.specs.Lists.{Request}
use Rattle.settle_spec.specs.Parts.{FunctionPart, is_empty, is_left, is_part, header_parts, function_parts, upper_pools, new_class, is_in_memory, is_in_prefetch, prefetchable_class, class_in}
use Rattle.settle_spec.specs.Stands.{rank}
use Rattle.settle_spec.specs.Items.{is_own, highest_of, highest_of_bar, has_of}
use Rattle.settle_laws.proofs.Zipped.{any_zip, all_zip, filter_zip, cond_zip}

pub record IsAlike (f g : Function) : Type 0 where
  pub slot : f.slot ≡ g.slot
  pub probe : f.probe ≡ g.probe
  pub kind : layout f.image ≡ layout g.image
  pub secondary : is_bridge f ≡ true → secondary f ≡ secondary g
  pub subordinate : is_bridge f ≡ true → subordinate f ≡ subordinate g
  pub rom : has_rom f.image f.probe ≡ has_rom g.image g.probe
  pub on : rom_is_on f.image ≡ rom_is_on g.image

pub record IsAlikeRegion (r t : FunctionPart) : Type 0 where
  pub function : IsAlike r.function t.function
  pub part : r.part ≡ t.part

-- ---- a function by itself

module _ (f g : Function) (is : IsAlike f g) where
  pub bus_alike : f.slot.bus ≡ g.slot.bus
  bus_alike = ap (λ (x : Slot). x.bus) is.slot

  pub bridge_alike : is_bridge f ≡ is_bridge g
  bridge_alike = ap (λ k. k == 1) is.kind

  pub behind_alike : is_bridge f ≡ true → (bus : ℕ) → is_behind f bus ≡ is_behind g bus
  behind_alike bridge bus =
      let low = is.secondary bridge in
      let high = is.subordinate bridge in
      λ i. nat_le (low i) bus && nat_le bus (high i)

  -- of bridges alone
  pub of_bridges : (b c : Bool) → (is_bridge f ≡ true → b ≡ c) → (is_bridge f && b) ≡ (is_bridge g && c)
  of_bridges b c same = elim (cases_Bool (is_bridge f)) [
    | inl bridge ↦ (let here = bridge_alike in let it = same bridge in λ i. here i && it i)
    | inr none ↦ ap (λ x. x && b) none ∙ sym (ap (λ x. x && c) (sym bridge_alike ∙ none))
  ]

  pub register_alike : (p : Part) → register_of f p ≡ register_of g p
  register_alike (Bar n) = refl
  register_alike Rom = ap rom_register is.kind
  register_alike (Window c) = refl

  pub header_alike : header_parts f ≡ header_parts g
  header_alike = ap (λ k. map Bar (range_with_len 0 (bar_count k)) ++ Window IoWindow ∷ Window MemoryWindow ∷ Window PrefetchWindow ∷ Rom ∷ []) is.kind

  pub space_alike : (p : Part) → space_of f p ≡ space_of g p
  space_alike (Bar n) = ap (λ x. if is_io (bar_at x n) then Io else Memory) is.probe
  space_alike Rom = refl
  space_alike (Window c) = refl

  pub size_alike : (p : Part) → size_of f p ≡ size_of g p
  size_alike (Bar n) = ap (λ x. bar_size x n) is.probe
  size_alike Rom = (let k = is.kind in let x = is.probe in λ i. 2 ^ lowest_one 0 (number_at (x i) (rom_register (k i)) 4))
  size_alike (Window c) = refl

  pub highest_alike : (p : Part) → highest_of f p ≡ highest_of g p
  highest_alike (Bar n) = ap (λ x. highest_of_bar (bar_at x n)) is.probe
  highest_alike Rom = refl
  highest_alike (Window c) = refl

  pub rank_alike : (p : Part) → rank record { function = f; part = p } ≡ rank record { function = g; part = p }
  rank_alike p =
      let slot = is.slot in
      let register = register_alike p in
      λ i. slot_number (slot i) * 256 + register i

-- ---- in its system

first_chosen : (h : Part → FunctionPart) (k : FunctionPart → Bool) (p : Part) (xs : List Part) (b : Bool) → filter k (map h (cond b (p ∷ xs) xs)) ≡ cond (b && k (h p)) (h p ∷ filter k (map h xs)) (filter k (map h xs))
first_chosen h k p xs true = refl
first_chosen h k p xs false = refl

pub first_some : (h : Part → FunctionPart) (k : FunctionPart → Bool) (p : Part) (xs : List Part) (b : Bool) → list_any k (map h (cond b (p ∷ xs) xs)) ≡ ((b && k (h p)) || list_any k (map h xs))
first_some h k p xs true = refl
first_some h k p xs false = refl

module _ (q : Request) (s t : System) (pairs : AllZip IsAlike s t) where
  above_alike : (bus : ℕ) → AllZip IsAlike (bridges_above s bus) (bridges_above t bus)
  above_alike bus = filter_zip IsAlike (λ b. is_bridge b && is_behind b bus) (λ b. is_bridge b && is_behind b bus)
      (λ f g is. of_bridges f g is (is_behind f bus) (is_behind g bus) (λ bridge. behind_alike f g is bridge bus)) s t pairs

  pub any_above : (test : List ℕ → Bool) (bus : ℕ) → list_any (λ (b : Function). test b.probe) (bridges_above s bus) ≡ list_any (λ (b : Function). test b.probe) (bridges_above t bus)
  any_above test bus = any_zip IsAlike (λ (b : Function). test b.probe) (λ (b : Function). test b.probe) (λ f g is. ap test is.probe) (bridges_above s bus) (bridges_above t bus) (above_alike bus)

  pub all_above : (test : List ℕ → Bool) (bus : ℕ) → list_all (λ (b : Function). test b.probe) (bridges_above s bus) ≡ list_all (λ (b : Function). test b.probe) (bridges_above t bus)
  all_above test bus = all_zip IsAlike (λ (b : Function). test b.probe) (λ (b : Function). test b.probe) (λ f g is. ap test is.probe) (bridges_above s bus) (bridges_above t bus) (above_alike bus)

  module _ (f g : Function) (is : IsAlike f g) where
    pub left_alike : (p : Part) → is_left q s f p ≡ is_left q t g p
    left_alike (Bar n) =
        let bus = bus_alike f g is in
        let probe = is.probe in
        let lacks = any_above (λ x. not (has_window IoWindow x)) f.slot.bus ∙ ap (λ b. list_any (λ (d : Function). not (has_window IoWindow d.probe)) (bridges_above t b)) bus in
        λ i. is_io (bar_at (probe i) n) && (is_empty q.lists.io || lacks i)
    left_alike Rom = refl
    left_alike (Window c) = refl

    -- a BAR or ROM is looked at in both
    pub part_alike : (p : Part) → is_window p ≡ false → is_part q s f p ≡ is_part q t g p
    part_alike (Bar n) plain =
        let probe = is.probe in
        let left = left_alike (Bar n) in
        λ i. has_bar (probe i) n && not (left i)
    part_alike Rom plain = (let rom = is.rom in let on = is.on in λ i. rom i && on i)
    part_alike (Window c) plain = absurd (both_ways true plain refl)

    served_alike : (pools : Pools) (n : ℕ) → is_served s pools f n ≡ is_served t pools g n
    served_alike pools n =
        let bus = bus_alike f g is in
        let probe = is.probe in
        let there = all_above (has_window PrefetchWindow) f.slot.bus ∙ ap (λ b. list_all (λ (d : Function). has_window PrefetchWindow d.probe) (bridges_above t b)) bus in
        let wide = all_above (is_wide_window PrefetchWindow) f.slot.bus ∙ ap (λ b. list_all (λ (d : Function). is_wide_window PrefetchWindow d.probe) (bridges_above t b)) bus in
        λ i. if nat_le pools.prefetch.last 0xffff_ffff then there i else is_wide (bar_at (probe i) n) && wide i

    abbrev old : Part → FunctionPart
    old p = record { function = f; part = p }

    abbrev new : Part → FunctionPart
    new p = record { function = g; part = p }

    -- where windows don't pass, it doesn't matter which of them are open
    module _ (k m : FunctionPart → Bool) (off : (p : Part) → is_window p ≡ true → (k (old p) ≡ false) × (m (new p) ≡ false)) (same : (p : Part) → is_window p ≡ false → k (old p) ≡ m (new p)) where
      both_same : (p : Part) → (is_part q s f p && k (old p)) ≡ (is_part q t g p && m (new p))
      both_same p = elim (cases_Bool (is_window p)) [
        | inl window ↦ and_right (is_part q s f p) (k (old p)) (off p window).0 ∙ sym (and_right (is_part q t g p) (m (new p)) (off p window).1)
        | inr plain ↦ (let part = part_alike p plain in let it = same p plain in λ i. part i && it i)
      ]

      pub chosen_alike : (ps : List Part) → AllZip IsAlikeRegion (filter k (map old (filter (is_part q s f) ps))) (filter m (map new (filter (is_part q t g) ps)))
      chosen_alike [] = tt
      chosen_alike (p ∷ ps) =
          let xs = filter (is_part q s f) ps in
          let ys = filter (is_part q t g) ps in
          let rest = chosen_alike ps in
          subst (λ zs. AllZip IsAlikeRegion zs (filter m (map new (filter (is_part q t g) (p ∷ ps))))) (sym (first_chosen old k p xs (is_part q s f p)))
          (subst (AllZip IsAlikeRegion (cond (is_part q s f p && k (old p)) (old p ∷ filter k (map old xs)) (filter k (map old xs)))) (sym (first_chosen new m p ys (is_part q t g p)))
          (cond_zip IsAlikeRegion (is_part q s f p && k (old p)) (is_part q t g p && m (new p)) (both_same p) (old p ∷ filter k (map old xs)) (filter k (map old xs)) (new p ∷ filter m (map new ys)) (filter m (map new ys))
          (λ passes. (record { function = is; part = refl }, rest)) rest))

      pub some_alike : (ps : List Part) → list_any k (map old (filter (is_part q s f) ps)) ≡ list_any m (map new (filter (is_part q t g) ps))
      some_alike [] = refl
      some_alike (p ∷ ps) =
          let rest = some_alike ps in
          let here = both_same p in
          first_some old k p (filter (is_part q s f) ps) (is_part q s f p) ∙ (λ i. here i || rest i) ∙ sym (first_some new m p (filter (is_part q t g) ps) (is_part q t g p))

-- where all is placed anew, classes are alike too
module _ (q : Request) (anew : IsTrue q.anew) (s t : System) (pairs : AllZip IsAlike s t) where
  module _ (f g : Function) (is : IsAlike f g) where
    abbrev before : Part → FunctionPart
    before p = record { function = f; part = p }

    abbrev after : Part → FunctionPart
    after p = record { function = g; part = p }

    prefetchable_is : (u : System) (h : Function) (n : ℕ) → prefetchable_class q u h n ≡ new_class q u h n
    prefetchable_is u h n = ap (λ b. if b || is_root q.roots h.slot.bus then new_class q u h n else if is_in_memory u h n then MemoryWindow else if is_in_prefetch u h n then PrefetchWindow else new_class q u h n) anew

    pub class_alike : (p : Part) → class_in q s f p ≡ class_in q t g p
    class_alike (Bar n) =
        let probe = is.probe in
        let served = served_alike q s t pairs f g is (upper_pools q.lists.prefetch) n in
        let new : prefetchable_class q s f n ≡ prefetchable_class q t g n =
        prefetchable_is s f n ∙ ap (λ b. if not (is_empty q.lists.prefetch) && b then PrefetchWindow else MemoryWindow) served ∙ sym (prefetchable_is t g n) in
        λ i. if is_io (bar_at (probe i) n) then IoWindow else if is_prefetchable (bar_at (probe i) n) then new i else MemoryWindow
    class_alike Rom = refl
    class_alike (Window c) = refl

    own_off : (u : System) (c : WindowKind) (r : FunctionPart) → is_window r.part ≡ true → is_own q u c r ≡ false
    own_off u c r window = ap (λ b. not b && same_class c (class_in q u r.function r.part)) window

    pub own_alike : (c : WindowKind) (p : Part) → is_own q s c (before p) ≡ is_own q t c (after p)
    own_alike c p = ap (λ d. not (is_window p) && same_class c d) (class_alike p)

    pub some_own_alike : (c : WindowKind) → list_any (is_own q s c) (function_parts q s f) ≡ list_any (is_own q t c) (function_parts q t g)
    some_own_alike c =
        some_alike q s t pairs f g is (is_own q s c) (is_own q t c) (λ p window. (own_off s c (before p) window, own_off t c (after p) window)) (λ p plain. own_alike c p) (header_parts f)
        ∙ ap (λ ps. list_any (is_own q t c) (map after (filter (is_part q t g) ps))) (header_alike f g is)

    -- the BARs and ROMs of a class that don't keep their places, where a test says alike what keeps its own
    pub own_parts_alike : (c : WindowKind) (keeps others : FunctionPart → Bool) → ((p : Part) → keeps (before p) ≡ others (after p))
        → AllZip IsAlikeRegion (filter (λ r. is_own q s c r && not (keeps r)) (function_parts q s f)) (filter (λ r. is_own q t c r && not (others r)) (function_parts q t g))
    own_parts_alike c keeps others same =
        subst (λ ps. AllZip IsAlikeRegion (filter (λ r. is_own q s c r && not (keeps r)) (function_parts q s f)) (filter (λ r. is_own q t c r && not (others r)) (map after (filter (is_part q t g) ps)))) (header_alike f g is)
        (chosen_alike q s t pairs f g is (λ r. is_own q s c r && not (keeps r)) (λ r. is_own q t c r && not (others r))
        (λ p window. (ap (λ b. b && not (keeps (before p))) (own_off s c (before p) window), ap (λ b. b && not (others (after p))) (own_off t c (after p) window)))
        (λ p plain. let own = own_alike c p in let kept = same p in λ i. own i && not (kept i)) (header_parts f))

  -- a BAR or ROM of a class is behind a bridge in both
  pub has_of_alike : (c : WindowKind) (b d : Function) → IsAlike b d → is_bridge b ≡ true → has_of q s c b ≡ has_of q t c d
  has_of_alike c b d over bridge =
      any_zip IsAlike (λ f. is_behind b f.slot.bus && list_any (is_own q s c) (function_parts q s f)) (λ g. is_behind d g.slot.bus && list_any (is_own q t c) (function_parts q t g))
      (λ f g is.
      let behind = ap (is_behind b) (bus_alike f g is) ∙ behind_alike b d over bridge g.slot.bus in
      let some = some_own_alike f g is c in
      λ i. behind i && some i) s t pairs
