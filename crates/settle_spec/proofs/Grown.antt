-- What stays without growth stays with it, and what grows has all addresses that it had.
use Rattle.std.proofs.Common.{◌≡◌, ◌≤◌, ℕ, ◌+◌, ◌-◌, ◌*◌, ◌/◌, ◌<◌, min, max, Bool, List, [], ◌∷◌, ◌++◌, map, arith, ap, subst, refl, true, false, Option, None, Some}
use Rattle.std.specs.Bool.{nat_le, if◌then◌else◌}
use Rattle.std.specs.List.{list_all, fold}
use Rattle.std.specs.Option.{is_some}
use Rattle.std.proofs.lemmas.Bool.{both_ways, false≢true, and_parts, and_from, or_right, le-leb}
use Rattle.std.proofs.lemmas.Nat.{div-add-mod'}
use Rattle.pci_spec.specs.Window.{WindowKind, IoWindow, MemoryWindow, PrefetchWindow, page_size}
use Rattle.pci_spec.specs.Decoded.{Range}
use Rattle.pci_spec.specs.System.{System, Function, Part, Bar, Rom, Window, is_window}
use Rattle.pci_spec.proofs.BusRanges.{all_gives, all_from}
use Rattle.pci_spec.specs.Bus.{secondary}
use Rattle.plan_spec.specs.Plan.{bridges_above, raised_to, same_class}
use Rattle.plan_spec.proofs.Planning.Room.{raised}
use Rattle.settle_spec.specs.Lists.{Request}
use Rattle.settle_spec.specs.Parts.{FunctionPart, addresses, class_in, lies_within}
use Rattle.settle_spec.specs.Stands.{window_part, stands}
use Rattle.settle_spec.specs.Items.{Placed, Placing, AllPlaced, Lacks, taken_by, has_room_behind, stays}
use Rattle.settle_spec.specs.Reach.{half_size, raised_last, lowered_first}
use Rattle.settle_spec.specs.Growth.{grown_to, grown_around, there_on, taken_around, window_comes_to, part_comes_to, there, comes_to, has_grown}
use Rattle.settle_spec.specs.Kept.{is_kept, stays_growing, range_or, range_growing}

-- ---- what holds is kept

module _ (q : Request) (s : System) where
  kept : (r : FunctionPart) → has_room_behind q s r ≡ true → is_kept q s r ≡ true
  kept r holds = or_right (has_grown q s r) (has_room_behind q s r) holds

  pub growth_keeps : (r : FunctionPart) → stays q s r ≡ true → stays_growing q s r ≡ true
  growth_keeps r stay =
      let above = bridges_above s r.function.slot.bus in
      let c = class_in q s r.function r.part in
      let parts = and_parts (has_room_behind q s r) (list_all (λ b. has_room_behind q s (window_part c b)) above) stay in
      and_from (is_kept q s r) (list_all (λ b. is_kept q s (window_part c b)) above) (kept r parts.0)
      (all_from (λ b. is_kept q s (window_part c b)) above (λ b listed. kept (window_part c b) (all_gives (λ b. has_room_behind q s (window_part c b)) above parts.1 b listed)))

-- ---- what a window comes to

pub fold_min : (a : ℕ) (xs : List ℕ) → fold min a xs ≤ a
fold_min a [] = omega arith
fold_min a (x ∷ xs) = let rest : fold min (min a x) xs ≤ min a x = fold_min (min a x) xs in omega (arith, rest)

pub fold_max : (a : ℕ) (xs : List ℕ) → a ≤ fold max a xs
fold_max a [] = omega arith
fold_max a (x ∷ xs) = let rest : max a x ≤ fold max (max a x) xs = fold_max (max a x) xs in omega (arith, rest)

pub some_page : (c : WindowKind) → 0 < page_size c
some_page IoWindow = omega arith
some_page MemoryWindow = omega arith
some_page PrefetchWindow = omega arith

pub no_higher : (c : WindowKind) (old first : ℕ) → lowered_first c old first ≤ first
no_higher c old first =
    let split = div-add-mod' first (half_size c) in
    omega (arith, split)

pub no_lower : (c : WindowKind) (old last : ℕ) → last ≤ raised_last c old last
no_lower c old last =
    let split = div-add-mod' last (half_size c) in
    omega (arith, split)

pub grown_holds : (c : WindowKind) (w : Range) (others : List Range) → lies_within w (grown_to c w others) ≡ true
grown_holds c w others =
    let page = page_size c in
    let low = fold min w.first (map (λ (r : Range). r.first) others) in
    let high = fold max w.last (map (λ (r : Range). r.last) others) in
    let from = fold_min w.first (map (λ (r : Range). r.first) others) in
    let to = fold_max w.last (map (λ (r : Range). r.last) others) in
    let split = div-add-mod' low page in
    let up = (raised page (high + 1) (some_page c)).from in
    let first = no_higher c w.first (low / page * page) in
    let last = no_lower c w.last (raised_to page (high + 1) - 1) in
    and_from (nat_le (grown_to c w others).first w.first) (nat_le w.last (grown_to c w others).last)
    (le-leb (grown_to c w others).first w.first (omega (arith, first, split, from)))
    (le-leb w.last (grown_to c w others).last (omega (arith, last, up, to)))

-- ---- what grows

abbrev pub HoldsAll : Range → Option Range → Type 0
HoldsAll w o = (r : Range) → o ≡ Some r → lies_within w r ≡ true

pub none_holds : (w : Range) → HoldsAll w None
none_holds w r is = absurd (false≢true (ap is_some is))

pub around_holds : (c : WindowKind) (w : Range) (others : List Range) (p : Placing) → HoldsAll w (grown_around c w others p)
around_holds c w others (Lacks i) r is = none_holds w r is
around_holds c w others (AllPlaced placed) r is =
    let all = others ++ map (λ (p : Placed). taken_by p.item p.at) placed in
    subst (λ t. lies_within w t ≡ true) (ap (λ o. range_or o (grown_to c w all)) is) (grown_holds c w all)

pub itself : (w : Range) → lies_within w w ≡ true
itself w = and_from (nat_le w.first w.first) (nat_le w.last w.last) (le-leb w.first w.first (omega arith)) (le-leb w.last w.last (omega arith))

module _ (q : Request) (s : System) where
  pub part_holds : (f : Function) (p : Part) → HoldsAll (addresses (record { function = f; part = p })) (part_comes_to q s (there q s) f p)
  part_holds f (Window c) = by (stands q s (window_part c f))
    where
      by : (b : Bool) → HoldsAll (addresses (window_part c f)) (if b then window_comes_to q s (there q s) c f else None)
      by true r is = around_holds c (addresses (window_part c f)) (there_on q s (there q s) (λ r. same_class c (class_in q s r.function r.part)) (secondary f)) (taken_around q s (there q s) c f) r is
      by false r is = none_holds (addresses (window_part c f)) r is
  part_holds f (Bar n) = none_holds (addresses (record { function = f; part = Bar n }))
  part_holds f Rom = none_holds (addresses (record { function = f; part = Rom }))

  pub growth_holds_all : (r : FunctionPart) → lies_within (addresses r) (range_growing q s r) ≡ true
  growth_holds_all r = by (has_grown q s r) (comes_to q s r) (part_holds r.function r.part)
    where
      by : (b : Bool) (o : Option Range) → HoldsAll (addresses r) o → lies_within (addresses r) (if b then range_or o (addresses r) else addresses r) ≡ true
      by true (Some t) holds = holds t refl
      by true None holds = itself (addresses r)
      by false o holds = itself (addresses r)

  -- ---- what doesn't

  comes_none : (f : Function) (p : Part) → is_window p ≡ false → part_comes_to q s (there q s) f p ≡ None
  comes_none f (Bar n) plain = refl
  comes_none f Rom plain = refl
  comes_none f (Window c) plain = absurd (both_ways true plain refl)

  pub only_windows_grow : (r : FunctionPart) → is_window r.part ≡ false → range_growing q s r ≡ addresses r
  only_windows_grow r plain = by (has_grown q s r) (comes_to q s r) (comes_none r.function r.part plain)
    where
      by : (b : Bool) (o : Option Range) → o ≡ None → (if b then range_or o (addresses r) else addresses r) ≡ addresses r
      by true o none = ap (λ o. range_or o (addresses r)) none
      by false o none = refl
