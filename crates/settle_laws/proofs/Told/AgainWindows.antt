-- Where a part that stays ends, and the windows over a told range that stands: in the result they hold it, and its class is the same.
use Rattle.std.proofs.Common.{◌≡◌, ℕ, ◌≤◌, inl, inr, Bool, true, false, ◌||◌, arith, refl, sym, ◌∙◌, ap, subst, Option, None, Some}
use Rattle.std.specs.Bool.{if◌then◌else◌}
use Rattle.std.specs.List.{Contains}
use Rattle.std.proofs.lemmas.Bool.{and_from, and_parts, false_from_ne_true}
use Rattle.pci_spec.specs.Decoded.{Range}
use Rattle.pci_spec.specs.Window.{WindowKind, MemoryWindow, PrefetchWindow}
use Rattle.pci_spec.specs.System.{System, Function, Space, Io, Memory, Part, Bar, Rom, Window, has_part}
use Rattle.pci_spec.specs.Bus.{is_root, LeadsTo}
use Rattle.pci_spec.proofs.Members.{in_map_from}
use Rattle.plan_spec.specs.Plan.{bridges_above, is_open}
use Rattle.plan_spec.specs.Planning.Layout.{range_of, IsInside, LieApart}
use Rattle.plan_spec.proofs.Planning.AboveBuses.{above_from}
use Rattle.plan_spec.proofs.Planning.Behind.{all_gives}
use Rattle.plan_spec.proofs.Planning.Moved.{secondary_same}
use Rattle.judge_spec.specs.ToldRegion.{ToldRegion, told_regions}
use Rattle.settle_spec.specs.Kept.{Kept}
use Rattle.settle_spec.specs.Lines.{line_bus, line_range}
use Rattle.settle_spec.specs.Lists.{Request}
use Rattle.settle_spec.specs.Parts.{FunctionPart, addresses, lies_within, holds_range, bridge_over}
use Rattle.settle_spec.specs.Stands.{class_in_space, range_class, range_stands, window_part}
use Rattle.settle_spec.specs.Keeping.Registers.{settled, settled_function}
use Rattle.settle_spec.specs.ToldLaws.{IsInStandingWindow}
use Rattle.settle_spec.proofs.BridgeOver.{over_is, over_leads}
use Rattle.settle_spec.proofs.Nested.{at_secondary}
use Rattle.settle_laws.specs.Keeping.PlacesLaws.{CanSettle, end_range}
use Rattle.settle_laws.proofs.InLists.{within_from, within_gives}
use Rattle.settle_laws.proofs.Keeping.AgainParts.{settled_end}
use Rattle.settle_laws.proofs.Keeping.Claimed.{bridge_stays, ends_open, part_shown}
use Rattle.settle_laws.proofs.Keeping.Ends.{are_apart, no_plain_wish, unwished_end, wished_end}
use Rattle.settle_laws.proofs.Keeping.Fits.{was}
use Rattle.settle_laws.proofs.Keeping.InWindows.{kept_range}
use Rattle.settle_laws.proofs.Keeping.Moves.{moves, new_nested, new_system}
use Rattle.settle_laws.specs.ToldSoundLaws.{KeepsTold}

pub within_through : (r w v : Range) → lies_within r w ≡ true → lies_within w v ≡ true → lies_within r v ≡ true
within_through r w v first second =
    let in_w = within_gives r w first in
    let in_v = within_gives w v second in
    let a = in_w.0 in
    let b = in_w.1 in
    let c = in_v.0 in
    let d = in_v.1 in
    within_from r v (omega (arith, a, c), omega (arith, b, d))

-- no address is in two ranges that are apart
not_in_both : (r w v : Range) → r.first ≤ r.last → IsInside r w → IsInside r v → LieApart w v → ⊥
not_in_both r w v some (from_w, end_w) (from_v, end_v) (inl under) = let no : ⊥ = omega (arith, some, end_w, from_v, under) in no
not_in_both r w v some (from_w, end_w) (from_v, end_v) (inr over) = let no : ⊥ = omega (arith, some, end_v, from_w, over) in no

-- the class of a told range by whether it is prefetchable, on a root, and in the memory window over its bus
abbrev class_by : Space → Bool → Bool → Bool → WindowKind
class_by space prefetchable root memory =
    class_in_space space (if prefetchable then (if root || memory then MemoryWindow else PrefetchWindow) else MemoryWindow)

class_same : (space : Space) (prefetchable root was now : Bool) → (class_by space prefetchable root was ≡ MemoryWindow → was ≡ true → now ≡ true) → (class_by space prefetchable root was ≡ PrefetchWindow → now ≡ false)
    → class_by space prefetchable root now ≡ class_by space prefetchable root was
class_same Io prefetchable root was now held apart = refl
class_same Memory false root was now held apart = refl
class_same Memory true true was now held apart = refl
class_same Memory true false true now held apart = ap (λ m. if m then MemoryWindow else PrefetchWindow) (held refl refl)
class_same Memory true false false now held apart = ap (λ m. if m then MemoryWindow else PrefetchWindow) (apart refl)

module _ (q : Request) (s : System) (k : Kept) (can : CanSettle q s k) where
  abbrev now : Function → Function
  now f = settled_function q s k f

  abbrev t : System
  t = settled q s k

  -- ---- what stays ends with all addresses that it had

  pub record HasStayed (f : Function) (p : Part) : Type 0 where
    pub at : Range
    pub ends : end_range q s k record { function = f; part = p } ≡ Some at
    pub holds : lies_within (addresses record { function = f; part = p }) at ≡ true
    pub shown : range_of (now f) p ≡ at

  pub has_stayed : (f : Function) (p : Part) → Contains s f → has_part f p ≡ true → k.stays record { function = f; part = p } ≡ true → HasStayed f p
  has_stayed f p listed there keeps = by (k.wished record { function = f; part = p }) refl
    where
      r : FunctionPart
      r = record { function = f; part = p }

      wished_holds : (o : Part) (w : Range) → has_part f o ≡ true → k.stays record { function = f; part = o } ≡ true → k.wished record { function = f; part = o } ≡ Some w → lies_within (addresses record { function = f; part = o }) w ≡ true
      wished_holds (Bar n) w there keeps wished = absurd (no_plain_wish q s k can f (Bar n) listed there refl w wished)
      wished_holds Rom w there keeps wished = absurd (no_plain_wish q s k can f Rom listed there refl w wished)
      wished_holds (Window c) w there keeps wished =
          let inside = (can.sound.wished.windows c f w listed there wished).holds (k.range (window_part c f)) (kept_range q s k (window_part c f) keeps) in
          within_through (addresses (window_part c f)) (k.range (window_part c f)) w (can.sound.holds (window_part c f)) (within_from (k.range (window_part c f)) w inside)

      by : (o : Option Range) → k.wished r ≡ o → HasStayed f p
      by None none =
          let ends = unwished_end q s k r none ∙ kept_range q s k r keeps in
          record { at = k.range r; ends = ends; holds = can.sound.holds r; shown = part_shown q s k can f p listed there (k.range r) ends }
      by (Some w) wished =
          let ends = wished_end q s k r w wished in
          record { at = w; ends = ends; holds = wished_holds p w there keeps wished; shown = part_shown q s k can f p listed there w ends }

  -- the bridge over a bus
  pub over_again : (bus : ℕ) (b : Function) → LeadsTo s b bus → bridge_over t bus ≡ Some (now b)
  over_again bus b leads =
      over_is q.roots t (new_system q s k can) (new_nested q s k can) bus (now b)
      (in_map_from now s b leads.0, bridge_stays q s k can b leads.0 ∙ leads.1, secondary_same b (now b) (moves q s k can b leads.0) (was q s k can b leads.0).image leads.1 ∙ leads.2)

  -- ---- a told range that stands in a window

  module _ (keeps : KeepsTold q s k) (x : ToldRegion) (is_told : Contains (told_regions q.told) x) (some : x.told.first ≤ x.told.last) (stand : range_stands q s x ≡ true) (w : IsInStandingWindow q s x) where
    abbrev class : WindowKind
    class = range_class q s x

    pub leads : LeadsTo s w.b (line_bus x)
    leads = over_leads s (line_bus x) w.b w.over

    over_stays : k.stays (window_part class w.b) ≡ true
    over_stays =
        all_gives (λ b. k.stays (window_part class b)) (bridges_above s (line_bus x)) w.b (and_parts (range_stands q s x) _ (keeps.stays x is_told stand)).1
        (above_from s (line_bus x) w.b record { listed = leads.0; bridge = leads.1; behind = at_secondary q.roots s can.system can.nested w.b (line_bus x) leads.0 leads.1 leads.2 })

    over : HasStayed w.b (Window class)
    over = has_stayed w.b (Window class) leads.0 leads.1 over_stays

    pub over_open : is_open (now w.b) class ≡ true
    over_open = ends_open q s k can w.b class leads.0 leads.1 over.at over.ends

    -- the window over it holds it again
    pub over_holds : lies_within (line_range x) (range_of (now w.b) (Window class)) ≡ true
    over_holds = within_through (line_range x) (addresses (window_part class w.b)) (range_of (now w.b) (Window class)) w.holds (subst (λ r. lies_within (addresses (window_part class w.b)) r ≡ true) (sym over.shown) over.holds)

    pub over_is_now : bridge_over t (line_bus x) ≡ Some (now w.b)
    over_is_now = over_again (line_bus x) w.b leads

    held_again : holds_range class (line_range x) (bridge_over t (line_bus x)) ≡ true
    held_again = ap (holds_range class (line_range x)) over_is_now ∙ and_from (is_open (now w.b) class) (lies_within (line_range x) (range_of (now w.b) (Window class))) over_open over_holds

    not_in_memory : class ≡ PrefetchWindow → holds_range MemoryWindow (line_range x) (bridge_over t (line_bus x)) ≡ false
    not_in_memory e = false_from_ne_true (holds_range MemoryWindow (line_range x) (bridge_over t (line_bus x))) (λ is.
        let b = w.b in
        let memory = range_of (now b) (Window MemoryWindow) in
        let parts = and_parts (is_open (now b) MemoryWindow) (lies_within (line_range x) memory) (sym (ap (holds_range MemoryWindow (line_range x)) over_is_now) ∙ is) in
        let m = settled_end q s k can b (Window MemoryWindow) leads.0 leads.1 parts.0 in
        let apart = are_apart q s k can b b (Window MemoryWindow) (Window PrefetchWindow) leads.0 leads.0 leads.1 leads.1 refl (inl refl) (inr (λ same. let no : ⊥ = omega (arith, same) in no))
        m.at over.at m.ends (subst (λ c. end_range q s k (window_part c b) ≡ Some over.at) e over.ends) in
        not_in_both (line_range x) m.at over.at some (subst (IsInside (line_range x)) m.shown (within_gives (line_range x) memory parts.1))
        (subst (IsInside (line_range x)) over.shown (within_gives (line_range x) (range_of (now b) (Window class)) over_holds)) apart)

    -- its class is the same
    pub class_again : range_class q t x ≡ class
    class_again =
        class_same x.told.space x.told.prefetchable (is_root q.roots (line_bus x)) (holds_range MemoryWindow (line_range x) (bridge_over s (line_bus x))) (holds_range MemoryWindow (line_range x) (bridge_over t (line_bus x)))
        (λ e is. subst (λ c. holds_range c (line_range x) (bridge_over t (line_bus x)) ≡ true) e held_again) not_in_memory
