-- What lines hold on a bus and behind a window.
use Rattle.std.proofs.Common.{◌≡◌, ◌&&◌, ℕ, Bool, map, true, sym, ◌∙◌, ap, subst}
use Rattle.std.specs.List.{Contains, filter}
use Rattle.std.proofs.lemmas.Bool.{and_parts, and_from, both_ways}
use Rattle.pci_spec.specs.Decoded.{Range}
use Rattle.pci_spec.specs.Window.{WindowKind}
use Rattle.pci_spec.specs.System.{System, Function, IsSystem, Space, Part, is_bridge, is_window, space_of, window_space}
use Rattle.pci_spec.specs.Bus.{secondary, is_behind, are_siblings, IsNested}
use Rattle.pci_spec.proofs.Members.{in_map_to, in_map_from, in_filter_to, in_filter_from, IsMade}
use Rattle.judge_spec.specs.ToldRegion.{ToldRegion, told_regions}
use Rattle.settle_spec.specs.Lines.{line_bus, line_range, is_line_of, is_line_behind, lines_on, lines_behind}
use Rattle.settle_spec.specs.Lists.{Request}
use Rattle.settle_spec.specs.Parts.{FunctionPart, are_same_space}
use Rattle.settle_spec.specs.Stands.{window_part}
use Rattle.settle_spec.proofs.Nested.{at_secondary, behind_outer, on_it}
use Rattle.settle_laws.proofs.ItemForms.{IsPlaceable, IsOwnPart, IsNewWindow}

module _ (q : Request) where
  -- a line that passes a test holds a range
  pub record IsHeld (test : ToldRegion → Bool) (t : Range) : Type 0 where
    pub line : ToldRegion
    pub listed : Contains (told_regions q.told) line
    pub passes : test line ≡ true
    pub is : line_range line ≡ t

  is_held : (test : ToldRegion → Bool) (t : Range) → Contains (map line_range (filter test (told_regions q.told))) t → IsHeld test t
  is_held test t has =
      let made : IsMade line_range (filter test (told_regions q.told)) t = in_map_to line_range (filter test (told_regions q.told)) t has in
      let chosen = in_filter_to test (told_regions q.told) made.from made.has in
      record { line = made.from; listed = chosen.0; passes = chosen.1; is = made.is }

  holds : (test : ToldRegion → Bool) (x : ToldRegion) → Contains (told_regions q.told) x → test x ≡ true → Contains (map line_range (filter test (told_regions q.told))) (line_range x)
  holds test x listed is = in_map_from line_range (filter test (told_regions q.told)) x (in_filter_from test (told_regions q.told) x listed is)

  pub held_on : (space : Space) (bus : ℕ) (t : Range) → Contains (lines_on q space bus) t → IsHeld (is_line_of q space bus) t
  held_on space bus t has = is_held (is_line_of q space bus) t has

  pub held_behind : (r : FunctionPart) (t : Range) → Contains (lines_behind q r) t → IsHeld (is_line_behind r) t
  held_behind r t has = is_held (is_line_behind r) t has

  pub line_on : (space : Space) (bus : ℕ) (x : ToldRegion) → Contains (told_regions q.told) x → is_line_of q space bus x ≡ true → Contains (lines_on q space bus) (line_range x)
  line_on space bus x listed is = holds (is_line_of q space bus) x listed is

  pub line_behind : (r : FunctionPart) (x : ToldRegion) → Contains (told_regions q.told) x → is_line_behind r x ≡ true → Contains (lines_behind q r) (line_range x)
  line_behind r x listed is = holds (is_line_behind r) x listed is

  module _ (s : System) (system : IsSystem s) (nested : IsNested q.roots s) (b : Function) (listed : Contains s b) (bridge : is_bridge b ≡ true) (c : WindowKind) where
    -- what is on the bus behind a bridge is behind its window
    pub on_is_behind : (t : Range) → Contains (lines_on q (window_space c) (secondary b)) t → Contains (lines_behind q (window_part c b)) t
    on_is_behind t has =
        let x = held_on (window_space c) (secondary b) t has in
        let is = and_parts (are_siblings q.roots (secondary b) (line_bus x.line)) (are_same_space (window_space c) x.line.told.space) x.passes in
        let at = on_it q.roots s system nested b (line_bus x.line) listed bridge is.0 in
        subst (Contains (lines_behind q (window_part c b))) x.is
        (line_behind (window_part c b) x.line x.listed
        (and_from (is_behind b (line_bus x.line)) (are_same_space (window_space c) x.line.told.space)
        (at_secondary q.roots s system nested b (line_bus x.line) listed bridge at) is.1))

    -- what is behind a window of that bus is behind it
    pub window_is_behind : (f : Function) → Contains s f → is_bridge f ≡ true → secondary b ≡ f.slot.bus → (t : Range) → Contains (lines_behind q (window_part c f)) t → Contains (lines_behind q (window_part c b)) t
    window_is_behind f in_f is at t has =
        let x = held_behind (window_part c f) t has in
        let parts = and_parts (is_behind f (line_bus x.line)) (are_same_space (window_space c) x.line.told.space) x.passes in
        subst (Contains (lines_behind q (window_part c b))) x.is
        (line_behind (window_part c b) x.line x.listed
        (and_from (is_behind b (line_bus x.line)) (are_same_space (window_space c) x.line.told.space)
        (behind_outer q.roots s system nested f b (line_bus x.line) in_f listed is bridge (at_secondary q.roots s system nested b f.slot.bus listed bridge at) parts.0) parts.1))

    -- what is behind a window on that bus, of its space, is so too
    pub inner_is_behind : (d : WindowKind) (f : Function) (p : Part) → Contains s f → secondary b ≡ f.slot.bus → space_of f p ≡ window_space c → IsPlaceable q s d f p → (t : Range)
        → Contains (lines_behind q record { function = f; part = p }) t → Contains (lines_behind q (window_part c b)) t
    inner_is_behind d f p in_f at spaces can t has =
        let r : FunctionPart = record { function = f; part = p } in
        let x = held_behind r t has in
        let two = and_parts (is_window p && is_behind f (line_bus x.line)) (are_same_space (space_of f p) x.line.told.space) x.passes in
        let one = and_parts (is_window p) (is_behind f (line_bus x.line)) two.0 in
        let outer = behind_outer q.roots s system nested f b (line_bus x.line) in_f listed (bridge_of can one.0) bridge
        (at_secondary q.roots s system nested b f.slot.bus listed bridge at) one.1 in
        subst (Contains (lines_behind q (window_part c b))) x.is
        (line_behind (window_part c b) x.line x.listed
        (and_from (is_behind b (line_bus x.line)) (are_same_space (window_space c) x.line.told.space) outer
        (ap (λ sp. are_same_space sp x.line.told.space) (sym spaces) ∙ two.1)))
      where
        bridge_of : IsPlaceable q s d f p → is_window p ≡ true → is_bridge f ≡ true
        bridge_of (IsOwnPart plain part) is = absurd (both_ways (is_window p) plain is)
        bridge_of (IsNewWindow window bridge has) is = bridge
