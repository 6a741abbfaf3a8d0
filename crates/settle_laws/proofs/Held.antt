-- What claims an address is a BAR or ROM of its space, and which bridges are above a bridge above.
use Rattle.std.proofs.Common.{◌≡◌, ℕ, ◌+◌, ◌*◌, ◌^◌, ◌<◌, inl, inr, List, refl, Bool, true, false, ◌&&◌, ◌||◌, not, arith, ◌∙◌, ap, subst, map}
use Rattle.std.specs.Bool.{◌==◌, if◌then◌else◌}
use Rattle.std.specs.List.{Contains, list_any, filter, range_with_len}
use Rattle.std.proofs.lemmas.Bool.{and_parts, and_from, and_cases, or_left, or_right, or_cases, both_ways, eqb-true, not_from_false, false_from_ne_true}
use Rattle.pci_spec.specs.Slot.{slot_number}
use Rattle.pci_spec.specs.Header.{layout, bar_count}
use Rattle.pci_spec.specs.Bar.{bar_at, bar_kind, has_bar, is_lawful, is_wide, starts_bar}
use Rattle.pci_spec.specs.Rom.{rom_is_on}
use Rattle.pci_spec.specs.Window.{IoWindow, has_window}
use Rattle.pci_spec.specs.System.{System, Function, IsSystem, Space, Io, Memory, Part, Bar, Rom, Window, Claims, is_implemented, is_space_on, is_window, space_of}
use Rattle.pci_spec.specs.Bus.{IsNested}
use Rattle.pci_spec.proofs.Absent.{not_lawful}
use Rattle.pci_spec.proofs.Members.{in_filter_from, in_map_from, in_range_from}
use Rattle.plan_spec.specs.Plan.{bridges_above, is_io_part}
use Rattle.plan_spec.proofs.Planning.AboveBuses.{above_to, above_from}
use Rattle.plan_spec.proofs.Planning.Behind.{Passes, any_gives, any_from, behind_range}
use Rattle.plan_spec.proofs.Planning.Safe.{lower_bus, order_of, slots_of}
use Rattle.settle_spec.specs.Lists.{Request}
use Rattle.settle_spec.specs.Parts.{FunctionPart, is_empty, is_left, is_part, header_bars, header_parts, has_left, are_same_space}
use Rattle.settle_spec.specs.Stands.{part_space}
use Rattle.judge_spec.specs.ToldRegion.{told_regions}
use Rattle.settle_spec.specs.Registers.{is_answered_by, has_own}
use Rattle.settle_spec.proofs.Nested.{behind_outer}

pub and_second_false : (x y : Bool) → x ≡ true → (x && y) ≡ false → y ≡ false
and_second_false x y is none = elim (and_cases x y none) [ inl other ↦ absurd (both_ways x other is) | inr second ↦ second ]

pub same_itself : (space : Space) → are_same_space space space ≡ true
same_itself Io = refl
same_itself Memory = refl

pub memory_is_not_io : Memory ≡ Io → ⊥
memory_is_not_io e = both_ways (are_same_space Memory Io) refl (ap (λ x. are_same_space x Io) e)

pub io_of : (io : Bool) → (if io then Io else Memory) ≡ Io → io ≡ true
io_of true e = refl
io_of false e = absurd (memory_is_not_io e)

-- a claim's space is on
pub claim_on : (f : Function) (p : Part) (space : Space) (a : ℕ) → Claims f p space a → is_space_on f space ≡ true
claim_on f (Bar n) space a c = subst (λ x. is_space_on f x ≡ true) c.maps c.enabled
claim_on f Rom space a c = subst (λ x. is_space_on f x ≡ true) c.maps (and_parts (is_space_on f Memory) (rom_is_on f.image) c.enabled).0
claim_on f (Window kind) space a c = subst (λ x. is_space_on f x ≡ true) c.maps c.enabled

-- a BAR that claims an address is implemented
pub claimed_bar : (f : Function) (n : ℕ) (space : Space) (a : ℕ) → Claims f (Bar n) space a → has_bar f.probe n ≡ true
claimed_bar f n space a c =
    let starts = c.decodes.0 in
    let answers = c.decodes.1 in
    let k = answers.0 in
    let P : ℕ → Type 0 = λ m. is_lawful (bar_kind m) (if is_wide m then m + 2 ^ 32 * bar_at f.probe (n + 1) else m) k ≡ true in
    and_from (starts_bar f.probe n) (not (bar_at f.probe n == 0)) starts
    (not_from_false (bar_at f.probe n == 0) (false_from_ne_true (bar_at f.probe n == 0) (λ none. not_lawful (bar_kind 0) k (subst P (eqb-true (bar_at f.probe n) 0 none) answers.1))))

-- a bridge above a bus has a lower slot than what is on the bus
pub above_is_lower : (roots : List ℕ) (s : System) → IsSystem s → IsNested roots s → (f b : Function) → Contains s f → Contains (bridges_above s f.slot.bus) b → slot_number b.slot < slot_number f.slot
above_is_lower roots s system nested f b listed above =
    let is = above_to s f.slot.bus b above in
    let in_b = is.listed in
    let up = order_of roots s nested b (in_b.0, in_b.1, in_b.2) is.bridge in
    let low = (behind_range b f.slot.bus is.behind).0 in
    lower_bus f b (slots_of s system b (in_b.0, in_b.1, in_b.2)) (omega (arith, up, low))

module _ (q : Request) (s : System) (system : IsSystem s) (nested : IsNested q.roots s) where
  -- what is above a bridge above a bus is above the bus
  pub above_above : (f b d : Function) → Contains (bridges_above s f.slot.bus) b → Contains (bridges_above s b.slot.bus) d → Contains (bridges_above s f.slot.bus) d
  above_above f b d in_b in_d =
      let is_b = above_to s f.slot.bus b in_b in
      let is_d = above_to s b.slot.bus d in_d in
      above_from s f.slot.bus d record {
        listed = is_d.listed;
        bridge = is_d.bridge;
        behind = behind_outer q.roots s system nested b d f.slot.bus is_b.listed is_d.listed is_b.bridge is_d.bridge is_d.behind is_b.behind;
      }

  -- ---- a part that claims an address

  -- what leaves an I/O BAR of a bridge leaves that of what is behind it
  pub left_behind : (f b : Function) → Contains (bridges_above s f.slot.bus) b → has_left q s b ≡ true
      → (is_empty q.lists.io || list_any (λ b. not (has_window IoWindow b.probe)) (bridges_above s f.slot.bus)) ≡ true
  left_behind f b above left =
      let no_window = λ (d : Function). not (has_window IoWindow d.probe) in
      let found : Passes (λ p. is_implemented b p && is_left q s b p) (header_bars b) = any_gives (λ p. is_implemented b p && is_left q s b p) (header_bars b) left in
      let why = (and_parts (is_io_part b found.x) (is_empty q.lists.io || list_any no_window (bridges_above s b.slot.bus)) (and_parts (is_implemented b found.x) (is_left q s b found.x) found.is).1).1 in
      elim (or_cases (is_empty q.lists.io) (list_any no_window (bridges_above s b.slot.bus)) why) [
        | inl none ↦ or_left (is_empty q.lists.io) (list_any no_window (bridges_above s f.slot.bus)) none
        | inr some ↦
            let d : Passes no_window (bridges_above s b.slot.bus) = any_gives no_window (bridges_above s b.slot.bus) some in
            or_right (is_empty q.lists.io) (list_any no_window (bridges_above s f.slot.bus)) (any_from no_window (bridges_above s f.slot.bus) d.x (above_above f b d.x above d.listed) d.is)
      ]

  module _ (f : Function) (listed : Contains s f) where
    pub bar_listed : (n : ℕ) → n < bar_count (layout f.image) → Contains (header_bars f) (Bar n)
    bar_listed n inside = in_map_from Bar (range_with_len 0 (bar_count (layout f.image))) n (in_range_from 0 (bar_count (layout f.image)) n (omega arith) (omega (arith, inside)))

    -- a part that is listed and looked at, of a space, is one that the function has
    pub own_by : (p : Part) (space : Space) → Contains (header_parts f) p → is_part q s f p ≡ true → is_window p ≡ false → space_of f p ≡ space → has_own q s space f ≡ true
    own_by p space there part plain at =
        let r : FunctionPart = record { function = f; part = p } in
        let test = λ (r : FunctionPart). are_same_space space (part_space r) && not (is_window r.part) in
        or_right (list_any (is_answered_by q s space f) (told_regions q.told)) (list_any test (map (λ p. record { function = f; part = p }) (filter (is_part q s f) (header_parts f))))
        (any_from test (map (λ p. record { function = f; part = p }) (filter (is_part q s f) (header_parts f))) r
        (in_map_from (λ p. record { function = f; part = p }) (filter (is_part q s f) (header_parts f)) p (in_filter_from (is_part q s f) (header_parts f) p there part))
        (and_from (are_same_space space (space_of f p)) (not (is_window p)) (ap (are_same_space space) at ∙ same_itself space) (ap not plain)))
