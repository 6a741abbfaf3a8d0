-- What has an I/O BAR that isn't left has none that is. Nor has a bridge above it, or above a told range of I/O that stands.
use Rattle.std.proofs.Common.{◌≡◌, inl, inr, refl, Bool, true, false, ◌&&◌, ◌||◌, not, sym, ◌∙◌, ap}
use Rattle.std.specs.Bool.{if◌then◌else◌}
use Rattle.std.specs.List.{Contains, list_any, filter}
use Rattle.std.proofs.lemmas.Bool.{and_parts, both_ways, or_cases, not-true, not_from_false, false_from_ne_true}
use Rattle.pci_spec.specs.Bar.{bar_at, has_bar, is_io}
use Rattle.pci_spec.specs.Window.{IoWindow, has_window}
use Rattle.pci_spec.specs.System.{System, Function, IsSystem, Space, Io, Memory, Bar, is_implemented, is_window, space_of}
use Rattle.pci_spec.specs.Bus.{IsNested}
use Rattle.pci_spec.proofs.Members.{in_filter_to, IsMade, in_map_to}
use Rattle.plan_spec.specs.Plan.{bridges_above, is_io_part}
use Rattle.plan_spec.proofs.Planning.Behind.{Passes, any_gives}
use Rattle.settle_spec.specs.Lists.{Request}
use Rattle.settle_spec.specs.Parts.{FunctionPart, function_parts, is_empty, is_left, is_part, header_bars, header_parts, has_left, are_same_space}
use Rattle.settle_spec.specs.Stands.{part_space, range_stands}
use Rattle.settle_spec.specs.Registers.{is_answered_by, has_own}
use Rattle.settle_laws.proofs.HeaderParts.{part_cases}
use Rattle.settle_laws.proofs.Held.{and_second_false, left_behind}
use Rattle.settle_laws.proofs.Kept.{one_space}
use Rattle.settle_laws.proofs.Told.Reached.{range_unleft}
use Rattle.pci_spec.specs.Slot.{Slot, same_slot}
use Rattle.pci_spec.proofs.SameSlot.{slots_same}
use Rattle.judge_spec.specs.ToldRegion.{told_regions}
use Rattle.settle_spec.specs.Lines.{is_command_line}

memory_is_no_io : (io : Bool) → are_same_space Io (if io then Io else Memory) ≡ true → io ≡ true
memory_is_no_io true e = refl
memory_is_no_io false e = absurd (both_ways false refl e)

-- a function has a BAR or ROM of a space that is looked at
abbrev pub has_plain : Request → System → Space → Function → Bool
has_plain q s space f = list_any (λ r. are_same_space space (part_space r) && not (is_window r.part)) (function_parts q s f)

module _ (q : Request) (s : System) (system : IsSystem s) (nested : IsNested q.roots s) where
  abbrev pub cause : Function → Bool
  cause f = is_empty q.lists.io || list_any (λ b. not (has_window IoWindow b.probe)) (bridges_above s f.slot.bus)

  pub no_cause : (f : Function) → has_plain q s Io f ≡ true → cause f ≡ false
  no_cause f own =
      let test = λ (r : FunctionPart). are_same_space Io (part_space r) && not (is_window r.part) in
      let found : Passes test (function_parts q s f) = any_gives test (function_parts q s f) own in
      let made : IsMade (λ p. record { function = f; part = p }) (filter (is_part q s f) (header_parts f)) found.x = in_map_to (λ p. record { function = f; part = p }) (filter (is_part q s f) (header_parts f)) found.x found.listed in
      let p = made.from in
      let part = in_filter_to (is_part q s f) (header_parts f) p made.has in
      let is = and_parts (are_same_space Io (space_of f p)) (not (is_window p)) (ap test made.is ∙ found.is) in
      elim (part_cases f p part.0) [
        | inl bar ↦
            let io = memory_is_no_io (is_io (bar_at f.probe bar.n)) (ap (λ x. are_same_space Io (space_of f x)) bar.is ∙ is.0) in
            let kept = not-true (is_left q s f (Bar bar.n)) (and_parts (has_bar f.probe bar.n) (not (is_left q s f (Bar bar.n))) (ap (is_part q s f) bar.is ∙ part.1)).1 in
            and_second_false (is_io_part f (Bar bar.n)) (cause f) io kept
        | inr (inl window) ↦ absurd (both_ways false refl (ap (λ x. not (is_window x)) window.is ∙ is.1))
        | inr (inr rom) ↦ absurd (both_ways false refl (ap (λ x. are_same_space Io (space_of f x)) rom ∙ is.0))
      ]

  -- what is above a function with something of a space to answer
  pub unleft : (f b : Function) (space : Space) → has_own q s space f ≡ true → Contains (bridges_above s f.slot.bus) b → not (are_same_space space Io && has_left q s b) ≡ true
  unleft f b Memory own above = refl
  unleft f b Io own above = not_from_false (has_left q s b) (elim (or_cases (list_any (is_answered_by q s Io f) (told_regions q.told)) (has_plain q s Io f) own) [
    | inl told ↦
        let x : Passes (is_answered_by q s Io f) (told_regions q.told) = any_gives (is_answered_by q s Io f) (told_regions q.told) told in
        let three = and_parts (is_command_line x.x && same_slot x.x.told.slot f.slot && are_same_space Io x.x.told.space) (range_stands q s x.x) x.is in
        let two = and_parts (is_command_line x.x && same_slot x.x.told.slot f.slot) (are_same_space Io x.x.told.space) three.0 in
        let slot = slots_same x.x.told.slot f.slot (and_parts (is_command_line x.x) (same_slot x.x.told.slot f.slot) two.0).1 in
        range_unleft q s system nested f x.x three.1 (sym (one_space Io x.x.told.space two.1)) (ap (λ (t : Slot). t.bus) slot) b above
    | inr plain ↦ false_from_ne_true (has_left q s b) (λ left. both_ways (cause f) (no_cause f plain) (left_behind q s system nested f b above left))
  ])

  -- and a function with such a BAR or ROM itself
  pub unleft_itself : (f : Function) (space : Space) → has_plain q s space f ≡ true → not (are_same_space space Io && has_left q s f) ≡ true
  unleft_itself f Memory own = refl
  unleft_itself f Io own = not_from_false (has_left q s f) (false_from_ne_true (has_left q s f) (λ left.
      let found : Passes (λ p. is_implemented f p && is_left q s f p) (header_bars f) = any_gives (λ p. is_implemented f p && is_left q s f p) (header_bars f) left in
      both_ways (cause f) (no_cause f own) (and_parts (is_io_part f found.x) (cause f) (and_parts (is_implemented f found.x) (is_left q s f found.x) found.is).1).1))
