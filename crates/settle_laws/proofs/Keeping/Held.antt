-- What claims an address and stays on through settling has bridges above it that stay on.
use Rattle.std.proofs.Common.{◌≡◌, ℕ, ◌<◌, inl, inr, [], ◌∷◌, refl, true, false, ◌&&◌, ◌||◌, not, arith, sym, ◌∙◌, ap, map}
use Rattle.std.specs.Bool.{◌==◌, if◌then◌else◌}
use Rattle.std.specs.List.{Contains, list_any, filter, range_with_len}
use Rattle.std.proofs.lemmas.Bool.{and_parts, and_from, and_left, or_left, or_right, or_cases, or_parts, or_from, cases_Bool, both_ways, ltb-true, ne_eqb, not-false, not_from_false, false_from_ne_true}
use Rattle.std.proofs.lemmas.List.Elements.{Contains-append_left, Contains-append_right}
use Rattle.pci_spec.specs.Number.{has_bit}
use Rattle.pci_spec.specs.Header.{layout, bar_count}
use Rattle.pci_spec.specs.Bar.{bar_at, has_bar, is_io}
use Rattle.pci_spec.specs.Rom.{rom_at, has_rom, rom_is_on}
use Rattle.pci_spec.specs.Window.{IoWindow, MemoryWindow, PrefetchWindow, has_window}
use Rattle.pci_spec.specs.System.{System, Function, IsSystem, Space, Io, Memory, Part, Bar, Rom, Window, Claims, is_implemented, is_space_on, is_window, space_of}
use Rattle.pci_spec.specs.Bus.{IsNested}
use Rattle.pci_spec.proofs.Members.{in_filter_from, in_map_from, in_range_from}
use Rattle.plan_spec.specs.Plan.{bridges_above, is_io_part}
use Rattle.plan_spec.proofs.Planning.AboveBuses.{above_to, above_from}
use Rattle.plan_spec.proofs.Planning.Behind.{Passes, any_gives, any_from}
use Rattle.settle_spec.specs.Lists.{Request}
use Rattle.settle_spec.specs.Parts.{FunctionPart, is_empty, is_left, is_part, header_bars, header_parts, has_left, are_same_space}
use Rattle.settle_spec.specs.Stands.{part_space}
use Rattle.judge_spec.specs.ToldRegion.{told_regions}
use Rattle.settle_spec.specs.Registers.{is_answered_by, has_own}
use Rattle.settle_spec.specs.Writes.{is_cut_off_in}
use Rattle.settle_spec.specs.Keeping.Writes.{has_moving, is_shut_itself, is_shut, is_left_on}
use Rattle.settle_spec.proofs.Nested.{behind_outer}
use Rattle.settle_laws.proofs.Keeping.Commands.{IsLeftOn, left_parts, left_by}
use Rattle.settle_laws.proofs.NonePasses.{none_by, none_passes}
use Rattle.settle_laws.proofs.Unleft.{has_plain}
use Rattle.settle_spec.specs.Kept.{Kept}
use Rattle.settle_laws.proofs.Held.{same_itself}
use Rattle.settle_laws.proofs.Held.{and_second_false, claimed_bar, io_of, memory_is_not_io}

module _ (q : Request) (s : System) (k : Kept) where
  -- what a function that isn't shut in a space isn't
  pub record IsUnshut (space : Space) (f : Function) : Type 0 where
    pub resting : has_moving q s k space f ≡ false
    pub reached : is_cut_off_in q s f space ≡ false
    pub above : list_any (is_shut_itself q s k space) (bridges_above s f.slot.bus) ≡ false

  pub unshut_parts : (space : Space) (f : Function) → is_shut q s k space f ≡ false → IsUnshut space f
  unshut_parts space f unshut =
      let outer = or_parts (is_shut_itself q s k space f) (list_any (is_shut_itself q s k space) (bridges_above s f.slot.bus)) unshut in
      let itself = or_parts (has_moving q s k space f) (is_cut_off_in q s f space) outer.0 in
      record { resting = itself.0; reached = itself.1; above = outer.1 }

module _ (q : Request) (s : System) (k : Kept) (system : IsSystem s) (nested : IsNested q.roots s) where
  -- what is above a bridge above a bus is above the bus
  pub above_above : (f b d : Function) → Contains (bridges_above s f.slot.bus) b → Contains (bridges_above s b.slot.bus) d → Contains (bridges_above s f.slot.bus) d
  above_above f b d in_b in_d =
      let is_b = above_to s f.slot.bus b in_b in
      let is_d = above_to s b.slot.bus d in_d in
      above_from s f.slot.bus d record {
        listed = is_d.listed;
        bridge = is_d.bridge;
        behind = behind_outer q.roots s system nested b d f.slot.bus is_b.listed is_d.listed is_b.bridge is_d.bridge is_d.behind is_b.behind;
      }

  -- a bridge above what isn't shut isn't either
  pub unshut_above : (space : Space) (f b : Function) → is_shut q s k space f ≡ false → Contains (bridges_above s f.slot.bus) b → is_shut q s k space b ≡ false
  unshut_above space f b unshut above =
      let none = (unshut_parts q s k space f unshut).above in
      or_from (is_shut_itself q s k space b) (list_any (is_shut_itself q s k space) (bridges_above s b.slot.bus))
      (none_passes (is_shut_itself q s k space) (bridges_above s f.slot.bus) none b above)
      (none_by (is_shut_itself q s k space) (bridges_above s b.slot.bus) (λ d in_d. none_passes (is_shut_itself q s k space) (bridges_above s f.slot.bus) none d (above_above f b d above in_d)))

  -- bridges above a part that is on and not shut are on
  pub on_above : (f b : Function) (space : Space) → is_shut q s k space f ≡ false → is_space_on f space ≡ true → has_own q s space f ≡ true → Contains (bridges_above s f.slot.bus) b → is_space_on b space ≡ true
  on_above f b space unshut on own above =
      let none = and_second_false (is_space_on f space && has_own q s space f) (list_any (λ b. not (is_space_on b space)) (bridges_above s f.slot.bus))
      (and_from (is_space_on f space) (has_own q s space f) on own) (unshut_parts q s k space f unshut).reached in
      not-false (is_space_on b space) (none_passes (λ b. not (is_space_on b space)) (bridges_above s f.slot.bus) none b above)

  -- ---- a part that claims an address

  -- what leaves an I/O BAR of a bridge leaves that of what is behind it
  pub left_behind : (f b : Function) → Contains (bridges_above s f.slot.bus) b → has_left q s b ≡ true
      → (is_empty q.lists.io || list_any (λ b. not (has_window IoWindow b.probe)) (bridges_above s f.slot.bus)) ≡ true
  left_behind f b above left =
      let no_window = λ (d : Function). not (has_window IoWindow d.probe) in
      let found : Passes (λ p. is_implemented b p && is_left q s b p) (header_bars b) = any_gives (λ p. is_implemented b p && is_left q s b p) (header_bars b) left in
      let why = (and_parts (is_io_part b found.x) (is_empty q.lists.io || list_any no_window (bridges_above s b.slot.bus)) (and_parts (is_implemented b found.x) (is_left q s b found.x) found.is).1).1 in
      elim (or_cases (is_empty q.lists.io) (list_any no_window (bridges_above s b.slot.bus)) why) [
        | inl none ↦ or_left (is_empty q.lists.io) (list_any no_window (bridges_above s f.slot.bus)) none
        | inr some ↦
            let d : Passes no_window (bridges_above s b.slot.bus) = any_gives no_window (bridges_above s b.slot.bus) some in
            or_right (is_empty q.lists.io) (list_any no_window (bridges_above s f.slot.bus)) (any_from no_window (bridges_above s f.slot.bus) d.x (above_above f b d.x above d.listed) d.is)
      ]

  module _ (f : Function) (listed : Contains s f) where
    pub bar_listed : (n : ℕ) → n < bar_count (layout f.image) → Contains (header_bars f) (Bar n)
    bar_listed n inside = in_map_from Bar (range_with_len 0 (bar_count (layout f.image))) n (in_range_from 0 (bar_count (layout f.image)) n (omega arith) (omega (arith, inside)))

    -- an I/O BAR that is left makes its function one that has such a BAR
    left_of_bar : (n : ℕ) (space : Space) (a : ℕ) → Claims f (Bar n) space a → is_left q s f (Bar n) ≡ true → has_left q s f ≡ true
    left_of_bar n space a c left =
        any_from (λ p. is_implemented f p && is_left q s f p) (header_bars f) (Bar n) (bar_listed n (ltb-true n (bar_count (layout f.image)) c.there))
        (and_from (is_implemented f (Bar n)) (is_left q s f (Bar n)) (claimed_bar f n space a c) left)

    io_space : (n : ℕ) → is_io (bar_at f.probe n) ≡ true → space_of f (Bar n) ≡ Io
    io_space n io = ap (λ t. if t then Io else Memory) io

    unleft_bar : (n : ℕ) (space : Space) (a : ℕ) → Claims f (Bar n) space a → not (are_same_space space Io && has_left q s f) ≡ true → is_left q s f (Bar n) ≡ false
    unleft_bar n space a c unleft = elim (cases_Bool (is_left q s f (Bar n))) [
      | inr fine ↦ fine
      | inl left ↦
          let io = (and_parts (is_io_part f (Bar n)) _ left).0 in
          let at : space ≡ Io = sym c.maps ∙ io_space n io in
          let has = left_of_bar n space a c left in
          absurd (both_ways (not (are_same_space space Io && has_left q s f)) (ap (λ x. not (are_same_space x Io && has_left q s f)) at ∙ ap not has) unleft)
    ]

    -- a part that is listed and looked at, of a space, is one that the function has
    pub plain_by : (p : Part) (space : Space) → Contains (header_parts f) p → is_part q s f p ≡ true → is_window p ≡ false → space_of f p ≡ space → has_plain q s space f ≡ true
    plain_by p space there part plain at =
        let r : FunctionPart = record { function = f; part = p } in
        let test = λ (r : FunctionPart). are_same_space space (part_space r) && not (is_window r.part) in
        any_from test (map (λ p. record { function = f; part = p }) (filter (is_part q s f) (header_parts f))) r
        (in_map_from (λ p. record { function = f; part = p }) (filter (is_part q s f) (header_parts f)) p (in_filter_from (is_part q s f) (header_parts f) p there part))
        (and_from (are_same_space space (space_of f p)) (not (is_window p)) (ap (are_same_space space) at ∙ same_itself space) (ap not plain))

    pub own_by : (p : Part) (space : Space) → Contains (header_parts f) p → is_part q s f p ≡ true → is_window p ≡ false → space_of f p ≡ space → has_own q s space f ≡ true
    own_by p space there part plain at = or_right (list_any (is_answered_by q s space f) (told_regions q.told)) (has_plain q s space f) (plain_by p space there part plain at)

    pub own : (p : Part) (space : Space) (a : ℕ) → is_window p ≡ false → Claims f p space a → not (are_same_space space Io && has_left q s f) ≡ true → has_own q s space f ≡ true
    own (Bar n) space a plain c unleft =
        own_by (Bar n) space (Contains-append_left (header_bars f) _ (Bar n) (bar_listed n (ltb-true n (bar_count (layout f.image)) c.there)))
        (and_from (has_bar f.probe n) (not (is_left q s f (Bar n))) (claimed_bar f n space a c) (ap not (unleft_bar n space a c unleft))) plain c.maps
    own Rom space a plain c unleft =
        let on = (and_parts (is_space_on f Memory) (rom_is_on f.image) c.enabled).1 in
        let some : (rom_at f.image f.image == 0) ≡ false = ne_eqb (rom_at f.image f.image) 0 (λ none. both_ways (has_bit (rom_at f.image f.image) 0) (ap (λ n. has_bit n 0) none) on) in
        own_by Rom space
        (Contains-append_right (header_bars f) (Window IoWindow ∷ Window MemoryWindow ∷ Window PrefetchWindow ∷ Rom ∷ []) Rom (3, omega arith, refl))
        (and_from (has_rom f.image f.probe) (rom_is_on f.image) (ap not (and_left (rom_at f.image f.image == 0) (rom_at f.image f.probe == 0) some)) on) plain c.maps
    own (Window kind) space a plain c unleft = absurd (both_ways true plain refl)

    -- nor has a bridge above it a BAR that is left, where that counts
    unleft_above : (b : Function) (p : Part) (space : Space) (a : ℕ) → is_window p ≡ false → Claims f p space a → not (are_same_space space Io && has_left q s f) ≡ true → Contains (bridges_above s f.slot.bus) b
        → not (are_same_space space Io && has_left q s b) ≡ true
    unleft_above b p Memory a plain c unleft above = refl
    unleft_above b (Bar n) Io a plain c unleft above =
        not_from_false (has_left q s b) (false_from_ne_true (has_left q s b) (λ left.
        both_ways (is_left q s f (Bar n)) (unleft_bar n Io a c unleft)
        (and_from (is_io_part f (Bar n)) (is_empty q.lists.io || list_any (λ b. not (has_window IoWindow b.probe)) (bridges_above s f.slot.bus)) (io_of (is_io (bar_at f.probe n)) c.maps) (left_behind f b above left))))
    unleft_above b Rom Io a plain c unleft above = absurd (memory_is_not_io c.maps)
    unleft_above b (Window kind) Io a plain c unleft above = absurd (both_ways true plain refl)

    -- The law: what claims an address and is left on has bridges above that are left on.
    pub held : (b : Function) (p : Part) (space : Space) (a : ℕ) → is_window p ≡ false → Claims f p space a → is_left_on q s k space f ≡ true → Contains (bridges_above s f.slot.bus) b → is_left_on q s k space b ≡ true
    held b p space a plain c left above =
        let is : IsLeftOn q s k f space = left_parts q s k f space left in
        left_by q s k b space record {
          unshut = unshut_above space f b is.unshut above;
          unleft = unleft_above b p space a plain c is.unleft above;
          was = on_above f b space is.unshut is.was (own p space a plain c is.unleft) above;
        }
