-- A system with the planned numbers shows the places of its table, and Command enables what there is to decode.
use Rattle.std.proofs.Common.{◌≡◌, ℕ, ◌+◌, ◌-◌, List, [], ◌∷◌, refl, true, ◌&&◌, ◌||◌, not, sym, ◌∙◌, ap, subst}
use Rattle.std.specs.Bool.{nat_lt}
use Rattle.std.specs.List.{Contains, AllZip, list_any}
use Rattle.std.proofs.lemmas.Bool.{and_parts, and_from, ltb-true, eqb-true}
use Rattle.pci_spec.specs.Number.{has_bit}
use Rattle.pci_spec.specs.Header.{command, layout, bar_count}
use Rattle.pci_spec.specs.Rom.{has_rom}
use Rattle.pci_spec.specs.Window.{WindowKind, IoWindow, MemoryWindow, PrefetchWindow, has_window}
use Rattle.pci_spec.specs.Bar.{has_bar}
use Rattle.pci_spec.specs.System.{System, Function, Io, Memory, Part, Bar, Rom, Window, is_bridge, bars_and_rom}
use Rattle.plan_spec.specs.Plan.{Pools, class_of, same_class, window_size, has_behind, is_open, is_io_part, wants, IsMoved}
use Rattle.plan_spec.specs.Planning.Layout.{range_of, is_item, IsSwitchedOn}
use Rattle.plan_spec.specs.Planning.Numbers.{place_at, needs_io, needs_memory, IsPlannedFunction}
use Rattle.plan_spec.specs.Planning.Plannable.{IsPlannable}
use Rattle.plan_spec.specs.Planning.Table.{need_behind, is_placed, size_in, IsTable, IsShown}
use Rattle.pci_spec.proofs.Members.{in_head, in_tail}
use Rattle.plan_spec.proofs.Planning.Moved.{layout_same}
use Rattle.pci_spec.proofs.Pairs.{member_back}
use Rattle.plan_spec.proofs.Planning.OtherRules.{has_rom_same}
use Rattle.plan_spec.proofs.Planning.Classes.{class_stays}
use Rattle.plan_spec.proofs.Planning.NeededWindows.{needed_window}
use Rattle.plan_spec.proofs.Planning.Planned.{any_same, parts_same}
use Rattle.plan_spec.proofs.Planning.Tables.{class_itself}
use Rattle.plan_spec.proofs.Planning.PlacedItems.{same_class_is}
use Rattle.plan_spec.proofs.Planning.CommandFits.{enables_io, enables_memory}
use Rattle.plan_spec.proofs.Planning.Reach.{need_is_behind}
use Rattle.plan_spec.proofs.Planning.NumbersFit.{is_function, is_decodable, need_same}
use Rattle.plan_spec.proofs.Planning.Shown.{planned_is_moved, bar_range, rom_range, opened_window, open_is}

-- of pairs what follows for each
pub zip_by : (R Q : Function → Function → Type 0) (xs ys : List Function) → ((f g : Function) → Contains xs f → R f g → Q f g) → AllZip R xs ys → AllZip Q xs ys
zip_by R Q [] [] step pairs = tt
zip_by R Q [] (y ∷ ys) step pairs = absurd pairs
zip_by R Q (x ∷ xs) [] step pairs = absurd pairs
zip_by R Q (x ∷ xs) (y ∷ ys) step (first, rest) = (step x y (in_head x xs) first, zip_by R Q xs ys (λ f g listed. step f g (in_tail x xs f listed)) rest)

io_part_same : (f g : Function) → g.probe ≡ f.probe → (part : Part) → is_io_part g part ≡ is_io_part f part
io_part_same f g e (Bar n) = ap (λ probe. is_io_part record f { probe = probe } (Bar n)) e
io_part_same f g e Rom = refl
io_part_same f g e (Window kind) = refl

module _ (roots : List ℕ) (s t : System) (pools : Pools) (p : IsPlannable roots s pools) (tables : (c : WindowKind) → IsTable roots s pools c (place_at roots s pools))
    (planned : AllZip (IsPlannedFunction roots s pools) s t) where
  pub planned_pairs : AllZip IsMoved s t
  planned_pairs = zip_by (IsPlannedFunction roots s pools) IsMoved s t (planned_is_moved roots s pools p tables) planned

  -- ---- the window that is needed is there

  window_there : (b : Function) (kind : WindowKind) → Contains s b → is_bridge b ≡ true → has_behind s pools kind b ≡ true → has_window kind b.probe ≡ true
  window_there b kind listed bridge has =
      let d = is_decodable roots s pools p tables b listed in
      let need = ltb-true 0 (need_behind s pools kind b) (sym (need_is_behind roots s pools p (place_at roots s pools) tables b kind listed bridge) ∙ has) in
      needed_window roots s pools p.system p.nested p.can.windows kind (tables kind).small b listed bridge (d.windows kind (eqb-true (layout b.image) 1 bridge)) need

  record PlacedWindow (f : Function) (c : WindowKind) (kind : WindowKind) : Type 0 where
    bridge : is_bridge f ≡ true
    class : c ≡ kind
    has : has_behind s pools kind f ≡ true

  placed_window : (f : Function) → Contains s f → (c : WindowKind) (kind : WindowKind) → is_placed s pools c f (Window kind) ≡ true → PlacedWindow f c kind
  placed_window f listed c kind placed =
      let outer = and_parts (is_bridge f && same_class c kind) (nat_lt 0 (need_behind s pools c f)) placed in
      let inner = and_parts (is_bridge f) (same_class c kind) outer.0 in
      let class = sym (same_class_is c kind inner.1) in
      let need : nat_lt 0 (need_behind s pools kind f) ≡ true = subst (λ d. nat_lt 0 (need_behind s pools d f) ≡ true) class outer.1 in
      record { bridge = inner.0; class = class; has = need_is_behind roots s pools p (place_at roots s pools) tables f kind listed inner.0 ∙ need }

  -- ---- one function

  -- a part that is placed shows its place
  shows : (f g : Function) → Contains s f → IsPlannedFunction roots s pools f g → (c : WindowKind) (part : Part) → is_placed s pools c f part ≡ true
      → range_of g part ≡ record { first = place_at roots s pools f part; last = place_at roots s pools f part + (size_in s pools c f part - 1) }
  shows f g listed filled c (Bar n) placed =
      let item = (and_parts (nat_lt n (bar_count (layout f.image)) && has_bar f.probe n) (same_class c (class_of s pools f (Bar n))) placed).0 in
      let parts = and_parts (nat_lt n (bar_count (layout f.image))) (has_bar f.probe n) item in
      bar_range roots s pools p tables f g listed filled n (ltb-true n (bar_count (layout f.image)) parts.0) parts.1
  shows f g listed filled c Rom placed = rom_range roots s pools p tables f g listed filled (and_parts (has_rom f.image f.probe) (same_class c MemoryWindow) placed).0
  shows f g listed filled c (Window kind) placed =
      let found = placed_window f listed c kind placed in
      let place = place_at roots s pools f (Window kind) in
      (opened_window roots s pools p tables f g listed filled found.bridge kind (window_there f kind listed found.bridge found.has) found.has).0
      ∙ ap (λ need. record { first = place; last = place + (window_size kind need - 1) }) (need_same roots s pools p tables f listed kind found.bridge)
      ∙ ap (λ d. record { first = place; last = place + (window_size d (need_behind s pools d f) - 1) }) (sym found.class)

  open_by : (f g : Function) → Contains s f → IsPlannedFunction roots s pools f g → (kind : WindowKind) → is_bridge f ≡ true → has_behind s pools kind f ≡ true → is_open g kind ≡ true
  open_by f g listed filled kind bridge has =
      open_is roots s pools p tables f g listed filled kind
      ∙ and_from (is_bridge f && has_window kind f.probe) (has_behind s pools kind f) (and_from (is_bridge f) (has_window kind f.probe) bridge (window_there f kind listed bridge has)) has

  opens : (f g : Function) → Contains s f → IsPlannedFunction roots s pools f g → (c : WindowKind) → is_placed s pools c f (Window c) ≡ true → is_open g c ≡ true
  opens f g listed filled c placed = let found = placed_window f listed c c placed in open_by f g listed filled c found.bridge found.has

  -- and nothing else has a place
  only : (f g : Function) → Contains s f → IsPlannedFunction roots s pools f g → (part : Part) → is_item g part ≡ true → is_placed s pools (class_of t pools g part) f part ≡ true
  only f g listed filled (Bar n) item =
      let is = is_function roots s pools p tables f listed in
      let m = planned_is_moved roots s pools p tables f g listed filled in
      let c = class_of s pools f (Bar n) in
      let was : (nat_lt n (bar_count (layout f.image)) && has_bar f.probe n) ≡ true =
      ap (λ k. nat_lt n (bar_count k) && has_bar f.probe n) (sym (layout_same f g m is.image)) ∙ ap (λ probe. nat_lt n (bar_count (layout g.image)) && has_bar probe n) (sym m.probe) ∙ item in
      ap (λ d. is_placed s pools d f (Bar n)) (class_stays s t p.system planned_pairs pools f g m (Bar n))
      ∙ and_from (nat_lt n (bar_count (layout f.image)) && has_bar f.probe n) (same_class c c) was (class_itself c)
  only f g listed filled Rom item =
      let is = is_function roots s pools p tables f listed in
      let m = planned_is_moved roots s pools p tables f g listed filled in
      and_from (has_rom f.image f.probe) true (sym (has_rom_same f g m is.image) ∙ item) refl
  only f g listed filled (Window kind) item =
      let outer = and_parts (is_bridge f && has_window kind f.probe) (has_behind s pools kind f) (sym (open_is roots s pools p tables f g listed filled kind) ∙ item) in
      let inner = and_parts (is_bridge f) (has_window kind f.probe) outer.0 in
      let need : nat_lt 0 (need_behind s pools kind f) ≡ true = sym (need_is_behind roots s pools p (place_at roots s pools) tables f kind listed inner.0) ∙ outer.1 in
      and_from (is_bridge f && same_class kind kind) (nat_lt 0 (need_behind s pools kind f)) (and_from (is_bridge f) (same_class kind kind) inner.0 (class_itself kind)) need

  pub shown_one : (f g : Function) → Contains s f → IsPlannedFunction roots s pools f g → IsShown s t pools (place_at roots s pools) f g
  shown_one f g listed filled = record {
    moved = planned_is_moved roots s pools p tables f g listed filled;
    shows = shows f g listed filled;
    opens = opens f g listed filled;
    only = only f g listed filled;
  }

  pub all_shown : AllZip (IsShown s t pools (place_at roots s pools)) s t
  all_shown = zip_by (IsPlannedFunction roots s pools) (IsShown s t pools (place_at roots s pools)) s t shown_one planned

  -- ---- Command

  parts_kept : (f g : Function) → Contains s f → IsPlannedFunction roots s pools f g → bars_and_rom g ≡ bars_and_rom f
  parts_kept f g listed filled = parts_same f g (planned_is_moved roots s pools p tables f g listed filled) (is_function roots s pools p tables f listed)

  io_wanted : (f g : Function) → Contains s f → IsPlannedFunction roots s pools f g → wants g Io ≡ needs_io s pools f
  io_wanted f g listed filled =
      ap (λ parts. list_any (λ part. is_io_part g part) parts || is_open g IoWindow) (parts_kept f g listed filled)
      ∙ ap (λ b. b || is_open g IoWindow) (any_same (λ part. is_io_part g part) (λ part. is_io_part f part) (bars_and_rom f) (io_part_same f g filled.probe))
      ∙ ap (λ b. list_any (is_io_part f) (bars_and_rom f) || b) (open_is roots s pools p tables f g listed filled IoWindow)

  memory_wanted : (f g : Function) → Contains s f → IsPlannedFunction roots s pools f g → wants g Memory ≡ needs_memory s pools f
  memory_wanted f g listed filled =
      let memory = is_open g MemoryWindow in
      let prefetch = is_open g PrefetchWindow in
      let own = list_any (λ part. not (is_io_part f part)) (bars_and_rom f) in
      ap (λ parts. list_any (λ part. not (is_io_part g part)) parts || memory || prefetch) (parts_kept f g listed filled)
      ∙ ap (λ b. b || memory || prefetch) (any_same (λ part. not (is_io_part g part)) (λ part. not (is_io_part f part)) (bars_and_rom f) (λ part. ap not (io_part_same f g filled.probe part)))
      ∙ ap (λ b. own || b || prefetch) (open_is roots s pools p tables f g listed filled MemoryWindow)
      ∙ ap (λ b. own || (is_bridge f && has_window MemoryWindow f.probe && has_behind s pools MemoryWindow f) || b) (open_is roots s pools p tables f g listed filled PrefetchWindow)

  pub switched_on : IsSwitchedOn t
  switched_on = record {
    io = λ g in_g.
        let found = member_back (IsPlannedFunction roots s pools) s t planned g in_g in
        let f = found.0 in
        ap (λ n. has_bit n 0) found.2.command_is ∙ enables_io (command f.image) (needs_io s pools f) (needs_memory s pools f) ∙ sym (io_wanted f g found.1 found.2);
    memory = λ g in_g.
        let found = member_back (IsPlannedFunction roots s pools) s t planned g in_g in
        let f = found.0 in
        ap (λ n. has_bit n 1) found.2.command_is ∙ enables_memory (command f.image) (needs_io s pools f) (needs_memory s pools f) ∙ sym (memory_wanted f g found.1 found.2);
  }
