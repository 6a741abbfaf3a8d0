-- What moves of a function and in which spaces it is shut, by its record and its two images, is what the definitions say.
use Rattle.std.proofs.Common.{◌≡◌, ℕ, ◌+◌, ◌-◌, ◌/◌, arith, List, [], ◌∷◌, Bool, true, false, ◌&&◌, ◌||◌, not, refl, sym, ◌∙◌, ap}
use Rattle.std.specs.Bool.{if◌then◌else◌}
use Rattle.std.specs.Option.{is_some}
use Rattle.std.specs.List.{filter, list_any}
use Rattle.std.proofs.lemmas.Bool.{lt-ltb}
use Rattle.std.proofs.lemmas.List.Folds.{list_any-append}
use Rattle.pci_spec.specs.Header.{command, layout, bar_count, rom_place}
use Rattle.pci_spec.specs.Bar.{bar_at, has_bar, is_wide}
use Rattle.pci_spec.specs.Rom.{has_rom, rom_is_on}
use Rattle.pci_spec.specs.Machine.{without_low}
use Rattle.pci_spec.specs.Window.{WindowKind, IoWindow, MemoryWindow, PrefetchWindow}
use Rattle.pci_spec.specs.Decoded.{DecodedBar, decoded_bar}
use Rattle.pci_spec.specs.Decoded as decoded
use Rattle.pci_spec.specs.System.{System, Function, Space, Io, Memory, Part, Bar, Rom, Window, is_window, has_part, is_space_on, space_of}
use Rattle.pci_spec.proofs.Members.{in_range_to}
use Rattle.plan_spec.specs.Plan.{bridges_above, is_open}
use Rattle.judge_spec.specs.ToldRegion.{told_regions}
use Rattle.settle_spec.specs.Lists.{Request}
use Rattle.settle_spec.specs.Parts.{FunctionPart, is_part, is_left, header_bars, header_parts, are_same_space, class_in, has_left}
use Rattle.settle_spec.specs.Registers.{is_answered_by, has_own}
use Rattle.settle_spec.specs.Writes.{differs_at, part_registers, is_cut_off_in}
use Rattle.settle_spec.specs.Kept.{Kept}
use Rattle.settle_spec.specs.Keeping.Registers.{settled_function}
use Rattle.settle_spec.specs.Keeping.Writes.{changes_at, changes_window, changes_above, moves, has_moving, is_shut_itself, is_shut, closing_command}
use Rattle.pci_base.specs.Space.{is_on}
use Rattle.pci_image.specs.declared.bar.Bar.{Bar as CodeBar}
use Rattle.pci_image.specs.Bars.{decoded_bar_of}
use Rattle.pci_function.specs.declared.record.Record.{Record}
use Rattle.pci_tree.proofs.Lifting.{same_bridge, same_slot_of}
use Rattle.pci_place.specs.Classes.{is_wide_kind}
use Rattle.pci_place.specs.Records.{IsRecordInSystem}
use Rattle.pci_place.proofs.ClassOf.{kind_wide}
use Rattle.pci_place.proofs.Parts.{rom_of}
use Rattle.pci_first_fit.specs.Kept.{kept_of}
use Rattle.pci_first_fit.specs.Own.{is_left_bar, bar_class_of}
use Rattle.pci_first_fit.proofs.OwnItems.{class_by}
use Rattle.pci_settle_places.specs.Answers.{is_answering}
use Rattle.pci_settle_places.specs.Claims.{has_left_bar, has_kept}
use Rattle.pci_settle_places.proofs.AnsweringFunctions.{answering_is}
use Rattle.pci_settle_places.proofs.PlacedImages.{register_place}
use Rattle.pci_settle_places.proofs.KeptClaims.{any_map, any_filter, any_bar, on_is, bar_space, left_is, left_are, rom_on_is, kept_are}
use Rattle.pci_settle.specs.declared.shut.Around.{Around}
use Rattle.pci_settle.specs.declared.way.BySpace.{BySpace}
use Rattle.pci_settle.specs.Shut.{IsAroundFunction, flag_in_space, in_class, differs_in, window_registers, is_window_changed, is_bar_changed, is_moving_bar, has_moving_rom, has_moving_by, has_own_around, is_cut_off_by, is_shut_by, closing_by}
use Rattle.pci_settle.proofs.Ways.{not_all, not_none}

-- ---- tests

or_nothing : (a : Bool) → (a || false) ≡ a
or_nothing true = refl
or_nothing false = refl

-- in the order in which the definitions have them
moving_order : (there left is moved : Bool) → (there && (is && not left && moved)) ≡ ((there && not left) && (is && true && moved))
moving_order true true true moved = refl
moving_order true true false moved = refl
moving_order true false true moved = refl
moving_order true false false moved = refl
moving_order false left is moved = refl

-- a window is no BAR or ROM
no_window : (part is moved : Bool) → (part && (is && false && moved)) ≡ false
no_window true true moved = refl
no_window true false moved = refl
no_window false is moved = refl

rom_alone : (memory on moved : Bool) → (memory && (on && moved)) ≡ ((on && (memory && true && moved)) || false)
rom_alone true true true = refl
rom_alone true true false = refl
rom_alone true false moved = refl
rom_alone false true moved = refl
rom_alone false false moved = refl

registers_same : (f : Function) (c : WindowKind) → window_registers c ≡ part_registers f (Window c)
registers_same f IoWindow = refl
registers_same f MemoryWindow = refl
registers_same f PrefetchWindow = refl

-- ---- what changes

module _ (q : Request) (s : System) (keep : Kept) (f : Function) (old new : List ℕ) (old_is : old ≡ f.image) (new_is : new ≡ (settled_function q s keep f).image) where
  differs : (p : ℕ × ℕ) → differs_in old new p ≡ differs_at f (settled_function q s keep f) p
  differs p = ap (λ x. differs_in x new p) old_is ∙ ap (λ x. differs_in f.image x p) new_is

  pub window_is : (c : WindowKind) → is_window_changed c old new ≡ changes_at q s keep f (Window c)
  window_is c =
      ap (λ x. is_window_changed c x new) old_is ∙ ap (λ x. is_window_changed c f.image x) new_is
      ∙ ap (list_any (differs_at f (settled_function q s keep f))) (registers_same f c)

-- ---- of a record

module _ (q : Request) (s : System) (keep : Kept) (f : Function) (r : Record) (is : IsRecordInSystem s f r) (o : Around) (at : IsAroundFunction q s keep f o) where
  above_is : (c : WindowKind) → not (in_class o.way.same c) ≡ changes_above q s keep c f.slot.bus
  above_is c = ap not (at.way.same c) ∙ not_none (changes_window q s keep c) (bridges_above s f.slot.bus)

  abbrev region : Part → FunctionPart
  region part = record { function = f; part = part }

  module _ (old new : List ℕ) (old_is : old ≡ f.image) (new_is : new ≡ (settled_function q s keep f).image) where
    bar_is : (bar : CodeBar) (n : ℕ) → decoded_bar_of bar ≡ decoded_bar f.image f.probe n → is_bar_changed old new bar ≡ changes_at q s keep f (Bar n)
    bar_is bar n e =
        differs q s keep f old new old_is new_is (bar.reg, if is_wide_kind bar.kind then 8 else 4)
        ∙ ap (λ w. differs_at f (settled_function q s keep f) (bar.reg, if w then 8 else 4)) (kind_wide f bar n e)
        ∙ ap (λ (x : DecodedBar). differs_at f (settled_function q s keep f) (x.register, if is_wide (bar_at f.probe n) then 8 else 4)) e
        ∙ sym (or_nothing _)

    bar_changes : (bar : CodeBar) (n : ℕ) → decoded_bar_of bar ≡ decoded_bar f.image f.probe n
        → (is_bar_changed old new bar || not (in_class o.way.same (bar_class_of bar o.over o.answering.terms.prefetch_last))) ≡ (changes_at q s keep f (Bar n) || changes_above q s keep (class_in q s f (Bar n)) f.slot.bus)
    bar_changes bar n e =
        ap (λ b. b || not (in_class o.way.same (bar_class_of bar o.over o.answering.terms.prefetch_last))) (bar_is bar n e)
        ∙ ap (λ c. changes_at q s keep f (Bar n) || not (in_class o.way.same c)) (class_by q s f r o.over o.answering.terms is at.terms at.over bar n e)
        ∙ ap (λ b. changes_at q s keep f (Bar n) || b) (above_is (class_in q s f (Bar n)))

    -- what changes of the BAR at a register, unless the table has it as one that stays
    abbrev moved : ℕ → Bool
    moved n = not (kept_of o.kept.now (Bar n)) && (changes_at q s keep f (Bar n) || changes_above q s keep (class_in q s f (Bar n)) f.slot.bus)

    bar_moves : (bar : CodeBar) (n : ℕ) → decoded_bar_of bar ≡ decoded_bar f.image f.probe n
        → (not (kept_of o.kept.now (Bar ((bar.reg - 0x10) / 4))) && (is_bar_changed old new bar || not (in_class o.way.same (bar_class_of bar o.over o.answering.terms.prefetch_last)))) ≡ moved n
    bar_moves bar n e =
        ap (λ m. not (kept_of o.kept.now (Bar m)) && (is_bar_changed old new bar || not (in_class o.way.same (bar_class_of bar o.over o.answering.terms.prefetch_last))))
        (register_place bar.reg n (ap (λ (x : DecodedBar). x.register) e))
        ∙ ap (λ b. not (kept_of o.kept.now (Bar n)) && b) (bar_changes bar n e)

    moved_is : (n : ℕ) → has_part f (Bar n) ≡ true → moved n ≡ moves q s keep (region (Bar n))
    moved_is n there = ap (λ b. not b && (changes_at q s keep f (Bar n) || changes_above q s keep (class_in q s f (Bar n)) f.slot.bus)) (at.kept (Bar n) there)

    module _ (space : Space) where
      abbrev is_of : Part → Bool
      is_of part = are_same_space space (space_of f part)

      abbrev others : List Part
      others = Window IoWindow ∷ Window MemoryWindow ∷ Window PrefetchWindow ∷ Rom ∷ []

      bar_same : (bar : CodeBar) (n : ℕ) → decoded_bar_of bar ≡ decoded_bar f.image f.probe n
          → is_moving_bar o space old new bar ≡ (is_of (Bar n) && not (is_left q s f (Bar n)) && moved n)
      bar_same bar n e =
          let all : Bool = not (kept_of o.kept.now (Bar ((bar.reg - 0x10) / 4))) && (is_bar_changed old new bar || not (in_class o.way.same (bar_class_of bar o.over o.answering.terms.prefetch_last))) in
          ap (λ b. b && not (is_left_bar bar o.over.above o.answering.terms.has_io) && all) (bar_space f space bar n e)
          ∙ ap (λ b. is_of (Bar n) && not b && all) (left_is q s f r is o.over.above at.over.above o.answering.terms at.terms bar n e)
          ∙ ap (λ b. is_of (Bar n) && not (is_left q s f (Bar n)) && b) (bar_moves bar n e)

      abbrev own : Part → Bool
      own part = is_part q s f part && (is_of part && not (is_window part) && moves q s keep (region part))

      rom_moves : has_moving_rom o old new r ≡ ((has_rom f.image f.probe && rom_is_on f.image) && moves q s keep (region Rom))
      rom_moves =
          let on : Bool = has_rom f.image f.probe && rom_is_on f.image in
          ap (λ b. b && (not o.kept.now.rom && (differs_in old new (rom_place (is_some r.bridge), 4) || not o.way.same.memory)))
          (rom_on_is q s f r is o.over.above at.over.above o.answering.terms at.terms space r.rom (rom_of s f r is))
          ∙ ap (λ b. on && (not b && (differs_in old new (rom_place (is_some r.bridge), 4) || not o.way.same.memory))) (at.kept Rom refl)
          ∙ ap (λ b. on && (not (keep.stays (region Rom)) && (b || not o.way.same.memory))) (differs q s keep f old new old_is new_is (rom_place (is_some r.bridge), 4))
          ∙ ap (λ b. on && (not (keep.stays (region Rom)) && (differs_at f (settled_function q s keep f) (rom_place b, 4) || not o.way.same.memory))) (same_bridge r f is.value)
          ∙ ap (λ b. on && (not (keep.stays (region Rom)) && (b || not o.way.same.memory))) (sym (or_nothing _))
          ∙ ap (λ b. on && (not (keep.stays (region Rom)) && (changes_at q s keep f Rom || b))) (above_is MemoryWindow)

      own_others : (are_same_space space Memory && has_moving_rom o old new r) ≡ list_any own others
      own_others =
          let rest : Bool = own Rom || false in
          ap (λ b. are_same_space space Memory && b) rom_moves
          ∙ rom_alone (are_same_space space Memory) (has_rom f.image f.probe && rom_is_on f.image) (moves q s keep (region Rom))
          ∙ sym (ap (λ b. b || (own (Window MemoryWindow) || (own (Window PrefetchWindow) || rest))) (no_window (is_open f IoWindow) (is_of (Window IoWindow)) (moves q s keep (region (Window IoWindow))))
          ∙ ap (λ b. b || (own (Window PrefetchWindow) || rest)) (no_window (is_open f MemoryWindow) (is_of (Window MemoryWindow)) (moves q s keep (region (Window MemoryWindow))))
          ∙ ap (λ b. b || rest) (no_window (is_open f PrefetchWindow) (is_of (Window PrefetchWindow)) (moves q s keep (region (Window PrefetchWindow)))))

      moving_are : has_moving_by o space old new r ≡ has_moving q s keep space f
      moving_are =
          ap (λ b. b || (are_same_space space Memory && has_moving_rom o old new r))
          (any_bar s f r is (is_moving_bar o space old new) (λ n. is_of (Bar n) && not (is_left q s f (Bar n)) && moved n) own bar_same
          (λ n listed.
          let low = (in_range_to 0 (bar_count (layout f.image)) n listed).1 in
          moving_order (has_bar f.probe n) (is_left q s f (Bar n)) (is_of (Bar n)) (moved n)
          ∙ ap (λ b. (has_bar f.probe n && not (is_left q s f (Bar n))) && (is_of (Bar n) && true && b)) (moved_is n (lt-ltb n (bar_count (layout f.image)) (omega (arith, low))))))
          ∙ ap (λ b. list_any own (header_bars f) || b) own_others
          ∙ sym (list_any-append own (header_bars f) others)
          ∙ sym (any_map (λ (x : FunctionPart). are_same_space space (space_of x.function x.part) && not (is_window x.part) && moves q s keep x) region (filter (is_part q s f) (header_parts f))
          ∙ any_filter (is_part q s f) (λ part. is_of part && not (is_window part) && moves q s keep (region part)) (header_parts f))

      -- ---- what is shut

      own_is : has_own_around o space r ≡ has_own q s space f
      own_is =
          let ranges = o.answering.told.ranges.now in
          let standing = o.answering.standing.now in
          ap (λ b. b || has_kept space o.over.above o.answering.terms r)
          (ap (is_answering ranges standing space) (same_slot_of r f is.value) ∙ answering_is q s f space ranges standing at.told at.stand)
          ∙ ap (λ b. list_any (is_answered_by q s space f) (told_regions q.told) || b) (kept_are q s f r is o.over.above at.over.above o.answering.terms at.terms space)

      cut_is : is_cut_off_by o space r ≡ is_cut_off_in q s f space
      cut_is =
          ap (λ b. b && has_own_around o space r && not (flag_in_space o.way.on space)) (on_is s f r is space)
          ∙ ap (λ b. is_space_on f space && b && not (flag_in_space o.way.on space)) own_is
          ∙ ap (λ b. is_space_on f space && has_own q s space f && b) (ap not (at.way.on space) ∙ not_all (λ b. is_space_on b space) (bridges_above s f.slot.bus))

      pub itself_is : is_shut_by o space old new r ≡ is_shut_itself q s keep space f
      itself_is = ap (λ b. b || is_cut_off_by o space r) moving_are ∙ ap (λ b. has_moving q s keep space f || b) cut_is

  pub shut_is : (itself shut : BySpace) → ((x : Space) → flag_in_space itself x ≡ is_shut_itself q s keep x f) → ((x : Space) → flag_in_space shut x ≡ (flag_in_space itself x || not (flag_in_space o.way.clear x)))
      → (x : Space) → flag_in_space shut x ≡ is_shut q s keep x f
  shut_is itself shut same by x =
      by x ∙ ap (λ b. b || not (flag_in_space o.way.clear x)) (same x)
      ∙ ap (λ b. is_shut_itself q s keep x f || b) (ap not (at.way.clear x) ∙ not_none (is_shut_itself q s keep x) (bridges_above s f.slot.bus))

  pub closing_is : (shut : BySpace) → ((x : Space) → flag_in_space shut x ≡ is_shut q s keep x f) → closing_by o r shut ≡ closing_command q s keep f
  closing_is shut same =
      let holds : r.command ≡ command f.image = ap (λ (x : decoded.Record). x.command) is.value in
      let left : Bool = has_left_bar r o.over.above o.answering.terms in
      ap (λ b. without_low 4 r.command + (if not b && (not left && is_on r.command Io) then 1 else 0) + (if not shut.memory && is_on r.command Memory then 2 else 0)) (same Io)
      ∙ ap (λ b. without_low 4 r.command + (if not (is_shut q s keep Io f) && (not left && is_on r.command Io) then 1 else 0) + (if not b && is_on r.command Memory then 2 else 0)) (same Memory)
      ∙ ap (λ b. without_low 4 r.command + (if not (is_shut q s keep Io f) && (not b && is_on r.command Io) then 1 else 0) + (if not (is_shut q s keep Memory f) && is_on r.command Memory then 2 else 0))
      (left_are q s f r is o.over.above at.over.above o.answering.terms at.terms)
      ∙ ap (λ n. without_low 4 n + (if not (is_shut q s keep Io f) && (not (has_left q s f) && is_on n Io) then 1 else 0) + (if not (is_shut q s keep Memory f) && is_on n Memory then 2 else 0)) holds
