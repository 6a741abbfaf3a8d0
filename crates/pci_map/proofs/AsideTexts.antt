-- The lines of regions that are out of place, and of those that are only left.
use Rattle.std.proofs.Common.{◌≡◌, ℕ, ◌+◌, ◌<◌, ◌≤◌, List, [], ◌∷◌, ◌++◌, take, length, get_or, Bool, true, false, Some, inl, inr, ap, sym, subst, ◌∙◌}
use Rattle.std.specs.Prelude.{◌*◌, MatchBool}
use Rattle.std.specs.List.{AllWithin, Contains, slice_get}
use Rattle.std.proofs.lemmas.List.{take_more}
use Rattle.std.proofs.lemmas.List.Elements.{Contains-append_cases}
use Rattle.pci_spec.specs.Slot.{Slot, slot_number}
use Rattle.pci_spec.specs.System.{System, Space, Io, Memory}
use Rattle.pci_spec.specs.Why.{Region}
use Rattle.pci_spec.proofs.Members.{in_nil, in_cons_cases}
use Rattle.judge_spec.specs.Given.{Given}
use Rattle.judge_spec.specs.Told.{ToldRange, IsTold}
use Rattle.judge_spec.specs.ToldClaims.{Told, told_register, is_range_on}
use Rattle.judge_spec.specs.ToldRegion.{ToldRegion, IsToldIn}
use Rattle.judge_spec.specs.Regions.{MapRegion, Own, OfLine, IsIn}
use Rattle.judge_spec.specs.Lines.{IsOutOfPlace}
use Rattle.judge_spec.specs.Map.{HasWay, IsOutsideWindows, IsOnlyLeft}
use Rattle.judge_spec.specs.MapText.{map_region_line}
use Rattle.pci_function.specs.declared.record.Record.{Record}
use Rattle.pci_tree.specs.declared.region.Region as outline
use Rattle.pci_tree.specs.Outline.{RiseBySlot}
use Rattle.pci_tree.specs.Ways.{slots_of}
use Rattle.pci_tree.proofs.Lifting.{Has}
use Rattle.pci_claims.specs.Found.{IsFoundIn, NoneClaims}
use Rattle.pci_map.specs.Values.{value_of}
use Rattle.pci_map.specs.Asides.{AreFoundBy, IsRegionAside, HasNoAside, IsNamedAt, IsNamedAtRegister, IsNamedBelow, IsOfRegisters, IsTheRange, IsRangeFrom, IsAmongSlots, AreOfNoLowerSlots, AsideTexts, AreAsides}
use Rattle.pci_map.specs.Left.{IsLeftIf}
use Rattle.pci_map.proofs.Lefts.{AreOne}
use Rattle.pci_map.proofs.Tolds.{none_of, none_found, found_not, found_one, both_spaces, below_none, one_register, all_registers, the_range, the_range_not}
use Rattle.pci_map.proofs.RangeAsides.{range_more, range_off, range_none, among_none, among_ranges, next_function, all_functions}

abbrev texts : List ℕ → List ℕ → AsideTexts
texts outside unreached = record { outside = outside; unreached = unreached }

module _ (told : Told) (given : Given) (roots : List ℕ) (s : System) (unique : AreOne s) (slot : Slot) (reg : ℕ) (small : reg < 256) (space : Space) where
  pub none_aside : (out left : List ℕ) → NoneClaims s slot reg space → AreAsides told given roots s (IsNamedAt slot reg space) (texts out left) (texts out left)
  none_aside out left none = record {
    out = none_found told given (IsOutOfPlace told given roots s) s unique slot reg small space out none;
    left = none_found told given (IsOnlyLeft told given roots s) s unique slot reg small space left none;
  }

  module _ (q : outline.Region) (found : IsFoundIn s slot reg space q) where
    pub told_outside : (out new left : List ℕ) → IsOutOfPlace told given roots s (Own (value_of space q)) → new ≡ out ++ map_region_line given 1 (Own (value_of space q)) → AreAsides told given roots s (IsNamedAt slot reg space) (texts out left) (texts new left)
    told_outside out new left is_out text = record {
      out = found_one told given (IsOutOfPlace told given roots s) s unique slot reg small space q found out new is_out text;
      left = found_not told given (IsOnlyLeft told given roots s) s unique slot reg small space q found left (λ only. only.within is_out);
    }

    pub told_reached : (out left : List ℕ) → (IsOutOfPlace told given roots s (Own (value_of space q)) → ⊥) → (windows : List Region) × HasWay given roots s (Own (value_of space q)) windows
        → AreAsides told given roots s (IsNamedAt slot reg space) (texts out left) (texts out left)
    told_reached out left within way = record {
      out = found_not told given (IsOutOfPlace told given roots s) s unique slot reg small space q found out within;
      left = found_not told given (IsOnlyLeft told given roots s) s unique slot reg small space q found left (λ only. only.left way.0 way.1);
    }

    pub told_left : (out left new : List ℕ) → (IsOutOfPlace told given roots s (Own (value_of space q)) → ⊥) → IsOutsideWindows given roots s (Own (value_of space q)) → new ≡ left ++ map_region_line given 1 (Own (value_of space q))
        → AreAsides told given roots s (IsNamedAt slot reg space) (texts out left) (texts out new)
    told_left out left new within is_left text = record {
      out = found_not told given (IsOutOfPlace told given roots s) s unique slot reg small space q found out within;
      left = found_one told given (IsOnlyLeft told given roots s) s unique slot reg small space q found left new record { left = is_left; within = within } text;
    }

-- ---- whether there are any

module _ (told : Told) (given : Given) (roots : List ℕ) (s : System) where
  pub aside_if : (q : MapRegion) (left : Bool) → (IsOutOfPlace told given roots s q → ⊥) → IsLeftIf given roots s q left → MatchBool left (IsRegionAside told given roots s q) (IsRegionAside told given roots s q → ⊥)
  aside_if q true within is_left = inr is_left
  aside_if q false within way = λ aside. elim aside [ inl out ↦ within out | inr left ↦ left way.0 way.1 ]

  pub none_before : (space : Space) (qs : List outline.Region) → HasNoAside told given roots s space (take 0 qs)
  none_before space qs q has = absurd (in_nil q has)

  pub none_yet : (space : Space) (qs : List outline.Region) (k : ℕ) (x : outline.Region) → k < length qs → get_or qs k x ≡ x → HasNoAside told given roots s space (take k qs)
      → (IsRegionAside told given roots s (Own (value_of space x)) → ⊥) → HasNoAside told given roots s space (take (k + 1) qs)
  none_yet space qs k x within at before none q has aside =
      let split : take (k + 1) qs ≡ take k qs ++ x ∷ [] = take_more qs k x within ∙ ap (λ (y : outline.Region). take k qs ++ y ∷ []) at in
      elim (Contains-append_cases (take k qs) (x ∷ []) q (subst (λ xs. Contains xs q) split has)) [
        | inl early ↦ before q early aside
        | inr late ↦ elim (in_cons_cases x [] q late) [
          | inl here ↦ none (subst (λ (y : outline.Region). IsRegionAside told given roots s (Own (value_of space y))) (sym here) aside)
          | inr nowhere ↦ absurd (in_nil q nowhere)
        ]
      ]

  pub no_asides : (unique : AreOne s) (slot : Slot) (io memory : List outline.Region) (out left : List ℕ) → AreFoundBy s slot Io io → AreFoundBy s slot Memory memory
      → HasNoAside told given roots s Io io → HasNoAside told given roots s Memory memory → AreAsides told given roots s (IsOfRegisters slot) (texts out left) (texts out left)
  no_asides unique slot io memory out left found_io found_memory none_io none_memory = record {
    out = none_of told given (IsOutOfPlace told given roots s) s unique slot io memory out found_io found_memory (λ q has is_out. none_io q has (inl is_out)) (λ q has is_out. none_memory q has (inl is_out));
    left = none_of told given (IsOnlyLeft told given roots s) s unique slot io memory left found_io found_memory (λ q has only. none_io q has (inr only.left)) (λ q has only. none_memory q has (inr only.left));
  }

-- ---- those of more

module _ (told : Told) (given : Given) (roots : List ℕ) (s : System) where
  pub both_spaces_aside : (unique : AreOne s) (slot : Slot) (reg : ℕ) → reg < 256 → (out mid_out new_out left mid_left new_left : List ℕ) → AreAsides told given roots s (IsNamedAt slot reg Io) (texts out left) (texts mid_out mid_left)
      → AreAsides told given roots s (IsNamedAt slot reg Memory) (texts mid_out mid_left) (texts new_out new_left) → AreAsides told given roots s (IsNamedAtRegister slot reg) (texts out left) (texts new_out new_left)
  both_spaces_aside unique slot reg small out mid_out new_out left mid_left new_left io memory = record {
    out = both_spaces told given (IsOutOfPlace told given roots s) s unique slot reg small out mid_out new_out io.out memory.out;
    left = both_spaces told given (IsOnlyLeft told given roots s) s unique slot reg small left mid_left new_left io.left memory.left;
  }

  pub none_below : (slot : Slot) (out left : List ℕ) → AreAsides told given roots s (IsNamedBelow slot 0) (texts out left) (texts out left)
  none_below slot out left = record { out = below_none told given (IsOutOfPlace told given roots s) s slot out; left = below_none told given (IsOnlyLeft told given roots s) s slot left }

  pub one_register_aside : (slot : Slot) (k : ℕ) (out mid_out new_out left mid_left new_left : List ℕ) → k < 64 → AreAsides told given roots s (IsNamedBelow slot (4 * k)) (texts out left) (texts mid_out mid_left)
      → AreAsides told given roots s (IsNamedAtRegister slot (4 * k)) (texts mid_out mid_left) (texts new_out new_left) → AreAsides told given roots s (IsNamedBelow slot (4 * (k + 1))) (texts out left) (texts new_out new_left)
  one_register_aside slot k out mid_out new_out left mid_left new_left few first second = record {
    out = one_register told given (IsOutOfPlace told given roots s) s slot k out mid_out new_out few first.out second.out;
    left = one_register told given (IsOnlyLeft told given roots s) s slot k left mid_left new_left few first.left second.left;
  }

  pub all_registers_aside : (slot : Slot) (out new_out left new_left : List ℕ) → AreAsides told given roots s (IsNamedBelow slot 64) (texts out left) (texts new_out new_left) → AreAsides told given roots s (IsOfRegisters slot) (texts out left) (texts new_out new_left)
  all_registers_aside slot out new_out left new_left was = record {
    out = all_registers told given (IsOutOfPlace told given roots s) s slot out new_out was.out;
    left = all_registers told given (IsOnlyLeft told given roots s) s slot left new_left was.left;
  }

-- ---- of one told range

module _ (told : Told) (given : Given) (roots : List ℕ) (s : System) (x : ToldRegion) (is : IsToldIn told s x) where
  pub range_outside : (out new left : List ℕ) → IsOutOfPlace told given roots s (OfLine x) → new ≡ out ++ map_region_line given 1 (OfLine x) → AreAsides told given roots s (IsTheRange x) (texts out left) (texts new left)
  range_outside out new left is_out text = record {
    out = the_range told given (IsOutOfPlace told given roots s) s x out new is is_out text;
    left = the_range_not told given (IsOnlyLeft told given roots s) s x left (λ only. only.within is_out);
  }

  pub range_left : (out left new : List ℕ) → (IsOutOfPlace told given roots s (OfLine x) → ⊥) → IsOutsideWindows given roots s (OfLine x) → new ≡ left ++ map_region_line given 1 (OfLine x)
      → AreAsides told given roots s (IsTheRange x) (texts out left) (texts out new)
  range_left out left new within is_left text = record {
    out = the_range_not told given (IsOutOfPlace told given roots s) s x out within;
    left = the_range told given (IsOnlyLeft told given roots s) s x left new is record { left = is_left; within = within } text;
  }

  pub range_reached : (out left : List ℕ) → (IsOutOfPlace told given roots s (OfLine x) → ⊥) → (windows : List Region) × HasWay given roots s (OfLine x) windows → AreAsides told given roots s (IsTheRange x) (texts out left) (texts out left)
  range_reached out left within way = record {
    out = the_range_not told given (IsOutOfPlace told given roots s) s x out within;
    left = the_range_not told given (IsOnlyLeft told given roots s) s x left (λ only. only.left way.0 way.1);
  }

-- ---- of all

module _ (told : Told) (lawful : IsTold told.ranges) (given : Given) (roots : List ℕ) (s : System) where
  pub range_more_aside : (first i : ℕ) (x : ToldRegion) (old mid new : AsideTexts) → first ≤ i → IsToldIn told s x → x.register ≡ told_register i → AreAsides told given roots s (IsRangeFrom first i) old mid
      → AreAsides told given roots s (IsTheRange x) mid new → AreAsides told given roots s (IsRangeFrom first (i + 1)) old new
  range_more_aside first i x old mid new from ix at early late = record {
    out = range_more told lawful s given (IsOutOfPlace told given roots s) first i x old.outside mid.outside new.outside from ix at early.out late.out;
    left = range_more told lawful s given (IsOnlyLeft told given roots s) first i x old.unreached mid.unreached new.unreached from ix at early.left late.left;
  }

  pub range_off_aside : (first i : ℕ) (r : ToldRange) (old new : AsideTexts) → slice_get told.ranges i ≡ Some r → is_range_on told s r ≡ false → AreAsides told given roots s (IsRangeFrom first i) old new
      → AreAsides told given roots s (IsRangeFrom first (i + 1)) old new
  range_off_aside first i r old new at off early = record {
    out = range_off told lawful s given (IsOutOfPlace told given roots s) first i r old.outside new.outside at off early.out;
    left = range_off told lawful s given (IsOnlyLeft told given roots s) first i r old.unreached new.unreached at off early.left;
  }

  pub no_range_aside : (first : ℕ) (old : AsideTexts) → AreAsides told given roots s (IsRangeFrom first first) old old
  no_range_aside first old = record {
    out = range_none told lawful s given (IsOutOfPlace told given roots s) first old.outside;
    left = range_none told lawful s given (IsOnlyLeft told given roots s) first old.unreached;
  }

  pub none_among : (old : AsideTexts) → AreAsides told given roots s (IsAmongSlots [] 0) old old
  none_among old = record {
    out = among_none told lawful s given (IsOutOfPlace told given roots s) old.outside;
    left = among_none told lawful s given (IsOnlyLeft told given roots s) old.unreached;
  }

  pub ranges_aside : (slots : List Slot) (next end : ℕ) (old mid new : AsideTexts) → next ≤ end
      → AreOfNoLowerSlots told.ranges next slots
      → AreAsides told given roots s (IsAmongSlots slots next) old mid → AreAsides told given roots s (IsRangeFrom next end) mid new → AreAsides told given roots s (IsAmongSlots slots end) old new
  ranges_aside slots next end old mid new up behind early late = record {
    out = among_ranges told lawful s given (IsOutOfPlace told given roots s) slots next end old.outside mid.outside new.outside up behind early.out late.out;
    left = among_ranges told lawful s given (IsOnlyLeft told given roots s) slots next end old.unreached mid.unreached new.unreached up behind early.left late.left;
  }

  pub next_function_aside : (rs : List Record) (k : ℕ) (r : Record) (end : ℕ) (old mid new : AsideTexts) → RiseBySlot rs → k < length rs → get_or rs k r ≡ r
      → AllWithin (λ x. slot_number x.slot < slot_number r.slot) told.ranges 0 end → AreAsides told given roots s (IsAmongSlots (slots_of (take k rs)) end) old mid
      → AreAsides told given roots s (IsOfRegisters r.slot) mid new → AreAsides told given roots s (IsAmongSlots (slots_of (take (k + 1) rs)) end) old new
  next_function_aside rs k r end old mid new rise lt at below first second = record {
    out = next_function told lawful s given (IsOutOfPlace told given roots s) rs k r end old.outside mid.outside new.outside rise lt at below first.out second.out;
    left = next_function told lawful s given (IsOnlyLeft told given roots s) rs k r end old.unreached mid.unreached new.unreached rise lt at below first.left second.left;
  }

  pub all_functions_aside : (rs : List Record) (k end : ℕ) (old new : AsideTexts) → Has s rs → length rs ≤ k → end ≡ length told.ranges → AreAsides told given roots s (IsAmongSlots (slots_of (take k rs)) end) old new
      → AreAsides told given roots s (IsIn told s) old new
  all_functions_aside rs k end old new has past is_end was = record {
    out = all_functions told lawful s given (IsOutOfPlace told given roots s) rs k end old.outside new.outside has past is_end was.out;
    left = all_functions told lawful s given (IsOnlyLeft told given roots s) rs k end old.unreached new.unreached has past is_end was.left;
  }
