-- What noting one part does to the pass, by what is found of it.
use Rattle.std.proofs.Common.{◌≡◌, ℕ, ◌+◌, ◌<◌, List, length, get_or, set, Bool, true, false, ◌&&◌, not, arith, sym, ◌∙◌, ap, subst, refl}
use Rattle.std.proofs.lemmas.Bool.{and_right}
use Rattle.std.proofs.lemmas.List.{length-set, get_or_default}
use Rattle.std.proofs.lemmas.Option.{slice_get-get_or}
use Rattle.pci_spec.specs.System.{System, Space, Io, Memory, Part, IsSystem}
use Rattle.pci_spec.specs.Bus.{IsNested}
use Rattle.settle_spec.specs.Lists.{Request}
use Rattle.settle_spec.specs.Parts.{FunctionPart}
use Rattle.settle_spec.specs.Stands.{part_space, is_in_place, is_kept_off, stands_if}
use Rattle.pci_base.specs.Space as code
use Rattle.pci_base.specs.declared.range.Range.{Range}
use Rattle.pci_place.specs.Items.{function_in, no_function}
use Rattle.pci_kept.specs.declared.region.Region.{Region as CodeRegion}
use Rattle.pci_first_fit.specs.declared.kept.Kept.{Kept}
use Rattle.pci_kept.specs.Known.{Known, region_value}
use Rattle.pci_first_fit.specs.Kept.{spec_part, kept_of, nothing_kept}
use Rattle.pci_kept.specs.Tables.{stands_in}
use Rattle.pci_kept.specs.Taken.{is_free, IsWithTaken, in_space, in_other, taken_with, IsGoneTo}
use Rattle.pci_kept.specs.Passing.{AreOrdered, AreFirstPassed}
use Rattle.pci_kept.proofs.Indexes.{noted_here, noted_others}
use Rattle.pci_kept.proofs.Passing.{is_known, gone, stands_where, told_not, told_so}

same_lists : (space : Space) (io mem new_io new_mem : List Range) → in_space space new_io new_mem ≡ in_space space io mem → in_other space new_io new_mem ≡ in_other space io mem → (new_io ≡ io) × (new_mem ≡ mem)
same_lists Io io mem new_io new_mem here other = (here, other)
same_lists Memory io mem new_io new_mem here other = (other, here)

-- what is taken is named otherwise
pub moved : (q : Request) (s : System) (rs : List CodeRegion) (count bus other : ℕ) (io io_too mem mem_too : List Range) (table : List Kept) → other ≡ bus → io_too ≡ io → mem_too ≡ mem → AreFirstPassed q s rs count (taken_with bus io mem) table → AreFirstPassed q s rs count (taken_with other io_too mem_too) table
moved q s rs count bus other io io_too mem mem_too table same same_io same_mem is =
    subst (λ n. AreFirstPassed q s rs count (taken_with n io_too mem_too) table) (sym same)
    (subst (λ xs. AreFirstPassed q s rs count (taken_with bus xs mem_too) table) (sym same_io) (subst (λ xs. AreFirstPassed q s rs count (taken_with bus io xs) table) (sym same_mem) is))

module _ (q : Request) (s : System) (system : IsSystem s) (nested : IsNested q.roots s) (rs : List CodeRegion) (ordered : AreOrdered q s rs) (count : ℕ) (within : count < length rs) (r : CodeRegion) (r_is : r ≡ get_or rs count r)
    (bus level : ℕ) (old_io old_mem io mem : List Range) (table : List Kept) (to : IsGoneTo r.level (taken_with bus old_io old_mem) (taken_with level io mem)) (before : AreFirstPassed q s rs count (taken_with bus old_io old_mem) table) where
  abbrev v : FunctionPart
  v = region_value s r

  abbrev space : Space
  space = code.space_of r.space

  of : space ≡ part_space v
  of = ap (λ (k : Known). k.space) (is_known q s nested rs ordered count within r r_is).is.all

  pub passed : AreFirstPassed q s rs count (taken_with level io mem) table
  passed = gone q s nested rs ordered count within r r_is bus level old_io old_mem io mem table to before

  here : AreFirstPassed q s rs count (taken_with r.level io mem) table
  here = subst (λ n. AreFirstPassed q s rs count (taken_with n io mem) table) to.there passed

  there : (new_level : ℕ) (new_io new_mem : List Range) (next : List Kept) → new_level ≡ level → AreFirstPassed q s rs (count + 1) (taken_with r.level new_io new_mem) next → AreFirstPassed q s rs (count + 1) (taken_with new_level new_io new_mem) next
  there new_level new_io new_mem next same is = subst (λ n. AreFirstPassed q s rs (count + 1) (taken_with n new_io new_mem) next) (sym (same ∙ to.there)) is

  abbrev free_there : Bool
  free_there = is_free r.range (in_space space io mem)

  where_so : (a m b c : Bool) → a ≡ is_kept_off q s v → m ≡ r.can_stand → b ≡ is_in_place q s (stands_in s table) v → c ≡ free_there → stands_if q s (stands_in s table) v ≡ (not a && (m && (b && c)))
  where_so a m b c x can y z =
      stands_where q s nested rs ordered count within r r_is io mem table here space of
      ∙ ap (λ w. not w && (r.can_stand && (is_in_place q s (stands_in s table) v && free_there))) (sym x)
      ∙ ap (λ w. not a && (w && (is_in_place q s (stands_in s table) v && free_there))) (sym can)
      ∙ ap (λ w. not a && (m && (w && free_there))) (sym y)
      ∙ ap (λ w. not a && (m && (b && w))) (sym z)

  stands_not : stands_if q s (stands_in s table) v ≡ false → AreFirstPassed q s rs (count + 1) (taken_with level io mem) table
  stands_not off = there level io mem table refl (told_not q s nested rs ordered count within r r_is io mem table here off)

  -- what a line keeps off doesn't stand
  pub kept_away : is_kept_off q s v ≡ true → AreFirstPassed q s rs (count + 1) (taken_with level io mem) table
  kept_away on = stands_not (where_so true r.can_stand (is_in_place q s (stands_in s table) v) free_there (sym on) refl refl refl)

  -- nor does what can't
  pub cannot : r.can_stand ≡ false → AreFirstPassed q s rs (count + 1) (taken_with level io mem) table
  cannot off = stands_not (where_so (is_kept_off q s v) false (is_in_place q s (stands_in s table) v) free_there refl (sym off) refl refl ∙ and_right (not (is_kept_off q s v)) false refl)

  module _ (in_place : Bool) (told : in_place ≡ is_in_place q s (stands_in s table) v) where
    -- nor does what isn't where it can stand
    pub out_of_place : in_place ≡ false → AreFirstPassed q s rs (count + 1) (taken_with level io mem) table
    out_of_place off = stands_not (where_so (is_kept_off q s v) r.can_stand false free_there refl refl (sym off ∙ told) refl ∙ ap (λ b. not (is_kept_off q s v) && b) (and_right r.can_stand false refl) ∙ and_right (not (is_kept_off q s v)) false refl)

    module _ (free : Bool) (free_is : free ≡ is_free r.range (in_space space io mem)) (new_level : ℕ) (new_io new_mem : List Range) (same : new_level ≡ level) (other : in_other space new_io new_mem ≡ in_other space io mem)
        (took : IsWithTaken free r.range (in_space space io mem) (in_space space new_io new_mem)) where
      -- nor does what shares an address
      pub clashes : free ≡ false → AreFirstPassed q s rs (count + 1) (taken_with new_level new_io new_mem) table
      clashes off =
          let kept = same_lists space io mem new_io new_mem (subst (λ b. IsWithTaken b r.range (in_space space io mem) (in_space space new_io new_mem)) off took) other in
          subst (λ xs. AreFirstPassed q s rs (count + 1) (taken_with new_level xs new_mem) table) (sym kept.0)
          (subst (λ xs. AreFirstPassed q s rs (count + 1) (taken_with new_level io xs) table) (sym kept.1)
          (there new_level io mem table same
          (told_not q s nested rs ordered count within r r_is io mem table here
          (where_so (is_kept_off q s v) r.can_stand in_place false refl refl told (sym off ∙ free_is) ∙ ap (λ b. not (is_kept_off q s v) && (r.can_stand && b)) (and_right in_place false refl)
          ∙ ap (λ b. not (is_kept_off q s v) && b) (and_right r.can_stand false refl) ∙ and_right (not (is_kept_off q s v)) false refl))))

      -- all else does
      pub stands_there : is_kept_off q s v ≡ false → r.can_stand ≡ true → in_place ≡ true → free ≡ true → (entry : Kept) (next : List Kept) → next ≡ set table r.function entry → kept_of entry (spec_part r.part) ≡ true
          → (d : Kept) → ((o : Part) → (o ≡ spec_part r.part → ⊥) → kept_of entry o ≡ kept_of (get_or table r.function d) o) → AreFirstPassed q s rs (count + 1) (taken_with new_level new_io new_mem) next
      stands_there fine can is free_on entry next put noted d others =
          let low = (is_known q s nested rs ordered count within r r_is).is.within in
          let size = here.size in
          let inside : r.function < length table = omega (arith, low, size) in
          let at = slice_get-get_or s r.function no_function low in
          let kept : (o : Part) → (o ≡ spec_part r.part → ⊥) → kept_of entry o ≡ kept_of (get_or table r.function nothing_kept) o =
          λ o other. others o other ∙ ap (λ x. kept_of x o) (get_or_default table r.function d nothing_kept inside) in
          subst (AreFirstPassed q s rs (count + 1) (taken_with new_level new_io new_mem)) (sym put)
          (there new_level new_io new_mem (set table r.function entry) same
          (told_so q s nested rs ordered count within r r_is io mem table here (set table r.function entry) (length-set table r.function entry ∙ size)
          (noted_here s system table r.function (function_in s r.function) at inside (spec_part r.part) entry true noted kept)
          (noted_others s system table r.function (function_in s r.function) at inside (spec_part r.part) entry true noted kept)
          (where_so false true true true (sym fine) (sym can) (sym is ∙ told) (sym free_on ∙ free_is))
          space of new_io new_mem (subst (λ b. IsWithTaken b r.range (in_space space io mem) (in_space space new_io new_mem)) free_on took) other))
