-- Where nothing is told no line is asked for: nothing more is taken, no part is kept off, and no told range is refused.
use Rattle.std.proofs.Common.{◌≡◌, ◌&&◌, ◌||◌, ℕ, ◌≤◌, subst, List, [], ◌++◌, map, not, Bool, false, ◌∙◌, ap, Option}
use Rattle.std.specs.Bool.{if◌then◌else◌}
use Rattle.std.specs.List.{Contains, list_any, filter, find}
use Rattle.pci_spec.specs.Decoded.{Range}
use Rattle.pci_spec.proofs.Members.{in_nil}
use Rattle.pci_spec.specs.Bus.{are_siblings}
use Rattle.pci_spec.specs.Window.{WindowKind}
use Rattle.pci_spec.specs.System.{System, Function, Space, is_window, window_space}
use Rattle.judge_spec.specs.ToldClaims.{told_register}
use Rattle.judge_spec.specs.ToldRegion.{ToldRegion, regions_from, told_regions}
use Rattle.settle_spec.specs.FirstPlace.{first_place}
use Rattle.settle_spec.specs.Lines.{line_range, is_line_of, is_line_behind, lines_on, taken_for}
use Rattle.settle_spec.specs.Lists.{Request, are_bad_lists}
use Rattle.settle_spec.specs.Parts.{FunctionPart, system_parts, function_parts, addresses, are_same_space}
use Rattle.settle_spec.specs.Stands.{part_space, is_kept_off_by, is_kept_off, stands}
use Rattle.settle_spec.specs.Items.{PlacingItem, place_all, place_each, taken_on}
use Rattle.settle_spec.specs.Registers.{is_answered_by, has_own}
use Rattle.settle_spec.specs.Kept.{Kept}
use Rattle.settle_spec.specs.Writes.{BadLists, Settled, fixed_without, fixed_write, or_fixed, or_lack, or_write}
use Rattle.settle_spec.specs.Keeping.Places.{taken_at, lacking}
use Rattle.settle_spec.specs.Keeping.Writes.{settle_writes, settle_keeping, is_not_reached, does_not_stay, would_be_switched, or_told}
use Rattle.settle_spec.proofs.Buses.{each_same}
use Rattle.settle_laws.proofs.EachPlaced.{each_all}

module _ (q : Request) (untold : q.told.ranges ≡ []) where
  pub no_regions : told_regions q.told ≡ []
  no_regions = ap (regions_from (told_register 0)) untold

  pub untold_forward : (x : ToldRegion) → Contains (told_regions q.told) x → x.told.first ≤ x.told.last
  untold_forward x has = absurd (in_nil x (subst (λ xs. Contains xs x) no_regions has))

  -- ---- nothing is taken by lines

  pub no_lines_on : (space : Space) (bus : ℕ) → lines_on q space bus ≡ []
  no_lines_on space bus = ap (λ xs. map line_range (filter (is_line_of q space bus) xs)) no_regions

  pub same_taken : (r : FunctionPart) (xs : List Range) → taken_for q r xs ≡ xs
  same_taken r xs = ap (λ ys. map line_range (filter (is_line_behind r) ys) ++ xs) no_regions

  pub plain_finds : (find : PlacingItem → List Range → Option ℕ) (taken : List Range) (items : List PlacingItem)
      → place_each (λ i xs. find i (taken_for q i.region xs)) taken items ≡ place_each find taken items
  plain_finds find taken items =
      each_same (λ i xs. find i (taken_for q i.region xs)) find taken items (λ i xs has. ap (find i) (same_taken i.region xs))

  pub plain_places : (ranges : PlacingItem → List Range) (taken : List Range) (items : List PlacingItem)
      → place_each (λ i xs. first_place (ranges i) (taken_for q i.region xs) i.extent) taken items ≡ place_all ranges taken items
  plain_places ranges taken items =
      plain_finds (λ i xs. first_place (ranges i) xs i.extent) taken items ∙ each_all ranges taken items

  module _ (s : System) where
    pub taken_on_is : (c : WindowKind) (keeps : FunctionPart → Bool) (bus : ℕ)
        → taken_on q s c keeps bus ≡ map addresses (filter (λ r. are_siblings q.roots bus r.function.slot.bus && are_same_space (window_space c) (part_space r) && keeps r) (system_parts q s))
    taken_on_is c keeps bus =
        ap (λ xs. xs ++ map addresses (filter (λ r. are_siblings q.roots bus r.function.slot.bus && are_same_space (window_space c) (part_space r) && keeps r) (system_parts q s)))
        (no_lines_on (window_space c) bus)

    pub taken_at_is : (k : Kept) (space : Space) (bus : ℕ)
        → taken_at q s k space bus ≡ map k.range (filter (λ r. are_siblings q.roots bus r.function.slot.bus && are_same_space space (part_space r) && k.stays r) (system_parts q s))
    taken_at_is k space bus =
        ap (λ xs. xs ++ map k.range (filter (λ r. are_siblings q.roots bus r.function.slot.bus && are_same_space space (part_space r) && k.stays r) (system_parts q s)))
        (no_lines_on space bus)

    -- ---- what stands, and Command

    pub none_kept_off : (r : FunctionPart) → is_kept_off q s r ≡ false
    none_kept_off r = ap (list_any (is_kept_off_by q s r)) no_regions

    pub own_is : (space : Space) (f : Function) → has_own q s space f ≡ list_any (λ r. are_same_space space (part_space r) && not (is_window r.part)) (function_parts q s f)
    own_is space f =
        ap (λ xs. list_any (is_answered_by q s space f) xs || list_any (λ r. are_same_space space (part_space r) && not (is_window r.part)) (function_parts q s f)) no_regions

    -- ---- no told range is refused

    pub settled_untold : (k : Kept) → settle_keeping q s k
        ≡ (if are_bad_lists q.roots q.lists then BadLists
        else or_fixed (fixed_without (stands q s) q s) (or_fixed (fixed_without k.stays q s)
        (or_lack (lacking q s k) (or_write (fixed_write q (settle_writes q s k)) (Settled (settle_writes q s k))))))
    settled_untold k =
        ap (λ xs. if are_bad_lists q.roots q.lists then BadLists
        else or_told (find (is_not_reached q s) xs) (or_fixed (fixed_without (stands q s) q s)
        (or_told (find (does_not_stay q s k) xs) (or_fixed (fixed_without k.stays q s)
        (or_lack (lacking q s k) (or_write (fixed_write q (settle_writes q s k))
        (or_told (find (would_be_switched q s k) xs) (Settled (settle_writes q s k))))))))) no_regions
