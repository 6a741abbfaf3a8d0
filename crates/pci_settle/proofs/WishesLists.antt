-- Tables by function, made one entry after another.
use Rattle.std.proofs.Common.{◌≡◌, ℕ, zero, suc, ◌+◌, ◌<◌, ◌≤◌, inl, inr, List, [], ◌∷◌, ◌++◌, length, get_or, drop, Bool, false, arith, ap, sym, subst, refl, ◌∙◌, Option}
use Rattle.std.specs.Option.{option_map}
use Rattle.std.specs.List.{list_any, sum_by, range_with_len}
use Rattle.std.proofs.lemmas.Bool.{cases_eq}
use Rattle.std.proofs.Math.Seq.{get_or-append_seam}
use Rattle.std.proofs.lemmas.List.{get_or_default, get_or_append_left, at_drop_more, length-append}
use Rattle.std.proofs.lemmas.List.Sums.{sum_by-cons}
use Rattle.pci_spec.specs.Slot.{Slot, same_slot}
use Rattle.pci_spec.specs.Listing.{kind_space}
use Rattle.pci_spec.specs.Decoded.{Range as DecodedRange}
use Rattle.pci_base.specs.declared.range.Range.{Range}
use Rattle.pci_base.specs.declared.window_kind.ByKind.{ByKind}
use Rattle.pci_base.specs.declared.window_kind.WindowKind.{WindowKind as CodeKind}
use Rattle.pci_base.specs.declared.space.Space.{Space as CodeSpace}
use Rattle.pci_base.specs.Ranges.{decoded_range_of}
use Rattle.pci_base.specs.Space.{space_of}
use Rattle.pci_base.specs.WindowKinds.{kind_value, by_kind}
use Rattle.pci_image.specs.declared.bar.Bar.{Bar as CodeBar}
use Rattle.pci_image.specs.declared.bar.BarKind.{BarKind}
use Rattle.pci_image.specs.declared.bar.BarKind.TheVariants as bar_kinds
use Rattle.pci_image.specs.Bars.{decoded_kind_of}
use Rattle.pci_function.specs.declared.record.Record.{Record}
use Rattle.pci_tree.specs.Regions.{space_in}
use Rattle.pci_first_fit.specs.declared.kept.Kept.{Kept}
use Rattle.pci_first_fit.specs.Tables.{untold, told}
use Rattle.pci_settle_places.specs.declared.places.Places.{Places}
use Rattle.pci_grow.specs.declared.fill.Located.{Located}
use Rattle.pci_grow.proofs.Filled.{sum_more}
use Rattle.pci_grow.specs.RoomRows.{bus_level, row_number}
use Rattle.pci_grow.specs.Located.{told_weight, located_total}
use Rattle.pci_settle.specs.declared.tables.Tables.{Tables}
use Rattle.pci_settle.specs.Before.{windows_before, IsToldAt, AreWindowsBefore, bar_before, bar_weight, record_weight, AreOwnBefore, AreFlagsOf}

-- what stands at an index
pub one_at : {X : Type 0} (xs : List X) (k : ℕ) (x y : X) → k < length xs → x ≡ get_or xs k x → y ≡ get_or xs k y → x ≡ y
one_at xs k x y within first second = first ∙ get_or_default xs k x y within ∙ sym second

-- what is told of a function where its record stands
pub told_at : (records : List Record) (t : Tables) (k : ℕ) (r : Record) (d : Places) (e : Kept) → k < length records → r ≡ get_or records k r → length t.places.now ≡ length records → length t.staying.now ≡ length records
    → IsToldAt records t k r (get_or t.places.now k d) (get_or t.staying.now k e)
told_at records t k r d e within r_is places staying = record {
  within = within;
  record_is = r_is;
  places_are = get_or_default t.places.now k d (get_or t.places.now k d) (omega (arith, within, places));
  kept_is = get_or_default t.staying.now k e (get_or t.staying.now k e) (omega (arith, within, staying));
}

-- ---- windows

-- a table tells the windows of the first functions, and no others
pub record AreWindowsTo (records : List Record) (t : Tables) (k : ℕ) (table : List (ByKind (Option Range))) : Type 0 where
  pub count : length table ≡ k
  pub each : AreWindowsBefore records t k table

module _ (records : List Record) (t : Tables) (k : ℕ) (table new : List (ByKind (Option Range))) (r : Record) (p : Places) (kept : Kept) (windows : ByKind (Option Range)) (at : IsToldAt records t k r p kept) (places : k < length t.places.now) (staying : k < length t.staying.now)
    (is : (class : CodeKind) → option_map decoded_range_of (by_kind windows class) ≡ windows_before r.bridge p kept (get_or t.grown.now k untold) (kind_value class)) (pushed : new ≡ table ++ windows ∷ []) (count : length table ≡ k) where
  windows_count : length new ≡ k + 1
  windows_count = (let one = ap length pushed in let more = length-append table (windows ∷ []) in omega (arith, one, more, count))

  windows_next : AreWindowsBefore records t k table → AreWindowsBefore records t (k + 1) new
  windows_next so_far j r2 p2 kept2 class less at2 = elim (cases_eq j k) [
    | inl same ↦
        let here : IsToldAt records t k r2 p2 kept2 = subst (λ i. IsToldAt records t i r2 p2 kept2) same at2 in
        let r_is = one_at records k r r2 at.within at.record_is here.record_is in
        let p_is = one_at t.places.now k p p2 places at.places_are here.places_are in
        let kept_is = one_at t.staying.now k kept kept2 staying at.kept_is here.kept_is in
        ap (λ i. option_map decoded_range_of (told new i class)) (same ∙ sym count)
        ∙ ap (λ xs. option_map decoded_range_of (by_kind (get_or xs (length table) untold) class)) pushed
        ∙ ap (λ e. option_map decoded_range_of (by_kind e class)) (get_or-append_seam table windows [] untold)
        ∙ is class
        ∙ ap (λ x. windows_before x.bridge p kept (get_or t.grown.now k untold) (kind_value class)) r_is
        ∙ ap (λ x. windows_before r2.bridge x kept (get_or t.grown.now k untold) (kind_value class)) p_is
        ∙ ap (λ x. windows_before r2.bridge p2 x (get_or t.grown.now k untold) (kind_value class)) kept_is
        ∙ ap (λ i. windows_before r2.bridge p2 kept2 (get_or t.grown.now i untold) (kind_value class)) (sym same)
    | inr differ ↦
        let low : j < k = omega (arith, less, differ) in
        ap (λ xs. option_map decoded_range_of (by_kind (get_or xs j untold) class)) pushed
        ∙ ap (λ e. option_map decoded_range_of (by_kind e class)) (get_or_append_left table (windows ∷ []) untold j (omega (arith, low, count)))
        ∙ so_far j r2 p2 kept2 class low at2
  ]

module _ (records : List Record) (t : Tables) (places : length t.places.now ≡ length records) (staying : length t.staying.now ≡ length records) (k : ℕ) (less : k < length records) (r : Record) (r_is : r ≡ get_or records k r) (d : Places) (e : Kept)
    (table new : List (ByKind (Option Range))) (windows grown : ByKind (Option Range)) (grown_is : grown ≡ get_or t.grown.now k untold)
    (is : (class : CodeKind) → option_map decoded_range_of (by_kind windows class) ≡ windows_before r.bridge (get_or t.places.now k d) (get_or t.staying.now k e) grown (kind_value class)) (pushed : new ≡ table ++ windows ∷ []) where
  pub windows_step : AreWindowsTo records t k table → AreWindowsTo records t (k + 1) new
  windows_step was =
      let at = told_at records t k r d e less r_is places staying in
      let here = λ (class : CodeKind). is class ∙ ap (λ x. windows_before r.bridge (get_or t.places.now k d) (get_or t.staying.now k e) x (kind_value class)) grown_is in
      record {
        count = windows_count records t k table new r _ _ windows at (omega (arith, less, places)) (omega (arith, less, staying)) here pushed was.count;
        each = windows_next records t k table new r _ _ windows at (omega (arith, less, places)) (omega (arith, less, staying)) here pushed was.count was.each;
      }

-- ---- BARs and ROMs

pub own_next : (records : List Record) (t : Tables) (k : ℕ) (old new : List Located) (r : Record) (p : Places) (kept : Kept) → IsToldAt records t k r p kept
    → ((roots : List ℕ) (weight : DecodedRange → ℕ) (n : ℕ) → located_total roots weight n new ≡ located_total roots weight n old + record_weight roots weight n r p kept)
    → AreOwnBefore records t k old → AreOwnBefore records t (k + 1) new
own_next records t k old new r p kept at added so_far roots weight n per each =
    let more = added roots weight n in
    let was = so_far roots weight n per each in
    let own = each k r p kept at in
    let next : k + 1 ≡ suc k = omega arith in
    let sums = ap (λ m. sum_by per (range_with_len 0 m)) next ∙ sum_more per 0 k in
    let same : 0 + k ≡ k = omega arith in
    let last = ap per same in
    omega (arith, more, was, own, sums, last)

pub own_none : (records : List Record) (t : Tables) (parts : List Located) → parts ≡ [] → AreOwnBefore records t 0 parts
own_none records t parts none roots weight n per each = ap (located_total roots weight n) none

pub own_end : (records : List Record) (t : Tables) (k : ℕ) (parts : List Located) → k ≡ length records → AreOwnBefore records t k parts → AreOwnBefore records t (length records) parts
own_end records t k parts end are = subst (λ m. AreOwnBefore records t m parts) end are

kind_space_is : (kind : BarKind) → kind_space (decoded_kind_of kind) ≡ space_in kind
kind_space_is bar_kinds.Io = refl
kind_space_is bar_kinds.Mem32 = refl
kind_space_is bar_kinds.Mem64 = refl

pub bar_added : (roots : List ℕ) (weight : DecodedRange → ℕ) (n bus : ℕ) (p : Places) (kept : Kept) (bar : CodeBar) (space : CodeSpace) (range : Option Range) (old new : ℕ) → space_of space ≡ kind_space (decoded_kind_of bar.kind) → range ≡ bar_before bar p kept
    → new ≡ old + told_weight weight (row_number (bus_level roots bus) (space_of space)) n range → new ≡ old + bar_weight roots weight n bus p kept bar
bar_added roots weight n bus p kept bar space range old new space_is range_is added =
    added
    ∙ ap (λ x. old + told_weight weight (row_number (bus_level roots bus) x) n range) (space_is ∙ kind_space_is bar.kind)
    ∙ ap (λ x. old + told_weight weight (row_number (bus_level roots bus) (space_in bar.kind)) n x) range_is

-- one more of a list, or all of them
pub bars_next : (f : CodeBar → ℕ) (bars : List CodeBar) (index : ℕ) (d : CodeBar) (old new first : ℕ) → index < length bars
    → old + sum_by f (drop index bars) ≡ first → new ≡ old + f (get_or bars index d) → new + sum_by f (drop (index + 1) bars) ≡ first
bars_next f bars index d old new first within so_far added =
    let left = at_drop_more (sum_by f) bars index d within ∙ sum_by-cons f (get_or bars index d) (drop (index + 1) bars) in
    omega (arith, so_far, added, left)

pub bars_all : (f : CodeBar → ℕ) (bars : List CodeBar) (index : ℕ) → length bars ≤ index → sum_by f (drop index bars) ≡ 0
bars_all f [] zero past = refl
bars_all f [] (suc index) past = refl
bars_all f (x ∷ bars) zero past = absurd (let no : ⊥ = omega (arith, past) in no)
bars_all f (x ∷ bars) (suc index) past = bars_all f bars index (omega (arith, past))

-- ---- flags

pub record AreFlagsTo (records : List Record) (slots : List Slot) (count : ℕ) (flags : List Bool) : Type 0 where
  pub count_is : length flags ≡ count
  pub each : (k : ℕ) (r : Record) → k < count → k < length records → r ≡ get_or records k r → get_or flags k false ≡ list_any (same_slot r.slot) slots

pub flags_none : (records : List Record) (slots : List Slot) (flags : List Bool) → flags ≡ [] → AreFlagsTo records slots 0 flags
flags_none records slots flags none = record { count_is = ap length none; each = λ k r less. absurd (let no : ⊥ = omega (arith, less) in no) }

pub flags_next : (records : List Record) (slots : List Slot) (k : ℕ) (old new : List Bool) (r : Record) (flag : Bool) → r ≡ get_or records k r → flag ≡ list_any (same_slot r.slot) slots → new ≡ old ++ flag ∷ []
    → AreFlagsTo records slots k old → AreFlagsTo records slots (k + 1) new
flags_next records slots k old new r flag r_is flag_is pushed so_far = record {
  count_is = (let one = ap length pushed in let more = length-append old (flag ∷ []) in let was = so_far.count_is in omega (arith, one, more, was));
  each = λ j r2 less within at. elim (cases_eq j k) [
    | inl same ↦
        ap (λ i. get_or new i false) (same ∙ sym so_far.count_is) ∙ ap (λ xs. get_or xs (length old) false) pushed ∙ get_or-append_seam old flag [] false ∙ flag_is
        ∙ ap (λ x. list_any (same_slot x.slot) slots) (one_at records k r r2 (subst (λ i. i < length records) same within) r_is (subst (λ i. r2 ≡ get_or records i r2) same at))
    | inr differ ↦
        let low : j < k = omega (arith, less, differ) in
        let count = so_far.count_is in
        ap (λ xs. get_or xs j false) pushed ∙ get_or_append_left old (flag ∷ []) false j (omega (arith, low, count)) ∙ so_far.each j r2 low within at
  ];
}

pub flags_all : (records : List Record) (slots : List Slot) (k : ℕ) (flags : List Bool) → k ≡ length records → AreFlagsTo records slots k flags → AreFlagsOf records slots flags
flags_all records slots k flags end are = record { count = are.count_is ∙ end; each = λ j r within. are.each j r (omega (arith, within, end)) within }
