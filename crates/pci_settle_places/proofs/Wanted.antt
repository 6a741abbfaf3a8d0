-- What is wanted for the items of a bus, each of which is of a function of the system.
use Rattle.std.proofs.Common.{◌≡◌, ℕ, ◌+◌, ◌-◌, ◌*◌, ◌^◌, ◌<◌, ◌≤◌, inl, inr, List, [], ◌∷◌, ◌++◌, map, length, get_or, Bool, true, false, cond, ◌&&◌, arith, sym, ◌∙◌, ap, subst, Option, None, Some}
use Rattle.std.specs.Option.{IfSome, IfNone}
use Rattle.std.specs.Bool.{◌==◌}
use Rattle.std.specs.List.{All, Contains}
use Rattle.std.proofs.lemmas.Bool.{cases_Bool, cases_lt, or_cases, and_parts, eqb-true}
use Rattle.std.proofs.lemmas.List.{length-map, get_or-map, get_or_past}
use Rattle.std.proofs.lemmas.List.Elements.{All-contains, Contains-get_or}
use Rattle.std.proofs.lemmas.Option.{slice_get-get_or, get_or_from_slice_get}
use Rattle.pci_spec.specs.Slot.{Slot}
use Rattle.pci_spec.specs.Window.{WindowKind, IoWindow, MemoryWindow, PrefetchWindow}
use Rattle.pci_spec.specs.System.{System, Function, Space, IsFunction, IsSystem}
use Rattle.pci_spec.specs.Bus.{is_root}
use Rattle.pci_spec.specs.Decoded.{HasRecords}
use Rattle.plan_spec.specs.Place.{range_from}
use Rattle.plan_spec.proofs.Planning.Safe.{slots_of}
use Rattle.settle_spec.specs.FirstPlace.{is_high, else_at, first_place}
use Rattle.settle_spec.specs.Lists.{Request}
use Rattle.settle_spec.specs.Items.{PlacingItem as ItemValue, Placed}
use Rattle.settle_spec.specs.Lines.{lines_behind}
use Rattle.settle_spec.specs.Kept.{Kept}
use Rattle.settle_spec.specs.Keeping.Places.{space_items}
use Rattle.settle_laws.proofs.Keeping.Buses.{of_space}
use Rattle.pci_function.specs.declared.record.Record.{Record}
use Rattle.pci_function.specs.Values.{record_value}
use Rattle.pci_tree.proofs.Lifting.{same_slot_of}
use Rattle.pci_place.specs.Items.{function_in, no_function}
use Rattle.pci_place.proofs.Records.{function_at}
use Rattle.pci_base.specs.WindowKinds.{kind_value}
use Rattle.pci_base.specs.declared.window_kind.WindowKind.TheVariants as classes
use Rattle.pci_base.specs.declared.range.Range.{Range}
use Rattle.pci_base.specs.Ranges.{decoded_range_of}
use Rattle.pci_base.specs.declared.window_kind.ByKind.{ByKind}
use Rattle.pci_first_fit.specs.declared.item.Part.TheVariants.{Bar}
use Rattle.pci_first_fit.specs.declared.place.Places.{Places}
use Rattle.pci_first_fit.specs.declared.placing.Wanted.{Wanted}
use Rattle.pci_first_fit.specs.Spots.{extent_value}
use Rattle.pci_first_fit.specs.Placings.{HasListAt, AreWanted, AreEnding}
use Rattle.pci_settle_places.specs.declared.candidate.Candidate.{Candidate}
use Rattle.pci_settle_places.specs.Candidates.{candidate_value, HasAddressAndAlignment, IsWithin, HasPart}
use Rattle.pci_settle_places.specs.Columns.{kind_number, column, list_number, told_place, candidate_wanted, list_at, AreListsFor}
use Rattle.pci_settle_places.specs.Places.{AreEndingAt}
use Rattle.pci_settle_places.specs.BusPlaces.{place_beside}
use Rattle.pci_settle_places.specs.Taken.{AreNearListed, AreNearBehindTo}
use Rattle.pci_settle_places.proofs.BehindRows.{same_place}
use Rattle.pci_settle_places.proofs.Parts.{real_in}

-- the function of a record is on its bus
pub bus_is : (s : System) (records : List Record) → HasRecords s (map record_value records) → (k : ℕ) (r : Record) → k < length records → r ≡ get_or records k r → r.slot.bus ≡ (function_in s k).slot.bus
bus_is s records has k r within is =
    let found = function_at s records has k r (slice_get-get_or records k r within ∙ ap Some (sym is)) in
    ap (λ (x : Slot). x.bus) (same_slot_of r found.f found.is.value) ∙ ap (λ (f : Function). f.slot.bus) (sym (get_or_from_slice_get s k found.f no_function found.at))

-- what an index past the end is read as
abbrev pub no_candidate : Candidate
no_candidate = record { class = classes.Io; item = record { function = 0; part = Bar 0; extent = record { size = 0; alignment = 0; highest = 0 } } }

abbrev pub no_wanted : Wanted
no_wanted = record { extent = no_candidate.item.extent; list = 0; at = None }

-- one more is wanted
pub wanted_more : (roots : List ℕ) (s : System) (records : List Record) → HasRecords s (map record_value records) → (places : List Places) (grown : ByKind (Option Range)) (c : Candidate) → c.item.function < length records → (r : Record) → r ≡ get_or records c.item.function r
    → (bus : ℕ) → bus ≡ r.slot.bus → (m : ℕ) → m ≡ column roots bus → (n : ℕ) → n ≡ kind_number (kind_value c.class) (is_high (extent_value c.item.extent)) → (at : Option ℕ) → at ≡ told_place places grown c → (old : List Wanted)
    → old ++ record { extent = c.item.extent; list = 3 * m + n; at = at } ∷ [] ≡ old ++ candidate_wanted roots s places grown c ∷ []
wanted_more roots s records has places grown c within r is bus on m m_is n n_is at at_is old =
    ap (λ k. old ++ record { extent = c.item.extent; list = 3 * k + n; at = at } ∷ []) (m_is ∙ ap (column roots) (on ∙ bus_is s records has c.item.function r within is))
    ∙ ap (λ k. old ++ record { extent = c.item.extent; list = 3 * column roots (function_in s c.item.function).slot.bus + k; at = at } ∷ []) n_is
    ∙ ap (λ o. old ++ record { extent = c.item.extent; list = list_number roots (candidate_value s c); at = o } ∷ []) at_is

-- what no function is of is of no function of the system
pub none_past : (s : System) → IsSystem s → (k : ℕ) → Contains s (function_in s k) → k < length s
none_past s system k listed = elim (cases_lt k (length s)) [
  | inl inside ↦ inside
  | inr past ↦
      let none : function_in s k ≡ no_function = get_or_past s k no_function past in
      let full : 0 ≡ 256 = (All-contains IsFunction s no_function system.each (subst (λ f. Contains s f) none listed)).image.full in
      absurd (let no : ⊥ = omega (arith, full) in no)
]

kind_few : (c : WindowKind) (wide : Bool) → kind_number c wide < 3
kind_few IoWindow wide = omega arith
kind_few MemoryWindow true = omega arith
kind_few MemoryWindow false = omega arith
kind_few PrefetchWindow wide = omega arith

module _ (q : Request) (s : System) (keep : Kept) (system : IsSystem s) (space : Space) (bus : ℕ) (candidates : List Candidate) (are : map (candidate_value s) candidates ≡ space_items q s keep space bus) where
  listed_at : (k : ℕ) (d : Candidate) → k < length candidates → Contains (space_items q s keep space bus) (candidate_value s (get_or candidates k d))
  listed_at k d less =
      let long = length-map candidates (candidate_value s) in
      subst (λ i. Contains (space_items q s keep space bus) i) (get_or-map (candidate_value s) candidates k d (candidate_value s d) less)
      (subst (λ xs. Contains xs (get_or (map (candidate_value s) candidates) k (candidate_value s d))) are
      (Contains-get_or (map (candidate_value s) candidates) k (candidate_value s d) (omega (arith, less, long))))

  pub are_within : All (IsWithin (length s)) candidates
  are_within k d less = none_past s system (get_or candidates k d).item.function (of_space q s keep space bus (candidate_value s (get_or candidates k d)) (listed_at k d less)).listed

  pub are_parts : All (HasPart s) candidates
  are_parts k d less = (real_in q s keep space bus (candidate_value s (get_or candidates k d)) (listed_at k d less)).there

  -- the list of an item is one of the table
  number_in : (count : ℕ) → 3 ≤ count → (is_root q.roots bus ≡ true → count ≡ 768) → (i : ItemValue) → Contains (space_items q s keep space bus) i → list_number q.roots i < count
  number_in count some all i listed =
      let of = of_space q s keep space bus i listed in
      let on = i.region.function.slot.bus in
      let few = kind_few i.class (is_high i.extent) in
      elim (cases_Bool (is_root q.roots on)) [
        | inl root ↦
            let low = (slots_of s system i.region.function of.listed).0 in
            let here : is_root q.roots bus ≡ true = elim (or_cases (bus == on) (is_root q.roots bus && is_root q.roots on) of.beside) [
              | inl same ↦ subst (λ n. is_root q.roots n ≡ true) (sym (eqb-true bus on same)) root
              | inr both ↦ (and_parts (is_root q.roots bus) (is_root q.roots on) both).0
            ] in
            let long = all here in
            let at : column q.roots on ≡ on = ap (λ b. cond b on 0) root in
            omega (arith, low, long, at, few)
        | inr off ↦
            let at : column q.roots on ≡ 0 = ap (λ b. cond b on 0) off in
            omega (arith, some, at, few)
      ]

  module _ (places : List Places) (grown : ByKind (Option Range)) (wanted : List Wanted) (is : wanted ≡ map (candidate_wanted q.roots s places grown) candidates) where
    count_is : length wanted ≡ length candidates
    count_is = ap length is ∙ length-map candidates (candidate_wanted q.roots s places grown)

    wanted_at : (k : ℕ) (w : Wanted) (d : Candidate) → k < length candidates → get_or wanted k w ≡ candidate_wanted q.roots s places grown (get_or candidates k d)
    wanted_at k w d less = ap (λ ws. get_or ws k w) is ∙ get_or-map (candidate_wanted q.roots s places grown) candidates k d w less

    pub wanted_lawful : (count : ℕ) → 3 ≤ count → (is_root q.roots bus ≡ true → count ≡ 768) → (d : Candidate) → All HasAddressAndAlignment candidates
        → ((c : Candidate) → Contains (space_items q s keep space bus) (candidate_value s c) → IfSome (told_place places grown c) (λ a. (range_from a c.item.extent.size).last < 2 ^ 64)) → All (HasListAt count) wanted
    wanted_lawful count some all d lawful ending = λ k w less. (
        let long = count_is in
        let within : k < length candidates = omega (arith, less, long) in
        subst (HasListAt count) (sym (wanted_at k w d within)) record {
          extent = lawful k d within;
          list = number_in count some all (candidate_value s (get_or candidates k d)) (listed_at k d within);
          ends = ending (get_or candidates k d) (listed_at k d within);
        })

    pub are_wanted : (placed : ℕ → List Placed) (lists behind : List (List Range)) → AreListsFor q s keep space placed bus lists places grown → All HasAddressAndAlignment candidates → AreNearBehindTo q s lists wanted candidates (length candidates) behind
        → (d : Candidate) → AreWanted lists behind (place_beside q s keep placed) (map (candidate_value s) candidates) wanted
    are_wanted placed lists behind for lawful are d = record {
      count = length-map candidates (candidate_value s) ∙ sym count_is;
      each = λ k i w less. (
          let long = count_is in
          let within : k < length candidates = omega (arith, less, long) in
          let here : get_or (map (candidate_value s) candidates) k i ≡ candidate_value s (get_or candidates k d) = get_or-map (candidate_value s) candidates k d i within in
          let own = wanted_at k w d within in
          record {
            extent = ap (λ (j : ItemValue). j.extent) here ∙ ap (λ (x : Wanted). extent_value x.extent) (sym own);
            place = λ taken.
                let c = get_or candidates k d in
                let value = candidate_value s c in
                let held = map decoded_range_of (get_or behind k []) in
                ap (λ j. place_beside q s keep placed j taken) here
                ∙ for c (listed_at k d within) (lines_behind q value.region ++ taken)
                ∙ ap (else_at (told_place places grown c)) (same_place (get_or lists (list_number q.roots value) []) (lines_behind q value.region) (get_or behind k [])
                (subst (λ (x : Wanted). AreNearListed (get_or lists x.list []) (lines_behind q value.region) (get_or behind k [])) own (are k d w within)) taken value.extent (lawful k d within).alignment)
                ∙ ap (λ (x : Wanted). else_at x.at (first_place (list_at lists x.list) (held ++ taken) (extent_value x.extent))) (sym own);
          });
    }

    -- ---- what is told of all

    pub lacking_less : (lack : Option ℕ) → IfSome lack (λ k. k < length wanted) → IfSome lack (λ k. k < length candidates)
    lacking_less None less = tt
    lacking_less (Some k) less = let long = count_is in omega (arith, less, long)

    pub are_ending : (firsts : List ℕ) (lack : Option ℕ) → Candidate → IfNone lack (AreEnding wanted firsts (length wanted)) → IfNone lack (AreEndingAt candidates firsts)
    are_ending firsts (Some k) c ends = tt
    are_ending firsts None c ends = λ k d less. (
        let long = count_is in
        let w = candidate_wanted q.roots s places grown c in
        subst (λ (x : Wanted). get_or firsts k 0 + (x.extent.size - 1) < 2 ^ 64) (wanted_at k w d less) (ends k w (omega (arith, less, long))))
