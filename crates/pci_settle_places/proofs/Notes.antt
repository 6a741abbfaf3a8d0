-- Notes of places in a table by function and part, from the last item to the first.
use Rattle.std.proofs.Common.{◌≡◌, ℕ, zero, suc, ◌+◌, ◌-◌, ◌<◌, ◌≤◌, inl, inr, List, [], ◌∷◌, map, length, drop, set, get_or, true, false, cond, arith, refl, sym, ◌∙◌, ap, subst, Option, None, Some}
use Rattle.std.specs.Bool.{◌==◌}
use Rattle.std.specs.List.{All, Contains, slice_get}
use Rattle.std.proofs.lemmas.Bool.{cases_Bool, cases_eq, cases_lt, eqb-true, eq-eqb, ltb-true, both_ways}
use Rattle.std.proofs.lemmas.List.{length-map, get_or-map, length-set, get_or-set_same, get_or-set_other, at_drop_more}
use Rattle.std.proofs.lemmas.Option.{slice_get_within, slice_get-get_or, get_or_from_slice_get}
use Rattle.pci_spec.specs.Slot.{slot_number}
use Rattle.pci_spec.specs.Header.{layout, bar_count}
use Rattle.pci_spec.specs.Window.{WindowKind}
use Rattle.pci_spec.specs.System.{System, Function, Part, IsSystem, has_part}
use Rattle.plan_spec.proofs.Planning.AllItems.{slots_rise}
use Rattle.settle_spec.specs.Parts.{FunctionPart}
use Rattle.settle_spec.specs.Stands.{rank}
use Rattle.settle_spec.specs.Items.{PlacingItem as ItemValue, Placed}
use Rattle.settle_spec.specs.Places.{place_among, first_lack}
use Rattle.pci_base.specs.WindowKinds.{kind_value}
use Rattle.pci_base.specs.declared.range.Range.{Range}
use Rattle.pci_place.specs.Items.{function_in, no_function}
use Rattle.pci_first_fit.specs.declared.item.Part.{Part as CodePart}
use Rattle.pci_first_fit.specs.declared.item.Part.TheVariants as parts
use Rattle.pci_first_fit.specs.Own.{class_part}
use Rattle.pci_first_fit.specs.Placings.{at_places, lacks_first}
use Rattle.pci_first_fit.proofs.Walks.{left_next}
use Rattle.pci_settle_places.specs.declared.candidate.Candidate.{Candidate}
use Rattle.pci_settle_places.specs.declared.places.Places.{Places}
use Rattle.pci_settle_places.specs.Candidates.{candidate_value, IsWithin, HasPart}
use Rattle.pci_settle_places.specs.BusPlaces.{bus_placing, AreInTable}
use Rattle.pci_settle_places.specs.Places.{IsPlacesPart, place_range_in, placed_at, or_kept, AreNotable}
use Rattle.pci_settle_places.proofs.Parts.{rank_one}

-- ---- items at their places

at_length : (items : List ItemValue) (places : List ℕ) → length places ≡ length items → length (at_places items places) ≡ length items
at_length [] places same = refl
at_length (i ∷ items) [] same = absurd (let no : ⊥ = omega (arith, same) in no)
at_length (i ∷ items) (a ∷ places) same = ap suc (at_length items places (omega (arith, same)))

at_read : (items : List ItemValue) (places : List ℕ) (k : ℕ) (i : ItemValue) (d : Placed) → length places ≡ length items → k < length items
    → get_or (at_places items places) k d ≡ record { item = get_or items k i; at = get_or places k 0 }
at_read [] places k i d same less = absurd (let no : ⊥ = omega (arith, less) in no)
at_read (x ∷ items) [] k i d same less = absurd (let no : ⊥ = omega (arith, same) in no)
at_read (x ∷ items) (a ∷ places) zero i d same less = refl
at_read (x ∷ items) (a ∷ places) (suc k) i d same less = at_read items places k i d (omega (arith, same)) (omega (arith, less))

pub drop_none : {X : Type 0} (n : ℕ) (xs : List X) → length xs ≤ n → drop n xs ≡ []
drop_none zero [] past = refl
drop_none zero (x ∷ xs) past = absurd (let no : ⊥ = omega (arith, past) in no)
drop_none (suc n) [] past = refl
drop_none (suc n) (x ∷ xs) past = drop_none n xs (omega (arith, past))

-- ---- functions and their numbers

pub one_place : (s : System) → IsSystem s → (k m : ℕ) (f : Function) → slice_get s k ≡ Some f → slice_get s m ≡ Some f → k ≡ m
one_place s system k m f at_k at_m = elim (cases_eq k m) [
  | inl same ↦ same
  | inr differ ↦
      let here = get_or_from_slice_get s k f f at_k in
      let there = get_or_from_slice_get s m f f at_m in
      absurd (elim (cases_lt k m) [
        | inl less ↦
            let up = slots_rise s system k m f less (slice_get_within s m f at_m) in
            let a : slot_number (get_or s k f).slot ≡ slot_number f.slot = ap (λ (x : Function). slot_number x.slot) here in
            let b : slot_number (get_or s m f).slot ≡ slot_number f.slot = ap (λ (x : Function). slot_number x.slot) there in
            (let no : ⊥ = omega (arith, up, a, b) in no)
        | inr more ↦
            let up = slots_rise s system m k f (omega (arith, more, differ)) (slice_get_within s k f at_k) in
            let a : slot_number (get_or s k f).slot ≡ slot_number f.slot = ap (λ (x : Function). slot_number x.slot) here in
            let b : slot_number (get_or s m f).slot ≡ slot_number f.slot = ap (λ (x : Function). slot_number x.slot) there in
            (let no : ⊥ = omega (arith, up, a, b) in no)
      ])
]

-- ---- the notes of the items from a place on

abbrev pub region : Function → Part → FunctionPart
region f part = record { function = f; part = part }

abbrev all_at : System → List Candidate → List ℕ → List Placed
all_at s candidates firsts = at_places (map (candidate_value s) candidates) firsts

pub record AreNoted (candidates : List Candidate) (firsts : List ℕ) (old now : List Places) (from : ℕ) : Type 0 where
  pub size : length now ≡ length old
  pub each : (s : System) → IsSystem s → length s ≡ length old → All (HasPart s) candidates → (k : ℕ) (f : Function) (d : Places) (part : Part) → slice_get s k ≡ Some f → has_part f part ≡ true
      → place_range_in (get_or now k d) part ≡ or_kept (placed_at (place_among (region f part) (drop from (all_at s candidates firsts)))) (place_range_in (get_or old k d) part)

module _ (candidates : List Candidate) (firsts : List ℕ) (count : length firsts ≡ length candidates) (old : List Places) where
  long : (s : System) → length (all_at s candidates firsts) ≡ length candidates
  long s =
      let more = length-map candidates (candidate_value s) in
      at_length (map (candidate_value s) candidates) firsts (omega (arith, more, count)) ∙ more

  pub noted_none : (n : ℕ) → length candidates ≤ n → AreNoted candidates firsts old old n
  noted_none n past = record {
    size = refl;
    each = λ s system same parts k f d part at there.
        ap (λ ps. or_kept (placed_at (place_among (region f part) ps)) (place_range_in (get_or old k d) part))
        (sym (drop_none n (all_at s candidates firsts) (let e = long s in omega (arith, e, past))));
  }

  module _ (now : List Places) (n : ℕ) (was : AreNoted candidates firsts old now (n + 1)) (inside : n < length candidates) (c : Candidate) (is : get_or candidates n c ≡ c)
      (low : c.item.function < length old) (first : ℕ) (first_is : get_or firsts n 0 ≡ first) (entry : Places) (new : List Places) (put : new ≡ set now c.item.function entry)
      (range : Range) (range_is : range ≡ record { first = first; last = first + (c.item.extent.size - 1) }) where
    abbrev m : ℕ
    m = c.item.function

    here : get_or new m entry ≡ entry
    here = let size = was.size in ap (λ xs. get_or xs m entry) put ∙ get_or-set_same now m entry entry (omega (arith, low, size))

    module _ (s : System) (system : IsSystem s) (same : length s ≡ length old) (parts : All (HasPart s) candidates) where
      abbrev value : ItemValue
      value = candidate_value s c

      abbrev own : Part
      own = value.region.part

      head : drop n (all_at s candidates firsts) ≡ record { item = value; at = first } ∷ drop (n + 1) (all_at s candidates firsts)
      head =
          let more = length-map candidates (candidate_value s) in
          let e = long s in
          at_drop_more (λ xs. xs) (all_at s candidates firsts) n (record { item = value; at = first }) (omega (arith, inside, e))
          ∙ ap (λ p. p ∷ drop (n + 1) (all_at s candidates firsts))
          (at_read (map (candidate_value s) candidates) firsts n value (record { item = value; at = first }) (omega (arith, more, count)) (omega (arith, more, inside))
          ∙ ap (λ i. record { item = i; at = get_or firsts n 0 }) (get_or-map (candidate_value s) candidates n c value inside ∙ ap (candidate_value s) is)
          ∙ ap (λ a. record { item = value; at = a }) first_is)

      at_own : slice_get s m ≡ Some (function_in s m)
      at_own = slice_get-get_or s m no_function (omega (arith, low, same))

      there_own : has_part (function_in s m) own ≡ true
      there_own = subst (HasPart s) is (parts n c inside)

      abbrev later : Function → Part → Option Placed
      later f part = place_among (region f part) (drop (n + 1) (all_at s candidates firsts))

      among : (f : Function) (part : Part) → place_among (region f part) (drop n (all_at s candidates firsts)) ≡ cond (rank value.region == rank (region f part)) (Some (record { item = value; at = first })) (later f part)
      among f part = ap (place_among (region f part)) head

      module _ (set_is : place_range_in entry own ≡ Some range) (others : (d : Places) (other : Part) → (other ≡ own → ⊥) → place_range_in entry other ≡ place_range_in (get_or now m d) other) where
        by_part : (k : ℕ) (f : Function) (d : Places) (part : Part) → slice_get s k ≡ Some f → has_part f part ≡ true
            → place_range_in (get_or new k d) part ≡ or_kept (placed_at (place_among (region f part) (drop n (all_at s candidates firsts)))) (place_range_in (get_or old k d) part)
        by_part k f d part at there = elim (cases_Bool (rank value.region == rank (region f part))) [
          | inl hit ↦
              let listed_f : Contains s f = (k, slice_get_within s k f at, get_or_from_slice_get s k f f at) in
              let listed_own : Contains s (function_in s m) = (m, slice_get_within s m (function_in s m) at_own, get_or_from_slice_get s m (function_in s m) (function_in s m) at_own) in
              let one = rank_one s system (function_in s m) f own part listed_own listed_f there_own there (eqb-true (rank value.region) (rank (region f part)) hit) in
              let place : k ≡ m = one_place s system k m f at (subst (λ g. slice_get s m ≡ Some g) one.function at_own) in
              let size = was.size in
              ap (λ j. place_range_in (get_or new j d) part) place
              ∙ ap (λ xs. place_range_in (get_or xs m d) part) put
              ∙ ap (λ e. place_range_in e part) (get_or-set_same now m entry d (omega (arith, low, size)))
              ∙ ap (place_range_in entry) (sym one.part)
              ∙ set_is
              ∙ ap (λ r. Some r) range_is
              ∙ sym (ap (λ o. or_kept (placed_at o) (place_range_in (get_or old k d) part)) (among f part ∙ ap (λ b. cond b (Some (record { item = value; at = first })) (later f part)) hit))
          | inr miss ↦
              kept k f d part at there miss
              ∙ was.each s system same parts k f d part at there
              ∙ sym (ap (λ o. or_kept (placed_at o) (place_range_in (get_or old k d) part)) (among f part ∙ ap (λ b. cond b (Some (record { item = value; at = first })) (later f part)) miss))
        ]
          where
            kept : (k : ℕ) (f : Function) (d : Places) (part : Part) → slice_get s k ≡ Some f → has_part f part ≡ true → (rank value.region == rank (region f part)) ≡ false
                → place_range_in (get_or new k d) part ≡ place_range_in (get_or now k d) part
            kept k f d part at there miss = elim (cases_eq k m) [
              | inl place ↦
                  let function : f ≡ function_in s m = (
                  let both : Some f ≡ Some (function_in s m) = sym at ∙ ap (slice_get s) place ∙ at_own in
                  let e : f ≡ function_in s m = cc in e
                  ) in
                  let size = was.size in
                  ap (λ xs. place_range_in (get_or xs k d) part) put
                  ∙ ap (λ j. place_range_in (get_or (set now m entry) j d) part) place
                  ∙ ap (λ e. place_range_in e part) (get_or-set_same now m entry d (omega (arith, low, size)))
                  ∙ others d part (λ one. both_ways (rank value.region == rank (region f part)) miss
                  (eq-eqb (rank value.region) (rank (region f part)) (ap (λ p. rank (region (function_in s m) p)) (sym one) ∙ ap (λ g. rank (region g part)) (sym function))))
                  ∙ ap (λ j. place_range_in (get_or now j d) part) (sym place)
              | inr other ↦
                  ap (λ xs. place_range_in (get_or xs k d) part) put
                  ∙ ap (λ e. place_range_in e part) (get_or-set_other now m k entry d other)
            ]

    pub noted_more : ((s : System) → place_range_in entry (candidate_value s c).region.part ≡ Some range)
        → ((s : System) (d : Places) (other : Part) → (other ≡ (candidate_value s c).region.part → ⊥) → place_range_in entry other ≡ place_range_in (get_or now m d) other)
        → AreNoted candidates firsts old new n
    noted_more set_is others = record {
      size = ap length put ∙ length-set now m entry ∙ was.size;
      each = λ s system same parts k f d part at there. by_part s system same parts (set_is s) (others s) k f d part at there;
    }

-- ---- the first that has no place

pub lacks_at : (s : System) (candidates : List Candidate) (places : List ℕ) (k : ℕ) (d : Candidate) → k < length candidates → first_lack (bus_placing s candidates places (Some k)) None ≡ Some (candidate_value s (get_or candidates k d))
lacks_at s candidates places k d within = ap (λ xs. first_lack (lacks_first xs) None) (left_next (candidate_value s) candidates k d within)

-- a part that a function has is one of the table's
pub are_part : (s : System) (candidates : List Candidate) → All (HasPart s) candidates → All (λ (c : Candidate). IsPlacesPart c.item.part) candidates
are_part s candidates each k d less = by_part (get_or candidates k d).item.part (function_in s (get_or candidates k d).item.function) (kind_value (get_or candidates k d).class) (each k d less)
  where
    few : (kind : ℕ) → bar_count kind ≤ 6
    few kind = elim (kind == 1) as (λ b. cond b 2 6 ≤ 6) [ true ↦ omega arith | false ↦ omega arith ]

    by_part : (p : CodePart) (f : Function) (c : WindowKind) → has_part f (class_part c p) ≡ true → IsPlacesPart p
    by_part (parts.Bar n) f c there = let low = ltb-true n (bar_count (layout f.image)) there in let most = few (layout f.image) in omega (arith, low, most)
    by_part parts.Rom f c there = tt
    by_part parts.Window f c there = tt

-- so what is placed on a bus can be noted
pub notable : (s : System) (candidates : List Candidate) (places : List ℕ) (lack : Option ℕ) → AreInTable s candidates places lack → (functions : ℕ) → functions ≡ length s → AreNotable functions candidates places lack
notable s candidates places lack within functions same = record {
  each = subst (λ n. All (IsWithin n) candidates) (sym same) within.functions;
  parts = are_part s candidates within.parts;
  lawful = within.lawful;
  count = within.count;
  lacking = within.lacking;
  ends = within.ends;
}
