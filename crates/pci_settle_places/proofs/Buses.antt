-- The places of a bus, by what the search in its lists answers.
use Rattle.std.proofs.Common.{◌≡◌, ℕ, ◌+◌, ◌<◌, ◌≤◌, List, ◌++◌, map, length, take, drop, append-nil, arith, sym, ◌∙◌, ap, subst, refl, cond, Option, None, Some, true, ◌^◌}
use Rattle.std.specs.Option.{IfSome, IfNone, option_map}
use Rattle.std.specs.List.{All, Contains, slice_get}
use Rattle.std.proofs.lemmas.List.{take_all}
use Rattle.std.proofs.lemmas.List.Elements.{All-contains}
use Rattle.std.proofs.lemmas.Option.{slice_get-get_or}
use Rattle.pci_spec.specs.Decoded.{Range as DecodedRange, HasRecords}
use Rattle.pci_spec.specs.System.{System, Function, Space, Window, IsSystem, is_bridge}
use Rattle.pci_spec.specs.Bus.{secondary, is_root, IsNested}
use Rattle.pci_spec.proofs.Members.{in_map_to, in_map_from, IsMade}
use Rattle.plan_spec.specs.Place.{range_from}
use Rattle.settle_spec.specs.Lists.{Lists, Request}
use Rattle.settle_spec.specs.FirstPlace.{else_at}
use Rattle.settle_spec.specs.Stands.{window_part}
use Rattle.settle_spec.specs.Items.{PlacingItem as ItemValue, Placing, taken_by, place_each}
use Rattle.settle_spec.specs.Lines.{lines_behind}
use Rattle.settle_spec.specs.Places.{placed_of}
use Rattle.settle_spec.specs.Kept.{Kept}
use Rattle.settle_spec.specs.Keeping.Places.{space_items, taken_at, placing_on}
use Rattle.settle_spec.proofs.SameTaken.{same_first_place}
use Rattle.settle_laws.proofs.Keeping.Buses.{of_space, placing_by_bus}
use Rattle.pci_base.specs.declared.range.Range.{Range}
use Rattle.pci_base.specs.declared.window_kind.ByKind.{ByKind}
use Rattle.pci_base.specs.Ranges.{decoded_range_of}
use Rattle.pci_base.specs.WindowKinds.{by_kind, kind_value}
use Rattle.pci_function.specs.declared.record.Record.{Record}
use Rattle.pci_function.specs.Values.{record_value}
use Rattle.pci_place.specs.Items.{no_function}
use Rattle.pci_first_fit.specs.declared.own.Terms.{Terms}
use Rattle.pci_first_fit.specs.declared.place.Places.{Places}
use Rattle.pci_first_fit.specs.declared.placing.Wanted.{Wanted}
use Rattle.pci_first_fit.specs.Placings.{HasListAt, AreWanted, AreEnding, placing_of}
use Rattle.pci_first_fit.specs.Own.{class_part}
use Rattle.pci_first_fit.specs.Tables.{untold}
use Rattle.pci_first_fit.specs.PlaceTables.{placed}
use Rattle.pci_first_fit.specs.Keeping.{grown_of, IsInKept}
use Rattle.pci_first_fit.proofs.AllPlaced.{FindsTheSame, each_same_taken}
use Rattle.pci_settle_places.specs.declared.candidate.Candidate.{Candidate}
use Rattle.pci_settle_places.specs.declared.candidate.SpaceWindows.{SpaceWindows}
use Rattle.pci_settle_places.specs.declared.staying.Staying.{Staying}
use Rattle.pci_settle_places.specs.Candidates.{candidate_value, HasAddressAndAlignment, IsWithin, HasPart, HasSpaceWindows, KnowsWindows, AreCandidatesOf, pass}
use Rattle.pci_settle_places.specs.Columns.{told_if, told_place, list_number, candidate_wanted, list_at, HasRootColumns}
use Rattle.pci_settle_places.specs.BusPlaces.{bus_placing, AreInTable, AreToldEnding, place_beside, ArePlacesIn}
use Rattle.pci_settle_places.specs.Taken.{AreTakenAt, AreNearBehindTo, AreNearBehindEach}
use Rattle.pci_settle_places.specs.Spaces.{grown_by}
use Rattle.pci_settle_places.proofs.Notes.{drop_none}
use Rattle.pci_settle_places.proofs.Parts.{in_space}
use Rattle.pci_settle_places.proofs.Wanted.{no_candidate, none_past, are_within, are_parts, wanted_lawful, are_wanted, lacking_less, are_ending}
use Rattle.pci_settle_places.proofs.Told.{nothing_told, grown_is}
use Rattle.pci_settle_places.proofs.Columns.{root_lists_for}
use Rattle.pci_settle_places.proofs.TakenBeside.{same_listed, same_after}
use Rattle.pci_settle_places.specs.Staying.{IsStaying, setting}

-- what a slice of a list gives back
pub slice_back : {X : Type 0} (len : ℕ) (new old : List X) → length new ≡ length old → len ≡ length old → take len (new ++ drop (length new) old) ≡ new
slice_back len new old same long =
    ap (λ xs. take len (new ++ xs)) (drop_none (length new) old (omega (arith, same)))
    ∙ ap (take len) (append-nil new)
    ∙ take_all len new (omega (arith, same, long))

module _ (roots : List ℕ) (s : System) (system : IsSystem s) (space : Space) (t : Terms) (st : Staying) (w : SpaceWindows) (bus : ℕ) (grown : ByKind (Option Range)) (candidates : List Candidate) (are : AreCandidatesOf (pass roots s space t st w) bus candidates)
    (rs : List ℕ) (rs_are : rs ≡ roots) (slice : List Candidate) (slice_is : slice ≡ candidates) (wanted : List Wanted) (wanted_is : wanted ≡ map (candidate_wanted rs s st.left.places.now grown) slice) where
  abbrev told : List Places
  told = st.left.places.now

  wanted_own : (q : Request) (keep : Kept) → IsStaying q keep (setting roots s t st) → wanted ≡ map (candidate_wanted q.roots s told grown) candidates
  wanted_own q keep stay = wanted_is ∙ ap (λ xs. map (candidate_wanted xs s told grown) slice) (rs_are ∙ sym stay.left.rooted) ∙ ap (map (candidate_wanted q.roots s told grown)) slice_is

  module _ (known : KnowsWindows (pass roots s space t st w)) where
    abbrev q0 : Request
    q0 = known.request

    abbrev k0 : Kept
    k0 = known.keep

    here : map (candidate_value s) candidates ≡ space_items q0 s k0 space bus
    here = are q0 k0 known.stay known.has

    pub slice_within : (count : ℕ) → length s ≡ count → All (IsWithin count) slice
    slice_within count long = subst (All (IsWithin count)) (sym slice_is) (subst (λ n. All (IsWithin n) candidates) long (are_within q0 s k0 system space bus candidates here))

    module _ (ws : List Wanted) (ws_are : ws ≡ wanted) where
      pub all_lawful : (count : ℕ) → 3 ≤ count → (is_root roots bus ≡ true → count ≡ 768) → All HasAddressAndAlignment candidates → AreToldEnding (pass roots s space t st w) bus grown → All (HasListAt count) ws
      all_lawful count some all lawful ending =
          subst (All (HasListAt count)) (sym ws_are)
          (wanted_lawful q0 s k0 system space bus candidates here told grown wanted (wanted_own q0 k0 known.stay) count some (λ root. all (subst (λ xs. is_root xs bus ≡ true) known.stay.left.rooted root)) no_candidate lawful
          (ending q0 k0 known.stay known.has))

      module _ (places : List ℕ) (lack : Option ℕ) (final : List ℕ) (final_is : final ≡ places) where
        pub within_in : All HasAddressAndAlignment candidates → length places ≡ length candidates → IfSome lack (λ k. k < length ws) → IfNone lack (AreEnding ws places (length ws)) → AreInTable s candidates final lack
        within_in lawful count less ends =
            subst (λ ps. AreInTable s candidates ps lack) (sym final_is) record {
              functions = are_within q0 s k0 system space bus candidates here;
              parts = are_parts q0 s k0 system space bus candidates here;
              lawful = lawful;
              count = count;
              lacking = lacking_less q0 s k0 system space bus candidates here told grown wanted (wanted_own q0 k0 known.stay) lack (subst (λ xs. IfSome lack (λ k. k < length xs)) ws_are less);
              ends = are_ending q0 s k0 system space bus candidates here told grown wanted (wanted_own q0 k0 known.stay) places lack no_candidate (subst (λ xs. IfNone lack (AreEnding xs places (length xs))) ws_are ends);
            }

        module _ (records : List Record) (has : HasRecords s (map record_value records)) (behind bs : List (List Range)) (bs_is : bs ≡ behind) (lists : List (List Range)) (vs : List Wanted) (vs_are : vs ≡ wanted) (behind_are : AreNearBehindEach records st.lines.now lists vs candidates behind) where
          pub places_in : (n : ℕ) → n ≡ cond (is_root rs bus) 0 (bus + 1) → All HasAddressAndAlignment candidates → (taken : List Range) → AreTakenAt st n space taken
              → ((find : ItemValue → List DecodedRange → Option ℕ) (items : List ItemValue) → AreWanted lists bs find items ws → place_each find (map decoded_range_of taken) items ≡ placing_of items places lack)
              → ArePlacesIn (pass roots s space t st w) bus lists grown (bus_placing s candidates final lack)
          places_in n n_is lawful taken is_taken placing q keep placed stay windows for =
              let items = are q keep stay windows in
              let values = map (candidate_value s) candidates in
              let find = place_beside q s keep placed in
              let parts : All (HasPart s) candidates = are_parts q s keep system space bus candidates items in
              let each = subst (λ ws. AreNearBehindTo q s lists ws candidates (length candidates) bs) vs_are (subst (AreNearBehindTo q s lists vs candidates (length candidates)) (sym bs_is) (behind_are q s has stay.lines_are parts)) in
              let want = subst (AreWanted lists bs find values) (sym ws_are) (are_wanted q s keep system space bus candidates items told grown wanted (wanted_own q keep stay) placed lists bs for lawful each no_candidate) in
              ap (λ ps. bus_placing s candidates ps lack) final_is
              ∙ sym (placing find values want)
              ∙ each_same_taken find values (map decoded_range_of taken) (taken_at q s keep space bus) (finds items)
              (same_listed (taken_at q s keep space bus) taken (is_taken q s keep bus stay.held_is stay.lines_are (n_is ∙ ap (λ xs. cond (is_root xs bus) 0 (bus + 1)) (rs_are ∙ sym stay.left.rooted))))
              ∙ ap (place_each find (taken_at q s keep space bus)) items
            where
              finds : map (candidate_value s) candidates ≡ space_items q s keep space bus → (i : ItemValue) → Contains (map (candidate_value s) candidates) i → FindsTheSame (place_beside q s keep placed) i
              finds items i listed xs ys same =
                  let made : IsMade (candidate_value s) candidates i = in_map_to (candidate_value s) candidates i listed in
                  let c = made.from in
                  let value = candidate_value s c in
                  let behind = lines_behind q value.region in
                  let in_items = subst (λ vs. Contains vs value) items (in_map_from (candidate_value s) candidates c made.has) in
                  subst (λ j. place_beside q s keep placed j xs ≡ place_beside q s keep placed j ys) made.is
                  (for c in_items (behind ++ xs)
                  ∙ ap (else_at (told_place told grown c)) (same_first_place (list_at lists (list_number q.roots value)) (behind ++ xs) (behind ++ ys) value.extent (All-contains HasAddressAndAlignment candidates c lawful made.has).alignment (same_after behind xs ys same))
                  ∙ sym (for c in_items (behind ++ ys)))

pub root_places : {V : Type 0} (f : V → List Range) (roots : List ℕ) (s : System) → IsSystem s → IsNested roots s → (space : Space) (l : Lists) (t : Terms) (st : Staying) (w : SpaceWindows) (root : ℕ) → root < 256 → is_root roots root ≡ true
    → (rs : List ℕ) → rs ≡ roots → (all slice : List V) → slice ≡ all → HasRootColumns rs l space 256 (map f all) → (placing : Placing) → ArePlacesIn (pass roots s space t st w) root (map f slice) untold placing
    → (q : Request) (keep : Kept) → IsStaying q keep (setting roots s t st) → q.lists ≡ l → HasSpaceWindows q s space t w → placing ≡ placing_on q s keep space root
root_places f roots s system nested space l t st w root low is_one rs rs_are all slice slice_is columns placing are q keep stay same has =
    are q keep (λ over. placed_of (placing_on q s keep space over)) stay has
    (root_lists_for q s keep l space root (map f slice) st.left.places.now (λ over. placed_of (placing_on q s keep space over)) system (subst (λ xs. is_root xs root ≡ true) (sym stay.left.rooted) is_one) same
    (subst (λ xs. HasRootColumns xs l space 256 (map f slice)) (rs_are ∙ sym stay.left.rooted) (subst (λ xs. HasRootColumns rs l space 256 (map f xs)) (sym slice_is) columns)))
    ∙ sym (placing_by_bus q s keep system (subst (λ xs. IsNested xs s) (sym stay.left.rooted) nested) space root low)

-- no window is over a root, so no place is told there
pub untold_ending : (roots : List ℕ) (s : System) (space : Space) (t : Terms) (st : Staying) (w : SpaceWindows) (bus : ℕ) → AreToldEnding (pass roots s space t st w) bus untold
untold_ending roots s space t st w bus q keep stay has c listed =
    subst (λ o. IfSome o (λ a. (range_from a c.item.extent.size).last < 2 ^ 64)) (sym (nothing_told st.left.places.now c)) tt

-- where a window behind a bridge grows, the places that are told end in 64 bits
module _ (roots : List ℕ) (s : System) (space : Space) (t : Terms) (st : Staying) (w : SpaceWindows) (n : ℕ) (b : Function) (system : IsSystem s) (at : slice_get s n ≡ Some b) (bridge : is_bridge b ≡ true) where
  pub behind_ending : AreToldEnding (pass roots s space t st w) (secondary b) (grown_by st n)
  behind_ending q keep stay has c listed = by (by_kind (grown_by st n) c.class) refl
    where
      by : (o : Option Range) → by_kind (grown_by st n) c.class ≡ o → IfSome (told_place st.left.places.now (grown_by st n) c) (λ a. (range_from a c.item.extent.size).last < 2 ^ 64)
      by None none =
          subst (λ o. IfSome (told_if o (placed st.left.places.now c.item.function (class_part (kind_value c.class) c.item.part))) (λ a. (range_from a c.item.extent.size).last < 2 ^ 64)) (sym none) tt
      by (Some r) some =
          let i = candidate_value s c in
          let told : grown_of st.left.grown.now n (Window i.class) ≡ Some (decoded_range_of r) = grown_is (grown_by st n) c.class ∙ ap (option_map decoded_range_of) some in
          let on = subst (λ o. IfSome o (λ _. keep.stays (window_part i.class b) ≡ true)) told (stay.keeps_is.grown_stay n b i.class at bridge) in
          let kept : IsInKept q s keep n c.item.function b i = record {
            bridge_is = at;
            function_is = slice_get-get_or s c.item.function no_function (none_past s system c.item.function (of_space q s keep space (secondary b) i listed).listed);
            leads = bridge;
            stays_is = on;
            listed = subst (λ x. Contains (space_items q s keep x (secondary b)) i) (sym (in_space q s keep space (secondary b) i listed)) listed;
          } in
          subst (λ o. IfSome (told_if o (placed st.left.places.now c.item.function (class_part (kind_value c.class) c.item.part))) (λ a. (range_from a c.item.extent.size).last < 2 ^ 64)) (sym some)
          (subst (λ o. IfSome o (λ _. IfSome (placed st.left.places.now c.item.function i.region.part) (λ a. (taken_by i a).last < 2 ^ 64))) told (stay.keeps_is.ends n c.item.function b i kept))
