-- What is taken on a bus is what the definitions say: lines, and what stays.
use Rattle.std.proofs.Common.{◌≡◌, ℕ, ◌+◌, ◌-◌, ◌<◌, ◌≤◌, inl, inr, List, [], ◌∷◌, ◌++◌, map, length, get_or, Bool, true, false, cond, ◌&&◌, arith, refl, sym, ◌∙◌, ap, subst, None, Some}
use Rattle.std.specs.Option.{is_some}
use Rattle.std.specs.List.{Contains, filter}
use Rattle.std.specs.List.Sorted.{IsPermutation}
use Rattle.std.proofs.lemmas.Bool.{cases_lt, both_ways}
use Rattle.std.proofs.lemmas.List.{get_or_append_left, get_or-append_right, get_or_default}
use Rattle.std.proofs.lemmas.Option.{slice_get-get_or, get_or_from_slice_get}
use Rattle.std.proofs.lemmas.List.Elements.{Contains-append_left, Contains-append_right, Contains-append_cases}
use Rattle.std.proofs.lemmas.List.Sorted.{IsPermutation-sym, All-permutation, Contains-permutation}
use Rattle.pci_spec.specs.Decoded.{Range as DecodedRange, HasRecords}
use Rattle.pci_spec.specs.Decoded as decoded
use Rattle.pci_spec.specs.System.{System, Function, Space, Part, Bar, Rom, Window, is_bridge, is_window, has_part, space_of, window_space}
use Rattle.pci_spec.specs.Bus.{is_behind, are_siblings}
use Rattle.pci_spec.proofs.Members.{in_nil, in_head, in_map_to, in_map_from, IsMade}
use Rattle.judge_spec.specs.Told.{ToldRange}
use Rattle.judge_spec.specs.ToldRegion.{regions_from, told_regions}
use Rattle.judge_spec.specs.ToldClaims.{told_register}
use Rattle.settle_spec.specs.Lists.{Request}
use Rattle.settle_spec.specs.Lines.{line_bus, line_range, is_line_of, lines_on, is_line_behind, lines_behind}
use Rattle.settle_spec.specs.Parts.{FunctionPart, system_parts, are_same_space}
use Rattle.settle_spec.specs.Stands.{part_space, window_part}
use Rattle.settle_spec.proofs.SameTaken.{HaveSame}
use Rattle.settle_laws.specs.Order.{level}
use Rattle.pci_base.specs.declared.range.Range.{Range}
use Rattle.pci_base.specs.declared.window_kind.WindowKind.{WindowKind as Class}
use Rattle.pci_base.specs.WindowKinds.{kind_value}
use Rattle.pci_base.specs.Ranges.{decoded_range_of}
use Rattle.pci_base.specs.Space as code
use Rattle.pci_function.specs.declared.record.Bridge.{Bridge}
use Rattle.pci_function.specs.declared.record.Record.{Record}
use Rattle.pci_function.specs.Values.{record_value}
use Rattle.pci_tree.proofs.Lifting.{same_bridge}
use Rattle.pci_tree.proofs.RegionParts.{same_bridge_of}
use Rattle.pci_place.specs.Items.{function_in, no_function}
use Rattle.pci_place.proofs.Records.{FunctionAt, function_at}
use Rattle.pci_first_fit.specs.declared.extent.Extent.{Extent}
use Rattle.pci_first_fit.specs.declared.item.Part.{Part as CodePart}
use Rattle.pci_first_fit.specs.declared.item.Part.TheVariants as parts
use Rattle.pci_first_fit.specs.declared.lines.Line.{Line}
use Rattle.pci_first_fit.specs.declared.placing.Wanted.{Wanted}
use Rattle.pci_first_fit.specs.Lines.{row_of, told_row, rows_from, AreForwardRanges, AreLines, AreAdded}
use Rattle.pci_first_fit.specs.Spots.{FirstsRise, AreRisingRanges}
use Rattle.pci_kept.specs.Held.{held_range, is_level_on}
use Rattle.pci_kept.proofs.Helds.{same_parts}
use Rattle.pci_settle_places.specs.declared.candidate.Candidate.{Candidate}
use Rattle.pci_settle_places.specs.declared.staying.Staying.{Staying}
use Rattle.pci_settle_places.specs.Candidates.{candidate_value}
use Rattle.pci_settle_places.specs.declared.stretch.Sought.{Sought}
use Rattle.pci_settle_places.specs.Stretches.{AreSought}
use Rattle.pci_settle_places.specs.Taken.{AreRangesListed, AreTakenAt, AreNearListed, AreBehindOne, AreNearBehindTo}
use Rattle.pci_settle_places.proofs.BehindRows.{near_behind}

-- ---- the same ranges

pub same_listed : (ranges : List DecodedRange) (listed : List Range) → AreRangesListed ranges listed → HaveSame (map decoded_range_of listed) ranges
same_listed ranges listed are = record { to = are.to; back = are.back }

pub same_after : (before xs ys : List DecodedRange) → HaveSame xs ys → HaveSame (before ++ xs) (before ++ ys)
same_after before xs ys same = record {
  to = λ t listed. elim (Contains-append_cases before xs t listed) [
    | inl first ↦ Contains-append_left before ys t first
    | inr later ↦ Contains-append_right before ys t (same.to t later)
  ];
  back = λ t listed. elim (Contains-append_cases before ys t listed) [
    | inl first ↦ Contains-append_left before xs t first
    | inr later ↦ Contains-append_right before xs t (same.back t later)
  ];
}

-- ---- where no line is told of

pub no_entries : {X : Type 0} (xs : List X) → length xs ≡ 0 → xs ≡ []
no_entries [] none = refl
no_entries (x ∷ xs) none = absurd (let no : ⊥ = omega (arith, none) in no)

none_told : (roots : List ℕ) (ranges : List ToldRange) (lines : List Line) → lines ≡ [] → AreLines roots ranges lines → ranges ≡ []
none_told roots [] lines none are = refl
none_told roots (r ∷ ranges) lines none are =
    let row = told_row roots 0 r in
    let listed = Contains-permutation (rows_from roots 0 (r ∷ ranges)) (map row_of lines) row are.rows (in_head row (rows_from roots 1 ranges)) in
    absurd (in_nil row (subst (λ xs. Contains (map row_of xs) row) none listed))

module _ (q : Request) (lines : List Line) (are : AreLines q.roots q.told.ranges lines) (none : lines ≡ []) where
  nothing_told : q.told.ranges ≡ []
  nothing_told = none_told q.roots q.told.ranges lines none are

  pub none_on : (space : Space) (bus : ℕ) → lines_on q space bus ≡ []
  none_on space bus = ap (λ (rs : List ToldRange). map line_range (filter (is_line_of q space bus) (regions_from (told_register 0) rs))) nothing_told

  pub none_behind : (r : FunctionPart) → lines_behind q r ≡ []
  none_behind r = ap (λ (rs : List ToldRange). map line_range (filter (is_line_behind r) (regions_from (told_register 0) rs))) nothing_told

-- ---- with what lines hold there

module _ (st : Staying) (n : ℕ) (space : Space) (parts : List Range) (same : IsPermutation (map held_range (filter (is_level_on n space) st.held.now)) parts) where
  pub taken_alone : st.lines.now ≡ [] → (taken : List Range) → taken ≡ parts → AreTakenAt st n space taken
  taken_alone none taken is q s keep bus are lines here =
      let all = same_parts st.held.now n space parts same q s keep are bus here in
      let off = none_on q st.lines.now lines none space bus in
      record {
        to = λ t listed. Contains-append_right (lines_on q space bus) _ t (all.to t (subst (λ xs. Contains (map decoded_range_of xs) t) is listed));
        back = λ t listed. subst (λ xs. Contains (map decoded_range_of xs) t) (sym is) (all.back t (subst (λ xs. Contains (xs ++ map keep.range (filter (λ (r : FunctionPart). are_siblings q.roots bus r.function.slot.bus && are_same_space space (part_space r) && keep.stays r) (system_parts q s))) t) off listed));
      }

  pub taken_with : (added taken : List Range) → ((q : Request) (bus : ℕ) → AreLines q.roots q.told.ranges st.lines.now → n ≡ level q bus → AreAdded parts added (lines_on q space bus)) → IsPermutation added taken → AreTakenAt st n space taken
  taken_with added taken more sorted q s keep bus are lines here =
      let all = same_parts st.held.now n space parts same q s keep are bus here in
      let put = more q bus lines here in
      let held = lines_on q space bus in
      record {
        to = λ t listed.
            let made : IsMade decoded_range_of taken t = in_map_to decoded_range_of taken t listed in
            let x = made.from in
            let in_added = subst (λ xs. Contains xs x) put.put (Contains-permutation taken added x (IsPermutation-sym added taken sorted) made.has) in
            elim (Contains-append_cases parts put.added x in_added) [
              | inl first ↦ Contains-append_right held _ t (all.to t (subst (Contains (map decoded_range_of parts)) made.is (in_map_from decoded_range_of parts x first)))
              | inr later ↦ Contains-append_left held _ t
                  (Contains-permutation (map decoded_range_of put.added) held t (IsPermutation-sym held (map decoded_range_of put.added) put.same) (subst (Contains (map decoded_range_of put.added)) made.is (in_map_from decoded_range_of put.added x later)))
            ];
        back = λ t listed. elim (Contains-append_cases held _ t listed) [
          | inl first ↦
              let made : IsMade decoded_range_of put.added t = in_map_to decoded_range_of put.added t (Contains-permutation held (map decoded_range_of put.added) t put.same first) in
              to_taken put.added made.from t made.is (Contains-append_right parts put.added made.from made.has) put.put
          | inr later ↦
              let made : IsMade decoded_range_of parts t = in_map_to decoded_range_of parts t (all.back t later) in
              to_taken put.added made.from t made.is (Contains-append_left parts put.added made.from made.has) put.put
        ];
      }
    where
      to_taken : (extra : List Range) (x : Range) (t : DecodedRange) → decoded_range_of x ≡ t → Contains (parts ++ extra) x → added ≡ parts ++ extra → Contains (map decoded_range_of taken) t
      to_taken extra x t is listed put =
          subst (Contains (map decoded_range_of taken)) is
          (in_map_from decoded_range_of taken x (Contains-permutation added taken x sorted (subst (λ xs. Contains xs x) (sym put) listed)))

pub rising_sorted : (added taken : List Range) → AreForwardRanges added → IsPermutation added taken → FirstsRise taken → AreRisingRanges taken
rising_sorted added taken forward sorted order = record {
  order = order;
  forward = All-permutation (λ (r : Range). r.first ≤ r.last) added taken sorted forward;
}

-- ---- behind items

none_pass : {X : Type 0} (test : X → Bool) → ((x : X) → test x ≡ false) → (xs : List X) → filter test xs ≡ []
none_pass test off [] = refl
none_pass test off (x ∷ xs) = ap (λ b. cond b (x ∷ filter test xs) (filter test xs)) (off x) ∙ none_pass test off xs

-- what is no window has nothing behind it
not_behind : (q : Request) (f : Function) (p : Part) → is_window p ≡ false → lines_behind q (record { function = f; part = p }) ≡ []
not_behind q f p off =
    let r : FunctionPart = record { function = f; part = p } in
    ap (map line_range) (none_pass (is_line_behind r)
    (λ x. ap (λ b. b && is_behind f (line_bus x) && are_same_space (space_of f p) x.told.space) off) (told_regions q.told))

none_near : (ranges : List Range) (more : List DecodedRange) (found : List Range) → more ≡ [] → found ≡ [] → AreNearListed ranges more found
none_near ranges more found none empty = record {
  of = λ t listed. absurd (in_nil t (subst (λ xs. Contains (map decoded_range_of xs) t) empty listed));
  near = λ t listed. absurd (in_nil t (subst (λ xs. Contains xs t) none listed));
}

module _ (records : List Record) (lines : List Line) (ranges : List Range) (class : Class) (k : ℕ) (extent : Extent) (found : List Range) where
  abbrev pub as_part : CodePart → Candidate
  as_part p = record { class = class; item = record { function = k; part = p; extent = extent } }

  pub behind_no_bar : (n : ℕ) → found ≡ [] → AreBehindOne records lines ranges (as_part (parts.Bar n)) found
  behind_no_bar n empty q s has are there = none_near ranges (lines_behind q (record { function = function_in s k; part = Bar n })) found (not_behind q (function_in s k) (Bar n) refl) empty

  pub behind_no_rom : found ≡ [] → AreBehindOne records lines ranges (as_part parts.Rom) found
  behind_no_rom empty q s has are there = none_near ranges (lines_behind q (record { function = function_in s k; part = Rom })) found (not_behind q (function_in s k) Rom refl) empty

  module _ (r : Record) (within : k < length records) (read : r ≡ get_or records k r) where
    here : (s : System) → HasRecords s (map record_value records) → FunctionAt s r k
    here s has = function_at s records has k r (slice_get-get_or records k r within ∙ ap Some (sym read))

    -- a window is a bridge's
    pub behind_no_bridge : r.bridge ≡ None → AreBehindOne records lines ranges (as_part parts.Window) found
    behind_no_bridge none q s has are there =
        let found = here s has in
        let at = get_or_from_slice_get s k found.f no_function found.at in
        let off : is_bridge found.f ≡ false = sym (same_bridge r found.f found.is.value) ∙ ap is_some none in
        absurd (both_ways (is_bridge found.f) off (subst (λ f. has_part f (Window (kind_value class)) ≡ true) at there))

    pub behind_bridge : (b : Bridge) → r.bridge ≡ Some b → (w : Sought) → w.bridge.now ≡ b → code.space_of w.space ≡ window_space (kind_value class) → w.ranges.now ≡ ranges → AreSought w lines found
        → AreBehindOne records lines ranges (as_part parts.Window) found
    behind_bridge b is w bridge_is space_is ranges_is sought q s has are there =
        let it = here s has in
        let at = get_or_from_slice_get s k it.f no_function it.at in
        let to = same_bridge_of r it.f b it.is.value is in
        subst (λ f. AreNearListed ranges (lines_behind q (window_part (kind_value class) f)) found) (sym at)
        (subst (λ rs. AreNearListed rs (lines_behind q (window_part (kind_value class) it.f)) found) ranges_is
        (near_behind q it.f (kind_value class) w lines are
        (sym (ap (λ (x : decoded.Bridge). x.secondary) to) ∙ sym (ap (λ (x : Bridge). x.secondary) bridge_is))
        (sym (ap (λ (x : decoded.Bridge). x.subordinate) to) ∙ sym (ap (λ (x : Bridge). x.subordinate) bridge_is))
        (sym space_is) found sought))

-- ---- behind one item after another

module _ (q : Request) (s : System) (lists : List (List Range)) (wanted : List Wanted) (candidates : List Candidate) where
  pub behind_none : (lines : List Line) → lines ≡ [] → AreLines q.roots q.told.ranges lines → (n : ℕ) (behind : List (List Range)) → behind ≡ [] → AreNearBehindTo q s lists wanted candidates n behind
  behind_none lines none are n behind empty k d w low =
      none_near (get_or lists (get_or wanted k w).list []) (lines_behind q (candidate_value s (get_or candidates k d)).region) (get_or behind k [])
      (none_behind q lines are none (candidate_value s (get_or candidates k d)).region) (ap (λ xs. get_or xs k []) empty)

  pub behind_more : (n : ℕ) (old new : List (List Range)) → length old ≡ n → AreNearBehindTo q s lists wanted candidates n old → n < length candidates → n < length wanted → (c : Candidate) (v : Wanted) (b : List Range) → new ≡ old ++ b ∷ []
      → AreNearListed (get_or lists (get_or wanted n v).list []) (lines_behind q (candidate_value s (get_or candidates n c)).region) b → AreNearBehindTo q s lists wanted candidates (n + 1) new
  behind_more n old new long was within inside c v b put is k d w low = elim (cases_lt k n) [
    | inl less ↦
        subst (λ xs. AreNearListed (get_or lists (get_or wanted k w).list []) (lines_behind q (candidate_value s (get_or candidates k d)).region) xs)
        (sym (get_or_append_left old (b ∷ []) [] k (omega (arith, less, long))) ∙ ap (λ xs. get_or xs k []) (sym put)) (was k d w less)
    | inr past ↦
        let same : n ≡ k = omega (arith, past, low) in
        let last : get_or (old ++ b ∷ []) n [] ≡ b = get_or-append_right old (b ∷ []) n n [] long (omega arith) ∙ ap (λ m. get_or (b ∷ []) m []) (let e : n - n ≡ 0 = omega arith in e) in
        subst (λ m. AreNearListed (get_or lists (get_or wanted m w).list []) (lines_behind q (candidate_value s (get_or candidates m d)).region) (get_or new m [])) same
        (subst (λ xs. AreNearListed (get_or lists (get_or wanted n w).list []) (lines_behind q (candidate_value s (get_or candidates n d)).region) xs) (sym last ∙ ap (λ xs. get_or xs n []) (sym put))
        (subst (λ e. AreNearListed (get_or lists (get_or wanted n w).list []) (lines_behind q (candidate_value s e).region) b) (get_or_default candidates n c d within)
        (subst (λ (e : Wanted). AreNearListed (get_or lists e.list []) (lines_behind q (candidate_value s (get_or candidates n c)).region) b) (get_or_default wanted n v w inside) is)))
  ]
