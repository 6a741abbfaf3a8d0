-- What lines hold behind new windows, one item of a class after another.
use Rattle.std.proofs.Common.{◌≡◌, ℕ, ◌+◌, ◌-◌, ◌<◌, ◌≤◌, inl, inr, List, [], ◌∷◌, ◌++◌, map, length, get_or, append-nil, Bool, true, false, cond, ◌&&◌, arith, refl, sym, ◌∙◌, ap, subst, None, Some}
use Rattle.std.specs.Option.{is_some}
use Rattle.std.specs.List.{Contains, filter, slice_get}
use Rattle.std.specs.List.Sorted.{IsPermutation}
use Rattle.std.proofs.lemmas.Bool.{cases_lt, both_ways}
use Rattle.std.proofs.lemmas.List.{get_or_append_left, get_or-append_right, get_or_default, get_or_past}
use Rattle.std.proofs.lemmas.Option.{slice_get-get_or, get_or_from_slice_get}
use Rattle.std.proofs.lemmas.List.Sorted.{IsPermutation-refl, Contains-permutation}
use Rattle.pci_spec.specs.Window.{WindowKind}
use Rattle.pci_spec.specs.Decoded.{Range as DecodedRange, HasRecords}
use Rattle.pci_spec.specs.Decoded as decoded
use Rattle.pci_spec.specs.System.{System, Function, Part, Bar, Rom, Window, is_bridge, is_window, has_part, space_of, window_space}
use Rattle.pci_spec.specs.Bus.{secondary, subordinate, is_behind}
use Rattle.pci_spec.proofs.Members.{in_nil, in_head}
use Rattle.judge_spec.specs.Told.{ToldRange}
use Rattle.judge_spec.specs.ToldRegion.{regions_from, told_regions}
use Rattle.judge_spec.specs.ToldClaims.{told_register}
use Rattle.settle_spec.specs.Lists.{Request}
use Rattle.settle_spec.specs.Lines.{line_bus, line_range, is_line_behind, lines_behind}
use Rattle.settle_spec.specs.Parts.{FunctionPart, are_same_space}
use Rattle.settle_spec.specs.Stands.{window_part}
use Rattle.pci_base.specs.declared.range.Range.{Range}
use Rattle.pci_base.specs.Ranges.{decoded_range_of}
use Rattle.pci_function.specs.declared.record.Bridge.{Bridge}
use Rattle.pci_function.specs.declared.record.Record.{Record}
use Rattle.pci_function.specs.Values.{record_value}
use Rattle.pci_tree.proofs.Lifting.{same_bridge}
use Rattle.pci_tree.proofs.RegionParts.{same_bridge_of}
use Rattle.pci_place.specs.Items.{function_in, no_function}
use Rattle.pci_place.proofs.Records.{FunctionAt, function_at, same_count}
use Rattle.pci_first_fit.specs.declared.extent.Extent.{Extent}
use Rattle.pci_first_fit.specs.declared.item.Item.{Item}
use Rattle.pci_first_fit.specs.declared.item.Part.{Part as CodePart}
use Rattle.pci_first_fit.specs.declared.item.Part.TheVariants as parts
use Rattle.pci_first_fit.specs.declared.lines.Line.{Line}
use Rattle.pci_first_fit.specs.Lines.{row_of, told_row, rows_from, AreLines, AreAdded}
use Rattle.pci_first_fit.specs.Own.{asked_item_value}
use Rattle.pci_kept.specs.Behind.{AreAddedBehind, AreBehindTo}

-- ---- where no line is told of

pub no_entries : {X : Type 0} (xs : List X) → length xs ≡ 0 → xs ≡ []
no_entries [] none = refl
no_entries (x ∷ xs) none = absurd (let no : ⊥ = omega (arith, none) in no)

none_told : (roots : List ℕ) (ranges : List ToldRange) (lines : List Line) → lines ≡ [] → AreLines roots ranges lines → ranges ≡ []
none_told roots [] lines none are = refl
none_told roots (r ∷ ranges) lines none are =
    let row = told_row roots 0 r in
    let listed = Contains-permutation (rows_from roots 0 (r ∷ ranges)) (map row_of lines) row are.rows (in_head row (rows_from roots 1 ranges)) in
    absurd (in_nil row (subst (λ xs. Contains (map row_of xs) row) none listed))

module _ (q : Request) (lines : List Line) (are : AreLines q.roots q.told.ranges lines) (none : lines ≡ []) where
  nothing_told : q.told.ranges ≡ []
  nothing_told = none_told q.roots q.told.ranges lines none are

  pub none_behind : (r : FunctionPart) → lines_behind q r ≡ []
  none_behind r = ap (λ (rs : List ToldRange). map line_range (filter (is_line_behind r) (regions_from (told_register 0) rs))) nothing_told

-- ---- behind items

none_pass : {X : Type 0} (test : X → Bool) → ((x : X) → test x ≡ false) → (xs : List X) → filter test xs ≡ []
none_pass test off [] = refl
none_pass test off (x ∷ xs) = ap (λ b. cond b (x ∷ filter test xs) (filter test xs)) (off x) ∙ none_pass test off xs

-- what is no window has nothing behind it
not_behind : (q : Request) (f : Function) (p : Part) → is_window p ≡ false → lines_behind q (record { function = f; part = p }) ≡ []
not_behind q f p off =
    let r : FunctionPart = record { function = f; part = p } in
    ap (map line_range) (none_pass (is_line_behind r)
    (λ x. ap (λ b. b && is_behind f (line_bus x) && are_same_space (space_of f p) x.told.space) off) (told_regions q.told))

nothing_added : (old : List Range) (more : List DecodedRange) → more ≡ [] → AreAdded old old more
nothing_added old more none = record {
  added = [];
  put = sym (append-nil old);
  same = subst (λ xs. IsPermutation xs []) (sym none) (IsPermutation-refl []);
}

pub read_at : (records : List Record) (k : ℕ) (r : Record) → k < length records → r ≡ get_or records k r → slice_get records k ≡ Some r
read_at records k r within is = slice_get-get_or records k r within ∙ ap Some (sym is)

module _ (records : List Record) (lines : List Line) (class : WindowKind) (k : ℕ) (extent : Extent) (old : List Range) where
  abbrev pub as_part : CodePart → Item
  as_part p = record { function = k; part = p; extent = extent }

  pub added_no_bar : (n : ℕ) → AreAddedBehind records lines class (as_part (parts.Bar n)) old old
  added_no_bar n q s has are there = nothing_added old (lines_behind q (record { function = function_in s k; part = Bar n })) (not_behind q (function_in s k) (Bar n) refl)

  pub added_no_rom : AreAddedBehind records lines class (as_part parts.Rom) old old
  added_no_rom q s has are there = nothing_added old (lines_behind q (record { function = function_in s k; part = Rom })) (not_behind q (function_in s k) Rom refl)

  -- a window is a bridge's, which has a record
  pub added_past : length records ≤ k → AreAddedBehind records lines class (as_part parts.Window) old old
  added_past past q s has are there =
      let long = same_count s records has in
      let none : function_in s k ≡ no_function = get_or_past s k no_function (omega (arith, past, long)) in
      absurd (both_ways (is_bridge no_function) refl (subst (λ f. has_part f (Window class) ≡ true) none there))

  module _ (r : Record) (read : slice_get records k ≡ Some r) where
    here : (s : System) → HasRecords s (map record_value records) → FunctionAt s r k
    here s has = function_at s records has k r read

    pub added_no_bridge : r.bridge ≡ None → AreAddedBehind records lines class (as_part parts.Window) old old
    added_no_bridge none q s has are there =
        let found = here s has in
        let at = get_or_from_slice_get s k found.f no_function found.at in
        let off : is_bridge found.f ≡ false = sym (same_bridge r found.f found.is.value) ∙ ap is_some none in
        absurd (both_ways (is_bridge found.f) off (subst (λ f. has_part f (Window class) ≡ true) at there))

    pub added_bridge : (b : Bridge) → r.bridge ≡ Some b → (new : List Range)
        → ((q : Request) (f : Function) (c : WindowKind) → AreLines q.roots q.told.ranges lines → secondary f ≡ b.secondary → subordinate f ≡ b.subordinate → window_space c ≡ window_space class → AreAdded old new (lines_behind q (window_part c f)))
        → AreAddedBehind records lines class (as_part parts.Window) old new
    added_bridge b is new add q s has are there =
        let found = here s has in
        let at = get_or_from_slice_get s k found.f no_function found.at in
        let to = same_bridge_of r found.f b found.is.value is in
        subst (λ f. AreAdded old new (lines_behind q (window_part class f))) (sym at)
        (add q found.f class are (sym (ap (λ (x : decoded.Bridge). x.secondary) to)) (sym (ap (λ (x : decoded.Bridge). x.subordinate) to)) refl)

-- ---- behind one item after another

-- what an index past the end is read as
abbrev pub no_item : Item
no_item = record { function = 0; part = parts.Bar 0; extent = record { size = 0; alignment = 0; highest = 0 } }

module _ (q : Request) (s : System) (class : WindowKind) (items : List Item) where
  pub behind_none : (lines : List Line) → lines ≡ [] → AreLines q.roots q.told.ranges lines → (n : ℕ) (behind : List (List Range)) → behind ≡ [] → AreBehindTo q s class items n behind
  behind_none lines none are n behind empty k d low =
      subst (λ xs. IsPermutation xs (map decoded_range_of (get_or behind k []))) (sym (none_behind q lines are none (asked_item_value s class (get_or items k d)).region))
      (subst (λ xs. IsPermutation [] (map decoded_range_of (get_or xs k []))) (sym empty) (IsPermutation-refl []))

  pub behind_more : (n : ℕ) (old new : List (List Range)) → length old ≡ n → AreBehindTo q s class items n old → n < length items → (c : Item) (b : List Range) → new ≡ old ++ b ∷ []
      → IsPermutation (lines_behind q (asked_item_value s class (get_or items n c)).region) (map decoded_range_of b) → AreBehindTo q s class items (n + 1) new
  behind_more n old new long was within c b put is k d low = elim (cases_lt k n) [
    | inl less ↦
        subst (λ xs. IsPermutation (lines_behind q (asked_item_value s class (get_or items k d)).region) (map decoded_range_of xs))
        (sym (get_or_append_left old (b ∷ []) [] k (omega (arith, less, long))) ∙ ap (λ xs. get_or xs k []) (sym put)) (was k d less)
    | inr past ↦
        let same : n ≡ k = omega (arith, past, low) in
        let last : get_or (old ++ b ∷ []) n [] ≡ b = get_or-append_right old (b ∷ []) n n [] long (omega arith) ∙ ap (λ m. get_or (b ∷ []) m []) (let e : n - n ≡ 0 = omega arith in e) in
        subst (λ m. IsPermutation (lines_behind q (asked_item_value s class (get_or items m d)).region) (map decoded_range_of (get_or new m []))) same
        (subst (λ (x : Item). IsPermutation (lines_behind q (asked_item_value s class x).region) (map decoded_range_of (get_or new n []))) (get_or_default items n c d within)
        (subst (λ xs. IsPermutation (lines_behind q (asked_item_value s class (get_or items n c)).region) (map decoded_range_of xs)) (sym last ∙ ap (λ xs. get_or xs n []) (sym put)) is))
  ]

-- what is added to nothing
pub added_alone : (old new : List Range) (more : List DecodedRange) → old ≡ [] → AreAdded old new more → IsPermutation more (map decoded_range_of new)
added_alone old new more none are =
    subst (λ xs. IsPermutation more (map decoded_range_of xs)) (sym (are.put ∙ ap (λ xs. xs ++ are.added) none)) are.same
