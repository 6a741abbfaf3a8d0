-- What lines hold behind an item, and what is taken for it.
use Rattle.std.proofs.Common.{◌≡◌, ℕ, ◌+◌, ◌-◌, ◌<◌, ◌≤◌, inl, inr, ◌⊎◌, List, [], ◌∷◌, ◌++◌, map, length, get_or, Bool, true, false, cond, arith, refl, ap, sym, subst, ◌∙◌, None, Some}
use Rattle.std.specs.Bool.{◌==◌}
use Rattle.std.specs.List.{AllWithin, Contains, filter, insert, slice_get}
use Rattle.std.specs.List.Sorted.{IsPermutation}
use Rattle.std.specs.Option.{is_some}
use Rattle.std.proofs.lemmas.Bool.{both_ways, cases_lt, false≢true, eqb-true}
use Rattle.std.proofs.lemmas.List.{append-nil, get_or_past, get_or_default}
use Rattle.std.proofs.lemmas.List.Elements.{All-contains, Contains-append_cases, Contains-append_left, Contains-append_right, Contains-get_or}
use Rattle.std.proofs.lemmas.List.Sorted.{IsPermutation-refl, IsPermutation-sym, Contains-permutation}
use Rattle.std.proofs.lemmas.Option.{slice_get-get_or}
use Rattle.pci_spec.specs.Decoded.{Range as DecodedRange}
use Rattle.pci_spec.specs.System.{Space, Function, IsFunction, has_part, is_bridge}
use Rattle.pci_spec.specs.Bus.{secondary, subordinate}
use Rattle.pci_spec.proofs.Members.{in_nil, in_head, in_map_to, in_map_from, IsMade}
use Rattle.judge_spec.specs.Told.{ToldRange}
use Rattle.judge_spec.specs.ToldClaims.{told_register}
use Rattle.judge_spec.specs.ToldRegion.{ToldRegion, regions_from, told_regions}
use Rattle.settle_spec.specs.Lines.{line_range, is_line_of, is_line_behind, lines_on, lines_behind}
use Rattle.settle_spec.specs.Lists.{Request}
use Rattle.settle_spec.specs.Stands.{window_part}
use Rattle.settle_spec.proofs.SameTaken.{HaveSame}
use Rattle.pci_base.specs.declared.range.Range.{Range}
use Rattle.pci_base.specs.WindowKinds.{kind_value}
use Rattle.pci_base.specs.Ranges.{decoded_range_of}
use Rattle.pci_function.specs.declared.record.Bridge.{Bridge}
use Rattle.pci_function.specs.declared.record.Record.{Record}
use Rattle.pci_tree.proofs.Lifting.{same_bridge}
use Rattle.pci_tree.proofs.Faces.{SameFace, face_of}
use Rattle.pci_place.specs.Items.{no_function, function_in}
use Rattle.pci_place.specs.Records.{IsRecordInSystem}
use Rattle.pci_place.proofs.Records.{same_count}
use Rattle.pci_first_fit.specs.declared.item.Item.{Item}
use Rattle.pci_first_fit.specs.declared.item.Part.{Part as ItemPart}
use Rattle.pci_first_fit.specs.declared.item.Part.TheVariants as items
use Rattle.pci_first_fit.specs.declared.extent.Extent.{Extent}
use Rattle.pci_first_fit.specs.declared.spot.Spot.{Spot}
use Rattle.pci_first_fit.specs.declared.lines.Line.{Line}
use Rattle.pci_first_fit.specs.Lines.{row_of, told_row, rows_from, AreForwardRanges, AreLines, AreAdded}
use Rattle.pci_first_fit.specs.Own.{class_part}
use Rattle.pci_first_fit.specs.Spots.{IsBetweenTaken, extent_range}
use Rattle.pci_kept.proofs.HeldTables.{record_at}
use Rattle.pci_grow.specs.Arounds.{AreRisingAtBothEnds, IsPutAt}
use Rattle.pci_grow.specs.Grounds.{is_new_window, Ground, IsBehindItem, AreOff, AreAlike}
use Rattle.pci_grow.specs.Widest.{LiesInOne}
use Rattle.pci_grow.proofs.AlikeTaken.{alike_same, alike_trans}

pub no_rows : (xs : List Line) (empty : Bool) → empty ≡ (length xs == 0) → empty ≡ true → xs ≡ []
no_rows [] empty is none = refl
no_rows (x ∷ xs) empty is none = absurd (let zero_long = eqb-true (length (x ∷ xs)) 0 (sym is ∙ none) in let no : ⊥ = omega (arith, zero_long) in no)

-- ---- nothing is behind

filter_none : (p : ToldRegion → Bool) (xs : List ToldRegion) → ((x : ToldRegion) → p x ≡ false) → filter p xs ≡ []
filter_none p [] off = refl
filter_none p (x ∷ xs) off = ap (λ b. cond b (x ∷ filter p xs) (filter p xs)) (off x) ∙ filter_none p xs off

plain_none : (q : Request) (f : Function) (g : Ground) (p : ItemPart) → is_new_window p ≡ false → lines_behind q record { function = f; part = class_part (kind_value g.class) p } ≡ []
plain_none q f g (items.Bar n) off = ap (map line_range) (filter_none (is_line_behind record { function = f; part = class_part (kind_value g.class) (items.Bar n) }) (told_regions q.told) (λ x. refl))
plain_none q f g items.Rom off = ap (map line_range) (filter_none (is_line_behind record { function = f; part = class_part (kind_value g.class) items.Rom }) (told_regions q.told) (λ x. refl))
plain_none q f g items.Window off = absurd (false≢true (sym off))

-- behind a BAR or a ROM there is nothing
pub none_behind_part : (g : Ground) (i : Item) (held : List DecodedRange) → is_new_window i.part ≡ false → IsBehindItem g i held → held ≡ []
none_behind_part g i held off is = is.held_is ∙ plain_none is.q (function_in is.s i.function) g i.part off

no_ranges : (roots : List ℕ) (ranges : List ToldRange) (lines : List Line) → AreLines roots ranges lines → lines ≡ [] → ranges ≡ []
no_ranges roots [] lines are none = refl
no_ranges roots (r ∷ ranges) lines are none =
    let has = Contains-permutation (rows_from roots 0 (r ∷ ranges)) (map row_of lines) (told_row roots 0 r) are.rows (in_head (told_row roots 0 r) (rows_from roots 1 ranges)) in
    absurd (in_nil (told_row roots 0 r) (subst (λ ls. Contains (map row_of ls) (told_row roots 0 r)) none has))

-- and where there is no row nothing is told
pub none_behind : (g : Ground) (i : Item) (held : List DecodedRange) → g.lines ≡ [] → IsBehindItem g i held → held ≡ []
none_behind g i held none is =
    is.held_is
    ∙ ap (λ rs. map line_range (filter (is_line_behind record { function = function_in is.s i.function; part = class_part (kind_value g.class) i.part }) (regions_from (told_register 0) rs)))
    (no_ranges is.q.roots is.q.told.ranges g.lines is.rows none)

-- nothing is on a bus, either
pub none_on : (q : Request) (lines : List Line) → AreLines q.roots q.told.ranges lines → lines ≡ [] → (space : Space) (bus : ℕ) → lines_on q space bus ≡ []
none_on q lines are none space bus = ap (λ rs. map line_range (filter (is_line_of q space bus) (regions_from (told_register 0) rs))) (no_ranges q.roots q.told.ranges lines are none)

pub added_none : (old : List Range) (held : List DecodedRange) → held ≡ [] → AreAdded old old held
added_none old held none = record {
  added = [];
  put = sym (append-nil old);
  same = subst (λ xs. IsPermutation xs (map decoded_range_of [])) (sym none) (IsPermutation-refl []);
}

-- ---- the bridge of a new window

module _ (g : Ground) (i : Item) (held : List DecodedRange) (is : IsBehindItem g i held) (window : is_new_window i.part ≡ true) where
  abbrev f : Function
  f = function_in is.s i.function

  inside : i.function < length is.s
  inside = elim (cases_lt i.function (length is.s)) [
    | inl low ↦ low
    | inr past ↦
        let none : f ≡ no_function = get_or_past is.s i.function no_function past in
        let full : 0 ≡ 256 = (All-contains IsFunction is.s no_function is.system.each (subst (Contains is.s) none is.listed)).image.full in
        absurd (let no : ⊥ = omega (arith, full) in no)
  ]

  at_f : slice_get is.s i.function ≡ Some f
  at_f = slice_get-get_or is.s i.function no_function inside

  by_part : (p : ItemPart) → is_new_window p ≡ true → i.part ≡ p → is_bridge f ≡ true
  by_part (items.Bar n) on same = absurd (false≢true on)
  by_part items.Rom on same = absurd (false≢true on)
  by_part items.Window on same = subst (λ p. has_it p ≡ true) same is.there
    where
      has_it : ItemPart → Bool
      has_it p = has_part f (class_part (kind_value g.class) p)

  leads : is_bridge f ≡ true
  leads = by_part i.part window refl

  pub has_record : i.function < length g.records
  has_record = let count = same_count is.s g.records is.has in let less = inside in omega (arith, count, less)

  module _ (x : Record) (x_is : x ≡ get_or g.records i.function x) where
    record_is : IsRecordInSystem is.s f x
    record_is = record_at is.s g.records is.has i.function f at_f x x_is

    pub has_bridge : x.bridge ≡ None → ⊥
    has_bridge none = both_ways (is_some x.bridge) (ap is_some none) (same_bridge x f record_is.value ∙ leads)

    face : SameFace f x
    face = face_of x f record_is.value

    pub secondary_is : (b : Bridge) → x.bridge ≡ Some b → secondary f ≡ b.secondary
    secondary_is b bridge = sym (face.numbers b bridge).1

    pub subordinate_is : (b : Bridge) → x.bridge ≡ Some b → subordinate f ≡ b.subordinate
    subordinate_is b bridge = sym (face.numbers b bridge).2

    pub held_same : lines_behind is.q (window_part (kind_value g.class) f) ≡ held
    held_same = by i.part window refl
      where
        by : (p : ItemPart) → is_new_window p ≡ true → i.part ≡ p → lines_behind is.q (window_part (kind_value g.class) f) ≡ held
        by (items.Bar n) on same = absurd (false≢true on)
        by items.Rom on same = absurd (false≢true on)
        by items.Window on same = sym (is.held_is ∙ ap (λ p. lines_behind is.q record { function = f; part = class_part (kind_value g.class) p }) same)

pub record_there : (i : Item) (k : ℕ) → i.function ≡ k → (records : List Record) (x : Record) → x ≡ get_or records k x → x ≡ get_or records i.function x
record_there i k same records x is = is ∙ ap (λ n. get_or records n x) (sym same)

-- ---- what is taken, in order

in_one : (xs : List Range) (r : Range) (size a : ℕ) → LiesInOne xs r → AreOff (map decoded_range_of xs) size a → (a + (size - 1) < r.first) ⊎ (r.last < a)
in_one xs r size a lies off =
    let u = lies.around in
    let first = lies.first in
    let last = lies.last in
    elim (off (decoded_range_of u) (in_map_from decoded_range_of xs u lies.listed)) [
      | inl under ↦ inl (omega (arith, under, first))
      | inr over ↦ inr (omega (arith, over, last))
    ]

pub forward_taken : (taken : List Range) → AreRisingAtBothEnds taken → AreForwardRanges taken
forward_taken taken ordered = ordered.rising.forward

pub forward_both : (xs ys : List Range) → AreForwardRanges xs → AreForwardRanges ys → AreForwardRanges (xs ++ ys)
forward_both xs ys one other k d less = elim (Contains-append_cases xs ys (get_or (xs ++ ys) k d) (Contains-get_or (xs ++ ys) k d less)) [
  | inl (j, low, at) ↦ subst (λ (x : Range). x.first ≤ x.last) at (one j (get_or (xs ++ ys) k d) low)
  | inr (j, low, at) ↦ subst (λ (x : Range). x.first ≤ x.last) at (other j (get_or (xs ++ ys) k d) low)
]

pub none_forward : AreForwardRanges []
none_forward k d less = absurd (let no : ⊥ = omega (arith, less) in no)

module _ (taken more raw all : List Range) (raw_is : raw ≡ more ++ taken)
    (only : (r : Range) → Contains all r → Contains raw r) (cover : (r : Range) → Contains raw r → LiesInOne all r) where
  -- what was taken lies in it
  pub taken_covered : (r : Range) → Contains taken r → LiesInOne all r
  taken_covered r has = cover r (subst (λ xs. Contains xs r) (sym raw_is) (Contains-append_right more taken r has))

  module _ (held : List DecodedRange) (added : AreAdded [] more held) where
    more_held : (r : Range) → Contains more r → Contains held (decoded_range_of r)
    more_held r has =
        Contains-permutation (map decoded_range_of added.added) held (decoded_range_of r) (IsPermutation-sym held (map decoded_range_of added.added) added.same)
        (in_map_from decoded_range_of added.added r (subst (λ xs. Contains xs r) added.put has))

    same_raw : HaveSame (map decoded_range_of raw) (held ++ map decoded_range_of taken)
    same_raw = record { to = to; back = back }
      where
        to : (t : DecodedRange) → Contains (map decoded_range_of raw) t → Contains (held ++ map decoded_range_of taken) t
        to t has =
            let made : IsMade decoded_range_of raw t = in_map_to decoded_range_of raw t has in
            elim (Contains-append_cases more taken made.from (subst (λ xs. Contains xs made.from) raw_is made.has)) [
              | inl new ↦ Contains-append_left held (map decoded_range_of taken) t (subst (Contains held) made.is (more_held made.from new))
              | inr old ↦ Contains-append_right held (map decoded_range_of taken) t (subst (Contains (map decoded_range_of taken)) made.is (in_map_from decoded_range_of taken made.from old))
            ]

        in_raw : (r : Range) → Contains (more ++ taken) r → Contains (map decoded_range_of raw) (decoded_range_of r)
        in_raw r has = in_map_from decoded_range_of raw r (subst (λ xs. Contains xs r) (sym raw_is) has)

        back : (t : DecodedRange) → Contains (held ++ map decoded_range_of taken) t → Contains (map decoded_range_of raw) t
        back t has = elim (Contains-append_cases held (map decoded_range_of taken) t has) [
          | inl new ↦
              let made : IsMade decoded_range_of added.added t = in_map_to decoded_range_of added.added t (Contains-permutation held (map decoded_range_of added.added) t added.same new) in
              subst (Contains (map decoded_range_of raw)) made.is (in_raw made.from (Contains-append_left more taken made.from (subst (λ xs. Contains xs made.from) (sym added.put) made.has)))
          | inr old ↦
              let made : IsMade decoded_range_of taken t = in_map_to decoded_range_of taken t old in
              subst (Contains (map decoded_range_of raw)) made.is (in_raw made.from (Contains-append_right more taken made.from made.has))
        ]

    pub taken_alike : AreAlike (map decoded_range_of all) (held ++ map decoded_range_of taken)
    taken_alike = alike_trans (map decoded_range_of all) (map decoded_range_of raw) (held ++ map decoded_range_of taken) covered (alike_same (map decoded_range_of raw) (held ++ map decoded_range_of taken) same_raw)
      where
        covered : AreAlike (map decoded_range_of all) (map decoded_range_of raw)
        covered = record {
          to = λ size a off t has.
              let made : IsMade decoded_range_of raw t = in_map_to decoded_range_of raw t has in
              subst (λ (x : DecodedRange). (a + (size - 1) < x.first) ⊎ (x.last < a)) made.is (in_one all made.from size a (cover made.from made.has) off);
          back = λ size a off t has.
              let made : IsMade decoded_range_of all t = in_map_to decoded_range_of all t has in
              off t (subst (Contains (map decoded_range_of raw)) made.is (in_map_from decoded_range_of raw made.from (only made.from made.has)));
        }

-- ---- where such a place is put

module _ (taken : List Range) (ordered : AreRisingAtBothEnds taken) (all : List Range) (cover : (r : Range) → Contains taken r → LiesInOne all r) (e : Extent) (s : Spot) (between : IsBetweenTaken all e s)
    (index : ℕ) (bound : index ≤ length taken) (before : (k : ℕ) (d : Range) → 0 ≤ k → k < index → (get_or taken k d).first < s.at) (after : (k : ℕ) (d : Range) → index ≤ k → k < length taken → s.at ≤ (get_or taken k d).first) where
  off_each : (r : Range) → Contains taken r → (s.at + (e.size - 1) < r.first) ⊎ (r.last < s.at)
  off_each r has =
      let lies = cover r has in
      let first = lies.first in
      let last = lies.last in
      let at = lies.listed in
      let u : get_or all at.0 r ≡ lies.around = get_or_default all at.0 r lies.around at.1 ∙ at.2 in
      elim (cases_lt at.0 s.index) [
        | inl low ↦ (let under = between.below at.0 r low in let same : (get_or all at.0 r).last ≡ lies.around.last = ap (λ (x : Range). x.last) u in inr (omega (arith, under, same, last)))
        | inr high ↦ (let over = between.above at.0 r high at.1 in let same : (get_or all at.0 r).first ≡ lies.around.first = ap (λ (x : Range). x.first) u in inl (omega (arith, over, same, first)))
      ]

  pub between_taken : IsBetweenTaken taken e (record { at = s.at; index = index })
  between_taken = record {
    ends = between.ends;
    within = bound;
    below = λ k d low.
        let inside : k < length taken = omega (arith, low, bound) in
        let first = before k d (omega arith) low in
        elim (off_each (get_or taken k d) (Contains-get_or taken k d inside)) [
          | inl over ↦ absurd (let no : ⊥ = omega (arith, over, first) in no)
          | inr under ↦ under
        ];
    above = λ k d from inside.
        let first = after k d from inside in
        let forward = ordered.rising.forward k d inside in
        elim (off_each (get_or taken k d) (Contains-get_or taken k d inside)) [
          | inl over ↦ over
          | inr under ↦ absurd (let no : ⊥ = omega (arith, under, first, forward) in no)
        ];
  }

pub put_off : (taken : List Range) → AreRisingAtBothEnds taken → (all : List Range) → ((r : Range) → Contains taken r → LiesInOne all r) → (e : Extent) (s : Spot) → IsBetweenTaken all e s
    → (slice : List Range) → slice ≡ taken → (index : ℕ) → index ≤ length slice → AllWithin (λ (r : Range). r.first < s.at) slice 0 index → AllWithin (λ (r : Range). s.at ≤ r.first) slice index (length slice)
    → (new : List Range) → new ≡ insert taken index (extent_range e s.at) → IsPutAt taken new e s.at
put_off taken ordered all cover e s between slice same index bound before after new put = record {
  spot = record { at = s.at; index = index };
  at_is = refl;
  put = record {
    between = between_taken taken ordered all cover e s between index (subst (λ xs. index ≤ length xs) same bound)
        (λ k d from low. subst (λ xs. (get_or xs k d).first < s.at) same (before k d from low))
        (λ k d from inside. subst (λ xs. s.at ≤ (get_or xs k d).first) same (after k d from (subst (λ xs. k < length xs) (sym same) inside)));
    put = put;
  };
}
