-- What stays, as the code lists it, and what is taken by it on a bus.
use Rattle.std.proofs.Common.{◌≡◌, inl, inr, ℕ, ◌+◌, ◌<◌, ◌≤◌, List, [], ◌∷◌, ◌++◌, map, length, take, drop, get_or, append-nil, Bool, true, false, cond, ◌&&◌, not, arith, refl, sym, ◌∙◌, ap, subst, Option, None, Some}
use Rattle.std.specs.Option.{option_map, IfSome}
use Rattle.std.specs.Bool.{◌==◌}
use Rattle.std.specs.List.{All, AllWithin, Contains, filter, slice_get, slice_range}
use Rattle.std.specs.List.Sorted.{IsPermutation}
use Rattle.std.proofs.lemmas.Bool.{cases_lt, and_parts, and_from, eqb-true, eq-eqb, both_ways, false_from_ne_true}
use Rattle.std.proofs.lemmas.Option.{slice_get-get_or}
use Rattle.std.proofs.lemmas.List.{length-take, get_or-take, length-drop, get_or-drop}
use Rattle.std.proofs.lemmas.List.Edits.{split_between}
use Rattle.std.proofs.lemmas.List.Elements.{filter-append, All-contains, Contains-get_or}
use Rattle.std.proofs.lemmas.List.Sorted.{IsPermutation-sym, Contains-permutation}
use Rattle.pci_spec.specs.Window.{has_window, is_closed}
use Rattle.pci_spec.specs.System.{System, Function, Space, Part, Bar, Rom, Window, is_bridge, has_part}
use Rattle.pci_spec.specs.Bus.{is_root, are_siblings}
use Rattle.pci_spec.proofs.Members.{in_nil, in_head, in_tail, in_flat_map_to, IsInPiece, in_map_to, in_map_from, IsMade, in_filter_to, in_filter_from}
use Rattle.settle_spec.specs.Lists.{Lists, Request}
use Rattle.settle_spec.specs.Parts.{FunctionPart, is_part, parts_of, header_parts, function_parts, system_parts, addresses, are_same_space}
use Rattle.settle_spec.specs.Stands.{part_space}
use Rattle.settle_spec.specs.Kept.{Kept as Keeping, range_or}
use Rattle.settle_spec.proofs.SameTaken.{HaveSame}
use Rattle.settle_laws.specs.Order.{level}
use Rattle.settle_laws.proofs.Standing.{one_level}
use Rattle.pci_base.specs.declared.range.Range.{Range}
use Rattle.pci_base.specs.declared.window_kind.WindowKind.TheVariants as kinds
use Rattle.pci_base.specs.declared.window_kind.ByKind.{ByKind}
use Rattle.pci_base.specs.Ranges.{decoded_range_of}
use Rattle.pci_base.specs.Space as code
use Rattle.pci_base.specs.declared.space.Space.TheVariants as spaces
use Rattle.pci_place.specs.Items.{function_in, no_function}
use Rattle.pci_first_fit.specs.declared.kept.Kept.{Kept}
use Rattle.pci_first_fit.specs.declared.kept.Part.{Part as CodePart}
use Rattle.pci_first_fit.specs.declared.kept.Part.TheVariants as parts
use Rattle.pci_first_fit.specs.Slots.{Demand}
use Rattle.pci_first_fit.specs.Kept.{spec_part, AreKeptParts}
use Rattle.pci_first_fit.specs.Tables.{AreForward}
use Rattle.pci_first_fit.specs.Keeping.{grown_of, AreKeptRanges}
use Rattle.pci_first_fit.specs.Spots.{FirstsRise, AreRisingRanges}
use Rattle.pci_first_fit.proofs.Headers.{header_has}
use Rattle.pci_first_fit.proofs.Tables.{none_noted}
use Rattle.pci_kept.specs.declared.region.Region.{Region as CodeRegion}
use Rattle.pci_kept.specs.Known.{Known, asked, known, known_of, region_value, AreParts}
use Rattle.pci_kept.proofs.Passing.{levels_one, spaces_one, one_space}
use Rattle.pci_kept.specs.declared.held.Held.{Held}
use Rattle.pci_kept.specs.Held.{is_region_kept, told_part, told_or, kept_range, held_of, held_range, is_level_on, IsForward, IsHeldBy, AreHeld, AreHeldIn}

-- ---- filters of a slice

filter_off : {X : Type 0} (p : X → Bool) (xs : List X) → ((x : X) → Contains xs x → p x ≡ false) → filter p xs ≡ []
filter_off p [] off = refl
filter_off p (x ∷ xs) off =
    ap (λ b. cond b (x ∷ filter p xs) (filter p xs)) (off x (in_head x xs)) ∙ filter_off p xs (λ y listed. off y (in_tail x xs y listed))

module _ (p : Held → Bool) (xs : List Held) (i j : ℕ) (order : i ≤ j) where
  -- where nothing passes before a slice or behind it, what passes is in the slice
  pub filter_slice : ((k : ℕ) (d : Held) → k < i → k < length xs → p (get_or xs k d) ≡ false) → ((k : ℕ) (d : Held) → j ≤ k → k < length xs → p (get_or xs k d) ≡ false)
      → filter p (slice_range xs i j) ≡ filter p xs
  filter_slice before after =
      sym (append-nil (filter p (slice_range xs i j)))
      ∙ ap (λ ys. filter p (slice_range xs i j) ++ ys) (sym (filter_off p (drop j xs) off_after))
      ∙ sym (filter-append p (slice_range xs i j) (drop j xs))
      ∙ ap (λ ys. ys ++ filter p (slice_range xs i j ++ drop j xs)) (sym (filter_off p (take i xs) off_before))
      ∙ sym (filter-append p (take i xs) (slice_range xs i j ++ drop j xs))
      ∙ ap (filter p) (sym (split_between xs i j order))
    where
      off_before : (x : Held) → Contains (take i xs) x → p x ≡ false
      off_before x (k, within, at) =
          let long = length-take i xs in
          let low : k < i = omega (arith, within, long) in
          subst (λ y. p y ≡ false) (sym (get_or-take i xs k x low) ∙ at) (before k x low (omega (arith, within, long)))

      off_after : (x : Held) → Contains (drop j xs) x → p x ≡ false
      off_after x (k, within, at) =
          let long = length-drop j xs in
          subst (λ y. p y ≡ false) (sym (get_or-drop j xs k x) ∙ at) (after (j + k) x (omega arith) (omega (arith, within, long)))

-- an index past the end is read as this
no_held : Held
no_held = record { level = 0; space = spaces.Io; range = record { first = 0; last = 0 } }

module _ (held : List Held) (n i j : ℕ) (bound : i ≤ length held) (before : AllWithin (λ h. h.level < n) held 0 i) (after : AllWithin (λ h. n + 1 ≤ h.level) held j (length held)) where
  pub row_order : i ≤ j
  row_order = elim (cases_lt j i) [
    | inl less ↦
        let low = before j no_held (omega arith) less in
        let high = after j no_held (omega arith) (omega (arith, less, bound)) in
        absurd (let no : ⊥ = omega (arith, low, high) in no)
    | inr fine ↦ fine
  ]

  other_level : (space : Space) (h : Held) → (h.level ≡ n → ⊥) → is_level_on n space h ≡ false
  other_level space h differ = false_from_ne_true (is_level_on n space h) (λ is. differ (eqb-true h.level n (and_parts (h.level == n) (are_same_space space (code.space_of h.space)) is).0))

module _ (held : List Held) (n : ℕ) (space : Space) (i j : ℕ) (bound : i ≤ length held) (before : AllWithin (λ h. h.level < n) held 0 i) (after : AllWithin (λ h. n + 1 ≤ h.level) held j (length held)) where
  -- those of a level stand in a row
  pub row_filter : filter (is_level_on n space) (slice_range held i j) ≡ filter (is_level_on n space) held
  row_filter =
      filter_slice (is_level_on n space) held i j (row_order held n i j bound before after)
      (λ k d low within. other_level held n i j bound before after space (get_or held k d) (λ same. (let up = before k d (omega arith) low in let no : ⊥ = omega (arith, same, up) in no)))
      (λ k d high within. other_level held n i j bound before after space (get_or held k d) (λ same. (let up = after k d high within in let no : ⊥ = omega (arith, same, up) in no)))

  -- so what is added of the row and then sorted is what is added of all
  pub row_sorted : (old added new : List Range) → old ≡ [] → added ≡ old ++ map held_range (filter (is_level_on n space) (slice_range held i j)) → IsPermutation added new
      → IsPermutation (map held_range (filter (is_level_on n space) held)) new
  row_sorted old added new none put sorted =
      subst (λ xs. IsPermutation xs new)
      (put ∙ ap (λ xs. xs ++ map held_range (filter (is_level_on n space) (slice_range held i j))) none ∙ ap (map held_range) row_filter) sorted

-- ---- parts of a system

regions_by : (q p : Request) (s : System) → q.lists ≡ p.lists → system_parts q s ≡ system_parts p s
regions_by q p s same = ap (λ ls. system_parts (record q { lists = ls }) s) same

level_by : (q p : Request) (bus : ℕ) → q.roots ≡ p.roots → level q bus ≡ level p bus
level_by q p bus same = ap (λ rs. cond (is_root rs bus) 0 (bus + 1)) same

part_there : (q : Request) (s : System) (f : Function) (p : Part) → Contains (header_parts f) p → is_part q s f p ≡ true → has_part f p ≡ true
part_there q s f (Bar n) listed is = header_has f (Bar n) listed refl
part_there q s f Rom listed is = header_has f Rom listed refl
part_there q s f (Window kind) listed is = (and_parts (is_bridge f) (has_window kind f.probe) (and_parts (is_bridge f && has_window kind f.probe) (not (is_closed kind f.image)) is).0).0

pub record IsThere (s : System) (r : FunctionPart) : Type 0 where
  pub listed : Contains s r.function
  pub there : has_part r.function r.part ≡ true

pub there_of : (q : Request) (s : System) (r : FunctionPart) → Contains (system_parts q s) r → IsThere s r
there_of q s r has =
    let piece : IsInPiece (function_parts q s) s r = in_flat_map_to (function_parts q s) s r has in
    let f = piece.of in
    let made : IsMade (λ p. record { function = f; part = p }) (parts_of q s f) r = in_map_to (λ p. record { function = f; part = p }) (parts_of q s f) r piece.piece in
    let kept = in_filter_to (is_part q s f) (header_parts f) made.from made.has in
    subst (IsThere s) made.is record { listed = piece.has; there = part_there q s f made.from kept.0 kept.1 }

-- ---- what stays, and where

told_decoded : (grown : List (ByKind (Option Range))) (k : ℕ) (p : CodePart) → grown_of grown k (spec_part p) ≡ option_map decoded_range_of (told_part grown k p)
told_decoded grown k (parts.Bar n) = refl
told_decoded grown k parts.Rom = refl
told_decoded grown k (parts.Window kinds.Io) = refl
told_decoded grown k (parts.Window kinds.Memory) = refl
told_decoded grown k (parts.Window kinds.Prefetchable) = refl

or_decoded : (o : Option Range) (r : Range) → decoded_range_of (told_or o r) ≡ range_or (option_map decoded_range_of o) (decoded_range_of r)
or_decoded None r = refl
or_decoded (Some t) r = refl

kept_decoded : (grown : List (ByKind (Option Range))) (x : CodeRegion) → decoded_range_of (kept_range grown x) ≡ range_or (grown_of grown x.function (spec_part x.part)) (decoded_range_of x.range)
kept_decoded grown x = or_decoded (told_part grown x.function x.part) x.range ∙ ap (λ o. range_or o (decoded_range_of x.range)) (sym (told_decoded grown x.function x.part))

or_forward : (o : Option Range) (r : Range) → IfSome o (λ t. t.first ≤ t.last) → r.first ≤ r.last → (told_or o r).first ≤ (told_or o r).last
or_forward None r of own = own
or_forward (Some t) r of own = of

part_forward : (grown : List (ByKind (Option Range))) → AreForward grown → (k : ℕ) (p : CodePart) → IfSome (told_part grown k p) (λ t. t.first ≤ t.last)
part_forward grown forward k (parts.Bar n) = tt
part_forward grown forward k parts.Rom = tt
part_forward grown forward k (parts.Window class) = forward k class

range_forward : (grown : List (ByKind (Option Range))) → AreForward grown → (x : CodeRegion) → x.range.first ≤ x.range.last → (kept_range grown x).first ≤ (kept_range grown x).last
range_forward grown forward x own = or_forward (told_part grown x.function x.part) x.range (part_forward grown forward x.function x.part) own

module _ (roots : List ℕ) (d : Demand) (s : System) (rs : List CodeRegion) (parts : AreParts (asked roots d [] false) s rs) (kept : List Kept) (grown : List (ByKind (Option Range))) where
  abbrev q0 : Request
  q0 = asked roots d [] false

  abbrev chosen : List Held
  chosen = map (held_of grown) (filter (is_region_kept kept) rs)

  -- of which part of the code something is
  record IsChosen (h : Held) : Type 0 where
    pub from : CodeRegion
    pub listed : Contains rs from
    pub keeps : is_region_kept kept from ≡ true
    pub is : held_of grown from ≡ h

  chosen_from : (held : List Held) → IsPermutation chosen held → (h : Held) → Contains held h → IsChosen h
  chosen_from held same h listed =
      let made : IsMade (held_of grown) (filter (is_region_kept kept) rs) h = in_map_to (held_of grown) (filter (is_region_kept kept) rs) h (Contains-permutation held chosen h (IsPermutation-sym chosen held same) listed) in
      let passed = in_filter_to (is_region_kept kept) rs made.from made.has in
      record { from = made.from; listed = passed.0; keeps = passed.1; is = made.is }

  -- what is added of all parts and then sorted
  pub chosen_sorted : (old added new : List Held) (slice : List CodeRegion) → old ≡ [] → slice ≡ rs → added ≡ old ++ map (held_of grown) (filter (is_region_kept kept) slice) → IsPermutation added new → IsPermutation chosen new
  chosen_sorted old added new slice none all put sorted =
      subst (λ xs. IsPermutation xs new)
      (put ∙ ap (λ xs. xs ++ map (held_of grown) (filter (is_region_kept kept) slice)) none ∙ ap (λ xs. map (held_of grown) (filter (is_region_kept kept) xs)) all) sorted

  pub held_forward : AreForward grown → (held : List Held) → IsPermutation chosen held → All IsForward held
  held_forward forward held same = λ k d low. (
      let x = chosen_from held same (get_or held k d) (Contains-get_or held k d low) in
      subst IsForward x.is (range_forward grown forward x.from (All-contains (λ (r : CodeRegion). r.range.first ≤ r.range.last) rs x.from parts.forward x.listed)))

  module _ (q : Request) (keep : Keeping) (rooted : q.roots ≡ roots) (lists : q.lists ≡ d.lists) (keeps : AreKeptParts s keep.stays kept) (ranges : AreKeptRanges s keep grown) where
    module _ (x : CodeRegion) (r : FunctionPart) (in_code : Contains rs x) (in_system : Contains (system_parts q0 s) r) (same : known_of q0 s r ≡ known s x) where
      region_is : r ≡ region_value s x
      region_is = ap (λ (k : Known). k.region) same

      has_it : slice_get s x.function ≡ Some (function_in s x.function)
      has_it = slice_get-get_or s x.function no_function (All-contains (λ (y : CodeRegion). y.function < length s) rs x parts.within in_code)

      its_part : has_part (function_in s x.function) (spec_part x.part) ≡ true
      its_part = (subst (IsThere s) region_is (there_of q0 s r in_system)).there

      kept_is : is_region_kept kept x ≡ keep.stays r
      kept_is = keeps x.function (function_in s x.function) (spec_part x.part) has_it its_part ∙ ap keep.stays (sym region_is)

      range_kept : keep.stays r ≡ true → decoded_range_of (kept_range grown x) ≡ keep.range r
      range_kept is =
          kept_decoded grown x
          ∙ ap (range_or (grown_of grown x.function (spec_part x.part))) (sym (ap (λ (k : Known). k.range) same) ∙ ap addresses region_is)
          ∙ sym (ranges x.function (function_in s x.function) (spec_part x.part) has_it its_part (subst (λ t. keep.stays t ≡ true) region_is is))
          ∙ ap keep.range (sym region_is)

      held_by : is_region_kept kept x ≡ true → IsHeldBy q s keep (held_of grown x) r
      held_by is = record {
        listed = subst (λ ts. Contains ts r) (sym (regions_by q q0 s lists)) in_system;
        stays_is = sym kept_is ∙ is;
        level_is = sym (ap (λ (k : Known). k.level) same) ∙ sym (level_by q q0 r.function.slot.bus rooted);
        space_is = sym (ap (λ (k : Known). k.space) same);
        range_is = range_kept (sym kept_is ∙ is);
      }

    pub are_held : (held : List Held) → IsPermutation chosen held → AreHeld q s keep held
    are_held held same = record {
      each = λ h listed.
          let x = chosen_from held same h listed in
          let made : IsMade (known_of q0 s) (system_parts q0 s) (known s x.from) = in_map_to (known_of q0 s) (system_parts q0 s) (known s x.from) (subst (λ ks. Contains ks (known s x.from)) parts.same (in_map_from (known s) rs x.from x.listed)) in
          (made.from, subst (λ y. IsHeldBy q s keep y made.from) x.is (held_by x.from made.from x.listed made.has made.is x.keeps));
      all = λ r listed is.
          let in_system = subst (λ ts. Contains ts r) (regions_by q q0 s lists) listed in
          let made : IsMade (known s) rs (known_of q0 s r) = in_map_to (known s) rs (known_of q0 s r) (subst (λ ks. Contains ks (known_of q0 s r)) (sym parts.same) (in_map_from (known_of q0 s) (system_parts q0 s) r in_system)) in
          let on = kept_is made.from r made.has in_system (sym made.is) ∙ is in (
            held_of grown made.from,
            Contains-permutation chosen held (held_of grown made.from) same (in_map_from (held_of grown) (filter (is_region_kept kept) rs) made.from (in_filter_from (is_region_kept kept) rs made.from made.has on)),
            held_by made.from r made.has in_system (sym made.is) on,
          );
    }

-- where no function has an entry, nothing stays
pub none_held : (q : Request) (s : System) (keep : Keeping) → AreKeptParts s keep.stays [] → AreHeld q s keep []
none_held q s keep keeps = record {
  each = λ h listed. absurd (in_nil h listed);
  all = λ r listed is.
      let of = there_of q s r listed in
      let in_s = of.listed in
      let off : false ≡ keep.stays r = sym (none_noted r.part) ∙ keeps in_s.0 r.function r.part (slice_get-get_or s in_s.0 r.function in_s.1 ∙ ap Some in_s.2) of.there in
      absurd (both_ways (keep.stays r) (sym off) is);
}

pub nothing_held : (roots : List ℕ) (s : System) (l : Lists) (kept : List Kept) (grown : List (ByKind (Option Range))) (held : List Held) → length kept ≡ 0 → held ≡ [] → AreHeldIn roots s l kept grown held
nothing_held roots s l [] grown held empty none q keep rooted lists keeps ranges = subst (AreHeld q s keep) (sym none) (none_held q s keep keeps)
nothing_held roots s l (x ∷ kept) grown held empty none q keep rooted lists keeps ranges = absurd (let no : ⊥ = omega (arith, empty) in no)

-- ---- what is taken

module _ (held : List Held) (n : ℕ) (space : Space) (taken : List Range) (same : IsPermutation (map held_range (filter (is_level_on n space) held)) taken) where
  record IsOnIt (x : Range) : Type 0 where
    pub from : Held
    pub listed : Contains held from
    pub level_is : from.level ≡ n
    pub space_is : space ≡ code.space_of from.space
    pub is : held_range from ≡ x

  on_it : (x : Range) → Contains taken x → IsOnIt x
  on_it x listed =
      let all = filter (is_level_on n space) held in
      let made : IsMade held_range all x = in_map_to held_range all x (Contains-permutation taken (map held_range all) x (IsPermutation-sym (map held_range all) taken same) listed) in
      let passed = in_filter_to (is_level_on n space) held made.from made.has in
      let both = and_parts (made.from.level == n) (are_same_space space (code.space_of made.from.space)) passed.1 in
      record {
        from = made.from;
        listed = passed.0;
        level_is = eqb-true made.from.level n both.0;
        space_is = one_space space (code.space_of made.from.space) both.1;
        is = made.is;
      }

  pub taken_listed : All IsForward held → FirstsRise taken → AreRisingRanges taken
  taken_listed forward order = record {
    order = order;
    forward = λ k d within. (
        let x = on_it (get_or taken k d) (Contains-get_or taken k d within) in
        subst (λ (r : Range). r.first ≤ r.last) x.is (All-contains IsForward held x.from forward x.listed));
  }

  module _ (q : Request) (s : System) (keep : Keeping) (are : AreHeld q s keep held) (bus : ℕ) (here : n ≡ level q bus) where
    abbrev passes : FunctionPart → Bool
    passes r = are_siblings q.roots bus r.function.slot.bus && are_same_space space (part_space r) && keep.stays r

    -- what lines hold there is no part of it
    pub same_parts : HaveSame (map decoded_range_of taken) (map keep.range (filter passes (system_parts q s)))
    same_parts = record {
      to = λ t listed.
          let made : IsMade decoded_range_of taken t = in_map_to decoded_range_of taken t listed in
          let x = on_it made.from made.has in
          let by = are.each x.from x.listed in
          let r = by.0 in
          let is = by.1 in
          let beside = levels_one q bus r.function.slot.bus (sym here ∙ sym x.level_is ∙ is.level_is) in
          let in_space = spaces_one space (part_space r) (x.space_is ∙ is.space_is) in
          let ok = and_from (are_siblings q.roots bus r.function.slot.bus && are_same_space space (part_space r)) (keep.stays r)
          (and_from (are_siblings q.roots bus r.function.slot.bus) (are_same_space space (part_space r)) beside in_space) is.stays_is in
          subst (Contains (map keep.range (filter passes (system_parts q s)))) (sym is.range_is ∙ ap decoded_range_of x.is ∙ made.is)
          (in_map_from keep.range (filter passes (system_parts q s)) r (in_filter_from passes (system_parts q s) r is.listed ok));
      back = λ t listed.
          let made : IsMade keep.range (filter passes (system_parts q s)) t = in_map_to keep.range (filter passes (system_parts q s)) t listed in
          let r = made.from in
          let passed = in_filter_to passes (system_parts q s) r made.has in
          let two = and_parts (are_siblings q.roots bus r.function.slot.bus && are_same_space space (part_space r)) (keep.stays r) passed.1 in
          let one = and_parts (are_siblings q.roots bus r.function.slot.bus) (are_same_space space (part_space r)) two.0 in
          let by = are.all r passed.0 two.1 in
          let h = by.0 in
          let is = by.2 in
          let on : is_level_on n space h ≡ true = and_from (h.level == n) (are_same_space space (code.space_of h.space))
          (eq-eqb h.level n (is.level_is ∙ sym (one_level q s bus r.function.slot.bus one.0) ∙ sym here))
          (spaces_one space (code.space_of h.space) (one_space space (part_space r) one.1 ∙ sym is.space_is)) in
          let all = filter (is_level_on n space) held in
          subst (Contains (map decoded_range_of taken)) (is.range_is ∙ made.is)
          (in_map_from decoded_range_of taken (held_range h)
          (Contains-permutation (map held_range all) taken (held_range h) same (in_map_from held_range all h (in_filter_from (is_level_on n space) held h by.1 on))));
    }
