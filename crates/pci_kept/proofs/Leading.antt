-- Which parts lead to told ranges, as lines tell them.
use Rattle.std.proofs.Common.{◌≡◌, ℕ, ◌+◌, ◌<◌, ◌≤◌, inl, inr, List, [], length, get_or, Bool, true, false, ◌&&◌, ◌||◌, not, arith, sym, ◌∙◌, ap, subst, refl, Some, None}
use Rattle.std.specs.Option.{is_some}
use Rattle.std.specs.List.{AllWithin, Contains}
use Rattle.std.proofs.lemmas.Bool.{cases_Bool, cases_lt, and_parts, and_from, both_ways, false_from_ne_true}
use Rattle.std.proofs.lemmas.List.{get_or_default}
use Rattle.std.proofs.lemmas.Option.{slice_get-get_or, get_or_from_slice_get}
use Rattle.pci_spec.specs.Decoded.{Bridge as DecodedBridge}
use Rattle.pci_spec.specs.System.{System, Function, Window, is_bridge, space_of}
use Rattle.pci_spec.specs.Bus.{secondary, subordinate, is_behind}
use Rattle.pci_spec.proofs.BusRanges.{any_gives, any_from, within_of_behind, behind_of_within}
use Rattle.pci_spec.proofs.Members.{in_nil}
use Rattle.plan_spec.specs.Plan.{is_open, same_class}
use Rattle.plan_spec.specs.Planning.Layout.{range_of}
use Rattle.judge_spec.specs.Told.{ToldRange}
use Rattle.judge_spec.specs.ToldClaims.{is_marked_held}
use Rattle.judge_spec.specs.ToldRegion.{ToldRegion, told_regions}
use Rattle.settle_spec.specs.Lists.{Request}
use Rattle.settle_spec.specs.Parts.{FunctionPart, addresses, is_part, lies_within, are_same_space}
use Rattle.settle_spec.specs.Lines.{line_bus, line_range, is_held_line, is_always_line}
use Rattle.settle_spec.specs.Stands.{part_space, is_line_on, range_class, leads_by, leads_to_range}
use Rattle.settle_laws.proofs.Standing.{part_of}
use Rattle.pci_base.specs.Ranges.{decoded_range_of}
use Rattle.pci_base.specs.Space as code
use Rattle.pci_base.specs.WindowKinds.{kind_value}
use Rattle.pci_function.specs.declared.record.Bridge.{Bridge}
use Rattle.pci_function.specs.declared.record.Record.{Record}
use Rattle.pci_tree.proofs.Lifting.{same_bridge}
use Rattle.pci_tree.proofs.RegionParts.{same_bridge_of}
use Rattle.pci_place.specs.Items.{no_function}
use Rattle.pci_place.proofs.Records.{FunctionAt, function_at}
use Rattle.pci_first_fit.specs.declared.kept.Part.{Part as CodePart}
use Rattle.pci_first_fit.specs.declared.kept.Part.TheVariants as parts
use Rattle.pci_first_fit.specs.Kept.{spec_part}
use Rattle.pci_kept.specs.declared.region.Region.{Region}
use Rattle.pci_kept.specs.declared.told_line.ToldLine.{ToldLine}
use Rattle.pci_kept.specs.Known.{Known, region_value}
use Rattle.pci_kept.specs.Boards.{IsTree, IsKnown}
use Rattle.pci_kept.specs.ToldLines.{IsToldLineOf, AreToldLines, part_leads_to, leads_to_line}
use Rattle.pci_kept.specs.Leads.{leads_to_lines, AreReachable}
use Rattle.pci_kept.specs.RangePass.{no_range, no_told_line}
use Rattle.pci_kept.proofs.ToldIndexes.{told_at, told_by}

-- the first one up to a bus, and the first one above another
module _ (ranges : List ToldRange) (low high first end : ℕ)
    (first_before : AllWithin (λ (t : ToldRange). t.slot.bus < low) ranges 0 first) (first_after : AllWithin (λ (t : ToldRange). low ≤ t.slot.bus) ranges first (length ranges))
    (end_before : AllWithin (λ (t : ToldRange). t.slot.bus < high + 1) ranges 0 end) (end_after : AllWithin (λ (t : ToldRange). high + 1 ≤ t.slot.bus) ranges end (length ranges)) where
  pub between_from : (k : ℕ) (t : ToldRange) → k < length ranges → low ≤ (get_or ranges k t).slot.bus → (get_or ranges k t).slot.bus ≤ high → (first ≤ k) × (k < end)
  between_from k t within from up = (
    elim (cases_lt k first) [ inl less ↦ absurd (let b = first_before k t (omega arith) less in let no : ⊥ = omega (arith, b, from) in no) | inr fine ↦ fine ],
    elim (cases_lt k end) [ inl less ↦ less | inr past ↦ absurd (let b = end_after k t past within in let no : ⊥ = omega (arith, b, up) in no) ],
  )

  pub between_to : (k : ℕ) (t : ToldRange) → k < length ranges → first ≤ k → k < end → (low ≤ (get_or ranges k t).slot.bus) × ((get_or ranges k t).slot.bus ≤ high)
  between_to k t within from up = (first_after k t from within, let b = end_before k t (omega arith) up in omega (arith, b))

module _ (any : Bool) (q : Request) (s : System) (r : Region) (is : IsKnown q s r) where
  abbrev v : FunctionPart
  v = region_value s r

  abbrev f : Function
  f = v.function

  range_is : decoded_range_of r.range ≡ addresses v
  range_is = ap (λ (k : Known). k.range) is.all

  space_is : code.space_of r.space ≡ part_space v
  space_is = ap (λ (k : Known). k.space) is.all

  there : is_part q s f v.part ≡ true
  there = (part_of q s v is.listed).is

  by_part : (x : ToldRegion) (line : ToldLine) → kind_value line.class ≡ range_class q s x → (p : CodePart) → r.part ≡ p → part_leads_to p (code.space_of r.space) (decoded_range_of r.range) x.told line ≡ leads_by q s f (spec_part p) x
  by_part x line class (parts.Window kind) e =
      let open_is : is_open f (kind_value kind) ≡ true = sym (ap (λ p. is_part q s f (spec_part p)) e) ∙ there in
      let at : decoded_range_of r.range ≡ range_of f (Window (kind_value kind)) = range_is ∙ ap (λ p. range_of f (spec_part p)) e in
      ap (λ c. same_class (kind_value kind) c && lies_within (line_range x) (decoded_range_of r.range)) class
      ∙ ap (λ y. same_class (kind_value kind) (range_class q s x) && lies_within (line_range x) y) at
      ∙ between (same_class (kind_value kind) (range_class q s x)) (is_open f (kind_value kind)) (lies_within (line_range x) (range_of f (Window (kind_value kind)))) open_is
    where
      between : (a b c : Bool) → b ≡ true → (a && c) ≡ (a && b && c)
      between true b c e = ap (λ y. y && c) (sym e)
      between false b c e = refl
  by_part x line class (parts.Bar n) e = ap (λ z. is_always_line x && are_same_space z x.told.space) (space_is ∙ ap (λ p. space_of f (spec_part p)) e)
  by_part x line class parts.Rom e = ap (λ z. is_always_line x && are_same_space z x.told.space) (space_is ∙ ap (λ p. space_of f (spec_part p)) e)

  -- of a line behind its bridge
  pub line_is : (x : ToldRegion) (line : ToldLine) → IsToldLineOf q s x.told line → leads_to_line any r x.told line ≡ ((any || is_line_on q s x) && (not (is_held_line x) && leads_by q s f v.part x))
  line_is x line known =
      ap (λ b. (any || b) && not (is_marked_held x.told.mark) && part_leads_to r.part (code.space_of r.space) (decoded_range_of r.range) x.told line) known.on
      ∙ ap (λ b. (any || is_line_on q s x) && not (is_held_line x) && b) (by_part x line known.class r.part refl)
      ∙ grouped (any || is_line_on q s x) (not (is_held_line x)) (leads_by q s f v.part x)
    where
      grouped : (a b c : Bool) → (a && b && c) ≡ (a && (b && c))
      grouped true b c = refl
      grouped false b c = refl

  -- where all told ranges are held, it leads nowhere
  pub all_held : (ranges : List ToldRange) → q.told.ranges ≡ ranges → (indexes : List ℕ) → indexes ≡ [] → AreReachable ranges indexes → false ≡ leads_to_lines any q s v
  all_held ranges same indexes none are = sym (false_from_ne_true (leads_to_lines any q s v) (λ leads.
      let of = any_gives (λ y. (any || is_line_on q s y) && leads_to_range q s v y) (told_regions q.told) leads in
      let y = of.0 in
      let to_it = (and_parts (any || is_line_on q s y) (leads_to_range q s v y) of.2).1 in
      let two = (and_parts (not (is_held_line y) && is_bridge f && is_behind f (line_bus y)) (leads_by q s f v.part y) to_it).0 in
      let one = (and_parts (not (is_held_line y) && is_bridge f) (is_behind f (line_bus y)) two).0 in
      let not_held = (and_parts (not (is_held_line y)) (is_bridge f) one).0 in
      let free : is_held_line y ≡ false = false_from_ne_true (is_held_line y) (λ held. both_ways (not (is_held_line y)) (ap not held) not_held) in
      let at = told_at 256 q.told.ranges y of.1 in
      let there : get_or ranges at.k y.told ≡ y.told = subst (λ xs. get_or xs at.k y.told ≡ y.told) same at.is in
      let listed = are.all at.k y.told (subst (λ xs. at.k < length xs) same at.within) (subst (λ (t : ToldRange). is_marked_held t.mark ≡ false) (sym there) free) in
      in_nil at.k (subst (λ xs. Contains xs at.k) none listed)))

  module _ (records : List Record) (tree : IsTree q s records) (lines : List ToldLine) (are : AreToldLines q s lines) (within : r.function < length records) (d : Record) where
    abbrev x : Record
    x = get_or records r.function d

    x_is : x ≡ get_or records r.function x
    x_is = sym (get_or_default records r.function x d within)

    found : FunctionAt s x r.function
    found = function_at s records tree.has r.function x (slice_get-get_or records r.function x within ∙ ap Some (sym x_is))

    same : found.f ≡ f
    same = sym (get_or_from_slice_get s r.function found.f no_function found.at)

    -- what isn't of a bridge leads nowhere
    pub no_bridge_leads : x.bridge ≡ None → false ≡ leads_to_lines any q s v
    no_bridge_leads none = sym (false_from_ne_true (leads_to_lines any q s v) (λ is.
        let of = any_gives (λ y. (any || is_line_on q s y) && leads_to_range q s v y) (told_regions q.told) is in
        let leads = (and_parts (any || is_line_on q s of.0) (leads_to_range q s v of.0) of.2).1 in
        let two = (and_parts (not (is_held_line of.0) && is_bridge f && is_behind f (line_bus of.0)) (leads_by q s f v.part of.0) leads).0 in
        let bridge = (and_parts (not (is_held_line of.0)) (is_bridge f) (and_parts (not (is_held_line of.0) && is_bridge f) (is_behind f (line_bus of.0)) two).0).1 in
        both_ways (is_bridge f) (ap is_bridge (sym same) ∙ sym (same_bridge x found.f found.is.value) ∙ ap is_some none) bridge))

    module _ (b : Bridge) (b_is : x.bridge ≡ Some b) (first end : ℕ) (end_bound : end ≤ length q.told.ranges)
        (first_before : AllWithin (λ (t : ToldRange). t.slot.bus < b.secondary) q.told.ranges 0 first) (first_after : AllWithin (λ (t : ToldRange). b.secondary ≤ t.slot.bus) q.told.ranges first (length q.told.ranges))
        (end_before : AllWithin (λ (t : ToldRange). t.slot.bus < b.subordinate + 1) q.told.ranges 0 end) (end_after : AllWithin (λ (t : ToldRange). b.subordinate + 1 ≤ t.slot.bus) q.told.ranges end (length q.told.ranges)) where
      bridge_is : is_bridge f ≡ true
      bridge_is = ap is_bridge (sym same) ∙ sym (same_bridge x found.f found.is.value) ∙ ap is_some b_is

      low_is : b.secondary ≡ secondary f
      low_is = ap (λ (y : DecodedBridge). y.secondary) (same_bridge_of x found.f b found.is.value b_is) ∙ ap secondary same

      high_is : b.subordinate ≡ subordinate f
      high_is = ap (λ (y : DecodedBridge). y.subordinate) (same_bridge_of x found.f b found.is.value b_is) ∙ ap subordinate same

      line_at : (k : ℕ) (d : ToldLine) (t : ToldRange) → k < length q.told.ranges → (y : ToldRegion) → get_or q.told.ranges k t ≡ y.told → leads_to_line any r (get_or q.told.ranges k t) (get_or lines k d) ≡ ((any || is_line_on q s y) && (not (is_held_line y) && leads_by q s f v.part y))
      line_at k d t low y e =
          ap (λ (z : ToldRange). leads_to_line any r z (get_or lines k d)) e
          ∙ line_is y (get_or lines k d) (subst (λ (z : ToldRange). IsToldLineOf q s z (get_or lines k d)) e (are.each k d t low))

      pub leads_where : (k : ℕ) → first ≤ k → k < end → ((t : ToldRange) (d : ToldLine) → leads_to_line any r (get_or q.told.ranges k t) (get_or lines k d) ≡ true) → (t : ToldRange) (d : ToldLine) → leads_to_lines any q s v ≡ true
      leads_where k from up leads t d =
          let low : k < length q.told.ranges = omega (arith, up, end_bound) in
          let by = told_by 256 q.told.ranges k t low in
          let y = by.x in
          let both = and_parts (any || is_line_on q s y) (not (is_held_line y) && leads_by q s f v.part y) (sym (line_at k d t low y (sym by.is)) ∙ leads t d) in
          let other = and_parts (not (is_held_line y)) (leads_by q s f v.part y) both.1 in
          let between = between_to q.told.ranges b.secondary b.subordinate first end first_before first_after end_before end_after k t low from up in
          let b0 = between.0 in
          let b1 = between.1 in
          let l = low_is in
          let h = high_is in
          let bus_is : (get_or q.told.ranges k t).slot.bus ≡ line_bus y = ap (λ (z : ToldRange). z.slot.bus) (sym by.is) in
          let behind : is_behind f (line_bus y) ≡ true = behind_of_within f (line_bus y) record { low = omega (arith, b0, l, bus_is); high = omega (arith, b1, h, bus_is) } in
          any_from (λ z. (any || is_line_on q s z) && leads_to_range q s v z) (told_regions q.told) y by.has
          (and_from (any || is_line_on q s y) (leads_to_range q s v y) both.0
          (and_from (not (is_held_line y) && is_bridge f && is_behind f (line_bus y)) (leads_by q s f v.part y)
          (and_from (not (is_held_line y) && is_bridge f) (is_behind f (line_bus y)) (and_from (not (is_held_line y)) (is_bridge f) other.0 bridge_is) behind) other.1))

      pub leads_nowhere : ((k : ℕ) (t : ToldRange) (d : ToldLine) → first ≤ k → k < end → leads_to_line any r (get_or q.told.ranges k t) (get_or lines k d) ≡ false) → (d : ToldLine) → leads_to_lines any q s v ≡ false
      leads_nowhere none d = false_from_ne_true (leads_to_lines any q s v) (λ is.
          let of = any_gives (λ y. (any || is_line_on q s y) && leads_to_range q s v y) (told_regions q.told) is in
          let y = of.0 in
          let both = and_parts (any || is_line_on q s y) (leads_to_range q s v y) of.2 in
          let three = and_parts (not (is_held_line y) && is_bridge f && is_behind f (line_bus y)) (leads_by q s f v.part y) both.1 in
          let two = and_parts (not (is_held_line y) && is_bridge f) (is_behind f (line_bus y)) three.0 in
          let one = and_parts (not (is_held_line y)) (is_bridge f) two.0 in
          let at = told_at 256 q.told.ranges y of.1 in
          let within_it = within_of_behind f (line_bus y) two.1 in
          let l = low_is in
          let h = high_is in
          let wl = within_it.low in
          let wh = within_it.high in
          let bus_is : (get_or q.told.ranges at.k y.told).slot.bus ≡ line_bus y = ap (λ (z : ToldRange). z.slot.bus) at.is in
          let between = between_from q.told.ranges b.secondary b.subordinate first end first_before first_after end_before end_after at.k y.told at.within (omega (arith, l, wl, bus_is)) (omega (arith, h, wh, bus_is)) in
          both_ways (leads_to_line any r (get_or q.told.ranges at.k y.told) (get_or lines at.k d)) (none at.k y.told d between.0 between.1)
          (line_at at.k d y.told at.within y at.is ∙ and_from (any || is_line_on q s y) (not (is_held_line y) && leads_by q s f v.part y) both.0 (and_from (not (is_held_line y)) (leads_by q s f v.part y) one.0 three.1)))

    -- so it is told by what leads to some line between
    pub by_lines : (b : Bridge) → x.bridge ≡ Some b → (ranges : List ToldRange) → q.told.ranges ≡ ranges → (first end : ℕ) → end ≤ length ranges
        → AllWithin (λ (t : ToldRange). t.slot.bus < b.secondary) ranges 0 first → AllWithin (λ (t : ToldRange). b.secondary ≤ t.slot.bus) ranges first (length ranges)
        → AllWithin (λ (t : ToldRange). t.slot.bus < b.subordinate + 1) ranges 0 end → AllWithin (λ (t : ToldRange). b.subordinate + 1 ≤ t.slot.bus) ranges end (length ranges)
        → (result : Bool)
        → (result ≡ true → (k : ℕ) × (first ≤ k) × (k < end) × ((t : ToldRange) (l : ToldLine) → leads_to_line any r (get_or ranges k t) (get_or lines k l) ≡ true))
        → (result ≡ false → (k : ℕ) (t : ToldRange) (l : ToldLine) → first ≤ k → k < end → leads_to_line any r (get_or ranges k t) (get_or lines k l) ≡ false)
        → result ≡ leads_to_lines any q s v
    by_lines b b_is ranges same_ranges first end bound before after end_before end_after result some none = elim (cases_Bool result) [
      | inl on ↦
          let there = some on in
          on ∙ sym (leads_where b b_is first end (subst (λ xs. end ≤ length xs) (sym same_ranges) bound)
          (subst (λ xs. AllWithin (λ (t : ToldRange). t.slot.bus < b.secondary) xs 0 first) (sym same_ranges) before)
          (subst (λ xs. AllWithin (λ (t : ToldRange). b.secondary ≤ t.slot.bus) xs first (length xs)) (sym same_ranges) after)
          (subst (λ xs. AllWithin (λ (t : ToldRange). t.slot.bus < b.subordinate + 1) xs 0 end) (sym same_ranges) end_before)
          (subst (λ xs. AllWithin (λ (t : ToldRange). b.subordinate + 1 ≤ t.slot.bus) xs end (length xs)) (sym same_ranges) end_after)
          there.0 there.1 there.2 (λ t l. subst (λ (xs : List ToldRange). leads_to_line any r (get_or xs there.0 t) (get_or lines there.0 l) ≡ true) (sym same_ranges) (there.3 t l)) no_range no_told_line)
      | inr off ↦
          off ∙ sym (leads_nowhere b b_is first end (subst (λ xs. end ≤ length xs) (sym same_ranges) bound)
          (subst (λ xs. AllWithin (λ (t : ToldRange). t.slot.bus < b.secondary) xs 0 first) (sym same_ranges) before)
          (subst (λ xs. AllWithin (λ (t : ToldRange). b.secondary ≤ t.slot.bus) xs first (length xs)) (sym same_ranges) after)
          (subst (λ xs. AllWithin (λ (t : ToldRange). t.slot.bus < b.subordinate + 1) xs 0 end) (sym same_ranges) end_before)
          (subst (λ xs. AllWithin (λ (t : ToldRange). b.subordinate + 1 ≤ t.slot.bus) xs end (length xs)) (sym same_ranges) end_after)
          (λ k t l from up. subst (λ (xs : List ToldRange). leads_to_line any r (get_or xs k t) (get_or lines k l) ≡ false) (sym same_ranges) (none off k t l from up)) no_told_line)
    ]
