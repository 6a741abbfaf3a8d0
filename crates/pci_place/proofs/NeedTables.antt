-- What each bus needs, in one pass over the records from the highest slot down.
use Rattle.std.proofs.Common.{◌≡◌, ℕ, ◌+◌, ◌-◌, ◌^◌, ◌<◌, ◌≤◌, inl, inr, List, [], ◌∷◌, ◌++◌, length, map, drop, set, replicate, get_or, refl, Bool, true, false, cond, ◌&&◌, max, min, Option, Some, None, arith, sym, ◌∙◌, ap, subst}
use Rattle.std.specs.Bool.{nat_lt, if◌then◌else◌}
use Rattle.std.specs.Option.{is_some}
use Rattle.std.specs.List.{All, slice_get, flat_map, sum}
use Rattle.std.proofs.lemmas.Bool.{cases_eq, cases_lt, lt-ltb, le-ltb, eq-eqb, ne_eqb}
use Rattle.std.proofs.lemmas.List.{length-set, drop_all, drop_more, get_or-replicate, get_or-set_same, get_or-set_other, get_or_default}
use Rattle.std.proofs.lemmas.List.Sums.{fold_push, sum_by_push}
use Rattle.std.proofs.lemmas.Option.{slice_get_within, slice_get_read, get_or_from_slice_get}
use Rattle.pci_spec.specs.Slot.{Slot}
use Rattle.pci_spec.specs.Window.{WindowKind}
use Rattle.pci_spec.specs.System.{System, Function, IsSystem, is_bridge}
use Rattle.pci_spec.specs.Bus.{secondary, is_root, IsNested}
use Rattle.pci_spec.specs.Decoded.{HasRecords}
use Rattle.pci_spec.specs.Decoded as decoded
use Rattle.plan_spec.specs.Plan.{limited, window_size, need_of}
use Rattle.plan_spec.specs.Plan as plan
use Rattle.plan_spec.specs.Planning.Table.{need_behind}
use Rattle.plan_spec.specs.Planning.BusNeeds.{added, added_on}
use Rattle.plan_spec.proofs.Planning.Sums.{need_added}
use Rattle.plan_spec.proofs.Planning.Tallies.{limited_add, greatest_append, behind_sizes, function_sizes, root_sizes, sum_of_function, part_of, added_more, whole_behind, greatest_by_slots}
use Rattle.pci_function.specs.declared.record.Bridge.{Bridge}
use Rattle.pci_function.specs.declared.record.Record.{Record}
use Rattle.pci_function.specs.Values.{record_value}
use Rattle.pci_tree.proofs.Lifting.{same_bridge, same_slot_of}
use Rattle.pci_tree.proofs.RegionParts.{same_bridge_of}
use Rattle.pci_place.specs.declared.above.Above.{Above}
use Rattle.pci_place.specs.declared.pools.Pools.{Pools}
use Rattle.pci_place.specs.declared.need.Tally.{Tally}
use Rattle.pci_place.specs.Pools.{pools_value}
use Rattle.pci_place.specs.Above.{IsAbove, AreAboves}
use Rattle.pci_place.specs.Records.{IsRecordInSystem}
use Rattle.pci_place.specs.Sizes.{record_own_sizes, window_sizes, IsTallyOf}
use Rattle.pci_place.proofs.Aboves.{secondary_small}
use Rattle.pci_place.proofs.Owned.{sizes_are}
use Rattle.pci_place.proofs.Records.{FunctionAt, function_at, same_count}

-- ---- tallies

pub tally_none : (t : Tally) → t.sum ≡ 0 → t.greatest ≡ 0 → IsTallyOf [] t
tally_none t sum greatest = record { total = sum; most = greatest }

-- one more size
pub tally_more : (sizes : List ℕ) (size : ℕ) (t next : Tally) → IsTallyOf sizes t → next.sum ≡ min (2 ^ 65) (t.sum + size) → next.greatest ≡ max t.greatest size → IsTallyOf (sizes ++ size ∷ []) next
tally_more sizes size t next is total most =
    let before = is.total in
    let push : sum (sizes ++ size ∷ []) ≡ sum sizes + size = sum_by_push (λ n. n) sizes size in
    record {
      total = omega (arith, total, before, push);
      most = most ∙ ap (λ n. max n size) is.most ∙ sym (fold_push max 0 sizes size);
    }

-- what is told apart is no more than the most
pub tally_small : (sizes : List ℕ) (t : Tally) → IsTallyOf sizes t → t.sum ≤ 2 ^ 65
tally_small sizes t is = let e = is.total in omega (arith, e)

-- ---- the table

-- what each bus needs of the functions from place k on, and the greatest of their sizes on the roots
pub record AreNeedsFrom (roots : List ℕ) (s : System) (pools : plan.Pools) (c : WindowKind) (k : ℕ) (of_bus : List ℕ) (most : ℕ) : Type 0 where
  pub size : length of_bus ≡ 256
  pub need : (bus : ℕ) → bus < 256 → get_or of_bus bus 0 ≡ limited (added_on s pools c bus (drop k s))
  pub greatest : most ≡ plan.greatest (flat_map (root_sizes roots s pools c) (drop k s))

pub needs_small : (roots : List ℕ) (s : System) (pools : plan.Pools) (c : WindowKind) (k : ℕ) (of_bus : List ℕ) (most : ℕ) → AreNeedsFrom roots s pools c k of_bus most → All (λ need. need ≤ 2 ^ 65) of_bus
needs_small roots s pools c k of_bus most was bus d within =
    let size = was.size in
    let e = get_or_default of_bus bus d 0 within ∙ was.need bus (omega (arith, size, within)) in
    omega (arith, e)

pub needs_none : (roots : List ℕ) (s : System) (pools : plan.Pools) (c : WindowKind) (k : ℕ) → length s ≤ k → AreNeedsFrom roots s pools c k (replicate 256 0) 0
needs_none roots s pools c k past =
    let none = drop_all k s past in
    record {
      size = refl;
      need = λ bus small. get_or-replicate 256 bus 0 0 small ∙ ap (λ rest. limited (added_on s pools c bus rest)) (sym none);
      greatest = ap (λ rest. plan.greatest (flat_map (root_sizes roots s pools c) rest)) (sym none);
    }

module _ (roots : List ℕ) (s : System) (system : IsSystem s) (nested : IsNested roots s) (pools : Pools) (c : WindowKind) where
  abbrev value : plan.Pools
  value = pools_value pools

  -- ---- the next function

  module _ (k : ℕ) (f : Function) (r : Record) (at : slice_get s k ≡ Some f) (is : IsRecordInSystem s f r) (above : Above) (at_bus : IsAbove s f.slot.bus above)
      (of_bus : List ℕ) (most : ℕ) (was : AreNeedsFrom roots s value c (k + 1) of_bus most) where
    positive : (n : ℕ) → nat_lt 0 (limited n) ≡ nat_lt 0 n
    positive n = elim (cases_lt 0 n) [
      | inl some ↦ lt-ltb 0 (limited n) (omega (arith, some)) ∙ sym (lt-ltb 0 n some)
      | inr none ↦ le-ltb 0 (limited n) (omega (arith, none)) ∙ sym (le-ltb 0 n none)
    ]

    -- the window that the table asks for is the bridge's
    window_is : (o : Option Bridge) → r.bridge ≡ o → window_sizes c of_bus o ≡ behind_sizes s value c f
    window_is None none =
        let n = need_behind s value c f in
        let no : is_bridge f ≡ false = sym (same_bridge r f is.value) ∙ ap is_some none in
        sym (ap (λ b. cond (b && nat_lt 0 n) (window_size c (limited n) ∷ []) []) no)
    window_is (Some b) there =
        let n = need_behind s value c f in
        let bridge : is_bridge f ≡ true = sym (same_bridge r f is.value) ∙ ap is_some there in
        let to : b.secondary ≡ secondary f = ap (λ (x : decoded.Bridge). x.secondary) (same_bridge_of r f b is.value there) in
        let need : get_or of_bus b.secondary 0 ≡ limited n =
        was.need b.secondary (secondary_small s system f r b is there)
        ∙ ap (λ bus. limited (added_on s value c bus (drop (k + 1) s))) to
        ∙ ap limited (whole_behind roots s value c system nested k f at bridge) in
        ap (λ m. cond (nat_lt 0 m) (window_size c m ∷ []) []) need
        ∙ ap (λ t. cond t (window_size c (limited n) ∷ []) []) (positive n)
        ∙ sym (ap (λ t. cond (t && nat_lt 0 n) (window_size c (limited n) ∷ []) []) bridge)

    pub added_sizes : record_own_sizes c above pools r ++ window_sizes c of_bus r.bridge ≡ function_sizes s value c f
    added_sizes =
        ap (λ xs. xs ++ window_sizes c of_bus r.bridge) (sizes_are s f r is above at_bus pools c)
        ∙ ap (λ xs. plan.sizes_in s value c f ++ xs) (window_is r.bridge refl)

    rest_is : drop k s ≡ f ∷ drop (k + 1) s
    rest_is =
        let within = slice_get_within s k f at in
        drop_more s k f within ∙ ap (λ g. g ∷ drop (k + 1) s) (get_or_from_slice_get s k f f at)

    module _ (t : Tally) (tally : IsTallyOf (record_own_sizes c above pools r ++ window_sizes c of_bus r.bridge) t) where
      total_is : t.sum ≡ limited (added s value c f (need_behind s value c f))
      total_is = tally.total ∙ ap (λ xs. limited (sum xs)) added_sizes ∙ ap limited (sum_of_function s value c f)

      most_is : t.greatest ≡ plan.greatest (function_sizes s value c f)
      most_is = tally.most ∙ ap plan.greatest added_sizes

      need_more : (bus : ℕ) → bus < 256 → get_or (set of_bus f.slot.bus (min (2 ^ 65) (get_or of_bus f.slot.bus 0 + t.sum))) bus 0 ≡ limited (added_on s value c bus (drop k s))
      need_more bus small =
          let rest = added_on s value c bus (drop (k + 1) s) in
          let split = added_more s value c bus k f (drop (k + 1) s) rest_is in
          let size = was.size in
          let sum_here = total_is in
          let next = min (2 ^ 65) (get_or of_bus f.slot.bus 0 + t.sum) in
          elim (cases_eq bus f.slot.bus) [
            | inl here ↦
                let there = ap (λ n. get_or (set of_bus f.slot.bus next) n 0) here ∙ get_or-set_same of_bus f.slot.bus next 0 (omega (arith, size, small, here)) in
                let old : get_or of_bus f.slot.bus 0 ≡ limited rest = ap (λ n. get_or of_bus n 0) (sym here) ∙ was.need bus small in
                let part : part_of s value c bus f ≡ added s value c f (need_behind s value c f) =
                ap (λ b. cond b (added s value c f (need_behind s value c f)) 0) (eq-eqb f.slot.bus bus (sym here)) in
                let total : next ≡ min (2 ^ 65) (limited rest + limited (added s value c f (need_behind s value c f))) = omega (arith, old, sum_here) in
                let joined = limited_add rest (added s value c f (need_behind s value c f)) in
                let all : rest + added s value c f (need_behind s value c f) ≡ added_on s value c bus (drop k s) = omega (arith, split, part) in
                there ∙ total ∙ joined ∙ ap limited all
            | inr other ↦
                let there = get_or-set_other of_bus f.slot.bus bus next 0 other in
                let part : part_of s value c bus f ≡ 0 = ap (λ b. cond b (added s value c f (need_behind s value c f)) 0) (ne_eqb f.slot.bus bus (λ e. other (sym e))) in
                let all : rest ≡ added_on s value c bus (drop k s) = omega (arith, split, part) in
                there ∙ was.need bus small ∙ ap limited all
          ]

      pub needs_more : (next_most : ℕ) → next_most ≡ (if is_root roots f.slot.bus then max t.greatest most else most)
          → AreNeedsFrom roots s value c k (set of_bus f.slot.bus (min (2 ^ 65) (get_or of_bus f.slot.bus 0 + t.sum))) next_most
      needs_more next_most e = record {
        size = length-set of_bus f.slot.bus _ ∙ was.size;
        need = need_more;
        greatest =
            let rest = flat_map (root_sizes roots s value c) (drop (k + 1) s) in
            let here : (b : Bool) → (if b then max t.greatest most else most) ≡ plan.greatest ((if b then function_sizes s value c f else []) ++ rest) = λ b.
            elim b as (λ x. (if x then max t.greatest most else most) ≡ plan.greatest ((if x then function_sizes s value c f else []) ++ rest)) [
              | true ↦ ap (λ n. max n most) most_is ∙ ap (λ n. max (plan.greatest (function_sizes s value c f)) n) was.greatest ∙ sym (greatest_append (function_sizes s value c f) rest)
              | false ↦ was.greatest
            ] in
            e ∙ here (is_root roots f.slot.bus) ∙ ap (λ fs. plan.greatest (flat_map (root_sizes roots s value c) fs)) (sym rest_is);
      }

  -- once all records are passed, the table is whole
  module _ (records : List Record) (has : HasRecords s (map record_value records)) (done : ℕ) (all : length records ≤ done)
      (of_bus : List ℕ) (most : ℕ) (was : AreNeedsFrom roots s value c (length s - done) of_bus most) where
    whole : AreNeedsFrom roots s value c 0 of_bus most
    whole =
        let count = same_count s records has in
        let first : length s - done ≡ 0 = omega (arith, count, all) in
        subst (λ n. AreNeedsFrom roots s value c n of_bus most) first was

    pub whole_needs : (bus : ℕ) → bus < 256 → get_or of_bus bus 0 ≡ need_of s value c bus
    whole_needs bus small = whole.need bus small ∙ ap limited (sym (need_added s value c bus roots system nested))

    pub whole_greatest : most ≡ plan.greatest_of_roots roots s value c
    whole_greatest = whole.greatest ∙ greatest_by_slots roots s value c system nested

  -- ---- the records, from the last to the first

  most_by : (b : Bool) (next t most : ℕ) → (b ≡ true → next ≡ max t most) → (b ≡ false → next ≡ most) → next ≡ (if b then max t most else most)
  most_by true next t most root other = root refl
  most_by false next t most root other = other refl

  -- one more record, whose function may stand on a root
  pub needs_step : (records : List Record) → HasRecords s (map record_value records) → (aboves : List Above) → AreAboves s aboves
      → (done : ℕ) (r : Record) → done < length records → r ≡ get_or records (length records - 1 - done) r
      → (of_bus : List ℕ) (most : ℕ) → AreNeedsFrom roots s value c (length s - done) of_bus most
      → (bus : ℕ) (d : Above) → bus ≡ r.slot.bus → (t : Tally) → IsTallyOf (record_own_sizes c (get_or aboves bus d) pools r ++ window_sizes c of_bus r.bridge) t
      → (next_need next_most : ℕ) → next_need ≡ min (2 ^ 65) (get_or of_bus bus 0 + t.sum)
      → (is_root roots bus ≡ true → next_most ≡ max t.greatest most) → (is_root roots bus ≡ false → next_most ≡ most)
      → AreNeedsFrom roots s value c (length s - (done + 1)) (set of_bus bus next_need) next_most
  needs_step records has aboves are done r less read of_bus most was bus d on t tally next_need next_most e_need root other =
      let count = same_count s records has in
      let k = length records - 1 - done in
      let at : slice_get records k ≡ Some r = slice_get_read records (length records) k r refl (omega (arith, less)) read in
      let here : FunctionAt s r k = function_at s records has k r at in
      let f = here.f in
      let there : bus ≡ f.slot.bus = on ∙ ap (λ (x : Slot). x.bus) (same_slot_of r f here.is.value) in
      let from : length s - done ≡ k + 1 = omega (arith, count, less) in
      let to : k ≡ length s - (done + 1) = omega (arith, count, less) in
      let before : AreNeedsFrom roots s value c (k + 1) of_bus most = subst (λ n. AreNeedsFrom roots s value c n of_bus most) from was in
      let at_bus : IsAbove s f.slot.bus (get_or aboves bus d) = subst (λ n. IsAbove s f.slot.bus (get_or aboves n d)) (sym there) (are f d here.is.listed) in
      let most_is : next_most ≡ (if is_root roots f.slot.bus then max t.greatest most else most) =
      subst (λ n. next_most ≡ (if is_root roots n then max t.greatest most else most)) there (most_by (is_root roots bus) next_most t.greatest most root other) in
      let step : AreNeedsFrom roots s value c k (set of_bus f.slot.bus (min (2 ^ 65) (get_or of_bus f.slot.bus 0 + t.sum))) next_most =
      needs_more k f r here.at here.is (get_or aboves bus d) at_bus of_bus most before t tally next_most most_is in
      let same : set of_bus f.slot.bus (min (2 ^ 65) (get_or of_bus f.slot.bus 0 + t.sum)) ≡ set of_bus bus next_need =
      ap (λ n. set of_bus n (min (2 ^ 65) (get_or of_bus n 0 + t.sum))) (sym there) ∙ ap (λ n. set of_bus bus n) (sym e_need) in
      subst (λ n. AreNeedsFrom roots s value c n (set of_bus bus next_need) next_most) to (subst (λ xs. AreNeedsFrom roots s value c k xs next_most) same step)
