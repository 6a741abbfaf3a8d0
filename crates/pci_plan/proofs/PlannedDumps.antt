-- A dump that is planned block by block.
use Rattle.std.proofs.Common.{◌≡◌, ℕ, ◌+◌, ◌^◌, ◌<◌, ◌≤◌, List, [], ◌∷◌, ◌++◌, Option, Some, length, map, take, get_or, arith, refl, sym, ◌∙◌, ap, subst}
use Rattle.std.specs.List.{AllZip, Contains, slice_get, slice_index_or}
use Rattle.std.specs.List.Sorted.{IsStrictlyIncreasing}
use Rattle.std.proofs.lemmas.Option.{slice_get-get_or}
use Rattle.std.proofs.lemmas.List.{get_or-map, get_or-take, length-map, length-take-le, map-append, take_all, take_more}
use Rattle.std.proofs.lemmas.List.Elements.{AllZip-push}
use Rattle.pci_spec.specs.Slot.{Slot, slot_number}
use Rattle.pci_spec.specs.Text.{Block, IsDump, slots_of}
use Rattle.pci_spec.specs.Stops.{IsAboveLast, last_slot}
use Rattle.pci_spec.specs.Window.{WindowKind, IoWindow, MemoryWindow, PrefetchWindow}
use Rattle.pci_spec.specs.System.{System, Function, function_of, system_of}
use Rattle.pci_spec.specs.Decoded.{HasRecords}
use Rattle.pci_spec.specs.Decoded as decoded
use Rattle.plan_spec.specs.PlanPromise.{CanBePlanned}
use Rattle.plan_spec.specs.Plan.{Pools, class_of, pool_of}
use Rattle.plan_spec.specs.Planning.Plannable.{IsPlannable}
use Rattle.plan_spec.specs.Planning.Table.{IsTable}
use Rattle.plan_spec.specs.Planning.Numbers.{place_at}
use Rattle.pci_spec.proofs.Pairing.{above_all, function-at, length-system_of, same_length, system_last}
use Rattle.plan_spec.proofs.Planning.Placings.{table_of_places}
use Rattle.plan_spec.proofs.Planning.Reach.{AreGood, good_pools}
use Rattle.pci_tree.specs.Admission.{Admission, IsAdmitted}
use Rattle.pci_function.specs.declared.record.Record.{Record}
use Rattle.pci_function.specs.Values.{record_value}
use Rattle.pci_tree.proofs.Pairings.{later_is_above}
use Rattle.pci_place.specs.Above.{system_in}
use Rattle.pci_base.specs.declared.window_kind.ByKind.{ByKind}
use Rattle.pci_place.specs.declared.need.Needs.{Needs}
use Rattle.pci_place.specs.declared.place.Places.{Places}
use Rattle.pci_plan.specs.declared.numbers.Filling.{Filling}
use Rattle.pci_place.specs.Needs.{AreAllNeeds}
use Rattle.pci_place.specs.Places.{first_in, HasPlaces}
use Rattle.pci_place.specs.Records.{IsRecordInSystem}
use Rattle.pci_plan.specs.Fillings.{FillingOf}
use Rattle.pci_place.proofs.Records.{same_count, function_at}

-- the first blocks of a dump, with their slots, their titles, and what is planned of each
pub record ArePlanned (P : Function → Function → Type 0) (dump probe : List Block) (i : ℕ) (found : List Block) : Type 0 where
  pub slots : slots_of found ≡ take i (slots_of dump)
  pub titles : map (λ b. b.title) found ≡ take i (map (λ b. b.title) dump)
  pub planned : AllZip P (take i (system_of dump probe)) (system_of found (take i probe))

module _ (P : Function → Function → Type 0) (dump probe : List Block) (same : slots_of dump ≡ slots_of probe) where
  pub none_planned : ArePlanned P dump probe 0 []
  none_planned = record { slots = refl; titles = refl; planned = tt }

  module _ (i : ℕ) (found : List Block) (so_far : ArePlanned P dump probe i found) where
    pub found_count : i ≤ length dump → length found ≡ i
    found_count inside =
        let slots = length-map dump (λ (b : Block). b.slot) in
        let own = length-map found (λ (b : Block). b.slot) in
        let taken = length-take-le i (slots_of dump) (omega (arith, slots, inside)) in
        let e = ap length so_far.slots in
        omega (arith, own, e, taken)

    -- the next block may stand after them
    pub next_above : IsDump dump → i < length dump → (b : Block) → b ≡ get_or dump i b → IsAboveLast (last_slot found) b.slot
    next_above is inside b at = above_all found b.slot (λ t has.
        let slots = length-map dump (λ (c : Block). c.slot) in
        let taken = length-take-le i (slots_of dump) (omega (arith, slots, inside)) in
        let earlier : Contains (take i (slots_of dump)) t = subst (λ (ss : List Slot). Contains ss t) so_far.slots has in
        let short = earlier.1 in
        let j = earlier.0 in
        let before : j < i = omega (arith, taken, short) in
        let t_at : get_or (slots_of dump) j t ≡ t = sym (get_or-take i (slots_of dump) j t before) ∙ earlier.2 in
        let b_at : get_or (slots_of dump) i t ≡ b.slot = get_or-map (λ (c : Block). c.slot) dump i b t inside ∙ ap (λ (c : Block). c.slot) (sym at) in
        let less = later_is_above (slots_of dump) j i t is.rising before (omega (arith, slots, inside)) in
        let low = ap slot_number t_at in
        let high = ap slot_number b_at in
        omega (arith, less, low, high))

    -- one more
    pub next_planned : (b c p : Block) → i < length dump → c ≡ get_or dump i c → p ≡ get_or probe i p → b.slot ≡ c.slot → b.title ≡ c.title
        → P (function_of c p) (function_of b p) → ArePlanned P dump probe (i + 1) (found ++ b ∷ [])
    next_planned b c p inside c_at p_at slot title planned =
        let count = same_length dump probe same in
        let slots = length-map dump (λ (d : Block). d.slot) in
        let titles = length-map dump (λ (d : Block). d.title) in
        let size = length-system_of dump probe count in
        let slot_at : get_or (slots_of dump) i c.slot ≡ c.slot = get_or-map (λ (d : Block). d.slot) dump i c c.slot inside ∙ ap (λ (d : Block). d.slot) (sym c_at) in
        let title_at : get_or (map (λ (d : Block). d.title) dump) i c.title ≡ c.title = get_or-map (λ (d : Block). d.title) dump i c c.title inside ∙ ap (λ (d : Block). d.title) (sym c_at) in
        let in_probe : i < length probe = omega (arith, count, inside) in
        let f_at : get_or (system_of dump probe) i (function_of c p) ≡ function_of c p =
        function-at dump probe i c p (function_of c p) inside in_probe ∙ ap (λ (d : Block). function_of d (get_or probe i p)) (sym c_at) ∙ ap (λ (d : Block). function_of c d) (sym p_at) in
        let probes : take (i + 1) probe ≡ take i probe ++ p ∷ [] = take_more probe i p in_probe ∙ ap (λ (d : Block). take i probe ++ d ∷ []) (sym p_at) in
        let functions : take (i + 1) (system_of dump probe) ≡ take i (system_of dump probe) ++ function_of c p ∷ [] =
        take_more (system_of dump probe) i (function_of c p) (omega (arith, size, inside)) ∙ ap (λ f. take i (system_of dump probe) ++ f ∷ []) f_at in
        let taken = length-take-le i probe (omega (arith, in_probe)) in
        let own = found_count (omega (arith, inside)) in
        let pushed = AllZip-push P (take i (system_of dump probe)) (system_of found (take i probe)) (function_of c p) (function_of b p) so_far.planned planned in
        let last : system_of (found ++ b ∷ []) (take i probe ++ p ∷ []) ≡ system_of found (take i probe) ++ function_of b p ∷ [] = system_last found (take i probe) b p (omega (arith, own, taken)) in
        record {
          slots = map-append (λ (d : Block). d.slot) found (b ∷ []) ∙ ap (λ (ss : List Slot). ss ++ b.slot ∷ []) so_far.slots
              ∙ ap (λ (s : Slot). take i (slots_of dump) ++ s ∷ []) (slot ∙ sym slot_at)
              ∙ sym (take_more (slots_of dump) i c.slot (omega (arith, slots, inside)));
          titles = map-append (λ (d : Block). d.title) found (b ∷ []) ∙ ap (λ (ts : List (Option (List ℕ))). ts ++ b.title ∷ []) so_far.titles
              ∙ ap (λ (t : Option (List ℕ)). take i (map (λ (d : Block). d.title) dump) ++ t ∷ []) (title ∙ sym title_at)
              ∙ sym (take_more (map (λ (d : Block). d.title) dump) i c.title (omega (arith, titles, inside)));
          planned = subst (λ fs. AllZip P fs (system_of (found ++ b ∷ []) (take (i + 1) probe))) (sym functions)
              (subst (λ ps. AllZip P (take i (system_of dump probe) ++ function_of c p ∷ []) (system_of (found ++ b ∷ []) ps)) (sym probes)
              (subst (λ fs. AllZip P (take i (system_of dump probe) ++ function_of c p ∷ []) fs) (sym last) pushed));
        }

  -- all of them
  pub all_planned : (i : ℕ) (found : List Block) → ArePlanned P dump probe i found → length dump ≤ i
      → (slots_of found ≡ slots_of dump) × (map (λ b. b.title) found ≡ map (λ b. b.title) dump) × AllZip P (system_of dump probe) (system_of found probe)
  all_planned i found so_far done =
      let count = same_length dump probe same in
      let slots = length-map dump (λ (b : Block). b.slot) in
      let titles = length-map dump (λ (b : Block). b.title) in
      let size = length-system_of dump probe count in (
        so_far.slots ∙ take_all i (slots_of dump) (omega (arith, slots, done)),
        so_far.titles ∙ take_all i (map (λ b. b.title) dump) (omega (arith, titles, done)),
        subst (λ fs. AllZip P fs (system_of found probe)) (take_all i (system_of dump probe) (omega (arith, size, done)))
            (subst (λ ps. AllZip P (take i (system_of dump probe)) (system_of found ps)) (take_all i probe (omega (arith, count, done))) so_far.planned),
      )

-- ---- what is filled

module _ (roots : List ℕ) (dump probe : List Block) (pools : Pools) (needs : ByKind Needs) (places : List Places)
    (plannable : IsPlannable roots (system_of dump probe) pools) (tables : (c : WindowKind) → IsTable roots (system_of dump probe) pools c (place_at roots (system_of dump probe) pools))
    (all : AreAllNeeds roots (system_of dump probe) pools needs) (placed : (c : WindowKind) → HasPlaces roots (system_of dump probe) pools c places) where
  -- a filling with the record, the image and the places of the function at a place
  abbrev pub filling_at : (filling : Filling) (i : ℕ) (f : Function) (d : Places) → slice_get (system_of dump probe) i ≡ Some f → IsRecordInSystem (system_of dump probe) f filling.record.now
      → filling.image.now.0 ≡ f.image → filling.places.now ≡ slice_index_or places i d → filling.needs.now ≡ needs → FillingOf filling
  filling_at filling i f d at recorded image place same = record {
    roots = roots;
    system = system_of dump probe;
    pools = pools;
    function = f;
    plannable = plannable;
    tables = tables;
    recorded = recorded;
    image = image;
    places = λ part there. ap (λ (p : Places). first_in p part) place ∙ placed (class_of (system_of dump probe) pools f part) i f d part at there;
    needs = subst (AreAllNeeds roots (system_of dump probe) pools) (sym same) all;
  }

-- the function of the blocks at a place, with its record
pub function_here : (dump probe : List Block) (records : List Record) (i : ℕ) (b p : Block) (r : Record) → slots_of dump ≡ slots_of probe → HasRecords (system_of dump probe) (map record_value records)
    → i < length dump → b ≡ get_or dump i b → p ≡ get_or probe i p → r ≡ get_or records i r
    → (slice_get (system_of dump probe) i ≡ Some (function_of b p)) × IsRecordInSystem (system_of dump probe) (function_of b p) r
function_here dump probe records i b p r same is inside b_at p_at r_at =
    let s = system_of dump probe in
    let count = same_length dump probe same in
    let size = length-system_of dump probe count in
    let many = same_count s records is in
    let f_at : get_or s i (function_of b p) ≡ function_of b p =
    function-at dump probe i b p (function_of b p) inside (omega (arith, count, inside)) ∙ ap (λ (d : Block). function_of d (get_or probe i p)) (sym b_at) ∙ ap (λ (d : Block). function_of b d) (sym p_at) in
    let at : slice_get s i ≡ Some (function_of b p) = slice_get-get_or s i (function_of b p) (omega (arith, size, inside)) ∙ ap Some f_at in
    let found = function_at s records is i r (slice_get-get_or records i r (omega (arith, size, many, inside)) ∙ ap Some (sym r_at)) in
    let there : slice_get s i ≡ Some found.f = found.at in
    let one : found.f ≡ function_of b p = cc in
    (at, subst (λ (f : Function). IsRecordInSystem s f r) one found.is)

-- ---- what can be planned

low_pools : (pools : Pools) → AreGood pools → pools.prefetch.last < 2 ^ 64 → (c : WindowKind) → (pool_of pools c).last < 2 ^ 64
low_pools pools good low IoWindow = let l = good.io in omega (arith, l)
low_pools pools good low MemoryWindow = let l = good.memory in omega (arith, l)
low_pools pools good low PrefetchWindow = low

-- the places of what can be planned are tables
pub tables_of : (roots : List ℕ) (s : System) (pools : Pools) → IsPlannable roots s pools → IsStrictlyIncreasing roots → (c : WindowKind) → IsTable roots s pools c (place_at roots s pools)
tables_of roots s pools p rising c = table_of_places roots s pools c p.system p.nested rising (p.can.room c) (low_pools pools (good_pools pools p.can.good) p.addresses c)

-- an admitted dump and its probe, against whose plan nothing stands
pub plannable_of : (a : Admission) (pools : Pools) (records : List decoded.Record) → IsAdmitted a → HasRecords (system_in a) records → CanBePlanned a.roots (system_in a) pools → pools.prefetch.last < 2 ^ 64
    → IsPlannable a.roots (system_in a) pools
plannable_of a pools records is recorded can low = record {
  system = is.system;
  nested = is.nested;
  profile = is.profile;
  chains = is.chains;
  decodable = recorded.decodable;
  addresses = low;
  can = can;
}
