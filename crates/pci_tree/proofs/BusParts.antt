-- The records of a bus stand in a row, and their regions are those of the bus.
use Rattle.std.proofs.Common.{◌≡◌, ℕ, ◌+◌, ◌-◌, ◌*◌, ◌<◌, ◌≤◌, List, [], ◌∷◌, length, get_or, drop, inl, inr, arith, sym, ◌∙◌, ap, subst, ltb}
use Rattle.std.specs.Prelude.{slice_range}
use Rattle.std.specs.List.{Contains, All, AllWithin, flat_map}
use Rattle.std.proofs.lemmas.Bool.{cases_lt, cases_order}
use Rattle.std.specs.List.Sorted.{IsPartitionedBy, IsNonDecreasingBy}
use Rattle.std.proofs.lemmas.List.Sorted.{IsPartitionedBy-ltb}
use Rattle.std.proofs.lemmas.List.{get_or-take, get_or-drop, length-take-le, length-drop}
use Rattle.std.proofs.lemmas.List.Elements.{All-contains, Contains-get_or}
use Rattle.pci_spec.specs.Slot.{Slot, IsSlot, slot_number}
use Rattle.pci_spec.specs.System.{System, Function, Space, Part}
use Rattle.pci_spec.specs.Decoded.{IsDecodable, record_of}
use Rattle.pci_spec.proofs.Members.{IsInPiece, in_nil, pairs_nil, in_flat_map_to, in_flat_map_from, pairs_flat_map}
use Rattle.pci_function.specs.declared.record.Record.{Record}
use Rattle.pci_tree.specs.declared.region.Region.{Region}
use Rattle.pci_function.specs.Values.{record_value}
use Rattle.pci_tree.specs.Regions.{regions_of, region_number, IsRegionOf, HasRegionOf, IsLawful, AreRegionsOf}
use Rattle.pci_tree.specs.Ways.{IsUnled}
use Rattle.pci_tree.specs.Outline.{RiseBySlot, IsOutline, IsBusPart}
use Rattle.pci_tree.proofs.Lifting.{Has, StandsFor, record_for, function_for, same_slot_of}
use Rattle.pci_tree.proofs.RegionParts.{regions_are, regions_are_all}
use Rattle.pci_tree.proofs.RegionOrder.{IsOfRecord, regions_rise, region_of_record}

-- ---- the records of a bus

-- a slot of a lower number is on no higher bus
bus_by_number : (m n : Slot) → IsSlot m → IsSlot n → slot_number m < slot_number n → m.bus ≤ n.bus
bus_by_number m n is_m is_n lt = elim (cases_lt n.bus m.bus) [
  | inl above ↦ (let d : n.device < 32 = is_n.1 in let f : n.function < 8 = is_n.2 in absurd (omega arith))
  | inr le ↦ le
]

-- records that rise by slot rise by bus
buses_rise : (records : List Record) → RiseBySlot records → All (λ r. IsSlot r.slot) records → IsNonDecreasingBy (λ r. r.slot.bus) records
buses_rise records rise slots i j d le within = elim (cases_order i j) [
  | inl e ↦ (let same : (get_or records i d).slot.bus ≡ (get_or records j d).slot.bus = ap (λ n. (get_or records n d).slot.bus) e in omega arith)
  | inr differ ↦ elim differ [
    | inl lt ↦ bus_by_number (get_or records i d).slot (get_or records j d).slot (slots i d (omega arith)) (slots j d within) (rise i j d lt within)
    | inr gt ↦ absurd (omega arith)
  ]
]

pub parted_by_bus : (records : List Record) (bus : ℕ) → RiseBySlot records → All (λ r. IsSlot r.slot) records → IsPartitionedBy (λ r. ltb r.slot.bus bus) records
parted_by_bus records bus rise slots = IsPartitionedBy-ltb (λ (r : Record). r.slot.bus) records bus (buses_rise records rise slots)

-- the records of a bus begin before those of the next
pub begins_before : (records : List Record) (bus next i j : ℕ) → next ≡ bus + 1 → i ≤ length records → AllWithin (λ r. r.slot.bus < bus) records 0 i
    → AllWithin (λ r. next ≤ r.slot.bus) records j (length records) → i ≤ j
begins_before [] bus next i j e bound below from = omega arith
begins_before (r ∷ records) bus next i j e bound below from = elim (cases_lt j i) [
  | inl less ↦ (let low : (get_or (r ∷ records) j r).slot.bus < bus = below j r (omega arith) less in
      let high : next ≤ (get_or (r ∷ records) j r).slot.bus = from j r (omega arith) (omega arith) in absurd (omega arith))
  | inr le ↦ le
]

-- of records that rise, those from one index to another are those of a bus
pub part_between : (records : List Record) (bus next i j : ℕ) → next ≡ bus + 1 → RiseBySlot records → i ≤ j → j ≤ length records
    → AllWithin (λ r. r.slot.bus < bus) records 0 i → AllWithin (λ r. bus ≤ r.slot.bus) records i (length records)
    → AllWithin (λ r. r.slot.bus < next) records 0 j → AllWithin (λ r. next ≤ r.slot.bus) records j (length records)
    → IsBusPart records bus (slice_range records i j)
part_between records bus next i j succ rise le within below_i from_i below_j from_j =
    let tail : length (drop i records) ≡ length records - i = length-drop i records in
    let size : length (slice_range records i j) ≡ j - i = length-take-le (j - i) (drop i records) (omega arith) in
    let at : (k : ℕ) (d : Record) → k < j - i → get_or (slice_range records i j) k d ≡ get_or records (i + k) d =
    λ k d lt. get_or-take (j - i) (drop i records) k d lt ∙ get_or-drop i records k d in
    record {
      each = λ r (k, inside, is). (
          let lt : k < j - i = omega arith in
          let there : get_or records (i + k) r ≡ r = sym (at k r lt) ∙ is in
          let low : bus ≤ (get_or records (i + k) r).slot.bus = from_i (i + k) r (omega arith) (omega arith) in
          let high : (get_or records (i + k) r).slot.bus < next = below_j (i + k) r (omega arith) (omega arith) in
          let e : (get_or records (i + k) r).slot.bus ≡ r.slot.bus = ap (λ (x : Record). x.slot.bus) there in
          ((i + k, omega arith, there), omega arith));
      all = λ r (k, inside, is) on. (
          let e : (get_or records k r).slot.bus ≡ r.slot.bus = ap (λ (x : Record). x.slot.bus) is in
          elim (cases_lt k i) [
            | inl before ↦ (let low : (get_or records k r).slot.bus < bus = below_i k r (omega arith) before in absurd (omega arith))
            | inr after ↦ elim (cases_lt k j) [
              | inl here ↦ (let lt : k - i < j - i = omega arith in
                  let same : i + (k - i) ≡ k = omega arith in
                  (k - i, omega arith, at (k - i) r lt ∙ ap (λ n. get_or records n r) same ∙ is))
              | inr past ↦ (let high : next ≤ (get_or records k r).slot.bus = from_j k r past inside in absurd (omega arith))
            ]
          ]);
      rising = λ m n d lt inside. (
          let hm : m < j - i = omega arith in
          let hn : n < j - i = omega arith in
          let up : slot_number (get_or records (i + m) d).slot < slot_number (get_or records (i + n) d).slot = rise (i + m) (i + n) d (omega arith) (omega arith) in
          subst (λ (x : Record). slot_number x.slot < slot_number (get_or (slice_range records i j) n d).slot) (sym (at m d hm))
          (subst (λ (x : Record). slot_number (get_or records (i + m) d).slot < slot_number x.slot) (sym (at n d hn)) up));
    }

-- ---- their regions

below_in_slot : (m n a b : ℕ) → m ≡ n → a < b → m * 256 + a < n * 256 + b
below_in_slot m n a b e lt = omega arith

below_by_slot : (m n x y a b : ℕ) → m ≡ x → n ≡ y → x < y → a < 64 → m * 256 + a < n * 256 + b
below_by_slot m n x y a b em en lt low = omega arith

abbrev regions_in : Space → Record → List Region
regions_in space r = regions_of r space

-- the regions of the records of a bus are those of the bus, in each system with the records
pub regions_of_part : (s : System) (records part : List Record) (bus : ℕ) (space : Space) → Has s records → All IsLawful records → IsBusPart records bus part
    → AreRegionsOf s bus space (flat_map (λ r. regions_of r space) part)
regions_of_part s records part bus space is lawful on = record {
  each = λ q has. (
      let piece : IsInPiece (regions_in space) part q = in_flat_map_to (regions_in space) part q has in
      let r : Record = piece.of in
      let at : Contains records r × (r.slot.bus ≡ bus) = on.each r piece.has in
      let f : (f : Function) × Contains s f × (record_value r ≡ record_of f) = function_for s records r is at.0 in
      let region : (p : Part) × IsRegionOf f.0 p space q =
      regions_are r f.0 space q (All-contains IsDecodable s f.0 is.decodable f.1) f.2 (All-contains IsLawful records r lawful at.0) piece.piece in
      record {
        f = f.0;
        part = region.0;
        listed = f.1;
        on_bus = ap (λ (x : Slot). x.bus) (sym (same_slot_of r f.0 f.2)) ∙ at.1;
        is = region.1;
      });
  complete = λ f p a has there claims. (
      let r : (r : Record) × StandsFor records f r = record_for s records f is has in
      let here : Contains part r.0 = on.all r.0 r.1.has (ap (λ (x : Slot). x.bus) (same_slot_of r.0 f r.1.same) ∙ there) in
      let found : HasRegionOf (regions_of r.0 space) f p space =
      regions_are_all r.0 f p space a (All-contains IsDecodable s f is.decodable has) r.1.same (All-contains IsLawful records r.0 lawful r.1.has) claims in
      record { q = found.q; has = in_flat_map_from (regions_in space) part r.0 found.q here found.has; is = found.is });
  rising = pairs_flat_map (λ (r q : Record). slot_number r.slot < slot_number q.slot) (λ p q. region_number p < region_number q) (regions_in space) part on.rising
      (λ r has. (
      let f : (f : Function) × Contains s f × (record_value r ≡ record_of f) = function_for s records r is (on.each r has).0 in
      λ i j d lt inside. (
      let p : Region = get_or (regions_of r space) i d in
      let q : Region = get_or (regions_of r space) j d in
      let up : p.reg < q.reg = regions_rise r f.0 space f.2 i j d lt inside in
      let op : IsOfRecord r p = region_of_record r f.0 space p f.2 (Contains-get_or (regions_of r space) i d (omega arith)) in
      let oq : IsOfRecord r q = region_of_record r f.0 space q f.2 (Contains-get_or (regions_of r space) j d inside) in
      let same : slot_number p.slot ≡ slot_number q.slot = ap slot_number (op.slot ∙ sym oq.slot) in
      below_in_slot (slot_number p.slot) (slot_number q.slot) p.reg q.reg same up)))
      (λ r z p q hr hz lt hp hq. (
      let f : (f : Function) × Contains s f × (record_value r ≡ record_of f) = function_for s records r is (on.each r hr).0 in
      let g : (g : Function) × Contains s g × (record_value z ≡ record_of g) = function_for s records z is (on.each z hz).0 in
      let op : IsOfRecord r p = region_of_record r f.0 space p f.2 hp in
      let oq : IsOfRecord z q = region_of_record z g.0 space q g.2 hq in
      below_by_slot (slot_number p.slot) (slot_number q.slot) (slot_number r.slot) (slot_number z.slot) p.reg q.reg (ap slot_number op.slot) (ap slot_number oq.slot) lt op.low));
}

-- a bus to which nothing leads has no region
pub regions_unled : (s : System) (roots : List ℕ) (records : List Record) (bus : ℕ) (space : Space) → Has s records → IsOutline roots records → IsUnled records roots bus → AreRegionsOf s bus space []
regions_unled s roots records bus space is outline unled = regions_of_part s records [] bus space is outline.lawful record {
  each = λ r has. absurd (in_nil r has);
  all = λ r has on. absurd (outline.led r has (subst (IsUnled records roots) (sym on) unled));
  rising = pairs_nil (λ r q. slot_number r.slot < slot_number q.slot);
}
