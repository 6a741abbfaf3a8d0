-- What lacks a place is a part of a function of the system, and how the code names it.
use Rattle.std.proofs.Common.{◌≡◌, ℕ, zero, suc, ◌<◌, ◌≤◌, ◌⊎◌, inl, inr, List, [], ◌∷◌, length, get_or, Bool, true, false, arith, refl, sym, ◌∙◌, ap, subst, Option, None, Some}
use Rattle.std.specs.Bool.{◌==◌, if◌then◌else◌}
use Rattle.std.specs.Option.{is_some}
use Rattle.std.specs.List.{Contains, slice_get}
use Rattle.std.proofs.lemmas.Bool.{cases_lt, ltb-true}
use Rattle.std.proofs.lemmas.List.Elements.{All-contains}
use Rattle.std.proofs.lemmas.Option.{get_or_from_slice_get}
use Rattle.pci_spec.specs.Slot.{Slot}
use Rattle.pci_spec.specs.Header.{layout, bar_count, rom_place}
use Rattle.pci_spec.specs.Decoded.{Range}
use Rattle.pci_spec.specs.System.{System, Function, Space, Io, Memory, IsFunction, IsSystem, is_bridge, has_part, register_of}
use Rattle.settle_spec.specs.Lines.{taken_for}
use Rattle.settle_spec.specs.Lists.{Request}
use Rattle.settle_spec.specs.Items.{PlacingItem, Placing, AllPlaced, Lacks, and_placed, place_next, taken_by, place_each}
use Rattle.settle_spec.specs.Places.{placed_of, first_lack}
use Rattle.settle_spec.specs.Kept.{Kept}
use Rattle.settle_spec.specs.Keeping.Places.{space_items, taken_at, place_of_item, placing_within, placing_on, lacking_on, lacking}
use Rattle.settle_spec.specs.Writes.{Settling, NoRoom, or_lack}
use Rattle.settle_laws.proofs.Keeping.Buses.{of_space, placing_step}
use Rattle.pci_spec.proofs.Members.{in_head, in_tail}
use Rattle.pci_base.specs.WindowKinds.{kind_value}
use Rattle.pci_function.specs.declared.record.Record.{Record}
use Rattle.pci_tree.proofs.Lifting.{same_bridge, same_slot_of}
use Rattle.pci_place.specs.Items.{no_function, function_in}
use Rattle.pci_place.specs.Records.{IsRecordInSystem}
use Rattle.pci_first_fit.specs.declared.item.Part.{Part as CodePart}
use Rattle.pci_first_fit.specs.declared.item.Part.TheVariants as parts
use Rattle.pci_first_fit.specs.Own.{class_part}
use Rattle.pci_settle_places.specs.declared.candidate.Candidate.{Candidate}
use Rattle.pci_settle_places.specs.Candidates.{candidate_value}
use Rattle.pci_settle_places.specs.Places.{IsPlacesPart}
use Rattle.pci_settle_places.proofs.Parts.{real_in}
use Rattle.pci_settle.specs.Lacks.{part_register, lack_by, no_room}

-- ---- what lacks a place is one of the items

lacks_if : (i j : PlacingItem) (a : ℕ) (items : List PlacingItem) (rest : Placing) → (rest ≡ Lacks j → Contains items j) → and_placed i a rest ≡ Lacks j → Contains (i ∷ items) j
lacks_if i j a items (AllPlaced placed) of e = absurd (let no : ⊥ = cc in no)
lacks_if i j a items (Lacks k) of e = in_tail i items j (of e)

lacks_next : (i j : PlacingItem) (o : Option ℕ) (items : List PlacingItem) (rest : ℕ → Placing) → ((a : ℕ) → rest a ≡ Lacks j → Contains items j) → place_next i o rest ≡ Lacks j → Contains (i ∷ items) j
lacks_next i j None items rest of e = let same : i ≡ j = cc in subst (λ x. Contains (i ∷ items) x) same (in_head i items)
lacks_next i j (Some a) items rest of e = lacks_if i j a items (rest a) (of a) e

lacks_in : (find : PlacingItem → List Range → Option ℕ) (taken : List Range) (items : List PlacingItem) (j : PlacingItem) → place_each find taken items ≡ Lacks j → Contains items j
lacks_in find taken [] j e = absurd (let no : ⊥ = cc in no)
lacks_in find taken (i ∷ items) j e =
    lacks_next i j (find i taken) items (λ a. place_each find (taken_by i a ∷ taken) items)
    (λ a. lacks_in find (taken_by i a ∷ taken) items j) e

-- an item of a bus in a space
pub record IsItem (q : Request) (s : System) (keep : Kept) (i : PlacingItem) : Type 0 where
  pub space : Space
  pub bus : ℕ
  pub has : Contains (space_items q s keep space bus) i

pub first_cases : (p : Placing) (other : Option PlacingItem) (i : PlacingItem) → first_lack p other ≡ Some i → (p ≡ Lacks i) ⊎ (other ≡ Some i)
first_cases (AllPlaced placed) other i e = inr e
first_cases (Lacks j) other i e = inl cc

module _ (q : Request) (s : System) (keep : Kept) where
  pub space_has : (space : Space) (bus : ℕ) (i : PlacingItem) → placing_on q s keep space bus ≡ Lacks i → Contains (space_items q s keep space bus) i
  space_has space bus i e =
      lacks_in (λ x xs. place_of_item q s keep (λ over. placed_of (placing_within q s keep space 255 over)) x (taken_for q x.region xs)) (taken_at q s keep space bus) (space_items q s keep space bus) i
      (sym (placing_step q s keep space 255 bus) ∙ e)

  on_bus : (space : Space) (bus : ℕ) (i : PlacingItem) → placing_on q s keep space bus ≡ Lacks i → IsItem q s keep i
  on_bus space bus i e = record { space = space; bus = bus; has = space_has space bus i e }

  on_roots : (roots : List ℕ) (i : PlacingItem) → lacking_on q s keep roots ≡ Some i → IsItem q s keep i
  on_roots [] i e = absurd (let no : ⊥ = cc in no)
  on_roots (root ∷ roots) i e = elim (first_cases (placing_on q s keep Io root) (first_lack (placing_on q s keep Memory root) None) i e) [
    | inl io ↦ on_bus Io root i io
    | inr rest ↦ elim (first_cases (placing_on q s keep Memory root) None i rest) [
      | inl memory ↦ on_bus Memory root i memory
      | inr none ↦ absurd (let no : ⊥ = cc in no)
    ]
  ]

  lack_is_item : (i : PlacingItem) → lacking q s keep ≡ Some i → IsItem q s keep i
  lack_is_item i e = on_roots q.roots i e

-- ---- it is of a function, and one of its parts

few_by : (b : Bool) → (if b then 2 else 6) ≤ 6
few_by true = omega arith
few_by false = omega arith

past : (s : System) (k : ℕ) → length s ≤ k → get_or s k no_function ≡ no_function
past [] k over = refl
past (f ∷ s) zero over = absurd (let no : ⊥ = omega (arith, over) in no)
past (f ∷ s) (suc k) over = past s k (omega (arith, over))

within_by : (s : System) → IsSystem s → (k : ℕ) → Contains s (function_in s k) → k < length s
within_by s system k listed = elim (cases_lt k (length s)) [
  | inl within ↦ within
  | inr over ↦
      let full = (All-contains IsFunction s (function_in s k) system.each listed).image.full in
      let none = ap (λ (f : Function). length f.image) (past s k over) in
      absurd (let no : ⊥ = omega (arith, full, none) in no)
]

module _ (s : System) (system : IsSystem s) (x : Candidate) where
  abbrev f : Function
  f = function_in s x.item.function

  part_by : (part : CodePart) → has_part f (class_part (kind_value x.class) part) ≡ true → IsPlacesPart part
  part_by (parts.Bar n) there =
      let low = ltb-true n (bar_count (layout f.image)) there in
      let few = few_by (layout f.image == 1) in
      omega (arith, low, few)
  part_by parts.Rom there = tt
  part_by parts.Window there = tt

  pub lack_named : (q : Request) (keep : Kept) → lacking q s keep ≡ Some (candidate_value s x) → (x.item.function < length s) × IsPlacesPart x.item.part
  lack_named q keep e =
      let item = lack_is_item q s keep (candidate_value s x) e in
      let listed = (of_space q s keep item.space item.bus (candidate_value s x) item.has).listed in
      let real = real_in q s keep item.space item.bus (candidate_value s x) item.has in
      (within_by s system x.item.function listed, part_by x.item.part real.there)

-- ---- how it is named

register_by : (f : Function) (r : Record) (bridge : is_some r.bridge ≡ is_bridge f) (x : Candidate) (part : CodePart)
    → register_of f (class_part (kind_value x.class) part) ≡ part_register (is_some r.bridge) (kind_value x.class) part
register_by f r bridge x (parts.Bar n) = refl
register_by f r bridge x parts.Rom = sym (ap rom_place bridge)
register_by f r bridge x parts.Window = refl

pub lack_is : (s : System) (x : Candidate) (f : Function) (r : Record) → slice_get s x.item.function ≡ Some f → IsRecordInSystem s f r → (other : Settling) → or_lack (Some (candidate_value s x)) other ≡ no_room (lack_by r x)
lack_is s x f r at is other =
    let c = kind_value x.class in
    let here : function_in s x.item.function ≡ f = get_or_from_slice_get s x.item.function f no_function at in
    let slot : f.slot ≡ r.slot = sym (same_slot_of r f is.value) in
    let register = register_by f r (same_bridge r f is.value) x x.item.part in
    ap (λ (g : Function). NoRoom c g.slot (register_of g (class_part c x.item.part)) x.item.extent.size x.item.extent.alignment) here
    ∙ ap (λ (t : Slot). NoRoom c t (register_of f (class_part c x.item.part)) x.item.extent.size x.item.extent.alignment) slot
    ∙ ap (λ (n : ℕ). NoRoom c r.slot n x.item.extent.size x.item.extent.alignment) register
