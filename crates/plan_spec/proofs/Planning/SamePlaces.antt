-- A system whose functions were moved has the same places.
use Rattle.std.proofs.Common.{◌≡◌, ℕ, zero, suc, ◌+◌, inl, inr, List, [], ◌∷◌, ◌++◌, refl, Bool, true, false, cond, ◌&&◌, ◌||◌, Option, Some, sym, ◌∙◌, ap, subst, map}
use Rattle.std.specs.Bool.{nat_lt, ◌==◌, if◌then◌else◌}
use Rattle.std.specs.List.{Contains, AllZip, filter, flat_map, find, range_with_len, sum}
use Rattle.pci_spec.specs.Header.{layout, bar_count}
use Rattle.std.proofs.lemmas.Bool.{and_parts, cases_Bool, both_ways}
use Rattle.std.proofs.lemmas.List.Elements.{All-contains}
use Rattle.pci_spec.specs.Slot.{Slot, slot_number}
use Rattle.pci_spec.specs.Window.{WindowKind}
use Rattle.pci_spec.specs.System.{System, Function, IsSystem, IsFunction, Part, Bar, Rom, register_of, is_bridge, is_implemented}
use Rattle.pci_spec.specs.Bus.{secondary, is_root, are_siblings}
use Rattle.plan_spec.specs.Plan.{Pools, IsMoved, pool_of, class_of, same_class, window_size, need_of, greatest, raised_to, has_behind}
use Rattle.plan_spec.specs.Place.{Item, part_item, window_item, items_among, own_items, items_beside, comes_before, place_from, start_of_roots, behind_window, start_within, start_of, place_of}
use Rattle.pci_spec.proofs.Members.{in_head, in_tail}
use Rattle.plan_spec.proofs.Planning.Moved.{layout_same, bridge_same, secondary_same}
use Rattle.plan_spec.proofs.Planning.Classes.{class_stays}
use Rattle.plan_spec.proofs.Planning.Planned.{filter_same, implemented_same, has_behind_same}
use Rattle.plan_spec.proofs.Planning.Tables.{register_same}
use Rattle.plan_spec.proofs.Planning.SameNeeds.{size_stays, need_stays}

-- two items that are placed alike
pub record IsSameItem (i j : Item) : Type 0 where
  pub slot : j.function.slot ≡ i.function.slot
  pub register : register_of j.function j.part ≡ register_of i.function i.part
  pub size : j.size ≡ i.size

-- ---- lists of items

zip_append : (xs ys us vs : List Item) → AllZip IsSameItem xs ys → AllZip IsSameItem us vs → AllZip IsSameItem (xs ++ us) (ys ++ vs)
zip_append [] [] us vs pairs more = more
zip_append [] (y ∷ ys) us vs pairs more = absurd pairs
zip_append (x ∷ xs) [] us vs pairs more = absurd pairs
zip_append (x ∷ xs) (y ∷ ys) us vs (first, rest) more = (first, zip_append xs ys us vs rest more)

zip_flat_map : (R : Function → Function → Type 0) (F G : Function → List Item) (xs ys : List Function) → ((f g : Function) → Contains xs f → R f g → AllZip IsSameItem (F f) (G g))
    → AllZip R xs ys → AllZip IsSameItem (flat_map F xs) (flat_map G ys)
zip_flat_map R F G [] [] step pairs = tt
zip_flat_map R F G [] (y ∷ ys) step pairs = absurd pairs
zip_flat_map R F G (x ∷ xs) [] step pairs = absurd pairs
zip_flat_map R F G (x ∷ xs) (y ∷ ys) step (first, rest) =
    zip_append (F x) (G y) (flat_map F xs) (flat_map G ys) (step x y (in_head x xs) first) (zip_flat_map R F G xs ys (λ f g listed. step f g (in_tail x xs f listed)) rest)

zip_parts : (F G : Part → Item) (parts : List Part) → ((part : Part) → IsSameItem (F part) (G part)) → AllZip IsSameItem (map F parts) (map G parts)
zip_parts F G [] same = tt
zip_parts F G (part ∷ parts) same = (same part, zip_parts F G parts same)

zip_choice : (a b : Bool) (xs ys : List Item) → b ≡ a → (a ≡ true → AllZip IsSameItem xs ys) → AllZip IsSameItem (if a then xs else []) (if b then ys else [])
zip_choice true true xs ys e step = step refl
zip_choice false false xs ys e step = tt
zip_choice true false xs ys e step = absurd (both_ways false refl e)
zip_choice false true xs ys e step = absurd (both_ways false refl (sym e))

-- which comes first is told by slots, registers and sizes
before_same : (i j k l : Item) → IsSameItem i j → IsSameItem k l → comes_before j l ≡ comes_before i k
before_same i j k l e d =
    ap (λ n. nat_lt l.size n || (n == l.size && (nat_lt (slot_number j.function.slot) (slot_number l.function.slot) || (slot_number j.function.slot == slot_number l.function.slot && nat_lt (register_of j.function j.part) (register_of l.function l.part))))) e.size
    ∙ ap (λ n. nat_lt n i.size || (i.size == n && (nat_lt (slot_number j.function.slot) (slot_number l.function.slot) || (slot_number j.function.slot == slot_number l.function.slot && nat_lt (register_of j.function j.part) (register_of l.function l.part))))) d.size
    ∙ ap (λ x. nat_lt k.size i.size || (i.size == k.size && (nat_lt (slot_number x) (slot_number l.function.slot) || (slot_number x == slot_number l.function.slot && nat_lt (register_of j.function j.part) (register_of l.function l.part))))) e.slot
    ∙ ap (λ x. nat_lt k.size i.size || (i.size == k.size && (nat_lt (slot_number i.function.slot) (slot_number x) || (slot_number i.function.slot == slot_number x && nat_lt (register_of j.function j.part) (register_of l.function l.part))))) d.slot
    ∙ ap (λ r. nat_lt k.size i.size || (i.size == k.size && (nat_lt (slot_number i.function.slot) (slot_number k.function.slot) || (slot_number i.function.slot == slot_number k.function.slot && nat_lt r (register_of l.function l.part))))) e.register
    ∙ ap (λ r. nat_lt k.size i.size || (i.size == k.size && (nat_lt (slot_number i.function.slot) (slot_number k.function.slot) || (slot_number i.function.slot == slot_number k.function.slot && nat_lt (register_of i.function i.part) r)))) d.register

abbrev size_of_item : Item → ℕ
size_of_item i = i.size

kept_step : (a b : Bool) (x y : Item) (xs ys : List Item) → b ≡ a → y.size ≡ x.size → map size_of_item ys ≡ map size_of_item xs
    → map size_of_item (cond b (y ∷ ys) ys) ≡ map size_of_item (cond a (x ∷ xs) xs)
kept_step true true x y xs ys e size rest = ap (λ n. n ∷ map size_of_item ys) size ∙ ap (λ sizes. x.size ∷ sizes) rest
kept_step false false x y xs ys e size rest = rest
kept_step true false x y xs ys e size rest = absurd (both_ways false refl e)
kept_step false true x y xs ys e size rest = absurd (both_ways false refl (sym e))

kept_sizes : (P Q : Item → Bool) (xs ys : List Item) → ((i j : Item) → IsSameItem i j → Q j ≡ P i) → AllZip IsSameItem xs ys → map size_of_item (filter Q ys) ≡ map size_of_item (filter P xs)
kept_sizes P Q [] [] test pairs = refl
kept_sizes P Q [] (y ∷ ys) test pairs = absurd pairs
kept_sizes P Q (x ∷ xs) [] test pairs = absurd pairs
kept_sizes P Q (x ∷ xs) (y ∷ ys) test (first, rest) = kept_step (P x) (Q y) x y (filter P xs) (filter Q ys) (test x y first) first.size (kept_sizes P Q xs ys test rest)

all_sizes : (xs ys : List Item) → AllZip IsSameItem xs ys → map size_of_item ys ≡ map size_of_item xs
all_sizes [] [] pairs = refl
all_sizes [] (y ∷ ys) pairs = absurd pairs
all_sizes (x ∷ xs) [] pairs = absurd pairs
all_sizes (x ∷ xs) (y ∷ ys) (first, rest) = ap (λ n. n ∷ map size_of_item ys) first.size ∙ ap (λ sizes. x.size ∷ sizes) (all_sizes xs ys rest)

-- behind the same items is the same place
place_from_same : (start : ℕ) (xs ys : List Item) (i j : Item) → AllZip IsSameItem xs ys → IsSameItem i j → place_from start ys j ≡ place_from start xs i
place_from_same start xs ys i j pairs same =
    ap (λ sizes. start + sum sizes) (kept_sizes (λ k. comes_before k i) (λ k. comes_before k j) xs ys (λ k l e. before_same k l i j e same) pairs)

find_step : (a b : Bool) (F G : Function → ℕ) (start : ℕ) (f g : Function) (x y : Option Function) → b ≡ a → (a ≡ true → G g ≡ F f) → behind_window G start y ≡ behind_window F start x
    → behind_window G start (cond b (Some g) y) ≡ behind_window F start (cond a (Some f) x)
find_step true true F G start f g x y e first rest = first refl
find_step false false F G start f g x y e first rest = rest
find_step true false F G start f g x y e first rest = absurd (both_ways false refl e)
find_step false true F G start f g x y e first rest = absurd (both_ways false refl (sym e))

-- what is found first in two systems stands at one place
zip_find : (P Q : Function → Bool) (F G : Function → ℕ) (start : ℕ) (xs ys : System) → ((f g : Function) → Contains xs f → IsMoved f g → Q g ≡ P f)
    → ((f g : Function) → Contains xs f → IsMoved f g → P f ≡ true → G g ≡ F f) → AllZip IsMoved xs ys → behind_window G start (find Q ys) ≡ behind_window F start (find P xs)
zip_find P Q F G start [] [] test place pairs = refl
zip_find P Q F G start [] (y ∷ ys) test place pairs = absurd pairs
zip_find P Q F G start (x ∷ xs) [] test place pairs = absurd pairs
zip_find P Q F G start (x ∷ xs) (y ∷ ys) test place (first, rest) =
    find_step (P x) (Q y) F G start x y (find P xs) (find Q ys) (test x y (in_head x xs) first) (place x y (in_head x xs) first)
    (zip_find P Q F G start xs ys (λ f g listed. test f g (in_tail x xs f listed)) (λ f g listed. place f g (in_tail x xs f listed)) rest)

-- ---- a system

module _ (s t : System) (system : IsSystem s) (pairs : AllZip IsMoved s t) (pools : Pools) (c : WindowKind) where
  function_is : (f : Function) → Contains s f → IsFunction f
  function_is f listed = All-contains IsFunction s f system.each listed

  pub part_same : (f g : Function) → Contains s f → IsMoved f g → (part : Part) → IsSameItem (part_item f part) (part_item g part)
  part_same f g listed m part = record {
    slot = m.slot;
    register = register_same f g part (layout_same f g m (function_is f listed).image);
    size = size_stays s t system pairs pools c f g listed m part;
  }

  pub window_same : (f g : Function) → Contains s f → IsMoved f g → is_bridge f ≡ true → IsSameItem (window_item s pools c f) (window_item t pools c g)
  window_same f g listed m bridge = record {
    slot = m.slot;
    register = refl;
    size = ap (window_size c) (ap (need_of t pools c) (secondary_same f g m (function_is f listed).image bridge) ∙ need_stays s t system pairs pools c (secondary f));
  }

  bridge_test : (f g : Function) → Contains s f → IsMoved f g → (is_bridge g && has_behind t pools c g) ≡ (is_bridge f && has_behind s pools c f)
  bridge_test f g listed m =
      ap (λ b. b && has_behind t pools c g) (bridge_same f g m (function_is f listed).image)
      ∙ elim (cases_Bool (is_bridge f)) [
        | inl bridge ↦ ap (λ b. is_bridge f && b) (has_behind_same s t system pairs pools c f g listed m bridge)
        | inr device ↦ ap (λ b. b && has_behind t pools c g) device ∙ sym (ap (λ b. b && has_behind s pools c f) device)
      ]

  -- the items among some parts
  among_same : (f g : Function) → Contains s f → IsMoved f g → (parts : List Part) → AllZip IsSameItem (items_among s pools c f parts) (items_among t pools c g parts)
  among_same f g listed m parts =
      let of_f : Part → Bool = λ part. same_class c (class_of s pools f part) in
      let of_g : Part → Bool = λ part. same_class c (class_of t pools g part) in
      let there = filter_same (is_implemented g) (is_implemented f) parts (implemented_same f g m (function_is f listed)) in
      let kept : filter of_g (filter (is_implemented g) parts) ≡ filter of_f (filter (is_implemented f) parts) =
      ap (filter of_g) there ∙ filter_same of_g of_f (filter (is_implemented f) parts) (λ part. ap (same_class c) (class_stays s t system pairs pools f g m part)) in
      subst (λ ps. AllZip IsSameItem (items_among s pools c f parts) (map (part_item g) ps)) (sym kept)
      (zip_parts (part_item f) (part_item g) (filter of_f (filter (is_implemented f) parts)) (part_same f g listed m))

  own_items_same : (f g : Function) → Contains s f → IsMoved f g → AllZip IsSameItem (own_items s pools c f) (own_items t pools c g)
  own_items_same f g listed m =
      let bars = map Bar (range_with_len 0 (bar_count (layout f.image))) in
      let window_f = if is_bridge f && has_behind s pools c f then window_item s pools c f ∷ [] else [] in
      let window_g = if is_bridge g && has_behind t pools c g then window_item t pools c g ∷ [] else [] in
      subst (λ k. AllZip IsSameItem (own_items s pools c f) (items_among t pools c g (map Bar (range_with_len 0 (bar_count k))) ++ (window_g ++ items_among t pools c g (Rom ∷ []))))
      (sym (layout_same f g m (function_is f listed).image))
      (zip_append (items_among s pools c f bars) (items_among t pools c g bars) (window_f ++ items_among s pools c f (Rom ∷ [])) (window_g ++ items_among t pools c g (Rom ∷ [])) (among_same f g listed m bars)
      (zip_append window_f window_g (items_among s pools c f (Rom ∷ [])) (items_among t pools c g (Rom ∷ []))
      (zip_choice (is_bridge f && has_behind s pools c f) (is_bridge g && has_behind t pools c g) (window_item s pools c f ∷ []) (window_item t pools c g ∷ []) (bridge_test f g listed m)
      (λ both. (window_same f g listed m (and_parts (is_bridge f) (has_behind s pools c f) both).0, tt)))
      (among_same f g listed m (Rom ∷ []))))

  module _ (roots : List ℕ) where
    items_same : (bus : ℕ) → AllZip IsSameItem (items_beside roots s pools c bus) (items_beside roots t pools c bus)
    items_same bus = zip_flat_map IsMoved (λ f. if are_siblings roots bus f.slot.bus then own_items s pools c f else []) (λ g. if are_siblings roots bus g.slot.bus then own_items t pools c g else []) s t
        (λ f g listed m. zip_choice (are_siblings roots bus f.slot.bus) (are_siblings roots bus g.slot.bus) (own_items s pools c f) (own_items t pools c g)
        (ap (λ (x : Slot). are_siblings roots bus x.bus) m.slot) (λ beside. own_items_same f g listed m)) pairs

    roots_same : (bus : ℕ) → start_of_roots roots t pools c bus ≡ start_of_roots roots s pools c bus
    roots_same bus = ap (λ sizes. raised_to (greatest sizes) (pool_of pools c).first) (all_sizes (items_beside roots s pools c bus) (items_beside roots t pools c bus) (items_same bus))

    -- ---- where each bus starts

    abbrev window_place : System → ℕ → Function → ℕ
    window_place r depth b = place_from (start_within roots r pools c depth b.slot.bus) (items_beside roots r pools c b.slot.bus) (window_item r pools c b)

    start_none : (r : System) (bus : ℕ) → start_within roots r pools c 0 bus ≡ start_of_roots roots r pools c bus
    unfolding start_within
    start_none r bus = refl

    start_step : (r : System) (depth bus : ℕ) → start_within roots r pools c (suc depth) bus
        ≡ (if is_root roots bus then start_of_roots roots r pools c bus else behind_window (window_place r depth) (start_of_roots roots r pools c bus) (find (λ b. is_bridge b && secondary b == bus) r))
    unfolding start_within
    start_step r depth bus = refl

    leads_same : (bus : ℕ) (f g : Function) → Contains s f → IsMoved f g → (is_bridge g && secondary g == bus) ≡ (is_bridge f && secondary f == bus)
    leads_same bus f g listed m =
        let is = (function_is f listed).image in
        ap (λ b. b && secondary g == bus) (bridge_same f g m is)
        ∙ elim (cases_Bool (is_bridge f)) [
          | inl bridge ↦ ap (λ n. is_bridge f && n == bus) (secondary_same f g m is bridge)
          | inr device ↦ ap (λ b. b && secondary g == bus) device ∙ sym (ap (λ b. b && secondary f == bus) device)
        ]

    window_place_same : (depth : ℕ) → ((bus : ℕ) → start_within roots t pools c depth bus ≡ start_within roots s pools c depth bus) → (f g : Function) → Contains s f → IsMoved f g → is_bridge f ≡ true
        → window_place t depth g ≡ window_place s depth f
    window_place_same depth above f g listed m bridge =
        ap (λ (x : Slot). place_from (start_within roots t pools c depth x.bus) (items_beside roots t pools c x.bus) (window_item t pools c g)) m.slot
        ∙ ap (λ start. place_from start (items_beside roots t pools c f.slot.bus) (window_item t pools c g)) (above f.slot.bus)
        ∙ place_from_same (start_within roots s pools c depth f.slot.bus) (items_beside roots s pools c f.slot.bus) (items_beside roots t pools c f.slot.bus) (window_item s pools c f) (window_item t pools c g)
        (items_same f.slot.bus) (window_same f g listed m bridge)

    start_same : (depth bus : ℕ) → start_within roots t pools c depth bus ≡ start_within roots s pools c depth bus
    start_same zero bus = start_none t bus ∙ roots_same bus ∙ sym (start_none s bus)
    start_same (suc depth) bus =
        let test = λ (b : Function). is_bridge b && secondary b == bus in
        start_step t depth bus
        ∙ ap (λ start. if is_root roots bus then start else behind_window (window_place t depth) start (find test t)) (roots_same bus)
        ∙ ap (λ place. if is_root roots bus then start_of_roots roots s pools c bus else place)
        (zip_find test test (window_place s depth) (window_place t depth) (start_of_roots roots s pools c bus) s t (leads_same bus)
        (λ f g listed m leads. window_place_same depth (start_same depth) f g listed m (and_parts (is_bridge f) (secondary f == bus) leads).0) pairs)
        ∙ sym (start_step s depth bus)

    -- items that are alike, of functions of the two systems, have one place
    pub place_same : (i j : Item) → IsSameItem i j → place_of roots t pools c j ≡ place_of roots s pools c i
    place_same i j same =
        ap (λ (x : Slot). place_from (start_of roots t pools c x.bus) (items_beside roots t pools c x.bus) j) same.slot
        ∙ ap (λ start. place_from start (items_beside roots t pools c i.function.slot.bus) j) (start_same 256 i.function.slot.bus)
        ∙ place_from_same (start_of roots s pools c i.function.slot.bus) (items_beside roots s pools c i.function.slot.bus) (items_beside roots t pools c i.function.slot.bus) i j (items_same i.function.slot.bus) same
