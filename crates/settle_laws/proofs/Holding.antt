-- A part holds by what is on the bus behind it, which is a higher one, and stays by the window over it.
use Rattle.std.proofs.Common.{◌≡◌, ℕ, zero, suc, ◌+◌, ◌<◌, ◌≤◌, inl, inr, List, [], ◌∷◌, ◌++◌, map, Bool, true, false, cond, ◌&&◌, not, arith, sym, ◌∙◌, ap, refl}
use Rattle.std.specs.List.{Contains, filter, flat_map, list_all}
use Rattle.std.proofs.lemmas.Bool.{cases_Bool, and_parts}
use Rattle.pci_spec.specs.Window.{WindowKind}
use Rattle.pci_spec.specs.System.{System, Function, Part, Bar, Rom, Window, IsSystem, is_bridge, is_window, window_space}
use Rattle.pci_spec.specs.Bus.{is_root, are_siblings, secondary, IsNested, LeadsTo}
use Rattle.pci_spec.proofs.BusRanges.{root_means}
use Rattle.pci_spec.proofs.Members.{in_head, in_tail, in_map_to, in_filter_to, IsMade}
use Rattle.plan_spec.specs.Plan.{is_open, bridges_above, same_class}
use Rattle.plan_spec.proofs.Planning.AboveBuses.{all_above, all_above_root}
use Rattle.plan_spec.proofs.Planning.PlacedItems.{same_class_is}
use Rattle.plan_spec.proofs.Planning.Safe.{slots_of, order_of}
use Rattle.settle_spec.specs.Lines.{lines_on, taken_for}
use Rattle.settle_spec.specs.Lists.{Request}
use Rattle.settle_spec.specs.Parts.{FunctionPart, system_parts, function_parts, parts_of, header_parts, is_part, addresses, class_in, are_same_space}
use Rattle.settle_spec.specs.Stands.{window_part, part_space, stands}
use Rattle.settle_spec.specs.Items.{PlacingItem, in_turn, own_item, is_own, has_of, items_of, bus_items, new_window, taken_on, are_placed, has_places, has_room, holds_within, has_room_behind, stays, place_each, place_in}
use Rattle.settle_spec.proofs.Nested.{on_it}
use Rattle.settle_laws.specs.Holding.{TellsRoom}
use Rattle.settle_laws.proofs.Standing.{part_of, in_header, stands_by_itself}

-- ---- lists by what is in them

filter_same : {X : Type 0} (p r : X → Bool) (xs : List X) → ((x : X) → Contains xs x → p x ≡ r x) → filter p xs ≡ filter r xs
filter_same p r [] same = refl
filter_same p r (x ∷ xs) same =
    ap (λ b. cond b (x ∷ filter p xs) (filter p xs)) (same x (in_head x xs))
    ∙ ap (λ ys. cond (r x) (x ∷ ys) ys) (filter_same p r xs (λ y listed. same y (in_tail x xs y listed)))

pub pieces_same : {X Y : Type 0} (f g : X → List Y) (xs : List X) → ((x : X) → Contains xs x → f x ≡ g x) → flat_map f xs ≡ flat_map g xs
pieces_same f g [] same = refl
pieces_same f g (x ∷ xs) same =
    ap (λ ys. ys ++ flat_map f xs) (same x (in_head x xs)) ∙ ap (λ ys. g x ++ ys) (pieces_same f g xs (λ y listed. same y (in_tail x xs y listed)))

module _ (q : Request) (s : System) where
  pub holds_step : (depth : ℕ) (r : FunctionPart) → holds_within q s (suc depth) r ≡ (stands q s r && has_room q s (holds_within q s depth) r.function r.part)
  unfolding holds_within
  holds_step depth r = refl

  -- ---- room is told by what is on the bus behind

  module _ (test other : FunctionPart → Bool) (bus : ℕ) (c : WindowKind) (same : (t : FunctionPart) → Contains s t.function → Contains (header_parts t.function) t.part → are_siblings q.roots bus t.function.slot.bus ≡ true → class_in q s t.function t.part ≡ c → test t ≡ other t) where
    -- tests that agree on what is of a class on a bus leave the same items of it there
    own_same : (f : Function) → Contains s f → are_siblings q.roots bus f.slot.bus ≡ true → filter (λ r. is_own q s c r && not (test r)) (function_parts q s f) ≡ filter (λ r. is_own q s c r && not (other r)) (function_parts q s f)
    own_same f listed beside =
        filter_same (λ r. is_own q s c r && not (test r)) (λ r. is_own q s c r && not (other r)) (function_parts q s f) (λ t has.
        let made : IsMade (λ p. record { function = f; part = p }) (parts_of q s f) t = in_map_to (λ p. record { function = f; part = p }) (parts_of q s f) t has in
        ap (λ x. is_own q s c x && not (test x)) (sym made.is)
        ∙ of_part made.from (in_filter_to (is_part q s f) (header_parts f) made.from made.has).0
        ∙ ap (λ x. is_own q s c x && not (other x)) made.is)
      where
        of_part : (p : Part) → Contains (header_parts f) p → (is_own q s c (record { function = f; part = p }) && not (test (record { function = f; part = p }))) ≡ (is_own q s c (record { function = f; part = p }) && not (other (record { function = f; part = p })))
        of_part p there = elim (cases_Bool (is_own q s c (record { function = f; part = p }))) [
          | inl own ↦
              let class = same_class_is c (class_in q s f p) (and_parts (not (is_window p)) (same_class c (class_in q s f p)) own).1 in
              ap (λ b. is_own q s c (record { function = f; part = p }) && not b) (same (record { function = f; part = p }) listed there beside class)
          | inr off ↦ ap (λ b. b && not (test (record { function = f; part = p }))) off ∙ sym (ap (λ b. b && not (other (record { function = f; part = p }))) off)
        ]

    abbrev window_item : Function → Bool → List PlacingItem
    window_item f kept = cond (is_bridge f && has_of q s c f && not kept) (record { region = window_part c f; class = c; extent = new_window q s c f } ∷ []) []

    pub items_same_on : bus_items q s c test (new_window q s c) bus ≡ bus_items q s c other (new_window q s c) bus
    items_same_on =
        ap in_turn (pieces_same (λ f. cond (are_siblings q.roots bus f.slot.bus) (items_of q s c test (new_window q s c) f) []) (λ f. cond (are_siblings q.roots bus f.slot.bus) (items_of q s c other (new_window q s c) f) []) s of_function)
      where
        of_function : (f : Function) → Contains s f → cond (are_siblings q.roots bus f.slot.bus) (items_of q s c test (new_window q s c) f) [] ≡ cond (are_siblings q.roots bus f.slot.bus) (items_of q s c other (new_window q s c) f) []
        of_function f listed = elim (cases_Bool (are_siblings q.roots bus f.slot.bus)) [
          | inl beside ↦
              ap (λ b. cond b (items_of q s c test (new_window q s c) f) []) beside
              ∙ ap (λ rs. map (own_item c) rs ++ window_item f (test (window_part c f))) (own_same f listed beside)
              ∙ ap (λ b. map (own_item c) (filter (λ r. is_own q s c r && not (other r)) (function_parts q s f)) ++ window_item f b) (same (window_part c f) listed (in_header q s f c) beside refl)
              ∙ sym (ap (λ b. cond b (items_of q s c other (new_window q s c) f) []) beside)
          | inr apart ↦
              ap (λ b. cond b (items_of q s c test (new_window q s c) f) []) apart
              ∙ sym (ap (λ b. cond b (items_of q s c other (new_window q s c) f) []) apart)
        ]

  -- and so do tests that agree on all of a class
  pub items_same : (test other : FunctionPart → Bool) (bus : ℕ) (c : WindowKind) → ((t : FunctionPart) → Contains s t.function → are_siblings q.roots bus t.function.slot.bus ≡ true → class_in q s t.function t.part ≡ c → test t ≡ other t)
      → bus_items q s c test (new_window q s c) bus ≡ bus_items q s c other (new_window q s c) bus
  items_same test other bus c same = items_same_on test other bus c (λ t listed there beside class. same t listed beside class)

  module _ (test other : FunctionPart → Bool) (bus : ℕ) (same : (t : FunctionPart) → Contains s t.function → are_siblings q.roots bus t.function.slot.bus ≡ true → test t ≡ other t) where
    -- tests that agree on a bus keep the same there
    kept_same : (on : Bool) (t : FunctionPart) → are_siblings q.roots bus t.function.slot.bus ≡ on → Contains s t.function → (space : Bool) → (on && space && test t) ≡ (on && space && other t)
    kept_same true t beside listed space = ap (λ b. space && b) (same t listed beside)
    kept_same false t apart listed space = refl

    taken_same : (c : WindowKind) → taken_on q s c test bus ≡ taken_on q s c other bus
    taken_same c =
        ap (λ rs. lines_on q (window_space c) bus ++ map addresses rs) (filter_same
        (λ r. are_siblings q.roots bus r.function.slot.bus && are_same_space (window_space c) (part_space r) && test r)
        (λ r. are_siblings q.roots bus r.function.slot.bus && are_same_space (window_space c) (part_space r) && other r) (system_parts q s)
        (λ t has. kept_same (are_siblings q.roots bus t.function.slot.bus) t refl (part_of q s t has).listed (are_same_space (window_space c) (part_space t))))

    places_same : (b : Function) (c : WindowKind) → secondary b ≡ bus → has_places q s test b c ≡ has_places q s other b c
    places_same b c behind =
        ap (λ n. are_placed (place_each (λ i taken. place_in (addresses (window_part c b)) i (taken_for q i.region taken)) (taken_on q s c test n) (bus_items q s c test (new_window q s c) n))) behind
        ∙ ap (λ xs. are_placed (place_each (λ i taken. place_in (addresses (window_part c b)) i (taken_for q i.region taken)) xs (bus_items q s c test (new_window q s c) bus))) (taken_same c)
        ∙ ap (λ xs. are_placed (place_each (λ i taken. place_in (addresses (window_part c b)) i (taken_for q i.region taken)) (taken_on q s c other bus) xs)) (items_same test other bus c (λ t listed beside class. same t listed beside))
        ∙ sym (ap (λ n. are_placed (place_each (λ i taken. place_in (addresses (window_part c b)) i (taken_for q i.region taken)) (taken_on q s c other n) (bus_items q s c other (new_window q s c) n))) behind)

  module _ (system : IsSystem s) (nested : IsNested q.roots s) where
    -- so what stands holds by what is on a higher bus
    room_same : (test other : FunctionPart → Bool) (f : Function) (p : Part) → Contains s f → stands q s (record { function = f; part = p }) ≡ true → ((t : FunctionPart) → Contains s t.function → f.slot.bus < t.function.slot.bus → test t ≡ other t)
        → has_room q s test f p ≡ has_room q s other f p
    room_same test other f (Bar n) listed is same = refl
    room_same test other f Rom listed is same = refl
    room_same test other f (Window c) listed is same =
        let opens : is_open f c ≡ true = (stands_by_itself q s nested).only (record { function = f; part = Window c }) listed is in
        let bridge = bridge_of f c opens in
        places_same test other (secondary f) (λ t in_t beside.
        let there = on_it q.roots s system nested f t.function.slot.bus listed bridge beside in
        let up = order_of q.roots s nested f listed bridge in
        same t in_t (omega (arith, up, there))) f c refl
      where
        bridge_of : (g : Function) (k : WindowKind) → is_open g k ≡ true → is_bridge g ≡ true
        bridge_of g k opens = (and_parts (is_bridge g) _ (and_parts _ _ opens).0).0

    pub both_same : (test other : FunctionPart → Bool) (r : FunctionPart) → Contains s r.function → ((t : FunctionPart) → Contains s t.function → r.function.slot.bus < t.function.slot.bus → test t ≡ other t)
        → (stands q s r && has_room q s test r.function r.part) ≡ (stands q s r && has_room q s other r.function r.part)
    both_same test other r listed same = elim (cases_Bool (stands q s r)) [
      | inl is ↦ ap (λ b. stands q s r && b) (room_same test other r.function r.part listed is same)
      | inr off ↦ ap (λ b. b && has_room q s test r.function r.part) off ∙ sym (ap (λ b. b && has_room q s other r.function r.part) off)
    ]

    enough : (d e : ℕ) (r : FunctionPart) → Contains s r.function → 256 ≤ r.function.slot.bus + d → 256 ≤ r.function.slot.bus + e → holds_within q s d r ≡ holds_within q s e r
    enough zero e r listed hd he = absurd (let low = (slots_of s system r.function listed).0 in let no : ⊥ = omega (arith, low, hd) in no)
    enough (suc d) zero r listed hd he = absurd (let low = (slots_of s system r.function listed).0 in let no : ⊥ = omega (arith, low, he) in no)
    enough (suc d) (suc e) r listed hd he =
        holds_step d r
        ∙ both_same (holds_within q s d) (holds_within q s e) r listed (λ t in_t up. enough d e t in_t (omega (arith, hd, up)) (omega (arith, he, up)))
        ∙ sym (holds_step e r)

    pub holds_by_bus : TellsRoom q s (has_room_behind q s)
    holds_by_bus r listed =
        holds_step 255 r
        ∙ both_same (holds_within q s 255) (holds_within q s 256) r listed (λ t in_t up. enough 255 256 t in_t (omega (arith, up)) (omega (arith, up)))

    module _ (test : FunctionPart → Bool) (holding : TellsRoom q s test) where
      as_within : (d : ℕ) (r : FunctionPart) → Contains s r.function → 256 ≤ r.function.slot.bus + d → test r ≡ holds_within q s d r
      as_within zero r listed high = absurd (let low = (slots_of s system r.function listed).0 in let no : ⊥ = omega (arith, low, high) in no)
      as_within (suc d) r listed high =
          holding r listed
          ∙ both_same test (holds_within q s d) r listed (λ t in_t up. as_within d t in_t (omega (arith, high, up)))
          ∙ sym (holds_step d r)

      pub holds_alone : (r : FunctionPart) → Contains s r.function → test r ≡ has_room_behind q s r
      holds_alone r listed = as_within 256 r listed (omega arith)

    -- ---- what stays

    pub stays_on_root : (r : FunctionPart) → is_root q.roots r.function.slot.bus ≡ true → stays q s r ≡ has_room_behind q s r
    stays_on_root r root =
        let above = λ (b : Function). has_room_behind q s (window_part (class_in q s r.function r.part) b) in
        ap (λ b. has_room_behind q s r && b) (all_above_root q.roots s system nested above r.function.slot.bus ((root_means q.roots r.function.slot.bus).0 root)) ∙ with_true (has_room_behind q s r)
      where
        with_true : (b : Bool) → (b && true) ≡ b
        with_true true = refl
        with_true false = refl

    pub stays_by_bus : (r : FunctionPart) (b : Function) → LeadsTo s b r.function.slot.bus → stays q s r ≡ (has_room_behind q s r && stays q s (window_part (class_in q s r.function r.part) b))
    stays_by_bus r b (listed, bridge, to) =
        let above = λ (d : Function). has_room_behind q s (window_part (class_in q s r.function r.part) d) in
        ap (λ x. has_room_behind q s r && x) (
        ap (λ n. list_all above (bridges_above s n)) (sym to)
        ∙ all_above q.roots s system nested above b listed bridge
        ∙ and_swap (list_all above (bridges_above s b.slot.bus)) (above b))
      where
        and_swap : (x y : Bool) → (x && y) ≡ (y && x)
        and_swap true true = refl
        and_swap true false = refl
        and_swap false true = refl
        and_swap false false = refl
