-- What is placed on a bus has its places noted there alone; and to which buses the bridges so far lead.
use Rattle.std.proofs.Common.{◌≡◌, ℕ, ◌+◌, ◌<◌, inl, inr, List, [], ◌∷◌, ◌++◌, length, take, Bool, true, false, cond, ◌&&◌, ◌||◌, arith, refl, sym, ◌∙◌, ap, subst, Option, None, Some}
use Rattle.std.specs.Bool.{◌==◌}
use Rattle.std.specs.List.{Contains, find, list_any, slice_get}
use Rattle.std.proofs.lemmas.Bool.{cases_Bool, or_cases, or_left, or_right, and_parts, and_from, eqb-true, eq-eqb, false_from_ne_true}
use Rattle.std.proofs.lemmas.List.{take_more, length-take, get_or-take}
use Rattle.std.proofs.lemmas.Option.{slice_get_within, slice_get-get_or, get_or_from_slice_get}
use Rattle.pci_spec.specs.System.{System, Function, Space, Part, IsSystem, is_bridge, has_part, space_of}
use Rattle.pci_spec.specs.Bus.{secondary, is_root, are_siblings, IsNested}
use Rattle.pci_spec.specs.Decoded.{Range}
use Rattle.pci_spec.proofs.Members.{in_nil, in_head, in_tail, in_cons_cases}
use Rattle.plan_spec.proofs.Planning.Behind.{any_gives, any_from}
use Rattle.plan_spec.proofs.Planning.Safe.{order_of}
use Rattle.settle_spec.specs.Lists.{Request}
use Rattle.settle_spec.specs.Stands.{rank}
use Rattle.settle_spec.specs.Items.{PlacingItem, Placed, Placing, AllPlaced, Lacks, and_placed, place_next, taken_by, place_each}
use Rattle.settle_spec.specs.Places.{placed_of, place_among}
use Rattle.settle_spec.specs.Kept.{Kept}
use Rattle.settle_spec.specs.Keeping.Places.{space_items, taken_at, placing_on}
use Rattle.settle_spec.proofs.Nested.{one_bridge, is_no_root, at_secondary}
use Rattle.settle_laws.proofs.Keeping.Buses.{of_space, placing_by_bus}
use Rattle.pci_first_fit.proofs.NewWindows.{comes_later}
use Rattle.pci_settle_places.specs.BusPlaces.{place_beside}
use Rattle.pci_settle_places.proofs.Notes.{region, one_place}
use Rattle.pci_settle_places.proofs.Parts.{rank_one, real_in}

-- ---- what is placed are the items

placed_if : (i : PlacingItem) (a : ℕ) (items : List PlacingItem) (rest : Placing) → ((p : Placed) → Contains (placed_of rest) p → Contains items p.item) → (p : Placed) → Contains (placed_of (and_placed i a rest)) p → Contains (i ∷ items) p.item
placed_if i a items (AllPlaced placed) of p listed = elim (in_cons_cases (record { item = i; at = a }) placed p listed) [
  | inl here ↦ subst (λ j. Contains (i ∷ items) j) (ap (λ (x : Placed). x.item) here) (in_head i items)
  | inr later ↦ in_tail i items p.item (of p later)
]
placed_if i a items (Lacks j) of p listed = absurd (in_nil p listed)

placed_next : (i : PlacingItem) (o : Option ℕ) (items : List PlacingItem) (rest : ℕ → Placing) → ((a : ℕ) (p : Placed) → Contains (placed_of (rest a)) p → Contains items p.item)
    → (p : Placed) → Contains (placed_of (place_next i o rest)) p → Contains (i ∷ items) p.item
placed_next i None items rest of p listed = absurd (in_nil p listed)
placed_next i (Some a) items rest of p listed = placed_if i a items (rest a) (of a) p listed

placed_in : (find : PlacingItem → List Range → Option ℕ) (taken : List Range) (items : List PlacingItem) (p : Placed) → Contains (placed_of (place_each find taken items)) p → Contains items p.item
placed_in find taken [] p listed = absurd (in_nil p listed)
placed_in find taken (i ∷ items) p listed =
    placed_next i (find i taken) items (λ a. place_each find (taken_by i a ∷ taken) items) (λ a q. placed_in find (taken_by i a ∷ taken) items q) p listed

none_found : {X : Type 0} (test : X → Bool) (xs : List X) → ((x : X) → Contains xs x → test x ≡ true → ⊥) → find test xs ≡ None
none_found test [] off = refl
none_found test (x ∷ xs) off = elim (cases_Bool (test x)) [
  | inl is ↦ absurd (off x (in_head x xs) is)
  | inr fails ↦ ap (λ b. cond b (Some x) (find test xs)) fails ∙ none_found test xs (λ y listed. off y (in_tail x xs y listed))
]

module _ (q : Request) (s : System) (keep : Kept) (system : IsSystem s) (nested : IsNested q.roots s) (space : Space) (bus : ℕ) (low : bus < 256) where
  abbrev here : List Placed
  here = placed_of (placing_on q s keep space bus)

  pub item_here : (p : Placed) → Contains here p → Contains (space_items q s keep space bus) p.item
  item_here p listed =
      placed_in (place_beside q s keep (λ over. placed_of (placing_on q s keep space over))) (taken_at q s keep space bus) (space_items q s keep space bus) p
      (subst (λ r. Contains (placed_of r) p) (placing_by_bus q s keep system nested space bus low) listed)

  is_other : (f : Function) (part : Part) → Contains s f → has_part f part ≡ true → (space_of f part ≡ space → are_siblings q.roots bus f.slot.bus ≡ true → ⊥)
      → (p : Placed) → Contains here p → (rank p.item.region == rank (region f part)) ≡ true → ⊥
  is_other f part listed there other p in_here hit =
      let item = item_here p in_here in
      let real = real_in q s keep space bus p.item item in
      let of = of_space q s keep space bus p.item item in
      let one = rank_one s system p.item.region.function f p.item.region.part part of.listed listed real.there there (eqb-true (rank p.item.region) (rank (region f part)) hit) in
      other (ap (λ g. space_of g part) (sym one.function) ∙ ap (space_of p.item.region.function) (sym one.part) ∙ real.of_space)
      (subst (λ (g : Function). are_siblings q.roots bus g.slot.bus ≡ true) one.function of.beside)

  -- what is of another space, or of another bus, isn't placed there
  pub not_here : (f : Function) (part : Part) → Contains s f → has_part f part ≡ true → (space_of f part ≡ space → are_siblings q.roots bus f.slot.bus ≡ true → ⊥) → place_among (region f part) here ≡ None
  not_here f part listed there other = none_found (λ (p : Placed). rank p.item.region == rank (region f part)) here (is_other f part listed there other)

-- ---- buses to which one of the first functions leads

abbrev pub leads : ℕ → Function → Bool
leads bus b = is_bridge b && secondary b == bus

abbrev pub reached : List ℕ → System → ℕ → ℕ → Bool
reached roots s n bus = is_root roots bus || list_any (leads bus) (take n s)

or_nothing : (a : Bool) → (a || false) ≡ a
or_nothing true = refl
or_nothing false = refl

or_all : (a : Bool) → (a || true) ≡ true
or_all true = refl
or_all false = refl

or_assoc : (a b c : Bool) → (a || (b || c)) ≡ ((a || b) || c)
or_assoc true b c = refl
or_assoc false b c = refl

any_append : {X : Type 0} (p : X → Bool) (xs ys : List X) → list_any p (xs ++ ys) ≡ (list_any p xs || list_any p ys)
any_append p [] ys = refl
any_append p (x ∷ xs) ys = ap (λ b. p x || b) (any_append p xs ys) ∙ or_assoc (p x) (list_any p xs) (list_any p ys)

module _ (roots : List ℕ) (s : System) where
  pub reached_first : (bus : ℕ) → reached roots s 0 bus ≡ is_root roots bus
  reached_first bus = or_nothing (is_root roots bus)

  pub reached_more : (n : ℕ) (f : Function) → slice_get s n ≡ Some f → (bus : ℕ) → reached roots s (n + 1) bus ≡ (reached roots s n bus || leads bus f)
  reached_more n f at bus =
      ap (λ xs. is_root roots bus || list_any (leads bus) xs) (take_more s n f (slice_get_within s n f at) ∙ ap (λ g. take n s ++ g ∷ []) (get_or_from_slice_get s n f f at))
      ∙ ap (λ b. is_root roots bus || b) (any_append (leads bus) (take n s) (f ∷ []) ∙ ap (λ b. list_any (leads bus) (take n s) || b) (or_nothing (leads bus f)))
      ∙ or_assoc (is_root roots bus) (list_any (leads bus) (take n s)) (leads bus f)

  module _ (system : IsSystem s) (nested : IsNested roots s) where
    -- a function of the first n
    in_take : (n : ℕ) (b : Function) → Contains (take n s) b → (j : ℕ) × (j < n) × (slice_get s j ≡ Some b)
    in_take n b listed =
        let long = length-take n s in
        let less = listed.1 in
        let low : listed.0 < n = omega (arith, less, long) in
        let inside : listed.0 < length s = omega (arith, less, long) in
        (listed.0, low, slice_get-get_or s listed.0 b inside ∙ ap Some (sym (get_or-take n s listed.0 b low) ∙ listed.2))

    -- no function before a bridge leads where it does
    pub not_yet : (n : ℕ) (f : Function) → slice_get s n ≡ Some f → is_bridge f ≡ true → reached roots s n (secondary f) ≡ false
    not_yet n f at bridge =
        let listed : Contains s f = (n, slice_get_within s n f at, get_or_from_slice_get s n f f at) in
        false_from_ne_true (reached roots s n (secondary f)) (λ is.
        elim (or_cases (is_root roots (secondary f)) (list_any (leads (secondary f)) (take n s)) is) [
          | inl root ↦ is_no_root roots s system nested f (secondary f) listed bridge (at_secondary roots s system nested f (secondary f) listed bridge refl) root
          | inr any ↦
              let found = any_gives (leads (secondary f)) (take n s) any in
              let where_is = in_take n found.x found.listed in
              let parts = and_parts (is_bridge found.x) (secondary found.x == secondary f) found.is in
              let in_s : Contains s found.x = (where_is.0, slice_get_within s where_is.0 found.x where_is.2, get_or_from_slice_get s where_is.0 found.x found.x where_is.2) in
              let one = one_bridge roots s system nested found.x f in_s listed parts.0 bridge (eqb-true (secondary found.x) (secondary f) parts.1) in
              let same = one_place s system where_is.0 n f (where_is.2 ∙ ap Some one) at in
              let less = where_is.1 in
              (let no : ⊥ = omega (arith, same, less) in no)
        ])

    -- and the bus of a function is reached before it
    pub reached_before : (n : ℕ) (f : Function) → slice_get s n ≡ Some f → reached roots s n f.slot.bus ≡ true
    reached_before n f at = elim (cases_Bool (is_root roots f.slot.bus)) [
      | inl root ↦ or_left (is_root roots f.slot.bus) (list_any (leads f.slot.bus) (take n s)) root
      | inr off ↦
          let listed : Contains s f = (n, slice_get_within s n f at, get_or_from_slice_get s n f f at) in
          let one = nested.one f listed off in
          let b = one.0 in
          let to = one.1 in
          let place = to.0.0 in
          let up = order_of roots s nested b to.0 to.1 in
          let at_b : slice_get s place ≡ Some b = slice_get-get_or s place b to.0.1 ∙ ap Some to.0.2 in
          let e = to.2 in
          let before : place < n = comes_later s system place n b f at_b at (omega (arith, up, e)) in
          let inside = slice_get_within s n f at in
          let long = length-take n s in
          let has : Contains (take n s) b = (place, omega (arith, before, inside, long), get_or-take n s place b before ∙ to.0.2) in
          or_right (is_root roots f.slot.bus) (list_any (leads f.slot.bus) (take n s))
          (any_from (leads f.slot.bus) (take n s) b has (and_from (is_bridge b) (secondary b == f.slot.bus) to.1 (eq-eqb (secondary b) f.slot.bus to.2)))
    ]
