-- Where windows grow, a window that stays has the places for which it grows, or those in it as it stands.
use Rattle.std.proofs.Common.{◌≡◌, ℕ, ◌+◌, ◌-◌, ◌<◌, ◌≤◌, inl, inr, List, [], ◌++◌, map, Option, None, Some, Bool, true, false, ◌&&◌, ◌||◌, arith, sym, ◌∙◌, ap, subst, refl}
use Rattle.std.specs.Bool.{nat_lt, if◌then◌else◌}
use Rattle.std.specs.List.{Contains, AllPairs}
use Rattle.std.specs.Option.{is_some}
use Rattle.std.proofs.lemmas.Bool.{cases_Bool, false≢true, both_ways, and_right, false_from_ne_true}
use Rattle.std.proofs.lemmas.List.Elements.{Contains-append_left, Contains-append_right}
use Rattle.pci_spec.specs.Window.{WindowKind}
use Rattle.pci_spec.specs.Decoded.{Range}
use Rattle.pci_spec.specs.System.{System, Function, IsSystem, is_bridge, window_space}
use Rattle.pci_spec.specs.Bus.{secondary, are_siblings, IsNested}
use Rattle.pci_spec.proofs.Members.{in_head, in_map_from}
use Rattle.plan_spec.specs.Plan.{same_class}
use Rattle.settle_spec.specs.FirstPlace.{Extent, else_at, first_place_in, is_place}
use Rattle.settle_spec.specs.LastPlace.{last_place_in}
use Rattle.settle_spec.specs.Lists.{Request}
use Rattle.settle_spec.specs.Parts.{FunctionPart, system_parts, header_parts, addresses, class_in, are_same_space}
use Rattle.settle_spec.specs.Stands.{part_space, window_part, stands}
use Rattle.settle_spec.specs.Items.{PlacingItem, Placed, Placing, AllPlaced, Lacks, taken_by, bus_items, highest_in, new_window, has_room_behind, place_each, place_in}
use Rattle.settle_spec.specs.Places.{placed_of, place_among}
use Rattle.settle_spec.specs.PlacingLaws.{HasOtherRank}
use Rattle.settle_spec.specs.Reach.{reach}
use Rattle.settle_spec.specs.Growth.{place_around, grown_to, grown_around, there_on, taken_around, window_comes_to, there, comes_to, takes_growth, has_grown}
use Rattle.settle_spec.specs.Kept.{is_kept, stays_growing, range_growing, address_of_placed, growing}
use Rattle.settle_spec.specs.Keeping.Places.{taken_at}
use Rattle.settle_spec.proofs.FirstPlace.{in_is}
use Rattle.settle_spec.proofs.FirstSpot.{IsApart}
use Rattle.settle_spec.proofs.LastSpot.{place_gives, place_from, last_is_place}
use Rattle.settle_spec.proofs.Outward.{grown_holds_each, halves_move_out}
use Rattle.settle_spec.proofs.Reaching.{LiesIn, within_gives, window_first, window_last}
use Rattle.settle_laws.specs.Reach.{WindowsAreLow}
use Rattle.settle_laws.proofs.GrowingKept.{taking, growing_stands, grown_takes, grown_range, same_range, stays_kept, kept_stands, stays_by_over, grown_by_over, kept_is_there, there_is_kept, growing_kept, growing_low}
use Rattle.settle_laws.proofs.Holding.{items_same_on}
use Rattle.settle_laws.proofs.Reach.{some_is}
use Rattle.settle_laws.proofs.Standing.{window_listed, stands_by_itself}
use Rattle.settle_laws.proofs.There.{there_on_from}
use Rattle.settle_laws.proofs.ThereAlone.{unstanding}
use Rattle.settle_laws.specs.KeptLaws.{IsRangeApart, IsAlikeIn, AreOffBehind, HavePlaces, IsGrown}
use Rattle.settle_laws.proofs.EachPlaced.{IsFreeAt, AreFree, each_free, looked_up, among_is}
use Rattle.settle_laws.proofs.Held.{same_itself}
use Rattle.settle_laws.proofs.ItemRanks.{items_differ}
use Rattle.settle_laws.proofs.Kept.{in_regions}
use Rattle.settle_laws.proofs.LowWindows.{grown_first, grown_last}
use Rattle.settle_laws.proofs.KeptTaken.{IsKeptThere, kept_there, items_aligned, item_class, leads_to, standing_places}
use Rattle.settle_spec.specs.Lines.{lines_on, lines_behind, taken_for}
use Rattle.settle_laws.proofs.Told.Places.{found_each}

-- ---- places around a window are off what is taken

free_place : (r : Range) (taken : List Range) (e : Extent) (a : ℕ) → is_place r taken e a ≡ true → IsFreeAt e taken a
free_place r taken e a place = let at = place_gives r taken e a place in record { multiple = at.multiple; free = at.free; highest = at.highest }

around_free : (w around : Range) (taken : List Range) (e : Extent) (a : ℕ) → 0 < e.alignment → place_around w around taken e ≡ Some a → IsFreeAt e taken a
around_free w around taken e a pos found = by (first_place_in up taken e) refl
  where
    up : Range
    up = record { first = w.first; last = around.last }

    under : Range
    under = record { first = around.first; last = w.first - 1 }

    rest : Bool → Option ℕ
    rest b = if b then last_place_in under taken e else None

    by_rest : (b : Bool) → rest b ≡ Some a → IsFreeAt e taken a
    by_rest true is = free_place under taken e a (last_is_place under taken e a is)
    by_rest false is = absurd (false≢true (ap is_some is))

    by : (o : Option ℕ) → first_place_in up taken e ≡ o → IsFreeAt e taken a
    by None none = by_rest (nat_lt around.first w.first) (sym (ap (λ o. else_at o (rest (nat_lt around.first w.first))) none) ∙ found)
    by (Some b) some =
        let is = sym (ap (λ o. else_at o (rest (nat_lt around.first w.first))) some) ∙ found in
        free_place up taken e a (in_is up taken e pos a (some ∙ is)).place

-- what is off a range is off all that it holds
less_apart : (size a : ℕ) (x t : Range) → LiesIn t x → IsApart size a x → IsApart size a t
less_apart size a x t inside (inl under) = (let f = inside.first in inl (omega (arith, f, under)))
less_apart size a x t inside (inr over) = (let l = inside.last in inr (omega (arith, l, over)))

off_aside : (r t : Range) (size a : ℕ) → r.first ≤ a → a + (size - 1) ≤ r.last → IsRangeApart r t → IsApart size a t
off_aside r t size a from to (inl under) = inr (omega (arith, from, under))
off_aside r t size a from to (inr over) = inl (omega (arith, to, over))

module _ (q : Request) (s : System) (system : IsSystem s) (nested : IsNested q.roots s) where
  -- ---- what stays behind a window that stays

  module _ (c : WindowKind) (b : Function) (listed : Contains s b) (bridge : is_bridge b ≡ true) (keeps : stays_growing q s (window_part c b) ≡ true) where
    abbrev w : FunctionPart
    w = window_part c b

    abbrev bus : ℕ
    bus = secondary b

    and_true : (x y : Bool) → y ≡ true → (x && y) ≡ x
    and_true true y is = is
    and_true false y is = refl

    stays_there : (t : FunctionPart) → are_siblings q.roots bus t.function.slot.bus ≡ true → class_in q s t.function t.part ≡ c → stays_growing q s t ≡ is_kept q s t
    stays_there t beside class =
        stays_by_over q s system nested t b (leads_to q s (growing q s) system nested b listed bridge t.function.slot.bus beside)
        ∙ ap (λ d. is_kept q s t && stays_growing q s (window_part d b)) class
        ∙ and_true (is_kept q s t) (stays_growing q s w) keeps

    grown_there : (t : FunctionPart) → are_siblings q.roots bus t.function.slot.bus ≡ true → class_in q s t.function t.part ≡ c → has_grown q s t ≡ (takes_growth q s t && has_grown q s w)
    grown_there t beside class =
        grown_by_over q s system nested t b (leads_to q s (growing q s) system nested b listed bridge t.function.slot.bus beside)
        ∙ ap (λ d. takes_growth q s t && has_grown q s (window_part d b)) class

    -- ---- one that stays as it stands

    module _ (off : has_grown q s w ≡ false) where
      not_grown : (t : FunctionPart) → are_siblings q.roots bus t.function.slot.bus ≡ true → class_in q s t.function t.part ≡ c → has_grown q s t ≡ false
      not_grown t beside class = grown_there t beside class ∙ and_right (takes_growth q s t) (has_grown q s w) off

      or_false : (x y : Bool) → x ≡ false → (x || y) ≡ y
      or_false x y none = ap (λ b. b || y) none

      holds : has_room_behind q s w ≡ true
      holds = sym (or_false (has_grown q s w) (has_room_behind q s w) off) ∙ stays_kept q s w keeps

      find_is : (i : PlacingItem) (xs : List Range) → i.class ≡ c → (growing q s).place b i xs ≡ place_in (addresses w) i xs
      find_is i xs class =
          ap (λ d. if has_grown q s (window_part d b) then address_of_placed (place_among i.region (placed_of (taken_around q s (there q s) d b))) else place_in (addresses (window_part d b)) i xs) class
          ∙ ap (λ t. if t then address_of_placed (place_among i.region (placed_of (taken_around q s (there q s) c b))) else place_in (addresses w) i xs) off

      module _ (low : WindowsAreLow q s) where
        as_it_was : (taken : List Range) → IsAlikeIn (range_growing q s w) taken (taken_at q s (growing q s) (window_space c) bus) → IsAlikeIn (range_growing q s w) (taken_at q s (growing q s) (window_space c) bus) taken
            → HavePlaces q (range_growing q s w) ((growing q s).place b) taken (bus_items q s c (stays_growing q s) (new_window q s c) bus)
        as_it_was = standing_places q s (growing q s) system nested b listed bridge
            (growing_kept q s system nested low (items_aligned q s (growing q s))) c keeps (same_range q s w off) holds
            (λ t in_t there beside class. stays_there t beside class ∙ or_false (has_grown q s t) (has_room_behind q s t) (not_grown t beside class))
            (λ t beside class is. same_range q s t (not_grown t beside class))
            find_is

    -- ---- one that grows

    module _ (grown : has_grown q s w ≡ true) where
      abbrev before : FunctionPart → Bool
      before r = is_some (there q s r)

      abbrev items : List PlacingItem
      items = bus_items q s c before (new_window q s c) bus

      abbrev taken_there : List Range
      taken_there = lines_on q (window_space c) bus ++ there_on q s (there q s) (λ r. are_same_space (window_space c) (part_space r)) bus

      abbrev others : List Range
      others = there_on q s (there q s) (λ r. same_class c (class_in q s r.function r.part)) bus

      abbrev find : PlacingItem → List Range → Option ℕ
      find i taken = place_around (addresses w) (reach q s c b) (taken_for q i.region taken) i.extent

      -- what is there behind it is what stays there
      same_there : (t : FunctionPart) → Contains s t.function → Contains (header_parts t.function) t.part → are_siblings q.roots bus t.function.slot.bus ≡ true → class_in q s t.function t.part ≡ c → stays_growing q s t ≡ before t
      same_there t in_t there_t beside class = stays_there t beside class ∙ elim (cases_Bool (stands q s t)) [
        | inl stand ↦
            let part = (stands_by_itself q s nested).only t in_t stand in
            let has = in_regions q s t.function t.part in_t there_t part in
            elim (cases_Bool (is_kept q s t)) [
              | inl kept ↦ kept ∙ sym (ap is_some (kept_is_there q s system nested t has kept).is)
              | inr off ↦ off ∙ sym (by (there q s t) refl has off)
            ]
        | inr off ↦
            false_from_ne_true (is_kept q s t) (λ kept. both_ways (stands q s t) off (kept_stands q s t kept))
            ∙ sym (ap is_some (unstanding q s system nested t in_t off))
      ]
        where
          by : (o : Option Range) → there q s t ≡ o → Contains (system_parts q s) t → is_kept q s t ≡ false → is_some o ≡ false
          by None is has off = refl
          by (Some x) is has off =
              absurd (both_ways (is_kept q s t) off
              (there_is_kept q s system nested t x has is (λ taken. grown_there t beside class ∙ and_true (takes_growth q s t) (has_grown q s w) grown ∙ taken)))

      record IsComeTo : Type 0 where
        placed : List Placed
        all : taken_around q s (there q s) c b ≡ AllPlaced placed
        is : range_growing q s w ≡ grown_to c (addresses w) (others ++ map (λ (p : Placed). taken_by p.item p.at) placed)

      come_to : IsComeTo
      come_to = let to = taking q s w (grown_takes q s w grown) in by_stand to.range to.comes (stands q s w) to.comes
        where
          by_placed : (g : Range) → comes_to q s w ≡ Some g → (p : Placing) → taken_around q s (there q s) c b ≡ p → grown_around c (addresses w) others p ≡ Some g → IsComeTo
          by_placed g comes (Lacks i) is e = absurd (false≢true (ap is_some e))
          by_placed g comes (AllPlaced placed) is e = record {
            placed = placed;
            all = is;
            is = grown_range q s w g grown comes ∙ sym (some_is (grown_to c (addresses w) (others ++ map (λ (p : Placed). taken_by p.item p.at) placed)) g e);
          }

          by_stand : (g : Range) → comes_to q s w ≡ Some g → (stand : Bool) → (if stand then window_comes_to q s (there q s) c b else None) ≡ Some g → IsComeTo
          by_stand g comes true e = by_placed g comes (taken_around q s (there q s) c b) refl e
          by_stand g comes false e = absurd (false≢true (ap is_some e))

      -- a place that is found is off what is taken, and what lines hold behind
      found_free : (i : PlacingItem) (xs : List Range) (a : ℕ) → Contains items i → find i xs ≡ Some a → IsFreeAt i.extent (taken_for q i.region xs) a
      found_free i xs a has is = around_free (addresses w) (reach q s c b) (taken_for q i.region xs) i.extent a (items_aligned q s (growing q s) c before bus i has) is

      free : AreFree taken_there items come_to.placed
      free = each_free find taken_there items come_to.placed
          (λ i xs a has is.
          let at = found_free i xs a has is in
          record { multiple = at.multiple; free = λ t in_t. at.free t (Contains-append_right (lines_behind q i.region) xs t in_t); highest = at.highest }) come_to.all

      in_items : (p : Placed) → Contains come_to.placed p → Contains items p.item
      in_items p has = subst (λ is. Contains is p.item) free.all (in_map_from (λ (p : Placed). p.item) come_to.placed p has)

      off_behind : AreOffBehind q come_to.placed
      off_behind p t has behind =
          let at = found_each find taken_there items come_to.placed come_to.all p has in
          (found_free p.item at.beside p.at (in_items p has) at.is).free t (Contains-append_left (lines_behind q p.item.region) at.beside t behind)

      differ : AllPairs HasOtherRank (map (λ (p : Placed). p.item) come_to.placed)
      differ = subst (AllPairs HasOtherRank) (sym free.all) (items_differ q s c before (new_window q s c) system bus)

      known : (p : Placed) (xs : List Range) → Contains come_to.placed p → (growing q s).place b p.item xs ≡ Some p.at
      known p xs has =
          let i = p.item in
          let class = item_class q s (growing q s) c before bus i (in_items p has) in
          ap (λ d. if has_grown q s (window_part d b) then address_of_placed (place_among i.region (placed_of (taken_around q s (there q s) d b))) else place_in (addresses (window_part d b)) i xs) class
          ∙ ap (λ t. if t then address_of_placed (place_among i.region (placed_of (taken_around q s (there q s) c b))) else place_in (addresses w) i xs) grown
          ∙ ap (λ p. address_of_placed (place_among i.region (placed_of p))) come_to.all
          ∙ ap address_of_placed (among_is come_to.placed differ p has)

      -- the places are in what it comes to
      inside : (p : Placed) → Contains come_to.placed p → LiesIn (taken_by p.item p.at) (range_growing q s w)
      inside p has =
          let list = others ++ map (λ (p : Placed). taken_by p.item p.at) come_to.placed in
          subst (LiesIn (taken_by p.item p.at)) (sym come_to.is)
          (within_gives (taken_by p.item p.at) (grown_to c (addresses w) list)
          (grown_holds_each c (addresses w) list (taken_by p.item p.at)
          (Contains-append_right others (map (λ (p : Placed). taken_by p.item p.at) come_to.placed) (taken_by p.item p.at) (in_map_from (λ (p : Placed). taken_by p.item p.at) come_to.placed p has))))

      -- and off what stays behind it
      off_stays : (p : Placed) → Contains come_to.placed p → (t : Range) → IsKeptThere q s (growing q s) (window_space c) bus t → IsApart p.item.extent.size p.at t
      off_stays p has t is =
          let r = is.of in
          let at = kept_is_there q s system nested r is.listed (stays_kept q s r is.kept) in
          let space = ap (are_same_space (window_space c)) is.at ∙ same_itself (window_space c) in
          let taken = Contains-append_right (lines_on q (window_space c) bus) (there_on q s (there q s) (λ r. are_same_space (window_space c) (part_space r)) bus) at.range
          (there_on_from q s (there q s) (λ r. are_same_space (window_space c) (part_space r)) bus r at.range is.listed is.beside space at.is) in
          less_apart p.item.extent.size p.at at.range t
          (subst (λ v. LiesIn v at.range) is.is (within_gives (range_growing q s r) at.range at.holds))
          ((free.each p has).free at.range taken)

      -- and off what lines hold there
      off_kept : (p : Placed) → Contains come_to.placed p → (t : Range) → Contains (taken_at q s (growing q s) (window_space c) bus) t → IsApart p.item.extent.size p.at t
      off_kept p has t in_t = elim (kept_there q s (growing q s) (window_space c) bus t in_t) [
        | inl line ↦ (free.each p has).free t (Contains-append_left (lines_on q (window_space c) bus) (there_on q s (there q s) (λ r. are_same_space (window_space c) (part_space r)) bus) t line)
        | inr is ↦ off_stays p has t is
      ]

      pub grown_places : (taken : List Range) → IsAlikeIn (range_growing q s w) taken (taken_at q s (growing q s) (window_space c) bus)
          → HavePlaces q (range_growing q s w) ((growing q s).place b) taken (bus_items q s c (stays_growing q s) (new_window q s c) bus)
      grown_places taken to =
          let g = range_growing q s w in
          let same : items ≡ bus_items q s c (stays_growing q s) (new_window q s c) bus = sym (items_same_on q s (stays_growing q s) before bus c same_there) in
          let all = free.all ∙ same in
          record {
            placed = come_to.placed;
            found =
                ap (place_each own_place taken) (sym all)
                ∙ looked_up own_place taken come_to.placed (λ p xs has. known p (taken_for q p.item.region xs) has);
            are = record {
              all = all;
              each = λ p has.
                  let own = free.each p has in
                  let in_g = inside p has in
                  let from = in_g.first in
                  let last = in_g.last in (
                    g,
                    in_head g [],
                    place_from g taken p.item.extent p.at record {
                      multiple = own.multiple;
                      from = from;
                      free = λ t in_t. elim (to t in_t) [ inl there ↦ off_kept p has t there | inr out ↦ off_aside g t p.item.extent.size p.at from last out ];
                      last = last;
                      highest = own.highest;
                    },
                  );
              apart = free.apart;
            };
            off = off_behind;
          }
        where
          own_place : PlacingItem → List Range → Option ℕ
          own_place i xs = (growing q s).place b i (taken_for q i.region xs)

  pub growing_places : WindowsAreLow q s → (c : WindowKind) (b : Function) (taken : List Range) → Contains s b → is_bridge b ≡ true → stays_growing q s (window_part c b) ≡ true
      → IsAlikeIn (range_growing q s (window_part c b)) taken (taken_at q s (growing q s) (window_space c) (secondary b))
      → IsAlikeIn (range_growing q s (window_part c b)) (taken_at q s (growing q s) (window_space c) (secondary b)) taken
      → HavePlaces q (range_growing q s (window_part c b)) ((growing q s).place b) taken (bus_items q s c (stays_growing q s) (new_window q s c) (secondary b))
  growing_places low c b taken listed bridge keeps to back = elim (cases_Bool (has_grown q s (window_part c b))) [
    | inl grown ↦ grown_places c b listed bridge keeps grown taken to
    | inr off ↦ as_it_was c b listed bridge keeps off low taken to back
  ]

  -- ---- what a window that stays has then

  pub growing_grown : WindowsAreLow q s → (c : WindowKind) (b : Function) → Contains s b → is_bridge b ≡ true → stays_growing q s (window_part c b) ≡ true → IsGrown c b (range_growing q s (window_part c b))
  growing_grown low c b listed bridge keeps =
      let w = window_part c b in
      let in_w = window_listed q s c b listed ((stands_by_itself q s nested).only w listed (growing_stands q s w keeps)) in
      let most = growing_low q s system nested low (items_aligned q s (growing q s)) c b in_w keeps in
      elim (cases_Bool (has_grown q s w)) [
        | inl grown ↦
            let to = come_to c b listed bridge keeps grown in
            let list = others c b listed bridge keeps grown ++ map (λ (p : Placed). taken_by p.item p.at) to.placed in
            subst (IsGrown c b) (sym to.is) record {
              first = grown_first c (addresses w) list (window_first c b);
              last = grown_last c (addresses w) list (window_last c b);
              low = subst (λ (x : Range). x.last ≤ highest_in c b.probe) to.is most;
              outward = λ n. halves_move_out c n (addresses w) list;
            }
        | inr off ↦ subst (IsGrown c b) (sym (same_range q s w off)) record {
          first = window_first c b;
          last = window_last c b;
          low = subst (λ (x : Range). x.last ≤ highest_in c b.probe) (same_range q s w off) most;
          outward = λ n. record { base = omega arith; limit = omega arith; base_upper = omega arith; limit_upper = omega arith };
        }
      ]
