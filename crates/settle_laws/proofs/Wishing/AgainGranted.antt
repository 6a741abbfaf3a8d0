-- Where all is placed anew, wishes beside what is settled come to the same once more.
use Rattle.std.proofs.Common.{◌≡◌, ◌&&◌, ℕ, zero, suc, List, [], ◌∷◌, ◌++◌, Bool, true, false, cond, map, not, refl, sym, ◌∙◌, ap, subst, Option, None, Some}
use Rattle.std.specs.Bool.{◌==◌, nat_le, IsTrue}
use Rattle.std.specs.List.{AllZip, Contains, filter, flat_map, list_all}
use Rattle.std.specs.Option.{option_map, option_or}
use Rattle.std.proofs.lemmas.Bool.{both_ways}
use Rattle.std.proofs.lemmas.List.{map-append}
use Rattle.pci_spec.specs.Decoded.{Range}
use Rattle.pci_spec.specs.Window.{WindowKind, IoWindow, MemoryWindow, PrefetchWindow, has_window}
use Rattle.pci_spec.specs.System.{System, Function, Space, Part, Window, is_bridge, window_space}
use Rattle.pci_spec.specs.Bus.{secondary, is_root, are_siblings, LeadsTo}
use Rattle.pci_spec.proofs.Members.{in_head, in_tail}
use Rattle.plan_spec.specs.Place.{range_from}
use Rattle.plan_spec.proofs.Planning.Moved.{secondary_same}
use Rattle.settle_spec.specs.FirstPlace.{Extent, ranges_are_apart, first_spot, first_place}
use Rattle.settle_spec.specs.Lists.{Request, class_ranges}
use Rattle.settle_spec.specs.Parts.{FunctionPart, header_parts, bridge_over, are_same_space}
use Rattle.settle_spec.specs.Stands.{rank, is_fixed_part, is_in_lists, part_space, window_part}
use Rattle.settle_spec.specs.Items.{highest_in}
use Rattle.settle_spec.specs.Registers.{changing}
use Rattle.settle_spec.specs.Growth.{range_list}
use Rattle.settle_spec.specs.Kept.{Kept}
use Rattle.settle_spec.specs.Keeping.Registers.{settled, settled_function}
use Rattle.settle_spec.specs.Wishes.{place_then, range_then, there_then, with_window, with_bridge, ending_at, end_over, gained, can_end_at, with_room_above, ending_if, ending_within, Spared, spared_at, held_by, opened_at, spared_behind, Granted, or_denied, with_spare_of, with_spares_of, with_all_spares}
use Rattle.settle_spec.proofs.BridgeOver.{over_leads}
use Rattle.settle_laws.specs.SparingLaws.{slot_and_register}
use Rattle.settle_laws.specs.Keeping.PlacesLaws.{CanSettle}
use Rattle.settle_laws.proofs.Alike.{of_bridges, header_alike, rank_alike, space_alike}
use Rattle.settle_laws.proofs.KeptAside.{each_by}
use Rattle.settle_laws.proofs.Shown.{can_change}
use Rattle.settle_laws.proofs.Zipped.{BothOrNone, filter_zip, find_zip, flat_zip}
use Rattle.settle_laws.proofs.Keeping.Again.{settled_alike}
use Rattle.settle_laws.proofs.Keeping.AgainCommand.{change_again}
use Rattle.settle_laws.proofs.Keeping.Fits.{was}
use Rattle.settle_laws.proofs.Told.OnlyHeld.{held_of}
use Rattle.settle_laws.proofs.Keeping.Moves.{moves}
use Rattle.settle_laws.proofs.Keeping.Wishless.{place_same}
use Rattle.settle_laws.proofs.Wishing.Plain.{plain_above, plain_if, plain_spot, plain_within, end_is, plain_is}

-- ---- what may be found on both sides

map_both : {A B C D : Type 0} (R : A → B → Type 0) (S : C → D → Type 0) (f : A → C) (g : B → D) → ((x : A) (y : B) → R x y → S (f x) (g y)) → (o : Option A) (p : Option B) → BothOrNone R o p → BothOrNone S (option_map f o) (option_map g p)
map_both R S f g each None None both = tt
map_both R S f g each None (Some y) both = absurd both
map_both R S f g each (Some x) None both = absurd both
map_both R S f g each (Some x) (Some y) both = each x y both

if_both : {A B : Type 0} (R : A → B → Type 0) (b c : Bool) → b ≡ c → (o m : Option A) (p n : Option B) → BothOrNone R o p → BothOrNone R m n → BothOrNone R (cond b o m) (cond c p n)
if_both R true true same o m p n first second = first
if_both R true false same o m p n first second = absurd (both_ways true same refl)
if_both R false true same o m p n first second = absurd (both_ways false refl same)
if_both R false false same o m p n first second = second

flat_same : {A B C : Type 0} (R : A → B → Type 0) (f : A → List C) (g : B → List C) → ((x : A) (y : B) → R x y → f x ≡ g y) → (xs : List A) (ys : List B) → AllZip R xs ys → flat_map f xs ≡ flat_map g ys
flat_same R f g same [] [] pairs = refl
flat_same R f g same [] (y ∷ ys) pairs = absurd pairs
flat_same R f g same (x ∷ xs) [] pairs = absurd pairs
flat_same R f g same (x ∷ xs) (y ∷ ys) (first, rest) =
    let here = same x y first in
    let later = flat_same R f g same xs ys rest in
    λ i. here i ++ later i

-- ---- a window with other addresses

module _ (q : Request) (s : System) (w : FunctionPart) (v : Range) (k : Kept) where
  beside_wish : (b : Bool) (o place other : Option Range) → place ≡ other → option_or (cond b (Some v) o) place ≡ cond b (Some v) (option_or o other)
  beside_wish true o place other same = refl
  beside_wish false o place other same = ap (option_or o) same

  range_with : (r : FunctionPart) → range_then q s (with_window w v k) r ≡ cond (rank r == rank w) (Some v) (range_then q s k r)
  range_with r = beside_wish (rank r == rank w) (k.wished r) (place_then q s (with_window w v k) r) (place_then q s k r) (place_same q s k (with_window w v k).wished r)

module _ (q : Request) (untold : q.told.ranges ≡ []) (s : System) (k : Kept) (can : CanSettle q s k) (anew : IsTrue q.anew) where
  abbrev now : Function → Function
  now f = settled_function q s k f

  abbrev t : System
  t = settled q s k

  behind_same : (b : Function) → Contains s b → is_bridge b ≡ true → secondary (now b) ≡ secondary b
  behind_same b listed bridge = secondary_same b (now b) (moves q s k can b listed) (was q s k can b listed).image bridge

  -- ---- the parts that can change, before and then

  record Pair (f g : Function) : Type 0 where
    listed : Contains s f
    is : now f ≡ g

  pairs : AllZip Pair s t
  pairs = each_by Pair now s (λ f listed. record { listed = listed; is = refl })

  record Twin (r u : FunctionPart) : Type 0 where
    f : Function
    p : Part
    listed : Contains s f
    old : record { function = f; part = p } ≡ r
    new : record { function = now f; part = p } ≡ u

  abbrev old_of : Function → Part → FunctionPart
  old_of f p = record { function = f; part = p }

  abbrev Twins : Function → List Part → List Part → Type 0
  Twins f ps ns = AllZip Twin (map (old_of f) ps) (map (old_of (now f)) ns)

  one_more : (f : Function) → Contains s f → (p : Part) (ps ns : List Part) → Twins f ps ns → (a b : Bool) → a ≡ b → Twins f (cond a (p ∷ ps) ps) (cond b (p ∷ ns) ns)
  one_more f listed p ps ns more true true same = (record { f = f; p = p; listed = listed; old = refl; new = refl }, more)
  one_more f listed p ps ns more true false same = absurd (both_ways true same refl)
  one_more f listed p ps ns more false true same = absurd (both_ways false refl same)
  one_more f listed p ps ns more false false same = more

  twins : (f : Function) → Contains s f → (ps : List Part) → Twins f (filter (can_change q s f) ps) (filter (can_change q t (now f)) ps)
  twins f listed [] = tt
  twins f listed (p ∷ ps) = one_more f listed p (filter (can_change q s f) ps) (filter (can_change q t (now f)) ps) (twins f listed ps) (can_change q s f p) (can_change q t (now f) p) (change_again q (held_of q untold) s k can anew f listed p)

  twins_of : (f g : Function) → Pair f g → AllZip Twin (changing q s f) (changing q t g)
  twins_of f g pair =
      subst (λ h. AllZip Twin (changing q s f) (changing q t h)) pair.is
      (subst (λ ps. AllZip Twin (changing q s f) (map (old_of (now f)) (filter (can_change q t (now f)) ps))) (header_alike f (now f) (settled_alike q s k can f pair.listed)) (twins f pair.listed (header_parts f)))

  -- ---- the same ranges

  pub record Match (x y : Kept) : Type 0 where
    pub range : (f : Function) (p : Part) → Contains s f → range_then q t y record { function = now f; part = p } ≡ range_then q s x record { function = f; part = p }

  with_match : (c : WindowKind) (b : Function) → Contains s b → (v : Range) (x y : Kept) → Match x y → Match (with_window (window_part c b) v x) (with_window (window_part c (now b)) v y)
  with_match c b in_b v x y match = record {
    range = λ f p listed.
        let same = rank_alike f (now f) (settled_alike q s k can f listed) p in
        let here = match.range f p listed in
        range_with q t (window_part c (now b)) v y record { function = now f; part = p }
        ∙ (λ i. cond (sym same i == rank (window_part c b)) (Some v) (here i))
        ∙ sym (range_with q s (window_part c b) v x record { function = f; part = p });
  }

  module _ (x y : Kept) (match : Match x y) where
    twin_range : (r u : FunctionPart) → Twin r u → range_list (range_then q s x r) ≡ range_list (range_then q t y u)
    twin_range r u twin =
        ap (λ a. range_list (range_then q s x a)) (sym twin.old)
        ∙ ap range_list (sym (match.range twin.f twin.p twin.listed))
        ∙ ap (λ a. range_list (range_then q t y a)) twin.new

    twin_beside : (space : Space) (bus : ℕ) (r u : FunctionPart) → Twin r u
        → (are_siblings q.roots bus r.function.slot.bus && are_same_space space (part_space r)) ≡ (are_siblings q.roots bus u.function.slot.bus && are_same_space space (part_space u))
    twin_beside space bus r u twin =
        ap (λ (a : FunctionPart). are_siblings q.roots bus a.function.slot.bus && are_same_space space (part_space a)) (sym twin.old)
        ∙ ap (λ a. are_siblings q.roots bus twin.f.slot.bus && are_same_space space a) (space_alike twin.f (now twin.f) (settled_alike q s k can twin.f twin.listed) twin.p)
        ∙ ap (λ (a : FunctionPart). are_siblings q.roots bus a.function.slot.bus && are_same_space space (part_space a)) twin.new

    there_same : (space : Space) (bus : ℕ) → there_then q s x space bus ≡ there_then q t y space bus
    there_same space bus =
        flat_same Twin (λ r. range_list (range_then q s x r)) (λ r. range_list (range_then q t y r)) twin_range
        (filter (λ (r : FunctionPart). are_siblings q.roots bus r.function.slot.bus && are_same_space space (part_space r)) (flat_map (changing q s) s))
        (filter (λ (r : FunctionPart). are_siblings q.roots bus r.function.slot.bus && are_same_space space (part_space r)) (flat_map (changing q t) t))
        (filter_zip Twin (λ r. are_siblings q.roots bus r.function.slot.bus && are_same_space space (part_space r)) (λ r. are_siblings q.roots bus r.function.slot.bus && are_same_space space (part_space r)) (twin_beside space bus)
        (flat_map (changing q s) s) (flat_map (changing q t) t) (flat_zip Pair Twin (changing q s) (changing q t) twins_of s t pairs))

  -- ---- the bridge over a bus

  abbrev leads : ℕ → Function → Bool
  leads bus b = is_bridge b && secondary b == bus

  leads_same : (bus : ℕ) (f g : Function) → Pair f g → leads bus f ≡ leads bus g
  leads_same bus f g pair =
      let is = settled_alike q s k can f pair.listed in
      of_bridges f (now f) is (secondary f == bus) (secondary (now f) == bus) (λ bridge. ap (λ n. n == bus) (is.secondary bridge)) ∙ ap (leads bus) pair.is

  over_both : {A B : Type 0} (R : A → B → Type 0) (above : Function → Option A) (below : Function → Option B) (bus : ℕ) → ((f : Function) → LeadsTo s f bus → BothOrNone R (above f) (below (now f)))
      → BothOrNone R (with_bridge above (bridge_over s bus)) (with_bridge below (bridge_over t bus))
  over_both R above below bus each = by (bridge_over s bus) (bridge_over t bus) refl (find_zip Pair (leads bus) (leads bus) (leads_same bus) s t pairs)
    where
      by : (o p : Option Function) → bridge_over s bus ≡ o → BothOrNone Pair o p → BothOrNone R (with_bridge above o) (with_bridge below p)
      by None None at both = tt
      by None (Some g) at both = absurd both
      by (Some f) None at both = absurd both
      by (Some f) (Some g) at both = subst (λ h. BothOrNone R (above f) (below h)) both.is (each f (over_leads s bus f at))

  module _ (c : WindowKind) where
    -- ---- an open window ends later

    module _ (b : Function) (listed : Contains s b) (last : ℕ) (above below : Function → ℕ → Kept → Option Kept)
        (rest : (f : Function) → Contains s f → is_bridge f ≡ true → (end : ℕ) (x y : Kept) → Match x y → BothOrNone Match (above f end x) (below (now f) end y)) (x y : Kept) (match : Match x y) where
      can_end_same : (w : Range) (e : ℕ) → can_end_at q s c b x w e ≡ can_end_at q t c (now b) y w e
      can_end_same w e =
          end_is q s c untold b x w e
          ∙ ap (λ us. not (is_fixed_part q (window_part c b)) && (nat_le e (highest_in c b.probe) && list_all (ranges_are_apart (gained w e)) us)) (there_same x y match (window_space c) b.slot.bus)
          ∙ sym (end_is q t c untold (now b) y w e)

      room_same : (v : Range) → BothOrNone Match (with_room_above q s c above b v x) (with_room_above q t c below (now b) v y)
      room_same v = if_both Match (is_root q.roots b.slot.bus) (is_root q.roots b.slot.bus) refl
          (cond (is_in_lists q b.slot.bus v (window_space c)) (Some x) None) (with_bridge (λ f. above f v.last x) (bridge_over s b.slot.bus))
          (cond (is_in_lists q b.slot.bus v (window_space c)) (Some y) None) (with_bridge (λ f. below f v.last y) (bridge_over t b.slot.bus))
          (if_both Match (is_in_lists q b.slot.bus v (window_space c)) (is_in_lists q b.slot.bus v (window_space c)) refl (Some x) None (Some y) None match tt)
          (over_both Match (λ f. above f v.last x) (λ f. below f v.last y) b.slot.bus (λ f over. rest f over.0 over.1 v.last x y match))

      ended_same : (o : Option Range) → BothOrNone Match (ending_if q s c above b last x o) (ending_if q t c below (now b) last y o)
      ended_same None = tt
      ended_same (Some w) =
          let e = end_over c w last in
          let v = ending_at w e in
          let o = with_room_above q s c above b v x in
          let p = with_room_above q t c below (now b) v y in
          if_both Match (nat_le last w.last) (nat_le last w.last) refl
          (Some x) (cond (can_end_at q s c b x w e) (option_map (with_window (window_part c b) v) o) None)
          (Some y) (cond (can_end_at q t c (now b) y w e) (option_map (with_window (window_part c (now b)) v) p) None) match
          (if_both Match (can_end_at q s c b x w e) (can_end_at q t c (now b) y w e) (can_end_same w e) (option_map (with_window (window_part c b) v) o) None (option_map (with_window (window_part c (now b)) v) p) None
          (map_both Match Match (with_window (window_part c b) v) (with_window (window_part c (now b)) v) (with_match c b listed v) o p (room_same v)) tt)

    ending_same : (n : ℕ) (b : Function) → Contains s b → is_bridge b ≡ true → (last : ℕ) (x y : Kept) → Match x y → BothOrNone Match (ending_within q s c n b last x) (ending_within q t c n (now b) last y)
    unfolding ending_within
    ending_same zero b listed bridge last x y match = tt
    ending_same (suc n) b listed bridge last x y match =
        subst (λ o. BothOrNone Match (ending_if q s c (ending_within q s c n) b last x (range_then q s x (window_part c b))) (ending_if q t c (ending_within q t c n) (now b) last y o)) (sym (match.range b (Window c) listed))
        (ended_same b listed last (ending_within q s c n) (ending_within q t c n) (ending_same n) x y match (range_then q s x (window_part c b)))

    -- ---- room for a spare

    record SameSpare (a z : Spared) : Type 0 where
      at : z.at ≡ a.at
      kept : Match a.kept z.kept

    module _ (b : Function) (listed : Contains s b) (bridge : is_bridge b ≡ true) (e : Extent) (above below : Function → Extent → Kept → Option Spared)
        (rest : (f : Function) → Contains s f → is_bridge f ≡ true → (e : Extent) (x y : Kept) → Match x y → BothOrNone SameSpare (above f e x) (below (now f) e y)) (x y : Kept) (match : Match x y) where
      spot_same : (w : Range) → plain_spot q s c b e x w ≡ plain_spot q t c (now b) e y w
      spot_same w =
          ap (λ us. first_spot w.first us e) (there_same x y match (window_space c) (secondary b))
          ∙ ap (λ bus. first_spot w.first (there_then q t y (window_space c) bus) e) (sym (behind_same b listed bridge))

      open_same : (a d : ℕ) → a ≡ d → BothOrNone SameSpare (spared_at q s c b e x a) (spared_at q t c (now b) e y d)
      open_same a d same = subst (λ n. BothOrNone SameSpare (spared_at q s c b e x a) (spared_at q t c (now b) e y n)) same
          (if_both SameSpare (nat_le (range_from a e.size).last e.highest) (nat_le (range_from a e.size).last e.highest) refl
          (option_map (λ kept. record { at = a; kept = kept }) (ending_within q s c 256 b (range_from a e.size).last x)) None
          (option_map (λ kept. record { at = a; kept = kept }) (ending_within q t c 256 (now b) (range_from a e.size).last y)) None
          (map_both Match SameSpare (λ kept. record { at = a; kept = kept }) (λ kept. record { at = a; kept = kept }) (λ m n both. record { at = refl; kept = both })
          (ending_within q s c 256 b (range_from a e.size).last x) (ending_within q t c 256 (now b) (range_from a e.size).last y) (ending_same 256 b listed bridge (range_from a e.size).last x y match)) tt)

      root_same : (h : Extent) (o p : Option ℕ) → o ≡ p → BothOrNone SameSpare (option_map (λ at. record { at = at; kept = x }) o) (option_map (λ at. record { at = at; kept = y }) p)
      root_same h None None same = tt
      root_same h None (Some a) same = absurd (let no : ⊥ = cc in no)
      root_same h (Some a) None same = absurd (let no : ⊥ = cc in no)
      root_same h (Some a) (Some d) same = (let one : a ≡ d = cc in record { at = sym one; kept = match })

      above_same : (h : Extent) → BothOrNone SameSpare (plain_above q s c above b h x) (plain_above q t c below (now b) h y)
      above_same h = if_both SameSpare (is_root q.roots b.slot.bus) (is_root q.roots b.slot.bus) refl
          (option_map (λ at. record { at = at; kept = x }) (first_place (class_ranges q c b.slot.bus) (there_then q s x (window_space c) b.slot.bus) h)) (with_bridge (λ f. above f h x) (bridge_over s b.slot.bus))
          (option_map (λ at. record { at = at; kept = y }) (first_place (class_ranges q c b.slot.bus) (there_then q t y (window_space c) b.slot.bus) h)) (with_bridge (λ f. below f h y) (bridge_over t b.slot.bus))
          (root_same h (first_place (class_ranges q c b.slot.bus) (there_then q s x (window_space c) b.slot.bus) h) (first_place (class_ranges q c b.slot.bus) (there_then q t y (window_space c) b.slot.bus) h)
          (ap (λ us. first_place (class_ranges q c b.slot.bus) us h) (there_same x y match (window_space c) b.slot.bus)))
          (over_both SameSpare (λ f. above f h x) (λ f. below f h y) b.slot.bus (λ f over. rest f over.0 over.1 h x y match))

      opened_same : (a z : Spared) → SameSpare a z → SameSpare (opened_at q s c b e a) (opened_at q t c (now b) e z)
      opened_same a z same = record {
        at = same.at;
        kept = subst (λ n. Match (with_window (window_part c b) (range_from a.at e.size) a.kept) (with_window (window_part c (now b)) (range_from n e.size) z.kept)) (sym same.at)
            (with_match c b listed (range_from a.at e.size) a.kept z.kept same.kept);
      }

      spared_if_same : (o : Option Range) → BothOrNone SameSpare (plain_if q s c above b e x o) (plain_if q t c below (now b) e y o)
      spared_if_same None =
          let o = plain_above q s c above b (held_by q s c b e) x in
          let p = plain_above q t c below (now b) (held_by q s c b e) y in
          if_both SameSpare (has_window c b.probe && not (is_fixed_part q (window_part c b))) (has_window c b.probe && not (is_fixed_part q (window_part c b))) refl
          (option_map (opened_at q s c b e) o) None (option_map (opened_at q t c (now b) e) p) None
          (map_both SameSpare SameSpare (opened_at q s c b e) (opened_at q t c (now b) e) opened_same o p (above_same (held_by q s c b e))) tt
      spared_if_same (Some w) = open_same (plain_spot q s c b e x w) (plain_spot q t c (now b) e y w) (spot_same w)

    spared_same : (n : ℕ) (b : Function) → Contains s b → is_bridge b ≡ true → (e : Extent) (x y : Kept) → Match x y → BothOrNone SameSpare (plain_within q s c n b e x) (plain_within q t c n (now b) e y)
    unfolding plain_within
    spared_same zero b listed bridge e x y match = tt
    spared_same (suc n) b listed bridge e x y match =
        subst (λ o. BothOrNone SameSpare (plain_if q s c (plain_within q s c n) b e x (range_then q s x (window_part c b))) (plain_if q t c (plain_within q t c n) (now b) e y o)) (sym (match.range b (Window c) listed))
        (spared_if_same b listed bridge e (plain_within q s c n) (plain_within q t c n) (spared_same n) x y match (range_then q s x (window_part c b)))

  -- ---- all wishes

  -- the same ranges are kept, and the same is denied
  pub record IsSame (g h : Granted) : Type 0 where
    pub kept : Match g.kept h.kept
    pub denied : map slot_and_register h.denied ≡ map slot_and_register g.denied

  module _ (spare : WindowKind → Function → Option Extent) (bridges : (c : WindowKind) (b : Function) (e : Extent) → spare c b ≡ Some e → is_bridge b ≡ true)
      (alike : (c : WindowKind) (b : Function) → Contains s b → spare c (now b) ≡ spare c b) where
    module _ (c : WindowKind) (b : Function) (listed : Contains s b) (g h : Granted) (same : IsSame g h) where
      by_spared : (o p : Option Spared) → BothOrNone (SameSpare c) o p → IsSame (or_denied (window_part c b) g o) (or_denied (window_part c (now b)) h p)
      by_spared None None both = record {
        kept = same.kept;
        denied = map-append slot_and_register h.denied (window_part c (now b) ∷ [])
            ∙ ap (λ x. x ++ slot_and_register (window_part c b) ∷ []) same.denied
            ∙ sym (map-append slot_and_register g.denied (window_part c b ∷ []));
      }
      by_spared None (Some z) both = absurd both
      by_spared (Some a) None both = absurd both
      by_spared (Some a) (Some z) both = record { kept = both.kept; denied = same.denied }

      by_window : (e : Extent) → spare c b ≡ Some e → (there : Bool)
          → IsSame (cond there (or_denied (window_part c b) g (spared_behind q s c b e g.kept)) g) (cond there (or_denied (window_part c (now b)) h (spared_behind q t c (now b) e h.kept)) h)
      by_window e at true = by_spared (spared_behind q s c b e g.kept) (spared_behind q t c (now b) e h.kept) (subst (λ o. BothOrNone (SameSpare c) o (spared_behind q t c (now b) e h.kept)) (sym (plain_is q s c untold b e g.kept))
          (subst (BothOrNone (SameSpare c) (plain_within q s c 256 b e g.kept)) (sym (plain_is q t c untold (now b) e h.kept)) (spared_same c 256 b listed (bridges c b e at) e g.kept h.kept same.kept)))
      by_window e at false = same

      by_spare : (o : Option Extent) → spare c b ≡ o → IsSame (with_spare_of q s c b o g) (with_spare_of q t c (now b) o h)
      by_spare None at = same
      by_spare (Some e) at = by_window e at (has_window c b.probe)

      wish_same : IsSame (with_spare_of q s c b (spare c b) g) (with_spare_of q t c (now b) (spare c (now b)) h)
      wish_same = subst (λ o. IsSame (with_spare_of q s c b (spare c b) g) (with_spare_of q t c (now b) o h)) (sym (alike c b listed)) (by_spare (spare c b) refl)

    wishes_same : (b : Function) → Contains s b → (g h : Granted) → IsSame g h → IsSame (with_spares_of q s spare b g) (with_spares_of q t spare (now b) h)
    wishes_same b listed g h same = wish_same PrefetchWindow b listed _ _ (wish_same MemoryWindow b listed _ _ (wish_same IoWindow b listed g h same))

    pub all_same : (fs : System) → ((f : Function) → Contains fs f → Contains s f) → (g h : Granted) → IsSame g h → IsSame (with_all_spares q s spare g fs) (with_all_spares q t spare h (map now fs))
    all_same [] in_s g h same = same
    all_same (f ∷ more) in_s g h same = wishes_same f (in_s f (in_head f more)) _ _ (all_same more (λ b has. in_s b (in_tail f more b has)) g h same)
