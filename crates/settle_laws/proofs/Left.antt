-- What is left of a safe system is safe, where the bridges above what is left pass what they passed.
use Rattle.std.proofs.Common.{◌≡◌, ℕ, inl, inr, List, [], ◌∷◌, refl, Bool, true, false, sym, ◌∙◌, ap, subst, map}
use Rattle.std.specs.List.{Contains, list_all}
use Rattle.std.proofs.lemmas.Bool.{and_parts, and_from}
use Rattle.pci_spec.specs.Number.{IsImage}
use Rattle.pci_spec.specs.Slot.{Slot}
use Rattle.pci_spec.specs.Header.{layout, secondary_bus, rom_register}
use Rattle.pci_spec.specs.System.{System, Function, IsSystem, Space, Part, Bar, Rom, Window, Claims, forwards, passes, is_bridge, is_window, is_prefetchable_part, register_of, Leads, Gets, IsPassedTo}
use Rattle.pci_spec.specs.Bus.{secondary, IsNested}
use Rattle.pci_spec.specs.Sound.{IsSingle, IsHome, IsSameRegion}
use Rattle.pci_spec.proofs.BusRanges.{behind_of_within}
use Rattle.pci_spec.proofs.Members.{in_nil, in_cons_cases, in_head, in_tail, IsMade, in_map_to, in_map_from}
use Rattle.pci_spec.proofs.Ways.{behind_each}
use Rattle.plan_spec.specs.Plan.{IsMoved, bridges_above}
use Rattle.plan_spec.specs.Planning.Safety.{IsSafe}
use Rattle.plan_spec.proofs.Planning.AboveBuses.{above_from}
use Rattle.plan_spec.proofs.Planning.Kept.{images_of}
use Rattle.plan_spec.proofs.Planning.Moved.{layout_same, bridge_same, secondary_same}
use Rattle.settle_laws.proofs.Images.{function_at}

-- Each function of a system as it is in what is left, `h`, and in the whole, `w`.
pub record IsLeft (s : System) (h w : Function → Function) : Type 0 where
  -- what claims an address claims it in the whole
  pub claimed : (f : Function) (p : Part) (space : Space) (a : ℕ) → Contains s f → Claims (h f) p space a → Claims (w f) p space a
  -- a bridge forwards what it forwards in the whole
  pub forwarded : (space : Space) (a : ℕ) (b : Function) → Contains s b → is_bridge b ≡ true → forwards space a (h b) ≡ true → forwards space a (w b) ≡ true
  -- a bridge above what claims an address passes it where it does in the whole
  pub passed : (f b : Function) (p : Part) (space : Space) (a : ℕ) → Contains s f → is_window p ≡ false → Claims (h f) p space a
      → Contains (bridges_above s f.slot.bus) b → passes space (is_prefetchable_part f p) a (w b) ≡ true → passes space (is_prefetchable_part f p) a (h b) ≡ true

pub register_by : (f g : Function) → layout f.image ≡ layout g.image → (p : Part) → register_of f p ≡ register_of g p
register_by f g kind (Bar n) = refl
register_by f g kind Rom = ap rom_register kind
register_by f g kind (Window c) = refl

prefetchable_by : (f g : Function) → f.probe ≡ g.probe → (p : Part) → is_prefetchable_part f p ≡ is_prefetchable_part g p
prefetchable_by f g probe (Bar n) = ap (λ b. is_prefetchable_part (function_at f.slot f.image b) (Bar n)) probe
prefetchable_by f g probe Rom = refl
prefetchable_by f g probe (Window c) = refl

pub all_over : (p r : Function → Bool) (h w : Function → Function) (bs : List Function) → ((b : Function) → Contains bs b → p (h b) ≡ true → r (w b) ≡ true)
    → list_all p (map h bs) ≡ true → list_all r (map w bs) ≡ true
all_over p r h w [] each all = refl
all_over p r h w (b ∷ bs) each all =
    let parts = and_parts (p (h b)) (list_all p (map h bs)) all in
    and_from (r (w b)) (list_all r (map w bs)) (each b (in_head b bs) parts.0) (all_over p r h w bs (λ c has. each c (in_tail b bs c has)) parts.1)

-- ---- ways, where functions are moved one by one

module _ (s : System) (images : (f : Function) → Contains s f → IsImage f.image) (h : Function → Function) (moved : (f : Function) → Contains s f → IsMoved f (h f)) where
  pub record IsWayOf (from : ℕ) (bridges : List Function) (to : ℕ) : Type 0 where
    pub of : List Function
    pub leads : Leads s from of to
    pub is : map h of ≡ bridges

  pub way_before : (from : ℕ) (bridges : List Function) (to : ℕ) → Leads (map h s) from bridges to → IsWayOf from bridges to
  way_before from [] to e = record { of = []; leads = e; is = refl }
  way_before from (c ∷ bridges) to (listed, bridge, on, rest) =
      let made : IsMade h s c = in_map_to h s c listed in
      let b = made.from in
      let has = made.has in
      let m = moved b (has.0, has.1, has.2) in
      let image = images b (has.0, has.1, has.2) in
      let bridge_b : is_bridge b ≡ true = sym (bridge_same b (h b) m image) ∙ ap is_bridge made.is ∙ bridge in
      let bus_b : b.slot.bus ≡ from = ap (λ (t : Slot). t.bus) (sym m.slot) ∙ ap (λ (g : Function). g.slot.bus) made.is ∙ on in
      let next : secondary_bus c.image ≡ secondary_bus b.image = sym (ap secondary made.is) ∙ secondary_same b (h b) m image bridge_b in
      let more = way_before (secondary_bus b.image) bridges to (subst (λ n. Leads (map h s) n bridges to) next rest) in
      record {
        of = b ∷ more.of;
        leads = ((has.0, has.1, has.2), bridge_b, bus_b, more.leads);
        is = ap (λ (g : Function). g ∷ map h more.of) made.is ∙ ap (λ t. c ∷ t) more.is;
      }

  pub way_after : (from : ℕ) (bs : List Function) (to : ℕ) → Leads s from bs to → Leads (map h s) from (map h bs) to
  way_after from [] to e = e
  way_after from (b ∷ bs) to (has, bridge, on, rest) =
      let m = moved b has in
      let image = images b has in (
        in_map_from h s b has,
        bridge_same b (h b) m image ∙ bridge,
        ap (λ (t : Slot). t.bus) m.slot ∙ on,
        subst (λ n. Leads (map h s) n (map h bs) to) (sym (secondary_same b (h b) m image bridge)) (way_after (secondary_bus b.image) bs to rest),
      )

pub record IsOnWay (s : System) (b : Function) : Type 0 where
  pub listed : Contains s b
  pub bridge : is_bridge b ≡ true

pub on_way : (s : System) (from : ℕ) (bs : List Function) (to : ℕ) → Leads s from bs to → (b : Function) → Contains bs b → IsOnWay s b
on_way s from [] to leads b has = absurd (in_nil b has)
on_way s from (c ∷ bs) to (listed, bridge, on, rest) b has = elim (in_cons_cases c bs b has) [
  | inl is ↦ subst (IsOnWay s) is record { listed = listed; bridge = bridge }
  | inr more ↦ on_way s (secondary_bus c.image) bs to rest b more
]

-- ---- what is left

module _ (roots : List ℕ) (s : System) (system : IsSystem s) (nested : IsNested roots s) (h w : Function → Function)
    (moved_h : (f : Function) → Contains s f → IsMoved f (h f)) (moved_w : (f : Function) → Contains s f → IsMoved f (w f)) (left : IsLeft s h w) where
  images : (f : Function) → Contains s f → IsImage f.image
  images = images_of s system

  kind : (f : Function) → Contains s f → layout (h f).image ≡ layout (w f).image
  kind f listed = layout_same f (h f) (moved_h f listed) (images f listed) ∙ sym (layout_same f (w f) (moved_w f listed) (images f listed))

  pub got : (space : Space) (a bus : ℕ) → Gets roots (map h s) space a bus → Gets roots (map w s) space a bus
  got space a bus (root, starts, bridges, leads, all) =
      let way = way_before s images h moved_h root bridges bus leads in (
        root,
        starts,
        map w way.of,
        way_after s images w moved_w root way.of bus way.leads,
        all_over (forwards space a) (forwards space a) h w way.of (λ b has e.
            let at = on_way s root way.of bus way.leads b has in
            left.forwarded space a b at.listed at.bridge e)
            (subst (λ bs. list_all (forwards space a) bs ≡ true) (sym way.is) all),
      )

  same_region : (f g : Function) (p r : Part) → Contains s f → Contains s g → IsSameRegion (w f) p (w g) r → IsSameRegion (h f) p (h g) r
  same_region f g p r in_f in_g (slots, registers) = (
    (moved_h f in_f).slot ∙ sym (moved_w f in_f).slot ∙ slots ∙ (moved_w g in_g).slot ∙ sym (moved_h g in_g).slot,
    register_by (h f) (w f) (kind f in_f) p ∙ registers ∙ sym (register_by (h g) (w g) (kind g in_g) r),
  )

  -- one function of what is left, as it is in the start
  record IsOf (g : Function) : Type 0 where
    f : Function
    listed : Contains s f
    is : h f ≡ g
    bus : (w f).slot.bus ≡ g.slot.bus

  of : (g : Function) → Contains (map h s) g → IsOf g
  of g has =
      let made : IsMade h s g = in_map_to h s g has in
      let listed = made.has in
      record {
        f = made.from;
        listed = listed;
        is = made.is;
        bus = ap (λ (t : Slot). t.bus) ((moved_w made.from (listed.0, listed.1, listed.2)).slot ∙ sym (moved_h made.from (listed.0, listed.1, listed.2)).slot) ∙ ap (λ (x : Function). x.slot.bus) made.is;
      }

  region_of : (f g : Function) (p r : Part) (of_f : IsOf f) (of_g : IsOf g) → IsSameRegion (w of_f.f) p (w of_g.f) r → IsSameRegion f p g r
  region_of f g p r of_f of_g same =
      let listed_f = of_f.listed in
      let listed_g = of_g.listed in
      subst (λ x. IsSameRegion x p g r) of_f.is (subst (λ y. IsSameRegion (h of_f.f) p y r) of_g.is
      (same_region of_f.f of_g.f p r (listed_f.0, listed_f.1, listed_f.2) (listed_g.0, listed_g.1, listed_g.2) same))

  claimed_of : (g : Function) (p : Part) (space : Space) (a : ℕ) (of_g : IsOf g) → Claims g p space a → Claims (w of_g.f) p space a
  claimed_of g p space a of_g c =
      let listed = of_g.listed in
      left.claimed of_g.f p space a (listed.0, listed.1, listed.2) (subst (λ x. Claims x p space a) (sym of_g.is) c)

  listed_of : (g : Function) (of_g : IsOf g) → Contains (map w s) (w of_g.f)
  listed_of g of_g = in_map_from w s of_g.f of_g.listed

  left_single : IsSingle roots (map w s) → IsSingle roots (map h s)
  left_single single = record {
    on_a_bus = λ space a bus gets f g p r in_f in_g at_f at_g claim_f claim_g.
        let of_f = of f in_f in
        let of_g = of g in_g in
        region_of f g p r of_f of_g
        (single.on_a_bus space a bus (got space a bus gets) (w of_f.f) (w of_g.f) p r (listed_of f of_f) (listed_of g of_g)
        (of_f.bus ∙ at_f) (of_g.bus ∙ at_g) (claimed_of f p space a of_f claim_f) (claimed_of g r space a of_g claim_g));
    over_roots = λ space a f g p r in_f in_g root_f root_g claim_f claim_g.
        let of_f = of f in_f in
        let of_g = of g in_g in
        region_of f g p r of_f of_g
        (single.over_roots space a (w of_f.f) (w of_g.f) p r (listed_of f of_f) (listed_of g of_g)
        (subst (Contains roots) (sym of_f.bus) root_f) (subst (Contains roots) (sym of_g.bus) root_g)
        (claimed_of f p space a of_f claim_f) (claimed_of g r space a of_g claim_g));
  }

  -- ---- and each region is reached

  reached : (f : Function) (p : Part) (space : Space) (a : ℕ) → Contains s f → is_window p ≡ false → Claims (h f) p space a
      → IsPassedTo roots (map w s) space (is_prefetchable_part (w f) p) a (w f).slot.bus → IsPassedTo roots (map h s) space (is_prefetchable_part (h f) p) a (h f).slot.bus
  reached f p space a in_f plain claim (root, starts, bridges, leads, all) =
      let bus_w : (w f).slot.bus ≡ f.slot.bus = ap (λ (t : Slot). t.bus) (moved_w f in_f).slot in
      let bus_h : f.slot.bus ≡ (h f).slot.bus = sym (ap (λ (t : Slot). t.bus) (moved_h f in_f).slot) in
      let pre_h : is_prefetchable_part (h f) p ≡ is_prefetchable_part f p = prefetchable_by (h f) f (moved_h f in_f).probe p in
      let pre_w : is_prefetchable_part (w f) p ≡ is_prefetchable_part f p = prefetchable_by (w f) f (moved_w f in_f).probe p in
      let way = way_before s images w moved_w root bridges f.slot.bus (subst (λ n. Leads (map w s) root bridges n) bus_w leads) in
      let all_w : list_all (passes space (is_prefetchable_part f p) a) bridges ≡ true = subst (λ t. list_all (passes space t a) bridges ≡ true) pre_w all in
      let through : (b : Function) → Contains way.of b → passes space (is_prefetchable_part f p) a (w b) ≡ true → passes space (is_prefetchable_part f p) a (h b) ≡ true =
      λ b has e.
      let at = on_way s root way.of f.slot.bus way.leads b has in
      let within = behind_each roots s nested root way.of f.slot.bus way.leads b has in
      left.passed f b p space a in_f plain claim (above_from s f.slot.bus b record { listed = at.listed; bridge = at.bridge; behind = behind_of_within b f.slot.bus within }) e in (
        root,
        starts,
        map h way.of,
        subst (λ n. Leads (map h s) root (map h way.of) n) bus_h (way_after s images h moved_h root way.of f.slot.bus way.leads),
        subst (λ t. list_all (passes space t a) (map h way.of) ≡ true) (sym pre_h)
            (all_over (passes space (is_prefetchable_part f p) a) (passes space (is_prefetchable_part f p) a) w h way.of through
            (subst (λ bs. list_all (passes space (is_prefetchable_part f p) a) bs ≡ true) (sym way.is) all_w)),
      )

  left_home : IsHome roots (map w s) → IsHome roots (map h s)
  left_home home g p space a in_g plain claim =
      let of_g = of g in_g in
      let listed = of_g.listed in
      subst (λ x. IsPassedTo roots (map h s) space (is_prefetchable_part x p) a x.slot.bus) of_g.is
      (reached of_g.f p space a (listed.0, listed.1, listed.2) plain (subst (λ x. Claims x p space a) (sym of_g.is) claim)
      (home (w of_g.f) p space a (listed_of g of_g) plain (claimed_of g p space a of_g claim)))

  pub left_safe : IsSafe roots (map w s) → IsSafe roots (map h s)
  left_safe safe = record { single = left_single safe.single; home = left_home safe.home }
