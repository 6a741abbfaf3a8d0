-- A system whose functions were moved keeps its tree of buses and its capability lists.
use Rattle.std.proofs.Common.{◌≡◌, ℕ, suc, List, [], ◌∷◌, refl, Bool, ◌&&◌, ◌||◌, not, arith, sym, ◌∙◌, ap}
use Rattle.std.specs.Bool.{IsTrue, nat_le, nat_lt, ◌==◌}
use Rattle.std.specs.List.{Contains, AllZip, list_all}
use Rattle.std.proofs.lemmas.List.Elements.{All-contains}
use Rattle.pci_spec.specs.Number.{IsImage}
use Rattle.pci_spec.specs.Slot.{Slot}
use Rattle.pci_spec.specs.Header.{primary_bus}
use Rattle.pci_spec.specs.System.{System, Function, IsSystem, IsFunction, is_bridge}
use Rattle.pci_spec.specs.Bus.{secondary, subordinate, is_behind, is_root, IsNested}
use Rattle.pci_spec.specs.Sound.{HasChains}
use Rattle.plan_spec.specs.Plan.{IsMoved}
use Rattle.plan_spec.proofs.Planning.Moved.{bridge_same, primary_same, secondary_same, subordinate_same, chain_same}
use Rattle.pci_spec.proofs.Pairs.{member_back, member_forth}

-- what the tree sees of two images of a function
pub record IsSameBridge (f g : Function) : Type 0 where
  pub slot : g.slot ≡ f.slot
  pub bridge : is_bridge g ≡ is_bridge f
  pub primary : IsTrue (is_bridge f) → primary_bus g.image ≡ primary_bus f.image
  pub secondary_is : IsTrue (is_bridge f) → secondary g ≡ secondary f
  pub subordinate_is : IsTrue (is_bridge f) → subordinate g ≡ subordinate f

two : (T : ℕ → ℕ → ℕ → Bool) (a b c d e f : ℕ) → a ≡ b → c ≡ d → e ≡ f → T a c e ≡ T b d f
two T a b c d e f p q r = ap (λ x. T x c e) p ∙ ap (λ x. T b x e) q ∙ ap (λ x. T b d x) r

four : (T : ℕ → ℕ → ℕ → ℕ → Bool) (a b c d e f g h : ℕ) → a ≡ b → c ≡ d → e ≡ f → g ≡ h → T a c e g ≡ T b d f h
four T a b c d e f g h p q r s = two (λ x y z. T x y z g) a b c d e f p q r ∙ ap (λ x. T b d f x) s

module _ (roots : List ℕ) (s t : System) (pairs : AllZip IsSameBridge s t) (nested : IsNested roots s) where
  record Old (g : Function) : Type 0 where
    f : Function
    listed : Contains s f
    same : IsSameBridge f g

  old : (g : Function) → Contains t g → Old g
  old g in_g = let found = member_back IsSameBridge s t pairs g in_g in record { f = found.0; listed = found.1; same = found.2 }

  bus_of : (g : Function) (o : Old g) → g.slot.bus ≡ o.f.slot.bus
  bus_of g o = ap (λ (x : Slot). x.bus) o.same.slot

  was_bridge : (g : Function) (o : Old g) → IsTrue (is_bridge g) → IsTrue (is_bridge o.f)
  was_bridge g o b = sym o.same.bridge ∙ b

  behind : (c : Function) (o : Old c) (bus old_bus : ℕ) → IsTrue (is_bridge c) → bus ≡ old_bus → is_behind c bus ≡ is_behind o.f old_bus
  behind c o bus old_bus bridge e =
      let b = was_bridge c o bridge in
      two (λ x y z. nat_le x z && nat_le z y) (secondary c) (secondary o.f) (subordinate c) (subordinate o.f) bus old_bus (o.same.secondary_is b) (o.same.subordinate_is b) e

  ranges : (T : ℕ → ℕ → ℕ → ℕ → Bool) (b c : Function) (ob : Old b) (oc : Old c) → IsTrue (is_bridge b) → IsTrue (is_bridge c)
      → T (secondary b) (subordinate b) (secondary c) (subordinate c) ≡ T (secondary ob.f) (subordinate ob.f) (secondary oc.f) (subordinate oc.f)
  ranges T b c ob oc bridge_b bridge_c =
      let hb = was_bridge b ob bridge_b in
      let hc = was_bridge c oc bridge_c in
      four T (secondary b) (secondary ob.f) (subordinate b) (subordinate ob.f) (secondary c) (secondary oc.f) (subordinate c) (subordinate oc.f)
      (ob.same.secondary_is hb) (ob.same.subordinate_is hb) (oc.same.secondary_is hc) (oc.same.subordinate_is hc)

  pub nested_kept : IsNested roots t
  nested_kept = record {
    order = λ b in_b bridge.
        let o = old b in_b in
        let h = was_bridge b o bridge in
        four (λ p x y z. p == x && nat_lt x y && nat_le y z) (primary_bus b.image) (primary_bus o.f.image) b.slot.bus o.f.slot.bus (secondary b) (secondary o.f) (subordinate b) (subordinate o.f)
        (o.same.primary h) (bus_of b o) (o.same.secondary_is h) (o.same.subordinate_is h)
        ∙ nested.order o.f o.listed h;
    inside = λ b c in_b in_c bridge_b bridge_c is.
        let ob = old b in_b in
        let oc = old c in_c in
        ranges (λ sb ub sc uc. nat_le sc sb && nat_le ub uc && not (sb == sc && ub == uc)) b c ob oc bridge_b bridge_c
        ∙ nested.inside ob.f oc.f ob.listed oc.listed (was_bridge b ob bridge_b) (was_bridge c oc bridge_c) (sym (behind c oc b.slot.bus ob.f.slot.bus bridge_c (bus_of b ob)) ∙ is);
    apart = λ b c in_b in_c bridge_b bridge_c differ out_b out_c.
        let ob = old b in_b in
        let oc = old c in_c in
        ranges (λ sb ub sc uc. nat_lt ub sc || nat_lt uc sb) b c ob oc bridge_b bridge_c
        ∙ nested.apart ob.f oc.f ob.listed oc.listed (was_bridge b ob bridge_b) (was_bridge c oc bridge_c)
        (λ e. differ (ob.same.slot ∙ e ∙ sym oc.same.slot))
        (sym (behind c oc b.slot.bus ob.f.slot.bus bridge_c (bus_of b ob)) ∙ out_b)
        (sym (behind b ob c.slot.bus oc.f.slot.bus bridge_b (bus_of c oc)) ∙ out_c);
    clear = λ b in_b bridge.
        let o = old b in_b in
        let h = was_bridge b o bridge in
        ap (λ x. list_all (λ root. not (nat_le x root && nat_le root (subordinate b))) roots) (o.same.secondary_is h)
        ∙ ap (λ x. list_all (λ root. not (nat_le (secondary o.f) root && nat_le root x)) roots) (o.same.subordinate_is h)
        ∙ nested.clear o.f o.listed h;
    one = λ g in_g off_host.
        let o = old g in_g in
        let bus = bus_of g o in
        let found = nested.one o.f o.listed (sym (ap (is_root roots) bus) ∙ off_host) in
        let b = found.0 in
        let leads = found.1 in
        let after = member_forth IsSameBridge s t pairs b leads.0 in
        let now = after.0 in
        let in_now = after.1 in (
          now,
          ((in_now.0, in_now.1, in_now.2), after.2.bridge ∙ leads.1, after.2.secondary_is leads.1 ∙ leads.2 ∙ sym bus),
          λ c other.
              let oc = old c other.0 in
              let hc = was_bridge c oc other.1 in
              let listed = oc.listed in
              oc.same.slot ∙ found.2 oc.f ((listed.0, listed.1, listed.2), hc, sym (oc.same.secondary_is hc) ∙ other.2 ∙ bus) ∙ sym after.2.slot,
        );
  }

-- ---- of moved functions

moved_pairs : (s t : System) → ((f : Function) → Contains s f → IsImage f.image) → AllZip IsMoved s t → AllZip IsSameBridge s t
moved_pairs [] [] images pairs = pairs
moved_pairs [] (y ∷ t) images pairs = absurd pairs
moved_pairs (x ∷ s) [] images pairs = absurd pairs
moved_pairs (x ∷ s) (y ∷ t) images (m, rest) =
    let is = images x (0, omega arith, refl) in (
      record {
        slot = m.slot;
        bridge = bridge_same x y m is;
        primary = primary_same x y m is;
        secondary_is = secondary_same x y m is;
        subordinate_is = subordinate_same x y m is;
      },
      moved_pairs s t (λ f listed. images f (suc listed.0, (let l = listed.1 in omega (arith, l)), listed.2)) rest,
    )

pub images_of : (s : System) → IsSystem s → (f : Function) → Contains s f → IsImage f.image
images_of s system f listed = (All-contains IsFunction s f system.each listed).image

pub moved_nested : (roots : List ℕ) (s t : System) → IsSystem s → AllZip IsMoved s t → IsNested roots s → IsNested roots t
moved_nested roots s t system pairs nested = nested_kept roots s t (moved_pairs s t (images_of s system) pairs) nested

pub moved_chains : (s t : System) → IsSystem s → AllZip IsMoved s t → HasChains s → HasChains t
moved_chains s t system pairs chains g in_g =
    let found = member_back IsMoved s t pairs g in_g in
    let f = found.0 in
    let chain = chains f found.1 in
    (chain.0, chain_same f g found.2 (images_of s system f found.1) chain.0 chain.1)
