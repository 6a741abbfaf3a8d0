-- Every region is reached where each bridge passes what the bridges on its secondary bus pass.
use Rattle.std.proofs.Common.{◌≡◌, ℕ, zero, suc, ◌<◌, inl, inr, List, [], ◌∷◌, ◌++◌, refl, Bool, true, false, arith, sym, subst}
use Rattle.std.specs.Prelude.{⊤}
use Rattle.std.specs.Bool.{IsTrue}
use Rattle.std.specs.List.{list_all, Contains}
use Rattle.std.proofs.lemmas.Bool.{and_parts, and_from, cases_Bool}
use Rattle.pci_spec.specs.Header.{secondary_bus}
use Rattle.pci_spec.specs.System.{System, Function, Space, Part, Claims, passes, is_bridge, is_window, is_prefetchable_part, Leads, IsPassedTo}
use Rattle.pci_spec.specs.Bus.{secondary, is_root, LeadsTo, IsNested}
use Rattle.pci_spec.specs.Sound.{IsHome}
use Rattle.pci_spec.proofs.BusRanges.{root_means}
use Rattle.plan_spec.proofs.Planning.Safe.{order_of}

all_push : (test : Function → Bool) (xs : List Function) (x : Function) → list_all test xs ≡ true → test x ≡ true → list_all test (xs ++ x ∷ []) ≡ true
all_push test [] x all one = and_from (test x) true one refl
all_push test (y ∷ ys) x all one =
    let parts = and_parts (test y) (list_all test ys) all in
    and_from (test y) (list_all test (ys ++ x ∷ [])) parts.0 (all_push test ys x parts.1 one)

-- one more bridge at the end of a way
pub leads_push : (s : System) (from : ℕ) (bridges : List Function) (b : Function) → Contains s b → IsTrue (is_bridge b) → Leads s from bridges b.slot.bus
    → Leads s from (bridges ++ b ∷ []) (secondary b)
leads_push s from [] b listed bridge e = (listed, bridge, sym e, refl)
leads_push s from (c ∷ bridges) b listed bridge (in_c, is_c, on, rest) =
    (in_c, is_c, on, leads_push s (secondary_bus c.image) bridges b listed bridge rest)

-- bridges of which something is known pass an address, and so do the bridges to their buses, of which it is known too
module _ (roots : List ℕ) (s : System) (nested : IsNested roots s) (Known : Space → Function → Type 0) where
  module _ (space : Space) (prefetchable : Bool) (a : ℕ)
      (up : (b c : Function) → Contains s b → IsTrue (is_bridge b) → Known space b → IsTrue (passes space prefetchable a b) → LeadsTo s c b.slot.bus → Known space c × IsTrue (passes space prefetchable a c)) where
    way_to : (n : ℕ) (b : Function) → b.slot.bus < n → Contains s b → IsTrue (is_bridge b) → Known space b → IsTrue (passes space prefetchable a b) → IsPassedTo roots s space prefetchable a (secondary b)
    way_to zero b less listed bridge known passed = absurd (let impossible : ⊥ = omega (arith, less) in impossible)
    way_to (suc n) b less listed bridge known passed = elim (cases_Bool (is_root roots b.slot.bus)) [
      | inl root ↦ (b.slot.bus, (root_means roots b.slot.bus).0 root, b ∷ [], (listed, bridge, refl, refl), and_from (passes space prefetchable a b) true passed refl)
      | inr off ↦
          let one = nested.one b listed off in
          let c = one.0 in
          let leads = one.1 in
          let to = leads.2 in
          let rises = order_of roots s nested c leads.0 leads.1 in
          let next = up b c listed bridge known passed leads in
          let before = way_to n c (omega (arith, less, to, rises)) leads.0 leads.1 next.0 next.1 in
          let way : Leads s before.0 before.2 b.slot.bus = subst (λ bus. Leads s before.0 before.2 bus) to before.3 in
          (before.0, before.1, before.2 ++ b ∷ [], leads_push s before.0 before.2 b listed bridge way, all_push (passes space prefetchable a) before.2 b before.4 passed)
    ]

  pub home_by_known : ((f c : Function) (p : Part) (space : Space) (a : ℕ) → Contains s f → is_window p ≡ false → Claims f p space a → LeadsTo s c f.slot.bus → Known space c × IsTrue (passes space (is_prefetchable_part f p) a c))
      → ((b c : Function) (space : Space) (prefetchable : Bool) (a : ℕ) → Contains s b → IsTrue (is_bridge b) → Known space b → IsTrue (passes space prefetchable a b) → LeadsTo s c b.slot.bus → Known space c × IsTrue (passes space prefetchable a c))
      → IsHome roots s
  home_by_known first up f p space a listed plain claim = elim (cases_Bool (is_root roots f.slot.bus)) [
    | inl root ↦ (f.slot.bus, (root_means roots f.slot.bus).0 root, [], refl, refl)
    | inr off ↦
        let one = nested.one f listed off in
        let c = one.0 in
        let leads = one.1 in
        let to = leads.2 in
        let next = first f c p space a listed plain claim leads in
        let way = way_to space (is_prefetchable_part f p) a (λ b d. up b d space (is_prefetchable_part f p) a) (suc c.slot.bus) c (omega arith) leads.0 leads.1 next.0 next.1 in
        subst (λ bus. IsPassedTo roots s space (is_prefetchable_part f p) a bus) to way
  ]

pub home_by_steps : (roots : List ℕ) (s : System) → IsNested roots s
    → ((f c : Function) (p : Part) (space : Space) (a : ℕ) → Contains s f → is_window p ≡ false → Claims f p space a → LeadsTo s c f.slot.bus → IsTrue (passes space (is_prefetchable_part f p) a c))
    → ((b c : Function) (space : Space) (prefetchable : Bool) (a : ℕ) → Contains s b → IsTrue (is_bridge b) → IsTrue (passes space prefetchable a b) → LeadsTo s c b.slot.bus → IsTrue (passes space prefetchable a c))
    → IsHome roots s
home_by_steps roots s nested first up =
    home_by_known roots s nested (λ space b. ⊤) (λ f c p space a listed plain claim leads. (tt, first f c p space a listed plain claim leads))
    (λ b c space prefetchable a listed bridge known passed leads. (tt, up b c space prefetchable a listed bridge passed leads))
