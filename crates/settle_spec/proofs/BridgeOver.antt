-- The bridge over a bus, as a search through the functions finds it.
use Rattle.std.proofs.Common.{◌≡◌, ℕ, inl, inr, Option, List, [], ◌∷◌, Bool, cond, ◌&&◌, Some, None, sym, ◌∙◌, ap, subst, refl}
use Rattle.std.specs.Bool.{IsTrue, IsFalse, ◌==◌}
use Rattle.std.specs.List.{Contains, find}
use Rattle.std.proofs.lemmas.Bool.{cases_Bool, and_parts, and_from, eqb-true, eq-eqb, both_ways}
use Rattle.pci_spec.specs.System.{System, Function, IsSystem, is_bridge}
use Rattle.pci_spec.specs.Bus.{secondary, IsNested, LeadsTo}
use Rattle.pci_spec.proofs.Members.{in_nil, in_head, in_tail, in_cons_cases}
use Rattle.settle_spec.specs.Parts.{bridge_over}
use Rattle.settle_spec.proofs.Nested.{one_bridge}

module _ {X : Type 0} (test : X → Bool) where
  -- what is found is in the list, and passes
  pub found : (xs : List X) (x : X) → find test xs ≡ Some x → Contains xs x × IsTrue (test x)
  found [] x e = cc
  found (y ∷ xs) x e = elim (cases_Bool (test y)) [
    | inl fine ↦
        let here : Some y ≡ Some x = sym (ap (λ b. cond b (Some y) (find test xs)) fine) ∙ e in
        let same : y ≡ x = cc in
        (subst (Contains (y ∷ xs)) same (in_head y xs), subst (λ z. IsTrue (test z)) same fine)
    | inr off ↦
        let more = found xs x (sym (ap (λ b. cond b (Some y) (find test xs)) off) ∙ e) in
        (in_tail y xs x more.0, more.1)
  ]

  -- where nothing is found, nothing passes
  not_found : (xs : List X) → find test xs ≡ None → (x : X) → Contains xs x → IsFalse (test x)
  not_found [] e x listed = absurd (in_nil x listed)
  not_found (y ∷ xs) e x listed = elim (cases_Bool (test y)) [
    | inl fine ↦
        let here : Some y ≡ None = sym (ap (λ b. cond b (Some y) (find test xs)) fine) ∙ e in
        cc
    | inr off ↦ elim (in_cons_cases y xs x listed) [
      | inl same ↦ subst (λ z. IsFalse (test z)) same off
      | inr later ↦ not_found xs (sym (ap (λ b. cond b (Some y) (find test xs)) off) ∙ e) x later
    ]
  ]

abbrev leads : ℕ → Function → Bool
leads bus b = is_bridge b && secondary b == bus

pub over_leads : (s : System) (bus : ℕ) (b : Function) → bridge_over s bus ≡ Some b → LeadsTo s b bus
over_leads s bus b e =
    let is = found (leads bus) s b e in
    let parts = and_parts (is_bridge b) (secondary b == bus) is.1 in
    (is.0, parts.0, eqb-true (secondary b) bus parts.1)

pub none_leads : (s : System) (bus : ℕ) → bridge_over s bus ≡ None → (b : Function) → LeadsTo s b bus → ⊥
none_leads s bus e b (listed, bridge, to) =
    both_ways (leads bus b) (not_found (leads bus) s e b listed) (and_from (is_bridge b) (secondary b == bus) bridge (eq-eqb (secondary b) bus to))

-- where buses nest, it is each bridge that leads there
pub over_is : (roots : List ℕ) (s : System) → IsSystem s → IsNested roots s → (bus : ℕ) (f : Function) → LeadsTo s f bus → bridge_over s bus ≡ Some f
over_is roots s system nested bus f leading = elim (bridge_over s bus) as (λ (o : Option Function). bridge_over s bus ≡ o → bridge_over s bus ≡ Some f) [
  | None ↦ λ e. absurd (none_leads s bus e f leading)
  | Some b ↦ λ e.
      let is = over_leads s bus b e in
      e ∙ ap Some (one_bridge roots s system nested b f is.0 leading.0 is.1 leading.1 (is.2 ∙ sym leading.2))
] refl
