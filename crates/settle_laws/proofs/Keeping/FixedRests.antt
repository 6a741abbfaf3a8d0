-- What is fixed is as it was, where no write is to it.
use Rattle.std.proofs.Common.{◌≡◌, inl, inr, List, [], ◌∷◌, map, Bool, true, false, cond, sym, ◌∙◌, ap, Some, None}
use Rattle.std.specs.List.{Contains, find, list_any}
use Rattle.std.proofs.lemmas.Bool.{both_ways, cases_Bool, false_from_ne_true}
use Rattle.pci_spec.specs.Slot.{Slot, same_slot}
use Rattle.pci_spec.specs.Machine.{Write}
use Rattle.pci_spec.specs.System.{System, Function}
use Rattle.pci_spec.proofs.Members.{in_nil, in_cons_cases}
use Rattle.pci_spec.proofs.SameSlot.{slots_same}
use Rattle.plan_spec.proofs.Planning.Settled.{function_after, system_by_function}
use Rattle.settle_spec.specs.Lists.{Request}
use Rattle.settle_spec.specs.Writes.{fixed_write}
use Rattle.settle_spec.specs.Kept.{Kept}
use Rattle.settle_spec.specs.Keeping.Registers.{settled_function}
use Rattle.settle_spec.specs.Keeping.Writes.{settle_writes}
use Rattle.settle_laws.specs.Keeping.PlacesLaws.{CanSettle}
use Rattle.settle_laws.proofs.StagePrefixes.{others_leave}
use Rattle.settle_laws.proofs.Keeping.Stopping.{writes_settle}

-- functions that make the same list are alike on each of its members
map_at : {X Y : Type 0} (g h : X → Y) (xs : List X) → map g xs ≡ map h xs → (x : X) → Contains xs x → g x ≡ h x
map_at g h [] same x has = absurd (in_nil x has)
map_at g h (y ∷ xs) same x has =
    let first : g y ≡ h y = cc in
    let rest : map g xs ≡ map h xs = cc in
    elim (in_cons_cases y xs x has) [
      | inl here ↦ ap g (sym here) ∙ first ∙ ap h here
      | inr later ↦ map_at g h xs rest x later
    ]

-- where nothing is found, nothing passes
pub not_found : {X : Type 0} (test : X → Bool) (xs : List X) → find test xs ≡ None → (x : X) → Contains xs x → test x ≡ false
not_found test [] none x has = absurd (in_nil x has)
not_found test (y ∷ xs) none x has = elim (cases_Bool (test y)) [
  | inl here ↦
      let found : Some y ≡ None = sym (ap (λ b. cond b (Some y) (find test xs)) here) ∙ none in
      absurd (let differ : ⊥ = cc in differ)
  | inr off ↦
      let rest : find test xs ≡ None = sym (ap (λ b. cond b (Some y) (find test xs)) off) ∙ none in
      elim (in_cons_cases y xs x has) [ inl is ↦ ap test (sym is) ∙ off | inr later ↦ not_found test xs rest x later ]
]

module _ (q : Request) (s : System) (k : Kept) (can : CanSettle q s k) (unwritten : fixed_write q (settle_writes q s k) ≡ None) where
  -- no write is to what is fixed
  elsewhere : (f : Function) → list_any (same_slot f.slot) q.fixed ≡ true → (x : Write) → Contains (settle_writes q s k) x → same_slot f.slot x.slot ≡ false
  elsewhere f fixed x has = false_from_ne_true (same_slot f.slot x.slot) (λ here.
      both_ways (list_any (same_slot x.slot) q.fixed) (not_found (λ (w : Write). list_any (same_slot w.slot) q.fixed) (settle_writes q s k) unwritten x has)
      (ap (λ (z : Slot). list_any (same_slot z) q.fixed) (sym (slots_same f.slot x.slot here)) ∙ fixed))

  -- so what is fixed is as it was
  pub fixed_rests : (f : Function) → Contains s f → list_any (same_slot f.slot) q.fixed ≡ true → settled_function q s k f ≡ f
  fixed_rests f listed fixed =
      sym (map_at (λ f. function_after f (settle_writes q s k)) (settled_function q s k) s (sym (system_by_function s (settle_writes q s k)) ∙ writes_settle q s k can) f listed)
      ∙ others_leave f (settle_writes q s k) (elsewhere f fixed)
