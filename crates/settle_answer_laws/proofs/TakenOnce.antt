-- Words take a function as one function, and a system as one system.
use Rattle.std.proofs.Common.{◌≡◌, List, [], ◌∷◌, inl, inr, sym, ◌∙◌, ap, subst, refl}
use Rattle.std.specs.Prelude.{IsTrue}
use Rattle.std.specs.List.{AllZip}
use Rattle.pci_spec.specs.Slot.{Slot}
use Rattle.pci_spec.specs.System.{Function, System}
use Rattle.pci_spec.specs.Order.{Place}
use Rattle.judge_spec.specs.ModelWords.{Words}
use Rattle.judge_spec.specs.Taken.{HasNoOwnFaultBefore, IsTakenAs, IsWhere, bridge_aside, cardbus_aside, fixed_parts_by, may_have_parts_by, parts_aside}

same_where : (Condition : Type 0) (f changed g h : Function) → IsWhere Condition f changed g → IsWhere Condition f changed h → g ≡ h
same_where Condition f changed g h (inl (holds, one)) (inl (again, other)) = one ∙ sym other
same_where Condition f changed g h (inl (holds, one)) (inr (fails, other)) = absurd (fails holds)
same_where Condition f changed g h (inr (fails, one)) (inl (holds, other)) = absurd (fails holds)
same_where Condition f changed g h (inr (fails, one)) (inr (again, other)) = one ∙ sym other

module _ (w : Words) (slots : List Slot) where
  abbrev Parts : Function → Function → Function → Type 0
  Parts f g k =
      IsWhere (IsTrue (may_have_parts_by w (bridge_aside w slots g)) × HasNoOwnFaultBefore Place (bridge_aside w slots g))
      (bridge_aside w slots g) (parts_aside w (fixed_parts_by w f) (bridge_aside w slots g)) k

  taken_once : (f h k : Function) → IsTakenAs w slots f h → IsTakenAs w slots f k → h ≡ k
  taken_once f h k one other =
      let awake : one.g ≡ other.g = same_where _ _ _ one.g other.g one.power other.power in
      let parts : Parts f other.g one.k = subst (λ g. Parts f g one.k) awake one.parts in
      one.header ∙ ap (cardbus_aside w) (same_where _ _ _ one.k other.k parts other.parts) ∙ sym other.header

  pub each_once : (s t u : System) → AllZip (IsTakenAs w slots) s t → AllZip (IsTakenAs w slots) s u → t ≡ u
  each_once [] [] [] one other = refl
  each_once [] [] (k ∷ u) one other = absurd other
  each_once [] (h ∷ t) u one other = absurd one
  each_once (f ∷ s) [] u one other = absurd one
  each_once (f ∷ s) (h ∷ t) [] one other = absurd other
  each_once (f ∷ s) (h ∷ t) (k ∷ u) (first, rest) (also, more) =
      let head = taken_once f h k first also in
      let tail = each_once s t u rest more in
      λ i. head i ∷ tail i
