-- A beginning of three lists behind one another, and a space that is on where Command is the same.
use Rattle.std.proofs.Common.{◌≡◌, ℕ, ◌+◌, ◌-◌, inl, inr, List, ◌++◌, true, arith, sym, ◌∙◌, ap, subst, length, take, drop}
use Rattle.std.proofs.lemmas.Bool.{cases_lt}
use Rattle.std.proofs.lemmas.List.{take-append-drop, take-append-le}
use Rattle.std.proofs.Math.Seq.{take-append-add}
use Rattle.pci_spec.specs.Number.{has_bit}
use Rattle.pci_spec.specs.Header.{command}
use Rattle.pci_spec.specs.System.{Function, Space, Io, Memory, is_space_on}

-- ---- what is never off

-- a beginning of three lists behind one another
pub in_three : {X : Type 0} (P : List X → Type 0) (a b c : List X) → ((p rest : List X) → p ++ rest ≡ a → P p) → ((p rest : List X) → p ++ rest ≡ b → P (a ++ p))
    → ((p rest : List X) → p ++ rest ≡ c → P (a ++ (b ++ p))) → (k : ℕ) → P (take k (a ++ (b ++ c)))
in_three P a b c first second third k = elim (cases_lt k (length a)) [
  | inl less ↦ subst P (sym (take-append-le k a (b ++ c) (omega (arith, less)))) (first (take k a) (drop k a) (take-append-drop k a))
  | inr past ↦
      let j = k - length a in
      let at : length a + j ≡ k = omega (arith, past) in
      subst (λ n. P (take n (a ++ (b ++ c)))) at (subst P (sym (take-append-add a (b ++ c) j))
      (elim (cases_lt j (length b)) [
        | inl less ↦ subst (λ ws. P (a ++ ws)) (sym (take-append-le j b c (omega (arith, less)))) (second (take j b) (drop j b) (take-append-drop j b))
        | inr more ↦
            let i = j - length b in
            let here : length b + i ≡ j = omega (arith, more) in
            subst (λ n. P (a ++ take n (b ++ c))) here (subst (λ ws. P (a ++ ws)) (sym (take-append-add b c i)) (third (take i c) (drop i c) (take-append-drop i c)))
      ]))
]

pub on_same : (f g : Function) → command g.image ≡ command f.image → (space : Space) → is_space_on f space ≡ true → is_space_on g space ≡ true
on_same f g e Io on = ap (λ n. has_bit n 0) e ∙ on
on_same f g e Memory on = ap (λ n. has_bit n 1) e ∙ on
