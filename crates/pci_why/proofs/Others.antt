-- What other regions answer, claim by claim.
use Rattle.std.proofs.Common.{◌≡◌, ℕ, ◌+◌, ◌<◌, ◌≤◌, ◌⊎◌, inl, inr, List, [], ◌∷◌, ◌++◌, length, get_or, take, arith, subst, sym, ◌∙◌, ap}
use Rattle.std.specs.List.{All, Contains}
use Rattle.std.proofs.lemmas.List.{take_more, take_all}
use Rattle.std.proofs.lemmas.List.Elements.{All-append, Contains-append_left, Contains-append_right, Contains-append_cases, Contains-push, Contains-push_cases}
use Rattle.pci_spec.specs.Slot.{Slot}
use Rattle.pci_spec.proofs.Members.{in_nil}
use Rattle.pci_base.specs.declared.range.Range.{Range}
use Rattle.pci_tree.specs.Ranges.{Holds, Covers}
use Rattle.pci_claims.specs.Claim.{Claimed}
use Rattle.pci_why.specs.Free.{IsOther, IsAnsweredBeside, AreOfOthers}

-- ---- ranges of two lists

-- a range of the list has the address
covering : (rs : List Range) (a : ℕ) → Covers rs a → (r : Range) × Contains rs r × Holds r a
covering rs a (k, r, within, at, held) = (r, (k, within, at), held)

covered : (rs : List Range) (a : ℕ) (r : Range) → Contains rs r → Holds r a → Covers rs a
covered rs a r (k, within, at) held = (k, r, within, at, held)

covers_either : (xs ys : List Range) (a : ℕ) → Covers (xs ++ ys) a → Covers xs a ⊎ Covers ys a
covers_either xs ys a h =
    let (r, has, held) = covering (xs ++ ys) a h in
    elim (Contains-append_cases xs ys r has) [ inl left ↦ inl (covered xs a r left held) | inr right ↦ inr (covered ys a r right held) ]

covers_left : (xs ys : List Range) (a : ℕ) → Covers xs a → Covers (xs ++ ys) a
covers_left xs ys a h = let (r, has, held) = covering xs a h in covered (xs ++ ys) a r (Contains-append_left xs ys r has) held

covers_right : (xs ys : List Range) (a : ℕ) → Covers ys a → Covers (xs ++ ys) a
covers_right xs ys a h = let (r, has, held) = covering ys a h in covered (xs ++ ys) a r (Contains-append_right xs ys r has) held

-- ---- claim by claim

pub others_none : (slot : Slot) (register : ℕ) → AreOfOthers [] slot register []
others_none slot register = record {
  lawful = λ k d within. absurd (let no : ⊥ = omega (arith, within) in no);
  exact = λ a. (
    λ (h : Covers [] a). (let (r, has, held) = covering [] a h in absurd (in_nil r has)),
    λ (h : IsAnsweredBeside [] slot register a). absurd (in_nil h.c h.has),
  );
}

module _ (claims : List Claimed) (i : ℕ) (c : Claimed) (slot : Slot) (register : ℕ) (out : List Range) (within : i < length claims) (at : c ≡ get_or claims i c)
    (are : AreOfOthers (take i claims) slot register out) where
  split : take (i + 1) claims ≡ take i claims ++ c ∷ []
  split = take_more claims i c within ∙ ap (λ x. take i claims ++ x ∷ []) (sym at)

  -- one of those before answers
  before : (a : ℕ) → IsAnsweredBeside (take i claims) slot register a → IsAnsweredBeside (take (i + 1) claims) slot register a
  before a h = record { c = h.c; has = subst (λ l. Contains l h.c) (sym split) (Contains-append_left (take i claims) (c ∷ []) h.c h.has); other = h.other; covered = h.covered }

  -- one of those before answers, or this one
  either : (a : ℕ) → IsAnsweredBeside (take (i + 1) claims) slot register a → IsAnsweredBeside (take i claims) slot register a ⊎ (IsOther slot register c × Covers c.pieces a)
  either a h = elim (Contains-push_cases (take i claims) c h.c (subst (λ l. Contains l h.c) split h.has)) [
    | inl old ↦ inl record { c = h.c; has = old; other = h.other; covered = h.covered }
    | inr same ↦ inr (subst (IsOther slot register) (sym same) h.other, subst (λ (x : Claimed). Covers x.pieces a) (sym same) h.covered)
  ]

  pub others_more : (new : List Range) → IsOther slot register c → All (λ r. r.first ≤ r.last) c.pieces → new ≡ out ++ c.pieces → AreOfOthers (take (i + 1) claims) slot register new
  others_more new other lawful grown = subst (λ rs. AreOfOthers (take (i + 1) claims) slot register rs) (sym grown) record {
    lawful = All-append (λ r. r.first ≤ r.last) out c.pieces are.lawful lawful;
    exact = λ a. (
      λ (h : Covers (out ++ c.pieces) a). elim (covers_either out c.pieces a h) [
        | inl old ↦ before a ((are.exact a).0 old)
        | inr here ↦ record { c = c; has = subst (λ l. Contains l c) (sym split) (Contains-push (take i claims) c); other = other; covered = here }
      ],
      λ (h : IsAnsweredBeside (take (i + 1) claims) slot register a). elim (either a h) [
        | inl old ↦ covers_left out c.pieces a ((are.exact a).1 old)
        | inr here ↦ covers_right out c.pieces a here.1
      ],
    );
  }

  pub others_less : (IsOther slot register c → ⊥) → AreOfOthers (take (i + 1) claims) slot register out
  others_less own = record {
    lawful = are.lawful;
    exact = λ a. (
      λ (h : Covers out a). before a ((are.exact a).0 h),
      λ (h : IsAnsweredBeside (take (i + 1) claims) slot register a). elim (either a h) [ inl old ↦ (are.exact a).1 old | inr here ↦ absurd (own here.0) ],
    );
  }

pub others_all : (claims : List Claimed) (n : ℕ) (slot : Slot) (register : ℕ) (out : List Range) → length claims ≤ n → AreOfOthers (take n claims) slot register out → AreOfOthers claims slot register out
others_all claims n slot register out end are = subst (λ l. AreOfOthers l slot register out) (take_all n claims end) are
