-- Regions with addresses that don't get to a bus.
use Rattle.std.proofs.Common.{◌≡◌, ℕ, ◌+◌, ◌<◌, List, length, get_or, sym, ◌∙◌, subst, inl, inr, arith, Option, Some, None, false}
use Rattle.std.specs.Prelude.{MatchOption}
use Rattle.std.specs.List.{AllWithin}
use Rattle.std.proofs.lemmas.Bool.{cases_lt, cases_eq}
use Rattle.std.proofs.lemmas.List.{get_or_default}
use Rattle.pci_spec.specs.Slot.{Slot}
use Rattle.pci_spec.specs.System.{Space}
use Rattle.pci_base.specs.declared.range.Range.{Range}
use Rattle.pci_tree.specs.declared.region.Region.{Region}
use Rattle.pci_tree.specs.Ranges.{Covers, Holds, IsLeastOutside}
use Rattle.pci_tree.specs.Regions.{is_of_window}
use Rattle.pci_check.specs.Stops.{Reaches, ranges_at, IsWholeAt, IsReachedAt, IsFirstOutside, IsBusBehind, IsWholeBehind, IsLeastLost}
use Rattle.pci_check.proofs.Sweeps.{at_each}

-- the range of a region
abbrev range_of : Region → Range
range_of r = record { first = r.first; last = r.last }

pub least_lost : (reaches : Reaches) (space : Space) (bus : ℕ) (r : Region) (ranges : List Range) (o : Option ℕ) → ranges ≡ ranges_at reaches space r.prefetch bus
    → MatchOption o ((a : ℕ) → Holds (range_of r) a → Covers ranges a) (λ a. IsLeastOutside (range_of r) ranges a)
    → MatchOption o (IsWholeAt reaches space bus r) (λ a. IsLeastLost reaches space bus r a)
least_lost reaches space bus r ranges None same h = λ a claims. subst (λ rs. Covers rs a) same (h a claims)
least_lost reaches space bus r ranges (Some a) same h = record {
  held = h.held;
  outside = λ covered. h.outside (subst (λ rs. Covers rs a) (sym same) covered);
  least = λ b less claims. subst (λ rs. Covers rs b) same (h.least b less claims);
}

-- one more region that is reached
pub reached_more : (reaches : Reaches) (space : Space) (bus i : ℕ) (regions : List Region) (x : Region) → i < length regions → x ≡ get_or regions i x
    → AllWithin (IsReachedAt reaches space bus) regions 0 i → IsReachedAt reaches space bus x → AllWithin (IsReachedAt reaches space bus) regions 0 (i + 1)
reached_more reaches space bus i regions x within is before here k d low high = elim (cases_eq k i) [
  | inl e ↦ subst (λ n. IsReachedAt reaches space bus (get_or regions n d)) (sym e)
      (subst (IsReachedAt reaches space bus) (is ∙ get_or_default regions i x d within) here)
  | inr ne ↦ before k d low (omega arith)
]

pub first_is_outside : (reaches : Reaches) (space : Space) (bus i : ℕ) (regions : List Region) (x : Region) → i < length regions → x ≡ get_or regions i x
    → AllWithin (IsReachedAt reaches space bus) regions 0 i → (is_of_window x.part ≡ false) × (IsWholeAt reaches space bus x → ⊥) → IsFirstOutside reaches space bus regions i
first_is_outside reaches space bus i regions x within is before here = record {
  within = within;
  before = before;
  no_window = at_each (λ r. is_of_window r.part ≡ false) regions i x within (subst (λ (y : Region). is_of_window y.part ≡ false) is here.0);
  outside = at_each (λ r. IsWholeAt reaches space bus r → ⊥) regions i x within (subst (λ (y : Region). IsWholeAt reaches space bus y → ⊥) is here.1);
}

-- the bus behind a bridge is one
behind_same : (path : List Slot) (end k b c : ℕ) → IsBusBehind path end k b → IsBusBehind path end k c → b ≡ c
behind_same path end k b c one two = elim (cases_lt (k + 1) (length path)) [
  | inl more ↦ (let z : Slot = record { bus = 0; device = 0; function = 0 } in sym (one.next more z) ∙ two.next more z)
  | inr last ↦ sym (one.last last) ∙ two.last last
]

-- one more bridge that passes the whole region
pub whole_more : (reaches : Reaches) (space : Space) (path : List Slot) (end : ℕ) (r : Region) (i bus : ℕ) → IsBusBehind path end i bus → IsWholeAt reaches space bus r
    → ((k : ℕ) → k < i → IsWholeBehind reaches space path end r k) → (k : ℕ) → k < i + 1 → IsWholeBehind reaches space path end r k
whole_more reaches space path end r i bus behind here before k less other is = elim (cases_eq k i) [
  | inl e ↦ subst (λ n. IsWholeAt reaches space n r) (behind_same path end i bus other behind (subst (λ n. IsBusBehind path end n other) e is)) here
  | inr ne ↦ before k (omega arith) other is
]
