-- What is free on a root bus, and of a window.
use Rattle.std.proofs.Common.{◌≡◌, ℕ, ◌+◌, ◌-◌, ◌<◌, ◌≤◌, List, [], ◌∷◌, map, max, min, sym, ◌∙◌, subst, inl, inr, arith, true, false, if◌then◌else◌}
use Rattle.std.specs.Prelude.{nat_lt, ◌↔◌}
use Rattle.std.specs.Option.{is_some}
use Rattle.std.specs.List.{All}
use Rattle.std.proofs.lemmas.Bool.{cases_Bool, both_ways, ltb-true}
use Rattle.std.proofs.lemmas.List.Elements.{All-append, All-cons, All-nil}
use Rattle.pci_spec.specs.System.{System, Space, IsAddress}
use Rattle.pci_spec.specs.Decoded as decoded
use Rattle.pci_spec.specs.Why.{AreRuns}
use Rattle.pci_spec.proofs.Members.{pairs_nil}
use Rattle.judge_spec.specs.Given.{Given, ranges_said}
use Rattle.judge_spec.specs.ToldClaims.{Told}
use Rattle.judge_spec.specs.Lines.{IsClaimedOn, IsFreeOn}
use Rattle.pci_base.specs.declared.range.Range.{Range}
use Rattle.pci_base.specs.Ranges.{decoded_range_of}
use Rattle.pci_tree.specs.declared.region.Region.{Region}
use Rattle.pci_tree.specs.Ranges.{Holds, Covers}
use Rattle.pci_claims.specs.Gathered.{IsGathered, IsCommon}
use Rattle.pci_claims.specs.Sent.{IsSentTo}
use Rattle.pci_claims.specs.Found.{range_at}
use Rattle.pci_claims.proofs.Runs.{runs_of}
use Rattle.pci_claims.specs.Isa.{is_cut_region, AreLeftByIsa}
use Rattle.pci_claims.proofs.Cutting.{cut_from_where, never_cut_from}
use Rattle.pci_claims.specs.Gaps.{piece, between, gaps}
use Rattle.pci_map.specs.Gaps.{AreClaimed, AreFreeInside}
use Rattle.pci_claims.proofs.GapRanges.{gaps_to, gaps_from, gaps_canonical}

-- ---- no gap is empty

abbrev HasAddress : Range → Type 0
HasAddress r = r.first ≤ r.last

piece_has : (first end : ℕ) → All HasAddress (piece first end)
piece_has first end = elim (cases_Bool (nat_lt first end)) [
  | inl some ↦ (
      let less = ltb-true first end some in
      let one : Range = record { first = first; last = end - 1 } in
      subst (λ b. All HasAddress (if b then one ∷ [] else [])) (sym some) (All-cons HasAddress one [] (omega (arith, less)) (All-nil HasAddress)))
  | inr none ↦ subst (λ b. All HasAddress (if b then record { first = first; last = end - 1 } ∷ [] else [])) (sym none) (All-nil HasAddress)
]

pub gaps_have : (range : Range) (from : ℕ) (rs : List Range) → All HasAddress (gaps range from rs)
unfolding gaps
gaps_have range from [] = piece_has (max from range.first) (min (range.last + 1) (range.last + 1))
gaps_have range from (r ∷ rs) =
    All-append HasAddress (between range from r.first) (gaps range (max from (r.last + 1)) rs) (piece_has (max from range.first) (min r.first (range.last + 1))) (gaps_have range (max from (r.last + 1)) rs)

-- ---- runs

pub no_runs : (P : ℕ → Type 0) (rs : List Range) → rs ≡ [] → ((a : ℕ) → P a → ⊥) → AreRuns P (map decoded_range_of rs)
no_runs P rs none not = subst (λ (xs : List Range). AreRuns P (map decoded_range_of xs)) (sym none) record {
  each = λ k d within. absurd (let no : ⊥ = omega (arith, within) in no);
  complete = λ a p. absurd (not a p);
  rising = pairs_nil (λ (r t : decoded.Range). r.last < t.first);
}

pub none_said : (told : Told) (given : Given) (s : System) (bus : ℕ) (space : Space) (a : ℕ) → is_some (ranges_said given space) ≡ false → IsFreeOn told given s bus space a → ⊥
none_said told given s bus space a not free = both_ways (is_some (ranges_said given space)) not free.said

-- what none of the claimed ranges has
module _ (told : Told) (given : Given) (s : System) (bus : ℕ) (space : Space) (claimed : List Range) (are : AreClaimed told given s bus space claimed) (whole : Range) where
  gap_unclaimed : (a : ℕ) → Covers (gaps whole 0 claimed) a → Holds whole a × (IsClaimedOn told given s bus space a → ⊥)
  gap_unclaimed a covered = (
      let gap = gaps_to whole 0 claimed a are.sorted are.some covered in
      (gap.0, λ (h : IsClaimedOn told given s bus space a). gap.2 ((are.exact a).1 h)))

  unclaimed_gap : (a : ℕ) → Holds whole a → (IsClaimedOn told given s bus space a → ⊥) → Covers (gaps whole 0 claimed) a
  unclaimed_gap a held free = gaps_from whole 0 claimed a held (omega arith) (λ covered. free ((are.exact a).0 covered))

  pub free_on : (sent unclaimed out : List Range) → ((a : ℕ) → ((whole.first ≤ a) × (a ≤ whole.last)) ↔ IsAddress space a) → is_some (ranges_said given space) ≡ true → IsSentTo given space bus sent
      → IsGathered (gaps whole 0 claimed) unclaimed → IsCommon sent unclaimed out → AreRuns (IsFreeOn told given s bus space) (map decoded_range_of out)
  free_on sent unclaimed out exact said to gathered common = runs_of (IsFreeOn told given s bus space) out common.canonical (λ a. (
    λ covered. (
        let both = (common.exact a).0 covered in
        let starting = (to.exact a).0 both.0 in record {
          said = said;
          address = starting.0;
          sent = starting.1;
          unclaimed = (gap_unclaimed a ((gathered.exact a).0 both.1)).1;
        }),
    λ free. (common.exact a).1 ((to.exact a).1 (free.address, free.sent), (gathered.exact a).1 (unclaimed_gap a ((exact a).1 free.address) free.unclaimed)),
  ))

-- what of a window is free
module _ (told : Told) (given : Given) (s : System) (bus : ℕ) (space : Space) (w : Region) (claimed : List Range) (are : AreClaimed told given s bus space claimed) where
  abbrev left : List Range
  left = gaps (range_at w) 0 claimed

  pub free_of_whole : (out : List Range) → is_cut_region given space w ≡ false → out ≡ left → AreFreeInside told given s bus space w out
  free_of_whole out off is = subst (AreFreeInside told given s bus space w) (sym is) record {
    canonical = gaps_canonical (range_at w) 0 claimed are.sorted are.some;
    exact = λ a. (
      λ covered. (let gap = gap_unclaimed told given s bus space claimed are (range_at w) a covered in (record { held = gap.0; kept = never_cut_from given space w a off }, gap.1)),
      λ free. unclaimed_gap told given s bus space claimed are (range_at w) a free.0.held free.1,
    );
  }

  pub free_of_cut : (gathered out : List Range) → is_cut_region given space w ≡ true → IsGathered left gathered → AreLeftByIsa gathered out → AreFreeInside told given s bus space w out
  free_of_cut gathered out on is kept = record {
    canonical = kept.canonical;
    exact = λ a. (
      λ covered. (
          let both = (kept.exact a).0 covered in
          let gap = gap_unclaimed told given s bus space claimed are (range_at w) a ((is.exact a).0 both.0) in
          (record { held = gap.0; kept = cut_from_where given space w a on ∙ both.1 }, gap.1)),
      λ free. (kept.exact a).1 (
        (is.exact a).1 (unclaimed_gap told given s bus space claimed are (range_at w) a free.0.held free.1),
        sym (cut_from_where given space w a on) ∙ free.0.kept,
      ),
    );
  }
