-- What leads to told ranges is noted part by part, and nothing else of them changes.
use Rattle.std.proofs.Common.{◌≡◌, ℕ, ◌+◌, ◌<◌, ◌≤◌, inl, inr, List, length, get_or, set, Bool, false, ◌||◌, not, arith, sym, ◌∙◌, ap, subst}
use Rattle.std.proofs.lemmas.Bool.{cases_eq}
use Rattle.std.proofs.Math.Seq.{map-set_same}
use Rattle.std.proofs.lemmas.List.{length-set, get_or-set_same, get_or-set_other}
use Rattle.std.proofs.lemmas.List.Elements.{All-set}
use Rattle.pci_spec.specs.System.{System}
use Rattle.settle_spec.specs.Lists.{Request}
use Rattle.settle_spec.specs.Stands.{leads_to_one_on, leads_to_told}
use Rattle.pci_base.specs.declared.space.Space.TheVariants as spaces
use Rattle.pci_base.specs.declared.window_kind.WindowKind.TheVariants as kinds
use Rattle.pci_first_fit.specs.declared.kept.Part.TheVariants as parts
use Rattle.pci_kept.specs.declared.region.Region.{Region}
use Rattle.pci_kept.specs.Known.{region_value, known, HasAddress, AreParts}
use Rattle.pci_kept.specs.Leads.{noted, IsLeading, AreKnownParts}

abbrev pub no_region : Region
no_region = record {
  function = 0;
  bus = 0;
  level = 0;
  fixed = false;
  on = false;
  leads = false;
  can_stand = false;
  part = parts.Bar 0;
  space = spaces.Io;
  class = kinds.Io;
  range = record { first = 0; last = 0 };
}

module _ (q : Request) (s : System) where
  pub record AreKnownBelow (count : ℕ) (rs : List Region) : Type 0 where
    pub parts : AreParts q s rs
    pub leads : (k : ℕ) (d : Region) → k < count → k < length rs → IsLeading q s (get_or rs k d)

  pub noted_none : (rs : List Region) → AreParts q s rs → AreKnownBelow 0 rs
  noted_none rs parts = record { parts = parts; leads = λ k d low inside. absurd (let no : ⊥ = omega (arith, low) in no) }

  pub noted_more : (count : ℕ) (rs : List Region) (r : Region) → count < length rs → r ≡ get_or rs count r → AreKnownBelow count rs → (b can : Bool) → b ≡ leads_to_one_on q s (region_value s r) → can ≡ (leads_to_told q s (region_value s r) || not q.anew)
      → (new : Region) → new ≡ noted b can r → AreKnownBelow (count + 1) (set rs count new)
  noted_more count rs r within r_is below b can is can_is new new_is = subst (λ x. AreKnownBelow (count + 1) (set rs count x)) (sym new_is) record {
    parts = record {
      same = map-set_same (known s) rs count (noted b can r) r (ap (known s) r_is) ∙ below.parts.same;
      within = All-set (λ (x : Region). x.function < length s) rs count (noted b can r) (subst (λ (x : Region). x.function < length s) (sym r_is) (below.parts.within count r within)) below.parts.within;
      forward = All-set HasAddress rs count (noted b can r) (subst HasAddress (sym r_is) (below.parts.forward count r within)) below.parts.forward;
    };
    leads = λ k d low inside. elim (cases_eq k count) [
      | inl same ↦ subst (IsLeading q s) (sym (ap (λ n. get_or (set rs count (noted b can r)) n d) same ∙ get_or-set_same rs count (noted b can r) d within)) record { leads = is; can = can_is }
      | inr other ↦ subst (IsLeading q s) (sym (get_or-set_other rs count k (noted b can r) d other)) (below.leads k d (omega (arith, low, other)) (let long = length-set rs count (noted b can r) in omega (arith, inside, long)))
    ];
  }

  pub noted_all : (count : ℕ) (rs : List Region) → length rs ≤ count → AreKnownBelow count rs → AreKnownParts q s rs
  noted_all count rs end below = record { parts = below.parts; leads = λ k d low. below.leads k d (omega (arith, low, end)) low }
