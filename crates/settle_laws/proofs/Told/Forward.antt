-- Lines that a text tells run forward.
use Rattle.std.proofs.Common.{ℕ, ◌+◌, inl, inr, List, [], ◌∷◌, subst}
use Rattle.std.specs.List.{Contains}
use Rattle.std.proofs.lemmas.List.Elements.{All-contains}
use Rattle.pci_spec.proofs.Members.{in_nil, in_head, in_tail, in_cons_cases}
use Rattle.judge_spec.specs.Told.{ToldRange, IsToldRange, IsTold}
use Rattle.judge_spec.specs.ToldClaims.{told_register}
use Rattle.judge_spec.specs.ToldRegion.{ToldRegion, regions_from}
use Rattle.settle_spec.specs.Lists.{Request}
use Rattle.settle_laws.specs.StandingTold.Kept.{LinesAreForward}

region_told : (first : ℕ) (ranges : List ToldRange) (x : ToldRegion) → Contains (regions_from first ranges) x → Contains ranges x.told
region_told first [] x has = absurd (in_nil x has)
region_told first (r ∷ ranges) x has = elim (in_cons_cases record { register = first; told = r } (regions_from (first + 1) ranges) x has) [
  | inl here ↦ subst (λ (y : ToldRegion). Contains (r ∷ ranges) y.told) here (in_head r ranges)
  | inr later ↦ in_tail r ranges x.told (region_told (first + 1) ranges x later)
]

pub told_forward : (q : Request) → IsTold q.told.ranges → LinesAreForward q
told_forward q told x has = (All-contains IsToldRange q.told.ranges x.told told.each (region_told (told_register 0) q.told.ranges x has)).forward
