use Rattle.std.proofs.Common.{◌≤◌, subst, sym}
use Rattle.std.specs.List.{All}
use Rattle.std.proofs.lemmas.List.Sorted.{All-permutation}
use Rattle.std.proofs.lemmas.Result.{IfOk-weaker}
use Rattle.pci_claims.specs.Gathered.{IsGathered}
use Rattle.pci_claims.proofs.Gathering.{moved_gathered}
use Rattle.pci_claims.proofs.gather.gathered.Goals as goal

pub merged-requires-clause-lawful : goal.merged-requires-clause-lawful
merged-requires-clause-lawful g c =
    subst (All (λ r. r.first ≤ r.last)) (sym c.deref.ensures.value) (All-permutation (λ r. r.first ≤ r.last) c.args.ranges.items _ c.in_ok-sort.ensures.permutation c.requires)

pub returns : goal.returns
returns g c =
    IfOk-weaker c.merged.result _ _ (λ v is. moved_gathered c.args.ranges.items _ v.items c.in_ok-sort.ensures.permutation
    (subst (λ rs. IsGathered rs v.items) c.deref.ensures.value is)) c.merged.ensures
