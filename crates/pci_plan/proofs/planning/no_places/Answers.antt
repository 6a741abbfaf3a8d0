use Rattle.std.proofs.Common.{List, sym, arith, map, subst}
use Rattle.pci_spec.specs.Decoded.{HasRecords}
use Rattle.pci_spec.specs.Decoded as decoded
use Rattle.pci_function.specs.Values.{record_value}
use Rattle.pci_place.specs.Above.{system_in}
use Rattle.pci_place.proofs.Records.{same_count}
use Rattle.pci_plan.proofs.planning.no_places.Goals as goal

pub returns : goal.returns
returns g c =
    let s = system_in c.args.admitted.now in
    let records = c.records-records.result.now in
    let has : HasRecords s (map record_value records) = subst (λ (rs : List decoded.Record). HasRecords s rs) (sym c.records-records.ensures.value) c.outline.ensures.records in
    let count = same_count s records has in
    omega (arith, count)
