use Rattle.std.proofs.Common.{rules, ◌≡◌, List, ap, sym, subst, map, length}
use Rattle.std.proofs.lemmas.List.{nil_from_length}
use Rattle.std.proofs.lemmas.Result.{IfOk-weaker}
use Rattle.pci_spec.specs.Decoded.{HasRecords, Record}
use Rattle.pci_claims.specs.Values.{code_given_value, taking_value}
use Rattle.pci_map.proofs.TakerLists.{nothing_at, no_bridge_at, taken_there}
use Rattle.pci_map.proofs.takers.taken_at.Goals as goal

pub returns-then-is_empty : goal.returns-then-is_empty
returns-then-is_empty g c = λ s tree.
    let none : length c.args.given.now.unclaimed.now ≡ 0 = search rules in
    nothing_at (code_given_value c.args.given.now) s c.args.slot c.none.result (ap (map taking_value) (nil_from_length c.args.given.now.unclaimed.now none)) c.none.ensures

pub returns-in-None : goal.returns-in-None
returns-in-None g c = λ s tree.
    no_bridge_at (code_given_value c.args.given.now) s c.args.slot c.none-in-None.result c.records.result.now (subst (λ (rs : List Record). HasRecords s rs) (sym c.records.ensures.value) tree.records) c.in-None.ensures

pub returns-in-Some : goal.returns-in-Some
returns-in-Some g c =
    IfOk-weaker c.taken.result _ _
    (λ taken are s tree. taken_there (code_given_value c.args.given.now) s c.args.slot taken c.records.result.now c.in-Some.function.now
    (subst (λ (rs : List Record). HasRecords s rs) (sym c.records.ensures.value) tree.records) c.records.ensures.rising c.in-Some.ensures.0 c.in-Some.ensures.1 are)
    c.taken.ensures
