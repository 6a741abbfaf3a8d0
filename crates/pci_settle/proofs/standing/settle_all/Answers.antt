use Rattle.std.proofs.Common.{◌∙◌, [], length, map, refl, sym, ap, subst}
use Rattle.std.proofs.lemmas.Result.{err_from_is_err_and}
use Rattle.pci_spec.specs.Decoded.{HasRecords}
use Rattle.pci_function.specs.Values.{record_value}
use Rattle.settle_spec.specs.Stands.{stands}
use Rattle.settle_spec.specs.Kept.{as_it_stands}
use Rattle.settle_spec.specs.Keeping.Writes.{is_not_reached}
use Rattle.pci_base.specs.declared.memory.Refused.TheVariants as refused
use Rattle.pci_place.specs.Above.{system_in}
use Rattle.pci_place.proofs.Records.{same_count}
use Rattle.pci_first_fit.specs.Slots.{demand_value}
use Rattle.pci_first_fit.specs.Kept.{AreNone}
use Rattle.pci_settle_places.proofs.NothingLeft.{can_be_left}
use Rattle.pci_settle.specs.Ended.{held_value, IsEndOfSettling}
use Rattle.pci_settle.specs.Endings.{kept_after}
use Rattle.pci_settle.proofs.Outcomes.{ended_anew, after_anew}
use Rattle.pci_settle.proofs.HeldTables.{stand_anew, told_anew, untold_ranges}
use Rattle.pci_settle.proofs.ToldTests.{nothing_known}
use Rattle.pci_settle.proofs.Endings.{none_told}
use Rattle.pci_settle.proofs.Refusals.{unstanding}
use Rattle.pci_settle.proofs.standing.settle_all.Goals as goal

pub returns-in-Some-clause-refusal : goal.returns-in-Some-clause-refusal
returns-in-Some-clause-refusal g c = λ q is anew flags.
    let a = c.args.admitted.now in
    let untold = untold_ranges a (demand_value c.args.lists.now) q is c.requires.untold in
    let has : HasRecords (system_in a) (map record_value c.records.result.now)
    = subst (λ rs. HasRecords (system_in a) rs) (sym c.records.ensures.value) c.outline-outline.ensures.records in
    let count = ap length c.as_slice-kept.ensures.value ∙ c.in_ok-none.ensures.count ∙ sym (same_count (system_in a) c.records.result.now has) in
    let none = subst AreNone (sym c.as_slice-kept.ensures.value) c.in_ok-none.ensures.none in
    after_anew a q untold anew (refused.Fault c.in-Some.fault) (unstanding a q (as_it_stands q (system_in a)) (none_told q untold (is_not_reached q (system_in a))) c.in-Some.fault (c.in-Some.ensures q (stands q (system_in a)) is flags (stand_anew a (demand_value c.args.lists.now) c.as_slice-kept.result.now count none q is untold anew)))

pub settle_held-requires-clause-left : goal.settle_held-requires-clause-left
settle_held-requires-clause-left g c = can_be_left c.args.admitted.now.roots (system_in c.args.admitted.now) (demand_value c.args.lists.now) _ refl refl refl

pub settle_held-requires-clause-bounds : goal.settle_held-requires-clause-bounds
settle_held-requires-clause-bounds g c = record {
  fixed = c.requires.flags;
  told = record { lines = sym (ap length c.requires.untold); standing = sym (ap length c.requires.untold) };
}

pub returns-clause-staying : goal.returns-clause-staying
returns-clause-staying g c =
    let has : HasRecords (system_in c.args.admitted.now) (map record_value c.records.result.now)
    = subst (λ rs. HasRecords (system_in c.args.admitted.now) rs) (sym c.records.ensures.value) c.outline-outline.ensures.records in
    c.in_ok-none.ensures.count ∙ sym (same_count (system_in c.args.admitted.now) c.records.result.now has)

pub returns-clause-told : goal.returns-clause-told
returns-clause-told g c = ap length c.new-2.ensures.items ∙ sym (ap length c.requires.untold)

pub returns-clause-ends : goal.returns-clause-ends
returns-clause-ends g c =
    let has : HasRecords (system_in c.args.admitted.now) (map record_value c.records.result.now)
    = subst (λ rs. HasRecords (system_in c.args.admitted.now) rs) (sym c.records.ensures.value) c.outline-outline.ensures.records in
    let count = ap length c.as_slice-kept.ensures.value ∙ c.in_ok-none.ensures.count ∙ sym (same_count (system_in c.args.admitted.now) c.records.result.now has) in
    let none = subst AreNone (sym c.as_slice-kept.ensures.value) c.in_ok-none.ensures.none in
    λ q is anew flags.
    let a = c.args.admitted.now in
    let untold = untold_ranges a (demand_value c.args.lists.now) q is c.requires.untold in
    let keep = as_it_stands q (system_in a) in
    let held = c.in_ok-held.held in
    let known = nothing_known q (system_in a) _ (untold ∙ sym c.requires.untold) c.requires.untold record { lines = sym (ap length c.requires.untold); standing = sym (ap length c.requires.untold) } in
    subst (λ standing. IsEndOfSettling q (kept_after q (system_in a)) a (held_value held c.in_ok-none.none.items c.new.result.items standing)) (sym c.new-2.ensures.items)
    (subst (λ grown. IsEndOfSettling q (kept_after q (system_in a)) a (held_value held c.in_ok-none.none.items grown [])) (sym c.new.ensures.items)
    (ended_anew a q (held_value held c.in_ok-none.none.items [] []) untold anew
    (subst (λ staying. IsEndOfSettling q keep a (held_value held staying [] [])) c.as_slice-kept.ensures.value
    (c.in_ok-held.ensures.ends q keep record { fixed = flags; told = known } (told_anew a (demand_value c.args.lists.now) c.as_slice-kept.result.now count none q is untold anew _ refl refl refl
    (λ test told. c.in_default.ensures q test is flags told))))))

pub returns-in_err-held-clause-refusal : goal.returns-in_err-held-clause-refusal
returns-in_err-held-clause-refusal g c =
    let a = c.args.admitted.now in
    let has : HasRecords (system_in a) (map record_value c.records.result.now)
    = subst (λ rs. HasRecords (system_in a) rs) (sym c.records.ensures.value) c.outline-outline.ensures.records in
    let count = ap length c.as_slice-kept.ensures.value ∙ c.in_ok-none.ensures.count ∙ sym (same_count (system_in a) c.records.result.now has) in
    let none = subst AreNone (sym c.as_slice-kept.ensures.value) c.in_ok-none.ensures.none in
    let p = err_from_is_err_and c.from_residual-in_err-held.result c.from_residual-in_err-held.ensures.1 in
    rw (p.1, p.2) (λ q is anew flags.
    let untold = untold_ranges a (demand_value c.args.lists.now) q is c.requires.untold in
    let known = nothing_known q (system_in a) _ (untold ∙ sym c.requires.untold) c.requires.untold record { lines = sym (ap length c.requires.untold); standing = sym (ap length c.requires.untold) } in
    after_anew a q untold anew c.in_err-held.field-0.0
    (c.in_err-held.ensures.refusal q (as_it_stands q (system_in a)) record { fixed = flags; told = known } (told_anew a (demand_value c.args.lists.now) c.as_slice-kept.result.now count none q is untold anew _ refl refl refl
    (λ test told. c.in_default.ensures q test is flags told))))
