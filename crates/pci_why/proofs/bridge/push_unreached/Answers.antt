use Rattle.std.proofs.Common.{◌++◌, ◌∙◌, ap, codes, map, sym, subst, List}
use Rattle.std.specs.List.{flat_map}
use Rattle.std.specs.String.{string_bytes}
use Rattle.std.proofs.lemmas.List.Elements.{All-contains}
use Rattle.pci_spec.specs.Decoded.{HasRecords, Record}
use Rattle.pci_spec.specs.Window.{WindowKind}
use Rattle.pci_spec.specs.Why.{range_line}
use Rattle.pci_base.specs.declared.range.Range.{Range}
use Rattle.pci_base.specs.Ranges.{decoded_range_of}
use Rattle.pci_base.specs.Space.{space_of}
use Rattle.pci_base.specs.WindowKinds.{kind_value}
use Rattle.pci_tree.specs.Reaches.{HasSpans}
use Rattle.pci_tree.proofs.Outlines.{have_spans}
use Rattle.pci_claims.specs.Values.{code_given_value, told_value}
use Rattle.pci_why.specs.Bridges.{IsMissed}
use Rattle.pci_why.proofs.Bridged.{claims_there, unreached_told, no_bridge_missing}
use Rattle.pci_why.proofs.bridge.push_unreached.Goals as goal

pub returns-in_default : goal.returns-in_default
returns-in_default g c = λ s a tree there.
    absurd ((rw c.in_default.is at c.in_ok-region.ensures.exact) s a c.args.name.slot.bus tree
    (claims_there (told_value c.args.judged.now.told.now) (code_given_value c.args.judged.now.given.now) c.args.judged.now.outline.now.roots s c.args.name.slot c.args.name.register (space_of c.args.name.space) a c.args.bridge there))

pub returns-in_default-record_at : goal.returns-in_default-record_at
returns-in_default-record_at g c = λ s a tree there.
    absurd (no_bridge_missing (told_value c.args.judged.now.told.now) (code_given_value c.args.judged.now.given.now) c.args.judged.now.outline.now.roots s c.args.name.slot c.args.name.register (space_of c.args.name.space) a c.args.bridge
    c.records.result.now (subst (λ (rs : List Record). HasRecords s rs) (sym c.records.ensures.value) tree.records) there c.in_default-record_at.ensures)

pub missed_by-requires-clause-spans : goal.missed_by-requires-clause-spans
missed_by-requires-clause-spans g c =
    All-contains HasSpans c.records.result.now c.in-Some-record_at.function.now (have_spans c.records.result.now c.records.ensures.lawful) c.in-Some-record_at.ensures.0

pub returns : goal.returns
returns g c = λ s a tree there.
    unreached_told (told_value c.args.judged.now.told.now) (code_given_value c.args.judged.now.given.now) c.args.judged.now.outline.now.roots s c.args.name.slot c.args.name.register (space_of c.args.name.space) a c.args.bridge
    c.records.result.now (subst (λ (rs : List Record). HasRecords s rs) (sym c.records.ensures.value) tree.records) there
    c.in-Some.region.shown c.in-Some.region.addresses.items c.in-Some-record_at.function.now c.in_ok-missed.missed.items c.is_prefetchable-prefetch.result
    (string_bytes c.args.text.now) _ _ (string_bytes c.push_ranges.new.text) c.records.ensures.rising c.in-Some-record_at.ensures.0 c.in-Some-record_at.ensures.1
    ((rw c.in-Some.is at c.in_ok-region.ensures.exact) s a c.args.name.slot.bus tree
    (claims_there (told_value c.args.judged.now.told.now) (code_given_value c.args.judged.now.given.now) c.args.judged.now.outline.now.roots s c.args.name.slot c.args.name.register (space_of c.args.name.space) a c.args.bridge there))
    c.is_prefetchable-prefetch.ensures c.in_ok-push_shown.ensures c.in_ok-push_bridge_line.ensures
    (subst (λ (k : WindowKind). IsMissed (code_given_value c.args.judged.now.given.now) c.in-Some-record_at.function.now k c.in-Some.region.addresses.items c.in_ok-missed.missed.items) c.kind-kind.ensures
    (subst (λ (l : List Range). IsMissed (code_given_value c.args.judged.now.given.now) c.in-Some-record_at.function.now (kind_value c.kind-kind.result) l c.in_ok-missed.missed.items) c.deref.ensures.value c.in_ok-missed.ensures))
    (c.in_ok-push_ranges.ensures ∙ ap (λ (l : List Range). string_bytes c.push_bridge_line.new.text ++ flat_map (range_line (codes "missed") (space_of c.args.name.space)) (map decoded_range_of l)) c.deref-2.ensures.value)
