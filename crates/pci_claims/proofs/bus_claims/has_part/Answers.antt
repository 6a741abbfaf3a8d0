use Rattle.std.proofs.Common.{◌≡◌, get_or, map, arith, refl, sym, ◌∙◌, ap, subst}
use Rattle.std.specs.Prelude.{IsTrue}
use Rattle.std.specs.List.{list_any}
use Rattle.std.proofs.lemmas.List.{get_or-map, length-map}
use Rattle.std.proofs.lemmas.List.Folds.{list_any_at}
use Rattle.pci_spec.specs.Slot.{same_slot}
use Rattle.pci_claims.specs.Values.{legacy_value}
use Rattle.pci_claims.proofs.bus_claims.has_part.Goals as goal

pub returns-then-is_at : goal.returns-then-is_at
returns-then-is_at c =
    let entries = c.bridges_with-entry-items.result.now in
    let i = c.loop-entry.entry-index in
    let e = c.entry-item.result in
    let inside = c.loop-entry-test.true in
    let same : get_or (map legacy_value entries) i (legacy_value e) ≡ legacy_value e = get_or-map legacy_value entries i e (legacy_value e) inside ∙ ap legacy_value (sym c.entry-item.is) in
    let found = list_any_at (λ entry. same_slot entry.slot c.args.slot) (map legacy_value entries) i (legacy_value e) (omega (arith, inside, length-map entries legacy_value))
    (ap (λ entry. same_slot entry.slot c.args.slot) same ∙ sym c.is_at.ensures ∙ c.if-is_at.true) in
    let has = subst (λ xs. IsTrue (list_any (λ entry. same_slot entry.slot c.args.slot) xs)) c.bridges_with-entry-items.ensures found in
    (λ _. has, λ _. refl)
