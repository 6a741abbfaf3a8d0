use Rattle.std.proofs.Common.{◌++◌, ◌∙◌, ap, codes, map, subst, List}
use Rattle.std.specs.List.{flat_map}
use Rattle.std.specs.String.{string_bytes}
use Rattle.pci_base.specs.declared.range.Range.{Range}
use Rattle.pci_spec.specs.Why.{range_line}
use Rattle.pci_base.specs.Ranges.{decoded_range_of}
use Rattle.pci_base.specs.Space.{space_of}
use Rattle.pci_claims.specs.Gathered.{IsCommon}
use Rattle.pci_claims.specs.Values.{code_given_value, told_value}
use Rattle.pci_why.proofs.Twos.{two_told}
use Rattle.pci_why.proofs.two.push_two.Goals as goal

pub returns : goal.returns
returns g c = λ s a bus other tree first second.
    two_told (told_value c.args.judged.now.told.now) (code_given_value c.args.judged.now.given.now) s (space_of c.args.two.now.space) c.args.two.now.first.slot c.args.two.now.second.slot c.args.two.now.first.register c.args.two.now.second.register a bus other c.in-Some.p.shown c.in-Some-2.q.shown
    c.in-Some.p.addresses.items c.in-Some-2.q.addresses.items c.in_ok-shared.shared.items (string_bytes c.args.text.now) _ _ (string_bytes c.push_ranges.new.text)
    ((rw (c.in-Some.is, c.first_name.ensures) at c.in_ok-p.ensures.exact) s a bus tree first) ((rw (c.in-Some-2.is, c.second_name.ensures) at c.in_ok-q.ensures.exact) s a other tree second) first second
    (subst (λ (l : List Range). IsCommon c.in-Some.p.addresses.items l c.in_ok-shared.shared.items) c.deref-2.ensures.value
    (subst (λ (l : List Range). IsCommon l c.deref-2.result.now c.in_ok-shared.shared.items) c.deref.ensures.value c.in_ok-shared.ensures))
    c.in_ok-push_shown.ensures c.in_ok-push_shown-2.ensures
    (c.in_ok-push_ranges.ensures ∙ ap (λ (l : List Range). string_bytes c.push_shown-2.new.text ++ flat_map (range_line (codes "shared") (space_of c.args.two.now.space)) (map decoded_range_of l)) c.deref-3.ensures.value)

pub returns-in_default : goal.returns-in_default
returns-in_default g c = λ s a bus other tree first second. absurd ((rw (c.in_default.is, c.first_name.ensures) at c.in_ok-p.ensures.exact) s a bus tree first)

pub returns-in_default-2 : goal.returns-in_default-2
returns-in_default-2 g c = λ s a bus other tree first second. absurd ((rw (c.in_default-2.is, c.second_name.ensures) at c.in_ok-q.ensures.exact) s a other tree second)
