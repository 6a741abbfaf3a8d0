use Rattle.std.proofs.Common.{List, ◌++◌, map, ◌∙◌, ap}
use Rattle.pci_faults.specs.declared.any_fault.AnyFault.{AnyFault}
use Rattle.pci_faults.specs.declared.any_fault.AnyFault.TheVariants as codes
use Rattle.pci_faults.specs.declared.named.Unreached.{Unreached}
use Rattle.pci_faults.specs.declared.named.Clash.{Clash}
use Rattle.pci_faults.specs.declared.named.Split.{Split}
use Rattle.pci_faults.specs.declared.named.Outside.{Outside}
use Rattle.pci_claims.specs.Values.{code_given_value, told_value}
use Rattle.pci_faults.proofs.Joining.{all_lines}
use Rattle.pci_faults.proofs.all_lines.lines_of.Goals as goal

pub returns : goal.returns
returns g c =
    let o = c.in_ok-outside.outside.items in
    let u = c.in_ok-unreached.unreached.items in
    let k = c.in_ok-clashes.clashes.items in
    let s = c.in_ok-splits.splits.items in
    all_lines o u k s (told_value c.args.board.now.told) (code_given_value c.args.board.now.given) c.args.board.now.outline.now c.add_splits.new.faults.items
    (c.in_ok-add_splits.ensures ∙ ap (λ (l : List Split). c.add_clashes.new.faults.items ++ map (λ f. codes.Split f) l) c.deref-4.ensures.value
    ∙ ap (λ (l : List AnyFault). l ++ map (λ f. codes.Split f) s) (c.in_ok-add_clashes.ensures ∙ ap (λ (l : List Clash). c.add_unreached.new.faults.items ++ map (λ f. codes.Clash f) l) c.deref-3.ensures.value
    ∙ ap (λ (l : List AnyFault). l ++ map (λ f. codes.Clash f) k) (c.in_ok-add_unreached.ensures ∙ ap (λ (l : List Unreached). c.add_outside.new.faults.items ++ map (λ f. codes.Unreached f) l) c.deref-2.ensures.value
    ∙ ap (λ (l : List AnyFault). l ++ map (λ f. codes.Unreached f) u) (c.in_ok-add_outside.ensures ∙ ap (λ (l : List Outside). c.new-faults.result.items ++ map (λ f. codes.OutsideHost f) l) c.deref.ensures.value
    ∙ ap (λ (l : List AnyFault). l ++ map (λ f. codes.OutsideHost f) o) c.new-faults.ensures.items))))
    c.in_ok-outside.ensures c.in_ok-unreached.ensures c.in_ok-clashes.ensures c.in_ok-splits.ensures
