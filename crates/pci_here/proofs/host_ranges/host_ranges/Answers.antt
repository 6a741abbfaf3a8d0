use Rattle.std.proofs.Common.{◌≡◌, ◌∙◌, [], ap, subst}
use Rattle.pci_tree.specs.Roots.{buses_of}
use Rattle.pciplan_lists.specs.HostLists.{IsGoodHostList}
use Rattle.pci_here.specs.HostRanges.{outer_ranges, sends_by}
use Rattle.pci_here.proofs.Outer.{outer_sends}
use Rattle.pci_here.proofs.host_ranges.host_ranges.Goals as goal

pub returns : goal.returns
returns c =
    let list : c.in_ok-list.list.items ≡ outer_ranges [] c.in_ok-ranges.ranges.items = c.in_ok-list.ensures ∙ ap (outer_ranges []) c.as_slice.ensures.value in (
      c.in_ok-ranges.ranges.items,
      c.in_ok-ranges.ensures,
      (
        list,
        subst (IsGoodHostList (buses_of c.args.roots.now)) c.as_slice-else-is_empty.ensures.value (c.is_good_host_list.ensures.0 c.if-not-is_good_host_list.false),
        λ bus a. ap (λ l. sends_by l bus a) list ∙ outer_sends _ bus a,
      ),
    )
