use Rattle.std.proofs.Common.{List, false, ◌+◌, ◌≡◌, ◌∙◌, ap, subst, sym, length, arith}
use Rattle.std.proofs.lemmas.List.{get_or_default}
use Rattle.pci_base.specs.Space.{space_of}
use Rattle.pci_function.specs.declared.fault.Fault.{Fault}
use Rattle.pci_tree.specs.declared.region.Region.{Region}
use Rattle.pci_tree.specs.Regions.{is_of_window}
use Rattle.pci_check.specs.Stops.{AreBusRegionsOfTree, IsReachedAt, IsWholeAt, IsWholeInEach, IsLineFault}
use Rattle.pci_faults.specs.Lines.{AreCodeFaultsAppended, sharing_region_at, nothing_shared}
use Rattle.pci_faults.proofs.Losing.{IsLineBelow, none_yet, without_line, with_line, none_of_reached, not_whole, found_line, lines_of_bus}
use Rattle.pci_faults.proofs.unreached.add_unreached_in.Goals.{then-is_lost+in-Some+in_ok-push, then-is_lost+in_default, else-is_lost}
use Rattle.pci_faults.proofs.unreached.add_unreached_in.Goals as goal

pub loop-region-init : goal.loop-region-init
loop-region-init g c = none_yet c.args.board.now.outline.now (space_of c.args.space) c.deref-region-items.result.now c.args.out.now.items

pub loop-region-preserved : goal.loop-region-preserved
loop-region-preserved g c =
    let t = c.args.board.now.outline.now in
    let space = space_of c.args.space in
    let regions = c.deref-region-items.result.now in
    let n = c.loop-region.region-index in
    let within = c.loop-region-test.true in
    let listed : AreBusRegionsOfTree t c.args.bus space regions = subst (λ (l : List Region). AreBusRegionsOfTree t c.args.bus space l) (sym c.deref-region-items.ensures.value) c.in_ok-regions.ensures in
    let read : c.region-item.result ≡ sharing_region_at regions n = c.region-item.is ∙ get_or_default regions n c.region-item.result nothing_shared within in
    elim c.if-is_lost.branch [
      | then-is_lost+in-Some+in_ok-push w ↦
          let lost = rw w.if-is_lost.true at c.is_lost.ensures in
          let line = rw w.in-Some.is at w.unreached_at.ensures.line in
          subst (λ (l : List Fault). AreCodeFaultsAppended t (IsLineBelow t space regions (n + 1)) c.args.out.now.items l) (sym (ap (λ v. v.items) w.out-is ∙ w.in_ok-push.ensures.items))
          (with_line t c.args.bus space regions listed n within c.args.out.now.items c.loop-region.out.items w.in-Some.fault
          (found_line t c.args.bus space regions listed c.args.board.now.reached.now c.requires.reached c.requires.nested n within w.in-Some.fault
          (subst (λ (r : Region). is_of_window r.part ≡ false) read lost.0) (subst (λ (r : Region). IsLineFault t space r w.in-Some.fault) read line)) c.loop-region.invariant)
      | then-is_lost+in_default w ↦
          let lost = rw w.if-is_lost.true at c.is_lost.ensures in
          subst (λ (l : List Fault). AreCodeFaultsAppended t (IsLineBelow t space regions (n + 1)) c.args.out.now.items l) (sym (ap (λ v. v.items) w.out-is))
          (without_line t c.args.bus space regions listed n within c.args.out.now.items c.loop-region.out.items
          (λ s tree f line. absurd (not_whole t c.args.bus space regions listed c.args.board.now.reached.now c.requires.reached c.requires.nested n within
          (λ whole. lost.1 (subst (λ (r : Region). IsWholeAt c.args.board.now.reached.now space c.args.bus r) (sym read) whole))
          (subst (λ (r : Region). IsWholeInEach t c.args.board.now.reached.now space r) read (rw w.in_default.is at w.unreached_at.ensures.fault)) s tree)) c.loop-region.invariant)
      | else-is_lost w ↦
          subst (λ (l : List Fault). AreCodeFaultsAppended t (IsLineBelow t space regions (n + 1)) c.args.out.now.items l) (sym (ap (λ v. v.items) w.out-is))
          (without_line t c.args.bus space regions listed n within c.args.out.now.items c.loop-region.out.items
          (none_of_reached t c.args.bus space regions listed c.args.board.now.reached.now c.requires.reached c.requires.nested n within
          (subst (λ (r : Region). IsReachedAt c.args.board.now.reached.now space c.args.bus r) read (rw w.if-is_lost.false at c.is_lost.ensures))) c.loop-region.invariant)
    ]

pub returns : goal.returns
returns g c =
    let t = c.args.board.now.outline.now in
    let space = space_of c.args.space in
    let regions = c.deref-region-items.result.now in
    let past = c.loop-region-test.false in
    let end = c.loop-region.auto.region-index-end in
    let all : c.loop-region.region-index ≡ length regions = omega (arith, past, end) in
    lines_of_bus t c.args.bus space regions (subst (λ (l : List Region). AreBusRegionsOfTree t c.args.bus space l) (sym c.deref-region-items.ensures.value) c.in_ok-regions.ensures)
    c.args.out.now.items c.loop-region.out.items (subst (λ n. AreCodeFaultsAppended t (IsLineBelow t space regions n) c.args.out.now.items c.loop-region.out.items) all c.loop-region.invariant)
