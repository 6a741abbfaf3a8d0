use Rattle.std.proofs.Common.{◌<◌, ◌+◌, inl, inr, subst, sym, arith}
use Rattle.std.proofs.lemmas.Bool.{cases_eq}
use Rattle.pci_faults.specs.Owners.{OwnedRanges}
use Rattle.pci_faults.specs.Shares.{group_at, AreOwned}
use Rattle.pci_faults.proofs.Sharing.{one_more_read, one_without_read}
use Rattle.pci_faults.proofs.shares.add_lesser.Goals.{in-Some+in_ok-add, in_default}
use Rattle.pci_faults.proofs.shares.add_lesser.Goals as goal

pub loop-n-preserved : goal.loop-n-preserved
loop-n-preserved g c =
    let below = c.loop-n-test.true in
    let index = c.requires.index in
    let group = c.group.ensures in
    let other = c.group-in-loop-n.ensures in
    let less = c.if-group.true in
    let here : group_at c.args.compared.now.among c.args.compared.now.regions.now c.loop-n.n < group_at c.args.compared.now.among c.args.compared.now.regions.now c.args.i = omega (arith, group, other, less) in
    record {
      within = omega (arith, below);
      lesser = λ before k low. elim (cases_eq k c.loop-n.n) [
        | inl same ↦ subst (λ m. group_at c.args.compared.now.among c.args.compared.now.regions.now m < group_at c.args.compared.now.among c.args.compared.now.regions.now c.args.i) (sym same) here
        | inr differ ↦ c.loop-n.invariant.lesser before k (omega (arith, low, differ))
      ];
      owned = elim c.match-opened.branch [
        | in-Some+in_ok-add w ↦ subst (λ (o : OwnedRanges). AreOwned (c.loop-n.n + 1) c.args.compared.now.regions.now c.args.compared.now.allowed.now o) (sym w.owners-is)
            (one_more_read c.args.compared.now.regions.now c.args.compared.now.allowed.now c.loop-n.n c.index-regions-n.result (omega (arith, below, index)) c.index-regions-n.is
            _ c.loop-n.owners _ w.in-Some.ensures w.in_ok-add.ensures c.loop-n.invariant.owned)
        | in_default w ↦ subst (λ (o : OwnedRanges). AreOwned (c.loop-n.n + 1) c.args.compared.now.regions.now c.args.compared.now.allowed.now o) (sym w.owners-is)
            (one_without_read c.args.compared.now.regions.now c.args.compared.now.allowed.now c.loop-n.n c.index-regions-n.result (omega (arith, below, index)) c.index-regions-n.is
            c.loop-n.owners w.in_default.ensures c.loop-n.invariant.owned)
      ];
    }
