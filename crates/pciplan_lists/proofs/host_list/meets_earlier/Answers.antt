use Rattle.std.proofs.Common.{false, arith}
use Rattle.std.specs.Prelude.{IsTrue}
use Rattle.std.proofs.lemmas.Bool.{false≢true}
use Rattle.pciplan_lists.specs.HostLists.{MeetsEarlier}
use Rattle.pciplan_lists.proofs.host_list.meets_earlier.Goals as goal

pub returns : goal.returns
returns c = (
  λ (h : IsTrue false). absurd (false≢true h),
  λ (m : MeetsEarlier c.args.list.now c.args.index).
      absurd (c.loop-k.invariant m.earlier (omega (arith, m.before, c.loop-k-test.false)) m.one m.other m.is_one m.is_other m.meet),
)
