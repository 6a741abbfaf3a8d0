use Rattle.std.proofs.Common.{true, refl, subst, sym}
use Rattle.std.specs.Prelude.{IsTrue}
use Rattle.pciplan_lists.specs.HostLists.{ShareBus}
use Rattle.pciplan_lists.proofs.HostLists.{share_first}
use Rattle.pciplan_lists.proofs.host_list.share_a_bus.Goals as goal

pub returns-in-None : goal.returns-in-None
returns-in-None c = (
  λ (h : IsTrue true). subst (λ one. ShareBus one c.args.other) (sym c.in-None.is) (share_first c.args.other),
  λ (h : ShareBus c.args.one c.args.other). refl,
)
