use Rattle.std.proofs.Common.{◌≡◌, ◌∙◌, ap, sym, ◌&&◌, true, false, Bool, refl}
use Rattle.std.specs.Bool.{nat_lt}
use Rattle.std.specs.Option.{is_some}
use Rattle.pci_spec.specs.System.{is_bridge}
use Rattle.pci_spec.specs.Window.{has_window}
use Rattle.plan_spec.specs.Plan.{has_behind}
use Rattle.pci_base.specs.WindowKinds.{kind_value}
use Rattle.pci_plan.proofs.FilledWindows.{bridge_is, is_a_bridge, window_there, open_is}
use Rattle.pci_plan.proofs.numbers.Filling.is_open.Goals as goal

-- three tests, of which the first ones are known
all_three : (a b c d : Bool) → a ≡ true → b ≡ true → d ≡ c → d ≡ (a && b && c)
all_three true true c d one two same = same
all_three true false c d one two same = cc
all_three false b c d one two same = cc

not_second : (a b c d : Bool) → d ≡ b → d ≡ false → d ≡ (a && b && c)
not_second true true c d same off = cc
not_second true false c d same off = same
not_second false b c d same off = off

not_first : (a b c : Bool) → a ≡ false → false ≡ (a && b && c)
not_first true b c off = cc
not_first false b c off = refl

pub returns-in-None : goal.returns-in-None
returns-in-None c of =
    let f = of.function in
    not_first (is_bridge f) (has_window (kind_value c.args.class) f.probe) (has_behind of.system of.pools (kind_value c.args.class) f)
    (sym (bridge_is c.args.self.now of) ∙ ap is_some c.in-None.is)

pub returns-then-is_some : goal.returns-then-is_some
returns-then-is_some c of =
    let f = of.function in
    let bridge = c.in-Some.bridge in
    all_three (is_bridge f) (has_window (kind_value c.args.class) f.probe) (has_behind of.system of.pools (kind_value c.args.class) f) (nat_lt 0 c.need.result)
    (is_a_bridge c.args.self.now of bridge c.in-Some.is)
    (sym (window_there c.args.self.now of bridge c.in-Some.is c.args.class) ∙ ap is_some (sym c.get.ensures) ∙ sym c.is_some.ensures ∙ c.if-is_some.true)
    (ap (nat_lt 0) c.need.ensures ∙ open_is c.args.self.now of bridge c.in-Some.is c.args.class)

pub returns-else-is_some : goal.returns-else-is_some
returns-else-is_some c of =
    let f = of.function in
    let bridge = c.in-Some.bridge in
    not_second (is_bridge f) (has_window (kind_value c.args.class) f.probe) (has_behind of.system of.pools (kind_value c.args.class) f) c.is_some.result
    (c.is_some.ensures ∙ ap is_some c.get.ensures ∙ window_there c.args.self.now of bridge c.in-Some.is c.args.class) c.if-is_some.false
