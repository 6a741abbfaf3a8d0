use Rattle.std.proofs.Common.{◌≡◌, ◌<◌, arith, refl, length, set, ap, subst, rules, Some}
use Rattle.std.specs.Option.{IfSome}
use Rattle.pci_base.specs.WindowKinds.{kind_value}
use Rattle.pci_first_fit.specs.Spots.{IsExtent}
use Rattle.pci_first_fit.specs.Buses.{classing_value}
use Rattle.pci_first_fit.proofs.PutWindows.{IsAroundItems, is_none, is_some_count, none_put, some_put, large_put}
use Rattle.pci_first_fit.proofs.new_window.put_window.Goals as goal

pub returns-then-is_empty-clause-put : goal.returns-then-is_empty-clause-put
returns-then-is_empty-clause-put g c =
    let empty : length c.in_ok-items.items.items ≡ 0 = is_none c.in_ok-items.items.len _ c.is_empty.result (let long = c.in_ok-items.items.ok.0 in omega (arith, long)) c.is_empty.ensures c.if-is_empty.true in
    none_put (classing_value c.args.classing.now) (kind_value c.args.opening.now.class) c.args.opening.now.bridge.now c.args.opening.now.wanted c.args.windows.now c.in_ok-items.items.items c.in_ok-items.ensures.items _ empty refl

pub returns-in-Some-clause-put : goal.returns-in-Some-clause-put
returns-in-Some-clause-put g c =
    let some : 0 < length c.in_ok-items.items.items = is_some_count c.in_ok-items.items.len _ c.is_empty.result (let long = c.in_ok-items.items.ok.0 in omega (arith, long)) c.is_empty.ensures c.if-is_empty.false in
    let highest = c.highest_in-highest.result in
    let around : IsAroundItems (kind_value c.args.opening.now.class) highest c.args.opening.now.wanted c.in_ok-items.items.items c.in_ok-window.field-0 = c.in_ok-window.ensures.around in
    some_put (classing_value c.args.classing.now) (kind_value c.args.opening.now.class) c.args.opening.now.bridge.now c.args.opening.now.wanted c.args.windows.now c.in_ok-items.items.items c.in_ok-items.ensures.items _
    some highest c.highest_in-highest.ensures c.in-Some.window (subst (λ o. IfSome o IsExtent) c.in-Some.is (c.in_ok-window.ensures.some some))
    (search rules)
    (subst (IsAroundItems (kind_value c.args.opening.now.class) highest c.args.opening.now.wanted c.in_ok-items.items.items) c.in-Some.is around) refl

pub returns-clause-put : goal.returns-clause-put
returns-clause-put g c =
    let some : 0 < length c.in_ok-items.items.items = is_some_count c.in_ok-items.items.len _ c.is_empty.result (let long = c.in_ok-items.items.ok.0 in omega (arith, long)) c.is_empty.ensures c.if-is_empty.false in
    let highest = c.highest_in-highest.result in
    let around : IsAroundItems (kind_value c.args.opening.now.class) highest c.args.opening.now.wanted c.in_ok-items.items.items c.in_ok-window.field-0 = c.in_ok-window.ensures.around in
    large_put (classing_value c.args.classing.now) (kind_value c.args.opening.now.class) c.args.opening.now.bridge.now c.args.opening.now.wanted c.args.windows.now c.in_ok-items.items.items c.in_ok-items.ensures.items _
    some highest c.highest_in-highest.ensures (subst (IsAroundItems (kind_value c.args.opening.now.class) highest c.args.opening.now.wanted c.in_ok-items.items.items) c.in-None.is around) (ap (λ x. set c.args.windows.now c.args.opening.now.bridge.now.secondary (Some x)) c.nowhere.ensures)
