use Rattle.std.proofs.Common.{◌≡◌, ◌+◌, ◌<◌, ◌≤◌, false, get_or, refl, arith, sym, ◌∙◌, ap, subst}
use Rattle.pci_spec.specs.Text.{Block}
use Rattle.pci_tree.proofs.BusParts.{begins_before}
use Rattle.pci_place.specs.Above.{system_in}
use Rattle.pci_place.specs.declared.above.Above.{Above}
use Rattle.pci_place.proofs.Records.{lent}
use Rattle.pci_first_fit.specs.declared.over.OpenWindows.{OpenWindows}
use Rattle.pci_first_fit.specs.declared.over.Over.{Over}
use Rattle.pci_first_fit.specs.Buses.{listing_value, AreOnBusTo}
use Rattle.pci_first_fit.proofs.Probes.{probe_count, probe_at}
use Rattle.pci_first_fit.proofs.Sized.{bars_sized, rom_sized}
use Rattle.pci_first_fit.proofs.OnBus.{slots_in, record_of_place, below_first, below_next, bus_step}
use Rattle.pci_first_fit.proofs.bus.add_bus.Goals as goal

-- what is over a bus, by its open windows
abbrev over_with : Above → OpenWindows → Over
over_with above windows = record { above = above; windows = windows }

pub first_from-first-requires-clause-slots : goal.first_from-first-requires-clause-slots
first_from-first-requires-clause-slots g c =
    let s = system_in c.args.listing.now.classing.now.admitted.now in
    let records = c.records-records.result.now in
    let has = lent s records c.records-records.ensures.value c.outline.ensures.records in
    slots_in s c.outline.ensures.admitted.system records has

pub first_from-end-requires-clause-slots : goal.first_from-end-requires-clause-slots
first_from-end-requires-clause-slots g c =
    let s = system_in c.args.listing.now.classing.now.admitted.now in
    let records = c.records-records.result.now in
    let has = lent s records c.records-records.ensures.value c.outline.ensures.records in
    slots_in s c.outline.ensures.admitted.system records has

pub loop-function-init : goal.loop-function-init
loop-function-init g c = λ on beside below.
    let s = system_in c.args.listing.now.classing.now.admitted.now in
    let records = c.records-records.result.now in
    let has = lent s records c.records-records.ensures.value c.outline.ensures.records in
    let first = c.first_from-first.ensures in
    below_first (listing_value c.args.listing.now on) c.outline.ensures.admitted.system records has c.args.bus c.first_from-first.result _
    first.bound first.before first.after below

pub bounds-probes-function : goal.bounds-probes-function
bounds-probes-function g c =
    let s = system_in c.args.listing.now.classing.now.admitted.now in
    let records = c.records-records.result.now in
    let has = lent s records c.records-records.ensures.value c.outline.ensures.records in
    let count = probe_count c.args.listing.now.classing.now.admitted.now c.outline.ensures.admitted records has c.blocks-probes.result.now (c.blocks-probes.ensures.value ∙ c.probe.ensures) in
    let end = c.first_from-end.ensures.bound in
    omega (arith, count, end)

pub add_items-requires-clause-bars : goal.add_items-requires-clause-bars
add_items-requires-clause-bars g c =
    let s = system_in c.args.listing.now.classing.now.admitted.now in
    let records = c.records-records.result.now in
    let has = lent s records c.records-records.ensures.value c.outline.ensures.records in
    let r = c.index-records-function.result in
    let end = c.first_from-end.ensures.bound in
    bars_sized s _ r (record_of_place s records has c.loop-function.function r (omega (arith, end)) c.index-records-function.is)

pub add_items-requires-clause-rom : goal.add_items-requires-clause-rom
add_items-requires-clause-rom g c =
    let s = system_in c.args.listing.now.classing.now.admitted.now in
    let records = c.records-records.result.now in
    let has = lent s records c.records-records.ensures.value c.outline.ensures.records in
    let r = c.index-records-function.result in
    let end = c.first_from-end.ensures.bound in
    rom_sized s _ r (record_of_place s records has c.loop-function.function r (omega (arith, end)) c.index-records-function.is)

pub loop-function-preserved : goal.loop-function-preserved
loop-function-preserved g c = λ on beside below.
    let s = system_in c.args.listing.now.classing.now.admitted.now in
    let records = c.records-records.result.now in
    let has = lent s records c.records-records.ensures.value c.outline.ensures.records in
    let r = c.index-records-function.result in
    let k = c.loop-function.function in
    let d : Above = record { io = false; pref = false; wide = false } in
    let above = get_or c.args.listing.now.classing.now.aboves.now c.args.bus d in
    let end = c.first_from-end.ensures.bound in
    let low : c.args.bus ≤ r.slot.bus = subst (λ x. c.args.bus ≤ x.slot.bus) (sym c.index-records-function.is) (c.first_from-first.ensures.after k r (omega arith) (omega (arith, end))) in
    let high : r.slot.bus < c.args.bus + 1 = subst (λ x. x.slot.bus < c.args.bus + 1) (sym c.index-records-function.is) (c.first_from-end.ensures.before k r (omega arith) (omega arith)) in
    bus_step (listing_value c.args.listing.now on) c.outline.ensures.admitted.system records has k r (omega (arith, end)) c.index-records-function.is
    c.block.inside.image.0
    (probe_at c.args.listing.now.classing.now.admitted.now c.outline.ensures.admitted records has c.blocks-probes.result.now (c.blocks-probes.ensures.value ∙ c.probe.ensures) k c.index-probes-function.result (omega (arith, end)) c.index-probes-function.is
    ∙ sym (ap (λ (b : Block). b.image) c.block.view_is))
    c.args.listing.now.classing.now.aboves.now c.requires c.args.bus (omega (arith, low, high)) d record { above = above; windows = c.open_over.result } (ap (over_with above) c.open_over.ensures) c.window_behind.result c.window_behind.ensures
    c.kept_by.result.now c.kept_by.ensures beside c.loop-function.items.items c.add_items.new.items.items c.in_ok-add_items.ensures.items (c.loop-function.invariant on beside below)

pub returns : goal.returns
returns g c = λ on beside below.
    let s = system_in c.args.listing.now.classing.now.admitted.now in
    let records = c.records-records.result.now in
    let has = lent s records c.records-records.ensures.value c.outline.ensures.records in
    let first = c.first_from-first.ensures in
    let end = c.first_from-end.ensures in
    let up : c.first_from-first.result ≤ c.first_from-end.result = begins_before records c.args.bus _ c.first_from-first.result c.first_from-end.result refl first.bound first.before end.after in
    let done : c.loop-function.function ≡ c.first_from-end.result = (let high = c.loop-function.auto.function-end up in omega (arith, up, high)) in
    below_next (listing_value c.args.listing.now on) c.outline.ensures.admitted.system records has _ c.first_from-end.result _
    end.bound end.before end.after (subst (λ n. AreOnBusTo (listing_value c.args.listing.now on) n c.loop-function.items.items) done (c.loop-function.invariant on beside below))
