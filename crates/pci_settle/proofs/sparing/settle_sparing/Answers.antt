use Rattle.std.proofs.Common.{◌≡◌, ◌∙◌, [], length, map, true, false, Option, Some, IfSome, refl, sym, ap, subst}
use Rattle.std.specs.Option.{is_some}
use Rattle.settle_spec.specs.Growing.{finally_kept}
use Rattle.settle_spec.specs.Sparing.{without_slots}
use Rattle.pci_place.specs.Above.{system_in}
use Rattle.pci_plan.specs.Writes.{write_value}
use Rattle.pci_first_fit.specs.Slots.{Demand, demand_value}
use Rattle.pci_settle.specs.Requests.{request}
use Rattle.pci_settle.specs.Denied.{denied_value, IsSpared}
use Rattle.pci_settle.specs.Ended.{ended_value, IsEndOfSettling}
use Rattle.pci_settle.specs.Endings.{kept_after}
use Rattle.pci_settle.specs.Sparing.{HaveSpares}
use Rattle.pci_settle.proofs.Outcomes.{ended}
use Rattle.pci_settle.proofs.Spared.{highest_of}
use Rattle.pci_settle.proofs.HaveSpares.{slotless, with_them, without_them}
use Rattle.pci_settle.proofs.sparing.settle_sparing.Goals as goal

if_some : {T : Type 0} (P : T → Type 0) {o : Option T} {x : T} → o ≡ Some x → IfSome o P → P x
if_some P is told = subst (λ y. IfSome y P) is told

pub with_spares-requires-clause-staying : goal.with_spares-requires-clause-staying
with_spares-requires-clause-staying g c = ap length c.as_slice.ensures.value ∙ c.in_ok-without.ensures.staying

pub settle_wished-requires-clause-places : goal.settle_wished-requires-clause-places
settle_wished-requires-clause-places g c = if_some (λ y. length y.places.items ≡ length (system_in c.args.admitted.now)) c.in-Some.is c.in_ok-spared.ensures.places

pub settle_wished-requires-clause-staying : goal.settle_wished-requires-clause-staying
settle_wished-requires-clause-staying g c = if_some (λ y. length y.staying.items ≡ length (system_in c.args.admitted.now)) c.in-Some.is c.in_ok-spared.ensures.staying

pub settle_wished-requires-clause-told : goal.settle_wished-requires-clause-told
settle_wished-requires-clause-told g c = if_some (λ y. length y.standing.items ≡ length c.args.lists.now.told.ranges.now) c.in-Some.is c.in_ok-spared.ensures.told

pub settle_wished-requires-in-None-clause-told : goal.settle_wished-requires-in-None-clause-told
settle_wished-requires-in-None-clause-told g c = c.in_ok-without.ensures.told

pub settle_wished-requires-in-None-clause-places : goal.settle_wished-requires-in-None-clause-places
settle_wished-requires-in-None-clause-places g c = c.in_ok-without.ensures.places

pub settle_wished-requires-in-None-clause-staying : goal.settle_wished-requires-in-None-clause-staying
settle_wished-requires-in-None-clause-staying g c = c.in_ok-without.ensures.staying

pub returns-then-is_empty-clause-spared : goal.returns-then-is_empty-clause-spared
returns-then-is_empty-clause-spared g c =
    let a = c.args.admitted.now in
    let d = demand_value c.args.lists.now in
    let q = request a.roots d c.args.rules.now.fixed.now c.args.rules.now.anew in
    let high = highest_of c.args.lists.now.pref.now c.requires.high in
    let o = ended_value c.in_ok-without.without in
    let is = subst (λ (x : Demand). IsEndOfSettling (request a.roots x c.args.rules.now.fixed.now c.args.rules.now.anew) (kept_after (request a.roots x c.args.rules.now.fixed.now c.args.rules.now.anew) (system_in a)) a o) c.without_slots-alone.ensures c.in_ok-without.ensures.ends in
    subst (λ dump. IsSpared q a dump (map write_value c.unspared.result.writes.all.items) c.unspared.result.writes.closings (map denied_value c.unspared.result.denied.items)) (sym c.unspared.ensures.dump)
    (subst (λ writes. IsSpared q a o.dump (map write_value writes.all.items) writes.closings (map denied_value c.unspared.result.denied.items)) (sym c.unspared.ensures.writes)
    (subst (λ denied. IsSpared q a o.dump o.writes o.closings (map denied_value denied)) (sym c.unspared.ensures.denied)
    (slotless a c.outline-outline.ensures.admitted q refl c.requires.fine high o is c.args.lists.now.slots.bridges.now refl c.is_empty.result c.is_empty.ensures c.if-is_empty.true)))

pub returns-clause-spared : goal.returns-clause-spared
returns-clause-spared g c =
    let a = c.args.admitted.now in
    let s = system_in a in
    let d = demand_value c.args.lists.now in
    let q = request a.roots d c.args.rules.now.fixed.now c.args.rules.now.anew in
    let w = without_slots q in
    let high = highest_of c.args.lists.now.pref.now c.requires.high in
    let o = ended_value c.in_ok-without.without in
    let is = subst (λ (x : Demand). IsEndOfSettling (request a.roots x c.args.rules.now.fixed.now c.args.rules.now.anew) (kept_after (request a.roots x c.args.rules.now.fixed.now c.args.rules.now.anew) s) a o) c.without_slots-alone.ensures c.in_ok-without.ensures.ends in
    elim c.match-branch-4.branch [
      | goal.in-Some+in_ok-settled-in-Some x ↦
          let sparing = ended_value x.in-Some.spared in
          let ends = if_some (λ y. IsEndOfSettling q (kept_after q s) a (ended_value y)) x.in-Some.is c.in_ok-spared.ensures.spares in
          let made = x.in_ok-settled-in-Some.settled in
          let wished = x.in_ok-settled-in-Some.ensures.wished q.slots (finally_kept q s) refl (ended a q c.requires.fine sparing ends) in
          let told : HaveSpares a q o.staying true = subst (λ staying. HaveSpares a q staying true) c.as_slice.ensures.value (subst (λ f. HaveSpares a q c.as_slice.result.now (is_some f)) x.in-Some.is c.in_ok-spared.ensures.have) in
          subst (λ y. IsSpared q a y.dump (map write_value y.writes.all.items) y.writes.closings (map denied_value y.denied.items)) (sym x.settled-is)
          (with_them a c.outline-outline.ensures.admitted q refl c.requires.fine high o is made.dump (map write_value made.writes.all.items) made.writes.closings (map denied_value made.denied.items) told sparing ends wished)
      | goal.in-None+in_ok-settled-in-None x ↦
          let made = x.in_ok-settled-in-None.settled in
          let wished = x.in_ok-settled-in-None.ensures.wished [] (finally_kept w s) c.without_slots-alone.ensures (ended a w c.requires.fine o is) in
          let told : HaveSpares a q o.staying false = subst (λ staying. HaveSpares a q staying false) c.as_slice.ensures.value (subst (λ f. HaveSpares a q c.as_slice.result.now (is_some f)) x.in-None.is c.in_ok-spared.ensures.have) in
          subst (λ y. IsSpared q a y.dump (map write_value y.writes.all.items) y.writes.closings (map denied_value y.denied.items)) (sym x.settled-is)
          (without_them a c.outline-outline.ensures.admitted q refl c.requires.fine high o is made.dump (map write_value made.writes.all.items) made.writes.closings (map denied_value made.denied.items) told wished)
    ]
