use Rattle.std.proofs.Common.{rules, ◌≡◌, ◌<◌, get_or, subst, sym, ◌∙◌, inl, inr, arith, ap}
use Rattle.pci_base.specs.Space.{space_of}
use Rattle.pci_tree.specs.declared.region.Part.TheVariants.{Window}
use Rattle.pci_tree.specs.declared.region.Region.{Region}
use Rattle.pci_map.specs.Above.{IsSentAbove}
use Rattle.pci_map.specs.Addresses.{SpaceRanges}
use Rattle.pci_map.proofs.Places.{window_in_place, answer}
use Rattle.pci_map.proofs.above.is_out_of_place.Goals as goal

pub returns-then-eq : goal.returns-then-eq
returns-then-eq g c = λ told given t s above on.
    let window : c.args.region.now.part ≡ Window = search rules in
    window_in_place told given t s above.tree.one (space_of c.args.space) c.args.bus c.args.region.now on window

pub returns : goal.returns
returns g c = λ told given t s above on.
    let q : Region = c.args.region.now in
    let sent : SpaceRanges = c.index-above-bus.result in
    let low = c.if-above-bus.false in
    let not_window : q.part ≡ Window → ⊥ = λ window. search (rules, window) in elim above.rows [
      | inl nothing ↦ (let none = nothing.none in absurd (let no : ⊥ = omega (arith, low, none) in no))
      | inr rows ↦ (
          let size = rows.size in
          let bus : on.f.slot.bus ≡ c.args.bus = on.on_bus in
          let small : on.f.slot.bus < 256 = omega (arith, low, size, bus) in
          let row : IsSentAbove given t.roots s on.f.slot.bus sent =
          subst (IsSentAbove given t.roots s on.f.slot.bus) (ap (λ n. get_or c.args.above.now n sent) bus ∙ sym c.index-above-bus.is) (rows.each on.f sent on.listed small) in
          answer told given t s above.tree.one (space_of c.args.space) c.args.bus q on sent row c.has_all.result not_window c.has_all.ensures)
    ]
