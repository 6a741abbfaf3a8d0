use Rattle.std.proofs.Common.{◌⊎◌, ◌≡◌, ℕ, subst, sym}
use Rattle.std.specs.Prelude.{OnOk, ◌↔◌}
use Rattle.pci_faults.specs.Owners.{OwnedRanges, OwnedRangesAreApart, Owns, OwnedRangeHas}
use Rattle.pci_faults.proofs.Filling.{filled_apart, filled}
use Rattle.pci_faults.proofs.owners.Owners.fill.Goals.{in-Ok, in-Err}
use Rattle.pci_faults.proofs.owners.Owners.fill.Goals as goal

pub invariant_of-self : goal.invariant_of-self
invariant_of-self g c =
    let free : (a i : ℕ) → OwnedRangeHas c.args.range a → Owns c.self.inside.ranges.entries a i → ⊥ =
    λ a i held o. c.requires.free a i held (subst (λ (r : OwnedRanges). Owns r a i) c.self.view_is o) in
    elim c.match-insert.branch [
      | in-Ok w ↦ filled_apart c.self.inside.ranges.entries c.insert.new.self.entries c.args.range c.args.owner c.self.invariant c.requires.some free
          w.in-Ok.ensures.updates.1 w.in-Ok.ensures.updates.2
      | in-Err w ↦ subst OwnedRangesAreApart (sym w.in-Err.ensures.err) c.self.invariant
    ]

pub returns : goal.returns
returns g c =
    let free : (a i : ℕ) → OwnedRangeHas c.args.range a → Owns c.self.inside.ranges.entries a i → ⊥ =
    λ a i held o. c.requires.free a i held (subst (λ (r : OwnedRanges). Owns r a i) c.self.view_is o) in
    let P : Type 0 = (a i : ℕ) → Owns c.insert.new.self.entries a i ↔ (Owns c.args.self.now a i ⊎ (OwnedRangeHas c.args.range a × (i ≡ c.args.owner))) in
    elim c.match-insert.branch [
      | in-Ok w ↦ subst (λ r. OnOk r P) (sym w.result-is)
          (subst (λ (r : OwnedRanges). (a i : ℕ) → Owns c.insert.new.self.entries a i ↔ (Owns r a i ⊎ (OwnedRangeHas c.args.range a × (i ≡ c.args.owner)))) c.self.view_is
          (filled c.self.inside.ranges.entries c.insert.new.self.entries c.args.range c.args.owner c.self.invariant c.requires.some free
          w.in-Ok.ensures.updates.1 w.in-Ok.ensures.updates.2))
      | in-Err w ↦ subst (λ r. OnOk r P) (sym w.result-is) (tt {0})
    ]
