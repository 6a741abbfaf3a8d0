use Rattle.std.proofs.Common.{subst, refl, ap, sym, ◌∙◌, Option}
use Rattle.std.specs.Prelude.{MatchOption}
use Rattle.pci_spec.specs.Slot.{Slot}
use Rattle.pci_base.specs.Space.{space_of}
use Rattle.pci_tree.specs.declared.region.Region.{Region}
use Rattle.pci_claims.specs.Found.{NoneClaims, IsFoundIn}
use Rattle.pci_claims.specs.Values.{code_given_value}
use Rattle.judge_spec.specs.Regions.{Own}
use Rattle.pci_map.specs.Values.{value_of}
use Rattle.pci_map.proofs.Firsts.{found_region}
use Rattle.pci_map.proofs.Lefts.{first_address}
use Rattle.pci_map.proofs.ways.judge.Goals as goal

pub returns-in_default : goal.returns-in_default
returns-in_default g c = λ s tree ways.
    subst (λ (o : Option Region). MatchOption o (NoneClaims s c.args.spot.slot c.args.spot.register (space_of c.args.spot.space)) (λ q. IsFoundIn s c.args.spot.slot c.args.spot.register (space_of c.args.spot.space) q)) c.in_default.is
    (c.in_ok-window.ensures.found s tree.records)

pub returns : goal.returns
returns g c = λ s tree ways.
    let q : Region = c.in-Some.window in
    let space = space_of c.args.spot.space in
    let found = subst (λ (o : Option Region). MatchOption o (NoneClaims s c.args.spot.slot c.args.spot.register space) (λ q. IsFoundIn s c.args.spot.slot c.args.spot.register space q)) c.in-Some.is
    (c.in_ok-window.ensures.found s tree.records) in record {
      found = found;
      cut = c.is_cut-cut.ensures;
      judged = c.is_left-left.ensures (code_given_value c.args.given.now) c.args.outline.now s (Own (value_of space q)) tree ways (ap (λ (x : Slot). x.bus) found.slot_is ∙ sym c.bus.ensures) refl refl
          (first_address s space q (found_region s c.args.spot.slot c.args.spot.register space q found));
    }
