use Rattle.std.proofs.Common.{rules, ◌<◌, subst, refl, ap, sym, ◌∙◌}
use Rattle.std.specs.Prelude.{MatchBool}
use Rattle.std.specs.String.{string_bytes}
use Rattle.pci_spec.specs.Slot.{Slot}
use Rattle.pci_base.specs.Space.{space_of}
use Rattle.judge_spec.specs.Lines.{IsOutOfPlace}
use Rattle.pci_claims.specs.Values.{code_given_value}
use Rattle.pci_map.specs.Values.{value_of}
use Rattle.pci_map.specs.Left.{IsLeftIf}
use Rattle.pci_map.specs.Asides.{IsNamedAt, AsideTexts, AreAsides}
use Rattle.judge_spec.specs.Regions.{Own}
use Rattle.pci_tree.specs.declared.region.Region.{Region}
use Rattle.pci_map.proofs.Tolds.{is_region, found_on}
use Rattle.pci_map.proofs.Lefts.{first_address}
use Rattle.pci_map.proofs.AsideTexts.{none_aside, told_outside, told_reached, told_left}
use Rattle.pci_map.proofs.asides.push_aside_in.Goals as goal

pub returns-in_default : goal.returns-in_default
returns-in_default g c = λ told t s above ways found.
    let small : c.args.spot.register < 256 = search rules in
    none_aside told (code_given_value c.args.routes.now.given) t.roots s above.tree.one c.args.spot.slot c.args.spot.register small (space_of c.args.spot.space) c.args.asides.now.outside c.args.asides.now.unreached
    (found.none c.args.spot.register c.in_default.ensures)

pub returns-then-is_out_of_place : goal.returns-then-is_out_of_place
returns-then-is_out_of_place g c = λ told t s above ways found.
    let small : c.args.spot.register < 256 = search rules in
    let q : Region = c.in-Some.region.now in
    let space = space_of c.args.spot.space in
    let here = found.found c.args.spot.register q c.in-Some.ensures in
    let out = subst (λ b. MatchBool b (IsOutOfPlace told (code_given_value c.args.routes.now.given) t.roots s (Own (value_of space q))) (IsOutOfPlace told (code_given_value c.args.routes.now.given) t.roots s (Own (value_of space q)) → ⊥)) c.if-is_out_of_place.true
    (c.is_out_of_place.ensures told (code_given_value c.args.routes.now.given) t s above (found_on s c.args.spot.slot c.args.spot.register space q here _ c.bus.ensures)) in
    subst (λ (old : AsideTexts). AreAsides told (code_given_value c.args.routes.now.given) t.roots s (IsNamedAt c.args.spot.slot c.args.spot.register space) old record { outside = string_bytes c.push_region.new.text; unreached = string_bytes c.asides.inside.unreached })
    c.asides.view_is
    (told_outside told (code_given_value c.args.routes.now.given) t.roots s above.tree.one c.args.spot.slot c.args.spot.register small space q here (string_bytes c.asides.inside.outside) (string_bytes c.push_region.new.text) (string_bytes c.asides.inside.unreached) out
    c.in_ok-push_region.ensures)

pub returns-then-not-is_left : goal.returns-then-not-is_left
returns-then-not-is_left g c = λ told t s above ways found.
    let small : c.args.spot.register < 256 = search rules in
    let q : Region = c.in-Some.region.now in
    let space = space_of c.args.spot.space in
    let here = found.found c.args.spot.register q c.in-Some.ensures in
    let is = is_region s c.args.spot.slot c.args.spot.register space q here in
    let within = subst (λ b. MatchBool b (IsOutOfPlace told (code_given_value c.args.routes.now.given) t.roots s (Own (value_of space q))) (IsOutOfPlace told (code_given_value c.args.routes.now.given) t.roots s (Own (value_of space q)) → ⊥)) c.if-is_out_of_place.false
    (c.is_out_of_place.ensures told (code_given_value c.args.routes.now.given) t s above (found_on s c.args.spot.slot c.args.spot.register space q here _ c.bus.ensures)) in
    told_reached told (code_given_value c.args.routes.now.given) t.roots s above.tree.one c.args.spot.slot c.args.spot.register small space q here c.args.asides.now.outside c.args.asides.now.unreached within
    (subst (λ b. IsLeftIf (code_given_value c.args.routes.now.given) t.roots s (Own (value_of space q)) b) c.if-not-is_left.true (c.is_left.ensures (code_given_value c.args.routes.now.given) t s (Own (value_of space q)) above.tree ways (ap (λ (x : Slot). x.bus) here.slot_is ∙ sym c.bus-2.ensures) refl refl (first_address s space q is)))

pub returns : goal.returns
returns g c = λ told t s above ways found.
    let small : c.args.spot.register < 256 = search rules in
    let q : Region = c.in-Some.region.now in
    let space = space_of c.args.spot.space in
    let here = found.found c.args.spot.register q c.in-Some.ensures in
    let is = is_region s c.args.spot.slot c.args.spot.register space q here in
    let within = subst (λ b. MatchBool b (IsOutOfPlace told (code_given_value c.args.routes.now.given) t.roots s (Own (value_of space q))) (IsOutOfPlace told (code_given_value c.args.routes.now.given) t.roots s (Own (value_of space q)) → ⊥)) c.if-is_out_of_place.false
    (c.is_out_of_place.ensures told (code_given_value c.args.routes.now.given) t s above (found_on s c.args.spot.slot c.args.spot.register space q here _ c.bus.ensures)) in
    subst (λ (old : AsideTexts). AreAsides told (code_given_value c.args.routes.now.given) t.roots s (IsNamedAt c.args.spot.slot c.args.spot.register space) old record { outside = string_bytes c.asides.inside.outside; unreached = string_bytes c.push_region-2.new.text })
    c.asides.view_is
    (told_left told (code_given_value c.args.routes.now.given) t.roots s above.tree.one c.args.spot.slot c.args.spot.register small space q here (string_bytes c.asides.inside.outside) (string_bytes c.asides.inside.unreached) (string_bytes c.push_region-2.new.text) within
    (subst (λ b. IsLeftIf (code_given_value c.args.routes.now.given) t.roots s (Own (value_of space q)) b) c.if-not-is_left.false (c.is_left.ensures (code_given_value c.args.routes.now.given) t s (Own (value_of space q)) above.tree ways (ap (λ (x : Slot). x.bus) here.slot_is ∙ sym c.bus-2.ensures) refl refl (first_address s space q is)))
    c.in_ok-push_region-2.ensures)
