use Rattle.std.proofs.Common.{◌<◌, ◌++◌, [], ◌∷◌, map, length, arith, sym, ◌∙◌, ap, subst}
use Rattle.std.proofs.lemmas.List.{map-append, take_more}
use Rattle.std.proofs.lemmas.List.Elements.{All-append, All-cons, All-nil}
use Rattle.std.specs.List.{All}
use Rattle.pci_spec.specs.Capability.{IsChain}
use Rattle.pci_image.specs.Caps.{place_of, IsCapIn}
use Rattle.pci_image.proofs.Walking.{chain-aligned}
use Rattle.pci_image.proofs.capability.chain.Goals as goal

pub at-requires-clause-aligned : goal.at-requires-clause-aligned
at-requires-clause-aligned c =
    chain-aligned c.args.image.now.0 c.as_slice-place-items.result.now c.loop-place.place-index (subst (IsChain c.args.image.now.0) (sym c.as_slice-place-items.ensures.value) c.in_ok-places.ensures.chain)
    (omega arith)

pub loop-place-preserved : goal.loop-place-preserved
loop-place-preserved c =
    let image = c.args.image.now.0 in
    let found = c.loop-place.found.items in
    let places = c.as_slice-place-items.result.now in
    let cap = c.at.result in
    let within : c.loop-place.place-index < length places = omega arith in
    let bodies = All-append (IsCapIn image) found (cap ∷ []) c.loop-place.invariant.bodies (All-cons (IsCapIn image) cap [] c.at.ensures.1 (All-nil (IsCapIn image))) in
    record {
      so_far = ap (map place_of) c.push.ensures.items ∙ map-append place_of found (cap ∷ []) ∙ (λ i. c.loop-place.invariant.so_far i ++ c.at.ensures.0 i ∷ [])
          ∙ sym (take_more places c.loop-place.place-index 0 within);
      bodies = subst (All (IsCapIn image)) (sym c.push.ensures.items) bodies;
    }
