use Rattle.std.proofs.Common.{◌+◌, ◌<◌, [], ◌∷◌, ◌++◌, length, take, get_or, arith, sym, subst}
use Rattle.std.specs.List.{AllZip}
use Rattle.std.proofs.lemmas.List.{take_all, take_more}
use Rattle.std.proofs.lemmas.Option.{slice_get-get_or}
use Rattle.pci_spec.specs.System.{Function}
use Rattle.pci_place.specs.Above.{system_in}
use Rattle.pci_place.specs.Pools.{pools_value}
use Rattle.pci_plan.specs.Numbered.{IsNewHeader}
use Rattle.pci_plan.proofs.Numberings.{zip_push}
use Rattle.pci_plan.proofs.numbered.number_all.Goals as goal

-- what stands where no function does
nothing : Function
nothing = record { slot = record { bus = 0; device = 0; function = 0 }; image = []; probe = [] }

pub loop-i-init : goal.loop-i-init
loop-i-init g c =
    let a = c.args.admitted.now in
    subst (λ hs. AllZip (IsNewHeader a.roots (system_in a) (pools_value c.args.pools.now)) [] hs) (sym c.in-Ok.ensures.items) tt

pub filled_image-image-requires-clause-within : goal.filled_image-image-requires-clause-within
filled_image-image-requires-clause-within g c =
    let count = c.requires.count in
    let more = c.loop-i-test.true in
    omega (arith, count, more)

pub loop-i-preserved : goal.loop-i-preserved
loop-i-preserved g c =
    let a = c.args.admitted.now in
    let s = system_in a in
    let New = IsNewHeader a.roots s (pools_value c.args.pools.now) in
    let i = c.loop-i.i in
    let count = c.requires.count in
    let more = c.loop-i-test.true in
    let within : i < length s = omega (arith, count, more) in
    let f = get_or s i nothing in
    let planned = c.filled_image-image.ensures f (slice_get-get_or s i nothing within) in
    subst (λ hs. AllZip New (take (i + 1) s) hs) (sym c.in_ok-push.ensures.items)
    (subst (λ fs. AllZip New fs (c.loop-i.headers.items ++ c.header_of.result ∷ [])) (sym (take_more s i nothing within))
    (zip_push New (take i s) c.loop-i.headers.items f c.header_of.result c.loop-i.invariant
    record { image = c.filled_image-image.result.0; planned = planned; first = c.header_of.ensures }))

pub returns : goal.returns
returns g c =
    let a = c.args.admitted.now in
    let s = system_in a in
    let count = c.requires.count in
    let done = c.loop-i-test.false in
    subst (λ fs. AllZip (IsNewHeader a.roots s (pools_value c.args.pools.now)) fs c.loop-i.headers.items)
    (take_all c.loop-i.i s (omega (arith, count, done))) c.loop-i.invariant
