use Rattle.std.proofs.Common.{◌≡◌, ◌≢◌, ◌+◌, slice_index, set, arith, inl, inr, ap, ◌∙◌, sym, below_more, rules, get_or-set_same, get_or-set_other, length-set}
use Rattle.pci_base.proofs.Accesses.{access-end}
use Rattle.pci_base.proofs.Puts.{number_put, image_put}
use Rattle.pci_base.proofs.image.put.Goals as goal

pub loop-j-preserved : goal.loop-j-preserved
loop-j-preserved c =
    let spot = c.from.result in
    let same : spot ≡ c.args.off + c.loop-j.j = c.from.ensures in
    let datum = c.byte_of.result in
    let full = c.loop-j.invariant.full in
    let ends = access-end c.args.off c.args.width c.requires (search rules) in
    record {
      full = length-set c.loop-j.bytes spot datum ∙ full;
      inside = below_more _ _
          (λ k h. let ne : c.args.off + k ≢ spot = omega (arith, same, h) in
          get_or-set_other c.loop-j.bytes spot (c.args.off + k) datum 0 ne ∙ c.loop-j.invariant.inside k h)
          (ap (slice_index (set c.loop-j.bytes spot datum)) (sym same) ∙ get_or-set_same c.loop-j.bytes spot datum 0 (omega (arith, full, same, ends))
          ∙ c.byte_of.ensures);
      outside = λ place h. elim h [
        | inl low ↦
            (let ne : place ≢ spot = omega (arith, same, low) in get_or-set_other c.loop-j.bytes spot place datum 0 ne ∙ c.loop-j.invariant.outside place (inl low))
        | inr high ↦
            (let ne : place ≢ spot = omega (arith, same, high) in get_or-set_other c.loop-j.bytes spot place datum 0 ne ∙ c.loop-j.invariant.outside place (inr (omega arith)))
      ];
    }

pub returns-clause-number : goal.returns-clause-number
returns-clause-number c = number_put c.loop-j.bytes c.args.off c.args.width c.args.value (λ j below. c.loop-j.invariant.inside j (let done = c.loop-j-test.false in omega (arith, below, done)))

pub returns-clause-image : goal.returns-clause-image
returns-clause-image c = λ is.
    image_put c.args.bytes.now c.loop-j.bytes c.args.off c.args.width c.args.value is c.loop-j.invariant.full
    (λ j below. c.loop-j.invariant.inside j (let done = c.loop-j-test.false in omega (arith, below, done)))
    (λ place apart. c.loop-j.invariant.outside place (elim apart [ inl low ↦ inl low | inr high ↦ inr (let end = c.loop-j.auto.j-end in omega (arith, high, end)) ]))
