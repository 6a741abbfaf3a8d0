use Rattle.std.proofs.Common.{◌≡◌, ◌<◌, sym, ◌∙◌, ap, arith, length, get_or, refl, subst, ◌||◌, not}
use Rattle.std.proofs.lemmas.List.{get_or_default, length-set}
use Rattle.std.proofs.lemmas.List.Elements.{All-set, Contains-get_or}
use Rattle.settle_spec.specs.Stands.{leads_to_told}
use Rattle.pci_kept.specs.declared.region.Region.{Region}
use Rattle.pci_kept.specs.Known.{region_value}
use Rattle.pci_kept.specs.Leads.{noted}
use Rattle.pci_kept.proofs.Whole.{known_in}
use Rattle.pci_kept.proofs.LeadsNoted.{no_region, noted_none, noted_more, noted_all}
use Rattle.pci_kept.proofs.leads.note_leads.Goals as goal

pub leads_to_one-leads-requires-clause-function : goal.leads_to_one-leads-requires-clause-function
leads_to_one-leads-requires-clause-function c =
    c.loop-index.invariant.functions c.loop-index.index no_region (let low = c.loop-index-test.true in let size = c.loop-index.invariant.size in omega (arith, low, size))

pub can_stand-can_stand-requires-clause-function : goal.can_stand-can_stand-requires-clause-function
can_stand-can_stand-requires-clause-function c =
    c.loop-index.invariant.functions c.loop-index.index no_region (let low = c.loop-index-test.true in let size = c.loop-index.invariant.size in omega (arith, low, size))

pub loop-index-init : goal.loop-index-init
loop-index-init c = record { size = refl; functions = c.requires.functions; known = λ q s tree same lines parts anew. noted_none q s c.args.regions.now parts }

pub loop-index-preserved : goal.loop-index-preserved
loop-index-preserved c =
    let rs = c.loop-index.regions in
    let k = c.loop-index.index in
    let low = c.loop-index-test.true in
    let size = c.loop-index.invariant.size in
    let within : k < length rs = omega (arith, low, size) in
    let r : Region = get_or rs k no_region in
    let r_is : r ≡ get_or rs k r = sym (get_or_default rs k r no_region within) in
    let new = c.noted.result in
    let new_is : new ≡ noted c.leads_to_one-leads.result c.can_stand-can_stand.result r = c.noted.ensures in
    record {
      size = length-set rs k new ∙ size;
      functions = All-set (λ (x : Region). x.function < length c.args.records.now) rs k new (subst (λ (x : Region). x.function < length c.args.records.now) (sym new_is) (c.loop-index.invariant.functions k no_region within)) c.loop-index.invariant.functions;
      known = λ q s tree same lines parts anew.
          (let below = c.loop-index.invariant.known q s tree same lines parts anew in
          noted_more q s k rs r within r_is below c.leads_to_one-leads.result c.can_stand-can_stand.result
          (c.leads_to_one-leads.ensures q s tree same lines (known_in q s rs below.parts r (Contains-get_or rs k no_region within)))
          (c.can_stand-can_stand.ensures q s tree same lines (known_in q s rs below.parts r (Contains-get_or rs k no_region within))
          ∙ ap (λ b. leads_to_told q s (region_value s r) || not b) (sym anew)) new new_is);
    }

pub returns : goal.returns
returns c = λ q s tree same lines parts anew.
    let end = c.loop-index-test.false in
    let size = c.loop-index.invariant.size in
    noted_all q s c.loop-index.index c.loop-index.regions (omega (arith, end, size)) (c.loop-index.invariant.known q s tree same lines parts anew)
