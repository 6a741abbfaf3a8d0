use Rattle.std.proofs.Common.{◌≡◌, ◌++◌, [], length, take, get_or, suc, ◌+◌, sym, ◌∙◌, ap, subst, arith}
use Rattle.std.specs.List.{All}
use Rattle.std.proofs.lemmas.List.{take_all}
use Rattle.pci_spec.specs.Text.{IsDump, slots_of}
use Rattle.pci_spec.proofs.Pairing.{same_length, length-system_of}
use Rattle.pci_tree.proofs.Pairs.{holds_of_more}
use Rattle.pci_listing.specs.Shows.{IsListable}
use Rattle.pci_spec.specs.System.{function_of, system_of}
use Rattle.pci_spec.specs.Listing.{listing, function_listing}
use Rattle.pci_listing.proofs.Shows.{same_count, listing_more, refused_at}
use Rattle.pci_listing.proofs.show.show.Goals as goal

pub returns-in-Err-clause-refused : goal.returns-in-Err-clause-refused
returns-in-Err-clause-refused g c = (let early = c.in-Err.ensures.kind in omega (arith, early), c.in-Err.ensures.first)

pub bounds-probes-i : goal.bounds-probes-i
bounds-probes-i g c =
    let same = (c.in_default.ensures.ok []).same in
    let count = same_count c.args.dump.now c.args.probe.now same in
    omega (arith, count, ap length c.blocks-blocks.ensures.value, ap length c.blocks-probes.ensures.value)

pub returns-in_err-push_block-clause-refused : goal.returns-in_err-push_block-clause-refused
returns-in_err-push_block-clause-refused g c =
    let blocks = c.blocks-blocks.result.now in
    let probes = c.blocks-probes.result.now in
    let same = (c.in_default.ensures.ok []).same in
    let count = same_count c.args.dump.now c.args.probe.now same in
    let long = ap length c.blocks-blocks.ensures.value in
    let other = ap length c.blocks-probes.ensures.value in
    let here : blocks ≡ c.args.dump.now = c.blocks-blocks.ensures.value in
    let there : probes ≡ c.args.probe.now = c.blocks-probes.ensures.value in
    let b = c.index-blocks-i.result in
    let p = c.index-probes-i.result in
    let listable = subst (λ bs. All IsListable (take c.loop-i.i (system_of bs c.args.probe.now))) here
    (subst (λ bs. All IsListable (take c.loop-i.i (system_of blocks bs))) there c.loop-i.invariant.listable) in
    refused_at c.args.dump.now c.args.probe.now (subst IsDump here (subst IsDump (sym here) c.blocks-blocks.ensures.dump)) (subst IsDump there (subst IsDump (sym there) c.blocks-probes.ensures.dump))
    c.in_default.ensures.ok c.loop-i.i b p (omega (arith, long))
    (c.index-blocks-i.is ∙ ap (λ bs. get_or bs c.loop-i.i b) here) (c.index-probes-i.is ∙ ap (λ bs. get_or bs c.loop-i.i p) there)
    listable c.from_residual.result c.in_err-push_block.field-0.0 c.in_err-push_block.ensures.refused c.from_residual.ensures.1

pub loop-i-preserved : goal.loop-i-preserved
loop-i-preserved g c =
    let blocks = c.blocks-blocks.result.now in
    let probes = c.blocks-probes.result.now in
    let same = (c.in_default.ensures.ok []).same in
    let count = same_count c.args.dump.now c.args.probe.now same in
    let long = ap length c.blocks-blocks.ensures.value in
    let other = ap length c.blocks-probes.ensures.value in
    let more = listing_more blocks probes c.loop-i.i c.index-blocks-i.result c.index-probes-i.result (omega arith) (omega (arith, count, long, other)) c.index-blocks-i.is c.index-probes-i.is in
    let next : suc c.loop-i.i ≡ c.loop-i.i + 1 = omega arith in
    record {
      lines = c.in_ok-push_block.ensures.ok ∙ ap (λ t. t ++ function_listing (function_of c.index-blocks-i.result c.index-probes-i.result)) c.loop-i.invariant.lines
          ∙ sym more ∙ ap (λ n. listing (system_of (take n blocks) (take n probes))) next;
      listable = holds_of_more blocks probes (ap slots_of c.blocks-blocks.ensures.value ∙ same ∙ sym (ap slots_of c.blocks-probes.ensures.value)) c.loop-i.i
          c.index-blocks-i.result c.index-probes-i.result (omega arith) c.index-blocks-i.is c.index-probes-i.is IsListable c.loop-i.invariant.listable c.in_ok-push_block.ensures.listable;
    }

pub returns-clause-listing : goal.returns-clause-listing
returns-clause-listing g c =
    let blocks = c.blocks-blocks.result.now in
    let probes = c.blocks-probes.result.now in
    let same = (c.in_default.ensures.ok []).same in
    let count = same_count c.args.dump.now c.args.probe.now same in
    let long = ap length c.blocks-blocks.ensures.value in
    let other = ap length c.blocks-probes.ensures.value in
    let all : take c.loop-i.i blocks ≡ blocks = take_all c.loop-i.i blocks (omega arith) in
    let each : take c.loop-i.i probes ≡ probes = take_all c.loop-i.i probes (omega (arith, count, long, other)) in
    c.loop-i.invariant.lines ∙ ap (λ bs. listing (system_of bs (take c.loop-i.i probes))) (all ∙ c.blocks-blocks.ensures.value)
    ∙ ap (λ bs. listing (system_of c.args.dump.now bs)) (each ∙ c.blocks-probes.ensures.value)

pub returns-clause-listable : goal.returns-clause-listable
returns-clause-listable g c =
    let blocks = c.blocks-blocks.result.now in
    let probes = c.blocks-probes.result.now in
    let same = ap slots_of c.blocks-blocks.ensures.value ∙ (c.in_default.ensures.ok []).same ∙ sym (ap slots_of c.blocks-probes.ensures.value) in
    let long = length-system_of blocks probes (same_length blocks probes same) in
    record {
      pair = c.in_default.ensures.ok;
      each = subst (λ bs. All IsListable (system_of bs c.args.probe.now)) c.blocks-blocks.ensures.value
          (subst (λ bs. All IsListable (system_of blocks bs)) c.blocks-probes.ensures.value
          (subst (All IsListable) (take_all c.loop-i.i (system_of blocks probes) (omega (arith, long))) c.loop-i.invariant.listable));
    }
