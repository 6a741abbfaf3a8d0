use Rattle.std.proofs.Common.{◌++◌, List, [], ◌∷◌, length, take, sym, ◌∙◌, ap, subst, arith, ◌<◌}
use Rattle.std.proofs.lemmas.List.{take_all, take_more}
use Rattle.pci_spec.specs.Text.{Block, IsDump}
use Rattle.pci_spec.specs.Stops.{IsAboveLast, last_slot}
use Rattle.pci_listing.proofs.Shows.{same_count}
use Rattle.pciplan_tasks.proofs.Sizes.{above_last, block_sized}
use Rattle.pciplan_tasks.proofs.sizing.size_all.Goals as goal

pub bounds-probes-i : goal.bounds-probes-i
bounds-probes-i g c =
    let same = (c.in-Ok.ensures.pair []).same in
    let count = same_count c.args.dump.now c.args.probe.now same in
    omega (arith, count, ap length c.blocks-blocks.ensures.value, ap length c.blocks-probes.ensures.value)

pub sized_block-block-requires-clause-sizable : goal.sized_block-block-requires-clause-sizable
sized_block-block-requires-clause-sizable g c =
    (block_sized c.args.dump.now c.args.probe.now c.blocks-blocks.result.now c.blocks-probes.result.now _ _ (c.in-Ok.ensures.pair []).same c.blocks-blocks.ensures.dump c.blocks-probes.ensures.dump
    c.in-Ok.ensures.decodable c.in-Ok.ensures.machine c.in-Ok.ensures.read_backs c.loop-i.invariant.1 c.blocks-blocks.ensures.value c.blocks-probes.ensures.value c.loop-i.i c.index-probes-i.result (omega arith)
    c.index-probes-i.is).sizable

pub sized_block-block-requires-clause-found : goal.sized_block-block-requires-clause-found
sized_block-block-requires-clause-found g c =
    (block_sized c.args.dump.now c.args.probe.now c.blocks-blocks.result.now c.blocks-probes.result.now _ _ (c.in-Ok.ensures.pair []).same c.blocks-blocks.ensures.dump c.blocks-probes.ensures.dump
    c.in-Ok.ensures.decodable c.in-Ok.ensures.machine c.in-Ok.ensures.read_backs c.loop-i.invariant.1 c.blocks-blocks.ensures.value c.blocks-probes.ensures.value c.loop-i.i c.index-probes-i.result (omega arith)
    c.index-probes-i.is).found

pub push_next-requires-clause-above : goal.push_next-requires-clause-above
push_next-requires-clause-above g c =
    let probes = c.blocks-probes.result.now in
    let block = c.index-probes-i.result in
    let rising = (subst (λ (bs : List Block). IsDump bs) (sym c.blocks-probes.ensures.value) c.blocks-probes.ensures.dump).rising in
    let same = (c.in-Ok.ensures.pair []).same in
    let count = same_count c.args.dump.now c.args.probe.now same in
    let within : c.loop-i.i < length probes = omega (arith, count, ap length c.blocks-blocks.ensures.value, ap length c.blocks-probes.ensures.value) in
    let above : IsAboveLast (last_slot (take c.loop-i.i probes)) block.slot = above_last probes c.loop-i.i block rising within c.index-probes-i.is in
    let P : List Block → Type 0 = λ bs. IsAboveLast (last_slot bs) block.slot in
    let Q : Block → Type 0 = λ b. IsAboveLast (last_slot c.loop-i.found) b.slot in
    subst Q (sym c.sized_block-block.ensures.value) (subst P (sym c.loop-i.invariant.0) above)

pub loop-i-preserved : goal.loop-i-preserved
loop-i-preserved g c =
    let probes = c.blocks-probes.result.now in
    let block = c.index-probes-i.result in
    let same = (c.in-Ok.ensures.pair []).same in
    let count = same_count c.args.dump.now c.args.probe.now same in
    let within : c.loop-i.i < length probes = omega (arith, count, ap length c.blocks-blocks.ensures.value, ap length c.blocks-probes.ensures.value) in
    let so_far : List Block = take c.loop-i.i probes in (
      c.in_ok-push_next.ensures ∙ ap (λ bs. bs ++ c.sized_block-block.result ∷ []) c.loop-i.invariant.0
          ∙ ap (λ b. so_far ++ b ∷ []) (c.sized_block-block.ensures.value ∙ c.index-probes-i.is) ∙ sym (take_more probes c.loop-i.i block within),
      c.sized_block-block.ensures.unchanged ∙ c.loop-i.invariant.1,
    )

pub returns-clause-sized : goal.returns-clause-sized
returns-clause-sized g c =
    let same = (c.in-Ok.ensures.pair []).same in
    let count = same_count c.args.dump.now c.args.probe.now same in
    c.loop-i.invariant.0 ∙ take_all c.loop-i.i c.blocks-probes.result.now (omega (arith, count, ap length c.blocks-blocks.ensures.value, ap length c.blocks-probes.ensures.value))
    ∙ c.blocks-probes.ensures.value
