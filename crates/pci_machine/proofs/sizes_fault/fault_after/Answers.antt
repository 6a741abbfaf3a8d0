use Rattle.std.proofs.Common.{◌+◌, ◌*◌, ◌<◌, ap, arith, length, ℕ}
use Rattle.pci_machine.proofs.SizesPlaces.{place_within, order_here, ended_here, slot_here, line_here, blank_here}
use Rattle.pci_machine.proofs.sizes_fault.fault_after.Goals as goal

pub returns-then-not-slot_follows : goal.returns-then-not-slot_follows
returns-then-not-slot_follows c =
    order_here c.args.blocks.now c.args.bytes.now c.requires.sizes c.requires.room c.first_misfit-place.result c.first_misfit-place.ensures.within (c.slot_follows.ensures.no c.if-not-slot_follows.true)

pub ends_before-requires : goal.ends_before-requires
ends_before-requires c =
    place_within c.args.blocks.now c.args.bytes.now c.requires.sizes c.requires.room c.first_misfit-place.result c.first_misfit-place.ensures.within c.requires.few c.first_misfit-place.ensures.fits
    (c.slot_follows.ensures.yes c.if-not-slot_follows.false) c.requires.no_block

pub returns-then-place-bytes : goal.returns-then-place-bytes
returns-then-place-bytes c =
    let follows = c.slot_follows.ensures.yes c.if-not-slot_follows.false in
    let within = place_within c.args.blocks.now c.args.bytes.now c.requires.sizes c.requires.room c.first_misfit-place.result c.first_misfit-place.ensures.within c.requires.few c.first_misfit-place.ensures.fits follows c.requires.no_block in
    ended_here c.args.blocks.now c.args.bytes.now c.requires.sizes c.requires.room c.first_misfit-place.result (9 * length c.args.blocks.now + 1 + c.ends_before.result) within c.first_misfit-place.ensures.fits
    follows (ap (λ (n : ℕ). 9 * length c.args.blocks.now + 1 + n) c.ends_before.ensures) c.if-place-bytes.true c.requires.some

pub returns-then-place-lt8 : goal.returns-then-place-lt8
returns-then-place-lt8 c =
    let within = c.first_misfit-place.ensures.within in
    let other = c.if-place-bytes.false in
    let here : c.first_misfit-place.result < length c.args.bytes.now = omega (arith, within, other) in
    slot_here c.args.blocks.now c.args.bytes.now c.requires.sizes c.requires.room c.first_misfit-place.result (9 * length c.args.blocks.now + 1 + c.ends_before.result) (omega arith) c.first_misfit-place.ensures.fits
    (c.slot_follows.ensures.yes c.if-not-slot_follows.false) (ap (λ (n : ℕ). 9 * length c.args.blocks.now + 1 + n) c.ends_before.ensures) here (c.first_misfit-place.ensures.wrong here) c.if-place-lt8.true

pub returns-then-place-lt407 : goal.returns-then-place-lt407
returns-then-place-lt407 c =
    let within = c.first_misfit-place.ensures.within in
    let other = c.if-place-bytes.false in
    let here : c.first_misfit-place.result < length c.args.bytes.now = omega (arith, within, other) in
    line_here c.args.blocks.now c.args.bytes.now c.requires.sizes c.requires.room c.first_misfit-place.result (9 * length c.args.blocks.now + 1 + c.ends_before.result) (omega arith) c.first_misfit-place.ensures.fits
    (c.slot_follows.ensures.yes c.if-not-slot_follows.false) (ap (λ (n : ℕ). 9 * length c.args.blocks.now + 1 + n) c.ends_before.ensures) here (c.first_misfit-place.ensures.wrong here) (omega arith) c.if-place-lt407.true

pub returns-else-place-lt407 : goal.returns-else-place-lt407
returns-else-place-lt407 c =
    let within = c.first_misfit-place.ensures.within in
    let few = c.requires.few in
    let other = c.if-place-bytes.false in
    let here : c.first_misfit-place.result < length c.args.bytes.now = omega (arith, within, other) in
    blank_here c.args.blocks.now c.args.bytes.now c.requires.sizes c.requires.room c.first_misfit-place.result (9 * length c.args.blocks.now + 1 + c.ends_before.result) (omega (arith, here, few)) c.first_misfit-place.ensures.fits
    (c.slot_follows.ensures.yes c.if-not-slot_follows.false) (ap (λ (n : ℕ). 9 * length c.args.blocks.now + 1 + n) c.ends_before.ensures) here (c.first_misfit-place.ensures.wrong here) (omega arith)
