use Rattle.std.proofs.Common.{length, map, sym, ◌∙◌, ap, subst}
use Rattle.std.specs.Option.{option_map}
use Rattle.std.proofs.lemmas.Bool.{eqb-true}
use Rattle.std.proofs.lemmas.List.{length-map}
use Rattle.settle_spec.specs.Keeping.Writes.{would_be_switched}
use Rattle.pci_place.specs.Above.{system_in}
use Rattle.pci_settle.specs.ToldEndings.{told_fault, known_told_value, is_enabled_in_blocks, AreFlagsThen}
use Rattle.pci_settle.proofs.BlocksAt.{flags_of}
use Rattle.pci_settle.proofs.Endings.{none_told}
use Rattle.pci_settle.proofs.ToldTests.{nothing_flagged}
use Rattle.pci_settle.proofs.told.switched.Goals as goal

pub returns-then-is_empty : goal.returns-then-is_empty
returns-then-is_empty g c = λ q keep a admitted knows settled ways stand.
    let untold = nothing_flagged q (system_in a) (known_told_value c.args.told.now) knows c.requires.flags (eqb-true _ 0 (sym c.is_empty.ensures ∙ c.if-is_empty.true)) in
    sym (ap (option_map told_fault) (none_told q untold (would_be_switched q (system_in a) keep)))

pub first_switched-requires-clause-then : goal.first_switched-requires-clause-then
first_switched-requires-clause-then g c =
    ap length (c.as_slice-2.ensures.value ∙ c.in_ok-on_then.ensures ∙ ap (map (λ r. is_enabled_in_blocks c.args.blocks.now r.slot r.space)) c.as_slice.ensures.value)
    ∙ length-map c.args.told.now.ranges.ranges.now (λ r. is_enabled_in_blocks c.args.blocks.now r.slot r.space)

pub returns : goal.returns
returns g c = λ q keep a admitted knows settled ways stand.
    let on = c.as_slice-2.ensures.value ∙ c.in_ok-on_then.ensures
    ∙ ap (map (λ r. is_enabled_in_blocks c.args.blocks.now r.slot r.space)) (c.as_slice.ensures.value ∙ sym knows.ranges) in
    c.first_switched.ensures q (system_in a) keep knows
    (subst (AreFlagsThen q (system_in a) keep) (sym on) (flags_of q keep a c.args.blocks.now admitted settled)) ways stand
