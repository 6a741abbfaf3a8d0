use Rattle.std.proofs.Common.{◌++◌, ◌∙◌, ap, map, List}
use Rattle.std.specs.Option.{option_map}
use Rattle.std.specs.String.{string_bytes}
use Rattle.pci_base.specs.declared.range.Range.{Range}
use Rattle.pci_base.specs.Ranges.{decoded_range_of}
use Rattle.pci_base.specs.Space.{space_of}
use Rattle.judge_spec.specs.Why.{host_line}
use Rattle.pci_claims.specs.Values.{host_value, code_given_value, told_value}
use Rattle.pci_why.proofs.Hosted.{claims_there, slot_missing, no_list_missing, outside_told}
use Rattle.pci_why.proofs.host.push_outside.Goals as goal

pub returns-in_default : goal.returns-in_default
returns-in_default g c = λ s a tree listed there.
    absurd ((rw c.in_default.is at c.in_ok-region.ensures.exact) s a c.args.name.slot.bus tree
    (claims_there (told_value c.args.judged.now.told.now) (code_given_value c.args.judged.now.given.now) c.args.judged.now.outline.now.roots s c.args.name.slot c.args.name.register (space_of c.args.name.space) a there))

pub returns-in_default-root_of : goal.returns-in_default-root_of
returns-in_default-root_of g c = λ s a tree listed there.
    absurd (slot_missing (told_value c.args.judged.now.told.now) (code_given_value c.args.judged.now.given.now) c.args.judged.now.outline.now.roots s c.args.name.slot c.args.name.register (space_of c.args.name.space) a
    c.args.judged.now.outline.now tree listed there c.in_default-root_of.ensures)

pub returns-in_default-ranges_said : goal.returns-in_default-ranges_said
returns-in_default-ranges_said g c = λ s a tree listed there.
    absurd (no_list_missing (told_value c.args.judged.now.told.now) (code_given_value c.args.judged.now.given.now) c.args.judged.now.outline.now.roots s c.args.name.slot c.args.name.register (space_of c.args.name.space) a there
    (c.ranges_said.ensures ∙ ap (option_map (λ rs. map host_value rs.now)) c.in_default-ranges_said.is))

pub returns : goal.returns
returns g c = λ s a tree listed there.
    outside_told (told_value c.args.judged.now.told.now) (code_given_value c.args.judged.now.given.now) c.args.judged.now.outline.now.roots s c.args.name.slot c.args.name.register (space_of c.args.name.space)
    c.in-Some.region.shown c.in-Some.region.addresses.items c.in-Some-root_of.root
    (map host_value c.in-Some-ranges_said.said.now) (string_bytes c.args.text.now) _ (string_bytes c.push_host.new.text)
    ((rw c.in-Some.is at c.in_ok-region.ensures.exact) s a c.args.name.slot.bus tree
    (claims_there (told_value c.args.judged.now.told.now) (code_given_value c.args.judged.now.given.now) c.args.judged.now.outline.now.roots s c.args.name.slot c.args.name.register (space_of c.args.name.space) a there))
    (c.in-Some-root_of.ensures s tree)
    (c.ranges_said.ensures ∙ ap (option_map (λ rs. map host_value rs.now)) c.in-Some-ranges_said.is)
    c.in_ok-push_shown.ensures
    (c.in_ok-push_host.ensures ∙ ap (λ (rs : List Range). string_bytes c.push_shown.new.text ++ host_line (space_of c.args.name.space) (map decoded_range_of rs)) c.deref.ensures.value
    ∙ ap (λ rs. string_bytes c.push_shown.new.text ++ host_line (space_of c.args.name.space) rs) c.in_ok-ranges.ensures)
