use Rattle.std.proofs.Common.{◌≤◌, ap, sym, subst, ◌∙◌}
use Rattle.std.specs.Option.{option_map}
use Rattle.pci_spec.specs.Window.{page_size}
use Rattle.pci_spec.specs.Decoded.{Range as DecodedRange}
use Rattle.plan_spec.specs.Plan.{raised_to}
use Rattle.pci_base.specs.Ranges.{decoded_range_of}
use Rattle.pci_base.specs.WindowKinds.{kind_value}
use Rattle.pci_grow.specs.Rooms.{first_behind}
use Rattle.pci_grow.proofs.reach.reach_in.Goals as goal

pub pages_around-requires : goal.pages_around-requires
pages_around-requires c =
    subst (λ n. raised_to (page_size (kind_value c.args.class)) n ≤ c.args.among.now.window.first)
    (sym (c.between-free.ensures.first ∙ ap (λ (r : DecodedRange). first_behind r.first (option_map decoded_range_of c.args.among.now.before)) c.no_higher-low.ensures))
    c.requires.page
