use Rattle.std.proofs.Common.{◌≡◌, ◌∙◌, subst, sym}
use Rattle.pci_base.specs.Space.{space_of}
use Rattle.judge_spec.specs.Told.{ToldRange}
use Rattle.judge_spec.specs.ToldClaims.{is_range_on}
use Rattle.pci_dump.specs.ToldMarks.{mark_of}
use Rattle.pci_claims.proofs.Awake.{asleep_among, on_by}
use Rattle.pci_claims.proofs.told.is_on.Goals as goal

pub returns : goal.returns
returns c told s moved system has =
    let range = c.range.inside in
    let r : ToldRange = record {
      slot = range.slot;
      space = space_of range.space;
      prefetchable = range.prefetchable;
      first = range.first;
      last = range.last;
      mark = mark_of range.mark;
      name = range.name.items;
    } in
    subst (λ (x : ToldRange). c.is_on_by.result ≡ is_range_on told s x) c.range.view_is
    (c.is_on_by.ensures ∙ on_by told s r c.is_among-is_awake.result c.is_enabled_at-is_enabled.result
    (asleep_among told c.args.asleep.now range.slot c.is_among-is_awake.result moved c.is_among-is_awake.ensures) (sym (c.is_enabled_at-is_enabled.ensures s system has)))
