use Rattle.std.proofs.Common.{ap, ◌∙◌, map}
use Rattle.std.specs.Option.{option_map}
use Rattle.std.proofs.lemmas.Result.{IfOk-weaker}
use Rattle.pci_base.specs.Space.{space_of}
use Rattle.pci_claims.specs.Values.{host_value, code_given_value}
use Rattle.pci_claims.proofs.Parts.{sent_gathered, sent_whole}
use Rattle.pci_claims.proofs.sent.sent_to.Goals as goal

pub returns-in-None : goal.returns-in-None
returns-in-None g c =
    IfOk-weaker c.all_of.result _ _ (λ v is. sent_whole (code_given_value c.args.given.now) (space_of c.args.space) c.args.root v.items
    (c.ranges_said.ensures ∙ ap (option_map (λ rs. map host_value rs.now)) c.in-None.is) is) c.all_of.ensures

pub returns-in_ok-parts-in-Some : goal.returns-in_ok-parts-in-Some
returns-in_ok-parts-in-Some g c =
    IfOk-weaker c.gathered.result _ _ (λ v is. sent_gathered (code_given_value c.args.given.now) (space_of c.args.space) c.args.root c.in-Some.ranges.now _ v.items
    (c.ranges_said.ensures ∙ ap (option_map (λ rs. map host_value rs.now)) c.in-Some.is) c.in_ok-parts-in-Some.ensures is) c.gathered.ensures
