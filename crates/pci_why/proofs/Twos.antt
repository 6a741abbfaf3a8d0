-- What is told behind two regions that claim an address.
use Rattle.std.proofs.Common.{◌≡◌, ℕ, List, [], ◌∷◌, ◌++◌, map, refl, ◌∙◌, ap, codes}
use Rattle.std.specs.List.{flat_map}
use Rattle.pci_spec.specs.Slot.{Slot}
use Rattle.pci_spec.specs.System.{System, Space}
use Rattle.pci_spec.specs.Why.{range_line}
use Rattle.pci_spec.specs.Fault.{address_in, named_region, named_regions}
use Rattle.pci_base.specs.declared.range.Range.{Range}
use Rattle.pci_base.specs.Ranges.{decoded_range_of}
use Rattle.pci_tree.specs.Ranges.{Covers}
use Rattle.pci_why.specs.Lines.{Appends}
use Rattle.pci_claims.proofs.Runs.{runs_of}
use Rattle.pci_why.proofs.Texts.{three_appended}
use Rattle.judge_spec.specs.Given.{Given}
use Rattle.judge_spec.specs.ToldClaims.{Told, ClaimsOnBus}
use Rattle.judge_spec.specs.Why.{Holds, region_line, AreNamedTwo}
use Rattle.pci_claims.specs.Gathered.{IsCommon}
use Rattle.pci_claims.proofs.Gathering.{none_covered}
use Rattle.pci_why.specs.declared.named.Shown.{Shown}
use Rattle.pci_why.specs.Named.{shown_line, IsNamedIn}

-- a list with an address is some
not_none : (rs : List Range) (a : ℕ) → Covers rs a → map decoded_range_of rs ≡ [] → ⊥
not_none [] a covered none = none_covered a covered
not_none (r ∷ rs) a covered none = cc

pub two_told : (told : Told) (given : Given) (s : System) (space : Space) (first second : Slot) (first_reg second_reg : ℕ) (a bus other : ℕ) (p q : Shown) (ps qs shared : List Range) (old one two new : List ℕ)
    → IsNamedIn told given s (named_region first first_reg) space p ps → IsNamedIn told given s (named_region second second_reg) space q qs → ClaimsOnBus told given s bus (address_in space a) (named_region first first_reg) → ClaimsOnBus told given s other (address_in space a) (named_region second second_reg)
    → IsCommon ps qs shared → one ≡ old ++ shown_line given (codes "first") space p → two ≡ one ++ shown_line given (codes "second") space q
    → new ≡ two ++ flat_map (range_line (codes "shared") space) (map decoded_range_of shared) → Appends (AreNamedTwo told given s space (named_regions first first_reg second second_reg)) old new
two_told told given s space first second first_reg second_reg a bus other p q ps qs shared old one two new at_p at_q claims_p claims_q common one_is two_is new_is =
    let v = at_p.region in
    let w = at_q.region in
    let first_line = region_line given (codes "first") v in
    let second_line = region_line given (codes "second") w in
    let shared_lines = flat_map (range_line (codes "shared") space) (map decoded_range_of shared) in
    record {
      lines = first_line ++ (second_line ++ shared_lines);
      text = three_appended old one two new first_line second_line shared_lines (one_is ∙ ap (λ t. old ++ t) (at_p.line (codes "first"))) (two_is ∙ ap (λ t. one ++ t) (at_q.line (codes "second"))) new_is;
      are = (
        v,
        w,
        at_p.named,
        at_q.named,
        record {
          first = at_p.is;
          second = at_q.is;
          shared = map decoded_range_of shared;
          some = not_none shared a ((common.exact a).1 (at_p.all a bus claims_p, at_q.all a other claims_q));
          runs = runs_of (λ n. Holds given v n × Holds given w n) shared common.canonical (λ n. (
            λ (h : Covers shared n). (let both = (common.exact n).0 h in ((at_p.exact n).0 both.0, (at_q.exact n).0 both.1)),
            λ (h : Holds given v n × Holds given w n). (common.exact n).1 ((at_p.exact n).1 h.0, (at_q.exact n).1 h.1),
          ));
          text = refl;
        },
      );
    }
