-- A list's faults with what stands behind each, one after another.
use Rattle.std.proofs.Common.{◌≡◌, ℕ, List, [], ◌∷◌, ◌++◌, ap, ◌∙◌, refl, sym, append-nil, if◌then◌else◌}
use Rattle.std.proofs.lemmas.List.{append_assoc}
use Rattle.std.proofs.lemmas.List.Elements.{Contains-append_left, Contains-append_right}
use Rattle.pci_spec.specs.System.{System}
use Rattle.pci_spec.specs.Mark.{AssumedRegister}
use Rattle.pci_spec.proofs.Members.{in_head}
use Rattle.pci_tree.specs.Outline.{Tree}
use Rattle.pci_tree.specs.Trees.{HasTree}
use Rattle.judge_spec.specs.Given.{Given}
use Rattle.judge_spec.specs.ToldClaims.{Told}
use Rattle.judge_spec.specs.ToldFault.{Fault}
use Rattle.judge_spec.specs.ToldLine.{fault_line}
use Rattle.judge_spec.specs.Why.{all_off_lines}
use Rattle.judge_spec.specs.FaultsText.{yes_line, IsBehind, AreReasoned}
use Rattle.pci_why.specs.Whys.{IsWhyTold}
use Rattle.pci_why.specs.Lists.{AreReasonedTold, IsReasonedTextOf}

-- one more fault behind those of a list
and_one : (assumed : List AssumedRegister) (told : Told) (given : Given) (roots : List ℕ) (s : System) (faults : List Fault) (fault : Fault) (lines behind : List ℕ) → AreReasoned assumed told given roots s faults lines → IsBehind assumed told given roots s fault behind
    → AreReasoned assumed told given roots s (faults ++ fault ∷ []) (lines ++ (fault_line fault ++ behind))
and_one assumed told given roots s [] fault lines behind none why = (behind, [], why, refl, ap (λ l. l ++ (fault_line fault ++ behind)) none ∙ sym (append-nil (fault_line fault ++ behind)))
and_one assumed told given roots s (first ∷ rest) fault lines behind (before, more, is, rest_so, text) why = (
  before,
  more ++ (fault_line fault ++ behind),
  is,
  and_one assumed told given roots s rest fault more behind rest_so why,
  ap (λ l. l ++ (fault_line fault ++ behind)) text ∙ append_assoc (fault_line first ++ before) more (fault_line fault ++ behind),
)

pub none_reasoned : (assumed : List AssumedRegister) (told : Told) (given : Given) (t : Tree) (old : List ℕ) → AreReasonedTold assumed told given t [] old old
none_reasoned assumed told given t old s tree listed there = record { lines = []; text = sym (append-nil old); are = refl }

pub one_more_reasoned : (assumed : List AssumedRegister) (told : Told) (given : Given) (t : Tree) (faults : List Fault) (fault : Fault) (old now mid new : List ℕ) → AreReasonedTold assumed told given t faults old now → mid ≡ now ++ fault_line fault
    → IsWhyTold assumed told given t fault mid new → AreReasonedTold assumed told given t (faults ++ fault ∷ []) old new
one_more_reasoned assumed told given t faults fault old now mid new before line why s tree listed there =
    let b = before s tree listed (λ f has_f. there f (Contains-append_left faults (fault ∷ []) f has_f)) in
    let w = why s tree listed (there fault (Contains-append_right faults (fault ∷ []) fault (in_head fault []))) in
    record {
      lines = b.lines ++ (fault_line fault ++ w.lines);
      text = w.text ∙ ap (λ x. x ++ w.lines) (line ∙ ap (λ x. x ++ fault_line fault) b.text ∙ append_assoc old b.lines (fault_line fault))
          ∙ append_assoc old (b.lines ++ fault_line fault) w.lines ∙ ap (λ x. old ++ x) (append_assoc b.lines (fault_line fault) w.lines);
      are = and_one assumed told given t.roots s faults fault b.lines w.lines b.are w.are;
    }

-- what is off ends it
pub text_reasoned : (assumed : List AssumedRegister) (told : Told) (given : Given) (t : Tree) (faults : List Fault) (old now new : List ℕ) → old ≡ yes_line faults → AreReasonedTold assumed told given t faults old now
    → ((s : System) → HasTree t s → new ≡ now ++ all_off_lines told s) → IsReasonedTextOf assumed told given t faults new
text_reasoned assumed told given t faults old now new begun shows off s tree listed there judged =
    let b = shows s tree listed there in
    record {
      lines = b.lines;
      reasoned = b.are;
      is = off s tree ∙ ap (λ x. x ++ all_off_lines told s) (b.text ∙ ap (λ x. x ++ b.lines) begun)
          ∙ ap (λ j. (yes_line faults ++ b.lines) ++ (if j then all_off_lines told s else [])) (sym judged);
    }
