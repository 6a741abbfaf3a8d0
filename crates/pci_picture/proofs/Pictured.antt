-- What is said of a picture, of where its regions out of place are.
use Rattle.std.proofs.Common.{◌≡◌, ◌≤◌, ◌+◌, ◌-◌, ◌*◌, ◌^◌, ℕ, Bool, List, [], ◌++◌, length, Result, Ok, Err, IfOk, ap, ap₂, arith, subst, ◌∙◌}
use Rattle.std.specs.Prelude.{min}
use Rattle.std.specs.String.{string_bytes}
use Rattle.std.proofs.lemmas.List.{append_assoc}
use Rattle.pci_picture.specs.Badges.{AreBadgesOf}
use Rattle.pci_picture.specs.Boxes.{IsPictureOf, IsTreeBelowFaults, words_above}
use Rattle.pci_picture.specs.ByRoots.{IsDrawnByRootsOfShow}
use Rattle.pci_picture.specs.Canvases.{AddsToCanvas, DrawsBytes, WritesBytes}
use Rattle.pci_picture.specs.Counts.{counts_text}
use Rattle.pci_picture.specs.FaultLines.{fault_list_text, faults_read, lines_within, tree_top}
use Rattle.pci_picture.specs.Legends.{legend_text, marks_of_legend}
use Rattle.pci_picture.specs.Named.{AreFunctionsTitled}
use Rattle.pci_picture.specs.Roots.{Listed}
use Rattle.pci_picture.specs.Said.{faults_said}
use Rattle.pci_picture.specs.Trees.{IsTreeText}
use Rattle.pci_picture.specs.Walks.{WritesTree}
use Rattle.pci_picture.specs.declared.canvas.Canvas.{Canvas}
use Rattle.pci_picture.specs.declared.faults.Faults.{Faults}

pub drawn_by_roots : {T E : Type 0} (functions : List Listed) (show titles map faults : List ℕ) (result : Result T E) (bytes : T → List ℕ)
    → AreFunctionsTitled show titles functions → IfOk result (λ text. IsPictureOf functions map faults (bytes text))
    → IfOk result (λ text. IsDrawnByRootsOfShow show titles map faults (bytes text))
drawn_by_roots functions show titles map faults (Err e) bytes titled is = tt
drawn_by_roots functions show titles map faults (Ok text) bytes titled is = record { functions = functions; titled = titled; drawn = is }

pub top_told : {A : Type 0} (faults : List ℕ) (read : Faults A) (top lines : ℕ) → faults_read read ≡ faults_said faults
    → lines ≡ 72 + 14 * length (lines_within 40 (faults_read read)) → lines ≤ 646 → top ≡ min (lines + 22) (2 ^ 64 - 1) → top ≡ tree_top (faults_said faults)
top_told faults read top lines same below high at = omega (arith, at, below, high) ∙ ap tree_top same

-- the words above the sections, with the tree of some functions
pub record HasAbove (functions : List Listed) (is_told : Bool) (faults words : List ℕ) (end : ℕ) : Type 0 where
  pub tree : List ℕ
  pub rows : IsTreeBelowFaults functions faults tree end
  pub are : words ≡ words_above is_told faults tree

-- the legend, the list of faults and the tree are written behind each other
pub has_above : {A B : Type 0} (functions : List Listed) (is_told : Bool) (faults : List ℕ) (read : Faults A) (top lines end : ℕ) (new counted legend listed tree : Canvas B)
    → faults_read read ≡ faults_said faults → AreBadgesOf faults read
    → lines ≡ 72 + 14 * length (lines_within 40 (faults_read read)) → lines ≤ 646 → top ≡ min (lines + 22) (2 ^ 64 - 1)
    → string_bytes new.words ≡ [] → string_bytes counted.words ≡ string_bytes new.words → WritesBytes (legend_text 66 16 (marks_of_legend is_told)) counted legend
    → WritesBytes (fault_list_text (faults_read read)) legend listed → WritesTree functions read.badges.items top end listed tree
    → HasAbove functions is_told faults (string_bytes tree.words) end
has_above functions is_told faults read top lines end new counted legend listed tree same shown below high at empty none first second third =
    let marks = legend_text 66 16 (marks_of_legend is_told) in
    let list = fault_list_text (faults_read read) in
    record {
      tree = third.text;
      rows = record {
        badges = read.badges.items;
        shown = shown;
        below = subst (λ n. IsTreeText functions read.badges.items n third.text end) (top_told faults read top lines same below high at) third.is;
      };
      are =
          third.writes
          ∙ ap (λ l. l ++ third.text) (second ∙ ap (λ l. l ++ list) (first ∙ ap (λ l. l ++ marks) (none ∙ empty)))
          ∙ append_assoc marks list third.text
          ∙ ap (λ said. marks ++ (fault_list_text said ++ third.text)) same;
    }

-- ---- boxes

-- some boxes begin with these bytes
pub record HasFront (head boxes : List ℕ) : Type 0 where
  pub behind : List ℕ
  pub are : boxes ≡ head ++ behind

-- the counts and the legend are drawn first
pub has_front : {B : Type 0} (counts marks : List ℕ) (new counted legend listed tree : Canvas B) → string_bytes new.boxes ≡ [] → DrawsBytes counts new counted
    → DrawsBytes marks counted legend → AddsToCanvas [] legend listed → AddsToCanvas [] listed tree → HasFront (counts ++ marks) (string_bytes tree.boxes)
has_front counts marks new counted legend listed tree empty first second list rows = record {
  behind = list.boxed ++ rows.boxed;
  are =
      rows.draws
      ∙ ap (λ l. l ++ rows.boxed) (list.draws ∙ ap (λ l. l ++ list.boxed) (second ∙ ap (λ l. l ++ marks) (first ∙ ap (λ l. l ++ counts) empty)))
      ∙ append_assoc (counts ++ marks) list.boxed rows.boxed;
}

-- the same with numbers that are told otherwise
pub front_told : (functions regions faults listed told : ℕ) (marks boxes : List ℕ) → functions ≡ listed → faults ≡ told
    → HasFront (counts_text functions regions faults ++ marks) boxes → HasFront (counts_text listed regions told ++ marks) boxes
front_told functions regions faults listed told marks boxes same alike front = record {
  behind = front.behind;
  are = front.are ∙ ap₂ (λ a b. counts_text a regions b ++ marks ++ front.behind) same alike;
}

-- boxes behind such boxes
pub front_more : (head told behind one other first between last : List ℕ) → first ≡ head ++ behind → between ≡ first ++ one → last ≡ between ++ other
    → head ≡ told → last ≡ told ++ (behind ++ (one ++ other))
front_more head told behind one other first between last is_first is_between is_last same =
    is_last ∙ ap (λ l. l ++ other) is_between ∙ append_assoc first one other ∙ ap (λ l. l ++ (one ++ other)) is_first
    ∙ append_assoc head behind (one ++ other)
    ∙ ap (λ h. h ++ (behind ++ (one ++ other))) same
