-- With nothing given and told the text of the list of all faults is the one without them.
use Rattle.std.proofs.Common.{◌≡◌, ℕ, List, [], ◌∷◌, ◌++◌, map, refl, true, false, sym, ◌∙◌, ap, subst, append-nil}
use Rattle.std.specs.Prelude.{◌↔◌, Bool, if◌then◌else◌}
use Rattle.std.specs.List.{flat_map}
use Rattle.pci_spec.specs.Slot.{Slot}
use Rattle.pci_spec.specs.Text.{Block, IsDump}
use Rattle.pci_spec.specs.System.{System, system_of}
use Rattle.pci_spec.specs.Fault as plain
use Rattle.pci_spec.specs.FaultLines as plain_lines
use Rattle.pci_spec.specs.FaultsText as plain_text
use Rattle.pci_spec.specs.Mark.{AssumedRegister}
use Rattle.pci_spec.specs.Why as why
use Rattle.judge_spec.specs.Given.{nothing_given}
use Rattle.judge_spec.specs.Fault as untold
use Rattle.judge_spec.specs.FaultLines as untold_lines
use Rattle.judge_spec.specs.Line as untold_line
use Rattle.judge_spec.specs.ToldClaims.{nothing_told}
use Rattle.judge_spec.specs.ToldFault.{Fault, Known}
use Rattle.judge_spec.specs.ToldFaultLines.{AreAllFaults}
use Rattle.judge_spec.specs.ToldLine.{fault_line, list_text}
use Rattle.judge_spec.specs.FaultsText.{AreReasoned, IsFaultsText, yes_line, off_behind}
use Rattle.judge_spec.specs.Laws.{SameText, plain_known}
use Rattle.judge_spec.specs.ListLaws.{SameTextOfAll}
use Rattle.judge_spec.proofs.NothingTold.{HasLowRegisters}
use Rattle.judge_spec.proofs.NothingToldLists.{known_twice, same_line, same_told_list, same_told_text}
use Rattle.judge_spec.proofs.PlainLists.{plain_of_given, given_of_plain}
use Rattle.judge_spec.proofs.Reasons.{same_why, low_of_evidence}

-- ---- lines of faults

plain_line : (f : plain.Fault) → HasLowRegisters (untold.Known f) → fault_line (plain_known f) ≡ plain_text.fault_line f
plain_line f low = same_line (untold.Known f) low

-- ---- what stands behind them

module _ (assumed : List AssumedRegister) (asleep : List Slot) (roots : List ℕ) (s : System) where
  reasoned_plain : (fs : List plain.Fault) (lines : List ℕ) → AreReasoned assumed (nothing_told asleep) nothing_given roots s (map plain_known fs) lines → plain_text.AreReasoned assumed roots s fs lines
  reasoned_plain [] lines h = h
  reasoned_plain (f ∷ fs) lines (behind, more, is, rest, e) =
      let was : why.IsWhy assumed roots s f behind = (same_why assumed asleep roots s f behind).0 is in
      (behind, more, was, reasoned_plain fs more rest, e ∙ ap (λ line. (line ++ behind) ++ more) (plain_line f (low_of_evidence s f was.evidence was.told)))

  plain_reasoned : (fs : List plain.Fault) (lines : List ℕ) → plain_text.AreReasoned assumed roots s fs lines → AreReasoned assumed (nothing_told asleep) nothing_given roots s (map plain_known fs) lines
  plain_reasoned [] lines h = h
  plain_reasoned (f ∷ fs) lines (behind, more, was, rest, e) =
      (behind, more, (same_why assumed asleep roots s f behind).1 was, plain_reasoned fs more rest, e ∙ ap (λ line. (line ++ behind) ++ more) (sym (plain_line f (low_of_evidence s f was.evidence was.told))))

-- ---- what is off

no_ranges_off : (asleep : List Slot) (s t : System) → flat_map (λ f. why.off_lines_of f ++ []) t ≡ why.off_lines t
no_ranges_off asleep s [] = refl
no_ranges_off asleep s (f ∷ t) =
    ap (λ l. l ++ flat_map (λ f. why.off_lines_of f ++ []) t) (append-nil (why.off_lines_of f)) ∙ ap (λ l. why.off_lines_of f ++ l) (no_ranges_off asleep s t)

off_same : (asleep : List Slot) (s : System) (fs : List plain.Fault) → off_behind (nothing_told asleep) s (map plain_known fs) ≡ plain_text.off_behind s fs
off_same asleep s [] = no_ranges_off asleep s s
off_same asleep s (f ∷ fs) = ap (λ l. if plain_text.is_judged (f ∷ fs) then l else []) (no_ranges_off asleep s s)

yes_same : (fs : List plain.Fault) → yes_line (map plain_known fs) ≡ plain_text.yes_line fs
yes_same [] = refl
yes_same (f ∷ fs) = refl

text_same : (asleep : List Slot) (s : System) (fs : List plain.Fault) (lines : List ℕ)
    → (yes_line (map plain_known fs) ++ lines) ++ off_behind (nothing_told asleep) s (map plain_known fs) ≡ (plain_text.yes_line fs ++ lines) ++ plain_text.off_behind s fs
text_same asleep s fs lines =
    ap (λ y. (y ++ lines) ++ off_behind (nothing_told asleep) s (map plain_known fs)) (yes_same fs) ∙ ap (λ o. (plain_text.yes_line fs ++ lines) ++ o) (off_same asleep s fs)

pub same_text : SameText
same_text assumed asleep roots s fs text = (
  λ h. record { lines = h.lines; reasoned = reasoned_plain assumed asleep roots s fs h.lines h.reasoned; is = h.is ∙ text_same asleep s fs h.lines },
  λ h. record { lines = h.lines; reasoned = plain_reasoned assumed asleep roots s fs h.lines h.reasoned; is = h.is ∙ sym (text_same asleep s fs h.lines) },
)

-- ---- lists

same_lines : (ps : List plain.Fault) → flat_map untold_line.fault_line (map untold.Known ps) ≡ flat_map plain_text.fault_line ps
same_lines [] = refl
same_lines (f ∷ ps) = ap (λ l. plain_text.fault_line f ++ l) (same_lines ps)

same_untold_text : (ps : List plain.Fault) → untold_line.list_text (map untold.Known ps) ≡ plain_text.yes_line ps ++ flat_map plain_text.fault_line ps
same_untold_text [] = refl
same_untold_text (f ∷ ps) = same_lines (f ∷ ps)

same_list_text : (roots : List ℕ) (dump probe : List Block) (ps : List plain.Fault) → untold_lines.AreAllFaults nothing_given roots dump probe (map untold.Known ps)
    → list_text (map plain_known ps) ≡ plain_text.yes_line ps ++ flat_map plain_text.fault_line ps
same_list_text roots dump probe ps all = ap list_text (known_twice ps) ∙ same_told_text nothing_given roots dump probe (map untold.Known ps) all ∙ same_untold_text ps

module _ (assumed : List AssumedRegister) (asleep : List Slot) (roots : List ℕ) (dump probe : List Block) (is_dump : IsDump dump) (is_probe : IsDump probe) where
  same_text_with : (asked : Bool) (ps : List plain.Fault) (text : List ℕ) → untold_lines.AreAllFaults nothing_given roots dump probe (map untold.Known ps)
      → IsFaultsText assumed (nothing_told asleep) nothing_given roots (system_of dump probe) asked (map plain_known ps) text ↔ plain_text.IsFaultsText assumed roots (system_of dump probe) asked ps text
  same_text_with true ps text all = same_text assumed asleep roots (system_of dump probe) ps text
  same_text_with false ps text all = (λ is. is ∙ same_list_text roots dump probe ps all, λ is. is ∙ sym (same_list_text roots dump probe ps all))

  -- the list is the one without what is given and told
  record AreOfPlain (faults : List Fault) : Type 0 where
    ps : List plain.Fault
    all : plain_lines.AreAllFaults roots dump probe ps
    untold_all : untold_lines.AreAllFaults nothing_given roots dump probe (map untold.Known ps)
    are : faults ≡ map plain_known ps

  of_plain : (faults : List Fault) → AreAllFaults (nothing_told asleep) nothing_given roots dump probe faults → AreOfPlain faults
  of_plain faults all =
      let list = (same_told_list asleep nothing_given roots dump probe faults is_dump is_probe).0 all in
      let plain_list = plain_of_given roots dump probe is_dump is_probe list.untold_faults list.all in
      record {
        ps = plain_list.plain_faults;
        all = plain_list.all;
        untold_all = subst (λ l. untold_lines.AreAllFaults nothing_given roots dump probe l) plain_list.are list.all;
        are = list.are ∙ ap (λ l. map Known l) plain_list.are ∙ sym (known_twice plain_list.plain_faults);
      }

pub same_text_of_all : SameTextOfAll
same_text_of_all assumed asleep roots dump probe asked text is_dump is_probe = (
  λ h.
      let list = of_plain assumed asleep roots dump probe is_dump is_probe h.faults h.all in
      record {
        faults = list.ps;
        all = list.all;
        is = (same_text_with assumed asleep roots dump probe is_dump is_probe asked list.ps text list.untold_all).0
            (subst (λ fs. IsFaultsText assumed (nothing_told asleep) nothing_given roots (system_of dump probe) asked fs text) list.are h.is);
      },
  λ h.
      let untold_all = given_of_plain roots dump probe is_dump is_probe h.faults h.all in
      record {
        faults = map plain_known h.faults;
        all = (same_told_list asleep nothing_given roots dump probe (map plain_known h.faults) is_dump is_probe).1
            record { untold_faults = map untold.Known h.faults; all = untold_all; are = known_twice h.faults };
        is = (same_text_with assumed asleep roots dump probe is_dump is_probe asked h.faults text untold_all).1 h.is;
      },
)
