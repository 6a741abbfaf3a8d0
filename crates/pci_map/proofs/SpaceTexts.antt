-- The lines of a space of a root bus.
use Rattle.std.proofs.Common.{◌≡◌, ℕ, List, [], ◌∷◌, ◌++◌, map, if◌then◌else◌, false, refl, sym, ap, ◌∙◌, subst, append-nil}
use Rattle.std.specs.List.{flat_map}
use Rattle.std.proofs.lemmas.List.{append_assoc}
use Rattle.pci_spec.specs.System.{System, Space}
use Rattle.pci_spec.specs.Why.{AreRuns}
use Rattle.judge_spec.specs.Given.{Given}
use Rattle.judge_spec.specs.ToldClaims.{Told}
use Rattle.judge_spec.specs.Lines.{Lines, End, Free, Sits, IsFreeOn}
use Rattle.judge_spec.specs.Map.{MapTaking, AreTakings}
use Rattle.judge_spec.specs.MapText.{bus_heading, lines_text, taking_text, is_without_lines}
use Rattle.pci_base.specs.declared.range.Range.{Range}
use Rattle.pci_base.specs.Ranges.{decoded_range_of}
use Rattle.pci_map.specs.declared.seat.Seat.{Seat}
use Rattle.pci_map.specs.declared.takers.Taker.{Taker}
use Rattle.pci_map.specs.Values.{Mapped}
use Rattle.pci_map.specs.Seats.{AreSortedSeatsOf}
use Rattle.pci_map.specs.Above.{AreInPlace}
use Rattle.pci_map.specs.Takers.{AreTakers}
use Rattle.pci_map.specs.Walk.{entries, merged, ArePlacesWritten}
use Rattle.pci_map.specs.Buses.{AreTakingsTold, IsSpaceTold}
use Rattle.pci_map.proofs.Seats.{lines_on_root, some_entries}
use Rattle.pci_map.proofs.TakingLines.{takings_are, none_written}

with_lines : (lines : Lines) (ts : List MapTaking) → (lines ≡ End → ts ≡ [] → ⊥) → is_without_lines lines ts ≡ false
with_lines End [] some = absurd (some refl refl)
with_lines End (t ∷ ts) some = refl
with_lines (Free r rest) ts some = refl
with_lines (Sits q inside rest) ts some = refl

module _ (told : Told) (given : Given) (roots : List ℕ) (s : System) (space : Space) where
  abbrev the_space : Mapped
  the_space = record { told = told; given = given; roots = roots; system = s; space = space }

  module _ (bus : ℕ) (all qs : List Seat) (rs : List Range) (sorted : AreSortedSeatsOf told s bus space all) (placed : AreInPlace told given roots s space all qs)
      (free : AreRuns (IsFreeOn told given s bus space) (map decoded_range_of rs)) (takers : List Taker) (are : AreTakers given roots s takers)
      (taken : List ℕ) (told_all : AreTakingsTold the_space bus takers [] taken) where
    pub told_none : (text : List ℕ) → qs ≡ [] → rs ≡ [] → taken ≡ [] → IsSpaceTold the_space bus text text
    unfolding merged
    told_none text none no_runs nothing = record {
      x = record { lines = End; taken = [] };
      are = record {
        lines = (lines_on_root told given roots s space bus all qs rs sorted placed free End (subst (λ ts. [] ≡ merged space qs ts) (sym no_runs) (subst (λ xs. [] ≡ merged space xs []) (sym none) refl)), tt);
        taken = subst (AreTakings told given roots s space bus) (none_written given space told_all.written taken told_all.text nothing)
            (takings_are told given roots s space bus takers [] taken are told_all);
      };
      text = sym (append-nil text);
    }

    pub told_some : (old mid next new : List ℕ) → (qs ≡ [] → rs ≡ [] → taken ≡ [] → ⊥) → mid ≡ old ++ bus_heading bus space
        → ArePlacesWritten the_space 1 (merged space qs rs) mid next → new ≡ next ++ taken → IsSpaceTold the_space bus old new
    told_some old mid next new some line is last =
        let heading = bus_heading bus space in
        let own = lines_text given 1 space is.lines in
        let more = flat_map (taking_text given space) told_all.written in
        let there : is_without_lines is.lines told_all.written ≡ false = with_lines is.lines told_all.written (λ end none.
        some_entries told given roots s space qs rs (λ no_qs no_rs. some no_qs no_rs (told_all.text ∙ ap (flat_map (taking_text given space)) none)) (sym is.entries ∙ ap entries end)) in record {
          x = record { lines = is.lines; taken = told_all.written };
          are = record {
            lines = (lines_on_root told given roots s space bus all qs rs sorted placed free is.lines is.entries, is.inside);
            taken = takings_are told given roots s space bus takers [] taken are told_all;
          };
          text = last
              ∙ ap (λ t. t ++ taken) (is.text ∙ ap (λ t. t ++ own) line)
              ∙ append_assoc (old ++ heading) own taken
              ∙ append_assoc old heading (own ++ taken)
              ∙ ap (λ t. old ++ (heading ++ (own ++ t))) told_all.text
              ∙ ap (λ b. old ++ (if b then [] else heading ++ (own ++ more))) (sym there);
        }
