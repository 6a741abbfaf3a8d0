-- The looks of boxes while their regions are placed, and by the faults of a text.
use Rattle.std.proofs.Common.{◌≡◌, ◌<◌, ◌+◌, ℕ, Bool, true, false, ◌||◌, if◌then◌else◌, List, [], ◌∷◌, ◌++◌, take, drop, length, get_or, refl, sym, ap, ap₂, subst, ◌∙◌, arith}
use Rattle.std.specs.List.{All, flat_map}
use Rattle.std.proofs.lemmas.List.{append_assoc, append-nil, map-append, map_more}
use Rattle.std.proofs.lemmas.List.Elements.{All-weaker}
use Rattle.pci_picture.specs.Heights.{AddressRange, HasHeights}
use Rattle.pci_picture.specs.Lines.{words_in_line}
use Rattle.pci_picture.specs.BoardLooks.{look_read}
use Rattle.pci_picture.specs.Looks.{IsTitled, Look, look_told, looks_of, looks_placed, looks_up_to, words_of_boxes}
use Rattle.pci_picture.specs.Marks.{has_naming, is_named, key_of_region, look_of_part, look_with}
use Rattle.pci_picture.specs.Roots.{listed_functions}
use Rattle.pci_picture.specs.FaultLines.{faults_read}
use Rattle.pci_picture.specs.Said.{AreFaultsOf, AreSaidOf, faults_said}
use Rattle.pci_picture.specs.Spots.{AreBoxesStanding, BoxSpot, IsCutOf, IsInSomeRegion, Section, StandBelow, base_of_section, lines_drawn, next_section, no_section}
use Rattle.pci_picture.specs.Tellings.{ranges_of_faults}
use Rattle.pci_picture.specs.Titles.{says_free, said_of_function}
use Rattle.pci_picture.specs.declared.board.Board.{Board}
use Rattle.pci_picture.specs.declared.lanes.Width.{Width}
use Rattle.pci_picture.specs.declared.plan.Placed.{Placed}
use Rattle.pci_picture.specs.declared.region.Region.{Region}
use Rattle.pci_picture.proofs.BoxWords.{same_words}

-- one region more
pub looks_more : (look : Look) (old : List (List ℕ)) (is_lost : Bool) (regions : List Region) (i : ℕ) (region : Region) (before after : List Placed) (placed : Placed)
    → i < length regions → region ≡ get_or regions i region → looks_placed look before ≡ old ++ looks_of look is_lost (take i regions)
    → placed.region ≡ region → placed.is_lost ≡ is_lost → after ≡ before ++ placed ∷ [] → looks_placed look after ≡ old ++ looks_of look is_lost (take (i + 1) regions)
looks_more look old is_lost regions i region before after placed inside at is same flag new =
    let front = looks_of look is_lost (take i regions) in
    ap (looks_placed look) new ∙ map-append (λ p. look.class p.is_lost p.region.line.now) before (placed ∷ [])
    ∙ ap (λ l. l ++ look.class placed.is_lost placed.region.line.now ∷ []) is
    ∙ ap₂ (λ b r. (old ++ front) ++ look.class b r.line.now ∷ []) flag (same ∙ at)
    ∙ append_assoc old front (look.class is_lost (get_or regions i region).line.now ∷ [])
    ∙ ap (λ l. old ++ l) (sym (map_more (λ r. look.class is_lost r.line.now) regions i region inside))

-- first those in place, then those out of place
pub both_looks : (look : Look) (regions front back : List Region) (n : ℕ) (none some all : List Placed) → none ≡ [] → front ≡ take n regions → back ≡ drop n regions
    → looks_placed look some ≡ looks_placed look none ++ looks_of look false front → looks_placed look all ≡ looks_placed look some ++ looks_of look true back
    → looks_placed look all ≡ looks_up_to look n regions
both_looks look regions front back n none some all empty is_front is_back first second =
    second ∙ ap (λ l. l ++ looks_of look true back) (first ∙ ap (λ l. looks_placed look l ++ looks_of look false front) empty)
    ∙ ap₂ (λ f b. looks_of look false f ++ looks_of look true b) is_front is_back

-- ---- looks that agree

pub record SameLooks (one other : Look) : Type 0 where
  pub class : (is_lost : Bool) (line : List ℕ) → one.class is_lost line ≡ other.class is_lost line
  pub said : (line : List ℕ) → one.said line ≡ other.said line
  pub words : (width : Width) (spot : BoxSpot) → one.words width spot ≡ other.words width spot
  pub off_words : (spot : BoxSpot) → one.off_words spot ≡ other.off_words spot
  pub told : (lines : List (List ℕ)) → one.told lines ≡ other.told lines

pub titled_same : (one other : Look) → SameLooks one other → (spots : List BoxSpot) → All (IsTitled one) spots → All (IsTitled other) spots
titled_same one other same spots titled =
    All-weaker (IsTitled one) (IsTitled other) (λ spot says. says ∙ ap (λ said. spot.line ++ said) (same.said spot.line)) spots titled

-- ---- the words of boxes

pub words_more : (look : Look) (widths : List Width) (spots : List BoxSpot) (width : Width) (spot : BoxSpot) → length spots ≡ length widths
    → words_of_boxes look (widths ++ width ∷ []) (spots ++ spot ∷ []) ≡ words_of_boxes look widths spots ++ look.words width spot
words_more look [] [] width spot same = append-nil (look.words width spot)
words_more look [] (s ∷ spots) width spot same = absurd (omega (arith, same))
words_more look (w ∷ widths) [] width spot same = absurd (omega (arith, same))
words_more look (w ∷ widths) (s ∷ spots) width spot same =
    ap (λ l. look.words w s ++ l) (words_more look widths spots width spot (omega (arith, same)))
    ∙ sym (append_assoc (look.words w s) (words_of_boxes look widths spots) (look.words width spot))

pub words_same : (one other : Look) → SameLooks one other → (widths : List Width) (spots : List BoxSpot)
    → words_of_boxes one widths spots ≡ words_of_boxes other widths spots
words_same one other same [] spots = refl
words_same one other same (width ∷ widths) [] = refl
words_same one other same (width ∷ widths) (spot ∷ spots) = ap₂ (λ l ls. l ++ ls) (same.words width spot) (words_same one other same widths spots)

pub off_words_same : (one other : Look) → SameLooks one other → (spots : List BoxSpot) → flat_map one.off_words spots ≡ flat_map other.off_words spots
off_words_same one other same [] = refl
off_words_same one other same (spot ∷ spots) = ap₂ (λ l ls. l ++ ls) (same.off_words spot) (off_words_same one other same spots)

-- ranges that agree are the same cuts
pub stands_same : (one other : List (List ℕ) → List AddressRange) → ((lines : List (List ℕ)) → one lines ≡ other lines) → (section : Section)
    → AreBoxesStanding one section.number section.spots → AreBoxesStanding other section.number section.spots
stands_same one other same section is =
    let lines = lines_drawn section.spots in
    record {
      height_of = is.height_of;
      rise = is.rise;
      stand = is.stand;
      top = is.top;
      bottom = is.bottom;
      by_rule =
          subst (λ ranges. HasHeights (base_of_section section.number) is.top is.bottom (IsCutOf lines ranges) (IsInSomeRegion lines) is.height_of) (same lines) is.by_rule;
    }

pub below_same : (one other : List (List ℕ) → List AddressRange) → ((lines : List (List ℕ)) → one lines ≡ other lines) → (y end : ℕ) (sections : List Section)
    → StandBelow one y sections end → StandBelow other y sections end
unfolding stands_same
below_same one other same _ _ _ (no_section y) = no_section y
below_same one other same _ _ _ (next_section y between end section sections is rest) =
    next_section y between end section sections (record { boxes = stands_same one other same section is.boxes; begins = is.begins; ends = is.ends })
    (below_same one other same between end sections rest)

-- the faults that were read are those of the text
pub looks_told : {A : Type 0} (board : Board A) (text : List ℕ) → AreFaultsOf text board.faults → AreSaidOf text board.faults → faults_read board.faults ≡ faults_said text
    → SameLooks (look_read board) (look_told (listed_functions board.functions.items) text)
looks_told board text are say same = record {
  class = λ is_lost line.
      let words = words_in_line line in
      ap₂ (λ clashes lost. look_with clashes (is_lost || lost) (look_of_part words)) (are 61 62 (key_of_region words)) (are 60 63 (key_of_region words));
  said = λ line.
      let words = words_in_line line in
      ap (λ said. if says_free words then [] else 10 ∷ (said_of_function (listed_functions board.functions.items) words ++ said)) (say (key_of_region words));
  words = same_words (has_naming board.faults.faults.items board.faults.namings.items) (is_named text) are (listed_functions board.functions.items);
  off_words = λ spot. refl;
  told = λ lines. ap (λ faults. ranges_of_faults faults lines) same;
}
