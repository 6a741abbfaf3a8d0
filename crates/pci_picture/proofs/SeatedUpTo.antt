-- The seats of the lines before an index.
use Rattle.std.proofs.Common.{arith, ◌≡◌, ◌<◌, ◌≤◌, ◌+◌, ℕ, List, [], map, length, take, set, sym, ap, subst, ◌∙◌, refl, inl, inr}
use Rattle.std.proofs.lemmas.Bool.{cases_lt}
use Rattle.std.proofs.lemmas.List.{get_or_default, length_push, length-take-le, get_or-map}
use Rattle.std.specs.List.{slice_index, slice_index_or}
use Rattle.pci_picture.specs.declared.lanes.Level.{Level}
use Rattle.pci_picture.specs.declared.lanes.Seat.{Seat}
use Rattle.pci_picture.specs.declared.region.Region.{Region}
use Rattle.pci_picture.specs.Lanes.{AreDeep, IsIndented, SiblingsRise, depth_at, first_address_at, last_address_at}
use Rattle.pci_picture.specs.Seats.{AreSeatedApart, HaveLanes, HaveParents, IsLaneAdded, HaveWindowsUpTo, IsLevelAdded, IsSeatGiven, IsWindowTold}
use Rattle.pci_picture.specs.Cuts.{is_window_part}
use Rattle.pci_picture.proofs.Seated.{IsMapped, opened, seat_before, seat_last, seated}
use Rattle.pci_picture.proofs.Crowded.{AreCrowded, opened_crowded, seated_crowded}
use Rattle.pci_picture.proofs.Lined.{AreLined, opened_lines, seated_lines}

-- what is known of the lines before an index
pub record IsSeatedUpTo {A : Type 0} (regions : List Region) (n : ℕ) (seats : List Seat) (levels : List (Level A)) : Type 0 where
  pub count : AreDeep regions → length seats ≡ n
  pub mapped : IsIndented regions → IsMapped regions n seats levels
  pub lined : IsIndented regions → SiblingsRise regions → AreLined regions n seats levels

-- before the first line
pub none_seated : {A : Type 0} (regions : List Region) (seats : List Seat) (levels : List (Level A)) → seats ≡ [] → levels ≡ [] → IsSeatedUpTo regions 0 seats levels
none_seated regions seats levels no_seat no_level =
    subst (λ s. IsSeatedUpTo regions 0 s levels) (sym no_seat) (subst (λ l. IsSeatedUpTo regions 0 [] l) (sym no_level) (record {
      count = λ deep. refl;
      mapped = λ indented. record {
        count = refl;
        top = λ k is. absurd (omega arith);
        none = λ is. refl;
        parents = λ i less. absurd (omega arith);
        levels_parents = λ m d less. absurd (omega arith);
      };
      lined = λ indented rise. record {
        apart = λ i j less high is meet. absurd (omega arith);
        lines = λ m d less. absurd (omega arith);
      };
    }))

-- what the loop did with one line
pub record IsStep {A : Type 0} (regions : List Region) (n t : ℕ) (seats after : List Seat) (old mid : List (Level A)) (level new : Level A) : Type 0 where
  pub kept : depth_at regions n ≤ length old → mid ≡ take (depth_at regions n) old
  pub added : length old < depth_at regions n → IsLevelAdded (length seats) (depth_at regions n) old mid
  pub at : t + 1 ≡ length mid
  pub level_is : (d : Level A) → slice_index_or mid t d ≡ level
  pub given : IsSeatGiven (first_address_at regions n) (last_address_at regions n) level new seats after

pub one_seated : {A : Type 0} (regions : List Region) (n t : ℕ) (seats after : List Seat) (old mid : List (Level A)) (level new : Level A)
    → n < length regions → IsStep regions n t seats after old mid level new → IsSeatedUpTo regions n seats old → IsSeatedUpTo regions (n + 1) after (set mid t new)
one_seated regions n t seats after old mid level new inside step up = record {
  count = λ deep. ap (λ s. length s) step.given.added ∙ (length_push seats step.given.seat ∙ ap (λ (k : ℕ). k + 1) (up.count deep));
  mapped = λ indented.
      let mapped = up.mapped indented in
      seated regions n t (first_address_at regions n) (last_address_at regions n) seats after mid level new indented inside
      (opened regions n seats old mid indented inside mapped step.kept
      (λ less. subst (λ (k : ℕ). IsLevelAdded k (depth_at regions n) old mid) mapped.count (step.added less)))
      step.at step.level_is step.given;
  lined = λ indented rise.
      let mapped = up.mapped indented in
      let added : length old < depth_at regions n → IsLevelAdded n (depth_at regions n) old mid =
      λ less. subst (λ (k : ℕ). IsLevelAdded k (depth_at regions n) old mid) mapped.count (step.added less) in
      seated_lines regions n t seats after mid level new rise inside indented.deep
      (opened regions n seats old mid indented inside mapped step.kept added) step.at step.level_is step.given
      (opened_lines regions n seats old mid indented inside mapped step.kept added (up.lined indented rise));
}

-- where no level is left, the line stands at depth 0
no_level : {A : Type 0} (regions : List Region) (n count : ℕ) (old mid : List (Level A)) → n < length regions
    → (depth_at regions n ≤ length old → mid ≡ take (depth_at regions n) old)
    → (length old < depth_at regions n → IsLevelAdded count (depth_at regions n) old mid) → length mid ≡ 0 → AreDeep regions → ⊥
no_level regions n count old mid inside kept added none deep =
    let some : 0 < depth_at regions n = deep n inside in
    elim (cases_lt (length old) (depth_at regions n)) [
      | inl less ↦
          let one = added less in
          let pushed : length mid ≡ length old + 1 = ap (λ l. length l) one.added ∙ length_push old one.level in
          omega arith
      | inr flat ↦
          let taken : length mid ≡ depth_at regions n = ap (λ l. length l) (kept flat) ∙ length-take-le (depth_at regions n) old flat in
          omega arith
    ]

pub not_seated : {A : Type 0} (regions : List Region) (n count m : ℕ) (seats : List Seat) (old mid levels : List (Level A)) → n < length regions
    → (depth_at regions n ≤ length old → mid ≡ take (depth_at regions n) old)
    → (length old < depth_at regions n → IsLevelAdded count (depth_at regions n) old mid) → length mid ≡ 0 → IsSeatedUpTo regions m seats levels
not_seated regions n count m seats old mid levels inside kept added none = record {
  count = λ deep. absurd (no_level regions n count old mid inside kept added none deep);
  mapped = λ indented. absurd (no_level regions n count old mid inside kept added none indented.deep);
  lined = λ indented rise. absurd (no_level regions n count old mid inside kept added none indented.deep);
}

-- a number of the line at an index
pub number_at : (f : Region → ℕ) (regions : List Region) (i : ℕ) (region : Region) → i < length regions → region ≡ slice_index_or regions i region
    → slice_index (map f regions) i ≡ f region
number_at f regions i region inside is = get_or-map f regions i region 0 inside ∙ ap f (sym is)

-- the step of the region that the loop reads
step_read : {A : Type 0} (regions : List Region) (n t count : ℕ) (seats after : List Seat) (old mid : List (Level A)) (level new : Level A) (region : Region)
    → n < length regions → region ≡ slice_index_or regions n region → count ≡ length seats
    → (region.depth ≤ length old → mid ≡ take region.depth old) → (length old < region.depth → IsLevelAdded count region.depth old mid)
    → t + 1 ≡ length mid → ((d : Level A) → level ≡ slice_index_or mid t d) → IsSeatGiven region.first region.last level new seats after
    → IsStep regions n t seats after old mid level new
step_read regions n t count seats after old mid level new region inside is count_is kept added at level_is given =
    let depth : region.depth ≡ depth_at regions n = sym (number_at (λ r. r.depth) regions n region inside is) in
    let first : region.first ≡ first_address_at regions n = sym (number_at (λ r. r.first) regions n region inside is) in
    let last : region.last ≡ last_address_at regions n = sym (number_at (λ r. r.last) regions n region inside is) in
    record {
      kept = subst (λ k. k ≤ length old → mid ≡ take k old) depth kept;
      added = subst (λ k. length old < depth_at regions n → IsLevelAdded k (depth_at regions n) old mid) count_is
          (subst (λ k. length old < k → IsLevelAdded count k old mid) depth added);
      at = at;
      level_is = λ d. sym (level_is d);
      given = subst (λ a. IsSeatGiven (first_address_at regions n) a level new seats after) last
          (subst (λ a. IsSeatGiven a region.last level new seats after) first given);
    }

pub one_read : {A : Type 0} (regions : List Region) (n t count : ℕ) (seats after : List Seat) (old mid levels : List (Level A)) (level new : Level A) (region : Region)
    → n < length regions → region ≡ slice_index_or regions n region → count ≡ length seats
    → (region.depth ≤ length old → mid ≡ take region.depth old) → (length old < region.depth → IsLevelAdded count region.depth old mid)
    → t + 1 ≡ length mid → ((d : Level A) → level ≡ slice_index_or mid t d) → IsSeatGiven region.first region.last level new seats after
    → levels ≡ set mid t new → IsSeatedUpTo regions n seats old → IsSeatedUpTo regions (n + 1) after levels
one_read regions n t count seats after old mid levels level new region inside is count_is kept added at level_is given levels_are up =
    subst (λ l. IsSeatedUpTo regions (n + 1) after l) (sym levels_are)
    (one_seated regions n t seats after old mid level new inside
    (step_read regions n t count seats after old mid level new region inside is count_is kept added at level_is given) up)

pub one_crowded : {A : Type 0} (regions : List Region) (n t count : ℕ) (seats after : List Seat) (lanes more : List ℕ) (old mid levels : List (Level A)) (level new : Level A)
    (region : Region) → n < length regions → region ≡ slice_index_or regions n region → count ≡ length seats
    → (region.depth ≤ length old → mid ≡ take region.depth old) → (length old < region.depth → IsLevelAdded count region.depth old mid)
    → t + 1 ≡ length mid → ((d : Level A) → level ≡ slice_index_or mid t d) → IsSeatGiven region.first region.last level new seats after
    → IsLaneAdded level new seats after lanes more → levels ≡ set mid t new → IsIndented regions → SiblingsRise regions
    → IsSeatedUpTo regions n seats old → HaveLanes seats lanes → AreCrowded regions n seats lanes old → AreCrowded regions (n + 1) after more levels
one_crowded regions n t count seats after lanes more old mid levels level new region inside is count_is kept added at level_is given lane_added levels_are
    indented rise up have crowded =
    let step = step_read regions n t count seats after old mid level new region inside is count_is kept added at level_is given in
    let mapped = up.mapped indented in
    subst (λ l. AreCrowded regions (n + 1) after more l) (sym levels_are)
    (seated_crowded regions n t seats after lanes more mid level new rise inside indented.deep
    (opened regions n seats old mid indented inside mapped step.kept
    (λ less. subst (λ (k : ℕ). IsLevelAdded k (depth_at regions n) old mid) mapped.count (step.added less)))
    have step.at step.level_is step.given lane_added
    (opened_crowded regions n (length seats) (depth_at regions n) seats lanes old mid step.kept step.added crowded))

-- no line is deep where no level is left
pub never_empty : {A : Type 0} (regions : List Region) (n count : ℕ) (old mid : List (Level A)) (region : Region)
    → n < length regions → region ≡ slice_index_or regions n region
    → (region.depth ≤ length old → mid ≡ take region.depth old) → (length old < region.depth → IsLevelAdded count region.depth old mid)
    → length mid ≡ 0 → AreDeep regions → ⊥
never_empty regions n count old mid region inside is kept added none deep =
    let depth : region.depth ≡ depth_at regions n = sym (number_at (λ r. r.depth) regions n region inside is) in
    no_level regions n count old mid inside
    (subst (λ k. k ≤ length old → mid ≡ take k old) depth kept)
    (subst (λ k. length old < k → IsLevelAdded count k old mid) depth added) none deep

pub none_read : {A : Type 0} (regions : List Region) (n count m : ℕ) (seats : List Seat) (old mid levels : List (Level A)) (region : Region)
    → n < length regions → region ≡ slice_index_or regions n region
    → (region.depth ≤ length old → mid ≡ take region.depth old) → (length old < region.depth → IsLevelAdded count region.depth old mid)
    → length mid ≡ 0 → IsSeatedUpTo regions m seats levels
none_read regions n count m seats old mid levels region inside is kept added none =
    let depth : region.depth ≡ depth_at regions n = sym (number_at (λ r. r.depth) regions n region inside is) in
    not_seated regions n count m seats old mid levels inside
    (subst (λ k. k ≤ length old → mid ≡ take k old) depth kept)
    (subst (λ k. length old < k → IsLevelAdded count k old mid) depth added) none

-- one more seat says whether its line is a window
pub windows_more : (regions : List Region) (n : ℕ) (seats after : List Seat) (region : Region) → n < length regions → region ≡ slice_index_or regions n region
    → length seats ≡ n → IsWindowTold region seats after → HaveWindowsUpTo regions n seats → HaveWindowsUpTo regions (n + 1) after
windows_more regions n seats after region inside is count told windows =
    subst (λ s. HaveWindowsUpTo regions (n + 1) s) (sym told.added) (λ i d less. elim (cases_lt i n) [
      | inl before ↦
          subst (λ (s : Seat). s.is_window ≡ is_window_part (slice_index_or regions i d).part) (sym (seat_before seats told.seat i (omega arith))) (windows i d before)
      | inr last ↦
          let here : n ≡ i = omega arith in
          let there : length seats ≡ i = omega arith in
          subst (λ (s : Seat). s.is_window ≡ is_window_part (slice_index_or regions i d).part) (sym (seat_last seats told.seat i there))
          (told.is_window ∙ ap (λ (r : Region). is_window_part r.part)
          (is ∙ (get_or_default regions n region d inside ∙ ap (λ (k : ℕ). slice_index_or regions k d) here)))
    ])

-- behind the last line
pub all_parents : {A : Type 0} (regions : List Region) (n : ℕ) (seats : List Seat) (levels : List (Level A)) → length regions ≤ n → IsSeatedUpTo regions n seats levels
    → IsIndented regions → HaveParents regions seats
all_parents regions n seats levels all up indented i less = (up.mapped indented).parents i (omega arith)

pub all_apart : {A : Type 0} (regions : List Region) (n : ℕ) (seats : List Seat) (levels : List (Level A)) → length regions ≤ n → IsSeatedUpTo regions n seats levels
    → IsIndented regions → SiblingsRise regions → AreSeatedApart regions seats (length regions)
all_apart regions n seats levels all up indented rise i j less high is meet = (up.lined indented rise).apart i j less (omega arith) is meet
