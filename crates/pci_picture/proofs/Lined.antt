-- Lines that overlap are seated in different lanes.
use Rattle.std.proofs.Common.{arith, ◌≡◌, ◌≢◌, ◌<◌, ◌≤◌, ◌+◌, ◌-◌, ◌⊎◌, ℕ, max, List, [], ◌∷◌, ◌++◌, Option, None, Some, length, take, set, sym, ap, subst, ◌∙◌, inl, inr, length-set, get_or-set_same, get_or-set_other, get_or-take}
use Rattle.std.proofs.lemmas.Bool.{cases_lt, cases_eq}
use Rattle.std.proofs.lemmas.List.{get_or_append_left, get_or_push, length_push, length-take-le}
use Rattle.std.specs.List.{slice_index, slice_index_or}
use Rattle.pci_picture.specs.declared.lanes.Level.{Level}
use Rattle.pci_picture.specs.declared.lanes.Seat.{Seat}
use Rattle.pci_picture.specs.declared.region.Region.{Region}
use Rattle.pci_picture.specs.Lanes.{AreDeep, IsIndented, IsParent, Overlap, SameParent, SiblingsRise, depth_at, first_address_at, last_address_at}
use Rattle.pci_picture.specs.Seats.{AreSeatedApart, BeginsGroup, EndsBefore, HasParent, IsLaneGiven, IsLevelAdded, IsSeatGiven, JoinsGroup, SameButLanes, seat_at}
use Rattle.pci_picture.proofs.SideBySide.{same_parents}
use Rattle.pci_picture.proofs.Seated.{IsParentOfLevel, IsMapped, IsOpened, parent_of_level, level_before, levels_apart, one_deeper, seat_before, seat_last}

abbrev pub ReachesTo : Option ℕ → ℕ → Type 0
ReachesTo None last = ⊥
ReachesTo (Some until) last = last ≤ until

-- each later line of the same parent begins behind a line
abbrev pub IsPassed : List Region → ℕ → ℕ → Type 0
IsPassed regions n i = (j : ℕ) → n ≤ j → j < length regions → SameParent regions i j → last_address_at regions i < first_address_at regions j

-- a line is of the group of a level, and its lane did not end before it
pub record IsOpenLine {A : Type 0} (regions : List Region) (i : ℕ) (seat : Seat) (level : Level A) : Type 0 where
  pub group : seat.group ≡ level.group
  pub lane : seat.lane < length level.ends.items
  pub ends : last_address_at regions i ≤ slice_index level.ends.items seat.lane
  pub until : ReachesTo level.until (last_address_at regions i)

abbrev pub LinesOf : {A : Type 0} → List Region → ℕ → List Seat → Level A → Type 0
LinesOf {A = A} regions n seats level = (i : ℕ) → i < n → (seat_at seats i).parent ≡ level.parent
    → IsOpenLine {A = A} regions i (seat_at seats i) level ⊎ IsPassed regions n i

-- lines before an index are seated apart, and the levels know where the lanes end
pub record AreLined {A : Type 0} (regions : List Region) (n : ℕ) (seats : List Seat) (levels : List (Level A)) : Type 0 where
  pub apart : AreSeatedApart regions seats n
  pub lines : (m : ℕ) (d : Level A) → m < length levels → LinesOf regions n seats (slice_index_or levels m d)

passed_on : (regions : List Region) (n i : ℕ) → IsPassed regions n i → IsPassed regions (n + 1) i
passed_on regions n i passed j le inside same = passed j (omega arith) inside same

-- no line stands inside the last line before the next one
none_inside : {A : Type 0} (regions : List Region) (n i : ℕ) (seats : List Seat) (levels : List (Level A)) → IsIndented regions → n < length regions
    → IsMapped regions n seats levels → length levels < depth_at regions n → (seated_in : Option ℕ)
    → (depth_at regions n ≤ 1 → seated_in ≡ None) → (1 < depth_at regions n → 0 < n → seated_in ≡ Some (n - 1))
    → i < n → (seat_at seats i).parent ≡ seated_in → ⊥
none_inside regions n i seats levels indented inside mapped less seated_in top inner before is =
    let deeper = one_deeper regions n seats levels indented inside mapped less in
    let level : length levels ≡ depth_at regions (n - 1) = mapped.top (n - 1) (omega arith) in
    let some : 0 < depth_at regions (n - 1) = indented.deep (n - 1) (omega arith) in
    let seated_in_is : (seat_at seats i).parent ≡ Some (n - 1) = is ∙ inner (omega arith) (omega arith) in
    let parent : IsParent regions (n - 1) i = subst (λ o. HasParent regions i o) seated_in_is (mapped.parents i before) in
    omega (arith, parent.before)

pub opened_lines : {A : Type 0} (regions : List Region) (n : ℕ) (seats : List Seat) (old new : List (Level A)) → IsIndented regions → n < length regions
    → IsMapped regions n seats old → (depth_at regions n ≤ length old → new ≡ take (depth_at regions n) old)
    → (length old < depth_at regions n → IsLevelAdded n (depth_at regions n) old new) → AreLined regions n seats old → AreLined regions n seats new
opened_lines regions n seats old new indented inside mapped kept added lined = elim (cases_lt (length old) (depth_at regions n)) [
  | inl less ↦
      let one = added less in
      subst (λ l. AreLined regions n seats l) (sym one.added) (record {
        apart = lined.apart;
        lines = λ m d low. elim (cases_lt m (length old)) [
          | inl before ↦ subst (λ l. LinesOf regions n seats l) (sym (level_before old one.level d m before)) (lined.lines m d before)
          | inr last ↦
              let pushed = length_push old one.level in
              let here : length old ≡ m = omega arith in
              subst (λ l. LinesOf regions n seats l) (sym (get_or_push old one.level d m here))
              (λ i before is. absurd (none_inside regions n i seats old indented inside mapped less one.level.parent one.is_top one.is_inner before is))
        ];
      })
  | inr flat ↦ subst (λ l. AreLined regions n seats l) (sym (kept flat)) (record {
    apart = lined.apart;
    lines = λ m d less.
        let short = length-take-le (depth_at regions n) old flat in
        let low : m < depth_at regions n = omega arith in
        subst (λ l. LinesOf regions n seats l) (sym (get_or-take (depth_at regions n) old m d low)) (lined.lines m d (omega arith));
  })
]

-- an earlier line after one of its level got its seat: it is open with another lane, or ended before that line
abbrev pub IsBeside : {A : Type 0} → List Region → ℕ → ℕ → Seat → Seat → Level A → Type 0
IsBeside {A = A} regions n i mine seat level =
    (IsOpenLine {A = A} regions i mine level × (mine.lane ≢ seat.lane))
    ⊎ (IsPassed regions (n + 1) i × (last_address_at regions i < first_address_at regions n))

ended : {A : Type 0} (regions : List Region) (n i : ℕ) (mine seat : Seat) (level : Level A) → SiblingsRise regions → n < length regions → SameParent regions i n
    → last_address_at regions i < first_address_at regions n → IsBeside regions n i mine seat level
ended regions n i mine seat level rise inside same less = inr (
  λ j le within with_j.
      let other : SameParent regions n j = λ p. (λ q. (with_j p).0 ((same p).1 q), λ q. (same p).0 ((with_j p).1 q)) in
      let rises : first_address_at regions n ≤ first_address_at regions j = rise n j (omega arith) within other in
      omega arith,
  less,
)

before_group : (until : Option ℕ) (first last : ℕ) → EndsBefore until first → ReachesTo until last → last < first
before_group None first last ends reaches = absurd reaches
before_group (Some until) first last ends reaches = omega arith

reaches_more : (old new : Option ℕ) (until last other : ℕ) → old ≡ Some until → new ≡ Some (max until other) → ReachesTo old last → ReachesTo new last
reaches_more old new until last other was is reaches =
    let low : last ≤ until = subst (λ o. ReachesTo o last) was reaches in
    let high : last ≤ max until other = omega arith in
    subst (λ o. ReachesTo o last) (sym is) high

-- a line of the same group
beside_lane : {A : Type 0} (regions : List Region) (n i : ℕ) (mine seat : Seat) (between new : Level A) → SiblingsRise regions → n < length regions
    → SameParent regions i n → IsOpenLine regions i mine between → SameButLanes between new
    → IsLaneGiven between.ends.items (first_address_at regions n) (last_address_at regions n) seat.lane new.ends.items
    → IsBeside regions n i mine seat new
beside_lane regions n i mine seat between new rise inside same line kept (inl fresh) = inl (
  record {
    group = line.group ∙ sym kept.group;
    lane =
        let pushed : length new.ends.items ≡ length between.ends.items + 1 = ap (λ l. length l) fresh.1 ∙ length_push between.ends.items (last_address_at regions n) in
        omega (arith, line.lane);
    ends = subst (λ l. last_address_at regions i ≤ slice_index l mine.lane) (sym fresh.1)
        (subst (λ e. last_address_at regions i ≤ e) (sym (get_or_append_left between.ends.items (last_address_at regions n ∷ []) 0 mine.lane line.lane)) line.ends);
    until = subst (λ o. ReachesTo o (last_address_at regions i)) (sym kept.until) line.until;
  },
  λ is. omega (arith, line.lane, fresh.0, is),
)
beside_lane regions n i mine seat between new rise inside same line kept (inr reused) = elim (cases_eq mine.lane seat.lane) [
  | inl is ↦
      let mine_ends : last_address_at regions i ≤ slice_index between.ends.items seat.lane =
      subst (λ k. last_address_at regions i ≤ slice_index between.ends.items k) is line.ends in
      ended regions n i mine seat new rise inside same (omega (arith, mine_ends, reused.1))
  | inr other ↦ inl (
    record {
      group = line.group ∙ sym kept.group;
      lane =
          let size : length new.ends.items ≡ length between.ends.items = ap (λ l. length l) reused.2 ∙ length-set between.ends.items seat.lane (last_address_at regions n) in
          omega (arith, line.lane);
      ends = subst (λ l. last_address_at regions i ≤ slice_index l mine.lane) (sym reused.2)
          (subst (λ e. last_address_at regions i ≤ e) (sym (get_or-set_other between.ends.items seat.lane mine.lane (last_address_at regions n) 0 other)) line.ends);
      until = subst (λ o. ReachesTo o (last_address_at regions i)) (sym kept.until) line.until;
    },
    other,
  )
]

beside : {A : Type 0} (regions : List Region) (n i : ℕ) (mine : Seat) (seats after : List Seat) (old new : Level A) → SiblingsRise regions → n < length regions
    → SameParent regions i n → IsOpenLine regions i mine old ⊎ IsPassed regions n i
    → (given : IsSeatGiven (first_address_at regions n) (last_address_at regions n) old new seats after) → IsBeside regions n i mine given.seat new
beside regions n i mine seats after old new rise inside same (inr passed) given =
    inr (passed_on regions n i passed, passed n (omega arith) inside same)
beside regions n i mine seats after old new rise inside same (inl line) given = elim given.is_group [
  | inr begins ↦
      ended regions n i mine given.seat new rise inside same
      (before_group old.until (first_address_at regions n) (last_address_at regions i) begins.was line.until)
  | inl joins ↦
      beside_lane regions n i mine given.seat given.between new rise inside same
      (record {
        group = line.group ∙ sym joins.group;
        lane = subst (λ l. mine.lane < length l) (sym joins.ends) line.lane;
        ends = subst (λ l. last_address_at regions i ≤ slice_index l mine.lane) (sym joins.ends) line.ends;
        until = reaches_more old.until given.between.until joins.until (last_address_at regions i) (last_address_at regions n) joins.was joins.is line.until;
      }) given.is_same given.is_lane
]

last_reached : {A : Type 0} (first last : ℕ) (old between : Level A) → JoinsGroup last old between ⊎ BeginsGroup first last old between → ReachesTo between.until last
last_reached first last old between (inl joins) =
    let high : last ≤ max joins.until last = omega arith in
    subst (λ o. ReachesTo o last) (sym joins.is) high
last_reached first last old between (inr begins) =
    let high : last ≤ last = omega arith in
    subst (λ o. ReachesTo o last) (sym begins.is) high

lane_there : (old new : List ℕ) (first last lane : ℕ) → IsLaneGiven old first last lane new → (lane < length new) × (last ≤ slice_index new lane)
lane_there old new first last lane (inl fresh) =
    let pushed : length new ≡ length old + 1 = ap (λ l. length l) fresh.1 ∙ length_push old last in
    let at : slice_index new lane ≡ last = ap (λ l. slice_index l lane) fresh.1 ∙ get_or_push old last 0 lane (sym fresh.0) in
    (omega (arith, fresh.0), omega arith)
lane_there old new first last lane (inr reused) =
    let size : length new ≡ length old = ap (λ l. length l) reused.2 ∙ length-set old lane last in
    let at : slice_index new lane ≡ last = ap (λ l. slice_index l lane) reused.2 ∙ get_or-set_same old lane last 0 reused.0 in
    (omega (arith, reused.0), omega arith)

-- the line that got its seat
own_line : {A : Type 0} (regions : List Region) (n : ℕ) (seats after : List Seat) (old new : Level A)
    → (given : IsSeatGiven (first_address_at regions n) (last_address_at regions n) old new seats after) → IsOpenLine regions n given.seat new
own_line regions n seats after old new given =
    let there = lane_there given.between.ends.items new.ends.items (first_address_at regions n) (last_address_at regions n) given.seat.lane given.is_lane in
    record {
      group = given.group;
      lane = there.0;
      ends = there.1;
      until = subst (λ o. ReachesTo o (last_address_at regions n)) (sym given.is_same.until)
          (last_reached (first_address_at regions n) (last_address_at regions n) old given.between given.is_group);
    }

either_way : {A : Type 0} (regions : List Region) (n i : ℕ) (mine seat : Seat) (level : Level A) → IsBeside regions n i mine seat level
    → IsOpenLine regions i mine level ⊎ IsPassed regions (n + 1) i
either_way regions n i mine seat level (inl both) = inl both.0
either_way regions n i mine seat level (inr both) = inr both.0

one_on : {A : Type 0} (regions : List Region) (n i : ℕ) (mine : Seat) (level : Level A) → IsOpenLine regions i mine level ⊎ IsPassed regions n i
    → IsOpenLine regions i mine level ⊎ IsPassed regions (n + 1) i
one_on regions n i mine level (inl line) = inl line
one_on regions n i mine level (inr passed) = inr (passed_on regions n i passed)

apart_lane : {A : Type 0} (regions : List Region) (n i : ℕ) (mine seat : Seat) (level : Level A) → seat.group ≡ level.group → Overlap regions i n
    → IsBeside regions n i mine seat level → (mine.group ≡ seat.group) × (mine.lane ≢ seat.lane)
apart_lane regions n i mine seat level group meet (inl both) = ((both.0).group ∙ sym group, both.1)
apart_lane regions n i mine seat level group meet (inr both) = absurd (omega (arith, meet.1, both.1))

-- the lines of the level of the line that got its seat
own_lines : {A : Type 0} (regions : List Region) (n : ℕ) (seats : List Seat) (old new : Level A) (seat : Seat) → length seats ≡ n
    → new.parent ≡ old.parent → IsOpenLine regions n seat new
    → ((i : ℕ) → i < n → (seat_at seats i).parent ≡ old.parent → IsBeside regions n i (seat_at seats i) seat new)
    → LinesOf regions (n + 1) (seats ++ (seat ∷ [])) new
own_lines {A = A} regions n seats old new seat count kept own beside_all i less is = elim (cases_lt i n) [
  | inl before ↦
      let early : i < length seats = omega arith in
      let seated_in = ap (λ (s : Seat). s.parent) (sym (seat_before seats seat i early)) ∙ (is ∙ kept) in
      subst (λ s. IsOpenLine {A = A} regions i s new ⊎ IsPassed regions (n + 1) i) (sym (seat_before seats seat i early))
      (either_way regions n i (seat_at seats i) seat new (beside_all i before seated_in))
  | inr last ↦
      let here : n ≡ i = omega arith in
      let there : length seats ≡ i = omega arith in
      inl (subst (λ s. IsOpenLine {A = A} regions i s new) (sym (seat_last seats seat i there))
      (subst (λ j. IsOpenLine {A = A} regions j seat new) here own))
]

-- the lines of another level
other_lines : {A : Type 0} (regions : List Region) (n : ℕ) (seats : List Seat) (level : Level A) (seat : Seat) → length seats ≡ n
    → (seat.parent ≡ level.parent → ⊥) → LinesOf regions n seats level → LinesOf regions (n + 1) (seats ++ (seat ∷ [])) level
other_lines {A = A} regions n seats level seat count differ lines i less is = elim (cases_lt i n) [
  | inl before ↦
      let early : i < length seats = omega arith in
      let seated_in = ap (λ (s : Seat). s.parent) (sym (seat_before seats seat i early)) ∙ is in
      subst (λ s. IsOpenLine {A = A} regions i s level ⊎ IsPassed regions (n + 1) i) (sym (seat_before seats seat i early))
      (one_on regions n i (seat_at seats i) level (lines i before seated_in))
  | inr last ↦
      let there : length seats ≡ i = omega arith in
      absurd (differ (ap (λ (s : Seat). s.parent) (sym (seat_last seats seat i there)) ∙ is))
]

-- the line that got its seat stands apart from earlier ones
apart_more : {A : Type 0} (regions : List Region) (n : ℕ) (seats : List Seat) (old new : Level A) (seat : Seat) → length seats ≡ n
    → seat.parent ≡ old.parent → seat.group ≡ new.group
    → ((i : ℕ) → i < n → (seat_at seats i).parent ≡ old.parent → IsBeside regions n i (seat_at seats i) seat new)
    → AreSeatedApart regions seats n → AreSeatedApart regions (seats ++ (seat ∷ [])) (n + 1)
apart_more regions n seats old new seat count seated_in group beside_all apart i j less high is meet = elim (cases_lt j n) [
  | inl before ↦
      let one = seat_before seats seat i (omega arith) in
      let other = seat_before seats seat j (omega arith) in
      subst (λ s. (s.group ≡ (seat_at (seats ++ (seat ∷ [])) j).group) × (s.lane ≢ (seat_at (seats ++ (seat ∷ [])) j).lane)) (sym one)
      (subst (λ s. ((seat_at seats i).group ≡ s.group) × ((seat_at seats i).lane ≢ s.lane)) (sym other)
      (apart i j less before (ap (λ (s : Seat). s.parent) (sym one) ∙ (is ∙ ap (λ (s : Seat). s.parent) other)) meet))
  | inr last ↦
      let here : j ≡ n = omega arith in
      let one = seat_before seats seat i (omega arith) in
      let other = seat_last seats seat j (omega arith) in
      let early : i < n = omega arith in
      let same = ap (λ (s : Seat). s.parent) (sym one) ∙ (is ∙ (ap (λ (s : Seat). s.parent) other ∙ seated_in)) in
      subst (λ s. (s.group ≡ (seat_at (seats ++ (seat ∷ [])) j).group) × (s.lane ≢ (seat_at (seats ++ (seat ∷ [])) j).lane)) (sym one)
      (subst (λ s. ((seat_at seats i).group ≡ s.group) × ((seat_at seats i).lane ≢ s.lane)) (sym other)
      (apart_lane regions n i (seat_at seats i) seat new group (subst (λ k. Overlap regions i k) here meet) (beside_all i early same)))
]

-- the line at an index got its seat
pub seated_lines : {A : Type 0} (regions : List Region) (n t : ℕ) (seats after : List Seat) (levels : List (Level A)) (old new : Level A)
    → SiblingsRise regions → n < length regions → AreDeep regions → IsOpened regions n seats levels → t + 1 ≡ length levels
    → ((d : Level A) → slice_index_or levels t d ≡ old)
    → IsSeatGiven (first_address_at regions n) (last_address_at regions n) old new seats after
    → AreLined regions n seats levels → AreLined regions (n + 1) after (set levels t new)
seated_lines {A = A} regions n t seats after levels old new rise inside deep reached at is given lined =
    let reach : length levels ≡ depth_at regions n = reached.reach in
    let low_t : t < length levels = omega arith in
    let own : IsParentOfLevel regions n t old.parent =
    subst (λ l. IsParentOfLevel regions n t l.parent) (is old) (reached.levels_parents t old low_t) in
    let seated_in : HasParent regions n old.parent = parent_of_level regions n t old.parent inside deep (omega arith) own in
    let lines : LinesOf regions n seats old = subst (λ l. LinesOf regions n seats l) (is old) (lined.lines t old low_t) in
    let beside_all : (i : ℕ) → i < n → (seat_at seats i).parent ≡ old.parent → IsBeside regions n i (seat_at seats i) given.seat new =
    λ i before same.
    beside regions n i (seat_at seats i) seats after old new rise inside
    (same_parents regions i n old.parent (subst (λ o. HasParent regions i o) same (reached.parents i before)) seated_in) (lines i before same) given in
    subst (λ s. AreLined regions (n + 1) s (set levels t new)) (sym given.added) (record {
      apart = apart_more regions n seats old new given.seat reached.count given.parent given.group beside_all lined.apart;
      lines = λ m d less.
          let size = length-set levels t new in
          let low : m < length levels = omega arith in
          elim (cases_eq m t) [
            | inl same ↦
                subst (λ (j : ℕ). LinesOf regions (n + 1) (seats ++ (given.seat ∷ [])) (slice_index_or (set levels t new) j d)) (sym same)
                (subst (λ l. LinesOf regions (n + 1) (seats ++ (given.seat ∷ [])) l) (sym (get_or-set_same levels t new d low_t))
                (own_lines regions n seats old new given.seat reached.count given.kept (own_line regions n seats after old new given) beside_all))
            | inr other ↦
                subst (λ l. LinesOf regions (n + 1) (seats ++ (given.seat ∷ [])) l) (sym (get_or-set_other levels t m new d other))
                (other_lines regions n seats (slice_index_or levels m d) given.seat reached.count
                (λ same. other (levels_apart regions n m t old.parent
                (subst (λ o. IsParentOfLevel regions n m o) (sym same ∙ given.parent) (reached.levels_parents m d low)) own))
                (lined.lines m d low))
          ];
    })
