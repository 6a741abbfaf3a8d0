-- No group has more lanes than lines of one parent hold one address together.
use Rattle.std.proofs.Common.{arith, ◌≡◌, ◌≢◌, ◌<◌, ◌≤◌, ◌+◌, ◌⊎◌, ℕ, zero, suc, max, List, [], ◌∷◌, ◌++◌, Option, None, length, take, set, sym, ap, subst, ◌∙◌, refl, inl, inr, length-set, get_or-set_same, get_or-set_other, get_or-take}
use Rattle.std.proofs.lemmas.Bool.{cases_lt, cases_eq}
use Rattle.std.proofs.lemmas.List.{get_or_append_left, get_or_past, get_or_push, length_push, length-take-le}
use Rattle.std.specs.List.{slice_index, slice_index_or}
use Rattle.pci_picture.specs.declared.lanes.Level.{Level}
use Rattle.pci_picture.specs.declared.lanes.Seat.{Seat}
use Rattle.pci_picture.specs.declared.region.Region.{Region}
use Rattle.pci_picture.specs.Lanes.{AreDeep, HoldsAt, SiblingsRise, depth_at, first_address_at, last_address_at}
use Rattle.pci_picture.specs.Seats.{BeginsGroup, HasParent, HaveLanes, HaveParents, HoldLanesTogether, IsGroupGiven, IsLaneAdded, IsLaneGiven, IsLevelAdded, IsSeatGiven, IsWidened, JoinsGroup, NoneEndsBefore, seat_at}
use Rattle.pci_picture.proofs.SideBySide.{same_parents}
use Rattle.pci_picture.proofs.Seated.{IsOpened, IsParentOfLevel, level_before, parent_of_level, seat_before, seat_last}

-- no line ends before it begins
pub ranges : (regions : List Region) (k : ℕ) → k < length regions → first_address_at regions k ≤ last_address_at regions k
ranges [] k less = absurd (omega arith)
ranges (region ∷ regions) zero less = region.ends.rises
ranges (region ∷ regions) (suc k) less = ranges regions k (omega arith)

-- the line that was seated last in a lane
pub record IsLastOfLane (regions : List Region) (n : ℕ) (seats : List Seat) (parent : Option ℕ) (group : ℕ) (ends : List ℕ) (k j : ℕ) : Type 0 where
  pub before : j < n
  pub seated_in : (seat_at seats j).parent ≡ parent
  pub group_is : (seat_at seats j).group ≡ group
  pub lane : (seat_at seats j).lane ≡ k
  pub ends_at : last_address_at regions j ≡ slice_index ends k

abbrev pub HaveLast : List Region → ℕ → List Seat → Option ℕ → ℕ → List ℕ → Type 0
HaveLast regions n seats parent group ends = (k : ℕ) → k < length ends → (j : ℕ) × IsLastOfLane regions n seats parent group ends k j

-- a line of a parent has a lane, and holds an address
pub record IsHolder (regions : List Region) (n : ℕ) (seats : List Seat) (parent : Option ℕ) (address k j : ℕ) : Type 0 where
  pub before : j < n
  pub seated_in : (seat_at seats j).parent ≡ parent
  pub lane : (seat_at seats j).lane ≡ k
  pub holds : HoldsAt regions j address

-- lines of a parent in each of some lanes hold one address
pub record AreHolders (regions : List Region) (n : ℕ) (seats : List Seat) (parent : Option ℕ) (count : ℕ) : Type 0 where
  pub address : ℕ
  pub lines : (k : ℕ) → k < count → (j : ℕ) × IsHolder regions n seats parent address k j

-- what is known of a level: the parent of its group, and the last line of each lane
pub record IsLevelKnown {A : Type 0} (regions : List Region) (n : ℕ) (seats : List Seat) (owners : List (Option ℕ)) (level : Level A) : Type 0 where
  pub owner : level.until ≢ None → slice_index_or owners level.group None ≡ level.parent
  pub among : level.until ≢ None → level.group < length owners
  pub last : HaveLast regions n seats level.parent level.group level.ends.items
  pub least : NoneEndsBefore level.least level.ends.items

-- the lines before an index, where `owners` has the parent of each group
pub record AreCrowded {A : Type 0} (regions : List Region) (n : ℕ) (seats : List Seat) (lanes : List ℕ) (levels : List (Level A)) : Type 0 where
  pub owners : List (Option ℕ)
  pub long : length owners ≡ length lanes
  pub owned : (i : ℕ) → i < n → slice_index_or owners (seat_at seats i).group None ≡ (seat_at seats i).parent
  pub known : (m : ℕ) (d : Level A) → m < length levels → IsLevelKnown regions n seats owners (slice_index_or levels m d)
  pub groups : (g : ℕ) → AreHolders regions n seats (slice_index_or owners g None) (slice_index lanes g)

no_holders : (regions : List Region) (n : ℕ) (seats : List Seat) (parent : Option ℕ) (count : ℕ) → count ≡ 0 → AreHolders regions n seats parent count
no_holders regions n seats parent count none = record { address = 0; lines = λ k less. absurd (omega arith) }

pub none_crowded : {A : Type 0} (regions : List Region) (seats : List Seat) (lanes : List ℕ) (levels : List (Level A)) → lanes ≡ [] → levels ≡ []
    → AreCrowded regions 0 seats lanes levels
none_crowded regions seats lanes levels no_lane no_level =
    let none : length levels ≡ 0 = ap (λ l. length l) no_level in
    record {
      owners = [];
      long = sym (ap (λ l. length l) no_lane);
      owned = λ i less. absurd (omega arith);
      known = λ m d less. absurd (omega arith);
      groups = λ g. no_holders regions 0 seats (slice_index_or [] g None) (slice_index lanes g)
          (get_or_past lanes g 0 (let size : length lanes ≡ 0 = ap (λ l. length l) no_lane in omega arith));
    }

-- ---- levels are opened

fresh_known : {A : Type 0} (regions : List Region) (n : ℕ) (seats : List Seat) (owners : List (Option ℕ)) (level : Level A)
    → level.until ≡ None → level.ends.items ≡ [] → IsLevelKnown regions n seats owners level
fresh_known regions n seats owners level empty no_lane =
    let none : length level.ends.items ≡ 0 = ap (λ l. length l) no_lane in
    record {
      owner = λ some. absurd (some empty);
      among = λ some. absurd (some empty);
      last = λ k less. absurd (omega arith);
      least = λ k less. absurd (omega arith);
    }

pub opened_crowded : {A : Type 0} (regions : List Region) (n count depth : ℕ) (seats : List Seat) (lanes : List ℕ) (old mid : List (Level A))
    → (depth ≤ length old → mid ≡ take depth old) → (length old < depth → IsLevelAdded count depth old mid) → AreCrowded regions n seats lanes old
    → AreCrowded regions n seats lanes mid
opened_crowded regions n count depth seats lanes old mid kept added crowded = elim (cases_lt (length old) depth) [
  | inl less ↦
      let one = added less in
      subst (λ l. AreCrowded regions n seats lanes l) (sym one.added) (record {
        owners = crowded.owners;
        long = crowded.long;
        owned = crowded.owned;
        groups = crowded.groups;
        known = λ m d low. elim (cases_lt m (length old)) [
          | inl before ↦ subst (λ l. IsLevelKnown regions n seats crowded.owners l) (sym (level_before old one.level d m before)) (crowded.known m d before)
          | inr last ↦
              let pushed = length_push old one.level in
              let here : length old ≡ m = omega arith in
              subst (λ l. IsLevelKnown regions n seats crowded.owners l) (sym (get_or_push old one.level d m here))
              (fresh_known regions n seats crowded.owners one.level one.is_empty one.no_lane)
        ];
      })
  | inr flat ↦ subst (λ l. AreCrowded regions n seats lanes l) (sym (kept flat)) (record {
    owners = crowded.owners;
    long = crowded.long;
    owned = crowded.owned;
    groups = crowded.groups;
    known = λ m d less.
        let short = length-take-le depth old flat in
        let low : m < depth = omega arith in
        subst (λ l. IsLevelKnown regions n seats crowded.owners l) (sym (get_or-take depth old m d low)) (crowded.known m d (omega arith));
  })
]

-- ---- a line gets its seat

last_before : (regions : List Region) (n : ℕ) (seats : List Seat) (seat : Seat) (parent : Option ℕ) (group : ℕ) (ends new : List ℕ) (k j : ℕ)
    → length seats ≡ n → slice_index new k ≡ slice_index ends k → IsLastOfLane regions n seats parent group ends k j
    → IsLastOfLane regions (n + 1) (seats ++ (seat ∷ [])) parent group new k j
last_before regions n seats seat parent group ends new k j count same one =
    let at = seat_before seats seat j (omega (arith, one.before)) in
    record {
      before = omega (arith, one.before);
      seated_in = ap (λ (s : Seat). s.parent) at ∙ one.seated_in;
      group_is = ap (λ (s : Seat). s.group) at ∙ one.group_is;
      lane = ap (λ (s : Seat). s.lane) at ∙ one.lane;
      ends_at = one.ends_at ∙ sym same;
    }

last_own : (regions : List Region) (n : ℕ) (seats : List Seat) (seat : Seat) (parent : Option ℕ) (group : ℕ) (new : List ℕ) (k : ℕ)
    → length seats ≡ n → seat.parent ≡ parent → seat.group ≡ group → seat.lane ≡ k → slice_index new k ≡ last_address_at regions n
    → IsLastOfLane regions (n + 1) (seats ++ (seat ∷ [])) parent group new k n
last_own regions n seats seat parent group new k count seated_in is_group is_lane ends =
    let at = seat_last seats seat n count in
    record {
      before = omega arith;
      seated_in = ap (λ (s : Seat). s.parent) at ∙ seated_in;
      group_is = ap (λ (s : Seat). s.group) at ∙ is_group;
      lane = ap (λ (s : Seat). s.lane) at ∙ is_lane;
      ends_at = sym ends;
    }

-- the last lines of the lanes of the level
new_last : (regions : List Region) (n : ℕ) (seats : List Seat) (seat : Seat) (parent : Option ℕ) (group first : ℕ) (ends new : List ℕ)
    → length seats ≡ n → seat.parent ≡ parent → seat.group ≡ group → IsLaneGiven ends first (last_address_at regions n) seat.lane new
    → HaveLast regions n seats parent group ends → HaveLast regions (n + 1) (seats ++ (seat ∷ [])) parent group new
new_last regions n seats seat parent group first ends new count seated_in is_group (inl fresh) last k less = elim (cases_lt k (length ends)) [
  | inl early ↦
      let one = last k early in (
        one.0,
        last_before regions n seats seat parent group ends new k one.0 count
            (ap (λ l. slice_index l k) fresh.1 ∙ get_or_append_left ends (last_address_at regions n ∷ []) 0 k early) one.1,
      )
  | inr late ↦
      let pushed : length new ≡ length ends + 1 = ap (λ l. length l) fresh.1 ∙ length_push ends (last_address_at regions n) in
      let here : length ends ≡ k = omega arith in (
        n,
        last_own regions n seats seat parent group new k count seated_in is_group (fresh.0 ∙ here)
            (ap (λ l. slice_index l k) fresh.1 ∙ get_or_push ends (last_address_at regions n) 0 k here),
      )
]
new_last regions n seats seat parent group first ends new count seated_in is_group (inr reused) last k less =
    let size : length new ≡ length ends = ap (λ l. length l) reused.2 ∙ length-set ends seat.lane (last_address_at regions n) in
    elim (cases_eq k seat.lane) [
      | inl here ↦
          let at : slice_index new seat.lane ≡ last_address_at regions n =
          ap (λ l. slice_index l seat.lane) reused.2 ∙ get_or-set_same ends seat.lane (last_address_at regions n) 0 reused.0 in (
            n,
            last_own regions n seats seat parent group new k count seated_in is_group (sym here)
                (ap (λ (i : ℕ). slice_index new i) here ∙ at),
          )
      | inr other ↦
          let one = last k (omega arith) in (
            one.0,
            last_before regions n seats seat parent group ends new k one.0 count
                (ap (λ l. slice_index l k) reused.2 ∙ get_or-set_other ends seat.lane k (last_address_at regions n) 0 other) one.1,
          )
    ]

holder_before : (regions : List Region) (n : ℕ) (seats : List Seat) (seat : Seat) (parent : Option ℕ) (address k j : ℕ)
    → length seats ≡ n → IsHolder regions n seats parent address k j → IsHolder regions (n + 1) (seats ++ (seat ∷ [])) parent address k j
holder_before regions n seats seat parent address k j count one =
    let at = seat_before seats seat j (omega (arith, one.before)) in
    record {
      before = omega (arith, one.before);
      seated_in = ap (λ (s : Seat). s.parent) at ∙ one.seated_in;
      lane = ap (λ (s : Seat). s.lane) at ∙ one.lane;
      holds = one.holds;
    }

-- the lines that held an address hold it still
holders_before : (regions : List Region) (n : ℕ) (seats : List Seat) (seat : Seat) (parent : Option ℕ) (count more : ℕ)
    → length seats ≡ n → more ≤ count → AreHolders regions n seats parent count → AreHolders regions (n + 1) (seats ++ (seat ∷ [])) parent more
holders_before regions n seats seat parent count more size few all = record {
  address = all.address;
  lines = λ k less.
      let one = all.lines k (omega arith) in
      (one.0, holder_before regions n seats seat parent all.address k one.0 size one.1);
}

-- lines of one parent begin in their order
abbrev pub RiseTo : List Region → ℕ → List Seat → Option ℕ → Type 0
RiseTo regions n seats parent = (j : ℕ) → j < n → (seat_at seats j).parent ≡ parent → first_address_at regions j ≤ first_address_at regions n

-- the last lines of all lanes hold the first address of a line that needs one more lane
fresh_holders : (regions : List Region) (n : ℕ) (seats : List Seat) (seat : Seat) (parent : Option ℕ) (group more : ℕ) (ends : List ℕ)
    → length seats ≡ n → seat.parent ≡ parent → first_address_at regions n ≤ last_address_at regions n → RiseTo regions n seats parent
    → seat.lane ≡ length ends → NoneEndsBefore (first_address_at regions n) ends → HaveLast regions n seats parent group ends
    → more ≤ seat.lane + 1 → AreHolders regions (n + 1) (seats ++ (seat ∷ [])) parent more
fresh_holders regions n seats seat parent group more ends count seated_in range rises is_lane full last few = record {
  address = first_address_at regions n;
  lines = λ k less. elim (cases_lt k (length ends)) [
    | inl early ↦
        let one = last k early in
        let begins : first_address_at regions one.0 ≤ first_address_at regions n = rises one.0 one.1.before one.1.seated_in in
        let ends_there : last_address_at regions one.0 ≡ slice_index ends k = one.1.ends_at in (
          one.0,
          holder_before regions n seats seat parent (first_address_at regions n) k one.0 count (record {
            before = one.1.before;
            seated_in = one.1.seated_in;
            lane = one.1.lane;
            holds = (begins, omega (arith, full k early));
          }),
        )
    | inr late ↦
        let at = seat_last seats seat n count in
        let here : seat.lane ≡ k = omega arith in (
          n,
          record {
            before = omega arith;
            seated_in = ap (λ (s : Seat). s.parent) at ∙ seated_in;
            lane = ap (λ (s : Seat). s.lane) at ∙ here;
            holds = (omega arith, range);
          },
        )
  ];
}

-- the lines in the lanes of the group of the seat
group_holders : (regions : List Region) (n : ℕ) (seats : List Seat) (seat : Seat) (parent : Option ℕ) (group count more : ℕ) (ends new : List ℕ)
    → length seats ≡ n → seat.parent ≡ parent → first_address_at regions n ≤ last_address_at regions n → RiseTo regions n seats parent
    → (seat.lane ≡ length ends → NoneEndsBefore (first_address_at regions n) ends)
    → IsLaneGiven ends (first_address_at regions n) (last_address_at regions n) seat.lane new → HaveLast regions n seats parent group ends
    → ((j : ℕ) → j < n → (seat_at seats j).group ≡ group → (seat_at seats j).lane < count) → more ≤ max count (seat.lane + 1)
    → AreHolders regions n seats parent count → AreHolders regions (n + 1) (seats ++ (seat ∷ [])) parent more
group_holders regions n seats seat parent group count more ends new size seated_in range rises full (inl fresh) last has few all =
    elim (cases_lt count (seat.lane + 1)) [
      | inl grown ↦
          fresh_holders regions n seats seat parent group more ends size seated_in range rises fresh.0 (full fresh.0) last (omega arith)
      | inr enough ↦ holders_before regions n seats seat parent count more size (omega arith) all
    ]
group_holders regions n seats seat parent group count more ends new size seated_in range rises full (inr reused) last has few all =
    let one = last seat.lane reused.0 in
    let low : (seat_at seats one.0).lane < count = has one.0 one.1.before one.1.group_is in
    let same : (seat_at seats one.0).lane ≡ seat.lane = one.1.lane in
    holders_before regions n seats seat parent count more size (omega arith) all

-- the last lines of the lanes that the seat is given among
between_last : {A : Type 0} (regions : List Region) (n first last : ℕ) (seats : List Seat) (old between : Level A)
    → JoinsGroup last old between ⊎ BeginsGroup first last old between → HaveLast regions n seats old.parent old.group old.ends.items
    → HaveLast regions n seats old.parent between.group between.ends.items
between_last regions n first last seats old between (inl joins) known =
    subst (λ g. HaveLast regions n seats old.parent g between.ends.items) (sym joins.group)
    (subst (λ l. HaveLast regions n seats old.parent old.group l) (sym joins.ends) known)
between_last regions n first last seats old between (inr begins) known = λ k less.
    let none : length between.ends.items ≡ 0 = ap (λ l. length l) begins.ends in
    absurd (omega arith)

-- the parents of the groups, once a level has a group
pub record IsNextFunction {A : Type 0} (owners : List (Option ℕ)) (more : List ℕ) (old new : Level A) (next : List (Option ℕ)) : Type 0 where
  pub long : length next ≡ length more
  pub longer : length owners ≤ length next
  pub same : (g : ℕ) → g < length owners → slice_index_or next g None ≡ slice_index_or owners g None
  pub own : slice_index_or next new.group None ≡ old.parent
  pub among : new.group < length next

next_owners : {A : Type 0} (regions : List Region) (n : ℕ) (seats : List Seat) (owners : List (Option ℕ)) (lanes more : List ℕ) (old new : Level A)
    → length owners ≡ length lanes → IsLevelKnown regions n seats owners old → IsGroupGiven old new lanes more
    → (next : List (Option ℕ)) × IsNextFunction owners more old new next
next_owners regions n seats owners lanes more old new long known (inl stays) =
    let among : old.group < length owners = known.among stays.0 in (
      owners,
      record {
        long = long ∙ sym stays.2;
        longer = omega arith;
        same = λ g less. refl;
        own = ap (λ (g : ℕ). slice_index_or owners g None) stays.1 ∙ known.owner stays.0;
        among = omega (arith, stays.1);
      },
    )
next_owners regions n seats owners lanes more old new long known (inr begins) =
    let pushed = length_push owners old.parent in
    let there : length owners ≡ new.group = long ∙ sym begins.0 in (
      owners ++ (old.parent ∷ []),
      record {
        long = omega (arith, begins.1);
        longer = omega arith;
        same = λ g less. get_or_append_left owners (old.parent ∷ []) None g less;
        own = get_or_push owners old.parent None new.group there;
        among = omega arith;
      },
    )

-- what the loop did with one line
pub record IsSeating {A : Type 0} (regions : List Region) (n t : ℕ) (seats : List Seat) (seat : Seat) (lanes more : List ℕ) (levels : List (Level A)) (old new : Level A)
    (owners next : List (Option ℕ)) : Type 0 where
  pub count : length seats ≡ n
  pub low : t < length levels
  pub seated_in : seat.parent ≡ old.parent
  pub kept : new.parent ≡ old.parent
  pub group : seat.group ≡ new.group
  pub next_is : IsNextFunction owners more old new next
  pub last : HaveLast regions (n + 1) (seats ++ (seat ∷ [])) old.parent new.group new.ends.items
  pub least : NoneEndsBefore new.least new.ends.items
  pub holders : AreHolders regions n seats old.parent (slice_index lanes new.group)
      → AreHolders regions (n + 1) (seats ++ (seat ∷ [])) old.parent (slice_index more new.group)
  pub others : (other : ℕ) → other ≢ new.group → slice_index more other ≤ slice_index lanes other

module _ {A : Type 0} (regions : List Region) (n t : ℕ) (seats : List Seat) (seat : Seat) (lanes more : List ℕ) (levels : List (Level A)) (old new : Level A)
    (next : List (Option ℕ)) (crowded : AreCrowded regions n seats lanes levels) (have : HaveLanes seats lanes)
    (step : IsSeating regions n t seats seat lanes more levels old new crowded.owners next) where
  own_known : IsLevelKnown regions (n + 1) (seats ++ (seat ∷ [])) next new
  own_known = record {
    owner = λ some. step.next_is.own ∙ sym step.kept;
    among = λ some. step.next_is.among;
    last = subst (λ p. HaveLast regions (n + 1) (seats ++ (seat ∷ [])) p new.group new.ends.items) (sym step.kept) step.last;
    least = step.least;
  }

  other_known : (level : Level A) → IsLevelKnown regions n seats crowded.owners level → IsLevelKnown regions (n + 1) (seats ++ (seat ∷ [])) next level
  other_known level known = record {
    owner = λ some. step.next_is.same level.group (known.among some) ∙ known.owner some;
    among = λ some. omega (arith, known.among some, step.next_is.longer);
    last = λ k less.
        let one = known.last k less in
        (one.0, last_before regions n seats seat level.parent level.group level.ends.items level.ends.items k one.0 step.count refl one.1);
    least = known.least;
  }

  owned_before : (i : ℕ) → i < n → slice_index_or next (seat_at seats i).group None ≡ (seat_at seats i).parent
  owned_before i less =
      let has = have i (omega (arith, step.count)) in
      step.next_is.same (seat_at seats i).group (omega (arith, has.0, crowded.long)) ∙ crowded.owned i less

  own_group : AreHolders regions (n + 1) (seats ++ (seat ∷ [])) old.parent (slice_index more new.group)
  own_group = elim (cases_lt new.group (length crowded.owners)) [
    | inl among ↦
        step.holders (subst (λ p. AreHolders regions n seats p (slice_index lanes new.group)) (sym (step.next_is.same new.group among) ∙ step.next_is.own) (crowded.groups new.group))
    | inr past ↦
        step.holders (no_holders regions n seats old.parent (slice_index lanes new.group) (get_or_past lanes new.group 0 (omega (arith, crowded.long))))
  ]

  other_group : (g : ℕ) → g ≢ new.group → AreHolders regions (n + 1) (seats ++ (seat ∷ [])) (slice_index_or next g None) (slice_index more g)
  other_group g differ = elim (cases_lt g (length crowded.owners)) [
    | inl among ↦
        subst (λ p. AreHolders regions (n + 1) (seats ++ (seat ∷ [])) p (slice_index more g)) (sym (step.next_is.same g among))
        (holders_before regions n seats seat (slice_index_or crowded.owners g None) (slice_index lanes g) (slice_index more g) step.count
        (step.others g differ) (crowded.groups g))
    | inr past ↦
        let none : slice_index lanes g ≡ 0 = get_or_past lanes g 0 (omega (arith, crowded.long)) in
        no_holders regions (n + 1) (seats ++ (seat ∷ [])) (slice_index_or next g None) (slice_index more g) (omega (arith, step.others g differ))
  ]

  crowded_more : AreCrowded regions (n + 1) (seats ++ (seat ∷ [])) more (set levels t new)
  crowded_more = record {
    owners = next;
    long = step.next_is.long;
    owned = λ i less. elim (cases_lt i n) [
      | inl before ↦
          subst (λ (s : Seat). slice_index_or next s.group None ≡ s.parent) (sym (seat_before seats seat i (omega (arith, step.count))))
          (owned_before i before)
      | inr here ↦
          let there : length seats ≡ i = omega (arith, step.count) in
          subst (λ (s : Seat). slice_index_or next s.group None ≡ s.parent) (sym (seat_last seats seat i there))
          (ap (λ g. slice_index_or next g None) step.group ∙ step.next_is.own ∙ sym step.seated_in)
    ];
    known = λ m d less.
        let size = length-set levels t new in
        let low : m < length levels = omega arith in
        elim (cases_eq m t) [
          | inl same ↦
              subst (λ (j : ℕ). IsLevelKnown regions (n + 1) (seats ++ (seat ∷ [])) next (slice_index_or (set levels t new) j d)) (sym same)
              (subst (λ l. IsLevelKnown regions (n + 1) (seats ++ (seat ∷ [])) next l) (sym (get_or-set_same levels t new d step.low)) own_known)
          | inr other ↦
              subst (λ l. IsLevelKnown regions (n + 1) (seats ++ (seat ∷ [])) next l) (sym (get_or-set_other levels t m new d other))
              (other_known (slice_index_or levels m d) (crowded.known m d low))
        ];
    groups = λ g. elim (cases_eq g new.group) [
      | inl same ↦
          subst (λ (j : ℕ). AreHolders regions (n + 1) (seats ++ (seat ∷ [])) (slice_index_or next j None) (slice_index more j)) (sym same)
          (subst (λ p. AreHolders regions (n + 1) (seats ++ (seat ∷ [])) p (slice_index more new.group)) (sym step.next_is.own) own_group)
      | inr other ↦ other_group g other
    ];
  }

-- the seat that was added is the one that was given
one_seat : {A : Type 0} (first last : ℕ) (old new : Level A) (seats after : List Seat) (lanes more : List ℕ)
    → (given : IsSeatGiven first last old new seats after) → (added : IsLaneAdded old new seats after lanes more) → added.seat ≡ given.seat
one_seat first last old new seats after lanes more given added =
    sym (seat_last seats added.seat (length seats) refl) ∙ ap (λ l. seat_at l (length seats)) (sym added.added ∙ given.added)
    ∙ seat_last seats given.seat (length seats) refl

-- the line at an index got its seat
pub seated_crowded : {A : Type 0} (regions : List Region) (n t : ℕ) (seats after : List Seat) (lanes more : List ℕ) (levels : List (Level A)) (old new : Level A)
    → SiblingsRise regions → n < length regions → AreDeep regions → IsOpened regions n seats levels → HaveLanes seats lanes
    → t + 1 ≡ length levels → ((d : Level A) → slice_index_or levels t d ≡ old)
    → IsSeatGiven (first_address_at regions n) (last_address_at regions n) old new seats after → IsLaneAdded old new seats after lanes more
    → AreCrowded regions n seats lanes levels → AreCrowded regions (n + 1) after more (set levels t new)
seated_crowded {A = A} regions n t seats after lanes more levels old new rise inside deep reached have at is given added crowded =
    let reach : length levels ≡ depth_at regions n = reached.reach in
    let low_t : t < length levels = omega arith in
    let own : IsParentOfLevel regions n t old.parent =
    subst (λ l. IsParentOfLevel regions n t l.parent) (is old) (reached.levels_parents t old low_t) in
    let seated_in : HasParent regions n old.parent = parent_of_level regions n t old.parent inside deep (omega arith) own in
    let rises : RiseTo regions n seats old.parent =
    λ j less same. rise j n less inside
    (same_parents regions j n old.parent (subst (λ o. HasParent regions j o) same (reached.parents j less)) seated_in) in
    let range : first_address_at regions n ≤ last_address_at regions n = ranges regions n inside in
    let known : IsLevelKnown regions n seats crowded.owners old =
    subst (λ l. IsLevelKnown regions n seats crowded.owners l) (is old) (crowded.known t old low_t) in
    let next = next_owners regions n seats crowded.owners lanes more old new crowded.long known added.is_group in
    let widened : IsWidened given.seat.group given.seat.lane lanes more =
    subst (λ (s : Seat). IsWidened s.group s.lane lanes more) (one_seat (first_address_at regions n) (last_address_at regions n) old new seats after lanes more given added)
    added.is_widened in
    let few : slice_index more new.group ≤ max (slice_index lanes new.group) (given.seat.lane + 1) =
    subst (λ g. slice_index more g ≤ max (slice_index lanes g) (given.seat.lane + 1)) given.group widened.few in
    let others : (other : ℕ) → other ≢ new.group → slice_index more other ≤ slice_index lanes other =
    subst (λ g. (other : ℕ) → other ≢ g → slice_index more other ≤ slice_index lanes other) given.group widened.others in
    let last : HaveLast regions n seats old.parent new.group given.between.ends.items =
    subst (λ g. HaveLast regions n seats old.parent g given.between.ends.items) (sym given.is_same.group)
    (between_last regions n (first_address_at regions n) (last_address_at regions n) seats old given.between given.is_group known.last) in
    let has : (j : ℕ) → j < n → (seat_at seats j).group ≡ new.group → (seat_at seats j).lane < slice_index lanes new.group =
    λ j less same. subst (λ g. (seat_at seats j).lane < slice_index lanes g) same (have j (omega (arith, reached.count))).1 in
    subst (λ s. AreCrowded regions (n + 1) s more (set levels t new)) (sym given.added)
    (crowded_more regions n t seats given.seat lanes more levels old new next.0 crowded have (record {
      count = reached.count;
      low = low_t;
      seated_in = given.parent;
      kept = given.kept;
      group = given.group;
      next_is = next.1;
      last = new_last regions n seats given.seat old.parent new.group (first_address_at regions n) given.between.ends.items new.ends.items reached.count
          given.parent given.group given.is_lane last;
      least = given.is_least range known.least;
      holders = group_holders regions n seats given.seat old.parent new.group (slice_index lanes new.group) (slice_index more new.group)
          given.between.ends.items new.ends.items reached.count given.parent range rises (given.is_full known.least) given.is_lane last has few;
      others = others;
    }))

-- ---- behind the last line

pub all_together : {A : Type 0} (regions : List Region) (n : ℕ) (seats : List Seat) (lanes : List ℕ) (levels : List (Level A)) → length regions ≡ n
    → HaveParents regions seats → AreCrowded regions n seats lanes levels → HoldLanesTogether regions seats lanes
all_together regions n seats lanes levels all parents crowded i inside =
    let holders = crowded.groups (seat_at seats i).group in
    let owner : slice_index_or crowded.owners (seat_at seats i).group None ≡ (seat_at seats i).parent = crowded.owned i (omega (arith, all)) in
    record {
      address = holders.address;
      number = λ j. (seat_at seats j).lane;
      lines = λ k less.
          let one = holders.lines k less in
          let there : one.0 < length regions = omega (arith, one.1.before, all) in (
            one.0,
            there,
            same_parents regions i one.0 (seat_at seats i).parent (parents i inside)
                (subst (λ o. HasParent regions one.0 o) (one.1.seated_in ∙ owner) (parents one.0 there)),
            one.1.holds,
            one.1.lane,
          );
    }
