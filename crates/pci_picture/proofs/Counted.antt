-- Each seat has a lane of its group.
use Rattle.std.proofs.Common.{arith, ◌≡◌, ◌<◌, ◌≤◌, ◌+◌, ℕ, List, [], Option, None, Some, length, take, set, sym, ap, subst, inl, inr, length-set, get_or-set_same, get_or-set_other, get_or-take}
use Rattle.std.proofs.lemmas.Bool.{cases_lt, cases_eq}
use Rattle.std.proofs.lemmas.List.{get_or_push, length_push, length-take-le}
use Rattle.std.specs.List.{slice_index_or}
use Rattle.pci_picture.specs.declared.lanes.Level.{Level}
use Rattle.pci_picture.specs.declared.lanes.Seat.{Seat}
use Rattle.pci_picture.specs.Seats.{HasLane, HaveLanes, IsGroupAmong, IsLaneAdded, IsLevelAdded, KeepLanes, seat_at}
use Rattle.pci_picture.proofs.Seated.{level_before, seat_before, seat_last}

abbrev pub AreGroupsAmong : {A : Type 0} → List ℕ → List (Level A) → Type 0
AreGroupsAmong {A = A} lanes levels = (m : ℕ) (d : Level A) → m < length levels
    → IsGroupAmong (slice_index_or levels m d).until (slice_index_or levels m d).group (length lanes)

-- the seats have their lanes, and the levels their groups
pub record AreCounted {A : Type 0} (seats : List Seat) (lanes : List ℕ) (levels : List (Level A)) : Type 0 where
  pub have : HaveLanes seats lanes
  pub among : AreGroupsAmong lanes levels

pub none_counted : {A : Type 0} (seats : List Seat) (lanes : List ℕ) (levels : List (Level A)) → seats ≡ [] → levels ≡ [] → AreCounted seats lanes levels
none_counted seats lanes levels no_seat no_level =
    let none : length seats ≡ 0 = ap (λ l. length l) no_seat in
    let also : length levels ≡ 0 = ap (λ l. length l) no_level in
    record {
      have = λ k less. absurd (omega arith);
      among = λ m d less. absurd (omega arith);
    }

among_any : (until : Option ℕ) (group count : ℕ) → group < count → IsGroupAmong until group count
among_any None group count less = tt
among_any (Some until) group count less = less

among_more : (until : Option ℕ) (group count more : ℕ) → count ≤ more → IsGroupAmong until group count → IsGroupAmong until group more
among_more None group count more le is = tt
among_more (Some until) group count more le is = omega arith

has_still : (lanes more : List ℕ) (group lane : ℕ) → KeepLanes lanes more → HasLane lanes group lane → HasLane more group lane
has_still lanes more group lane kept has = (omega (arith, kept.longer, has.0), omega (arith, kept.grown group, has.1))

-- after levels were opened
pub opened_counted : {A : Type 0} (count depth : ℕ) (seats : List Seat) (lanes : List ℕ) (old mid : List (Level A))
    → (depth ≤ length old → mid ≡ take depth old) → (length old < depth → IsLevelAdded count depth old mid) → AreCounted seats lanes old
    → AreCounted seats lanes mid
opened_counted count depth seats lanes old mid kept added counted = elim (cases_lt (length old) depth) [
  | inl less ↦
      let one = added less in
      subst (λ l. AreCounted seats lanes l) (sym one.added) (record {
        have = counted.have;
        among = λ m d low. elim (cases_lt m (length old)) [
          | inl before ↦ subst (λ l. IsGroupAmong l.until l.group (length lanes)) (sym (level_before old one.level d m before)) (counted.among m d before)
          | inr last ↦
              let pushed = length_push old one.level in
              let here : length old ≡ m = omega arith in
              subst (λ l. IsGroupAmong l.until l.group (length lanes)) (sym (get_or_push old one.level d m here))
              (subst (λ o. IsGroupAmong o one.level.group (length lanes)) (sym one.is_empty) tt)
        ];
      })
  | inr flat ↦ subst (λ l. AreCounted seats lanes l) (sym (kept flat)) (record {
    have = counted.have;
    among = λ m d less.
        let short = length-take-le depth old flat in
        let low : m < depth = omega arith in
        subst (λ l. IsGroupAmong l.until l.group (length lanes)) (sym (get_or-take depth old m d low)) (counted.among m d (omega arith));
  })
]

-- after a seat was added
pub added_counted : {A : Type 0} (t : ℕ) (seats after : List Seat) (lanes more : List ℕ) (mid levels : List (Level A)) (level new : Level A)
    → t + 1 ≡ length mid → ((d : Level A) → level ≡ slice_index_or mid t d) → levels ≡ set mid t new
    → IsLaneAdded level new seats after lanes more → AreCounted seats lanes mid → AreCounted after more levels
added_counted t seats after lanes more mid levels level new at level_is levels_are one counted =
    let low_t : t < length mid = omega arith in
    let group : IsGroupAmong level.until level.group (length lanes) =
    subst (λ l. IsGroupAmong l.until l.group (length lanes)) (sym (level_is level)) (counted.among t level low_t) in
    let has : HasLane more one.seat.group one.seat.lane = one.has group in
    let inside : new.group < length more = subst (λ n. n < length more) one.group has.0 in
    subst (λ l. AreCounted after more l) (sym levels_are) (record {
      have = subst (λ s. HaveLanes s more) (sym one.added) (λ k less. elim (cases_lt k (length seats)) [
        | inl before ↦ subst (λ s. HasLane more s.group s.lane) (sym (seat_before seats one.seat k before))
            (has_still lanes more (seat_at seats k).group (seat_at seats k).lane one.kept (counted.have k before))
        | inr last ↦
            let pushed = length_push seats one.seat in
            let here : length seats ≡ k = omega arith in
            subst (λ s. HasLane more s.group s.lane) (sym (seat_last seats one.seat k here)) has
      ]);
      among = λ m d less.
          let size = length-set mid t new in
          let low : m < length mid = omega arith in
          elim (cases_eq m t) [
            | inl same ↦
                subst (λ (j : ℕ). IsGroupAmong (slice_index_or (set mid t new) j d).until (slice_index_or (set mid t new) j d).group (length more)) (sym same)
                (subst (λ l. IsGroupAmong l.until l.group (length more)) (sym (get_or-set_same mid t new d low_t))
                (among_any new.until new.group (length more) inside))
            | inr other ↦
                subst (λ l. IsGroupAmong l.until l.group (length more)) (sym (get_or-set_other mid t m new d other))
                (among_more (slice_index_or mid m d).until (slice_index_or mid m d).group (length lanes) (length more) one.kept.longer (counted.among m d low))
          ];
    })
