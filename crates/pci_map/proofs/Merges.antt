-- The lines of a place are just its regions and its free runs, in order.
use Rattle.std.proofs.Common.{◌≡◌, ℕ, suc, ◌<◌, ◌≤◌, List, get_or, length, [], ◌∷◌, ◌++◌, map, take, drop, refl, sym, ap, ◌∙◌, subst, inl, inr, ◌⊎◌, arith, if◌then◌else◌}
use Rattle.std.specs.Prelude.{nat_le}
use Rattle.std.specs.List.{AllPairs, Contains}
use Rattle.std.proofs.lemmas.Bool.{cases_Bool, leb-true, leb-false, cases_lt}
use Rattle.std.proofs.lemmas.List.{map-append, take-append-drop, get_or-map, length-map}
use Rattle.std.proofs.lemmas.List.Elements.{Contains-get_or, All-contains, Contains-append_cases}
use Rattle.pci_spec.specs.System.{System, Space}
use Rattle.pci_spec.specs.Decoded as decoded
use Rattle.pci_spec.specs.Why.{IsRun, AreRuns}
use Rattle.pci_spec.proofs.Members.{IsMade, in_nil, in_cons_cases, in_head, in_tail, in_map_to, in_map_from, pairs_nil, pairs_cons, pairs_head, pairs_tail, pairs_append, pairs_map}
use Rattle.judge_spec.specs.Given.{Given}
use Rattle.judge_spec.specs.ToldClaims.{Told}
use Rattle.judge_spec.specs.Regions.{MapRegion, space_of, IsIn}
use Rattle.judge_spec.specs.Lines as spec
use Rattle.judge_spec.specs.Lines.{Lines, End, Free, Sits, MapPlace, Mark, region_mark, run_mark, marks, regions_at, runs_at, StandsInPlace, IsOutOfPlace, IsFreeInPlace, AreLinesAt}
use Rattle.pci_base.specs.declared.range.Range.{Range}
use Rattle.pci_base.specs.Ranges.{decoded_range_of}
use Rattle.pci_map.specs.declared.seat.Seat.{Seat}
use Rattle.pci_map.specs.Seats.{seat_value, seat_first, SeatIsBefore, IsAmongSeats}
use Rattle.pci_map.proofs.Values.{first_of}
use Rattle.pci_map.specs.Walk.{ahead, Entry, Run, At, entries, run_entries, merged}

-- ---- what entries tell

abbrev seats : List Entry → List MapRegion
seats [] = []
seats (Run r ∷ es) = seats es
seats (At q ∷ es) = q ∷ seats es

abbrev runs : List Entry → List decoded.Range
runs [] = []
runs (Run r ∷ es) = r ∷ runs es
runs (At q ∷ es) = runs es

abbrev mark : Entry → Mark
mark (Run r) = run_mark r
mark (At q) = region_mark q

seats_of : (ls : Lines) → regions_at ls ≡ seats (entries ls)
seats_of End = refl
seats_of (Free r rest) = seats_of rest
seats_of (Sits q inside rest) = ap (λ qs. q ∷ qs) (seats_of rest)

runs_of : (ls : Lines) → runs_at ls ≡ runs (entries ls)
runs_of End = refl
runs_of (Free r rest) = ap (λ rs. r ∷ rs) (runs_of rest)
runs_of (Sits q inside rest) = runs_of rest

marks_of : (ls : Lines) → marks ls ≡ map mark (entries ls)
marks_of End = refl
marks_of (Free r rest) = ap (λ ms. run_mark r ∷ ms) (marks_of rest)
marks_of (Sits q inside rest) = ap (λ ms. region_mark q ∷ ms) (marks_of rest)

seats_past : (rs : List decoded.Range) (es : List Entry) → seats (map Run rs ++ es) ≡ seats es
seats_past [] es = refl
seats_past (r ∷ rs) es = seats_past rs es

runs_past : (rs : List decoded.Range) (es : List Entry) → runs (map Run rs ++ es) ≡ rs ++ runs es
runs_past [] es = refl
runs_past (r ∷ rs) es = ap (λ ts. r ∷ ts) (runs_past rs es)

seats_none : (rs : List decoded.Range) → seats (map Run rs) ≡ []
seats_none [] = refl
seats_none (r ∷ rs) = seats_none rs

runs_all : (rs : List decoded.Range) → runs (map Run rs) ≡ rs
runs_all [] = refl
runs_all (r ∷ rs) = ap (λ ts. r ∷ ts) (runs_all rs)

joined_parts : (n : ℕ) (rs : List Range) → map decoded_range_of (take n rs) ++ map decoded_range_of (drop n rs) ≡ map decoded_range_of rs
joined_parts n rs = sym (map-append decoded_range_of (take n rs) (drop n rs)) ∙ ap (map decoded_range_of) (take-append-drop n rs)

module _ (space : Space) where
  merged_seats : (qs : List Seat) (rs : List Range) → seats (merged space qs rs) ≡ map (seat_value space) qs
  unfolding merged
  merged_seats [] rs = seats_none (map decoded_range_of rs)
  merged_seats (q ∷ qs) rs =
      seats_past (map decoded_range_of (take (ahead (seat_first q) rs) rs)) (At (seat_value space q) ∷ merged space qs (drop (ahead (seat_first q) rs) rs))
      ∙ ap (λ vs. seat_value space q ∷ vs) (merged_seats qs (drop (ahead (seat_first q) rs) rs))

  merged_runs : (qs : List Seat) (rs : List Range) → runs (merged space qs rs) ≡ map decoded_range_of rs
  unfolding merged
  merged_runs [] rs = runs_all (map decoded_range_of rs)
  merged_runs (q ∷ qs) rs =
      runs_past (map decoded_range_of (take (ahead (seat_first q) rs) rs)) (At (seat_value space q) ∷ merged space qs (drop (ahead (seat_first q) rs) rs))
      ∙ ap (λ ts. map decoded_range_of (take (ahead (seat_first q) rs) rs) ++ ts) (merged_runs qs (drop (ahead (seat_first q) rs) rs))
      ∙ joined_parts (ahead (seat_first q) rs) rs

-- ---- what is in parts

abbrev Rises : List Range → Type 0
Rises rs = AllPairs (λ (r t : Range). r.first < t.first) rs

-- the runs before an address and those from it on, of some that rise
record IsSplit (end : ℕ) (rs before behind : List Range) : Type 0 where
  pub before_in : (r : Range) → Contains before r → Contains rs r × (r.first < end)
  pub behind_in : (r : Range) → Contains behind r → Contains rs r × (end ≤ r.first)
  pub before_rises : Rises before
  pub behind_rises : Rises behind

split : (end : ℕ) (rs : List Range) → Rises rs → IsSplit end rs (take (ahead end rs) rs) (drop (ahead end rs) rs)
unfolding ahead
split end [] up = record {
  before_in = λ r has. absurd (in_nil r has);
  behind_in = λ r has. absurd (in_nil r has);
  before_rises = up;
  behind_rises = up;
}
split end (r ∷ rs) up = elim (cases_Bool (nat_le end r.first)) [
  | inl past ↦ (
      let low = leb-true end r.first past in
      subst (λ b. IsSplit end (r ∷ rs) (take (if b then 0 else suc (ahead end rs)) (r ∷ rs)) (drop (if b then 0 else suc (ahead end rs)) (r ∷ rs))) (sym past) record {
        before_in = λ t has. absurd (in_nil t has);
        behind_in = λ t has. (
          has,
          elim (in_cons_cases r rs t has) [
            | inl here ↦ subst (λ (x : Range). end ≤ x.first) here low
            | inr later ↦ (let more = pairs_head (λ (x y : Range). x.first < y.first) r rs t up later in omega (arith, low, more))
          ],
        );
        before_rises = pairs_nil (λ (x y : Range). x.first < y.first);
        behind_rises = up;
      })
  | inr early ↦ (
      let rest = split end rs (pairs_tail (λ (x y : Range). x.first < y.first) r rs up) in
      let not_past = leb-false end r.first early in
      let low : r.first < end = omega (arith, not_past) in
      subst (λ b. IsSplit end (r ∷ rs) (take (if b then 0 else suc (ahead end rs)) (r ∷ rs)) (drop (if b then 0 else suc (ahead end rs)) (r ∷ rs))) (sym early) record {
        before_in = λ t has. elim (in_cons_cases r (take (ahead end rs) rs) t has) [
          | inl here ↦ (subst (λ x. Contains (r ∷ rs) x) here (in_head r rs), subst (λ (x : Range). x.first < end) here low)
          | inr later ↦ (let at = rest.before_in t later in (in_tail r rs t at.0, at.1))
        ];
        behind_in = λ t has. (let at = rest.behind_in t has in (in_tail r rs t at.0, at.1));
        before_rises = pairs_cons (λ (x y : Range). x.first < y.first) r (take (ahead end rs) rs)
            (λ t has. pairs_head (λ (x y : Range). x.first < y.first) r rs t up (rest.before_in t has).0) rest.before_rises;
        behind_rises = rest.behind_rises;
      })
]

-- ---- order

abbrev Before : Entry → Entry → Type 0
Before e f = spec.MarkIsBefore (mark e) (mark f)

runs_rise : (rs : List Range) → Rises rs → AllPairs Before (run_entries rs)
runs_rise rs up =
    pairs_map Before Run (map decoded_range_of rs) (pairs_map (λ x y. Before (Run x) (Run y)) decoded_range_of rs (λ i j d lt within. inl (up i j d lt within)))

in_runs : (rs : List Range) (e : Entry) → Contains (run_entries rs) e → IsMade (λ r. Run (decoded_range_of r)) rs e
in_runs rs e has =
    let outer = in_map_to Run (map decoded_range_of rs) e has in
    let inner = in_map_to decoded_range_of rs outer.from outer.has in
    record { from = inner.from; has = inner.has; is = ap Run inner.is ∙ outer.is }

less : (a b : ℕ) → a ≤ b → (a ≡ b → ⊥) → a < b
less a b low other = elim (cases_lt a b) [
  | inl lt ↦ lt
  | inr ge ↦ absurd (other (omega (arith, low, ge)))
]

first_after : (n : ℕ) (m k : Mark) → n < m.first → spec.MarkIsBefore m k → n < k.first
first_after n m k low before = elim before [
  | inl less ↦ omega (arith, low, less)
  | inr same ↦ (let e = same.0 in omega (arith, low, e))
]

module _ (space : Space) where
  in_merged : (qs : List Seat) (rs : List Range) (e : Entry) → Rises rs → Contains (merged space qs rs) e
      → IsMade (λ q. At (seat_value space q)) qs e ⊎ IsMade (λ r. Run (decoded_range_of r)) rs e
  unfolding merged
  in_merged [] rs e up has = inr (in_runs rs e has)
  in_merged (q ∷ qs) rs e up has =
      let parts = split (seat_first q) rs up in
      let before = take (ahead (seat_first q) rs) rs in
      let behind = drop (ahead (seat_first q) rs) rs in
      elim (Contains-append_cases (run_entries before) (At (seat_value space q) ∷ merged space qs behind) e has) [
        | inl early ↦ (let made = in_runs before e early in inr (record { from = made.from; has = (parts.before_in made.from made.has).0; is = made.is }))
        | inr late ↦ elim (in_cons_cases (At (seat_value space q)) (merged space qs behind) e late) [
          | inl here ↦ inl (record { from = q; has = in_head q qs; is = here })
          | inr later ↦ elim (in_merged qs behind e parts.behind_rises later) [
            | inl made ↦ inl (record { from = made.from; has = in_tail q qs made.from made.has; is = made.is })
            | inr made ↦ inr (record { from = made.from; has = (parts.behind_in made.from made.has).0; is = made.is })
          ]
        ]
      ]

  pub merged_rises : (qs : List Seat) (rs : List Range) → AllPairs (SeatIsBefore space) qs → Rises rs
      → ((q : Seat) (r : Range) → Contains qs q → Contains rs r → seat_first q ≡ r.first → ⊥) → AllPairs Before (merged space qs rs)
  unfolding merged
  merged_rises [] rs sorted up apart = runs_rise rs up
  merged_rises (q ∷ qs) rs sorted up apart =
      let parts = split (seat_first q) rs up in
      let before = take (ahead (seat_first q) rs) rs in
      let behind = drop (ahead (seat_first q) rs) rs in
      let rest = merged_rises qs behind (pairs_tail (SeatIsBefore space) q qs sorted) parts.behind_rises
      (λ p r in_qs in_rs. apart p r (in_tail q qs p in_qs) (parts.behind_in r in_rs).0) in
      let above : (y : Entry) → Contains (merged space qs behind) y → Before (At (seat_value space q)) y = λ y has. elim (in_merged qs behind y parts.behind_rises has) [
        | inl made ↦ subst (λ e. Before (At (seat_value space q)) e) made.is (pairs_head (SeatIsBefore space) q qs made.from sorted made.has)
        | inr made ↦ (
            let at = parts.behind_in made.from made.has in
            let low = at.1 in
            let other : seat_first q ≡ made.from.first → ⊥ = apart q made.from (in_head q qs) at.0 in
            subst (λ e. Before (At (seat_value space q)) e) made.is (inl (subst (λ n. n < made.from.first) (sym (first_of space q)) (less (seat_first q) made.from.first low other))))
      ] in
      pairs_append Before (run_entries before) (At (seat_value space q) ∷ merged space qs behind) (runs_rise before parts.before_rises)
      (pairs_cons Before (At (seat_value space q)) (merged space qs behind) above rest)
      (λ x y in_before in_rest. (
      let made = in_runs before x in_before in
      let low = (parts.before_in made.from made.has).1 in
      subst (λ e. Before e y) made.is (elim (in_cons_cases (At (seat_value space q)) (merged space qs behind) y in_rest) [
        | inl here ↦ subst (λ e. Before (Run (decoded_range_of made.from)) e) here (inl (subst (λ n. made.from.first < n) (sym (first_of space q)) low))
        | inr later ↦ inl (first_after made.from.first (region_mark (seat_value space q)) (mark y) (subst (λ n. made.from.first < n) (sym (first_of space q)) low) (above y later))
      ])))

module _ (P : ℕ → Type 0) (rs : List Range) (free : AreRuns P (map decoded_range_of rs)) where
  run_in : (r : Range) → Contains rs r → IsRun P (decoded_range_of r)
  run_in r has = All-contains (IsRun P) (map decoded_range_of rs) (decoded_range_of r) free.each (in_map_from decoded_range_of rs r has)

  pub first_free : (r : Range) → Contains rs r → P r.first
  first_free r has = (let run = run_in r has in run.each r.first (omega arith, run.some))

  pub first_rises : Rises rs
  first_rises = λ i j d lt within. (
      let one : IsRun P (decoded_range_of (get_or rs i d)) = run_in (get_or rs i d) (Contains-get_or rs i d (omega (arith, lt, within))) in
      let some = one.some in
      let long : length (map decoded_range_of rs) ≡ length rs = length-map rs decoded_range_of in
      let past : (decoded_range_of (get_or rs i d)).last < (decoded_range_of (get_or rs j d)).first =
      subst (λ (r : decoded.Range). r.last < (decoded_range_of (get_or rs j d)).first) (get_or-map decoded_range_of rs i d (decoded_range_of d) (omega (arith, lt, within)))
      (subst (λ (r : decoded.Range). (get_or (map decoded_range_of rs) i (decoded_range_of d)).last < r.first) (get_or-map decoded_range_of rs j d (decoded_range_of d) within)
      (free.rising i j (decoded_range_of d) lt (omega (arith, within, long)))) in
      omega (arith, some, past))

pub lines_are : (told : Told) (given : Given) (roots : List ℕ) (s : System) (space : Space) (place : MapPlace) (lines : Lines) (qs : List Seat) (rs : List Range) → entries lines ≡ merged space qs rs
    → ((q : Seat) → Contains qs q → IsIn told s (seat_value space q)) → ((q : Seat) → Contains qs q → space_of (seat_value space q) ≡ space) → ((q : Seat) → Contains qs q → StandsInPlace given s place (seat_value space q))
    → ((q : Seat) → Contains qs q → IsOutOfPlace told given roots s (seat_value space q) → ⊥)
    → ((v : MapRegion) → IsIn told s v → space_of v ≡ space → StandsInPlace given s place v → (IsOutOfPlace told given roots s v → ⊥) → IsAmongSeats space qs v)
    → AreRuns (IsFreeInPlace told given s space place) (map decoded_range_of rs) → AllPairs (SeatIsBefore space) qs
    → ((q : Seat) (a : ℕ) → Contains qs q → a ≡ seat_first q → IsFreeInPlace told given s space place a → ⊥) → AreLinesAt told given roots s space place lines
lines_are told given roots s space place lines qs rs is each of stand within complete free sorted apart =
    let here : regions_at lines ≡ map (seat_value space) qs = seats_of lines ∙ ap seats is ∙ merged_seats space qs rs in
    let runs_here : runs_at lines ≡ map decoded_range_of rs = runs_of lines ∙ ap runs is ∙ merged_runs space qs rs in
    let from : (v : MapRegion) → Contains (regions_at lines) v → IsMade (seat_value space) qs v =
    λ v has. in_map_to (seat_value space) qs v (subst (λ vs. Contains vs v) here has) in
    record {
      regions = λ v has. (let made = from v has in subst (IsIn told s) made.is (each made.from made.has));
      of_space = λ v has. (let made = from v has in subst (λ x. space_of x ≡ space) made.is (of made.from made.has));
      stand = λ v has. (let made = from v has in subst (StandsInPlace given s place) made.is (stand made.from made.has));
      within = λ v has. (let made = from v has in subst (λ (x : MapRegion). IsOutOfPlace told given roots s x → ⊥) made.is (within made.from made.has));
      complete = λ v is_in same at in_place. (
          let found = complete v is_in same at in_place in
          subst (λ vs. Contains vs v) (sym here) (subst (Contains (map (seat_value space) qs)) found.is (in_map_from (seat_value space) qs found.q found.has)));
      free = subst (AreRuns (IsFreeInPlace told given s space place)) (sym runs_here) free;
      rising = subst (AllPairs spec.MarkIsBefore) (sym (marks_of lines ∙ ap (map mark) is))
          (pairs_map spec.MarkIsBefore mark (merged space qs rs) (merged_rises space qs rs sorted (first_rises (IsFreeInPlace told given s space place) rs free) (λ q r in_qs in_rs same.
          apart q r.first in_qs (sym same) (first_free (IsFreeInPlace told given s space place) rs free r in_rs))));
    }
