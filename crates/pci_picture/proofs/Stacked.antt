-- Runs that stand one behind the other rise with their addresses.
use Rattle.std.proofs.Common.{arith, ◌≡◌, ◌⊎◌, ◌<◌, ◌≤◌, ◌+◌, ◌*◌, max, ℕ, zero, suc, Bool, true, false, nat_lt, ltb, if◌then◌else◌, List, [], ◌∷◌, ◌++◌, length, refl, ap, sym, subst, ◌∙◌, inl, inr}
use Rattle.std.proofs.lemmas.Bool.{cases_lt, ltb-true, ltb-false}
use Rattle.std.proofs.lemmas.Bool.Decides.{nat_tests}
use Rattle.std.proofs.lemmas.List.{get_or_default}
use Rattle.std.specs.List.{slice_index_or}
use Rattle.std.specs.List.Sorted.{IsNonDecreasingBy, IsPartitionPoint}
use Rattle.pci_picture.specs.declared.heights.Cut.{Cut}
use Rattle.pci_picture.specs.declared.heights.Run.{Run}
use Rattle.pci_picture.specs.Stacked.{height_at, CutsRise, IsRunAt, IsRunAdded}

-- runs one behind the other, from an address and a height on, up to the end of the last one
abbrev pub AreStacked : ℕ → ℕ → List Run → ℕ → ℕ → Type 0
AreStacked address height [] end bottom = (address ≡ end) × (height ≡ bottom)
AreStacked address height (run ∷ runs) end bottom =
    IsRunAt address height run × AreStacked run.end (height + run.height) runs end bottom

-- a run begins at an address
abbrev pub Begins : List Run → ℕ → Type 0
Begins [] address = ⊥
Begins (run ∷ runs) address = (run.begin ≡ address) ⊎ Begins runs address

-- what is known of the cuts before an index
pub record IsUpTo (cuts : List Cut) (index from top begin bottom : ℕ) (runs : List Run) : Type 0 where
  pub stacked : AreStacked from top runs begin bottom
  pub is_low : bottom ≤ top + 142 * index
  pub ahead : (k : ℕ) (d : Cut) → index ≤ k → k < length cuts → begin ≤ (slice_index_or cuts k d).at
  pub placed : (k : ℕ) (d : Cut) → k < index → Begins runs (slice_index_or cuts k d).at ⊎ ((slice_index_or cuts k d).at ≡ begin)

pub passed : (a b x y : ℕ) → a < b → (if nat_lt a b then x else y) ≡ x
passed a b x y less = grind (arith, nat_tests)

pub met : (a b x y : ℕ) → b ≤ a → (if nat_lt a b then x else y) ≡ y
met a b x y less = grind (arith, nat_tests)

either : (P : ℕ → Type 0) (b : Bool) (x y : ℕ) → P x → P y → P (if b then x else y)
either P true x y p q = p
either P false x y p q = q

-- a run behind the last one
stacked_more : (from top end bottom : ℕ) (runs : List Run) (run : Run) → AreStacked from top runs end bottom → IsRunAt end bottom run
    → AreStacked from top (runs ++ (run ∷ [])) run.end (bottom + run.height)
stacked_more from top end bottom [] run both is = (
  subst (λ (a : ℕ). IsRunAt a top run) (sym both.0) (subst (λ (h : ℕ). IsRunAt end h run) (sym both.1) is),
  (refl, ap (λ (h : ℕ). h + run.height) both.1),
)
stacked_more from top end bottom (first ∷ runs) run both is =
    (both.0, stacked_more first.end (top + first.height) end bottom runs run both.1 is)

-- no address stands above the first run
lowest : (from top end bottom : ℕ) (runs : List Run) (address : ℕ) → AreStacked from top runs end bottom → top ≤ height_at runs bottom address
lowest from top end bottom [] address both = let e : top ≡ bottom = both.1 in omega arith
lowest from top end bottom (run ∷ runs) address both =
    let behind : top + run.height ≤ height_at runs bottom address = lowest run.end (top + run.height) end bottom runs address both.1 in
    let at : run.y ≡ top = (both.0).stands in
    either (λ (h : ℕ). top ≤ h) (nat_lt run.begin address) (height_at runs bottom address) run.y (omega arith) (omega arith)

-- they begin before they end
runs_on : (from top end bottom : ℕ) (runs : List Run) → AreStacked from top runs end bottom → from ≤ end
runs_on from top end bottom [] both = let e : from ≡ end = both.0 in omega arith
runs_on from top end bottom (run ∷ runs) both =
    let behind : run.end ≤ end = runs_on run.end (top + run.height) end bottom runs both.1 in
    let less : from < run.end = (both.0).reaches in
    omega arith

-- the end of the last run stands at the bottom
pub last_height : (from top end bottom : ℕ) (runs : List Run) → AreStacked from top runs end bottom → height_at runs bottom end ≡ bottom
last_height from top end bottom [] both = refl
last_height from top end bottom (run ∷ runs) both =
    let begins : run.begin ≡ from = (both.0).begins in
    let reaches : from < run.end = (both.0).reaches in
    let on : run.end ≤ end = runs_on run.end (top + run.height) end bottom runs both.1 in
    passed run.begin end (height_at runs bottom end) run.y (omega (arith, begins, reaches, on)) ∙ last_height run.end (top + run.height) end bottom runs both.1

-- none begins before the first one, or at the end
pub begins_behind : (from top end bottom address : ℕ) (runs : List Run) → AreStacked from top runs end bottom → Begins runs address → from ≤ address
begins_behind from top end bottom address [] both begins = absurd begins
begins_behind from top end bottom address (run ∷ runs) both (inl at) =
    let first : run.begin ≡ from = (both.0).begins in omega arith
begins_behind from top end bottom address (run ∷ runs) both (inr there) =
    let behind : run.end ≤ address = begins_behind run.end (top + run.height) end bottom address runs both.1 there in
    let less : from < run.end = (both.0).reaches in
    omega arith

pub begins_before : (from top end bottom address : ℕ) (runs : List Run) → AreStacked from top runs end bottom → Begins runs address → address < end
begins_before from top end bottom address [] both begins = absurd begins
begins_before from top end bottom address (run ∷ runs) both (inl at) =
    let behind : run.end ≤ end = runs_on run.end (top + run.height) end bottom runs both.1 in
    let first : run.begin ≡ from = (both.0).begins in
    let less : from < run.end = (both.0).reaches in
    omega arith
begins_before from top end bottom address (run ∷ runs) both (inr there) =
    begins_before run.end (top + run.height) end bottom address runs both.1 there

-- what begins at an address stands above all that has a greater address
rise : (from top end bottom low high : ℕ) (runs : List Run) → AreStacked from top runs end bottom → Begins runs low → low < high
    → height_at runs bottom low < height_at runs bottom high
rise from top end bottom low high [] both begins less = absurd begins
rise from top end bottom low high (run ∷ runs) both (inl at) less =
    let here : height_at (run ∷ runs) bottom low ≡ run.y = met run.begin low (height_at runs bottom low) run.y (omega arith) in
    let there : height_at (run ∷ runs) bottom high ≡ height_at runs bottom high = passed run.begin high (height_at runs bottom high) run.y (omega arith) in
    let behind : top + run.height ≤ height_at runs bottom high = lowest run.end (top + run.height) end bottom runs high both.1 in
    let stands : run.y ≡ top = (both.0).stands in
    let tall : 0 < run.height = (both.0).is_high in
    omega (arith, here, there)
rise from top end bottom low high (run ∷ runs) both (inr begins) less =
    let after : run.end ≤ low = begins_behind run.end (top + run.height) end bottom low runs both.1 begins in
    let first : run.begin ≡ from = (both.0).begins in
    let reaches : from < run.end = (both.0).reaches in
    let here : height_at (run ∷ runs) bottom low ≡ height_at runs bottom low = passed run.begin low (height_at runs bottom low) run.y (omega arith) in
    let there : height_at (run ∷ runs) bottom high ≡ height_at runs bottom high = passed run.begin high (height_at runs bottom high) run.y (omega arith) in
    let inner : height_at runs bottom low < height_at runs bottom high = rise run.end (top + run.height) end bottom low high runs both.1 begins less in
    omega (arith, here, there)

begins_more : (runs more : List Run) (address : ℕ) → Begins runs address → Begins (runs ++ more) address
begins_more [] more address begins = absurd begins
begins_more (run ∷ runs) more address (inl at) = inl at
begins_more (run ∷ runs) more address (inr there) = inr (begins_more runs more address there)

begins_last : (runs : List Run) (run : Run) (address : ℕ) → run.begin ≡ address → Begins (runs ++ (run ∷ [])) address
begins_last [] run address at = inl at
begins_last (first ∷ runs) run address at = inr (begins_last runs run address at)

placed_added : (base : ℕ) (is_covered : Bool) (runs new : List Run) (begin bottom end below address : ℕ)
    → IsRunAdded base is_covered runs begin bottom end new below → Begins runs address ⊎ (address ≡ begin) → Begins new address
placed_added base is_covered runs new begin bottom end below address add (inl b) =
    subst (λ (r : List Run). Begins r address) (sym add.added) (begins_more runs (add.run ∷ []) address b)
placed_added base is_covered runs new begin bottom end below address add (inr e) =
    subst (λ (r : List Run). Begins r address) (sym add.added)
    (begins_last runs add.run address (subst (λ (b : ℕ). add.run.begin ≡ b) (sym e) add.stands.begins))

stacked_added : (base : ℕ) (is_covered : Bool) (from top begin bottom end below : ℕ) (runs new : List Run) → AreStacked from top runs begin bottom
    → IsRunAdded base is_covered runs begin bottom end new below → AreStacked from top new end below
stacked_added base is_covered from top begin bottom end below runs new stacked add =
    subst (λ (r : List Run). AreStacked from top r end below) (sym add.added)
    (subst (λ (b : ℕ). AreStacked from top (runs ++ (add.run ∷ [])) end b) (sym add.below)
    (subst (λ (e : ℕ). AreStacked from top (runs ++ (add.run ∷ [])) e (bottom + add.run.height)) add.ends
    (stacked_more from top begin bottom runs add.run stacked add.stands)))

at_index : (cuts : List Cut) (k index : ℕ) (d cut : Cut) → k ≡ index → ((e : Cut) → slice_index_or cuts index e ≡ cut)
    → (slice_index_or cuts k d).at ≡ cut.at
at_index cuts k index d cut e is =
    subst (λ (i : ℕ). (slice_index_or cuts i d).at ≡ cut.at) (sym e) (ap (λ (c : Cut). c.at) (is d))

-- one more cut, up to which a run was added
more_added : (base : ℕ) (is_covered : Bool) (cuts : List Cut) (index from top begin bottom below : ℕ) (runs new : List Run) (cut : Cut)
    → IsUpTo cuts index from top begin bottom runs → IsNonDecreasingBy (λ (c : Cut). c.at) cuts
    → ((e : Cut) → slice_index_or cuts index e ≡ cut)
    → IsRunAdded base is_covered runs begin bottom cut.at new below → IsUpTo cuts (index + 1) from top cut.at below new
more_added base is_covered cuts index from top begin bottom below runs new cut up sorted is add = record {
  stacked = stacked_added base is_covered from top begin bottom cut.at below runs new up.stacked add;
  is_low = omega (arith, up.is_low, add.below, add.is_low);
  ahead = λ k d le lt. subst (λ (c : Cut). c.at ≤ (slice_index_or cuts k d).at) (is d) (sorted index k d (omega arith) lt);
  placed = λ k d lt. elim (cases_lt k index) [
    | inl before ↦ inl (placed_added base is_covered runs new begin bottom cut.at below (slice_index_or cuts k d).at add (up.placed k d before))
    | inr last ↦ inr (at_index cuts k index d cut (omega arith) is)
  ];
}

-- one more cut, at the address at which the runs end
more_same : (cuts : List Cut) (index from top begin bottom : ℕ) (runs : List Run) (cut : Cut)
    → IsUpTo cuts index from top begin bottom runs → index < length cuts
    → ((e : Cut) → slice_index_or cuts index e ≡ cut) → cut.at ≤ begin → IsUpTo cuts (index + 1) from top begin bottom runs
more_same cuts index from top begin bottom runs cut up inside is at =
    let ahead : begin ≤ (slice_index_or cuts index cut).at = up.ahead index cut (omega arith) inside in
    let same : begin ≤ cut.at = subst (λ (c : Cut). begin ≤ c.at) (is cut) ahead in
    let equal : cut.at ≡ begin = omega arith in
    record {
      stacked = up.stacked;
      is_low = omega (arith, up.is_low);
      ahead = λ k d le lt. up.ahead k d (omega arith) lt;
      placed = λ k d lt. elim (cases_lt k index) [
        | inl before ↦ up.placed k d before
        | inr last ↦ inr (omega (arith, at_index cuts k index d cut (omega arith) is, equal))
      ];
    }

-- one more cut
pub more : (base : ℕ) (is_covered : Bool) (cuts : List Cut) (index from top begin bottom next below : ℕ) (runs new : List Run) (d : Cut)
    → IsUpTo cuts index from top begin bottom runs → IsNonDecreasingBy (λ (c : Cut). c.at) cuts → index < length cuts
    → next ≡ max begin (slice_index_or cuts index d).at
    → ((slice_index_or cuts index d).at ≤ begin → (new ≡ runs) × (below ≡ bottom))
    → (begin < (slice_index_or cuts index d).at → IsRunAdded base is_covered runs begin bottom (slice_index_or cuts index d).at new below)
    → IsUpTo cuts (index + 1) from top next below new
more base is_covered cuts index from top begin bottom next below runs new d up sorted inside is same added =
    let cut : Cut = slice_index_or cuts index d in
    let any : (e : Cut) → slice_index_or cuts index e ≡ cut = λ e. get_or_default cuts index e d inside in
    elim (cases_lt begin cut.at) [
      | inl less ↦ subst (λ (n : ℕ). IsUpTo cuts (index + 1) from top n below new) (omega (arith, is, less))
          (more_added base is_covered cuts index from top begin bottom below runs new cut up sorted any (added less))
      | inr not_less ↦ subst (λ (n : ℕ). IsUpTo cuts (index + 1) from top n below new) (omega (arith, is, not_less))
          (subst (λ (b : ℕ). IsUpTo cuts (index + 1) from top begin b new) (sym (same not_less).1)
          (subst (λ (r : List Run). IsUpTo cuts (index + 1) from top begin bottom r) (sym (same not_less).0)
          (more_same cuts index from top begin bottom runs cut up inside any not_less)))
    ]

-- before the first cut
pub none_yet : (cuts : List Cut) (begin top : ℕ) → ((k : ℕ) (d : Cut) → k < length cuts → begin ≤ (slice_index_or cuts k d).at)
    → (runs : List Run) → runs ≡ [] → IsUpTo cuts 0 begin top begin top runs
none_yet cuts begin top ahead runs none = subst (λ (r : List Run). IsUpTo cuts 0 begin top begin top r) (sym none) (record {
  stacked = (refl, refl);
  is_low = omega arith;
  ahead = λ k d le lt. ahead k d lt;
  placed = λ k d lt. absurd (omega arith);
})

rising : (from top end bottom low high : ℕ) (runs : List Run) → AreStacked from top runs end bottom
    → Begins runs low ⊎ (low ≡ end) → Begins runs high ⊎ (high ≡ end) → low < high
    → height_at runs bottom low < height_at runs bottom high
rising from top end bottom low high runs stacked (inl begins) other less = rise from top end bottom low high runs stacked begins less
rising from top end bottom low high runs stacked (inr last) (inl begins) less =
    let before : high < end = begins_before from top end bottom high runs stacked begins in
    absurd (omega arith)
rising from top end bottom low high runs stacked (inr last) (inr also) less = absurd (omega arith)

-- behind the last cut
pub cuts_rise : (cuts : List Cut) (index from top begin bottom : ℕ) (runs : List Run) → IsUpTo cuts index from top begin bottom runs
    → length cuts ≤ index → CutsRise cuts runs bottom
cuts_rise cuts index from top begin bottom runs up all low high (i, li, ei) (j, lj, ej) less =
    rising from top begin bottom low.at high.at runs up.stacked
    (subst (λ (c : Cut). Begins runs c.at ⊎ (c.at ≡ begin)) ei (up.placed i low (omega arith)))
    (subst (λ (c : Cut). Begins runs c.at ⊎ (c.at ≡ begin)) ej (up.placed j high (omega arith)))
    less

-- the runs rise
begins_at : (runs : List Run) (k : ℕ) (d : Run) → k < length runs → Begins runs (slice_index_or runs k d).begin
begins_at [] k d inside = absurd (omega arith)
begins_at (run ∷ runs) zero d inside = inl refl
begins_at (run ∷ runs) (suc k) d inside = inr (begins_at runs k d (omega arith))

pub runs_rise : (from top end bottom : ℕ) (runs : List Run) → AreStacked from top runs end bottom → IsNonDecreasingBy (λ (r : Run). r.begin) runs
runs_rise from top end bottom [] both i j d le inside = absurd (omega arith)
runs_rise from top end bottom (run ∷ runs) both zero zero d le inside = omega arith
runs_rise from top end bottom (run ∷ runs) both zero (suc j) d le inside =
    let after : run.end ≤ (slice_index_or runs j d).begin =
    begins_behind run.end (top + run.height) end bottom (slice_index_or runs j d).begin runs both.1 (begins_at runs j d (omega arith)) in
    let first : run.begin ≡ from = (both.0).begins in
    let reaches : from < run.end = (both.0).reaches in
    omega arith
runs_rise from top end bottom (run ∷ runs) both (suc i) zero d le inside = absurd (omega arith)
runs_rise from top end bottom (run ∷ runs) both (suc i) (suc j) d le inside =
    runs_rise run.end (top + run.height) end bottom runs both.1 i j d (omega arith) (omega arith)

-- an address stands at the first run that isn't before it, or below all
height_of_run : (runs : List Run) (bottom address i : ℕ) (d : Run)
    → ((k : ℕ) (e : Run) → 0 ≤ k → k < i → ltb (slice_index_or runs k e).begin address ≡ true)
    → ((k : ℕ) (e : Run) → i ≤ k → k < length runs → ltb (slice_index_or runs k e).begin address ≡ false)
    → i < length runs → height_at runs bottom address ≡ (slice_index_or runs i d).y
height_of_run [] bottom address i d before behind inside = absurd (omega arith)
height_of_run (run ∷ runs) bottom address zero d before behind inside =
    met run.begin address (height_at runs bottom address) run.y
    (let h : ltb run.begin address ≡ false = behind zero run (omega arith) (omega arith) in omega (arith, ltb-false run.begin address h))
height_of_run (run ∷ runs) bottom address (suc i) d before behind inside =
    let h : ltb run.begin address ≡ true = before zero run (omega arith) (omega arith) in
    let inner : height_at runs bottom address ≡ (slice_index_or runs i d).y =
    height_of_run runs bottom address i d (λ k e low high. before (suc k) e (omega arith) (omega arith))
    (λ k e low high. behind (suc k) e (omega arith) (omega arith)) (omega arith) in
    subst (λ (y : ℕ). height_at (run ∷ runs) bottom address ≡ y) inner
    (passed run.begin address (height_at runs bottom address) run.y (ltb-true run.begin address h))

height_below : (runs : List Run) (bottom address i : ℕ)
    → ((k : ℕ) (e : Run) → 0 ≤ k → k < i → ltb (slice_index_or runs k e).begin address ≡ true)
    → length runs ≤ i → height_at runs bottom address ≡ bottom
height_below [] bottom address i before all = refl
height_below (run ∷ runs) bottom address zero before all = absurd (omega arith)
height_below (run ∷ runs) bottom address (suc i) before all =
    let h : ltb run.begin address ≡ true = before zero run (omega arith) (omega arith) in
    let inner : height_at runs bottom address ≡ bottom =
    height_below runs bottom address i (λ k e low high. before (suc k) e (omega arith) (omega arith)) (omega arith) in
    subst (λ (y : ℕ). height_at (run ∷ runs) bottom address ≡ y) inner
    (passed run.begin address (height_at runs bottom address) run.y (ltb-true run.begin address h))

-- what a binary search found in the runs
pub stands_at : (runs first second : List Run) (bottom address i : ℕ) (run : Run) → first ≡ runs → second ≡ runs
    → IsPartitionPoint (λ (r : Run). ltb r.begin address ≡ true) (λ (r : Run). ltb r.begin address ≡ false) first i
    → i < length second → run ≡ slice_index_or second i run → run.y ≡ height_at runs bottom address
stands_at runs first second bottom address i run one two parted inside is =
    let found : IsPartitionPoint (λ (r : Run). ltb r.begin address ≡ true) (λ (r : Run). ltb r.begin address ≡ false) runs i =
    subst (λ (l : List Run). IsPartitionPoint (λ (r : Run). ltb r.begin address ≡ true) (λ (r : Run). ltb r.begin address ≡ false) l i) one parted in
    let here : run ≡ slice_index_or runs i run = subst (λ (l : List Run). run ≡ slice_index_or l i run) two is in
    ap (λ (r : Run). r.y) here ∙ sym (height_of_run runs bottom address i run found.0 found.1 (subst (λ (l : List Run). i < length l) two inside))

pub stands_below : (runs first second : List Run) (bottom address i : ℕ) → first ≡ runs → second ≡ runs
    → IsPartitionPoint (λ (r : Run). ltb r.begin address ≡ true) (λ (r : Run). ltb r.begin address ≡ false) first i
    → length second ≤ i → bottom ≡ height_at runs bottom address
stands_below runs first second bottom address i one two parted all =
    let found : IsPartitionPoint (λ (r : Run). ltb r.begin address ≡ true) (λ (r : Run). ltb r.begin address ≡ false) runs i =
    subst (λ (l : List Run). IsPartitionPoint (λ (r : Run). ltb r.begin address ≡ true) (λ (r : Run). ltb r.begin address ≡ false) l i) one parted in
    sym (height_below runs bottom address i found.0 (subst (λ (l : List Run). length l ≤ i) two all))
