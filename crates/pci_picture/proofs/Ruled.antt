-- The heights of cuts are those of the rule.
use Rattle.std.proofs.Common.{arith, ◌≡◌, ◌⊎◌, ◌<◌, ◌≤◌, ◌+◌, ◌-◌, max, ℕ, Bool, true, false, List, [], ◌∷◌, length, refl, ap, sym, subst, ◌∙◌, inl, inr}
use Rattle.std.specs.List.{All, slice_index_or}
use Rattle.std.specs.List.Sorted.{IsNonDecreasingBy}
use Rattle.std.proofs.lemmas.Bool.{cases_Bool, cases_lt}
use Rattle.std.proofs.lemmas.List.{get_or_default}
use Rattle.std.proofs.lemmas.List.Elements.{All-head, All-nil, All-push, All-tail}
use Rattle.pci_picture.specs.Cuts.{HasCutAt}
use Rattle.pci_picture.specs.Heights.{AreNeighbours, HasHeights, IsHeightOf}
use Rattle.pci_picture.specs.Stacked.{AreHeights, IsCoveredIn, IsRunAdded, IsRunHeight, height_at}
use Rattle.pci_picture.specs.declared.heights.Cut.{Cut}
use Rattle.pci_picture.specs.declared.heights.Run.{Run}
use Rattle.pci_picture.proofs.Stacked.{AreStacked, Begins, IsUpTo, begins_before, begins_behind, cuts_rise, last_height, met, passed, runs_rise}

-- a run has the addresses between two neighbouring cuts, and the height of the rule
pub record IsRunOf (base : ℕ) (cuts : List Cut) (run : Run) : Type 0 where
  pub begins : HasCutAt cuts run.begin
  pub ends : HasCutAt cuts run.end
  pub between : (address : ℕ) → HasCutAt cuts address → run.begin < address → address < run.end → ⊥
  pub covered : run.is_covered ≡ true → IsCoveredIn cuts run.begin
  pub uncovered : run.is_covered ≡ false → IsCoveredIn cuts run.begin → ⊥
  pub tall : IsRunHeight base run.is_covered (run.end - run.begin) run.height

-- what is known of the cuts before an index, of which the furthest ends at `reach`
pub record IsRuled (base : ℕ) (cuts : List Cut) (index begin reach : ℕ) (runs : List Run) : Type 0 where
  pub behind : (k : ℕ) (d : Cut) → k < index → k < length cuts → (slice_index_or cuts k d).at ≤ begin
  pub furthest : (k : ℕ) (d : Cut) → k < index → k < length cuts → (slice_index_or cuts k d).end ≤ reach
  pub reached : begin < reach → (k : ℕ) × (k < index) × (k < length cuts) × ((d : Cut) → (slice_index_or cuts k d).end ≡ reach)
  pub is_cut : 0 < length cuts → HasCutAt cuts begin
  pub each : All (IsRunOf base cuts) runs

pub nothing_ruled : (base : ℕ) (cuts : List Cut) (begin : ℕ) → (0 < length cuts → HasCutAt cuts begin) → (runs : List Run) → runs ≡ []
    → IsRuled base cuts 0 begin begin runs
nothing_ruled base cuts begin is_cut runs none = record {
  behind = λ k d lt. absurd (omega arith);
  furthest = λ k d lt. absurd (omega arith);
  reached = λ less. absurd (omega (arith, less));
  is_cut = is_cut;
  each = subst (All (IsRunOf base cuts)) (sym none) (All-nil (IsRunOf base cuts));
}

cut_at_index : (cuts : List Cut) (k : ℕ) (d : Cut) → k < length cuts → HasCutAt cuts (slice_index_or cuts k d).at
cut_at_index cuts k d lt = (k, slice_index_or cuts k d, lt, get_or_default cuts k (slice_index_or cuts k d) d lt, refl)

-- the addresses up to the next cut
run_added : (base : ℕ) (cuts : List Cut) (index begin reach : ℕ) (runs : List Run) (d : Cut) (run : Run) → IsRuled base cuts index begin reach runs
    → IsNonDecreasingBy (λ (c : Cut). c.at) cuts → index < length cuts → begin < (slice_index_or cuts index d).at → (is_covered : Bool)
    → (is_covered ≡ true → begin < reach) → (is_covered ≡ false → reach ≤ begin)
    → run.begin ≡ begin → run.end ≡ (slice_index_or cuts index d).at → run.is_covered ≡ is_covered
    → IsRunHeight base is_covered ((slice_index_or cuts index d).at - begin) run.height → IsRunOf base cuts run
run_added base cuts index begin reach runs d run ruled sorted inside less is_covered on_covered on_gap begins ends covers tall =
    let cut : Cut = slice_index_or cuts index d in
    record {
      begins = subst (HasCutAt cuts) (sym begins) (ruled.is_cut (omega (arith, inside)));
      ends = subst (HasCutAt cuts) (sym ends) (cut_at_index cuts index d inside);
      between = λ address (k, one, lt, is, at) low high. elim (cases_lt k index) [
        | inl before ↦
            let most : (slice_index_or cuts k one).at ≤ begin = ruled.behind k one before lt in
            omega (arith, most, ap (λ (c : Cut). c.at) is, at, low, begins)
        | inr later ↦
            let least : (slice_index_or cuts index d).at ≤ (slice_index_or cuts k d).at = sorted index k d later lt in
            let same : slice_index_or cuts k d ≡ one = get_or_default cuts k d one lt ∙ is in
            omega (arith, least, ap (λ (c : Cut). c.at) same, at, high, ends)
      ];
      covered = λ on.
          let found = ruled.reached (on_covered (sym covers ∙ on)) in
          let most : (slice_index_or cuts found.0 d).at ≤ begin = ruled.behind found.0 d found.1 found.2 in (
            found.0,
            slice_index_or cuts found.0 d,
            found.2,
            get_or_default cuts found.0 (slice_index_or cuts found.0 d) d found.2,
            (omega (arith, most, begins), omega (arith, found.3 d, on_covered (sym covers ∙ on), begins)),
          );
      uncovered = λ off (k, one, lt, is, (from, to)). elim (cases_lt k index) [
        | inl before ↦
            let most : (slice_index_or cuts k one).end ≤ reach = ruled.furthest k one before lt in
            omega (arith, most, ap (λ (c : Cut). c.end) is, to, on_gap (sym covers ∙ off), begins)
        | inr later ↦
            let least : (slice_index_or cuts index d).at ≤ (slice_index_or cuts k d).at = sorted index k d later lt in
            let same : slice_index_or cuts k d ≡ one = get_or_default cuts k d one lt ∙ is in
            omega (arith, least, ap (λ (c : Cut). c.at) same, from, less, begins)
      ];
      tall = subst (λ b. IsRunHeight base b (run.end - run.begin) run.height) (sym covers)
          (subst (λ n. IsRunHeight base is_covered n run.height) (omega (arith, begins, ends)) tall);
    }

-- one more cut
pub ruled_more : (base : ℕ) (cuts : List Cut) (index begin reach bottom next far below : ℕ) (runs new : List Run) (d : Cut) (is_covered : Bool)
    → IsRuled base cuts index begin reach runs → IsNonDecreasingBy (λ (c : Cut). c.at) cuts → index < length cuts
    → next ≡ max begin (slice_index_or cuts index d).at → far ≡ max (slice_index_or cuts index d).end reach
    → (is_covered ≡ true → begin < reach) → (is_covered ≡ false → reach ≤ begin)
    → ((slice_index_or cuts index d).at ≤ begin → new ≡ runs)
    → (begin < (slice_index_or cuts index d).at → IsRunAdded base is_covered runs begin bottom (slice_index_or cuts index d).at new below)
    → IsRuled base cuts (index + 1) next far new
ruled_more base cuts index begin reach bottom next far below runs new d is_covered ruled sorted inside is further_is on_covered on_gap same added =
    let cut : Cut = slice_index_or cuts index d in
    let at_index : (k : ℕ) (e : Cut) → k ≡ index → k < length cuts → slice_index_or cuts k e ≡ cut =
    λ k e last lt. get_or_default cuts k e d lt ∙ ap (λ i. slice_index_or cuts i d) last in
    record {
      behind = λ k e less lt. elim (cases_lt k index) [
        | inl before ↦ omega (arith, ruled.behind k e before lt, is)
        | inr later ↦ omega (arith, ap (λ (c : Cut). c.at) (at_index k e (omega (arith, less, later)) lt), is)
      ];
      furthest = λ k e less lt. elim (cases_lt k index) [
        | inl before ↦ omega (arith, ruled.furthest k e before lt, further_is)
        | inr later ↦ omega (arith, ap (λ (c : Cut). c.end) (at_index k e (omega (arith, less, later)) lt), further_is)
      ];
      reached = λ up. elim (cases_lt reach cut.end) [
        | inl further ↦ (index, omega arith, inside, λ e. ap (λ (c : Cut). c.end) (at_index index e refl inside) ∙ omega (arith, further, further_is))
        | inr before ↦
            let found = ruled.reached (omega (arith, up, is, before, further_is)) in
            (found.0, omega (arith, found.1), found.2, λ e. found.3 e ∙ omega (arith, before, further_is))
      ];
      is_cut = λ some. elim (cases_lt begin cut.at) [
        | inl further ↦ subst (HasCutAt cuts) (omega (arith, is, further)) (cut_at_index cuts index d inside)
        | inr before ↦ subst (HasCutAt cuts) (omega (arith, is, before)) (ruled.is_cut some)
      ];
      each = elim (cases_lt begin cut.at) [
        | inl further ↦
            let add = added further in
            subst (All (IsRunOf base cuts)) (sym add.added)
            (All-push (IsRunOf base cuts) runs add.run ruled.each
            (run_added base cuts index begin reach runs d add.run ruled sorted inside further is_covered on_covered on_gap add.stands.begins add.ends add.covers add.tall))
        | inr before ↦ subst (All (IsRunOf base cuts)) (sym (same before)) ruled.each
      ];
    }

-- ---- so the heights are those of the rule

-- the run that begins at a cut, up to the next one
record IsRunBetween (base : ℕ) (cuts : List Cut) (height_of : ℕ → ℕ) (low high : ℕ) : Type 0 where
  run : Run
  lawful : IsRunOf base cuts run
  begins : run.begin ≡ low
  ends : run.end ≡ high
  below : height_of high ≡ height_of low + run.height

-- the end of the first run stands below it
next_height : (top from end bottom : ℕ) (runs : List Run) → AreStacked from top runs end bottom → height_at runs bottom from ≡ top
next_height top from end bottom [] both = sym both.1
next_height top from end bottom (run ∷ runs) both =
    let begins : run.begin ≡ from = (both.0).begins in
    met run.begin from (height_at runs bottom from) run.y (omega (arith, begins)) ∙ (both.0).stands

run_between : (base : ℕ) (cuts : List Cut) (from top end bottom low high : ℕ) (runs : List Run) → AreStacked from top runs end bottom
    → All (IsRunOf base cuts) runs → AreNeighbours (HasCutAt cuts) low high → Begins runs low → IsRunBetween base cuts (height_at runs bottom) low high
run_between base cuts from top end bottom low high [] both each next begins = absurd begins
run_between base cuts from top end bottom low high (run ∷ runs) both each next (inl at) =
    let lawful = All-head (IsRunOf base cuts) run runs each in
    let reaches : from < run.end = (both.0).reaches in
    let first : run.begin ≡ from = (both.0).begins in
    let same : run.end ≡ high = elim (cases_lt run.end high) [
      | inl before ↦ absurd (next.none_between run.end lawful.ends (omega (arith, reaches, first, at)) before)
      | inr later ↦ elim (cases_lt high run.end) [
        | inl before ↦ absurd (lawful.between high next.high_is_cut (omega (arith, next.rises, at)) before)
        | inr both_le ↦ omega (arith, later, both_le)
      ]
    ] in
    let here : height_at (run ∷ runs) bottom low ≡ run.y = met run.begin low (height_at runs bottom low) run.y (omega (arith, at)) in
    let there : height_at (run ∷ runs) bottom high ≡ height_at runs bottom high =
    passed run.begin high (height_at runs bottom high) run.y (omega (arith, at, next.rises)) in
    let stands : run.y ≡ top = (both.0).stands in
    let behind : height_at runs bottom high ≡ top + run.height =
    ap (height_at runs bottom) (sym same) ∙ next_height (top + run.height) run.end end bottom runs both.1 in
    record { run = run; lawful = lawful; begins = at; ends = same; below = omega (arith, here, there, stands, behind) }
run_between base cuts from top end bottom low high (run ∷ runs) both each next (inr begins) =
    let first : run.begin ≡ from = (both.0).begins in
    let reaches : from < run.end = (both.0).reaches in
    let after : run.end ≤ low = begins_behind run.end (top + run.height) end bottom low runs both.1 begins in
    let inner = run_between base cuts run.end (top + run.height) end bottom low high runs both.1 (All-tail (IsRunOf base cuts) run runs each) next begins in
    let here : height_at (run ∷ runs) bottom low ≡ height_at runs bottom low =
    passed run.begin low (height_at runs bottom low) run.y (omega (arith, after, first, reaches)) in
    let there : height_at (run ∷ runs) bottom high ≡ height_at runs bottom high =
    passed run.begin high (height_at runs bottom high) run.y (omega (arith, after, first, reaches, next.rises)) in
    record { run = inner.run; lawful = inner.lawful; begins = inner.begins; ends = inner.ends; below = there ∙ inner.below ∙ ap (λ h. h + inner.run.height) (sym here) }

-- the heights of all cuts
pub by_rule : (base : ℕ) (cuts : List Cut) (from top end bottom : ℕ) (runs : List Run) → AreStacked from top runs end bottom
    → All (IsRunOf base cuts) runs → ((address : ℕ) → HasCutAt cuts address → Begins runs address ⊎ (address ≡ end))
    → (0 < length cuts → HasCutAt cuts from) → (0 < length cuts → HasCutAt cuts end) → ((address : ℕ) → HasCutAt cuts address → from ≤ address)
    → HasHeights base top bottom (HasCutAt cuts) (IsCoveredIn cuts) (height_at runs bottom)
by_rule base cuts from top end bottom runs stacked each placed is_cut end_cut least =
    let between : (low high : ℕ) → AreNeighbours (HasCutAt cuts) low high → IsRunBetween base cuts (height_at runs bottom) low high =
    λ low high next. elim (placed low next.low_is_cut) [
      | inl begins ↦ run_between base cuts from top end bottom low high runs stacked each next begins
      | inr last ↦ elim (placed high next.high_is_cut) [
        | inl begins ↦
            let before : high < end = begins_before from top end bottom high runs stacked begins in
            absurd (omega (arith, before, last, next.rises))
        | inr also ↦ absurd (omega (arith, last, also, next.rises))
      ]
    ] in
    record {
      begins = λ first cut lowest.
          let some : 0 < length cuts = let (k, one, lt, is, at) = cut in omega (arith, lt) in
          let same : from ≡ first = omega (arith, least first cut, lowest from (is_cut some)) in
          ap (height_at runs bottom) (sym same) ∙ next_height top from end bottom runs stacked;
      ends = λ last cut greatest.
          let some : 0 < length cuts = let (k, one, lt, is, at) = cut in omega (arith, lt) in
          let past : end ≤ last = greatest end (end_cut some) in
          elim (placed last cut) [
            | inl begins ↦
                let before : last < end = begins_before from top end bottom last runs stacked begins in
                absurd (omega (arith, before, past))
            | inr same ↦ ap (height_at runs bottom) same ∙ last_height from top end bottom runs stacked
          ];
      covered = λ low high next on.
          let found = between low high next in
          elim (cases_Bool found.run.is_covered) [
            | inl covered ↦ (
              found.run.height,
              subst (λ n. IsHeightOf base n found.run.height) (omega (arith, found.begins, found.ends))
                  (subst (λ b. IsRunHeight base b (found.run.end - found.run.begin) found.run.height) covered found.lawful.tall),
              found.below,
            )
            | inr bare ↦ absurd (found.lawful.uncovered bare (subst (IsCoveredIn cuts) (sym found.begins) on))
          ];
      gap = λ low high next off.
          let found = between low high next in
          elim (cases_Bool found.run.is_covered) [
            | inl covered ↦ absurd (off (subst (IsCoveredIn cuts) found.begins (found.lawful.covered covered)))
            | inr bare ↦
                let high_is : found.run.height ≡ 14 =
                subst (λ b. IsRunHeight base b (found.run.end - found.run.begin) found.run.height) bare found.lawful.tall in
                found.below ∙ ap (λ h. height_at runs bottom low + h) high_is
          ];
    }

-- behind the last cut
pub are_heights : (base : ℕ) (cuts : List Cut) (index from top begin reach bottom : ℕ) (runs : List Run) → IsUpTo cuts index from top begin bottom runs
    → IsRuled base cuts index begin reach runs → (0 < length cuts → HasCutAt cuts from)
    → ((k : ℕ) (d : Cut) → k < length cuts → from ≤ (slice_index_or cuts k d).at) → length cuts ≤ index → AreHeights base top cuts runs bottom
are_heights base cuts index from top begin reach bottom runs up ruled is_cut least all = record {
  rise = cuts_rise cuts index from top begin bottom runs up all;
  sorted = runs_rise from top begin bottom runs up.stacked;
  by_rule =
      by_rule base cuts from top begin bottom runs up.stacked ruled.each
      (λ address (k, one, lt, is, at). subst (λ a. Begins runs a ⊎ (a ≡ begin)) (ap (λ (c : Cut). c.at) is ∙ at) (up.placed k one (omega (arith, all, lt))))
      is_cut ruled.is_cut (λ address (k, one, lt, is, at). omega (arith, least k one lt, ap (λ (c : Cut). c.at) is, at));
}
