-- What is there on a bus once a window has other addresses: those in place of what it had, and all else as it was.
use Rattle.std.proofs.Common.{◌≡◌, ℕ, ◌+◌, ◌<◌, inl, inr, List, [], ◌∷◌, ◌++◌, true, false, Bool, ◌&&◌, arith, sym, ap, subst, ◌∙◌, refl, Some}
use Rattle.std.specs.List.{Contains, AllPairs, filter, flat_map, sum_by}
use Rattle.std.proofs.lemmas.Bool.{both_ways}
use Rattle.std.proofs.lemmas.List.Sums.{sum_by-append}
use Rattle.pci_spec.specs.Window.{WindowKind, has_window}
use Rattle.pci_spec.specs.Decoded.{Range}
use Rattle.pci_spec.specs.System.{System, Function, IsSystem, Space, is_bridge}
use Rattle.pci_spec.specs.Bus.{are_siblings}
use Rattle.pci_spec.proofs.Members.{in_nil, in_head, in_tail, in_cons_cases, in_filter_to, in_filter_from, in_flat_map_from, pairs_head, pairs_tail, pairs_filter}
use Rattle.settle_spec.specs.Lists.{Request}
use Rattle.settle_spec.specs.Parts.{FunctionPart, are_same_space}
use Rattle.settle_spec.specs.Stands.{rank, window_part, part_space}
use Rattle.settle_spec.specs.Growth.{range_list}
use Rattle.settle_spec.specs.Kept.{Kept}
use Rattle.settle_spec.specs.Wishes.{range_then, there_then, with_window}
use Rattle.pci_grow.proofs.Wishing.{range_at, range_other}
use Rattle.pci_grow.proofs.Ranks.{all_changing, ranks_rise, window_in_all, one_of_rank}

-- ---- lists of lists

module _ {X : Type 0} (f g : X → List Range) where
  same_flat : (xs : List X) → ((x : X) → Contains xs x → f x ≡ g x) → flat_map f xs ≡ flat_map g xs
  same_flat [] same = refl
  same_flat (x ∷ xs) same =
      ap (λ ys. ys ++ flat_map f xs) (same x (in_head x xs))
      ∙ ap (λ ys. g x ++ ys) (same_flat xs (λ y listed. same y (in_tail x xs y listed)))

module _ (weight : Range → ℕ) (f g : FunctionPart → List Range) (w : FunctionPart) where
  -- two that differ at one part differ in what that has
  changed_one : (ps : List FunctionPart) → AllPairs (λ r t. rank r < rank t) ps → Contains ps w
      → ((r : FunctionPart) → Contains ps r → (rank r ≡ rank w → ⊥) → f r ≡ g r)
      → sum_by weight (flat_map f ps) + sum_by weight (g w) ≡ sum_by weight (flat_map g ps) + sum_by weight (f w)
  changed_one [] rise listed same = absurd (in_nil w listed)
  changed_one (p ∷ ps) rise listed same =
      let in_f = sum_by-append weight (f p) (flat_map f ps) in
      let in_g = sum_by-append weight (g p) (flat_map g ps) in
      elim (in_cons_cases p ps w listed) [
        | inl here ↦
            let rest : flat_map f ps ≡ flat_map g ps = same_flat f g ps (λ r later. same r (in_tail p ps r later) (λ e.
            let up = pairs_head (λ r t. rank r < rank t) p ps r rise later in
            let low = ap rank here in
            let no : ⊥ = omega (arith, up, low, e) in no)) in
            let sums = ap (sum_by weight) rest in
            let at_f = ap (λ r. sum_by weight (f r)) here in
            let at_g = ap (λ r. sum_by weight (g r)) here in
            omega (arith, in_f, in_g, sums, at_f, at_g)
        | inr later ↦
            let first = same p (in_head p ps) (λ e.
            let up = pairs_head (λ r t. rank r < rank t) p ps w rise later in
            let no : ⊥ = omega (arith, up, e) in no) in
            let sums = ap (sum_by weight) first in
            let rest = changed_one ps (pairs_tail (λ r t. rank r < rank t) p ps rise) later (λ r listed. same r (in_tail p ps r listed)) in
            omega (arith, in_f, in_g, sums, rest)
      ]

-- ---- of a system

module _ (q : Request) (s : System) (system : IsSystem s) (b : Function) (c : WindowKind) (listed : Contains s b) (bridge : is_bridge b ≡ true) (there : has_window c b.probe ≡ true) (range : Range) (k : Kept) where
  abbrev w : FunctionPart
  w = window_part c b

  abbrev after : Kept
  after = with_window w range k

  abbrev is_on : Space → ℕ → FunctionPart → Bool
  is_on space bus r = are_siblings q.roots bus r.function.slot.bus && are_same_space space (part_space r)

  abbrev before_of : FunctionPart → List Range
  before_of r = range_list (range_then q s k r)

  abbrev after_of : FunctionPart → List Range
  after_of r = range_list (range_then q s after r)

  same_other : (r : FunctionPart) → (rank r ≡ rank w → ⊥) → after_of r ≡ before_of r
  same_other r other = ap range_list (range_other q s w range k r other)

  -- on its own bus
  pub there_with : (space : Space) (bus : ℕ) → is_on space bus w ≡ true → (weight : Range → ℕ)
      → sum_by weight (there_then q s after space bus) + sum_by weight (range_list (range_then q s k w)) ≡ sum_by weight (there_then q s k space bus) + weight range
  there_with space bus on weight =
      let ps : List FunctionPart = filter (is_on space bus) (all_changing q s) in
      let one = changed_one weight after_of before_of w ps
      (pairs_filter (λ r t. rank r < rank t) (is_on space bus) (all_changing q s) (ranks_rise q s system))
      (in_filter_from (is_on space bus) (all_changing q s) w (window_in_all q s b c listed bridge there) on)
      (λ r in_ps other. same_other r other) in
      let new : sum_by weight (after_of w) ≡ 0 + weight range = ap (λ o. sum_by weight (range_list o)) (range_at q s w range k w refl) in
      omega (arith, one, new)

  -- on other buses, or in the other space
  pub there_without : (space : Space) (bus : ℕ) → is_on space bus w ≡ false → there_then q s after space bus ≡ there_then q s k space bus
  there_without space bus off =
      same_flat after_of before_of (filter (is_on space bus) (all_changing q s)) (λ r in_ps. same_other r (λ same.
      let parts = in_filter_to (is_on space bus) (all_changing q s) r in_ps in
      let one = one_of_rank (all_changing q s) (ranks_rise q s system) r w parts.0 (window_in_all q s b c listed bridge there) same in
      both_ways (is_on space bus w) off (subst (λ t. is_on space bus t ≡ true) one parts.1)))

  -- what it has is there
  pub has_own : (space : Space) (bus : ℕ) → is_on space bus w ≡ true → (t : Range) → range_then q s k w ≡ Some t → Contains (there_then q s k space bus) t
  has_own space bus on t is =
      in_flat_map_from before_of (filter (is_on space bus) (all_changing q s)) w t
      (in_filter_from (is_on space bus) (all_changing q s) w (window_in_all q s b c listed bridge there) on)
      (subst (λ o. Contains (range_list o) t) (sym is) (in_head t []))
