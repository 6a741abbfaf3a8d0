-- Numbers that are put into an image, one after another.
use Rattle.std.proofs.Common.{◌≡◌, ℕ, zero, suc, ◌+◌, ◌*◌, ◌^◌, ◌<◌, ◌≤◌, ◌⊎◌, inl, inr, List, [], ◌∷◌, ◌++◌, length, get_or, take, false, ◌||◌, arith, sym, ◌∙◌, ap, subst, refl}
use Rattle.std.specs.List.{AllPairs, Contains, list_any}
use Rattle.std.specs.Bool.{nat_le, nat_lt, ◌==◌}
use Rattle.std.proofs.lemmas.Bool.{and_from, both_ways, cases_lt, eqb-false, le-leb, lt-ltb, or_parts}
use Rattle.std.proofs.lemmas.List.{get_or_default, get_or-take, length-take-le}
use Rattle.std.proofs.lemmas.List.Elements.{Contains-push_cases}
use Rattle.std.proofs.lemmas.List.Folds.{list_any-append}
use Rattle.pci_spec.specs.Number.{byte_at, number_at, IsImage}
use Rattle.pci_spec.specs.Header.{address_registers, is_in_register, layout}
use Rattle.pci_spec.specs.System.{Function}
use Rattle.plan_spec.specs.Planning.Numbers.{IsFilled}
use Rattle.pci_spec.proofs.Members.{in_nil}
use Rattle.plan_spec.proofs.Planning.Staging.{Follows, is_register}

-- the same bytes make the same number
pub same_bytes : (a b : List ℕ) (offset width : ℕ) → ((place : ℕ) → offset ≤ place → place < offset + width → byte_at a place ≡ byte_at b place) → number_at a offset width ≡ number_at b offset width
same_bytes a b offset zero same = refl
same_bytes a b offset (suc width) same =
    ap (λ n. n + byte_at a (offset + width) * 256 ^ width) (same_bytes a b offset width (λ place from to. same place from (omega (arith, to))))
    ∙ ap (λ n. number_at b offset width + n * 256 ^ width) (same (offset + width) (omega arith) (omega arith))

-- ---- register by register

-- the numbers of some registers are put in, and all else is as it was
pub record ArePut (done : List (ℕ × ℕ)) (value : ℕ × ℕ → ℕ) (old new : List ℕ) : Type 0 where
  pub image : IsImage new
  pub registers : (r : ℕ × ℕ) → Contains done r → number_at new r.0 r.1 ≡ value r
  pub others : (place : ℕ) → list_any (is_in_register place) done ≡ false → byte_at new place ≡ byte_at old place

pub none_put : (value : ℕ × ℕ → ℕ) (image : List ℕ) → IsImage image → ArePut [] value image image
none_put value image is = record { image = is; registers = λ r none. absurd (in_nil r none); others = λ place outside. refl }

outside_register : (place : ℕ) (r : ℕ × ℕ) → is_in_register place r ≡ false → (place < r.0) ⊎ (r.0 + r.1 ≤ place)
outside_register place r none = elim (cases_lt place r.0) [
  | inl before ↦ inl before
  | inr from ↦ elim (cases_lt place (r.0 + r.1)) [
    | inl to ↦ absurd (both_ways (is_in_register place r) none (and_from (nat_le r.0 place) (nat_lt place (r.0 + r.1)) (le-leb r.0 place from) (lt-ltb place (r.0 + r.1) to)))
    | inr after ↦ inr after
  ]
]

pub more_put : (done : List (ℕ × ℕ)) (r : ℕ × ℕ) (value : ℕ × ℕ → ℕ) (old before new : List ℕ) → ArePut done value old before → IsImage new → number_at new r.0 r.1 ≡ value r
    → ((place : ℕ) → (place < r.0) ⊎ (r.0 + r.1 ≤ place) → byte_at new place ≡ byte_at before place) → ((q : ℕ × ℕ) → Contains done q → q.0 + q.1 ≤ r.0) → ArePut (done ++ r ∷ []) value old new
more_put done r value old before new put is shown same apart = record {
  image = is;
  registers = λ q listed. elim (Contains-push_cases done r q listed) [
    | inl earlier ↦
        let a = apart q earlier in
        same_bytes new before q.0 q.1 (λ place from to. same place (inl (omega (arith, a, to)))) ∙ put.registers q earlier
    | inr here ↦ subst (λ p. number_at new p.0 p.1 ≡ value p) here shown
  ];
  others = λ place none.
      let parts = or_parts (list_any (is_in_register place) done) (is_in_register place r || false) (sym (list_any-append (is_in_register place) done (r ∷ [])) ∙ none) in
      let last = or_parts (is_in_register place r) false parts.1 in
      same place (outside_register place r last.0) ∙ put.others place parts.0;
}

-- each register of a list ends before the next ones start
pub earlier_apart : (rs : List (ℕ × ℕ)) (k : ℕ) (d : ℕ × ℕ) → AllPairs Follows rs → k < length rs → (q : ℕ × ℕ) → Contains (take k rs) q → q.0 + q.1 ≤ (get_or rs k d).0
earlier_apart rs k d order within q listed =
    let size = length-take-le k rs (omega (arith, within)) in
    let short = listed.1 in
    let j = listed.0 in
    let before : j < k = omega (arith, size, short) in
    let at : get_or rs j q ≡ q = sym (get_or-take k rs j q before) ∙ listed.2 in
    let follows = order j k q before within in
    let next : (get_or rs k q).0 ≡ (get_or rs k d).0 = ap (λ (r : ℕ × ℕ). r.0) (get_or_default rs k q d within) in
    let first : (get_or rs j q).0 + (get_or rs j q).1 ≡ q.0 + q.1 = ap (λ (r : ℕ × ℕ). r.0 + r.1) at in
    omega (arith, follows, next, first)

-- ---- then Command

pub filled_with : (f : Function) (value : ℕ × ℕ → ℕ) (new_command : ℕ) (middle new : List ℕ) → ArePut (address_registers (layout f.image)) value f.image middle → IsImage new
    → number_at new 4 2 ≡ new_command → ((place : ℕ) → (place < 4) ⊎ (4 + 2 ≤ place) → byte_at new place ≡ byte_at middle place) → IsFilled value new_command f record f { image = new }
filled_with f value new_command middle new put is shown same = record {
  slot = refl;
  probe = refl;
  image = is;
  registers = λ r listed. (let low = (is_register f r listed).low in
      same_bytes new middle r.0 r.1 (λ place from to. same place (inr (omega (arith, low, from)))) ∙ put.registers r listed);
  command_is = shown;
  others = λ place inside none other.
      let parts = or_parts (place == 4) (place == 5) other in
      let four = eqb-false place 4 parts.0 in
      let five = eqb-false place 5 parts.1 in
      same place (elim (cases_lt place 4) [ inl low ↦ inl low | inr high ↦ inr (omega (arith, high, four, five)) ]) ∙ put.others place none;
}
