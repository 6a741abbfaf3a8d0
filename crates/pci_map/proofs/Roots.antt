-- The lines of root buses.
use Rattle.std.proofs.Common.{◌≡◌, ℕ, zero, suc, ◌+◌, List, [], ◌∷◌, ◌++◌, map, refl, sym, ap, ◌∙◌, subst, append-nil, arith, Bool, true, false, inl, inr, cond}
use Rattle.std.specs.Prelude.{IsTrue, ◌↔◌}
use Rattle.std.specs.List.{Contains, filter, flat_map, range_with_len}
use Rattle.std.proofs.lemmas.Bool.{cases_Bool, both_ways}
use Rattle.std.proofs.lemmas.Grind.{flat_map-append}
use Rattle.std.proofs.lemmas.List.{append_assoc, map-append}
use Rattle.std.proofs.lemmas.List.Elements.{Contains-append_cases, filter-append}
use Rattle.pci_spec.specs.System.{System, Io, Memory}
use Rattle.pci_spec.specs.Bus.{is_root}
use Rattle.pci_spec.proofs.Members.{in_nil, in_cons_cases}
use Rattle.pci_spec.proofs.BusRanges.{root_means}
use Rattle.judge_spec.specs.Given.{Given}
use Rattle.judge_spec.specs.ToldClaims.{Told}
use Rattle.judge_spec.specs.Map.{MapRoot, IsRootOfMap}
use Rattle.judge_spec.specs.MapText.{space_lines, root_text}
use Rattle.pci_map.specs.Buses.{IsSpaceTold, AreRootsTold}

module _ (told : Told) (given : Given) (roots : List ℕ) (s : System) where
  pub told_nothing : (text : List ℕ) → AreRootsTold told given roots s [] text text
  told_nothing text = record { written = []; buses = refl; each = λ root has. absurd (in_nil root has); text = sym (append-nil text) }

  pub told_no_root : (bus : ℕ) (text : List ℕ) → is_root roots bus ≡ false → AreRootsTold told given roots s (bus ∷ []) text text
  told_no_root bus text not_root = record {
    written = [];
    buses = ap (λ b. cond b (bus ∷ []) []) (sym not_root);
    each = λ root has. absurd (in_nil root has);
    text = sym (append-nil text);
  }

  pub told_root : (bus : ℕ) (old mid new : List ℕ) → is_root roots bus ≡ true → IsSpaceTold record { told = told; given = given; roots = roots; system = s; space = Io } bus old mid → IsSpaceTold record { told = told; given = given; roots = roots; system = s; space = Memory } bus mid new
      → AreRootsTold told given roots s (bus ∷ []) old new
  told_root bus old mid new root io memory =
      let one : MapRoot = record { bus = bus; io = io.x; memory = memory.x } in record {
        written = one ∷ [];
        buses = ap (λ b. cond b (bus ∷ []) []) (sym root);
        each = λ r has. elim (in_cons_cases one [] r has) [
          | inl here ↦ subst (IsRootOfMap told given roots s) here (record { io = io.are; memory = memory.are })
          | inr none ↦ absurd (in_nil r none)
        ];
        text = memory.text ∙ ap (λ t. t ++ space_lines given bus Memory memory.x) io.text
            ∙ append_assoc old (space_lines given bus Io io.x) (space_lines given bus Memory memory.x)
            ∙ ap (λ t. old ++ t) (sym (append-nil (root_text given one)));
      }

  pub told_both : (buses more : List ℕ) (old mid new : List ℕ) → AreRootsTold told given roots s buses old mid → AreRootsTold told given roots s more mid new → AreRootsTold told given roots s (buses ++ more) old new
  told_both buses more old mid new first second = record {
    written = first.written ++ second.written;
    buses = map-append (λ root. root.bus) first.written second.written
        ∙ ap (λ bs. bs ++ map (λ (root : MapRoot). root.bus) second.written) first.buses
        ∙ ap (λ bs. filter (is_root roots) buses ++ bs) second.buses
        ∙ sym (filter-append (is_root roots) buses more);
    each = λ root has. elim (Contains-append_cases first.written second.written root has) [
      | inl early ↦ first.each root early
      | inr late ↦ second.each root late
    ];
    text = second.text ∙ ap (λ t. t ++ flat_map (root_text given) second.written) first.text
        ∙ append_assoc old (flat_map (root_text given) first.written) (flat_map (root_text given) second.written)
        ∙ ap (λ t. old ++ t) (sym (flat_map-append (root_text given) first.written second.written));
  }

one_longer : (low n : ℕ) → range_with_len low (suc n) ≡ range_with_len low n ++ (low + n) ∷ []
one_longer low zero = ap (λ k. k ∷ []) (let e : low ≡ low + 0 = omega arith in e)
one_longer low (suc n) = ap (λ bs. low ∷ bs) (one_longer (low + 1) n ∙ ap (λ k. range_with_len (low + 1) n ++ k ∷ []) (let e : low + 1 + n ≡ low + suc n = omega arith in e))

-- one more bus
pub told_more : (told : Told) (given : Given) (roots : List ℕ) (s : System) (k bus : ℕ) (old mid new : List ℕ) → bus ≡ k → AreRootsTold told given roots s (range_with_len 0 k) old mid → AreRootsTold told given roots s (bus ∷ []) mid new
    → AreRootsTold told given roots s (range_with_len 0 (k + 1)) old new
told_more told given roots s k bus old mid new is first second =
    subst (λ bs. AreRootsTold told given roots s bs old new)
    (ap (λ b. range_with_len 0 k ++ b ∷ []) (is ∙ (let z : k ≡ 0 + k = omega arith in z)) ∙ sym (one_longer 0 k) ∙ ap (range_with_len 0) (let e : suc k ≡ k + 1 = omega arith in e))
    (told_both told given roots s (range_with_len 0 k) (bus ∷ []) old mid new first second)

-- ---- whether a bus is one

pub its_root : (roots flagged : List ℕ) (bus : ℕ) (b : Bool) → flagged ≡ roots → IsTrue b ↔ Contains flagged bus → b ≡ true → Contains roots bus
its_root roots flagged bus b same means is = subst (λ rs. Contains rs bus) same (means.0 is)

pub root_if : (roots flagged : List ℕ) (bus : ℕ) (b : Bool) → flagged ≡ roots → IsTrue b ↔ Contains flagged bus → b ≡ true → is_root roots bus ≡ true
root_if roots flagged bus b same means is = (root_means roots bus).1 (subst (λ rs. Contains rs bus) same (means.0 is))

pub root_not : (roots flagged : List ℕ) (bus : ℕ) (b : Bool) → flagged ≡ roots → IsTrue b ↔ Contains flagged bus → b ≡ false → is_root roots bus ≡ false
root_not roots flagged bus b same means isnt = elim (cases_Bool (is_root roots bus)) [
  | inl root ↦ absurd (both_ways b isnt (means.1 (subst (λ rs. Contains rs bus) (sym same) ((root_means roots bus).0 root))))
  | inr none ↦ none
]
