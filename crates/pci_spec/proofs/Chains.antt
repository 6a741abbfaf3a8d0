-- A capabilities list is one where none of its faults is there.
use Rattle.std.proofs.Common.{◌≡◌, ◌≢◌, ℕ, zero, suc, ◌+◌, ◌<◌, ◌⊎◌, inl, inr, List, length, map, refl, arith, sym, ◌∙◌, ap, subst}
use Rattle.std.specs.List.{range_with_len}
use Rattle.std.proofs.lemmas.Bool.{cases_lt, cases_eq}
use Rattle.std.proofs.lemmas.List.{length-map}
use Rattle.std.proofs.lemmas.List.FromFn.{get_or-map-range_with_len, length-range_with_len}
use Rattle.pci_spec.specs.Number.{IsImage}
use Rattle.pci_spec.specs.Capability.{pointer, body_length, HasChain, IsChain}
use Rattle.pci_spec.specs.SoundLaws.{HasNoChainFault, ChainWithoutFaults}
use Rattle.pci_spec.proofs.Walks.{walk-at_most_48, pointer-quarter, chain-no_low_place, chain-no_loop, chain-no_cut_body}

-- the first step at which the walk has ended
record EndsAt (image : List ℕ) (k : ℕ) : Type 0 where
  end : pointer image k ≡ 0
  before : (i : ℕ) → i < k → pointer image i ≢ 0

-- of the first so many steps one is the end, or none is
end_among : (image : List ℕ) (n : ℕ) → ((k : ℕ) × EndsAt image k) ⊎ ((i : ℕ) → i < n → pointer image i ≢ 0)
end_among image zero = inr (λ i less. absurd (let no : ⊥ = omega (arith, less) in no))
end_among image (suc n) = elim (end_among image n) [
  | inl found ↦ inl found
  | inr none ↦ elim (cases_eq (pointer image n) 0) [
    | inl end ↦ inl (n, record { end = end; before = none })
    | inr on ↦ inr (λ i less. elim (cases_eq i n) [
      | inl same ↦ subst (λ m. pointer image m ≢ 0) (sym same) on
      | inr differ ↦ none i (omega (arith, less, differ))
    ])
  ]
]

-- the places up to the end
abbrev places_to : List ℕ → ℕ → List ℕ
places_to image k = map (pointer image) (range_with_len 0 k)

length-places : (image : List ℕ) (k : ℕ) → length (map (pointer image) (range_with_len 0 k)) ≡ k
length-places image k = length-map (range_with_len 0 k) (pointer image) ∙ length-range_with_len 0 k

-- a walk that has ended without a fault is a chain
chain_of : (image : List ℕ) (k : ℕ) → IsImage image → HasNoChainFault image → EndsAt image k → IsChain image (places_to image k)
chain_of image k is none ends =
    let long = length-places image k in
    let on : (n : ℕ) → n < length (places_to image k) → pointer image n ≢ 0 = λ n less. ends.before n (omega (arith, long, less)) in
    record {
      each = λ n less. get_or-map-range_with_len (pointer image) 0 k n n 0 (omega (arith, long, less)) (omega arith);
      end = ap (pointer image) long ∙ ends.end;
      in_range = λ n less. (
        elim (cases_lt (pointer image n) 0x40) [
          | inl low ↦ absurd (none.high (pointer image n) ((n, refl, on n less), low))
          | inr high ↦ high
        ],
        (pointer-quarter image n is).1,
      );
      distinct = λ m n before less same. none.once (pointer image m) (m, n, before, refl, sym same, on m (omega (arith, before, less)));
      bodies = λ n less. elim (cases_lt 256 (pointer image n + body_length image (pointer image n))) [
        | inl cut ↦ absurd (none.whole (pointer image n) ((n, refl, on n less), cut))
        | inr fits ↦ fits
      ];
    }

-- and it ends: else it would come to 49 places
ends : (image : List ℕ) → IsImage image → HasNoChainFault image → (k : ℕ) × EndsAt image k
ends image is none = elim (end_among image 49) [
  | inl found ↦ found
  | inr on ↦
      let most = walk-at_most_48 image 49 is
      (λ n less. elim (cases_lt (pointer image n) 0x40) [
        | inl low ↦ absurd (none.high (pointer image n) ((n, refl, on n less), low))
        | inr high ↦ high
      ])
      (λ m n before less same. none.once (pointer image m) (m, n, before, refl, sym same, on m (omega (arith, before, less)))) in
      absurd (let no : ⊥ = omega (arith, most) in no)
]

pub chain_without_faults : ChainWithoutFaults
chain_without_faults image is = (
  λ (chain : HasChain image). record {
    high = λ place low. chain-no_low_place image place chain low;
    once = λ place twice. chain-no_loop image place chain twice;
    whole = λ place cut. chain-no_cut_body image place chain cut;
  },
  λ (none : HasNoChainFault image). (let found = ends image is none in (places_to image found.0, chain_of image found.0 is none found.1)),
)
