-- Names of functions and buses: where they are cut, and that one name is of one thing.
use Rattle.std.proofs.Common.{◌≡◌, ℕ, ◌<◌, ◌≤◌, ◌^◌, List, ◌∷◌, ◌++◌, length, drop, Option, None, Some, MatchOption, Bor, refl, sym, ◌∙◌, ap, subst, arith}
use Rattle.std.proofs.Math.Nat.{pow-le-pow_right}
use Rattle.std.specs.Str.Pattern.{FindsTextPrefix, StripsPrefix}
use Rattle.std.proofs.lemmas.Str.Pattern.{IsSplitOnceResult, split_after, split_parts}
use Rattle.pci_spec.specs.Slot.{Slot}
use Rattle.pci_spec.specs.Text.{hex_byte, slot_text}
use Rattle.pci_spec.proofs.SizesTexts.{same_back}
use Rattle.pciplan_lists.specs.PoolWords.{IsAddressWord}
use Rattle.pciplan_lists.specs.SlotWords.{IsSlotWord}
use Rattle.pciplan_lists.proofs.PoolWords.{length_address, address_same}
use Rattle.pciplan_lists.proofs.RangeWords.{no_colon, without_address}
use Rattle.pci_here.specs.Place.{FunctionPlace, IsDomainWord, IsPlaceName}
use Rattle.pci_here.specs.declared.bus.Bus.{Bus}
use Rattle.pci_here.specs.Bus.{IsBusName}

-- eight digits have 32 bits
pub domain_small : (word : List ℕ) (domain : ℕ) → IsAddressWord word domain → length word ≤ 8 → domain < 2 ^ 32
domain_small word domain is few =
    let most : 16 ^ is.digits ≤ 16 ^ 8 = pow-le-pow_right {n = 16} (omega arith) {i = is.digits} {j = 8} (omega (arith, few, length_address word domain is)) in
    omega (arith, is.below, most)

pub domain_same : (word : List ℕ) (a b : ℕ) → IsAddressWord word a → IsDomainWord word b → a ≡ b
domain_same word a b of_a of_b = address_same word a b of_a of_b.number

-- what begins with a domain and a colon is cut at that colon
pub cut_domain : (text word tail : List ℕ) (domain : ℕ) → IsDomainWord word domain → text ≡ word ++ 58 ∷ tail
    → (cut : Option (Bor (List ℕ) × Bor (List ℕ))) → IsSplitOnceResult 58 text cut
    → MatchOption cut ⊥ (λ parts. IsDomainWord parts.0.now domain × (parts.1.now ≡ tail))
cut_domain text word tail domain is parts None cut =
    split_after 58 text word tail None cut (omega arith) parts (without_address 58 no_colon word domain is.number)
cut_domain text word tail domain is parts (Some cut) result =
    let same = split_after 58 text word tail (Some cut) result (omega arith) parts (without_address 58 no_colon word domain is.number) in
    (subst (λ w. IsDomainWord w domain) (sym same.0) is, same.1)

pub place_parts : (name : List ℕ) (p : FunctionPlace) → IsPlaceName name p
    → (cut : Option (Bor (List ℕ) × Bor (List ℕ))) → IsSplitOnceResult 58 name cut
    → MatchOption cut ⊥ (λ parts. IsDomainWord parts.0.now p.domain × IsSlotWord parts.1.now p.slot)
place_parts name p is None result = cut_domain name is.word (slot_text p.slot) p.domain is.domain is.text None result
place_parts name p is (Some parts) result =
    let cut = cut_domain name is.word (slot_text p.slot) p.domain is.domain is.text (Some parts) result in
    (cut.0, (is.slot, cut.1))

pub bus_parts : (name : List ℕ) (b : Bus) → IsBusName name b
    → (cut : Option (Bor (List ℕ) × Bor (List ℕ))) → IsSplitOnceResult 58 name cut
    → MatchOption cut ⊥ (λ parts. IsDomainWord parts.0.now b.domain × (parts.1.now ≡ hex_byte b.number))
bus_parts name b is cut result = cut_domain name is.word (hex_byte b.number) b.domain is.domain is.text cut result

-- the whole of a name, from its parts
pub place_there : (name : List ℕ) (parts : Bor (List ℕ) × Bor (List ℕ)) (domain : ℕ) (slot : Slot) → IsSplitOnceResult 58 name (Some parts)
    → IsDomainWord parts.0.now domain → IsSlotWord parts.1.now slot → IsPlaceName name record { domain = domain; slot = slot }
place_there name parts domain slot result is_domain is_slot =
    let cut = split_parts 58 name (Some parts) result (omega arith) in
    record {
      word = parts.0.now;
      domain = is_domain;
      slot = is_slot.0;
      text = cut.0 ∙ ap (λ t. parts.0.now ++ 58 ∷ t) is_slot.1;
    }

pub bus_there : (name : List ℕ) (parts : Bor (List ℕ) × Bor (List ℕ)) (domain number : ℕ) → IsSplitOnceResult 58 name (Some parts)
    → IsDomainWord parts.0.now domain → (number < 256) × (parts.1.now ≡ hex_byte number) → IsBusName name record { domain = domain; number = number }
bus_there name parts domain number result is_domain is_bus =
    let cut = split_parts 58 name (Some parts) result (omega arith) in
    record {
      word = parts.0.now;
      domain = is_domain;
      below = is_bus.0;
      text = cut.0 ∙ ap (λ t. parts.0.now ++ 58 ∷ t) is_bus.1;
    }

-- a beginning of a text that is stripped off
pub stripped : (front text : List ℕ) (cut : Option (Bor (List ℕ)))
    → MatchOption cut (FindsTextPrefix front text None) (λ x. StripsPrefix (FindsTextPrefix front) text x.now)
    → (rest : List ℕ) → text ≡ front ++ rest → MatchOption cut ⊥ (λ x. x.now ≡ rest)
stripped front text None none rest is = none rest is
stripped front text (Some x) strips rest is =
    strips.2 ∙ same_back front (drop strips.0 text) front rest refl (sym strips.1.1 ∙ is)

pub strip_there : (front text : List ℕ) (x : Bor (List ℕ)) → StripsPrefix (FindsTextPrefix front) text x.now → text ≡ front ++ x.now
strip_there front text x strips = strips.1.1 ∙ ap (λ t. front ++ t) (sym strips.2)

pub place_same : (p : FunctionPlace) (domain : ℕ) (slot : Slot) → domain ≡ p.domain → slot ≡ p.slot → Some (record { domain = domain; slot = slot }) ≡ Some p
place_same p domain slot of_domain of_slot = λ i. Some record { domain = of_domain i; slot = of_slot i }

pub bus_same : (b : Bus) (domain number : ℕ) → domain ≡ b.domain → number ≡ b.number → Some (record { domain = domain; number = number }) ≡ Some b
bus_same b domain number of_domain of_number = λ i. Some record { domain = of_domain i; number = of_number i }
