-- The line of an MSI capability, by its numbers.
use Rattle.std.proofs.Common.{◌≡◌, ◌≢◌, ℕ, ◌+◌, ◌*◌, ◌^◌, ◌==◌, true, false, List, refl, sym, ◌∙◌, ap, arith}
use Rattle.std.proofs.lemmas.Bool.{eq-eqb, ne_eqb}
use Rattle.std.specs.Int.{bit_at}
use Rattle.pci_spec.specs.Number.{number_at, has_bit}
use Rattle.pci_spec.specs.Capability.{capability_id, message_control}
use Rattle.pci_spec.specs.Listing.{capability_line, message_line, message_address, message_value}

-- a line of equal numbers
same_line : (place : ℕ) {control control' address address' value value' : ℕ} → control ≡ control' → address ≡ address' → value ≡ value'
    → message_line place control address value ≡ message_line place control' address' value'
same_line place {control} {control'} {address} {address'} {value} {value'} c a v =
    ap (λ n. message_line place n address value) c ∙ ap (λ n. message_line place control' n value) a ∙ ap (λ n. message_line place control' address' n) v

-- with an address of 64 bits
pub message_line-wide : (image : List ℕ) (place : ℕ) {control lower upper value : ℕ} → control ≡ message_control image place → bit_at control 7 ≡ 1
    → lower ≡ number_at image (place + 4) 4 → upper ≡ number_at image (place + 8) 4 → value ≡ number_at image (place + 12) 2
    → message_line place control (lower + upper * 2 ^ 32) value ≡ message_line place (message_control image place) (message_address image place) (message_value image place)
message_line-wide image place {control} {lower} {upper} {value} c wide l u v =
    let test : has_bit (message_control image place) 7 ≡ true = eq-eqb (bit_at (message_control image place) 7) 1 (ap (λ n. bit_at n 7) (sym c) ∙ wide) in
    let address : lower + upper * 2 ^ 32 ≡ message_address image place = rw test (omega (arith, l, u)) in
    let data_at : value ≡ message_value image place = rw test v in
    same_line place c address data_at

-- and of 32 bits
pub message_line-narrow : (image : List ℕ) (place : ℕ) {control lower value : ℕ} → control ≡ message_control image place → bit_at control 7 ≢ 1
    → lower ≡ number_at image (place + 4) 4 → value ≡ number_at image (place + 8) 2
    → message_line place control lower value ≡ message_line place (message_control image place) (message_address image place) (message_value image place)
message_line-narrow image place {control} {lower} {value} c narrow l v =
    let test : has_bit (message_control image place) 7 ≡ false = ne_eqb (bit_at (message_control image place) 7) 1 (λ e. narrow (ap (λ n. bit_at n 7) c ∙ e)) in
    let address : lower ≡ message_address image place = rw test (omega (arith, l)) in
    let data_at : value ≡ message_value image place = rw test v in
    same_line place c address data_at

-- the line of a capability whose ID is that of MSI
pub capability_line-message : (image : List ℕ) (place : ℕ) → capability_id image place ≡ 5
    → capability_line image place ≡ message_line place (message_control image place) (message_address image place) (message_value image place)
capability_line-message image place id =
    let power : (capability_id image place == 1) ≡ false = ne_eqb (capability_id image place) 1 (λ e. omega (arith, id, e)) in
    let message : (capability_id image place == 5) ≡ true = eq-eqb (capability_id image place) 5 id in
    rw (power, message) refl
