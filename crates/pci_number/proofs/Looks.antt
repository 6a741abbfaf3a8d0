-- What a look finds.
use Rattle.std.proofs.Common.{◌≡◌, ℕ, ◌+◌, ◌*◌, ◌/◌, ◌%◌, ◌<◌, ◌≤◌, ◌≢◌, inl, inr, List, Bool, true, false, arith, refl, sym, ◌∙◌, ap, subst}
use Rattle.std.specs.Bool.{◌==◌, if◌then◌else◌}
use Rattle.std.proofs.lemmas.Bool.{cases_lt, cases_eq, both_ways, eqb-true, eqb-false, eq-eqb}
use Rattle.pci_spec.specs.Slot.{Slot}
use Rattle.pci_spec.specs.Number.{byte_at, has_bit}
use Rattle.pci_spec.specs.Header.{vendor_id}
use Rattle.pci_number.specs.Board.{Nodes, NoMore, Node, Board}
use Rattle.pci_number.specs.Access.{IsByteRead}
use Rattle.pci_number.specs.Walk.{all_after, is_walkable}
use Rattle.pci_number.specs.Seen.{View, code, IsSeen, AreLastNodes}
use Rattle.pci_number.specs.Steps.{IsLook, Absent, There}
use Rattle.pci_number.proofs.Here.{read_here, read_nothing}

-- a node is at the first place of a rest, or it isn't
data First (slot : Slot) (device : ℕ) (more : Bool) (rest : Nodes) : Type 0 where
  Own : (image : List ℕ) (behind others : Nodes) → rest ≡ Node slot.device slot.function image behind others → vendor_id image ≢ 0xffff → (slot.function ≢ 0 → (slot.device ≡ device) × (more ≡ true)) → is_walkable behind ≡ true → all_after slot.device slot.function others ≡ true → AreLastNodes (code slot + 1) (if slot.function == 0 then slot.device else device) (if slot.function == 0 then has_bit (byte_at image 14) 7 else more) others → First slot device more rest
  Later : AreLastNodes (code slot + 1) device more rest → First slot device more rest

at_slot : (slot : Slot) (device : ℕ) (more : Bool) (d f : ℕ) (image : List ℕ) (behind others : Nodes) → d ≡ slot.device → f ≡ slot.function → AreLastNodes (code slot) device more (Node d f image behind others) → First slot device more (Node d f image behind others)
at_slot slot device more d f image behind others same_device same_function =
    subst (λ x. AreLastNodes (code slot) device more (Node x f image behind others) → First slot device more (Node x f image behind others)) (sym same_device)
    (subst (λ y. AreLastNodes (code slot) device more (Node slot.device y image behind others) → First slot device more (Node slot.device y image behind others)) (sym same_function)
    (λ own. Own image behind others refl own.2 own.3 own.4 own.5 own.7))

first : (slot : Slot) (device : ℕ) (more : Bool) (rest : Nodes) → slot.function ≤ 7 → AreLastNodes (code slot) device more rest → First slot device more rest
first slot device more NoMore low is = Later tt
first slot device more (Node d f image behind others) low is = elim (cases_lt (code slot) (d * 8 + f)) [
  | inl above ↦ Later (omega (arith, above), is.1, is.2, is.3, is.4, is.5, is.6, is.7)
  | inr here ↦
      let from : code slot ≤ d * 8 + f = is.0 in
      let below : f < 8 = is.1 in
      at_slot slot device more d f image behind others (omega (arith, here, from, below, low)) (omega (arith, here, from, below, low)) is
]

-- function 0 tells whether there are more, and where it isn't there no device has
forget : (slot : Slot) (device : ℕ) (more : Bool) (rest : Nodes) → slot.function ≡ 0 → (more ≡ true → device * 8 + 1 ≤ code slot) → AreLastNodes (code slot + 1) device more rest → AreLastNodes (code slot + 1) device false rest
forget slot device false rest zero past is = is
forget slot device true NoMore zero past is = tt
forget slot device true (Node d f image behind others) zero past is =
    let before = past refl in
    let from : code slot + 1 ≤ d * 8 + f = is.0 in
    let below : f < 8 = is.1 in
    let of_first : f ≡ 0 = elim (cases_eq f 0) [
      | inl none ↦ none
      | inr some ↦ let same : d ≡ device = (is.3 some).0 in absurd (omega (arith, before, from, below, same, zero))
    ] in
    let test : (f == 0) ≡ true = eq-eqb f 0 of_first in
    (is.0, is.1, is.2, (λ some. absurd (some of_first)), is.4, is.5, is.6, rw test (rw test at is.7))

module _ (v : View) (high last : ℕ) (slot : Slot) (device : ℕ) (more : Bool) (rest : Nodes) (board : Board) (is : board ≡ v.fill rest) (seen : IsSeen v slot.bus (code slot) high last) (low : slot.function ≤ 7) (past : more ≡ true → device * 8 + 1 ≤ code slot) (has : AreLastNodes (code slot) device more rest) where
  earlier : more ≡ true → device * 8 ≤ code slot
  earlier more_are = omega (arith, past more_are)

  pub not_looked : (slot.function == 0) ≡ false → more ≡ false → IsLook slot (record { bridge = false; more = more }) rest
  not_looked later none = elim (first slot device more rest low has) [
    | Own image behind others same vendor by_first walkable after others_are ↦ absurd (both_ways more none (by_first (eqb-false slot.function 0 later)).1)
    | Later others_are ↦ Absent device refl earlier others_are
  ]

  vendor_of : (image : List ℕ) (behind others : Nodes) → rest ≡ Node slot.device slot.function image behind others → all_after slot.device slot.function others ≡ true → (l h : ℕ) → IsByteRead board slot 0 l → IsByteRead board slot 1 h → vendor_id image ≡ l + h * 256
  vendor_of image behind others same after l h read_l read_h =
      let node = is ∙ ap v.fill same in
      let le : l ≡ byte_at image 0 = read_here v high last slot seen board image behind others node after 0 l read_l in
      let he : h ≡ byte_at image 1 = read_here v high last slot seen board image behind others node after 1 h read_h in
      omega (arith, le, he)

  nothing_there : (l h : ℕ) → IsByteRead board slot 0 l → IsByteRead board slot 1 h → l + h * 256 ≡ 0xffff → AreLastNodes (code slot + 1) device more rest
  nothing_there l h read_l read_h none = elim (first slot device more rest low has) [
    | Own image behind others same vendor by_first walkable after others_are ↦ absurd (vendor (vendor_of image behind others same after l h read_l read_h ∙ none))
    | Later others_are ↦ others_are
  ]

  pub none_first : (l h : ℕ) → IsByteRead board slot 0 l → IsByteRead board slot 1 h → l + h * 256 ≡ 0xffff → (slot.function == 0) ≡ true → IsLook slot (record { bridge = false; more = false }) rest
  none_first l h read_l read_h none zero = Absent device refl (λ never. cc never) (forget slot device more rest (eqb-true slot.function 0 zero) past (nothing_there l h read_l read_h none))

  pub none_later : (l h : ℕ) → IsByteRead board slot 0 l → IsByteRead board slot 1 h → l + h * 256 ≡ 0xffff → IsLook slot (record { bridge = false; more = more }) rest
  none_later l h read_l read_h none = Absent device refl earlier (nothing_there l h read_l read_h none)

  some : (l h : ℕ) → IsByteRead board slot 0 l → IsByteRead board slot 1 h → l + h * 256 ≢ 0xffff → AreLastNodes (code slot + 1) device more rest → ⊥
  some l h read_l read_h there none =
      let le = read_nothing v high last slot seen board device more rest is low none 0 l read_l in
      let he = read_nothing v high last slot seen board device more rest is low none 1 h read_h in
      there (omega (arith, le, he))

  pub there_first : (l h n : ℕ) → IsByteRead board slot 0 l → IsByteRead board slot 1 h → l + h * 256 ≢ 0xffff → IsByteRead board slot 14 n → (slot.function == 0) ≡ true → IsLook slot (record { bridge = n % 128 == 1; more = n / 128 % 2 == 1 }) rest
  there_first l h n read_l read_h there read_n zero = elim (first slot device more rest low has) [
    | Later none ↦ absurd (some l h read_l read_h there none)
    | Own image behind others same vendor by_first walkable after others_are ↦
        let e : n ≡ byte_at image 14 = read_here v high last slot seen board image behind others (is ∙ ap v.fill same) after 14 n read_n in
        There image behind others slot.device same (ap (λ m. m % 128 == 1) (sym e)) walkable after (λ more_are. omega arith)
        (subst (λ b. AreLastNodes (code slot + 1) slot.device b others) (ap (λ m. m / 128 % 2 == 1) (sym e)) (rw zero at others_are))
  ]

  pub there_later : (l h n : ℕ) → IsByteRead board slot 0 l → IsByteRead board slot 1 h → l + h * 256 ≢ 0xffff → IsByteRead board slot 14 n → (slot.function == 0) ≡ false → IsLook slot (record { bridge = n % 128 == 1; more = more }) rest
  there_later l h n read_l read_h there read_n later = elim (first slot device more rest low has) [
    | Later none ↦ absurd (some l h read_l read_h there none)
    | Own image behind others same vendor by_first walkable after others_are ↦
        let e : n ≡ byte_at image 14 = read_here v high last slot seen board image behind others (is ∙ ap v.fill same) after 14 n read_n in
        There image behind others device same (ap (λ m. m % 128 == 1) (sym e)) walkable after earlier (rw later at others_are)
  ]
