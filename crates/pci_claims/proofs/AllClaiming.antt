-- All claims of a bus: those of regions that registers show, with those of told ranges.
use Rattle.std.proofs.Common.{◌≡◌, ℕ, zero, suc, ◌+◌, ◌<◌, ◌≤◌, ◌⊎◌, inl, inr, List, [], ◌∷◌, ◌++◌, get_or, Bool, true, false, ◌&&◌, ◌||◌, refl, sym, ◌∙◌, ap, subst, arith, append_assoc, append-nil, Some, None}
use Rattle.std.specs.Prelude.{◌↔◌, IsTrue}
use Rattle.std.specs.Bool.{◌==◌}
use Rattle.std.specs.List.{AllPairs, Contains, slice_get}
use Rattle.std.specs.List.Sorted.{IsPermutation, IsNonDecreasingBy}
use Rattle.std.proofs.Math.Bool.{or-false}
use Rattle.std.proofs.lemmas.Bool.{eq-eqb, ne_eqb, or_from, cases_eq, cases_lt}
use Rattle.std.proofs.lemmas.List.{get_or-map}
use Rattle.std.proofs.lemmas.List.Quantifiers.{all_pairs_push}
use Rattle.std.proofs.lemmas.Option.{slice_get_within, get_or_from_slice_get}
use Rattle.std.proofs.lemmas.List.Elements.{Contains-get_or, Contains-push, Contains-push_cases, Contains-append_left, Contains-append_right, Contains-append_cases}
use Rattle.std.proofs.lemmas.List.Sorted.{Contains-permutation, IsPermutation-sym}
use Rattle.pci_spec.specs.Slot.{Slot, IsSlot, same_slot}
use Rattle.pci_spec.specs.System.{System, Space}
use Rattle.pci_spec.specs.Bus.{IsNested}
use Rattle.pci_spec.specs.Fault.{RegionName, address_in, named_region}
use Rattle.pci_spec.proofs.Firsts.{slot_of}
use Rattle.pci_spec.proofs.Members.{in_nil, pairs_append, pairs_nil}
use Rattle.pci_base.specs.declared.range.Range.{Range}
use Rattle.pci_tree.specs.Ranges.{Covers}
use Rattle.pci_tree.specs.Outline.{Tree}
use Rattle.pci_tree.specs.Trees.{HasTree}
use Rattle.judge_spec.specs.Given.{Given, starts}
use Rattle.judge_spec.specs.Claims.{Gets}
use Rattle.judge_spec.specs.Claims as untold
use Rattle.judge_spec.specs.Told.{ToldRange, IsTold, IsToldRange}
use Rattle.judge_spec.specs.ToldClaims.{Told, ClaimsOnBus, RangeClaimsOnBus, is_held, is_held_from, is_marked_held, is_range_on, may_share}
use Rattle.judge_spec.proofs.Naming.{named_register}
use Rattle.judge_spec.proofs.ToldAdds.{low_not_held, told_claim_addresses}
use Rattle.pci_claims.specs.declared.all_claims.Stretch.{Stretch}
use Rattle.pci_claims.specs.Claim.{Claimed, may_both_claim}
use Rattle.pci_claims.specs.BusClaims.{claim_number, AreRegisterClaimsOn, AreMoreClaims}
use Rattle.pci_claims.specs.Gathered.{IsCommon}
use Rattle.pci_claims.specs.Reached.{IsAccessReach}
use Rattle.pci_claims.specs.ToldOn.{AreOnIn}
use Rattle.pci_claims.specs.AllClaims.{IsClaimWith, IsClaimOnBus, AreClaimsOn, IsStretchOf, IsClaimOfRange, IsOnAt, AreRangeClaims}
use Rattle.pci_claims.proofs.Making.{rise_in_order}
use Rattle.pci_claims.proofs.Rooted.{sent_there}

-- ---- the mark of a register

none_before : (first : ℕ) (ranges : List ToldRange) (register : ℕ) → register < first → is_held_from first ranges register ≡ false
none_before first [] register less = refl
none_before first (r ∷ ranges) register less =
    or_from ((first == register) && is_marked_held r.mark) (is_held_from (first + 1) ranges register)
    (ap (λ b. b && is_marked_held r.mark) (ne_eqb first register (λ e. omega (arith, e, less))))
    (none_before (first + 1) ranges register (omega (arith, less)))

its_mark : (first : ℕ) (ranges : List ToldRange) (index register : ℕ) (r : ToldRange) → register ≡ first + index → slice_get ranges index ≡ Some r → is_held_from first ranges register ≡ is_marked_held r.mark
its_mark first [] index register r place at = let e : None ≡ Some r = at in absurd cc
its_mark first (x ∷ ranges) zero register r place at =
    let e : Some x ≡ Some r = at in
    let same : x ≡ r = cc in
    ap (λ b. (b && is_marked_held x.mark) || is_held_from (first + 1) ranges register) (eq-eqb first register (omega (arith, place)))
    ∙ ap (λ b. is_marked_held x.mark || b) (none_before (first + 1) ranges register (omega (arith, place)))
    ∙ or-false (is_marked_held x.mark)
    ∙ ap (λ (y : ToldRange). is_marked_held y.mark) same
its_mark first (x ∷ ranges) (suc index) register r place at =
    ap (λ b. (b && is_marked_held x.mark) || is_held_from (first + 1) ranges register) (ne_eqb first register (λ e. omega (arith, e, place)))
    ∙ its_mark (first + 1) ranges index register r (omega (arith, place)) at

-- two claims share what their regions do
pub share_by_marks : (told : Told) (c d : Claimed) → c.held ≡ is_held told c.register → d.held ≡ is_held told d.register → may_both_claim c d ≡ may_share told c.slot c.register d.slot d.register
share_by_marks told c d one other =
    ap (λ b. untold.may_share c.slot c.register d.slot d.register || (b && (d.held || same_slot c.slot d.slot)) || (d.held && (b || same_slot d.slot c.slot))) one
    ∙ ap (λ b. untold.may_share c.slot c.register d.slot d.register || (is_held told c.register && (b || same_slot c.slot d.slot)) || (b && (is_held told c.register || same_slot d.slot c.slot))) other

-- ---- told ranges that are on

pub claim_of_range : (r : ToldRange) (number : ℕ) (reach : List Range) (held : Bool) (own pieces : List Range) → held ≡ is_marked_held r.mark
    → ((a : ℕ) → Covers own a ↔ ((r.first ≤ a) × (a ≤ r.last))) → IsCommon own reach pieces → IsClaimOfRange r number reach record { slot = r.slot; register = number; held = held; pieces = pieces }
claim_of_range r number reach held own pieces marked exact is = record {
  slot = refl;
  register = refl;
  held = marked;
  exact = λ a. (
    λ (h : Covers pieces a). (let both = (is.exact a).0 h in ((exact a).0 both.0, both.1)),
    λ (h : ((r.first ≤ a) × (a ≤ r.last)) × Covers reach a). (is.exact a).1 ((exact a).1 h.0, h.1),
  );
}

same_range : (ranges : List ToldRange) (k : ℕ) (r q : ToldRange) → slice_get ranges k ≡ Some r → slice_get ranges k ≡ Some q → r ≡ q
same_range ranges k r q one other = let e : Some r ≡ Some q = sym one ∙ other in cc

module _ (told : Told) (t : Tree) (on : List Bool) (are_on : AreOnIn told t on) (s : System) (tree : HasTree t s) where
  pub on_at : (k : ℕ) (r : ToldRange) → slice_get told.ranges k ≡ Some r → get_or on k false ≡ is_range_on told s r
  on_at k r at =
      ap (λ (l : List Bool). get_or l k false) (are_on.each s tree)
      ∙ get_or-map (is_range_on told s) told.ranges k r false (slice_get_within told.ranges k r at)
      ∙ ap (is_range_on told s) (get_or_from_slice_get told.ranges k r r at)

  module _ (is_told : IsTold told.ranges) (bus : ℕ) (space : Space) (stretch : Stretch) (is_stretch : IsStretchOf told.ranges bus stretch)
      (reach : List Range) (more : List Claimed) (ranges : AreRangeClaims told.ranges on stretch.first stretch.end space reach more) where
    -- the index of a range of the bus
    within_stretch : (k : ℕ) (r : ToldRange) → slice_get told.ranges k ≡ Some r → r.slot.bus ≡ bus → (stretch.first ≤ k) × (k < stretch.end)
    within_stretch k r at on_bus =
        let inside = slice_get_within told.ranges k r at in
        let its : (get_or told.ranges k r).slot.bus ≡ bus = ap (λ (x : ToldRange). x.slot.bus) (get_or_from_slice_get told.ranges k r r at) ∙ on_bus in (
          elim (cases_lt k stretch.first) [
            | inl less ↦ absurd (let low = is_stretch.before k r (omega arith) less in let no : ⊥ = omega (arith, low, its) in no)
            | inr from ↦ from
          ],
          elim (cases_lt k stretch.end) [
            | inl less ↦ less
            | inr past ↦ absurd (let high = is_stretch.after k r past inside in let no : ⊥ = omega (arith, high, its) in no)
          ],
        )

    -- a range of the stretch is of the bus
    bus_of_range : (k : ℕ) (r : ToldRange) → IsOnAt told.ranges on stretch.first stretch.end space k r → r.slot.bus ≡ bus
    bus_of_range k r is = sym (ap (λ (x : ToldRange). x.slot.bus) (get_or_from_slice_get told.ranges k r r is.at)) ∙ is_stretch.at k r is.from is.to

    range_is : (k : ℕ) (r : ToldRange) → slice_get told.ranges k ≡ Some r → IsToldRange r
    range_is k r at = subst IsToldRange (get_or_from_slice_get told.ranges k r r at) (is_told.each k r (slice_get_within told.ranges k r at))

    high_register : (c : Claimed) → Contains more c → (256 ≤ c.register) × (c.register < 8192)
    high_register c has =
        let (k, r, at, of) = ranges.each c has in
        let named = of.register in
        let inside = slice_get_within told.ranges k r at.at in
        let room = is_told.room in
        (omega (arith, named), omega (arith, named, inside, room))

    -- what the claim of a range has, the range claims,
    pub range_claims_it : (c : Claimed) → Contains more c → (a : ℕ) → Covers c.pieces a → Covers reach a × RangeClaimsOnBus told s bus (address_in space a) (named_region c.slot c.register)
    range_claims_it c has a h =
        let (k, r, is, of) = ranges.each c has in
        let both = (of.exact a).0 h in (
          both.1,
          record {
            r = r;
            named = record { index = k; at = is.at; slot = sym of.slot; register = sym of.register };
            on_the_bus = ap (λ (x : Slot). x.bus) of.slot ∙ bus_of_range k r is;
            claims = record { on = sym (on_at k r is.at) ∙ is.on; holds = (is.space, both.0.0, both.0.1) };
          },
        )

    -- and a range that claims an address has one
    pub claim_of_named : (a : ℕ) (region : RegionName) → RangeClaimsOnBus told s bus (address_in space a) region
        → (c : Claimed) × Contains more c × (c.slot ≡ region.slot) × (c.register ≡ region.register) × (Covers reach a → Covers c.pieces a)
    claim_of_named a region range =
        let on_bus : range.r.slot.bus ≡ bus = ap (λ (x : Slot). x.bus) range.named.slot ∙ range.on_the_bus in
        let within = within_stretch range.named.index range.r range.named.at on_bus in
        let holds = range.claims.holds in
        let (c, has, of) = ranges.complete range.named.index range.r record {
          from = within.0;
          to = within.1;
          at = range.named.at;
          on = on_at range.named.index range.r range.named.at ∙ range.claims.on;
          space = holds.0;
        } in
        (c, has, of.slot ∙ range.named.slot, of.register ∙ range.named.register, λ (h : Covers reach a). (of.exact a).1 ((holds.1, holds.2), h))

  module _ (is_told : IsTold told.ranges) (given : Given) (bus : ℕ) (space : Space) (stretch : Stretch) (is_stretch : IsStretchOf told.ranges bus stretch)
      (reach : List Range) (own more claims : List Claimed) (registers : AreRegisterClaimsOn given t.roots s bus space own)
      (ranges : AreRangeClaims told.ranges on stretch.first stretch.end space reach more)
      (gets : (c : Claimed) → Contains more c → IsAccessReach given t.roots s space bus reach) where
    -- ---- registers

    low_register : (c : Claimed) → Contains own c → c.register < 256
    low_register c has = (registers.named c has).register

    high : (c : Claimed) → Contains more c → (256 ≤ c.register) × (c.register < 8192)
    high c has = high_register is_told bus space stretch is_stretch reach more ranges c has

    register_claim : (c : Claimed) → Contains own c → IsClaimWith told given t.roots s bus space c
    register_claim c has a = (
      λ (h : Covers c.pieces a). (let both = (registers.each c has a).0 h in (both.0, inl both.1)),
      λ (h : Gets given t.roots s space a bus × ClaimsOnBus told given s bus (address_in space a) (named_region c.slot c.register)). elim h.1 [
        | inl own_it ↦ (registers.each c has a).1 (h.0, own_it)
        | inr range ↦ absurd (let low = low_register c has in let named = range.named.register in let no : ⊥ = omega (arith, low, named) in no)
      ],
    )

    range_claim : (c : Claimed) → Contains more c → IsClaimWith told given t.roots s bus space c
    range_claim c has a =
        let (k, r, is, of) = ranges.each c has in (
          λ (h : Covers c.pieces a). (
              let both = range_claims_it is_told bus space stretch is_stretch reach more ranges c has a h in
              ((((gets c has).exact a).0 both.0).1, inr both.1)),
          λ (h : Gets given t.roots s space a bus × ClaimsOnBus told given s bus (address_in space a) (named_region c.slot c.register)). elim h.1 [
            | inl own_it ↦ absurd (
                let low = named_register given s bus space a c.slot c.register own_it in
                let up = (high c has).0 in
                let no : ⊥ = omega (arith, low, up) in no)
            | inr range ↦ (
                let number = range.named.register in
                let named = of.register in
                let index : range.named.index ≡ k = omega (arith, number, named) in
                let same : range.r ≡ r = same_range told.ranges k range.r r (subst (λ n. slice_get told.ranges n ≡ Some range.r) index range.named.at) is.at in
                let holds = range.claims.holds in
                (of.exact a).1 (
                  (subst (λ (x : ToldRange). x.first ≤ a) same holds.1, subst (λ (x : ToldRange). a ≤ x.last) same holds.2),
                  ((gets c has).exact a).1 (told_claim_addresses told s (named_region c.slot c.register) range.r space a is_told range.named range.claims, h.0),
                ))
          ],
        )

    -- ---- names

    register_placed : (c : Claimed) → Contains own c → IsClaimOnBus bus c
    register_placed c has =
        let named = registers.named c has in
        let low = named.register in
        record { slot = subst IsSlot named.slot (slot_of s tree.system named.f named.listed); on_bus = named.on_bus; register = omega (arith, low) }

    range_placed : (c : Claimed) → Contains more c → IsClaimOnBus bus c
    range_placed c has =
        let (k, r, is, of) = ranges.each c has in
        record { slot = subst IsSlot (sym of.slot) (range_is is_told bus space stretch is_stretch reach more ranges k r is.at).line.slot; on_bus = ap (λ (x : Slot). x.bus) of.slot ∙ bus_of_range is_told bus space stretch is_stretch reach more ranges k r is; register = (high c has).1 }

    register_held : (c : Claimed) → Contains own c → c.held ≡ is_held told c.register
    register_held c has = registers.plain c has ∙ sym (low_not_held told c.register (low_register c has))

    range_held : (c : Claimed) → Contains more c → c.held ≡ is_held told c.register
    range_held c has = let (k, r, is, of) = ranges.each c has in of.held ∙ sym (its_mark 256 told.ranges k c.register r of.register is.at)

    -- ---- all of them

    differ : AllPairs (λ c d. claim_number c ≡ claim_number d → ⊥) (own ++ more)
    differ = pairs_append (λ c d. claim_number c ≡ claim_number d → ⊥) own more
        (λ i j d less within e. (let up = registers.rising i j d less within in let no : ⊥ = omega (arith, up, e) in no))
        (λ i j d less within e.
        let up = ranges.rising i j d less within in
        let one = (high (get_or more i d) (Contains-get_or more i d (omega (arith, less, within)))).1 in
        let other = (high (get_or more j d) (Contains-get_or more j d within)).1 in
        let no : ⊥ = omega (arith, up, e, one, other) in no)
        (λ c d in_own in_more e.
        let low = low_register c in_own in
        let up = high d in_more in
        let from = up.0 in
        let to = up.1 in
        let no : ⊥ = omega (arith, e, low, from, to) in no)

    module _ (sent : Contains t.roots bus → (c : Claimed) → Contains claims c → (a : ℕ) → Covers c.pieces a → IsTrue (starts given space bus a)) (split : (c : Claimed) → Contains claims c → Contains own c ⊎ Contains more c) (joins_own : (c : Claimed) → Contains own c → Contains claims c)
        (joins_more : (c : Claimed) → Contains more c → Contains claims c) (rising : AllPairs (λ c d. claim_number c < claim_number d) claims) where
      each_is : (c : Claimed) → Contains claims c → IsClaimWith told given t.roots s bus space c
      each_is c has = elim (split c has) [ inl register ↦ register_claim c register | inr range ↦ range_claim c range ]

      complete_of : (slot : Slot) (register a : ℕ) → ClaimsOnBus told given s bus (address_in space a) (named_region slot register) → (c : Claimed) × Contains claims c × (c.slot ≡ slot) × (c.register ≡ register)
      complete_of slot register a (inl own_it) = let (c, has, at, named) = registers.complete slot register a own_it in (c, joins_own c has, at, named)
      complete_of slot register a (inr range) =
          let (c, has, at, named, _) = claim_of_named is_told bus space stretch is_stretch reach more ranges a (named_region slot register) range in
          (c, joins_more c has, at, named)

      pub all_claims : AreClaimsOn told given t.roots s bus space claims
      all_claims = record {
        each = each_is;
        complete = complete_of;
        rising = rising;
        placed = λ c has. elim (split c has) [ inl register ↦ register_placed c register | inr range ↦ range_placed c range ];
        held = λ c has. elim (split c has) [ inl register ↦ register_held c register | inr range ↦ range_held c range ];
        sent = sent;
      }

    pub sorted_claims : IsNested t.roots s → IsPermutation (own ++ more) claims → IsNonDecreasingBy claim_number claims → AreClaimsOn told given t.roots s bus space claims
    sorted_claims nested moved sorted =
        let split : (c : Claimed) → Contains claims c → Contains own c ⊎ Contains more c =
        λ c has. Contains-append_cases own more c (Contains-permutation claims (own ++ more) c (IsPermutation-sym (own ++ more) claims moved) has) in
        all_claims
        (λ root c has a covers. elim (split c has) [
          | inl register ↦ sent_there given t.roots s nested bus root space a ((register_claim c register a).0 covers).0
          | inr range ↦ sent_there given t.roots s nested bus root space a ((range_claim c range a).0 covers).0
        ])
        split
        (λ c has. Contains-permutation (own ++ more) claims c moved (Contains-append_left own more c has))
        (λ c has. Contains-permutation (own ++ more) claims c moved (Contains-append_right own more c has))
        (rise_in_order claim_number (own ++ more) claims differ moved sorted)

-- ---- a bus without told ranges

pub no_ranges : (told : Told) (on : List Bool) (first end : ℕ) (space : Space) (reach : List Range) → first ≡ end → AreRangeClaims told.ranges on first end space reach []
no_ranges told on first end space reach empty = record {
  each = λ c has. absurd (in_nil c has);
  complete = λ k r is. absurd (let from = is.from in let to = is.to in let no : ⊥ = omega (arith, from, to, empty) in no);
  rising = pairs_nil (λ c d. c.register < d.register);
}

pub claims_without : (told : Told) (t : Tree) (on : List Bool) (are_on : AreOnIn told t on) (s : System) (tree : HasTree t s) (is_told : IsTold told.ranges) (given : Given) (bus : ℕ) (space : Space) (stretch : Stretch)
    → IsStretchOf told.ranges bus stretch → (own : List Claimed) → AreRegisterClaimsOn given t.roots s bus space own → stretch.first ≡ stretch.end
    → AreClaimsOn told given t.roots s bus space own
claims_without told t on are_on s tree is_told given bus space stretch is_stretch own registers empty =
    all_claims told t on are_on s tree is_told given bus space stretch is_stretch [] own [] own registers (no_ranges told on stretch.first stretch.end space [] empty)
    (λ c has. absurd (in_nil c has)) registers.sent (λ c has. inl has) (λ c has. has) (λ c has. absurd (in_nil c has)) registers.rising

-- ---- ranges one by one

module _ (ranges : List ToldRange) (on : List Bool) (first : ℕ) (space : Space) (reach : List Range) where
  pub none_yet : (claims : List Claimed) → AreMoreClaims (AreRangeClaims ranges on first first space reach) claims claims
  none_yet claims = record {
    more = [];
    appended = sym (append-nil claims);
    made = record {
      each = λ c has. absurd (in_nil c has);
      complete = λ k r is. absurd (let from = is.from in let to = is.to in let no : ⊥ = omega (arith, from, to) in no);
      rising = pairs_nil (λ c d. c.register < d.register);
    };
  }

  module _ (i : ℕ) (r : ToldRange) (from : first ≤ i) (at : slice_get ranges i ≡ Some r) (before mid : List Claimed) (added : AreMoreClaims (AreRangeClaims ranges on first i space reach) before mid) where
    wider : (k : ℕ) (q : ToldRange) → IsOnAt ranges on first i space k q → IsOnAt ranges on first (i + 1) space k q
    wider k q is = let to = is.to in record { from = is.from; to = omega (arith, to); at = is.at; on = is.on; space = is.space }

    narrower : (k : ℕ) (q : ToldRange) → (k ≡ i → ⊥) → IsOnAt ranges on first (i + 1) space k q → IsOnAt ranges on first i space k q
    narrower k q differ is = let to = is.to in record { from = is.from; to = omega (arith, to, differ); at = is.at; on = is.on; space = is.space }

    pub range_more : (c : Claimed) (after : List Claimed) → get_or on i false ≡ true → r.space ≡ space → IsClaimOfRange r (256 + i) reach c → after ≡ mid ++ c ∷ []
        → AreMoreClaims (AreRangeClaims ranges on first (i + 1) space reach) before after
    range_more c after is_on of_space of pushed =
        let more = added.more in
        let are = added.made in record {
          more = more ++ c ∷ [];
          appended = pushed ∙ ap (λ (l : List Claimed). l ++ c ∷ []) added.appended ∙ append_assoc before more (c ∷ []);
          made = record {
            each = λ d has. elim (Contains-push_cases more c d has) [
              | inl old ↦ (let (k, q, is, its) = are.each d old in (k, q, wider k q is, its))
              | inr same ↦ (i, r, record { from = from; to = omega arith; at = at; on = is_on; space = of_space }, subst (IsClaimOfRange r (256 + i) reach) same of)
            ];
            complete = λ k q is. elim (cases_eq k i) [
              | inl same ↦ (
                c,
                Contains-push more c,
                subst (λ n. IsClaimOfRange q (256 + n) reach c) (sym same) (subst (λ x. IsClaimOfRange x (256 + i) reach c) (same_range ranges i r q at (subst (λ n. slice_get ranges n ≡ Some q) same is.at)) of),
              )
              | inr differ ↦ (let (d, has, its) = are.complete k q (narrower k q differ is) in (d, Contains-append_left more (c ∷ []) d has, its))
            ];
            rising = all_pairs_push (λ d e. d.register < e.register) more c are.rising (λ k d within.
                let (j, q, is, its) = are.each (get_or more k d) (Contains-get_or more k d within) in
                let low = is.to in
                let one = its.register in
                let other = of.register in
                omega (arith, low, one, other));
          };
        }

    pub range_less : (IsOnAt ranges on first (i + 1) space i r → ⊥) → AreMoreClaims (AreRangeClaims ranges on first (i + 1) space reach) before mid
    range_less none =
        let are = added.made in record {
          more = added.more;
          appended = added.appended;
          made = record {
            each = λ d has. (let (k, q, is, its) = are.each d has in (k, q, wider k q is, its));
            complete = λ k q is. elim (cases_eq k i) [
              | inl same ↦ absurd (none (subst (λ x. IsOnAt ranges on first (i + 1) space i x) (same_range ranges i q r (subst (λ n. slice_get ranges n ≡ Some q) same is.at) at) (subst (λ n. IsOnAt ranges on first (i + 1) space n q) same is)))
              | inr differ ↦ are.complete k q (narrower k q differ is)
            ];
            rising = are.rising;
          };
        }
