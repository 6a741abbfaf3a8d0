-- What no region of a bus claims.
use Rattle.std.proofs.Common.{◌≡◌, ℕ, ◌⊎◌, false, ◌+◌, ◌<◌, ◌≤◌, inl, inr, List, [], ◌∷◌, ◌++◌, length, get_or, map, take, Bool, arith, subst, sym, ◌∙◌, ap, refl}
use Rattle.std.specs.Prelude.{◌↔◌}
use Rattle.std.specs.List.{All, AllPairs, AllZip, Contains}
use Rattle.std.proofs.lemmas.List.{take_more, take_all}
use Rattle.std.proofs.lemmas.List.Elements.{All-append, All-push, Contains-append_left, Contains-append_right, Contains-append_cases, Contains-push, Contains-push_cases}
use Rattle.pci_spec.specs.Slot.{Slot}
use Rattle.pci_spec.specs.System.{System, Function, Space, IsAddress}
use Rattle.pci_spec.specs.Fault.{RegionName, address_in, named_region}
use Rattle.pci_spec.proofs.Members.{in_nil}
use Rattle.pci_base.specs.declared.range.Range.{Range}
use Rattle.pci_tree.specs.Outline.{Tree}
use Rattle.pci_tree.specs.Ranges.{Covers, IsCanonical}
use Rattle.pci_tree.specs.Reaches.{IsWhole}
use Rattle.pci_tree.specs.Trees.{HasTree}
use Rattle.judge_spec.specs.Given.{Given}
use Rattle.judge_spec.specs.Given as spec
use Rattle.judge_spec.specs.Claims as untold
use Rattle.judge_spec.specs.Told.{IsTold}
use Rattle.judge_spec.specs.ToldClaims.{Told, ClaimsOnBus, RangeClaimsOnBus}
use Rattle.judge_spec.specs.Unclaimed.{IsUnclaimedOn, IsTakingBridge, AreTaking}
use Rattle.judge_spec.proofs.ToldAdds.{told_claim_addresses}
use Rattle.pci_claims.specs.declared.all_claims.Stretch.{Stretch}
use Rattle.pci_claims.specs.declared.given.TakingBridge.{TakingBridge}
use Rattle.pci_claims.specs.Values.{taking_value}
use Rattle.pci_claims.specs.Claim.{Claimed}
use Rattle.pci_claims.specs.BusClaims.{AreClaimsOfParts}
use Rattle.pci_claims.specs.ToldOn.{AreOnIn}
use Rattle.pci_claims.specs.AllClaims.{IsStretchOf, AreRangeClaims}
use Rattle.pci_claims.specs.Gathered.{IsGathered}
use Rattle.pci_claims.specs.Gaps.{gaps}
use Rattle.pci_claims.specs.Taking.{OneHas, IsLeft, IsAnswered, AreMorePieces, AreOtherClaimsOn, AreClaimedOn, AreUnclaimedRuns}
use Rattle.pci_claims.proofs.AllClaiming.{range_claims_it, claim_of_named}
use Rattle.pci_claims.proofs.Bridging.{append_to, append_from, one_holds}
use Rattle.pci_claims.proofs.BusClaiming.{claims_address}
use Rattle.pci_claims.proofs.Cutting.{never_cut_from}
use Rattle.pci_claims.proofs.PartsOnBus.{part_named}
use Rattle.pci_claims.proofs.RegionClaims.{region_claims_it, left_of_own}
use Rattle.pci_claims.specs.declared.legacy.FixedPart.{FixedPart}
use Rattle.pci_claims.specs.declared.legacy.FixedPart.TheVariants.{Legacy, Palette}
use Rattle.pci_claims.specs.Legacy.{fixed_part_of, register_of_part}
use Rattle.pci_claims.specs.Isa.{is_cut_region}
use Rattle.pci_tree.specs.declared.region.Region.{Region}
use Rattle.pci_tree.specs.Regions.{AreRegionsOf}
use Rattle.pci_claims.proofs.GapRanges.{gaps_to, gaps_from, gaps_canonical}
use Rattle.pci_claims.proofs.Gathering.{none_covered}
use Rattle.pci_claims.proofs.Runs.{runs_of}

-- ---- more addresses

pub pieces_behind : (IsMore : ℕ → Type 0) (out pieces new : List Range) → All (λ r. r.first ≤ r.last) pieces → ((a : ℕ) → Covers pieces a ↔ IsMore a) → new ≡ out ++ pieces → AreMorePieces IsMore out new
pieces_behind IsMore out pieces new lawful exact e = subst (λ (xs : List Range). AreMorePieces IsMore out xs) (sym e) record {
  lawful = λ before. All-append (λ r. r.first ≤ r.last) out pieces before lawful;
  exact = λ a. (
    λ (h : Covers (out ++ pieces) a). elim (append_to out pieces a h) [ inl first ↦ inl first | inr later ↦ inr ((exact a).0 later) ],
    λ (h : Covers out a ⊎ IsMore a). append_from out pieces a (elim h [ inl first ↦ inl first | inr later ↦ inr ((exact a).1 later) ]),
  );
}

pub nothing_behind : (IsMore : ℕ → Type 0) (out : List Range) → ((a : ℕ) → IsMore a → ⊥) → AreMorePieces IsMore out out
nothing_behind IsMore out none = record {
  lawful = λ before. before;
  exact = λ a. (
    λ (h : Covers out a). inl h,
    λ (h : Covers out a ⊎ IsMore a). elim h [ inl first ↦ first | inr more ↦ absurd (none a more) ],
  );
}

-- behind none
pub lawful_all : {IsMore : ℕ → Type 0} {out : List Range} → AreMorePieces IsMore [] out → All (λ r. r.first ≤ r.last) out
lawful_all is = is.lawful (λ k d less. absurd (omega (arith, less)))

module _ {X : Type 0} (Here : X → ℕ → Type 0) where
  pub none_more : (before : List Range) → AreMorePieces (OneHas Here []) before before
  none_more before = nothing_behind (OneHas Here []) before (λ a (x, has, here). in_nil x has)

  pub one_more : (xs : List X) (i : ℕ) (x : X) (before out new : List Range) → AreMorePieces (OneHas Here (take i xs)) before out → i < length xs → x ≡ get_or xs i x → AreMorePieces (Here x) out new
      → AreMorePieces (OneHas Here (take (i + 1) xs)) before new
  one_more xs i x before out new is within at more =
      let split : take (i + 1) xs ≡ take i xs ++ x ∷ [] = take_more xs i x within ∙ ap (λ y. take i xs ++ y ∷ []) (sym at) in
      subst (λ (l : List X). AreMorePieces (OneHas Here l) before new) (sym split) record {
        lawful = λ all. more.lawful (is.lawful all);
        exact = λ a. (
          λ (h : Covers new a). elim ((more.exact a).0 h) [
            | inl old ↦ elim ((is.exact a).0 old) [
              | inl first ↦ inl first
              | inr some ↦ (let (y, has, here) = some in inr (y, Contains-append_left (take i xs) (x ∷ []) y has, here))
            ]
            | inr here ↦ inr (x, Contains-push (take i xs) x, here)
          ],
          λ (h : Covers before a ⊎ OneHas Here (take i xs ++ x ∷ []) a). (more.exact a).1 (elim h [
            | inl first ↦ inl ((is.exact a).1 (inl first))
            | inr some ↦ (let (y, has, here) = some in elim (Contains-push_cases (take i xs) x y has) [
              | inl old ↦ inl ((is.exact a).1 (inr (y, old, here)))
              | inr same ↦ inr (subst (λ (z : X). Here z a) (sym same) here)
            ])
          ]),
        );
      }

  pub all_more : (xs : List X) (n : ℕ) (before out : List Range) → length xs ≤ n → AreMorePieces (OneHas Here (take n xs)) before out → AreMorePieces (OneHas Here xs) before out
  all_more xs n before out end is = subst (λ (l : List X). AreMorePieces (OneHas Here l) before out) (take_all n xs end) is

-- ---- those of a region

pub whole_more : (given : Given) (space : Space) (r : Region) (out new : List Range) → is_cut_region given space r ≡ false → r.first ≤ r.last → new ≡ out ++ record { first = r.first; last = r.last } ∷ []
    → AreMorePieces (IsLeft given space r) out new
whole_more given space r out new off some e =
    let one : Range = record { first = r.first; last = r.last } in
    pieces_behind (IsLeft given space r) out (one ∷ []) new (All-push (λ (x : Range). x.first ≤ x.last) [] one (λ k d less. absurd (omega (arith, less))) some)
    (λ a. (
      λ (h : Covers (one ∷ []) a). (one_holds one a h, never_cut_from given space r a off),
      λ (h : IsLeft given space r a). (0, one, omega arith, refl, h.0),
    )) e

-- ---- what else claims addresses of a bus, whether or not any access gets there

module _ (told : Told) (t : Tree) (on : List Bool) (are_on : AreOnIn told t on) (s : System) (tree : HasTree t s) (is_told : IsTold told.ranges) (given : Given) (bus : ℕ) (space : Space)
    (stretch : Stretch) (is_stretch : IsStretchOf told.ranges bus stretch) (whole : List Range) (all : IsWhole space whole) (fixed more : List Claimed)
    (parts : AreClaimsOfParts given s bus space whole fixed) (ranges : AreRangeClaims told.ranges on stretch.first stretch.end space whole more) where
  claim_is : (c : Claimed) (a : ℕ) → Contains (fixed ++ more) c → IsAnswered c a → ClaimsOnBus told given s bus (address_in space a) (named_region c.slot c.register)
  claim_is c a has covered = elim (Contains-append_cases fixed more c has) [
    | inl part ↦ inl ((parts.each c part a).0 covered).1
    | inr range ↦ inr (range_claims_it told t on are_on s tree is_told bus space stretch is_stretch whole more ranges c range a covered).1
  ]

  part_has_claim : (f : Function) (part : FixedPart) (a : ℕ) → Contains s f → f.slot.bus ≡ bus → untold.Claims given f (fixed_part_of part) space a → OneHas IsAnswered (fixed ++ more) a
  part_has_claim f part a listed on_bus it =
      let (c, has, at, named) = parts.complete f part a listed on_bus it in
      let region = part_named given s bus f part space a listed on_bus it in (
        c,
        Contains-append_left fixed more c has,
        (parts.each c has a).1 (
          (all.exact a).1 (claims_address given s bus space a (named_region f.slot (register_of_part part)) region),
          subst (λ n. untold.ClaimsOnBus given s bus (address_in space a) (named_region c.slot n)) (sym named)
              (subst (λ (x : Slot). untold.ClaimsOnBus given s bus (address_in space a) (named_region x (register_of_part part))) (sym at) region),
        ),
      )

  range_has_claim : (region : RegionName) (a : ℕ) → RangeClaimsOnBus told s bus (address_in space a) region → OneHas IsAnswered (fixed ++ more) a
  range_has_claim region a range =
      let (c, has, at, named, covers) = claim_of_named told t on are_on s tree is_told bus space stretch is_stretch whole more ranges a region range in
      let address : IsAddress space a = told_claim_addresses told s region range.r space a is_told range.named range.claims in
      (c, Contains-append_right fixed more c has, covers ((all.exact a).1 address))

  pub others_on : (claims : List Claimed) → claims ≡ fixed ++ more → AreOtherClaimsOn told given s bus space claims
  others_on claims e = subst (λ (l : List Claimed). AreOtherClaimsOn told given s bus space l) (sym e) record { each = claim_is; parts = part_has_claim; ranges = range_has_claim }

-- ---- all that is claimed

module _ (told : Told) (given : Given) (s : System) (bus : ℕ) (space : Space) (regions : List Region) (are : AreRegionsOf s bus space regions) (own : List Range) (mine : AreMorePieces (OneHas (IsLeft given space) regions) [] own)
    (others : List Claimed) (are_others : AreOtherClaimsOn told given s bus space others) (out : List Range) (joined : AreMorePieces (OneHas IsAnswered others) own out) where
  abbrev IsClaimed : ℕ → Type 0
  IsClaimed a = (region : RegionName) × ClaimsOnBus told given s bus (address_in space a) region

  abbrev IsEither : ℕ → Type 0
  IsEither a = OneHas (IsLeft given space) regions a ⊎ OneHas IsAnswered others a

  either_claims : (a : ℕ) → IsEither a → IsClaimed a
  either_claims a (inl (r, has, left)) = (named_region r.slot r.reg, inl (region_claims_it given s bus space r (are.each r has) a left))
  either_claims a (inr (c, has, covered)) = (named_region c.slot c.register, are_others.each c a has covered)

  claimed_either : (a : ℕ) → IsClaimed a → IsEither a
  claimed_either a (region, inl (f, untold.Own part, listed, at, on_bus, named, it)) = inl (left_of_own given s bus space regions are f part a listed (ap (λ (x : Slot). x.bus) at ∙ on_bus) it)
  claimed_either a (region, inl (f, untold.Legacy, listed, at, on_bus, named, it)) = inr (are_others.parts f Legacy a listed (ap (λ (x : Slot). x.bus) at ∙ on_bus) it)
  claimed_either a (region, inl (f, untold.Palette, listed, at, on_bus, named, it)) = inr (are_others.parts f Palette a listed (ap (λ (x : Slot). x.bus) at ∙ on_bus) it)
  claimed_either a (region, inr range) = inr (are_others.ranges region a range)

  pub claimed_by_all : AreClaimedOn told given s bus space out
  claimed_by_all a = (
    λ (h : Covers out a). either_claims a (elim ((joined.exact a).0 h) [
      | inl first ↦ elim ((mine.exact a).0 first) [ inl none ↦ absurd (none_covered a none) | inr one ↦ inl one ]
      | inr later ↦ inr later
    ]),
    λ (h : IsClaimed a). (joined.exact a).1 (elim (claimed_either a h) [ inl one ↦ inl ((mine.exact a).1 (inr one)) | inr later ↦ inr later ]),
  )

-- ---- what is left

first_by_first : (rs : List Range) → IsCanonical rs → AllPairs (λ r t. r.first ≤ t.first) rs
first_by_first rs can i j d less within =
    let lawful = can.each i d (omega (arith, less, within)) in
    let apart = can.apart i j d less within in
    omega (arith, lawful, apart)

pub unclaimed_runs : (told : Told) (given : Given) (s : System) (bus : ℕ) (space : Space) (pieces claimed : List Range) (whole : Range) (out : List Range)
    → AreClaimedOn told given s bus space pieces → IsGathered pieces claimed → ((a : ℕ) → ((whole.first ≤ a) × (a ≤ whole.last)) ↔ IsAddress space a)
    → out ≡ gaps whole 0 claimed → AreUnclaimedRuns told given s bus space out
unclaimed_runs told given s bus space pieces claimed whole out all is exact e =
    let sorted = first_by_first claimed is.canonical in
    let lawful = is.canonical.each in
    subst (λ (xs : List Range). AreUnclaimedRuns told given s bus space xs) (sym e)
    (runs_of (IsUnclaimedOn told given s bus space) (gaps whole 0 claimed) (gaps_canonical whole 0 claimed sorted lawful) (λ a. (
      λ (h : Covers (gaps whole 0 claimed) a). (
          let gap = gaps_to whole 0 claimed a sorted lawful h in record {
            address = (exact a).0 gap.0;
            unclaimed = λ region claims_it. gap.2 ((is.exact a).1 ((all a).1 (region, claims_it)));
          }),
      λ (u : IsUnclaimedOn told given s bus space a). gaps_from whole 0 claimed a ((exact a).1 u.address) (omega arith) (λ covered.
          let (region, claims_it) = (all a).0 ((is.exact a).0 covered) in
          u.unclaimed region claims_it),
    )))

-- ---- bridges

zip_push : {A B : Type 0} (R : A → B → Type 0) (xs : List A) (ys : List B) (x : A) (y : B) → AllZip R xs ys → R x y → AllZip R (xs ++ x ∷ []) (ys ++ y ∷ [])
zip_push R [] [] x y all one = (one, tt {0})
zip_push R [] (z ∷ ys) x y all one = absurd all
zip_push R (w ∷ xs) [] x y all one = absurd all
zip_push R (w ∷ xs) (z ∷ ys) x y all one = (all.0, zip_push R xs ys x y all.1 one)

pub one_more_taking : (told : Told) (given : Given) (s : System) (slots : List Slot) (i : ℕ) (slot : Slot) (out : List spec.TakingBridge) (b : spec.TakingBridge) → AreTaking told given s (take i slots) out
    → i < length slots → slot ≡ get_or slots i slot → IsTakingBridge told given s slot b → AreTaking told given s (take (i + 1) slots) (out ++ b ∷ [])
one_more_taking told given s slots i slot out b are within at is =
    subst (λ (l : List Slot). AreTaking told given s l (out ++ b ∷ [])) (sym (take_more slots i slot within ∙ ap (λ x. take i slots ++ x ∷ []) (sym at)))
    (zip_push (IsTakingBridge told given s) (take i slots) out slot b are is)

pub all_taking : (told : Told) (given : Given) (s : System) (slots : List Slot) (n : ℕ) (out : List spec.TakingBridge) → length slots ≤ n → AreTaking told given s (take n slots) out → AreTaking told given s slots out
all_taking told given s slots n out end are = subst (λ (l : List Slot). AreTaking told given s l out) (take_all n slots end) are

map_push : {X Y : Type 0} (f : X → Y) (xs : List X) (x : X) → map f (xs ++ x ∷ []) ≡ map f xs ++ f x ∷ []
map_push f [] x = refl
map_push f (y ∷ xs) x = ap (λ ys. f y ∷ ys) (map_push f xs x)

-- one more of them is lent
pub one_more_lent : (taking : List spec.TakingBridge) (i : ℕ) (b : spec.TakingBridge) (lent : TakingBridge) (out new : List TakingBridge) → map taking_value out ≡ take i taking → i < length taking → b ≡ get_or taking i b
    → taking_value lent ≡ b → new ≡ out ++ lent ∷ [] → map taking_value new ≡ take (i + 1) taking
one_more_lent taking i b lent out new is within at same e =
    ap (map taking_value) e ∙ map_push taking_value out lent ∙ ap (λ (xs : List spec.TakingBridge). xs ++ taking_value lent ∷ []) is ∙ ap (λ (x : spec.TakingBridge). take i taking ++ x ∷ []) (same ∙ at)
    ∙ sym (take_more taking i b within)
