-- What bridges take as no region of their bus claims it.
use Rattle.std.proofs.Common.{◌≡◌, ℕ, ◌<◌, inl, inr, List, [], ◌∷◌, Bool, true, false, ◌&&◌, ◌||◌, not, refl, sym, ◌∙◌, ap, subst, arith}
use Rattle.std.specs.Prelude.{nat_le}
use Rattle.std.specs.List.{Contains, filter, list_all, list_any}
use Rattle.std.proofs.lemmas.Bool.{and_from, and_parts, both_ways, cases_Bool, leb-true, le-leb, or_cases}
use Rattle.std.proofs.lemmas.List.Elements.{All-contains}
use Rattle.pci_spec.specs.Slot.{Slot, same_slot}
use Rattle.pci_spec.specs.System.{System, Function, Space, Io, Memory, Leads, is_bridge, is_space_on, is_window}
use Rattle.pci_spec.specs.System as system
use Rattle.pci_spec.specs.Fault.{Address, RegionName, address_in}
use Rattle.pci_spec.specs.Decoded.{Range}
use Rattle.pci_spec.specs.Why.{IsRun, AreRuns}
use Rattle.pci_spec.proofs.BusRanges.{any_from, any_gives}
use Rattle.pci_spec.proofs.Members.{in_head, in_tail, in_nil, in_cons_cases}
use Rattle.pci_spec.proofs.Ways.{below_the_end}
use Rattle.pci_spec.proofs.SameSlot.{slot_itself, slots_same}
use Rattle.judge_spec.specs.Given.{Given, TakingBridge, is_cut, is_isa_port, is_taken_at, legacy_claims, palette_claims, ranges_of, starts, takes}
use Rattle.judge_spec.specs.Claims.{Own, Legacy, Palette, Claims, forwards, forwards_else, passes_else}
use Rattle.judge_spec.specs.Claims as untold
use Rattle.judge_spec.specs.ToldClaims.{Told, ClaimsOnBus}
use Rattle.judge_spec.specs.Unclaimed.{IsUnclaimedOn, IsTakingBridge, AreTaking}
use Rattle.judge_spec.specs.UnclaimedLaws.{TakesWhatIsUnclaimed, NobodySharesWhatIsTaken, TakingIsDetermined, TakingClaimsNothing, TakingComesLast, TakingLeavesForwards, TakingLeavesPasses, TakingAddsNoClash, with_taking, without_taking, is_taking}
use Rattle.judge_spec.proofs.OneList.{same_runs}
use Rattle.judge_spec.proofs.Reasons.{runs_same}

-- ---- a list of runs

abbrev in_one : List Range → ℕ → Bool
in_one rs a = list_any (λ r. nat_le r.first a && nat_le a r.last) rs

module _ (P : ℕ → Type 0) (rs : List Range) (runs : AreRuns P rs) where
  held_holds : (a : ℕ) → in_one rs a ≡ true → P a
  held_holds a held =
      let found = any_gives (λ (r : Range). nat_le r.first a && nat_le a r.last) rs held in
      let parts = and_parts (nat_le found.0.first a) (nat_le a found.0.last) found.2 in
      (All-contains (IsRun P) rs found.0 runs.each found.1).each a (leb-true _ _ parts.0, leb-true _ _ parts.1)

  holds_held : (a : ℕ) → P a → in_one rs a ≡ true
  holds_held a p =
      let run = runs.complete a p in
      any_from (λ (r : Range). nat_le r.first a && nat_le a r.last) rs run.1 (run.0, run.2, run.3)
      (and_from _ _ (le-leb _ _ run.4.0) (le-leb _ _ run.4.1))

-- ---- what is taken

module _ (told : Told) (given : Given) (s : System) (space : Space) (a : ℕ) (b : Function) where
  runs_at : (slot : Slot) (entry : TakingBridge) → IsTakingBridge told given s slot entry → AreRuns (IsUnclaimedOn told given s slot.bus space) (ranges_of entry space)
  runs_at slot entry is = elim space as (λ (sp : Space). AreRuns (IsUnclaimedOn told given s slot.bus sp) (ranges_of entry sp)) [ Io ↦ is.io | Memory ↦ is.memory ]

  taken_in : (slots : List Slot) (entries : List TakingBridge) → AreTaking told given s slots entries → list_any (is_taken_at b space a) entries ≡ true
      → Contains slots b.slot × IsUnclaimedOn told given s b.slot.bus space a
  taken_in [] [] are held = absurd (both_ways false refl held)
  taken_in [] (e ∷ es) are held = absurd are
  taken_in (x ∷ xs) [] are held = absurd are
  taken_in (x ∷ xs) (e ∷ es) are held = elim (or_cases (is_taken_at b space a e) (list_any (is_taken_at b space a) es) held) [
    | inr later ↦ (let rest = taken_in xs es are.1 later in (in_tail x xs b.slot rest.0, rest.1))
    | inl here ↦ (
        let parts = and_parts (same_slot e.slot b.slot) (in_one (ranges_of e space) a) here in
        let slot : x ≡ b.slot = sym are.0.at ∙ slots_same e.slot b.slot parts.0 in
        let free = held_holds (IsUnclaimedOn told given s x.bus space) (ranges_of e space) (runs_at x e are.0) a parts.1 in
        (subst (λ (y : Slot). Contains (x ∷ xs) y) slot (in_head x xs), subst (λ (y : Slot). IsUnclaimedOn told given s y.bus space a) slot free)
        )
  ]

  in_taken : (slots : List Slot) (entries : List TakingBridge) → AreTaking told given s slots entries → Contains slots b.slot → IsUnclaimedOn told given s b.slot.bus space a
      → list_any (is_taken_at b space a) entries ≡ true
  in_taken [] [] are listed free = absurd (in_nil b.slot listed)
  in_taken [] (e ∷ es) are listed free = absurd are
  in_taken (x ∷ xs) [] are listed free = absurd are
  in_taken (x ∷ xs) (e ∷ es) are listed free = elim (in_cons_cases x xs b.slot listed) [
    | inr later ↦ either_second (is_taken_at b space a e) _ (in_taken xs es are.1 later free)
    | inl here ↦ (
        let slot : e.slot ≡ b.slot = are.0.at ∙ here in
        let same : same_slot e.slot b.slot ≡ true = subst (λ (y : Slot). same_slot e.slot y ≡ true) slot (slot_itself e.slot) in
        let held = holds_held (IsUnclaimedOn told given s x.bus space) (ranges_of e space) (runs_at x e are.0) a (subst (λ (y : Slot). IsUnclaimedOn told given s y.bus space a) (sym here) free) in
        either_first _ _ (and_from (same_slot e.slot b.slot) (in_one (ranges_of e space) a) same held)
        )
  ]
    where
      either_first : (x y : Bool) → x ≡ true → (x || y) ≡ true
      either_first x y is = ap (λ z. z || y) is

      either_second : (x y : Bool) → y ≡ true → (x || y) ≡ true
      either_second true y is = refl
      either_second false y is = is

pub takes_what_is_unclaimed : TakesWhatIsUnclaimed
takes_what_is_unclaimed told given s slots space a b are = (
  λ taken.
      let parts = and_parts (is_bridge b && is_space_on b space) (list_any (is_taken_at b space a) given.unclaimed) taken in
      let own = and_parts (is_bridge b) (is_space_on b space) parts.0 in
      let free = taken_in told given s space a b slots given.unclaimed are parts.1 in
      record { bridge = own.0; on = own.1; listed = free.0; unclaimed = free.1 },
  λ is.
      and_from (is_bridge b && is_space_on b space) (list_any (is_taken_at b space a) given.unclaimed)
      (and_from (is_bridge b) (is_space_on b space) is.bridge is.on) (in_taken told given s space a b slots given.unclaimed are is.listed is.unclaimed),
)

pub nobody_shares_what_is_taken : NobodySharesWhatIsTaken
nobody_shares_what_is_taken told given s slots space a b region are taken claims =
    ((takes_what_is_unclaimed told given s slots space a b are).0 taken).unclaimed.unclaimed region claims

pub taking_is_determined : TakingIsDetermined
taking_is_determined told given s [] [] [] are others = refl
taking_is_determined told given s [] [] (c ∷ cs) are others = absurd others
taking_is_determined told given s [] (b ∷ bs) cs are others = absurd are
taking_is_determined told given s (x ∷ xs) [] cs are others = absurd are
taking_is_determined told given s (x ∷ xs) (b ∷ bs) [] are others = absurd others
taking_is_determined told given s (x ∷ xs) (b ∷ bs) (c ∷ cs) are others =
    let slot : b.slot ≡ c.slot = are.0.at ∙ sym others.0.at in
    let io : b.io ≡ c.io = same_runs (IsUnclaimedOn told given s x.bus Io) b.io c.io are.0.io others.0.io in
    let memory : b.memory ≡ c.memory = same_runs (IsUnclaimedOn told given s x.bus Memory) b.memory c.memory are.0.memory others.0.memory in
    let rest = taking_is_determined told given s xs bs cs are.1 others.1 in
    λ i. record { slot = slot i; io = io i; memory = memory i } ∷ rest i

-- ---- what it changes

-- what ISA Enable takes depends on the bridges that have it alone
pub cut_by : (given other : Given) → given.isa ≡ other.isa → (space : Space) (a : ℕ) (slot : Slot) → is_cut given space a slot ≡ is_cut other space a slot
cut_by given other same Io a slot = ap (λ (isa : List Slot). list_any (λ o. same_slot o slot) isa && is_isa_port a) same
cut_by given other same Memory a slot = refl

cut_with : (given : Given) (bridges : List TakingBridge) (space : Space) (a : ℕ) (slot : Slot) → is_cut given space a slot ≡ is_cut (with_taking bridges given) space a slot
cut_with given bridges space a slot = cut_by given (with_taking bridges given) refl space a slot

-- and where accesses start
starts_with : (given : Given) (bridges : List TakingBridge) (space : Space) (root a : ℕ) → starts given space root a ≡ starts (with_taking bridges given) space root a
starts_with given bridges Io root a = refl
starts_with given bridges Memory root a = refl

pub taking_claims_nothing : TakingClaimsNothing
taking_claims_nothing given bridges f (Own part) space a = (
  λ h. record { claims = h.claims; kept = ap (λ x. is_window part && x) (sym (cut_with given bridges space a f.slot)) ∙ h.kept },
  λ h. record { claims = h.claims; kept = ap (λ x. is_window part && x) (cut_with given bridges space a f.slot) ∙ h.kept },
)
taking_claims_nothing given bridges f Legacy space a = (λ h. record { address = h.address; claims = h.claims }, λ h. record { address = h.address; claims = h.claims })
taking_claims_nothing given bridges f Palette space a = (λ h. record { address = h.address; claims = h.claims }, λ h. record { address = h.address; claims = h.claims })

module _ (told : Told) (given : Given) (bridges : List TakingBridge) (s : System) where
  untold_with : (bus : ℕ) (at : Address) (region : RegionName) → untold.ClaimsOnBus given s bus at region → untold.ClaimsOnBus (with_taking bridges given) s bus at region
  untold_with bus at region (f, part, listed, slot, on, named, claims) = (f, part, listed, slot, on, named, (taking_claims_nothing given bridges f part at.space at.address).0 claims)

  untold_without : (bus : ℕ) (at : Address) (region : RegionName) → untold.ClaimsOnBus (with_taking bridges given) s bus at region → untold.ClaimsOnBus given s bus at region
  untold_without bus at region (f, part, listed, slot, on, named, claims) = (f, part, listed, slot, on, named, (taking_claims_nothing given bridges f part at.space at.address).1 claims)

  claims_with : (bus : ℕ) (at : Address) (region : RegionName) → ClaimsOnBus told given s bus at region → ClaimsOnBus told (with_taking bridges given) s bus at region
  claims_with bus at region (inl own) = inl (untold_with bus at region own)
  claims_with bus at region (inr range) = inr range

  claims_without : (bus : ℕ) (at : Address) (region : RegionName) → ClaimsOnBus told (with_taking bridges given) s bus at region → ClaimsOnBus told given s bus at region
  claims_without bus at region (inl own) = inl (untold_without bus at region own)
  claims_without bus at region (inr range) = inr range

  free_with : (bus : ℕ) (space : Space) (a : ℕ) → IsUnclaimedOn told given s bus space a → IsUnclaimedOn told (with_taking bridges given) s bus space a
  free_with bus space a free = record { address = free.address; unclaimed = λ region claims. free.unclaimed region (claims_without bus (address_in space a) region claims) }

  free_without : (bus : ℕ) (space : Space) (a : ℕ) → IsUnclaimedOn told (with_taking bridges given) s bus space a → IsUnclaimedOn told given s bus space a
  free_without bus space a free = record { address = free.address; unclaimed = λ region claims. free.unclaimed region (claims_with bus (address_in space a) region claims) }

  runs_with : (bus : ℕ) (space : Space) (rs : List Range) → AreRuns (IsUnclaimedOn told given s bus space) rs → AreRuns (IsUnclaimedOn told (with_taking bridges given) s bus space) rs
  runs_with bus space rs = runs_same _ _ (λ a. (free_with bus space a, free_without bus space a)) rs

  runs_without : (bus : ℕ) (space : Space) (rs : List Range) → AreRuns (IsUnclaimedOn told (with_taking bridges given) s bus space) rs → AreRuns (IsUnclaimedOn told given s bus space) rs
  runs_without bus space rs = runs_same _ _ (λ a. (free_without bus space a, free_with bus space a)) rs

  taking_with : (slots : List Slot) (others : List TakingBridge) → AreTaking told given s slots others → AreTaking told (with_taking bridges given) s slots others
  taking_with [] [] are = tt
  taking_with [] (o ∷ os) are = absurd are
  taking_with (x ∷ xs) [] are = absurd are
  taking_with (x ∷ xs) (o ∷ os) are =
      (record { at = are.0.at; io = runs_with x.bus Io o.io are.0.io; memory = runs_with x.bus Memory o.memory are.0.memory }, taking_with xs os are.1)

  taking_without : (slots : List Slot) (others : List TakingBridge) → AreTaking told (with_taking bridges given) s slots others → AreTaking told given s slots others
  taking_without [] [] are = tt
  taking_without [] (o ∷ os) are = absurd are
  taking_without (x ∷ xs) [] are = absurd are
  taking_without (x ∷ xs) (o ∷ os) are =
      (record { at = are.0.at; io = runs_without x.bus Io o.io are.0.io; memory = runs_without x.bus Memory o.memory are.0.memory }, taking_without xs os are.1)

pub taking_comes_last : TakingComesLast
taking_comes_last told given s slots bridges others = (taking_with told given bridges s slots others, taking_without told given bridges s slots others)

-- ---- a bridge that takes nothing

-- a test that begins with another one
pub none_passes : {X : Type 0} (test more : X → Bool) (xs : List X) → list_any test xs ≡ false → list_any (λ x. test x && more x) xs ≡ false
none_passes test more [] none = refl
none_passes test more (x ∷ xs) none = elim (cases_Bool (test x)) [
  | inl is ↦ absurd (both_ways _ none (ap (λ b. b || list_any test xs) is))
  | inr off ↦ ap (λ b. (b && more x) || list_any (λ x. test x && more x) xs) off ∙ none_passes test more xs (sym (ap (λ b. b || list_any test xs) off) ∙ none)
]

takes_nothing : (given : Given) (space : Space) (a : ℕ) (b : Function) → is_taking given.unclaimed b.slot ≡ false → takes given space a b ≡ takes (with_taking [] given) space a b
takes_nothing given space a b none =
    ap (λ x. is_bridge b && is_space_on b space && x) (none_passes (λ (e : TakingBridge). same_slot e.slot b.slot) (λ e. in_one (ranges_of e space) a) given.unclaimed none)

pub taking_leaves_forwards : TakingLeavesForwards
taking_leaves_forwards given space a b none =
    ap (λ x. (system.forwards space a b && not (is_cut given space a b.slot)) || ((legacy_claims given space a b || x) || palette_claims given space a b)) (takes_nothing given space a b none)
    ∙ ap (λ cut. (system.forwards space a b && not cut) || forwards_else (with_taking [] given) space a b) (cut_with given [] space a b.slot)

pub taking_leaves_passes : TakingLeavesPasses
taking_leaves_passes given space prefetchable a b none =
    ap (λ x. (system.passes space prefetchable a b && not (is_cut given space a b.slot)) || (legacy_claims given space a b || x)) (takes_nothing given space a b none)
    ∙ ap (λ cut. (system.passes space prefetchable a b && not cut) || passes_else (with_taking [] given) space a b) (cut_with given [] space a b.slot)

-- ---- clashes of its own bus

module _ (slot : Slot) (given : Given) (space : Space) (a : ℕ) (c : Function) (other : c.slot.bus < slot.bus) where
  -- an entry of the slot is none of another bridge
  left_out : (entries : List TakingBridge) → list_any (is_taken_at c space a) (filter (λ e. not (same_slot e.slot slot)) entries) ≡ list_any (is_taken_at c space a) entries
  left_out [] = refl
  left_out (e ∷ es) = elim (cases_Bool (same_slot e.slot slot)) [
    | inr off ↦ rw off (ap (λ x. is_taken_at c space a e || x) (left_out es))
    | inl is ↦ (
        let here : e.slot ≡ slot = slots_same e.slot slot is in
        let no : same_slot e.slot c.slot ≡ false = false_from (same_slot e.slot c.slot) (λ yes. (let same : slot ≡ c.slot = sym here ∙ slots_same e.slot c.slot yes in let bus : slot.bus ≡ c.slot.bus = ap (λ (x : Slot). x.bus) same in omega (arith, other, bus))) in
        rw is (left_out es ∙ sym (ap (λ x. (x && in_one (ranges_of e space) a) || list_any (is_taken_at c space a) es) no))
        )
  ]
    where
      false_from : (x : Bool) → (x ≡ true → ⊥) → x ≡ false
      false_from true never = absurd (never refl)
      false_from false never = refl

  same_forwards : forwards (without_taking slot given) space a c ≡ forwards given space a c
  same_forwards =
      ap (λ cut. (system.forwards space a c && not cut) || forwards_else (without_taking slot given) space a c)
      (sym (cut_with given (filter (λ e. not (same_slot e.slot slot)) given.unclaimed) space a c.slot))
      ∙ ap (λ x. (system.forwards space a c && not (is_cut given space a c.slot)) || ((legacy_claims given space a c || (is_bridge c && is_space_on c space && x)) || palette_claims given space a c))
      (left_out given.unclaimed)

-- the bridges on the way to a bus are on lower ones
all_same : (f g : Function → Bool) (bridges : List Function) → ((c : Function) → Contains bridges c → f c ≡ g c) → list_all f bridges ≡ list_all g bridges
all_same f g [] each = refl
all_same f g (c ∷ cs) each = ap (λ x. x && list_all f cs) (each c (in_head c cs)) ∙ ap (λ x. g c && x) (all_same f g cs (λ d has. each d (in_tail c cs d has)))

pub taking_adds_no_clash : TakingAddsNoClash
taking_adds_no_clash told given roots s slot at two nested = (
  λ clash. record {
    gets = (clash.gets.0, clash.gets.1, sym (starts_with given bridges at.space clash.gets.0 at.address) ∙ clash.gets.2, clash.gets.3, clash.gets.4, along clash.gets.0 clash.gets.3 clash.gets.4 ∙ clash.gets.5);
    claims_first = claims_with told given bridges s slot.bus at two.first clash.claims_first;
    claims_second = claims_with told given bridges s slot.bus at two.second clash.claims_second;
    differ = clash.differ;
    apart = clash.apart;
  },
  λ clash. record {
    gets = (clash.gets.0, clash.gets.1, starts_with given bridges at.space clash.gets.0 at.address ∙ clash.gets.2, clash.gets.3, clash.gets.4, sym (along clash.gets.0 clash.gets.3 clash.gets.4) ∙ clash.gets.5);
    claims_first = claims_without told given bridges s slot.bus at two.first clash.claims_first;
    claims_second = claims_without told given bridges s slot.bus at two.second clash.claims_second;
    differ = clash.differ;
    apart = clash.apart;
  },
)
  where
    bridges : List TakingBridge
    bridges = filter (λ e. not (same_slot e.slot slot)) given.unclaimed

    along : (root : ℕ) (way : List Function) → Leads s root way slot.bus → list_all (forwards (without_taking slot given) at.space at.address) way ≡ list_all (forwards given at.space at.address) way
    along root way leads = all_same _ _ way (λ c has. same_forwards slot given at.space at.address c (below_the_end roots s nested root way slot.bus leads c has).1)
