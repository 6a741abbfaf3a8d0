-- What palette parts leave alone, and what is given without them.
use Rattle.std.proofs.Common.{◌≡◌, ℕ, List, [], ◌∷◌, false, ◌&&◌, ◌||◌, not, refl, sym, ◌∙◌, ap}
use Rattle.std.specs.List.{list_any}
use Rattle.std.proofs.lemmas.Bool.{both_ways}
use Rattle.std.proofs.Math.Bool.{and-false, or-false}
use Rattle.pci_spec.specs.Slot.{same_slot}
use Rattle.pci_spec.specs.System.{Function, Space, Memory, is_bridge, is_space_on}
use Rattle.pci_spec.specs.System as system
use Rattle.judge_spec.specs.Given.{Given, LegacyBridge, TakingBridge, is_cut, is_palette_at, is_taken_at, legacy_claims, palette_claims, palette_holds, takes}
use Rattle.judge_spec.specs.Claims.{passes_else}
use Rattle.judge_spec.specs.SnoopLaws.{PaletteHasNoMemory, NoPaletteWithoutPart, SnoopLeavesForwards, SnoopPassesNothing, ForwardsWithNeither, PassesWithNeither, has_palette_part, nobody_snoops}
use Rattle.judge_spec.proofs.Unclaimed.{cut_by, none_passes}

-- no entry has an address of memory
none_holds : (b : Function) (a : ℕ) (entries : List LegacyBridge) → list_any (is_palette_at b Memory a) entries ≡ false
none_holds b a [] = refl
none_holds b a (e ∷ es) = ap (λ x. x || list_any (is_palette_at b Memory a) es) (and-false (same_slot e.slot b.slot)) ∙ none_holds b a es

pub palette_has_no_memory : PaletteHasNoMemory
palette_has_no_memory given f a claims =
    both_ways _ (ap (λ x. is_bridge f && is_space_on f Memory && x) (none_holds f a given.palette) ∙ and-false (is_bridge f && is_space_on f Memory)) claims.claims

no_part : (given : Given) (space : Space) (a : ℕ) (b : Function) → has_palette_part given b.slot ≡ false → palette_claims given space a b ≡ false
no_part given space a b none =
    ap (λ x. is_bridge b && is_space_on b space && x) (none_passes (λ (e : LegacyBridge). same_slot e.slot b.slot) (λ e. palette_holds e.is_wide space a) given.palette none)
    ∙ and-false (is_bridge b && is_space_on b space)

pub no_palette_without_part : NoPaletteWithoutPart
no_palette_without_part given f space a none claims = both_ways _ (no_part given space a f none) claims.claims

nobody_has : (given : Given) (space : Space) (a : ℕ) (b : Function) → palette_claims (nobody_snoops given) space a b ≡ false
nobody_has given space a b = and-false (is_bridge b && is_space_on b space)

pub snoop_leaves_forwards : SnoopLeavesForwards
snoop_leaves_forwards given space a b none =
    ap (λ x. (system.forwards space a b && not (is_cut given space a b.slot)) || (passes_else given space a b || x)) (no_part given space a b none ∙ sym (nobody_has given space a b))
    ∙ ap (λ cut. (system.forwards space a b && not cut) || (passes_else given space a b || palette_claims (nobody_snoops given) space a b)) (cut_by given (nobody_snoops given) refl space a b.slot)

pub snoop_passes_nothing : SnoopPassesNothing
snoop_passes_nothing given space prefetchable a b =
    ap (λ cut. (system.passes space prefetchable a b && not cut) || passes_else given space a b) (cut_by given (nobody_snoops given) refl space a b.slot)

-- ---- with neither

pub takes_none : (given : Given) → given.unclaimed ≡ [] → (space : Space) (a : ℕ) (b : Function) → takes given space a b ≡ false
takes_none given none space a b = ap (λ (es : List TakingBridge). is_bridge b && is_space_on b space && list_any (is_taken_at b space a) es) none ∙ and-false (is_bridge b && is_space_on b space)

legacy_alone : (given : Given) → given.unclaimed ≡ [] → (space : Space) (a : ℕ) (b : Function) → passes_else given space a b ≡ legacy_claims given space a b
legacy_alone given none space a b = ap (λ x. legacy_claims given space a b || x) (takes_none given none space a b) ∙ or-false (legacy_claims given space a b)

pub passes_with_neither : PassesWithNeither
passes_with_neither given none nothing space prefetchable a b =
    ap (λ x. (system.passes space prefetchable a b && not (is_cut given space a b.slot)) || x) (legacy_alone given nothing space a b)

pub forwards_with_neither : ForwardsWithNeither
forwards_with_neither given none nothing space a b =
    let palette : palette_claims given space a b ≡ false = ap (λ (es : List LegacyBridge). is_bridge b && is_space_on b space && list_any (is_palette_at b space a) es) none ∙ and-false (is_bridge b && is_space_on b space) in
    ap (λ x. (system.forwards space a b && not (is_cut given space a b.slot)) || (passes_else given space a b || x)) palette
    ∙ ap (λ x. (system.forwards space a b && not (is_cut given space a b.slot)) || x) (or-false (passes_else given space a b) ∙ legacy_alone given nothing space a b)
