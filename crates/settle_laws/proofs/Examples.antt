-- A worked tree that can be settled, anew or not: the laws say something of it.
use Rattle.settle_laws.proofs.Keeping.AgainKept.{all_stand}
use Rattle.settle_laws.proofs.Told.OnlyHeld.{held_of}
use Rattle.std.proofs.Common.{◌≡◌, ◌^◌, ◌<◌, [], ◌∷◌, inl, inr, refl, Bool, true, false, arith, subst, None}
use Rattle.std.specs.Bool.{IsTrue, IsFalse}
use Rattle.std.specs.List.{Contains}
use Rattle.std.proofs.lemmas.Bool.{both_ways}
use Rattle.pci_spec.specs.Window.{WindowKind, IoWindow, MemoryWindow, PrefetchWindow}
use Rattle.pci_spec.specs.System.{Function, System, Space, Io, Memory, Part, Bar, Window, is_bridge}
use Rattle.pci_spec.specs.Sound.{IsSound}
use Rattle.pci_spec.proofs.Examples.Samples.{slot, write, host}
use Rattle.pci_spec.proofs.Members.{in_nil, in_cons_cases, in_head}
use Rattle.plan_spec.specs.Plan.{is_open}
use Rattle.plan_spec.proofs.Examples.Admitted.{tree_is_a_system, tree_is_nested, tree_is_in_profile, tree_has_chains}
use Rattle.plan_spec.proofs.Examples.Placed.{start}
use Rattle.settle_spec.specs.Items.{stays, has_of, window_within, holds_within}
use Rattle.settle_spec.specs.Lists.{RootRange, Request}
use Rattle.settle_spec.specs.Parts.{FunctionPart, system_parts}
use Rattle.settle_spec.specs.Keeping.Places.{placing_within, lacking}
use Rattle.settle_spec.specs.Keeping.Registers.{settled, is_live_within}
use Rattle.settle_spec.specs.Stands.{stands_within}
use Rattle.settle_spec.specs.Writes.{Settled, is_cut_off_in}
use Rattle.settle_spec.proofs.Examples.Settlings.{all_roots, request, plain, over}
use Rattle.settle_laws.specs.Keeping.PlacesLaws.{CanSettle}
use Rattle.settle_laws.specs.RestLaws.{IsLeftAlone, KeepsParts}
use Rattle.settle_laws.specs.StartLaws.{LieInPlace, OffLieApart}
use Rattle.settle_laws.proofs.Keeping.AgainKept.{all_stand}
use Rattle.settle_laws.proofs.Keeping.AgainSettled.{settled_again}
use Rattle.settle_laws.proofs.AllStand.{all_stay}
use Rattle.settle_laws.proofs.InPlace.{standing_apart, standing_lies}
use Rattle.settle_laws.proofs.Keeping.Moves.{new_system, new_nested}
use Rattle.settle_laws.proofs.Keeping.SettledSound.{settled_sound}
use Rattle.settle_spec.specs.Kept.{Kept, as_it_stands}
use Rattle.settle_spec.specs.Keeping.Writes.{settle_keeping}
use Rattle.settle_laws.proofs.SoundKept.{standing_is_sound}

abbrev asked : Bool → Request
asked anew = record request { anew = anew }

abbrev standing : Bool → Kept
standing anew = as_it_stands (asked anew) start

tree_has_room : (anew : Bool) → lacking (asked anew) start (standing anew) ≡ None
unfolding stands_within window_within holds_within placing_within
tree_has_room true = refl
tree_has_room false = refl

tree_can_settle : (anew : Bool) → CanSettle (asked anew) start (standing anew)
tree_can_settle anew = record {
  lists = refl;
  high = λ r has. elim (in_cons_cases (all_roots 0x100000000 0x1ffffffff) [] r has) [
    | inl is ↦ subst (λ (x : RootRange). x.range.last < 2 ^ 64) is (omega arith)
    | inr none ↦ absurd (in_nil r none)
  ];
  system = tree_is_a_system;
  nested = tree_is_nested;
  profile = tree_is_in_profile;
  chains = tree_has_chains;
  sound = standing_is_sound (asked anew) start tree_is_a_system tree_is_nested tree_is_in_profile;
  room = tree_has_room anew;
}

tree_is_settled : (anew : Bool) → IsSound host (settled (asked anew) start (standing anew))
tree_is_settled anew = settled_sound (asked anew) start (standing anew) (tree_can_settle anew)

-- settled once more it stays as it is,
tree_stays : (anew : Bool)
    → settled (asked anew) (settled (asked anew) start (standing anew)) (as_it_stands (asked anew) (settled (asked anew) start (standing anew))) ≡ settled (asked anew) start (standing anew)
tree_stays anew = settled_again (asked anew) (held_of (asked anew) refl) start (standing anew) (tree_can_settle anew) (all_stand (asked anew) refl start (standing anew) (tree_can_settle anew)) (λ all. refl)

-- and all of it stays, where not all is placed anew
its_parts_stay : (r : FunctionPart) → Contains (system_parts request (settled request start (standing false))) r → IsTrue (stays request (settled request start (standing false)) r)
its_parts_stay r listed =
    let can = tree_can_settle false in
    all_stay request (settled request start (standing false)) (new_system request start (standing false) can) (new_nested request start (standing false) can) (all_stand request refl start (standing false) can refl) r listed

-- so the hypotheses of the laws of a sound start are met
its_parts_lie : LieInPlace request (settled request start (standing false))
its_parts_lie = standing_lies request (settled request start (standing false)) (new_system request start (standing false) (tree_can_settle false)) (tree_is_settled false) (all_stand request refl start (standing false) (tree_can_settle false) refl)

what_is_off_lies_apart : OffLieApart request (settled request start (standing false))
what_is_off_lies_apart = standing_apart request (settled request start (standing false)) (new_system request start (standing false) (tree_can_settle false)) (tree_is_settled false) (all_stand request refl start (standing false) (tree_can_settle false) refl)

-- ---- what settling leaves alone

-- a bridge and a device behind it, both on and where they can stand, beside a device that has to move
abbrev behind : Function
behind = plain (slot 1 0 0) 2 0xe0000000 0xfffff000

abbrev board : System
board = over 2 0xe000e000 ∷ plain (slot 0 2 0) 2 0xe0080000 0xfff80000 ∷ behind ∷ []

one_moves : settle_keeping request board (as_it_stands request board)
    ≡ Settled (write (slot 0 2 0) 0x04 2 0x0000 ∷ write (slot 0 2 0) 0x10 4 0xe0100000 ∷ write (slot 0 2 0) 0x04 2 0x0002 ∷ [])
unfolding stands_within window_within holds_within placing_within is_live_within
one_moves = refl

only_part : (P : Part → Type 0) (part : Part) → P part → (p : Part) → Contains (part ∷ []) p → P p
only_part P part holds p has = elim (in_cons_cases part [] p has) [
  | inl is ↦ subst P is holds
  | inr none ↦ absurd (in_nil p none)
]

nothing_cuts_off : (f : Function) → is_cut_off_in request board f Io ≡ false → is_cut_off_in request board f Memory ≡ false → (space : Space) → IsFalse (is_cut_off_in request board f space)
nothing_cuts_off f io memory Io = io
nothing_cuts_off f io memory Memory = memory

needs_no_window : (c : WindowKind) → IsTrue (is_bridge (over 2 0xe000e000)) → IsTrue (has_of request board c (over 2 0xe000e000)) → IsTrue (is_open (over 2 0xe000e000) c)
needs_no_window IoWindow bridge has = has
needs_no_window MemoryWindow bridge has = refl
needs_no_window PrefetchWindow bridge has = has

bridge_keeps_its_parts : KeepsParts request board (as_it_stands request board) (over 2 0xe000e000)
unfolding stands_within window_within holds_within
bridge_keeps_its_parts = record {
  parts = only_part (λ p. IsTrue (stays request board record { function = over 2 0xe000e000; part = p })) (Window MemoryWindow) refl;
  same = λ p has. refl;
  windows = needs_no_window;
  unwished = λ c. refl;
  reached = nothing_cuts_off (over 2 0xe000e000) refl refl;
}

device_keeps_its_parts : KeepsParts request board (as_it_stands request board) behind
unfolding stands_within window_within holds_within
device_keeps_its_parts = record {
  parts = only_part (λ p. IsTrue (stays request board record { function = behind; part = p })) (Bar 0) refl;
  same = λ p has. refl;
  windows = λ c bridge. absurd (both_ways false refl bridge);
  unwished = λ c. refl;
  reached = nothing_cuts_off behind refl refl;
}

-- so the hypothesis of the laws on what stays is met where something moves
device_is_left_alone : IsLeftAlone request board (as_it_stands request board) behind
device_is_left_alone = record {
  itself = device_keeps_its_parts;
  above = λ b has. elim (in_cons_cases (over 2 0xe000e000) [] b has) [
    | inl is ↦ subst (KeepsParts request board (as_it_stands request board)) is bridge_keeps_its_parts
    | inr none ↦ absurd (in_nil b none)
  ];
  unleft = refl;
}

-- and it isn't of the device that moves: its BAR doesn't stay
moved_one_is_not : IsLeftAlone request board (as_it_stands request board) (plain (slot 0 2 0) 2 0xe0080000 0xfff80000) → ⊥
unfolding stands_within window_within holds_within
moved_one_is_not alone = both_ways false refl (alone.itself.parts (Bar 0) (in_head (Bar 0) []))
